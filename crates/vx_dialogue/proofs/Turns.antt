-- At each question its path and its negated condition are live.
use Rattle.std.proofs.Common.{◌≡◌, ℕ, suc, ◌+◌, Bool, List, [], ◌∷◌, ◌++◌, drop, take, Option, Some, None, refl, sym, ◌∙◌, ap, subst, append_assoc, arith}
use Rattle.std.proofs.lemmas.List.{take-append-drop}
use Rattle.vx_terms.specs.Terms.{Term}
use Rattle.vx_terms.specs.Build.{negate}
use Rattle.vx_smt_meaning.specs.declared.reply.Reply.{Reply}
use Rattle.vx_smt_meaning.specs.Commands.{Declared, Assert, Push, CheckSat, Level, empty_level, stack_from, stack_of, assertions_of, declared_in}
use Rattle.vx_dialogue.specs.Symbols.{with_listed, symbols_of}
use Rattle.vx_dialogue.specs.Preamble.{declarations, preamble}
use Rattle.vx_dialogue.specs.Dialogue.{pushed, base_of, check_of, told_check}
use Rattle.vx_dialogue.proofs.Lists.{none_more, stack_append}
use Rattle.vx_dialogue.proofs.Levels.{declared_level, bare_preamble, bare_asserts, script_more}
use Rattle.vx_segments.specs.Segments.{Entry, terms}
use Rattle.vx_dialogue.specs.Segments.{last_of, missing, sent, depth, pops}
use Rattle.vx_dialogue.specs.Kept.{kept}
use Rattle.vx_dialogue.specs.Scripts.{Scope, Outside, Inside, Left, all_pops, from_outside, onto, said_before, asked, question, posted, ScopedTurn, Asks, Posts, Leaves, left, scope_after, said_of, said_by, scope_from, script}
use Rattle.vx_dialogue.specs.Live.{IsAsked}
use Rattle.vx_dialogue.proofs.Extends.{with_missing}
use Rattle.vx_dialogue.proofs.Entries.{popped, sent_join, gone, undone, Begins, has_level, asserted, declared, listed, pushed_join, pushed_onto}
use Rattle.vx_dialogue.proofs.Kept.{kept_is}

-- the levels of a path over a base
abbrev pub path_levels : List Level → List Entry → List Level
path_levels base p = stack_from (empty_level ∷ base) (sent 0 [] p)

-- the levels where a scope stands
abbrev pub Stands : List Level → Scope → List Level → Type 0
Stands base Outside levels = levels ≡ base
Stands base (Inside old) levels = (q : Level) × (levels ≡ q ∷ path_levels base old)
Stands base (Left old) levels = (q : Level) × (levels ≡ q ∷ path_levels base old)

one_more : (n : ℕ) → n + 1 ≡ suc n
one_more n = omega arith

pub all_gone : (base : List Level) (old : List Entry) (q : Level) → stack_from (q ∷ path_levels base old) (all_pops old) ≡ base
all_gone base old q =
    popped (suc (depth 0 old + 1)) (q ∷ path_levels base old)
    ∙ ap (λ n. drop n (path_levels base old)) (one_more (depth 0 old))
    ∙ gone 0 [] empty_level base old

from_all : (base : List Level) (old new : List Entry) (q : Level) → stack_from (q ∷ path_levels base old) (all_pops old ++ from_outside new) ≡ path_levels base new
from_all base old new q = stack_append (q ∷ path_levels base old) (all_pops old) (from_outside new) ∙ ap (λ x. stack_from x (from_outside new)) (all_gone base old q)

pub joined : (base : List Level) (k : ℕ) (p : List Entry)
    → stack_from (path_levels base (take k p)) (sent (last_of 0 (take k p)) (with_listed [] (terms (take k p))) (drop k p)) ≡ path_levels base p
joined base k p =
    sym (stack_append (empty_level ∷ base) (sent 0 [] (take k p)) (sent (last_of 0 (take k p)) (with_listed [] (terms (take k p))) (drop k p)))
    ∙ ap (stack_from (empty_level ∷ base)) (sym (sent_join 0 [] (take k p) (drop k p)))
    ∙ ap (λ x. stack_from (empty_level ∷ base) (sent 0 [] x)) (take-append-drop k p)

pub cut : (base : List Level) (k : ℕ) (p : List Entry) → Begins (last_of 0 (take k p)) (drop k p)
    → drop (depth (last_of 0 (take k p)) (drop k p)) (path_levels base p) ≡ path_levels base (take k p)
cut base k p h =
    let last = last_of 0 (take k p) in
    let ds = with_listed [] (terms (take k p)) in
    let it = has_level 0 [] empty_level base (take k p) in
    ap (drop (depth last (drop k p))) (sym (joined base k p))
    ∙ ap (λ x. drop (depth last (drop k p)) (stack_from x (sent last ds (drop k p)))) it.is
    ∙ undone last ds it.top it.rest (drop k p) h ∙ sym it.is

onto_kept : (base : List Level) (old new : List Entry) (q : Level) (o : Option ℕ) → kept old new ≡ o → stack_from (q ∷ path_levels base old) (onto old new o) ≡ path_levels base new
onto_kept base old new q None e = from_all base old new q
onto_kept base old new q (Some k) e =
    let good = kept_is old new k e in
    let last = last_of 0 (take k old) in
    let more = sent last (with_listed [] (terms (take k old))) (drop k new) in
    stack_append (q ∷ path_levels base old) (pops (suc (depth last (drop k old)))) more
    ∙ ap (λ x. stack_from x more) (popped (suc (depth last (drop k old))) (q ∷ path_levels base old) ∙ cut base k old good.begins)
    ∙ ap (λ x. stack_from (path_levels base x) (sent (last_of 0 x) (with_listed [] (terms x)) (drop k new))) good.common
    ∙ joined base k new

pub brings : (base : List Level) (scope : Scope) (new : List Entry) (levels : List Level) → Stands base scope levels → stack_from levels (said_before scope new) ≡ path_levels base new
brings base Outside new levels h = ap (λ x. stack_from x (from_outside new)) h
brings base (Inside old) new levels h = ap (λ x. stack_from x (onto old new (kept old new))) h.1 ∙ onto_kept base old new h.0 (kept old new) refl
brings base (Left old) new levels h = ap (λ x. stack_from x (all_pops old ++ from_outside new)) h.1 ∙ from_all base old new h.0

-- a question's own level
abbrev pub own_level : List Entry → Term → Level
own_level p condition = record { sorts = []; symbols = pushed (missing (with_listed [] (terms p)) (negate condition)) []; assertions = negate condition ∷ [] }

pub asked_over : (base : List Level) (p : List Entry) (condition : Term) → stack_from (path_levels base p) (asked p condition) ≡ own_level p condition ∷ path_levels base p
asked_over base p condition =
    let symbols = missing (with_listed [] (terms p)) (negate condition) in
    stack_append (path_levels base p) (Push 1 ∷ declarations symbols) (Assert (negate condition) ∷ [])
    ∙ ap (λ x. stack_from x (Assert (negate condition) ∷ [])) (declared_level empty_level (path_levels base p) symbols)

-- the levels at the check of a question
pub asks : (base : List Level) (scope : Scope) (p : List Entry) (condition : Term) (levels : List Level) → Stands base scope levels
    → stack_from levels (question scope p condition) ≡ own_level p condition ∷ path_levels base p
asks base scope p condition levels h =
    stack_append levels (said_before scope p) (asked p condition) ∙ ap (λ x. stack_from x (asked p condition)) (brings base scope p levels h) ∙ asked_over base p condition

-- and behind it
pub posts : (base : List Level) (scope : Scope) (p : List Entry) (condition : Term) (levels : List Level) → Stands base scope levels
    → stack_from levels (posted scope p condition) ≡ own_level p condition ∷ path_levels base p
posts base scope p condition levels h = stack_append levels (question scope p condition) (CheckSat ∷ []) ∙ ap (λ x. stack_from x (CheckSat ∷ [])) (asks base scope p condition levels h)

live_assertions : (base : List Level) (p : List Entry) (condition : Term)
    → assertions_of (own_level p condition ∷ path_levels base p) ≡ (negate condition ∷ pushed (terms p) []) ++ assertions_of base
live_assertions base p condition = ap (λ x. negate condition ∷ x) (asserted 0 [] empty_level base p ∙ pushed_onto (terms p) [] (assertions_of base))

-- the symbols on the levels of a path
pub path_symbols : (base : List Level) (p : List Entry) → declared_in (path_levels base p) ≡ pushed (with_listed [] (terms p)) [] ++ declared_in base
path_symbols base p =
    declared 0 [] empty_level base p ∙ ap (λ x. pushed x (declared_in base)) (sym (listed [] p)) ∙ pushed_onto (with_listed [] (terms p)) [] (declared_in base)

live_symbols : (base : List Level) (p : List Entry) (condition : Term)
    → declared_in (own_level p condition ∷ path_levels base p) ≡ pushed (symbols_of (terms p) (negate condition)) [] ++ declared_in base
live_symbols base p condition =
    let ds = with_listed [] (terms p) in
    let more = missing ds (negate condition) in
    ap (λ x. pushed more [] ++ x) (path_symbols base p)
    ∙ sym (append_assoc (pushed more []) (pushed ds []) (declared_in base))
    ∙ ap (λ x. x ++ declared_in base) (sym (pushed_onto more [] (pushed ds [])) ∙ sym (pushed_join ds more []) ∙ ap (λ x. pushed x []) (sym (with_missing ds (negate condition))))

pub left_stands : (base : List Level) (scope : Scope) (levels : List Level) → Stands base scope levels → Stands base (left scope) levels
left_stands base Outside levels h = h
left_stands base (Inside old) levels h = h
left_stands base (Left old) levels h = h

pub inside_stands : (base : List Level) (p : List Entry) (q : Level) (levels : List Level) → levels ≡ q ∷ path_levels base p → Stands base (Inside p) levels
inside_stands base p q levels e = (q, e)

is_asked : (base : List Level) (scope : Scope) (p : List Entry) (condition : Term) (levels : List Level) → Stands base scope levels
    → IsAsked base p condition (stack_from levels (question scope p condition))
is_asked base scope p condition levels h =
    let e = asks base scope p condition levels h in
    record { assertions = ap assertions_of e ∙ live_assertions base p condition; symbols = ap declared_in e ∙ live_symbols base p condition }

-- behind a turn, and behind all turns
turn_stands : (base : List Level) (scope : Scope) (levels : List Level) (t : ScopedTurn) → Stands base scope levels → Stands base (scope_after scope t) (stack_from levels (said_of scope t))
turn_stands base scope levels (Asks p condition) h = inside_stands base p (own_level p condition) _ (posts base scope p condition levels h)
turn_stands base scope levels (Posts p condition) h = inside_stands base p (own_level p condition) _ (posts base scope p condition levels h)
turn_stands base scope levels Leaves h = left_stands base scope levels h

pub turns_stand : (base : List Level) (scope : Scope) (levels : List Level) (turns : List ScopedTurn)
    → Stands base scope levels → Stands base (scope_from scope turns) (stack_from levels (said_by scope turns))
turns_stand base scope levels [] h = h
turns_stand base scope levels (t ∷ turns) h =
    subst (Stands base (scope_from (scope_after scope t) turns)) (sym (stack_append levels (said_of scope t) (said_by (scope_after scope t) turns)))
    (turns_stand base (scope_after scope t) (stack_from levels (said_of scope t)) turns (turn_stands base scope levels t h))

pub live : (base : List Level) (turns : List ScopedTurn) (p : List Entry) (condition : Term)
    → IsAsked base p condition (stack_from base (said_by Outside turns ++ question (scope_from Outside turns) p condition))
live base turns p condition =
    subst (IsAsked base p condition) (sym (stack_append base (said_by Outside turns) (question (scope_from Outside turns) p condition)))
    (is_asked base (scope_from Outside turns) p condition (stack_from base (said_by Outside turns)) (turns_stand base Outside base turns refl))

-- the check of a question behind all turns
pub check_is : (c : Bool) (fs : List Declared) (turns : List ScopedTurn) (p : List Entry) (t : Term) (reply : Reply)
    → told_check (stack_of (script c fs (turns ++ Posts p t ∷ []))) reply ≡ check_of (base_of c fs) (terms p) t reply
check_is c fs turns p t reply =
    let base = base_of c fs in
    let scope = scope_from Outside turns in
    let levels : stack_of (script c fs (turns ++ Posts p t ∷ [])) ≡ own_level p t ∷ path_levels base p =
    ap stack_of (script_more c fs turns (Posts p t))
    ∙ stack_append (empty_level ∷ []) (script c fs turns) (posted scope p t)
    ∙ ap (λ x. stack_from x (posted scope p t)) (stack_append (empty_level ∷ []) (preamble c fs) (said_by Outside turns))
    ∙ posts base scope p t (stack_from base (said_by Outside turns)) (turns_stand base Outside base turns refl) in
    let symbols = ap declared_in levels ∙ live_symbols base p t in
    let asserts = ap assertions_of levels ∙ live_assertions base p t ∙ ap (λ x. (negate t ∷ pushed (terms p) []) ++ x) (bare_asserts base (bare_preamble c fs)) ∙ none_more (negate t ∷ pushed (terms p) []) in
    λ i. record { symbols = symbols i; assertions = asserts i; reply = Some reply }
