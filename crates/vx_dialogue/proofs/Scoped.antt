-- The script is well formed where each of its questions is, sent whole; so that of askable questions is.
use Rattle.std.proofs.Common.{◌≡◌, ℕ, suc, ◌+◌, ◌<◌, Bool, true, List, [], ◌∷◌, ◌++◌, drop, take, length, map, Option, Some, None, refl, sym, ◌∙◌, ap, subst, arith}
use Rattle.vx_terms.specs.Sorts.{BoolSort}
use Rattle.vx_terms.specs.Terms.{Term, Truth, sort_of}
use Rattle.vx_terms.specs.Build.{negate}
use Rattle.vx_terms.specs.Interpretations.{Each}
use Rattle.vx_smt_meaning.specs.Commands.{Declared, CheckSat, Level, empty_level, stack_from}
use Rattle.vx_smt_meaning.specs.Names.{AreCommands}
use Rattle.vx_smt_meaning.specs.Over.{IsOver}
use Rattle.vx_smt_meaning.specs.Standard.{standard_symbols}
use Rattle.vx_smt_meaning.specs.WellFormed.{AllMayFollow, IsWellFormed}
use Rattle.vx_segments.specs.Segments.{Entry, terms}
use Rattle.vx_dialogue.specs.Askable.{IsAskable, AreTurns, AreAskable}
use Rattle.vx_dialogue.specs.Symbols.{with_listed}
use Rattle.vx_dialogue.specs.Preamble.{preamble}
use Rattle.vx_dialogue.specs.Dialogue.{base_of}
use Rattle.vx_dialogue.specs.Segments.{last_of, sent, depth, pops}
use Rattle.vx_dialogue.specs.Kept.{kept}
use Rattle.vx_dialogue.specs.Scripts.{Scope, Outside, Inside, Left, all_pops, from_outside, onto, said_before, asked, question, posted, ScopedTurn, Asks, Posts, Leaves, plain, left, said_by, script}
use Rattle.vx_dialogue.proofs.Whole as whole
use Rattle.vx_dialogue.proofs.Steady.{commands_join}
use Rattle.vx_dialogue.proofs.Levels.{bare_preamble}
use Rattle.vx_dialogue.proofs.Fit.{preamble_fits, question_fits}
use Rattle.vx_dialogue.proofs.Entries.{popped, has_level}
use Rattle.vx_dialogue.proofs.Kept.{kept_is}
use Rattle.vx_dialogue.proofs.Turns.{path_levels, Stands, all_gone, joined, cut, brings, own_level, posts, path_symbols, left_stands, inside_stands}
use Rattle.vx_dialogue.proofs.Follows.{follow_join, MayCome, AllMayCome, Shows, shows_opened, put_follows, sent_follows, same_sorts, length_sent, pops_follow}
use Rattle.vx_dialogue.proofs.Spelled.{posted_spelled}
use Rattle.vx_dialogue.proofs.Comes.{whole_named, whole_path, whole_negated, negated_comes, entries_come}

-- the levels of a path declare its symbols
path_shows : (base : List Level) (p : List Entry) → Shows base (with_listed [] (terms p)) (path_levels base p)
path_shows base p = record { symbols = path_symbols base p; sorts = same_sorts 0 [] empty_level base p }

-- ---- there are levels for all pops

cut_length : (base : List Level) (k : ℕ) (p : List Entry) → length (path_levels base p) ≡ depth (last_of 0 (take k p)) (drop k p) + length (path_levels base (take k p))
cut_length base k p =
    let last = last_of 0 (take k p) in
    let ds = with_listed [] (terms (take k p)) in
    let it = has_level 0 [] empty_level base (take k p) in
    ap length (sym (joined base k p))
    ∙ ap (λ x. length (stack_from x (sent last ds (drop k p)))) it.is
    ∙ length_sent last ds it.top it.rest (drop k p)
    ∙ ap (λ x. depth last (drop k p) + length x) (sym it.is)

room_for_all : (base : List Level) (old : List Entry) (q : Level) → 0 < length base → suc (depth 0 old + 1) < length (q ∷ path_levels base old)
room_for_all base old q some =
    let all : length (path_levels base old) ≡ depth 0 old + suc (length base) = length_sent 0 [] empty_level base old in
    omega arith

room_for_some : (base : List Level) (k : ℕ) (old : List Entry) (q : Level) → 0 < length base → suc (depth (last_of 0 (take k old)) (drop k old)) < length (q ∷ path_levels base old)
room_for_some base k old q some =
    let all = cut_length base k old in
    let first : length (path_levels base (take k old)) ≡ depth 0 (take k old) + suc (length base) = length_sent 0 [] empty_level base (take k old) in
    omega arith

-- ---- a question

-- what each question may rely on: its entries may come, behind any first ones, and then its negated condition
record Comes (base : List Level) (p : List Entry) (condition : Term) : Type 0 where
  entries : (k : ℕ) → AllMayCome base (with_listed [] (terms (take k p))) (drop k p)
  negated : MayCome base (with_listed [] (terms p)) (negate condition)

module _ (base : List Level) (some : 0 < length base) (p : List Entry) (condition : Term) (comes : Comes base p condition) where
  outside_follows : AllMayFollow base (from_outside p)
  outside_follows = (tt, sent_follows base p 0 [] empty_level base (comes.entries 0) (record { symbols = refl; sorts = refl }))

  all_follow : (old : List Entry) (q : Level) → AllMayFollow (q ∷ path_levels base old) (all_pops old ++ from_outside p)
  all_follow old q =
      follow_join (q ∷ path_levels base old) (all_pops old) (from_outside p) (pops_follow (suc (depth 0 old + 1)) (q ∷ path_levels base old) (room_for_all base old q some))
      (subst (λ x. AllMayFollow x (from_outside p)) (sym (all_gone base old q)) outside_follows)

  rest_follows : (k : ℕ) → AllMayFollow (path_levels base (take k p)) (sent (last_of 0 (take k p)) (with_listed [] (terms (take k p))) (drop k p))
  rest_follows k =
      let ds = with_listed [] (terms (take k p)) in
      let it = has_level 0 [] empty_level base (take k p) in
      subst (λ x. AllMayFollow x (sent (last_of 0 (take k p)) ds (drop k p))) (sym it.is)
      (sent_follows base (drop k p) (last_of 0 (take k p)) ds it.top it.rest (comes.entries k) (subst (Shows base ds) it.is (path_shows base (take k p))))

  onto_follows : (old : List Entry) (q : Level) (o : Option ℕ) → kept old p ≡ o → AllMayFollow (q ∷ path_levels base old) (onto old p o)
  onto_follows old q None e = all_follow old q
  onto_follows old q (Some k) e =
      let good = kept_is old p k e in
      let n = suc (depth (last_of 0 (take k old)) (drop k old)) in
      let more = sent (last_of 0 (take k old)) (with_listed [] (terms (take k old))) (drop k p) in
      follow_join (q ∷ path_levels base old) (pops n) more (pops_follow n (q ∷ path_levels base old) (room_for_some base k old q some))
      (subst (λ x. AllMayFollow x more) (sym (popped n (q ∷ path_levels base old) ∙ cut base k old good.begins))
      (subst (λ x. AllMayFollow (path_levels base x) (sent (last_of 0 x) (with_listed [] (terms x)) (drop k p))) (sym good.common) (rest_follows k)))

  before_follows : (scope : Scope) (levels : List Level) → Stands base scope levels → AllMayFollow levels (said_before scope p)
  before_follows Outside levels h = subst (λ x. AllMayFollow x (from_outside p)) (sym h) outside_follows
  before_follows (Inside old) levels h = subst (λ x. AllMayFollow x (onto old p (kept old p))) (sym h.1) (onto_follows old h.0 (kept old p) refl)
  before_follows (Left old) levels h = subst (λ x. AllMayFollow x (all_pops old ++ from_outside p)) (sym h.1) (all_follow old h.0)

  posted_follows : (scope : Scope) (levels : List Level) → Stands base scope levels → AllMayFollow levels (posted scope p condition)
  posted_follows scope levels h =
      let ds = with_listed [] (terms p) in
      let own : AllMayFollow (path_levels base p) (asked p condition) =
      (tt, put_follows base ds (negate condition) empty_level (path_levels base p) comes.negated (shows_opened base ds (path_levels base p) (path_shows base p))) in
      follow_join levels (question scope p condition) (CheckSat ∷ [])
      (follow_join levels (said_before scope p) (asked p condition) (before_follows scope levels h) (subst (λ x. AllMayFollow x (asked p condition)) (sym (brings base scope p levels h)) own)) (tt, tt)

-- ---- all turns

module _ (c : Bool) (fs : List Declared) (P : List Term → Term → Type 0) (first : IsWellFormed (preamble c fs)) (fits : (p : List Term) (t : Term) → P p t → IsWellFormed (preamble c fs ++ whole.question p t))
    (begins : (xs ys : List Term) (t : Term) → P (xs ++ ys) t → P xs (Truth true)) where
  abbrev base : List Level
  base = base_of c fs

  some : 0 < length (base_of c fs)
  some = let one = ap length (bare_preamble c fs).is in omega arith

  question_comes : (p : List Entry) (condition : Term) → P (terms p) condition → Comes base p condition
  question_comes p condition q =
      record { entries = λ k. entries_come c fs P fits begins condition p k q; negated = negated_comes c fs (terms p) condition (fits (terms p) condition q) }

  behind : (scope : Scope) (p : List Entry) (condition : Term) (levels : List Level) → Stands base scope levels → Stands base (Inside p) (stack_from levels (posted scope p condition))
  behind scope p condition levels h = inside_stands base p (own_level p condition) _ (posts base scope p condition levels h)

  said_follows : (scope : Scope) (levels : List Level) (turns : List ScopedTurn) → Stands base scope levels → AreTurns P (map plain turns) → AllMayFollow levels (said_by scope turns)
  said_follows scope levels [] h fine = tt
  said_follows scope levels (Asks p condition ∷ turns) h fine =
      follow_join levels (posted scope p condition) (said_by (Inside p) turns) (posted_follows base some p condition (question_comes p condition fine.0) scope levels h)
      (said_follows (Inside p) _ turns (behind scope p condition levels h) fine.1)
  said_follows scope levels (Posts p condition ∷ turns) h fine =
      follow_join levels (posted scope p condition) (said_by (Inside p) turns) (posted_follows base some p condition (question_comes p condition fine.0) scope levels h)
      (said_follows (Inside p) _ turns (behind scope p condition levels h) (subst (AreTurns P) (sym fine.1) tt))
  said_follows scope levels (Leaves ∷ turns) h fine = said_follows (left scope) levels turns (left_stands base scope levels h) fine

  question_spelled : (scope : Scope) (p : List Entry) (condition : Term) → P (terms p) condition → AreCommands (posted scope p condition)
  question_spelled scope p condition q =
      let it = fits (terms p) condition q in
      posted_spelled scope p (terms p) condition refl (whole_named c fs (terms p) condition it) (whole_path c fs (terms p) condition it) (whole_negated c fs (terms p) condition it)

  said_spelled : (scope : Scope) (turns : List ScopedTurn) → AreTurns P (map plain turns) → AreCommands (said_by scope turns)
  said_spelled scope [] fine = tt
  said_spelled scope (Asks p condition ∷ turns) fine =
      commands_join (posted scope p condition) (said_by (Inside p) turns) (question_spelled scope p condition fine.0) (said_spelled (Inside p) turns fine.1)
  said_spelled scope (Posts p condition ∷ turns) fine =
      commands_join (posted scope p condition) (said_by (Inside p) turns) (question_spelled scope p condition fine.0)
      (said_spelled (Inside p) turns (subst (AreTurns P) (sym fine.1) tt))
  said_spelled scope (Leaves ∷ turns) fine = said_spelled (left scope) turns fine

  -- Where each whole question is well formed behind the preamble, and each beginning of a question is one, the script of any turns is.
  pub scoped_well_formed : (turns : List ScopedTurn) → AreTurns P (map plain turns) → IsWellFormed (script c fs turns)
  scoped_well_formed turns fine = record {
    spelled = commands_join (preamble c fs) (said_by Outside turns) first.spelled (said_spelled Outside turns fine);
    in_order = follow_join (empty_level ∷ []) (preamble c fs) (said_by Outside turns) first.in_order (said_follows Outside base turns refl fine);
  }

-- ---- askable questions

each_front : (P : Term → Type 0) (xs ys : List Term) → Each P (xs ++ ys) → Each P xs
each_front P [] ys e = tt
each_front P (x ∷ xs) ys e = (e.0, each_front P xs ys e.1)

-- the beginning of an askable path, before a condition that is always met
beginning_askable : (xs ys : List Term) (t : Term) → IsAskable (xs ++ ys) t → IsAskable xs (Truth true)
beginning_askable xs ys t q = record {
  sorts = q.sorts;
  five = q.five;
  path_over = each_front (IsOver standard_symbols q.sorts) xs ys q.path_over;
  over = tt;
  path_bool = each_front (λ (u : Term). sort_of u ≡ BoolSort) xs ys q.path_bool;
  bool = refl;
}

pub well_formed : (c : Bool) (turns : List ScopedTurn) → AreAskable (map plain turns) → IsWellFormed (script c [] turns)
well_formed c = scoped_well_formed c [] IsAskable (preamble_fits c) (question_fits c) beginning_askable
