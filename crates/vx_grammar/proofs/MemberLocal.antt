-- Reading members looks no further than the token at which it stops.
use Rattle.std.proofs.Common.{◌≡◌, ℕ, ◌+◌, not, ◌&&◌, ◌-◌, ◌≤◌, List, [], ◌∷◌, ◌++◌, Some, None, Ok, Err, length, refl, sym, ap, subst, ◌∙◌, append_assoc, arith, Bool, true, false, cond, leb, inl, inr}
use Rattle.std.proofs.lemmas.Bool.{leb-true, le-leb}
use Rattle.vx_ast.specs.declared.Place.{Place}
use Rattle.vx_ast.specs.Written.{Expr, Declaration, Member}
use Rattle.vx_tokens.specs.declared.token.Symbol.TheVariants as signs
use Rattle.vx_tokens.specs.declared.token.Word.TheVariants as words
use Rattle.vx_tokens.specs.Tokens.{Token, Kind, word}
use Rattle.vx_grammar.specs.Grammar.{Mark}
use Rattle.vx_grammar.specs.Reading.{◌>>=◌, Read, Unexpected, Measured, TooDeep, is_symbol, expect, choice, choice_at, below, name_at}
use Rattle.vx_grammar.specs.StmtReading.{is_measure, begins_decreases, clause_at, type_at, declaration_at, block_at, stmts_below, skip_semicolon}
use Rattle.vx_grammar.specs.MemberReading.{limit, stopped, bodiless, measured_twice, Halting, halting, Head, head_at, function_by, no_body_at, behind_head, function_at, Clauses, no_clauses, with_requires, with_ensures, with_measure, begins_requires, begins_ensures, clause_turn, clauses_at, begins_braces, braced_at, some_braced, given_at, predicate_at, some_block, body_at, method_at, field_at, member_by, member_at, declaration_turn, declarations_at, inner_parameters_at, parameters_at, begins_returns, returns_at}
use Rattle.vx_grammar.proofs.Tells.{Tells}
use Rattle.vx_grammar.proofs.Steps.{TurnFor}
use Rattle.vx_grammar.proofs.MemberTold.{DeclarationStep, turn_tells}
use Rattle.vx_grammar.proofs.MethodTold.{ClauseStep, clause_turn_tells}
use Rattle.vx_grammar.proofs.Local.{Local, LocalBy, Front, Heads, SameHead, SameAtClause, heads_behind, same_behind, at_same, at_clause, at_end, not_symbol, local_ok_by, local_by_then, local_made, local_clauses, front_same, local_expect, local_ok, local_measured, local_end, local_end_unexpected, local_return, local_token, local_then, local_same}
use Rattle.vx_grammar.proofs.RunLocal.{Turns, LocalTurn, local_turn, turn_over, run_local, taken_short, taken_none}
use Rattle.vx_grammar.proofs.LocalExpr.{reading_local, nested_local}
use Rattle.vx_grammar.proofs.StmtLocal.{type_local, declaration_local, block_reading_local}
use Rattle.vx_grammar.proofs.LocalParts.{name_local, bracket_local}

-- ---- declarations

by_comma : (before : List Declaration) (t : Token) (ts : List Token) (b : Bool) → is_symbol signs.Comma t.kind ≡ b → Local (t ∷ ts) (cond b (declaration_at ts >>= λ d. Ok (Some (before ++ d.0 ∷ []), d.1)) (Ok (None, t ∷ ts))) (declaration_turn before)
unfolding declaration_turn
by_comma before t ts true e = local_token t ts (declaration_at ts >>= λ d. Ok (Some (before ++ d.0 ∷ []), d.1)) (λ l. declaration_at l >>= λ d. Ok (Some (before ++ d.0 ∷ []), d.1)) (declaration_turn before) (λ l. rw e refl) (local_then ts (declaration_at ts) declaration_at _ _ (declaration_local ts) (λ d us. local_return us _))
by_comma before t ts false e = local_ok t ts None (declaration_turn before) (λ more. rw e refl) (λ p more. refl) (λ p more. refl)

declaration_turn_local : (before : List Declaration) (ts : List Token) → Local ts (declaration_turn before ts) (declaration_turn before)
unfolding declaration_turn
declaration_turn_local before [] = local_end None (declaration_turn before) refl
declaration_turn_local before (t ∷ ts) = by_comma before t ts (is_symbol signs.Comma t.kind) refl

declaration_turns : Turns true declaration_turn declaration_turn
unfolding declaration_turn
declaration_turns = record {
  local = λ s ts. local_turn true ts _ _ (declaration_turn_local s ts);
  short = λ s t ts mid e. taken_short (TurnFor (DeclarationStep 0) s) 0 ts (Some t) mid (λ ms (p, d, v, z). rw z (omega arith)) (subst (Tells (TurnFor (DeclarationStep 0) s) 0 ts) e (turn_tells 0 0 (omega arith) s ts));
  same = λ s ts mid e. taken_none (TurnFor (DeclarationStep 0) s) 0 ts None mid (λ ms z. z) (subst (Tells (TurnFor (DeclarationStep 0) s) 0 ts) e (turn_tells 0 0 (omega arith) s ts));
  empty = λ s. refl;
}

declarations_local : (ts : List Token) → Local ts (declarations_at ts) declarations_at
unfolding declarations_at
declarations_local ts = local_then ts (declaration_at ts) declaration_at _ _ (declaration_local ts) (λ d us. run_local true declaration_turn declaration_turn declaration_turns (d ∷ []) us)

by_closing : (t : Token) (ts : List Token) (b : Bool) → is_symbol signs.Close t.kind ≡ b → Local (t ∷ ts) (cond b (Ok ([], t ∷ ts)) (declarations_at (t ∷ ts))) inner_parameters_at
unfolding inner_parameters_at
by_closing t ts true e = local_ok_by t ts [] inner_parameters_at (λ more. rw e refl) (λ d. not_symbol signs.Close t.kind e d)
by_closing t ts false e = local_same t ts (declarations_at (t ∷ ts)) declarations_at inner_parameters_at (λ l. rw e refl) (λ d. at_clause declarations_at inner_parameters_at (λ p l. refl) (λ p l. refl)) (declarations_local (t ∷ ts))

end_of_declarations : declarations_at [] ≡ Err (Unexpected [])
unfolding declarations_at declaration_at name_at
end_of_declarations = refl

inner_local : (ts : List Token) → Local ts (inner_parameters_at ts) inner_parameters_at
unfolding inner_parameters_at
inner_local [] = subst (λ r. Local [] r inner_parameters_at) (sym end_of_declarations) (local_end_unexpected inner_parameters_at end_of_declarations)
inner_local (t ∷ ts) = by_closing t ts (is_symbol signs.Close t.kind) refl

parameters_local : (ts : List Token) → Local ts (parameters_at ts) parameters_at
unfolding parameters_at
parameters_local ts = bracket_local signs.Open signs.Close (λ here us. inner_parameters_at us) (λ here us. inner_parameters_at us) (λ here us heres. inner_local us) ts

by_returns : (t : Token) (ts : List Token) (b : Bool) → begins_returns t.kind ≡ b → Local (t ∷ ts) (cond b (parameters_at ts) (Ok ([], t ∷ ts))) returns_at
unfolding returns_at
by_returns t ts true e = local_token t ts (parameters_at ts) parameters_at returns_at (λ l. rw e refl) (parameters_local ts)
by_returns t ts false e = local_ok t ts [] returns_at (λ more. rw e refl) (λ p more. refl) (λ p more. refl)

returns_local : (ts : List Token) → Local ts (returns_at ts) returns_at
unfolding returns_at
returns_local [] = local_end [] returns_at refl
returns_local (t ∷ ts) = by_returns t ts (begins_returns t.kind) refl

-- ---- clauses

local_eq : {A : Type 0} (ts : List Token) (r : Read A) (reader other : List Token → Read A) → ((l : List Token) → other l ≡ reader l) → Local ts r reader → Local ts r other
local_eq ts (Ok x) reader other h f = record { front = f.front; is = f.is; repeats = λ next same. h (f.front ++ next) ∙ f.repeats next same }
local_eq ts (Err (Unexpected rest)) reader other h f = record { front = f.front; is = f.is; repeats = λ next same. h (f.front ++ next) ∙ f.repeats next same }
local_eq ts (Err (Measured rest)) reader other h f = record { front = f.front; is = f.is; repeats = λ next same. h (f.front ++ next) ∙ f.repeats next same }
local_eq ts (Err (TooDeep rest)) reader other h f = tt

clause_by_local : (more before : ℕ) (here ts : List Token) (heres : List Token → List Token) (b : Bool) → leb before limit ≡ b → Local ts (cond b (choice_at (below (limit - before)) ts) (Err (TooDeep here))) (λ l. clause_at (limit + more) before (heres l) l)
unfolding clause_at
clause_by_local more before here ts heres true h =
    let le : before ≤ limit = leb-true _ _ h in
    let b : leb before (limit + more) ≡ true = le-leb _ _ (omega (arith, le)) in
    let room : (limit + more) - before ≡ (limit - before) + more = omega (arith, le) in
    local_eq ts (choice_at (below (limit - before)) ts) (choice_at (below ((limit - before) + more))) (λ l. clause_at (limit + more) before (heres l) l) (λ l. rw (b, room) refl) (reading_local (limit - before) more ts)
clause_by_local more before here ts heres false h = tt

clause_local : (more before : ℕ) (here ts : List Token) (heres : List Token → List Token) → Local ts (clause_at limit before here ts) (λ l. clause_at (limit + more) before (heres l) l)
unfolding clause_at
clause_local more before here ts heres = clause_by_local more before here ts heres (leb before limit) refl

by_semicolon : {A : Type 0} (v : A) (t : Token) (ts : List Token) (b : Bool) → is_symbol signs.Semicolon t.kind ≡ b → Local (t ∷ ts) (Ok (v, cond b ts (t ∷ ts))) (λ l. Ok (v, skip_semicolon l))
by_semicolon v t ts true e = local_token t ts (Ok (v, ts)) (λ l. Ok (v, l)) (λ l. Ok (v, skip_semicolon l)) (λ l. rw e refl) (local_return ts v)
by_semicolon v t ts false e = local_ok t ts v (λ l. Ok (v, skip_semicolon l)) (λ more. rw e refl) (λ p more. refl) (λ p more. refl)

pub skip_local : {A : Type 0} (v : A) (ts : List Token) → Local ts (Ok (v, skip_semicolon ts)) (λ l. Ok (v, skip_semicolon l))
skip_local v [] = local_end v (λ l. Ok (v, skip_semicolon l)) refl
skip_local v (t ∷ ts) = by_semicolon v t ts (is_symbol signs.Semicolon t.kind) refl

-- one clause, and its semicolon
one_local : (more before : ℕ) (make : Expr → Clauses) (here ts : List Token) (heres : List Token → List Token) → Local ts (clause_at limit before here ts >>= λ e. Ok (Some (make e.0), skip_semicolon e.1)) (λ l. clause_at (limit + more) before (heres l) l >>= λ e. Ok (Some (make e.0), skip_semicolon e.1))
one_local more before make here ts heres = local_then ts (clause_at limit before here ts) (λ l. clause_at (limit + more) before (heres l) l) _ _ (clause_local more before here ts heres) (λ e us. skip_local (Some (make e)) us)

by_clause : (more : ℕ) (may : Bool) (before : Clauses) (t : Token) (ts : List Token) (r k d : Bool) → begins_requires t.kind ≡ r → begins_ensures t.kind ≡ k → may && not before.measured && is_measure t.kind ≡ d
    → LocalTurn false (t ∷ ts) (cond r (clause_at limit before.requires (t ∷ ts) ts >>= λ e. Ok (Some (with_requires before e.0), skip_semicolon e.1)) (cond k (clause_at limit before.ensures (t ∷ ts) ts >>= λ e. Ok (Some (with_ensures before e.0), skip_semicolon e.1)) (cond d (clause_at limit 0 (t ∷ ts) ts >>= λ e. Ok (Some (with_measure before e.0), skip_semicolon e.1)) (Ok (None, t ∷ ts))))) (clause_turn (limit + more) may before)
unfolding clause_turn
by_clause more may before t ts true k d h g f = local_turn false (t ∷ ts) _ (clause_turn (limit + more) may before) (local_token t ts _ (λ l. clause_at (limit + more) before.requires (t ∷ l) l >>= λ e. Ok (Some (with_requires before e.0), skip_semicolon e.1)) (clause_turn (limit + more) may before) (λ l. rw h refl) (one_local more before.requires (with_requires before) (t ∷ ts) ts (λ l. t ∷ l)))
by_clause more may before t ts false true d h g f = local_turn false (t ∷ ts) _ (clause_turn (limit + more) may before) (local_token t ts _ (λ l. clause_at (limit + more) before.ensures (t ∷ l) l >>= λ e. Ok (Some (with_ensures before e.0), skip_semicolon e.1)) (clause_turn (limit + more) may before) (λ l. rw (h, g) refl) (one_local more before.ensures (with_ensures before) (t ∷ ts) ts (λ l. t ∷ l)))
by_clause more may before t ts false false true h g f = local_turn false (t ∷ ts) _ (clause_turn (limit + more) may before) (local_token t ts _ (λ l. clause_at (limit + more) 0 (t ∷ l) l >>= λ e. Ok (Some (with_measure before e.0), skip_semicolon e.1)) (clause_turn (limit + more) may before) (λ l. rw (h, g, f) refl) (one_local more 0 (with_measure before) (t ∷ ts) ts (λ l. t ∷ l)))
by_clause more may before t ts false false false h g f = turn_over t ts (clause_turn (limit + more) may before) (λ l. rw (h, g, f) refl)

clause_turn_local : (more : ℕ) (may : Bool) (before : Clauses) (ts : List Token) → LocalTurn false ts (clause_turn limit may before ts) (clause_turn (limit + more) may before)
unfolding clause_turn
clause_turn_local more may before [] = local_turn false [] (Ok (None, [])) (clause_turn (limit + more) may before) (local_end None (clause_turn (limit + more) may before) refl)
clause_turn_local more may before (t ∷ ts) = by_clause more may before t ts (begins_requires t.kind) (begins_ensures t.kind) (may && not before.measured && is_measure t.kind) refl refl refl

clause_long : (may : Bool) (s t : Clauses) (ms : List Mark) → ClauseStep may s t ms → 1 ≤ length ms
clause_long may s t ms (inl c) = rw c.spelled (omega arith)
clause_long may s t ms (inr (inl c)) = rw c.spelled (omega arith)
clause_long may s t ms (inr (inr c)) = rw c.one.spelled (omega arith)

clause_turns : (more : ℕ) (may : Bool) → Turns false (clause_turn limit may) (clause_turn (limit + more) may)
unfolding clause_turn
clause_turns more may = record {
  local = clause_turn_local more may;
  short = λ s t ts mid e. taken_short (TurnFor (ClauseStep may) s) limit ts (Some t) mid (clause_long may s t) (subst (Tells (TurnFor (ClauseStep may) s) limit ts) e (clause_turn_tells may s ts));
  same = λ s ts mid e. taken_none (TurnFor (ClauseStep may) s) limit ts None mid (λ ms z. z) (subst (Tells (TurnFor (ClauseStep may) s) limit ts) e (clause_turn_tells may s ts));
  empty = λ s. refl;
}

clauses_local : (more : ℕ) (may : Bool) (ts : List Token) → LocalBy false ts (clauses_at limit may ts) (clauses_at (limit + more) may)
unfolding clauses_at
clauses_local more may ts = run_local false (clause_turn limit may) (clause_turn (limit + more) may) (clause_turns more may) no_clauses ts

-- ---- bodies

braced_local : (more : ℕ) (ts : List Token) → Local ts (braced_at limit ts) (braced_at (limit + more))
unfolding braced_at
braced_local more ts = bracket_local signs.OpenBrace signs.CloseBrace (λ here us. below limit choice here us) (λ here us. below (limit + more) choice here us) (λ here us heres. nested_local limit more choice here us heres) ts

some_braced_local : (more : ℕ) (ts : List Token) → Local ts (some_braced limit ts) (some_braced (limit + more))
unfolding some_braced
some_braced_local more ts = local_then ts (braced_at limit ts) (braced_at (limit + more)) _ _ (braced_local more ts) (λ e us. local_return us _)

some_block_local : (more : ℕ) (ts : List Token) → Local ts (some_block limit ts) (some_block (limit + more))
unfolding some_block
some_block_local more ts = local_then ts (block_at (stmts_below limit) ts) (block_at (stmts_below (limit + more))) _ _ (block_reading_local limit more ts) (λ b us. local_return us _)

given_by_local : (more : ℕ) (t : Token) (ts : List Token) (b : Bool) → is_symbol signs.OpenBrace t.kind ≡ b → Local (t ∷ ts) (cond b (some_braced limit (t ∷ ts)) (Ok (None, t ∷ ts))) (given_at (limit + more))
unfolding given_at
given_by_local more t ts true e = local_same t ts (some_braced limit (t ∷ ts)) (some_braced (limit + more)) (given_at (limit + more)) (λ l. rw e refl) (λ d. not_symbol signs.OpenBrace t.kind e d) (some_braced_local more (t ∷ ts))
given_by_local more t ts false e = local_ok t ts None (given_at (limit + more)) (λ l. rw e refl) (λ p more. refl) (λ p more. refl)

given_local : (more : ℕ) (ts : List Token) → Local ts (given_at limit ts) (given_at (limit + more))
unfolding given_at
given_local more [] = local_end None (given_at (limit + more)) refl
given_local more (t ∷ ts) = given_by_local more t ts (is_symbol signs.OpenBrace t.kind) refl

body_by_local : (more : ℕ) (t : Token) (ts : List Token) (b d : Bool) → is_symbol signs.OpenBrace t.kind ≡ b → is_measure t.kind ≡ d → Local (t ∷ ts) (cond b (some_block limit (t ∷ ts)) (cond d (Err (Measured (t ∷ ts))) (Ok (None, t ∷ ts)))) (body_at (limit + more))
unfolding body_at
body_by_local more t ts true d e f = local_same t ts (some_block limit (t ∷ ts)) (some_block (limit + more)) (body_at (limit + more)) (λ l. rw e refl) (λ m. not_symbol signs.OpenBrace t.kind e m) (some_block_local more (t ∷ ts))
body_by_local more t ts false true e f = local_measured t ts (body_at (limit + more)) (λ l. rw (e, f) refl)
body_by_local more t ts false false e f = local_ok t ts None (body_at (limit + more)) (λ l. rw (e, f) refl) (λ p more. refl) (λ p more. refl)

body_local : (more : ℕ) (ts : List Token) → Local ts (body_at limit ts) (body_at (limit + more))
unfolding body_at
body_local more [] = local_end None (body_at (limit + more)) refl
body_local more (t ∷ ts) = body_by_local more t ts (is_symbol signs.OpenBrace t.kind) (is_measure t.kind) refl refl

-- ---- predicates and methods

predicate_local : (more : ℕ) (place : Place) (ts : List Token) → Local ts (predicate_at limit place ts) (predicate_at (limit + more) place)
unfolding predicate_at
predicate_local more place ts =
    local_then ts (name_at ts) name_at _ _ (name_local ts) (λ x us.
    local_then us (parameters_at us) parameters_at _ _ (parameters_local us) (λ ps vs.
    local_then vs (given_at limit vs) (given_at (limit + more)) _ _ (given_local more vs) (λ b ws. local_return ws _)))

-- a measure is no brace
no_braces : (ts : List Token) → begins_decreases ts ≡ true → begins_braces ts ≡ false
no_braces [] h = refl
no_braces (t ∷ ts) h = by_kind t.kind h
  where
    by_kind : (k : Kind) → is_measure k ≡ true → is_symbol signs.OpenBrace k ≡ false
    by_kind (word words.Decreases) h = refl
    by_kind k h = absurd cc

method_local : (more : ℕ) (place : Place) (ts : List Token) → Local ts (method_at limit place ts) (method_at (limit + more) place)
unfolding method_at body_at
method_local more place ts =
    local_then ts (name_at ts) name_at _ _ (name_local ts) (λ x us.
    local_then us (parameters_at us) parameters_at _ _ (parameters_local us) (λ ps vs.
    local_then vs (returns_at vs) returns_at _ _ (returns_local vs) (λ rs ws.
    local_clauses ws (clauses_at limit false ws) (clauses_at (limit + more) false) _ _ (clauses_local more false ws) (λ c xs d. rw (no_braces xs d, d) refl) (λ c xs.
    local_then xs (body_at limit xs) (body_at (limit + more)) _ _ (body_local more xs) (λ b ys. local_return ys _)))))

-- ---- members, with the stop of each

-- as Local, for what may stop for want of a body
abbrev pub HaltingLocal : {A : Type 0} → List Token → Halting A → (List Token → Halting A) → Type 0
HaltingLocal ts (Ok x) reader = Front true ts x.1 (λ l. Ok (x.0, l)) reader
HaltingLocal ts (Err (stopped (Unexpected rest))) reader = Front true ts rest (λ l. Err (stopped (Unexpected l))) reader
HaltingLocal ts (Err (stopped (Measured rest))) reader = Front false ts rest (λ l. Err (stopped (Measured l))) reader
HaltingLocal ts (Err (stopped (TooDeep rest))) reader = Unit {0}
HaltingLocal ts (Err (bodiless rest)) reader = Front false ts rest (λ l. Err (bodiless l)) reader
HaltingLocal ts (Err (measured_twice rest)) reader = Front false ts rest (λ l. Err (measured_twice l)) reader

halting_local : {A : Type 0} (ts : List Token) (r : Read A) (reader : List Token → Read A) → Local ts r reader → HaltingLocal ts (halting r) (λ l. halting (reader l))
halting_local ts (Ok x) reader f = record { front = f.front; is = f.is; repeats = λ next same. ap halting (f.repeats next same) }
halting_local ts (Err (Unexpected rest)) reader f = record { front = f.front; is = f.is; repeats = λ next same. ap halting (f.repeats next same) }
halting_local ts (Err (Measured rest)) reader f = record { front = f.front; is = f.is; repeats = λ next same. ap halting (f.repeats next same) }
halting_local ts (Err (TooDeep rest)) reader f = tt

halting_same : {A : Type 0} (t : Token) (ts : List Token) (r : Halting A) (reader other : List Token → Halting A) → ((l : List Token) → reader (t ∷ l) ≡ other (t ∷ l)) → (t.kind ≡ word words.Decreases → SameAtClause reader other) → HaltingLocal (t ∷ ts) r reader → HaltingLocal (t ∷ ts) r other
halting_same t ts (Ok x) reader other h k f = front_same true t ts x.1 (λ l. Ok (x.0, l)) reader other h k f
halting_same t ts (Err (stopped (Unexpected rest))) reader other h k f = front_same true t ts rest (λ l. Err (stopped (Unexpected l))) reader other h k f
halting_same t ts (Err (stopped (Measured rest))) reader other h k f = front_same false t ts rest (λ l. Err (stopped (Measured l))) reader other h k f
halting_same t ts (Err (stopped (TooDeep rest))) reader other h k f = tt
halting_same t ts (Err (bodiless rest)) reader other h k f = front_same false t ts rest (λ l. Err (bodiless l)) reader other h k f
halting_same t ts (Err (measured_twice rest)) reader other h k f = front_same false t ts rest (λ l. Err (measured_twice l)) reader other h k f

-- ---- functions

head_local : (more : ℕ) (ts : List Token) → LocalBy false ts (head_at limit ts) (head_at (limit + more))
unfolding head_at
head_local more ts =
    local_by_then false ts (name_at ts) name_at _ _ (name_local ts) (λ x us.
    local_by_then false us (parameters_at us) parameters_at _ _ (parameters_local us) (λ ps vs.
    local_by_then false vs (expect signs.Colon vs) (expect signs.Colon) _ _ (local_expect signs.Colon vs) (λ c ws.
    local_by_then false ws (type_at ws) type_at _ _ (type_local ws) (λ t xs.
    local_made false xs (clauses_at limit true xs) (clauses_at (limit + more) true) (λ cl. record { name = x; parameters = ps; of = t.of; clauses = cl }) (clauses_local more true xs)))))

function_by_local : (more : ℕ) (place : Place) (h : Head) (ts : List Token) → Local ts (function_by limit place h ts) (function_by (limit + more) place h)
unfolding function_by
function_by_local more place h ts = local_then ts (braced_at limit ts) (braced_at (limit + more)) _ _ (braced_local more ts) (λ e us. local_return us _)

-- what is read behind a head
body_of : ℕ → Place → Head → List Token → Halting Member
body_of deep place h ts = cond (begins_braces ts) (halting (function_by deep place h ts)) (Err (no_body_at ts))

no_body_local : (t : Token) (ts : List Token) (reader : List Token → Halting Member) (b : Bool) → is_measure t.kind ≡ b → ((l : List Token) → reader (t ∷ l) ≡ Err (no_body_at (t ∷ l))) → HaltingLocal (t ∷ ts) (Err (cond b (measured_twice (t ∷ ts)) (bodiless (t ∷ ts)))) reader
no_body_local t ts reader true e h = record { front = []; is = refl; repeats = at_same t ts reader (λ l. Err (measured_twice l)) (λ l. h l ∙ rw e refl) }
no_body_local t ts reader false e h = record { front = []; is = refl; repeats = at_same t ts reader (λ l. Err (bodiless l)) (λ l. h l ∙ rw e refl) }

body_by_local' : (more : ℕ) (place : Place) (h : Head) (t : Token) (ts : List Token) (b : Bool) → is_symbol signs.OpenBrace t.kind ≡ b → HaltingLocal (t ∷ ts) (cond b (halting (function_by limit place h (t ∷ ts))) (Err (no_body_at (t ∷ ts)))) (body_of (limit + more) place h)
unfolding body_of
body_by_local' more place h t ts true e = halting_same t ts (halting (function_by limit place h (t ∷ ts))) (λ l. halting (function_by (limit + more) place h l)) (body_of (limit + more) place h) (λ l. rw e refl) (λ d. not_symbol signs.OpenBrace t.kind e d) (halting_local (t ∷ ts) (function_by limit place h (t ∷ ts)) (function_by (limit + more) place h) (function_by_local more place h (t ∷ ts)))
body_by_local' more place h t ts false e = no_body_local t ts (body_of (limit + more) place h) (is_measure t.kind) refl (λ l. rw e refl)

body_of_local : (more : ℕ) (place : Place) (h : Head) (ts : List Token) → HaltingLocal ts (body_of limit place h ts) (body_of (limit + more) place h)
unfolding body_of
body_of_local more place h [] = record { front = []; is = refl; repeats = at_end false (body_of (limit + more) place h) (λ l. Err (bodiless l)) refl }
body_of_local more place h (t ∷ ts) = body_by_local' more place h t ts (is_symbol signs.OpenBrace t.kind) refl

-- behind a head that was read
behind_front : (b : Bool) (place : Place) (more : ℕ) (ts : List Token) (h : Head) (mid rest : List Token) (answer : List Token → Halting Member) → Front false ts mid (λ l. Ok (h, l)) (head_at (limit + more)) → (g : Front b mid rest answer (body_of (limit + more) place h)) → ((l : List Token) → Heads b rest l → SameHead mid (g.front ++ l)) → Front b ts rest answer (function_at (limit + more) place)
unfolding function_at body_of
behind_front b place more ts h mid rest answer f g heads = record {
  front = f.front ++ g.front;
  is = f.is ∙ ap (λ l. f.front ++ l) g.is ∙ sym (append_assoc f.front g.front rest);
  repeats = λ next same.
      ap (λ l. behind_head (limit + more) place (head_at (limit + more) l)) (append_assoc f.front g.front next)
      ∙ ap (behind_head (limit + more) place) (f.repeats (g.front ++ next) (heads next same))
      ∙ g.repeats next same;
}

-- where no measure follows
behind_plain : (b : Bool) (place : Place) (more : ℕ) (ts : List Token) (h : Head) (mid rest : List Token) (answer : List Token → Halting Member) → begins_decreases mid ≡ false → Front false ts mid (λ l. Ok (h, l)) (head_at (limit + more)) → Front b mid rest answer (body_of (limit + more) place h) → Front b ts rest answer (function_at (limit + more) place)
behind_plain b place more ts h mid rest answer plain f g = behind_front b place more ts h mid rest answer f g (λ l same. same_behind b g.front mid rest l plain g.is same)

behind_by : (place : Place) (more : ℕ) (ts : List Token) (h : Head) (mid : List Token) (r : Halting Member) → begins_decreases mid ≡ false → Front false ts mid (λ l. Ok (h, l)) (head_at (limit + more)) → HaltingLocal mid r (body_of (limit + more) place h) → HaltingLocal ts r (function_at (limit + more) place)
behind_by place more ts h mid (Ok x) plain f g = behind_plain true place more ts h mid x.1 (λ l. Ok (x.0, l)) plain f g
behind_by place more ts h mid (Err (stopped (Unexpected rest))) plain f g = behind_plain true place more ts h mid rest (λ l. Err (stopped (Unexpected l))) plain f g
behind_by place more ts h mid (Err (stopped (Measured rest))) plain f g = behind_plain false place more ts h mid rest (λ l. Err (stopped (Measured l))) plain f g
behind_by place more ts h mid (Err (stopped (TooDeep rest))) plain f g = tt
behind_by place more ts h mid (Err (bodiless rest)) plain f g = behind_plain false place more ts h mid rest (λ l. Err (bodiless l)) plain f g
behind_by place more ts h mid (Err (measured_twice rest)) plain f g = behind_plain false place more ts h mid rest (λ l. Err (measured_twice l)) plain f g

-- where a measure follows
behind_measure : (place : Place) (more : ℕ) (ts : List Token) (h : Head) (mid : List Token) (r : Halting Member) → r ≡ Err (measured_twice mid) → Front false ts mid (λ l. Ok (h, l)) (head_at (limit + more)) → HaltingLocal mid r (body_of (limit + more) place h) → HaltingLocal ts r (function_at (limit + more) place)
behind_measure place more ts h mid r e f g =
    let k : Front false mid mid (λ l. Err (measured_twice l)) (body_of (limit + more) place h) = subst (λ y. HaltingLocal mid y (body_of (limit + more) place h)) e g in
    subst (λ y. HaltingLocal ts y (function_at (limit + more) place)) (sym e) (behind_front false place more ts h mid mid (λ l. Err (measured_twice l)) f k (λ l same. subst (λ x. SameHead x (k.front ++ l)) (sym k.is) (heads_behind false k.front mid l same)))

measure_there : (ts : List Token) → begins_decreases ts ≡ true → (let r : Halting Member = Err (no_body_at ts) in r) ≡ Err (measured_twice ts)
measure_there [] h = absurd cc
measure_there (t ∷ ts) h = rw h refl

body_measure : (place : Place) (h : Head) (ts : List Token) → begins_decreases ts ≡ true → body_of limit place h ts ≡ Err (measured_twice ts)
unfolding body_of
body_measure place h ts d = rw (no_braces ts d) (measure_there ts d)

behind_head_local : (place : Place) (more : ℕ) (ts : List Token) (h : Head) (mid : List Token) (b : Bool) → begins_decreases mid ≡ b → Front false ts mid (λ l. Ok (h, l)) (head_at (limit + more)) → HaltingLocal ts (body_of limit place h mid) (function_at (limit + more) place)
behind_head_local place more ts h mid true d f = behind_measure place more ts h mid (body_of limit place h mid) (body_measure place h mid d) f (body_of_local more place h mid)
behind_head_local place more ts h mid false d f = behind_by place more ts h mid (body_of limit place h mid) d f (body_of_local more place h mid)

function_by_head : (place : Place) (more : ℕ) (ts : List Token) (r : Read Head) → LocalBy false ts r (head_at (limit + more)) → HaltingLocal ts (behind_head limit place r) (function_at (limit + more) place)
unfolding function_at body_of
function_by_head place more ts (Ok h) f = behind_head_local place more ts h.0 h.1 (begins_decreases h.1) refl f
function_by_head place more ts (Err (Unexpected rest)) f = record { front = f.front; is = f.is; repeats = λ next same. ap (behind_head (limit + more) place) (f.repeats next same) }
function_by_head place more ts (Err (Measured rest)) f = record { front = f.front; is = f.is; repeats = λ next same. ap (behind_head (limit + more) place) (f.repeats next same) }
function_by_head place more ts (Err (TooDeep rest)) f = tt

function_local : (more : ℕ) (place : Place) (ts : List Token) → HaltingLocal ts (function_at limit place ts) (function_at (limit + more) place)
unfolding function_at
function_local more place ts = function_by_head place more ts (head_at limit ts) (head_local more ts)

-- ---- members

field_local : (place : Place) (ts : List Token) → Local ts (field_at place ts) (field_at place)
unfolding field_at
field_local place ts = local_then ts (declaration_at ts) declaration_at _ _ (declaration_local ts) (λ d us. local_return us _)

member_by_local : (more : ℕ) (place : Place) (k : Kind) (ts : List Token) → HaltingLocal ts (member_by limit place k ts) (member_by (limit + more) place k)
member_by_local more place (word words.Field) ts = halting_local ts (field_at place ts) (field_at place) (field_local place ts)
member_by_local more place (word words.Predicate) ts = halting_local ts (predicate_at limit place ts) (predicate_at (limit + more) place) (predicate_local more place ts)
member_by_local more place (word words.Function) ts = function_local more place ts
member_by_local more place (word words.Method) ts = halting_local ts (method_at limit place ts) (method_at (limit + more) place) (method_local more place ts)
member_by_local more place k ts = record { front = []; is = refl; repeats = λ next same. refl }

pub member_local : (more : ℕ) (t : Token) (ts : List Token) → HaltingLocal ts (member_at limit t ts) (member_at (limit + more) t)
unfolding member_at
member_local more t ts = member_by_local more t.place t.kind ts
