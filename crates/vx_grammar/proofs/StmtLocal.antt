-- Reading statements looks no further than the token at which it stops.
use Rattle.std.proofs.Common.{◌≡◌, ℕ, zero, suc, ◌+◌, ◌<◌, List, [], ◌∷◌, ◌++◌, None, Ok, Err, length, refl, sym, ap, subst, ◌∙◌, arith, Bool, true, false, cond, length-append}
use Rattle.std.proofs.lemmas.List.{length-map}
use Rattle.vx_ast.specs.declared.Place.{Place}
use Rattle.vx_ast.specs.declared.ValueType.TheVariants as types
use Rattle.vx_ast.specs.Written.{Placed, placed, placed_type, Expr, Variable, Call, Declaration, Value, Stmt, NoElse, Else, Declare, Write, Done, Then}
use Rattle.vx_ast.specs.Written as written
use Rattle.vx_grammar.specs.Statements.{inhales, exhales, asserts, assumes, claim_meant, Folding, folds, unfolds}
use Rattle.vx_tokens.specs.declared.token.Word.TheVariants as words
use Rattle.vx_tokens.specs.declared.token.Symbol.TheVariants as signs
use Rattle.vx_tokens.specs.Tokens.{Token, Kind, name, word}
use Rattle.vx_grammar.specs.Grammar.{tokens_of}
use Rattle.vx_grammar.specs.Reading.{exprs_from, Part, allocation, arguments, run, name_turn, postfix_by, unary_by, unary_at, enclosed, ◌>>=◌, Read, Unexpected, Measured, TooDeep, expect, is_symbol, choice, choice_at, instance_at, below, name_at}
use Rattle.vx_grammar.specs.StmtReading.{is_measure, loop_block_at, other_by, skip_semicolon, clause_at, begins_invariant, invariant_turn, invariants_at, while_at, StmtPart, statements, elseif_part, StmtDeeper, stmt_part, stmts_below, type_by, type_at, declaration_at, block_at, otherwise_by, otherwise_at, branch_at, initial_by, initial_at, declare_at, begins_new, value_at, right_at, assign_one, invoke_at, assigned_by, assign_at, store_at, by_target, target_at, claim_at, fold_at, stmt_by, stmt_at, begins_stmt, stmts_at, block_from}
use Rattle.vx_grammar.proofs.Tells.{Tells, TellsOk}
use Rattle.vx_grammar.proofs.Rows.{rows, rows_local, NoClause, LocalRows}
use Rattle.vx_grammar.proofs.Local.{Local, LocalBy, at_clause, local_made, local_clauses, local_ok, local_unexpected, local_measured, local_end, local_end_unexpected, local_return, local_token, local_then, local_expect, local_same}
use Rattle.vx_grammar.proofs.LocalParts.{name_local, bracket_local}
use Rattle.vx_grammar.proofs.RunLocal.{Turns, LocalTurn, local_turn, turn_over, run_local, taken_short, taken_none}
use Rattle.vx_grammar.proofs.Steps.{TurnFor}
use Rattle.vx_grammar.proofs.InvariantsTold.{InvariantStep, invariant_turn_tells}
use Rattle.std.proofs.Common.{◌-◌, ◌≤◌, leb, Some, inl, inr}
use Rattle.vx_grammar.proofs.Lists.{BeginsClause}
use Rattle.vx_grammar.specs.Grammar.{Mark}
use Rattle.std.proofs.lemmas.Bool.{leb-true, le-leb}
use Rattle.vx_grammar.proofs.LocalExpr.{StuckAtClause, unary_stuck, reading_local, instance_reading_local, nested_local, local_from_first, operand_local, name_turns}
use Rattle.vx_grammar.proofs.StmtFor.{StmtFor, stmts_are_rows}
use Rattle.vx_grammar.proofs.StmtTold.{stmt_reading_tells}
use Rattle.vx_grammar.proofs.StmtReads.{stmt_first}

-- ---- types

type_by_local : (t : Token) (k : Kind) (ts : List Token) → t.kind ≡ k → Local (t ∷ ts) (type_by t k ts) type_at
unfolding type_at
type_by_local t (word words.Int) ts e = local_token t ts (Ok (placed_type t.place types.Int, ts)) (λ l. Ok (placed_type t.place types.Int, l)) type_at (λ l. rw e refl) (local_return ts (placed_type t.place types.Int))
type_by_local t (word words.Bool) ts e = local_token t ts (Ok (placed_type t.place types.Bool, ts)) (λ l. Ok (placed_type t.place types.Bool, l)) type_at (λ l. rw e refl) (local_return ts (placed_type t.place types.Bool))
type_by_local t (word words.Ref) ts e = local_token t ts (Ok (placed_type t.place types.Ref, ts)) (λ l. Ok (placed_type t.place types.Ref, l)) type_at (λ l. rw e refl) (local_return ts (placed_type t.place types.Ref))
type_by_local t (word words.Perm) ts e = local_token t ts (Ok (placed_type t.place types.Perm, ts)) (λ l. Ok (placed_type t.place types.Perm, l)) type_at (λ l. rw e refl) (local_return ts (placed_type t.place types.Perm))
type_by_local t k ts e = local_unexpected t ts type_at (λ more. rw e refl) (λ p more. refl) (λ p more. refl)

pub type_local : (ts : List Token) → Local ts (type_at ts) type_at
unfolding type_at
type_local [] = local_end_unexpected type_at refl
type_local (t ∷ ts) = type_by_local t t.kind ts refl

pub declaration_local : (ts : List Token) → Local ts (declaration_at ts) declaration_at
unfolding declaration_at
declaration_local ts =
    local_then ts (name_at ts) name_at _ _ (name_local ts) (λ x us.
    local_then us (expect signs.Colon us) (expect signs.Colon) _ _ (local_expect signs.Colon us) (λ c vs.
    local_then vs (type_at vs) type_at _ _ (type_local vs) (λ t ws. local_return ws _)))

-- ---- statements, with as much room, or more

-- the deeper reader's answers are those of the other
StmtLocal : StmtDeeper → StmtDeeper → Type 0
StmtLocal d d' = (p : StmtPart) (here ts : List Token) (heres : List Token → List Token) → Local ts (d p here ts) (λ l. d' p (heres l) l)

inside_local : (room more : ℕ) (p : Part) (ts : List Token) → Local ts (enclosed (below room) p ts) (enclosed (below (room + more)) p)
unfolding enclosed
inside_local room more p ts = bracket_local signs.Open signs.Close (λ here us. below room p here us) (λ here us. below (room + more) p here us) (λ here us heres. nested_local room more p here us heres) ts

condition_local : (room more : ℕ) (ts : List Token) → Local ts (enclosed (below room) choice ts) (enclosed (below (room + more)) choice)
unfolding enclosed
condition_local room more ts = bracket_local signs.Open signs.Close (λ here us. below room choice here us) (λ here us. below (room + more) choice here us) (λ here us heres. nested_local room more choice here us heres) ts

block_local : (d d' : StmtDeeper) (ts : List Token) → StmtLocal d d' → Local ts (block_at d ts) (block_at d')
unfolding block_at StmtLocal
block_local d d' ts h = bracket_local signs.OpenBrace signs.CloseBrace (d statements) (d' statements) (h statements) ts

other_by_local : (d d' : StmtDeeper) (t : Token) (k : Kind) (ts : List Token) → t.kind ≡ k → StmtLocal d d' → Local (t ∷ ts) (otherwise_by d t k ts) (otherwise_at d')
unfolding otherwise_at StmtLocal
other_by_local d d' t (word words.Else) ts e h = local_token t ts (other_by (block_at d ts)) (λ l. other_by (block_at d' l)) (otherwise_at d') (λ l. rw e refl) (local_then ts (block_at d ts) (block_at d') _ _ (block_local d d' ts h) (λ b us. local_return us _))
other_by_local d d' t (word words.Elseif) ts e h = local_token t ts (other_by (d (elseif_part t.place) (t ∷ ts) ts)) (λ l. other_by (d' (elseif_part t.place) (t ∷ l) l)) (otherwise_at d') (λ l. rw e refl) (local_then ts (d (elseif_part t.place) (t ∷ ts) ts) (λ l. d' (elseif_part t.place) (t ∷ l) l) _ _ (h (elseif_part t.place) (t ∷ ts) ts (λ l. t ∷ l)) (λ b us. local_return us _))
other_by_local d d' t k ts e h = local_ok t ts NoElse (otherwise_at d') (λ more. rw e refl) (λ p more. refl) (λ p more. refl)

other_local : (d d' : StmtDeeper) (ts : List Token) → StmtLocal d d' → Local ts (otherwise_at d ts) (otherwise_at d')
unfolding otherwise_at
other_local d d' [] h = local_end NoElse (otherwise_at d') refl
other_local d d' (t ∷ ts) h = other_by_local d d' t t.kind ts refl h

branch_local : (room more : ℕ) (d d' : StmtDeeper) (place : Place) (ts : List Token) → StmtLocal d d' → Local ts (branch_at room d place ts) (branch_at (room + more) d' place)
unfolding branch_at
branch_local room more d d' place ts h =
    local_then ts (enclosed (below room) choice ts) (enclosed (below (room + more)) choice) _ _ (condition_local room more ts) (λ e us.
    local_then us (block_at d us) (block_at d') _ _ (block_local d d' us h) (λ b vs.
    local_then vs (otherwise_at d vs) (otherwise_at d') _ _ (other_local d d' vs h) (λ o ws. local_return ws _)))

-- an expression, and what is made of it
made_local : {A : Type 0} (room more : ℕ) (f : Expr → A) (ts : List Token) → Local ts (choice_at (below room) ts >>= λ e. Ok (f e.0, e.1)) (λ l. choice_at (below (room + more)) l >>= λ e. Ok (f e.0, e.1))
made_local room more f ts = local_then ts (choice_at (below room) ts) (choice_at (below (room + more))) _ _ (reading_local room more ts) (λ e us. local_return us (f e))

right_by_local : (room more : ℕ) (t : Token) (ts : List Token) (b : Bool) → begins_new t.kind ≡ b → Local (t ∷ ts) (cond b (enclosed (below room) (allocation t.place) ts) (value_at room (t ∷ ts))) (right_at (room + more))
unfolding right_at value_at
right_by_local room more t ts true e = local_token t ts (enclosed (below room) (allocation t.place) ts) (enclosed (below (room + more)) (allocation t.place)) (right_at (room + more)) (λ l. rw e refl) (inside_local room more (allocation t.place) ts)
right_by_local room more t ts false e = local_same t ts (value_at room (t ∷ ts)) (value_at (room + more)) (right_at (room + more)) (λ l. rw e refl) (λ d. at_clause (value_at (room + more)) (right_at (room + more)) (λ p l. refl) (λ p l. refl)) (made_local room more Value (t ∷ ts))

right_local : (room more : ℕ) (ts : List Token) → Local ts (right_at room ts) (right_at (room + more))
unfolding right_at
right_local room more [] = local_end_unexpected (right_at (room + more)) refl
right_local room more (t ∷ ts) = right_by_local room more t ts (begins_new t.kind) refl

initial_by_local : (room more : ℕ) (place : Place) (d : Declaration) (t : Token) (ts : List Token) (b : Bool) → is_symbol signs.Becomes t.kind ≡ b → Local (t ∷ ts) (cond b (initial_by room place d ts) (Ok (Declare place d None, t ∷ ts))) (initial_at (room + more) place d)
unfolding initial_at initial_by
initial_by_local room more place d t ts true e = local_token t ts (initial_by room place d ts) (initial_by (room + more) place d) (initial_at (room + more) place d) (λ l. rw e refl) (local_then ts (right_at room ts) (right_at (room + more)) _ _ (right_local room more ts) (λ r us. local_return us _))
initial_by_local room more place d t ts false e = local_ok t ts (Declare place d None) (initial_at (room + more) place d) (λ more. rw e refl) (λ p more. refl) (λ p more. refl)

initial_local : (room more : ℕ) (place : Place) (d : Declaration) (ts : List Token) → Local ts (initial_at room place d ts) (initial_at (room + more) place d)
unfolding initial_at
initial_local room more place d [] = local_end (Declare place d None) (initial_at (room + more) place d) refl
initial_local room more place d (t ∷ ts) = initial_by_local room more place d t ts (is_symbol signs.Becomes t.kind) refl

declare_local : (room more : ℕ) (place : Place) (ts : List Token) → Local ts (declare_at room place ts) (declare_at (room + more) place)
unfolding declare_at
declare_local room more place ts = local_then ts (declaration_at ts) declaration_at _ _ (declaration_local ts) (λ d us. initial_local room more place d us)

-- ---- loops

local_eq : {A : Type 0} (ts : List Token) (r : Read A) (reader other : List Token → Read A) → ((l : List Token) → other l ≡ reader l) → Local ts r reader → Local ts r other
local_eq ts (Ok x) reader other h f = record { front = f.front; is = f.is; repeats = λ next same. h (f.front ++ next) ∙ f.repeats next same }
local_eq ts (Err (Unexpected rest)) reader other h f = record { front = f.front; is = f.is; repeats = λ next same. h (f.front ++ next) ∙ f.repeats next same }
local_eq ts (Err (Measured rest)) reader other h f = record { front = f.front; is = f.is; repeats = λ next same. h (f.front ++ next) ∙ f.repeats next same }
local_eq ts (Err (TooDeep rest)) reader other h f = tt

clause_by_local : (room more before : ℕ) (here ts : List Token) (heres : List Token → List Token) (b : Bool) → leb before room ≡ b → Local ts (cond b (choice_at (below (room - before)) ts) (Err (TooDeep here))) (λ l. clause_at (room + more) before (heres l) l)
unfolding clause_at
clause_by_local room more before here ts heres true h =
    let le : before ≤ room = leb-true _ _ h in
    let b : leb before (room + more) ≡ true = le-leb _ _ (omega (arith, le)) in
    let r : (room + more) - before ≡ (room - before) + more = omega (arith, le) in
    local_eq ts (choice_at (below (room - before)) ts) (choice_at (below ((room - before) + more))) (λ l. clause_at (room + more) before (heres l) l) (λ l. rw (b, r) refl) (reading_local (room - before) more ts)
clause_by_local room more before here ts heres false h = tt

clause_room_local : (room more before : ℕ) (here ts : List Token) (heres : List Token → List Token) → Local ts (clause_at room before here ts) (λ l. clause_at (room + more) before (heres l) l)
unfolding clause_at
clause_room_local room more before here ts heres = clause_by_local room more before here ts heres (leb before room) refl

by_semi : {A : Type 0} (v : A) (t : Token) (ts : List Token) (b : Bool) → is_symbol signs.Semicolon t.kind ≡ b → Local (t ∷ ts) (Ok (v, cond b ts (t ∷ ts))) (λ l. Ok (v, skip_semicolon l))
by_semi v t ts true e = local_token t ts (Ok (v, ts)) (λ l. Ok (v, l)) (λ l. Ok (v, skip_semicolon l)) (λ l. rw e refl) (local_return ts v)
by_semi v t ts false e = local_ok t ts v (λ l. Ok (v, skip_semicolon l)) (λ more. rw e refl) (λ p more. refl) (λ p more. refl)

semi_local : {A : Type 0} (v : A) (ts : List Token) → Local ts (Ok (v, skip_semicolon ts)) (λ l. Ok (v, skip_semicolon l))
semi_local v [] = local_end v (λ l. Ok (v, skip_semicolon l)) refl
semi_local v (t ∷ ts) = by_semi v t ts (is_symbol signs.Semicolon t.kind) refl

invariant_by_local : (room more : ℕ) (before : List Expr) (t : Token) (ts : List Token) (b : Bool) → begins_invariant t.kind ≡ b → LocalTurn false (t ∷ ts) (cond b (clause_at room (length before) (t ∷ ts) ts >>= λ e. Ok (Some (before ++ e.0 ∷ []), skip_semicolon e.1)) (Ok (None, t ∷ ts))) (invariant_turn (room + more) before)
unfolding invariant_turn
invariant_by_local room more before t ts true e = local_turn false (t ∷ ts) _ (invariant_turn (room + more) before) (local_token t ts _ (λ l. clause_at (room + more) (length before) (t ∷ l) l >>= λ x. Ok (Some (before ++ x.0 ∷ []), skip_semicolon x.1)) (invariant_turn (room + more) before) (λ l. rw e refl) (local_then ts (clause_at room (length before) (t ∷ ts) ts) (λ l. clause_at (room + more) (length before) (t ∷ l) l) _ _ (clause_room_local room more (length before) (t ∷ ts) ts (λ l. t ∷ l)) (λ x us. semi_local _ us)))
invariant_by_local room more before t ts false e = turn_over t ts (invariant_turn (room + more) before) (λ l. rw e refl)

invariant_turn_local : (room more : ℕ) (before : List Expr) (ts : List Token) → LocalTurn false ts (invariant_turn room before ts) (invariant_turn (room + more) before)
unfolding invariant_turn
invariant_turn_local room more before [] = local_turn false [] (Ok (None, [])) (invariant_turn (room + more) before) (local_end None (invariant_turn (room + more) before) refl)
invariant_turn_local room more before (t ∷ ts) = invariant_by_local room more before t ts (begins_invariant t.kind) refl

invariant_long : (n : ℕ) (s t : List Expr) (ms : List Mark) → InvariantStep n s t ms → 1 ≤ length ms
invariant_long n s t ms c = rw c.spelled (omega arith)

invariant_turns : (room more : ℕ) → Turns false (invariant_turn room) (invariant_turn (room + more))
unfolding invariant_turn
invariant_turns room more = record {
  local = invariant_turn_local room more;
  short = λ s t ts mid e. taken_short (TurnFor (InvariantStep 0) s) room ts (Some t) mid (invariant_long 0 s t) (subst (Tells (TurnFor (InvariantStep 0) s) room ts) e (invariant_turn_tells room 0 room (omega arith) s ts));
  same = λ s ts mid e. taken_none (TurnFor (InvariantStep 0) s) room ts None mid (λ ms z. z) (subst (Tells (TurnFor (InvariantStep 0) s) room ts) e (invariant_turn_tells room 0 room (omega arith) s ts));
  empty = λ s. refl;
}

invariants_local : (room more : ℕ) (ts : List Token) → LocalBy false ts (invariants_at room ts) (invariants_at (room + more))
unfolding invariants_at
invariants_local room more ts = local_made false ts (run (invariant_turn room) (length ts) [] ts) (λ l. run (invariant_turn (room + more)) (length l) [] l) exprs_from (run_local false (invariant_turn room) (invariant_turn (room + more)) (invariant_turns room more) [] ts)

loop_block_by : (d d' : StmtDeeper) (t : Token) (ts : List Token) (b : Bool) → is_measure t.kind ≡ b → StmtLocal d d' → Local (t ∷ ts) (cond b (Err (Measured (t ∷ ts))) (block_at d (t ∷ ts))) (loop_block_at d')
unfolding loop_block_at
loop_block_by d d' t ts true e h = local_measured t ts (loop_block_at d') (λ more. rw e refl)
loop_block_by d d' t ts false e h = local_same t ts (block_at d (t ∷ ts)) (block_at d') (loop_block_at d') (λ l. rw e refl) (λ m. at_clause (block_at d') (loop_block_at d') (λ p l. refl) (λ p l. refl)) (block_local d d' (t ∷ ts) h)

loop_block_local : (d d' : StmtDeeper) (ts : List Token) → StmtLocal d d' → Local ts (loop_block_at d ts) (loop_block_at d')
unfolding loop_block_at block_at expect
loop_block_local d d' [] h = local_end_unexpected (loop_block_at d') refl
loop_block_local d d' (t ∷ ts) h = loop_block_by d d' t ts (is_measure t.kind) refl h

while_local : (room more : ℕ) (d d' : StmtDeeper) (place : Place) (ts : List Token) → StmtLocal d d' → Local ts (while_at room d place ts) (while_at (room + more) d' place)
unfolding while_at loop_block_at
while_local room more d d' place ts h =
    local_then ts (enclosed (below room) choice ts) (enclosed (below (room + more)) choice) _ _ (condition_local room more ts) (λ e us.
    local_clauses us (invariants_at room us) (invariants_at (room + more)) _ _ (invariants_local room more us) (λ is vs d. rw d refl) (λ is vs.
    local_then vs (loop_block_at d vs) (loop_block_at d') _ _ (loop_block_local d d' vs h) (λ b ws. local_return ws _)))

-- ---- statements that begin with a name

nothing_local : {A : Type 0} (ts : List Token) → (let r : Read A = Err (Unexpected ts) in Local ts r (λ l. Err (Unexpected l)))
nothing_local ts = record { front = []; is = refl; repeats = λ next same. refl }

assigned_local : (room more : ℕ) (place : Place) (xs : List Placed) (ts : List Token) → Local ts (assigned_by room place xs ts) (assigned_by (room + more) place xs)
unfolding assign_one invoke_at
assigned_local room more place [] ts = nothing_local ts
assigned_local room more place (x ∷ []) ts = local_then ts (right_at room ts) (right_at (room + more)) _ _ (right_local room more ts) (λ r us. local_return us _)
assigned_local room more place (x ∷ y ∷ ys) ts =
    local_then ts (name_at ts) name_at _ _ (name_local ts) (λ m us.
    local_then us (enclosed (below room) arguments us) (enclosed (below (room + more)) arguments) _ _ (inside_local room more arguments us) (λ es vs. local_return vs _))

assign_local : (room more : ℕ) (place : Place) (x : Placed) (ts : List Token) → Local ts (assign_at room place x ts) (assign_at (room + more) place x)
unfolding assign_at
assign_local room more place x ts =
    local_then ts (run name_turn (length ts) (x ∷ []) ts) (λ l. run name_turn (length l) (x ∷ []) l) _ _ (run_local true name_turn name_turn name_turns (x ∷ []) ts) (λ xs us.
    local_then us (expect signs.Becomes us) (expect signs.Becomes) _ _ (local_expect signs.Becomes us) (λ c vs. assigned_local room more place xs vs))

store_local : (room more : ℕ) (place : Place) (e : Expr) (f : Placed) (ts : List Token) → Local ts (store_at room place e f ts) (store_at (room + more) place e f)
unfolding store_at
store_local room more place e f ts = local_then ts (expect signs.Becomes ts) (expect signs.Becomes) _ _ (local_expect signs.Becomes ts) (λ c us. made_local room more (Write place e f) us)

by_target_local : (room more : ℕ) (place : Place) (e : Expr) (ts : List Token) → Local ts (by_target room place e ts) (by_target (room + more) place e)
by_target_local room more place (Variable at x) ts = assign_local room more place (placed at x) ts
by_target_local room more place (Call at m es) ts = local_return ts _
by_target_local room more place (written.Read at e f) ts = store_local room more place e f ts
by_target_local room more place e ts = nothing_local ts

stmt_stuck : (room : ℕ) (d : StmtDeeper) → StuckAtClause (stmt_at room d)
unfolding stmt_at
stmt_stuck room d = at_clause (stmt_at room d) (λ l. Err (Unexpected l)) (λ p l. refl) (λ p l. refl)

target_local : (room more : ℕ) (d' : StmtDeeper) (t : Token) (x : List ℕ) (ts : List Token) → t.kind ≡ name x → Local (t ∷ ts) (target_at room t x ts) (stmt_at (room + more) d')
unfolding stmt_at target_at unary_at unary_by
target_local room more d' t x ts e = local_from_first t ts (postfix_by (below room) t (name x) ts) (unary_at (below (room + more))) (stmt_at (room + more) d') (λ y. by_target room t.place y.0 y.1) (λ y. by_target (room + more) t.place y.0 y.1) (λ l. rw e refl) (λ m. unary_stuck (below (room + more))) (λ m. stmt_stuck (room + more) d') (operand_local room more t x ts e) (λ y mid. by_target_local room more t.place y mid)

fold_local : (room more : ℕ) (f : Folding) (place : Place) (ts : List Token) → Local ts (fold_at room f place ts) (fold_at (room + more) f place)
unfolding fold_at
fold_local room more f place ts = local_then ts (instance_at (below room) ts) (instance_at (below (room + more))) _ _ (instance_reading_local room more ts) (λ i us. local_return us _)

stmt_by_local : (room more : ℕ) (d d' : StmtDeeper) (t : Token) (k : Kind) (ts : List Token) → t.kind ≡ k → StmtLocal d d' → Local (t ∷ ts) (stmt_by room d t k ts) (stmt_at (room + more) d')
unfolding stmt_at claim_at
stmt_by_local room more d d' t (name x) ts e h = target_local room more d' t x ts e
stmt_by_local room more d d' t (word words.Var) ts e h = local_token t ts (declare_at room t.place ts) (declare_at (room + more) t.place) (stmt_at (room + more) d') (λ l. rw e refl) (declare_local room more t.place ts)
stmt_by_local room more d d' t (word words.Inhale) ts e h = local_token t ts (claim_at room inhales t.place ts) (claim_at (room + more) inhales t.place) (stmt_at (room + more) d') (λ l. rw e refl) (made_local room more (claim_meant inhales t.place) ts)
stmt_by_local room more d d' t (word words.Exhale) ts e h = local_token t ts (claim_at room exhales t.place ts) (claim_at (room + more) exhales t.place) (stmt_at (room + more) d') (λ l. rw e refl) (made_local room more (claim_meant exhales t.place) ts)
stmt_by_local room more d d' t (word words.Assert) ts e h = local_token t ts (claim_at room asserts t.place ts) (claim_at (room + more) asserts t.place) (stmt_at (room + more) d') (λ l. rw e refl) (made_local room more (claim_meant asserts t.place) ts)
stmt_by_local room more d d' t (word words.Assume) ts e h = local_token t ts (claim_at room assumes t.place ts) (claim_at (room + more) assumes t.place) (stmt_at (room + more) d') (λ l. rw e refl) (made_local room more (claim_meant assumes t.place) ts)
stmt_by_local room more d d' t (word words.Fold) ts e h = local_token t ts (fold_at room folds t.place ts) (fold_at (room + more) folds t.place) (stmt_at (room + more) d') (λ l. rw e refl) (fold_local room more folds t.place ts)
stmt_by_local room more d d' t (word words.Unfold) ts e h = local_token t ts (fold_at room unfolds t.place ts) (fold_at (room + more) unfolds t.place) (stmt_at (room + more) d') (λ l. rw e refl) (fold_local room more unfolds t.place ts)
stmt_by_local room more d d' t (word words.If) ts e h = local_token t ts (branch_at room d t.place ts) (branch_at (room + more) d' t.place) (stmt_at (room + more) d') (λ l. rw e refl) (branch_local room more d d' t.place ts h)
stmt_by_local room more d d' t (word words.While) ts e h = local_token t ts (while_at room d t.place ts) (while_at (room + more) d' t.place) (stmt_at (room + more) d') (λ l. rw e refl) (while_local room more d d' t.place ts h)
stmt_by_local room more d d' t k ts e h = local_unexpected t ts (stmt_at (room + more) d') (λ l. rw e refl) (λ p more. refl) (λ p more. refl)

stmt_local : (room more : ℕ) (d d' : StmtDeeper) (ts : List Token) → StmtLocal d d' → Local ts (stmt_at room d ts) (stmt_at (room + more) d')
unfolding stmt_at
stmt_local room more d d' [] h = local_end_unexpected (stmt_at (room + more) d') refl
stmt_local room more d d' (t ∷ ts) h = stmt_by_local room more d d' t t.kind ts refl h

-- a statement takes a token at least
stmt_short : (room : ℕ) (ts : List Token) (s : Stmt) (mid : List Token) → stmt_at room (stmts_below room) ts ≡ Ok (s, mid) → length mid < length ts
stmt_short room ts s mid e = by_marks (subst (Tells (StmtFor 0) room ts) e (stmt_reading_tells room 0 room ts (omega arith)))
  where
    by_marks : TellsOk (StmtFor 0) room ts s mid → length mid < length ts
    by_marks h =
        let f = stmt_first 0 h.spelled.phrase h.spelled.stands in
        let one = ap length (sym h.spelled.spelled ∙ f.2) in
        let all = ap length h.takes.tokens in
        let a = length-append (tokens_of h.marks) mid in
        let b = length-map h.marks (λ m. m.token) in
        omega (arith, one, all, a, b)

row_of_local : (room more : ℕ) (ts : List Token) (r : Read (List Stmt)) → LocalRows begins_stmt (stmt_at (room + more) (stmts_below (room + more))) ts r → Local ts r (stmts_at (room + more) (stmts_below (room + more)))
row_of_local room more ts (Ok x) h = record { front = h.front; is = h.is; repeats = λ next same. stmts_are_rows (room + more) (stmts_below (room + more)) (h.front ++ next) ∙ h.repeats next same (length (h.front ++ next)) (omega arith) }
row_of_local room more ts (Err (Unexpected rest)) h = record { front = h.front; is = h.is; repeats = λ next same. stmts_are_rows (room + more) (stmts_below (room + more)) (h.front ++ next) ∙ h.repeats next same (length (h.front ++ next)) (omega arith) }
row_of_local room more ts (Err (Measured rest)) h = record { front = h.front; is = h.is; repeats = λ next same. stmts_are_rows (room + more) (stmts_below (room + more)) (h.front ++ next) ∙ h.repeats next same (length (h.front ++ next)) (omega arith) }
row_of_local room more ts (Err (TooDeep rest)) h = tt

no_clause_begins : NoClause begins_stmt
no_clause_begins = record { measure = refl; clause = λ k c. not_begun k c }
  where
    not_begun : (k : Kind) → BeginsClause k → begins_stmt k ≡ false
    not_begun k (inl e) = rw e refl
    not_begun k (inr e) = rw e refl

stmts_local : (room more : ℕ) (ts : List Token) → StmtLocal (stmts_below room) (stmts_below (room + more)) → Local ts (stmts_at room (stmts_below room) ts) (stmts_at (room + more) (stmts_below (room + more)))
stmts_local room more ts h =
    subst (λ r. Local ts r (stmts_at (room + more) (stmts_below (room + more)))) (sym (stmts_are_rows room (stmts_below room) ts))
    (row_of_local room more ts (rows begins_stmt (stmt_at room (stmts_below room)) (length ts) ts)
    (rows_local begins_stmt (stmt_at room (stmts_below room)) (stmt_at (room + more) (stmts_below (room + more))) no_clause_begins (λ us. stmt_local room more (stmts_below room) (stmts_below (room + more)) us h) (stmt_short room) (length ts) ts (omega arith)))

part_local : (room more : ℕ) (p : StmtPart) (ts : List Token) → StmtLocal (stmts_below room) (stmts_below (room + more)) → Local ts (stmt_part room (stmts_below room) p ts) (stmt_part (room + more) (stmts_below (room + more)) p)
part_local room more statements ts h = local_then ts (stmts_at room (stmts_below room) ts) (stmts_at (room + more) (stmts_below (room + more))) _ _ (stmts_local room more ts h) (λ ss us. local_return us (block_from ss))
part_local room more (elseif_part place) ts h = local_then ts (branch_at room (stmts_below room) place ts) (branch_at (room + more) (stmts_below (room + more)) place) _ _ (branch_local room more (stmts_below room) (stmts_below (room + more)) place ts h) (λ s us. local_return us (Then s Done))

stmts_below_local : (room more : ℕ) → StmtLocal (stmts_below room) (stmts_below (room + more))
unfolding stmts_below StmtLocal
stmts_below_local zero more p here ts heres = tt
stmts_below_local (suc room) more p here ts heres =
    let s : suc room + more ≡ suc (room + more) = omega arith in
    rw s (part_local room more p ts (stmts_below_local room more))

-- a block, with as much room, or more
pub block_reading_local : (room more : ℕ) (ts : List Token) → Local ts (block_at (stmts_below room) ts) (block_at (stmts_below (room + more)))
block_reading_local room more ts = block_local (stmts_below room) (stmts_below (room + more)) ts (stmts_below_local room more)
