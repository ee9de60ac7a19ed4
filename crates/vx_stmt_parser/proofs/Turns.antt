-- The turns of the loops that read statements and invariants.
use Rattle.std.proofs.Common.{◌≡◌, ℕ, ◌+◌, ◌-◌, ◌≤◌, List, [], ◌∷◌, ◌++◌, Some, None, Result, Ok, Err, true, false, length, refl, sym, subst, arith, ap}
use Rattle.vx_ast.specs.Written.{Expr, Exprs, Stmt, Block}
use Rattle.vx_tokens.specs.Tokens.{Token}
use Rattle.vx_grammar.specs.Reading.{Read, exprs_from, run}
use Rattle.vx_grammar.specs.StmtReading.{clause_at, begins_invariant, invariant_turn, invariants_at, StmtDeeper, StmtPart, stmt_part, stmts_below, begins_stmt, skip_semicolon, stmt_at, stmt_turn}
use Rattle.vx_grammar.specs.Nesting.{stmt_nests}
use Rattle.vx_expr_parser.specs.declared.stop.Stop as the_stop
use Rattle.vx_expr_parser.specs.Gives.{Gives, Stops}
use Rattle.vx_expr_parser.proofs.Turns.{stops_after}

-- ---- statements

pub stmt_on : (room : ℕ) (d : StmtDeeper) (before : List Stmt) (ts : List Token) (t : Token) (us : List Token) (s : Stmt) (after : List Token) → ts ≡ t ∷ us → begins_stmt t.kind ≡ true → stmt_at room d ts ≡ Ok (s, after)
    → stmt_turn room d before ts ≡ Ok (Some (before ++ s ∷ []), skip_semicolon after)
unfolding stmt_turn
stmt_on room d before ts t us s after first begins read =
    let read' : stmt_at room d (t ∷ us) ≡ Ok (s, after) = subst (λ l. stmt_at room d l ≡ Ok (s, after)) first read in
    rw (first, begins, read') refl

pub stmt_over : (room : ℕ) (d : StmtDeeper) (before : List Stmt) (ts : List Token) (t : Token) (us : List Token) → ts ≡ t ∷ us → begins_stmt t.kind ≡ false → stmt_turn room d before ts ≡ Ok (None, t ∷ us)
unfolding stmt_turn
stmt_over room d before ts t us first begins = rw (first, begins) refl

pub stmt_end : (room : ℕ) (d : StmtDeeper) (before : List Stmt) (ts : List Token) → ts ≡ [] → stmt_turn room d before ts ≡ Ok (None, [])
unfolding stmt_turn
stmt_end room d before ts none = rw none refl

pub stmt_stops : (e : the_stop.Stop) (room : ℕ) (d : StmtDeeper) (before : List Stmt) (ts : List Token) (t : Token) (us : List Token) → ts ≡ t ∷ us → begins_stmt t.kind ≡ true → Stops e (stmt_at room d ts) → Stops e (stmt_turn room d before ts)
unfolding stmt_turn
stmt_stops e room d before ts t us first begins read =
    let read' : Stops e (stmt_at room d (t ∷ us)) = subst (λ l. Stops e (stmt_at room d l)) first read in
    rw (first, begins) (stops_after e (stmt_at room d (t ∷ us)) (λ s. Ok (Some (before ++ s.0 ∷ []), skip_semicolon s.1)) read')

pub stmt_nested_is : {X : Type 0} (view : X → Block × List Token) (result : Result X the_stop.Stop) (room less : ℕ) (p : StmtPart) (here ts : List Token)
    → (1 ≤ room) × (less ≡ room - 1) → Gives view result (stmt_part less (stmts_below less) p ts) → Gives view result (stmts_below room p here ts)
stmt_nested_is view result room less p here ts h g =
    let r : room ≡ less + 1 = omega (arith, h.0, h.1) in
    subst (Gives view result) (sym (stmt_nests room less p here ts r)) g

-- ---- invariants

pub invariant_on : (room : ℕ) (before : List Expr) (ts : List Token) (t : Token) (us : List Token) (e : Expr) (after : List Token) → ts ≡ t ∷ us → begins_invariant t.kind ≡ true → clause_at room (length before) ts us ≡ Ok (e, after)
    → invariant_turn room before ts ≡ Ok (Some (before ++ e ∷ []), skip_semicolon after)
unfolding invariant_turn
invariant_on room before ts t us e after first begins read =
    let read' : clause_at room (length before) (t ∷ us) us ≡ Ok (e, after) = subst (λ l. clause_at room (length before) l us ≡ Ok (e, after)) first read in
    rw (first, begins, read') refl

pub invariant_over : (room : ℕ) (before : List Expr) (ts : List Token) (t : Token) (us : List Token) → ts ≡ t ∷ us → begins_invariant t.kind ≡ false → invariant_turn room before ts ≡ Ok (None, t ∷ us)
unfolding invariant_turn
invariant_over room before ts t us first not = rw (first, not) refl

pub invariant_end : (room : ℕ) (before : List Expr) (ts : List Token) → ts ≡ [] → invariant_turn room before ts ≡ Ok (None, [])
unfolding invariant_turn
invariant_end room before ts none = rw none refl

pub invariant_stops : (e : the_stop.Stop) (room : ℕ) (before : List Expr) (ts : List Token) (t : Token) (us : List Token) → ts ≡ t ∷ us → begins_invariant t.kind ≡ true → Stops e (clause_at room (length before) ts us) → Stops e (invariant_turn room before ts)
unfolding invariant_turn
invariant_stops e room before ts t us first begins read =
    let read' : Stops e (clause_at room (length before) (t ∷ us) us) = subst (λ l. Stops e (clause_at room (length before) l us)) first read in
    rw (first, begins) (stops_after e (clause_at room (length before) (t ∷ us) us) (λ x. Ok (Some (before ++ x.0 ∷ []), skip_semicolon x.1)) read')

pub invariants_is : {X : Type 0} (view : X → List Expr × List Token) (by : X → Exprs × List Token) (result : Result X the_stop.Stop) (room : ℕ) (ts : List Token)
    → ((x : X) → by x ≡ (exprs_from (view x).0, (view x).1)) → Gives view result (run (invariant_turn room) (length ts) [] ts) → Gives by result (invariants_at room ts)
unfolding invariants_at
invariants_is view by (Ok x) room ts same g = rw g (ap (λ (y : Exprs × List Token). let r : Read Exprs = Ok y in r) (sym (same x)))
invariants_is view by (Err stop) room ts same g = stops_after stop (run (invariant_turn room) (length ts) [] ts) (λ es. Ok (exprs_from es.0, es.1)) g
