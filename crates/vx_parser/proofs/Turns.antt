-- The turns of the loop that reads the clauses of a member.
use Rattle.std.proofs.Common.{◌≡◌, List, [], ◌∷◌, Some, None, Ok, Bool, true, false, not, ◌&&◌, refl, subst}
use Rattle.vx_ast.specs.Written.{Expr}
use Rattle.vx_tokens.specs.Tokens.{Token}
use Rattle.vx_grammar.specs.StmtReading.{is_measure, clause_at, skip_semicolon}
use Rattle.vx_grammar.specs.MemberReading.{limit, Clauses, clause_turn, begins_requires, begins_ensures, with_requires, with_ensures, with_measure}
use Rattle.vx_expr_parser.specs.declared.stop.Stop as the_stop
use Rattle.vx_expr_parser.specs.Gives.{Stops}
use Rattle.vx_expr_parser.proofs.Turns.{stops_after}

pub requires_on : (may : Bool) (before : Clauses) (ts : List Token) (t : Token) (us : List Token) (e : Expr) (after : List Token) → ts ≡ t ∷ us → begins_requires t.kind ≡ true → clause_at limit before.requires ts us ≡ Ok (e, after)
    → clause_turn limit may before ts ≡ Ok (Some (with_requires before e), skip_semicolon after)
unfolding clause_turn
requires_on may before ts t us e after first begins read =
    let read' : clause_at limit before.requires (t ∷ us) us ≡ Ok (e, after) = subst (λ l. clause_at limit before.requires l us ≡ Ok (e, after)) first read in
    rw (first, begins, read') refl

pub ensures_on : (may : Bool) (before : Clauses) (ts : List Token) (t : Token) (us : List Token) (e : Expr) (after : List Token) → ts ≡ t ∷ us → begins_requires t.kind ≡ false → begins_ensures t.kind ≡ true → clause_at limit before.ensures ts us ≡ Ok (e, after)
    → clause_turn limit may before ts ≡ Ok (Some (with_ensures before e), skip_semicolon after)
unfolding clause_turn
ensures_on may before ts t us e after first not begins read =
    let read' : clause_at limit before.ensures (t ∷ us) us ≡ Ok (e, after) = subst (λ l. clause_at limit before.ensures l us ≡ Ok (e, after)) first read in
    rw (first, not, begins, read') refl

pub measure_on : (may : Bool) (before : Clauses) (ts : List Token) (t : Token) (us : List Token) (e : Expr) (after : List Token) → ts ≡ t ∷ us → begins_requires t.kind ≡ false → begins_ensures t.kind ≡ false → (may && not before.measured && is_measure t.kind) ≡ true → clause_at limit 0 ts us ≡ Ok (e, after)
    → clause_turn limit may before ts ≡ Ok (Some (with_measure before e), skip_semicolon after)
unfolding clause_turn
measure_on may before ts t us e after first not neither begins read =
    let read' : clause_at limit 0 (t ∷ us) us ≡ Ok (e, after) = subst (λ l. clause_at limit 0 l us ≡ Ok (e, after)) first read in
    rw (first, not, neither, begins, read') refl

pub clause_over : (may : Bool) (before : Clauses) (ts : List Token) (t : Token) (us : List Token) → ts ≡ t ∷ us → begins_requires t.kind ≡ false → begins_ensures t.kind ≡ false → (may && not before.measured && is_measure t.kind) ≡ false → clause_turn limit may before ts ≡ Ok (None, t ∷ us)
unfolding clause_turn
clause_over may before ts t us first not neither none = rw (first, not, neither, none) refl

pub clause_end : (may : Bool) (before : Clauses) (ts : List Token) → ts ≡ [] → clause_turn limit may before ts ≡ Ok (None, [])
unfolding clause_turn
clause_end may before ts none = rw none refl

pub requires_stops : (e : the_stop.Stop) (may : Bool) (before : Clauses) (ts : List Token) (t : Token) (us : List Token) → ts ≡ t ∷ us → begins_requires t.kind ≡ true → Stops e (clause_at limit before.requires ts us) → Stops e (clause_turn limit may before ts)
unfolding clause_turn
requires_stops e may before ts t us first begins read =
    let read' : Stops e (clause_at limit before.requires (t ∷ us) us) = subst (λ l. Stops e (clause_at limit before.requires l us)) first read in
    rw (first, begins) (stops_after e (clause_at limit before.requires (t ∷ us) us) (λ x. Ok (Some (with_requires before x.0), skip_semicolon x.1)) read')

pub ensures_stops : (e : the_stop.Stop) (may : Bool) (before : Clauses) (ts : List Token) (t : Token) (us : List Token) → ts ≡ t ∷ us → begins_requires t.kind ≡ false → begins_ensures t.kind ≡ true → Stops e (clause_at limit before.ensures ts us) → Stops e (clause_turn limit may before ts)
unfolding clause_turn
ensures_stops e may before ts t us first not begins read =
    let read' : Stops e (clause_at limit before.ensures (t ∷ us) us) = subst (λ l. Stops e (clause_at limit before.ensures l us)) first read in
    rw (first, not, begins) (stops_after e (clause_at limit before.ensures (t ∷ us) us) (λ x. Ok (Some (with_ensures before x.0), skip_semicolon x.1)) read')

pub measure_stops : (e : the_stop.Stop) (may : Bool) (before : Clauses) (ts : List Token) (t : Token) (us : List Token) → ts ≡ t ∷ us → begins_requires t.kind ≡ false → begins_ensures t.kind ≡ false → (may && not before.measured && is_measure t.kind) ≡ true → Stops e (clause_at limit 0 ts us) → Stops e (clause_turn limit may before ts)
unfolding clause_turn
measure_stops e may before ts t us first not neither begins read =
    let read' : Stops e (clause_at limit 0 (t ∷ us) us) = subst (λ l. Stops e (clause_at limit 0 l us)) first read in
    rw (first, not, neither, begins) (stops_after e (clause_at limit 0 (t ∷ us) us) (λ x. Ok (Some (with_measure before x.0), skip_semicolon x.1)) read')
