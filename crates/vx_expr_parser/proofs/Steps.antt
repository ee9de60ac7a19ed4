-- The steps of reading that nest.
use Rattle.std.proofs.Common.{◌≡◌, ℕ, suc, ◌+◌, ◌-◌, ◌≤◌, List, ◌∷◌, Some, Result, Ok, Err, refl, sym, ap, subst, ◌∙◌, arith, true, eqb}
use Rattle.std.proofs.lemmas.Bool.{eq-eqb}
use Rattle.vx_ast.specs.declared.Place.{Place}
use Rattle.vx_ast.specs.declared.BinaryOperator.{BinaryOperator}
use Rattle.vx_tokens.specs.Tokens.{Token}
use Rattle.vx_ast.specs.Written.{Expr, Binary}
use Rattle.vx_grammar.specs.Grammar.{level_of, operator_of}
use Rattle.vx_grammar.specs.Reading.{◌>>=◌, enclosed, expect, TooDeep, Read, Deeper, Part, Given, chain, rest_of_chain, below, part_at, chain_at, rest_at, rest_by, operator_by}
use Rattle.vx_grammar.specs.Nesting.{nests, is_full}
use Rattle.vx_expr_parser.specs.declared.stop.Stop as the_stop
use Rattle.vx_expr_parser.specs.declared.stop.Stop.TheVariants as stops
use Rattle.vx_tokens.specs.declared.token.Symbol.TheVariants as signs
use Rattle.vx_expr_parser.specs.Gives.{Gives}
use Rattle.vx_expr_parser.specs.Parts.{behind_operator, closed_by}

pub nested_is : {X : Type 0} (p : Part) (view : X → Given p × List Token) (result : Result X the_stop.Stop) (room less : ℕ) (here ts : List Token)
    → (1 ≤ room) × (less ≡ room - 1) → Gives view result (part_at (below less) p ts) → Gives view result (below room p here ts)
nested_is p view result room less here ts h g =
    let r : room ≡ less + 1 = omega (arith, h.0, h.1) in
    subst (Gives view result) (sym (nests room less p here ts r)) g

-- an operator of the level stands in front
pub record HasOperator (ts : List Token) (t : Token) (inner : List Token) (op : BinaryOperator) (level : ℕ) : Type 0 where
  pub tokens : ts ≡ t ∷ inner
  pub operator : operator_of t.kind ≡ Some op
  pub of_level : level_of op ≡ level
  pub low : 1 ≤ level

pub has_operator : (deeper : Deeper) (level : ℕ) (start : Place) (left : Expr) (ts : List Token) (t : Token) (inner : List Token) (op : BinaryOperator) → HasOperator ts t inner op level
    → rest_at deeper (level - 1) start left ts ≡ operator_by deeper (level - 1) start left t inner op
unfolding rest_at rest_by
has_operator deeper level start left ts t inner op h =
    let k : level_of op ≡ suc (level - 1) = omega (arith, h.of_level, h.low) in
    let b : eqb (level_of op) (suc (level - 1)) ≡ true = eq-eqb _ _ k in
    rw (h.tokens, h.operator, b) refl

-- no part nests behind an operator
pub operator_full : (room level : ℕ) (start : Place) (left : Expr) (here : List Token) (t : Token) (inner : List Token) (op : BinaryOperator) → (1 ≤ room → ⊥) → here ≡ t ∷ inner
    → operator_by (below room) level start left t inner op ≡ Err (TooDeep here)
unfolding operator_by
operator_full room level start left here t inner op full first =
    let z : room ≡ 0 = omega (arith, full) in
    rw (is_full room (chain level) (t ∷ inner) inner z) refl ∙ ap (λ (u : List Token). Err (TooDeep u)) (sym first)

pub operator_is : {X : Type 0} (view : X → Expr × List Token) (result : Result X the_stop.Stop) (room less level : ℕ) (start : Place) (left : Expr) (t : Token) (inner : List Token) (op : BinaryOperator) → (1 ≤ room) × (less ≡ room - 1)
    → Gives view result (behind_operator (below less) level start left op inner) → Gives view result (operator_by (below room) level start left t inner op)
unfolding operator_by
operator_is view result room less level start left t inner op n g =
    let r : room ≡ less + 1 = omega (arith, n.0, n.1) in
    let k : operator_by (below room) level start left t inner op ≡ behind_operator (below less) level start left op inner =
    ap (λ x. x >>= λ right. below room (rest_of_chain level start (Binary start op left right.0)) right.1 right.1) (nests room less (chain level) (t ∷ inner) inner r)
    ∙ ap (λ (f : Expr × List Token → Read Expr). chain_at (below less) level inner >>= f) (λ i right. nests room less (rest_of_chain level start (Binary start op left right.0)) right.1 right.1 r i) in
    subst (Gives view result) (sym k) g

-- ---- parts between parentheses

-- what was read, seen by view
abbrev seen : {X Y : Type 0} → (X → Y) → Read X → Read Y
seen view read = read >>= λ x. Ok (view x.0, x.1)

pub closes : {X Y Z : Type 0} (view : X → Y) (tail : Z → List Token) (value : X) (result : Result (X × Z) the_stop.Stop) (close : Read Token)
    → Gives (λ x. (x.0, tail x.1)) result (closed_by value close) → Gives (λ x. (view x.0, tail x.1)) result (closed_by (view value) close)
closes view tail value (Ok x) (Ok c) g = ap (seen view) g
closes view tail value (Ok x) (Err stop) g = ap (seen view) g
closes view tail value (Err stops.Memory) close g = tt
closes view tail value (Err (stops.Unexpected ts)) (Ok c) g = ap (seen view) g
closes view tail value (Err (stops.Unexpected ts)) (Err stop) g = ap (seen view) g
closes view tail value (Err (stops.Measured ts)) (Ok c) g = ap (seen view) g
closes view tail value (Err (stops.Measured ts)) (Err stop) g = ap (seen view) g
closes view tail value (Err (stops.TooDeep ts)) (Ok c) g = ap (seen view) g
closes view tail value (Err (stops.TooDeep ts)) (Err stop) g = ap (seen view) g

pub encloses : {X Z : Type 0} (p : Part) (view : X → Given p) (tail : Z → List Token) (value : X) (result : Result (X × Z) the_stop.Stop) (deeper : Deeper) (ts : List Token) (t : Token) (inner rest : List Token)
    → expect signs.Open ts ≡ Ok (t, inner) → deeper p ts inner ≡ Ok (view value, rest) → Gives (λ x. (x.0, tail x.1)) result (closed_by value (expect signs.Close rest)) → Gives (λ x. (view x.0, tail x.1)) result (enclosed deeper p ts)
unfolding enclosed
encloses p view tail value result deeper ts t inner rest opened inside g = rw (opened, inside) (closes view tail value result (expect signs.Close rest) g)
