-- Hints that lead from what is assumed to a clause that leaves nothing.
use Rattle.std.specs.Prelude.{ℕ, Bool, true, false, not, cond, nat_eq, ◌&&◌, ◌||◌, List, [], ◌∷◌, ◌++◌, Option, Some, None, slice_get}
use Rattle.vx_terms.specs.Terms.{same_bool}
use Rattle.cs_certificate.specs.declared.literal.Literal.{Literal}
use Rattle.cs_certificate.specs.declared.literal.Left.{Left}
use Rattle.cs_certificate.specs.declared.literal.Left.TheVariants.{Nothing, One, Many}
use Rattle.cs_certificate.specs.declared.literal.Clause.{Clause}

abbrev pub same_literal : Literal → Literal → Bool
same_literal a b = nat_eq a.number b.number && same_bool a.positive b.positive

-- one is the other's negation
abbrev pub opposite : Literal → Literal → Bool
opposite a b = nat_eq a.number b.number && not (same_bool a.positive b.positive)

abbrev pub denied : List Literal → Literal → Bool
denied [] l = false
denied (m ∷ ms) l = opposite m l || denied ms l

abbrev pub with : Left → Literal → Left
with Nothing l = One l
with (One m) l = cond (same_literal m l) (One m) Many
with Many l = Many

-- what is left of a clause, after what was found before
abbrev pub left : Left → List Literal → List Literal → Left
left found assumed [] = found
left found assumed (l ∷ ls) = left (cond (denied assumed l) found (with found l)) assumed ls

-- what follows from what is left
abbrev pub after : Left → (Literal → Bool) → Bool
after Nothing next = true
after (One l) next = next l
after Many next = false

abbrev pub at_hint : Option Clause → List Literal → (Literal → Bool) → Bool
at_hint None assumed next = false
at_hint (Some c) assumed next = after (left Nothing assumed c.literals.items) next

abbrev pub refutes : List Clause → List Literal → List ℕ → Bool
refutes clauses assumed [] = false
refutes clauses assumed (h ∷ hs) = at_hint (slice_get clauses h) assumed (λ l. refutes clauses (assumed ++ l ∷ []) hs)
