-- What is true, and what can be, under interpretations.
use Rattle.std.proofs.Common.{◌≡◌, Bool, true, false, [], ◌∷◌, refl}
use Rattle.std.specs.Prelude.{not}
use Rattle.vx_terms.specs.Interpretations.{IsTrueIn, IsSatisfiable, IsUnsatisfiable}
use Rattle.vx_examples.specs.Words.{int, bool, number, falsity, denied, less}
use Rattle.vx_examples.specs.Interpreted.{some}

pub satisfying_satisfiable : IsSatisfiable (less (number 4) (int 0) ∷ bool 1 ∷ [])
satisfying_satisfiable = (some, (refl, (refl, tt)))

false_is_not : false ≡ true → ⊥
false_is_not e = cc

pub satisfying_not_satisfiable : IsSatisfiable (bool 1 ∷ falsity ∷ []) → ⊥
satisfying_not_satisfiable s = false_is_not s.1.1.0

both_ways : (b : Bool) → b ≡ true → not b ≡ true → ⊥
both_ways true e d = false_is_not d
both_ways false e d = false_is_not e

pub satisfying_unsatisfiable : IsUnsatisfiable (bool 0 ∷ denied (bool 0) ∷ [])
satisfying_unsatisfiable i h = both_ways _ h.0 h.1.0

pub satisfying_not_unsatisfiable : IsUnsatisfiable (bool 1 ∷ []) → ⊥
satisfying_not_unsatisfiable u = u some (refl, tt)

pub satisfying_true_in : IsTrueIn some (less (number 4) (int 0))
satisfying_true_in = refl

pub satisfying_not_true : IsTrueIn some (less (int 0) (number 4)) → ⊥
satisfying_not_true e = false_is_not e
