-- How many links of a lane are out, with one more.
use Rattle.std.proofs.Common.{◌≡◌, ℕ, zero, suc, ◌+◌, ◌==◌, List, [], ◌∷◌, ◌++◌, count_by, refl, sym, ap, ◌∙◌}
use Rattle.std.proofs.Math.Dec.{eqb-zero-suc, eqb-suc-zero, eqb-suc-suc}
use Rattle.std.proofs.lemmas.List.Sums.{sum_by_push}
use Rattle.std.specs.Prelude.{if◌then◌else◌}

turned : (a b : ℕ) → (a == b) ≡ (b == a)
turned zero zero = refl
turned zero (suc b) = eqb-zero-suc b ∙ sym (eqb-suc-zero b)
turned (suc a) zero = eqb-suc-zero a ∙ sym (eqb-zero-suc a)
turned (suc a) (suc b) = eqb-suc-suc a b ∙ turned a b ∙ sym (eqb-suc-suc b a)

pub owed_on : (xs : List ℕ) (lane other : ℕ) → count_by (λ y. y == other) (xs ++ lane ∷ []) ≡ count_by (λ y. y == other) xs + (if other == lane then 1 else 0)
owed_on xs lane other =
    sum_by_push (λ y. if y == other then 1 else 0) xs lane ∙ ap (λ b. count_by (λ y. y == other) xs + (if b then 1 else 0)) (turned lane other)
