-- The worked certificate is finished.
use Rattle.std.proofs.Common.{◌≡◌, zero, suc, pos, List, [], ◌∷◌, refl, inl, inr, arith}
use Rattle.vx_terms.specs.Sorts.{IntSort, Variable, Less, Add}
use Rattle.vx_terms.specs.Terms.{Term, Number, Not, Binary}
use Rattle.vx_terms.specs.Formed.{Formed, number, constant, binary}
use Rattle.cs_certificate.specs.Terms.{equal}
use Rattle.cs_certificate.specs.Certificate.{Yes, No, derives, stays, input, define, not-0, farkas, one-literal, no-literals, reads-plain, reads-negated, one-row, no-rows, equals, not-less, propagate, forces, ends, Contains}
use Rattle.vx_terms.specs.Interpretations.{Each}
use Rattle.cs_certificate.specs.Worked.{variable, Worked}

absent : {A : Type 0} (xs : List A) (x : A) → Each (λ y. ¬ (y ≡ x)) xs → ¬ (Contains xs x)
absent [] x h (n, e) = cc
absent (y ∷ ys) x h (zero, e) = h.0 (let f : y ≡ x = cc in f)
absent (y ∷ ys) x h (suc n, e) = absent ys x h.1 (n, e)

abbrev sum_is : Term
sum_is = equal (variable 2) (Binary Add (variable 0) (Number (pos 1)))

abbrev is_below : Term
is_below = Binary Less (variable 0) (variable 2)

abbrev not_below : Term
not_below = Not is_below

-- their sorts
int_0 : Formed 3 (variable 0) IntSort
int_0 = constant (Variable 0) IntSort (omega arith)

int_2 : Formed 3 (variable 2) IntSort
int_2 = constant (Variable 2) IntSort (omega arith)

int_sum : Formed 3 (Binary Add (variable 0) (Number (pos 1))) IntSort
int_sum = binary (inl refl) int_0 (number (pos 1))

pub worked : Worked
worked = (
  _,
  derives (input refl) (derives (input refl) (derives (define refl (not-0 _))
      (derives (farkas {rows = _} (one-literal (reads-negated refl (3, binary tt int_2 int_sum)) (one-literal (reads-plain refl (3, binary (inl refl) int_0 int_2)) no-literals)) (inl refl)
      (one-row (equals _ _) (3, int_2) (3, int_sum) tt (one-row (not-less _ _) (3, int_2) (3, int_0) refl no-rows))
      record { columns = (refl, (refl, tt)); constant = inl refl })
      (derives (propagate no-literals
      (forces refl (absent [] (No sum_is) tt) ((0, refl), (inl refl, tt))
      (forces refl (absent (Yes sum_is ∷ []) (No not_below) ((λ e. cc), tt)) ((0, refl), (inl refl, tt))
      (forces refl (absent (Yes sum_is ∷ Yes not_below ∷ []) (Yes is_below) ((λ e. let h : Yes sum_is ≡ Yes is_below = e in cc), ((λ e. let h : Yes not_below ≡ Yes is_below = e in cc), tt))) ((1, refl), (inr (1, refl), (inl refl, tt)))
      (ends refl ((0, refl), ((2, refl), tt))))))) stays)))),
  (4, refl),
)
