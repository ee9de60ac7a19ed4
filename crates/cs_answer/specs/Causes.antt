-- Why a check is undecided, and what is so then.
use Rattle.std.specs.Prelude.{◌≡◌, ℕ, ◌≤◌, pos, unsigned_abs, nat_le, Bool, true, false, not, ◌&&◌, ◌||◌, List, map, Some, None, slice_get}
use Rattle.std.specs.List.{list_any}
use Rattle.std.specs.Ordering.{int_eq}
use Rattle.vx_frac.specs.Fraction.{fraction}
use Rattle.vx_frac.specs.Fractions.{denominator}
use Rattle.vx_terms.specs.Sorts.{Sort, IntSort, RealSort, Operator, Multiply, Div, Mod}
use Rattle.vx_terms.specs.Terms.{Term, Number, Part, Binary, sort_of}
use Rattle.cs_meter.specs.Calls.{call_fits}
use Rattle.cs_certificate.specs.Terms.{numbered}
use Rattle.cs_certificate.specs.Certificate.{Stack}
use Rattle.vx_terms.specs.Interpretations.{Each}
use Rattle.cs_numbers.specs.Laws.{IsSorted}
use Rattle.cs_proof.specs.declared.step.Step.{Step}
use Rattle.cs_proof.specs.Answers.{Answers}
use Rattle.cs_proof.specs.Checking.{NotEmpty}
use Rattle.cs_proof.specs.Views.{written}
use Rattle.cs_answer.specs.Deeds.{wanted, deeds}
use Rattle.cs_answer.specs.declared.answer.Cause.{Cause}
use Rattle.cs_answer.specs.declared.answer.Cause.TheVariants as causes

abbrev pub is_literal : Term → Bool
is_literal (Number z) = true
is_literal (Part a) = true
is_literal t = false

-- a whole number other than 0
abbrev pub is_divisor : Term → Bool
is_divisor (Number z) = not (int_eq z (pos 0))
is_divisor t = false

-- a product of two terms that are no literals, or a quotient or a remainder by a term that is no literal other than 0
abbrev pub joins_nonlinearly : Operator → Term → Term → Bool
joins_nonlinearly Multiply t u = not (is_literal t) && not (is_literal u)
joins_nonlinearly Div t u = not (is_divisor u)
joins_nonlinearly Mod t u = not (is_divisor u)
joins_nonlinearly o t u = false

abbrev pub is_nonlinear : Term → Bool
is_nonlinear (Binary o t u) = joins_nonlinearly o t u
is_nonlinear t = false

-- of the term that has this number, as certificates number the terms of the assertions
abbrev pub is_nonlinear_at : List Term → ℕ → Bool
is_nonlinear_at assertions n = elim (slice_get (numbered assertions) n) [ Some t ↦ is_nonlinear t | None ↦ false ]

abbrev pub is_number_sort : Sort → Bool
is_number_sort IntSort = true
is_number_sort RealSort = true
is_number_sort a = false

-- of sort Int or Real
abbrev pub is_number : Term → Bool
is_number t = is_number_sort (sort_of t)

-- an assertion, or a part of one, is
abbrev pub has_number : List Term → Bool
has_number assertions = list_any is_number (numbered assertions)

-- a numerator or a denominator of this size is large
abbrev pub large : ℕ
large = 32768

-- a literal with a large numerator or denominator
abbrev pub is_large : Term → Bool
is_large (Number z) = nat_le large (unsigned_abs z)
is_large (Part a) = nat_le large (unsigned_abs a.numerator) || nat_le large (unsigned_abs (denominator a))
is_large t = false

-- an assertion has such a literal
abbrev pub has_large : List Term → Bool
has_large assertions = list_any is_large (numbered assertions)

-- so many deeds were done: these steps have them, and over well-sorted assertions the checker finds that all of them hold and that no clause is empty
pub record HasWorked (stack : Stack) : Type 0 where
  pub steps : List Step
  pub many : wanted ≤ deeds steps
  pub open_still : Each IsSorted stack.assertions → Answers stack (map written steps) NotEmpty

-- What is so where a check is undecided by a cause. Without Int and Real it is the first.
abbrev pub IsCause : Stack → Cause → Type 0
-- all that an attempt may do was done
IsCause stack causes.Budget = HasWorked stack
-- there are numbers, a literal among them is large, and the call leaves 128 bits
IsCause stack (causes.Over call) = (has_number stack.assertions ≡ true) × (has_large stack.assertions ≡ true) × (call_fits call.op (fraction call.a) (fraction call.b) ≡ false)
-- there are numbers, and the term of this number is nonlinear
IsCause stack (causes.Nonlinear n) = (has_number stack.assertions ≡ true) × (is_nonlinear_at stack.assertions n ≡ true)
