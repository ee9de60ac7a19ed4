use Rattle.std.proofs.lemmas.Grind.{elements}
use Rattle.std.proofs.Common.{◌≡◌, ℕ, ◌≤◌, Bool, false, Option, Some, None, List, map, length, sym, ◌∙◌, ap, subst, arith}
use Rattle.std.proofs.lemmas.List.{length-map}
use Rattle.std.proofs.lemmas.Option.{slice_get_past}
use Rattle.vx_terms.specs.Terms.{Term}
use Rattle.cs_certificate.specs.Terms.{numbered}
use Rattle.cs_answer.specs.Causes.{is_nonlinear, is_nonlinear_at}
use Rattle.cs_answer.proofs.nonlinear.is_nonlinear_at.Goals as goal

told : Option Term → Bool
told (Some t) = is_nonlinear t
told None = false

-- no term has a number beyond theirs
nowhere : {A : Type 0} (f : A → Term) (xs ys : List A) (ts : List Term) (n : ℕ) → map f xs ≡ numbered ts → ys ≡ xs → length ys ≤ n → false ≡ is_nonlinear_at ts n
unfolding told
nowhere f xs ys ts n e same le =
    let count = sym (ap length e) ∙ length-map xs f ∙ sym (ap length same) in
    sym (ap told (slice_get_past (numbered ts) n (subst (λ k. k ≤ n) (sym count) le)))

pub returns : goal.returns
returns c =
    let read = rw c.in_ok-numbered.was at c.number.ensures in
    nowhere _ _ _ _ c.args.at (read ∙ c.numbers_are_given.ensures.first _) c.deref.ensures.value c.in-None.ensures.lookup.3

pub returns-in-Some : goal.returns-in-Some
returns-in-Some c = grind (arith, elements)
