-- Measures don't look at what is held; and an application has one measure at most.
use Rattle.std.proofs.Common.{◌≡◌, ℕ, ◌+◌, List, Option, Some, sym, ◌∙◌, ap, arith}
use Rattle.std.specs.Prelude.{option_and_then}
use Rattle.std.proofs.lemmas.Option.{same_Some}
use Rattle.vx_ast.specs.Syntax.{Name, Program, ByNumber, ByInstance}
use Rattle.vx_ast.specs.Syntax as syntax
use Rattle.vx_meaning.specs.Values.{Value}
use Rattle.vx_meaning.specs.States.{State, Instance}
use Rattle.vx_meaning.specs.Evaluate.{applications, values, value_by}
use Rattle.vx_meaning.specs.Fails.{Measure, Inside, number_of, measure_by, HasMeasure}
use Rattle.vx_sound.proofs.Fuel.{value_more, values_more, applications_later}
use Rattle.vx_sound.proofs.Stripped.{stripped, value_stripped, values_stripped, applies_stripped}
use Rattle.vx_sound_preds.proofs.Fitting.{step}
use Rattle.vx_sound_preds.proofs.Flats.{came}

module _ (p : Program) where
  abbrev inside : Name → List Value → Option Measure
  inside i vs = let j : Instance = record { predicate = i; arguments = vs } in Some (Inside j)

  by_stripped : (n : ℕ) (s : State) (e : syntax.Measure) → measure_by p n s e ≡ measure_by p n (stripped s) e
  by_stripped n s (ByNumber e) = ap (option_and_then number_of) (value_stripped p n (applies_stripped p n) s e)
  by_stripped n s (ByInstance at i es) = ap (option_and_then (inside i)) (values_stripped p n (applies_stripped p n) s es)

  pub measure_stripped : (s t : State) (e : syntax.Measure) (m : Measure) → stripped s ≡ t → HasMeasure p s e m → HasMeasure p t e m
  measure_stripped s t e m is (n, has) = (n, ap (λ (t : State). measure_by p n t e) (sym is) ∙ sym (by_stripped n s e) ∙ has)

  measure_more : (k n : ℕ) (s : State) (e : syntax.Measure) (m : Measure) → measure_by p n s e ≡ Some m → measure_by p (k + n) s e ≡ Some m
  measure_more k n s (ByNumber e) m eq =
      let x = came (value_by p n s e) number_of m eq in
      step number_of x.it (value_more p (applications p n) (applications p (k + n)) (applications_later p k n) s e x.it x.is) ∙ x.then
  measure_more k n s (ByInstance at i es) m eq =
      let x = came (values p (applications p n) s es) (inside i) m eq in
      step (inside i) x.it (values_more p (applications p n) (applications p (k + n)) (applications_later p k n) s es x.it x.is) ∙ x.then

  pub one_measure : (s : State) (e : syntax.Measure) (m k : Measure) → HasMeasure p s e m → HasMeasure p s e k → m ≡ k
  one_measure s e m k a b =
      let z : b.0 + a.0 ≡ a.0 + b.0 = omega arith in
      same_Some m k (sym (measure_more b.0 a.0 s e m a.1) ∙ ap (λ (n : ℕ). measure_by p n s e) z ∙ measure_more a.0 b.0 s e k b.1)
