-- An application that is allowed firmly keeps its promise: where its function starts with `result` among the variables, the
-- postcondition is true.
use Rattle.std.proofs.Common.{◌≡◌, ℕ, true, List, [], ◌∷◌, ◌++◌, Some, refl, sym, ◌∙◌, ap}
use Rattle.vx_frac.specs.Fractions.{full}
use Rattle.vx_ast.specs.Syntax.{Name, result_name, Program, Function, function_named, conjoined}
use Rattle.vx_types.specs.Premises.{IsTypedProgram}
use Rattle.vx_meaning.specs.Values.{Value, BoolValue}
use Rattle.vx_meaning.specs.States.{State, Store, bind, lookup}
use Rattle.vx_meaning.specs.Flatten.{bare}
use Rattle.vx_meaning.specs.Fails.{with_result}
use Rattle.vx_sound_preds.specs.Bodies.{GoodBodies}
use Rattle.vx_sound_preds.proofs.Speaking.{good}
use Rattle.vx_sound_funcs.specs.Told.{precondition_of}
use Rattle.vx_sound_funcs.specs.Firm.{firmly, GoodFunctions}
use Rattle.vx_sound_funcs.proofs.Fits.{add_stays}
use Rattle.vx_sound_funcs.proofs.Steps.{Steps, steps_of}
use Rattle.vx_sound_funcs.proofs.TypedFunctions.{good_functions}
use Rattle.vx_sound_funcs.proofs.Firm.{asking_now}
use Rattle.vx_sound_funcs.proofs.Further.{Further, firm_further, firm_adds}
use Rattle.vx_law.specs.Means.{Promise, PromisesKept}
use Rattle.vx_law.proofs.Longer.{found_longer}

module _ (p : Program) (bodies : GoodBodies p) (functions : GoodFunctions p) where
  pub promise_of : (n : ℕ) (f : Name) (g : Function) (vs : List Value) (s : State) (v : Value) → function_named p f ≡ Some g → Steps p (firmly p n) g vs s v → Promise p g vs v s.heap
  promise_of n f g vs s v named k =
      let before = bare (bind g.parameters vs) s.heap in
      let inside = bare (bind g.parameters vs ++ (result_name, v) ∷ []) s.heap in
      let longer : Further before inside = record { variables = found_longer (bind g.parameters vs) ((result_name, v) ∷ []); heap = refl; holdings = refl } in
      let begun = add_stays p (firmly p n) full (precondition_of g) before k.start k.starts in
      let a = firm_adds p bodies functions n before inside longer full (precondition_of g) k.start (asking_now p (precondition_of g) (functions.asks f g named)) k.starts in
      let there = add_stays p (firmly p n) full (precondition_of g) inside a.after a.adds in
      let same = ap (λ (xs : Store). xs ++ (result_name, v) ∷ []) begun.store ∙ sym there.store in
      let with_it : Further (with_result v k.start) a.after = record { variables = λ x w l. ap (lookup x) (sym same) ∙ l; heap = a.further.heap; holdings = a.further.holdings } in
      record {
        fuel = n;
        state = a.after;
        adds = a.adds;
        fits = firm_further p bodies functions n (with_result v k.start) a.after with_it (conjoined g.place g.ensures) (BoolValue true) (functions.promises_now f g named) k.keeps;
      }

pub promises_kept : (p : Program) (x : Name) → IsTypedProgram p → PromisesKept p x
promises_kept p x typed f g vs s t v a = promise_of p (good p x typed) (good_functions p typed) a.fuel f g vs s v a.named (steps_of p (firmly p a.fuel) f g vs s v a.named a.value)
