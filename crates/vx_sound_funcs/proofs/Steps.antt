-- The steps of an application that is allowed firmly.
use Rattle.std.proofs.Common.{◌≡◌, true, List, Option, Some, None, refl, sym, ◌∙◌, ap}
use Rattle.std.specs.Prelude.{Ok, Err}
use Rattle.std.proofs.lemmas.Option.{same_Some}
use Rattle.vx_frac.specs.Fractions.{full}
use Rattle.vx_ast.specs.Syntax.{Name, Program, Function, function_named, conjoined}
use Rattle.vx_meaning.specs.Values.{Value, IntValue, BoolValue, RefValue, PermValue, is_true}
use Rattle.vx_meaning.specs.States.{State, Holdings, bind, with_store}
use Rattle.vx_meaning.specs.Fits.{Checked, ◌>>=◌, guard, to_option, Deeper, fit, take}
use Rattle.vx_meaning.specs.Fails.{with_result}
use Rattle.vx_sound_preds.proofs.Fitting.{undo, guarded}
use Rattle.vx_sound_preds.proofs.Framing.{ok_same}
use Rattle.vx_sound_funcs.specs.Told.{precondition_of}
use Rattle.vx_sound_funcs.specs.Firm.{start_of, promised, firm_value, firm_application}

pub record Steps (p : Program) (d : Deeper) (g : Function) (vs : List Value) (s : State) (v : Value) : Type 0 where
  pub rest : Holdings
  pub takes : take p d (with_store (bind g.parameters vs) s) full (precondition_of g) s.holdings ≡ Ok rest
  pub start : State
  pub starts : start_of p d g vs s.heap ≡ Ok start
  pub fits : fit p d start g.body ≡ Ok v
  pub keeps : fit p d (with_result v start) (conjoined g.place g.ensures) ≡ Ok (BoolValue true)

pub nothing_some : {A : Type 0} {B : Type 0} (a : A) → ◌≡◌ {A = Option A} None (Some a) → B
nothing_some a e = cc

pub some_of : {A : Type 0} (x : Checked A) (a : A) → to_option x ≡ Some a → x ≡ Ok a
some_of (Ok b) a e = ap Ok (same_Some b a e)
some_of (Err at) a e = nothing_some a e

truth_is : (v : Value) → is_true v ≡ true → v ≡ BoolValue true
truth_is (BoolValue b) e = ap BoolValue e
truth_is (IntValue z) e = cc
truth_is (RefValue r) e = cc
truth_is (PermValue q) e = cc

module _ (p : Program) (d : Deeper) where
  pub steps : (g : Function) (vs : List Value) (s : State) (v : Value) → to_option (firm_value p d g vs s) ≡ Some v → Steps p d g vs s v
  steps g vs s v e =
      let promise = λ (u : State). promised p d g u in
      let body = λ (u : State). fit p d u g.body >>= promise u in
      let x = undo (take p d (with_store (bind g.parameters vs) s) full (precondition_of g) s.holdings) (λ _. start_of p d g vs s.heap >>= body) v (some_of _ v e) in
      let y = undo (start_of p d g vs s.heap) body v x.then in
      let z = undo (fit p d y.it g.body) (promise y.it) v y.then in
      let w = undo (fit p d (with_result z.it y.it) (conjoined g.place g.ensures)) (λ w. guard g.place (is_true w) >>= λ _. Ok z.it) v z.then in
      let b = undo (guard g.place (is_true w.it)) (λ _. Ok z.it) v w.then in
      let same : z.it ≡ v = ok_same z.it v b.then in
      record {
        rest = x.it;
        takes = x.is;
        start = y.it;
        starts = y.is;
        fits = z.is ∙ ap Ok same;
        keeps = ap (λ (v : Value). fit p d (with_result v y.it) (conjoined g.place g.ensures)) (sym same) ∙ w.is ∙ ap Ok (truth_is w.it (guarded g.place (is_true w.it) b.it b.is));
      }

  value_of : (g : Function) (vs : List Value) (s : State) (v : Value) → Steps p d g vs s v → to_option (firm_value p d g vs s) ≡ Some v
  value_of g vs s v k =
      let promise = λ (u : State). promised p d g u in
      let body = λ (u : State). fit p d u g.body >>= promise u in
      ap (λ (x : Checked Holdings). to_option (x >>= λ _. start_of p d g vs s.heap >>= body)) k.takes ∙ ap (λ (x : Checked State). to_option (x >>= body)) k.starts
      ∙ ap (λ (x : Checked Value). to_option (x >>= promise k.start)) k.fits ∙ ap (λ (x : Checked Value). to_option (x >>= λ w. guard g.place (is_true w) >>= λ _. Ok v)) k.keeps

  abbrev side : List Value → State → Option Function → Option Value
  side vs s None = None
  side vs s (Some g) = to_option (firm_value p d g vs s)

  -- an application that is allowed firmly, and its function
  pub record Found (f : Name) (vs : List Value) (s : State) (v : Value) : Type 0 where
    pub g : Function
    pub named : function_named p f ≡ Some g
    pub steps : Steps p d g vs s v

  pub found : (f : Name) (vs : List Value) (s : State) (v : Value) → firm_application p d f vs s ≡ Some v → Found f vs s v
  found f vs s v e = go (function_named p f) refl e
    where
      go : (o : Option Function) → function_named p f ≡ o → side vs s o ≡ Some v → Found f vs s v
      go None is e = nothing_some v e
      go (Some g) is e = record { g = g; named = is; steps = steps g vs s v e }

  pub steps_of : (f : Name) (g : Function) (vs : List Value) (s : State) (v : Value) → function_named p f ≡ Some g → firm_application p d f vs s ≡ Some v → Steps p d g vs s v
  steps_of f g vs s v named e = go (function_named p f) named e
    where
      go : (o : Option Function) → o ≡ Some g → side vs s o ≡ Some v → Steps p d g vs s v
      go None is e = nothing_some g is
      go (Some h) is e = steps g vs s v (ap (λ (o : Option Function). side vs s o) (sym is) ∙ e)

  pub allowed : (f : Name) (g : Function) (vs : List Value) (s : State) (v : Value) → function_named p f ≡ Some g → Steps p d g vs s v → firm_application p d f vs s ≡ Some v
  allowed f g vs s v named k = go (function_named p f) named
    where
      go : (o : Option Function) → o ≡ Some g → side vs s o ≡ Some v
      go o is = ap (λ (o : Option Function). side vs s o) is ∙ value_of g vs s v k
