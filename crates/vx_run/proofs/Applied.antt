-- A function that is applied, by its level.
use Rattle.std.proofs.Common.{◌≡◌, ◌≢◌, ℕ, ◌-◌, List, ◌∷◌, Option, Some, None, Result, Ok, Err, sym, ◌∙◌, ap}
use Rattle.vx_ast.specs.declared.Place.{Place}
use Rattle.vx_ast.specs.Syntax.{Name, Function, function_named}
use Rattle.vx_meaning.specs.Values.{Value}
use Rattle.vx_meaning.specs.States.{State, bind, with_store}
use Rattle.vx_run.specs.Going.{Going, Outcome, Supply, Failed, Running, ◌>>=◌, gives, expect, failing_as, step}
use Rattle.vx_run.specs.Evaluated.{Reading}
use Rattle.vx_run.specs.Blame.{counted, failed_as}
use Rattle.vx_run.specs.Configs.{Setting, Config, with_values, put_value}
use Rattle.vx_run.specs.Pending.{deeper_by, applied, apply}
use Rattle.vx_run.specs.declared.blame.Blame.{Blame}
use Rattle.vx_run.proofs.Steps.{failing_within}
use Rattle.vx_run.proofs.Levels.{still_running, applied_at}

module _ (t : Setting) (b : Blame) (n : ℕ) (r : Reading) (at : Place) (f : Name) (vs : List Value) (c : Config) (s : State) (k : Config → Going ℕ Config) (l : Supply ℕ) where
  abbrev pub applying : Going ℕ Config
  applying = put_value b c (failing_as (Failed at) ((deeper_by t n).applied r at f vs s)) >>= k

  pub no_level : n ≡ 0 → Err Running ≡ applying l
  no_level e =
      ap (λ (o : Outcome). let x : Result (Config × Supply ℕ) Outcome = Err o in x) (sym (still_running b))
      ∙ ap (λ (m : ℕ). (put_value b c (failing_as (Failed at) ((deeper_by t m).applied r at f vs s)) >>= k) l) (sym e)

  module _ (inner : Blame) (h : n ≢ 0) (q : (o : Outcome) → counted b (failed_as (Failed at) o) ≡ counted inner o) where
    abbrev entering : Option Function → Going ℕ Config
    entering o = put_value inner c (expect o (Failed at) >>= λ g. applied t (n - 1) r g (with_store (bind g.parameters vs) s)) >>= k

    entered : entering (function_named t.program f) ≡ applying
    entered =
        ap (λ (m : Going ℕ Value). put_value inner c m >>= k) (sym (applied_at t n r at f vs s h))
        ∙ ap (λ (m : Going ℕ Value). (m >>= λ v. gives (with_values (v ∷ c.values) c)) >>= k) (sym (failing_within b inner (Failed at) q ((deeper_by t n).applied r at f vs s)))

    pub no_function : function_named t.program f ≡ None → Err (counted inner (Failed at)) ≡ applying l
    no_function e = ap (λ (o : Option Function). entering o l) (sym e) ∙ ap (λ (m : Going ℕ Config). m l) entered

    pub the_function : (g : Function) → function_named t.program f ≡ Some g → (put_value inner c (applied t (n - 1) r g (with_store (bind g.parameters vs) s)) >>= k) l ≡ applying l
    the_function g e = ap (λ (o : Option Function). entering o l) (sym e) ∙ ap (λ (m : Going ℕ Config). m l) entered

-- after a function's step
module _ (t : Setting) (b : Blame) (n : ℕ) (r : Reading) (at : Place) (f : Name) (vs : List Value) (c : Config) (s : State) (k : Config → Going ℕ Config) (l : Supply ℕ) where
  abbrev stepping : Result (Unit {0} × Supply ℕ) Outcome → Result (Config × Supply ℕ) Outcome
  stepping x =
      let m : Going ℕ (Unit {0}) = λ l. x in
      (put_value b c (m >>= λ _. failing_as (Failed at) ((deeper_by t n).applied r at f vs s)) >>= k) l

  pub no_step : (o : Outcome) → Err o ≡ step l → Err (counted b o) ≡ (put_value b c (apply t n r s at f vs) >>= k) l
  no_step o e = ap stepping e

  pub stepped_on : (u : Supply ℕ) → Ok (tt, u) ≡ step l →
      (put_value b c (failing_as (Failed at) ((deeper_by t n).applied r at f vs s)) >>= k) u ≡ (put_value b c (apply t n r s at f vs) >>= k) l
  stepped_on u e = ap stepping e
