-- What was held folded is held where the body is given in the place of its instance.
use Rattle.std.proofs.Common.{arith, ◌≡◌, ◌≤◌, ℕ, Bool, true, Some, refl, sym, ap, subst}
use Rattle.std.specs.Prelude.{Ok}
use Rattle.vx_ast.specs.declared.ValueType.TheVariants as type
use Rattle.vx_frac.specs.Fractions.{Fraction}
use Rattle.vx_ast.specs.Syntax.{Program, Predicate, predicate_named, Expr, Assertion, Pure, Points, Both, Implied, Chosen}
use Rattle.vx_ast.specs.Syntax as syntax
use Rattle.vx_meaning.specs.Values.{Value, IntValue, BoolValue, RefValue, PermValue, type_of}
use Rattle.vx_meaning.specs.States.{State, Holdings, Location, Instance, Folded, bind, lost, with_store, with_holdings}
use Rattle.vx_meaning.specs.Consistent.{IsHeld}
use Rattle.vx_meaning.specs.Fits.{has_instance, fit_by, deeper, exchange}
use Rattle.vx_meaning.specs.Outcomes.{Ends}
use Rattle.vx_meaning.specs.Give.{give}
use Rattle.vx_types.specs.Typing.{Scope, HasType, IsTyped}
use Rattle.vx_types.specs.Premises.{IsTypedProgram}
use Rattle.vx_sound.proofs.Stripped.{fit_worth}
use Rattle.vx_sound_preds.proofs.Gives.{IsBool, HasBools, give_adds}
use Rattle.vx_sound_preds.proofs.TypedValues.{AreTyped, has_type, applications_typed}
use Rattle.vx_runs.proofs.Followed.{Sane}
use Rattle.vx_runs.proofs.Exchanging.{unfolds, exchange_sane}

module _ (p : Program) (typed : IsTypedProgram p) where
  is_bool : (v : Value) → type_of v ≡ type.Bool → IsBool v
  is_bool (BoolValue b) e = tt
  is_bool (IntValue z) e = cc
  is_bool (RefValue r) e = cc
  is_bool (PermValue q) e = cc

  bool_there : (ds : Scope) (c : Expr) → HasType p ds c type.Bool → (n : ℕ) (s : State) (v : Value) → AreTyped ds s.store → fit_by p n s c ≡ Ok v → IsBool v
  bool_there ds c ty n s v k e = is_bool v (has_type p typed.functions n (applications_typed p typed.functions n) s k ty v (fit_worth p n s c v e))

  has_bools : (ds : Scope) (a : Assertion) → IsTyped p ds a → HasBools p (λ s. AreTyped ds s.store) a
  has_bools ds (Pure e) t = tt
  has_bools ds (Points at e f share) t = tt
  has_bools ds (syntax.Instance at i es share) t = tt
  has_bools ds (Both a b) t = (has_bools ds a t.0, has_bools ds b t.1)
  has_bools ds (Implied c a) t = (bool_there ds c t.0, has_bools ds a t.1)
  has_bools ds (Chosen c a b) t = (bool_there ds c t.0, has_bools ds a t.1, has_bools ds b t.2)

  -- what was held is held where an instance's body is given in its place
  pub unfolded_covers : (Possible : State → Type 0) (s t : State) (i : Instance) (q : Fraction) (d : Predicate) (e : Assertion) → predicate_named p i.predicate ≡ Some d → d.body ≡ Some e → IsTyped p d.parameters e → AreTyped d.parameters (bind d.parameters i.arguments) →
      Sane p s.heap s.holdings → has_instance s i q ≡ true → give p Possible q e (with_store (bind d.parameters i.arguments) (with_holdings (lost (Folded i) q s.holdings) s)) (Ends t) → (l : Location) → IsHeld p s.heap s.holdings l → IsHeld p s.heap t.holdings l
  unfolded_covers Possible s t i q d e named is ty vars sane has r l z =
      let g = give_adds p Possible q (λ s. AreTyped d.parameters s.store) (λ h s k. k) e (with_store (bind d.parameters i.arguments) (with_holdings (lost (Folded i) q s.holdings) s)) t (has_bools d.parameters e ty) vars r in
      let n = g.fuel in
      let eq : exchange p (deeper p n) i q s ≡ Some (with_store s.store t) = unfolds p (deeper p n) i q s (with_store s.store t) record { predicate = d; named = named; body = e; body_is = is; after = t; adds = g.adds n (self n); is = refl } in
      let x = exchange_sane p typed n i q s (with_store s.store t) sane has eq in
      subst (λ (hs : Holdings). IsHeld p s.heap hs l) (sym (ap (λ (u : State). u.holdings) x.is)) (x.covers l z)
    where
      self : (n : ℕ) → n ≤ n
      self n = omega arith
