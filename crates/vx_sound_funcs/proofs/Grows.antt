-- More fuel allows what less allows, firmly and as the meaning has it. So where its precondition can be taken, its start is there, its body
-- fits firmly and its promise is kept, an application has its value firmly.
use Rattle.std.proofs.Common.{◌≡◌, ℕ, zero, suc, ◌+◌, ◌-◌, ◌≤◌, Option, Some, None, refl, ◌∙◌, ap, subst, arith}
use Rattle.std.specs.Prelude.{List, true, Ok, Err}
use Rattle.vx_frac.specs.Fractions.{full}
use Rattle.vx_ast.specs.Syntax.{Name, Program, Function, function_named, conjoined}
use Rattle.vx_meaning.specs.Values.{Value, BoolValue}
use Rattle.vx_meaning.specs.States.{State, Holdings, bind, with_store}
use Rattle.vx_meaning.specs.Flatten.{bare}
use Rattle.vx_meaning.specs.Evaluate.{applications, value, value_by}
use Rattle.vx_meaning.specs.Fits.{Checked, Deeper, fit, take, application, deeper, Takes}
use Rattle.vx_sound.proofs.Fuel.{value_more, applications_later}
use Rattle.vx_meaning.specs.Fails.{with_result}
use Rattle.vx_sound_funcs.specs.Told.{precondition_of}
use Rattle.vx_sound_funcs.specs.Firm.{start_of, firm_application, firmly}
use Rattle.vx_sound_funcs.proofs.Fits.{Allows, fit_more, take_more, add_more, exchange_more}
use Rattle.vx_sound_funcs.proofs.Steps.{Steps, nothing_some, found, allowed}

module _ (p : Program) where
  steps_more : (d more : Deeper) → Allows d more → (g : Function) (vs : List Value) (s : State) (v : Value) → Steps p d g vs s v → Steps p more g vs s v
  steps_more d more allows g vs s v k = record {
    rest = k.rest;
    takes = take_more p d more allows (with_store (bind g.parameters vs) s) full (precondition_of g) s.holdings k.rest k.takes;
    start = k.start;
    starts = add_more p d more allows full (precondition_of g) (bare (bind g.parameters vs) s.heap) k.start k.starts;
    fits = fit_more p d more allows k.start g.body v k.fits;
    keeps = fit_more p d more allows (with_result v k.start) (conjoined g.place g.ensures) (BoolValue true) k.keeps;
  }

  applied_more : (d more : Deeper) → Allows d more → (f : Name) (vs : List Value) (s : State) (v : Value) → firm_application p d f vs s ≡ Some v → firm_application p more f vs s ≡ Some v
  applied_more d more allows f vs s v e =
      let k = found p d f vs s v e in
      allowed p more f k.g vs s v k.named (steps_more d more allows k.g vs s v k.steps)

  one_more : (n : ℕ) → Allows (firmly p n) (firmly p (suc n))
  one_more zero = record { applied = λ f vs s v e. nothing_some v e; opened = λ i q s u e. nothing_some u e }
  one_more (suc n) = record { applied = λ f vs s v e. applied_more (firmly p n) (firmly p (suc n)) (one_more n) f vs s v e; opened = λ i q s u e. exchange_more p (firmly p n) (firmly p (suc n)) (one_more n) i q s u e }

  pub firm_more : (k n : ℕ) → Allows (firmly p n) (firmly p (k + n))
  firm_more zero n = let z : n ≡ zero + n = omega arith in subst (λ m. Allows (firmly p n) (firmly p m)) z (record { applied = λ f vs s v e. e; opened = λ i q s u e. e })
  firm_more (suc k) n =
      let z : suc (k + n) ≡ suc k + n = omega arith in
      let one = firm_more k n in
      let two = one_more (k + n) in
      subst (λ m. Allows (firmly p n) (firmly p m)) z (record { applied = λ f vs s v e. two.applied f vs s v (one.applied f vs s v e); opened = λ i q s u e. two.opened i q s u (one.opened i q s u e) })

  -- with fuel of their own for each step
  pub applies_firmly : (f : Name) (g : Function) → function_named p f ≡ Some g → (vs : List Value) (s : State) (rest : Holdings) (u : State) (v : Value) (a b c e : ℕ) → take p (firmly p a) (with_store (bind g.parameters vs) s) full (precondition_of g) s.holdings ≡ Ok rest →
      start_of p (firmly p b) g vs s.heap ≡ Ok u → fit p (firmly p c) u g.body ≡ Ok v → fit p (firmly p e) (with_result v u) (conjoined g.place g.ensures) ≡ Ok (BoolValue true) → (k : ℕ) × (firm_application p (firmly p k) f vs s ≡ Some v)
  applies_firmly f g named vs s rest u v a b c e takes starts fits keeps = (
    a + (b + (c + e)),
    allowed p whole f g vs s v named record {
      rest = rest;
      takes = take_more p (firmly p a) whole of_a (with_store (bind g.parameters vs) s) full (precondition_of g) s.holdings rest takes;
      start = u;
      starts = add_more p (firmly p b) whole of_b full (precondition_of g) (bare (bind g.parameters vs) s.heap) u starts;
      fits = fit_more p (firmly p c) whole of_c u g.body v fits;
      keeps = fit_more p (firmly p e) whole of_e (with_result v u) (conjoined g.place g.ensures) (BoolValue true) keeps;
    },
  )
    where
      whole : Deeper
      whole = firmly p (a + (b + (c + e)))

      of_a : Allows (firmly p a) (firmly p (a + (b + (c + e))))
      of_a = let z : (b + (c + e)) + a ≡ a + (b + (c + e)) = omega arith in subst (λ m. Allows (firmly p a) (firmly p m)) z (firm_more (b + (c + e)) a)

      of_b : Allows (firmly p b) (firmly p (a + (b + (c + e))))
      of_b = let z : (a + (c + e)) + b ≡ a + (b + (c + e)) = omega arith in subst (λ m. Allows (firmly p b) (firmly p m)) z (firm_more (a + (c + e)) b)

      of_c : Allows (firmly p c) (firmly p (a + (b + (c + e))))
      of_c = let z : (a + (b + e)) + c ≡ a + (b + (c + e)) = omega arith in subst (λ m. Allows (firmly p c) (firmly p m)) z (firm_more (a + (b + e)) c)

      of_e : Allows (firmly p e) (firmly p (a + (b + (c + e))))
      of_e = let z : (a + (b + c)) + e ≡ a + (b + (c + e)) = omega arith in subst (λ m. Allows (firmly p e) (firmly p m)) z (firm_more (a + (b + c)) e)

-- An application that is allowed

abbrev after : Program → ℕ → Function → List Value → State → Checked Holdings → Option Value
after p m g vs s x = elim x as (λ _. Option Value) [ Ok h ↦ value_by p m (with_store (bind g.parameters vs) s) g.body | Err at ↦ None ]

abbrev side : Program → ℕ → List Value → State → Option Function → Option Value
side p m vs s None = None
side p m vs s (Some g) = after p m g vs s (take p (deeper p m) (with_store (bind g.parameters vs) s) full (precondition_of g) s.holdings)

-- its precondition was taken, and its body has the value
pub record TakenBy (p : Program) (m : ℕ) (g : Function) (vs : List Value) (s : State) (v : Value) : Type 0 where
  pub rest : Holdings
  pub takes : take p (deeper p m) (with_store (bind g.parameters vs) s) full (precondition_of g) s.holdings ≡ Ok rest
  pub body : value_by p m (with_store (bind g.parameters vs) s) g.body ≡ Some v

taken_after : (p : Program) (m : ℕ) (g : Function) (vs : List Value) (s : State) (v : Value) (x : Checked Holdings) → after p m g vs s x ≡ Some v →
    (rest : Holdings) × (x ≡ Ok rest) × (value_by p m (with_store (bind g.parameters vs) s) g.body ≡ Some v)
taken_after p m g vs s v (Ok h) e = (h, refl, e)
taken_after p m g vs s v (Err at) e = nothing_some v e

pub record AppliedBy (p : Program) (m : ℕ) (f : Name) (vs : List Value) (s : State) (v : Value) : Type 0 where
  pub g : Function
  pub named : function_named p f ≡ Some g
  pub taken : TakenBy p m g vs s v

pub applied_by : (p : Program) (m : ℕ) (f : Name) (vs : List Value) (s : State) (v : Value) → application p m (deeper p m) f vs s ≡ Some v → AppliedBy p m f vs s v
applied_by p m f vs s v e = go (function_named p f) refl e
  where
    go : (o : Option Function) → function_named p f ≡ o → side p m vs s o ≡ Some v → AppliedBy p m f vs s v
    go None is e = nothing_some v e
    go (Some g) is e =
        let t = taken_after p m g vs s v (take p (deeper p m) (with_store (bind g.parameters vs) s) full (precondition_of g) s.holdings) e in
        record { g = g; named = is; taken = record { rest = t.0; takes = t.1; body = t.2 } }

by_applied : (p : Program) (m : ℕ) (f : Name) (vs : List Value) (s : State) (v : Value) → AppliedBy p m f vs s v → application p m (deeper p m) f vs s ≡ Some v
by_applied p m f vs s v k = ap (side p m vs s) k.named ∙ ap (after p m k.g vs s) k.taken.takes ∙ k.taken.body

-- Fuel

by_one : (n : ℕ) (P : ℕ → Type 0) → P (1 + n) → P (suc n)
by_one n P k = let z : 1 + n ≡ suc n = omega arith in subst P z k

module _ (p : Program) where
  deeper_by_one : (n : ℕ) → Allows (deeper p n) (deeper p (suc n))
  deeper_by_one zero = record { applied = λ f vs s v e. nothing_some v e; opened = λ i q s u e. nothing_some u e }
  deeper_by_one (suc n) = record {
    applied = λ f vs s v e.
        let k = applied_by p n f vs s v e in
        let callee = with_store (bind k.g.parameters vs) s in
        by_applied p (suc n) f vs s v record {
          g = k.g;
          named = k.named;
          taken = record {
            rest = k.taken.rest;
            takes = take_more p (deeper p n) (deeper p (suc n)) (deeper_by_one n) callee full (precondition_of k.g) s.holdings k.taken.rest k.taken.takes;
            body = by_one n (λ (m : ℕ). value p (applications p m) callee k.g.body ≡ Some v) (value_more p (applications p n) (applications p (1 + n)) (applications_later p 1 n) callee k.g.body v k.taken.body);
          };
        };
    opened = λ i q s u e. exchange_more p (deeper p n) (deeper p (suc n)) (deeper_by_one n) i q s u e;
  }

  pub deeper_more : (k n : ℕ) → Allows (deeper p n) (deeper p (k + n))
  deeper_more zero n = let z : n ≡ zero + n = omega arith in subst (λ m. Allows (deeper p n) (deeper p m)) z (record { applied = λ f vs s v e. e; opened = λ i q s u e. e })
  deeper_more (suc k) n =
      let z : suc (k + n) ≡ suc k + n = omega arith in
      let one = deeper_more k n in
      let two = deeper_by_one (k + n) in
      subst (λ m. Allows (deeper p n) (deeper p m)) z (record { applied = λ f vs s v e. two.applied f vs s v (one.applied f vs s v e); opened = λ i q s u e. two.opened i q s u (one.opened i q s u e) })

  pub deeper_upto : (n m : ℕ) → n ≤ m → Allows (deeper p n) (deeper p m)
  deeper_upto n m le = let z : (m - n) + n ≡ m = omega arith in subst (λ k. Allows (deeper p n) (deeper p k)) z (deeper_more (m - n) n)

  pub firm_upto : (n m : ℕ) → n ≤ m → Allows (firmly p n) (firmly p m)
  firm_upto n m le = let z : (m - n) + n ≡ m = omega arith in subst (λ k. Allows (firmly p n) (firmly p k)) z (firm_more p (m - n) n)

  -- what is taken by some fuel is taken by more
  pub takes_from : (m : ℕ) (g : Function) (vs : List Value) (s : State) (v : Value) (k : TakenBy p m g vs s v) → Takes p (with_store (bind g.parameters vs) s) (precondition_of g) full k.rest
  takes_from m g vs s v k = (m, λ n le. take_more p (deeper p m) (deeper p n) (deeper_upto m n le) (with_store (bind g.parameters vs) s) full (precondition_of g) s.holdings k.rest k.takes)
