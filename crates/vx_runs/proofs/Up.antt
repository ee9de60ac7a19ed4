-- What fits with less fits with more, with the same value, and what is taken from less is taken from more: by induction on the fuel.
use Rattle.std.proofs.Common.{arith, ◌≡◌, ◌≤◌, ◌+◌, ℕ, zero, suc, ◌⊎◌, inl, inr, List, [], ◌∷◌, ◌++◌, Option, Some, None, refl, sym, ◌∙◌, ap, subst}
use Rattle.std.specs.Prelude.{Ok, Err}
use Rattle.std.proofs.lemmas.Bool.{and_parts}
use Rattle.vx_frac.specs.Fractions.{full, minus}
use Rattle.vx_ast.specs.Syntax.{Name, Program, Predicate, Function, function_named, joined}
use Rattle.vx_meaning.specs.Values.{Value}
use Rattle.vx_meaning.specs.States as run
use Rattle.vx_meaning.specs.States.{State, Holdings, Folded, amount, bind, lost, with_store, with_holdings}
use Rattle.vx_meaning.specs.Evaluate.{applications, value, value_by}
use Rattle.vx_meaning.specs.Fits.{Checked, deeper, Deeper, fit_all, fit_by, take, take_by, application, Eventually}
use Rattle.vx_types.specs.Typing.{Scope, HaveTypes}
use Rattle.vx_types.specs.Premises.{IsTypedProgram}
use Rattle.vx_amounts.proofs.Amounts.{Le, Positive, positive-le}
use Rattle.vx_elements.proofs.Scopes.{joined_typed}
use Rattle.vx_sound_preds.proofs.Holding.{TypedAll}
use Rattle.vx_sound_preds.proofs.Types.{found_type}
use Rattle.vx_sound_funcs.proofs.Grows.{applied_by}
use Rattle.vx_runs.specs.Law.{NoneFails}
use Rattle.vx_runs.proofs.Followed.{Any, Sane, Agree, Under, AtMost, Took, FitsRise, TakesRise}
use Rattle.vx_runs.proofs.Surely.{Surely, surely, surely_then, surely_map}
use Rattle.vx_runs.proofs.Rising.{Refuses, Rises, RisesTo, eventually_both}
use Rattle.vx_runs.proofs.Settling.{fit_settles, all_settle, take_settles}
use Rattle.vx_runs.proofs.Shared.{lost_debts}
use Rattle.vx_runs.proofs.Exchanging.{unfolded, unfolds, exchange_sane, held_typed, body_typed}
use Rattle.vx_runs.proofs.Framed.{Becomes, applies_framed}
use Rattle.vx_runs.proofs.Taking.{typed_both, add_adding, take_fewer, take_takes}
use Rattle.vx_runs.proofs.FitsUp.{OpensUp, AppliesUp, FitsUp, fits_up}
use Rattle.vx_runs.proofs.TakesUp.{front_fewer, instance_typed, takes_up, TookUp}
use Rattle.vx_runs.proofs.AddsUp.{AddUnder, adds_up}

-- what holds from one more on
pub next_on : (P : ℕ → Type 0) → Eventually (λ k. P (suc k)) → Eventually P
next_on P (from, h) = (suc from, go)
  where
    go : (k : ℕ) → suc from ≤ k → P k
    go zero le = absurd (no_less from le)
      where
        no_less : (n : ℕ) → suc n ≤ zero → ⊥
        no_less n le = omega arith
    go (suc k) le = h k (less from k le)
      where
        less : (n m : ℕ) → suc n ≤ suc m → n ≤ m
        less n m le = omega arith

-- an application from its parts
applied_from : (p : Program) (k : ℕ) (f : Name) (g : Function) (vs : List Value) (w : State) (left : Holdings) (v : Value) → function_named p f ≡ Some g → take p (deeper p k) (with_store (bind g.parameters vs) w) full (joined g.place g.requires) w.holdings ≡ Ok left →
    value_by p k (with_store (bind g.parameters vs) w) g.body ≡ Some v → application p k (deeper p k) f vs w ≡ Some v
applied_from p k f g vs w left v named taken worth = ap side named ∙ ap (after g) taken ∙ worth
  where
    after : Function → Checked Holdings → Option Value
    after g x = elim x as (λ _. Option Value) [ Ok h ↦ value_by p k (with_store (bind g.parameters vs) w) g.body | Err at ↦ None ]

    side : Option Function → Option Value
    side None = None
    side (Some g) = after g (take p (deeper p k) (with_store (bind g.parameters vs) w) full (joined g.place g.requires) w.holdings)

pub typed_first : (p : Program) (xs ys : Holdings) → TypedAll p Any (xs ++ ys) → TypedAll p Any xs
typed_first p [] ys k = tt
typed_first p (x ∷ xs) ys k = (k.0, typed_first p xs ys k.1)

module _ (p : Program) (typed : IsTypedProgram p) (none_fails : NoneFails p) where
  same_function : (d g : Function) → Some d ≡ Some g → d ≡ g
  same_function d g e = cc

  -- a function's own state, under that of another heap
  entered : (ds : Scope) (w s : State) → Under p ds w s → (es : Scope) (vs : List Value) → run.HaveTypes es vs → Under p es (with_store (bind es vs) w) (with_store (bind es vs) s)
  entered ds w s k es vs types = record {
    store = λ x t is. refl;
    typed = λ x t v a b. found_type x t es vs v types a b;
    sane = k.sane;
    fewer = k.fewer;
    agree = k.agree;
    old_sane = k.old_sane;
    old_fewer = k.old_fewer;
    old_agree = k.old_agree;
  }

  applies_next : (m : ℕ) → FitsUp p m → AppliesUp p (suc m)
  applies_next m up ds w s k f g named vs types v e =
      let x = applied_by p m f vs s v e in
      let same : x.g ≡ g = same_function x.g g (sym x.named ∙ named) in
      let taken = subst (λ (d : Function). take p (deeper p m) (with_store (bind d.parameters vs) s) full (joined d.place d.requires) s.holdings ≡ Ok x.taken.rest) same x.taken.takes in
      let body = subst (λ (d : Function). value_by p m (with_store (bind d.parameters vs) s) d.body ≡ Some v) same x.taken.body in
      let worth : applications p (suc m) f vs s ≡ Some v = ap (λ (o : Option Function). body_of o) named ∙ body in
      surely_then (takes_up p typed m up g.parameters (with_store (bind g.parameters vs) w) (with_store (bind g.parameters vs) s) (entered ds w s k g.parameters vs types) full (joined g.place g.requires)
      (joined_typed p g.parameters g.place g.requires (let y = typed.functions f g named in y.requires)) s.holdings w.holdings x.taken.rest k.fewer taken)
      (λ t. surely_map (applies_framed p typed none_fails (suc m) f g named vs types s w k.sane k.agree (suc m) v e worth) (λ b. joins t b))
    where
      body_of : Option Function → Option Value
      body_of None = None
      body_of (Some g) = value p (applications p m) (with_store (bind g.parameters vs) s) g.body

      worth_of : ℕ → Option Function → Option Value
      worth_of k None = None
      worth_of k (Some g) = value p (applications p k) (with_store (bind g.parameters vs) w) g.body

      joins : {left : Holdings} → TookUp p (with_store (bind g.parameters vs) w) full (joined g.place g.requires) s.holdings w.holdings left → Becomes (λ k. applications p k f vs w) v → Becomes (λ k. let d : Deeper = deeper p k in d.applied f vs w) v
      joins t b = next_on (λ k. let d : Deeper = deeper p k in d.applied f vs w ≡ Some v)
          (let both = eventually_both (λ k. take p (deeper p k) (with_store (bind g.parameters vs) w) full (joined g.place g.requires) w.holdings ≡ Ok (t.entries ++ w.holdings)) (λ k. applications p k f vs w ≡ Some v) t.there b in
          (both.0, λ k le. applied_from p k f g vs w (t.entries ++ w.holdings) v named (both.1 k le).0 (sym (ap (worth_of k) named) ∙ (both.1 (suc k) (more both.0 k le)).1)))
        where
          more : (n k : ℕ) → n ≤ k → n ≤ suc k
          more n k le = omega arith

  same_predicate : (a b : Predicate) → Some a ≡ Some b → a ≡ b
  same_predicate a b e = cc

  opens_next : (m : ℕ) → FitsUp p m → OpensUp p (suc m)
  opens_next m up ds w s k i q u has e =
      let x = unfolded p (deeper p m) i q s u e in
      let after = exchange_sane p typed m i q s u k.sane has e in
      let parts = and_parts _ _ has in
      let positive : Positive q = record { holds = parts.0 } in
      let below : Le q (amount s.holdings (Folded i)) = record { holds = parts.1 } in
      let kind = held_typed p s.holdings i k.sane.typed (positive-le positive below) in
      let b = x.predicate in
      let types = subst (λ (d : Predicate). run.HaveTypes d.parameters i.arguments) (same_predicate kind.1.0 b (sym kind.1.1 ∙ x.named)) kind.1.3 in
      let begun : State = with_store (bind b.parameters i.arguments) (with_holdings (lost (Folded i) q s.holdings) s) in
      let there : State = with_store (bind b.parameters i.arguments) (with_holdings (lost (Folded i) q w.holdings) w) in
      let adding = add_adding p (deeper p m) q positive x.body begun x.after x.adds in
      let held : after.holdings ≡ adding.entries ++ begun.holdings = sym (ap (λ (t : State). t.holdings) after.is) ∙ sym (ap (λ (t : State). t.holdings) x.is) ∙ ap (λ (t : State). t.holdings) adding.is in
      let under : AddUnder p b.parameters there begun (adding.entries ++ begun.holdings) = record {
        store = λ y t is. refl;
        typed = λ y t v c d. found_type y t b.parameters i.arguments v types c d;
        kinds = (kind, k.sane.typed);
        debts = lost_debts p (Folded i) q s.holdings kind below k.sane.debts;
        fewer = front_fewer ((Folded i, minus q) ∷ []) s.holdings w.holdings k.fewer;
        end_sane = subst (λ (z : Holdings). Sane p s.heap z) held after.sane;
        end_agree = subst (λ (z : Holdings). Agree p s.heap z w.heap) held (λ l y. k.agree l (after.held l y));
        old_sane = k.old_sane;
        old_fewer = k.old_fewer;
        old_agree = k.old_agree;
      } in
      surely_map (adds_up p typed m up b.parameters q positive x.body (body_typed p typed i.predicate b x.body x.named x.body_is) there begun adding.entries adding.signed under (x.adds ∙ ap (λ (t : State). let z : Checked State = Ok t in z) adding.is)) (λ y.
      let same : adding.entries ++ begun.holdings ≡ y.entries ++ begun.holdings = ap (λ (t : State). t.holdings) y.is in
      record {
        more = with_holdings (y.entries ++ lost (Folded i) q w.holdings) w;
        by_more = next_on (λ k. let d : Deeper = deeper p k in d.opened i q w ≡ Some (with_holdings (y.entries ++ lost (Folded i) q w.holdings) w))
            (y.there.0, λ j le. unfolds p (deeper p j) i q w (with_holdings (y.entries ++ lost (Folded i) q w.holdings) w) record { predicate = b; named = x.named; body = x.body; body_is = x.body_is; after = with_holdings (y.entries ++ there.holdings) there; adds = y.there.1 j le; is = refl });
        under = subst (λ (t : State). Under p ds (with_holdings (y.entries ++ lost (Folded i) q w.holdings) w) t) (sym after.is) record {
          store = k.store;
          typed = k.typed;
          sane = after.sane;
          fewer = subst (λ (z : Holdings). AtMost z (y.entries ++ lost (Folded i) q w.holdings)) (sym (held ∙ same)) (front_fewer y.entries (lost (Folded i) q s.holdings) (lost (Folded i) q w.holdings) (front_fewer ((Folded i, minus q) ∷ []) s.holdings w.holdings k.fewer));
          agree = λ l z. k.agree l (after.held l z);
          old_sane = k.old_sane;
          old_fewer = k.old_fewer;
          old_agree = k.old_agree;
        };
      })

  pub all_fuels : (m : ℕ) → FitsUp p m
  all_fuels zero = fits_up p typed zero (λ ds w s k i q u has e. absurd (no_state u e)) (λ ds w s k f g named vs types v e. absurd (no_value v e))
    where
      no_state : (u : State) → ◌≡◌ {A = Option State} None (Some u) → ⊥
      no_state u e = cc

      no_value : (v : Value) → ◌≡◌ {A = Option Value} None (Some v) → ⊥
      no_value v e = cc
  all_fuels (suc m) = fits_up p typed (suc m) (opens_next m (all_fuels m)) (applies_next m (all_fuels m))

  -- from what settles
  rises_from : {A : Type 0} (c d : ℕ → Checked A) → Surely (((a : A) × Eventually (λ n. c n ≡ Ok a)) ⊎ Refuses c) → ((a : A) → Eventually (λ n. c n ≡ Ok a) → Surely (Eventually (λ n. d n ≡ Ok a))) → Rises c d
  rises_from {A = A} c d settles up = surely_then settles go
    where
      go : ((a : A) × Eventually (λ n. c n ≡ Ok a)) ⊎ Refuses c → Rises c d
      go (inl (a, e)) = surely_map (up a e) (λ f. inl record { less = a; more = a; related = refl; by_less = e; by_more = f })
      go (inr x) = surely (inr x)

  self : (n : ℕ) → n ≤ n
  self n = omega arith

  pub fits_rise : FitsRise p
  fits_rise = record {
    fits = λ ds w s k e t ty. rises_from (λ n. fit_by p n s e) (λ n. fit_by p n w e) (fit_settles p s e) (λ v h. let y = all_fuels h.0 in y.fits ds w s k e t ty v (h.1 h.0 (self h.0)));
    all_fit = λ ds w s k es fs ty. rises_from (λ n. fit_all p (deeper p n) s es) (λ n. fit_all p (deeper p n) w es) (all_settle p s es) (λ vs h. let y = all_fuels h.0 in y.all_fit ds w s k es fs ty vs (h.1 h.0 (self h.0)));
  }

  pub takes_rise : TakesRise p
  takes_rise ds w s k q scale a ty many few le kinds debts = surely_then (take_settles p s q a few) go
    where
      go : ((left : Holdings) × Eventually (λ n. take_by p n s q a few ≡ Ok left)) ⊎ Refuses (λ n. take_by p n s q a few) → RisesTo (Took p few many) (λ n. take_by p n s q a few) (λ n. take_by p n w q a many)
      go (inr x) = surely (inr x)
      go (inl (left, h)) =
          let taken = h.1 h.0 (self h.0) in
          let y = take_takes p (deeper p h.0) s q scale ds (instance_typed p typed h.0 (all_fuels h.0) ds s k.typed) a ty few left debts taken in
          surely_map (takes_up p typed h.0 (all_fuels h.0) ds w s k q a ty few many left le taken) (λ t. inl record {
            less = left;
            more = t.entries ++ many;
            related = record { entries = t.entries; few_is = t.few_is; many_is = refl; typed = typed_first p t.entries few (subst (TypedAll p Any) (sym y.is ∙ t.few_is) (typed_both p y.entries few y.typed kinds)); debts = y.debts; less = take_fewer p (deeper p h.0) s q scale a few left taken };
            by_less = h;
            by_more = t.there;
          })
