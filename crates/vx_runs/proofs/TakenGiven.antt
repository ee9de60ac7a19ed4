-- What an assertion took is given again by it, from any heap that agrees where it holds something: it ends with these entries, or fails.
use Rattle.std.proofs.Common.{arith, ◌≡◌, ◌≤◌, ℕ, true, ◌⊎◌, inl, inr, List, ◌++◌, Some, refl, sym, ◌∙◌, ap, subst}
use Rattle.std.specs.Prelude.{Ok}
use Rattle.vx_ast.specs.declared.Place.{Place}
use Rattle.vx_ast.specs.declared.ValueType.{ValueType}
use Rattle.vx_frac.specs.Fractions.{Fraction, none, full}
use Rattle.vx_ast.specs.Syntax.{Name, Declaration, Program, Predicate, predicate_named, Expr, Exprs, Assertion, Pure, Points, Both, Implied, Chosen}
use Rattle.vx_ast.specs.Syntax as syntax
use Rattle.vx_meaning.specs.Values.{Value}
use Rattle.vx_meaning.specs.States.{State, Holdings, Resource, Folded, amount, gained, lost, with_holdings}
use Rattle.vx_meaning.specs.Consistent.{IsConsistent}
use Rattle.vx_meaning.specs.Fits.{Checked, deeper, fit, fit_all, take_by, Eventually}
use Rattle.vx_meaning.specs.Outcomes.{Ends, FailsAt}
use Rattle.vx_meaning.specs.Give.{give}
use Rattle.vx_types.specs.Typing.{Scope, HasType, HaveTypes, IsTyped}
use Rattle.vx_types.specs.Premises.{IsTypedProgram}
use Rattle.vx_amounts.proofs.Amounts.{Le, full-positive}
use Rattle.vx_sound.proofs.World.{IsTypedResource}
use Rattle.vx_sound.proofs.Stripped.{all_fit_worth}
use Rattle.vx_sound_preds.proofs.Framing.{ok_same}
use Rattle.vx_sound_preds.proofs.Holding.{TypedAll, consistent}
use Rattle.vx_sound_preds.proofs.Typed.{good_bodies}
use Rattle.vx_sound_preds.proofs.TypedValues.{AreTyped, have_types, applications_typed}
use Rattle.vx_sound_funcs.proofs.Fits.{fit_more, fit_all_more}
use Rattle.vx_sound_funcs.proofs.Grows.{deeper_upto}
use Rattle.vx_runs.specs.Whole.{given_back}
use Rattle.vx_runs.proofs.Gone.{gone_is}
use Rattle.vx_runs.proofs.Mirrored.{mirrored, back_again}
use Rattle.vx_runs.proofs.Followed.{Any, Sane, Agree, AtMost, Under, Regiving, TakenIsGiven, SaneKept, FitsRise}
use Rattle.vx_runs.proofs.Fewer.{at_most_self, sane_fewer}
use Rattle.vx_runs.proofs.Surely.{Surely, surely_map}
use Rattle.vx_runs.proofs.Rising.{Passes, Refuses, one_end}
use Rattle.vx_runs.proofs.Shared.{Shared, shared_first, shared_moved, shared_sane, shared_fewer}
use Rattle.vx_runs.proofs.Exchanging.{no_perm, instance_kind}
use Rattle.vx_runs.proofs.Regiven.{SettlesAt, AllParts, GivenOrFails, given_again}
use Rattle.vx_runs.proofs.Taking.{take_takes, take_fewer, typed_both}
use Rattle.vx_runs.proofs.Up.{typed_first}
use Rattle.vx_runs.proofs.Agreeing.{agree_fewer}
use Rattle.vx_runs.proofs.Together.{debts_both, typed_back}
use Rattle.vx_runs.proofs.GivenBack.{given_at_most, given_back_debts, given_back_at_most}

-- nothing is asked of the parts
any_parts : (a : Assertion) → AllParts (λ e. Unit {0}) (λ es. Unit {0}) a
any_parts (Pure e) = tt
any_parts (Points at e f share) = (tt, tt)
any_parts (syntax.Instance at i es share) = (tt, tt)
any_parts (Both a b) = (any_parts a, any_parts b)
any_parts (Implied c a) = (tt, any_parts a)
any_parts (Chosen c a b) = (tt, any_parts a, any_parts b)

self : (n : ℕ) → n ≤ n
self n = omega arith

module _ (p : Program) (typed : IsTypedProgram p) (kept : SaneKept p) (rise : FitsRise p) where
  -- what settles in less, and fits in more with this value
  settled_with : {A : Type 0} (c d : ℕ → Checked A) (v : A) → Surely (Passes (◌≡◌ {A = A}) c d ⊎ Refuses c) → Eventually (λ n. d n ≡ Ok v) → SettlesAt c v
  settled_with c d v h k = surely_map h go
    where
      go : Passes (◌≡◌) c d ⊎ Refuses c → Eventually (λ n. c n ≡ Ok v) ⊎ Refuses c
      go (inr x) = inr x
      go (inl x) = inl (subst (λ z. Eventually (λ n. c n ≡ Ok z)) (x.related ∙ ok_same x.more v (one_end d (Ok x.more) (Ok v) x.by_more k)) x.by_less)

  module _ (ds : Scope) (s u : State) (entries : Holdings) (k : Regiving p ds s u entries) (final_sane : Sane p s.heap (given_back entries ++ u.holdings)) where
    record Within (h : Holdings) (v : State) : Type 0 where
      is : v ≡ with_holdings v.holdings u
      shares : Shared p s.holdings u.holdings (entries ++ s.holdings) v.holdings h

    sane_there : (h : Holdings) (v : State) → Within h v → Sane p u.heap v.holdings × Agree p s.heap v.holdings u.heap
    sane_there h v w =
        let sane = shared_sane p (good_bodies p typed) s.heap s.holdings u.holdings (entries ++ s.holdings) v.holdings h k.sane k.fewer w.shares in
        let most = given_at_most entries u.holdings s.holdings v.holdings h w.shares.total w.shares.above in
        let agree = agree_fewer p (good_bodies p typed) s.heap u.heap v.holdings (given_back entries ++ u.holdings) sane final_sane most k.agree in
        ((kept s.heap u.heap v.holdings sane agree).0, agree)

    under : (h : Holdings) (v : State) → Within h v → Under p ds s (with_holdings v.holdings u)
    under h v w = record {
      store = k.store;
      typed = k.typed;
      sane = (sane_there h v w).0;
      fewer = shared_fewer p s.holdings u.holdings (entries ++ s.holdings) v.holdings h k.fewer w.shares;
      agree = λ l y. sym ((sane_there h v w).1 l ((kept s.heap u.heap v.holdings (shared_sane p (good_bodies p typed) s.heap s.holdings u.holdings (entries ++ s.holdings) v.holdings h k.sane k.fewer w.shares) (sane_there h v w).1).1 l y));
      old_sane = k.old_sane;
      old_fewer = k.old_fewer;
      old_agree = k.old_agree;
    }

    possible : (h : Holdings) (v : State) → Within h v → IsConsistent p v
    possible h v w = subst (IsConsistent p) (sym w.is) (consistent p (good_bodies p typed) Any true (with_holdings v.holdings u) refl (sane_there h v w).0)

    settles : (n : ℕ) (h : Holdings) (v : State) (e : Expr) (t : ValueType) (x : Value) → HasType p ds e t → Unit {0} → Within h v → fit p (deeper p n) s e ≡ Ok x → SettlesAt (λ m. fit p (deeper p m) v e) x
    settles n h v e t x ty _ w fits =
        subst (λ (z : State). SettlesAt (λ m. fit p (deeper p m) z e) x) (sym w.is)
        (settled_with (λ m. fit p (deeper p m) (with_holdings v.holdings u) e) (λ m. fit p (deeper p m) s e) x (rise.fits ds s (with_holdings v.holdings u) (under h v w) e t ty) (n, λ m le. fit_more p (deeper p n) (deeper p m) (deeper_upto p n m le) s e x fits))

    all_settle : (n : ℕ) (h : Holdings) (v : State) (es : Exprs) (fs : List Declaration) (xs : List Value) → HaveTypes p ds es fs → Unit {0} → Within h v → fit_all p (deeper p n) s es ≡ Ok xs → SettlesAt (λ m. fit_all p (deeper p m) v es) xs
    all_settle n h v es fs xs ty _ w fits =
        subst (λ (z : State). SettlesAt (λ m. fit_all p (deeper p m) z es) xs) (sym w.is)
        (settled_with (λ m. fit_all p (deeper p m) (with_holdings v.holdings u) es) (λ m. fit_all p (deeper p m) s es) xs (rise.all_fit ds s (with_holdings v.holdings u) (under h v w) es fs ty) (n, λ m le. fit_all_more p (deeper p n) (deeper p m) (deeper_upto p n m le) s es xs fits))

    s_typed : AreTyped ds s.store
    s_typed x t v a b = k.typed x t v a (k.store x t a ∙ b)

    of_type : (n : ℕ) (es : Exprs) (i : Name) (d : Predicate) (xs : List Value) → predicate_named p i ≡ Some d → HaveTypes p ds es d.parameters → fit_all p (deeper p n) s es ≡ Ok xs → IsTypedResource p Any (Folded record { predicate = i; arguments = xs })
    of_type n es i d xs is ty fits = (tt, (d, is, no_perm p typed i d is, have_types p typed.functions n (applications_typed p typed.functions n) s s_typed ty xs (all_fit_worth p n s es xs fits)))

    moved : (h : Holdings) (v : State) (r : Resource) (q : Fraction) → IsTypedResource p Any r → Le none q → Le q (amount h r) → AtMost (entries ++ s.holdings) (lost r q h) → Within h v → Within (lost r q h) (with_holdings (gained r q v.holdings) v)
    moved h v r q kind sign le above w = record {
      is = ap (λ (z : State). with_holdings (gained r q v.holdings) z) w.is;
      shares = shared_moved p s.holdings u.holdings (entries ++ s.holdings) v.holdings h r q kind sign above w.shares;
    }

    given : (a : Assertion) → IsTyped p ds a → (n : ℕ) → take_by p n s full a s.holdings ≡ Ok (entries ++ s.holdings) → AtMost (entries ++ s.holdings) s.holdings →
        Surely (give p (IsConsistent p) full a u (Ends (with_holdings (given_back entries ++ u.holdings) u)) ⊎ ((at : Place) × give p (IsConsistent p) full a u (FailsAt at)))
    given a ty n taken less =
        surely_map (given_again p (IsConsistent p) ds (λ e. Unit {0}) (λ es. Unit {0}) s (entries ++ s.holdings) Within possible settles all_settle of_type moved n a ty (any_parts a) u s.holdings (entries ++ s.holdings)
        (record { is = refl; shares = shared_first p s.holdings u.holdings (entries ++ s.holdings) k.held k.debts less }) (at_most_self (entries ++ s.holdings)) taken) go
      where
        go : GivenOrFails p (IsConsistent p) ds (λ e. Unit {0}) (λ es. Unit {0}) s (entries ++ s.holdings) Within possible settles all_settle of_type moved a u s.holdings (entries ++ s.holdings) →
            give p (IsConsistent p) full a u (Ends (with_holdings (given_back entries ++ u.holdings) u)) ⊎ ((at : Place) × give p (IsConsistent p) full a u (FailsAt at))
        go (inr x) = inr x
        go (inl x) =
            let same : given_back entries ≡ x.entries =
            sym (gone_is s.holdings (entries ++ s.holdings) record { taken = entries; is = refl }) ∙ gone_is s.holdings (entries ++ s.holdings) record { taken = mirrored x.entries; is = x.is } ∙ back_again x.entries in
            inl (subst (λ (z : Holdings). give p (IsConsistent p) full a u (Ends (with_holdings (z ++ u.holdings) u))) (sym same) x.ends)

  pub taken_is_given : TakenIsGiven p
  taken_is_given ds s u a entries ty (n, h) debts k =
      let taken = h n (self n) in
      let s_typed : AreTyped ds s.store = λ x t v a b. k.typed x t v a (k.store x t a ∙ b) in
      let parts = λ (es : Exprs) (i : Name) (d : Predicate) (xs : List Value) (is : predicate_named p i ≡ Some d) (ty : HaveTypes p ds es d.parameters) (fits : fit_all p (deeper p n) s es ≡ Ok xs).
      instance_kind p typed ds s s_typed n es i d xs is ty fits in
      let took = take_takes p (deeper p n) s full full-positive ds parts a ty s.holdings (entries ++ s.holdings) (λ r si. k.sane.debts r si) taken in
      let less = take_fewer p (deeper p n) s full full-positive a s.holdings (entries ++ s.holdings) taken in
      let kinds : TypedAll p Any entries = typed_first p entries s.holdings (subst (TypedAll p Any) (sym took.is) (typed_both p took.entries s.holdings took.typed k.sane.typed)) in
      let final_kinds = typed_both p (given_back entries) u.holdings (typed_back p entries kinds) k.held in
      let final_debts = debts_both (given_back entries) u.holdings (given_back_debts entries s.holdings less) k.debts in
      let sane = sane_fewer p (good_bodies p typed) s.heap (given_back entries ++ u.holdings) s.holdings k.sane final_kinds final_debts (given_back_at_most entries u.holdings s.holdings k.fewer) in
      given ds s u entries k sane a ty n taken less
