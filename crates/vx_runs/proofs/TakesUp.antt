-- What is taken from less is taken from more: the same entries.
use Rattle.std.proofs.Common.{◌≡◌, ℕ, Bool, true, false, cond, List, [], ◌∷◌, ◌++◌, Some, refl, sym, ◌∙◌, ap, subst}
use Rattle.std.specs.Prelude.{Ok}
use Rattle.vx_ast.specs.declared.Place.{Place}
use Rattle.vx_ast.specs.declared.ValueType.{ValueType}
use Rattle.vx_frac.specs.Fractions.{Fraction, none, sum, minus, product, at_most}
use Rattle.vx_ast.specs.Syntax.{Name, Program, Predicate, predicate_named, Expr, Exprs, Assertion, Pure, Points, Both, Implied, Chosen, place_of}
use Rattle.vx_ast.specs.Syntax as syntax
use Rattle.vx_meaning.specs.Values.{Value, BoolValue, IntValue, RefValue, PermValue, is_true}
use Rattle.vx_meaning.specs.States.{State, Holdings, Resource, At, Folded, same_resource, amount, lost}
use Rattle.vx_meaning.specs.Fits.{Checked, ◌>>=◌, or_fail, guard, choose, location_of, amount_of, deeper, fit, fit_all, take, take_part, field_part, instance_part, Eventually}
use Rattle.vx_types.specs.Typing.{Scope, HasType, HaveTypes, IsTyped}
use Rattle.vx_types.specs.Premises.{IsTypedProgram}
use Rattle.vx_amounts.proofs.Amounts.{Le, le-trans, add-left}
use Rattle.vx_sound.proofs.World.{IsTypedResource}
use Rattle.vx_sound.proofs.Stripped.{all_fit_worth}
use Rattle.vx_sound_preds.proofs.Fitting.{undo, guarded}
use Rattle.vx_sound_preds.proofs.Framing.{ok_same, failed, field_parts, instance_parts}
use Rattle.vx_sound_preds.proofs.Grouped.{IsSingle}
use Rattle.vx_sound_preds.proofs.Holding.{resource_single}
use Rattle.vx_sound_preds.proofs.TypedValues.{AreTyped, have_types, applications_typed}
use Rattle.vx_runs.proofs.Followed.{Any, AtMost, Under}
use Rattle.vx_runs.proofs.Surely.{Surely, surely, surely_then, surely_map}
use Rattle.vx_runs.proofs.Rising.{after_ok}
use Rattle.vx_runs.proofs.Exchanging.{no_perm}
use Rattle.vx_runs.proofs.Taking.{append_assoc}
use Rattle.vx_runs.proofs.FitsUp.{FitsUp}

-- the same entries in front of less and of more
pub front_fewer : (es few many : Holdings) → AtMost few many → AtMost (es ++ few) (es ++ many)
front_fewer [] few many k r si = k r si
front_fewer (e ∷ es) few many k r si = go (same_resource r e.0) (front_fewer es few many k r si)
  where
    go : (b : Bool) → Le (amount (es ++ few) r) (amount (es ++ many) r) → Le (cond b (sum e.1 (amount (es ++ few) r)) (amount (es ++ few) r)) (cond b (sum e.1 (amount (es ++ many) r)) (amount (es ++ many) r))
    go true h = add-left e.1 h
    go false h = h

always : {A : Type 0} (x y : Checked A) → x ≡ y → Eventually (λ k. x ≡ y)
always x y e = (0, λ k le. e)

-- what was taken by less is taken by more
pub record TookUp (p : Program) (w : State) (q : Fraction) (a : Assertion) (few many few_left : Holdings) : Type 0 where
  pub entries : Holdings
  pub few_is : few_left ≡ entries ++ few
  pub there : Eventually (λ k. take p (deeper p k) w q a many ≡ Ok (entries ++ many))

module _ (p : Program) (typed : IsTypedProgram p) (m : ℕ) (up : FitsUp p m) (ds : Scope) where
  -- the arguments of an instance that is named are typed
  pub instance_typed : (s : State) → AreTyped ds s.store → (es : Exprs) (i : Name) (d : Predicate) (vs : List Value) → predicate_named p i ≡ Some d → HaveTypes p ds es d.parameters → fit_all p (deeper p m) s es ≡ Ok vs → IsTypedResource p Any (Folded record { predicate = i; arguments = vs })
  instance_typed s k es i d vs is ty fits = (tt, (d, is, no_perm p typed i d is, have_types p typed.functions m (applications_typed p typed.functions m) s k ty vs (all_fit_worth p m s es vs fits)))

  pub field_up : (w s : State) → Under p ds w s → (at : Place) (e : Expr) (f : Name) (share : Expr) (t u : ValueType) → HasType p ds e t → HasType p ds share u → (part : Resource × Fraction) → field_part p (deeper p m) s at e f share ≡ Ok part → Surely (Eventually (λ k. field_part p (deeper p k) w at e f share ≡ Ok part))
  field_up w s k at e f share t u te ts part h =
      let last = λ (r v : Value). or_fail at (location_of f r) >>= λ l. or_fail at (amount_of v) >>= λ q. guard at (at_most none q) >>= λ _. let part : Resource × Fraction = (At l, q) in Ok part in
      let x = undo (fit p (deeper p m) s e) (λ r. fit p (deeper p m) s share >>= λ v. last r v) part h in
      let y = undo (fit p (deeper p m) s share) (λ v. last x.it v) part x.then in
      surely_then (up.fits ds w s k e t te x.it x.is) (λ c. surely_map (up.fits ds w s k share u ts y.it y.is) (λ d.
      after_ok (λ k. fit p (deeper p k) w e) (λ k r. fit p (deeper p k) w share >>= λ v. last r v) x.it (Ok part) c
      (after_ok (λ k. fit p (deeper p k) w share) (λ k v. last x.it v) y.it (Ok part) d (always _ (Ok part) y.then))))

  pub instance_up : (w s : State) → Under p ds w s → (at : Place) (i : Name) (es : Exprs) (share : Expr) (d : Predicate) (u : ValueType) → HaveTypes p ds es d.parameters → HasType p ds share u → (part : Resource × Fraction) → instance_part p (deeper p m) s at i es share ≡ Ok part → Surely (Eventually (λ k. instance_part p (deeper p k) w at i es share ≡ Ok part))
  instance_up w s k at i es share d u te ts part h =
      let last = λ (vs : List Value) (v : Value). or_fail at (amount_of v) >>= λ q. guard at (at_most none q) >>= λ _. let part : Resource × Fraction = (Folded record { predicate = i; arguments = vs }, q) in Ok part in
      let x = undo (fit_all p (deeper p m) s es) (λ vs. fit p (deeper p m) s share >>= λ v. last vs v) part h in
      let y = undo (fit p (deeper p m) s share) (λ v. last x.it v) part x.then in
      surely_then (up.all_fit ds w s k es d.parameters te x.it x.is) (λ c. surely_map (up.fits ds w s k share u ts y.it y.is) (λ d.
      after_ok (λ k. fit_all p (deeper p k) w es) (λ k vs. fit p (deeper p k) w share >>= λ v. last vs v) x.it (Ok part) c
      (after_ok (λ k. fit p (deeper p k) w share) (λ k v. last x.it v) y.it (Ok part) d (always _ (Ok part) y.then))))

  module _ (w s : State) (under : Under p ds w s) (q : Fraction) where
    part_up : (at : Place) (few many left : Holdings) (r : Resource) (a : Fraction) (part : Resource × Fraction) → IsSingle r → AtMost few many → ◌≡◌ {A = Checked (Resource × Fraction)} (Ok (r, a)) (Ok part) → take_part p (deeper p m) s q at few part ≡ Ok left →
        (left ≡ ((part.0, minus (product q part.1)) ∷ []) ++ few) × ((k : ℕ) → take_part p (deeper p k) w q at many part ≡ Ok (((part.0, minus (product q part.1)) ∷ []) ++ many))
    part_up at few many left r a part si le is e =
        let b = undo (guard at (at_most (product q part.1) (amount few part.0))) (λ _. Ok (lost part.0 (product q part.1) few)) left e in
        let same : (let z : Resource × Fraction = (r, a) in z) ≡ part = ok_same {A = Resource × Fraction} (r, a) part is in
        let single : IsSingle part.0 = subst (λ (z : Resource × Fraction). IsSingle z.0) same si in
        let enough : Le (product q part.1) (amount few part.0) = record { holds = guarded at (at_most (product q part.1) (amount few part.0)) b.it b.is } in
        let more : Le (product q part.1) (amount many part.0) = le-trans enough (le part.0 single) in (
          sym (ok_same (lost part.0 (product q part.1) few) left b.then),
          λ k. ap (λ (b : Bool). guard at b >>= λ _. Ok (lost part.0 (product q part.1) many)) more.holds,
        )

    took_nothing : (a : Assertion) (few many left : Holdings) → few ≡ left → Eventually (λ k. take p (deeper p k) w q a many ≡ Ok many) → TookUp p w q a few many left
    took_nothing a few many left e h = record { entries = []; few_is = sym e; there = h }

    abbrev TakesUp : Assertion → Type 0
    TakesUp a = (few many left : Holdings) → AtMost few many → take p (deeper p m) s q a few ≡ Ok left → Surely (TookUp p w q a few many left)

    -- one side of a condition
    by_side : (c : Expr) (a b : Assertion) (few many left : Holdings) (v : Value) → Eventually (λ k. fit p (deeper p k) w c ≡ Ok v) → TakesUp a → TakesUp b → AtMost few many → choose (place_of c) v (take p (deeper p m) s q a few) (take p (deeper p m) s q b few) ≡ Ok left →
        Surely (TookUp p w q (Chosen c a b) few many left)
    by_side c a b few many left (BoolValue true) fine ha hb le e = surely_map (ha few many left le e) (λ x.
        record { entries = x.entries; few_is = x.few_is; there = after_ok (λ k. fit p (deeper p k) w c) (λ k v. choose (place_of c) v (take p (deeper p k) w q a many) (take p (deeper p k) w q b many)) (BoolValue true) (Ok (x.entries ++ many)) fine x.there })
    by_side c a b few many left (BoolValue false) fine ha hb le e = surely_map (hb few many left le e) (λ x.
        record { entries = x.entries; few_is = x.few_is; there = after_ok (λ k. fit p (deeper p k) w c) (λ k v. choose (place_of c) v (take p (deeper p k) w q a many) (take p (deeper p k) w q b many)) (BoolValue false) (Ok (x.entries ++ many)) fine x.there })
    by_side c a b few many left (IntValue z) fine ha hb le e = absurd (failed _ _ e)
    by_side c a b few many left (RefValue z) fine ha hb le e = absurd (failed _ _ e)
    by_side c a b few many left (PermValue z) fine ha hb le e = absurd (failed _ _ e)

    by_implied : (c : Expr) (a : Assertion) (few many left : Holdings) (v : Value) → Eventually (λ k. fit p (deeper p k) w c ≡ Ok v) → TakesUp a → AtMost few many → choose (place_of c) v (take p (deeper p m) s q a few) (Ok few) ≡ Ok left → Surely (TookUp p w q (Implied c a) few many left)
    by_implied c a few many left (BoolValue true) fine ha le e = surely_map (ha few many left le e) (λ x.
        record { entries = x.entries; few_is = x.few_is; there = after_ok (λ k. fit p (deeper p k) w c) (λ k v. choose (place_of c) v (take p (deeper p k) w q a many) (Ok many)) (BoolValue true) (Ok (x.entries ++ many)) fine x.there })
    by_implied c a few many left (BoolValue false) fine ha le e =
        surely (took_nothing (Implied c a) few many left (ok_same few left e) (after_ok (λ k. fit p (deeper p k) w c) (λ k v. choose (place_of c) v (take p (deeper p k) w q a many) (Ok many)) (BoolValue false) (Ok many) fine (0, λ k le. refl)))
    by_implied c a few many left (IntValue z) fine ha le e = absurd (failed _ _ e)
    by_implied c a few many left (RefValue z) fine ha le e = absurd (failed _ _ e)
    by_implied c a few many left (PermValue z) fine ha le e = absurd (failed _ _ e)

    pub takes_up : (a : Assertion) → IsTyped p ds a → TakesUp a
    takes_up (Pure e) t few many left le eq =
        let x = undo (fit p (deeper p m) s e) (λ v. guard (place_of e) (is_true v) >>= λ _. Ok few) left eq in
        let y = undo (guard (place_of e) (is_true x.it)) (λ _. Ok few) left x.then in
        surely_map (up.fits ds w s under e _ t x.it x.is) (λ c. took_nothing (Pure e) few many left (ok_same few left y.then)
        (after_ok (λ k. fit p (deeper p k) w e) (λ k v. guard (place_of e) (is_true v) >>= λ _. Ok many) x.it (Ok many) c (0, λ k le. ap (λ (b : Bool). guard (place_of e) b >>= λ _. Ok many) (guarded (place_of e) (is_true x.it) y.it y.is))))
    takes_up (Points at e f share) t few many left le eq =
        let x = undo (field_part p (deeper p m) s at e f share) (take_part p (deeper p m) s q at few) left eq in
        let y = field_parts p (deeper p m) s at e f share x.it x.is in
        let z = part_up at few many left (At y.location) y.amount x.it tt le y.is x.then in
        surely_map (field_up w s under at e f share _ _ t.0 t.2 x.it x.is) (λ c. record {
          entries = (x.it.0, minus (product q x.it.1)) ∷ [];
          few_is = z.0;
          there = after_ok (λ k. field_part p (deeper p k) w at e f share) (λ k. take_part p (deeper p k) w q at many) x.it (Ok _) c (0, λ k le. z.1 k);
        })
    takes_up (syntax.Instance at i es share) t few many left le eq =
        let x = undo (instance_part p (deeper p m) s at i es share) (take_part p (deeper p m) s q at few) left eq in
        let y = instance_parts p (deeper p m) s at i es share x.it x.is in
        let kind = instance_typed s under.typed es i t.0.0 y.arguments t.0.1 t.0.2 y.arguments_are in
        let z = part_up at few many left (Folded record { predicate = i; arguments = y.arguments }) y.amount x.it (resource_single p Any (Folded record { predicate = i; arguments = y.arguments }) kind) le y.is x.then in
        surely_map (instance_up w s under at i es share t.0.0 _ t.0.2 t.1 x.it x.is) (λ c. record {
          entries = (x.it.0, minus (product q x.it.1)) ∷ [];
          few_is = z.0;
          there = after_ok (λ k. instance_part p (deeper p k) w at i es share) (λ k. take_part p (deeper p k) w q at many) x.it (Ok _) c (0, λ k le. z.1 k);
        })
    takes_up (Both a b) t few many left le eq =
        let x = undo (take p (deeper p m) s q a few) (λ k. take p (deeper p m) s q b k) left eq in
        surely_then (takes_up a t.0 few many x.it le x.is) (λ f. surely_map (takes_up b t.1 x.it (f.entries ++ many) left (subst (λ (z : Holdings). AtMost z (f.entries ++ many)) (sym f.few_is) (front_fewer f.entries few many le)) x.then) (λ g. record {
          entries = g.entries ++ f.entries;
          few_is = g.few_is ∙ ap (λ (z : Holdings). g.entries ++ z) f.few_is ∙ sym (append_assoc g.entries f.entries few);
          there = subst (λ (z : Holdings). Eventually (λ k. take p (deeper p k) w q (Both a b) many ≡ Ok z)) (sym (append_assoc g.entries f.entries many))
              (after_ok (λ k. take p (deeper p k) w q a many) (λ k z. take p (deeper p k) w q b z) (f.entries ++ many) (Ok (g.entries ++ (f.entries ++ many))) f.there g.there);
        }))
    takes_up (Implied c a) t few many left le eq =
        let x = undo (fit p (deeper p m) s c) (λ v. choose (place_of c) v (take p (deeper p m) s q a few) (Ok few)) left eq in
        surely_then (up.fits ds w s under c _ t.0 x.it x.is) (λ f. by_implied c a few many left x.it f (λ few many left le e. takes_up a t.1 few many left le e) le x.then)
    takes_up (Chosen c a b) t few many left le eq =
        let x = undo (fit p (deeper p m) s c) (λ v. choose (place_of c) v (take p (deeper p m) s q a few) (take p (deeper p m) s q b few)) left eq in
        surely_then (up.fits ds w s under c _ t.0 x.it x.is) (λ f. by_side c a b few many left x.it f (λ few many left le e. takes_up a t.1 few many left le e) (λ few many left le e. takes_up b t.2 few many left le e) le x.then)
