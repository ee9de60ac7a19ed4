-- A new reference goes: what is fresh for all is fresh for the run by contracts.
use Rattle.std.proofs.Common.{◌≡◌, ◌≢◌, ℕ, Bool, true, false, cond, ◌||◌, List, [], ◌∷◌, ◌++◌, refl, sym, ◌∙◌, ap, subst, true≢false}
use Rattle.vx_ast.specs.declared.Place.{Place}
use Rattle.vx_ast.specs.declared.ValueType.TheVariants as type
use Rattle.vx_frac.specs.Fractions.{none, full, sum}
use Rattle.vx_ast.specs.Syntax.{Name, same_name, Program, New}
use Rattle.vx_ast.specs.Mentions.{is_among}
use Rattle.vx_meaning.specs.Values.{RefValue}
use Rattle.vx_meaning.specs.States.{State, Heap, Holdings, Location, At, same_location, assign, gained, with_store, with_heap, with_holdings}
use Rattle.vx_meaning.specs.Consistent.{total, IsHeld}
use Rattle.vx_meaning.specs.Outcomes.{Ends}
use Rattle.vx_meaning.specs.Around.{Around, IsUnknownTo, IsFreshBeside}
use Rattle.vx_meaning.specs.Run.{run, new_fields}
use Rattle.vx_types.specs.Typing.{Scope, AreDistinct}
use Rattle.vx_amounts.proofs.Amounts.{Le, le-trans, none-full, none-sum, sum_comm, add-left, positive-or}
use Rattle.vx_elements.proofs.Lists.{name_same}
use Rattle.vx_sound.proofs.World.{at_field}
use Rattle.vx_sound.proofs.Chunks.{location_is}
use Rattle.vx_sound_preds.specs.Bodies.{GoodBodies}
use Rattle.vx_sound_preds.proofs.Grouped.{NoDebts}
use Rattle.vx_sound_preds.proofs.Holding.{TypedAll, gained_debts, nothing as none_held}
use Rattle.vx_sound_preds.proofs.Typed.{good_bodies}
use Rattle.vx_runs.proofs.Surely.{surely, surely_map}
use Rattle.vx_runs.proofs.Followed.{Any, Sane, SaneKept, Agree, AtMost, Follows, StmtGoes, After}
use Rattle.vx_runs.proofs.Fewer.{at_most_both, sane_fewer}
use Rattle.vx_runs.proofs.Taking.{typed_both}
use Rattle.vx_runs.proofs.Together.{front, swap, more_with, debts_both, typed_left, typed_right}
use Rattle.vx_runs.proofs.Agreeing.{agree_self, agree_fewer, agree_then, agree_from, sane_there, held_of}
use Rattle.vx_runs.proofs.Stores.{store_assigned}
use Rattle.vx_runs.proofs.Laws.{Laws}
use Rattle.vx_runs.proofs.Beneath.{seen, Beneath, fewer_less, beneath, follows}
use Rattle.vx_runs.proofs.Takings.{kept_agrees}
use Rattle.vx_runs.proofs.Locals.{IsFollowed}

-- the fields alone
pub fields_first : (r : ℕ) (fs : List Name) (h : Holdings) → new_fields r fs h ≡ new_fields r fs [] ++ h
fields_first r [] h = refl
fields_first r (f ∷ fs) h = ap (λ (z : Holdings). gained (At record { receiver = r; field = f }) full z) (fields_first r fs h)

fields_typed : (p : Program) (r : ℕ) (fs : List Name) (h : Holdings) → TypedAll p Any h → TypedAll p Any (new_fields r fs h)
fields_typed p r [] h t = t
fields_typed p r (f ∷ fs) h t = (tt, fields_typed p r fs h t)

-- a field that is none of them
other_none : (p : Program) (heap : Heap) (n : ℕ) (r : ℕ) (g : Name) (fs : List Name) (h : Holdings) → is_among g fs ≡ false → Le (total p n heap h (at_field r g)) none → Le (total p n heap (new_fields r fs h) (at_field r g)) none
other_none p heap n r g [] h e z = z
other_none p heap n r g (f ∷ fs) h e z = go (same_name g f) refl e (λ e. other_none p heap n r g fs h e z)
  where
    apart : same_name g f ≡ false → Le (total p n heap (new_fields r fs h) (at_field r g)) none → (x : Bool) → same_location (at_field r g) (at_field r f) ≡ x →
        Le (cond x (sum full (total p n heap (new_fields r fs h) (at_field r g))) (total p n heap (new_fields r fs h) (at_field r g))) none
    apart k rest true m = absurd (true≢false (sym (subst (λ x. same_name g x ≡ true) (ap (λ (l : Location). l.field) (location_is (at_field r g) (at_field r f) m)) (name_same g)) ∙ k))
    apart k rest false m = rest

    go : (b : Bool) → same_name g f ≡ b → (b || is_among g fs) ≡ false → (is_among g fs ≡ false → Le (total p n heap (new_fields r fs h) (at_field r g)) none) → Le (total p n heap (gained (At (at_field r f)) full (new_fields r fs h)) (at_field r g)) none
    go true k e rest = absurd (true≢false e)
    go false k e rest = apart k (rest e) (same_location (at_field r g) (at_field r f)) refl

module _ (p : Program) (good : GoodBodies p) where
  -- the whole of a location of which nothing is held
  created : (h : Heap) (hs : Holdings) (l : Location) → Sane p h hs → (l.receiver ≡ 0 → ⊥) → ((n : ℕ) → Le (total p n h hs l) none) → Sane p h (gained (At l) full hs)
  created h hs l s apart z = record {
    typed = (tt, s.typed);
    debts = gained_debts p good Any true hs (At l) full none-full s.debts;
    grounded = s.grounded;
    null = λ n f. low n f (same_location (at_field 0 f) l) refl;
    most = λ e n m. high n m (same_location m l) refl;
  }
    where
      low : (n : ℕ) (f : Name) (b : Bool) → same_location (at_field 0 f) l ≡ b → Le (cond b (sum full (total p n h hs (at_field 0 f))) (total p n h hs (at_field 0 f))) none
      low n f true e = absurd (apart (sym (ap (λ (l : Location). l.receiver) (location_is (at_field 0 f) l e))))
      low n f false e = s.null n f

      high : (n : ℕ) (m : Location) (b : Bool) → same_location m l ≡ b → Le (cond b (sum full (total p n h hs m)) (total p n h hs m)) full
      high n m true e = le-trans (add-left full (subst (λ k. Le (total p n h hs k) none) (sym (location_is m l e)) (z n))) (le-trans (sum_comm full none).there (none-sum full).there)
      high n m false e = s.most refl n m

  -- all fields of a reference that is no receiver of what is held
  pub fields_sane : (h : Heap) (hs : Holdings) (r : ℕ) (fs : List Name) → AreDistinct fs → r ≢ 0 → ((l : Location) → IsHeld p h hs l → l.receiver ≢ r) → Sane p h hs → Sane p h (new_fields r fs hs)
  fields_sane h hs r [] d apart unknown s = s
  fields_sane h hs r (f ∷ fs) d apart unknown s = created h (new_fields r fs hs) (at_field r f) (fields_sane h hs r fs d.1 apart unknown s) apart (λ n. other_none p h n r f fs hs d.0 (nothing n))
    where
      nothing : (n : ℕ) → Le (total p n h hs (at_field r f)) none
      nothing n = positive-or (total p n h hs (at_field r f)) (λ z. absurd (unknown (at_field r f) (n, z.holds) refl)) (λ z. z)

  pub unknown_fewer : (kept : SaneKept p) (h g : Heap) (few many : Holdings) (r : ℕ) → Sane p h few → Sane p h many → AtMost few many → Agree p h few g → IsUnknownTo p h many r → IsUnknownTo p g few r
  unknown_fewer kept h g few many r s t le agree k l z =
      let back = let x = kept h g few s agree in x.1 l z in
      let u = k l (held_of p good h few many s t le l back) in
      (u.0, λ e. u.1 (sym (agree l back) ∙ e))

-- some things in front of both
between : (p : Program) (good : GoodBodies p) (h : Heap) (xs ys zs : Holdings) → NoDebts (xs ++ (ys ++ zs)) → Sane p h (ys ++ (xs ++ zs)) → Sane p h (xs ++ (ys ++ zs))
between p good h xs ys zs debts s =
    let inner = typed_right p ys (xs ++ zs) s.typed in
    sane_fewer p good h (xs ++ (ys ++ zs)) (ys ++ (xs ++ zs)) s (typed_both p xs (ys ++ zs) (typed_left p xs zs inner) (typed_both p ys zs (typed_left p ys (xs ++ zs) s.typed) (typed_right p xs zs inner))) debts (swap xs ys zs)

module _ (p : Program) (l : Laws p) where
  module _ {ds : Scope} {a : Around} {keeps : Holdings} {Reached : State → Type 0} {w : State} (f : Follows p ds a keeps Reached w) (x : Name) (fs : List Name) (distinct : AreDistinct fs) (h : Heap) (ch : Agree p w.heap (a.holdings ++ w.holdings) h) (r : ℕ) (fresh : IsFreshBeside p a w r) where
    good : GoodBodies p
    good = good_bodies p l.typed

    new : Holdings
    new = new_fields r fs []

    whole_there : Sane p h (a.holdings ++ w.holdings)
    whole_there = sane_there p (good_bodies p l.typed) l.kept w.heap h (a.holdings ++ w.holdings) f.whole ch

    less_within : AtMost f.less (a.holdings ++ w.holdings)
    less_within = at_most_both f.less w.holdings (a.holdings ++ w.holdings) (fewer_less p (good_bodies p l.typed) l.kept f) (more_with a.holdings w.holdings f.around)

    less_agrees : Agree p w.heap f.less h
    less_agrees = agree_fewer p (good_bodies p l.typed) w.heap h f.less (a.holdings ++ w.holdings) f.sane f.whole less_within ch

    less_there : Sane p h f.less
    less_there = sane_there p (good_bodies p l.typed) l.kept w.heap h f.less f.sane less_agrees

    unknown : (m : Location) → IsHeld p h (a.holdings ++ w.holdings) m → m.receiver ≢ r
    unknown m z =
        let k = l.kept w.heap h (a.holdings ++ w.holdings) f.whole ch in
        let u = fresh.not_held m (k.1 m z) in
        u.0

    less_unknown : (m : Location) → IsHeld p h f.less m → m.receiver ≢ r
    less_unknown m z = unknown m (held_of p (good_bodies p l.typed) h f.less (a.holdings ++ w.holdings) less_there whole_there less_within m z)

    new_debts : NoDebts (new_fields r fs [])
    new_debts = let s = fields_sane p (good_bodies p l.typed) h [] r fs distinct fresh.not_null (λ m z. absurd (true≢false (sym z.1))) (none_held p (good_bodies p l.typed) Any true h) in s.debts

    pub new_whole : Sane p h (a.holdings ++ new_fields r fs w.holdings)
    new_whole = subst (λ (z : Holdings). Sane p h (a.holdings ++ z)) (sym (fields_first r fs w.holdings))
        (between p (good_bodies p l.typed) h a.holdings (new_fields r fs []) w.holdings (debts_both a.holdings (new_fields r fs [] ++ w.holdings) f.around (debts_both (new_fields r fs []) w.holdings new_debts f.debts))
        (subst (Sane p h) (fields_first r fs (a.holdings ++ w.holdings)) (fields_sane p (good_bodies p l.typed) h (a.holdings ++ w.holdings) r fs distinct fresh.not_null unknown whole_there)))

    pub new_less : Sane p h (new_fields r fs f.less)
    new_less = fields_sane p (good_bodies p l.typed) h f.less r fs distinct fresh.not_null less_unknown less_there

    pub new_all_debts : NoDebts (new_fields r fs w.holdings)
    new_all_debts = subst NoDebts (sym (fields_first r fs w.holdings)) (debts_both (new_fields r fs []) w.holdings new_debts f.debts)

    pub new_fewer : AtMost (keeps ++ new_fields r fs f.less) (new_fields r fs w.holdings)
    new_fewer = subst (λ (z : Holdings). AtMost (keeps ++ z) (new_fields r fs w.holdings)) (sym (fields_first r fs f.less)) (subst (AtMost (keeps ++ (new_fields r fs [] ++ f.less))) (sym (fields_first r fs w.holdings))
        (at_most_both (keeps ++ (new_fields r fs [] ++ f.less)) (new_fields r fs [] ++ (keeps ++ f.less)) (new_fields r fs [] ++ w.holdings) (swap keeps (new_fields r fs []) f.less) (front (new_fields r fs []) (keeps ++ f.less) w.holdings f.fewer)))

    more_less : AtMost f.less (new_fields r fs f.less)
    more_less = subst (AtMost f.less) (sym (fields_first r fs f.less)) (more_with (new_fields r fs []) f.less new_debts)

    -- the run by contracts changes its heap to the one that is asked for
    pub new_reached : (at : Place) (g : Heap) → Agree p h (new_fields r fs f.less) g → (b o : Heap) → Beneath p ds Reached w f.less f.old_less w.heap b o →
        run p (New at x fs) (seen w f.less f.old_less b o) (Ends record { store = assign x (RefValue r) w.store; heap = g; holdings = new_fields r fs f.less; old_heap = o; old_holdings = f.old_less })
    new_reached at g agree b o k = (
      g,
      (
        agree_from p (good_bodies p l.typed) l.kept w.heap b g f.less f.sane k.heap
            (agree_then p (good_bodies p l.typed) l.kept w.heap h g f.less f.sane less_agrees (agree_fewer p (good_bodies p l.typed) h g f.less (new_fields r fs f.less) less_there new_less more_less agree)),
        (
          r,
          (
            record {
              not_null = fresh.not_null;
              not_stored = fresh.not_stored;
              not_held = unknown_fewer p (good_bodies p l.typed) l.kept w.heap b f.less (a.holdings ++ w.holdings) r f.sane f.whole less_within k.agree fresh.not_held;
              not_held_before = unknown_fewer p (good_bodies p l.typed) l.kept w.old_heap o f.old_less w.old_holdings r f.old_sane f.old_whole f.old_fewer k.old_heap fresh.not_held_before;
              not_stored_around = tt;
              not_held_around = tt;
            },
            refl,
          ),
        ),
      ),
    )

  pub new_goes : (n : ℕ) (at : Place) (x : Name) (fs : List Name) → StmtGoes p n (New at x fs)
  new_goes n at x fs ds a keeps Reached w ty f never = record {
    fine = λ place r. r.1.1.1.1;
    on = λ u k. surely (subst (IsFollowed p ds a keeps (After (run p (New at x fs)) Reached) w) (sym k.1.1.1.1) (goes k.0 k.1.0 k.1.1.0 k.1.1.1.0));
  }
    where
      goes : (h : Heap) → Agree p w.heap (a.holdings ++ w.holdings) h → (r : ℕ) → IsFreshBeside p a w r → IsFollowed p ds a keeps (After (run p (New at x fs)) Reached) w (with_holdings (new_fields r fs w.holdings) (with_store (assign x (RefValue r) w.store) (with_heap h w)))
      goes h ch r fresh = (
        follows p (good_bodies p l.typed) l.kept f ds (After (run p (New at x fs)) Reached) (assign x (RefValue r) w.store) (new_fields r fs w.holdings) h (store_assigned ds w.store x type.Ref (RefValue r) f.store ty.0 refl) (new_whole f x fs ty.2 h ch r fresh) (new_all_debts f x fs ty.2 h ch r fresh)
            (new_fields r fs f.less) (new_fewer f x fs ty.2 h ch r fresh) (new_less f x fs ty.2 h ch r fresh)
            (λ g agree. surely_map (beneath p (good_bodies p l.typed) l.kept f w.heap (agree_self p w.heap f.less)) (λ b. (g, b.1, (seen w f.less f.old_less b.0 b.1, b.2.reached, new_reached f x fs ty.2 h ch r fresh at g agree b.0 b.1 b.2), (λ m. refl), b.2.old_heap))),
        kept_agrees p (good_bodies p l.typed) l.kept f w.heap h f.less w.holdings f.sane.debts f.fewer f.whole ch,
      )
