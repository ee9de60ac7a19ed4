-- A write goes: all of the location is held by the run by contracts, so nobody else holds any of it.
use Rattle.std.proofs.Common.{◌≡◌, ◌≤◌, ℕ, Bool, true, false, cond, ◌&&◌, ◌∷◌, ◌++◌, refl, sym, ◌∙◌, ap, subst, arith}
use Rattle.std.specs.Prelude.{Ok}
use Rattle.vx_ast.specs.declared.Place.{Place}
use Rattle.vx_ast.specs.declared.ValueType.{ValueType}
use Rattle.vx_frac.specs.Fractions.{Fraction, none, full, sum, minus, at_most}
use Rattle.vx_ast.specs.Syntax.{Name, Program, Expr, Write}
use Rattle.vx_ast.specs.Types.{same_type}
use Rattle.vx_meaning.specs.Values.{Value, type_of}
use Rattle.vx_meaning.specs.States.{State, Heap, Holdings, Location, Resource, At, same_location, same_resource, amount, lost, value_at, find_value, field_type, with_heap}
use Rattle.vx_meaning.specs.Fits.{Checked, ◌>>=◌, or_fail, guard, location_of, fit_by, Eventually}
use Rattle.vx_meaning.specs.Outcomes.{Outcome, Ends, FailsAt, ends, passes, checked}
use Rattle.vx_meaning.specs.Around.{Around}
use Rattle.vx_types.specs.Typing.{Scope}
use Rattle.vx_meaning.specs.Run.{run, owned}
use Rattle.vx_amounts.proofs.Amounts.{Le, le-trans, le-is, add-right, full-positive, positive-le, cancel-left, sum_assoc, sum-minus, none-sum, sum_same, same-refl, same-sym, same-trans, Same}
use Rattle.vx_elements.proofs.Values.{value_typed}
use Rattle.vx_sound.proofs.Puts.{type_same}
use Rattle.vx_sound.proofs.Chunks.{location_is, held_directly}
use Rattle.vx_sound_preds.specs.Bodies.{GoodBodies}
use Rattle.vx_sound_preds.proofs.Fitting.{undo, guarded}
use Rattle.vx_sound_preds.proofs.Framing.{ok_same}
use Rattle.vx_sound_preds.proofs.Grouped.{IsSingle, resource_is}
use Rattle.vx_sound_preds.proofs.Typed.{good_bodies}
use Rattle.vx_runs.proofs.Surely.{Surely, surely_then, surely_map}
use Rattle.vx_runs.proofs.Rising.{Rises, rises_then, rises_always}
use Rattle.vx_runs.proofs.Followed.{Agree, AtMost, Alike, Follows, StmtGoes, After}
use Rattle.vx_runs.proofs.Fewer.{at_most_both}
use Rattle.vx_runs.proofs.Together.{amount_both, front, more_with, turn}
use Rattle.vx_runs.proofs.Agreeing.{agree_self, agree_fewer}
use Rattle.vx_runs.proofs.Laws.{Laws}
use Rattle.vx_runs.proofs.Mirrored.{assoc}
use Rattle.vx_runs.proofs.Beneath.{seen, IsBeneath, fewer_less, Same as SameValue, passing_same, follows}
use Rattle.vx_runs.proofs.Written.{Written, written, agrees, rest_sane, write_elsewhere}
use Rattle.vx_runs.proofs.Takings.{kept_sane}
use Rattle.vx_runs.proofs.Locals.{IsFollowed}

-- a location that is held whole
pub record Owned (s : State) (at : Place) (f : Name) (r : Value) (l : Location) : Type 0 where
  pub location : or_fail at (location_of f r) ≡ Ok l
  pub whole : at_most full (amount s.holdings (At l)) ≡ true

pub owned_is : (s : State) (at : Place) (f : Name) (r : Value) (l : Location) → owned s at f r ≡ Ok l → Owned s at f r l
owned_is s at f r l e =
    let x = undo (or_fail at (location_of f r)) (λ l. guard at (at_most full (amount s.holdings (At l))) >>= λ _. Ok l) l e in
    let y = undo (guard at (at_most full (amount s.holdings (At x.it)))) (λ _. Ok x.it) l x.then in
    let same : x.it ≡ l = ok_same x.it l y.then in
    subst (Owned s at f r) same record { location = x.is; whole = guarded at (at_most full (amount s.holdings (At x.it))) y.it y.is }

is_owned : (s : State) (at : Place) (f : Name) (r : Value) (l : Location) → Owned s at f r l → owned s at f r ≡ Ok l
is_owned s at f r l k =
    ap (λ (x : Checked Location). x >>= λ l. guard at (at_most full (amount s.holdings (At l))) >>= λ _. Ok l) k.location
    ∙ ap (λ (b : Bool). guard at b >>= λ _. Ok l) k.whole

module _ (p : Program) (at : Place) (e : Expr) (fd : Name) (e' : Expr) where
  -- what is written
  abbrev pub written_by : State → ℕ → Checked (Location × Value)
  written_by s n = fit_by p n s e >>= λ r. fit_by p n s e' >>= λ v. owned s at fd r >>= λ l. Ok (l, v)

  abbrev to_value : State → ℕ → Value → Checked (Location × Value)
  to_value s n r = fit_by p n s e' >>= λ v. owned s at fd r >>= λ l. Ok (l, v)

  abbrev at_last : State → Value → Value → Checked (Location × Value)
  at_last s r v = owned s at fd r >>= λ l. Ok (l, v)

  last_rises : (s w : State) (r v : Value) → AtMost s.holdings w.holdings → Rises (λ n. at_last s r v) (λ n. at_last w r v)
  last_rises s w r v le = rises_always (◌≡◌ {A = Location × Value}) (at_last s r v) (at_last w r v) (λ x is. (x, refl, go x is))
    where
      go : (x : Location × Value) → at_last s r v ≡ Ok x → at_last w r v ≡ Ok x
      go x is =
          let b = undo (owned s at fd r) (λ l. Ok (l, v)) x is in
          let o = owned_is s at fd r b.it b.is in
          let more : Le full (amount w.holdings (At b.it)) = le-trans (record { holds = o.whole }) (le (At b.it) tt) in
          ap (λ (c : Checked Location). c >>= λ l. Ok (l, v)) (is_owned w at fd r b.it record { location = o.location; whole = more.holds }) ∙ b.then

  value_rises : (s w : State) (r : Value) → Rises (λ n. fit_by p n s e') (λ n. fit_by p n w e') → AtMost s.holdings w.holdings → Rises (λ n. to_value s n r) (λ n. to_value w n r)
  value_rises s w r k le = rises_then (◌≡◌ {A = Value}) (◌≡◌ {A = Location × Value}) (λ n. fit_by p n s e') (λ n. fit_by p n w e') (λ n. at_last s r) (λ n. at_last w r) k
      (λ v v' q. subst (λ (z : Value). Rises (λ n. at_last s r v) (λ n. at_last w r z)) q (last_rises s w r v le))

  pub written_rises : (s w : State) → Rises (λ n. fit_by p n s e) (λ n. fit_by p n w e) → Rises (λ n. fit_by p n s e') (λ n. fit_by p n w e') → AtMost s.holdings w.holdings → Rises (written_by s) (written_by w)
  written_rises s w j k le = rises_then (◌≡◌ {A = Value}) (◌≡◌ {A = Location × Value}) (λ n. fit_by p n s e) (λ n. fit_by p n w e) (λ n. to_value s n) (λ n. to_value w n) j
      (λ r r' q. subst (λ (z : Value). Rises (λ n. to_value s n r) (λ n. to_value w n z)) q (value_rises s w r k le))

  pub writes_owned : (s : State) (x : Location × Value) → Eventually (λ n. written_by s n ≡ Ok x) → Le full (amount s.holdings (At x.0))
  writes_owned s x f =
      let n = f.0 in
      let a = undo (fit_by p n s e) (to_value s n) x (f.1 n (self n)) in
      let b = undo (fit_by p n s e') (at_last s a.it) x a.then in
      let c = undo (owned s at fd a.it) (λ l. Ok (l, b.it)) x b.then in
      let o = owned_is s at fd a.it c.it c.is in
      let same : (c.it, b.it) ≡ x = ok_same {A = Location × Value} (c.it, b.it) x c.then in
      record { holds = ap (λ (z : Location × Value). at_most full (amount s.holdings (At z.0))) (sym same) ∙ o.whole }
    where
      self : (n : ℕ) → n ≤ n
      self n = omega arith

-- the value before, written again
old_again : (p : Program) (h g : Heap) (l m : Location) → same_location m l ≡ true → value_at p ((l, value_at p h l) ∷ g) m ≡ value_at p h m
old_again p h g l m e =
    ap (λ (b : Bool). cond (b && same_type (type_of (value_at p h l)) (field_type p m.field)) (value_at p h l) (find_value (field_type p m.field) g m)) e
    ∙ ap (λ (b : Bool). cond b (value_at p h l) (find_value (field_type p m.field) g m))
    (ap (λ (k : Location). same_type (type_of (value_at p h l)) (field_type p k.field)) (location_is m l e) ∙ subst (λ (t : ValueType). same_type (type_of (value_at p h l)) t ≡ true) (value_typed p h l) (type_same (type_of (value_at p h l))))
    ∙ ap (value_at p h) (sym (location_is m l e))

pub same_behind : (p : Program) (h g : Heap) (l m : Location) (v : Value) → value_at p h m ≡ value_at p g m → value_at p ((l, v) ∷ h) m ≡ value_at p ((l, v) ∷ g) m
same_behind p h g l m v e = ap (λ (x : Value). cond (same_location m l && same_type (type_of v) (field_type p m.field)) v x) e

-- Where one part has the whole of a location, the others are within what is left of it.
pub others_within : (a keeps less hs : Holdings) (l : Location) → Le full (amount less (At l)) → AtMost (keeps ++ less) hs → ((r : Resource) → IsSingle r → Le none (amount less r)) → AtMost (a ++ keeps) (lost (At l) full (a ++ hs))
others_within a keeps less hs l own fewer debts r si = go (same_resource r (At l)) refl
  where
    all : AtMost (less ++ (a ++ keeps)) (a ++ hs)
    all = at_most_both (less ++ (a ++ keeps)) ((a ++ keeps) ++ less) (a ++ hs) (turn less (a ++ keeps))
        (subst (λ (z : Holdings). AtMost z (a ++ hs)) (sym (assoc a keeps less)) (front a (keeps ++ less) hs fewer))

    moved : (x y : Fraction) → Le (sum full x) y → Le x (sum (minus full) y)
    moved x y le =
        let e : Same (sum full (sum (minus full) y)) y = same-trans (same-sym (sum_assoc full (minus full) y)) (same-trans (sum_same (sum-minus full) (same-refl y)) (none-sum y)) in
        cancel-left full (le-trans le e.back)

    go : (b : Bool) → same_resource r (At l) ≡ b → Le (amount (a ++ keeps) r) (cond b (sum (minus full) (amount (a ++ hs) r)) (amount (a ++ hs) r))
    go true e =
        let owned : Le full (amount less r) = subst (λ (z : Resource). Le full (amount less z)) (sym (resource_is r (At l) tt e)) own in
        moved (amount (a ++ keeps) r) (amount (a ++ hs) r) (le-trans (add-right (amount (a ++ keeps) r) owned) (le-trans (amount_both less (a ++ keeps) r).back (all r si)))
    go false e = le-trans (more_with less (a ++ keeps) debts r si) (all r si)

module _ (p : Program) (l : Laws p) where
  good : GoodBodies p
  good = good_bodies p l.typed

  -- the run by contracts writes in the heap with the value before
  module _ {ds : Scope} {a : Around} {keeps : Holdings} {Reached : State → Type 0} {w : State} (f : Follows p ds a keeps Reached w) (m : Location) (v : Value) (own : Le full (amount f.less (At m))) where
    less_written : Written p w.heap ((m, v) ∷ w.heap) f.less
    less_written = written p (good_bodies p l.typed) l.kept w.heap f.less m v f.sane own

    pub before : (h : Heap) → Agree p ((m, v) ∷ w.heap) f.less h → Agree p w.heap f.less ((m, value_at p w.heap m) ∷ h)
    before h agree k z = go (same_location k m) refl
      where
        go : (b : Bool) → same_location k m ≡ b → value_at p ((m, value_at p w.heap m) ∷ h) k ≡ value_at p w.heap k
        go true e = old_again p w.heap h m k e
        go false e = write_elsewhere p h m k (value_at p w.heap m) e ∙ agree k (less_written.there k z) ∙ write_elsewhere p w.heap m k v e

    pub after : (h g : Heap) → Agree p ((m, v) ∷ w.heap) f.less h → Alike p ((m, value_at p w.heap m) ∷ h) g → Alike p h ((m, v) ∷ g)
    after h g agree alike k = go (same_location k m) refl
      where
        go : (b : Bool) → same_location k m ≡ b → value_at p ((m, v) ∷ g) k ≡ value_at p h k
        go true e = same_behind p g w.heap m k v (alike k ∙ old_again p w.heap h m k e)
            ∙ sym (agree k (held_directly p ((m, v) ∷ w.heap) f.less k (positive-le full-positive (le-trans own (le-is (ap (λ (j : Location). amount f.less (At j)) (sym (location_is k m e))))))))
        go false e = write_elsewhere p g m k v e ∙ alike k ∙ write_elsewhere p h m k (value_at p w.heap m) e

  pub write_goes : (n : ℕ) (at : Place) (e : Expr) (fd : Name) (e' : Expr) → StmtGoes p n (Write at e fd e')
  write_goes n at e fd e' ds a keeps Reached w ty f never = record { fine = λ place r. passed (FailsAt place) r (λ k. k.on); on = λ u r. surely_then (passed (Ends u) r) (goes u) }
    where
      passed : (o : Outcome) → checked (written_by p at e fd e' w) (λ (m, v). ends (with_heap ((m, v) ∷ w.heap) w)) o →
          Surely (SameValue p (good_bodies p l.typed) l.kept ds Reached w f.less f.old_less (written_by p at e fd e') (written_by p at e fd e' w) (λ (m, v). ends (with_heap ((m, v) ∷ w.heap) w)) o)
      passed o r = passing_same p (good_bodies p l.typed) l.kept f (written_by p at e fd e') (written_by p at e fd e' w)
          (λ g old u. let r = l.fits in written_rises p at e fd e' (seen w f.less f.old_less g old) w (r.fits ds w (seen w f.less f.old_less g old) u e _ ty.2) (r.fits ds w (seen w f.less f.old_less g old) u e' ty.0 ty.3) (fewer_less p (good_bodies p l.typed) l.kept f))
          (λ s (m, v). ends (with_heap ((m, v) ∷ s.heap) s)) (λ s r at k. never s r at k) (λ (m, v). ends (with_heap ((m, v) ∷ w.heap) w)) o r

      follow : (k : Location × Value) → ((h : Heap) → Agree p w.heap f.less h → Surely (IsBeneath p ds Reached w f.less f.old_less (λ g old. Eventually (λ n. written_by p at e fd e' (seen w f.less f.old_less g old) n ≡ Ok k)) h)) → Le full (amount f.less (At k.0)) →
          IsFollowed p ds a keeps (After (run p (Write at e fd e')) Reached) w (with_heap ((k.0, k.1) ∷ w.heap) w)
      follow k each own = (
        follows p (good_bodies p l.typed) l.kept f ds (After (run p (Write at e fd e')) Reached) w.store w.holdings ((k.0, k.1) ∷ w.heap) f.store whole_written.sane f.debts f.less f.fewer less_kept.sane
            (λ h agree. surely_map (each ((k.0, value_at p w.heap k.0) ∷ h) (before f k.0 k.1 own h agree))
            (λ b. ((k.0, k.1) ∷ b.0, b.1, (seen w f.less f.old_less b.0 b.1, b.2.reached, passes k b.3 refl), after f k.0 k.1 own h b.0 agree b.2.heap, b.2.old_heap))),
        agree_fewer p (good_bodies p l.typed) w.heap ((k.0, k.1) ∷ w.heap) (a.holdings ++ keeps) (lost (At k.0) full (a.holdings ++ w.holdings)) (kept_sane p (good_bodies p l.typed) l.kept f w.heap f.less w.holdings f.sane.debts f.fewer f.whole)
            (rest_sane p (good_bodies p l.typed) l.kept w.heap (a.holdings ++ w.holdings) k.0 k.1 f.whole own_whole) (others_within a.holdings keeps f.less w.holdings k.0 own f.fewer f.sane.debts)
            (agrees p (good_bodies p l.typed) l.kept w.heap (a.holdings ++ w.holdings) k.0 k.1 f.whole own_whole),
      )
        where
          own_whole : Le full (amount (a.holdings ++ w.holdings) (At k.0))
          own_whole = le-trans own (at_most_both f.less w.holdings (a.holdings ++ w.holdings) (fewer_less p (good_bodies p l.typed) l.kept f) (more_with a.holdings w.holdings f.around) (At k.0) tt)

          whole_written : Written p w.heap ((k.0, k.1) ∷ w.heap) (a.holdings ++ w.holdings)
          whole_written = written p (good_bodies p l.typed) l.kept w.heap (a.holdings ++ w.holdings) k.0 k.1 f.whole own_whole

          less_kept : Written p w.heap ((k.0, k.1) ∷ w.heap) f.less
          less_kept = written p (good_bodies p l.typed) l.kept w.heap f.less k.0 k.1 f.sane own

      goes : (u : State) → SameValue p (good_bodies p l.typed) l.kept ds Reached w f.less f.old_less (written_by p at e fd e') (written_by p at e fd e' w) (λ (m, v). ends (with_heap ((m, v) ∷ w.heap) w)) (Ends u) →
          Surely (IsFollowed p ds a keeps (After (run p (Write at e fd e')) Reached) w u)
      goes u k = surely_map (k.each w.heap (agree_self p w.heap f.less)) (λ b.
          subst (IsFollowed p ds a keeps (After (run p (Write at e fd e')) Reached) w) (sym k.on) (follow k.it k.each (writes_owned p at e fd e' (seen w f.less f.old_less b.0 b.1) k.it b.3)))
