-- Where no predicate fails, the body of each proper instance fits with what it gives: so another heap that agrees keeps what is held.
use Rattle.std.proofs.Common.{arith, ◌≡◌, ◌+◌, ℕ, suc, true, false, inl, inr, [], ◌∷◌, Option, Some, None, refl, sym, ◌∙◌, ap, subst}
use Rattle.std.specs.Prelude.{Ok, option_and_then, unwrap_or}
use Rattle.std.proofs.lemmas.Option.{same_Some}
use Rattle.vx_frac.specs.Fractions.{none, full, product}
use Rattle.vx_ast.specs.Syntax.{Name, Program, Predicate, IsPredicate, predicate_named, member_named, Assertion}
use Rattle.vx_meaning.specs.States.{State, Heap, Holdings, Location, Instance, At, Folded, HaveTypes, amount, bind, with_heap, with_holdings}
use Rattle.vx_meaning.specs.Evaluate.{applications}
use Rattle.vx_meaning.specs.Flatten.{bare, body_entries, entries, flat, IsGrounded}
use Rattle.vx_meaning.specs.Consistent.{total}
use Rattle.vx_meaning.specs.Fits.{deeper, add}
use Rattle.vx_meaning.specs.Fails as fails
use Rattle.vx_types.specs.Premises.{IsTypedProgram}
use Rattle.vx_amounts.proofs.Amounts.{Le, Positive, le-refl, le-trans, le-is, not-positive, positive-le, positive-or, above-add, below-add, sum_same, full-positive}
use Rattle.vx_amounts.proofs.Products.{product_sign, product_positive, positive_le}
use Rattle.vx_sound.proofs.World.{at_field, IsTypedInstance}
use Rattle.vx_sound_preds.specs.Bodies.{GoodBodies}
use Rattle.vx_sound_preds.specs.Covered.{AllGood, Covered}
use Rattle.vx_sound_preds.proofs.Flats.{came, flat_later}
use Rattle.vx_sound_preds.proofs.Totals.{weigh, weigh_none, weight, weight_sign, weight_of_body, weigh_sign, total_weighs, same_is}
use Rattle.vx_sound_preds.proofs.Grouped.{AreSingle, NoDebts}
use Rattle.vx_sound_preds.proofs.Adding.{Fine, AreEntries, added, weigh_added}
use Rattle.vx_sound_preds.proofs.Exchanging.{no_negatives, opened, grown, bound_rigid, held_rigid}
use Rattle.vx_sound_preds.proofs.Frames.{AllPositive, positive_least, entries_positive, full-product, sum-none, SameAt, framed_at}
use Rattle.vx_sound_preds.proofs.Folding.{Stock, held_inside}
use Rattle.vx_sound_preds.proofs.Changes.{consistent_kept, total_kept}
use Rattle.vx_sound_preds.proofs.Holding.{TypedAll, typed_added, all_single, added_debts, of_entries, instance_rigid, stock, consistent, of_possible}
use Rattle.vx_sound_preds.proofs.Entries.{asking_typed}
use Rattle.vx_sound_preds.proofs.Same.{same_entries}
use Rattle.vx_sound_preds.proofs.Speaking.{predicate_member}
use Rattle.vx_sound_preds.proofs.Typed.{good_bodies}
use Rattle.vx_runs.specs.Law.{NoneFails}
use Rattle.vx_runs.proofs.Followed.{Any, Sane, SaneKept}
use Rattle.vx_runs.proofs.Exchanging.{asks_any, held_typed, no_perm, body_typed}
use Rattle.vx_runs.proofs.Deciding.{Decided, decides, self}

-- an instance that can be held: typed, grounded, and with nothing of null inside
pub record IsSound (p : Program) (h : Heap) (i : Instance) : Type 0 where
  pub typed : IsTypedInstance p Any i
  pub grounded : IsGrounded p h i
  pub null : (n : ℕ) (f : Name) → Le (weight p h (at_field 0 f) n (Folded i)) none

module _ (p : Program) (typed : IsTypedProgram p) where
  abbrev good : GoodBodies p
  good = good_bodies p typed

  -- An instance that can be held, and its body

  same_predicate : (a b : Predicate) → Some a ≡ Some b → a ≡ b
  same_predicate a b e = cc

  of_body : (h : Heap) (i : Instance) (d : Predicate) (a : Assertion) (es : Holdings) → predicate_named p i.predicate ≡ Some d → d.body ≡ Some a → IsSound p h i → entries p (bare (bind d.parameters i.arguments) h) a ≡ Some es → TypedAll p Any es
  of_body h i d a es is body k en =
      let types = subst (λ (e : Predicate). HaveTypes e.parameters i.arguments) (same_predicate k.typed.1.0 d (sym k.typed.1.1 ∙ is)) k.typed.1.3 in
      asking_typed p Any (no_perm p typed) typed.functions d.parameters i.arguments types h 0 a es (body_typed p typed i.predicate d a is body) (asks_any a) (same_entries p (applications p 0) (bare (bind d.parameters i.arguments) h) a (good.plain i.predicate d a is body) ∙ en)

  -- its entries weigh nothing at null, by any fuel
  light : (h : Heap) (i : Instance) (k : IsSound p h i) (es : Holdings) → option_and_then (λ d. body_entries p h i.arguments d) (predicate_named p i.predicate) ≡ Some es → (n : ℕ) (f : Name) → Le (weigh (weight p h (at_field 0 f) (k.grounded.0 + n)) es) none
  light h i k es body n f =
      let g = k.grounded in
      let z : suc n + g.0 ≡ suc (g.0 + n) = omega arith in
      let e : flat p (suc (g.0 + n)) h i ≡ Some g.1 = subst (λ (m : ℕ). flat p m h i ≡ Some g.1) z (flat_later p (suc n) g.0 h i g.1 g.2) in
      le-trans (weight_of_body p h (at_field 0 f) (g.0 + n) i g.1 e es body).back (k.null (suc (g.0 + n)) f)

  at_null : (h : Heap) (i : Instance) (k : IsSound p h i) (es : Holdings) → option_and_then (λ d. body_entries p h i.arguments d) (predicate_named p i.predicate) ≡ Some es → TypedAll p Any es → AllPositive es → (n : ℕ) (f : Name) → Le (total p n h (added full es []) (at_field 0 f)) none
  at_null h i k es e types ps n f =
      let hs = added full es [] in
      let l = at_field 0 f in
      let w = weight p h l (k.grounded.0 + n) in
      let single : AreSingle hs = all_single p Any hs (typed_added p Any full es [] types tt) in
      let debts : NoDebts hs = added_debts p good Any false full es [] full-positive ps (λ r s. le-refl none) in
      le-trans (total_weighs p h l n hs).there
      (le-trans (grown p h l (no_negatives p h l good) hs single debts k.grounded.0 n)
      (le-trans (weigh_added w full es []).there
      (le-trans (sum_same (full-product (weigh w es)) (same_is (weigh_none w))).there
      (le-trans (sum-none (weigh w es)).there (light h i k es e n f)))))

  -- what is inside weighs nothing where the instance does
  abbrev Lighter : Heap → ℕ → Location → Holdings → Type 0
  Lighter h n l [] = Unit {0}
  Lighter h n l ((At k, q) ∷ xs) = Lighter h n l xs
  Lighter h n l ((Folded j, q) ∷ xs) = Le (weight p h l n (Folded j)) none × Lighter h n l xs

  lighter : (h : Heap) (n : ℕ) (l : Location) (es : Holdings) → AllPositive es → Le (weigh (weight p h l n) es) none → Lighter h n l es
  unfolding weigh
  lighter h n l [] pos le = tt
  lighter h n l ((At k, q) ∷ xs) pos le = lighter h n l xs pos.1 (le-trans (below-add (weigh (weight p h l n) xs) (product_sign (positive_le pos.0) (weight_sign p h l (no_negatives p h l good) n (At k)))) le)
  lighter h n l ((Folded j, q) ∷ xs) pos le =
      let up : Le none (weigh (weight p h l n) xs) = weigh_sign p h l (weight p h l n) (weight_sign p h l (no_negatives p h l good) n) xs (positive_least p h l xs pos.1) in
      let mine : Le (product q (weight p h l n (Folded j))) none = le-trans (above-add (product q (weight p h l n (Folded j))) (weigh (weight p h l n) xs) up) le in (
        positive-or (weight p h l n (Folded j)) (λ z. absurd (not-positive (product_positive pos.0 z) mine)) (λ z. z),
        lighter h n l xs pos.1 (le-trans (below-add (weigh (weight p h l n) xs) (product_sign (positive_le pos.0) (weight_sign p h l (no_negatives p h l good) n (Folded j)))) le),
      )

  less_fuel : (h : Heap) (k n : ℕ) (l : Location) (j : Instance) → Le (weight p h l (k + n) (Folded j)) none → Le (weight p h l n (Folded j)) none
  less_fuel h k n l j le = go (flat p n h j) refl
    where
      go : (o : Option Holdings) → flat p n h j ≡ o → Le (amount (unwrap_or (flat p n h j) []) (At l)) none
      go None e = le-is (ap (λ (o : Option Holdings). amount (unwrap_or o []) (At l)) e)
      go (Some y) e = le-trans (le-is (ap (λ (o : Option Holdings). amount (unwrap_or o []) (At l)) (e ∙ sym (flat_later p k n h j y e)))) le

  all_sound : (h : Heap) (es : Holdings) → TypedAll p Any es → AreEntries p h es → ((n : ℕ) (f : Name) → (k : ℕ) × Lighter h (k + n) (at_field 0 f) es) → AllGood (IsSound p) h es
  all_sound h [] t g l = tt
  all_sound h ((At k, q) ∷ xs) t g l = all_sound h xs t.1 g.1 l
  all_sound h ((Folded j, q) ∷ xs) t g l = (
    record { typed = t.0; grounded = g.0; null = λ n f. less_fuel h (l n f).0 n (at_field 0 f) j (l n f).1.0 },
    all_sound h xs t.1 g.1 (λ n f. ((l n f).0, (l n f).1.1)),
  )

  inside : (h : Heap) (i : Instance) (es : Holdings) → IsSound p h i → option_and_then (λ d. body_entries p h i.arguments d) (predicate_named p i.predicate) ≡ Some es → AllGood (IsSound p) h es
  inside h i es k e =
      let y = came (predicate_named p i.predicate) (λ d. body_entries p h i.arguments d) es e in
      go y.it y.is y.it.body refl y.then
    where
      side_of : Predicate → Option Assertion → Option Holdings
      side_of d None = Some []
      side_of d (Some a) = entries p (bare (bind d.parameters i.arguments) h) a

      go : (d : Predicate) → predicate_named p i.predicate ≡ Some d → (b : Option Assertion) → d.body ≡ b → side_of d d.body ≡ Some es → AllGood (IsSound p) h es
      go d is None body f = subst (AllGood (IsSound p) h) (same_Some [] es (sym (ap (side_of d) body) ∙ f)) tt
      go d is (Some a) body f =
          let of : entries p (bare (bind d.parameters i.arguments) h) a ≡ Some es = sym (ap (side_of d) body) ∙ f in
          let o = opened p h i d a is body k.grounded in
          let one : o.entries_of ≡ es = same_Some o.entries_of es (sym o.entries_are ∙ of) in
          let ps = entries_positive p (bare (bind d.parameters i.arguments) h) a es (good.plain i.predicate d a is body) of in
          all_sound h es (of_body h i d a es is body k of) (subst (AreEntries p h) one o.can) (λ n f. (k.grounded.0, lighter h (k.grounded.0 + n) (at_field 0 f) es ps (light h i k es e n f)))

  module _ (none_fails : NoneFails p) where
    fits : (h : Heap) (i : Instance) (d : Predicate) (a : Assertion) → predicate_named p i.predicate ≡ Some d → d.body ≡ Some a → IsSound p h i → IsGrounded p h i → (m : ℕ) × (u : State) × (add p (deeper p m) full a (bare (bind d.parameters i.arguments) h) ≡ Ok u)
    fits h i d a is body k g =
        let o = opened p h i d a is body k.grounded in
        let plain_body = good.plain i.predicate d a is body in
        let ps = entries_positive p (bare (bind d.parameters i.arguments) h) a o.entries_of plain_body o.entries_are in
        let kinds = of_body h i d a o.entries_of is body k o.entries_are in
        let holds = of_entries p good Any false h o.entries_of kinds o.can ps (at_null h i k o.entries_of o.body_is kinds ps) refl in
        let fine : Fine p (bare (bind d.parameters i.arguments) h) = record { typed = bound_rigid d.parameters i.arguments (instance_rigid p Any i k.typed); forth = ((λ r sc. le-refl none), tt); back = λ j k. absurd (not-positive k (le-refl none)) } in
        go (decides p typed a (bare (bind d.parameters i.arguments) h) o.entries_of plain_body fine o.entries_are o.can ps holds)
      where
        types : HaveTypes d.parameters i.arguments
        types = subst (λ (e : Predicate). HaveTypes e.parameters i.arguments) (same_predicate k.typed.1.0 d (sym k.typed.1.1 ∙ is)) k.typed.1.3

        go : Decided p typed a (bare (bind d.parameters i.arguments) h) → (m : ℕ) × (u : State) × (add p (deeper p m) full a (bare (bind d.parameters i.arguments) h) ≡ Ok u)
        go (inl (u, x)) = (x.adds.0, u, x.adds.1 x.adds.0 (self x.adds.0))
        go (inr (at, x)) = absurd (none_fails i.predicate (IsPredicate d) (predicate_member (member_named p i.predicate) d is) (fails.body i.arguments h a at types body x))

    pub covered : Covered p (IsSound p)
    covered = record { fits = fits; inside = inside }

    -- what is held of a state that can be is sound
    held_sound : (h : Heap) (hs : Holdings) → Sane p h hs → (i : Instance) → Positive (amount hs (Folded i)) → IsSound p h i
    held_sound h hs sane i k = record {
      typed = held_typed p hs i sane.typed k;
      grounded = sane.grounded i k;
      null = λ n f. positive-or (weight p h (at_field 0 f) n (Folded i)) (λ z. none_there n f z) (λ z. z);
    }
      where
        none_there : (n : ℕ) (f : Name) → Positive (weight p h (at_field 0 f) n (Folded i)) → Le (weight p h (at_field 0 f) n (Folded i)) none
        none_there n f z =
            let y = held_inside p good h hs (stock p good Any true h hs sane) i k n (at_field 0 f) z in
            absurd (not-positive (let m : Positive (total p y.0 h hs (at_field 0 f)) = record { holds = y.1 } in m) (sane.null y.0 f))

    pub sane_kept : SaneKept p
    sane_kept h g held sane agree = (
      of_possible p good Any true (with_heap g s) (consistent_kept p good s g st same (consistent p good Any true s refl sane)).0 sane.typed sane.debts,
      λ l y. let z = total_kept p good s g st same y.0 l in (z.0, (positive-le (record { holds = y.1 }) z.1).holds),
    )
      where
        s : State
        s = with_holdings held (bare [] h)

        st : Stock p h held
        st = stock p good Any true h held sane

        same : (n : ℕ) (i : Instance) → Positive (amount held (Folded i)) → (x : Holdings) → flat p n h i ≡ Some x → SameAt p n h g i
        same n i k x e = framed_at p good (IsSound p) covered h g n i x (held_sound h held sane i k) (held_rigid i held (all_single p Any held sane.typed) k) e (λ l y. agree l (held_inside p good h held st i k n l y))
