-- A change of the heap where nothing is held, and a write of what is wholly held, leave a state that can be, and trees.
use Rattle.std.proofs.Common.{◌≡◌, ℕ, zero, suc, ◌+◌, ◌≤◌, Bool, true, false, cond, ◌&&◌, [], ◌∷◌, length, Option, Some, refl, sym, ◌∙◌, ap, subst, arith, true≢false}
use Rattle.std.specs.Prelude.{unwrap_or}
use Rattle.vx_frac.specs.Fractions.{Fraction, none, full, sum, product}
use Rattle.vx_ast.specs.Syntax.{Program}
use Rattle.vx_ast.specs.Types.{same_type}
use Rattle.vx_meaning.specs.Values.{Value, type_of}
use Rattle.vx_terms.specs.Interpretations.{Tree}
use Rattle.vx_sound.specs.Snapshots.{tree_by, IsTree}
use Rattle.vx_sound.proofs.Chunks.{location_is}
use Rattle.vx_meaning.specs.States.{State, Heap, Holdings, Location, Instance, Resource, At, Folded, same_location, same_resource, amount, value_at, find_value, field_type, with_heap}
use Rattle.vx_meaning.specs.Flatten.{flat, IsGrounded}
use Rattle.vx_meaning.specs.Consistent.{total, Changes, IsConsistent}
use Rattle.vx_amounts.proofs.Amounts.{Le, Positive, Same, same-refl, same-sym, same-trans, le-refl, le-trans, le-is, sum_same, product_same, not-positive, positive-or}
use Rattle.vx_sound_preds.specs.Covered.{Covered}
use Rattle.vx_sound_preds.specs.Bodies.{GoodBodies}
use Rattle.vx_sound_preds.proofs.Flats.{flat_later, tree_later}
use Rattle.vx_sound_preds.proofs.Totals.{weigh, weigh_none, weight, total_weighs, same_is}
use Rattle.vx_sound_preds.proofs.Grouped.{IsSingle, AreSingle, NoDebts, resource_is, others, split, others_single, others_no_debts, others_amount, others_none, shorter, none-product}
use Rattle.vx_sound_preds.proofs.Exchanging.{no_negatives, grown, held_rigid}
use Rattle.vx_sound_preds.proofs.Frames.{SameAt, framed_at}
use Rattle.vx_sound_preds.proofs.Folding.{Stock, held_inside, owned_apart}

-- weights that are the same for all of which anything is held weigh the same
alike_by : (w v : Resource → Fraction) (k : ℕ) (xs : Holdings) → length xs ≤ k → AreSingle xs → NoDebts xs → ((r : Resource) → IsSingle r → Positive (amount xs r) → w r ≡ v r) → Same (weigh w xs) (weigh v xs)
alike_by w v k [] le h n same = same-trans (same_is (weigh_none w)) (same_is (sym (weigh_none v)))
alike_by w v zero (x ∷ xs) le h n same = absurd (none_of (length xs) le)
  where
    none_of : (m : ℕ) → suc m ≤ zero → ⊥
    none_of m e = omega arith
alike_by w v (suc k) (x ∷ xs) le h n same =
    same-trans (split w x.0 (x ∷ xs) h)
    (same-trans (sum_same (here x.0 (x ∷ xs) (n x.0 h.0) (same x.0 h.0)) (alike_by w v k (others x.0 (x ∷ xs)) (shorter k x xs h le) (others_single x.0 (x ∷ xs) h) (others_no_debts x.0 (x ∷ xs) h n) (λ c sc z. same c sc (among x.0 c (x ∷ xs) h sc z))))
    (same-sym (split v x.0 (x ∷ xs) h)))
  where
    here : (r : Resource) (all : Holdings) → Le none (amount all r) → (Positive (amount all r) → w r ≡ v r) → Same (product (amount all r) (w r)) (product (amount all r) (v r))
    here r all sign eq = positive-or (amount all r)
        (λ z. same_is (ap (product (amount all r)) (eq z)))
        (λ z. let nil : Same (amount all r) none = record { there = z; back = sign } in
        same-trans (same-trans (product_same nil (same-refl (w r))) (none-product (w r))) (same-sym (same-trans (product_same nil (same-refl (v r))) (none-product (v r)))))

    among : (r c : Resource) (all : Holdings) → AreSingle all → IsSingle c → Positive (amount (others r all) c) → Positive (amount all c)
    among r c all si sc z = go (same_resource r c) refl
      where
        go : (b : Bool) → same_resource r c ≡ b → Positive (amount all c)
        go true e = absurd (not-positive (subst Positive (others_none r c all si e sc) z) (le-refl none))
        go false e = subst Positive (others_amount r c all si (λ f. true≢false (sym f ∙ e))) z

pub weigh_alike : (w v : Resource → Fraction) (xs : Holdings) → AreSingle xs → NoDebts xs → ((r : Resource) → IsSingle r → Positive (amount xs r) → w r ≡ v r) → Same (weigh w xs) (weigh v xs)
weigh_alike w v xs h n same = alike_by w v (length xs) xs (self (length xs)) h n same
  where
    self : (m : ℕ) → m ≤ m
    self m = omega arith

-- one fuel suffices for all instances of which anything is held
abbrev Suffices : Program → Heap → ℕ → Instance → Type 0
Suffices p h n i = (x : Holdings) × (flat p n h i ≡ Some x)

more_suffices : (p : Program) (h : Heap) (k n : ℕ) (i : Instance) → Suffices p h n i → Suffices p h (k + n) i
more_suffices p h k n i s = (s.0, flat_later p k n h i s.0 s.1)

pub record Enough (p : Program) (h : Heap) (hs part : Holdings) : Type 0 where
  pub fuel : ℕ
  pub suffices : (i : Instance) → Positive (amount hs (Folded i)) → Positive (amount part (Folded i)) → (x : Holdings) × (flat p fuel h i ≡ Some x)

enough : (p : Program) (h : Heap) (hs : Holdings) → Stock p h hs → (part : Holdings) → AreSingle part → Enough p h hs part
enough p h hs st [] si = record { fuel = 0; suffices = λ i k z. absurd (not-positive z (le-refl none)) }
enough p h hs st (x ∷ xs) si = go x.0 refl si.0 (enough p h hs st xs si.1)
  where
    rest : (i : Instance) → (same_resource (Folded i) x.0 ≡ true → ⊥) → Positive (amount (x ∷ xs) (Folded i)) → Positive (amount xs (Folded i))
    rest i n = at (same_resource (Folded i) x.0) n
      where
        at : (b : Bool) → (b ≡ true → ⊥) → Positive (cond b (sum x.1 (amount xs (Folded i))) (amount xs (Folded i))) → Positive (amount xs (Folded i))
        at true n z = absurd (n refl)
        at false n z = z

    is : (i j : Instance) → ◌≡◌ {A = Resource} (Folded i) (Folded j) → i ≡ j
    is i j e = cc

    no_location : (i : Instance) (l : Location) → ◌≡◌ {A = Bool} false true → ⊥
    no_location i l e = true≢false (sym e)

    either : (b : Bool) → {R : Type 0} → (b ≡ true → R) → ((b ≡ true → ⊥) → R) → R
    either true f g = f refl
    either false f g = g (λ e. true≢false (sym e))

    go : (r : Resource) → x.0 ≡ r → IsSingle r → Enough p h hs xs → Enough p h hs (x ∷ xs)
    go (At l) e sr en = record { fuel = en.fuel; suffices = λ i k z. en.suffices i k (rest i (λ f. no_location i l (subst (λ (r : Resource). same_resource (Folded i) r ≡ true) e f)) z) }
    go (Folded j) e sr en = positive-or (amount hs (Folded j))
        (λ pos. let g = st.grounded j pos in record {
          fuel = g.0 + en.fuel;
          suffices = λ i k z. either (same_resource (Folded i) x.0)
              (λ f.
              let m = is i j (resource_is (Folded i) (Folded j) sr (subst (λ (r : Resource). same_resource (Folded i) r ≡ true) e f)) in
              let s = more_suffices p h en.fuel g.0 j (g.1, g.2) in
              let o : en.fuel + g.0 ≡ g.0 + en.fuel = omega arith in
              subst (Suffices p h (g.0 + en.fuel)) (sym m) (subst (λ (n : ℕ). Suffices p h n j) o s))
              (λ n. more_suffices p h g.0 en.fuel i (en.suffices i k (rest i n z)));
        })
        (λ neg. record {
          fuel = en.fuel;
          suffices = λ i k z. either (same_resource (Folded i) x.0)
              (λ f.
              let m = is i j (resource_is (Folded i) (Folded j) sr (subst (λ (r : Resource). same_resource (Folded i) r ≡ true) e f)) in
              absurd (not-positive (subst (λ (i : Instance). Positive (amount hs (Folded i))) m k) neg))
              (λ n. en.suffices i k (rest i n z));
        })

-- another heap in which all that is held has the same inside, and the same tree
module _ (p : Program) (good : GoodBodies p) (s : State) (g : Heap) (st : Stock p s.heap s.holdings) (same : (n : ℕ) (i : Instance) → Positive (amount s.holdings (Folded i)) → (x : Holdings) → flat p n s.heap i ≡ Some x → SameAt p n s.heap g i) where
  all : Enough p s.heap s.holdings s.holdings
  all = enough p s.heap s.holdings st s.holdings st.single

  grounded : (i : Instance) → Positive (amount s.holdings (Folded i)) → IsGrounded p g i
  grounded i k = let f = st.grounded i k in (f.0, f.1, (same f.0 i k f.1 f.2).inside ∙ f.2)

  weights : (n : ℕ) (l : Location) (r : Resource) → IsSingle r → Positive (amount s.holdings r) → weight p g l (n + all.fuel) r ≡ weight p s.heap l (n + all.fuel) r
  weights n l (At m) sr k = refl
  weights n l (Folded i) sr k =
      let x = more_suffices p s.heap n all.fuel i (all.suffices i k k) in
      ap (λ (o : Option Holdings). amount (unwrap_or o []) (At l)) (same (n + all.fuel) i k x.0 x.1).inside

  below : (n : ℕ) (l : Location) → Le (total p n g s.holdings l) (total p (n + all.fuel) s.heap s.holdings l)
  below n l =
      let hs = s.holdings in
      let z : all.fuel + n ≡ n + all.fuel = omega arith in
      le-trans (total_weighs p g l n hs).there
      (le-trans (grown p g l (no_negatives p g l good) hs st.single st.debts all.fuel n)
      (le-trans (le-is (ap (λ (m : ℕ). weigh (weight p g l m) hs) z))
      (le-trans (weigh_alike (weight p g l (n + all.fuel)) (weight p s.heap l (n + all.fuel)) hs st.single st.debts (weights n l)).there
      (total_weighs p s.heap l (n + all.fuel) hs).back)))

  pub total_kept : (n : ℕ) (l : Location) → (m : ℕ) × Le (total p n g s.holdings l) (total p m s.heap s.holdings l)
  total_kept n l = (n + all.fuel, below n l)

  pub tree_kept : (i : Instance) → Positive (amount s.holdings (Folded i)) → (t : Tree) → IsTree p s.heap i t → IsTree p g i t
  tree_kept i k t tr =
      let f = st.grounded i k in
      let z : tr.0 + f.0 ≡ f.0 + tr.0 = omega arith in
      let at = flat_later p tr.0 f.0 s.heap i f.1 f.2 in
      let tree : tree_by p (tr.0 + f.0) s.heap i ≡ Some t = ap (λ (m : ℕ). tree_by p m s.heap i) z ∙ tree_later p f.0 tr.0 s.heap i t tr.1 in
      (tr.0 + f.0, (same (tr.0 + f.0) i k f.1 at).tree ∙ tree)

  pub consistent_kept : IsConsistent p s → IsConsistent p (with_heap g s) × Stock p g s.holdings
  consistent_kept co = (
    record {
      supported = record {
        grounded = λ i k. grounded i (record { holds = k });
        null = λ n f. (le-trans {c = none} (below n record { receiver = 0; field = f }) (record { holds = co.supported.null (n + all.fuel) f })).holds;
      };
      bounded = λ n l. (le-trans {c = full} (below n l) (record { holds = co.bounded (n + all.fuel) l })).holds;
    },
    record { debts = st.debts; single = st.single; grounded = grounded },
  )

module _ (p : Program) (good : GoodBodies p) (Good : Heap → Instance → Type 0) (covered : Covered p Good) where
  -- a change of the heap where nothing is held
  pub same_changed : (s : State) (g : Heap) → Stock p s.heap s.holdings → Changes p s g → ((i : Instance) → Positive (amount s.holdings (Folded i)) → Good s.heap i) →
      (n : ℕ) (i : Instance) → Positive (amount s.holdings (Folded i)) → (x : Holdings) → flat p n s.heap i ≡ Some x → SameAt p n s.heap g i
  same_changed s g st ch gd n i k x e = framed_at p good Good covered s.heap g n i x (gd i k) (held_rigid i s.holdings st.single k) e (λ l y. ch l (held_inside p good s.heap s.holdings st i k n l y))

  write_elsewhere : (h : Heap) (l m : Location) (v : Value) → (same_location m l ≡ true → ⊥) → value_at p ((l, v) ∷ h) m ≡ value_at p h m
  write_elsewhere h l m v n = go (same_location m l) n
    where
      go : (b : Bool) → (b ≡ true → ⊥) → cond (b && same_type (type_of v) (field_type p m.field)) v (find_value (field_type p m.field) h m) ≡ find_value (field_type p m.field) h m
      go true n = absurd (n refl)
      go false n = refl

  -- a write of a location that is wholly held
  pub same_written : (s : State) (l : Location) (v : Value) → Stock p s.heap s.holdings → IsConsistent p s → Le full (amount s.holdings (At l)) → ((i : Instance) → Positive (amount s.holdings (Folded i)) → Good s.heap i) →
      (n : ℕ) (i : Instance) → Positive (amount s.holdings (Folded i)) → (x : Holdings) → flat p n s.heap i ≡ Some x → SameAt p n s.heap ((l, v) ∷ s.heap) i
  same_written s l v st co own gd n i k x e = framed_at p good Good covered s.heap ((l, v) ∷ s.heap) n i x (gd i k) (held_rigid i s.holdings st.single k) e
      (λ m w. write_elsewhere s.heap l m v (λ same.
      owned_apart p good Good covered s.heap s.holdings st l own n (record { holds = co.bounded n l }) i k (subst (λ (m : Location). Positive (weight p s.heap m n (Folded i))) (location_is m l same) w)))
