-- Taking an amount from all chunks of a location: each gives what it has there, up to what is still wanted.
use Rattle.std.proofs.Common.{◌≡◌, ◌⊎◌, inl, inr, ℕ, ◌≤◌, Bool, true, false, cond, List, [], ◌∷◌, ◌++◌, slice_set, refl, sym, ◌∙◌, ap, ap₂, subst, le_trans, le_refl}
use Rattle.vx_frac.specs.Fractions.{Fraction, none, sum, minus, difference}
use Rattle.vx_ast.specs.Syntax.{Name, Program}
use Rattle.vx_meaning.specs.Values.{RefValue}
use Rattle.vx_meaning.specs.States as run
use Rattle.vx_terms.specs.Sorts.{RealSort, RefSort}
use Rattle.vx_terms.specs.Terms.{Term, sort_of}
use Rattle.vx_terms.specs.Build.{equals, less_equal, subtract, ite, zero_amount}
use Rattle.vx_terms.specs.Interpretations.{Each, Interpretation, as_bool, as_fraction, value}
use Rattle.vx_terms.proofs.Build.{ite_value}
use Rattle.vx_rules.specs.States as rules
use Rattle.vx_rules.specs.Chunks.{Candidate, first_argument, field_key, part_at, share, shared_out, with_amount}
use Rattle.vx_types.specs.Typing.{Scope}
use Rattle.vx_elements.proofs.Settled.{Meaning, Extends, extends-refl, extends-trans, value_kept}
use Rattle.vx_elements.proofs.Built.{Good, good_later, good_equals, good_ite}
use Rattle.vx_elements.proofs.Elements.{element}
use Rattle.vx_elements.proofs.Truth.{less_equal_is, true_le, good_zero, good_at_most, good_difference, subtract_is}
use Rattle.vx_elements.proofs.Places.{IsPlace}
use Rattle.vx_elements.proofs.Lists.{each_map}
use Rattle.vx_amounts.proofs.Amounts.{Le, Same, le-refl, le-trans, le-is, le-total, positive-le, same-refl, same-sym, same-trans, minus_same, difference_same, difference-none, difference-below, difference-move, minus_none, none_minus, add-mono, add-right, add-left, add-below, below-add, sum_comm, sum_assoc, sum_same, none-sum, sum-minus}
use Rattle.vx_sound.proofs.World.{at_field, World}
use Rattle.vx_sound.proofs.Stands.{resource_of, amount_of, own, held, HeapStands, Stands, chunk_typed, chunk_later, resource_kept}
use Rattle.vx_sound.proofs.Chunks.{Apart, taken_apart, put_together, chunk_held}
use Rattle.vx_sound.proofs.Goes.{named}
use Rattle.vx_sound.proofs.Puts.{stands_with_holdings}
use Rattle.vx_sound.proofs.Summed.{IsOf as OfField, part, parts, part_good, parts_sign, at_it}
use Rattle.vx_sound.proofs.Slots.{StandsAt, Differ, slot, others_stand}

-- Amounts

sum_less : (b x : Fraction) → Same (difference (sum b x) b) x
sum_less b x =
    same-trans (sum_same (sum_comm b x) (same-refl (minus b))) (same-trans (sum_assoc x b (minus b)) (same-trans (sum_same (same-refl x) (sum-minus b)) (same-trans (sum_comm x none) (none-sum x))))

less_by : (b : Fraction) {m x : Fraction} → Le m (sum b x) → Le (difference m b) x
less_by b {m = m} {x = x} h = le-trans (add-right (minus b) h) (sum_less b x).there

same_is : {a b : Fraction} → a ≡ b → Same a b
same_is {a = a} e = subst (λ x. Same a x) e (same-refl a)

-- what is taken in two parts, of which one is what the other leaves
lost_twice : (n q m x : Fraction) → Same m (difference n q) → Le (sum (minus m) (sum (minus q) x)) (sum (minus n) x)
lost_twice n q m x s = le-trans (sum_assoc (minus m) (minus q) x).back (add-right x both)
  where
    back : Same (sum m q) n
    back = same-trans (sum_same s (same-refl q)) (same-trans (sum_assoc n (minus q) q) (same-trans (sum_same (same-refl n) (same-trans (sum_comm (minus q) q) (sum-minus q))) (same-trans (sum_comm n none) (none-sum n))))

    -- -m - q is -(m + q)
    both : Le (sum (minus m) (minus q)) (minus n)
    both = le-trans all_gone (none-sum (minus n)).there
      where
        all_gone : Le (sum (minus m) (minus q)) (sum none (minus n))
        all_gone =
            le-trans (none-sum (sum (minus m) (minus q))).back
            (le-trans (add-right (sum (minus m) (minus q)) (le-trans (sum-minus n).back (sum_comm n (minus n)).there))
            (le-trans (sum_assoc (minus n) n (sum (minus m) (minus q))).there
            (le-trans (add-left (minus n) (le-trans (add-right (sum (minus m) (minus q)) back.back) (nothing_left m q))) (sum_comm (minus n) none).there)))
          where
            nothing_left : (m q : Fraction) → Le (sum (sum m q) (sum (minus m) (minus q))) none
            nothing_left m q =
                le-trans (sum_assoc m q (sum (minus m) (minus q))).there
                (le-trans (add-left m (le-trans (add-left q (sum_comm (minus m) (minus q)).there) (le-trans (sum_assoc q (minus q) (minus m)).back (le-trans (add-right (minus m) (sum-minus q).there) (none-sum (minus m)).there)))) (sum-minus m).there)

pub heap_after_name : (t : Term) (s : rules.State) → (rules.after_name t s).heap ≡ s.heap
heap_after_name t s = go (rules.is_named t s)
  where
    known : (b : Bool) (e : rules.Entry) → (cond b (rules.after_fresh s) (rules.with_entry e (rules.after_fresh s))).heap ≡ s.heap
    known true e = refl
    known false e = refl

    go : (b : Bool) → (cond b s (rules.with_fact (equals (rules.fresh (sort_of t) s) t) (rules.after_fresh s))).heap ≡ s.heap
    go true = refl
    go false = known (rules.is_known (equals (rules.fresh (sort_of t) s) t) (rules.after_fresh s)) record { term = equals (rules.fresh (sort_of t) s) t; branch = false }

module _ (means : Meaning) (world : World) where
  abbrev p : Program
  p = world.program

  -- A chunk has less: its amount is another term.
  module _ (n : ℕ) (i : Interpretation) (heap : run.Heap) where
    lowered_sum : (c : rules.Chunk) (u : Term) (q : Fraction) (holdings : run.Holdings) → Same (as_fraction (value i u)) (difference (amount_of i c) q) → (l : run.Resource) (x : Fraction) → Le (sum (own i c l) x) (run.amount holdings l) →
        Le (sum (own i (record c { amount = u }) l) x) (run.amount (run.lost (resource_of i c) q holdings) l)
    lowered_sum c u q holdings s l x h = go (run.same_resource l (resource_of i c)) h
      where
        go : (b : Bool) → Le (sum (cond b (amount_of i c) none) x) (run.amount holdings l) →
            Le (sum (cond b (as_fraction (value i u)) none) x) (cond b (sum (minus q) (run.amount holdings l)) (run.amount holdings l))
        go true k = le-trans (add-right x s.there) (difference-move (amount_of i c) x (run.amount holdings l) q k)
        go false k = k

    pub lowered : {key : rules.Chunk} {h : rules.Heap} {c : Candidate} {holdings : run.Holdings} (pl : IsPlace key h c) → HeapStands means world n i h heap holdings → (u : Term) (q : Fraction) → Good means n i u RealSort →
        Same (as_fraction (value i u)) (difference (amount_of i c.chunk) q) → Le none q → Le q (amount_of i c.chunk) → HeapStands means world n i (slice_set h c.number (record c.chunk { amount = u })) heap (run.lost (resource_of i c.chunk) q holdings)
    lowered {h = h} {c = c} {holdings = holdings} pl st u q gu s sign enough =
        subst (λ x. HeapStands means world n i x heap (run.lost (resource_of i c.chunk) q holdings)) (sym (pl.set_is (record c.chunk { amount = u })))
        (put_together means world n i heap pl.front (record c.chunk { amount = u }) pl.back record {
          chunk = record {
            field = k.chunk.field;
            instance = k.chunk.instance;
            written = k.chunk.written;
            amount = gu;
            sign = le-trans (difference-none enough) s.back;
            content = k.chunk.content;
            content_is = λ e. k.chunk.content_is (positive-le e (le-trans s.there (difference-below (amount_of i c.chunk) q sign)));
            is_root = k.chunk.is_root;
            is_inner = k.chunk.is_inner;
          };
          others = k.others;
          sums = λ l. lowered_sum c.chunk u q holdings s l (held i (pl.front ++ pl.back) l) (k.sums l);
        })
      where
        k : Apart means world n i heap pl.front c.chunk pl.back holdings
        k = taken_apart means world n i heap pl st

  -- What one chunk gives.
  module _ (n : ℕ) (i : Interpretation) (heap : run.Heap) (f : Name) (r : Term) (k : ℕ) (g : Good means n i r RefSort) (e : value i r ≡ element (RefValue k)) where
    pub record ShareIs (wanted : Fraction) (c : rules.Chunk) (rest : Fraction) (t : Term) : Type 0 where
      pub good : Good means n i t RealSort
      pub sign : Le none (as_fraction (value i t))
      pub enough : Le (as_fraction (value i t)) (amount_of i c)
      pub most : Le (as_fraction (value i t)) wanted
      pub place : (resource_of i c ≡ run.At (at_field k f)) ⊎ Le (as_fraction (value i t)) none
      pub left : Le (difference wanted (as_fraction (value i t))) rest

    pub share_is : (w : Term) (c : rules.Chunk) (rest : Fraction) → OfField means world n i heap f c → Good means n i w RealSort → Le none (as_fraction (value i w)) → Le none rest →
        Le (as_fraction (value i w)) (sum (part means world n i heap f r k g e c) rest) → ShareIs (as_fraction (value i w)) c rest (share r w c)
    share_is w c rest m gw sign rest_sign enough = by_place (as_bool (value i (equals (first_argument c.arguments) r))) refl
      where
        W : Fraction
        W = as_fraction (value i w)

        B : Fraction
        B = amount_of i c

        gt : Good means n i (share r w c) RealSort
        gt = good_ite means (good_equals means (m.stands.field m.kind).receiver g) (good_ite means (good_at_most means m.stands.amount gw) m.stands.amount gw) (good_zero means)

        -- by its value
        gives : (q : Fraction) → as_fraction (value i (share r w c)) ≡ q → Le none q → Le q (amount_of i c) → Le q (as_fraction (value i w)) → ((resource_of i c ≡ run.At (at_field k f)) ⊎ Le q none) → Le (difference (as_fraction (value i w)) q) rest →
            ShareIs (as_fraction (value i w)) c rest (share r w c)
        gives q is a b d place l =
            let back : q ≡ as_fraction (value i (share r w c)) = sym is in
            record {
              good = gt;
              sign = subst (λ x. Le none x) back a;
              enough = subst (λ x. Le x (amount_of i c)) back b;
              most = subst (λ x. Le x (as_fraction (value i w))) back d;
              place = subst (λ x. (resource_of i c ≡ run.At (at_field k f)) ⊎ Le x none) back place;
              left = subst (λ x. Le (difference (as_fraction (value i w)) x) rest) back l;
            }

        outer : value i (share r w c) ≡ cond (as_bool (value i (equals (first_argument c.arguments) r))) (value i (ite (less_equal c.amount w) c.amount w)) (value i zero_amount)
        outer = ite_value i (equals (first_argument c.arguments) r) (ite (less_equal c.amount w) c.amount w) zero_amount

        part_outer : value i (part_at r c) ≡ cond (as_bool (value i (equals (first_argument c.arguments) r))) (value i c.amount) (value i zero_amount)
        part_outer = ite_value i (equals (first_argument c.arguments) r) c.amount zero_amount

        by_amount : as_bool (value i (equals (first_argument c.arguments) r)) ≡ true → (b : Bool) → as_bool (value i (less_equal c.amount w)) ≡ b → ShareIs (as_fraction (value i w)) c rest (share r w c)
        by_amount alike true h =
            let is : as_fraction (value i (share r w c)) ≡ amount_of i c =
            ap as_fraction (outer ∙ ap (λ b. cond b (value i (ite (less_equal c.amount w) c.amount w)) (value i zero_amount)) alike ∙ ite_value i (less_equal c.amount w) c.amount w ∙ ap (λ b. cond b (value i c.amount) (value i w)) h) in
            let part_is : part means world n i heap f r k g e c ≡ amount_of i c = ap as_fraction (part_outer ∙ ap (λ b. cond b (value i c.amount) (value i zero_amount)) alike) in
            gives (amount_of i c) is m.stands.sign (le-refl (amount_of i c)) (true_le means w m.stands.amount h) (inl (at_it means world n i heap f r k g e c m alike))
            (less_by (amount_of i c) (subst (λ x. Le (as_fraction (value i w)) (sum x rest)) part_is enough))
        by_amount alike false h =
            let is : as_fraction (value i (share r w c)) ≡ as_fraction (value i w) =
            ap as_fraction (outer ∙ ap (λ b. cond b (value i (ite (less_equal c.amount w) c.amount w)) (value i zero_amount)) alike ∙ ite_value i (less_equal c.amount w) c.amount w ∙ ap (λ b. cond b (value i c.amount) (value i w)) h) in
            gives (as_fraction (value i w)) is sign (le-total (amount_of i c) (as_fraction (value i w)) (sym (less_equal_is means w m.stands.amount) ∙ h)) (le-refl (as_fraction (value i w))) (inl (at_it means world n i heap f r k g e c m alike))
            (le-trans (sum-minus (as_fraction (value i w))).there rest_sign)

        by_place : (b : Bool) → as_bool (value i (equals (first_argument c.arguments) r)) ≡ b → ShareIs (as_fraction (value i w)) c rest (share r w c)
        by_place true h = by_amount h (as_bool (value i (less_equal c.amount w))) refl
        by_place false h =
            let is : as_fraction (value i (share r w c)) ≡ none = ap as_fraction (outer ∙ ap (λ b. cond b (value i (ite (less_equal c.amount w) c.amount w)) (value i zero_amount)) h) in
            let part_is : part means world n i heap f r k g e c ≡ none = ap as_fraction (part_outer ∙ ap (λ b. cond b (value i c.amount) (value i zero_amount)) h) in
            gives none is (le-refl none) m.stands.sign sign (inr (le-refl none))
            (le-trans (difference-below (as_fraction (value i w)) none (le-refl none)) (le-trans (subst (λ x. Le (as_fraction (value i w)) (sum x rest)) part_is enough) (none-sum rest).there))

-- what is taken in two steps, of which the first is at the place or takes nothing
pub no_less : (x : Fraction) → Same (difference x none) x
no_less x = same-trans (difference_same (same-sym (none-sum x)) (same-refl none)) (sum_less none x)

lost_chain : (l res x : run.Resource) (w m q : Fraction) (hs : run.Holdings) → Same m (difference w q) → Le none q → (res ≡ l) ⊎ Le q none → Le (run.amount (run.lost l m (run.lost res q hs)) x) (run.amount (run.lost l w hs) x)
lost_chain l res x w m q hs s sign (inl at) = subst (λ (y : run.Resource). Le (run.amount (run.lost l m (run.lost y q hs)) x) (run.amount (run.lost l w hs) x)) (sym at) (go (run.same_resource x l))
  where
    go : (b : Bool) → Le (cond b (sum (minus m) (cond b (sum (minus q) (run.amount hs x)) (run.amount hs x))) (cond b (sum (minus q) (run.amount hs x)) (run.amount hs x))) (cond b (sum (minus w) (run.amount hs x)) (run.amount hs x))
    go true = lost_twice w q m (run.amount hs x) s
    go false = le-refl _
lost_chain l res x w m q hs s sign (inr z) = go (run.same_resource x l) (inner (run.same_resource x res))
  where
    same_q : Same q none
    same_q = record { there = z; back = sign }

    same_w : Same m w
    same_w = same-trans s (same-trans (difference_same (same-refl w) same_q) (no_less w))

    inner : (b : Bool) → Le (cond b (sum (minus q) (run.amount hs x)) (run.amount hs x)) (run.amount hs x)
    inner true = add-below (run.amount hs x) (minus_none sign)
    inner false = le-refl _

    go : (b : Bool) → Le (run.amount (run.lost res q hs) x) (run.amount hs x) → Le (cond b (sum (minus m) (run.amount (run.lost res q hs) x)) (run.amount (run.lost res q hs) x)) (cond b (sum (minus w) (run.amount hs x)) (run.amount hs x))
    go true h = add-mono (minus_same same_w).there h
    go false h = h

module _ (means : Meaning) (world : World) where
  -- Later symbols change nothing of what the parts are worth.
  pub parts_kept : {n m : ℕ} {i j : Interpretation} (heap : run.Heap) (f : Name) {r : Term} {k : ℕ} (g : Good means n i r RefSort) (e : value i r ≡ element (RefValue k)) (g' : Good means m j r RefSort) (e' : value j r ≡ element (RefValue k)) → Extends means n i j →
      (cs : List Candidate) → Each (λ (c : Candidate). OfField means world n i heap f c.chunk) cs → parts means world m j heap f r k g' e' cs ≡ parts means world n i heap f r k g e cs
  parts_kept heap f g e g' e' x [] h = refl
  parts_kept {n = n} {i = i} heap f {r = r} {k = k} g e g' e' x (c ∷ cs) h =
      ap₂ (λ (a b : Fraction). sum a b) (ap as_fraction (value_kept means (part_at r c.chunk) (part_good means world n i heap f r k g e c.chunk h.0).settled x)) (parts_kept heap f g e g' e' x cs h.1)

  pub of_later : {n m : ℕ} {i j : Interpretation} (heap : run.Heap) (f : Name) → n ≤ m → Extends means n i j → (cs : List Candidate) → Each (λ (c : Candidate). OfField means world n i heap f c.chunk) cs → Each (λ (c : Candidate). OfField means world m j heap f c.chunk) cs
  of_later {n = n} {m = m} {i = i} {j = j} heap f le x cs h = each_map (λ (c : Candidate). OfField means world n i heap f c.chunk) (λ (c : Candidate). OfField means world m j heap f c.chunk)
      (λ c o. record { stands = chunk_later means world le x heap c.chunk o.stands; kind = o.kind; resource = o.resource }) cs h

  -- the state once an amount was taken from these, the holdings being less by it
  pub record Shared (scope : Scope) (i : Interpretation) (n : ℕ) (c : run.State) (l : run.Resource) (q : Fraction) (after : rules.State) : Type 0 where
    pub interp : Interpretation
    pub holdings : run.Holdings
    pub extends : Extends means n i interp
    pub later : n ≤ after.next
    pub stands : Stands means world scope interp after (run.with_holdings holdings c)
    pub below : (x : run.Resource) → Le (run.amount holdings x) (run.amount (run.lost l q c.holdings) x)

  pub shared : (f : Name) (r : Term) (k : ℕ) (cs : List Candidate) {scope : Scope} {i : Interpretation} {s : rules.State} {c : run.State} → Stands means world scope i s c → Each (StandsAt s.heap) cs → Differ cs →
      Each (λ (d : Candidate). OfField means world s.next i c.heap f d.chunk) cs → (g : Good means s.next i r RefSort) (e : value i r ≡ element (RefValue k)) → (w : Term) → Good means s.next i w RealSort → Le none (as_fraction (value i w)) →
      Le (as_fraction (value i w)) (parts means world s.next i c.heap f r k g e cs) → Shared scope i s.next c (run.At (at_field k f)) (as_fraction (value i w)) (shared_out r w cs s)
  shared f r k [] {i = i} {s = s} {c = c} st at differ of g e w gw sign enough = record {
    interp = i;
    holdings = c.holdings;
    extends = extends-refl means s.next i;
    later = le_refl _;
    stands = st;
    below = λ x. go x (run.same_resource x (run.At (at_field k f)));
  }
    where
      go : (x : run.Resource) (b : Bool) → Le (run.amount c.holdings x) (cond b (sum (minus (as_fraction (value i w))) (run.amount c.holdings x)) (run.amount c.holdings x))
      go x true = below-add (run.amount c.holdings x) (none_minus enough)
      go x false = le-refl _
  shared f r k (d ∷ ds) {scope = scope} {i = i} {s = s} {c = c} st at differ of g e w gw sign enough =
      let m = share_is means world s.next i c.heap f r k g e w d.chunk (parts means world s.next i c.heap f r k g e ds) of.0 gw sign (parts_sign means world s.next i c.heap f r k g e ds of.1) enough in
      let t = share r w d.chunk in
      let q = as_fraction (value i t) in
      let n1 = named means world t RealSort st m.good in
      let u = rules.name_of t s in
      let s1 = rules.after_name t s in
      let o1 = chunk_later means world n1.later n1.extends c.heap d.chunk of.0.stands in
      let gb = good_difference means o1.amount n1.good in
      let b = subtract d.chunk.amount u in
      let n2 = named means world b RealSort n1.stands gb in
      let v = rules.name_of b s1 in
      let s2 = rules.after_name b s1 in
      let x2 = extends-trans means n1.later n1.extends n2.extends in
      let le2 = le_trans n1.later n2.later in
      let o2 = chunk_later means world n2.later n2.extends c.heap d.chunk o1 in
      -- the amounts, under the last interpretation
      let amounts : Same (as_fraction (value n2.interp v)) (difference (amount_of n2.interp d.chunk) q) =
      same-trans (same_is (ap as_fraction n2.value_is)) (same-trans (subtract_is means o1.amount n1.good)
      (difference_same (same_is (sym (ap as_fraction (value_kept means d.chunk.amount o1.amount.settled n2.extends)))) (same_is (ap as_fraction n1.value_is)))) in
      let enough2 : Le q (amount_of n2.interp d.chunk) = le-trans m.enough (le-is (sym (ap as_fraction (value_kept means d.chunk.amount of.0.stands.amount.settled x2)))) in
      let h1 : s1.heap ≡ s.heap = heap_after_name t s in
      let h2 : s2.heap ≡ s1.heap = heap_after_name b s1 in
      let pl = slot (field_key f r) s2.heap d (subst (λ (h : rules.Heap). StandsAt h d) (sym (h2 ∙ h1)) at.0) of.0.resource of.0.kind in
      let res = resource_of n2.interp d.chunk in
      let less = lowered means world s2.next n2.interp c.heap pl n2.stands.heap v q n2.good amounts m.sign enough2 in
      let held_it : Le q (run.amount c.holdings res) = le-trans enough2 (chunk_held means world s2.next n2.interp c.heap pl n2.stands.heap) in
      let new = record d.chunk { amount = v } in
      let st3 : Stands means world scope n2.interp (rules.with_heap (slice_set s1.heap d.number (record d.chunk { amount = rules.name_of b s1 })) s2) (run.with_holdings (run.lost res q c.holdings) c) =
      subst (λ (h : rules.Heap). Stands means world scope n2.interp (rules.with_heap (slice_set h d.number (record d.chunk { amount = rules.name_of b s1 })) s2) (run.with_holdings (run.lost res q c.holdings) c)) h2
      (stands_with_holdings means world (slice_set s2.heap d.number (record d.chunk { amount = rules.name_of b s1 })) (run.lost res q c.holdings) n2.stands less (world.taken c.heap c.holdings res q (chunk_typed means world o2) m.sign held_it n2.stands.holds)) in
      let g2 = good_later means le2 x2 g in
      let e2 = value_kept means r g.settled x2 ∙ e in
      let gu2 = good_later means n2.later n2.extends n1.good in
      let gw2 = good_later means le2 x2 gw in
      let w2 = subtract w u in
      let rest_is : Same (as_fraction (value n2.interp (subtract w u))) (difference (as_fraction (value i w)) q) =
      same-trans (subtract_is means gw2 gu2) (difference_same (same_is (ap as_fraction (value_kept means w gw.settled x2))) (same_is (ap as_fraction (value_kept means u n1.good.settled n2.extends ∙ n1.value_is)))) in
      let sign2 = le-trans (difference-none m.most) rest_is.back in
      let of2 = of_later c.heap f le2 x2 ds of.1 in
      let enough3 = le-trans rest_is.there (le-trans m.left (le-is (sym (parts_kept c.heap f g e g2 e2 x2 ds of.1)))) in
      let at2 = others_stand s1.heap d.number new ds differ.0 (subst (λ (h : rules.Heap). Each (StandsAt h) ds) (sym h1) at.1) in
      let z = shared f r k ds {scope = scope} {i = n2.interp} {s = with_amount d b s1} {c = run.with_holdings (run.lost res q c.holdings) c} st3 at2 differ.1 of2 g2 e2 w2 (good_difference means gw2 gu2) sign2 enough3 in
      let place : (res ≡ run.At (at_field k f)) ⊎ Le q none = elim m.place as (λ y. (resource_of n2.interp d.chunk ≡ run.At (at_field k f)) ⊎ Le (as_fraction (value i (share r w d.chunk))) none) [
        | inl y ↦ inl (resource_kept means world le2 x2 d.chunk c.heap of.0.stands ∙ y)
        | inr y ↦ inr y
      ] in
      record {
        interp = z.interp;
        holdings = z.holdings;
        extends = extends-trans means le2 x2 z.extends;
        later = le_trans le2 z.later;
        stands = z.stands;
        below = λ x. le-trans (z.below x) (lost_chain (run.At (at_field k f)) res x (as_fraction (value i w)) (as_fraction (value n2.interp (subtract w u))) q c.holdings rest_is m.sign place);
      }
