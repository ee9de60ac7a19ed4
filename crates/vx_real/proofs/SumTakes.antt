-- Taking from all chunks of a location, the other way: what they have is less by no more than what was wanted.
use Rattle.std.proofs.Common.{◌≡◌, ◌⊎◌, inl, inr, ℕ, suc, ◌≤◌, Bool, true, false, cond, List, [], ◌∷◌, ◌++◌, slice_set, refl, sym, ◌∙◌, ap, subst, le_trans, le_refl, le_of_lt, lt-suc_self}
use Rattle.vx_frac.specs.Fractions.{Fraction, none, sum, minus, difference}
use Rattle.vx_ast.specs.Syntax.{Name}
use Rattle.vx_meaning.specs.Values.{RefValue}
use Rattle.vx_meaning.specs.States as run
use Rattle.vx_terms.specs.Sorts.{Sort, RealSort, RefSort, Variable}
use Rattle.vx_terms.specs.Terms.{Term, sort_of}
use Rattle.vx_terms.specs.Build.{equals, subtract, variable}
use Rattle.vx_terms.specs.Formed.{constant}
use Rattle.vx_terms.specs.Interpretations.{Each, Interpretation, as_fraction, value, AllTrue}
use Rattle.vx_terms.proofs.Values.{sort_of_formed}
use Rattle.vx_rules.specs.States as rules
use Rattle.vx_rules.specs.Chunks.{Candidate, field_key, share, shared_out, with_amount}
use Rattle.vx_elements.proofs.Settled.{Meaning, extends-refl}
use Rattle.vx_elements.proofs.Built.{Good, good_later}
use Rattle.vx_elements.proofs.Elements.{element}
use Rattle.vx_elements.proofs.Truth.{equal_is, good_difference, subtract_is}
use Rattle.vx_elements.proofs.Places.{IsPlace}
use Rattle.vx_amounts.proofs.Amounts.{Le, Same, le-refl, le-trans, le-is, same-refl, same-trans, difference_same, difference-none, add-right, add-left, add-below, add-swap, below-add, none-sum, sum_comm, sum_assoc, sum-minus}
use Rattle.vx_sound.proofs.World.{at_field, World}
use Rattle.vx_sound.proofs.Stands.{resource_of, amount_of, own, held}
use Rattle.vx_sound.proofs.Summed.{IsOf as OfField, parts, parts_sign}
use Rattle.vx_sound.proofs.Slots.{StandsAt, Differ, slot, others_stand}
use Rattle.vx_sound.proofs.SumTakes.{share_is, of_later, parts_kept, heap_after_name, no_less}
use Rattle.vx_real.proofs.SumReads.{fact_true}

same_is : {a b : Fraction} → a ≡ b → Same a b
same_is {a = a} e = subst (λ x. Same a x) e (same-refl a)

module _ (means : Meaning) (i : Interpretation) where
  -- a name that was given, where the path behind it is true
  pub record NamedReal (a : Sort) (t : Term) (s : rules.State) : Type 0 where
    pub value_is : value i (rules.name_of t s) ≡ value i t
    pub good : Good means (rules.after_name t s).next i (rules.name_of t s) a
    pub later : s.next ≤ (rules.after_name t s).next
    pub path : AllTrue i (rules.path_terms s.path)

  next_after : (t : Term) (s : rules.State) → (rules.with_fact t s).next ≡ s.next
  next_after t s = go (rules.is_known t s)
    where
      go : (b : Bool) → (cond b s (rules.with_entry record { term = t; branch = false } s)).next ≡ s.next
      go true = refl
      go false = refl

  pub named_real : (a : Sort) (t : Term) (s : rules.State) → Good means s.next i t a → AllTrue i (rules.path_terms (rules.after_name t s).path) → NamedReal a t s
  named_real a t s g h = go (rules.is_named t s) refl h
    where
      fact : Term
      fact = equals (variable s.next (sort_of t)) t

      Told : Bool → Type 0
      Told b = AllTrue i (rules.path_terms (cond b s (rules.with_fact (equals (variable s.next (sort_of t)) t) (rules.after_fresh s))).path)

      fresh_good : Good means (suc s.next) i (variable s.next (sort_of t)) a
      fresh_good = subst (λ b. Good means (suc s.next) i (variable s.next (sort_of t)) b) (sort_of_formed g.formed) record { formed = constant (Variable s.next) (sort_of t) (lt-suc_self s.next); settled = lt-suc_self s.next }

      go : (b : Bool) → rules.is_named t s ≡ b → AllTrue i (rules.path_terms (cond b s (rules.with_fact (equals (variable s.next (sort_of t)) t) (rules.after_fresh s))).path) → NamedReal a t s
      go true e h = record {
        value_is = ap (λ b. value i (cond b t (variable s.next (sort_of t)))) e;
        good = subst (λ b. Good means (cond b s (rules.with_fact (equals (variable s.next (sort_of t)) t) (rules.after_fresh s))).next i (cond b t (variable s.next (sort_of t))) a) (sym e) g;
        later = subst (λ b. s.next ≤ (cond b s (rules.with_fact (equals (variable s.next (sort_of t)) t) (rules.after_fresh s))).next) (sym e) (le_refl s.next);
        path = h;
      }
      go false e h =
          let q = fact_true i fact (rules.after_fresh s) h in
          let n = next_after fact (rules.after_fresh s) in
          record {
            value_is = ap (λ b. value i (cond b t (variable s.next (sort_of t)))) e ∙ equal_is i (variable s.next (sort_of t)) t q.0;
            good = subst (λ b. Good means (cond b s (rules.with_fact (equals (variable s.next (sort_of t)) t) (rules.after_fresh s))).next i (cond b t (variable s.next (sort_of t))) a) (sym e)
                (subst (λ m. Good means m i (variable s.next (sort_of t)) a) (sym n) fresh_good);
            later = subst (λ b. s.next ≤ (cond b s (rules.with_fact (equals (variable s.next (sort_of t)) t) (rules.after_fresh s))).next) (sym e) (subst (λ m. s.next ≤ m) (sym n) (le_of_lt (lt-suc_self s.next)));
            path = q.1;
          }

  -- What a heap has where one chunk's amount is another.
  pub held_out : (front : rules.Heap) (c : rules.Chunk) (back : rules.Heap) (l : run.Resource) → Le (held i (front ++ (c ∷ back)) l) (sum (own i c l) (held i (front ++ back) l))
  held_out [] c back l = le-refl _
  held_out (d ∷ front) c back l = le-trans (add-left (own i d l) (held_out front c back l)) (add-swap (own i d l) (own i c l) (held i (front ++ back) l))

  pub held_in : (front : rules.Heap) (c : rules.Chunk) (back : rules.Heap) (l : run.Resource) → Le (sum (own i c l) (held i (front ++ back) l)) (held i (front ++ (c ∷ back)) l)
  held_in [] c back l = le-refl _
  held_in (d ∷ front) c back l = le-trans (add-swap (own i c l) (own i d l) (held i (front ++ back) l)) (add-left (own i d l) (held_in front c back l))

  pub less_one : {key : rules.Chunk} {h : rules.Heap} {c : Candidate} (pl : IsPlace key h c) (u : Term) (q : Fraction) → Same (as_fraction (value i u)) (difference (amount_of i c.chunk) q) → (x : run.Resource) →
      Le (held i h x) (sum (cond (run.same_resource x (resource_of i c.chunk)) q none) (held i (slice_set h c.number (record c.chunk { amount = u })) x))
  less_one {h = h} {c = c} pl u q s x =
      le-trans (le-is (ap (λ (y : rules.Heap). held i y x) pl.is))
      (le-trans (held_out pl.front c.chunk pl.back x)
      (le-trans (add-right (held i (pl.front ++ pl.back) x) (mine (run.same_resource x (resource_of i c.chunk))))
      (le-trans (sum_assoc (cond (run.same_resource x (resource_of i c.chunk)) q none) (own i (record c.chunk { amount = u }) x) (held i (pl.front ++ pl.back) x)).there
      (add-left (cond (run.same_resource x (resource_of i c.chunk)) q none) (le-trans (held_in pl.front (record c.chunk { amount = u }) pl.back x) (le-is (sym (ap (λ (y : rules.Heap). held i y x) (pl.set_is (record c.chunk { amount = u }))))))))))
    where
      back : Same (sum q (difference (amount_of i c.chunk) q)) (amount_of i c.chunk)
      back = same-trans (sum_comm q (difference (amount_of i c.chunk) q)) (same-trans (sum_assoc (amount_of i c.chunk) (minus q) q)
          (same-trans (sum_left (amount_of i c.chunk) (same-trans (sum_comm (minus q) q) (sum-minus q))) (same-trans (sum_comm (amount_of i c.chunk) none) (none-sum (amount_of i c.chunk)))))
        where
          sum_left : (a : Fraction) {b c : Fraction} → Same b c → Same (sum a b) (sum a c)
          sum_left a t = record { there = add-left a t.there; back = add-left a t.back }

      mine : (b : Bool) → Le (cond b (amount_of i c.chunk) none) (sum (cond b q none) (cond b (as_fraction (value i u)) none))
      mine true = le-trans back.back (add-left q s.back)
      mine false = (none-sum none).back

  -- two steps
  gone_twice : (l res x : run.Resource) (w m q h : Fraction) → Same m (difference w q) → Le none q → (res ≡ l) ⊎ Le q none →
      Le (sum (cond (run.same_resource x res) q none) (sum (cond (run.same_resource x l) m none) h)) (sum (cond (run.same_resource x l) w none) h)
  gone_twice l res x w m q h s sign (inl at) = subst (λ (y : run.Resource). Le (sum (cond (run.same_resource x y) q none) (sum (cond (run.same_resource x l) m none) h)) (sum (cond (run.same_resource x l) w none) h)) (sym at) (go (run.same_resource x l))
    where
      joined : Le (sum q m) w
      joined =
          le-trans (add-left q s.there)
          (le-trans (sum_comm q (difference w q)).there (le-trans (sum_assoc w (minus q) q).there (le-trans (add-left w (le-trans (sum_comm (minus q) q).there (sum-minus q).there)) (le-trans (sum_comm w none).there (none-sum w).there))))

      go : (b : Bool) → Le (sum (cond b q none) (sum (cond b m none) h)) (sum (cond b w none) h)
      go true = le-trans (sum_assoc q m h).back (add-right h joined)
      go false = (none-sum (sum none h)).there
  gone_twice l res x w m q h s sign (inr z) = le-trans (add-below (sum (cond (run.same_resource x l) m none) h) (small (run.same_resource x res))) (add-right h (go (run.same_resource x l)))
    where
      same_w : Same m w
      same_w = same-trans s (same-trans (difference_same (same-refl w) record { there = z; back = sign }) (no_less w))

      small : (b : Bool) → Le (cond b q none) none
      small true = z
      small false = le-refl none

      go : (b : Bool) → Le (cond b m none) (cond b w none)
      go true = same_w.there
      go false = le-refl none

-- paths only grow
pub name_path : (i : Interpretation) (t : Term) (s : rules.State) → AllTrue i (rules.path_terms (rules.after_name t s).path) → AllTrue i (rules.path_terms s.path)
name_path i t s h = go (rules.is_named t s) h
  where
    go : (b : Bool) → AllTrue i (rules.path_terms (cond b s (rules.with_fact (equals (variable s.next (sort_of t)) t) (rules.after_fresh s))).path) → AllTrue i (rules.path_terms s.path)
    go true h = h
    go false h = (fact_true i (equals (variable s.next (sort_of t)) t) (rules.after_fresh s) h).1

pub shared_path : (i : Interpretation) (r w : Term) (cs : List Candidate) (s : rules.State) → AllTrue i (rules.path_terms (shared_out r w cs s).path) → AllTrue i (rules.path_terms s.path)
shared_path i r w [] s h = h
shared_path i r w (d ∷ ds) s h =
    let t = share r w d.chunk in
    let u = rules.name_of t s in
    let b = subtract d.chunk.amount u in
    name_path i t s (name_path i b (rules.after_name t s) (shared_path i r (subtract w u) ds (with_amount d b (rules.after_name t s)) h))

module _ (means : Meaning) (world : World) (i : Interpretation) (heap : run.Heap) (f : Name) (r : Term) (k : ℕ) where
  pub shared_real : (cs : List Candidate) (s : rules.State) → Each (StandsAt s.heap) cs → Differ cs → Each (λ (d : Candidate). OfField means world s.next i heap f d.chunk) cs →
      (g : Good means s.next i r RefSort) (e : value i r ≡ element (RefValue k)) (w : Term) → Good means s.next i w RealSort → Le none (as_fraction (value i w)) → Le (as_fraction (value i w)) (parts means world s.next i heap f r k g e cs) →
      AllTrue i (rules.path_terms (shared_out r w cs s).path) →
      AllTrue i (rules.path_terms s.path) × ((x : run.Resource) → Le (held i s.heap x) (sum (cond (run.same_resource x (run.At (at_field k f))) (as_fraction (value i w)) none) (held i (shared_out r w cs s).heap x)))
  shared_real [] s at differ of g e w gw sign enough h = (h, λ x. below-add (held i s.heap x) (go (run.same_resource x (run.At (at_field k f)))))
    where
      go : (b : Bool) → Le none (cond b (as_fraction (value i w)) none)
      go true = sign
      go false = le-refl none
  shared_real (d ∷ ds) s at differ of g e w gw sign enough h =
      let m = share_is means world s.next i heap f r k g e w d.chunk (parts means world s.next i heap f r k g e ds) of.0 gw sign (parts_sign means world s.next i heap f r k g e ds of.1) enough in
      let t = share r w d.chunk in
      let q = as_fraction (value i t) in
      let u = rules.name_of t s in
      let s1 = rules.after_name t s in
      let b = subtract d.chunk.amount u in
      let v = rules.name_of b s1 in
      let s2 = rules.after_name b s1 in
      let new = record d.chunk { amount = v } in
      let path3 = shared_path i r (subtract w u) ds (with_amount d b s1) h in
      let path1 = name_path i b s1 path3 in
      let n1 = named_real means i RealSort t s m.good path1 in
      let ext1 = extends-refl means s.next i in
      let ext2 = extends-refl means s1.next i in
      let a1 = good_later means n1.later ext1 of.0.stands.amount in
      let gb = good_difference means a1 n1.good in
      let n2 = named_real means i RealSort b s1 gb path3 in
      let le2 = le_trans n1.later n2.later in
      let amounts : Same (as_fraction (value i (rules.name_of b s1))) (difference (amount_of i d.chunk) q) =
      same-trans (same_is (ap as_fraction n2.value_is)) (same-trans (subtract_is means a1 n1.good) (difference_same (same-refl (amount_of i d.chunk)) (same_is (ap as_fraction n1.value_is)))) in
      let h1 : s1.heap ≡ s.heap = heap_after_name t s in
      let pl = slot (field_key f r) s1.heap d (subst (λ (y : rules.Heap). StandsAt y d) (sym h1) at.0) of.0.resource of.0.kind in
      let g2 = good_later means le2 ext1 g in
      let gw2 = good_later means le2 ext1 gw in
      let gu2 = good_later means n2.later ext2 n1.good in
      let rest_is : Same (as_fraction (value i (subtract w u))) (difference (as_fraction (value i w)) q) =
      same-trans (subtract_is means gw2 gu2) (difference_same (same-refl (as_fraction (value i w))) (same_is (ap as_fraction n1.value_is))) in
      let sign2 = le-trans (difference-none m.most) rest_is.back in
      let of2 = of_later means world heap f le2 ext1 ds of.1 in
      let enough3 = le-trans rest_is.there (le-trans m.left (le-is (sym (parts_kept means world heap f g e g2 e ext1 ds of.1)))) in
      let at2 = others_stand s1.heap d.number new ds differ.0 (subst (λ (y : rules.Heap). Each (StandsAt y) ds) (sym h1) at.1) in
      let z = shared_real ds (with_amount d b s1) at2 differ.1 of2 g2 e (subtract w u) (good_difference means gw2 gu2) sign2 enough3 h in
      let place : (resource_of i d.chunk ≡ run.At (at_field k f)) ⊎ Le (as_fraction (value i (share r w d.chunk))) none = m.place in (
        n1.path,
        λ x.
            le-trans (le-is (ap (λ (y : rules.Heap). held i y x) (sym h1)))
            (le-trans (less_one means i pl (rules.name_of b s1) q amounts x)
            (le-trans (add-left (cond (run.same_resource x (resource_of i d.chunk)) q none) (z.1 x))
            (gone_twice means i (run.At (at_field k f)) (resource_of i d.chunk) x (as_fraction (value i w)) (as_fraction (value i (subtract w u))) q (held i (shared_out r (subtract w u) ds (with_amount d b s1)).heap x) rest_is m.sign place))),
      )
