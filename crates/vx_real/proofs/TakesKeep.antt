-- The state once an amount was taken still stands, at the interpretation there is.
use Rattle.std.proofs.Common.{◌≡◌, ℕ, suc, ◌≤◌, Bool, true, false, cond, List, [], ◌∷◌, slice_set, sym, ◌∙◌, ap, subst, le_trans, le_refl, le_of_lt, lt-suc_self}
use Rattle.vx_frac.specs.Fractions.{Fraction, none, sum, minus, difference}
use Rattle.vx_ast.specs.Syntax.{Name, Program}
use Rattle.vx_meaning.specs.Values.{RefValue}
use Rattle.vx_meaning.specs.States as run
use Rattle.vx_terms.specs.Sorts.{Sort, BoolSort, RealSort, RefSort, Variable}
use Rattle.vx_terms.specs.Terms.{Term, sort_of, same}
use Rattle.vx_terms.specs.Build.{equals, subtract, variable, zero_amount}
use Rattle.vx_terms.specs.Formed.{constant}
use Rattle.vx_terms.specs.Interpretations.{Each, Interpretation, as_fraction, value, IsTrueIn, AllTrue}
use Rattle.vx_terms.proofs.Values.{sort_of_formed}
use Rattle.vx_rules.specs.States as rules
use Rattle.vx_rules.specs.Chunks.{Candidate, field_key, share, shared_out, with_amount, without_empty, value_facts}
use Rattle.vx_rules.specs.Rules.{field_sort}
use Rattle.vx_types.specs.Typing.{Scope}
use Rattle.vx_elements.proofs.Settled.{Meaning, extends-refl}
use Rattle.vx_elements.proofs.Built.{Good, good_later, good_equals, good_implies}
use Rattle.vx_elements.proofs.Elements.{element}
use Rattle.vx_elements.proofs.Truth.{good_difference, subtract_is}
use Rattle.vx_amounts.proofs.Amounts.{Le, Same, le-refl, le-trans, le-is, same-refl, same-trans, difference_same, difference-none, add-left, below-add, none_minus}
use Rattle.vx_sound.proofs.World.{at_field, World}
use Rattle.vx_sound.proofs.Stands.{resource_of, amount_of, own, held, content_sort, ChunkStands, HeapStands, Stands, stands_later, stands_fact, chunk_typed, chunk_later}
use Rattle.vx_sound.proofs.Chunks.{chunk_held, own_sign}
use Rattle.vx_sound.proofs.Puts.{stands_with_holdings}
use Rattle.vx_sound.proofs.Candidates.{Keys, of_field, good_some}
use Rattle.vx_sound.proofs.Summed.{IsOf as OfField, parts, parts_sign}
use Rattle.vx_sound.proofs.Slots.{StandsAt, Differ, slot, others_stand}
use Rattle.vx_sound.proofs.SumTakes.{lowered, share_is, of_later, parts_kept, heap_after_name}
use Rattle.vx_real.proofs.SumReads.{fact_true}
use Rattle.vx_real.proofs.SumTakes.{named_real, name_path, shared_path}
use Rattle.vx_real.proofs.LostHoldings.{lost_chain}

same_is : {a b : Fraction} → a ≡ b → Same a b
same_is {a = a} e = subst (λ x. Same a x) e (same-refl a)

module _ (means : Meaning) (world : World) where
  abbrev p : Program
  p = world.program

  -- a value was named
  pub stands_named : {scope : Scope} {i : Interpretation} {s : rules.State} {c : run.State} (a : Sort) (t : Term) → Stands means world scope i s c → Good means s.next i t a → AllTrue i (rules.path_terms (rules.after_name t s).path) →
      Stands means world scope i (rules.after_name t s) c
  stands_named {scope = scope} {i = i} {s = s} {c = c} a t st g h = go (rules.is_named t s) h
    where
      le : s.next ≤ suc s.next
      le = le_of_lt (lt-suc_self s.next)

      fact : Term
      fact = equals (variable s.next (sort_of t)) t

      good_fact : Good means (suc s.next) i (equals (variable s.next (sort_of t)) t) BoolSort
      good_fact = good_equals means
          (subst (λ b. Good means (suc s.next) i (variable s.next (sort_of t)) b) (sort_of_formed g.formed) record { formed = constant (Variable s.next) (sort_of t) (lt-suc_self s.next); settled = lt-suc_self s.next })
          (good_later means le (extends-refl means s.next i) g)

      go : (b : Bool) → AllTrue i (rules.path_terms (cond b s (rules.with_fact (equals (variable s.next (sort_of t)) t) (rules.after_fresh s))).path) → Stands means world scope i (cond b s (rules.with_fact (equals (variable s.next (sort_of t)) t) (rules.after_fresh s))) c
      go true h = st
      go false h = stands_fact means world fact (stands_later means world (suc s.next) le (extends-refl means s.next i) st) good_fact (fact_true i fact (rules.after_fresh s) h).0

  -- without the chunks that have none
  pub full_stands : (n : ℕ) (i : Interpretation) (heap : run.Heap) (h : rules.Heap) (hs more : run.Holdings) → HeapStands means world n i h heap hs → ((x : run.Resource) → Le (run.amount hs x) (run.amount more x)) → HeapStands means world n i (without_empty h) heap more
  full_stands n i heap h hs more st le = record { each = each h st.each; sums = λ x. le-trans (less h st.each x) (le-trans (st.sums x) (le x)) }
    where
      each : (h : rules.Heap) → Each (ChunkStands means world n i heap) h → Each (ChunkStands means world n i heap) (without_empty h)
      each [] st = tt
      each (c ∷ cs) st = go (same c.amount zero_amount) (each cs st.1)
        where
          go : (b : Bool) → Each (ChunkStands means world n i heap) (without_empty cs) → Each (ChunkStands means world n i heap) (cond b (without_empty cs) (c ∷ without_empty cs))
          go true rest = rest
          go false rest = (st.0, rest)

      less : (h : rules.Heap) → Each (ChunkStands means world n i heap) h → (x : run.Resource) → Le (held i (without_empty h) x) (held i h x)
      less [] st x = le-refl none
      less (c ∷ cs) st x = go (same c.amount zero_amount) (less cs st.1 x)
        where
          go : (b : Bool) → Le (held i (without_empty cs) x) (held i cs x) → Le (held i (cond b (without_empty cs) (c ∷ without_empty cs)) x) (held i (c ∷ cs) x)
          go true rest = le-trans rest (below-add (held i cs x) (own_sign i c x st.0.sign))
          go false rest = add-left (own i c x) rest

  -- what a value's facts say can be asked
  pub facts_good : (n : ℕ) (i : Interpretation) (heap : run.Heap) (f : Name) (r : Term) (k : ℕ) → Good means n i r RefSort → value i r ≡ element (RefValue k) → (u : Term) → Good means n i u (field_sort p f) → (cs : List Candidate) →
      Each (λ (d : Candidate). OfField means world n i heap f d.chunk) cs → AllTrue i (value_facts r u cs) → Each (λ t. Good means n i t BoolSort × IsTrueIn i t) (value_facts r u cs)
  facts_good n i heap f r k g e u gu [] of h = tt
  facts_good n i heap f r k g e u gu (d ∷ ds) of h =
      let keys : Keys means world n i (field_key f r) (run.At (at_field k f)) (field_sort p f) = of_field f r k g e in
      let gv : Good means n i d.chunk.value (field_sort p f) = subst (λ x. Good means n i d.chunk.value (field_sort p x)) of.0.resource (subst (λ b. Good means n i d.chunk.value (content_sort p b d.chunk.resource)) of.0.kind of.0.stands.content) in
      ((good_implies means (good_some means world keys d.chunk of.0.kind of.0.resource of.0.stands) (good_equals means gu gv), h.0), facts_good n i heap f r k g e u gu ds of.1 h.1)

  -- the state once an amount was taken from these, the holdings being less by it
  pub record SharedReal (scope : Scope) (i : Interpretation) (n : ℕ) (c : run.State) (l : run.Resource) (q : Fraction) (after : rules.State) : Type 0 where
    pub holdings : run.Holdings
    pub later : n ≤ after.next
    pub stands : Stands means world scope i after (run.with_holdings holdings c)
    pub below : (x : run.Resource) → Le (run.amount holdings x) (run.amount (run.lost l q c.holdings) x)

  pub shared_stands : (f : Name) (r : Term) (k : ℕ) (cs : List Candidate) {scope : Scope} {i : Interpretation} {s : rules.State} {c : run.State} → Stands means world scope i s c → Each (StandsAt s.heap) cs → Differ cs →
      Each (λ (d : Candidate). OfField means world s.next i c.heap f d.chunk) cs → (g : Good means s.next i r RefSort) (e : value i r ≡ element (RefValue k)) → (w : Term) → Good means s.next i w RealSort → Le none (as_fraction (value i w)) →
      Le (as_fraction (value i w)) (parts means world s.next i c.heap f r k g e cs) → AllTrue i (rules.path_terms (shared_out r w cs s).path) → SharedReal scope i s.next c (run.At (at_field k f)) (as_fraction (value i w)) (shared_out r w cs s)
  shared_stands f r k [] {i = i} {s = s} {c = c} st at differ of g e w gw sign enough path = record { holdings = c.holdings; later = le_refl _; stands = st; below = λ x. go x (run.same_resource x (run.At (at_field k f))) }
    where
      go : (x : run.Resource) (b : Bool) → Le (run.amount c.holdings x) (cond b (sum (minus (as_fraction (value i w))) (run.amount c.holdings x)) (run.amount c.holdings x))
      go x true = below-add (run.amount c.holdings x) (none_minus enough)
      go x false = le-refl _
  shared_stands f r k (d ∷ ds) {scope = scope} {i = i} {s = s} {c = c} st at differ of g e w gw sign enough path =
      let m = share_is means world s.next i c.heap f r k g e w d.chunk (parts means world s.next i c.heap f r k g e ds) of.0 gw sign (parts_sign means world s.next i c.heap f r k g e ds of.1) enough in
      let t = share r w d.chunk in
      let q = as_fraction (value i t) in
      let u = rules.name_of t s in
      let s1 = rules.after_name t s in
      let b = subtract d.chunk.amount u in
      let v = rules.name_of b s1 in
      let s2 = rules.after_name b s1 in
      let new = record d.chunk { amount = v } in
      let path3 = shared_path i r (subtract w u) ds (with_amount d b s1) path in
      let path1 = name_path i b s1 path3 in
      let n1 = named_real means i RealSort t s m.good path1 in
      let st1 = stands_named RealSort t st m.good path1 in
      let ext = extends-refl means s.next i in
      let ext1 = extends-refl means s1.next i in
      let a1 = good_later means n1.later ext of.0.stands.amount in
      let gb = good_difference means a1 n1.good in
      let n2 = named_real means i RealSort b s1 gb path3 in
      let st2 = stands_named RealSort b st1 gb path3 in
      let le2 = le_trans n1.later n2.later in
      let o2 = chunk_later means world le2 ext c.heap d.chunk of.0.stands in
      let amounts : Same (as_fraction (value i (rules.name_of b s1))) (difference (amount_of i d.chunk) q) =
      same-trans (same_is (ap as_fraction n2.value_is)) (same-trans (subtract_is means a1 n1.good) (difference_same (same-refl (amount_of i d.chunk)) (same_is (ap as_fraction n1.value_is)))) in
      let h1 : s1.heap ≡ s.heap = heap_after_name t s in
      let h2 : s2.heap ≡ s1.heap = heap_after_name b s1 in
      let pl = slot (field_key f r) s2.heap d (subst (λ (h : rules.Heap). StandsAt h d) (sym (h2 ∙ h1)) at.0) of.0.resource of.0.kind in
      let res = resource_of i d.chunk in
      let less = lowered means world s2.next i c.heap pl st2.heap v q n2.good amounts m.sign m.enough in
      let held_it : Le q (run.amount c.holdings res) = le-trans m.enough (chunk_held means world s2.next i c.heap pl st2.heap) in
      let st3 : Stands means world scope i (rules.with_heap (slice_set s1.heap d.number (record d.chunk { amount = rules.name_of b s1 })) s2) (run.with_holdings (run.lost res q c.holdings) c) =
      subst (λ (h : rules.Heap). Stands means world scope i (rules.with_heap (slice_set h d.number (record d.chunk { amount = rules.name_of b s1 })) s2) (run.with_holdings (run.lost res q c.holdings) c)) h2
      (stands_with_holdings means world (slice_set s2.heap d.number (record d.chunk { amount = rules.name_of b s1 })) (run.lost res q c.holdings) st2 less (world.taken c.heap c.holdings res q (chunk_typed means world o2) m.sign held_it st2.holds)) in
      let g2 = good_later means le2 ext g in
      let gu2 = good_later means n2.later ext1 n1.good in
      let gw2 = good_later means le2 ext gw in
      let rest_is : Same (as_fraction (value i (subtract w u))) (difference (as_fraction (value i w)) q) =
      same-trans (subtract_is means gw2 gu2) (difference_same (same-refl (as_fraction (value i w))) (same_is (ap as_fraction n1.value_is))) in
      let sign2 = le-trans (difference-none m.most) rest_is.back in
      let of2 = of_later means world c.heap f le2 ext ds of.1 in
      let enough3 = le-trans rest_is.there (le-trans m.left (le-is (sym (parts_kept means world c.heap f g e g2 e ext ds of.1)))) in
      let at2 = others_stand s1.heap d.number new ds differ.0 (subst (λ (h : rules.Heap). Each (StandsAt h) ds) (sym h1) at.1) in
      let z = shared_stands f r k ds {scope = scope} {i = i} {s = with_amount d b s1} {c = run.with_holdings (run.lost res q c.holdings) c} st3 at2 differ.1 of2 g2 e (subtract w u) (good_difference means gw2 gu2) sign2 enough3 path in
      record {
        holdings = z.holdings;
        later = le_trans le2 z.later;
        stands = z.stands;
        below = λ x. le-trans {a = run.amount z.holdings x} (z.below x) (lost_chain (run.At (at_field k f)) res x (as_fraction (value i w)) (as_fraction (value i (subtract w u))) q c.holdings rest_is m.sign m.place);
      }
