-- What a state has besides its path and its symbols stays as facts are added, values are named and amounts are taken.
use Rattle.std.proofs.Common.{◌≡◌, Bool, true, false, cond, List, [], ◌∷◌, slice_set, refl, sym, ◌∙◌, ap, subst}
use Rattle.vx_terms.specs.Terms.{Term, sort_of}
use Rattle.vx_terms.specs.Build.{equals, subtract}
use Rattle.vx_terms.specs.Interpretations.{Each}
use Rattle.vx_rules.specs.States as rules
use Rattle.vx_rules.specs.Chunks.{Candidate, share, shared_out, with_amount}
use Rattle.vx_sound.proofs.Slots.{StandsAt, Differ, slot, others_stand}
use Rattle.vx_sound.proofs.SumTakes.{heap_after_name}
use Rattle.vx_real.proofs.Exactly.{keys}
use Rattle.vx_real.proofs.Keys.{keys_set}

module _ {A : Type 0} (field : rules.State → A) (by_entry : (e : rules.Entry) (s : rules.State) → field (rules.with_entry e s) ≡ field s) (by_fresh : (s : rules.State) → field (rules.after_fresh s) ≡ field s) where
  pub fact_keeps : (t : Term) (s : rules.State) → field (rules.with_fact t s) ≡ field s
  fact_keeps t s = go (rules.is_known t s)
    where
      go : (b : Bool) → field (cond b s (rules.with_entry record { term = t; branch = false } s)) ≡ field s
      go true = refl
      go false = by_entry record { term = t; branch = false } s

  pub facts_keep : (ts : List Term) (s : rules.State) → field (rules.with_facts ts s) ≡ field s
  facts_keep [] s = refl
  facts_keep (t ∷ ts) s = facts_keep ts (rules.with_fact t s) ∙ fact_keeps t s

  pub name_keeps : (t : Term) (s : rules.State) → field (rules.after_name t s) ≡ field s
  name_keeps t s = go (rules.is_named t s)
    where
      go : (b : Bool) → field (cond b s (rules.with_fact (equals (rules.fresh (sort_of t) s) t) (rules.after_fresh s))) ≡ field s
      go true = refl
      go false = fact_keeps (equals (rules.fresh (sort_of t) s) t) (rules.after_fresh s) ∙ by_fresh s

  pub shared_keeps : ((h : rules.Heap) (s : rules.State) → field (rules.with_heap h s) ≡ field s) → (r w : Term) (cs : List Candidate) (s : rules.State) → field (shared_out r w cs s) ≡ field s
  shared_keeps by_heap r w [] s = refl
  shared_keeps by_heap r w (d ∷ ds) s =
      let t = share r w d.chunk in
      let u = rules.name_of t s in
      let s1 = rules.after_name t s in
      let b = subtract d.chunk.amount u in
      shared_keeps by_heap r (subtract w u) ds (with_amount d b s1)
      ∙ by_heap (slice_set s1.heap d.number (record d.chunk { amount = rules.name_of b s1 })) (rules.after_name b s1) ∙ name_keeps b s1 ∙ name_keeps t s

-- taking keeps what chunks are of
pub shared_keys : (key : rules.Chunk) (r w : Term) (cs : List Candidate) (s : rules.State) → Each (StandsAt s.heap) cs → Differ cs → Each (λ (d : Candidate). (d.chunk.resource ≡ key.resource) × (d.chunk.is_field ≡ key.is_field)) cs →
    keys (shared_out r w cs s).heap ≡ keys s.heap
shared_keys key r w [] s at differ of = refl
shared_keys key r w (d ∷ ds) s at differ of =
    let t = share r w d.chunk in
    let u = rules.name_of t s in
    let s1 = rules.after_name t s in
    let b = subtract d.chunk.amount u in
    let new = record d.chunk { amount = rules.name_of b s1 } in
    let h1 : s1.heap ≡ s.heap = heap_after_name t s in
    let at1 = subst (λ (h : rules.Heap). StandsAt h d) (sym h1) at.0 in
    let pl = slot key s1.heap d at1 of.0.0 of.0.1 in
    shared_keys key r (subtract w u) ds (with_amount d b s1) (others_stand s1.heap d.number new ds differ.0 (subst (λ (h : rules.Heap). Each (StandsAt h) ds) (sym h1) at.1)) differ.1 of.1
    ∙ keys_set pl new refl ∙ ap keys h1
