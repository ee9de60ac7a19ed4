-- What is put is flat, and the facts that a put gives are.
use Rattle.std.proofs.Common.{Bool, true, false, not, cond, ◌&&◌, List, [], ◌∷◌, ◌++◌, refl}
use Rattle.vx_terms.specs.Terms.{Term, same}
use Rattle.vx_terms.specs.Build.{negate, and, equals, less, less_equal, add, null, zero_amount, whole_amount}
use Rattle.vx_terms.specs.Interpretations.{Each}
use Rattle.vx_rules.specs.States.{Chunk, Heap, State, is_quiet, with_heap, with_facts}
use Rattle.vx_rules.specs.Chunks.{first_argument, Candidate, chosen, candidates, is_kin, same_arguments, sum_at, merged, agree, is_not_null, bounding, at_most_whole, one_value, with_other, apart, at_most_three, whole_fact, field_facts, instance_facts, put_over, put_facts, put}
use Rattle.vx_elements.proofs.Lists.{each_append}
use Rattle.vx_real.proofs.Flat.{IsFlat, negate_flat, flat_and, flat_implies, flat_equals, flat_ite, flat_less, flat_less_equal, flat_add}
use Rattle.vx_real.proofs.FlatSteps.{IsFlatChunk, IsFlatState, AreFlatCandidates, facts_flat, heap_flat, chosen_flat, candidates_flat, first_flat, total_flat, set_flat}

bounding_flat : (b : Bool) (ts : List Term) → Each IsFlat ts → Each IsFlat (bounding b ts)
bounding_flat true ts k = k
bounding_flat false ts k = tt

positive_flat : (c : Chunk) → IsFlatChunk c → IsFlat (less zero_amount c.amount)
positive_flat c k = flat_less zero_amount c.amount tt k.amount

receiver_flat : (c : Chunk) → IsFlatChunk c → IsFlat (first_argument c.arguments)
receiver_flat c k = first_flat c.arguments k.arguments

merged_flat : (new c : Chunk) → IsFlatChunk new → IsFlatChunk c → IsFlatChunk (merged new c)
merged_flat new c k d = record { arguments = d.arguments; amount = flat_add c.amount new.amount d.amount k.amount; value = flat_ite (less zero_amount c.amount) c.value new.value (positive_flat c d) d.value k.value }

agree_flat : (new c : Chunk) → IsFlatChunk new → IsFlatChunk c → IsFlat (agree new c)
agree_flat new c k d = flat_implies (and (less zero_amount c.amount) (less zero_amount new.amount)) (equals c.value new.value) (flat_and (less zero_amount c.amount) (less zero_amount new.amount) (positive_flat c d) (positive_flat new k)) (flat_equals c.value new.value d.value k.value)

not_null_flat : (new : Chunk) → IsFlatChunk new → IsFlat (is_not_null new)
not_null_flat new k = let e = equals (first_argument new.arguments) null in flat_implies (less zero_amount new.amount) (negate e) (positive_flat new k) (negate_flat e (flat_equals (first_argument new.arguments) null (receiver_flat new k) (refl, refl)))

most_flat : (t : Term) → IsFlat t → IsFlat (less_equal t whole_amount)
most_flat t k = flat_less_equal t whole_amount k tt

at_most_flat : (whole c : Chunk) → IsFlatChunk whole → IsFlatChunk c → IsFlat (at_most_whole whole c)
at_most_flat whole c k d = flat_implies (equals (first_argument c.arguments) (first_argument whole.arguments)) (less_equal (add whole.amount c.amount) whole_amount)
    (flat_equals (first_argument c.arguments) (first_argument whole.arguments) (receiver_flat c d) (receiver_flat whole k)) (most_flat (add whole.amount c.amount) (flat_add whole.amount c.amount k.amount d.amount))

one_flat : (whole c : Chunk) → IsFlatChunk whole → IsFlatChunk c → IsFlat (one_value whole c)
one_flat whole c k d =
    let same_receiver = equals (first_argument whole.arguments) (first_argument c.arguments) in
    let held = and same_receiver (less zero_amount whole.amount) in
    flat_implies (and held (less zero_amount c.amount)) (equals whole.value c.value)
    (flat_and held (less zero_amount c.amount) (flat_and same_receiver (less zero_amount whole.amount) (flat_equals (first_argument whole.arguments) (first_argument c.arguments) (receiver_flat whole k) (receiver_flat c d)) (positive_flat whole k)) (positive_flat c d))
    (flat_equals whole.value c.value k.value d.value)

apart_flat : (summed bounded : Bool) (whole : Chunk) (h : Heap) → IsFlatChunk whole → Each IsFlatChunk h → Each IsFlat (apart summed bounded whole h)
apart_flat summed bounded whole [] k d = tt
apart_flat summed bounded whole (c ∷ cs) k d = go (is_kin whole c && not (same_arguments whole.arguments c.arguments)) (apart_flat summed bounded whole cs k d.1)
  where
    others : Each IsFlat (with_other summed bounded whole c)
    others = each_append IsFlat (bounding bounded (at_most_whole whole c ∷ [])) (cond summed (one_value whole c ∷ []) []) (bounding_flat bounded (at_most_whole whole c ∷ []) (at_most_flat whole c k d.0, tt)) (valued summed)
      where
        valued : (b : Bool) → Each IsFlat (cond b (one_value whole c ∷ []) [])
        valued true = (one_flat whole c k d.0, tt)
        valued false = tt

    go : (b : Bool) → Each IsFlat (apart summed bounded whole cs) → Each IsFlat (cond b (with_other summed bounded whole c ++ apart summed bounded whole cs) (apart summed bounded whole cs))
    go true r = each_append IsFlat (with_other summed bounded whole c) (apart summed bounded whole cs) others r
    go false r = r

three_flat : (r : Term) (cs : List Candidate) → IsFlat r → AreFlatCandidates cs → Each IsFlat (at_most_three r cs)
three_flat r [] g d = tt
three_flat r (a ∷ []) g d = tt
three_flat r (a ∷ b ∷ []) g d = tt
three_flat r (a ∷ b ∷ c ∷ cs) g d = (most_flat (sum_at r (a ∷ b ∷ c ∷ cs)) (total_flat r (a ∷ b ∷ c ∷ cs) g d), tt)

field_flat : (summed bounded : Bool) (cs : List Candidate) (new : Chunk) (h : Heap) → AreFlatCandidates cs → IsFlatChunk new → Each IsFlatChunk h → Each IsFlat (field_facts summed bounded cs new h)
field_flat summed bounded [] new h d k g = (
  not_null_flat new k,
  each_append IsFlat (bounding bounded (less_equal new.amount whole_amount ∷ [])) (apart summed bounded new h) (bounding_flat bounded (less_equal new.amount whole_amount ∷ []) (most_flat new.amount k.amount, tt)) (apart_flat summed bounded new h k g),
)
field_flat summed bounded (c ∷ cs) new h d k g =
    let whole = merged new c.chunk in
    let w = merged_flat new c.chunk k d.0 in
    each_append IsFlat (is_not_null new ∷ bounding bounded (less_equal new.amount whole_amount ∷ [])) (agree new c.chunk ∷ (bounding bounded (less_equal whole.amount whole_amount ∷ []) ++ apart summed bounded whole h))
    (not_null_flat new k, bounding_flat bounded (less_equal new.amount whole_amount ∷ []) (most_flat new.amount k.amount, tt))
    (agree_flat new c.chunk k d.0, each_append IsFlat (bounding bounded (less_equal whole.amount whole_amount ∷ [])) (apart summed bounded whole h) (bounding_flat bounded (less_equal whole.amount whole_amount ∷ []) (most_flat whole.amount w.amount, tt)) (apart_flat summed bounded whole h w g))

instance_flat : (cs : List Candidate) (new : Chunk) → AreFlatCandidates cs → IsFlatChunk new → Each IsFlat (instance_facts cs new)
instance_flat [] new d k = tt
instance_flat (c ∷ cs) new d k = (agree_flat new c.chunk k d.0, tt)

over_flat : (cs : List Candidate) (new : Chunk) (h : Heap) → AreFlatCandidates cs → IsFlatChunk new → Each IsFlatChunk h → Each IsFlatChunk (put_over cs new h)
over_flat [] new h d k g = each_append IsFlatChunk h (new ∷ []) g (k, tt)
over_flat (c ∷ cs) new h d k g = set_flat h c.number (merged new c.chunk) g (merged_flat new c.chunk k d.0)

put_facts_flat : (summed bounded : Bool) (new : Chunk) (h : Heap) → IsFlatChunk new → Each IsFlatChunk h → Each IsFlat (put_facts summed bounded new h)
put_facts_flat summed bounded new h k g = go new.is_field
  where
    matching : List Candidate
    matching = chosen true new 0 h

    d : AreFlatCandidates (chosen true new 0 h)
    d = chosen_flat true new 0 h g

    go : (b : Bool) → Each IsFlat (cond b (field_facts summed bounded (chosen true new 0 h) new h ++ bounding (summed && bounded) (whole_fact new (put_over (chosen true new 0 h) new h))) (instance_facts (chosen true new 0 h) new))
    go true = each_append IsFlat (field_facts summed bounded (chosen true new 0 h) new h) (bounding (summed && bounded) (whole_fact new (put_over (chosen true new 0 h) new h))) (field_flat summed bounded (chosen true new 0 h) new h d k g)
        (bounding_flat (summed && bounded) (whole_fact new (put_over (chosen true new 0 h) new h))
        (three_flat (first_argument new.arguments) (candidates new (put_over (chosen true new 0 h) new h)) (receiver_flat new k) (candidates_flat new (put_over (chosen true new 0 h) new h) (over_flat (chosen true new 0 h) new h d k g))))
    go false = instance_flat (chosen true new 0 h) new d k

pub put_flat : (new : Chunk) {s : State} → IsFlatChunk new → IsFlatState s → IsFlatState (put new s)
put_flat new {s = s} k h = go (same new.amount zero_amount)
  where
    go : (b : Bool) → IsFlatState (cond b s (with_facts (put_facts (not (is_quiet s)) s.bounded new s.heap) (with_heap (put_over (chosen true new 0 s.heap) new s.heap) s)))
    go true = h
    go false = facts_flat (put_facts (not (is_quiet s)) s.bounded new s.heap) (heap_flat (put_over (chosen true new 0 s.heap) new s.heap) h (over_flat (chosen true new 0 s.heap) new s.heap (chosen_flat true new 0 s.heap h.heap) k h.heap))
        (put_facts_flat (not (is_quiet s)) s.bounded new s.heap k h.heap)
