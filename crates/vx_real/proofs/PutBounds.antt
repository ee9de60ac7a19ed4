-- The facts that a put gives, over the chunks as they are behind it: where they are true, no more than the whole of the location is held.
use Rattle.std.proofs.Common.{◌≡◌, ◌⊎◌, inl, inr, ℕ, suc, Bool, true, false, cond, ◌&&◌, List, [], ◌∷◌, ◌++◌, slice_set, refl, sym, ◌∙◌, ap, ap₂, subst, true≢false}
use Rattle.vx_frac.specs.Fractions.{full}
use Rattle.vx_ast.specs.Syntax.{Name, same_name}
use Rattle.vx_meaning.specs.Values.{RefValue}
use Rattle.vx_meaning.specs.States as run
use Rattle.vx_terms.specs.Terms.{Term, same_bool}
use Rattle.vx_terms.specs.Build.{less_equal, whole_amount}
use Rattle.vx_terms.specs.Interpretations.{Each, Interpretation, value, IsTrueIn, AllTrue}
use Rattle.vx_rules.specs.States as rules
use Rattle.vx_rules.specs.Chunks.{Candidate, is_kin, same_arguments, chosen, candidates, first_argument, field_key, merged, agree, is_not_null, at_most_whole, bounding, apart, at_most_three, whole_fact, field_facts, instance_facts, put_over, put_facts}
use Rattle.vx_elements.proofs.Settled.{Meaning}
use Rattle.vx_elements.proofs.Elements.{element}
use Rattle.vx_elements.proofs.Lists.{name_same, each_out}
use Rattle.vx_elements.proofs.Places.{IsPlace, matching_places, matching_same}
use Rattle.vx_amounts.proofs.Amounts.{Le}
use Rattle.vx_sound.proofs.World.{at_field, World}
use Rattle.vx_sound.proofs.Stands.{held, ChunkStands}
use Rattle.vx_sound.proofs.Puts.{arguments_are}
use Rattle.vx_sound.proofs.Summed.{candidates_by, chosen_by}
use Rattle.vx_real.proofs.Alike.{term_same}
use Rattle.vx_real.proofs.Exactly.{IsReal}
use Rattle.vx_real.proofs.SumBounds.{apart_true, at_most_all}

-- Lists of candidates

abbrev past : ℕ → rules.Heap → ℕ
past n [] = n
past n (d ∷ ds) = past (suc n) ds

chosen_split : (identical : Bool) (key : rules.Chunk) (n : ℕ) (front back : rules.Heap) → chosen identical key n (front ++ back) ≡ chosen identical key n front ++ chosen identical key (past n front) back
chosen_split identical key n [] back = refl
chosen_split identical key n (d ∷ ds) back = go (is_kin key d && same_bool identical (same_arguments key.arguments d.arguments)) (chosen_split identical key (suc n) ds back)
  where
    go : (b : Bool) → chosen identical key (suc n) (ds ++ back) ≡ chosen identical key (suc n) ds ++ chosen identical key (past (suc n) ds) back →
        cond b (record { number = n; chunk = d } ∷ chosen identical key (suc n) (ds ++ back)) (chosen identical key (suc n) (ds ++ back)) ≡
        cond b (record { number = n; chunk = d } ∷ chosen identical key (suc n) ds) (chosen identical key (suc n) ds) ++ chosen identical key (past (suc n) ds) back
    go true e = ap (λ (cs : List Candidate). record { number = n; chunk = d } ∷ cs) e
    go false e = e

-- of a chunk of the field with the key's argument
abbrev Mine : rules.Chunk → rules.Chunk → Type 0
Mine key c = (is_kin key c ≡ true) × (same_arguments key.arguments c.arguments ≡ true)

mine_true : (key c : rules.Chunk) (n : ℕ) (back : rules.Heap) → Mine key c → chosen true key n (c ∷ back) ≡ record { number = n; chunk = c } ∷ chosen true key (suc n) back
mine_true key c n back m = ap₂ (λ (a b : Bool). cond (a && same_bool true b) (record { number = n; chunk = c } ∷ chosen true key (suc n) back) (chosen true key (suc n) back)) m.0 m.1

mine_false : (key c : rules.Chunk) (n : ℕ) (back : rules.Heap) → Mine key c → chosen false key n (c ∷ back) ≡ chosen false key (suc n) back
mine_false key c n back m = ap₂ (λ (a b : Bool). cond (a && same_bool false b) (record { number = n; chunk = c } ∷ chosen false key (suc n) back) (chosen false key (suc n) back)) m.0 m.1

-- a list that is one item
pub record Alone (xs ys : List Candidate) : Type 0 where
  pub front : xs ≡ []
  pub back : ys ≡ []

alone : (xs ys : List Candidate) (a b : Candidate) → xs ++ a ∷ ys ≡ b ∷ [] → Alone xs ys
alone [] ys a b e = record { front = refl; back = tail_is e }
  where
    tail_is : a ∷ ys ≡ b ∷ [] → ys ≡ []
    tail_is e = cc
alone (x ∷ xs) ys a b e = absurd (never xs (tail_is e))
  where
    tail_is : x ∷ (xs ++ a ∷ ys) ≡ b ∷ [] → xs ++ a ∷ ys ≡ []
    tail_is e = cc

    never : (zs : List Candidate) → zs ++ a ∷ ys ≡ [] → ⊥
    never [] e = cc
    never (z ∷ zs) e = cc

module _ (key : rules.Chunk) where
  -- behind a put that adds
  added_list : (new : rules.Chunk) (h : rules.Heap) → Mine key new → chosen true key 0 h ≡ [] → candidates key (h ++ new ∷ []) ≡ record { number = past 0 h; chunk = new } ∷ chosen false key 0 h
  added_list new h m e =
      ap₂ (λ (xs ys : List Candidate). xs ++ ys) (chosen_split true key 0 h (new ∷ []) ∙ ap₂ (λ (xs ys : List Candidate). xs ++ ys) e (mine_true key new (past 0 h) [] m))
      (chosen_split false key 0 h (new ∷ []) ∙ ap (λ (ys : List Candidate). chosen false key 0 h ++ ys) (mine_false key new (past 0 h) [] m) ∙ append_nil (chosen false key 0 h))
    where
      append_nil : (xs : List Candidate) → xs ++ [] ≡ xs
      append_nil [] = refl
      append_nil (x ∷ xs) = ap (λ (ys : List Candidate). x ∷ ys) (append_nil xs)

  -- behind one that merges into the only chunk of its receiver
  merged_list : (c x : rules.Chunk) (b : Candidate) (front back : rules.Heap) → Mine key c → Mine key x → chosen true key 0 (front ++ c ∷ back) ≡ b ∷ [] →
      candidates key (front ++ x ∷ back) ≡ record { number = past 0 front; chunk = x } ∷ chosen false key 0 (front ++ c ∷ back)
  merged_list c x b front back mc mx e =
      let z = alone (chosen true key 0 front) (chosen true key (suc (past 0 front)) back) (record { number = past 0 front; chunk = c }) b
      (sym (chosen_split true key 0 front (c ∷ back) ∙ ap (λ (ys : List Candidate). chosen true key 0 front ++ ys) (mine_true key c (past 0 front) back mc)) ∙ e) in
      ap₂ (λ (xs ys : List Candidate). xs ++ ys)
      (chosen_split true key 0 front (x ∷ back) ∙ ap₂ (λ (xs ys : List Candidate). xs ++ ys) z.front (mine_true key x (past 0 front) back mx ∙ ap (λ (ys : List Candidate). record { number = past 0 front; chunk = x } ∷ ys) z.back))
      (chosen_split false key 0 front (x ∷ back) ∙ ap (λ (ys : List Candidate). chosen false key 0 front ++ ys) (mine_false key x (past 0 front) back mx ∙ sym (mine_false key c (past 0 front) back mc)) ∙ sym (chosen_split false key 0 front (c ∷ back)))

pub true_append : (i : Interpretation) (xs ys : List Term) → AllTrue i (xs ++ ys) → AllTrue i xs × AllTrue i ys
true_append i [] ys h = (tt, h)
true_append i (x ∷ xs) ys h = let r = true_append i xs ys h.1 in ((h.0, r.0), r.1)

-- at most one chunk has a receiver
abbrev pub IsOnce : rules.Chunk → rules.Heap → Type 0
IsOnce key h = (chosen true key 0 h ≡ []) ⊎ ((c : Candidate) × (chosen true key 0 h ≡ c ∷ []))

module _ (means : Meaning) (world : World) (n : ℕ) (i : Interpretation) (heap : run.Heap) (new : rules.Chunk) (h : rules.Heap) (k : ℕ)
    (kind : new.is_field ≡ true) (stands : ChunkStands means world n i heap new) (e : value i (first_argument new.arguments) ≡ element (RefValue k)) where
  single : new.arguments ≡ first_argument new.arguments ∷ []
  single = (stands.field kind).single

  mine : (c : rules.Chunk) → c.is_field ≡ true → c.resource ≡ new.resource → c.arguments ≡ new.arguments → Mine (field_key new.resource (first_argument new.arguments)) c
  mine c f x ts = (
    ap₂ (λ (a : Bool) (y : Name). same_bool true a && same_name new.resource y) f x ∙ name_same new.resource,
    ap (λ (us : List Term). same_arguments (first_argument new.arguments ∷ []) us) (ts ∙ single) ∙ ap (λ b. b && true) (term_same (first_argument new.arguments)),
  )

  -- what is shown, over the candidates of the same receiver
  abbrev Goal : List Candidate → Type 0
  Goal cs = Each (ChunkStands means world n i heap) (put_over cs new h) → Each (IsReal i) (put_over cs new h) → AllTrue i (field_facts true true cs new h) → AllTrue i (whole_fact new (put_over cs new h)) →
      Le (held i (put_over cs new h) (run.At (at_field k new.resource))) full

  pub put_limited : IsOnce new h → Each (ChunkStands means world n i heap) (put_over (chosen true new 0 h) new h) → Each (IsReal i) (put_over (chosen true new 0 h) new h) → AllTrue i (put_facts true true new h) →
      Le (held i (put_over (chosen true new 0 h) new h) (run.At (at_field k new.resource))) full
  put_limited once each real facts = go once
    where
      told : AllTrue i (field_facts true true (chosen true new 0 h) new h ++ whole_fact new (put_over (chosen true new 0 h) new h))
      told = subst (λ b. AllTrue i (cond b (field_facts true true (chosen true new 0 h) new h ++ whole_fact new (put_over (chosen true new 0 h) new h)) [])) kind given
        where
          given : AllTrue i (cond new.is_field (field_facts true true (chosen true new 0 h) new h ++ whole_fact new (put_over (chosen true new 0 h) new h)) [])
          given = by_kind new.is_field kind facts
            where
              by_kind : (b : Bool) → b ≡ true → AllTrue i (cond b (field_facts true true (chosen true new 0 h) new h ++ whole_fact new (put_over (chosen true new 0 h) new h)) (instance_facts (chosen true new 0 h) new)) →
                  AllTrue i (cond b (field_facts true true (chosen true new 0 h) new h ++ whole_fact new (put_over (chosen true new 0 h) new h)) [])
              by_kind true q x = x
              by_kind false q x = absurd (true≢false (sym q))

      parts_told : AllTrue i (field_facts true true (chosen true new 0 h) new h) × AllTrue i (whole_fact new (put_over (chosen true new 0 h) new h))
      parts_told = true_append i (field_facts true true (chosen true new 0 h) new h) (whole_fact new (put_over (chosen true new 0 h) new h)) told

      same_key : (b : Bool) → chosen b new 0 h ≡ chosen b (field_key new.resource (first_argument new.arguments)) 0 h
      same_key b = chosen_by b new (field_key new.resource (first_argument new.arguments)) 0 h kind refl single

      added : chosen true new 0 h ≡ [] → Goal []
      added none_there each real facts bound =
          let key = field_key new.resource (first_argument new.arguments) in
          let first : Candidate = record { number = past 0 h; chunk = new } in
          let lists = added_list key new h (mine new kind refl refl) (sym (same_key true) ∙ none_there) in
          at_most_all means world n i heap new (h ++ new ∷ []) (past 0 h) (chosen false key 0 h) k record { stands = stands; kind = kind; resource = refl } single (stands.field kind).receiver e each real lists facts.1.0
          (subst (Each (λ (d : Candidate). IsTrueIn i (at_most_whole new d.chunk))) (same_key false) (apart_true i new h 0 facts.1.1))
          (subst (λ cs. AllTrue i (at_most_three (first_argument new.arguments) cs)) (candidates_by new key (h ++ new ∷ []) kind refl single ∙ lists) bound)

      merges : (c : Candidate) → chosen true new 0 h ≡ c ∷ [] → Goal (c ∷ [])
      merges c one each real facts bound =
          let pl = (subst (Each (IsPlace new h)) one (matching_places new h)).0 in
          let args : new.arguments ≡ c.chunk.arguments = arguments_are new.arguments c.chunk.arguments (subst (Each (λ (d : Candidate). same_arguments new.arguments d.chunk.arguments ≡ true)) one (matching_same new h 0)).0 in
          let whole = merged new c.chunk in
          let kind' : c.chunk.is_field ≡ true = pl.kind ∙ kind in
          let single' : c.chunk.arguments ≡ first_argument c.chunk.arguments ∷ [] = subst (λ ts. ts ≡ first_argument ts ∷ []) args single in
          let e' : value i (first_argument c.chunk.arguments) ≡ element (RefValue k) = subst (λ ts. value i (first_argument ts) ≡ element (RefValue k)) args e in
          let key = field_key c.chunk.resource (first_argument c.chunk.arguments) in
          let at = pl.set_is (merged new c.chunk) in
          let stands' = (each_out (ChunkStands means world n i heap) pl.front (merged new c.chunk) pl.back (subst (Each (ChunkStands means world n i heap)) at each)).0 in
          let mine_c : Mine (field_key c.chunk.resource (first_argument c.chunk.arguments)) c.chunk = (
            ap (λ a. same_bool true a && same_name c.chunk.resource c.chunk.resource) kind' ∙ name_same c.chunk.resource,
            ap (λ (us : List Term). same_arguments (first_argument c.chunk.arguments ∷ []) us) single' ∙ ap (λ b. b && true) (term_same (first_argument c.chunk.arguments)),
          ) in
          let one' : chosen true (field_key c.chunk.resource (first_argument c.chunk.arguments)) 0 (pl.front ++ c.chunk ∷ pl.back) ≡ c ∷ [] =
          subst (λ (x : rules.Heap). chosen true (field_key c.chunk.resource (first_argument c.chunk.arguments)) 0 x ≡ c ∷ []) pl.is
          (sym (chosen_by true new (field_key c.chunk.resource (first_argument c.chunk.arguments)) 0 h kind (sym pl.resource) (args ∙ single')) ∙ one) in
          let lists' = merged_list key c.chunk (merged new c.chunk) c pl.front pl.back mine_c mine_c one' in
          let lists : candidates (field_key c.chunk.resource (first_argument c.chunk.arguments)) (slice_set h c.number (merged new c.chunk)) ≡ record { number = past 0 pl.front; chunk = merged new c.chunk } ∷ chosen false (field_key c.chunk.resource (first_argument c.chunk.arguments)) 0 h =
          ap (λ (x : rules.Heap). candidates (field_key c.chunk.resource (first_argument c.chunk.arguments)) x) at ∙ lists'
          ∙ ap (λ (x : rules.Heap). record { number = past 0 pl.front; chunk = merged new c.chunk } ∷ chosen false (field_key c.chunk.resource (first_argument c.chunk.arguments)) 0 x) (sym pl.is) in
          let told = (true_append i (is_not_null new ∷ bounding true (less_equal new.amount whole_amount ∷ [])) (agree new c.chunk ∷ (bounding true (less_equal (merged new c.chunk).amount whole_amount ∷ []) ++ apart true true (merged new c.chunk) h)) facts).1 in
          subst (λ (x : Name). Le (held i (slice_set h c.number (merged new c.chunk)) (run.At (at_field k x))) full) pl.resource
          (at_most_all means world n i heap (merged new c.chunk) (slice_set h c.number (merged new c.chunk)) (past 0 pl.front) (chosen false key 0 h) k record { stands = stands'; kind = kind'; resource = refl } single' (stands'.field kind').receiver e' each real lists told.1.0
          (subst (Each (λ (d : Candidate). IsTrueIn i (at_most_whole (merged new c.chunk) d.chunk))) (chosen_by false (merged new c.chunk) key 0 h kind' refl single') (apart_true i (merged new c.chunk) h 0 told.1.1))
          (subst (λ ts. AllTrue i (at_most_three (first_argument ts) (record { number = past 0 pl.front; chunk = merged new c.chunk } ∷ chosen false key 0 h))) args
          (subst (λ cs. AllTrue i (at_most_three (first_argument new.arguments) cs)) (candidates_by new key (slice_set h c.number (merged new c.chunk)) kind (sym pl.resource) (args ∙ single') ∙ lists) bound)))

      go : IsOnce new h → Le (held i (put_over (chosen true new 0 h) new h) (run.At (at_field k new.resource))) full
      go (inl none_there) = subst Goal (sym none_there) (added none_there) each real parts_told.0 parts_told.1
      go (inr (c, one)) = subst Goal (sym one) (merges c one) each real parts_told.0 parts_told.1
