-- Candidates are chunks of their field or predicate in their places in the list, and what holds of the chunks around a place.
use Rattle.std.proofs.Common.{◌≡◌, ℕ, suc, Bool, true, false, cond, ◌&&◌, [], ◌∷◌, ◌++◌, length, drop, slice_set, refl, sym, ◌∙◌, ap, ap₂, subst, append_assoc}
use Rattle.std.proofs.Math.Seq.{take-append_seam, set-append_seam}
use Rattle.std.proofs.lemmas.Bool.{and_parts}
use Rattle.vx_terms.specs.Terms.{same_bool}
use Rattle.vx_terms.specs.Interpretations.{Each}
use Rattle.vx_terms.proofs.Same.{bool_is}
use Rattle.vx_rules.specs.States.{Chunk, Heap}
use Rattle.vx_rules.specs.Chunks.{Candidate, is_kin, same_arguments, chosen, candidates, without}
use Rattle.vx_elements.proofs.Lists.{name_is, each_append}

pub record IsPlace (key : Chunk) (h : Heap) (c : Candidate) : Type 0 where
  pub front : Heap
  pub back : Heap
  pub is : h ≡ front ++ c.chunk ∷ back
  pub without_is : without c.number h ≡ front ++ back
  pub set_is : (x : Chunk) → slice_set h c.number x ≡ front ++ x ∷ back
  pub resource : c.chunk.resource ≡ key.resource
  pub kind : c.chunk.is_field ≡ key.is_field

drop_past : (front : Heap) (c : Chunk) (back : Heap) → drop (suc (length front)) (front ++ c ∷ back) ≡ back
drop_past [] c back = refl
drop_past (d ∷ front) c back = drop_past front c back

length_more : (front : Heap) (c : Chunk) → length (front ++ c ∷ []) ≡ suc (length front)
length_more [] c = refl
length_more (d ∷ front) c = ap suc (length_more front c)

place_at : (key c : Chunk) (front back : Heap) → key.resource ≡ c.resource → key.is_field ≡ c.is_field → IsPlace key (front ++ c ∷ back) record { number = length front; chunk = c }
place_at key c front back e k = record {
  front = front;
  back = back;
  is = refl;
  without_is = ap₂ (λ (x y : Heap). x ++ y) (take-append_seam front (c ∷ back)) (drop_past front c back);
  set_is = λ x. set-append_seam front c back x;
  resource = sym e;
  kind = sym k;
}

kin_resource : (a b : Chunk) (x : Bool) → (is_kin a b && x) ≡ true → a.resource ≡ b.resource
kin_resource a b x e = name_is a.resource b.resource (and_parts _ _ (and_parts (is_kin a b) x e).0).1

kin_kind : (a b : Chunk) (x : Bool) → (is_kin a b && x) ≡ true → a.is_field ≡ b.is_field
kin_kind a b x e = bool_is a.is_field b.is_field (and_parts _ _ (and_parts (is_kin a b) x e).0).0

chosen_places : (identical : Bool) (key : Chunk) (front back : Heap) (n : ℕ) → n ≡ length front → Each (IsPlace key (front ++ back)) (chosen identical key n back)
chosen_places identical key front [] n e = tt
chosen_places identical key front (c ∷ cs) n e =
    go (is_kin key c && same_bool identical (same_arguments key.arguments c.arguments)) refl
    (subst (λ h. Each (IsPlace key h) (chosen identical key (suc n) cs)) (append_assoc front (c ∷ []) cs)
    (chosen_places identical key (front ++ c ∷ []) cs (suc n) (ap suc e ∙ sym (length_more front c))))
  where
    go : (b : Bool) → (is_kin key c && same_bool identical (same_arguments key.arguments c.arguments)) ≡ b → Each (IsPlace key (front ++ c ∷ cs)) (chosen identical key (suc n) cs) →
        Each (IsPlace key (front ++ c ∷ cs)) (cond b (record { number = n; chunk = c } ∷ chosen identical key (suc n) cs) (chosen identical key (suc n) cs))
    go true k rest =
        (subst (λ m. IsPlace key (front ++ c ∷ cs) record { number = m; chunk = c }) (sym e) (place_at key c front cs (kin_resource key c (same_bool identical (same_arguments key.arguments c.arguments)) k) (kin_kind key c (same_bool identical (same_arguments key.arguments c.arguments)) k)), rest)
    go false k rest = rest

pub candidates_places : (key : Chunk) (h : Heap) → Each (IsPlace key h) (candidates key h)
candidates_places key h =
    each_append (IsPlace key h) (chosen true key 0 h) (chosen false key 0 h) (chosen_places true key [] h 0 refl) (chosen_places false key [] h 0 refl)

pub matching_places : (key : Chunk) (h : Heap) → Each (IsPlace key h) (chosen true key 0 h)
matching_places key h = chosen_places true key [] h 0 refl

-- those with identical arguments
pub matching_same : (key : Chunk) (h : Heap) (n : ℕ) → Each (λ (c : Candidate). same_arguments key.arguments c.chunk.arguments ≡ true) (chosen true key n h)
matching_same key [] n = tt
matching_same key (c ∷ cs) n = go (is_kin key c && same_bool true (same_arguments key.arguments c.arguments)) refl (matching_same key cs (suc n))
  where
    go : (b : Bool) → (is_kin key c && same_bool true (same_arguments key.arguments c.arguments)) ≡ b → Each (λ (c : Candidate). same_arguments key.arguments c.chunk.arguments ≡ true) (chosen true key (suc n) cs) →
        Each (λ (c : Candidate). same_arguments key.arguments c.chunk.arguments ≡ true) (cond b (record { number = n; chunk = c } ∷ chosen true key (suc n) cs) (chosen true key (suc n) cs))
    go true k rest = (sym (bool_is true _ (and_parts (is_kin key c) _ k).1), rest)
    go false k rest = rest
