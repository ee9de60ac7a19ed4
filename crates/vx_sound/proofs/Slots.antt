-- Candidates stand at their numbers, which differ; so each keeps its place where another is written.
use Rattle.std.proofs.Common.{◌≡◌, ℕ, zero, suc, ◌≤◌, Bool, true, false, cond, ◌&&◌, List, [], ◌∷◌, ◌++◌, length, drop, slice_set, slice_get, Option, Some, None, refl, sym, ◌∙◌, ap, ap₂, subst, append_assoc, true≢false, le_refl, arith}
use Rattle.std.proofs.Math.Seq.{take-append_seam, set-append_seam}
use Rattle.std.proofs.lemmas.Bool.{and_parts}
use Rattle.vx_terms.specs.Terms.{same_bool}
use Rattle.vx_terms.specs.Interpretations.{Each}
use Rattle.vx_terms.proofs.Same.{bool_is}
use Rattle.vx_rules.specs.States.{Chunk, Heap}
use Rattle.vx_rules.specs.Chunks.{Candidate, is_kin, same_arguments, chosen, candidates, without}
use Rattle.vx_elements.proofs.Lists.{each_append, each_map}
use Rattle.vx_elements.proofs.Places.{IsPlace, matching_same}

-- its chunk stands at its number
abbrev pub StandsAt : Heap → Candidate → Type 0
StandsAt h c = slice_get h c.number ≡ Some c.chunk

drop_past : (front : Heap) (c : Chunk) (back : Heap) → drop (suc (length front)) (front ++ c ∷ back) ≡ back
drop_past [] c back = refl
drop_past (d ∷ front) c back = drop_past front c back

length_more : (front : Heap) (c : Chunk) → length (front ++ c ∷ []) ≡ suc (length front)
length_more [] c = refl
length_more (d ∷ front) c = ap suc (length_more front c)

pub record Split (h : Heap) (n : ℕ) (c : Chunk) : Type 0 where
  pub front : Heap
  pub back : Heap
  pub is : h ≡ front ++ c ∷ back
  pub number : n ≡ length front

split : (h : Heap) (n : ℕ) (c : Chunk) → slice_get h n ≡ Some c → Split h n c
split [] n c e = absurd (none_some e)
  where
    none_some : (let o : Option Chunk = None in o) ≡ Some c → ⊥
    none_some e = cc
split (d ∷ ds) zero c e = record { front = []; back = ds; is = ap (λ (x : Chunk). x ∷ ds) (some_is e); number = refl }
  where
    some_is : Some d ≡ Some c → d ≡ c
    some_is e = cc
split (d ∷ ds) (suc n) c e = let r = split ds n c e in record { front = d ∷ r.front; back = r.back; is = ap (λ (xs : Heap). d ∷ xs) r.is; number = ap suc r.number }

pub slot : (key : Chunk) (h : Heap) (c : Candidate) → StandsAt h c → c.chunk.resource ≡ key.resource → c.chunk.is_field ≡ key.is_field → IsPlace key h c
slot key h c e x k =
    let r = split h c.number c.chunk e in
    record {
      front = r.front;
      back = r.back;
      is = r.is;
      without_is = ap₂ (λ (xs : Heap) (n : ℕ). without n xs) r.is r.number ∙ ap₂ (λ (xs ys : Heap). xs ++ ys) (take-append_seam r.front (c.chunk ∷ r.back)) (drop_past r.front c.chunk r.back);
      set_is = λ y. ap₂ (λ (xs : Heap) (n : ℕ). slice_set xs n y) r.is r.number ∙ set-append_seam r.front c.chunk r.back y;
      resource = x;
      kind = k;
    }

-- writing at another number
pub stands_still : (h : Heap) (m : ℕ) (x : Chunk) (n : ℕ) (c : Chunk) → (n ≡ m → ⊥) → slice_get h n ≡ Some c → slice_get (slice_set h m x) n ≡ Some c
stands_still [] m x n c d e = e
stands_still (y ∷ ys) zero x zero c d e = absurd (d refl)
stands_still (y ∷ ys) zero x (suc n) c d e = e
stands_still (y ∷ ys) (suc m) x zero c d e = e
stands_still (y ∷ ys) (suc m) x (suc n) c d e = stands_still ys m x n c (λ q. d (ap suc q)) e

seam : (front : Heap) (c : Chunk) (back : Heap) → slice_get (front ++ c ∷ back) (length front) ≡ Some c
seam [] c back = refl
seam (d ∷ front) c back = seam front c back

chosen_stand : (identical : Bool) (key : Chunk) (front back : Heap) (n : ℕ) → n ≡ length front → Each (StandsAt (front ++ back)) (chosen identical key n back)
chosen_stand identical key front [] n e = tt
chosen_stand identical key front (c ∷ cs) n e =
    go (is_kin key c && same_bool identical (same_arguments key.arguments c.arguments))
    (subst (λ h. Each (StandsAt h) (chosen identical key (suc n) cs)) (append_assoc front (c ∷ []) cs)
    (chosen_stand identical key (front ++ c ∷ []) cs (suc n) (ap suc e ∙ sym (length_more front c))))
  where
    go : (b : Bool) → Each (StandsAt (front ++ c ∷ cs)) (chosen identical key (suc n) cs) → Each (StandsAt (front ++ c ∷ cs)) (cond b (record { number = n; chunk = c } ∷ chosen identical key (suc n) cs) (chosen identical key (suc n) cs))
    go true rest = (subst (λ m. slice_get (front ++ c ∷ cs) m ≡ Some c) (sym e) (seam front c cs), rest)
    go false rest = rest

pub candidates_stand : (key : Chunk) (h : Heap) → Each (StandsAt h) (candidates key h)
candidates_stand key h = each_append (StandsAt h) (chosen true key 0 h) (chosen false key 0 h) (chosen_stand true key [] h 0 refl) (chosen_stand false key [] h 0 refl)

-- The numbers differ.

abbrev pub NotAt : ℕ → List Candidate → Type 0
NotAt n cs = Each (λ (c : Candidate). c.number ≡ n → ⊥) cs

abbrev pub Differ : List Candidate → Type 0
Differ [] = Unit {0}
Differ (c ∷ cs) = NotAt c.number cs × Differ cs

chosen_from : (identical : Bool) (key : Chunk) (n : ℕ) (h : Heap) → Each (λ (c : Candidate). n ≤ c.number) (chosen identical key n h)
chosen_from identical key n [] = tt
chosen_from identical key n (c ∷ cs) = go (is_kin key c && same_bool identical (same_arguments key.arguments c.arguments)) (each_map (λ (d : Candidate). suc n ≤ d.number) (λ (d : Candidate). n ≤ d.number) (λ d le. below le) (chosen identical key (suc n) cs) (chosen_from identical key (suc n) cs))
  where
    below : {m : ℕ} → suc n ≤ m → n ≤ m
    below le = omega arith

    go : (b : Bool) → Each (λ (d : Candidate). n ≤ d.number) (chosen identical key (suc n) cs) → Each (λ (d : Candidate). n ≤ d.number) (cond b (record { number = n; chunk = c } ∷ chosen identical key (suc n) cs) (chosen identical key (suc n) cs))
    go true rest = (le_refl n, rest)
    go false rest = rest

chosen_differ : (identical : Bool) (key : Chunk) (n : ℕ) (h : Heap) → Differ (chosen identical key n h)
chosen_differ identical key n [] = tt
chosen_differ identical key n (c ∷ cs) =
    go (is_kin key c && same_bool identical (same_arguments key.arguments c.arguments)) (chosen_differ identical key (suc n) cs)
    (each_map (λ (d : Candidate). suc n ≤ d.number) (λ (d : Candidate). d.number ≡ n → ⊥) (λ d le e. above le e) (chosen identical key (suc n) cs) (chosen_from identical key (suc n) cs))
  where
    above : {m : ℕ} → suc n ≤ m → m ≡ n → ⊥
    above le e = omega arith

    go : (b : Bool) → Differ (chosen identical key (suc n) cs) → NotAt n (chosen identical key (suc n) cs) → Differ (cond b (record { number = n; chunk = c } ∷ chosen identical key (suc n) cs) (chosen identical key (suc n) cs))
    go true rest apart = (apart, rest)
    go false rest apart = rest

-- those without identical arguments
others_not_same : (key : Chunk) (h : Heap) (n : ℕ) → Each (λ (c : Candidate). same_arguments key.arguments c.chunk.arguments ≡ false) (chosen false key n h)
others_not_same key [] n = tt
others_not_same key (c ∷ cs) n = go (is_kin key c && same_bool false (same_arguments key.arguments c.arguments)) refl (others_not_same key cs (suc n))
  where
    go : (b : Bool) → (is_kin key c && same_bool false (same_arguments key.arguments c.arguments)) ≡ b → Each (λ (d : Candidate). same_arguments key.arguments d.chunk.arguments ≡ false) (chosen false key (suc n) cs) →
        Each (λ (d : Candidate). same_arguments key.arguments d.chunk.arguments ≡ false) (cond b (record { number = n; chunk = c } ∷ chosen false key (suc n) cs) (chosen false key (suc n) cs))
    go true k rest = (sym (bool_is false _ (and_parts (is_kin key c) _ k).1), rest)
    go false k rest = rest

module _ (key : Chunk) (h : Heap) where
  not_both : (c d : Candidate) → StandsAt h c → StandsAt h d → same_arguments key.arguments c.chunk.arguments ≡ true → same_arguments key.arguments d.chunk.arguments ≡ false → d.number ≡ c.number → ⊥
  not_both c d at_c at_d alike unlike e =
      let one : Some d.chunk ≡ Some c.chunk = sym at_d ∙ ap (λ n. slice_get h n) e ∙ at_c in
      true≢false (sym alike ∙ ap (λ (x : Chunk). same_arguments key.arguments x.arguments) (sym (some_is d.chunk c.chunk one)) ∙ unlike)
    where
      some_is : (a b : Chunk) → Some a ≡ Some b → a ≡ b
      some_is a b e = cc

  all_not : (c : Candidate) (ds : List Candidate) → StandsAt h c → same_arguments key.arguments c.chunk.arguments ≡ true → Each (StandsAt h) ds → Each (λ (d : Candidate). same_arguments key.arguments d.chunk.arguments ≡ false) ds → NotAt c.number ds
  all_not c [] at_c alike at_ds unlike = tt
  all_not c (d ∷ ds) at_c alike at_ds unlike = (not_both c d at_c at_ds.0 alike unlike.0, all_not c ds at_c alike at_ds.1 unlike.1)

  joined_differ : (cs ds : List Candidate) → Differ cs → Differ ds → Each (StandsAt h) cs → Each (StandsAt h) ds → Each (λ (c : Candidate). same_arguments key.arguments c.chunk.arguments ≡ true) cs → Each (λ (d : Candidate). same_arguments key.arguments d.chunk.arguments ≡ false) ds → Differ (cs ++ ds)
  joined_differ [] ds dc dd ac ad alike unlike = dd
  joined_differ (c ∷ cs) ds dc dd ac ad alike unlike =
      (each_append (λ (d : Candidate). d.number ≡ c.number → ⊥) cs ds dc.0 (all_not c ds ac.0 alike.0 ad unlike), joined_differ cs ds dc.1 dd ac.1 ad alike.1 unlike)

  pub candidates_differ : Differ (candidates key h)
  candidates_differ = joined_differ (chosen true key 0 h) (chosen false key 0 h) (chosen_differ true key 0 h) (chosen_differ false key 0 h) (chosen_stand true key [] h 0 refl) (chosen_stand false key [] h 0 refl) (matching_same key h 0) (others_not_same key h 0)

-- the others stand where they stood once one is written
pub others_stand : (h : Heap) (n : ℕ) (x : Chunk) (cs : List Candidate) → NotAt n cs → Each (StandsAt h) cs → Each (StandsAt (slice_set h n x)) cs
others_stand h n x [] d e = tt
others_stand h n x (c ∷ cs) d e = (stands_still h n x c.number c.chunk d.0 e.0, others_stand h n x cs d.1 e.1)
