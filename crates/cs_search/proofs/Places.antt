-- Rows of numbers, with one more and one fewer.
use Rattle.std.proofs.Common.{◌≡◌, ℕ, zero, suc, ◌+◌, ◌<◌, ◌≤◌, ◌⊎◌, inl, inr, Bool, true, false, List, [], ◌∷◌, ◌++◌, length, get_or, set, Some, refl, sym, ◌∙◌, subst, ap, arith, Vec}
use Rattle.std.specs.declared.alloc.Global.{Global}
use Rattle.std.specs.List.{slice_get}
use Rattle.std.proofs.lemmas.Option.{slice_get_read, slice_get_within, slice_get_past}
use Rattle.std.proofs.lemmas.List.{length-set, length-append}
use Rattle.cs_certificate.specs.declared.literal.Literal.{Literal}
use Rattle.cs_search.specs.Rows.{Rows, items_or, row, slot_of, slot, Has, IsPut, IsWithout, IsTaken}
use Rattle.cs_search.proofs.Gets.{get_set_same, get_set_other, get_push_old, get_push_new, get_push_cases}
use Rattle.cs_search.proofs.Statuses.{same_atom, literal_eq}

pub row_read : (rows : Rows) (s : ℕ) (v : Vec ℕ Global) → s < length rows → v ≡ get_or rows s v → row rows s ≡ v.items
row_read rows s v lt e = ap items_or (slice_get_read rows (length rows) s v refl lt e)

pub row_set : (rows : Rows) (s : ℕ) (v : Vec ℕ Global) → s < length rows → row (set rows s v) s ≡ v.items
row_set rows s v lt = ap items_or (get_set_same rows s v lt)

pub row_other : (rows : Rows) (at s : ℕ) (v : Vec ℕ Global) → ¬ (s ≡ at) → row (set rows at v) s ≡ row rows s
row_other rows at s v ne = ap items_or (get_set_other rows at s v ne)

pub row_grown : (rows : Rows) (v : Vec ℕ Global) → v.items ≡ [] → (s : ℕ) → row (rows ++ v ∷ []) s ≡ row rows s
row_grown [] v e zero = e
row_grown [] v e (suc s) = refl
row_grown (w ∷ rows) v e zero = refl
row_grown (w ∷ rows) v e (suc s) = row_grown rows v e s

pub row_past : (rows : Rows) (s : ℕ) → length rows ≤ s → row rows s ≡ []
row_past rows s le = ap items_or (slice_get_past rows s le)

pub row_there : (rows : Rows) (s k : ℕ) → k < length (row rows s) → s < length rows
row_there [] s k lt = absurd (omega arith)
row_there (v ∷ rows) zero k lt = omega arith
row_there (v ∷ rows) (suc s) k lt = let h = row_there rows s k lt in omega arith

pub put_in : (rows : Rows) (at n : ℕ) (old new : Vec ℕ Global) → at < length rows → old ≡ get_or rows at old → new.items ≡ old.items ++ n ∷ [] → IsPut rows (set rows at new) at n
put_in rows at n old new lt is e = record {
  here = row_set rows at new lt ∙ e ∙ ap (λ xs. xs ++ n ∷ []) (sym (row_read rows at old lt is));
  others = λ s ne. row_other rows at s new ne;
}

pub put_grown : (rows mid new : Rows) (at n : ℕ) → ((s : ℕ) → row mid s ≡ row rows s) → IsPut mid new at n → IsPut rows new at n
put_grown rows mid new at n same put = record {
  here = put.here ∙ ap (λ xs. xs ++ n ∷ []) (same at);
  others = λ s ne. put.others s ne ∙ same s;
}

-- rows of literals
slot_parts : (a b : Bool) (m n : ℕ) → slot_of a m ≡ slot_of b n → (a ≡ b) × (m ≡ n)
slot_parts true true m n e = (refl, omega arith)
slot_parts true false m n e = absurd (omega arith)
slot_parts false true m n e = absurd (omega arith)
slot_parts false false m n e = (refl, omega arith)

pub slot_same : (l m : Literal) → slot l ≡ slot m → l ≡ m
slot_same l m e = let w = slot_parts l.positive m.positive l.number m.number e in literal_eq l m w.0 w.1

bool_same : (a b : Bool) → (a ≡ b) ⊎ ¬ (a ≡ b)
bool_same true true = inl refl
bool_same true false = inr (λ e. cc)
bool_same false true = inr (λ e. cc)
bool_same false false = inl refl

pub literal_same : (l m : Literal) → (l ≡ m) ⊎ ¬ (l ≡ m)
literal_same l m = elim (same_atom l.number m.number) [
  | inl n ↦ elim (bool_same l.positive m.positive) [ inl b ↦ inl (literal_eq l m b n) | inr ne ↦ inr (λ e. ne (ap (λ x. x.positive) e)) ]
  | inr ne ↦ inr (λ e. ne (ap (λ x. x.number) e))
]

-- what a row has
pub has_push : (xs : List ℕ) (n i : ℕ) → Has xs i → Has (xs ++ n ∷ []) i
has_push xs n i (j, e) = (j, get_push_old xs j n i e)

pub has_new : (xs : List ℕ) (n : ℕ) → Has (xs ++ n ∷ []) n
has_new xs n = (length xs, get_push_new xs n)

pub has_over : (xs ys : List ℕ) (i : ℕ) → ys ≡ xs → Has xs i → Has ys i
has_over xs ys i e h = let P : List ℕ → Type 0 = λ x. Has x i in subst P (sym e) h

pub put_kept : (old new : Rows) (at n s i : ℕ) → IsPut old new at n → Has (row old s) i → Has (row new s) i
put_kept old new at n s i h has = elim (same_atom s at) [
  | inl e ↦ has_over (row old s ++ n ∷ []) (row new s) i (ap (row new) e ∙ h.here ∙ ap (λ x. row old x ++ n ∷ []) (sym e)) (has_push (row old s) n i has)
  | inr ne ↦ has_over (row old s) (row new s) i (h.others s ne) has
]

pub put_only : (old new : Rows) (at n s i : ℕ) → IsPut old new at n → Has (row new s) i → (i ≡ n) ⊎ Has (row old s) i
put_only old new at n s i h (j, is) = elim (same_atom s at) [
  | inl e ↦
      let t : row new s ≡ row old s ++ n ∷ [] = ap (row new) e ∙ h.here ∙ ap (λ x. row old x ++ n ∷ []) (sym e) in
      elim (get_push_cases (row old s) j n i (ap (λ xs. slice_get xs j) (sym t) ∙ is)) [ inl o ↦ inr (j, o) | inr w ↦ inl w.1 ]
  | inr ne ↦ inr (j, ap (λ xs. slice_get xs j) (sym (h.others s ne)) ∙ is)
]

pub put_has : (old new : Rows) (at n : ℕ) → IsPut old new at n → Has (row new at) n
put_has old new at n h = has_over (row old at ++ n ∷ []) (row new at) n h.here (has_new (row old at) n)

-- one number fewer
pub without_last : (front old new : List ℕ) (k last : ℕ) → old ≡ front ++ last ∷ [] → new ≡ set front k last → k < length old → IsWithout old new k
without_last front old new k last eo en lt =
    let room : length old ≡ length front + 1 = ap (λ x. length x) eo ∙ length-append front (last ∷ []) in
    let there : (j i : ℕ) → slice_get old j ≡ Some i → slice_get (front ++ last ∷ []) j ≡ Some i = λ j i e. ap (λ x. slice_get x j) (sym eo) ∙ e in
    let other : (j i : ℕ) → ¬ (j ≡ k) → slice_get front j ≡ Some i → slice_get new j ≡ Some i = λ j i ne e. ap (λ x. slice_get x j) en ∙ get_set_other front k j last ne ∙ e in
    record {
      count = ap (λ n. n + 1) (ap (λ x. length x) en ∙ length-set front k last) ∙ sym room;
      only = λ i (j, e).
          let e' : slice_get (set front k last) j ≡ Some i = ap (λ x. slice_get x j) (sym en) ∙ e in
          let whole : (m : ℕ) → slice_get (front ++ last ∷ []) m ≡ Some i → Has old i = λ m f. (m, ap (λ x. slice_get x m) eo ∙ f) in
          elim (same_atom j k) [
            | inl same ↦
                let in' : k < length front = (let w = slice_get_within (set front k last) j i e' in omega (arith, w, length-set front k last, same)) in
                let t : Some last ≡ Some i = sym (get_set_same front k last in') ∙ ap (slice_get (set front k last)) (sym same) ∙ e' in
                whole (length front) (get_push_new front last ∙ t)
            | inr ne ↦ whole j (get_push_old front j last i (sym (get_set_other front k j last ne) ∙ e'))
          ];
      before = λ j i h e. elim (get_push_cases front j last i (there j i e)) [
        | inl f ↦ other j i (λ q. (let a : j < k = h in let b : j ≡ k = q in omega arith)) f
        | inr w ↦ absurd (let a : j < k = h in let b : j ≡ length front = w.0 in omega arith)
      ];
      behind = λ i (j, le, e). elim (get_push_cases front j last i (there j i e)) [
        | inl f ↦ (j, (let a : k + 1 ≤ j = le in omega arith), other j i (λ q. (let a : k + 1 ≤ j = le in let b : j ≡ k = q in omega arith)) f)
        | inr w ↦ (
          k,
          omega arith,
          ap (λ x. slice_get x k) en ∙ get_set_same front k last (let a : k + 1 ≤ j = le in let b : j ≡ length front = w.0 in omega arith) ∙ ap (λ x. Some x) (sym w.1),
        )
      ];
    }

pub taken_in : (rows : Rows) (at k : ℕ) (old new : Vec ℕ Global) → at < length rows → old ≡ get_or rows at old → IsWithout old.items new.items k → IsTaken rows (set rows at new) at k
taken_in rows at k old new lt is w =
    let P : List ℕ → Type 0 = λ xs. IsWithout xs new.items k in
    let Q : List ℕ → Type 0 = λ xs. IsWithout (row rows at) xs k in
    record {
      here = subst Q (sym (row_set rows at new lt)) (subst P (sym (row_read rows at old lt is)) w);
      others = λ s ne. row_other rows at s new ne;
    }
