-- Terms with a part in the class of a representative, as classes are made one.
use Rattle.std.proofs.Common.{◌≡◌, ℕ, ◌<◌, ◌≤◌, ◌+◌, inl, inr, Bool, true, false, nat_eq, cond, ◌&&◌, ◌||◌, List, [], ◌∷◌, ◌++◌, length, take, get_or, slice_get, Option, Some, None, refl, sym, ◌∙◌, ap, ap₂, arith, eq-eqb, ne_eqb}
use Rattle.std.specs.List.{list_any}
use Rattle.std.proofs.lemmas.Bool.{cases_eq, cases_lt, eqb-true, and_parts, or_parts}
use Rattle.std.proofs.lemmas.List.{length-take-le, take_all, take_more}
use Rattle.std.proofs.lemmas.List.Folds.{list_any-append}
use Rattle.std.proofs.lemmas.Option.{slice_get_past}
use Rattle.cs_index.specs.Keys.{mixed}
use Rattle.cs_cong.specs.declared.congruent.Applied.{Applied}
use Rattle.cs_cong.specs.Joined.{all_same, alike}
use Rattle.cs_cong.specs.Rows.{Rows, row, IsWritten}
use Rattle.cs_cong.specs.Signatures.{has, with_parts}
use Rattle.cs_cong.specs.Used.{is_any, touches, IsUsed}
use Rattle.cs_cong.proofs.Signatures.{key_of}
use Rattle.cs_cong.proofs.Stages.{get_front, get_last, get_past}

or_false : (p : Bool) → (p || false) ≡ p
or_false true = refl
or_false false = refl

pub any_weaker : (p q : ℕ → Bool) → ((x : ℕ) → p x ≡ true → q x ≡ true) → (xs : List ℕ) → list_any p xs ≡ true → list_any q xs ≡ true
any_weaker p q f [] e = absurd (let g : false ≡ true = e in cc)
any_weaker p q f (x ∷ xs) e = go (p x) refl e (any_weaker p q f xs)
  where
    top : (b : Bool) → (b || true) ≡ true
    top true = refl
    top false = refl

    go : (b : Bool) → p x ≡ b → (b || list_any p xs) ≡ true → (list_any p xs ≡ true → list_any q xs ≡ true) → (q x || list_any q xs) ≡ true
    go true h g on = ap (λ b. b || list_any q xs) (f x h)
    go false h g on = ap (λ b. q x || b) (on g) ∙ top (q x)

any_same : (p q : ℕ → Bool) → ((x : ℕ) → p x ≡ q x) → (xs : List ℕ) → list_any p xs ≡ list_any q xs
any_same p q e [] = refl
any_same p q e (x ∷ xs) = ap₂ (λ a b. a || b) (e x) (any_same p q e xs)

any_none : (p : ℕ → Bool) → ((x : ℕ) → p x ≡ false) → (xs : List ℕ) → list_any p xs ≡ false
any_none p e [] = refl
any_none p e (x ∷ xs) = ap₂ (λ a b. a || b) (e x) (any_none p e xs)

shuffled : (a b c d : Bool) → ((a || b) || (c || d)) ≡ ((a || c) || (b || d))
shuffled true b c d = refl
shuffled false true true d = refl
shuffled false true false d = refl
shuffled false false true d = refl
shuffled false false false d = refl

any_two : (p q r : ℕ → Bool) → ((x : ℕ) → p x ≡ (q x || r x)) → (xs : List ℕ) → list_any p xs ≡ (list_any q xs || list_any r xs)
any_two p q r e [] = refl
any_two p q r e (x ∷ xs) = ap₂ (λ a b. a || b) (e x) (any_two p q r e xs) ∙ shuffled (q x) (r x) (list_any q xs) (list_any r xs)

-- congruent terms have parts in the same classes
same_any : (f : ℕ → ℕ) (r : ℕ) (xs ys : List ℕ) → all_same f xs ys ≡ true → is_any f xs r ≡ is_any f ys r
same_any f r [] [] h = refl
same_any f r [] (y ∷ ys) h = absurd (let g : false ≡ true = h in cc)
same_any f r (x ∷ xs) [] h = absurd (let g : false ≡ true = h in cc)
same_any f r (x ∷ xs) (y ∷ ys) h =
    let p = and_parts (nat_eq (f x) (f y)) (all_same f xs ys) h in
    ap₂ (λ a b. nat_eq a r || b) (eqb-true _ _ p.0) (same_any f r xs ys p.1)

pub same_touches : (f : ℕ → ℕ) (r : ℕ) (s t : Option Applied) → alike f s t ≡ true → touches f s r ≡ touches f t r
same_touches f r (Some s) (Some t) h = same_any f r s.parts.items t.parts.items (and_parts (nat_eq s.head t.head) (all_same f s.parts.items t.parts.items) h).1
same_touches f r None t h = absurd (let g : false ≡ true = h in cc)
same_touches f r (Some s) None h = absurd (let g : false ≡ true = h in cc)

-- a class has the representative `to` in place of `from`
module _ (f g : ℕ → ℕ) (from to : ℕ) (apart : from ≡ to → ⊥) (moved : (p : ℕ) → g p ≡ cond (nat_eq (f p) from) to (f p)) where
  stays : (p : ℕ) → nat_eq (f p) from ≡ false → g p ≡ f p
  stays p e = moved p ∙ ap (λ b. cond b to (f p)) e

  goes : (p : ℕ) → nat_eq (f p) from ≡ true → g p ≡ to
  goes p e = moved p ∙ ap (λ b. cond b to (f p)) e

  pub still_one : (a b : ℕ) → f a ≡ f b → g a ≡ g b
  still_one a b e = moved a ∙ ap (λ x. cond (nat_eq x from) to x) e ∙ sym (moved b)

  -- what has no part there keeps its signature
  parts_kept : (xs ys : List ℕ) → is_any f xs from ≡ false → is_any f ys from ≡ false → all_same g xs ys ≡ all_same f xs ys
  parts_kept [] [] h i = refl
  parts_kept [] (y ∷ ys) h i = refl
  parts_kept (x ∷ xs) [] h i = refl
  parts_kept (x ∷ xs) (y ∷ ys) h i =
      let p = or_parts (nat_eq (f x) from) (is_any f xs from) h in
      let q = or_parts (nat_eq (f y) from) (is_any f ys from) i in
      ap (λ b. nat_eq (g x) (g y) && b) (parts_kept xs ys p.1 q.1) ∙ ap₂ (λ m n. nat_eq m n && all_same f xs ys) (stays x p.0) (stays y q.0)

  pub alike_kept : (s t : Option Applied) → touches f s from ≡ false → touches f t from ≡ false → alike g s t ≡ alike f s t
  alike_kept (Some s) (Some t) h i = ap (λ b. nat_eq s.head t.head && b) (parts_kept s.parts.items t.parts.items h i)
  alike_kept None t h i = refl
  alike_kept (Some s) None h i = refl

  key_parts : (key : ℕ) (xs : List ℕ) → is_any f xs from ≡ false → with_parts key g xs ≡ with_parts key f xs
  key_parts key [] h = refl
  key_parts key (x ∷ xs) h =
      let p = or_parts (nat_eq (f x) from) (is_any f xs from) h in
      key_parts (mixed key (g x)) xs p.1 ∙ ap (λ n. with_parts (mixed key n) f xs) (stays x p.0)

  pub key_kept : (o : Option Applied) → touches f o from ≡ false → key_of g o ≡ key_of f o
  key_kept (Some t) h = key_parts t.head t.parts.items h
  key_kept None h = refl

  one_to : (p : ℕ) → nat_eq (g p) to ≡ (nat_eq (f p) to || nat_eq (f p) from)
  one_to p = go (nat_eq (f p) from) refl
    where
      top : (b : Bool) → (b || true) ≡ true
      top true = refl
      top false = refl

      go : (b : Bool) → nat_eq (f p) from ≡ b → nat_eq (g p) to ≡ (nat_eq (f p) to || nat_eq (f p) from)
      go true e = eq-eqb _ _ (goes p e) ∙ sym (ap (λ b. nat_eq (f p) to || b) e ∙ top (nat_eq (f p) to))
      go false e = ap (λ n. nat_eq n to) (stays p e) ∙ sym (ap (λ b. nat_eq (f p) to || b) e ∙ or_false (nat_eq (f p) to))

  one_from : (p : ℕ) → nat_eq (g p) from ≡ false
  one_from p = go (nat_eq (f p) from) refl
    where
      go : (b : Bool) → nat_eq (f p) from ≡ b → nat_eq (g p) from ≡ false
      go true e = ne_eqb _ _ (λ h. apart (sym h ∙ goes p e))
      go false e = ap (λ n. nat_eq n from) (stays p e) ∙ e

  one_other : (r : ℕ) → (r ≡ from → ⊥) → (r ≡ to → ⊥) → (p : ℕ) → nat_eq (g p) r ≡ nat_eq (f p) r
  one_other r n m p = go (nat_eq (f p) from) refl
    where
      go : (b : Bool) → nat_eq (f p) from ≡ b → nat_eq (g p) r ≡ nat_eq (f p) r
      go true e = ne_eqb _ _ (λ h. m (sym h ∙ goes p e)) ∙ sym (ne_eqb _ _ (λ h. n (sym h ∙ eqb-true _ _ e)))
      go false e = ap (λ x. nat_eq x r) (stays p e)

  touch_to : (o : Option Applied) → touches g o to ≡ (touches f o to || touches f o from)
  touch_to (Some t) = any_two (λ p. nat_eq (g p) to) (λ p. nat_eq (f p) to) (λ p. nat_eq (f p) from) one_to t.parts.items
  touch_to None = refl

  touch_from : (o : Option Applied) → touches g o from ≡ false
  touch_from (Some t) = any_none (λ p. nat_eq (g p) from) one_from t.parts.items
  touch_from None = refl

  touch_other : (r : ℕ) → (r ≡ from → ⊥) → (r ≡ to → ⊥) → (o : Option Applied) → touches g o r ≡ touches f o r
  touch_other r n m (Some t) = any_same (λ p. nat_eq (g p) r) (λ p. nat_eq (f p) r) (one_other r n m) t.parts.items
  touch_other r n m None = refl

  pub used_moved : (terms : List Applied) (old new : Rows) → IsUsed terms f old → row new from ≡ [] → row new to ≡ row old to ++ row old from →
      ((r : ℕ) → ¬ (r ≡ from) → ¬ (r ≡ to) → row new r ≡ row old r) → IsUsed terms g new
  used_moved terms old new used emptied joined others r a = elim (cases_eq r from) [
    | inl e ↦ ap (λ x. has (row new x) a) e ∙ ap (λ l. has l a) emptied ∙ sym (ap (touches g (slice_get terms a)) e ∙ touch_from (slice_get terms a))
    | inr n ↦ elim (cases_eq r to) [
      | inl e ↦
          ap (λ x. has (row new x) a) e ∙ ap (λ l. has l a) joined ∙ list_any-append (nat_eq a) (row old to) (row old from)
          ∙ ap₂ (λ p q. p || q) (used to a) (used from a)
          ∙ sym (ap (touches g (slice_get terms a)) e ∙ touch_to (slice_get terms a))
      | inr m ↦ ap (λ l. has l a) (others r n m) ∙ used r a ∙ sym (touch_other r n m (slice_get terms a))
    ]
  ]

-- ---- the terms under the representatives of their parts
or_with : (x n y : Bool) → ((x || (n && y)) || (n || false)) ≡ (x || (n && (y || (true || false))))
or_with true n y = refl
or_with false true true = refl
or_with false true false = refl
or_with false false y = refl

-- one part more
pub used_part : (f : ℕ → ℕ) (old mid new : Rows) (parts : List ℕ) (i number at : ℕ) → i < length parts → at ≡ f (get_or parts i 0) → IsWritten mid new at (row mid at ++ number ∷ []) →
    ((r a : ℕ) → has (row mid r) a ≡ (has (row old r) a || (nat_eq a number && is_any f (take i parts) r))) →
    (r a : ℕ) → has (row new r) a ≡ (has (row old r) a || (nat_eq a number && is_any f (take (i + 1) parts) r))
used_part f old mid new parts i number at lt is w all r a = elim (cases_eq r at) [
  | inl e ↦
      ap (λ k. has (row new k) a) e ∙ ap (λ l. has l a) w.here ∙ list_any-append (nat_eq a) (row mid at) (number ∷ [])
      ∙ ap (λ k. has (row mid k) a || (nat_eq a number || false)) (sym e)
      ∙ ap (λ x. x || (nat_eq a number || false)) (all r a)
      ∙ or_with (has (row old r) a) (nat_eq a number) (is_any f (take i parts) r)
      ∙ ap (λ b. has (row old r) a || (nat_eq a number && (is_any f (take i parts) r || (b || false)))) (sym (eq-eqb _ _ (sym (e ∙ is))))
      ∙ ap (λ b. has (row old r) a || (nat_eq a number && b)) (sym (one r))
  | inr n ↦
      ap (λ l. has l a) (w.others r n) ∙ all r a
      ∙ ap (λ b. has (row old r) a || (nat_eq a number && b)) (sym (or_false (is_any f (take i parts) r)))
      ∙ ap (λ b. has (row old r) a || (nat_eq a number && (is_any f (take i parts) r || (b || false)))) (sym (ne_eqb _ _ (λ h. n (sym (is ∙ h)))))
      ∙ ap (λ b. has (row old r) a || (nat_eq a number && b)) (sym (one r))
]
  where
    one : (r : ℕ) → is_any f (take (i + 1) parts) r ≡ (is_any f (take i parts) r || (nat_eq (f (get_or parts i 0)) r || false))
    one r = ap (λ xs. is_any f xs r) (take_more parts i 0 lt) ∙ list_any-append (λ p. nat_eq (f p) r) (take i parts) (get_or parts i 0 ∷ [])

pub used_parts : (f : ℕ → ℕ) (old new : Rows) (parts : List ℕ) (i number : ℕ) → length parts ≤ i →
    ((r a : ℕ) → has (row new r) a ≡ (has (row old r) a || (nat_eq a number && is_any f (take i parts) r))) →
    (r a : ℕ) → has (row new r) a ≡ (has (row old r) a || (nat_eq a number && is_any f parts r))
used_parts f old new parts i number le all r a = all r a ∙ ap (λ xs. has (row old r) a || (nat_eq a number && is_any f xs r)) (take_all i parts le)

-- one term more
pub used_term : (terms : List Applied) (f : ℕ → ℕ) (old new : Rows) (at : ℕ) (d : Applied) (ps : List ℕ) → at < length terms → ps ≡ (get_or terms at d).parts.items →
    IsUsed (take at terms) f old → ((r a : ℕ) → has (row new r) a ≡ (has (row old r) a || (nat_eq a at && is_any f ps r))) → IsUsed (take (at + 1) terms) f new
used_term terms f old new at d ps lt same all more r a =
    more r a ∙ ap₂ (λ b xs. b || (nat_eq a at && is_any f xs r)) (all r a) same
    ∙ elim (cases_eq a at) [
      | inl e ↦
          ap₂ (λ o b. touches f o r || (b && is_any f (get_or terms at d).parts.items r)) (slice_get_past (take at terms) a (omega (arith, long))) (eq-eqb _ _ e)
          ∙ sym (ap (λ o. touches f o r) (ap (slice_get (take (at + 1) terms)) (e ∙ sym long) ∙ ap (λ ts. slice_get ts (length (take at terms))) one ∙ get_last (take at terms) (get_or terms at d)))
      | inr n ↦
          ap (λ b. touches f (slice_get (take at terms) a) r || (b && is_any f (get_or terms at d).parts.items r)) (ne_eqb _ _ n) ∙ or_false _
          ∙ ap (λ o. touches f o r) (elim (cases_lt a (length (take at terms))) [
            | inl below ↦ sym (get_front (take at terms) (get_or terms at d ∷ []) a below)
            | inr past ↦ slice_get_past (take at terms) a past ∙ sym (get_past (take at terms) (get_or terms at d) a (omega (arith, long)))
          ])
          ∙ sym (ap (λ ts. touches f (slice_get ts a) r) one)
    ]
  where
    long : length (take at terms) ≡ at
    long = length-take-le at terms (omega arith)

    one : take (at + 1) terms ≡ take at terms ++ get_or terms at d ∷ []
    one = take_more terms at d lt

pub used_terms : (terms : List Applied) (f : ℕ → ℕ) (uses : Rows) (at : ℕ) → length terms ≤ at → IsUsed (take at terms) f uses → IsUsed terms f uses
used_terms terms f uses at le all r a = all r a ∙ ap (λ ts. touches f (slice_get ts a) r) (take_all at terms le)
