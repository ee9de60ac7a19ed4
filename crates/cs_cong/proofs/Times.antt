-- Representatives at different times.
use Rattle.std.proofs.Common.{◌≡◌, ℕ, zero, suc, ◌≤◌, inl, inr, Bool, true, false, nat_eq, cond, List, ◌++◌, length, get_or, refl, sym, ◌∙◌, ap, subst, arith, eq-eqb, ne_eqb}
use Rattle.std.proofs.lemmas.Bool.{cases_eq, cond-true, cond-false, eqb-true}
use Rattle.std.proofs.lemmas.List.{get_or_append_left, get_or_past}
use Rattle.cs_cong.specs.declared.merges.Merge.{Merge}
use Rattle.cs_cong.specs.Merged.{nothing, across, representative}

-- what is merged stays so
pub same_later : (log : List Merge) (j x y : ℕ) → representative log j x ≡ representative log j y → (k : ℕ) → j ≤ k → representative log k x ≡ representative log k y
same_later log j x y e zero le = let z : j ≡ 0 = omega arith in let P : ℕ → Type 0 = λ n. representative log n x ≡ representative log n y in subst P z e
same_later log j x y e (suc k) le = elim (cases_eq j (suc k)) [
  | inl is ↦ let P : ℕ → Type 0 = λ n. representative log n x ≡ representative log n y in subst P is e
  | inr ne ↦
      let m = get_or log k nothing in
      ap (λ r. cond (nat_eq r (representative log k m.left)) (representative log k m.right) r) (same_later log j x y e k (omega arith))
]

-- one merge that is none
pub across_nothing : (f : ℕ → ℕ) (a : ℕ) → across nothing f a ≡ f a
across_nothing f a = go (nat_eq (f a) (f 0)) refl
  where
    go : (b : Bool) → nat_eq (f a) (f 0) ≡ b → cond b (f 0) (f a) ≡ f a
    go true e = sym (eqb-true (f a) (f 0) e)
    go false e = refl

-- after the last merge nothing changes
pub past : (log : List Merge) (j a : ℕ) → length log ≤ j → (k : ℕ) → j ≤ k → representative log k a ≡ representative log j a
past log j a h zero le = let z : 0 ≡ j = omega arith in ap (λ n. representative log n a) z
past log j a h (suc k) le = elim (cases_eq j (suc k)) [
  | inl is ↦ ap (λ n. representative log n a) (sym is)
  | inr ne ↦
      ap (λ m. across m (representative log k) a) (get_or_past log k nothing (omega arith))
      ∙ across_nothing (representative log k) a
      ∙ past log j a h k (omega arith)
]

-- further merges change nothing before
pub same_across : (m : Merge) (f g : ℕ → ℕ) (a : ℕ) → f a ≡ g a → f m.left ≡ g m.left → f m.right ≡ g m.right → across m f a ≡ across m g a
same_across m f g a e l r =
    ap (λ x. cond (nat_eq x (f m.left)) (f m.right) x) e
    ∙ ap (λ x. cond (nat_eq (g a) x) (f m.right) (g a)) l
    ∙ ap (λ x. cond (nat_eq (g a) (g m.left)) x (g a)) r

pub front : (log more : List Merge) (k a : ℕ) → k ≤ length log → representative (log ++ more) k a ≡ representative log k a
front log more zero a le = refl
front log more (suc k) a le =
    ap (λ m. across m (representative (log ++ more) k) a) (get_or_append_left log more nothing k (omega arith))
    ∙ same_across (get_or log k nothing) (representative (log ++ more) k) (representative log k) a
    (front log more k a (omega arith)) (front log more k (get_or log k nothing).left (omega arith)) (front log more k (get_or log k nothing).right (omega arith))

-- across a merge
pub crosses : (m : Merge) (f : ℕ → ℕ) (a : ℕ) → f a ≡ f m.left → across m f a ≡ f m.right
crosses m f a e = cond-true (nat_eq (f a) (f m.left)) (f m.right) (f a) (eq-eqb _ _ e)

pub keeps : (m : Merge) (f : ℕ → ℕ) (a : ℕ) → (f a ≡ f m.left → ⊥) → across m f a ≡ f a
keeps m f a n = cond-false (nat_eq (f a) (f m.left)) (f m.right) (f a) (ne_eqb _ _ n)
