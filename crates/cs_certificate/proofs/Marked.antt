-- Marks stand for the literals assumed.
use Rattle.std.proofs.Common.{◌≡◌, ℕ, ◌<◌, Bool, true, false, not, cond, ◌&&◌, ◌||◌, List, [], ◌∷◌, ◌++◌, refl, sym, ◌∙◌, ap, ap₂, subst, inl, inr}
use Rattle.std.specs.Prelude.{nat_eq, All}
use Rattle.std.proofs.lemmas.Option.{get_or_from_slice_get, slice_get_within}
use Rattle.std.proofs.lemmas.List.Elements.{All-get_or}
use Rattle.cs_certificate.specs.declared.literal.Literal.{Literal}
use Rattle.cs_certificate.specs.declared.literal.Left.{Left}
use Rattle.cs_certificate.specs.declared.literal.Left.TheVariants.{Nothing, One}
use Rattle.cs_certificate.specs.declared.marks.Marks.{Marks}
use Rattle.vx_terms.specs.Terms.{same_bool}
use Rattle.cs_certificate.specs.Hints.{same_literal, opposite, denied, with, left}
use Rattle.cs_certificate.specs.Marks.{is_marked, flip, AreMarked, left_by, IsBelow}
use Rattle.cs_certificate.proofs.Bridged.{one_left}

same_flip : (a b : Literal) → same_literal a (flip b) ≡ opposite a b
same_flip a b = ap (λ x. nat_eq a.number b.number && x) (signs a.positive b.positive)
  where
    signs : (x y : Bool) → same_bool x (not y) ≡ not (same_bool x y)
    signs true y = refl
    signs false y = refl

or_swap : (a b c : Bool) → a || (b || c) ≡ b || (a || c)
or_swap true true c = refl
or_swap true false c = refl
or_swap false b c = refl

denied_append : (xs : List Literal) (k l : Literal) → denied (xs ++ k ∷ []) l ≡ opposite k l || denied xs l
denied_append [] k l = refl
denied_append (x ∷ xs) k l = ap (λ b. opposite x l || b) (denied_append xs k l) ∙ or_swap (opposite x l) (opposite k l) (denied xs l)

pub marked_more : (m n : Marks) (known : List Literal) (k : Literal) → AreMarked m known → ((l : Literal) → is_marked n l ≡ same_literal k l || is_marked m l) → AreMarked n (known ++ k ∷ [])
marked_more m n known k h e l = e (flip l) ∙ ap₂ (λ x y. x || y) (same_flip k l) (h l) ∙ sym (denied_append known k l)

pub left_same : (test : Literal → Bool) (assumed : List Literal) → ((l : Literal) → test l ≡ denied assumed l) → (found : Left) (ls : List Literal) → left_by test found ls ≡ left found assumed ls
left_same test assumed h found [] = refl
left_same test assumed h found (l ∷ ls) =
    ap (λ b. left_by test (cond b found (with found l)) ls) (h l) ∙ left_same test assumed h (cond (denied assumed l) found (with found l)) ls

-- what a clause leaves, by marks and by the literals assumed
pub found_is : (m : Marks) (known items now : List Literal) (result f : Left) → AreMarked m known → items ≡ now → result ≡ left_by (λ l. is_marked m (flip l)) Nothing now → result ≡ f → left Nothing known items ≡ f
found_is m known items now result f h e r is =
    sym (left_same (λ l. is_marked m (flip l)) known h Nothing items) ∙ ap (left_by (λ l. is_marked m (flip l)) Nothing) e ∙ sym r ∙ is

-- what it leaves is one of its literals
pub within : (n : ℕ) (known items : List Literal) (k : Literal) → left Nothing known items ≡ One k → All (IsBelow n) items → k.number < n
within n known items k e all = elim (one_left Nothing known items k e).1 [
  | inl w ↦ (
      let at = w.1 in
      subst (IsBelow n) (get_or_from_slice_get items at.0 k k at.1) (All-get_or (IsBelow n) items at.0 k (slice_get_within items at.0 k at.1) all))
  | inr w ↦ absurd (let f : Nothing ≡ One k = w in cc)
]
