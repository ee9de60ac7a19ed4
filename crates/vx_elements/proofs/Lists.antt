-- What holds of each item of a list, and names that are found the same.
use Rattle.std.proofs.Common.{◌≡◌, true, ◌&&◌, [], ◌∷◌, List, ◌++◌, refl, ap₂, eq-eqb, eqb-true}
use Rattle.std.proofs.lemmas.Bool.{and_from, and_parts}
use Rattle.vx_ast.specs.Syntax.{Name, same_name}
use Rattle.vx_terms.specs.Interpretations.{Each}

pub each_map : {A : Type 0} (P Q : A → Type 0) → ((x : A) → P x → Q x) → (xs : List A) → Each P xs → Each Q xs
each_map P Q f [] h = tt
each_map P Q f (x ∷ xs) h = (f x h.0, each_map P Q f xs h.1)

pub each_append : {A : Type 0} (P : A → Type 0) (xs ys : List A) → Each P xs → Each P ys → Each P (xs ++ ys)
each_append P [] ys h k = k
each_append P (x ∷ xs) ys h k = (h.0, each_append P xs ys h.1 k)

pub name_is : (x y : Name) → same_name x y ≡ true → x ≡ y
name_is [] [] e = refl
name_is (a ∷ x) (b ∷ y) e = let p = and_parts _ _ e in ap₂ (λ c z. c ∷ z) (eqb-true a b p.0) (name_is x y p.1)
name_is [] (b ∷ y) e = cc
name_is (a ∷ x) [] e = cc

pub each_in : {A : Type 0} (P : A → Type 0) (front : List A) {x : A} (back : List A) → P x → Each P (front ++ back) → Each P (front ++ (x ∷ back))
each_in P [] back p h = (p, h)
each_in P (y ∷ front) back p h = (h.0, each_in P front back p h.1)

pub each_out : {A : Type 0} (P : A → Type 0) (front : List A) (x : A) (back : List A) → Each P (front ++ (x ∷ back)) → P x × Each P (front ++ back)
each_out P [] x back h = (h.0, h.1)
each_out P (y ∷ front) x back h = let r = each_out P front x back h.1 in (r.0, (h.0, r.1))

pub each_both : {A : Type 0} (P Q R : A → Type 0) → ((x : A) → P x → Q x → R x) → (xs : List A) → Each P xs → Each Q xs → Each R xs
each_both P Q R f [] h k = tt
each_both P Q R f (x ∷ xs) h k = (f x h.0 k.0, each_both P Q R f xs h.1 k.1)

pub name_same : (x : Name) → same_name x x ≡ true
name_same [] = refl
name_same (a ∷ x) = and_from _ _ (eq-eqb a a refl) (name_same x)
