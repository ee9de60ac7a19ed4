-- Walks over lists, one item after another.
use Rattle.std.proofs.Common.{◌≡◌, ◌∙◌, ◌++◌, ap, ap₂, sym, ℕ, suc, ◌+◌, ◌<◌, List, [], ◌∷◌, map, length, take, drop, get_or, refl, add-one}
use Rattle.std.proofs.Math.Seq.{drop-cons}
use Rattle.std.proofs.lemmas.List.{map-append, take_more}

-- what is left, one item of it and the others
pub left : {X : Type 0} (xs : List X) (i : ℕ) (x : X) → i < length xs → x ≡ get_or xs i x → drop i xs ≡ x ∷ drop (i + 1) xs
left xs i x within is = drop-cons xs i x within ∙ ap (λ y. y ∷ drop (suc i) xs) (sym is) ∙ ap (λ k. x ∷ drop k xs) (sym (add-one i))

twice : {X Y Z : Type 0} (f : Y → Z) (g : X → Y) (xs : List X) → map f (map g xs) ≡ map (λ x. f (g x)) xs
twice f g [] = refl
twice f g (x ∷ xs) = ap (λ rest. f (g x) ∷ rest) (twice f g xs)

-- what was settled so far, and one item more
pub one_more : {X Y Z W : Type 0} (view : W → Z) (f : Y → Z) (g : X → Y) (done : List W) (w : W) (all : List X) (k : ℕ) (item : X)
    → k < length all → item ≡ get_or all k item → view w ≡ f (g item)
    → map view done ≡ map f (map g (take k all))
    → map view (done ++ w ∷ []) ≡ map f (map g (take (k + 1) all))
one_more {X = X} view f g done w all k item lt is same kept =
    let h = λ (x : X). f (g x) in
    map-append view done (w ∷ [])
    ∙ ap₂ (λ xs x. xs ++ x ∷ []) kept (same ∙ ap h is)
    ∙ ap (λ xs. xs ++ h (get_or all k item) ∷ []) (twice f g (take k all))
    ∙ sym (map-append h (take k all) (get_or all k item ∷ []))
    ∙ ap (map h) (sym (take_more all k item lt))
    ∙ sym (twice f g (take (k + 1) all))
