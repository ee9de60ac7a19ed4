-- Lists of literals that grow.
use Rattle.std.proofs.Common.{◌≡◌, ℕ, zero, suc, ◌+◌, ◌<◌, ◌≤◌, ◌⊎◌, inl, inr, List, [], ◌∷◌, ◌++◌, length, map, get_or, take, refl, sym, ◌∙◌, subst, ap, arith, append_assoc}
use Rattle.std.specs.List.{All, Contains}
use Rattle.std.proofs.lemmas.List.{take_more, take_all}
use Rattle.std.proofs.lemmas.List.Elements.{Contains-get_or, All-push, filter-append}
use Rattle.cs_certificate.specs.declared.literal.Literal.{Literal}
use Rattle.cs_search.specs.declared.Value.{Value}
use Rattle.cs_search.specs.Assignment.{status_of}
use Rattle.cs_search.specs.Learned.{before, is_false_before}

pub contains_nothing : {X : Type 0} (x : X) → Contains [] x → ⊥
contains_nothing x (k, lt, e) = omega arith

pub contains_one : {X : Type 0} (x m : X) → Contains (x ∷ []) m → x ≡ m
contains_one x m (zero, lt, e) = e
contains_one x m (suc k, lt, e) = absurd (omega arith)

pub contains_here : {X : Type 0} (x : X) (xs : List X) → Contains (x ∷ xs) x
contains_here x xs = (0, omega arith, refl)

pub contains_there : {X : Type 0} (x : X) (xs : List X) (m : X) → Contains xs m → Contains (x ∷ xs) m
contains_there x xs m (k, lt, e) = (suc k, omega arith, e)

pub contains_split : {X : Type 0} (x : X) (xs : List X) (m : X) → Contains (x ∷ xs) m → (x ≡ m) ⊎ Contains xs m
contains_split x xs m (zero, lt, e) = inl e
contains_split x xs m (suc k, lt, e) = inr (k, omega arith, e)

pub contains_map : {X Y : Type 0} (f : X → Y) (xs : List X) (x : X) → Contains xs x → Contains (map f xs) (f x)
contains_map f [] x h = absurd (contains_nothing x h)
contains_map {Y = Y} f (y ∷ xs) x h = elim (contains_split y xs x h) [
  | inl e ↦ let P : Y → Type 0 = λ z. Contains (map f (y ∷ xs)) z in subst P (ap f e) (contains_here (f y) (map f xs))
  | inr t ↦ contains_there (f y) (map f xs) (f x) (contains_map f xs x t)
]

pub map_contains : {X Y : Type 0} (f : X → Y) (xs : List X) (y : Y) → Contains (map f xs) y → (x : X) × Contains xs x × (f x ≡ y)
map_contains f [] y h = absurd (contains_nothing y h)
map_contains f (z ∷ xs) y h = elim (contains_split (f z) (map f xs) y h) [
  | inl e ↦ (z, contains_here z xs, e)
  | inr t ↦ let w = map_contains f xs y t in (w.0, contains_there z xs w.0 w.1, w.2)
]

pub all_from : {X : Type 0} (P : X → Type 0) (xs : List X) → ((x : X) → Contains xs x → P x) → All P xs
all_from P xs h k d lt = h (get_or xs k d) (Contains-get_or xs k d lt)

pub all_more : {X : Type 0} (P : X → Type 0) (xs : List X) (k : ℕ) (d : X) → k < length xs → All P (take k xs) → P (get_or xs k d) → All P (take (k + 1) xs)
all_more {X = X} P xs k d lt h p = let Q : List X → Type 0 = λ ys. All P ys in subst Q (sym (take_more xs k d lt)) (All-push P (take k xs) (get_or xs k d) h p)

pub all_whole : {X : Type 0} (P : X → Type 0) (xs : List X) (n : ℕ) → length xs ≤ n → All P (take n xs) → All P xs
all_whole {X = X} P xs n le h = let Q : List X → Type 0 = λ ys. All P ys in subst Q (take_all n xs le) h

-- one literal more, of those that were false before k
pub before_more : (values : List Value) (k : ℕ) (met : List Literal) (i : ℕ) (d : Literal) (first old new : List Literal) → i < length met → old ≡ first ++ before values k (take i met) → new ≡ old ++ before values k (get_or met i d ∷ []) →
    new ≡ first ++ before values k (take (i + 1) met)
before_more values k met i d first old new lt all one =
    one ∙ ap (λ x. x ++ before values k (get_or met i d ∷ [])) all ∙ append_assoc first (before values k (take i met)) (before values k (get_or met i d ∷ []))
    ∙ ap (λ x. first ++ x) (sym (ap (before values k) (take_more met i d lt) ∙ filter-append (λ l. is_false_before k (status_of values l)) (take i met) (get_or met i d ∷ [])))

pub before_all : (values : List Value) (k : ℕ) (met : List Literal) (i : ℕ) (first list : List Literal) → length met ≤ i → list ≡ first ++ before values k (take i met) → list ≡ first ++ before values k met
before_all values k met i first list le all = all ∙ ap (λ x. first ++ before values k x) (take_all i met le)
