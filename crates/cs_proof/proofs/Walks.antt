-- What was found before, and what the rest gives.
use Rattle.std.proofs.Common.{◌≡◌, ℕ, zero, suc, ◌-◌, arith, List, [], ◌∷◌, ◌++◌, map, length, take, drop, Option, Some, ◌≤◌, refl, sym, ◌∙◌, ap}
use Rattle.vx_terms.specs.Terms.{Term}
use Rattle.std.proofs.lemmas.List.{length-map}
use Rattle.cs_table.specs.Views.{node, nodes}
use Rattle.cs_table.specs.declared.node.Node.{Node}
use Rattle.cs_certificate.specs.Steps.{◌>>=◌}

abbrev pub with_front : {A : Type 0} → List A → Option (List A) → Option (List A)
with_front xs o = o >>= λ ys. Some (xs ++ ys)

pub nodes_take : (n : ℕ) (all : List Node) → nodes (take n all) ≡ take n (nodes all)
nodes_take zero all = refl
nodes_take (suc n) [] = refl
nodes_take (suc n) (x ∷ xs) = ap (λ l. node x ∷ l) (nodes_take n xs)

pub as_many_nodes : (all : List Node) → length (nodes all) ≡ length all
as_many_nodes all = length-map all node

pub terms_drop : {X : Type 0} (view : X → Term) (n : ℕ) (xs : List X) → drop n (map view xs) ≡ map view (drop n xs)
terms_drop view zero xs = refl
terms_drop view (suc n) [] = refl
terms_drop view (suc n) (x ∷ xs) = terms_drop view n xs

take_whole : {X : Type 0} (n : ℕ) (xs : List X) → length xs ≤ n → take n xs ≡ xs
take_whole zero [] h = refl
take_whole zero (x ∷ xs) h = absurd (omega arith)
take_whole (suc n) [] h = refl
take_whole (suc n) (x ∷ xs) h = ap (λ l. x ∷ l) (take_whole n xs (omega arith))

drop_length : {X : Type 0} (n : ℕ) (xs : List X) → length (drop n xs) ≤ length xs - n
drop_length zero xs = omega arith
drop_length (suc n) [] = omega arith
drop_length (suc n) (x ∷ xs) = let h = drop_length n xs in omega arith

-- the terms from a number on
pub terms_from : {X : Type 0} (view : X → Term) (k n : ℕ) (xs : List X) → k ≡ n → map view (take (length xs - k) (drop k xs)) ≡ drop n (map view xs)
terms_from view k n xs e = ap (map view) (take_whole (length xs - k) (drop k xs) (drop_length k xs)) ∙ ap (λ j. map view (drop j xs)) e ∙ sym (terms_drop view n xs)
