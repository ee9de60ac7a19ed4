-- Counts and sums over lanes.
use Rattle.std.specs.Prelude.{ℕ, ◌+◌, Bool, true, false, List, [], ◌∷◌, Option, Some, None}

-- how many lanes wait, by the states of all
abbrev pub count : List (Option Bool) → ℕ
count [] = 0
count (Some true ∷ states) = 1 + count states
count (Some false ∷ states) = count states
count (None ∷ states) = count states

-- the sum of a number over all parts of a list
abbrev pub total : {A : Type 0} → (A → ℕ) → List A → ℕ
total f [] = 0
total f (x ∷ xs) = f x + total f xs
