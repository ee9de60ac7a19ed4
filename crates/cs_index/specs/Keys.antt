-- Keys that are made of others: any numbers would do that depend on these alone. What is added and multiplied wraps at 2 ^ 64.
use Rattle.std.specs.Prelude.{ℕ, ◌+◌, ◌*◌, ◌%◌, ◌^◌, List, [], ◌∷◌}

abbrev wrapped : ℕ → ℕ
wrapped n = n % 2 ^ 64

-- x (2x + 1)
abbrev spread : ℕ → ℕ
spread x = wrapped (x * wrapped (wrapped (x * 2) + 1))

unfoldable pub mixed : ℕ → ℕ → ℕ
mixed a b = spread (wrapped (wrapped (a * 11400714819323198485) + b))

abbrev pub mixed_all : ℕ → List ℕ → ℕ
mixed_all key [] = key
mixed_all key (n ∷ ns) = mixed_all (mixed key n) ns
