-- What stands behind a front.
use Rattle.std.proofs.Common.{◌≡◌, ℕ, ◌-◌, List, ◌++◌, length, take, drop, ◌∙◌, arith}
use Rattle.std.proofs.lemmas.List.{length-drop, take_all, take-append-le}

pub rotated : (xs : List ℕ) (n left : ℕ) → left ≡ length xs - n → take left (drop n xs ++ take n xs) ≡ drop n xs
rotated xs n left is =
    take-append-le left (drop n xs) (take n xs) (omega (arith, length-drop n xs)) ∙ take_all left (drop n xs) (omega (arith, length-drop n xs))
