-- Texts that are joined one by one.
use Rattle.std.proofs.Common.{◌≡◌, ℕ, ◌+◌, ◌<◌, List, [], ◌∷◌, ◌++◌, length, take, min, get_or, ap, refl, append_assoc, add-one, arith}
use Rattle.std.proofs.Math.Seq.{take-suc}
use Rattle.std.proofs.lemmas.Grind.{common_steps}
use Rattle.vx_ends.specs.Fakes.{joined}

joined-append : (xs ys : List (List ℕ)) → joined (xs ++ ys) ≡ joined xs ++ joined ys
joined-append [] ys = refl
joined-append (x ∷ xs) ys = rw (joined-append xs ys, append_assoc)

-- one text more
pub joined_more : (texts : List (List ℕ)) (i : ℕ) → i < length texts → joined (take (i + 1) texts) ≡ joined (take i texts) ++ get_or texts i []
joined_more texts i below =
    rw (add-one, take-suc texts i [] below, joined-append (take i texts) (get_or texts i [] ∷ [])) (grind (arith, common_steps))

-- a number beyond the end takes all
pub joined_within : (texts : List (List ℕ)) (n : ℕ) → joined (take (min n (length texts)) texts) ≡ joined (take n texts)
joined_within texts n =
    let same : take (min n (length texts)) texts ≡ take n texts = grind (arith, common_steps) in
    ap joined same
