-- Digits and their value, and where a comment ends.
use Rattle.std.proofs.Common.{◌≡◌, ℕ, suc, ◌+◌, ◌-◌, ◌*◌, ◌/◌, ◌≤◌, ◌<◌, List, [], ◌∷◌, Bool, true, false, cond, take, drop, length, get_or, refl, sym, ap, ◌∙◌, arith, drop-cons}
use Rattle.std.specs.List.{prefix_len}
use Rattle.std.proofs.lemmas.List.Sums.{prefix_len-le-length}
use Rattle.vx_tokens.specs.Text.{AreAll, value_from, max_numeral}

all_by : (test : ℕ → Bool) (b : ℕ) (bs : List ℕ) (t : Bool) → test b ≡ t → AreAll test (take (prefix_len test bs) bs) → AreAll test (take (cond t (1 + prefix_len test bs) 0) (b ∷ bs))
all_by test b bs true e h = let s : 1 + prefix_len test bs ≡ suc (prefix_len test bs) = omega arith in rw s (e, h)
all_by test b bs false e h = tt

pub all_in_front : (test : ℕ → Bool) (bs : List ℕ) → AreAll test (take (prefix_len test bs) bs)
all_in_front test [] = tt
all_in_front test (b ∷ bs) = all_by test b bs (test b) refl (all_in_front test bs)

-- a value only grows
pub value_grows : (n : ℕ) (ds : List ℕ) → n ≤ value_from n ds
value_grows n [] = omega arith
value_grows n (d ∷ ds) = let h = value_grows (10 * n + (d - 48)) ds in omega (arith, h)

-- one more digit passes the limit
pub too_wide : (n i : ℕ) (ds : List ℕ) (total : ℕ) → i < length ds → (max_numeral - (get_or ds i 0 - 48)) / 10 < n → n ≤ max_numeral → value_from n (drop i ds) ≡ total → max_numeral < total
too_wide n i ds total lt h le e =
    let cut : drop i ds ≡ get_or ds i 0 ∷ drop (suc i) ds = drop-cons ds i 0 lt in
    let d = get_or ds i 0 - 48 in
    let more : 10 * n + d ≤ value_from (10 * n + d) (drop (suc i) ds) = value_grows (10 * n + d) (drop (suc i) ds) in
    let same : value_from (10 * n + d) (drop (suc i) ds) ≡ total = ap (value_from n) (sym cut) ∙ e in
    omega (arith, more, same, h)

pub prefix_fits : (test : ℕ → Bool) (bs : List ℕ) → prefix_len test bs ≤ length bs
prefix_fits test bs = prefix_len-le-length test bs
