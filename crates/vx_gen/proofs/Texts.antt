-- The generated text is UTF-8, and short enough.
use Rattle.std.proofs.Common.{◌≡◌, ℕ, zero, suc, ◌+◌, ◌*◌, ◌≤◌, ◌%◌, List, [], ◌∷◌, ◌++◌, length, Bool, true, ltb, ◌&&◌, refl, arith, length-append}
use Rattle.std.specs.Prelude.{codes}
use Rattle.std.specs.Fmt.{decimal}
use Rattle.std.specs.Str.{IsUtf8, IsAscii}
use Rattle.std.proofs.lemmas.Bool.{ltb-true, and_parts}
use Rattle.std.proofs.lemmas.Str.{IsAscii-append, IsUtf8-from_ascii}
use Rattle.std.proofs.lemmas.Str.Ascii.{IsAscii-nil, IsAscii-cons}
use Rattle.vx_gen.specs.Generated as text
use Rattle.vx_gen.specs.Generated.{generated, first_lines, method_lines}
use Rattle.vx_gen.proofs.Numbers.{four_digits, decimal_ascii}
use Rattle.vx_gen.proofs.Scanned.{list_middle, list_back, tree_middle, tree_back, account_middle, account_back, account_end}

-- ---- UTF-8

are_small : List ℕ → Bool
are_small [] = true
are_small (b ∷ bs) = ltb b 128 && are_small bs

plain : (bs : List ℕ) → are_small bs ≡ true → IsAscii bs
unfolding are_small
plain [] e = IsAscii-nil
plain (b ∷ bs) e = let p = and_parts (ltb b 128) (are_small bs) e in IsAscii-cons b bs (ltb-true b 128 p.0) (plain bs p.1)

joined_ascii : (x d m b : List ℕ) → IsAscii x → IsAscii d → IsAscii m → IsAscii b → IsAscii (x ++ d ++ m ++ d ++ b)
joined_ascii x d m b h i j k = IsAscii-append (x ++ d ++ m ++ d) b (IsAscii-append (x ++ d ++ m) d (IsAscii-append (x ++ d) m (IsAscii-append x d h i) j) i) k

method_ascii : (k i : ℕ) → i ≤ 2000 → IsAscii (text.method_by k i)
unfolding are_small
method_ascii zero i le =
    joined_ascii (codes "method list") (decimal i) list_middle list_back (plain (codes "method list") refl) (decimal_ascii i le) (plain list_middle refl) (plain list_back refl)
method_ascii (suc zero) i le =
    let d = decimal_ascii i le in
    IsAscii-append (text.account_contract i) (text.account_body i)
    (IsAscii-append (codes "method account" ++ decimal i ++ account_middle) (decimal i)
    (IsAscii-append (codes "method account" ++ decimal i) account_middle (IsAscii-append (codes "method account") (decimal i) (plain (codes "method account") refl) d) (plain account_middle refl)) d)
    (IsAscii-append (account_back ++ decimal i) account_end (IsAscii-append account_back (decimal i) (plain account_back refl) d) (plain account_end refl))
method_ascii (suc (suc k)) i le =
    joined_ascii (codes "method tree") (decimal i) tree_middle tree_back (plain (codes "method tree") refl) (decimal_ascii i le) (plain tree_middle refl) (plain tree_back refl)

methods_ascii : (n : ℕ) → n ≤ 2000 → IsAscii (method_lines n)
methods_ascii zero le = IsAscii-nil
methods_ascii (suc n) le = IsAscii-append (method_lines n) (text.method_line n) (methods_ascii n (omega (arith, le))) (method_ascii (n % 3) n (omega (arith, le)))

pub generated_utf8 : (n : ℕ) → n ≤ 2000 → IsUtf8 (generated n)
unfolding are_small
generated_utf8 n le = IsUtf8-from_ascii (generated n) (IsAscii-append first_lines (method_lines n) (plain first_lines refl) (methods_ascii n le))

-- ---- lengths

joined_length : (x d m b : List ℕ) → length d ≤ 4 → length x + length m + length b ≤ 150 → length (x ++ d ++ m ++ d ++ b) ≤ 200
joined_length x d m b h k =
    let p = length-append (x ++ d ++ m ++ d) b in
    let q = length-append (x ++ d ++ m) d in
    let r = length-append (x ++ d) m in
    let s = length-append x d in
    omega (arith, h, k, p, q, r, s)

account_length : (x d m c e : List ℕ) → length d ≤ 4 → length x + length m + length c + length e ≤ 180 → length ((x ++ d ++ m ++ d) ++ (c ++ d ++ e)) ≤ 200
account_length x d m c e h k =
    let o = length-append (x ++ d ++ m ++ d) (c ++ d ++ e) in
    let p = length-append (c ++ d) e in
    let q = length-append (x ++ d ++ m) d in
    let r = length-append (x ++ d) m in
    let s = length-append x d in
    let t = length-append c d in
    omega (arith, h, k, o, p, q, r, s, t)

method_length : (k i : ℕ) → i ≤ 2000 → length (text.method_by k i) ≤ 200
method_length zero i le = joined_length (codes "method list") (decimal i) list_middle list_back (four_digits i le) (omega arith)
method_length (suc zero) i le = account_length (codes "method account") (decimal i) account_middle account_back account_end (four_digits i le) (omega arith)
method_length (suc (suc k)) i le = joined_length (codes "method tree") (decimal i) tree_middle tree_back (four_digits i le) (omega arith)

methods_length : (n : ℕ) → n ≤ 2000 → length (method_lines n) ≤ 200 * n
methods_length zero le = omega arith
methods_length (suc n) le =
    let a = length-append (method_lines n) (text.method_line n) in
    let b = methods_length n (omega (arith, le)) in
    let c = method_length (n % 3) n (omega (arith, le)) in
    omega (arith, a, b, c)

pub generated_length : (n : ℕ) → n ≤ 2000 → length (generated n) ≤ 4194304
generated_length n le =
    let a = length-append first_lines (method_lines n) in
    let b = methods_length n le in
    let c : length first_lines ≤ 400 = omega arith in
    omega (arith, a, b, c, le)
