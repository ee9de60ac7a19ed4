-- Division without remainder, and lowest terms.
use Rattle.std.proofs.Common.{◌≡◌, ℕ, zero, suc, ◌+◌, ◌*◌, ◌<◌, ℤ, pos, negsuc, ◌*ℤ◌, ◌+ℤ◌, ◌<ℤ◌, ◌^◌, neg_ℤ, unsigned_abs, FitsSigned, Option, Some, None, SomeIff, IfSome, sym, ◌∙◌, ap, subst, arith}
use Rattle.std.specs.Int.{w128, IsGcd, ◌∣◌}
use borrow.Author.Differences.{up, down, same_in, product_is}
use Rattle.std.specs.Int.Signed.{quot_z, rem_z}
use Rattle.std.proofs.lemmas.Nat.Gcd.{mod-eq-zero_of_dvd}
use Rattle.std.proofs.lemmas.Int.{quot-rem, ints, unsigned_abs-mul}
use Rattle.std.proofs.Math.Nat.{mul-dvd-mul_right, dvd_of_mul-dvd-mul_right, eq-one_of_dvd-one, one-mul, eq-zero_of_zero-dvd}
use Rattle.vx_frac.specs.Lowest.{IsLowest}

-- no remainder
no_rest : (a d : ℤ) → unsigned_abs d ∣ unsigned_abs a → rem_z a d ≡ pos 0
no_rest (pos a) d h = ap pos (mod-eq-zero_of_dvd (unsigned_abs d) h)
no_rest (negsuc a) d h = ap (λ n. neg_ℤ (pos n)) (mod-eq-zero_of_dvd (unsigned_abs d) h)

pub exact : (a d : ℤ) → unsigned_abs d ∣ unsigned_abs a → quot_z a d *ℤ d ≡ a
exact a d h =
    let e : quot_z a d *ℤ d +ℤ rem_z a d ≡ a = quot-rem a d in
    let z : rem_z a d ≡ pos 0 = no_rest a d h in
    omega (arith, ints)

-- a product of three
pub times_assoc : (a b c : ℤ) → (a *ℤ b) *ℤ c ≡ a *ℤ (b *ℤ c)
times_assoc a b c =
    let ab = product_is a b in
    let bc = product_is b c in
    let by = λ (k : ℕ) (m n : ℕ) (e : m ≡ n). ap (λ x. x * k) e in
    let left = product_is (a *ℤ b) c in
    let right = product_is a (b *ℤ c) in
    let ups : up ((a *ℤ b) *ℤ c) ≡ up (a *ℤ (b *ℤ c)) =
    omega (arith, by (up c) _ _ ab.0, by (down c) _ _ ab.1, by (up a) _ _ bc.0, by (down a) _ _ bc.1) in
    let downs : down ((a *ℤ b) *ℤ c) ≡ down (a *ℤ (b *ℤ c)) =
    omega (arith, by (down c) _ _ ab.0, by (up c) _ _ ab.1, by (down a) _ _ bc.0, by (up a) _ _ bc.1) in
    same_in _ _ (λ i. ups i + sym downs i)

pub times_comm : (a b : ℤ) → a *ℤ b ≡ b *ℤ a
times_comm a b = omega (arith, ints)

-- equal products
pub cross : (p q g n d : ℤ) → p *ℤ g ≡ n → q *ℤ g ≡ d → p *ℤ d ≡ n *ℤ q
cross p q g n d e f =
    ap (λ x. p *ℤ x) (sym f ∙ times_comm q g) ∙ sym (times_assoc p g q) ∙ ap (λ x. x *ℤ q) e

sizes : (p n : ℤ) (g : ℕ) → p *ℤ pos g ≡ n → unsigned_abs p * g ≡ unsigned_abs n
sizes p n g e = sym (unsigned_abs-mul p (pos g)) ∙ ap unsigned_abs e

pub lowest : (p q n d : ℤ) (g : ℕ) → 0 < g → IsGcd (unsigned_abs n) (unsigned_abs d) g → p *ℤ pos g ≡ n → q *ℤ pos g ≡ d → IsLowest p q
lowest p q n d g z h e f k kp kq =
    let a : k * g ∣ unsigned_abs n = subst (λ (x : ℕ). k * g ∣ x) (sizes p n g e) (mul-dvd-mul_right k kp g) in
    let b : k * g ∣ unsigned_abs d = subst (λ (x : ℕ). k * g ∣ x) (sizes q d g f) (mul-dvd-mul_right k kq g) in
    let one : k * g ∣ 1 * g = subst (λ (x : ℕ). k * g ∣ x) (sym (one-mul g)) (h.2 (k * g) a b) in
    eq-one_of_dvd-one (dvd_of_mul-dvd-mul_right k z one)

pub positive : (q d : ℤ) (g : ℕ) → q *ℤ pos g ≡ d → pos 0 <ℤ d → pos 0 <ℤ q
positive (pos zero) d g e h = absurd (omega (arith, ints))
positive (pos (suc k)) d g e h = omega (arith, ints)
positive (negsuc k) d g e h = absurd (omega (arith, ints))

pub divisor_positive : (g b : ℕ) → 0 < b → g ∣ b → 0 < g
divisor_positive zero b z h = absurd (omega (arith, eq-zero_of_zero-dvd h))
divisor_positive (suc g) b z h = omega arith

pub size_positive : (z : ℤ) → pos 0 <ℤ z → 0 < unsigned_abs z
size_positive (pos n) h = omega (arith, ints)
size_positive (negsuc n) h = absurd (omega (arith, ints))

pub size_small : (z : ℤ) → FitsSigned w128 z → pos 0 <ℤ z → unsigned_abs z < 2 ^ 127
size_small (pos n) f h = f.sfits
size_small (negsuc n) f h = absurd (omega (arith, ints))

pub product_positive : (a b : ℤ) → pos 0 <ℤ a → pos 0 <ℤ b → pos 0 <ℤ (a *ℤ b)
product_positive (pos (suc a)) (pos (suc b)) h k = omega (arith, ints)
product_positive (pos (suc a)) (pos zero) h k = absurd (omega (arith, ints))
product_positive (pos zero) b h k = absurd (omega (arith, ints))
product_positive (negsuc a) b h k = absurd (omega (arith, ints))
product_positive (pos (suc a)) (negsuc b) h k = absurd (omega (arith, ints))

pub some_positive : (o : Option ℤ) (P : Type 0) (v : ℤ) → SomeIff o P v → pos 0 <ℤ v → IfSome o (λ x. pos 0 <ℤ x)
some_positive None P v h p = tt
some_positive (Some x) P v h p = subst (λ (y : ℤ). pos 0 <ℤ y) (sym h.1) p
