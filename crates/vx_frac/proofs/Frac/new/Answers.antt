use Rattle.std.proofs.Common.{◌≡◌, ℕ, ◌<◌, ◌^◌, ℤ, pos, ◌*ℤ◌, ◌<ℤ◌, unsigned_abs, FitsSigned, to_z, of_z, sym, subst, ap, ap₂, arith, ◌∙◌, lt_of_le_of_lt}
use Rattle.std.specs.Int.{w128, IsGcd, ◌∣◌}
use Rattle.std.proofs.lemmas.Int.{to_z_pos, to_z-of_z, ints}
use Rattle.std.proofs.lemmas.Nat.Gcd.{le_of_dvd}
use Rattle.vx_frac.specs.Lowest.{IsLowest}
use Rattle.vx_frac.proofs.Divides.{cross, lowest, positive, divisor_positive, size_positive, size_small}
use Rattle.vx_frac.proofs.Reduced.{is_lowest}
use Rattle.vx_frac.specs.Fraction.{ratio}
use Rattle.vx_frac.specs.Fractions.{whole, lowest as lowest_of}
use Rattle.vx_frac.proofs.Whole.{lowest_whole}
use Rattle.vx_frac.proofs.Frac.new.Goals as goal

common : (num den : ℤ) (a b g : ℕ) → FitsSigned w128 num → FitsSigned w128 den → a ≡ unsigned_abs (to_z w128 (of_z w128 num)) → b ≡ unsigned_abs (to_z w128 (of_z w128 den)) → IsGcd a b g → IsGcd (unsigned_abs num) (unsigned_abs den) g
common num den a b g f h ea eb is =
    let n : a ≡ unsigned_abs num = ea ∙ ap unsigned_abs (to_z-of_z w128 num f) in
    let d : b ≡ unsigned_abs den = eb ∙ ap unsigned_abs (to_z-of_z w128 den h) in
    subst (λ (x : ℕ). IsGcd (unsigned_abs num) x g) d (subst (λ (x : ℕ). IsGcd x b g) n is)

above : (den : ℤ) (g : ℕ) → pos 0 <ℤ den → g ∣ unsigned_abs den → 0 < g
above den g p h = divisor_positive g (unsigned_abs den) (size_positive den p) h

small : (den : ℤ) (g : ℕ) → FitsSigned w128 den → pos 0 <ℤ den → g ∣ unsigned_abs den → g < 2 ^ 127
small den g f p h = lt_of_le_of_lt (le_of_dvd (size_positive den p) h) (size_small den f p)

pub overflow_cast-common : goal.overflow_cast-common
overflow_cast-common c =
    let is = common c.args.num c.args.den _ _ c.gcd-common.result c.ranges.num c.ranges.den c.unsigned_abs.ensures.value c.unsigned_abs-2.ensures.value c.gcd-common.ensures in
    record { sfits = small c.args.den c.gcd-common.result c.ranges.den c.requires is.1 }

number_positive : (g : ℕ) → 0 < g → pos 0 <ℤ pos g
number_positive g h = omega (arith, ints)

-- what `divide` asks
asked : (g : ℕ) (z : ℤ) → g < 2 ^ 127 → 0 < g → FitsSigned w128 z → g ∣ unsigned_abs z → (pos 0 <ℤ to_z w128 g) × (unsigned_abs (to_z w128 g) ∣ unsigned_abs (to_z w128 (of_z w128 z)))
asked g z lt p f h = (
  subst (λ (x : ℤ). pos 0 <ℤ x) (sym (to_z_pos w128 g lt)) (number_positive g p),
  subst (λ (x : ℤ). unsigned_abs x ∣ unsigned_abs (to_z w128 (of_z w128 z))) (sym (to_z_pos w128 g lt))
      (subst (λ (x : ℤ). g ∣ unsigned_abs x) (sym (to_z-of_z w128 z f)) h),
)

-- what `divide` gives
given : (g : ℕ) (q z : ℤ) → g < 2 ^ 127 → FitsSigned w128 z → q *ℤ to_z w128 g ≡ to_z w128 (of_z w128 z) → q *ℤ pos g ≡ z
given g q z lt f e = ap (λ (x : ℤ). q *ℤ x) (sym (to_z_pos w128 g lt)) ∙ e ∙ to_z-of_z w128 z f

pub divide-requires : goal.divide-requires
divide-requires c =
    let is = common c.args.num c.args.den _ _ c.gcd-common.result c.ranges.num c.ranges.den c.unsigned_abs.ensures.value c.unsigned_abs-2.ensures.value c.gcd-common.ensures in
    let lt = small c.args.den c.gcd-common.result c.ranges.den c.requires is.1 in
    let both = asked c.gcd-common.result c.args.num lt (above c.args.den c.gcd-common.result c.requires is.1) c.ranges.num is.0 in
    record { positive = both.0; divides = both.1 }

pub divide-requires-2 : goal.divide-requires-2
divide-requires-2 c =
    let is = common c.args.num c.args.den _ _ c.gcd-common.result c.ranges.num c.ranges.den c.unsigned_abs.ensures.value c.unsigned_abs-2.ensures.value c.gcd-common.ensures in
    let lt = small c.args.den c.gcd-common.result c.ranges.den c.requires is.1 in
    let both = asked c.gcd-common.result c.args.den lt (above c.args.den c.gcd-common.result c.requires is.1) c.ranges.den is.1 in
    record { positive = both.0; divides = both.1 }

-- the fields by their numbers
by_number : (p q : ℤ) → FitsSigned w128 p → FitsSigned w128 q → pos 0 <ℤ q → IsLowest p q → (pos 0 <ℤ to_z w128 (of_z w128 q)) × IsLowest (to_z w128 (of_z w128 p)) (to_z w128 (of_z w128 q))
by_number p q f h po lo =
    let e = sym (to_z-of_z w128 p f) in
    let d = sym (to_z-of_z w128 q h) in
    (subst (λ (x : ℤ). pos 0 <ℤ x) d po, subst (λ (x : ℤ). IsLowest (to_z w128 (of_z w128 p)) x) d (subst (λ (x : ℤ). IsLowest x q) e lo))

pub invariant_of-result : goal.invariant_of-result
invariant_of-result c =
    let is = common c.args.num c.args.den _ _ c.gcd-common.result c.ranges.num c.ranges.den c.unsigned_abs.ensures.value c.unsigned_abs-2.ensures.value c.gcd-common.ensures in
    let lt = small c.args.den c.gcd-common.result c.ranges.den c.requires is.1 in
    let e = given c.gcd-common.result c.divide.result c.args.num lt c.ranges.num c.divide.ensures in
    let f = given c.gcd-common.result c.divide-2.result c.args.den lt c.ranges.den c.divide-2.ensures in
    let both = by_number c.divide.result c.divide-2.result record { sfits = c.divide.type_inv } record { sfits = c.divide-2.type_inv }
    (positive _ _ _ f c.requires) (lowest _ _ _ _ _ (above c.args.den c.gcd-common.result c.requires is.1) is e f) in
    record { positive = both.0; lowest = both.1 }

pub returns : goal.returns
returns c =
    let is = common c.args.num c.args.den _ _ c.gcd-common.result c.ranges.num c.ranges.den c.unsigned_abs.ensures.value c.unsigned_abs-2.ensures.value c.gcd-common.ensures in
    let lt = small c.args.den c.gcd-common.result c.ranges.den c.requires is.1 in
    let e = given c.gcd-common.result c.divide.result c.args.num lt c.ranges.num c.divide.ensures in
    let f = given c.gcd-common.result c.divide-2.result c.args.den lt c.ranges.den c.divide-2.ensures in
    let p : FitsSigned w128 c.divide.result = record { sfits = c.divide.type_inv } in
    let q : FitsSigned w128 c.divide-2.result = record { sfits = c.divide-2.type_inv } in
    ap₂ ratio (to_z-of_z w128 c.divide.result p) (to_z-of_z w128 c.divide-2.result q)
    ∙ is_lowest c.divide.result c.divide-2.result c.args.num c.args.den (positive _ _ _ f c.requires) c.requires
    (lowest _ _ _ _ _ (above c.args.den c.gcd-common.result c.requires is.1) is e f)
    (cross c.divide.result c.divide-2.result (pos c.gcd-common.result) c.args.num c.args.den e f)

-- over 1 nothing is reduced
pub returns-then-den-eq1 : goal.returns-then-den-eq1
returns-then-den-eq1 c =
    let one : c.args.den ≡ pos 1 = sym (to_z-of_z w128 c.args.den c.ranges.den) ∙ ap (to_z w128) c.if-den-eq1.true in
    c.whole.ensures ∙ ap whole (to_z-of_z w128 c.args.num c.ranges.num) ∙ sym (lowest_whole c.args.num)
    ∙ ap (λ (d : ℤ). lowest_of (ratio c.args.num d)) (sym one)
