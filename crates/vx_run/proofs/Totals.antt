-- Totals of entries, and amounts more and less.
use Rattle.std.proofs.Common.{◌≡◌, ℕ, Bool, true, false, not, Result, Ok, Err, refl, sym, ◌∙◌, ap, ap₂, subst, nat_abs, unsigned_abs}
use Rattle.std.specs.Prelude.{IsTrue, IfOk, IfErr, IsOk, ◌↔◌, neg_ℤ, ℤ, pos, negsuc, zero, suc, if◌then◌else◌}
use Rattle.std.specs.Int.{◌∣◌}
use Rattle.vx_ast.specs.declared.Place.{Place}
use Rattle.vx_frac.specs.declared.Op.{Op}
use Rattle.vx_frac.specs.declared.Frac.{Frac}
use Rattle.vx_frac.specs.declared.Over.{Over}
use Rattle.vx_run.specs.declared.outcome.Whole.{Whole}
use Rattle.vx_run.specs.Views.{outcome}
use Rattle.vx_frac.specs.Fraction.{fraction}
use Rattle.vx_frac.specs.Fractions.{Fraction, none, lowest, sum, difference, minus, same_fraction, at_most, is_below, is_positive}
use Rattle.vx_frac.proofs.Lowest.{lowest-same, same-lowest}
use Rattle.vx_frac.proofs.Reduced.{is_lowest, lowest_fraction}
use Rattle.vx_amounts.proofs.Amounts.{Same, same-of, same_is, le-trans, below_is, lowest_is, same-lowest', same-refl, same-trans, same-sym, sum_same, sum_comm, none-sum}
use Rattle.vx_meaning.specs.States.{Resource, Holdings, same_resource, amount}
use Rattle.vx_run.specs.Going.{Going, Outcome, ◌>>=◌, gives, ends_with, require, Wide}
use Rattle.vx_run.specs.Widths.{asked, within_128_bits, fits_128_bits}
use Rattle.vx_run.specs.Held.{resource, entries, told_total, TellTotals}
use Rattle.vx_frac.proofs.Whole.{lowest_whole}
use Rattle.vx_run.proofs.Resources.{alike, amount_on}
use Rattle.vx_run.specs.declared.entries.Entries.{Entries}
use Rattle.vx_run.specs.declared.resource.Resource.{Resource as Resource'}

-- the total at a new entry, and at those before
pub total_more : (r0 r : Resource) (a t : Fraction) (told : Fraction) (h : Holdings) → same_fraction told (amount h r) ≡ true → t ≡ lowest (sum a (amount h r0)) →
    same_fraction (if same_resource r r0 then t else told) (if same_resource r r0 then sum a (amount h r) else amount h r) ≡ true
total_more r0 r a t told h k e = go (same_resource r r0) refl
  where
    go : (b : Bool) → same_resource r r0 ≡ b → same_fraction (if b then t else told) (if b then sum a (amount h r) else amount h r) ≡ true
    go true s = subst (λ (q : Fraction). same_fraction t (sum a q) ≡ true) (sym (amount_on r r0 h s)) (subst (λ (q : Fraction). same_fraction q (sum a (amount h r0)) ≡ true) (sym e) (same-lowest (sum a (amount h r0))))
    go false s = k

-- a fraction in code that is the same as another is its lowest terms
pub in_lowest_terms : (f : Frac) (q : Fraction) → same_fraction (fraction f) q ≡ true → fraction f ≡ lowest q
in_lowest_terms f q e = sym (lowest_fraction f) ∙ lowest-same (fraction f) q e

-- an operation that stays within 128 bits, and one that doesn't
pub fits_on : {A : Type 0} (at : Place) (c : Op) (x y : Fraction) (f g : Frac) (k : A) → fraction f ≡ lowest x → fraction g ≡ lowest y → fits_128_bits c (fraction f) (fraction g) ≡ true →
    (let m : Going ℕ A = gives k in m) ≡ (asked within_128_bits at c x y >>= λ _. gives k)
fits_on at c x y f g k ef eg h =
    ap (λ (b : Bool). require b (Wide at c (lowest x) (lowest y)) >>= λ _. gives k) (sym h ∙ ap₂ (fits_128_bits c) ef eg)

not_true : (b : Bool) → (IsTrue b → ⊥) → b ≡ false
not_true true h = absurd (h refl)
not_true false h = refl

pub leaves_on : {A : Type 0} (at : Place) (c : Op) (x y : Fraction) (f g : Frac) (k : A) → fraction f ≡ lowest x → fraction g ≡ lowest y → (IsTrue (fits_128_bits c (fraction f) (fraction g)) → ⊥) →
    (let m : Going ℕ A = ends_with (Wide at c (fraction f) (fraction g)) in m) ≡ (asked within_128_bits at c x y >>= λ _. gives k)
leaves_on {A = A} at c x y f g k ef eg h =
    ap₂ (λ (a b : Fraction). let m : Going ℕ A = ends_with (Wide at c a b) in m) ef eg
    ∙ ap (λ (b : Bool). require b (Wide at c (lowest x) (lowest y)) >>= λ _. gives k) (sym (not_true _ h) ∙ ap₂ (fits_128_bits c) ef eg)

pub leaves_as : {A : Type 0} (at : Place) (c : Op) (x y : Fraction) (f g : Frac) (o : Over) (w : Whole) (k : A) → fraction f ≡ lowest x → fraction g ≡ lowest y →
    outcome w ≡ Wide at o.op (fraction o.a) (fraction o.b) → o ≡ record { op = c; a = f; b = g } → (IsTrue (fits_128_bits c (fraction f) (fraction g)) → ⊥) →
    (let m : Going ℕ A = ends_with (outcome w) in m) ≡ (asked within_128_bits at c x y >>= λ _. gives k)
leaves_as {A = A} at c x y f g o w k ef eg ew eo h =
    ap (λ (e : Outcome). let m : Going ℕ A = ends_with e in m) (ew ∙ ap (λ (z : Over). Wide at z.op (fraction z.a) (fraction z.b)) eo) ∙ leaves_on at c x y f g k ef eg h

-- what is added to what is held, and what is taken from it
pub sum_is : (f a : Fraction) (x : Fraction) → f ≡ lowest x → lowest (sum f a) ≡ lowest (sum a x)
sum_is f a x e =
    let one : Same (sum (lowest x) a) (sum x a) = sum_same {a = lowest x} {b = x} {c = a} {d = a} (same-lowest' x) (same-refl a) in
    let two : Same (sum (lowest x) a) (sum a x) = same-trans one (sum_comm x a) in
    ap (λ (q : Fraction). lowest (sum q a)) e ∙ lowest_is {a = sum (lowest x) a} {b = sum a x} two

pub turned_is : (a : Frac) → lowest (difference none (fraction a)) ≡ minus (fraction a)
turned_is a = lowest_is {a = difference none (fraction a)} {b = minus (fraction a)} (none-sum (minus (fraction a))) ∙ sym (is_lowest (neg_ℤ a.num) a.den (neg_ℤ a.num) a.den a.positive a.positive low refl)
  where
    sizes : (z : ℤ) → unsigned_abs (neg_ℤ z) ≡ unsigned_abs z
    sizes (pos zero) = refl
    sizes (pos (suc n)) = refl
    sizes (negsuc n) = refl

    low : (d : ℕ) → d ∣ unsigned_abs (neg_ℤ a.num) → d ∣ unsigned_abs a.den → d ≡ 1
    low d h k = a.lowest d (subst (λ (n : ℕ). d ∣ n) (sizes a.num) h) k

-- an order and an equality of fractions as they are written
pub at_most_lowest : (a b : Fraction) → at_most a b ≡ at_most (lowest a) (lowest b)
at_most_lowest a b = alike _ _ (λ h. (le-trans (same-lowest' a).there (le-trans record { holds = h } (same-lowest' b).back)).holds) (λ h. (le-trans (same-lowest' a).back (le-trans record { holds = h } (same-lowest' b).there)).holds)

pub below_lowest : (a b : Fraction) → is_below a b ≡ is_below (lowest a) (lowest b)
below_lowest a b = below_is a b ∙ ap not (at_most_lowest b a) ∙ sym (below_is (lowest a) (lowest b))

pub same_lowest_both : (a b : Fraction) → same_fraction a b ≡ same_fraction (lowest a) (lowest b)
same_lowest_both a b =
    let la = same-lowest' a in
    let lb = same-lowest' b in
    alike (same_fraction a b) (same_fraction (lowest a) (lowest b))
    (λ h. let ab : Same a b = same-of {a = a} {b = b} h in let s : Same (lowest a) (lowest b) = same-trans la (same-trans ab (same-sym lb)) in same_is {a = lowest a} {b = lowest b} s)
    (λ h. let ab : Same (lowest a) (lowest b) = same-of {a = lowest a} {b = lowest b} h in let s : Same a b = same-trans (same-sym la) (same-trans ab lb) in same_is {a = a} {b = b} s)

pub positive_lowest : (a : Fraction) → is_positive a ≡ is_positive (lowest a)
positive_lowest a = below_lowest none a ∙ ap (λ (q : Fraction). is_below q (lowest a)) (lowest_whole (pos 0))
