use Rattle.std.proofs.Common.{◌≡◌, ℕ, ◌*◌, ◌<◌, ◌≤◌, ◌↔◌, ◌%◌, refl, sym, subst, arith}
use Rattle.std.proofs.lemmas.Bool.{lt-ltb, ltb-true}
use Rattle.std.proofs.Math.Nat.{mul-le-mul_right}
use Rattle.vx_frac.proofs.Quotients.{by_whole, by_rest}
use Rattle.vx_frac.proofs.is_quotient_below.Goals as goal

pub returns-then-whole-other : goal.returns-then-whole-other
returns-then-whole-other c =
    let i = c.loop-left.invariant in
    let w = by_whole c.loop-left.left.0 c.loop-left.left.1 c.loop-left.right.0 c.loop-left.right.1 i.left i.right c.if-whole-other.true in
    (λ e. i.same_order.1 (w.0 (ltb-true _ _ e)), λ h. lt-ltb _ _ (w.1 (i.same_order.0 h)))

pub returns-then-other_rest-eq0 : goal.returns-then-other_rest-eq0
returns-then-other_rest-eq0 c =
    let i = c.loop-left.invariant in
    let r = by_rest c.loop-left.left.0 c.loop-left.left.1 c.loop-left.right.0 c.loop-left.right.1 i.left i.right c.if-whole-other.false in
    let none : (c.loop-left.left.0 % c.loop-left.left.1) * c.loop-left.right.1 < 0 * c.loop-left.left.1 → ⊥ = λ h. omega arith in
    (λ e. absurd (cc), λ h. absurd (none (subst (λ (n : ℕ). (c.loop-left.left.0 % c.loop-left.left.1) * c.loop-left.right.1 < n * c.loop-left.left.1) c.if-other_rest-eq0.true (r.0 (i.same_order.0 h)))))

some_rest : (n d b : ℕ) → (n ≡ 0 → ⊥) → 0 < b → 0 * d < n * b
some_rest n d b h k = let one : 1 * b ≤ n * b = mul-le-mul_right b (omega arith) in omega arith

pub returns-then-rest-eq0 : goal.returns-then-rest-eq0
returns-then-rest-eq0 c =
    let i = c.loop-left.invariant in
    let r = by_rest c.loop-left.left.0 c.loop-left.left.1 c.loop-left.right.0 c.loop-left.right.1 i.left i.right c.if-whole-other.false in
    let some = some_rest (c.loop-left.right.0 % c.loop-left.right.1) c.loop-left.right.1 c.loop-left.left.1 c.if-other_rest-eq0.false i.left in (
      λ e. i.same_order.1 (r.1 (subst (λ (n : ℕ). n * c.loop-left.right.1 < (c.loop-left.right.0 % c.loop-left.right.1) * c.loop-left.left.1) (sym c.if-rest-eq0.true) some)),
      λ h. refl,
    )

turned : (x y s d t b : ℕ) → (x < y) ↔ (s * d < t * b) → (x < y) ↔ (d * s < b * t)
turned x y s d t b h = (λ p. let q : s * d < t * b = h.0 p in omega arith, λ p. h.1 (omega arith))

chain : (P Q R : Type 0) → P ↔ Q → Q ↔ R → P ↔ R
chain P Q R f g = (λ p. g.0 (f.0 p), λ r. f.1 (g.1 r))

pub loop-left-preserved : goal.loop-left-preserved
loop-left-preserved c =
    let i = c.loop-left.invariant in
    let r = by_rest c.loop-left.left.0 c.loop-left.left.1 c.loop-left.right.0 c.loop-left.right.1 i.left i.right c.if-whole-other.false in
    record {
      left = omega arith;
      right = omega arith;
      same_order = turned _ _ _ _ _ _ (chain _ _ _ i.same_order r);
    }
