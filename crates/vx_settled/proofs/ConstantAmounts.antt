-- An amount that is known without running has one value in every state, also when it is settled.
use Rattle.std.proofs.Common.{◌≡◌, ◌∙◌, ◌&&◌, ℕ, Bool, true, false, pos, Some, refl, sym, ap, subst}
use Rattle.std.specs.Prelude.{if◌then◌else◌}
use Rattle.std.proofs.lemmas.Bool.{and_from, and_left, and_right}
use Rattle.vx_ast.specs.declared.Place.{Place}
use Rattle.vx_ast.specs.declared.ValueType.{ValueType}
use Rattle.vx_ast.specs.declared.BinaryOperator.TheVariants as binary
use Rattle.vx_ast.specs.Written as written
use Rattle.vx_ast.specs.Resolve.{Names, whole, expression, expressions, amount, is_pure, assertion}
use Rattle.vx_ast.specs.Syntax.{Program, Expr, Operate, Add, Subtract, Multiply, Number, Pure, Instance, Implied, Chosen}
use Rattle.vx_frac.specs.Fractions.{Fraction, none, full, sum, difference, product, over, lowest}
use Rattle.vx_frac.specs.Fractions as number
use Rattle.vx_amounts.proofs.Amounts.{Positive, Same, positive-le, same-refl, same-sym, same-trans, same-lowest', sum_same, difference_same, product_same}
use Rattle.vx_expressions.specs.Settings.{Setting}
use Rattle.vx_expressions.specs.Typing as typing
use Rattle.vx_expressions.specs.AmountValues as amounts
use Rattle.vx_meaning.specs.Values.{◌>>=◌, IntValue, PermValue, operated}
use Rattle.vx_meaning.specs.States.{State}
use Rattle.vx_meaning.specs.Evaluate.{Applications, value}
use Rattle.vx_types.specs.Typing.{Scope}
use Rattle.vx_types.specs.Premises.{IsConstantAmount, HasConstantAmounts}
use Rattle.vx_settled.proofs.TypedExprs.{Sees}
use Rattle.vx_settled.proofs.TypedClaims.{pure_value, impure}

-- ---- values

record IsWorth (e : Expr) (q : Fraction) : Type 0 where
  everywhere : (p : Program) (ap : Applications) (s : State) → value p ap s e ≡ Some (PermValue q)

added : {a b : Expr} {x y : Fraction} (at : Place) → IsWorth a x → IsWorth b y → IsWorth (Operate at Add a b) (sum x y)
added {b = b} {x = x} at h k = record { everywhere = λ p f s. ap (λ o. o >>= λ v. value p f s b >>= λ w. operated Add v w) (h.everywhere p f s) ∙ ap (λ o. o >>= λ w. operated Add (PermValue x) w) (k.everywhere p f s) }

subtracted : {a b : Expr} {x y : Fraction} (at : Place) → IsWorth a x → IsWorth b y → IsWorth (Operate at Subtract a b) (difference x y)
subtracted {b = b} {x = x} at h k = record {
  everywhere = λ p f s. ap (λ o. o >>= λ v. value p f s b >>= λ w. operated Subtract v w) (h.everywhere p f s) ∙ ap (λ o. o >>= λ w. operated Subtract (PermValue x) w) (k.everywhere p f s);
}

multiplied : {b : Expr} {y : Fraction} (at place : Place) (n : ℕ) → IsWorth b y → IsWorth (Operate at Multiply (Number place n) b) (product (number.whole (pos n)) y)
multiplied at place n k = record { everywhere = λ p f s. ap (λ o. o >>= λ w. operated Multiply (IntValue (pos n)) w) (k.everywhere p f s) }

-- a value that is that amount
record Known (e : Expr) (f : Fraction) : Type 0 where
  worth : Fraction
  is : IsWorth e worth
  same : Same worth f

known : {e : written.Expr} {f : Fraction} → amounts.HasAmount e f → Known (expression e) f
known (amounts.whole at) = record { worth = over 1 1; is = record { everywhere = λ p f s. refl }; same = same-refl full }
known (amounts.nothing at) = record { worth = over 0 1; is = record { everywhere = λ p f s. refl }; same = same-refl none }
known (amounts.fraction at p q n d l m k) = record { worth = over n d; is = record { everywhere = λ p f s. refl }; same = same-sym (same-lowest' (over n d)) }
known (amounts.sum at {f = f} {g = g} h k fits) =
    let a = known h in
    let b = known k in
    record { worth = sum a.worth b.worth; is = added at a.is b.is; same = same-trans (sum_same a.same b.same) (same-sym (same-lowest' (sum f g))) }
known (amounts.difference at {f = f} {g = g} h k fits) =
    let a = known h in
    let b = known k in
    record { worth = difference a.worth b.worth; is = subtracted at a.is b.is; same = same-trans (difference_same a.same b.same) (same-sym (same-lowest' (difference f g))) }
known (amounts.multiple at p n {g = g} h l fits) =
    let b = known h in
    record {
      worth = product (number.whole (pos n)) b.worth;
      is = multiplied at p n b.is;
      same = same-trans (product_same (same-sym (same-lowest' (over n 1))) b.same) (same-sym (same-lowest' (product (lowest (over n 1)) g)));
    }

constant_amount : {e : written.Expr} → amounts.IsConstantAmount e → IsConstantAmount (expression e)
constant_amount c =
    let k = known c.1 in
    let above : Positive c.0 = record { holds = c.2 } in
    (k.worth, k.is.everywhere, (positive-le above k.same.back).holds)

whole_constant : (at : Place) → IsConstantAmount (whole at)
whole_constant at = (over 1 1, (λ p ap s. refl), refl)

-- ---- assertions

module _ (s : Setting) (scope : Scope) (names : Names) (p : Program) (sees : Sees s scope names p) (constant : s.constant ≡ true) where
  share_constant : (at : Place) {share : written.Amount} → typing.IsShare s share → IsConstantAmount (amount at share)
  share_constant at typing.all = whole_constant at
  share_constant at (typing.part h m c) = constant_amount (c constant)

  -- a value holds no permission
  value_amounts : {e : written.Expr} {t : ValueType} → typing.HasType s e t → HasConstantAmounts (assertion names e)
  value_amounts (typing.number at n) = tt
  value_amounts (typing.truth at b) = tt
  value_amounts (typing.nulls at) = tt
  value_amounts (typing.whole at) = tt
  value_amounts (typing.nothing at) = tt
  value_amounts (typing.result at m) = tt
  value_amounts (typing.variable at x m) = tt
  value_amounts (typing.applies at f {es = es} {ts = ts} {t = t} m a h) =
      subst (λ (c : Bool). HasConstantAmounts (if c then Instance at f (expressions es) (whole at) else Pure (expression (written.Call at f es)))) (sym (sees.members.no_predicate f ts t m)) tt
  value_amounts (typing.reads at f h m) = tt
  value_amounts (typing.nots at h) = tt
  value_amounts (typing.negates at h) = tt
  value_amounts (typing.operates at typing.and h k) = (value_amounts h, value_amounts k)
  value_amounts (typing.operates at typing.or h k) = tt
  value_amounts (typing.operates at {a = c} {b = a} typing.implies h k) =
      subst (λ (x : Bool). HasConstantAmounts (if x then Pure (expression (written.Binary at binary.Implies c a)) else Implied (expression c) (assertion names a))) (sym (pure_value s scope names p sees k)) tt
  value_amounts (typing.operates at (typing.equal t) h k) = tt
  value_amounts (typing.operates at (typing.not_equal t) h k) = tt
  value_amounts (typing.operates at (typing.less o) h k) = tt
  value_amounts (typing.operates at (typing.less_equal o) h k) = tt
  value_amounts (typing.operates at (typing.greater o) h k) = tt
  value_amounts (typing.operates at (typing.greater_equal o) h k) = tt
  value_amounts (typing.operates at (typing.add o) h k) = tt
  value_amounts (typing.operates at (typing.subtract o) h k) = tt
  value_amounts (typing.operates at typing.multiply h k) = tt
  value_amounts (typing.operates at typing.quotient h k) = tt
  value_amounts (typing.operates at typing.remainder h k) = tt
  value_amounts (typing.scales at q n h) = tt
  value_amounts (typing.fraction at q r n d l) = tt
  value_amounts (typing.chooses at {c = c} {a = a} {b = b} g h k) =
      subst (λ (z : Bool). HasConstantAmounts (if z then Pure (expression (written.Choice at c a b)) else Chosen (expression c) (assertion names a) (assertion names b)))
      (sym (and_from _ _ (pure_value s scope names p sees h) (pure_value s scope names p sees k))) tt
  value_amounts (typing.olds at h o) = tt
  value_amounts (typing.unfoldings at i m h k g) = tt

  -- two sides of which one holds a permission
  sides : (c a b : written.Expr) (at : Place) → (is_pure names a && is_pure names b) ≡ false → HasConstantAmounts (assertion names a) → HasConstantAmounts (assertion names b) → HasConstantAmounts (assertion names (written.Choice at c a b))
  sides c a b at e h k = subst (λ (z : Bool). HasConstantAmounts (if z then Pure (expression (written.Choice at c a b)) else Chosen (expression c) (assertion names a) (assertion names b))) (sym e) (h, k)

  mutual
    permission_amounts : {e : written.Expr} → typing.IsPermission s e → HasConstantAmounts (assertion names e)
    permission_amounts (typing.location at q f h k) = share_constant at k
    permission_amounts (typing.share_of at q i m h k) = share_constant at k
    permission_amounts (typing.instance at i {es = es} {ts = ts} {has_body = b} m h) =
        subst (λ (z : Bool). HasConstantAmounts (if z then Instance at i (expressions es) (whole at) else Pure (expression (written.Call at i es)))) (sym (sees.members.is_predicate i ts b m)) (whole_constant at)
    permission_amounts (typing.left at h k) = (permission_amounts h, claim_amounts k)
    permission_amounts (typing.right at h k) = (claim_amounts h, permission_amounts k)
    permission_amounts (typing.implied at {c = c} {a = a} h k) =
        subst (λ (z : Bool). HasConstantAmounts (if z then Pure (expression (written.Binary at binary.Implies c a)) else Implied (expression c) (assertion names a))) (sym (impure s scope names p sees k)) (permission_amounts k)
    permission_amounts (typing.first at {c = c} {a = a} {b = b} g h k) = sides c a b at (and_left (is_pure names a) (is_pure names b) (impure s scope names p sees h)) (permission_amounts h) (claim_amounts k)
    permission_amounts (typing.second at {c = c} {a = a} {b = b} g h k) = sides c a b at (and_right (is_pure names a) (is_pure names b) (impure s scope names p sees k)) (claim_amounts h) (permission_amounts k)

    pub claim_amounts : {e : written.Expr} → typing.IsAssertion s e → HasConstantAmounts (assertion names e)
    claim_amounts (typing.pure h) = value_amounts h
    claim_amounts (typing.permission h) = permission_amounts h
