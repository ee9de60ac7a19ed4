-- What is typed where no `old` may stand has none when it is settled.
use Rattle.std.proofs.Common.{◌≡◌, ◌&&◌, Bool, true, false, List, sym, ◌∙◌}
use Rattle.std.specs.Prelude.{if◌then◌else◌}
use Rattle.vx_ast.specs.declared.Place.{Place}
use Rattle.vx_ast.specs.declared.ValueType.{ValueType}
use Rattle.vx_ast.specs.declared.BinaryOperator.{BinaryOperator}
use Rattle.vx_ast.specs.declared.BinaryOperator.TheVariants as binary
use Rattle.vx_ast.specs.Written as written
use Rattle.vx_ast.specs.Resolve.{Names, whole, expression, expressions, amount, binary_of, is_pure, assertion}
use Rattle.vx_ast.specs.Syntax.{Expr, Assertion, Pure, Instance, Implied, Chosen}
use Rattle.vx_expressions.specs.Settings.{Setting}
use Rattle.vx_expressions.specs.Typing as typing
use Rattle.vx_types.specs.Now.{IsOfNow, AreOfNow, SaysNow}

operated : (at : Place) {op : BinaryOperator} {t u : ValueType} → typing.Operates op t u → (a b : Expr) → IsOfNow a → IsOfNow b → IsOfNow (binary_of at op a b)
operated at typing.and a b h k = (h, k)
operated at typing.or a b h k = (h, k)
operated at typing.implies a b h k = (h, k)
operated at (typing.equal t) a b h k = (h, k)
operated at (typing.not_equal t) a b h k = (h, k)
operated at (typing.less o) a b h k = (h, k)
operated at (typing.less_equal o) a b h k = (h, k)
operated at (typing.greater o) a b h k = (h, k)
operated at (typing.greater_equal o) a b h k = (h, k)
operated at (typing.add o) a b h k = (h, k)
operated at (typing.subtract o) a b h k = (h, k)
operated at typing.multiply a b h k = (h, k)
operated at typing.quotient a b h k = (h, k)
operated at typing.remainder a b h k = (h, k)

either : (b : Bool) (x y : Assertion) → SaysNow x → SaysNow y → SaysNow (if b then x else y)
either true x y h k = h
either false x y h k = k

module _ (s : Setting) (no_old : s.has_old ≡ false) where
  mutual
    pub now : {e : written.Expr} {t : ValueType} → typing.HasType s e t → IsOfNow (expression e)
    now (typing.number at n) = tt
    now (typing.truth at b) = tt
    now (typing.nulls at) = tt
    now (typing.whole at) = tt
    now (typing.nothing at) = tt
    now (typing.result at m) = tt
    now (typing.variable at x m) = tt
    now (typing.applies at f m a h) = all_now h
    now (typing.reads at f h m) = now h
    now (typing.nots at h) = now h
    now (typing.negates at h) = (tt, now h)
    now (typing.operates at {a = a} {b = b} o h k) = operated at o (expression a) (expression b) (now h) (now k)
    now (typing.scales at q n h) = (tt, now h)
    now (typing.fraction at q r n d l) = tt
    now (typing.chooses at g h k) = (now g, now h, now k)
    now (typing.olds at h o) = absurd (not_both (sym no_old ∙ o))
      where
        not_both : false ≡ true → ⊥
        not_both e = cc
    now (typing.unfoldings at i m h k g) = (all_now h, share_now at k, now g)

    pub all_now : {es : written.Exprs} {ts : List ValueType} → typing.HaveTypes s es ts → AreOfNow (expressions es)
    all_now typing.no_more = tt
    all_now (typing.more h k) = (now h, all_now k)

    share_now : (at : Place) {share : written.Amount} → typing.IsShare s share → IsOfNow (amount at share)
    share_now at typing.all = tt
    share_now at (typing.part h m c) = now h

  module _ (names : Names) where
    -- an implication and a choice, read as an expression or as an assertion
    implied : (b : Bool) (at : Place) (c a : written.Expr) → IsOfNow (expression c) → IsOfNow (expression a) → SaysNow (assertion names a) →
        SaysNow (if b then Pure (expression (written.Binary at binary.Implies c a)) else Implied (expression c) (assertion names a))
    implied true at c a h k l = (h, k)
    implied false at c a h k l = (h, l)

    chosen : (z : Bool) (at : Place) (c a b : written.Expr) → IsOfNow (expression c) → IsOfNow (expression a) → IsOfNow (expression b) → SaysNow (assertion names a) → SaysNow (assertion names b) →
        SaysNow (if z then Pure (expression (written.Choice at c a b)) else Chosen (expression c) (assertion names a) (assertion names b))
    chosen true at c a b g h k l m = (g, h, k)
    chosen false at c a b g h k l m = (g, l, m)

    value_now : {e : written.Expr} {t : ValueType} → typing.HasType s e t → SaysNow (assertion names e)
    value_now (typing.number at n) = tt
    value_now (typing.truth at b) = tt
    value_now (typing.nulls at) = tt
    value_now (typing.whole at) = tt
    value_now (typing.nothing at) = tt
    value_now (typing.result at m) = tt
    value_now (typing.variable at x m) = tt
    value_now (typing.applies at f {es = es} m a h) = either (names.is_predicate f) (Instance at f (expressions es) (whole at)) (Pure (expression (written.Call at f es))) (all_now h, tt) (all_now h)
    value_now (typing.reads at f h m) = now h
    value_now (typing.nots at h) = now h
    value_now (typing.negates at h) = (tt, now h)
    value_now (typing.operates at typing.and h k) = (value_now h, value_now k)
    value_now (typing.operates at typing.or h k) = (now h, now k)
    value_now (typing.operates at {a = c} {b = a} typing.implies h k) = implied (is_pure names a) at c a (now h) (now k) (value_now k)
    value_now (typing.operates at (typing.equal t) h k) = (now h, now k)
    value_now (typing.operates at (typing.not_equal t) h k) = (now h, now k)
    value_now (typing.operates at (typing.less o) h k) = (now h, now k)
    value_now (typing.operates at (typing.less_equal o) h k) = (now h, now k)
    value_now (typing.operates at (typing.greater o) h k) = (now h, now k)
    value_now (typing.operates at (typing.greater_equal o) h k) = (now h, now k)
    value_now (typing.operates at (typing.add o) h k) = (now h, now k)
    value_now (typing.operates at (typing.subtract o) h k) = (now h, now k)
    value_now (typing.operates at typing.multiply h k) = (now h, now k)
    value_now (typing.operates at typing.quotient h k) = (now h, now k)
    value_now (typing.operates at typing.remainder h k) = (now h, now k)
    value_now (typing.scales at q n h) = (tt, now h)
    value_now (typing.fraction at q r n d l) = tt
    value_now (typing.chooses at {c = c} {a = a} {b = b} g h k) = chosen (is_pure names a && is_pure names b) at c a b (now g) (now h) (now k) (value_now h) (value_now k)
    value_now (typing.olds at h o) = now (typing.olds at h o)
    value_now (typing.unfoldings at i m h k g) = (all_now h, share_now at k, now g)

    -- the receiver of a location
    receiver_now : {at : Place} {e : written.Expr} {f : written.Placed} {t : ValueType} → typing.HasType s (written.Read at e f) t → IsOfNow (expression e)
    receiver_now (typing.reads at f h m) = now h

    mutual
      permission_now : {e : written.Expr} → typing.IsPermission s e → SaysNow (assertion names e)
      permission_now (typing.location at q f h k) = (receiver_now h, share_now at k)
      permission_now (typing.share_of at q i m h k) = (all_now h, share_now at k)
      permission_now (typing.instance at i {es = es} m h) = either (names.is_predicate i) (Instance at i (expressions es) (whole at)) (Pure (expression (written.Call at i es))) (all_now h, tt) (all_now h)
      permission_now (typing.left at h k) = (permission_now h, claim_now k)
      permission_now (typing.right at h k) = (claim_now h, permission_now k)
      permission_now (typing.implied at {c = c} {a = a} h k) = implied (is_pure names a) at c a (now h) (plain_permission k) (permission_now k)
      permission_now (typing.first at {c = c} {a = a} {b = b} g h k) = chosen (is_pure names a && is_pure names b) at c a b (now g) (plain_permission h) (plain_claim k) (permission_now h) (claim_now k)
      permission_now (typing.second at {c = c} {a = a} {b = b} g h k) = chosen (is_pure names a && is_pure names b) at c a b (now g) (plain_claim h) (plain_permission k) (claim_now h) (permission_now k)

      pub claim_now : {e : written.Expr} → typing.IsAssertion s e → SaysNow (assertion names e)
      claim_now (typing.pure h) = value_now h
      claim_now (typing.permission h) = permission_now h

      -- as an expression, which it isn't read as
      plain_permission : {e : written.Expr} → typing.IsPermission s e → IsOfNow (expression e)
      plain_permission (typing.location at q f h k) = tt
      plain_permission (typing.share_of at q i m h k) = tt
      plain_permission (typing.instance at i m h) = all_now h
      plain_permission (typing.left at h k) = (plain_permission h, plain_claim k)
      plain_permission (typing.right at h k) = (plain_claim h, plain_permission k)
      plain_permission (typing.implied at h k) = (now h, plain_permission k)
      plain_permission (typing.first at g h k) = (now g, plain_permission h, plain_claim k)
      plain_permission (typing.second at g h k) = (now g, plain_claim h, plain_permission k)

      plain_claim : {e : written.Expr} → typing.IsAssertion s e → IsOfNow (expression e)
      plain_claim (typing.pure h) = now h
      plain_claim (typing.permission h) = plain_permission h
