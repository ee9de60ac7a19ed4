-- An assertion that is typed as it is written is typed when it is settled.
use Rattle.std.proofs.Common.{◌≡◌, ◌&&◌, not, Bool, true, false, Some, refl, sym, ap, subst}
use Rattle.std.specs.Prelude.{if◌then◌else◌}
use Rattle.std.proofs.lemmas.Bool.{and_from, and_left, and_right}
use Rattle.vx_ast.specs.declared.Place.{Place}
use Rattle.vx_ast.specs.declared.ValueType.{ValueType}
use Rattle.vx_ast.specs.declared.ValueType.TheVariants as type
use Rattle.vx_ast.specs.declared.BinaryOperator.TheVariants as binary
use Rattle.vx_ast.specs.Written as written
use Rattle.vx_ast.specs.Resolve.{Names, whole, expression, expressions, is_pure, assertion, assertions}
use Rattle.vx_ast.specs.Syntax.{Program, Pure, Instance, Implied, Chosen}
use Rattle.vx_expressions.specs.Settings as settings
use Rattle.vx_expressions.specs.Settings.{Setting}
use Rattle.vx_statements.specs.Statements.{AreAssertions}
use Rattle.vx_expressions.specs.Typing as typing
use Rattle.vx_types.specs.Typing.{Scope, HasType, IsTyped, AllTyped}
use Rattle.vx_settled.proofs.TypedExprs.{Sees, whole_share, typed, all_typed, share_typed}

-- the parts of a location
location_of : (s : Setting) {at : Place} {e : written.Expr} {f : written.Placed} {t : ValueType} → typing.HasType s (written.Read at e f) t
    → typing.HasType s e type.Ref × (s.member f.name ≡ Some (settings.IsField t))
location_of s (typing.reads at f h m) = (h, m)

module _ (s : Setting) (scope : Scope) (names : Names) (p : Program) (sees : Sees s scope names p) where
  -- a value is pure, and a permission isn't
  pub pure_value : {e : written.Expr} {t : ValueType} → typing.HasType s e t → is_pure names e ≡ true
  pure_value (typing.number at n) = refl
  pure_value (typing.truth at b) = refl
  pure_value (typing.nulls at) = refl
  pure_value (typing.whole at) = refl
  pure_value (typing.nothing at) = refl
  pure_value (typing.result at m) = refl
  pure_value (typing.variable at x m) = refl
  pure_value (typing.applies at f {ts = ts} {t = t} m a h) = ap not (sees.members.no_predicate f ts t m)
  pure_value (typing.reads at f h m) = refl
  pure_value (typing.nots at h) = refl
  pure_value (typing.negates at h) = refl
  pure_value (typing.operates at typing.and h k) = and_from _ _ (pure_value h) (pure_value k)
  pure_value (typing.operates at typing.or h k) = refl
  pure_value (typing.operates at typing.implies h k) = pure_value k
  pure_value (typing.operates at (typing.equal t) h k) = refl
  pure_value (typing.operates at (typing.not_equal t) h k) = refl
  pure_value (typing.operates at (typing.less o) h k) = refl
  pure_value (typing.operates at (typing.less_equal o) h k) = refl
  pure_value (typing.operates at (typing.greater o) h k) = refl
  pure_value (typing.operates at (typing.greater_equal o) h k) = refl
  pure_value (typing.operates at (typing.add o) h k) = refl
  pure_value (typing.operates at (typing.subtract o) h k) = refl
  pure_value (typing.operates at typing.multiply h k) = refl
  pure_value (typing.operates at typing.quotient h k) = refl
  pure_value (typing.operates at typing.remainder h k) = refl
  pure_value (typing.scales at q n h) = refl
  pure_value (typing.fraction at q r n d l) = refl
  pure_value (typing.chooses at g h k) = and_from _ _ (pure_value h) (pure_value k)
  pure_value (typing.olds at h o) = refl
  pure_value (typing.unfoldings at i m h k g) = refl

  pub impure : {e : written.Expr} → typing.IsPermission s e → is_pure names e ≡ false
  impure (typing.location at q f h k) = refl
  impure (typing.share_of at q i m h k) = refl
  impure (typing.instance at i {ts = ts} {has_body = b} m h) = ap not (sees.members.is_predicate i ts b m)
  impure (typing.left at h k) = and_left _ _ (impure h)
  impure (typing.right at h k) = and_right _ _ (impure k)
  impure (typing.implied at h k) = impure k
  impure (typing.first at g h k) = and_left _ _ (impure h)
  impure (typing.second at g h k) = and_right _ _ (impure k)

  -- a truth, as an assertion
  value : {e : written.Expr} {t : ValueType} → typing.HasType s e t → t ≡ type.Bool → IsTyped p scope (assertion names e)
  value (typing.number at n) b = (cc)
  value (typing.truth at b) k = typed s scope names p sees (typing.truth at b)
  value (typing.nulls at) b = (cc)
  value (typing.whole at) b = (cc)
  value (typing.nothing at) b = (cc)
  value (typing.result at m) b = subst (HasType p scope _) b (typed s scope names p sees (typing.result at m))
  value (typing.variable at x m) b = subst (HasType p scope _) b (typed s scope names p sees (typing.variable at x m))
  value (typing.applies at f {es = es} {ts = ts} {t = t} m a h) b =
      let e = written.Call at f es in
      let k = subst (HasType p scope (expression e)) b (typed s scope names p sees (typing.applies at f m a h)) in
      subst (λ (c : Bool). IsTyped p scope (if c then Instance at f (expressions es) (whole at) else Pure (expression e))) (sym (sees.members.no_predicate f ts t m)) k
  value (typing.reads at f h m) b = subst (HasType p scope _) b (typed s scope names p sees (typing.reads at f h m))
  value (typing.nots at h) b = typed s scope names p sees (typing.nots at h)
  value (typing.negates at h) b = (cc)
  value (typing.operates at typing.and h k) b = (value h refl, value k refl)
  value (typing.operates at typing.or h k) b = typed s scope names p sees (typing.operates at typing.or h k)
  value (typing.operates at {a = c} {b = a} typing.implies h k) b =
      let e = written.Binary at binary.Implies c a in
      subst (λ (x : Bool). IsTyped p scope (if x then Pure (expression e) else Implied (expression c) (assertion names a))) (sym (pure_value k))
      (typed s scope names p sees (typing.operates at typing.implies h k))
  value (typing.operates at (typing.equal t) h k) b = typed s scope names p sees (typing.operates at (typing.equal t) h k)
  value (typing.operates at (typing.not_equal t) h k) b = typed s scope names p sees (typing.operates at (typing.not_equal t) h k)
  value (typing.operates at (typing.less o) h k) b = typed s scope names p sees (typing.operates at (typing.less o) h k)
  value (typing.operates at (typing.less_equal o) h k) b = typed s scope names p sees (typing.operates at (typing.less_equal o) h k)
  value (typing.operates at (typing.greater o) h k) b = typed s scope names p sees (typing.operates at (typing.greater o) h k)
  value (typing.operates at (typing.greater_equal o) h k) b = typed s scope names p sees (typing.operates at (typing.greater_equal o) h k)
  value (typing.operates at (typing.add o) h k) b = subst (HasType p scope _) b (typed s scope names p sees (typing.operates at (typing.add o) h k))
  value (typing.operates at (typing.subtract o) h k) b = subst (HasType p scope _) b (typed s scope names p sees (typing.operates at (typing.subtract o) h k))
  value (typing.operates at typing.multiply h k) b = (cc)
  value (typing.operates at typing.quotient h k) b = (cc)
  value (typing.operates at typing.remainder h k) b = (cc)
  value (typing.scales at q n h) b = (cc)
  value (typing.fraction at q r n d l) b = (cc)
  value (typing.chooses at {c = c} {a = x} {b = y} g h k) b =
      let e = written.Choice at c x y in
      subst (λ (z : Bool). IsTyped p scope (if z then Pure (expression e) else Chosen (expression c) (assertion names x) (assertion names y))) (sym (and_from _ _ (pure_value h) (pure_value k)))
      (subst (HasType p scope (expression e)) b (typed s scope names p sees (typing.chooses at g h k)))
  value (typing.olds at h o) b = subst (HasType p scope _) b (typed s scope names p sees (typing.olds at h o))
  value (typing.unfoldings at i m h k g) b = subst (HasType p scope _) b (typed s scope names p sees (typing.unfoldings at i m h k g))

  -- two sides of which one holds a permission
  sides : (c a b : written.Expr) (at : Place) → typing.HasType s c type.Bool → (is_pure names a && is_pure names b) ≡ false → IsTyped p scope (assertion names a) → IsTyped p scope (assertion names b)
      → IsTyped p scope (assertion names (written.Choice at c a b))
  sides c a b at g e h k =
      subst (λ (z : Bool). IsTyped p scope (if z then Pure (expression (written.Choice at c a b)) else Chosen (expression c) (assertion names a) (assertion names b))) (sym e)
      (typed s scope names p sees g, h, k)

  mutual
    permission : {e : written.Expr} → typing.IsPermission s e → IsTyped p scope (assertion names e)
    permission (typing.location at q f {t = t} h k) =
        let l = location_of s h in
        (typed s scope names p sees l.0, (t, sees.members.field f.name t l.1), share_typed s scope names p sees at k)
    permission (typing.share_of at q i {ts = ts} {has_body = b} m h k) =
        let d = sees.members.predicate i ts b m in
        ((d.0, d.1, all_typed s scope names p sees h d.0.parameters d.2), share_typed s scope names p sees at k)
    permission (typing.instance at i {es = es} {ts = ts} {has_body = b} m h) =
        let d = sees.members.predicate i ts b m in
        subst (λ (z : Bool). IsTyped p scope (if z then Instance at i (expressions es) (whole at) else Pure (expression (written.Call at i es)))) (sym (sees.members.is_predicate i ts b m))
        ((d.0, d.1, all_typed s scope names p sees h d.0.parameters d.2), whole_share p scope at)
    permission (typing.left at h k) = (permission h, claim k)
    permission (typing.right at h k) = (claim h, permission k)
    permission (typing.implied at {c = c} {a = a} h k) =
        subst (λ (z : Bool). IsTyped p scope (if z then Pure (expression (written.Binary at binary.Implies c a)) else Implied (expression c) (assertion names a))) (sym (impure k))
        (typed s scope names p sees h, permission k)
    permission (typing.first at {c = c} {a = a} {b = b} g h k) = sides c a b at g (and_left (is_pure names a) (is_pure names b) (impure h)) (permission h) (claim k)
    permission (typing.second at {c = c} {a = a} {b = b} g h k) = sides c a b at g (and_right (is_pure names a) (is_pure names b) (impure k)) (claim h) (permission k)

    pub claim : {e : written.Expr} → typing.IsAssertion s e → IsTyped p scope (assertion names e)
    claim (typing.pure h) = value h refl
    claim (typing.permission h) = permission h

  pub claims : (es : written.Exprs) → AreAssertions s es → AllTyped p scope (assertions names es)
  claims written.NoMore h = tt
  claims (written.More e es) h = (claim h.0, claims es h.1)
