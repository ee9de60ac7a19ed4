-- An expression that is typed as it is written is typed when it is settled.
use Rattle.std.proofs.Common.{◌≡◌, ◌⊎◌, inl, inr, true, List, [], ◌∷◌, Some, refl, sym, subst, arith}
use Rattle.vx_ast.specs.declared.Place.{Place}
use Rattle.vx_ast.specs.declared.ValueType.{ValueType}
use Rattle.vx_ast.specs.declared.ValueType.TheVariants as type
use Rattle.vx_ast.specs.declared.BinaryOperator.{BinaryOperator}
use Rattle.vx_ast.specs.Written as written
use Rattle.vx_ast.specs.Written.{Name}
use Rattle.vx_ast.specs.Resolve.{Names, expression, expressions, amount, binary_of}
use Rattle.vx_ast.specs.Syntax as Syntax
use Rattle.vx_ast.specs.Syntax.{result_name, Declaration, Program, Expr, Equal, Less, LessEqual, Greater, GreaterEqual, Add, Subtract, Multiply, Apply}
use Rattle.vx_expressions.specs.Settings.{Setting}
use Rattle.vx_expressions.specs.Typing as typing
use Rattle.vx_types.specs.Typing.{Scope, type_in, HasType, number, truth, nulls, part, variable, nots, operates, scales, divides, connects, chooses, reads, olds, applies, unfoldings, HaveTypes, no_more, more}
use Rattle.vx_settled.proofs.TypedNames.{Knows, types}

-- what is known in a setting is known in a scope of a program
pub record Sees (s : Setting) (scope : Scope) (names : Names) (p : Program) : Type 0 where
  pub variables : (x : Name) (t : ValueType) → s.variable x ≡ Some t → type_in x scope ≡ Some t
  pub outcome : (t : ValueType) → s.outcome ≡ Some t → type_in result_name scope ≡ Some t
  pub members : Knows s.member names p

ordered : {t : ValueType} → typing.IsOrdered t → (t ≡ type.Int) ⊎ (t ≡ type.Perm)
ordered typing.int = inl refl
ordered typing.perm = inr refl

operated : (p : Program) (scope : Scope) (at : Place) {op : BinaryOperator} {a b : Expr} {t u : ValueType} → typing.Operates op t u → HasType p scope a t → HasType p scope b t
    → HasType p scope (binary_of at op a b) u
operated p scope at typing.and h k = connects h k
operated p scope at typing.or h k = connects h k
operated p scope at typing.implies h k = connects h k
operated p scope at (typing.equal t) h k = operates {op = Equal} {t = t} tt h k
operated p scope at (typing.not_equal t) h k = nots (operates {op = Equal} {t = t} tt h k)
operated p scope at (typing.less {t = t} o) h k = operates {op = Less} {t = t} (ordered o) h k
operated p scope at (typing.less_equal {t = t} o) h k = operates {op = LessEqual} {t = t} (ordered o) h k
operated p scope at (typing.greater {t = t} o) h k = operates {op = Greater} {t = t} (ordered o) h k
operated p scope at (typing.greater_equal {t = t} o) h k = operates {op = GreaterEqual} {t = t} (ordered o) h k
operated p scope at (typing.add {t = t} o) h k = operates {op = Add} {t = t} (ordered o) h k
operated p scope at (typing.subtract {t = t} o) h k = operates {op = Subtract} {t = t} (ordered o) h k
operated p scope at typing.multiply h k = operates {op = Multiply} {t = type.Int} refl h k
operated p scope at typing.quotient h k = divides h k
operated p scope at typing.remainder h k = divides h k

pub whole_share : (p : Program) (scope : Scope) (at : Place) → HasType p scope (Syntax.Part at 1 1) type.Perm
whole_share p scope at = part at 1 1 (omega arith)

module _ (s : Setting) (scope : Scope) (names : Names) (p : Program) (sees : Sees s scope names p) where
  mutual
    pub typed : {e : written.Expr} {t : ValueType} → typing.HasType s e t → HasType p scope (expression e) t
    typed (typing.number at n) = number at n
    typed (typing.truth at b) = truth
    typed (typing.nulls at) = nulls at
    typed (typing.whole at) = whole_share p scope at
    typed (typing.nothing at) = part at 0 1 (omega arith)
    typed (typing.result at {t = t} m) = variable at result_name (sees.outcome t m)
    typed (typing.variable at x {t = t} m) = variable at x (sees.variables x t m)
    typed (typing.applies at f {es = es} {ts = ts} {t = t} m a h) =
        let g = sees.members.function f ts t m in
        subst (HasType p scope (Apply at f (expressions es))) g.3 (applies f g.0 g.1 (all_typed h g.0.parameters g.2))
    typed (typing.reads at f {t = t} h m) = reads f.name (sees.members.field f.name t m) (typed h)
    typed (typing.nots at h) = nots (typed h)
    typed (typing.negates at h) = operates {op = Subtract} {t = type.Int} (inl refl) (number at 0) (typed h)
    typed (typing.operates at o h k) = operated p scope at o (typed h) (typed k)
    typed (typing.scales at q n h) = scales q n (typed h)
    typed (typing.fraction at q r n d l) = part at n d l
    typed (typing.chooses at g h k) = chooses (typed g) (typed h) (typed k)
    typed (typing.olds at h o) = olds (typed h)
    typed (typing.unfoldings at i {ts = ts} m h k g) =
        let d = sees.members.predicate i.name ts true m in
        unfoldings i.name d.0 d.1 (all_typed h d.0.parameters d.2) (share_typed at k) (typed g)

    pub all_typed : {es : written.Exprs} {ts : List ValueType} → typing.HaveTypes s es ts → (ds : List Declaration) → types ds ≡ ts → HaveTypes p scope (expressions es) ds
    all_typed typing.no_more [] e = no_more
    all_typed typing.no_more (d ∷ ds) e = (cc)
    all_typed (typing.more h k) [] e = (cc)
    all_typed (typing.more {e = a} {t = t} {ts = ts} h k) (d ∷ ds) e =
        let first : d.of ≡ t = cc in
        let rest : types ds ≡ ts = cc in
        more (subst (HasType p scope (expression a)) (sym first) (typed h)) (all_typed k ds rest)

    pub share_typed : (at : Place) {share : written.Amount} → typing.IsShare s share → HasType p scope (amount at share) type.Perm
    share_typed at typing.all = whole_share p scope at
    share_typed at (typing.part h m c) = typed h
