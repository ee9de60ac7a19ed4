-- What typing asks of groups of functions and predicates.
use Rattle.std.specs.Prelude.{◌≡◌, ℕ, Bool, true, false, [], Some}
use Rattle.vx_ast.specs.Written.{Expr, Call, Predicate, Function, IsPredicate, IsFunction, Program, measure_of}
use Rattle.vx_expressions.specs.Settings.{Table, is_predicate}
use Rattle.vx_expressions.specs.Scopes.{named}
use Rattle.vx_typing.specs.Members.{table_of}
use Rattle.vx_typing.specs.Uses.{Each, uses_before, uses_of_body}
use Rattle.vx_typing.specs.Groups.{kind_at, Reaches, InGroup, IsOwn}

-- whether it measures by an instance: the other measures are numbers
abbrev pub is_instance : Table → Expr → Bool
is_instance table (Call at i es) = is_predicate (named table i)
is_instance table e = false

-- a function that reaches itself has a measure, and those of one group measure alike
pub record AreMeasured (p : Program) : Type 0 where
  pub measured : (a : ℕ) (f : Function) → kind_at p a ≡ Some (IsFunction f) → Reaches p a a → (e : Expr) × (measure_of f.clauses ≡ Some e)
  pub alike : (a b : ℕ) (f g : Function) (d e : Expr) → kind_at p a ≡ Some (IsFunction f) → kind_at p b ≡ Some (IsFunction g) → InGroup p a b →
      measure_of f.clauses ≡ Some d → measure_of g.clauses ≡ Some e → is_instance (table_of p) d ≡ is_instance (table_of p) e

-- No function's precondition names its own group, and no predicate's body unfolds its own. Where members are typed, the
-- group of a function has functions alone, since no predicate's body applies one.
pub record KeepApart (p : Program) : Type 0 where
  pub preconditions : (a : ℕ) (f : Function) → kind_at p a ≡ Some (IsFunction f) → Each (λ u. IsOwn p a u.name → ⊥) (uses_before f.clauses [])
  pub bodies : (a : ℕ) (d : Predicate) → kind_at p a ≡ Some (IsPredicate d) → Each (λ u. u.unfolds ≡ true → IsOwn p a u.name → ⊥) (uses_of_body d.body [])
