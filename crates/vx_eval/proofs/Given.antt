-- What a value and a read lead to, by equal parts.
use Rattle.std.proofs.Common.{◌≡◌, ap, ◌∙◌}
use Rattle.vx_ast.specs.declared.Place.{Place}
use Rattle.vx_ast.specs.Syntax.{Program, Name}
use Rattle.vx_terms.specs.Sorts.{Sort}
use Rattle.vx_terms.specs.Terms.{Term}
use Rattle.vx_rules.specs.States.{State}
use Rattle.vx_rules.specs.Rules.{Giving, Going, read_field}
use Rattle.vx_stack.specs.declared.frame.Hole.{Hole}
use Rattle.vx_stack.specs.Stack.{giving}

pub gives : (p : Program) (h k : Hole) (t u : Term) → k ≡ h → t ≡ u → ◌≡◌ {A = Going} (giving p k t) (giving p h u)
gives p h k t u e f = ap {B = Going} (λ (y : Hole). giving p y t) e ∙ ap {B = Going} (λ (y : Term). giving p h y) f

pub reads : (f : Name) (r : Term) (sort : Sort) (at place : Place) (s : State) (on : Giving) → at ≡ place → read_field f r sort at s on ≡ read_field f r sort place s on
reads f r sort at place s on e = ap (λ y. read_field f r sort y s on) e
