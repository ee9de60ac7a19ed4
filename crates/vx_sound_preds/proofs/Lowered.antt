-- What a walk shows of the measures of applications, as the meaning has it: in the heap of a start, those of the function's group have
-- a lesser measure. So none of them doesn't lower it.
use Rattle.std.proofs.Common.{◌≡◌, true, List, Some, refl}
use Rattle.vx_ast.specs.Syntax.{Name, Program, Function, Measure}
use Rattle.vx_meaning.specs.Values.{Value}
use Rattle.vx_meaning.specs.States as run
use Rattle.vx_meaning.specs.Fails.{LowersMeasure, DoesNotLower, Application}
use Rattle.vx_meaning.specs.Group.{InGroup}
use Rattle.vx_rules.specs.Groups.{is_in_group}

-- in the heap of the start an application of the function's group lowers its measure
abbrev pub LowersFrom : Program → Name → Function → run.State → run.Heap → Name → List Value → Type 0
LowersFrom p f g s h f' vs = h ≡ s.heap → is_in_group p f f' ≡ true → (e : Measure) × (g.decreases ≡ Some e) × LowersMeasure p e s f' vs

-- so it refutes those that don't
pub lowers_refutes : (p : Program) (f : Name) (g : Function) (s : run.State) (a : Application) → (InGroup p f a.0 → is_in_group p f a.0 ≡ true) → LowersFrom p f g s s.heap a.0 a.1 → DoesNotLower p f g.decreases s a → ⊥
lowers_refutes p f g s a decided lowers (inside, none) = let k = lowers refl (decided inside) in none k.0 k.1 k.2
