-- States, parts and continuations that the branches of the rules are applied to.
use Rattle.std.specs.Prelude.{false, [], ◌∷◌, List, Option, None}
use Rattle.vx_ast.specs.declared.ValueType.TheVariants as type
use Rattle.vx_ast.specs.Syntax.{Expr, Variable, Declaration, Method, Block}
use Rattle.vx_rules.specs.States.{Chunk, Own, State}
use Rattle.vx_rules.specs.Trees.{Code, Tree, End, Impossible, On, Ask}
use Rattle.vx_rules.specs.Rules.{Giving, Going}
use Rattle.vx_examples.specs.Words.{at, bool, denied, falsity, ref, snap, all, asks}
use Rattle.vx_examples.specs.Cells.{hidden}
use Rattle.vx_examples.specs.Walks.{x, f, scene, quiet_scene, cell_chunk, half}

-- the literal false is asked in the scene, which is impossible once it is refuted
abbrev pub refused : Code → Tree
refused code = Ask (asks (at 1 1) code (bool 0 ∷ denied (bool 1) ∷ []) falsity) (Impossible scene)

-- what follows is the end
abbrev pub goes : Going
goes s = End

abbrev pub gives : Giving
gives t s = End

-- what follows shows what was taken
abbrev pub from_chunks : Chunk → State → Tree
from_chunks c s = On c.value s

abbrev pub read_x : Expr
read_x = Variable (at 1 1) x

-- half of cell at v0
abbrev pub with_cell : State
with_cell = record scene { heap = cell_chunk (ref 0) half (snap 3) ∷ [] }

abbrev pub quiet_with_cell : State
quiet_with_cell = record quiet_scene { heap = cell_chunk (ref 0) half (snap 3) ∷ [] }

abbrev pub hidden_chunk : Chunk
hidden_chunk = record { is_field = false; resource = hidden; arguments = ref 0 ∷ []; amount = all; value = snap 3; root = false; inner = false }

-- in the tree of f, which has no measure
abbrev pub measured_by : Own
measured_by = record { function = f; measure = None }

abbrev pub x_of : List Declaration
x_of = record { name = x; of = type.Ref } ∷ []

-- a method without parameters, returns and clauses
abbrev pub a_method : Option Block → Method
a_method b = record { place = at 1 1; parameters = []; returns = []; requires = []; ensures = []; body = b }
