-- Paths that only grow on each way through a tree.
use Rattle.std.specs.Prelude.{◌≡◌, List, [], ◌++◌}
use Rattle.vx_ast.specs.Syntax.{Name, Program, Kind}
use Rattle.vx_terms.specs.Terms.{Term}
use Rattle.vx_rules.specs.States.{path_terms}
use Rattle.vx_rules.specs.Trees.{Tree, End, Impossible, On, Step, Ask, Probe, Fork}
use Rattle.vx_rules.specs.Members.{tree}

-- a path is the base and then the rest
pub record Begins (base path : List Term) : Type 0 where
  pub rest : List Term
  pub is : path ≡ base ++ rest

-- The path of each question begins with that of the question above it in the tree, or with the base where none is; so does the path
-- of each state that an evaluation leaves.
abbrev pub Grows : List Term → Tree → Type 0
Grows base End = Unit {0}
Grows base (Impossible s) = Unit {0}
Grows base (On t s) = Begins base (path_terms s.path)
Grows base (Step t) = Grows base t
Grows base (Ask q t) = Begins base q.path × Grows q.path t
Grows base (Probe q a b) = Begins base q.path × Grows q.path a × Grows q.path b
Grows base (Fork a b) = Grows base a × Grows base b

-- for each member of a program, whatever its types
abbrev pub GrowthLaw : Type 0
GrowthLaw = (p : Program) (x : Name) (k : Kind) → Grows [] (tree p x k)
