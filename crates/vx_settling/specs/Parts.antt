-- Parts of a program as they are settled one after another.
use Rattle.std.specs.Prelude.{List, [], ◌∷◌, map}
use Rattle.std.specs.declared.alloc.Global.{Global}
use Rattle.std.specs.declared.rc.Rc.{Rc}
use Rattle.vx_resolved.specs.declared.Stmt as stmt'
use Rattle.vx_ast.specs.Written as written
use Rattle.vx_ast.specs.Resolve.{Names, assertion}
use Rattle.vx_resolved.specs.Resolved as settled
use Rattle.vx_ast.specs.Syntax.{Name, Assertion, Stmt, Block, Then}

abbrev pub bare : List written.Placed → List Name
bare xs = map (λ x. x.name) xs

-- what clauses require and ensure
abbrev pub required : Names → List written.Clause → List Assertion
required names cs = map (assertion names) (written.requires_of cs)

abbrev pub ensured : Names → List written.Clause → List Assertion
ensured names cs = map (assertion names) (written.ensures_of cs)

-- statements before a block
abbrev pub onto : List Stmt → Block → Block
onto [] b = b
onto (s ∷ ss) b = Then s (onto ss b)

abbrev pub stmts : List (Rc stmt'.Stmt Global) → List Stmt
stmts ss = map (λ s. settled.stmt s.value) ss
