-- Lists of statements, and what is added to them.
use Rattle.std.proofs.Common.{◌≡◌, ◌++◌, ◌∷◌, [], List, refl, ap}
use Rattle.std.proofs.lemmas.List.{map-append}
use Rattle.std.specs.declared.alloc.Global.{Global}
use Rattle.std.specs.declared.rc.Rc.{Rc}
use Rattle.vx_resolved.specs.declared.Stmt as stmt'
use Rattle.vx_resolved.specs.Resolved as settled
use Rattle.vx_ast.specs.Syntax.{Stmt, Block, Then}
use Rattle.vx_settling.specs.Parts.{onto, stmts}

pub onto_last : (ss : List Stmt) (s : Stmt) (rest : Block) → onto (ss ++ s ∷ []) rest ≡ onto ss (Then s rest)
onto_last [] s rest = refl
onto_last (x ∷ ss) s rest = ap (Then x) (onto_last ss s rest)

pub stmts_last : (items : List (Rc stmt'.Stmt Global)) (s : Rc stmt'.Stmt Global) → stmts (items ++ s ∷ []) ≡ stmts items ++ settled.stmt s.value ∷ []
stmts_last items s = map-append (λ (x : Rc stmt'.Stmt Global). settled.stmt x.value) items (s ∷ [])
