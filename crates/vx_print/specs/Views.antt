-- Parts of a program as they are written.
use Rattle.std.specs.Prelude.{List, [], ◌∷◌, map, vec_items, Option, Some, None}
use Rattle.std.specs.declared.alloc.Global.{Global}
use Rattle.std.specs.declared.rc.Rc.{Rc}
use Rattle.vx_ast.specs.declared.Block as block
use Rattle.vx_ast.specs.declared.Stmt as stmt
use Rattle.vx_ast.specs.declared.Predicate as predicate
use Rattle.vx_ast.specs.declared.Function as function
use Rattle.vx_ast.specs.declared.Method as method
use Rattle.vx_ast.specs.Written.{Other, NoElse, Else, Block, Done, Then, Predicate, Function, Method, written_stmt, written_block, written_declaration, written_clause, written_expr, optional_expr, optional_block}

abbrev pub statements : List stmt.Stmt → Block
statements [] = Done
statements (s ∷ ss) = Then (written_stmt s.place s.kind) (statements ss)

-- the other side of an `if`
abbrev pub other_of : Option (Rc block.Block Global) → Other
other_of None = NoElse
other_of (Some b) = Else (written_block b.value)

abbrev pub written_predicate : predicate.Predicate → Predicate
written_predicate p = record { parameters = map written_declaration (vec_items p.parameters); body = optional_expr p.body }

abbrev pub written_function : function.Function → Function
written_function f = record { parameters = map written_declaration (vec_items f.parameters); of = f.value_type; clauses = map written_clause (vec_items f.clauses); body = written_expr f.body.value }

abbrev pub written_method : method.Method → Method
written_method m = record { parameters = map written_declaration (vec_items m.parameters); returns = map written_declaration (vec_items m.returns); clauses = map written_clause (vec_items m.clauses); body = optional_block m.body }
