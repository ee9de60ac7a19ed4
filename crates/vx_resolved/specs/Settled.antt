-- The program that a settled one is.
use Rattle.std.specs.Prelude.{Option, option_map}
use Rattle.std.specs.declared.alloc.Global.{Global}
use Rattle.std.specs.declared.rc.Rc.{Rc}
use Rattle.vx_resolved.specs.declared.settled.Settled.{Settled}
use Rattle.vx_resolved.specs.declared.Predicate as predicate'
use Rattle.vx_resolved.specs.declared.Function as function'
use Rattle.vx_resolved.specs.declared.Method as method'
use Rattle.vx_ast.specs.Syntax.{Program, Predicate, Function, Method}
use Rattle.vx_resolved.specs.Resolved.{program, predicate, function, method}

-- its members in file order, with their names settled
abbrev pub settled : Settled → Program
settled t = program t.program

abbrev pub optional_predicate : Option (Rc predicate'.Predicate Global) → Option Predicate
optional_predicate o = option_map (λ d. predicate d.value) o

abbrev pub optional_function : Option (Rc function'.Function Global) → Option Function
optional_function o = option_map (λ f. function f.value) o

abbrev pub optional_method : Option (Rc method'.Method Global) → Option Method
optional_method o = option_map (λ m. method m.value) o
