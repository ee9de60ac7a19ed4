-- What the names of a program stand for, in code.
use Rattle.std.specs.Prelude.{Bool, string_bytes}
use Rattle.std.specs.HashSet.{HashSet, contains_by}
use Rattle.std.specs.Str.{bytes_eq}
use Rattle.std.specs.declared.alloc.Global.{Global}
use Rattle.std.specs.declared.string.String.{String}
use Rattle.vx_ast.specs.Syntax.{Name}
use Rattle.vx_ast.specs.Resolve as resolve
use Rattle.vx_resolved.specs.Resolved.{names_of}
use Rattle.vx_settling.specs.declared.names.Names.{Names}

abbrev pub has_name : {S : Type 0} → HashSet (String Global) S → Name → Bool
has_name names x = contains_by (λ k. bytes_eq x (string_bytes k)) names

abbrev pub names_in : Names → resolve.Names
names_in t = record { is_predicate = has_name t.predicates; is_method = has_name t.methods; fields = names_of t.fields.value.items }
