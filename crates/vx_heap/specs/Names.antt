-- What a resource is, and its name.
use Rattle.std.specs.Prelude.{Bool, true, false, string_bytes}
use Rattle.vx_ast.specs.Syntax.{Name}
use Rattle.vx_heap.specs.declared.chunk.Resource.{Resource}
use Rattle.vx_heap.specs.declared.chunk.Resource.TheVariants as resource

abbrev pub is_field : Resource → Bool
is_field (resource.Field x) = true
is_field (resource.Predicate x) = false

abbrev pub name : Resource → Name
name (resource.Field x) = string_bytes x.value
name (resource.Predicate x) = string_bytes x.value
