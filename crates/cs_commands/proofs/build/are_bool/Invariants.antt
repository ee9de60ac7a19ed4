use Rattle.std.proofs.Common.{◌≡◌, drop, map}
use Rattle.std.specs.List.{list_all}
use Rattle.vx_terms.specs.Views.{term}
use Rattle.cs_commands.specs.Building.{is_bool}
use Rattle.cs_commands.proofs.build.are_bool.Given as goal

abbrev pub invariant-loop-part : goal.invariant-loop-part
invariant-loop-part l = list_all is_bool (map (λ x. term x.value) (drop l.part-index l.parts)) ≡ list_all is_bool (map (λ x. term x.value) l.fn.parts)
