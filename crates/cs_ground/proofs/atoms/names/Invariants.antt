use Rattle.std.proofs.Common.{◌≡◌, take}
use Rattle.cs_ground.specs.Atoms.{all_named}
use Rattle.cs_ground.proofs.atoms.names.Given as goal

abbrev pub invariant-loop-literal : goal.invariant-loop-literal
invariant-loop-literal l = l.all.items ≡ all_named l.terms (take l.literal-index l.literals)
