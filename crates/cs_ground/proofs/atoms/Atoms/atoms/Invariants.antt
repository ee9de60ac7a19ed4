use Rattle.std.proofs.Common.{◌≡◌, ◌<◌, length, take}
use Rattle.std.specs.List.{All}
use Rattle.cs_ground.specs.Atoms.{all_named}
use Rattle.cs_ground.proofs.atoms.Atoms.atoms.Given as goal

abbrev pub invariant-loop-literal : goal.invariant-loop-literal
invariant-loop-literal l = record {
  same : all_named l.self.terms.items l.all.items ≡ take l.literal-index l.of;
  within : All (λ x. x.number < length l.self.terms.items) l.all.items;
}
