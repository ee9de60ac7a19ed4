use Rattle.std.proofs.Common.{◌≡◌, ◌⊎◌, take}
use Rattle.std.specs.List.{All}
use Rattle.cs_search.specs.Assignment.{BecameFalse}
use Rattle.cs_search.proofs.choose.spare.Given as goal

abbrev pub invariant-loop-literal : goal.invariant-loop-literal
invariant-loop-literal l = All (λ m. (m ≡ l.but) ⊎ BecameFalse l.values m) (take l.literal-index l.literals)
