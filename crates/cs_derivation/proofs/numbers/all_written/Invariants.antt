use Rattle.std.proofs.Common.{◌≡◌, map, take}
use Rattle.vx_terms.specs.Interpretations.{Each}
use Rattle.cs_proof.specs.Views as written
use Rattle.cs_writable.specs.Writable.{IsSmallLiteral}
use Rattle.cs_derivation.specs.Taken.{numbered}
use Rattle.cs_derivation.proofs.numbers.all_written.Given as goal

abbrev pub invariant-loop-literal : goal.invariant-loop-literal
invariant-loop-literal l = record {
  value : map written.numbered l.all.items ≡ map numbered (take l.literal-index l.literals);
  small : Each IsSmallLiteral (map written.numbered l.all.items);
}
