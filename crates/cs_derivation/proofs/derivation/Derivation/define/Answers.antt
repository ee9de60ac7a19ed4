use Rattle.std.proofs.Common.{rules}
use Rattle.cs_derivation.proofs.derivation.Derivation.define.Goals as goal

pub returns : goal.returns
returns c = search rules
