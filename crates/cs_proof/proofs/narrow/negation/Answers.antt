use Rattle.std.proofs.Common.{◌≡◌, ℕ, Bool, true, false, not, refl}
use Rattle.cs_table.specs.Gives.{numbered}
use Rattle.cs_proof.specs.Prepared as clean
use Rattle.cs_proof.proofs.narrow.negation.Goals as goal

turned_one : (b : Bool) (n : ℕ) → numbered (record { positive = not b; number = n }) ≡ clean.turned (numbered (record { positive = b; number = n }))
turned_one true n = refl
turned_one false n = refl

pub returns : goal.returns
returns c = turned_one c.args.literal.now.positive c.args.literal.now.number
