use Rattle.std.proofs.Common.{◌∙◌, ap}
use Rattle.std.specs.Prelude.{nat_eq}
use Rattle.cs_farkas.proofs.Cleared.{all_zero, clear_from}
use Rattle.cs_farkas.proofs.sums.Sums.is_clear.Goals as goal

pub returns-clause-value : goal.returns-clause-value
returns-clause-value c = ap (λ n. nat_eq n 0) c.args.self.now.counted ∙ all_zero c.args.self.now.columns.items

pub returns-clause-clear : goal.returns-clause-clear
returns-clause-clear c h = clear_from c.args.self.now.columns.items (c.args.self.now.counted) h
