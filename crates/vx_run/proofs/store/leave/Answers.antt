use Rattle.std.proofs.Common.{sym, ◌∙◌, ap}
use Rattle.std.specs.Prelude.{string_bytes}
use Rattle.std.specs.List.{take-map}
use Rattle.vx_run.specs.Stores.{store}
use Rattle.vx_run.specs.Views.{value}
use Rattle.vx_run.proofs.store.leave.Goals as goal

pub returns : goal.returns
returns c = ap store c.truncate.ensures.items ∙ sym (take-map (λ x. (string_bytes x.name.value, value x.value)) c.args.kept c.args.variables.now.items)
