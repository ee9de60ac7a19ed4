use Rattle.std.proofs.Common.{◌≡◌, rules, ◌∷◌}
use Rattle.cs_commands.specs.Views.{scope, head, stack}
use Rattle.cs_commands.proofs.Openings.{opens}
use Rattle.cs_commands.proofs.term.open.Goals as goal

pub returns-in_ok-begin-in-Some-clause-read : goal.returns-in_ok-begin-in-Some-clause-read
returns-in_ok-begin-in-Some-clause-read c =
    let split : c.args.rest.now ≡ c.in-Some.first.now ∷ c.in-Some.behind.now = search rules in
    opens (scope c.args.live.now) (stack c.args.frames.now.items) (stack c.begin.new.frames.items) c.in-Some.first.now c.in-Some.behind.now c.args.rest.now (head c.in_ok-head-in-Some.head)
    split c.in_ok-head-in-Some.ensures c.in_ok-begin-in-Some.ensures
