use Rattle.std.proofs.Common.{Some, None}
use Rattle.cs_search.proofs.Choices.{last_same, last_first, other_false, option_last}
use Rattle.cs_search.proofs.choose.last_with.Goals as goal

pub returns-then-same : goal.returns-then-same
returns-then-same c list h = last_same c.args.values.now list c.args.literal c.args.but c.args.last (c.same.ensures.0 c.if-same.true) h

pub returns-in-None : goal.returns-in-None
returns-in-None c list h =
    let w = other_false c.args.values.now c.args.literal c.args.but c.same.result c.same.ensures c.if-same.false c.requires in
    last_first c.args.values.now list c.args.literal c.args.but w.0 w.1 (option_last c.args.values.now list c.args.but c.args.last None c.in-None.is h)

pub later-requires : goal.later-requires
later-requires c =
    let w = other_false c.args.values.now c.args.literal c.args.but c.same.result c.same.ensures c.if-same.false c.requires in
    record { other = w.0; falsified = w.1 }

pub returns-in-Some : goal.returns-in-Some
returns-in-Some c list h = c.later.ensures list (option_last c.args.values.now list c.args.but c.args.last (Some c.in-Some.top) c.in-Some.is h)
