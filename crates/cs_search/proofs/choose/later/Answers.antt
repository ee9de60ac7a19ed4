use Rattle.cs_search.proofs.Choices.{last_later, last_stays}
use Rattle.cs_search.proofs.choose.later.Goals as goal

pub returns-then-place : goal.returns-then-place
returns-then-place c list h = last_later c.args.values.now list c.args.top c.args.literal c.args.but c.place.result c.place-2.result c.place.ensures c.place-2.ensures c.if-place.true c.requires.other c.requires.falsified h

pub returns-else-place : goal.returns-else-place
returns-else-place c list h = last_stays c.args.values.now list c.args.top c.args.literal c.args.but c.place.result c.place-2.result c.place.ensures c.place-2.ensures c.if-place.false c.requires.falsified h
