use Rattle.cs_linear.proofs.Lists.{read_as}
use Rattle.std.proofs.Common.{Some, ap, ◌∙◌, Option, ℕ}
use Rattle.cs_linear.proofs.tableau.Tableau.mend.Goals as goal

pub move_to-requires-clause-free : goal.move_to-requires-clause-free
move_to-requires-clause-free c = read_as c.args.self.now.homes.items c.args.bound.column c.index.result.now c.requires.known c.index.ensures ∙ ap (λ (o : Option ℕ). Some o) c.in-None.is

pub mend_basic-requires-clause-home : goal.mend_basic-requires-clause-home
mend_basic-requires-clause-home c = read_as c.args.self.now.homes.items c.args.bound.column c.index.result.now c.requires.known c.index.ensures ∙ ap (λ (o : Option ℕ). Some o) c.in-Some.is
