use Rattle.cs_table.specs.Views.{nodes}
use Rattle.cs_tables.proofs.Made.{tabulated, modelled}
use Rattle.cs_tables.proofs.tables.tables_over.Goals as goal

pub returns : goal.returns
returns c = record {
  tables = λ all s r tells. tabulated (nodes c.args.nodes.now) all c.args.truths.now c.args.classes.now s r tells c.in_ok-entries.entries.items c.in_ok-entries.ensures;
  models = λ assertions s assigned r tells. modelled (nodes c.args.nodes.now) assertions c.args.truths.now c.args.classes.now s c.in_ok-entries.entries.items c.in_ok-entries.ensures assigned r tells;
}
