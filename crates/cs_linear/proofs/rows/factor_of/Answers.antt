use Rattle.cs_linear.proofs.Found.{looking, looked, found_here, none_here, rest_here, none_left, rest_left}
use Rattle.cs_linear.proofs.rows.factor_of.Goals as goal

pub loop-entry-init : goal.loop-entry-init
loop-entry-init c = looking c.args.entries.now c.args.column c.requires

pub loop-entry-preserved : goal.loop-entry-preserved
loop-entry-preserved c = looked c.args.entries.now c.args.column c.loop-entry.entry-index c.entry-item.result c.loop-entry-test.true c.entry-item.is c.loop-entry.invariant c.if-entry-column.false

pub returns-then-entry-column-clause-some : goal.returns-then-entry-column-clause-some
returns-then-entry-column-clause-some c = found_here c.args.entries.now c.args.column c.loop-entry.entry-index c.entry-item.result c.loop-entry-test.true c.entry-item.is c.loop-entry.invariant c.if-entry-column.true

pub returns-then-entry-column-2-clause-nothing : goal.returns-then-entry-column-2-clause-nothing
returns-then-entry-column-2-clause-nothing c = none_here c.args.entries.now c.args.column c.loop-entry.entry-index c.entry-item.result c.loop-entry-test.true c.entry-item.is c.loop-entry.invariant c.if-entry-column-2.true

pub returns-then-entry-column-2-clause-rest : goal.returns-then-entry-column-2-clause-rest
returns-then-entry-column-2-clause-rest c = rest_here c.args.entries.now c.args.column c.loop-entry.entry-index c.entry-item.result c.loop-entry-test.true c.entry-item.is c.loop-entry.invariant c.if-entry-column-2.true

pub returns-clause-nothing : goal.returns-clause-nothing
returns-clause-nothing c = none_left c.args.entries.now c.args.column c.loop-entry.entry-index c.loop-entry-test.false c.loop-entry.invariant

pub returns-clause-rest : goal.returns-clause-rest
returns-clause-rest c = rest_left c.args.entries.now c.args.column c.loop-entry.entry-index c.loop-entry-test.false c.loop-entry.invariant
