use Rattle.cs_certificate.specs.Certificate.{Define}
use Rattle.cs_derivation.specs.View.{reached}
use Rattle.cs_ground.proofs.Collected.{Row, is_define, first_none, next_tried, last_row}
use Rattle.cs_ground.proofs.clauses.add_rows.Goals as goal

pub loop-row-init : goal.loop-row-init
loop-row-init c = λ stack h. first_none (Row c.args.t) stack (reached c.args.derivation.now) h

pub returns-then-is_none : goal.returns-then-is_none
returns-then-is_none c = λ stack h.
    last_row c.args.t c.loop-row.row stack (reached c.args.derivation.now) (reached c.loop-row.derivation) (reached c.define.new.self) c.in_ok-define.field-0 c.if-is_none.ensures (c.loop-row.invariant stack h) (c.in_ok-define.ensures stack)

pub loop-row-preserved : goal.loop-row-preserved
loop-row-preserved c = λ stack h.
    next_tried (Define c.args.t) c.loop-row.row stack (reached c.args.derivation.now) (reached c.loop-row.derivation) (reached c.define.new.self) c.in_ok-define.field-0 (is_define c.args.t c.loop-row.row) (c.loop-row.invariant stack h) (c.in_ok-define.ensures stack)
