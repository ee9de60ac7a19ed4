use Rattle.std.proofs.Common.{◌<◌, subst, arith}
use Rattle.vx_sexp.specs.declared.reader.SexpFault.TheVariants as fault
use Rattle.vx_sexp.specs.First.{Faults, deepest}
use Rattle.vx_sexp.proofs.Exact.{fault_excludes, deep_excludes}
use Rattle.vx_dialogue.proofs.Faulted.{short_here}
use Rattle.vx_dialogue.proofs.item.whole_item.Goals as goal

pub unreachable-requires-in-Err-BadToken : goal.unreachable-requires-in-Err-BadToken
unreachable-requires-in-Err-BadToken c =
    let faults = subst (λ e. Faults e c.args.bytes.now) c.in-Err-BadToken.field-0-is c.in-Err-BadToken.ensures.fault in
    fault_excludes (fault.BadToken c.in-Err-BadToken.field-0-0) c.args.bytes.now c.requires.1.1 _ faults c.requires.1.2

pub unreachable-requires-in-Err-Deep : goal.unreachable-requires-in-Err-Deep
unreachable-requires-in-Err-Deep c =
    let faults = subst (λ e. Faults e c.args.bytes.now) c.in-Err-Deep.field-0-is c.in-Err-Deep.ensures.fault in
    let deep : 4096 < deepest 0 c.requires.1.1 = deep_excludes c.in-Err-Deep.field-0-0 c.args.bytes.now c.requires.1.1 _ faults c.requires.1.2 in
    let shallow = c.requires.1.3 in
    omega arith

pub returns-in-Ok-clause-item : goal.returns-in-Ok-clause-item
returns-in-Ok-clause-item c =
    let first = c.in-Ok.ensures.first in
    (first.0, short_here c.args.bytes.now _ _ c.requires.0 c.requires.1 c.requires.2 first.1)
