use Rattle.std.proofs.Common.{subst}
use Rattle.vx_sexp.specs.declared.reader.SexpFault.TheVariants as fault
use Rattle.vx_sexp.specs.First.{Faults}
use Rattle.vx_sexp.proofs.Goes.{fault_means}
use Rattle.cs_serve.proofs.next.find_next.Goals as goal

pub returns-in-Err-Unfinished-clause-next : goal.returns-in-Err-Unfinished-clause-next
returns-in-Err-Unfinished-clause-next c =
    let arm = c.in-Err-Unfinished in
    let faults = subst (λ e. Faults e c.args.left.now) arm.field-0-is arm.ensures.fault.0 in
    (fault_means (fault.Unfinished arm.field-0-0) c.args.left.now faults).1

pub returns-in-Err-BadToken-clause-next : goal.returns-in-Err-BadToken-clause-next
returns-in-Err-BadToken-clause-next c =
    let arm = c.in-Err-BadToken in
    let faults = subst (λ e. Faults e c.args.left.now) arm.field-0-is arm.ensures.fault.0 in
    fault_means (fault.BadToken arm.field-0-0) c.args.left.now faults
