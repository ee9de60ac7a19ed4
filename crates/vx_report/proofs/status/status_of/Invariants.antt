use Rattle.std.proofs.Common.{◌≡◌, take, false, if◌then◌else◌}
use Rattle.std.specs.Prelude.{not}
use Rattle.std.specs.List.{list_any}
use Rattle.vx_report.specs.Reports.{is_verified, is_faulted}
use Rattle.vx_report.specs.declared.status.Status.TheVariants.{Done, NotVerified}
use Rattle.vx_report.proofs.status.status_of.Given as goal

abbrev pub invariant-loop-run : goal.invariant-loop-run
invariant-loop-run l = record {
  calm : list_any (λ r. is_faulted r.verdict) (take l.run-index l.runs) ≡ false;
  so_far : l.status ≡ (if list_any (λ r. not (is_verified r.verdict)) (take l.run-index l.runs) then NotVerified else Done);
}
