use Rattle.std.proofs.Common.{◌≡◌, ◌≤◌, ◌+◌, drop}
use Rattle.vx_report.specs.Reports.{count_of, is_verified, is_failed, is_resting, is_limited, is_faulted}
use Rattle.vx_report.proofs.report.totals_of.Given as goal

abbrev pub invariant-loop-run : goal.invariant-loop-run
invariant-loop-run l = record {
  verified : l.totals.verified + count_of is_verified (drop l.run-index l.runs) ≡ count_of is_verified l.runs;
  failed : l.totals.failed + count_of is_failed (drop l.run-index l.runs) ≡ count_of is_failed l.runs;
  resting : l.totals.resting + count_of is_resting (drop l.run-index l.runs) ≡ count_of is_resting l.runs;
  limited : l.totals.limited + count_of is_limited (drop l.run-index l.runs) ≡ count_of is_limited l.runs;
  faulted : l.totals.faulted + count_of is_faulted (drop l.run-index l.runs) ≡ count_of is_faulted l.runs;
  verified_fits : l.totals.verified ≤ l.run-index;
  failed_fits : l.totals.failed ≤ l.run-index;
  resting_fits : l.totals.resting ≤ l.run-index;
  limited_fits : l.totals.limited ≤ l.run-index;
  faulted_fits : l.totals.faulted ≤ l.run-index;
}
