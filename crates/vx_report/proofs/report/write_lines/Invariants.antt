use Rattle.std.proofs.Common.{◌≡◌, ◌++◌, drop, string_bytes}
use Rattle.vx_resolved.specs.Settled.{settled}
use Rattle.vx_report.specs.Reports.{lines_of}
use Rattle.vx_report.proofs.report.write_lines.Given as goal

abbrev pub invariant-loop-run : goal.invariant-loop-run
invariant-loop-run l = string_bytes l.out ++ lines_of (settled l.program) (drop l.run-index l.runs) ≡ string_bytes l.initial.out ++ lines_of (settled l.program) l.runs
