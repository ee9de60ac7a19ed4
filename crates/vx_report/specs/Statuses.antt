-- The exit status.
use Rattle.std.specs.Prelude.{ℕ, List, if◌then◌else◌, not}
use Rattle.std.specs.List.{list_any}
use Rattle.vx_report.specs.declared.status.Status.{Status}
use Rattle.vx_report.specs.declared.status.Status.TheVariants.{Done, NotVerified, Usage, Unread, Refused, Faulted, Unwritten, Want}
use Rattle.vx_report.specs.declared.run.MemberRun.{MemberRun}
use Rattle.vx_report.specs.Reports.{is_verified, is_faulted}

abbrev pub status_number : Status → ℕ
status_number Done = 0
status_number NotVerified = 1
status_number Usage = 2
status_number Unread = 3
status_number Refused = 4
status_number Faulted = 5
status_number Unwritten = 6
status_number Want = 7

-- some member faulted; else some member isn't verified; else all are
abbrev pub status_among : List MemberRun → Status
status_among rs =
    if list_any (λ r. is_faulted r.verdict) rs then Faulted else (if list_any (λ r. not (is_verified r.verdict)) rs then NotVerified else Done)
