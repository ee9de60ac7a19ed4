-- What holds the members up, by their numbers in the file, and what becomes of the verdicts then.
use Rattle.std.specs.Prelude.{◌<◌, ℕ, Bool, true, false, List, length, Option, Some, None, get_or}
use Rattle.vx_ast.specs.declared.MemberId.{MemberId}
use Rattle.vx_ast.specs.Syntax.{Program}
use Rattle.vx_report.specs.declared.run.Verdict.{Verdict}
use Rattle.vx_report.specs.declared.run.Verdict.TheVariants as verdict
use Rattle.vx_report.specs.declared.run.MemberRun.{MemberRun}
use Rattle.vx_resting.specs.Resting.{HoldsUp, IsFirst}

-- for each member, in file order, what holds it up
abbrev pub Held : Type 0
Held = List (Option MemberId)

abbrev pub held_at : Held → ℕ → Option MemberId
held_at held n = get_or held n None

-- each member is held up by the first of these runs that does so
abbrev pub AreFirst : Program → List MemberRun → Held → Type 0
AreFirst p runs held = (n : ℕ) → n < length p → IsFirst (HoldsUp p n) runs (held_at held n)

-- what held the member up before, or else this one, if it does so too
abbrev pub or_held_by : Option MemberId → Bool → MemberId → Option MemberId
or_held_by (Some first) too m = Some first
or_held_by None true m = Some m
or_held_by None false m = None

abbrev pub when_passed : Option MemberId → Verdict
when_passed (Some m) = verdict.Rests m
when_passed None = verdict.Verified

-- the verdict, once it is known what holds its member up
abbrev pub verdict_with : Option MemberId → Verdict → Verdict
verdict_with held verdict.Verified = when_passed held
verdict_with held (verdict.Rests m) = verdict.Rests m
verdict_with held (verdict.Failed at c r) = verdict.Failed at c r
verdict_with held verdict.Limit = verdict.Limit
verdict_with held (verdict.Fault c) = verdict.Fault c

abbrev pub rested : Held → MemberRun → MemberRun
rested held r = record r { verdict = verdict_with (held_at held r.member.0) r.verdict }
