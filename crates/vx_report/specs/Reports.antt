-- The text of the report: a line for each member that has one, in the order of the runs, and the total line.
use Rattle.std.specs.Prelude.{ℕ, ◌+◌, Bool, true, false, List, [], ◌∷◌, ◌++◌, Option, Some, None, codes, slice_get, ◌<◌, length, ⊤}
use Rattle.std.specs.List.{All}
use Rattle.std.specs.Fmt.{decimal}
use Rattle.vx_ast.specs.declared.Place.{Place}
use Rattle.vx_ast.specs.Syntax.{Program, Member, Kind, IsField, IsPredicate, IsFunction, IsMethod}
use Rattle.vx_rules.specs.declared.code.Code.{Code}
use Rattle.vx_rules.specs.declared.code.Code.TheVariants as code
use Rattle.vx_smt_meaning.specs.declared.reply.Reply.{Reply}
use Rattle.vx_smt_meaning.specs.declared.reply.Reply.TheVariants as reply
use Rattle.vx_report.specs.declared.run.Cause.{Cause}
use Rattle.vx_report.specs.declared.run.Cause.TheVariants as cause
use Rattle.vx_report.specs.declared.run.Verdict.{Verdict}
use Rattle.vx_report.specs.declared.run.Verdict.TheVariants as verdict
use Rattle.vx_report.specs.declared.run.MemberRun.{MemberRun}

abbrev pub code_word : Code → List ℕ
code_word code.Assert = codes "F01"
code_word code.Permission = codes "F02"
code_word code.Amount = codes "F03"
code_word code.Divisor = codes "F04"
code_word code.Call = codes "F05"
code_word code.Function = codes "F06"
code_word code.Postcondition = codes "F07"
code_word code.Entry = codes "F08"
code_word code.Kept = codes "F09"
code_word code.Fold = codes "F10"
code_word code.Unfold = codes "F11"
code_word code.Measure = codes "F12"

abbrev pub reply_word : Reply → List ℕ
reply_word reply.Unsat = codes "unsat"
reply_word reply.Sat = codes "sat"
reply_word reply.Unknown = codes "unknown"

abbrev pub cause_word : Cause → List ℕ
cause_word cause.Pipe = codes "pipe"
cause_word cause.Start = codes "start"
cause_word cause.Spent = codes "spent"
cause_word (cause.Reply kept) = codes "reply"

-- line and column with a colon between them
abbrev pub place_text : Place → List ℕ
place_text p = decimal p.line ++ codes ":" ++ decimal p.column

abbrev pub kind_word : Kind → List ℕ
kind_word (IsField t) = codes "field"
kind_word (IsPredicate p) = codes "predicate"
kind_word (IsFunction f) = codes "function"
kind_word (IsMethod m) = codes "method"

abbrev pub title_of : Option Member → List ℕ
title_of (Some m) = kind_word m.kind ++ codes " " ++ m.name
title_of None = []

abbrev pub verdict_text : Program → Verdict → List ℕ
verdict_text p verdict.Verified = codes "verified"
verdict_text p (verdict.Failed at c r) = codes "failed at " ++ place_text at ++ codes " " ++ code_word c ++ codes " (" ++ reply_word r ++ codes ")"
verdict_text p (verdict.Rests m) = codes "rests on " ++ title_of (slice_get p m.0)
verdict_text p verdict.Limit = codes "limit of 100000 checks"
verdict_text p (verdict.Fault c) = codes "fault " ++ cause_word c

-- `KIND name: VERDICT`
abbrev pub line_of : Program → MemberRun → List ℕ
line_of p r = title_of (slice_get p r.member.0) ++ codes ": " ++ verdict_text p r.verdict ++ 10 ∷ []

abbrev pub lines_of : Program → List MemberRun → List ℕ
lines_of p [] = []
lines_of p (r ∷ rs) = line_of p r ++ lines_of p rs

-- How many have a verdict of each sort.

abbrev pub one_if : Bool → ℕ
one_if true = 1
one_if false = 0

abbrev pub count_of : (Verdict → Bool) → List MemberRun → ℕ
count_of is [] = 0
count_of is (r ∷ rs) = one_if (is r.verdict) + count_of is rs

abbrev pub is_verified : Verdict → Bool
is_verified verdict.Verified = true
is_verified _ = false

abbrev pub is_failed : Verdict → Bool
is_failed (verdict.Failed p c r) = true
is_failed _ = false

abbrev pub is_resting : Verdict → Bool
is_resting (verdict.Rests m) = true
is_resting _ = false

abbrev pub is_limited : Verdict → Bool
is_limited verdict.Limit = true
is_limited _ = false

abbrev pub is_faulted : Verdict → Bool
is_faulted (verdict.Fault c) = true
is_faulted _ = false

abbrev pub decided_text : ℕ → ℕ → List ℕ
decided_text verified failed = (decimal verified ++ codes " verified, ") ++ (decimal failed ++ codes " failed, ")

abbrev pub resting_text : ℕ → List ℕ
resting_text resting = decimal resting ++ codes " resting, "

abbrev pub others_text : ℕ → ℕ → List ℕ
others_text limited faulted = (decimal limited ++ codes " limited, ") ++ (decimal faulted ++ codes " faults\n")

abbrev pub total_of : List MemberRun → List ℕ
total_of rs = decided_text (count_of is_verified rs) (count_of is_failed rs) ++ (resting_text (count_of is_resting rs) ++ others_text (count_of is_limited rs) (count_of is_faulted rs))

abbrev pub report_of : Program → List MemberRun → List ℕ
report_of p rs = lines_of p rs ++ total_of rs

-- what it rests on is one of the program's members
abbrev pub RestsWithin : Program → Verdict → Type 0
RestsWithin p (verdict.Rests m) = m.0 < length p
RestsWithin p verdict.Verified = ⊤
RestsWithin p (verdict.Failed at c r) = ⊤
RestsWithin p verdict.Limit = ⊤
RestsWithin p (verdict.Fault c) = ⊤

abbrev pub RestWithin : Program → List MemberRun → Type 0
RestWithin p rs = All (λ r. RestsWithin p r.verdict) rs

-- each run's member is one of the program's
abbrev pub AreNamed : Program → List MemberRun → Type 0
AreNamed p rs = All (λ r. r.member.0 < length p) rs
