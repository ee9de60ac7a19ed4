-- The runs of a small program, and what its lines must say.
--
--     predicate P(x: Int) { 1 \ x == 1 }
--     method m(x: Int) requires P(x)
--     method k()
use Rattle.std.specs.Prelude.{◌≡◌, ℕ, true, List, [], ◌∷◌, None, Some, codes}
use Rattle.vx_ast.specs.declared.Place.{Place}
use Rattle.vx_ast.specs.declared.ValueType.TheVariants.{Int}
use Rattle.vx_ast.specs.Syntax.{Name, Declaration, Program, Predicate, Method, IsPredicate, IsMethod, Number, Part, Variable, Operate, Equal, Divide, Quotient, NoMore, More, Pure, Instance}
use Rattle.vx_report.specs.Reports.{verdict_text}
use Rattle.vx_report.specs.declared.run.MemberRun.{MemberRun}
use Rattle.vx_report.specs.declared.run.Verdict.{Verdict}
use Rattle.vx_report.specs.declared.run.Verdict.TheVariants as verdict
use Rattle.vx_resting.specs.Resting.{IsHeldUpAs, has_passed}
use Rattle.vx_rules.specs.declared.code.Code.TheVariants as code
use Rattle.vx_smt_meaning.specs.declared.reply.Reply.TheVariants as reply

abbrev pub P : Name
P = codes "P"

abbrev pub m : Name
m = codes "m"

abbrev pub k : Name
k = codes "k"

abbrev pub x : Name
x = codes "x"

abbrev pub at_column : ℕ → Place
at_column n = record { line = 1; column = n }

abbrev pub number : List Declaration
number = record { name = x; of = Int } ∷ []

abbrev pub divides : Predicate
divides = record {
  place = at_column 1;
  parameters = number;
  body = Some (Pure (Operate (at_column 24) Equal (Divide (at_column 22) Quotient (Number (at_column 20) 1) (Variable (at_column 24) x)) (Number (at_column 29) 1)));
}

abbrev pub requires_it : Method
requires_it = record {
  place = at_column 1;
  parameters = number;
  returns = [];
  requires = Instance (at_column 29) P (More (Variable (at_column 31) x) NoMore) (Part (at_column 29) 1 1) ∷ [];
  ensures = [];
  body = None;
}

abbrev pub stands_alone : Method
stands_alone = record { place = at_column 1; parameters = []; returns = []; requires = []; ensures = []; body = None }

abbrev pub members : Program
members =
    record { name = P; kind = IsPredicate divides }
    ∷ record { name = m; kind = IsMethod requires_it }
    ∷ record { name = k; kind = IsMethod stands_alone }
    ∷ []

abbrev pub run_of : ℕ → Verdict → MemberRun
run_of n v = record { member = record { 0 = n }; lane = 0; child = 0; first = 0; checks = 0; verdict = v }

-- the divisor of P may be 0, and the walks of m and k passed
abbrev pub runs : List MemberRun
runs = run_of 0 (verdict.Failed (at_column 22) code.Divisor reply.Sat) ∷ run_of 1 verdict.Verified ∷ run_of 2 verdict.Verified ∷ []

-- with these runs no other verdict is right for a member whose walk passed
abbrev pub MustRead : ℕ → List ℕ → Type 0
MustRead n text = (v : Verdict) → has_passed v ≡ true → IsHeldUpAs members n runs v → verdict_text members v ≡ text
