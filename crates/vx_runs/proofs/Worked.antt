-- method bad() ensures false { } method m() { bad() }: each whole run of m fails in bad, at its postcondition.
use Rattle.std.proofs.Common.{[], refl}
use Rattle.vx_ast.specs.Syntax.{Call, NoMore, Done, Then}
use Rattle.vx_meaning.specs.Outcomes.{passes, refused, goes_on, is_over}
use Rattle.vx_runs.specs.Whole.{WholeRunFails}
use Rattle.vx_runs.specs.Examples.{column, bad, both, calls}

pub fails_in_the_callee : WholeRunFails both calls (column 22)
fails_in_the_callee = record {
  body = Then (Call (column 45) [] bad NoMore) Done;
  is_body = refl;
  arguments = [];
  returns = [];
  arguments_typed = tt;
  returns_typed = tt;
  heap = [];
  fuel = 2;
  fails =
      goes_on _ (passes _ (0, λ m le. refl) refl)
      (is_over tt (is_over tt (passes [] (0, λ m le. refl) (passes [] (0, λ m le. refl) ([], (tt, goes_on _ refl (refused (column 22) (0, λ m le. refl) refl)))))));
}
