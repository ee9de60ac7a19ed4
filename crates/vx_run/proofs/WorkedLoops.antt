-- Computed runs: loops, steps and widths.
use Rattle.std.proofs.Common.{◌≡◌, ℕ, true, [], refl}
use Rattle.std.specs.Prelude.{◌^◌, ◌-◌, pos, negsuc}
use Rattle.vx_frac.specs.declared.Op.TheVariants as calls
use Rattle.vx_frac.specs.Fractions.{lowest, whole}
use Rattle.vx_ast.specs.declared.ValueType.TheVariants as type
use Rattle.vx_ast.specs.Syntax.{Truth, Operate, Less, Equal, Add, Subtract, Divide, Quotient, Remainder, Expr, Pure, Block, Done, Then, Declare, Assign, Assert, Assume, While}
use Rattle.vx_run.specs.Going.{Outcome, Ended, Stopped, Failed, Running, Wide}
use Rattle.vx_run.specs.Drawn.{drawn}
use Rattle.vx_run.proofs.Programs.{column, x, var, num, bare_method}

abbrev run_alone : Block → (seed steps : ℕ) → Outcome
run_alone b seed steps = drawn [] (bare_method [] b) b seed steps

-- var x: Int x := 0 while (x < 3) { x := x + 1 } assert x == 3
abbrev counts : Block
counts =
    Then (Declare (column 1) x type.Int)
    (Then (Assign (column 2) x (num 0))
    (Then (While (column 3) (Operate (column 4) Less (var x) (num 3)) [] (Then (Assign (column 5) x (Operate (column 6) Add (var x) (num 1))) Done))
    (Then (Assert (column 7) (Pure (Operate (column 8) Equal (var x) (num 3)))) Done)))

-- four statements, four conditions, and three statements in the loop
a_loop_ends : run_alone counts 1 11 ≡ Ended
unfolding lowest
a_loop_ends = refl

no_step_is_left : run_alone counts 1 10 ≡ Running
unfolding lowest
no_step_is_left = refl

-- while (true) {}
a_loop_goes_on : run_alone (Then (While (column 1) (Truth (column 2) true) [] Done) Done) 1 100 ≡ Running
a_loop_goes_on = refl

nothing_takes_no_step : run_alone Done 1 0 ≡ Ended
nothing_takes_no_step = refl

-- the first draw of this seed is -7
a_variable_is_drawn : run_alone (Then (Declare (column 1) x type.Int) (Then (Assume (column 2) (Operate (column 3) Equal (var x) (Operate (column 4) Subtract (num 0) (num 7)))) Done)) 1 10 ≡ Ended
unfolding lowest
a_variable_is_drawn = refl

an_assumption_stops : run_alone (Then (Declare (column 1) x type.Int) (Then (Assume (column 2) (Operate (column 3) Equal (var x) (num 0))) Done)) 1 10 ≡ Stopped (column 3)
an_assumption_stops = refl

-- the largest number, the least one, and -1
abbrev largest : Expr
largest = num (2 ^ 127 - 1)

abbrev minus_one : Expr
minus_one = Operate (column 5) Subtract (num 0) (num 1)

abbrev least : Expr
least = Operate (column 6) Add (Operate (column 7) Subtract (num 0) largest) minus_one

abbrev assigns : Expr → Block
assigns e = Then (Declare (column 1) x type.Int) (Then (Assign (column 2) x e) Done)

a_sum_is_wide : run_alone (assigns (Operate (column 3) Add largest (num 1))) 1 10 ≡ Wide (column 3) calls.Add (whole (pos (2 ^ 127 - 1))) (whole (pos 1))
unfolding lowest
a_sum_is_wide = refl

a_quotient_is_wide : run_alone (assigns (Divide (column 3) Quotient least minus_one)) 1 10 ≡ Wide (column 3) calls.Div (whole (negsuc (2 ^ 127 - 1))) (whole (negsuc 0))
unfolding lowest
a_quotient_is_wide = refl

a_remainder_is_not_wide : run_alone (assigns (Divide (column 3) Remainder least minus_one)) 1 10 ≡ Ended
unfolding lowest
a_remainder_is_not_wide = refl

a_divisor_is_none : run_alone (assigns (Divide (column 3) Quotient least (num 0))) 1 10 ≡ Failed (column 3)
unfolding lowest
a_divisor_is_none = refl
