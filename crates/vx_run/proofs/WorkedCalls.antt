-- Computed runs: calls, and what those that wait hold.
use Rattle.std.proofs.Common.{◌≡◌, ℕ, false, [], ◌∷◌, Some, None, refl}
use Rattle.std.specs.Prelude.{codes}
use Rattle.vx_frac.specs.Fractions.{lowest}
use Rattle.vx_ast.specs.declared.ValueType.TheVariants as type
use Rattle.vx_ast.specs.Syntax.{Name, IsField, Member, Method, Truth, Operate, Less, Equal, Pure, NoMore, Block, Done, Then, Declare, New, Write, Call, Inhale, Exhale, Assert}
use Rattle.vx_run.specs.Going.{Outcome, Ended, Stopped, Failed}
use Rattle.vx_run.specs.Drawn.{drawn}
use Rattle.vx_run.proofs.Programs.{column, f, x, y, var, num, field, acc, one, references, bare_method, method_of}

abbrev called : Name
called = codes "c"

abbrev field_f : Member
field_f = record { name = f; kind = IsField type.Int }

-- the run of a method without a contract, beside one that it calls
abbrev run_beside : Method → Method → Block → (seed steps : ℕ) → Outcome
run_beside c m b seed steps = drawn (field_f ∷ method_of called c ∷ method_of (codes "m") m ∷ []) m b seed steps

-- method c() ensures false { } method m() { c() }
abbrev calls : Block
calls = Then (Call (column 45) [] called NoMore) Done

abbrev lies : Method
lies = record { place = column 8; parameters = []; returns = []; requires = []; ensures = Pure (Truth (column 22) false) ∷ []; body = Some Done }

a_callee_fails_there : run_beside lies (bare_method [] calls) calls 1 10 ≡ Failed (column 22)
a_callee_fails_there = refl

-- method c() requires false { } method m() { c() }
abbrev asks : Method
asks = record { place = column 8; parameters = []; returns = []; requires = Pure (Truth (column 22) false) ∷ []; ensures = []; body = Some Done }

a_precondition_fails_at_the_call : run_beside asks (bare_method [] calls) calls 1 10 ≡ Failed (column 45)
a_precondition_fails_at_the_call = refl

-- method c(y: Ref) { inhale acc(y.f) y.f := 5 exhale acc(y.f) } method m(x: Ref) requires acc(x.f) { x.f := 1 c(x) assert x.f == 1 }
abbrev writes : Method
writes = bare_method (references (y ∷ [])) (Then (Inhale (column 2) (acc 3 y)) (Then (Write (column 4) (var y) f (num 5)) (Then (Exhale (column 5) (acc 6 y)) Done)))

abbrev keeps : Block
keeps = Then (Write (column 7) (var x) f (num 1)) (Then (Call (column 8) [] called (one x)) (Then (Assert (column 9) (Pure (Operate (column 10) Equal (field x) (num 1)))) Done))

abbrev holds : Method
holds = record { place = column 11; parameters = references (x ∷ []); returns = []; requires = acc 12 x ∷ []; ensures = []; body = Some keeps }

-- the reference that is drawn is 4, and 0 with the other seed
what_waits_is_held : run_beside writes holds keeps 1 10 ≡ Stopped (column 3)
unfolding lowest
what_waits_is_held = refl

null_is_never_held : run_beside writes holds keeps 2 10 ≡ Stopped (column 12)
unfolding lowest
null_is_never_held = refl

-- method c() { var y: Ref y := new(f) y.f := 5 } method m() { var x: Ref x := new(f) x.f := 1 c() assert x.f == 1 }
abbrev makes : Method
makes = bare_method [] (Then (Declare (column 1) y type.Ref) (Then (New (column 2) y (f ∷ [])) (Then (Write (column 3) (var y) f (num 5)) Done)))

abbrev makes_before : Block
makes_before =
    Then (Declare (column 4) x type.Ref) (Then (New (column 5) x (f ∷ [])) (Then (Write (column 6) (var x) f (num 1)) (Then (Call (column 7) [] called NoMore)
    (Then (Assert (column 8) (Pure (Operate (column 9) Equal (field x) (num 1)))) Done))))

a_new_reference_is_new_for_those_that_wait : run_beside makes (bare_method [] makes_before) makes_before 1 20 ≡ Ended
unfolding lowest
a_new_reference_is_new_for_those_that_wait = refl

-- method c() returns (y: Int) ensures 0 < y method m() { var x: Int x := c() assert 0 < x }
abbrev picks : Method
picks = record { place = column 1; parameters = []; returns = record { name = y; of = type.Int } ∷ []; requires = []; ensures = Pure (Operate (column 2) Less (num 0) (var y)) ∷ []; body = None }

abbrev takes_one : Block
takes_one = Then (Declare (column 3) x type.Int) (Then (Call (column 4) (x ∷ []) called NoMore) (Then (Assert (column 5) (Pure (Operate (column 6) Less (num 0) (var x)))) Done))

-- the second draws of these seeds are 3 and -7
a_contract_gives_a_drawn_value : run_beside picks (bare_method [] takes_one) takes_one 2 10 ≡ Ended
unfolding lowest
a_contract_gives_a_drawn_value = refl

a_contract_stops : run_beside picks (bare_method [] takes_one) takes_one 1 10 ≡ Stopped (column 2)
unfolding lowest
a_contract_stops = refl
