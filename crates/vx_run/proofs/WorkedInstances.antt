-- Computed runs: instances, functions, and values that are chosen.
use Rattle.std.proofs.Common.{◌≡◌, ℕ, List, [], ◌∷◌, Some, None, refl}
use Rattle.std.specs.Prelude.{codes}
use Rattle.vx_frac.specs.Fractions.{lowest}
use Rattle.vx_ast.specs.declared.ValueType.TheVariants as type
use Rattle.vx_ast.specs.Syntax.{Name, Program, IsField, IsPredicate, IsFunction, Member, Predicate, Function, Method, Expr, Null, Part, Read, Not, Operate, Equal, Add, Old, Apply, Unfolding, Assertion, Pure, Points, Both, Implied, More, NoMore, Block, Done, Then, Declare, Assign, New, Write, Call, Inhale, Exhale, Assert, Fold, Unfold}
use Rattle.vx_ast.specs.Syntax as syntax
use Rattle.vx_meaning.specs.Values.{Value, RefValue}
use Rattle.vx_run.specs.Draws.{by_list}
use Rattle.vx_run.specs.Widths.{without_width}
use Rattle.vx_run.specs.Going.{Outcome, Ended, Stopped, Failed, Running, Unchosen}
use Rattle.vx_run.specs.Whole.{whole}
use Rattle.vx_run.specs.Drawn.{drawn}
use Rattle.vx_run.proofs.Programs.{column, f, x, y, var, num, field, all, acc, one, references, bare_method, method_of}

-- field f: Ref predicate list(x: Ref) { acc(x.f) && (!(x.f == null) ==> list(x.f)) } method m(x: Ref) requires list(x) { }
abbrev chain : Name
chain = codes "list"

abbrev list_body : Assertion
list_body = Both (acc 1 x) (Implied (Not (column 2) (Operate (column 3) Equal (field x) (Null (column 4)))) (syntax.Instance (column 5) chain (More (field x) NoMore) all))

abbrev takes_list : Method
takes_list = record { place = column 6; parameters = references (x ∷ []); returns = []; requires = syntax.Instance (column 7) chain (one x) all ∷ []; ensures = []; body = Some Done }

abbrev lists : Program
lists =
    record { name = f; kind = IsField type.Ref } ∷ record { name = chain; kind = IsPredicate record { place = column 1; parameters = references (x ∷ []); body = Some list_body } } ∷
    method_of (codes "m") takes_list ∷ []

-- the references 4, 3, 1 and then null: each node is a step
a_list_is_drawn : drawn lists takes_list Done 1 3 ≡ Ended
unfolding lowest
a_list_is_drawn = refl

a_node_is_due : drawn lists takes_list Done 1 2 ≡ Running
unfolding lowest
a_node_is_due = refl

-- the references 1, 2, 4 and 1 again
a_cycle_cant_be : drawn lists takes_list Done 4 10 ≡ Stopped (column 7)
unfolding lowest
a_cycle_cant_be = refl

abbrev from_choices : List Value → Outcome
from_choices vs = whole lists by_list without_width 10 vs takes_list Done

a_list_is_chosen : from_choices (RefValue 1 ∷ RefValue 2 ∷ RefValue 0 ∷ []) ≡ Ended
a_list_is_chosen = refl

a_choice_is_missing : from_choices (RefValue 1 ∷ RefValue 2 ∷ []) ≡ Unchosen
a_choice_is_missing = refl

-- field f: Int predicate cell(x: Ref) { acc(x.f) } function get(x: Ref): Int requires cell(x) { unfolding cell(x) in x.f }
-- method inc(x: Ref) requires cell(x) ensures cell(x) ensures get(x) == old(get(x)) + 1 { unfold cell(x) x.f := x.f + 1 fold cell(x) }
-- method m() { var y: Ref y := new(f) y.f := 5 fold cell(y) inc(y) assert get(y) == 6 exhale cell(y) }
abbrev cell : Name
cell = codes "cell"

abbrev get : Name
get = codes "get"

abbrev inc : Name
inc = codes "inc"

abbrev cell_of : ℕ → Name → Assertion
cell_of n z = syntax.Instance (column n) cell (one z) all

abbrev got : Name → Expr
got z = Apply (column 1) get (one z)

abbrev gets : Function
gets = record {
  place = column 2;
  parameters = references (x ∷ []);
  of = type.Int;
  requires = cell_of 3 x ∷ [];
  ensures = [];
  decreases = None;
  body = Unfolding (column 4) cell (one x) all (field x);
}

abbrev increments : Method
increments = record {
  place = column 5;
  parameters = references (x ∷ []);
  returns = [];
  requires = cell_of 6 x ∷ [];
  ensures = cell_of 7 x ∷ Pure (Operate (column 8) Equal (got x) (Operate (column 9) Add (Old (column 10) (got x)) (num 1))) ∷ [];
  body = Some (Then (Unfold (column 11) cell (one x) all) (Then (Write (column 12) (var x) f (Operate (column 13) Add (field x) (num 1))) (Then (Fold (column 14) cell (one x) all) Done)));
}

abbrev uses_cell : Block
uses_cell =
    Then (Declare (column 15) y type.Ref) (Then (New (column 16) y (f ∷ [])) (Then (Write (column 17) (var y) f (num 5)) (Then (Fold (column 18) cell (one y) all)
    (Then (Call (column 19) [] inc (one y)) (Then (Assert (column 20) (Pure (Operate (column 21) Equal (got y) (num 6)))) (Then (Exhale (column 22) (cell_of 23 y)) Done))))))

abbrev cells : Program
cells =
    record { name = f; kind = IsField type.Int } ∷ record { name = cell; kind = IsPredicate record { place = column 1; parameters = references (x ∷ []); body = Some (acc 1 x) } } ∷
    record { name = get; kind = IsFunction gets } ∷ method_of inc increments ∷ []

-- ten statements and five applications: two where the postcondition is taken, two where it is given, and one in the assertion
an_instance_goes_through_a_call : drawn cells (bare_method [] uses_cell) uses_cell 1 15 ≡ Ended
unfolding lowest
an_instance_goes_through_a_call = refl

each_application_is_a_step : drawn cells (bare_method [] uses_cell) uses_cell 1 14 ≡ Running
unfolding lowest
each_application_is_a_step = refl

-- method m(x: Ref) requires acc(x.f) { var y: Int y := x.f exhale acc(x.f) inhale acc(x.f) assert x.f == y }
abbrev gives_away : Block
gives_away =
    Then (Declare (column 1) y type.Int) (Then (Assign (column 2) y (field x)) (Then (Exhale (column 3) (acc 4 x)) (Then (Inhale (column 5) (acc 6 x))
    (Then (Assert (column 7) (Pure (Operate (column 8) Equal (field x) (var y)))) Done))))

abbrev owner : Method
owner = record { place = column 9; parameters = references (x ∷ []); returns = []; requires = acc 10 x ∷ []; ensures = []; body = Some gives_away }

a_value_is_drawn_anew : drawn (record { name = f; kind = IsField type.Int } ∷ []) owner gives_away 1 10 ≡ Failed (column 8)
unfolding lowest
a_value_is_drawn_anew = refl

-- method m() { var y: Ref y := new(f) y.f := 5 fold cell(y) assert unfolding cell(y) in y.f == 5 .. }
abbrev makes_cell : Block → Block
makes_cell b =
    Then (Declare (column 1) y type.Ref) (Then (New (column 2) y (f ∷ [])) (Then (Write (column 3) (var y) f (num 5)) (Then (Fold (column 4) cell (one y) all)
    (Then (Assert (column 5) (Pure (Unfolding (column 6) cell (one y) all (Operate (column 7) Equal (field y) (num 5))))) b))))

abbrev with_cell : Block → Outcome
with_cell b = drawn cells (bare_method [] (makes_cell b)) (makes_cell b) 1 20

what_is_folded_is_read_unfolded : with_cell Done ≡ Ended
unfolding lowest
what_is_folded_is_read_unfolded = refl

-- assert y.f == 5
what_is_folded_is_not_read : with_cell (Then (Assert (column 8) (Pure (Operate (column 9) Equal (Read (column 10) (var y) f) (num 5)))) Done) ≡ Failed (column 10)
unfolding lowest
what_is_folded_is_not_read = refl

abbrev half : Expr
half = Part (column 1) 1 2

-- unfold acc(cell(y), 1/2) assert y.f == 5 y.f := 6
abbrev unfolds_half : Block → Block
unfolds_half b = Then (Unfold (column 11) cell (one y) half) (Then (Assert (column 12) (Pure (Operate (column 13) Equal (field y) (num 5)))) b)

half_is_read : with_cell (unfolds_half Done) ≡ Ended
unfolding lowest
half_is_read = refl

half_is_not_written : with_cell (unfolds_half (Then (Write (column 14) (var y) f (num 6)) Done)) ≡ Failed (column 14)
unfolding lowest
half_is_not_written = refl
