-- A second program with a member for each branch of the rules.
use Rattle.std.specs.Prelude.{true, false, [], ◌∷◌, Some, None, codes}
use Rattle.vx_ast.specs.declared.ValueType.TheVariants.{Int, Perm}
use Rattle.vx_ast.specs.declared.ValueType.TheVariants as type
use Rattle.vx_ast.specs.Syntax.{Name, Add, Apply, Assert, Assign, Both, ByNumber, Choose, Connect, Declare, Done, Equal, Exhale, Fold, Function, Greater, Implied, Implies, Inhale, Instance, IsField, IsFunction, IsMethod, IsPredicate, Less, LessEqual, Method, More, NoMore, Not, Null, Number, Operate, Part, Points, Predicate, Program, Pure, Read, Subtract, Then, Truth, Unfold, Variable, While, result_name}
use Rattle.vx_terms.specs.Sorts as sort
use Rattle.vx_terms.specs.Sorts.{IntSort}
use Rattle.vx_terms.specs.Terms as term
use Rattle.vx_terms.specs.Terms.{Term, NoTerms, MoreTerms}
use Rattle.vx_examples.specs.Words.{at}

abbrev pub a : Name
a = codes "a"

abbrev pub b : Name
b = codes "b"

abbrev pub below_zero : Name
below_zero = codes "below_zero"

abbrev pub c : Name
c = codes "c"

abbrev pub d : Name
d = codes "d"

abbrev pub double : Name
double = codes "double"

abbrev pub drops_a_side : Name
drops_a_side = codes "drops_a_side"

abbrev pub even : Name
even = codes "even"

abbrev pub f : Name
f = codes "f"

abbrev pub folds_positive : Name
folds_positive = codes "folds_positive"

abbrev pub folds_two : Name
folds_two = codes "folds_two"

abbrev pub get : Name
get = codes "get"

abbrev pub loop_loses : Name
loop_loses = codes "loop_loses"

abbrev pub loop_without : Name
loop_without = codes "loop_without"

abbrev pub loses : Name
loses = codes "loses"

abbrev pub low : Name
low = codes "low"

abbrev pub n : Name
n = codes "n"

abbrev pub odd : Name
odd = codes "odd"

abbrev pub p : Name
p = codes "p"

abbrev pub positive : Name
positive = codes "positive"

abbrev pub two : Name
two = codes "two"

abbrev pub two_variables : Name
two_variables = codes "two_variables"

abbrev pub unfolds_two : Name
unfolds_two = codes "unfolds_two"

abbrev pub unheld_part : Name
unheld_part = codes "unheld_part"

abbrev pub unkept : Name
unkept = codes "unkept"

abbrev pub uses_promise : Name
uses_promise = codes "uses_promise"

abbrev pub where_same : Name
where_same = codes "where_same"

abbrev pub whole_condition : Name
whole_condition = codes "whole_condition"

abbrev pub x : Name
x = codes "x"

abbrev pub y : Name
y = codes "y"

-- field f: Int
-- predicate two(x: Ref, y: Ref) { acc(x.f) && acc(y.f) }
-- predicate positive(x: Ref) { acc(x.f) && x.f > 0 }
-- function get(x: Ref): Int requires acc(x.f) { x.f }
-- function double(x: Ref): Int requires acc(x.f) { get(x) + get(x) }
-- function where_same(x: Ref, y: Ref): Int requires acc(x.f) { y == x ? y.f : 0 }
-- function even(n: Int): Bool requires 0 <= n decreases n { n == 0 ? true : odd(n - 1) }
-- function odd(n: Int): Bool requires 0 <= n decreases n { n == 0 ? false : even(n - 1) }
-- method drops_a_side(x: Ref, y: Ref) requires acc(x.f) { assert where_same(x, y) == 0 }
-- method folds_two(x: Ref, y: Ref) requires acc(x.f) && acc(y.f) { fold two(x, y) assert x.f == 0 }
-- method unfolds_two(x: Ref, y: Ref) requires two(x, y) { unfold two(x, y) assert x.f == y.f }
-- method folds_positive(x: Ref) requires acc(x.f) { fold positive(x) }
-- method loses(x: Ref) requires acc(x.f) ensures acc(x.f) { exhale acc(x.f) }
-- method loop_without(x: Ref, b: Bool) { while (b) invariant acc(x.f) { } }
-- method loop_loses(x: Ref, b: Bool) requires acc(x.f) { while (b) invariant acc(x.f) { exhale acc(x.f) } }
-- method two_variables(a: Int) { var c: Int var d: Int while (a < 3) { d := a c := d + 1 d := c } assert d == c }
-- method below_zero(x: Ref, p: Perm) { inhale acc(x.f, p - write) }
-- method whole_condition(x: Ref, b: Bool) requires b ==> x != null { inhale b ==> acc(x.f) }
-- function low(n: Int): Int requires n > 0 ensures result > 1 { n + 1 }
-- method uses_promise(a: Int) requires a > 5 { assert low(a) > 1 }
-- function unheld_part(x: Ref): Int { x.f }
-- function unkept(n: Int): Int ensures result > n { n }
abbrev pub applications_two : Predicate
applications_two = record {
  place = at 2 1;
  parameters = record { name = x; of = type.Ref } ∷ record { name = y; of = type.Ref } ∷ [];
  body = Some (Both (Points (at 2 33) (Variable (at 2 37) x) f (Part (at 2 33) 1 1)) (Points (at 2 45) (Variable (at 2 49) y) f (Part (at 2 45) 1 1)));
}

abbrev pub applications_positive : Predicate
applications_positive = record {
  place = at 3 1;
  parameters = record { name = x; of = type.Ref } ∷ [];
  body = Some (Both (Points (at 3 30) (Variable (at 3 34) x) f (Part (at 3 30) 1 1)) (Pure (Operate (at 3 42) Greater (Read (at 3 42) (Variable (at 3 42) x) f) (Number (at 3 48) 0))));
}

abbrev pub applications_get : Function
applications_get = record {
  place = at 4 1;
  parameters = record { name = x; of = type.Ref } ∷ [];
  of = Int;
  requires = Points (at 4 36) (Variable (at 4 40) x) f (Part (at 4 36) 1 1) ∷ [];
  ensures = [];
  decreases = None;
  body = Read (at 4 47) (Variable (at 4 47) x) f;
}

abbrev pub applications_double : Function
applications_double = record {
  place = at 5 1;
  parameters = record { name = x; of = type.Ref } ∷ [];
  of = Int;
  requires = Points (at 5 39) (Variable (at 5 43) x) f (Part (at 5 39) 1 1) ∷ [];
  ensures = [];
  decreases = None;
  body = Operate (at 5 50) Add (Apply (at 5 50) get (More (Variable (at 5 54) x) NoMore)) (Apply (at 5 59) get (More (Variable (at 5 63) x) NoMore));
}

abbrev pub applications_where_same : Function
applications_where_same = record {
  place = at 6 1;
  parameters = record { name = x; of = type.Ref } ∷ record { name = y; of = type.Ref } ∷ [];
  of = Int;
  requires = Points (at 6 51) (Variable (at 6 55) x) f (Part (at 6 51) 1 1) ∷ [];
  ensures = [];
  decreases = None;
  body = Choose (at 6 62) (Operate (at 6 62) Equal (Variable (at 6 62) y) (Variable (at 6 67) x)) (Read (at 6 71) (Variable (at 6 71) y) f) (Number (at 6 77) 0);
}

abbrev pub applications_even : Function
applications_even = record {
  place = at 7 1;
  parameters = record { name = n; of = Int } ∷ [];
  of = type.Bool;
  requires = Pure (Operate (at 7 38) LessEqual (Number (at 7 38) 0) (Variable (at 7 43) n)) ∷ [];
  ensures = [];
  decreases = Some (ByNumber (Variable (at 7 55) n));
  body = Choose (at 7 59) (Operate (at 7 59) Equal (Variable (at 7 59) n) (Number (at 7 64) 0)) (Truth (at 7 68) true) (Apply (at 7 75) odd (More (Operate (at 7 79) Subtract (Variable (at 7 79) n) (Number (at 7 83) 1)) NoMore));
}

abbrev pub applications_odd : Function
applications_odd = record {
  place = at 8 1;
  parameters = record { name = n; of = Int } ∷ [];
  of = type.Bool;
  requires = Pure (Operate (at 8 37) LessEqual (Number (at 8 37) 0) (Variable (at 8 42) n)) ∷ [];
  ensures = [];
  decreases = Some (ByNumber (Variable (at 8 54) n));
  body = Choose (at 8 58) (Operate (at 8 58) Equal (Variable (at 8 58) n) (Number (at 8 63) 0)) (Truth (at 8 67) false) (Apply (at 8 75) even (More (Operate (at 8 80) Subtract (Variable (at 8 80) n) (Number (at 8 84) 1)) NoMore));
}

abbrev pub applications_drops_a_side : Method
applications_drops_a_side = record {
  place = at 9 1;
  parameters = record { name = x; of = type.Ref } ∷ record { name = y; of = type.Ref } ∷ [];
  returns = [];
  requires = Points (at 9 46) (Variable (at 9 50) x) f (Part (at 9 46) 1 1) ∷ [];
  ensures = [];
  body = Some (Then (Assert (at 9 57) (Pure (Operate (at 9 64) Equal (Apply (at 9 64) where_same (More (Variable (at 9 75) x) (More (Variable (at 9 78) y) NoMore))) (Number (at 9 84) 0)))) Done);
}

abbrev pub applications_folds_two : Method
applications_folds_two = record {
  place = at 10 1;
  parameters = record { name = x; of = type.Ref } ∷ record { name = y; of = type.Ref } ∷ [];
  returns = [];
  requires = Both (Points (at 10 43) (Variable (at 10 47) x) f (Part (at 10 43) 1 1)) (Points (at 10 55) (Variable (at 10 59) y) f (Part (at 10 55) 1 1)) ∷ [];
  ensures = [];
  body = Some (Then (Fold (at 10 66) two (More (Variable (at 10 75) x) (More (Variable (at 10 78) y) NoMore)) (Part (at 10 66) 1 1)) (Then (Assert (at 10 81) (Pure (Operate (at 10 88) Equal (Read (at 10 88) (Variable (at 10 88) x) f) (Number (at 10 95) 0)))) Done));
}

abbrev pub applications_unfolds_two : Method
applications_unfolds_two = record {
  place = at 11 1;
  parameters = record { name = x; of = type.Ref } ∷ record { name = y; of = type.Ref } ∷ [];
  returns = [];
  requires = Instance (at 11 45) two (More (Variable (at 11 49) x) (More (Variable (at 11 52) y) NoMore)) (Part (at 11 45) 1 1) ∷ [];
  ensures = [];
  body = Some (Then (Unfold (at 11 57) two (More (Variable (at 11 68) x) (More (Variable (at 11 71) y) NoMore)) (Part (at 11 57) 1 1)) (Then (Assert (at 11 74) (Pure (Operate (at 11 81) Equal (Read (at 11 81) (Variable (at 11 81) x) f) (Read (at 11 88) (Variable (at 11 88) y) f)))) Done));
}

abbrev pub applications_folds_positive : Method
applications_folds_positive = record {
  place = at 12 1;
  parameters = record { name = x; of = type.Ref } ∷ [];
  returns = [];
  requires = Points (at 12 40) (Variable (at 12 44) x) f (Part (at 12 40) 1 1) ∷ [];
  ensures = [];
  body = Some (Then (Fold (at 12 51) positive (More (Variable (at 12 65) x) NoMore) (Part (at 12 51) 1 1)) Done);
}

abbrev pub applications_loses : Method
applications_loses = record {
  place = at 13 1;
  parameters = record { name = x; of = type.Ref } ∷ [];
  returns = [];
  requires = Points (at 13 31) (Variable (at 13 35) x) f (Part (at 13 31) 1 1) ∷ [];
  ensures = Points (at 13 48) (Variable (at 13 52) x) f (Part (at 13 48) 1 1) ∷ [];
  body = Some (Then (Exhale (at 13 59) (Points (at 13 66) (Variable (at 13 70) x) f (Part (at 13 66) 1 1))) Done);
}

abbrev pub applications_loop_without : Method
applications_loop_without = record {
  place = at 14 1;
  parameters = record { name = x; of = type.Ref } ∷ record { name = b; of = type.Bool } ∷ [];
  returns = [];
  requires = [];
  ensures = [];
  body = Some (Then (While (at 14 40) (Variable (at 14 47) b) ((Points (at 14 60) (Variable (at 14 64) x) f (Part (at 14 60) 1 1)) ∷ []) Done) Done);
}

abbrev pub applications_loop_loses : Method
applications_loop_loses = record {
  place = at 15 1;
  parameters = record { name = x; of = type.Ref } ∷ record { name = b; of = type.Bool } ∷ [];
  returns = [];
  requires = Points (at 15 45) (Variable (at 15 49) x) f (Part (at 15 45) 1 1) ∷ [];
  ensures = [];
  body = Some (Then (While (at 15 56) (Variable (at 15 63) b) ((Points (at 15 76) (Variable (at 15 80) x) f (Part (at 15 76) 1 1)) ∷ []) (Then (Exhale (at 15 87) (Points (at 15 94) (Variable (at 15 98) x) f (Part (at 15 94) 1 1))) Done)) Done);
}

abbrev pub applications_two_variables : Method
applications_two_variables = record {
  place = at 16 1;
  parameters = record { name = a; of = Int } ∷ [];
  returns = [];
  requires = [];
  ensures = [];
  body = Some (Then (Declare (at 16 32) c Int) (Then (Declare (at 16 43) d Int) (Then (While (at 16 54) (Operate (at 16 61) Less (Variable (at 16 61) a) (Number (at 16 65) 3)) [] (Then (Assign (at 16 70) d (Variable (at 16 75) a)) (Then (Assign (at 16 77) c (Operate (at 16 82) Add (Variable (at 16 82) d) (Number (at 16 86) 1))) (Then (Assign (at 16 88) d (Variable (at 16 93) c)) Done)))) (Then (Assert (at 16 97) (Pure (Operate (at 16 104) Equal (Variable (at 16 104) d) (Variable (at 16 109) c)))) Done))));
}

abbrev pub applications_below_zero : Method
applications_below_zero = record {
  place = at 17 1;
  parameters = record { name = x; of = type.Ref } ∷ record { name = p; of = Perm } ∷ [];
  returns = [];
  requires = [];
  ensures = [];
  body = Some (Then (Inhale (at 17 38) (Points (at 17 45) (Variable (at 17 49) x) f (Operate (at 17 54) Subtract (Variable (at 17 54) p) (Part (at 17 58) 1 1)))) Done);
}

abbrev pub applications_whole_condition : Method
applications_whole_condition = record {
  place = at 18 1;
  parameters = record { name = x; of = type.Ref } ∷ record { name = b; of = type.Bool } ∷ [];
  returns = [];
  requires = Pure (Connect (at 18 50) Implies (Variable (at 18 50) b) (Not (at 18 56) (Operate (at 18 56) Equal (Variable (at 18 56) x) (Null (at 18 61))))) ∷ [];
  ensures = [];
  body = Some (Then (Inhale (at 18 68) (Implied (Variable (at 18 75) b) (Points (at 18 81) (Variable (at 18 85) x) f (Part (at 18 81) 1 1)))) Done);
}

abbrev pub applications_low : Function
applications_low = record {
  place = at 19 1;
  parameters = record { name = n; of = Int } ∷ [];
  of = Int;
  requires = Pure (Operate (at 19 36) Greater (Variable (at 19 36) n) (Number (at 19 40) 0)) ∷ [];
  ensures = Operate (at 19 50) Greater (Variable (at 19 50) result_name) (Number (at 19 59) 1) ∷ [];
  decreases = None;
  body = Operate (at 19 63) Add (Variable (at 19 63) n) (Number (at 19 67) 1);
}

abbrev pub applications_uses_promise : Method
applications_uses_promise = record {
  place = at 20 1;
  parameters = record { name = a; of = Int } ∷ [];
  returns = [];
  requires = Pure (Operate (at 20 38) Greater (Variable (at 20 38) a) (Number (at 20 42) 5)) ∷ [];
  ensures = [];
  body = Some (Then (Assert (at 20 46) (Pure (Operate (at 20 53) Greater (Apply (at 20 53) low (More (Variable (at 20 57) a) NoMore)) (Number (at 20 62) 1)))) Done);
}

abbrev pub applications_unheld_part : Function
applications_unheld_part = record {
  place = at 21 1;
  parameters = record { name = x; of = type.Ref } ∷ [];
  of = Int;
  requires = [];
  ensures = [];
  decreases = None;
  body = Read (at 21 37) (Variable (at 21 37) x) f;
}

abbrev pub applications_unkept : Function
applications_unkept = record {
  place = at 22 1;
  parameters = record { name = n; of = Int } ∷ [];
  of = Int;
  requires = [];
  ensures = Operate (at 22 38) Greater (Variable (at 22 38) result_name) (Variable (at 22 47) n) ∷ [];
  decreases = None;
  body = Variable (at 22 51) n;
}

abbrev pub applications : Program
applications = record { name = f; kind = IsField Int } ∷ record { name = two; kind = IsPredicate applications_two } ∷ record { name = positive; kind = IsPredicate applications_positive } ∷ record { name = get; kind = IsFunction applications_get } ∷ record { name = double; kind = IsFunction applications_double } ∷ record { name = where_same; kind = IsFunction applications_where_same } ∷ record { name = even; kind = IsFunction applications_even } ∷ record { name = odd; kind = IsFunction applications_odd } ∷ record { name = drops_a_side; kind = IsMethod applications_drops_a_side } ∷ record { name = folds_two; kind = IsMethod applications_folds_two } ∷ record { name = unfolds_two; kind = IsMethod applications_unfolds_two } ∷ record { name = folds_positive; kind = IsMethod applications_folds_positive } ∷ record { name = loses; kind = IsMethod applications_loses } ∷ record { name = loop_without; kind = IsMethod applications_loop_without } ∷ record { name = loop_loses; kind = IsMethod applications_loop_loses } ∷ record { name = two_variables; kind = IsMethod applications_two_variables } ∷ record { name = below_zero; kind = IsMethod applications_below_zero } ∷ record { name = whole_condition; kind = IsMethod applications_whole_condition } ∷ record { name = low; kind = IsFunction applications_low } ∷ record { name = uses_promise; kind = IsMethod applications_uses_promise } ∷ record { name = unheld_part; kind = IsFunction applications_unheld_part } ∷ record { name = unkept; kind = IsFunction applications_unkept } ∷ []

-- the symbols of `where_same` and of `low` on a snapshot and their arguments
abbrev pub where_same_at : Term → Term → Term → Term
where_same_at s x y = term.Apply (sort.Function 2) IntSort (MoreTerms s (MoreTerms x (MoreTerms y NoTerms)))

abbrev pub low_at : Term → Term → Term
low_at s n = term.Apply (sort.Function 5) IntSort (MoreTerms s (MoreTerms n NoTerms))
