-- A program with a member for each branch of the rules.
use Rattle.std.specs.Prelude.{true, [], ◌∷◌, Some, None, codes}
use Rattle.vx_ast.specs.declared.ValueType.TheVariants.{Int, Perm}
use Rattle.vx_ast.specs.declared.ValueType.TheVariants as type
use Rattle.vx_ast.specs.Syntax.{Name, Add, And, Apply, Assert, Assume, Both, ByInstance, Call, Choose, Chosen, Connect, Declare, Divide, Done, Equal, Exhale, Fold, Function, Greater, If, Implied, Implies, Inhale, Instance, IsField, IsFunction, IsMethod, IsPredicate, Less, Method, More, New, NoMore, Not, Number, Old, Operate, Or, Part, Points, Predicate, Program, Pure, Quotient, Read, Remainder, Then, Truth, Unfold, Unfolding, Variable, While, Write}
use Rattle.vx_examples.specs.Words.{at}

abbrev pub a : Name
a = codes "a"

abbrev pub amounts : Name
amounts = codes "amounts"

abbrev pub assumes : Name
assumes = codes "assumes"

abbrev pub b : Name
b = codes "b"

abbrev pub calls : Name
calls = codes "calls"

abbrev pub candidates_in_order : Name
candidates_in_order = codes "candidates_in_order"

abbrev pub cell : Name
cell = codes "cell"

abbrev pub chosen : Name
chosen = codes "chosen"

abbrev pub conditional : Name
conditional = codes "conditional"

abbrev pub creates : Name
creates = codes "creates"

abbrev pub f : Name
f = codes "f"

abbrev pub folds_bare : Name
folds_bare = codes "folds_bare"

abbrev pub folds_none : Name
folds_none = codes "folds_none"

abbrev pub forgets_variables : Name
forgets_variables = codes "forgets_variables"

abbrev pub increases : Name
increases = codes "increases"

abbrev pub loops_over_heap : Name
loops_over_heap = codes "loops_over_heap"

abbrev pub m : Name
m = codes "m"

abbrev pub merges : Name
merges = codes "merges"

abbrev pub n : Name
n = codes "n"

abbrev pub needs : Name
needs = codes "needs"

abbrev pub olds : Name
olds = codes "olds"

abbrev pub p : Name
p = codes "p"

abbrev pub peek : Name
peek = codes "peek"

abbrev pub peek_bare : Name
peek_bare = codes "peek_bare"

abbrev pub peek_none : Name
peek_none = codes "peek_none"

abbrev pub postcondition : Name
postcondition = codes "postcondition"

abbrev pub precondition : Name
precondition = codes "precondition"

abbrev pub quotients : Name
quotients = codes "quotients"

abbrev pub r : Name
r = codes "r"

abbrev pub right_of_and : Name
right_of_and = codes "right_of_and"

abbrev pub right_of_implies : Name
right_of_implies = codes "right_of_implies"

abbrev pub right_of_or : Name
right_of_or = codes "right_of_or"

abbrev pub sets : Name
sets = codes "sets"

abbrev pub sides_of_choice : Name
sides_of_choice = codes "sides_of_choice"

abbrev pub stuck : Name
stuck = codes "stuck"

abbrev pub takes_other : Name
takes_other = codes "takes_other"

abbrev pub takes_two : Name
takes_two = codes "takes_two"

abbrev pub total : Name
total = codes "total"

abbrev pub twice : Name
twice = codes "twice"

abbrev pub two : Name
two = codes "two"

abbrev pub unfolds_bare : Name
unfolds_bare = codes "unfolds_bare"

abbrev pub unfolds_none : Name
unfolds_none = codes "unfolds_none"

abbrev pub whole_twice : Name
whole_twice = codes "whole_twice"

abbrev pub writes_other : Name
writes_other = codes "writes_other"

abbrev pub x : Name
x = codes "x"

abbrev pub y : Name
y = codes "y"

abbrev pub z : Name
z = codes "z"

-- field f: Int
-- field r: Ref
-- predicate cell(x: Ref) { acc(x.f) }
-- predicate two(x: Ref, y: Ref) { acc(x.f) && acc(y.f) }
-- method quotients(a: Int, b: Int) { assert a \ b == a % b }
-- method total(a: Bool, b: Bool) { assert a || b assert !(a && b) assert a ? b : a }
-- method right_of_and(b: Bool, n: Int) { assert !(b && 1 \ n == 1) }
-- method right_of_or(b: Bool, n: Int) { assert b || 1 \ n == 1 }
-- method right_of_implies(b: Bool, n: Int) { assert b ==> 1 \ n == 1 }
-- method sides_of_choice(b: Bool, n: Int) { assert (b ? 1 \ n : n) == 1 }
-- method candidates_in_order(x: Ref, y: Ref, z: Ref) requires acc(x.f, 1/2) && acc(y.f, 1/2) { assert z.f == 0 }
-- method peek(x: Ref) requires cell(x) { assert unfolding cell(x) in x.f == 0 exhale cell(x) }
-- method peek_bare(x: Ref) { assert unfolding cell(x) in x.f == 0 }
-- method peek_none(x: Ref) { assert unfolding acc(cell(x), none) in true }
-- method conditional(x: Ref, b: Bool) { inhale b ==> acc(x.f) exhale b ==> acc(x.f) }
-- method chosen(x: Ref, b: Bool) { inhale b ? acc(x.f) : acc(x.f, 1/2) exhale acc(x.f) }
-- method amounts(x: Ref, p: Perm) { inhale acc(x.f, p) exhale acc(x.f, p) }
-- method folds_bare(x: Ref) { fold cell(x) }
-- method folds_none(x: Ref) { fold acc(cell(x), none) }
-- method unfolds_bare(x: Ref) { unfold cell(x) }
-- method unfolds_none(x: Ref) { unfold acc(cell(x), none) }
-- method sets(x: Ref, a: Int) requires acc(x.f) { x.f := a + 1 assert x.f > a }
-- method creates(a: Ref) requires acc(a.r) { var x: Ref x := new(f) assert x != a.r }
-- method assumes(a: Int, b: Int) { assume a < b inhale a < b && a > 0 assert a == b }
-- method increases(n: Int) returns (m: Int) requires n > 0 ensures m > n
-- method calls(a: Int) { var b: Int b := increases(a + 1) assert b > a }
-- method precondition(x: Ref) requires x.f == 0
-- method postcondition(x: Ref) ensures x.f == 0
-- function needs(x: Ref): Int decreases cell(x) { 0 }
-- function stuck(x: Ref): Int requires cell(x) decreases cell(x) { stuck(x) }
-- predicate twice(x: Ref) { acc(x.f) && acc(x.f) && 1 \ x.f == 1 }
-- method whole_twice(x: Ref, b: Bool) { inhale acc(x.f) && acc(x.f) assert b }
-- method merges(x: Ref) { inhale acc(cell(x), 1/2) && acc(cell(x), 1/2) unfold cell(x) assert x.f == 0 }
-- method takes_other(x: Ref, y: Ref) requires cell(x) { exhale cell(y) }
-- method takes_two(x: Ref, y: Ref, z: Ref) requires two(x, y) { exhale two(z, x) }
-- method loops_over_heap(x: Ref) requires acc(x.f) { while (x.f < 3) invariant acc(x.f) { x.f := x.f + 1 } }
-- method forgets_variables(a: Bool) { if (a) { var z: Int } else { } assert a }
-- method writes_other(x: Ref, y: Ref) requires acc(x.f) { y.f := 1 }
-- method olds(x: Ref) requires acc(x.f) { x.f := 1 assert old(x.f) == x.f }
abbrev pub branches_cell : Predicate
branches_cell = record {
  place = at 3 1;
  parameters = record { name = x; of = type.Ref } ∷ [];
  body = Some (Points (at 3 26) (Variable (at 3 30) x) f (Part (at 3 26) 1 1));
}

abbrev pub branches_two : Predicate
branches_two = record {
  place = at 4 1;
  parameters = record { name = x; of = type.Ref } ∷ record { name = y; of = type.Ref } ∷ [];
  body = Some (Both (Points (at 4 33) (Variable (at 4 37) x) f (Part (at 4 33) 1 1)) (Points (at 4 45) (Variable (at 4 49) y) f (Part (at 4 45) 1 1)));
}

abbrev pub branches_quotients : Method
branches_quotients = record {
  place = at 5 1;
  parameters = record { name = a; of = Int } ∷ record { name = b; of = Int } ∷ [];
  returns = [];
  requires = [];
  ensures = [];
  body = Some (Then (Assert (at 5 36) (Pure (Operate (at 5 43) Equal (Divide (at 5 43) Quotient (Variable (at 5 43) a) (Variable (at 5 47) b)) (Divide (at 5 52) Remainder (Variable (at 5 52) a) (Variable (at 5 56) b))))) Done);
}

abbrev pub branches_total : Method
branches_total = record {
  place = at 6 1;
  parameters = record { name = a; of = type.Bool } ∷ record { name = b; of = type.Bool } ∷ [];
  returns = [];
  requires = [];
  ensures = [];
  body = Some (Then (Assert (at 6 34) (Pure (Connect (at 6 41) Or (Variable (at 6 41) a) (Variable (at 6 46) b)))) (Then (Assert (at 6 48) (Pure (Not (at 6 55) (Connect (at 6 57) And (Variable (at 6 57) a) (Variable (at 6 62) b))))) (Then (Assert (at 6 65) (Pure (Choose (at 6 72) (Variable (at 6 72) a) (Variable (at 6 76) b) (Variable (at 6 80) a)))) Done)));
}

abbrev pub branches_right_of_and : Method
branches_right_of_and = record {
  place = at 7 1;
  parameters = record { name = b; of = type.Bool } ∷ record { name = n; of = Int } ∷ [];
  returns = [];
  requires = [];
  ensures = [];
  body = Some (Then (Assert (at 7 40) (Pure (Not (at 7 47) (Connect (at 7 49) And (Variable (at 7 49) b) (Operate (at 7 54) Equal (Divide (at 7 54) Quotient (Number (at 7 54) 1) (Variable (at 7 58) n)) (Number (at 7 63) 1)))))) Done);
}

abbrev pub branches_right_of_or : Method
branches_right_of_or = record {
  place = at 8 1;
  parameters = record { name = b; of = type.Bool } ∷ record { name = n; of = Int } ∷ [];
  returns = [];
  requires = [];
  ensures = [];
  body = Some (Then (Assert (at 8 39) (Pure (Connect (at 8 46) Or (Variable (at 8 46) b) (Operate (at 8 51) Equal (Divide (at 8 51) Quotient (Number (at 8 51) 1) (Variable (at 8 55) n)) (Number (at 8 60) 1))))) Done);
}

abbrev pub branches_right_of_implies : Method
branches_right_of_implies = record {
  place = at 9 1;
  parameters = record { name = b; of = type.Bool } ∷ record { name = n; of = Int } ∷ [];
  returns = [];
  requires = [];
  ensures = [];
  body = Some (Then (Assert (at 9 44) (Pure (Connect (at 9 51) Implies (Variable (at 9 51) b) (Operate (at 9 57) Equal (Divide (at 9 57) Quotient (Number (at 9 57) 1) (Variable (at 9 61) n)) (Number (at 9 66) 1))))) Done);
}

abbrev pub branches_sides_of_choice : Method
branches_sides_of_choice = record {
  place = at 10 1;
  parameters = record { name = b; of = type.Bool } ∷ record { name = n; of = Int } ∷ [];
  returns = [];
  requires = [];
  ensures = [];
  body = Some (Then (Assert (at 10 43) (Pure (Operate (at 10 50) Equal (Choose (at 10 51) (Variable (at 10 51) b) (Divide (at 10 55) Quotient (Number (at 10 55) 1) (Variable (at 10 59) n)) (Variable (at 10 63) n)) (Number (at 10 69) 1)))) Done);
}

abbrev pub branches_candidates_in_order : Method
branches_candidates_in_order = record {
  place = at 11 1;
  parameters = record { name = x; of = type.Ref } ∷ record { name = y; of = type.Ref } ∷ record { name = z; of = type.Ref } ∷ [];
  returns = [];
  requires = Both (Points (at 11 61) (Variable (at 11 65) x) f (Part (at 11 70) 1 2)) (Points (at 11 78) (Variable (at 11 82) y) f (Part (at 11 87) 1 2)) ∷ [];
  ensures = [];
  body = Some (Then (Assert (at 11 94) (Pure (Operate (at 11 101) Equal (Read (at 11 101) (Variable (at 11 101) z) f) (Number (at 11 108) 0)))) Done);
}

abbrev pub branches_peek : Method
branches_peek = record {
  place = at 12 1;
  parameters = record { name = x; of = type.Ref } ∷ [];
  returns = [];
  requires = Instance (at 12 30) cell (More (Variable (at 12 35) x) NoMore) (Part (at 12 30) 1 1) ∷ [];
  ensures = [];
  body = Some (Then (Assert (at 12 40) (Pure (Unfolding (at 12 47) cell (More (Variable (at 12 62) x) NoMore) (Part (at 12 47) 1 1) (Operate (at 12 68) Equal (Read (at 12 68) (Variable (at 12 68) x) f) (Number (at 12 75) 0))))) (Then (Exhale (at 12 77) (Instance (at 12 84) cell (More (Variable (at 12 89) x) NoMore) (Part (at 12 84) 1 1))) Done));
}

abbrev pub branches_peek_bare : Method
branches_peek_bare = record {
  place = at 13 1;
  parameters = record { name = x; of = type.Ref } ∷ [];
  returns = [];
  requires = [];
  ensures = [];
  body = Some (Then (Assert (at 13 28) (Pure (Unfolding (at 13 35) cell (More (Variable (at 13 50) x) NoMore) (Part (at 13 35) 1 1) (Operate (at 13 56) Equal (Read (at 13 56) (Variable (at 13 56) x) f) (Number (at 13 63) 0))))) Done);
}

abbrev pub branches_peek_none : Method
branches_peek_none = record {
  place = at 14 1;
  parameters = record { name = x; of = type.Ref } ∷ [];
  returns = [];
  requires = [];
  ensures = [];
  body = Some (Then (Assert (at 14 28) (Pure (Unfolding (at 14 35) cell (More (Variable (at 14 54) x) NoMore) (Part (at 14 58) 0 1) (Truth (at 14 67) true)))) Done);
}

abbrev pub branches_conditional : Method
branches_conditional = record {
  place = at 15 1;
  parameters = record { name = x; of = type.Ref } ∷ record { name = b; of = type.Bool } ∷ [];
  returns = [];
  requires = [];
  ensures = [];
  body = Some (Then (Inhale (at 15 39) (Implied (Variable (at 15 46) b) (Points (at 15 52) (Variable (at 15 56) x) f (Part (at 15 52) 1 1)))) (Then (Exhale (at 15 61) (Implied (Variable (at 15 68) b) (Points (at 15 74) (Variable (at 15 78) x) f (Part (at 15 74) 1 1)))) Done));
}

abbrev pub branches_chosen : Method
branches_chosen = record {
  place = at 16 1;
  parameters = record { name = x; of = type.Ref } ∷ record { name = b; of = type.Bool } ∷ [];
  returns = [];
  requires = [];
  ensures = [];
  body = Some (Then (Inhale (at 16 34) (Chosen (Variable (at 16 41) b) (Points (at 16 45) (Variable (at 16 49) x) f (Part (at 16 45) 1 1)) (Points (at 16 56) (Variable (at 16 60) x) f (Part (at 16 65) 1 2)))) (Then (Exhale (at 16 70) (Points (at 16 77) (Variable (at 16 81) x) f (Part (at 16 77) 1 1))) Done));
}

abbrev pub branches_amounts : Method
branches_amounts = record {
  place = at 17 1;
  parameters = record { name = x; of = type.Ref } ∷ record { name = p; of = Perm } ∷ [];
  returns = [];
  requires = [];
  ensures = [];
  body = Some (Then (Inhale (at 17 35) (Points (at 17 42) (Variable (at 17 46) x) f (Variable (at 17 51) p))) (Then (Exhale (at 17 54) (Points (at 17 61) (Variable (at 17 65) x) f (Variable (at 17 70) p))) Done));
}

abbrev pub branches_folds_bare : Method
branches_folds_bare = record {
  place = at 18 1;
  parameters = record { name = x; of = type.Ref } ∷ [];
  returns = [];
  requires = [];
  ensures = [];
  body = Some (Then (Fold (at 18 29) cell (More (Variable (at 18 39) x) NoMore) (Part (at 18 29) 1 1)) Done);
}

abbrev pub branches_folds_none : Method
branches_folds_none = record {
  place = at 19 1;
  parameters = record { name = x; of = type.Ref } ∷ [];
  returns = [];
  requires = [];
  ensures = [];
  body = Some (Then (Fold (at 19 29) cell (More (Variable (at 19 43) x) NoMore) (Part (at 19 47) 0 1)) Done);
}

abbrev pub branches_unfolds_bare : Method
branches_unfolds_bare = record {
  place = at 20 1;
  parameters = record { name = x; of = type.Ref } ∷ [];
  returns = [];
  requires = [];
  ensures = [];
  body = Some (Then (Unfold (at 20 31) cell (More (Variable (at 20 43) x) NoMore) (Part (at 20 31) 1 1)) Done);
}

abbrev pub branches_unfolds_none : Method
branches_unfolds_none = record {
  place = at 21 1;
  parameters = record { name = x; of = type.Ref } ∷ [];
  returns = [];
  requires = [];
  ensures = [];
  body = Some (Then (Unfold (at 21 31) cell (More (Variable (at 21 47) x) NoMore) (Part (at 21 51) 0 1)) Done);
}

abbrev pub branches_sets : Method
branches_sets = record {
  place = at 22 1;
  parameters = record { name = x; of = type.Ref } ∷ record { name = a; of = Int } ∷ [];
  returns = [];
  requires = Points (at 22 38) (Variable (at 22 42) x) f (Part (at 22 38) 1 1) ∷ [];
  ensures = [];
  body = Some (Then (Write (at 22 49) (Variable (at 22 49) x) f (Operate (at 22 56) Add (Variable (at 22 56) a) (Number (at 22 60) 1))) (Then (Assert (at 22 62) (Pure (Operate (at 22 69) Greater (Read (at 22 69) (Variable (at 22 69) x) f) (Variable (at 22 75) a)))) Done));
}

abbrev pub branches_creates : Method
branches_creates = record {
  place = at 23 1;
  parameters = record { name = a; of = type.Ref } ∷ [];
  returns = [];
  requires = Points (at 23 33) (Variable (at 23 37) a) r (Part (at 23 33) 1 1) ∷ [];
  ensures = [];
  body = Some (Then (Declare (at 23 44) x type.Ref) (Then (New (at 23 55) x (f ∷ [])) (Then (Assert (at 23 67) (Pure (Not (at 23 74) (Operate (at 23 74) Equal (Variable (at 23 74) x) (Read (at 23 79) (Variable (at 23 79) a) r))))) Done)));
}

abbrev pub branches_assumes : Method
branches_assumes = record {
  place = at 24 1;
  parameters = record { name = a; of = Int } ∷ record { name = b; of = Int } ∷ [];
  returns = [];
  requires = [];
  ensures = [];
  body = Some (Then (Assume (at 24 34) (Operate (at 24 41) Less (Variable (at 24 41) a) (Variable (at 24 45) b))) (Then (Inhale (at 24 47) (Both (Pure (Operate (at 24 54) Less (Variable (at 24 54) a) (Variable (at 24 58) b))) (Pure (Operate (at 24 63) Greater (Variable (at 24 63) a) (Number (at 24 67) 0))))) (Then (Assert (at 24 69) (Pure (Operate (at 24 76) Equal (Variable (at 24 76) a) (Variable (at 24 81) b)))) Done)));
}

abbrev pub branches_increases : Method
branches_increases = record {
  place = at 25 1;
  parameters = record { name = n; of = Int } ∷ [];
  returns = record { name = m; of = Int } ∷ [];
  requires = Pure (Operate (at 25 52) Greater (Variable (at 25 52) n) (Number (at 25 56) 0)) ∷ [];
  ensures = Pure (Operate (at 25 66) Greater (Variable (at 25 66) m) (Variable (at 25 70) n)) ∷ [];
  body = None;
}

abbrev pub branches_calls : Method
branches_calls = record {
  place = at 26 1;
  parameters = record { name = a; of = Int } ∷ [];
  returns = [];
  requires = [];
  ensures = [];
  body = Some (Then (Declare (at 26 24) b Int) (Then (Call (at 26 35) (b ∷ []) increases (More (Operate (at 26 50) Add (Variable (at 26 50) a) (Number (at 26 54) 1)) NoMore)) (Then (Assert (at 26 57) (Pure (Operate (at 26 64) Greater (Variable (at 26 64) b) (Variable (at 26 68) a)))) Done)));
}

abbrev pub branches_precondition : Method
branches_precondition = record {
  place = at 27 1;
  parameters = record { name = x; of = type.Ref } ∷ [];
  returns = [];
  requires = Pure (Operate (at 27 38) Equal (Read (at 27 38) (Variable (at 27 38) x) f) (Number (at 27 45) 0)) ∷ [];
  ensures = [];
  body = None;
}

abbrev pub branches_postcondition : Method
branches_postcondition = record {
  place = at 28 1;
  parameters = record { name = x; of = type.Ref } ∷ [];
  returns = [];
  requires = [];
  ensures = Pure (Operate (at 28 38) Equal (Read (at 28 38) (Variable (at 28 38) x) f) (Number (at 28 45) 0)) ∷ [];
  body = None;
}

abbrev pub branches_needs : Function
branches_needs = record {
  place = at 29 1;
  parameters = record { name = x; of = type.Ref } ∷ [];
  of = Int;
  requires = [];
  ensures = [];
  decreases = Some (ByInstance (at 29 39) cell (More (Variable (at 29 44) x) NoMore));
  body = Number (at 29 49) 0;
}

abbrev pub branches_stuck : Function
branches_stuck = record {
  place = at 30 1;
  parameters = record { name = x; of = type.Ref } ∷ [];
  of = Int;
  requires = Instance (at 30 38) cell (More (Variable (at 30 43) x) NoMore) (Part (at 30 38) 1 1) ∷ [];
  ensures = [];
  decreases = Some (ByInstance (at 30 56) cell (More (Variable (at 30 61) x) NoMore));
  body = Apply (at 30 66) stuck (More (Variable (at 30 72) x) NoMore);
}

abbrev pub branches_twice : Predicate
branches_twice = record {
  place = at 31 1;
  parameters = record { name = x; of = type.Ref } ∷ [];
  body = Some (Both (Both (Points (at 31 27) (Variable (at 31 31) x) f (Part (at 31 27) 1 1)) (Points (at 31 39) (Variable (at 31 43) x) f (Part (at 31 39) 1 1))) (Pure (Operate (at 31 51) Equal (Divide (at 31 51) Quotient (Number (at 31 51) 1) (Read (at 31 55) (Variable (at 31 55) x) f)) (Number (at 31 62) 1))));
}

abbrev pub branches_whole_twice : Method
branches_whole_twice = record {
  place = at 32 1;
  parameters = record { name = x; of = type.Ref } ∷ record { name = b; of = type.Bool } ∷ [];
  returns = [];
  requires = [];
  ensures = [];
  body = Some (Then (Inhale (at 32 39) (Both (Points (at 32 46) (Variable (at 32 50) x) f (Part (at 32 46) 1 1)) (Points (at 32 58) (Variable (at 32 62) x) f (Part (at 32 58) 1 1)))) (Then (Assert (at 32 67) (Pure (Variable (at 32 74) b))) Done));
}

abbrev pub branches_merges : Method
branches_merges = record {
  place = at 33 1;
  parameters = record { name = x; of = type.Ref } ∷ [];
  returns = [];
  requires = [];
  ensures = [];
  body = Some (Then (Inhale (at 33 25) (Both (Instance (at 33 32) cell (More (Variable (at 33 41) x) NoMore) (Part (at 33 45) 1 2)) (Instance (at 33 53) cell (More (Variable (at 33 62) x) NoMore) (Part (at 33 66) 1 2)))) (Then (Unfold (at 33 71) cell (More (Variable (at 33 83) x) NoMore) (Part (at 33 71) 1 1)) (Then (Assert (at 33 86) (Pure (Operate (at 33 93) Equal (Read (at 33 93) (Variable (at 33 93) x) f) (Number (at 33 100) 0)))) Done)));
}

abbrev pub branches_takes_other : Method
branches_takes_other = record {
  place = at 34 1;
  parameters = record { name = x; of = type.Ref } ∷ record { name = y; of = type.Ref } ∷ [];
  returns = [];
  requires = Instance (at 34 45) cell (More (Variable (at 34 50) x) NoMore) (Part (at 34 45) 1 1) ∷ [];
  ensures = [];
  body = Some (Then (Exhale (at 34 55) (Instance (at 34 62) cell (More (Variable (at 34 67) y) NoMore) (Part (at 34 62) 1 1))) Done);
}

abbrev pub branches_takes_two : Method
branches_takes_two = record {
  place = at 35 1;
  parameters = record { name = x; of = type.Ref } ∷ record { name = y; of = type.Ref } ∷ record { name = z; of = type.Ref } ∷ [];
  returns = [];
  requires = Instance (at 35 51) two (More (Variable (at 35 55) x) (More (Variable (at 35 58) y) NoMore)) (Part (at 35 51) 1 1) ∷ [];
  ensures = [];
  body = Some (Then (Exhale (at 35 63) (Instance (at 35 70) two (More (Variable (at 35 74) z) (More (Variable (at 35 77) x) NoMore)) (Part (at 35 70) 1 1))) Done);
}

abbrev pub branches_loops_over_heap : Method
branches_loops_over_heap = record {
  place = at 36 1;
  parameters = record { name = x; of = type.Ref } ∷ [];
  returns = [];
  requires = Points (at 36 41) (Variable (at 36 45) x) f (Part (at 36 41) 1 1) ∷ [];
  ensures = [];
  body = Some (Then (While (at 36 52) (Operate (at 36 59) Less (Read (at 36 59) (Variable (at 36 59) x) f) (Number (at 36 65) 3)) ((Points (at 36 78) (Variable (at 36 82) x) f (Part (at 36 78) 1 1)) ∷ []) (Then (Write (at 36 89) (Variable (at 36 89) x) f (Operate (at 36 96) Add (Read (at 36 96) (Variable (at 36 96) x) f) (Number (at 36 102) 1))) Done)) Done);
}

abbrev pub branches_forgets_variables : Method
branches_forgets_variables = record {
  place = at 37 1;
  parameters = record { name = a; of = type.Bool } ∷ [];
  returns = [];
  requires = [];
  ensures = [];
  body = Some (Then (If (at 37 37) (Variable (at 37 41) a) (Then (Declare (at 37 46) z Int) Done) Done) (Then (Assert (at 37 68) (Pure (Variable (at 37 75) a))) Done));
}

abbrev pub branches_writes_other : Method
branches_writes_other = record {
  place = at 38 1;
  parameters = record { name = x; of = type.Ref } ∷ record { name = y; of = type.Ref } ∷ [];
  returns = [];
  requires = Points (at 38 46) (Variable (at 38 50) x) f (Part (at 38 46) 1 1) ∷ [];
  ensures = [];
  body = Some (Then (Write (at 38 57) (Variable (at 38 57) y) f (Number (at 38 64) 1)) Done);
}

abbrev pub branches_olds : Method
branches_olds = record {
  place = at 39 1;
  parameters = record { name = x; of = type.Ref } ∷ [];
  returns = [];
  requires = Points (at 39 30) (Variable (at 39 34) x) f (Part (at 39 30) 1 1) ∷ [];
  ensures = [];
  body = Some (Then (Write (at 39 41) (Variable (at 39 41) x) f (Number (at 39 48) 1)) (Then (Assert (at 39 50) (Pure (Operate (at 39 57) Equal (Old (at 39 57) (Read (at 39 61) (Variable (at 39 61) x) f)) (Read (at 39 69) (Variable (at 39 69) x) f)))) Done));
}

abbrev pub branches : Program
branches = record { name = f; kind = IsField Int } ∷ record { name = r; kind = IsField type.Ref } ∷ record { name = cell; kind = IsPredicate branches_cell } ∷ record { name = two; kind = IsPredicate branches_two } ∷ record { name = quotients; kind = IsMethod branches_quotients } ∷ record { name = total; kind = IsMethod branches_total } ∷ record { name = right_of_and; kind = IsMethod branches_right_of_and } ∷ record { name = right_of_or; kind = IsMethod branches_right_of_or } ∷ record { name = right_of_implies; kind = IsMethod branches_right_of_implies } ∷ record { name = sides_of_choice; kind = IsMethod branches_sides_of_choice } ∷ record { name = candidates_in_order; kind = IsMethod branches_candidates_in_order } ∷ record { name = peek; kind = IsMethod branches_peek } ∷ record { name = peek_bare; kind = IsMethod branches_peek_bare } ∷ record { name = peek_none; kind = IsMethod branches_peek_none } ∷ record { name = conditional; kind = IsMethod branches_conditional } ∷ record { name = chosen; kind = IsMethod branches_chosen } ∷ record { name = amounts; kind = IsMethod branches_amounts } ∷ record { name = folds_bare; kind = IsMethod branches_folds_bare } ∷ record { name = folds_none; kind = IsMethod branches_folds_none } ∷ record { name = unfolds_bare; kind = IsMethod branches_unfolds_bare } ∷ record { name = unfolds_none; kind = IsMethod branches_unfolds_none } ∷ record { name = sets; kind = IsMethod branches_sets } ∷ record { name = creates; kind = IsMethod branches_creates } ∷ record { name = assumes; kind = IsMethod branches_assumes } ∷ record { name = increases; kind = IsMethod branches_increases } ∷ record { name = calls; kind = IsMethod branches_calls } ∷ record { name = precondition; kind = IsMethod branches_precondition } ∷ record { name = postcondition; kind = IsMethod branches_postcondition } ∷ record { name = needs; kind = IsFunction branches_needs } ∷ record { name = stuck; kind = IsFunction branches_stuck } ∷ record { name = twice; kind = IsPredicate branches_twice } ∷ record { name = whole_twice; kind = IsMethod branches_whole_twice } ∷ record { name = merges; kind = IsMethod branches_merges } ∷ record { name = takes_other; kind = IsMethod branches_takes_other } ∷ record { name = takes_two; kind = IsMethod branches_takes_two } ∷ record { name = loops_over_heap; kind = IsMethod branches_loops_over_heap } ∷ record { name = forgets_variables; kind = IsMethod branches_forgets_variables } ∷ record { name = writes_other; kind = IsMethod branches_writes_other } ∷ record { name = olds; kind = IsMethod branches_olds } ∷ []
