-- A program whose members fail, each in its own way, but for `cell`, `fall`, `fine` and `idle`.
use Rattle.std.specs.Prelude.{[], ◌∷◌, Some, None, codes}
use Rattle.vx_ast.specs.declared.ValueType.TheVariants.{Int}
use Rattle.vx_ast.specs.declared.ValueType.TheVariants as type
use Rattle.vx_ast.specs.Syntax.{Name, Add, Apply, Assert, Assign, ByInstance, ByNumber, Choose, Divide, Done, Equal, Function, Greater, IsField, IsFunction, IsMethod, IsPredicate, LessEqual, Method, More, NoMore, Number, Operate, Part, Points, Predicate, Program, Pure, Quotient, Read, Subtract, Then, Variable, result_name}
use Rattle.vx_examples.specs.Words.{at}

abbrev pub again : Name
again = codes "again"

abbrev pub b : Name
b = codes "b"

abbrev pub c : Name
c = codes "c"

abbrev pub cell : Name
cell = codes "cell"

abbrev pub claim : Name
claim = codes "claim"

abbrev pub demand : Name
demand = codes "demand"

abbrev pub divide : Name
divide = codes "divide"

abbrev pub f : Name
f = codes "f"

abbrev pub fall : Name
fall = codes "fall"

abbrev pub fine : Name
fine = codes "fine"

abbrev pub give_name : Name
give_name = codes "give"

abbrev pub idle : Name
idle = codes "idle"

abbrev pub n : Name
n = codes "n"

abbrev pub narrow : Name
narrow = codes "narrow"

abbrev pub promise : Name
promise = codes "promise"

abbrev pub rise : Name
rise = codes "rise"

abbrev pub stay : Name
stay = codes "stay"

abbrev pub unframed : Name
unframed = codes "unframed"

abbrev pub unheld : Name
unheld = codes "unheld"

abbrev pub unmeasured : Name
unmeasured = codes "unmeasured"

abbrev pub vow : Name
vow = codes "vow"

abbrev pub wild : Name
wild = codes "wild"

abbrev pub x : Name
x = codes "x"

-- field f: Int
-- predicate cell(x: Ref) { acc(x.f) }
-- predicate unframed(x: Ref) { x.f == 0 }
-- function narrow(n: Int): Int requires 7 \ n == 0 { n }
-- function divide(n: Int): Int { 7 \ n }
-- function promise(n: Int): Int ensures result > 0 { n }
-- function rise(n: Int): Int decreases n { rise(n + 1) }
-- function unheld(x: Ref): Int decreases cell(x) { 0 }
-- function unmeasured(n: Int): Int decreases 7 \ n { n }
-- function again(n: Int): Int ensures again(n) == 0 decreases n { 0 }
-- function stay(x: Ref): Int decreases cell(x) { stay(x) }
-- function wild(n: Int): Int { wild(n) }
-- function fall(n: Int): Int decreases n { n <= 0 ? 0 : fall(n - 1) }
-- function fine(n: Int): Int ensures result == 0 { 0 }
-- method demand(n: Int) requires 7 \ n == 0
-- method vow(x: Ref) ensures x.f == 0
-- method claim(b: Bool) { assert b }
-- method give(b: Bool) returns (c: Bool) ensures c { c := b }
-- method idle(n: Int) { }
abbrev pub failing_cell : Predicate
failing_cell = record {
  place = at 2 1;
  parameters = record { name = x; of = type.Ref } ∷ [];
  body = Some (Points (at 2 26) (Variable (at 2 30) x) f (Part (at 2 26) 1 1));
}

abbrev pub failing_unframed : Predicate
failing_unframed = record {
  place = at 3 1;
  parameters = record { name = x; of = type.Ref } ∷ [];
  body = Some (Pure (Operate (at 3 30) Equal (Read (at 3 30) (Variable (at 3 30) x) f) (Number (at 3 37) 0)));
}

abbrev pub failing_narrow : Function
failing_narrow = record {
  place = at 4 1;
  parameters = record { name = n; of = Int } ∷ [];
  of = Int;
  requires = Pure (Operate (at 4 39) Equal (Divide (at 4 39) Quotient (Number (at 4 39) 7) (Variable (at 4 43) n)) (Number (at 4 48) 0)) ∷ [];
  ensures = [];
  decreases = None;
  body = Variable (at 4 52) n;
}

abbrev pub failing_divide : Function
failing_divide = record {
  place = at 5 1;
  parameters = record { name = n; of = Int } ∷ [];
  of = Int;
  requires = [];
  ensures = [];
  decreases = None;
  body = Divide (at 5 32) Quotient (Number (at 5 32) 7) (Variable (at 5 36) n);
}

abbrev pub failing_promise : Function
failing_promise = record {
  place = at 6 1;
  parameters = record { name = n; of = Int } ∷ [];
  of = Int;
  requires = [];
  ensures = Operate (at 6 39) Greater (Variable (at 6 39) result_name) (Number (at 6 48) 0) ∷ [];
  decreases = None;
  body = Variable (at 6 52) n;
}

abbrev pub failing_rise : Function
failing_rise = record {
  place = at 7 1;
  parameters = record { name = n; of = Int } ∷ [];
  of = Int;
  requires = [];
  ensures = [];
  decreases = Some (ByNumber (Variable (at 7 38) n));
  body = Apply (at 7 42) rise (More (Operate (at 7 47) Add (Variable (at 7 47) n) (Number (at 7 51) 1)) NoMore);
}

abbrev pub failing_unheld : Function
failing_unheld = record {
  place = at 8 1;
  parameters = record { name = x; of = type.Ref } ∷ [];
  of = Int;
  requires = [];
  ensures = [];
  decreases = Some (ByInstance (at 8 40) cell (More (Variable (at 8 45) x) NoMore));
  body = Number (at 8 50) 0;
}

abbrev pub failing_unmeasured : Function
failing_unmeasured = record {
  place = at 9 1;
  parameters = record { name = n; of = Int } ∷ [];
  of = Int;
  requires = [];
  ensures = [];
  decreases = Some (ByNumber (Divide (at 9 44) Quotient (Number (at 9 44) 7) (Variable (at 9 48) n)));
  body = Variable (at 9 52) n;
}

abbrev pub failing_again : Function
failing_again = record {
  place = at 10 1;
  parameters = record { name = n; of = Int } ∷ [];
  of = Int;
  requires = [];
  ensures = Operate (at 10 37) Equal (Apply (at 10 37) again (More (Variable (at 10 43) n) NoMore)) (Number (at 10 49) 0) ∷ [];
  decreases = Some (ByNumber (Variable (at 10 61) n));
  body = Number (at 10 65) 0;
}

abbrev pub failing_stay : Function
failing_stay = record {
  place = at 11 1;
  parameters = record { name = x; of = type.Ref } ∷ [];
  of = Int;
  requires = [];
  ensures = [];
  decreases = Some (ByInstance (at 11 38) cell (More (Variable (at 11 43) x) NoMore));
  body = Apply (at 11 48) stay (More (Variable (at 11 53) x) NoMore);
}

abbrev pub failing_wild : Function
failing_wild = record {
  place = at 12 1;
  parameters = record { name = n; of = Int } ∷ [];
  of = Int;
  requires = [];
  ensures = [];
  decreases = None;
  body = Apply (at 12 30) wild (More (Variable (at 12 35) n) NoMore);
}

abbrev pub failing_fall : Function
failing_fall = record {
  place = at 13 1;
  parameters = record { name = n; of = Int } ∷ [];
  of = Int;
  requires = [];
  ensures = [];
  decreases = Some (ByNumber (Variable (at 13 38) n));
  body = Choose (at 13 42) (Operate (at 13 42) LessEqual (Variable (at 13 42) n) (Number (at 13 47) 0)) (Number (at 13 51) 0) (Apply (at 13 55) fall (More (Operate (at 13 60) Subtract (Variable (at 13 60) n) (Number (at 13 64) 1)) NoMore));
}

abbrev pub failing_fine : Function
failing_fine = record {
  place = at 14 1;
  parameters = record { name = n; of = Int } ∷ [];
  of = Int;
  requires = [];
  ensures = Operate (at 14 36) Equal (Variable (at 14 36) result_name) (Number (at 14 46) 0) ∷ [];
  decreases = None;
  body = Number (at 14 50) 0;
}

abbrev pub failing_demand : Method
failing_demand = record {
  place = at 15 1;
  parameters = record { name = n; of = Int } ∷ [];
  returns = [];
  requires = Pure (Operate (at 15 32) Equal (Divide (at 15 32) Quotient (Number (at 15 32) 7) (Variable (at 15 36) n)) (Number (at 15 41) 0)) ∷ [];
  ensures = [];
  body = None;
}

abbrev pub failing_vow : Method
failing_vow = record {
  place = at 16 1;
  parameters = record { name = x; of = type.Ref } ∷ [];
  returns = [];
  requires = [];
  ensures = Pure (Operate (at 16 28) Equal (Read (at 16 28) (Variable (at 16 28) x) f) (Number (at 16 35) 0)) ∷ [];
  body = None;
}

abbrev pub failing_claim : Method
failing_claim = record {
  place = at 17 1;
  parameters = record { name = b; of = type.Bool } ∷ [];
  returns = [];
  requires = [];
  ensures = [];
  body = Some (Then (Assert (at 17 25) (Pure (Variable (at 17 32) b))) Done);
}

abbrev pub failing_give : Method
failing_give = record {
  place = at 18 1;
  parameters = record { name = b; of = type.Bool } ∷ [];
  returns = record { name = c; of = type.Bool } ∷ [];
  requires = [];
  ensures = Pure (Variable (at 18 48) c) ∷ [];
  body = Some (Then (Assign (at 18 52) c (Variable (at 18 57) b)) Done);
}

abbrev pub failing_idle : Method
failing_idle = record {
  place = at 19 1;
  parameters = record { name = n; of = Int } ∷ [];
  returns = [];
  requires = [];
  ensures = [];
  body = Some Done;
}

abbrev pub failing : Program
failing = record { name = f; kind = IsField Int } ∷ record { name = cell; kind = IsPredicate failing_cell } ∷ record { name = unframed; kind = IsPredicate failing_unframed } ∷ record { name = narrow; kind = IsFunction failing_narrow } ∷ record { name = divide; kind = IsFunction failing_divide } ∷ record { name = promise; kind = IsFunction failing_promise } ∷ record { name = rise; kind = IsFunction failing_rise } ∷ record { name = unheld; kind = IsFunction failing_unheld } ∷ record { name = unmeasured; kind = IsFunction failing_unmeasured } ∷ record { name = again; kind = IsFunction failing_again } ∷ record { name = stay; kind = IsFunction failing_stay } ∷ record { name = wild; kind = IsFunction failing_wild } ∷ record { name = fall; kind = IsFunction failing_fall } ∷ record { name = fine; kind = IsFunction failing_fine } ∷ record { name = demand; kind = IsMethod failing_demand } ∷ record { name = vow; kind = IsMethod failing_vow } ∷ record { name = claim; kind = IsMethod failing_claim } ∷ record { name = give_name; kind = IsMethod failing_give } ∷ record { name = idle; kind = IsMethod failing_idle } ∷ []
