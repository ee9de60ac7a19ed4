-- Programs with functions.
use Rattle.std.specs.Prelude.{[], ◌∷◌, Some, None, codes}
use Rattle.vx_ast.specs.declared.ValueType.TheVariants.{Int}
use Rattle.vx_ast.specs.declared.ValueType.TheVariants as type
use Rattle.vx_ast.specs.Syntax.{Name, Add, Apply, Assert, Assign, Both, ByInstance, ByNumber, Choose, Connect, Declare, Done, Equal, Function, Greater, Implied, Implies, Instance, IsField, IsFunction, IsMethod, IsPredicate, Method, More, NoMore, Not, Null, Number, Operate, Part, Points, Predicate, Program, Pure, Read, Then, Unfold, Unfolding, Variable, result_name}
use Rattle.vx_examples.specs.Words.{at}

abbrev pub a : Name
a = codes "a"

abbrev pub f : Name
f = codes "f"

abbrev pub g : Name
g = codes "g"

abbrev pub length : Name
length = codes "length"

abbrev pub list : Name
list = codes "list"

abbrev pub m : Name
m = codes "m"

abbrev pub n : Name
n = codes "n"

abbrev pub next : Name
next = codes "next"

abbrev pub x : Name
x = codes "x"

-- field next: Ref
-- predicate list(x: Ref) { acc(x.next) && (x.next != null ==> list(x.next)) }
-- function length(x: Ref): Int requires list(x) ensures result > 0 decreases list(x)
-- { unfolding list(x) in x.next == null ? 1 : 1 + length(x.next) }
-- method m(x: Ref) requires list(x)
-- {
-- var a: Int := length(x)
-- unfold list(x)
-- assert x.next != null ==> a == 1 + length(x.next)
-- }
abbrev pub lengths_list : Predicate
lengths_list = record {
  place = at 2 1;
  parameters = record { name = x; of = type.Ref } ∷ [];
  body = Some (Both (Points (at 2 26) (Variable (at 2 30) x) next (Part (at 2 26) 1 1)) (Implied (Not (at 2 42) (Operate (at 2 42) Equal (Read (at 2 42) (Variable (at 2 42) x) next) (Null (at 2 52)))) (Instance (at 2 61) list (More (Read (at 2 66) (Variable (at 2 66) x) next) NoMore) (Part (at 2 61) 1 1))));
}

abbrev pub lengths_length : Function
lengths_length = record {
  place = at 3 1;
  parameters = record { name = x; of = type.Ref } ∷ [];
  of = Int;
  requires = Instance (at 3 39) list (More (Variable (at 3 44) x) NoMore) (Part (at 3 39) 1 1) ∷ [];
  ensures = Operate (at 3 55) Greater (Variable (at 3 55) result_name) (Number (at 3 64) 0) ∷ [];
  decreases = Some (ByInstance (at 3 76) list (More (Variable (at 3 81) x) NoMore));
  body = Unfolding (at 4 3) list (More (Variable (at 4 18) x) NoMore) (Part (at 4 3) 1 1) (Choose (at 4 24) (Operate (at 4 24) Equal (Read (at 4 24) (Variable (at 4 24) x) next) (Null (at 4 34))) (Number (at 4 41) 1) (Operate (at 4 45) Add (Number (at 4 45) 1) (Apply (at 4 49) length (More (Read (at 4 56) (Variable (at 4 56) x) next) NoMore))));
}

abbrev pub lengths_m : Method
lengths_m = record {
  place = at 5 1;
  parameters = record { name = x; of = type.Ref } ∷ [];
  returns = [];
  requires = Instance (at 5 27) list (More (Variable (at 5 32) x) NoMore) (Part (at 5 27) 1 1) ∷ [];
  ensures = [];
  body = Some (Then (Declare (at 7 1) a Int) (Then (Assign (at 7 1) a (Apply (at 7 15) length (More (Variable (at 7 22) x) NoMore))) (Then (Unfold (at 8 1) list (More (Variable (at 8 13) x) NoMore) (Part (at 8 1) 1 1)) (Then (Assert (at 9 1) (Pure (Connect (at 9 8) Implies (Not (at 9 8) (Operate (at 9 8) Equal (Read (at 9 8) (Variable (at 9 8) x) next) (Null (at 9 18)))) (Operate (at 9 27) Equal (Variable (at 9 27) a) (Operate (at 9 32) Add (Number (at 9 32) 1) (Apply (at 9 36) length (More (Read (at 9 43) (Variable (at 9 43) x) next) NoMore))))))) Done))));
}

abbrev pub lengths : Program
lengths = record { name = next; kind = IsField type.Ref } ∷ record { name = list; kind = IsPredicate lengths_list } ∷ record { name = length; kind = IsFunction lengths_length } ∷ record { name = m; kind = IsMethod lengths_m } ∷ []

-- function f(n: Int): Int decreases n
-- { f(n + 1) }
-- method m() { assert f(0) == f(0) }
abbrev pub rising_f : Function
rising_f = record {
  place = at 1 1;
  parameters = record { name = n; of = Int } ∷ [];
  of = Int;
  requires = [];
  ensures = [];
  decreases = Some (ByNumber (Variable (at 1 35) n));
  body = Apply (at 2 3) f (More (Operate (at 2 5) Add (Variable (at 2 5) n) (Number (at 2 9) 1)) NoMore);
}

abbrev pub rising_m : Method
rising_m = record {
  place = at 3 1;
  parameters = [];
  returns = [];
  requires = [];
  ensures = [];
  body = Some (Then (Assert (at 3 14) (Pure (Operate (at 3 21) Equal (Apply (at 3 21) f (More (Number (at 3 23) 0) NoMore)) (Apply (at 3 29) f (More (Number (at 3 31) 0) NoMore))))) Done);
}

abbrev pub rising : Program
rising = record { name = f; kind = IsFunction rising_f } ∷ record { name = m; kind = IsMethod rising_m } ∷ []

-- field f: Int
-- function g(x: Ref): Int requires acc(x.f) { x.f }
-- method m(x: Ref) { assert g(x) == 0 }
abbrev pub unheld_g : Function
unheld_g = record {
  place = at 2 1;
  parameters = record { name = x; of = type.Ref } ∷ [];
  of = Int;
  requires = Points (at 2 34) (Variable (at 2 38) x) f (Part (at 2 34) 1 1) ∷ [];
  ensures = [];
  decreases = None;
  body = Read (at 2 45) (Variable (at 2 45) x) f;
}

abbrev pub unheld_m : Method
unheld_m = record {
  place = at 3 1;
  parameters = record { name = x; of = type.Ref } ∷ [];
  returns = [];
  requires = [];
  ensures = [];
  body = Some (Then (Assert (at 3 20) (Pure (Operate (at 3 27) Equal (Apply (at 3 27) g (More (Variable (at 3 29) x) NoMore)) (Number (at 3 35) 0)))) Done);
}

abbrev pub unheld : Program
unheld = record { name = f; kind = IsField Int } ∷ record { name = g; kind = IsFunction unheld_g } ∷ record { name = m; kind = IsMethod unheld_m } ∷ []
