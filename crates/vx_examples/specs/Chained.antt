-- Further programs with functions: groups, branches, chains, the old heap, and a field of type Perm.
use Rattle.std.specs.Prelude.{true, false, [], ◌∷◌, Some, None, codes}
use Rattle.vx_ast.specs.declared.ValueType.TheVariants.{Int, Perm}
use Rattle.vx_ast.specs.declared.ValueType.TheVariants as type
use Rattle.vx_ast.specs.Syntax.{Name, Add, Apply, Assert, Both, ByNumber, Choose, Connect, Done, Equal, Function, Greater, GreaterEqual, If, Implies, IsField, IsFunction, IsMethod, Less, LessEqual, Method, More, Multiply, NoMore, Not, Number, Old, Operate, Part, Points, Program, Pure, Read, Subtract, Then, Truth, Variable, Write, result_name}
use Rattle.vx_examples.specs.Words.{at}

abbrev pub b : Name
b = codes "b"

abbrev pub even : Name
even = codes "even"

abbrev pub f : Name
f = codes "f"

abbrev pub g : Name
g = codes "g"

abbrev pub h : Name
h = codes "h"

abbrev pub k : Name
k = codes "k"

abbrev pub m : Name
m = codes "m"

abbrev pub n : Name
n = codes "n"

abbrev pub odd : Name
odd = codes "odd"

abbrev pub p : Name
p = codes "p"

abbrev pub x : Name
x = codes "x"

-- function even(n: Int): Bool requires 0 <= n decreases n
-- { n == 0 ? true : odd(n - 1) }
-- function odd(n: Int): Bool requires 0 <= n decreases n + 1
-- { n == 0 ? false : even(n - 1) }
abbrev pub across_even : Function
across_even = record {
  place = at 1 1;
  parameters = record { name = n; of = Int } ∷ [];
  of = type.Bool;
  requires = Pure (Operate (at 1 38) LessEqual (Number (at 1 38) 0) (Variable (at 1 43) n)) ∷ [];
  ensures = [];
  decreases = Some (ByNumber (Variable (at 1 55) n));
  body = Choose (at 2 3) (Operate (at 2 3) Equal (Variable (at 2 3) n) (Number (at 2 8) 0)) (Truth (at 2 12) true) (Apply (at 2 19) odd (More (Operate (at 2 23) Subtract (Variable (at 2 23) n) (Number (at 2 27) 1)) NoMore));
}

abbrev pub across_odd : Function
across_odd = record {
  place = at 3 1;
  parameters = record { name = n; of = Int } ∷ [];
  of = type.Bool;
  requires = Pure (Operate (at 3 37) LessEqual (Number (at 3 37) 0) (Variable (at 3 42) n)) ∷ [];
  ensures = [];
  decreases = Some (ByNumber (Operate (at 3 54) Add (Variable (at 3 54) n) (Number (at 3 58) 1)));
  body = Choose (at 4 3) (Operate (at 4 3) Equal (Variable (at 4 3) n) (Number (at 4 8) 0)) (Truth (at 4 12) false) (Apply (at 4 20) even (More (Operate (at 4 25) Subtract (Variable (at 4 25) n) (Number (at 4 29) 1)) NoMore));
}

abbrev pub across : Program
across = record { name = even; kind = IsFunction across_even } ∷ record { name = odd; kind = IsFunction across_odd } ∷ []

-- function f(n: Int): Int requires n > 0 { n - 1 }
-- method m(b: Bool, n: Int) requires b ==> n > 0
-- {
-- assert b ==> f(n) >= 0
-- assert f(n) >= 0
-- }
abbrev pub behind_f : Function
behind_f = record {
  place = at 1 1;
  parameters = record { name = n; of = Int } ∷ [];
  of = Int;
  requires = Pure (Operate (at 1 34) Greater (Variable (at 1 34) n) (Number (at 1 38) 0)) ∷ [];
  ensures = [];
  decreases = None;
  body = Operate (at 1 42) Subtract (Variable (at 1 42) n) (Number (at 1 46) 1);
}

abbrev pub behind_m : Method
behind_m = record {
  place = at 2 1;
  parameters = record { name = b; of = type.Bool } ∷ record { name = n; of = Int } ∷ [];
  returns = [];
  requires = Pure (Connect (at 2 36) Implies (Variable (at 2 36) b) (Operate (at 2 42) Greater (Variable (at 2 42) n) (Number (at 2 46) 0))) ∷ [];
  ensures = [];
  body = Some (Then (Assert (at 4 1) (Pure (Connect (at 4 8) Implies (Variable (at 4 8) b) (Operate (at 4 14) GreaterEqual (Apply (at 4 14) f (More (Variable (at 4 16) n) NoMore)) (Number (at 4 22) 0))))) (Then (Assert (at 5 1) (Pure (Operate (at 5 8) GreaterEqual (Apply (at 5 8) f (More (Variable (at 5 10) n) NoMore)) (Number (at 5 16) 0)))) Done));
}

abbrev pub behind : Program
behind = record { name = f; kind = IsFunction behind_f } ∷ record { name = m; kind = IsMethod behind_m } ∷ []

-- function f(n: Int): Int { g(n) + 1 }
-- function g(n: Int): Int { h(n) + 2 }
-- function h(n: Int): Int ensures result > n { k(n) + 3 }
-- function k(n: Int): Int ensures result > n { n + 4 }
-- method m(n: Int, b: Bool)
-- {
-- if (b) { assert k(n) == n + 4 }
-- assert f(n) == n + 10
-- }
abbrev pub chained_f : Function
chained_f = record {
  place = at 1 1;
  parameters = record { name = n; of = Int } ∷ [];
  of = Int;
  requires = [];
  ensures = [];
  decreases = None;
  body = Operate (at 1 27) Add (Apply (at 1 27) g (More (Variable (at 1 29) n) NoMore)) (Number (at 1 34) 1);
}

abbrev pub chained_g : Function
chained_g = record {
  place = at 2 1;
  parameters = record { name = n; of = Int } ∷ [];
  of = Int;
  requires = [];
  ensures = [];
  decreases = None;
  body = Operate (at 2 27) Add (Apply (at 2 27) h (More (Variable (at 2 29) n) NoMore)) (Number (at 2 34) 2);
}

abbrev pub chained_h : Function
chained_h = record {
  place = at 3 1;
  parameters = record { name = n; of = Int } ∷ [];
  of = Int;
  requires = [];
  ensures = Operate (at 3 33) Greater (Variable (at 3 33) result_name) (Variable (at 3 42) n) ∷ [];
  decreases = None;
  body = Operate (at 3 46) Add (Apply (at 3 46) k (More (Variable (at 3 48) n) NoMore)) (Number (at 3 53) 3);
}

abbrev pub chained_k : Function
chained_k = record {
  place = at 4 1;
  parameters = record { name = n; of = Int } ∷ [];
  of = Int;
  requires = [];
  ensures = Operate (at 4 33) Greater (Variable (at 4 33) result_name) (Variable (at 4 42) n) ∷ [];
  decreases = None;
  body = Operate (at 4 46) Add (Variable (at 4 46) n) (Number (at 4 50) 4);
}

abbrev pub chained_m : Method
chained_m = record {
  place = at 5 1;
  parameters = record { name = n; of = Int } ∷ record { name = b; of = type.Bool } ∷ [];
  returns = [];
  requires = [];
  ensures = [];
  body = Some (Then (If (at 7 1) (Variable (at 7 5) b) (Then (Assert (at 7 10) (Pure (Operate (at 7 17) Equal (Apply (at 7 17) k (More (Variable (at 7 19) n) NoMore)) (Operate (at 7 25) Add (Variable (at 7 25) n) (Number (at 7 29) 4))))) Done) Done) (Then (Assert (at 8 1) (Pure (Operate (at 8 8) Equal (Apply (at 8 8) f (More (Variable (at 8 10) n) NoMore)) (Operate (at 8 16) Add (Variable (at 8 16) n) (Number (at 8 20) 10))))) Done));
}

abbrev pub chained : Program
chained = record { name = f; kind = IsFunction chained_f } ∷ record { name = g; kind = IsFunction chained_g } ∷ record { name = h; kind = IsFunction chained_h } ∷ record { name = k; kind = IsFunction chained_k } ∷ record { name = m; kind = IsMethod chained_m } ∷ []

-- field f: Int
-- function g(x: Ref): Int requires acc(x.f) { x.f }
-- method m(x: Ref) requires acc(x.f) ensures acc(x.f) && g(x) == old(g(x)) + 1
-- {
-- x.f := x.f + 1
-- }
abbrev pub older_g : Function
older_g = record {
  place = at 2 1;
  parameters = record { name = x; of = type.Ref } ∷ [];
  of = Int;
  requires = Points (at 2 34) (Variable (at 2 38) x) f (Part (at 2 34) 1 1) ∷ [];
  ensures = [];
  decreases = None;
  body = Read (at 2 45) (Variable (at 2 45) x) f;
}

abbrev pub older_m : Method
older_m = record {
  place = at 3 1;
  parameters = record { name = x; of = type.Ref } ∷ [];
  returns = [];
  requires = Points (at 3 27) (Variable (at 3 31) x) f (Part (at 3 27) 1 1) ∷ [];
  ensures = Both (Points (at 3 44) (Variable (at 3 48) x) f (Part (at 3 44) 1 1)) (Pure (Operate (at 3 56) Equal (Apply (at 3 56) g (More (Variable (at 3 58) x) NoMore)) (Operate (at 3 64) Add (Old (at 3 64) (Apply (at 3 68) g (More (Variable (at 3 70) x) NoMore))) (Number (at 3 76) 1)))) ∷ [];
  body = Some (Then (Write (at 5 1) (Variable (at 5 1) x) f (Operate (at 5 8) Add (Read (at 5 8) (Variable (at 5 8) x) f) (Number (at 5 14) 1))) Done);
}

abbrev pub older : Program
older = record { name = f; kind = IsField Int } ∷ record { name = g; kind = IsFunction older_g } ∷ record { name = m; kind = IsMethod older_m } ∷ []

-- field p: Perm
-- function g(x: Ref): Perm requires acc(x.p) { x.p }
-- method m(x: Ref) requires acc(x.p) && x.p > none
-- {
-- assert g(x) > none
-- assert g(x) < 2 * g(x)
-- }
abbrev pub shares_g : Function
shares_g = record {
  place = at 2 1;
  parameters = record { name = x; of = type.Ref } ∷ [];
  of = Perm;
  requires = Points (at 2 35) (Variable (at 2 39) x) p (Part (at 2 35) 1 1) ∷ [];
  ensures = [];
  decreases = None;
  body = Read (at 2 46) (Variable (at 2 46) x) p;
}

abbrev pub shares_m : Method
shares_m = record {
  place = at 3 1;
  parameters = record { name = x; of = type.Ref } ∷ [];
  returns = [];
  requires = Both (Points (at 3 27) (Variable (at 3 31) x) p (Part (at 3 27) 1 1)) (Pure (Operate (at 3 39) Greater (Read (at 3 39) (Variable (at 3 39) x) p) (Part (at 3 45) 0 1))) ∷ [];
  ensures = [];
  body = Some (Then (Assert (at 5 1) (Pure (Operate (at 5 8) Greater (Apply (at 5 8) g (More (Variable (at 5 10) x) NoMore)) (Part (at 5 15) 0 1)))) (Then (Assert (at 6 1) (Pure (Operate (at 6 8) Less (Apply (at 6 8) g (More (Variable (at 6 10) x) NoMore)) (Operate (at 6 15) Multiply (Number (at 6 15) 2) (Apply (at 6 19) g (More (Variable (at 6 21) x) NoMore)))))) Done));
}

abbrev pub shares : Program
shares = record { name = p; kind = IsField Perm } ∷ record { name = g; kind = IsFunction shares_g } ∷ record { name = m; kind = IsMethod shares_m } ∷ []

-- function even(n: Int): Bool requires 0 <= n ensures n == 1 ==> !result decreases n
-- { n == 0 ? true : odd(n - 1) }
-- function odd(n: Int): Bool requires 0 <= n decreases n
-- { n == 0 ? false : even(n - 1) }
abbrev pub promised_even : Function
promised_even = record {
  place = at 1 1;
  parameters = record { name = n; of = Int } ∷ [];
  of = type.Bool;
  requires = Pure (Operate (at 1 38) LessEqual (Number (at 1 38) 0) (Variable (at 1 43) n)) ∷ [];
  ensures = Connect (at 1 53) Implies (Operate (at 1 53) Equal (Variable (at 1 53) n) (Number (at 1 58) 1)) (Not (at 1 64) (Variable (at 1 65) result_name)) ∷ [];
  decreases = Some (ByNumber (Variable (at 1 82) n));
  body = Choose (at 2 3) (Operate (at 2 3) Equal (Variable (at 2 3) n) (Number (at 2 8) 0)) (Truth (at 2 12) true) (Apply (at 2 19) odd (More (Operate (at 2 23) Subtract (Variable (at 2 23) n) (Number (at 2 27) 1)) NoMore));
}

abbrev pub promised_odd : Function
promised_odd = record {
  place = at 3 1;
  parameters = record { name = n; of = Int } ∷ [];
  of = type.Bool;
  requires = Pure (Operate (at 3 37) LessEqual (Number (at 3 37) 0) (Variable (at 3 42) n)) ∷ [];
  ensures = [];
  decreases = Some (ByNumber (Variable (at 3 54) n));
  body = Choose (at 4 3) (Operate (at 4 3) Equal (Variable (at 4 3) n) (Number (at 4 8) 0)) (Truth (at 4 12) false) (Apply (at 4 20) even (More (Operate (at 4 25) Subtract (Variable (at 4 25) n) (Number (at 4 29) 1)) NoMore));
}

abbrev pub promised : Program
promised = record { name = even; kind = IsFunction promised_even } ∷ record { name = odd; kind = IsFunction promised_odd } ∷ []
