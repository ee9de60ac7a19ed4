-- A function with a postcondition, a method that applies it, a function that applies itself, and one whose precondition applies another.
use Rattle.std.specs.Prelude.{codes, List, [], ◌∷◌, Some, None}
use Rattle.vx_ast.specs.declared.ValueType.TheVariants.{Int}
use Rattle.vx_ast.specs.Syntax.{Name, result_name, Program, Declaration, IsField, IsFunction, IsMethod, Function, Method, ByNumber, Number, Variable, Operate, Equal, LessEqual, Add, Subtract, Choose, Read, Apply, NoMore, More, Implied, Pure, Assert, Done, Then}
use Rattle.vx_sound.specs.Examples.{on_line, x, m}
use Rattle.vx_sound_preds.specs.Examples.{here, f}
use Rattle.vx_sound_funcs.specs.Examples.{g, x_is_a_reference}
use Rattle.vx_sound_funcs.specs.AskingExamples.{kind, kinds, has_field, is_nought}

abbrev pub x_is_a_number : List Declaration
x_is_a_number = record { name = x; of = Int } ∷ []

-- function next(x: Int): Int ensures result == x + 1 { x + 1 }
abbrev pub next : Name
next = codes "next"

abbrev pub adder : Function
adder = record {
  place = on_line 1;
  parameters = x_is_a_number;
  of = Int;
  requires = [];
  ensures = Operate (on_line 2) Equal (Variable (on_line 2) result_name) (Operate (on_line 2) Add (Variable (on_line 2) x) (Number (on_line 2) 1)) ∷ [];
  decreases = None;
  body = Operate (on_line 3) Add (Variable (on_line 3) x) (Number (on_line 3) 1);
}

-- method m(x: Int) { assert next(x) == x + 1 }
abbrev pub relies : Method
relies = record {
  place = on_line 4;
  parameters = x_is_a_number;
  returns = [];
  requires = [];
  ensures = [];
  body = Some (Then (Assert (on_line 5) (Pure (Operate (on_line 5) Equal (Apply (on_line 5) next (More (Variable (on_line 5) x) NoMore)) (Operate (on_line 5) Add (Variable (on_line 5) x) (Number (on_line 5) 1))))) Done);
}

-- both
abbrev pub counts : Program
counts = record { name = next; kind = IsFunction adder } ∷ record { name = m; kind = IsMethod relies } ∷ []

-- function down(x: Int): Int decreases x { x <= 0 ? 0 : down(x - 1) }
abbrev pub down : Name
down = codes "down"

abbrev pub descender : Function
descender = record {
  place = on_line 1;
  parameters = x_is_a_number;
  of = Int;
  requires = [];
  ensures = [];
  decreases = Some (ByNumber (Variable (on_line 3) x));
  body = Choose (on_line 4) (Operate (on_line 4) LessEqual (Variable (on_line 4) x) (Number (on_line 4) 0)) (Number (on_line 4) 0) (Apply (on_line 4) down (More (Operate (on_line 4) Subtract (Variable (on_line 4) x) (Number (on_line 4) 1)) NoMore));
}

abbrev pub descends : Program
descends = record { name = down; kind = IsFunction descender } ∷ []

-- field f: Int, field g: Int, kind(x), which is x.f, and another function
abbrev pub tags : Name → Function → Program
tags y d = record { name = f; kind = IsField Int } ∷ record { name = g; kind = IsField Int } ∷ record { name = kind; kind = IsFunction kinds } ∷ record { name = y; kind = IsFunction d } ∷ []

-- function payload(x: Ref): Int requires acc(x.f) requires kind(x) == 0 ==> acc(x.g) { kind(x) == 0 ? x.g : 0 }
abbrev pub payload : Name
payload = codes "payload"

abbrev pub payloads : Function
payloads = record { place = here; parameters = x_is_a_reference; of = Int; requires = has_field f ∷ Implied is_nought (has_field g) ∷ []; ensures = []; decreases = None; body = Choose here is_nought (Read here (Variable here x) g) (Number here 0) }
