-- Programs in which a member is entered within itself, which typing has to refuse; and programs in which none is.
use Rattle.std.specs.Prelude.{[], ◌∷◌, Some, None, codes, true}
use Rattle.vx_ast.specs.declared.Place.{Place}
use Rattle.vx_ast.specs.declared.ValueType.TheVariants.{Int}
use Rattle.vx_ast.specs.declared.ValueType.TheVariants as type
use Rattle.vx_ast.specs.Syntax.{Name, Program, Predicate, Function, IsField, IsPredicate, IsFunction, Number, Truth, Part, Variable, Operate, Equal, Read, Apply, Unfolding, NoMore, More, Pure, Points, Instance, Both}

abbrev pub f : Name
f = codes "f"

abbrev pub n : Name
n = codes "n"

abbrev pub P : Name
P = codes "P"

abbrev pub Q : Name
Q = codes "Q"

abbrev pub x : Name
x = codes "x"

abbrev pub here : Place
here = record { line = 1; column = 1 }

-- function f(n: Int): Int requires f(n) == 0 { 0 }
abbrev pub applies_itself_f : Function
applies_itself_f = record {
  place = here;
  parameters = record { name = n; of = Int } ∷ [];
  of = Int;
  requires = Pure (Operate here Equal (Apply here f (More (Variable here n) NoMore)) (Number here 0)) ∷ [];
  ensures = [];
  decreases = None;
  body = Number here 0;
}

abbrev pub applies_itself : Program
applies_itself = record { name = f; kind = IsFunction applies_itself_f } ∷ []

-- predicate P(x: Ref) { P(x) && (unfolding P(x) in true) }
abbrev pub unfolds_itself_P : Predicate
unfolds_itself_P = record {
  place = here;
  parameters = record { name = x; of = type.Ref } ∷ [];
  body = Some (Both (Instance here P (More (Variable here x) NoMore) (Part here 1 1)) (Pure (Unfolding here P (More (Variable here x) NoMore) (Part here 1 1) (Truth here true))));
}

abbrev pub unfolds_itself : Program
unfolds_itself = record { name = P; kind = IsPredicate unfolds_itself_P } ∷ []

-- field f: Int
-- predicate P(x: Ref) { acc(x.f) }
-- predicate Q(x: Ref) { P(x) && (unfolding P(x) in x.f == 0) }
-- function n(x: Ref): Int requires Q(x) && (unfolding Q(x) in true) { 0 }
abbrev pub nested_P : Predicate
nested_P = record { place = here; parameters = record { name = x; of = type.Ref } ∷ []; body = Some (Points here (Variable here x) f (Part here 1 1)) }

abbrev pub nested_Q : Predicate
nested_Q = record {
  place = here;
  parameters = record { name = x; of = type.Ref } ∷ [];
  body = Some (Both (Instance here P (More (Variable here x) NoMore) (Part here 1 1)) (Pure (Unfolding here P (More (Variable here x) NoMore) (Part here 1 1) (Operate here Equal (Read here (Variable here x) f) (Number here 0)))));
}

abbrev pub nested_n : Function
nested_n = record {
  place = here;
  parameters = record { name = x; of = type.Ref } ∷ [];
  of = Int;
  requires = Both (Instance here Q (More (Variable here x) NoMore) (Part here 1 1)) (Pure (Unfolding here Q (More (Variable here x) NoMore) (Part here 1 1) (Truth here true))) ∷ [];
  ensures = [];
  decreases = None;
  body = Number here 0;
}

abbrev pub nested : Program
nested = record { name = f; kind = IsField Int } ∷ record { name = P; kind = IsPredicate nested_P } ∷ record { name = Q; kind = IsPredicate nested_Q } ∷ record { name = n; kind = IsFunction nested_n } ∷ []

-- function f(n: Int): Int { 0 }
abbrev pub plain_f : Function
plain_f = record { place = here; parameters = record { name = n; of = Int } ∷ []; of = Int; requires = []; ensures = []; decreases = None; body = Number here 0 }

abbrev pub plain : Program
plain = record { name = f; kind = IsFunction plain_f } ∷ []
