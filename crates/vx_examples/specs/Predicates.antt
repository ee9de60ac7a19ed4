-- Programs with predicates.
use Rattle.std.specs.Prelude.{List, [], ◌∷◌, Some, None, codes}
use Rattle.vx_ast.specs.declared.ValueType.TheVariants.{Int}
use Rattle.vx_ast.specs.declared.ValueType.TheVariants as type
use Rattle.vx_ast.specs.Syntax.{Name, Assert, Both, Done, Equal, Exhale, Fold, Greater, Implied, Instance, IsField, IsMethod, IsPredicate, Method, More, NoMore, Not, Null, Number, Operate, Part, Points, Predicate, Program, Pure, Read, Subtract, Then, Unfold, Variable, Write}
use Rattle.vx_terms.specs.Terms.{Term}
use Rattle.vx_examples.specs.Words.{at, int, ref, snap, null, unit, number, equal, differ, less, pair, first, second, wrapped_int, as_int}

abbrev pub P_name : Name
P_name = codes "P"

abbrev pub Q_name : Name
Q_name = codes "Q"

abbrev pub f : Name
f = codes "f"

abbrev pub list : Name
list = codes "list"

abbrev pub m : Name
m = codes "m"

abbrev pub next : Name
next = codes "next"

abbrev pub positive : Name
positive = codes "positive"

abbrev pub x : Name
x = codes "x"

-- field next: Ref
-- predicate list(x: Ref) { acc(x.next) && (x.next != null ==> list(x.next)) }
abbrev pub lists_list : Predicate
lists_list = record {
  place = at 2 1;
  parameters = record { name = x; of = type.Ref } ∷ [];
  body = Some (Both (Points (at 2 26) (Variable (at 2 30) x) next (Part (at 2 26) 1 1)) (Implied (Not (at 2 42) (Operate (at 2 42) Equal (Read (at 2 42) (Variable (at 2 42) x) next) (Null (at 2 52)))) (Instance (at 2 61) list (More (Read (at 2 66) (Variable (at 2 66) x) next) NoMore) (Part (at 2 61) 1 1))));
}

abbrev pub lists : Program
lists = record { name = next; kind = IsField type.Ref } ∷ record { name = list; kind = IsPredicate lists_list } ∷ []

-- field f: Int
-- predicate P(x: Ref) { acc(x.f) }
-- method m(x: Ref) requires acc(x.f)
-- {
-- fold P(x)
-- x.f := 1
-- }
abbrev pub folded_write_P : Predicate
folded_write_P = record {
  place = at 2 1;
  parameters = record { name = x; of = type.Ref } ∷ [];
  body = Some (Points (at 2 23) (Variable (at 2 27) x) f (Part (at 2 23) 1 1));
}

abbrev pub folded_write_m : Method
folded_write_m = record {
  place = at 3 1;
  parameters = record { name = x; of = type.Ref } ∷ [];
  returns = [];
  requires = Points (at 3 27) (Variable (at 3 31) x) f (Part (at 3 27) 1 1) ∷ [];
  ensures = [];
  body = Some (Then (Fold (at 5 1) P_name (More (Variable (at 5 8) x) NoMore) (Part (at 5 1) 1 1)) (Then (Write (at 6 1) (Variable (at 6 1) x) f (Number (at 6 8) 1)) Done));
}

abbrev pub folded_write : Program
folded_write = record { name = f; kind = IsField Int } ∷ record { name = P_name; kind = IsPredicate folded_write_P } ∷ record { name = m; kind = IsMethod folded_write_m } ∷ []

-- field f: Int
-- predicate P(x: Ref) { acc(x.f) }
-- method m(x: Ref) requires acc(P(x), 1/2)
-- {
-- unfold acc(P(x), 1/2)
-- x.f := 1
-- }
abbrev pub half_unfolded_P : Predicate
half_unfolded_P = record {
  place = at 2 1;
  parameters = record { name = x; of = type.Ref } ∷ [];
  body = Some (Points (at 2 23) (Variable (at 2 27) x) f (Part (at 2 23) 1 1));
}

abbrev pub half_unfolded_m : Method
half_unfolded_m = record {
  place = at 3 1;
  parameters = record { name = x; of = type.Ref } ∷ [];
  returns = [];
  requires = Instance (at 3 27) P_name (More (Variable (at 3 33) x) NoMore) (Part (at 3 37) 1 2) ∷ [];
  ensures = [];
  body = Some (Then (Unfold (at 5 1) P_name (More (Variable (at 5 14) x) NoMore) (Part (at 5 18) 1 2)) (Then (Write (at 6 1) (Variable (at 6 1) x) f (Number (at 6 8) 1)) Done));
}

abbrev pub half_unfolded : Program
half_unfolded = record { name = f; kind = IsField Int } ∷ record { name = P_name; kind = IsPredicate half_unfolded_P } ∷ record { name = m; kind = IsMethod half_unfolded_m } ∷ []

-- field f: Int
-- predicate Q(x: Ref) { x.f > 0 }
-- method m(x: Ref) requires Q(x) { }
abbrev pub unframed_Q : Predicate
unframed_Q = record {
  place = at 2 1;
  parameters = record { name = x; of = type.Ref } ∷ [];
  body = Some (Pure (Operate (at 2 23) Greater (Read (at 2 23) (Variable (at 2 23) x) f) (Number (at 2 29) 0)));
}

abbrev pub unframed_m : Method
unframed_m = record {
  place = at 3 1;
  parameters = record { name = x; of = type.Ref } ∷ [];
  returns = [];
  requires = Instance (at 3 27) Q_name (More (Variable (at 3 29) x) NoMore) (Part (at 3 27) 1 1) ∷ [];
  ensures = [];
  body = Some Done;
}

abbrev pub unframed : Program
unframed = record { name = f; kind = IsField Int } ∷ record { name = Q_name; kind = IsPredicate unframed_Q } ∷ record { name = m; kind = IsMethod unframed_m } ∷ []

-- predicate P(x: Ref)
-- method m(x: Ref) requires P(x)
-- {
-- exhale acc(P(x), none - write)
-- }
abbrev pub below_none_P : Predicate
below_none_P = record {
  place = at 1 1;
  parameters = record { name = x; of = type.Ref } ∷ [];
  body = None;
}

abbrev pub below_none_m : Method
below_none_m = record {
  place = at 2 1;
  parameters = record { name = x; of = type.Ref } ∷ [];
  returns = [];
  requires = Instance (at 2 27) P_name (More (Variable (at 2 29) x) NoMore) (Part (at 2 27) 1 1) ∷ [];
  ensures = [];
  body = Some (Then (Exhale (at 4 1) (Instance (at 4 8) P_name (More (Variable (at 4 14) x) NoMore) (Operate (at 4 18) Subtract (Part (at 4 18) 0 1) (Part (at 4 25) 1 1)))) Done);
}

abbrev pub below_none : Program
below_none = record { name = P_name; kind = IsPredicate below_none_P } ∷ record { name = m; kind = IsMethod below_none_m } ∷ []

-- field f: Int
-- predicate positive(x: Ref) { acc(x.f) && x.f > 0 }
-- method m(x: Ref) requires positive(x)
-- {
-- assert x != null
-- }
abbrev pub hidden_positive : Predicate
hidden_positive = record {
  place = at 2 1;
  parameters = record { name = x; of = type.Ref } ∷ [];
  body = Some (Both (Points (at 2 30) (Variable (at 2 34) x) f (Part (at 2 30) 1 1)) (Pure (Operate (at 2 42) Greater (Read (at 2 42) (Variable (at 2 42) x) f) (Number (at 2 48) 0))));
}

abbrev pub hidden_m : Method
hidden_m = record {
  place = at 3 1;
  parameters = record { name = x; of = type.Ref } ∷ [];
  returns = [];
  requires = Instance (at 3 27) positive (More (Variable (at 3 36) x) NoMore) (Part (at 3 27) 1 1) ∷ [];
  ensures = [];
  body = Some (Then (Assert (at 5 1) (Pure (Not (at 5 8) (Operate (at 5 8) Equal (Variable (at 5 8) x) (Null (at 5 13)))))) Done);
}

abbrev pub hidden : Program
hidden = record { name = f; kind = IsField Int } ∷ record { name = positive; kind = IsPredicate hidden_positive } ∷ record { name = m; kind = IsMethod hidden_m } ∷ []

-- field f: Int
-- predicate positive(x: Ref) { acc(x.f) && x.f > 0 }
-- method m(x: Ref) requires positive(x)
-- {
-- unfold positive(x)
-- assert x != null
-- }
abbrev pub opened_m : Method
opened_m = record {
  place = at 3 1;
  parameters = record { name = x; of = type.Ref } ∷ [];
  returns = [];
  requires = Instance (at 3 27) positive (More (Variable (at 3 36) x) NoMore) (Part (at 3 27) 1 1) ∷ [];
  ensures = [];
  body = Some (Then (Unfold (at 5 1) positive (More (Variable (at 5 17) x) NoMore) (Part (at 5 1) 1 1)) (Then (Assert (at 6 1) (Pure (Not (at 6 8) (Operate (at 6 8) Equal (Variable (at 6 8) x) (Null (at 6 13)))))) Done));
}

abbrev pub opened : Program
opened = record { name = f; kind = IsField Int } ∷ record { name = positive; kind = IsPredicate hidden_positive } ∷ record { name = m; kind = IsMethod opened_m } ∷ []

-- what is known of x once positive(x) is unfolded
abbrev pub opened_path : List Term
opened_path =
    equal (snap 1) (pair (first (snap 1)) (second (snap 1))) ∷ equal (int 2) (as_int (first (snap 1))) ∷ equal (first (snap 1)) (wrapped_int (int 2))
    ∷ differ (ref 0) null ∷ less (number 0) (int 2) ∷ equal (second (snap 1)) unit ∷ []
