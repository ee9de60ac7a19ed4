-- Programs with loops.
use Rattle.std.specs.Prelude.{[], ◌∷◌, Some, codes}
use Rattle.vx_ast.specs.declared.ValueType.TheVariants.{Int}
use Rattle.vx_ast.specs.Syntax.{Name, Add, Assign, Declare, Done, IsMethod, Less, LessEqual, Method, Number, Operate, Program, Pure, Then, Variable, While}
use Rattle.vx_examples.specs.Words.{at}

abbrev pub count : Name
count = codes "count"

abbrev pub i : Name
i = codes "i"

abbrev pub n : Name
n = codes "n"

-- method count(n: Int) requires 0 <= n
-- {
-- var i: Int := 0
-- while (i < n)
-- invariant i <= n
-- {
-- i := i + 1
-- }
-- }
abbrev pub counting_count : Method
counting_count = record {
  place = at 1 1;
  parameters = record { name = n; of = Int } ∷ [];
  returns = [];
  requires = Pure (Operate (at 1 31) LessEqual (Number (at 1 31) 0) (Variable (at 1 36) n)) ∷ [];
  ensures = [];
  body = Some (Then (Declare (at 3 1) i Int) (Then (Assign (at 3 1) i (Number (at 3 15) 0)) (Then (While (at 4 1) (Operate (at 4 8) Less (Variable (at 4 8) i) (Variable (at 4 12) n)) ((Pure (Operate (at 5 11) LessEqual (Variable (at 5 11) i) (Variable (at 5 16) n))) ∷ []) (Then (Assign (at 7 1) i (Operate (at 7 6) Add (Variable (at 7 6) i) (Number (at 7 10) 1))) Done)) Done)));
}

abbrev pub counting : Program
counting = record { name = count; kind = IsMethod counting_count } ∷ []

-- method count(n: Int)
-- {
-- var i: Int := 0
-- while (i < n)
-- invariant i <= n
-- {
-- i := i + 1
-- }
-- }
abbrev pub counting_from_any_count : Method
counting_from_any_count = record {
  place = at 1 1;
  parameters = record { name = n; of = Int } ∷ [];
  returns = [];
  requires = [];
  ensures = [];
  body = Some (Then (Declare (at 3 1) i Int) (Then (Assign (at 3 1) i (Number (at 3 15) 0)) (Then (While (at 4 1) (Operate (at 4 8) Less (Variable (at 4 8) i) (Variable (at 4 12) n)) ((Pure (Operate (at 5 11) LessEqual (Variable (at 5 11) i) (Variable (at 5 16) n))) ∷ []) (Then (Assign (at 7 1) i (Operate (at 7 6) Add (Variable (at 7 6) i) (Number (at 7 10) 1))) Done)) Done)));
}

abbrev pub counting_from_any : Program
counting_from_any = record { name = count; kind = IsMethod counting_from_any_count } ∷ []
