-- Programs on one line, with the first fault of each.
use Rattle.std.specs.Prelude.{ℕ, ◌+◌, true, List, [], ◌∷◌, Option, Some, None, Ok, Err, codes, ⊤}
use Rattle.vx_ast.specs.declared.ValueType.{ValueType}
use Rattle.vx_ast.specs.declared.ValueType.TheVariants.{Int, Ref, Perm}
use Rattle.vx_ast.specs.declared.ValueType.TheVariants as type
use Rattle.vx_ast.specs.declared.BinaryOperator.TheVariants as binary
use Rattle.vx_ast.specs.Syntax.{result_name}
use Rattle.vx_ast.specs.Written.{Name, placed, Expr, NoMore, More, All, Part, Number, Truth, Null, Nothing, Result, Variable, Call, Read, Binary, Choice, Old, Access, Unfolding, Value, New, Declaration, Declare, Assign, Write, Invoke, Inhale, Exhale, Assert, Assume, Fold, Unfold, If, While, NoElse, Block, Done, Then, Clause, Requires, Ensures, Decreases, IsField, IsPredicate, IsFunction, IsMethod, Member, Program}
use Rattle.vx_expressions.specs.Faults.{Checked, OfType, Unknown, Twice, Mismatch, Impure, Arity, NoMeasure, MixedMeasures, AmountNotConstant, NotHere, NotAssignable, OldHere, ResultHere, UnfoldAbstract}
use Rattle.vx_expressions.specs.Examples.{at, name}

-- a name of one letter, and a type behind its colon and a blank
abbrev decl : ℕ → Name → ValueType → Declaration
decl c x t = record { name = placed (at c) x; of = t; type_at = at (c + 3) }

-- an Int by the name of a result, which no text spells
abbrev outcome : ℕ → Declaration
outcome c = record { name = placed (at c) result_name; of = Int; type_at = at (c + 8) }

-- members with their columns and those of their names

abbrev field : ℕ → ℕ → Name → ValueType → Member
field c d x t = record { place = at c; name = placed (at d) x; kind = IsField t }

abbrev predicate : ℕ → ℕ → Name → List Declaration → Option Expr → Member
predicate c d x ps b = record { place = at c; name = placed (at d) x; kind = IsPredicate record { parameters = ps; body = b } }

abbrev function : ℕ → ℕ → Name → List Declaration → ValueType → List Clause → Expr → Member
function c d x ps t cs b = record { place = at c; name = placed (at d) x; kind = IsFunction record { parameters = ps; of = t; clauses = cs; body = b } }

abbrev method : ℕ → ℕ → Name → List Declaration → List Declaration → List Clause → Option Block → Member
method c d x ps rs cs b = record { place = at c; name = placed (at d) x; kind = IsMethod record { parameters = ps; returns = rs; clauses = cs; body = b } }

-- the names of members, and of variables
abbrev pub names : List (Program × Checked ⊤)
names =
    -- method m() { x := 1 }
    ((method 1 8 (codes "m") [] [] [] (Some (Then (Assign (at 14) (name 14 (codes "x")) (Value (Number (at 19) 1))) Done)) ∷ []), Err (Unknown (at 14) (codes "x")))
    -- field v: Int field v: Int
    ∷ ((field 1 7 (codes "v") Int ∷ field 14 20 (codes "v") Int ∷ []), Err (Twice (at 20) (codes "v")))
    -- method m(x: Int) returns (x: Int)
    ∷ ((method 1 8 (codes "m") ((decl 10 (codes "x") Int) ∷ []) ((decl 27 (codes "x") Int) ∷ []) [] None ∷ []), Err (Twice (at 27) (codes "x")))
    -- function f(result: Int): Int { 1 }
    ∷ ((function 1 10 (codes "f") (outcome 12 ∷ []) Int [] (Number (at 32) 1) ∷ []), Err (Twice (at 12) result_name))
    -- function f(n: Int, result: Int): Int requires z { 1 }: it comes before the clauses
    ∷ ((function 1 10 (codes "f") ((decl 12 (codes "n") Int) ∷ outcome 20 ∷ []) Int (Requires (Variable (at 47) (codes "z")) ∷ []) (Number (at 51) 1) ∷ []), Err (Twice (at 20) result_name))
    -- function f(result: Int, n: Int, n: Int): Int { 1 }: and behind the parameters
    ∷ ((function 1 10 (codes "f") (outcome 12 ∷ (decl 25 (codes "n") Int) ∷ (decl 33 (codes "n") Int) ∷ []) Int [] (Number (at 48) 1) ∷ []), Err (Twice (at 33) (codes "n")))
    -- method m(result: Int): a method has no result
    ∷ ((method 1 8 (codes "m") (outcome 10 ∷ []) [] [] None ∷ []), Ok tt)
    -- method m(x: Int) { var x: Int }
    ∷ ((method 1 8 (codes "m") ((decl 10 (codes "x") Int) ∷ []) [] [] (Some (Then (Declare (at 20) (decl 24 (codes "x") Int) None) Done)) ∷ []), Err (Twice (at 24) (codes "x")))
    -- method m() { if (true) { var x: Int } var x: Int }: after its block a name may be declared again
    ∷ ((method 1 8 (codes "m") [] [] [] (Some (Then (If (at 14) (Truth (at 18) true) (Then (Declare (at 26) (decl 30 (codes "x") Int) None) Done) NoElse) (Then (Declare (at 39) (decl 43 (codes "x") Int) None) Done))) ∷ []), Ok tt)
    -- method m() { if (true) { var x: Int } x := 1 }
    ∷ ((method 1 8 (codes "m") [] [] [] (Some (Then (If (at 14) (Truth (at 18) true) (Then (Declare (at 26) (decl 30 (codes "x") Int) None) Done) NoElse) (Then (Assign (at 39) (name 39 (codes "x")) (Value (Number (at 44) 1))) Done))) ∷ []), Err (Unknown (at 39) (codes "x")))
    -- method m() { var x: Int := x }: it is known in its own right side
    ∷ ((method 1 8 (codes "m") [] [] [] (Some (Then (Declare (at 14) (decl 18 (codes "x") Int) (Some (Value (Variable (at 28) (codes "x"))))) Done)) ∷ []), Ok tt)
    -- method m() returns (r: Int) requires r == 0
    ∷ ((method 1 8 (codes "m") [] ((decl 21 (codes "r") Int) ∷ []) (Requires (Binary (at 38) binary.Equal (Variable (at 38) (codes "r")) (Number (at 43) 0)) ∷ []) None ∷ []), Err (Unknown (at 38) (codes "r")))
    -- method m() returns (r: Int) ensures r == 0
    ∷ ((method 1 8 (codes "m") [] ((decl 21 (codes "r") Int) ∷ []) (Ensures (Binary (at 37) binary.Equal (Variable (at 37) (codes "r")) (Number (at 42) 0)) ∷ []) None ∷ []), Ok tt)
    -- method m(x: Int) { x := 1 }
    ∷ ((method 1 8 (codes "m") ((decl 10 (codes "x") Int) ∷ []) [] [] (Some (Then (Assign (at 20) (name 20 (codes "x")) (Value (Number (at 25) 1))) Done)) ∷ []), Err (NotAssignable (at 20)))
    -- method m() returns (r: Int) { r := 1 }
    ∷ ((method 1 8 (codes "m") [] ((decl 21 (codes "r") Int) ∷ []) [] (Some (Then (Assign (at 31) (name 31 (codes "r")) (Value (Number (at 36) 1))) Done)) ∷ []), Ok tt)
    -- method m() { y := z }: the target comes first
    ∷ ((method 1 8 (codes "m") [] [] [] (Some (Then (Assign (at 14) (name 14 (codes "y")) (Value (Variable (at 19) (codes "z")))) Done)) ∷ []), Err (Unknown (at 14) (codes "y"))) ∷ []

-- statements
abbrev pub statements : List (Program × Checked ⊤)
statements =
    -- method m() { assert 1 + true == 2 }
    ((method 1 8 (codes "m") [] [] [] (Some (Then (Assert (at 14) (Binary (at 21) binary.Equal (Binary (at 21) binary.Add (Number (at 21) 1) (Truth (at 25) true)) (Number (at 33) 2))) Done)) ∷ []), Err (Mismatch (at 25) (OfType Int) type.Bool))
    -- method m(b: Bool) { var x: Int x := b }
    ∷ ((method 1 8 (codes "m") ((decl 10 (codes "b") type.Bool) ∷ []) [] [] (Some (Then (Declare (at 21) (decl 25 (codes "x") Int) None) (Then (Assign (at 32) (name 32 (codes "x")) (Value (Variable (at 37) (codes "b")))) Done))) ∷ []), Err (Mismatch (at 37) (OfType Int) type.Bool))
    -- method m() { var x: Int x := new() }
    ∷ ((method 1 8 (codes "m") [] [] [] (Some (Then (Declare (at 14) (decl 18 (codes "x") Int) None) (Then (Assign (at 25) (name 25 (codes "x")) (New (at 30) [])) Done))) ∷ []), Err (Mismatch (at 30) (OfType Int) Ref))
    -- field v: Int method m() { var x: Ref x := new(v) x.v := 1 }
    ∷ ((field 1 7 (codes "v") Int ∷ method 14 21 (codes "m") [] [] [] (Some (Then (Declare (at 27) (decl 31 (codes "x") Ref) None) (Then (Assign (at 38) (name 38 (codes "x")) (New (at 43) ((name 47 (codes "v")) ∷ []))) (Then (Write (at 50) (Variable (at 50) (codes "x")) (name 52 (codes "v")) (Number (at 57) 1)) Done)))) ∷ []), Ok tt)
    -- field v: Int method m() { var x: Ref x := new(v, v) }
    ∷ ((field 1 7 (codes "v") Int ∷ method 14 21 (codes "m") [] [] [] (Some (Then (Declare (at 27) (decl 31 (codes "x") Ref) None) (Then (Assign (at 38) (name 38 (codes "x")) (New (at 43) ((name 47 (codes "v")) ∷ (name 50 (codes "v")) ∷ []))) Done))) ∷ []), Err (Twice (at 50) (codes "v")))
    -- method m() { var x: Ref := new(v) }
    ∷ ((method 1 8 (codes "m") [] [] [] (Some (Then (Declare (at 14) (decl 18 (codes "x") Ref) (Some (New (at 28) ((name 32 (codes "v")) ∷ [])))) Done)) ∷ []), Err (Unknown (at 32) (codes "v")))
    -- field v: Int method m(x: Ref) { x.v := null }
    ∷ ((field 1 7 (codes "v") Int ∷ method 14 21 (codes "m") ((decl 23 (codes "x") Ref) ∷ []) [] [] (Some (Then (Write (at 33) (Variable (at 33) (codes "x")) (name 35 (codes "v")) (Null (at 40))) Done)) ∷ []), Err (Mismatch (at 40) (OfType Int) Ref))
    -- field v: Int method m(x: Ref) { assume acc(x.v) }
    ∷ ((field 1 7 (codes "v") Int ∷ method 14 21 (codes "m") ((decl 23 (codes "x") Ref) ∷ []) [] [] (Some (Then (Assume (at 33) (Access (at 40) (Read (at 44) (Variable (at 44) (codes "x")) (name 46 (codes "v"))) All)) Done)) ∷ []), Err (Impure (at 40)))
    -- field v: Int method m(x: Ref) { inhale acc(x.v) exhale acc(x.v, 1 / 2) }
    ∷ ((field 1 7 (codes "v") Int ∷ method 14 21 (codes "m") ((decl 23 (codes "x") Ref) ∷ []) [] [] (Some (Then (Inhale (at 33) (Access (at 40) (Read (at 44) (Variable (at 44) (codes "x")) (name 46 (codes "v"))) All)) (Then (Exhale (at 49) (Access (at 56) (Read (at 60) (Variable (at 60) (codes "x")) (name 62 (codes "v"))) (Part (Binary (at 65) binary.Divide (Number (at 65) 1) (Number (at 69) 2))))) Done))) ∷ []), Ok tt)
    -- field v: Int method m(x: Ref, a: Perm) { exhale acc(x.v, a) }
    ∷ ((field 1 7 (codes "v") Int ∷ method 14 21 (codes "m") ((decl 23 (codes "x") Ref) ∷ (decl 31 (codes "a") Perm) ∷ []) [] [] (Some (Then (Exhale (at 42) (Access (at 49) (Read (at 53) (Variable (at 53) (codes "x")) (name 55 (codes "v"))) (Part (Variable (at 58) (codes "a"))))) Done)) ∷ []), Ok tt)
    -- method m(n: Int) { while (n) invariant n == old(n) { } }
    ∷ ((method 1 8 (codes "m") ((decl 10 (codes "n") Int) ∷ []) [] [] (Some (Then (While (at 20) (Variable (at 27) (codes "n")) (More (Binary (at 40) binary.Equal (Variable (at 40) (codes "n")) (Old (at 45) (Variable (at 49) (codes "n")))) NoMore) Done) Done)) ∷ []), Err (Mismatch (at 27) (OfType type.Bool) Int))
    -- method m(n: Int) { while (n > 0) invariant n == old(n) { } }
    ∷ ((method 1 8 (codes "m") ((decl 10 (codes "n") Int) ∷ []) [] [] (Some (Then (While (at 20) (Binary (at 27) binary.Greater (Variable (at 27) (codes "n")) (Number (at 31) 0)) (More (Binary (at 44) binary.Equal (Variable (at 44) (codes "n")) (Old (at 49) (Variable (at 53) (codes "n")))) NoMore) Done) Done)) ∷ []), Ok tt)
    -- predicate p(x: Ref) method m(x: Ref) { fold p(x) }
    ∷ ((predicate 1 11 (codes "p") ((decl 13 (codes "x") Ref) ∷ []) None ∷ method 21 28 (codes "m") ((decl 30 (codes "x") Ref) ∷ []) [] [] (Some (Then (Fold (at 40) (name 45 (codes "p")) (More (Variable (at 47) (codes "x")) NoMore) All) Done)) ∷ []), Err (UnfoldAbstract (at 45)))
    -- predicate p(x: Ref) { true } method m(x: Ref) { fold p(x) unfold acc(p(x), 1 / 2) }
    ∷ ((predicate 1 11 (codes "p") ((decl 13 (codes "x") Ref) ∷ []) (Some (Truth (at 23) true)) ∷ method 30 37 (codes "m") ((decl 39 (codes "x") Ref) ∷ []) [] [] (Some (Then (Fold (at 49) (name 54 (codes "p")) (More (Variable (at 56) (codes "x")) NoMore) All) (Then (Unfold (at 59) (name 70 (codes "p")) (More (Variable (at 72) (codes "x")) NoMore) (Part (Binary (at 76) binary.Divide (Number (at 76) 1) (Number (at 80) 2)))) Done))) ∷ []), Ok tt)
    -- predicate p(x: Ref) { true } method m(x: Ref) { fold p(x, x) }
    ∷ ((predicate 1 11 (codes "p") ((decl 13 (codes "x") Ref) ∷ []) (Some (Truth (at 23) true)) ∷ method 30 37 (codes "m") ((decl 39 (codes "x") Ref) ∷ []) [] [] (Some (Then (Fold (at 49) (name 54 (codes "p")) (More (Variable (at 56) (codes "x")) (More (Variable (at 59) (codes "x")) NoMore)) All) Done)) ∷ []), Err (Arity (at 54) 1 2)) ∷ []

-- calls
abbrev pub calls : List (Program × Checked ⊤)
calls =
    -- method n(a: Int) returns (b: Int) method m() { n() }: the arguments are counted first
    ((method 1 8 (codes "n") ((decl 10 (codes "a") Int) ∷ []) ((decl 27 (codes "b") Int) ∷ []) [] None ∷ method 35 42 (codes "m") [] [] [] (Some (Then (Invoke (at 48) [] (name 48 (codes "n")) NoMore) Done)) ∷ []), Err (Arity (at 48) 1 0))
    -- method n(a: Int) returns (b: Int) method m() { n(1) }
    ∷ ((method 1 8 (codes "n") ((decl 10 (codes "a") Int) ∷ []) ((decl 27 (codes "b") Int) ∷ []) [] None ∷ method 35 42 (codes "m") [] [] [] (Some (Then (Invoke (at 48) [] (name 48 (codes "n")) (More (Number (at 50) 1) NoMore)) Done)) ∷ []), Err (Arity (at 48) 1 0))
    -- method n(a: Int) returns (b: Int) method m() { var x: Int x := n(1) }: a call with one target
    ∷ ((method 1 8 (codes "n") ((decl 10 (codes "a") Int) ∷ []) ((decl 27 (codes "b") Int) ∷ []) [] None ∷ method 35 42 (codes "m") [] [] [] (Some (Then (Declare (at 48) (decl 52 (codes "x") Int) None) (Then (Assign (at 59) (name 59 (codes "x")) (Value (Call (at 64) (codes "n") (More (Number (at 66) 1) NoMore)))) Done))) ∷ []), Ok tt)
    -- method n(a: Int) returns (b: Int) method m() { var x: Int := n(1) }
    ∷ ((method 1 8 (codes "n") ((decl 10 (codes "a") Int) ∷ []) ((decl 27 (codes "b") Int) ∷ []) [] None ∷ method 35 42 (codes "m") [] [] [] (Some (Then (Declare (at 48) (decl 52 (codes "x") Int) (Some (Value (Call (at 62) (codes "n") (More (Number (at 64) 1) NoMore))))) Done)) ∷ []), Err (Unknown (at 62) (codes "n")))
    -- method n() returns (b: Int) method m() { var x: Bool x := n() }: told at the name
    ∷ ((method 1 8 (codes "n") [] ((decl 21 (codes "b") Int) ∷ []) [] None ∷ method 29 36 (codes "m") [] [] [] (Some (Then (Declare (at 42) (decl 46 (codes "x") type.Bool) None) (Then (Assign (at 54) (name 54 (codes "x")) (Value (Call (at 59) (codes "n") NoMore))) Done))) ∷ []), Err (Mismatch (at 59) (OfType type.Bool) Int))
    -- method n() returns (a: Int, b: Int) method m() { var x: Int x, x := n() }
    ∷ ((method 1 8 (codes "n") [] ((decl 21 (codes "a") Int) ∷ (decl 29 (codes "b") Int) ∷ []) [] None ∷ method 37 44 (codes "m") [] [] [] (Some (Then (Declare (at 50) (decl 54 (codes "x") Int) None) (Then (Invoke (at 61) ((name 61 (codes "x")) ∷ (name 64 (codes "x")) ∷ []) (name 69 (codes "n")) NoMore) Done))) ∷ []), Err (Twice (at 64) (codes "x")))
    -- method n() returns (a: Int, b: Int) method m() { var x: Int var y: Int x, y := n() }
    ∷ ((method 1 8 (codes "n") [] ((decl 21 (codes "a") Int) ∷ (decl 29 (codes "b") Int) ∷ []) [] None ∷ method 37 44 (codes "m") [] [] [] (Some (Then (Declare (at 50) (decl 54 (codes "x") Int) None) (Then (Declare (at 61) (decl 65 (codes "y") Int) None) (Then (Invoke (at 72) ((name 72 (codes "x")) ∷ (name 75 (codes "y")) ∷ []) (name 80 (codes "n")) NoMore) Done)))) ∷ []), Ok tt)
    -- method m() { x, y := n(z) }
    ∷ ((method 1 8 (codes "m") [] [] [] (Some (Then (Invoke (at 14) ((name 14 (codes "x")) ∷ (name 17 (codes "y")) ∷ []) (name 22 (codes "n")) (More (Variable (at 24) (codes "z")) NoMore)) Done)) ∷ []), Err (Unknown (at 14) (codes "x")))
    -- method m() { n(z) }: the name comes before the arguments
    ∷ ((method 1 8 (codes "m") [] [] [] (Some (Then (Invoke (at 14) [] (name 14 (codes "n")) (More (Variable (at 16) (codes "z")) NoMore)) Done)) ∷ []), Err (Unknown (at 14) (codes "n")))
    -- method n(a: Int) method m() { n(true) }
    ∷ ((method 1 8 (codes "n") ((decl 10 (codes "a") Int) ∷ []) [] [] None ∷ method 18 25 (codes "m") [] [] [] (Some (Then (Invoke (at 31) [] (name 31 (codes "n")) (More (Truth (at 33) true) NoMore)) Done)) ∷ []), Err (Mismatch (at 33) (OfType Int) type.Bool)) ∷ []

-- functions, predicates and contracts
abbrev pub contracts : List (Program × Checked ⊤)
contracts =
    -- method m(b: Bool) requires old(b) { }
    ((method 1 8 (codes "m") ((decl 10 (codes "b") type.Bool) ∷ []) [] (Requires (Old (at 28) (Variable (at 32) (codes "b"))) ∷ []) (Some Done) ∷ []), Err (OldHere (at 28)))
    -- method m(b: Bool) ensures old(b) { }
    ∷ ((method 1 8 (codes "m") ((decl 10 (codes "b") type.Bool) ∷ []) [] (Ensures (Old (at 27) (Variable (at 31) (codes "b"))) ∷ []) (Some Done) ∷ []), Ok tt)
    -- method m() { assert result }
    ∷ ((method 1 8 (codes "m") [] [] [] (Some (Then (Assert (at 14) (Result (at 21))) Done)) ∷ []), Err (ResultHere (at 21)))
    -- function f(n: Int): Int ensures result > 0 { 1 }
    ∷ ((function 1 10 (codes "f") ((decl 12 (codes "n") Int) ∷ []) Int (Ensures (Binary (at 33) binary.Greater (Result (at 33)) (Number (at 42) 0)) ∷ []) (Number (at 46) 1) ∷ []), Ok tt)
    -- function f(n: Int): Int ensures old(n) > 0 { 1 }
    ∷ ((function 1 10 (codes "f") ((decl 12 (codes "n") Int) ∷ []) Int (Ensures (Binary (at 33) binary.Greater (Old (at 33) (Variable (at 37) (codes "n"))) (Number (at 42) 0)) ∷ []) (Number (at 46) 1) ∷ []), Err (OldHere (at 33)))
    -- function f(n: Int): Bool { n }
    ∷ ((function 1 10 (codes "f") ((decl 12 (codes "n") Int) ∷ []) type.Bool [] (Variable (at 28) (codes "n")) ∷ []), Err (Mismatch (at 28) (OfType type.Bool) Int))
    -- function f(a: Perm): Int { 1 }
    ∷ ((function 1 10 (codes "f") ((decl 12 (codes "a") Perm) ∷ []) Int [] (Number (at 28) 1) ∷ []), Err (Mismatch (at 15) (OfType Int) Perm))
    -- method m(a: Perm)
    ∷ ((method 1 8 (codes "m") ((decl 10 (codes "a") Perm) ∷ []) [] [] None ∷ []), Ok tt)
    -- field v: Int function f(x: Ref): Int requires acc(x.v, 1 / 2) { x.v }
    ∷ ((field 1 7 (codes "v") Int ∷ function 14 23 (codes "f") ((decl 25 (codes "x") Ref) ∷ []) Int (Requires (Access (at 47) (Read (at 51) (Variable (at 51) (codes "x")) (name 53 (codes "v"))) (Part (Binary (at 56) binary.Divide (Number (at 56) 1) (Number (at 60) 2)))) ∷ []) (Read (at 65) (Variable (at 65) (codes "x")) (name 67 (codes "v"))) ∷ []), Ok tt)
    -- field v: Int function f(x: Ref): Int requires acc(x.v, none) { x.v }
    ∷ ((field 1 7 (codes "v") Int ∷ function 14 23 (codes "f") ((decl 25 (codes "x") Ref) ∷ []) Int (Requires (Access (at 47) (Read (at 51) (Variable (at 51) (codes "x")) (name 53 (codes "v"))) (Part (Nothing (at 56)))) ∷ []) (Read (at 64) (Variable (at 64) (codes "x")) (name 66 (codes "v"))) ∷ []), Err (AmountNotConstant (at 56)))
    -- field v: Int predicate p(x: Ref) { acc(x.v, none) }
    ∷ ((field 1 7 (codes "v") Int ∷ predicate 14 24 (codes "p") ((decl 26 (codes "x") Ref) ∷ []) (Some (Access (at 36) (Read (at 40) (Variable (at 40) (codes "x")) (name 42 (codes "v"))) (Part (Nothing (at 45))))) ∷ []), Err (AmountNotConstant (at 45)))
    -- field v: Int predicate p(x: Ref) { acc(x.v, 1 / 2) }
    ∷ ((field 1 7 (codes "v") Int ∷ predicate 14 24 (codes "p") ((decl 26 (codes "x") Ref) ∷ []) (Some (Access (at 36) (Read (at 40) (Variable (at 40) (codes "x")) (name 42 (codes "v"))) (Part (Binary (at 45) binary.Divide (Number (at 45) 1) (Number (at 49) 2))))) ∷ []), Ok tt)
    -- field v: Int function f(x: Ref): Int ensures acc(x.v) { 1 }
    ∷ ((field 1 7 (codes "v") Int ∷ function 14 23 (codes "f") ((decl 25 (codes "x") Ref) ∷ []) Int (Ensures (Access (at 46) (Read (at 50) (Variable (at 50) (codes "x")) (name 52 (codes "v"))) All) ∷ []) (Number (at 57) 1) ∷ []), Err (Impure (at 46)))
    -- predicate p(x: Ref) { true } function f(x: Ref): Int requires p(x) decreases p(x) { 1 }: a measure by an instance
    ∷ ((predicate 1 11 (codes "p") ((decl 13 (codes "x") Ref) ∷ []) (Some (Truth (at 23) true)) ∷ function 30 39 (codes "f") ((decl 41 (codes "x") Ref) ∷ []) Int (Requires (Call (at 63) (codes "p") (More (Variable (at 65) (codes "x")) NoMore)) ∷ Decreases (Call (at 78) (codes "p") (More (Variable (at 80) (codes "x")) NoMore)) ∷ []) (Number (at 85) 1) ∷ []), Ok tt)
    -- predicate p(x: Ref) { true } function f(x: Ref): Int requires p(x) decreases acc(p(x)) { 1 }
    ∷ ((predicate 1 11 (codes "p") ((decl 13 (codes "x") Ref) ∷ []) (Some (Truth (at 23) true)) ∷ function 30 39 (codes "f") ((decl 41 (codes "x") Ref) ∷ []) Int (Requires (Call (at 63) (codes "p") (More (Variable (at 65) (codes "x")) NoMore)) ∷ Decreases (Access (at 78) (Call (at 82) (codes "p") (More (Variable (at 84) (codes "x")) NoMore)) All) ∷ []) (Number (at 90) 1) ∷ []), Err (Impure (at 78)))
    -- function f(n: Int): Int decreases n == 0 { 1 }
    ∷ ((function 1 10 (codes "f") ((decl 12 (codes "n") Int) ∷ []) Int (Decreases (Binary (at 35) binary.Equal (Variable (at 35) (codes "n")) (Number (at 40) 0)) ∷ []) (Number (at 44) 1) ∷ []), Err (Mismatch (at 35) (OfType Int) type.Bool))
    -- function f(n: Int): Int requires n ensures z { 1 }: clauses come in text order
    ∷ ((function 1 10 (codes "f") ((decl 12 (codes "n") Int) ∷ []) Int (Requires (Variable (at 34) (codes "n")) ∷ Ensures (Variable (at 44) (codes "z")) ∷ []) (Number (at 48) 1) ∷ []), Err (Mismatch (at 34) (OfType type.Bool) Int)) ∷ []

-- measures, and what leads back to its own group
abbrev pub groups : List (Program × Checked ⊤)
groups =
    -- function f(n: Int): Int { n == 0 ? 0 : f(n - 1) }
    ((function 1 10 (codes "f") ((decl 12 (codes "n") Int) ∷ []) Int [] (Choice (at 27) (Binary (at 27) binary.Equal (Variable (at 27) (codes "n")) (Number (at 32) 0)) (Number (at 36) 0) (Call (at 40) (codes "f") (More (Binary (at 42) binary.Subtract (Variable (at 42) (codes "n")) (Number (at 46) 1)) NoMore))) ∷ []), Err (NoMeasure (at 1)))
    -- function f(n: Int): Int decreases n { n == 0 ? 0 : f(n - 1) }
    ∷ ((function 1 10 (codes "f") ((decl 12 (codes "n") Int) ∷ []) Int (Decreases (Variable (at 35) (codes "n")) ∷ []) (Choice (at 39) (Binary (at 39) binary.Equal (Variable (at 39) (codes "n")) (Number (at 44) 0)) (Number (at 48) 0) (Call (at 52) (codes "f") (More (Binary (at 54) binary.Subtract (Variable (at 54) (codes "n")) (Number (at 58) 1)) NoMore))) ∷ []), Ok tt)
    -- function f(n: Int): Int { 1 } function g(n: Int): Int { f(n) }: none reaches itself
    ∷ ((function 1 10 (codes "f") ((decl 12 (codes "n") Int) ∷ []) Int [] (Number (at 27) 1) ∷ function 31 40 (codes "g") ((decl 42 (codes "n") Int) ∷ []) Int [] (Call (at 57) (codes "f") (More (Variable (at 59) (codes "n")) NoMore)) ∷ []), Ok tt)
    -- function f(n: Int): Int decreases n { g(n) } function g(n: Int): Int { f(n) }
    ∷ ((function 1 10 (codes "f") ((decl 12 (codes "n") Int) ∷ []) Int (Decreases (Variable (at 35) (codes "n")) ∷ []) (Call (at 39) (codes "g") (More (Variable (at 41) (codes "n")) NoMore)) ∷ function 46 55 (codes "g") ((decl 57 (codes "n") Int) ∷ []) Int [] (Call (at 72) (codes "f") (More (Variable (at 74) (codes "n")) NoMore)) ∷ []), Err (NoMeasure (at 46)))
    -- predicate p(n: Int) { true } function f(n: Int): Int decreases n { g(n) } function g(n: Int): Int requires p(n) decreases p(n) { f(n) }
    ∷ ((predicate 1 11 (codes "p") ((decl 13 (codes "n") Int) ∷ []) (Some (Truth (at 23) true)) ∷ function 30 39 (codes "f") ((decl 41 (codes "n") Int) ∷ []) Int (Decreases (Variable (at 64) (codes "n")) ∷ []) (Call (at 68) (codes "g") (More (Variable (at 70) (codes "n")) NoMore)) ∷ function 75 84 (codes "g") ((decl 86 (codes "n") Int) ∷ []) Int (Requires (Call (at 108) (codes "p") (More (Variable (at 110) (codes "n")) NoMore)) ∷ Decreases (Call (at 123) (codes "p") (More (Variable (at 125) (codes "n")) NoMore)) ∷ []) (Call (at 130) (codes "f") (More (Variable (at 132) (codes "n")) NoMore)) ∷ []), Err (MixedMeasures (at 30)))
    -- function f(n: Int): Int decreases n { g(n) } function g(n: Int): Int decreases n { f(n) }
    ∷ ((function 1 10 (codes "f") ((decl 12 (codes "n") Int) ∷ []) Int (Decreases (Variable (at 35) (codes "n")) ∷ []) (Call (at 39) (codes "g") (More (Variable (at 41) (codes "n")) NoMore)) ∷ function 46 55 (codes "g") ((decl 57 (codes "n") Int) ∷ []) Int (Decreases (Variable (at 80) (codes "n")) ∷ []) (Call (at 84) (codes "f") (More (Variable (at 86) (codes "n")) NoMore)) ∷ []), Ok tt)
    -- function g(n: Int): Int requires g(n) > 0 decreases n { 0 }
    ∷ ((function 1 10 (codes "g") ((decl 12 (codes "n") Int) ∷ []) Int (Requires (Binary (at 34) binary.Greater (Call (at 34) (codes "g") (More (Variable (at 36) (codes "n")) NoMore)) (Number (at 41) 0)) ∷ Decreases (Variable (at 53) (codes "n")) ∷ []) (Number (at 57) 0) ∷ []), Err (NotHere (at 34)))
    -- function g(n: Int): Int requires g(n) > 0 { 0 }: measures come first
    ∷ ((function 1 10 (codes "g") ((decl 12 (codes "n") Int) ∷ []) Int (Requires (Binary (at 34) binary.Greater (Call (at 34) (codes "g") (More (Variable (at 36) (codes "n")) NoMore)) (Number (at 41) 0)) ∷ []) (Number (at 45) 0) ∷ []), Err (NoMeasure (at 1)))
    -- function f(n: Int): Int { 1 } function g(n: Int): Int requires f(n) > 0 { 0 }
    ∷ ((function 1 10 (codes "f") ((decl 12 (codes "n") Int) ∷ []) Int [] (Number (at 27) 1) ∷ function 31 40 (codes "g") ((decl 42 (codes "n") Int) ∷ []) Int (Requires (Binary (at 64) binary.Greater (Call (at 64) (codes "f") (More (Variable (at 66) (codes "n")) NoMore)) (Number (at 71) 0)) ∷ []) (Number (at 75) 0) ∷ []), Ok tt)
    -- function f(n: Int): Int decreases f(n) { 1 }: a measure applies no function
    ∷ ((function 1 10 (codes "f") ((decl 12 (codes "n") Int) ∷ []) Int (Decreases (Call (at 35) (codes "f") (More (Variable (at 37) (codes "n")) NoMore)) ∷ []) (Number (at 42) 1) ∷ []), Err (NotHere (at 35)))
    -- function f(n: Int): Int { 1 } predicate p(n: Int) { f(n) == 1 }
    ∷ ((function 1 10 (codes "f") ((decl 12 (codes "n") Int) ∷ []) Int [] (Number (at 27) 1) ∷ predicate 31 41 (codes "p") ((decl 43 (codes "n") Int) ∷ []) (Some (Binary (at 53) binary.Equal (Call (at 53) (codes "f") (More (Variable (at 55) (codes "n")) NoMore)) (Number (at 61) 1))) ∷ []), Err (NotHere (at 53)))
    -- predicate p(x: Ref) { unfolding p(x) in true }
    ∷ ((predicate 1 11 (codes "p") ((decl 13 (codes "x") Ref) ∷ []) (Some (Unfolding (at 23) (name 33 (codes "p")) (More (Variable (at 35) (codes "x")) NoMore) All (Truth (at 41) true))) ∷ []), Err (NotHere (at 33)))
    -- predicate p(x: Ref) { x != null ==> p(x) }: an instance of its own may stand there
    ∷ ((predicate 1 11 (codes "p") ((decl 13 (codes "x") Ref) ∷ []) (Some (Binary (at 23) binary.Implies (Binary (at 23) binary.NotEqual (Variable (at 23) (codes "x")) (Null (at 28))) (Call (at 37) (codes "p") (More (Variable (at 39) (codes "x")) NoMore)))) ∷ []), Ok tt)
    -- predicate p(x: Ref) { unfolding q(x) in true } predicate q(x: Ref) { p(x) }
    ∷ ((predicate 1 11 (codes "p") ((decl 13 (codes "x") Ref) ∷ []) (Some (Unfolding (at 23) (name 33 (codes "q")) (More (Variable (at 35) (codes "x")) NoMore) All (Truth (at 41) true))) ∷ predicate 48 58 (codes "q") ((decl 60 (codes "x") Ref) ∷ []) (Some (Call (at 70) (codes "p") (More (Variable (at 72) (codes "x")) NoMore))) ∷ []), Err (NotHere (at 33))) ∷ []
