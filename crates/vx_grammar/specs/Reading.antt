-- Reading from left to right, up to the first token that doesn't fit.
use Rattle.std.specs.Prelude.{ℕ, zero, suc, List, [], ◌∷◌, ◌++◌, length, Option, Some, None, Result, Ok, Err, Bool, true, false, if◌then◌else◌, ◌==◌}
use Rattle.vx_ast.specs.declared.Place.{Place}
use Rattle.vx_tokens.specs.declared.token.Word.TheVariants as words
use Rattle.vx_tokens.specs.declared.token.Symbol.{Symbol}
use Rattle.vx_tokens.specs.declared.token.Symbol.TheVariants as signs
use Rattle.vx_ast.specs.declared.UnaryOperator.TheVariants.{Not, Negate}
use Rattle.vx_ast.specs.declared.BinaryOperator.{BinaryOperator}
use Rattle.vx_ast.specs.declared.BinaryOperator.TheVariants.{Implies}
use Rattle.vx_tokens.specs.Tokens.{Kind, name, number, word, symbol, Token}
use Rattle.vx_ast.specs.Written.{Placed, placed, Expr, Exprs, NoMore, More, Amount, All, Truth, Number, Null, Whole, Nothing, Variable, Call, Unary, Binary, Choice, Old, Access, Right, NewAll, New}
use Rattle.vx_ast.specs.Written as written
use Rattle.vx_grammar.specs.Grammar.{level_of, operator_of, Instance, unfolding_of}

-- Where reading stops. The list begins with the token that doesn't fit, or nests too deep, and is empty at the end.
pub data Stop : Type 0 where
  Unexpected : List Token → Stop
  -- a measure, which does not fit where a clause or the block of a method or a loop is due
  Measured : List Token → Stop
  TooDeep : List Token → Stop

-- what was read, and the tokens after it
abbrev pub Read : Type 0 → Type 0
Read A = Result (A × List Token) Stop

infixl 10 ◌>>=◌
abbrev pub ◌>>=◌ : {A B : Type 0} → Result A Stop → (A → Result B Stop) → Result B Stop
(Ok x) >>= f = f x
(Err e) >>= f = Err e

-- ---- loops: one item after the other

-- what one turn makes of what was read before: None where no item follows
abbrev pub Turn : Type 0 → Type 0
Turn S = S → List Token → Read (Option S)

abbrev pub turned : {S : Type 0} → (S → List Token → Read S) → S → List Token → Option S → List Token → Read S
turned go s ts None after = Ok (s, ts)
turned go s ts (Some more) after = go more after

-- at most so many turns
unfoldable pub run : {S : Type 0} → Turn S → ℕ → S → List Token → Read S
run turn zero s ts = Ok (s, ts)
run turn (suc most) s ts = turn s ts >>= λ x. turned (run turn most) s ts x.0 x.1

-- ---- single tokens

-- a number for each symbol
abbrev pub code : Symbol → ℕ
code signs.Implies = 0
code signs.Wand = 1
code signs.Equal = 2
code signs.NotEqual = 3
code signs.LessEqual = 4
code signs.GreaterEqual = 5
code signs.Becomes = 6
code signs.And = 7
code signs.Or = 8
code signs.Open = 9
code signs.Close = 10
code signs.OpenBrace = 11
code signs.CloseBrace = 12
code signs.OpenBracket = 13
code signs.Comma = 14
code signs.Colon = 15
code signs.Semicolon = 16
code signs.Question = 17
code signs.Not = 18
code signs.Less = 19
code signs.Greater = 20
code signs.Plus = 21
code signs.Minus = 22
code signs.Times = 23
code signs.Slash = 24
code signs.Backslash = 25
code signs.Percent = 26
code signs.Dot = 27
code signs.At = 28

abbrev pub is_symbol : Symbol → Kind → Bool
is_symbol s (symbol t) = code s == code t
is_symbol s (word w) = false
is_symbol s (name x) = false
is_symbol s (number n) = false

unfoldable pub expect : Symbol → List Token → Read Token
expect s [] = Err (Unexpected [])
expect s (t ∷ ts) = if is_symbol s t.kind then Ok (t, ts) else Err (Unexpected (t ∷ ts))

abbrev pub name_by : Token → Kind → List Token → Read Placed
name_by t (name x) ts = Ok (placed t.place x, ts)
name_by t k ts = Err (Unexpected (t ∷ ts))

unfoldable pub name_at : List Token → Read Placed
name_at [] = Err (Unexpected [])
name_at (t ∷ ts) = name_by t t.kind ts

-- ---- expressions

-- What is read: an expression of a level, or what follows in a chain of operators of a level behind its first part, or
-- behind a dot; arguments, what `acc` holds, in an expression or in an instance, or the fields of `new`.
pub data Part : Type 0 where
  choice : Part
  implication : Part
  chain : ℕ → Part
  rest_of_chain : ℕ → Place → Expr → Part
  behind_dot : Place → Expr → Part
  arguments : Part
  access : Part
  holding : Part
  -- of a `new` that stands there
  allocation : Place → Part

-- what reading a part gives
abbrev pub Given : Part → Type 0
Given choice = Expr
Given implication = Expr
Given (chain level) = Expr
Given (rest_of_chain level start left) = Expr
Given (behind_dot start left) = Expr
Given arguments = Exprs
Given access = Expr × Amount
Given holding = Instance
Given (allocation at) = Right

-- Reads a part one deeper. The first list begins with the token that nests.
abbrev pub Deeper : Type 0
Deeper = (p : Part) → List Token → List Token → Read (Given p)

-- a part between parentheses
unfoldable pub enclosed : Deeper → (p : Part) → List Token → Read (Given p)
enclosed deeper p ts = do
  opened ← expect signs.Open ts
  x ← deeper p ts opened.1
  close ← expect signs.Close x.1
  Ok (x.0, close.1)

unfoldable pub call_by : Deeper → Token → List ℕ → List Token → Read Expr
call_by deeper t x ts = do
  es ← enclosed deeper arguments ts
  Ok (Call t.place x es.0, es.1)

-- a variable, or an application
unfoldable pub named_by : Deeper → Token → List ℕ → List Token → Read Expr
named_by deeper t x [] = Ok (Variable t.place x, [])
named_by deeper t x (u ∷ us) = if is_symbol signs.Open u.kind then call_by deeper t x (u ∷ us) else Ok (Variable t.place x, u ∷ us)

unfoldable pub old_by : Deeper → Token → List Token → Read Expr
old_by deeper t ts = do
  e ← enclosed deeper choice ts
  Ok (Old t.place e.0, e.1)

unfoldable pub access_by : Deeper → Token → List Token → Read Expr
access_by deeper t ts = do
  a ← enclosed deeper access ts
  Ok (Access t.place a.0.0 a.0.1, a.1)

-- what a dot may stand behind
unfoldable pub primary_by : Deeper → Token → Kind → List Token → Read Expr
primary_by deeper t (name x) ts = named_by deeper t x ts
primary_by deeper t (number n) ts = Ok (Number t.place n, ts)
primary_by deeper t (word words.True) ts = Ok (Truth t.place true, ts)
primary_by deeper t (word words.False) ts = Ok (Truth t.place false, ts)
primary_by deeper t (word words.Null) ts = Ok (Null t.place, ts)
primary_by deeper t (word words.Write) ts = Ok (Whole t.place, ts)
primary_by deeper t (word words.Nothing) ts = Ok (Nothing t.place, ts)
primary_by deeper t (word words.Outcome) ts = Ok (written.Result t.place, ts)
primary_by deeper t (word words.Old) ts = old_by deeper t ts
primary_by deeper t (word words.Acc) ts = access_by deeper t ts
primary_by deeper t (symbol signs.Open) ts = enclosed deeper choice (t ∷ ts)
primary_by deeper t k ts = Err (Unexpected (t ∷ ts))

-- dots, each with a field's name
unfoldable pub dots_at : Deeper → Place → Expr → List Token → Read Expr
dots_at deeper start e [] = Ok (e, [])
dots_at deeper start e (t ∷ ts) = if is_symbol signs.Dot t.kind then deeper (behind_dot start e) (t ∷ ts) ts else Ok (e, t ∷ ts)

unfoldable pub dotted_at : Deeper → Place → Expr → List Token → Read Expr
dotted_at deeper start e ts = do
  f ← name_at ts
  dots_at deeper start (written.Read start e f.0) f.1

unfoldable pub postfix_by : Deeper → Token → Kind → List Token → Read Expr
postfix_by deeper t k ts = do
  e ← primary_by deeper t k ts
  dots_at deeper t.place e.0 e.1

-- P ( arguments )
unfoldable pub bare_by : Deeper → Placed → List Token → Read Instance
bare_by deeper x ts = do
  es ← enclosed deeper arguments ts
  Ok (record { predicate = x; arguments = es.0; amount = All }, es.1)

abbrev pub instance_by : Deeper → Token → Kind → List Token → Read Instance
instance_by deeper t (name x) ts = bare_by deeper (placed t.place x) ts
instance_by deeper t (word words.Acc) ts = enclosed deeper holding ts
instance_by deeper t k ts = Err (Unexpected (t ∷ ts))

unfoldable pub instance_at : Deeper → List Token → Read Instance
instance_at deeper [] = Err (Unexpected [])
instance_at deeper (t ∷ ts) = instance_by deeper t t.kind ts

abbrev pub begins_body : Kind → Bool
begins_body (word words.In) = true
begins_body k = false

-- `in`, and the body behind it
unfoldable pub behind_in : Deeper → List Token → Read Expr
behind_in deeper [] = Err (Unexpected [])
behind_in deeper (t ∷ ts) = if begins_body t.kind then deeper choice (t ∷ ts) ts else Err (Unexpected (t ∷ ts))

unfoldable pub unfolding_by : Deeper → Token → List Token → Read Expr
unfolding_by deeper t ts = do
  i ← instance_at deeper ts
  e ← behind_in deeper i.1
  Ok (unfolding_of t.place i.0 e.0, e.1)

unfoldable pub unary_by : Deeper → Token → Kind → List Token → Read Expr
unary_by deeper t (symbol signs.Not) ts = do
  e ← deeper (chain 0) (t ∷ ts) ts
  Ok (Unary t.place Not e.0, e.1)
unary_by deeper t (symbol signs.Minus) ts = do
  e ← deeper (chain 0) (t ∷ ts) ts
  Ok (Unary t.place Negate e.0, e.1)
unary_by deeper t (word words.Unfolding) ts = unfolding_by deeper t ts
unary_by deeper t k ts = postfix_by deeper t k ts

unfoldable pub unary_at : Deeper → List Token → Read Expr
unary_at deeper [] = Err (Unexpected [])
unary_at deeper (t ∷ ts) = unary_by deeper t t.kind ts

unfoldable pub operator_by : Deeper → ℕ → Place → Expr → Token → List Token → BinaryOperator → Read Expr
operator_by deeper level start left t ts op = do
  right ← deeper (chain level) (t ∷ ts) ts
  deeper (rest_of_chain level start (Binary start op left right.0)) right.1 right.1

unfoldable pub rest_by : Deeper → ℕ → Place → Expr → Token → List Token → Option BinaryOperator → Read Expr
rest_by deeper level start left t ts None = Ok (left, t ∷ ts)
rest_by deeper level start left t ts (Some op) =
    if level_of op == suc level then operator_by deeper level start left t ts op else Ok (left, t ∷ ts)

-- the operators of level + 1
unfoldable pub rest_at : Deeper → ℕ → Place → Expr → List Token → Read Expr
rest_at deeper level start left [] = Ok (left, [])
rest_at deeper level start left (t ∷ ts) = rest_by deeper level start left t ts (operator_of t.kind)

unfoldable pub chain_at : Deeper → ℕ → List Token → Read Expr
chain_at deeper zero ts = unary_at deeper ts
chain_at deeper (suc level) [] = Err (Unexpected [])
chain_at deeper (suc level) (t ∷ ts) = do
  left ← chain_at deeper level (t ∷ ts)
  rest_at deeper level t.place left.0 left.1

unfoldable pub implies_by : Deeper → Place → Expr → Token → List Token → Read Expr
implies_by deeper start left t ts = do
  right ← deeper implication (t ∷ ts) ts
  Ok (Binary start Implies left right.0, right.1)

unfoldable pub implied_by : Deeper → Place → Expr → List Token → Read Expr
implied_by deeper start left [] = Ok (left, [])
implied_by deeper start left (t ∷ ts) =
    if is_symbol signs.Implies t.kind then implies_by deeper start left t ts else Ok (left, t ∷ ts)

unfoldable pub implication_at : Deeper → List Token → Read Expr
implication_at deeper [] = Err (Unexpected [])
implication_at deeper (t ∷ ts) = do
  left ← chain_at deeper 6 (t ∷ ts)
  implied_by deeper t.place left.0 left.1

-- a colon, and the side behind it
unfoldable pub second_by : Deeper → List Token → Read Expr
second_by deeper ts = do
  colon ← expect signs.Colon ts
  deeper choice ts colon.1

unfoldable pub sides_by : Deeper → Place → Expr → Token → List Token → Read Expr
sides_by deeper start condition t ts = do
  first ← deeper choice (t ∷ ts) ts
  second ← second_by deeper first.1
  Ok (Choice start condition first.0 second.0, second.1)

unfoldable pub chosen_by : Deeper → Place → Expr → List Token → Read Expr
chosen_by deeper start condition [] = Ok (condition, [])
chosen_by deeper start condition (t ∷ ts) =
    if is_symbol signs.Question t.kind then sides_by deeper start condition t ts else Ok (condition, t ∷ ts)

unfoldable pub choice_at : Deeper → List Token → Read Expr
choice_at deeper [] = Err (Unexpected [])
choice_at deeper (t ∷ ts) = do
  condition ← implication_at deeper (t ∷ ts)
  chosen_by deeper t.place condition.0 condition.1

-- ---- arguments

abbrev pub exprs_from : List Expr → Exprs
exprs_from [] = NoMore
exprs_from (e ∷ es) = More e (exprs_from es)

-- one argument more, behind a comma
unfoldable pub argument_turn : Deeper → Turn (List Expr)
argument_turn deeper before [] = Ok (None, [])
argument_turn deeper before (t ∷ ts) =
    if is_symbol signs.Comma t.kind then (do
      e ← choice_at deeper ts
      Ok (Some (before ++ e.0 ∷ []), e.1))
    else Ok (None, t ∷ ts)

-- one argument at least
unfoldable pub some_arguments : Deeper → List Token → Read Exprs
some_arguments deeper ts = do
  e ← choice_at deeper ts
  es ← run (argument_turn deeper) (length e.1) (e.0 ∷ []) e.1
  Ok (exprs_from es.0, es.1)

unfoldable pub arguments_at : Deeper → List Token → Read Exprs
arguments_at deeper [] = Err (Unexpected [])
arguments_at deeper (t ∷ ts) = if is_symbol signs.Close t.kind then Ok (NoMore, t ∷ ts) else some_arguments deeper (t ∷ ts)

unfoldable pub amount_by : Deeper → List Token → Read Amount
amount_by deeper ts = do
  e ← choice_at deeper ts
  Ok (written.Part e.0, e.1)

-- an amount behind a comma, or none
unfoldable pub amount_at : Deeper → List Token → Read Amount
amount_at deeper [] = Ok (All, [])
amount_at deeper (t ∷ ts) = if is_symbol signs.Comma t.kind then amount_by deeper ts else Ok (All, t ∷ ts)

unfoldable pub access_at : Deeper → List Token → Read (Expr × Amount)
access_at deeper ts = do
  e ← choice_at deeper ts
  a ← amount_at deeper e.1
  Ok ((e.0, a.0), a.1)

-- what `acc` holds in an instance
unfoldable pub holding_at : Deeper → List Token → Read Instance
holding_at deeper ts = do
  x ← name_at ts
  es ← enclosed deeper arguments x.1
  a ← amount_at deeper es.1
  Ok (record { predicate = x.0; arguments = es.0; amount = a.0 }, a.1)

-- ---- names

-- one name more, behind a comma
unfoldable pub name_turn : Turn (List Placed)
name_turn before [] = Ok (None, [])
name_turn before (t ∷ ts) =
    if is_symbol signs.Comma t.kind then (do
      x ← name_at ts
      Ok (Some (before ++ x.0 ∷ []), x.1))
    else Ok (None, t ∷ ts)

-- one field at least
unfoldable pub fields_at : Place → List Token → Read Right
fields_at at ts = do
  x ← name_at ts
  xs ← run name_turn (length x.1) (x.0 ∷ []) x.1
  Ok (New at xs.0, xs.1)

abbrev pub allocation_by : Place → Token → Kind → List Token → Read Right
allocation_by at t (symbol signs.Times) ts = Ok (NewAll at, ts)
allocation_by at t (symbol signs.Close) ts = Ok (New at [], t ∷ ts)
allocation_by at t k ts = fields_at at (t ∷ ts)

unfoldable pub allocation_at : Place → List Token → Read Right
allocation_at at [] = Err (Unexpected [])
allocation_at at (t ∷ ts) = allocation_by at t t.kind ts

abbrev pub part_at : Deeper → (p : Part) → List Token → Read (Given p)
part_at deeper choice ts = choice_at deeper ts
part_at deeper implication ts = implication_at deeper ts
part_at deeper (chain level) ts = chain_at deeper level ts
part_at deeper (rest_of_chain level start left) ts = rest_at deeper level start left ts
part_at deeper (behind_dot start left) ts = dotted_at deeper start left ts
part_at deeper arguments ts = arguments_at deeper ts
part_at deeper access ts = access_at deeper ts
part_at deeper holding ts = holding_at deeper ts
part_at deeper (allocation at) ts = allocation_at at ts

-- one deeper, where the nesting count may still grow by room
unfoldable pub below : ℕ → Deeper
below zero p here ts = Err (TooDeep here)
below (suc room) p here ts = part_at (below room) p ts
