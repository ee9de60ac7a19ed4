-- The canonical tokens of a program as it is written, by the grammar of Viper (VMCAI 2016): no semicolons, and
-- parentheses round an operand exactly where the grouping needs them.
use Rattle.std.specs.Prelude.{ℕ, List, [], ◌∷◌, ◌++◌, Bool, true, false, not, ◌||◌, nat_lt, if◌then◌else◌, Option, Some, None}
use Rattle.vx_tokens.specs.declared.token.Word.{Word}
use Rattle.vx_tokens.specs.declared.token.Word.TheVariants as words
use Rattle.vx_tokens.specs.declared.token.Symbol.TheVariants as signs
use Rattle.vx_tokens.specs.Tokens.{Kind, name, number, word, symbol}
use Rattle.vx_ast.specs.Written.{Name, Placed, Expr, Exprs, NoMore, More, Amount, All, Part, Truth, Number, Null, Whole, Nothing, Result, Variable, Call, Read, Unary, Binary, Choice, Old, Access, Unfolding, Right, Value, NewAll, New, Declaration, Stmt, Other, NoElse, Else, Block, Declare, Assign, Write, Invoke, Inhale, Exhale, Assert, Assume, Fold, Unfold, If, While, Done, Then, Clause, Requires, Ensures, Decreases, Predicate, Function, Method, Kind as MemberKind, IsField, IsPredicate, IsFunction, IsMethod, Member, Program}
use Rattle.vx_grammar.specs.Grammar.{sign_of, prefix_sign, literal_word, level_of, left_level, right_level}
use Rattle.vx_grammar.specs.Statements.{type_word}
use Rattle.vx_print.specs.Words.{line}

-- ---- expressions

abbrev pub parenthesized : List Kind → List Kind
parenthesized ks = symbol signs.Open ∷ (ks ++ symbol signs.Close ∷ [])

abbrev pub braced : List Kind → List Kind
braced ks = symbol signs.OpenBrace ∷ (ks ++ symbol signs.CloseBrace ∷ [])

-- a parenthesis where one is asked for
abbrev pub opening : Bool → List Kind
opening b = if b then symbol signs.Open ∷ [] else []

abbrev pub closing : Bool → List Kind
closing b = if b then symbol signs.Close ∷ [] else []

abbrev pub parenthesized_if : Bool → List Kind → List Kind
parenthesized_if b ks = opening b ++ (ks ++ closing b)

-- no dot may stand right behind the operand of a prefix
abbrev pub is_prefixed : Expr → Bool
is_prefixed (Unary p op e) = true
is_prefixed (Number p n) = false
is_prefixed (Truth p b) = false
is_prefixed (Null p) = false
is_prefixed (Whole p) = false
is_prefixed (Nothing p) = false
is_prefixed (Result p) = false
is_prefixed (Variable p x) = false
is_prefixed (Call p f es) = false
is_prefixed (Read p e f) = false
is_prefixed (Binary p op a b) = false
is_prefixed (Choice p c a b) = false
is_prefixed (Old p e) = false
is_prefixed (Access p e a) = false
is_prefixed (Unfolding p x es a e) = false

abbrev pub applied : Name → List Kind → List Kind
applied x arguments = name x ∷ parenthesized arguments

-- `acc` stands round an instance that has an amount
abbrev pub front : Option (List Kind) → List Kind
front None = []
front (Some amount) = word words.Acc ∷ symbol signs.Open ∷ []

abbrev pub back : Option (List Kind) → List Kind
back None = []
back (Some amount) = symbol signs.Comma ∷ (amount ++ symbol signs.Close ∷ [])

abbrev pub instance : Name → List Kind → Option (List Kind) → List Kind
instance x arguments a = front a ++ (applied x arguments ++ back a)

-- the amount is always written
abbrev pub written_amount : Option (List Kind) → List Kind
written_amount None = word words.Write ∷ []
written_amount (Some amount) = amount

-- An expression where the grammar asks for a level. It is last where no operator follows: the body of an `unfolding`
-- reaches as far as it can, so one that isn't last stands between parentheses.
abbrev mutual
  pub expr_tokens : ℕ → Bool → Expr → List Kind
  expr_tokens level last (Number p n) = number n ∷ []
  expr_tokens level last (Truth p b) = word (literal_word b) ∷ []
  expr_tokens level last (Null p) = word words.Null ∷ []
  expr_tokens level last (Whole p) = word words.Write ∷ []
  expr_tokens level last (Nothing p) = word words.Nothing ∷ []
  expr_tokens level last (Result p) = word words.Outcome ∷ []
  expr_tokens level last (Variable p x) = name x ∷ []
  expr_tokens level last (Call p f es) = applied f (exprs_tokens es)
  expr_tokens level last (Read p e f) =
      let inside = is_prefixed e in
      parenthesized_if inside (expr_tokens 0 inside e) ++ symbol signs.Dot ∷ name f.name ∷ []
  expr_tokens level last (Unary p op e) = symbol (prefix_sign op) ∷ expr_tokens 0 last e
  expr_tokens level last (Binary p op a b) =
      let inside = nat_lt level (level_of op) in
      parenthesized_if inside (expr_tokens (left_level op) false a ++ symbol (sign_of op) ∷ expr_tokens (right_level op) (inside || last) b)
  expr_tokens level last (Choice p c a b) =
      let inside = nat_lt level 8 in
      parenthesized_if inside (expr_tokens 7 false c ++ symbol signs.Question ∷ (expr_tokens 8 true a ++ symbol signs.Colon ∷ expr_tokens 8 (inside || last) b))
  expr_tokens level last (Old p e) = word words.Old ∷ parenthesized (expr_tokens 8 true e)
  expr_tokens level last (Access p e a) = word words.Acc ∷ parenthesized (expr_tokens 8 true e ++ symbol signs.Comma ∷ written_amount (amount_tokens a))
  expr_tokens level last (Unfolding p x es a e) =
      parenthesized_if (not last) (word words.Unfolding ∷ (instance x.name (exprs_tokens es) (amount_tokens a) ++ word words.In ∷ expr_tokens 8 true e))

  -- with a comma between two
  pub exprs_tokens : Exprs → List Kind
  exprs_tokens NoMore = []
  exprs_tokens (More e es) = expr_tokens 8 true e ++ further_tokens es

  pub further_tokens : Exprs → List Kind
  further_tokens NoMore = []
  further_tokens (More e es) = symbol signs.Comma ∷ (expr_tokens 8 true e ++ further_tokens es)

  pub amount_tokens : Amount → Option (List Kind)
  amount_tokens All = None
  amount_tokens (Part e) = Some (expr_tokens 8 true e)

abbrev pub next_tokens : Expr → List Kind
next_tokens e = symbol signs.Comma ∷ expr_tokens 8 true e

abbrev pub instance_tokens : Name → Exprs → Amount → List Kind
instance_tokens x es a = instance x (exprs_tokens es) (amount_tokens a)

abbrev pub read_tokens : Expr → Name → List Kind
read_tokens e x =
    let inside = is_prefixed e in
    parenthesized_if inside (expr_tokens 0 inside e) ++ symbol signs.Dot ∷ name x ∷ []

-- an expression that stands by itself
abbrev pub whole_tokens : Expr → List Kind
whole_tokens e = expr_tokens 8 true e

-- ---- statements

abbrev pub next_name : Placed → List Kind
next_name x = symbol signs.Comma ∷ name x.name ∷ []

abbrev pub further_names : List Placed → List Kind
further_names [] = []
further_names (x ∷ xs) = next_name x ++ further_names xs

-- with a comma between two
abbrev pub names_tokens : List Placed → List Kind
names_tokens [] = []
names_tokens (x ∷ xs) = name x.name ∷ further_names xs

abbrev pub declaration_tokens : Declaration → List Kind
declaration_tokens d = name d.name.name ∷ symbol signs.Colon ∷ word (type_word d.of) ∷ []

abbrev pub right_tokens : Right → List Kind
right_tokens (Value e) = whole_tokens e
right_tokens (NewAll p) = word words.New ∷ parenthesized (symbol signs.Times ∷ [])
right_tokens (New p xs) = word words.New ∷ parenthesized (names_tokens xs)

abbrev pub initial_tokens : Option Right → List Kind
initial_tokens None = []
initial_tokens (Some r) = symbol signs.Becomes ∷ right_tokens r

abbrev pub targets_tokens : List Placed → List Kind
targets_tokens [] = []
targets_tokens (x ∷ xs) = names_tokens (x ∷ xs) ++ symbol signs.Becomes ∷ []

abbrev pub clause_tokens : Word → Expr → List Kind
clause_tokens w e = word w ∷ whole_tokens e

-- the invariants of a loop
abbrev pub invariants_tokens : Exprs → List Kind
invariants_tokens NoMore = []
invariants_tokens (More e es) = clause_tokens words.Invariant e ++ invariants_tokens es

abbrev mutual
  pub stmt_tokens : Stmt → List Kind
  stmt_tokens (Declare p d r) = word words.Var ∷ (declaration_tokens d ++ initial_tokens r)
  stmt_tokens (Assign p x r) = name x.name ∷ symbol signs.Becomes ∷ right_tokens r
  stmt_tokens (Write p e f v) = read_tokens e f.name ++ symbol signs.Becomes ∷ whole_tokens v
  stmt_tokens (Invoke p xs m es) = targets_tokens xs ++ applied m.name (exprs_tokens es)
  stmt_tokens (Inhale p e) = clause_tokens words.Inhale e
  stmt_tokens (Exhale p e) = clause_tokens words.Exhale e
  stmt_tokens (Assert p e) = clause_tokens words.Assert e
  stmt_tokens (Assume p e) = clause_tokens words.Assume e
  stmt_tokens (Fold p x es a) = word words.Fold ∷ instance_tokens x.name es a
  stmt_tokens (Unfold p x es a) = word words.Unfold ∷ instance_tokens x.name es a
  stmt_tokens (If p e a b) = word words.If ∷ (parenthesized (whole_tokens e) ++ (braced (block_tokens a) ++ other_tokens b))
  stmt_tokens (While p e is b) = word words.While ∷ (parenthesized (whole_tokens e) ++ (invariants_tokens is ++ braced (block_tokens b)))

  pub block_tokens : Block → List Kind
  block_tokens Done = []
  block_tokens (Then s rest) = stmt_tokens s ++ block_tokens rest

  -- the other side of an `if`, or none
  pub other_tokens : Other → List Kind
  other_tokens NoElse = []
  other_tokens (Else b) = else_tokens b

  -- one `if` alone as `elseif`, and else a block
  pub else_tokens : Block → List Kind
  else_tokens Done = word words.Else ∷ braced []
  else_tokens (Then s (Then t rest)) = word words.Else ∷ braced (stmt_tokens s ++ (stmt_tokens t ++ block_tokens rest))
  else_tokens (Then (If p e a b) Done) = word words.Elseif ∷ (parenthesized (whole_tokens e) ++ (braced (block_tokens a) ++ other_tokens b))
  else_tokens (Then s Done) = word words.Else ∷ braced (stmt_tokens s ++ [])

abbrev pub else_block : Block → List Kind
else_block b = word words.Else ∷ braced (block_tokens b)

-- ---- members

abbrev pub next_declaration : Declaration → List Kind
next_declaration d = symbol signs.Comma ∷ declaration_tokens d

abbrev pub further_declarations : List Declaration → List Kind
further_declarations [] = []
further_declarations (d ∷ ds) = next_declaration d ++ further_declarations ds

abbrev pub declarations_tokens : List Declaration → List Kind
declarations_tokens [] = []
declarations_tokens (d ∷ ds) = declaration_tokens d ++ further_declarations ds

abbrev pub returns_tokens : List Declaration → List Kind
returns_tokens [] = []
returns_tokens (d ∷ ds) = word words.Returns ∷ parenthesized (declarations_tokens (d ∷ ds))

abbrev pub optional_expr_tokens : Option Expr → List Kind
optional_expr_tokens None = []
optional_expr_tokens (Some e) = braced (whole_tokens e)

abbrev pub contract_clause : Clause → List Kind
contract_clause (Requires e) = clause_tokens words.Requires e
contract_clause (Ensures e) = clause_tokens words.Ensures e
contract_clause (Decreases e) = clause_tokens words.Decreases e

-- in text order
abbrev pub contract_tokens : List Clause → List Kind
contract_tokens [] = []
contract_tokens (c ∷ cs) = contract_clause c ++ contract_tokens cs

abbrev pub optional_block_tokens : Option Block → List Kind
optional_block_tokens None = []
optional_block_tokens (Some b) = braced (block_tokens b)

-- what stands behind the name of a predicate, a function and a method
abbrev pub predicate_tokens : Predicate → List Kind
predicate_tokens p = parenthesized (declarations_tokens p.parameters) ++ optional_expr_tokens p.body

abbrev pub function_tokens : Function → List Kind
function_tokens f = parenthesized (declarations_tokens f.parameters) ++ symbol signs.Colon ∷ word (type_word f.of) ∷ (contract_tokens f.clauses ++ braced (whole_tokens f.body))

abbrev pub method_tokens : Method → List Kind
method_tokens m = parenthesized (declarations_tokens m.parameters) ++ (returns_tokens m.returns ++ (contract_tokens m.clauses ++ optional_block_tokens m.body))

abbrev pub member_word : MemberKind → Word
member_word (IsField t) = words.Field
member_word (IsPredicate p) = words.Predicate
member_word (IsFunction f) = words.Function
member_word (IsMethod m) = words.Method

abbrev pub kind_tokens : MemberKind → List Kind
kind_tokens (IsField t) = symbol signs.Colon ∷ word (type_word t) ∷ []
kind_tokens (IsPredicate p) = predicate_tokens p
kind_tokens (IsFunction f) = function_tokens f
kind_tokens (IsMethod m) = method_tokens m

-- what stands behind a member's first word
abbrev pub member_rest : Name → MemberKind → List Kind
member_rest x k = name x ∷ kind_tokens k

abbrev pub member_tokens : Member → List Kind
member_tokens m = word (member_word m.kind) ∷ member_rest m.name.name m.kind

abbrev pub member_line : Member → List ℕ
member_line m = line (member_tokens m)

-- The canonical text: each member on a line of its own.
abbrev pub canonical_text : Program → List ℕ
canonical_text [] = []
canonical_text (m ∷ ms) = member_line m ++ canonical_text ms
