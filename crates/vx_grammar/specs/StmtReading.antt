-- Reading statements from left to right.
use Rattle.std.specs.Prelude.{ℕ, ◌-◌, nat_le, zero, suc, List, [], ◌∷◌, ◌++◌, length, Ok, Err, Some, None, Bool, true, false, if◌then◌else◌}
use Rattle.vx_ast.specs.declared.Place.{Place}
use Rattle.vx_ast.specs.declared.ValueType.TheVariants as types
use Rattle.vx_tokens.specs.declared.token.Word.TheVariants as words
use Rattle.vx_tokens.specs.declared.token.Symbol.TheVariants as signs
use Rattle.vx_tokens.specs.Tokens.{Kind, name, word, Token}
use Rattle.vx_ast.specs.Written.{Placed, placed, PlacedType, placed_type, Other, NoElse, Else, Expr, Variable, Call, Right, Value, Declaration, Stmt, Block, Declare, Assign, Write, Invoke, If, While, Exprs, Done, Then}
use Rattle.vx_ast.specs.Written as written
use Rattle.vx_grammar.specs.Statements.{Claim, inhales, exhales, asserts, assumes, claim_meant, Folding, folds, unfolds, folding_meant}
use Rattle.vx_grammar.specs.Reading.{exprs_from, Unexpected, Measured, TooDeep, Read, ◌>>=◌, Turn, run, is_symbol, expect, name_at, enclosed, choice, arguments, allocation, instance_at, name_turn, postfix_by, choice_at, below}

-- ---- types

abbrev pub type_by : Token → Kind → List Token → Read PlacedType
type_by t (word words.Int) ts = Ok (placed_type t.place types.Int, ts)
type_by t (word words.Bool) ts = Ok (placed_type t.place types.Bool, ts)
type_by t (word words.Ref) ts = Ok (placed_type t.place types.Ref, ts)
type_by t (word words.Perm) ts = Ok (placed_type t.place types.Perm, ts)
type_by t k ts = Err (Unexpected (t ∷ ts))

unfoldable pub type_at : List Token → Read PlacedType
type_at [] = Err (Unexpected [])
type_at (t ∷ ts) = type_by t t.kind ts

-- a name, a colon and a type
unfoldable pub declaration_at : List Token → Read Declaration
declaration_at ts = do
  x ← name_at ts
  colon ← expect signs.Colon x.1
  type ← type_at colon.1
  Ok (record { name = x.0; of = type.0.of; type_at = type.0.place }, type.1)

-- ---- statements

-- what nests: the statements between braces, or the part of an `if` from an `elseif` on
pub data StmtPart : Type 0 where
  statements : StmtPart
  elseif_part : Place → StmtPart

abbrev pub StmtDeeper : Type 0
StmtDeeper = StmtPart → List Token → List Token → Read Block

unfoldable pub block_at : StmtDeeper → List Token → Read Block
block_at deeper ts = do
  opened ← expect signs.OpenBrace ts
  b ← deeper statements ts opened.1
  close ← expect signs.CloseBrace b.1
  Ok (b.0, close.1)

abbrev pub other_by : Read Block → Read Other
other_by read = read >>= λ b. Ok (Else b.0, b.1)

abbrev pub otherwise_by : StmtDeeper → Token → Kind → List Token → Read Other
otherwise_by deeper t (word words.Else) ts = other_by (block_at deeper ts)
otherwise_by deeper t (word words.Elseif) ts = other_by (deeper (elseif_part t.place) (t ∷ ts) ts)
otherwise_by deeper t k ts = Ok (NoElse, t ∷ ts)

-- the other side of an `if`, or none
unfoldable pub otherwise_at : StmtDeeper → List Token → Read Other
otherwise_at deeper [] = Ok (NoElse, [])
otherwise_at deeper (t ∷ ts) = otherwise_by deeper t t.kind ts

-- behind an `if` or an `elseif`
unfoldable pub branch_at : ℕ → StmtDeeper → Place → List Token → Read Stmt
branch_at room deeper place ts = do
  e ← enclosed (below room) choice ts
  b ← block_at deeper e.1
  o ← otherwise_at deeper b.1
  Ok (If place e.0 b.0 o.0, o.1)

abbrev pub begins_new : Kind → Bool
begins_new (word words.New) = true
begins_new k = false

unfoldable pub value_at : ℕ → List Token → Read Right
value_at room ts = do
  e ← choice_at (below room) ts
  Ok (Value e.0, e.1)

-- what stands right of `:=`
unfoldable pub right_at : ℕ → List Token → Read Right
right_at room [] = Err (Unexpected [])
right_at room (t ∷ ts) = if begins_new t.kind then enclosed (below room) (allocation t.place) ts else value_at room (t ∷ ts)

unfoldable pub initial_by : ℕ → Place → Declaration → List Token → Read Stmt
initial_by room place d ts = do
  r ← right_at room ts
  Ok (Declare place d (Some r.0), r.1)

unfoldable pub initial_at : ℕ → Place → Declaration → List Token → Read Stmt
initial_at room place d [] = Ok (Declare place d None, [])
initial_at room place d (t ∷ ts) = if is_symbol signs.Becomes t.kind then initial_by room place d ts else Ok (Declare place d None, t ∷ ts)

-- behind a `var`
unfoldable pub declare_at : ℕ → Place → List Token → Read Stmt
declare_at room place ts = do
  d ← declaration_at ts
  initial_at room place d.0 d.1

-- ---- statements that begin with a name

unfoldable pub assign_one : ℕ → Place → Placed → List Token → Read Stmt
assign_one room place x ts = do
  r ← right_at room ts
  Ok (Assign place x r.0, r.1)

-- behind the targets of a call and `:=`
unfoldable pub invoke_at : ℕ → Place → List Placed → List Token → Read Stmt
invoke_at room place xs ts = do
  m ← name_at ts
  es ← enclosed (below room) arguments m.1
  Ok (Invoke place xs m.0 es.0, es.1)

abbrev pub assigned_by : ℕ → Place → List Placed → List Token → Read Stmt
assigned_by room place [] ts = Err (Unexpected ts)
assigned_by room place (x ∷ []) ts = assign_one room place x ts
assigned_by room place (x ∷ y ∷ ys) ts = invoke_at room place (x ∷ y ∷ ys) ts

-- behind the name of a first target
unfoldable pub assign_at : ℕ → Place → Placed → List Token → Read Stmt
assign_at room place x ts = do
  xs ← run name_turn (length ts) (x ∷ []) ts
  becomes ← expect signs.Becomes xs.1
  assigned_by room place xs.0 becomes.1

-- behind a field's location
unfoldable pub store_at : ℕ → Place → Expr → Placed → List Token → Read Stmt
store_at room place e f ts = do
  becomes ← expect signs.Becomes ts
  v ← choice_at (below room) becomes.1
  Ok (Write place e f v.0, v.1)

-- behind a variable, an application or a field's location
abbrev pub by_target : ℕ → Place → Expr → List Token → Read Stmt
by_target room place (Variable at x) ts = assign_at room place (placed at x) ts
by_target room place (Call at m es) ts = Ok (Invoke place [] (placed at m) es, ts)
by_target room place (written.Read at e f) ts = store_at room place e f ts
by_target room place e ts = Err (Unexpected ts)

-- behind a name
unfoldable pub target_at : ℕ → Token → List ℕ → List Token → Read Stmt
target_at room t x ts = do
  e ← postfix_by (below room) t (name x) ts
  by_target room t.place e.0 e.1

abbrev pub skip_semicolon : List Token → List Token
skip_semicolon [] = []
skip_semicolon (t ∷ ts) = if is_symbol signs.Semicolon t.kind then ts else t ∷ ts

-- a clause behind so many of its kind, each of which nests it, where the nesting count may grow by room
unfoldable pub clause_at : (room before : ℕ) → List Token → List Token → Read Expr
clause_at room before here ts = if nat_le before room then choice_at (below (room - before)) ts else Err (TooDeep here)

abbrev pub begins_invariant : Kind → Bool
begins_invariant (word words.Invariant) = true
begins_invariant k = false

abbrev pub is_measure : Kind → Bool
is_measure (word words.Decreases) = true
is_measure k = false

-- one invariant more
unfoldable pub invariant_turn : ℕ → Turn (List Expr)
invariant_turn room before [] = Ok (None, [])
invariant_turn room before (t ∷ ts) =
    if begins_invariant t.kind then (do
      e ← clause_at room (length before) (t ∷ ts) ts
      Ok (Some (before ++ e.0 ∷ []), skip_semicolon e.1))
    else Ok (None, t ∷ ts)

unfoldable pub invariants_at : ℕ → List Token → Read Exprs
invariants_at room ts = do
  es ← run (invariant_turn room) (length ts) [] ts
  Ok (exprs_from es.0, es.1)

-- a measure begins
abbrev pub begins_decreases : List Token → Bool
begins_decreases [] = false
begins_decreases (t ∷ ts) = is_measure t.kind

-- the block of a loop, behind its invariants
unfoldable pub loop_block_at : StmtDeeper → List Token → Read Block
loop_block_at deeper ts = if begins_decreases ts then Err (Measured ts) else block_at deeper ts

-- behind a `while`
unfoldable pub while_at : ℕ → StmtDeeper → Place → List Token → Read Stmt
while_at room deeper place ts = do
  e ← enclosed (below room) choice ts
  is ← invariants_at room e.1
  b ← loop_block_at deeper is.1
  Ok (While place e.0 is.0 b.0, b.1)

unfoldable pub claim_at : ℕ → Claim → Place → List Token → Read Stmt
claim_at room claim place ts = do
  e ← choice_at (below room) ts
  Ok (claim_meant claim place e.0, e.1)

unfoldable pub fold_at : ℕ → Folding → Place → List Token → Read Stmt
fold_at room folding place ts = do
  i ← instance_at (below room) ts
  Ok (folding_meant folding place i.0, i.1)

abbrev pub stmt_by : ℕ → StmtDeeper → Token → Kind → List Token → Read Stmt
stmt_by room deeper t (name x) ts = target_at room t x ts
stmt_by room deeper t (word words.Var) ts = declare_at room t.place ts
stmt_by room deeper t (word words.Inhale) ts = claim_at room inhales t.place ts
stmt_by room deeper t (word words.Exhale) ts = claim_at room exhales t.place ts
stmt_by room deeper t (word words.Assert) ts = claim_at room asserts t.place ts
stmt_by room deeper t (word words.Assume) ts = claim_at room assumes t.place ts
stmt_by room deeper t (word words.Fold) ts = fold_at room folds t.place ts
stmt_by room deeper t (word words.Unfold) ts = fold_at room unfolds t.place ts
stmt_by room deeper t (word words.If) ts = branch_at room deeper t.place ts
stmt_by room deeper t (word words.While) ts = while_at room deeper t.place ts
stmt_by room deeper t k ts = Err (Unexpected (t ∷ ts))

unfoldable pub stmt_at : ℕ → StmtDeeper → List Token → Read Stmt
stmt_at room deeper [] = Err (Unexpected [])
stmt_at room deeper (t ∷ ts) = stmt_by room deeper t t.kind ts

-- whether a statement begins so
abbrev pub begins_stmt : Kind → Bool
begins_stmt (name x) = true
begins_stmt (word words.Var) = true
begins_stmt (word words.Inhale) = true
begins_stmt (word words.Exhale) = true
begins_stmt (word words.Assert) = true
begins_stmt (word words.Assume) = true
begins_stmt (word words.Fold) = true
begins_stmt (word words.Unfold) = true
begins_stmt (word words.If) = true
begins_stmt (word words.While) = true
begins_stmt k = false

-- the statements of a block
abbrev pub block_from : List Stmt → Block
block_from [] = Done
block_from (s ∷ ss) = Then s (block_from ss)

-- one statement more
unfoldable pub stmt_turn : ℕ → StmtDeeper → Turn (List Stmt)
stmt_turn room deeper before [] = Ok (None, [])
stmt_turn room deeper before (t ∷ ts) =
    if begins_stmt t.kind then (do
      s ← stmt_at room deeper (t ∷ ts)
      Ok (Some (before ++ s.0 ∷ []), skip_semicolon s.1))
    else Ok (None, t ∷ ts)

-- each statement takes a token at least
unfoldable pub stmts_at : ℕ → StmtDeeper → List Token → Read (List Stmt)
stmts_at room deeper ts = run (stmt_turn room deeper) (length ts) [] ts

abbrev pub stmt_part : ℕ → StmtDeeper → StmtPart → List Token → Read Block
stmt_part room deeper statements ts = do
  ss ← stmts_at room deeper ts
  Ok (block_from ss.0, ss.1)
stmt_part room deeper (elseif_part place) ts = do
  s ← branch_at room deeper place ts
  Ok (Then s.0 Done, s.1)

-- one deeper, where the nesting count may still grow by room
unfoldable pub stmts_below : ℕ → StmtDeeper
stmts_below zero p here ts = Err (TooDeep here)
stmts_below (suc room) p here ts = stmt_part room (stmts_below room) p ts
