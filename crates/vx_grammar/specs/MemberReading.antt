-- Reading members from left to right.
use Rattle.std.specs.Prelude.{ℕ, ◌+◌, not, ◌&&◌, zero, suc, List, [], ◌∷◌, ◌++◌, length, nat_lt, Result, Ok, Err, Option, Some, None, Bool, true, false, if◌then◌else◌}
use Rattle.vx_ast.specs.declared.Place.{Place}
use Rattle.vx_tokens.specs.declared.token.Word.TheVariants as words
use Rattle.vx_tokens.specs.declared.token.Symbol.TheVariants as signs
use Rattle.vx_tokens.specs.Tokens.{Kind, word, Token}
use Rattle.vx_ast.specs.declared.ValueType.{ValueType}
use Rattle.vx_ast.specs.Written.{Placed, Expr, Clause, Requires, Ensures, Decreases, Declaration, Block, IsField, IsPredicate, IsFunction, IsMethod, Member, Program}
use Rattle.vx_grammar.specs.Reading.{Stop, Unexpected, Measured, Read, ◌>>=◌, Turn, run, is_symbol, expect, name_at, choice, below}
use Rattle.vx_grammar.specs.StmtReading.{is_measure, begins_decreases, clause_at, type_at, declaration_at, block_at, stmts_below, skip_semicolon}

-- the nesting limit
abbrev pub limit : ℕ
limit = 200

-- ---- parameters

-- one declaration more, behind a comma
unfoldable pub declaration_turn : Turn (List Declaration)
declaration_turn before [] = Ok (None, [])
declaration_turn before (t ∷ ts) =
    if is_symbol signs.Comma t.kind then (do
      d ← declaration_at ts
      Ok (Some (before ++ d.0 ∷ []), d.1))
    else Ok (None, t ∷ ts)

-- one declaration at least
unfoldable pub declarations_at : List Token → Read (List Declaration)
declarations_at ts = do
  d ← declaration_at ts
  run declaration_turn (length d.1) (d.0 ∷ []) d.1

abbrev pub is_closing : List Token → Bool
is_closing [] = false
is_closing (t ∷ ts) = is_symbol signs.Close t.kind

-- between the parentheses
unfoldable pub inner_parameters_at : List Token → Read (List Declaration)
inner_parameters_at ts = if is_closing ts then Ok ([], ts) else declarations_at ts

unfoldable pub parameters_at : List Token → Read (List Declaration)
parameters_at ts = do
  opened ← expect signs.Open ts
  ds ← inner_parameters_at opened.1
  close ← expect signs.Close ds.1
  Ok (ds.0, close.1)

abbrev pub begins_returns : Kind → Bool
begins_returns (word words.Returns) = true
begins_returns k = false

unfoldable pub returns_at : List Token → Read (List Declaration)
returns_at [] = Ok ([], [])
returns_at (t ∷ ts) = if begins_returns t.kind then parameters_at ts else Ok ([], t ∷ ts)

-- ---- clauses

-- the clauses so far, how many of them are of each kind, and whether a measure is among them
pub record Clauses : Type 0 where
  pub clauses : List Clause
  pub requires : ℕ
  pub ensures : ℕ
  pub measured : Bool

abbrev pub no_clauses : Clauses
no_clauses = record { clauses = []; requires = 0; ensures = 0; measured = false }

abbrev pub with_requires : Clauses → Expr → Clauses
with_requires c e = record { clauses = c.clauses ++ Requires e ∷ []; requires = c.requires + 1; ensures = c.ensures; measured = c.measured }

abbrev pub with_ensures : Clauses → Expr → Clauses
with_ensures c e = record { clauses = c.clauses ++ Ensures e ∷ []; requires = c.requires; ensures = c.ensures + 1; measured = c.measured }

abbrev pub with_measure : Clauses → Expr → Clauses
with_measure c e = record { clauses = c.clauses ++ Decreases e ∷ []; requires = c.requires; ensures = c.ensures; measured = true }

abbrev pub begins_requires : Kind → Bool
begins_requires (word words.Requires) = true
begins_requires k = false

abbrev pub begins_ensures : Kind → Bool
begins_ensures (word words.Ensures) = true
begins_ensures k = false

-- one clause more, where a measure may come, or none may
unfoldable pub clause_turn : ℕ → Bool → Turn Clauses
clause_turn deep may before [] = Ok (None, [])
clause_turn deep may before (t ∷ ts) =
    if begins_requires t.kind then (do
      e ← clause_at deep before.requires (t ∷ ts) ts
      Ok (Some (with_requires before e.0), skip_semicolon e.1))
    else (if begins_ensures t.kind then (do
      e ← clause_at deep before.ensures (t ∷ ts) ts
      Ok (Some (with_ensures before e.0), skip_semicolon e.1))
    else (if may && not before.measured && is_measure t.kind then (do
      e ← clause_at deep 0 (t ∷ ts) ts
      Ok (Some (with_measure before e.0), skip_semicolon e.1))
    else Ok (None, t ∷ ts)))

unfoldable pub clauses_at : ℕ → Bool → List Token → Read Clauses
clauses_at deep may ts = run (clause_turn deep may) (length ts) no_clauses ts

-- ---- members

-- where reading a member stops: where reading stops inside it, where a function's body is due, or at a second measure
pub data MemberStop : Type 0 where
  stopped : Stop → MemberStop
  bodiless : List Token → MemberStop
  measured_twice : List Token → MemberStop

-- what was read and the tokens after it, or the stop
abbrev pub Halting : Type 0 → Type 0
Halting A = Result (A × List Token) MemberStop

abbrev pub halting : {A : Type 0} → Read A → Halting A
halting (Ok x) = Ok x
halting (Err stop) = Err (stopped stop)

abbrev pub begins_braces : List Token → Bool
begins_braces [] = false
begins_braces (t ∷ ts) = is_symbol signs.OpenBrace t.kind

-- an expression between braces
unfoldable pub braced_at : ℕ → List Token → Read Expr
braced_at deep ts = do
  opened ← expect signs.OpenBrace ts
  e ← below deep choice ts opened.1
  close ← expect signs.CloseBrace e.1
  Ok (e.0, close.1)

unfoldable pub some_braced : ℕ → List Token → Read (Option Expr)
some_braced deep ts = do
  e ← braced_at deep ts
  Ok (Some e.0, e.1)

-- behind the parameters of a predicate
unfoldable pub given_at : ℕ → List Token → Read (Option Expr)
given_at deep ts = if begins_braces ts then some_braced deep ts else Ok (None, ts)

abbrev pub predicate_of : Place → Placed → List Declaration → Option Expr → Member
predicate_of place x parameters body = record { place = place; name = x; kind = IsPredicate record { parameters = parameters; body = body } }

-- behind a `predicate`
unfoldable pub predicate_at : ℕ → Place → List Token → Read Member
predicate_at deep place ts = do
  x ← name_at ts
  parameters ← parameters_at x.1
  body ← given_at deep parameters.1
  Ok (predicate_of place x.0 parameters.0 body.0, body.1)

abbrev pub method_of : Place → Placed → List Declaration → List Declaration → Clauses → Option Block → Member
method_of place x parameters returns clauses body = record {
  place = place;
  name = x;
  kind = IsMethod record { parameters = parameters; returns = returns; clauses = clauses.clauses; body = body };
}

-- what stands in front of a function's body
pub record Head : Type 0 where
  pub name : Placed
  pub parameters : List Declaration
  pub of : ValueType
  pub clauses : Clauses

abbrev pub function_of : Place → Head → Expr → Member
function_of place h body = record {
  place = place;
  name = h.name;
  kind = IsFunction record { parameters = h.parameters; of = h.of; clauses = h.clauses.clauses; body = body };
}

-- behind a `function`, up to its body
unfoldable pub head_at : ℕ → List Token → Read Head
head_at deep ts = do
  x ← name_at ts
  parameters ← parameters_at x.1
  colon ← expect signs.Colon parameters.1
  type ← type_at colon.1
  clauses ← clauses_at deep true type.1
  Ok (record { name = x.0; parameters = parameters.0; of = type.0.of; clauses = clauses.0 }, clauses.1)

unfoldable pub function_by : ℕ → Place → Head → List Token → Read Member
function_by deep place h ts = do
  body ← braced_at deep ts
  Ok (function_of place h body.0, body.1)

-- where a body is due, and none begins
abbrev pub no_body_at : List Token → MemberStop
no_body_at [] = bodiless []
no_body_at (t ∷ ts) = if is_measure t.kind then measured_twice (t ∷ ts) else bodiless (t ∷ ts)

abbrev pub behind_head : ℕ → Place → Read Head → Halting Member
behind_head deep place (Ok h) = if begins_braces h.1 then halting (function_by deep place h.0 h.1) else Err (no_body_at h.1)
behind_head deep place (Err stop) = Err (stopped stop)

-- behind a `function`
unfoldable pub function_at : ℕ → Place → List Token → Halting Member
function_at deep place ts = behind_head deep place (head_at deep ts)

unfoldable pub some_block : ℕ → List Token → Read (Option Block)
some_block deep ts = do
  b ← block_at (stmts_below deep) ts
  Ok (Some b.0, b.1)

-- behind the clauses of a method
unfoldable pub body_at : ℕ → List Token → Read (Option Block)
body_at deep ts = if begins_braces ts then some_block deep ts else (if begins_decreases ts then Err (Measured ts) else Ok (None, ts))

-- behind a `method`
unfoldable pub method_at : ℕ → Place → List Token → Read Member
method_at deep place ts = do
  x ← name_at ts
  parameters ← parameters_at x.1
  returns ← returns_at parameters.1
  clauses ← clauses_at deep false returns.1
  body ← body_at deep clauses.1
  Ok (method_of place x.0 parameters.0 returns.0 clauses.0 body.0, body.1)

-- behind a `field`
unfoldable pub field_at : Place → List Token → Read Member
field_at place ts = do
  d ← declaration_at ts
  Ok (record { place = place; name = d.0.name; kind = IsField d.0.of }, d.1)

-- behind a word that begins a member
abbrev pub member_by : ℕ → Place → Kind → List Token → Halting Member
member_by deep place (word words.Field) ts = halting (field_at place ts)
member_by deep place (word words.Predicate) ts = halting (predicate_at deep place ts)
member_by deep place (word words.Function) ts = function_at deep place ts
member_by deep place (word words.Method) ts = halting (method_at deep place ts)
member_by deep place k ts = Err (stopped (Unexpected ts))

unfoldable pub member_at : ℕ → Token → List Token → Halting Member
member_at deep t ts = member_by deep t.place t.kind ts

-- ---- programs

-- Where reading members stops: inside a member; where a function's body is due; at a second measure; where a member is
-- due; or at one too many.
pub data Halt : Type 0 where
  inside : Stop → Halt
  no_body : List Token → Halt
  second_measure : List Token → Halt
  no_member : List Token → Halt
  too_many : List Token → Halt

abbrev pub halt_of : MemberStop → Halt
halt_of (stopped stop) = inside stop
halt_of (bodiless rest) = no_body rest
halt_of (measured_twice rest) = second_measure rest

abbrev pub max_members : ℕ
max_members = 65536

abbrev pub begins_member : Kind → Bool
begins_member (word words.Field) = true
begins_member (word words.Predicate) = true
begins_member (word words.Function) = true
begins_member (word words.Method) = true
begins_member k = false

abbrev pub then_members : Halting Member → (Member → List Token → Result Program Halt) → Result Program Halt
then_members (Ok x) go = go x.0 x.1
then_members (Err stop) go = Err (halt_of stop)

-- members behind so many, up to the end of the tokens, with at most so many turns
unfoldable pub members_by : (deep many most : ℕ) → List Member → List Token → Result Program Halt
members_by deep many most before [] = Ok before
members_by deep many zero before (t ∷ ts) = Err (no_member (t ∷ ts))
members_by deep many (suc most) before (t ∷ ts) =
    if begins_member t.kind then (
    if nat_lt (length before) many
    then then_members (member_at deep t ts) (λ m after. members_by deep many most (before ++ m ∷ []) (skip_semicolon after))
    else Err (too_many (t ∷ ts)))
    else Err (no_member (t ∷ ts))

-- each member takes a token at least
unfoldable pub members_within : (deep many : ℕ) → List Token → Result Program Halt
members_within deep many ts = members_by deep many (length ts) [] ts

abbrev pub members_at : List Token → Result Program Halt
members_at ts = members_within limit max_members ts
