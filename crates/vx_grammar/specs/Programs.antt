-- Which tokens spell which programs: the grammar of Viper (VMCAI 2016) in this profile.
use Rattle.std.specs.Prelude.{◌≡◌, ℕ, ◌+◌, List, [], ◌∷◌, ◌++◌, Option, Some, None, Bool, true, false, ⊤}
use Rattle.vx_ast.specs.declared.Place.{Place}
use Rattle.vx_ast.specs.declared.ValueType.{ValueType}
use Rattle.vx_ast.specs.Written.{placed, Expr, Clause, Requires, Ensures, Decreases, Declaration, Block, IsField, IsPredicate, IsFunction, IsMethod, Member, Program}
use Rattle.vx_tokens.specs.declared.token.Word.TheVariants as words
use Rattle.vx_tokens.specs.declared.token.Symbol.TheVariants as signs
use Rattle.vx_tokens.specs.Tokens.{name, word, symbol}
use Rattle.vx_grammar.specs.Grammar.{Phrase, Mark, mark, marks, meant, StandsAt}
use Rattle.vx_grammar.specs.Statements.{DeclarationPhrase, declaration_meant, declaration_marks, type_word, BlockPhrase, block_meant, block_marks, StandsBlock, semi_marks}

-- ---- parameters

-- declarations behind a first one, each behind a comma
pub data MoreDeclarations : Type 0 where
  no_more : MoreDeclarations
  listed : Place → DeclarationPhrase → MoreDeclarations → MoreDeclarations

pub data DeclarationsPhrase : Type 0 where
  none : DeclarationsPhrase
  some : DeclarationPhrase → MoreDeclarations → DeclarationsPhrase

-- declarations between parentheses
pub record ParametersPhrase : Type 0 where
  pub from : Place
  pub inner : DeclarationsPhrase
  pub to : Place

-- no returns, or `returns` and what stands behind it
pub data ReturnsPhrase : Type 0 where
  no_returns : ReturnsPhrase
  returns : Place → ParametersPhrase → ReturnsPhrase

abbrev pub more_meant : MoreDeclarations → List Declaration
more_meant no_more = []
more_meant (listed p d rest) = declaration_meant d ∷ more_meant rest

abbrev pub declarations_meant : DeclarationsPhrase → List Declaration
declarations_meant none = []
declarations_meant (some d rest) = declaration_meant d ∷ more_meant rest

abbrev pub returns_meant : ReturnsPhrase → List Declaration
returns_meant no_returns = []
returns_meant (returns p w) = declarations_meant w.inner

abbrev pub more_marks : ℕ → MoreDeclarations → List Mark
more_marks n no_more = []
more_marks n (listed p d rest) = mark n p (symbol signs.Comma) ∷ (declaration_marks n d ++ more_marks n rest)

abbrev pub declarations_marks : ℕ → DeclarationsPhrase → List Mark
declarations_marks n none = []
declarations_marks n (some d rest) = declaration_marks n d ++ more_marks n rest

abbrev pub parameters_marks : ℕ → ParametersPhrase → List Mark
parameters_marks n w = mark (n + 1) w.from (symbol signs.Open) ∷ (declarations_marks (n + 1) w.inner ++ mark (n + 1) w.to (symbol signs.Close) ∷ [])

abbrev pub returns_marks : ℕ → ReturnsPhrase → List Mark
returns_marks n no_returns = []
returns_marks n (returns p w) = mark n p (word words.Returns) ∷ parameters_marks n w

-- ---- clauses

-- clauses one after the other, each with a semicolon or none
pub data ClausesPhrase : Type 0 where
  no_clauses : ClausesPhrase
  requires : Place → Phrase → Option Place → ClausesPhrase → ClausesPhrase
  ensures : Place → Phrase → Option Place → ClausesPhrase → ClausesPhrase
  decreases : Place → Phrase → Option Place → ClausesPhrase → ClausesPhrase

abbrev pub clauses_meant : ClausesPhrase → List Clause
clauses_meant no_clauses = []
clauses_meant (requires p e semi rest) = Requires (meant e) ∷ clauses_meant rest
clauses_meant (ensures p e semi rest) = Ensures (meant e) ∷ clauses_meant rest
clauses_meant (decreases p e semi rest) = Decreases (meant e) ∷ clauses_meant rest

-- Clauses where a measure may come, or none may. Behind a measure comes no other.
abbrev pub StandsClauses : Bool → ClausesPhrase → Type 0
StandsClauses may no_clauses = ⊤
StandsClauses may (requires p e semi rest) = StandsAt 8 e × StandsClauses may rest
StandsClauses may (ensures p e semi rest) = StandsAt 8 e × StandsClauses may rest
StandsClauses may (decreases p e semi rest) = (may ≡ true) × StandsAt 8 e × StandsClauses false rest

-- Behind so many clauses of each kind. A clause nests as deep as there are earlier clauses of its kind.
abbrev pub clauses_marks : ℕ → ℕ → ClausesPhrase → List Mark
clauses_marks r k no_clauses = []
clauses_marks r k (requires p e semi rest) = mark r p (word words.Requires) ∷ (marks r e ++ (semi_marks 0 semi ++ clauses_marks (r + 1) k rest))
clauses_marks r k (ensures p e semi rest) = mark k p (word words.Ensures) ∷ (marks k e ++ (semi_marks 0 semi ++ clauses_marks r (k + 1) rest))
clauses_marks r k (decreases p e semi rest) = mark 0 p (word words.Decreases) ∷ (marks 0 e ++ (semi_marks 0 semi ++ clauses_marks r k rest))

-- ---- members

-- an expression between braces
pub record BracedPhrase : Type 0 where
  pub from : Place
  pub inner : Phrase
  pub to : Place

abbrev pub braced_marks : BracedPhrase → List Mark
braced_marks w = mark 1 w.from (symbol signs.OpenBrace) ∷ (marks 1 w.inner ++ mark 1 w.to (symbol signs.CloseBrace) ∷ [])

-- predicate P ( parameters ), and a body or none
pub record PredicatePhrase : Type 0 where
  pub at : Place
  pub name_at : Place
  pub text : List ℕ
  pub parameters : ParametersPhrase
  pub body : Option BracedPhrase

abbrev pub given_meant : Option BracedPhrase → Option Expr
given_meant None = None
given_meant (Some w) = Some (meant w.inner)

abbrev pub GivenStands : Option BracedPhrase → Type 0
GivenStands None = ⊤
GivenStands (Some w) = StandsAt 8 w.inner

abbrev pub given_marks : Option BracedPhrase → List Mark
given_marks None = []
given_marks (Some w) = braced_marks w

abbrev pub predicate_meant : PredicatePhrase → Member
predicate_meant w = record {
  place = w.at;
  name = placed w.name_at w.text;
  kind = IsPredicate record { parameters = declarations_meant w.parameters.inner; body = given_meant w.body };
}

abbrev pub predicate_marks : PredicatePhrase → List Mark
predicate_marks w = mark 0 w.at (word words.Predicate) ∷ mark 0 w.name_at (name w.text) ∷ (parameters_marks 0 w.parameters ++ given_marks w.body)

-- function f ( parameters ) : T, clauses and a body
pub record FunctionPhrase : Type 0 where
  pub at : Place
  pub name_at : Place
  pub text : List ℕ
  pub parameters : ParametersPhrase
  pub colon_at : Place
  pub type_at : Place
  pub of : ValueType
  pub clauses : ClausesPhrase
  pub body : BracedPhrase

abbrev pub function_meant : FunctionPhrase → Member
function_meant f = record {
  place = f.at;
  name = placed f.name_at f.text;
  kind = IsFunction record { parameters = declarations_meant f.parameters.inner; of = f.of; clauses = clauses_meant f.clauses; body = meant f.body.inner };
}

pub record StandsFunction (f : FunctionPhrase) : Type 0 where
  pub clauses : StandsClauses true f.clauses
  pub body : StandsAt 8 f.body.inner

-- a function behind its first word, up to its body
abbrev pub head_marks : FunctionPhrase → List Mark
head_marks f =
    mark 0 f.name_at (name f.text)
    ∷ (parameters_marks 0 f.parameters ++ mark 0 f.colon_at (symbol signs.Colon) ∷ mark 0 f.type_at (word (type_word f.of)) ∷ clauses_marks 0 0 f.clauses)

abbrev pub function_marks : FunctionPhrase → List Mark
function_marks f = mark 0 f.at (word words.Function) ∷ (head_marks f ++ braced_marks f.body)

-- a method's body, or none
abbrev pub body_meant : Option BlockPhrase → Option Block
body_meant None = None
body_meant (Some b) = Some (block_meant b)

abbrev pub BodyStands : Option BlockPhrase → Type 0
BodyStands None = ⊤
BodyStands (Some b) = StandsBlock b

abbrev pub body_marks : Option BlockPhrase → List Mark
body_marks None = []
body_marks (Some b) = block_marks 0 b

pub record MethodPhrase : Type 0 where
  pub at : Place
  pub name_at : Place
  pub text : List ℕ
  pub parameters : ParametersPhrase
  pub returns : ReturnsPhrase
  pub clauses : ClausesPhrase
  pub body : Option BlockPhrase

abbrev pub method_meant : MethodPhrase → Member
method_meant m = record {
  place = m.at;
  name = placed m.name_at m.text;
  kind = IsMethod record { parameters = declarations_meant m.parameters.inner; returns = returns_meant m.returns; clauses = clauses_meant m.clauses; body = body_meant m.body };
}

pub record StandsMethod (m : MethodPhrase) : Type 0 where
  pub clauses : StandsClauses false m.clauses
  pub body : BodyStands m.body

abbrev pub method_marks : MethodPhrase → List Mark
method_marks m =
    mark 0 m.at (word words.Method) ∷ mark 0 m.name_at (name m.text)
    ∷ (parameters_marks 0 m.parameters ++ (returns_marks 0 m.returns ++ (clauses_marks 0 0 m.clauses ++ body_marks m.body)))

pub data MemberPhrase : Type 0 where
  -- field f : T
  a_field : Place → DeclarationPhrase → MemberPhrase
  a_predicate : PredicatePhrase → MemberPhrase
  a_function : FunctionPhrase → MemberPhrase
  a_method : MethodPhrase → MemberPhrase

abbrev pub member_meant : MemberPhrase → Member
member_meant (a_field p d) = record { place = p; name = placed d.name_at d.text; kind = IsField d.of }
member_meant (a_predicate w) = predicate_meant w
member_meant (a_function f) = function_meant f
member_meant (a_method m) = method_meant m

abbrev pub StandsMember : MemberPhrase → Type 0
StandsMember (a_field p d) = ⊤
StandsMember (a_predicate w) = GivenStands w.body
StandsMember (a_function f) = StandsFunction f
StandsMember (a_method m) = StandsMethod m

abbrev pub member_marks : MemberPhrase → List Mark
member_marks (a_field p d) = mark 0 p (word words.Field) ∷ declaration_marks 0 d
member_marks (a_predicate w) = predicate_marks w
member_marks (a_function f) = function_marks f
member_marks (a_method m) = method_marks m

-- members one after the other, each with a semicolon or none
pub data ProgramPhrase : Type 0 where
  no_members : ProgramPhrase
  member : MemberPhrase → Option Place → ProgramPhrase → ProgramPhrase

abbrev pub program_meant : ProgramPhrase → Program
program_meant no_members = []
program_meant (member m semi rest) = member_meant m ∷ program_meant rest

abbrev pub StandsProgram : ProgramPhrase → Type 0
StandsProgram no_members = ⊤
StandsProgram (member m semi rest) = StandsMember m × StandsProgram rest

abbrev pub program_marks : ProgramPhrase → List Mark
program_marks no_members = []
program_marks (member m semi rest) = member_marks m ++ (semi_marks 0 semi ++ program_marks rest)
