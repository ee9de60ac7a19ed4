-- What the tokens of a program spell, and where they stop spelling.
use Rattle.std.specs.Prelude.{◌≡◌, ◌≤◌, ◌<◌, ◌⊎◌, List, [], ◌∷◌, ◌++◌, length, true, Result, Ok, Err}
use Rattle.vx_ast.specs.declared.Place.{Place}
use Rattle.vx_ast.specs.Written.{Program}
use Rattle.vx_tokens.specs.Tokens.{Token}
use Rattle.vx_tokens.specs.declared.token.Word.TheVariants as words
use Rattle.vx_tokens.specs.declared.token.Symbol.TheVariants as signs
use Rattle.vx_tokens.specs.Tokens.{Kind, word, symbol}
use Rattle.vx_grammar.specs.Grammar.{Mark, mark, tokens_of}
use Rattle.vx_grammar.specs.Programs.{FunctionPhrase, StandsClauses, head_marks, ProgramPhrase, StandsProgram, program_meant, program_marks}
use Rattle.vx_grammar.specs.Reading.{Unexpected, Measured, TooDeep}
use Rattle.vx_grammar.specs.MemberReading.{Halt, inside, no_body, second_measure, no_member, too_many, begins_member, members_at, limit, max_members}
use Rattle.vx_grammar.specs.Laws.{Within}

-- the tokens, all of them, spell the program
pub record ProgramSpelled (ts : List Token) (p : Program) : Type 0 where
  pub phrase : ProgramPhrase
  pub stands : StandsProgram phrase
  pub means : program_meant phrase ≡ p
  pub tokens : tokens_of (program_marks phrase) ≡ ts

-- no nesting count passes the limit, and there are no more members than may be
pub record ProgramWithin (ts : List Token) (p : Program) : Type 0 where
  pub spelled : ProgramSpelled ts p
  pub within : Within limit (program_marks spelled.phrase)
  pub few : length p ≤ max_members

-- some program begins with these marks
pub record ProgramGoesOn (ms : List Mark) : Type 0 where
  pub phrase : ProgramPhrase
  pub stands : StandsProgram phrase
  pub more : List Mark
  pub marks : program_marks phrase ≡ ms ++ more

-- the tokens in front of the rest fit, and stay within the limit
pub record ProgramFits (ts rest : List Token) (ms : List Mark) : Type 0 where
  pub tokens : ts ≡ tokens_of ms ++ rest
  pub within : Within limit ms
  pub goes_on : ProgramGoesOn ms

-- The tokens in front of the rest fit.
abbrev pub FitsInFront : List Token → List Token → Type 0
FitsInFront ts rest = (front : List Mark) × ProgramFits ts rest front

-- the rest begins with the first token that nests deeper than the limit, and it fits
pub record StopsTooDeep (ts rest : List Token) : Type 0 where
  pub front : List Mark
  pub deep : Mark
  pub after : List Token
  pub first : rest ≡ deep.token ∷ after
  pub fits : ProgramFits ts rest front
  pub count : limit < deep.count
  pub goes_on : ProgramGoesOn (front ++ deep ∷ [])

-- the tokens in front of the rest spell as many members as may be, and the rest begins one more
pub record StopsTooMany (ts rest : List Token) : Type 0 where
  pub front : List Token
  pub members : Program
  pub first : Token
  pub after : List Token
  pub is : ts ≡ front ++ rest
  pub rest_is : rest ≡ first ∷ after
  pub spelled : ProgramSpelled front members
  pub many : max_members ≤ length members
  pub begins_member : begins_member first.kind ≡ true

-- The tokens in front of the rest are members and a function up to its body, which is due.
pub record StopsAtBody (ts rest : List Token) : Type 0 where
  pub members : ProgramPhrase
  pub function : FunctionPhrase
  pub members_stand : StandsProgram members
  pub clauses_stand : StandsClauses true function.clauses
  pub tokens : ts ≡ tokens_of (program_marks members ++ mark 0 function.at (word words.Function) ∷ head_marks function) ++ rest

-- what an answer of reading says of the tokens
abbrev pub ProgramSays : List Token → Result Program Halt → Type 0
ProgramSays ts (Ok p) = ProgramWithin ts p
ProgramSays ts (Err (inside (Unexpected rest))) = FitsInFront ts rest
ProgramSays ts (Err (inside (Measured rest))) = FitsInFront ts rest
ProgramSays ts (Err (inside (TooDeep rest))) = StopsTooDeep ts rest
ProgramSays ts (Err (no_body rest)) = FitsInFront ts rest × StopsAtBody ts rest
ProgramSays ts (Err (second_measure rest)) = FitsInFront ts rest × StopsAtBody ts rest
ProgramSays ts (Err (no_member rest)) = FitsInFront ts rest
ProgramSays ts (Err (too_many rest)) = StopsTooMany ts rest

-- A program that is read is spelled so; and where reading stops, all tokens in front fit.
abbrev pub ProgramsAreSpelled : Type 0
ProgramsAreSpelled = (ts : List Token) → ProgramSays ts (members_at ts)

-- A program that is spelled within the limits is read.
abbrev pub SpelledProgramsAreRead : Type 0
SpelledProgramsAreRead = (ts : List Token) (p : Program) → ProgramWithin ts p → members_at ts ≡ Ok p

-- tokens spell one program at most
abbrev pub ProgramsSpelledOnce : Type 0
ProgramsSpelledOnce = (ts : List Token) (p q : Program) → ProgramSpelled ts p → ProgramSpelled ts q → p ≡ q

-- No program, of any nesting and size, goes on with the first token of the rest. Where none is left, the tokens are no
-- program yet.
abbrev pub NoProgramFits : List Token → List Token → Type 0
NoProgramFits front [] = (p : Program) → ProgramSpelled front p → ⊥
NoProgramFits front (t ∷ rest) = (p : Program) (more : List Token) → ProgramSpelled (front ++ t ∷ more) p → ⊥

-- the tokens in front of the rest fit, and stay within the limit, and no program goes on with the rest's first
pub record FirstUnfit (ts rest : List Token) : Type 0 where
  pub front : List Mark
  pub fits : ProgramFits ts rest front
  pub none : NoProgramFits (tokens_of front) rest

abbrev pub StopsAtFirst : List Token → Result Program Halt → Type 0
StopsAtFirst ts (Err (inside (Unexpected rest))) = FirstUnfit ts rest
StopsAtFirst ts (Err (inside (Measured rest))) = FirstUnfit ts rest
StopsAtFirst ts (Err (no_body rest)) = FirstUnfit ts rest
StopsAtFirst ts (Err (second_measure rest)) = FirstUnfit ts rest
StopsAtFirst ts (Err (no_member rest)) = FirstUnfit ts rest
StopsAtFirst ts (Err (inside (TooDeep rest))) = Unit {0}
StopsAtFirst ts (Err (too_many rest)) = Unit {0}
StopsAtFirst ts (Ok p) = Unit {0}

-- Where reading stops at a token that does not fit, that is the first one.
abbrev pub ReadingStopsAtFirst : Type 0
ReadingStopsAtFirst = (ts : List Token) → StopsAtFirst ts (members_at ts)

-- ---- a measure that does not fit

-- some program begins with these tokens and then one of this kind
pub record GoesOnWith (front : List Token) (k : Kind) : Type 0 where
  pub place : Place
  pub more : List Token
  pub program : Program
  pub spelled : ProgramSpelled (front ++ record { kind = k; place = place } ∷ more) program

-- a requirement fits behind these tokens, or an invariant
abbrev pub ClauseFits : List Token → Type 0
ClauseFits front = GoesOnWith front (word words.Requires) ⊎ GoesOnWith front (word words.Invariant)

abbrev pub BeginsMeasure : List Token → Type 0
BeginsMeasure [] = ⊥
BeginsMeasure (t ∷ rest) = t.kind ≡ word words.Decreases

-- The rest begins with a measure, where a clause fits, and so does the block of a method or a loop.
pub record StopsAtMeasure (ts rest : List Token) : Type 0 where
  pub front : List Token
  pub is : ts ≡ front ++ rest
  pub measure : BeginsMeasure rest
  pub clause : ClauseFits front
  pub block : GoesOnWith front (symbol signs.OpenBrace)

-- if the rest begins with a measure, no clause fits in front of it
abbrev pub NoClauseFits : List Token → List Token → Type 0
NoClauseFits ts rest = (front : List Token) → ts ≡ front ++ rest → BeginsMeasure rest → ClauseFits front → ⊥

abbrev pub MeasureSays : List Token → Result Program Halt → Type 0
MeasureSays ts (Err (inside (Measured rest))) = StopsAtMeasure ts rest
MeasureSays ts (Err (inside (Unexpected rest))) = NoClauseFits ts rest
MeasureSays ts (Err (no_member rest)) = NoClauseFits ts rest
MeasureSays ts (Err (second_measure rest)) = BeginsMeasure rest
MeasureSays ts (Err (no_body rest)) = BeginsMeasure rest → ⊥
MeasureSays ts (Err (inside (TooDeep rest))) = Unit {0}
MeasureSays ts (Err (too_many rest)) = Unit {0}
MeasureSays ts (Ok p) = Unit {0}

-- Where reading stops at a measure, it tells so where a clause fits, and only there.
abbrev pub MeasuresAreTold : Type 0
MeasuresAreTold = (ts : List Token) → MeasureSays ts (members_at ts)
