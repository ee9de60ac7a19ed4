-- What each fault says of the tokens, by the programs that could go on with them.
use Rattle.std.specs.Prelude.{◌≡◌, ℕ, List, [], ◌∷◌, Result, Ok, Err, ◌⊎◌}
use Rattle.vx_ast.specs.declared.Place.{Place}
use Rattle.vx_ast.specs.Written.{Program}
use Rattle.vx_tokens.specs.Tokens.{Kind, Token}
use Rattle.vx_tokens.specs.Text.{Ending}
use Rattle.vx_grammar.specs.ProgramLaws.{ProgramSpelled, ProgramWithin, FitsInFront, FirstUnfit, StopsAtBody, StopsTooDeep, StopsTooMany, BeginsMeasure, StopsAtMeasure, NoClauseFits}
use Rattle.vx_parser.specs.declared.fault.TextFault as the_fault
use Rattle.vx_parser.specs.declared.fault.TextFault.TheVariants as faults
use Rattle.vx_parser.specs.Answers.{Fault, BadCharacter, Unexpected, EndOfText, WideLiteral, TooDeep, TooManyMembers, Unsupported, Abstract, early, IsEnd, answer, Shows}

-- A token of this kind stands there, the tokens in front of it fit, and no program goes on with it. What is left from it on
-- is such.
pub record UnfitAt (at : Place) (kind : Kind) (ts : List Token) (IsSuch : List Token → Type 0) : Type 0 where
  pub token : Token
  pub after : List Token
  pub place : token.place ≡ at
  pub is : token.kind ≡ kind
  pub first : FirstUnfit ts (token ∷ after)
  pub such : IsSuch (token ∷ after)

-- a token stands there with which no program goes on, and which stands in place of a function's body
pub record AbstractAt (at : Place) (ts : List Token) : Type 0 where
  pub token : Token
  pub after : List Token
  pub place : token.place ≡ at
  pub first : FirstUnfit ts (token ∷ after)
  pub due : StopsAtBody ts (token ∷ after)

-- a token stands there that fits, and is the first that nests too deep
pub record DeepAt (at : Place) (ts : List Token) : Type 0 where
  pub token : Token
  pub after : List Token
  pub place : token.place ≡ at
  pub deep : StopsTooDeep ts (token ∷ after)

-- a member begins there, behind as many as may be
pub record ManyAt (at : Place) (ts : List Token) : Type 0 where
  pub token : Token
  pub after : List Token
  pub place : token.place ≡ at
  pub many : StopsTooMany ts (token ∷ after)

-- all tokens fit: some program begins with them
abbrev pub AllFit : List Token → Type 0
AllFit ts = FitsInFront ts []

abbrev pub NoProgram : List Token → Type 0
NoProgram ts = (p : Program) → ProgramSpelled ts p → ⊥

-- a measure stands there only where a clause fits, and so does the block of a method or a loop
abbrev pub ClauseFitsThere : List Token → List Token → Type 0
ClauseFitsThere ts rest = BeginsMeasure rest → StopsAtMeasure ts rest

-- a measure stands there only where no clause fits, or as a function's second one
abbrev pub NoClauseFitsThere : List Token → List Token → Type 0
NoClauseFitsThere ts rest = NoClauseFits ts rest ⊎ StopsAtBody ts rest

-- what a fault says of the tokens of a text and its ending
abbrev pub FaultSays : List Token → Ending → Fault → Type 0
FaultSays ts e (Unexpected p k) = UnfitAt p k ts (NoClauseFitsThere ts)
FaultSays ts e (Unsupported p k) = UnfitAt p k ts (ClauseFitsThere ts)
FaultSays ts e (Abstract p) = AbstractAt p ts
FaultSays ts e (EndOfText p) = (early e ≡ EndOfText p) × AllFit ts × (IsEnd e → NoProgram ts)
FaultSays ts e (WideLiteral p) = (early e ≡ WideLiteral p) × AllFit ts
FaultSays ts e (BadCharacter p) = (early e ≡ BadCharacter p) × AllFit ts
FaultSays ts e (TooDeep p) = DeepAt p ts
FaultSays ts e (TooManyMembers p) = ManyAt p ts

abbrev pub AnswerSays : List Token → Ending → Result Program Fault → Type 0
AnswerSays ts e (Ok p) = ProgramWithin ts p × IsEnd e
AnswerSays ts e (Err f) = FaultSays ts e f

-- every answer says so of the tokens and the ending
abbrev pub AnswersSay : Type 0
AnswersSay = (ts : List Token) (e : Ending) → AnswerSays ts e (answer ts e)

-- memory ran out, or the fault of the text is one that says so
abbrev pub IsRefusal : List ℕ → List Token → Ending → the_fault.TextFault → Type 0
IsRefusal bytes ts e f = (f ≡ faults.Want) ⊎ ((g : Fault) × Shows bytes f g × FaultSays ts e g)
