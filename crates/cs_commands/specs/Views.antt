-- What the types of src/ stand for, and what their steps say.
use Rattle.std.specs.Prelude.{◌≡◌, ◌<◌, List, [], ◌∷◌, ◌++◌, map, length, string_bytes, None, Ok, Err}
use Rattle.std.specs.declared.result.Result.{Result}
use Rattle.vx_sexp.specs.declared.token.Token.{Token}
use Rattle.vx_terms.specs.Terms.{Term}
use Rattle.vx_terms.specs.Views.{operator, term}
use Rattle.vx_smt_meaning.specs.Views.{declared_symbol}
use Rattle.cs_reader.specs.Live.{declared_in}
use Rattle.cs_commands.specs.declared.fault.CommandFault.{CommandFault}
use Rattle.cs_commands.specs.declared.live.Live.{Live}
use Rattle.cs_commands.specs.declared.head.Head.{Head as Head'}
use Rattle.cs_commands.specs.declared.head.Head.TheVariants as heads'
use Rattle.cs_commands.specs.declared.term.Frame.{Frame as Frame'}
use Rattle.cs_commands.specs.declared.term.Step.{Step}
use Rattle.cs_commands.specs.declared.term.Step.TheVariants as steps
use Rattle.cs_commands.specs.Outcomes.{told, Fails}
use Rattle.cs_commands.specs.Live.{Scope}
use Rattle.cs_commands.specs.Heads.{Head, NotHead, IteHead, MinusHead, SlashHead, OperatorHead, SymbolHead}
use Rattle.cs_commands.specs.Terms.{Frame, Placed, Whole, Within, term_from}

abbrev pub scope : Live → Scope
scope l = record { symbols = declared_in l.symbols.now; sorts = map string_bytes l.sorts.now }

abbrev pub head : Head' → Head
head heads'.Not = NotHead
head heads'.Ite = IteHead
head heads'.Minus = MinusHead
head heads'.Slash = SlashHead
head (heads'.Operator o) = OperatorHead (operator o)
head (heads'.Symbol d) = SymbolHead (declared_symbol d.now)

abbrev pub frame : Frame' → Frame
frame f = record { head = head f.head; parts = map (λ t. term t.value) f.parts.items; decimals = f.decimals }

-- the last list opened is the innermost
abbrev pub stack : List Frame' → List Frame
stack [] = []
stack (f ∷ fs) = stack fs ++ frame f ∷ []

-- where a term was put, with these lists open then
abbrev pub PlaceGives : Result Step CommandFault → List Frame → List Token → Placed → Type 0
PlaceGives (Ok (steps.Whole t behind)) fs rest p = (p ≡ Whole (term t.value)) × (behind.now ≡ rest)
PlaceGives (Ok (steps.On behind)) fs rest p = (p ≡ Within fs) × (behind.now ≡ rest)
PlaceGives (Err e) fs rest p = told e ≡ None

-- what a step led to is what reading gives
abbrev pub StepGives : Scope → Result Step CommandFault → List Frame → Result (Term × List Token) CommandFault → Type 0
StepGives scope (Ok (steps.Whole t behind)) fs read = read ≡ Ok (term t.value, behind.now)
StepGives scope (Ok (steps.On behind)) fs read = read ≡ term_from scope fs behind.now
StepGives scope (Err e) fs read = Fails e read

-- fewer tokens are left
abbrev pub Shortens : Result Step CommandFault → List Token → Type 0
Shortens (Ok (steps.On behind)) tokens = length behind.now < length tokens
Shortens (Ok (steps.Whole t behind)) tokens = Unit {0}
Shortens (Err e) tokens = Unit {0}
