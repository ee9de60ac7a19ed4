-- What is answered for a text: its program, or the first fault with its place.
use Rattle.std.specs.Prelude.{◌≡◌, ℕ, string_bytes, List, [], ◌∷◌, ◌++◌, map, Option, Some, None, Result, Ok, Err, Bool, true, false, if◌then◌else◌, codes, ◌==◌}
use Rattle.std.specs.List.{AllByRecursion}
use Rattle.std.specs.Cmp.Lexicographic.{pointwise}
use Rattle.std.specs.Global.{Vec}
use Rattle.vx_ast.specs.declared.Place.{Place}
use Rattle.vx_ast.specs.declared.Member as the_member
use Rattle.vx_ast.specs.declared.Program as the_program
use Rattle.vx_ast.specs.Written.{Program, written_member, written_program}
use Rattle.vx_tokens.specs.declared.token.Word.{Word}
use Rattle.vx_tokens.specs.declared.token.Word.TheVariants as words
use Rattle.vx_tokens.specs.declared.token.Symbol.{Symbol}
use Rattle.vx_tokens.specs.declared.token.Symbol.TheVariants as signs
use Rattle.vx_tokens.specs.declared.token.Token as the_token
use Rattle.vx_tokens.specs.Tokens.{Kind, name, number, word, symbol, Token, kind_of, tokens_in}
use Rattle.vx_tokens.specs.Standing.{TokenAt}
use Rattle.vx_tokens.specs.Text as text
use Rattle.vx_grammar.specs.Reading as reading
use Rattle.vx_grammar.specs.MemberReading as members
use Rattle.vx_expr_parser.specs.declared.stop.Stop.TheVariants as stops
use Rattle.vx_parser.specs.declared.stop.MemberStop.TheVariants as inner
use Rattle.vx_parser.specs.declared.program.Halt as the_halt
use Rattle.vx_parser.specs.declared.program.Halt.TheVariants as halts
use Rattle.vx_parser.specs.declared.fault.TextFault as the_fault
use Rattle.vx_parser.specs.declared.fault.TextFault.TheVariants as faults

-- ---- words and signs that this language leaves out

abbrev pub is_foreign_word : Word → Bool
is_foreign_word words.Foreign = true
is_foreign_word w = false

abbrev pub is_foreign_symbol : Symbol → Bool
is_foreign_symbol signs.OpenBracket = true
is_foreign_symbol signs.At = true
is_foreign_symbol signs.Wand = true
is_foreign_symbol s = false

abbrev pub is_foreign : Kind → Bool
is_foreign (word w) = is_foreign_word w
is_foreign (symbol s) = is_foreign_symbol s
is_foreign (name x) = false
is_foreign (number n) = false

-- `adt` is a name elsewhere
abbrev pub is_foreign_member : Kind → Bool
is_foreign_member (name x) = pointwise ◌==◌ x (codes "adt")
is_foreign_member (word w) = is_foreign_word w
is_foreign_member (symbol s) = is_foreign_symbol s
is_foreign_member (number n) = false

-- ---- faults, with the token at which they stand

pub data Fault : Type 0 where
  BadCharacter : Place → Fault
  Unexpected : Place → Kind → Fault
  EndOfText : Place → Fault
  WideLiteral : Place → Fault
  TooDeep : Place → Fault
  TooManyMembers : Place → Fault
  Unsupported : Place → Kind → Fault
  -- a function without a body
  Abstract : Place → Fault

-- where no token is left, but one is due
abbrev pub early : text.Ending → Fault
early (text.AtEnd p) = EndOfText p
early (text.OpenComment p) = EndOfText p
early (text.WideLiteral p) = WideLiteral p
early (text.BadCharacter p) = BadCharacter p

abbrev pub unfit_token : Bool → Token → Fault
unfit_token foreign t = if foreign then Unsupported t.place t.kind else Unexpected t.place t.kind

-- the tokens where reading halts
abbrev pub rest_of : members.Halt → List Token
rest_of (members.inside (reading.Unexpected rest)) = rest
rest_of (members.inside (reading.Measured rest)) = rest
rest_of (members.inside (reading.TooDeep rest)) = rest
rest_of (members.no_body rest) = rest
rest_of (members.second_measure rest) = rest
rest_of (members.no_member rest) = rest
rest_of (members.too_many rest) = rest

-- The fault at the first of them. A measure is left out where none may stand; a function's second one is no such word.
abbrev pub token_fault : members.Halt → Token → Fault
token_fault (members.inside (reading.Unexpected rest)) t = unfit_token (is_foreign t.kind) t
token_fault (members.inside (reading.Measured rest)) t = Unsupported t.place t.kind
token_fault (members.inside (reading.TooDeep rest)) t = TooDeep t.place
token_fault (members.no_body rest) t = Abstract t.place
token_fault (members.second_measure rest) t = Unexpected t.place t.kind
token_fault (members.no_member rest) t = unfit_token (is_foreign_member t.kind) t
token_fault (members.too_many rest) t = TooManyMembers t.place

abbrev pub fault_at : members.Halt → List Token → text.Ending → Fault
fault_at halt [] ending = early ending
fault_at halt (t ∷ ts) ending = token_fault halt t

abbrev pub fault_of : members.Halt → text.Ending → Fault
fault_of halt ending = fault_at halt (rest_of halt) ending

-- a program, where the text goes on with nothing behind it
abbrev pub ended : Program → text.Ending → Result Program Fault
ended p (text.AtEnd at) = Ok p
ended p (text.OpenComment at) = Err (EndOfText at)
ended p (text.WideLiteral at) = Err (WideLiteral at)
ended p (text.BadCharacter at) = Err (BadCharacter at)

-- what the tokens and the ending of a text give
abbrev pub answer_by : Result Program members.Halt → text.Ending → Result Program Fault
answer_by (Ok p) ending = ended p ending
answer_by (Err halt) ending = Err (fault_of halt ending)

unfoldable pub answer : List Token → text.Ending → Result Program Fault
answer ts ending = answer_by (members.members_at ts) ending

-- ---- what the program answers

-- where reading halts, unless memory ran out
abbrev pub halt_of : the_halt.Halt → Option members.Halt
halt_of (halts.Inside (inner.Stopped stops.Memory)) = None
halt_of (halts.Inside (inner.Stopped (stops.Unexpected ts))) = Some (members.inside (reading.Unexpected (tokens_in ts.now)))
halt_of (halts.Inside (inner.Stopped (stops.Measured ts))) = Some (members.inside (reading.Measured (tokens_in ts.now)))
halt_of (halts.Inside (inner.Stopped (stops.TooDeep ts))) = Some (members.inside (reading.TooDeep (tokens_in ts.now)))
halt_of (halts.Inside (inner.Bodiless ts)) = Some (members.no_body (tokens_in ts.now))
halt_of (halts.Inside (inner.MeasuredTwice ts)) = Some (members.second_measure (tokens_in ts.now))
halt_of (halts.NoMember ts) = Some (members.no_member (tokens_in ts.now))
halt_of (halts.TooMany ts) = Some (members.too_many (tokens_in ts.now))

abbrev pub HaltsAt : Option members.Halt → Result Program members.Halt → Type 0
HaltsAt None read = Unit {0}
HaltsAt (Some h) read = read ≡ Err h

-- an Err tells where reading halts, unless memory ran out
abbrev pub GivesMembers : Result (Vec the_member.Member) the_halt.Halt → Result Program members.Halt → Type 0
GivesMembers (Ok ms) read = read ≡ Ok (map written_member ms.items)
GivesMembers (Err e) read = HaltsAt (halt_of e) read

-- The argument of an unsupported token is its text. That of a function without a body is the word that tells it.
abbrev pub IsUnsupported : List ℕ → Place → List ℕ → Fault → Type 0
IsUnsupported bytes p argument (Unsupported q k) = (q ≡ p) × TokenAt bytes p k argument
IsUnsupported bytes p argument (Abstract q) = (q ≡ p) × (argument ≡ codes "abstract")
IsUnsupported bytes p argument (BadCharacter q) = ⊥
IsUnsupported bytes p argument (Unexpected q k) = ⊥
IsUnsupported bytes p argument (EndOfText q) = ⊥
IsUnsupported bytes p argument (WideLiteral q) = ⊥
IsUnsupported bytes p argument (TooDeep q) = ⊥
IsUnsupported bytes p argument (TooManyMembers q) = ⊥

-- A fault that is answered of a text is this one, unless memory ran out. Its argument is the text of the token at which it
-- stands.
abbrev pub Shows : List ℕ → the_fault.TextFault → Fault → Type 0
Shows bytes faults.Want f = Unit {0}
Shows bytes (faults.BadCharacter p) f = f ≡ BadCharacter p
Shows bytes (faults.Unexpected p s) f = (k : Kind) × (f ≡ Unexpected p k) × TokenAt bytes p k (string_bytes s)
Shows bytes (faults.EndOfText p) f = f ≡ EndOfText p
Shows bytes (faults.WideLiteral p) f = f ≡ WideLiteral p
Shows bytes (faults.TooDeep p) f = f ≡ TooDeep p
Shows bytes (faults.TooManyMembers p) f = f ≡ TooManyMembers p
Shows bytes (faults.Unsupported p s) f = IsUnsupported bytes p (string_bytes s) f
Shows bytes (faults.NotUtf8 p) f = ⊥
Shows bytes faults.TooLong f = ⊥

-- the token's text is what spells it at its place
abbrev pub StandsIn : List ℕ → the_token.Token → Type 0
StandsIn bytes t = TokenAt bytes t.place (kind_of t.kind) t.text.now

abbrev pub AllStandIn : List ℕ → List the_token.Token → Type 0
AllStandIn bytes ts = AllByRecursion (StandsIn bytes) ts

-- the tokens end with these
abbrev pub EndsWith : List Token → List Token → Type 0
EndsWith ts rest = (front : List Token) × (ts ≡ front ++ rest)

-- the fault where reading halts so at a token
abbrev pub FaultsAt : List ℕ → the_fault.TextFault → Option members.Halt → Token → Type 0
FaultsAt bytes f None t = f ≡ faults.Want
FaultsAt bytes f (Some h) t = Shows bytes f (token_fault h t)

-- the fault where reading these tokens halts so
abbrev pub FaultsAs : List ℕ → List Token → the_fault.TextFault → Option members.Halt → text.Ending → Type 0
FaultsAs bytes ts f None ending = f ≡ faults.Want
FaultsAs bytes ts f (Some h) ending = EndsWith ts (rest_of h) → Shows bytes f (fault_of h ending)

abbrev pub IsEnd : text.Ending → Type 0
IsEnd (text.AtEnd p) = Unit {0}
IsEnd (text.OpenComment p) = ⊥
IsEnd (text.WideLiteral p) = ⊥
IsEnd (text.BadCharacter p) = ⊥

-- what is answered of a text is the program, or the fault, unless memory ran out
abbrev pub IsAnswer : List ℕ → Result the_program.Program the_fault.TextFault → Result Program Fault → Type 0
IsAnswer bytes (Ok p) (Ok q) = written_program p ≡ q
IsAnswer bytes (Ok p) (Err f) = ⊥
IsAnswer bytes (Err faults.Want) r = Unit {0}
IsAnswer bytes (Err e) (Ok q) = ⊥
IsAnswer bytes (Err e) (Err f) = Shows bytes e f
