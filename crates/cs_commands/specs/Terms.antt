-- The term that tokens begin with, read from left to right.
use Rattle.std.specs.Prelude.{ℕ, ◌^◌, pos, Bool, true, false, ◌&&◌, List, [], ◌∷◌, ◌++◌, Option, Some, None, Ok, Err}
use Rattle.std.specs.declared.result.Result.{Result}
use Rattle.vx_sexp.specs.declared.token.Kind.{Kind}
use Rattle.vx_sexp.specs.declared.token.Kind.TheVariants as kinds
use Rattle.vx_sexp.specs.declared.token.Token.{Token}
use Rattle.vx_sexp.specs.declared.token.Token.TheVariants.{Open, Close, Atom}
use Rattle.vx_terms.specs.Terms.{Term, Truth, Number, Part}
use Rattle.vx_smt_meaning.specs.Commands.{Declared}
use Rattle.cs_reader.specs.Spelling.{decimal}
use Rattle.cs_commands.specs.declared.fault.CommandFault.{CommandFault}
use Rattle.cs_commands.specs.declared.fault.CommandFault.TheVariants as faults
use Rattle.cs_commands.specs.declared.word.Word.{Word}
use Rattle.cs_commands.specs.declared.word.Word.TheVariants as words
use Rattle.cs_commands.specs.Outcomes.{◌>>=◌, or_fault}
use Rattle.cs_commands.specs.Words.{term_word}
use Rattle.cs_commands.specs.Names.{number_below}
use Rattle.cs_commands.specs.Live.{Scope, declaration}
use Rattle.cs_commands.specs.Heads.{Head, head_at}
use Rattle.cs_commands.specs.Building.{built, constant}

-- ---- atoms

abbrev pub if_declared : Option Declared → Result Term CommandFault
if_declared (Some d) = constant d
if_declared None = Err faults.Name

abbrev pub alone : Scope → List ℕ → Word → Result Term CommandFault
alone scope x (words.Truth b) = Ok (Truth b)
alone scope x words.Name = declaration scope x >>= if_declared
alone scope x w = Err faults.Sort

abbrev pub numeral : List ℕ → Result Term CommandFault
numeral x = or_fault faults.Wide (number_below (2 ^ 127) x) >>= λ n. Ok (Number (pos n))

abbrev pub part : List ℕ → Result Term CommandFault
part x = or_fault faults.Wide (decimal x) >>= λ a. Ok (Part a)

-- any other atom is no name
abbrev pub leaf : Scope → Kind → List ℕ → Result Term CommandFault
leaf scope kinds.Numeral x = numeral x
leaf scope kinds.Decimal x = part x
leaf scope kinds.Symbol x = alone scope x (term_word x)
leaf scope kind x = Err faults.Name

abbrev pub is_decimal : Kind → Bool
is_decimal kinds.Decimal = true
is_decimal kind = false

-- ---- lists

-- a list that isn't closed yet, with its parts so far, and whether each of them is a decimal
pub record Frame : Type 0 where
  pub head : Head
  pub parts : List Term
  pub decimals : Bool

abbrev pub opened : Head → Frame
opened h = record { head = h; parts = []; decimals = true }

abbrev pub with_part : Frame → Bool → Term → Frame
with_part f decimal t = record { head = f.head; parts = f.parts ++ t ∷ []; decimals = f.decimals && decimal }

-- a term that is the whole, or one within lists, of which the innermost stands first
pub data Placed : Type 0 where
  Whole : Term → Placed
  Within : List Frame → Placed

-- whether the term is a decimal matters within a list alone
abbrev pub placed : Bool → Term → List Frame → Placed
placed decimal t [] = Whole t
placed decimal t (f ∷ fs) = Within (with_part f decimal t ∷ fs)

-- where no list is open, a parenthesis that closes one stands in a term's place
abbrev pub closed : List Frame → Result Placed CommandFault
closed [] = Err faults.Sort
closed (f ∷ fs) = built f.head f.decimals f.parts >>= λ t. Ok (placed false t fs)

abbrev pub go_on : Placed → List Token → (List Frame → Result (Term × List Token) CommandFault) → Result (Term × List Token) CommandFault
go_on (Whole t) ts go = Ok (t, ts)
go_on (Within fs) ts go = go fs

-- within some open lists: the term, and what follows it
abbrev pub term_from : Scope → List Frame → List Token → Result (Term × List Token) CommandFault
term_from scope fs [] = Err faults.Sort
term_from scope fs (Open ∷ []) = Err faults.Sort
term_from scope fs (Open ∷ t ∷ ts) = head_at scope t >>= λ h. term_from scope (opened h ∷ fs) ts
term_from scope fs (Close ∷ ts) = closed fs >>= λ p. go_on p ts (λ gs. term_from scope gs ts)
term_from scope fs (Atom kind x ∷ ts) = leaf scope kind x >>= λ t. go_on (placed (is_decimal kind) t fs) ts (λ gs. term_from scope gs ts)
