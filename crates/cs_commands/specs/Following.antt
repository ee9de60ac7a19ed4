-- What is understood may follow, is well-sorted and writable, and is the same in any order of the declarations.
use Rattle.std.specs.Prelude.{◌≡◌, ⊤, ℕ, ◌<◌, true, List, length, reverse, Ok}
use Rattle.vx_sexp.specs.declared.token.Token.{Token}
use Rattle.vx_sexp.specs.Tokens.{Lexes, is_symbol}
use Rattle.vx_terms.specs.Sorts.{Sort, BoolSort, Symbol}
use Rattle.vx_terms.specs.Terms.{Term}
use Rattle.vx_smt_meaning.specs.Commands.{Command, DeclareFun, Assert, Pop, Declared, Level, declared_in, stack_after}
use Rattle.vx_smt_meaning.specs.Words.{symbol_word}
use Rattle.vx_smt_meaning.specs.WellFormed.{knows_sort, MayFollow}
use Rattle.cs_certificate.specs.Terms.{HasSort}
use Rattle.cs_writable.specs.Writable.{IsWritableTerm}
use Rattle.cs_commands.specs.declared.word.Word.TheVariants as words
use Rattle.cs_commands.specs.Words.{term_word}
use Rattle.cs_commands.specs.Names.{symbol_named}
use Rattle.cs_commands.specs.Live.{Scope, declared_as}
use Rattle.cs_commands.specs.Commands.{understood}
use Rattle.cs_commands.specs.Laws.{scope_of, AreApart, IsSmallSymbol}

-- ---- what is understood may follow

-- a pop leaves a level
abbrev pub LeavesALevel : List Level → Command → Type 0
LeavesALevel levels (Pop n) = n < length levels
LeavesALevel levels c = ⊤

-- over the live levels
abbrev pub UnderstoodMayFollow : Type 0
UnderstoodMayFollow = (levels : List Level) (tokens : List Token) (c : Command) → understood (scope_of levels) tokens ≡ Ok c → LeavesALevel levels c → MayFollow levels c

-- an assertion is well-sorted, over any scope
abbrev pub UnderstoodIsSorted : Type 0
UnderstoodIsSorted = (scope : Scope) (tokens : List Token) (t : Term) → understood scope tokens ≡ Ok (Assert t) → HasSort t BoolSort

-- and writable: its numbers stay below 2^127, each application has arguments, and `and` and `or` of a list have three parts or more
abbrev pub UnderstoodIsWritable : Type 0
UnderstoodIsWritable = (scope : Scope) (tokens : List Token) (t : Term) → understood scope tokens ≡ Ok (Assert t) → IsWritableTerm t

-- ---- a symbol that is declared has a word of its own

-- its word is a symbol of SMT-LIB and no word of terms, and is read as this symbol
pub record HasWord (f : Symbol) : Type 0 where
  pub spelled : is_symbol (symbol_word f) ≡ true
  pub free : term_word (symbol_word f) ≡ words.Name
  pub back : symbol_named (symbol_word f) ≡ f
  pub small : IsSmallSymbol f

-- over any scope, where the tokens are those of some bytes
abbrev pub UnderstoodHasWord : Type 0
UnderstoodHasWord = (scope : Scope) (bytes rest : List ℕ) (tokens : List Token) (d : Declared) → Lexes bytes tokens rest → understood scope tokens ≡ Ok (DeclareFun d) → HasWord d.symbol

-- ---- what is understood is the same in any order

-- each symbol and each sort is looked up alike
pub record LooksAlike (s u : Scope) : Type 0 where
  pub symbols : (f : Symbol) → declared_as s.symbols f ≡ declared_as u.symbols f
  pub sorts : (a : Sort) → knows_sort s.sorts a ≡ knows_sort u.sorts a

abbrev pub UnderstoodAlike : Type 0
UnderstoodAlike = (s u : Scope) (tokens : List Token) → LooksAlike s u → understood s tokens ≡ understood u tokens

-- the last declaration first: of what is declared on some levels, the oldest
abbrev pub turned : Scope → Scope
turned s = record { symbols = reverse s.symbols; sorts = reverse s.sorts }

abbrev pub LookedUpInAnyOrder : Type 0
LookedUpInAnyOrder = (s : Scope) → AreApart s.symbols → LooksAlike (turned s) s

abbrev pub UnderstoodInAnyOrder : Type 0
UnderstoodInAnyOrder = (s : Scope) (tokens : List Token) → AreApart s.symbols → understood (turned s) tokens ≡ understood s tokens

-- ---- no symbol is declared twice, whatever follows

abbrev pub StaysApart : Type 0
StaysApart = (levels : List Level) (c : Command) → AreApart (declared_in levels) → MayFollow levels c → AreApart (declared_in (stack_after c levels))
