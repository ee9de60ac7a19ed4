-- What stands before the parts of a list.
use Rattle.std.specs.Prelude.{ℕ, List, Option, Some, None, Ok, Err}
use Rattle.std.specs.declared.result.Result.{Result}
use Rattle.vx_sexp.specs.declared.token.Token.{Token}
use Rattle.vx_terms.specs.Sorts.{Operator}
use Rattle.vx_terms.specs.Views.{operator}
use Rattle.vx_smt_meaning.specs.Commands.{Declared}
use Rattle.cs_reader.specs.Spelling.{symbol_in}
use Rattle.cs_commands.specs.declared.fault.CommandFault.{CommandFault}
use Rattle.cs_commands.specs.declared.fault.CommandFault.TheVariants as faults
use Rattle.cs_commands.specs.declared.word.Word.{Word}
use Rattle.cs_commands.specs.declared.word.Word.TheVariants as words
use Rattle.cs_commands.specs.Outcomes.{◌>>=◌, or_fault}
use Rattle.cs_commands.specs.Words.{term_word}
use Rattle.cs_commands.specs.Live.{Scope, declaration}

pub data Head : Type 0 where
  NotHead IteHead MinusHead SlashHead : Head
  OperatorHead : Operator → Head
  SymbolHead : Declared → Head

abbrev pub symbol_head : Option Declared → Result Head CommandFault
symbol_head (Some d) = Ok (SymbolHead d)
symbol_head None = Err faults.Name

-- a truth value has no parts
abbrev pub head_of : Scope → List ℕ → Word → Result Head CommandFault
head_of scope x (words.Truth b) = Err faults.Sort
head_of scope x words.Not = Ok NotHead
head_of scope x words.Ite = Ok IteHead
head_of scope x words.Minus = Ok MinusHead
head_of scope x words.Slash = Ok SlashHead
head_of scope x (words.Operator o) = Ok (OperatorHead (operator o))
head_of scope x words.Name = declaration scope x >>= symbol_head

-- any token but a symbol is no name
abbrev pub head_at : Scope → Token → Result Head CommandFault
head_at scope t = or_fault faults.Name (symbol_in t) >>= λ x. head_of scope x (term_word x)
