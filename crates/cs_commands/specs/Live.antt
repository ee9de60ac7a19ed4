-- What is declared, and what a name stands for there.
use Rattle.std.specs.Prelude.{ℕ, if◌then◌else◌, List, slice_get, Option, Some, None, Ok, Err}
use Rattle.std.specs.Option.{option_and_then}
use Rattle.std.specs.declared.result.Result.{Result}
use Rattle.vx_terms.specs.Sorts.{Sort, Symbol, same_symbol}
use Rattle.vx_smt_meaning.specs.Commands.{Declared}
use Rattle.vx_smt_meaning.specs.WellFormed.{knows_sort}
use Rattle.cs_index.specs.Found.{first}
use Rattle.cs_commands.specs.declared.fault.CommandFault.{CommandFault}
use Rattle.cs_commands.specs.declared.fault.CommandFault.TheVariants as faults
use Rattle.cs_commands.specs.declared.word.Word.{Word}
use Rattle.cs_commands.specs.declared.word.Word.TheVariants as words
use Rattle.cs_commands.specs.Outcomes.{◌>>=◌, where_so}
use Rattle.cs_commands.specs.Words.{term_word}
use Rattle.cs_commands.specs.Names.{text, symbol_named, sort_named}

-- the declared symbols, and the names of the declared sorts
pub record Scope : Type 0 where
  pub symbols : List Declared
  pub sorts : List (List ℕ)

-- the first declaration of this symbol
abbrev pub declared_as : List Declared → Symbol → Option Declared
declared_as ds f = option_and_then (slice_get ds) (first (λ d. same_symbol f d.symbol) ds)

-- ---- names that are used

abbrev pub declaration : Scope → List ℕ → Result (Option Declared) CommandFault
declaration scope x = text x >>= λ name. Ok (declared_as scope.symbols (symbol_named name))

abbrev pub known_sort : Scope → Sort → Result Sort CommandFault
known_sort scope a = where_so faults.Name (knows_sort scope.sorts a) a

abbrev pub sort_at : Scope → List ℕ → Result Sort CommandFault
sort_at scope x = text x >>= λ name. known_sort scope (sort_named name)

-- ---- names that are declared

-- a sort that isn't known
abbrev pub new_sort : Scope → List ℕ → Result (List ℕ) CommandFault
new_sort scope x = text x >>= λ name. (if knows_sort scope.sorts (sort_named name) then Err faults.Name else Ok name)

abbrev pub if_new : Symbol → Option Declared → Result Symbol CommandFault
if_new f None = Ok f
if_new f (Some d) = Err faults.Name

abbrev pub if_free : Word → Symbol → Option Declared → Result Symbol CommandFault
if_free words.Name f d = if_new f d
if_free w f d = Err faults.Name

-- a symbol that isn't declared, and no word of terms
abbrev pub new_symbol : Scope → List ℕ → Result Symbol CommandFault
new_symbol scope x = text x >>= λ name. if_free (term_word name) (symbol_named name) (declared_as scope.symbols (symbol_named name))
