-- Keys of symbols, by their words: any numbers would do that depend on the word alone.
use Rattle.std.specs.Prelude.{ℕ, List, [], ◌∷◌, Option, Some, None}
use Rattle.vx_terms.specs.Sorts.{Symbol, Standard, Function, Variable, Named}
use Rattle.vx_smt_meaning.specs.Commands.{Declared}
use Rattle.cs_index.specs.Keys.{mixed, mixed_all}
use Rattle.cs_reader.specs.Marks.{numeral}

-- by the number behind the first letter, if there is one
abbrev pub lettered_key : ℕ → List ℕ → Option ℕ → ℕ
lettered_key b bs (Some n) = mixed b n
lettered_key b bs None = mixed_all b bs

abbrev pub word_key : List ℕ → ℕ
word_key [] = 0
word_key (b ∷ bs) = lettered_key b bs (numeral bs)

-- the key of its word
abbrev pub symbol_key : Symbol → ℕ
symbol_key (Standard n) = mixed 115 n
symbol_key (Function n) = mixed 102 n
symbol_key (Variable n) = mixed 118 n
symbol_key (Named x) = word_key x

abbrev pub declared_key : Declared → ℕ
declared_key d = symbol_key d.symbol
