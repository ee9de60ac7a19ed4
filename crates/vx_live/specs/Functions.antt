-- The symbols f, which every dialogue about a program declares after the standard ones.
use Rattle.std.specs.Prelude.{ℕ, suc, List, [], ◌∷◌}
use Rattle.vx_ast.specs.Syntax.{Program, Declaration, Kind, IsFunction, Function}
use Rattle.vx_terms.specs.Sorts as sort
use Rattle.vx_terms.specs.Sorts.{Sort, SnapSort}
use Rattle.vx_smt_meaning.specs.Commands.{Declared}
use Rattle.vx_rules.specs.States.{sort_of_type}

abbrev pub sorts_of_types : List Declaration → List Sort
sorts_of_types [] = []
sorts_of_types (d ∷ ds) = sort_of_type d.of ∷ sorts_of_types ds

-- f and a number: it takes the snapshot of the precondition, then the arguments
abbrev pub function_symbol : ℕ → Function → Declared
function_symbol n g = record { symbol = sort.Function n; takes = SnapSort ∷ sorts_of_types g.parameters; gives = sort_of_type g.of }

-- those of some members' functions in file order, numbered from n on
abbrev pub with_kind : ℕ → Kind → (ℕ → List Declared) → List Declared
with_kind n (IsFunction g) rest = function_symbol n g ∷ rest (suc n)
with_kind n k rest = rest n

abbrev pub symbols_from : Program → ℕ → List Declared
symbols_from [] n = []
symbols_from (m ∷ ms) n = with_kind n m.kind (symbols_from ms)

-- those of a program's functions
unfoldable pub function_symbols : Program → List Declared
function_symbols p = symbols_from p 0
