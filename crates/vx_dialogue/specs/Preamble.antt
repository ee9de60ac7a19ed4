-- What each dialogue begins with.
use Rattle.std.specs.Prelude.{ℕ, Bool, true, false, List, [], ◌∷◌, ◌++◌, codes}
use Rattle.vx_smt_meaning.specs.Commands.{Command, Declared, SetOption, SetLogic, DeclareSort, DeclareFun}
use Rattle.vx_smt_meaning.specs.Standard.{standard_symbols}

abbrev pub declarations : List Declared → List Command
declarations [] = []
declarations (d ∷ ds) = DeclareFun d ∷ declarations ds

unfoldable pub print_success : List ℕ
print_success = codes ":print-success"

unfoldable pub produce_proofs : List ℕ
produce_proofs = codes ":produce-proofs"

-- proofs are asked for only under certify
abbrev pub options : Bool → List Command
options true = SetOption print_success true ∷ SetOption produce_proofs true ∷ []
options false = SetOption print_success true ∷ []

abbrev pub logic : List Command
logic = SetLogic (codes "ALL") ∷ DeclareSort (codes "Ref") ∷ DeclareSort (codes "Snap") ∷ []

-- all before the symbols f
abbrev pub front : Bool → List Command
front certify = options certify ++ logic ++ declarations standard_symbols

-- what a dialogue begins with
abbrev pub preamble : Bool → List Declared → List Command
preamble certify functions = front certify ++ declarations functions
