-- The commands for paths whose terms have the numbers of their segments. Neighbours with one number stand on one level of the assertion stack (SMT-LIB 2.6, section 4.1).
use Rattle.std.specs.Prelude.{ℕ, zero, suc, nat_eq, if◌then◌else◌, List, [], ◌∷◌, ◌++◌, length, drop}
use Rattle.vx_terms.specs.Terms.{Term}
use Rattle.vx_segments.specs.Segments.{Entry}
use Rattle.vx_smt_meaning.specs.Commands.{Command, Declared, Assert, Push, Pop}
use Rattle.vx_dialogue.specs.Symbols.{with_variables}
use Rattle.vx_dialogue.specs.Preamble.{declarations}

-- the segment of the last entry; where there is none, the one before
abbrev pub last_of : ℕ → List Entry → ℕ
last_of last [] = last
last_of last (e ∷ es) = last_of e.segment es

-- the symbols v of a term that aren't among these yet, in the order of their first occurrence
abbrev pub missing : List Declared → Term → List Declared
missing ds t = drop (length ds) (with_variables ds t)

-- An entry of another segment than the one before it opens a level.
abbrev pub opening : ℕ → Entry → List Command
opening last e = if nat_eq e.segment last then [] else (Push 1 ∷ [])

-- What is said for entries that stand behind this segment, where these symbols are declared: for each entry its level, if it opens one, the symbols that are missing, and its assertion.
abbrev pub sent : ℕ → List Declared → List Entry → List Command
sent last ds [] = []
sent last ds (e ∷ es) = ((opening last e ++ declarations (missing ds e.term)) ++ Assert e.term ∷ []) ++ sent e.segment (with_variables ds e.term) es

-- how many levels entries open that stand behind this segment
abbrev pub depth : ℕ → List Entry → ℕ
depth last [] = 0
depth last (e ∷ es) = if nat_eq e.segment last then depth e.segment es else suc (depth e.segment es)

-- what closes so many levels
abbrev pub pops : ℕ → List Command
pops zero = []
pops (suc n) = Pop 1 ∷ pops n
