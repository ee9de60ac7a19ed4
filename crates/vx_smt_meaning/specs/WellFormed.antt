-- Scripts of which a solver accepts each command.
use Rattle.std.specs.Prelude.{◌≡◌, ⊤, ℕ, ◌<◌, Bool, true, false, List, [], ◌∷◌, ◌++◌, length, codes, if◌then◌else◌}
use Rattle.std.specs.Str.{bytes_eq}
use Rattle.vx_terms.specs.Sorts.{Sort, IntSort, BoolSort, RealSort, RefSort, SnapSort, OtherSort, Symbol, same_symbol}
use Rattle.vx_terms.specs.Terms.{Term, sort_of}
use Rattle.vx_terms.specs.Interpretations.{Each}
use Rattle.vx_smt_meaning.specs.Commands.{Command, SetOption, SetLogic, DeclareSort, DeclareFun, Assert, Push, Pop, CheckSat, GetProof, Exit, Declared, Level, empty_level, stack_after, declared_in}
use Rattle.vx_smt_meaning.specs.Names.{AreCommands}
use Rattle.vx_smt_meaning.specs.Symbols.{UsesDeclared}

-- the symbol is one of those that are declared, with whatever sorts
abbrev pub names : List Declared → Symbol → Bool
names [] f = false
names (d ∷ ds) f = if same_symbol d.symbol f then true else names ds f

abbrev pub sorts_in : List Level → List (List ℕ)
sorts_in [] = []
sorts_in (l ∷ levels) = l.sorts ++ sorts_in levels

abbrev pub has_sort : List (List ℕ) → List ℕ → Bool
has_sort [] x = false
has_sort (y ∷ ys) x = if bytes_eq y x then true else has_sort ys x

-- a sort of SMT-LIB's own, or one that is declared
abbrev pub knows_sort : List (List ℕ) → Sort → Bool
knows_sort sorts IntSort = true
knows_sort sorts BoolSort = true
knows_sort sorts RealSort = true
knows_sort sorts RefSort = has_sort sorts (codes "Ref")
knows_sort sorts SnapSort = has_sort sorts (codes "Snap")
knows_sort sorts (OtherSort x) = has_sort sorts x

-- over known sorts, and its symbol isn't declared on a live level
pub record MayDeclare (levels : List Level) (d : Declared) : Type 0 where
  pub new : names (declared_in levels) d.symbol ≡ false
  pub takes : Each (λ (a : Sort). knows_sort (sorts_in levels) a ≡ true) d.takes
  pub gives : knows_sort (sorts_in levels) d.gives ≡ true

-- of sort Bool, and each of its symbols is declared on a live level, with its sorts
pub record MayAssert (levels : List Level) (t : Term) : Type 0 where
  pub bool : sort_of t ≡ BoolSort
  pub declared : UsesDeclared (declared_in levels) t

-- what a command has to be, over the live levels
abbrev pub MayFollow : List Level → Command → Type 0
MayFollow levels (SetOption x b) = ⊤
MayFollow levels (SetLogic x) = ⊤
MayFollow levels (DeclareSort x) = has_sort (sorts_in levels) x ≡ false
MayFollow levels (DeclareFun d) = MayDeclare levels d
MayFollow levels (Assert t) = MayAssert levels t
MayFollow levels (Push n) = ⊤
MayFollow levels (Pop n) = n < length levels
MayFollow levels CheckSat = ⊤
MayFollow levels GetProof = ⊤
MayFollow levels Exit = ⊤

abbrev pub AllMayFollow : List Level → List Command → Type 0
AllMayFollow levels [] = ⊤
AllMayFollow levels (c ∷ cs) = MayFollow levels c × AllMayFollow (stack_after c levels) cs

-- The names are spelled, and each command may follow those before it.
pub record IsWellFormed (script : List Command) : Type 0 where
  pub spelled : AreCommands script
  pub in_order : AllMayFollow (empty_level ∷ []) script
