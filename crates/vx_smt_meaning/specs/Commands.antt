-- Commands and their assertion stacks.
use Rattle.std.specs.Prelude.{ℕ, zero, suc, List, [], ◌∷◌, ◌++◌, Bool, drop}
use Rattle.vx_terms.specs.Sorts.{Sort, Symbol}
use Rattle.vx_terms.specs.Terms.{Term}

-- a symbol with the sorts that it takes and gives
pub record Declared : Type 0 where
  pub symbol : Symbol
  pub takes : List Sort
  pub gives : Sort

pub data Command : Type 0 where
  -- the keyword with its colon
  SetOption : List ℕ → Bool → Command
  SetLogic : List ℕ → Command
  -- of arity 0
  DeclareSort : List ℕ → Command
  DeclareFun : Declared → Command
  Assert : Term → Command
  Push : ℕ → Command
  Pop : ℕ → Command
  CheckSat : Command
  GetProof : Command
  Exit : Command

-- what one level holds, the newest first
pub record Level : Type 0 where
  pub sorts : List (List ℕ)
  pub symbols : List Declared
  pub assertions : List Term

abbrev pub empty_level : Level
empty_level = record { sorts = []; symbols = []; assertions = [] }

-- n levels more
abbrev pub opened : ℕ → List Level → List Level
opened zero levels = levels
opened (suc n) levels = empty_level ∷ opened n levels

-- what a command does to the levels, of which the last opened stands first
abbrev pub stack_after : Command → List Level → List Level
stack_after (Push n) levels = opened n levels
stack_after (Pop n) levels = drop n levels
stack_after (DeclareSort x) (l ∷ levels) = record l { sorts = x ∷ l.sorts } ∷ levels
stack_after (DeclareFun d) (l ∷ levels) = record l { symbols = d ∷ l.symbols } ∷ levels
stack_after (Assert t) (l ∷ levels) = record l { assertions = t ∷ l.assertions } ∷ levels
stack_after command levels = levels

abbrev pub stack_from : List Level → List Command → List Level
stack_from levels [] = levels
stack_from levels (c ∷ cs) = stack_from (stack_after c levels) cs

-- the stack of a list of commands
abbrev pub stack_of : List Command → List Level
stack_of = stack_from (empty_level ∷ [])

-- all live assertions, the newest first
abbrev pub assertions_of : List Level → List Term
assertions_of [] = []
assertions_of (l ∷ levels) = l.assertions ++ assertions_of levels

abbrev pub declared_in : List Level → List Declared
declared_in [] = []
declared_in (l ∷ levels) = l.symbols ++ declared_in levels

-- what was live at each check, in order
abbrev pub checks_from : List Level → List Command → List (List Term)
checks_from levels [] = []
checks_from levels (CheckSat ∷ cs) = assertions_of levels ∷ checks_from levels cs
checks_from levels (c ∷ cs) = checks_from (stack_after c levels) cs

abbrev pub checks_of : List Command → List (List Term)
checks_of = checks_from (empty_level ∷ [])
