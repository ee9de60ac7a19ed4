-- A depth-first search, and what is left of it to do.
use Rattle.std.specs.Prelude.{◌≡◌, ◌<◌, ℕ, ◌+◌, ◌-◌, ◌*◌, Bool, true, false, ◌||◌, nat_eq, List, [], ◌∷◌, length, map, All}
use Rattle.vx_ast.specs.declared.MemberId.{MemberId}
use Rattle.vx_graph.specs.declared.order.Step.{Step}
use Rattle.vx_graph.specs.declared.order.Step.TheVariants.{Enter, Leave}
use Rattle.vx_graph.specs.Listed.{is_in, is_marked, set_in}
use Rattle.vx_graph.specs.Reach.{Rows}

-- the member that a step is about
abbrev pub member_of : Step → MemberId
member_of (Enter m) = m
member_of (Leave m) = m

-- whether the member is still to be entered
abbrev pub enters : List Step → ℕ → Bool
enters [] n = false
enters (Enter m ∷ steps) n = nat_eq m.0 n || enters steps n
enters (Leave m ∷ steps) n = enters steps n

-- whether the member is entered, and still to be left
abbrev pub leaves : List Step → ℕ → Bool
leaves [] n = false
leaves (Enter m ∷ steps) n = leaves steps n
leaves (Leave m ∷ steps) n = nat_eq m.0 n || leaves steps n

-- the steps that enter these members
abbrev pub entries : List MemberId → List Step
entries ms = map (λ m. Enter m) ms

-- the member has been left, or will be
pub data Covered (stack : List Step) (seen : List Bool) (ends : List MemberId) (n : ℕ) : Type 0 where
  ended : is_in ends n ≡ true → Covered stack seen ends n
  entered : leaves stack n ≡ true → Covered stack seen ends n
  unseen : is_marked seen n ≡ false → enters stack n ≡ true → Covered stack seen ends n

-- a search that leaves out none of so many members
pub record Walks (members : ℕ) (stack : List Step) (seen : List Bool) (ends : List MemberId) : Type 0 where
  pub each : length seen ≡ members
  pub steps : All (λ s. (member_of s).0 < members) stack
  pub within : All (λ m. m.0 < members) ends
  pub covered : (n : ℕ) → n < members → Covered stack seen ends n

-- how many edges there are
abbrev pub edges_in : Rows → ℕ
edges_in [] = 0
edges_in (row ∷ rows) = length row.items + edges_in rows

-- a number that falls with each step
abbrev pub left_to_do : Rows → List Step → List Bool → ℕ
left_to_do rows stack seen = (length seen - set_in seen) * (edges_in rows + 1) + length stack
