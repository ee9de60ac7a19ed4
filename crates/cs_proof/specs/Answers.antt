-- What the answer to a certificate says of its steps. A step may be none: a `term` step that spells no term.
use Rattle.std.specs.Prelude.{◌≡◌, ℕ, List, [], ◌∷◌, ◌++◌, length, Option, Some}
use Rattle.vx_frac.specs.Fractions.{Fraction}
use Rattle.cs_certificate.specs.Certificate.{Stack, State, start, Step, Farkas, NumberedLiteral, Leads, Contains}
use Rattle.cs_certificate.specs.Nodes.{Node}
use Rattle.cs_numbers.specs.Numbering.{nodes_of}
use Rattle.cs_farkas.specs.Sums.{Leaves}
use Rattle.cs_farkas.specs.Sums as sums
use Rattle.cs_farkas.specs.Rows.{farkas_clause}
use Rattle.cs_proof.specs.Checking.{Verdict, Finished, BadStep, Over, NotEmpty, BadForm}

-- the step meets its rule, and leads to the next state
abbrev pub Meets : Stack → State → Option Step → State → Type 0
Meets stack s w u = (step : Step) × (w ≡ Some step) × Leads stack s (step ∷ []) u

-- a fraction of the step leaves 128 bits: this call is the first of its sums that does
abbrev pub IsOver : State → Option Step → sums.Over → Type 0
IsOver s w o = (ls : List NumberedLiteral) × (ms : List Fraction) × (w ≡ Some (Farkas ls ms)) × (nodes : List Node) × (nodes_of s.terms s.terms ≡ Some nodes) × (farkas_clause nodes (length nodes) ls ms ≡ Leaves o)

-- the steps hold, one after another: each meets its rule, and no fraction leaves 128 bits
pub data Holds (stack : Stack) : State → List (Option Step) → State → Type 0 where
  none : {s : State} → Holds stack s [] s
  more : {s u v : State} {w : Option Step} {ws : List (Option Step)} → Meets stack s w u → ((o : sums.Over) → IsOver s w o → ⊥) → Holds stack u ws v → Holds stack s (w ∷ ws) v

-- the steps before step n, which is w, hold and lead to this state
pub record Reaches (stack : Stack) (ws : List (Option Step)) (n : ℕ) (w : Option Step) (s : State) : Type 0 where
  pub before : List (Option Step)
  pub behind : List (Option Step)
  pub whole : ws ≡ before ++ w ∷ behind
  pub count : length before ≡ n
  pub holds : Holds stack (start stack) before s

-- all steps hold, and some clause is empty; or why not
abbrev pub Answers : Stack → List (Option Step) → Verdict → Type 0
Answers stack ws Finished = (s : State) × Holds stack (start stack) ws s × Contains s.clauses []
Answers stack ws NotEmpty = (s : State) × Holds stack (start stack) ws s × (Contains s.clauses [] → ⊥)
Answers stack ws (BadStep n) = (w : Option Step) × (s : State) × Reaches stack ws n w s × ((u : State) → Meets stack s w u → ⊥) × ((o : sums.Over) → IsOver s w o → ⊥)
Answers stack ws (Over n o) = (w : Option Step) × (s : State) × Reaches stack ws n w s × IsOver s w o
Answers stack ws (BadForm n) = ⊥
