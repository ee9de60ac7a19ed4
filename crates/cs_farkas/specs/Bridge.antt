-- The outcome of a `farkas` step by number, and its rule by terms.
use Rattle.std.specs.Prelude.{◌≡◌, ℕ, ◌≤◌, ◌⊎◌, List, length}
use Rattle.vx_frac.specs.Fractions.{Fraction}
use Rattle.cs_certificate.specs.Certificate.{Clause, NumberedLiteral, Farkas, Stack, State, Derives}
use Rattle.cs_certificate.specs.Nodes.{Node, Represents}
use Rattle.cs_certificate.specs.Steps.{Names}
use Rattle.cs_farkas.specs.Sums.{Over, Outcome, Done, Leaves}
use Rattle.cs_farkas.specs.Rows.{farkas_clause}

-- what is done meets the rule; what meets the rule is done, unless a fraction leaves 128 bits
pub record Decides (s : State) (stack : Stack) (ls : List NumberedLiteral) (ms : List Fraction) (outcome : Outcome (List NumberedLiteral)) : Type 0 where
  pub sound : (ns : List NumberedLiteral) → outcome ≡ Done ns → (c : Clause) × Names s.terms ns c × Derives stack s (Farkas ls ms) c
  pub complete : (c : Clause) → Derives stack s (Farkas ls ms) c → (Names s.terms ls c × (outcome ≡ Done ls)) ⊎ ((o : Over) × (outcome ≡ Leaves o))

-- over columns for all numbered terms
abbrev pub FarkasByNumber : Type 0
FarkasByNumber =
    (nodes : List Node) (s : State) (stack : Stack) (width : ℕ) → Represents nodes s.terms → length nodes ≤ width →
    (ls : List NumberedLiteral) (ms : List Fraction) → Decides s stack ls ms (farkas_clause nodes width ls ms)

-- columns beyond those of the numbered terms change nothing
abbrev pub AnyWidth : Type 0
AnyWidth = (nodes : List Node) (width : ℕ) → length nodes ≤ width → (ls : List NumberedLiteral) (ms : List Fraction) → farkas_clause nodes width ls ms ≡ farkas_clause nodes (length nodes) ls ms
