-- The truths and the classes of terms by number.
use Rattle.std.specs.Prelude.{◌≡◌, ◌⊎◌, ℕ, ◌<◌, ◌≤◌, Bool, true, false, List, length, Option, Some, None, slice_get, get_or}
use Rattle.cs_certificate.specs.Certificate.{At}
use Rattle.cs_certificate.specs.Nodes.{Node, equality}
use Rattle.cs_certificate.specs.declared.literal.Clause.{Clause}
use Rattle.cs_search.specs.Extended.{AreKnown}
use Rattle.cs_search.specs.Search.{AreSatisfied}
use Rattle.cs_search.specs.declared.Value.{Value}
use Rattle.cs_search.specs.declared.Value.TheVariants.{Unset, Positive, Negative}

-- whether the atom is true
abbrev pub is_positive : Option Value → Bool
is_positive (Some (Positive p)) = true
is_positive (Some (Negative p)) = false
is_positive (Some Unset) = false
is_positive None = false

abbrev pub is_true : List Value → ℕ → Bool
is_true values a = is_positive (slice_get values a)

-- the truth at a number, or false
abbrev pub truth_at : List Bool → Option ℕ → Bool
truth_at truths None = false
truth_at truths (Some n) = get_or truths n false

-- whether the equality of the terms of two numbers is true
abbrev pub is_equated : List Node → List Bool → ℕ → ℕ → Bool
is_equated nodes truths m n = truth_at truths (equality nodes m n)

-- the least number whose term is the term of this number, or equal to it
pub record IsClass (nodes : List Node) (truths : List Bool) (n class : ℕ) : Type 0 where
  pub within : class ≤ n
  pub same : (class ≡ n) ⊎ (is_equated nodes truths class n ≡ true)
  pub least : (m : ℕ) → m < class → is_equated nodes truths m n ≡ false

-- of the first terms, so many
pub record AreClasses (nodes : List Node) (truths : List Bool) (count : ℕ) (classes : List ℕ) : Type 0 where
  pub number : length classes ≡ count
  pub each : (n class : ℕ) → At classes n class → IsClass nodes truths n class

-- the values satisfy all clauses, which are of these atoms
pub record AreSolving (atoms : List ℕ) (clauses : List Clause) (values : List Value) : Type 0 where
  pub known : AreKnown clauses (length atoms)
  pub satisfied : AreSatisfied clauses values
