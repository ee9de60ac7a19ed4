-- What look-up by numbers says of terms.
use Rattle.std.specs.Prelude.{◌≡◌, ℕ, List, ◌↔◌, Some}
use Rattle.vx_terms.specs.Terms.{Term}
use Rattle.cs_certificate.specs.Terms.{Head, head, parts}
use Rattle.cs_certificate.specs.Certificate.{At, AllAt, State, Equates}
use Rattle.cs_certificate.specs.Nodes.{Node, Represents, number_of, equality}

-- a number is found exactly where it names a term of this head over the terms of these numbers
abbrev pub LooksUp : Type 0
LooksUp = (nodes : List Node) (terms : List Term) → Represents nodes terms → (h : Head) (ps : List ℕ) (k : ℕ)
    → (number_of nodes h ps ≡ Some k) ↔ ((t : Term) × At terms k t × (head t ≡ h) × AllAt terms ps (parts t))

-- a number is found exactly where it names the equality, of its two orders the one that is numbered first
abbrev pub TellsEqualities : Type 0
TellsEqualities = (nodes : List Node) (s : State) → Represents nodes s.terms → (a b : ℕ) (t u : Term) → At s.terms a t → At s.terms b u → (k : ℕ)
    → (equality nodes a b ≡ Some k) ↔ ((e : Term) × At s.terms k e × Equates s t u e)
