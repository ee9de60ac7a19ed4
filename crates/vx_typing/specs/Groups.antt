-- Which functions and predicates lead back to themselves. Members go by their numbers in file order, from 0.
use Rattle.std.specs.Prelude.{◌≡◌, ℕ, zero, suc, Bool, true, false, ◌&&◌, ◌||◌, nat_eq, length, List, [], ◌∷◌, Option, Some, None, if◌then◌else◌}
use Rattle.vx_ast.specs.Syntax.{same_name}
use Rattle.vx_ast.specs.Written.{Name, Kind, Member, Program}
use Rattle.vx_typing.specs.Uses.{Use, uses_by}

abbrev pub kind_at : List Member → ℕ → Option Kind
kind_at [] a = None
kind_at (m ∷ ms) zero = Some m.kind
kind_at (m ∷ ms) (suc a) = kind_at ms a

-- the number of the first member of a name, where the first of these has number n
abbrev pub number_in : ℕ → List Member → Name → Option ℕ
number_in n [] x = None
number_in n (m ∷ ms) x = if same_name x m.name.name then Some n else number_in (suc n) ms x

abbrev pub number_of : Program → Name → Option ℕ
number_of p x = number_in 0 p x

abbrev pub is_number : Option ℕ → ℕ → Bool
is_number None b = false
is_number (Some n) b = nat_eq n b

-- whether one of these is of member b
abbrev pub are_of : Program → ℕ → List Use → Bool
are_of p b [] = false
are_of p b (u ∷ us) = is_number (number_of p u.name) b || are_of p b us

abbrev pub uses_by_kind : Option Kind → List Use
uses_by_kind None = []
uses_by_kind (Some k) = uses_by k []

-- whether member a mentions member b
abbrev pub mentions : Program → ℕ → ℕ → Bool
mentions p a b = are_of p b (uses_by_kind (kind_at p a))

-- a mentions b, or what a mentions does, and so on
pub data Reaches (p : Program) : ℕ → ℕ → Type 0 where
  at_once : {a b : ℕ} → mentions p a b ≡ true → Reaches p a b
  further : {a b c : ℕ} → mentions p a b ≡ true → Reaches p b c → Reaches p a c

-- b is in a's group
abbrev pub InGroup : Program → ℕ → ℕ → Type 0
InGroup p a b = Reaches p a b × Reaches p b a

-- the member of this name is in a's group
abbrev pub IsOwn : Program → ℕ → Name → Type 0
IsOwn p a x = (b : ℕ) × (number_of p x ≡ Some b) × InGroup p a b

-- whether a reaches b by way of the first n members alone
abbrev pub reaches_by : Program → ℕ → ℕ → ℕ → Bool
reaches_by p zero a b = mentions p a b
reaches_by p (suc n) a b = reaches_by p n a b || (reaches_by p n a n && reaches_by p n n b)

abbrev pub in_group : Program → ℕ → ℕ → Bool
in_group p a b = reaches_by p (length p) a b && reaches_by p (length p) b a

abbrev pub is_own_number : Program → ℕ → Option ℕ → Bool
is_own_number p a None = false
is_own_number p a (Some b) = in_group p a b

abbrev pub is_own : Program → ℕ → Name → Bool
is_own p a x = is_own_number p a (number_of p x)
