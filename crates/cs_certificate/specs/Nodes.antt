-- Terms by their numbers: each is a head over the numbers of its parts.
use Rattle.std.specs.Prelude.{◌≡◌, ℕ, suc, Bool, true, false, ◌&&◌, nat_lt, if◌then◌else◌, List, [], ◌∷◌, Option, Some, None}
use Rattle.std.specs.Option.{option_map}
use Rattle.std.specs.Ordering.{int_eq}
use Rattle.vx_terms.specs.Sorts.{Sort, Equal, same_text, same_symbol, same_sort, same_operator}
use Rattle.vx_terms.specs.Terms.{Term, same_bool, identical}
use Rattle.cs_certificate.specs.Terms.{Head, TruthHead, NumberHead, PartHead, ConstantHead, ApplyHead, BinaryHead, NotHead, IteHead, AllHead, SomeHead, head, parts, HasSort}
use Rattle.cs_certificate.specs.Certificate.{At, AllAt}

pub record Node : Type 0 where
  pub head : Head
  pub parts : List ℕ
  pub sort : Sort

-- the node stands for the term
pub record StandsFor (terms : List Term) (n : Node) (t : Term) : Type 0 where
  pub same_head : head t ≡ n.head
  pub same_parts : AllAt terms n.parts (parts t)
  pub sorted : HasSort t n.sort

-- each node stands for the term of its number, and no term has two
pub record Represents (nodes : List Node) (terms : List Term) : Type 0 where
  pub each : (k : ℕ) (n : Node) → At nodes k n → (t : Term) × At terms k t × StandsFor terms n t
  pub every : (k : ℕ) (t : Term) → At terms k t → (n : Node) × At nodes k n
  pub distinct : (j k : ℕ) (t : Term) → At terms j t → At terms k t → j ≡ k

abbrev pub same_head : Head → Head → Bool
same_head (TruthHead a) (TruthHead b) = same_bool a b
same_head (NumberHead m) (NumberHead n) = int_eq m n
same_head (PartHead a) (PartHead b) = identical a b
same_head (ConstantHead f a) (ConstantHead g b) = same_symbol f g && same_sort a b
same_head (ApplyHead f a) (ApplyHead g b) = same_symbol f g && same_sort a b
same_head (BinaryHead o) (BinaryHead p) = same_operator o p
same_head NotHead NotHead = true
same_head IteHead IteHead = true
same_head AllHead AllHead = true
same_head SomeHead SomeHead = true
same_head _ _ = false

abbrev pub is_node : Head → List ℕ → Node → Bool
is_node h ps n = same_head h n.head && same_text ps n.parts

-- the number of the term with this head over these parts
abbrev pub number_of : List Node → Head → List ℕ → Option ℕ
number_of [] h ps = None
number_of (n ∷ ns) h ps = if is_node h ps n then Some 0 else option_map suc (number_of ns h ps)

abbrev pub first_of : Option ℕ → Option ℕ → Option ℕ
first_of None o = o
first_of (Some m) None = Some m
first_of (Some m) (Some n) = Some (if nat_lt n m then n else m)

-- of the two orders of an equality the one that is numbered first
abbrev pub equality : List Node → ℕ → ℕ → Option ℕ
equality nodes a b = first_of (number_of nodes (BinaryHead Equal) (a ∷ b ∷ [])) (number_of nodes (BinaryHead Equal) (b ∷ a ∷ []))
