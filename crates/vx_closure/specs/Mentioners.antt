-- Which members mention which, where members go by their numbers in the file. What a call mentions is what the contract of
-- its method does.
use Rattle.std.specs.Prelude.{◌≡◌, ℕ, Bool, false, ◌||◌, nat_eq, length, List, [], ◌∷◌, Option, Some, None, slice_get}
use Rattle.vx_ast.specs.Syntax.{Name, Program, Member}
use Rattle.vx_resolved.specs.Numbers.{number_named}
use Rattle.vx_graph.specs.Reach.{Rows, leads}
use Rattle.vx_types.specs.Closure.{mentioned_by_kind}

abbrev pub is_number : Option ℕ → ℕ → Bool
is_number None b = false
is_number (Some n) b = nat_eq n b

-- whether one of these names is that of member b
abbrev pub are_of : Program → ℕ → List Name → Bool
are_of p b [] = false
are_of p b (x ∷ xs) = is_number (number_named 0 p x) b || are_of p b xs

abbrev pub names_by_member : Program → Option Member → List Name
names_by_member p None = []
names_by_member p (Some m) = mentioned_by_kind p (Some m.kind)

-- whether member a mentions member b
abbrev pub mentions : Program → ℕ → ℕ → Bool
mentions p a b = are_of p b (names_by_member p (slice_get p a))

-- for each member, in file order, those that mention it
pub record AreMentioners (p : Program) (rows : Rows) : Type 0 where
  pub members : length rows ≡ length p
  pub edges : (a b : ℕ) → leads rows b a ≡ mentions p a b
