-- Which functions mention which, where members go by their numbers in the file. A function mentions what its body and its
-- contract name, and not what its measure does; what is no function mentions nothing.
use Rattle.std.specs.Prelude.{◌≡◌, ℕ, Bool, false, ◌||◌, nat_eq, length, List, [], ◌∷◌, Option, Some, None, slice_get, ⊤}
use Rattle.vx_ast.specs.Mentions.{mentions_of}
use Rattle.vx_ast.specs.Syntax.{Name, Program, Member, Kind, function_in}
use Rattle.vx_graph.specs.Listed.{is_in}
use Rattle.vx_graph.specs.Reach.{Rows, leads}
use Rattle.vx_resolved.specs.Numbers.{number_named}

abbrev pub is_number : Option ℕ → ℕ → Bool
is_number None b = false
is_number (Some n) b = nat_eq n b

-- whether one of these names is that of member b
abbrev pub are_of : Program → ℕ → List Name → Bool
are_of p b [] = false
are_of p b (x ∷ xs) = is_number (number_named 0 p x) b || are_of p b xs

abbrev pub names_by_kind : Kind → List Name
names_by_kind k = mentions_of (function_in (Some k))

abbrev pub names_by_member : Option Member → List Name
names_by_member None = []
names_by_member (Some m) = names_by_kind m.kind

-- whether member a mentions member b
abbrev pub mentions : Program → ℕ → ℕ → Bool
mentions p a b = are_of p b (names_by_member (slice_get p a))

-- each row has those that its member mentions
abbrev pub Tells : Program → Rows → List Member → Type 0
Tells p [] [] = ⊤
Tells p (row ∷ rows) (m ∷ ms) = ((b : ℕ) → is_in row.items b ≡ are_of p b (names_by_kind m.kind)) × Tells p rows ms
Tells p _ _ = ⊥

-- for each member, in file order, those that it mentions
pub record AreMentions (p : Program) (rows : Rows) : Type 0 where
  pub members : length rows ≡ length p
  pub edges : (a b : ℕ) → leads rows a b ≡ mentions p a b
