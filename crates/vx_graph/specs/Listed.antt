-- Members in a list, and marks.
use Rattle.std.specs.Prelude.{◌≡◌, ◌<◌, ℕ, ◌+◌, Bool, false, ◌||◌, nat_eq, List, [], ◌∷◌, get_or, if◌then◌else◌, All, ⊤}
use Rattle.vx_ast.specs.declared.MemberId.{MemberId}

-- whether the member of this number is in it
abbrev pub is_in : List MemberId → ℕ → Bool
is_in [] n = false
is_in (m ∷ ms) n = nat_eq m.0 n || is_in ms n

-- whether the member of this number is marked
abbrev pub is_marked : List Bool → ℕ → Bool
is_marked marks n = get_or marks n false

-- how many marks are set
abbrev pub set_in : List Bool → ℕ
set_in [] = 0
set_in (b ∷ bs) = (if b then 1 else 0) + set_in bs

-- in file order, none twice
abbrev pub Ascends : List MemberId → Type 0
Ascends [] = ⊤
Ascends (m ∷ ms) = All (λ k. m.0 < k.0) ms × Ascends ms

-- those of the first n members that pass a test, in file order
pub record AreThose (passes : ℕ → Bool) (n : ℕ) (ms : List MemberId) : Type 0 where
  pub within : All (λ m. m.0 < n) ms
  pub order : Ascends ms
  pub members : (k : ℕ) → k < n → is_in ms k ≡ passes k
