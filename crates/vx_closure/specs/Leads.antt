-- Which members of a program lead to which, where members go by their numbers in the file: a member leads to itself, to what it
-- mentions, to what that mentions, and so on. Source: the Silicon thesis, on which members the verification of one rests.
use Rattle.std.specs.Prelude.{◌≡◌, ℕ, Some, slice_get}
use Rattle.vx_ast.specs.Syntax.{Program, Member}
use Rattle.vx_resolved.specs.Numbers.{number_named}
use Rattle.vx_types.specs.Closure.{InClosure}

abbrev pub LeadsTo : Program → ℕ → ℕ → Type 0
LeadsTo p a b = (x y : Member) × (slice_get p a ≡ Some x) × (slice_get p b ≡ Some y) × InClosure p x.name y.name

-- no two members have one name
abbrev pub HasDistinctNames : Program → Type 0
HasDistinctNames p = (n : ℕ) (m : Member) → slice_get p n ≡ Some m → number_named 0 p m.name ≡ Some n
