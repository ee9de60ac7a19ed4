-- Tables of the numbers of members: by name, among the functions, and by groups.
use Rattle.std.specs.Prelude.{◌≡◌, ℕ, suc, ◌+◌, Bool, List, [], ◌∷◌, Option, Some, None, if◌then◌else◌, length, string_bytes}
use Rattle.std.specs.HashMap.{HashMap, get}
use Rattle.std.specs.String.{string_eq}
use Rattle.std.specs.declared.alloc.Global.{Global}
use Rattle.std.specs.declared.rc.Rc.{Rc}
use Rattle.std.specs.declared.string.String.{String}
use Rattle.vx_ast.specs.declared.MemberId.{MemberId}
use Rattle.vx_ast.specs.Syntax.{Name, same_name, Program}
use Rattle.vx_graph.specs.Groups.{are_together}
use Rattle.vx_rules.specs.Groups.{is_function, is_in_group}

abbrev pub Key : Type 0
Key = Rc (String Global) Global

abbrev pub same_key : Key → Key → Bool
same_key x y = string_eq x.value y.value

-- the number of the first member of a name, where numbers go from n on
abbrev pub number_named : ℕ → Program → Name → Option ℕ
number_named n [] x = None
number_named n (m ∷ ms) x = if same_name x m.name then Some n else number_named (suc n) ms x

-- it finds what a walk over the members finds
abbrev pub AreNumbers : {S : Type 0} → HashMap Key ℕ S → ℕ → Program → Type 0
AreNumbers numbers n p = (x : Key) → get same_key numbers x ≡ number_named n p (string_bytes x.value)

-- for each member how many functions stand before it, and one for all of them at the end; so many stand before these members
abbrev pub ranks_from : ℕ → Program → List ℕ
ranks_from before [] = before ∷ []
ranks_from before (m ∷ ms) = before ∷ ranks_from ((if is_function m.kind then 1 else 0) + before) ms

abbrev pub AreRanks : List ℕ → Program → Type 0
AreRanks ranks p = ranks ≡ ranks_from 0 p

-- the roots tell which functions are of one group
pub record AreGroups (roots : List (Option MemberId)) (p : Program) : Type 0 where
  pub count : length roots ≡ length p
  pub together : (f g : Name) (a b : ℕ) → number_named 0 p f ≡ Some a → number_named 0 p g ≡ Some b → are_together roots a b ≡ is_in_group p f g
