-- A row of the members that are mentioned, one name more.
use Rattle.std.proofs.Common.{◌≡◌, ◌∙◌, sym, ap, refl, ℕ, Bool, true, false, ◌||◌, nat_eq, List, [], ◌∷◌, ◌++◌, Some, None, append-nil}
use Rattle.vx_ast.specs.declared.MemberId.{MemberId}
use Rattle.vx_ast.specs.Syntax.{Name, Program}
use Rattle.vx_graph.specs.Listed.{is_in}
use Rattle.vx_graph.proofs.Lists.{push_is_in}
use Rattle.vx_resolved.specs.Numbers.{number_named}
use Rattle.vx_settling.specs.Found.{found}
use Rattle.vx_settling.specs.Mentioned.{is_number, are_of}

or_assoc : (a b c : Bool) → ((a || b) || c) ≡ (a || (b || c))
or_assoc true b c = refl
or_assoc false b c = refl

or_false : (a : Bool) → (a || false) ≡ a
or_false true = refl
or_false false = refl

-- a name of no member
pub found_without : (p : Program) (row : List MemberId) (x : Name) → number_named 0 p x ≡ None → (rest : List Name) → found p row rest ≡ found p row (x ∷ rest)
unfolding found
found_without p row x none rest = λ i b. is_in row b || (is_number (sym none i) b || are_of p b rest)

-- a name of a member
pub found_with : (p : Program) (row : List MemberId) (m : MemberId) (x : Name) → number_named 0 p x ≡ Some m.0 → (rest : List Name) → found p (row ++ m ∷ []) rest ≡ found p row (x ∷ rest)
unfolding found
found_with p row m x named rest = λ i b. each b i
  where
    each : (b : ℕ) → (is_in (row ++ m ∷ []) b || are_of p b rest) ≡ (is_in row b || (is_number (number_named 0 p x) b || are_of p b rest))
    each b =
        ap (λ t. t || are_of p b rest) (push_is_in row m b) ∙ or_assoc (is_in row b) (nat_eq m.0 b) (are_of p b rest)
        ∙ ap (λ o. is_in row b || (is_number o b || are_of p b rest)) (sym named)

-- all names of a member are there
pub all_found : (p : Program) (row : List MemberId) (names : List Name) → found p row [] ≡ found p [] (names ++ []) → (b : ℕ) → is_in row b ≡ are_of p b names
unfolding found
all_found p row names e b = sym (or_false (is_in row b)) ∙ ap (λ (f : ℕ → Bool). f b) e ∙ ap (are_of p b) (append-nil names)
