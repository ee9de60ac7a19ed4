-- Numbers in lists.
use Rattle.std.proofs.Common.{◌≡◌, ◌∙◌, refl, ap, ℕ, Bool, true, false, ◌||◌, nat_eq, List, [], ◌∷◌, ◌++◌}
use Rattle.vx_ast.specs.declared.MemberId.{MemberId}
use Rattle.vx_graph.specs.Listed.{is_in}

or_assoc : (a b c : Bool) → (a || (b || c)) ≡ ((a || b) || c)
or_assoc true b c = refl
or_assoc false b c = refl

pub or_none : (a : Bool) → (a || false) ≡ a
or_none true = refl
or_none false = refl

pub is_in_both : (ms ks : List MemberId) (b : ℕ) → is_in (ms ++ ks) b ≡ (is_in ms b || is_in ks b)
is_in_both [] ks b = refl
is_in_both (m ∷ ms) ks b = ap (λ r. nat_eq m.0 b || r) (is_in_both ms ks b) ∙ or_assoc (nat_eq m.0 b) (is_in ms b) (is_in ks b)

pub is_in_more : (ms : List MemberId) (m : MemberId) (b : ℕ) → is_in (ms ++ m ∷ []) b ≡ (is_in ms b || nat_eq m.0 b)
is_in_more ms m b = is_in_both ms (m ∷ []) b ∙ ap (λ r. is_in ms b || r) (or_none (nat_eq m.0 b))
