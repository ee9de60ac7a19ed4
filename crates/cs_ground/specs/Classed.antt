-- Which terms an assignment makes equal, and its classes.
use Rattle.std.specs.Prelude.{◌≡◌, ◌↔◌, true}
use Rattle.vx_terms.specs.Sorts.{BoolSort}
use Rattle.vx_terms.specs.Terms.{Term}
use Rattle.cs_certificate.specs.Terms.{numbered, HasSort}
use Rattle.cs_certificate.specs.Certificate.{Stack, State, Contains, Equates}
use Rattle.cs_classes.specs.Elements.{Assignment}

-- one term, or two whose equality is true
pub data AreSame (s : State) (v : Assignment) : Term → Term → Type 0 where
  identical : (x : Term) → AreSame s v x x
  equated : (x y e : Term) → Equates s x y e → v.truth e ≡ true → AreSame s v x y

-- terms that aren't Bool are of one class exactly where they are the same
abbrev pub AreClassed : Stack → State → Assignment → Type 0
AreClassed stack s v =
    (x y : Term) → Contains (numbered stack.assertions) x → Contains (numbered stack.assertions) y → ¬ (HasSort x BoolSort) → ¬ (HasSort y BoolSort) →
    (v.class x ≡ v.class y) ↔ AreSame s v x y
