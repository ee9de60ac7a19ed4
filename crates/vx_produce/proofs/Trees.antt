-- What is put, by equal parts, and the rule Fork where the path says which side it is.
use Rattle.std.proofs.Common.{◌≡◌, Bool, true, List, Option, Some, None, refl, ap, ◌∙◌}
use Rattle.vx_ast.specs.declared.Place.{Place}
use Rattle.vx_ast.specs.Syntax.{Name, Program, Assertion, Predicate, predicate_named}
use Rattle.vx_terms.specs.Terms.{Term}
use Rattle.vx_rules.specs.States.{State, bind, is_known}
use Rattle.vx_rules.specs.Trees.{Tree, UnfoldCode, Step}
use Rattle.vx_rules.specs.Rules.{Going, back, entered, fork, never}
use Rattle.vx_rules.specs.Members.{rules}
use Rattle.vx_stack.specs.Stack.{exchanged, with_held, with_location}

pub fork_left : (c : Term) (s : State) (left right : Going) → is_known c s ≡ true → fork c s left right ≡ Step (left s)
fork_left c s left right e = rw e refl

pub puts : (p : Program) (f g : Name) (r q a b : Term) (snapshot : Option Term) (inner : Bool) (on : Going) → f ≡ g → r ≡ q → a ≡ b →
    ◌≡◌ {A = Going} (λ s. Step (on (with_location p f r a snapshot inner s))) (λ s. Step (on (with_location p g q b snapshot inner s)))
puts p f g r q a b snapshot inner on e h i =
    ap {B = Going} (λ (y : Name) s. Step (on (with_location p y r a snapshot inner s))) e
    ∙ ap {B = Going} (λ (y : Term) s. Step (on (with_location p g y a snapshot inner s))) h
    ∙ ap {B = Going} (λ (y : Term) s. Step (on (with_location p g q y snapshot inner s))) i

pub holds : (p : Program) (f g : Name) (ts us : List Term) (a b : Term) (snapshot : Option Term) (inner : Bool) (on : Going) → f ≡ g → ts ≡ us → a ≡ b →
    ◌≡◌ {A = Going} (λ s. Step (on (with_held p f ts a snapshot inner s))) (λ s. Step (on (with_held p g us b snapshot inner s)))
holds p f g ts us a b snapshot inner on e h i =
    ap {B = Going} (λ (y : Name) s. Step (on (with_held p y ts a snapshot inner s))) e
    ∙ ap {B = Going} (λ (y : List Term) s. Step (on (with_held p g y a snapshot inner s))) h
    ∙ ap {B = Going} (λ (y : Term) s. Step (on (with_held p g us y snapshot inner s))) i

-- an exchange by what its name stands for
abbrev exchange_by : Program → Place → List Term → (a t : Term) → Bool → State → Going → Predicate → Option Assertion → Tree
exchange_by p at ts a t inside s on d b =
    elim b as (λ x. Tree) [
      | None ↦ never at UnfoldCode s
      | Some body ↦ (rules p).produce body a (Some t) (record (entered (bind d.parameters ts) at s) { inner = inside }) (λ w. on (back s w))
    ]

abbrev exchange_of : Program → Place → List Term → (a t : Term) → Bool → State → Going → Option Predicate → Tree
exchange_of p at ts a t inside s on o =
    elim o as (λ x. Tree) [
      | None ↦ never at UnfoldCode s
      | Some d ↦ exchange_by p at ts a t inside s on d d.body
    ]

pub exchanged_by : (p : Program) (at : Place) (i : Name) (ts : List Term) (a t : Term) (inside : Bool) (s : State) (on : Going) (d : Predicate) (body : Assertion) → predicate_named p i ≡ Some d → d.body ≡ Some body →
    exchanged p at i ts a t inside s on ≡ (rules p).produce body a (Some t) (record (entered (bind d.parameters ts) at s) { inner = inside }) (λ w. on (back s w))
exchanged_by p at i ts a t inside s on d body e f = ap (exchange_of p at ts a t inside s on) e ∙ ap (exchange_by p at ts a t inside s on d) f
