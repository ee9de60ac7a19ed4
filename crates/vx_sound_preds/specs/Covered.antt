-- Which instances are looked at, and that their bodies fit with what they give.
use Rattle.std.specs.Prelude.{◌≡◌, ℕ, true, List, [], ◌∷◌, Some, Ok, unwrap_or, option_and_then}
use Rattle.vx_frac.specs.Fractions.{none, full, at_most}
use Rattle.vx_ast.specs.Syntax.{Name, Program, Predicate, IsPredicate, Assertion, predicate_named}
use Rattle.vx_smt_meaning.specs.declared.reply.Reply.{Reply}
use Rattle.vx_meaning.specs.States.{State, Heap, Holdings, Instance, Resource, At, Folded, HaveTypes, amount, bind}
use Rattle.vx_meaning.specs.Flatten.{bare, body_entries, flat, IsGrounded}
use Rattle.vx_meaning.specs.Fits.{add, deeper}
use Rattle.vx_types.specs.Closure.{InClosure}
use Rattle.vx_sound.specs.Law.{Passes}

abbrev pub AllGood : (Heap → Instance → Type 0) → Heap → Holdings → Type 0
AllGood Good h [] = Unit {0}
AllGood Good h ((At l, a) ∷ xs) = AllGood Good h xs
AllGood Good h ((Folded j, a) ∷ xs) = Good h j × AllGood Good h xs

-- the body of each good instance fits from left to right, added to nothing, and the instances in it are good too
pub record Covered (p : Program) (Good : Heap → Instance → Type 0) : Type 0 where
  pub fits : (h : Heap) (i : Instance) (d : Predicate) (e : Assertion) → predicate_named p i.predicate ≡ Some d → d.body ≡ Some e → Good h i → IsGrounded p h i →
      (m : ℕ) × (u : State) × (add p (deeper p m) full e (bare (bind d.parameters i.arguments) h) ≡ Ok u)
  pub inside : (h : Heap) (i : Instance) (es : Holdings) → Good h i → option_and_then (λ d. body_entries p h i.arguments d) (predicate_named p i.predicate) ≡ Some es → AllGood Good h es

-- an instance that can be held: x leads to its predicate, its arguments have their types, it is grounded, and nothing of null
-- is inside
pub record IsProper (p : Program) (x : Name) (h : Heap) (i : Instance) : Type 0 where
  pub seen : InClosure p x i.predicate
  pub typed : (d : Predicate) → predicate_named p i.predicate ≡ Some d → HaveTypes d.parameters i.arguments
  pub grounded : IsGrounded p h i
  pub null : (n : ℕ) (f : Name) → at_most (amount (unwrap_or (flat p n h i) []) (At record { receiver = 0; field = f })) none ≡ true

-- of the predicates that x leads to: the walk of each over its replies passed, and its unsat replies are right
abbrev pub PredicatesPass : Program → Name → (Name → List Reply) → Type 0
PredicatesPass p x replies = (i : Name) (d : Predicate) → InClosure p x i → predicate_named p i ≡ Some d → Passes p i (IsPredicate d) (replies i)

-- Holdings of typed instances of what x leads to, where nothing is owed

abbrev pub TypedInstances : Program → Name → Holdings → Type 0
TypedInstances p x [] = Unit {0}
TypedInstances p x ((At l, a) ∷ rest) = TypedInstances p x rest
TypedInstances p x ((Folded i, a) ∷ rest) = (InClosure p x i.predicate × ((d : Predicate) × (predicate_named p i.predicate ≡ Some d) × HaveTypes d.parameters i.arguments)) × TypedInstances p x rest

pub record IsStocked (p : Program) (x : Name) (hs : Holdings) : Type 0 where
  pub instances : TypedInstances p x hs
  pub debts : (r : Resource) → at_most none (amount hs r) ≡ true
