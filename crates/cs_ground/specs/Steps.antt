-- How a derivation grows, first by terms and then by clauses.
use Rattle.std.specs.Prelude.{◌≡◌, ◌⊎◌, ◌<◌, ℕ, Bool, true, List, [], ◌∷◌, ◌++◌, Option, Some, None}
use Rattle.vx_terms.specs.Sorts.{BoolSort, Equal, same_sort}
use Rattle.vx_terms.specs.Terms.{Term, Truth, Binary, Ite, sort_of}
use Rattle.vx_terms.specs.Interpretations.{Each}
use Rattle.cs_certificate.specs.Terms.{equal, HasSort}
use Rattle.cs_certificate.specs.Certificate.{Clause, Step, Input, Define, Pick, Chain, Congruence, Stack, State, At, Contains, IsEquality, Derives, AreLive}
use Rattle.cs_writable.specs.Writable.{IsWritableTerm}
use Rattle.cs_derivation.specs.Reached.{Reached, Stands, state_of}
use Rattle.cs_ground.specs.Ground.{AreOfOneSort, AreAtoms}
use Rattle.cs_ground.specs.declared.aliases.Alias.{Alias}

-- ---- terms
-- whether two well-sorted terms are of one sort
abbrev pub have_one_sort : Term → Term → Bool
have_one_sort x y = same_sort (sort_of x) (sort_of y)

-- the list begins with these
abbrev pub Begins : List Term → List Term → Type 0
Begins front all = (rest : List Term) × (all ≡ front ++ rest)

-- all of these terms are among the terms
abbrev pub AllIn : List Term → List Term → Type 0
AllIn terms ts = (t : Term) → Contains ts t → Contains terms t

-- an equality of x and y is among the terms, in either order
abbrev pub HasEquality : List Term → Term → Term → Type 0
HasEquality terms x y = (e : Term) × IsEquality x y e × Contains terms e

-- only terms were named so far, which are over the live symbols, and writable
pub record IsNaming (stack : Stack) (r : Reached) : Type 0 where
  pub stands : Stands stack r
  pub none : (state_of r).clauses ≡ []
  pub live : (t : Term) → Contains r.terms t → AreLive stack t
  pub writable : (t : Term) → Contains r.terms t → IsWritableTerm t

-- so it is with further terms
pub record NamesMore (stack : Stack) (before after : Reached) : Type 0 where
  pub naming : IsNaming stack after
  pub begins : Begins before.terms after.terms

-- among them is an equality of x with each of some others of its sort
pub record NamesWith (stack : Stack) (before after : Reached) (x : Term) (others : Term → Type 0) : Type 0 where
  pub more : NamesMore stack before after
  pub equalities : (y : Term) → others y → AreOfOneSort x y → HasEquality after.terms x y

-- and an equality of each two of some terms in order that are of one sort
pub record NamesPairs (stack : Stack) (before after : Reached) (terms : List Term) : Type 0 where
  pub more : NamesMore stack before after
  pub equalities : (m n : ℕ) (x y : Term) → m < n → At terms m x → At terms n y → AreOfOneSort x y → HasEquality after.terms x y

-- ---- the two orders of an equality
-- a choice that is t, whatever u is
abbrev pub choice_of : Term → Term → Term
choice_of t u = Ite (Truth true) t u

-- a choice that is t, and that isn't among the terms
pub record IsFresh (terms : List Term) (t c : Term) : Type 0 where
  pub other : Term
  pub is : c ≡ choice_of t other
  pub sorts : sort_of other ≡ sort_of t
  pub known : Contains terms other
  pub fresh : ¬ (Contains terms c)

-- `b = a` is numbered behind `a = b`, and its sides aren't Bool
pub record IsBehind (terms : List Term) (b a : Term) : Type 0 where
  pub before : ℕ
  pub number : ℕ
  pub less : before < number
  pub first : At terms before (equal a b)
  pub here : At terms number (equal b a)
  pub sorted : ¬ (HasSort b BoolSort)

-- numbers of `b = a`, of its sides, of a choice that is b, and of the equality of that choice with a, which is the first of its orders
pub record IsAlias (terms : List Term) (b a : Term) (x : Alias) : Type 0 where
  pub other : Term
  pub whole : At terms x.whole (equal b a)
  pub left : At terms x.left b
  pub right : At terms x.right a
  pub choice : At terms x.choice (choice_of b other)
  pub equality : At terms x.equality (equal (choice_of b other) a)
  pub first : (m : ℕ) (f : Term) → m < x.equality → At terms m f → IsEquality (choice_of b other) a f → ⊥
  -- an equality of the choice with b is numbered, and one of `b = a` with that equality
  pub same : HasEquality terms (choice_of b other) b
  pub joined : HasEquality terms (equal b a) (equal (choice_of b other) a)

-- the sides of an equality
abbrev pub sides : Term → Option (Term × Term)
sides (Binary Equal a b) = Some (a, b)
sides _ = None

-- the names of an alias
pub record NamesAlias (stack : Stack) (before after : Reached) (b a : Term) (x : Alias) : Type 0 where
  pub more : NamesMore stack before after
  pub alias : IsAlias after.terms b a x

-- an alias more, where the term is an equality that is numbered behind its other order
pub record NamesTurned (stack : Stack) (before after : Reached) (old new : List Alias) (t : Term) : Type 0 where
  pub more : NamesMore stack before after
  pub kept : (x : Alias) → Contains old x → Contains new x
  pub alias : (b a : Term) → t ≡ equal b a → IsBehind before.terms b a → (x : Alias) × Contains new x × IsAlias after.terms b a x

-- an alias of each of some terms that needs one
pub record NamesAliases (stack : Stack) (before after : Reached) (aliases : List Alias) (terms : Term → Type 0) : Type 0 where
  pub more : NamesMore stack before after
  pub every : (b a : Term) → terms (equal b a) → IsBehind before.terms b a → (x : Alias) × Contains aliases x × IsAlias after.terms b a x

-- an equality of each two terms of one sort, of those before, and the aliases
pub record NamesAll (stack : Stack) (before after : Reached) (aliases : List Alias) : Type 0 where
  pub more : NamesMore stack before after
  pub equalities : (x y : Term) → Contains before.terms x → Contains before.terms y → ¬ (x ≡ y) → AreOfOneSort x y → HasEquality after.terms x y
  pub every : (b a : Term) → IsBehind before.terms b a → (x : Alias) × Contains aliases x × IsAlias after.terms b a x

-- ---- clauses
-- a state with no clause
abbrev pub bare : List Term → State
bare terms = record { terms = terms; clauses = [] }

-- all assertions are Bool, and all clauses so far are of numbered Bool terms
pub record IsClausal (stack : Stack) (r : Reached) : Type 0 where
  pub stands : Stands stack r
  pub sorted : Each (λ t. HasSort t BoolSort) stack.assertions
  pub atoms : Each (AreAtoms r.terms) (state_of r).clauses

-- with the clauses that some steps derive
pub record Collects (stack : Stack) (steps : Step → Type 0) (before after : Reached) : Type 0 where
  pub clausal : IsClausal stack after
  pub terms : after.terms ≡ before.terms
  pub kept : (c : Clause) → Contains (state_of before).clauses c → Contains (state_of after).clauses c
  pub every : (step : Step) (c : Clause) → steps step → Derives stack (bare before.terms) step c → Contains (state_of after).clauses c

-- the steps of each of the first numbers
abbrev pub OfFirst : (ℕ → Step → Type 0) → ℕ → Step → Type 0
OfFirst of count step = (n : ℕ) × (n < count) × of n step

-- the rows of a term
abbrev pub IsRowOf : ℕ → Step → Type 0
IsRowOf t step = (k : ℕ) × (step ≡ Define t k)

-- its two picks
abbrev pub IsPickOf : ℕ → Step → Type 0
IsPickOf t step = (step ≡ Pick t 0) ⊎ (step ≡ Pick t 1)

-- both
abbrev pub IsOf : ℕ → Step → Type 0
IsOf t step = IsRowOf t step ⊎ IsPickOf t step

-- the input of an assertion
abbrev pub IsInputOf : ℕ → Step → Type 0
IsInputOf n step = step ≡ Input n

-- the chain of three terms
abbrev pub IsChainOf : ℕ → ℕ → ℕ → Step → Type 0
IsChainOf i j k step = step ≡ Chain (i ∷ j ∷ k ∷ [])

-- those of two terms with each of the first
abbrev pub IsChainOfTwo : ℕ → ℕ → ℕ → Step → Type 0
IsChainOfTwo count i j step = OfFirst (IsChainOf i j) count step

-- those of one term with each two of the first
abbrev pub IsChainOfOne : ℕ → ℕ → Step → Type 0
IsChainOfOne count i step = OfFirst (IsChainOfTwo count i) count step

-- the congruence of two terms
abbrev pub IsCongruenceOf : ℕ → ℕ → Step → Type 0
IsCongruenceOf i j step = step ≡ Congruence i j

-- those of one term with each of the first
abbrev pub IsCongruenceOfOne : ℕ → ℕ → Step → Type 0
IsCongruenceOfOne count i step = OfFirst (IsCongruenceOf i) count step

-- from the sides of an alias to the first order of its equality, and from its equality to that of its choice
abbrev pub IsOfAlias : Alias → Step → Type 0
IsOfAlias x step = (step ≡ Chain (x.left ∷ x.choice ∷ x.right ∷ [])) ⊎ (step ≡ Congruence x.whole x.equality)

-- those of some aliases
abbrev pub IsOfAliases : List Alias → Step → Type 0
IsOfAliases aliases step = (x : Alias) × Contains aliases x × IsOfAlias x step

-- all steps: of so many assertions and terms, of the first terms among each other, and of the aliases
pub data IsWanted (assertions terms count : ℕ) (aliases : List Alias) (step : Step) : Type 0 where
  an_input : OfFirst IsInputOf assertions step → IsWanted assertions terms count aliases step
  of_term : OfFirst IsOf terms step → IsWanted assertions terms count aliases step
  a_chain : OfFirst (IsChainOfOne count) count step → IsWanted assertions terms count aliases step
  a_congruence : OfFirst (IsCongruenceOfOne count) count step → IsWanted assertions terms count aliases step
  of_alias : IsOfAliases aliases step → IsWanted assertions terms count aliases step
