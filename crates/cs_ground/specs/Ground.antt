-- The equalities of a stack's terms, and the clauses that rules give of them.
use Rattle.std.specs.Prelude.{◌≡◌, ℕ, true, List, [], ◌∷◌, ◌++◌, length, take}
use Rattle.vx_terms.specs.Sorts.{Sort, BoolSort}
use Rattle.vx_terms.specs.Terms.{Term, Ite}
use Rattle.vx_terms.specs.Interpretations.{Each}
use Rattle.cs_certificate.specs.Terms.{head, parts, equal, numbered, HasSort}
use Rattle.cs_certificate.specs.Certificate.{Literal, Yes, No, Clause, Stack, State, Contains, Equates, Pairs, Defines, AreLive}
use Rattle.cs_numbers.specs.Laws.{IsSorted}
use Rattle.cs_writable.specs.Writable.{IsWritableTerm}
use Rattle.cs_classes.specs.Elements.{Assignment}
use Rattle.cs_classes.specs.Agreement.{satisfies}
use Rattle.cs_derivation.specs.Reached.{Reached, Stands, state_of}

-- the assertions are writable Bool terms over the live symbols
pub record IsFormed (stack : Stack) : Type 0 where
  pub sorted : Each (λ t. HasSort t BoolSort) stack.assertions
  pub live : Each (AreLive stack) stack.assertions
  pub writable : Each IsWritableTerm stack.assertions

-- two terms of one sort
abbrev pub AreOfOneSort : Term → Term → Type 0
AreOfOneSort x y = (a : Sort) × HasSort x a × HasSort y a

-- an equality of a and b is numbered
abbrev pub IsEquated : State → Term → Term → Type 0
IsEquated s a b = (e : Term) × Equates s a b e

-- the assignment satisfies all clauses
abbrev pub Satisfies : Assignment → State → Type 0
Satisfies v s = Each (λ c. satisfies v c ≡ true) s.clauses

-- the term that a literal has or denies
abbrev pub term_of : Literal → Term
term_of (Yes t) = t
term_of (No t) = t

-- each literal is of a numbered Bool term
abbrev pub AreAtoms : List Term → Clause → Type 0
AreAtoms terms c = Each (λ l. Contains terms (term_of l) × HasSort (term_of l) BoolSort) c

-- what a state has of the terms of a stack's assertions
pub record IsGrounded (stack : Stack) (s : State) : Type 0 where
  -- they are numbered
  pub within : (t : Term) → Contains (numbered stack.assertions) t → Contains s.terms t
  -- all numbered terms are well-sorted
  pub sorted : (t : Term) → Contains s.terms t → IsSorted t
  -- those of the assertions come first
  pub front : take (length (numbered stack.assertions)) s.terms ≡ numbered stack.assertions
  -- and so is an equality of each two of one sort
  pub equated : (x y : Term) → Contains (numbered stack.assertions) x → Contains (numbered stack.assertions) y → ¬ (x ≡ y) → AreOfOneSort x y → IsEquated s x y
  -- there is a clause of each assertion
  pub asserted : (t : Term) → Contains stack.assertions t → Contains s.clauses (Yes t ∷ [])
  -- each row of each numbered term
  pub rows : (t : Term) (k : ℕ) (c : Clause) → Contains s.terms t → Defines t k c → Contains s.clauses c
  -- both rows of each choice that isn't Bool
  pub pick_then : (c x y e : Term) → Contains (numbered stack.assertions) (Ite c x y) → ¬ (HasSort x BoolSort) → Equates s (Ite c x y) x e → Contains s.clauses (No c ∷ Yes e ∷ [])
  pub pick_else : (c x y e : Term) → Contains (numbered stack.assertions) (Ite c x y) → ¬ (HasSort x BoolSort) → Equates s (Ite c x y) y e → Contains s.clauses (Yes c ∷ Yes e ∷ [])
  -- that equality goes on from term to term
  pub chained : (x y z e f g : Term) → Contains (numbered stack.assertions) x → Contains (numbered stack.assertions) y → Contains (numbered stack.assertions) z →
      Equates s x y e → Equates s y z f → Equates s x z g → Contains s.clauses (No e ∷ No f ∷ Yes g ∷ [])
  -- and from parts to the whole; each term is equal to itself
  pub congruent : (t u e : Term) (c : Clause) → Contains (numbered stack.assertions) t → Contains (numbered stack.assertions) u → head t ≡ head u → Pairs s (parts t) (parts u) c → Equates s t u e → Contains s.clauses (c ++ Yes e ∷ [])
  -- with clauses by which the two orders of an equality have one truth
  pub turned : (v : Assignment) (x y : Term) → Satisfies v s → Contains (numbered stack.assertions) (equal x y) → Contains (numbered stack.assertions) (equal y x) → ¬ (HasSort x BoolSort) → v.truth (equal x y) ≡ v.truth (equal y x)
  -- all clauses are of numbered Bool terms
  pub atoms : Each (AreAtoms s.terms) s.clauses

-- a derivation of it, in which the terms of the assertions come first, so many
pub record IsGround (stack : Stack) (r : Reached) (count : ℕ) : Type 0 where
  pub stands : Stands stack r
  pub number : count ≡ length (numbered stack.assertions)
  pub front : take count r.terms ≡ numbered stack.assertions
  pub grounded : IsGrounded stack (state_of r)
