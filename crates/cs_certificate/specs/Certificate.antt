-- Certificates: their steps, the rule of each, and when one is finished.
use Rattle.std.specs.Prelude.{◌≡◌, ℕ, ◌<◌, ℤ, pos, ◌+ℤ◌, ◌⊎◌, true, false, unsigned_abs, slice_get, int_lt, int_le, List, [], ◌∷◌, ◌++◌, map, reverse, length, Some}
use Rattle.vx_frac.specs.Fractions.{Fraction}
use Rattle.vx_terms.specs.Sorts.{Sort, IntSort, BoolSort, RealSort, Symbol, And, Or, Implies, Less, LessEqual, Add, Multiply, Div, Mod}
use Rattle.vx_terms.specs.Terms.{Term, Truth, Number, Constant, Apply, Not, Binary, Ite, AllOf, SomeOf, Terms, NoTerms, MoreTerms, sort_of}
use Rattle.vx_terms.specs.Interpretations.{Each}
use Rattle.vx_smt_meaning.specs.Commands.{Declared, Level, assertions_of, declared_in}
use Rattle.cs_certificate.specs.Terms.{head, items, parts, equal, distinct, subterms, numbered, HasSort}
use Rattle.cs_certificate.specs.Linear.{Constraint, Relation, AtMostZero, BelowZero, IsZero, Row, combination}

-- a term or its negation
pub data Literal : Type 0 where
  Yes : Term → Literal
  No : Term → Literal

abbrev pub negated : Literal → Literal
negated (Yes t) = No t
negated (No t) = Yes t

abbrev pub Clause : Type 0
Clause = List Literal

-- a literal of a step names its term by number
pub data Sign : Type 0 where
  Plain Negated : Sign

pub record NumberedLiteral : Type 0 where
  pub sign : Sign
  pub number : ℕ

abbrev pub plain : ℕ → NumberedLiteral
plain n = record { sign = Plain; number = n }

abbrev pub denial : ℕ → NumberedLiteral
denial n = record { sign = Negated; number = n }

pub data Step : Type 0 where
  Input : (assertion : ℕ) → Step
  NewTerm : Term → Step
  Define : (term row : ℕ) → Step
  Pick : (term row : ℕ) → Step
  Chain : (terms : List ℕ) → Step
  Congruence : (left right : ℕ) → Step
  Farkas : List NumberedLiteral → List Fraction → Step
  Split : (term : ℕ) → ℤ → Step
  Trichotomy : (left right : ℕ) → Step
  Divide : (dividend divisor row : ℕ) → Step
  Propagate : List NumberedLiteral → (hints : List ℕ) → Step

-- the live assertions and symbols
pub record Stack : Type 0 where
  pub assertions : List Term
  pub symbols : List Declared

-- what is live on some levels; the first assertion stands first
abbrev pub live : List Level → Stack
live levels = record { assertions = reverse (assertions_of levels); symbols = declared_in levels }

-- the terms by their numbers, and the clauses by theirs
pub record State : Type 0 where
  pub terms : List Term
  pub clauses : List Clause

abbrev pub start : Stack → State
start stack = record { terms = numbered stack.assertions; clauses = [] }

abbrev pub with_clause : State → Clause → State
with_clause s c = record s { clauses = s.clauses ++ c ∷ [] }

abbrev pub with_term : State → Term → State
with_term s t = record s { terms = distinct (s.terms ++ subterms t) }

-- x stands in the list at n
abbrev pub At : {A : Type 0} → List A → ℕ → A → Type 0
At xs n x = slice_get xs n ≡ Some x

abbrev pub Contains : {A : Type 0} → List A → A → Type 0
Contains xs x = (n : ℕ) × At xs n x

pub data AllAt (terms : List Term) : List ℕ → List Term → Type 0 where
  no-terms : AllAt terms [] []
  one-term : {n : ℕ} {t : Term} {ns : List ℕ} {ts : List Term} → At terms n t → AllAt terms ns ts → AllAt terms (n ∷ ns) (t ∷ ts)

-- a numbered Bool term, or its negation
pub data Reads (s : State) : NumberedLiteral → Literal → Type 0 where
  reads-plain : {n : ℕ} {t : Term} → At s.terms n t → HasSort t BoolSort → Reads s (plain n) (Yes t)
  reads-negated : {n : ℕ} {t : Term} → At s.terms n t → HasSort t BoolSort → Reads s (denial n) (No t)

pub data ReadsAll (s : State) : List NumberedLiteral → Clause → Type 0 where
  no-literals : ReadsAll s [] []
  one-literal : {n : NumberedLiteral} {l : Literal} {ns : List NumberedLiteral} {c : Clause} → Reads s n l → ReadsAll s ns c → ReadsAll s (n ∷ ns) (l ∷ c)

abbrev pub IsNumbered : State → Term → Type 0
IsNumbered s t = Contains s.terms t

-- an equality of a and b, in either order
abbrev pub IsEquality : Term → Term → Term → Type 0
IsEquality a b e = (e ≡ equal a b) ⊎ (e ≡ equal b a)

-- e is the equality of a and b: of its two orders the one that is numbered first
pub record Equates (s : State) (a b e : Term) : Type 0 where
  pub number : ℕ
  pub here : At s.terms number e
  pub equality : IsEquality a b e
  pub first : (m : ℕ) (f : Term) → m < number → At s.terms m f → IsEquality a b f → ⊥

-- the parts of an `and`, and of an `or`
pub data IsAnd : Term → List Term → Type 0 where
  and-of-two : (x y : Term) → IsAnd (Binary And x y) (x ∷ y ∷ [])
  and-of-more : (xs : Terms) → IsAnd (AllOf xs) (items xs)

pub data IsOr : Term → List Term → Type 0 where
  or-of-two : (x y : Term) → IsOr (Binary Or x y) (x ∷ y ∷ [])
  or-of-more : (xs : Terms) → IsOr (SomeOf xs) (items xs)

-- the clauses that a Bool term is defined by
pub data Defines : Term → ℕ → Clause → Type 0 where
  true-is : Defines (Truth true) 0 (Yes (Truth true) ∷ [])
  false-is : Defines (Truth false) 0 (No (Truth false) ∷ [])
  not-0 : (x : Term) → Defines (Not x) 0 (No (Not x) ∷ No x ∷ [])
  not-1 : (x : Term) → Defines (Not x) 1 (Yes (Not x) ∷ Yes x ∷ [])
  and-part : {t x : Term} {xs : List Term} {k : ℕ} → IsAnd t xs → At xs k x → Defines t k (No t ∷ Yes x ∷ [])
  and-all : {t : Term} {xs : List Term} → IsAnd t xs → Defines t (length xs) (Yes t ∷ map No xs)
  or-part : {t x : Term} {xs : List Term} {k : ℕ} → IsOr t xs → At xs k x → Defines t k (Yes t ∷ No x ∷ [])
  or-all : {t : Term} {xs : List Term} → IsOr t xs → Defines t (length xs) (No t ∷ map Yes xs)
  implies-0 : (x y : Term) → Defines (Binary Implies x y) 0 (No (Binary Implies x y) ∷ No x ∷ Yes y ∷ [])
  implies-1 : (x y : Term) → Defines (Binary Implies x y) 1 (Yes (Binary Implies x y) ∷ Yes x ∷ [])
  implies-2 : (x y : Term) → Defines (Binary Implies x y) 2 (Yes (Binary Implies x y) ∷ No y ∷ [])
  ite-0 : (c x y : Term) → HasSort x BoolSort → Defines (Ite c x y) 0 (No (Ite c x y) ∷ No c ∷ Yes x ∷ [])
  ite-1 : (c x y : Term) → HasSort x BoolSort → Defines (Ite c x y) 1 (Yes (Ite c x y) ∷ No c ∷ No x ∷ [])
  ite-2 : (c x y : Term) → HasSort x BoolSort → Defines (Ite c x y) 2 (No (Ite c x y) ∷ Yes c ∷ Yes y ∷ [])
  ite-3 : (c x y : Term) → HasSort x BoolSort → Defines (Ite c x y) 3 (Yes (Ite c x y) ∷ Yes c ∷ No y ∷ [])
  equal-0 : (x y : Term) → HasSort x BoolSort → HasSort y BoolSort → Defines (equal x y) 0 (No (equal x y) ∷ No x ∷ Yes y ∷ [])
  equal-1 : (x y : Term) → HasSort x BoolSort → HasSort y BoolSort → Defines (equal x y) 1 (No (equal x y) ∷ Yes x ∷ No y ∷ [])
  equal-2 : (x y : Term) → HasSort x BoolSort → HasSort y BoolSort → Defines (equal x y) 2 (Yes (equal x y) ∷ Yes x ∷ Yes y ∷ [])
  equal-3 : (x y : Term) → HasSort x BoolSort → HasSort y BoolSort → Defines (equal x y) 3 (Yes (equal x y) ∷ No x ∷ No y ∷ [])

-- the denials of the equalities along a chain from its first term to its last
pub data Links (s : State) : Term → List Term → Term → Clause → Type 0 where
  end : (t : Term) → Links s t [] t []
  link : {t u v e : Term} {us : List Term} {c : Clause} → Equates s t u e → Links s u us v c → Links s t (u ∷ us) v (No e ∷ c)

-- the denials of the equalities of two lists of parts, identical pairs left out
pub data Pairs (s : State) : List Term → List Term → Clause → Type 0 where
  no-pairs : Pairs s [] [] []
  same : {a : Term} {xs ys : List Term} {c : Clause} → Pairs s xs ys c → Pairs s (a ∷ xs) (a ∷ ys) c
  differ : {a b e : Term} {xs ys : List Term} {c : Clause} → ¬ (a ≡ b) → Equates s a b e → Pairs s xs ys c → Pairs s (a ∷ xs) (b ∷ ys) (No e ∷ c)

abbrev pub IsNumberSort : Sort → Type 0
IsNumberSort s = (s ≡ IntSort) ⊎ (s ≡ RealSort)

-- the constraint that the negation of a literal is
pub data Constrains : Literal → Constraint → Type 0 where
  not-less : (a b : Term) → Constrains (Yes (Binary Less a b)) record { left = b; right = a; relation = AtMostZero }
  not-at-most : (a b : Term) → Constrains (Yes (Binary LessEqual a b)) record { left = b; right = a; relation = BelowZero }
  less : (a b : Term) → Constrains (No (Binary Less a b)) record { left = a; right = b; relation = BelowZero }
  at-most : (a b : Term) → Constrains (No (Binary LessEqual a b)) record { left = a; right = b; relation = AtMostZero }
  equals : (a b : Term) → Constrains (No (equal a b)) record { left = a; right = b; relation = IsZero }

-- multipliers are at least 0 except on equations
abbrev pub MayMultiply : Fraction → Relation → Type 0
MayMultiply m IsZero = Unit {0}
MayMultiply m r = int_le (pos 0) m.numerator ≡ true

pub data Rows (sort : Sort) : Clause → List Fraction → List Row → Type 0 where
  no-rows : Rows sort [] [] []
  one-row : {l : Literal} {c : Constraint} {m : Fraction} {ls : Clause} {ms : List Fraction} {rs : List Row} →
      Constrains l c → HasSort c.left sort → HasSort c.right sort → MayMultiply m c.relation →
      Rows sort ls ms rs → Rows sort (l ∷ ls) (m ∷ ms) (record { multiplier = m; constraint = c } ∷ rs)

-- a strict constraint of Real with a multiplier above 0
abbrev pub IsStrict : Sort → Row → Type 0
IsStrict sort r = (sort ≡ RealSort) × (r.constraint.relation ≡ BelowZero) × (int_lt (pos 0) r.multiplier.numerator ≡ true)

-- the sum is a constant above 0, or 0 with a strict part
pub record IsContradiction (sort : Sort) (rows : List Row) : Type 0 where
  pub columns : Each (λ c. c.amount.numerator ≡ pos 0) (combination sort rows).columns
  pub constant : (int_lt (pos 0) (combination sort rows).constant.numerator ≡ true) ⊎ (((combination sort rows).constant.numerator ≡ pos 0) × (r : Row) × Contains rows r × IsStrict sort r)

-- each literal of the clause is l, or denied by the literals assumed
abbrev pub LeavesOnly : List Literal → Clause → Literal → Type 0
LeavesOnly assumed c l = Contains c l × Each (λ m. (m ≡ l) ⊎ Contains assumed (negated m)) c

abbrev pub LeavesNone : List Literal → Clause → Type 0
LeavesNone assumed c = Each (λ m. Contains assumed (negated m)) c

-- the hints lead from what is assumed to a clause that leaves nothing
pub data Refutes (s : State) : List Literal → List ℕ → Type 0 where
  ends : {assumed : List Literal} {h : ℕ} {hs : List ℕ} {c : Clause} → At s.clauses h c → LeavesNone assumed c → Refutes s assumed (h ∷ hs)
  forces : {assumed : List Literal} {h : ℕ} {hs : List ℕ} {c : Clause} {l : Literal} → At s.clauses h c → ¬ (Contains assumed (negated l)) → LeavesOnly assumed c l → Refutes s (assumed ++ l ∷ []) hs → Refutes s assumed (h ∷ hs)

-- `d * (a div d) + a mod d`
abbrev pub divided : Term → ℤ → Term
divided a d = Binary Add (Binary Multiply (Number d) (Binary Div a (Number d))) (Binary Mod a (Number d))

-- what a step derives
pub data Derives (stack : Stack) (s : State) : Step → Clause → Type 0 where
  input : {n : ℕ} {t : Term} → At stack.assertions n t → Derives stack s (Input n) (Yes t ∷ [])
  define : {n k : ℕ} {t : Term} {c : Clause} → At s.terms n t → Defines t k c → Derives stack s (Define n k) c
  pick-then : {n : ℕ} {c x y e : Term} → At s.terms n (Ite c x y) → ¬ (HasSort x BoolSort) → Equates s (Ite c x y) x e → Derives stack s (Pick n 0) (No c ∷ Yes e ∷ [])
  pick-else : {n : ℕ} {c x y e : Term} → At s.terms n (Ite c x y) → ¬ (HasSort x BoolSort) → Equates s (Ite c x y) y e → Derives stack s (Pick n 1) (Yes c ∷ Yes e ∷ [])
  chain : {n : ℕ} {ns : List ℕ} {t u e : Term} {ts : List Term} {c : Clause} → At s.terms n t → AllAt s.terms ns ts → Links s t ts u c → Equates s t u e → Derives stack s (Chain (n ∷ ns)) (c ++ Yes e ∷ [])
  congruence : {m n : ℕ} {t u e : Term} {c : Clause} → At s.terms m t → At s.terms n u → head t ≡ head u → Pairs s (parts t) (parts u) c → Equates s t u e → Derives stack s (Congruence m n) (c ++ Yes e ∷ [])
  farkas : {sort : Sort} {ns : List NumberedLiteral} {ms : List Fraction} {c : Clause} {rows : List Row} → ReadsAll s ns c → IsNumberSort sort → Rows sort c ms rows → IsContradiction sort rows → Derives stack s (Farkas ns ms) c
  split : {n : ℕ} {t : Term} {z : ℤ} → At s.terms n t → HasSort t IntSort → IsNumbered s (Binary LessEqual t (Number z)) → IsNumbered s (Binary LessEqual (Number (z +ℤ pos 1)) t) → Derives stack s (Split n z) (Yes (Binary LessEqual t (Number z)) ∷ Yes (Binary LessEqual (Number (z +ℤ pos 1)) t) ∷ [])
  trichotomy : {m n : ℕ} {a b e : Term} {sort : Sort} → At s.terms m a → At s.terms n b → IsNumberSort sort → HasSort a sort → HasSort b sort → IsNumbered s (Binary Less a b) → Equates s a b e → IsNumbered s (Binary Less b a) → Derives stack s (Trichotomy m n) (Yes (Binary Less a b) ∷ Yes e ∷ Yes (Binary Less b a) ∷ [])
  divide-0 : {m n : ℕ} {a e : Term} {d : ℤ} → At s.terms m a → At s.terms n (Number d) → ¬ (d ≡ pos 0) → HasSort a IntSort → Equates s a (divided a d) e → Derives stack s (Divide m n 0) (Yes e ∷ [])
  divide-1 : {m n : ℕ} {a : Term} {d : ℤ} → At s.terms m a → At s.terms n (Number d) → ¬ (d ≡ pos 0) → HasSort a IntSort → IsNumbered s (Binary LessEqual (Number (pos 0)) (Binary Mod a (Number d))) → Derives stack s (Divide m n 1) (Yes (Binary LessEqual (Number (pos 0)) (Binary Mod a (Number d))) ∷ [])
  divide-2 : {m n : ℕ} {a : Term} {d : ℤ} → At s.terms m a → At s.terms n (Number d) → ¬ (d ≡ pos 0) → HasSort a IntSort → IsNumbered s (Binary Less (Binary Mod a (Number d)) (Number (pos (unsigned_abs d)))) → Derives stack s (Divide m n 2) (Yes (Binary Less (Binary Mod a (Number d)) (Number (pos (unsigned_abs d)))) ∷ [])
  propagate : {ns : List NumberedLiteral} {hs : List ℕ} {c : Clause} → ReadsAll s ns c → Refutes s (map negated c) hs → Derives stack s (Propagate ns hs) c

-- a symbol is declared on a live level, with these sorts of arguments
abbrev pub IsLive : Stack → Symbol → List Sort → Sort → Type 0
IsLive stack f ss a = Contains stack.symbols record { symbol = f; takes = ss; gives = a }

abbrev mutual
  pub AreLive : Stack → Term → Type 0
  AreLive stack (Constant f a) = IsLive stack f [] a
  AreLive stack (Apply f a ts) = IsLive stack f (map sort_of (items ts)) a × AllLive stack ts
  AreLive stack (Not t) = AreLive stack t
  AreLive stack (Binary o t u) = AreLive stack t × AreLive stack u
  AreLive stack (Ite c t u) = AreLive stack c × AreLive stack t × AreLive stack u
  AreLive stack (AllOf ts) = AllLive stack ts
  AreLive stack (SomeOf ts) = AllLive stack ts
  AreLive stack t = Unit {0}

  pub AllLive : Stack → Terms → Type 0
  AllLive stack NoTerms = Unit {0}
  AllLive stack (MoreTerms t ts) = AreLive stack t × AllLive stack ts

-- the steps lead from the first state to the last
pub data Leads (stack : Stack) : State → List Step → State → Type 0 where
  stays : {s : State} → Leads stack s [] s
  names : {s u : State} {t : Term} {sort : Sort} {rest : List Step} → HasSort t sort → AreLive stack t → Leads stack (with_term s t) rest u → Leads stack s (NewTerm t ∷ rest) u
  derives : {s u : State} {step : Step} {c : Clause} {rest : List Step} → Derives stack s step c → Leads stack (with_clause s c) rest u → Leads stack s (step ∷ rest) u

-- each step meets its rule, and some clause is empty
abbrev pub IsFinished : Stack → List Step → Type 0
IsFinished stack steps = (s : State) × Leads stack (start stack) steps s × Contains s.clauses []
