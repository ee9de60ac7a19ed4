-- The clauses of steps, by numbers.
use Rattle.std.specs.Prelude.{◌≡◌, ℕ, zero, suc, ℤ, pos, ◌+ℤ◌, unsigned_abs, Bool, true, false, ◌||◌, nat_eq, map, length, slice_get, if◌then◌else◌, List, [], ◌∷◌, ◌++◌, Option, Some, None}
use Rattle.vx_terms.specs.Sorts.{Sort, IntSort, BoolSort, RealSort, Operator, And, Or, Implies, Equal, Less, LessEqual, Add, Multiply, Div, Mod, same_sort}
use Rattle.vx_terms.specs.Terms.{Term}
use Rattle.cs_certificate.specs.Terms.{Head, TruthHead, NumberHead, BinaryHead, NotHead, IteHead, AllHead, SomeHead}
use Rattle.cs_certificate.specs.Certificate.{At, Clause, Yes, No, NumberedLiteral, Step, Define, Chain, Congruence, Pick, Split, Trichotomy, Divide, Stack, State, Derives}
pub use Rattle.cs_certificate.specs.Certificate.{plain, denial}
use Rattle.cs_certificate.specs.Nodes.{Node, Represents, same_head, number_of, equality}

infixl 10 ◌>>=◌
abbrev pub ◌>>=◌ : {A B : Type 0} → Option A → (A → Option B) → Option B
(Some x) >>= f = f x
None >>= f = None

-- the numbered literals are those of the clause
pub data Names (terms : List Term) : List NumberedLiteral → Clause → Type 0 where
  names-none : Names terms [] []
  names-yes : {n : ℕ} {t : Term} {ns : List NumberedLiteral} {c : Clause} → At terms n t → Names terms ns c → Names terms (plain n ∷ ns) (Yes t ∷ c)
  names-no : {n : ℕ} {t : Term} {ns : List NumberedLiteral} {c : Clause} → At terms n t → Names terms ns c → Names terms (denial n ∷ ns) (No t ∷ c)

-- the denials of the equalities along a chain, and its last term
abbrev pub links : List Node → ℕ → List ℕ → Option (List NumberedLiteral × ℕ)
links nodes a [] = Some ([], a)
links nodes a (b ∷ bs) = do
  n ← slice_get nodes b
  e ← equality nodes a b
  rest ← links nodes b bs
  Some (denial e ∷ rest.0, rest.1)

abbrev pub chain_clause : List Node → List ℕ → Option (List NumberedLiteral)
chain_clause nodes [] = None
chain_clause nodes (a ∷ bs) = do
  n ← slice_get nodes a
  rest ← links nodes a bs
  e ← equality nodes a rest.1
  Some (rest.0 ++ plain e ∷ [])

-- a pair of parts gives the denial of its equality; an identical pair is left out
abbrev pub with_pair : List Node → ℕ → ℕ → List NumberedLiteral → Option (List NumberedLiteral)
with_pair nodes a b rest = if nat_eq a b then Some rest else (equality nodes a b >>= λ e. Some (denial e ∷ rest))

abbrev pub pairs : List Node → List ℕ → List ℕ → Option (List NumberedLiteral)
pairs nodes [] [] = Some []
pairs nodes (a ∷ xs) (b ∷ ys) = pairs nodes xs ys >>= with_pair nodes a b
pairs nodes _ _ = None

-- the pairs of the parts of two nodes with one head
abbrev pub all_pairs : List Node → Node → Node → Option (List NumberedLiteral)
all_pairs nodes x y = if same_head x.head y.head then pairs nodes x.parts y.parts else None

abbrev pub congruence_clause : List Node → ℕ → ℕ → Option (List NumberedLiteral)
congruence_clause nodes m n = do
  x ← slice_get nodes m
  y ← slice_get nodes n
  rest ← all_pairs nodes x y
  e ← equality nodes m n
  Some (rest ++ plain e ∷ [])

abbrev pub number_at : List Node → ℤ → Option ℕ
number_at nodes z = number_of nodes (NumberHead z) []

abbrev pub binary_at : List Node → Operator → ℕ → ℕ → Option ℕ
binary_at nodes o a b = number_of nodes (BinaryHead o) (a ∷ b ∷ [])

-- where a node has this sort
abbrev pub if_sort : Sort → Node → Option (List NumberedLiteral) → Option (List NumberedLiteral)
if_sort a x o = if same_sort x.sort a then o else None

-- `t <= z` or `z + 1 <= t`, for an Int t
abbrev pub split_clause : List Node → ℕ → ℤ → Option (List NumberedLiteral)
split_clause nodes t z = do
  x ← slice_get nodes t
  low ← number_at nodes z
  high ← number_at nodes (z +ℤ pos 1)
  p ← binary_at nodes LessEqual t low
  q ← binary_at nodes LessEqual high t
  if_sort IntSort x (Some (plain p ∷ plain q ∷ []))

abbrev pub is_number_sort : Sort → Bool
is_number_sort a = same_sort a IntSort || same_sort a RealSort

-- `a < b` or `a = b` or `b < a`, for two numbers of one sort
abbrev pub trichotomy_clause : List Node → ℕ → ℕ → Option (List NumberedLiteral)
trichotomy_clause nodes a b = do
  x ← slice_get nodes a
  y ← slice_get nodes b
  p ← binary_at nodes Less a b
  e ← equality nodes a b
  q ← binary_at nodes Less b a
  if is_number_sort x.sort then if_sort x.sort y (Some (plain p ∷ plain e ∷ plain q ∷ [])) else None

-- rows of a choice t that isn't Bool, of c, a and b
abbrev pub pick_row : List Node → ℕ → ℕ → ℕ → ℕ → ℕ → Option (List NumberedLiteral)
pick_row nodes t c a b zero = equality nodes t a >>= λ e. Some (denial c ∷ plain e ∷ [])
pick_row nodes t c a b (suc zero) = equality nodes t b >>= λ e. Some (plain c ∷ plain e ∷ [])
pick_row nodes t c a b _ = None

abbrev pub pick_parts : List Node → ℕ → ℕ → List ℕ → Option (List NumberedLiteral)
pick_parts nodes t k (c ∷ a ∷ b ∷ []) = do
  x ← slice_get nodes a
  if same_sort x.sort BoolSort then None else pick_row nodes t c a b k
pick_parts nodes t k _ = None

abbrev pub pick_clause : List Node → ℕ → ℕ → Option (List NumberedLiteral)
pick_clause nodes t k = do
  x ← slice_get nodes t
  if same_head x.head IteHead then pick_parts nodes t k x.parts else None

-- an integer other than 0
abbrev pub divisor : Head → Option ℤ
divisor (NumberHead (pos zero)) = None
divisor (NumberHead d) = Some d
divisor _ = None

-- rows of the division of a by n, which is the literal d
abbrev pub divide_row : List Node → ℕ → ℕ → ℤ → ℕ → Option (List NumberedLiteral)
divide_row nodes a n d zero = do
  q ← binary_at nodes Div a n
  p ← binary_at nodes Multiply n q
  r ← binary_at nodes Mod a n
  u ← binary_at nodes Add p r
  e ← equality nodes a u
  Some (plain e ∷ [])
divide_row nodes a n d (suc zero) = do
  r ← binary_at nodes Mod a n
  z ← number_at nodes (pos 0)
  p ← binary_at nodes LessEqual z r
  Some (plain p ∷ [])
divide_row nodes a n d (suc (suc zero)) = do
  r ← binary_at nodes Mod a n
  z ← number_at nodes (pos (unsigned_abs d))
  p ← binary_at nodes Less r z
  Some (plain p ∷ [])
divide_row nodes a n d _ = None

abbrev pub divide_clause : List Node → ℕ → ℕ → ℕ → Option (List NumberedLiteral)
divide_clause nodes a n k = do
  x ← slice_get nodes a
  y ← slice_get nodes n
  d ← divisor y.head
  if_sort IntSort x (divide_row nodes a n d k)

-- where a numbered term is Bool
abbrev pub if_bool : List Node → ℕ → Option (List NumberedLiteral) → Option (List NumberedLiteral)
if_bool nodes x o = slice_get nodes x >>= λ n. if_sort BoolSort n o

-- The rows that define a Bool term t, by its parts.

abbrev pub truth_row : ℕ → Bool → ℕ → Option (List NumberedLiteral)
truth_row t true zero = Some (plain t ∷ [])
truth_row t false zero = Some (denial t ∷ [])
truth_row t b (suc k) = None

abbrev pub not_row : ℕ → ℕ → ℕ → Option (List NumberedLiteral)
not_row t x zero = Some (denial t ∷ denial x ∷ [])
not_row t x (suc zero) = Some (plain t ∷ plain x ∷ [])
not_row t x (suc (suc k)) = None

abbrev pub last_row : ℕ → List ℕ → ℕ → List NumberedLiteral → Option (List NumberedLiteral)
last_row t ps k ls = if nat_eq k (length ps) then Some ls else None

abbrev pub and_row : Option ℕ → ℕ → List ℕ → ℕ → Option (List NumberedLiteral)
and_row (Some x) t ps k = Some (denial t ∷ plain x ∷ [])
and_row None t ps k = last_row t ps k (plain t ∷ map denial ps)

abbrev pub or_row : Option ℕ → ℕ → List ℕ → ℕ → Option (List NumberedLiteral)
or_row (Some x) t ps k = Some (plain t ∷ denial x ∷ [])
or_row None t ps k = last_row t ps k (denial t ∷ map plain ps)

abbrev pub implies_row : ℕ → ℕ → ℕ → ℕ → Option (List NumberedLiteral)
implies_row t x y zero = Some (denial t ∷ denial x ∷ plain y ∷ [])
implies_row t x y (suc zero) = Some (plain t ∷ plain x ∷ [])
implies_row t x y (suc (suc zero)) = Some (plain t ∷ denial y ∷ [])
implies_row t x y (suc (suc (suc k))) = None

abbrev pub ite_row : ℕ → ℕ → ℕ → ℕ → ℕ → Option (List NumberedLiteral)
ite_row t c x y zero = Some (denial t ∷ denial c ∷ plain x ∷ [])
ite_row t c x y (suc zero) = Some (plain t ∷ denial c ∷ denial x ∷ [])
ite_row t c x y (suc (suc zero)) = Some (denial t ∷ plain c ∷ plain y ∷ [])
ite_row t c x y (suc (suc (suc zero))) = Some (plain t ∷ plain c ∷ denial y ∷ [])
ite_row t c x y (suc (suc (suc (suc k)))) = None

abbrev pub equal_row : ℕ → ℕ → ℕ → ℕ → Option (List NumberedLiteral)
equal_row t x y zero = Some (denial t ∷ denial x ∷ plain y ∷ [])
equal_row t x y (suc zero) = Some (denial t ∷ plain x ∷ denial y ∷ [])
equal_row t x y (suc (suc zero)) = Some (plain t ∷ plain x ∷ plain y ∷ [])
equal_row t x y (suc (suc (suc zero))) = Some (plain t ∷ denial x ∷ denial y ∷ [])
equal_row t x y (suc (suc (suc (suc k)))) = None

abbrev pub define_by : List Node → ℕ → Head → List ℕ → ℕ → Option (List NumberedLiteral)
define_by nodes t (TruthHead b) ps k = truth_row t b k
define_by nodes t NotHead (x ∷ []) k = not_row t x k
define_by nodes t (BinaryHead And) ps k = and_row (slice_get ps k) t ps k
define_by nodes t AllHead ps k = and_row (slice_get ps k) t ps k
define_by nodes t (BinaryHead Or) ps k = or_row (slice_get ps k) t ps k
define_by nodes t SomeHead ps k = or_row (slice_get ps k) t ps k
define_by nodes t (BinaryHead Implies) (x ∷ y ∷ []) k = implies_row t x y k
define_by nodes t (BinaryHead Equal) (x ∷ y ∷ []) k = if_bool nodes x (if_bool nodes y (equal_row t x y k))
define_by nodes t IteHead (c ∷ x ∷ y ∷ []) k = if_bool nodes x (ite_row t c x y k)
define_by nodes t h ps k = None

abbrev pub define_clause : List Node → ℕ → ℕ → Option (List NumberedLiteral)
define_clause nodes t k = do
  x ← slice_get nodes t
  define_by nodes t x.head x.parts k

-- a clause is computed exactly where one is derived, and it is that one
pub record Computes (nodes : List Node) (s : State) (stack : Stack) (step : Step) (computed : Option (List NumberedLiteral)) : Type 0 where
  pub sound : (ns : List NumberedLiteral) → computed ≡ Some ns → (c : Clause) × Names s.terms ns c × Derives stack s step c
  pub complete : (c : Clause) → Derives stack s step c → (ns : List NumberedLiteral) × Names s.terms ns c × (computed ≡ Some ns)

pub record ComputesSteps (nodes : List Node) (s : State) (stack : Stack) : Type 0 where
  pub define : (t k : ℕ) → Computes nodes s stack (Define t k) (define_clause nodes t k)
  pub chain : (ns : List ℕ) → Computes nodes s stack (Chain ns) (chain_clause nodes ns)
  pub congruence : (m n : ℕ) → Computes nodes s stack (Congruence m n) (congruence_clause nodes m n)
  pub split : (t : ℕ) (z : ℤ) → Computes nodes s stack (Split t z) (split_clause nodes t z)
  pub trichotomy : (a b : ℕ) → Computes nodes s stack (Trichotomy a b) (trichotomy_clause nodes a b)
  pub pick : (t k : ℕ) → Computes nodes s stack (Pick t k) (pick_clause nodes t k)
  pub divide : (a n k : ℕ) → Computes nodes s stack (Divide a n k) (divide_clause nodes a n k)

abbrev pub ByNumbers : Type 0
ByNumbers = (nodes : List Node) (s : State) (stack : Stack) → Represents nodes s.terms → ComputesSteps nodes s stack
