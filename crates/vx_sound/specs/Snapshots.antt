-- The tree of the values under an instance, and what a snapshot term stands for.
use Rattle.std.specs.Prelude.{◌≡◌, ℕ, zero, suc, if◌then◌else◌, List, Option, Some, None}
use Rattle.vx_frac.specs.Fractions.{lowest}
use Rattle.vx_ast.specs.Syntax.{Name, Program, Predicate, Assertion, Pure, Points, Both, Implied, Chosen, predicate_named}
use Rattle.vx_ast.specs.Syntax as syntax
use Rattle.vx_meaning.specs.Values.{◌>>=◌, Value, IntValue, BoolValue, RefValue, PermValue, is_true}
use Rattle.vx_meaning.specs.States.{State, Heap, Instance, value_at, bind}
use Rattle.vx_meaning.specs.Evaluate.{choose, value, values}
use Rattle.vx_meaning.specs.Flatten.{no_applications, bare}
use Rattle.vx_terms.specs.Terms.{Term}
use Rattle.vx_terms.specs.Interpretations as terms
use Rattle.vx_terms.specs.Interpretations.{Tree, Empty, IntLeaf, BoolLeaf, RefLeaf, PermLeaf, Pair, Interpretation, TreeElement}

-- a value as a leaf; a Perm in lowest terms, as in an interpretation
abbrev pub leaf : Value → Tree
leaf (IntValue z) = IntLeaf z
leaf (BoolValue b) = BoolLeaf b
leaf (RefValue r) = RefLeaf r
leaf (PermValue a) = PermLeaf (lowest a)

abbrev pub location_leaf : Program → Heap → Name → Value → Option Tree
location_leaf p h f (RefValue r) = Some (leaf (value_at p h record { receiver = r; field = f }))
location_leaf p h f _ = None

abbrev pub truth_leaf : Value → Option Tree
truth_leaf v = if is_true v then Some Empty else None

-- the tree of an assertion's values, where f gives that of an instance within it
abbrev pub assertion_tree : Program → (Instance → Option Tree) → State → Assertion → Option Tree
assertion_tree p f s (Pure e) = value p no_applications s e >>= truth_leaf
assertion_tree p f s (Points at e x share) = value p no_applications s e >>= location_leaf p s.heap x
assertion_tree p f s (syntax.Instance at i es share) = values p no_applications s es >>= λ vs. f record { predicate = i; arguments = vs }
assertion_tree p f s (Both a b) = assertion_tree p f s a >>= λ t. assertion_tree p f s b >>= λ u. Some (Pair t u)
assertion_tree p f s (Implied c a) = value p no_applications s c >>= λ v. choose v (assertion_tree p f s a) (Some Empty)
assertion_tree p f s (Chosen c a b) = value p no_applications s c >>= λ v. choose v (assertion_tree p f s a) (assertion_tree p f s b)

abbrev pub body_tree : Program → (Instance → Option Tree) → Heap → List Value → Predicate → Option Tree
body_tree p f h vs d = body_of d.body where
  body_of : Option Assertion → Option Tree
  body_of None = Some Empty
  body_of (Some e) = assertion_tree p f (bare (bind d.parameters vs) h) e

-- the tree of the values under an instance, by fuel; of one without a body it is empty, so it depends on nothing
abbrev pub tree_by : Program → ℕ → Heap → Instance → Option Tree
tree_by p zero h i = None
tree_by p (suc n) h i = predicate_named p i.predicate >>= λ d. body_tree p (tree_by p n h) h i.arguments d

abbrev pub IsTree : Program → Heap → Instance → Tree → Type 0
IsTree p h i t = (n : ℕ) × (tree_by p n h i ≡ Some t)

-- a snapshot term stands, under an interpretation, for the tree of the values under an instance
abbrev pub IsSnapshot : Program → Interpretation → Heap → Instance → Term → Type 0
IsSnapshot p i h k t = (u : Tree) × IsTree p h k u × (terms.value i t ≡ TreeElement u)
