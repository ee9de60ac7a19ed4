-- What is known of what is held, and of which predicates instances can be held.
use Rattle.std.proofs.Common.{◌≡◌, ◌⊎◌, ℕ, ℤ, List, Bool, true, false, [], ◌∷◌, Option, Some, None}
use Rattle.vx_frac.specs.Fractions.{Fraction, none, full}
use Rattle.vx_ast.specs.Syntax.{Name, Program, Predicate, predicate_named}
use Rattle.vx_meaning.specs.Values.{Value}
use Rattle.vx_meaning.specs.States as run
use Rattle.vx_meaning.specs.Consistent.{total, Changes, IsSupported, IsConsistent}
use Rattle.vx_meaning.specs.Fails.{Application}
use Rattle.vx_terms.specs.Interpretations.{Each, Tree}
use Rattle.vx_types.specs.Typing.{HaveNoPerm}
use Rattle.vx_amounts.proofs.Amounts.{Le, Positive}
use Rattle.vx_sound.specs.Snapshots.{IsTree}
use Rattle.vx_sound.proofs.Marks.{Marks, Unmarked}

abbrev pub at_field : ℕ → Name → run.Location
at_field r f = record { receiver = r; field = f }

-- nothing of null is held, and where amounts are bounded of no location more than the whole
pub record Limited (bounded : Bool) (holdings : run.Holdings) : Type 0 where
  pub most : bounded ≡ true → (l : run.Location) → Le (run.amount holdings (run.At l)) full
  pub null : (f : Name) → Le (run.amount holdings (run.At (at_field 0 f))) none

-- an instance that can be held: its arguments have the types of parameters that are no amounts
abbrev pub IsTypedInstance : Program → (Name → Type 0) → run.Instance → Type 0
IsTypedInstance p Held k = Held k.predicate × ((d : Predicate) × (predicate_named p k.predicate ≡ Some d) × HaveNoPerm d.parameters × run.HaveTypes d.parameters k.arguments)

abbrev pub IsTypedResource : Program → (Name → Type 0) → run.Resource → Type 0
IsTypedResource p Held (run.At l) = Unit {0}
IsTypedResource p Held (run.Folded k) = IsTypedInstance p Held k

-- which states can be, where amounts are bounded and where they aren't
abbrev pub CanBe : Program → Bool → run.State → Type 0
CanBe p true c = IsConsistent p c
CanBe p false c = IsSupported p c

-- the function whose body is walked, the number that its measure has where it is entered, if that is a number, and the heap there
pub record Walked : Type 0 where
  pub function : Name
  pub measure : Option ℤ
  pub heap : run.Heap

-- What the laws on expressions and assertions need to know of a heap and of what is held there: `Holds`, which says that it
-- is limited and that each instance of which something is held has its tree, and what keeps it; which functions may be
-- applied; the function whose body is walked, if it is one; and what its walk shows of the applications that are evaluated, as of
-- their measures.
pub record World : Type 1 where
  pub program : Program
  -- what the marks of chunks stand for
  pub marks : Marks
  pub bounded : Bool
  pub Held : Name → Type 0
  pub Applied : Name → Type 0
  pub own : Option Walked
  pub Measured : run.Heap → Name → List Value → Type 0
  pub proper : (x : Name) (d : Predicate) → Held x → predicate_named program x ≡ Some d → HaveNoPerm d.parameters
  pub Holds : run.Heap → run.Holdings → Type 0
  pub limited : (h : run.Heap) (hs : run.Holdings) → Holds h hs → Limited bounded hs
  pub nothing : (h : run.Heap) → Holds h []
  pub taken : (h : run.Heap) (hs : run.Holdings) (r : run.Resource) (q : Fraction) → IsTypedResource program Held r → Le none q → Le q (run.amount hs r) → Holds h hs → Holds h (run.lost r q hs)
  pub given : (c : run.State) (r : run.Resource) (q : Fraction) → IsTypedResource program Held r → Le none q → Holds c.heap c.holdings →
      CanBe program bounded (run.with_holdings (run.gained r q c.holdings) c) → Holds c.heap (run.gained r q c.holdings)
  pub tree : (h : run.Heap) (hs : run.Holdings) (k : run.Instance) → Holds h hs → IsTypedInstance program Held k → Positive (run.amount hs (run.Folded k)) → (t : Tree) × IsTree program h k t
  pub single : (h : run.Heap) (k : run.Instance) (t u : Tree) → IsTypedInstance program Held k → IsTree program h k t → IsTree program h k u → t ≡ u

-- what is shown of an application that is evaluated in a state: of its heap, or of the old one
abbrev pub IsMeasured : World → run.State → Application → Type 0
IsMeasured w c a = w.Measured c.heap a.0 a.1 ⊎ w.Measured c.old_heap a.0 a.1

abbrev pub AllMeasured : World → run.State → List Application → Type 0
AllMeasured w c xs = Each (IsMeasured w c) xs

-- What the laws on statements need besides: changes of what isn't held, writes of what is held whole, and new locations keep
-- what is known, and the trees of the instances that are held. No function has statements, and no instance is marked.
pub record Changing (w : World) : Type 0 where
  pub unmarked : w.marks ≡ Unmarked
  pub bounded : w.bounded ≡ true
  pub of_no_function : w.own ≡ None
  pub changed : (c : run.State) (g : run.Heap) → Changes w.program c g → w.Holds c.heap c.holdings → w.Holds g c.holdings
  pub changed_tree : (c : run.State) (g : run.Heap) → Changes w.program c g → w.Holds c.heap c.holdings → (k : run.Instance) → IsTypedInstance w.program w.Held k → Positive (run.amount c.holdings (run.Folded k)) →
      (t : Tree) → IsTree w.program c.heap k t → IsTree w.program g k t
  pub changed_total : (c : run.State) (g : run.Heap) → Changes w.program c g → w.Holds c.heap c.holdings → (n : ℕ) (l : run.Location) →
      (m : ℕ) × Le (total w.program n g c.holdings l) (total w.program m c.heap c.holdings l)
  pub written : (h : run.Heap) (hs : run.Holdings) (l : run.Location) (v : Value) → w.Holds h hs → Le full (run.amount hs (run.At l)) → w.Holds ((l, v) ∷ h) hs
  pub written_tree : (h : run.Heap) (hs : run.Holdings) (l : run.Location) (v : Value) → w.Holds h hs → Le full (run.amount hs (run.At l)) → (k : run.Instance) → IsTypedInstance w.program w.Held k → Positive (run.amount hs (run.Folded k)) →
      (t : Tree) → IsTree w.program h k t → IsTree w.program ((l, v) ∷ h) k t
  pub created : (h : run.Heap) (hs : run.Holdings) (l : run.Location) → w.Holds h hs → (l.receiver ≡ 0 → ⊥) → ((n : ℕ) → Le (total w.program n h hs l) none) → w.Holds h (run.gained (run.At l) full hs)
