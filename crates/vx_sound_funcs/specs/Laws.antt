-- The laws of what trees tell.
use Rattle.std.specs.Prelude.{◌≡◌, ℕ, true, List, Option, Some, Ok}
use Rattle.vx_frac.specs.Fractions.{Fraction, is_positive}
use Rattle.vx_ast.specs.Syntax.{Name, Program, Function, function_named, Expr, Exprs, Assertion, Pure, Points, Both, Implied, Chosen}
use Rattle.vx_ast.specs.Syntax as syntax
use Rattle.vx_terms.specs.Interpretations.{Tree}
use Rattle.vx_meaning.specs.Values.{Value}
use Rattle.vx_meaning.specs.States.{State, Store, Heap, Holdings, Location, Instance, At, amount, HaveTypes, value_at, bind, with_store}
use Rattle.vx_meaning.specs.Evaluate.{Applications, applications}
use Rattle.vx_meaning.specs.Flatten.{entries, flat}
use Rattle.vx_meaning.specs.Consistent.{IsConsistent}
use Rattle.vx_meaning.specs.Fits.{Fits, Takes, Eventually, fit_all, take, deeper}
use Rattle.vx_meaning.specs.Fails.{FunctionStarts}
use Rattle.vx_types.specs.Closure.{InClosure}
use Rattle.vx_types.specs.Now.{IsOfNow}
use Rattle.vx_sound.specs.Snapshots.{assertion_tree, IsTree}
use Rattle.vx_sound_preds.specs.Bodies.{AreRigid, Rigid, IsPlainBody}
use Rattle.vx_sound_preds.specs.Asking.{asking_tree, asking_entries, IsAskingTreeOf, IsAsking}
use Rattle.vx_sound_preds.specs.Covered.{IsProper, IsStocked}
use Rattle.vx_sound_funcs.specs.Firm.{firm_application, firmly, FitsFirmly, HoldsFirmly}
use Rattle.vx_sound_funcs.specs.Told.{LooksLike, IsLike, precondition_of, IsValueOf}

-- no body of a function has an `old`
abbrev pub SpeakNow : Program → Type 0
SpeakNow p = (f : Name) (g : Function) → function_named p f ≡ Some g → IsOfNow g.body

-- What fits firmly fits.
abbrev pub FirmlyIsMore : Program → Type 0
FirmlyIsMore p = (s : State) (e : Expr) (v : Value) → FitsFirmly p s e v → Fits p s e v

-- Two heaps that give an instance one tree have the same inside it, and values that look the same where something is inside it.
abbrev pub TreesTellTheHeap : Program → (Heap → Instance → Type 0) → Type 0
TreesTellTheHeap p Good =
    (h g : Heap) (i : Instance) (n : ℕ) (inside : Holdings) (t : Tree) → Good h i → AreRigid i.arguments → flat p n h i ≡ Some inside → IsTree p h i t → IsTree p g i t →
    (flat p n g i ≡ Some inside) × ((l : Location) → is_positive (amount inside (At l)) ≡ true → LooksLike (value_at p h l) (value_at p g l))

-- What applies nothing is asking, and both trees are the same, and both lists of entries, whatever is applied.
abbrev pub PlainIsAsking : Program → Type 0
PlainIsAsking p =
    (a : Assertion) → IsPlainBody p Rigid a →
    IsAsking p a × ((f : Instance → Option Tree) (s : State) (ap : Applications) → (asking_tree p ap f s a ≡ assertion_tree p f s a) × (asking_entries p ap s a ≡ entries p s a))

-- An assertion has one asking tree at most.
abbrev pub AskingTreesAreSingle : Program → Type 0
AskingTreesAreSingle p = (a : Assertion) (s : State) (t u : Tree) → IsAskingTreeOf p s a t → IsAskingTreeOf p s a u → t ≡ u

-- It looks at the variables and at the heap alone.
abbrev pub AskingTreesLook : Program → Type 0
AskingTreesLook p = (a : Assertion) → IsAsking p a → (s t : State) (tree : Tree) → t.store ≡ s.store → t.heap ≡ s.heap → IsAskingTreeOf p s a tree → IsAskingTreeOf p t a tree

-- A state that holds just what an assertion gives firmly is like each state with the same variables and the same asking tree of it.
abbrev pub TreesTellWhatIsHeld : Program → (Heap → Instance → Type 0) → Type 0
TreesTellWhatIsHeld p Good =
    (a : Assertion) → IsAsking p a → (s t : State) (tree : Tree) → HoldsFirmly p Good a s → t.store ≡ s.store → IsAskingTreeOf p s a tree → IsAskingTreeOf p t a tree → IsLike p s t

-- It names the same there.
abbrev pub TreesTellEntries : Program → (Heap → Instance → Type 0) → Type 0
TreesTellEntries p Good =
    (a : Assertion) → IsAsking p a → (s t : State) (tree : Tree) → HoldsFirmly p Good a s → t.store ≡ s.store → IsAskingTreeOf p s a tree → IsAskingTreeOf p t a tree →
    (n : ℕ) × (es : Holdings) × (asking_entries p (applications p n) s a ≡ Some es) × (asking_entries p (applications p n) t a ≡ Some es)

-- Two such states hold the same.
abbrev pub TreesTellHoldings : Program → (Heap → Instance → Type 0) → Type 0
TreesTellHoldings p Good =
    (a : Assertion) → IsAsking p a → (s t : State) (tree : Tree) → HoldsFirmly p Good a s → HoldsFirmly p Good a t → t.store ≡ s.store → IsAskingTreeOf p s a tree → IsAskingTreeOf p t a tree → t.holdings ≡ s.holdings

-- A function whose body fits firmly where just its precondition is held: at the same arguments its value looks the same in each state
-- with the same asking tree of the precondition.
abbrev pub TreesTellFirmValues : Program → (Heap → Instance → Type 0) → Type 0
TreesTellFirmValues p Good =
    (f : Name) (g : Function) → function_named p f ≡ Some g → (vs : List Value) (s t : State) (v : Value) (tree : Tree) → HoldsFirmly p Good (precondition_of g) s → s.store ≡ bind g.parameters vs → t.store ≡ s.store →
    IsAskingTreeOf p s (precondition_of g) tree → IsAskingTreeOf p t (precondition_of g) tree → FitsFirmly p s g.body v → (w : Value) × IsValueOf p f vs t w × LooksLike v w

-- Two applications at the same arguments, where the precondition has one asking tree: if the first is allowed firmly in a state that can
-- be, the second's value looks the same.
abbrev pub ApplicationsAgree : Program → Name → Type 0
ApplicationsAgree p x =
    (f : Name) (g : Function) → function_named p f ≡ Some g → (vs : List Value) → AreRigid vs → (n : ℕ) (s t : State) (v : Value) (tree : Tree) → IsConsistent p s → IsStocked p x s.holdings →
    firm_application p (firmly p n) f vs s ≡ Some v → IsAskingTreeOf p (with_store (bind g.parameters vs) s) (precondition_of g) tree → IsAskingTreeOf p (with_store (bind g.parameters vs) t) (precondition_of g) tree →
    (w : Value) × IsValueOf p f vs t w × LooksLike v w

-- each expression that is evaluated of an assertion is as P says, and each list of arguments as Q says
abbrev pub EachPart : (Expr → Type 0) → (Exprs → Type 0) → Assertion → Type 0
EachPart P Q (Pure e) = P e
EachPart P Q (Points at e f share) = P e × P share
EachPart P Q (syntax.Instance at i es share) = Q es × P share
EachPart P Q (Both a b) = EachPart P Q a × EachPart P Q b
EachPart P Q (Implied c a) = P c × EachPart P Q a
EachPart P Q (Chosen c a b) = P c × EachPart P Q a × EachPart P Q b

-- with these variables and in this heap, in each state that can be, e fits firmly where it fits
abbrev pub IsFirmAt : Program → Name → Store → Heap → Expr → Type 0
IsFirmAt p x xs h e = (s : State) → s.store ≡ xs → s.heap ≡ h → IsConsistent p s → IsStocked p x s.holdings → (v : Value) → Fits p s e v → FitsFirmly p s e v

abbrev pub AreFirmAt : Program → Name → Store → Heap → Exprs → Type 0
AreFirmAt p x xs h es =
    (s : State) → s.store ≡ xs → s.heap ≡ h → IsConsistent p s → IsStocked p x s.holdings → (vs : List Value) → Eventually (λ n. fit_all p (deeper p n) s es ≡ Ok vs) → (n : ℕ) × (fit_all p (firmly p n) s es ≡ Ok vs)

-- Where a function of what x leads to starts, and the parts of its precondition fit firmly where they fit, just its precondition is
-- held, firmly, with its arguments.
abbrev pub StartsHoldFirmly : Program → Name → Type 0
StartsHoldFirmly p x =
    (f : Name) (g : Function) → function_named p f ≡ Some g → InClosure p x f → (s : State) → FunctionStarts p g s → EachPart (IsFirmAt p x s.store s.heap) (AreFirmAt p x s.store s.heap) (precondition_of g) →
    HoldsFirmly p (IsProper p x) (precondition_of g) s × ((vs : List Value) × HaveTypes g.parameters vs × (s.store ≡ bind g.parameters vs))

-- in this state e fits firmly where it fits
abbrev pub IsOnlyFirm : Program → State → Expr → Type 0
IsOnlyFirm p s e = (v : Value) → Fits p s e v → FitsFirmly p s e v

abbrev pub AreOnlyFirm : Program → State → Exprs → Type 0
AreOnlyFirm p s es = (vs : List Value) → Eventually (λ n. fit_all p (deeper p n) s es ≡ Ok vs) → (n : ℕ) × (fit_all p (firmly p n) s es ≡ Ok vs)

-- What can be taken can be taken firmly, if its parts fit firmly where they fit.
abbrev pub TakesFirmly : Program → Type 0
TakesFirmly p = (a : Assertion) (s : State) (q : Fraction) (rest : Holdings) → EachPart (IsOnlyFirm p s) (AreOnlyFirm p s) a → Takes p s a q rest → (n : ℕ) × (take p (firmly p n) s q a s.holdings ≡ Ok rest)
