-- What the marks of chunks stand for.
use Rattle.std.proofs.Common.{◌≡◌, ◌⊎◌, inl, inr, sym, subst}
use Rattle.vx_ast.specs.Syntax.{Program}
use Rattle.vx_meaning.specs.States as run
use Rattle.vx_meaning.specs.Flatten.{IsInside}

-- No instance may be marked; this one is the root, and those inside it are inner; or nothing is said.
pub data Marks : Type 0 where
  Unmarked : Marks
  Rooted : run.Instance → Marks
  Unsaid : Marks

abbrev pub MayMark : Marks → Type 0
MayMark Unmarked = ⊥
MayMark (Rooted root) = Unit {0}
MayMark Unsaid = Unit {0}

-- an instance that is marked as the root, and one that is marked as inner
abbrev pub IsRoot : Marks → run.Instance → Type 0
IsRoot Unmarked k = ⊥
IsRoot (Rooted root) k = k ≡ root
IsRoot Unsaid k = Unit {0}

abbrev pub IsInner : Program → Marks → run.Heap → run.Instance → Type 0
IsInner p Unmarked h k = ⊥
IsInner p (Rooted root) h k = IsInside p h k root
IsInner p Unsaid h k = Unit {0}

-- of locations nothing is said
abbrev pub InnerAt : Program → Marks → run.Heap → run.Resource → Type 0
InnerAt p m h (run.At l) = Unit {0}
InnerAt p m h (run.Folded k) = IsInner p m h k

-- what is unfolded from it is inner
abbrev pub LeadsAt : Program → Marks → run.Heap → run.Resource → Type 0
LeadsAt p m h (run.At l) = Unit {0}
LeadsAt p m h (run.Folded k) = IsRoot m k ⊎ IsInner p m h k

-- no instance is the root
abbrev pub Unrooted : Marks → Type 0
Unrooted Unmarked = Unit {0}
Unrooted (Rooted root) = ⊥
Unrooted Unsaid = Unit {0}

-- where no instance is the root, one that may be marked may be marked anywhere
pub inner_anywhere : (p : Program) (m : Marks) → Unrooted m → MayMark m → (h : run.Heap) (r : run.Resource) → InnerAt p m h r
inner_anywhere p m free may h (run.At l) = tt
inner_anywhere p Unmarked free may h (run.Folded k) = absurd may
inner_anywhere p (Rooted root) free may h (run.Folded k) = absurd free
inner_anywhere p Unsaid free may h (run.Folded k) = tt

-- what leads inside may mark
pub leads_marks : (p : Program) (m : Marks) (h : run.Heap) (k : run.Instance) → LeadsAt p m h (run.Folded k) → MayMark m
leads_marks p Unmarked h k (inl l) = absurd l
leads_marks p Unmarked h k (inr l) = absurd l
leads_marks p (Rooted root) h k l = tt
leads_marks p Unsaid h k l = tt

pub unrooted : {m : Marks} → m ≡ Unmarked → Unrooted m
unrooted e = subst Unrooted (sym e) tt

pub none_inner : {m : Marks} (p : Program) (h : run.Heap) (k : run.Instance) → m ≡ Unmarked → IsInner p m h k → ⊥
none_inner p h k e i = subst (λ m. IsInner p m h k) e i
