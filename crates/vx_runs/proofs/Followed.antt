-- A whole run beside a run by contracts: what is carried along.
use Rattle.std.proofs.Common.{◌≡◌, ◌⊎◌, ℕ, suc, true, List, [], ◌∷◌, ◌++◌, Some}
use Rattle.std.specs.Prelude.{Ok}
use Rattle.vx_ast.specs.declared.Place.{Place}
use Rattle.vx_ast.specs.declared.ValueType.{ValueType}
use Rattle.vx_frac.specs.Fractions.{Fraction, full}
use Rattle.vx_ast.specs.Syntax.{Name, Declaration, Program, Method, Expr, Exprs, Assertion, Stmt, Block, method_named}
use Rattle.vx_meaning.specs.Values.{type_of}
use Rattle.vx_meaning.specs.States.{State, Store, Heap, Holdings, Location, Resource, lookup, amount, value_at}
use Rattle.vx_meaning.specs.Consistent.{IsHeld, IsConsistent}
use Rattle.vx_meaning.specs.Fits.{Eventually, fit_by, fit_all, take_by, deeper}
use Rattle.vx_meaning.specs.Outcomes.{Outcome, Ends, FailsAt, Stops, Outcomes}
use Rattle.vx_meaning.specs.Fails.{MethodStarts}
use Rattle.vx_meaning.specs.Give.{give}
use Rattle.vx_meaning.specs.Run.{run, run_all, run_in, run_all_in}
use Rattle.vx_meaning.specs.Around.{Around}
use Rattle.vx_types.specs.Typing.{Scope, type_in, HasType, HaveTypes, IsTyped, IsTypedStmt, IsTypedBlock, scope_after, scope_after_all}
use Rattle.vx_amounts.proofs.Amounts.{Le, Positive}
use Rattle.vx_sound_preds.proofs.Grouped.{IsSingle, NoDebts}
use Rattle.vx_sound_preds.proofs.Holding.{TypedAll, HoldsInstances}
use Rattle.vx_sound_preds.proofs.TypedValues.{AreTyped}
use Rattle.vx_runs.specs.Whole.{give_whole, wholly, bodies_by, given_back}
use Rattle.vx_runs.proofs.Surely.{Surely}
use Rattle.vx_runs.proofs.Rising.{Rises, RisesTo}

-- instances of all predicates can be held
abbrev pub Any : Name → Type 0
Any x = Unit {0}

-- what is held is typed and grounded, nothing is owed, and all together it is at most the whole of each location
abbrev pub Sane : Program → Heap → Holdings → Type 0
Sane p h held = HoldsInstances p Any true h held

-- the same value where something is held
abbrev pub Agree : Program → Heap → Holdings → Heap → Type 0
Agree p h held g = (l : Location) → IsHeld p h held l → value_at p g l ≡ value_at p h l

-- the same value everywhere
abbrev pub Alike : Program → Heap → Heap → Type 0
Alike p h g = (l : Location) → value_at p g l ≡ value_at p h l

-- of each resource at most as much
abbrev pub AtMost : Holdings → Holdings → Type 0
AtMost few many = (r : Resource) → IsSingle r → Le (amount few r) (amount many r)

-- s has the variables of w that are known, and holds less; its values are those of w where it holds something
pub record Under (p : Program) (ds : Scope) (w s : State) : Type 0 where
  pub store : (x : Name) (t : ValueType) → type_in x ds ≡ Some t → lookup x s.store ≡ lookup x w.store
  pub typed : AreTyped ds s.store
  pub sane : Sane p s.heap s.holdings
  pub fewer : AtMost s.holdings w.holdings
  pub agree : Agree p s.heap s.holdings w.heap
  pub old_sane : Sane p s.old_heap s.old_holdings
  pub old_fewer : AtMost s.old_holdings w.old_holdings
  pub old_agree : Agree p s.old_heap s.old_holdings w.old_heap

-- What fits with less fits with more, with the same value.
pub record FitsRise (p : Program) : Type 0 where
  pub fits : (ds : Scope) (w s : State) → Under p ds w s → (e : Expr) (t : ValueType) → HasType p ds e t → Rises (λ n. fit_by p n s e) (λ n. fit_by p n w e)
  pub all_fit : (ds : Scope) (w s : State) → Under p ds w s → (es : Exprs) (fs : List Declaration) → HaveTypes p ds es fs → Rises (λ n. fit_all p (deeper p n) s es) (λ n. fit_all p (deeper p n) w es)

-- what is taken from less and from more: the same entries, in front
pub record Took (p : Program) (few many few_left many_left : Holdings) : Type 0 where
  pub entries : Holdings
  pub few_is : few_left ≡ entries ++ few
  pub many_is : many_left ≡ entries ++ many
  pub typed : TypedAll p Any entries
  pub debts : NoDebts few_left
  pub less : AtMost few_left few

-- What is taken from less is taken from more.
abbrev pub TakesRise : Program → Type 0
TakesRise p = (ds : Scope) (w s : State) → Under p ds w s → (q : Fraction) → Positive q → (a : Assertion) → IsTyped p ds a → (many few : Holdings) → AtMost few many → TypedAll p Any few → NoDebts few →
    RisesTo (Took p few many) (λ n. take_by p n s q a few) (λ n. take_by p n w q a many)

-- What an assertion took from s is given in u, which has the variables of s that are known, and nothing more than s left: it ends with
-- these entries, or fails.
pub record Regiving (p : Program) (ds : Scope) (s u : State) (entries : Holdings) : Type 0 where
  pub store : (x : Name) (t : ValueType) → type_in x ds ≡ Some t → lookup x u.store ≡ lookup x s.store
  pub typed : AreTyped ds u.store
  pub sane : Sane p s.heap s.holdings
  pub fewer : AtMost u.holdings (entries ++ s.holdings)
  pub debts : NoDebts u.holdings
  pub held : TypedAll p Any u.holdings
  pub agree : Agree p s.heap (given_back entries ++ u.holdings) u.heap
  pub old_sane : Sane p u.old_heap u.old_holdings
  pub old_fewer : AtMost u.old_holdings s.old_holdings
  pub old_agree : Agree p u.old_heap u.old_holdings s.old_heap

abbrev pub TakenIsGiven : Program → Type 0
TakenIsGiven p = (ds : Scope) (s u : State) (a : Assertion) (entries : Holdings) → IsTyped p ds a → Eventually (λ n. take_by p n s full a s.holdings ≡ Ok (entries ++ s.holdings)) → NoDebts (entries ++ s.holdings) → Regiving p ds s u entries →
    Surely (give p (IsConsistent p) full a u (Ends record { store = u.store; heap = u.heap; holdings = given_back entries ++ u.holdings; old_heap = u.old_heap; old_holdings = u.old_holdings })
    ⊎ ((at : Place) × give p (IsConsistent p) full a u (FailsAt at)))

-- Another heap that agrees keeps what is held one that can be, and each location of which nothing is held.
abbrev pub SaneKept : Program → Type 0
SaneKept p = (h g : Heap) (held : Holdings) → Sane p h held → Agree p h held g → Sane p g held × ((l : Location) → IsHeld p g held l → IsHeld p h held l)

-- the store is of this scope: its names, in order, with values of their types
abbrev pub StoreOf : Scope → Store → Type 0
StoreOf [] [] = Unit {0}
StoreOf (d ∷ ds) (e ∷ es) = (e.0 ≡ d.name) × (type_of e.1 ≡ d.of) × StoreOf ds es
StoreOf _ _ = ⊥

-- A state that is reached by contracts: with the variables of w, these holdings and this heap. Heaps are lists, so it is one with
-- the same values.
pub record Shadow (p : Program) (Reached : State → Type 0) (w : State) (less old_less : Holdings) (h : Heap) (s : State) : Type 0 where
  pub reached : Reached s
  pub store : s.store ≡ w.store
  pub holdings : s.holdings ≡ less
  pub heap : Alike p h s.heap
  pub old_holdings : s.old_holdings ≡ old_less
  pub old_heap : Agree p w.old_heap old_less s.old_heap

-- A run by contracts follows a whole run that is at w, while those of `a` wait: besides what is kept it holds no more, and whatever the values
-- are where it holds nothing, it reaches a state with them. For a whole run chooses values late, and a run by contracts has had them from its
-- start. What is kept is what the run by contracts leaves behind while it is in a loop.
pub record Follows (p : Program) (ds : Scope) (a : Around) (kept : Holdings) (Reached : State → Type 0) (w : State) : Type 0 where
  pub store : StoreOf ds w.store
  pub whole : Sane p w.heap (a.holdings ++ w.holdings)
  pub debts : NoDebts w.holdings
  pub around : NoDebts a.holdings
  pub kept_debts : NoDebts kept
  pub kept_typed : TypedAll p Any kept
  pub less : Holdings
  pub old_less : Holdings
  pub fewer : AtMost (kept ++ less) w.holdings
  pub sane : Sane p w.heap less
  pub old_whole : Sane p w.old_heap w.old_holdings
  pub old_fewer : AtMost old_less w.old_holdings
  pub old_sane : Sane p w.old_heap old_less
  pub shadow : (h : Heap) → Agree p w.heap less h → Surely ((s : State) × Shadow p Reached w less old_less h s)

-- from no state that is reached
abbrev pub NeverFails : (State → Type 0) → (State → Outcomes) → Type 0
NeverFails Reached part = (s : State) → Reached s → (at : Place) → part s (FailsAt at) → ⊥

-- the states that are reached after a part
abbrev pub After : (State → Outcomes) → (State → Type 0) → State → Type 0
After part Reached t = (s : State) × Reached s × part s (Ends t)

-- A part of a whole run, from w: it doesn't fail, and where it ends it is followed, with the values of what is kept, and of what those who
-- wait hold, as they were.
pub record Goes (p : Program) (ds : Scope) (a : Around) (kept : Holdings) (Reached : State → Type 0) (w : State) (whole : Outcomes) : Type 0 where
  pub fine : (at : Place) → whole (FailsAt at) → ⊥
  pub on : (t : State) → whole (Ends t) → Surely (Follows p ds a kept Reached t × Agree p w.heap (a.holdings ++ kept) t.heap)

-- Giving goes, with values that are chosen late.
abbrev pub GivesGo : Program → Type 1
GivesGo p = (ds : Scope) (a : Around) (kept : Holdings) (Reached : State → Type 0) (w : State) (q : Fraction) (x : Assertion) → Positive q → IsTyped p ds x → Follows p ds a kept Reached w →
    NeverFails Reached (give p (IsConsistent p) q x) → Goes p ds a kept (After (give p (IsConsistent p) q x) Reached) w (give_whole p a q x w)

-- an outcome that is no stop
abbrev pub IsShown : Outcome → Type 0
IsShown (Ends s) = Unit {0}
IsShown (FailsAt at) = Unit {0}
IsShown Stops = ⊥

-- bodies of methods go, while others wait
abbrev pub BodiesGo : Program → ℕ → Type 0
BodiesGo p n = (x : Name) (m : Method) (b : Block) → method_named p x ≡ Some m → m.body ≡ Some b → (a : Around) (w : State) → Follows p (m.parameters ++ m.returns) a [] (MethodStarts p m) w →
    Goes p (scope_after_all p b (m.parameters ++ m.returns)) a [] (After (run_all p b) (MethodStarts p m)) w (bodies_by p n a b w)

-- a statement goes, with calls by these bodies and loops of at most n rounds; so does a block
abbrev pub StmtGoes : Program → ℕ → Stmt → Type 1
StmtGoes p n st = (ds : Scope) (a : Around) (kept : Holdings) (Reached : State → Type 0) (w : State) → IsTypedStmt p ds st → Follows p ds a kept Reached w → NeverFails Reached (run p st) →
    Goes p (scope_after p st ds) a kept (After (run p st) Reached) w (run_in p a (wholly p a (bodies_by p n) (suc n)) st w)

abbrev pub BlockGoes : Program → ℕ → Block → Type 1
BlockGoes p n b = (ds : Scope) (a : Around) (kept : Holdings) (Reached : State → Type 0) (w : State) → IsTypedBlock p ds b → Follows p ds a kept Reached w → NeverFails Reached (run_all p b) →
    Goes p (scope_after_all p b ds) a kept (After (run_all p b) Reached) w (run_all_in p a (wholly p a (bodies_by p n) (suc n)) b w)
