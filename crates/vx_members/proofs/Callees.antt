-- What stands in another member is consumed as by the rules over themselves, and the way back from a callee, by its parts.
use Rattle.std.proofs.Common.{◌≡◌, ℕ, Bool, true, List, Option, Some, None, refl, sym, ap, ◌∙◌, drop}
use Rattle.vx_ast.specs.declared.Place.{Place}
use Rattle.vx_ast.specs.Syntax.{Name, Program, Assertion, Predicate, Method, joined, predicate_named}
use Rattle.vx_depth.specs.Depths.{ReadsItself}
use Rattle.vx_terms.specs.Terms.{Term}
use Rattle.vx_terms.specs.Build.{whole_amount}
use Rattle.vx_rules.specs.States.{Heap, State, Store, assign_all, bind, declare_all, terms_in, with_store}
use Rattle.vx_rules.specs.Trees.{CallCode, FoldCode, Tree, Step}
use Rattle.vx_rules.specs.Rules.{Context, Giving, Going, back, consume, entered, never}
use Rattle.vx_rules.specs.Members.{after_names, blank, called, folded, names_of, rules}
use Rattle.vx_states.specs.declared.entering.Caller.{Caller}
use Rattle.vx_states.specs.Entering.{back_to}
use Rattle.vx_stack.specs.Stack.{returned, with_instance}

pub part_consumed : (p : Program) (a : Assertion) (x : Context) (scale : Term) (z y : State) (take : Going) (on other : Giving) → ReadsItself p z.level →
    take ≡ (λ w. consume p (rules p) a x scale w.heap w other) → y ≡ z → ((t : Term) (w : State) → on t w ≡ other t w) → (rules p).consume a x scale z.heap z on ≡ take y
part_consumed p a x scale z y take on other reads e f same =
    reads.consume a x scale z.heap z refl on other (λ t w l. same t w)
    ∙ sym (ap (λ (k : Going). k y) e ∙ ap (λ k. consume p (rules p) a x scale k.heap k other) f)

-- targets get values in a store that is the caller's again
abbrev pub back_with : List Name → List Term → Store → Option Place → Bool → Heap → State → State
back_with xs ts stored at inner old w = with_store (assign_all xs ts stored) (record w { store = stored; at = at; inner = inner; old = old })

pub returns_to : (xs ys : List Name) (ts : List Term) (c : Caller) (s : State) (h : Heap) (on : Going) → xs ≡ ys → ((w : State) → back_to c w ≡ back s w) → h ≡ s.old →
    ◌≡◌ {A = Going} (λ w. Step (on (returned xs ts c h w))) (λ w. Step (on (with_store (assign_all ys ts s.store) (record (back s w) { old = s.old }))))
returns_to xs ys ts c s h on e f g =
    let b = back_to c blank in
    ap {B = Going} (λ (z : List Name) w. Step (on (back_with z ts b.store b.at b.inner h w))) e
    ∙ ap {B = Going} (λ (z : State) w. Step (on (back_with ys ts z.store z.at z.inner h w))) (f blank)
    ∙ ap {B = Going} (λ (z : Heap) w. Step (on (back_with ys ts s.store s.at s.inner z w))) g

-- a callee's postcondition is produced over new returns, and on by what the state with them says
abbrev pub promising : Program → Method → Heap → (State → Going) → State → Tree
promising p m h on s =
    let inside = declare_all m.returns (record s { old = h }) in
    (rules p).produce (joined m.place m.ensures) whole_amount None inside (on inside)

pub promises : (p : Program) (m n : Method) (xs ys : List Name) (j k : ℕ) (c : Caller) (s : State) (h i old : Heap) (on : Going) (w : State) → m ≡ n → xs ≡ ys → j ≡ k → ((z : State) → back_to c z ≡ back s z) → h ≡ i → old ≡ s.old →
    promising p m h (λ inside z. Step (on (returned xs (drop j (terms_in inside.store)) c old z))) w
    ≡ promising p n i (λ inside z. Step (on (with_store (assign_all ys (drop k (terms_in inside.store)) s.store) (record (back s z) { old = s.old })))) w
promises p m n xs ys j k c s h i old on w a b d e f g =
    let inside = declare_all n.returns (record w { old = i }) in
    ap (λ (y : Method). promising p y h (λ inside z. Step (on (returned xs (drop j (terms_in inside.store)) c old z))) w) a
    ∙ ap (λ (y : Heap). promising p n y (λ inside z. Step (on (returned xs (drop j (terms_in inside.store)) c old z))) w) f
    ∙ ap (λ (y : ℕ). promising p n i (λ inside z. Step (on (returned xs (drop y (terms_in inside.store)) c old z))) w) d
    ∙ ap (λ (y : Going). (rules p).produce (joined n.place n.ensures) whole_amount None inside y) (returns_to xs ys (drop k (terms_in inside.store)) c s old on b e g)

-- a fold takes a body
abbrev pub folding : Program → Place → Name → List Term → Term → State → Going → Predicate → Assertion → Tree
folding p at i ts a s on d body =
    Step ((rules p).consume body (record { pure = FoldCode; permission = FoldCode; builds = true }) a s.heap (entered (bind d.parameters ts) at s) (λ t w. Step (on (with_instance i ts a t (back s w)))))

abbrev fold_by : Program → Place → Name → List Term → Term → State → Going → Predicate → Option Assertion → Tree
fold_by p at i ts a s on d b =
    elim b as (λ x. Tree) [
      | None ↦ never at FoldCode s
      | Some body ↦ folding p at i ts a s on d body
    ]

abbrev fold_of : Program → Place → Name → List Term → Term → State → Going → Option Predicate → Tree
fold_of p at i ts a s on o =
    elim o as (λ x. Tree) [
      | None ↦ never at FoldCode s
      | Some d ↦ fold_by p at i ts a s on d d.body
    ]

pub folded_by : (p : Program) (at : Place) (i : Name) (ts : List Term) (a : Term) (s : State) (on : Going) (d : Predicate) (body : Assertion) → predicate_named p i ≡ Some d → d.body ≡ Some body →
    folded p (rules p) at i ts a s on ≡ folding p at i ts a s on d body
folded_by p at i ts a s on d body e f = ap (fold_of p at i ts a s on) e ∙ ap (fold_by p at i ts a s on d) f

pub folds : (p : Program) (at place : Place) (i j : Name) (ts us : List Term) (a b : Term) (s : State) (on : Going) (d e : Predicate) (body : Assertion) → at ≡ place → i ≡ j → ts ≡ us → a ≡ b → d ≡ e →
    folding p at i ts a s on d body ≡ folding p place j us b s on e body
folds p at place i j ts us a b s on d e body f g h k l =
    ap (λ y. folding p y i ts a s on d body) f ∙ ap (λ y. folding p place y ts a s on d body) g ∙ ap (λ y. folding p place j y a s on d body) h
    ∙ ap (λ y. folding p place j us y s on d body) k ∙ ap (λ y. folding p place j us b s on y body) l

-- a call by what its name stands for
abbrev pub call_of : Program → Place → List Term → List Name → State → Going → Option Method → Tree
call_of p at ts xs s on o =
    elim o as (λ x. Tree) [
      | None ↦ never at CallCode s
      | Some m ↦ called p (rules p) at m (names_of ts s) xs (after_names ts s) on
    ]
