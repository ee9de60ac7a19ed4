-- What stands in a function's part is read as by the rules over themselves, and when an application is measured.
use Rattle.std.proofs.Common.{◌≡◌, Bool, true, false, ◌||◌, cond, List, Option, Some, None, string_bytes, refl, sym, ap, ◌∙◌}
use Rattle.std.specs.Prelude.{not}
use Rattle.vx_ast.specs.declared.Place.{Place}
use Rattle.vx_ast.specs.Syntax.{Name, Program, Assertion, Expr, Exprs, Function, joined}
use Rattle.vx_depth.specs.Depths.{ReadsItself}
use Rattle.vx_funcs.specs.Measures.{asked_by}
use Rattle.vx_rules.specs.Groups.{function_number, is_in_group}
use Rattle.vx_rules.specs.Members.{rules}
use Rattle.vx_rules.specs.Rules.{Context, Giving, GivingAll, Going, ask, back, consume, decreasing, entered, eval, evals, lesser, measured, never, terms, with_equations}
use Rattle.vx_rules.specs.States.{Own, State, Store, after_name, bind, is_quiet, name_of, sort_of_type, with_heap}
use Rattle.vx_rules.specs.Trees.{FunctionCode, MeasureCode, Tree, Step}
use Rattle.vx_resolved.specs.Resolved.{function}
use Rattle.vx_stack.specs.Values.{values}
use Rattle.vx_terms.specs.Build.{application, whole_amount}
use Rattle.vx_terms.specs.Terms.{Term}
use Rattle.std.specs.declared.alloc.Global.{Global}
use Rattle.std.specs.declared.rc.Rc.{Rc}
use Rattle.vx_heap.specs.declared.heap.SymHeap.{SymHeap}
use Rattle.vx_heap.specs.Views.{heap}
use Rattle.vx_states.specs.declared.entering.Caller.{Caller}
use Rattle.vx_states.specs.Entering.{back_to}
use Rattle.vx_stack.specs.declared.waiting.Application.{Application}
use Rattle.vx_stack.specs.declared.waiting.Applied.{Applied}
use Rattle.vx_stack.specs.Stack.{measuring, told}

pub part_consumed : (p : Program) (a : Assertion) (x : Context) (scale : Term) (z y : State) (take : Going) (on other : Giving) → ReadsItself p z.level →
    take ≡ (λ w. consume p (rules p) a x scale w.heap w other) → y ≡ z → ((t : Term) (w : State) → on t w ≡ other t w) → (rules p).consume a x scale z.heap z on ≡ take y
part_consumed p a x scale z y take on other reads e f same =
    reads.consume a x scale z.heap z refl on other (λ t w l. same t w)
    ∙ sym (ap (λ (k : Going). k y) e ∙ ap (λ k. consume p (rules p) a x scale k.heap k other) f)

pub part_evaluated : (p : Program) (e : Expr) (z y : State) (on other : Giving) → ReadsItself p z.level → y ≡ z → ((t : Term) (w : State) → on t w ≡ other t w) →
    (rules p).eval e z on ≡ eval p (rules p) e y other
part_evaluated p e z y on other reads f same = reads.eval e z refl on other (λ t w l. same t w) ∙ ap (λ k. eval p (rules p) e k other) (sym f)

pub parts_evaluated : (p : Program) (es : Exprs) (z y : State) (on other : GivingAll) → ReadsItself p z.level → y ≡ z → ((ts : List Term) (w : State) → on ts w ≡ other ts w) →
    (rules p).evals es z on ≡ evals p (rules p) es y other
parts_evaluated p es z y on other reads f same = reads.evals es z refl on other (λ ts w l. same ts w) ∙ ap (λ k. evals p (rules p) es k other) (sym f)

-- what an application is measured against decides what it comes to
abbrev pub measured_as : Program → Function → Store → Place → State → Going → Option Own → Tree
measured_as p g x at s on None = Step (on s)
measured_as p g x at s on (Some own) = decreasing p (rules p) own g.decreases x at s on

pub measured_by_own : (p : Program) (f : Name) (g : Function) (x : Store) (at : Place) (s : State) (on : Going) → measured p (rules p) f g x at s on ≡ measured_as p g x at s on (asked_by p f s s.own)
measured_by_own p f g x at s on = go s.own
  where
    choose : (own : Own) (quiet inside : Bool) →
        cond quiet (Step (on s)) (cond inside (decreasing p (rules p) own g.decreases x at s on) (Step (on s))) ≡ measured_as p g x at s on (cond (quiet || not inside) None (Some own))
    choose own true inside = refl
    choose own false true = refl
    choose own false false = refl

    go : (o : Option Own) → (elim o as (λ own. Tree) [
      | None ↦ Step (on s)
      | Some own ↦ cond (is_quiet s) (Step (on s)) (cond (is_in_group p own.function f) (decreasing p (rules p) own g.decreases x at s on) (Step (on s)))
    ]) ≡ measured_as p g x at s on (asked_by p f s o)
    go None = refl
    go (Some own) = choose own (is_quiet s) (is_in_group p own.function f)

-- an application goes on with its snapshot, by its parts
abbrev pub applied_of : Program → Application → Rc Caller Global → Rc SymHeap Global → Giving → Giving
applied_of p x c h on snapshot s =
    let s1 = with_heap (heap h.value) (back_to c.value s) in
    measuring p x (name_of snapshot s1) on (after_name snapshot s1)

-- an application, by what its name stands for
abbrev pub taking_for : Program → Place → Name → List Term → Function → State → Giving → Tree
taking_for p at f ts g s on =
    Step ((rules p).consume (joined g.place g.requires) (record { pure = FunctionCode; permission = FunctionCode; builds = true }) whole_amount s.heap (entered (bind g.parameters ts) at s) (λ t w.
    let s1 = with_heap s.heap (back s w) in
    let named = name_of t s1 in
    measured p (rules p) f g (bind g.parameters ts) at (after_name t s1) (λ s2.
    let value = application (function_number p f) (sort_of_type g.of) named (terms ts) in
    Step (on value (with_equations p (rules p) g ts named value s2)))))

abbrev pub application_of : Program → Place → Name → List Term → State → Giving → Option Function → Tree
application_of p at f ts s on o =
    elim o as (λ x. Tree) [
      | None ↦ never at FunctionCode s
      | Some g ↦ taking_for p at f ts g s on
    ]

abbrev pub takes_for : Program → Application → State → Giving → Tree
takes_for p x s on = taking_for p x.place (string_bytes x.name.value) (values x.arguments.value) (function x.function.value) s on

pub applied_by : (p : Program) (at place : Place) (f f' : Name) (ts ts' : List Term) (g : Function) (s : State) (on : Giving) → at ≡ place → f ≡ f' → ts ≡ ts' → taking_for p at f ts g s on ≡ taking_for p place f' ts' g s on
applied_by p at place f f' ts ts' g s on e h k =
    ap (λ y. taking_for p y f ts g s on) e ∙ ap (λ y. taking_for p place y ts g s on) h ∙ ap (λ y. taking_for p place f' y g s on) k

-- an application within the group goes on with its measure, by its parts
abbrev pub measured_of : Program → Applied → Option Term → Caller → Giving → Giving
measured_of p x own c on m s = ask (lesser p (rules p) own m) x.application.value.place MeasureCode (back_to c s) (told p x on)
