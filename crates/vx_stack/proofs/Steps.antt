-- The rules Ask, Probe and Fork by their cases, and what a frame stands for by what its parts stand for.
use Rattle.std.proofs.Common.{◌≡◌, true, false, ◌||◌, sym, ap, ◌∙◌, subst, List, [], ◌∷◌, ◌++◌, Option, Result, IfOk}
use Rattle.std.proofs.lemmas.Result.{IfOk-weaker}
use Rattle.std.proofs.lemmas.Bool.{cond-false, cond-true}
use Rattle.vx_ast.specs.declared.Place.{Place}
use Rattle.vx_ast.specs.Syntax.{Program, Assertion}
use Rattle.vx_stack.specs.declared.waiting.Production.{Production}
use Rattle.vx_stack.specs.declared.frame.Side.{Side}
use Rattle.vx_stack.specs.declared.question.Query.{Query}
use Rattle.vx_stack.specs.declared.conts.Move.{Move}
use Rattle.vx_stack.specs.declared.conts.Move.TheVariants as move'
use Rattle.vx_terms.specs.Terms.{Term, same}
use Rattle.vx_heap.specs.Views.{held_term}
use Rattle.vx_terms.specs.Build.{true_term, false_term, negate}
use Rattle.vx_rules.specs.States.{State, is_quiet, is_known, with_fact, with_branch}
use Rattle.vx_rules.specs.Trees.{Code, Question, Tree, Impossible, Step, Ask, Probe, Fork}
use Rattle.vx_rules.specs.Rules.{Giving, Going, Context, question, ask, never, probe, fork, produce, consume}
use Rattle.vx_rules.specs.Members.{rules}
use Rattle.vx_states.specs.SymStates.{optional_term}
use Rattle.vx_stack.specs.Stack.{producing, side_tree, query, Checked, Stepped}

pub fork_both : (c d : Term) (s s1 s2 : State) (left right : Going) → is_known c s ≡ false → d ≡ negate c → is_known d s ≡ false → s1 ≡ with_branch c s → s2 ≡ with_branch d s → fork c s left right ≡ Fork (left s1) (right s2)
fork_both c d s s1 s2 left right e n f h k =
    let f' : is_known (negate c) s ≡ false = subst (λ x. is_known x s ≡ false) n f in
    let k' : s2 ≡ with_branch (negate c) s = subst (λ x. s2 ≡ with_branch x s) n k in
    rw (e, f') (ap (λ x. Fork (left x) (right (with_branch (negate c) s))) (sym h) ∙ ap (λ x. Fork (left s1) (right x)) (sym k'))

pub ask_passes : (c : Term) (at : Place) (code : Code) (s : State) (on : Going) → (same c true_term || is_quiet s) ≡ true → ask c at code s on ≡ Step (on s)
ask_passes c at code s on e = cond-true (same c true_term || is_quiet s) _ _ e

pub ask_fact : (c : Term) (at : Place) (code : Code) (s s1 : State) (on : Going) (q : Question) → (same c true_term || is_quiet s) ≡ false → same c false_term ≡ false → s1 ≡ with_fact c s → q ≡ question false c at code s → ask c at code s on ≡ Ask q (on s1)
ask_fact c at code s s1 on q e f h i =
    cond-false (same c true_term || is_quiet s) _ _ e ∙ ap (Ask (question false c at code s)) (cond-false (same c false_term) (Impossible s) (on (with_fact c s)) f)
    ∙ ap (λ x. Ask x (on (with_fact c s))) (sym i) ∙ ap (λ x. Ask q (on x)) (sym h)

pub ask_false : (c : Term) (at : Place) (code : Code) (s : State) (on : Going) (q : Question) → (same c true_term || is_quiet s) ≡ false → same c false_term ≡ true → q ≡ question false c at code s → ask c at code s on ≡ Ask q (Impossible s)
ask_false c at code s on q e f i =
    cond-false (same c true_term || is_quiet s) _ _ e ∙ ap (Ask (question false c at code s)) (cond-true (same c false_term) (Impossible s) (on (with_fact c s)) f)
    ∙ ap (λ x. Ask x (Impossible s)) (sym i)

pub never_asks : (at : Place) (code : Code) (s : State) (q : Question) → is_quiet s ≡ false → q ≡ question false false_term at code s → never at code s ≡ Ask q (Impossible s)
never_asks at code s q l i = cond-false (is_quiet s) _ _ l ∙ ap (λ x. Ask x (Impossible s)) (sym i)

pub probe_true : (c : Term) (at : Place) (code : Code) (s : State) (a b : Tree) → same c true_term ≡ true → probe c at code s a b ≡ Step a
probe_true c at code s a b e = cond-true (same c true_term) _ _ e

pub probe_quiet : (c : Term) (at : Place) (code : Code) (s : State) (a b : Tree) → is_quiet s ≡ true → same c true_term ≡ false → probe c at code s a b ≡ Step b
probe_quiet c at code s a b l e = cond-false (same c true_term) _ _ e ∙ cond-true (is_quiet s) _ _ l

pub probe_other : (c : Term) (at : Place) (code : Code) (s : State) (a b : Tree) (q : Question) → is_quiet s ≡ false → same c true_term ≡ false → same c false_term ≡ false → q ≡ question true c at code s → probe c at code s a b ≡ Probe q a b
probe_other c at code s a b q l e f i =
    cond-false (same c true_term) _ _ e ∙ cond-false (is_quiet s) _ _ l ∙ ap (λ x. Probe (question true c at code s) x b) (cond-false (same c false_term) (Impossible s) a f)
    ∙ ap (λ x. Probe x a b) (sym i)

pub probe_false : (c : Term) (at : Place) (code : Code) (s : State) (a b : Tree) (q : Question) → is_quiet s ≡ false → same c true_term ≡ false → same c false_term ≡ true → q ≡ question true c at code s → probe c at code s a b ≡ Probe q (Impossible s) b
probe_false c at code s a b q l e f i =
    cond-false (same c true_term) _ _ e ∙ cond-false (is_quiet s) _ _ l ∙ ap (λ x. Probe (question true c at code s) x b) (cond-true (same c false_term) (Impossible s) a f)
    ∙ ap (λ x. Probe x (Impossible s) b) (sym i)

pub checked_ask : (p : Program) (q : Query) (t : Tree) (old new : List Side) (a : Side) → q.probe ≡ false → new ≡ old ++ a ∷ [] → t ≡ Ask (query q) (side_tree p a) → Stepped p t old (move'.Check q) new
checked_ask p q t old new a e n h = subst (λ b. Checked p b t old (query q) new) (sym e) (a, n, h)

pub checked_probe : (p : Program) (q : Query) (t : Tree) (old new : List Side) (a b : Side) → q.probe ≡ true → new ≡ old ++ b ∷ a ∷ [] → t ≡ Probe (query q) (side_tree p a) (side_tree p b) → Stepped p t old (move'.Check q) new
checked_probe p q t old new a b e n h = subst (λ x. Checked p x t old (query q) new) (sym e) (a, b, n, h)

-- a step from a tree is one from an equal tree
pub stepped_as : {E : Type 0} (p : Program) (r : Result Move E) (t u : Tree) (old new : List Side) → t ≡ u → IfOk r (λ m. Stepped p u old m new) → IfOk r (λ m. Stepped p t old m new)
stepped_as p r t u old new e h = IfOk-weaker r (λ m. Stepped p u old m new) (λ m. Stepped p t old m new) (λ m. subst (λ x. Stepped p x old m new) (sym e)) h

pub produces : (p : Program) (a b : Assertion) (x : Production) (scale : Term) (snapshot : Option Term) (k on : Going) → a ≡ b → held_term x.scale ≡ scale → optional_term x.snapshot ≡ snapshot → k ≡ on →
    ◌≡◌ {A = Going} (λ s. producing p a x s k) (λ s. produce p (rules p) b scale snapshot s on)
produces p a b x scale snapshot k on e f g h =
    ap {B = Going} (λ (y : Assertion) s. produce p (rules p) y (held_term x.scale) (optional_term x.snapshot) s k) e
    ∙ ap {B = Going} (λ (y : Term) s. produce p (rules p) b y (optional_term x.snapshot) s k) f
    ∙ ap {B = Going} (λ (y : Option Term) s. produce p (rules p) b scale y s k) g
    ∙ ap {B = Going} (λ (y : Going) s. produce p (rules p) b scale snapshot s y) h

pub consumes : (p : Program) (a b : Assertion) (x : Context) (t scale : Term) (k on : Giving) → a ≡ b → t ≡ scale → k ≡ on →
    ◌≡◌ {A = Going} (λ s. consume p (rules p) a x t s.heap s k) (λ s. consume p (rules p) b x scale s.heap s on)
consumes p a b x t scale k on e f h =
    ap {B = Going} (λ (y : Assertion) s. consume p (rules p) y x t s.heap s k) e
    ∙ ap {B = Going} (λ (y : Term) s. consume p (rules p) b x y s.heap s k) f
    ∙ ap {B = Going} (λ (y : Giving) s. consume p (rules p) b x scale s.heap s y) h

-- an ask by equal parts
pub asks : (c d : Term) (at place : Place) (x : Code) (s : State) (on k : Going) → c ≡ d → at ≡ place → on ≡ k → ask c at x s on ≡ ask d place x s k
asks c d at place x s on k e f g = ap (λ y. ask y at x s on) e ∙ ap (λ y. ask d y x s on) f ∙ ap (λ (y : Going). ask d place x s y) g
