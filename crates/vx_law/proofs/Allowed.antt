-- Where the precondition of a function can be taken, in a state that can be, the function starts; and if it keeps its promise there, the
-- application is allowed firmly, and as the meaning has it. What is shown of the functions that its precondition applies is given: that they
-- may be applied where it is given, and that its parts fit firmly.
use Rattle.std.proofs.Common.{◌≡◌, ℕ, suc, true, List, [], Some, refl, ap, ◌∙◌, le_refl}
use Rattle.std.specs.Prelude.{Ok}
use Rattle.vx_frac.specs.Fractions.{none, full}
use Rattle.vx_ast.specs.Syntax.{Name, Program, Function, function_named, conjoined, Expr, Exprs, Assertion, Pure, Points, Both, Implied, Chosen}
use Rattle.vx_ast.specs.Syntax as syntax
use Rattle.vx_smt_meaning.specs.declared.reply.Reply.{Reply}
use Rattle.vx_types.specs.Premises.{IsTypedProgram}
use Rattle.vx_types.specs.Closure.{InClosure}
use Rattle.vx_meaning.specs.Values.{Value, BoolValue}
use Rattle.vx_meaning.specs.States as run
use Rattle.vx_meaning.specs.States.{State, Heap, Holdings, Folded, bind, from_now, with_store, with_holdings}
use Rattle.vx_meaning.specs.Evaluate.{applications}
use Rattle.vx_meaning.specs.Flatten.{bare}
use Rattle.vx_meaning.specs.Consistent.{IsConsistent}
use Rattle.vx_meaning.specs.Outcomes.{Ends}
use Rattle.vx_meaning.specs.Give.{give}
use Rattle.vx_meaning.specs.Fits.{Takes, take}
use Rattle.vx_meaning.specs.Fails.{with_result}
use Rattle.vx_rules.specs.Members.{rules as member_rules}
use Rattle.vx_amounts.proofs.Amounts.{le-refl, positive-le, full-positive}
use Rattle.vx_elements.proofs.Scopes.{joined_typed}
use Rattle.vx_sound.proofs.Evaluate.{PartsGo}
use Rattle.vx_sound.proofs.Speaks as instances
use Rattle.vx_sound_preds.specs.Asking.{IsAsking}
use Rattle.vx_sound_preds.specs.Covered.{IsStocked}
use Rattle.vx_sound_preds.proofs.Asked.{speaks_for, asking_positive}
use Rattle.vx_sound_preds.proofs.Looks.{Sees}
use Rattle.vx_sound_preds.proofs.Adding.{added}
use Rattle.vx_sound_preds.proofs.Entries.{asking_typed}
use Rattle.vx_sound_preds.proofs.Exchanging.{entered_fine, held_rigid}
use Rattle.vx_sound_preds.proofs.Folding.{Stock}
use Rattle.vx_sound_preds.proofs.Holding.{HoldsInstances, TypedAll, all_single, typed_rigid, typed_added, added_debts, stock, lower}
use Rattle.vx_sound_preds.proofs.Speaking.{good, no_perm}
use Rattle.vx_sound_funcs.specs.Told.{precondition_of}
use Rattle.vx_sound_funcs.specs.Firm.{start_of, firmly, GoodFunctions}
use Rattle.vx_sound_funcs.specs.Laws.{SpeakNow, EachPart, IsFirmAt, AreFirmAt, IsOnlyFirm, AreOnlyFirm}
use Rattle.vx_sound_funcs.proofs.Fits.{firm_allows}
use Rattle.vx_sound_funcs.proofs.Further.{Further, firm_further}
use Rattle.vx_sound_funcs.proofs.Firm.{taken_total, alike}
use Rattle.vx_sound_funcs.proofs.Firmly.{takes_firmly}
use Rattle.vx_sound_funcs.proofs.Starting.{starts_hold_firmly}
use Rattle.vx_sound_funcs.proofs.Taking.{Took, matches_seen, take_asks}
use Rattle.vx_sound_funcs.proofs.TypedFunctions.{functions_speak_now}
use Rattle.vx_sound_funcs.proofs.Agree.{taken_amount, holds_possible}
use Rattle.vx_law.specs.Means.{Means}
use Rattle.vx_law.specs.Walks.{FunctionsPass, KeepsAt}
use Rattle.vx_law.specs.Allowed.{StartsAt, IsAllowed, IsAllowedWhereTaken}
use Rattle.vx_law.proofs.Values.{firm_worth, added_is}
use Rattle.vx_law.proofs.Trees.{HasTree, has_tree}
use Rattle.vx_law.proofs.Gives.{gives}
use Rattle.vx_sound_funcs.proofs.Grows.{applies_firmly}
use Rattle.vx_law.proofs.Started.{world, Started, started}

-- each part in turn
each_part : {P R : Expr → Type 0} {Q S : Exprs → Type 0} → ((e : Expr) → P e → R e) → ((es : Exprs) → Q es → S es) → (a : Assertion) → EachPart P Q a → EachPart R S a
each_part f g (Pure e) k = f e k
each_part f g (Points at e x share) k = (f e k.0, f share k.1)
each_part f g (syntax.Instance at i es share) k = (g es k.0, f share k.1)
each_part f g (Both a b) k = (each_part f g a k.0, each_part f g b k.1)
each_part f g (Implied c a) k = (f c k.0, each_part f g a k.1)
each_part f g (Chosen c a b) k = (f c k.0, each_part f g a k.1, each_part f g b k.2)

module _ (p : Program) (x : Name) (replies : Name → List Reply) (typed : IsTypedProgram p) (functions : GoodFunctions p) (pass : FunctionsPass p x replies)
    (f : Name) (g : Function) (leads : InClosure p x f) (named : function_named p f ≡ Some g) (Before : Name → Type 0) (asked : instances.SpeaksOf (InClosure p x) Before (precondition_of g))
    (parts : PartsGo (Means p x) (world (Means p x) p (good p x typed) (InClosure p x) (no_perm p x typed) Before) (member_rules p))
    (firm_parts : (vs : List Value) → run.HaveTypes g.parameters vs → (h : Heap) → EachPart (IsFirmAt p x (bind g.parameters vs) h) (AreFirmAt p x (bind g.parameters vs) h) (precondition_of g)) where
  speak_now : SpeakNow p
  speak_now = functions_speak_now p typed

  asking : IsAsking p (precondition_of g)
  asking = functions.asks f g named

  module _ (vs : List Value) (types : run.HaveTypes g.parameters vs) (c : State) (can : IsConsistent p c) (stocked : IsStocked p x c.holdings) (rest : Holdings) (takes : Takes p (with_store (bind g.parameters vs) c) (precondition_of g) full rest) where
    abbrev empty : State
    empty = bare (bind g.parameters vs) c.heap

    abbrev callee : State
    callee = with_store (bind g.parameters vs) c

    holds : HoldsInstances p (InClosure p x) true c.heap c.holdings
    holds = holds_possible p x (good p x typed) typed c can stocked

    st : Stock p c.heap c.holdings
    st = stock p (good p x typed) (InClosure p x) true c.heap c.holdings holds

    can_callee : IsConsistent p (with_store (bind g.parameters vs) c)
    can_callee = record { supported = record { grounded = can.supported.grounded; null = can.supported.null }; bounded = can.bounded }

    -- it can be taken firmly
    taken_firmly : (n : ℕ) × (take p (firmly p n) (with_store (bind g.parameters vs) c) full (precondition_of g) c.holdings ≡ Ok rest)
    taken_firmly = takes_firmly p (precondition_of g) callee full rest
        (each_part {P = IsFirmAt p x (bind g.parameters vs) c.heap} {R = IsOnlyFirm p callee} {Q = AreFirmAt p x (bind g.parameters vs) c.heap} {S = AreOnlyFirm p callee}
        (λ e k. k callee refl refl can_callee stocked) (λ es k. k callee refl refl can_callee stocked) (precondition_of g) (firm_parts vs types c.heap)) takes

    abbrev m : ℕ
    m = taken_firmly.0

    took : Took p taken_firmly.0 c.heap (bare (bind g.parameters vs) c.heap) (precondition_of g) c.holdings rest
    took =
        let here : Sees callee empty = record { store = refl; heap = refl } in
        let fine = entered_fine p g.parameters vs c (typed_rigid g.parameters vs (let y = typed.functions f g named in y.parameters) types) (st.debts, st.single) st.grounded in
        take_asks p (good p x typed) speak_now m m (alike p (good p x typed) functions m m (le_refl m)) callee empty fine (matches_seen p callee empty here) (precondition_of g) c.holdings rest asking st taken_firmly.1

    abbrev es : Holdings
    es = took.entries_of

    -- what the function starts with can be held
    holds_start : HoldsInstances p (InClosure p x) true c.heap (added full took.entries_of [])
    holds_start =
        lower p (good p x typed) (InClosure p x) true c.heap c.holdings (added full es []) holds typed_start
        (added_debts p (good p x typed) (InClosure p x) true full es [] full-positive (asking_positive p (applications p m) empty (precondition_of g) es asking took.entries_are) (λ r s. le-refl none))
        (λ i z. holds.grounded i (positive-le z (taken_amount p c.heap es c.holdings rest (Folded i) (held_rigid i (added full es []) (all_single p (InClosure p x) (added full es []) typed_start) z) took.rest_is took.stock)))
        (λ n l. (n, taken_total p (good p x typed) c.heap es c.holdings rest n l took.rest_is took.stock))
      where
        typed_start : TypedAll p (InClosure p x) (added full took.entries_of [])
        typed_start = typed_added p (InClosure p x) full es []
            (asking_typed p (InClosure p x) (no_perm p x typed) typed.functions g.parameters vs types c.heap m (precondition_of g) es (joined_typed p g.parameters g.place g.requires (let y = typed.functions f g named in y.requires))
            (speaks_for (InClosure p x) Before (precondition_of g) asked) took.entries_are) tt

    tree : HasTree p (bare (bind g.parameters vs) c.heap) (precondition_of g)
    tree = has_tree p empty m (precondition_of g) es took.entries_are took.can

    walk : Started (Means p x) p (good p x typed) (InClosure p x) (no_perm p x typed) Before parts f g (let y = typed.functions f g named in y) asked asking (replies f) (pass f g leads named) vs c.heap took.entries_of
    walk = started (Means p x) p (good p x typed) (InClosure p x) (no_perm p x typed) Before parts f g (typed.functions f g named) asked asking (replies f) (pass f g leads named) vs types c.heap m es tree.tree took.entries_are holds_start tree.is

    abbrev start : State
    start = with_holdings (added full es []) (bare (bind g.parameters vs) c.heap)

    given : give p (IsConsistent p) full (precondition_of g) (bare (bind g.parameters vs) c.heap) (Ends start)
    given = gives p (good p x typed) (InClosure p x) m (precondition_of g) empty es asking (λ r s. le-refl none) took.entries_are holds_start walk.start.adds

    starts : StartsAt p g vs c.heap
    starts = record { state = from_now start; starts = (vs, types, (c.heap, start, given, refl)); store = refl; heap = refl }

    -- just what it gives is held there, firmly
    starts_firmly : (n : ℕ) × (start_of p (firmly p n) g vs c.heap ≡ Ok start)
    starts_firmly =
        let k = (starts_hold_firmly p x typed f g named leads (from_now start) (vs, types, (c.heap, start, given, refl)) (firm_parts vs types c.heap)).0.given in
        (k.0, k.2 ∙ ap Ok (added_is p (firmly p k.0) (firm_worth p speak_now k.0) full full-positive (precondition_of g) empty k.1 m es asking took.entries_are k.2))

    -- there it keeps its promise, also without an old part
    applies : KeepsAt p f g vs c.heap → IsAllowed p f vs c
    applies keeps =
        let k = keeps named (from_now start) (vs, types, (c.heap, start, given, refl)) refl refl in
        let now : Further (from_now start) start = record { variables = λ y v e. e; heap = refl; holdings = refl } in
        let now_with : Further (with_result k.value (from_now start)) (with_result k.value start) = record { variables = λ y v e. e; heap = refl; holdings = refl } in
        let fits = firm_further p (good p x typed) functions k.fits.0 (from_now start) start now g.body k.value (speak_now f g named) k.fits.1 in
        let promise = firm_further p (good p x typed) functions k.promise.0 (with_result k.value (from_now start)) (with_result k.value start) now_with (conjoined g.place g.ensures) (BoolValue true) (functions.promises_now f g named) k.promise.1 in
        let r = applies_firmly p f g named vs c rest start k.value m starts_firmly.0 k.fits.0 k.promise.0 taken_firmly.1 starts_firmly.1 fits promise in
        record { fuel = r.0; value = k.value; firm = r.1; applied = (suc r.0, λ n le. (firm_allows p speak_now (suc r.0) n le).applied f vs c k.value r.1) }

  pub allowed_where_taken : IsAllowedWhereTaken p x f g
  allowed_where_taken vs types c can stocked rest takes = (starts vs types c can stocked rest takes, applies vs types c can stocked rest takes)
