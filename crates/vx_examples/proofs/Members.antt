-- Members that fail, each by the state and the part that shows it.
use Rattle.std.proofs.Common.{◌≡◌, ℕ, zero, suc, pos, true, false, IsTrue, List, [], ◌∷◌, refl, sym, subst, inl, inr, ◌⊎◌, arith, Some, None, Option, ap, ◌∙◌}
use Rattle.std.specs.Prelude.{Ok, Err, Contains, ◌++◌}
use Rattle.vx_ast.specs.declared.Place.{Place}
use Rattle.vx_ast.specs.declared.ValueType.TheVariants.{Int}
use Rattle.vx_ast.specs.declared.ValueType.TheVariants as type
use Rattle.vx_ast.specs.Syntax as syntax
use Rattle.vx_ast.specs.Syntax.{Program, Function, Name, result_name, Assertion, as_assertion, conjoined, function_named, Assert, Then, Done, Pure, Variable}
use Rattle.vx_frac.specs.Fractions.{full, is_positive}
use Rattle.vx_meaning.specs.Values.{Value, IntValue, BoolValue, RefValue, PermValue, type_of}
use Rattle.vx_meaning.specs.States.{State, Store, Heap, Holdings, Instance, At, Folded, amount, bind, with_store}
use Rattle.vx_meaning.specs.Consistent.{IsSupported}
use Rattle.vx_meaning.specs.Flatten.{bare, flat, IsInside}
use Rattle.vx_meaning.specs.Fits.{Checked, take_by}
use Rattle.vx_meaning.specs.Give.{give}
use Rattle.vx_meaning.specs.Outcomes.{FailsAt, passes, refused, goes_on, is_over}
use Rattle.vx_meaning.specs.Fails.{MethodFails, precondition, postcondition_unframed, body, postcondition, Measure, Number, Inside, Lowers, LowersMeasure, HasMeasure, measure_by, FunctionFails, application_in_body, application_in_postcondition, measure, PredicateFails, Fails, FunctionStarts, with_result}
use Rattle.vx_meaning.specs.Fails as fails
use Rattle.vx_examples.specs.Words.{at}
use Rattle.vx_examples.specs.Failing.{f, n, b, c, x, cell, failing, failing_unframed, narrow, failing_narrow, divide, failing_divide, promise, failing_promise, rise, failing_rise, unheld, failing_unheld, unmeasured, failing_unmeasured, again, failing_again, wild, failing_wild, stay, failing_stay, fine, failing_fine, failing_demand, failing_vow, failing_claim, failing_give, failing_cell}
use Rattle.vx_examples.proofs.Checks.{only_ok}

-- Methods

abbrev store_of : Name → Value → Store
store_of v value = (v, value) ∷ []

-- from an empty heap
abbrev from : Store → State
from variables = bare variables []

pub methods_precondition : MethodFails failing failing_demand (at 15 32)
methods_precondition = precondition (IntValue (pos 0) ∷ []) [] (refl, tt) tt ([], refused (at 15 32) (0, λ m le. refl) refl)

pub methods_postcondition_unframed : MethodFails failing failing_vow (at 16 28)
methods_postcondition_unframed =
    postcondition_unframed (from (store_of x (RefValue 1))) (RefValue 1 ∷ []) [] [] [] (refl, tt) tt tt
    ([], from (store_of x (RefValue 1)), passes (BoolValue true) (0, λ m le. refl) refl, refl)
    (refused (at 16 28) (0, λ m le. refl) refl)

pub methods_body : MethodFails failing failing_claim (at 17 32)
methods_body =
    body (from (store_of b (BoolValue false))) (Then (Assert (at 17 25) (Pure (Variable (at 17 32) b))) Done)
    (BoolValue false ∷ [], [], (refl, tt), tt, ([], from (store_of b (BoolValue false)), passes (BoolValue true) (0, λ m le. refl) refl, refl))
    refl (is_over tt (refused (at 17 32) (0, λ m le. refl) refl))

abbrev given : State
given = from ((b, BoolValue false) ∷ (c, BoolValue true) ∷ [])

abbrev assigned : State
assigned = from ((b, BoolValue false) ∷ (c, BoolValue false) ∷ [])

pub methods_postcondition : MethodFails failing failing_give (at 18 48)
methods_postcondition =
    postcondition given assigned _
    (BoolValue false ∷ [], BoolValue true ∷ [], (refl, tt), (refl, tt), ([], given, passes (BoolValue true) (0, λ m le. refl) refl, refl))
    refl (goes_on assigned (passes (BoolValue false) (0, λ m le. refl) refl) refl) (0, λ m le. refl)

-- Functions

abbrev n_is : Value → State
n_is v = from (store_of n v)

pub functions_precondition : FunctionFails failing narrow failing_narrow
functions_precondition = fails.FunctionFails.precondition (IntValue (pos 0) ∷ []) (at 4 39) (refl, tt) ([], refused (at 4 39) (0, λ m le. refl) refl)

started : (v : Value) → type_of v ≡ Int → (g : Function) → Unit {0}
started v t g = tt

pub functions_body : FunctionFails failing divide failing_divide
functions_body =
    fails.FunctionFails.body (n_is (IntValue (pos 0))) (at 5 32)
    (IntValue (pos 0) ∷ [], (refl, tt), ([], n_is (IntValue (pos 0)), passes (BoolValue true) (0, λ m le. refl) refl, refl)) (0, λ m le. refl)

pub functions_postcondition : FunctionFails failing promise failing_promise
functions_postcondition =
    fails.FunctionFails.postcondition (n_is (IntValue (pos 0))) (IntValue (pos 0)) (at 6 39)
    (IntValue (pos 0) ∷ [], (refl, tt), ([], n_is (IntValue (pos 0)), passes (BoolValue true) (0, λ m le. refl) refl, refl)) (0, λ m le. refl) (0, λ m le. refl)

not_true : IsTrue false → ⊥
not_true h = cc

pub functions_unheld_measure : FunctionFails failing unheld failing_unheld
functions_unheld_measure =
    measure (from (store_of x (RefValue 1))) _
    (RefValue 1 ∷ [], (refl, tt), ([], from (store_of x (RefValue 1)), passes (BoolValue true) (0, λ m le. refl) refl, refl)) refl
    (inr (0, RefValue 1 ∷ [], refl, λ h. not_true h))

pub functions_measure_without_value : FunctionFails failing unmeasured failing_unmeasured
functions_measure_without_value =
    measure (n_is (IntValue (pos 0))) _
    (IntValue (pos 0) ∷ [], (refl, tt), ([], n_is (IntValue (pos 0)), passes (BoolValue true) (0, λ m le. refl) refl, refl)) refl
    (at 9 44, (0, λ m le. refl))

-- an application doesn't lower the measure where the two measures don't fall

pub some_is : {A : Type 0} (a b : A) → (let o : Option A = Some a in o) ≡ Some b → a ≡ b
some_is a b e = cc

pub unlowered : (p : Program) (e : syntax.Measure) (s : State) (g : Name) (vs : List Value) (callee : Function) (m : syntax.Measure) (before after : Measure) →
    function_named p g ≡ Some callee → callee.decreases ≡ Some m →
    ((k : ℕ) → measure_by p k s e ≡ Some before) → ((k : ℕ) → measure_by p k (with_store (bind callee.parameters vs) s) m ≡ Some after) →
    (Lowers p s.heap before after → ⊥) → LowersMeasure p e s g vs → ⊥
unlowered p e s g vs callee m before after named measured is_before is_after not_lower l = by_callee l.callee (sym (some_is callee l.callee (sym named ∙ l.is_callee))) l.has_measure l.after_is where
  by_measures : (b a : Measure) → b ≡ before → a ≡ after → Lowers p s.heap b a → ⊥
  by_measures b a eb ea h = not_lower (subst (λ y. Lowers p s.heap before y) ea (subst (λ y. Lowers p s.heap y a) eb h))

  by_callee : (d : Function) → d ≡ callee → d.decreases ≡ Some l.of_callee → HasMeasure p (with_store (bind d.parameters vs) s) l.of_callee l.after → ⊥
  by_callee d same has h =
      let em : l.of_callee ≡ m = some_is l.of_callee m (sym has ∙ ap (λ y. y.decreases) same ∙ measured) in
      let ea : measure_by p h.0 (with_store (bind callee.parameters vs) s) m ≡ Some l.after =
      subst (λ y. measure_by p h.0 (with_store (bind callee.parameters vs) s) y ≡ Some l.after) em
      (subst (λ y. measure_by p h.0 (with_store (bind y.parameters vs) s) l.of_callee ≡ Some l.after) same h.1) in
      by_measures l.before l.after (some_is l.before before (sym l.before_is.1 ∙ is_before l.before_is.0))
      (some_is l.after after (sym ea ∙ is_after h.0)) l.lowers

pub functions_application : FunctionFails failing rise failing_rise
functions_application =
    application_in_body (n_is (IntValue (pos 0))) (rise, IntValue (pos 1) ∷ [])
    (IntValue (pos 0) ∷ [], (refl, tt), ([], n_is (IntValue (pos 0)), passes (BoolValue true) (0, λ m le. refl) refl, refl))
    (0, (0, omega arith, refl)) (
      ((1, inl (failing_rise, refl, (0, omega arith, refl))), (1, inl (failing_rise, refl, (0, omega arith, refl)))),
      λ e h l. unlowered failing _ (n_is (IntValue (pos 0))) rise (IntValue (pos 1) ∷ []) failing_rise _ (Number (pos 0)) (Number (pos 1)) refl refl (λ k. refl) (λ k. refl) (λ r. absurd (omega arith)) (subst (λ y. LowersMeasure failing y (n_is (IntValue (pos 0))) rise (IntValue (pos 1) ∷ [])) (sym (some_is _ e h)) l),
    )

pub functions_unmeasured_application : FunctionFails failing wild failing_wild
functions_unmeasured_application =
    application_in_body (n_is (IntValue (pos 0))) (wild, IntValue (pos 0) ∷ [])
    (IntValue (pos 0) ∷ [], (refl, tt), ([], n_is (IntValue (pos 0)), passes (BoolValue true) (0, λ m le. refl) refl, refl))
    (0, (0, omega arith, refl))
    (((1, inl (failing_wild, refl, (0, omega arith, refl))), (1, inl (failing_wild, refl, (0, omega arith, refl)))), λ e h l. no_measure e h) where
      no_measure : (e : syntax.Measure) → (let o : Option syntax.Measure = None in o) ≡ Some e → ⊥
      no_measure e h = cc

-- Predicates

pub predicates_unframed : PredicateFails failing failing_unframed
predicates_unframed = fails.PredicateFails.body (RefValue 1 ∷ []) [] _ (at 3 30) (refl, tt) refl (refused (at 3 30) (0, λ m le. refl) refl)

no_side : {A B : Type 0} → (A × ⊥) ⊎ (B × ⊥) → ⊥
no_side (inl c) = c.1
no_side (inr c) = c.1

framed_from : (r : ℕ) (h : Heap) (e : Assertion) (place : Place) → (let o : Option Assertion = Some e in o) ≡ failing_cell.body →
    give failing (IsSupported failing) full e (bare ((x, RefValue r) ∷ []) h) (FailsAt place) → ⊥
framed_from r h e place same g =
    no_side (only_ok _ (At record { receiver = r; field = f }, full) _ _ (λ k. refl)
    (subst (λ a. give failing (IsSupported failing) full a (bare ((x, RefValue r) ∷ []) h) (FailsAt place)) (some_is e _ same) g))

int_no_ref : Int ≡ type.Ref → ⊥
int_no_ref e = cc

bool_no_ref : type.Bool ≡ type.Ref → ⊥
bool_no_ref e = cc

perm_no_ref : type.Perm ≡ type.Ref → ⊥
perm_no_ref e = cc

pub predicates_framed : PredicateFails failing failing_cell → ⊥
predicates_framed (fails.PredicateFails.body [] h e place types same g) = types
predicates_framed (fails.PredicateFails.body (IntValue z ∷ []) h e place types same g) = int_no_ref types.0
predicates_framed (fails.PredicateFails.body (BoolValue z ∷ []) h e place types same g) = bool_no_ref types.0
predicates_framed (fails.PredicateFails.body (PermValue z ∷ []) h e place types same g) = perm_no_ref types.0
predicates_framed (fails.PredicateFails.body (RefValue r ∷ []) h e place types same g) = framed_from r h e place (sym same) g
predicates_framed (fails.PredicateFails.body (v ∷ w ∷ vs) h e place types same g) = types.1

no_measure_here : (e : syntax.Measure) → (let o : Option syntax.Measure = None in o) ≡ Some e → ⊥
no_measure_here e h = cc

none_is_not : (h : Holdings) → (let o : Option Holdings = None in o) ≡ Some h → ⊥
none_is_not h e = cc

pub predicates_field : Fails failing f (syntax.IsField Int) → ⊥
predicates_field h = h

-- An instance as a measure

pub functions_instance_application : FunctionFails failing stay failing_stay
functions_instance_application =
    application_in_body (from (store_of x (RefValue 1))) (stay, RefValue 1 ∷ [])
    (RefValue 1 ∷ [], (refl, tt), ([], from (store_of x (RefValue 1)), passes (BoolValue true) (0, λ m le. refl) refl, refl))
    (0, (0, omega arith, refl)) (
      ((1, inl (failing_stay, refl, (0, omega arith, refl))), (1, inl (failing_stay, refl, (0, omega arith, refl)))),
      λ e h l. unlowered failing _ (from (store_of x (RefValue 1))) stay (RefValue 1 ∷ []) failing_stay _ (Inside one_cell) (Inside one_cell) refl refl (λ k. refl) (λ k. refl) not_in_itself (subst (λ y. LowersMeasure failing y (from (store_of x (RefValue 1))) stay (RefValue 1 ∷ [])) (sym (some_is _ e h)) l),
    ) where
      one_cell : Instance
      one_cell = record { predicate = cell; arguments = RefValue 1 ∷ [] }

      by_flat : (k : ℕ) (inner : Holdings) → flat failing k [] one_cell ≡ Some inner → IsTrue (is_positive (amount inner (Folded one_cell))) → ⊥
      by_flat zero inner e = absurd (none_is_not inner e)
      by_flat (suc k) inner e = λ h. not_true (subst (λ z. IsTrue (is_positive (amount z (Folded one_cell)))) (sym (some_is _ inner e)) h)

      not_in_itself : IsInside failing [] one_cell one_cell → ⊥
      not_in_itself i = by_flat i.0 i.1 i.2 i.3

pub functions_promise_application : FunctionFails failing again failing_again
functions_promise_application =
    application_in_postcondition (n_is (IntValue (pos 0))) (IntValue (pos 0)) (again, IntValue (pos 0) ∷ [])
    (IntValue (pos 0) ∷ [], (refl, tt), ([], n_is (IntValue (pos 0)), passes (BoolValue true) (0, λ m le. refl) refl, refl))
    (0, λ m le. refl) (0, (0, omega arith, refl)) (
      ((1, inl (failing_again, refl, (0, omega arith, refl))), (1, inl (failing_again, refl, (0, omega arith, refl)))),
      λ e h l. unlowered failing _ (n_is (IntValue (pos 0))) again (IntValue (pos 0) ∷ []) failing_again _ (Number (pos 0)) (Number (pos 0)) refl refl (λ k. refl) (λ k. refl) (λ r. absurd (omega arith)) (subst (λ y. LowersMeasure failing y (n_is (IntValue (pos 0))) again (IntValue (pos 0) ∷ [])) (sym (some_is _ e h)) l),
    )

-- A function that never fails

not_both : {A : Type 0} {R : Type 0} (a : A) (place : Place) → (let y : Checked A = Ok a in y) ≡ Err place → R
not_both a place e = cc

ok_is : {A : Type 0} (a v : A) → (let y : Checked A = Ok a in y) ≡ Ok v → a ≡ v
ok_is a v e = cc

none_held : {A : Type 0} (a : A) → Contains [] a → ⊥
none_held a (k, less, e) = absurd (omega arith)

zero_taken : (v w : Value) (s : State) (place : Place) (k : ℕ) → IntValue (pos 0) ≡ w → s.store ≡ (n, v) ∷ [] →
    take_by failing k (with_result w s) full (as_assertion (conjoined failing_fine.place failing_fine.ensures)) s.holdings ≡ Err place → ⊥
zero_taken v w s place k ew es e =
    not_both s.holdings place
    (subst (λ z. take_by failing k (with_store (z ++ (result_name, IntValue (pos 0)) ∷ []) s) full (as_assertion (conjoined failing_fine.place failing_fine.ensures)) s.holdings ≡ Err place) es
    (subst (λ z. take_by failing k (with_result z s) full (as_assertion (conjoined failing_fine.place failing_fine.ensures)) s.holdings ≡ Err place) (sym ew) e))

fine_start : (s : State) → FunctionStarts failing failing_fine s → (v : Value) × (s.store ≡ (n, v) ∷ [])
fine_start s ([], types, start) = absurd types
fine_start s (v ∷ w ∷ vs, types, start) = absurd types.1
fine_start s (v ∷ [], types, (h, t, g, e)) =
    let et : t ≡ bare ((n, v) ∷ []) h = only_ok _ (BoolValue true) _ _ (λ k. refl) g in (v, ap (λ u. u.store) e ∙ ap (λ u. u.store) et)

pub functions_fine : FunctionFails failing fine failing_fine → ⊥
functions_fine (fails.FunctionFails.precondition vs place types (h, g)) = only_ok _ (BoolValue true) _ _ (λ k. refl) g
functions_fine (fails.FunctionFails.body s place start (k, e)) = not_both (IntValue (pos 0)) place (e k (omega arith))
functions_fine (fails.FunctionFails.postcondition s v place start (j, d) (k, e)) =
    let shape = fine_start s start in zero_taken shape.0 v s place k (ok_is _ v (d j (omega arith))) shape.1 (e k (omega arith))
functions_fine (measure s m start e worse) = no_measure_here m e
functions_fine (application_in_body s a start (k, e) worse) = none_held a e
functions_fine (application_in_postcondition s v a start fits (k, e) worse) = none_held a e
