-- Nothing of null can be held, inside a folded instance neither: a method that starts with one of x has no null as x.
use Rattle.std.proofs.Common.{◌≡◌, ℕ, zero, suc, pos, Bool, true, false, IsTrue, if◌then◌else◌, List, [], ◌∷◌, ◌++◌, refl, sym, subst, inl, inr, ◌⊎◌, arith, Some, None, Option, ap, ◌∙◌}
use Rattle.std.proofs.lemmas.Grind.{common_steps}
use Rattle.std.specs.Prelude.{Ok, Err, not, nat_eq, unwrap_or}
use Rattle.vx_ast.specs.declared.Place.{Place}
use Rattle.vx_ast.specs.declared.ValueType.TheVariants.{Int}
use Rattle.vx_ast.specs.declared.ValueType.TheVariants as type
use Rattle.vx_ast.specs.Syntax.{Expr, Block, Then, Done, Assert, Pure, Not, Operate, Equal, Greater, Read, Variable, Number, Null}
use Rattle.vx_frac.specs.Fractions.{full, none, product, at_most}
use Rattle.vx_terms.specs.Build.{negate}
use Rattle.vx_terms.specs.Interpretations.{RefLeaf, TreeElement, Interpretation, IsSatisfiable, IsUnsatisfiable}
use Rattle.vx_meaning.specs.Values.{◌>>=◌, Value, IntValue, BoolValue, RefValue, PermValue, is_true}
use Rattle.vx_meaning.specs.States.{State, Heap, Holdings, Location, Instance, At, Folded, HaveTypes, amount, scaled, bind, from_now}
use Rattle.vx_meaning.specs.Evaluate.{value}
use Rattle.vx_meaning.specs.Flatten.{no_applications, bare, with_inner, flat}
use Rattle.vx_meaning.specs.Consistent.{IsConsistent}
use Rattle.vx_meaning.specs.Fits.{Checked}
use Rattle.vx_meaning.specs.Outcomes.{FailsAt}
use Rattle.vx_meaning.specs.Run.{run_all}
use Rattle.vx_meaning.specs.Fails.{MethodFails, MethodStarts, Starts, StartFails, precondition_of, precondition, postcondition_unframed, body, postcondition}
use Rattle.vx_examples.specs.Words.{at, ref, null, differ}
use Rattle.vx_examples.specs.Predicates.{f, x, positive, hidden, hidden_m, opened_path}
use Rattle.vx_examples.proofs.Checks.{only_ok, single}

-- The question: true where x is null, and refuted where the body is known

all_null : Interpretation
all_null = record { functions = λ g a es. TreeElement (RefLeaf 0); quotients = λ n. pos 0; remainders = λ n. pos 0 }

pub hidden_possible : IsSatisfiable (negate (differ (ref 0) null) ∷ [])
unfolding all_null
hidden_possible = (all_null, (refl, tt))

both_ways : (b : Bool) → b ≡ true → not b ≡ true → ⊥
both_ways true e d = cc
both_ways false e d = cc

pub opened_refuted : IsUnsatisfiable (negate (differ (ref 0) null) ∷ opened_path)
opened_refuted i h = both_ways _ h.0 h.1.1.1.1.0

-- What is given at the start

abbrev positive_of : ℕ → Instance
positive_of r = record { predicate = positive; arguments = RefValue r ∷ [] }

abbrev given : ℕ → Heap → State
given r h = record { store = (x, RefValue r) ∷ []; heap = h; holdings = (Folded (positive_of r), product full full) ∷ []; old_heap = h; old_holdings = [] }

abbrev null_f : Location
null_f = record { receiver = 0; field = f }

-- the instance of null, flat, by what its pure part is worth
abbrev flat_by : (Instance → Option Holdings) → Option Value → Option Holdings
flat_by inner o = ((o >>= λ v. if is_true v then Some [] else None) >>= λ ys. Some ((At null_f, full) ∷ ys)) >>= with_inner inner

none_is_not : {R : Type 0} (h : Holdings) → (let o : Option Holdings = None in o) ≡ Some h → R
none_is_not h e = cc

only_null_f : (inner : Instance → Option Holdings) (o : Option Value) (h : Holdings) → flat_by inner o ≡ Some h → flat_by inner o ≡ Some ((At null_f, full) ∷ [])
only_null_f inner None h e = none_is_not h e
only_null_f inner (Some (IntValue z)) h e = none_is_not h e
only_null_f inner (Some (RefValue z)) h e = none_is_not h e
only_null_f inner (Some (PermValue z)) h e = none_is_not h e
only_null_f inner (Some (BoolValue false)) h e = none_is_not h e
only_null_f inner (Some (BoolValue true)) h e = refl

abbrev above_zero : Expr
above_zero = Operate (at 2 42) Greater (Read (at 2 42) (Variable (at 2 42) x) f) (Number (at 2 48) 0)

-- where it is grounded, it has null's field inside
null_f_inside : (n : ℕ) (h : Heap) (inner : Holdings) → flat hidden n h (positive_of 0) ≡ Some inner →
    (k : ℕ) × (flat hidden k h (positive_of 0) ≡ Some ((At null_f, full) ∷ []))
null_f_inside zero h inner e = none_is_not inner e
null_f_inside (suc k) h inner e = (suc k, only_null_f (flat hidden k h) (value hidden no_applications (bare ((x, RefValue 0) ∷ []) h) above_zero) inner e)

not_true : IsTrue false → ⊥
not_true h = cc

null_cannot_be : (h : Heap) → IsConsistent hidden (given 0 h) → ⊥
null_cannot_be h c =
    let g = c.supported.grounded (positive_of 0) refl in
    let i = null_f_inside g.0 h g.1 g.2 in
    not_true
    (subst (λ o. IsTrue (at_most (amount ((Folded (positive_of 0), product full full) ∷ (unwrap_or (o >>= λ inner. Some (scaled (product full full) inner)) [] ++ [])) (At null_f)) none)) i.1
    (c.supported.null i.0 f))

-- The method

int_no_ref : Int ≡ type.Ref → ⊥
int_no_ref e = cc

bool_no_ref : type.Bool ≡ type.Ref → ⊥
bool_no_ref e = cc

perm_no_ref : type.Perm ≡ type.Ref → ⊥
perm_no_ref e = cc

by_reference : (P : List Value → List Value → Type 0) → ((r : ℕ) → P (RefValue r ∷ []) []) →
    (vs ws : List Value) → HaveTypes hidden_m.parameters vs → HaveTypes hidden_m.returns ws → P vs ws
by_reference P each [] ws t u = absurd t
by_reference P each (v ∷ w ∷ vs) ws t u = absurd t.1
by_reference P each (v ∷ []) (w ∷ ws) t u = absurd u
by_reference P each (IntValue z ∷ []) [] t u = absurd (int_no_ref t.0)
by_reference P each (BoolValue z ∷ []) [] t u = absurd (bool_no_ref t.0)
by_reference P each (PermValue z ∷ []) [] t u = absurd (perm_no_ref t.0)
by_reference P each (RefValue r ∷ []) [] t u = each r

never_possible : {A B : Type 0} → (A × ⊥) ⊎ (B × ⊥) → ⊥
never_possible (inl c) = c.1
never_possible (inr c) = c.1

possible_is : {A B : Type 0} (s t : State) → (A × (t ≡ s)) ⊎ (B × ⊥) → A × (t ≡ s)
possible_is s t (inl c) = c
possible_is s t (inr c) = absurd c.1

start_never_fails : (place : Place) (vs ws : List Value) → HaveTypes hidden_m.parameters vs → HaveTypes hidden_m.returns ws →
    StartFails hidden (bind hidden_m.parameters vs ++ bind hidden_m.returns ws) (precondition_of hidden_m) place → ⊥
start_never_fails place =
    by_reference (λ vs ws. StartFails hidden (bind hidden_m.parameters vs ++ bind hidden_m.returns ws) (precondition_of hidden_m) place → ⊥)
    (λ r s. never_possible (only_ok _ (Folded (positive_of r), full) _ _ (λ k. refl) s.1))

abbrev IsGiven : State → Type 0
IsGiven s = (r : ℕ) × (h : Heap) × IsConsistent hidden (given r h) × (s ≡ from_now (given r h))

given_by : (s : State) (r : ℕ) → Starts hidden ((x, RefValue r) ∷ []) (precondition_of hidden_m) s → IsGiven s
given_by s r (h, t, g, e) =
    let c = possible_is (given r h) t (only_ok _ (Folded (positive_of r), full) _ _ (λ k. refl) g) in (r, h, c.0, e ∙ ap from_now c.1)

is_given : (s : State) → MethodStarts hidden hidden_m s → IsGiven s
is_given s (vs, ws, t, u, start) =
    by_reference (λ vs ws. Starts hidden (bind hidden_m.parameters vs ++ bind hidden_m.returns ws) (precondition_of hidden_m) s → IsGiven s) (given_by s) vs ws t u start

abbrev asserts : Block
asserts = Then (Assert (at 5 1) (Pure (Not (at 5 8) (Operate (at 5 8) Equal (Variable (at 5 8) x) (Null (at 5 13)))))) Done

not_null : (r : ℕ) → nat_eq (suc r) 0 ≡ false
not_null r = grind (arith, common_steps)

assert_never_fails : (r : ℕ) (h : Heap) (place : Place) → IsConsistent hidden (given r h) → run_all hidden asserts (from_now (given r h)) (FailsAt place) → ⊥
assert_never_fails zero h place c run = null_cannot_be h c
assert_never_fails (suc r) h place c run = only_ok _ (given (suc r) h).holdings _ _ (λ k. rw (not_null r) refl) (single _ run)

some_is : (a b : Block) → (let o : Option Block = Some a in o) ≡ Some b → a ≡ b
some_is a b e = cc

never_refused : (h : Holdings) (place : Place) → (let c : Checked Holdings = Ok h in c) ≡ Err place → ⊥
never_refused h place e = cc

pub hidden_never : (place : Place) → MethodFails hidden hidden_m place → ⊥
hidden_never place (precondition vs ws t u start) = start_never_fails place vs ws t u start
hidden_never place (postcondition_unframed s vs ws us h t u v start g) = only_ok _ (BoolValue true) _ _ (λ k. refl) g
hidden_never place (body s b start e run) =
    let g = is_given s start in
    assert_never_fails g.0 g.1 place g.2
    (subst (λ z. run_all hidden asserts z (FailsAt place)) g.3
    (subst (λ c. run_all hidden c s (FailsAt place)) (sym (some_is asserts b e)) run))
hidden_never place (postcondition s t b start e run (k, d)) = never_refused t.holdings place (d k (omega arith))
