-- Applications of a function at the same arguments, with the same asking tree of its precondition, have values that look the same.
use Rattle.std.proofs.Common.{◌≡◌, ℕ, zero, suc, ◌≤◌, Bool, true, false, cond, List, [], ◌∷◌, Some, refl, sym, ◌∙◌, ap, ap₂, subst, arith}
use Rattle.std.proofs.lemmas.Option.{same_Some}
use Rattle.vx_frac.specs.Fractions.{Fraction, none, full, sum, product}
use Rattle.vx_ast.specs.Syntax.{Name, Program, Predicate, Function, function_named}
use Rattle.vx_meaning.specs.Values.{Value}
use Rattle.vx_meaning.specs.States as run
use Rattle.vx_meaning.specs.States.{State, Store, Heap, Holdings, Instance, Resource, At, Folded, same_resource, amount, bind, with_store}
use Rattle.vx_meaning.specs.Evaluate.{applications, value}
use Rattle.vx_meaning.specs.Flatten.{bare, IsGrounded}
use Rattle.vx_meaning.specs.Consistent.{IsConsistent}
use Rattle.vx_meaning.specs.Fits.{add}
use Rattle.vx_terms.specs.Interpretations.{Tree}
use Rattle.vx_types.specs.Premises.{IsTypedProgram}
use Rattle.vx_types.specs.Closure.{InClosure}
use Rattle.vx_amounts.proofs.Amounts.{Le, Positive, Same, same-refl, same-trans, le-trans, sum_same, none-sum, sum_comm, above-add, positive-le}
use Rattle.vx_amounts.proofs.Products.{product-full, product-none}
use Rattle.vx_sound_preds.specs.Bodies.{AreRigid, GoodBodies}
use Rattle.vx_sound_preds.specs.Covered.{Covered, IsProper, TypedInstances, IsStocked}
use Rattle.vx_sound_preds.proofs.Fitting.{step}
use Rattle.vx_sound_preds.proofs.Looks.{Sees}
use Rattle.vx_sound_preds.proofs.Totals.{weigh}
use Rattle.vx_sound_preds.proofs.Grouped.{IsSingle}
use Rattle.vx_sound_preds.proofs.Adding.{added, weigh_added}
use Rattle.vx_sound_preds.proofs.Exchanging.{held_rigid}
use Rattle.vx_sound_preds.proofs.Folding.{Stock}
use Rattle.vx_sound_preds.proofs.Taking.{taken, weigh_taken}
use Rattle.vx_sound_preds.proofs.Holding.{HoldsInstances, TypedAll, stock, of_possible}
use Rattle.vx_sound_preds.proofs.Keeping.{held_typed}
use Rattle.vx_sound_preds.proofs.Walks.{held_proper}
use Rattle.vx_sound_funcs.specs.Told.{LooksLike, precondition_of, IsValueOf}
use Rattle.vx_sound_funcs.specs.Firm.{firm_application, firmly, FitsFirmly}
use Rattle.vx_sound_funcs.proofs.Likes.{looks_like}
use Rattle.vx_sound_funcs.proofs.Steps.{Steps, nothing_some, steps_of}
use Rattle.vx_sound_funcs.specs.Firm.{GoodFunctions, HoldsFirmly}
use Rattle.vx_sound_preds.specs.Asking.{IsAskingTreeOf}
use Rattle.vx_sound_funcs.proofs.Firm.{alike, Begun, begun, see_firmly}
use Rattle.vx_sound_funcs.proofs.Holding.{fine, matches}

-- An amount is a sum by weights.

abbrev only : Resource → Resource → Fraction
only r c = cond (same_resource r c) full none

amount_weighs : (r : Resource) (hs : Holdings) → Same (amount hs r) (weigh (only r) hs)
unfolding weigh
amount_weighs r [] = same-refl none
amount_weighs r (x ∷ xs) = go (same_resource r x.0) (amount_weighs r xs)
  where
    go : (b : Bool) → Same (amount xs r) (weigh (only r) xs) → Same (cond b (sum x.1 (amount xs r)) (amount xs r)) (sum (product x.1 (cond b full none)) (weigh (only r) xs))
    go true k = sum_same (record { there = (product-full x.1).back; back = (product-full x.1).there }) k
    go false k =
        let nil : Same (sum (product x.1 none) (weigh (only r) xs)) (weigh (only r) xs) = same-trans (sum_same (product-none x.1) (same-refl (weigh (only r) xs))) (none-sum (weigh (only r) xs)) in
        record { there = le-trans k.there nil.back; back = le-trans nil.there k.back }

-- what is taken of a resource was held
pub taken_amount : (p : Program) (h : Heap) (es hs rest : Holdings) (r : Resource) → IsSingle r → rest ≡ taken full es hs → Stock p h rest → Le (amount (added full es []) r) (amount hs r)
unfolding weigh
taken_amount p h es hs rest r sr is st =
    let w = only r in
    let left : Le none (weigh w rest) = le-trans (st.debts r sr) (amount_weighs r rest).there in
    let whole = subst (λ (q : Holdings). Same (sum (product full (weigh w es)) (weigh w q)) (weigh w hs)) (sym is) (weigh_taken w full es hs) in
    let nil : Same (sum (product full (weigh w es)) none) (product full (weigh w es)) = same-trans (sum_comm (product full (weigh w es)) none) (none-sum (product full (weigh w es))) in
    le-trans (amount_weighs r (added full es [])).there (le-trans (weigh_added w full es []).there (le-trans nil.there
    (le-trans (above-add (product full (weigh w es)) (weigh w rest) left) (le-trans whole.there (amount_weighs r hs).back))))

-- what is held in a state that can be
pub typed_all : (p : Program) (x : Name) → IsTypedProgram p → (hs : Holdings) → TypedInstances p x hs → TypedAll p (InClosure p x) hs
typed_all p x typed [] h = tt
typed_all p x typed ((At l, a) ∷ xs) h = (tt, typed_all p x typed xs h)
typed_all p x typed ((Folded i, a) ∷ xs) h = ((h.0.0, (h.0.1.0, h.0.1.1, (typed.predicates i.predicate h.0.1.0 h.0.1.1).parameters, h.0.1.2)), typed_all p x typed xs h.1)

pub holds_possible : (p : Program) (x : Name) (good : GoodBodies p) → IsTypedProgram p → (s : State) → IsConsistent p s → IsStocked p x s.holdings → HoldsInstances p (InClosure p x) true s.heap s.holdings
holds_possible p x good typed s co st = of_possible p good (InClosure p x) true s co (typed_all p x typed s.holdings st.instances) (λ r k. record { holds = st.debts r })

self : (n : ℕ) → n ≤ n
self n = omega arith

-- a function's value, from that of its body in a state with its arguments
applied : (p : Program) (f : Name) (g : Function) (vs : List Value) (s : State) (v : Value) (n : ℕ) → function_named p f ≡ Some g → s.store ≡ bind g.parameters vs → value p (applications p n) s g.body ≡ Some v → applications p (suc n) f vs s ≡ Some v
applied p f g vs s v n named store e =
    step (λ (g : Function). value p (applications p n) (with_store (bind g.parameters vs) s) g.body) g named
    ∙ ap (λ (x : Store). value p (applications p n) (with_store x s) g.body) (sym store) ∙ e

-- the first tree is that in a state with the same variables and heap
pub determined : (p : Program) (Good : Heap → Instance → Type 0) (good : GoodBodies p) (functions : GoodFunctions p) (covered : Covered p Good) (f : Name) (g : Function) (named : function_named p f ≡ Some g) (vs : List Value) (o s t : State) (v : Value) (tree : Tree) →
    Sees s o → HoldsFirmly p Good (precondition_of g) s → s.store ≡ bind g.parameters vs → t.store ≡ s.store → IsAskingTreeOf p o (precondition_of g) tree → IsAskingTreeOf p t (precondition_of g) tree → FitsFirmly p s g.body v → (w : Value) × IsValueOf p f vs t w × LooksLike v w
determined p Good good functions covered f g named vs o s t v tree sees k args store here there fi =
    let asks = functions.asks f g named in
    let known = fine p good functions Good covered (precondition_of g) asks s k in
    let r = see_firmly p good functions fi.0 fi.0 (self fi.0) s t known (matches p good functions Good covered (precondition_of g) asks s k o sees t store tree here there) g.body v (functions.says f g named) fi.1 in
    (r.it, (suc fi.0, applied p f g vs t r.it fi.0 named (store ∙ args) r.is), looks_like r.like)

module _ (p : Program) (x : Name) (good : GoodBodies p) (functions : GoodFunctions p) (covered : Covered p (IsProper p x)) (typed : IsTypedProgram p) where
  -- what is held in a state that can be
  module _ (s : State) (co : IsConsistent p s) (st : IsStocked p x s.holdings) where
    stocked : Stock p s.heap s.holdings
    stocked = stock p good (InClosure p x) true s.heap s.holdings (holds_possible p x good typed s co st)

    proper : (i : Instance) → Positive (amount s.holdings (Folded i)) → IsProper p x s.heap i
    proper i k =
        let h = held_typed p (InClosure p x) s.holdings (typed_all p x typed s.holdings st.instances) i k in
        held_proper p x good s co.supported stocked i k h.0 (λ d e. subst (λ (d : Predicate). run.HaveTypes d.parameters i.arguments) (same_Some h.1.0 d (sym h.1.1 ∙ e)) h.1.3)

  module _ (f : Name) (g : Function) (named : function_named p f ≡ Some g) (vs : List Value) (ri : AreRigid vs) where
    -- where the function starts just its precondition is held, of instances that the caller holds
    start_holds : (n m : ℕ) (s : State) (v : Value) → IsConsistent p s → IsStocked p x s.holdings → (k : Steps p (firmly p n) g vs s v) → Begun p good functions m g vs s k.start k.rest → HoldsFirmly p (IsProper p x) (precondition_of g) k.start
    start_holds n m s v co st k b = record {
      given = (n, k.start, ap (add p (firmly p n) full (precondition_of g)) same ∙ k.starts, refl);
      rigid = b.adds.fine.typed;
      good = λ i z. subst (λ (h : Heap). IsProper p x h i × IsGrounded p h i) (sym b.adds.heap) (good_in i (record { holds = z }));
    }
      where
        same : bare k.start.store k.start.heap ≡ bare (bind g.parameters vs) s.heap
        same = ap₂ bare b.adds.store b.adds.heap

        good_in : (i : Instance) → Positive (amount k.start.holdings (Folded i)) → IsProper p x s.heap i × IsGrounded p s.heap i
        good_in i z =
            let rigid = held_rigid i k.start.holdings b.adds.fine.forth.1 z in
            let there : Positive (amount s.holdings (Folded i)) = positive-le (subst (λ (hs : Holdings). Positive (amount hs (Folded i))) b.adds.holdings z) (taken_amount p s.heap b.entries_of s.holdings k.rest (Folded i) rigid b.rest_is b.stock) in
            (proper s co st i there, co.supported.grounded i there.holds)

    own_store : (n : ℕ) (t : State) (w : Value) → applications p n f vs (with_store (bind g.parameters vs) t) ≡ Some w → applications p n f vs t ≡ Some w
    own_store zero t w e = nothing_some w e
    own_store (suc n) t w e = e

    pub applications_agree : (n : ℕ) (s t : State) (v : Value) (tree : Tree) → IsConsistent p s → IsStocked p x s.holdings → firm_application p (firmly p n) f vs s ≡ Some v →
        IsAskingTreeOf p (with_store (bind g.parameters vs) s) (precondition_of g) tree → IsAskingTreeOf p (with_store (bind g.parameters vs) t) (precondition_of g) tree → (w : Value) × IsValueOf p f vs t w × LooksLike v w
    applications_agree n s t v tree co st e here there =
        let k = steps_of p (firmly p n) f g vs s v named e in
        let b = begun p good functions n n (alike p good functions n n (self n)) f g vs s v named ri (stocked s co st) k in
        let sees : Sees k.start (with_store (bind g.parameters vs) s) = record { store = sym b.adds.store; heap = sym b.adds.heap } in
        let r = determined p (IsProper p x) good functions covered f g named vs (with_store (bind g.parameters vs) s) k.start (with_store (bind g.parameters vs) t) v tree sees (start_holds n n s v co st k b) b.adds.store (sym b.adds.store) here there (n, k.fits) in
        (r.0, (r.1.0, own_store r.1.0 t r.0 r.1.1), r.2)
