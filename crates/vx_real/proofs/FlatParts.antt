-- Expressions and assertions of the fragment ask flat questions from flat states.
use Rattle.std.proofs.Common.{◌≡◌, false, cond, ◌&&◌, pos, List, [], ◌∷◌, None, refl, sym, subst}
use Rattle.vx_ast.specs.Syntax.{Name, same_name, Program, place_of, Operator, Equal, Less, LessEqual, Greater, GreaterEqual, Add, Subtract, Multiply, Division, Quotient, Remainder, Connective, And, Or, Implies, Expr, Number, Truth, Null, Part, Variable, Not, Operate, Divide, Connect, Choose, Read, Old, Apply, Unfolding, Exprs, NoMore, More, Assertion, Pure, Points, Instance, Both, Implied, Chosen}
use Rattle.vx_frac.specs.Fractions.{whole}
use Rattle.vx_terms.specs.Sorts.{RealSort, same_sort}
use Rattle.vx_terms.specs.Terms as term
use Rattle.vx_terms.specs.Terms.{Term, sort_of}
use Rattle.vx_terms.specs.Build.{true_term, false_term, negate, equals, less_equal, multiply, unit, pair, wrap, zero_amount}
use Rattle.vx_terms.specs.Interpretations.{Each}
use Rattle.vx_rules.specs.States.{Store, found, Chunk, Heap, State, with_heap, with_fact, fresh, after_fresh}
use Rattle.vx_rules.specs.Trees.{DivisorCode, AmountCode, Step}
use Rattle.vx_rules.specs.Chunks.{field_key, put}
use Rattle.vx_rules.specs.Rules.{Giving, Going, GivingAll, Context, Outer, as_amount, operated, divided, connected, is_total, short, placed, field_sort, with_built_wrap, with_built_pair, take_chunk, eval, evals, produce, consume}
use Rattle.vx_types.specs.FieldLanguage.{InFields, IsOfFields}
use Rattle.vx_types.specs.CallLanguage.{AreInFields}
use Rattle.vx_real.proofs.Flat.{IsFlat, cond_flat, negate_flat, flat_and, flat_or, flat_implies, flat_equals, flat_ite, flat_less, flat_less_equal, flat_add, flat_subtract, flat_multiply, flat_div, flat_modulo}
use Rattle.vx_real.proofs.FlatSteps.{IsFlatChunk, IsFlatState, AllFlat, FollowsFlat, GivesFlat, fact_flat, fresh_flat, heap_flat, either_flat, ask_flat, fork_flat, read_flat, take_all_flat}
use Rattle.vx_real.proofs.FlatPuts.{put_flat}

found_flat : (x : Name) (xs : Store) → Each (λ (e : Name × Term). IsFlat e.1) xs → IsFlat (found x xs)
found_flat x [] k = tt
found_flat x (e ∷ xs) k = cond_flat (same_name x e.0) e.1 (found x xs) k.0 (found_flat x xs k.1)

amount_flat : (t u : Term) → IsFlat t → IsFlat (as_amount t u)
amount_flat (term.Number n) u k = cond_flat (same_sort (sort_of u) RealSort) (term.Part (whole n)) (term.Number n) tt tt
amount_flat (term.Truth b) u k = k
amount_flat (term.Part a) u k = k
amount_flat (term.Constant f a) u k = k
amount_flat (term.Apply f a ts) u k = k
amount_flat (term.Not t) u k = k
amount_flat (term.Binary o s t) u k = k
amount_flat (term.Ite c s t) u k = k
amount_flat (term.AllOf ts) u k = k
amount_flat (term.SomeOf ts) u k = k

operated_flat : (op : Operator) (t u : Term) → IsFlat t → IsFlat u → IsFlat (operated op t u)
operated_flat Equal t u h k = flat_equals t u h k
operated_flat Less t u h k = flat_less t u h k
operated_flat LessEqual t u h k = flat_less_equal t u h k
operated_flat Greater t u h k = flat_less u t k h
operated_flat GreaterEqual t u h k = flat_less_equal u t k h
operated_flat Add t u h k = flat_add t u h k
operated_flat Subtract t u h k = flat_subtract t u h k
operated_flat Multiply t u h k = flat_multiply (as_amount t u) u (amount_flat t u h) k

divided_flat : (op : Division) (t u : Term) → IsFlat t → IsFlat u → IsFlat (divided op t u)
divided_flat Quotient t u h k = flat_div t u h k
divided_flat Remainder t u h k = flat_modulo t u h k

connected_flat : (c : Connective) (t u : Term) → IsFlat t → IsFlat u → IsFlat (connected c t u)
connected_flat And t u h k = flat_and t u h k
connected_flat Or t u h k = flat_or t u h k
connected_flat Implies t u h k = flat_implies t u h k

short_flat : (c : Connective) (t : Term) {s : State} (more : Going) (on : Giving) → IsFlatState s → IsFlat t → FollowsFlat more → GivesFlat on → AllFlat (short c t s more on)
short_flat And t more on h k f g = fork_flat t more (on false_term) h k f (g false_term tt)
short_flat Or t more on h k f g = fork_flat t (on true_term) more h k (g true_term tt) f
short_flat Implies t more on h k f g = fork_flat t more (on true_term) h k f (g true_term tt)

abbrev pub GivesAllFlat : GivingAll → Type 0
GivesAllFlat on = (ts : List Term) → Each IsFlat ts → FollowsFlat (on ts)

abbrev pub AlwaysFlat : Giving → Type 0
AlwaysFlat on = (t : Term) → FollowsFlat (on t)

module _ (p : Program) (o : Outer) where
  mutual
    pub eval_flat : (e : Expr) → InFields e → {s : State} (on : Giving) → IsFlatState s → GivesFlat on → AllFlat (eval p o e s on)
    eval_flat (Number at n) j {s = s} on h g = g (term.Number (pos n)) tt s h
    eval_flat (Truth at b) j {s = s} on h g = g (term.Truth b) tt s h
    eval_flat (Null at) j {s = s} on h g = g _ (refl, refl) s h
    eval_flat (Part at n d) j {s = s} on h g = g _ tt s h
    eval_flat (Variable at x) j {s = s} on h g = g (found x s.store) (found_flat x s.store h.store) s h
    eval_flat (Not at e) j on h g = eval_flat e j _ h (λ t k s1 h1. g (negate t) (negate_flat t k) s1 h1)
    eval_flat (Operate at op a b) j on h g = eval_flat a j.0 _ h (λ t k s1 h1. eval_flat b j.1 _ h1 (λ u l s2 h2. g (operated op t u) (operated_flat op t u k l) s2 h2))
    eval_flat (Divide at op a b) j on h g =
        eval_flat a j.0 _ h (λ t k s1 h1. eval_flat b j.1 _ h1 (λ u l s2 h2.
        let zero = term.Number (pos 0) in
        ask_flat (negate (equals u zero)) (placed s2 at) DivisorCode (on (divided op t u)) h2 (negate_flat (equals u zero) (flat_equals u zero l tt)) (g (divided op t u) (divided_flat op t u k l))))
    eval_flat (Connect at c a b) j {s = s} on h g = either_flat (is_total b) _ _
        (eval_flat a j.0 _ h (λ t k s1 h1. eval_flat b j.1 _ h1 (λ u l s2 h2. g (connected c t u) (connected_flat c t u k l) s2 h2)))
        (eval_flat a j.0 _ h (λ t k s1 h1. short_flat c t (λ s2. eval p o b s2 on) on h1 k (λ s2 h2. eval_flat b j.1 on h2 g) g))
    eval_flat (Choose at c a b) j on h g = either_flat (is_total a && is_total b) _ _
        (eval_flat c j.0 _ h (λ t k s1 h1. eval_flat a j.1 _ h1 (λ u l s2 h2. eval_flat b j.2 _ h2 (λ v m s3 h3. g _ (flat_ite t u v k l m) s3 h3))))
        (eval_flat c j.0 _ h (λ t k s1 h1. fork_flat t (λ s2. eval p o a s2 on) (λ s2. eval p o b s2 on) h1 k (λ s2 h2. eval_flat a j.1 on h2 g) (λ s2 h2. eval_flat b j.2 on h2 g)))
    eval_flat (Read at e f) j on h g = eval_flat e j _ h (λ r k s1 h1. read_flat f r (field_sort p f) (placed s1 at) on h1 k g)
    eval_flat (Old at e) j {s = s} on h g = eval_flat e j _ (heap_flat s.old h h.old) (λ t k s1 h1. g t k (with_heap s.heap s1) (heap_flat s.heap h1 h.heap))
    eval_flat (Apply at f es) j on h g = absurd j
    eval_flat (Unfolding at i es share e) j on h g = absurd j

    pub evals_flat : (es : Exprs) → AreInFields es → {s : State} (on : GivingAll) → IsFlatState s → GivesAllFlat on → AllFlat (evals p o es s on)
    evals_flat NoMore j {s = s} on h g = g [] tt s h
    evals_flat (More e es) j on h g = eval_flat e j.0 _ h (λ t k s1 h1. evals_flat es j.1 _ h1 (λ ts ks s2 h2. g (t ∷ ts) (k, ks) s2 h2))

  pub produce_flat : (a : Assertion) → IsOfFields a → (q : Term) → IsFlat q → {s : State} (on : Going) → IsFlatState s → FollowsFlat on → AllFlat (produce p o a q None s on)
  produce_flat (Pure e) j q kq on h g = eval_flat e j _ h (λ t k s1 h1. g (with_fact t s1) (fact_flat t h1 k))
  produce_flat (Points at e f share) j q kq {s = s} on h g =
      eval_flat e j.0 _ h (λ r k s1 h1. eval_flat share j.1 _ h1 (λ a l s2 h2.
      let a' = multiply q a in
      let ka = flat_multiply q a kq l in
      let given = λ (s3 : State). record (field_key f r) { amount = multiply q a; value = fresh (field_sort p f) s3; inner = s.inner } in
      ask_flat (less_equal zero_amount a') (placed s2 at) AmountCode (λ s3. Step (on (put (given s3) (after_fresh s3)))) h2 (flat_less_equal zero_amount a' tt ka) (λ s3 h3.
      let d : IsFlatChunk (given s3) = record { arguments = (k, tt); amount = ka; value = tt } in
      g (put (given s3) (after_fresh s3)) (put_flat (given s3) d (fresh_flat h3)))))
  produce_flat (Instance at i es share) j q kq on h g = absurd j
  produce_flat (Both a b) j q kq on h g = produce_flat a j.0 q kq _ h (λ s1 h1. produce_flat b j.1 q kq on h1 g)
  produce_flat (Implied c a) j q kq on h g = eval_flat c j.0 _ h (λ t k s1 h1. fork_flat t (λ s2. produce p o a q None s2 on) on h1 k (λ s2 h2. produce_flat a j.1 q kq on h2 g) g)
  produce_flat (Chosen c a b) j q kq on h g =
      eval_flat c j.0 _ h (λ t k s1 h1. fork_flat t (λ s2. produce p o a q None s2 on) (λ s2. produce p o b q None s2 on) h1 k (λ s2 h2. produce_flat a j.1 q kq on h2 g) (λ s2 h2. produce_flat b j.2 q kq on h2 g))

  module _ (x : Context) (builds : x.builds ≡ false) where
    unbuilt : (facts : State) (s : State) → IsFlatState s → IsFlatState (cond x.builds facts s)
    unbuilt facts s h = subst (λ b. IsFlatState (cond b facts s)) (sym builds) h

    pub consume_flat : (a : Assertion) → IsOfFields a → (q : Term) → IsFlat q → (g : Heap) → Each IsFlatChunk g → {s : State} (on : Giving) → IsFlatState s → AlwaysFlat on → AllFlat (consume p o a x q g s on)
    consume_flat (Pure e) j q kq g kg {s = s} on h f =
        eval_flat e j _ (heap_flat g h kg) (λ t k s1 h1. ask_flat t (placed s1 (place_of e)) x.pure (λ s2. Step (on unit (with_heap s.heap s2))) h1 k (λ s2 h2. f unit (with_heap s.heap s2) (heap_flat s.heap h2 h.heap)))
    consume_flat (Points at e y share) j q kq g kg {s = s} on h f =
        eval_flat e j.0 _ (heap_flat g h kg) (λ r k s1 h1. eval_flat share j.1 _ h1 (λ a l s2 h2.
        let a' = multiply q a in
        let ka = flat_multiply q a kq l in
        let taken = λ (c : Chunk) (s4 : State). Step (on (wrap (field_sort p y) c.value) (with_built_wrap x (field_sort p y) c.value s4)) in
        ask_flat (less_equal zero_amount a') (placed s2 at) AmountCode (λ s3. take_chunk (field_key y r) (multiply q a) (field_sort p y) (placed s3 at) x.permission (with_heap s.heap s3) taken) h2 (flat_less_equal zero_amount a' tt ka) (λ s3 h3.
        take_all_flat y r a' (field_sort p y) (placed s3 at) x.permission taken (heap_flat s.heap h3 h.heap) k ka (λ c d s4 h4.
        f (wrap (field_sort p y) c.value) (with_built_wrap x (field_sort p y) c.value s4) (unbuilt _ s4 h4)))))
    consume_flat (Instance at i es share) j q kq g kg on h f = absurd j
    consume_flat (Both a b) j q kq g kg on h f =
        consume_flat a j.0 q kq g kg _ h (λ t s1 h1. consume_flat b j.1 q kq g kg _ h1 (λ u s2 h2. f (pair t u) (with_built_pair x t u s2) (unbuilt _ s2 h2)))
    consume_flat (Implied c a) j q kq g kg {s = s} on h f =
        eval_flat c j.0 _ (heap_flat g h kg) (λ t k s1 h1. fork_flat t (λ s2. consume p o a x q g s2 on) (on unit) (heap_flat s.heap h1 h.heap) k (λ s2 h2. consume_flat a j.1 q kq g kg on h2 f) (f unit))
    consume_flat (Chosen c a b) j q kq g kg {s = s} on h f =
        eval_flat c j.0 _ (heap_flat g h kg) (λ t k s1 h1. fork_flat t (λ s2. consume p o a x q g s2 on) (λ s2. consume p o b x q g s2 on) (heap_flat s.heap h1 h.heap) k
        (λ s2 h2. consume_flat a j.1 q kq g kg on h2 f) (λ s2 h2. consume_flat b j.2 q kq g kg on h2 f))
