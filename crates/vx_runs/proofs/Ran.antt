-- What a run by contracts keeps: names in their order, values of variables that it doesn't assign, and the old part.
use Rattle.std.proofs.Common.{◌≡◌, Bool, true, false, cond, ◌||◌, ◌⊎◌, inl, inr, List, [], ◌∷◌, ◌++◌, length, take, Option, Some, None, refl, sym, ◌∙◌, ap, subst, true≢false}
use Rattle.std.specs.Prelude.{IsTrue}
use Rattle.vx_ast.specs.declared.Place.{Place}
use Rattle.vx_frac.specs.Fractions.{Fraction, full}
use Rattle.vx_ast.specs.Syntax.{Name, same_name, Program, Predicate, Method, predicate_named, method_named, Expr, Assertion, Pure, Points, Both, Implied, Chosen, Stmt, Declare, Assign, Write, New, Call, Inhale, Exhale, Assert, Assume, Fold, Unfold, If, While, Block, Done, Then, assigned, assigned_in}
use Rattle.vx_ast.specs.Syntax as syntax
use Rattle.vx_ast.specs.Mentions.{is_among}
use Rattle.vx_meaning.specs.Values.{Value, is_true}
use Rattle.vx_meaning.specs.States.{State, Store, Instance, Folded, gained, lost, assign, assign_all, bind, leave, with_store, with_heap, with_holdings}
use Rattle.vx_meaning.specs.Fits as fits
use Rattle.vx_meaning.specs.Fits.{guard, has_instance}
use Rattle.vx_meaning.specs.Outcomes.{Outcome, Ends, Outcomes, ends, stops, failing_at, checked, passes, refused, and_then, goes_on, is_over}
use Rattle.vx_meaning.specs.Give.{give, when, side}
use Rattle.vx_meaning.specs.Around.{nobody, IsPossible}
use Rattle.vx_meaning.specs.Run.{DiffersAt, run, run_all, scoped, with_body, call_beside, return_from_beside, loop_beside}
use Rattle.vx_types.specs.Typing.{Scope}
use Rattle.vx_elements.proofs.Lists.{name_is, name_same}
use Rattle.vx_runs.proofs.Followed.{StoreOf}

-- the first names, in their order, with the values they had where they aren't among these
abbrev pub IsSame : List Name → Store → Store → Type 0
IsSame xs [] t = Unit {0}
IsSame xs (a ∷ s) [] = ⊥
IsSame xs (a ∷ s) (b ∷ t) = (a.0 ≡ b.0) × (IsTrue (is_among a.0 xs) ⊎ (a.1 ≡ b.1)) × IsSame xs s t

pub same_self : (xs : List Name) (s : Store) → IsSame xs s s
same_self xs [] = tt
same_self xs (a ∷ s) = (refl, inr refl, same_self xs s)

same_longer : (xs : List Name) (s e : Store) → IsSame xs s (s ++ e)
same_longer xs [] e = tt
same_longer xs (a ∷ s) e = (refl, inr refl, same_longer xs s e)

pub same_taken : (xs : List Name) (s t : Store) → IsSame xs s t → IsSame xs s (take (length s) t)
same_taken xs [] t k = tt
same_taken xs (a ∷ s) [] k = absurd k
same_taken xs (a ∷ s) (b ∷ t) k = (k.0, k.1, same_taken xs s t k.2)

pub same_then : (xs : List Name) (s t u : Store) → IsSame xs s t → IsSame xs t u → IsSame xs s u
same_then xs [] t u k l = tt
same_then xs (a ∷ s) [] u k l = absurd k
same_then xs (a ∷ s) (b ∷ t) [] k l = absurd l
same_then xs (a ∷ s) (b ∷ t) (c ∷ u) k l = (k.0 ∙ l.0, go k.1 l.1, same_then xs s t u k.2 l.2)
  where
    go : IsTrue (is_among a.0 xs) ⊎ (a.1 ≡ b.1) → IsTrue (is_among b.0 xs) ⊎ (b.1 ≡ c.1) → IsTrue (is_among a.0 xs) ⊎ (a.1 ≡ c.1)
    go (inl m) r = inl m
    go (inr e) (inl m) = inl (subst (λ (n : Name). IsTrue (is_among n xs)) (sym k.0) m)
    go (inr e) (inr f) = inr (e ∙ f)

-- among more names
abbrev pub Within : List Name → List Name → Type 0
Within xs ys = (x : Name) → IsTrue (is_among x xs) → IsTrue (is_among x ys)

pub same_more : (xs ys : List Name) → Within xs ys → (s t : Store) → IsSame xs s t → IsSame ys s t
same_more xs ys w [] t k = tt
same_more xs ys w (a ∷ s) [] k = absurd k
same_more xs ys w (a ∷ s) (b ∷ t) k = (k.0, elim k.1 [ inl m ↦ inl (w a.0 m) | inr e ↦ inr e ], same_more xs ys w s t k.2)

within_left : (xs ys : List Name) → Within xs (xs ++ ys)
within_left [] ys x m = absurd (nothing m)
  where
    nothing : IsTrue false → ⊥
    nothing m = true≢false (sym m)
within_left (z ∷ xs) ys x m = go (same_name x z) m (within_left xs ys x)
  where
    go : (b : Bool) → IsTrue (b || is_among x xs) → (IsTrue (is_among x xs) → IsTrue (is_among x (xs ++ ys))) → IsTrue (b || is_among x (xs ++ ys))
    go true m f = m
    go false m f = f m

within_right : (xs ys : List Name) → Within ys (xs ++ ys)
within_right [] ys x m = m
within_right (z ∷ xs) ys x m = go (same_name x z) (within_right xs ys x m)
  where
    go : (b : Bool) → IsTrue (is_among x (xs ++ ys)) → IsTrue (b || is_among x (xs ++ ys))
    go true m = refl
    go false m = m

assigned_same : (x : Name) (v : Value) (s : Store) → IsSame (x ∷ []) s (assign x v s)
assigned_same x v [] = tt
assigned_same x v (a ∷ s) = go (same_name x a.0) refl (assigned_same x v s)
  where
    among : same_name x a.0 ≡ true → IsTrue (is_among a.0 (x ∷ []))
    among e = ap (λ (b : Bool). b || false) (subst (λ (n : Name). same_name n x ≡ true) (name_is x a.0 e) (name_same x))

    go : (b : Bool) → same_name x a.0 ≡ b → IsSame (x ∷ []) s (assign x v s) → IsSame (x ∷ []) (a ∷ s) (cond b ((x, v) ∷ s) (a ∷ assign x v s))
    go true e k = (sym (name_is x a.0 e), inl (among e), same_self (x ∷ []) s)
    go false e k = (refl, inr refl, k)

all_assigned_same : (xs : List Name) (vs : List Value) (s : Store) → IsSame xs s (assign_all xs vs s)
all_assigned_same [] vs s = same_self [] s
all_assigned_same (x ∷ xs) [] s = same_self (x ∷ xs) s
all_assigned_same (x ∷ xs) (v ∷ vs) s =
    same_then (x ∷ xs) s (assign x v s) (assign_all xs vs (assign x v s)) (same_more (x ∷ []) (x ∷ xs) (within_left (x ∷ []) xs) s (assign x v s) (assigned_same x v s))
    (same_more xs (x ∷ xs) (within_right (x ∷ []) xs) (assign x v s) (assign_all xs vs (assign x v s)) (all_assigned_same xs vs (assign x v s)))

-- Stores of one scope that are the same in this way differ at most there.
pub differs_by : (ds : Scope) (xs : List Name) (s t : Store) → StoreOf ds s → StoreOf ds t → IsSame xs s t → DiffersAt xs s t
differs_by [] xs [] [] j k l = tt
differs_by [] xs [] (b ∷ t) j k l = absurd k
differs_by [] xs (a ∷ s) t j k l = absurd j
differs_by (d ∷ ds) xs [] t j k l = absurd j
differs_by (d ∷ ds) xs (a ∷ s) [] j k l = absurd l
differs_by (d ∷ ds) xs (a ∷ s) (b ∷ t) j k l = (l.0, j.1 ∙ sym k.1, l.1, differs_by ds xs s t j.2 k.2 l.2)

pub same_by : (xs : List Name) (s t : Store) → DiffersAt xs s t → IsSame xs s t
same_by xs [] t k = tt
same_by xs (a ∷ s) [] k = absurd k
same_by xs (a ∷ s) (b ∷ t) k = (k.0, k.2, same_by xs s t k.3)

-- what a part keeps of s, in t
pub record Keeps (xs : List Name) (s t : State) : Type 0 where
  pub store : IsSame xs s.store t.store
  pub old_heap : t.old_heap ≡ s.old_heap
  pub old_holdings : t.old_holdings ≡ s.old_holdings

keeps_self : (xs : List Name) (s t : State) → t.store ≡ s.store → t.old_heap ≡ s.old_heap → t.old_holdings ≡ s.old_holdings → Keeps xs s t
keeps_self xs s t a b c = record { store = subst (IsSame xs s.store) (sym a) (same_self xs s.store); old_heap = b; old_holdings = c }

keeps_is : (xs : List Name) (s t u : State) → t ≡ u → Keeps xs s u → Keeps xs s t
keeps_is xs s t u e k = subst (Keeps xs s) (sym e) k

keeps_then : (xs : List Name) (s t u : State) → Keeps xs s t → Keeps xs t u → Keeps xs s u
keeps_then xs s t u k l = record { store = same_then xs s.store t.store u.store k.store l.store; old_heap = l.old_heap ∙ k.old_heap; old_holdings = l.old_holdings ∙ k.old_holdings }

keeps_more : (xs ys : List Name) → Within xs ys → (s t : State) → Keeps xs s t → Keeps ys s t
keeps_more xs ys w s t k = record { store = same_more xs ys w s.store t.store k.store; old_heap = k.old_heap; old_holdings = k.old_holdings }

-- Giving changes nothing but what is held.

by_side : {R : Type 0} (v : Value) (x y : Outcomes) (o : Outcome) → (x o → R) → (y o → R) → side v x y o → R
by_side {R = R} v x y o f g k = go (is_true v) k
  where
    go : (b : Bool) → when b x y o → R
    go true k = f k
    go false k = g k

pub give_only : (p : Program) (P : State → Type 0) (q : Fraction) (a : Assertion) (s t : State) → give p P q a s (Ends t) → t ≡ with_holdings t.holdings s
give_only p P q (Pure e) s t (passes v h r) = by_side v (ends s) stops (Ends t) (λ e. subst (λ (u : State). u ≡ with_holdings u.holdings s) (sym e) refl) (λ e. absurd e) r
give_only p P q (Pure e) s t (refused at h f) = absurd f
give_only p P q (Points at e f share) s t (passes part h (inl (can, r))) = subst (λ (u : State). u ≡ with_holdings u.holdings s) (sym r) refl
give_only p P q (Points at e f share) s t (passes part h (inr (never, r))) = absurd r
give_only p P q (Points at e f share) s t (refused place h f') = absurd f'
give_only p P q (syntax.Instance at i es share) s t (passes part h (inl (can, r))) = subst (λ (u : State). u ≡ with_holdings u.holdings s) (sym r) refl
give_only p P q (syntax.Instance at i es share) s t (passes part h (inr (never, r))) = absurd r
give_only p P q (syntax.Instance at i es share) s t (refused place h f') = absurd f'
give_only p P q (Both a b) s t (goes_on u h r) = give_only p P q b u t r ∙ ap (with_holdings t.holdings) (give_only p P q a s u h)
give_only p P q (Both a b) s t (is_over over h) = absurd over
give_only p P q (Implied c a) s t (passes v h r) = by_side v (give p P q a s) (ends s) (Ends t) (λ k. give_only p P q a s t k) (λ e. subst (λ (u : State). u ≡ with_holdings u.holdings s) (sym e) refl) r
give_only p P q (Implied c a) s t (refused at h f) = absurd f
give_only p P q (Chosen c a b) s t (passes v h r) = by_side v (give p P q a s) (give p P q b s) (Ends t) (λ k. give_only p P q a s t k) (λ k. give_only p P q b s t k) r
give_only p P q (Chosen c a b) s t (refused at h f) = absurd f

keeps_given : (p : Program) (P : State → Type 0) (q : Fraction) (a : Assertion) (xs : List Name) (s t : State) → give p P q a s (Ends t) → Keeps xs s t
keeps_given p P q a xs s t g = keeps_is xs s t (with_holdings t.holdings s) (give_only p P q a s t g) (keeps_self xs s (with_holdings t.holdings s) refl refl refl)

-- a predicate's body
record Body (rest : Store → Assertion → Outcomes) (o : Outcome) : Type 0 where
  store : Store
  body : Assertion
  on : rest store body o

module _ (p : Program) where
  bodied : (i : Instance) (rest : Store → Assertion → Outcomes) (o : Outcome) → with_body p i rest o → Body rest o
  bodied i rest o k = by_predicate (predicate_named p i.predicate) k
    where
      body_in : Predicate → Option Assertion → Outcomes
      body_in d None o = ⊥
      body_in d (Some e) o = rest (bind d.parameters i.arguments) e o

      body_of : Option Predicate → Outcomes
      body_of None o = ⊥
      body_of (Some d) o = body_in d d.body o

      by_body : (d : Predicate) (b : Option Assertion) → body_in d b o → Body rest o
      by_body d None k = absurd k
      by_body d (Some e) k = record { store = bind d.parameters i.arguments; body = e; on = k }

      by_predicate : (d : Option Predicate) → body_of d o → Body rest o
      by_predicate None k = absurd k
      by_predicate (Some d) k = by_body d d.body k

  -- a call
  call_keeps : (s : State) (at : Place) (xs : List Name) (m : Name) (vs : List Value) (t : State) → call_beside p nobody s at xs m vs (Ends t) → Keeps xs s t
  call_keeps s at xs m vs t k = by_method (method_named p m) k
    where
      called : Option Method → Outcomes
      called None o = ⊥
      called (Some c) o = checked (λ n. fits.placed at (fits.take_by p n (with_store (bind c.parameters vs) s) full (syntax.joined c.place c.requires) s.holdings)) (return_from_beside p nobody s at xs c vs) o

      by_method : (c : Option Method) → called c (Ends t) → Keeps xs s t
      by_method None k = absurd k
      by_method (Some c) (refused place h f) = absurd f
      by_method (Some c) (passes left h (g, (changes, (ws, (types, goes_on u r e))))) = keeps_is xs s t _ e record { store = all_assigned_same xs ws s.store; old_heap = refl; old_holdings = refl }
      by_method (Some c) (passes left h (g, (changes, (ws, (types, is_over over r))))) = absurd over

  -- a loop ends behind it alone
  loop_keeps : (s : State) (at : Place) (c : Expr) (is : List Assertion) (xs : List Name) (body : State → Outcomes) (t : State) → loop_beside p nobody s at c is xs body (Ends t) → Keeps xs s t
  loop_keeps s at c is xs body t (refused place h f) = absurd f
  loop_keeps s at c is xs body t (passes left h (inl (g, (x, (differs, is_over over r))))) = absurd over
  loop_keeps s at c is xs body t (passes left h (inl (g, (x, (differs, goes_on u r (refused place i f)))))) = absurd f
  loop_keeps s at c is xs body t (passes left h (inl (g, (x, (differs, goes_on u r (passes v i w)))))) =
      by_side v (and_then (body u) (λ z. checked (λ n. fits.take_by p n z full (syntax.joined at is) z.holdings) (λ _. stops))) stops (Ends t) no_end (λ e. absurd e) w
    where
      no_end : and_then (body u) (λ z. checked (λ n. fits.take_by p n z full (syntax.joined at is) z.holdings) (λ _. stops)) (Ends t) → Keeps xs s t
      no_end (is_over over r) = absurd over
      no_end (goes_on z r (refused place i f)) = absurd f
      no_end (goes_on z r (passes left i e)) = absurd e
  loop_keeps s at c is xs body t (passes left h (inr (g, (changes, (x, (differs, is_over over r)))))) = absurd over
  loop_keeps s at c is xs body t (passes left h (inr (g, (changes, (x, (differs, goes_on u r (refused place i f))))))) = absurd f
  loop_keeps s at c is xs body t (passes left h (inr (g, (changes, (x, (differs, goes_on u r (passes v i w))))))) =
      by_side v stops (ends u) (Ends t) (λ e. absurd e) (λ e. keeps_is xs s t u e (ended (give_only p (IsPossible p nobody) full (syntax.joined at is) (with_store x (with_heap g (with_holdings left s))) u r))) w
    where
      ended : u ≡ with_holdings u.holdings (with_store x (with_heap g (with_holdings left s))) → Keeps xs s u
      ended e = keeps_is xs s u (with_holdings u.holdings (with_store x (with_heap g (with_holdings left s)))) e record { store = same_by xs s.store x differs; old_heap = refl; old_holdings = refl }

  pub scoped_keeps : (xs : List Name) (body : State → Outcomes) (s t : State) → ((u : State) → body s (Ends u) → Keeps xs s u) → scoped p body s (Ends t) → Keeps xs s t
  scoped_keeps xs body s t inner (is_over over r) = absurd over
  scoped_keeps xs body s t inner (goes_on u r e) =
      let k = inner u r in
      keeps_is xs s t (leave (length s.store) u) e record { store = same_taken xs s.store u.store k.store; old_heap = k.old_heap; old_holdings = k.old_holdings }

  mutual
    pub run_keeps : (st : Stmt) (s t : State) → run p st s (Ends t) → Keeps (assigned st) s t
    run_keeps (Declare at x y) s t (v, (e, r)) = keeps_is [] s t _ r record { store = same_longer [] s.store ((x, v) ∷ []); old_heap = refl; old_holdings = refl }
    run_keeps (Assign at x e) s t (passes v h r) = keeps_is (x ∷ []) s t _ r record { store = assigned_same x v s.store; old_heap = refl; old_holdings = refl }
    run_keeps (Assign at x e) s t (refused place h f) = absurd f
    run_keeps (New at x fs) s t (h, (changes, (r, (fresh, e)))) = keeps_is (x ∷ []) s t _ e record { store = assigned_same x _ s.store; old_heap = refl; old_holdings = refl }
    run_keeps (Write at e f e') s t (passes lv h r) = keeps_is [] s t _ r (keeps_self [] s _ refl refl refl)
    run_keeps (Write at e f e') s t (refused place h f') = absurd f'
    run_keeps (Call at xs callee es) s t (passes vs h r) = call_keeps s at xs callee vs t r
    run_keeps (Call at xs callee es) s t (refused place h f) = absurd f
    run_keeps (Inhale at x) s t r = keeps_given p (IsPossible p nobody) full x [] s t r
    run_keeps (Assume at e) s t r = keeps_given p (IsPossible p nobody) full (Pure e) [] s t r
    run_keeps (Exhale at x) s t (passes left h (g, (changes, e))) = keeps_is [] s t _ e (keeps_self [] s _ refl refl refl)
    run_keeps (Exhale at x) s t (refused place h f) = absurd f
    run_keeps (Assert at x) s t (passes left h e) = keeps_is [] s t _ e (keeps_self [] s _ refl refl refl)
    run_keeps (Assert at x) s t (refused place h f) = absurd f
    run_keeps (Fold at i es share) s t (passes (k, q) h r) = folded (bodied k _ (Ends t) r)
      where
        folded : Body (λ x e. checked (λ n. fits.placed at (fits.take_by p n (with_store x s) q e s.holdings)) (λ h. ends (with_holdings (gained (Folded k) q h) s))) (Ends t) → Keeps [] s t
        folded b = go b.on
          where
            go : checked (λ n. fits.placed at (fits.take_by p n (with_store b.store s) q b.body s.holdings)) (λ h. ends (with_holdings (gained (Folded k) q h) s)) (Ends t) → Keeps [] s t
            go (passes left h e) = keeps_is [] s t (with_holdings (gained (Folded k) q left) s) e (keeps_self [] s (with_holdings (gained (Folded k) q left) s) refl refl refl)
            go (refused place h f) = absurd f
    run_keeps (Fold at i es share) s t (refused place h f) = absurd f
    run_keeps (Unfold at i es share) s t (passes (k, q) h r) = unfolded (bodied k _ (Ends t) r)
      where
        unfolded : Body (λ x e. checked (λ n. guard at (has_instance s k q)) (λ _. and_then (failing_at at (give p (IsPossible p nobody) q e (with_store x (with_holdings (lost (Folded k) q s.holdings) s)))) (λ t. ends (with_store s.store t)))) (Ends t) → Keeps [] s t
        unfolded b = go b.on
          where
            begun : State
            begun = with_store b.store (with_holdings (lost (Folded k) q s.holdings) s)

            go : checked (λ n. guard at (has_instance s k q)) (λ _. and_then (failing_at at (give p (IsPossible p nobody) q b.body (with_store b.store (with_holdings (lost (Folded k) q s.holdings) s)))) (λ t. ends (with_store s.store t))) (Ends t) → Keeps [] s t
            go (refused place h f) = absurd f
            go (passes u h (is_over over r)) = absurd over
            go (passes u h (goes_on v g e)) =
                let only = give_only p (IsPossible p nobody) q b.body (with_store b.store (with_holdings (lost (Folded k) q s.holdings) s)) v g in
                keeps_is [] s t (with_store s.store v) e (keeps_self [] s (with_store s.store v) refl (ap (λ (z : State). z.old_heap) only) (ap (λ (z : State). z.old_holdings) only))
    run_keeps (Unfold at i es share) s t (refused place h f) = absurd f
    run_keeps (If at c x y) s t (refused place h f) = absurd f
    run_keeps (If at c x y) s t (passes v h r) = by_side v (scoped p (run_all p x) s) (scoped p (run_all p y) s) (Ends t)
        (λ k. keeps_more (assigned_in x) (assigned_in x ++ assigned_in y) (within_left (assigned_in x) (assigned_in y)) s t (scoped_keeps (assigned_in x) (run_all p x) s t (λ u r. run_all_keep x s u r) k))
        (λ k. keeps_more (assigned_in y) (assigned_in x ++ assigned_in y) (within_right (assigned_in x) (assigned_in y)) s t (scoped_keeps (assigned_in y) (run_all p y) s t (λ u r. run_all_keep y s u r) k)) r
    run_keeps (While at c is b) s t r = loop_keeps s at c is (assigned_in b) (scoped p (run_all p b)) t r

    pub run_all_keep : (b : Block) (s t : State) → run_all p b s (Ends t) → Keeps (assigned_in b) s t
    run_all_keep Done s t e = keeps_is [] s t s e (keeps_self [] s s refl refl refl)
    run_all_keep (Then st b) s t (goes_on u r k) =
        keeps_then (assigned st ++ assigned_in b) s u t (keeps_more (assigned st) (assigned st ++ assigned_in b) (within_left (assigned st) (assigned_in b)) s u (run_keeps st s u r))
        (keeps_more (assigned_in b) (assigned st ++ assigned_in b) (within_right (assigned st) (assigned_in b)) u t (run_all_keep b u t k))
    run_all_keep (Then st b) s t (is_over over r) = absurd over
