-- Statements and methods of the fragment ask flat questions.
use Rattle.std.proofs.Common.{◌≡◌, ℕ, zero, suc, Bool, true, false, not, cond, ◌&&◌, List, [], ◌∷◌, ◌++◌, length, take, drop, Option, Some, None, refl, subst}
use Rattle.vx_ast.specs.declared.Place.{Place}
use Rattle.vx_ast.specs.Mentions.{is_among}
use Rattle.vx_ast.specs.Syntax.{Name, same_name, Declaration, Program, Method, method_named, joined, assigned_in, Stmt, Declare, Assign, Write, New, Call, Inhale, Exhale, Assert, Assume, Fold, Unfold, If, While, Block, Done, Then}
use Rattle.vx_terms.specs.Sorts.{RefSort}
use Rattle.vx_terms.specs.Terms.{Term, sort_of}
use Rattle.vx_terms.specs.Build.{negate, implies, equals, less, null, zero_amount, whole_amount}
use Rattle.vx_terms.specs.Interpretations.{Each}
use Rattle.vx_rules.specs.States.{sort_of_type, Store, assign, assign_all, bind, terms_in, is_stored, found, Chunk, Heap, State, with_store, with_heap, leave, with_fact, with_branch, fresh, after_fresh, declare_fresh, declare_all, name_of, after_name, with_facts}
use Rattle.vx_rules.specs.Trees.{AssertCode, PermissionCode, CallCode, PostCode, EntryCode, KeptCode, Tree, End, Step, Fork}
use Rattle.vx_rules.specs.Chunks.{field_key, first_argument}
use Rattle.vx_rules.specs.Rules.{Giving, Going, Outer, never, field_sort, back, produce, consume}
use Rattle.vx_rules.specs.Members.{codes, forget, is_ref, unlike, unlike_stored, unlike_chunk, unlike_held, distinct, put_fields, names_of, after_names, called, exec, exec_all, blank, ended, promise_side, body_side, both_sides, method_over}
use Rattle.vx_elements.proofs.Lists.{each_append}
use Rattle.vx_sound.proofs.Contracts.{HasFieldContract, SpeaksOfFields, AllSpeaks, BodySpeaks, MethodSpeaks}
use Rattle.vx_real.proofs.Flat.{IsFlat, negate_flat, flat_implies, flat_equals, flat_less}
use Rattle.vx_real.proofs.FlatSteps.{IsFlatChunk, IsFlatState, AllFlat, FollowsFlat, fact_flat, facts_flat, branch_flat, fresh_flat, heap_flat, named_flat, name_flat, never_flat, fork_flat, first_flat, write_flat}
use Rattle.vx_real.proofs.FlatPuts.{put_flat}
use Rattle.vx_real.proofs.FlatParts.{AlwaysFlat, eval_flat, evals_flat, produce_flat, consume_flat}
use Rattle.vx_real.proofs.Looped.{joined_fields}
use Rattle.vx_real.proofs.Calling.{deeper_rules}

-- Stores

abbrev IsFlatStore : Store → Type 0
IsFlatStore xs = Each (λ (e : Name × Term). IsFlat e.1) xs

assigned_flat : (x : Name) (t : Term) (xs : Store) → IsFlatStore xs → IsFlat t → IsFlatStore (assign x t xs)
assigned_flat x t [] h k = tt
assigned_flat x t (e ∷ xs) h k = go (same_name x e.0) (assigned_flat x t xs h.1 k)
  where
    go : (b : Bool) → IsFlatStore (assign x t xs) → IsFlatStore (cond b ((x, t) ∷ xs) (e ∷ assign x t xs))
    go true r = (k, h.1)
    go false r = (h.0, r)

all_assigned_flat : (xs : List Name) (ts : List Term) (s : Store) → IsFlatStore s → Each IsFlat ts → IsFlatStore (assign_all xs ts s)
all_assigned_flat [] ts s h k = h
all_assigned_flat (x ∷ xs) [] s h k = h
all_assigned_flat (x ∷ xs) (t ∷ ts) s h k = all_assigned_flat xs ts (assign x t s) (assigned_flat x t s h k.0) k.1

taken_flat : (n : ℕ) (xs : Store) → IsFlatStore xs → IsFlatStore (take n xs)
taken_flat zero xs h = tt
taken_flat (suc n) [] h = tt
taken_flat (suc n) (e ∷ xs) h = (h.0, taken_flat n xs h.1)

stored_terms : (xs : Store) → IsFlatStore xs → Each IsFlat (terms_in xs)
stored_terms [] h = tt
stored_terms (e ∷ xs) h = (h.0, stored_terms xs h.1)

dropped_flat : (n : ℕ) (ts : List Term) → Each IsFlat ts → Each IsFlat (drop n ts)
dropped_flat zero ts h = h
dropped_flat (suc n) [] h = tt
dropped_flat (suc n) (t ∷ ts) h = dropped_flat n ts h.1

bound_flat : (ds : List Declaration) (ts : List Term) → Each IsFlat ts → IsFlatStore (bind ds ts)
bound_flat [] ts h = tt
bound_flat (d ∷ ds) [] h = tt
bound_flat (d ∷ ds) (t ∷ ts) h = (h.0, bound_flat ds ts h.1)

store_flat : (xs : Store) {s : State} → IsFlatState s → IsFlatStore xs → IsFlatState (with_store xs s)
store_flat xs h k = record { store = k; path = h.path; heap = h.heap; old = h.old; awake = h.awake }

leave_flat : (n : ℕ) {s : State} → IsFlatState s → IsFlatState (leave n s)
leave_flat n {s = s} h = store_flat (take n s.store) h (taken_flat n s.store h.store)

declared_flat : (ds : List Declaration) {s : State} → IsFlatState s → IsFlatState (declare_all ds s)
declared_flat [] h = h
declared_flat (d ∷ ds) {s = s} h =
    declared_flat ds (store_flat (s.store ++ (d.name, fresh (sort_of_type d.of) s) ∷ []) (fresh_flat h) (each_append (λ (e : Name × Term). IsFlat e.1) s.store ((d.name, fresh (sort_of_type d.of) s) ∷ []) h.store (tt, tt)))

forget_flat : (done xs : List Name) {s : State} → IsFlatState s → IsFlatState (forget done xs s)
forget_flat done [] h = h
forget_flat done (x ∷ xs) {s = s} h = go (is_stored x s.store && not (is_among x done)) (forget_flat done xs h) (forget_flat (x ∷ done) xs fresh_one)
  where
    u : Term
    u = fresh (sort_of (found x s.store)) s

    fresh_one : IsFlatState (with_store (assign x (fresh (sort_of (found x s.store)) s) s.store) (after_fresh s))
    fresh_one = store_flat (assign x (fresh (sort_of (found x s.store)) s) s.store) (fresh_flat h) (assigned_flat x (fresh (sort_of (found x s.store)) s) s.store h.store tt)

    go : (b : Bool) → IsFlatState (forget done xs s) → IsFlatState (forget (x ∷ done) xs (with_store (assign x (fresh (sort_of (found x s.store)) s) s.store) (after_fresh s))) →
        IsFlatState (cond b (forget (x ∷ done) xs (with_store (assign x (fresh (sort_of (found x s.store)) s) s.store) (after_fresh s))) (forget done xs s))
    go true r q = q
    go false r q = r

names_flat : (ts : List Term) {s : State} → IsFlatState s → Each IsFlat ts → Each IsFlat (names_of ts s) × IsFlatState (after_names ts s)
names_flat [] h k = (tt, h)
names_flat (t ∷ ts) {s = s} h k = let r = names_flat ts (name_flat t h k.0) k.1 in ((named_flat t s k.0, r.0), r.1)

-- New references

unlike_flat : (x t : Term) → IsFlat x → IsFlat t → IsFlat (unlike x t)
unlike_flat x t h k = negate_flat (equals x t) (flat_equals x t h k)

unlike_stored_flat : (x : Term) (ts : List Term) → IsFlat x → Each IsFlat ts → Each IsFlat (unlike_stored x ts)
unlike_stored_flat x [] h k = tt
unlike_stored_flat x (t ∷ ts) h k = go (is_ref t) (unlike_stored_flat x ts h k.1)
  where
    go : (b : Bool) → Each IsFlat (unlike_stored x ts) → Each IsFlat (cond b (unlike x t ∷ unlike_stored x ts) (unlike_stored x ts))
    go true r = (unlike_flat x t h k.0, r)
    go false r = r

unlike_chunk_flat : (x : Term) (c : Chunk) → IsFlat x → IsFlatChunk c → Each IsFlat (unlike_chunk x c)
unlike_chunk_flat x c h k = (flat_implies (less zero_amount c.amount) (unlike x (first_argument c.arguments)) held (unlike_flat x (first_argument c.arguments) h (first_flat c.arguments k.arguments)), go (is_ref c.value))
  where
    held : IsFlat (less zero_amount c.amount)
    held = flat_less zero_amount c.amount tt k.amount

    go : (b : Bool) → Each IsFlat (cond b (implies (less zero_amount c.amount) (unlike x c.value) ∷ []) [])
    go true = (flat_implies (less zero_amount c.amount) (unlike x c.value) held (unlike_flat x c.value h k.value), tt)
    go false = tt

unlike_held_flat : (x : Term) (cs : Heap) → IsFlat x → Each IsFlatChunk cs → Each IsFlat (unlike_held x cs)
unlike_held_flat x [] h k = tt
unlike_held_flat x (c ∷ cs) h k = go c.is_field (unlike_held_flat x cs h k.1)
  where
    go : (b : Bool) → Each IsFlat (unlike_held x cs) → Each IsFlat (cond b (unlike_chunk x c ++ unlike_held x cs) (unlike_held x cs))
    go true r = each_append IsFlat (unlike_chunk x c) (unlike_held x cs) (unlike_chunk_flat x c h k.0) r
    go false r = r

distinct_flat : (x : Term) {s : State} → IsFlat x → IsFlatState s → Each IsFlat (distinct x s)
distinct_flat x {s = s} h k = (
  unlike_flat x null h (refl, refl),
  each_append IsFlat (unlike_stored x (terms_in s.store) ++ unlike_held x s.heap) (unlike_held x s.old)
      (each_append IsFlat (unlike_stored x (terms_in s.store)) (unlike_held x s.heap) (unlike_stored_flat x (terms_in s.store) h (stored_terms s.store k.store)) (unlike_held_flat x s.heap h k.heap)) (unlike_held_flat x s.old h k.old),
)

fields_flat : (p : Program) (fs : List Name) (x : Term) {s : State} → IsFlat x → IsFlatState s → IsFlatState (put_fields p fs x s)
fields_flat p [] x k h = h
fields_flat p (f ∷ fs) x {s = s} k h =
    let new = record (field_key f x) { amount = whole_amount; value = fresh (field_sort p f) s } in
    let d : IsFlatChunk (record (field_key f x) { amount = whole_amount; value = fresh (field_sort p f) s }) = record { arguments = (k, tt); amount = tt; value = tt } in
    fields_flat p fs x k (put_flat new d (fresh_flat h))

module _ (p : Program) (o : Outer) where
  -- Calls

  called_flat : (at : Place) (m : Method) → HasFieldContract p m → (ts : List Term) (targets : List Name) {s : State} (on : Going) → IsFlatState s → Each IsFlat ts → FollowsFlat on → AllFlat (called p (deeper_rules p o) at m ts targets s on)
  called_flat at m contract ts targets {s = s} on h k f =
      consume_flat p o (codes CallCode CallCode) refl (joined m.place m.requires) (joined_fields m.place m.requires contract.requires) whole_amount tt s.heap h.heap promised
      (record { store = bound_flat m.parameters ts k; path = h.path; heap = h.heap; old = h.old; awake = h.awake }) promised_flat
    where
      returned : State → State → State
      returned inside s2 = with_store (assign_all targets (drop (length ts) (terms_in inside.store)) s.store) (record (back s s2) { old = s.old })

      promised : Giving
      promised snapshot s1 = let inside = declare_all m.returns (record s1 { old = s.heap }) in produce p o (joined m.place m.ensures) whole_amount None inside (λ s2. Step (on (returned inside s2)))

      promised_flat : AlwaysFlat promised
      promised_flat snapshot s1 h1 =
          let begun : IsFlatState (record s1 { old = s.heap }) = record { store = h1.store; path = h1.path; heap = h1.heap; old = h.heap; awake = h1.awake } in
          let h2 = declared_flat m.returns begun in
          let inside = declare_all m.returns (record s1 { old = s.heap }) in
          produce_flat p o (joined m.place m.ensures) (joined_fields m.place m.ensures contract.ensures) whole_amount tt (λ s2. Step (on (returned inside s2))) h2 (λ s3 h3.
          f (returned inside s3) (record { store = all_assigned_flat targets (drop (length ts) (terms_in inside.store)) s.store h.store (dropped_flat (length ts) (terms_in inside.store) (stored_terms inside.store h2.store)); path = h3.path; heap = h3.heap; old = h.old; awake = h3.awake }))

  -- Statements, over these rules for the parts of others

  mutual
    exec_flat : (st : Stmt) → SpeaksOfFields p st → {s : State} (on : Going) → IsFlatState s → FollowsFlat on → AllFlat (exec p (deeper_rules p o) st s on)
    exec_flat (Declare at x t) j {s = s} on h f = f (declare_fresh x (sort_of_type t) s) (declared_flat (record { name = x; of = t } ∷ []) h)
    exec_flat (Assign at x e) j on h f = eval_flat p (deeper_rules p o) e j _ h (λ t k s1 h1.
        let s2 = after_name t s1 in
        let h2 = name_flat t h1 k in
        f (with_store (assign x (name_of t s1) s2.store) s2) (store_flat (assign x (name_of t s1) s2.store) h2 (assigned_flat x (name_of t s1) s2.store h2.store (named_flat t s1 k))))
    exec_flat (Write at e y e') j on h f = eval_flat p (deeper_rules p o) e j.0 _ h (λ r k s1 h1. eval_flat p (deeper_rules p o) e' j.1 _ h1 (λ t l s2 h2. write_flat y r t at on h2 k l f))
    exec_flat (New at x fs) j {s = s} on h f =
        let v = fresh RefSort s in
        let s1 = put_fields p fs (fresh RefSort s) (with_facts (distinct (fresh RefSort s) s) (after_fresh s)) in
        let h1 = fields_flat p fs (fresh RefSort s) tt (facts_flat (distinct (fresh RefSort s) s) (fresh_flat h) (distinct_flat (fresh RefSort s) tt h)) in
        f (with_store (assign x v s1.store) s1) (store_flat (assign x v s1.store) h1 (assigned_flat x v s1.store h1.store tt))
    exec_flat (Call at xs m es) j on h f = evals_flat p (deeper_rules p o) es j.0 _ h (λ ts k s1 h1. of_method (method_named p m) refl ts k s1 h1)
      where
        of_method : (c : Option Method) → method_named p m ≡ c → (ts : List Term) → Each IsFlat ts → (s1 : State) → IsFlatState s1 →
            AllFlat (elim c as (λ c. Tree) [ None ↦ never at CallCode s1 | Some c ↦ called p (deeper_rules p o) at c (names_of ts s1) xs (after_names ts s1) on ])
        of_method None e ts k s1 h1 = never_flat at CallCode h1
        of_method (Some c) e ts k s1 h1 = let n = names_flat ts h1 k in called_flat at c (j.1 c e) (names_of ts s1) xs on n.1 n.0 f
    exec_flat (Inhale at a) j on h f = produce_flat p (deeper_rules p o) a j whole_amount tt on h f
    exec_flat (Exhale at a) j {s = s} on h f = consume_flat p (deeper_rules p o) (codes AssertCode PermissionCode) refl a j whole_amount tt s.heap h.heap _ h (λ t s1 h1. f s1 h1)
    exec_flat (Assert at a) j {s = s} on h f = consume_flat p (deeper_rules p o) (codes AssertCode PermissionCode) refl a j whole_amount tt s.heap h.heap _ h (λ t s1 h1. f (with_heap s.heap s1) (heap_flat s.heap h1 h.heap))
    exec_flat (Assume at e) j on h f = eval_flat p (deeper_rules p o) e j _ h (λ t k s1 h1. f (with_fact t s1) (fact_flat t h1 k))
    exec_flat (Fold at x es share) j on h f = absurd j
    exec_flat (Unfold at x es share) j on h f = absurd j
    exec_flat (If at c a b) j {s = s} on h f =
        let leaving = λ (s1 : State). on (leave (length s.store) s1) in
        eval_flat p (deeper_rules p o) c j.0 _ h (λ t k s1 h1. fork_flat t (λ s2. exec_all p (deeper_rules p o) a s2 leaving) (λ s2. exec_all p (deeper_rules p o) b s2 leaving) h1 k
        (λ s2 h2. all_flat a j.1 leaving h2 (λ s3 h3. f (leave (length s.store) s3) (leave_flat (length s.store) h3))) (λ s2 h2. all_flat b j.2 leaving h2 (λ s3 h3. f (leave (length s.store) s3) (leave_flat (length s.store) h3))))
    exec_flat (While at c is body) j {s = s} on h f =
        let invariant = joined at is in
        let of_fields = joined_fields at is j.1 in
        let kept = λ (s5 : State). consume p (deeper_rules p o) (joined at is) (codes KeptCode KeptCode) whole_amount s5.heap s5 (λ v s6. End) in
        consume_flat p (deeper_rules p o) (codes EntryCode EntryCode) refl invariant of_fields whole_amount tt s.heap h.heap _ h (λ t s1 h1.
        let h2 = forget_flat [] (assigned_in body) h1 in (
          produce_flat p (deeper_rules p o) invariant of_fields whole_amount tt _ (heap_flat [] h2 tt) (λ s3 h3. eval_flat p (deeper_rules p o) c j.0 _ h3 (λ u k s4 h4.
              all_flat body j.2 (λ s5. kept (leave (length s.store) s5)) (branch_flat u h4 k) (λ s5 h5.
              let h6 = leave_flat (length s.store) h5 in
              consume_flat p (deeper_rules p o) (codes KeptCode KeptCode) refl invariant of_fields whole_amount tt (leave (length s.store) s5).heap h6.heap (λ v s7. End) h6 (λ v s7 h7. tt)))),
          produce_flat p (deeper_rules p o) invariant of_fields whole_amount tt _ h2 (λ s3 h3. eval_flat p (deeper_rules p o) c j.0 _ h3 (λ u k s4 h4. f (with_branch (negate u) s4) (branch_flat (negate u) h4 (negate_flat u k)))),
        ))

    all_flat : (b : Block) → AllSpeaks p b → {s : State} (on : Going) → IsFlatState s → FollowsFlat on → AllFlat (exec_all p (deeper_rules p o) b s on)
    all_flat Done j {s = s} on h f = f s h
    all_flat (Then st b) j on h f = exec_flat st j.0 _ h (λ s1 h1. all_flat b j.1 on h1 f)

  -- Methods

  pub method_flat : (m : Method) → MethodSpeaks p m → AllFlat (method_over p (deeper_rules p o) m)
  method_flat m speaks = produce_flat p (deeper_rules p o) (joined m.place m.requires) (joined_fields m.place m.requires speaks.requires) whole_amount tt _ (declared_flat m.returns (declared_flat m.parameters blank_flat)) sides_flat
    where
      blank_flat : IsFlatState blank
      blank_flat = record { store = tt; path = tt; heap = tt; old = tt; awake = refl }

      promise_flat : (s : State) → IsFlatState s → AllFlat (promise_side p (deeper_rules p o) m s)
      promise_flat s h = produce_flat p (deeper_rules p o) (joined m.place m.ensures) (joined_fields m.place m.ensures speaks.ensures) whole_amount tt ended (declared_flat m.returns (leave_flat (length m.parameters) (heap_flat [] h tt))) (λ s1 h1. tt)

      both_flat : (b : Option Block) → m.body ≡ b → (s : State) → IsFlatState s → AllFlat (elim b as (λ b. Tree) [ None ↦ promise_side p (deeper_rules p o) m s | Some b ↦ Fork (promise_side p (deeper_rules p o) m s) (body_side p (deeper_rules p o) m b s) ])
      both_flat None e s h = promise_flat s h
      both_flat (Some b) e s h = (
        promise_flat s h,
        all_flat b (subst (BodySpeaks p) e speaks.body) _ h (λ s1 h1.
            consume_flat p (deeper_rules p o) (codes PostCode PostCode) refl (joined m.place m.ensures) (joined_fields m.place m.ensures speaks.ensures) whole_amount tt s1.heap h1.heap (λ t s2. End) h1 (λ t s2 h2. tt)),
      )

      sides_flat : FollowsFlat (λ s. both_sides p (deeper_rules p o) m (record s { old = s.heap }))
      sides_flat s h = both_flat m.body refl (record s { old = s.heap }) (record { store = h.store; path = h.path; heap = h.heap; old = h.heap; awake = h.awake })
