-- Statements ask well-sorted questions, and leave a state of the shape of their scope.
use Rattle.std.proofs.Common.{◌≡◌, ℕ, suc, Bool, true, false, not, cond, ◌&&◌, ◌||◌, List, [], ◌∷◌, length, take, Some, None, refl, sym, ◌∙◌, ap, subst}
use Rattle.std.proofs.Math.Seq.{take-append_seam}
use Rattle.vx_ast.specs.declared.Place.{Place}
use Rattle.vx_ast.specs.declared.ValueType.{ValueType}
use Rattle.vx_ast.specs.declared.ValueType.TheVariants as type
use Rattle.vx_ast.specs.Syntax.{Name, same_name, Program, method_named, Method, Stmt, Declare, Assign, Write, New, Call, Inhale, Exhale, Assert, Assume, Fold, Unfold, If, While, Block, Done, Then, joined, assigned_in}
use Rattle.vx_ast.specs.Mentions.{is_among}
use Rattle.vx_terms.specs.Sorts.{RefSort}
use Rattle.vx_terms.specs.Terms.{Term, sort_of}
use Rattle.vx_terms.specs.Build.{negate, less, zero_amount, whole_amount}
use Rattle.vx_terms.proofs.Values.{sort_of_formed}
use Rattle.vx_smt_meaning.specs.Commands.{Declared}
use Rattle.vx_rules.specs.States as rules
use Rattle.vx_rules.specs.States.{sort_of_type}
use Rattle.vx_rules.specs.Trees.{AssertCode, PermissionCode, AmountCode, CallCode, EntryCode, KeptCode, Tree, End}
use Rattle.vx_rules.specs.Rules.{Going, Outer, never, evals, unfolded, consume}
use Rattle.vx_rules.specs.Members.{codes, names_of, after_names, called, folded, forget, distinct, put_fields, exec, exec_all}
use Rattle.vx_types.specs.Typing.{Scope, type_in, IsTypedStmt, IsTypedBlock, scope_after, scope_after_all}
use Rattle.vx_elements.proofs.Values.{sort_of_field, field_type_is}
use Rattle.vx_elements.proofs.Scopes.{scope_more, joined_typed}
use Rattle.vx_live.specs.Live.{IsBuiltIn}
use Rattle.vx_live.proofs.Over.{Sorts, stays, above, Fine, fine_later, built_type, whole_fine, positive_fine, negate_fine}
use Rattle.vx_live.proofs.Shapes.{StoreShape, Shaped, Later, found_formed, shape_take, shape_length, shape_assign, with_chunks, entry_shaped, fact_later, facts_later, fresh_later, named, named_all, declared}
use Rattle.vx_live.proofs.Speaks.{joined_speaks, Says, AllSay}
use Rattle.vx_live.proofs.LiveSteps.{Saying, LiveBy, Follows, ask_live, fork_live}
use Rattle.vx_live.proofs.LiveChunks.{distinct_fine, put_all_live}
use Rattle.vx_live.proofs.LiveSums.{write_live}
use Rattle.vx_live.proofs.LiveEvaluate.{PartsLive, eval_live, evals_live}
use Rattle.vx_live.proofs.LiveAssertions.{produce_live, consume_live}
use Rattle.vx_live.proofs.LiveParts.{FoldsLive, CallsLive}

-- fresh values for the variables that a loop assigns
stored_type : {fs : List Declared} (sorts : Sorts fs) (n : ℕ) (x : Name) (scope : Scope) (xs : rules.Store) → StoreShape sorts n scope xs → rules.is_stored x xs ≡ true → (t : ValueType) × (type_in x scope ≡ Some t)
stored_type sorts n x [] [] h e = cc
stored_type sorts n x (d ∷ ds) (a ∷ xs) h e = go (same_name x a.0) refl e (stored_type sorts n x ds xs h.2)
  where
    go : (q : Bool) → same_name x a.0 ≡ q → (q || rules.is_stored x xs) ≡ true → (rules.is_stored x xs ≡ true → (t : ValueType) × (type_in x ds ≡ Some t)) → (t : ValueType) × (type_in x (d ∷ ds) ≡ Some t)
    go true e m next = (d.of, ap (λ q. cond q (Some d.of) (type_in x ds)) (subst (λ z. same_name x z ≡ true) h.0 e))
    go false e m next = let r = next m in (r.0, ap (λ q. cond q (Some d.of) (type_in x ds)) (subst (λ z. same_name x z ≡ false) h.0 e) ∙ r.1)
stored_type sorts n x [] (a ∷ xs) h e = absurd h
stored_type sorts n x (d ∷ ds) [] h e = absurd h

forget_live : {p : Program} {scope : Scope} (done xs : List Name) {fs : List Declared} {sorts : Sorts fs} (s : rules.State) → Shaped p sorts scope s → Later p sorts scope s.next (forget done xs s)
forget_live done [] s sh = record { le = stays; shaped = sh }
forget_live {p = p} {scope = scope} done (x ∷ xs) {fs = fs} {sorts = sorts} s sh = go (rules.is_stored x s.store) refl (is_among x done) (forget_live {p = p} {scope = scope} done xs s sh) (λ sorts1 s1 sh1. forget_live {p = p} {scope = scope} (x ∷ done) xs {sorts = sorts1} s1 sh1)
  where
    go : (a : Bool) → rules.is_stored x s.store ≡ a → (b : Bool) → Later p sorts scope s.next (forget done xs s) → ((sorts1 : Sorts fs) (s1 : rules.State) → Shaped p sorts1 scope s1 → Later p sorts1 scope s1.next (forget (x ∷ done) xs s1)) →
        Later p sorts scope s.next (cond (a && not b) (forget (x ∷ done) xs (rules.with_store (rules.assign x (rules.fresh (sort_of (rules.found x s.store)) s) s.store) (rules.after_fresh s))) (forget done xs s))
    go false e b r next = r
    go true e true r next = r
    go true e false r next =
        let t = stored_type _ s.next x scope s.store sh.store e in
        let a = sort_of_formed (found_formed x t.0 scope s.store sh.store t.1).formed in
        let k = fresh_later (sort_of (rules.found x s.store)) (subst IsBuiltIn (sym a) (built_type t.0)) sh in
        let u : Fine k.le.sorts (suc s.next) (rules.fresh (sort_of (rules.found x s.store)) s) (sort_of_type t.0) = subst (λ z. Fine k.le.sorts (suc s.next) (rules.fresh (sort_of (rules.found x s.store)) s) z) a k.formed in
        let r = next k.le.sorts (rules.with_store (rules.assign x (rules.fresh (sort_of (rules.found x s.store)) s) s.store) (rules.after_fresh s))
        (record { store = shape_assign (suc s.next) x t.0 (rules.fresh (sort_of (rules.found x s.store)) s) scope s.store k.shaped.store t.1 u; path = k.shaped.path; heap = k.shaped.heap; old = k.shaped.old; own = k.shaped.own }) in
        record { le = above k.le r.le; shaped = r.shaped }

module _ {fs : List Declared} (P : Saying) (p : Program) (Held : Name → Type 0) (o : Outer) (parts : PartsLive fs P p Held o) (folds : FoldsLive fs P p Held o) (calls : CallsLive fs P p Held o) where
  -- back from a block
  left_shaped : {sorts : Sorts fs} (b : Block) (scope : Scope) (k : ℕ) (s : rules.State) → k ≡ length scope → Shaped p sorts (scope_after_all p b scope) s → Shaped p sorts scope (rules.leave k s)
  left_shaped {sorts = sorts} b scope k s e sh =
      let r = scope_more p b scope in
      record {
        store = subst (λ m. StoreShape sorts s.next scope (take m s.store)) (sym e)
            (subst (λ z. StoreShape sorts s.next z (take (length scope) s.store)) (ap (take (length scope)) r.1 ∙ take-append_seam scope r.0)
            (shape_take _ s.next (length scope) (scope_after_all p b scope) s.store sh.store));
        path = sh.path;
        heap = sh.heap;
        old = sh.old;
        own = sh.own;
      }

  of_callee : (f : Name) (c : Method) → method_named p f ≡ Some c → (at : Place) (xs : List Name) (ts : List Term) (s : rules.State) (on : Going) → LiveBy fs P (called p o at c (names_of ts s) xs (after_names ts s) on) →
      LiveBy fs P (elim (method_named p f) as (λ c. Tree) [ None ↦ never at CallCode s | Some c ↦ called p o at c (names_of ts s) xs (after_names ts s) on ])
  of_callee f c e at xs ts s on h = subst (λ m. LiveBy fs P (elim m as (λ c. Tree) [ None ↦ never at CallCode s | Some c ↦ called p o at c (names_of ts s) xs (after_names ts s) on ])) (sym e) h

  mutual
    exec_live : (st : Stmt) → Says Held p st → (scope : Scope) → IsTypedStmt p scope st → {sorts : Sorts fs} (s : rules.State) (on : Going) → Shaped p sorts scope s →
        Follows P p sorts s.next (scope_after p st scope) on → LiveBy fs P (exec p o st s on)
    exec_live (Declare at x t) j scope k s on sh h = let f = declared (record { name = x; of = t }) sh in h (rules.declare_fresh x (sort_of_type t) s) f.le f.shaped
    exec_live (Assign at x e) j scope k s on sh h =
        eval_live P p Held o parts k.2 j _ sh (λ t s1 le sh1 f.
        let n = named t (sort_of_type k.0) sh1 f in
        h (rules.with_store (rules.assign x (rules.name_of t s1) (rules.after_name t s1).store) (rules.after_name t s1)) (above le n.le)
        (record { store = shape_assign (rules.after_name t s1).next x k.0 (rules.name_of t s1) scope (rules.after_name t s1).store n.shaped.store k.1 n.formed; path = n.shaped.path; heap = n.shaped.heap; old = n.shaped.old; own = n.shaped.own }))
    exec_live (Inhale at a) j scope k s on sh h = produce_live P p Held o parts a k j whole_amount None on sh whole_fine tt h
    exec_live (Exhale at a) j scope k s on sh h = consume_live P p Held o parts a k j (codes AssertCode PermissionCode) whole_amount s.heap _ sh sh.heap whole_fine (λ t s1 le sh1 f. h s1 le sh1)
    exec_live (Assert at a) j scope k s on sh h =
        consume_live P p Held o parts a k j (codes AssertCode PermissionCode) whole_amount s.heap _ sh sh.heap whole_fine (λ t s1 le sh1 f. h (rules.with_heap s.heap s1) le (with_chunks s.heap le sh.heap sh1))
    exec_live (Assume at e) j scope k s on sh h =
        eval_live P p Held o parts k j _ sh (λ t s1 le sh1 f. let g = fact_later t sh1 f in h (rules.with_fact t s1) (above le g.le) g.shaped)
    exec_live (If at e a b) j scope k s on sh h =
        let leaving = λ (s1 : rules.State). on (rules.leave (length s.store) s1) in
        let e' = shape_length _ s.next scope s.store sh.store in
        eval_live P p Held o parts k.0 j.0 _ sh (λ t s1 le sh1 f.
        fork_live P t (λ s2. exec_all p o a s2 leaving) (λ s2. exec_all p o b s2 leaving) sh1 f
        (λ s2 le2 sh2. exec_all_live a j.1 scope k.1 s2 leaving sh2 (λ s3 le3 sh3. h (rules.leave (length s.store) s3) (above le (above le2 le3)) (left_shaped a scope (length s.store) s3 e' sh3)))
        (λ s2 le2 sh2. exec_all_live b j.2 scope k.2 s2 leaving sh2 (λ s3 le3 sh3. h (rules.leave (length s.store) s3) (above le (above le2 le3)) (left_shaped b scope (length s.store) s3 e' sh3))))
    exec_live (Write at e f e') j scope k s on sh h =
        eval_live P p Held o parts k.2 j.0 _ sh (λ r s1 le sh1 g.
        eval_live P p Held o parts k.3 j.1 _ sh1 (λ t s2 le2 sh2 ft.
        write_live P f r t at on sh2 (fine_later le2 g)
        (subst (λ a. Fine le2.sorts s2.next t a) (sym (sort_of_field p f ∙ ap sort_of_type (field_type_is p f k.1))) ft) (λ s3 le3 sh3. h s3 (above le (above le2 le3)) sh3)))
    exec_live (New at x fs) j scope k s on sh h =
        let v = rules.fresh RefSort s in
        let a = fresh_later RefSort tt sh in
        let gv : Fine a.le.sorts (suc s.next) (rules.fresh RefSort s) RefSort = a.formed in
        let b = facts_later (distinct (rules.fresh RefSort s) s) (rules.after_fresh s) a.shaped (distinct_fine p (suc s.next) scope v s gv a.shaped.store a.shaped.heap a.shaped.old) in
        let c = put_all_live fs (rules.fresh RefSort s) (rules.with_facts (distinct (rules.fresh RefSort s) s) (rules.after_fresh s)) b.shaped (fine_later b.le gv) in
        let s1 = put_fields p fs (rules.fresh RefSort s) (rules.with_facts (distinct (rules.fresh RefSort s) s) (rules.after_fresh s)) in
        h (rules.with_store (rules.assign x v s1.store) s1) (above a.le (above b.le c.le))
        (record { store = shape_assign s1.next x type.Ref v scope s1.store c.shaped.store k.0 (fine_later (above b.le c.le) gv); path = c.shaped.path; heap = c.shaped.heap; old = c.shaped.old; own = c.shaped.own })
    exec_live (Call at xs f es) j scope k s on sh h =
        evals_live P p Held o parts k.2 j.0 _ sh (λ ts s1 le sh1 g.
        let n = named_all (k.0).parameters ts sh1 g in
        of_callee f k.0 k.1 at xs ts s1 on (calls k.0 (j.1 k.0 k.1) scope at xs (names_of ts s1) n.le.sorts (after_names ts s1) on k.3 n.shaped n.each (λ s2 le2 sh2. h s2 (above le (above n.le le2)) sh2)))
    exec_live (Fold at i es share) j scope k s on sh h =
        let exchanged = λ (a : Term) (ts : List Term) (s3 : rules.State). folded p o at i ts a s3 on in
        eval_live P p Held o parts k.1 j.2 _ sh (λ a s1 le sh1 f.
        ask_live P (less zero_amount a) at AmountCode (λ s2. evals p o es s2 (exchanged a)) sh1 (positive_fine f) (λ s2 le2 sh2.
        evals_live P p Held o parts k.0.2 j.1 (exchanged a) sh2 (λ ts s3 le3 sh3 g.
        folds i k.0.0 j.0 k.0.1 scope at ts a le3.sorts s3 on sh3 g (fine_later (above le2 le3) f) (λ s4 le4 sh4. h s4 (above le (above le2 (above le3 le4))) sh4))))
    exec_live (Unfold at i es share) j scope k s on sh h =
        let exchanged = λ (a : Term) (ts : List Term) (s3 : rules.State). unfolded p o at i ts a s3 on in
        eval_live P p Held o parts k.1 j.2 _ sh (λ a s1 le sh1 f.
        ask_live P (less zero_amount a) at AmountCode (λ s2. evals p o es s2 (exchanged a)) sh1 (positive_fine f) (λ s2 le2 sh2.
        evals_live P p Held o parts k.0.2 j.1 (exchanged a) sh2 (λ ts s3 le3 sh3 g.
        parts.unfolds i k.0.0 j.0 k.0.1 scope at ts a le3.sorts s3 on sh3 g (fine_later (above le2 le3) f) (λ s4 le4 sh4. h s4 (above le (above le2 (above le3 le4))) sh4))))
    exec_live (While at e is b) j scope k s on sh h =
        let inv = joined at is in
        let t = joined_typed p scope at is k.1 in
        let l = joined_speaks Held at is j.1 in
        let xs = assigned_in b in
        let e' = shape_length _ s.next scope s.store sh.store in
        let end = λ (s5 : rules.State). consume p o inv (codes KeptCode KeptCode) whole_amount s5.heap s5 (λ v s6. End) in
        consume_live P p Held o parts inv t l (codes EntryCode EntryCode) whole_amount s.heap _ sh sh.heap whole_fine (λ u s1 le sh1 fu.
        let f = forget_live [] xs s1 sh1 in
        let s2 = forget [] xs s1 in (
          produce_live P p Held o parts inv t l whole_amount None _ (record { store = f.shaped.store; path = f.shaped.path; heap = tt; old = f.shaped.old; own = f.shaped.own }) whole_fine tt (λ s3 le3 sh3.
              eval_live P p Held o parts k.0 j.0 _ sh3 (λ v s4 le4 sh4 g.
              exec_all_live b j.2 scope k.2 (rules.with_branch v s4) (λ s5. end (rules.leave (length s.store) s5)) (entry_shaped v true sh4 g) (λ s5 le5 sh5.
              let sh6 = left_shaped b scope (length s.store) s5 e' sh5 in
              consume_live P p Held o parts inv t l {s = rules.leave (length s.store) s5} (codes KeptCode KeptCode) whole_amount s5.heap _ sh6 sh6.heap whole_fine (λ w s7 le7 sh7 fw. tt)))),
          produce_live P p Held o parts inv t l whole_amount None _ f.shaped whole_fine tt (λ s3 le3 sh3.
              eval_live P p Held o parts k.0 j.0 _ sh3 (λ v s4 le4 sh4 g.
              h (rules.with_branch (negate v) s4) (above le (above f.le (above le3 le4))) (entry_shaped (negate v) true sh4 (negate_fine g)))),
        ))

    pub exec_all_live : (b : Block) → AllSay Held p b → (scope : Scope) → IsTypedBlock p scope b → {sorts : Sorts fs} (s : rules.State) (on : Going) → Shaped p sorts scope s →
        Follows P p sorts s.next (scope_after_all p b scope) on → LiveBy fs P (exec_all p o b s on)
    exec_all_live Done j scope k s on sh h = h s stays sh
    exec_all_live (Then st b) j scope k s on sh h =
        exec_live st j.0 scope k.0 s (λ s1. exec_all p o b s1 on) sh (λ s1 le sh1.
        exec_all_live b j.1 (scope_after p st scope) k.1 s1 on sh1 (λ s2 le2 sh2. h s2 (above le le2) sh2))
