-- No run of a cleared statement fails, and what follows one that ends is cleared at its state.
use Rattle.std.proofs.Common.{◌≡◌, ℕ, ◌≤◌, Bool, true, false, not, cond, ◌⊎◌, inl, inr, List, [], ◌∷◌, ◌++◌, length, take, slice_set, Option, Some, None, refl, sym, ◌∙◌, ap, subst, le_refl, le_trans}
use Rattle.std.specs.Prelude.{Ok}
use Rattle.std.proofs.Math.Seq.{take-append_seam}
use Rattle.vx_frac.specs.Fractions.{none, full, at_most}
use Rattle.vx_ast.specs.declared.Place.{Place}
use Rattle.vx_ast.specs.declared.ValueType.{ValueType}
use Rattle.vx_ast.specs.declared.ValueType.TheVariants as type
use Rattle.vx_ast.specs.Syntax.{Name, Program, Expr, Exprs, Assertion, Stmt, Declare, Assign, Write, New, Call, Inhale, Exhale, Assert, Assume, Fold, Unfold, If, While, Block, Done, Then, joined, assigned_in, method_named}
use Rattle.vx_meaning.specs.Values.{Value, RefValue, type_of, is_true}
use Rattle.vx_meaning.specs.States as run
use Rattle.vx_meaning.specs.Consistent.{IsConsistent, Changes}
use Rattle.vx_meaning.specs.Fits.{Checked, ◌>>=◌, guard, placed, Eventually, fit_by, fit_all, deeper, take_by}
use Rattle.vx_meaning.specs.Outcomes.{Outcome, Outcomes, ends, stops, either, and_then, checked, passes, refused}
use Rattle.vx_meaning.specs.Give.{when, side, give}
use Rattle.vx_meaning.specs.Run as meaning
use Rattle.vx_terms.specs.Sorts.{RealSort, RefSort}
use Rattle.vx_terms.specs.Terms.{Term}
use Rattle.vx_terms.specs.Build.{true_term, negate, less_equal, whole_amount}
use Rattle.vx_terms.proofs.Build.{negate_value}
use Rattle.vx_terms.proofs.Same.{term_is}
use Rattle.vx_terms.specs.Interpretations.{Interpretation, as_bool, value, IsTrueIn}
use Rattle.vx_rules.specs.States as rules
use Rattle.vx_rules.specs.States.{sort_of_type}
use Rattle.vx_rules.specs.Trees.{AssertCode, PermissionCode, CallCode, EntryCode, KeptCode, Tree, End, Step, Fork}
use Rattle.vx_rules.specs.Chunks.{field_key, Candidate, holds_amount, chosen, candidates, surely, sum_at, written_each}
use Rattle.vx_rules.specs.Chunks as chunk
use Rattle.vx_rules.specs.Rules.{Giving, GivingAll, Going, Outer, never, fork, write_field, field_sort, eval, produce, consume, unfolded}
use Rattle.vx_rules.specs.Rules as rule
use Rattle.vx_rules.specs.Members.{codes, forget, names_of, after_names, called, folded, exec, exec_all}
use Rattle.vx_types.specs.Typing.{Scope, AreOnce, IsTyped, IsTypedStmt, IsTypedBlock, scope_after, scope_after_all}
use Rattle.vx_sound.proofs.Marks.{unrooted}
use Rattle.vx_sound.proofs.World.{at_field, CanBe, World, Changing}
use Rattle.vx_sound.proofs.Speaks.{Speaks, AllSpeak, SpeaksOf, AllSpeakOf, joined_speaks}
use Rattle.vx_sound.proofs.Says.{IsCalled, Says, AllSay}
use Rattle.vx_sound.proofs.Steps.{StepsGo, InstanceAt, instance_at}
use Rattle.vx_sound.proofs.Passes.{Cleared}
use Rattle.vx_elements.proofs.Settled.{Meaning, Extends, extends-refl, extends-trans, value_kept}
use Rattle.vx_elements.proofs.Built.{Good, good_later, good_negate}
use Rattle.vx_elements.proofs.Elements.{element}
use Rattle.vx_elements.proofs.Eventually.{both_eventually, one_answer}
use Rattle.vx_amounts.proofs.Amounts.{Le, le-refl, le-trans, le-is, not-positive, full-positive}
use Rattle.vx_elements.proofs.Truth.{good_whole, true_le, good_at_most}
use Rattle.vx_sound.proofs.Stands.{location_of, resource_of, amount_of, resource_kept, amount_kept, StoreStands, HeapStands, Stands, stands_with_store, heap_later, store_take, store_lengths, store_assign, stands_entry, unowned}
use Rattle.vx_elements.proofs.Values.{ref_value_is, sort_of_field, field_type_is}
use Rattle.vx_elements.proofs.Places.{IsPlace, matching_places}
use Rattle.vx_sound.proofs.Chunks.{field_resource, Apart, taken_apart, chunk_held}
use Rattle.vx_sound.proofs.SumReads.{surely_is}
use Rattle.vx_sound.proofs.Summed.{sum_is, parts_below, candidates_are}
use Rattle.vx_sound.proofs.SumTaken.{AskedAt, asked_at}
use Rattle.vx_sound.proofs.Slots.{candidates_stand, candidates_differ}
use Rattle.vx_sound.proofs.SumWrites.{Among, kin_among, held_each, start_at, all_written}
use Rattle.vx_sound.proofs.Puts.{heap_changed, written_stands, all_held}
use Rattle.vx_sound.proofs.Candidates.{of_field, amount_is}
use Rattle.vx_sound.proofs.Goes.{Goes, Evaluates, here, goes_after, reached, forked, declared, Named, named}
use Rattle.vx_sound.proofs.Evaluate.{PartsGo, bind_ok, eval_goes, EvaluatesAll, evals_goes}
use Rattle.vx_sound.proofs.Giving.{whole_scale}
use Rattle.vx_sound.proofs.Assertions.{by_side, Leaves, leaves_after, ends_leaves, stops_leaves, then_leaves, refused_leaves, stands_at, pure_goes, is_true_of, give_goes, Consumes, consumed}
use Rattle.vx_sound.proofs.Arguments.{NamedAll, named_all}
use Rattle.vx_sound.proofs.Forget.{toward_start, forget_goes}
use Rattle.vx_sound.proofs.Once.{once_more}
use Rattle.vx_sound.proofs.Fresh.{new_goes}
use Rattle.vx_elements.proofs.Scopes.{scope_more, joined_typed}

module _ (p : Program) where
  pub still_once : (st : Stmt) (scope : Scope) → IsTypedStmt p scope st → AreOnce scope → AreOnce (scope_after p st scope)
  still_once (Declare at x t) scope k u = once_more scope record { name = x; of = t } u k
  still_once (Assign at x e) scope k u = u
  still_once (Write at e f e') scope k u = u
  still_once (New at x fs) scope k u = u
  still_once (Call at xs f es) scope k u = u
  still_once (Inhale at a) scope k u = u
  still_once (Exhale at a) scope k u = u
  still_once (Assert at a) scope k u = u
  still_once (Assume at e) scope k u = u
  still_once (Fold at i es share) scope k u = u
  still_once (Unfold at i es share) scope k u = u
  still_once (If at e a b) scope k u = u
  still_once (While at e is b) scope k u = u

module _ (means : Meaning) (world : World) where
  abbrev p : Program
  p = world.program

  module _ (o : Outer) (changing : Changing world) (steps : StepsGo means world o) where
    abbrev parts : PartsGo means world o
    parts = steps.parts

    possible : (c : run.State) → IsConsistent p c → CanBe p world.bounded c
    possible c k = subst (λ b. CanBe p b c) (sym changing.bounded) k

    -- back from a block
    leave_goes : {mid scope : Scope} {i : Interpretation} {n : ℕ} {d : run.State} (on : Going) (k l : ℕ) → k ≡ length scope → l ≡ length scope → take (length scope) mid ≡ scope →
        Goes means world mid i n (λ s1. on (rules.leave k s1)) d → Goes means world scope i n on (run.leave l d)
    leave_goes {mid = mid} {scope = scope} {d = d} on k l e f t g = record {
      interp = g.interp;
      state = rules.leave k g.state;
      extends = g.extends;
      later = g.later;
      stands = stands_with_store means world scope (take k g.state.store) (take l d.store) g.stands
          (subst (λ z. StoreStands means world g.state.next g.interp z (take k g.state.store) (take l d.store)) t
          (subst (λ m. StoreStands means world g.state.next g.interp (take (length scope) mid) (take m g.state.store) (take l d.store)) (sym e)
          (subst (λ m. StoreStands means world g.state.next g.interp (take (length scope) mid) (take (length scope) g.state.store) (take m d.store)) (sym f)
          (store_take means world g.state.next g.interp (length scope) mid g.state.store d.store g.stands.store))));
      cleared = g.cleared;
    }

    back_in : (b : Block) (scope : Scope) → take (length scope) (scope_after_all p b scope) ≡ scope
    back_in b scope = let r = scope_more p b scope in ap (take (length scope)) r.1 ∙ take-append_seam scope r.0

    -- a side of a condition, whose block's variables are forgotten
    scoped_leaves : (scope : Scope) (i : Interpretation) (n : ℕ) (c : run.State) (b : Block) (on : Going) (k : ℕ) (outcome : Outcome) → k ≡ length scope → length c.store ≡ length scope →
        meaning.scoped p (meaning.run_all p b) c outcome → ((other : Outcome) → meaning.run_all p b c other → Leaves means world (scope_after_all p b scope) i n (λ s1. on (rules.leave k s1)) other) → Leaves means world scope i n on outcome
    scoped_leaves scope i n c b on k outcome e f h then =
        then_leaves means world (scope_after_all p b scope) scope i n (meaning.run_all p b c) (λ t. ends (run.leave (length c.store) t)) (λ s1. on (rules.leave k s1)) on outcome h then
        (λ d g r. ends_leaves means world scope g.interp g.state.next on (run.leave (length c.store) d) outcome r
        (leave_goes on k (length c.store) e f (back_in b scope) record { interp = g.interp; state = g.state; extends = extends-refl means g.state.next g.interp; later = le_refl _; stands = g.stands; cleared = g.cleared }))

    -- what is shown of a statement, and of a block
    ExecGoes : Stmt → Type 0
    ExecGoes st =
        (scope : Scope) (c : run.State) (outcome : Outcome) → meaning.run p st c outcome → IsTypedStmt p scope st → AreOnce scope → (i : Interpretation) (s : rules.State) (on : Going) →
        Stands means world scope i s c → Cleared (exec p o st s on) → Leaves means world (scope_after p st scope) i s.next on outcome

    ExecAllGoes : Block → Type 0
    ExecAllGoes b =
        (scope : Scope) (c : run.State) (outcome : Outcome) → meaning.run_all p b c outcome → IsTypedBlock p scope b → AreOnce scope → (i : Interpretation) (s : rules.State) (on : Going) →
        Stands means world scope i s c → Cleared (exec_all p o b s on) → Leaves means world (scope_after_all p b scope) i s.next on outcome

    declare_goes : (at : Place) (x : Name) (t : ValueType) → ExecGoes (Declare at x t)
    unfolding ExecGoes
    declare_goes at x t scope c outcome h k u i s on st w =
        ends_leaves means world (scope ++ record { name = x; of = t } ∷ []) i s.next on (run.declare x h.0 c) outcome h.1.1 (declared means world x t h.0 on h.1.0 st w)

    assign_goes : (at : Place) (x : Name) (e : Expr) → Speaks world.Held world.Applied e → ExecGoes (Assign at x e)
    unfolding ExecGoes
    assign_goes at x e j scope c outcome (passes v h rest) k u i s on st w =
        ends_leaves means world scope i s.next on (run.with_store (run.assign x r.result c.store) c) outcome (subst (λ y. ends (run.with_store (run.assign x y c.store) c) outcome) (one_answer v r.result h r.fits) rest) assigned
      where
        after : Giving
        after t s1 = let s2 = rules.after_name t s1 in Step (on (rules.with_store (rules.assign x (rules.name_of t s1) s2.store) s2))

        r : Evaluates means world scope i s.next after c e k.0
        r = eval_goes means world o parts k.2 j after st w

        n : Named means world scope r.interp r.state.next c (sort_of_type k.0) (value r.interp r.term) (rules.name_of r.term r.state) (rules.after_name r.term r.state)
        n = named means world r.term (sort_of_type k.0) r.stands r.good

        x1 : Extends means s.next i n.interp
        x1 = extends-trans means r.later r.extends n.extends

        assigned : Goes means world scope i s.next on (run.with_store (run.assign x r.result c.store) c)
        assigned = record {
          interp = n.interp;
          state = rules.with_store (rules.assign x (rules.name_of r.term r.state) (rules.after_name r.term r.state).store) (rules.after_name r.term r.state);
          extends = x1;
          later = le_trans r.later n.later;
          stands = stands_with_store means world scope _ _ n.stands (store_assign means world x k.0 (rules.name_of r.term r.state) r.result scope _ _ n.stands.store k.1 r.typed n.good (n.value_is ∙ r.value_is));
          cleared = r.cleared;
        }
    assign_goes at x e j scope c outcome (refused place h f) k u i s on st w =
        let after : Giving = λ t s1. let s2 = rules.after_name t s1 in Step (on (rules.with_store (rules.assign x (rules.name_of t s1) s2.store) s2)) in
        let r = eval_goes means world o parts k.2 j after st w in
        refused_leaves means world scope i s.next on outcome r.result place r.fits h

    inhale_goes : (at : Place) (a : Assertion) → SpeaksOf world.Held world.Applied a → ExecGoes (Inhale at a)
    unfolding ExecGoes
    inhale_goes at a j scope c outcome h k u i s on st w = give_goes means world o parts (IsConsistent p) possible (unrooted changing.unmarked) outcome a full h k j whole_amount on (whole_scale means world s.next i) st w

    assume_goes : (at : Place) (e : Expr) → Speaks world.Held world.Applied e → ExecGoes (Assume at e)
    unfolding ExecGoes
    assume_goes at e j scope c outcome h k u i s on st w = pure_goes means world o parts outcome (IsConsistent p) full h k j on st w

    assert_goes : (at : Place) (a : Assertion) → SpeaksOf world.Held world.Applied a → ExecGoes (Assert at a)
    unfolding ExecGoes
    assert_goes at a j scope c outcome h k u i s on st w = go h
      where
        after : Giving
        after t s1 = Step (on (rules.with_heap s.heap s1))

        r : Consumes means world o parts scope i s.next after c a full c.holdings
        r = consumed means world o parts a full k j (codes AssertCode PermissionCode) whole_amount after (whole_scale means world s.next i) st w

        go : checked (λ n. take_by p n c full a c.holdings) (λ _. ends c) outcome → Leaves means world scope i s.next on outcome
        go (passes v h rest) = ends_leaves means world scope i s.next on c outcome rest record {
          interp = r.goes.interp;
          state = rules.with_heap s.heap r.goes.state;
          extends = r.goes.extends;
          later = r.goes.later;
          stands = stands_at means world c s.heap r.goes.stands (heap_later means world r.goes.later r.goes.extends s.heap c.heap c.holdings st.heap) st.holds;
          cleared = r.goes.cleared;
        }
        go (refused place h f) = refused_leaves means world scope i s.next on outcome r.left place r.takes h

    -- what is left keeps its values, whatever else changes
    exhale_goes : (at : Place) (a : Assertion) → SpeaksOf world.Held world.Applied a → ExecGoes (Exhale at a)
    unfolding ExecGoes
    exhale_goes at a j scope c outcome h k u i s on st w = go h
      where
        after : Giving
        after t s1 = Step (on s1)

        r : Consumes means world o parts scope i s.next after c a full c.holdings
        r = consumed means world o parts a full k j (codes AssertCode PermissionCode) whole_amount after (whole_scale means world s.next i) st w

        changed : (heap : run.Heap) → Changes p (run.with_holdings r.left c) heap → Goes means world scope i s.next on (run.with_heap heap (run.with_holdings r.left c))
        changed heap same = record {
          interp = r.goes.interp;
          state = r.goes.state;
          extends = r.goes.extends;
          later = r.goes.later;
          stands = record {
            store = r.goes.stands.store;
            path = r.goes.stands.path;
            heap = heap_changed means world changing r.goes.state.next r.goes.interp r.goes.state.heap (run.with_holdings r.left c) heap r.goes.stands.heap r.goes.stands.holds same;
            old = r.goes.stands.old;
            awake = r.goes.stands.awake;
            bounded = r.goes.stands.bounded;
            null = r.goes.stands.null;
            standard = r.goes.stands.standard;
            owned = unowned means world _ _ _ _ _ _ _ world.own changing.of_no_function r.goes.stands.owned;
            marked = r.goes.stands.marked;
            holds = changing.changed (run.with_holdings r.left c) heap same r.goes.stands.holds;
            old_holds = r.goes.stands.old_holds;
          };
          cleared = r.goes.cleared;
        }

        go : checked (λ n. take_by p n c full a c.holdings) (λ left. meaning.after_change p (run.with_holdings left c) ends) outcome → Leaves means world scope i s.next on outcome
        go (passes v h rest) =
            let f = subst (λ y. meaning.after_change p (run.with_holdings y c) ends outcome) (one_answer v r.left h r.takes) rest in
            ends_leaves means world scope i s.next on (run.with_heap f.0 (run.with_holdings r.left c)) outcome f.1.1 (changed f.0 f.1.0)
        go (refused place h f) = refused_leaves means world scope i s.next on outcome r.left place r.takes h

    -- Writing

    -- the state behind a write, of a location that is held whole
    record WroteAt (scope : Scope) (f : Name) (k : ℕ) (v : Value) (i : Interpretation) (n : ℕ) (c : run.State) (on : Going) : Type 0 where
      pub interp : Interpretation
      pub state : rules.State
      pub extends : Extends means n i interp
      pub later : n ≤ state.next
      pub stands : Stands means world scope interp state (run.with_heap ((at_field k f, v) ∷ c.heap) c)
      pub enough : Le full (run.amount c.holdings (run.At (at_field k f)))
      pub cleared : Cleared (on state)

    -- into a chunk of its own
    write_own : {scope : Scope} {i : Interpretation} {s : rules.State} {c : run.State} (f : Name) (r t : Term) (k : ℕ) (v : Value) (on : Going) → Stands means world scope i s c → Good means s.next i r RefSort → value i r ≡ element (RefValue k) →
        Good means s.next i t (field_sort p f) → value i t ≡ element v → type_of v ≡ run.field_type p f → (d : Candidate) → IsPlace (field_key f r) s.heap d → IsTrueIn i (holds_amount whole_amount (r ∷ []) d.chunk) → Cleared (on (chunk.written d t s)) → WroteAt scope f k v i s.next c on
    write_own {scope = scope} {i = i} {s = s} {c = c} f r t k v on st g e gt vt ty d pl h cl = record {
      interp = n.interp;
      state = chunk.written d t s;
      extends = n.extends;
      later = n.later;
      stands = record {
        store = n.stands.store;
        path = n.stands.path;
        heap = heap_is;
        old = n.stands.old;
        awake = n.stands.awake;
        bounded = n.stands.bounded;
        null = n.stands.null;
        standard = n.stands.standard;
        owned = unowned means world _ _ _ _ _ _ _ world.own changing.of_no_function n.stands.owned;
        marked = n.stands.marked;
        holds = changing.written c.heap c.holdings (at_field k f) v st.holds enough;
        old_holds = n.stands.old_holds;
      };
      enough = enough;
      cleared = cl;
    }
      where
        gw : Good means s.next i whole_amount RealSort
        gw = good_whole means

        location : (l m : run.Location) → run.At l ≡ run.At m → l ≡ m
        location l m e = cc

        a : Apart means world s.next i c.heap pl.front d.chunk pl.back c.holdings
        a = taken_apart means world s.next i c.heap pl st.heap

        held_whole : (resource_of i d.chunk ≡ run.At (at_field k f)) × Le full (amount_of i d.chunk)
        held_whole = let m = amount_is means world (of_field f r k g e) d.chunk pl.kind pl.resource a.chunk gw h in (m.0, m.1)

        n : Named means world scope i s.next c (field_sort p f) (value i t) (rules.name_of t s) (rules.after_name t s)
        n = named means world t (field_sort p f) st gt

        at_is : location_of i d.chunk ≡ at_field k f
        at_is = location (location_of i d.chunk) (at_field k f) (sym (field_resource i d.chunk pl.kind) ∙ held_whole.0)

        at_is' : location_of n.interp d.chunk ≡ at_field k f
        at_is' = location (location_of n.interp d.chunk) (at_field k f) (sym (field_resource n.interp d.chunk pl.kind) ∙ resource_kept means world n.later n.extends d.chunk c.heap a.chunk ∙ field_resource i d.chunk pl.kind ∙ ap run.At at_is)

        whole' : Le full (amount_of n.interp d.chunk)
        whole' = subst (λ e. Le full e) (sym (amount_kept means world n.later n.extends d.chunk c.heap a.chunk)) held_whole.1

        heap_is : HeapStands means world (rules.after_name t s).next n.interp (slice_set s.heap d.number (record d.chunk { value = rules.name_of t s })) ((at_field k f, v) ∷ c.heap) c.holdings
        heap_is =
            subst (λ l. HeapStands means world (rules.after_name t s).next n.interp (slice_set s.heap d.number (record d.chunk { value = rules.name_of t s })) ((l, v) ∷ c.heap) c.holdings) at_is'
            (written_stands means world changing (rules.after_name t s).next n.interp c.heap pl pl.kind (heap_later means world n.later n.extends s.heap c.heap c.holdings st.heap) st.holds whole' (rules.name_of t s) v
            (subst (λ x. Good means (rules.after_name t s).next n.interp (rules.name_of t s) (field_sort p x)) (sym pl.resource) n.good) (n.value_is ∙ vt) (ty ∙ ap (run.field_type p) (sym pl.resource)))

        enough : Le full (run.amount c.holdings (run.At (at_field k f)))
        enough = subst (λ y. Le full (run.amount c.holdings y)) held_whole.0 (le-trans held_whole.1 (chunk_held means world s.next i c.heap pl st.heap))

    write_one : {scope : Scope} {i : Interpretation} {s : rules.State} {c : run.State} (f : Name) (r t : Term) (k : ℕ) (v : Value) (at : Place) (on : Going) →
        Stands means world scope i s c → Good means s.next i r RefSort → value i r ≡ element (RefValue k) → Good means s.next i t (field_sort p f) → value i t ≡ element v → type_of v ≡ run.field_type p f → Cleared (write_field f r t at s on) → WroteAt scope f k v i s.next c on
    write_one {scope = scope} {i = i} {s = s} {c = c} f r t k v at on st g e gt vt ty h = go (surely (holds_amount whole_amount (r ∷ [])) (chosen true (field_key f r) 0 s.heap)) refl h
      where
        gw : Good means s.next i whole_amount RealSort
        gw = good_whole means

        each_one : Going
        each_one s1 = on (written_each r t (candidates (field_key f r) s1.heap) s1)

        go : (o : Option Candidate) → surely (holds_amount whole_amount (r ∷ [])) (chosen true (field_key f r) 0 s.heap) ≡ o →
            Cleared (elim o as (λ o. Tree) [ Some d ↦ Step (on (chunk.written d t s)) | None ↦ rule.ask (less_equal whole_amount (sum_at r (candidates (field_key f r) s.heap))) at PermissionCode s each_one ]) → WroteAt scope f k v i s.next c on
        go (Some d) o m =
            let x = surely_is (holds_amount whole_amount (r ∷ [])) (IsPlace (field_key f r) s.heap) (chosen true (field_key f r) 0 s.heap) d (matching_places (field_key f r) s.heap) o in
            write_own f r t k v on st g e gt vt ty d x.0 (subst (IsTrueIn i) (sym (term_is (holds_amount whole_amount (r ∷ []) d.chunk) true_term x.1)) refl) m
        go None o m =
            let gs = (sum_is means world s.next i c.heap f r k g e (candidates (field_key f r) s.heap) (candidates_are means world s.next i c.heap f r k g e s.heap st.heap.each)) in
            let w = asked_at means world (less_equal whole_amount (sum_at r (candidates (field_key f r) s.heap))) at PermissionCode each_one st (good_at_most means gw gs.good) m in
            let enough : Le full (run.amount c.holdings (run.At (at_field k f))) =
            le-trans (true_le means (sum_at r (candidates (field_key f r) s.heap)) gw w.0) (le-trans gs.is.there (le-trans (parts_below means world s.next i c.heap f r k g e s.heap st.heap.each) (st.heap.sums (run.At (at_field k f))))) in
            finish w.1 enough
          where
            finish : AskedAt means world scope i s c each_one → Le full (run.amount c.holdings (run.At (at_field k f))) → WroteAt scope f k v i s.next c on
            finish after enough =
                let s1 = after.state in
                let cs = candidates (field_key f r) s1.heap in
                let g1 : Good means after.state.next i r RefSort = subst (λ m. Good means m i r RefSort) (sym after.next_is) g in
                let gt1 : Good means after.state.next i t (field_sort p f) = subst (λ m. Good means m i t (field_sort p f)) (sym after.next_is) gt in
                let nn : k ≡ 0 → ⊥ = λ q. not-positive full-positive (le-trans enough (subst (λ x. Le (run.amount c.holdings (run.At (at_field x f))) none) (sym q) ((world.limited c.heap c.holdings st.holds).null f))) in
                let h0 = start_at means world changing s1.next i c.heap c.holdings f r k v st.holds enough (λ m. Among m cs) s1.heap after.stands.heap.each (all_held means world s1.next i c.heap c.holdings s1.heap after.stands.heap) (kin_among (field_key f r) s1.heap) in
                let z = all_written means world changing s1.heap f r k t v ty nn cs s1 {scope = scope} {i = i} {c = c} after.stands (candidates_are means world s1.next i c.heap f r k g1 e s1.heap after.stands.heap.each) g1 e gt1 vt h0 in
                record {
                  interp = z.interp;
                  state = written_each r t cs s1;
                  extends = subst (λ m. Extends means m i z.interp) after.next_is z.extends;
                  later = subst (λ m. m ≤ (written_each r t cs s1).next) after.next_is z.later;
                  stands = record {
                    store = z.stands.store;
                    path = z.stands.path;
                    heap = record {
                      each = z.each;
                      sums = λ x. le-trans (le-is (held_each z.interp r t cs s1 x (candidates_stand (field_key f r) s1.heap) (candidates_differ (field_key f r) s1.heap))) (z.stands.heap.sums x);
                    };
                    old = z.stands.old;
                    awake = z.stands.awake;
                    bounded = z.stands.bounded;
                    null = z.stands.null;
                    standard = z.stands.standard;
                    owned = unowned means world _ _ _ _ _ _ _ world.own changing.of_no_function z.stands.owned;
                    marked = z.stands.marked;
                    holds = changing.written c.heap c.holdings (at_field k f) v st.holds enough;
                    old_holds = z.stands.old_holds;
                  };
                  enough = enough;
                  cleared = after.cleared;
                }

    abbrev owned_value : run.State → Place → Name → Value → Value → Checked (run.Location × Value)
    owned_value c at f r v = meaning.owned c at f r >>= λ l. Ok (l, v)

    write_fits : (m : ℕ) (c : run.State) (at : Place) (e : Expr) (f : Name) (e' : Expr) (r v : Value) (k : ℕ) → fit_by p m c e ≡ Ok r → r ≡ RefValue k → fit_by p m c e' ≡ Ok v → at_most full (run.amount c.holdings (run.At (at_field k f))) ≡ true →
        (fit_by p m c e >>= λ r. fit_by p m c e' >>= λ v. owned_value c at f r v) ≡ Ok (at_field k f, v)
    write_fits m c at e f e' r v k g gk h whole =
        bind_ok (λ r. fit_by p m c e' >>= λ v. owned_value c at f r v) r g ∙ bind_ok (λ v. owned_value c at f r v) v h ∙ ap (λ r. owned_value c at f r v) gk ∙ ap tested whole
      where
        tested : Bool → Checked (run.Location × Value)
        tested b = (guard at b >>= λ _. Ok (at_field k f)) >>= λ l. Ok (l, v)

    write_goes : (at : Place) (e : Expr) (f : Name) (e' : Expr) → Speaks world.Held world.Applied e → Speaks world.Held world.Applied e' → ExecGoes (Write at e f e')
    unfolding ExecGoes
    write_goes at e f e' j j' scope c outcome h k u i s on st w = go h
      where
        second : Term → Giving
        second r t s2 = write_field f r t at s2 on

        r : Evaluates means world scope i s.next (λ r s1. Step (eval p o e' s1 (second r))) c e type.Ref
        r = eval_goes means world o parts k.2 j (λ r s1. Step (eval p o e' s1 (second r))) st w

        q : Evaluates means world scope r.interp r.state.next (second r.term) c e' k.0
        q = eval_goes means world o parts k.3 j' (second r.term) r.stands r.cleared

        reference : (m : ℕ) × (r.result ≡ RefValue m)
        reference = ref_value_is r.result r.typed

        sort_is : sort_of_type k.0 ≡ field_sort p f
        sort_is = sym (sort_of_field p f ∙ ap sort_of_type (field_type_is p f k.1))

        x : WroteAt scope f reference.0 q.result q.interp q.state.next c on
        x = write_one f r.term q.term reference.0 q.result at on q.stands (good_later means q.later q.extends r.good) (value_kept means r.term r.good.settled q.extends ∙ r.value_is ∙ ap element reference.1)
            (subst (λ z. Good means q.state.next q.interp q.term z) sort_is q.good) q.value_is (q.typed ∙ sym (field_type_is p f k.1)) q.cleared

        written : Goes means world scope i s.next on (run.with_heap ((at_field reference.0 f, q.result) ∷ c.heap) c)
        written = record {
          interp = x.interp;
          state = x.state;
          extends = extends-trans means (le_trans r.later q.later) (extends-trans means r.later r.extends q.extends) x.extends;
          later = le_trans (le_trans r.later q.later) x.later;
          stands = x.stands;
          cleared = x.cleared;
        }

        allowed : Eventually (λ n. (fit_by p n c e >>= λ r. fit_by p n c e' >>= λ v. owned_value c at f r v) ≡ Ok (at_field reference.0 f, q.result))
        allowed = both_eventually r.fits q.fits (λ m g l. write_fits m c at e f e' r.result q.result reference.0 g reference.1 l x.enough.holds)

        go : checked (λ n. fit_by p n c e >>= λ r. fit_by p n c e' >>= λ v. owned_value c at f r v) (λ (l, v). ends (run.with_heap ((l, v) ∷ c.heap) c)) outcome → Leaves means world scope i s.next on outcome
        go (passes y h rest) =
            ends_leaves means world scope i s.next on (run.with_heap ((at_field reference.0 f, q.result) ∷ c.heap) c) outcome
            (subst (λ (y : run.Location × Value). ends (run.with_heap ((y.0, y.1) ∷ c.heap) c) outcome) (one_answer y (at_field reference.0 f, q.result) h allowed) rest) written
        go (refused place h y) = refused_leaves means world scope i s.next on outcome (at_field reference.0 f, q.result) place allowed h

    new_leaves : (at : Place) (x : Name) (fs : List Name) → ExecGoes (New at x fs)
    unfolding ExecGoes
    new_leaves at x fs scope c outcome (heap, (same, (r, (fresh, e)))) k u i s on st w =
        ends_leaves means world scope i s.next on (run.with_holdings (meaning.new_fields r fs c.holdings) (run.with_store (run.assign x (RefValue r) c.store) (run.with_heap heap c))) outcome e
        (new_goes means world changing x fs heap r on u k.0 k.2 same fresh st w)

    if_goes : (at : Place) (e : Expr) (a b : Block) → Speaks world.Held world.Applied e → ExecAllGoes a → ExecAllGoes b → ExecGoes (If at e a b)
    unfolding ExecGoes ExecAllGoes
    if_goes at e a b j on_a on_b scope c outcome h k u i s on st w = go h
      where
        leaving : Going
        leaving s1 = on (rules.leave (length s.store) s1)

        left : Going
        left s2 = exec_all p o a s2 leaving

        right : Going
        right s2 = exec_all p o b s2 leaving

        r : Evaluates means world scope i s.next (λ t s1. fork t s1 left right) c e type.Bool
        r = eval_goes means world o parts k.0 j (λ t s1. fork t s1 left right) st w

        lengths : (length s.store ≡ length scope) × (length c.store ≡ length scope)
        lengths = store_lengths means world s.next i scope s.store c.store st.store

        side_goes : (x : Bool) → as_bool (element r.result) ≡ x → Goes means world scope i s.next (cond x left right) c
        side_goes x f = goes_after means world (reached means world r) (forked means world r.term left right r.stands r.good r.cleared x (ap as_bool r.value_is ∙ f))

        on_left : as_bool (element r.result) ≡ true → meaning.scoped p (meaning.run_all p a) c outcome → Leaves means world scope i s.next on outcome
        on_left f h =
            let g = side_goes true f in
            leaves_after means world scope on outcome g (scoped_leaves scope g.interp g.state.next c a on (length s.store) outcome lengths.0 lengths.1 h
            (λ other f. on_a scope c other f k.1 u g.interp g.state leaving g.stands g.cleared))

        on_right : as_bool (element r.result) ≡ false → meaning.scoped p (meaning.run_all p b) c outcome → Leaves means world scope i s.next on outcome
        on_right f h =
            let g = side_goes false f in
            leaves_after means world scope on outcome g (scoped_leaves scope g.interp g.state.next c b on (length s.store) outcome lengths.0 lengths.1 h
            (λ other f. on_b scope c other f k.2 u g.interp g.state leaving g.stands g.cleared))

        go : checked (λ n. fit_by p n c e) (λ v. side v (meaning.scoped p (meaning.run_all p a) c) (meaning.scoped p (meaning.run_all p b) c)) outcome → Leaves means world scope i s.next on outcome
        go (passes v h rest) =
            by_side (as_bool (element r.result)) (meaning.scoped p (meaning.run_all p a) c) (meaning.scoped p (meaning.run_all p b) c) outcome
            (subst (λ x. when x (meaning.scoped p (meaning.run_all p a) c) (meaning.scoped p (meaning.run_all p b) c) outcome) (ap is_true (one_answer v r.result h r.fits) ∙ is_true_of means world o parts r.result r.typed) rest)
            on_left on_right
        go (refused place h f) = refused_leaves means world scope i s.next on outcome r.result place r.fits h

    -- a call, once its arguments are evaluated and named
    call_goes : (at : Place) (xs : List Name) (f : Name) (es : Exprs) → AllSpeak world.Held world.Applied es → IsCalled world f → ExecGoes (Call at xs f es)
    unfolding ExecGoes
    call_goes at xs f es j contract scope c outcome h k u i s on st w = go h
      where
        after : GivingAll
        after ts s1 = elim (method_named p f) as (λ c. Tree) [
          | None ↦ never at CallCode s1
          | Some m ↦ called p o at m (names_of ts s1) xs (after_names ts s1) on
        ]

        r : EvaluatesAll means world o parts scope i s.next after c es (k.0).parameters
        r = evals_goes means world o parts k.2 j after st w

        n : NamedAll means world scope r.interp r.state.next c (k.0).parameters (names_of r.terms r.state) r.results (after_names r.terms r.state)
        n = named_all means world (k.0).parameters r.terms r.results r.each r.stands

        entered : Cleared (called p o at k.0 (names_of r.terms r.state) xs (after_names r.terms r.state) on)
        entered = subst (λ m. Cleared (elim m as (λ c. Tree) [
          | None ↦ never at CallCode r.state
          | Some m ↦ called p o at m (names_of r.terms r.state) xs (after_names r.terms r.state) on
        ])) k.1 r.cleared

        named : Goes means world scope i s.next (λ s1. called p o at k.0 (names_of r.terms r.state) xs s1 on) c
        named = record {
          interp = n.interp;
          state = after_names r.terms r.state;
          extends = extends-trans means r.later r.extends n.extends;
          later = le_trans r.later n.later;
          stands = n.stands;
          cleared = entered;
        }

        calling : meaning.call p c at xs f r.results outcome →
            checked (λ n. placed at (take_by p n (run.with_store (run.bind (k.0).parameters r.results) c) full (joined (k.0).place (k.0).requires) c.holdings)) (meaning.return_from p c at xs k.0 r.results) outcome
        calling h = rw k.1 at h

        go : checked (λ n. fit_all p (deeper p n) c es) (meaning.call p c at xs f) outcome → Leaves means world scope i s.next on outcome
        go (passes vs h rest) =
            leaves_after means world scope on outcome named
            (steps.calls k.0 (contract k.0 k.1) scope n.interp (after_names r.terms r.state) c at xs (names_of r.terms r.state) r.results on k.3 n.each n.stands entered outcome
            (calling (subst (λ z. meaning.call p c at xs f z outcome) (one_answer vs r.results h r.fits) rest)))
        go (refused place h z) = refused_leaves means world scope i s.next on outcome r.results place r.fits h

    -- Loops

    -- an arbitrary iteration, and what is behind
    while_goes : (at : Place) (e : Expr) (is : List Assertion) (b : Block) → Speaks world.Held world.Applied e → AllSpeakOf world.Held world.Applied is → ExecAllGoes b → ExecGoes (While at e is b)
    unfolding ExecGoes ExecAllGoes
    while_goes at e is b je ji on_b scope c outcome h k u i s on st w = go h
      where
        inv : Assertion
        inv = joined at is

        xs : List Name
        xs = assigned_in b

        inv_typed : IsTyped p scope (joined at is)
        inv_typed = joined_typed p scope at is k.1

        inv_plain : SpeaksOf world.Held world.Applied (joined at is)
        inv_plain = joined_speaks world.Held world.Applied at is ji

        kept : Going
        kept s5 = consume p o (joined at is) (codes KeptCode KeptCode) whole_amount s5.heap s5 (λ v s6. End)

        inside : Going
        inside s2 = eval p o e s2 (λ t s3. exec_all p o b (rules.with_branch t s3) (λ s4. kept (rules.leave (length s.store) s4)))

        outside : Going
        outside s2 = eval p o e s2 (λ t s3. Step (on (rules.with_branch (negate t) s3)))

        first : Going
        first s1 = produce p o (joined at is) whole_amount None (rules.with_heap [] s1) inside

        second : Going
        second s1 = produce p o (joined at is) whole_amount None s1 outside

        after : Giving
        after t s1 = Fork (first (forget [] (assigned_in b) s1)) (second (forget [] (assigned_in b) s1))

        r : Consumes means world o parts scope i s.next after c (joined at is) full c.holdings
        r = consumed means world o parts (joined at is) full inv_typed inv_plain (codes EntryCode EntryCode) whole_amount after (whole_scale means world s.next i) st w

        lengths : length s.store ≡ length scope
        lengths = (store_lengths means world s.next i scope s.store c.store st.store).0

        iterates : (t : run.State) (j : Interpretation) (n : ℕ) (g : Goes means world scope j n inside t) →
            checked (λ n. fit_by p n t e) (λ v. side v (and_then (meaning.scoped p (meaning.run_all p b) t) (λ v. checked (λ n. take_by p n v full (joined at is) v.holdings) (λ _. stops))) stops) outcome →
            Leaves means world scope g.interp g.state.next on outcome
        iterates t j n g q = end q
          where
            body : run.State → Outcomes
            body t = and_then (meaning.scoped p (meaning.run_all p b) t) (λ v. checked (λ n. take_by p n v full (joined at is) v.holdings) (λ _. stops))

            ev : Evaluates means world scope g.interp g.state.next (λ a s3. exec_all p o b (rules.with_branch a s3) (λ s4. kept (rules.leave (length s.store) s4))) t e type.Bool
            ev = eval_goes means world o parts k.0 je (λ a s3. exec_all p o b (rules.with_branch a s3) (λ s4. kept (rules.leave (length s.store) s4))) g.stands g.cleared

            end_of : (v : run.State) (g1 : Goes means world scope ev.interp ev.state.next kept v) → checked (λ n. take_by p n v full (joined at is) v.holdings) (λ _. stops) outcome → Leaves means world scope g1.interp g1.state.next on outcome
            end_of v g1 q = end q
              where
                z : Consumes means world o parts scope g1.interp g1.state.next (λ a s6. End) v (joined at is) full v.holdings
                z = consumed means world o parts (joined at is) full inv_typed inv_plain (codes KeptCode KeptCode) whole_amount (λ a s6. End) (whole_scale means world g1.state.next g1.interp) g1.stands g1.cleared

                end : checked (λ n. take_by p n v full (joined at is) v.holdings) (λ _. stops) outcome → Leaves means world scope g1.interp g1.state.next on outcome
                end (passes a h rest) = stops_leaves means world scope g1.interp g1.state.next on outcome rest
                end (refused place h f) = refused_leaves means world scope g1.interp g1.state.next on outcome z.left place z.takes h

            on_true : as_bool (element ev.result) ≡ true → body t outcome → Leaves means world scope g.interp g.state.next on outcome
            on_true f q =
                let branch = stands_entry means world ev.term true ev.stands ev.good (ap as_bool ev.value_is ∙ f) in
                leaves_after means world scope on outcome (reached means world ev)
                (then_leaves means world scope scope ev.interp ev.state.next (meaning.scoped p (meaning.run_all p b) t) (λ v. checked (λ n. take_by p n v full (joined at is) v.holdings) (λ _. stops)) kept on outcome q
                (λ other m. scoped_leaves scope ev.interp ev.state.next t b kept (length s.store) other lengths (store_lengths means world ev.state.next ev.interp scope ev.state.store t.store ev.stands.store).1 m
                (λ other m. on_b scope t other m k.2 u ev.interp (rules.with_branch ev.term ev.state) (λ s4. kept (rules.leave (length s.store) s4)) branch ev.cleared))
                end_of)

            end : checked (λ n. fit_by p n t e) (λ v. side v (body t) stops) outcome → Leaves means world scope g.interp g.state.next on outcome
            end (passes v h rest) =
                by_side (as_bool (element ev.result)) (body t) stops outcome (subst (λ x. when x (body t) stops outcome) (ap is_true (one_answer v ev.result h ev.fits) ∙ is_true_of means world o parts ev.result ev.typed) rest)
                on_true (λ f q. stops_leaves means world scope g.interp g.state.next on outcome q)
            end (refused place h f) = refused_leaves means world scope g.interp g.state.next on outcome ev.result place ev.fits h

        iteration : meaning.iteration p c (assigned_in b) e (joined at is) (meaning.scoped p (meaning.run_all p b)) outcome → Leaves means world scope i s.next on outcome
        iteration (heap, (y, (differs, q))) =
            let f = forget_goes means world [] (assigned_in b) y first u r.goes.stands (toward_start (assigned_in b) c.store y differs) r.goes.cleared.0 in
            let t0 = let t : run.State = record { store = y; heap = heap; holdings = []; old_heap = c.old_heap; old_holdings = c.old_holdings } in t in
            let empty : Stands means world scope f.interp (rules.with_heap [] f.state) t0 = record {
              store = f.stands.store;
              path = f.stands.path;
              heap = record { each = tt; sums = λ l. le-refl none };
              old = f.stands.old;
              awake = f.stands.awake;
              bounded = f.stands.bounded;
              null = f.stands.null;
              standard = f.stands.standard;
              owned = unowned means world _ _ _ _ _ _ _ world.own changing.of_no_function f.stands.owned;
              marked = f.stands.marked;
              holds = world.nothing heap;
              old_holds = f.stands.old_holds;
            } in
            leaves_after means world scope on outcome r.goes
            (leaves_after means world {mid = scope} scope on outcome f
            (then_leaves means world scope scope f.interp f.state.next (give p (IsConsistent p) full (joined at is) t0)
            (λ t. checked (λ n. fit_by p n t e) (λ v. side v (and_then (meaning.scoped p (meaning.run_all p b) t) (λ v. checked (λ n. take_by p n v full (joined at is) v.holdings) (λ _. stops))) stops)) inside on outcome q
            (λ other m. give_goes means world o parts (IsConsistent p) possible (unrooted changing.unmarked) other (joined at is) full m inv_typed inv_plain {s = rules.with_heap [] f.state} whole_amount inside (whole_scale means world f.state.next f.interp) empty f.cleared)
            (λ t g m. iterates t f.interp f.state.next g m)))

        leaves_on : (t : run.State) (j : Interpretation) (n : ℕ) (g : Goes means world scope j n outside t) → checked (λ n. fit_by p n t e) (λ v. side v stops (ends t)) outcome → Leaves means world scope g.interp g.state.next on outcome
        leaves_on t j n g q = end q
          where
            ev : Evaluates means world scope g.interp g.state.next (λ a s3. Step (on (rules.with_branch (negate a) s3))) t e type.Bool
            ev = eval_goes means world o parts k.0 je (λ a s3. Step (on (rules.with_branch (negate a) s3))) g.stands g.cleared

            on_false : as_bool (element ev.result) ≡ false → ends t outcome → Leaves means world scope g.interp g.state.next on outcome
            on_false f q = ends_leaves means world scope g.interp g.state.next on t outcome q record {
              interp = ev.interp;
              state = rules.with_branch (negate ev.term) ev.state;
              extends = ev.extends;
              later = ev.later;
              stands = stands_entry means world (negate ev.term) true ev.stands (good_negate means ev.good) (ap as_bool (negate_value ev.interp ev.good.formed) ∙ ap not (ap as_bool ev.value_is ∙ f));
              cleared = ev.cleared;
            }

            end : checked (λ n. fit_by p n t e) (λ v. side v stops (ends t)) outcome → Leaves means world scope g.interp g.state.next on outcome
            end (passes v h rest) =
                by_side (as_bool (element ev.result)) stops (ends t) outcome (subst (λ x. when x stops (ends t) outcome) (ap is_true (one_answer v ev.result h ev.fits) ∙ is_true_of means world o parts ev.result ev.typed) rest)
                (λ f q. stops_leaves means world scope g.interp g.state.next on outcome q) on_false
            end (refused place h f) = refused_leaves means world scope g.interp g.state.next on outcome ev.result place ev.fits h

        behind : meaning.behind p (run.with_holdings r.left c) (assigned_in b) e (joined at is) outcome → Leaves means world scope i s.next on outcome
        behind (heap, (same, (y, (differs, q)))) =
            let d = r.goes.stands in
            let changed : Stands means world scope r.goes.interp r.goes.state (run.with_heap heap (run.with_holdings r.left c)) = record {
              store = d.store;
              path = d.path;
              heap = heap_changed means world changing r.goes.state.next r.goes.interp r.goes.state.heap (run.with_holdings r.left c) heap d.heap d.holds same;
              old = d.old;
              awake = d.awake;
              bounded = d.bounded;
              null = d.null;
              standard = d.standard;
              owned = unowned means world _ _ _ _ _ _ _ world.own changing.of_no_function d.owned;
              marked = d.marked;
              holds = changing.changed (run.with_holdings r.left c) heap same d.holds;
              old_holds = d.old_holds;
            } in
            let f = forget_goes means world [] (assigned_in b) y second u changed (toward_start (assigned_in b) c.store y differs) r.goes.cleared.1 in
            leaves_after means world scope on outcome r.goes
            (leaves_after means world {mid = scope} scope on outcome f
            (then_leaves means world scope scope f.interp f.state.next (give p (IsConsistent p) full (joined at is) (run.with_store y (run.with_heap heap (run.with_holdings r.left c))))
            (λ t. checked (λ n. fit_by p n t e) (λ v. side v stops (ends t))) outside on outcome q
            (λ other m. give_goes means world o parts (IsConsistent p) possible (unrooted changing.unmarked) other (joined at is) full m inv_typed inv_plain {s = f.state} whole_amount outside (whole_scale means world f.state.next f.interp) f.stands f.cleared)
            (λ t g m. leaves_on t f.interp f.state.next g m)))

        either_side : meaning.iteration p c (assigned_in b) e (joined at is) (meaning.scoped p (meaning.run_all p b)) outcome ⊎ meaning.behind p (run.with_holdings r.left c) (assigned_in b) e (joined at is) outcome → Leaves means world scope i s.next on outcome
        either_side (inl q) = iteration q
        either_side (inr q) = behind q

        go : checked (λ n. take_by p n c full (joined at is) c.holdings)
            (λ left. either (meaning.iteration p c (assigned_in b) e (joined at is) (meaning.scoped p (meaning.run_all p b))) (meaning.behind p (run.with_holdings left c) (assigned_in b) e (joined at is))) outcome →
            Leaves means world scope i s.next on outcome
        go (passes v h rest) = either_side
            (subst (λ left. meaning.iteration p c (assigned_in b) e (joined at is) (meaning.scoped p (meaning.run_all p b)) outcome ⊎ meaning.behind p (run.with_holdings left c) (assigned_in b) e (joined at is) outcome) (one_answer v r.left h r.takes) rest)
        go (refused place h f) = refused_leaves means world scope i s.next on outcome r.left place r.takes h

    -- Instances

    fold_goes : (at : Place) (x : Name) (es : Exprs) (share : Expr) → world.Held x → AllSpeak world.Held world.Applied es → Speaks world.Held world.Applied share → ExecGoes (Fold at x es share)
    unfolding ExecGoes
    fold_goes at x es share held je js scope c outcome h k u i s on st w = go h
      where
        after : List Term → Term → Going
        after ts a s3 = folded p o at x ts a s3 on

        l : InstanceAt means world o parts scope i s.next after c at x es share
        l = instance_at means world o parts at x k.0.0 after held k.0.1 k.0.2 je k.1 js st w

        reached' : Goes means world scope i s.next (λ s3. folded p o at x l.terms l.term s3 on) c
        reached' = record { interp = l.interp; state = l.state; extends = l.extends; later = l.later; stands = l.stands; cleared = l.cleared }

        go : checked (λ n. meaning.instance_at p n c at x es share) (meaning.fold p c at) outcome → Leaves means world scope i s.next on outcome
        go (passes v h rest) =
            leaves_after means world scope on outcome reached'
            (steps.folds scope l.interp l.state c at x l.terms l.results l.term l.fraction on l.keys l.good l.is l.positive l.stands l.cleared outcome
            (subst (λ y. meaning.fold p c at y outcome) (one_answer v (record { predicate = x; arguments = l.results }, l.fraction) h l.allowed) rest))
        go (refused place h f) = refused_leaves means world scope i s.next on outcome (record { predicate = x; arguments = l.results }, l.fraction) place l.allowed h

    unfold_goes : (at : Place) (x : Name) (es : Exprs) (share : Expr) → world.Held x → AllSpeak world.Held world.Applied es → Speaks world.Held world.Applied share → ExecGoes (Unfold at x es share)
    unfolding ExecGoes
    unfold_goes at x es share held je js scope c outcome h k u i s on st w = go h
      where
        after : List Term → Term → Going
        after ts a s3 = unfolded p o at x ts a s3 on

        l : InstanceAt means world o parts scope i s.next after c at x es share
        l = instance_at means world o parts at x k.0.0 after held k.0.1 k.0.2 je k.1 js st w

        reached' : Goes means world scope i s.next (λ s3. unfolded p o at x l.terms l.term s3 on) c
        reached' = record { interp = l.interp; state = l.state; extends = l.extends; later = l.later; stands = l.stands; cleared = l.cleared }

        go : checked (λ n. meaning.instance_at p n c at x es share) (meaning.unfold_it p c at) outcome → Leaves means world scope i s.next on outcome
        go (passes v h rest) =
            leaves_after means world scope on outcome reached'
            (steps.unfolds scope l.interp l.state c at x l.terms l.results l.term l.fraction on l.keys l.good l.is l.positive l.stands l.cleared outcome
            (subst (λ y. meaning.unfold_it p c at y outcome) (one_answer v (record { predicate = x; arguments = l.results }, l.fraction) h l.allowed) rest))
        go (refused place h f) = refused_leaves means world scope i s.next on outcome (record { predicate = x; arguments = l.results }, l.fraction) place l.allowed h

    done_goes : ExecAllGoes Done
    unfolding ExecAllGoes
    done_goes scope c outcome h k u i s on st w = ends_leaves means world scope i s.next on c outcome h (here means world on st w)

    then_goes : (st : Stmt) (b : Block) → Says world st → ExecGoes st → ExecAllGoes b → ExecAllGoes (Then st b)
    unfolding ExecGoes ExecAllGoes
    then_goes st b j on_st on_b scope c outcome h k u i s on sta w =
        let after = λ (s1 : rules.State). exec_all p o b s1 on in
        then_leaves means world (scope_after p st scope) (scope_after_all p b (scope_after p st scope)) i s.next (meaning.run p st c) (meaning.run_all p b) after on outcome h
        (λ other f. on_st scope c other f k.0 u i s after sta w)
        (λ e g r. on_b (scope_after p st scope) e outcome r k.1 (still_once p st scope k.0 u) g.interp g.state on g.stands g.cleared)

    mutual
      exec_goes : (st : Stmt) → Says world st → ExecGoes st
      exec_goes (Declare at x t) j = declare_goes at x t
      exec_goes (Assign at x e) j = assign_goes at x e j
      exec_goes (Inhale at a) j = inhale_goes at a j
      exec_goes (Exhale at a) j = exhale_goes at a j
      exec_goes (Assert at a) j = assert_goes at a j
      exec_goes (Assume at e) j = assume_goes at e j
      exec_goes (If at e a b) j = if_goes at e a b j.0 (exec_all_goes a j.1) (exec_all_goes b j.2)
      exec_goes (Write at e f e') j = write_goes at e f e' j.0 j.1
      exec_goes (New at x fs) j = new_leaves at x fs
      exec_goes (Call at xs f es) j = call_goes at xs f es j.0 j.1
      exec_goes (Fold at i es share) j = fold_goes at i es share j.0 j.1 j.2
      exec_goes (Unfold at i es share) j = unfold_goes at i es share j.0 j.1 j.2
      exec_goes (While at e is b) j = while_goes at e is b j.0 j.1 (exec_all_goes b j.2)

      exec_all_goes : (b : Block) → AllSay world b → ExecAllGoes b
      exec_all_goes Done j = done_goes
      exec_all_goes (Then st b) j = then_goes st b j.0 (exec_goes st j.0) (exec_all_goes b j.1)

    pub block_goes : {scope : Scope} {c : run.State} (outcome : Outcome) (b : Block) → meaning.run_all p b c outcome → IsTypedBlock p scope b → AllSay world b → AreOnce scope → {i : Interpretation} {s : rules.State} (on : Going) →
        Stands means world scope i s c → Cleared (exec_all p o b s on) → Leaves means world (scope_after_all p b scope) i s.next on outcome
    unfolding ExecAllGoes
    block_goes {scope = scope} {c = c} outcome b h k j u {i = i} {s = s} on st w = exec_all_goes b j scope c outcome h k u i s on st w
