-- What a side does next grows from the path of its state.
use Rattle.std.proofs.Common.{false, Bool, ◌∷◌, Some, None}
use Rattle.std.specs.Prelude.{string_bytes}
use Rattle.vx_ast.specs.Syntax.{Program}
use Rattle.vx_resolved.specs.Resolved.{expr, exprs, assertion, stmt, block, function, method, names_of}
use Rattle.vx_terms.specs.Views.{sort}
use Rattle.vx_terms.specs.Terms.{Term}
use Rattle.vx_terms.specs.Build.{multiply, unit}
use Rattle.vx_heap.specs.Views.{heap, terms_of, held_term}
use Rattle.vx_rules.specs.States.{State, with_heap, leave, fresh, after_fresh}
use Rattle.vx_rules.specs.Trees.{Step}
use Rattle.vx_rules.specs.Chunks.{field_key, reduced}
use Rattle.vx_rules.specs.Codes.{code}
use Rattle.vx_rules.specs.Rules.{field_sort, placed, leads_inside, never}
use Rattle.vx_rules.specs.Members.{rules, rooted}
use Rattle.vx_states.specs.SymStates.{optional_term, state}
use Rattle.vx_states.specs.Entering.{back_to}
use Rattle.vx_stack.specs.declared.frame.Next.{Next}
use Rattle.vx_stack.specs.declared.frame.Next.TheVariants as next'
use Rattle.vx_stack.specs.declared.frame.Hole.{Hole}
use Rattle.vx_stack.specs.declared.frame.Hole.TheVariants as hole'
use Rattle.vx_stack.specs.declared.frame.Taken.{Taken}
use Rattle.vx_stack.specs.declared.frame.Taken.TheVariants as taken'
use Rattle.vx_stack.specs.declared.frame.Row.{Row}
use Rattle.vx_stack.specs.declared.frame.Row.TheVariants as row'
use Rattle.vx_stack.specs.declared.frame.Frame.{Frame}
use Rattle.vx_stack.specs.declared.frame.Frame.TheVariants as frame'
use Rattle.vx_stack.specs.Values.{values}
use Rattle.vx_stack.specs.Stack.{context, returned, told, verified_body, with_location, with_held, going, with_taken, giving_all, giving, frame_tree}
use Rattle.vx_grows.proofs.Bases.{itself}
use Rattle.vx_grows.proofs.GrowSteps.{GrowsIn, Follows, FollowsWith, FollowsAll, earlier, never_grows, taking_all_grows, reading_all_grows, writing_all_grows}
use Rattle.vx_grows.proofs.GrowParts.{OuterGrows, applied_grows, unfolded_grows}
use Rattle.vx_grows.proofs.GrowAssertions.{eval_grows, evals_grows, consume_grows}
use Rattle.vx_grows.proofs.GrowStatements.{folded_grows, calling_grows, exec_grows, exec_all_grows}
use Rattle.vx_grows.proofs.GrowMembers.{sides_grow as members_sides_grow, concluding_grows, function_body_grows, rooted_grows, measure_grows, rules_grow}
use Rattle.vx_grows_stack.specs.Sides.{SidesGrow}
use Rattle.vx_grows_stack.proofs.Parts.{finding_grows, none_grows, told_grows, measured_by_grows, producing_grows, consuming_grows, location_later, held_later, putting_instance_grows, take_location_grows, take_instance_grows, taking_instance_grows, body_of_grows}
use Rattle.vx_grows_stack.proofs.Waiting.{operand_grows, produced_grows, consumed_grows, executed_grows}

module _ (p : Program) where
  abbrev below : OuterGrows (rules p)
  below = rules_grow p

  mutual
    pub going_grows : (n : Next) → Follows (going p n)
    going_grows next'.Finish s = tt
    going_grows next'.Impossible s = tt
    going_grows (next'.Exec' c q n) s = exec_grows p (rules p) below (stmt c.value) s (going p n) (going_grows n)
    going_grows (next'.Block' b q n) s = exec_all_grows p (rules p) below (block b.value) s (going p n) (going_grows n)
    going_grows (next'.Inner' b kept q n) s = exec_all_grows p (rules p) below (block b.value) s (λ s1. going p n (leave kept s1)) (λ s1. going_grows n (leave kept s1))
    going_grows (next'.Produce' a x q n) s = producing_grows p (assertion a.value) x.value s (going p n) (going_grows n)
    going_grows (next'.Consume' a x t q h) s = consume_grows p (rules p) below (assertion a.value) (context x) (held_term t) s.heap s (giving p h) (giving_grows h)
    going_grows (next'.ConsumeFrom' a x q h) s = consuming_grows p (assertion a.value) x.value s (giving p h) (giving_grows h)
    going_grows (next'.Unit' start q h) s = giving_grows h unit (with_heap (heap start.value) s)
    going_grows (next'.Sides m) s = members_sides_grow p (rules p) below (method m.value) s
    going_grows (next'.Eval' e q h) s = eval_grows p (rules p) below (expr e.value) s (giving p h) (giving_grows h)
    going_grows (next'.Put' l x inside q n) s =
        let f = string_bytes l.value.field.value in
        let s1 = with_location p f (held_term l.value.receiver) (held_term l.value.amount) (optional_term x.value.snapshot) inside s in
        earlier (location_later p f (held_term l.value.receiver) (held_term l.value.amount) (optional_term x.value.snapshot) inside s) (going p n s1) (going_grows n s1)
    going_grows (next'.Take' l c h q hole) s =
        take_location_grows p l.value.place (string_bytes l.value.field.value) (held_term l.value.receiver) (held_term l.value.amount) (code c) (heap h.value) s (giving p hole) (giving_grows hole)
    going_grows (next'.Evals' es q r) s = evals_grows p (rules p) below (exprs es.value) s (giving_all p r) (giving_all_grows r)
    going_grows (next'.PutInstance' i x inside q n) s =
        let f = string_bytes i.value.predicate.value in
        let s1 = with_held p f (values i.value.arguments.value) (held_term i.value.amount) (optional_term x.value.snapshot) inside s in
        earlier (held_later p f (values i.value.arguments.value) (held_term i.value.amount) (optional_term x.value.snapshot) inside s) (going p n s1) (going_grows n s1)
    going_grows (next'.TakeInstance' i c h q hole) s =
        take_instance_grows p i.value.place (string_bytes i.value.predicate.value) (values i.value.arguments.value) (held_term i.value.amount) (code c) (heap h.value) s (giving p hole) (giving_grows hole)
    going_grows (next'.ReadFrom' x k q h) s =
        finding_grows x.value k s (λ c. giving p h c.chunk.value s) (never x.value.place (code x.value.code) s) (λ c. giving_grows h c.chunk.value s) (never_grows s x.value.place (code x.value.code))
    going_grows (next'.TakeFrom' x k a of q w) s =
        finding_grows x.value k s _ _ (λ c. with_taken_grows w c.chunk.value (leads_inside c.chunk) (with_heap (reduced c (held_term a) s.heap) s))
        (none_grows (held_term a) (sort of) x.value.place (code x.value.code) s (λ v s1. with_taken p w v false s1) (λ v s1. with_taken_grows w v false s1))
    going_grows (next'.ReadOver' f r q h) s =
        reading_all_grows s (string_bytes f.value) (held_term r) (field_sort p (string_bytes f.value)) (giving p h) (giving_grows h)
    going_grows (next'.TakeOver' l q h) s =
        let f = string_bytes l.value.field.value in
        taking_all_grows s (field_key f (held_term l.value.receiver)) (held_term l.value.amount) (field_sort p f) (λ k s1. giving p h k.value s1) (λ k s1. giving_grows h k.value s1)
    going_grows (next'.WriteOver' f r t q n) s = writing_all_grows s (string_bytes f.value) (held_term r) (held_term t) (going p n) (going_grows n)
    going_grows (next'.Fresh' of q w) s = with_taken_grows w (fresh (sort of) s) false (after_fresh s)
    going_grows (next'.Body' x snapshot inside q n) s = body_of_grows p x.value (held_term snapshot) inside s (going p n) (going_grows n)
    going_grows (next'.Back' c q n) s = going_grows n (back_to c.value s)
    going_grows (next'.Return' r q n) s = going_grows n (returned (names_of r.value.targets.value.items) (terms_of r.value.values.items) r.value.caller.value (heap r.value.old_heap.value) s)
    going_grows (next'.MeasureFrom' x k a q h) s =
        finding_grows x.value k s (λ c. told p a.value (giving p h) s) (never x.value.place (code x.value.code) s) (λ c. told_grows p a.value (giving p h) (giving_grows h) s) (never_grows s x.value.place (code x.value.code))
    going_grows (next'.Tell' a q h) s = told_grows p a.value (giving p h) (giving_grows h) s
    going_grows (next'.Measure v) s = measure_grows p (rules p) below (string_bytes v.value.name.value) (function v.value.function.value) (function v.value.function.value).decreases s
    going_grows (next'.RootFrom x k v) s =
        finding_grows x.value k s (λ c. verified_body p v.value None (rooted c s)) (never x.value.place (code x.value.code) s)
        (λ c. function_body_grows p (rules p) below (string_bytes v.value.name.value) (function v.value.function.value) None (rooted c s)) (never_grows s x.value.place (code x.value.code))
    going_grows (next'.Run v) s = function_body_grows p (rules p) below (string_bytes v.value.name.value) (function v.value.function.value) None s

    with_taken_grows : (w : Taken) (v : Term) (inside : Bool) (s : State) → GrowsIn s (with_taken p w v inside s)
    with_taken_grows (taken'.Value' q h) v inside s = giving_grows h v s
    with_taken_grows (taken'.Unfold' x q n) v inside s = body_of_grows p x.value v inside s (going p n) (going_grows n)

    pub giving_all_grows : (r : Row) → FollowsAll (giving_all p r)
    giving_all_grows (row'.After' t q r) ts s = giving_all_grows r (held_term t ∷ ts) s
    giving_all_grows (row'.Apply' at f q h) ts s = applied_grows p (rules p) below (placed s at) (string_bytes f.value) ts s (giving p h) (giving_grows h)
    giving_all_grows (row'.Produce' at i e x inside q n) ts s =
        eval_grows p (rules p) below (expr e.value) s _ (λ a s1.
        putting_instance_grows p at (string_bytes i.value) ts (multiply (held_term x.value.scale) a) (optional_term x.value.snapshot) inside s1 (going p n) (going_grows n))
    giving_all_grows (row'.Consume' at i e x h q k) ts s =
        eval_grows p (rules p) below (expr e.value) s _ (λ a s1.
        taking_instance_grows p at (string_bytes i.value) ts (multiply (held_term x.value.scale) a) (code x.value.codes.permission) (heap h.value) s1
        (λ v s2. Step (giving p k v s2)) (λ v s2. giving_grows k v s2))
    giving_all_grows (row'.Unfolding' at i a q n) ts s = unfolded_grows p (rules p) below (placed s at) (string_bytes i.value) ts (held_term a) s (going p n) (going_grows n)
    giving_all_grows (row'.Unfold' at i a q n) ts s = unfolded_grows p (rules p) below at (string_bytes i.value) ts (held_term a) s (going p n) (going_grows n)
    giving_all_grows (row'.Fold' at i a q n) ts s = folded_grows p (rules p) below at (string_bytes i.value) ts (held_term a) s (going p n) (going_grows n)
    giving_all_grows (row'.Call' at xs m q n) ts s = calling_grows p (rules p) below at (string_bytes m.value) ts (names_of xs.value.items) s (going p n) (going_grows n)
    giving_all_grows (row'.Measured' x i c q h) us s = measured_by_grows p x.value (string_bytes i.value) us (back_to c.value s) (giving p h) (giving_grows h)
    giving_all_grows (row'.Root v at i) ts s = rooted_grows p (rules p) below (string_bytes v.value.name.value) (function v.value.function.value) at (string_bytes i.value) ts s

    pub giving_grows : (h : Hole) → FollowsWith (giving p h)
    giving_grows hole'.Finish t s = tt
    giving_grows hole'.Leave t s = itself
    giving_grows (hole'.Entry v) t s = function_body_grows p (rules p) below (string_bytes v.value.name.value) (function v.value.function.value) (Some t) s
    giving_grows (hole'.Outcome v) t s = concluding_grows p (rules p) below (function v.value.function.value) t s
    giving_grows (hole'.Operand' v q h) t s = operand_grows p v (giving p h) (giving_grows h) t s
    giving_grows (hole'.Argument' es q r) t s = evals_grows p (rules p) below (exprs es.value) s (λ ts s1. Step (giving_all p r (t ∷ ts) s1)) (λ ts s1. giving_all_grows r (t ∷ ts) s1)
    giving_grows (hole'.Consumed' v q h) t s = consumed_grows p v (giving p h) (giving_grows h) t s
    giving_grows (hole'.Produced' v q n) t s = produced_grows p v (going p n) (going_grows n) t s
    giving_grows (hole'.Executed' v q n) t s = executed_grows p v (going p n) (going_grows n) t s

  pub frame_grows : (f : Frame) → Follows (frame_tree p f)
  frame_grows (frame'.Go n) s = going_grows n.value s
  frame_grows (frame'.Eval e h) s = eval_grows p (rules p) below (expr e.value) s (giving p h.value) (giving_grows h.value)
  frame_grows (frame'.Give t h) s = giving_grows h.value (held_term t) s
  frame_grows (frame'.GiveAll ts r) s = giving_all_grows r.value (values ts.value) s

pub sides_grow : SidesGrow
sides_grow p a = frame_grows p a.frame (state a.state)
