-- What the frames, the stack and the questions of src/ stand for: the tree that is still to be walked.
use Rattle.std.specs.Prelude.{◌≡◌, ℕ, Bool, true, false, List, [], ◌∷◌, ◌++◌, Option, Some, None, if◌then◌else◌, pos, drop, map, string_bytes}
use Rattle.vx_stack.specs.declared.question.Query.{Query}
use Rattle.vx_stack.specs.declared.waiting.Codes.{Codes}
use Rattle.vx_stack.specs.declared.waiting.Production.{Production}
use Rattle.vx_stack.specs.declared.waiting.Consumption.{Consumption}
use Rattle.vx_stack.specs.declared.waiting.Search.{Search}
use Rattle.vx_stack.specs.declared.waiting.Loop.{Loop}
use Rattle.vx_stack.specs.declared.waiting.Instance.{Instance}
use Rattle.vx_states.specs.declared.entering.Caller.{Caller}
use Rattle.vx_stack.specs.declared.waiting.Called.{Called}
use Rattle.vx_stack.specs.declared.waiting.Application.{Application}
use Rattle.vx_stack.specs.declared.waiting.Applied.{Applied}
use Rattle.vx_stack.specs.declared.waiting.Verified.{Verified}
use Rattle.vx_stack.specs.Values.{values}
use Rattle.vx_stack.specs.declared.waiting.Operand.{Operand}
use Rattle.vx_stack.specs.declared.waiting.Operand.TheVariants as operand'
use Rattle.vx_stack.specs.declared.waiting.Produced.{Produced}
use Rattle.vx_stack.specs.declared.waiting.Produced.TheVariants as produced'
use Rattle.vx_stack.specs.declared.waiting.Consumed.{Consumed}
use Rattle.vx_stack.specs.declared.waiting.Consumed.TheVariants as consumed'
use Rattle.vx_stack.specs.declared.waiting.Executed.{Executed}
use Rattle.vx_stack.specs.declared.waiting.Executed.TheVariants as executed'
use Rattle.vx_stack.specs.declared.frame.Next.{Next}
use Rattle.vx_stack.specs.declared.frame.Next.TheVariants as next'
use Rattle.vx_stack.specs.declared.frame.Hole.{Hole}
use Rattle.vx_stack.specs.declared.frame.Hole.TheVariants as hole'
use Rattle.vx_stack.specs.declared.frame.Taken.{Taken}
use Rattle.vx_stack.specs.declared.frame.Taken.TheVariants as taken'
use Rattle.vx_stack.specs.declared.frame.Row.{Row}
use Rattle.vx_stack.specs.declared.frame.Row.TheVariants as row'
use Rattle.vx_stack.specs.declared.frame.Frame.{Frame}
use Rattle.vx_stack.specs.declared.frame.Frame.TheVariants as frame'
use Rattle.vx_stack.specs.declared.frame.Side.{Side}
use Rattle.vx_stack.specs.declared.conts.Move.{Move}
use Rattle.vx_stack.specs.declared.conts.Move.TheVariants as move'
use Rattle.vx_ast.specs.declared.Place.{Place}
use Rattle.vx_ast.specs.Syntax.{Name, Program, Assertion, as_assertion, assigned_in, conjoined, joined, method_named, predicate_named, result_name}
use Rattle.vx_resolved.specs.Resolved.{operator, division, connective, expr, exprs, assertion, stmt, block, function, method, names_of}
use Rattle.vx_terms.specs.Sorts.{Sort, SnapSort}
use Rattle.vx_terms.specs.Terms.{Term, Number}
use Rattle.vx_terms.specs.Views.{sort}
use Rattle.vx_terms.specs.Build.{negate, equals, ite, less, less_equal, multiply, unit, pair, wrap, application, zero_amount, whole_amount}
use Rattle.vx_heap.specs.Views.{candidates_of, heap, terms_of, held_term}
use Rattle.vx_rules.specs.States.{Chunk, Heap, State, is_quiet, with_store, with_heap, assign, assign_all, bind, declare, declare_all, sort_of_type, terms_in, leave, with_fact, with_branch, fresh, after_fresh, name_of, after_name, path_terms}
use Rattle.vx_states.specs.Paths.{entries}
use Rattle.vx_states.specs.SymStates.{binding, optional_term, state}
use Rattle.vx_states.specs.Entering.{back_to}
use Rattle.vx_rules.specs.Trees.{Code, AmountCode, CallCode, DivisorCode, KeptCode, MeasureCode, PostCode, UnfoldCode, Question, Tree, End, Impossible, On, Step, Ask, Probe, Fork}
use Rattle.vx_rules.specs.Chunks.{field_key, instance_key, Candidate, candidates, holds_some, holds_amount, only_inner, reduced, put, shared_out, with_value, without_empty, written_each}
use Rattle.vx_rules.specs.Groups.{function_number}
use Rattle.vx_rules.specs.Codes.{code}
use Rattle.vx_rules.specs.Rules.{Giving, Going, GivingAll, Context, ask, never, fork, short, operated, divided, connected, first_with, take_chunk, read_field, write_field, field_sort, placed, with_built_wrap, with_built_pair, produced_value, after_value, produced_snapshot, after_snapshot, with_unit, leads_inside, entered, back, applied, lesser, measured, terms, with_equations, unfolded, eval, evals, produce, consume}
use Rattle.vx_rules.specs.Members.{codes, forget, names_of as named_of, after_names, called, folded, exec, exec_all, from_measure, function_body, rooted, rules, sides}

abbrev pub query : Query → Question
query q = record { place = q.place; code = code q.code; path = path_terms (entries q.path); condition = held_term q.condition; probe = q.probe }

abbrev pub context : Codes → Context
context x = record { pure = code x.pure; permission = code x.permission; builds = x.builds }

-- what is looked for in a chunk: some amount, or this one or more
abbrev pub wanted_by : Option Term → List Term → Chunk → Term
wanted_by None ts c = holds_some ts c
wanted_by (Some a) ts c = holds_amount a ts c

abbrev pub wanted : Search → Chunk → Term
wanted x c = wanted_by (optional_term x.amount) (terms_of x.arguments.items) c

-- on with the first from this candidate on that is as wanted
abbrev pub finding : Search → ℕ → State → (Candidate → Tree) → Tree → Tree
finding x k s on otherwise = first_with (wanted x) (drop k (candidates_of x.candidates.items)) x.place (code x.code) s on otherwise

-- on with a new value, where the amount that no candidate has is 0
abbrev pub taking_none : Term → Sort → Place → Code → State → Giving → Tree
taking_none a of at c s on = if is_quiet s then End else ask (equals a zero_amount) at c s (λ s1. on (fresh of s1) (after_fresh s1))

-- back from a callee, its targets having these values
abbrev pub returned : List Name → List Term → Caller → Heap → State → State
returned xs ts c old s = with_store (assign_all xs ts (map binding c.store.items)) (record (back_to c s) { old = old })

-- an instance is put for its body, with its snapshot's name
abbrev pub with_instance : Name → List Term → Term → Term → State → State
with_instance i ts a snapshot s = put (record (instance_key i ts) { amount = a; value = name_of snapshot s }) (after_name snapshot s)

abbrev pub with_divisor : Place → State → Term → Going → Tree
with_divisor at s u on = ask (negate (equals u (Number (pos 0)))) (placed s at) DivisorCode s on

module _ (p : Program) where
  -- what an application tells, with its snapshot's name, and its value
  abbrev pub telling : Application → Term → Giving → Going
  telling x snapshot on s =
      let g = function x.function.value in
      let ts = values x.arguments.value in
      let t = application (function_number p (string_bytes x.name.value)) (sort_of_type g.of) snapshot (terms ts) in
      Step (on t (with_equations p (rules p) g ts snapshot t s))

  abbrev pub told : Applied → Giving → Going
  told x on s = telling x.application.value (held_term x.snapshot) on s

  -- an application whose precondition was taken: its measure, where it is within the group
  abbrev pub measuring : Application → Term → Giving → Going
  measuring x snapshot on s =
      let g = function x.function.value in
      measured p (rules p) (string_bytes x.name.value) g (bind g.parameters (values x.arguments.value)) x.place s (telling x snapshot on)

  -- the arguments of the instance that measures it
  abbrev pub measured_by : Applied → Name → List Term → State → Giving → Tree
  measured_by x i us s on =
      first_with (holds_some us) (only_inner (candidates (instance_key i us) s.heap)) x.application.value.place MeasureCode s (λ c. told x on s)
      (never x.application.value.place MeasureCode s)

  -- a function that is verified
  abbrev pub verified_body : Verified → Option Term → Going
  verified_body x measure s = function_body p (rules p) (string_bytes x.name.value) (function x.function.value) measure s

  abbrev pub rooted_at : Verified → Place → Name → List Term → Going
  rooted_at x at i ts s =
      first_with (holds_some ts) (candidates (instance_key i ts) s.heap) at MeasureCode s (λ c. verified_body x None (rooted c s)) (never at MeasureCode s)

  abbrev pub concluding : Verified → Term → Going
  concluding x w s =
      let g = function x.function.value in
      consume p (rules p) (as_assertion (conjoined g.place g.ensures)) (codes PostCode PostCode) whole_amount s.heap (declare result_name w s) (λ t s1. End)

  -- what the value of an operand leads to, before what waits for the whole
  abbrev pub operand : Operand → Giving → Giving
  operand operand'.Negate on t s = Step (on (negate t) s)
  operand (operand'.OperateRight op b) on t s = Step (eval p (rules p) (expr b.value) s (λ u s1. Step (on (operated (operator op) t u) s1)))
  operand (operand'.OperateWith op t) on u s = Step (on (operated (operator op) (held_term t) u) s)
  operand (operand'.DivideRight at op b) on t s =
      Step (eval p (rules p) (expr b.value) s (λ u s1. with_divisor at s1 u (on (divided (division op) t u))))
  operand (operand'.DivideWith at op t) on u s = with_divisor at s u (on (divided (division op) (held_term t) u))
  operand (operand'.ConnectRight c b) on t s = Step (eval p (rules p) (expr b.value) s (λ u s1. Step (on (connected (connective c) t u) s1)))
  operand (operand'.ConnectWith c t) on u s = Step (on (connected (connective c) (held_term t) u) s)
  operand (operand'.ConnectSides c b) on t s = short (connective c) t s (λ s1. eval p (rules p) (expr b.value) s1 on) on
  operand (operand'.ChooseThen a b) on t s =
      Step (eval p (rules p) (expr a.value) s (λ u s1. Step (eval p (rules p) (expr b.value) s1 (λ v s2. Step (on (ite t u v) s2)))))
  operand (operand'.ChooseElse t b) on u s = Step (eval p (rules p) (expr b.value) s (λ v s1. Step (on (ite (held_term t) u v) s1)))
  operand (operand'.ChooseWith t u) on v s = Step (on (ite (held_term t) (held_term u) v) s)
  operand (operand'.ChooseSides a b) on t s =
      fork t s (λ s1. eval p (rules p) (expr a.value) s1 on) (λ s1. eval p (rules p) (expr b.value) s1 on)
  operand (operand'.Receiver at f) on r s = read_field (string_bytes f.value) r (field_sort p (string_bytes f.value)) (placed s at) s on
  operand (operand'.Restore h) on t s = Step (on t (with_heap (heap h.value) s))
  operand (operand'.Unfolding at i es e h) on a s =
      ask (less zero_amount a) (placed s at) AmountCode s (λ s1.
      evals p (rules p) (exprs es.value) s1 (λ ts s2. unfolded p (rules p) (placed s2 at) (string_bytes i.value) ts a s2 (λ s3.
      eval p (rules p) (expr e.value) s3 (λ t s4. Step (on t (with_heap (heap h.value) s4))))))
  operand (operand'.Applied x c h) on snapshot s =
      let s1 = with_heap (heap h.value) (back_to c.value s) in
      measuring x.value (name_of snapshot s1) on (after_name snapshot s1)
  operand (operand'.Measured x own c) on m s =
      ask (lesser p (rules p) (optional_term own) m) x.value.application.value.place MeasureCode (back_to c.value s) (told x.value on)

  -- an assertion is produced, or consumed, in this way
  abbrev pub producing : Assertion → Production → State → Going → Tree
  producing a x s on = produce p (rules p) a (held_term x.scale) (optional_term x.snapshot) s on

  abbrev pub consuming : Assertion → Consumption → State → Giving → Tree
  consuming a x s on = consume p (rules p) a (context x.codes) (held_term x.scale) (heap x.start.value) s on

  -- an amount of a field's location is put, where it isn't negative
  abbrev pub with_location : Name → Term → Term → Option Term → Bool → State → State
  with_location f r a snapshot inside s =
      put (record (field_key f r) { amount = a; value = produced_value (field_sort p f) snapshot s; inner = inside }) (after_value (field_sort p f) snapshot s)

  abbrev pub putting : Place → Name → Term → Term → Option Term → Bool → State → Going → Tree
  putting at f r a snapshot inside s on =
      ask (less_equal zero_amount a) (placed s at) AmountCode s (λ s1. Step (on (with_location f r a snapshot inside s1)))

  -- an amount of an instance is put, where it isn't negative
  abbrev pub with_held : Name → List Term → Term → Option Term → Bool → State → State
  with_held i ts a snapshot inside s =
      put (record (instance_key i ts) { amount = a; value = produced_snapshot snapshot s; inner = inside }) (after_snapshot snapshot s)

  abbrev pub putting_instance : Place → Name → List Term → Term → Option Term → Bool → State → Going → Tree
  putting_instance at i ts a snapshot inside s on =
      ask (less_equal zero_amount a) (placed s at) AmountCode s (λ s1. Step (on (with_held i ts a snapshot inside s1)))

  -- what a value leads to, before what waits for the whole assertion
  abbrev pub produced : Produced → Going → Giving
  produced (produced'.Fact snapshot) on t s = Step (on (with_unit (optional_term snapshot) (with_fact t s)))
  produced (produced'.Share at f e x inside) on r s =
      eval p (rules p) (expr e.value) s (λ a s1.
      putting at (string_bytes f.value) r (multiply (held_term x.value.scale) a) (optional_term x.value.snapshot) inside s1 on)
  produced (produced'.Amount at f r x inside) on a s =
      putting at (string_bytes f.value) (held_term r) (multiply (held_term x.value.scale) a) (optional_term x.value.snapshot) inside s on
  produced (produced'.Held at i ts x inside) on a s =
      putting_instance at (string_bytes i.value) (values ts.value) (multiply (held_term x.value.scale) a) (optional_term x.value.snapshot) inside s on
  produced (produced'.Implied a x) on t s =
      fork t s (λ s1. producing (assertion a.value) x.value s1 on) (λ s1. on (with_unit (optional_term x.value.snapshot) s1))
  produced (produced'.Chosen a b x) on t s =
      fork t s (λ s1. producing (assertion a.value) x.value s1 on) (λ s1. producing (assertion b.value) x.value s1 on)

  -- a location is read, taken from or written over all its candidates, of whose sum was asked
  abbrev pub read_over : Name → Term → Giving → Going
  read_over f r on s =
      let u = fresh (field_sort p f) s in
      on u (with_value r u (candidates (field_key f r) s.heap) s)

  abbrev pub take_over : Name → Term → Term → Giving → Going
  take_over f r a on s =
      let cs = candidates (field_key f r) s.heap in
      let s1 = shared_out r a cs s in
      let u = fresh (field_sort p f) s1 in
      on u (with_value r u cs (with_heap (without_empty s1.heap) s1))

  abbrev pub write_over : Name → Term → Term → Going → Going
  write_over f r t on s = on (written_each r t (candidates (field_key f r) s.heap) s)

  -- an amount of a field's location is taken from a heap, where it isn't negative
  abbrev pub take_location : Place → Name → Term → Term → Code → Heap → State → Giving → Tree
  take_location at f r a c h s on = take_chunk (field_key f r) a (field_sort p f) (placed s at) c (with_heap h s) (λ k s1. on k.value s1)

  abbrev pub taking : Place → Name → Term → Term → Code → Heap → State → Giving → Tree
  taking at f r a c h s on = ask (less_equal zero_amount a) (placed s at) AmountCode s (λ s1. take_location at f r a c h s1 on)

  -- an amount of an instance is taken from a heap, where it isn't negative
  abbrev pub take_instance : Place → Name → List Term → Term → Code → Heap → State → Giving → Tree
  take_instance at i ts a c h s on = take_chunk (instance_key i ts) a SnapSort (placed s at) c (with_heap h s) (λ k s1. on k.value s1)

  abbrev pub taking_instance : Place → Name → List Term → Term → Code → Heap → State → Giving → Tree
  taking_instance at i ts a c h s on = ask (less_equal zero_amount a) (placed s at) AmountCode s (λ s1. take_instance at i ts a c h s1 on)

  -- the value of a location that was taken, as a snapshot
  abbrev pub wrapped : Name → Context → Giving → Giving
  wrapped f x on v s = Step (on (wrap (field_sort p f) v) (with_built_wrap x (field_sort p f) v s))

  -- what a value or a snapshot leads to, before what waits for the whole snapshot
  abbrev pub consumed : Consumed → Giving → Giving
  consumed (consumed'.Ask at f h) on t s = ask t (placed s at) (code f) s (λ s1. Step (on unit (with_heap (heap h.value) s1)))
  consumed (consumed'.Right b x) on t s =
      consuming (assertion b.value) x.value s (λ u s1. Step (on (pair t u) (with_built_pair (context x.value.codes) t u s1)))
  consumed (consumed'.With t x) on u s = Step (on (pair (held_term t) u) (with_built_pair (context x) (held_term t) u s))
  consumed (consumed'.Share at f e x h) on r s =
      eval p (rules p) (expr e.value) s (λ a s1.
      taking at (string_bytes f.value) r (multiply (held_term x.value.scale) a) (code x.value.codes.permission) (heap h.value) s1
      (wrapped (string_bytes f.value) (context x.value.codes) on))
  consumed (consumed'.Amount at f r x h) on a s =
      taking at (string_bytes f.value) (held_term r) (multiply (held_term x.value.scale) a) (code x.value.codes.permission) (heap h.value) s
      (wrapped (string_bytes f.value) (context x.value.codes) on)
  consumed (consumed'.Wrap f x) on v s = wrapped (string_bytes f.value) (context x) on v s
  consumed (consumed'.Held at i ts x h) on a s =
      taking_instance at (string_bytes i.value) (values ts.value) (multiply (held_term x.value.scale) a) (code x.value.codes.permission) (heap h.value) s
      (λ v s1. Step (on v s1))
  consumed consumed'.Snapshot on v s = Step (on v s)
  consumed (consumed'.Implied a x h) on t s =
      fork t (with_heap (heap h.value) s) (λ s1. consuming (assertion a.value) x.value s1 on) (on unit)
  consumed (consumed'.Chosen a b x h) on t s =
      fork t (with_heap (heap h.value) s) (λ s1. consuming (assertion a.value) x.value s1 on) (λ s1. consuming (assertion b.value) x.value s1 on)

  -- a loop's iteration, from its condition on: the body, and the invariant again
  abbrev pub iterated : Loop → ℕ → Giving
  iterated l kept u s =
      exec_all p (rules p) (block l.body.value) (with_branch u s) (λ s1.
      let s2 = leave kept s1 in
      consume p (rules p) (assertion l.invariant.value) (codes KeptCode KeptCode) whole_amount s2.heap s2 (λ v s3. End))

  -- a loop's invariant is produced, and its condition evaluated
  abbrev pub from_invariant : Loop → State → Giving → Tree
  from_invariant l s on =
      produce p (rules p) (assertion l.invariant.value) whole_amount None s (λ s1. eval p (rules p) (expr l.condition.value) s1 on)

  -- a state that knows nothing of what a loop assigns
  abbrev pub forgotten : Loop → State → State
  forgotten l s = forget [] (assigned_in (block l.body.value)) s

  -- a call whose precondition was taken: its returns are new, and its postcondition is produced
  abbrev pub promised : Called → Going → State → Tree
  promised c on s =
      let m = method c.method.value in
      let inside = declare_all m.returns (record s { old = heap c.heap.value }) in
      (rules p).produce (joined m.place m.ensures) whole_amount None inside (λ s1.
      Step (on (returned (names_of c.targets.value.items) (drop c.count (terms_in inside.store)) c.caller.value (heap c.old_heap.value) s1)))

  -- an instance was taken, from inside another or not: its body is produced
  abbrev pub exchanged : Place → Name → List Term → Term → Term → Bool → State → Going → Tree
  exchanged at i ts a snapshot inside s on =
      elim (predicate_named p i) as (λ d. Tree) [
        | None ↦ never at UnfoldCode s
        | Some d ↦ elim d.body as (λ b. Tree) [
          | None ↦ never at UnfoldCode s
          | Some body ↦ (rules p).produce body a (Some snapshot) (record (entered (bind d.parameters ts) at s) { inner = inside }) (λ s1. on (back s s1))
        ]
      ]

  abbrev pub body_of : Instance → Term → Bool → State → Going → Tree
  body_of x snapshot inside s on =
      exchanged x.place (string_bytes x.predicate.value) (values x.arguments.value) (held_term x.amount) snapshot inside s on

  -- what a value leads to, before what waits for the statement's end
  abbrev pub executed : Executed → Going → Giving
  executed (executed'.Assign x) on t s = let s1 = after_name t s in Step (on (with_store (assign (string_bytes x.value) (name_of t s) s1.store) s1))
  executed executed'.Assume on t s = Step (on (with_fact t s))
  executed (executed'.If a b kept) on t s =
      fork t s
      (λ s1. exec_all p (rules p) (block a.value) s1 (λ s2. on (leave kept s2)))
      (λ s1. exec_all p (rules p) (block b.value) s1 (λ s2. on (leave kept s2)))
  executed (executed'.Asserted h) on t s = Step (on (with_heap (heap h.value) s))
  executed executed'.Exhaled on t s = Step (on s)
  executed (executed'.Write at f e) on r s =
      Step (eval p (rules p) (expr e.value) s (λ t s1. write_field (string_bytes f.value) r t at s1 on))
  executed (executed'.WriteWith at f r) on t s = write_field (string_bytes f.value) (held_term r) t at s on
  executed (executed'.Enter l kept) on t s =
      Fork
      (from_invariant l.value (with_heap [] (forgotten l.value s)) (iterated l.value kept))
      (from_invariant l.value (forgotten l.value s) (λ u s1. Step (on (with_branch (negate u) s1))))
  executed (executed'.Iterate l kept) on u s = iterated l.value kept u s
  executed executed'.Pass on u s = Step (on (with_branch (negate u) s))
  executed (executed'.Fold at i es) on a s =
      ask (less zero_amount a) at AmountCode s (λ s1.
      evals p (rules p) (exprs es.value) s1 (λ ts s2. folded p (rules p) at (string_bytes i.value) ts a s2 on))
  executed (executed'.Unfold at i es) on a s =
      ask (less zero_amount a) at AmountCode s (λ s1.
      evals p (rules p) (exprs es.value) s1 (λ ts s2. unfolded p (rules p) at (string_bytes i.value) ts a s2 on))
  executed (executed'.Folded x c) on snapshot s =
      Step (on (with_instance (string_bytes x.value.predicate.value) (values x.value.arguments.value) (held_term x.value.amount) snapshot (back_to c.value s)))
  executed (executed'.Called c) on snapshot s = promised c.value on s

  abbrev mutual
    -- what a state leads to
    pub going : Next → Going
    going next'.Finish s = End
    going next'.Impossible s = Impossible s
    going (next'.Exec' c q n) s = exec p (rules p) (stmt c.value) s (going n)
    going (next'.Block' b q n) s = exec_all p (rules p) (block b.value) s (going n)
    going (next'.Inner' b kept q n) s = exec_all p (rules p) (block b.value) s (λ s1. going n (leave kept s1))
    going (next'.Produce' a x q n) s = producing (assertion a.value) x.value s (going n)
    going (next'.Consume' a x t q h) s = consume p (rules p) (assertion a.value) (context x) (held_term t) s.heap s (giving h)
    going (next'.ConsumeFrom' a x q h) s = consuming (assertion a.value) x.value s (giving h)
    going (next'.Unit' start q h) s = Step (giving h unit (with_heap (heap start.value) s))
    going (next'.Sides m) s = sides p (rules p) (method m.value) s
    going (next'.Eval' e q h) s = eval p (rules p) (expr e.value) s (giving h)
    going (next'.Put' l x inside q n) s =
        Step (going n (with_location (string_bytes l.value.field.value) (held_term l.value.receiver) (held_term l.value.amount) (optional_term x.value.snapshot) inside s))
    going (next'.Take' l c h q hole) s =
        take_location l.value.place (string_bytes l.value.field.value) (held_term l.value.receiver) (held_term l.value.amount) (code c) (heap h.value) s (giving hole)
    going (next'.Evals' es q r) s = evals p (rules p) (exprs es.value) s (giving_all r)
    going (next'.PutInstance' i x inside q n) s =
        Step (going n (with_held (string_bytes i.value.predicate.value) (values i.value.arguments.value) (held_term i.value.amount) (optional_term x.value.snapshot) inside s))
    going (next'.TakeInstance' i c h q hole) s =
        take_instance i.value.place (string_bytes i.value.predicate.value) (values i.value.arguments.value) (held_term i.value.amount) (code c) (heap h.value) s (giving hole)
    going (next'.ReadFrom' x k q h) s =
        finding x.value k s (λ c. giving h c.chunk.value s) (never x.value.place (code x.value.code) s)
    going (next'.TakeFrom' x k a of q w) s =
        finding x.value k s
        (λ c. with_taken w c.chunk.value (leads_inside c.chunk) (with_heap (reduced c (held_term a) s.heap) s))
        (taking_none (held_term a) (sort of) x.value.place (code x.value.code) s (λ v s1. with_taken w v false s1))
    going (next'.ReadOver' f r q h) s = read_over (string_bytes f.value) (held_term r) (giving h) s
    going (next'.TakeOver' l q h) s = take_over (string_bytes l.value.field.value) (held_term l.value.receiver) (held_term l.value.amount) (giving h) s
    going (next'.WriteOver' f r t q n) s = write_over (string_bytes f.value) (held_term r) (held_term t) (going n) s
    going (next'.Fresh' of q w) s = with_taken w (fresh (sort of) s) false (after_fresh s)
    going (next'.Body' x snapshot inside q n) s = body_of x.value (held_term snapshot) inside s (going n)
    going (next'.Back' c q n) s = going n (back_to c.value s)
    going (next'.Return' r q n) s =
        Step (going n (returned (names_of r.value.targets.value.items) (terms_of r.value.values.items) r.value.caller.value (heap r.value.old_heap.value) s))
    going (next'.MeasureFrom' x k a q h) s =
        finding x.value k s (λ c. told a.value (giving h) s) (never x.value.place (code x.value.code) s)
    going (next'.Tell' a q h) s = told a.value (giving h) s
    going (next'.Measure v) s = from_measure p (rules p) (string_bytes v.value.name.value) (function v.value.function.value) (function v.value.function.value).decreases s
    going (next'.RootFrom x k v) s =
        finding x.value k s (λ c. verified_body v.value None (rooted c s)) (never x.value.place (code x.value.code) s)
    going (next'.Run v) s = verified_body v.value None s

    -- what the value of a chunk leads to that was taken, from inside another or not
    pub with_taken : Taken → Term → Bool → State → Tree
    with_taken (taken'.Value' q h) v inside s = giving h v s
    with_taken (taken'.Unfold' x q n) v inside s = body_of x.value v inside s (going n)

    -- what values and a state lead to
    pub giving_all : Row → GivingAll
    giving_all (row'.After' t q r) ts s = Step (giving_all r (held_term t ∷ ts) s)
    giving_all (row'.Apply' at f q h) ts s = applied p (rules p) (placed s at) (string_bytes f.value) ts s (giving h)
    giving_all (row'.Produce' at i e x inside q n) ts s =
        eval p (rules p) (expr e.value) s (λ a s1.
        putting_instance at (string_bytes i.value) ts (multiply (held_term x.value.scale) a) (optional_term x.value.snapshot) inside s1 (going n))
    giving_all (row'.Consume' at i e x h q k) ts s =
        eval p (rules p) (expr e.value) s (λ a s1.
        taking_instance at (string_bytes i.value) ts (multiply (held_term x.value.scale) a) (code x.value.codes.permission) (heap h.value) s1
        (λ v s2. Step (giving k v s2)))
    giving_all (row'.Unfolding' at i a q n) ts s = unfolded p (rules p) (placed s at) (string_bytes i.value) ts (held_term a) s (going n)
    giving_all (row'.Unfold' at i a q n) ts s = unfolded p (rules p) at (string_bytes i.value) ts (held_term a) s (going n)
    giving_all (row'.Fold' at i a q n) ts s = folded p (rules p) at (string_bytes i.value) ts (held_term a) s (going n)
    giving_all (row'.Call' at xs m q n) ts s =
        elim (method_named p (string_bytes m.value)) as (λ c. Tree) [
          | None ↦ never at CallCode s
          | Some c ↦ called p (rules p) at c (named_of ts s) (names_of xs.value.items) (after_names ts s) (going n)
        ]
    giving_all (row'.Measured' x i c q h) us s = measured_by x.value (string_bytes i.value) us (back_to c.value s) (giving h)
    giving_all (row'.Root v at i) ts s = rooted_at v.value at (string_bytes i.value) ts s

    -- what a value and a state lead to
    pub giving : Hole → Giving
    giving hole'.Finish t s = End
    giving hole'.Leave t s = On t s
    giving (hole'.Entry v) t s = verified_body v.value (Some t) s
    giving (hole'.Outcome v) t s = concluding v.value t s
    giving (hole'.Operand' v q h) t s = operand v (giving h) t s
    giving (hole'.Argument' es q r) t s = evals p (rules p) (exprs es.value) s (λ ts s1. Step (giving_all r (t ∷ ts) s1))
    giving (hole'.Consumed' v q h) t s = consumed v (giving h) t s
    giving (hole'.Produced' v q n) t s = produced v (going n) t s
    giving (hole'.Executed' v q n) t s = executed v (going n) t s

  -- the tree of a side
  abbrev pub frame_tree : Frame → State → Tree
  frame_tree (frame'.Go n) s = going n.value s
  frame_tree (frame'.Eval e h) s = eval p (rules p) (expr e.value) s (giving h.value)
  frame_tree (frame'.Give t h) s = giving h.value (held_term t) s
  frame_tree (frame'.GiveAll ts r) s = giving_all r.value (values ts.value) s

  abbrev pub side_tree : Side → Tree
  side_tree side = frame_tree side.frame (state side.state)

  -- a question: of a probe both candidates wait, the one where it is refuted on top
  abbrev pub Checked : Bool → Tree → List Side → Question → List Side → Type 0
  Checked false t old q new = (a : Side) × (new ≡ old ++ a ∷ []) × (t ≡ Ask q (side_tree a))
  Checked true t old q new = (a b : Side) × (new ≡ old ++ b ∷ a ∷ []) × (t ≡ Probe q (side_tree a) (side_tree b))

  -- a step from a side with this tree: what it leaves on the stack
  abbrev pub Stepped : Tree → List Side → Move → List Side → Type 0
  Stepped t old move'.End new = (new ≡ old) × (t ≡ End)
  Stepped t old (move'.Leave l) new = (new ≡ old) × (t ≡ On (held_term l.value) (state l.state))
  Stepped t old move'.Go new = (a : Side) × (new ≡ old ++ a ∷ []) × (t ≡ Step (side_tree a))
  Stepped t old move'.Fork new = (a b : Side) × (new ≡ old ++ b ∷ a ∷ []) × (t ≡ Fork (side_tree a) (side_tree b))
  Stepped t old (move'.Check q) new = Checked q.probe t old (query q) new
