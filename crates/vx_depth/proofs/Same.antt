-- Rules over two rules of other members' parts that agree on what is entered give the same trees.
use Rattle.std.proofs.Common.{◌≡◌, ℕ, Bool, true, false, not, cond, ◌&&◌, ◌||◌, List, [], ◌∷◌, ◌++◌, Option, Some, None, refl, ap, ap₂, ◌∙◌}
use Rattle.std.specs.Prelude.{pos}
use Rattle.vx_ast.specs.declared.Place.{Place}
use Rattle.vx_ast.specs.Syntax.{Name, Program, Predicate, Function, predicate_named, function_named, joined, place_of, Connective, And, Or, Implies, Expr, Number, Truth, Null, Part, Variable, Not, Operate, Divide, Connect, Choose, Read, Old, Apply, Unfolding, Exprs, NoMore, More, Assertion, Pure, Points, Instance, Both, Implied, Chosen, Measure, ByNumber, ByInstance}
use Rattle.vx_ast.specs.Mentions.{mentioned, mentioned_in}
use Rattle.vx_terms.specs.Interpretations.{Each}
use Rattle.vx_terms.specs.Sorts.{Sort, SnapSort}
use Rattle.vx_terms.specs.Terms as term
use Rattle.vx_terms.specs.Terms.{Term, same}
use Rattle.vx_terms.specs.Build.{true_term, false_term, negate, ite, equals, less, less_equal, unit, pair, wrap, zero_amount, whole_amount, multiply, application}
use Rattle.vx_rules.specs.States.{sort_of_type, bind, Store, Chunk, Own, State, is_quiet, is_known, with_heap, with_fact, with_branch, name_of, after_name, fresh, after_fresh}
use Rattle.vx_rules.specs.Trees.{Code, MeasureCode, UnfoldCode, PermissionCode, AmountCode, DivisorCode, FunctionCode, Tree, Step, Ask, Fork}
use Rattle.vx_rules.specs.Chunks.{Candidate, field_key, instance_key, first_argument, chosen, candidates, holds_some, holds_amount, surely, sum_at, with_value, shared_out, without_empty, written, written_each, only_inner, reduced, put}
use Rattle.vx_rules.specs.Groups.{is_in_group, function_number}
use Rattle.vx_rules.specs.Rules.{Giving, Going, Outer, question, unless_false, ask, never, probe, fork, short, operated, divided, connected, is_total, first_with, by_sum, take_chunk, read_field, write_field, field_sort, entered, back, placed, lesser, leads_inside, terms, left_part, right_part, with_split, with_unit, produced_value, after_value, produced_snapshot, after_snapshot, with_built_wrap, with_built_pair, with_equations, decreasing, measured, applied, unfolded, eval, evals, produce, consume}
use Rattle.vx_ast.specs.Apart.{entered_by}
use Rattle.vx_depth.specs.Depths.{SameGiving, SameGoing, EvalSame, EvalsSame, ProduceSame, ConsumeSame}
use Rattle.vx_depth.proofs.Levels.{fact_level, name_level, put_level, value_level, snapshot_level, split_level, unit_level, wrap_level, pair_level, seen_level, shares_level, written_level}

-- Lists and choices

pub each_left : {A : Type 0} (P : A → Type 0) (xs ys : List A) → Each P (xs ++ ys) → Each P xs
each_left P [] ys h = tt
each_left P (x ∷ xs) ys h = (h.0, each_left P xs ys h.1)

pub each_right : {A : Type 0} (P : A → Type 0) (xs ys : List A) → Each P (xs ++ ys) → Each P ys
each_right P [] ys h = h
each_right P (x ∷ xs) ys h = each_right P xs ys h.1

pub if_same : {A : Type 0} (b : Bool) {x y x' y' : A} → x ≡ x' → y ≡ y' → cond b x y ≡ cond b x' y'
if_same true e f = e
if_same false e f = f

-- Questions, forks and candidates

pub ask_same : {l : ℕ} (c : Term) (at : Place) (code : Code) (s : State) {on other : Going} → s.level ≡ l → SameGoing l on other → ask c at code s on ≡ ask c at code s other
ask_same c at code s e h =
    if_same (same c true_term || is_quiet s) (ap Step (h s e)) (ap (λ t. Ask (question false c at code s) (unless_false c s t)) (h (with_fact c s) (fact_level c s e)))

pub probe_same : (c : Term) (at : Place) (code : Code) (s : State) {t u t' u' : Tree} → t ≡ t' → u ≡ u' → probe c at code s t u ≡ probe c at code s t' u'
probe_same c at code s e f = ap₂ (λ t u. probe c at code s t u) e f

pub fork_same : {l : ℕ} (c : Term) (s : State) {left right left' right' : Going} → s.level ≡ l → SameGoing l left left' → SameGoing l right right' → fork c s left right ≡ fork c s left' right'
fork_same c s e h k =
    if_same (is_known c s) (ap Step (h s e)) (if_same (is_known (negate c) s) (ap Step (k s e))
    (ap₂ Fork (h (with_branch c s) e) (k (with_branch (negate c) s) e)))

short_same : {l : ℕ} (c : Connective) (t : Term) (s : State) {more more' : Going} {on other : Giving} → s.level ≡ l → SameGoing l more more' → SameGiving l on other →
    short c t s more on ≡ short c t s more' other
short_same And t s e h k = fork_same t s e h (k false_term)
short_same Or t s e h k = fork_same t s e (k true_term) h
short_same Implies t s e h k = fork_same t s e h (k true_term)

pub first_same : (wanted : Chunk → Term) (cs : List Candidate) (at : Place) (code : Code) (s : State) {on other : Candidate → Tree} {t u : Tree} → ((c : Candidate) → on c ≡ other c) → t ≡ u →
    first_with wanted cs at code s on t ≡ first_with wanted cs at code s other u
first_same wanted [] at code s h e = e
first_same wanted (c ∷ cs) at code s h e = probe_same (wanted c.chunk) at code s (h c) (first_same wanted cs at code s h e)

sum_same : {l : ℕ} (wanted : Chunk → Term) (asked : Term → Term) (key : Chunk) (at : Place) (code : Code) (s : State) {on other : Candidate → Tree} {summed summed' : Going} → s.level ≡ l →
    ((c : Candidate) → on c ≡ other c) → SameGoing l summed summed' → by_sum wanted asked key at code s on summed ≡ by_sum wanted asked key at code s other summed'
sum_same wanted asked key at code s {on = on} {other = other} {summed = summed} {summed' = summed'} e h k = go (surely wanted (chosen true key 0 s.heap))
  where
    all : Term
    all = asked (sum_at (first_argument key.arguments) (candidates key s.heap))

    go : (o : Option Candidate) → elim o as (λ o. Tree) [ Some c ↦ Step (on c) | None ↦ ask all at code s summed ] ≡ elim o as (λ o. Tree) [ Some c ↦ Step (other c) | None ↦ ask all at code s summed' ]
    go (Some c) = ap Step (h c)
    go None = ask_same all at code s e k

taken_same : {l : ℕ} (key : Chunk) (a : Term) (sort : Sort) (at : Place) (code : Code) (s : State) {on other : Chunk → State → Tree} → s.level ≡ l →
    ((c : Chunk) → SameGoing l (on c) (other c)) → take_chunk key a sort at code s on ≡ take_chunk key a sort at code s other
taken_same key a sort at code s e h =
    let r = first_argument key.arguments in
    if_same (key.is_field && not (is_quiet s))
    (sum_same (holds_amount a key.arguments) (less_equal a) key at code s e (λ c. h c.chunk (with_heap (reduced c a s.heap) s) e) (λ s1 e1.
    let cs = candidates key s1.heap in
    let s2 = shared_out r a cs s1 in
    let u = fresh sort s2 in
    let s3 = with_heap (without_empty s2.heap) s2 in
    h (record key { amount = a; value = u }) (with_value r u cs s3) (seen_level r u cs s3 (shares_level r a cs s1 e1))))
    (first_same (holds_amount a key.arguments) (candidates key s.heap) at code s (λ c. h c.chunk (with_heap (reduced c a s.heap) s) e)
    (if_same (is_quiet s) refl (ask_same (equals a zero_amount) at code s e (λ s1 e1. h (record key { amount = a; value = fresh sort s1 }) (after_fresh s1) e1))))

read_same : {l : ℕ} (f : Name) (r : Term) (sort : Sort) (at : Place) (s : State) {on other : Giving} → s.level ≡ l → SameGiving l on other → read_field f r sort at s on ≡ read_field f r sort at s other
read_same f r sort at s e h =
    let key = field_key f r in
    if_same (is_quiet s)
    (first_same (holds_some (r ∷ [])) (candidates key s.heap) at PermissionCode s (λ c. h c.chunk.value s e) refl)
    (sum_same (holds_some (r ∷ [])) (less zero_amount) key at PermissionCode s e (λ c. h c.chunk.value s e) (λ s1 e1.
    let u = fresh sort s1 in
    let cs = candidates key s1.heap in
    h u (with_value r u cs s1) (seen_level r u cs s1 e1)))

pub write_same : {l : ℕ} (f : Name) (r t : Term) (at : Place) (s : State) {on other : Going} → s.level ≡ l → SameGoing l on other → write_field f r t at s on ≡ write_field f r t at s other
write_same f r t at s e h =
    sum_same (holds_amount whole_amount (r ∷ [])) (less_equal whole_amount) (field_key f r) at PermissionCode s e (λ c. h (written c t s) (name_level t s e))
    (λ s1 e1. let cs = candidates (field_key f r) s1.heap in h (written_each r t cs s1) (written_level r t cs s1 e1))

-- The two rules agree on what is entered from names of a kind, on a level.
pub record Opens (p : Program) (Good : Name → Type 0) (l : ℕ) (o o' : Outer) : Type 0 where
  pub requires : (f : Name) (g : Function) → Good f → function_named p f ≡ Some g → ConsumeSame l o.consume o'.consume (joined g.place g.requires)
  pub number : (f : Name) (g : Function) (e : Expr) → Good f → function_named p f ≡ Some g → g.decreases ≡ Some (ByNumber e) → EvalSame l o.eval o'.eval e
  pub instance : (f : Name) (g : Function) (at : Place) (i : Name) (es : Exprs) → Good f → function_named p f ≡ Some g → g.decreases ≡ Some (ByInstance at i es) → EvalsSame l o.evals o'.evals es
  pub body : (i : Name) (d : Predicate) (b : Assertion) → Good i → predicate_named p i ≡ Some d → d.body ≡ Some b → ProduceSame l o.produce o'.produce b
  pub equations : (f : Name) (g : Function) → Good f → function_named p f ≡ Some g → (ts : List Term) (snapshot t : Term) (s : State) → s.level ≡ l →
      (with_equations p o g ts snapshot t s ≡ with_equations p o' g ts snapshot t s) × ((with_equations p o' g ts snapshot t s).level ≡ l)

module _ (p : Program) (Good : Name → Type 0) (l : ℕ) (o o' : Outer) (opens : Opens p Good l o o') where
  decreasing_same : (f : Name) (g : Function) → Good f → function_named p f ≡ Some g → (own : Own) (m : Option Measure) → g.decreases ≡ m → (x : Store) (at : Place) (s : State) {on other : Going} →
      s.level ≡ l → SameGoing l on other → decreasing p o own m x at s on ≡ decreasing p o' own m x at s other
  decreasing_same f g k e own None q x at s v h = refl
  decreasing_same f g k e own (Some (ByNumber n)) q x at s v h =
      ap Step (opens.number f g n k e q (entered x at s) v _ _ (λ m s1 v1. ask_same (lesser p o own.measure m) at MeasureCode (back s s1) v1 h))
  decreasing_same f g k e own (Some (ByInstance place i es)) q x at s v h =
      ap Step (opens.instance f g place i es k e q (entered x at s) v _ _ (λ us s1 v1. first_same (holds_some us) (only_inner (candidates (instance_key i us) s1.heap)) at MeasureCode (back s s1) (λ c. h (back s s1) v1) refl))

  measured_same : (f : Name) (g : Function) → Good f → function_named p f ≡ Some g → (x : Store) (at : Place) (s : State) {on other : Going} → s.level ≡ l → SameGoing l on other →
      measured p o f g x at s on ≡ measured p o' f g x at s other
  measured_same f g k e x at s {on = on} {other = other} v h = go s.own
    where
      go : (w : Option Own) →
          elim w as (λ w. Tree) [ None ↦ Step (on s) | Some own ↦ cond (is_quiet s) (Step (on s)) (cond (is_in_group p own.function f) (decreasing p o own g.decreases x at s on) (Step (on s))) ]
          ≡ elim w as (λ w. Tree) [ None ↦ Step (other s) | Some own ↦ cond (is_quiet s) (Step (other s)) (cond (is_in_group p own.function f) (decreasing p o' own g.decreases x at s other) (Step (other s))) ]
      go None = ap Step (h s v)
      go (Some own) = if_same (is_quiet s) (ap Step (h s v)) (if_same (is_in_group p own.function f) (decreasing_same f g k e own g.decreases refl x at s v h) (ap Step (h s v)))

  applied_same : (at : Place) (f : Name) (ts : List Term) (s : State) {on other : Giving} → Good f → s.level ≡ l → SameGiving l on other → applied p o at f ts s on ≡ applied p o' at f ts s other
  applied_same at f ts s {on = on} {other = other} k v h = go (function_named p f) refl
    where
      go : (d : Option Function) → function_named p f ≡ d →
          elim d as (λ d. Tree) [
            | None ↦ never at FunctionCode s
            | Some g ↦ Step (o.consume (joined g.place g.requires) (record { pure = FunctionCode; permission = FunctionCode; builds = true }) whole_amount s.heap (entered (bind g.parameters ts) at s) (λ snapshot s1.
                let s2 = with_heap s.heap (back s s1) in
                let named = name_of snapshot s2 in
                measured p o f g (bind g.parameters ts) at (after_name snapshot s2) (λ s3.
                let t = application (function_number p f) (sort_of_type g.of) named (terms ts) in
                Step (on t (with_equations p o g ts named t s3)))))
          ]
          ≡ elim d as (λ d. Tree) [
            | None ↦ never at FunctionCode s
            | Some g ↦ Step (o'.consume (joined g.place g.requires) (record { pure = FunctionCode; permission = FunctionCode; builds = true }) whole_amount s.heap (entered (bind g.parameters ts) at s) (λ snapshot s1.
                let s2 = with_heap s.heap (back s s1) in
                let named = name_of snapshot s2 in
                measured p o' f g (bind g.parameters ts) at (after_name snapshot s2) (λ s3.
                let t = application (function_number p f) (sort_of_type g.of) named (terms ts) in
                Step (other t (with_equations p o' g ts named t s3)))))
          ]
      go None e = refl
      go (Some g) e = ap Step (opens.requires f g k e _ _ _ (entered (bind g.parameters ts) at s) v _ _ (λ snapshot s1 v1.
          let s2 = with_heap s.heap (back s s1) in
          let named = name_of snapshot s2 in
          measured_same f g k e (bind g.parameters ts) at (after_name snapshot s2) (name_level snapshot s2 v1) (λ s3 v3.
          let t = application (function_number p f) (sort_of_type g.of) named (terms ts) in
          let told = opens.equations f g k e ts named t s3 v3 in
          ap Step (ap (λ s4. on t s4) told.0 ∙ h t (with_equations p o' g ts named t s3) told.1))))

  pub unfolded_same : (at : Place) (i : Name) (ts : List Term) (a : Term) (s : State) {on other : Going} → Good i → s.level ≡ l → SameGoing l on other →
      unfolded p o at i ts a s on ≡ unfolded p o' at i ts a s other
  unfolded_same at i ts a s {on = on} {other = other} k v h = taken_same (instance_key i ts) a SnapSort at UnfoldCode s v (λ c s1 v1. go c s1 v1 (predicate_named p i) refl)
    where
      opened : (o : Outer) (on : Going) (c : Chunk) (s1 : State) → Predicate → Option Assertion → Tree
      opened o on c s1 d b = elim b as (λ b. Tree) [
        | None ↦ never at UnfoldCode s1
        | Some body ↦ o.produce body a (Some c.value) (record (entered (bind d.parameters ts) at s1) { inner = leads_inside c }) (λ s2. on (back s s2))
      ]

      inside : (c : Chunk) (s1 : State) → s1.level ≡ l → (d : Predicate) → predicate_named p i ≡ Some d → (b : Option Assertion) → d.body ≡ b → opened o on c s1 d b ≡ opened o' other c s1 d b
      inside c s1 v1 d e None q = refl
      inside c s1 v1 d e (Some body) q = opens.body i d body k e q a (Some c.value) (record (entered (bind d.parameters ts) at s1) { inner = leads_inside c }) v1 _ _ (λ s2 v2. h (back s s2) v2)

      go : (c : Chunk) (s1 : State) → s1.level ≡ l → (d : Option Predicate) → predicate_named p i ≡ d →
          elim d as (λ d. Tree) [ None ↦ never at UnfoldCode s1 | Some d ↦ opened o on c s1 d d.body ]
          ≡ elim d as (λ d. Tree) [ None ↦ never at UnfoldCode s1 | Some d ↦ opened o' other c s1 d d.body ]
      go c s1 v1 None e = refl
      go c s1 v1 (Some d) e = inside c s1 v1 d e d.body refl

  mutual
    pub eval_same : (e : Expr) → Each Good (mentioned e) → EvalSame l (eval p o) (eval p o') e
    eval_same (Number at n) k s v on other h = ap Step (h _ s v)
    eval_same (Truth at b) k s v on other h = ap Step (h _ s v)
    eval_same (Null at) k s v on other h = ap Step (h _ s v)
    eval_same (Part at n d) k s v on other h = ap Step (h _ s v)
    eval_same (Variable at x) k s v on other h = ap Step (h _ s v)
    eval_same (Not at e) k s v on other h = ap Step (eval_same e k s v _ _ (λ t s1 v1. ap Step (h (negate t) s1 v1)))
    eval_same (Operate at op a b) k s v on other h =
        ap Step (eval_same a (each_left Good (mentioned a) (mentioned b) k) s v _ _ (λ t s1 v1.
        ap Step (eval_same b (each_right Good (mentioned a) (mentioned b) k) s1 v1 _ _ (λ u s2 v2. ap Step (h (operated op t u) s2 v2)))))
    eval_same (Divide at op a b) k s v on other h =
        ap Step (eval_same a (each_left Good (mentioned a) (mentioned b) k) s v _ _ (λ t s1 v1.
        ap Step (eval_same b (each_right Good (mentioned a) (mentioned b) k) s1 v1 _ _ (λ u s2 v2.
        ask_same (negate (equals u (term.Number (pos 0)))) (placed s2 at) DivisorCode s2 v2 (h (divided op t u))))))
    eval_same (Connect at c a b) k s v on other h = if_same (is_total b)
        (ap Step (eval_same a (each_left Good (mentioned a) (mentioned b) k) s v _ _ (λ t s1 v1.
        ap Step (eval_same b (each_right Good (mentioned a) (mentioned b) k) s1 v1 _ _ (λ u s2 v2. ap Step (h (connected c t u) s2 v2))))))
        (ap Step (eval_same a (each_left Good (mentioned a) (mentioned b) k) s v _ _ (λ t s1 v1.
        short_same c t s1 v1 (λ s2 v2. eval_same b (each_right Good (mentioned a) (mentioned b) k) s2 v2 on other h) h)))
    eval_same (Choose at c a b) k s v on other h =
        let rest = each_left Good (mentioned c ++ mentioned a) (mentioned b) k in
        if_same (is_total a && is_total b)
        (ap Step (eval_same c (each_left Good (mentioned c) (mentioned a) rest) s v _ _ (λ t s1 v1.
        ap Step (eval_same a (each_right Good (mentioned c) (mentioned a) rest) s1 v1 _ _ (λ u s2 v2.
        ap Step (eval_same b (each_right Good (mentioned c ++ mentioned a) (mentioned b) k) s2 v2 _ _ (λ w s3 v3. ap Step (h (ite t u w) s3 v3))))))))
        (ap Step (eval_same c (each_left Good (mentioned c) (mentioned a) rest) s v _ _ (λ t s1 v1.
        fork_same t s1 v1 (λ s2 v2. eval_same a (each_right Good (mentioned c) (mentioned a) rest) s2 v2 on other h) (λ s2 v2. eval_same b (each_right Good (mentioned c ++ mentioned a) (mentioned b) k) s2 v2 on other h))))
    eval_same (Read at e f) k s v on other h =
        ap Step (eval_same e k s v _ _ (λ r s1 v1. read_same f r (field_sort p f) (placed s1 at) s1 v1 h))
    eval_same (Old at e) k s v on other h =
        ap Step (eval_same e k (with_heap s.old s) v _ _ (λ t s1 v1. ap Step (h t (with_heap s.heap s1) v1)))
    eval_same (Apply at f es) k s v on other h =
        ap Step (evals_same es k.1 s v _ _ (λ ts s1 v1. applied_same (placed s1 at) f ts s1 k.0 v1 h))
    eval_same (Unfolding at i es share e) k s v on other h =
        let rest = each_left Good (mentioned_in es ++ mentioned share) (mentioned e) k.1 in
        ap Step (eval_same share (each_right Good (mentioned_in es) (mentioned share) rest) s v _ _ (λ a s1 v1.
        ask_same _ (placed s1 at) AmountCode s1 v1 (λ s2 v2.
        evals_same es (each_left Good (mentioned_in es) (mentioned share) rest) s2 v2 _ _ (λ ts s3 v3.
        unfolded_same (placed s3 at) i ts a s3 k.0 v3 (λ s4 v4.
        eval_same e (each_right Good (mentioned_in es ++ mentioned share) (mentioned e) k.1) s4 v4 _ _ (λ t s5 v5. ap Step (h t (with_heap s.heap s5) v5)))))))

    pub evals_same : (es : Exprs) → Each Good (mentioned_in es) → EvalsSame l (evals p o) (evals p o') es
    evals_same NoMore k s v on other h = ap Step (h [] s v)
    evals_same (More e es) k s v on other h =
        ap Step (eval_same e (each_left Good (mentioned e) (mentioned_in es) k) s v _ _ (λ t s1 v1.
        evals_same es (each_right Good (mentioned e) (mentioned_in es) k) s1 v1 _ _ (λ ts s2 v2. ap Step (h (t ∷ ts) s2 v2))))

  pub produce_same : (a : Assertion) → Each Good (entered_by a) → ProduceSame l (produce p o) (produce p o') a
  produce_same (Pure e) k q snapshot s v on other h =
      ap Step (eval_same e k s v _ _ (λ t s1 v1. ap Step (h (with_unit snapshot (with_fact t s1)) (unit_level snapshot (with_fact t s1) (fact_level t s1 v1)))))
  produce_same (Points at e f share) k q snapshot s v on other h =
      ap Step (eval_same e (each_left Good (mentioned e) (mentioned share) k) s v _ _ (λ r s1 v1.
      eval_same share (each_right Good (mentioned e) (mentioned share) k) s1 v1 _ _ (λ a s2 v2.
      ask_same _ (placed s2 at) AmountCode s2 v2 (λ s3 v3.
      let chunk = record (field_key f r) { amount = multiply q a; value = produced_value (field_sort p f) snapshot s3; inner = s.inner } in
      let s4 = after_value (field_sort p f) snapshot s3 in
      ap Step (h (put chunk s4) (put_level chunk s4 (value_level (field_sort p f) snapshot s3 v3)))))))
  produce_same (Instance at i es share) k q snapshot s v on other h =
      ap Step (evals_same es (each_left Good (mentioned_in es) (mentioned share) k) s v _ _ (λ ts s1 v1.
      eval_same share (each_right Good (mentioned_in es) (mentioned share) k) s1 v1 _ _ (λ a s2 v2.
      ask_same _ (placed s2 at) AmountCode s2 v2 (λ s3 v3.
      let chunk = record (instance_key i ts) { amount = multiply q a; value = produced_snapshot snapshot s3; inner = s.inner } in
      let s4 = after_snapshot snapshot s3 in
      ap Step (h (put chunk s4) (put_level chunk s4 (snapshot_level snapshot s3 v3)))))))
  produce_same (Both a b) k q snapshot s v on other h =
      ap Step (produce_same a (each_left Good (entered_by a) (entered_by b) k) q (left_part snapshot) (with_split snapshot s) (split_level snapshot s v) _ _ (λ s1 v1.
      produce_same b (each_right Good (entered_by a) (entered_by b) k) q (right_part snapshot) s1 v1 on other h))
  produce_same (Implied c a) k q snapshot s v on other h =
      ap Step (eval_same c (each_left Good (mentioned c) (entered_by a) k) s v _ _ (λ t s1 v1.
      fork_same t s1 v1 (λ s2 v2. produce_same a (each_right Good (mentioned c) (entered_by a) k) q snapshot s2 v2 on other h) (λ s2 v2. h (with_unit snapshot s2) (unit_level snapshot s2 v2))))
  produce_same (Chosen c a b) k q snapshot s v on other h =
      let rest = each_left Good (mentioned c ++ entered_by a) (entered_by b) k in
      ap Step (eval_same c (each_left Good (mentioned c) (entered_by a) rest) s v _ _ (λ t s1 v1.
      fork_same t s1 v1 (λ s2 v2. produce_same a (each_right Good (mentioned c) (entered_by a) rest) q snapshot s2 v2 on other h) (λ s2 v2. produce_same b (each_right Good (mentioned c ++ entered_by a) (entered_by b) k) q snapshot s2 v2 on other h)))

  pub consume_same : (a : Assertion) → Each Good (entered_by a) → ConsumeSame l (consume p o) (consume p o') a
  consume_same (Pure e) k x q hp s v on other h =
      ap Step (eval_same e k (with_heap hp s) v _ _ (λ t s1 v1.
      ask_same t (placed s1 (place_of e)) x.pure s1 v1 (λ s2 v2. ap Step (h unit (with_heap s.heap s2) v2))))
  consume_same (Points at e f share) k x q hp s v on other h =
      ap Step (eval_same e (each_left Good (mentioned e) (mentioned share) k) (with_heap hp s) v _ _ (λ r s1 v1.
      eval_same share (each_right Good (mentioned e) (mentioned share) k) s1 v1 _ _ (λ a s2 v2.
      ask_same _ (placed s2 at) AmountCode s2 v2 (λ s3 v3.
      taken_same (field_key f r) (multiply q a) (field_sort p f) (placed s3 at) x.permission (with_heap s.heap s3) v3 (λ c s4 v4.
      ap Step (h (wrap (field_sort p f) c.value) (with_built_wrap x (field_sort p f) c.value s4) (wrap_level x (field_sort p f) c.value s4 v4)))))))
  consume_same (Instance at i es share) k x q hp s v on other h =
      ap Step (evals_same es (each_left Good (mentioned_in es) (mentioned share) k) (with_heap hp s) v _ _ (λ ts s1 v1.
      eval_same share (each_right Good (mentioned_in es) (mentioned share) k) s1 v1 _ _ (λ a s2 v2.
      ask_same _ (placed s2 at) AmountCode s2 v2 (λ s3 v3.
      taken_same (instance_key i ts) (multiply q a) SnapSort (placed s3 at) x.permission (with_heap s.heap s3) v3 (λ c s4 v4.
      ap Step (h c.value s4 v4))))))
  consume_same (Both a b) k x q hp s v on other h =
      ap Step (consume_same a (each_left Good (entered_by a) (entered_by b) k) x q hp s v _ _ (λ t s1 v1.
      consume_same b (each_right Good (entered_by a) (entered_by b) k) x q hp s1 v1 _ _ (λ u s2 v2. ap Step (h (pair t u) (with_built_pair x t u s2) (pair_level x t u s2 v2)))))
  consume_same (Implied c a) k x q hp s v on other h =
      ap Step (eval_same c (each_left Good (mentioned c) (entered_by a) k) (with_heap hp s) v _ _ (λ t s1 v1.
      fork_same t (with_heap s.heap s1) v1 (λ s2 v2. consume_same a (each_right Good (mentioned c) (entered_by a) k) x q hp s2 v2 on other h) (h unit)))
  consume_same (Chosen c a b) k x q hp s v on other h =
      let rest = each_left Good (mentioned c ++ entered_by a) (entered_by b) k in
      ap Step (eval_same c (each_left Good (mentioned c) (entered_by a) rest) (with_heap hp s) v _ _ (λ t s1 v1.
      fork_same t (with_heap s.heap s1) v1 (λ s2 v2. consume_same a (each_right Good (mentioned c) (entered_by a) rest) x q hp s2 v2 on other h) (λ s2 v2. consume_same b (each_right Good (mentioned c ++ entered_by a) (entered_by b) k) x q hp s2 v2 on other h)))
