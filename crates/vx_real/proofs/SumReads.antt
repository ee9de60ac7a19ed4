-- Reading by the sum, the other way: where a read's question is exposed, or what follows it, the read isn't allowed, or what is read is what the state has.
use Rattle.std.proofs.Common.{◌≡◌, ◌⊎◌, inl, inr, ℕ, suc, ◌≤◌, Bool, true, false, not, cond, ◌||◌, List, [], ◌∷◌, ◌++◌, Option, Some, None, refl, sym, ◌∙◌, ap, subst, true≢false, le_refl, le_of_lt, lt-suc_self}
use Rattle.vx_ast.specs.declared.Place.{Place}
use Rattle.vx_ast.specs.Syntax.{Name, Program}
use Rattle.vx_meaning.specs.Values.{RefValue}
use Rattle.vx_meaning.specs.States as run
use Rattle.vx_terms.specs.Sorts.{BoolSort, RefSort}
use Rattle.vx_terms.specs.Terms.{Term, same}
use Rattle.vx_terms.specs.Build.{true_term, false_term, less, zero_amount, negate, and, implies, equals}
use Rattle.vx_terms.specs.Interpretations.{Each, Interpretation, as_bool, value, IsTrueIn, AllTrue}
use Rattle.vx_terms.proofs.Same.{term_is}
use Rattle.vx_terms.proofs.Build.{negate_value, and_value, implies_value}
use Rattle.vx_terms.specs.Sorts.{Variable}
use Rattle.vx_terms.specs.Formed.{constant}
use Rattle.vx_rules.specs.States as rules
use Rattle.vx_rules.specs.Trees.{Code, PermissionCode, Tree, Step}
use Rattle.vx_rules.specs.Chunks.{Candidate, chosen, candidates, field_key, first_argument, equal_arguments, holds_some, surely, sum_at, value_facts, with_value}
use Rattle.vx_rules.specs.Rules.{Giving, Going, ask, unless_false, field_sort, read_field}
use Rattle.vx_types.specs.Typing.{Scope}
use Rattle.vx_elements.proofs.Settled.{Meaning, extends-refl}
use Rattle.vx_elements.proofs.Built.{Good, good_later, good_equals}
use Rattle.vx_elements.proofs.Elements.{element}
use Rattle.vx_elements.proofs.Truth.{equal_is, true_positive, good_positive, positive_true}
use Rattle.vx_elements.proofs.Places.{IsPlace, matching_places}
use Rattle.vx_amounts.proofs.Amounts.{Positive, le-trans, positive-le}
use Rattle.vx_sound.proofs.World.{at_field, World}
use Rattle.vx_sound.proofs.Stands.{Stands, IsThere, content_sort, stands_later, stands_fact, facts_stand, next_after_fact, next_after_facts}
use Rattle.vx_sound.proofs.Summed.{IsOf as OfField, parts, SumIs, sum_is, parts_below, candidates_are}
use Rattle.vx_sound.proofs.Candidates.{Keys, of_field, good_some, some_is}
use Rattle.vx_sound.proofs.Chunks.{taken_apart, chunk_held}
use Rattle.vx_sound.proofs.SumReads.{surely_is, value_facts_hold}
use Rattle.vx_real.specs.Exposed.{Exposed}
use Rattle.vx_real.proofs.Exactly.{Exact, parts_above, some_has, among}

-- what is exposed behind a state is so where its path is true: of what follows
abbrev pub Keeps : Interpretation → Place → Code → Going → Type 0
Keeps i at code on = (s : rules.State) → Exposed i at code (on s) → AllTrue i (rules.path_terms s.path)

abbrev pub KeepsGiving : Interpretation → Place → Code → Giving → Type 0
KeepsGiving i at code on = (t : Term) → Keeps i at code (on t)

-- paths only grow

true_front : (i : Interpretation) (xs ys : List rules.Entry) → AllTrue i (rules.path_terms (xs ++ ys)) → AllTrue i (rules.path_terms xs) × AllTrue i (rules.path_terms ys)
true_front i [] ys h = (tt, h)
true_front i (x ∷ xs) ys h = let r = true_front i xs ys h.1 in ((h.0, r.0), r.1)

in_path_true : (i : Interpretation) (t : Term) (es : List rules.Entry) → rules.in_path t es ≡ true → AllTrue i (rules.path_terms es) → IsTrueIn i t
in_path_true i t [] e h = absurd (true≢false (sym e))
in_path_true i t (x ∷ xs) e h = go (same t x.term) refl e (in_path_true i t xs)
  where
    go : (b : Bool) → same t x.term ≡ b → (b || rules.in_path t xs) ≡ true → (rules.in_path t xs ≡ true → AllTrue i (rules.path_terms xs) → IsTrueIn i t) → IsTrueIn i t
    go true k e rest = subst (IsTrueIn i) (sym (term_is t x.term k)) h.0
    go false k e rest = rest e h.1

-- a fact that was added is true, and so is what stood before it
pub fact_true : (i : Interpretation) (t : Term) (s : rules.State) → AllTrue i (rules.path_terms (rules.with_fact t s).path) → IsTrueIn i t × AllTrue i (rules.path_terms s.path)
fact_true i t s h = literal (same t true_term) refl h
  where
    known : (b : Bool) → rules.in_path t s.path ≡ b → AllTrue i (rules.path_terms (cond b s (rules.with_entry record { term = t; branch = false } s)).path) → IsTrueIn i t × AllTrue i (rules.path_terms s.path)
    known true e h = (in_path_true i t s.path e h, h)
    known false e h = let r = true_front i s.path (record { term = t; branch = false } ∷ []) h in (r.1.0, r.0)

    literal : (b : Bool) → same t true_term ≡ b → AllTrue i (rules.path_terms (cond (b || rules.in_path t s.path) s (rules.with_entry record { term = t; branch = false } s)).path) → IsTrueIn i t × AllTrue i (rules.path_terms s.path)
    literal true e h = (subst (IsTrueIn i) (sym (term_is t true_term e)) refl, h)
    literal false e h = known (rules.in_path t s.path) refl h

pub facts_true : (i : Interpretation) (ts : List Term) (s : rules.State) → AllTrue i (rules.path_terms (rules.with_facts ts s).path) → AllTrue i ts × AllTrue i (rules.path_terms s.path)
facts_true i [] s h = (tt, h)
facts_true i (t ∷ ts) s h = let r = facts_true i ts (rules.with_fact t s) h in let q = fact_true i t s r.1 in ((q.0, r.0), q.1)

pub branch_true : (i : Interpretation) (t : Term) (s : rules.State) → AllTrue i (rules.path_terms (rules.with_branch t s).path) → IsTrueIn i t × AllTrue i (rules.path_terms s.path)
branch_true i t s h = let r = true_front i s.path (record { term = t; branch = true } ∷ []) h in (r.1.0, r.0)

pub exposed_case : (i : Interpretation) (at : Place) (code : Code) {R : Type 0} (b : Bool) (x y : Tree) → Exposed i at code (cond b x y) → (b ≡ true → Exposed i at code x → R) → (b ≡ false → Exposed i at code y → R) → R
exposed_case i at code true x y h left right = left refl h
exposed_case i at code false x y h left right = right refl h

or_false : (a b : Bool) → (a || b) ≡ true → b ≡ false → a ≡ true
or_false true b e f = refl
or_false false b e f = absurd (true≢false (sym e ∙ f))

module _ (i : Interpretation) (at : Place) (code : Code) where
  -- an ask that is exposed: its condition isn't true, and it is at the place; or what follows is
  pub asked_real : {s : rules.State} (t : Term) (here : Place) (its : Code) (on : Going) → rules.is_quiet s ≡ false → Keeps i at code on → Exposed i at code (ask t here its s on) →
      ((here ≡ at) × (its ≡ code) × IsTrueIn i (negate t) × AllTrue i (rules.path_terms s.path)) ⊎ ((s' : rules.State) × ((s' ≡ s) ⊎ (s' ≡ rules.with_fact t s)) × Exposed i at code (on s') × IsTrueIn i t × AllTrue i (rules.path_terms s.path))
  asked_real {s = s} t here its on awake keeps h = exposed_case i at code (same t true_term || rules.is_quiet s) _ _ h
      (λ e x. inr (s, inl refl, x, subst (IsTrueIn i) (sym (term_is t true_term (or_false _ _ e awake))) refl, keeps s x))
      (λ e x. go x)
    where
      go : ((here ≡ at) × (its ≡ code) × AllTrue i (negate t ∷ rules.path_terms s.path)) ⊎ Exposed i at code (unless_false t s (on (rules.with_fact t s))) →
          ((here ≡ at) × (its ≡ code) × IsTrueIn i (negate t) × AllTrue i (rules.path_terms s.path)) ⊎ ((s' : rules.State) × ((s' ≡ s) ⊎ (s' ≡ rules.with_fact t s)) × Exposed i at code (on s') × IsTrueIn i t × AllTrue i (rules.path_terms s.path))
      go (inl x) = inl (x.0, x.1, x.2.0, x.2.1)
      go (inr x) = exposed_case i at code (same t false_term) _ _ x (λ e y. absurd y)
          (λ e y. let q = fact_true i t s (keeps (rules.with_fact t s) y) in inr (rules.with_fact t s, inr refl, y, q.0, q.1))

pub implied : {means : Meaning} {n : ℕ} (i : Interpretation) (s t : Term) → Good means n i s BoolSort → Good means n i t BoolSort → IsTrueIn i (implies s t) → IsTrueIn i s → IsTrueIn i t
implied i s t f g h e = go (as_bool (value i s)) e (sym (ap as_bool (implies_value i f.formed g.formed)) ∙ h)
  where
    go : (b : Bool) → b ≡ true → cond b (as_bool (value i t)) true ≡ true → as_bool (value i t) ≡ true
    go true e h = h
    go false e h = absurd (true≢false (sym e))

pub both_hold : {means : Meaning} {n : ℕ} (i : Interpretation) (s t : Term) → Good means n i s BoolSort → Good means n i t BoolSort → IsTrueIn i s → IsTrueIn i t → IsTrueIn i (and s t)
both_hold i s t f g h k = ap as_bool (and_value i f.formed g.formed) ∙ go (as_bool (value i s)) h k
  where
    go : (b : Bool) → b ≡ true → as_bool (value i t) ≡ true → cond b (as_bool (value i t)) false ≡ true
    go true e k = k
    go false e k = e

pub not_true : (i : Interpretation) {n : ℕ} {means : Meaning} {t : Term} → Good means n i t BoolSort → IsTrueIn i (negate t) → IsTrueIn i t → ⊥
not_true i {t = t} g h k = go (as_bool (value i t)) k (sym (ap as_bool (negate_value i g.formed)) ∙ h)
  where
    go : (b : Bool) → b ≡ true → not b ≡ true → ⊥
    go true e f = true≢false (sym f)
    go false e f = true≢false (sym e)

-- what is said of the value at a location, by each candidate
facts_each : (i : Interpretation) (r u : Term) (cs : List Candidate) → AllTrue i (value_facts r u cs) → Each (λ (c : Candidate). IsTrueIn i (implies (holds_some (r ∷ []) c.chunk) (equals u c.chunk.value))) cs
facts_each i r u [] h = tt
facts_each i r u (c ∷ cs) h = (h.0, facts_each i r u cs h.1)

module _ (means : Meaning) (world : World) where
  abbrev p : Program
  p = world.program

  -- what is read, and the state behind it, which stands for the same
  pub record ReadReal (scope : Scope) (f : Name) (k : ℕ) (i : Interpretation) (at : Place) (code : Code) (s : rules.State) (c : run.State) (on : Giving) : Type 0 where
    pub state : rules.State
    pub term : Term
    pub later : s.next ≤ state.next
    pub heap_is : state.heap ≡ s.heap
    pub old_is : state.old ≡ s.old
    pub at_is : state.at ≡ s.at
    pub stands : Stands means world scope i state c
    pub good : Good means state.next i term (field_sort p f)
    pub value_is : value i term ≡ element (run.value_at p c.heap (at_field k f))
    pub positive : Positive (run.amount c.holdings (run.At (at_field k f)))
    pub exposed : Exposed i at code (on term state)

  pub heap_after_facts : (ts : List Term) (s : rules.State) → (rules.with_facts ts s).heap ≡ s.heap
  heap_after_facts [] s = refl
  heap_after_facts (t ∷ ts) s = heap_after_facts ts (rules.with_fact t s) ∙ heap_after_fact t s
    where
      heap_after_fact : (t : Term) (s : rules.State) → (rules.with_fact t s).heap ≡ s.heap
      heap_after_fact t s = go (rules.is_known t s)
        where
          go : (b : Bool) → (cond b s (rules.with_entry record { term = t; branch = false } s)).heap ≡ s.heap
          go true = refl
          go false = refl

  pub old_after_facts : (ts : List Term) (s : rules.State) → (rules.with_facts ts s).old ≡ s.old
  old_after_facts [] s = refl
  old_after_facts (t ∷ ts) s = old_after_facts ts (rules.with_fact t s) ∙ go (rules.is_known t s)
    where
      go : (b : Bool) → (cond b s (rules.with_entry record { term = t; branch = false } s)).old ≡ s.old
      go true = refl
      go false = refl

  pub at_after_facts : (ts : List Term) (s : rules.State) → (rules.with_facts ts s).at ≡ s.at
  at_after_facts [] s = refl
  at_after_facts (t ∷ ts) s = at_after_facts ts (rules.with_fact t s) ∙ go (rules.is_known t s)
    where
      go : (b : Bool) → (cond b s (rules.with_entry record { term = t; branch = false } s)).at ≡ s.at
      go true = refl
      go false = refl

  module _ {scope : Scope} {i : Interpretation} {c : run.State} (f : Name) (r : Term) (k : ℕ) where
    -- the value of a fresh symbol, of which the facts are true
    told_value : (s : rules.State) → Stands means world scope i s c → (g : Good means s.next i r RefSort) (e : value i r ≡ element (RefValue k)) → (u : Term) → Good means s.next i u (field_sort p f) →
        Positive (parts means world s.next i c.heap f r k g e (candidates (field_key f r) s.heap)) → AllTrue i (value_facts r u (candidates (field_key f r) s.heap)) → value i u ≡ element (run.value_at p c.heap (at_field k f))
    told_value s st g e u gu pos facts =
        let cs = candidates (field_key f r) s.heap in
        let some = some_has means world s.next i c.heap f r k g e cs pos in
        let of = among (λ (d : Candidate). OfField means world s.next i c.heap f d.chunk) some.front some.candidate some.back cs some.is (candidates_are means world s.next i c.heap f r k g e s.heap st.heap.each) in
        let fact = among (λ (d : Candidate). IsTrueIn i (implies (holds_some (r ∷ []) d.chunk) (equals u d.chunk.value))) some.front some.candidate some.back cs some.is (facts_each i r u cs facts) in
        let d = some.candidate.chunk in
        let keys : Keys means world s.next i (field_key f r) (run.At (at_field k f)) (field_sort p f) = of_field f r k g e in
        let gs = good_some means world keys d of.kind of.resource of.stands in
        let gv : Good means s.next i d.value (field_sort p f) = subst (λ x. Good means s.next i d.value (field_sort p x)) of.resource (subst (λ b. Good means s.next i d.value (content_sort p b d.resource)) of.kind of.stands.content) in
        let key = of.stands.field of.kind in
        let ge = good_equals means key.receiver g in
        let here : IsTrueIn i (holds_some (r ∷ []) d) =
        subst (λ ts. IsTrueIn i (and (equal_arguments ts (r ∷ [])) (less zero_amount d.amount))) (sym key.single)
        (both_hold i (equals (first_argument d.arguments) r) (less zero_amount d.amount) ge (good_positive means of.stands.amount) some.there (positive_true means of.stands.amount some.positive)) in
        let same_it = equal_is i u d.value (implied i (holds_some (r ∷ []) d) (equals u d.value) gs (good_equals means gu gv) fact here) in
        let m = some_is means world keys d of.kind of.resource of.stands here in
        same_it ∙ subst (λ x. IsThere p c.heap x (value i d.value)) m.0 (of.stands.content_is m.1)

    pub read_real : (at : Place) (code : Code) {s : rules.State} (here : Place) (on : Giving) → Stands means world scope i s c → Exact i s.heap c.holdings → Good means s.next i r RefSort → value i r ≡ element (RefValue k) → KeepsGiving i at code on →
        Exposed i at code (read_field f r (field_sort p f) here s on) → ((here ≡ at) × (Positive (run.amount c.holdings (run.At (at_field k f))) → ⊥)) ⊎ ReadReal scope f k i at code s c on
    read_real at code {s = s} here on st exact g e keeps h = exposed_case i at code (rules.is_quiet s) _ _ h
        (λ q m. absurd (true≢false (sym q ∙ st.awake)))
        (λ q m. go (surely (holds_some (r ∷ [])) (chosen true (field_key f r) 0 s.heap)) refl m)
      where
        summed : Going
        summed s1 = on (rules.fresh (field_sort p f) s1) (with_value r (rules.fresh (field_sort p f) s1) (candidates (field_key f r) s1.heap) s1)

        sum_good : SumIs means world s.next i c.heap f r k g e (sum_at r (candidates (field_key f r) s.heap)) (parts means world s.next i c.heap f r k g e (candidates (field_key f r) s.heap))
        sum_good = sum_is means world s.next i c.heap f r k g e (candidates (field_key f r) s.heap) (candidates_are means world s.next i c.heap f r k g e s.heap st.heap.each)

        summed_keeps : Keeps i at code summed
        summed_keeps s1 x = (facts_true i (value_facts r (rules.fresh (field_sort p f) s1) (candidates (field_key f r) s1.heap)) (rules.after_fresh s1) (keeps (rules.fresh (field_sort p f) s1) (with_value r (rules.fresh (field_sort p f) s1) (candidates (field_key f r) s1.heap) s1) x)).1

        -- where it is held the sum is positive
        positive_sum : Positive (run.amount c.holdings (run.At (at_field k f))) → IsTrueIn i (less zero_amount (sum_at r (candidates (field_key f r) s.heap)))
        positive_sum pos =
            positive_true means sum_good.good (positive-le pos (le-trans (exact.all (at_field k f)) (le-trans (parts_above means world s.next i c.heap f r k g e s.heap st.heap.each exact.each) sum_good.is.back)))

        further : (s' : rules.State) → Stands means world scope i s' c → (s'.heap ≡ s.heap) → (s'.old ≡ s.old) → (s'.at ≡ s.at) → (s'.next ≡ s.next) → Exposed i at code (summed s') → IsTrueIn i (less zero_amount (sum_at r (candidates (field_key f r) s.heap))) → ReadReal scope f k i at code s c on
        further s' st' heap_is old_is at_is next_is x told =
            let u = rules.fresh (field_sort p f) s' in
            let cs = candidates (field_key f r) s'.heap in
            let s2 = rules.after_fresh s' in
            let le : s'.next ≤ suc s'.next = le_of_lt (lt-suc_self s'.next) in
            let st2 : Stands means world scope i (rules.after_fresh s') c = stands_later means world (suc s'.next) le (extends-refl means s'.next i) st' in
            let gu : Good means (suc s'.next) i (rules.fresh (field_sort p f) s') (field_sort p f) = record { formed = constant (Variable s'.next) (field_sort p f) (lt-suc_self s'.next); settled = lt-suc_self s'.next } in
            let g2 : Good means (suc s'.next) i r RefSort = good_later means (subst (λ m. m ≤ suc s'.next) next_is le) (extends-refl means s.next i) g in
            let facts = facts_true i (value_facts r u cs) s2 (keeps u (with_value r u cs s') x) in
            let m = sum_is means world (suc s'.next) i c.heap f r k g2 e cs (candidates_are means world (suc s'.next) i c.heap f r k g2 e s'.heap st2.heap.each) in
            let told' : IsTrueIn i (less zero_amount (sum_at r (candidates (field_key f r) s'.heap))) = subst (λ (y : rules.Heap). IsTrueIn i (less zero_amount (sum_at r (candidates (field_key f r) y)))) (sym heap_is) told in
            let pos : Positive (parts means world (suc s'.next) i c.heap f r k g2 e (candidates (field_key f r) s'.heap)) = positive-le (true_positive means m.good told') m.is.there in
            let v : value i (rules.fresh (field_sort p f) s') ≡ element (run.value_at p c.heap (at_field k f)) = told_value s2 st2 g2 e u gu pos facts.0 in
            let after : (with_value r u cs s').next ≡ suc s'.next = next_after_facts means world (value_facts r u cs) s2 in
            record {
              state = with_value r u cs s';
              term = u;
              later = subst (λ m. m ≤ (with_value r u cs s').next) next_is (subst (λ m. s'.next ≤ m) (sym after) le);
              heap_is = heap_after_facts (value_facts r u cs) s2 ∙ heap_is;
              old_is = old_after_facts (value_facts r u cs) s2 ∙ old_is;
              at_is = at_after_facts (value_facts r u cs) s2 ∙ at_is;
              stands = facts_stand means world (value_facts r u cs) s2 st2 (value_facts_hold means world (suc s'.next) i c.heap f r k g2 e u gu v cs (candidates_are means world (suc s'.next) i c.heap f r k g2 e s'.heap st2.heap.each));
              good = subst (λ m. Good means m i (rules.fresh (field_sort p f) s') (field_sort p f)) (sym after) gu;
              value_is = v;
              positive = positive-le pos (le-trans (parts_below means world (suc s'.next) i c.heap f r k g2 e s'.heap st2.heap.each) (st2.heap.sums (run.At (at_field k f))));
              exposed = x;
            }

        by_asking : ((here ≡ at) × (PermissionCode ≡ code) × IsTrueIn i (negate (less zero_amount (sum_at r (candidates (field_key f r) s.heap)))) × AllTrue i (rules.path_terms s.path))
            ⊎ ((s' : rules.State) × ((s' ≡ s) ⊎ (s' ≡ rules.with_fact (less zero_amount (sum_at r (candidates (field_key f r) s.heap))) s)) × Exposed i at code (summed s') × IsTrueIn i (less zero_amount (sum_at r (candidates (field_key f r) s.heap))) × AllTrue i (rules.path_terms s.path)) →
            ((here ≡ at) × (Positive (run.amount c.holdings (run.At (at_field k f))) → ⊥)) ⊎ ReadReal scope f k i at code s c on
        by_asking (inl x) = inl (x.0, λ pos. not_true i (good_positive means sum_good.good) x.2 (positive_sum pos))
        by_asking (inr (s', which, x, told, path)) = inr (reached which)
          where
            cond_term : Term
            cond_term = less zero_amount (sum_at r (candidates (field_key f r) s.heap))

            reached : (s' ≡ s) ⊎ (s' ≡ rules.with_fact (less zero_amount (sum_at r (candidates (field_key f r) s.heap))) s) → ReadReal scope f k i at code s c on
            reached (inl same_it) = further s (st) refl refl refl refl (subst (λ y. Exposed i at code (summed y)) same_it x) told
            reached (inr same_it) =
                further (rules.with_fact (less zero_amount (sum_at r (candidates (field_key f r) s.heap))) s) (stands_fact means world (less zero_amount (sum_at r (candidates (field_key f r) s.heap))) st (good_positive means sum_good.good) told)
                (heap_after_facts (cond_term ∷ []) s) (old_after_facts (cond_term ∷ []) s) (at_after_facts (cond_term ∷ []) s) (next_after_fact means world cond_term s)
                (subst (λ y. Exposed i at code (summed y)) same_it x) told

        go : (o : Option Candidate) → surely (holds_some (r ∷ [])) (chosen true (field_key f r) 0 s.heap) ≡ o →
            Exposed i at code (elim o as (λ o. Tree) [ Some d ↦ Step (on d.chunk.value s) | None ↦ ask (less zero_amount (sum_at r (candidates (field_key f r) s.heap))) here PermissionCode s summed ]) →
            ((here ≡ at) × (Positive (run.amount c.holdings (run.At (at_field k f))) → ⊥)) ⊎ ReadReal scope f k i at code s c on
        go (Some d) o m =
            let x = surely_is (holds_some (r ∷ [])) (IsPlace (field_key f r) s.heap) (chosen true (field_key f r) 0 s.heap) d (matching_places (field_key f r) s.heap) o in
            let a = taken_apart means world s.next i c.heap x.0 st.heap in
            let keys : Keys means world s.next i (field_key f r) (run.At (at_field k f)) (field_sort p f) = of_field f r k g e in
            let is = some_is means world keys d.chunk x.0.kind x.0.resource a.chunk (subst (IsTrueIn i) (sym (term_is (holds_some (r ∷ []) d.chunk) true_term x.1)) refl) in
            inr record {
              state = s;
              term = d.chunk.value;
              later = le_refl _;
              heap_is = refl;
              old_is = refl;
              at_is = refl;
              stands = st;
              good = subst (λ y. Good means s.next i d.chunk.value (field_sort p y)) x.0.resource (subst (λ b. Good means s.next i d.chunk.value (content_sort p b d.chunk.resource)) x.0.kind a.chunk.content);
              value_is = subst (λ y. IsThere p c.heap y (value i d.chunk.value)) is.0 (a.chunk.content_is is.1);
              positive = subst (λ y. Positive (run.amount c.holdings y)) is.0 (positive-le is.1 (chunk_held means world s.next i c.heap x.0 st.heap));
              exposed = m;
            }
        go None o m = by_asking (asked_real i at code (less zero_amount (sum_at r (candidates (field_key f r) s.heap))) here PermissionCode summed st.awake summed_keeps m)
