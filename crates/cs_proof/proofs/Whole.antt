-- The verdict is the answer: one step after another.
use Rattle.std.proofs.Common.{◌≡◌, ℕ, zero, suc, ◌+◌, ◌<◌, ◌≤◌, ◌^◌, Bool, true, false, ◌||◌, List, [], ◌∷◌, ◌++◌, Option, Some, None, map, length, take, refl, sym, ◌∙◌, ap, subst, arith, append_assoc, append-nil}
use Rattle.std.specs.Prelude.{slice_get, if◌then◌else◌, ◌↔◌}
use Rattle.std.specs.List.{list_any}
use Rattle.std.specs.Option.{option_map}
use Rattle.std.proofs.lemmas.List.{length-append}
use Rattle.std.proofs.lemmas.Option.{slice_get-get_or, same_Some}
use Rattle.vx_terms.specs.Terms.{Term, Truth, same}
use Rattle.vx_terms.specs.Interpretations.{Each}
use Rattle.vx_terms.proofs.Same.{term_is}
use Rattle.cs_certificate.specs.Terms.{parts_of}
use Rattle.cs_certificate.specs.Certificate.{Stack, State, start, At, AllAt, no-terms, one-term, Contains, Step}
use Rattle.cs_certificate.specs.Nodes.{Node, Represents}
use Rattle.cs_certificate.specs.Steps.{◌>>=◌, ComputesSteps}
use Rattle.cs_certificate.proofs.Chains.{bind_some, chain_computes, congruence_computes}
use Rattle.cs_certificate.proofs.Comparisons.{split_computes, trichotomy_computes}
use Rattle.cs_certificate.proofs.Picks.{pick_computes}
use Rattle.cs_certificate.proofs.Divisions.{divide_computes}
use Rattle.cs_certificate.proofs.Definitions.{define_computes}
use Rattle.cs_numbers.specs.Numbering.{place, places, nodes_of, nodes_after, added}
use Rattle.cs_numbers.specs.Laws.{IsSorted, IsTable, of_assertions}
use Rattle.cs_numbers.proofs.Added.{added_distinct}
use Rattle.cs_certificate.specs.declared.literal.Literal.{Literal}
use Rattle.cs_certificate.specs.declared.literal.Clause.{Clause as Clause'}
use Rattle.cs_certificate.specs.Bridge.{term_at, views, IsNumbered, AreDistinct}
use Rattle.cs_farkas.specs.Sums.{Outcome, Done, Leaves, Misses}
use Rattle.cs_farkas.specs.Sums as sums
use Rattle.cs_proof.specs.Prepared.{Duty}
use Rattle.cs_proof.specs.Plans.{Plans, planned, planned_all, begun, plans_of}
use Rattle.cs_proof.specs.Checking.{Checker, Verdict, Finished, BadStep, Over, NotEmpty, met, after, is_nil, is_empty, verdict}
use Rattle.cs_proof.specs.Answers.{Meets, IsOver, Holds, none, more, Reaches, Answers}
use Rattle.cs_proof.proofs.Grown.{Begins, Grows, all_grows, take_front, get_front, one_longer, at_left}
use Rattle.cs_numbers.specs.Parts.{HasFewParts}
use Rattle.cs_proof.proofs.State.{state_of, Stands, represents}
use Rattle.cs_proof.proofs.Moves.{Fate, moves, misses, leaves}
use Rattle.cs_proof.proofs.Answered.{Scene, fate_of}
use Rattle.cs_proof.proofs.Only.{From, Ahead, passes, stops, exceeds, AtEnd, finished, not_empty, one_over, answers_from}
use Rattle.cs_proof.proofs.Only as only
use Rattle.cs_proof.proofs.Verdicts.{verdict_stepped, at_end, refused_is, stepped_to}

-- the literals of clauses
abbrev pub literals : List Clause' → List (List Literal)
literals cs = map (λ c. c.literals.items) cs

literals_take : (n : ℕ) (cs : List Clause') → literals (take n cs) ≡ take n (literals cs)
literals_take zero cs = refl
literals_take (suc n) [] = refl
literals_take (suc n) (c ∷ cs) = ap (λ l. c.literals.items ∷ l) (literals_take n cs)

literals_viewed : (terms : List Term) (cs : List Clause') → map (λ c. views terms c.literals.items) cs ≡ map (views terms) (literals cs)
literals_viewed terms [] = refl
literals_viewed terms (c ∷ cs) = ap (λ l. views terms c.literals.items ∷ l) (literals_viewed terms cs)

each_clause : (P : List Literal → Type 0) (cs : List Clause') → Each P (literals cs) → Each (λ c. P c.literals.items) cs
each_clause P [] h = tt
each_clause P (c ∷ cs) h = (h.0, each_clause P cs h.1)

take_short : {A : Type 0} (n : ℕ) (xs : List A) → length (take n xs) ≤ length xs
take_short zero xs = omega arith
take_short (suc n) [] = omega arith
take_short (suc n) (x ∷ xs) = let h = take_short n xs in omega arith

-- ---- an empty clause
nil_viewed : (terms : List Term) (ls : List Literal) → is_nil ls ≡ true → views terms ls ≡ []
nil_viewed terms [] e = refl
nil_viewed terms (l ∷ ls) e = cc

viewed_nil : (terms : List Term) (ls : List Literal) → is_nil ls ≡ false → views terms ls ≡ [] → ⊥
viewed_nil terms [] e f = cc
viewed_nil terms (l ∷ ls) e f = cc

empty_here : (terms : List Term) (cs : List Clause') → list_any is_empty cs ≡ true → Contains (map (views terms) (literals cs)) []
empty_here terms [] e = cc
empty_here terms (c ∷ cs) e = go (is_empty c) refl e (empty_here terms cs)
  where
    go : (b : Bool) → is_empty c ≡ b → b || list_any is_empty cs ≡ true → (list_any is_empty cs ≡ true → Contains (map (views terms) (literals cs)) []) → Contains (map (views terms) (literals (c ∷ cs))) []
    go true f e h = (0, ap Some (nil_viewed terms c.literals.items f))
    go false f e h = let k = h e in (suc k.0, k.1)

empty_nowhere : (terms : List Term) (cs : List Clause') → list_any is_empty cs ≡ false → Contains (map (views terms) (literals cs)) [] → ⊥
empty_nowhere terms [] e (n, f) = cc
empty_nowhere terms (c ∷ cs) e (n, f) = go (is_empty c) refl e n f (empty_nowhere terms cs)
  where
    go : (b : Bool) → is_empty c ≡ b → b || list_any is_empty cs ≡ false → (n : ℕ) → At (map (views terms) (literals (c ∷ cs))) n [] → (list_any is_empty cs ≡ false → Contains (map (views terms) (literals cs)) [] → ⊥) → ⊥
    go true g e n f h = cc
    go false g e zero f h = viewed_nil terms c.literals.items g (same_Some _ _ f)
    go false g e (suc n) f h = h e (n, f)

-- ---- one step more holds
holds_end : (stack : Stack) (s u v : State) (w : Option Step) (ws : List (Option Step)) → Holds stack s ws u → Meets stack u w v → ((o : sums.Over) → IsOver u w o → ⊥) → Holds stack s (ws ++ w ∷ []) v
holds_end stack s u v w _ none m n = more m n none
holds_end stack s u v w _ (more {u = x} {w = y} {ws = ys} a b rest) m n = more a b (holds_end stack x u v w ys rest m n)

by_numbers : (nodes : List Node) (s : State) (stack : Stack) → Represents nodes s.terms → ComputesSteps nodes s stack
by_numbers nodes s stack r = record {
  define = define_computes nodes s r stack;
  chain = chain_computes nodes s r stack;
  congruence = congruence_computes nodes s r stack;
  split = split_computes nodes s r stack;
  trichotomy = trichotomy_computes nodes s r stack;
  pick = pick_computes nodes s r stack;
  divide = divide_computes nodes s r stack;
}

are_distinct : (nodes : List Node) (terms : List Term) → Represents nodes terms → AreDistinct terms
are_distinct nodes terms r m n lm ln e =
    r.distinct m n (term_at terms m) (slice_get-get_or terms m (Truth true) lm) (slice_get-get_or terms n (Truth true) ln ∙ ap Some (sym e))

longer : {A : Type 0} (xs ys : List A) → Begins xs ys → length xs ≤ length ys
longer xs ys (zs, e) = let f : length ys ≡ length xs + length zs = ap length e ∙ length-append xs zs in omega arith

pub record Whole (stack : Stack) (roots : List ℕ) (q : Plans) (c : Checker) : Type 0 where
  pub nodes : c.nodes ≡ q.nodes
  pub duties : c.duties ≡ q.duties
  pub clauses : literals c.clauses ≡ q.clauses
  pub small : length q.nodes < 2 ^ 32
  pub few : length stack.assertions < 2 ^ 32
  pub few_clauses : length c.clauses < 2 ^ 32
  pub few_parts : (t : Term) → Contains q.terms t → HasFewParts t

module _ (stack : Stack) (roots : List ℕ) (q : Plans) (c : Checker) (g : Whole stack roots q c) where
  front_is : (p : Plans) → Grows p q → literals (take (length p.clauses) c.clauses) ≡ p.clauses
  front_is p r = literals_take (length p.clauses) c.clauses ∙ ap (take (length p.clauses)) (g.clauses ∙ (r.clauses).1) ∙ take_front p.clauses (r.clauses).0

  scene : (p : Plans) → Stands stack roots p → Grows p q → Scene stack roots c.nodes c.clauses p
  scene p h r = record {
    stands = h;
    small = (let le = longer p.nodes q.nodes r.nodes in let s = g.small in omega arith);
    few = g.few;
    few_clauses = (let le = take_short (length p.clauses) c.clauses in let s = g.few_clauses in omega arith);
    few_parts = λ t k. g.few_parts t (k.0, subst (λ ts. At ts k.0 t) (sym (r.terms).1) (at_left p.terms (r.terms).0 k.0 t k.1));
    by = by_numbers p.nodes (state_of p) stack (represents stack roots p h);
    distinct = are_distinct p.nodes p.terms (represents stack roots p h);
    front = ap (take (length p.nodes)) (g.nodes ∙ (r.nodes).1) ∙ take_front p.nodes (r.nodes).0;
    wide = subst (λ ns. length p.nodes ≤ length ns) (sym g.nodes) (longer p.nodes q.nodes r.nodes);
    here = ap (λ cs. record { terms = p.terms; clauses = cs }) (literals_viewed p.terms (take (length p.clauses) c.clauses) ∙ ap (map (views p.terms)) (front_is p r));
    within_terms = each_clause (Each (IsNumbered p.terms)) (take (length p.clauses) c.clauses) (subst (Each (Each (IsNumbered p.terms))) (sym (front_is p r)) h.numbers);
  }

  abbrev pub at_state : Plans → Checker
  at_state p = record { nodes = c.nodes; clauses = c.clauses; duties = c.duties; done = length p.duties; derived = length p.clauses; refusal = None }

  duty_here : (p p' : Plans) (d : Duty) → p'.duties ≡ p.duties ++ d ∷ [] → Grows p' q → slice_get c.duties (length p.duties) ≡ Some d
  duty_here p p' d e r =
      ap (λ ds. slice_get ds (length p.duties)) (g.duties ∙ (r.duties).1 ∙ ap (λ ds. ds ++ (r.duties).0) e ∙ append_assoc p.duties (d ∷ []) (r.duties).0)
      ∙ get_front p.duties d (r.duties).0

  goes_to : (p p' : Plans) (d : Duty) (o : Outcome ℕ) → p'.duties ≡ p.duties ++ d ∷ [] → Grows p' q → met c.nodes c.clauses (length p.clauses) d ≡ o → verdict (at_state p) ≡ verdict (after (at_state p) o)
  goes_to p p' d o e r m = sym (verdict_stepped (at_state p)) ∙ ap verdict (stepped_to (at_state p) d o refl (duty_here p p' d e r) m)

  module _ (p p' : Plans) (before ws : List (Option Step)) (w : Option Step) (holds : Holds stack (start stack) before (state_of p)) (count : length p.duties ≡ length before) (r : Grows p' q) where
    reaches : Reaches stack (before ++ w ∷ ws) (length p.duties) w (state_of p)
    reaches = record { before = before; behind = ws; whole = refl; count = sym count; holds = holds }

    answered : ((d : Duty) → p'.duties ≡ p.duties ++ d ∷ [] → Meets stack (state_of p) w (state_of p') → ((o : sums.Over) → IsOver (state_of p) w o → ⊥) → Stands stack roots p' → Answers stack (before ++ w ∷ ws) (verdict (at_state p'))) →
        Fate stack roots c.nodes c.clauses p w p' → Answers stack (before ++ w ∷ ws) (verdict (at_state p))
    answered later (moves d e m meets only over stands) =
        let to : verdict (at_state p) ≡ verdict (at_state p') =
        goes_to p p' d (Done (length p'.clauses)) e r m
        ∙ ap (λ n. verdict record { nodes = c.nodes; clauses = c.clauses; duties = c.duties; done = n; derived = length p'.clauses; refusal = None }) (sym (ap length e ∙ one_longer p.duties d)) in
        subst (Answers stack (before ++ w ∷ ws)) (sym to) (later d e meets over stands)
    answered later (misses d e m not_met over) =
        let to : verdict (at_state p) ≡ BadStep (length p.duties) = goes_to p p' d Misses e r m ∙ refused_is (after (at_state p) Misses) (BadStep (length p.duties)) refl in
        subst (Answers stack (before ++ w ∷ ws)) (sym to) (w, state_of p, reaches, not_met, over)
    answered later (leaves d e o m over) =
        let to : verdict (at_state p) ≡ Over (length p.duties) o = goes_to p p' d (Leaves o) e r m ∙ refused_is (after (at_state p) (Leaves o)) (Over (length p.duties) o) refl in
        subst (Answers stack (before ++ w ∷ ws)) (sym to) (w, state_of p, reaches, over)

  ended : (p : Plans) (before : List (Option Step)) → p ≡ q → Holds stack (start stack) before (state_of p) → (b : Bool) → list_any is_empty c.clauses ≡ b → Answers stack before (if b then Finished else NotEmpty)
  ended p before e h true f = (state_of p, h, subst (λ ls. Contains (map (views p.terms) ls) []) (g.clauses ∙ ap (λ x. x.clauses) (sym e)) (empty_here p.terms c.clauses f))
  ended p before e h false f = (state_of p, h, λ k. empty_nowhere p.terms c.clauses f (subst (λ ls. Contains (map (views p.terms) ls) []) (sym (g.clauses ∙ ap (λ x. x.clauses) (sym e))) k))

  pub answer_from : (ws : List (Option Step)) (p : Plans) (before : List (Option Step)) → Stands stack roots p → Holds stack (start stack) before (state_of p) → length p.duties ≡ length before →
      planned_all stack.symbols roots p ws ≡ Some q → Answers stack (before ++ ws) (verdict (at_state p))
  answer_from [] p before h k count e =
      let is : p ≡ q = same_Some _ _ e in
      let past : length c.duties ≤ length p.duties = (let f : length c.duties ≡ length p.duties = ap length (g.duties ∙ ap (λ x. x.duties) (sym is)) in omega arith) in
      subst (λ l. Answers stack l (verdict (at_state p))) (sym (append-nil before))
      (subst (Answers stack before) (sym (at_end (at_state p) past)) (go (list_any is_empty c.clauses) refl (ended p before is k)))
    where
      go : (b : Bool) → list_any is_empty c.clauses ≡ b → ((b : Bool) → list_any is_empty c.clauses ≡ b → Answers stack before (if b then Finished else NotEmpty)) → Answers stack before (if list_any is_empty c.clauses then Finished else NotEmpty)
      go b f h = h (list_any is_empty c.clauses) refl
  answer_from (w ∷ ws) p before h k count e =
      let b = bind_some (planned stack.symbols roots p w) (λ r. planned_all stack.symbols roots r ws) q e in
      let r = all_grows stack.symbols roots b.0 ws q b.2 in
      answered p b.0 before ws w k count r
      (λ d f meets over stands.
      subst (λ l. Answers stack l (verdict (at_state b.0))) (append_assoc before (w ∷ []) ws)
      (answer_from ws b.0 (before ++ w ∷ []) stands (holds_end stack (start stack) (state_of p) (state_of b.0) w before k meets over)
      (ap length f ∙ one_longer p.duties d ∙ ap suc count ∙ sym (one_longer before w)) b.2))
      (fate_of stack roots c.nodes c.clauses p (scene p h (all_grows stack.symbols roots p (w ∷ ws) q e)) w b.0 b.1)

  -- and there is no other
  module _ (p p' : Plans) (w : Option Step) (ws : List (Option Step)) (r : Grows p' q) (v : Verdict) where
    one_more_done : (d : Duty) → p'.duties ≡ p.duties ++ d ∷ [] → suc (length p.duties) ≡ length p'.duties
    one_more_done d e = sym (ap length e ∙ one_longer p.duties d)

    no_other : (From stack (length p'.duties) (state_of p') ws v → Stands stack roots p' → v ≡ verdict (at_state p')) →
        Fate stack roots c.nodes c.clauses p w p' → Ahead stack (length p.duties) (state_of p) w ws v → v ≡ verdict (at_state p)
    no_other ih (moves d e m meets only over stands) (passes x k l f) =
        let to : verdict (at_state p) ≡ verdict (at_state p') =
        goes_to p p' d (Done (length p'.clauses)) e r m
        ∙ ap (λ n. verdict record { nodes = c.nodes; clauses = c.clauses; duties = c.duties; done = n; derived = length p'.clauses; refusal = None }) (one_more_done d e) in
        ih (subst (λ n. From stack n (state_of p') ws v) (one_more_done d e) (subst (λ y. From stack (suc (length p.duties)) y ws v) (only x k) f)) stands ∙ sym to
    no_other ih (moves d e m meets only over stands) (stops f a b) = absurd (a (state_of p') meets)
    no_other ih (moves d e m meets only over stands) (exceeds o f i) = absurd (over o i)
    no_other ih (misses d e m not_met no_over) (passes x k l f) = absurd (not_met x k)
    no_other ih (misses d e m not_met no_over) (stops f a b) = f ∙ sym (goes_to p p' d Misses e r m ∙ refused_is (after (at_state p) Misses) (BadStep (length p.duties)) refl)
    no_other ih (misses d e m not_met no_over) (exceeds o f i) = absurd (no_over o i)
    no_other ih (leaves d e o m i) (passes x k l f) = absurd (l o i)
    no_other ih (leaves d e o m i) (stops f a b) = absurd (b o i)
    no_other ih (leaves d e o m i) (exceeds y f j) =
        f ∙ ap (Over (length p.duties)) (one_over (state_of p) w y o j i) ∙ sym (goes_to p p' d (Leaves o) e r m ∙ refused_is (after (at_state p) (Leaves o)) (Over (length p.duties) o) refl)

  only_end : (p : Plans) → p ≡ q → (v : Verdict) → AtEnd stack (length p.duties) (state_of p) v → (b : Bool) → list_any is_empty c.clauses ≡ b → v ≡ (if b then Finished else NotEmpty)
  only_end p e v (finished f k) true g' = f
  only_end p e v (finished f k) false g' = absurd (empty_nowhere p.terms c.clauses g' (subst (λ ls. Contains (map (views p.terms) ls) []) (sym (g.clauses ∙ ap (λ x. x.clauses) (sym e))) k))
  only_end p e v (not_empty f k) true g' = absurd (k (subst (λ ls. Contains (map (views p.terms) ls) []) (g.clauses ∙ ap (λ x. x.clauses) (sym e)) (empty_here p.terms c.clauses g')))
  only_end p e v (not_empty f k) false g' = f

  pub only_from : (ws : List (Option Step)) (p : Plans) → Stands stack roots p → planned_all stack.symbols roots p ws ≡ Some q → (v : Verdict) → From stack (length p.duties) (state_of p) ws v → v ≡ verdict (at_state p)
  only_from [] p h e v f =
      let is : p ≡ q = same_Some _ _ e in
      let past : length c.duties ≤ length p.duties = (let f : length c.duties ≡ length p.duties = ap length (g.duties ∙ ap (λ x. x.duties) (sym is)) in omega arith) in
      only_end p is v (only.at_end stack (length p.duties) (state_of p) v f) (list_any is_empty c.clauses) refl ∙ sym (at_end (at_state p) past)
  only_from (w ∷ ws) p h e v f =
      let b = bind_some (planned stack.symbols roots p w) (λ r. planned_all stack.symbols roots r ws) q e in
      no_other p b.0 w ws (all_grows stack.symbols roots b.0 ws q b.2) v (λ f stands. only_from ws b.0 stands b.2 v f)
      (fate_of stack roots c.nodes c.clauses p (scene p h (all_grows stack.symbols roots p (w ∷ ws) q e)) w b.0 b.1) (only.ahead stack (length p.duties) (state_of p) w ws v f)

-- ---- from the beginning
place_at : (terms : List Term) (t : Term) (k : ℕ) → place terms t ≡ Some k → At terms k t
place_at [] t k e = cc
place_at (u ∷ us) t k e = go (same t u) refl e (place_at us t)
  where
    later : (o : Option ℕ) → ((j : ℕ) → o ≡ Some j → At us j t) → option_map suc o ≡ Some k → At (u ∷ us) k t
    later None f e = cc
    later (Some j) f e = let is : suc j ≡ k = same_Some _ _ e in subst (λ x. At (u ∷ us) x t) is (f j refl)

    go : (b : Bool) → same t u ≡ b → (if b then Some 0 else option_map suc (place us t)) ≡ Some k → ((j : ℕ) → place us t ≡ Some j → At us j t) → At (u ∷ us) k t
    go true f e h = let is : 0 ≡ k = same_Some _ _ e in subst (λ x. At (u ∷ us) x t) is (ap Some (sym (term_is t u f)))
    go false f e h = later (place us t) h e

places_at : (terms ts : List Term) (ns : List ℕ) → places terms ts ≡ Some ns → AllAt terms ns ts
places_at terms [] ns e = subst (λ l. AllAt terms l []) (same_Some _ _ e) no-terms
places_at terms (t ∷ ts) ns e =
    let b = bind_some (place terms t) (λ n. places terms ts >>= λ ns. Some (n ∷ ns)) ns e in
    let d = bind_some (places terms ts) (λ ns. Some (b.0 ∷ ns)) ns b.2 in
    subst (λ l. AllAt terms l (t ∷ ts)) (same_Some _ _ d.2) (one-term (place_at terms t b.0 b.1) (places_at terms ts d.0 d.1))

pub whole_answer : (stack : Stack) (ws : List (Option Step)) (q : Plans) (c : Checker) → Each IsSorted stack.assertions → plans_of stack ws ≡ Some q →
    ((roots : List ℕ) → Whole stack roots q c) → c.done ≡ 0 → c.derived ≡ 0 → c.refusal ≡ None → (v : Verdict) → Answers stack ws v ↔ (v ≡ verdict c)
whole_answer stack ws q c sorted e g d1 d2 d3 v =
    let ts = added [] (parts_of stack.assertions) in
    let b = bind_some (begun stack.assertions) (λ b. planned_all stack.symbols b.0 b.1 ws) q e in
    let x = bind_some (nodes_after [] ts ts) (λ nodes. places ts stack.assertions >>= λ roots. Some (roots, record { terms = ts; nodes = nodes; duties = []; clauses = [] })) b.0 b.1 in
    let y = bind_some (places ts stack.assertions) (λ roots. Some (roots, record { terms = ts; nodes = x.0; duties = []; clauses = [] })) b.0 x.2 in
    let z = bind_some (nodes_of ts ts) (λ ns. Some ([] ++ ns)) x.0 x.1 in
    let p : Plans = record { terms = ts; nodes = x.0; duties = []; clauses = [] } in
    let same : (y.0, p) ≡ b.0 = same_Some _ _ y.2 in
    let planned' : planned_all stack.symbols y.0 p ws ≡ Some q = ap (λ b. planned_all stack.symbols b.0 b.1 ws) same ∙ b.2 in
    let stands : Stands stack y.0 p = record {
      table = subst IsTable (sym (added_distinct (parts_of stack.assertions))) (of_assertions stack.assertions sorted);
      nodes = z.1 ∙ z.2;
      numbers = tt;
      at_roots = places_at ts stack.assertions y.0 y.1;
    } in
    let first : start stack ≡ state_of p = ap (λ l. record { terms = l; clauses = [] }) (sym (added_distinct (parts_of stack.assertions))) in
    let at : record { nodes = c.nodes; clauses = c.clauses; duties = c.duties; done = 0; derived = 0; refusal = None } ≡ c = rebuilt c d1 d2 d3 in
    subst (λ x. Answers stack ws v ↔ (v ≡ verdict x)) at (
      (λ a. only_from stack y.0 q c (g y.0) ws p stands planned' v (subst (λ s. From stack 0 s ws v) first (answers_from stack ws v a))),
      (λ e.
          subst (Answers stack ws) (sym e)
          (answer_from stack y.0 q c (g y.0) ws p [] stands (subst (λ s. Holds stack (start stack) [] s) first none) refl planned')),
    )
  where
    rebuilt : (c : Checker) → c.done ≡ 0 → c.derived ≡ 0 → c.refusal ≡ None → record { nodes = c.nodes; clauses = c.clauses; duties = c.duties; done = 0; derived = 0; refusal = None } ≡ c
    rebuilt c d1 d2 d3 =
        sym (ap (λ n. record { nodes = c.nodes; clauses = c.clauses; duties = c.duties; done = n; derived = c.derived; refusal = c.refusal }) d1
        ∙ ap (λ n. record { nodes = c.nodes; clauses = c.clauses; duties = c.duties; done = 0; derived = n; refusal = c.refusal }) d2
        ∙ ap (λ r. record { nodes = c.nodes; clauses = c.clauses; duties = c.duties; done = 0; derived = 0; refusal = r }) d3)
