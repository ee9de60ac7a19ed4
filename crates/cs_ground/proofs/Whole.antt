-- What is made of the assertions of a stack.
use Rattle.std.proofs.Common.{◌≡◌, ◌⊎◌, inl, inr, ℕ, ◌<◌, List, [], ◌∷◌, ◌++◌, length, take, refl, sym, ◌∙◌, ap, subst}
use Rattle.vx_terms.specs.Sorts.{BoolSort}
use Rattle.vx_terms.specs.Terms.{Term, Ite}
use Rattle.vx_terms.specs.Interpretations.{Each}
use Rattle.vx_terms.specs.Formed.{Formed}
use Rattle.vx_terms.proofs.Values.{sort_of_formed}
use Rattle.cs_certificate.specs.Terms.{head, parts, equal, numbered, HasSort}
use Rattle.cs_certificate.specs.Certificate.{Yes, No, Clause, Stack, State, Step, At, Contains, Equates, no-terms, one-term, end, link, Pairs, Defines, Derives, input, define, pick-then, pick-else, chain, congruence}
use Rattle.cs_numbers.specs.Laws.{IsSorted}
use Rattle.cs_numbers.proofs.Tables.{Ready, ready}
use Rattle.cs_classes.specs.Elements.{Assignment}
use Rattle.cs_derivation.specs.Reached.{Reached, state_of, IsNew}
use Rattle.cs_ground.specs.Ground.{IsFormed, AreOfOneSort, IsEquated, Satisfies, AreAtoms, IsGrounded, IsGround}
use Rattle.cs_ground.specs.Steps.{bare, Begins, IsNaming, NamesAll, IsClausal, Collects, IsPickOf, IsAlias, IsOfAlias, IsWanted, an_input, of_term, a_chain, a_congruence, of_alias}
use Rattle.cs_ground.specs.declared.aliases.Alias.{Alias}
use Rattle.cs_ground.proofs.Lists.{first_are, at_within, begins_at, begins_contains}
use Rattle.cs_ground.proofs.Paired.{equated, equates_turned, one_or_two, equality_sorted, sides_sorted}
use Rattle.cs_ground.proofs.Collected.{over_terms, IsTried, is_input, is_define, is_pick, is_chain, is_congruence}
use Rattle.cs_ground.proofs.Turned.{both_ways, alias_leads, first_leads, is_behind}

-- ---- sorts
each_sorted : (ts : List Term) → Each (λ t. HasSort t BoolSort) ts → Each IsSorted ts
each_sorted [] h = tt
each_sorted (t ∷ ts) h = ((BoolSort, h.0), each_sorted ts h.1)

pub all_sorted : (stack : Stack) → IsFormed stack → Each IsSorted stack.assertions
all_sorted stack f = each_sorted stack.assertions f.sorted

not_bool : (x y : Term) → AreOfOneSort x y → ¬ (HasSort x BoolSort) → ¬ (HasSort y BoolSort)
not_bool x y (a, (m, f), (n, g)) other h =
    let is : a ≡ BoolSort = sym (sort_of_formed g) ∙ sort_of_formed h.1 in
    other (m, subst (Formed m x) is f)

-- ---- no clause yet
pub begins_clausal : (stack : Stack) (r : Reached) → IsFormed stack → IsNaming stack r → IsClausal stack r
begins_clausal stack r formed h = record { stands = h.stands; sorted = formed.sorted; atoms = subst (Each (AreAtoms r.terms)) (sym h.none) tt }

-- ---- all of it
module _ (stack : Stack) (r q o : Reached) (count : ℕ) (aliases : List Alias) (new : IsNew stack r) (named : NamesAll stack r q aliases)
    (clauses : Collects stack (IsWanted (length stack.assertions) (length q.terms) count aliases) q o) (counted : count ≡ length r.terms) where
  abbrev all : List Term
  all = numbered stack.assertions

  first : r.terms ≡ all
  first = ap (λ (s : State). s.terms) new.state

  -- the terms of the assertions come first
  begins : Begins r.terms o.terms
  begins = subst (Begins r.terms) (sym clauses.terms) (named.more).begins

  front : Begins all o.terms
  front = subst (λ ts. Begins ts o.terms) first begins

  within : (t : Term) → Contains all t → Contains o.terms t
  within t k = begins_contains all o.terms t front k

  counts : (t : Term) (k : Contains all t) → k.0 < count
  counts t k = subst (λ n. k.0 < n) (sym (counted ∙ ap length first)) (at_within all k.0 t k.1)

  place : (t : Term) (k : Contains all t) → At o.terms k.0 t
  place t k = begins_at all o.terms k.0 t front k.1

  table : Ready o.terms
  table = ready o.terms ((clauses.clausal).stands).table

  -- the clauses of steps
  by_step : {step : Step} {c : Clause} → IsWanted (length stack.assertions) (length q.terms) count aliases step → IsTried step → Derives stack (state_of o) step c → Contains (state_of o).clauses c
  by_step {step = step} {c = c} h tried d = clauses.every step c h (over_terms stack (state_of o) (bare q.terms) clauses.terms tried d)

  numbered_here : (n : ℕ) (t : Term) → At o.terms n t → n < length q.terms
  numbered_here n t at = at_within q.terms n t (subst (λ ts. At ts n t) clauses.terms at)

  rows : (t : Term) (k : ℕ) (c : Clause) → Contains o.terms t → Defines t k c → Contains (state_of o).clauses c
  rows t k c h d = by_step (of_term (h.0, numbered_here h.0 t h.1, inl (k, refl))) (is_define h.0 k) (define h.1 d)

  equalities : (x y : Term) → Contains all x → Contains all y → ¬ (x ≡ y) → AreOfOneSort x y → IsEquated (state_of o) x y
  equalities x y h k two d =
      let e = named.equalities x y (subst (λ ts. Contains ts x) (sym first) h) (subst (λ ts. Contains ts y) (sym first) k) two d in
      equated (state_of o) x y (e.0, e.1, subst (λ ts. Contains ts e.0) (sym clauses.terms) e.2)

  chains : (x y z e f g : Term) → Contains all x → Contains all y → Contains all z → Equates (state_of o) x y e → Equates (state_of o) y z f → Equates (state_of o) x z g → Contains (state_of o).clauses (No e ∷ No f ∷ Yes g ∷ [])
  chains x y z e f g i j k one two three =
      by_step (a_chain (i.0, counts x i, (j.0, counts y j, (k.0, counts z k, refl)))) (is_chain (i.0 ∷ j.0 ∷ k.0 ∷ []))
      (chain (place x i) (one-term (place y j) (one-term (place z k) no-terms)) (link one (link two (end z))) three)

  congruences : (t u e : Term) (c : Clause) → Contains all t → Contains all u → head t ≡ head u → Pairs (state_of o) (parts t) (parts u) c → Equates (state_of o) t u e → Contains (state_of o).clauses (c ++ Yes e ∷ [])
  congruences t u e c i j is d q = by_step (a_congruence (i.0, counts t i, (j.0, counts u j, refl))) (is_congruence i.0 j.0) (congruence (place t i) (place u j) is d q)

  -- ---- the two orders of an equality
  module _ (v : Assignment) (satisfied : Satisfies v (state_of o)) where
    -- where the first is an equality of a and b
    leads_on : (a b : Term) → Contains all (equal a b) → Contains all (equal b a) → ¬ (a ≡ b) → ¬ (HasSort b BoolSort) → Equates (state_of o) a b (equal a b) → v.truth (equal a b) ≡ v.truth (equal b a)
    leads_on a b h k two other w =
        let behind = is_behind r.terms (state_of o) a b begins two w (subst (λ ts. Contains ts (equal b a)) (sym first) k) other in
        let x = named.every b a behind in
        let sorts : AreOfOneSort (equal a b) (equal b a) = (
          BoolSort,
          equality_sorted a b (sides_sorted a b (table.sorts (equal a b) (within (equal a b) h))),
          equality_sorted b a (sides_sorted b a (table.sorts (equal b a) (within (equal b a) k))),
        ) in
        let both = equalities (equal a b) (equal b a) h k (λ e. two cc) sorts in
        both_ways (v.truth (equal a b)) (v.truth (equal b a))
        (first_leads stack (state_of o) v table satisfied rows a b both.0 two w (within (equal b a) k) both.1 (λ c d. congruences (equal a b) (equal b a) both.0 c h k refl d both.1))
        (alias_leads stack (state_of o) v table satisfied rows b a x.0 (subst (λ ts. IsAlias ts b a x.0) (sym clauses.terms) x.2) (by_alias x.0 x.1 x.2) other (equal a b) (equates_turned (state_of o) a b (equal a b) w))
      where
        by_alias : (x : Alias) → Contains aliases x → IsAlias q.terms b a x → (step : Step) (c : Clause) → IsOfAlias x step ⊎ IsPickOf x.choice step → Derives stack (state_of o) step c → Contains (state_of o).clauses c
        by_alias x h i step c (inl (inl is)) d = by_step (of_alias (x, h, inl is)) (subst IsTried (sym is) (is_chain _)) d
        by_alias x h i step c (inl (inr is)) d = by_step (of_alias (x, h, inr is)) (subst IsTried (sym is) (is_congruence _ _)) d
        by_alias x h i step c (inr (inl is)) d = by_step (of_term (x.choice, at_within q.terms x.choice _ i.choice, inr (inl is))) (subst IsTried (sym is) (is_pick _ _)) d
        by_alias x h i step c (inr (inr is)) d = by_step (of_term (x.choice, at_within q.terms x.choice _ i.choice, inr (inr is))) (subst IsTried (sym is) (is_pick _ _)) d

    one_truth : (x y : Term) → Contains all (equal x y) → Contains all (equal y x) → ¬ (HasSort x BoolSort) → v.truth (equal x y) ≡ v.truth (equal y x)
    one_truth x y h k other = elim (one_or_two x y) [
      | inl e ↦ ap v.truth (ap (λ z. equal z y) e ∙ ap (equal y) (sym e))
      | inr two ↦ (
          let sorts = sides_sorted x y (table.sorts (equal x y) (within (equal x y) h)) in
          by_first x y h k two other (not_bool x y sorts other) (equalities x y (whole.closed (equal x y) x h (0, refl)) (whole.closed (equal x y) y h (1, refl)) two sorts)
          )
    ]
      where
        whole : Ready all
        whole = subst Ready first (ready r.terms (new.stands).table)

        by_first : (x y : Term) → Contains all (equal x y) → Contains all (equal y x) → ¬ (x ≡ y) → ¬ (HasSort x BoolSort) → ¬ (HasSort y BoolSort) → IsEquated (state_of o) x y → v.truth (equal x y) ≡ v.truth (equal y x)
        by_first x y h k two one other (g, e) = elim e.equality [
          | inl is ↦ leads_on x y h k two other (subst (Equates (state_of o) x y) is e)
          | inr is ↦ sym (leads_on y x k h (λ f. two (sym f)) one (equates_turned (state_of o) x y (equal y x) (subst (Equates (state_of o) x y) is e)))
        ]

  front_is : take (length all) o.terms ≡ all
  front_is = first_are all o.terms (λ n t at. begins_at all o.terms n t front at)

  grounded : IsGrounded stack (state_of o)
  grounded = record {
    within = within;
    sorted = λ t k. table.sorts t k;
    front = front_is;
    equated = equalities;
    asserted = λ t h. by_step (an_input (h.0, at_within stack.assertions h.0 t h.1, refl)) (is_input h.0) (input h.1);
    rows = rows;
    pick_then = λ c x y e h other d. (let n = within (Ite c x y) h in by_step (of_term (n.0, numbered_here n.0 (Ite c x y) n.1, inr (inl refl))) (is_pick n.0 0) (pick-then n.1 other d));
    pick_else = λ c x y e h other d. (let n = within (Ite c x y) h in by_step (of_term (n.0, numbered_here n.0 (Ite c x y) n.1, inr (inr refl))) (is_pick n.0 1) (pick-else n.1 other d));
    chained = chains;
    congruent = congruences;
    turned = λ v x y sat h k other. one_truth v sat x y h k other;
    atoms = (clauses.clausal).atoms;
  }

  pub ground_is : IsGround stack o count
  ground_is = record {
    stands = (clauses.clausal).stands;
    number = counted ∙ ap length first;
    front = ap (λ n. take n o.terms) (counted ∙ ap length first) ∙ front_is;
    grounded = grounded;
  }
