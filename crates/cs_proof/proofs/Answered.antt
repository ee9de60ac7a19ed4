-- The verdict is the answer.
use Rattle.std.proofs.Common.{◌≡◌, ℕ, ◌<◌, ◌≤◌, ◌^◌, Bool, true, false, ◌&&◌, List, [], ◌∷◌, Option, Some, None, length, take, refl, sym, ◌∙◌, ap, subst, arith}
use Rattle.std.proofs.lemmas.Option.{same_Some}
use Rattle.vx_frac.specs.Fractions.{Fraction}
use Rattle.vx_terms.specs.Sorts.{Sort}
use Rattle.vx_terms.specs.Terms.{Term}
use Rattle.vx_terms.specs.Interpretations.{Each}
use Rattle.cs_certificate.specs.Terms.{HasSort}
use Rattle.cs_certificate.specs.Certificate.{Stack, State, Contains, NumberedLiteral, Step, Input, NewTerm, Define, Pick, Chain, Congruence, Farkas, Split, Trichotomy, Divide, Propagate, Leads, stays, names, derives, AreLive}
use Rattle.cs_certificate.specs.Certificate as certificate
use Rattle.cs_certificate.specs.Nodes.{Node}
use Rattle.cs_certificate.specs.Steps.{ComputesSteps}
use Rattle.cs_numbers.specs.Laws.{IsSorted}
use Rattle.cs_numbers.specs.Parts.{HasFewParts}
use Rattle.cs_sorts.specs.Sorting.{sort_in, is_live}
use Rattle.cs_sorts.proofs.Told.{tells_sorts, tells_live}
use Rattle.cs_certificate.specs.declared.literal.Clause.{Clause as Clause'}
use Rattle.cs_certificate.specs.Bridge.{state, IsNumbered, AreDistinct}
use Rattle.cs_farkas.specs.Sums.{Done}
use Rattle.cs_farkas.specs.Sums as sums
use Rattle.cs_proof.specs.Prepared.{Missed, clause_by}
use Rattle.cs_proof.specs.Plans.{Plans, has_sort, is_fine, named_if, planned}
use Rattle.cs_proof.specs.Answers.{Meets, IsOver}
use Rattle.cs_proof.proofs.Grown.{IsNamed, named_is}
use Rattle.cs_proof.proofs.OfKinds.{by_input, by_define, by_pick, by_chain, by_congruence, by_split, by_trichotomy, by_divide}
use Rattle.cs_proof.proofs.State.{state_of, Stands, as_long, named_stands, named_state}
use Rattle.cs_proof.proofs.Moves.{Fate, moves, misses, last_state, none_fate, clause_fate}
use Rattle.cs_proof.proofs.Sums.{sum_fate}
use Rattle.cs_proof.proofs.Hinted.{hints_fate}

-- what holds at each step of the plans that are made
pub record Scene (stack : Stack) (roots : List ℕ) (nodes : List Node) (clauses : List Clause') (p : Plans) : Type 0 where
  pub stands : Stands stack roots p
  pub small : length p.nodes < 2 ^ 32
  pub few : length stack.assertions < 2 ^ 32
  pub few_clauses : length (take (length p.clauses) clauses) < 2 ^ 32
  pub few_parts : (t : Term) → Contains p.terms t → HasFewParts t
  pub by : ComputesSteps p.nodes (state_of p) stack
  pub distinct : AreDistinct p.terms
  pub front : take (length p.nodes) nodes ≡ p.nodes
  pub wide : length p.nodes ≤ length nodes
  pub here : state p.terms (take (length p.clauses) clauses) ≡ state_of p
  pub within_terms : Each (λ c. Each (IsNumbered p.terms) c.literals.items) (take (length p.clauses) clauses)

-- ---- a `term` step
fine_parts : (stack : Stack) (t : Term) → is_fine stack.symbols t ≡ true → IsSorted t × AreLive stack t
fine_parts stack t e = go (sort_in t) refl e
  where
    go : (o : Option Sort) → sort_in t ≡ o → has_sort o && is_live stack.symbols t ≡ true → IsSorted t × AreLive stack t
    go None f e = cc
    go (Some a) f e = ((a, (tells_sorts t a).0 f), (tells_live stack t).0 e)

parts_fine : (stack : Stack) (t : Term) (a : Sort) → HasSort t a → AreLive stack t → is_fine stack.symbols t ≡ true
parts_fine stack t a h l = ap (λ o. has_sort o && is_live stack.symbols t) ((tells_sorts t a).1 h) ∙ (tells_live stack t).1 l

module _ (stack : Stack) (roots : List ℕ) (nodes : List Node) (clauses : List Clause') (p : Plans) (h : Stands stack roots p) (t : Term) where
  over : (o : sums.Over) → IsOver (state_of p) (Some (NewTerm t)) o → ⊥
  over o w = other w.0 w.1 w.2
    where
      other : (ls : List NumberedLiteral) (ms : List Fraction) → Some (NewTerm t) ≡ Some (Farkas ls ms) → ⊥
      other ls ms e = cc

  led_named : (u : State) → Leads stack (state_of p) (NewTerm t ∷ []) u → u ≡ certificate.with_term (state_of p) t
  led_named u (names g l rest) = last_state stack (certificate.with_term (state_of p) t) u rest
  led_named u (derives d rest) = absurd (elim d [ ])

  named_only : (q : Plans) → IsNamed p t q → IsSorted t → (u : State) → Meets stack (state_of p) (Some (NewTerm t)) u → u ≡ state_of q
  named_only q n sorted u (step, e, l) = led_named u (subst (λ x. Leads stack (state_of p) (x ∷ []) u) (sym (same_Some _ _ e)) l) ∙ named_state stack roots p t q h n sorted

  term_fate : (q : Plans) (b : Bool) → is_fine stack.symbols t ≡ b → named_if p b t ≡ Some q → Fate stack roots nodes clauses p (Some (NewTerm t)) q
  term_fate q true f e =
      let n = named_is p t q e in
      let parts = fine_parts stack t f in
      moves Rattle.cs_proof.specs.Prepared.Named (ap (λ x. x.duties) n.whole) (ap (λ x. Done (length x.clauses)) (sym n.whole))
      (NewTerm t, refl, subst (Leads stack (state_of p) (NewTerm t ∷ [])) (named_state stack roots p t q h n parts.0) (names (parts.0).1 parts.1 stays))
      (named_only q n parts.0)
      over (named_stands stack roots p t q h n parts.0)
  term_fate q false f e =
      subst (Fate stack roots nodes clauses p (Some (NewTerm t))) (same_Some _ _ e) (misses Missed refl refl not_met over)
    where
      unnamed : (u : State) → Leads stack (state_of p) (NewTerm t ∷ []) u → ⊥
      unnamed u (names {sort = a} s l rest) = let g : true ≡ false = sym (parts_fine stack t a s l) ∙ f in cc
      unnamed u (derives d rest) = absurd (elim d [ ])

      not_met : (u : State) → Meets stack (state_of p) (Some (NewTerm t)) u → ⊥
      not_met u (step, e, l) = unnamed u (subst (λ x. Leads stack (state_of p) (x ∷ []) u) (sym (same_Some _ _ e)) l)

-- ---- each step
module _ (stack : Stack) (roots : List ℕ) (nodes : List Node) (clauses : List Clause') (p : Plans) (h : Scene stack roots nodes clauses p) where
  small_terms : length p.terms < 2 ^ 32
  small_terms = let e = as_long stack roots p h.stands in let s = h.small in omega arith

  pub fate_of : (w : Option Step) (q : Plans) → planned stack.symbols roots p w ≡ Some q → Fate stack roots nodes clauses p w q
  fate_of None q e = subst (Fate stack roots nodes clauses p None) (same_Some _ _ e) (none_fate stack roots nodes clauses p h.stands)
  fate_of (Some (NewTerm t)) q e = term_fate stack roots nodes clauses p h.stands t q (is_fine stack.symbols t) refl e
  fate_of (Some (Farkas ls ms)) q e = subst (Fate stack roots nodes clauses p (Some (Farkas ls ms))) (same_Some _ _ e) (sum_fate stack roots nodes clauses p h.stands h.small h.front h.wide ls ms)
  fate_of (Some (Propagate ls hs)) q e = subst (Fate stack roots nodes clauses p (Some (Propagate ls hs))) (same_Some _ _ e) (hints_fate stack roots nodes clauses p h.stands h.small h.few_clauses h.here h.distinct h.within_terms ls hs)
  fate_of (Some (Input n)) q e = subst (Fate stack roots nodes clauses p (Some (Input n))) (same_Some _ _ e) (clause_fate stack roots nodes clauses p h.stands (Input n) tt (λ ls ms f. cc) (clause_by p.nodes roots (Input n)) (by_input stack (state_of p) small_terms h.few h.few_parts p.nodes roots h.by (h.stands).at_roots n))
  fate_of (Some (Define t k)) q e = subst (Fate stack roots nodes clauses p (Some (Define t k))) (same_Some _ _ e) (clause_fate stack roots nodes clauses p h.stands (Define t k) tt (λ ls ms f. cc) (clause_by p.nodes roots (Define t k)) (by_define stack (state_of p) small_terms h.few h.few_parts p.nodes roots h.by (h.stands).at_roots t k))
  fate_of (Some (Pick t k)) q e = subst (Fate stack roots nodes clauses p (Some (Pick t k))) (same_Some _ _ e) (clause_fate stack roots nodes clauses p h.stands (Pick t k) tt (λ ls ms f. cc) (clause_by p.nodes roots (Pick t k)) (by_pick stack (state_of p) small_terms h.few h.few_parts p.nodes roots h.by (h.stands).at_roots t k))
  fate_of (Some (Chain ns)) q e = subst (Fate stack roots nodes clauses p (Some (Chain ns))) (same_Some _ _ e) (clause_fate stack roots nodes clauses p h.stands (Chain ns) tt (λ ls ms f. cc) (clause_by p.nodes roots (Chain ns)) (by_chain stack (state_of p) small_terms h.few h.few_parts p.nodes roots h.by (h.stands).at_roots ns))
  fate_of (Some (Congruence m n)) q e = subst (Fate stack roots nodes clauses p (Some (Congruence m n))) (same_Some _ _ e) (clause_fate stack roots nodes clauses p h.stands (Congruence m n) tt (λ ls ms f. cc) (clause_by p.nodes roots (Congruence m n)) (by_congruence stack (state_of p) small_terms h.few h.few_parts p.nodes roots h.by (h.stands).at_roots m n))
  fate_of (Some (Split t z)) q e = subst (Fate stack roots nodes clauses p (Some (Split t z))) (same_Some _ _ e) (clause_fate stack roots nodes clauses p h.stands (Split t z) tt (λ ls ms f. cc) (clause_by p.nodes roots (Split t z)) (by_split stack (state_of p) small_terms h.few h.few_parts p.nodes roots h.by (h.stands).at_roots t z))
  fate_of (Some (Trichotomy m n)) q e = subst (Fate stack roots nodes clauses p (Some (Trichotomy m n))) (same_Some _ _ e) (clause_fate stack roots nodes clauses p h.stands (Trichotomy m n) tt (λ ls ms f. cc) (clause_by p.nodes roots (Trichotomy m n)) (by_trichotomy stack (state_of p) small_terms h.few h.few_parts p.nodes roots h.by (h.stands).at_roots m n))
  fate_of (Some (Divide m n k)) q e = subst (Fate stack roots nodes clauses p (Some (Divide m n k))) (same_Some _ _ e) (clause_fate stack roots nodes clauses p h.stands (Divide m n k) tt (λ ls ms f. cc) (clause_by p.nodes roots (Divide m n k)) (by_divide stack (state_of p) small_terms h.few h.few_parts p.nodes roots h.by (h.stands).at_roots m n k))
