-- A step that is taken meets its rule, and one that isn't derives no clause.
use Rattle.std.proofs.Common.{◌≡◌, ◌<◌, ◌^◌, ℕ, suc, Bool, true, false, List, [], ◌∷◌, ◌++◌, Option, Some, None, map, length, refl, sym, ◌∙◌, ap, subst}
use Rattle.std.specs.Prelude.{Ok, Err, if◌then◌else◌}
use Rattle.std.specs.declared.result.Result.{Result}
use Rattle.std.proofs.lemmas.List.{map-append, length-map}
use Rattle.std.proofs.lemmas.Option.{same_Some}
use Rattle.vx_smt_meaning.specs.Commands.{Declared}
use Rattle.vx_terms.specs.Views.{term}
use Rattle.cs_certificate.specs.Certificate.{Stack, State, start, Clause, NumberedLiteral, Step, NewTerm, Farkas, Propagate, Derives, Leads, stays, names, derives}
use Rattle.cs_certificate.specs.Certificate as certificate
use Rattle.cs_certificate.specs.Nodes.{Node}
use Rattle.cs_certificate.specs.Steps.{◌>>=◌}
use Rattle.cs_certificate.proofs.Chains.{bind_some}
use Rattle.cs_certificate.specs.declared.literal.Literal.{Literal}
use Rattle.cs_certificate.specs.declared.literal.Clause.{Clause as Clause'}
use Rattle.cs_certificate.specs.Hints.{refutes}
use Rattle.cs_farkas.specs.Sums.{Done, Misses}
use Rattle.cs_farkas.specs.Sums as sums
use Rattle.cs_proof.specs.Prepared.{Duty, Named, Derived, Missed, Sum, Hints, prepared, narrow_literals, within, turned, with_literals, if_all_bool, saturate, clause_by, derived, propagation}
use Rattle.cs_proof.specs.Plans.{Plans, kept, with_clause, planned}
use Rattle.cs_proof.specs.Checking.{met}
use Rattle.cs_proof.specs.Answers.{IsOver}
use Rattle.cs_proof.proofs.Moves.{Fate, moves, misses, leaves, IsDeriving, led_to}
use Rattle.cs_proof.proofs.Answered.{fate_of}
use Rattle.cs_proof.proofs.State as checked
use Rattle.cs_derivation.specs.Reached.{Reached, Stands, state_of, IsDerived, Adds}
use Rattle.cs_derivation.specs.Taken.{IsTaken, shows, with_step, taken_by, taken, Takes}
use Rattle.cs_derivation.specs.View.{reached}
use Rattle.cs_derivation.specs.declared.derivation.Derivation.{Derivation}
use Rattle.cs_derivation.proofs.Plain.{taken_plain, plain_end}
use Rattle.cs_derivation.proofs.Scenes.{Keeps, plans, scene, taken_whole, few_at}

only_is : {A : Type 0} {x y : A} → [] ++ x ∷ [] ≡ [] ++ y ∷ [] → x ≡ y
only_is e = cc

leads_end : (stack : Stack) {s u : State} {steps : List Step} (step : Step) (c : Clause) → Leads stack s steps u → Derives stack u step c → Leads stack s (steps ++ step ∷ []) (certificate.with_clause u c)
leads_end stack step c stays d = derives d stays
leads_end stack step c (names a b rest) d = names a b (leads_end stack step c rest d)
leads_end stack step c (derives e rest) d = derives e (leads_end stack step c rest d)

has_clause : (step : Step) → IsTaken step → IsDeriving step
has_clause (NewTerm t) h = h
has_clause step h = tt

planned_is : (symbols : List Declared) (roots : List ℕ) (r : Reached) (step : Step) → IsTaken step → planned symbols roots (plans r) (Some step) ≡ Some (kept (plans r) (prepared r.nodes roots step))
planned_is symbols roots r (NewTerm t) h = absurd h
planned_is symbols roots r step h = refl

-- ---- what is prepared for a step that is taken
abbrev IsShown : Duty → Type 0
IsShown Derived = Unit {0}
IsShown (Hints assumed hs) = Unit {0}
IsShown d = ⊥

derived_shown : (nodes : List Node) (o : Option (List NumberedLiteral)) (x : Duty × List Literal) → derived nodes o ≡ Some x → IsShown x.0
derived_shown nodes o x e =
    let b = bind_some o (λ ns. with_literals Derived (within (length nodes) ns)) x e in
    let c = bind_some (within (length nodes) b.0) (λ ls. Some (Derived, ls)) x b.2 in
    subst (λ y. IsShown y.0) (same_Some _ _ c.2) tt

if_some : (b : Bool) {A : Type 0} (o : Option A) (x : A) → (if b then o else None) ≡ Some x → o ≡ Some x
if_some true o x e = e
if_some false o x e = cc

hints_shown : (nodes : List Node) (ls : List NumberedLiteral) (hs : List ℕ) (x : Duty × List Literal) → propagation nodes ls hs ≡ Some x → IsShown x.0
hints_shown nodes ls hs x e =
    let b = bind_some (narrow_literals ls) (λ ns. if_all_bool nodes ns (within (length nodes) (map turned ns) >>= λ assumed. with_literals (Hints assumed (map saturate hs)) (within (length nodes) ns))) x e in
    let c = bind_some (within (length nodes) (map turned b.0)) (λ assumed. with_literals (Hints assumed (map saturate hs)) (within (length nodes) b.0)) x (if_some _ _ x b.2) in
    let d = bind_some (within (length nodes) b.0) (λ ls. Some (Hints c.0 (map saturate hs), ls)) x c.2 in
    subst (λ y. IsShown y.0) (same_Some (Hints c.0 (map saturate hs), d.0) _ d.2) tt

prepared_shown : (nodes : List Node) (roots : List ℕ) (step : Step) → IsTaken step → (x : Duty × List Literal) → prepared nodes roots step ≡ Some x → IsShown x.0
prepared_shown nodes roots (NewTerm t) h x e = absurd h
prepared_shown nodes roots (Farkas ls ms) h x e = absurd h
prepared_shown nodes roots (Propagate ls hs) h x e = hints_shown nodes ls hs x e
prepared_shown nodes roots step h x e = derived_shown nodes (clause_by nodes roots step) x e

-- ---- what the checker does
module _ (stack : Stack) (clauses : List Clause') (r : Reached) (k : Keeps clauses r) (h : Stands stack r) where
  met_shown : (d : Duty) → shows clauses d ≡ true → met r.nodes clauses (length r.clauses) d ≡ Done (suc (length r.clauses))
  met_shown Derived e = refl
  met_shown (Hints assumed hs) e = ap (λ b. if b then Done (suc (length r.clauses)) else Misses) (ap (λ cs. refutes cs assumed hs) (taken_whole clauses r k) ∙ e)
  met_shown Named e = cc
  met_shown Missed e = cc
  met_shown (Sum n c) e = cc

  met_not : (d : Duty) → IsShown d → shows clauses d ≡ false → met r.nodes clauses (length r.clauses) d ≡ Misses
  met_not Derived g e = cc
  met_not (Hints assumed hs) g e = ap (λ b. if b then Done (suc (length r.clauses)) else Misses) (ap (λ cs. refutes cs assumed hs) (taken_whole clauses r k) ∙ e)
  met_not Named g e = absurd g
  met_not Missed g e = absurd g
  met_not (Sum n c) g e = absurd g

  module _ (step : Step) (t : IsTaken step) where
    fate : Fate stack r.roots r.nodes clauses (plans r) (Some step) (kept (plans r) (prepared r.nodes r.roots step))
    fate = fate_of stack r.roots r.nodes clauses (plans r) (scene stack clauses r k h) (Some step) (kept (plans r) (prepared r.nodes r.roots step)) (planned_is stack.symbols r.roots r step t)

    none_over : (o : sums.Over) → IsOver (state_of r) (Some step) o → ⊥
    none_over o w = let f : step ≡ Farkas w.0 w.1 = same_Some _ _ w.2 in subst IsTaken f t

    -- a duty that isn't met
    refused : (q : Plans) (d : Duty) → q.duties ≡ [] ++ d ∷ [] → met r.nodes clauses (length r.clauses) d ≡ Misses → Fate stack r.roots r.nodes clauses (plans r) (Some step) q → (c : Clause) → Derives stack (state_of r) step c → ⊥
    refused q d e m (moves d' e' m' meets only over stands) c by =
        let same : d' ≡ d = only_is (sym e' ∙ e) in
        let f : Misses ≡ Done (length q.clauses) = sym m ∙ ap (met r.nodes clauses (length r.clauses)) (sym same) ∙ m' in cc
    refused q d e m (misses d' e' m' never over) c by = never (certificate.with_clause (state_of r) c) (step, refl, derives by stays)
    refused q d e m (leaves d' e' o m' over) c by = none_over o over

    none_derived : (o : Option (Duty × List Literal)) → prepared r.nodes r.roots step ≡ o → taken_by clauses r (Some step) o ≡ None → Fate stack r.roots r.nodes clauses (plans r) (Some step) (kept (plans r) o) → (c : Clause) → Derives stack (state_of r) step c → ⊥
    none_derived None f e g = refused (kept (plans r) None) Missed refl refl g
    none_derived (Some x) f e g = go (shows clauses x.0) refl e
      where
        go : (b : Bool) → shows clauses x.0 ≡ b → (if b then Some (with_step r (Some step) x.1) else None) ≡ None → (c : Clause) → Derives stack (state_of r) step c → ⊥
        go true s e = cc
        go false s e = refused (with_clause (plans r) x) x.0 refl (met_not x.0 (prepared_shown r.nodes r.roots step t x f) s) g

    -- a duty that is met
    module _ (x : Duty × List Literal) (n : ℕ) (last : n ≡ length r.clauses) (shown : shows clauses x.0 ≡ true) where
      by_clause : checked.Stands stack r.roots (with_clause (plans r) x) → (c : Clause) → Derives stack (state_of r) step c → checked.state_of (with_clause (plans r) x) ≡ certificate.with_clause (state_of r) c → IsDerived stack step r (with_step r (Some step) x.1) n
      by_clause st c by is = record {
        clause = c;
        derives = by;
        state = is;
        last = last;
        steps = refl;
        stands = record {
          table = st.table;
          nodes = st.nodes;
          numbers = st.numbers;
          at_roots = st.at_roots;
          steps = h.steps ++ step ∷ [];
          written = ap (λ l. l ++ Some step ∷ []) h.written ∙ sym (map-append Some h.steps (step ∷ []));
          leads = subst (Leads stack (start stack) (h.steps ++ step ∷ [])) (sym is) (leads_end stack step c h.leads by);
          plain = plain_end h.steps step h.plain (taken_plain step t);
        };
      }

      accepted : Fate stack r.roots r.nodes clauses (plans r) (Some step) (with_clause (plans r) x) → IsDerived stack step r (with_step r (Some step) x.1) n
      accepted (moves d e m meets only over stands) =
          let l = led_to stack (state_of r) (checked.state_of (with_clause (plans r) x)) step (has_clause step t) (subst (λ y. Leads stack (state_of r) (y ∷ []) (checked.state_of (with_clause (plans r) x))) (sym (same_Some _ _ meets.1)) meets.2) in
          by_clause stands l.0 l.1 l.2
      accepted (misses d e m never over) =
          let same : d ≡ x.0 = only_is (sym e) in
          let f : Misses ≡ Done (suc (length r.clauses)) = sym m ∙ ap (met r.nodes clauses (length r.clauses)) same ∙ met_shown x.0 shown in cc
      accepted (leaves d e o m over) = absurd (none_over o over)

    one_derived : (q : Reached) (n : ℕ) → n ≡ length r.clauses → (o : Option (Duty × List Literal)) → taken_by clauses r (Some step) o ≡ Some q → Fate stack r.roots r.nodes clauses (plans r) (Some step) (kept (plans r) o) → IsDerived stack step r q n
    one_derived q n last None e g = cc
    one_derived q n last (Some x) e g = go (shows clauses x.0) refl e
      where
        go : (b : Bool) → shows clauses x.0 ≡ b → (if b then Some (with_step r (Some step) x.1) else None) ≡ Some q → IsDerived stack step r q n
        go true s e = subst (λ y. IsDerived stack step r y n) (same_Some _ _ e) (accepted x n last s g)
        go false s e = cc

    pub added : {E : Type 0} (q : Reached) (result : Result (Option ℕ) E) → Takes (taken clauses r (Some step)) r q result → Adds stack step r q result
    added q (Ok (Some n)) (e, last) = one_derived q n last (prepared r.nodes r.roots step) e fate
    added q (Ok None) (e, same) = (same, none_derived (prepared r.nodes r.roots step) refl e fate)
    added q (Err e) same = same

-- of a derivation
pub derivation_keeps : (d : Derivation) → Keeps d.clauses.items (reached d)
derivation_keeps d = record {
  same = refl;
  small = subst (λ n. n < 2 ^ 32) (sym (length-map d.nodes.nodes.items _)) d.nodes.small;
  few_roots = d.few_roots;
  few_clauses = d.few_clauses;
  few_parts = λ t. few_at (λ x. term x.value) d.terms.terms.items t d.terms.few_parts;
}

pub adds : {E : Type 0} (d : Derivation) (w : Option Step) (q : Reached) (result : Result (Option ℕ) E) → Takes (taken d.clauses.items (reached d) w) (reached d) q result → (stack : Stack) (step : Step) → w ≡ Some step → IsTaken step → Stands stack (reached d) → Adds stack step (reached d) q result
adds d w q result e stack step is t h = added stack d.clauses.items (reached d) (derivation_keeps d) h step t q result (subst (λ w. Takes (taken d.clauses.items (reached d) w) (reached d) q result) is e)
