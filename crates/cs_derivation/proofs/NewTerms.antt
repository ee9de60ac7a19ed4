-- A derivation with a `term` step more.
use Rattle.std.proofs.Common.{◌≡◌, ℕ, List, [], ◌∷◌, ◌++◌, Some, length, drop, sym, ◌∙◌, ap, ap₂, subst}
use Rattle.std.proofs.lemmas.List.{map-append}
use Rattle.std.proofs.lemmas.Option.{same_Some}
use Rattle.vx_terms.specs.Sorts.{Sort}
use Rattle.vx_terms.specs.Terms.{Term}
use Rattle.cs_certificate.specs.Terms.{HasSort, subterms}
use Rattle.cs_certificate.specs.Certificate.{Stack, State, start, Step, NewTerm, AreLive, Leads, stays, names, derives}
use Rattle.cs_certificate.specs.Certificate as certificate
use Rattle.cs_certificate.specs.Nodes.{Node}
use Rattle.cs_certificate.proofs.Chains.{bind_some}
use Rattle.cs_numbers.specs.Numbering.{place, nodes_of, nodes_after, added}
use Rattle.cs_numbers.specs.Laws.{IsSorted}
use Rattle.cs_proof.specs.Prepared.{Named}
use Rattle.cs_proof.specs.Plans.{Plans}
use Rattle.cs_proof.proofs.Grown as grown
use Rattle.cs_proof.proofs.State as checked
use Rattle.cs_writable.specs.Writable.{IsWritableTerm}
use Rattle.cs_derivation.specs.Reached.{Reached, Stands, state_of, IsNamed}
use Rattle.cs_derivation.proofs.Plain.{plain_end}
use Rattle.cs_derivation.proofs.Scenes.{plans, stood}
use Rattle.cs_derivation.proofs.Starting.{place_at}

leads_named : (stack : Stack) {s u : State} {steps : List Step} (t : Term) (sort : Sort) → HasSort t sort → AreLive stack t → Leads stack s steps u → Leads stack s (steps ++ NewTerm t ∷ []) (certificate.with_term u t)
leads_named stack t sort h l stays = names h l stays
leads_named stack t sort h l (names a b rest) = names a b (leads_named stack t sort h l rest)
leads_named stack t sort h l (derives e rest) = derives e (leads_named stack t sort h l rest)

module _ (stack : Stack) (r : Reached) (h : Stands stack r) (t : Term) (sorted : IsSorted t) (live : AreLive stack t) (writable : IsWritableTerm t) (ts : List Term) (ns : List Node) (terms : ts ≡ added r.terms (subterms t)) (nodes : nodes_after r.nodes ts (drop (length r.nodes) ts) ≡ Some ns) where
  abbrev p : Plans
  p = record { terms = ts; nodes = ns; duties = Named ∷ []; clauses = r.clauses }

  grows : grown.IsNamed (plans r) t p
  grows =
      let b = bind_some (nodes_of ts (drop (length r.nodes) ts)) (λ fresh. Some (r.nodes ++ fresh)) ns nodes in
      record {
        fresh = b.0;
        are = subst (λ l. nodes_of l (drop (length r.nodes) l) ≡ Some b.0) terms b.1;
        whole = ap₂ (λ l m. record { terms = l; nodes = m; duties = Named ∷ []; clauses = r.clauses }) terms (sym (same_Some _ _ b.2));
      }

  pub is_named : (ws : List _) (n : ℕ) → ws ≡ r.steps ++ Some (NewTerm t) ∷ [] → place ts t ≡ Some n → IsNamed stack t r record { terms = ts; nodes = ns; roots = r.roots; clauses = r.clauses; steps = ws } n
  is_named ws n steps here =
      let st = checked.named_stands stack r.roots (plans r) t p (stood stack r h) grows sorted in
      let is : certificate.with_term (state_of r) t ≡ checked.state_of p = checked.named_state stack r.roots (plans r) t p (stood stack r h) grows sorted in
      record {
        state = sym is;
        here = place_at ts t n here;
        steps = steps;
        stands = record {
          table = st.table;
          nodes = st.nodes;
          numbers = st.numbers;
          at_roots = st.at_roots;
          steps = h.steps ++ NewTerm t ∷ [];
          written = steps ∙ ap (λ l. l ++ Some (NewTerm t) ∷ []) h.written ∙ sym (map-append Some h.steps (NewTerm t ∷ []));
          leads = subst (Leads stack (start stack) (h.steps ++ NewTerm t ∷ [])) is (leads_named stack t sorted.0 sorted.1 live h.leads);
          plain = plain_end h.steps (NewTerm t) h.plain writable;
        };
      }
