-- A derivation with no step.
use Rattle.std.proofs.Common.{◌≡◌, ℕ, suc, Bool, true, false, List, [], ◌∷◌, Option, Some, None, refl, sym, ◌∙◌, ap, ap₂, subst, map}
use Rattle.std.specs.Prelude.{if◌then◌else◌}
use Rattle.std.specs.Option.{option_map}
use Rattle.std.proofs.lemmas.Option.{same_Some}
use Rattle.vx_terms.specs.Terms.{Term, same}
use Rattle.vx_terms.specs.Interpretations.{Each}
use Rattle.vx_terms.proofs.Same.{term_is}
use Rattle.cs_certificate.specs.Terms.{parts_of}
use Rattle.cs_certificate.specs.Certificate.{Stack, start, At, AllAt, no-terms, one-term, Leads, stays}
use Rattle.cs_certificate.specs.Steps.{◌>>=◌}
use Rattle.cs_certificate.proofs.Chains.{bind_some}
use Rattle.cs_numbers.specs.Numbering.{place, places, nodes_of, added}
use Rattle.cs_numbers.specs.Laws.{IsSorted, IsTable, of_assertions}
use Rattle.cs_numbers.proofs.Added.{added_distinct}
use Rattle.cs_certificate.specs.Bridge.{views, IsNumbered}
use Rattle.cs_derivation.specs.Reached.{Reached, state_of, IsNew}

pub place_at : (terms : List Term) (t : Term) (k : ℕ) → place terms t ≡ Some k → At terms k t
place_at [] t k e = cc
place_at (u ∷ us) t k e = go (same t u) refl e (place_at us t)
  where
    later : (o : Option ℕ) → ((j : ℕ) → o ≡ Some j → At us j t) → option_map suc o ≡ Some k → At (u ∷ us) k t
    later None f e = cc
    later (Some j) f e = let is : suc j ≡ k = same_Some _ _ e in subst (λ x. At (u ∷ us) x t) is (f j refl)

    go : (b : Bool) → same t u ≡ b → (if b then Some 0 else option_map suc (place us t)) ≡ Some k → ((j : ℕ) → place us t ≡ Some j → At us j t) → At (u ∷ us) k t
    go true f e h = let is : 0 ≡ k = same_Some _ _ e in subst (λ x. At (u ∷ us) x t) is (ap Some (sym (term_is t u f)))
    go false f e h = later (place us t) h e

places_at : (terms ts : List Term) (ns : List ℕ) → places terms ts ≡ Some ns → AllAt terms ns ts
places_at terms [] ns e = subst (λ l. AllAt terms l []) (same_Some _ _ e) no-terms
places_at terms (t ∷ ts) ns e =
    let b = bind_some (place terms t) (λ n. places terms ts >>= λ ns. Some (n ∷ ns)) ns e in
    let d = bind_some (places terms ts) (λ ns. Some (b.0 ∷ ns)) ns b.2 in
    subst (λ l. AllAt terms l (t ∷ ts)) (same_Some _ _ d.2) (one-term (place_at terms t b.0 b.1) (places_at terms ts d.0 d.1))

module _ (stack : Stack) (r : Reached) (sorted : Each IsSorted stack.assertions) (terms : r.terms ≡ added [] (parts_of stack.assertions)) (clauses : r.clauses ≡ []) (steps : r.steps ≡ []) where
  first : state_of r ≡ start stack
  first = ap₂ (λ ts cs. record { terms = ts; clauses = map (views ts) cs }) (terms ∙ added_distinct (parts_of stack.assertions)) clauses

  pub is_new : nodes_of r.terms r.terms ≡ Some r.nodes → places r.terms stack.assertions ≡ Some r.roots → IsNew stack r
  is_new nodes roots = record {
    state = first;
    steps = steps;
    stands = record {
      table = subst IsTable (sym (terms ∙ added_distinct (parts_of stack.assertions))) (of_assertions stack.assertions sorted);
      nodes = nodes;
      numbers = subst (Each (Each (IsNumbered r.terms))) (sym clauses) tt;
      at_roots = places_at r.terms stack.assertions r.roots roots;
      steps = [];
      written = steps;
      leads = subst (Leads stack (start stack) []) (sym first) stays;
      plain = tt;
    };
  }
