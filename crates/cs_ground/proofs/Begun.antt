-- A search that begins with a derivation's clauses.
use Rattle.std.proofs.Common.{◌≡◌, ◌<◌, ℕ, suc, Bool, true, false, List, [], ◌∷◌, length, map, refl, sym, ◌∙◌, ap, ap₂, subst}
use Rattle.std.specs.List.{All}
use Rattle.std.proofs.lemmas.List.{get_or-map}
use Rattle.std.proofs.lemmas.List.Elements.{All-nil, All-cons, All-head, All-tail}
use Rattle.std.proofs.lemmas.Option.{slice_get-get_or}
use Rattle.vx_terms.specs.Sorts.{BoolSort}
use Rattle.vx_terms.specs.Terms.{Term, Truth, sort_of}
use Rattle.vx_terms.specs.Interpretations.{Each}
use Rattle.vx_terms.proofs.Values.{sort_of_formed}
use Rattle.cs_certificate.specs.Terms.{HasSort}
use Rattle.cs_certificate.specs.Certificate.{Stack}
use Rattle.cs_certificate.specs.Nodes.{Represents}
use Rattle.cs_certificate.proofs.Find.{one_at}
use Rattle.cs_tables.proofs.Made.{represents}
use Rattle.cs_certificate.specs.declared.literal.Literal.{Literal}
use Rattle.cs_certificate.specs.declared.literal.Clause.{Clause}
use Rattle.cs_certificate.specs.Bridge.{term_at, signed, view, views, IsNumbered}
use Rattle.cs_derivation.specs.Reached.{Reached}
use Rattle.cs_ground.specs.Ground.{term_of, IsGround}
use Rattle.cs_ground.specs.Ground as ground
use Rattle.cs_search.specs.declared.Value.{Value}
use Rattle.cs_search.specs.declared.search.Hints.{Hints}
use Rattle.cs_search.specs.declared.search.Search.{Search}
use Rattle.cs_search.specs.Extended.{AreKnown}
use Rattle.cs_search.specs.Search.{IsReady, Learns, AreSatisfied}
use Rattle.cs_ground.specs.Assigned.{AreSolving}
use Rattle.cs_ground.specs.Atoms.{IsBool, AreBool, AreAtoms, all_named, literals, terms_of}
use Rattle.cs_ground.specs.Replayed.{Follows}
use Rattle.cs_ground.proofs.Learned.{first_at}

module _ (stack : Stack) (r : Reached) (count : ℕ) (g : IsGround stack r count) where
  rep : Represents r.nodes r.terms
  rep = represents r.terms r.nodes g.stands.table g.stands.nodes

  -- ---- the clauses are of Bool terms
  term_viewed : (l : Literal) → term_of (view r.terms l) ≡ term_at r.terms l.number
  term_viewed l = go l.positive (term_at r.terms l.number)
    where
      go : (b : Bool) (t : Term) → term_of (signed b t) ≡ t
      go true t = refl
      go false t = refl

  literal_bool : (l : Literal) → IsNumbered r.terms l → HasSort (term_of (view r.terms l)) BoolSort → IsBool r.nodes l.number
  literal_bool l lt h =
      let at = slice_get-get_or r.terms l.number (Truth true) lt in
      let x = rep.every l.number (term_at r.terms l.number) at in
      let w = rep.each l.number x.0 x.1 in
      let is : w.0 ≡ term_at r.terms l.number = one_at r.terms l.number w.0 (term_at r.terms l.number) w.1 at in
      let sort : sort_of (term_at r.terms l.number) ≡ BoolSort = ap sort_of (sym (term_viewed l)) ∙ sort_of_formed h.1 in
      (x.0, x.1, sym (sort_of_formed (w.2).sorted.1) ∙ ap sort_of is ∙ sort)

  clause_bool : (ls : List Literal) → Each (IsNumbered r.terms) ls → ground.AreAtoms r.terms (views r.terms ls) → AreBool r.nodes ls
  clause_bool [] n h = All-nil (λ l. IsBool r.nodes l.number)
  clause_bool (l ∷ ls) n h = All-cons (λ l. IsBool r.nodes l.number) l ls (literal_bool l n.0 h.0.1) (clause_bool ls n.1 h.1)

  clauses_bool : (cs : List (List Literal)) → Each (Each (IsNumbered r.terms)) cs → Each (ground.AreAtoms r.terms) (map (views r.terms) cs) → All (AreBool r.nodes) cs
  clauses_bool [] n h = All-nil (AreBool r.nodes)
  clauses_bool (c ∷ cs) n h = All-cons (AreBool r.nodes) c cs (clause_bool c n.0 h.0) (clauses_bool cs n.1 h.1)

  pub are_bool : All (AreBool r.nodes) r.clauses
  are_bool = clauses_bool r.clauses g.stands.numbers g.grounded.atoms

  -- ---- the search's clauses are those of the derivation
  module _ (atoms places : List ℕ) (are : AreAtoms r.nodes atoms places) where
    all_viewed : (ls : List Literal) → All (λ l. l.number < length atoms) ls → views r.terms (all_named atoms ls) ≡ views (terms_of r.terms atoms) ls
    all_viewed [] h = refl
    all_viewed (l ∷ ls) h =
        ap₂ (λ x xs. x ∷ xs) (ap (signed l.positive) (sym (get_or-map (term_at r.terms) atoms l.number 0 (Truth true) (All-head (λ l. l.number < length atoms) l ls h))))
        (all_viewed ls (All-tail (λ l. l.number < length atoms) l ls h))

    clauses_viewed : (cs : List Clause) → AreKnown cs (length atoms) → map (views r.terms) (map (all_named atoms) (literals cs)) ≡ map (views (terms_of r.terms atoms)) (literals cs)
    clauses_viewed [] k = refl
    clauses_viewed (c ∷ cs) k = ap₂ (λ x xs. x ∷ xs) (all_viewed c.literals.items (k 0 c refl)) (clauses_viewed cs (λ i d at. k (suc i) d at))

    module _ (s : Search) (ready : IsReady s) (wide : length s.made.values.items ≡ length atoms) where
      -- each literal is of an atom
      known : AreKnown s.clauses.items (length atoms)
      known = subst (AreKnown s.clauses.items) wide ready.sound.known

      pub follows : map (all_named atoms) (literals s.clauses.items) ≡ r.clauses → Follows stack atoms (literals s.clauses.items) r
      follows same = record {
        stands = g.stands;
        bools = λ a n at. (let b = (are.named a n at).0 in let w = rep.each n b.0 b.1 in (w.0, w.1, subst (HasSort w.0) b.2 (w.2).sorted));
        distinct = λ a b n x y. one_at places n a b (are.named a n x).1 (are.named b n y).1;
        same = ap (map (views r.terms)) (sym same) ∙ clauses_viewed s.clauses.items known;
      }

      -- where the search ends with an assignment, it satisfies them
      pub solves : (steps : List Hints) (clauses : List Clause) (values : List Value) → Learns s.clauses.items s.steps.items clauses steps → AreSatisfied clauses values → AreSolving atoms s.clauses.items values
      solves steps clauses values l sat = record { known = known; satisfied = λ i c at. sat i c (first_at s.clauses.items s.steps.items clauses steps l i c at) }

-- a search that begins with no steps
pub from_none : (s : Search) (clauses : List Clause) (steps : List Hints) → s.steps.items ≡ [] → Learns s.clauses.items s.steps.items clauses steps → Learns s.clauses.items [] clauses steps
from_none s clauses steps none l = subst (λ (hs : List Hints). Learns s.clauses.items hs clauses steps) none l
