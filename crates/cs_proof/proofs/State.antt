-- The state that plans stand for, and what holds of them.
use Rattle.std.proofs.Common.{◌≡◌, ℕ, ◌<◌, List, [], ◌∷◌, ◌++◌, ◌+◌, true, Some, map, length, refl, sym, ◌∙◌, ap, ap₂, subst, arith}
use Rattle.std.proofs.lemmas.List.{map-append, get_or_append_left, length-append}
use Rattle.std.proofs.lemmas.Option.{same_Some}
use Rattle.vx_terms.specs.Terms.{Term, Truth}
use Rattle.vx_terms.specs.Interpretations.{Each}
use Rattle.cs_certificate.specs.Terms.{subterms}
use Rattle.cs_certificate.specs.Certificate.{Stack, State, Clause, AllAt}
use Rattle.cs_certificate.specs.Certificate as certificate
use Rattle.cs_certificate.specs.Nodes.{Represents}
use Rattle.cs_certificate.specs.Steps.{Names}
use Rattle.cs_numbers.specs.Numbering.{nodes_of, added}
use Rattle.cs_numbers.specs.Laws.{IsSorted, IsTable, and_of}
use Rattle.cs_numbers.proofs.Tables.{tabulates, numbers_more}
use Rattle.cs_certificate.specs.declared.literal.Literal.{Literal}
use Rattle.cs_certificate.specs.Bridge.{term_at, signed, views, IsNumbered}
use Rattle.cs_proof.specs.Prepared.{Duty}
use Rattle.cs_proof.specs.Plans.{Plans, with_clause}
use Rattle.cs_proof.proofs.Literals.{named, viewed, numbered}
use Rattle.cs_proof.proofs.Grown.{Begins, all_left, added_begins, as_many, nodes_grown, IsNamed}

abbrev pub state_of : Plans → State
state_of p = record { terms = p.terms; clauses = map (views p.terms) p.clauses }

pub record Stands (stack : Stack) (roots : List ℕ) (p : Plans) : Type 0 where
  pub table : IsTable p.terms
  pub nodes : nodes_of p.terms p.terms ≡ Some p.nodes
  pub numbers : Each (Each (IsNumbered p.terms)) p.clauses
  pub at_roots : AllAt p.terms roots stack.assertions

pub represents : (stack : Stack) (roots : List ℕ) (p : Plans) → Stands stack roots p → Represents p.nodes p.terms
represents stack roots p h = let t = tabulates p.terms h.table in subst (λ ns. Represents ns p.terms) (same_Some _ _ (sym t.1 ∙ h.nodes)) t.2

pub as_long : (stack : Stack) (roots : List ℕ) (p : Plans) → Stands stack roots p → length p.nodes ≡ length p.terms
as_long stack roots p h = as_many p.terms p.terms p.nodes h.nodes

-- ---- one clause more
each_end : {A : Type 0} (P : A → Type 0) (xs : List A) (x : A) → Each P xs → P x → Each P (xs ++ x ∷ [])
each_end P [] x h k = (k, tt)
each_end P (y ∷ ys) x h k = (h.0, each_end P ys x h.1 k)

pub clause_stands : (stack : Stack) (roots : List ℕ) (p : Plans) (d : Duty) {ns : List _} {c : Clause} → Stands stack roots p → Names p.terms ns c → Stands stack roots (with_clause p (d, map named ns))
clause_stands stack roots p d h n = record {
  table = h.table;
  nodes = h.nodes;
  numbers = each_end (Each (IsNumbered p.terms)) p.clauses _ h.numbers (numbered p.terms n);
  at_roots = h.at_roots;
}

pub clause_state : (p : Plans) (d : Duty) {ns : List _} {c : Clause} → Names p.terms ns c → certificate.with_clause (state_of p) c ≡ state_of (with_clause p (d, map named ns))
clause_state p d {ns = ns} {c = c} n =
    ap (λ cs. record { terms = p.terms; clauses = cs })
    (ap (λ x. map (views p.terms) p.clauses ++ x ∷ []) (sym (viewed p.terms n)) ∙ sym (map-append (views p.terms) p.clauses (map named ns ∷ [])))

-- ---- further terms
term_left : (xs ys : List Term) (n : ℕ) → n < length xs → term_at (xs ++ ys) n ≡ term_at xs n
term_left xs ys n lt = get_or_append_left xs ys (Truth true) n lt

views_left : (xs ys : List Term) (ls : List Literal) → Each (IsNumbered xs) ls → views (xs ++ ys) ls ≡ views xs ls
views_left xs ys [] h = refl
views_left xs ys (l ∷ ls) h = ap₂ (λ t ks. signed l.positive t ∷ ks) (term_left xs ys l.number h.0) (views_left xs ys ls h.1)

clauses_left : (xs ys : List Term) (cs : List (List Literal)) → Each (Each (IsNumbered xs)) cs → map (views (xs ++ ys)) cs ≡ map (views xs) cs
clauses_left xs ys [] h = refl
clauses_left xs ys (c ∷ cs) h = ap₂ (λ x y. x ∷ y) (views_left xs ys c h.0) (clauses_left xs ys cs h.1)

longer : (xs ys : List Term) → Begins xs ys → (n : ℕ) → n < length xs → n < length ys
longer xs ys (more, e) n lt = let f : length ys ≡ length xs + length more = ap length e ∙ length-append xs more in omega arith

numbers_left : (xs ys : List Term) → Begins xs ys → (ls : List Literal) → Each (IsNumbered xs) ls → Each (IsNumbered ys) ls
numbers_left xs ys b [] h = tt
numbers_left xs ys b (l ∷ ls) h = (longer xs ys b l.number h.0, numbers_left xs ys b ls h.1)

all_numbers_left : (xs ys : List Term) → Begins xs ys → (cs : List (List Literal)) → Each (Each (IsNumbered xs)) cs → Each (Each (IsNumbered ys)) cs
all_numbers_left xs ys b [] h = tt
all_numbers_left xs ys b (c ∷ cs) h = (numbers_left xs ys b c h.0, all_numbers_left xs ys b cs h.1)

module _ (stack : Stack) (roots : List ℕ) (p : Plans) (t : Term) (q : Plans) (h : Stands stack roots p) (n : IsNamed p t q) (sorted : IsSorted t) where
  grown : Begins p.terms (added p.terms (subterms t))
  grown = added_begins p.terms (subterms t)

  pub named_stands : Stands stack roots q
  named_stands = subst (Stands stack roots) (sym n.whole) record {
    table = and_of p.terms t h.table sorted;
    nodes = nodes_grown p.terms (added p.terms (subterms t)) p.nodes n.fresh grown h.nodes n.are;
    numbers = all_numbers_left p.terms (added p.terms (subterms t)) grown p.clauses h.numbers;
    at_roots = subst (λ ts. AllAt ts roots stack.assertions) (sym grown.1) (all_left p.terms grown.0 h.at_roots);
  }

  pub named_state : certificate.with_term (state_of p) t ≡ state_of q
  named_state =
      ap₂ (λ ts cs. record { terms = ts; clauses = cs }) (sym (numbers_more (state_of p) t h.table))
      (sym (ap (λ ts. map (views ts) p.clauses) grown.1 ∙ clauses_left p.terms grown.0 p.clauses h.numbers))
      ∙ sym (ap state_of n.whole)
