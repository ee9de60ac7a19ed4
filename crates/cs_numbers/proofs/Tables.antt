-- The nodes of numbered terms represent them.
use Rattle.std.proofs.Common.{◌≡◌, ℕ, zero, suc, Bool, true, false, cond, List, [], ◌∷◌, Option, Some, None, inl, inr, refl, sym, ◌∙◌, ap, subst, arith}
use Rattle.std.specs.Prelude.{slice_get, if◌then◌else◌}
use Rattle.std.specs.Option.{option_map}
use Rattle.std.proofs.lemmas.Option.{same_Some}
use Rattle.vx_terms.specs.Terms.{Term, same, sort_of}
use Rattle.vx_terms.specs.Interpretations.{Each}
use Rattle.vx_terms.proofs.Same.{term_is}
use Rattle.vx_terms.proofs.Values.{sort_of_formed}
use Rattle.cs_certificate.specs.Terms.{head, parts, subterms, parts_of, without, distinct, HasSort}
use Rattle.cs_certificate.specs.Certificate.{At, AllAt, no-terms, one-term, Contains, Clause, NumberedLiteral, Yes, Input, Derives, input}
use Rattle.cs_certificate.specs.Nodes.{Node, StandsFor, Represents}
use Rattle.cs_certificate.specs.Steps.{◌>>=◌, plain, Names, names-none, names-yes}
use Rattle.cs_numbers.specs.Numbering.{place, places, node_of, nodes_of, added, input_clause}
use Rattle.cs_numbers.specs.Laws.{IsSorted, IsTable, of_assertions, and_of, NumbersMore, Tabulates, InputByNumber}
use Rattle.cs_numbers.proofs.Itself.{term_same, other_term}
use Rattle.cs_numbers.proofs.Added.{added_distinct, added_more}
use Rattle.cs_numbers.proofs.Numbered.{Distinct, distinct_added, kept, new, from_added, part_in, part_of, sorted_of, sorted_in}

-- ---- what tables are
pub record Ready (terms : List Term) : Type 0 where
  pub one : Distinct terms
  pub closed : (u p : Term) → Contains terms u → Contains (parts u) p → Contains terms p
  pub sorts : (u : Term) → Contains terms u → IsSorted u

none_distinct : Distinct []
none_distinct = record { one = λ j k t p q. cc }

first_ready : (ts : List Term) → Each IsSorted ts → Ready (added [] (parts_of ts))
first_ready ts h = record {
  one = distinct_added [] (parts_of ts) none_distinct;
  closed = λ u p k l. new [] (parts_of ts) p (part_of ts u p (only u k) l);
  sorts = λ u k. sorted_of ts h u (only u k);
}
  where
    only : (u : Term) → Contains (added [] (parts_of ts)) u → Contains (parts_of ts) u
    only u k = elim (from_added [] (parts_of ts) u k) [ inl x ↦ (let e = x.1 in cc) | inr x ↦ x ]

more_ready : (terms : List Term) (t : Term) → Ready terms → IsSorted t → Ready (added terms (subterms t))
more_ready terms t r h = record {
  one = distinct_added terms (subterms t) r.one;
  closed = λ u p k l. elim (from_added terms (subterms t) u k) [
    | inl x ↦ kept terms (subterms t) p (r.closed u p x l)
    | inr x ↦ new terms (subterms t) p (part_in t u p x l)
  ];
  sorts = λ u k. elim (from_added terms (subterms t) u k) [ inl x ↦ r.sorts u x | inr x ↦ sorted_in (h.1).1 u x ];
}

pub ready : (terms : List Term) → IsTable terms → Ready terms
ready _ (of_assertions ts h) = subst Ready (added_distinct (parts_of ts)) (first_ready ts h)
ready _ (and_of terms t k h) = more_ready terms t (ready terms k) h

-- ---- terms that are all different are the first occurrences
absent : (t : Term) (ts : List Term) → (Contains ts t → ⊥) → without t ts ≡ ts
absent t [] h = refl
absent t (u ∷ us) h =
    ap (λ b. cond b (without t us) (u ∷ without t us)) (other_term t u (λ e. h (0, ap Some (sym e)))) ∙ ap (λ xs. u ∷ xs) (absent t us (λ k. h (suc k.0, k.1)))

rest_distinct : (t : Term) (ts : List Term) → Distinct (t ∷ ts) → Distinct ts
rest_distinct t ts d = record { one = λ j k u p q. less (d.one (suc j) (suc k) u p q) }
  where
    less : {j k : ℕ} → suc j ≡ suc k → j ≡ k
    less e = omega arith

fixed : (ts : List Term) → Distinct ts → distinct ts ≡ ts
fixed [] d = refl
fixed (t ∷ ts) d =
    ap (λ xs. t ∷ xs) (ap (without t) (fixed ts (rest_distinct t ts d)) ∙ absent t ts (λ k. not_again k.0 (d.one 0 (suc k.0) t refl k.1)))
  where
    not_again : (k : ℕ) → 0 ≡ suc k → ⊥
    not_again k e = omega arith

pub numbers_more : NumbersMore
numbers_more s t k = added_more s.terms (subterms t) (fixed s.terms (ready s.terms k).one)

-- ---- the places of terms
pub place_at : (terms : List Term) (t : Term) (k : ℕ) → place terms t ≡ Some k → At terms k t
place_at [] t k e = cc
place_at (u ∷ us) t k e = go (same t u) refl e (place_at us t)
  where
    later : (o : Option ℕ) → ((j : ℕ) → o ≡ Some j → At us j t) → option_map suc o ≡ Some k → At (u ∷ us) k t
    later None f e = cc
    later (Some j) f e = let is : suc j ≡ k = same_Some _ _ e in subst (λ x. At (u ∷ us) x t) is (f j refl)

    go : (b : Bool) → same t u ≡ b → (if b then Some 0 else option_map suc (place us t)) ≡ Some k → ((j : ℕ) → place us t ≡ Some j → At us j t) → At (u ∷ us) k t
    go true f e h = let is : 0 ≡ k = same_Some _ _ e in subst (λ x. At (u ∷ us) x t) is (ap Some (sym (term_is t u f)))
    go false f e h = later (place us t) h e

placed : (terms : List Term) (t : Term) → Contains terms t → (k : ℕ) × (place terms t ≡ Some k)
placed [] t (n, e) = cc
placed (u ∷ us) t (zero, e) = (0, ap (λ b. if b then Some 0 else option_map suc (place us t)) (ap (same t) (same_Some _ _ e) ∙ term_same t))
placed (u ∷ us) t (suc n, e) = go (same t u) refl (placed us t (n, e))
  where
    go : (b : Bool) → same t u ≡ b → (k : ℕ) × (place us t ≡ Some k) → (k : ℕ) × ((if same t u then Some 0 else option_map suc (place us t)) ≡ Some k)
    go true f h = (0, ap (λ b. if b then Some 0 else option_map suc (place us t)) f)
    go false f h = (suc h.0, ap (λ b. if b then Some 0 else option_map suc (place us t)) f ∙ ap (option_map suc) h.1)

all_placed : (terms ts : List Term) → ((p : Term) → Contains ts p → Contains terms p) → (ns : List ℕ) × (places terms ts ≡ Some ns) × AllAt terms ns ts
all_placed terms [] h = ([], refl, no-terms)
all_placed terms (t ∷ ts) h =
    let k = placed terms t (h t (0, refl)) in
    let more = all_placed terms ts (λ p c. h p (suc c.0, c.1)) in (
      k.0 ∷ more.0,
      ap (λ o. o >>= λ n. places terms ts >>= λ ns. Some (n ∷ ns)) k.1 ∙ ap (λ o. o >>= λ ns. Some (k.0 ∷ ns)) more.1,
      one-term (place_at terms t k.0 k.1) more.2,
    )

module _ (terms : List Term) (r : Ready terms) where
  node_here : (t : Term) → Contains terms t → (n : Node) × (node_of terms t ≡ Some n) × StandsFor terms n t
  node_here t c =
      let ps = all_placed terms (parts t) (λ p k. r.closed t p c k) in
      let a = r.sorts t c in (
        record { head = head t; parts = ps.0; sort = sort_of t },
        ap (λ o. o >>= λ ns. Some record { head = head t; parts = ns; sort = sort_of t }) ps.1,
        record { same_head = refl; same_parts = ps.2; sorted = subst (HasSort t) (sym (sort_of_formed (a.1).1)) a.1 },
      )

  pub record Nodes (ts : List Term) : Type 0 where
    pub found : List Node
    pub are : nodes_of terms ts ≡ Some found
    pub each : (k : ℕ) (n : Node) → At found k n → (t : Term) × At ts k t × StandsFor terms n t
    pub every : (k : ℕ) (t : Term) → At ts k t → (n : Node) × At found k n

  nodes_here : (ts : List Term) → ((t : Term) → Contains ts t → Contains terms t) → Nodes ts
  nodes_here [] h = record { found = []; are = refl; each = λ k n e. cc; every = λ k t e. cc }
  nodes_here (t ∷ ts) h =
      let n = node_here t (h t (0, refl)) in
      let more = nodes_here ts (λ u c. h u (suc c.0, c.1)) in
      record {
        found = n.0 ∷ more.found;
        are = ap (λ o. o >>= λ x. nodes_of terms ts >>= λ xs. Some (x ∷ xs)) n.1 ∙ ap (λ o. o >>= λ xs. Some (n.0 ∷ xs)) more.are;
        each = each_of n.0 n.2 more.found more.each;
        every = every_of n.0 more.found more.every;
      }
    where
      each_of : (x : Node) → StandsFor terms x t → (xs : List Node) → ((k : ℕ) (n : Node) → At xs k n → (u : Term) × At ts k u × StandsFor terms n u) → (k : ℕ) (n : Node) → At (x ∷ xs) k n → (u : Term) × At (t ∷ ts) k u × StandsFor terms n u
      each_of x s xs f zero n e = (t, refl, subst (λ y. StandsFor terms y t) (same_Some _ _ e) s)
      each_of x s xs f (suc k) n e = f k n e

      every_of : (x : Node) (xs : List Node) → ((k : ℕ) (u : Term) → At ts k u → (n : Node) × At xs k n) → (k : ℕ) (u : Term) → At (t ∷ ts) k u → (n : Node) × At (x ∷ xs) k n
      every_of x xs f zero u e = (x, refl)
      every_of x xs f (suc k) u e = f k u e

  pub represented : (ns : List Node) × (nodes_of terms terms ≡ Some ns) × Represents ns terms
  represented = let n = nodes_here terms (λ t c. c) in (n.found, n.are, record { each = n.each; every = n.every; distinct = (r.one).one })

pub tabulates : Tabulates
tabulates terms k = represented terms (ready terms k)

-- ---- assertions by their numbers
root_at : (terms : List Term) (ns : List ℕ) (ts : List Term) → AllAt terms ns ts → (n k : ℕ) → slice_get ns n ≡ Some k → (t : Term) × At ts n t × At terms k t
root_at terms _ _ no-terms n k e = cc
root_at terms _ _ (one-term {t = t} at more) zero k e = (t, refl, subst (λ x. At terms x t) (same_Some _ _ e) at)
root_at terms _ _ (one-term at more) (suc n) k e = root_at terms _ _ more n k e

at_root : (terms : List Term) (ns : List ℕ) (ts : List Term) → AllAt terms ns ts → (n : ℕ) (t : Term) → At ts n t → (k : ℕ) × (slice_get ns n ≡ Some k) × At terms k t
at_root terms _ _ no-terms n t e = cc
at_root terms _ _ (one-term {n = k} at more) zero t e = (k, refl, subst (At terms k) (same_Some _ _ e) at)
at_root terms _ _ (one-term at more) (suc n) t e = at_root terms _ _ more n t e

pub input_by_number : InputByNumber
input_by_number nodes s stack roots all n = record { sound = sound (slice_get roots n) refl; complete = complete }
  where
    sound : (o : Option ℕ) → slice_get roots n ≡ o → (ns : List NumberedLiteral) → (o >>= λ k. Some (plain k ∷ [])) ≡ Some ns → (c : Clause) × Names s.terms ns c × Derives stack s (Input n) c
    sound None f ns e = cc
    sound (Some k) f ns e =
        let x = root_at s.terms roots stack.assertions all n k f in
        (Yes x.0 ∷ [], subst (λ l. Names s.terms l (Yes x.0 ∷ [])) (same_Some _ _ e) (names-yes x.2 names-none), input x.1)

    complete : (c : Clause) → Derives stack s (Input n) c → (ns : List NumberedLiteral) × Names s.terms ns c × (input_clause roots n ≡ Some ns)
    complete c (input {t = t} at) =
        let x = at_root s.terms roots stack.assertions all n t at in
        (plain x.0 ∷ [], names-yes x.2 names-none, ap (λ o. o >>= λ k. Some (plain k ∷ [])) x.1)
