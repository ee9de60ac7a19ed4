-- Further clauses.
use Rattle.std.proofs.Common.{◌≡◌, ◌⊎◌, inl, inr, ℕ, ◌+◌, ◌<◌, ◌≤◌, false, List, [], ◌∷◌, length, Option, Some, None, Ok, refl, sym, ◌∙◌, ap, subst, arith}
use Rattle.std.proofs.lemmas.Bool.{cases_lt}
use Rattle.std.specs.Option.{is_some}
use Rattle.std.proofs.lemmas.Option.{same_Some}
use Rattle.vx_terms.specs.Sorts.{BoolSort}
use Rattle.vx_terms.specs.Terms.{Term, Ite}
use Rattle.vx_terms.specs.Interpretations.{Each}
use Rattle.cs_certificate.specs.Terms.{HasSort}
use Rattle.cs_certificate.specs.Certificate.{Yes, Clause, NumberedLiteral, Stack, State, Step, Input, Define, Pick, Chain, Congruence, At, AllAt, Contains, Equates, Links, end, link, Pairs, no-pairs, same, differ, Derives, input, define, pick-then, pick-else, chain, congruence}
use Rattle.cs_certificate.specs.Nodes.{Node, Represents}
use Rattle.cs_certificate.specs.Steps.{Names, Computes}
use Rattle.cs_certificate.proofs.Definitions.{define_computes}
use Rattle.cs_certificate.proofs.Picks.{pick_computes}
use Rattle.cs_certificate.proofs.Chains.{chain_computes, congruence_computes}
use Rattle.cs_certificate.proofs.Find.{one_at}
use Rattle.cs_numbers.proofs.Numbered.{in_left, in_right}
use Rattle.cs_numbers.proofs.Tables.{Ready, ready, tabulates}
use Rattle.cs_proof.specs.declared.checker.Want.{Want}
use Rattle.cs_proof.proofs.Literals.{one_clause}
use Rattle.cs_derivation.specs.Reached.{Reached, Stands, state_of, IsDerived, Adds}
use Rattle.cs_ground.specs.Ground.{AreAtoms}
use Rattle.cs_ground.specs.Steps.{bare, IsClausal, Collects, OfFirst, IsRowOf, IsOf, IsInputOf, IsChainOfOne, IsCongruenceOfOne, IsOfAlias, IsOfAliases, IsWanted, an_input, of_term, a_chain, a_congruence, of_alias}
use Rattle.cs_ground.specs.declared.aliases.Alias.{Alias}
use Rattle.cs_ground.proofs.Lists.{one_more, at_within, each_at, each_last, all_at}
use Rattle.cs_ground.proofs.GroundAtoms.{atom, test_atom, named_atom, row_atoms, chain_atoms, congruence_atoms}
use Rattle.cs_ground.proofs.Rows.{no_more_rows}

-- ---- the steps that are taken
pub data IsTried : Step → Type 0 where
  is_input : (n : ℕ) → IsTried (Input n)
  is_define : (t k : ℕ) → IsTried (Define t k)
  is_pick : (t k : ℕ) → IsTried (Pick t k)
  is_chain : (ns : List ℕ) → IsTried (Chain ns)
  is_congruence : (m n : ℕ) → IsTried (Congruence m n)

moved : (s u : State) → s.terms ≡ u.terms → {a b e : Term} → Equates s a b e → Equates u a b e
moved s u h {a = a} {b = b} {e = e} q = record {
  number = q.number;
  here = subst (λ ts. At ts q.number e) h q.here;
  equality = q.equality;
  first = λ m f lt at is. q.first m f lt (subst (λ ts. At ts m f) (sym h) at) is;
}

links_moved : (s u : State) → s.terms ≡ u.terms → {a b : Term} {ts : List Term} {c : Clause} → Links s a ts b c → Links u a ts b c
links_moved s u h (end t) = end t
links_moved s u h (link q l) = link (moved s u h q) (links_moved s u h l)

pairs_moved : (s u : State) → s.terms ≡ u.terms → {xs ys : List Term} {c : Clause} → Pairs s xs ys c → Pairs u xs ys c
pairs_moved s u h no-pairs = no-pairs
pairs_moved s u h (same k) = same (pairs_moved s u h k)
pairs_moved s u h (differ n q k) = differ n (moved s u h q) (pairs_moved s u h k)

-- they look at the terms alone
pub over_terms : (stack : Stack) (s u : State) {step : Step} {c : Clause} → s.terms ≡ u.terms → IsTried step → Derives stack s step c → Derives stack u step c
over_terms stack s u h (is_input n) (input at) = input at
over_terms stack s u h (is_define n k) (define {t = t} at d) = define (subst (λ ts. At ts n t) h at) d
over_terms stack s u h (is_pick n k) (pick-then {c = c} {x = x} {y = y} at other q) = pick-then (subst (λ ts. At ts n (Ite c x y)) h at) other (moved s u h q)
over_terms stack s u h (is_pick n k) (pick-else {c = c} {x = x} {y = y} at other q) = pick-else (subst (λ ts. At ts n (Ite c x y)) h at) other (moved s u h q)
over_terms stack s u h (is_chain ns) (chain {n = n} {ns = ms} {t = t} {ts = ts} at all l q) = chain (subst (λ xs. At xs n t) h at) (subst (λ xs. AllAt xs ms ts) h all) (links_moved s u h l) (moved s u h q)
over_terms stack s u h (is_congruence m n) (congruence {t = t} {u = v} at be is k q) = congruence (subst (λ xs. At xs m t) h at) (subst (λ xs. At xs n v) h be) is (pairs_moved s u h k) (moved s u h q)

-- and derive one clause
one_computed : (nodes : List Node) (s : State) (stack : Stack) (step : Step) (o : Option (List NumberedLiteral)) (c d : Clause) → Computes nodes s stack step o → Derives stack s step c → Derives stack s step d → c ≡ d
one_computed nodes s stack step o c d h p q =
    let x = h.complete c p in
    let y = h.complete d q in
    one_clause s.terms x.1 (subst (λ ns. Names s.terms ns d) (same_Some _ _ (sym y.2 ∙ x.2)) y.1)

one_derived : (nodes : List Node) (s : State) (stack : Stack) {step : Step} (c d : Clause) → Represents nodes s.terms → IsTried step → Derives stack s step c → Derives stack s step d → c ≡ d
one_derived nodes s stack _ _ r (is_input n) (input {t = t} p) (input {t = u} q) = ap (λ x. Yes x ∷ []) (one_at stack.assertions n t u p q)
one_derived nodes s stack c d r (is_define n k) p q = one_computed nodes s stack (Define n k) _ c d (define_computes nodes s r stack n k) p q
one_derived nodes s stack c d r (is_pick n k) p q = one_computed nodes s stack (Pick n k) _ c d (pick_computes nodes s r stack n k) p q
one_derived nodes s stack c d r (is_chain ns) p q = one_computed nodes s stack (Chain ns) _ c d (chain_computes nodes s r stack ns) p q
one_derived nodes s stack c d r (is_congruence m n) p q = one_computed nodes s stack (Congruence m n) _ c d (congruence_computes nodes s r stack m n) p q

-- of numbered Bool terms
module _ (stack : Stack) (r : Reached) (h : IsClausal stack r) where
  table : Ready r.terms
  table = ready r.terms h.stands.table

  derived_atoms : {step : Step} {c : Clause} → IsTried step → Derives stack (state_of r) step c → AreAtoms r.terms c
  derived_atoms (is_input n) (input {t = t} at) = (atom r.terms table.closed t (all_at n t h.stands.at_roots at) (each_at (λ u. HasSort u BoolSort) stack.assertions n t h.sorted at), tt)
  derived_atoms (is_define n k) (define {t = t} at d) = row_atoms r.terms table.closed ((table.sorts t (n, at)).1).1 (n, at) d
  derived_atoms (is_pick n k) (pick-then {c = c} {x = x} {y = y} at other q) = (
    test_atom r.terms table.closed c x y (table.sorts (Ite c x y) (n, at)) (n, at),
    (named_atom r.terms table.closed (state_of r) refl table.sorts q, tt),
  )
  derived_atoms (is_pick n k) (pick-else {c = c} {x = x} {y = y} at other q) = (
    test_atom r.terms table.closed c x y (table.sorts (Ite c x y) (n, at)) (n, at),
    (named_atom r.terms table.closed (state_of r) refl table.sorts q, tt),
  )
  derived_atoms (is_chain ns) (chain at all l q) = chain_atoms r.terms table.closed (state_of r) refl table.sorts l q
  derived_atoms (is_congruence m n) (congruence at be is k q) = congruence_atoms r.terms table.closed (state_of r) refl table.sorts k q

-- ---- one step
module _ (stack : Stack) (r q : Reached) (step : Step) (before : IsClausal stack r) (tried : IsTried step) where
  abbrev This : Step → Type 0
  This w = w ≡ step

  with_new : (n : ℕ) → IsDerived stack step r q n → Collects stack This r q
  with_new n d = record {
    clausal = record {
      stands = d.stands;
      sorted = before.sorted;
      atoms = subst (λ (s : State). Each (AreAtoms s.terms) s.clauses) (sym d.state) (each_last (AreAtoms r.terms) (state_of r).clauses d.clause before.atoms (derived_atoms stack r before tried d.derives));
    };
    terms = ap (λ (s : State). s.terms) d.state;
    kept = λ c k. subst (λ (s : State). Contains s.clauses c) (sym d.state) (in_left (state_of r).clauses (d.clause ∷ []) c k);
    every = every;
  }
    where
      every : (w : Step) (c : Clause) → This w → Derives stack (bare r.terms) w c → Contains (state_of q).clauses c
      every w c is e =
          let t = tabulates r.terms (before.stands).table in
          let here : Derives stack (state_of r) step c = over_terms stack (bare r.terms) (state_of r) refl tried (subst (λ v. Derives stack (bare r.terms) v c) is e) in
          let one : d.clause ≡ c = one_derived t.0 (state_of r) stack d.clause c t.2 tried d.derives here in
          subst (λ (s : State). Contains s.clauses c) (sym d.state) (in_right (state_of r).clauses (d.clause ∷ []) c (0, ap Some one))

  with_none : q ≡ r → ((c : Clause) → Derives stack (state_of r) step c → ⊥) → Collects stack This r q
  with_none is none = subst (λ p. Collects stack This r p) (sym is) record {
    clausal = before;
    terms = refl;
    kept = λ c k. k;
    every = λ w c e d. absurd (none c (over_terms stack (bare r.terms) (state_of r) refl tried (subst (λ v. Derives stack (bare r.terms) v c) e d)));
  }

  pub collects_one : (o : Option ℕ) → Adds {E = Want} stack step r q (Ok o) → Collects stack This r q
  collects_one (Some n) d = with_new n d
  collects_one None d = with_none d.0 d.1

-- ---- several
pub collects_none : (stack : Stack) (P : Step → Type 0) (r : Reached) → ((w : Step) → P w → ⊥) → IsClausal stack r → Collects stack P r r
collects_none stack P r none h = record { clausal = h; terms = refl; kept = λ c k. k; every = λ w c p. absurd (none w p) }

pub collects_fewer : (stack : Stack) (P Q : Step → Type 0) (r q : Reached) → ((w : Step) → Q w → P w) → Collects stack P r q → Collects stack Q r q
collects_fewer stack P Q r q f h = record { clausal = h.clausal; terms = h.terms; kept = h.kept; every = λ w c k. h.every w c (f w k) }

pub collects_on : (stack : Stack) (P Q : Step → Type 0) (r q p : Reached) → Collects stack P r q → Collects stack Q q p → Collects stack (λ w. P w ⊎ Q w) r p
collects_on stack P Q r q p g h = record {
  clausal = h.clausal;
  terms = h.terms ∙ g.terms;
  kept = λ c k. h.kept c (g.kept c k);
  every = λ w c k d. elim k [
    | inl x ↦ h.kept c (g.every w c x d)
    | inr x ↦ h.every w c x (subst (λ ts. Derives stack (bare ts) w c) (sym g.terms) d)
  ];
}

-- steps by number
pub first_none : (of : ℕ → Step → Type 0) (stack : Stack) (r : Reached) → IsClausal stack r → Collects stack (OfFirst of 0) r r
first_none of stack r h = collects_none stack (OfFirst of 0) r (λ w p. (let lt : p.0 < 0 = p.1 in omega arith)) h

pub first_next : (of : ℕ → Step → Type 0) (i : ℕ) (stack : Stack) (r q p : Reached) → Collects stack (OfFirst of i) r q → Collects stack (of i) q p → Collects stack (OfFirst of (i + 1)) r p
first_next of i stack r q p g h = collects_fewer stack (λ w. OfFirst of i w ⊎ of i w) (OfFirst of (i + 1)) r p (λ w k. elim (one_more k.0 i k.1) [ inl lt ↦ inl (k.0, lt, k.2) | inr e ↦ inr (subst (λ n. of n w) e k.2) ])
    (collects_on stack (OfFirst of i) (of i) r q p g h)

-- ---- the rows of a term
abbrev pub Row : ℕ → ℕ → Step → Type 0
Row t k w = w ≡ Define t k

no_row : (stack : Stack) (s : State) (n k j : ℕ) → ((c : Clause) → Derives stack s (Define n k) c → ⊥) → (c : Clause) → k ≤ j → Derives stack s (Define n j) c → ⊥
no_row stack s n k j none c le (define {t = t} at d) = no_more_rows t k (λ e f. none e (define at f)) j c le d

pub rows_end : (t i : ℕ) (stack : Stack) (r q p : Reached) → Collects stack (OfFirst (Row t) i) r q → p ≡ q → ((c : Clause) → Derives stack (state_of q) (Define t i) c → ⊥) → Collects stack (IsRowOf t) r p
rows_end t i stack r q p g is none = subst (λ x. Collects stack (IsRowOf t) r x) (sym is) record {
  clausal = g.clausal;
  terms = g.terms;
  kept = g.kept;
  every = every;
}
  where
    every : (w : Step) (c : Clause) → IsRowOf t w → Derives stack (bare r.terms) w c → Contains (state_of q).clauses c
    every w c (k, e) d = elim (cases_lt k i) [
      | inl lt ↦ g.every w c (k, lt, e) d
      | inr le ↦ (
          let here : Derives stack (state_of q) (Define t k) c = over_terms stack (bare r.terms) (state_of q) (sym g.terms) (is_define t k) (subst (λ v. Derives stack (bare r.terms) v c) e d) in
          absurd (no_row stack (state_of q) t i k none c le here)
          )
    ]

-- ---- in code
pub next_tried : (step : ℕ → Step) (i : ℕ) (stack : Stack) (r q p : Reached) (o : Option ℕ) → IsTried (step i) → Collects stack (OfFirst (λ n w. w ≡ step n) i) r q → (Stands stack q → Adds {E = Want} stack (step i) q p (Ok o)) →
    Collects stack (OfFirst (λ n w. w ≡ step n) (i + 1)) r p
next_tried step i stack r q p o tried g h = first_next (λ n w. w ≡ step n) i stack r q p g (collects_one stack q p (step i) g.clausal tried o (h (g.clausal).stands))

pub last_row : (t i : ℕ) (stack : Stack) (r q p : Reached) (o : Option ℕ) → is_some o ≡ false → Collects stack (OfFirst (Row t) i) r q → (Stands stack q → Adds {E = Want} stack (Define t i) q p (Ok o)) → Collects stack (IsRowOf t) r p
last_row t i stack r q p (Some n) e g h = cc
last_row t i stack r q p None e g h = let a = h (g.clausal).stands in rows_end t i stack r q p g a.0 a.1

-- two steps, one after the other
pub both_steps : (v w : Step) (stack : Stack) (r q p : Reached) (o u : Option ℕ) → IsTried v → IsTried w → IsClausal stack r → (Stands stack r → Adds {E = Want} stack v r q (Ok o)) → (Stands stack q → Adds {E = Want} stack w q p (Ok u)) →
    Collects stack (λ step. (step ≡ v) ⊎ (step ≡ w)) r p
both_steps v w stack r q p o u one two c g h =
    let a = collects_one stack r q v c one o (g c.stands) in
    collects_on stack (λ step. step ≡ v) (λ step. step ≡ w) r q p a (collects_one stack q p w a.clausal two u (h (a.clausal).stands))

-- the steps of one function, and of the next
pub then_collects : (P Q : Step → Type 0) (stack : Stack) (r q p : Reached) → Collects stack P r q → (IsClausal stack q → Collects stack Q q p) → Collects stack (λ step. P step ⊎ Q step) r p
then_collects P Q stack r q p g h = collects_on stack P Q r q p g (h g.clausal)

pub next_of : (of : ℕ → Step → Type 0) (i : ℕ) (stack : Stack) (r q p : Reached) → Collects stack (OfFirst of i) r q → (IsClausal stack q → Collects stack (of i) q p) → Collects stack (OfFirst of (i + 1)) r p
next_of of i stack r q p g h = first_next of i stack r q p g (h g.clausal)

pub all_of_them : (of : ℕ → Step → Type 0) (i count : ℕ) (stack : Stack) (r q : Reached) → count ≤ i → Collects stack (OfFirst of i) r q → Collects stack (OfFirst of count) r q
all_of_them of i count stack r q le g = collects_fewer stack (OfFirst of i) (OfFirst of count) r q (λ w k. (k.0, (let lt = k.1 in omega arith), k.2)) g

-- ---- the steps of aliases
abbrev pub AliasAt : List Alias → ℕ → Step → Type 0
AliasAt aliases n step = (x : Alias) × At aliases n x × IsOfAlias x step

pub next_alias : (aliases : List Alias) (i : ℕ) (x : Alias) (stack : Stack) (r q p : Reached) → At aliases i x → Collects stack (OfFirst (AliasAt aliases) i) r q → (IsClausal stack q → Collects stack (IsOfAlias x) q p) → Collects stack (OfFirst (AliasAt aliases) (i + 1)) r p
next_alias aliases i x stack r q p at g h =
    next_of (AliasAt aliases) i stack r q p g (λ s. collects_fewer stack (IsOfAlias x) (AliasAt aliases i) q p (λ w k. subst (λ y. IsOfAlias y w) (one_at aliases i k.0 x k.1 at) k.2) (h s))

pub all_aliases : (aliases : List Alias) (i : ℕ) (stack : Stack) (r q : Reached) → length aliases ≤ i → Collects stack (OfFirst (AliasAt aliases) i) r q → Collects stack (IsOfAliases aliases) r q
all_aliases aliases i stack r q le g =
    collects_fewer stack (OfFirst (AliasAt aliases) i) (IsOfAliases aliases) r q (λ w k. ((k.1).0, (let lt = at_within aliases (k.1).0 k.0 (k.1).1 in omega arith), (k.0, (k.1).1, k.2))) g

-- ---- all of them
module _ (assertions terms count : ℕ) (aliases : List Alias) where
  abbrev FourKinds : Step → Type 0
  FourKinds w = ((OfFirst IsInputOf assertions w ⊎ OfFirst IsOf terms w) ⊎ OfFirst (IsChainOfOne count) count w) ⊎ OfFirst (IsCongruenceOfOne count) count w

  either_kind : (w : Step) → IsWanted assertions terms count aliases w → FourKinds w ⊎ IsOfAliases aliases w
  either_kind w (an_input k) = inl (inl (inl (inl k)))
  either_kind w (of_term k) = inl (inl (inl (inr k)))
  either_kind w (a_chain k) = inl (inl (inr k))
  either_kind w (a_congruence k) = inl (inr k)
  either_kind w (of_alias k) = inr k

  pub collects_all : (stack : Stack) (r q p o m l : Reached) → IsClausal stack r → (IsClausal stack r → Collects stack (OfFirst IsInputOf assertions) r q) → (IsClausal stack q → Collects stack (OfFirst IsOf terms) q p) →
      (IsClausal stack p → Collects stack (OfFirst (IsChainOfOne count) count) p o) → (IsClausal stack o → Collects stack (OfFirst (IsCongruenceOfOne count) count) o m) → (IsClausal stack m → Collects stack (IsOfAliases aliases) m l) →
      Collects stack (IsWanted assertions terms count aliases) r l
  collects_all stack r q p o m l h f g i j k =
      let two = then_collects (OfFirst IsInputOf assertions) (OfFirst IsOf terms) stack r q p (f h) g in
      let three = then_collects _ (OfFirst (IsChainOfOne count) count) stack r p o two i in
      let four = then_collects _ (OfFirst (IsCongruenceOfOne count) count) stack r o m three j in
      collects_fewer stack (λ w. FourKinds w ⊎ IsOfAliases aliases w) (IsWanted assertions terms count aliases) r l either_kind
      (then_collects FourKinds (IsOfAliases aliases) stack r m l four k)
