-- Resolution steps, and the hints that they make.
use Rattle.std.proofs.Common.{◌≡◌, ℕ, ◌+◌, ◌⊎◌, inl, inr, Bool, true, false, List, [], ◌∷◌, ◌++◌, map, Some, refl, sym, ◌∙◌, subst, ap, ap₂, arith}
use Rattle.std.specs.List.{slice_get, All, Contains}
use Rattle.std.proofs.lemmas.List.Elements.{All-weaker, Contains-push, Contains-push_cases, Contains-append_left}
use Rattle.cs_certificate.specs.declared.literal.Literal.{Literal}
use Rattle.cs_search.specs.declared.Value.{Value}
use Rattle.cs_search.specs.declared.Entry.{Entry}
use Rattle.cs_certificate.specs.declared.literal.Clause.{Clause}
use Rattle.cs_search.specs.Assignment.{negated, FalseBefore, IsTrail}
use Rattle.cs_search.specs.Propagation.{Denied, Refutes, ends, forces, IsDerived}
use Rattle.cs_search.proofs.Statuses.{same_atom, true_negated, negated_twice}
use Rattle.cs_search.proofs.Added.{contains_map, map_contains, contains_split, contains_nothing, contains_here, contains_there, all_from}

same_sign : (a b : Bool) → (a ≡ b) ⊎ ¬ (a ≡ b)
same_sign true true = inl refl
same_sign true false = inr (λ e. cc)
same_sign false true = inr (λ e. cc)
same_sign false false = inl refl

pub same_literal : (l m : Literal) → (l ≡ m) ⊎ ¬ (l ≡ m)
same_literal l m = elim (same_atom l.number m.number) [
  | inl a ↦ elim (same_sign l.positive m.positive) [
    | inl s ↦ inl (let mk : Bool → ℕ → Literal = λ b n. record { positive = b; number = n } in ap₂ mk s a)
    | inr ns ↦ inr (λ e. ns (ap (λ x. x.positive) e))
  ]
  | inr na ↦ inr (λ e. na (ap (λ x. x.number) e))
]

pub contained_or_not : (xs : List Literal) (l : Literal) → Contains xs l ⊎ ¬ (Contains xs l)
contained_or_not [] l = inr (contains_nothing l)
contained_or_not (x ∷ xs) l = elim (same_literal x l) [
  | inl e ↦ inl (let P : Literal → Type 0 = λ y. Contains (x ∷ xs) y in subst P e (contains_here x xs))
  | inr ne ↦ elim (contained_or_not xs l) [
    | inl t ↦ inl (contains_there x xs l t)
    | inr nt ↦ inr (λ h. elim (contains_split x xs l h) [ inl e ↦ ne e | inr t ↦ nt t ])
  ]
]

-- more assumed, the same hints
pub refutes_more : (clauses : List Clause) (hs : List ℕ) (a b : List Literal) → ((m : Literal) → Contains a m → Contains b m) → Refutes clauses a hs → Refutes clauses b hs
refutes_more clauses hs a b sub (ends c at all) = ends c at (All-weaker (Denied a) (Denied b) (λ m d. sub (negated m) d) c.literals.items all)
refutes_more clauses hs a b sub (forces c l at in' open' only rest) = elim (contained_or_not b (negated l)) [
  | inl d ↦ ends c at (All-weaker (λ m. (m ≡ l) ⊎ Denied a m) (Denied b)
      (λ m x. elim x [ inl e ↦ (let P : Literal → Type 0 = λ y. Denied b y in subst P (sym e) d) | inr y ↦ sub (negated m) y ]) c.literals.items only)
  | inr nd ↦ forces c l at in' nd
      (All-weaker (λ m. (m ≡ l) ⊎ Denied a m) (λ m. (m ≡ l) ⊎ Denied b m) (λ m x. elim x [ inl e ↦ inl e | inr y ↦ inr (sub (negated m) y) ]) c.literals.items only)
      (refutes_more clauses _ (a ++ l ∷ []) (b ++ l ∷ [])
      (λ m h. elim (Contains-push_cases a l m h) [
        | inl t ↦ Contains-append_left b (l ∷ []) m (sub m t)
        | inr e ↦ (let P : Literal → Type 0 = λ y. Contains (b ++ l ∷ []) y in subst P e (Contains-push b l))
      ]) rest)
]

-- the clause at a conflict derives itself
pub conflict_derived : (clauses : List Clause) (i : ℕ) (c : Clause) → slice_get clauses i ≡ Some c → IsDerived clauses c.literals.items (i ∷ [])
conflict_derived clauses i c at = ends c at (all_from (Denied (map negated c.literals.items)) c.literals.items (λ m h. contains_map negated c.literals.items m h))

-- the resolvent with the clause r on its literal l
pub resolvent_derived : (clauses : List Clause) (rest both : List Literal) (hs : List ℕ) (r : ℕ) (c : Clause) (l : Literal) →
    slice_get clauses r ≡ Some c → Contains c.literals.items l →
    ((m : Literal) → Contains c.literals.items m → ¬ (m ≡ l) → Contains both m) →
    ((m : Literal) → Contains rest m → ¬ (m ≡ negated l) → Contains both m) →
    IsDerived clauses rest hs → IsDerived clauses both (r ∷ hs)
resolvent_derived clauses rest both hs r c l at in' others kept d =
    let assumed = map negated both in
    let denied : (m : Literal) → Contains both m → Denied assumed m = λ m h. contains_map negated both m h in
    let only : All (λ m. (m ≡ l) ⊎ Denied assumed m) c.literals.items = all_from (λ m. (m ≡ l) ⊎ Denied assumed m) c.literals.items
    (λ m h. elim (same_literal m l) [ inl e ↦ inl e | inr ne ↦ inr (denied m (others m h ne)) ]) in
    elim (contained_or_not assumed (negated l)) [
      | inl dl ↦ ends c at (All-weaker (λ m. (m ≡ l) ⊎ Denied assumed m) (Denied assumed)
          (λ m x. elim x [ inl e ↦ (let P : Literal → Type 0 = λ y. Denied assumed y in subst P (sym e) dl) | inr y ↦ y ]) c.literals.items only)
      | inr nd ↦ forces c l at in' nd only (refutes_more clauses hs (map negated rest) (assumed ++ l ∷ [])
          (λ m h.
          let w = map_contains negated rest m h in
          elim (same_literal w.0 (negated l)) [
            | inl e ↦
                let is : l ≡ m = sym (negated_twice l) ∙ ap negated (sym e) ∙ w.2 in
                let P : Literal → Type 0 = λ y. Contains (assumed ++ l ∷ []) y in subst P is (Contains-push assumed l)
            | inr ne ↦
                let P : Literal → Type 0 = λ y. Contains (assumed ++ l ∷ []) y in
                subst P w.2 (Contains-append_left assumed (l ∷ []) (negated w.0) (denied w.0 (kept w.0 w.1 ne)))
          ]) d)
    ]

-- what is false before k + 1 is denied by the entry at k, or false before k
pub false_lower : (clauses : List Clause) (values : List Value) (trail : List Entry) (k : ℕ) (e : Entry) (m : Literal) → IsTrail clauses values trail → slice_get trail k ≡ Some e →
    FalseBefore values (k + 1) m → (m ≡ negated e.literal) ⊎ FalseBefore values k m
false_lower clauses values trail k e m t at (p, lt, is) = elim (same_atom p k) [
  | inl s ↦
      let w = t.placed (negated m) p (true_negated values m p is) in
      let same : w.0 ≡ e = let x = sym w.1 ∙ ap (slice_get trail) s ∙ at in cc in
      inl (sym (negated_twice m) ∙ ap negated (sym w.2 ∙ ap (λ x. x.literal) same))
  | inr ns ↦ inr (p, (let n : ¬ (p ≡ k) = ns in omega arith), is)
]
