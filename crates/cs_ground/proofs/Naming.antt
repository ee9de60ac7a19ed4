-- Further terms.
use Rattle.std.proofs.Common.{◌≡◌, ◌⊎◌, inl, inr, ℕ, zero, suc, ◌+◌, ◌<◌, ◌≤◌, true, false, List, [], ◌∷◌, map, length, drop, sym, ◌∙◌, ap, subst, arith}
use Rattle.std.specs.Prelude.{slice_get}
use Rattle.std.proofs.lemmas.List.{length-map}
use Rattle.std.proofs.lemmas.Bool.{cases_lt}
use Rattle.std.proofs.lemmas.Option.{same_Some}
use Rattle.vx_terms.specs.Sorts.{BoolSort}
use Rattle.vx_terms.specs.Terms.{Term}
use Rattle.cs_certificate.specs.Terms.{equal, subterms, parts_of}
use Rattle.cs_certificate.specs.Certificate.{Stack, State, At, Contains, AreLive}
use Rattle.cs_numbers.specs.Laws.{IsSorted}
use Rattle.cs_numbers.specs.Numbering.{added}
use Rattle.cs_numbers.proofs.Numbered.{from_added}
use Rattle.cs_numbers.proofs.Tables.{ready, numbers_more}
use Rattle.cs_proof.proofs.Grown.{added_begins, begins_itself, begins_on}
use Rattle.cs_writable.specs.Writable.{IsWritableTerm}
use Rattle.cs_derivation.specs.Reached.{Reached, Stands, state_of, IsNamed, IsNew}
use Rattle.cs_ground.specs.Ground.{IsFormed, AreOfOneSort}
use Rattle.cs_ground.specs.Steps.{have_one_sort, HasEquality, IsNaming, NamesMore, NamesWith, NamesPairs, AllIn}
use Rattle.cs_ground.proofs.Lists.{one_more, at_within, mapped_at, begins_contains}
use Rattle.cs_ground.proofs.Parts.{in_subterms, in_parts, live_part, writable_part, numbered_part}
use Rattle.cs_ground.proofs.Paired.{same_told, one_sort, sorts_turned, equality_sorted, turned}

in_order : (m n : ℕ) → (m < n) ⊎ ((m ≡ n) ⊎ (n < m))
in_order m n = elim (cases_lt m n) [ inl h ↦ inl h | inr h ↦ inr (elim (cases_lt n m) [ inl k ↦ inr k | inr k ↦ inl (omega arith) ]) ]

-- ---- the first terms
pub begins_naming : (stack : Stack) (r : Reached) → IsFormed stack → IsNew stack r → IsNaming stack r
begins_naming stack r f new = record {
  stands = new.stands;
  none = ap (λ (s : State). s.clauses) new.state;
  live = λ t h. in_parts (AreLive stack) (live_part stack) stack.assertions t f.live (within t h);
  writable = λ t h. in_parts IsWritableTerm writable_part stack.assertions t f.writable (within t h);
}
  where
    within : (t : Term) → Contains r.terms t → Contains (parts_of stack.assertions) t
    within t h = numbered_part stack.assertions t (subst (λ ts. Contains ts t) (ap (λ (s : State). s.terms) new.state) h)

-- ---- one term more
pub record NamesOne (stack : Stack) (before after : Reached) (t : Term) : Type 0 where
  pub more : NamesMore stack before after
  pub here : Contains after.terms t
  pub either : (u : Term) → Contains after.terms u → Contains before.terms u ⊎ Contains (subterms t) u

module _ (stack : Stack) (r q : Reached) (t : Term) (n : ℕ) (before : IsNaming stack r) (live : AreLive stack t) (writable : IsWritableTerm t) (named : IsNamed stack t r q n) where
  are : q.terms ≡ added r.terms (subterms t)
  are = ap (λ (s : State). s.terms) named.state ∙ sym (numbers_more (state_of r) t before.stands.table)

  from : (u : Term) → Contains q.terms u → Contains r.terms u ⊎ Contains (subterms t) u
  from u h = from_added r.terms (subterms t) u (subst (λ ts. Contains ts u) are h)

  one_more_named : NamesOne stack r q t
  one_more_named = record {
    more = record {
      naming = record {
        stands = named.stands;
        none = ap (λ (s : State). s.clauses) named.state ∙ before.none;
        live = λ u h. elim (from u h) [ inl x ↦ before.live u x | inr x ↦ in_subterms (AreLive stack) (live_part stack) t u live x ];
        writable = λ u h. elim (from u h) [ inl x ↦ before.writable u x | inr x ↦ in_subterms IsWritableTerm writable_part t u writable x ];
      };
      begins = (let b = added_begins r.terms (subterms t) in (b.0, are ∙ b.1));
    };
    here = (n, named.here);
    either = from;
  }

-- of a term that is well-sorted, over the live symbols and writable
pub names_one : (stack : Stack) (r q : Reached) (t u : Term) (n : ℕ) → u ≡ t → IsNaming stack r → IsSorted t → AreLive stack t → IsWritableTerm t → (Stands stack r → IsSorted u → AreLive stack u → IsWritableTerm u → IsNamed stack u r q n) → NamesOne stack r q t
names_one stack r q t u n is h sorted live writable named =
    one_more_named stack r q t n h live writable (subst (λ v. IsSorted v → AreLive stack v → IsWritableTerm v → IsNamed stack v r q n) is (named h.stands) sorted live writable)

pub names_none : (stack : Stack) (r : Reached) → IsNaming stack r → NamesMore stack r r
names_none stack r h = record { naming = h; begins = begins_itself r.terms }

pub names_on : (stack : Stack) (r q p : Reached) → NamesMore stack r q → NamesMore stack q p → NamesMore stack r p
names_on stack r q p g h = record { naming = h.naming; begins = begins_on r.terms q.terms p.terms g.begins h.begins }

pub still_named : (stack : Stack) (r q : Reached) (t : Term) → NamesMore stack r q → Contains r.terms t → Contains q.terms t
still_named stack r q t g h = begins_contains r.terms q.terms t g.begins h

pub keeps_equality : (stack : Stack) (r q : Reached) (x y : Term) → NamesMore stack r q → HasEquality r.terms x y → HasEquality q.terms x y
keeps_equality stack r q x y g (e, is, here) = (e, is, still_named stack r q e g here)

-- ---- equalities
pub sorted_here : (stack : Stack) (r : Reached) (t : Term) → IsNaming stack r → Contains r.terms t → IsSorted t
sorted_here stack r t h k = (ready r.terms h.stands.table).sorts t k

names_equality : (stack : Stack) (r q : Reached) (x y : Term) → NamesOne stack r q (equal x y) → NamesWith stack r q x (λ z. z ≡ y)
names_equality stack r q x y h = record { more = h.more; equalities = λ z is p. (equal x y, inl (ap (equal x) (sym is)), h.here) }

pub names_no_equality : (stack : Stack) (r : Reached) (x y : Term) → IsNaming stack r → have_one_sort x y ≡ false → NamesWith stack r r x (λ z. z ≡ y)
names_no_equality stack r x y h e = record {
  more = names_none stack r h;
  equalities = λ z is p. (let f : true ≡ false = sym (same_told x y (subst (AreOfOneSort x) is p)) ∙ e in cc);
}

pub equality_named : (stack : Stack) (r q : Reached) (x y t : Term) (n : ℕ) → t ≡ equal x y → IsNaming stack r → Contains r.terms x → Contains r.terms y → have_one_sort x y ≡ true →
    (Stands stack r → IsSorted t → AreLive stack t → IsWritableTerm t → IsNamed stack t r q n) → NamesWith stack r q x (λ z. z ≡ y)
equality_named stack r q x y t n is h k l e named =
    let two = one_sort x y (sorted_here stack r x h k) (sorted_here stack r y h l) e in
    names_equality stack r q x y (names_one stack r q (equal x y) t n is h (BoolSort, equality_sorted x y two) (h.live x k, h.live y l) (h.writable x k, h.writable y l) named)

-- the first of some terms
abbrev pub FirstOf : {X : Type 0} → (X → Term) → List X → ℕ → Term → Type 0
FirstOf view xs count t = (n : ℕ) × (n < count) × At (map view xs) n t

-- ---- an equality with each of some terms
pub names_first : {X : Type 0} (view : X → Term) (xs : List X) (stack : Stack) (r : Reached) (x : Term) → IsNaming stack r → NamesWith stack r r x (FirstOf view xs 0)
names_first view xs stack r x h = record { more = names_none stack r h; equalities = λ y w p. (let lt : w.0 < 0 = w.1 in absurd (omega arith)) }

pub names_next : {X : Type 0} (view : X → Term) (xs : List X) (i : ℕ) (b : X) (stack : Stack) (r q p : Reached) (x : Term) → At xs i b → NamesWith stack r q x (FirstOf view xs i) → NamesWith stack q p x (λ z. z ≡ view b) →
    NamesWith stack r p x (FirstOf view xs (i + 1))
names_next view xs i b stack r q p x at g h = record {
  more = names_on stack r q p g.more h.more;
  equalities = λ y w d. elim (one_more w.0 i w.1) [
    | inl lt ↦ keeps_equality stack q p x y h.more (g.equalities y (w.0, lt, w.2) d)
    | inr e ↦ h.equalities y (same_Some _ _ (sym w.2 ∙ ap (λ k. slice_get (map view xs) k) e ∙ mapped_at view xs i b at)) d
  ];
}

pub others_next : {X : Type 0} (view : X → Term) (xs : List X) (i : ℕ) (b : X) (stack : Stack) (r q p : Reached) (x : Term) → At xs i b → Contains r.terms x → AllIn r.terms (map view xs) → NamesWith stack r q x (FirstOf view xs i) →
    (IsNaming stack q → Contains q.terms x → Contains q.terms (view b) → NamesWith stack q p x (λ z. z ≡ view b)) → NamesWith stack r p x (FirstOf view xs (i + 1))
others_next view xs i b stack r q p x at k l g h =
    names_next view xs i b stack r q p x at g (h (g.more).naming (still_named stack r q x g.more k) (still_named stack r q (view b) g.more (l (view b) (i, mapped_at view xs i b at))))

pub others_all : {X : Type 0} (view : X → Term) (xs : List X) (count : ℕ) (stack : Stack) (r q : Reached) (x : Term) → length xs ≤ count → NamesWith stack r q x (FirstOf view xs count) → NamesWith stack r q x (Contains (map view xs))
others_all view xs count stack r q x le g = record {
  more = g.more;
  equalities = λ y w d. g.equalities y (w.0, (let lt : w.0 < length xs = subst (λ n. w.0 < n) (length-map xs view) (at_within (map view xs) w.0 y w.1) in omega arith), w.1) d;
}

-- ---- an equality of each two of some terms, the first of them one of the first
pub record NamesUpTo (stack : Stack) (before after : Reached) (terms : List Term) (count : ℕ) : Type 0 where
  pub more : NamesMore stack before after
  pub equalities : (m n : ℕ) (x y : Term) → m < count → m < n → At terms m x → At terms n y → AreOfOneSort x y → HasEquality after.terms x y

pub pairs_first : (stack : Stack) (r : Reached) (terms : List Term) → IsNaming stack r → NamesUpTo stack r r terms 0
pairs_first stack r terms h = record { more = names_none stack r h; equalities = λ m n x y lt. absurd (omega arith) }

behind : {A : Type 0} (xs : List A) (i n : ℕ) (y : A) → i < n → At xs n y → Contains (drop (suc i) xs) y
behind [] i n y lt e = cc
behind (x ∷ xs) i zero y lt e = absurd (omega arith)
behind (x ∷ xs) zero (suc n) y lt e = (n, e)
behind (x ∷ xs) (suc i) (suc n) y lt e = behind xs i n y (omega arith) e

in_rest : {A : Type 0} (xs : List A) (i : ℕ) (x : A) → Contains (drop (suc i) xs) x → Contains xs x
in_rest [] i x (n, e) = cc
in_rest (y ∷ xs) zero x (n, e) = (suc n, e)
in_rest (y ∷ xs) (suc i) x h = let w = in_rest xs i x h in (suc w.0, w.1)

pairs_next : (stack : Stack) (r q p : Reached) (terms : List Term) (i : ℕ) (x : Term) → At terms i x → NamesUpTo stack r q terms i → NamesWith stack q p x (Contains (drop (suc i) terms)) → NamesUpTo stack r p terms (i + 1)
pairs_next stack r q p terms i x at g h = record {
  more = names_on stack r q p g.more h.more;
  equalities = λ m n u v lt less au av d. elim (one_more m i lt) [
    | inl f ↦ keeps_equality stack q p u v h.more (g.equalities m n u v f less au av d)
    | inr e ↦ (
        let is : x ≡ u = same_Some _ _ (sym at ∙ ap (λ k. slice_get terms k) (sym e) ∙ au) in
        subst (λ z. HasEquality p.terms z v) is (h.equalities v (behind terms i n v (subst (λ k. k < n) e less) av) (subst (λ z. AreOfOneSort z v) (sym is) d))
        )
  ];
}

pairs_all : (stack : Stack) (r q : Reached) (terms : List Term) (count : ℕ) → length terms ≤ count → NamesUpTo stack r q terms count → NamesPairs stack r q terms
pairs_all stack r q terms count le g = record {
  more = g.more;
  equalities = λ m n x y less at. g.equalities m n x y (let lt = at_within terms m x at in omega arith) less at;
}

pub pairs_next_of : {X : Type 0} (view : X → Term) (xs rest : List X) (i : ℕ) (b : X) (stack : Stack) (r q p : Reached) → At xs i b → map view rest ≡ drop (suc i) (map view xs) → AllIn r.terms (map view xs) → NamesUpTo stack r q (map view xs) i →
    (IsNaming stack q → Contains q.terms (view b) → AllIn q.terms (map view rest) → NamesWith stack q p (view b) (Contains (map view rest))) → NamesUpTo stack r p (map view xs) (i + 1)
pairs_next_of view xs rest i b stack r q p at e k g h =
    let here = mapped_at view xs i b at in
    pairs_next stack r q p (map view xs) i (view b) here g
    (subst (λ ts. NamesWith stack q p (view b) (Contains ts)) e
    (h (g.more).naming (still_named stack r q (view b) g.more (k (view b) (i, here))) (λ t w. still_named stack r q t g.more (k t (in_rest (map view xs) i t (subst (λ ts. Contains ts t) e w))))))

pub pairs_all_of : {X : Type 0} (view : X → Term) (xs : List X) (count : ℕ) (stack : Stack) (r q : Reached) → length xs ≤ count → NamesUpTo stack r q (map view xs) count → NamesPairs stack r q (map view xs)
pairs_all_of view xs count stack r q le g = pairs_all stack r q (map view xs) count (subst (λ n. n ≤ count) (sym (length-map xs view)) le) g

-- ---- in either order
pub pairs_of_all : (stack : Stack) (r q : Reached) → NamesPairs stack r q r.terms → (x y : Term) → Contains r.terms x → Contains r.terms y → ¬ (x ≡ y) → AreOfOneSort x y → HasEquality q.terms x y
pairs_of_all stack r q h x y (m, at) (n, be) two d = elim (in_order m n) [
  | inl lt ↦ h.equalities m n x y lt at be d
  | inr w ↦ elim w [
    | inl e ↦ absurd (two (same_Some _ _ (sym at ∙ ap (λ k. slice_get r.terms k) e ∙ be)))
    | inr lt ↦ turned q.terms y x (h.equalities n m y x lt be at (sorts_turned x y d))
  ]
]
