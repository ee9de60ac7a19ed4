-- Each numbered term has one number, and so have its parts.
use Rattle.std.proofs.Common.{◌≡◌, ℕ, zero, suc, Bool, true, false, ◌||◌, List, [], ◌∷◌, ◌++◌, length, Some, ◌⊎◌, inl, inr, refl, sym, ◌∙◌, ap, subst}
use Rattle.std.specs.Prelude.{if◌then◌else◌}
use Rattle.std.proofs.lemmas.Option.{same_Some}
use Rattle.vx_terms.specs.Sorts.{Sort}
use Rattle.vx_terms.specs.Terms.{Term, Truth, Number, Part, Constant, Apply, Not, Binary, Ite, AllOf, SomeOf, Terms, NoTerms, MoreTerms, same}
use Rattle.vx_terms.specs.Formed.{Formed, truth, number, part, constant, applies, nots, binary, ites, all_of, some_of, FormedAll, no_terms, more_terms, FormedBools, no_bools, more_bools}
use Rattle.vx_terms.specs.Interpretations.{Each}
use Rattle.vx_terms.proofs.Same.{term_is}
use Rattle.cs_certificate.specs.Terms.{items, parts, subterms, all_subterms, parts_of}
use Rattle.cs_certificate.specs.Certificate.{At, Contains}
use Rattle.cs_numbers.specs.Numbering.{has, with_one, added}
use Rattle.cs_numbers.specs.Laws.{IsSorted}
use Rattle.cs_numbers.proofs.Itself.{term_same}

-- ---- places of a list
pub in_left : {A : Type 0} (xs ys : List A) (x : A) → Contains xs x → Contains (xs ++ ys) x
in_left [] ys x (n, e) = cc
in_left (z ∷ zs) ys x (zero, e) = (0, e)
in_left (z ∷ zs) ys x (suc n, e) = let h = in_left zs ys x (n, e) in (suc h.0, h.1)

pub in_right : {A : Type 0} (xs ys : List A) (x : A) → Contains ys x → Contains (xs ++ ys) x
in_right [] ys x h = h
in_right (z ∷ zs) ys x h = let k = in_right zs ys x h in (suc k.0, k.1)

pub in_either : {A : Type 0} (xs ys : List A) (x : A) → Contains (xs ++ ys) x → Contains xs x ⊎ Contains ys x
in_either [] ys x h = inr h
in_either (z ∷ zs) ys x (zero, e) = inl (0, e)
in_either (z ∷ zs) ys x (suc n, e) = elim (in_either zs ys x (n, e)) [ inl h ↦ inl (suc h.0, h.1) | inr h ↦ inr h ]

-- a place of the longer list
at_end : {A : Type 0} (xs : List A) (y x : A) (k : ℕ) → At (xs ++ y ∷ []) k x → At xs k x ⊎ ((k ≡ length xs) × (x ≡ y))
at_end [] y x zero e = inr (refl, sym (same_Some _ _ e))
at_end [] y x (suc k) e = cc
at_end (z ∷ zs) y x zero e = inl e
at_end (z ∷ zs) y x (suc k) e = elim (at_end zs y x k e) [ inl h ↦ inl h | inr h ↦ inr (ap suc h.0, h.1) ]

-- ---- each term has one number
pub record Distinct (terms : List Term) : Type 0 where
  pub one : (j k : ℕ) (t : Term) → At terms j t → At terms k t → j ≡ k

pub has_in : (terms : List Term) (t : Term) → Contains terms t → has terms t ≡ true
has_in [] t (n, e) = cc
has_in (u ∷ us) t (zero, e) = ap (λ b. b || has us t) (ap (same t) (same_Some _ _ e) ∙ term_same t)
has_in (u ∷ us) t (suc n, e) = go (same t u) (has_in us t (n, e))
  where
    go : (b : Bool) → has us t ≡ true → (b || has us t) ≡ true
    go true h = refl
    go false h = h

has_is : (terms : List Term) (t : Term) → has terms t ≡ true → Contains terms t
has_is [] t e = cc
has_is (u ∷ us) t e = go (same t u) refl e (has_is us t)
  where
    go : (b : Bool) → same t u ≡ b → (b || has us t) ≡ true → (has us t ≡ true → Contains us t) → Contains (u ∷ us) t
    go true f e k = (0, ap Some (sym (term_is t u f)))
    go false f e k = let h = k e in (suc h.0, h.1)

distinct_one : (terms : List Term) (t : Term) → Distinct terms → Distinct (with_one terms t)
distinct_one terms t d = go (has terms t) refl
  where
    fresh : has terms t ≡ false → (k : ℕ) → At terms k t → ⊥
    fresh f k e = let h : true ≡ false = sym (has_in terms t (k, e)) ∙ f in cc

    go : (b : Bool) → has terms t ≡ b → Distinct (if b then terms else terms ++ t ∷ [])
    go true f = d
    go false f = record {
      one = λ j k u p q. elim (at_end terms t u j p) [
        | inl x ↦ elim (at_end terms t u k q) [
          | inl y ↦ d.one j k u x y
          | inr y ↦ absurd (fresh f j (subst (At terms j) y.1 x))
        ]
        | inr x ↦ elim (at_end terms t u k q) [
          | inl y ↦ absurd (fresh f k (subst (At terms k) x.1 y))
          | inr y ↦ x.0 ∙ sym y.0
        ]
      ];
    }

pub distinct_added : (terms ts : List Term) → Distinct terms → Distinct (added terms ts)
distinct_added terms [] d = d
distinct_added terms (t ∷ ts) d = distinct_added (with_one terms t) ts (distinct_one terms t d)

-- ---- which terms have numbers
kept_one : (terms : List Term) (t u : Term) → Contains terms u → Contains (with_one terms t) u
kept_one terms t u h = go (has terms t)
  where
    go : (b : Bool) → Contains (if b then terms else terms ++ t ∷ []) u
    go true = h
    go false = in_left terms (t ∷ []) u h

new_one : (terms : List Term) (t : Term) → Contains (with_one terms t) t
new_one terms t = go (has terms t) refl
  where
    go : (b : Bool) → has terms t ≡ b → Contains (if b then terms else terms ++ t ∷ []) t
    go true e = has_is terms t e
    go false e = in_right terms (t ∷ []) t (0, refl)

from_one : (terms : List Term) (t u : Term) → Contains (with_one terms t) u → Contains terms u ⊎ (u ≡ t)
from_one terms t u h = go (has terms t) h
  where
    single : Contains (t ∷ []) u → u ≡ t
    single (zero, e) = sym (same_Some _ _ e)
    single (suc n, e) = cc

    go : (b : Bool) → Contains (if b then terms else terms ++ t ∷ []) u → Contains terms u ⊎ (u ≡ t)
    go true h = inl h
    go false h = elim (in_either terms (t ∷ []) u h) [ inl x ↦ inl x | inr x ↦ inr (single x) ]

pub kept : (terms ts : List Term) (u : Term) → Contains terms u → Contains (added terms ts) u
kept terms [] u h = h
kept terms (t ∷ ts) u h = kept (with_one terms t) ts u (kept_one terms t u h)

pub new : (terms ts : List Term) (u : Term) → Contains ts u → Contains (added terms ts) u
new terms [] u (n, e) = cc
new terms (t ∷ ts) u (zero, e) = kept (with_one terms t) ts u (subst (Contains (with_one terms t)) (same_Some _ _ e) (new_one terms t))
new terms (t ∷ ts) u (suc n, e) = new (with_one terms t) ts u (n, e)

pub from_added : (terms ts : List Term) (u : Term) → Contains (added terms ts) u → Contains terms u ⊎ Contains ts u
from_added terms [] u h = inl h
from_added terms (t ∷ ts) u h = elim (from_added (with_one terms t) ts u h) [
  | inl x ↦ elim (from_one terms t u x) [ inl y ↦ inl y | inr y ↦ inr (0, ap Some (sym y)) ]
  | inr x ↦ inr (suc x.0, x.1)
]

-- ---- the parts of a subterm are subterms
first_in : (t : Term) → Contains (subterms t) t
first_in (Truth b) = (0, refl)
first_in (Number z) = (0, refl)
first_in (Part a) = (0, refl)
first_in (Constant f a) = (0, refl)
first_in (Apply f a ts) = (0, refl)
first_in (Not t) = (0, refl)
first_in (Binary o t u) = (0, refl)
first_in (Ite c t u) = (0, refl)
first_in (AllOf ts) = (0, refl)
first_in (SomeOf ts) = (0, refl)

item_in : (ts : Terms) (p : Term) → Contains (items ts) p → Contains (all_subterms ts) p
item_in NoTerms p (n, e) = cc
item_in (MoreTerms t ts) p (zero, e) = in_left (subterms t) (all_subterms ts) p (subst (Contains (subterms t)) (same_Some _ _ e) (first_in t))
item_in (MoreTerms t ts) p (suc n, e) = in_right (subterms t) (all_subterms ts) p (item_in ts p (n, e))

-- behind the first
later : {A : Type 0} (y : A) (xs : List A) (x : A) → Contains xs x → Contains (y ∷ xs) x
later y xs x h = (suc h.0, h.1)

one_in : (t p : Term) → Contains (t ∷ []) p → Contains (subterms t) p
one_in t p (zero, e) = subst (Contains (subterms t)) (same_Some _ _ e) (first_in t)
one_in t p (suc n, e) = cc

two_in : (t v p : Term) → Contains (t ∷ v ∷ []) p → Contains (subterms t ++ subterms v) p
two_in t v p (zero, e) = in_left (subterms t) (subterms v) p (subst (Contains (subterms t)) (same_Some _ _ e) (first_in t))
two_in t v p (suc n, e) = in_right (subterms t) (subterms v) p (one_in v p (n, e))

three_in : (c t v p : Term) → Contains (c ∷ t ∷ v ∷ []) p → Contains (subterms c ++ (subterms t ++ subterms v)) p
three_in c t v p (zero, e) = in_left (subterms c) (subterms t ++ subterms v) p (subst (Contains (subterms c)) (same_Some _ _ e) (first_in c))
three_in c t v p (suc n, e) = in_right (subterms c) (subterms t ++ subterms v) p (two_in t v p (n, e))

mutual
  pub part_in : (t u p : Term) → Contains (subterms t) u → Contains (parts u) p → Contains (subterms t) p
  part_in (Truth b) u p (zero, e) h = let k : Contains [] p = subst (λ x. Contains (parts x) p) (sym (same_Some _ _ e)) h in cc
  part_in (Truth b) u p (suc n, e) h = cc
  part_in (Number z) u p (zero, e) h = let k : Contains [] p = subst (λ x. Contains (parts x) p) (sym (same_Some _ _ e)) h in cc
  part_in (Number z) u p (suc n, e) h = cc
  part_in (Part a) u p (zero, e) h = let k : Contains [] p = subst (λ x. Contains (parts x) p) (sym (same_Some _ _ e)) h in cc
  part_in (Part a) u p (suc n, e) h = cc
  part_in (Constant f a) u p (zero, e) h = let k : Contains [] p = subst (λ x. Contains (parts x) p) (sym (same_Some _ _ e)) h in cc
  part_in (Constant f a) u p (suc n, e) h = cc
  part_in (Apply f a ts) u p (zero, e) h = later _ _ p (item_in ts p (subst (λ x. Contains (parts x) p) (sym (same_Some _ _ e)) h))
  part_in (Apply f a ts) u p (suc n, e) h = later _ _ p (part_in_all ts u p (n, e) h)
  part_in (AllOf ts) u p (zero, e) h = later _ _ p (item_in ts p (subst (λ x. Contains (parts x) p) (sym (same_Some _ _ e)) h))
  part_in (AllOf ts) u p (suc n, e) h = later _ _ p (part_in_all ts u p (n, e) h)
  part_in (SomeOf ts) u p (zero, e) h = later _ _ p (item_in ts p (subst (λ x. Contains (parts x) p) (sym (same_Some _ _ e)) h))
  part_in (SomeOf ts) u p (suc n, e) h = later _ _ p (part_in_all ts u p (n, e) h)
  part_in (Not t) u p (zero, e) h = later _ _ p (one_in t p (subst (λ x. Contains (parts x) p) (sym (same_Some _ _ e)) h))
  part_in (Not t) u p (suc n, e) h = later _ _ p (part_in t u p (n, e) h)
  part_in (Binary o t v) u p (zero, e) h = later _ _ p (two_in t v p (subst (λ x. Contains (parts x) p) (sym (same_Some _ _ e)) h))
  part_in (Binary o t v) u p (suc n, e) h = later _ _ p (elim (in_either (subterms t) (subterms v) u (n, e)) [
    | inl x ↦ in_left (subterms t) (subterms v) p (part_in t u p x h)
    | inr x ↦ in_right (subterms t) (subterms v) p (part_in v u p x h)
  ])
  part_in (Ite c t v) u p (zero, e) h = later _ _ p (three_in c t v p (subst (λ x. Contains (parts x) p) (sym (same_Some _ _ e)) h))
  part_in (Ite c t v) u p (suc n, e) h = later _ _ p (elim (in_either (subterms c) (subterms t ++ subterms v) u (n, e)) [
    | inl x ↦ in_left (subterms c) (subterms t ++ subterms v) p (part_in c u p x h)
    | inr x ↦ in_right (subterms c) (subterms t ++ subterms v) p (elim (in_either (subterms t) (subterms v) u x) [
      | inl y ↦ in_left (subterms t) (subterms v) p (part_in t u p y h)
      | inr y ↦ in_right (subterms t) (subterms v) p (part_in v u p y h)
    ])
  ])

  part_in_all : (ts : Terms) (u p : Term) → Contains (all_subterms ts) u → Contains (parts u) p → Contains (all_subterms ts) p
  part_in_all NoTerms u p (n, e) h = cc
  part_in_all (MoreTerms t ts) u p k h = elim (in_either (subterms t) (all_subterms ts) u k) [
    | inl x ↦ in_left (subterms t) (all_subterms ts) p (part_in t u p x h)
    | inr x ↦ in_right (subterms t) (all_subterms ts) p (part_in_all ts u p x h)
  ]

pub part_of : (ts : List Term) (u p : Term) → Contains (parts_of ts) u → Contains (parts u) p → Contains (parts_of ts) p
part_of [] u p (n, e) h = cc
part_of (t ∷ ts) u p k h = elim (in_either (subterms t) (parts_of ts) u k) [
  | inl x ↦ in_left (subterms t) (parts_of ts) p (part_in t u p x h)
  | inr x ↦ in_right (subterms t) (parts_of ts) p (part_of ts u p x h)
]

-- ---- subterms of well-sorted terms are well-sorted
sorted : {n : ℕ} {t : Term} {a : Sort} → Formed n t a → IsSorted t
sorted {n = n} {a = a} f = (a, (n, f))

first_sorted : {n : ℕ} {t : Term} {a : Sort} (u : Term) → Formed n t a → Some t ≡ Some u → IsSorted u
first_sorted {n = n} {t = t} {a = a} u f e = subst IsSorted (same_Some _ _ e) (a, (n, f))

mutual
  pub sorted_in : {n : ℕ} {t : Term} {a : Sort} (f : Formed n t a) (u : Term) → Contains (subterms t) u → IsSorted u
  sorted_in {n = n} (truth b) u (zero, e) = first_sorted {n = n} u (truth b) e
  sorted_in (truth b) u (suc k, e) = cc
  sorted_in {n = n} (number z) u (zero, e) = first_sorted {n = n} u (number z) e
  sorted_in (number z) u (suc k, e) = cc
  sorted_in {n = n} (part a g) u (zero, e) = first_sorted {n = n} u (part a g) e
  sorted_in (part a g) u (suc k, e) = cc
  sorted_in (constant f a g) u (zero, e) = first_sorted u (constant f a g) e
  sorted_in (constant f a g) u (suc k, e) = cc
  sorted_in (applies f a g h) u (zero, e) = first_sorted u (applies f a g h) e
  sorted_in (applies f a g h) u (suc k, e) = sorted_in_all h u (k, e)
  sorted_in (nots h) u (zero, e) = first_sorted u (nots h) e
  sorted_in (nots h) u (suc k, e) = sorted_in h u (k, e)
  sorted_in (binary {o = o} {t = t} {u = v} g h i) u (zero, e) = first_sorted u (binary {o = o} g h i) e
  sorted_in (binary {o = o} {t = t} {u = v} g h i) u (suc k, e) = elim (in_either (subterms t) (subterms v) u (k, e)) [ inl x ↦ sorted_in h u x | inr x ↦ sorted_in i u x ]
  sorted_in (ites {c = c} {t = t} {u = v} g h i) u (zero, e) = first_sorted u (ites g h i) e
  sorted_in (ites {c = c} {t = t} {u = v} g h i) u (suc k, e) = elim (in_either (subterms c) (subterms t ++ subterms v) u (k, e)) [
    | inl x ↦ sorted_in g u x
    | inr x ↦ elim (in_either (subterms t) (subterms v) u x) [ inl y ↦ sorted_in h u y | inr y ↦ sorted_in i u y ]
  ]
  sorted_in (all_of h) u (zero, e) = first_sorted u (all_of h) e
  sorted_in (all_of h) u (suc k, e) = sorted_in_bools h u (k, e)
  sorted_in (some_of h) u (zero, e) = first_sorted u (some_of h) e
  sorted_in (some_of h) u (suc k, e) = sorted_in_bools h u (k, e)

  sorted_in_all : {n : ℕ} {ts : Terms} (f : FormedAll n ts) (u : Term) → Contains (all_subterms ts) u → IsSorted u
  sorted_in_all no_terms u (k, e) = cc
  sorted_in_all (more_terms {t = t} {ts = ts} a h more) u k = elim (in_either (subterms t) (all_subterms ts) u k) [ inl x ↦ sorted_in h u x | inr x ↦ sorted_in_all more u x ]

  sorted_in_bools : {n : ℕ} {ts : Terms} (f : FormedBools n ts) (u : Term) → Contains (all_subterms ts) u → IsSorted u
  sorted_in_bools no_bools u (k, e) = cc
  sorted_in_bools (more_bools {t = t} {ts = ts} h more) u k = elim (in_either (subterms t) (all_subterms ts) u k) [ inl x ↦ sorted_in h u x | inr x ↦ sorted_in_bools more u x ]

pub sorted_of : (ts : List Term) → Each IsSorted ts → (u : Term) → Contains (parts_of ts) u → IsSorted u
sorted_of [] h u (n, e) = cc
sorted_of (t ∷ ts) h u k = elim (in_either (subterms t) (parts_of ts) u k) [ inl x ↦ sorted_in ((h.0).1).1 u x | inr x ↦ sorted_of ts h.1 u x ]
