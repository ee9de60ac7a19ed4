-- What a write to the table makes of the literals' truths.
use Rattle.std.proofs.Common.{◌≡◌, ℕ, ◌<◌, ◌⊎◌, inl, inr, Bool, true, false, not, List, length, set, Option, Some, None, refl, sym, ◌∙◌, ap, ap₂, nat_eq}
use Rattle.std.specs.List.{slice_get}
use Rattle.std.proofs.lemmas.Option.{slice_get_within}
use Rattle.std.proofs.lemmas.Bool.Decides.{Decides-eqb}
use Rattle.cs_certificate.specs.declared.literal.Literal.{Literal}
use Rattle.cs_search.specs.declared.Value.{Value}
use Rattle.cs_search.specs.declared.Value.TheVariants.{Unset, Positive, Negative}
use Rattle.cs_search.specs.declared.Status.{Status}
use Rattle.cs_search.specs.declared.Status.TheVariants.{Unassigned, True, False}
use Rattle.cs_search.specs.Assignment.{negated, seen, seen_or, status_of, valued}
use Rattle.cs_search.proofs.Gets.{get_set_same, get_set_other}

pub same_atom : (m l : ℕ) → (m ≡ l) ⊎ ¬ (m ≡ l)
same_atom m l = go (nat_eq m l) refl
  where
    go : (b : Bool) → nat_eq m l ≡ b → (m ≡ l) ⊎ ¬ (m ≡ l)
    go true e = inl ((Decides-eqb m l).0 e)
    go false e = inr (λ h. let t : nat_eq m l ≡ true = (Decides-eqb m l).1 h in cc)

-- a literal and its negation
pub seen_negated : (b : Bool) (o : Option Value) (p : ℕ) → seen_or b o ≡ True p → seen_or (not b) o ≡ False p
seen_negated b None p e = cc
seen_negated b (Some Unset) p e = cc
seen_negated true (Some (Positive q)) p e = ap (λ n. False n) (let t : q ≡ p = cc in t)
seen_negated false (Some (Positive q)) p e = cc
seen_negated true (Some (Negative q)) p e = cc
seen_negated false (Some (Negative q)) p e = ap (λ n. False n) (let t : q ≡ p = cc in t)

pub seen_unnegated : (b : Bool) (o : Option Value) (p : ℕ) → seen_or b o ≡ False p → seen_or (not b) o ≡ True p
seen_unnegated b None p e = cc
seen_unnegated b (Some Unset) p e = cc
seen_unnegated true (Some (Positive q)) p e = cc
seen_unnegated false (Some (Positive q)) p e = ap (λ n. True n) (let t : q ≡ p = cc in t)
seen_unnegated true (Some (Negative q)) p e = ap (λ n. True n) (let t : q ≡ p = cc in t)
seen_unnegated false (Some (Negative q)) p e = cc

pub false_negated : (values : List Value) (l : Literal) (p : ℕ) → status_of values l ≡ True p → status_of values (negated l) ≡ False p
false_negated values l p e = seen_negated l.positive (slice_get values l.number) p e

pub true_negated : (values : List Value) (l : Literal) (p : ℕ) → status_of values l ≡ False p → status_of values (negated l) ≡ True p
true_negated values l p e = seen_unnegated l.positive (slice_get values l.number) p e

pub negated_twice : (l : Literal) → negated (negated l) ≡ l
negated_twice l = go l.positive l.number
  where
    go : (b : Bool) (n : ℕ) → negated (negated record { positive = b; number = n }) ≡ record { positive = b; number = n }
    go true n = refl
    go false n = refl

-- unassigned goes by the atom
seen_unassigned : (a b : Bool) (o : Option Value) → seen_or a o ≡ Unassigned → seen_or b o ≡ Unassigned
seen_unassigned a b None e = refl
seen_unassigned a b (Some Unset) e = refl
seen_unassigned true b (Some (Positive q)) e = cc
seen_unassigned false b (Some (Positive q)) e = cc
seen_unassigned true b (Some (Negative q)) e = cc
seen_unassigned false b (Some (Negative q)) e = cc

pub unassigned_atom : (values : List Value) (l m : Literal) → m.number ≡ l.number → status_of values l ≡ Unassigned → status_of values m ≡ Unassigned
unassigned_atom values l m e h = ap (λ n. seen_or m.positive (slice_get values n)) e ∙ seen_unassigned l.positive m.positive (slice_get values l.number) h

seen_valued : (b : Bool) (p : ℕ) → seen b (valued b p) ≡ True p
seen_valued true p = refl
seen_valued false p = refl

pub status_set_same : (values : List Value) (l : Literal) (p : ℕ) → l.number < length values → status_of (set values l.number (valued l.positive p)) l ≡ True p
status_set_same values l p h = ap (seen_or l.positive) (get_set_same values l.number (valued l.positive p) h) ∙ seen_valued l.positive p

pub status_set_other : (values : List Value) (a : ℕ) (v : Value) (m : Literal) → ¬ (m.number ≡ a) → status_of (set values a v) m ≡ status_of values m
status_set_other values a v m ne = ap (seen_or m.positive) (get_set_other values a m.number v ne)

-- what is assigned keeps its status where an unassigned literal is set
pub status_set_kept : (values : List Value) (l m : Literal) (v : Value) (s : Status) → status_of values l ≡ Unassigned → status_of values m ≡ s → ¬ (s ≡ Unassigned) → status_of (set values l.number v) m ≡ s
status_set_kept values l m v s u e ne =
    elim (same_atom m.number l.number) [
      | inl a ↦ absurd (ne (sym e ∙ unassigned_atom values l m a u))
      | inr na ↦ status_set_other values l.number v m na ∙ e
    ]

seen_valued_is : (a b : Bool) (p q : ℕ) → seen a (valued b p) ≡ True q → (a ≡ b) × (q ≡ p)
seen_valued_is true true p q e = (refl, let t : q ≡ p = cc in t)
seen_valued_is false true p q e = cc
seen_valued_is true false p q e = cc
seen_valued_is false false p q e = (refl, let t : q ≡ p = cc in t)

pub literal_eq : (l m : Literal) → l.positive ≡ m.positive → l.number ≡ m.number → l ≡ m
literal_eq l m p a = let mk : Bool → ℕ → Literal = λ b n. record { positive = b; number = n } in ap₂ mk p a

-- what is true after the write was true, or is the literal
pub status_set_cases : (values : List Value) (l m : Literal) (p q : ℕ) → l.number < length values → status_of (set values l.number (valued l.positive p)) m ≡ True q → (status_of values m ≡ True q) ⊎ ((m ≡ l) × (q ≡ p))
status_set_cases values l m p q h e =
    elim (same_atom m.number l.number) [
      | inl a ↦
          let t : seen m.positive (valued l.positive p) ≡ True q = sym (ap (λ n. seen_or m.positive (slice_get (set values l.number (valued l.positive p)) n)) a ∙ ap (seen_or m.positive) (get_set_same values l.number (valued l.positive p) h)) ∙ e in
          let s = seen_valued_is m.positive l.positive p q t in
          inr (literal_eq m l s.0 a, s.1)
      | inr na ↦ inl (sym (status_set_other values l.number (valued l.positive p) m na) ∙ e)
    ]

seen_place : (a b : Bool) (o : Option Value) (p q : ℕ) → seen_or a o ≡ True p → seen_or b o ≡ True q → p ≡ q
seen_place a b None p q e f = cc
seen_place a b (Some Unset) p q e f = cc
seen_place true true (Some (Positive n)) p q e f = cc
seen_place true false (Some (Positive n)) p q e f = cc
seen_place false b (Some (Positive n)) p q e f = cc
seen_place true b (Some (Negative n)) p q e f = cc
seen_place false true (Some (Negative n)) p q e f = cc
seen_place false false (Some (Negative n)) p q e f = cc

-- an atom has one place
pub place_by_atom : (values : List Value) (m l : Literal) (p q : ℕ) → m.number ≡ l.number → status_of values m ≡ True p → status_of values l ≡ True q → p ≡ q
place_by_atom values m l p q a e f = seen_place m.positive l.positive (slice_get values l.number) p q (ap (λ n. seen_or m.positive (slice_get values n)) (sym a) ∙ e) f

pub place_by_atom_false : (values : List Value) (m l : Literal) (p q : ℕ) → m.number ≡ l.number → status_of values m ≡ False p → status_of values l ≡ True q → p ≡ q
place_by_atom_false values m l p q a e f = place_by_atom values (negated m) l p q a (true_negated values m p e) f

seen_some : (a : Bool) (o : Option Value) (p : ℕ) → seen_or a o ≡ True p → (v : Value) × (o ≡ Some v)
seen_some a None p e = cc
seen_some a (Some v) p e = (v, refl)

pub atom_within : (values : List Value) (l : Literal) (p : ℕ) → status_of values l ≡ True p → l.number < length values
atom_within values l p e = let w = seen_some l.positive (slice_get values l.number) p e in slice_get_within values l.number w.0 w.1

pub unset_now : (values : List Value) (a : ℕ) (l : Literal) (p : ℕ) → a < length values → l.number ≡ a → status_of (set values a Unset) l ≡ True p → ⊥
unset_now values a l p lt e is =
    let t : Unassigned ≡ True p = sym (ap (seen_or l.positive) (ap (slice_get (set values a Unset)) e ∙ get_set_same values a Unset lt)) ∙ is in cc

-- no literal is true and false
seen_both : (a : Bool) (o : Option Value) (p q : ℕ) → seen_or a o ≡ True p → seen_or a o ≡ False q → ⊥
seen_both a o p q e f = let t : True p ≡ False q = sym e ∙ f in cc

pub never_both : (values : List Value) (l : Literal) (p q : ℕ) → status_of values l ≡ True p → status_of values l ≡ False q → ⊥
never_both values l p q e f = seen_both l.positive (slice_get values l.number) p q e f
