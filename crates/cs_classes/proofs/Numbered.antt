-- Numbered assertions are well-sorted terms with all their parts.
use Rattle.std.proofs.Common.{◌≡◌, zero, suc, List, [], ◌∷◌, inl, inr, refl, sym, subst}
use Rattle.vx_terms.specs.Terms.{Term, Truth}
use Rattle.vx_terms.specs.Interpretations.{Each}
use Rattle.cs_certificate.specs.Terms.{subterms, parts_of, numbered}
use Rattle.cs_certificate.specs.Certificate.{Contains}
use Rattle.cs_numbers.specs.Laws.{IsSorted}
use Rattle.cs_numbers.proofs.Added.{added_distinct}
use Rattle.cs_numbers.proofs.Numbered.{in_left, in_right, new, from_added, part_of, sorted_of}
use Rattle.cs_classes.specs.Agreement.{IsWhole}

-- the numbered terms are those that stand in the assertions
number_it : (ts : List Term) (t : Term) → Contains (parts_of ts) t → Contains (numbered ts) t
number_it ts t c = subst (λ us. Contains us t) (added_distinct (parts_of ts)) (new [] (parts_of ts) t c)

stands : (ts : List Term) (t : Term) → Contains (numbered ts) t → Contains (parts_of ts) t
stands ts t c = elim (from_added [] (parts_of ts) t (subst (λ us. Contains us t) (sym (added_distinct (parts_of ts))) c)) [
  | inl h ↦ (let none : ⊥ = nothing h in absurd none)
  | inr h ↦ h
]
  where
    nothing : Contains [] t → ⊥
    nothing (k, e) = cc

pub whole : (ts : List Term) → Each IsSorted ts → IsWhole (numbered ts)
whole ts h = record {
  sorted = λ t c. sorted_of ts h t (stands ts t c);
  parted = λ t x c m. number_it ts x (part_of ts t x (stands ts t c) m);
}

itself : (t : Term) → Contains (subterms t) t
itself (Truth b) = (0, refl)
itself t = (0, refl)

asserted : (ts : List Term) (t : Term) → Contains ts t → Contains (parts_of ts) t
asserted [] t (k, e) = cc
asserted (u ∷ us) t (zero, e) = let is : u ≡ t = cc in in_left (subterms u) (parts_of us) t (subst (λ v. Contains (subterms v) t) (sym is) (itself t))
asserted (u ∷ us) t (suc k, e) = in_right (subterms u) (parts_of us) t (asserted us t (k, e))

pub assertion_numbered : (ts : List Term) (t : Term) → Contains ts t → Contains (numbered ts) t
assertion_numbered ts t c = number_it ts t (asserted ts t c)
