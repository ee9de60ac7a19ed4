-- One more entry on the trail, and fewer.
use Rattle.std.proofs.Common.{◌≡◌, ℕ, ◌+◌, ◌<◌, ◌≤◌, ◌⊎◌, inl, inr, List, [], ◌∷◌, ◌++◌, length, take, set, Some, sym, ◌∙◌, subst, ap, arith}
use Rattle.std.specs.List.{slice_get, Contains}
use Rattle.std.proofs.lemmas.Option.{slice_get_within}
use Rattle.std.proofs.lemmas.List.{take-append-le, length-append}
use Rattle.std.proofs.lemmas.List.Elements.{All-weaker}
use Rattle.cs_certificate.specs.declared.literal.Literal.{Literal}
use Rattle.cs_search.specs.declared.Value.{Value}
use Rattle.cs_search.specs.declared.Value.TheVariants.{Unset}
use Rattle.cs_search.specs.declared.Status.TheVariants.{True, False}
use Rattle.cs_search.specs.declared.Entry.{Entry}
use Rattle.cs_certificate.specs.declared.literal.Clause.{Clause}
use Rattle.cs_search.specs.Assignment.{negated, status_of, valued, FalseBefore, TrueBefore, LeavesOnly, IsTrail, IsForced, IsUnassigned}
use Rattle.cs_search.proofs.Gets.{get_push_old, get_push_new, get_push_cases}
use Rattle.cs_search.proofs.Statuses.{status_set_same, status_set_kept, status_set_cases, status_set_other, same_atom, false_negated, true_negated, negated_twice, place_by_atom, place_by_atom_false, atom_within, unset_now}

pub false_kept : (values : List Value) (l m : Literal) (v : Value) (k : ℕ) → IsUnassigned values l → FalseBefore values k m → FalseBefore (set values l.number v) k m
false_kept values l m v k u (p, lt, e) = (p, lt, status_set_kept values l m v (False p) u e (λ h. cc))

pub only_kept : (values : List Value) (l : Literal) (v : Value) (k : ℕ) (c : List Literal) (u : Literal) → IsUnassigned values l → LeavesOnly values k c u → LeavesOnly (set values l.number v) k c u
only_kept values l v k c u un h =
    All-weaker (λ m. (m ≡ u) ⊎ FalseBefore values k m) (λ m. (m ≡ u) ⊎ FalseBefore (set values l.number v) k m)
    (λ m x. elim x [ inl e ↦ inl e | inr f ↦ inr (false_kept values l m v k un f) ]) c h

pub trail_more : (clauses : List Clause) (values : List Value) (trail : List Entry) (e : Entry) →
    IsTrail clauses values trail → IsUnassigned values e.literal → e.literal.number < length values → IsForced clauses values (length trail) e →
    IsTrail clauses (set values e.literal.number (valued e.literal.positive (length trail))) (trail ++ e ∷ [])
trail_more clauses values trail e t u lt forced =
    let v = valued e.literal.positive (length trail) in
    record {
      set = λ j x at. elim (get_push_cases trail j e x at) [
        | inl old ↦ status_set_kept values e.literal x.literal v (True j) u (t.set j x old) (λ h. cc)
        | inr new ↦
            let P : Entry → Type 0 = λ y. status_of (set values e.literal.number v) y.literal ≡ True j in
            subst P (sym new.1) (status_set_same values e.literal (length trail) lt ∙ ap (λ n. True n) (sym new.0))
      ];
      placed = λ l p is. elim (status_set_cases values e.literal l (length trail) p lt is) [
        | inl old ↦ let w = t.placed l p old in (w.0, get_push_old trail p e w.0 w.1, w.2)
        | inr new ↦ (e, ap (λ n. slice_get (trail ++ e ∷ []) n) new.1 ∙ get_push_new trail e, sym new.0)
      ];
      reasoned = λ j r x at why. elim (get_push_cases trail j e x at) [
        | inl old ↦ let w = t.reasoned j r x old why in (w.0, w.1, w.2, only_kept values e.literal v j w.0.literals.items x.literal u w.3)
        | inr new ↦
            let w = forced r (ap (λ y. y.reason) (sym new.1) ∙ why) in
            let P : Entry → Type 0 = λ y. Contains w.0.literals.items y.literal × LeavesOnly (set values e.literal.number v) j w.0.literals.items y.literal in
            let Q : ℕ → Type 0 = λ n. LeavesOnly (set values e.literal.number v) n w.0.literals.items e.literal in
            let h = subst P (sym new.1) (w.2, subst Q (sym new.0) (only_kept values e.literal v (length trail) w.0.literals.items e.literal u w.3)) in
            (w.0, w.1, h.0, h.1)
      ];
    }

-- what is false before d on one trail is so on another that has the same entries before d
pub false_same : (c c' : List Clause) (values values' : List Value) (trail trail' : List Entry) (d : ℕ) → IsTrail c values trail → IsTrail c' values' trail' →
    ((j : ℕ) (e : Entry) → j < d → slice_get trail' j ≡ Some e → slice_get trail j ≡ Some e) →
    (m : Literal) → FalseBefore values' d m → FalseBefore values d m
false_same c c' values values' trail trail' d t t' same m (p, lt, is) =
    let w = t'.placed (negated m) p (true_negated values' m p is) in
    let now = t.set p w.0 (same p w.0 lt w.1) in
    let P : Literal → Type 0 = λ l. status_of values l ≡ True p in
    let F : Literal → Type 0 = λ l. status_of values l ≡ False p in
    (p, lt, subst F (negated_twice m) (false_negated values (negated m) p (subst P w.2 now)))

pub true_same : (c c' : List Clause) (values values' : List Value) (trail trail' : List Entry) (d : ℕ) → IsTrail c values trail → IsTrail c' values' trail' →
    ((j : ℕ) (e : Entry) → j < d → slice_get trail j ≡ Some e → slice_get trail' j ≡ Some e) →
    (m : Literal) → TrueBefore values d m → TrueBefore values' d m
true_same c c' values values' trail trail' d t t' same m (p, lt, is) =
    let w = t.placed m p is in
    let now = t'.set p w.0 (same p w.0 lt w.1) in
    let P : Literal → Type 0 = λ l. status_of values' l ≡ True p in
    (p, lt, subst P w.2 now)

pub trail_less : (clauses : List Clause) (values : List Value) (trail : List Entry) (e : Entry) →
    IsTrail clauses values (trail ++ e ∷ []) → IsTrail clauses (set values e.literal.number Unset) trail
trail_less clauses values trail e t =
    let top : status_of values e.literal ≡ True (length trail) = t.set (length trail) e (get_push_new trail e) in
    let within = atom_within values e.literal (length trail) top in
    let apart : (m : Literal) (p : ℕ) → p < length trail → status_of values m ≡ True p → ¬ (m.number ≡ e.literal.number) =
    λ m p lt is a. let q : p ≡ length trail = place_by_atom values m e.literal p (length trail) a is top in absurd (omega arith) in
    let apart_false : (m : Literal) (p : ℕ) → p < length trail → status_of values m ≡ False p → ¬ (m.number ≡ e.literal.number) =
    λ m p lt is a. let q : p ≡ length trail = place_by_atom_false values m e.literal p (length trail) a is top in absurd (omega arith) in
    record {
      set = λ j x at.
          let is = t.set j x (get_push_old trail j e x at) in
          status_set_other values e.literal.number Unset x.literal (apart x.literal j (slice_get_within trail j x at) is) ∙ is;
      placed = λ l p is. elim (same_atom l.number e.literal.number) [
        | inl a ↦ absurd (unset_now values e.literal.number l p within a is)
        | inr na ↦
            let w = t.placed l p (sym (status_set_other values e.literal.number Unset l na) ∙ is) in
            elim (get_push_cases trail p e w.0 w.1) [
              | inl old ↦ (w.0, old, w.2)
              | inr new ↦ absurd (na (ap (λ x. x.number) (sym w.2) ∙ ap (λ x. x.literal.number) new.1))
            ]
      ];
      reasoned = λ j r x at why.
          let w = t.reasoned j r x (get_push_old trail j e x at) why in
          let lt = slice_get_within trail j x at in (
            w.0,
            w.1,
            w.2,
            All-weaker (λ m. (m ≡ x.literal) ⊎ FalseBefore values j m) (λ m. (m ≡ x.literal) ⊎ FalseBefore (set values e.literal.number Unset) j m)
                (λ m h. elim h [ inl s ↦ inl s | inr f ↦ inr (f.0, f.1, status_set_other values e.literal.number Unset m (apart_false m f.0 (let q : f.0 < j = f.1 in omega arith) f.2) ∙ f.2) ]) w.0.literals.items w.3,
          );
    }

pub popped_within : (clauses : List Clause) (values : List Value) (xs ys : List Entry) (e : Entry) → xs ≡ ys ++ e ∷ [] → IsTrail clauses values xs → e.literal.number < length values
popped_within clauses values xs ys e is t =
    atom_within values e.literal (length ys) (t.set (length ys) e (ap (λ l. slice_get l (length ys)) is ∙ get_push_new ys e))

pub popped_sound : (clauses : List Clause) (values : List Value) (xs ys : List Entry) (e : Entry) → xs ≡ ys ++ e ∷ [] → IsTrail clauses values xs → IsTrail clauses (set values e.literal.number Unset) ys
popped_sound clauses values xs ys e is t = let P : List Entry → Type 0 = λ l. IsTrail clauses values l in trail_less clauses values ys e (subst P is t)

pub popped_take : (cut : ℕ) (xs ys : List Entry) (e : Entry) → xs ≡ ys ++ e ∷ [] → cut ≤ length ys → take cut ys ≡ take cut xs
popped_take cut xs ys e is h = sym (take-append-le cut ys (e ∷ []) h) ∙ ap (take cut) (sym is)

pub popped_room : (cut n m : ℕ) (xs ys : List Entry) (e : Entry) → xs ≡ ys ++ e ∷ [] → n ≡ length xs → m ≡ length ys → cut < n → cut ≤ m
popped_room cut n m xs ys e is en em lt = let l = ap length is ∙ length-append ys (e ∷ []) in let t : cut < length ys + 1 = subst (λ (k : ℕ). cut < k) (en ∙ l) lt in subst (λ (k : ℕ). cut ≤ k) (sym em) (omega arith)
