-- What a visit of one clause makes of the assignment.
use Rattle.std.proofs.Common.{◌≡◌, ℕ, zero, suc, ◌<◌, inl, inr, Bool, true, false, List, [], ◌∷◌, ◌++◌, length, get_or, set, Option, Some, refl, sym, ◌∙◌, subst, ap, arith}
use Rattle.std.specs.List.{slice_get, Contains}
use Rattle.std.proofs.lemmas.Option.{slice_get_within, slice_get_read}
use Rattle.std.proofs.lemmas.List.{length-set, length-append}
use Rattle.std.proofs.lemmas.List.Elements.{All-contains}
use Rattle.cs_certificate.specs.declared.literal.Literal.{Literal}
use Rattle.cs_search.specs.declared.Value.{Value}
use Rattle.cs_search.specs.declared.Value.TheVariants.{Unset, Positive, Negative}
use Rattle.cs_search.specs.declared.Status.TheVariants.{Unassigned, True, False}
use Rattle.cs_search.specs.declared.Entry.{Entry}
use Rattle.cs_certificate.specs.declared.literal.Clause.{Clause}
use Rattle.cs_search.specs.Settled.{Forces}
use Rattle.cs_search.specs.Assignment.{negated, seen_or, valued, IsTrail, IsForced, IsPlacedBelow, IsUnassigned}
use Rattle.cs_search.specs.Extended.{is_unset, unset_count, AreKnown, IsExtended}
use Rattle.cs_search.proofs.Gets.{get_push_old, get_push_cases}
use Rattle.cs_search.proofs.Statuses.{true_negated}
use Rattle.cs_search.proofs.Trails.{trail_more}

pub placed_below : (clauses : List Clause) (values : List Value) (trail : List Entry) → IsTrail clauses values trail → IsPlacedBelow values (length trail)
placed_below clauses values trail t l p is = let w = t.placed (negated l) p (true_negated values l p is) in slice_get_within trail p w.0 w.1

seen_unset : (b : Bool) (o : Option Value) (v : Value) → o ≡ Some v → seen_or b o ≡ Unassigned → v ≡ Unset
seen_unset b o Unset e u = refl
seen_unset true o (Positive p) e u = let t : True p ≡ Unassigned = sym (ap (seen_or true) e) ∙ u in cc
seen_unset false o (Positive p) e u = let t : False p ≡ Unassigned = sym (ap (seen_or false) e) ∙ u in cc
seen_unset true o (Negative p) e u = let t : False p ≡ Unassigned = sym (ap (seen_or true) e) ∙ u in cc
seen_unset false o (Negative p) e u = let t : True p ≡ Unassigned = sym (ap (seen_or false) e) ∙ u in cc

count_set : (values : List Value) (a : ℕ) (v : Value) → slice_get values a ≡ Some Unset → is_unset v ≡ false → suc (unset_count (set values a v)) ≡ unset_count values
count_set [] a v e f = cc
count_set (Unset ∷ values) zero Unset e f = cc
count_set (Unset ∷ values) zero (Positive p) e f = refl
count_set (Unset ∷ values) zero (Negative p) e f = refl
count_set (Positive p ∷ values) zero v e f = cc
count_set (Negative p ∷ values) zero v e f = cc
count_set (Unset ∷ values) (suc a) v e f = ap (λ n. suc n) (count_set values a v e f)
count_set (Positive p ∷ values) (suc a) v e f = count_set values a v e f
count_set (Negative p ∷ values) (suc a) v e f = count_set values a v e f

valued_set : (b : Bool) (p : ℕ) → is_unset (valued b p) ≡ false
valued_set true p = refl
valued_set false p = refl

pub some_value : (values : List Value) (a : ℕ) → a < length values → (v : Value) × (slice_get values a ≡ Some v)
some_value [] a h = absurd (omega arith)
some_value (x ∷ values) zero h = (x, refl)
some_value (x ∷ values) (suc a) h = some_value values a (omega arith)

pub count_assigned : (values : List Value) (l : Literal) (p : ℕ) → l.number < length values → IsUnassigned values l → suc (unset_count (set values l.number (valued l.positive p))) ≡ unset_count values
count_assigned values l p lt u =
    let w = some_value values l.number lt in
    count_set values l.number (valued l.positive p) (w.1 ∙ ap (λ v. Some v) (seen_unset l.positive (slice_get values l.number) w.0 w.1 u)) (valued_set l.positive p)

pub extended_itself : (clauses : List Clause) (values : List Value) (trail : List Entry) → IsTrail clauses values trail → IsExtended clauses values trail values trail
extended_itself clauses values trail t = record { sound = t; width = refl; kept = λ j e h. h; forced = λ j e h. inl h; fewer = omega arith; counted = refl }

pub extended_by : (clauses : List Clause) (values values' : List Value) (trail trail' : List Entry) (i : ℕ) (c : Clause) (l : Literal) →
    IsTrail clauses values trail → slice_get clauses i ≡ Some c → l.number < length values → Forces values (length trail) c.literals.items l →
    values' ≡ set values l.number (valued l.positive (length trail)) → trail' ≡ trail ++ record { literal = l; reason = Some i } ∷ [] →
    IsExtended clauses values trail values' trail'
extended_by clauses values values' trail trail' i c l t at lt f ev et =
    let e : Entry = record { literal = l; reason = Some i } in
    let forced : IsForced clauses values (length trail) e = λ r why. (c, ap (slice_get clauses) (let s : r ≡ i = cc in s) ∙ at, f.contained, f.leaves) in
    let P : List Value → Type 0 = λ v. IsExtended clauses values trail v (trail ++ e ∷ []) in
    let Q : List Entry → Type 0 = λ x. IsExtended clauses values trail values' x in
    subst Q (sym et) (subst P (sym ev) record {
      sound = trail_more clauses values trail e t f.free lt forced;
      width = length-set values l.number (valued l.positive (length trail));
      kept = λ j x h. get_push_old trail j e x h;
      forced = λ j x h. elim (get_push_cases trail j e x h) [ inl old ↦ inl old | inr new ↦ inr (i, ap (λ y. y.reason) new.1) ];
      fewer = let n = count_assigned values l (length trail) lt f.free in omega arith;
      counted = let n = count_assigned values l (length trail) lt f.free in omega (arith, n, length-append trail (e ∷ []));
    })

pub extended_twice : (clauses : List Clause) (v1 v2 v3 : List Value) (t1 t2 t3 : List Entry) → IsExtended clauses v1 t1 v2 t2 → IsExtended clauses v2 t2 v3 t3 → IsExtended clauses v1 t1 v3 t3
extended_twice clauses v1 v2 v3 t1 t2 t3 a b = record {
  sound = b.sound;
  width = b.width ∙ a.width;
  kept = λ j e h. b.kept j e (a.kept j e h);
  forced = λ j e h. elim (b.forced j e h) [ inl old ↦ a.forced j e old | inr r ↦ inr r ];
  fewer = let x = a.fewer in let y = b.fewer in omega arith;
  counted = b.counted ∙ a.counted;
}

pub known_atom : (clauses : List Clause) (n i : ℕ) (c : Clause) (l : Literal) → AreKnown clauses n → slice_get clauses i ≡ Some c → Contains c.literals.items l → l.number < n
known_atom clauses n i c l k at in' = All-contains (λ m. m.number < n) c.literals.items l (k i c at) in'

pub at_index : (clauses : List Clause) (i : ℕ) (clause : Clause) → i < length clauses → clause ≡ get_or clauses i clause → slice_get clauses i ≡ Some clause
at_index clauses i clause lt is = slice_get_read clauses (length clauses) i clause refl lt is

pub fewer : (values values' : List Value) (l : Literal) (p : ℕ) → l.number < length values → IsUnassigned values l → values' ≡ set values l.number (valued l.positive p) → unset_count values' < unset_count values
fewer values values' l p lt u e =
    let n = count_assigned values l p lt u in
    let P : List Value → Type 0 = λ v. unset_count v < unset_count values in
    let t : unset_count (set values l.number (valued l.positive p)) < unset_count values = omega arith in
    subst P (sym e) t
