-- One round of a search.
use Rattle.std.proofs.Common.{◌≡◌, ℕ, ◌+◌, ◌-◌, ◌*◌, ◌<◌, ◌≤◌, ◌⊎◌, inl, inr, Bool, true, false, List, [], ◌∷◌, ◌++◌, length, set, Option, Some, None, IfSome, IfNone, refl, sym, ◌∙◌, subst, ap, arith}
use Rattle.std.specs.List.{slice_get, All}
use Rattle.std.proofs.lemmas.Option.{slice_get_within}
use Rattle.std.proofs.lemmas.List.{length-set}
use Rattle.std.proofs.lemmas.List.Elements.{All-cons, All-head, All-tail, All-nil}
use Rattle.cs_certificate.specs.declared.literal.Literal.{Literal}
use Rattle.cs_search.specs.declared.Value.{Value}
use Rattle.cs_search.specs.declared.Value.TheVariants.{Unset, Positive, Negative}
use Rattle.cs_search.specs.declared.Status.TheVariants.{True, False}
use Rattle.cs_search.specs.declared.Entry.{Entry}
use Rattle.cs_certificate.specs.declared.literal.Clause.{Clause}
use Rattle.cs_meter.specs.declared.Meter.{Meter}
use Rattle.cs_meter.specs.Units.{limit}
use Rattle.cs_search.specs.declared.search.Turn.{Turn}
use Rattle.cs_search.specs.Assignment.{seen_or, status_of, valued, FalseBefore, IsFalse, IsTrail, IsForced, IsClosed, IsSatisfied, IsUnassigned}
use Rattle.cs_search.specs.Extended.{AreClosed, IsExtended, unset_count}
use Rattle.cs_search.specs.Settled.{IsLatest}
use Rattle.cs_search.specs.Learned.{IsLastDecision}
use Rattle.cs_search.specs.Search.{IsSearch, AreSet, AreSatisfied, IsOn, IsRound}
use Rattle.cs_search.proofs.Gets.{get_push_old, get_push_cases}
use Rattle.cs_search.proofs.Trails.{trail_more}
use Rattle.cs_search.proofs.Passes.{placed_below, some_value}
use Rattle.cs_search.proofs.Added.{contains_here, contains_there}
use Rattle.cs_search.proofs.Analyses.{closed_not_false}
use Rattle.cs_search.proofs.Settles.{closed_extended, closed_same}

pub extended_search : (clauses : List Clause) (values values' : List Value) (trail trail' : List Entry) → IsSearch clauses values trail → IsExtended clauses values trail values' trail' → IsSearch clauses values' trail'
extended_search clauses values values' trail trail' s x =
    let N : ℕ → Clause → Type 0 = λ k c. All (λ l. l.number < k) c.literals.items in
    record {
      sound = x.sound;
      known = λ i c at. let Q : ℕ → Type 0 = λ k. N k c in subst Q (sym x.width) (s.known i c at);
      closed = closed_extended clauses values values' trail trail' s.sound s.closed x;
    }

pub decided_search : (clauses : List Clause) (values values' : List Value) (trail trail' : List Entry) (l : Literal) →
    IsSearch clauses values trail → AreClosed clauses values (length trail) (length clauses) → IsUnassigned values l → l.number < length values →
    values' ≡ set values l.number (valued l.positive (length trail)) → trail' ≡ trail ++ record { literal = l; reason = None } ∷ [] → IsSearch clauses values' trail'
decided_search clauses values values' trail trail' l s closed u lt ev et =
    let e : Entry = record { literal = l; reason = None } in
    let none : IsForced clauses values (length trail) e = λ r why. (let x : None ≡ Some r = why in cc) in
    let new = set values l.number (valued l.positive (length trail)) in
    let t = trail_more clauses values trail e s.sound u lt none in
    let P : List Value → Type 0 = λ v. IsSearch clauses v (trail ++ e ∷ []) in
    let Q : List Entry → Type 0 = λ x. IsSearch clauses values' x in
    let N : ℕ → Clause → Type 0 = λ k c. All (λ l. l.number < k) c.literals.items in
    let same : (d : ℕ) (c : Clause) → d ≤ length trail → IsClosed values d c.literals.items → IsClosed new d c.literals.items =
    λ d c le h. closed_same clauses clauses values new trail (trail ++ e ∷ []) d c.literals.items s.sound t
    (λ j y j_lt at. elim (get_push_cases trail j e y at) [ inl old ↦ old | inr x ↦ absurd (let q : j ≡ length trail = x.0 in omega arith) ])
    (λ j y j_lt at. get_push_old trail j e y at) h in
    subst Q (sym et) (subst P (sym ev) record {
      sound = t;
      known = λ i c at. (let K : ℕ → Type 0 = λ k. N k c in subst K (sym (length-set values l.number (valued l.positive (length trail)))) (s.known i c at));
      closed = λ d x at why i c here. elim (get_push_cases trail d e x at) [
        | inl old ↦ same d c (let a = slice_get_within trail d x old in omega arith) (s.closed d x old why i c here)
        | inr q ↦
            let D : ℕ → Type 0 = λ k. IsClosed new k c.literals.items in
            subst D (sym q.0) (same (length trail) c (omega arith) (closed i c (slice_get_within clauses i c here) here))
      ];
    })

seen_set : (b : Bool) (v : Value) → ¬ (v ≡ Unset) → (p : ℕ) × ((seen_or b (Some v) ≡ True p) ⊎ (seen_or b (Some v) ≡ False p))
seen_set b Unset ne = absurd (ne refl)
seen_set true (Positive p) ne = (p, inl refl)
seen_set false (Positive p) ne = (p, inr refl)
seen_set true (Negative p) ne = (p, inr refl)
seen_set false (Negative p) ne = (p, inl refl)

assigned : (values : List Value) (l : Literal) → AreSet values → l.number < length values → (p : ℕ) × ((status_of values l ≡ True p) ⊎ (status_of values l ≡ False p))
assigned values l all lt =
    let w = some_value values l.number lt in
    let x = seen_set l.positive w.0 (all l.number w.0 w.1) in
    let e = ap (seen_or l.positive) w.1 in
    (x.0, elim x.1 [ inl t ↦ inl (e ∙ t) | inr f ↦ inr (e ∙ f) ])

satisfied_or_false : (clauses : List Clause) (values : List Value) (trail : List Entry) → IsTrail clauses values trail → AreSet values → (c : List Literal) → All (λ l. l.number < length values) c →
    IsSatisfied values c ⊎ IsFalse values (length trail) c
satisfied_or_false clauses values trail t all [] known = inr (All-nil (FalseBefore values (length trail)))
satisfied_or_false clauses values trail t all (l ∷ c) known =
    let here = assigned values l all (All-head (λ l. l.number < length values) l c known) in
    elim here.1 [
      | inl t' ↦ inl (l, here.0, contains_here l c, t')
      | inr f' ↦ elim (satisfied_or_false clauses values trail t all c (All-tail (λ l. l.number < length values) l c known)) [
        | inl s ↦ inl (s.0, s.1, contains_there l c s.0 s.2, s.3)
        | inr f ↦ inr (All-cons (FalseBefore values (length trail)) l c (here.0, placed_below clauses values trail t l here.0 f', f') f)
      ]
    ]

pub all_satisfied : (clauses : List Clause) (values : List Value) (trail : List Entry) → IsSearch clauses values trail → AreClosed clauses values (length trail) (length clauses) → AreSet values → AreSatisfied clauses values
all_satisfied clauses values trail s closed all i c at = elim (satisfied_or_false clauses values trail s.sound all c.literals.items (s.known i c at)) [
  | inl y ↦ y
  | inr f ↦ absurd (closed_not_false values (length trail) c.literals.items (closed i c (slice_get_within clauses i c at) at) f)
]

pub last_found : (trail : List Entry) (d : ℕ) → IsLatest trail (length trail) (Some d) → IsLastDecision trail d
last_found trail d w = record { decision = w.1; last = λ j e lt at. w.2 j e lt (slice_get_within trail j e at) at }

pub unset_unassigned : (values : List Value) (l : Literal) → slice_get values l.number ≡ Some Unset → IsUnassigned values l
unset_unassigned values l e = ap (seen_or l.positive) e

pub extended_over : (clauses clauses' : List Clause) (v v' : List Value) (t t' : List Entry) → clauses' ≡ clauses → IsExtended clauses' v t v' t' → IsExtended clauses v t v' t'
extended_over clauses clauses' v v' t t' e x = let P : List Clause → Type 0 = λ c. IsExtended c v t v' t' in subst P e x

pub latest_found : (trail : List Entry) (r : Option ℕ) (n : ℕ) → n ≡ length trail → IsLatest trail n r → IfSome r (IsLastDecision trail)
latest_found trail None n e w = tt
latest_found trail (Some d) n e w = let P : ℕ → Type 0 = λ k. IsLatest trail k (Some d) in last_found trail d (subst P e w)

-- the measure of a search
pub unset_bound : (values : List Value) → unset_count values ≤ length values
unset_bound [] = omega arith
unset_bound (Unset ∷ values) = let h = unset_bound values in omega arith
unset_bound (Positive p ∷ values) = let h = unset_bound values in omega arith
unset_bound (Negative p ∷ values) = let h = unset_bound values in omega arith

mul_mono : (k m n : ℕ) → m ≤ n → m * k ≤ n * k
mul_mono k m n h = grind arith

pub measure_spent : (a b w u v : ℕ) → b + 1 ≤ a → u ≤ w → b * (w + 1) + u < a * (w + 1) + v
measure_spent a b w u v h le =
    let m : (b + 1) * (w + 1) ≤ a * (w + 1) = mul_mono (w + 1) (b + 1) a h in
    let e : (b + 1) * (w + 1) ≡ b * (w + 1) + (w + 1) = grind arith in
    omega (arith, m, e)

pub none_closed : (clauses clauses' : List Clause) (v : List Value) (n : ℕ) (found : Option ℕ) → clauses' ≡ clauses → IfNone found (AreClosed clauses' v n (length clauses')) → IfNone found (AreClosed clauses v n (length clauses))
none_closed clauses clauses' v n found e h = let P : List Clause → Type 0 = λ x. IfNone found (AreClosed x v n (length x)) in subst P e h

pub set_over : (v v' : List Value) → v' ≡ v → AreSet v' → AreSet v
set_over v v' e h = let P : List Value → Type 0 = λ x. AreSet x in subst P e h

pub get_over : (v v' : List Value) (a : ℕ) → v' ≡ v → slice_get v' a ≡ Some Unset → slice_get v a ≡ Some Unset
get_over v v' a e h = ap (λ x. slice_get x a) (sym e) ∙ h

pub latest_over : (t t' : List Entry) (n : ℕ) (r : Option ℕ) → t' ≡ t → IsLatest t' n r → IsLatest t n r
latest_over t t' n r e h = let P : List Entry → Type 0 = λ x. IsLatest x n r in subst P e h

pub measure_on : (old new : List Value) (w : ℕ) (before after : Meter) → IsOn old new before after → length new ≡ w → length old ≡ w →
    (limit - after.spent) * (length new + 1) + unset_count new < (limit - before.spent) * (length old + 1) + unset_count old
measure_on old new w before after (inl (s, lt)) en eo =
    let P : ℕ → ℕ → Type 0 = λ m n. (limit - after.spent) * (m + 1) + unset_count new < (limit - before.spent) * (n + 1) + unset_count old in
    let bound = unset_bound new in
    let h = measure_spent (limit - before.spent) (limit - after.spent) w (unset_count new) (unset_count old) (omega arith) (omega arith) in
    subst (λ (m : ℕ). P m (length old)) (sym en) (subst (λ (n : ℕ). P w n) (sym eo) h)
measure_on old new w before after (inr (s, lt)) en eo =
    let P : ℕ → ℕ → Type 0 = λ m n. (limit - after.spent) * (m + 1) + unset_count new < (limit - before.spent) * (n + 1) + unset_count old in
    let e : limit - after.spent ≡ limit - before.spent = omega arith in
    let h : (limit - after.spent) * (w + 1) + unset_count new < (limit - before.spent) * (w + 1) + unset_count old =
    subst (λ (x : ℕ). x * (w + 1) + unset_count new < (limit - before.spent) * (w + 1) + unset_count old) (sym e) (omega (arith, lt)) in
    subst (λ (m : ℕ). P m (length old)) (sym en) (subst (λ (n : ℕ). P w n) (sym eo) h)

pub round_at : (clauses : List Clause) (old new : List Value) (before after : Meter) (t u : Turn) → t ≡ u → IsRound clauses old new before after t → IsRound clauses old new before after u
round_at clauses old new before after t u e h = let P : Turn → Type 0 = λ x. IsRound clauses old new before after x in subst P e h
