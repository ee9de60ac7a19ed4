-- The literal that was made false last.
use Rattle.std.proofs.Common.{◌≡◌, ℕ, ◌<◌, ◌≤◌, ◌⊎◌, inl, inr, List, [], ◌∷◌, ◌++◌, length, take, Option, Some, None, refl, sym, ◌∙◌, subst, ap, arith}
use Rattle.std.specs.List.{slice_get, Contains}
use Rattle.std.proofs.lemmas.List.{length-take-le}
use Rattle.std.proofs.lemmas.List.Elements.{All-contains, All-weaker, All-push, All-nil, Contains-push, Contains-append_left}
use Rattle.cs_certificate.specs.declared.literal.Literal.{Literal}
use Rattle.cs_search.specs.declared.Value.{Value}
use Rattle.cs_search.specs.declared.Entry.{Entry}
use Rattle.cs_certificate.specs.declared.literal.Clause.{Clause}
use Rattle.cs_search.specs.declared.learn.Top.{Top}
use Rattle.cs_search.specs.declared.Status.TheVariants.{Unassigned, True, False}
use Rattle.cs_search.specs.Assignment.{negated, status_of, FalseBefore, LeavesOnly, IsFalse, IsTrail}
use Rattle.cs_search.specs.Top.{IsTop}
use Rattle.cs_search.specs.declared.Status.{Status}
use Rattle.cs_search.specs.Settled.{IsSettled, Forces}
use Rattle.cs_search.proofs.Trails.{false_same}
use Rattle.cs_search.proofs.Statuses.{never_both, same_atom, true_negated, negated_twice}
use Rattle.cs_search.proofs.Settles.{take_has, take_kept, false_more}

pub top_first : (values : List Value) (c : List Literal) (l : Literal) (p : ℕ) → status_of values l ≡ False p → IsTop values c None → IsTop values (c ++ l ∷ []) (Some record { literal = l; place = p })
top_first values c l p is e =
    let P : List Literal → Type 0 = λ x. LeavesOnly values p x l in
    (Contains-push c l, is, All-push (λ m. (m ≡ l) ⊎ FalseBefore values p m) c l (subst P (sym e) (All-nil (λ m. (m ≡ l) ⊎ FalseBefore values p m))) (inl refl))

pub top_later : (values : List Value) (c : List Literal) (t : Top) (l : Literal) (p : ℕ) → status_of values l ≡ False p → t.place < p → IsTop values c (Some t) → IsTop values (c ++ l ∷ []) (Some record { literal = l; place = p })
top_later values c t l p is lt w = (
  Contains-push c l,
  is,
  All-push (λ m. (m ≡ l) ⊎ FalseBefore values p m) c l
      (All-weaker (λ m. (m ≡ t.literal) ⊎ FalseBefore values t.place m) (λ m. (m ≡ l) ⊎ FalseBefore values p m)
      (λ m y. elim y [
        | inl e ↦ inr (let P : Literal → Type 0 = λ x. FalseBefore values p x in subst P (sym e) (t.place, lt, w.1))
        | inr f ↦ inr (false_more values t.place p m (omega arith) f)
      ]) c w.2) (inl refl),
)

pub same_place : (clauses : List Clause) (values : List Value) (trail : List Entry) (l m : Literal) (p : ℕ) → IsTrail clauses values trail → status_of values l ≡ False p → status_of values m ≡ False p → l ≡ m
same_place clauses values trail l m p t el em =
    let a = t.placed (negated l) p (true_negated values l p el) in
    let b = t.placed (negated m) p (true_negated values m p em) in
    let e : a.0 ≡ b.0 = let x = sym a.1 ∙ b.1 in cc in
    sym (negated_twice l) ∙ ap negated (sym a.2 ∙ ap (λ x. x.literal) e ∙ b.2) ∙ negated_twice m

pub top_stays : (clauses : List Clause) (values : List Value) (trail : List Entry) (c : List Literal) (t : Top) (l : Literal) (p : ℕ) → IsTrail clauses values trail → status_of values l ≡ False p → p ≤ t.place → IsTop values c (Some t) → IsTop values (c ++ l ∷ []) (Some t)
top_stays clauses values trail c t l p s is le w = (
  Contains-append_left c (l ∷ []) t.literal w.0,
  w.1,
  All-push (λ m. (m ≡ t.literal) ⊎ FalseBefore values t.place m) c l w.2
      (elim (same_atom p t.place) [
        | inl e ↦ inl (same_place clauses values trail l t.literal t.place s (is ∙ ap (λ n. False n) e) w.1)
        | inr ne ↦ inr (p, (let n : ¬ (p ≡ t.place) = ne in omega arith), is)
      ]),
)

pub top_at : (values : List Value) (c c' : List Literal) (o : Option Top) → c ≡ c' → IsTop values c o → IsTop values c' o
top_at values c c' o e h = let P : List Literal → Type 0 = λ x. IsTop values x o in subst P e h

pub option_top : (values : List Value) (c : List Literal) (o o' : Option Top) → o ≡ o' → IsTop values c o → IsTop values c o'
option_top values c o o' e h = let P : Option Top → Type 0 = λ x. IsTop values c x in subst P e h

unassigned_by : (s : Status) → ((p : ℕ) → s ≡ True p → ⊥) → ((p : ℕ) → s ≡ False p → ⊥) → s ≡ Unassigned
unassigned_by Unassigned a b = refl
unassigned_by (True p) a b = absurd (a p refl)
unassigned_by (False p) a b = absurd (b p refl)

-- after the assignment is taken back to the cut, the clause forces its literal
pub forced_there : (clauses : List Clause) (values values' : List Value) (trail trail' : List Entry) (lits : List Literal) (forced : Literal) (cut : ℕ) →
    IsTrail clauses values trail → IsTrail clauses values' trail' → trail' ≡ take cut trail → cut ≤ length trail → IsSettled values trail lits forced cut → IsFalse values (length trail) lits → Contains lits forced →
    Forces values' (length trail') lits forced
forced_there clauses values values' trail trail' lits forced cut t t' et le settled f in' =
    let L : ℕ → Type 0 = λ k. LeavesOnly values' k lits forced in
    let len : length trail' ≡ cut = ap (λ x. length x) et ∙ length-take-le cut trail le in
    let on : (j : ℕ) (e : Entry) → j < cut → slice_get trail j ≡ Some e → slice_get trail' j ≡ Some e = λ j e lt at. ap (λ x. slice_get x j) et ∙ take_has trail cut j e lt at in
    let back : (j : ℕ) (e : Entry) → slice_get trail' j ≡ Some e → (slice_get trail j ≡ Some e) × (j < cut) = λ j e at. take_kept trail cut j e (ap (λ x. slice_get x j) (sym et) ∙ at) in
    let no = All-contains (FalseBefore values (length trail)) lits forced f in' in
    record {
      contained = in';
      free = unassigned_by (status_of values' forced)
          (λ p is.
          let w = t'.placed forced p is in
          let P : Literal → Type 0 = λ x. status_of values x ≡ True p in
          never_both values forced p no.0 (subst P w.2 (t.set p w.0 (back p w.0 w.1).0)) no.2)
          (λ p is.
          let w = t'.placed (negated forced) p (true_negated values' forced p is) in
          settled.open' (false_same clauses clauses values values' trail trail' cut t t' (λ j e lt at. (back j e at).0) forced (p, (back p w.0 w.1).1, is)));
      leaves = subst L (sym len) (All-weaker (λ m. (m ≡ forced) ⊎ FalseBefore values cut m) (λ m. (m ≡ forced) ⊎ FalseBefore values' cut m)
          (λ m y. elim y [ inl e ↦ inl e | inr h ↦ inr (false_same clauses clauses values' values trail' trail cut t' t on m h) ]) lits settled.leaves);
    }

pub forces_there : (clauses : List Clause) (values values' vs : List Value) (trail trail' ts : List Entry) (lits ls : List Literal) (cut : ℕ) →
    IsTrail clauses values trail → IsTrail clauses values' trail' → trail' ≡ take cut trail → cut ≤ length trail → IsFalse values (length trail) lits → ls ≡ lits →
    ((ls ≡ []) ⊎ ((forced : Literal) × Contains ls forced × IsSettled values trail ls forced cut)) →
    (lits ≡ []) ⊎ ((forced : Literal) × Forces values' (length trail') lits forced)
forces_there clauses values values' vs trail trail' ts lits ls cut t t' et le f el (inl e) = inl (sym el ∙ e)
forces_there clauses values values' vs trail trail' ts lits ls cut t t' et le f el (inr w) =
    let P : List Literal → Type 0 = λ x. Contains x w.0 × IsSettled values trail x w.0 cut in
    let s = subst P el (w.1, w.2) in
    inr (w.0, forced_there clauses values values' trail trail' lits w.0 cut t t' et le s.1 f s.0)
