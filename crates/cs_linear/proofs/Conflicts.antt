-- Blocking bounds and a broken one contradict one another; and a contradiction has no solution.
use Rattle.std.proofs.Common.{◌≡◌, ℕ, zero, suc, ◌<◌, ◌≤◌, Bool, true, false, true≢false, nat_eq, if◌then◌else◌, List, [], ◌∷◌, ◌++◌, Some, None, length, slice_get, refl, sym, ◌∙◌, ap, ap₂, subst, All, arith}
use Rattle.std.proofs.lemmas.List.Elements.{All-append, All-cons, All-nil, All-head, All-tail, All-weaker, All-get_or}
use Rattle.std.proofs.lemmas.Bool.{eq-eqb, eqb-true}
use Rattle.std.proofs.lemmas.Option.{slice_get_within, get_or_from_slice_get, same_Some}
use Rattle.vx_frac.specs.Fractions.{Fraction, none, lowest}
use Rattle.vx_frac.specs.Fraction.{fraction}
use Rattle.vx_frac.specs.declared.Frac.{Frac}
use Rattle.vx_frac.proofs.Reduced.{lowest_fraction}
use Rattle.vx_amounts.proofs.Amounts.{le-refl}
use Rattle.cs_linear.specs.Numbers.{plus, times}
use Rattle.cs_linear.specs.Amounts.{Amount, pair, amount, has_sign}
use Rattle.cs_linear.specs.Rows.{Assignment, Homes, AreAlike, AreFree, Ascends, IsFree, Solves, total, factor_at}
use Rattle.cs_linear.specs.Contradictions.{columns, limits, main_of, delta_of, amount_at, is_broken, Meets, IsAmong, IsPart, IsBlocking, IsContradiction}
use Rattle.cs_linear.specs.Checks.{own, toward, IsWay}
use Rattle.cs_linear.specs.Values.{values}
use Rattle.cs_linear.specs.declared.check.Way.{Way}
use Rattle.cs_linear.specs.declared.bounds.Side.{Side}
use Rattle.cs_linear.specs.declared.bounds.Side.TheVariants.{AtLeast, AtMost}
use Rattle.cs_linear.specs.declared.bounds.Bound.{Bound}
use Rattle.cs_linear.specs.declared.bounds.Part.{Part}
use Rattle.cs_linear.specs.declared.rows.Entry.{Entry}
use Rattle.cs_linear.specs.declared.rows.Row.{Row}
use Rattle.cs_linear.proofs.Arithmetic.{plus_comm, plus_none, none_times, plus_times, times_lowest, plus_minus}
use Rattle.cs_linear.proofs.Lists.{here_is}
use Rattle.cs_linear.proofs.Judged.{columns_more, limits_more}
use Rattle.cs_linear.proofs.Orders.{AtMostOf, LessOf, most_more, most_less, full_scaled, broken_scaled, met_scaled, less_in, less_out}

-- the factor of a column that stands in a sum that ascends

unmet : (b : Bool) (x y : Fraction) → (b ≡ true → ⊥) → y ≡ none → (if b then x else y) ≡ none
unmet true x y never h = absurd (never refl)
unmet false x y never h = h

absent : (n : ℕ) (es : List Entry) (j : ℕ) → j < n → Ascends n es → factor_at es j ≡ none
absent n [] j lt h = refl
absent n (e ∷ es) j lt h =
    let le = h.0 in
    unmet (nat_eq e.column j) _ _ (λ is. let same = eqb-true e.column j is in omega arith) (absent (suc e.column) es j (omega arith) h.1)

at_least : (n : ℕ) (es : List Entry) (i : ℕ) (e : Entry) → Ascends n es → slice_get es i ≡ Some e → n ≤ e.column
at_least n (x ∷ es) zero e h is = subst (λ (y : Entry). n ≤ y.column) (same_Some x e is) h.0
at_least n (x ∷ es) (suc i) e h is = let a = h.0 in let b = at_least (suc x.column) es i e h.1 is in omega arith
at_least n [] i e h is = absurd (nothing i is) where
  nothing : (i : ℕ) → slice_get [] i ≡ Some e → ⊥
  nothing zero is = cc
  nothing (suc i) is = cc

pub factor_is : (n : ℕ) (es : List Entry) (i : ℕ) (e : Entry) → Ascends n es → slice_get es i ≡ Some e → fraction e.factor ≡ factor_at es e.column
factor_is n [] i e h is = absurd (nothing i is) where
  nothing : (i : ℕ) → slice_get [] i ≡ Some e → ⊥
  nothing zero is = cc
  nothing (suc i) is = cc
factor_is n (x ∷ es) zero e h is = subst (λ (y : Entry). fraction y.factor ≡ factor_at (x ∷ es) y.column) (same_Some x e is) (here (nat_eq x.column x.column) (eq-eqb x.column x.column refl)) where
  here : (b : Bool) → b ≡ true → fraction x.factor ≡ (if b then plus (fraction x.factor) (factor_at es x.column) else factor_at es x.column)
  here true e = sym (ap (plus (fraction x.factor)) (absent (suc x.column) es x.column (omega arith) h.1) ∙ plus_none _ ∙ lowest_fraction x.factor)
  here false e = absurd (true≢false (sym e))
factor_is n (x ∷ es) (suc i) e h is = factor_is (suc x.column) es i e h.1 is ∙ further (nat_eq x.column e.column) refl where
  further : (b : Bool) → nat_eq x.column e.column ≡ b → factor_at es e.column ≡ (if b then plus (fraction x.factor) (factor_at es e.column) else factor_at es e.column)
  further false same = refl
  further true same = absurd (let k = eqb-true x.column e.column same in let le = at_least (suc x.column) es i e h.1 is in omega arith)

pub free_at : (homes : Homes) (es : List Entry) (i : ℕ) (e : Entry) → AreFree homes es → slice_get es i ≡ Some e → IsFree homes e.column
free_at homes es i e h is = subst (λ (e : Entry). IsFree homes e.column) (get_or_from_slice_get es i e e is) (All-get_or (λ (e : Entry). IsFree homes e.column) es i e (slice_get_within es i e is) h)

pub known_free : (homes : Homes) (es : List Entry) (n : ℕ) → n ≡ length homes → AreFree homes es → All (λ e. e.column < n) es
known_free homes es n is h = All-weaker (λ (e : Entry). IsFree homes e.column) (λ (e : Entry). e.column < n) (λ e f. subst (λ n. e.column < n) (sym is) (slice_get_within homes e.column None f)) es h

-- a conflict

own_sign : (side : Side) → has_sign side (own side) ≡ true
own_sign AtLeast = refl
own_sign AtMost = refl

opposed : (side : Side) → plus (toward side) (own side) ≡ none
opposed AtLeast = plus_comm _ _ ∙ plus_minus
opposed AtMost = plus_minus

blocked_sums : (bounds : List Bound) (a d : Assignment) (ps : List Part) → All (IsBlocking bounds a d) ps → AtMostOf (pair (columns ps a) (columns ps d)) (pair (limits ps main_of) (limits ps delta_of))
blocked_sums bounds a d [] h = record { main = le-refl none; delta = λ t. le-refl none }
blocked_sums bounds a d (p ∷ ps) h =
    let b = All-head (IsBlocking bounds a d) p ps h in
    most_more (full_scaled p.bound.side (fraction p.multiplier) (amount p.bound.limit) (amount_at a d p.bound.column) b.part.sign b.full) (blocked_sums bounds a d ps (All-tail (IsBlocking bounds a d) p ps h))

cancelling : (t o c x T : Fraction) → plus t o ≡ none → c ≡ times t T → lowest x ≡ T → plus c (times o x) ≡ none
cancelling t o c x T e ce xe =
    ap₂ plus ce (sym (times_lowest o x) ∙ ap (times o) xe) ∙ sym (plus_times t o T) ∙ ap (λ q. times q T) e ∙ none_times T

pub conflict_is : (originals rows : List Row) (bounds : List Bound) (a d : Assignment) (b : Bound) (r : Row) (i : ℕ) (ps new : List Part) (q : Frac) → AreAlike originals rows → slice_get rows i ≡ Some r → r.basic ≡ b.column → Solves rows a → Solves rows d →
    IsAmong b bounds → is_broken a d b ≡ true → fraction q ≡ own b.side → All (IsBlocking bounds a d) ps → ((x : Assignment) → columns ps x ≡ times (toward b.side) (total r.entries.items x)) → new ≡ ps ++ (record { bound = b; multiplier = q }) ∷ [] → IsContradiction originals bounds new
conflict_is originals rows bounds a d b r i ps new q alike er basic sa sd among broken qe blocking cols is = record {
  parts = subst (All (IsPart bounds)) (sym is) (All-append (IsPart bounds) ps (p ∷ []) (All-weaker (IsBlocking bounds a d) (IsPart bounds) (λ p h. h.part) ps blocking) (All-cons (IsPart bounds) p [] (record { among = among; sign = sign }) (All-nil (IsPart bounds))));
  cancels = λ x h. ap (λ qs. columns qs x) is ∙ columns_more ps p x ∙ nothing x ((alike x).0 h);
  beyond = less_in _ _ (subst (λ (x : Amount). LessOf x (pair (limits new main_of) (limits new delta_of))) (ap₂ pair (nothing a sa) (nothing d sd))
      (subst (LessOf (pair (plus (columns ps a) (times (fraction q) (a b.column))) (plus (columns ps d) (times (fraction q) (d b.column)))))
      (ap₂ pair (sym (ap (λ qs. limits qs main_of) is ∙ limits_more ps p main_of)) (sym (ap (λ qs. limits qs delta_of) is ∙ limits_more ps p delta_of)))
      (most_less (blocked_sums bounds a d ps blocking) (broken_scaled b.side (fraction q) (amount b.limit) (amount_at a d b.column) sign broken))));
} where
  p : Part
  p = record { bound = b; multiplier = q }

  sign : has_sign b.side (fraction q) ≡ true
  sign = subst (λ q. has_sign b.side q ≡ true) (sym qe) (own_sign b.side)

  nothing : (x : Assignment) → Solves rows x → plus (columns ps x) (times (fraction q) (x b.column)) ≡ none
  nothing x s = cancelling (toward b.side) (fraction q) (columns ps x) (x b.column) (total r.entries.items x) (ap (plus (toward b.side)) qe ∙ opposed b.side) (cols x) (ap (λ k. lowest (x k)) (sym basic) ∙ s i r er)

-- a contradiction has no solution

met_sums : (bounds : List Bound) (a d : Assignment) (ps : List Part) → Meets bounds a d → All (IsPart bounds) ps → AtMostOf (pair (limits ps main_of) (limits ps delta_of)) (pair (columns ps a) (columns ps d))
met_sums bounds a d [] m h = record { main = le-refl none; delta = λ t. le-refl none }
met_sums bounds a d (p ∷ ps) m h =
    let b = All-head (IsPart bounds) p ps h in
    most_more (met_scaled p.bound.side (fraction p.multiplier) (amount p.bound.limit) (amount_at a d p.bound.column) b.sign (m b.among.0 p.bound b.among.1)) (met_sums bounds a d ps m (All-tail (IsPart bounds) p ps h))

pub no_solution : (rows : List Row) (bounds : List Bound) (ps : List Part) (a d : Assignment) → IsContradiction rows bounds ps → Solves rows a → Solves rows d → Meets bounds a d → ⊥
no_solution rows bounds ps a d h sa sd m =
    let lt = less_out _ _ h.beyond in
    let le = subst (AtMostOf (pair (limits ps main_of) (limits ps delta_of))) (ap₂ pair (h.cancels a sa) (h.cancels d sd)) (met_sums bounds a d ps m h.parts) in
    lt.delta le.main (le.delta lt.main)

pub way_as : {es seen : List Entry} {mains ms deltas ds : List Frac} {w v : Way} (bounds : List Bound) (t : Fraction) → seen ≡ es → ms ≡ mains → ds ≡ deltas → w ≡ v → IsWay bounds (values ms) (values ds) t seen w → IsWay bounds (values mains) (values deltas) t es v
way_as {es = es} {seen = seen} {mains = mains} {ms = ms} {deltas = deltas} {ds = ds} {w = w} {v = v} bounds t ee me de we h =
    subst (λ (xs : List Entry). IsWay bounds (values mains) (values deltas) t xs v) ee
    (subst (λ (xs : List Frac). IsWay bounds (values xs) (values deltas) t seen v) me
    (subst (λ (xs : List Frac). IsWay bounds (values ms) (values xs) t seen v) de
    (subst (IsWay bounds (values ms) (values ds) t seen) we h)))

-- a bound among those of known columns
pub among_known : (bounds : List Bound) (b : Bound) (n : ℕ) → All (λ b. b.column < n) bounds → IsAmong b bounds → b.column < n
among_known bounds b n all m =
    let lt = slice_get_within bounds m.0 b m.1 in
    subst (λ (x : Bound). x.column < n) (here_is bounds m.0 b b lt m.1) (All-get_or (λ (x : Bound). x.column < n) bounds m.0 b lt all)
