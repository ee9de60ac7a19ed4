-- Values that follow a free column: the moves of the rows, one by one.
use Rattle.std.proofs.Common.{◌≡◌, ℕ, ◌+◌, ◌<◌, ◌≤◌, Bool, true, false, nat_eq, if◌then◌else◌, List, [], ◌∷◌, ◌++◌, Option, Some, None, length, drop, slice_get, slice_set, get_or, refl, sym, ◌∙◌, ap, ap₂, subst, All, inl, inr, arith, pos, add-one, drop-cons}
use Rattle.std.proofs.lemmas.List.{length-set, drop_all}
use Rattle.std.proofs.lemmas.Bool.{eq-eqb}
use Rattle.std.proofs.lemmas.List.Elements.{All-append, All-cons, All-nil}
use Rattle.std.proofs.lemmas.Option.{slice_get_within, slice_get-get_or, same_Some}
use Rattle.vx_frac.specs.Fractions.{Fraction, none}
use Rattle.vx_frac.specs.Fraction.{fraction}
use Rattle.vx_frac.specs.declared.Frac.{Frac}
use Rattle.vx_frac.proofs.Reduced.{lowest_fraction}
use Rattle.cs_linear.specs.Numbers.{plus, times}
use Rattle.cs_linear.specs.declared.rows.Row.{Row}
use Rattle.cs_linear.specs.declared.rows.Entry.{Entry}
use Rattle.cs_linear.specs.declared.values.Move.{Move}
use Rattle.cs_linear.specs.Rows.{Homes, IsFree, IsTableau, AllAscend, factor_at}
use Rattle.cs_linear.specs.Values.{value, values, moved, AreMoved, AreFollowing, IsFollowed, arrived, entries_of}
use Rattle.cs_linear.proofs.Arithmetic.{plus_none, none_times, times_none, lowest_zero}
use Rattle.cs_linear.proofs.Found.{unequal, choice}
use Rattle.cs_linear.proofs.Lists.{none_some, set_here, set_others}
use Rattle.cs_linear.proofs.Sums.{ascends_out}
use Rattle.cs_linear.proofs.Turned.{either}

-- moves, one by one

pub arrived_last : (ms : List Move) (m : Move) (vs : List Frac) → arrived (ms ++ m ∷ []) vs ≡ slice_set (arrived ms vs) m.column m.value
arrived_last [] m vs = refl
arrived_last (x ∷ ms) m vs = arrived_last ms m (slice_set vs x.column x.value)

pub arrived_count : (ms : List Move) (vs : List Frac) → length (arrived ms vs) ≡ length vs
arrived_count [] vs = refl
arrived_count (m ∷ ms) vs = arrived_count ms (slice_set vs m.column m.value) ∙ length-set vs m.column m.value

pub arrived_more : (ms : List Move) (i : ℕ) (m : Move) (vs : List Frac) → i < length ms → m ≡ get_or ms i m → arrived (drop (i + 1) ms) (slice_set vs m.column m.value) ≡ arrived (drop i ms) vs
arrived_more ms i m vs lt is = ap (λ (xs : List Move). arrived xs vs) (sym (drop-cons ms i m lt ∙ ap₂ (λ (x : Move) (k : ℕ). x ∷ drop k ms) (sym is) (sym (add-one i))))

pub arrived_all : (ms : List Move) (i : ℕ) (vs : List Frac) → length ms ≤ i → arrived (drop i ms) vs ≡ vs
arrived_all ms i vs le = ap (λ (xs : List Move). arrived xs vs) (drop_all i ms le)

-- a value that nothing is added to

kept_value : (v : Frac) (f : Fraction) → plus (fraction v) (times none f) ≡ fraction v
kept_value v f = ap (plus (fraction v)) (none_times f) ∙ plus_none (fraction v) ∙ lowest_fraction v

nothing_added : (v : Frac) (f : Fraction) → plus (fraction v) (times f none) ≡ fraction v
nothing_added v f = ap (plus (fraction v)) (times_none f) ∙ plus_none (fraction v) ∙ lowest_fraction v

by_choice : {A : Type 0} (b : Bool) (x y z : A) → x ≡ z → y ≡ z → (if b then x else y) ≡ z
by_choice true x y z e f = e
by_choice false x y z e f = f

-- by nothing nothing moves

unmoved : (rows : List Row) (j : ℕ) (home : Option ℕ) (k : ℕ) (v : Frac) → moved rows j none home k (fraction v) ≡ fraction v
unmoved rows j None k v = by_choice (nat_eq k j) (plus (fraction v) none) (fraction v) (fraction v) (plus_none (fraction v) ∙ lowest_fraction v) refl
unmoved rows j (Some i) k v = nothing_added v (factor_at (entries_of (slice_get rows i)) j)

pub all_unmoved : (rows : List Row) (homes : Homes) (j : ℕ) (by : Frac) (vs : List Frac) (ms : List Move) → (fraction by).numerator ≡ pos 0 → ms ≡ [] → AreMoved rows homes j (fraction by) vs (arrived ms vs)
all_unmoved rows homes j by vs ms zero is = record {
  count = arrived_count ms vs;
  each = λ k home v w eh ev ew.
      let same = same_Some v w (sym ev ∙ ap (λ (ms : List Move). slice_get (arrived ms vs) k) (sym is) ∙ ew) in
      ap fraction (sym same) ∙ sym (unmoved rows j home k v) ∙ ap (λ y. moved rows j y home k (fraction v)) (sym (sym (lowest_fraction by) ∙ lowest_zero (fraction by) zero));
}

-- first the free column itself

pub first_moves : (rows : List Row) (homes : Homes) (j : ℕ) (by : Fraction) (vs : List Frac) (ms : List Move) (m : Move) → IsFree homes j → j < length vs → ms ≡ m ∷ [] → m.column ≡ j → fraction m.value ≡ plus (values vs j) by → AreFollowing 0 rows homes j by vs (arrived ms vs)
first_moves rows homes j by vs ms m f lt is column factor = subst (λ (ms : List Move). AreFollowing 0 rows homes j by vs (arrived ms vs)) (sym is) record {
  count = length-set vs m.column m.value;
  free = λ k v w fk ev ew.
      either k m.column
      (λ same.
      ap fraction (same_Some w m.value (sym ew ∙ ap (slice_get (slice_set vs m.column m.value)) same ∙ set_here vs m.column m.value (subst (λ n. n < length vs) (sym column) lt)))
      ∙ factor ∙ ap (λ (o : Option Frac). plus (value o) by) (ap (slice_get vs) (sym column ∙ sym same) ∙ ev)
      ∙ sym (choice (nat_eq k j) true _ _ (eq-eqb k j (same ∙ column))))
      (λ ne.
      ap fraction (stays k v w ne ev ew) ∙ sym (choice (nat_eq k j) false _ _ (unequal k j (λ e. ne (e ∙ sym column)))));
  done = λ k i v w eh lt. absurd (omega arith);
  ahead = λ k i v w eh le ev ew. stays k v w (λ e. none_some i (same_Some None (Some i) (sym f ∙ ap (slice_get homes) (sym (e ∙ column)) ∙ eh))) ev ew;
} where
  stays : (k : ℕ) (v w : Frac) → ¬ (k ≡ m.column) → slice_get vs k ≡ Some v → slice_get (slice_set vs m.column m.value) k ≡ Some w → w ≡ v
  stays k v w ne ev ew = same_Some w v (sym ew ∙ set_others vs m.column k m.value ne ∙ ev)

-- one row more

module _ (rows : List Row) (homes : Homes) (j : ℕ) (by : Fraction) (vs : List Frac) (n : ℕ) (r : Row) (here : slice_get rows n ≡ Some r) (t : IsTableau rows homes) where
  sum_at : (k : ℕ) (v : Fraction) → moved rows j by (Some n) k v ≡ plus v (times (factor_at r.entries.items j) by)
  sum_at k v = ap (λ (es : List Entry). plus v (times (factor_at es j) by)) (ap entries_of here)

  -- the row doesn't have the column
  stands : (now : List Frac) → factor_at r.entries.items j ≡ none → AreFollowing n rows homes j by vs now → AreFollowing (n + 1) rows homes j by vs now
  stands now no_factor h = record {
    count = h.count;
    free = h.free;
    done = λ k i v w eh lt ev ew.
        either i n
        (λ same.
        let home = eh ∙ ap (λ (i : ℕ). let o : Option (Option ℕ) = Some (Some i) in o) same in
        ap fraction (h.ahead k n v w home (omega arith) ev ew)
        ∙ sym (kept_value v by) ∙ ap (λ f. plus (fraction v) (times f by)) (sym no_factor) ∙ sym (sum_at k (fraction v)) ∙ ap (λ i. moved rows j by (Some i) k (fraction v)) (sym same))
        (λ ne. h.done k i v w eh (omega arith) ev ew);
    ahead = λ k i v w eh le ev ew. h.ahead k i v w eh (omega arith) ev ew;
  }

  -- its basic column moves
  goes : (now : List Frac) (m : Move) → r.basic < length vs → m.column ≡ r.basic → fraction m.value ≡ plus (values vs r.basic) (times (factor_at r.entries.items j) by) →
      AreFollowing n rows homes j by vs now → AreFollowing (n + 1) rows homes j by vs (slice_set now m.column m.value)
  goes now m lt column factor h = record {
    count = length-set now m.column m.value ∙ h.count;
    free = λ k v w fk ev ew. h.free k v w fk ev (back k w (λ e. none_some n (same_Some None (Some n) (sym fk ∙ ap (slice_get homes) e ∙ home))) ew);
    done = λ k i v w eh less ev ew.
        either i n
        (λ same.
        let at : k ≡ m.column = sym (t.owner k n r (eh ∙ ap (λ (i : ℕ). let o : Option (Option ℕ) = Some (Some i) in o) same) here) ∙ sym column in
        ap fraction (same_Some w m.value (sym ew ∙ ap (slice_get (slice_set now m.column m.value)) at ∙ set_here now m.column m.value (subst (λ l. m.column < l) (sym h.count) (subst (λ c. c < length vs) (sym column) lt))))
        ∙ factor ∙ ap (λ (o : Option Frac). plus (value o) (times (factor_at r.entries.items j) by)) (ap (slice_get vs) (sym column ∙ sym at) ∙ ev)
        ∙ sym (sum_at k (fraction v)) ∙ ap (λ i. moved rows j by (Some i) k (fraction v)) (sym same))
        (λ ne. h.done k i v w eh (omega arith) ev (back k w (other k i eh ne) ew));
    ahead = λ k i v w eh le ev ew. h.ahead k i v w eh (omega arith) ev (back k w (other k i eh (λ (e : i ≡ n). omega arith)) ew);
  } where
    home : slice_get homes m.column ≡ Some (Some n)
    home = ap (slice_get homes) column ∙ t.basic n r here

    other : (k i : ℕ) → slice_get homes k ≡ Some (Some i) → ¬ (i ≡ n) → ¬ (k ≡ m.column)
    other k i eh ne e = ne (same_Some i n (same_Some (Some i) (Some n) (sym eh ∙ ap (slice_get homes) e ∙ home)))

    back : (k : ℕ) (w : Frac) → ¬ (k ≡ m.column) → slice_get (slice_set now m.column m.value) k ≡ Some w → slice_get now k ≡ Some w
    back k w ne ew = sym (set_others now m.column k m.value ne) ∙ ew

  pub row_follows : (old new : List Move) → r.basic < length vs → IsFollowed r j by vs old new → AreFollowing n rows homes j by vs (arrived old vs) → AreFollowing (n + 1) rows homes j by vs (arrived new vs)
  row_follows old new lt (inl e) h = subst (λ (ms : List Move). AreFollowing (n + 1) rows homes j by vs (arrived ms vs)) (sym e.0) (stands (arrived old vs) e.1 h)
  row_follows old new lt (inr (m, e, c, f)) h =
      subst (λ (ms : List Move). AreFollowing (n + 1) rows homes j by vs (arrived ms vs)) (sym e)
      (subst (AreFollowing (n + 1) rows homes j by vs) (sym (arrived_last old m vs)) (goes (arrived old vs) m lt c f h))

-- all rows

pub all_follow : (rows : List Row) (homes : Homes) (j : ℕ) (by : Fraction) (vs now : List Frac) (n : ℕ) → length rows ≤ n → IsTableau rows homes → AreFollowing n rows homes j by vs now → AreMoved rows homes j by vs now
all_follow rows homes j by vs now n le t h = record { count = h.count; each = each } where
  each : (k : ℕ) (home : Option ℕ) (v w : Frac) → slice_get homes k ≡ Some home → slice_get vs k ≡ Some v → slice_get now k ≡ Some w → fraction w ≡ moved rows j by home k (fraction v)
  each k None v w eh ev ew = h.free k v w eh ev ew
  each k (Some i) v w eh ev ew = h.done k i v w eh (let lt = t.within k i eh in omega arith) ev ew

-- columns of moves

pub one_within : (ms : List Move) (m : Move) (n : ℕ) → ms ≡ m ∷ [] → m.column < n → All (λ (m : Move). m.column < n) ms
one_within ms m n is lt = subst (All (λ (m : Move). m.column < n)) (sym is) (All-cons (λ (m : Move). m.column < n) m [] lt (All-nil (λ (m : Move). m.column < n)))

pub row_within : (r : Row) (j : ℕ) (by : Fraction) (vs : List Frac) (old new : List Move) → r.basic < length vs → IsFollowed r j by vs old new → All (λ (m : Move). m.column < length vs) old → All (λ (m : Move). m.column < length vs) new
row_within r j by vs old new lt (inl e) h = subst (All (λ (m : Move). m.column < length vs)) (sym e.0) h
row_within r j by vs old new lt (inr (m, e, c, f)) h =
    subst (All (λ (m : Move). m.column < length vs)) (sym e)
    (All-append (λ (m : Move). m.column < length vs) old (m ∷ []) h (one_within (m ∷ []) m (length vs) refl (subst (λ c. c < length vs) (sym c) lt)))

-- what a tableau gives

pub all_ascend : (rows seen : List Row) (homes : Homes) → seen ≡ rows → IsTableau rows homes → AllAscend seen
all_ascend rows seen homes is t = subst AllAscend (sym is) (λ i r e. ascends_out 0 r.entries.items (t.ascends i r e))

pub all_known : (rows seen : List Row) (homes : Homes) (old vs : List Frac) → seen ≡ rows → vs ≡ old → length old ≡ length homes → IsTableau rows homes → All (λ (r : Row). r.basic < length vs) seen
all_known rows seen homes old vs is at same t =
    subst (λ (vs : List Frac). All (λ (r : Row). r.basic < length vs) seen) (sym at)
    (subst (λ (rs : List Row). All (λ (r : Row). r.basic < length old) rs) (sym is)
    (λ k d lt. subst (λ n. (get_or rows k d).basic < n) (sym same) (slice_get_within homes _ (Some k) (t.basic k (get_or rows k d) (slice_get-get_or rows k d lt)))))

pub free_known : (homes : Homes) (j : ℕ) (old vs : List Frac) → vs ≡ old → length old ≡ length homes → IsFree homes j → j < length vs
free_known homes j old vs at same f = subst (λ n. j < n) (sym (ap length at ∙ same)) (slice_get_within homes j None f)

pub moved_here : (rows seen : List Row) (homes : Homes) (j : ℕ) (by : Fraction) (old before new : List Frac) (ms carried : List Move) → seen ≡ rows → before ≡ old → carried ≡ ms → new ≡ arrived carried old →
    ((homes : Homes) → IsTableau seen homes → IsFree homes j → AreMoved seen homes j by before (arrived ms before)) → IsTableau rows homes → IsFree homes j → AreMoved rows homes j by old new
moved_here rows seen homes j by old before new ms carried re oe me ne h t f =
    subst (AreMoved rows homes j by old) (sym (ne ∙ ap (λ (ms : List Move). arrived ms old) me))
    (subst (λ (vs : List Frac). AreMoved rows homes j by vs (arrived ms vs)) oe
    (subst (λ (rs : List Row). AreMoved rs homes j by before (arrived ms before)) re (h homes (subst (λ (rs : List Row). IsTableau rs homes) (sym re) t) f)))
