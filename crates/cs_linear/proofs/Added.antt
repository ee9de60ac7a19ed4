-- A row or a column more: what is kept of the rows, the values and the solutions.
use Rattle.std.proofs.Common.{◌≡◌, ℕ, zero, suc, ◌+◌, ◌<◌, ◌≤◌, true, List, [], ◌∷◌, ◌++◌, Option, Some, None, length, slice_get, get_or, drop, refl, sym, ◌∙◌, ap, ap₂, subst, arith, All, add-one, drop-cons, length-append}
use Rattle.std.proofs.lemmas.List.{drop_all}
use Rattle.std.proofs.lemmas.List.Elements.{All-weaker, All-cons, All-nil, All-get_or}
use Rattle.std.proofs.lemmas.Option.{slice_get_within, same_Some}
use Rattle.vx_frac.specs.Fractions.{Fraction, none, full, lowest}
use Rattle.vx_frac.specs.Fraction.{fraction}
use Rattle.vx_frac.specs.declared.Frac.{Frac}
use Rattle.vx_frac.proofs.Reduced.{lowest_fraction}
use Rattle.cs_linear.specs.Numbers.{plus, times}
use Rattle.cs_linear.specs.declared.rows.Entry.{Entry}
use Rattle.cs_linear.specs.declared.rows.Row.{Row}
use Rattle.cs_linear.specs.Rows.{Assignment, Homes, AreFree, AreAlike, Ascends, ascends, IsFree, IsTableau, Holds, Solves, total, multiple}
use Rattle.cs_linear.specs.Values.{value, values}
use Rattle.cs_linear.specs.Added.{IsIncluded}
use Rattle.cs_linear.proofs.Arithmetic.{plus_assoc, plus_none, none_plus, times_lowest, lowest_of_times, lowest_none, full_times, times_none}
use Rattle.cs_linear.proofs.Sums.{lowest_of_total, ascends_out}
use Rattle.cs_linear.proofs.Lists.{each_more, none_some}

-- one item more leaves those before it

pub front : {A : Type 0} (xs : List A) (x : A) (k : ℕ) → k < length xs → slice_get (xs ++ x ∷ []) k ≡ slice_get xs k
front [] x k lt = absurd (omega arith)
front (y ∷ ys) x zero lt = refl
front (y ∷ ys) x (suc k) lt = front ys x k (omega arith)

pub last_is : {A : Type 0} (xs : List A) (x : A) → slice_get (xs ++ x ∷ []) (length xs) ≡ Some x
last_is [] x = refl
last_is (y ∷ ys) x = last_is ys x

pub still : {A : Type 0} (xs : List A) (x y : A) (k : ℕ) → slice_get xs k ≡ Some y → slice_get (xs ++ x ∷ []) k ≡ Some y
still xs x y k e = front xs x k (slice_get_within xs k y e) ∙ e

-- totals look at the columns of the sum alone

pub same_total : (es : List Entry) (a b : Assignment) → All (λ e. a e.column ≡ b e.column) es → total es a ≡ total es b
same_total [] a b h = refl
same_total (e ∷ es) a b h =
    ap₂ (λ x t. plus (times (fraction e.factor) x) t) (All-get_or (λ (e : Entry). a e.column ≡ b e.column) (e ∷ es) 0 e (omega arith) h)
    (same_total es a b (λ k d lt. h (suc k) d (omega arith)))

wide_value : (vs : List Frac) (x : Frac) (homes : Homes) (home : Option ℕ) (k : ℕ) → length vs ≡ length homes → slice_get homes k ≡ Some home → values (vs ++ x ∷ []) k ≡ values vs k
wide_value vs x homes home k len h = ap value (front vs x k (subst (λ n. k < n) (sym len) (slice_get_within homes k home h)))

wide_total : (vs : List Frac) (x : Frac) (homes : Homes) (es : List Entry) → length vs ≡ length homes → AreFree homes es → total es (values (vs ++ x ∷ [])) ≡ total es (values vs)
wide_total vs x homes es len f =
    same_total es (values (vs ++ x ∷ [])) (values vs) (All-weaker (λ (e : Entry). IsFree homes e.column) (λ (e : Entry). values (vs ++ x ∷ []) e.column ≡ values vs e.column) (λ e h. wide_value vs x homes None e.column len h) es f)

pub wide_solves : (rows : List Row) (homes : Homes) (vs : List Frac) (x : Frac) → IsTableau rows homes → length vs ≡ length homes → Solves rows (values vs) → Solves rows (values (vs ++ x ∷ []))
wide_solves rows homes vs x t len s i r er =
    ap lowest (wide_value vs x homes (Some i) r.basic len (t.basic i r er)) ∙ s i r er ∙ sym (wide_total vs x homes r.entries.items len (t.free i r er))

still_free : (homes : Homes) (h : Option ℕ) (es : List Entry) → AreFree homes es → AreFree (homes ++ h ∷ []) es
still_free homes h es f = All-weaker (λ (e : Entry). IsFree homes e.column) (λ (e : Entry). IsFree (homes ++ h ∷ []) e.column) (λ e k. still homes h None e.column k) es f

pub wide_tableau : (rows : List Row) (homes : Homes) → IsTableau rows homes → IsTableau rows (homes ++ None ∷ [])
wide_tableau rows homes t = record {
  ascends = t.ascends;
  free = λ i r er. still_free homes None r.entries.items (t.free i r er);
  basic = λ i r er. still homes None (Some i) r.basic (t.basic i r er);
  within = λ k i h. each_more (λ k home. (i : ℕ) → home ≡ Some i → i < length rows) homes None
      (λ k home e i is. t.within k i (e ∙ ap Some is)) (λ i is. none_some i is) k (Some i) h i refl;
  owner = λ k i r h er. each_more (λ k home. (i : ℕ) (r : Row) → home ≡ Some i → slice_get rows i ≡ Some r → r.basic ≡ k) homes None
      (λ k home e i r is er. t.owner k i r (e ∙ ap Some is) er) (λ i r is er. none_some i is) k (Some i) h i r refl er;
}

-- a row more

pub more_tableau : (rows : List Row) (homes : Homes) (r : Row) → IsTableau rows homes → r.basic ≡ length homes → AreFree homes r.entries.items → Ascends 0 r.entries.items → ascends 0 r.entries.items ≡ true → IsTableau (rows ++ r ∷ []) (homes ++ Some (length rows) ∷ [])
more_tableau rows homes r t b f u up = record {
  ascends = λ i n en. each_more (λ i (n : Row). ascends 0 n.entries.items ≡ true) rows r t.ascends up i n en;
  free = λ i n en. each_more (λ i (n : Row). AreFree (homes ++ Some (length rows) ∷ []) n.entries.items) rows r
      (λ i n en. still_free homes (Some (length rows)) n.entries.items (t.free i n en)) (still_free homes (Some (length rows)) r.entries.items f) i n en;
  basic = λ i n en. each_more (λ i (n : Row). slice_get (homes ++ Some (length rows) ∷ []) n.basic ≡ Some (Some i)) rows r
      (λ i n en. still homes (Some (length rows)) (Some i) n.basic (t.basic i n en)) (ap (slice_get (homes ++ Some (length rows) ∷ [])) b ∙ last_is homes (Some (length rows))) i n en;
  within = λ k i h. each_more (λ k home. (i : ℕ) → home ≡ Some i → i < length (rows ++ r ∷ [])) homes (Some (length rows))
      (λ k home e i is. subst (λ n. i < n) (sym longer) (let lt = t.within k i (e ∙ ap Some is) in omega arith))
      (λ i is. subst (λ n. i < n) (sym longer) (let e = same_Some (length rows) i is in omega arith)) k (Some i) h i refl;
  owner = λ k i n h en. each_more (λ k home. (i : ℕ) (n : Row) → home ≡ Some i → slice_get (rows ++ r ∷ []) i ≡ Some n → n.basic ≡ k) homes (Some (length rows))
      (λ k home e i n is en. t.owner k i n (e ∙ ap Some is) (sym (front rows r i (t.within k i (e ∙ ap Some is))) ∙ en))
      (λ i n is en. ap (λ (n : Row). n.basic) (same_Some n r (sym en ∙ ap (slice_get (rows ++ r ∷ [])) (sym (same_Some (length rows) i is)) ∙ last_is rows r)) ∙ b)
      k (Some i) h i n refl en;
} where
  longer : length (rows ++ r ∷ []) ≡ suc (length rows)
  longer = length-append rows (r ∷ []) ∙ omega arith

pub more_solves : (rows : List Row) (homes : Homes) (r : Row) (vs : List Frac) (x : Frac) → IsTableau rows homes → length vs ≡ length homes → r.basic ≡ length homes → AreFree homes r.entries.items → fraction x ≡ total r.entries.items (values vs) → Solves rows (values vs) → Solves (rows ++ r ∷ []) (values (vs ++ x ∷ []))
more_solves rows homes r vs x t len b f is s =
    each_more (λ i (n : Row). Holds (values (vs ++ x ∷ [])) n) rows r (wide_solves rows homes vs x t len s)
    (ap (λ k. lowest (values (vs ++ x ∷ []) k)) (b ∙ sym len) ∙ ap (λ o. lowest (value o)) (last_is vs x) ∙ lowest_fraction x ∙ is ∙ sym (wide_total vs x homes r.entries.items len f))

solves_front : (rows : List Row) (r : Row) (a : Assignment) → Solves (rows ++ r ∷ []) a → Solves rows a
solves_front rows r a h i n en = h i n (still rows r n i en)

pub more_alike : (originals rows : List Row) (o r : Row) → AreAlike originals rows → o.basic ≡ r.basic → ((a : Assignment) → Solves rows a → total r.entries.items a ≡ total o.entries.items a) → AreAlike (originals ++ o ∷ []) (rows ++ r ∷ [])
more_alike originals rows o r h b e a = (
  λ s.
      let rest = (h a).0 (solves_front originals o a s) in
      each_more (λ i (n : Row). Holds a n) rows r rest (ap (λ k. lowest (a k)) (sym b) ∙ s (length originals) o (last_is originals o) ∙ sym (e a rest)),
  λ s.
      let rest = solves_front rows r a s in
      each_more (λ i (n : Row). Holds a n) originals o ((h a).1 rest) (ap (λ k. lowest (a k)) b ∙ s (length rows) r (last_is rows r) ∙ e a rest),
)

-- a sum over free columns

pub free_included : (rows : List Row) (homes : Homes) (old alone new : List Entry) (e : Entry) (x : Frac) → fraction x ≡ full → alone ≡ (record { column = e.column; factor = x }) ∷ [] → IsFree homes e.column →
    ((a : Assignment) → total new a ≡ plus (total old a) (times (fraction e.factor) (total alone a))) →
    ((homes : Homes) → AreFree homes old → AreFree homes alone → AreFree homes new) → (Ascends 0 old → Ascends 0 alone → Ascends 0 new) → IsIncluded rows homes old e new
free_included rows homes old alone new e x one is f value free up = record {
  total = λ a h. value a ∙ ap (λ t. plus (total old a) (times (fraction e.factor) t)) (ap (λ es. total es a) is ∙ plus_none _ ∙ lowest_of_times _ _ ∙ ap (λ q. times q (a e.column)) one ∙ full_times (a e.column)) ∙ ap (plus (total old a)) (times_lowest (fraction e.factor) (a e.column));
  free = λ h. free homes h (subst (AreFree homes) (sym is) (All-cons (λ (e : Entry). IsFree homes e.column) _ [] f (All-nil (λ (e : Entry). IsFree homes e.column))));
  ascends = λ h. up h (subst (Ascends 0) (sym is) (omega arith, tt));
}

pub row_included : (rows : List Row) (homes : Homes) (old sum new : List Entry) (e : Entry) (i : ℕ) (r : Row) → IsTableau rows homes → slice_get homes e.column ≡ Some (Some i) → slice_get rows i ≡ Some r → sum ≡ r.entries.items →
    ((a : Assignment) → total new a ≡ plus (total old a) (times (fraction e.factor) (total sum a))) →
    ((homes : Homes) → AreFree homes old → AreFree homes sum → AreFree homes new) → (Ascends 0 old → Ascends 0 sum → Ascends 0 new) → IsIncluded rows homes old e new
row_included rows homes old sum new e i r t h er is value free up = record {
  total = λ a s. value a ∙ ap (λ t. plus (total old a) (times (fraction e.factor) t)) (ap (λ es. total es a) is ∙ sym (s i r er) ∙ ap (λ k. lowest (a k)) (t.owner e.column i r h er)) ∙ ap (plus (total old a)) (times_lowest (fraction e.factor) (a e.column));
  free = λ f. free homes f (subst (AreFree homes) (sym is) (t.free i r er));
  ascends = λ u. up u (subst (Ascends 0) (sym is) (ascends_out 0 r.entries.items (t.ascends i r er)));
}

-- loops over a sum

pub begins : (new sum : List Entry) (a : Assignment) → new ≡ [] → plus (total new a) (total (drop 0 sum) a) ≡ total sum a
begins new sum a is = ap (λ es. plus (total es a) (total sum a)) is ∙ none_plus (total sum a) ∙ lowest_of_total sum a

pub next_total : (sum : List Entry) (i : ℕ) (e : Entry) (a : Assignment) → i < length sum → e ≡ get_or sum i e → total (drop i sum) a ≡ plus (multiple e a) (total (drop (i + 1) sum) a)
next_total sum i e a lt is = ap (λ es. total es a) (drop-cons sum i e lt) ∙ ap₂ (λ (y : Entry) (k : ℕ). plus (multiple y a) (total (drop k sum) a)) (sym is) (sym (add-one i))

pub goes : (sum : List Entry) (i : ℕ) (e : Entry) (a : Assignment) (x : Fraction) → i < length sum → e ≡ get_or sum i e → plus (plus x (multiple e a)) (total (drop (i + 1) sum) a) ≡ plus x (total (drop i sum) a)
goes sum i e a x lt is =
    plus_assoc _ _ _ ∙ ap (plus x) (sym (next_total sum i e a lt is))

pub ends : (sum : List Entry) (i : ℕ) (a : Assignment) (x : Fraction) → lowest x ≡ x → length sum ≤ i → x ≡ plus x (total (drop i sum) a)
ends sum i a x low le = sym (ap (λ es. plus x (total es a)) (drop_all i sum le) ∙ plus_none x ∙ low)

pub included_at : (rows : List Row) (homes : Homes) (seen old new sum : List Entry) (i : ℕ) (e : Entry) → seen ≡ old → i < length sum → e ≡ get_or sum i e → IsIncluded rows homes seen e new →
    ((a : Assignment) → Solves rows a → plus (total new a) (total (drop (i + 1) sum) a) ≡ plus (total old a) (total (drop i sum) a)) × (AreFree homes old → AreFree homes new) × (Ascends 0 old → Ascends 0 new)
included_at rows homes seen old new sum i e so lt is h = (
  λ a s. ap (λ t. plus t (total (drop (i + 1) sum) a)) (h.total a s ∙ ap (λ (es : List Entry). plus (total es a) (multiple e a)) so) ∙ goes sum i e a (total old a) lt is,
  λ f. h.free (subst (AreFree homes) (sym so) f),
  λ u. h.ascends (subst (Ascends 0) (sym so) u),
)

pub total_begins : (sum : List Entry) (a : Assignment) (f : Fraction) → f ≡ none → plus f (total (drop 0 sum) a) ≡ total sum a
total_begins sum a f is = ap (λ f. plus f (total sum a)) is ∙ none_plus (total sum a) ∙ lowest_of_total sum a

pub total_goes : (sum : List Entry) (vs : List Frac) (i : ℕ) (e : Entry) (v t p n : Frac) → i < length sum → e ≡ get_or sum i e → slice_get vs e.column ≡ Some v → fraction p ≡ times (fraction e.factor) (fraction v) → fraction n ≡ plus (fraction t) (fraction p) →
    plus (fraction n) (total (drop (i + 1) sum) (values vs)) ≡ plus (fraction t) (total (drop i sum) (values vs))
total_goes sum vs i e v t p n lt is at pe ne =
    ap (λ f. plus f (total (drop (i + 1) sum) (values vs))) (ne ∙ ap (plus (fraction t)) (pe ∙ ap (λ (o : Option Frac). times (fraction e.factor) (value o)) (sym at)))
    ∙ goes sum i e (values vs) (fraction t) lt is

pub same_tableau : {rows others : List Row} {homes places : Homes} → others ≡ rows → places ≡ homes → IsTableau rows homes → IsTableau others places
same_tableau {rows = rows} {others = others} {homes = homes} {places = places} re he t = subst (λ (rs : List Row). IsTableau rs places) (sym re) (subst (IsTableau rows) (sym he) t)

pub same_alike : {originals firsts rows others : List Row} → firsts ≡ originals → others ≡ rows → AreAlike originals rows → AreAlike firsts others
same_alike {originals = originals} {firsts = firsts} {rows = rows} {others = others} oe re h = subst (λ (rs : List Row). AreAlike firsts rs) (sym re) (subst (λ (os : List Row). AreAlike os rows) (sym oe) h)

pub same_solves : {rows others : List Row} {vs ws : List Frac} → others ≡ rows → ws ≡ vs → Solves rows (values vs) → Solves others (values ws)
same_solves {rows = rows} {others = others} {vs = vs} {ws = ws} re ve h = subst (λ (rs : List Row). Solves rs (values ws)) (sym re) (subst (λ (xs : List Frac). Solves rows (values xs)) (sym ve) h)

none_total : (es : List Entry) → total es (λ k. none) ≡ none
none_total [] = refl
none_total (e ∷ es) = ap₂ plus (times_none _) (none_total es) ∙ none_plus none ∙ lowest_none

-- nothing everywhere solves all rows
pub none_solves : (rows : List Row) → Solves rows (λ k. none)
none_solves rows i r er = lowest_none ∙ sym (none_total r.entries.items)

-- a column of value 0 more leaves all values: behind the last one they are 0 too
pub zero_more : (vs : List Frac) (x : Frac) (k : ℕ) → fraction x ≡ none → values (vs ++ x ∷ []) k ≡ values vs k
zero_more [] x zero is = is
zero_more [] x (suc k) is = refl
zero_more (v ∷ vs) x zero is = refl
zero_more (v ∷ vs) x (suc k) is = zero_more vs x k is
