-- What a pivot keeps: the solutions of the rows, and that sums are over free columns.
use Rattle.std.proofs.Common.{◌≡◌, ℕ, ◌<◌, true, List, Some, None, length, slice_get, get_or, refl, sym, ◌∙◌, ap, subst, ◌⊎◌, inl, inr}
use Rattle.std.proofs.lemmas.Option.{slice_get_within, slice_get-get_or, same_Some}
use Rattle.std.proofs.lemmas.Bool.Decides.{eqb_tells}
use Rattle.vx_frac.specs.Fractions.{lowest}
use Rattle.cs_linear.specs.declared.rows.Row.{Row}
use Rattle.cs_linear.specs.Rows.{Assignment, Homes, AreFree, AreAlike, Ascends, ascends, IsFree, IsTableau, Holds, Solves, total}
use Rattle.cs_linear.specs.Pivots.{IsSolved, IsReplaced, AreTurned, IsRehomed}
use Rattle.cs_linear.proofs.Lists.{none_some}
use Rattle.cs_linear.proofs.Pivots.{rest_free}
use Rattle.cs_linear.proofs.Sums.{ascends_in, ascends_out}

pub either : {A : Type 0} (i k : ℕ) → (i ≡ k → A) → (¬ (i ≡ k) → A) → A
either i k f g = elim (eqb_tells i k) [
  | inl h ↦ f h.1
  | inr h ↦ g h.1
]

-- the item at the same place of a list that is as long
pub there : {A : Type 0} (xs ys : List A) (i : ℕ) (y : A) → length ys ≡ length xs → slice_get ys i ≡ Some y → slice_get xs i ≡ Some (get_or xs i y)
there xs ys i y e h = slice_get-get_or xs i y (subst (λ n. i < n) e (slice_get_within ys i y h))

same_holds : (a : Assignment) (s n : Row) → n.basic ≡ s.basic → n.entries.items ≡ s.entries.items → Holds a s → Holds a n
same_holds a s n b e h = ap (λ k. lowest (a k)) b ∙ h ∙ ap (λ es. total es a) (sym e)

replaced_holds : (a : Assignment) (r s n : Row) (j : ℕ) → IsReplaced r j s n → Holds a s → Holds a r → Holds a n
replaced_holds a r s n j h hs hr = ap (λ k. lowest (a k)) h.basic ∙ hr ∙ sym (h.total a hs)

replaced_held : (a : Assignment) (r s n : Row) (j : ℕ) → IsReplaced r j s n → Holds a s → Holds a n → Holds a r
replaced_held a r s n j h hs hn = ap (λ k. lowest (a k)) (sym h.basic) ∙ hn ∙ h.total a hs

pub turned_there : (rows new : List Row) (at j : ℕ) (r s : Row) → slice_get rows at ≡ Some r → IsSolved r j s → AreTurned at j s rows new → (a : Assignment) → Solves rows a → Solves new a
turned_there rows new at j r s is so tu a h i n en =
    let old = get_or rows i n in
    let er = there rows new i n tu.count en in
    let t = tu.each i old n er en in
    let hs = so.there a (h at r is) in
    either i at (λ e. same_holds a s n (t.here e).0 (t.here e).1 hs) (λ ne. replaced_holds a old s n j (t.others ne) hs (h i old er))

pub turned_back : (rows new : List Row) (at j : ℕ) (r s : Row) → slice_get rows at ≡ Some r → IsSolved r j s → AreTurned at j s rows new → (a : Assignment) → Solves new a → Solves rows a
turned_back rows new at j r s is so tu a h i old er =
    let n = get_or new i old in
    let en = there new rows i old (sym tu.count) er in
    let m = get_or new at r in
    let em = there new rows at r (sym tu.count) is in
    let here = (tu.each at r m is em).here refl in
    let hs = same_holds a m s (sym here.0) (sym here.1) (h at m em) in
    either i at (λ e. subst (Holds a) (same_Some r old (sym is ∙ ap (slice_get rows) (sym e) ∙ er)) (so.back a hs))
    (λ ne. replaced_held a old s n j ((tu.each i old n er en).others ne) hs (h i n en))

pub turned_alike : (originals rows new : List Row) (at j : ℕ) (r s : Row) → slice_get rows at ≡ Some r → IsSolved r j s → AreTurned at j s rows new → AreAlike originals rows → AreAlike originals new
turned_alike originals rows new at j r s is so tu h a =
    (λ o. turned_there rows new at j r s is so tu a ((h a).0 o), λ n. (h a).1 (turned_back rows new at j r s is so tu a n))

-- free and basic columns

free_not_basic : (homes : Homes) (k j at : ℕ) → IsFree homes j → slice_get homes k ≡ Some (Some at) → ¬ (k ≡ j)
free_not_basic homes k j at f b e = none_some at (same_Some None (Some at) (sym f ∙ ap (slice_get homes) (sym e) ∙ b))

turned_ascends : (rows new : List Row) (homes : Homes) (at j : ℕ) (r s : Row) → IsTableau rows homes → slice_get rows at ≡ Some r → IsSolved r j s → AreTurned at j s rows new → (i : ℕ) (n : Row) → slice_get new i ≡ Some n → ascends 0 n.entries.items ≡ true
turned_ascends rows new homes at j r s t is so tu i n en =
    let old = get_or rows i n in
    let er = there rows new i n tu.count en in
    let k = tu.each i old n er en in
    let up = so.ascends (ascends_out 0 _ (t.ascends at r is)) in
    ascends_in 0 n.entries.items (either i at (λ e. subst (Ascends 0) (sym (k.here e).1) up) (λ ne. (k.others ne).ascends (ascends_out 0 _ (t.ascends i old er)) up))

-- where a column is basic now
turned_home : (homes other : Homes) (at b j : ℕ) → ¬ (b ≡ j) → IsRehomed homes b j at other → (k i : ℕ) → slice_get other k ≡ Some (Some i) → ((k ≡ j) × (i ≡ at)) ⊎ (¬ (k ≡ b) × (slice_get homes k ≡ Some (Some i)))
turned_home homes other at b j ne re k i h =
    either k b
    (λ e. none_some i (same_Some None (Some i) (sym (re.left ne) ∙ ap (slice_get other) (sym e) ∙ h)))
    (λ nb. either k j
    (λ e. inl (e, same_Some i at (same_Some (Some i) (Some at) (sym h ∙ ap (slice_get other) e ∙ re.entered))))
    (λ nj. inr (nb, sym (re.others k nb nj) ∙ h)))

pub turned_tableau : (rows new : List Row) (homes other : Homes) (at j : ℕ) (r s : Row) → IsTableau rows homes → slice_get rows at ≡ Some r → IsFree homes j → IsSolved r j s → AreTurned at j s rows new → IsRehomed homes r.basic j at other → IsTableau new other
turned_tableau rows new homes other at j r s t is fj so tu re = record {
  ascends = turned_ascends rows new homes at j r s t is so tu;
  within = λ k i h. subst (λ n. i < n) (sym tu.count) (elim (turned_home homes other at r.basic j apart re k i h) [
    | inl e ↦ subst (λ i. i < length rows) (sym e.1) (slice_get_within rows at r is)
    | inr e ↦ t.within k i e.1
  ]);
  owner = λ k i n h en.
      let old = get_or rows i n in
      let er = there rows new i n tu.count en in
      let q = tu.each i old n er en in
      elim (turned_home homes other at r.basic j apart re k i h) [
        | inl e ↦ (q.here e.1).0 ∙ so.basic ∙ sym e.0
        | inr e ↦ (q.others (λ same. e.0 (sym (t.owner k at r (e.1 ∙ ap (λ i. Some (Some i)) same) is)))).basic ∙ t.owner k i old e.1 er
      ];
  free = λ i n en.
      let old = get_or rows i n in
      let er = there rows new i n tu.count en in
      let k = tu.each i old n er en in
      either i at (λ e. subst (AreFree other) (sym (k.here e).1) solved_free) (λ ne. (k.others ne).free other (rest_free homes other j old.entries.items keeps (t.free i old er)) solved_free);
  basic = λ i n en.
      let old = get_or rows i n in
      let er = there rows new i n tu.count en in
      let k = tu.each i old n er en in
      either i at
      (λ e. ap (slice_get other) ((k.here e).0 ∙ so.basic) ∙ re.entered ∙ ap (λ i. Some (Some i)) (sym e))
      (λ ne. ap (slice_get other) (k.others ne).basic ∙ re.others old.basic (λ e. ne (same_Some i at (same_Some (Some i) (Some at) (sym (t.basic i old er) ∙ ap (slice_get homes) e ∙ t.basic at r is)))) (free_not_basic homes old.basic j i fj (t.basic i old er)) ∙ t.basic i old er);
} where
  apart : ¬ (r.basic ≡ j)
  apart = free_not_basic homes r.basic j at fj (t.basic at r is)

  leaves : IsFree other r.basic
  leaves = re.left apart

  keeps : (k : ℕ) → ¬ (k ≡ j) → IsFree homes k → IsFree other k
  keeps k ne f = re.others k (free_not_basic_back k f) ne ∙ f where
    free_not_basic_back : (k : ℕ) → IsFree homes k → ¬ (k ≡ r.basic)
    free_not_basic_back k f e = free_not_basic homes r.basic k at f (t.basic at r is) (sym e)

  solved_free : AreFree other s.entries.items
  solved_free = so.free other leaves (rest_free homes other j r.entries.items keeps (t.free at r is))
