-- Pivots: what a row solved for a column, and its sum in others, keep of the solutions.
use Rattle.std.proofs.Common.{◌≡◌, ℕ, Bool, true, false, nat_eq, if◌then◌else◌, List, [], ◌∷◌, refl, sym, ◌∙◌, ap, ap₂, subst, true≢false, arith}
use Rattle.std.proofs.lemmas.List.Elements.{All-cons, All-nil, All-head, All-tail}
use Rattle.std.proofs.lemmas.Bool.{eqb-true, eq-eqb}
use Rattle.vx_frac.specs.Fractions.{Fraction, none, full, minus, lowest}
use Rattle.vx_frac.specs.Fraction.{fraction}
use Rattle.cs_linear.specs.Numbers.{plus, times}
use Rattle.cs_linear.specs.declared.rows.Entry.{Entry}
use Rattle.cs_linear.specs.declared.rows.Row.{Row}
use Rattle.cs_linear.specs.Rows.{Assignment, Homes, AreFree, IsFree, Ascends, total, multiple, factor_at}
use Rattle.cs_linear.specs.Merged.{rest_of}
use Rattle.cs_linear.specs.Pivots.{IsSolved, IsReplaced}
use Rattle.cs_linear.proofs.Arithmetic.{linear, plus_comm, plus_assoc, plus_left, plus_none, none_times, full_times, plus_times, times_plus, times_assoc, times_comm, lowest_plus, times_lowest, plus_minus, lowest_lowest, lowest_of_plus, lowest_of_times}
use Rattle.cs_linear.proofs.Sums.{lowest_of_total, rest_ascends}

-- a sum is the multiple of a column and the rest

split_by : (b : Bool) (e : Entry) (f F x y T : Fraction) (rest : List Entry) (a : Assignment) → multiple e a ≡ times f x → (b ≡ true → x ≡ y) → T ≡ plus (times F y) (total rest a) →
    plus (multiple e a) T ≡ plus (times (if b then plus f F else F) y) (total (if b then rest else e ∷ rest) a)
split_by true e f F x y T rest a m h t =
    ap₂ plus (m ∙ ap (λ x. times f x) (h refl)) t ∙ sym (plus_assoc _ _ _) ∙ ap (λ z. plus z (total rest a)) (sym (plus_times f F y))
split_by false e f F x y T rest a m h t = ap (λ t. plus (multiple e a) t) t ∙ plus_left _ _ _

nothing_splits : (x : Fraction) → none ≡ plus (times none x) none
nothing_splits x = simp linear refl

pub split_total : (es : List Entry) (j : ℕ) (a : Assignment) → total es a ≡ plus (times (factor_at es j) (a j)) (total (rest_of es j) a)
split_total [] j a = nothing_splits (a j)
split_total (e ∷ es) j a =
    split_by (nat_eq e.column j) e (fraction e.factor) (factor_at es j) (a e.column) (a j) (total es a) (rest_of es j) a refl (λ is. ap a (eqb-true e.column j is)) (split_total es j a)

-- what is free without a column

free_by : (b : Bool) (homes : Homes) (e : Entry) (rest : List Entry) → (b ≡ false → IsFree homes e.column) → AreFree homes rest → AreFree homes (if b then rest else e ∷ rest)
free_by true homes e rest h f = f
free_by false homes e rest h f = All-cons (λ (e : Entry). IsFree homes e.column) e rest (h refl) f

pub rest_free : (homes other : Homes) (j : ℕ) (es : List Entry) → ((k : ℕ) → ¬ (k ≡ j) → IsFree homes k → IsFree other k) → AreFree homes es → AreFree other (rest_of es j)
rest_free homes other j [] keeps h = All-nil (λ (e : Entry). IsFree other e.column)
rest_free homes other j (e ∷ es) keeps h =
    free_by (nat_eq e.column j) other e (rest_of es j)
    (λ is. keeps e.column (λ same. true≢false (sym (eq-eqb e.column j same) ∙ is)) (All-head (λ (e : Entry). IsFree homes e.column) e es h))
    (rest_free homes other j es keeps (All-tail (λ (e : Entry). IsFree homes e.column) e es h))

-- a replaced column

replaced_total : (f x r R s : Fraction) → lowest x ≡ s → r ≡ plus (times f x) R → plus R (times f s) ≡ r
replaced_total f x r R s h e = ap (λ s. plus R (times f s)) (sym h) ∙ ap (λ y. plus R y) (times_lowest f x) ∙ plus_comm R (times f x) ∙ sym e

pub replaced_is : (r s n : Row) (j : ℕ) (f : Fraction) (rest sum : List Entry) → s.basic ≡ j → f ≡ factor_at r.entries.items j → rest ≡ rest_of r.entries.items j → sum ≡ s.entries.items → n.basic ≡ r.basic →
    ((a : Assignment) → total n.entries.items a ≡ plus (total rest a) (times f (total sum a))) →
    ((homes : Homes) → AreFree homes rest → AreFree homes sum → AreFree homes n.entries.items) → (Ascends 0 rest → Ascends 0 sum → Ascends 0 n.entries.items) → IsReplaced r j s n
replaced_is r s n j f rest sum sj fe re se nb value free ascends = record {
  basic = nb;
  total = λ a h.
      value a ∙ ap₂ (λ xs ys. plus (total xs a) (times f (total ys a))) re se
      ∙ ap (λ f. plus (total (rest_of r.entries.items j) a) (times f (total s.entries.items a))) fe
      ∙ replaced_total (factor_at r.entries.items j) (a j) (total r.entries.items a) (total (rest_of r.entries.items j) a) (total s.entries.items a) (ap (λ k. lowest (a k)) (sym sj) ∙ h) (split_total r.entries.items j a);
  free = λ homes h k. free homes (subst (AreFree homes) (sym re) h) (subst (AreFree homes) (sym se) k);
  ascends = λ h k. ascends (subst (Ascends 0) (sym re) (rest_ascends 0 r.entries.items j h)) (subst (Ascends 0) (sym se) k);
}

-- a solved row

cancels : (r : Fraction) → plus r (times (minus full) r) ≡ none
cancels r = sym (lowest_plus r _) ∙ ap (λ x. plus x (times (minus full) r)) (sym (full_times r)) ∙ sym (plus_times full (minus full) r) ∙ ap (λ q. times q r) plus_minus ∙ none_times r

-- f x + R over f is x where R over f is taken away
solve_there : (inv f x R B : Fraction) → times inv f ≡ full → lowest B ≡ plus (times f x) R → lowest x ≡ plus (times inv B) (times (times inv (minus full)) R)
solve_there inv f x R B one e = sym (
    ap (λ t. plus t (times (times inv (minus full)) R)) (sym (times_lowest inv B) ∙ ap (times inv) e ∙ times_plus inv (times f x) R ∙ ap (λ t. plus t (times inv R)) (sym (times_assoc inv f x) ∙ ap (λ q. times q x) one ∙ full_times x))
    ∙ ap (λ t. plus (plus (lowest x) (times inv R)) t) (times_assoc inv (minus full) R)
    ∙ plus_assoc _ _ _
    ∙ ap (λ t. plus (lowest x) t) (sym (times_plus inv R (times (minus full) R)) ∙ ap (times inv) (cancels R) ∙ times_comm inv none ∙ none_times inv)
    ∙ plus_none (lowest x) ∙ lowest_lowest x)

solve_back : (inv f x R B : Fraction) → times inv f ≡ full → lowest R ≡ R → lowest x ≡ plus (times inv B) (times (times inv (minus full)) R) → lowest B ≡ plus (times f x) R
solve_back inv f x R B one low e = sym (
    ap (λ t. plus t R) (sym (times_lowest f x) ∙ ap (times f) (e ∙ ap (λ t. plus (times inv B) t) (times_assoc inv (minus full) R) ∙ sym (times_plus inv B (times (minus full) R))) ∙ sym (times_assoc f inv _) ∙ ap (λ q. times q (plus B (times (minus full) R))) (times_comm f inv ∙ one) ∙ full_times _ ∙ lowest_of_plus _ _)
    ∙ plus_assoc B (times (minus full) R) R
    ∙ ap (λ t. plus B t) (plus_comm (times (minus full) R) R ∙ cancels R)
    ∙ plus_none B)

first_total : (e : Entry) (first : List Entry) (a : Assignment) → first ≡ e ∷ [] → total first a ≡ times (fraction e.factor) (a e.column)
first_total e first a is = ap (λ xs. total xs a) is ∙ plus_none (multiple e a) ∙ lowest_of_times _ _

pub solved_is : (r s : Row) (j : ℕ) (f inv neg : Fraction) (e : Entry) (first rest : List Entry) → s.basic ≡ j → f ≡ factor_at r.entries.items j → times inv f ≡ full → neg ≡ times inv (minus full) →
    first ≡ e ∷ [] → e.column ≡ r.basic → fraction e.factor ≡ inv → rest ≡ rest_of r.entries.items j →
    ((a : Assignment) → total s.entries.items a ≡ plus (total first a) (times neg (total rest a))) →
    ((homes : Homes) → AreFree homes first → AreFree homes rest → AreFree homes s.entries.items) → (Ascends 0 first → Ascends 0 rest → Ascends 0 s.entries.items) → IsSolved r j s
solved_is r s j f inv neg e first rest sj fe one ne first_is ec ef re value free ascends = record {
  basic = sj;
  there = λ a h. ap (λ k. lowest (a k)) sj ∙ solve_there inv f (a j) (R a) (a r.basic) one (h ∙ splits a) ∙ sym (is a);
  back = λ a h. solve_back inv f (a j) (R a) (a r.basic) one (lowest_of_total _ a) (ap (λ k. lowest (a k)) (sym sj) ∙ h ∙ is a) ∙ sym (splits a);
  free = λ homes b h. free homes (subst (AreFree homes) (sym first_is) (All-cons (λ (e : Entry). IsFree homes e.column) e [] (subst (IsFree homes) (sym ec) b) (All-nil (λ (e : Entry). IsFree homes e.column)))) (subst (AreFree homes) (sym re) h);
  ascends = λ h. ascends (subst (Ascends 0) (sym first_is) (omega arith, tt)) (subst (Ascends 0) (sym re) (rest_ascends 0 r.entries.items j h));
} where
  R : Assignment → Fraction
  R a = total (rest_of r.entries.items j) a

  splits : (a : Assignment) → total r.entries.items a ≡ plus (times f (a j)) (R a)
  splits a = split_total r.entries.items j a ∙ ap (λ f. plus (times f (a j)) (R a)) (sym fe)

  is : (a : Assignment) → total s.entries.items a ≡ plus (times inv (a r.basic)) (times (times inv (minus full)) (R a))
  is a = value a ∙ ap₂ plus (first_total e first a first_is ∙ ap₂ (λ (q : Fraction) (k : ℕ). times q (a k)) ef ec) (ap₂ (λ (q : Fraction) (xs : List Entry). times q (total xs a)) ne re)
