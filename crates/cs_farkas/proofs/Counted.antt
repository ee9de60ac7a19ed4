-- How many columns aren't 0, where one is written, and what is added to one.
use Rattle.std.proofs.Common.{◌≡◌, ℕ, zero, suc, ◌+◌, ◌-◌, ◌<◌, ◌≤◌, pos, Bool, true, false, cond, List, [], ◌∷◌, length, map, get_or, set, sym, ◌∙◌, ap, arith}
use Rattle.std.specs.Ordering.{int_eq}
use Rattle.std.proofs.lemmas.List.{get_or-map, map-set, length-set}
use Rattle.vx_frac.specs.declared.Frac.{Frac}
use Rattle.vx_frac.specs.Fraction.{fraction}
use Rattle.vx_frac.specs.Fractions.{Fraction, none}
use Rattle.cs_farkas.specs.Columns.{other_than_zero, others_in}
use Rattle.cs_farkas.specs.Sums.{Outcome, Done, Sums, times, plus, ◌>>=◌, add_column}

one_at_most : (f : Frac) → other_than_zero f ≤ 1
one_at_most f = go (int_eq f.num (pos 0))
  where
    go : (b : Bool) → cond b 0 1 ≤ 1
    go true = omega arith
    go false = omega arith

pub at_most_all : (fs : List Frac) → others_in fs ≤ length fs
at_most_all [] = omega arith
at_most_all (f ∷ fs) = at_most_more (other_than_zero f) (others_in fs) (length fs) (one_at_most f) (at_most_all fs)
  where
    at_most_more : (a b n : ℕ) → a ≤ 1 → b ≤ n → a + b ≤ suc n
    at_most_more a b n x y = omega arith

pub written : (fs : List Frac) (at : ℕ) (f g : Frac) → at < length fs → f ≡ get_or fs at f → others_in (set fs at g) + other_than_zero f ≡ others_in fs + other_than_zero g
written [] at f g lt e = absurd (omega arith)
written (h ∷ fs) zero f g lt e = here (other_than_zero f) (other_than_zero h) (other_than_zero g) (others_in fs) (ap other_than_zero e)
  where
    here : (a b c n : ℕ) → a ≡ b → c + n + a ≡ b + n + c
    here a b c n e = omega arith
written (h ∷ fs) (suc at) f g lt e = further (other_than_zero h) (others_in (set fs at g)) (other_than_zero f) (others_in fs) (other_than_zero g) (written fs at f g (omega arith) e)
  where
    further : (a b c d e : ℕ) → b + c ≡ d + e → a + b + c ≡ a + d + e
    further a b c d e h = omega arith

pub one_is_in : (fs : List Frac) (at : ℕ) (f : Frac) → at < length fs → f ≡ get_or fs at f → other_than_zero f ≤ others_in fs
one_is_in [] at f lt e = absurd (omega arith)
one_is_in (h ∷ fs) zero f lt e = here (other_than_zero f) (other_than_zero h) (others_in fs) (ap other_than_zero e)
  where
    here : (a b n : ℕ) → a ≡ b → a ≤ b + n
    here a b n e = omega arith
one_is_in (h ∷ fs) (suc at) f lt e = further (other_than_zero f) (other_than_zero h) (others_in fs) (one_is_in fs at f (omega arith) e)
  where
    further : (a b n : ℕ) → a ≤ n → a ≤ b + n
    further a b n e = omega arith

-- the count after a write
pub counted : (fs : List Frac) (at : ℕ) (f g : Frac) (n : ℕ) → n ≡ others_in fs → at < length fs → f ≡ get_or fs at f → n - other_than_zero f + other_than_zero g ≡ others_in (set fs at g)
counted fs at f g n e lt is = go (others_in fs) (others_in (set fs at g)) (other_than_zero f) (other_than_zero g) e (one_is_in fs at f lt is) (written fs at f g lt is)
  where
    go : (m s a b : ℕ) → n ≡ m → a ≤ m → s + a ≡ m + b → n - a + b ≡ s
    go m s a b e z w = omega arith

pub fits_after : (fs : List Frac) (at : ℕ) (f g : Frac) (n w : ℕ) → n ≡ others_in fs → at < length fs → f ≡ get_or fs at f → w ≡ length fs → n - other_than_zero f + other_than_zero g ≤ w
fits_after fs at f g n w e lt is l =
    go (n - other_than_zero f + other_than_zero g) (others_in (set fs at g)) (length (set fs at g)) (length fs) (counted fs at f g n e lt is) (at_most_all (set fs at g)) (length-set fs at g) l
  where
    go : (x y m l : ℕ) → x ≡ y → y ≤ m → m ≡ l → w ≡ l → x ≤ w
    go x y m l a b c d = omega arith

pub column_added : (fs : List Frac) (c : Fraction) (k : ℕ) (b p a : Frac) (m q : Fraction) → k < length fs → b ≡ get_or fs k b → times q m ≡ Done (fraction p) → plus (fraction b) (fraction p) ≡ Done (fraction a) →
    add_column m q k record { constant = c; columns = map fraction fs } ≡ Done record { constant = c; columns = map fraction (set fs k a) }
column_added fs c k b p a m q lt is e f =
    let s : Sums = record { constant = c; columns = map fraction fs } in
    let after : Outcome Fraction → Outcome Sums = λ o. o >>= λ x. Done record s { columns = set s.columns k x } in
    let read : get_or (map fraction fs) k none ≡ fraction b = get_or-map fraction fs k b none lt ∙ ap fraction (sym is) in
    ap (λ o. o >>= λ x. after (plus (get_or (map fraction fs) k none) x)) e
    ∙ ap (λ x. after (plus x (fraction p))) read
    ∙ ap after f
    ∙ ap (λ xs. Done record { constant = c; columns = xs }) (sym (map-set fraction fs k a))
