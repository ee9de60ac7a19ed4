-- The symbol that a name is read as, and the symbol that was written.
use Rattle.std.proofs.Common.{◌≡◌, inl, inr, ◌⊎◌, ℕ, zero, suc, ◌+◌, ◌*◌, ◌-◌, ◌<◌, ◌^◌, ◌==◌, nat_eq, nat_lt, Bool, true, false, List, [], ◌∷◌, map, Option, Some, None, refl, arith, ap, ◌∙◌, sym, eqb-true}
use Rattle.std.specs.Prelude.{if◌then◌else◌, ◌&&◌, length}
use Rattle.std.proofs.lemmas.Bool.{ltb-true}
use Rattle.std.specs.Option.{option_and_then}
use Rattle.std.specs.Int.Digits.{digits_of, number_from_digits_after, AllBelowBase}
use Rattle.std.proofs.lemmas.Int.Digits.{number_digits_of, all_below_base_digits_of}
use Rattle.vx_sexp.specs.Characters.{is_digit}
use Rattle.vx_terms.specs.Sorts.{Symbol, Standard, Function, Variable, Named}
use Rattle.vx_smt_meaning.specs.Words.{numeral, digits, symbol_word}
use Rattle.vx_smt_meaning.specs.Names.{IsName, IsFree}
use Rattle.cs_commands.specs.Names as reading
use Rattle.cs_commands.specs.Names.{number_below, numbered, symbol_named}
use Rattle.cs_commands.proofs.Numerals.{number_back, number_is}
use Rattle.cs_commands.proofs.Spellings.{symbol_back, no_number}

-- ---- numbers

-- the number that digits are, behind this one
abbrev number_from : ℕ → List ℕ → ℕ
number_from n [] = n
number_from n (b ∷ text) = number_from (n * 10 + (b - 48)) text

of_digits : (ds : List ℕ) (n : ℕ) → AllBelowBase 10 ds → number_from n (map (λ d. 48 + d) ds) ≡ number_from_digits_after 10 n ds
of_digits [] n h = refl
of_digits (d ∷ ds) n h =
    let e : n * 10 + (48 + d - 48) ≡ n * 10 + d = omega arith in
    ap (λ k. number_from k (map (λ x. 48 + x) ds)) e ∙ of_digits ds (n * 10 + d) h.1

not_zero : (n : ℕ) → 0 < n → (n == 0) ≡ false
not_zero n some = grind (arith, some)

numeral_some : (n : ℕ) → 0 < n → numeral n ≡ map (λ d. 48 + d) (digits_of 10 n)
unfolding numeral digits
numeral_some n some = rw (not_zero n some) refl

of_numeral : (n : ℕ) → number_from 0 (numeral n) ≡ n
unfolding numeral
of_numeral zero = refl
of_numeral (suc n) =
    ap (number_from 0) (numeral_some (suc n) (omega arith))
    ∙ (of_digits (digits_of 10 (suc n)) 0 (all_below_base_digits_of 10 (suc n) (omega arith)) ∙ number_digits_of 10 (suc n) (omega arith))

-- of two numbers with one numeral
same_number : (m n : ℕ) → numeral m ≡ numeral n → m ≡ n
same_number m n e = sym (of_numeral m) ∙ ap (number_from 0) e ∙ of_numeral n

by_digit : (limit n d m : ℕ) → reading.with_digit limit n d ≡ Some m → m < limit
by_digit limit n d m e = go (is_digit d) (nat_lt (n * 10 + (d - 48)) limit) refl e
  where
    go : (b c : Bool) → nat_lt (n * 10 + (d - 48)) limit ≡ c → (if b && c then Some (n * 10 + (d - 48)) else None) ≡ Some m → m < limit
    go true true h e = let is : n * 10 + (d - 48) ≡ m = cc in omega (arith, is, ltb-true (n * 10 + (d - 48)) limit h)
    go true false h e = absurd (cc)
    go false c h e = absurd (cc)

below : (limit n : ℕ) (ds : List ℕ) (m : ℕ) → n < limit → reading.digits limit n ds ≡ Some m → m < limit
below limit n [] m small e = let is : n ≡ m = cc in rw (sym is) small
below limit n (d ∷ ds) m small e = go (reading.with_digit limit n d) refl e (λ k less more. below limit k ds m less more)
  where
    go : (o : Option ℕ) → reading.with_digit limit n d ≡ o → option_and_then (λ k. reading.digits limit k ds) o ≡ Some m
        → ((k : ℕ) → k < limit → reading.digits limit k ds ≡ Some m → m < limit) → m < limit
    go None is e more = absurd (cc)
    go (Some k) is e more = more k (by_digit limit n d k is) e

-- what is read stays below the limit
read_below : (limit : ℕ) (xs : List ℕ) (m : ℕ) → number_below limit xs ≡ Some m → m < limit
read_below limit [] m e = absurd (cc)
read_below limit (d ∷ ds) m e = go (nat_eq d 48 && nat_lt 0 (length ds)) e
  where
    first : (o : Option ℕ) → reading.with_digit limit 0 d ≡ o → option_and_then (λ k. reading.digits limit k ds) o ≡ Some m → m < limit
    first None is e = absurd (cc)
    first (Some k) is e = below limit k ds m (by_digit limit 0 d k is) e

    go : (b : Bool) → (if b then None else reading.digits limit 0 (d ∷ ds)) ≡ Some m → m < limit
    go true e = absurd (cc)
    go false e = first (reading.with_digit limit 0 d) refl e

-- a numeral is read, where its number is small; else it is wide
pub small_or_wide : (limit n : ℕ) → (n < limit) ⊎ (number_below limit (numeral n) ≡ None)
small_or_wide limit n = go (number_below limit (numeral n)) refl
  where
    go : (o : Option ℕ) → number_below limit (numeral n) ≡ o → (n < limit) ⊎ (number_below limit (numeral n) ≡ None)
    go None e = inr e
    go (Some m) e =
        let is : n ≡ m = same_number n m (number_is limit (numeral n) m e) in
        inl (rw is (read_below limit (numeral n) m e))

-- ---- symbols

-- the symbol that a written symbol is read as
abbrev pub read_as : Symbol → Symbol
read_as f = symbol_named (symbol_word f)

-- a letter and its number, however large
abbrev lettered : (ℕ → Symbol) → List ℕ → List ℕ → Symbol
lettered make text bs = numbered make text (number_below (suc (number_from 0 bs)) bs)

abbrev unbounded : List ℕ → Symbol
unbounded [] = Named []
unbounded (b ∷ bs) =
    if nat_eq b 115 then lettered Standard (b ∷ bs) bs else (
    if nat_eq b 102 then lettered Function (b ∷ bs) bs else (
    if nat_eq b 118 then lettered Variable (b ∷ bs) bs else Named (b ∷ bs)))

-- the symbol that was written, where this one is read
abbrev pub original : Symbol → Symbol
original (Standard n) = Standard n
original (Function n) = Function n
original (Variable n) = Variable n
original (Named x) = unbounded x

unbounded_numeral : (make : ℕ → Symbol) (b n : ℕ) → lettered make (b ∷ numeral n) (numeral n) ≡ make n
unbounded_numeral make b n =
    ap (λ k. numbered make (b ∷ numeral n) (number_below (suc k) (numeral n))) (of_numeral n)
    ∙ ap (numbered make (b ∷ numeral n)) (number_back (suc n) n (omega arith))

unbounded_name : (b : ℕ) (bs : List ℕ) → IsFree (b ∷ bs) → unbounded (b ∷ bs) ≡ Named (b ∷ bs)
unbounded_name b bs free = on_s (nat_eq b 115) refl
  where
    on_v : (c : Bool) → nat_eq b 118 ≡ c → (if c then lettered Variable (b ∷ bs) bs else Named (b ∷ bs)) ≡ Named (b ∷ bs)
    on_v true e = no_number Variable b 118 (suc (number_from 0 bs)) bs (eqb-true b 118 e) free.variable
    on_v false e = refl

    on_f : (c : Bool) → nat_eq b 102 ≡ c → (if c then lettered Function (b ∷ bs) bs else (if nat_eq b 118 then lettered Variable (b ∷ bs) bs else Named (b ∷ bs))) ≡ Named (b ∷ bs)
    on_f true e = no_number Function b 102 (suc (number_from 0 bs)) bs (eqb-true b 102 e) free.function
    on_f false e = on_v (nat_eq b 118) refl

    on_s : (c : Bool) → nat_eq b 115 ≡ c →
        (if c then lettered Standard (b ∷ bs) bs else (if nat_eq b 102 then lettered Function (b ∷ bs) bs else (if nat_eq b 118 then lettered Variable (b ∷ bs) bs else Named (b ∷ bs)))) ≡ Named (b ∷ bs)
    on_s true e = no_number Standard b 115 (suc (number_from 0 bs)) bs (eqb-true b 115 e) free.standard
    on_s false e = on_f (nat_eq b 102) refl

numbered_original : (make : ℕ → Symbol) (b limit n : ℕ) → original (make n) ≡ make n → unbounded (b ∷ numeral n) ≡ lettered make (b ∷ numeral n) (numeral n)
    → original (numbered make (b ∷ numeral n) (number_below limit (numeral n))) ≡ make n
numbered_original make b limit n own here = go (small_or_wide limit n)
  where
    go : (n < limit) ⊎ (number_below limit (numeral n) ≡ None) → original (numbered make (b ∷ numeral n) (number_below limit (numeral n))) ≡ make n
    go (inl small) = ap (λ o. original (numbered make (b ∷ numeral n) o)) (number_back limit n small) ∙ own
    go (inr wide) = ap (λ o. original (numbered make (b ∷ numeral n) o)) wide ∙ here ∙ unbounded_numeral make b n

pub original_of : (f : Symbol) → IsName f → original (read_as f) ≡ f
original_of (Standard n) name = numbered_original Standard 115 (2 ^ 32) n refl refl
original_of (Function n) name = numbered_original Function 102 (2 ^ 32) n refl refl
original_of (Variable n) name = numbered_original Variable 118 (2 ^ 64) n refl refl
original_of (Named []) name = refl
original_of (Named (b ∷ bs)) name = ap original (symbol_back (Named (b ∷ bs)) name tt) ∙ unbounded_name b bs name.1
