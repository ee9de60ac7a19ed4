-- Literals are read back.
use Rattle.std.proofs.Common.{◌≡◌, ℕ, zero, suc, ◌<◌, ◌+◌, ◌-◌, ◌*◌, ◌/◌, ◌^◌, ◌&&◌, nat_eq, nat_lt, true, false, ℤ, pos, negsuc, List, [], ◌∷◌, Option, Some, None, Ok, length, refl, arith, ap, ap₂, ◌∙◌, sym, subst, add-one}
use Rattle.std.specs.Prelude.{if◌then◌else◌, nat_abs, ◌*ℤ◌, ◌<ℤ◌, codes}
use Rattle.std.specs.Option.{option_and_then}
use Rattle.std.proofs.lemmas.Bool.{lt-ltb}
use Rattle.std.proofs.Math.Nat.{eq-one_of_dvd-one}
use Rattle.std.proofs.Math.Facts.{yes_ltb}
use Rattle.vx_frac.specs.Fractions.{Fraction, whole, lowest, sum, product, sum_fits, product_fits, fits_i128, with_sign}
use Rattle.vx_frac.specs.Lowest.{IsLowest}
use Rattle.vx_frac.proofs.Reduced.{is_lowest}
use Rattle.vx_frac.proofs.Whole.{lowest_whole}
use Rattle.vx_frac.proofs.Fits.{both_true}
use Rattle.vx_sexp.specs.declared.token.Kind.TheVariants as kinds
use Rattle.vx_sexp.specs.declared.token.Token.TheVariants.{Atom}
use Rattle.vx_sexp.specs.Characters.{is_digit}
use Rattle.vx_terms.specs.Terms.{Term, Number, Part}
use Rattle.vx_smt_meaning.specs.Words as written
use Rattle.vx_smt_text.proofs.Words.{numeral_is, point_before, no_digit}
use Rattle.cs_reader.specs.Marks as marks
use Rattle.cs_reader.specs.Spelling.{over, summed, multiplied, part_after, decimal, negative, inverse}
use Rattle.std.specs.declared.result.Result.{Result}
use Rattle.cs_commands.specs.declared.fault.CommandFault.{CommandFault}
use Rattle.cs_commands.specs.declared.fault.CommandFault.TheVariants as faults
use Rattle.cs_commands.specs.Outcomes.{or_fault, ◌>>=◌}
use Rattle.cs_commands.specs.Names.{with_digit, digits, number_below}
use Rattle.cs_commands.specs.Live.{Scope}
use Rattle.cs_commands.specs.Heads.{MinusHead, SlashHead, head_at}
use Rattle.cs_commands.specs.Building.{quotient_of}
use Rattle.cs_commands.specs.Terms.{numeral, part}
use Rattle.cs_commands.proofs.Numerals.{number_back}
use Rattle.cs_commands.proofs.Placing.{ReadsAs, Reads, ReadsAllAs, atom_as, none_as, more_as, list_as, reads_atom, reads_list, reads_one}

-- ---- numerals

same_digits : (n : ℕ) (ds : List ℕ) → marks.digits n ds ≡ digits (2 ^ 127) n ds
same_digits n [] = refl
same_digits n (d ∷ ds) = more (with_digit (2 ^ 127) n d) (λ m. same_digits m ds)
  where
    more : (o : Option ℕ) → ((m : ℕ) → marks.digits m ds ≡ digits (2 ^ 127) m ds) → option_and_then (λ m. marks.digits m ds) o ≡ option_and_then (λ m. digits (2 ^ 127) m ds) o
    more None f = refl
    more (Some m) f = f m

pub same_numeral : (x : List ℕ) → marks.numeral x ≡ number_below (2 ^ 127) x
same_numeral [] = refl
same_numeral (d ∷ ds) = ap (λ o. if nat_eq d 48 && nat_lt 0 (length ds) then None else o) (same_digits 0 (d ∷ ds))

numeral_leaf : (n : ℕ) → n < 2 ^ 127 → numeral (written.numeral n) ≡ Ok (Number (pos n))
numeral_leaf n h = ap (λ o. or_fault faults.Wide o >>= λ m. Ok (Number (pos m))) (number_back (2 ^ 127) n h)

reads_numeral : (scope : Scope) (n : ℕ) → n < 2 ^ 127 → Reads scope (Atom kinds.Numeral (written.numeral n) ∷ []) (Number (pos n))
reads_numeral scope n h = reads_atom scope kinds.Numeral (written.numeral n) (Number (pos n)) (numeral_leaf n h)

minus_head : (scope : Scope) → head_at scope (written.word (codes "-")) ≡ Ok MinusHead
minus_head scope = refl

slash_head : (scope : Scope) → head_at scope (written.word (codes "/")) ≡ Ok SlashHead
slash_head scope = refl

pub negative_number : (n : ℕ) → negative (Number (pos (n + 1))) ≡ Some (Number (negsuc n))
negative_number n = ap (λ k. negative (Number (pos k))) (add-one n)

pub reads_number : (scope : Scope) (z : ℤ) → nat_abs z < 2 ^ 127 → Reads scope (written.signed_tokens z (λ n. Atom kinds.Numeral (written.numeral n) ∷ [])) (Number z)
reads_number scope (pos n) h = reads_numeral scope n h
reads_number scope (negsuc n) h =
    reads_list scope (codes "-") (Atom kinds.Numeral (written.numeral (n + 1)) ∷ []) MinusHead (Number (pos (n + 1)) ∷ []) (Number (negsuc n)) (minus_head scope)
    (reads_one scope (Atom kinds.Numeral (written.numeral (n + 1)) ∷ []) (Number (pos (n + 1))) (reads_numeral scope (n + 1) (omega arith)))
    (λ decimals. ap (or_fault faults.Sort) (negative_number n))

-- ---- decimals

abbrev pub frac : ℤ → ℕ → Fraction
frac z d = record { numerator = z; below = d }

no_part : part_after (over (pos 0) 0) (48 ∷ []) ≡ Some (whole (pos 0))
unfolding lowest is_digit
no_part = refl

times_one : (n : ℕ) → pos n *ℤ pos 1 ≡ pos n
times_one n = ap pos (omega arith)

fits_small : (n : ℕ) → n < 2 ^ 127 → fits_i128 (pos n) ≡ true
fits_small n h = lt-ltb n (2 ^ 127) h

sum_is : (n : ℕ) → (sum (whole (pos 0)) (whole (pos n))).numerator ≡ pos n
sum_is n = ap pos (omega arith)

sum_small : (n : ℕ) → n < 2 ^ 127 → sum_fits (whole (pos 0)) (whole (pos n)) ≡ true
sum_small n h =
    both_true _ _ (both_true _ _ refl (ap fits_i128 (times_one n) ∙ fits_small n h))
    (both_true _ _ (ap fits_i128 (sum_is n) ∙ fits_small n h) refl)

with_none : (n : ℕ) → n < 2 ^ 127 → summed (whole (pos 0)) (whole (pos n)) ≡ Some (whole (pos n))
with_none n h =
    ap (λ b. if b then Some (lowest (sum (whole (pos 0)) (whole (pos n)))) else None) (sum_small n h)
    ∙ ap (λ z. Some (lowest (frac z 0))) (sum_is n)
    ∙ ap Some (lowest_whole (pos n))

pub decimal_back : (n : ℕ) → n < 2 ^ 127 → decimal (written.decimal n) ≡ Some (whole (pos n))
unfolding written.decimal
decimal_back n h =
    let around = point_before (written.numeral n) (48 ∷ []) (numeral_is n).1 no_digit in
    rw (around.0, around.1, same_numeral (written.numeral n), number_back (2 ^ 127) n h, no_part)
    (ap (summed (whole (pos 0))) (lowest_whole (pos n)) ∙ with_none n h)

part_leaf : (n : ℕ) → n < 2 ^ 127 → part (written.decimal n) ≡ Ok (Part (whole (pos n)))
part_leaf n h = ap (λ o. or_fault faults.Wide o >>= λ a. Ok (Part a)) (decimal_back n h)

decimal_as : (scope : Scope) (n : ℕ) → n < 2 ^ 127 → ReadsAs scope (Atom kinds.Decimal (written.decimal n) ∷ []) true (Part (whole (pos n)))
decimal_as scope n h = atom_as scope kinds.Decimal (written.decimal n) (Part (whole (pos n))) (part_leaf n h)

decimals_as : (scope : Scope) (m n : ℕ) → m < 2 ^ 127 → n < 2 ^ 127
    → ReadsAllAs scope (Atom kinds.Decimal (written.decimal m) ∷ Atom kinds.Decimal (written.decimal n) ∷ []) true (Part (whole (pos m)) ∷ Part (whole (pos n)) ∷ [])
decimals_as scope m n h k =
    more_as scope (Atom kinds.Decimal (written.decimal m) ∷ []) (Atom kinds.Decimal (written.decimal n) ∷ []) (Part (whole (pos m))) (Part (whole (pos n)) ∷ []) true true (decimal_as scope m h)
    (more_as scope (Atom kinds.Decimal (written.decimal n) ∷ []) [] (Part (whole (pos n))) [] true true (decimal_as scope n k) (none_as scope))

-- ---- quotients

one_lowest : (d : ℕ) → IsLowest (pos 1) (pos (suc (suc d)))
one_lowest d k a b = eq-one_of_dvd-one a

above_none : (n : ℕ) → pos 0 <ℤ pos (suc n)
above_none n = record { lt = yes_ltb (omega arith) }

pub inverse_back : (d : ℕ) → inverse (whole (pos (suc (suc d)))) ≡ Some (frac (pos 1) (suc d))
inverse_back d = let less : suc (suc d) - 1 ≡ suc d = omega arith in ap Some (sym (is_lowest (pos 1) (pos (suc (suc d))) (pos 1) (pos (suc (suc d))) (above_none (suc d)) (above_none (suc d)) (one_lowest d) refl) ∙ ap (λ n. frac (pos 1) n) less)

pub product_small : (p d : ℕ) → p < 2 ^ 127 → suc (suc d) < 2 ^ 127 → product_fits (whole (pos p)) (frac (pos 1) (suc d)) ≡ true
product_small p d h k = both_true _ _ (ap fits_i128 (times_one p) ∙ fits_small p h) (ap fits_i128 (ap pos (omega arith)) ∙ fits_small (suc (suc d)) k)

pub product_is : (p d : ℕ) → product (whole (pos p)) (frac (pos 1) (suc d)) ≡ frac (pos p) (suc d)
product_is p d = ap₂ (λ z n. frac z n) (times_one p) (omega arith)

quotient_back : (p d : ℕ) → p < 2 ^ 127 → suc (suc d) < 2 ^ 127 → lowest (frac (pos p) (suc d)) ≡ frac (pos p) (suc d) → quotient_of (whole (pos p)) (whole (pos (suc (suc d)))) ≡ Ok (Part (frac (pos p) (suc d)))
quotient_back p d h k low =
    ap (λ o. or_fault faults.Sort o >>= by_inverse) (inverse_back d)
    ∙ ap (λ b. or_fault faults.Wide (if b then Some (lowest (product (whole (pos p)) (frac (pos 1) (suc d)))) else None) >>= λ q. Ok (Part q)) (product_small p d h k)
    ∙ ap (λ q. Ok (Part (lowest q))) (product_is p d)
    ∙ ap (λ q. Ok (Part q)) low
  where
    by_inverse : Fraction → Result Term CommandFault
    by_inverse i = or_fault faults.Wide (multiplied (whole (pos p)) i) >>= λ q. Ok (Part q)

reads_quotient : (scope : Scope) (p d : ℕ) → p < 2 ^ 127 → suc d < 2 ^ 127 → lowest (frac (pos p) d) ≡ frac (pos p) d → Reads scope (written.quotient_tokens p d) (Part (frac (pos p) d))
reads_quotient scope p zero h k low = (true, decimal_as scope p h)
reads_quotient scope p (suc d) h k low = (
  false,
  list_as scope (codes "/") (Atom kinds.Decimal (written.decimal p) ∷ Atom kinds.Decimal (written.decimal (suc d + 1)) ∷ []) SlashHead true
      (Part (whole (pos p)) ∷ Part (whole (pos (suc d + 1))) ∷ []) (Part (frac (pos p) (suc d))) (slash_head scope)
      (decimals_as scope p (suc d + 1) h (omega arith))
      (ap (λ n. quotient_of (whole (pos p)) (whole (pos n))) (add-one (suc d)) ∙ quotient_back p d h k low),
)

-- ---- below 0

turned : (z n : ℕ) → with_sign (negsuc z) n ≡ negsuc z → n ≡ suc z
turned z zero e = absurd (cc)
turned z (suc n) e = let is : negsuc n ≡ negsuc z = e in let same : n ≡ z = cc in ap suc same

-- without its sign it is in lowest terms too
pub unsigned_lowest : (p d : ℕ) → lowest (frac (negsuc p) d) ≡ frac (negsuc p) d → lowest (frac (pos (suc p)) d) ≡ frac (pos (suc p)) d
unfolding lowest
unsigned_lowest p d e =
    ap₂ (λ z n. frac z n) (ap pos (turned p _ (ap (λ a. a.numerator) e))) (ap (λ a. a.below) e)

pub negative_part : (p d : ℕ) → lowest (frac (negsuc p) d) ≡ frac (negsuc p) d → negative (Part (frac (pos (p + 1)) d)) ≡ Some (Part (frac (negsuc p) d))
negative_part p d low =
    ap (λ n. negative (Part (frac (pos n) d))) (add-one p)
    ∙ ap (λ n. Some (Part (lowest (frac (negsuc p) n)))) (omega arith)
    ∙ ap (λ a. Some (Part a)) low

pub reads_part : (scope : Scope) (z : ℤ) (d : ℕ) → nat_abs z < 2 ^ 127 → suc d < 2 ^ 127 → lowest (frac z d) ≡ frac z d → Reads scope (written.signed_tokens z (λ p. written.quotient_tokens p d)) (Part (frac z d))
reads_part scope (pos n) d h k low = reads_quotient scope n d h k low
reads_part scope (negsuc n) d h k low =
    reads_list scope (codes "-") (written.quotient_tokens (n + 1) d) MinusHead (Part (frac (pos (n + 1)) d) ∷ []) (Part (frac (negsuc n) d)) (minus_head scope)
    (reads_one scope (written.quotient_tokens (n + 1) d) (Part (frac (pos (n + 1)) d))
    (reads_quotient scope (n + 1) d (omega arith) k (subst (λ m. lowest (frac (pos m) d) ≡ frac (pos m) d) (sym (add-one n)) (unsigned_lowest n d low))))
    (λ decimals. ap (or_fault faults.Sort) (negative_part n d low))
