-- Lists that are read from their end.
use Rattle.std.proofs.Common.{◌≡◌, ℕ, List, [], ◌∷◌, ◌++◌, Option, Some, None, refl, ap, sym, ◌∙◌}
use Rattle.vx_frac.specs.Fractions.{Fraction}
use Rattle.vx_terms.specs.Terms.{Term, Terms, NoTerms, MoreTerms}
use Rattle.cs_reader.specs.Items.{◌>>=◌}
use Rattle.cs_reader.specs.Spelling.{listed, part_after, led_by}

-- the terms in front of a list
abbrev pub listed_onto : List Term → Terms → Terms
listed_onto [] us = us
listed_onto (t ∷ ts) us = MoreTerms t (listed_onto ts us)

pub listed_last : (ts : List Term) (t : Term) (us : Terms) → listed_onto (ts ++ t ∷ []) us ≡ listed_onto ts (MoreTerms t us)
listed_last [] t us = refl
listed_last (x ∷ ts) t us = ap (MoreTerms x) (listed_last ts t us)

pub onto_none : (ts : List Term) → listed_onto ts NoTerms ≡ listed ts
onto_none [] = refl
onto_none (t ∷ ts) = ap (MoreTerms t) (onto_none ts)

pub part_last : (part : Fraction) (ds : List ℕ) (d : ℕ) → part_after part (ds ++ d ∷ []) ≡ (led_by d part >>= λ p. part_after p ds)
part_last part [] d = some_again (led_by d part)
  where
    some_again : (o : Option Fraction) → o ≡ (o >>= λ p. Some p)
    some_again None = refl
    some_again (Some p) = refl
part_last part (x ∷ ds) d = ap (λ o. o >>= led_by x) (part_last part ds d) ∙ again (led_by d part)
  where
    again : (o : Option Fraction) → ((o >>= λ p. part_after p ds) >>= led_by x) ≡ (o >>= λ p. (part_after p ds >>= led_by x))
    again None = refl
    again (Some p) = refl

pub part_goes_on : (part next : Fraction) (rest front : List ℕ) (d : ℕ) (whole : Option Fraction) → part_after part rest ≡ whole → rest ≡ front ++ d ∷ [] → led_by d part ≡ Some next
    → part_after next front ≡ whole
part_goes_on part next rest front d whole so_far split led =
    sym (ap (λ o. o >>= λ p. part_after p front) led) ∙ (sym (part_last part front d) ∙ (sym (ap (part_after part) split) ∙ so_far))

pub part_fails : (part : Fraction) (rest front : List ℕ) (d : ℕ) (whole : Option Fraction) → part_after part rest ≡ whole → rest ≡ front ++ d ∷ [] → led_by d part ≡ None → whole ≡ None
part_fails part rest front d whole so_far split led =
    sym so_far ∙ (ap (part_after part) split ∙ (part_last part front d ∙ ap (λ o. o >>= λ p. part_after p front) led))
