-- The tests that decide which steps are writable.
use Rattle.std.specs.Prelude.{ℕ, suc, ◌^◌, nat_abs, nat_lt, Bool, true, false, ◌&&◌, Option, Some, None}
use Rattle.std.specs.List.{list_all}
use Rattle.vx_frac.specs.Fractions.{Fraction}
use Rattle.vx_terms.specs.Terms.{Term, Truth, Number, Part, Constant, Apply, Not, Binary, Ite, AllOf, SomeOf, Terms, NoTerms, MoreTerms}
use Rattle.vx_smt_text.specs.Unique.{has_three}
use Rattle.cs_certificate.specs.Certificate.{NumberedLiteral, Step, Input, NewTerm, Define, Pick, Chain, Congruence, Farkas, Split, Trichotomy, Divide, Propagate}
use Rattle.cs_writable.specs.Writable.{has_some}

abbrev pub is_small : ℕ → Bool
is_small n = nat_lt n (2 ^ 127)

abbrev mutual
  pub is_writable_term : Term → Bool
  is_writable_term (Truth b) = true
  is_writable_term (Number z) = is_small (nat_abs z)
  is_writable_term (Part a) = is_small (nat_abs a.numerator) && is_small (suc a.below)
  is_writable_term (Constant f a) = true
  is_writable_term (Apply f a ts) = has_some ts && are_writable_terms ts
  is_writable_term (Not t) = is_writable_term t
  is_writable_term (Binary o t u) = is_writable_term t && is_writable_term u
  is_writable_term (Ite c t u) = is_writable_term c && (is_writable_term t && is_writable_term u)
  is_writable_term (AllOf ts) = has_three ts && are_writable_terms ts
  is_writable_term (SomeOf ts) = has_three ts && are_writable_terms ts

  pub are_writable_terms : Terms → Bool
  are_writable_terms NoTerms = true
  are_writable_terms (MoreTerms t ts) = is_writable_term t && are_writable_terms ts

abbrev pub is_small_literal : NumberedLiteral → Bool
is_small_literal l = is_small l.number

-- each multiplier in code is in lowest terms
abbrev pub is_small_fraction : Fraction → Bool
is_small_fraction a = is_small (nat_abs a.numerator) && is_small (suc a.below)

abbrev pub is_writable : Step → Bool
is_writable (Input n) = is_small n
is_writable (NewTerm t) = is_writable_term t
is_writable (Define t k) = is_small t && is_small k
is_writable (Pick t k) = is_small t && is_small k
is_writable (Chain ts) = list_all is_small ts
is_writable (Congruence s t) = is_small s && is_small t
is_writable (Farkas ls ms) = list_all is_small_literal ls && list_all is_small_fraction ms
is_writable (Split t z) = is_small t && is_small (nat_abs z)
is_writable (Trichotomy a b) = is_small a && is_small b
is_writable (Divide a d k) = is_small a && (is_small d && is_small k)
is_writable (Propagate ls hs) = list_all is_small_literal ls && list_all is_small hs

-- a `term` step that spells no term isn't
abbrev pub is_writable_step : Option Step → Bool
is_writable_step (Some s) = is_writable s
is_writable_step None = false
