-- Steps whose text is read back.
use Rattle.std.specs.Prelude.{◌≡◌, ⊤, ℕ, suc, ◌<◌, ◌^◌, nat_abs, Bool, true, false, List, Option, Some, None}
use Rattle.vx_frac.specs.Fractions.{Fraction, lowest}
use Rattle.vx_terms.specs.Terms.{Term, Truth, Number, Part, Constant, Apply, Not, Binary, Ite, AllOf, SomeOf, Terms, NoTerms, MoreTerms}
use Rattle.vx_terms.specs.Interpretations.{Each}
use Rattle.vx_smt_text.specs.Unique.{has_three}
use Rattle.cs_certificate.specs.Certificate.{NumberedLiteral, Step, Input, NewTerm, Define, Pick, Chain, Congruence, Farkas, Split, Trichotomy, Divide, Propagate}

abbrev pub IsSmall : ℕ → Type 0
IsSmall n = n < 2 ^ 127

abbrev pub IsSmallLiteral : NumberedLiteral → Type 0
IsSmallLiteral l = IsSmall l.number

-- in lowest terms
abbrev pub IsMultiplier : Fraction → Type 0
IsMultiplier a = (lowest a ≡ a) × IsSmall (nat_abs a.numerator) × IsSmall (suc a.below)

abbrev pub has_some : Terms → Bool
has_some NoTerms = false
has_some (MoreTerms t ts) = true

-- The numbers stay below 2^127; an application has arguments, and `and` and `or` of a list have three parts or more.
abbrev mutual
  pub IsWritableTerm : Term → Type 0
  IsWritableTerm (Truth b) = ⊤
  IsWritableTerm (Number z) = IsSmall (nat_abs z)
  IsWritableTerm (Part a) = IsSmall (nat_abs a.numerator) × IsSmall (suc a.below)
  IsWritableTerm (Constant f a) = ⊤
  IsWritableTerm (Apply f a ts) = (has_some ts ≡ true) × AreWritableTerms ts
  IsWritableTerm (Not t) = IsWritableTerm t
  IsWritableTerm (Binary o t u) = IsWritableTerm t × IsWritableTerm u
  IsWritableTerm (Ite c t u) = IsWritableTerm c × IsWritableTerm t × IsWritableTerm u
  IsWritableTerm (AllOf ts) = (has_three ts ≡ true) × AreWritableTerms ts
  IsWritableTerm (SomeOf ts) = (has_three ts ≡ true) × AreWritableTerms ts

  pub AreWritableTerms : Terms → Type 0
  AreWritableTerms NoTerms = ⊤
  AreWritableTerms (MoreTerms t ts) = IsWritableTerm t × AreWritableTerms ts

-- the numbers stay below 2^127, multipliers are in lowest terms, and a term is one that is read
abbrev pub IsWritable : Step → Type 0
IsWritable (Input n) = IsSmall n
IsWritable (NewTerm t) = IsWritableTerm t
IsWritable (Define t k) = IsSmall t × IsSmall k
IsWritable (Pick t k) = IsSmall t × IsSmall k
IsWritable (Chain ts) = Each IsSmall ts
IsWritable (Congruence s t) = IsSmall s × IsSmall t
IsWritable (Farkas ls ms) = Each IsSmallLiteral ls × Each IsMultiplier ms
IsWritable (Split t z) = IsSmall t × IsSmall (nat_abs z)
IsWritable (Trichotomy a b) = IsSmall a × IsSmall b
IsWritable (Divide a d k) = IsSmall a × IsSmall d × IsSmall k
IsWritable (Propagate ls hs) = Each IsSmallLiteral ls × Each IsSmall hs

-- a `term` step that spells no term isn't
abbrev pub IsWritableStep : Option Step → Type 0
IsWritableStep (Some s) = IsWritable s
IsWritableStep None = ⊥

abbrev pub AreWritable : List (Option Step) → Type 0
AreWritable steps = Each IsWritableStep steps
