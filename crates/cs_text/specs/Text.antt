-- The text of a certificate.
use Rattle.std.specs.Prelude.{ℕ, zero, suc, ◌+◌, List, [], ◌∷◌, ◌++◌, codes, map, Option, Some, None}
use Rattle.vx_frac.specs.Fractions.{Fraction}
use Rattle.vx_smt_meaning.specs.Words.{numeral}
use Rattle.vx_smt_text.specs.Text.{signed_text, term_text}
use Rattle.cs_certificate.specs.Certificate.{Sign, Plain, Negated, NumberedLiteral, Step, Input, NewTerm, Define, Pick, Chain, Congruence, Farkas, Split, Trichotomy, Divide, Propagate}

-- each behind a blank
abbrev pub behind : List (List ℕ) → List ℕ
behind [] = []
behind (x ∷ xs) = codes " " ++ x ++ behind xs

-- in parentheses, with a blank between two
abbrev pub listed : List (List ℕ) → List ℕ
listed [] = codes "()"
listed (x ∷ xs) = codes "(" ++ x ++ behind xs ++ codes ")"

abbrev pub letter : Sign → ℕ
letter Plain = 112
letter Negated = 110

-- p or n, and the number of a term
abbrev pub literal_text : NumberedLiteral → List ℕ
literal_text l = letter l.sign ∷ numeral l.number

-- a numeral, or a quotient of two
abbrev pub ratio_text : ℕ → ℕ → List ℕ
ratio_text p zero = numeral p
ratio_text p (suc d) = listed (codes "/" ∷ numeral p ∷ numeral (suc d + 1) ∷ [])

abbrev pub multiplier_text : Fraction → List ℕ
multiplier_text a = signed_text a.numerator (λ p. ratio_text p a.below)

abbrev pub step_text : Step → List ℕ
step_text (Input n) = listed (codes "input" ∷ numeral n ∷ [])
step_text (NewTerm t) = listed (codes "term" ∷ term_text t ∷ [])
step_text (Define t k) = listed (codes "def" ∷ numeral t ∷ numeral k ∷ [])
step_text (Pick t k) = listed (codes "pick" ∷ numeral t ∷ numeral k ∷ [])
step_text (Chain ts) = listed (codes "chain" ∷ map numeral ts)
step_text (Congruence s t) = listed (codes "cong" ∷ numeral s ∷ numeral t ∷ [])
step_text (Farkas ls ms) = listed (codes "farkas" ∷ listed (map literal_text ls) ∷ listed (map multiplier_text ms) ∷ [])
step_text (Split t z) = listed (codes "split" ∷ numeral t ∷ signed_text z numeral ∷ [])
step_text (Trichotomy a b) = listed (codes "tri" ∷ numeral a ∷ numeral b ∷ [])
step_text (Divide a d k) = listed (codes "div" ∷ numeral a ∷ numeral d ∷ numeral k ∷ [])
step_text (Propagate ls hs) = listed (codes "rup" ∷ listed (map literal_text ls) ∷ listed (map numeral hs) ∷ [])

-- a `term` step that spells no term has no written form
abbrev pub text_of : Option Step → List ℕ
text_of (Some s) = step_text s
text_of None = codes "(term)"

abbrev pub certificate_text : List (Option Step) → List ℕ
certificate_text steps = listed (codes "certificate" ∷ map text_of steps)
