-- The text of steps is scanned into their tokens.
use Rattle.std.proofs.Common.{◌≡◌, ℕ, zero, suc, ◌+◌, true, false, List, [], ◌∷◌, ◌++◌, map, codes, refl, subst, append_assoc}
use Rattle.std.specs.Prelude.{⊤}
use Rattle.vx_frac.specs.Fractions.{Fraction}
use Rattle.vx_sexp.specs.declared.token.Kind.TheVariants as kinds
use Rattle.vx_sexp.specs.declared.token.Token.{Token}
use Rattle.vx_sexp.specs.declared.token.Token.TheVariants.{Atom}
use Rattle.vx_sexp.specs.Characters.{is_digit, is_symbol_byte}
use Rattle.vx_sexp.specs.Tokens.{Lexes, is_of, is_symbol}
use Rattle.vx_smt_meaning.specs.Words as written
use Rattle.vx_smt_meaning.specs.Words.{numeral, word, symbol_word, operator_word, signed_tokens, term_tokens, terms_tokens}
use Rattle.vx_smt_text.specs.Text.{term_text, terms_text}
use Rattle.vx_smt_text.proofs.Words.{lettered, operator_is}
use Rattle.vx_smt_text.proofs.Back.{Reads, small_symbols, reads_symbol, reads_numeral, reads_quotient, reads_both, reads_list, reads_signed, reads_as, append_none, reads_eq, closed_list, in_list}
use Rattle.vx_terms.specs.Sorts.{Sort, Symbol, And, Or}
use Rattle.vx_terms.specs.Terms.{Term, Truth, Number, Part, Constant, Apply, Not, Binary, Ite, AllOf, SomeOf, Terms, NoTerms, MoreTerms, sort_of}
use Rattle.vx_terms.specs.Interpretations.{Each}
use Rattle.cs_certificate.specs.Terms.{items}
use Rattle.cs_certificate.specs.Certificate.{Stack, IsLive, AreLive, AllLive, Sign, Plain, Negated, NumberedLiteral, Step, Input, NewTerm, Define, Pick, Chain, Congruence, Farkas, Split, Trichotomy, Divide, Propagate}
use Rattle.cs_text.specs.Text.{behind, listed, letter, literal_text, ratio_text, multiplier_text, step_text}

-- ---- tokens

abbrev pub num : ℕ → Token
num n = Atom kinds.Numeral (numeral n)

abbrev pub literal_token : NumberedLiteral → Token
literal_token l = word (literal_text l)

abbrev pub ratio_tokens : ℕ → ℕ → List Token
ratio_tokens p zero = num p ∷ []
ratio_tokens p (suc d) = written.listed (word (codes "/") ∷ num p ∷ num (suc d + 1) ∷ [])

abbrev pub multiplier_tokens : Fraction → List Token
multiplier_tokens a = signed_tokens a.numerator (λ p. ratio_tokens p a.below)

abbrev pub multipliers_tokens : List Fraction → List Token
multipliers_tokens [] = []
multipliers_tokens (m ∷ ms) = multiplier_tokens m ++ multipliers_tokens ms

abbrev pub step_tokens : Step → List Token
step_tokens (Input n) = written.listed (word (codes "input") ∷ num n ∷ [])
step_tokens (NewTerm t) = written.listed (word (codes "term") ∷ term_tokens t)
step_tokens (Define t k) = written.listed (word (codes "def") ∷ num t ∷ num k ∷ [])
step_tokens (Pick t k) = written.listed (word (codes "pick") ∷ num t ∷ num k ∷ [])
step_tokens (Chain ts) = written.listed (word (codes "chain") ∷ map num ts)
step_tokens (Congruence s t) = written.listed (word (codes "cong") ∷ num s ∷ num t ∷ [])
step_tokens (Farkas ls ms) = written.listed (word (codes "farkas") ∷ written.listed (map literal_token ls) ++ written.listed (multipliers_tokens ms))
step_tokens (Split t z) = written.listed (word (codes "split") ∷ num t ∷ signed_tokens z (λ n. num n ∷ []))
step_tokens (Trichotomy a b) = written.listed (word (codes "tri") ∷ num a ∷ num b ∷ [])
step_tokens (Divide a d k) = written.listed (word (codes "div") ∷ num a ∷ num d ∷ num k ∷ [])
step_tokens (Propagate ls hs) = written.listed (word (codes "rup") ∷ written.listed (map literal_token ls) ++ written.listed (map num hs))

abbrev pub steps_tokens : List Step → List Token
steps_tokens [] = []
steps_tokens (s ∷ ss) = step_tokens s ++ steps_tokens ss

-- ---- lists of texts

pub data AllRead : List (List ℕ) → List Token → Type 0 where
  none : AllRead [] []
  more : {x : List ℕ} {xs : List (List ℕ)} {ts us : List Token} → Reads x ts → AllRead xs us → AllRead (x ∷ xs) (ts ++ us)

reads_behind : {a : List ℕ} {us : List Token} {xs : List (List ℕ)} {ts : List Token} → AllRead xs ts → Reads a us → Reads (a ++ behind xs) (us ++ ts)
reads_behind {a = a} {us = us} none r = reads_eq (append_none a) (append_none us) r
reads_behind (more e es) r = reads_eq (simp append_assoc) (simp append_assoc) (reads_behind es (reads_both r e))

pub reads_listed : {x : List ℕ} {ts : List Token} {xs : List (List ℕ)} {us : List Token} → Reads x ts → AllRead xs us → Reads (listed (x ∷ xs)) (written.listed (ts ++ us))
reads_listed r es = reads_list (reads_behind es r)

all_listed : {xs : List (List ℕ)} {ts : List Token} → AllRead xs ts → Reads (listed xs) (written.listed ts)
all_listed none = record { some = refl; all = λ rest g. in_list (41 ∷ rest) [] rest refl }
all_listed (more r es) = reads_listed r es

-- the last one
last : {x : List ℕ} {ts : List Token} → Reads x ts → AllRead (x ∷ []) ts
last {x = x} {ts = ts} r = subst (AllRead (x ∷ [])) (append_none ts) (more r none)

all_numbers : (ns : List ℕ) → AllRead (map numeral ns) (map num ns)
all_numbers [] = none
all_numbers (n ∷ ns) = more (reads_numeral n) (all_numbers ns)

-- ---- words

step_words : (is_of kinds.Symbol (codes "input") ≡ true) × (is_of kinds.Symbol (codes "term") ≡ true) × (is_of kinds.Symbol (codes "def") ≡ true)
    × (is_of kinds.Symbol (codes "pick") ≡ true) × (is_of kinds.Symbol (codes "chain") ≡ true) × (is_of kinds.Symbol (codes "cong") ≡ true)
    × (is_of kinds.Symbol (codes "farkas") ≡ true) × (is_of kinds.Symbol (codes "split") ≡ true) × (is_of kinds.Symbol (codes "tri") ≡ true)
    × (is_of kinds.Symbol (codes "div") ≡ true) × (is_of kinds.Symbol (codes "rup") ≡ true) × (is_of kinds.Symbol (codes "certificate") ≡ true)
    × (is_of kinds.Symbol (codes "/") ≡ true)
unfolding is_digit is_symbol_byte
step_words = (refl, refl, refl, refl, refl, refl, refl, refl, refl, refl, refl, refl, refl)

letters : (s : Sign) → (is_digit (letter s) ≡ false) × (is_symbol_byte (letter s) ≡ true)
unfolding is_digit is_symbol_byte
letters Plain = (refl, refl)
letters Negated = (refl, refl)

reads_literal : (l : NumberedLiteral) → Reads (literal_text l) (literal_token l ∷ [])
reads_literal l = reads_symbol (literal_text l) (lettered (letter l.sign) l.number (letters l.sign).0 (letters l.sign).1)

all_literals : (ls : List NumberedLiteral) → AllRead (map literal_text ls) (map literal_token ls)
all_literals [] = none
all_literals (l ∷ ls) = more (reads_literal l) (all_literals ls)

reads_ratio : (p d : ℕ) → Reads (ratio_text p d) (ratio_tokens p d)
reads_ratio p zero = reads_numeral p
reads_ratio p (suc d) = reads_listed (reads_symbol (codes "/") (step_words).12) (more (reads_numeral p) (more (reads_numeral (suc d + 1)) none))

reads_multiplier : (a : Fraction) → Reads (multiplier_text a) (multiplier_tokens a)
reads_multiplier a = reads_signed a.numerator (λ p. ratio_text p a.below) (λ p. ratio_tokens p a.below) (λ p. reads_ratio p a.below)

all_multipliers : (ms : List Fraction) → AllRead (map multiplier_text ms) (multipliers_tokens ms)
all_multipliers [] = none
all_multipliers (m ∷ ms) = more (reads_multiplier m) (all_multipliers ms)

-- ---- terms

module _ (stack : Stack) (spelled : (f : Symbol) (ss : List Sort) (a : Sort) → IsLive stack f ss a → is_symbol (symbol_word f) ≡ true) where
  mutual
    pub reads_term : (t : Term) → AreLive stack t → Reads (term_text t) (term_tokens t)
    reads_term (Truth true) h = reads_symbol (codes "true") (small_symbols).4
    reads_term (Truth false) h = reads_symbol (codes "false") (small_symbols).5
    reads_term (Number z) h = reads_signed z numeral _ reads_numeral
    reads_term (Part a) h = reads_signed a.numerator _ _ (λ p. reads_quotient p a.below)
    reads_term (Constant f a) h = reads_symbol (symbol_word f) (spelled f [] a h)
    reads_term (Apply f a ts) h =
        reads_as (simp append_assoc) (reads_list (reads_terms ts h.1 (symbol_word f) _ (reads_symbol (symbol_word f) (spelled f (map sort_of (items ts)) a h.0))))
    reads_term (Not t) h = reads_as (simp append_assoc) (reads_list (reads_both (reads_symbol (codes "not") (small_symbols).2) (reads_term t h)))
    reads_term (Binary o t u) h = reads_as (simp append_assoc)
        (reads_list (reads_both (reads_both (reads_symbol (operator_word o) (operator_is o)) (reads_term t h.0)) (reads_term u h.1)))
    reads_term (Ite c t u) h = reads_as (simp append_assoc)
        (reads_list (reads_both (reads_both (reads_both (reads_symbol (codes "ite") (small_symbols).3) (reads_term c h.0)) (reads_term t h.1)) (reads_term u h.2)))
    reads_term (AllOf ts) h = reads_as (simp append_assoc) (reads_list (reads_terms ts h (codes "and") _ (reads_symbol (codes "and") (operator_is And))))
    reads_term (SomeOf ts) h = reads_as (simp append_assoc) (reads_list (reads_terms ts h (codes "or") _ (reads_symbol (codes "or") (operator_is Or))))

    reads_terms : (ts : Terms) → AllLive stack ts → (a : List ℕ) (us : List Token) → Reads a us → Reads (a ++ terms_text ts) (us ++ terms_tokens ts)
    reads_terms NoTerms h a us r = reads_eq (append_none a) (append_none us) r
    reads_terms (MoreTerms t ts) h a us r = reads_eq (simp append_assoc) (simp append_assoc)
        (reads_terms ts h.1 (a ++ (32 ∷ term_text t)) (us ++ term_tokens t) (reads_both r (reads_term t h.0)))

-- ---- steps

-- the text of a step's term is read as its tokens
abbrev pub HasTerm : Step → Type 0
HasTerm (NewTerm t) = Reads (term_text t) (term_tokens t)
HasTerm s = ⊤

reads_step : (s : Step) → HasTerm s → Reads (step_text s) (step_tokens s)
reads_step (Input n) h = reads_listed (reads_symbol (codes "input") (step_words).0) (more (reads_numeral n) none)
reads_step (NewTerm t) h = reads_listed (reads_symbol (codes "term") (step_words).1) (last h)
reads_step (Define t k) h = reads_listed (reads_symbol (codes "def") (step_words).2) (more (reads_numeral t) (more (reads_numeral k) none))
reads_step (Pick t k) h = reads_listed (reads_symbol (codes "pick") (step_words).3) (more (reads_numeral t) (more (reads_numeral k) none))
reads_step (Chain ts) h = reads_listed (reads_symbol (codes "chain") (step_words).4) (all_numbers ts)
reads_step (Congruence s t) h = reads_listed (reads_symbol (codes "cong") (step_words).5) (more (reads_numeral s) (more (reads_numeral t) none))
reads_step (Farkas ls ms) h = reads_listed (reads_symbol (codes "farkas") (step_words).6) (more (all_listed (all_literals ls)) (last (all_listed (all_multipliers ms))))
reads_step (Split t z) h = reads_listed (reads_symbol (codes "split") (step_words).7) (more (reads_numeral t) (last (reads_signed z numeral (λ n. num n ∷ []) reads_numeral)))
reads_step (Trichotomy a b) h = reads_listed (reads_symbol (codes "tri") (step_words).8) (more (reads_numeral a) (more (reads_numeral b) none))
reads_step (Divide a d k) h = reads_listed (reads_symbol (codes "div") (step_words).9) (more (reads_numeral a) (more (reads_numeral d) (more (reads_numeral k) none)))
reads_step (Propagate ls hs) h = reads_listed (reads_symbol (codes "rup") (step_words).10) (more (all_listed (all_literals ls)) (last (all_listed (all_numbers hs))))

all_steps : (ss : List Step) → Each HasTerm ss → AllRead (map step_text ss) (steps_tokens ss)
all_steps [] h = none
all_steps (s ∷ ss) h = more (reads_step s h.0) (all_steps ss h.1)

-- ---- certificates

abbrev pub certificate_tokens : List Step → List Token
certificate_tokens ss = written.listed (word (codes "certificate") ∷ steps_tokens ss)

pub scanned : (ss : List Step) → Each HasTerm ss → (rest : List ℕ) → Lexes (listed (codes "certificate" ∷ map step_text ss) ++ rest) (certificate_tokens ss) rest
scanned ss h rest = (closed_list (reads_behind (all_steps ss h) (reads_symbol (codes "certificate") (step_words).11))).all rest
