-- A term is itself and no other.
use Rattle.std.proofs.Common.{◌≡◌, ℕ, Bool, true, false, ◌&&◌, List, [], ◌∷◌, refl, eq-eqb}
use Rattle.std.proofs.lemmas.Bool.{and_from}
use Rattle.vx_terms.specs.Sorts.{Symbol, Standard, Function, Variable, Named, same_text, same_symbol, operator_number}
use Rattle.vx_terms.specs.Terms.{Term, Truth, Number, Part, Constant, Apply, Not, Binary, Ite, AllOf, SomeOf, Terms, NoTerms, MoreTerms, same, same_all}
use Rattle.vx_terms.proofs.Same.{int_same, term_is}
use Rattle.vx_terms.proofs.Values.{bool_same, fraction_same}
use Rattle.cs_certificate.proofs.Heads.{sort_same}

text_same : (x : List ℕ) → same_text x x ≡ true
text_same [] = refl
text_same (a ∷ x) = and_from _ _ (eq-eqb a a refl) (text_same x)

symbol_same : (f : Symbol) → same_symbol f f ≡ true
symbol_same (Standard n) = eq-eqb n n refl
symbol_same (Function n) = eq-eqb n n refl
symbol_same (Variable n) = eq-eqb n n refl
symbol_same (Named x) = text_same x

mutual
  pub term_same : (t : Term) → same t t ≡ true
  term_same (Truth b) = bool_same b
  term_same (Number z) = int_same z
  term_same (Part a) = fraction_same a
  term_same (Constant f a) = and_from _ _ (symbol_same f) (sort_same a)
  term_same (Apply f a ts) = and_from _ _ (symbol_same f) (and_from _ _ (sort_same a) (terms_same ts))
  term_same (Not t) = term_same t
  term_same (Binary o t u) = and_from _ _ (eq-eqb (operator_number o) (operator_number o) refl) (and_from _ _ (term_same t) (term_same u))
  term_same (Ite c t u) = and_from _ _ (term_same c) (and_from _ _ (term_same t) (term_same u))
  term_same (AllOf ts) = terms_same ts
  term_same (SomeOf ts) = terms_same ts

  terms_same : (ts : Terms) → same_all ts ts ≡ true
  terms_same NoTerms = refl
  terms_same (MoreTerms t ts) = and_from _ _ (term_same t) (terms_same ts)

pub other_term : (t u : Term) → (t ≡ u → ⊥) → same t u ≡ false
other_term t u h = go (same t u) refl
  where
    go : (b : Bool) → same t u ≡ b → b ≡ false
    go true e = absurd (h (term_is t u e))
    go false e = refl
