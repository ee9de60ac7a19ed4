-- A term is found the same as itself.
use Rattle.std.proofs.Common.{◌≡◌, ℕ, Bool, true, false, ◌&&◌, List, [], ◌∷◌, refl, eq-eqb}
use Rattle.std.proofs.lemmas.Bool.{and_from}
use Rattle.vx_frac.specs.Fractions.{Fraction}
use Rattle.vx_terms.specs.Sorts.{Sort, Symbol, Standard, Function, Variable, Named, same_text, same_sort, sort_number, sort_text, same_symbol, operator_number}
use Rattle.vx_terms.specs.Terms.{Term, Truth, Number, Part, Constant, Apply, Not, Binary, Ite, AllOf, SomeOf, Terms, NoTerms, MoreTerms, same_bool, identical, same, same_all}
use Rattle.vx_terms.proofs.Same.{int_same}

bool_same : (b : Bool) → same_bool b b ≡ true
bool_same true = refl
bool_same false = refl

text_same : (x : List ℕ) → same_text x x ≡ true
text_same [] = refl
text_same (a ∷ x) = and_from _ _ (eq-eqb a a refl) (text_same x)

sort_same : (a : Sort) → same_sort a a ≡ true
sort_same a = and_from _ _ (eq-eqb (sort_number a) (sort_number a) refl) (text_same (sort_text a))

symbol_same : (f : Symbol) → same_symbol f f ≡ true
symbol_same (Standard n) = eq-eqb n n refl
symbol_same (Function n) = eq-eqb n n refl
symbol_same (Variable n) = eq-eqb n n refl
symbol_same (Named x) = text_same x

fraction_same : (a : Fraction) → identical a a ≡ true
fraction_same a = and_from _ _ (int_same a.numerator) (eq-eqb a.below a.below refl)

mutual
  pub term_same : (t : Term) → same t t ≡ true
  term_same (Truth b) = bool_same b
  term_same (Number n) = int_same n
  term_same (Part a) = fraction_same a
  term_same (Constant f a) = and_from _ _ (symbol_same f) (sort_same a)
  term_same (Apply f a ts) = and_from _ _ (symbol_same f) (and_from _ _ (sort_same a) (terms_same ts))
  term_same (Not t) = term_same t
  term_same (Binary o t u) = and_from _ _ (eq-eqb (operator_number o) (operator_number o) refl) (and_from _ _ (term_same t) (term_same u))
  term_same (Ite c t u) = and_from _ _ (term_same c) (and_from _ _ (term_same t) (term_same u))
  term_same (AllOf ts) = terms_same ts
  term_same (SomeOf ts) = terms_same ts

  terms_same : (ts : Terms) → same_all ts ts ≡ true
  terms_same NoTerms = refl
  terms_same (MoreTerms t ts) = and_from _ _ (term_same t) (terms_same ts)
