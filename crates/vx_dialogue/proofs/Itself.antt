-- A term is the same as itself.
use Rattle.std.proofs.Common.{◌≡◌, true, ◌&&◌, refl, eq-eqb}
use Rattle.std.proofs.lemmas.Bool.{and_from}
use Rattle.vx_terms.specs.Sorts.{Sort, sort_number, sort_text, Symbol, Standard, Function, Variable, Named, same_symbol, same_sort, operator_number}
use Rattle.vx_terms.specs.Terms.{Term, Truth, Number, Part, Constant, Apply, Not, Binary, Ite, AllOf, SomeOf, Terms, NoTerms, MoreTerms, same, same_all}
use Rattle.vx_terms.proofs.Same.{int_same}
use Rattle.vx_terms.proofs.Values.{bool_same, fraction_same}
use Rattle.vx_segments.specs.Segments.{Entry}
use Rattle.vx_smt_text.proofs.Read.{text_same}
use Rattle.vx_dialogue.specs.Kept.{same_entry}

sort_same : (a : Sort) → same_sort a a ≡ true
sort_same a = and_from _ _ (eq-eqb (sort_number a) (sort_number a) refl) (text_same (sort_text a))

symbol_same : (f : Symbol) → same_symbol f f ≡ true
symbol_same (Standard n) = eq-eqb n n refl
symbol_same (Function n) = eq-eqb n n refl
symbol_same (Variable n) = eq-eqb n n refl
symbol_same (Named x) = text_same x

mutual
  term_same : (t : Term) → same t t ≡ true
  term_same (Truth b) = bool_same b
  term_same (Number z) = int_same z
  term_same (Part a) = fraction_same a
  term_same (Constant f a) = and_from _ _ (symbol_same f) (sort_same a)
  term_same (Apply f a ts) = and_from _ _ (symbol_same f) (and_from _ _ (sort_same a) (terms_same ts))
  term_same (Not t) = term_same t
  term_same (Binary o t u) = and_from _ _ (eq-eqb (operator_number o) (operator_number o) refl) (and_from _ _ (term_same t) (term_same u))
  term_same (Ite c t u) = and_from _ _ (term_same c) (and_from _ _ (term_same t) (term_same u))
  term_same (AllOf ts) = terms_same ts
  term_same (SomeOf ts) = terms_same ts

  terms_same : (ts : Terms) → same_all ts ts ≡ true
  terms_same NoTerms = refl
  terms_same (MoreTerms t ts) = and_from _ _ (term_same t) (terms_same ts)

-- and so is an entry
pub entry_same : (e : Entry) → same_entry e e ≡ true
entry_same e = and_from _ _ (eq-eqb e.segment e.segment refl) (term_same e.term)
