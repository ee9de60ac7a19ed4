-- Keys of terms: any numbers would do that depend on the term alone. The key of a term is made of those of its parts.
use Rattle.std.specs.Prelude.{ℕ, nat_abs, true, false}
use Rattle.vx_terms.specs.Terms.{Term, Truth, Number, Part, Constant, Apply, Not, Binary, Ite, AllOf, SomeOf, Terms, NoTerms, MoreTerms}
use Rattle.cs_index.specs.Keys.{mixed}
use Rattle.cs_table.specs.Keys.{symbol_key, operator_key, part_key}

abbrev mutual
  pub term_key : Term → ℕ
  term_key (Truth true) = 12
  term_key (Truth false) = 13
  term_key (Number z) = mixed 14 (nat_abs z)
  term_key (Part a) = part_key a
  term_key (Constant f a) = symbol_key f
  term_key (Apply f a ts) = mixed (mixed 16 (symbol_key f)) (list_key ts)
  term_key (Not t) = mixed 17 (term_key t)
  term_key (Binary o t u) = mixed (mixed (operator_key o) (term_key t)) (term_key u)
  term_key (Ite c t u) = mixed (mixed (mixed 18 (term_key c)) (term_key t)) (term_key u)
  term_key (AllOf ts) = mixed 19 (list_key ts)
  term_key (SomeOf ts) = mixed 20 (list_key ts)

  pub list_key : Terms → ℕ
  list_key NoTerms = 21
  list_key (MoreTerms t ts) = mixed (term_key t) (list_key ts)
