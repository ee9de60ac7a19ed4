-- What is compared with itself is the same.
use Rattle.std.proofs.Common.{◌≡◌, ℕ, Bool, true, false, ◌&&◌, List, [], ◌∷◌, refl, ap₂, true≢false, sym}
use Rattle.std.proofs.lemmas.Bool.{and_from, and_parts}
use Rattle.vx_ast.specs.Syntax.{Name, same_name}
use Rattle.vx_terms.specs.Sorts.{Sort, Symbol, Standard, Function, Variable, Named, Operator, operator_number, sort_number, sort_text, same_text, same_sort, same_symbol, same_operator}
use Rattle.vx_terms.specs.Terms.{Term, Truth, Number, Part, Constant, Apply, Not, Binary, Ite, AllOf, SomeOf, Terms, NoTerms, MoreTerms, same_bool, same, same_all}
use Rattle.vx_terms.proofs.Same.{int_same, term_is}
use Rattle.vx_rules.specs.States.{Chunk}
use Rattle.vx_rules.specs.Chunks.{is_kin, same_arguments}
use Rattle.vx_heap.proofs.Tests.{itself}

bool_itself : (b : Bool) → same_bool b b ≡ true
bool_itself true = refl
bool_itself false = refl

text_itself : (x : List ℕ) → same_text x x ≡ true
text_itself [] = refl
text_itself (a ∷ x) = and_from _ _ (itself a) (text_itself x)

name_itself : (x : Name) → same_name x x ≡ true
name_itself [] = refl
name_itself (a ∷ x) = and_from _ _ (itself a) (name_itself x)

sort_itself : (s : Sort) → same_sort s s ≡ true
sort_itself s = and_from _ _ (itself (sort_number s)) (text_itself (sort_text s))

symbol_itself : (f : Symbol) → same_symbol f f ≡ true
symbol_itself (Standard n) = itself n
symbol_itself (Function n) = itself n
symbol_itself (Variable n) = itself n
symbol_itself (Named x) = text_itself x

operator_itself : (o : Operator) → same_operator o o ≡ true
operator_itself o = itself (operator_number o)

mutual
  term_itself : (t : Term) → same t t ≡ true
  term_itself (Truth b) = bool_itself b
  term_itself (Number z) = int_same z
  term_itself (Part a) = and_from _ _ (int_same a.numerator) (itself a.below)
  term_itself (Constant f a) = and_from _ _ (symbol_itself f) (sort_itself a)
  term_itself (Apply f a ts) = and_from _ _ (symbol_itself f) (and_from _ _ (sort_itself a) (all_themselves ts))
  term_itself (Not t) = term_itself t
  term_itself (Binary o t u) = and_from _ _ (operator_itself o) (and_from _ _ (term_itself t) (term_itself u))
  term_itself (Ite c t u) = and_from _ _ (term_itself c) (and_from _ _ (term_itself t) (term_itself u))
  term_itself (AllOf ts) = all_themselves ts
  term_itself (SomeOf ts) = all_themselves ts

  all_themselves : (ts : Terms) → same_all ts ts ≡ true
  all_themselves NoTerms = refl
  all_themselves (MoreTerms t ts) = and_from _ _ (term_itself t) (all_themselves ts)

pub arguments_themselves : (ts : List Term) → same_arguments ts ts ≡ true
arguments_themselves [] = refl
arguments_themselves (t ∷ ts) = and_from _ _ (term_itself t) (arguments_themselves ts)

pub kin_itself : (c : Chunk) → is_kin c c ≡ true
kin_itself c = and_from _ _ (bool_itself c.is_field) (name_itself c.resource)

-- arguments that are found the same are
pub arguments_are : (ss ts : List Term) → same_arguments ss ts ≡ true → ss ≡ ts
arguments_are [] [] e = refl
arguments_are (s ∷ ss) (t ∷ ts) e = let q = and_parts (same s t) (same_arguments ss ts) e in ap₂ (λ (u : Term) (us : List Term). u ∷ us) (term_is s t q.0) (arguments_are ss ts q.1)
arguments_are [] (t ∷ ts) e = absurd (true≢false (sym e))
arguments_are (s ∷ ss) [] e = absurd (true≢false (sym e))
