-- A term is its head over its parts.
use Rattle.std.proofs.Common.{◌≡◌, ℕ, zero, suc, true, ◌&&◌, List, [], ◌∷◌, refl, sym, ◌∙◌, ap, ap₂, eqb-true, eq-eqb}
use Rattle.std.proofs.lemmas.Bool.{and_from, and_parts}
use Rattle.vx_terms.specs.Sorts.{Sort, Symbol, same_text, same_symbol, same_sort, sort_number, sort_text, operator_number, Standard, Function, Variable, Named}
use Rattle.vx_terms.specs.Terms.{Term, Truth, Number, Part, Constant, Apply, Not, Binary, Ite, AllOf, SomeOf, Terms, NoTerms, MoreTerms}
use Rattle.vx_terms.proofs.Same.{int_is, int_same, bool_is, fraction_is, sort_is, symbol_is, operator_is}
use Rattle.vx_terms.proofs.Values.{bool_same, fraction_same}
use Rattle.cs_certificate.specs.Terms.{Head, TruthHead, NumberHead, PartHead, ConstantHead, ApplyHead, BinaryHead, NotHead, IteHead, AllHead, SomeHead, head, items, parts}
use Rattle.cs_certificate.specs.Nodes.{same_head}

abbrev from_items : List Term → Terms
from_items [] = NoTerms
from_items (t ∷ ts) = MoreTerms t (from_items ts)

abbrev nth : List Term → ℕ → Term
nth [] n = Truth true
nth (t ∷ ts) zero = t
nth (t ∷ ts) (suc n) = nth ts n

rebuilt : Head → List Term → Term
rebuilt (TruthHead b) ts = Truth b
rebuilt (NumberHead z) ts = Number z
rebuilt (PartHead a) ts = Part a
rebuilt (ConstantHead f a) ts = Constant f a
rebuilt (ApplyHead f a) ts = Apply f a (from_items ts)
rebuilt (BinaryHead o) ts = Binary o (nth ts 0) (nth ts 1)
rebuilt NotHead ts = Not (nth ts 0)
rebuilt IteHead ts = Ite (nth ts 0) (nth ts 1) (nth ts 2)
rebuilt AllHead ts = AllOf (from_items ts)
rebuilt SomeHead ts = SomeOf (from_items ts)

again_items : (ts : Terms) → from_items (items ts) ≡ ts
again_items NoTerms = refl
again_items (MoreTerms t ts) = ap (MoreTerms t) (again_items ts)

again : (t : Term) → rebuilt (head t) (parts t) ≡ t
unfolding rebuilt
again (Truth b) = refl
again (Number z) = refl
again (Part a) = refl
again (Constant f a) = refl
again (Apply f a ts) = ap (Apply f a) (again_items ts)
again (Not t) = refl
again (Binary o t u) = refl
again (Ite c t u) = refl
again (AllOf ts) = ap AllOf (again_items ts)
again (SomeOf ts) = ap SomeOf (again_items ts)

-- one head over the same parts is one term
pub one_term : (t u : Term) → head t ≡ head u → parts t ≡ parts u → t ≡ u
one_term t u h p = sym (again t) ∙ ap₂ rebuilt h p ∙ again u

-- the tests of heads and numbers
pub head_is : (g h : Head) → same_head g h ≡ true → g ≡ h
head_is (TruthHead a) (TruthHead b) e = ap TruthHead (bool_is a b e)
head_is (NumberHead m) (NumberHead n) e = ap NumberHead (int_is m n e)
head_is (PartHead a) (PartHead b) e = ap PartHead (fraction_is a b e)
head_is (ConstantHead f a) (ConstantHead g b) e = let p = and_parts _ _ e in ap₂ ConstantHead (symbol_is f g p.0) (sort_is a b p.1)
head_is (ApplyHead f a) (ApplyHead g b) e = let p = and_parts _ _ e in ap₂ ApplyHead (symbol_is f g p.0) (sort_is a b p.1)
head_is (BinaryHead o) (BinaryHead p) e = ap BinaryHead (operator_is o p e)
head_is NotHead NotHead e = refl
head_is IteHead IteHead e = refl
head_is AllHead AllHead e = refl
head_is SomeHead SomeHead e = refl
head_is _ _ e = cc

text_same : (x : List ℕ) → same_text x x ≡ true
text_same [] = refl
text_same (a ∷ x) = and_from _ _ (eq-eqb a a refl) (text_same x)

symbol_same : (f : Symbol) → same_symbol f f ≡ true
symbol_same (Standard n) = eq-eqb n n refl
symbol_same (Function n) = eq-eqb n n refl
symbol_same (Variable n) = eq-eqb n n refl
symbol_same (Named x) = text_same x

pub sort_same : (a : Sort) → same_sort a a ≡ true
sort_same a = and_from _ _ (eq-eqb (sort_number a) (sort_number a) refl) (text_same (sort_text a))

pub head_same : (h : Head) → same_head h h ≡ true
head_same (TruthHead b) = bool_same b
head_same (NumberHead z) = int_same z
head_same (PartHead a) = fraction_same a
head_same (ConstantHead f a) = and_from _ _ (symbol_same f) (sort_same a)
head_same (ApplyHead f a) = and_from _ _ (symbol_same f) (sort_same a)
head_same (BinaryHead o) = eq-eqb (operator_number o) (operator_number o) refl
head_same NotHead = refl
head_same IteHead = refl
head_same AllHead = refl
head_same SomeHead = refl

pub numbers_are : (ms ns : List ℕ) → same_text ms ns ≡ true → ms ≡ ns
numbers_are [] [] e = refl
numbers_are (m ∷ ms) (n ∷ ns) e = let p = and_parts _ _ e in ap₂ (λ k ks. k ∷ ks) (eqb-true m n p.0) (numbers_are ms ns p.1)
numbers_are [] (n ∷ ns) e = cc
numbers_are (m ∷ ms) [] e = cc

pub numbers_same : (ns : List ℕ) → same_text ns ns ≡ true
numbers_same [] = refl
numbers_same (n ∷ ns) = and_from _ _ (eq-eqb n n refl) (numbers_same ns)
