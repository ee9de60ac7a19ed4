-- Keys of heads over parts: any numbers would do that depend on these alone.
use Rattle.std.specs.Prelude.{ℕ, true, false, nat_abs, List}
use Rattle.vx_terms.specs.Sorts.{Symbol, Standard, Function, Variable, Named, Operator, And, Or, Implies, Equal, Less, LessEqual, Add, Subtract, Multiply, Div, Mod}
use Rattle.cs_index.specs.Keys.{mixed, mixed_all}
use Rattle.vx_frac.specs.Fractions.{Fraction, denominator}
use Rattle.cs_certificate.specs.Terms.{Head, TruthHead, NumberHead, PartHead, ConstantHead, ApplyHead, BinaryHead, NotHead, IteHead, AllHead, SomeHead}
use Rattle.cs_certificate.specs.Nodes.{Node}

abbrev pub symbol_key : Symbol → ℕ
symbol_key (Standard n) = mixed 21 n
symbol_key (Function n) = mixed 22 n
symbol_key (Variable n) = mixed 23 n
symbol_key (Named x) = mixed_all 24 x

abbrev pub operator_key : Operator → ℕ
operator_key And = 1
operator_key Or = 2
operator_key Implies = 3
operator_key Equal = 4
operator_key Less = 5
operator_key LessEqual = 6
operator_key Add = 7
operator_key Subtract = 8
operator_key Multiply = 9
operator_key Div = 10
operator_key Mod = 11

abbrev pub part_key : Fraction → ℕ
part_key a = mixed (mixed 15 (nat_abs a.numerator)) (nat_abs (denominator a))

abbrev pub head_key : Head → ℕ
head_key (TruthHead true) = 12
head_key (TruthHead false) = 13
head_key (NumberHead z) = mixed 14 (nat_abs z)
head_key (PartHead a) = part_key a
head_key (ConstantHead f a) = symbol_key f
head_key (ApplyHead f a) = mixed 16 (symbol_key f)
head_key (BinaryHead o) = operator_key o
head_key NotHead = 17
head_key IteHead = 18
head_key AllHead = 19
head_key SomeHead = 20

abbrev pub key_over : Head → List ℕ → ℕ
key_over h ps = mixed_all (head_key h) ps

abbrev pub node_key : Node → ℕ
node_key n = key_over n.head n.parts
