-- Keys of terms, by which a path's terms are found again: any numbers would do that depend on the term alone.
use Rattle.std.specs.Prelude.{ℕ, ◌+◌, ◌*◌, ◌-◌, ◌%◌, if◌then◌else◌, nat_eq, nat_abs}
use Rattle.vx_frac.specs.Fractions.{Fraction}
use Rattle.vx_terms.specs.Sorts.{Symbol, Standard, Function, Variable, Named, Operator, And, Or, Implies, Equal, Less, LessEqual, Add, Subtract, Multiply, Div, Mod}
use Rattle.vx_terms.specs.Terms.{Term, Truth, Number, Part, Constant, Apply, Not, Binary, Ite, AllOf, SomeOf, Terms, NoTerms, MoreTerms}

abbrev pub mixed : ℕ → ℕ → ℕ
mixed a b = (a * 31 + b) % 65536

abbrev pub symbol_key : Symbol → ℕ
symbol_key (Standard n) = n % 65536
symbol_key (Function n) = n % 65536
symbol_key (Variable n) = n % 65536
symbol_key (Named x) = 0

abbrev pub operator_key : Operator → ℕ
operator_key And = 1
operator_key Or = 2
operator_key Implies = 3
operator_key Equal = 4
operator_key Less = 5
operator_key LessEqual = 6
operator_key Add = 7
operator_key Subtract = 8
operator_key Multiply = 9
operator_key Div = 10
operator_key Mod = 11

abbrev pub fraction_key : Fraction → ℕ
fraction_key a = mixed (nat_abs a.numerator % 65536) (a.below % 65536)

-- a part's key, or 0 where no depth is left
abbrev pub within : ℕ → ℕ → ℕ
within n key = if nat_eq n 0 then 0 else key

-- by the symbols, numbers and operators down to this depth; of a list by as many of its terms
abbrev mutual
  pub key_of : Term → ℕ → ℕ
  key_of (Truth b) n = if b then 1 else 0
  key_of (Number z) n = nat_abs z % 65536
  key_of (Part a) n = fraction_key a
  key_of (Constant f a) n = symbol_key f
  key_of (Apply f a ts) n = mixed (symbol_key f) (keys_of ts n)
  key_of (Not u) n = mixed 12 (within n (key_of u (n - 1)))
  key_of (Binary o u v) n = mixed (mixed (operator_key o) (within n (key_of u (n - 1)))) (within n (key_of v (n - 1)))
  key_of (Ite c u v) n = mixed (mixed (within n (key_of c (n - 1))) (within n (key_of u (n - 1)))) (within n (key_of v (n - 1)))
  key_of (AllOf ts) n = mixed 13 (keys_of ts n)
  key_of (SomeOf ts) n = mixed 14 (keys_of ts n)

  pub keys_of : Terms → ℕ → ℕ
  keys_of NoTerms n = 0
  keys_of (MoreTerms t ts) n = mixed (within n (key_of t (n - 1))) (within n (keys_of ts (n - 1)))
