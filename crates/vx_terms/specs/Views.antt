-- What the types of src/ stand for, without their pointers.
use Rattle.std.specs.Prelude.{string_bytes}
use Rattle.vx_terms.specs.declared.sort.Sort.{Sort as Sort'}
use Rattle.vx_terms.specs.declared.sort.Sort.TheVariants as sort'
use Rattle.vx_terms.specs.declared.term.Symbol.{Symbol as Symbol'}
use Rattle.vx_terms.specs.declared.term.Symbol.TheVariants as symbol'
use Rattle.vx_terms.specs.declared.term.Operator.{Operator as Operator'}
use Rattle.vx_terms.specs.declared.term.Operator.TheVariants as operator'
use Rattle.vx_terms.specs.declared.term.Term.{Term as Term'}
use Rattle.vx_terms.specs.declared.term.Term.TheVariants as term'
use Rattle.vx_terms.specs.declared.term.Terms.{Terms as Terms'}
use Rattle.vx_terms.specs.declared.term.Terms.TheVariants as terms'
use Rattle.vx_frac.specs.Fraction.{fraction}
use Rattle.vx_terms.specs.Sorts.{Sort, IntSort, BoolSort, RealSort, RefSort, SnapSort, OtherSort, Symbol, Standard, Function, Variable, Named, Operator, And, Or, Implies, Equal, Less, LessEqual, Add, Subtract, Multiply, Div, Mod}
use Rattle.vx_terms.specs.Terms.{Term, Truth, Number, Part, Constant, Apply, Not, Binary, Ite, AllOf, SomeOf, Terms, NoTerms, MoreTerms}

abbrev pub sort : Sort' → Sort
sort sort'.Int = IntSort
sort sort'.Bool = BoolSort
sort sort'.Real = RealSort
sort sort'.Ref = RefSort
sort sort'.Snap = SnapSort
sort (sort'.Other x) = OtherSort (string_bytes x.value)

abbrev pub symbol : Symbol' → Symbol
symbol (symbol'.Standard n) = Standard n
symbol (symbol'.Function n) = Function n
symbol (symbol'.Variable n) = Variable n
symbol (symbol'.Named x) = Named (string_bytes x.value)

abbrev pub operator : Operator' → Operator
operator operator'.And = And
operator operator'.Or = Or
operator operator'.Implies = Implies
operator operator'.Equal = Equal
operator operator'.Less = Less
operator operator'.LessEqual = LessEqual
operator operator'.Add = Add
operator operator'.Subtract = Subtract
operator operator'.Multiply = Multiply
operator operator'.Div = Div
operator operator'.Mod = Mod

abbrev mutual
  pub term : Term' → Term
  term (term'.Truth b) = Truth b
  term (term'.Number z) = Number z
  term (term'.Part a) = Part (fraction a)
  term (term'.Constant f a) = Constant (symbol f) (sort a)
  term (term'.Apply' f a p ts) = Apply (symbol f) (sort a) (terms ts)
  term (term'.Not' p t) = Not (term t)
  term (term'.Binary' o p t q u) = Binary (operator o) (term t) (term u)
  term (term'.Ite' p c q t r u) = Ite (term c) (term t) (term u)
  term (term'.AllOf' p ts) = AllOf (terms ts)
  term (term'.SomeOf' p ts) = SomeOf (terms ts)

  pub terms : Terms' → Terms
  terms terms'.None = NoTerms
  terms (terms'.More' p t q ts) = MoreTerms (term t) (terms ts)
