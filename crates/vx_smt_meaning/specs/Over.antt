-- Terms over given symbols, the base, and symbols v.
use Rattle.std.specs.Prelude.{◌≡◌, ℕ, List, []}
use Rattle.vx_terms.specs.Sorts.{Sort, Symbol, Standard, Function, Variable, Named}
use Rattle.vx_terms.specs.Terms.{Term, Truth, Number, Part, Constant, Apply, Not, Binary, Ite, AllOf, SomeOf, Terms, NoTerms, MoreTerms}
use Rattle.vx_smt_meaning.specs.Commands.{Declared}
use Rattle.vx_smt_meaning.specs.Symbols.{declaration, Declares, sorts_of}

-- a v stands at its one sort; any other is of the base
abbrev pub IsConstantOver : List Declared → (ℕ → Sort) → Symbol → Sort → Type 0
IsConstantOver base sorts (Standard n) a = Declares base (declaration (Standard n) [] a)
IsConstantOver base sorts (Function n) a = Declares base (declaration (Function n) [] a)
IsConstantOver base sorts (Variable n) a = a ≡ sorts n
IsConstantOver base sorts (Named x) a = Declares base (declaration (Named x) [] a)

-- The term uses symbols of the base as they are declared, and each v without arguments and at one sort.
abbrev mutual
  pub IsOver : List Declared → (ℕ → Sort) → Term → Type 0
  IsOver base sorts (Truth b) = Unit {0}
  IsOver base sorts (Number z) = Unit {0}
  IsOver base sorts (Part a) = Unit {0}
  IsOver base sorts (Constant f a) = IsConstantOver base sorts f a
  IsOver base sorts (Apply f a ts) = Declares base (declaration f (sorts_of ts) a) × AreOver base sorts ts
  IsOver base sorts (Not t) = IsOver base sorts t
  IsOver base sorts (Binary o t u) = IsOver base sorts t × IsOver base sorts u
  IsOver base sorts (Ite c t u) = IsOver base sorts c × IsOver base sorts t × IsOver base sorts u
  IsOver base sorts (AllOf ts) = AreOver base sorts ts
  IsOver base sorts (SomeOf ts) = AreOver base sorts ts

  pub AreOver : List Declared → (ℕ → Sort) → Terms → Type 0
  AreOver base sorts NoTerms = Unit {0}
  AreOver base sorts (MoreTerms t ts) = IsOver base sorts t × AreOver base sorts ts
