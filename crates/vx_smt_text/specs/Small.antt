-- Commands whose numbers fit their types in code.
use Rattle.std.specs.Prelude.{⊤, ℕ, suc, ◌<◌, ◌^◌}
use Rattle.vx_terms.specs.Sorts.{Symbol, Standard, Function, Variable, Named}
use Rattle.vx_terms.specs.Terms.{Term, Truth, Number, Part, Constant, Apply, Not, Binary, Ite, AllOf, SomeOf, Terms, NoTerms, MoreTerms}
use Rattle.vx_smt_meaning.specs.Commands.{Command, DeclareFun, Assert}

abbrev pub IsSmallSymbol : Symbol → Type 0
IsSmallSymbol (Standard n) = n < 2 ^ 32
IsSmallSymbol (Function n) = n < 2 ^ 32
IsSmallSymbol (Variable n) = n < 2 ^ 64
IsSmallSymbol (Named x) = ⊤

-- The numbers of symbols fit, and the denominators.
abbrev mutual
  pub IsSmallTerm : Term → Type 0
  IsSmallTerm (Truth b) = ⊤
  IsSmallTerm (Number z) = ⊤
  IsSmallTerm (Part a) = suc a.below < 2 ^ 127
  IsSmallTerm (Constant f a) = IsSmallSymbol f
  IsSmallTerm (Apply f a ts) = IsSmallSymbol f × AreSmallTerms ts
  IsSmallTerm (Not t) = IsSmallTerm t
  IsSmallTerm (Binary o t u) = IsSmallTerm t × IsSmallTerm u
  IsSmallTerm (Ite c t u) = IsSmallTerm c × IsSmallTerm t × IsSmallTerm u
  IsSmallTerm (AllOf ts) = AreSmallTerms ts
  IsSmallTerm (SomeOf ts) = AreSmallTerms ts

  pub AreSmallTerms : Terms → Type 0
  AreSmallTerms NoTerms = ⊤
  AreSmallTerms (MoreTerms t ts) = IsSmallTerm t × AreSmallTerms ts

-- so it is with what is declared, and with what is asserted
abbrev pub IsSmallCommand : Command → Type 0
IsSmallCommand (DeclareFun d) = IsSmallSymbol d.symbol
IsSmallCommand (Assert t) = IsSmallTerm t
IsSmallCommand c = ⊤
