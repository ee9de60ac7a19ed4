-- What is written for a command is understood as that command.
use Rattle.std.specs.Prelude.{◌≡◌, ⊤, ℕ, suc, ◌<◌, ◌^◌, nat_abs, true, false, List, [], ◌∷◌, Ok}
use Rattle.vx_sexp.specs.First.{IsFirst}
use Rattle.vx_terms.specs.Sorts.{BoolSort, Symbol, Standard, Function, Variable, Named}
use Rattle.vx_terms.specs.Terms.{Term, Truth, Number, Part, Constant, Apply, Not, Binary, Ite, AllOf, SomeOf, Terms, NoTerms, MoreTerms}
use Rattle.vx_terms.specs.Formed.{Formed}
use Rattle.vx_smt_meaning.specs.Commands.{Command, SetOption, SetLogic, DeclareSort, DeclareFun, Assert, Push, Pop, CheckSat, GetProof, Exit, Declared, Level, declared_in}
use Rattle.vx_smt_meaning.specs.Names.{IsCommand}
use Rattle.vx_smt_meaning.specs.WellFormed.{names, sorts_in, knows_sort, MayFollow}
use Rattle.vx_smt_meaning.specs.Words.{command_tokens}
use Rattle.vx_smt_text.specs.Text.{command_text}
use Rattle.vx_smt_text.specs.Unique.{has_three}
use Rattle.cs_writable.specs.Writable.{has_some}
use Rattle.cs_commands.specs.Names.{sort_named}
use Rattle.cs_commands.specs.Live.{Scope}
use Rattle.cs_commands.specs.Commands.{understood}

-- what is declared on some levels
abbrev pub scope_of : List Level → Scope
scope_of levels = record { symbols = declared_in levels; sorts = sorts_in levels }

-- no symbol is declared twice
abbrev pub AreApart : List Declared → Type 0
AreApart [] = ⊤
AreApart (d ∷ ds) = (names ds d.symbol ≡ false) × AreApart ds

-- ---- numbers that are read

abbrev pub IsSmallSymbol : Symbol → Type 0
IsSmallSymbol (Standard n) = n < 2 ^ 32
IsSmallSymbol (Function n) = n < 2 ^ 32
IsSmallSymbol (Variable n) = n < 2 ^ 64
IsSmallSymbol (Named x) = ⊤

-- The numbers stay below 2^127; an application has arguments, and `and` and `or` of a list have three parts or more.
abbrev mutual
  pub IsReadable : Term → Type 0
  IsReadable (Truth b) = ⊤
  IsReadable (Number z) = nat_abs z < 2 ^ 127
  IsReadable (Part a) = (nat_abs a.numerator < 2 ^ 127) × (suc a.below < 2 ^ 127)
  IsReadable (Constant f a) = IsSmallSymbol f
  IsReadable (Apply f a ts) = IsSmallSymbol f × (has_some ts ≡ true) × AreReadable ts
  IsReadable (Not t) = IsReadable t
  IsReadable (Binary o t u) = IsReadable t × IsReadable u
  IsReadable (Ite c t u) = IsReadable c × IsReadable t × IsReadable u
  IsReadable (AllOf ts) = (has_three ts ≡ true) × AreReadable ts
  IsReadable (SomeOf ts) = (has_three ts ≡ true) × AreReadable ts

  pub AreReadable : Terms → Type 0
  AreReadable NoTerms = ⊤
  AreReadable (MoreTerms t ts) = IsReadable t × AreReadable ts

-- an assertion is well-sorted, a sort isn't one of SMT-LIB's own, and the numbers are read
abbrev pub IsPlain : Command → Type 0
IsPlain (SetOption x b) = ⊤
IsPlain (SetLogic x) = ⊤
IsPlain (DeclareSort x) = knows_sort [] (sort_named x) ≡ false
IsPlain (DeclareFun d) = IsSmallSymbol d.symbol
IsPlain (Assert t) = ((n : ℕ) × Formed n t BoolSort) × IsReadable t
IsPlain (Push n) = n < 2 ^ 32
IsPlain (Pop n) = n < 2 ^ 32
IsPlain CheckSat = ⊤
IsPlain GetProof = ⊤
IsPlain Exit = ⊤

-- the first s-expression of the text is that command
pub record IsReadAs (levels : List Level) (text : List ℕ) (c : Command) : Type 0 where
  pub rest : List ℕ
  pub first : IsFirst text (command_tokens c) rest
  pub meant : understood (scope_of levels) (command_tokens c) ≡ Ok c

-- what is written for a command that may follow over live levels
abbrev pub WrittenIsUnderstood : Type 0
WrittenIsUnderstood = (levels : List Level) (c : Command) → AreApart (declared_in levels) → IsCommand c → MayFollow levels c → IsPlain c → IsReadAs levels (command_text c) c
