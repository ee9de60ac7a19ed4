-- Commands that are read off their text in one way alone.
use Rattle.std.specs.Prelude.{◌≡◌, Bool, true, false, List, [], ◌∷◌, ℕ}
use Rattle.vx_terms.specs.Sorts.{Sort, Symbol}
use Rattle.vx_terms.specs.Terms.{Term, Truth, Number, Part, Constant, Apply, Not, Binary, Ite, AllOf, SomeOf, Terms, NoTerms, MoreTerms}
use Rattle.vx_smt_meaning.specs.Commands.{Command, Assert}
use Rattle.vx_smt_meaning.specs.Names.{IsCommand}
use Rattle.vx_smt_meaning.specs.Spelled.{Spells}

abbrev pub has_three : Terms → Bool
has_three NoTerms = false
has_three (MoreTerms t NoTerms) = false
has_three (MoreTerms t (MoreTerms u NoTerms)) = false
has_three (MoreTerms t (MoreTerms u (MoreTerms v ts))) = true

-- Each symbol has the one sort that these sorts give it, and `and` and `or` of a list have three parts or more; of two they
-- are written as operators.
abbrev mutual
  pub IsSorted : (Symbol → Sort) → Term → Type 0
  IsSorted sorts (Truth b) = Unit {0}
  IsSorted sorts (Number z) = Unit {0}
  IsSorted sorts (Part a) = Unit {0}
  IsSorted sorts (Constant f a) = a ≡ sorts f
  IsSorted sorts (Apply f a ts) = (a ≡ sorts f) × AreSorted sorts ts
  IsSorted sorts (Not t) = IsSorted sorts t
  IsSorted sorts (Binary o t u) = IsSorted sorts t × IsSorted sorts u
  IsSorted sorts (Ite c t u) = IsSorted sorts c × IsSorted sorts t × IsSorted sorts u
  IsSorted sorts (AllOf ts) = (has_three ts ≡ true) × AreSorted sorts ts
  IsSorted sorts (SomeOf ts) = (has_three ts ≡ true) × AreSorted sorts ts

  pub AreSorted : (Symbol → Sort) → Terms → Type 0
  AreSorted sorts NoTerms = Unit {0}
  AreSorted sorts (MoreTerms t ts) = IsSorted sorts t × AreSorted sorts ts

-- a command whose names can be spelled, and whose symbols have these sorts
abbrev pub IsReadable : (Symbol → Sort) → Command → Type 0
IsReadable sorts (Assert t) = IsCommand (Assert t) × IsSorted sorts t
IsReadable sorts c = IsCommand c × Unit {0}

abbrev pub AreReadable : (Symbol → Sort) → List Command → Type 0
AreReadable sorts [] = Unit {0}
AreReadable sorts (c ∷ cs) = IsReadable sorts c × AreReadable sorts cs

-- Read with these sorts, the bytes spell these commands and no others.
pub record SpellsOnly (sorts : Symbol → Sort) (bytes : List ℕ) (cs : List Command) : Type 0 where
  pub these : Spells bytes cs
  pub no_others : (ds : List Command) → AreReadable sorts ds → Spells bytes ds → ds ≡ cs
