-- The conditions on the names in a command, and on the sorts of its symbols.
use Rattle.std.specs.Prelude.{◌≡◌, ◌⊎◌, ℕ, codes, true, List, [], ◌∷◌}
use Rattle.vx_sexp.specs.declared.token.Kind.TheVariants as kind
use Rattle.vx_sexp.specs.Tokens.{is_of, is_symbol}
use Rattle.vx_terms.specs.Sorts.{Operator, Sort, OtherSort, Symbol, Named}
use Rattle.vx_terms.specs.Terms.{Term, Truth, Number, Part, Constant, Apply, Not, Binary, Ite, AllOf, SomeOf, Terms, NoTerms, MoreTerms}
use Rattle.vx_smt_meaning.specs.Commands.{Command, SetOption, SetLogic, DeclareSort, DeclareFun, Assert}
use Rattle.vx_smt_meaning.specs.Words.{numeral, operator_word}

-- no numbered symbol and no word of terms is spelled so
pub record IsFree (x : List ℕ) : Type 0 where
  pub standard : (n : ℕ) → x ≡ 115 ∷ numeral n → ⊥
  pub function : (n : ℕ) → x ≡ 102 ∷ numeral n → ⊥
  pub variable : (n : ℕ) → x ≡ 118 ∷ numeral n → ⊥
  pub operator : (o : Operator) → x ≡ operator_word o → ⊥
  pub words : ((x ≡ codes "true") ⊎ (x ≡ codes "false") ⊎ (x ≡ codes "not") ⊎ (x ≡ codes "ite") ⊎ (x ≡ codes "/")) → ⊥

-- none of the five other sorts is spelled so
abbrev pub IsFreeSort : List ℕ → Type 0
IsFreeSort x = ((x ≡ codes "Int") ⊎ (x ≡ codes "Bool") ⊎ (x ≡ codes "Real") ⊎ (x ≡ codes "Ref") ⊎ (x ≡ codes "Snap")) → ⊥

-- a name of its own is spelled as a symbol
abbrev pub IsName : Symbol → Type 0
IsName (Named x) = (is_symbol x ≡ true) × IsFree x
IsName f = Unit {0}

abbrev pub IsSortName : Sort → Type 0
IsSortName (OtherSort x) = (is_symbol x ≡ true) × IsFreeSort x
IsSortName a = Unit {0}

-- Each name of its own is spelled as a symbol.
abbrev mutual
  pub AreNames : Term → Type 0
  AreNames (Truth b) = Unit {0}
  AreNames (Number z) = Unit {0}
  AreNames (Part a) = Unit {0}
  AreNames (Constant f a) = IsName f
  AreNames (Apply f a ts) = IsName f × AllAreNames ts
  AreNames (Not t) = AreNames t
  AreNames (Binary o t u) = AreNames t × AreNames u
  AreNames (Ite c t u) = AreNames c × AreNames t × AreNames u
  AreNames (AllOf ts) = AllAreNames ts
  AreNames (SomeOf ts) = AllAreNames ts

  pub AllAreNames : Terms → Type 0
  AllAreNames NoTerms = Unit {0}
  AllAreNames (MoreTerms t ts) = AreNames t × AllAreNames ts

abbrev pub AreSortNames : List Sort → Type 0
AreSortNames [] = Unit {0}
AreSortNames (a ∷ rest) = IsSortName a × AreSortNames rest

-- what a command's names have to be
abbrev pub IsCommand : Command → Type 0
IsCommand (SetOption x b) = is_of kind.Keyword x ≡ true
IsCommand (SetLogic x) = is_of kind.Symbol x ≡ true
IsCommand (DeclareSort x) = is_of kind.Symbol x ≡ true
IsCommand (DeclareFun d) = IsName d.symbol × AreSortNames d.takes × IsSortName d.gives
IsCommand (Assert t) = AreNames t
IsCommand c = Unit {0}

abbrev pub AreCommands : List Command → Type 0
AreCommands [] = Unit {0}
AreCommands (c ∷ cs) = IsCommand c × AreCommands cs
