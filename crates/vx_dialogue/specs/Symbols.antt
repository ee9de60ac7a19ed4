-- The symbols v of terms, in the order of their first occurrence.
use Rattle.std.specs.Prelude.{◌≡◌, ⊤, ℕ, Bool, true, false, List, [], ◌∷◌, ◌++◌, if◌then◌else◌}
use Rattle.vx_terms.specs.Sorts.{Sort, Symbol, Standard, Function, Variable, Named, same_symbol}
use Rattle.vx_terms.specs.Terms.{Term, Truth, Number, Part, Constant, Apply, Not, Binary, Ite, AllOf, SomeOf, Terms, NoTerms, MoreTerms}
use Rattle.vx_smt_meaning.specs.Commands.{Declared}

abbrev pub variable : ℕ → Sort → Declared
variable n a = record { symbol = Variable n; takes = []; gives = a }

-- the v with this number is one of the symbols
abbrev pub declares : List Declared → ℕ → Bool
declares [] n = false
declares (d ∷ ds) n = if same_symbol d.symbol (Variable n) then true else declares ds n

-- no v is declared twice
abbrev pub AreOnce : List Declared → Type 0
AreOnce [] = ⊤
AreOnce (d ∷ ds) = ((n : ℕ) → same_symbol d.symbol (Variable n) ≡ true → declares ds n ≡ false) × AreOnce ds

-- A v that isn't there yet stands at the end.
abbrev pub with_variable : List Declared → ℕ → Sort → List Declared
with_variable ds n a = if declares ds n then ds else (ds ++ variable n a ∷ [])

abbrev pub with_symbol : List Declared → Symbol → Sort → List Declared
with_symbol ds (Standard n) a = ds
with_symbol ds (Function n) a = ds
with_symbol ds (Variable n) a = with_variable ds n a
with_symbol ds (Named x) a = ds

abbrev mutual
  pub with_variables : List Declared → Term → List Declared
  with_variables ds (Truth b) = ds
  with_variables ds (Number z) = ds
  with_variables ds (Part a) = ds
  with_variables ds (Constant f a) = with_symbol ds f a
  with_variables ds (Apply f a ts) = with_all_variables ds ts
  with_variables ds (Not t) = with_variables ds t
  with_variables ds (Binary o t u) = with_variables (with_variables ds t) u
  with_variables ds (Ite c t u) = with_variables (with_variables (with_variables ds c) t) u
  with_variables ds (AllOf ts) = with_all_variables ds ts
  with_variables ds (SomeOf ts) = with_all_variables ds ts

  pub with_all_variables : List Declared → Terms → List Declared
  with_all_variables ds NoTerms = ds
  with_all_variables ds (MoreTerms t ts) = with_all_variables (with_variables ds t) ts

-- those of a list of terms
abbrev pub with_listed : List Declared → List Term → List Declared
with_listed ds [] = ds
with_listed ds (t ∷ ts) = with_listed (with_variables ds t) ts

-- the symbols that a question has, in the order of their first occurrence
abbrev pub symbols_of : List Term → Term → List Declared
symbols_of path negated = with_variables (with_listed [] path) negated
