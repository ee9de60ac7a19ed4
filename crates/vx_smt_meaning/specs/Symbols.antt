-- That the symbols of a term are declared.
use Rattle.std.specs.Prelude.{◌≡◌, ◌⊎◌, List, [], ◌∷◌}
use Rattle.vx_terms.specs.Sorts.{Sort, Symbol}
use Rattle.vx_terms.specs.Terms.{Term, Truth, Number, Part, Constant, Apply, Not, Binary, Ite, AllOf, SomeOf, Terms, NoTerms, MoreTerms, sort_of}
use Rattle.vx_smt_meaning.specs.Commands.{Declared}

abbrev pub declaration : Symbol → List Sort → Sort → Declared
declaration f takes gives = record { symbol = f; takes = takes; gives = gives }

-- this is one of the declarations
abbrev pub Declares : List Declared → Declared → Type 0
Declares [] d = ⊥
Declares (e ∷ ds) d = (e ≡ d) ⊎ Declares ds d

abbrev pub sorts_of : Terms → List Sort
sorts_of NoTerms = []
sorts_of (MoreTerms t ts) = sort_of t ∷ sorts_of ts

-- Each symbol of the term is declared, with the sorts that it takes there and its own.
abbrev mutual
  pub UsesDeclared : List Declared → Term → Type 0
  UsesDeclared ds (Truth b) = Unit {0}
  UsesDeclared ds (Number z) = Unit {0}
  UsesDeclared ds (Part a) = Unit {0}
  UsesDeclared ds (Constant f a) = Declares ds (declaration f [] a)
  UsesDeclared ds (Apply f a ts) = Declares ds (declaration f (sorts_of ts) a) × AllUseDeclared ds ts
  UsesDeclared ds (Not t) = UsesDeclared ds t
  UsesDeclared ds (Binary o t u) = UsesDeclared ds t × UsesDeclared ds u
  UsesDeclared ds (Ite c t u) = UsesDeclared ds c × UsesDeclared ds t × UsesDeclared ds u
  UsesDeclared ds (AllOf ts) = AllUseDeclared ds ts
  UsesDeclared ds (SomeOf ts) = AllUseDeclared ds ts

  pub AllUseDeclared : List Declared → Terms → Type 0
  AllUseDeclared ds NoTerms = Unit {0}
  AllUseDeclared ds (MoreTerms t ts) = UsesDeclared ds t × AllUseDeclared ds ts
