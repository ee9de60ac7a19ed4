-- The lines of tables: what symbols give, without pointers.
use Rattle.std.specs.Prelude.{ℕ, ◌+◌, List, [], ◌∷◌, ◌++◌, map}
use Rattle.vx_terms.specs.Sorts.{Sort, Symbol}
use Rattle.vx_terms.specs.Views.{sort, symbol}
use Rattle.vx_terms.specs.Interpretations.{Element}
use Rattle.cs_certificate.specs.Terms.{Head, ConstantHead, ApplyHead}
use Rattle.cs_certificate.specs.Nodes.{Node}
use Rattle.cs_model.specs.Elements.{element, elements}
use Rattle.cs_model.specs.declared.tables.Entry.{Entry}

-- what a symbol gives at a sort, on these arguments
pub record Line : Type 0 where
  pub symbol : Symbol
  pub sort : Sort
  pub arguments : List Element
  pub value : Element

-- what an entry stands for
abbrev pub line : Entry → Line
line x = record { symbol = symbol x.symbol; sort = sort x.sort; arguments = elements x.arguments.items; value = element x.value }

-- one after another
abbrev pub lines : List Entry → List Line
lines xs = map line xs

-- the line of the term of this number, where its head is a symbol, over the numbers of its parts
abbrev pub line_of : (ℕ → Element) → ℕ → Head → List ℕ → List Line
line_of value n (ConstantHead f a) ps = record { symbol = f; sort = a; arguments = map value ps; value = value n } ∷ []
line_of value n (ApplyHead f a) ps = record { symbol = f; sort = a; arguments = map value ps; value = value n } ∷ []
line_of value n _ ps = []

-- those of nodes, whose numbers begin with this one
abbrev pub lines_from : (ℕ → Element) → ℕ → List Node → List Line
lines_from value n [] = []
lines_from value n (x ∷ xs) = line_of value n x.head x.parts ++ lines_from value (n + 1) xs
