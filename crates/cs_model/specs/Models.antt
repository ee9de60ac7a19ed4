-- The interpretation that tables make.
use Rattle.std.specs.Prelude.{pos, Bool, ◌&&◌, if◌then◌else◌, List, [], ◌∷◌}
use Rattle.vx_terms.specs.Sorts.{Sort, Symbol, same_symbol, same_sort}
use Rattle.vx_terms.specs.Views.{sort, symbol}
use Rattle.vx_terms.specs.Interpretations.{Element, IntElement, Interpretation}
use Rattle.cs_model.specs.declared.tables.Entry.{Entry}
use Rattle.cs_model.specs.Elements.{element, elements, same_elements}

abbrev pub finds : Symbol → Sort → List Element → Entry → Bool
finds f a es x = same_symbol f (symbol x.symbol) && (same_sort a (sort x.sort) && same_elements es (elements x.arguments.items))

-- of the first entry
abbrev pub found : Symbol → Sort → List Element → List Entry → Element
found f a es [] = IntElement (pos 0)
found f a es (x ∷ xs) = if finds f a es x then element x.value else found f a es xs

abbrev pub by : (Symbol → Sort → List Element → Element) → Interpretation
by functions = record { functions = functions; quotients = λ n. pos 0; remainders = λ n. pos 0 }

-- without symbols
abbrev pub plain : Interpretation
plain = by (λ f a es. IntElement (pos 0))

abbrev pub interpretation : List Entry → Interpretation
interpretation entries = by (λ f a es. found f a es entries)
