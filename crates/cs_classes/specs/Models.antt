-- Interpretations by the elements of calls.
use Rattle.std.specs.Prelude.{◌≡◌, Bool, false, ◌&&◌, if◌then◌else◌, pos, List, [], ◌∷◌}
use Rattle.vx_terms.specs.Sorts.{Sort, Symbol, same_symbol, same_sort}
use Rattle.vx_terms.specs.Terms.{Term, Constant, Apply}
use Rattle.vx_terms.specs.Views.{sort, symbol}
use Rattle.vx_terms.specs.Interpretations.{Element, IntElement, Interpretation}
use Rattle.cs_certificate.specs.Terms.{items}
use Rattle.cs_certificate.specs.Certificate.{Contains}
use Rattle.cs_model.specs.Elements.{element, elements, same_elements}
use Rattle.cs_model.specs.Models.{by}
use Rattle.cs_model.specs.declared.tables.Entry.{Entry}
use Rattle.cs_classes.specs.Elements.{Assignment, element_of, elements_of}
use Rattle.cs_classes.specs.Agreement.{IsCall}

-- each call has its element as value, on the elements of its arguments
abbrev pub GivesCalls : List Term → Assignment → Interpretation → Type 0
GivesCalls all s i = (t : Term) (f : Symbol) (a : Sort) (xs : List Term) → Contains all t → IsCall t f a xs → i.functions f a (elements_of s xs) ≡ element_of s t

-- whether the term is a call of this symbol and sort on arguments with these elements
abbrev pub is_call : Assignment → Symbol → Sort → List Element → Term → Bool
is_call s f a es (Constant g b) = same_symbol f g && (same_sort a b && same_elements es [])
is_call s f a es (Apply g b ts) = same_symbol f g && (same_sort a b && same_elements es (elements_of s (items ts)))
is_call s f a es _ = false

-- the element of the first such call
abbrev pub called : Assignment → Symbol → Sort → List Element → List Term → Element
called s f a es [] = IntElement (pos 0)
called s f a es (t ∷ ts) = if is_call s f a es t then element_of s t else called s f a es ts

-- each symbol gives the element of the first call that fits
abbrev pub interpretation_of : List Term → Assignment → Interpretation
interpretation_of all s = by (λ f a es. called s f a es all)

-- the entry is that of a call
pub record IsEntry (s : Assignment) (t : Term) (x : Entry) : Type 0 where
  pub on : List Term
  pub call : IsCall t (symbol x.symbol) (sort x.sort) on
  pub arguments : elements x.arguments.items ≡ elements_of s on
  pub value : element x.value ≡ element_of s t

-- tables with an entry of each call, and no others
pub record Tabulates (all : List Term) (s : Assignment) (entries : List Entry) : Type 0 where
  pub every : (t : Term) (f : Symbol) (a : Sort) (xs : List Term) → Contains all t → IsCall t f a xs → (x : Entry) × Contains entries x × IsEntry s t x
  pub no_other : (x : Entry) → Contains entries x → (t : Term) × Contains all t × IsEntry s t x
