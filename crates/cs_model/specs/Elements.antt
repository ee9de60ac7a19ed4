-- The elements that the code's stand for.
use Rattle.std.specs.Prelude.{Bool, true, false, ◌&&◌, List, [], ◌∷◌, map}
use Rattle.vx_frac.specs.Fraction.{fraction}
use Rattle.vx_terms.specs.Interpretations.{Element, IntElement, BoolElement, RealElement, TreeElement, Empty, RefLeaf, same_element}
use Rattle.cs_model.specs.declared.elements.Element.{Element as Element'}
use Rattle.cs_model.specs.declared.elements.Element.TheVariants as elements'

abbrev pub element : Element' → Element
element (elements'.Int z) = IntElement z
element (elements'.Bool b) = BoolElement b
element (elements'.Real a) = RealElement (fraction a)
element (elements'.Node n) = TreeElement (RefLeaf n)
element elements'.Empty = TreeElement Empty

abbrev pub elements : List Element' → List Element
elements es = map element es

abbrev pub same_elements : List Element → List Element → Bool
same_elements [] [] = true
same_elements (d ∷ ds) (e ∷ es) = same_element d e && same_elements ds es
same_elements _ _ = false
