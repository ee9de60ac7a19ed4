-- Questions that can be read back from their text.
use Rattle.std.specs.Prelude.{◌≡◌, ⊤, ℕ, Some, slice_get}
use Rattle.vx_ast.specs.Syntax.{Program, Member}
use Rattle.vx_terms.specs.Interpretations.{Each}
use Rattle.vx_smt_text.specs.Shaped.{IsShaped}
use Rattle.vx_rules.specs.Trees.{Question, Tree, End, Impossible, On, Step, Ask, Probe, Fork}
use Rattle.vx_rules.specs.Members.{tree}
use Rattle.vx_readable.specs.Numerals.{HasSmallNumerals}

-- In its condition and in its path literals stay below 2^127, applications have arguments, and lists three parts or more.
pub record IsShapedQuestion (q : Question) : Type 0 where
  pub condition : IsShaped q.condition
  pub path : Each IsShaped q.path

abbrev pub AllShaped : Tree → Type 0
AllShaped End = ⊤
AllShaped (Impossible s) = ⊤
AllShaped (On t s) = ⊤
AllShaped (Step t) = AllShaped t
AllShaped (Ask q t) = IsShapedQuestion q × AllShaped t
AllShaped (Probe q a b) = IsShapedQuestion q × AllShaped a × AllShaped b
AllShaped (Fork a b) = AllShaped a × AllShaped b

-- so are all questions of each member of a program whose numerals are below 2^127, typed or not
abbrev pub ShapedLaw : Type 0
ShapedLaw = (p : Program) (n : ℕ) (m : Member) → HasSmallNumerals p → slice_get p n ≡ Some m → AllShaped (tree p m.name m.kind)
