-- Questions that can be read back, and terms that can't.
use Rattle.std.specs.Prelude.{◌-◌, ◌^◌, pos, negsuc, false, [], ◌∷◌}
use Rattle.vx_terms.specs.Sorts.{IntSort, BoolSort, Function, Variable, Less, LessEqual}
use Rattle.vx_terms.specs.Terms.{Term, Number, Constant, Apply, Binary, AllOf, NoTerms, MoreTerms}
use Rattle.vx_rules.specs.Trees.{Question, AssertCode}
use Rattle.vx_rules.specs.Rules.{nowhere}

abbrev number : Term
number = Constant (Variable 0) IntSort

abbrev flag : Term
flag = Constant (Variable 1) BoolSort

-- f of a number
abbrev applied : Term
applied = Apply (Function 0) IntSort (MoreTerms number NoTerms)

-- its path has an application, its condition is of three parts, and the least literal that is read stands in it
abbrev pub question : Question
question = record {
  place = nowhere;
  code = AssertCode;
  path = Binary Less applied number ∷ [];
  condition = AllOf (MoreTerms flag (MoreTerms (Binary Less (Number (negsuc (2 ^ 127 - 2))) applied) (MoreTerms (Binary LessEqual number applied) NoTerms)));
  probe = false;
}

-- an application of nothing
abbrev pub of_nothing : Term
of_nothing = Apply (Function 0) IntSort NoTerms

-- a list of two parts
abbrev pub of_two : Term
of_two = AllOf (MoreTerms flag (MoreTerms flag NoTerms))

-- the literals that a reader takes no more
abbrev pub too_large : Term
too_large = Number (pos (2 ^ 127))

abbrev pub too_low : Term
too_low = Number (negsuc (2 ^ 127 - 1))
