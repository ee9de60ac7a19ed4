-- What the codes of src/ stand for.
use Rattle.std.specs.Prelude.{ℕ}
use Rattle.vx_rules.specs.declared.code.Code.{Code as Code'}
use Rattle.vx_rules.specs.declared.code.Code.TheVariants as code'
use Rattle.vx_rules.specs.Trees.{Code, AssertCode, PermissionCode, AmountCode, DivisorCode, CallCode, FunctionCode, PostCode, EntryCode, KeptCode, FoldCode, UnfoldCode, MeasureCode}

abbrev pub code : Code' → Code
code code'.Assert = AssertCode
code code'.Permission = PermissionCode
code code'.Amount = AmountCode
code code'.Divisor = DivisorCode
code code'.Call = CallCode
code code'.Function = FunctionCode
code code'.Postcondition = PostCode
code code'.Entry = EntryCode
code code'.Kept = KeptCode
code code'.Fold = FoldCode
code code'.Unfold = UnfoldCode
code code'.Measure = MeasureCode

-- F01 to F12
abbrev pub code_number : Code → ℕ
code_number AssertCode = 1
code_number PermissionCode = 2
code_number AmountCode = 3
code_number DivisorCode = 4
code_number CallCode = 5
code_number FunctionCode = 6
code_number PostCode = 7
code_number EntryCode = 8
code_number KeptCode = 9
code_number FoldCode = 10
code_number UnfoldCode = 11
code_number MeasureCode = 12
