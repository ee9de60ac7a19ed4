-- What is printed of a fault.
use Rattle.std.specs.Prelude.{ℕ, List, [], codes, Option, Some, None}
use Rattle.vx_ast.specs.declared.Place.{Place}
use Rattle.vx_ast.specs.declared.ValueType.{ValueType}
use Rattle.vx_ast.specs.declared.ValueType.TheVariants as type
use Rattle.vx_expressions.specs.declared.fault.Expected.{Expected}
use Rattle.vx_expressions.specs.declared.fault.Expected.TheVariants as expected
use Rattle.vx_expressions.specs.declared.fault.TypeFault.{TypeFault}
use Rattle.vx_expressions.specs.declared.fault.TypeFault.TheVariants as faults

-- want of memory stands nowhere
abbrev pub place_of : TypeFault → Option Place
place_of (faults.Unknown p x) = Some p
place_of (faults.Twice p x) = Some p
place_of (faults.Mismatch p e t) = Some p
place_of (faults.Impure p) = Some p
place_of (faults.Arity p n m) = Some p
place_of (faults.NoMeasure p) = Some p
place_of (faults.MixedMeasures p) = Some p
place_of (faults.AmountNotConstant p) = Some p
place_of (faults.NotHere p) = Some p
place_of (faults.NotAssignable p) = Some p
place_of (faults.OldHere p) = Some p
place_of (faults.ResultHere p) = Some p
place_of (faults.UnfoldAbstract p) = Some p
place_of faults.Want = None

-- and has no code
abbrev pub code_of : TypeFault → List ℕ
code_of (faults.Unknown p x) = codes "E20"
code_of (faults.Twice p x) = codes "E21"
code_of (faults.Mismatch p e t) = codes "E22"
code_of (faults.Impure p) = codes "E23"
code_of (faults.Arity p n m) = codes "E24"
code_of (faults.NoMeasure p) = codes "E25"
code_of (faults.MixedMeasures p) = codes "E26"
code_of (faults.AmountNotConstant p) = codes "E27"
code_of (faults.NotHere p) = codes "E28"
code_of (faults.NotAssignable p) = codes "E29"
code_of (faults.OldHere p) = codes "E30"
code_of (faults.ResultHere p) = codes "E31"
code_of (faults.UnfoldAbstract p) = codes "E32"
code_of faults.Want = []

abbrev pub title_of : TypeFault → List ℕ
title_of (faults.Unknown p x) = codes "Unknown"
title_of (faults.Twice p x) = codes "Twice"
title_of (faults.Mismatch p e t) = codes "Mismatch"
title_of (faults.Impure p) = codes "Impure"
title_of (faults.Arity p n m) = codes "Arity"
title_of (faults.NoMeasure p) = codes "NoMeasure"
title_of (faults.MixedMeasures p) = codes "MixedMeasures"
title_of (faults.AmountNotConstant p) = codes "AmountNotConstant"
title_of (faults.NotHere p) = codes "NotHere"
title_of (faults.NotAssignable p) = codes "NotAssignable"
title_of (faults.OldHere p) = codes "OldHere"
title_of (faults.ResultHere p) = codes "ResultHere"
title_of (faults.UnfoldAbstract p) = codes "UnfoldAbstract"
title_of faults.Want = []

abbrev pub word_of : ValueType → List ℕ
word_of type.Int = codes "Int"
word_of type.Bool = codes "Bool"
word_of type.Ref = codes "Ref"
word_of type.Perm = codes "Perm"

abbrev pub expected_word : Expected → List ℕ
expected_word (expected.Type t) = word_of t
expected_word expected.Numeral = codes "numeral"
