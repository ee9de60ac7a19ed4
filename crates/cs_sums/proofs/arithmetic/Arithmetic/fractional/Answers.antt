use Rattle.std.proofs.Common.{List, subst}
use Rattle.std.specs.Prelude.{IfOk, IfNone}
use Rattle.vx_frac.specs.declared.Frac.{Frac}
use Rattle.cs_sums.specs.Splits.{AreWhole}
use Rattle.cs_sums.specs.Shown.{columns_of}
use Rattle.cs_sums.proofs.arithmetic.Arithmetic.fractional.Goals as goal

pub returns-in-None-clause-whole : goal.returns-in-None-clause-whole
returns-in-None-clause-whole c =
    subst (λ (values : List Frac). IfOk c.split_of.result (λ found. IfNone found (AreWhole (columns_of c.args.self.now) values))) c.deref.ensures.value c.split_of.ensures.whole
