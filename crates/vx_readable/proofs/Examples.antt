-- What can be read back, by examples.
use Rattle.std.proofs.Common.{ℕ, ◌<◌, refl, arith}
use Rattle.vx_smt_text.specs.Shaped.{IsShaped}
use Rattle.vx_readable.specs.Readable.{IsShapedQuestion}
use Rattle.vx_readable.specs.Examples.{question, of_two, too_large, too_low}

pub question_shaped : IsShapedQuestion question
question_shaped = record { condition = (refl, (tt, ((omega arith, (tt, tt)), ((tt, (tt, tt)), tt)))); path = (((tt, tt), tt), tt) }

not_less : (n : ℕ) → n < n → ⊥
not_less n h = omega arith

pub two_unshaped : IsShaped of_two → ⊥
two_unshaped h = cc

pub large_unshaped : IsShaped too_large → ⊥
large_unshaped h = not_less _ h

pub low_unshaped : IsShaped too_low → ⊥
low_unshaped h = not_less _ h
