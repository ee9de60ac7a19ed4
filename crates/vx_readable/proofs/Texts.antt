-- The numerals of a program that a text spells are small.
use Rattle.std.proofs.Common.{subst}
use Rattle.vx_grammar.specs.Programs.{program_marks}
use Rattle.vx_readable.specs.Texts.{SmallNumeralsLaw}
use Rattle.vx_readable.proofs.Tokens.{marks_small}
use Rattle.vx_readable.proofs.Spelled.{SmallProgram, program_small}
use Rattle.vx_readable.proofs.Settled.{settled_small}

pub spelled_small : SmallNumeralsLaw
spelled_small at text tokens ending p scans spelled =
    settled_small p (subst SmallProgram spelled.means (program_small spelled.phrase (marks_small (program_marks spelled.phrase) scans spelled.tokens)))
