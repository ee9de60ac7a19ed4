use Rattle.std.proofs.Common.{◌∙◌, subst, sym}
use Rattle.vx_parser.specs.Spelling.{Spells}
use Rattle.vx_gen.specs.Programs as gen
use Rattle.vx_commands.specs.Steps.{IsParsedFrom}
use Rattle.vx_commands.proofs.generated.program_of.Goals as goal

pub unreachable-requires : goal.unreachable-requires
unreachable-requires c =
    let p = gen.program_of c.args.methods in
    let refused = subst (IsParsedFrom c.as_bytes.result.now) c.in-Refused.is c.in_ok-program.ensures in
    refused.1.spells_none p (subst (λ bytes. Spells bytes p) (sym (c.as_bytes.ensures.value ∙ c.requires.text)) (c.generated_is_typed.ensures.spelled c.args.methods c.requires.few))
