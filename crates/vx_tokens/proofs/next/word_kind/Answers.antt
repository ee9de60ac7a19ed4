use Rattle.vx_tokens.proofs.Letters.{word_is_text}
use Rattle.vx_tokens.proofs.next.word_kind.Goals as goal

pub unreachable-requires : goal.unreachable-requires
unreachable-requires c = c.in-Err.ensures.cases.0 (word_is_text c.args.text.now c.requires)
