use Rattle.vx_readable.proofs.Texts.{spelled_small}
use Rattle.vx_readable.proofs.texts_have_small_numerals.Goals as goal

pub returns : goal.returns
returns c = spelled_small
