use Rattle.std.proofs.Common.{IsUtf8, ap, subst, sym, vec_items}
use Rattle.std.proofs.lemmas.Str.{IsUtf8-string_bytes}
use Rattle.vx_print.proofs.member.print.Goals as goal

pub returns-clause-utf8 : goal.returns-clause-utf8
returns-clause-utf8 c = subst IsUtf8 (ap vec_items (sym c.into_bytes.ensures.value)) (IsUtf8-string_bytes c.loop-m.out)
