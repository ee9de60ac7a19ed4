use Rattle.std.proofs.Common.{◌∙◌, ap, Err, sym, subst}
use Rattle.vx_sexp.specs.Pieces.{Reached}
use Rattle.vx_sexp.proofs.Pieces.{grown}
use Rattle.vx_part_rows.proofs.sexps.by_bytes.Goals as goal

pub loop-end-init : goal.loop-end-init
loop-end-init c = c.new-reading.ensures _

pub loop-end-preserved : goal.loop-end-preserved
loop-end-preserved c =
    let more = grown c.args.text.now c.loop-end.end in
    subst (Reached c.go_on.new.self) (sym more.1) (c.go_on.ensures.reached _ more.0 (c.in-Err-Unfinished.is ∙ ap Err c.in-Err-Unfinished.field-0-is))
