use Rattle.std.proofs.Common.{None}
use Rattle.vx_sexp.proofs.Pieces.{paused_reached, paused_unfinished}
use Rattle.vx_sexp.proofs.reading.Reading.paused.Goals as goal

pub returns-in_default : goal.returns-in_default
returns-in_default c =
    let r = c.args.self in
    let bytes = c.args.bytes.now in
    record {
      step = (paused_reached r bytes c.args.mode None c.requires.reached c.requires.runs tt, paused_unfinished r bytes c.args.mode c.requires.reached c.requires.runs c.in_default.not-Word);
      falls = tt;
    }
