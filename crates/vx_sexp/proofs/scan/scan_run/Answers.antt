use Rattle.std.proofs.Common.{◌≡◌, ◌+◌, ◌++◌, ◌∷◌, drop, get_or, ap, ◌∙◌, arith}
use Rattle.vx_sexp.specs.Scanning.{scan}
use Rattle.vx_sexp.proofs.Runs.{run_step, at_byte}
use Rattle.vx_sexp.proofs.scan.scan_run.Goals as goal

pub loop-i-preserved : goal.loop-i-preserved
loop-i-preserved c =
    let bytes = c.args.bytes.now in
    let i = c.loop-i.i in
    let b = get_or bytes i 0 in
    let m = c.loop-i.mode in
    let n = c.in-On.next in
    let so_far = c.loop-i.invariant in
    let at : drop i bytes ≡ b ∷ drop (i + 1) bytes = at_byte bytes i c.loop-i-test.true in
    record {
      within = omega arith;
      same = so_far.same ∙ ap (scan m) at ∙ (run_step m n b (drop (i + 1) bytes) c.in-On.ensures).0;
      on = λ more. so_far.on more ∙ ap (λ x. scan m (x ++ more)) at ∙ (run_step m n b (drop (i + 1) bytes ++ more) c.in-On.ensures).0;
      of_family = (run_step m n b (drop (i + 1) bytes) c.in-On.ensures).1 ∙ so_far.of_family;
    }
