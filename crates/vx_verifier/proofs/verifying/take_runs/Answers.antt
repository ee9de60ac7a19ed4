use Rattle.std.proofs.Common.{List, map, reverse, get_or, refl, ap, ◌∙◌, arith}
use Rattle.std.proofs.lemmas.List.{length-set, reverse-reverse}
use Rattle.std.proofs.lemmas.Option.{slice_get-get_or}
use Rattle.std.specs.declared.vec.Vec.{Vec}
use Rattle.std.specs.declared.alloc.Global.{Global}
use Rattle.vx_report.specs.declared.run.MemberRun.{MemberRun}
use Rattle.vx_verifier.specs.declared.members.Members.{Members}
use Rattle.vx_verifier.proofs.Taking.{drop_on, drop_set, map_set, taken_more}
use Rattle.vx_verifier.proofs.verifying.take_runs.Goals as goal

pub returns-in_err-push-clause-lines : goal.returns-in_err-push-clause-lines
returns-in_err-push-clause-lines g c =
    let lanes = c.loop-i.lanes in
    let d = c.index-lanes-i.result in
    map_set (λ (x : Members g.row.K.Denot × g.row.T.Denot). x.1) lanes c.loop-i.i (get_or lanes c.loop-i.i d) _ (slice_get-get_or lanes c.loop-i.i d (omega arith)) refl ∙ c.loop-i.invariant.lines

pub loop-i-preserved : goal.loop-i-preserved
loop-i-preserved g c =
    let lanes = c.loop-i.lanes in
    let first = c.args.lanes.now in
    let i = c.loop-i.i in
    let d = c.index-lanes-i.result in
    let x = get_or lanes i d in
    let at = slice_get-get_or lanes i d (omega arith) in
    let old = λ (y : Members g.row.K.Denot × g.row.T.Denot). y.0.runs.items in
    let turned = λ (p : Vec MemberRun Global). reverse p.items in
    record {
      each = length-set lanes i _ ∙ c.loop-i.invariant.each;
      lines = map_set (λ (y : Members g.row.K.Denot × g.row.T.Denot). y.1) lanes i x _ at refl ∙ c.loop-i.invariant.lines;
      rest = drop_set old lanes i _ ∙ drop_on i (map old lanes) (map old first) c.loop-i.invariant.rest;
      taken = ap (λ (ps : List (Vec MemberRun Global)). map turned ps) c.in_ok-push.ensures.items
          ∙ taken_more old turned first lanes c.loop-i.piles.items i x c.reverse.new.self at
          (ap reverse c.reverse.ensures.items ∙ (reverse-reverse c.replace-pile.result.items ∙ ap (λ (p : Vec MemberRun Global). p.items) c.replace-pile.ensures.value)) c.loop-i.invariant.rest c.loop-i.invariant.taken;
    }
