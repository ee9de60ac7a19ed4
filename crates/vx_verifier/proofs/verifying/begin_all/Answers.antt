use Rattle.std.proofs.Common.{◌≤◌, ◌+◌, length, map, ap, ◌∙◌, sym, subst}
use Rattle.std.proofs.lemmas.List.{length-append}
use Rattle.vx_smt_meaning.specs.Views.{declared_symbol}
use Rattle.vx_verifier.specs.Verifying.{AreFresh}
use Rattle.vx_verifier.proofs.Fresh.{fresh_more}
use Rattle.vx_verifier.proofs.verifying.begin_all.Goals as goal

pub loop-lane-preserved : goal.loop-lane-preserved
loop-lane-preserved g c =
    let i = c.loop-lane.invariant in
    let fs = map declared_symbol c.args.functions.now in
    let m = c.new-members.ensures in
    let l = c.new-line.ensures in
    let items = c.push_reserved.ensures.items in
    record {
      each = ap (λ xs. length xs) items ∙ (length-append c.loop-lane.lanes.items _ ∙ ap (λ n. n + 1) i.each);
      count = c.push_reserved.ensures.len ∙ ap (λ n. n + 1) i.count;
      room = subst (λ n. c.args.jobs ≤ n) (sym c.push_reserved.ensures.capacity) i.room;
      fresh = subst (λ ls. AreFresh c.args.jobs c.args.command.now fs ls) (sym items)
          (fresh_more c.args.jobs c.args.command.now fs c.loop-lane.lanes.items c.loop-lane.lane c.new-members.result c.new-line.result i.fresh i.each record {
            lane = m.lane.0;
            jobs_is = m.lane.1;
            next = m.lane.2;
            skip = m.lane.3;
            stage = m.none.0;
            runs = m.none.1;
            replies = m.none.2;
            number = l.0;
            child = l.1;
            command_is = l.2;
            functions_are = ap (λ ds. map declared_symbol ds) l.3;
          });
    }
