use Rattle.std.proofs.Common.{get_or, refl}
use Rattle.std.proofs.lemmas.Option.{slice_get-get_or}
use Rattle.vx_pool.proofs.slot.turn_at.Goals as goal

pub turn-requires-clause-waits : goal.turn-requires-clause-waits
turn-requires-clause-waits g c = c.requires.waits _ (slice_get-get_or c.args.lanes.now c.args.i c.index-lanes-i.result c.requires.within)

pub returns : goal.returns
returns g c = record {
  lanes = (
    record {
      before = get_or c.args.lanes.now c.args.i c.index-lanes-i.result;
      found = slice_get-get_or c.args.lanes.now c.args.i c.index-lanes-i.result c.requires.within;
      after = (c.turn.new.worker, c.turn.new.talker);
      set = refl;
      moves = c.turn.ensures.moves;
      held = c.turn.ensures.held;
    },
    c.turn.ensures.fewer,
    c.turn.ensures.stands,
  );
}
