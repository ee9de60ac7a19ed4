use Rattle.vx_sound_preds.proofs.Kept.{change_keeps, trees_kept}
use Rattle.vx_sound_preds.proofs.changes_keep_what_is_held.Goals as goal

pub returns-clause-consistent : goal.returns-clause-consistent
returns-clause-consistent c = change_keeps

pub returns-clause-trees : goal.returns-clause-trees
returns-clause-trees c p x replies typed pass s g co st ch i t k tr = trees_kept p x replies typed pass s g co st ch i t (record { holds = k }) tr
