use Rattle.std.proofs.Common.{map, reverse, refl, ap, ◌∙◌}
use Rattle.std.specs.Prelude.{string_bytes}
use Rattle.cs_session.specs.Views.{all_of}
use Rattle.cs_session.proofs.Spread.{sorts_stand}
use Rattle.cs_session.proofs.levels.Levels.sorts.Goals as goal

pub returns : goal.returns
returns c =
    let s = c.args.self.now in
    ap (map string_bytes) c.deref.ensures.value ∙ sorts_stand (reverse s.counts.items) (all_of s) (map string_bytes s.sorts.items) refl
