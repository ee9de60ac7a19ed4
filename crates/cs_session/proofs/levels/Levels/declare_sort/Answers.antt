use Rattle.std.proofs.Common.{◌≡◌, ◌∷◌, map, reverse, ap, ◌∙◌}
use Rattle.std.specs.Prelude.{string_bytes}
use Rattle.cs_session.specs.Views.{all_of}
use Rattle.cs_session.proofs.Lists.{newer}
use Rattle.cs_session.proofs.Spread.{with_sort}
use Rattle.cs_session.proofs.levels.Levels.declare_sort.Goals as goal

pub returns : goal.returns
returns c =
    let s = c.args.self.now in
    let sorts : reverse (map string_bytes c.push.new.self.items) ≡ string_bytes c.args.name ∷ (all_of s).sorts =
    ap (λ x. reverse (map string_bytes x)) c.in_ok-push.ensures.items ∙ newer string_bytes s.sorts.items c.args.name in
    with_sort (reverse s.counts.items) _ (all_of s) _ (string_bytes c.args.name) c.in_ok-count_one.ensures (λ i. record { sorts = sorts i; symbols = (all_of s).symbols; assertions = (all_of s).assertions })
