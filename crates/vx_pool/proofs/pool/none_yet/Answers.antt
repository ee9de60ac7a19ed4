use Rattle.std.proofs.Common.{◌≡◌, ◌++◌, ◌∷◌, [], None, get_or, ap, ◌∙◌, rules}
use Rattle.vx_pool.proofs.Amid.{none_more}
use Rattle.vx_pool.proofs.pool.none_yet.Goals as goal

pub loop-preserved : goal.loop-preserved
loop-preserved c =
    let e : c.push.new.self.items ≡ c.loop.states.items ++ None ∷ [] = search rules in
    (search rules, λ j. ap (λ xs. get_or xs j None) e ∙ none_more c.loop.states.items j c.loop.invariant.1)
