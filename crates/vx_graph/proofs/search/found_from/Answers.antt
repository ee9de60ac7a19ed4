use Rattle.std.proofs.Common.{◌≡◌, ◌<◌, ◌∙◌, ℕ, ap, length, true}
use Rattle.vx_graph.specs.Listed.{is_marked}
use Rattle.vx_graph.proofs.Marks.{all_marked}
use Rattle.vx_graph.proofs.Roots.{any_way, all_ways}
use Rattle.vx_graph.proofs.search.found_from.Goals as goal

pub returns-clause-found : goal.returns-clause-found
returns-clause-found c b =
    let rows = c.args.rows.now in
    let marks = c.deref.result.now in
    let all : (k : ℕ) → k < length rows → is_marked marks k ≡ true = λ k lt. ap (λ ms. is_marked ms k) (c.deref.ensures.value ∙ c.in_ok-all.ensures.items_if_clones_equal (λ y e. e)) ∙ all_marked (length rows) k lt in
    ((λ e. any_way marks rows ((c.in_ok-find_within.ensures.found b).0 e)), (λ way. (c.in_ok-find_within.ensures.found b).1 (all_ways marks rows (length rows) c.requires.within all way)))
