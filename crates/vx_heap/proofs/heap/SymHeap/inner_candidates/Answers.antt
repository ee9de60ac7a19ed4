use Rattle.std.proofs.Common.{◌≡◌, ◌∙◌, ap, map, refl, rules}
use Rattle.std.specs.Prelude.{filter}
use Rattle.std.proofs.lemmas.Fn.{filter_same}
use Rattle.vx_rules.specs.Chunks.{only_inner}
use Rattle.vx_heap.specs.Views.{candidate}
use Rattle.vx_heap.proofs.Heaps.{inner_by}
use Rattle.vx_heap.proofs.heap.SymHeap.inner_candidates.Goals as goal

pub returns : goal.returns
returns c =
    let kept : c.retain.new.self.items ≡ filter (λ x. x.chunk.value.is_inner) c.in_ok-found.found.items = filter_same _ _ _ (λ x b f' k. search rules) _ _ c.retain.ensures.filtered in
    ap (map candidate) kept ∙ inner_by candidate (λ x. x.chunk.value.is_inner) (λ x. refl) c.in_ok-found.found.items ∙ ap only_inner c.in_ok-found.ensures
