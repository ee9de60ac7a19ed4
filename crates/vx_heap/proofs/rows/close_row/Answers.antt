use Rattle.std.proofs.Common.{◌≡◌, ◌∙◌, ap, drop, length, map, rules}
use Rattle.std.specs.Prelude.{filter, nat_eq, not}
use Rattle.std.proofs.lemmas.Fn.{filter_same}
use Rattle.std.proofs.lemmas.List.{take_at}
use Rattle.vx_heap.specs.Places.{moved}
use Rattle.vx_heap.proofs.rows.close_row.Goals as goal

pub returns : goal.returns
returns c =
    let kept : c.retain.new.self.items ≡ filter (λ m. not (nat_eq m c.args.at)) c.args.row.now.items = filter_same _ _ _ (λ x b f' k. search rules) _ _ c.retain.ensures.filtered in
    let new = c.move_all.new.places in
    take_at new (drop (length new) c.retain.new.self.items) c.retain.new.self.len (c.move_all.auto.places ∙ c.deref_mut.ensures.len)
    ∙ c.move_all.ensures
    ∙ ap (map (moved c.args.at)) (c.deref_mut.ensures.value ∙ kept)
