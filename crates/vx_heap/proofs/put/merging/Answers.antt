use Rattle.std.proofs.Common.{◌∙◌, ◌++◌, ◌&&◌, ap}
use Rattle.std.proofs.lemmas.Result.{IfOk-weaker}
use Rattle.vx_rules.specs.Chunks.{field_facts}
use Rattle.vx_heap.specs.Heaps.{standing, sum_fact}
use Rattle.vx_heap.specs.Views.{chunk, heap, is_field}
use Rattle.vx_heap.proofs.Heaps.{facts_of_field, facts_of_instance}
use Rattle.vx_heap.proofs.put.merging.Goals as goal

pub returns-in-Field : goal.returns-in-Field
returns-in-Field c =
    let s = c.args.summed in
    let b = c.args.bounded in
    let n = c.args.whole.number in
    let cs = standing n (chunk c.args.old.now) in
    let new = chunk c.args.new.now in
    let h = heap c.args.held.now in
    IfOk-weaker c.facts_merged.result _ _
    (λ facts e. e ∙ ap (λ w. field_facts s b cs new h ++ sum_fact (s && b) n w h) c.requires ∙ facts_of_field s b cs new h (ap is_field c.in-Field.is))
    c.facts_merged.ensures

pub returns-in-Predicate : goal.returns-in-Predicate
returns-in-Predicate c =
    let n = c.args.whole.number in
    IfOk-weaker c.facts_agree.result _ _
    (λ facts e. e n ∙ facts_of_instance c.args.summed c.args.bounded (standing n (chunk c.args.old.now)) (chunk c.args.new.now) (heap c.args.held.now) (ap is_field c.in-Predicate.is))
    c.facts_agree.ensures
