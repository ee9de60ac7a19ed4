use Rattle.std.proofs.Common.{◌≡◌, ◌+◌, ◌-◌, ◌++◌, ◌∷◌, [], map, ap, ◌∙◌, sym, append_assoc, arith}
use Rattle.std.proofs.lemmas.List.{map-append}
use Rattle.vx_smt_meaning.specs.Commands.{Pop}
use Rattle.vx_smt_meaning.specs.Views.{command}
use Rattle.vx_dialogue.specs.Segments.{pops}
use Rattle.vx_dialogue.proofs.Lists.{none_more}
use Rattle.vx_dialogue.proofs.Counted.{pops_less}
use Rattle.vx_dialogue.proofs.question.put_pops.Goals as goal

pub loop-preserved : goal.loop-preserved
loop-preserved c =
    let before = map command c.loop.commands.items in
    let left = pops (c.args.count - (c.loop.counter + 1)) in
    ap (λ x. map command x ++ left) c.in_ok-push.ensures.items ∙ ap (λ x. x ++ left) (map-append command c.loop.commands.items _) ∙ append_assoc before (Pop 1 ∷ []) left
    ∙ ap (λ x. before ++ x) (sym (pops_less c.args.count c.loop.counter c.loop-test.true)) ∙ c.loop.invariant

pub returns : goal.returns
returns c =
    let before = map command c.loop.commands.items in
    let first = c.loop-test.false in
    let last = c.loop.auto.counter-end in
    let none : c.args.count - c.loop.counter ≡ 0 = omega arith in
    sym (none_more before) ∙ ap (λ n. before ++ pops n) (sym none) ∙ c.loop.invariant
