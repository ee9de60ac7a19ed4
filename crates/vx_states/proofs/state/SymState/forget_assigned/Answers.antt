use Rattle.std.proofs.Common.{◌∙◌, ap, [], append-nil}
use Rattle.std.proofs.lemmas.Result.{IfOk-weaker}
use Rattle.vx_ast.specs.Syntax.{assigned_in}
use Rattle.vx_resolved.specs.Resolved.{block, names_of}
use Rattle.vx_rules.specs.Members.{forget}
use Rattle.vx_states.specs.SymStates.{state}
use Rattle.vx_states.proofs.state.SymState.forget_assigned.Goals as goal

pub returns : goal.returns
returns c =
    let xs = assigned_in (block c.args.body.now) in
    let s = state c.args.self.now in
    IfOk-weaker c.forget_block.result _ _
    (λ x h. h [] ∙ ap (λ l. forget (names_of c.new-done.result.items) l s) (append-nil xs) ∙ ap (λ d. forget (names_of d) xs s) c.new-done.ensures.items)
    c.forget_block.ensures
