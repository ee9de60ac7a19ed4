use Rattle.std.proofs.Common.{◌∙◌, ap, sym}
use Rattle.std.specs.Prelude.{not}
use Rattle.std.proofs.lemmas.Result.{IfOk-weaker}
use Rattle.vx_states.specs.SymStates.{state}
use Rattle.vx_states.proofs.state.SymState.put.Goals as goal

pub returns : goal.returns
returns c =
    IfOk-weaker c.add_facts.result _ _ (λ x h. h ∙ c.in_ok-facts.ensures (state c.args.self.now) (ap not (sym c.is_quiet-summed.ensures))) c.add_facts.ensures
