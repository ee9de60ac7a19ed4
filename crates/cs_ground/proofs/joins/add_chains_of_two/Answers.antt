use Rattle.std.proofs.Common.{[], ◌∷◌}
use Rattle.cs_certificate.specs.Certificate.{Chain}
use Rattle.cs_derivation.specs.View.{reached}
use Rattle.cs_ground.specs.Steps.{IsChainOf}
use Rattle.cs_ground.proofs.Collected.{is_chain, first_none, next_tried, all_of_them}
use Rattle.cs_ground.proofs.joins.add_chains_of_two.Goals as goal

pub loop-k-init : goal.loop-k-init
loop-k-init c = λ stack h. first_none (IsChainOf c.args.i c.args.j) stack (reached c.args.derivation.now) h

pub loop-k-preserved : goal.loop-k-preserved
loop-k-preserved c = λ stack h.
    next_tried (λ k. Chain (c.args.i ∷ c.args.j ∷ k ∷ [])) c.loop-k.k stack (reached c.args.derivation.now) (reached c.loop-k.derivation) (reached c.chain.new.self) c.in_ok-chain.field-0 (is_chain (c.args.i ∷ c.args.j ∷ c.loop-k.k ∷ [])) (c.loop-k.invariant stack h) (c.in_ok-chain.ensures stack)

pub returns : goal.returns
returns c = λ stack h.
    all_of_them (IsChainOf c.args.i c.args.j) c.loop-k.k c.args.count stack (reached c.args.derivation.now) (reached c.loop-k.derivation) c.loop-k-test.false (c.loop-k.invariant stack h)
