use Rattle.std.proofs.Common.{[], ◌∷◌}
use Rattle.cs_certificate.specs.Certificate.{Chain, Congruence}
use Rattle.cs_derivation.specs.View.{reached}
use Rattle.cs_ground.proofs.Collected.{is_chain, is_congruence, both_steps}
use Rattle.cs_ground.proofs.joins.add_alias.Goals as goal

pub returns : goal.returns
returns c = λ stack h.
    let x = c.args.alias.now in
    both_steps (Chain (x.left ∷ x.choice ∷ x.right ∷ [])) (Congruence x.whole x.equality) stack (reached c.args.derivation.now) (reached c.chain.new.self) (reached c.congruence.new.self) c.in_ok-chain.field-0 c.in_ok-congruence.field-0
    (is_chain (x.left ∷ x.choice ∷ x.right ∷ [])) (is_congruence x.whole x.equality) h (c.in_ok-chain.ensures stack) (c.in_ok-congruence.ensures stack)
