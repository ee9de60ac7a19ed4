use Rattle.std.proofs.Common.{◌≡◌, ◌+◌, ◌-◌, suc, map, length, take, drop, arith}
use Rattle.vx_terms.specs.Views.{term}
use Rattle.cs_proof.proofs.Walks.{terms_from}
use Rattle.cs_derivation.specs.View.{reached}
use Rattle.cs_ground.proofs.Lists.{item_at}
use Rattle.cs_ground.proofs.Naming.{pairs_first, pairs_next_of, pairs_all_of}
use Rattle.cs_ground.proofs.pairs.with_pairs.Goals as goal

pub loop-at-init : goal.loop-at-init
loop-at-init c = λ stack h k. pairs_first stack (reached c.args.derivation) (map (λ x. term x.value) c.args.terms.now) h

pub loop-at-preserved : goal.loop-at-preserved
loop-at-preserved c = λ stack h k.
    let next : c.loop-at.at + 1 ≡ suc c.loop-at.at = omega arith in
    pairs_next_of (λ x. term x.value) c.args.terms.now (take (length c.args.terms.now - (c.loop-at.at + 1)) (drop (c.loop-at.at + 1) c.args.terms.now)) c.loop-at.at c.index-terms-at.result stack (reached c.args.derivation) (reached c.loop-at.derivation) (reached c.in_ok-derivation.derivation)
    (item_at c.args.terms.now c.loop-at.at c.index-terms-at.result c.loop-at-test.true c.index-terms-at.is)
    (terms_from (λ x. term x.value) (c.loop-at.at + 1) (suc c.loop-at.at) c.args.terms.now next) k (c.loop-at.invariant stack h k) (c.in_ok-derivation.ensures stack)

pub returns : goal.returns
returns c = λ stack h k.
    pairs_all_of (λ x. term x.value) c.args.terms.now c.loop-at.at stack (reached c.args.derivation) (reached c.loop-at.derivation) c.loop-at-test.false (c.loop-at.invariant stack h k)
