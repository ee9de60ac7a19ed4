use Rattle.cs_cong.proofs.Same.{any_here, any_later, any_end}
use Rattle.cs_cong.proofs.Signatures.{key_read}
use Rattle.cs_cong.specs.Settled.{is_partner}
use Rattle.cs_cong.specs.Merged.{current}
use Rattle.cs_index.specs.Under.{under}
use Rattle.std.specs.List.{list_any}
use Rattle.std.proofs.Common.{ap, sym, ◌∙◌}
use Rattle.cs_cong.proofs.waiting.Waiting.partner.Goals as goal

pub loop-n-init : goal.loop-n-init
loop-n-init c =
    ap (list_any (λ n. is_partner c.args.terms.now (current c.args.merges.now.log.items) c.args.self.now.queue n c.args.a))
    (c.under-n-items.ensures ∙ ap (under c.args.self.now.index) (c.key_of.ensures ∙ sym (key_read c.args.terms.now (current c.args.merges.now.log.items) c.args.a c.index-terms-a.result c.requires.right c.index-terms-a.is)))

pub returns-then-is_partner-clause-found : goal.returns-then-is_partner-clause-found
returns-then-is_partner-clause-found c = sym c.loop-n.invariant ∙ any_here (λ n. is_partner c.args.terms.now (current c.args.merges.now.log.items) c.args.self.now.queue n c.args.a) c.under-n-items.result.now c.loop-n.n-index c.loop-n-test.true (sym c.is_partner.ensures.value ∙ c.if-is_partner.true)

pub loop-n-preserved : goal.loop-n-preserved
loop-n-preserved c = any_later (λ n. is_partner c.args.terms.now (current c.args.merges.now.log.items) c.args.self.now.queue n c.args.a) c.under-n-items.result.now c.loop-n.n-index c.loop-n-test.true (sym c.is_partner.ensures.value ∙ c.if-is_partner.false) ∙ c.loop-n.invariant

pub returns-clause-found : goal.returns-clause-found
returns-clause-found c = sym c.loop-n.invariant ∙ any_end (λ n. is_partner c.args.terms.now (current c.args.merges.now.log.items) c.args.self.now.queue n c.args.a) c.under-n-items.result.now c.loop-n.n-index c.loop-n-test.false
