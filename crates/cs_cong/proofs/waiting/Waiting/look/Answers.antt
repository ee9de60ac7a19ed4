use Rattle.std.proofs.Common.{◌∙◌, ℕ, sym, refl}
use Rattle.cs_cong.specs.declared.waiting.Waiting.{Waiting}
use Rattle.cs_cong.specs.Merged.{current}
use Rattle.cs_cong.proofs.Signatures.{key_read}
use Rattle.cs_cong.proofs.Settles.{settled_with, settled_entered}
use Rattle.cs_cong.proofs.waiting.Waiting.look.Goals as goal

pub returns-else-now-clause-settled : goal.returns-else-now-clause-settled
returns-else-now-clause-settled c =
    let s = c.args.self.now in
    let f : ℕ → ℕ = current c.args.merges.now.log.items in
    let new : Waiting = record { uses = s.uses; index = s.index; queue = c.done.new.self } in
    settled_with c.args.terms.now f s new c.args.a c.requires.settled c.done.ensures refl refl c.in-Some.n c.in-Some.ensures.found c.in-Some.ensures.partner
    (sym c.now.ensures.value ∙ c.if-now.false ∙ c.now-in-Some.ensures.value)

pub returns-in_ok-add-in-None-clause-settled : goal.returns-in_ok-add-in-None-clause-settled
returns-in_ok-add-in-None-clause-settled c =
    let s = c.args.self.now in
    let f : ℕ → ℕ = current c.args.merges.now.log.items in
    let new : Waiting = record { uses = s.uses; index = c.add.new.self; queue = c.done-in-None.new.self } in
    settled_entered c.args.terms.now f s new c.args.a c.requires.settled c.done-in-None.ensures refl c.requires.right c.key_of.result
    (c.key_of.ensures ∙ sym (key_read c.args.terms.now f c.args.a c.index-terms-a.result c.requires.right c.index-terms-a.is))
    c.in_ok-add-in-None.ensures.added c.in-None.ensures.found
