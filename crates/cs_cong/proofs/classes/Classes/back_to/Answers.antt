use Rattle.std.proofs.Common.{subst, ◌≡◌, ◌<◌, ◌∙◌, ap, sym, length, rules, arith, take}
use Rattle.std.proofs.lemmas.List.{get_or_default}
use Rattle.std.proofs.lemmas.List.Elements.{All-take}
use Rattle.std.specs.List.{All}
use Rattle.cs_cong.specs.declared.congruent.Claim.{Claim}
use Rattle.cs_cong.specs.Stages.{cut}
use Rattle.cs_cong.proofs.Stages.{history_back, history_again}
use Rattle.cs_cong.proofs.classes.Classes.back_to.Goals as goal

pub invariant_of-self-clause-history : goal.invariant_of-self-clause-history
invariant_of-self-clause-history c =
    let s = c.args.self.now in
    let log = s.merges.log.items in
    let long : c.len.result ≡ length s.marks.items = search (rules, c.len.ensures) in
    let few : c.args.mark < length s.marks.items = omega (arith, c.if-mark-len.true, long) in
    let is : c.index-cut.result.now ≡ cut s.marks.items log c.args.mark = c.index-cut.ensures ∙ get_or_default s.marks.items c.args.mark _ _ few in
    history_again s.terms.items (take c.args.mark s.claims.items) c.truncate.new.self.items (take c.args.mark s.marks.items) c.truncate-then-mark-len.new.self.items (take (cut s.marks.items log c.args.mark) log) c.back_to.new.self.log.items
    c.truncate.ensures.items c.truncate-then-mark-len.ensures.items (c.back_to.ensures.log ∙ ap (λ n. take n log) is)
    (history_back s.terms.items s.claims.items s.marks.items log c.args.mark s.history (omega (arith, few, s.history.marked)))

pub invariant_of-self-clause-named : goal.invariant_of-self-clause-named
invariant_of-self-clause-named c =
    let s = c.args.self.now in
    subst (All (λ (x : Claim). (x.left < length s.terms.items) × (x.right < length s.terms.items))) (sym c.truncate.ensures.items) (All-take (λ (x : Claim). (x.left < length s.terms.items) × (x.right < length s.terms.items)) c.args.mark s.claims.items s.named)
