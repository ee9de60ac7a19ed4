use Rattle.std.proofs.Common.{rules, ◌≡◌, ◌<◌, ◌∙◌, ap, sym, arith, length}
use Rattle.cs_cong.specs.declared.merges.Merge.{Merge}
use Rattle.cs_cong.specs.declared.merges.Reason.TheVariants.{Congruence}
use Rattle.cs_cong.specs.Merged.{merge_at}
use Rattle.cs_cong.proofs.Explaining.{backed_at, congruent_at, read_term}
use Rattle.cs_cong.proofs.Stages.{stage_now}
use Rattle.cs_cong.proofs.Walks.{read_merge}
use Rattle.cs_cong.proofs.classes.Classes.mark_needs.Goals as goal

pub returns-in_ok-mark_parts-in-Congruence-clause-backed : goal.returns-in_ok-mark_parts-in-Congruence-clause-backed
returns-in_ok-mark_parts-in-Congruence-clause-backed c =
    let s = c.args.self.now in
    let log = s.merges.log.items in
    let at = c.args.at in
    let m = c.index-merge.result.now in
    let stage = stage_now s.terms.items s.claims.items s.marks.items s.merges.log.items s.history in
    let is = read_merge log at m c.requires.within c.index-merge.ensures in
    let why : c.index-merge.result.now.reason ≡ Congruence = search rules in
    let wide = s.same_terms in
    let x = s.merges.within c.args.at c.requires.within in
    let x_left = x.left in
    let x_right = x.right in
    let l : c.index-merge.result.now.left ≡ (merge_at s.merges.log.items c.args.at).left = ap (λ (y : Merge). y.left) is in
    let r : c.index-merge.result.now.right ≡ (merge_at s.merges.log.items c.args.at).right = ap (λ (y : Merge). y.right) is in
    let left : c.index-merge.result.now.left < length s.terms.items = omega (arith, l, x_left, wide) in
    let right : c.index-merge.result.now.right < length s.terms.items = omega (arith, r, x_right, wide) in
    backed_at s.terms.items log c.mark_parts.new.needs.all at m c.index-left.result.now c.index-right.result.now c.deref.result.now c.deref-in-Congruence.result.now is
    (read_term s.terms.items m.left c.index-left.result.now left c.index-left.ensures) (read_term s.terms.items m.right c.index-right.result.now right c.index-right.ensures)
    c.deref.ensures.value c.deref-in-Congruence.ensures.value
    (congruent_at s.terms.items s.claims.items log at stage.justified c.requires.within (ap (λ (y : Merge). y.reason) (sym is) ∙ why))
    c.in_ok-mark_parts-in-Congruence.ensures.marked
