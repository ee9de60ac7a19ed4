use Rattle.std.proofs.Common.{rules, ◌≡◌, ◌∙◌, ap, refl, sym, subst, true}
use Rattle.cs_cong.specs.declared.merges.Merge.{Merge}
use Rattle.cs_cong.specs.declared.merges.Reason.TheVariants.{Claimed, Congruence}
use Rattle.cs_cong.specs.Merged.{representative}
use Rattle.cs_cong.specs.Joined.{are_congruent}
use Rattle.cs_cong.specs.Needed.{HasCongruence}
use Rattle.cs_cong.proofs.Explaining.{congruent_at, claimed_at, merge_claimed, merge_congruent}
use Rattle.cs_cong.proofs.Stages.{stage_now}
use Rattle.cs_cong.proofs.Walks.{read_merge}
use Rattle.cs_cong.proofs.classes.Classes.derive.Goals as goal

pub add_congruence-requires-clause-congruent : goal.add_congruence-requires-clause-congruent
add_congruence-requires-clause-congruent c =
    let s = c.args.self.now in
    let log = s.merges.log.items in
    let stage = stage_now s.terms.items s.claims.items s.marks.items s.merges.log.items s.history in
    let is = read_merge log c.args.at c.index-merge.result.now c.requires c.index-merge.ensures in
    let why : c.index-merge.result.now.reason ≡ Congruence = search rules in
    subst (λ (x : Merge). are_congruent s.terms.items (representative s.merges.log.items c.args.at) x.left x.right ≡ true) (sym is)
    (congruent_at s.terms.items s.claims.items log c.args.at stage.justified c.requires (ap (λ (x : Merge). x.reason) (sym is) ∙ why))

pub returns-in_ok-push-in-Claimed : goal.returns-in_ok-push-in-Claimed
returns-in_ok-push-in-Claimed c =
    let s = c.args.self.now in
    let log = s.merges.log.items in
    let stage = stage_now s.terms.items s.claims.items s.marks.items s.merges.log.items s.history in
    let is = read_merge log c.args.at c.index-merge.result.now c.requires c.index-merge.ensures in
    let why : c.index-merge.result.now.reason ≡ Claimed c.in-Claimed.claim = search rules in
    merge_claimed s.terms.items s.claims.items log c.args.at c.in-Claimed.claim c.args.chain.now _ c.in_ok-push-in-Claimed.ensures.items refl
    (claimed_at s.terms.items s.claims.items log c.args.at c.in-Claimed.claim stage.justified c.requires (ap (λ (x : Merge). x.reason) (sym is) ∙ why))

pub returns-in_ok-add_congruence-in-Congruence : goal.returns-in_ok-add_congruence-in-Congruence
returns-in_ok-add_congruence-in-Congruence c =
    let s = c.args.self.now in
    let log = s.merges.log.items in
    let is = read_merge log c.args.at c.index-merge.result.now c.requires c.index-merge.ensures in
    let why : c.index-merge.result.now.reason ≡ Congruence = search rules in
    merge_congruent s.terms.items s.claims.items log c.args.at c.args.chain.now _ refl
    (subst (λ (x : Merge). HasCongruence s.terms.items s.merges.log.items c.args.at x.left x.right c.args.chain.now.steps.items c.add_congruence.new.steps.items) is c.in_ok-add_congruence-in-Congruence.ensures)
    (ap (λ (x : Merge). x.reason) (sym is) ∙ why)
