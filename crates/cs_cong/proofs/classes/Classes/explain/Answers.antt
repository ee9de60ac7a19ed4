use Rattle.std.proofs.Common.{rules, ◌≡◌, length, refl, sym, subst}
use Rattle.cs_cong.specs.Merged.{representative}
use Rattle.cs_cong.proofs.Explaining.{explains}
use Rattle.cs_cong.proofs.Joining.{joined_are_merged}
use Rattle.cs_cong.proofs.Stages.{stage_now}
use Rattle.cs_cong.proofs.classes.Classes.explain.Goals as goal

pub add_path-requires-clause-joined : goal.add_path-requires-clause-joined
add_path-requires-clause-joined c =
    let s = c.args.self.now in
    let stage = stage_now s.terms.items s.claims.items s.marks.items s.merges.log.items s.history in
    let time : c.len.result ≡ length s.merges.log.items = search (rules, c.len.ensures) in
    subst (λ n. representative s.merges.log.items n c.args.a ≡ representative s.merges.log.items n c.args.b) (sym time)
    (joined_are_merged s.terms.items s.claims.items s.merges.log.items stage c.args.a c.args.b (c.if-not-are_equal.ensures.0 refl))

pub returns-clause-explained : goal.returns-clause-explained
returns-clause-explained c =
    let s = c.args.self.now in
    let stage = stage_now s.terms.items s.claims.items s.marks.items s.merges.log.items s.history in
    let time : c.len.result ≡ length s.merges.log.items = search (rules, c.len.ensures) in
    let same = joined_are_merged s.terms.items s.claims.items s.merges.log.items stage c.args.a c.args.b (c.if-not-are_equal.ensures.0 refl) in
    explains s.terms.items s.claims.items s.merges.log.items c.in_ok-found.found c.len.result c.args.a c.args.b c.in_ok-chain.chain _ same (c.in_ok-found.ensures.marked same) c.in_ok-chain.ensures.sound
    c.in_ok-chain.ensures.known refl time c.in_ok-add_path.ensures
