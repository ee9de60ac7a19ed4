use Rattle.cs_cong.proofs.classes.Classes.conflict.Goals.{then-not-claim+else-are_equal, else-not-claim}
use Rattle.cs_cong.proofs.Joining.{denied, kept_more, kept_all}
use Rattle.std.proofs.Common.{◌≡◌, ◌<◌, true, false, length, sym, ◌∙◌, rules, arith}
use Rattle.cs_cong.proofs.classes.Classes.conflict.Goals as goal

pub loop-at-preserved : goal.loop-at-preserved
loop-at-preserved c =
    let s = c.args.self.now in
    let long : c.len-at-end.result ≡ length s.claims.items = search (rules, c.len-at-end.ensures) in
    let lt : c.loop-at.at < length s.claims.items = omega (arith, c.loop-at-test.true, long) in
    kept_more s.terms.items s.claims.items c.loop-at.at c.index-claim.result.now lt c.index-claim.ensures c.loop-at.invariant
    (elim c.if-not-claim.branch [
      | then-not-claim+else-are_equal w ↦ λ q j. let g : false ≡ true = sym w.if-are_equal.false ∙ w.are_equal.ensures.1 j in cc
      | else-not-claim w ↦ λ q j. let g : false ≡ true = sym w.if-not-claim.false ∙ q in cc
    ])

pub returns-then-are_equal : goal.returns-then-are_equal
returns-then-are_equal c =
    let s = c.args.self.now in
    let d = c.index-claim.result.now in
    let long : c.len-at-end.result ≡ length s.claims.items = search (rules, c.len-at-end.ensures) in
    (d.left, d.right, denied s.claims.items c.loop-at.at d (omega (arith, c.loop-at-test.true, long)) c.index-claim.ensures c.if-not-claim.true, c.are_equal.ensures.0 c.if-are_equal.true)

pub returns : goal.returns
returns c =
    let s = c.args.self.now in
    let long : c.len-at-end.result ≡ length s.claims.items = search (rules, c.len-at-end.ensures) in
    kept_all s.terms.items s.claims.items c.loop-at.at (omega (arith, c.loop-at-test.false, long)) c.loop-at.invariant
