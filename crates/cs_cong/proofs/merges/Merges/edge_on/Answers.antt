use Rattle.std.proofs.Common.{◌≡◌, ◌∙◌, get_or, sym, ap, arith}
use Rattle.cs_cong.specs.declared.merges.Merge.{Merge}
use Rattle.cs_cong.specs.Merged.{nothing, representative}
use Rattle.cs_cong.proofs.Walks.{walk_forth, walk_back, right_joined, left_joined, read_merge}
use Rattle.cs_cong.proofs.merges.Merges.edge_on.Goals as goal

pub returns-then-at : goal.returns-then-at
returns-then-at c =
    let log = c.args.self.now.log.items in
    let when = c.in-Some.when in
    let m = c.index-merge.result.now in
    let p = c.in-Some.ensures in
    let is = read_merge log when m (omega (arith, p.before, c.requires.time)) c.index-merge.ensures in
    let here = sym c.at.ensures.value ∙ c.if-at.true ∙ c.at-in-Some.ensures.value ∙ ap (λ (x : Merge). representative log when x.left) is in
    record {
      before = p.before;
      whole = walk_forth log c.args.time c.args.a c.args.b when p here;
      here = here;
      there = right_joined log c.args.time c.args.a c.args.b when p here;
    }

pub returns-else-at : goal.returns-else-at
returns-else-at c =
    let log = c.args.self.now.log.items in
    let when = c.in-Some.when in
    let m = c.index-merge.result.now in
    let p = c.in-Some.ensures in
    let is = read_merge log when m (omega (arith, p.before, c.requires.time)) c.index-merge.ensures in
    let apart = λ (e : representative log when c.args.a ≡ representative log when (get_or log when nothing).left). c.if-at.false (c.at.ensures.value ∙ e ∙ ap (λ (x : Merge). representative log when x.left) (sym is) ∙ sym c.at-in-Some.ensures.value) in
    let j = left_joined log c.args.time c.args.a c.args.b when p apart in
    record { before = p.before; whole = walk_back log c.args.time c.args.a c.args.b when p apart; here = j.0; there = j.1 }
