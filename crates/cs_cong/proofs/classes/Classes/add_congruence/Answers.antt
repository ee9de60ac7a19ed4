use Rattle.std.proofs.Common.{sym, subst}
use Rattle.cs_cong.specs.Needed.{HasCongruence}
use Rattle.cs_cong.proofs.Explaining.{has_congruence, read_term}
use Rattle.cs_cong.proofs.classes.Classes.add_congruence.Goals as goal

pub returns : goal.returns
returns c =
    let s = c.args.self.now in
    let one = c.index-one.result.now in
    let other = c.index-other.result.now in
    subst (HasCongruence s.terms.items s.merges.log.items c.args.time c.args.left c.args.right c.args.steps.now.items) (sym c.in_ok-push.ensures.items)
    (has_congruence s.terms.items s.merges.log.items c.args.time c.args.left c.args.right one other c.deref.result.now c.deref-2.result.now c.args.steps.now.items c.add_parts.new.steps.items c.requires.congruent
    (read_term s.terms.items c.args.left one c.requires.left c.index-one.ensures) (read_term s.terms.items c.args.right other c.requires.right c.index-other.ensures)
    c.deref.ensures.value c.deref-2.ensures.value c.in_ok-add_parts.ensures)
