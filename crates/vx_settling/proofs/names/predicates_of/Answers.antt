use Rattle.std.proofs.Common.{◌∙◌, ◌||◌, ◌+◌, ap, sym, drop, map}
use Rattle.std.proofs.lemmas.List.{drop_all}
use Rattle.vx_ast.specs.Resolve.{has_member, is_predicate}
use Rattle.vx_ast.specs.Written.{written_member}
use Rattle.vx_settling.specs.Names.{has_name}
use Rattle.vx_settling.proofs.Loops.{left}
use Rattle.vx_settling.proofs.Sets.{one_more, none_left}
use Rattle.vx_settling.proofs.names.predicates_of.Goals as goal

pub loop-m-preserved : goal.loop-m-preserved
loop-m-preserved c = λ x.
    let all = c.args.all.now in
    let k = c.loop-m.m-index in
    let next = left all k c.m-item.result c.loop-m-test.true c.m-item.is in
    one_more is_predicate (written_member c.m-item.result) (map written_member (drop (k + 1) all)) x (has_name c.loop-m.names x) (has_name c.add_predicate.new.names x)
    (c.in_ok-add_predicate.ensures x)
    ∙ ap (λ ms. has_name c.loop-m.names x || has_member is_predicate (map written_member ms) x) (sym next)
    ∙ c.loop-m.invariant x

pub returns : goal.returns
returns c = λ x.
    sym (none_left (has_name c.loop-m.names x))
    ∙ ap (λ ms. has_name c.loop-m.names x || has_member is_predicate (map written_member ms) x) (sym (drop_all _ c.args.all.now c.loop-m-test.false))
    ∙ c.loop-m.invariant x
