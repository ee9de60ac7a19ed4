use Rattle.std.proofs.Common.{◌≡◌, [], sym, subst, map, drop, length, arith, ◌≤◌, append-nil}
use Rattle.vx_ast.specs.Written.{written_member}
use Rattle.vx_typing.specs.Numbered.{Tells}
use Rattle.vx_expressions.proofs.Arguments.{drop_past}
use Rattle.vx_typing.proofs.groups.rows_of.Goals as goal

pub returns : goal.returns
returns c = λ p h.
    let all = c.args.all.now in
    let past : length all ≤ c.loop-m.m-index = omega (arith, c.loop-m-test.false) in
    let none : drop c.loop-m.m-index all ≡ [] = drop_past all c.loop-m.m-index past in
    subst (λ rows. Tells p rows (map written_member all)) (append-nil c.loop-m.rows.items)
    (c.loop-m.invariant p h [] (subst (λ ms. Tells p [] (map written_member ms)) (sym none) tt))
