use Rattle.std.proofs.Common.{◌∙◌, ◌++◌, ◌+◌, ap, sym, drop, map}
use Rattle.std.proofs.lemmas.List.{drop_all}
use Rattle.vx_ast.specs.Written.{written_clause}
use Rattle.vx_typing.specs.Uses.{uses_of_clauses}
use Rattle.vx_typing.specs.Seen.{seen}
use Rattle.vx_statements.proofs.Loops.{left}
use Rattle.vx_typing.proofs.uses.uses_of_clauses.Goals as goal

pub loop-c-preserved : goal.loop-c-preserved
loop-c-preserved c = λ rest.
    let cs = c.args.cs.now in
    let k = c.loop-c.c-index in
    c.in_ok-uses_of_clause.ensures (uses_of_clauses (map written_clause (drop (k + 1) cs)) rest)
    ∙ ap (λ cs. seen c.loop-c.found.items ++ uses_of_clauses (map written_clause cs) rest) (sym (left cs k c.c-item.result c.loop-c-test.true c.c-item.is))
    ∙ c.loop-c.invariant rest

pub returns : goal.returns
returns c = λ rest.
    ap (λ cs. seen c.loop-c.found.items ++ uses_of_clauses (map written_clause cs) rest) (sym (drop_all _ c.args.cs.now c.loop-c-test.false))
    ∙ c.loop-c.invariant rest
