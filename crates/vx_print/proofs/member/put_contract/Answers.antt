use Rattle.std.proofs.Common.{◌∙◌, ap, string_bytes}
use Rattle.vx_ast.specs.Written.{written_clause}
use Rattle.vx_print.specs.Canonical.{contract_clause}
use Rattle.vx_print.specs.Words.{behind}
use Rattle.vx_print.proofs.Behind.{more_clauses}
use Rattle.vx_print.proofs.member.put_contract.Goals as goal

pub loop-c-preserved : goal.loop-c-preserved
loop-c-preserved c =
    let now = string_bytes c.loop-c.out in
    let same = c.in_ok-put_contract_clause.ensures ∙ ap (λ x. behind now (contract_clause (written_clause x))) c.c-item.is in
    more_clauses now (string_bytes c.put_contract_clause.new.out) c.args.clauses.now c.loop-c.c-index c.c-item.result c.loop-c-test.true same ∙ c.loop-c.invariant
