use Rattle.std.proofs.Common.{◌∙◌, ◌++◌, ◌∷◌, [], ap, string_bytes}
use Rattle.vx_expressions.specs.declared.setting.Variable.{Variable}
use Rattle.vx_expressions.specs.Scopes.{named}
use Rattle.vx_expressions.specs.Views.{known}
use Rattle.vx_expressions.proofs.Scopes.{appended, not_known}
use Rattle.vx_statements.proofs.names.declare.Goals as goal

pub returns-clause-after : goal.returns-clause-after
returns-clause-after c =
    let before = known c.args.variables.now.entries in
    let d = c.args.declared.now in
    ap known c.in_ok-insert.ensures.entries
    ∙ appended (λ (v : Variable). v) c.deref.result _ c.args.variables.now.entries (ap (named before) c.deref.ensures ∙ not_known _ _ _ c.in_ok-new_variable.ensures)
    ∙ ap (λ q. before ++ (q, record { of = d.value_type; assignable = c.is_assignable.result }) ∷ []) c.deref.ensures
    ∙ ap (λ b. before ++ (string_bytes d.name.text, record { of = d.value_type; assignable = b }) ∷ []) c.is_assignable.ensures
