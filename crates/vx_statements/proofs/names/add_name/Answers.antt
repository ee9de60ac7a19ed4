use Rattle.std.proofs.Common.{◌∙◌, ◌++◌, ◌∷◌, [], ap, sym}
use Rattle.std.specs.Prelude.{not}
use Rattle.vx_ast.specs.Mentions.{is_among}
use Rattle.vx_expressions.specs.Views.{listed}
use Rattle.vx_expressions.proofs.Scopes.{among, added, unless_fails, unless_passes}
use Rattle.vx_statements.proofs.names.add_name.Goals as goal

pub returns-then-is_new-clause-first : goal.returns-then-is_new-clause-first
returns-then-is_new-clause-first c =
    let names = c.args.names.now.keys in
    unless_passes _ _ (ap (λ q. not (is_among q (listed names))) (sym c.deref-text.ensures) ∙ ap not (sym (among c.deref-text.result.now names)) ∙ sym c.in_ok-is_new.ensures.added ∙ c.if-is_new.true)

pub returns-then-is_new-clause-added : goal.returns-then-is_new-clause-added
returns-then-is_new-clause-added c =
    let names = c.args.names.now.keys in
    ap listed c.in_ok-is_new.ensures.keys ∙ added c.deref-text.result names (sym c.in_ok-is_new.ensures.added ∙ c.if-is_new.true) ∙ ap (λ q. listed names ++ q ∷ []) c.deref-text.ensures

pub returns-clause-first : goal.returns-clause-first
returns-clause-first c =
    let names = c.args.names.now.keys in
    unless_fails c.twice.result _ _ (ap (λ q. not (is_among q (listed names))) (sym c.deref-text.ensures) ∙ ap not (sym (among c.deref-text.result.now names)) ∙ sym c.in_ok-is_new.ensures.added ∙ c.if-is_new.false) c.twice.ensures
