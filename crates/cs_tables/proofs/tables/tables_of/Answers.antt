use Rattle.std.proofs.Common.{rules, Some, sym, ◌∙◌, ap, subst}
use Rattle.cs_certificate.specs.Nodes.{Represents}
use Rattle.cs_table.specs.Views.{nodes}
use Rattle.cs_numbers.specs.Listed.{terms_in}
use Rattle.cs_tables.proofs.Made.{not_missed, represents, assigned_table}
use Rattle.cs_tables.proofs.tables.tables_of.Goals as goal

pub returns-in_err-nodes-clause-tables : goal.returns-in_err-nodes-clause-tables
returns-in_err-nodes-clause-tables c = λ s k tells. let h = not_missed _ k _ c.in_err-nodes.ensures in search rules

pub returns-in_err-nodes-clause-models : goal.returns-in_err-nodes-clause-models
returns-in_err-nodes-clause-models c = λ assertions s e assigned tells. let h = not_missed _ (assigned_table _ assertions s e assigned) _ c.in_err-nodes.ensures in search rules

pub returns-clause-tables : goal.returns-clause-tables
returns-clause-tables c = λ s k tells.
    let are = c.in_ok-nodes.ensures ∙ ap (λ xs. Some (nodes xs)) (sym c.deref.ensures.value) in
    c.in_ok-tables_over.ensures.tables (terms_in c.args.terms.now) s (represents _ _ k are) tells

pub returns-clause-models : goal.returns-clause-models
returns-clause-models c = λ assertions s e assigned tells.
    let are = c.in_ok-nodes.ensures ∙ ap (λ xs. Some (nodes xs)) (sym c.deref.ensures.value) in
    let stand = represents _ _ (assigned_table _ assertions s e assigned) are in
    c.in_ok-tables_over.ensures.models assertions s assigned (subst (Represents (nodes c.deref.result.now)) e stand) tells
