use Rattle.std.proofs.Common.{ap, ◌∙◌, ◌++◌, ◌∷◌, []}
use Rattle.cs_linear.specs.declared.rows.Entry.{Entry}
use Rattle.cs_linear.proofs.Added.{free_included}
use Rattle.cs_linear.proofs.add.include_free.Goals as goal

pub returns-clause-value : goal.returns-clause-value
returns-clause-value c =
    let e : Entry = record { column = c.args.entry.column; factor = c.one.result } in
    free_included c.args.rows.now c.args.homes.now c.args.sum.now c.deref.result.now c.in_ok-new.new.items c.args.entry c.one.result c.one.ensures
    (c.deref.ensures.value ∙ c.in_ok-push.ensures.items ∙ ap (λ es. es ++ e ∷ []) c.new-alone.ensures.items) c.requires
    c.in_ok-new.ensures.value c.in_ok-new.ensures.free c.in_ok-new.ensures.ascends
