use Rattle.std.proofs.Common.{◌<◌, ◌∙◌, subst, sym, string_bytes}
use Rattle.vx_resolved.specs.Settled.{settled}
use Rattle.vx_closure.proofs.Numbers.{number_below}
use Rattle.vx_closure.proofs.Additions.{known_with, known_without}
use Rattle.vx_closure.proofs.mentions.add_name.Goals as goal

pub index_mut-requires : goal.index_mut-requires
index_mut-requires c = subst (λ n. c.in-Some.number < n) (sym (c.args.rows.now.ok.0 ∙ c.requires)) (number_below (settled c.args.program.now) (string_bytes c.args.name.now.value) c.in-Some.number (sym c.in-Some.ensures))

pub returns-in-None-clause-added : goal.returns-in-None-clause-added
returns-in-None-clause-added c = known_without (settled c.args.program.now) c.args.rows.now.items c.args.by.0 (string_bytes c.args.name.now.value) (sym c.in-None.ensures)

pub returns-in_ok-add_member-in-Some-clause-added : goal.returns-in_ok-add_member-in-Some-clause-added
returns-in_ok-add_member-in-Some-clause-added c =
    known_with (settled c.args.program.now) c.args.rows.now.items c.in-Some.number c.index_mut.result.now c.add_member.new.row c.args.by.0 (string_bytes c.args.name.now.value)
    (subst (λ n. c.in-Some.number < n) (sym c.requires) (number_below (settled c.args.program.now) (string_bytes c.args.name.now.value) c.in-Some.number (sym c.in-Some.ensures)))
    c.index_mut.ensures.value c.in_ok-add_member-in-Some.ensures (sym c.in-Some.ensures)
