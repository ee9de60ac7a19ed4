use Rattle.std.proofs.Common.{◌≡◌, ◌∙◌, arith, sym, string_bytes, Some}
use Rattle.std.proofs.lemmas.List.{length-map}
use Rattle.vx_settling.proofs.Numbers.{number_below}
use Rattle.vx_settling.specs.Tables.{listed}
use Rattle.vx_resolved.specs.Numbers.{number_named}
use Rattle.vx_resolved.specs.Resolved.{member}
use Rattle.vx_settling.proofs.table.Table.number_of.Goals as goal

pub overflow_cast-result : goal.overflow_cast-result
overflow_cast-result c =
    let p = listed c.args.self.now in
    let x = string_bytes c.args.name.now.value in
    let named : number_named 0 p x ≡ Some c.in-Some.number.now = sym (c.args.self.now.are_numbers c.args.name.now) ∙ sym c.in-Some.ensures.value in
    let within = number_below p x c.in-Some.number.now named in
    let few = c.args.self.now.few in
    let members = length-map c.args.self.now.program.now.members.items member in
    omega (within, few, members, arith)
