use Rattle.std.proofs.Common.{arith, ◌∙◌, ◌<◌, sym, subst, string_bytes}
use Rattle.std.proofs.lemmas.List.{length-map}
use Rattle.vx_resolved.specs.Resolved.{member}
use Rattle.vx_resolved.specs.Settled.{settled}
use Rattle.vx_resolved.proofs.Tables.{found_at, no_group, no_group_of}
use Rattle.vx_resolved.proofs.settled.Settled.is_in_group.Goals as goal

pub returns-in_default : goal.returns-in_default
returns-in_default c = no_group (settled c.args.self.now) (string_bytes c.args.f.now.value) (string_bytes c.args.g.now.value) (sym c.in_default.ensures)

pub returns-in_default-number_of : goal.returns-in_default-number_of
returns-in_default-number_of c = no_group_of (settled c.args.self.now) (string_bytes c.args.f.now.value) (string_bytes c.args.g.now.value) (sym c.in_default-number_of.ensures)

pub overflow_cast-a : goal.overflow_cast-a
overflow_cast-a c =
    let within = (found_at c.args.self.now.program.members.items (string_bytes c.args.f.now.value) c.in-Some.a (sym c.in-Some.ensures)).0 in
    let few = c.args.self.now.few in
    omega (within, few, arith)

pub overflow_cast-b : goal.overflow_cast-b
overflow_cast-b c =
    let within = (found_at c.args.self.now.program.members.items (string_bytes c.args.g.now.value) c.in-Some-number_of.b (sym c.in-Some-number_of.ensures)).0 in
    let few = c.args.self.now.few in
    omega (within, few, arith)

pub are_together-requires-clause-a : goal.are_together-requires-clause-a
are_together-requires-clause-a c =
    let within = (found_at c.args.self.now.program.members.items (string_bytes c.args.f.now.value) c.in-Some.a (sym c.in-Some.ensures)).0 in
    let count = c.args.self.now.are_groups.count ∙ length-map c.args.self.now.program.members.items member in
    subst (λ n. c.in-Some.a < n) (sym count) within

pub are_together-requires-clause-b : goal.are_together-requires-clause-b
are_together-requires-clause-b c =
    let within = (found_at c.args.self.now.program.members.items (string_bytes c.args.g.now.value) c.in-Some-number_of.b (sym c.in-Some-number_of.ensures)).0 in
    let count = c.args.self.now.are_groups.count ∙ length-map c.args.self.now.program.members.items member in
    subst (λ n. c.in-Some-number_of.b < n) (sym count) within
