use Rattle.std.proofs.Common.{arith, ◌∙◌, sym, ap, ap₂, length, slice_index_or, string_bytes}
use Rattle.std.proofs.lemmas.List.{length-map}
use Rattle.vx_resolved.specs.Resolved.{member}
use Rattle.vx_resolved.specs.Settled.{settled}
use Rattle.vx_resolved.proofs.Tables.{found_at, ranks_count, ranked_at, ranked_none}
use Rattle.vx_resolved.proofs.settled.Settled.function_number.Goals as goal

pub index-requires : goal.index-requires
index-requires c =
    let all = settled c.args.self.now in
    let within = (found_at c.args.self.now.program.members.items (string_bytes c.args.name.now.value) c.in-Some.number (sym c.in-Some.ensures)).0 in
    let ranks = ap length c.args.self.now.are_ranks ∙ ranks_count 0 all in
    let members = length-map c.args.self.now.program.members.items member in
    omega (within, ranks, members, arith)

pub index-requires-in-None : goal.index-requires-in-None
index-requires-in-None c =
    let ranks = ap length c.args.self.now.are_ranks ∙ ranks_count 0 (settled c.args.self.now) in
    let last = c.len.ensures in
    omega (last, ranks, arith)

pub returns-in-Some : goal.returns-in-Some
returns-in-Some c =
    c.index.ensures ∙ ap (λ xs. slice_index_or xs c.in-Some.number c.index.result.now) c.args.self.now.are_ranks ∙ ranked_at (settled c.args.self.now) (string_bytes c.args.name.now.value) c.in-Some.number (sym c.in-Some.ensures) c.index.result.now

pub returns-in-None : goal.returns-in-None
returns-in-None c =
    c.index-in-None.ensures ∙ ap₂ (λ xs n. slice_index_or xs n c.index-in-None.result.now) c.args.self.now.are_ranks c.len.ensures ∙ ranked_none (settled c.args.self.now) (string_bytes c.args.name.now.value) (sym c.in-None.ensures) c.index-in-None.result.now
