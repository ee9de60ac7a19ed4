use Rattle.std.proofs.Common.{rules, ◌∙◌, sym, ap, string_bytes, Some}
use Rattle.std.specs.Option.{option_map}
use Rattle.vx_resolved.specs.Resolved.{kind}
use Rattle.vx_resolved.specs.Settled.{settled}
use Rattle.vx_resolved.proofs.Tables.{found_at, not_found}
use Rattle.vx_resolved.proofs.settled.Settled.kind_named.Goals as goal

pub returns-in_err-number : goal.returns-in_err-number
returns-in_err-number c =
    ap (option_map (λ k. kind k.now)) c.from_residual.ensures ∙ sym (not_found 0 (settled c.args.self.now) (string_bytes c.args.name.now.value) (sym c.in_err-number.ensures))

pub index-requires : goal.index-requires
index-requires c = let within = (found_at c.args.self.now.program.members.items (string_bytes c.args.name.now.value) c.in_ok-number.number (sym c.in_ok-number.ensures)).0 in search rules

pub returns : goal.returns
returns c =
    let found = found_at c.args.self.now.program.members.items (string_bytes c.args.name.now.value) c.in_ok-number.number (sym c.in_ok-number.ensures) in
    sym (found.1 c.index.result.now ∙ ap (λ m. Some (kind m.kind)) (sym c.index.ensures))
