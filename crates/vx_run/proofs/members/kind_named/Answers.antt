use Rattle.std.proofs.Common.{◌∙◌, sym, ap, string_bytes}
use Rattle.std.specs.Option.{option_map}
use Rattle.vx_resolved.specs.Resolved.{kind, member}
use Rattle.vx_resolved.specs.Settled.{settled}
use Rattle.vx_run.proofs.Numbered.{found_at, not_found}
use Rattle.vx_run.proofs.members.kind_named.Goals as goal

pub returns-in_err-number : goal.returns-in_err-number
returns-in_err-number c =
    ap (option_map (λ k. kind k.now)) c.from_residual.ensures ∙ sym (not_found 0 (settled c.args.program.now) (string_bytes c.args.name.now.value) (sym c.in_err-number.ensures))

pub member-requires : goal.member-requires
member-requires c = (found_at (settled c.args.program.now) (string_bytes c.args.name.now.value) c.in_ok-number.number (sym c.in_ok-number.ensures)).0

pub returns : goal.returns
returns c =
    sym ((found_at (settled c.args.program.now) (string_bytes c.args.name.now.value) c.in_ok-number.number (sym c.in_ok-number.ensures)).1 (member c.member.result.now) c.member.ensures)
