use Rattle.std.proofs.Common.{rules, ◌≡◌, string_bytes}
use Rattle.vx_resolved.specs.Resolved.{member}
use Rattle.vx_resolved.proofs.Tables.{entered}
use Rattle.vx_resolved.proofs.numbers.add_first.Goals as goal

pub returns : goal.returns
returns c = λ ms so_far.
    let x = c.in_ok-name.name in
    let same : string_bytes x.value ≡ (member c.args.m.now).name = search rules in
    entered c.args.numbers.now c.insert.new.self x c.args.number (member c.args.m.now) ms same c.in_ok-insert.ensures.updates so_far
