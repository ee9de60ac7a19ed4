use Rattle.std.proofs.Common.{◌≡◌, string_bytes, rules}
use Rattle.vx_settling.proofs.Sets.{put}
use Rattle.vx_settling.proofs.names.insert.Goals as goal

pub returns : goal.returns
returns c =
    let same : string_bytes c.in_ok-name.name ≡ c.args.name.now = search rules in
    put c.args.names.now c.insert.new.self c.in_ok-name.name c.args.name.now c.in_ok-insert.field-0 same c.in_ok-insert.ensures.added c.in_ok-insert.ensures.keys
