-- Terms whose parts are so few that 32 bits count them.
use Rattle.std.specs.Prelude.{◌<◌, ◌^◌, length}
use Rattle.vx_terms.specs.Terms.{Term}
use Rattle.cs_certificate.specs.Terms.{parts}

abbrev pub HasFewParts : Term → Type 0
HasFewParts t = length (parts t) < 2 ^ 32
