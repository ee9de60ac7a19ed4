use Rattle.std.proofs.Common.{◌≡◌, ◌++◌, [], rules, reverse}
use Rattle.vx_terms.specs.Views.{term}
use Rattle.cs_certificate.specs.Terms.{subterms}
use Rattle.cs_numbers.specs.Forest.{seen}
use Rattle.cs_numbers.proofs.Forest.{forest_one}
use Rattle.cs_numbers.proofs.adding.add.Goals as goal

pub add_all-requires : goal.add_all-requires
add_all-requires c =
    let now : seen c.deref.result.now ≡ [] ++ reverse (subterms (term c.args.t.now.value)) = search rules in
    forest_one (seen c.deref.result.now) (term c.args.t.now.value) now
