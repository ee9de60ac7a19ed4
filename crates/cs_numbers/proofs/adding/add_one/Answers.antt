use Rattle.std.proofs.Common.{◌≡◌, rules, Some, None}
use Rattle.vx_terms.specs.Views.{term}
use Rattle.cs_numbers.specs.Listed.{terms_in}
use Rattle.cs_numbers.specs.Numbering.{place}
use Rattle.cs_numbers.proofs.Kept.{one_known, one_new, at_last}
use Rattle.cs_numbers.proofs.adding.add_one.Goals as goal

pub returns-in-Some-clause-terms : goal.returns-in-Some-clause-terms
returns-in-Some-clause-terms c =
    let is : place (terms_in c.args.all.now) (term c.args.t.now.of.value) ≡ Some c.in-Some.number = search rules in
    one_known (terms_in c.args.all.now) (term c.args.t.now.of.value) c.in-Some.number is

pub returns-clause-terms : goal.returns-clause-terms
returns-clause-terms c =
    let is : place (terms_in c.args.all.now) (term c.args.t.now.of.value) ≡ None = search rules in
    one_new (terms_in c.args.all.now) (terms_in c.push.new.all) (term c.args.t.now.of.value) is c.in_ok-number.ensures.terms

pub returns-clause-number : goal.returns-clause-number
returns-clause-number c =
    let is : place (terms_in c.args.all.now) (term c.args.t.now.of.value) ≡ None = search rules in
    at_last (terms_in c.args.all.now) (terms_in c.push.new.all) (term c.args.t.now.of.value) c.in_ok-number.number is c.in_ok-number.ensures.terms c.in_ok-number.ensures.number
