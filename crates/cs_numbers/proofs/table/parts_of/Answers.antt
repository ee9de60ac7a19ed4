use Rattle.std.proofs.Common.{Some, sym, ◌∙◌, ap}
use Rattle.vx_terms.specs.Views.{term}
use Rattle.cs_numbers.specs.Listed.{terms_in}
use Rattle.cs_numbers.proofs.Kept.{kept_parts}
use Rattle.cs_numbers.proofs.table.parts_of.Goals as goal

pub returns-in_ok-to_vec-in-Some : goal.returns-in_ok-to_vec-in-Some
returns-in_ok-to_vec-in-Some c =
    kept_parts (terms_in c.args.all.now) (term c.args.t.now) c.args.number c.in-Some.numbers.now c.requires c.in-Some.ensures
    ∙ ap Some (sym (c.in_ok-to_vec-in-Some.ensures.items_if_clones_equal (λ x y e. e)))
