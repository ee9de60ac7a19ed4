use Rattle.std.proofs.Common.{◌≤◌, ◌-◌, refl, ap, sym, subst}
use Rattle.vx_dialogue.specs.Bases.{standing}
use Rattle.vx_dialogue.specs.Dialogue.{scope_of}
use Rattle.vx_verifier.proofs.Children.{entries_are}
use Rattle.vx_verifier.proofs.Standing.{standing_within, path_goes_on}
use Rattle.vx_verifier.proofs.line.path_for.Goals as goal

pub overflow_sub-new : goal.overflow_sub-new
overflow_sub-new g c =
    subst (λ n. n ≤ c.args.query.now.count) (sym c.standing.ensures) (standing_within c.args.query.now (standing (scope_of c.args.dialogue.now)) (c.requires c.if-stays.true))

pub returns-then-stays : goal.returns-then-stays
returns-then-stays g c =
    path_goes_on c.args.query.now (standing (scope_of c.args.dialogue.now)) c.in_ok-newest.field-0.items _ (c.requires c.if-stays.true) (ap (λ n. c.args.query.now.count - n) c.standing.ensures) c.in_ok-newest.ensures

pub returns : goal.returns
returns g c = entries_are c.in_ok-entries.field-0.items c.in_ok-entries.field-0.items _ refl c.in_ok-entries.ensures
