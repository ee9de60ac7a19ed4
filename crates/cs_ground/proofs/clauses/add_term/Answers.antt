use Rattle.cs_derivation.specs.View.{reached}
use Rattle.cs_ground.specs.Steps.{IsRowOf, IsPickOf}
use Rattle.cs_ground.proofs.Collected.{then_collects}
use Rattle.cs_ground.proofs.clauses.add_term.Goals as goal

pub returns : goal.returns
returns c = λ stack h.
    then_collects (IsRowOf c.args.t) (IsPickOf c.args.t) stack (reached c.args.derivation.now) (reached c.add_rows.new.derivation) (reached c.add_picks.new.derivation) (c.in_ok-add_rows.ensures stack h) (c.in_ok-add_picks.ensures stack)
