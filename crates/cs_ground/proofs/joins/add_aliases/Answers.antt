use Rattle.std.proofs.lemmas.Option.{slice_get-get_or}
use Rattle.cs_derivation.specs.View.{reached}
use Rattle.cs_ground.proofs.Collected.{AliasAt, first_none, next_alias, all_aliases}
use Rattle.cs_ground.proofs.joins.add_aliases.Goals as goal

pub loop-alias-init : goal.loop-alias-init
loop-alias-init c = λ stack h. first_none (AliasAt c.args.aliases.now) stack (reached c.args.derivation.now) h

pub loop-alias-preserved : goal.loop-alias-preserved
loop-alias-preserved c = λ stack h.
    next_alias c.args.aliases.now c.loop-alias.alias-index _ stack (reached c.args.derivation.now) (reached c.loop-alias.derivation) (reached c.add_alias.new.derivation) (slice_get-get_or c.args.aliases.now c.loop-alias.alias-index _ c.loop-alias-test.true) (c.loop-alias.invariant stack h) (c.in_ok-add_alias.ensures stack)

pub returns : goal.returns
returns c = λ stack h.
    all_aliases c.args.aliases.now c.loop-alias.alias-index stack (reached c.args.derivation.now) (reached c.loop-alias.derivation) c.loop-alias-test.false (c.loop-alias.invariant stack h)
