use Rattle.std.proofs.Common.{[], refl}
use Rattle.cs_proof.specs.declared.checker.Want.{Want}
use Rattle.cs_derivation.specs.View.{reached}
use Rattle.cs_opposites.proofs.Gained.{took_empty, never_empty}
use Rattle.cs_opposites.proofs.steps.empty.Goals as goal

pub returns-in-Ok-Some : goal.returns-in-Ok-Some
returns-in-Ok-Some c = λ stack cs h by.
    (took_empty stack cs (reached c.args.derivation.now) h [] refl c.args.hints.now by Want (reached c.propagate.new.self) c.in-Ok-Some.field-0 (c.in-Ok-Some.ensures stack h.stands) c.in-Ok-Some.field-0-0 c.in-Ok-Some.field-0-is).has

pub returns-in-Ok-None : goal.returns-in-Ok-None
returns-in-Ok-None c = λ stack cs h by.
    absurd (never_empty stack cs (reached c.args.derivation.now) h [] refl c.args.hints.now by Want (reached c.propagate.new.self) c.in-Ok-None.field-0 (c.in-Ok-None.ensures stack h.stands) c.in-Ok-None.field-0-is)
