use Rattle.cs_proof.specs.declared.checker.Want.{Want}
use Rattle.cs_derivation.specs.View.{reached}
use Rattle.cs_opposites.proofs.Gained.{took_input, never_input}
use Rattle.cs_opposites.proofs.steps.input.Goals as goal

pub returns-in-Ok-Some : goal.returns-in-Ok-Some
returns-in-Ok-Some c = λ stack cs t h at.
    took_input stack cs (reached c.args.derivation.now) h c.args.place t at Want (reached c.input.new.self) c.in-Ok-Some.field-0 (c.in-Ok-Some.ensures stack h.stands) c.in-Ok-Some.number c.in-Ok-Some.field-0-is

pub returns-in-Ok-None : goal.returns-in-Ok-None
returns-in-Ok-None c = λ stack cs t h at.
    absurd (never_input stack cs (reached c.args.derivation.now) h c.args.place t at Want (reached c.input.new.self) c.in-Ok-None.field-0 (c.in-Ok-None.ensures stack h.stands) c.in-Ok-None.field-0-is)
