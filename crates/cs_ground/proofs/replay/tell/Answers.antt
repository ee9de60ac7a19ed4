use Rattle.std.proofs.Common.{◌∙◌}
use Rattle.cs_proof.specs.declared.checker.Want.{Want}
use Rattle.cs_derivation.specs.View.{reached}
use Rattle.cs_ground.proofs.Replayed.{told_by, never_none}
use Rattle.cs_ground.proofs.replay.tell.Goals as goal

pub returns-in-Ok-Some : goal.returns-in-Ok-Some
returns-in-Ok-Some c = λ stack clauses f l.
    told_by stack c.args.atoms.now (reached c.args.derivation.now) clauses f c.args.literals.now c.args.hints.now.numbers.items l Want (reached c.propagate.new.self) c.in-Ok-Some.field-0 c.deref.result.now c.deref-2.result.now
    (c.deref.ensures.value ∙ c.in_ok-literals.ensures) (c.deref-2.ensures.value ∙ c.in_ok-hints.ensures.made) (c.in-Ok-Some.ensures stack f.stands) c.in-Ok-Some.field-0-0 c.in-Ok-Some.field-0-is

pub returns-in-Ok-None : goal.returns-in-Ok-None
returns-in-Ok-None c = λ stack clauses f l.
    absurd (never_none stack c.args.atoms.now (reached c.args.derivation.now) clauses f c.args.literals.now c.args.hints.now.numbers.items l Want (reached c.propagate.new.self) c.in-Ok-None.field-0 c.deref.result.now c.deref-2.result.now
    (c.deref.ensures.value ∙ c.in_ok-literals.ensures) (c.deref-2.ensures.value ∙ c.in_ok-hints.ensures.made) (c.in-Ok-None.ensures stack f.stands) c.in-Ok-None.field-0-is)
