use Rattle.std.proofs.Common.{ℕ, take, subst, ◌∙◌}
use Rattle.vx_ends.specs.Talks.{Says}
use Rattle.cs_serve.proofs.Steps.{leaves_whole, leaves_short}
use Rattle.cs_serve.proofs.solver.take_leave.Goals as goal

pub returns-in-Err-clause-ends : goal.returns-in-Err-clause-ends
returns-in-Err-clause-ends g c = λ before given at_end stops.
    let D = g.D.Duplex in
    let old = D.taken c.args.ends.now in
    let new = D.taken c.put_text.new.ends in
    let talk = D.dialogue c.args.ends.now in
    let later = D.dialogue c.put_text.new.ends in
    let says = subst (λ x. (n : ℕ) × Says (take n x) old new talk later) (c.as_bytes.ensures.value ∙ c.farewell.ensures) c.in-Err.ensures.says in
    leaves_short c.args.ending before given old new talk later at_end stops says

pub returns-in-Ok-clause-ends : goal.returns-in-Ok-clause-ends
returns-in-Ok-clause-ends g c = λ before given at_end stops.
    let D = g.D.Duplex in
    let old = D.taken c.args.ends.now in
    let new = D.taken c.put_text.new.ends in
    let talk = D.dialogue c.args.ends.now in
    let later = D.dialogue c.put_text.new.ends in
    let says = subst (λ x. Says x old new talk later) (c.as_bytes.ensures.value ∙ c.farewell.ensures) c.in-Ok.ensures.says in
    leaves_whole c.args.ending before given old new talk later at_end stops says
