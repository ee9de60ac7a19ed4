use Rattle.vx_heap.specs.Views.{held_term}
use Rattle.vx_states.specs.Keys.{key_of}
use Rattle.vx_states.specs.Index.{down}
use Rattle.vx_states.proofs.Found.{in_front}
use Rattle.vx_states.proofs.index.in_front.Goals as goal

pub returns : goal.returns
returns c = λ level u. rw (c.in_ok-clone.ensures.cases, c.in_ok-more.ensures.ok) (in_front c.args.index.now c.in_ok-copy.field-0 (held_term c.args.t.now) c.in_ok-copy.ensures (down level (key_of u 4)) u)
