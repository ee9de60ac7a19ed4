-- The entries of a path in code.
use Rattle.vx_heap.specs.Views.{held_term}
use Rattle.vx_states.specs.declared.entries.Entry as entry'
use Rattle.vx_rules.specs.States.{Entry}

abbrev pub entry : entry'.Entry → Entry
entry e = record { term = held_term e.term; branch = e.is_branch }
