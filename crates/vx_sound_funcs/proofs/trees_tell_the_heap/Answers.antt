use Rattle.vx_sound_funcs.proofs.Laws.{heap_told, passed_heap}
use Rattle.vx_sound_funcs.proofs.trees_tell_the_heap.Goals as goal

pub returns-clause-told : goal.returns-clause-told
returns-clause-told c = heap_told

pub returns-clause-passed : goal.returns-clause-passed
returns-clause-passed c = passed_heap
