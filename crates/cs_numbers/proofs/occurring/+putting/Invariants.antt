use Rattle.std.proofs.Common.{◌+◌, ◌*◌}
use Rattle.vx_terms.specs.declared.term.Term.{size-Term}
use Rattle.vx_terms.specs.declared.term.Terms.{size-Terms}
use Rattle.cs_numbers.proofs.occurring.+putting.Given as goal

-- a term's parts come after it, and each of them has its own parts
abbrev pub decreases-put : goal.decreases-put
decreases-put l = 2 * size-Term l.t.now.value + 1

abbrev pub decreases-put_inner : goal.decreases-put_inner
decreases-put_inner l = 2 * size-Term l.t.now

abbrev pub decreases-put_list : goal.decreases-put_list
decreases-put_list l = 2 * size-Terms l.parts.now.value
