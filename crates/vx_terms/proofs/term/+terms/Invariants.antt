use Rattle.std.proofs.Common.{◌≤◌}
use Rattle.vx_terms.specs.declared.term.Term.{size-Term}
use Rattle.vx_terms.specs.declared.term.Terms.{size-Terms}
use Rattle.vx_terms.proofs.term.+terms.Given as goal

-- what is still to be let go is no more than the whole
abbrev pub invariant-Term::drop-loop-self : goal.invariant-Term::drop-loop-self
invariant-Term::drop-loop-self l = size-Term l.self ≤ size-Term l.fn.self

abbrev pub invariant-Terms::drop-loop-self : goal.invariant-Terms::drop-loop-self
invariant-Terms::drop-loop-self l = size-Terms l.self ≤ size-Terms l.fn.self
