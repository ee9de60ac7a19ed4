use Rattle.std.proofs.Common.{◌≡◌}
use Rattle.vx_terms.specs.Terms.{sort_of}
use Rattle.vx_terms.specs.Views.{term}
use Rattle.vx_terms.proofs.term.Term.sort.Given as goal

-- the sort is that of the part
abbrev pub invariant-loop-part : goal.invariant-loop-part
invariant-loop-part l = sort_of (term l.part) ≡ sort_of (term l.fn.self)
