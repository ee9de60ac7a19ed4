use Rattle.std.proofs.Common.{◌≡◌, ◌≤◌}
use Rattle.vx_terms.specs.Terms.{same, same_all}
use Rattle.vx_terms.specs.Views.{term, terms}
use Rattle.vx_terms.specs.declared.term.Term.{size-Term}
use Rattle.vx_terms.specs.declared.term.Terms.{size-Terms}
use Rattle.vx_terms.proofs.term.+same.Given as goal

-- the two are the same where what is left of them is
abbrev pub invariant-Term::is_same-loop-left : goal.invariant-Term::is_same-loop-left
invariant-Term::is_same-loop-left l =
    (size-Term l.left ≤ size-Term l.fn.self) × (same (term l.left) (term l.right) ≡ same (term l.fn.self) (term l.fn.other))

abbrev pub invariant-Terms::is_same-loop-left : goal.invariant-Terms::is_same-loop-left
invariant-Terms::is_same-loop-left l =
    (size-Terms l.left ≤ size-Terms l.fn.self) × (same_all (terms l.left) (terms l.right) ≡ same_all (terms l.fn.self) (terms l.fn.other))
