use Rattle.std.proofs.Common.{◌+◌, List, [], length, take}
use Rattle.cs_certificate.specs.Certificate.{Stack}
use Rattle.cs_certificate.specs.declared.literal.Clause.{Clause}
use Rattle.cs_derivation.specs.View.{reached}
use Rattle.cs_search.specs.Search.{Learns}
use Rattle.cs_ground.specs.Atoms.{literals}
use Rattle.cs_ground.specs.Replayed.{Follows}
use Rattle.cs_ground.proofs.replay.tell_all.Given as goal

abbrev pub invariant-loop-hints : goal.invariant-loop-hints
invariant-loop-hints l =
    (stack : Stack) (first : List Clause) → Follows stack l.atoms (literals first) (reached l.initial.derivation) → Learns first [] l.clauses l.steps → Follows stack l.atoms (literals (take (length first + l.hints-index) l.clauses)) (reached l.derivation)
