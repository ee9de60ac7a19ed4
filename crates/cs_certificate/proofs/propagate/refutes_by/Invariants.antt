use Rattle.std.proofs.Common.{◌≡◌, ◌+◌, List, take, drop}
use Rattle.cs_certificate.specs.declared.literal.Literal.{Literal}
use Rattle.cs_certificate.specs.Hints.{refutes}
use Rattle.cs_certificate.specs.Marks.{terms_in, rounds_in, AreMarked}
use Rattle.cs_certificate.proofs.propagate.refutes_by.Given as goal

abbrev pub invariant-loop-literal : goal.invariant-loop-literal
invariant-loop-literal l = record {
  marked : AreMarked l.marks (take l.literal-index l.assumed);
  terms : terms_in l.marks ≡ terms_in l.fn.marks;
  rounds : rounds_in l.marks ≡ rounds_in l.fn.marks + 1;
}

abbrev pub invariant-loop-hint : goal.invariant-loop-hint
invariant-loop-hint l = record {
  known : List Literal;
  marked : AreMarked l.marks known;
  same : refutes l.clauses l.assumed l.hints ≡ refutes l.clauses known (drop l.hint-index l.hints);
  terms : terms_in l.marks ≡ terms_in l.fn.marks;
  rounds : rounds_in l.marks ≡ rounds_in l.fn.marks + 1;
}
