-- Literals of the first terms are literals of more.
use Rattle.std.proofs.Common.{ℕ, ◌≤◌, List, arith}
use Rattle.std.specs.Prelude.{All}
use Rattle.cs_certificate.specs.declared.literal.Clause.{Clause}
use Rattle.cs_certificate.specs.declared.literal.Literal.{Literal}
use Rattle.cs_certificate.specs.Marks.{IsBelow}
use Rattle.cs_proof.specs.declared.prepare.Duty.{Duty}
use Rattle.cs_proof.specs.Views.{IsFit, IsFitClause}

below : (m n : ℕ) → m ≤ n → (ls : List Literal) → All (IsBelow m) ls → All (IsBelow n) ls
below m n le ls h = λ k d lt. (let x = h k d lt in omega arith)

pub weaker_clauses : (m n : ℕ) (cs : List Clause) → m ≤ n → All (IsFitClause m) cs → All (IsFitClause n) cs
weaker_clauses m n cs le h = λ k d lt. below m n le _ (h k d lt)

pub weaker_duties : (m n : ℕ) (ds : List Duty) → m ≤ n → All (IsFit m) ds → All (IsFit n) ds
weaker_duties m n ds le h = λ k d lt. below m n le _ (h k d lt)
