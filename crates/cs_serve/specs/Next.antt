-- Where the first s-expression of some bytes ends.
use Rattle.std.specs.Prelude.{ℕ, List, ◌++◌}
use Rattle.vx_sexp.specs.declared.reading.Reading.{Reading}
use Rattle.vx_sexp.specs.Beginnings.{GoesOn, IsBeginning}
use Rattle.vx_sexp.specs.Pieces.{Reached}
use Rattle.cs_session.specs.Answering.{EndsAt}
use Rattle.cs_serve.specs.declared.next.Next.{Next}
use Rattle.cs_serve.specs.declared.next.Next.TheVariants.{Ends, Waits, Bad}

abbrev pub IsNext : Next → List ℕ → Type 0
IsNext (Ends n) bytes = EndsAt n bytes
IsNext Waits bytes = IsBeginning bytes
IsNext Bad bytes = GoesOn bytes → ⊥

-- Behind an s-expression nothing of what follows is looked at; where bytes are wanted, what is there was looked at.
abbrev pub IsReady : Next → Reading → List ℕ → Type 0
IsReady (Ends n) r bytes = (others : List ℕ) → Reached r others
IsReady Waits r bytes = (more : List ℕ) → Reached r (bytes ++ more)
IsReady Bad r bytes = Unit {0}
