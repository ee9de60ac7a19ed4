-- The text of a finished certificate is read as its steps.
use Rattle.std.specs.Prelude.{◌≡◌, ℕ, List, map, Some, Ok, ◌++◌}
use Rattle.vx_sexp.specs.declared.token.Token.{Token}
use Rattle.vx_sexp.specs.First.{IsFirst}
use Rattle.vx_terms.specs.Interpretations.{Each}
use Rattle.vx_smt_meaning.specs.Commands.{Declared}
use Rattle.cs_certificate.specs.Certificate.{Stack, Step, IsFinished}
use Rattle.cs_reader.specs.Steps as read
use Rattle.cs_reader.specs.Reading.{certificate_at}
use Rattle.cs_proof.specs.Meant.{all_meant}
use Rattle.cs_commands.specs.Laws.{AreApart}
use Rattle.cs_commands.specs.Following.{HasWord}
use Rattle.cs_text.specs.Text.{certificate_text}
use Rattle.cs_writable.specs.Writable.{IsWritable}

-- no symbol is declared twice, and each has a word of its own
abbrev pub HaveWords : List Declared → Type 0
HaveWords ds = AreApart ds × Each (λ (d : Declared). HasWord d.symbol) ds

-- the tokens of the text are read as these steps over the live symbols, whatever follows
pub record IsReadBack (stack : Stack) (steps : List Step) (text : List ℕ) : Type 0 where
  pub tokens : List Token
  pub first : (rest : List ℕ) → IsFirst (text ++ rest) tokens rest
  pub found : List read.Step
  pub is_read : certificate_at tokens ≡ Ok found
  pub meant : all_meant stack found ≡ map Some steps

abbrev pub WrittenIsReadBack : Type 0
WrittenIsReadBack = (stack : Stack) (steps : List Step) → HaveWords stack.symbols → IsFinished stack steps → Each IsWritable steps → IsReadBack stack steps (certificate_text (map Some steps))
