-- The steps that a certificate stands for, over the live symbols.
use Rattle.std.specs.Prelude.{List, map, Option, Some}
use Rattle.std.specs.Option.{option_map}
use Rattle.vx_sexp.specs.declared.token.Token.{Token}
use Rattle.vx_smt_meaning.specs.Commands.{Declared}
use Rattle.cs_certificate.specs.Certificate.{Stack, Step, Input, NewTerm, Define, Pick, Chain, Congruence, Farkas, Split, Trichotomy, Divide, Propagate}
use Rattle.cs_reader.specs.Steps as read
use Rattle.cs_reader.specs.Spelling.{among, spelled}
use Rattle.cs_proof.specs.Views.{numbered}

-- a `term` step of the term that the tokens spell, if there is one
abbrev pub new_term : List Declared → List Token → Option Step
new_term symbols tokens = option_map NewTerm (spelled (among symbols) tokens)

abbrev pub meant : List Declared → read.Step → Option Step
meant symbols (read.Input n) = Some (Input n)
meant symbols (read.NewTerm tokens) = new_term symbols tokens
meant symbols (read.Define n k) = Some (Define n k)
meant symbols (read.Pick n k) = Some (Pick n k)
meant symbols (read.Chain ns) = Some (Chain ns)
meant symbols (read.Congruence m n) = Some (Congruence m n)
meant symbols (read.Farkas ls ms) = Some (Farkas (map numbered ls) ms)
meant symbols (read.Split n z) = Some (Split n z)
meant symbols (read.Trichotomy m n) = Some (Trichotomy m n)
meant symbols (read.Divide m n k) = Some (Divide m n k)
meant symbols (read.Propagate ls hs) = Some (Propagate (map numbered ls) hs)

abbrev pub all_meant : Stack → List read.Step → List (Option Step)
all_meant stack steps = map (meant stack.symbols) steps
