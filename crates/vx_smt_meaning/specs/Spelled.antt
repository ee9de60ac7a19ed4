-- Which bytes spell which commands.
use Rattle.std.specs.Prelude.{◌≡◌, ℕ, true, List, [], ◌∷◌}
use Rattle.vx_sexp.specs.Tokens.{Lexes, is_space}
use Rattle.vx_sexp.specs.Scanning.{next, Unfinished}
use Rattle.vx_sexp.specs.First.{Begins}
use Rattle.vx_smt_meaning.specs.Commands.{Command}
use Rattle.vx_smt_meaning.specs.Words.{command_tokens}
use Rattle.vx_sexp.specs.declared.token.Token.{Token}

-- The bytes are these commands, one after another, and then only space.
abbrev pub Spells : List ℕ → List Command → Type 0
Spells bytes [] = is_space bytes ≡ true
Spells bytes (c ∷ cs) = (rest : List ℕ) × Lexes bytes (command_tokens c) rest × Spells rest cs

-- and perhaps a beginning of one more
abbrev pub SpellsSome : List ℕ → List Command → Type 0
SpellsSome bytes [] = (tokens : List Token) × (rest : List ℕ) × Begins bytes tokens rest × (next rest ≡ Unfinished)
SpellsSome bytes (c ∷ cs) = (rest : List ℕ) × Lexes bytes (command_tokens c) rest × SpellsSome rest cs
