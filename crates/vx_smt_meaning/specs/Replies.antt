-- The replies to the commands, off the bytes got.
use Rattle.std.specs.Prelude.{◌≡◌, ℕ, ◌||◌, Bool, true, false, List, [], ◌∷◌, Option, Some, None, if◌then◌else◌, codes}
use Rattle.std.specs.Str.{bytes_eq}
use Rattle.vx_sexp.specs.declared.token.Kind.TheVariants as kind
use Rattle.vx_sexp.specs.declared.token.Token.{Token}
use Rattle.vx_sexp.specs.declared.token.Token.TheVariants.{Open, Atom}
use Rattle.vx_sexp.specs.First.{IsFirst}
use Rattle.vx_smt_meaning.specs.declared.reply.Reply.{Reply}
use Rattle.vx_smt_meaning.specs.declared.reply.Reply.TheVariants.{Unsat, Sat, Unknown}

abbrev pub reply_of : List ℕ → Option Reply
reply_of bytes =
    if bytes_eq bytes (codes "unsat") then Some Unsat
    else (if bytes_eq bytes (codes "sat") then Some Sat
    else (if bytes_eq bytes (codes "unknown") then Some Unknown else None))

-- the item is this word
abbrev pub is_word_item : List ℕ → List Token → Bool
is_word_item text (Atom kind.Symbol bytes ∷ []) = bytes_eq bytes text
is_word_item text item = false

-- the item is a list that begins with this word
abbrev pub is_headed_by : List ℕ → List Token → Bool
is_headed_by text (Open ∷ Atom kind.Symbol bytes ∷ item) = bytes_eq bytes text
is_headed_by text item = false

-- the command was refused
unfoldable pub is_refusal : List Token → Bool
is_refusal item = is_word_item (codes "unsupported") item || is_headed_by (codes "error") item

-- the answer to a check
abbrev pub answer_of : List Token → Option Reply
answer_of (Atom kind.Symbol bytes ∷ []) = reply_of bytes
answer_of item = None

abbrev pub is_given : Option Reply → Bool
is_given (Some reply) = true
is_given None = false

-- The bytes begin with these s-expressions, one after another, and this follows.
abbrev pub Items : List ℕ → List (List Token) → List ℕ → Type 0
Items bytes [] rest = rest ≡ bytes
Items bytes (item ∷ items) rest = (between : List ℕ) × IsFirst bytes item between × Items between items rest
