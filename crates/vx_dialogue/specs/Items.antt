-- The items that are got, one after another.
use Rattle.std.specs.Prelude.{◌≡◌, ℕ, ◌+◌, ◌<◌, ◌≤◌, ◌⊎◌, List, [], ◌∷◌, ◌++◌, length, take, if◌then◌else◌, codes, Bool, true, false, not}
use Rattle.vx_smt_meaning.specs.Replies.{is_word_item, is_refusal, answer_of, is_given}
use Rattle.vx_dialogue.specs.declared.item.Wanted.{Wanted}
use Rattle.vx_dialogue.specs.declared.item.Wanted.TheVariants as wanted
use Rattle.vx_sexp.specs.declared.token.Token.{Token}
use Rattle.vx_sexp.specs.declared.reader.SexpFault.TheVariants as sexp
use Rattle.vx_dialogue.specs.declared.talk.Talk.{Talk}
use Rattle.vx_dialogue.specs.declared.talk.Talk.TheVariants as talk
use Rattle.vx_sexp.specs.Characters.{is_blank}
use Rattle.vx_sexp.specs.First.{IsFirst, Faults}

-- the most bytes of an item, with the blanks before it
abbrev pub longest : ℕ
longest = 16777216

-- The first expression of the bytes, and what follows it. It has at most so many bytes, with all that stands before it.
pub record IsItem (bytes : List ℕ) (item : List Token) (rest : List ℕ) : Type 0 where
  pub first : IsFirst bytes item rest
  pub short : length bytes ≤ longest + length rest

-- The bytes begin with these items, one after another, and this follows.
abbrev pub ShortItems : List ℕ → List (List Token) → List ℕ → Type 0
ShortItems bytes [] rest = rest ≡ bytes
ShortItems bytes (item ∷ items) rest = (between : List ℕ) × IsItem bytes item between × ShortItems between items rest

-- What is got meanwhile stands behind what is not read yet.
abbrev pub Keeps : List ℕ → List ℕ → List ℕ → List ℕ → Type 0
Keeps got_old unread_old got_new unread_new = (more : List ℕ) × (got_new ≡ got_old ++ more) × (unread_new ≡ unread_old ++ more)

-- One item is read, of what was not read and what is got meanwhile.
abbrev pub ReadsItem : List ℕ → List ℕ → List ℕ → List ℕ → List Token → Type 0
ReadsItem got_old unread_old got_new unread_new item = (more : List ℕ) × (got_new ≡ got_old ++ more) × IsItem (unread_old ++ more) item unread_new

-- No expression begins the bytes: a bad token, a list too deep, or too long without an end.
abbrev pub IsNoExpression : List ℕ → Type 0
IsNoExpression bytes = ((at : ℕ) × Faults (sexp.BadToken at) bytes) ⊎ ((at : ℕ) × Faults (sexp.Deep at) bytes) ⊎ ((longest < length bytes) × (at : ℕ) × Faults (sexp.Unfinished at) bytes)

-- The first item is not at its end, and more can be got of it.
abbrev pub IsOpenYet : List ℕ → Type 0
IsOpenYet bytes = (length bytes ≤ longest) × (at : ℕ) × Faults (sexp.Unfinished at) bytes

-- the lawful replies
unfoldable pub is_lawful : Wanted → List Token → Bool
is_lawful wanted.Success item = is_word_item (codes "success") item
is_lawful wanted.Answer item = is_given (answer_of item)
is_lawful wanted.Proof item = not (is_refusal item)

-- the bytes from the first that is no blank on
abbrev pub without_blanks : List ℕ → List ℕ
without_blanks [] = []
without_blanks (b ∷ bs) = if is_blank b then without_blanks bs else (b ∷ bs)

-- what is kept of bytes that are no lawful reply: at most the first 4096, without the blanks before them
abbrev pub kept_of : List ℕ → List ℕ
kept_of bytes = take 4096 (without_blanks bytes)

-- The bytes begin with this text, which is an expression, but too long for an item.
abbrev pub IsTooLong : List ℕ → List ℕ → Type 0
IsTooLong bytes text = (item : List Token) × (rest : List ℕ) × IsFirst bytes item rest × (bytes ≡ text ++ rest) × (longest < length text)

-- No item begins the bytes: no expression, or one that is too long. So much is kept of it.
abbrev pub IsNoItem : List ℕ → List ℕ → Type 0
IsNoItem bytes kept = (IsNoExpression bytes × (kept ≡ kept_of bytes)) ⊎ ((text : List ℕ) × IsTooLong bytes text × (kept ≡ kept_of text))

-- The bytes begin with this text, which is an item with this property.
abbrev pub BeginsWith : List ℕ → List ℕ → (List Token → Type 0) → Type 0
BeginsWith bytes text P = (item : List Token) × (rest : List ℕ) × IsItem bytes item rest × (bytes ≡ text ++ rest) × P item

-- What begins the bytes is no lawful reply: no item, or another one that is no refusal. So much is kept of it.
abbrev pub IsGarbled : Wanted → List ℕ → List ℕ → Type 0
IsGarbled w bytes kept = IsNoItem bytes kept
    ⊎ ((text : List ℕ) × BeginsWith bytes text (λ item. (is_lawful w item ≡ false) × (is_refusal item ≡ false)) × (kept ≡ kept_of text))

-- What begins the bytes says that the command was refused. So much is kept of it.
abbrev pub IsRefused : List ℕ → List ℕ → Type 0
IsRefused bytes kept = (text : List ℕ) × BeginsWith bytes text (λ item. is_refusal item ≡ true) × (kept ≡ kept_of text)

-- What is got meanwhile stands behind what was not read, and what begins these bytes has this property.
abbrev pub Meets : List ℕ → List ℕ → List ℕ → (List ℕ → Type 0) → Type 0
Meets got_old unread_old got_new P = (more : List ℕ) × (got_new ≡ got_old ++ more) × P (unread_old ++ more)

-- what is told of bytes that begin with no item
abbrev pub TellsNoItem : Talk → List ℕ → Type 0
TellsNoItem (talk.Garbled kept) bytes = IsNoItem bytes kept
TellsNoItem (talk.Refused kept) bytes = ⊥
TellsNoItem talk.Pipe bytes = ⊥
TellsNoItem talk.Want bytes = Unit {0}
TellsNoItem talk.Closed bytes = ⊥

-- what is told of bytes that begin with no lawful reply
abbrev pub TellsNoReply : Talk → Wanted → List ℕ → Type 0
TellsNoReply (talk.Garbled kept) w bytes = IsGarbled w bytes kept
TellsNoReply (talk.Refused kept) w bytes = IsRefused bytes kept
TellsNoReply talk.Pipe w bytes = ⊥
TellsNoReply talk.Want w bytes = Unit {0}
TellsNoReply talk.Closed w bytes = ⊥

-- what is told of an item, by whether it is a refusal
abbrev pub IsUnlawful : Talk → Bool → List ℕ → Type 0
IsUnlawful (talk.Garbled kept) refusal text = (refusal ≡ false) × (kept ≡ text)
IsUnlawful (talk.Refused kept) refusal text = (refusal ≡ true) × (kept ≡ text)
IsUnlawful talk.Pipe refusal text = ⊥
IsUnlawful talk.Want refusal text = Unit {0}
IsUnlawful talk.Closed refusal text = ⊥

-- why no item is given: what comes next is none, or isn't at its end yet where the pipe failed
abbrev pub GivesNoItem : Talk → List ℕ → List ℕ → List ℕ → Type 0
GivesNoItem (talk.Garbled kept) got_old unread_old got_new = Meets got_old unread_old got_new (λ bytes. IsNoItem bytes kept)
GivesNoItem (talk.Refused kept) got_old unread_old got_new = ⊥
GivesNoItem talk.Pipe got_old unread_old got_new = Meets got_old unread_old got_new IsOpenYet
GivesNoItem talk.Want got_old unread_old got_new = Unit {0}
GivesNoItem talk.Closed got_old unread_old got_new = ⊥

-- why no lawful reply is given: what comes next is none, or isn't at its end yet where the pipe failed
abbrev pub GivesNoReply : Talk → Wanted → List ℕ → List ℕ → List ℕ → Type 0
GivesNoReply (talk.Garbled kept) w got_old unread_old got_new = Meets got_old unread_old got_new (λ bytes. IsGarbled w bytes kept)
GivesNoReply (talk.Refused kept) w got_old unread_old got_new = Meets got_old unread_old got_new (λ bytes. IsRefused bytes kept)
GivesNoReply talk.Pipe w got_old unread_old got_new = Meets got_old unread_old got_new IsOpenYet
GivesNoReply talk.Want w got_old unread_old got_new = Unit {0}
GivesNoReply talk.Closed w got_old unread_old got_new = ⊥
