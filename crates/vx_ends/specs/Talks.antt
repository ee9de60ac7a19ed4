-- What the calls of both ends add to their dialogue, where it is told.
use Rattle.std.specs.Prelude.{◌≡◌, ℕ, List, [], ◌∷◌, ◌++◌, take, Option, Some, None, Result, Ok, Err, IfSome, Vec}
use Rattle.std.specs.declared.alloc.Global.{Global}
use Rattle.vx_ends.specs.Dialogue.{sent, AreSent}
use Rattle.vx_ends.specs.declared.piece.Piece.{Piece}
use Rattle.vx_ends.specs.declared.piece.Piece.TheVariants.{Sent, Got}

-- one piece more
abbrev pub talk_on : Option (List Piece) → Piece → Option (List Piece)
talk_on (Some pieces) piece = Some (pieces ++ piece ∷ [])
talk_on None piece = None

-- a read adds the piece that it gave, also the empty one at the end; at a fault nothing
abbrev pub talk_got : {E : Type 0} → Option (List Piece) → Result (Vec ℕ Global) E → Option (List Piece)
talk_got talk (Ok piece) = talk_on talk (Got piece.items)
talk_got talk (Err _) = talk

-- a put adds what it took; at a fault nothing
abbrev pub talk_sent : {E : Type 0} → Option (List Piece) → List ℕ → Result ℕ E → Option (List Piece)
talk_sent talk piece (Ok count) = talk_on talk (Sent (take count piece))
talk_sent talk piece (Err _) = talk

-- Nothing but sent pieces was added, and they are this text.
abbrev pub Talks : List ℕ → List Piece → Option (List Piece) → Type 0
Talks text old new = (more : List Piece) × (new ≡ Some (old ++ more)) × AreSent more × (sent more ≡ text)

-- A text is put: it stands behind what was taken before, and behind what the dialogue was.
pub record Says (text : List ℕ) (taken_old taken_new : Option (List ℕ)) (talk_old talk_new : Option (List Piece)) : Type 0 where
  pub taken : IfSome taken_old (λ bytes. taken_new ≡ Some (bytes ++ text))
  pub talks : IfSome talk_old (λ pieces. Talks text pieces talk_new)

-- What is put is all of the text, or some of its beginning.
abbrev pub SaysSome : {T E : Type 0} → List ℕ → Option (List ℕ) → Option (List ℕ) → Option (List Piece) → Option (List Piece) → Result T E → Type 0
SaysSome text taken_old taken_new talk_old talk_new (Ok _) = Says text taken_old taken_new talk_old talk_new
SaysSome text taken_old taken_new talk_old talk_new (Err _) = (n : ℕ) × Says (take n text) taken_old taken_new talk_old talk_new
