-- What keeps a steady link from failing: whenever a reply is awaited, one is owed.
use Rattle.std.specs.Prelude.{◌≡◌, ℕ, ◌+◌, ◌≤◌, Bool, IsTrue, List, length}
use Rattle.vx_ends.specs.declared.piece.Piece.{Piece}
use Rattle.vx_ends.specs.Dialogue.{sent, got}
use Rattle.vx_sexp.specs.declared.token.Token.{Token}
use Rattle.vx_sexp.specs.Finished.{finished}
use Rattle.vx_smt_meaning.specs.Replies.{Items}

-- the link is steady, and none of its calls has failed
abbrev pub IsSteady : {L : Type 0} → (steady : L → Bool) → (faults : L → ℕ) → L → Type 0
IsSteady steady faults link = IsTrue (steady link) × (faults link ≡ 0)

-- What was got is some items and the bytes that are not read; so many expressions more were sent, at least.
abbrev pub Owes : ℕ → List Piece → (unread : List ℕ) → Type 0
Owes n pieces unread = (items : List (List Token)) × Items (got pieces) items unread × (length items + n ≤ finished (sent pieces))
