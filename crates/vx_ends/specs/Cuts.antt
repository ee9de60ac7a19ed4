-- How the pieces of a record are kept: their bytes one behind the other, and cut by their lengths.
use Rattle.std.specs.Prelude.{ℕ, zero, suc, ◌+◌, Bool, true, false, List, [], ◌∷◌, take, drop}
use Rattle.vx_ends.specs.declared.piece.Piece.{Piece}
use Rattle.vx_ends.specs.declared.piece.Piece.TheVariants.{Sent, Got}
use Rattle.vx_ends.specs.declared.record.Cut.{Cut}

abbrev pub piece_of : (is_sent : Bool) → List ℕ → Piece
piece_of true bytes = Sent bytes
piece_of false bytes = Got bytes

abbrev pub pieces_of : List Cut → List ℕ → List Piece
pieces_of [] bytes = []
pieces_of (c ∷ cs) bytes = piece_of c.is_sent (take c.len bytes) ∷ pieces_of cs (drop c.len bytes)

-- how many bytes they have in all
abbrev pub total : List Cut → ℕ
total [] = 0
total (c ∷ cs) = c.len + total cs

-- the first so many bytes of a piece, which is gone where they are none
abbrev pub front_of : ℕ → Piece → List Piece
front_of zero x = []
front_of (suc n) (Sent bytes) = Sent (take (suc n) bytes) ∷ []
front_of (suc n) (Got bytes) = Got (take (suc n) bytes) ∷ []

-- the last piece keeps its first so many bytes
abbrev pub cut_last : ℕ → List Piece → List Piece
cut_last n [] = []
cut_last n (x ∷ []) = front_of n x
cut_last n (x ∷ y ∷ xs) = x ∷ cut_last n (y ∷ xs)
