-- A record's pieces, one more and one less.
use Rattle.std.proofs.Common.{◌≡◌, ℕ, zero, suc, ◌+◌, ◌-◌, ◌≤◌, Bool, true, false, List, [], ◌∷◌, ◌++◌, length, take, drop, min, refl, sym, ap, ◌∙◌, arith}
use Rattle.std.proofs.lemmas.List.{take_all, take-append-le, drop-append-le, length-drop, take-take, take_min, length-take-le, drop-take, drop-drop}
use Rattle.vx_ends.specs.Cuts.{piece_of, pieces_of, total, cut_last, front_of}
use Rattle.vx_ends.specs.declared.piece.Piece.{Piece}
use Rattle.vx_ends.specs.declared.piece.Piece.TheVariants.{Sent}
use Rattle.vx_ends.specs.declared.record.Cut.{Cut}

-- ---- one more

-- so many bytes are left behind the first cut
rest_counts : (c : Cut) (cs : List Cut) (bytes : List ℕ) → c.len + total cs ≡ length bytes → total cs ≡ length (drop c.len bytes)
rest_counts c cs bytes is = rw (length-drop c.len bytes) (omega arith)

pub total_one_more : (cs : List Cut) (c : Cut) → total (cs ++ c ∷ []) ≡ total cs + c.len
total_one_more [] c = omega arith
total_one_more (x ∷ cs) c = rw (total_one_more cs c) (omega arith)

-- bytes behind those of one piece more
pub one_more : (cs : List Cut) (bytes : List ℕ) (is_sent : Bool) (piece : List ℕ) → total cs ≡ length bytes
    → pieces_of (cs ++ record { is_sent = is_sent; len = length piece } ∷ []) (bytes ++ piece) ≡ pieces_of cs bytes ++ piece_of is_sent piece ∷ []
one_more [] [] is_sent piece is = ap (λ p. piece_of is_sent p ∷ []) (take_all (length piece) piece (omega arith))
one_more [] (b ∷ bytes) is_sent piece is = absurd (omega arith)
one_more (c ∷ cs) bytes is_sent piece is =
    rw (take-append-le c.len bytes piece (omega arith), drop-append-le c.len bytes piece (omega arith), one_more cs (drop c.len bytes) is_sent piece (rest_counts c cs bytes is)) refl

-- ---- the last one is cut

-- the last piece, by its cut
last_piece : (cs : List Cut) (c : Cut) (bytes : List ℕ) → pieces_of (cs ++ c ∷ []) bytes ≡ pieces_of cs bytes ++ piece_of c.is_sent (take c.len (drop (total cs) bytes)) ∷ []
last_piece [] c bytes = refl
last_piece (x ∷ cs) c bytes = rw (last_piece cs c (drop x.len bytes), drop-drop (total cs) x.len bytes) refl

-- bytes behind the pieces don't matter
within : (cs : List Cut) (n : ℕ) (bytes : List ℕ) → pieces_of cs (take (total cs + n) bytes) ≡ pieces_of cs bytes
within [] n bytes = refl
within (c ∷ cs) n bytes =
    let here : take c.len (take (c.len + total cs + n) bytes) ≡ take c.len bytes = take-take c.len (c.len + total cs + n) bytes (omega arith) in
    let behind : drop c.len (take (c.len + (total cs + n)) bytes) ≡ take (total cs + n) (drop c.len bytes) = drop-take c.len (total cs + n) bytes in
    let same : c.len + total cs + n ≡ c.len + (total cs + n) = omega arith in
    rw (here, same, behind, within cs n (drop c.len bytes)) refl

none_more : (xs : List Piece) → xs ++ [] ≡ xs
none_more [] = refl
none_more (x ∷ xs) = ap (λ l. x ∷ l) (none_more xs)

cut_last_one : (n : ℕ) (xs : List Piece) (x : Piece) → cut_last n (xs ++ x ∷ []) ≡ xs ++ front_of n x
cut_last_one n [] x = refl
cut_last_one n (y ∷ []) x = refl
cut_last_one n (y ∷ z ∷ xs) x = ap (λ l. y ∷ l) (cut_last_one n (z ∷ xs) x)

front_of_piece : (n : ℕ) (is_sent : Bool) (bytes : List ℕ) → front_of (suc n) (piece_of is_sent bytes) ≡ piece_of is_sent (take (suc n) bytes) ∷ []
front_of_piece n true bytes = refl
front_of_piece n false bytes = refl

-- so many bytes of the last piece
kept : (d : List ℕ) (len n m : ℕ) → length d ≡ len → m ≡ min len n → take n (take len d) ≡ take m d
kept d len n m long is =
    let least : m ≡ min n (length d) = rw (is, long) (omega arith) in
    rw (take_all len d (omega arith), least) (sym (take_min n d))

module _ (cs : List Cut) (c : Cut) (bytes : List ℕ) (counts : total (cs ++ c ∷ []) ≡ length bytes) where
  in_all : total cs + c.len ≡ length bytes
  in_all = sym (total_one_more cs c) ∙ counts

  before : length bytes - c.len ≡ total cs
  before = let all = in_all in omega arith

  behind : length (drop (total cs) bytes) ≡ c.len
  behind = let all = in_all in rw (length-drop (total cs) bytes) (omega arith)

  -- the last piece keeps some of its bytes, or none
  pub cut_down : (n m : ℕ) → m ≡ min c.len n → (n ≡ 0 → ⊥)
      → pieces_of (cs ++ record { is_sent = c.is_sent; len = m } ∷ []) (take (length bytes - c.len + m) bytes) ≡ cut_last n (pieces_of (cs ++ c ∷ []) bytes)
  cut_down zero m is some = absurd (some refl)
  cut_down (suc n) m is some =
      let rest : drop (total cs) (take (total cs + m) bytes) ≡ take m (drop (total cs) bytes) = drop-take (total cs) m bytes in
      let bytes_kept : take (suc n) (take c.len (drop (total cs) bytes)) ≡ take m (drop (total cs) bytes) = kept (drop (total cs) bytes) c.len (suc n) m behind is in
      rw (
        before,
        last_piece cs (record { is_sent = c.is_sent; len = m }) (take (total cs + m) bytes),
        within cs m bytes,
        rest,
        take-take m m (drop (total cs) bytes) (omega arith),
        last_piece cs c bytes,
        cut_last_one (suc n) (pieces_of cs bytes) (piece_of c.is_sent (take c.len (drop (total cs) bytes))),
        front_of_piece n c.is_sent (take c.len (drop (total cs) bytes)),
        bytes_kept,
      ) refl

  pub cut_off : (m : ℕ) → pieces_of cs (take (length bytes - c.len + m) bytes) ≡ cut_last 0 (pieces_of (cs ++ c ∷ []) bytes)
  cut_off m =
      rw (before, within cs m bytes, last_piece cs c bytes, cut_last_one 0 (pieces_of cs bytes) (piece_of c.is_sent (take c.len (drop (total cs) bytes)))) (sym (none_more (pieces_of cs bytes)))

  pub counts_on : (m : ℕ) → m ≤ c.len → total (cs ++ record { is_sent = c.is_sent; len = m } ∷ []) ≡ length (take (length bytes - c.len + m) bytes)
  counts_on m le = let all = in_all in rw (total_one_more cs (record { is_sent = c.is_sent; len = m }), before, length-take-le (total cs + m) bytes (omega arith)) refl

  pub counts_before : (m : ℕ) → m ≡ min c.len 0 → total cs ≡ length (take (length bytes - c.len + m) bytes)
  counts_before m is = let all = in_all in rw (before, length-take-le (total cs + m) bytes (omega arith)) (omega arith)

-- ---- a piece just sent

pub cut_sent : (n : ℕ) (old sent new : List Piece) (bytes : List ℕ) → sent ≡ old ++ Sent bytes ∷ [] → new ≡ cut_last n sent → (n ≡ 0 → ⊥) → new ≡ old ++ Sent (take n bytes) ∷ []
cut_sent zero old sent new bytes one cut some = absurd (some refl)
cut_sent (suc n) old sent new bytes one cut some = rw (cut, one, cut_last_one (suc n) old (Sent bytes)) refl

pub cut_none : (n : ℕ) (old sent new : List Piece) (x : Piece) → sent ≡ old ++ x ∷ [] → new ≡ cut_last n sent → n ≡ 0 → new ≡ old
cut_none n old sent new x one cut none = rw (cut, none, one, cut_last_one 0 old x) (none_more old)
