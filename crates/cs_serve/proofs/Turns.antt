-- A dialogue in turn goes on.
use Rattle.std.proofs.Common.{◌≡◌, ◌⊎◌, inl, inr, ℕ, List, [], ◌∷◌, ◌++◌, drop, Option, Some, None, IfSome, IsSomeAnd, refl, sym, ap, ◌∙◌, subst, append-nil}
use Rattle.vx_ends.specs.Dialogue.{sent, got, AreSent}
use Rattle.vx_ends.specs.Talks.{talk_on, Talks}
use Rattle.vx_ends.specs.declared.piece.Piece.{Piece}
use Rattle.vx_ends.specs.declared.piece.Piece.TheVariants.{Sent, Got}
use Rattle.vx_ends.proofs.Dialogues.{sent-append, got-append}
use Rattle.cs_serve.specs.Serving.{IsAnswered, IsInTurn}
use Rattle.cs_serve.specs.Working.{IsTalk}

same_front : (x y : Piece) (xs ys : List Piece) → x ∷ xs ≡ y ∷ ys → x ≡ y
same_front x y xs ys is = let e = is in cc

same_rest : (x y : Piece) (xs ys : List Piece) → x ∷ xs ≡ y ∷ ys → xs ≡ ys
same_rest x y xs ys is = let e = is in cc

none_stands : (front rest : List Piece) (x : Piece) → [] ≡ front ++ x ∷ rest → ⊥
none_stands [] rest x is = let e = is in cc
none_stands (f ∷ front) rest x is = let e = is in cc

-- nothing is got yet
pub none_in_turn : IsInTurn []
none_in_turn = λ front piece rest is. absurd (none_stands front rest (Got piece) is)

stood_later : (a f : Piece) (xs front : List Piece) (y : Piece) → a ≡ f → (front ≡ xs) ⊎ ((behind : List Piece) × (xs ≡ front ++ y ∷ behind))
    → (f ∷ front ≡ a ∷ xs) ⊎ ((behind : List Piece) × (a ∷ xs ≡ f ∷ (front ++ y ∷ behind)))
stood_later a f xs front y first (inl same) = inl (let e = first in let t = same in cc)
stood_later a f xs front y first (inr (behind, is)) = inr (behind, let e = first in let t = is in cc)

-- where a piece stands in a list with one piece more: it is that one, or it stood there before
stood : (xs front rest : List Piece) (x y : Piece) → xs ++ x ∷ [] ≡ front ++ y ∷ rest → (front ≡ xs) ⊎ ((behind : List Piece) × (xs ≡ front ++ y ∷ behind))
stood [] [] rest x y is = inl refl
stood [] (f ∷ front) rest x y is = absurd (none_stands front rest y (same_rest x f [] (front ++ y ∷ rest) is))
stood (a ∷ xs) [] rest x y is = inr (xs, ap (λ z. z ∷ xs) (same_front a y (xs ++ x ∷ []) rest is))
stood (a ∷ xs) (f ∷ front) rest x y is =
    let first = same_front a f (xs ++ x ∷ []) (front ++ y ∷ rest) is in
    stood_later a f xs front y first (stood xs front rest x y (same_rest a f (xs ++ x ∷ []) (front ++ y ∷ rest) is))

-- nothing is got among pieces that are sent
none_got : (front rest : List Piece) (piece : List ℕ) → AreSent (front ++ Got piece ∷ rest) → ⊥
none_got [] rest piece e = e
none_got (Sent b ∷ front) rest piece e = none_got front rest piece e
none_got (Got b ∷ front) rest piece e = e

-- a piece that is got stood before the pieces that are sent
stood_got : (xs more front rest : List Piece) (piece : List ℕ) → AreSent more → xs ++ more ≡ front ++ Got piece ∷ rest → (behind : List Piece) × (xs ≡ front ++ Got piece ∷ behind)
stood_got [] more front rest piece sents is = absurd (none_got front rest piece (subst AreSent is sents))
stood_got (a ∷ xs) more [] rest piece sents is = (xs, ap (λ z. z ∷ xs) (same_front a (Got piece) (xs ++ more) rest is))
stood_got (a ∷ xs) more (f ∷ front) rest piece sents is =
    let first = same_front a f (xs ++ more) (front ++ Got piece ∷ rest) is in
    let later = stood_got xs more front rest piece sents (same_rest a f (xs ++ more) (front ++ Got piece ∷ rest) is) in
    (later.0, let e = first in let t = later.1 in cc)

turn_got_by : (pieces front : List Piece) (other : List ℕ) → IsInTurn pieces → IsAnswered (got pieces) (sent pieces)
    → (front ≡ pieces) ⊎ ((behind : List Piece) × (pieces ≡ front ++ Got other ∷ behind)) → IsAnswered (got front) (sent front)
turn_got_by pieces front other turns answered (inl same) = subst (λ x. IsAnswered (got x) (sent x)) (sym same) answered
turn_got_by pieces front other turns answered (inr (behind, is)) = turns front other behind is

-- a piece is got where all is answered
turn_got : (pieces : List Piece) (piece : List ℕ) → IsInTurn pieces → IsAnswered (got pieces) (sent pieces) → IsInTurn (pieces ++ Got piece ∷ [])
turn_got pieces piece turns answered = λ front other rest is. turn_got_by pieces front other turns answered (stood pieces front rest (Got piece) (Got other) is)

-- more is sent
turn_sent : (pieces more : List Piece) → IsInTurn pieces → AreSent more → IsInTurn (pieces ++ more)
turn_sent pieces more turns sents = λ front other rest is.
    let before = stood_got pieces more front rest other sents is in
    turns front other before.0 before.1

got_none : (more : List Piece) → AreSent more → got more ≡ []
got_none [] e = refl
got_none (Sent b ∷ more) e = got_none more e
got_none (Got b ∷ more) e = absurd e

-- ---- where it is told

pub begins_talk : (talk : Option (List Piece)) → talk ≡ Some [] → IsSomeAnd talk (IsTalk [] [])
begins_talk talk is = subst (λ x. IsSomeAnd x (IsTalk [] [])) (sym is) (record { got_is = refl; sent_is = refl; in_turn = none_in_turn })

pub talk_goes_on : (talk later : Option (List Piece)) (all put piece : List ℕ) → later ≡ talk_on talk (Got piece) → IsAnswered all put
    → IsSomeAnd talk (IsTalk all put) → IsSomeAnd later (IsTalk (all ++ piece) put)
talk_goes_on None later all put piece is answered e = absurd e
talk_goes_on (Some pieces) later all put piece is answered talk =
    let answered_here : IsAnswered (got pieces) (sent pieces) = rw (talk.got_is, talk.sent_is) answered in
    subst (λ x. IsSomeAnd x (IsTalk (all ++ piece) put)) (sym is) (record {
      got_is = got-append pieces (Got piece ∷ []) ∙ ap (λ x. got pieces ++ x) (append-nil piece) ∙ ap (λ x. x ++ piece) talk.got_is;
      sent_is = sent-append pieces (Got piece ∷ []) ∙ append-nil (sent pieces) ∙ talk.sent_is;
      in_turn = turn_got pieces piece talk.in_turn answered_here;
    })

pub talk_says : (talk later : Option (List Piece)) (all put now : List ℕ) → IfSome talk (λ pieces. Talks now pieces later)
    → IsSomeAnd talk (IsTalk all put) → IsSomeAnd later (IsTalk all (put ++ now))
talk_says None later all put now says e = absurd e
talk_says (Some pieces) later all put now (more, is, sents, are) talk =
    subst (λ x. IsSomeAnd x (IsTalk all (put ++ now))) (sym is) (record {
      got_is = got-append pieces more ∙ ap (λ x. got pieces ++ x) (got_none more sents) ∙ append-nil (got pieces) ∙ talk.got_is;
      sent_is = sent-append pieces more ∙ ap (λ x. x ++ sent more) talk.sent_is ∙ ap (λ x. put ++ x) are;
      in_turn = turn_sent pieces more talk.in_turn sents;
    })

pub talk_in_turn : (talk : Option (List Piece)) (all put : List ℕ) → IsSomeAnd talk (IsTalk all put) → IsSomeAnd talk IsInTurn
talk_in_turn None all put e = e
talk_in_turn (Some pieces) all put talk = talk.in_turn
