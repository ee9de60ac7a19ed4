-- The events of a lane, one behind the other.
use Rattle.std.proofs.Common.{◌≡◌, ℕ, ◌||◌, Bool, true, false, ◌++◌, ◌∷◌, [], List, refl, ap, ◌∙◌, sym, subst, append_assoc}
use Rattle.vx_terms.specs.Terms.{Term}
use Rattle.vx_smt_meaning.specs.declared.reply.Reply.{Reply}
use Rattle.vx_ends.specs.declared.piece.Ending.{Ending}
use Rattle.vx_rules.specs.Trees.{Question, Answered}
use Rattle.vx_pool.specs.Events.{Event, standing}
use Rattle.vx_pool.specs.Events as event
use Rattle.vx_report.specs.declared.run.Cause.{Cause}
use Rattle.vx_dialogue.specs.Turns.{Asks}
use Rattle.vx_verifier.specs.Headline.{left_turn}
use Rattle.vx_verifier.specs.Lanes.{tried_turn, turns_in, answered_in, has_lost, has_asked, AreCaused}

pub or_false : (b : Bool) → (b || false) ≡ b
or_false true = refl
or_false false = refl

pub or_true : (b : Bool) → (b || true) ≡ true
or_true true = refl
or_true false = refl

pub or_assoc : (a b c : Bool) → (a || (b || c)) ≡ ((a || b) || c)
or_assoc true b c = refl
or_assoc false b c = refl

pub answered_join : (xs ys : List (Event Cause)) → answered_in (xs ++ ys) ≡ answered_in xs ++ answered_in ys
answered_join [] ys = refl
answered_join (event.Answered q r ∷ xs) ys = ap (λ (l : List Answered). record { question = q; reply = r } ∷ l) (answered_join xs ys)
answered_join (event.Lost q x ∷ xs) ys = answered_join xs ys
answered_join (event.Left ∷ xs) ys = answered_join xs ys

pub lost_join : (xs ys : List (Event Cause)) → has_lost (xs ++ ys) ≡ (has_lost xs || has_lost ys)
lost_join [] ys = refl
lost_join (event.Answered q r ∷ xs) ys = lost_join xs ys
lost_join (event.Lost q x ∷ xs) ys = refl
lost_join (event.Left ∷ xs) ys = lost_join xs ys

pub asked_join : (xs ys : List (Event Cause)) → has_asked (xs ++ ys) ≡ (has_asked xs || has_asked ys)
asked_join [] ys = refl
asked_join (event.Answered q r ∷ xs) ys = refl
asked_join (event.Lost q x ∷ xs) ys = refl
asked_join (event.Left ∷ xs) ys = asked_join xs ys

pub turns_join : (lost : Bool) (xs ys : List (Event Cause)) → turns_in lost (xs ++ ys) ≡ turns_in lost xs ++ turns_in (lost || has_lost xs) ys
turns_join lost [] ys = ap (λ b. turns_in b ys) (sym (or_false lost))
turns_join lost (event.Answered q r ∷ xs) ys = ap (λ l. Asks q.path q.condition ∷ l) (turns_join lost xs ys)
turns_join lost (event.Lost q x ∷ xs) ys =
    ap (λ l. tried_turn lost q ++ l) (turns_join true xs ys)
    ∙ (sym (append_assoc (tried_turn lost q) (turns_in true xs) (turns_in true ys)) ∙ ap (λ b. (tried_turn lost q ++ turns_in true xs) ++ turns_in b ys) (sym (or_true lost)))
turns_join lost (event.Left ∷ xs) ys =
    ap (λ l. left_turn lost ++ l) (turns_join lost xs ys) ∙ sym (append_assoc (left_turn lost) (turns_in lost xs) (turns_in (lost || has_lost xs) ys))

module _ (links : List Ending) (f g : ℕ) where
  pub caused_split : (lost : Bool) (xs ys : List (Event Cause)) → AreCaused links f g lost (xs ++ ys) → AreCaused links f g lost xs × AreCaused links f g (lost || has_lost xs) ys
  caused_split lost [] ys c = (tt, subst (λ b. AreCaused links f g b ys) (sym (or_false lost)) c)
  caused_split lost (event.Answered q r ∷ xs) ys c = let rest = caused_split lost xs ys c.1 in ((c.0, rest.0), rest.1)
  caused_split lost (event.Lost q x ∷ xs) ys c =
      let rest = caused_split true xs ys c.1 in ((c.0, rest.0), subst (λ b. AreCaused links f g b ys) (sym (or_true lost)) rest.1)
  caused_split lost (event.Left ∷ xs) ys c = caused_split lost xs ys c

pub standing_behind : (xs : List (Event Cause)) (q : Question) (r : Reply) → standing (xs ++ event.Answered q r ∷ []) ≡ q.path
standing_behind [] q r = refl
standing_behind (event.Answered q' r' ∷ []) q r = refl
standing_behind (event.Lost q' x ∷ []) q r = refl
standing_behind (event.Left ∷ []) q r = refl
standing_behind (x ∷ y ∷ xs) q r = standing_behind (y ∷ xs) q r
