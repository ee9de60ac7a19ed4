-- What happens in a lane, as its worker and its talker both tell it.
use Rattle.std.specs.Prelude.{◌≡◌, ⊤, Bool, true, false, List, [], ◌∷◌, ◌++◌, Option, Some, None}
use Rattle.vx_smt_meaning.specs.declared.reply.Reply.{Reply}
use Rattle.vx_terms.specs.Terms.{Term}
use Rattle.vx_rules.specs.Trees.{Question}
use Rattle.vx_grows.specs.Grows.{Begins}
use Rattle.vx_stack.specs.Stack.{query}
use Rattle.vx_pool.specs.declared.next.Next.{Next}
use Rattle.vx_pool.specs.declared.next.Next.TheVariants as next
use Rattle.vx_pool.specs.declared.stop.Stop.{Stop}
use Rattle.vx_pool.specs.declared.stop.Stop.TheVariants as stop

-- a question was answered; a question was lost, by this cause: it has no reply; a member was left
pub data Event (F : Type 0) : Type 0 where
  Answered : Question → Reply → Event F
  Lost : Question → F → Event F
  Left : Event F

-- the path that stands behind these events: that of the question answered last; none behind a loss or a leaving, where all is asked anew
abbrev pub standing : {F : Type 0} → List (Event F) → List Term
standing [] = []
standing (Answered q r ∷ []) = q.path
standing (Lost q cause ∷ []) = []
standing (Left ∷ []) = []
standing (first ∷ second ∷ events) = standing (second ∷ events)

-- a question that stays goes on from the path that stands
abbrev pub GoesOn : {F : Type 0} → List (Event F) → Question → (stays : Bool) → Type 0
GoesOn events q stays = stays ≡ true → Begins (standing events) q.path

-- these events, and behind them the reply to the question that was open, where one came
abbrev pub with_answer : {F : Type 0} → List (Event F) → Option Reply → Option Question → List (Event F)
with_answer events None asked = events
with_answer events (Some r) (Some q) = events ++ Answered q r ∷ []
with_answer events (Some r) None = events

-- these events, and behind them that the question that was open was lost, by this cause
abbrev pub with_loss : {F : Type 0} → List (Event F) → Option Question → F → List (Event F)
with_loss events None cause = events
with_loss events (Some q) cause = events ++ Lost q cause ∷ []

-- these events, and behind them that the member was left, where it is left next
abbrev pub with_leaving : {F : Type 0} → List (Event F) → Next → List (Event F)
with_leaving events (next.Question q stays) = events
with_leaving events next.Left = events ++ Left ∷ []
with_leaving events next.End = events

-- the question that comes next
abbrev pub question_in : Next → Option Question
question_in (next.Question q stays) = Some (query q)
question_in next.Left = None
question_in next.End = None

-- whether the end comes next
abbrev pub is_end : Next → Bool
is_end (next.Question q stays) = false
is_end next.Left = false
is_end next.End = true

-- this is so of the question that comes next, and of whether it stays, if one does
abbrev pub IfQuestion : Next → (Question → Bool → Type 0) → Type 0
IfQuestion (next.Question q stays) P = P (query q) stays
IfQuestion next.Left P = ⊤
IfQuestion next.End P = ⊤

-- this is so of the cause of a fault; where memory ran out nothing is said
abbrev pub IfFault : {F : Type 0} → Stop F → (F → Type 0) → Type 0
IfFault (stop.Fault cause) P = P cause
IfFault stop.Want P = ⊤
