-- What a machine has still to do, against the walk through its member's tree.
use Rattle.std.specs.Prelude.{◌≡◌, ℕ, ◌<◌, ◌≤◌, ⊤, length, Bool, true, false, List, [], ◌∷◌, ◌++◌, map, Option, Some, None, slice_get}
use Rattle.vx_ast.specs.Syntax.{Program, Member}
use Rattle.vx_stack.specs.declared.frame.Side.{Side}
use Rattle.vx_stack.specs.declared.question.Query.{Query}
use Rattle.vx_machine.specs.declared.machine.Phase.{Phase}
use Rattle.vx_machine.specs.declared.machine.Phase.TheVariants as phase'
use Rattle.vx_machine.specs.declared.machine.Outcome.{Outcome}
use Rattle.vx_machine.specs.declared.machine.Outcome.TheVariants as outcome'
use Rattle.vx_machine.specs.declared.machine.Ask.{Ask}
use Rattle.vx_machine.specs.declared.machine.Ask.TheVariants as ask'
use Rattle.vx_machine.specs.declared.machine.Machine.{Machine}
use Rattle.vx_machine.specs.declared.run.Came.{Came}
use Rattle.vx_machine.specs.declared.run.Came.TheVariants as came'
use Rattle.vx_machine.specs.declared.run.Found.{Found}
use Rattle.vx_machine.specs.Growth.{without_other, without_last, GoesOn, Adds}
use Rattle.vx_smt_meaning.specs.declared.reply.Reply.{Reply}
use Rattle.vx_smt_meaning.specs.declared.reply.Reply.TheVariants.{Unsat}
use Rattle.vx_terms.specs.Terms.{Term}
use Rattle.vx_grows.specs.Grows.{Grows}
use Rattle.vx_rules.specs.Trees.{Question, Tree, End, Answered, Walked, Passed, Failed, Open, ends, after_answer, asked, probed, walk, walk_then, passed, steps_then}
use Rattle.vx_rules.specs.Members.{tree}
use Rattle.vx_rules.specs.Codes.{code}
use Rattle.vx_stack.specs.Stack.{side_tree, query}

-- the tree of a member by its number in the file
abbrev pub tree_of : Program → Option Member → Tree
tree_of p None = End
tree_of p (Some m) = tree p m.name m.kind

abbrev pub member_tree : Program → ℕ → Tree
member_tree p n = tree_of p (slice_get p n)

-- a question, and then on
abbrev pub asking : Question → (List Reply → Walked) → List Reply → Walked
asking q next [] = ends (Open q)
asking q next (r ∷ rs) = asked q r (next rs)

abbrev pub probing : Question → (refuted otherwise : List Reply → Walked) → List Reply → Walked
probing q refuted otherwise [] = ends (Open q)
probing q refuted otherwise (r ∷ rs) = probed q r (refuted rs) (otherwise rs)

-- the walk with these answers before it
abbrev pub after_answers : List Answered → Walked → Walked
after_answers [] w = w
after_answers (a ∷ as') w = after_answer a.question a.reply (after_answers as' w)

abbrev pub is_spent : Phase → Bool
is_spent phase'.Spent = true
is_spent phase = false

abbrev pub given : Machine → List Reply
given m = m.replies.items

-- a question is open below the limit alone, and due at it
abbrev pub Within : Phase → (limit checks : ℕ) → Type 0
Within phase'.Ready limit checks = checks ≤ limit
Within (phase'.Asked q) limit checks = checks < limit
Within (phase'.Limited q) limit checks = checks ≡ limit
Within phase limit checks = ⊤

module _ (p : Program) where
  -- the walk through the sides of a stack, the last one first
  abbrev pub below : List Side → (List Reply → Walked) → List Reply → Walked
  below [] next = next
  below (a ∷ rest) next = below rest (walk_then (side_tree p a) next)

  abbrev pub remaining : List Side → List Reply → Walked
  remaining sides = below sides passed

  -- the steps of that walk to its next question
  abbrev pub steps_below : List Side → ℕ → ℕ
  steps_below [] left = left
  steps_below (a ∷ rest) left = steps_below rest (steps_then (side_tree p a) left)

  abbrev pub steps_remaining : List Side → ℕ
  steps_remaining sides = steps_below sides 0

  -- an open question over the stack that waits for its reply
  abbrev pub waiting_by : Bool → Question → List Side → List Reply → Walked
  waiting_by false q sides = asking q (remaining sides)
  waiting_by true q sides = probing q (remaining (without_other sides)) (remaining (without_last sides))

  abbrev pub waiting : Query → List Side → List Reply → Walked
  waiting q sides = waiting_by q.probe (query q) sides

  -- from a tree over a stack to a stack, or to a question over a stack
  abbrev pub Turned : Tree → List Side → Came → List Side → Type 0
  Turned t old (came'.Asks q) new = (rs : List Reply) → walk_then t (remaining old) rs ≡ waiting q new rs
  Turned t old came new =
      ((rs : List Reply) → walk_then t (remaining old) rs ≡ remaining new rs) × (steps_remaining new < steps_then t (steps_remaining old))

  -- a turn of a side with this tree: where the walk is then, and that what goes on adds to the paths that the side adds to
  pub record Turns (t : Tree) (old : List Side) (came : Came) (new : List Side) : Type 0 where
    pub walks : Turned t old came new
    pub adds : (base : List Term) → Grows base t → Adds p base came new

  -- from a stack to its next question, or to its end
  abbrev pub RunsTo : List Side → Option Found → List Side → Type 0
  RunsTo old None new = (rs : List Reply) → remaining old rs ≡ passed rs
  RunsTo old (Some found) new = (rs : List Reply) → remaining old rs ≡ waiting found.query new rs

  -- what a machine makes of the replies to come
  abbrev pub coming : Phase → List Side → List Reply → Walked
  coming phase'.Ready sides = remaining sides
  coming (phase'.Asked q) sides = waiting q sides
  coming (phase'.Limited q) sides = waiting q sides
  coming phase'.Passed sides = passed
  coming (phase'.Failed place c r) sides = λ rs. ends (Failed place (code c) r)
  coming phase'.Spent sides = passed

  -- after these replies, one to each question that was asked, the machine is where the walk through this tree is
  pub record IsAt (t : Tree) (phase : Phase) (sides : List Side) (given : List Reply) : Type 0 where
    pub answered : List Answered
    pub replies : map (λ a. a.reply) answered ≡ given
    pub comes : (rs : List Reply) → walk t (given ++ rs) ≡ after_answers answered (coming phase sides rs)

  -- the machine is where the walk through its member's tree is, within its limit, and goes on from what is asked, or was given up
  abbrev pub Follows : Machine → Type 0
  Follows m =
      is_spent m.phase ≡ false →
      IsAt (member_tree p m.member.0) m.phase m.conts.sides.items (given m) × Within m.phase m.limit (length m.replies.items) × GoesOn p m.phase m.conts.sides.items

abbrev pub awaits : Phase → Bool
awaits (phase'.Asked q) = true
awaits phase = false

-- the end that a machine has come to
abbrev pub outcome_of : Phase → (limit : ℕ) → Option Outcome
outcome_of phase'.Passed limit = Some outcome'.Passed
outcome_of (phase'.Failed place c r) limit = Some (outcome'.Failed place c r)
outcome_of (phase'.Limited q) limit = Some (outcome'.Limit limit)
outcome_of phase limit = None

abbrev pub outcome_in : Ask → Option Outcome
outcome_in (ask'.Check q) = None
outcome_in (ask'.Done o) = Some o

abbrev pub is_check : Ask → Bool
is_check (ask'.Check q) = true
is_check (ask'.Done o) = false

-- after a question it is open, and after an end the machine stands there
abbrev pub Shows : Phase → (limit : ℕ) → Ask → Type 0
Shows phase limit ask = (awaits phase ≡ is_check ask) × (outcome_of phase limit ≡ outcome_in ask)

-- what was answered is what the walk over the replies so far says, cut at the limit
abbrev pub Told : Ask → Walked → (limit checks : ℕ) → Type 0
Told (ask'.Check q) w limit checks = (w.ending ≡ Open (query q)) × (checks < limit)
Told (ask'.Done outcome'.Passed) w limit checks = w.ending ≡ Passed
Told (ask'.Done (outcome'.Failed place c r)) w limit checks = w.ending ≡ Failed place (code c) r
Told (ask'.Done (outcome'.Limit n)) w limit checks = (n ≡ checks) × (limit ≡ checks) × ((q : Question) × (w.ending ≡ Open q))

-- the walk asked as many questions as replies were given, and each was answered by its own
abbrev pub EachAnswered : Walked → List Reply → Type 0
EachAnswered w given = map (λ a. a.reply) w.answered ≡ given

abbrev pub option_list : {A : Type 0} → Option A → List A
option_list None = []
option_list (Some x) = x ∷ []

abbrev pub is_unsat : Reply → Bool
is_unsat Unsat = true
is_unsat r = false
