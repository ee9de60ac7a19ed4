-- A machine follows the walk.
use Rattle.std.proofs.Common.{◌≡◌, List, [], ◌∷◌, ◌++◌, Bool, true, false, cond, Some, None, refl, sym, ap, subst, map, ◌∙◌, append_assoc, append-nil}
use Rattle.std.proofs.lemmas.List.{map-append}
use Rattle.vx_ast.specs.Syntax.{Program}
use Rattle.vx_stack.specs.declared.frame.Side.{Side}
use Rattle.vx_stack.specs.declared.question.Query.{Query}
use Rattle.vx_machine.specs.declared.machine.Phase.{Phase}
use Rattle.vx_machine.specs.declared.machine.Phase.TheVariants as phase'
use Rattle.vx_machine.specs.declared.machine.Ask.{Ask}
use Rattle.vx_machine.specs.declared.machine.Ask.TheVariants as ask'
use Rattle.vx_machine.specs.declared.machine.Machine.{Machine}
use Rattle.vx_smt_meaning.specs.declared.reply.Reply.{Reply}
use Rattle.vx_smt_meaning.specs.declared.reply.Reply.TheVariants.{Unsat, Sat, Unknown}
use Rattle.vx_rules.specs.Trees.{Question, Tree, Answered, Walked, Failed, Open, after_answer, walk, ends}
use Rattle.vx_rules.specs.Codes.{code}
use Rattle.vx_stack.specs.Stack.{query}
use Rattle.vx_machine.specs.declared.run.Found.{Found}
use Rattle.vx_machine.specs.Growth.{without_other, without_last, AsksFrom, Stays, IsOpen, GoesOn, GoesOnBy}
use Rattle.vx_machine.specs.Runs.{remaining, waiting_by, RunsTo, after_answers, coming, IsAt, Within, Follows, given, is_spent, is_unsat, member_tree, EachAnswered}

after_answers-more : (as' : List Answered) (a : Answered) (w : Walked) → after_answers (as' ++ a ∷ []) w ≡ after_answers as' (after_answer a.question a.reply w)
after_answers-more [] a w = refl
after_answers-more (b ∷ as') a w = ap (after_answer b.question b.reply) (after_answers-more as' a w)

after_answers-ending : (as' : List Answered) (w : Walked) → (after_answers as' w).ending ≡ w.ending
after_answers-ending [] w = refl
after_answers-ending (a ∷ as') w = after_answers-ending as' w

after_answers-answered : (as' : List Answered) (w : Walked) → w.answered ≡ [] → (after_answers as' w).answered ≡ as'
after_answers-answered [] w e = e
after_answers-answered (a ∷ as') w e = ap (λ l. a ∷ l) (after_answers-answered as' w e)

replies-more : (as' : List Answered) (a : Answered) (given : List Reply) → map (λ x. x.reply) as' ≡ given → map (λ x. x.reply) (as' ++ a ∷ []) ≡ given ++ a.reply ∷ []
replies-more as' a given e = map-append (λ x. x.reply) as' (a ∷ []) ∙ ap (λ l. l ++ a.reply ∷ []) e

module _ (p : Program) (t : Tree) (given : List Reply) where
  -- run has found the end
  pub at_end : (old new : List Side) → IsAt p t phase'.Ready old given → RunsTo p old None new → IsAt p t phase'.Passed new given
  at_end old new h r = record { answered = h.answered; replies = h.replies; comes = λ rs. h.comes rs ∙ ap (after_answers h.answered) (r rs) }

  -- run has found a question
  pub at_question : (old new : List Side) (f : Found) (k : Query) → IsAt p t phase'.Ready old given → RunsTo p old (Some f) new → query k ≡ query f.query → IsAt p t (phase'.Asked k) new given
  at_question old new f k h r e = record {
    answered = h.answered;
    replies = h.replies;
    comes = λ rs. h.comes rs ∙ ap (after_answers h.answered) (r rs ∙ ap (λ (x : Question). waiting_by p x.probe (query f.query) new rs) (sym e) ∙ ap (λ x. waiting_by p k.probe x new rs) (sym e));
  }

  pub at_limit : (old new : List Side) (f : Found) → IsAt p t phase'.Ready old given → RunsTo p old (Some f) new → IsAt p t (phase'.Limited f.query) new given
  at_limit old new f h r = record { answered = h.answered; replies = h.replies; comes = λ rs. h.comes rs ∙ ap (after_answers h.answered) (r rs) }

  walked_now : (phase : Phase) (sides : List Side) → (h : IsAt p t phase sides given) → walk t given ≡ after_answers h.answered (coming p phase sides [])
  walked_now phase sides h = ap (walk t) (sym (append-nil given)) ∙ h.comes []

  -- what the walk over the replies so far ends in
  pub ending_now : (phase : Phase) (sides : List Side) → IsAt p t phase sides given → (walk t given).ending ≡ (coming p phase sides []).ending
  ending_now phase sides h = ap (λ w. w.ending) (walked_now phase sides h) ∙ after_answers-ending h.answered (coming p phase sides [])

  -- each of its questions was answered by its own reply
  pub answered_now : (phase : Phase) (sides : List Side) → IsAt p t phase sides given → (coming p phase sides []).answered ≡ [] → EachAnswered (walk t given) given
  answered_now phase sides h e =
      ap (λ w. map (λ a. a.reply) w.answered) (walked_now phase sides h) ∙ ap (map (λ a. a.reply)) (after_answers-answered h.answered (coming p phase sides []) e) ∙ h.replies

-- where it stays, what is asked goes on from the question that was handed out
pub asks_on : (phase : Phase) (asked : Query) (ask : Ask) → IsOpen phase (ask'.Check asked) → Stays phase ask → AsksFrom (query asked).path ask
asks_on (phase'.Asked q) asked ask e h = subst (λ (x : Question). AsksFrom x.path ask) e h
asks_on phase'.Ready asked ask e h = absurd h
asks_on (phase'.Limited q) asked ask e h = absurd h
asks_on phase'.Passed asked ask e h = absurd h
asks_on (phase'.Failed place c r) asked ask e h = absurd h
asks_on phase'.Spent asked ask e h = absurd h

-- an open question comes to no more
pub waiting_ends : (p : Program) (b : Bool) (q : Question) (sides : List Side) → waiting_by p b q sides [] ≡ ends (Open q)
waiting_ends p false q sides = refl
waiting_ends p true q sides = refl

-- one more answered question
at_more : (p : Program) (t : Tree) (given : List Reply) (before after : Phase) (sides new : List Side) (a : Answered) → ((rs : List Reply) → coming p before sides (a.reply ∷ rs) ≡ after_answer a.question a.reply (coming p after new rs)) → IsAt p t before sides given → IsAt p t after new (given ++ a.reply ∷ [])
at_more p t given before after sides new a e h = record {
  answered = h.answered ++ a ∷ [];
  replies = replies-more h.answered a given h.replies;
  comes = λ rs.
      ap (walk t) (append_assoc given (a.reply ∷ []) rs) ∙ h.comes (a.reply ∷ rs) ∙ ap (after_answers h.answered) (e rs)
      ∙ sym (after_answers-more h.answered a (coming p after new rs));
}

module _ (p : Program) (t : Tree) (given : List Reply) (sides : List Side) (q : Query) where
  refuted_by : (b : Bool) (r : Reply) (rs : List Reply) → b ≡ false → is_unsat r ≡ true → waiting_by p b (query q) sides (r ∷ rs) ≡ after_answer (query q) r (remaining p sides rs)
  refuted_by false Unsat rs e f = refl
  refuted_by false Sat rs e f = cc
  refuted_by false Unknown rs e f = cc
  refuted_by true r rs e f = cc

  -- the open question was refuted
  pub at_refuted : (r : Reply) → q.probe ≡ false → is_unsat r ≡ true → IsAt p t (phase'.Asked q) sides given → IsAt p t phase'.Ready sides (given ++ r ∷ [])
  at_refuted r e f h = at_more p t given (phase'.Asked q) phase'.Ready sides sides record { question = query q; reply = r } (λ rs. refuted_by q.probe r rs e f) h

  failed_by : (b : Bool) (r : Reply) (rs : List Reply) → b ≡ false → is_unsat r ≡ false → waiting_by p b (query q) sides (r ∷ rs) ≡ after_answer (query q) r (ends (Failed q.place (code q.code) r))
  failed_by false Unsat rs e f = cc
  failed_by false Sat rs e f = refl
  failed_by false Unknown rs e f = refl
  failed_by true r rs e f = cc

  -- the open question was not refuted
  pub at_failed : (r : Reply) → q.probe ≡ false → is_unsat r ≡ false → IsAt p t (phase'.Asked q) sides given → IsAt p t (phase'.Failed q.place q.code r) sides (given ++ r ∷ [])
  at_failed r e f h = at_more p t given (phase'.Asked q) (phase'.Failed q.place q.code r) sides sides record { question = query q; reply = r } (λ rs. failed_by q.probe r rs e f) h

  chosen_by : (b : Bool) (r : Reply) (rs : List Reply) → b ≡ true → waiting_by p b (query q) sides (r ∷ rs) ≡ after_answer (query q) r (remaining p (cond (is_unsat r) (without_other sides) (without_last sides)) rs)
  chosen_by false r rs e = cc
  chosen_by true Unsat rs e = refl
  chosen_by true Sat rs e = refl
  chosen_by true Unknown rs e = refl

  -- the open probe was answered
  pub at_chosen : (r : Reply) (new : List Side) → q.probe ≡ true → new ≡ cond (is_unsat r) (without_other sides) (without_last sides) → IsAt p t (phase'.Asked q) sides given → IsAt p t phase'.Ready new (given ++ r ∷ [])
  at_chosen r new e n h =
      subst (λ l. IsAt p t phase'.Ready l (given ++ r ∷ [])) (sym n)
      (at_more p t given (phase'.Asked q) phase'.Ready sides (cond (is_unsat r) (without_other sides) (without_last sides)) record { question = query q; reply = r } (λ rs. chosen_by q.probe r rs e) h)

module _ (p : Program) where
  pub follows_at : (m : Machine) (phase : Phase) → m.phase ≡ phase → is_spent phase ≡ false → Follows p m → IsAt p (member_tree p m.member.0) phase m.conts.sides.items (given m)
  follows_at m phase e s h = subst (λ x. IsAt p (member_tree p m.member.0) x m.conts.sides.items (given m)) e (h (ap is_spent e ∙ s)).0

  pub within_at : (m : Machine) (phase : Phase) → m.phase ≡ phase → is_spent phase ≡ false → Follows p m → Within phase m.limit (Rattle.std.specs.Prelude.length m.replies.items)
  within_at m phase e s h = subst (λ x. Within x m.limit (Rattle.std.specs.Prelude.length m.replies.items)) e (h (ap is_spent e ∙ s)).1

  pub goes_on_at : (m : Machine) (phase : Phase) → m.phase ≡ phase → is_spent phase ≡ false → Follows p m → GoesOn p phase m.conts.sides.items
  goes_on_at m phase e s h = subst (λ x. GoesOn p x m.conts.sides.items) e (h (ap is_spent e ∙ s)).2

  -- the same question once more
  pub goes_on_same : (q k : Query) (sides : List Side) → query k ≡ query q → GoesOn p (phase'.Asked q) sides → GoesOn p (phase'.Asked k) sides
  goes_on_same q k sides e h = subst (λ (x : Question). GoesOnBy p x.probe x.path sides) (sym e) h

  -- a longer list of replies
  pub given_more : (t : Tree) (phase : Phase) (sides : List Side) (old new : List Reply) (r : Reply) → new ≡ old ++ r ∷ [] → IsAt p t phase sides (old ++ r ∷ []) → IsAt p t phase sides new
  given_more t phase sides old new r e h = subst (λ l. IsAt p t phase sides l) (sym e) h

  pub at_start : (t : Tree) (sides : List Side) → ((rs : List Reply) → walk t rs ≡ remaining p sides rs) → IsAt p t phase'.Ready sides []
  at_start t sides f = record { answered = []; replies = refl; comes = f }
