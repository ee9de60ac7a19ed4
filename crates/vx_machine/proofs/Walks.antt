-- Walks through stacks.
use Rattle.std.proofs.Common.{◌≡◌, ℕ, ◌+◌, ◌<◌, Bool, true, false, List, [], ◌∷◌, ◌++◌, refl, sym, ap, subst, ◌∙◌, arith}
use Rattle.vx_ast.specs.Syntax.{Program}
use Rattle.vx_stack.specs.declared.frame.Side.{Side}
use Rattle.vx_stack.specs.declared.question.Query.{Query}
use Rattle.vx_stack.specs.declared.conts.Left.{Left as Left'}
use Rattle.vx_stack.specs.declared.conts.Move.TheVariants as move'
use Rattle.vx_smt_meaning.specs.declared.reply.Reply.{Reply}
use Rattle.vx_rules.specs.States.{State}
use Rattle.vx_rules.specs.Trees.{Question, Tree, Impossible, Ask, Probe, Walked, walk_then, passed, steps_then}
use Rattle.vx_stack.specs.Stack.{side_tree, query, Checked, Stepped}
use Rattle.vx_machine.specs.declared.run.Came.TheVariants as came'
use Rattle.vx_machine.specs.Growth.{without_other, without_last}
use Rattle.vx_machine.specs.Runs.{asking, probing, below, remaining, steps_below, steps_remaining, waiting_by, Turned}

pub without_last-push : (sides : List Side) (a : Side) → without_last (sides ++ a ∷ []) ≡ sides
without_last-push [] a = refl
without_last-push (b ∷ []) a = refl
without_last-push (c ∷ b ∷ sides) a = ap (λ l. c ∷ l) (without_last-push (b ∷ sides) a)

pub without_last-two : (sides : List Side) (b a : Side) → without_last (sides ++ b ∷ a ∷ []) ≡ sides ++ b ∷ []
without_last-two [] b a = refl
without_last-two (c ∷ []) b a = refl
without_last-two (d ∷ c ∷ sides) b a = ap (λ l. d ∷ l) (without_last-two (c ∷ sides) b a)

pub without_other-two : (sides : List Side) (b a : Side) → without_other (sides ++ b ∷ a ∷ []) ≡ sides ++ a ∷ []
without_other-two [] b a = refl
without_other-two (c ∷ []) b a = refl
without_other-two (d ∷ c ∷ []) b a = refl
without_other-two (e ∷ d ∷ c ∷ sides) b a = ap (λ l. e ∷ l) (without_other-two (d ∷ c ∷ sides) b a)

module _ (p : Program) where
  -- the side on top is walked first
  pub below-push : (sides : List Side) (a : Side) (next : List Reply → Walked) → below p (sides ++ a ∷ []) next ≡ walk_then (side_tree p a) (below p sides next)
  below-push [] a next = refl
  below-push (b ∷ sides) a next = below-push sides a (walk_then (side_tree p b) next)

  steps_below-push : (sides : List Side) (a : Side) (left : ℕ) → steps_below p (sides ++ a ∷ []) left ≡ steps_then (side_tree p a) (steps_below p sides left)
  steps_below-push [] a left = refl
  steps_below-push (b ∷ sides) a left = steps_below-push sides a (steps_then (side_tree p b) left)

  below-two : (sides : List Side) (b a : Side) (next : List Reply → Walked) → below p (sides ++ b ∷ a ∷ []) next ≡ walk_then (side_tree p a) (walk_then (side_tree p b) (below p sides next))
  below-two [] b a next = refl
  below-two (c ∷ sides) b a next = below-two sides b a (walk_then (side_tree p c) next)

  steps_below-two : (sides : List Side) (b a : Side) (left : ℕ) → steps_below p (sides ++ b ∷ a ∷ []) left ≡ steps_then (side_tree p a) (steps_then (side_tree p b) (steps_below p sides left))
  steps_below-two [] b a left = refl
  steps_below-two (c ∷ sides) b a left = steps_below-two sides b a (steps_then (side_tree p c) left)

  -- a side that can't be leaves what is below it
  pub turned_impossible : (t : Tree) (old : List Side) (z : State) → t ≡ Impossible z → Turned p t old came'.Over old
  turned_impossible t old z h =
      let s : steps_then t (steps_remaining p old) ≡ steps_remaining p old + 1 = ap (λ x. steps_then x (steps_remaining p old)) h in
      ((λ rs. ap (λ x. walk_then x (remaining p old) rs) h), omega arith)

  -- so does one that ends with a value
  pub turned_leave : (t : Tree) (old new : List Side) (l : Left') → Stepped p t old (move'.Leave l) new → Turned p t old came'.Over new
  turned_leave t old new l h =
      let s : steps_then t (steps_remaining p old) ≡ steps_remaining p old + 1 = ap (λ x. steps_then x (steps_remaining p old)) h.1 in
      let l : steps_remaining p new ≡ steps_remaining p old = ap (steps_remaining p) h.0 in
      ((λ rs. ap (λ x. walk_then x (remaining p old) rs) h.1 ∙ ap (λ l. remaining p l rs) (sym h.0)), omega arith)

  -- a side that ends leaves what is below it
  pub turned_end : (t : Tree) (old new : List Side) → Stepped p t old move'.End new → Turned p t old came'.Over new
  turned_end t old new h =
      let s : steps_then t (steps_remaining p old) ≡ steps_remaining p old + 1 = ap (λ x. steps_then x (steps_remaining p old)) h.1 in
      let l : steps_remaining p new ≡ steps_remaining p old = ap (steps_remaining p) h.0 in
      ((λ rs. ap (λ x. walk_then x (remaining p old) rs) h.1 ∙ ap (λ l. remaining p l rs) (sym h.0)), omega arith)

  pub turned_go : (t : Tree) (old new : List Side) → Stepped p t old move'.Go new → Turned p t old came'.On new
  turned_go t old new h =
      let after : ℕ = steps_then (side_tree p h.0) (steps_remaining p old) in
      let s : steps_then t (steps_remaining p old) ≡ after + 1 = ap (λ x. steps_then x (steps_remaining p old)) h.2 in
      let l : steps_remaining p new ≡ after = ap (steps_remaining p) h.1 ∙ steps_below-push old h.0 0 in
      ((λ rs. ap (λ x. walk_then x (remaining p old) rs) h.2 ∙ ap (λ f. f rs) (sym (ap (remaining p) h.1 ∙ below-push old h.0 passed))), omega arith)

  pub turned_fork : (t : Tree) (old new : List Side) → Stepped p t old move'.Fork new → Turned p t old came'.On new
  turned_fork t old new h =
      let after : ℕ = steps_then (side_tree p h.0) (steps_then (side_tree p h.1) (steps_remaining p old)) in
      let s : steps_then t (steps_remaining p old) ≡ after + 1 = ap (λ x. steps_then x (steps_remaining p old)) h.3 in
      let l : steps_remaining p new ≡ after = ap (steps_remaining p) h.2 ∙ steps_below-two old h.1 h.0 0 in
      ((λ rs. ap (λ x. walk_then x (remaining p old) rs) h.3 ∙ ap (λ f. f rs) (sym (ap (remaining p) h.2 ∙ below-two old h.1 h.0 passed))), omega arith)

  asked_as : (q : Question) (t : Tree) (next : List Reply → Walked) (rs : List Reply) → walk_then (Ask q t) next rs ≡ asking q (walk_then t next) rs
  asked_as q t next [] = refl
  asked_as q t next (r ∷ rs) = refl

  probed_as : (q : Question) (a b : Tree) (next : List Reply → Walked) (rs : List Reply) → walk_then (Probe q a b) next rs ≡ probing q (walk_then a next) (walk_then b next) rs
  probed_as q a b next [] = refl
  probed_as q a b next (r ∷ rs) = refl

  turned_check : (c : Bool) (t : Tree) (old new : List Side) (q : Question) → Checked p c t old q new → (rs : List Reply) → walk_then t (remaining p old) rs ≡ waiting_by p c q new rs
  turned_check false t old new q h rs =
      ap (λ x. walk_then x (remaining p old) rs) h.2 ∙ asked_as q (side_tree p h.0) (remaining p old) rs
      ∙ ap (λ f. asking q f rs) (sym (ap (remaining p) h.1 ∙ below-push old h.0 passed))
  turned_check true t old new q h rs =
      let refuted : remaining p (without_other new) ≡ walk_then (side_tree p h.0) (remaining p old) =
      ap (λ l. remaining p (without_other l)) h.2 ∙ ap (remaining p) (without_other-two old h.1 h.0) ∙ below-push old h.0 passed in
      let otherwise : remaining p (without_last new) ≡ walk_then (side_tree p h.1) (remaining p old) =
      ap (λ l. remaining p (without_last l)) h.2 ∙ ap (remaining p) (without_last-two old h.1 h.0) ∙ below-push old h.1 passed in
      ap (λ x. walk_then x (remaining p old) rs) h.3 ∙ probed_as q (side_tree p h.0) (side_tree p h.1) (remaining p old) rs
      ∙ ap (λ f. probing q f (walk_then (side_tree p h.1) (remaining p old)) rs) (sym refuted)
      ∙ ap (λ f. probing q (remaining p (without_other new)) f rs) (sym otherwise)

  pub turned_ask : (t : Tree) (old new : List Side) (q : Query) → Stepped p t old (move'.Check q) new → Turned p t old (came'.Asks q) new
  turned_ask t old new q h rs = turned_check q.probe t old new (query q) h rs

  pub popped : (before rest : List Side) (a : Side) → before ≡ rest ++ a ∷ [] → (rs : List Reply) → remaining p before rs ≡ walk_then (side_tree p a) (remaining p rest) rs
  popped before rest a e rs = ap (λ l. remaining p l rs) e ∙ ap (λ f. f rs) (below-push rest a passed)

  pub popped_fewer : (before rest new : List Side) (a : Side) → before ≡ rest ++ a ∷ [] → steps_remaining p new < steps_then (side_tree p a) (steps_remaining p rest) → steps_remaining p new < steps_remaining p before
  popped_fewer before rest new a e h = subst (λ n. steps_remaining p new < n) (sym (ap (steps_remaining p) e ∙ steps_below-push rest a 0)) h
