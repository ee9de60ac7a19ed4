-- What goes on only adds to a path.
use Rattle.std.proofs.Common.{◌≡◌, Bool, true, false, List, [], ◌∷◌, ◌++◌, refl, sym, ap, subst, ◌∙◌, append_assoc}
use Rattle.vx_ast.specs.Syntax.{Program}
use Rattle.vx_terms.specs.Terms.{Term}
use Rattle.vx_grows.specs.Grows.{Begins, Grows}
use Rattle.vx_rules.specs.Trees.{Question, Tree}
use Rattle.vx_stack.specs.declared.frame.Side.{Side}
use Rattle.vx_stack.specs.declared.question.Query.{Query}
use Rattle.vx_stack.specs.declared.conts.Move.TheVariants as move'
use Rattle.vx_stack.specs.Stack.{side_tree, query, Checked, Stepped}
use Rattle.vx_machine.specs.declared.run.Came.TheVariants as came'
use Rattle.vx_machine.specs.Growth.{without_other, without_last, TopGrows, GoesOnBy, Adds}
use Rattle.vx_machine.proofs.Walks.{without_other-two, without_last-two}

abbrev last_of : Side → List Side → Side
last_of d [] = d
last_of d (a ∷ sides) = last_of a sides

last_of-push : (sides : List Side) (d a : Side) → last_of d (sides ++ a ∷ []) ≡ a
last_of-push [] d a = refl
last_of-push (b ∷ sides) d a = last_of-push sides b a

same_last : (old front : List Side) (a b : Side) → old ++ a ∷ [] ≡ front ++ b ∷ [] → a ≡ b
same_last old front a b e = sym (last_of-push old a a) ∙ ap (last_of a) e ∙ last_of-push front a b

module _ (p : Program) where
  -- a side that only adds to a path is on top
  top_one : (base : List Term) (old new : List Side) (a : Side) → new ≡ old ++ a ∷ [] → Grows base (side_tree p a) → TopGrows p base new
  top_one base old new a e g = λ front b f. subst (λ (x : Side). Grows base (side_tree p x)) (same_last old front a b (sym e ∙ f)) g

  pub adds_go : (t : Tree) (old new : List Side) → Stepped p t old move'.Go new → (base : List Term) → Grows base t → Adds p base came'.On new
  adds_go t old new h base g = top_one base old new h.0 h.1 (subst (Grows base) h.2 g)

  -- of a fork the first side is on top
  pub adds_fork : (t : Tree) (old new : List Side) → Stepped p t old move'.Fork new → (base : List Term) → Grows base t → Adds p base came'.On new
  adds_fork t old new h base g =
      let both : Grows base (side_tree p h.0) × Grows base (side_tree p h.1) = subst (Grows base) h.3 g in
      top_one base (old ++ h.1 ∷ []) new h.0 (h.2 ∙ sym (append_assoc old (h.1 ∷ []) (h.0 ∷ []))) both.0

  checked_adds : (c : Bool) (t : Tree) (old new : List Side) (q : Question) → Checked p c t old q new → (base : List Term) → Grows base t → Begins base q.path × GoesOnBy p c q.path new
  checked_adds false t old new q h base g =
      let asked : Begins base q.path × Grows q.path (side_tree p h.0) = subst (Grows base) h.2 g in
      (asked.0, top_one q.path old new h.0 h.1 asked.1)
  checked_adds true t old new q h base g =
      let asked : Begins base q.path × Grows q.path (side_tree p h.0) × Grows q.path (side_tree p h.1) = subst (Grows base) h.3 g in
      let refuted : without_other new ≡ old ++ h.0 ∷ [] = ap without_other h.2 ∙ without_other-two old h.1 h.0 in
      let otherwise : without_last new ≡ old ++ h.1 ∷ [] = ap without_last h.2 ∙ without_last-two old h.1 h.0 in
      (asked.0, (top_one q.path old (without_other new) h.0 refuted asked.1, top_one q.path old (without_last new) h.1 otherwise asked.2))

  pub adds_check : (t : Tree) (old new : List Side) (q : Query) → Stepped p t old (move'.Check q) new → (base : List Term) → Grows base t → Adds p base (came'.Asks q) new
  adds_check t old new q h base g = checked_adds q.probe t old new (query q) h base g
