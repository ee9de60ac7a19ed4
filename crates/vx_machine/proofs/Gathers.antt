-- What the sides of a stack leave, step by step.
use Rattle.std.proofs.Common.{◌≡◌, ◌+◌, ◌<◌, Bool, true, false, List, [], ◌∷◌, ◌++◌, refl, sym, ap, ◌∙◌, arith, append_assoc, append-nil}
use Rattle.vx_ast.specs.Syntax.{Program}
use Rattle.vx_machine.specs.Told.{leaves_below, left_by, nodes, nodes_below, Leaves}
use Rattle.vx_rules.specs.Rules.{gathered}
use Rattle.vx_rules.specs.States.{State}
use Rattle.vx_rules.specs.Trees.{Left, Question, Tree, Impossible, leaves}
use Rattle.vx_stack.specs.declared.conts.Move.{Move}
use Rattle.vx_stack.specs.declared.conts.Move.TheVariants as move'
use Rattle.vx_stack.specs.declared.frame.Side.{Side}
use Rattle.vx_stack.specs.Stack.{query, side_tree, Checked, Stepped}
use Rattle.vx_terms.specs.Terms.{Term}

pub gathered_both : (before : State) (said : Term → Term) (xs ys : List Left) → gathered before said (xs ++ ys) ≡ gathered before said xs ++ gathered before said ys
gathered_both before said [] ys = refl
gathered_both before said (x ∷ xs) ys = ap (λ l. (gathered before said (x ∷ [])) ++ l) (gathered_both before said xs ys)

module _ (p : Program) where
  pub leaves_push : (sides : List Side) (a : Side) → leaves_below p (sides ++ a ∷ []) ≡ leaves (side_tree p a) ++ leaves_below p sides
  leaves_push [] a = sym (append-nil (leaves (side_tree p a)))
  leaves_push (b ∷ sides) a = ap (λ l. l ++ leaves (side_tree p b)) (leaves_push sides a) ∙ append_assoc (leaves (side_tree p a)) (leaves_below p sides) (leaves (side_tree p b))

  leaves_two : (sides : List Side) (b a : Side) → leaves_below p (sides ++ b ∷ a ∷ []) ≡ (leaves (side_tree p a) ++ leaves (side_tree p b)) ++ leaves_below p sides
  leaves_two sides b a =
      ap (leaves_below p) (sym (append_assoc sides (b ∷ []) (a ∷ []))) ∙ leaves_push (sides ++ b ∷ []) a ∙ ap (λ l. leaves (side_tree p a) ++ l) (leaves_push sides b)
      ∙ sym (append_assoc (leaves (side_tree p a)) (leaves (side_tree p b)) (leaves_below p sides))

  pub nodes_push : (sides : List Side) (a : Side) → nodes_below p (sides ++ a ∷ []) ≡ nodes (side_tree p a) + nodes_below p sides
  nodes_push [] a = omega arith
  nodes_push (b ∷ sides) a = let e = nodes_push sides a in omega (e, arith)

  nodes_two : (sides : List Side) (b a : Side) → nodes_below p (sides ++ b ∷ a ∷ []) ≡ (nodes (side_tree p a) + nodes (side_tree p b)) + nodes_below p sides
  nodes_two sides b a =
      let e = ap (nodes_below p) (sym (append_assoc sides (b ∷ []) (a ∷ []))) ∙ nodes_push (sides ++ b ∷ []) a in
      let f = nodes_push sides b in
      omega (e, f, arith)

  -- one side more, or two, in the place of a tree
  one_leaves : (t : Tree) (old new : List Side) (a : Side) → new ≡ old ++ a ∷ [] → leaves t ≡ leaves (side_tree p a) → leaves_below p new ≡ leaves t ++ leaves_below p old
  one_leaves t old new a e f = ap (leaves_below p) e ∙ leaves_push old a ∙ ap (λ l. l ++ leaves_below p old) (sym f)

  one_fewer : (t : Tree) (old new : List Side) (a : Side) → new ≡ old ++ a ∷ [] → nodes t ≡ nodes (side_tree p a) + 1 → nodes_below p new < nodes t + nodes_below p old
  one_fewer t old new a e f = let g = ap (nodes_below p) e ∙ nodes_push old a in omega (f, g, arith)

  both_leave : (t : Tree) (old new : List Side) (a b : Side) → new ≡ old ++ b ∷ a ∷ [] → leaves t ≡ leaves (side_tree p a) ++ leaves (side_tree p b) → leaves_below p new ≡ leaves t ++ leaves_below p old
  both_leave t old new a b e f = ap (leaves_below p) e ∙ leaves_two old b a ∙ ap (λ l. l ++ leaves_below p old) (sym f)

  both_fewer : (t : Tree) (old new : List Side) (a b : Side) → new ≡ old ++ b ∷ a ∷ [] → nodes t ≡ nodes (side_tree p a) + nodes (side_tree p b) + 1 → nodes_below p new < nodes t + nodes_below p old
  both_fewer t old new a b e f = let g = ap (nodes_below p) e ∙ nodes_two old b a in omega (f, g, arith)

  none_fewer : (t : Tree) (old new : List Side) → new ≡ old → nodes t ≡ 1 → nodes_below p new < nodes t + nodes_below p old
  none_fewer t old new e f = let g = ap (nodes_below p) e in omega (f, g, arith)

  checked_leaves : (c : Bool) (t : Tree) (old new : List Side) (q : Question) → Checked p c t old q new → leaves_below p new ≡ leaves t ++ leaves_below p old
  checked_leaves false t old new q h = one_leaves t old new h.0 h.1 (ap leaves h.2)
  checked_leaves true t old new q h = both_leave t old new h.0 h.1 h.2 (ap leaves h.3)

  checked_fewer : (c : Bool) (t : Tree) (old new : List Side) (q : Question) → Checked p c t old q new → nodes_below p new < nodes t + nodes_below p old
  checked_fewer false t old new q h = one_fewer t old new h.0 h.1 (ap nodes h.2)
  checked_fewer true t old new q h = both_fewer t old new h.0 h.1 h.2 (ap nodes h.3)

  pub stepped_leaves : (t : Tree) (old new : List Side) (m : Move) → Stepped p t old m new → Leaves p t old m new
  stepped_leaves t old new move'.End h =
      record { same = ap (leaves_below p) h.0 ∙ ap (λ x. leaves x ++ leaves_below p old) (sym h.1); fewer = none_fewer t old new h.0 (ap nodes h.1) }
  stepped_leaves t old new (move'.Leave l) h =
      record {
        same = ap (λ s. left_by (move'.Leave l) ++ leaves_below p s) h.0 ∙ ap (λ x. leaves x ++ leaves_below p old) (sym h.1);
        fewer = none_fewer t old new h.0 (ap nodes h.1);
      }
  stepped_leaves t old new move'.Go h = record { same = one_leaves t old new h.0 h.1 (ap leaves h.2); fewer = one_fewer t old new h.0 h.1 (ap nodes h.2) }
  stepped_leaves t old new move'.Fork h = record { same = both_leave t old new h.0 h.1 h.2 (ap leaves h.3); fewer = both_fewer t old new h.0 h.1 h.2 (ap nodes h.3) }
  stepped_leaves t old new (move'.Check q) h = record { same = checked_leaves q.probe t old new (query q) h; fewer = checked_fewer q.probe t old new (query q) h }

  pub over_leaves : (t : Tree) (old : List Side) (z : State) → t ≡ Impossible z → Leaves p t old move'.End old
  over_leaves t old z e = record { same = ap (λ x. leaves x ++ leaves_below p old) (sym e); fewer = none_fewer t old old refl (ap nodes e) }

  -- a turn of the gathering: a side is popped, stepped, and what it leaves is noted
  pub turn_gathers : (before : State) (said : Term → Term) (facts more : List Term) (sides rest new : List Side) (a : Side) (m : Move) → sides ≡ rest ++ a ∷ [] → Leaves p (side_tree p a) rest m new →
      more ≡ facts ++ gathered before said (left_by m) → more ++ gathered before said (leaves_below p new) ≡ facts ++ gathered before said (leaves_below p sides)
  turn_gathers before said facts more sides rest new a m e h f =
      ap (λ l. l ++ gathered before said (leaves_below p new)) f
      ∙ append_assoc facts (gathered before said (left_by m)) (gathered before said (leaves_below p new))
      ∙ ap (λ l. facts ++ l) (sym (gathered_both before said (left_by m) (leaves_below p new)) ∙ ap (gathered before said) (h.same ∙ sym (ap (leaves_below p) e ∙ leaves_push rest a)))

  pub turn_fewer : (sides rest new : List Side) (a : Side) (m : Move) → sides ≡ rest ++ a ∷ [] → Leaves p (side_tree p a) rest m new → nodes_below p new < nodes_below p sides
  turn_fewer sides rest new a m e h = let g = ap (nodes_below p) e ∙ nodes_push rest a in let l = h.fewer in omega (g, l, arith)
