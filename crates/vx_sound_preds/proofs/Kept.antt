-- Where the walks of all predicates passed, a change of the heap keeps what can be, and the trees of what is held.
use Rattle.std.proofs.Common.{true, List, [], ◌∷◌, refl}
use Rattle.vx_ast.specs.Syntax.{Name, Program}
use Rattle.vx_smt_meaning.specs.declared.reply.Reply.{Reply}
use Rattle.vx_meaning.specs.States.{State, Heap, Holdings, Instance, At, Folded, amount, with_heap}
use Rattle.vx_meaning.specs.Consistent.{Changes, IsConsistent}
use Rattle.vx_terms.specs.Interpretations.{Tree}
use Rattle.vx_types.specs.Premises.{IsTypedProgram}
use Rattle.vx_types.specs.Closure.{InClosure}
use Rattle.vx_amounts.proofs.Amounts.{Positive}
use Rattle.vx_sound.specs.Snapshots.{IsTree}
use Rattle.vx_sound.proofs.World.{Changing}
use Rattle.vx_sound_preds.specs.Covered.{Covered, IsProper, PredicatesPass, TypedInstances, IsStocked}
use Rattle.vx_sound_preds.proofs.Holding.{TypedAll, HoldsInstances, of_possible, consistent, nothing_applied, instances_world}
use Rattle.vx_sound_preds.proofs.Walks.{proper_covered}
use Rattle.vx_sound_preds.proofs.Keeping.{held_typed, functions_changing}
use Rattle.vx_sound_preds.proofs.Speaking.{good, no_perm, speak}

-- the walks of all predicates that x leads to
pub bodies_covered : (p : Program) (x : Name) (replies : Name → List Reply) → IsTypedProgram p → PredicatesPass p x replies → Covered p (IsProper p x)
bodies_covered p x replies typed pass = proper_covered p (good p x typed) x (no_perm p x typed) (speak p x typed) replies pass

module _ (p : Program) (x : Name) (replies : Name → List Reply) (typed : IsTypedProgram p) (pass : PredicatesPass p x replies) where
  abbrev Held : Name → Type 0
  Held = InClosure p x

  typed_all : (hs : Holdings) → TypedInstances p x hs → TypedAll p Held hs
  typed_all [] h = tt
  typed_all ((At l, a) ∷ xs) h = (tt, typed_all xs h)
  typed_all ((Folded i, a) ∷ xs) h = ((h.0.0, (h.0.1.0, h.0.1.1, (typed.predicates i.predicate h.0.1.0 h.0.1.1).parameters, h.0.1.2)), typed_all xs h.1)

  changing : Changing (instances_world p (good p x typed) (InClosure p x) (no_perm p x typed) true)
  changing = functions_changing p (good p x typed) x (no_perm p x typed) (bodies_covered p x replies typed pass) nothing_applied refl refl

  module _ (s : State) (g : Heap) (co : IsConsistent p s) (st : IsStocked p x s.holdings) (ch : Changes p s g) where
    holds : HoldsInstances p (InClosure p x) true s.heap s.holdings
    holds = of_possible p (good p x typed) Held true s co (typed_all s.holdings st.instances) (λ r k. record { holds = st.debts r })

    pub change_keeps : IsConsistent p (with_heap g s)
    change_keeps = consistent p (good p x typed) Held true (with_heap g s) refl (changing.changed s g ch holds)

    pub trees_kept : (i : Instance) (t : Tree) → Positive (amount s.holdings (Folded i)) → IsTree p s.heap i t → IsTree p g i t
    trees_kept i t k tr = changing.changed_tree s g ch holds i (held_typed p Held s.holdings (typed_all s.holdings st.instances) i k) k t tr
