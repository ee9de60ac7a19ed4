-- What is known of what is held, in the words of the laws on functions.
use Rattle.std.proofs.Common.{◌≡◌, ◌⊎◌, inl, inr, Bool, true, false, cond, [], ◌∷◌, refl, sym, subst}
use Rattle.vx_frac.specs.Fractions.{none, sum}
use Rattle.vx_ast.specs.Syntax.{Name, Program}
use Rattle.vx_meaning.specs.States.{Heap, Holdings, Resource, At, Folded, same_resource, amount}
use Rattle.vx_types.specs.Closure.{InClosure}
use Rattle.vx_amounts.proofs.Amounts.{Le, le-refl}
use Rattle.vx_sound_preds.specs.Covered.{TypedInstances, IsStocked}
use Rattle.vx_sound_preds.proofs.Grouped.{IsSingle, AreSingle, NoDebts, resource_is}
use Rattle.vx_sound_preds.proofs.Holding.{HoldsInstances, TypedAll, all_single}

module _ (p : Program) (x : Name) where
  typed_instances : (hs : Holdings) → TypedAll p (InClosure p x) hs → TypedInstances p x hs
  typed_instances [] h = tt
  typed_instances ((At l, a) ∷ hs) h = typed_instances hs h.1
  typed_instances ((Folded i, a) ∷ hs) h = ((h.0.0, (h.0.1.0, h.0.1.1, h.0.1.3)), typed_instances hs h.1)

  single_or_none : (r : Resource) (hs : Holdings) → AreSingle hs → IsSingle r ⊎ (amount hs r ≡ none)
  single_or_none r [] k = inr refl
  single_or_none r (y ∷ hs) k = go (same_resource r y.0) refl (single_or_none r hs k.1)
    where
      go : (b : Bool) → same_resource r y.0 ≡ b → IsSingle r ⊎ (amount hs r ≡ none) → IsSingle r ⊎ (cond b (sum y.1 (amount hs r)) (amount hs r) ≡ none)
      go true e h = inl (subst IsSingle (sym (resource_is r y.0 k.0 e)) k.0)
      go false e h = h

  no_debts : (hs : Holdings) → AreSingle hs → NoDebts hs → (r : Resource) → Le none (amount hs r)
  no_debts hs k d r = go (single_or_none r hs k)
    where
      go : IsSingle r ⊎ (amount hs r ≡ none) → Le none (amount hs r)
      go (inl s) = d r s
      go (inr e) = subst (λ q. Le none q) (sym e) (le-refl none)

  -- what can be held is stocked
  pub stocked : (bounded : Bool) (h : Heap) (hs : Holdings) → HoldsInstances p (InClosure p x) bounded h hs → IsStocked p x hs
  stocked bounded h hs k = record {
    instances = typed_instances hs k.typed;
    debts = λ r. let y = no_debts hs (all_single p (InClosure p x) hs k.typed) k.debts r in y.holds;
  }
