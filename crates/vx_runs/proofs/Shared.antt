-- What is held is shared between what is given and what is left: each part that is taken from the one is given to the other.
use Rattle.std.proofs.Common.{◌≡◌, Bool, true, false, cond, refl, sym, subst}
use Rattle.vx_frac.specs.Fractions.{Fraction, none, sum, minus}
use Rattle.vx_ast.specs.Syntax.{Program}
use Rattle.vx_meaning.specs.States.{Heap, Holdings, Resource, same_resource, amount, gained, lost}
use Rattle.vx_amounts.proofs.Amounts.{Le, Same, same-refl, same-sym, same-trans, le-refl, le-trans, sum_comm, sum_assoc, none-sum, sum-minus, sum_same, add-left, add-below, cancel-left, minus_none, none-none, difference-none}
use Rattle.vx_sound.proofs.World.{IsTypedResource}
use Rattle.vx_sound_preds.specs.Bodies.{GoodBodies}
use Rattle.vx_sound_preds.proofs.Grouped.{IsSingle, NoDebts, resource_is}
use Rattle.vx_sound_preds.proofs.Holding.{TypedAll, resource_single}
use Rattle.vx_runs.proofs.Followed.{Any, Sane, AtMost}
use Rattle.vx_runs.proofs.Fewer.{sane_fewer}

exchanged : (q a b : Fraction) → Same (sum (sum q a) (sum (minus q) b)) (sum a b)
exchanged q a b =
    same-trans (sum_same (sum_comm q a) (same-refl (sum (minus q) b)))
    (same-trans (sum_assoc a q (sum (minus q) b))
    (sum_same (same-refl a) (same-trans (same-sym (sum_assoc q (minus q) b)) (same-trans (sum_same (sum-minus q) (same-refl b)) (none-sum b)))))

-- Of `all` something was given besides `base`, and the rest is left, which is no less than `floor`.
pub record Shared (p : Program) (all base floor given left : Holdings) : Type 0 where
  pub typed : TypedAll p Any given
  pub debts : NoDebts given
  pub total : (r : Resource) → IsSingle r → Le (sum (amount given r) (amount left r)) (sum (amount base r) (amount all r))
  pub above : AtMost floor left

pub shared_fewer : (p : Program) (all base floor given left : Holdings) → AtMost base floor → Shared p all base floor given left → AtMost given all
shared_fewer p all base floor given left low k r si =
    let above = le-trans (add-left (amount given r) (le-trans (low r si) (k.above r si))) (k.total r si) in
    cancel-left (amount base r) (le-trans (sum_comm (amount base r) (amount given r)).there above)

pub lost_fewer : (r : Resource) (q : Fraction) (h : Holdings) → Le none q → AtMost (lost r q h) h
lost_fewer r q h sign c si = go (same_resource c r)
  where
    go : (b : Bool) → Le (cond b (sum (minus q) (amount h c)) (amount h c)) (amount h c)
    go true = add-below (amount h c) (minus_none sign)
    go false = le-refl (amount h c)

pub gained_debts : (p : Program) (r : Resource) (q : Fraction) (h : Holdings) → Le none q → NoDebts h → NoDebts (gained r q h)
gained_debts p r q h sign k c si = go (same_resource c r)
  where
    go : (b : Bool) → Le none (cond b (sum q (amount h c)) (amount h c))
    go true = none-none sign (k c si)
    go false = k c si

pub lost_debts : (p : Program) (r : Resource) (q : Fraction) (h : Holdings) → IsTypedResource p Any r → Le q (amount h r) → NoDebts h → NoDebts (lost r q h)
lost_debts p r q h typed le k c si = go (same_resource c r) refl
  where
    go : (b : Bool) → same_resource c r ≡ b → Le none (cond b (sum (minus q) (amount h c)) (amount h c))
    go true e = le-trans (difference-none (subst (λ (c : Resource). Le q (amount h c)) (sym (resource_is c r (resource_single p Any r typed) e)) le)) (sum_comm (amount h c) (minus q)).there
    go false e = k c si

pub shared_moved : (p : Program) (all base floor given left : Holdings) (r : Resource) (q : Fraction) → IsTypedResource p Any r → Le none q → AtMost floor (lost r q left) → Shared p all base floor given left → Shared p all base floor (gained r q given) (lost r q left)
shared_moved p all base floor given left r q kind sign above k = record { typed = (kind, k.typed); debts = gained_debts p r q given sign k.debts; total = total; above = above }
  where
    total : (c : Resource) → IsSingle c → Le (sum (amount (gained r q given) c) (amount (lost r q left) c)) (sum (amount base c) (amount all c))
    total c si = le-trans (go (same_resource c r)) (k.total c si)
      where
        go : (b : Bool) → Le (sum (cond b (sum q (amount given c)) (amount given c)) (cond b (sum (minus q) (amount left c)) (amount left c))) (sum (amount given c) (amount left c))
        go true = (exchanged q (amount given c) (amount left c)).there
        go false = le-refl (sum (amount given c) (amount left c))

-- nothing is given yet
pub shared_first : (p : Program) (all base floor : Holdings) → TypedAll p Any base → NoDebts base → AtMost floor all → Shared p all base floor base all
shared_first p all base floor typed debts above = record { typed = typed; debts = debts; total = λ r si. le-refl (sum (amount base r) (amount all r)); above = above }

-- what is given is of a state that can be
pub shared_sane : (p : Program) (good : GoodBodies p) (h : Heap) (all base floor given left : Holdings) → Sane p h all → AtMost base floor → Shared p all base floor given left → Sane p h given
shared_sane p good h all base floor given left sane low k = sane_fewer p good h given all sane k.typed k.debts (shared_fewer p all base floor given left low k)
