-- Where bodies are covered, changes of what isn't held, writes and new locations keep what is known of what is held.
use Rattle.std.proofs.Common.{◌≡◌, ℕ, Bool, true, false, cond, [], ◌∷◌, Some, None, refl, sym, ◌∙◌, ap, subst}
use Rattle.std.proofs.lemmas.Option.{same_Some}
use Rattle.vx_frac.specs.Fractions.{none, full, sum}
use Rattle.vx_ast.specs.Syntax.{Name, Program, Predicate, predicate_named}
use Rattle.vx_meaning.specs.Values.{Value}
use Rattle.vx_meaning.specs.States as run
use Rattle.vx_meaning.specs.States.{Heap, Holdings, Location, Instance, At, Folded, same_location, same_resource, amount, gained, with_heap}
use Rattle.vx_meaning.specs.Flatten.{bare, flat}
use Rattle.vx_meaning.specs.Consistent.{total, Changes, IsConsistent}
use Rattle.vx_types.specs.Typing.{HaveNoPerm}
use Rattle.vx_types.specs.Closure.{InClosure}
use Rattle.vx_amounts.proofs.Amounts.{Le, Positive, le-refl, le-trans, add-left, none-full, none-sum, sum_comm, not-positive}
use Rattle.vx_sound.proofs.Marks.{Unmarked}
use Rattle.vx_sound.proofs.World.{at_field, IsTypedInstance, World, Changing}
use Rattle.vx_sound.proofs.Chunks.{location_is}
use Rattle.vx_sound_preds.specs.Bodies.{GoodBodies}
use Rattle.vx_sound_preds.specs.Covered.{Covered, IsProper}
use Rattle.vx_sound_preds.proofs.Grouped.{resource_is}
use Rattle.vx_sound_preds.proofs.Frames.{SameAt}
use Rattle.vx_sound_preds.proofs.Folding.{Stock}
use Rattle.vx_sound_preds.proofs.Changes.{total_kept, tree_kept, consistent_kept, same_changed, same_written}
use Rattle.vx_sound_preds.proofs.Holding.{instance_rigid, TypedAll, HoldsInstances, stock, consistent, of_possible, gained_debts, Applying, functions_world}
use Rattle.vx_sound_preds.proofs.Walks.{held_proper}

-- what is held of an instance came with arguments of their types
pub held_typed : (p : Program) (Held : Name → Type 0) (hs : Holdings) → TypedAll p Held hs → (i : Instance) → Positive (amount hs (Folded i)) → IsTypedInstance p Held i
held_typed p Held [] h i k = absurd (not-positive k (le-refl none))
held_typed p Held ((At l, a) ∷ xs) h i k = held_typed p Held xs h.1 i k
held_typed p Held ((Folded j, a) ∷ xs) h i k = go (same_resource (Folded i) (Folded j)) refl k (λ k. held_typed p Held xs h.1 i k)
  where
    same : (i j : Instance) → Folded i ≡ Folded j → j ≡ i
    same i j e = cc

    go : (b : Bool) → same_resource (Folded i) (Folded j) ≡ b → Positive (cond b (sum a (amount xs (Folded i))) (amount xs (Folded i))) → (Positive (amount xs (Folded i)) → IsTypedInstance p Held i) → IsTypedInstance p Held i
    go false e k f = f k
    go true e k f = subst (IsTypedInstance p Held) (same i j (resource_is (Folded i) (Folded j) (instance_rigid p Held j h.0) e)) h.0

module _ (p : Program) (good : GoodBodies p) (x : Name) (no_perm : (x : Name) (d : Predicate) → predicate_named p x ≡ Some d → HaveNoPerm d.parameters) (covered : Covered p (IsProper p x)) (applying : Applying) where
  abbrev Held : Name → Type 0
  Held = InClosure p x

  abbrev world : World
  world = functions_world p good Held no_perm true applying

  module _ (c : run.State) (st : HoldsInstances p (InClosure p x) true c.heap c.holdings) where
    can : IsConsistent p c
    can = consistent p good Held true c refl st

    stocked : Stock p c.heap c.holdings
    stocked = stock p good Held true c.heap c.holdings st

    proper : (i : Instance) → Positive (amount c.holdings (Folded i)) → IsProper p x c.heap i
    proper i k =
        let h = held_typed p Held c.holdings st.typed i k in
        held_proper p x good c can.supported stocked i k h.0 (λ d e. subst (λ (d : Predicate). run.HaveTypes d.parameters i.arguments) (same_Some h.1.0 d (sym h.1.1 ∙ e)) h.1.3)

    kept : (g : Heap) → ((n : ℕ) (i : Instance) → Positive (amount c.holdings (Folded i)) → (y : Holdings) → flat p n c.heap i ≡ Some y → SameAt p n c.heap g i) → HoldsInstances p (InClosure p x) true g c.holdings
    kept g same = of_possible p good Held true (with_heap g c) (consistent_kept p good c g stocked same can).0 st.typed st.debts

    by_change : (g : Heap) → Changes p c g → (n : ℕ) (i : Instance) → Positive (amount c.holdings (Folded i)) → (y : Holdings) → flat p n c.heap i ≡ Some y → SameAt p n c.heap g i
    by_change g ch = same_changed p good (IsProper p x) covered c g stocked ch proper

    by_write : (l : Location) (v : Value) → Le full (amount c.holdings (At l)) → (n : ℕ) (i : Instance) → Positive (amount c.holdings (Folded i)) → (y : Holdings) → flat p n c.heap i ≡ Some y → SameAt p n c.heap ((l, v) ∷ c.heap) i
    by_write l v own = same_written p good (IsProper p x) covered c l v stocked can own proper

  -- a state with this heap and these holdings
  abbrev of : Heap → Holdings → run.State
  of h hs = run.with_holdings hs (bare [] h)

  created : (h : Heap) (hs : Holdings) (l : Location) → HoldsInstances p (InClosure p x) true h hs → (l.receiver ≡ 0 → ⊥) → ((n : ℕ) → Le (total p n h hs l) none) → HoldsInstances p (InClosure p x) true h (gained (At l) full hs)
  created h hs l st apart z = record {
    typed = (tt, st.typed);
    debts = gained_debts p good Held true hs (At l) full none-full st.debts;
    grounded = st.grounded;
    null = λ n f. low n f (same_location (at_field 0 f) l) refl;
    most = λ e n m. high n m (same_location m l) refl;
  }
    where
      low : (n : ℕ) (f : Name) (b : Bool) → same_location (at_field 0 f) l ≡ b → Le (cond b (sum full (total p n h hs (at_field 0 f))) (total p n h hs (at_field 0 f))) none
      low n f true e = absurd (apart (sym (ap (λ (l : Location). l.receiver) (location_is (at_field 0 f) l e))))
      low n f false e = st.null n f

      high : (n : ℕ) (m : Location) (b : Bool) → same_location m l ≡ b → Le (cond b (sum full (total p n h hs m)) (total p n h hs m)) full
      high n m true e = le-trans (add-left full (subst (λ k. Le (total p n h hs k) none) (sym (location_is m l e)) (z n))) (le-trans (sum_comm full none).there (none-sum full).there)
      high n m false e = st.most refl n m

  pub functions_changing : applying.own ≡ None → applying.marks ≡ Unmarked → Changing world
  functions_changing none unmarked = record {
    unmarked = unmarked;
    bounded = refl;
    of_no_function = none;
    changed = λ c g ch st. kept c st g (by_change c st g ch);
    changed_tree = λ c g ch st k typed pos t tr. tree_kept p good c g (stocked c st) (by_change c st g ch) k pos t tr;
    changed_total = λ c g ch st n l. total_kept p good c g (stocked c st) (by_change c st g ch) n l;
    written = λ h hs l v st own. kept (of h hs) st ((l, v) ∷ h) (by_write (of h hs) st l v own);
    written_tree = λ h hs l v st own k typed pos t tr. tree_kept p good (of h hs) ((l, v) ∷ h) (stocked (of h hs) st) (by_write (of h hs) st l v own) k pos t tr;
    created = created;
  }
