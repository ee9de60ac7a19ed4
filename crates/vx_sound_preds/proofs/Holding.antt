-- What is known of what is held where instances of predicates are, as the simulation asks of it.
use Rattle.std.proofs.Common.{◌≡◌, ℕ, ◌+◌, Bool, true, false, cond, List, [], ◌∷◌, Option, Some, None, refl, sym, ◌∙◌, subst, arith}
use Rattle.std.specs.Prelude.{option_and_then}
use Rattle.vx_frac.specs.Fractions.{Fraction, none, full, sum, product}
use Rattle.vx_ast.specs.declared.ValueType.TheVariants.{Perm}
use Rattle.vx_ast.specs.Syntax.{Name, Declaration, Program, Predicate, predicate_named}
use Rattle.vx_meaning.specs.Values.{Value, IntValue, BoolValue, RefValue, PermValue, type_of}
use Rattle.vx_meaning.specs.States as run
use Rattle.vx_meaning.specs.States.{Heap, Holdings, Location, Instance, Resource, At, Folded, HaveTypes, same_resource, amount, gained, lost, with_holdings}
use Rattle.vx_meaning.specs.Flatten.{bare, body_entries, flat, IsGrounded}
use Rattle.vx_meaning.specs.Consistent.{total, IsConsistent}
use Rattle.vx_meaning.specs.Fits.{deeper}
use Rattle.vx_terms.specs.Interpretations.{Tree}
use Rattle.vx_types.specs.Typing.{HaveNoPerm}
use Rattle.vx_amounts.proofs.Amounts.{Le, Positive, le-refl, le-trans, none-none, none-full, full-positive, positive-le, not-positive, below-add}
use Rattle.vx_amounts.proofs.Products.{product_sign, positive_le}
use Rattle.vx_sound.specs.Snapshots.{IsTree}
use Rattle.vx_sound.proofs.Marks.{Marks, Unmarked, Unsaid}
use Rattle.vx_sound.proofs.World.{at_field, Limited, IsTypedInstance, IsTypedResource, CanBe, Walked, World}
use Rattle.vx_sound.proofs.Chunks.{spread_bare}
use Rattle.vx_sound_preds.specs.Bodies.{IsRigid, AreRigid, GoodBodies}
use Rattle.vx_sound_preds.proofs.Flats.{flat_later, tree_single}
use Rattle.vx_sound_preds.proofs.Totals.{weigh, weight, total_weighs, weight_sign, weigh_sign}
use Rattle.vx_sound_preds.proofs.Grouped.{IsSingle, AreSingle, NoDebts, resource_is}
use Rattle.vx_sound_preds.proofs.Adding.{IsEntry, AreEntries, added, weigh_added}
use Rattle.vx_sound_preds.proofs.Exchanging.{no_negatives, grown, total_exchanged}
use Rattle.vx_sound_preds.proofs.Frames.{AllPositive, positive_least}
use Rattle.vx_sound_preds.proofs.Folding.{Stock}
use Rattle.vx_sound_preds.proofs.Taking.{lost_stock}
use Rattle.vx_sound_preds.proofs.Folds.{flat_has_tree}
use Rattle.vx_sound_preds.proofs.Lowering.{lost_less}

-- values of parameters are no amounts
pub rigid_value : (v : Value) → ((type_of v ≡ Perm) → ⊥) → IsRigid v
rigid_value (IntValue z) n = tt
rigid_value (BoolValue z) n = tt
rigid_value (RefValue z) n = tt
rigid_value (PermValue z) n = n refl

pub typed_rigid : (ds : List Declaration) (vs : List Value) → HaveNoPerm ds → HaveTypes ds vs → AreRigid vs
typed_rigid [] [] k h = tt
typed_rigid [] (v ∷ vs) k h = absurd h
typed_rigid (d ∷ ds) [] k h = absurd h
typed_rigid (d ∷ ds) (v ∷ vs) k h = (rigid_value v (λ e. k.0 (sym h.0 ∙ e)), typed_rigid ds vs k.1 h.1)

pub instance_rigid : (p : Program) (Held : Name → Type 0) (k : Instance) → IsTypedInstance p Held k → AreRigid k.arguments
instance_rigid p Held k t = let d = t.1.0 in typed_rigid d.parameters k.arguments t.1.2 t.1.3

pub resource_single : (p : Program) (Held : Name → Type 0) (r : Resource) → IsTypedResource p Held r → IsSingle r
resource_single p Held (At l) t = tt
resource_single p Held (Folded k) t = instance_rigid p Held k t

-- what is held, and what is within a body, is of locations and of instances that can be held
abbrev pub TypedAll : Program → (Name → Type 0) → Holdings → Type 0
TypedAll p Held [] = Unit {0}
TypedAll p Held (x ∷ xs) = IsTypedResource p Held x.0 × TypedAll p Held xs

pub all_single : (p : Program) (Held : Name → Type 0) (hs : Holdings) → TypedAll p Held hs → AreSingle hs
all_single p Held [] t = tt
all_single p Held (x ∷ xs) t = (resource_single p Held x.0 t.0, all_single p Held xs t.1)

pub typed_added : (p : Program) (Held : Name → Type 0) (q : Fraction) (es hs : Holdings) → TypedAll p Held es → TypedAll p Held hs → TypedAll p Held (added q es hs)
unfolding added
typed_added p Held q [] hs t u = u
typed_added p Held q (x ∷ xs) hs t u = typed_added p Held q xs (gained x.0 (product q x.1) hs) t.1 (t.0, u)

typed_rest : (p : Program) (Held : Name → Type 0) (q : Fraction) (es hs : Holdings) → TypedAll p Held (added q es hs) → TypedAll p Held hs
unfolding added
typed_rest p Held q [] hs t = t
typed_rest p Held q (x ∷ xs) hs t = (typed_rest p Held q xs (gained x.0 (product q x.1) hs) t).1

-- What is known: nothing is owed, each instance is grounded, nothing of null is held directly or folded, and where amounts
-- are bounded at most the whole of each location.
pub record HoldsInstances (p : Program) (Held : Name → Type 0) (bounded : Bool) (h : Heap) (hs : Holdings) : Type 0 where
  pub typed : TypedAll p Held hs
  pub debts : NoDebts hs
  pub grounded : (i : Instance) → Positive (amount hs (Folded i)) → IsGrounded p h i
  pub null : (n : ℕ) (f : Name) → Le (total p n h hs (at_field 0 f)) none
  pub most : bounded ≡ true → (n : ℕ) (l : Location) → Le (total p n h hs l) full

module _ (p : Program) (good : GoodBodies p) (Held : Name → Type 0) (bounded : Bool) where
  pub stock : (h : Heap) (hs : Holdings) → HoldsInstances p Held bounded h hs → Stock p h hs
  stock h hs k = record { debts = k.debts; single = all_single p Held hs k.typed; grounded = k.grounded }

  -- with totals that aren't greater
  pub lower : (h : Heap) (hs less : Holdings) → HoldsInstances p Held bounded h hs → TypedAll p Held less → NoDebts less → ((i : Instance) → Positive (amount less (Folded i)) → IsGrounded p h i) →
      ((n : ℕ) (l : Location) → (m : ℕ) × Le (total p n h less l) (total p m h hs l)) → HoldsInstances p Held bounded h less
  lower h hs less k typed debts grounded below = record {
    typed = typed;
    debts = debts;
    grounded = grounded;
    null = λ n f. let b = below n (at_field 0 f) in le-trans b.1 (k.null b.0 f);
    most = λ e n l. let b = below n l in le-trans b.1 (k.most e b.0 l);
  }

  pub limited : (h : Heap) (hs : Holdings) → HoldsInstances p Held bounded h hs → Limited bounded hs
  limited h hs k = record {
    most = λ e l. subst (λ (r : Holdings). Le (amount r (At l)) full) (spread_bare p h hs) (k.most e 0 l);
    null = λ f. subst (λ (r : Holdings). Le (amount r (At (at_field 0 f))) none) (spread_bare p h hs) (k.null 0 f);
  }

  pub nothing : (h : Heap) → HoldsInstances p Held bounded h []
  nothing h = record { typed = tt; debts = λ r s. le-refl none; grounded = λ i k. absurd (not-positive k (le-refl none)); null = λ n f. le-refl none; most = λ e n l. none-full }

  pub taken : (h : Heap) (hs : Holdings) (r : Resource) (q : Fraction) → IsTypedResource p Held r → Le none q → Le q (amount hs r) → HoldsInstances p Held bounded h hs → HoldsInstances p Held bounded h (lost r q hs)
  taken h hs r q typed sign enough k =
      let st = lost_stock p full full-positive h hs r q (resource_single p Held r typed) sign enough (stock h hs k) in
      lower h hs (lost r q hs) k (typed, k.typed) st.debts st.grounded (λ n l. (n, lost_less p good full full-positive (deeper p 0) (bare [] h) h hs r q sign n l))

  pub gained_debts : (hs : Holdings) (r : Resource) (q : Fraction) → Le none q → NoDebts hs → NoDebts (gained r q hs)
  gained_debts hs r q sign k c sc = go (same_resource c r)
    where
      go : (b : Bool) → Le none (cond b (sum q (amount hs c)) (amount hs c))
      go true = none-none sign (k c sc)
      go false = k c sc

  -- from a state that can be
  pub of_possible : (c : run.State) → CanBe p bounded c → TypedAll p Held c.holdings → NoDebts c.holdings → HoldsInstances p Held bounded c.heap c.holdings
  of_possible c can typed debts = go bounded refl can
    where
      go : (b : Bool) → bounded ≡ b → CanBe p b c → HoldsInstances p Held bounded c.heap c.holdings
      go true e can = record {
        typed = typed;
        debts = debts;
        grounded = λ i k. can.supported.grounded i k.holds;
        null = λ n f. record { holds = can.supported.null n f };
        most = λ z n l. record { holds = can.bounded n l };
      }
      go false e can = record {
        typed = typed;
        debts = debts;
        grounded = λ i k. can.grounded i k.holds;
        null = λ n f. record { holds = can.null n f };
        most = λ z. cc;
      }

  -- and back
  pub consistent : (c : run.State) → bounded ≡ true → HoldsInstances p Held bounded c.heap c.holdings → IsConsistent p c
  consistent c e k = record {
    supported = record { grounded = λ i z. k.grounded i (record { holds = z }); null = λ n f. (k.null n f).holds };
    bounded = λ n l. (k.most e n l).holds;
  }

  pub given : (c : run.State) (r : Resource) (q : Fraction) → IsTypedResource p Held r → Le none q → HoldsInstances p Held bounded c.heap c.holdings → CanBe p bounded (with_holdings (gained r q c.holdings) c) →
      HoldsInstances p Held bounded c.heap (gained r q c.holdings)
  given c r q typed sign k can = of_possible (with_holdings (gained r q c.holdings) c) can (typed, k.typed) (gained_debts c.holdings r q sign k.debts)

  pub tree : (h : Heap) (hs : Holdings) (k : Instance) → HoldsInstances p Held bounded h hs → IsTypedInstance p Held k → Positive (amount hs (Folded k)) → (t : Tree) × IsTree p h k t
  tree h hs k st typed pos =
      let g = st.grounded k pos in
      let t = flat_has_tree p h g.0 k g.1 g.2 in
      (t.0, (g.0, t.1))

  -- Bodies

  pub added_debts : (q : Fraction) (es hs : Holdings) → Positive q → AllPositive es → NoDebts hs → NoDebts (added q es hs)
  unfolding added
  added_debts q [] hs pos k d = d
  added_debts q (x ∷ xs) hs pos k d = added_debts q xs (gained x.0 (product q x.1) hs) pos k.1 (gained_debts hs x.0 (product q x.1) (product_sign (positive_le pos) (positive_le k.0)) d)

  added_grounded : (h : Heap) (q : Fraction) (es hs : Holdings) → AreSingle es → AreEntries p h es → ((i : Instance) → Positive (amount hs (Folded i)) → IsGrounded p h i) → (i : Instance) → Positive (amount (added q es hs) (Folded i)) → IsGrounded p h i
  unfolding added
  added_grounded h q [] hs si k g i z = g i z
  added_grounded h q (x ∷ xs) hs si k g i z = added_grounded h q xs (gained x.0 (product q x.1) hs) si.1 k.1 (λ j. go j (same_resource (Folded j) x.0) refl) i z
    where
      at : (c : Resource) (j : Instance) → Folded j ≡ c → IsEntry p h c → IsGrounded p h j
      at c j e k = subst (IsEntry p h) (sym e) k

      go : (j : Instance) (b : Bool) → same_resource (Folded j) x.0 ≡ b → Positive (cond b (sum (product q x.1) (amount hs (Folded j))) (amount hs (Folded j))) → IsGrounded p h j
      go j true e z = at x.0 j (resource_is (Folded j) x.0 si.0 e) k.0
      go j false e z = g j z

  pub amount_grows : (q : Fraction) (es hs : Holdings) (r : Resource) → Positive q → AllPositive es → Le (amount hs r) (amount (added q es hs) r)
  unfolding added
  amount_grows q [] hs r pos k = le-refl (amount hs r)
  amount_grows q (x ∷ xs) hs r pos k = le-trans (go (same_resource r x.0)) (amount_grows q xs (gained x.0 (product q x.1) hs) r pos k.1)
    where
      go : (b : Bool) → Le (amount hs r) (cond b (sum (product q x.1) (amount hs r)) (amount hs r))
      go true = below-add (amount hs r) (product_sign (positive_le pos) (positive_le k.0))
      go false = le-refl (amount hs r)

  total_grows : (h : Heap) (q : Fraction) (es hs : Holdings) (n : ℕ) (l : Location) → Positive q → AllPositive es → Le (total p n h hs l) (total p n h (added q es hs) l)
  total_grows h q es hs n l pos k =
      let w = weight p h l n in
      let up = weight_sign p h l (no_negatives p h l good) n in
      let more = product_sign (positive_le pos) (weigh_sign p h l w up es (positive_least p h l es k)) in
      le-trans (total_weighs p h l n hs).there
      (le-trans (below-add (weigh w hs) more) (le-trans (weigh_added w q es hs).back (total_weighs p h l n (added q es hs)).back))

  -- before some entries were added
  pub fewer : (h : Heap) (q : Fraction) (es hs : Holdings) → Positive q → AllPositive es → NoDebts hs → HoldsInstances p Held bounded h (added q es hs) → HoldsInstances p Held bounded h hs
  fewer h q es hs pos k d st = lower h (added q es hs) hs st (typed_rest p Held q es hs st.typed) d (λ i z. st.grounded i (positive-le z (amount_grows q es hs (Folded i) pos k))) (λ n l. (n, total_grows h q es hs n l pos k))

  -- an instance that was exchanged for its body
  pub exchanged : (h : Heap) (hs : Holdings) (k : Instance) (q : Fraction) (fuel : ℕ) (inner es : Holdings) → HoldsInstances p Held bounded h hs → HoldsInstances p Held bounded h (lost (Folded k) q hs) → Positive q →
      flat p fuel h k ≡ Some inner → option_and_then (λ d. body_entries p h k.arguments d) (predicate_named p k.predicate) ≡ Some es → TypedAll p Held es → AreEntries p h es → AllPositive es →
      HoldsInstances p Held bounded h (added q es (lost (Folded k) q hs))
  exchanged h hs k q fuel inner es st less pos f body typed can ps =
      let after = added q es (lost (Folded k) q hs) in
      let types = typed_added p Held q es (lost (Folded k) q hs) typed less.typed in
      let debts = added_debts q es (lost (Folded k) q hs) pos ps less.debts in
      lower h hs after st types debts (added_grounded h q es (lost (Folded k) q hs) (all_single p Held es typed) can less.grounded) (λ n l. (fuel + n, below n l types debts))
    where
      below : (n : ℕ) (l : Location) → TypedAll p Held (added q es (lost (Folded k) q hs)) → NoDebts (added q es (lost (Folded k) q hs)) → Le (total p n h (added q es (lost (Folded k) q hs)) l) (total p (fuel + n) h hs l)
      below n l types debts =
          let after = added q es (lost (Folded k) q hs) in
          let z : n + fuel ≡ fuel + n = omega arith in
          let at : flat p (fuel + n) h k ≡ Some inner = subst (λ (m : ℕ). flat p m h k ≡ Some inner) z (flat_later p n fuel h k inner f) in
          le-trans (total_weighs p h l n after).there
          (le-trans (grown p h l (no_negatives p h l good) after (all_single p Held after types) debts fuel n)
          (le-trans (total_exchanged p h l (fuel + n) k inner es hs q at body).there (total_weighs p h l (fuel + n) hs).back))

  -- entries of a body, added to nothing
  pub of_entries : (h : Heap) (es : Holdings) → TypedAll p Held es → AreEntries p h es → AllPositive es → ((n : ℕ) (f : Name) → Le (total p n h (added full es []) (at_field 0 f)) none) → bounded ≡ false → HoldsInstances p Held bounded h (added full es [])
  of_entries h es typed can ps null loose = record {
    typed = typed_added p Held full es [] typed tt;
    debts = added_debts full es [] full-positive ps (λ r s. le-refl none);
    grounded = added_grounded h full es [] (all_single p Held es typed) can (λ i k. absurd (not-positive k (le-refl none)));
    null = null;
    most = λ e. absurd (not_both e);
  }
    where
      not_both : bounded ≡ true → ⊥
      not_both e = let z : true ≡ false = sym e ∙ loose in clash z
        where
          clash : ◌≡◌ {A = Bool} true false → ⊥
          clash z = cc

-- what may be applied, the function whose body is walked, if it is one, and what its walk shows of the applications that are
-- evaluated
pub record Applying : Type 1 where
  -- what the marks of chunks stand for
  pub marks : Marks
  pub Applied : Name → Type 0
  pub own : Option Walked
  pub Measured : Heap → Name → List Value → Type 0

abbrev pub nothing_applied : Applying
nothing_applied = record { marks = Unmarked; Applied = λ f. ⊥; own = None; Measured = λ h f vs. Unit {0} }

-- The world of a typed program, where the instances of some predicates are held and some functions may be applied.
abbrev pub functions_world : (p : Program) → GoodBodies p → (Held : Name → Type 0) → ((x : Name) (d : Predicate) → predicate_named p x ≡ Some d → HaveNoPerm d.parameters) → Bool → Applying → World
functions_world p good Held no_perm bounded applying = record {
  program = p;
  marks = applying.marks;
  bounded = bounded;
  Held = Held;
  Applied = applying.Applied;
  own = applying.own;
  Measured = applying.Measured;
  proper = λ x d h e. no_perm x d e;
  Holds = HoldsInstances p Held bounded;
  limited = limited p good Held bounded;
  nothing = nothing p good Held bounded;
  taken = taken p good Held bounded;
  given = given p good Held bounded;
  tree = tree p good Held bounded;
  single = λ h k t u typed a b. tree_single p h k t u a b;
}

-- and where none may be
abbrev pub instances_world : (p : Program) → GoodBodies p → (Held : Name → Type 0) → ((x : Name) (d : Predicate) → predicate_named p x ≡ Some d → HaveNoPerm d.parameters) → Bool → World
instances_world p good Held no_perm bounded = functions_world p good Held no_perm bounded nothing_applied

-- Where what an application tells is gathered, none may be applied, and nothing is said of marks.
abbrev pub nothing_said : Applying
nothing_said = record { marks = Unsaid; Applied = λ f. ⊥; own = None; Measured = λ h f vs. Unit {0} }

abbrev pub quiet_world : (p : Program) → GoodBodies p → (Held : Name → Type 0) → ((x : Name) (d : Predicate) → predicate_named p x ≡ Some d → HaveNoPerm d.parameters) → Bool → World
quiet_world p good Held no_perm bounded = functions_world p good Held no_perm bounded nothing_said
