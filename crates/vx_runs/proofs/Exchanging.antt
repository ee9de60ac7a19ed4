-- What is exchanged for its body: nothing is held that wasn't, and the state stays one that can be.
use Rattle.std.proofs.Common.{arith, ◌≡◌, ◌+◌, ℕ, Bool, true, false, cond, List, [], ◌∷◌, Option, Some, None, refl, sym, ◌∙◌, ap, subst}
use Rattle.std.specs.Prelude.{Ok, Err, option_and_then}
use Rattle.std.proofs.lemmas.Option.{same_Some}
use Rattle.std.proofs.lemmas.Bool.{and_parts}
use Rattle.vx_frac.specs.Fractions.{Fraction, none, sum}
use Rattle.vx_ast.specs.Syntax.{Name, Program, Predicate, predicate_named, Assertion, Pure, Points, Both, Implied, Chosen, Exprs}
use Rattle.vx_ast.specs.Syntax as syntax
use Rattle.vx_meaning.specs.Values.{Value}
use Rattle.vx_meaning.specs.States.{State, Heap, Holdings, Location, Instance, Resource, At, Folded, HaveTypes, same_resource, amount, bind, lost, with_store, with_holdings}
use Rattle.vx_meaning.specs.Evaluate.{applications}
use Rattle.vx_meaning.specs.Flatten.{bare, body_entries, flat}
use Rattle.vx_meaning.specs.Consistent.{IsHeld, total}
use Rattle.vx_meaning.specs.Fits.{Checked, ◌>>=◌, to_option, has_instance, Deeper, deeper, add, exchange, fit_all}
use Rattle.vx_types.specs.Typing.{Scope, IsTyped, IsTypedContent, HaveNoPerm}
use Rattle.vx_types.specs.Premises.{IsTypedProgram}
use Rattle.vx_amounts.proofs.Amounts.{Le, Positive, positive-le, not-positive, le-refl, le-trans}
use Rattle.vx_amounts.proofs.Products.{positive_le}
use Rattle.vx_sound.proofs.World.{IsTypedInstance, IsTypedResource}
use Rattle.vx_sound_preds.specs.Bodies.{GoodBodies}
use Rattle.vx_sound_preds.proofs.Grouped.{resource_is, AreSingle, NoDebts}
use Rattle.vx_sound_preds.proofs.Flats.{flat_later}
use Rattle.vx_sound_preds.proofs.Totals.{total_weighs}
use Rattle.vx_sound_preds.proofs.Adding.{Fine, added, add_adds}
use Rattle.vx_sound_preds.proofs.Frames.{entries_positive}
use Rattle.vx_sound_preds.proofs.Framing.{entries_seen}
use Rattle.vx_sound_preds.proofs.Entries.{asking_typed}
use Rattle.vx_sound_preds.proofs.Same.{same_entries}
use Rattle.vx_sound_preds.proofs.Asked.{AsksFor}
use Rattle.vx_sound_preds.proofs.Exchanging.{no_negatives, entered_fine, opened, held_exchanged, held_grows, total_exchanged, all_open}
use Rattle.vx_sound_preds.proofs.Holding.{TypedAll, all_single, taken, exchanged, instance_rigid}
use Rattle.vx_sound_preds.proofs.Typed.{good_bodies}
use Rattle.vx_types.specs.Typing as typing
use Rattle.vx_sound.proofs.Stripped.{all_fit_worth}
use Rattle.vx_sound_preds.proofs.TypedValues.{AreTyped, have_types, applications_typed}
use Rattle.vx_runs.proofs.Followed.{Any, Sane}

-- an exchange, step by step
pub record Unfolded (p : Program) (d : Deeper) (i : Instance) (q : Fraction) (s u : State) : Type 0 where
  pub predicate : Predicate
  pub named : predicate_named p i.predicate ≡ Some predicate
  pub body : Assertion
  pub body_is : predicate.body ≡ Some body
  pub after : State
  pub adds : add p d q body (with_store (bind predicate.parameters i.arguments) (with_holdings (lost (Folded i) q s.holdings) s)) ≡ Ok after
  pub is : with_store s.store after ≡ u

module _ (p : Program) (d : Deeper) (i : Instance) (q : Fraction) (s : State) where
  start : Predicate → State
  start b = with_store (bind b.parameters i.arguments) (with_holdings (lost (Folded i) q s.holdings) s)

  abbrev body_side : Predicate → Option Assertion → Option State
  body_side b None = None
  body_side b (Some e) = to_option (add p d q e (with_store (bind b.parameters i.arguments) (with_holdings (lost (Folded i) q s.holdings) s)) >>= λ u. Ok (with_store s.store u))

  abbrev side : Option Predicate → Option State
  side None = None
  side (Some b) = body_side b b.body

  pub unfolded : (u : State) → exchange p d i q s ≡ Some u → Unfolded p d i q s u
  unfolded u eq = go (predicate_named p i.predicate) refl eq
    where
      nothing : {R : Type 0} → ◌≡◌ {A = Option State} None (Some u) → R
      nothing e = cc

      ended : (x : Checked State) → to_option (x >>= λ u. Ok (with_store s.store u)) ≡ Some u → (v : State) × (x ≡ Ok v) × (with_store s.store v ≡ u)
      ended (Ok v) e = (v, refl, same_Some (with_store s.store v) u e)
      ended (Err at) e = nothing e

      on : (b : Predicate) → predicate_named p i.predicate ≡ Some b → (a : Option Assertion) → b.body ≡ a → body_side b a ≡ Some u → Unfolded p d i q s u
      on b is None body e = nothing e
      on b is (Some a) body e =
          let x = ended (add p d q a (with_store (bind b.parameters i.arguments) (with_holdings (lost (Folded i) q s.holdings) s))) e in
          record { predicate = b; named = is; body = a; body_is = body; after = x.0; adds = x.1; is = x.2 }

      go : (o : Option Predicate) → predicate_named p i.predicate ≡ o → side o ≡ Some u → Unfolded p d i q s u
      go None is e = nothing e
      go (Some b) is e = on b is b.body refl e

  pub unfolds : (u : State) → Unfolded p d i q s u → exchange p d i q s ≡ Some u
  unfolds u k =
      ap side k.named ∙ ap (body_side k.predicate) k.body_is
      ∙ ap (λ (x : Checked State). to_option (x >>= λ u. Ok (with_store s.store u))) k.adds ∙ ap Some k.is

-- assertions of any predicates
pub asks_any : (a : Assertion) → AsksFor Any a
asks_any (Pure e) = tt
asks_any (Points at e f share) = tt
asks_any (syntax.Instance at i es share) = tt
asks_any (Both a b) = (asks_any a, asks_any b)
asks_any (Implied c a) = asks_any a
asks_any (Chosen c a b) = (asks_any a, asks_any b)

-- an instance of which something is held is typed
pub held_typed : (p : Program) (hs : Holdings) (i : Instance) → TypedAll p Any hs → Positive (amount hs (Folded i)) → IsTypedInstance p Any i
held_typed p [] i t z = absurd (not-positive z (le-refl none))
held_typed p ((At l, a) ∷ hs) i t z = held_typed p hs i t.1 z
held_typed p ((Folded k, a) ∷ hs) i t z = go (same_resource (Folded i) (Folded k)) refl z (held_typed p hs i t.1)
  where
    is : (j k : Instance) → ◌≡◌ {A = Resource} (Folded j) (Folded k) → j ≡ k
    is j k e = cc

    go : (b : Bool) → same_resource (Folded i) (Folded k) ≡ b → Positive (cond b (sum a (amount hs (Folded i))) (amount hs (Folded i))) → (Positive (amount hs (Folded i)) → IsTypedInstance p Any i) → IsTypedInstance p Any i
    go true e z f = subst (IsTypedInstance p Any) (sym (is i k (resource_is (Folded i) (Folded k) (instance_rigid p Any k t.0) e))) t.0
    go false e z f = f z

pub record Exchanged (p : Program) (s u : State) : Type 0 where
  pub holdings : Holdings
  pub is : u ≡ with_holdings holdings s
  pub sane : Sane p s.heap holdings
  pub held : (l : Location) → IsHeld p s.heap holdings l → IsHeld p s.heap s.holdings l
  pub covers : (l : Location) → IsHeld p s.heap s.holdings l → IsHeld p s.heap holdings l

module _ (p : Program) (typed : IsTypedProgram p) where
  good : GoodBodies p
  good = good_bodies p typed

  pub no_perm : (x : Name) (d : Predicate) → predicate_named p x ≡ Some d → HaveNoPerm d.parameters
  no_perm x d is = let k = typed.predicates x d is in k.parameters

  -- an instance that is named, with arguments that fit, is one that can be held
  pub instance_kind : (ds : Scope) (s : State) → AreTyped ds s.store → (n : ℕ) (es : Exprs) (i : Name) (d : Predicate) (vs : List Value) → predicate_named p i ≡ Some d → typing.HaveTypes p ds es d.parameters → fit_all p (deeper p n) s es ≡ Ok vs → IsTypedResource p Any (Folded record { predicate = i; arguments = vs })
  instance_kind ds s k n es i d vs is ty fits = (tt, (d, is, no_perm i d is, have_types p typed.functions n (applications_typed p typed.functions n) s k ty vs (all_fit_worth p n s es vs fits)))

  pub body_typed : (x : Name) (d : Predicate) (a : Assertion) → predicate_named p x ≡ Some d → d.body ≡ Some a → IsTyped p d.parameters a
  body_typed x d a is body = let k = typed.predicates x d is in subst (IsTypedContent p d.parameters) body k.body

  same_predicate : (a b : Predicate) → Some a ≡ Some b → a ≡ b
  same_predicate a b e = cc

  pub exchange_sane : (n : ℕ) (i : Instance) (q : Fraction) (s u : State) → Sane p s.heap s.holdings → has_instance s i q ≡ true → exchange p (deeper p n) i q s ≡ Some u → Exchanged p s u
  exchange_sane n i q s u sane has eq =
      let k = unfolded p (deeper p n) i q s u eq in
      let b = k.predicate in
      let parts = and_parts _ _ has in
      let positive : Positive q = record { holds = parts.0 } in
      let below : Le q (amount s.holdings (Folded i)) = record { holds = parts.1 } in
      let holds : Positive (amount s.holdings (Folded i)) = positive-le positive below in
      let of_type = held_typed p s.holdings i sane.typed holds in
      let rigid = instance_rigid p Any i of_type in
      let types : HaveTypes b.parameters i.arguments = subst (λ (d : Predicate). HaveTypes d.parameters i.arguments) (same_predicate of_type.1.0 b (sym of_type.1.1 ∙ k.named)) of_type.1.3 in
      let o = opened p s.heap i b k.body k.named k.body_is (sane.grounded i holds) in
      let less = taken p good Any true s.heap s.holdings (Folded i) q of_type (positive_le positive) below sane in
      let first : Fine p (with_store (bind b.parameters i.arguments) (with_holdings (lost (Folded i) q s.holdings) s)) =
      entered_fine p b.parameters i.arguments (with_holdings (lost (Folded i) q s.holdings) s) rigid (less.debts, all_single p Any (lost (Folded i) q s.holdings) less.typed) less.grounded in
      let plain = good.plain i.predicate b k.body k.named k.body_is in
      let seen = entries_seen p _ (bare (bind b.parameters i.arguments) s.heap) (with_store (bind b.parameters i.arguments) (with_holdings (lost (Folded i) q s.holdings) s)) (record { store = refl; heap = refl }) k.body plain in
      let adds = add_adds p q (positive_le positive) (deeper p n) (all_open p good n) k.body (with_store (bind b.parameters i.arguments) (with_holdings (lost (Folded i) q s.holdings) s)) k.after o.entries_of plain first (seen ∙ o.entries_are) o.can k.adds in
      let es = o.entries_of in
      let of_entries = asking_typed p Any no_perm typed.functions b.parameters i.arguments types s.heap 0 k.body es (body_typed i.predicate b k.body k.named k.body_is) (asks_any k.body)
      (same_entries p (applications p 0) (bare (bind b.parameters i.arguments) s.heap) k.body plain ∙ o.entries_are) in
      let positives = entries_positive p (bare (bind b.parameters i.arguments) s.heap) k.body es plain o.entries_are in
      let after : Sane p s.heap (added q es (lost (Folded i) q s.holdings)) =
      exchanged p good Any true s.heap s.holdings i q o.fuel o.inner es sane less positive o.flat_is o.body_is of_entries o.can positives in
      record {
        holdings = added q es (lost (Folded i) q s.holdings);
        is = sym k.is ∙ state_is k.after adds.heap adds.holdings adds.old_heap adds.old_holdings;
        sane = after;
        held = λ l h. held_exchanged p s.heap l (no_negatives p s.heap l good) i o.inner es s.holdings q o.fuel o.flat_is o.body_is (all_single p Any (added q es (lost (Folded i) q s.holdings)) after.typed) after.debts h;
        covers = λ l h. covered s.heap l i o.inner es s.holdings q o.fuel o.flat_is o.body_is (all_single p Any s.holdings sane.typed) sane.debts h;
      }
    where
      covered : (h : Heap) (l : Location) (i : Instance) (x es hs : Holdings) (q : Fraction) (m : ℕ) → flat p m h i ≡ Some x → option_and_then (λ d. body_entries p h i.arguments d) (predicate_named p i.predicate) ≡ Some es → AreSingle hs → NoDebts hs → IsHeld p h hs l →
          IsHeld p h (added q es (lost (Folded i) q hs)) l
      covered h l i x es hs q m e f si nd (n, y) =
          let z : n + m ≡ m + n = omega arith in
          let at : flat p (m + n) h i ≡ Some x = ap (λ (k : ℕ). flat p k h i) (sym z) ∙ flat_later p n m h i x e in
          let more : Positive (total p (m + n) h hs l) = held_grows p h l (no_negatives p h l good) hs si nd m n (record { holds = y }) in
          let same = total_exchanged p h l (m + n) i x es hs q at f in
          let there = positive-le more (le-trans (total_weighs p h l (m + n) hs).there (le-trans same.back (total_weighs p h l (m + n) (added q es (lost (Folded i) q hs))).back)) in
          (m + n, there.holds)

      state_is : {hs : Holdings} (v : State) → v.heap ≡ s.heap → v.holdings ≡ hs → v.old_heap ≡ s.old_heap → v.old_holdings ≡ s.old_holdings → with_store s.store v ≡ with_holdings hs s
      state_is v a b c d = λ i. record { store = s.store; heap = a i; holdings = b i; old_heap = c i; old_holdings = d i }
