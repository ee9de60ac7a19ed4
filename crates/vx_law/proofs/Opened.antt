-- An instance that is exchanged for its body, in a state that can be: what is known of what is held goes on.
use Rattle.std.proofs.Common.{◌≡◌, ℕ, zero, suc, true, Option, Some, None, refl, sym, ◌∙◌, subst}
use Rattle.std.specs.Prelude.{Ok}
use Rattle.std.proofs.lemmas.Option.{same_Some}
use Rattle.std.proofs.lemmas.Bool.{and_parts}
use Rattle.vx_frac.specs.Fractions.{Fraction}
use Rattle.vx_ast.specs.Syntax.{Name, Program, Predicate, predicate_named, Assertion}
use Rattle.vx_meaning.specs.States as run
use Rattle.vx_meaning.specs.States.{State, Instance, Folded, amount, lost, bind, with_store, with_holdings}
use Rattle.vx_meaning.specs.Flatten.{bare}
use Rattle.vx_meaning.specs.Fits.{◌>>=◌, to_option, Deeper, has_instance, add, exchange, deeper}
use Rattle.vx_types.specs.Premises.{IsTypedProgram}
use Rattle.vx_types.specs.Closure.{InClosure}
use Rattle.vx_amounts.proofs.Amounts.{Le, Positive, positive-le}
use Rattle.vx_amounts.proofs.Products.{positive_le}
use Rattle.vx_sound.proofs.World.{IsTypedInstance}
use Rattle.vx_sound_preds.specs.Bodies.{Rigid, IsPlainBody}
use Rattle.vx_sound_preds.proofs.Fitting.{undo, Opens}
use Rattle.vx_sound_preds.proofs.Framing.{entries_seen, ok_same}
use Rattle.vx_sound_preds.proofs.Adding.{Fine, Adds, add_adds}
use Rattle.vx_sound_preds.proofs.Exchanging.{IsOpen, opened, entered_fine, all_open}
use Rattle.vx_sound_preds.proofs.Frames.{entries_positive}
use Rattle.vx_sound_preds.proofs.Entries.{entries_typed}
use Rattle.vx_sound_preds.proofs.Holding.{HoldsInstances, all_single, instance_rigid, taken, exchanged}
use Rattle.vx_sound_preds.proofs.Keeping.{held_typed}
use Rattle.vx_sound_preds.proofs.Speaking.{good, no_perm, speak}
use Rattle.vx_sound_funcs.proofs.Steps.{nothing_some, some_of}

module _ (p : Program) (x : Name) (typed : IsTypedProgram p) where
  abbrev Held : Name → Type 0
  Held = InClosure p x

  -- a body added in the place of its instance
  body_held : (d : Deeper) → Opens p (Fine p) d → (i : Instance) (q : Fraction) (s v : State) (b : Predicate) (e : Assertion) → predicate_named p i.predicate ≡ Some b → b.body ≡ Some e →
      HoldsInstances p (InClosure p x) true s.heap s.holdings → has_instance s i q ≡ true → add p d q e (with_store (bind b.parameters i.arguments) (with_holdings (lost (Folded i) q s.holdings) s)) ≡ Ok v →
      HoldsInstances p (InClosure p x) true s.heap v.holdings
  body_held d opens i q s v b e is body st has eq =
      let parts = and_parts _ _ has in
      let positive : Positive q = record { holds = parts.0 } in
      let below : Le q (amount s.holdings (Folded i)) = record { holds = parts.1 } in
      let there = positive-le positive below in
      let kind : IsTypedInstance p (InClosure p x) i = held_typed p Held s.holdings st.typed i there in
      let types = subst (λ (d : Predicate). run.HaveTypes d.parameters i.arguments) (same_Some kind.1.0 b (sym kind.1.1 ∙ is)) kind.1.3 in
      let o : IsOpen p s.heap i b e = opened p s.heap i b e is body (st.grounded i there) in
      let less : HoldsInstances p (InClosure p x) true s.heap (lost (Folded i) q s.holdings) = taken p (good p x typed) Held true s.heap s.holdings (Folded i) q kind (positive_le positive) below st in
      let start : State = with_store (bind b.parameters i.arguments) (with_holdings (lost (Folded i) q s.holdings) s) in
      let first : Fine p start = entered_fine p b.parameters i.arguments (with_holdings (lost (Folded i) q s.holdings) s) (instance_rigid p Held i kind) (less.debts, all_single p Held (lost (Folded i) q s.holdings) less.typed) less.grounded in
      let k : IsPlainBody p Rigid e = let g = good p x typed in g.plain i.predicate b e is body in
      let seen = entries_seen p Rigid (bare (bind b.parameters i.arguments) s.heap) start (record { store = refl; heap = refl }) e k in
      let adds : Adds p q o.entries_of start v = add_adds p q (positive_le positive) d opens e start v o.entries_of k first (seen ∙ o.entries_are) o.can eq in
      let speaks = speak p x typed i.predicate b e kind.0 is body in
      subst (HoldsInstances p (InClosure p x) true s.heap) (sym adds.holdings)
      (exchanged p (good p x typed) Held true s.heap s.holdings i q o.fuel o.inner o.entries_of st less positive o.flat_is o.body_is
      (entries_typed p Held (no_perm p x typed) b.parameters i.arguments types s.heap e o.entries_of speaks.0 k speaks.1 o.entries_are) o.can (entries_positive p (bare (bind b.parameters i.arguments) s.heap) e o.entries_of k o.entries_are))

  exchange_held : (d : Deeper) → Opens p (Fine p) d → (i : Instance) (q : Fraction) (s u : State) → HoldsInstances p (InClosure p x) true s.heap s.holdings → has_instance s i q ≡ true → exchange p d i q s ≡ Some u →
      HoldsInstances p (InClosure p x) true s.heap u.holdings
  exchange_held d opens i q s u st has eq = by_predicate (predicate_named p i.predicate) refl eq
    where
      start : Predicate → State
      start b = with_store (bind b.parameters i.arguments) (with_holdings (lost (Folded i) q s.holdings) s)

      body_side : Predicate → Option Assertion → Option State
      body_side b None = None
      body_side b (Some e) = to_option (add p d q e (start b) >>= λ v. Ok (with_store s.store v))

      side : Option Predicate → Option State
      side None = None
      side (Some b) = body_side b b.body

      by_body : (b : Predicate) → predicate_named p i.predicate ≡ Some b → (a : Option Assertion) → b.body ≡ a → body_side b a ≡ Some u → HoldsInstances p (InClosure p x) true s.heap u.holdings
      by_body b is None body e = nothing_some u e
      by_body b is (Some a) body e =
          let y = undo (add p d q a (start b)) (λ v. Ok (with_store s.store v)) u (some_of _ u e) in
          subst (λ (u : State). HoldsInstances p (InClosure p x) true s.heap u.holdings) (ok_same (with_store s.store y.it) u y.then) (body_held d opens i q s y.it b a is body st has y.is)

      by_predicate : (o : Option Predicate) → predicate_named p i.predicate ≡ o → side o ≡ Some u → HoldsInstances p (InClosure p x) true s.heap u.holdings
      by_predicate None is e = nothing_some u e
      by_predicate (Some b) is e = by_body b is b.body refl e

  pub opened_held : (n : ℕ) (i : Instance) (q : Fraction) (s u : State) → HoldsInstances p (InClosure p x) true s.heap s.holdings → has_instance s i q ≡ true → (deeper p n).opened i q s ≡ Some u → HoldsInstances p (InClosure p x) true s.heap u.holdings
  opened_held zero i q s u st has eq = nothing_some u eq
  opened_held (suc n) i q s u st has eq = exchange_held (deeper p n) (all_open p (good p x typed) n) i q s u st has eq
