-- An exchange of an instance for its body keeps every total, and so what is held.
use Rattle.std.proofs.Common.{◌≡◌, ℕ, zero, suc, ◌+◌, Bool, true, false, cond, List, [], ◌∷◌, ◌++◌, Option, Some, None, refl, sym, ◌∙◌, ap, subst, arith}
use Rattle.std.specs.Prelude.{Ok, Err, option_and_then, unwrap_or}
use Rattle.std.proofs.lemmas.Option.{same_Some}
use Rattle.std.proofs.lemmas.Bool.{and_parts}
use Rattle.vx_frac.specs.Fractions.{Fraction, none, sum, minus, product}
use Rattle.vx_ast.specs.Syntax.{Name, Program, Predicate, Declaration, Assertion, Pure, Points, Both, Implied, Chosen, predicate_named}
use Rattle.vx_ast.specs.Syntax as syntax
use Rattle.vx_meaning.specs.Values.{Value, IntValue, BoolValue, RefValue, PermValue, is_true}
use Rattle.vx_meaning.specs.States.{State, Heap, Holdings, Location, Instance, Resource, At, Folded, same_resource, amount, lost, scaled, bind, with_holdings, with_store}
use Rattle.vx_meaning.specs.Evaluate as plain
use Rattle.vx_meaning.specs.Evaluate.{value, values}
use Rattle.vx_meaning.specs.Flatten.{no_applications, bare, entries, location_entry, instance_entry, body_entries, within, with_inner, flat, IsGrounded}
use Rattle.vx_meaning.specs.Consistent.{total, IsHeld}
use Rattle.vx_meaning.specs.Fits.{Checked, ◌>>=◌, Deeper, to_option, has_instance, add, exchange, deeper}
use Rattle.vx_amounts.proofs.Amounts.{Le, Positive, Same, same-refl, same-sym, same-trans, le-refl, le-trans, le-is, sum_same, product_same, none-sum, sum-minus, sum_comm, sum_assoc, positive-le, not-positive, add-below, minus_none, difference-none}
use Rattle.vx_amounts.proofs.Products.{product_dist, product_comm, product-none, positive_le}
use Rattle.vx_sound_preds.specs.Bodies.{AreRigid, RigidStore, Rigid, IsPlainBody, GoodBodies}
use Rattle.vx_sound_preds.proofs.Fitting.{step, Keeps, Opens}
use Rattle.vx_sound_preds.proofs.Flats.{came, flat_more, flat_later}
use Rattle.vx_sound_preds.proofs.Totals.{weigh, same_is, weight, total_weighs, weight_of_body, weight_grows, AtLeastNone, NoNegatives}
use Rattle.vx_sound_preds.proofs.Grouped.{IsSingle, AreSingle, NoDebts, resource_is, weigh_grows}
use Rattle.vx_sound_preds.proofs.Framing.{above_none, entries_seen}
use Rattle.vx_sound_preds.proofs.Adding.{Sound, Grounded, Fine, IsEntry, AreEntries, added, weigh_added, add_adds}

-- The amounts of a body's entries

least_append : (xs ys : Holdings) → ((p : Program) (h : Heap) (l : Location) → AtLeastNone p h l xs) → ((p : Program) (h : Heap) (l : Location) → AtLeastNone p h l ys) → (p : Program) (h : Heap) (l : Location) → AtLeastNone p h l (xs ++ ys)
least_append [] ys a b p h l = b p h l
least_append (x ∷ xs) ys a b p h l = ((a p h l).0, least_append xs ys (λ p h l. (a p h l).1) b p h l)

module _ (p : Program) (h : Heap) (l : Location) where
  location_least : (f : Name) (r : Value) (a : Fraction) (es : Holdings) → Positive a → location_entry f r (PermValue a) ≡ Some es → AtLeastNone p h l es
  location_least f (RefValue r) a es k e = subst (AtLeastNone p h l) (same_Some ((At record { receiver = r; field = f }, a) ∷ []) es e) (positive_le k, tt)
  location_least f (IntValue r) a es k e = cc
  location_least f (BoolValue r) a es k e = cc
  location_least f (PermValue r) a es k e = cc

  append_least : (xs ys : Holdings) → AtLeastNone p h l xs → AtLeastNone p h l ys → AtLeastNone p h l (xs ++ ys)
  append_least [] ys a b = b
  append_least (x ∷ xs) ys a b = (a.0, append_least xs ys a.1 b)

  chosen_least : (v : Value) (x y : Option Holdings) (es : Holdings) → (x ≡ Some es → AtLeastNone p h l es) → (y ≡ Some es → AtLeastNone p h l es) → plain.choose v x y ≡ Some es → AtLeastNone p h l es
  chosen_least (BoolValue true) x y es a b e = a e
  chosen_least (BoolValue false) x y es a b e = b e
  chosen_least (IntValue z) x y es a b e = cc
  chosen_least (RefValue z) x y es a b e = cc
  chosen_least (PermValue z) x y es a b e = cc

  empty_least : (es : Holdings) → Some [] ≡ Some es → AtLeastNone p h l es
  empty_least es e = subst (AtLeastNone p h l) (same_Some [] es e) tt

  truth_least : (b : Bool) (es : Holdings) → cond b (Some []) None ≡ Some es → AtLeastNone p h l es
  truth_least true es e = empty_least es e
  truth_least false es e = cc

  pub entries_least : (s : State) (a : Assertion) (es : Holdings) → IsPlainBody p Rigid a → entries p s a ≡ Some es → AtLeastNone p h l es
  entries_least s (Pure e) es k eq =
      let y = came (value p no_applications s e) (λ v. cond (is_true v) (Some []) None) es eq in
      truth_least (is_true y.it) es y.then
  entries_least s (Points at e f share) es k eq =
      let y = came (value p no_applications s e) (λ r. option_and_then (location_entry f r) (value p no_applications s share)) es eq in
      location_least f y.it k.1.amount es (above_none k.1) (sym (step (location_entry f y.it) (PermValue k.1.amount) (k.1.value_is s)) ∙ y.then)
  entries_least s (syntax.Instance at i xs share) es k eq =
      let y = came (values p no_applications s xs) (λ vs. option_and_then (instance_entry i vs) (value p no_applications s share)) es eq in
      let e = sym (step (instance_entry i y.it) (PermValue k.1.amount) (k.1.value_is s)) ∙ y.then in
      subst (AtLeastNone p h l) (same_Some ((Folded record { predicate = i; arguments = y.it }, k.1.amount) ∷ []) es e) (positive_le (above_none k.1), tt)
  entries_least s (Both a b) es k eq =
      let y = came (entries p s a) (λ xs. option_and_then (λ ys. Some (xs ++ ys)) (entries p s b)) es eq in
      let z = came (entries p s b) (λ ys. Some (y.it ++ ys)) es y.then in
      subst (AtLeastNone p h l) (same_Some (y.it ++ z.it) es z.then) (append_least y.it z.it (entries_least s a y.it k.0 y.is) (entries_least s b z.it k.1 z.is))
  entries_least s (Implied c a) es k eq =
      let y = came (value p no_applications s c) (λ v. plain.choose v (entries p s a) (Some [])) es eq in
      chosen_least y.it (entries p s a) (Some []) es (entries_least s a es k.1) (empty_least es) y.then
  entries_least s (Chosen c a b) es k eq =
      let y = came (value p no_applications s c) (λ v. plain.choose v (entries p s a) (entries p s b)) es eq in
      chosen_least y.it (entries p s a) (entries p s b) es (entries_least s a es k.1) (entries_least s b es k.2) y.then

  pub no_negatives : GoodBodies p → NoNegatives p h l
  no_negatives good i es eq =
      let y = came (predicate_named p i.predicate) (λ d. body_entries p h i.arguments d) es eq in
      go y.it y.is y.it.body refl y.then
    where
      side : Predicate → Option Assertion → Option Holdings
      side d None = Some []
      side d (Some e) = entries p (bare (bind d.parameters i.arguments) h) e

      go : (d : Predicate) → predicate_named p i.predicate ≡ Some d → (b : Option Assertion) → d.body ≡ b → side d d.body ≡ Some es → AtLeastNone p h l es
      go d e None f g = empty_least es (sym (ap (side d) f) ∙ g)
      go d e (Some a) f g = entries_least (bare (bind d.parameters i.arguments) h) a es (good.plain i.predicate d a e f) (sym (ap (side d) f) ∙ g)

  -- Totals

  scaled_back : (q w : Fraction) → Same (sum (product q w) (product (minus q) w)) none
  scaled_back q w =
      same-trans (same-sym (product_dist q (minus q) w)) (same-trans (product_same (sum-minus q) (same-refl w))
      (subst (λ (x : Fraction). Same x none) (product_comm w none) (product-none w)))

  -- an instance exchanged for its body leaves the total as it is, by fuel that suffices for the instance
  pub total_exchanged : (k : ℕ) (i : Instance) (x es hs : Holdings) (q : Fraction) → flat p k h i ≡ Some x → option_and_then (λ d. body_entries p h i.arguments d) (predicate_named p i.predicate) ≡ Some es →
      Same (weigh (weight p h l k) (added q es (lost (Folded i) q hs))) (weigh (weight p h l k) hs)
  unfolding weigh
  total_exchanged k i x es hs q e f =
      let w = weight p h l k in
      let more = flat_more p k h i x e in
      let same : Same (weigh w es) (w (Folded i)) =
      same-trans (same-sym (weight_of_body p h l k i x more es f)) (same_is (ap (λ (o : Option Holdings). amount (unwrap_or o []) (At l)) (more ∙ sym e))) in
      same-trans (weigh_added w q es (lost (Folded i) q hs))
      (same-trans (sum_same (product_same (same-refl q) same) (same-refl (sum (product (minus q) (w (Folded i))) (weigh w hs))))
      (same-trans (same-sym (sum_assoc (product q (w (Folded i))) (product (minus q) (w (Folded i))) (weigh w hs)))
      (same-trans (sum_same (scaled_back q (w (Folded i))) (same-refl (weigh w hs))) (none-sum (weigh w hs)))))

-- Taking an amount of an instance that is held

pub held_rigid : (i : Instance) (hs : Holdings) → AreSingle hs → Positive (amount hs (Folded i)) → AreRigid i.arguments
held_rigid i [] h k = absurd (not-positive k (le-refl none))
held_rigid i (x ∷ xs) h k = go (same_resource (Folded i) x.0) refl (held_rigid i xs h.1) k
  where
    at : (c : Resource) → Folded i ≡ c → IsSingle c → AreRigid i.arguments
    at c e sc = subst IsSingle (sym e) sc

    go : (b : Bool) → same_resource (Folded i) x.0 ≡ b → (Positive (amount xs (Folded i)) → AreRigid i.arguments) → Positive (cond b (sum x.1 (amount xs (Folded i))) (amount xs (Folded i))) → AreRigid i.arguments
    go true e f k = at x.0 (resource_is (Folded i) x.0 h.0 e) h.0
    go false e f k = f k

lost_debts : (i : Instance) (q : Fraction) (hs : Holdings) → AreRigid i.arguments → Le q (amount hs (Folded i)) → NoDebts hs → NoDebts (lost (Folded i) q hs)
lost_debts i q hs ri le n c sc = go (same_resource c (Folded i)) refl
  where
    go : (b : Bool) → same_resource c (Folded i) ≡ b → Le none (cond b (sum (minus q) (amount hs c)) (amount hs c))
    go true e =
        let f : amount hs (Folded i) ≡ amount hs c = ap (amount hs) (sym (resource_is c (Folded i) ri e)) in
        le-trans (difference-none (subst (Le q) f le)) (sum_comm (amount hs c) (minus q)).there
    go false e = n c sc

lost_grounded : (p : Program) (i : Instance) (q : Fraction) (s : State) → Le none q → Grounded p s → Grounded p (with_holdings (lost (Folded i) q s.holdings) s)
lost_grounded p i q s le g j = go (same_resource (Folded j) (Folded i))
  where
    go : (b : Bool) → Positive (cond b (sum (minus q) (amount s.holdings (Folded j))) (amount s.holdings (Folded j))) → IsGrounded p s.heap j
    go true h = g j (positive-le h (add-below (amount s.holdings (Folded j)) (minus_none le)))
    go false h = g j h

pub lost_fine : (p : Program) (i : Instance) (q : Fraction) (s : State) → Le none q → AreRigid i.arguments → Le q (amount s.holdings (Folded i)) → Fine p s → Fine p (with_holdings (lost (Folded i) q s.holdings) s)
lost_fine p i q s sign ri le f = record {
  typed = f.typed;
  forth = (lost_debts i q s.holdings ri le f.forth.0, (ri, f.forth.1));
  back = lost_grounded p i q s sign f.back;
}

pub bound_rigid : (ds : List Declaration) (vs : List Value) → AreRigid vs → RigidStore (bind ds vs)
bound_rigid [] vs h = tt
bound_rigid (d ∷ ds) [] h = tt
bound_rigid (d ∷ ds) (v ∷ vs) h = (h.0, bound_rigid ds vs h.1)

pub entered_fine : (p : Program) (ds : List Declaration) (vs : List Value) (s : State) → AreRigid vs → Sound s → Grounded p s → Fine p (with_store (bind ds vs) s)
entered_fine p ds vs s ri so gr = record { typed = bound_rigid ds vs ri; forth = so; back = gr }

-- The entries of a grounded instance

pub record IsOpen (p : Program) (h : Heap) (i : Instance) (d : Predicate) (e : Assertion) : Type 0 where
  pub fuel : ℕ
  pub inner : Holdings
  pub flat_is : flat p fuel h i ≡ Some inner
  pub entries_of : Holdings
  pub entries_are : entries p (bare (bind d.parameters i.arguments) h) e ≡ Some entries_of
  pub body_is : option_and_then (λ d. body_entries p h i.arguments d) (predicate_named p i.predicate) ≡ Some entries_of
  pub can : AreEntries p h entries_of

inner_entries : (p : Program) (h : Heap) (n : ℕ) (es x : Holdings) → with_inner (flat p n h) es ≡ Some x → AreEntries p h es
inner_entries p h n [] x e = tt
inner_entries p h n (a ∷ rest) x e =
    let y = came (within (flat p n h) a.0 a.1) (λ inner. option_and_then (λ more. Some (a ∷ (inner ++ more))) (with_inner (flat p n h) rest)) x e in
    let z = came (with_inner (flat p n h) rest) (λ more. Some (a ∷ (y.it ++ more))) x y.then in
    (one a.0 a.1 y.it y.is, inner_entries p h n rest z.it z.is)
  where
    one : (r : Resource) (q : Fraction) (x : Holdings) → within (flat p n h) r q ≡ Some x → IsEntry p h r
    one (At l) q x e = tt
    one (Folded i) q x e = let y = came (flat p n h i) (λ inner. Some (scale q inner)) x e in (n, y.it, y.is)
      where
        scale : Fraction → Holdings → Holdings
        scale = scaled

pub opened : (p : Program) (h : Heap) (i : Instance) (d : Predicate) (e : Assertion) → predicate_named p i.predicate ≡ Some d → d.body ≡ Some e → IsGrounded p h i → IsOpen p h i d e
opened p h i d e is body g = go g.0 g.1 g.2
  where
    side : Option Assertion → Option Holdings
    side None = Some []
    side (Some e) = entries p (bare (bind d.parameters i.arguments) h) e

    nothing : (x : Holdings) → None ≡ Some x → ⊥
    nothing x e = cc

    go : (n : ℕ) (x : Holdings) → flat p n h i ≡ Some x → IsOpen p h i d e
    go zero x f = absurd (nothing x f)
    go (suc n) x f =
        let y = came (predicate_named p i.predicate) (λ d. option_and_then (with_inner (flat p n h)) (body_entries p h i.arguments d)) x f in
        let z = came (body_entries p h i.arguments y.it) (with_inner (flat p n h)) x y.then in
        let same : y.it ≡ d = same_Some y.it d (sym y.is ∙ is) in
        let of_d : body_entries p h i.arguments d ≡ Some z.it = ap (body_entries p h i.arguments) (sym same) ∙ z.is in
        record {
          fuel = suc n;
          inner = x;
          flat_is = f;
          entries_of = z.it;
          entries_are = sym (ap side body) ∙ of_d;
          body_is = step (λ d. body_entries p h i.arguments d) d is ∙ of_d;
          can = inner_entries p h n z.it x z.then;
        }

-- What is held after an exchange was held before it.

pub grown : (p : Program) (h : Heap) (l : Location) → NoNegatives p h l → (hs : Holdings) → AreSingle hs → NoDebts hs → (k n : ℕ) → Le (weigh (weight p h l n) hs) (weigh (weight p h l (k + n)) hs)
grown p h l nn hs si nd zero n = let z : n ≡ zero + n = omega arith in le-is (ap (λ (m : ℕ). weigh (weight p h l m) hs) z)
grown p h l nn hs si nd (suc k) n =
    let z : suc (k + n) ≡ suc k + n = omega arith in
    le-trans (grown p h l nn hs si nd k n)
    (le-trans (weigh_grows (weight p h l (k + n)) (weight p h l (suc (k + n))) (weight_grows p h l nn (k + n)) hs si nd)
    (le-is (ap (λ (m : ℕ). weigh (weight p h l m) hs) z)))

pub held_grows : (p : Program) (h : Heap) (l : Location) → NoNegatives p h l → (hs : Holdings) → AreSingle hs → NoDebts hs → (k n : ℕ) → Positive (total p n h hs l) → Positive (total p (k + n) h hs l)
held_grows p h l nn hs si nd k n e =
    positive-le e (le-trans (total_weighs p h l n hs).there (le-trans (grown p h l nn hs si nd k n) (total_weighs p h l (k + n) hs).back))

pub held_exchanged : (p : Program) (h : Heap) (l : Location) → NoNegatives p h l → (i : Instance) (x es hs : Holdings) (q : Fraction) (m : ℕ) → flat p m h i ≡ Some x →
    option_and_then (λ d. body_entries p h i.arguments d) (predicate_named p i.predicate) ≡ Some es →
    AreSingle (added q es (lost (Folded i) q hs)) → NoDebts (added q es (lost (Folded i) q hs)) → IsHeld p h (added q es (lost (Folded i) q hs)) l → IsHeld p h hs l
held_exchanged p h l nn i x es hs q m e f si nd (n, y) =
    let hs' = added q es (lost (Folded i) q hs) in
    let z : n + m ≡ m + n = omega arith in
    let k = m + n in
    let at : flat p (m + n) h i ≡ Some x = ap (λ (k : ℕ). flat p k h i) (sym z) ∙ flat_later p n m h i x e in
    let more : Positive (total p (m + n) h hs' l) = held_grows p h l nn hs' si nd m n (record { holds = y }) in
    let same = total_exchanged p h l (m + n) i x es hs q at f in
    let back = positive-le more (le-trans (total_weighs p h l (m + n) hs').there (le-trans same.there (total_weighs p h l (m + n) hs).back)) in
    (m + n, back.holds)

pub record Exchanged (p : Program) (d : Deeper) (i : Instance) (q : Fraction) (s u : State) (b : Predicate) (e : Assertion) : Type 0 where
  pub keeps : Keeps p s u
  pub fine : Fine p u

module _ (p : Program) (good : GoodBodies p) where
  -- a body added in the place of its instance
  body_added : (d : Deeper) → Opens p (Fine p) d → (i : Instance) (q : Fraction) (s v : State) (b : Predicate) (e : Assertion) → predicate_named p i.predicate ≡ Some b → b.body ≡ Some e →
      Fine p s → has_instance s i q ≡ true →
      add p d q e (with_store (bind b.parameters i.arguments) (with_holdings (lost (Folded i) q s.holdings) s)) ≡ Ok v → Keeps p s (with_store s.store v) × Fine p (with_store s.store v)
  body_added d opens i q s v b e is body f has eq =
      let parts = and_parts _ _ has in
      let positive : Positive q = record { holds = parts.0 } in
      let below : Le q (amount s.holdings (Folded i)) = record { holds = parts.1 } in
      let sign : Le none q = positive_le positive in
      let grounded = f.back i (positive-le positive below) in
      let rigid = held_rigid i s.holdings f.forth.1 (positive-le positive below) in
      let o = opened p s.heap i b e is body grounded in
      let less = lost_fine p i q s sign rigid below f in
      let start : State = with_store (bind b.parameters i.arguments) (with_holdings (lost (Folded i) q s.holdings) s) in
      let first : Fine p start = entered_fine p b.parameters i.arguments (with_holdings (lost (Folded i) q s.holdings) s) rigid less.forth less.back in
      let k = good.plain i.predicate b e is body in
      let seen = entries_seen p Rigid (bare (bind b.parameters i.arguments) s.heap) start (record { store = refl; heap = refl }) e k in
      let adds = add_adds p q sign d opens e start v o.entries_of k first (seen ∙ o.entries_are) o.can eq in
      let forth = subst (λ (hs : Holdings). NoDebts hs × AreSingle hs) adds.holdings adds.fine.forth in (
        record {
          store = refl;
          heap = adds.heap;
          held = λ l h.
              let there : IsHeld p s.heap (added q o.entries_of (lost (Folded i) q s.holdings)) l = subst (λ (g : Heap). IsHeld p g (added q o.entries_of (lost (Folded i) q s.holdings)) l) adds.heap (subst (λ (hs : Holdings). IsHeld p v.heap hs l) adds.holdings h) in
              held_exchanged p s.heap l (no_negatives p s.heap l good) i o.inner o.entries_of s.holdings q o.fuel o.flat_is o.body_is forth.1 forth.0 there;
        },
        record { typed = f.typed; forth = adds.fine.forth; back = adds.fine.back },
      )

  exchange_keeps : (d : Deeper) → Opens p (Fine p) d → (i : Instance) (q : Fraction) (s u : State) → Fine p s → has_instance s i q ≡ true → exchange p d i q s ≡ Some u → Keeps p s u × Fine p u
  exchange_keeps d opens i q s u f has eq = go (predicate_named p i.predicate) refl eq
    where
      start : Predicate → State
      start b = with_store (bind b.parameters i.arguments) (with_holdings (lost (Folded i) q s.holdings) s)

      body_side : Predicate → Option Assertion → Option State
      body_side b None = None
      body_side b (Some e) = to_option (add p d q e (start b) >>= λ u. Ok (with_store s.store u))

      side : Option Predicate → Option State
      side None = None
      side (Some b) = body_side b b.body

      nothing : None ≡ Some u → ⊥
      nothing e = cc

      ended : (x : Checked State) → to_option (x >>= λ u. Ok (with_store s.store u)) ≡ Some u → (v : State) × (x ≡ Ok v) × (with_store s.store v ≡ u)
      ended (Ok v) e = (v, refl, same_Some (with_store s.store v) u e)
      ended (Err at) e = absurd (nothing e)

      done : (b : Predicate) (e : Assertion) → predicate_named p i.predicate ≡ Some b → b.body ≡ Some e → to_option (add p d q e (start b) >>= λ u. Ok (with_store s.store u)) ≡ Some u → Keeps p s u × Fine p u
      done b e is body g =
          let x = ended (add p d q e (start b)) g in
          subst (λ (u : State). Keeps p s u × Fine p u) x.2 (body_added d opens i q s x.0 b e is body f has x.1)

      on : (b : Predicate) → predicate_named p i.predicate ≡ Some b → (a : Option Assertion) → b.body ≡ a → body_side b a ≡ Some u → Keeps p s u × Fine p u
      on b is None body e = absurd (nothing e)
      on b is (Some a) body e = done b a is body e

      go : (o : Option Predicate) → predicate_named p i.predicate ≡ o → side o ≡ Some u → Keeps p s u × Fine p u
      go None is e = absurd (nothing e)
      go (Some b) is e = on b is b.body refl e

  -- by any fuel
  pub all_open : (n : ℕ) → Opens p (Fine p) (deeper p n)
  all_open zero i q s u f has eq = absurd (nothing u eq)
    where
      nothing : (u : State) → None ≡ Some u → ⊥
      nothing u e = cc
  all_open (suc n) i q s u f has eq = exchange_keeps (deeper p n) (all_open n) i q s u f has eq
