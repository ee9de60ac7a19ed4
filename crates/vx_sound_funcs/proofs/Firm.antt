-- What fits firmly has like values in two states that are alike where something is held, where preconditions may apply functions.
use Rattle.std.proofs.Common.{◌≡◌, ℕ, zero, suc, ◌≤◌, [], List, Some, refl, sym, ◌∙◌, ap, subst, arith}
use Rattle.std.specs.Prelude.{Ok}
use Rattle.vx_frac.specs.Fractions.{none, full, sum, product}
use Rattle.vx_ast.specs.Syntax.{Name, Program, Function, function_named, Expr, Exprs, Assertion, Pure, Points, Both, Implied, Chosen}
use Rattle.vx_ast.specs.Syntax as syntax
use Rattle.vx_types.specs.Now.{IsOfNow, AreOfNow, SaysNow}
use Rattle.vx_meaning.specs.Values.{Value}
use Rattle.vx_meaning.specs.States.{State, Store, Heap, Holdings, Location, At, bind, with_store, value_at}
use Rattle.vx_meaning.specs.Evaluate.{applications, value}
use Rattle.vx_meaning.specs.Flatten.{bare}
use Rattle.vx_meaning.specs.Consistent.{total, IsHeld}
use Rattle.vx_meaning.specs.Fits.{fit}
use Rattle.vx_amounts.proofs.Amounts.{Le, Positive, Same, le-refl, le-trans, add-left, not-positive, positive-le}
use Rattle.vx_amounts.proofs.Products.{product_sign}
use Rattle.vx_sound_preds.specs.Bodies.{AreRigid, RigidStore, GoodBodies}
use Rattle.vx_sound_preds.proofs.Fitting.{step}
use Rattle.vx_sound_preds.proofs.Totals.{weigh, weight, total_weighs, weight_sign}
use Rattle.vx_sound_preds.proofs.Adding.{Fine, AreEntries, Adds, added, weigh_added}
use Rattle.vx_sound_preds.proofs.Exchanging.{no_negatives, bound_rigid, entered_fine}
use Rattle.vx_sound_preds.proofs.Folding.{Stock, weighs_at_least}
use Rattle.vx_sound_preds.proofs.Taking.{taken, weigh_taken}
use Rattle.vx_sound_funcs.specs.Told.{precondition_of}
use Rattle.vx_sound_preds.specs.Asking.{Says, AllSay, HasRigidArguments, asking_entries, IsAsking}
use Rattle.vx_sound_funcs.specs.Laws.{SpeakNow}
use Rattle.vx_sound_funcs.proofs.Likes.{Likes, Found}
use Rattle.vx_sound_funcs.proofs.Sees.{Matches, AppliesAlike, see}
use Rattle.vx_sound_funcs.proofs.Alike.{firm_open}
use Rattle.vx_sound_funcs.proofs.Steps.{Steps, nothing_some, found}
use Rattle.vx_sound_funcs.specs.Firm.{firmly, GoodFunctions}
use Rattle.vx_sound_funcs.proofs.Taking.{all_like_rigid, matches_seen, take_asks, add_asks}

-- by n firmly and by m, applications have like values
abbrev pub Alike : Program → ℕ → ℕ → Type 0
Alike p n m = AppliesAlike p (Fine p) (firmly p n) (applications p m) (HasRigidArguments p)

-- what was taken was held, in total
pub taken_total : (p : Program) → GoodBodies p → (h : Heap) (es hs rest : Holdings) (n : ℕ) (l : Location) → rest ≡ taken full es hs → Stock p h rest → Le (total p n h (added full es []) l) (total p n h hs l)
unfolding weigh
taken_total p good h es hs rest n l is st =
    let w = weight p h l n in
    let up = weight_sign p h l (no_negatives p h l good) n in
    let left : Le none (weigh w rest) = le-trans (product_sign (st.debts (At l) tt) (up (At l))) (weighs_at_least w up rest st.single st.debts (At l)) in
    let whole = subst (λ (r : Holdings). Same (sum (product full (weigh w es)) (weigh w r)) (weigh w hs)) (sym is) (weigh_taken w full es hs) in
    let more : Le (weigh w (added full es [])) (weigh w hs) =
    le-trans (weigh_added w full es []).there (le-trans (add-left (product full (weigh w es)) left) whole.there) in
    le-trans (total_weighs p h l n (added full es [])).there (le-trans more (total_weighs p h l n hs).back)

taken_held : (p : Program) → GoodBodies p → (h : Heap) (es hs rest : Holdings) (l : Location) → rest ≡ taken full es hs → Stock p h rest → IsHeld p h (added full es []) l → IsHeld p h hs l
taken_held p good h es hs rest l is st (n, z) =
    let r : Positive (total p n h hs l) = positive-le (record { holds = z }) (taken_total p good h es hs rest n l is st) in
    (n, r.holds)

-- what may be said has no `old`
module _ (May : Name → Exprs → Type 0) where
  mutual
    pub says_now : (e : Expr) → Says May e → IsOfNow e
    says_now (syntax.Number at n) k = tt
    says_now (syntax.Truth at b) k = tt
    says_now (syntax.Null at) k = tt
    says_now (syntax.Part at n m) k = tt
    says_now (syntax.Variable at x) k = tt
    says_now (syntax.Not at e) k = says_now e k
    says_now (syntax.Operate at op a b) k = (says_now a k.0, says_now b k.1)
    says_now (syntax.Divide at op a b) k = (says_now a k.0, says_now b k.1)
    says_now (syntax.Connect at c a b) k = (says_now a k.0, says_now b k.1)
    says_now (syntax.Choose at c a b) k = (says_now c k.0, says_now a k.1, says_now b k.2)
    says_now (syntax.Read at e f) k = says_now e k
    says_now (syntax.Old at e) k = absurd k
    says_now (syntax.Apply at f es) k = all_say_now es k.1
    says_now (syntax.Unfolding at i es share e) k = (all_say_now es k.0, says_now share k.1, says_now e k.2)

    pub all_say_now : (es : Exprs) → AllSay May es → AreOfNow es
    all_say_now syntax.NoMore k = tt
    all_say_now (syntax.More e es) k = (says_now e k.0, all_say_now es k.1)

-- so what may be asked has none
pub asking_now : (p : Program) (a : Assertion) → IsAsking p a → SaysNow a
asking_now p (Pure e) k = says_now (HasRigidArguments p) e k
asking_now p (Points at e f share) k = (says_now (HasRigidArguments p) e k.0, says_now (HasRigidArguments p) share k.1.says)
asking_now p (syntax.Instance at i es share) k = (all_say_now (HasRigidArguments p) es k.0, says_now (HasRigidArguments p) share k.1.says)
asking_now p (Both a b) k = (asking_now p a k.0, asking_now p b k.1)
asking_now p (Implied c a) k = (says_now (HasRigidArguments p) c k.0, asking_now p a k.1)
asking_now p (Chosen c a b) k = (says_now (HasRigidArguments p) c k.0, asking_now p a k.1, asking_now p b k.2)

pub speak_now : (p : Program) → GoodFunctions p → SpeakNow p
speak_now p functions f g named = says_now (HasRigidArguments p) g.body (functions.says f g named)

module _ (p : Program) (good : GoodBodies p) (functions : GoodFunctions p) where
  -- where a callee starts it holds what it took, and nothing else
  pub record Begun (m : ℕ) (g : Function) (vs : List Value) (s u : State) (rest : Holdings) : Type 0 where
    pub entries_of : Holdings
    pub entries_are : asking_entries p (applications p m) (bare (bind g.parameters vs) s.heap) (precondition_of g) ≡ Some entries_of
    pub can : AreEntries p s.heap entries_of
    pub rest_is : rest ≡ taken full entries_of s.holdings
    pub stock : Stock p s.heap rest
    pub adds : Adds p full entries_of (bare (bind g.parameters vs) s.heap) u

  pub begun : (n m : ℕ) → Alike p n m → (f : Name) (g : Function) (vs : List Value) (s : State) (v : Value) → function_named p f ≡ Some g → AreRigid vs → Stock p s.heap s.holdings → (k : Steps p (firmly p n) g vs s v) → Begun m g vs s k.start k.rest
  begun n m alike f g vs s v named ri stock k =
      let pre = precondition_of g in
      let asks = functions.asks f g named in
      let callee = with_store (bind g.parameters vs) s in
      let empty = bare (bind g.parameters vs) s.heap in
      let fine_callee : Fine p callee = entered_fine p g.parameters vs s ri (stock.debts, stock.single) stock.grounded in
      let fine_empty : Fine p empty = record { typed = bound_rigid g.parameters vs ri; forth = ((λ r sc. le-refl none), tt); back = λ i z. absurd (not-positive z (le-refl none)) } in
      let tk = take_asks p good (speak_now p functions) n m alike callee empty fine_callee (matches_seen p callee empty record { store = refl; heap = refl }) pre s.holdings k.rest asks stock k.takes in
      record {
        entries_of = tk.entries_of;
        entries_are = tk.entries_are;
        can = tk.can;
        rest_is = tk.rest_is;
        stock = tk.stock;
        adds = add_asks p good (speak_now p functions) n m alike empty pre empty k.start tk.entries_of asks fine_empty (record { store = refl; heap = refl }) tk.entries_are tk.can k.starts;
      }

  -- so a state that matches the caller's matches it
  entered : (m : ℕ) (g : Function) (vs : List Value) (s t u : State) (rest : Holdings) → Matches p s t → Begun m g vs s u rest → Matches p u (with_store (bind g.parameters vs) t)
  entered m g vs s t u rest like k = record {
    store = sym k.adds.store;
    heap = λ l z.
        let held = taken_held p good s.heap k.entries_of s.holdings rest l k.rest_is k.stock
        (subst (λ (q : Heap). IsHeld p q (added full k.entries_of []) l) k.adds.heap (subst (λ (hs : Holdings). IsHeld p u.heap hs l) k.adds.holdings z)) in
        subst (λ (q : Heap). Likes (value_at p q l) (value_at p t.heap l)) (sym k.adds.heap) (like.heap l held);
  }

  no_smaller : (n : ℕ) → suc n ≤ zero → ⊥
  no_smaller n le = omega arith

  smaller : (n m : ℕ) → suc n ≤ suc m → n ≤ m
  smaller n m le = omega arith

  -- what is applied firmly has a like value by as much fuel
  pub alike : (n m : ℕ) → n ≤ m → Alike p n m
  alike zero m le f es k vs ws s t v h like are rows e = nothing_some v e
  alike (suc n) zero le f es k vs ws s t v h like are rows e = absurd (no_smaller n le)
  alike (suc n) (suc m) le f es k vs ws s t v h like are rows e =
      let below = alike n m (smaller n m le) in
      let rigid : AreRigid ws = k (suc m) t ws (subst (λ (x : Store). RigidStore x) (sym like.store) h.typed) are in
      let same = all_like_rigid vs ws rigid rows in
      let c = found p (firmly p n) f vs s v e in
      let b = begun n m below f c.g vs s v c.named (subst AreRigid same rigid) (record { debts = h.forth.0; single = h.forth.1; grounded = h.back }) c.steps in
      let r = see p (Fine p) (firmly p n) (firm_open p good n) (applications p m) (HasRigidArguments p) below c.steps.start (with_store (bind c.g.parameters vs) t) b.adds.fine
      (entered m c.g vs s t c.steps.start c.steps.rest like b) c.g.body v (functions.says f c.g c.named) c.steps.fits in
      record {
        it = r.it;
        is = ap (λ (ws : List Value). applications p (suc m) f ws t) same ∙ step (λ (g : Function). value p (applications p m) (with_store (bind g.parameters vs) t) g.body) c.g c.named ∙ r.is;
        like = r.like;
      }

  -- an expression that fits firmly in s has a like value in each state that matches, by as much fuel
  pub see_firmly : (n m : ℕ) → n ≤ m → (s t : State) → Fine p s → Matches p s t → (e : Expr) (v : Value) → Says (HasRigidArguments p) e → fit p (firmly p n) s e ≡ Ok v → Found (value p (applications p m) t e) v
  see_firmly n m le s t h like e v k eq = see p (Fine p) (firmly p n) (firm_open p good n) (applications p m) (HasRigidArguments p) (alike n m le) s t h like e v k eq
