-- What applies no function fits alike, however applications are checked.
use Rattle.std.proofs.Common.{◌≡◌, ℕ, zero, suc, ◌≤◌, ◌∷◌, Option, Some, None, refl, sym, ◌∙◌, ap, arith}
use Rattle.std.specs.Prelude.{Ok}
use Rattle.vx_frac.specs.Fractions.{Fraction, none, at_most, is_positive}
use Rattle.vx_ast.specs.Syntax.{Program, Predicate, Expr, Number, Truth, Null, Part, Variable, Not, Operate, Divide, Connect, Choose, Read, Old, Apply, Unfolding, Exprs, NoMore, More, Assertion, Pure, Points, Both, Implied, Chosen, place_of, predicate_named}
use Rattle.vx_ast.specs.Syntax as syntax
use Rattle.vx_meaning.specs.Values.{Value, is_true, negated, operated, divided}
use Rattle.vx_meaning.specs.States.{State, Holdings, Instance, At, Folded, lost, bind, with_store, with_holdings}
use Rattle.vx_meaning.specs.Fits.{Checked, ◌>>=◌, or_fail, guard, to_option, Deeper, choose, connected, location_of, amount_of, readable, has_instance, fit, fit_all, take, take_part, add, add_part, exchange, deeper, Fits}
use Rattle.vx_sound_preds.specs.Bodies.{Rigid, IsPlain, ArePlain, IsPlainBody, GoodBodies}
use Rattle.vx_sound_preds.proofs.Adding.{Fine}
use Rattle.vx_sound_preds.proofs.Fitting.{Opens}
use Rattle.vx_sound_preds.proofs.Exchanging.{all_open}
use Rattle.vx_sound_funcs.specs.Firm.{firmly, FitsFirmly}

-- two ways to check applications, with the same exchanges
module _ (p : Program) (d d' : Deeper) (same : (j : Instance) (q : Fraction) (s : State) → d.opened j q s ≡ d'.opened j q s) where
  mutual
    pub fit_alike : (s : State) (e : Expr) → IsPlain e → fit p d s e ≡ fit p d' s e
    fit_alike s (Number at n) h = refl
    fit_alike s (Truth at b) h = refl
    fit_alike s (Null at) h = refl
    fit_alike s (Part at n m) h = refl
    fit_alike s (Variable at x) h = refl
    fit_alike s (Not at e) h = λ i. fit_alike s e h i >>= λ v. or_fail at (negated v)
    fit_alike s (Operate at op a b) h = λ i. fit_alike s a h.0 i >>= λ v. fit_alike s b h.1 i >>= λ w. or_fail at (operated op v w)
    fit_alike s (Divide at op a b) h = λ i. fit_alike s a h.0 i >>= λ v. fit_alike s b h.1 i >>= λ w. or_fail at (divided op v w)
    fit_alike s (Connect at c a b) h = λ i. fit_alike s a h.0 i >>= λ v. connected at c v (fit_alike s b h.1 i)
    fit_alike s (Choose at c a b) h = λ i. fit_alike s c h.0 i >>= λ v. choose at v (fit_alike s a h.1 i) (fit_alike s b h.2 i)
    fit_alike s (Read at e f) h = λ i. fit_alike s e h i >>= λ r. or_fail at (location_of f r) >>= λ l. or_fail at (readable p s l)
    fit_alike s (Old at e) h = absurd h
    fit_alike s (Apply at f es) h = absurd h
    fit_alike s (Unfolding at k es share e) h = λ i.
        fit_alike s share h.1 i >>= λ v. or_fail at (amount_of v) >>= λ q. guard at (is_positive q) >>= λ _. all_fit_alike s es h.0 i >>= λ vs.
        guard at (has_instance s record { predicate = k; arguments = vs } q) >>= λ _.
        or_fail at (same record { predicate = k; arguments = vs } q s i) >>= λ t. fit_alike t e h.2 i

    pub all_fit_alike : (s : State) (es : Exprs) → ArePlain es → fit_all p d s es ≡ fit_all p d' s es
    all_fit_alike s NoMore h = refl
    all_fit_alike s (More e es) h = λ i. fit_alike s e h.0 i >>= λ v. all_fit_alike s es h.1 i >>= λ vs. Ok (v ∷ vs)

  pub add_alike : (q : Fraction) (a : Assertion) (s : State) → IsPlainBody p Rigid a → add p d q a s ≡ add p d' q a s
  add_alike q (Pure e) s k = λ i. fit_alike s e k i >>= λ _. Ok s
  add_alike q (Points at e f share) s k = λ i.
      (fit_alike s e k.0 i >>= λ r. fit_alike s share k.1.plain i >>= λ v. or_fail at (location_of f r) >>= λ l. or_fail at (amount_of v) >>= λ a. guard at (at_most none a) >>= λ _. Ok (At l, a)) >>= add_part p d q s
  add_alike q (syntax.Instance at j es share) s k = λ i.
      (all_fit_alike s es k.0 i >>= λ vs. fit_alike s share k.1.plain i >>= λ v. or_fail at (amount_of v) >>= λ a. guard at (at_most none a) >>= λ _. Ok (Folded record { predicate = j; arguments = vs }, a)) >>= add_part p d q s
  add_alike q (Both a b) s k = λ i. add_alike q a s k.0 i >>= λ t. add_alike q b t k.1 i
  add_alike q (Implied c a) s k = λ i. fit_alike s c k.0 i >>= λ v. choose (place_of c) v (add_alike q a s k.1 i) (Ok s)
  add_alike q (Chosen c a b) s k = λ i. fit_alike s c k.0 i >>= λ v. choose (place_of c) v (add_alike q a s k.1 i) (add_alike q b s k.2 i)

  pub take_alike : (s : State) (q : Fraction) (a : Assertion) (h : Holdings) → IsPlainBody p Rigid a → take p d s q a h ≡ take p d' s q a h
  take_alike s q (Pure e) h k = λ i. fit_alike s e k i >>= λ v. guard (place_of e) (is_true v) >>= λ _. Ok h
  take_alike s q (Points at e f share) h k = λ i.
      (fit_alike s e k.0 i >>= λ r. fit_alike s share k.1.plain i >>= λ v. or_fail at (location_of f r) >>= λ l. or_fail at (amount_of v) >>= λ a. guard at (at_most none a) >>= λ _. Ok (At l, a)) >>= take_part p d s q at h
  take_alike s q (syntax.Instance at j es share) h k = λ i.
      (all_fit_alike s es k.0 i >>= λ vs. fit_alike s share k.1.plain i >>= λ v. or_fail at (amount_of v) >>= λ a. guard at (at_most none a) >>= λ _. Ok (Folded record { predicate = j; arguments = vs }, a)) >>= take_part p d s q at h
  take_alike s q (Both a b) h k = λ i. take_alike s q a h k.0 i >>= λ r. take_alike s q b r k.1 i
  take_alike s q (Implied c a) h k = λ i. fit_alike s c k.0 i >>= λ v. choose (place_of c) v (take_alike s q a h k.1 i) (Ok h)
  take_alike s q (Chosen c a b) h k = λ i. fit_alike s c k.0 i >>= λ v. choose (place_of c) v (take_alike s q a h k.1 i) (take_alike s q b h k.2 i)

  -- an exchange for a good body
  exchange_alike : GoodBodies p → (j : Instance) (q : Fraction) (s : State) → exchange p d j q s ≡ exchange p d' j q s
  exchange_alike good j q s = go (predicate_named p j.predicate) refl
    where
      start : Predicate → State
      start b = with_store (bind b.parameters j.arguments) (with_holdings (lost (Folded j) q s.holdings) s)

      body_side : Deeper → Predicate → Option Assertion → Option State
      body_side d b None = None
      body_side d b (Some e) = to_option (add p d q e (start b) >>= λ u. Ok (with_store s.store u))

      side : Deeper → Option Predicate → Option State
      side d None = None
      side d (Some b) = body_side d b b.body

      on : (b : Predicate) → predicate_named p j.predicate ≡ Some b → (a : Option Assertion) → b.body ≡ a → body_side d b a ≡ body_side d' b a
      on b is None body = refl
      on b is (Some e) body = ap (λ (x : Checked State). to_option (x >>= λ u. Ok (with_store s.store u))) (add_alike q e (start b) (good.plain j.predicate b e is body))

      go : (o : Option Predicate) → predicate_named p j.predicate ≡ o → side d o ≡ side d' o
      go None is = refl
      go (Some b) is = on b is b.body refl

module _ (p : Program) (good : GoodBodies p) where
  -- firm checks exchange as the others do
  pub firm_exchange : (n : ℕ) (j : Instance) (q : Fraction) (s : State) → (firmly p n).opened j q s ≡ (deeper p n).opened j q s
  firm_exchange zero j q s = refl
  firm_exchange (suc n) j q s = exchange_alike p (firmly p n) (deeper p n) (firm_exchange n) good j q s

  pub firm_open : (n : ℕ) → Opens p (Fine p) (firmly p n)
  firm_open n i q s u f has e = all_open p good n i q s u f has (sym (firm_exchange n i q s) ∙ e)

  -- what applies no function fits firmly where it fits
  pub firm_where_plain : (n : ℕ) (s : State) (e : Expr) → IsPlain e → fit p (firmly p n) s e ≡ fit p (deeper p n) s e
  firm_where_plain n s e k = fit_alike p (firmly p n) (deeper p n) (firm_exchange n) s e k

  pub plain_firmly : (s : State) (e : Expr) (v : Value) → IsPlain e → Fits p s e v → FitsFirmly p s e v
  plain_firmly s e v k f = let self : f.0 ≤ f.0 = omega arith in (f.0, firm_where_plain f.0 s e k ∙ f.1 f.0 self)
