-- An instance that is opened, by its level.
use Rattle.std.proofs.Common.{◌≡◌, ◌≢◌, ℕ, ◌-◌, ◌∷◌, Bool, true, false, Option, Some, None, Result, Ok, Err, refl, sym, ◌∙◌, ap}
use Rattle.vx_ast.specs.declared.Place.{Place}
use Rattle.vx_ast.specs.Syntax.{Predicate, Assertion, Expr, predicate_named}
use Rattle.vx_frac.specs.Fractions.{Fraction}
use Rattle.vx_meaning.specs.Values.{Value}
use Rattle.vx_meaning.specs.States.{State, Store, Holdings, Instance, Folded, bind, with_store, with_holdings}
use Rattle.vx_meaning.specs.Fits.{has_instance}
use Rattle.vx_run.specs.Going.{Going, Outcome, Supply, Failed, ◌>>=◌, continued, gives, ends_with, expect, require, failing_as}
use Rattle.vx_run.specs.Widths.{within_128_bits, less}
use Rattle.vx_run.specs.Evaluated.{Permitted, add}
use Rattle.vx_run.specs.Blame.{within, ended_within, counted, failed_as}
use Rattle.vx_run.specs.Configs.{Setting, Config, with_values, put_value}
use Rattle.vx_run.specs.Pending.{deeper_by, evaluate, opened_in, open_in, exchanged_in, body_exchanged, body_opened}
use Rattle.vx_run.specs.Frames.{Come}
use Rattle.vx_run.specs.declared.blame.Blame.{Blame}
use Rattle.vx_run.specs.declared.context.Within.{Within}
use Rattle.vx_run.proofs.Steps.{bracketed, within_on, failing_within}
use Rattle.vx_run.proofs.Levels.{opened_at}

module _ (t : Setting) (w : Within) (at : Place) (i : Instance) (q : Fraction) (e : Expr) (c : Config) (s : State) (k : Config → Going ℕ Config) (l : Supply ℕ) where
  abbrev pub opening : Going ℕ Config
  opening = put_value w.blame c (opened_in t w.level s at q e i) >>= k

  -- where the value goes on
  abbrev on : State → Going ℕ Value
  on u = evaluate t w.level Permitted u e

  -- what is opened first, and then the value
  parted : (m : Going ℕ State) → (put_value w.blame c (m >>= on) >>= k) ≡ ((within w.blame m >>= λ u. put_value w.blame c (on u)) >>= k)
  parted m =
      ap (λ (n : Going ℕ Value). (n >>= λ v. gives (with_values (v ∷ c.values) c)) >>= k) (within_on w.blame m on)
      ∙ ap (λ (n : Going ℕ Config). n >>= k) (bracketed (within w.blame m) (λ u. within w.blame (on u)) (λ v. gives (with_values (v ∷ c.values) c)))

  pub no_level : w.level ≡ 0 → (inner : Blame) → ((o : Outcome) → counted w.blame (failed_as (Failed at) o) ≡ counted inner o) → Err (counted inner (Failed at)) ≡ opening l
  no_level h inner f =
      ap (λ (o : Outcome). let x : Come = Err o in x) (sym (f (Failed at)))
      ∙ ap (λ (n : ℕ). (put_value w.blame c (failing_as (Failed at) ((deeper_by t n).opened at i q s) >>= on) >>= k) l) (sym h)

  module _ (inner : Blame) (h : w.level ≢ 0) (f : (o : Outcome) → counted w.blame (failed_as (Failed at) o) ≡ counted inner o) where
    abbrev exchanging : Option Predicate → Going ℕ State
    exchanging o =
        expect o (Failed at) >>= λ b. expect b.body (Failed at) >>= λ x. less within_128_bits at (Folded i) q s.holdings >>= λ left.
        add t.program within_128_bits (deeper_by t (w.level - 1)) q x (with_store (bind b.parameters i.arguments) (with_holdings left s)) >>= λ u. gives (with_store s.store u)

    abbrev entering : Going ℕ State → Going ℕ Config
    entering m = (within inner m >>= λ u. put_value w.blame c (on u)) >>= k

    entered : entering (exchanging (predicate_named t.program i.predicate)) ≡ opening
    entered =
        ap entering (sym (opened_at t w.level at i q s h))
        ∙ ap (λ (m : Going ℕ State). (m >>= λ u. put_value w.blame c (on u)) >>= k) (sym (failing_within w.blame inner (Failed at) f ((deeper_by t w.level).opened at i q s)))
        ∙ sym (parted (failing_as (Failed at) ((deeper_by t w.level).opened at i q s)))

    pub no_predicate : predicate_named t.program i.predicate ≡ None → Err (counted inner (Failed at)) ≡ opening l
    no_predicate n = ap (λ (o : Option Predicate). entering (exchanging o) l) (sym n) ∙ ap (λ (m : Going ℕ Config). m l) entered

    -- what is done with the body
    abbrev of_body : (b : Predicate) → Option Assertion → Going ℕ State
    of_body b o =
        expect o (Failed at) >>= λ x. less within_128_bits at (Folded i) q s.holdings >>= λ left.
        add t.program within_128_bits (deeper_by t (w.level - 1)) q x (with_store (bind b.parameters i.arguments) (with_holdings left s)) >>= λ u. gives (with_store s.store u)

    pub no_body : (b : Predicate) → predicate_named t.program i.predicate ≡ Some b → b.body ≡ None → Err (counted inner (Failed at)) ≡ opening l
    no_body b n m =
        ap (λ (o : Option Assertion). entering (of_body b o) l) (sym m)
        ∙ ap (λ (o : Option Predicate). entering (exchanging o) l) (sym n) ∙ ap (λ (m : Going ℕ Config). m l) entered

    -- its body is exchanged
    pub by_body : (b : Predicate) → predicate_named t.program i.predicate ≡ Some b → (x : Assertion) → b.body ≡ Some x → (within' : Within) → within'.blame ≡ inner → within'.level ≡ w.level - 1 →
        (exchanged_in t within' w at i q (bind b.parameters i.arguments) x e s c >>= k) l ≡ opening l
    by_body b n x m d eb el =
        ap (λ (z : Blame). ((within z (body_exchanged t d at i q (bind b.parameters i.arguments) x s) >>= λ u. put_value w.blame c (on u)) >>= k) l) eb
        ∙ ap (λ (z : ℕ). entering (body_exchanged t (record { level = z; blame = inner }) at i q (bind b.parameters i.arguments) x s) l) el
        ∙ ap (λ (o : Option Assertion). entering (of_body b o) l) (sym m)
        ∙ ap (λ (o : Option Predicate). entering (exchanging o) l) (sym n) ∙ ap (λ (m : Going ℕ Config). m l) entered

-- what is opened is held
module _ (t : Setting) (n : ℕ) (at : Place) (i : Instance) (q : Fraction) (e : Expr) (s : State) where
  abbrev where_held : Bool → Going ℕ Value
  where_held h = (require h (Failed at) >>= λ _. failing_as (Failed at) ((deeper_by t n).opened at i q s)) >>= λ u. evaluate t n Permitted u e

  pub held : has_instance s i q ≡ true → opened_in t n s at q e i ≡ open_in t n s at q e i
  held h = ap where_held (sym h)

  pub not_held : has_instance s i q ≡ false → (let m : Going ℕ Value = ends_with (Failed at) in m) ≡ open_in t n s at q e i
  not_held h = ap where_held (sym h)

-- so much less is held, or the run is over
module _ (t : Setting) (inner w : Within) (at : Place) (i : Instance) (q : Fraction) (x : Store) (body : Assertion) (e : Expr) (c : Config) (s : State) (k : Config → Going ℕ Config) (l : Supply ℕ) where
  abbrev of_left : Going ℕ Holdings → Going ℕ Config
  of_left m =
      (within inner.blame (m >>= λ left. add t.program within_128_bits (deeper_by t inner.level) q body (with_store x (with_holdings left s)) >>= λ u. gives (with_store s.store u))
      >>= λ u. put_value w.blame c (evaluate t w.level Permitted u e)) >>= k

  stored : c.state.store ≡ s.store → (y : Result (State × Supply ℕ) Outcome) →
      continued (continued (ended_within inner.blame y) (λ u. put_value w.blame c (evaluate t w.level Permitted (with_store c.state.store u) e))) k
      ≡ continued (continued (ended_within inner.blame (continued y (λ u. gives (with_store s.store u)))) (λ u. put_value w.blame c (evaluate t w.level Permitted u e))) k
  stored same (Ok (v, r)) = ap (λ (z : Store). (put_value w.blame c (evaluate t w.level Permitted (with_store z v) e) >>= k) r) same
  stored same (Err o) = refl

  pub the_left : c.state.store ≡ s.store → (left : Holdings) → (let m : Going ℕ Holdings = gives left in m) ≡ less within_128_bits at (Folded i) q s.holdings →
      (body_opened t inner w q body e (with_store x (with_holdings left s)) c >>= k) l ≡ (exchanged_in t inner w at i q x body e s c >>= k) l
  the_left same left r =
      stored same (add t.program within_128_bits (deeper_by t inner.level) q body (with_store x (with_holdings left s)) l)
      ∙ ap (λ (m : Going ℕ Holdings). of_left m l) r
