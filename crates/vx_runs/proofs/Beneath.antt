-- The states that a run by contracts is in beneath a whole run, and what checks there say.
use Rattle.std.proofs.Common.{◌≡◌, ℕ, Bool, true, false, ◌⊎◌, inl, inr, ◌++◌, refl, sym, subst}
use Rattle.std.specs.Prelude.{Ok, Err}
use Rattle.vx_ast.specs.Syntax.{Program}
use Rattle.vx_meaning.specs.States.{State, Store, Heap, Holdings, Location}
use Rattle.vx_meaning.specs.Consistent.{IsHeld}
use Rattle.vx_meaning.specs.Fits.{Checked, Eventually}
use Rattle.vx_meaning.specs.Outcomes.{Outcome, Outcomes, checked, passes, refused}
use Rattle.vx_meaning.specs.Values.{Value, is_true}
use Rattle.vx_meaning.specs.Give.{side, when}
use Rattle.vx_meaning.specs.Around.{Around}
use Rattle.vx_types.specs.Typing.{Scope}
use Rattle.vx_sound_preds.specs.Bodies.{GoodBodies}
use Rattle.vx_sound_preds.proofs.Grouped.{NoDebts}
use Rattle.vx_runs.proofs.Surely.{Surely, surely_then, surely_map}
use Rattle.vx_runs.proofs.Rising.{Rises, RisesTo, Passes, Refuses, one_end}
use Rattle.vx_runs.proofs.Mirrored.{err_ok, ok_is}
use Rattle.vx_runs.proofs.Followed.{Sane, SaneKept, Agree, Alike, AtMost, StoreOf, Under, Shadow, Follows, NeverFails}
use Rattle.vx_runs.proofs.Fewer.{at_most_both, sane_fewer}
use Rattle.vx_runs.proofs.Together.{more_with, typed_right}
use Rattle.vx_runs.proofs.Agreeing.{agree_self, agree_back, alike_then}
use Rattle.vx_runs.proofs.Stores.{store_typed}

-- a state with the variables of w, and these heaps and holdings
abbrev pub seen : State → Holdings → Holdings → Heap → Heap → State
seen w less old_less g o = record { store = w.store; heap = g; holdings = less; old_heap = o; old_holdings = old_less }

-- A run by contracts can be here while the whole run is at w; h is a heap that was asked for.
pub record Beneath (p : Program) (ds : Scope) (Reached : State → Type 0) (w : State) (less old_less : Holdings) (h g o : Heap) : Type 0 where
  pub reached : Reached (seen w less old_less g o)
  pub heap : Alike p h g
  pub old_heap : Agree p w.old_heap old_less o
  pub under : Under p ds w (seen w less old_less g o)
  pub agree : Agree p w.heap less g

abbrev pub IsBeneath : (p : Program) (ds : Scope) (Reached : State → Type 0) (w : State) (less old_less : Holdings) → (Heap → Heap → Type 0) → Heap → Type 0
IsBeneath p ds Reached w less old_less And h = (g : Heap) × (o : Heap) × Beneath p ds Reached w less old_less h g o × And g o

module _ (p : Program) (good : GoodBodies p) (kept : SaneKept p) where
  pub fewer_less : {ds : Scope} {a : Around} {keeps : Holdings} {Reached : State → Type 0} {w : State} (f : Follows p ds a keeps Reached w) → AtMost f.less w.holdings
  fewer_less {keeps = keeps} {w = w} f = at_most_both f.less (keeps ++ f.less) w.holdings (more_with keeps f.less f.kept_debts) f.fewer

  pub sane_alone : {ds : Scope} {a : Around} {keeps : Holdings} {Reached : State → Type 0} {w : State} (f : Follows p ds a keeps Reached w) → Sane p w.heap w.holdings
  sane_alone {a = a} {w = w} f = sane_fewer p good w.heap w.holdings (a.holdings ++ w.holdings) f.whole (typed_right p a.holdings w.holdings f.whole.typed) f.debts (more_with a.holdings w.holdings f.around)

  is_beneath : {ds : Scope} {a : Around} {keeps : Holdings} {Reached : State → Type 0} {w : State} (f : Follows p ds a keeps Reached w) (h : Heap) → Agree p w.heap f.less h → (s : State) → Shadow p Reached w f.less f.old_less h s →
      Beneath p ds Reached w f.less f.old_less h s.heap s.old_heap
  is_beneath {ds = ds} {Reached = Reached} {w = w} f h agree s k = record {
    reached = subst Reached whole k.reached;
    heap = k.heap;
    old_heap = k.old_heap;
    under = record {
      store = λ x t e. refl;
      typed = store_typed ds w.store f.store;
      sane = (kept w.heap s.heap f.less f.sane agrees).0;
      fewer = fewer_less f;
      agree = agree_back p good kept w.heap s.heap f.less f.sane agrees;
      old_sane = (kept w.old_heap s.old_heap f.old_less f.old_sane k.old_heap).0;
      old_fewer = f.old_fewer;
      old_agree = agree_back p good kept w.old_heap s.old_heap f.old_less f.old_sane k.old_heap;
    };
    agree = agrees;
  }
    where
      agrees : Agree p w.heap f.less s.heap
      agrees = alike_then p w.heap h s.heap f.less agree k.heap

      whole : s ≡ seen w f.less f.old_less s.heap s.old_heap
      whole = λ i. record { store = k.store i; heap = s.heap; holdings = k.holdings i; old_heap = s.old_heap; old_holdings = k.old_holdings i }

  pub beneath : {ds : Scope} {a : Around} {keeps : Holdings} {Reached : State → Type 0} {w : State} (f : Follows p ds a keeps Reached w) (h : Heap) → Agree p w.heap f.less h →
      Surely ((g : Heap) × (o : Heap) × Beneath p ds Reached w f.less f.old_less h g o)
  beneath f h agree = surely_map (f.shadow h agree) (λ x. (x.0.heap, x.0.old_heap, is_beneath f h agree x.0 x.1))

  -- What a check says where it is never refused: in the whole run it passes, and beneath in every heap.
  pub record Passing {A B : Type 0} (Rel : A → B → Type 0) (ds : Scope) (Reached : State → Type 0) (w : State) (less old_less : Holdings) (c : State → ℕ → Checked A) (d : ℕ → Checked B) (more : B → Outcomes) (o : Outcome) : Type 0 where
    pub it : B
    pub by : Eventually (λ n. d n ≡ Ok it)
    pub on : more it o
    pub each : (h : Heap) → Agree p w.heap less h → Surely (IsBeneath p ds Reached w less old_less (λ g old. (x : A) × Rel x it × Eventually (λ n. c (seen w less old_less g old) n ≡ Ok x)) h)

  pub passing : {A B : Type 0} (Rel : A → B → Type 0) {ds : Scope} {a : Around} {keeps : Holdings} {Reached : State → Type 0} {w : State} (f : Follows p ds a keeps Reached w) (c : State → ℕ → Checked A) (d : ℕ → Checked B) →
      ((g old : Heap) → Under p ds w (seen w f.less f.old_less g old) → RisesTo Rel (c (seen w f.less f.old_less g old)) d) → (rest : State → A → Outcomes) → NeverFails Reached (λ s. checked (c s) (rest s)) → (more : B → Outcomes) (o : Outcome) → checked d more o →
      Surely (Passing Rel ds Reached w f.less f.old_less c d more o)
  passing {A = A} {B = B} Rel {ds = ds} {Reached = Reached} {w = w} f c d rises rest never more o run = surely_then (beneath f w.heap (agree_self p w.heap f.less)) first
    where
      -- in the state beneath, it passes
      there : (h g old : Heap) → Beneath p ds Reached w f.less f.old_less h g old → Passes Rel (c (seen w f.less f.old_less g old)) d ⊎ Refuses (c (seen w f.less f.old_less g old)) → Passes Rel (c (seen w f.less f.old_less g old)) d
      there h g old b (inl k) = k
      there h g old b (inr (place, k)) = absurd (never (seen w f.less f.old_less g old) b.reached place (refused place k refl))

      passes_at : (h g old : Heap) → Beneath p ds Reached w f.less f.old_less h g old → Surely (Passes Rel (c (seen w f.less f.old_less g old)) d)
      passes_at h g old b = surely_map (rises g old b.under) (there h g old b)

      each : (b : B) → Eventually (λ n. d n ≡ Ok b) → (h : Heap) → Agree p w.heap f.less h → Surely (IsBeneath p ds Reached w f.less f.old_less (λ g old. (x : A) × Rel x b × Eventually (λ n. c (seen w f.less f.old_less g old) n ≡ Ok x)) h)
      each b is h agree = surely_then (beneath f h agree) (λ x. surely_map (passes_at h x.0 x.1 x.2) (λ k. (x.0, x.1, x.2, (k.less, subst (λ (z : B). Rel k.less z) (ok_is k.more b (one_end d (Ok k.more) (Ok b) k.by_more is)) k.related, k.by_less))))

      go : checked d more o → (k : B) → Eventually (λ n. d n ≡ Ok k) → Passing Rel ds Reached w f.less f.old_less c d more o
      go (passes b x r) k is = record { it = b; by = x; on = r; each = each b x }
      go (refused place x r) k is = absurd (err_ok place k (one_end d (Err place) (Ok k) x is))

      first : (g : Heap) × (old : Heap) × Beneath p ds Reached w f.less f.old_less w.heap g old → Surely (Passing Rel ds Reached w f.less f.old_less c d more o)
      first x = surely_map (passes_at w.heap x.0 x.1 x.2) (λ k. go run k.more k.by_more)

  -- with the same value
  pub record Same {B : Type 0} (ds : Scope) (Reached : State → Type 0) (w : State) (less old_less : Holdings) (c : State → ℕ → Checked B) (d : ℕ → Checked B) (more : B → Outcomes) (o : Outcome) : Type 0 where
    pub it : B
    pub by : Eventually (λ n. d n ≡ Ok it)
    pub on : more it o
    pub each : (h : Heap) → Agree p w.heap less h → Surely (IsBeneath p ds Reached w less old_less (λ g old. Eventually (λ n. c (seen w less old_less g old) n ≡ Ok it)) h)

  pub passing_same : {B : Type 0} {ds : Scope} {a : Around} {keeps : Holdings} {Reached : State → Type 0} {w : State} (f : Follows p ds a keeps Reached w) (c : State → ℕ → Checked B) (d : ℕ → Checked B) →
      ((g old : Heap) → Under p ds w (seen w f.less f.old_less g old) → Rises (c (seen w f.less f.old_less g old)) d) → (rest : State → B → Outcomes) → NeverFails Reached (λ s. checked (c s) (rest s)) → (more : B → Outcomes) (o : Outcome) →
      checked d more o → Surely (Same ds Reached w f.less f.old_less c d more o)
  passing_same {B = B} {ds = ds} {Reached = Reached} {w = w} f c d rises rest never more o run = surely_map (passing (◌≡◌ {A = B}) f c d rises rest never more o run) go
    where
      go : Passing (◌≡◌ {A = B}) ds Reached w f.less f.old_less c d more o → Same ds Reached w f.less f.old_less c d more o
      go k = record {
        it = k.it;
        by = k.by;
        on = k.on;
        each = λ h agree. surely_map (k.each h agree) (λ x. (x.0, x.1, x.2, subst (λ (z : B). Eventually (λ n. c (seen w f.less f.old_less x.0 x.1) n ≡ Ok z)) x.3.1 x.3.2));
      }

  -- A whole run is followed where these states are reached beneath.
  pub follows : {ds : Scope} {a : Around} {keeps : Holdings} {Reached : State → Type 0} {w : State} (f : Follows p ds a keeps Reached w) (ds' : Scope) (Then : State → Type 0) (x : Store) (hs : Holdings) (h : Heap) →
      StoreOf ds' x → Sane p h (a.holdings ++ hs) → NoDebts hs → (less : Holdings) → AtMost (keeps ++ less) hs → Sane p h less →
      ((g : Heap) → Agree p h less g → Surely ((g' : Heap) × (old : Heap) × Then record { store = x; heap = g'; holdings = less; old_heap = old; old_holdings = f.old_less } × Alike p g g' × Agree p w.old_heap f.old_less old)) →
      Follows p ds' a keeps Then record { store = x; heap = h; holdings = hs; old_heap = w.old_heap; old_holdings = w.old_holdings }
  follows f ds' Then x hs h store whole debts less fewer sane reach = record {
    store = store;
    whole = whole;
    debts = debts;
    around = f.around;
    kept_debts = f.kept_debts;
    kept_typed = f.kept_typed;
    less = less;
    old_less = f.old_less;
    fewer = fewer;
    sane = sane;
    old_whole = f.old_whole;
    old_fewer = f.old_fewer;
    old_sane = f.old_sane;
    shadow = λ g agree. surely_map (reach g agree) (λ k. (record { store = x; heap = k.0; holdings = less; old_heap = k.1; old_holdings = f.old_less }, record { reached = k.2; store = refl; holdings = refl; heap = k.3; old_holdings = refl; old_heap = k.4 }));
  }

  -- in the same heap
  pub follows_here : {ds : Scope} {a : Around} {keeps : Holdings} {Reached : State → Type 0} {w : State} (f : Follows p ds a keeps Reached w) (ds' : Scope) (Then : State → Type 0) (x : Store) (hs : Holdings) →
      StoreOf ds' x → Sane p w.heap (a.holdings ++ hs) → NoDebts hs → (less : Holdings) → AtMost (keeps ++ less) hs → Sane p w.heap less → ((l : Location) → IsHeld p w.heap f.less l → IsHeld p w.heap less l) →
      ((g : Heap) → Agree p w.heap f.less g → Surely (IsBeneath p ds Reached w f.less f.old_less (λ g' old. Then record { store = x; heap = g'; holdings = less; old_heap = old; old_holdings = f.old_less }) g)) →
      Follows p ds' a keeps Then record { store = x; heap = w.heap; holdings = hs; old_heap = w.old_heap; old_holdings = w.old_holdings }
  follows_here {w = w} f ds' Then x hs store whole debts less fewer sane covers reach =
      follows f ds' Then x hs w.heap store whole debts less fewer sane (λ g agree. surely_map (reach g (λ l z. agree l (covers l z))) (λ k. (k.0, k.1, k.3, k.2.heap, k.2.old_heap)))

-- as one state is reached by others
pub follows_by : {p : Program} {ds : Scope} {a : Around} {keeps : Holdings} (First Then : State → Type 0) {w : State} → ((s : State) → First s → Then s) → Follows p ds a keeps First w → Follows p ds a keeps Then w
follows_by First Then by f = record {
  store = f.store;
  whole = f.whole;
  debts = f.debts;
  around = f.around;
  kept_debts = f.kept_debts;
  kept_typed = f.kept_typed;
  less = f.less;
  old_less = f.old_less;
  fewer = f.fewer;
  sane = f.sane;
  old_whole = f.old_whole;
  old_fewer = f.old_fewer;
  old_sane = f.old_sane;
  shadow = λ h agree. surely_map (f.shadow h agree) (λ k. (k.0, record { reached = by k.0 k.1.reached; store = k.1.store; holdings = k.1.holdings; heap = k.1.heap; old_holdings = k.1.old_holdings; old_heap = k.1.old_heap }));
}

-- a condition's side, by its value
pub side_ends : (v : Value) (x y : Outcomes) (o : Outcome) → side v x y o → ((is_true v ≡ true) × x o) ⊎ ((is_true v ≡ false) × y o)
side_ends v x y o k = go (is_true v) k
  where
    go : (b : Bool) → when b x y o → ((b ≡ true) × x o) ⊎ ((b ≡ false) × y o)
    go true k = inl (refl, k)
    go false k = inr (refl, k)

pub on_true : (v : Value) (x y : Outcomes) (o : Outcome) → is_true v ≡ true → x o → side v x y o
on_true v x y o e k = subst (λ (b : Bool). when b x y o) (sym e) k

pub on_false : (v : Value) (x y : Outcomes) (o : Outcome) → is_true v ≡ false → y o → side v x y o
on_false v x y o e k = subst (λ (b : Bool). when b x y o) (sym e) k

-- where a check has passed beneath
pub narrowed : (p : Program) (good : GoodBodies p) (kept : SaneKept p) {ds : Scope} {a : Around} {keeps : Holdings} {Reached : State → Type 0} {w : State} (f : Follows p ds a keeps Reached w) (Has : State → Type 0) →
    ((h : Heap) → Agree p w.heap f.less h → Surely (IsBeneath p ds Reached w f.less f.old_less (λ g old. Has (seen w f.less f.old_less g old)) h)) → Follows p ds a keeps (λ s. Reached s × Has s) w
narrowed p good kept {ds = ds} {Reached = Reached} {w = w} f Has each =
    follows_here p good kept f ds (λ s. Reached s × Has s) w.store w.holdings f.store f.whole f.debts f.less f.fewer f.sane (λ l z. z) (λ h agree. surely_map (each h agree) (λ b. (b.0, b.1, b.2, (b.2.reached, b.3))))
