-- Where no instance can be held: at most the whole of each location is, and nothing of null.
use Rattle.std.proofs.Common.{◌≡◌, ℕ, Bool, true, false, cond, [], ◌∷◌, None, refl, sym, ◌∙◌, ap, subst}
use Rattle.vx_frac.specs.Fractions.{Fraction, none, full, sum, minus}
use Rattle.vx_ast.specs.Syntax.{Name, Program}
use Rattle.vx_meaning.specs.States as run
use Rattle.vx_meaning.specs.Consistent.{spread, IsConsistent}
use Rattle.vx_rules.specs.Rules.{outer}
use Rattle.vx_elements.proofs.Settled.{Meaning}
use Rattle.vx_amounts.proofs.Amounts.{Le, le-refl, le-trans, le-is, add-below, add-left, minus_none, none-full, none-sum, sum_comm}
use Rattle.vx_sound.proofs.Marks.{Unmarked}
use Rattle.vx_sound.proofs.World.{at_field, Limited, IsTypedResource, World, Changing}
use Rattle.vx_sound.proofs.Chunks.{location_is, spread_bare}
use Rattle.vx_sound.proofs.Evaluate.{PartsGo}
use Rattle.vx_sound.proofs.Steps.{FoldsGo, UnfoldGo}

abbrev pub OnlyLocations : run.Holdings → Type 0
OnlyLocations [] = Unit {0}
OnlyLocations ((run.At l, q) ∷ rest) = OnlyLocations rest
OnlyLocations ((run.Folded k, q) ∷ rest) = ⊥

pub record HoldsFields (hs : run.Holdings) : Type 0 where
  pub limited : Limited true hs
  pub only : OnlyLocations hs

-- locations have nothing inside
spread_only : (p : Program) (n : ℕ) (h : run.Heap) (hs : run.Holdings) → OnlyLocations hs → spread p n h hs ≡ hs
spread_only p n h [] k = refl
spread_only p n h ((run.At l, q) ∷ rest) k = ap (λ r. (run.At l, q) ∷ r) (spread_only p n h rest k)
spread_only p n h ((run.Folded o, q) ∷ rest) k = absurd k

-- what is taken leaves no more than was
pub lost_limited : (l : run.Location) (q : Fraction) (hs : run.Holdings) → Le none q → Limited true hs → Limited true (run.lost (run.At l) q hs)
lost_limited l q hs z b = record { most = λ e k. le-trans (less k) (b.most e k); null = λ f. le-trans (less (at_field 0 f)) (b.null f) }
  where
    less : (k : run.Location) → Le (run.amount (run.lost (run.At l) q hs) (run.At k)) (run.amount hs (run.At k))
    less k = go (run.same_location k l)
      where
        go : (x : Bool) → Le (cond x (sum (minus q) (run.amount hs (run.At k))) (run.amount hs (run.At k))) (run.amount hs (run.At k))
        go true = add-below (run.amount hs (run.At k)) (minus_none z)
        go false = le-refl _

-- a state that can be holds of no location more than the whole
pub consistent_limited : (p : Program) (c : run.State) → IsConsistent p c → Limited true c.holdings
consistent_limited p c k = record {
  most = λ e l. subst (λ r. Le (run.amount r (run.At l)) full) (spread_bare p c.heap c.holdings) (record { holds = k.bounded 0 l });
  null = λ f. subst (λ r. Le (run.amount r (run.At (at_field 0 f))) none) (spread_bare p c.heap c.holdings) (record { holds = k.supported.null 0 f });
}

new_limited : (m : run.Location) (h : run.Holdings) → (m.receiver ≡ 0 → ⊥) → Le (run.amount h (run.At m)) none → Limited true h → Limited true (run.gained (run.At m) full h)
new_limited m h n z b = record { most = λ e l. go e l (run.same_location l m) refl; null = λ g. low g (run.same_location (at_field 0 g) m) refl }
  where
    go : true ≡ true → (l : run.Location) (x : Bool) → run.same_location l m ≡ x → Le (cond x (sum full (run.amount h (run.At l))) (run.amount h (run.At l))) full
    go t l true e = le-trans (add-left full (subst (λ k. Le (run.amount h (run.At k)) none) (sym (location_is l m e)) z)) (le-trans (sum_comm full none).there (none-sum full).there)
    go t l false e = b.most t l

    low : (g : Name) (x : Bool) → run.same_location (at_field 0 g) m ≡ x → Le (cond x (sum full (run.amount h (run.At (at_field 0 g)))) (run.amount h (run.At (at_field 0 g)))) none
    low g true e = absurd (n (sym (ap (λ (l : run.Location). l.receiver) (location_is (at_field 0 g) m e))))
    low g false e = b.null g

abbrev pub fields_world : Program → World
fields_world p = record {
  program = p;
  marks = Unmarked;
  bounded = true;
  Held = λ x. ⊥;
  Applied = λ f. ⊥;
  own = None;
  Measured = λ h f vs. Unit {0};
  proper = λ x d h e. absurd h;
  Holds = λ h hs. HoldsFields hs;
  limited = λ h hs k. k.limited;
  nothing = λ h. record { limited = record { most = λ e l. none-full; null = λ f. le-refl none }; only = tt };
  taken = taken;
  given = given;
  tree = λ h hs k st typed pos. absurd typed.0;
  single = λ h k t u typed a b. absurd typed.0;
}
  where
    taken : (h : run.Heap) (hs : run.Holdings) (r : run.Resource) (q : Fraction) → IsTypedResource p (λ x. ⊥) r → Le none q → Le q (run.amount hs r) → HoldsFields hs → HoldsFields (run.lost r q hs)
    taken h hs (run.At l) q typed sign enough k = record { limited = lost_limited l q hs sign k.limited; only = k.only }
    taken h hs (run.Folded o) q typed sign enough k = absurd typed.0

    given : (c : run.State) (r : run.Resource) (q : Fraction) → IsTypedResource p (λ x. ⊥) r → Le none q → HoldsFields c.holdings → IsConsistent p (run.with_holdings (run.gained r q c.holdings) c) → HoldsFields (run.gained r q c.holdings)
    given c (run.At l) q typed sign k can = record { limited = consistent_limited p (run.with_holdings (run.gained (run.At l) q c.holdings) c) can; only = k.only }
    given c (run.Folded o) q typed sign k can = absurd typed.0

pub fields_changing : (p : Program) → Changing (fields_world p)
fields_changing p = record {
  unmarked = refl;
  bounded = refl;
  of_no_function = refl;
  changed = λ c g same k. k;
  changed_tree = λ c g same k o typed pos t tr. absurd typed.0;
  changed_total = λ c g same k n l. (n, le-is (ap (λ (hs : run.Holdings). run.amount hs (run.At l)) (spread_only p n g c.holdings k.only ∙ sym (spread_only p n c.heap c.holdings k.only))));
  written = λ h hs l v k enough. k;
  written_tree = λ h hs l v k enough o typed pos t tr. absurd typed.0;
  created = λ h hs l k apart z. record { limited = new_limited l hs apart (subst (λ r. Le (run.amount r (run.At l)) none) (spread_only p 0 h hs k.only) (z 0)) k.limited; only = k.only };
}

-- no instance is exchanged, taken or given, and no function applied
pub fields_parts : (means : Meaning) (p : Program) (d : ℕ) → PartsGo means (fields_world p) (outer p d)
fields_parts means p d = record {
  unfolds = λ scope i s c at x ts vs a q on keys ga is pos st h. absurd keys.held;
  applies = λ scope i s c at f g ts vs on allowed named each st h. absurd allowed;
}

pub fields_fold : (means : Meaning) (p : Program) (d : ℕ) → FoldsGo means (fields_world p) (outer p d)
fields_fold means p d scope i s c at x ts vs a q on keys ga is pos st h outcome ran = absurd keys.held

pub fields_unfold : (means : Meaning) (p : Program) (d : ℕ) → UnfoldGo means (fields_world p) (outer p d)
fields_unfold means p d scope i s c at x ts vs a q on keys ga is pos st h outcome ran = absurd keys.held
