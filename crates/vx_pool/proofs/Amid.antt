-- What is so all the while, and stays so.
use Rattle.std.proofs.Common.{◌≡◌, ℕ, zero, suc, ◌+◌, ◌<◌, ◌≤◌, Bool, true, false, List, [], ◌∷◌, ◌++◌, Some, None, Option, slice_get, slice_set, get_or, length, refl, ap, sym, subst, ◌∙◌, arith, ◌⊎◌, inl, inr}
use Rattle.std.proofs.lemmas.List.{get_or-set_same, get_or-set_other}
use Rattle.std.proofs.lemmas.Option.{slice_get_within}
use Rattle.std.proofs.lemmas.Bool.{cases_eq}
use Rattle.vx_rules.specs.Trees.{Question}
use Rattle.vx_pool.specs.Events.{Event}
use Rattle.vx_pool.specs.Lanes.{Spares, Moves, AreApart, numbers, IsDone, Stands, StandsAt, AreStanding, AreFree, AreDone, AreHeld, Amid, Stopped, Changes}
use Rattle.vx_pool.specs.Counts.{count}
use Rattle.vx_pool.proofs.Counting.{read_set, some_waits}

pub length_set : {A : Type 0} (xs : List A) (i : ℕ) (y : A) → length (slice_set xs i y) ≡ length xs
length_set [] i y = refl
length_set (x ∷ xs) zero y = refl
length_set (x ∷ xs) (suc i) y = ap suc (length_set xs i y)

pub numbers_set : {W T : Type 0} (lane : T → ℕ) (lanes : List (W × T)) (i : ℕ) (a b : W × T) → slice_get lanes i ≡ Some a → lane b.1 ≡ lane a.1 → numbers lane (slice_set lanes i b) ≡ numbers lane lanes
numbers_set lane [] i a b is same = refl
numbers_set lane (l ∷ lanes) zero a b is same = grind (arith)
numbers_set lane (l ∷ lanes) (suc i) a b is same = ap (λ ns. lane l.1 ∷ ns) (numbers_set lane lanes i a b is same)

module _ {F W T H X : Type 0} (log : W → List (Event F)) (asked : W → Option Question) (ended : W → Bool) (Fits : W → X → Type 0) (number : W → ℕ) (lane : T → ℕ)
    (Held : T → H → Type 0) (Tells : T → H → List (Event F) → Type 0) (Asks : T → H → List (Event F) → Question → Type 0) (Later : H → H → Type 0) where
  -- a lane that stands is held
  stand_held : (shared : X) (hub : H) (state : Option Bool) (w : W) (t : T) → StandsAt log asked ended Fits number lane Held Tells Asks state shared hub w t → Held t hub
  stand_held shared hub None w t s = s.held
  stand_held shared hub (Some true) w t s = s.held
  stand_held shared hub (Some false) w t s = s.free.held

  -- a lane of another number stands as before
  stand_on : (shared : X) (n : ℕ) (hub hub' : H) (state : Option Bool) (w : W) (t : T) → (lane t ≡ n → ⊥) → Spares lane Held Tells Asks n hub hub'
      → StandsAt log asked ended Fits number lane Held Tells Asks state shared hub w t → StandsAt log asked ended Fits number lane Held Tells Asks state shared hub' w t
  stand_on shared n hub hub' None w t apart spares s = record { fits = s.fits; same = s.same; held = spares.held t apart s.held; none = s.none; told = spares.free t apart (log w) s.told }
  stand_on shared n hub hub' (Some true) w t apart spares s =
      record { fits = s.fits; same = s.same; held = spares.held t apart s.held; question = s.question; asks = s.asks; told = spares.asked t apart (log w) s.question s.told }
  stand_on shared n hub hub' (Some false) w t apart spares s = record {
    free = record { fits = s.free.fits; same = s.free.same; held = spares.held t apart s.free.held; none = s.free.none; told = spares.free t apart (log w) s.free.told };
    done = s.done;
  }

  pub amid_stopped : (shared : X) (lanes0 : List (W × T)) (hub0 : H) (states : List (Option Bool)) (hub : H) (lanes : List (W × T))
      → Amid log asked ended Fits number lane Held Tells Asks Later shared lanes0 hub0 states hub lanes → Stopped Held lane Later lanes0 hub0 hub lanes
  amid_stopped shared lanes0 hub0 states hub lanes amid = record {
    held = λ j l at. stand_held shared hub (get_or states j None) l.0 l.1 (amid.standing j l at);
    numbered = amid.numbered;
    later = amid.later;
  }

  -- of another lane the number is another one
  other_lane : (lanes : List (W × T)) (i j : ℕ) (a l : W × T) → AreApart lane lanes → slice_get lanes i ≡ Some a → slice_get lanes j ≡ Some l → (j ≡ i → ⊥) → lane l.1 ≡ lane a.1 → ⊥
  other_lane lanes i j a l apart at_i at_j other same = other (apart j i l a at_j at_i same)

  held_set : (shared : X) (states : List (Option Bool)) (lanes : List (W × T)) (hub hub' : H) (i : ℕ) (a b : W × T) → AreStanding log asked ended Fits number lane Held Tells Asks states shared hub lanes → AreApart lane lanes
      → slice_get lanes i ≡ Some a → Moves lane Later Held Tells Asks a.1 hub b.1 hub' → Held b.1 hub' → AreHeld Held hub' (slice_set lanes i b)
  held_set shared states lanes hub hub' i a b standing apart at moves held j l at_j = elim (read_set lanes i j b l at_j) [
    | inl s ↦ subst (λ (x : W × T). Held x.1 hub') (sym s.1) held
    | inr s ↦ moves.others.held l.1 (other_lane lanes i j a l apart at s.1 s.0) (stand_held shared hub (get_or states j None) l.0 l.1 (standing j l s.1))
  ]

  standing_set : (shared : X) (states : List (Option Bool)) (lanes : List (W × T)) (hub hub' : H) (i : ℕ) (a b : W × T) (waits : Bool) → length states ≡ length lanes
      → AreStanding log asked ended Fits number lane Held Tells Asks states shared hub lanes → AreApart lane lanes → slice_get lanes i ≡ Some a → Moves lane Later Held Tells Asks a.1 hub b.1 hub'
      → Stands log asked ended Fits number lane Held Tells Asks waits shared hub' b.0 b.1 → AreStanding log asked ended Fits number lane Held Tells Asks (slice_set states i (Some waits)) shared hub' (slice_set lanes i b)
  standing_set shared states lanes hub hub' i a b waits each standing apart at moves stands j l at_j = elim (read_set lanes i j b l at_j) [
    | inl s ↦
        let within : i < length states = subst (λ n. i < n) (sym each) (slice_get_within lanes i a at) in
        let here : get_or (slice_set states i (Some waits)) j None ≡ Some waits = ap (λ k. get_or (slice_set states i (Some waits)) k None) s.0 ∙ get_or-set_same states i (Some waits) None within in
        subst (λ state. StandsAt log asked ended Fits number lane Held Tells Asks state shared hub' l.0 l.1) (sym here)
        (subst (λ (x : W × T). Stands log asked ended Fits number lane Held Tells Asks waits shared hub' x.0 x.1) (sym s.1) stands)
    | inr s ↦
        subst (λ state. StandsAt log asked ended Fits number lane Held Tells Asks state shared hub' l.0 l.1) (sym (get_or-set_other states i j (Some waits) None s.0))
        (stand_on shared (lane a.1) hub hub' (get_or states j None) l.0 l.1 (other_lane lanes i j a l apart at s.1 s.0) moves.others (standing j l s.1))
  ]

  apart_set : (lanes : List (W × T)) (i : ℕ) (a b : W × T) → AreApart lane lanes → slice_get lanes i ≡ Some a → lane b.1 ≡ lane a.1 → AreApart lane (slice_set lanes i b)
  apart_set lanes i a b apart at same j k x y at_j at_k equal = elim (read_set lanes i j b x at_j) [
    | inl s ↦ elim (read_set lanes i k b y at_k) [
      | inl t ↦ s.0 ∙ sym t.0
      | inr t ↦ s.0 ∙ apart i k a y at t.1 (sym same ∙ ap (λ (l : W × T). lane l.1) (sym s.1) ∙ equal)
    ]
    | inr s ↦ elim (read_set lanes i k b y at_k) [
      | inl t ↦ apart j i x a s.1 at (equal ∙ ap (λ (l : W × T). lane l.1) t.1 ∙ same) ∙ sym t.0
      | inr t ↦ apart j k x y s.1 t.1 equal
    ]
  ]

  pub amid_on : ((g h i : H) → Later g h → Later h i → Later g i) → (shared : X) (lanes0 : List (W × T)) (hub0 : H) (states : List (Option Bool)) (hub : H) (lanes : List (W × T)) (i : ℕ) (lanes' : List (W × T)) (hub' : H) (waits : Bool)
      → Amid log asked ended Fits number lane Held Tells Asks Later shared lanes0 hub0 states hub lanes → (c : Changes lane Later Held Tells Asks i lanes hub lanes' hub')
      → Stands log asked ended Fits number lane Held Tells Asks waits shared hub' c.after.0 c.after.1
      → Amid log asked ended Fits number lane Held Tells Asks Later shared lanes0 hub0 (slice_set states i (Some waits)) hub' lanes'
  amid_on on shared lanes0 hub0 states hub lanes i lanes' hub' waits amid c stands =
      subst (λ ls. Amid log asked ended Fits number lane Held Tells Asks Later shared lanes0 hub0 (slice_set states i (Some waits)) hub' ls) (sym c.set) record {
        standing = standing_set shared states lanes hub hub' i c.before c.after waits amid.each amid.standing amid.apart c.found c.moves stands;
        apart = apart_set lanes i c.before c.after amid.apart c.found c.moves.stays;
        numbered = numbers_set lane lanes i c.before c.after c.found c.moves.stays ∙ amid.numbered;
        later = on hub0 hub hub' amid.later c.moves.goes_on;
        each = length_set states i (Some waits) ∙ amid.each ∙ sym (length_set lanes i c.after);
      }

  pub stopped_on : ((g h i : H) → Later g h → Later h i → Later g i) → (shared : X) (lanes0 : List (W × T)) (hub0 : H) (states : List (Option Bool)) (hub : H) (lanes : List (W × T)) (i : ℕ) (lanes' : List (W × T)) (hub' : H)
      → Amid log asked ended Fits number lane Held Tells Asks Later shared lanes0 hub0 states hub lanes → Changes lane Later Held Tells Asks i lanes hub lanes' hub'
      → Stopped Held lane Later lanes0 hub0 hub' lanes'
  stopped_on on shared lanes0 hub0 states hub lanes i lanes' hub' amid c =
      subst (λ ls. Stopped Held lane Later lanes0 hub0 hub' ls) (sym c.set) record {
        held = held_set shared states lanes hub hub' i c.before c.after amid.standing amid.apart c.found c.moves c.held;
        numbered = numbers_set lane lanes i c.before c.after c.found c.moves.stays ∙ amid.numbered;
        later = on hub0 hub hub' amid.later c.moves.goes_on;
      }

  done_by : (shared : X) (hub : H) (states : List (Option Bool)) (j : ℕ) (w : W) (t : T) (state : Option Bool) → get_or states j None ≡ state → (get_or states j None ≡ None → ⊥) → count states ≡ 0
      → StandsAt log asked ended Fits number lane Held Tells Asks state shared hub w t → IsDone log asked ended Fits number lane Held Tells Asks shared hub w t
  done_by shared hub states j w t None is was none s = absurd (was is)
  done_by shared hub states j w t (Some true) is was none s = absurd (let more = some_waits states j is in omega arith)
  done_by shared hub states j w t (Some false) is was none s = s

  -- where each lane was driven and none waits, each is done
  pub amid_done : (shared : X) (hub : H) (states : List (Option Bool)) (lanes : List (W × T)) → AreStanding log asked ended Fits number lane Held Tells Asks states shared hub lanes
      → ((j : ℕ) → j < length lanes → get_or states j None ≡ None → ⊥) → count states ≡ 0 → AreDone log asked ended Fits number lane Held Tells Asks shared hub lanes
  amid_done shared hub states lanes standing driven none j l at =
      done_by shared hub states j l.0 l.1 (get_or states j None) refl (driven j (slice_get_within lanes j l at)) none (standing j l at)

  pub amid_first : ((h : H) → Later h h) → (shared : X) (hub : H) (states : List (Option Bool)) (lanes : List (W × T)) → AreApart lane lanes
      → AreFree log asked ended Fits number lane Held Tells Asks shared hub lanes → length states ≡ length lanes → ((j : ℕ) → get_or states j None ≡ None)
      → Amid log asked ended Fits number lane Held Tells Asks Later shared lanes hub states hub lanes
  amid_first same shared hub states lanes apart free each none = record {
    standing = λ j l at. subst (λ state. StandsAt log asked ended Fits number lane Held Tells Asks state shared hub l.0 l.1) (sym (none j)) (free j l at);
    apart = apart;
    numbered = refl;
    later = same hub;
    each = each;
  }

  pub amid_anew : ((h : H) → Later h h) → (shared : X) (lanes0 : List (W × T)) (hub0 : H) (states : List (Option Bool)) (hub : H) (lanes : List (W × T))
      → Amid log asked ended Fits number lane Held Tells Asks Later shared lanes0 hub0 states hub lanes → Amid log asked ended Fits number lane Held Tells Asks Later shared lanes hub states hub lanes
  amid_anew same shared lanes0 hub0 states hub lanes amid = record { standing = amid.standing; apart = amid.apart; numbered = refl; later = same hub; each = amid.each }

  pub stopped_after : ((g h i : H) → Later g h → Later h i → Later g i) → (lanes0 : List (W × T)) (hub0 : H) (lanes1 : List (W × T)) (hub1 : H) (lanes2 : List (W × T)) (hub2 : H)
      → Stopped Held lane Later lanes0 hub0 hub1 lanes1 → Stopped Held lane Later lanes1 hub1 hub2 lanes2
      → Stopped Held lane Later lanes0 hub0 hub2 lanes2
  stopped_after on lanes0 hub0 lanes1 hub1 lanes2 hub2 first then = record { held = then.held; numbered = then.numbered ∙ first.numbered; later = on hub0 hub1 hub2 first.later then.later }

some_is_no_none : {b : Bool} → Some b ≡ None → ⊥
some_is_no_none e = grind arith

-- a lane that was driven is driven still, and so is the one that is now
pub driven_set : (states : List (Option Bool)) (i n : ℕ) (waits : Bool) → i < length states → ((j : ℕ) → (j ≡ i → ⊥) → j < n → get_or states j None ≡ None → ⊥)
    → (j : ℕ) → j < n → get_or (slice_set states i (Some waits)) j None ≡ None → ⊥
driven_set states i n waits within driven j near none = elim (cases_eq j i) [
  | inl e ↦ some_is_no_none (sym (ap (λ k. get_or (slice_set states i (Some waits)) k None) e ∙ get_or-set_same states i (Some waits) None within) ∙ none)
  | inr other ↦ driven j other near (sym (get_or-set_other states i j (Some waits) None other) ∙ none)
]

below_but : (j i : ℕ) → j < suc i → (j ≡ i → ⊥) → j < i
below_but zero zero near other = absurd (other refl)
below_but zero (suc i) near other = omega arith
below_but (suc j) zero near other = omega arith
below_but (suc j) (suc i) near other = let less = below_but j i (omega arith) (λ e. other (ap suc e)) in omega arith

pub driven_more : (states : List (Option Bool)) (i : ℕ) (waits : Bool) → i < length states → ((j : ℕ) → j < i → get_or states j None ≡ None → ⊥)
    → (j : ℕ) → j < i + 1 → get_or (slice_set states i (Some waits)) j None ≡ None → ⊥
driven_more states i waits within driven = driven_set states i (i + 1) waits within (λ j other near none. driven j (below_but j i (omega arith) other) none)

pub behind_set : (states : List (Option Bool)) (i : ℕ) (waits : Bool) → ((j : ℕ) → i ≤ j → get_or states j None ≡ None) → (j : ℕ) → i + 1 ≤ j → get_or (slice_set states i (Some waits)) j None ≡ None
behind_set states i waits behind j far = get_or-set_other states i j (Some waits) None (λ e. omega arith) ∙ behind j (omega arith)

-- a list of which each part is none
pub none_more : (xs : List (Option Bool)) (j : ℕ) → ((k : ℕ) → get_or xs k None ≡ None) → get_or (xs ++ None ∷ []) j None ≡ None
none_more [] zero none = refl
none_more [] (suc j) none = refl
none_more (x ∷ xs) zero none = none 0
none_more (x ∷ xs) (suc j) none = none_more xs j (λ k. none (suc k))
