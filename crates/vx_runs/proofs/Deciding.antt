-- What the body of a grounded instance gives is known: it is added and given alike, or it fails.
use Rattle.std.proofs.Common.{arith, ◌≡◌, ◌≤◌, ◌+◌, ℕ, Bool, true, false, cond, ◌⊎◌, inl, inr, [], ◌∷◌, ◌++◌, Option, Some, None, refl, sym, ◌∙◌, ap, subst}
use Rattle.std.specs.Prelude.{Ok, Err, option_and_then}
use Rattle.std.proofs.lemmas.Option.{same_Some}
use Rattle.vx_ast.specs.declared.Place.{Place}
use Rattle.vx_frac.specs.Fractions.{Fraction, none, full, product, at_most, is_positive}
use Rattle.vx_ast.specs.Syntax.{Program, Expr, Assertion, Pure, Points, Both, Implied, Chosen, place_of}
use Rattle.vx_ast.specs.Syntax as syntax
use Rattle.vx_meaning.specs.Values.{Value, BoolValue, IntValue, RefValue, PermValue, is_true}
use Rattle.vx_meaning.specs.States.{State, Heap, Holdings, Instance, Resource, Folded, amount, gained, with_holdings}
use Rattle.vx_meaning.specs.Evaluate as plain
use Rattle.vx_meaning.specs.Evaluate.{value}
use Rattle.vx_meaning.specs.Flatten.{no_applications, entries, IsGrounded}
use Rattle.vx_meaning.specs.Consistent.{IsSupported, total}
use Rattle.vx_meaning.specs.Fits.{Checked, choose, deeper, fit, field_part, instance_part, add, add_part, Eventually}
use Rattle.vx_meaning.specs.Outcomes.{Outcome, Ends, FailsAt, Outcomes, ends, stops, checked, passes, refused, goes_on, is_over}
use Rattle.vx_meaning.specs.Give.{give, when, side}
use Rattle.vx_types.specs.Premises.{IsTypedProgram}
use Rattle.vx_amounts.proofs.Amounts.{full-positive}
use Rattle.vx_amounts.proofs.Products.{positive_le}
use Rattle.vx_sound.proofs.World.{at_field}
use Rattle.vx_sound_preds.specs.Bodies.{GoodBodies, Rigid, IsPlain, IsPlainBody}
use Rattle.vx_sound_preds.proofs.Fitting.{step}
use Rattle.vx_sound_preds.proofs.Framing.{entries_seen}
use Rattle.vx_sound_preds.proofs.Flats.{came}
use Rattle.vx_sound_preds.proofs.Adding.{Fine, AreEntries, Adds, added, added_append, add_adds, value_here}
use Rattle.vx_sound_preds.proofs.Exchanging.{all_open}
use Rattle.vx_sound_preds.proofs.Frames.{AllPositive}
use Rattle.vx_sound_preds.proofs.Holding.{HoldsInstances, added_debts, fewer}
use Rattle.vx_sound_preds.proofs.Typed.{good_bodies}
use Rattle.vx_runs.proofs.Followed.{Any}
use Rattle.vx_runs.proofs.Rising.{after_ok}
use Rattle.vx_runs.proofs.Plain.{IsSettled, plain_settled, field_settled, instance_settled, opens_known}

on_true : (v : Value) (x y : Outcomes) (o : Outcome) → is_true v ≡ true → x o → side v x y o
on_true v x y o e h = subst (λ (b : Bool). when b x y o) (sym e) h

pub self : (n : ℕ) → n ≤ n
self n = omega arith

nothing : (es : Holdings) → ◌≡◌ {A = Option Holdings} None (Some es) → ⊥
nothing es e = cc

positives_left : (xs ys : Holdings) → AllPositive (xs ++ ys) → AllPositive xs
positives_left [] ys k = tt
positives_left (x ∷ xs) ys k = (k.0, positives_left xs ys k.1)

positives_right : (xs ys : Holdings) → AllPositive (xs ++ ys) → AllPositive ys
positives_right [] ys k = k
positives_right (x ∷ xs) ys k = positives_right xs ys k.1

entries_left : (p : Program) (h : Heap) (xs ys : Holdings) → AreEntries p h (xs ++ ys) → AreEntries p h xs
entries_left p h [] ys k = tt
entries_left p h (x ∷ xs) ys k = (k.0, entries_left p h xs ys k.1)

entries_right : (p : Program) (h : Heap) (xs ys : Holdings) → AreEntries p h (xs ++ ys) → AreEntries p h ys
entries_right p h [] ys k = k
entries_right p h (x ∷ xs) ys k = entries_right p h xs ys k.1

module _ (p : Program) (typed : IsTypedProgram p) where
  abbrev good : GoodBodies p
  good = good_bodies p typed

  -- what a body gives of these entries: it ends, as it is added, or fails
  pub record Decides (a : Assertion) (s u : State) : Type 0 where
    pub adds : Eventually (λ n. add p (deeper p n) full a s ≡ Ok u)
    pub gives : give p (IsSupported p) full a s (Ends u)

  abbrev pub Decided : Assertion → State → Type 0
  Decided a s = ((u : State) × Decides a s u) ⊎ ((at : Place) × give p (IsSupported p) full a s (FailsAt at))

  abbrev pub Holds : Heap → Holdings → Type 0
  Holds h hs = HoldsInstances p Any false h hs

  fits_settled : (s : State) (e : Expr) → IsPlain e → IsSettled (λ n. fit p (deeper p n) s e)
  fits_settled s e k = plain_settled p (λ x. Unit {0}) (λ i _ q s. opens_known p typed i q s) s e k (λ x t. tt)

  -- by the value of a condition
  here : (s : State) (e : Expr) (v : Value) → Fine p s → IsPlain e → Eventually (λ n. fit p (deeper p n) s e ≡ Ok v) → value p no_applications s e ≡ Some v
  here s e v f k h = value_here p full (positive_le full-positive) (deeper p h.0) (all_open p good h.0) s e v f k (h.1 h.0 (self h.0))

  adds_by : (a : Assertion) (s u : State) (es : Holdings) → IsPlainBody p Rigid a → Fine p s → entries p s a ≡ Some es → AreEntries p s.heap es → Eventually (λ n. add p (deeper p n) full a s ≡ Ok u) → Adds p full es s u
  adds_by a s u es k f en can h = add_adds p full (positive_le full-positive) (deeper p h.0) (all_open p good h.0) a s u es k f en can (h.1 h.0 (self h.0))

  supported : (u : State) (h : Heap) (hs : Holdings) → u.heap ≡ h → u.holdings ≡ hs → Holds h hs → IsSupported p u
  supported u h hs eh es k = record {
    grounded = λ i z. subst (λ (g : Heap). IsGrounded p g i) (sym eh) (k.grounded i (record { holds = subst (λ (xs : Holdings). is_positive (amount xs (Folded i)) ≡ true) es z }));
    null = λ n f. subst (λ (g : Heap). at_most (total p n g u.holdings (at_field 0 f)) none ≡ true) (sym eh) (subst (λ (xs : Holdings). at_most (total p n h xs (at_field 0 f)) none ≡ true) (sym es) (k.null n f).holds);
  }

  part_decides : (a : Assertion) (s : State) (es : Holdings) (check : ℕ → Checked (Resource × Fraction)) → IsPlainBody p Rigid a → Fine p s → entries p s a ≡ Some es → AreEntries p s.heap es → Holds s.heap (added full es s.holdings) → IsSettled check →
      ((part : Resource × Fraction) → Eventually (λ n. check n ≡ Ok part) → Eventually (λ n. add p (deeper p n) full a s ≡ Ok (with_holdings (gained part.0 (product full part.1) s.holdings) s))) →
      ((o : Outcome) → checked check (λ part z. (let t : State = with_holdings (gained part.0 (product full part.1) s.holdings) s in (IsSupported p t × ends t z) ⊎ ((IsSupported p t → ⊥) × stops z))) o → give p (IsSupported p) full a s o) → Decided a s
  part_decides a s es check k f en can holds (inr (at, x)) adds rule = inr (at, rule (FailsAt at) (refused at x refl))
  part_decides a s es check k f en can holds (inl (part, x)) adds rule =
      let u : State = with_holdings (gained part.0 (product full part.1) s.holdings) s in
      let y = adds_by a s u es k f en can (adds part x) in
      inl (u, record { adds = adds part x; gives = rule (Ends u) (passes part x (inl (supported u s.heap (added full es s.holdings) refl y.holdings holds, refl))) })

  fails_or : (a : Assertion) (s : State) {c : ℕ → Checked Value} → IsSettled c → ((at : Place) → Eventually (λ n. c n ≡ Err at) → give p (IsSupported p) full a s (FailsAt at)) → ((v : Value) → Eventually (λ n. c n ≡ Ok v) → Decided a s) → Decided a s
  fails_or a s (inr (at, x)) f g = inr (at, f at x)
  fails_or a s (inl (v, x)) f g = g v x

  -- of an assertion, in any state
  abbrev pub DecidesIt : Assertion → Type 0
  DecidesIt a = (s : State) (es : Holdings) → IsPlainBody p Rigid a → Fine p s → entries p s a ≡ Some es → AreEntries p s.heap es → AllPositive es → Holds s.heap (added full es s.holdings) → Decided a s

  then_decides : (a b : Assertion) (s u : State) → Decides a s u → Decided b u → Decided (Both a b) s
  then_decides a b s u x (inr (at, y)) = inr (at, goes_on u x.gives y)
  then_decides a b s u x (inl (v, y)) = inl (v, record { adds = after_ok (λ n. add p (deeper p n) full a s) (λ n t. add p (deeper p n) full b t) u (Ok v) x.adds y.adds; gives = goes_on u x.gives y.gives })

  both_decide : (a b : Assertion) → DecidesIt b → (s : State) (xs ys : Holdings) → IsPlainBody p Rigid (Both a b) → Fine p s → entries p s a ≡ Some xs → entries p s b ≡ Some ys → AreEntries p s.heap (xs ++ ys) → AllPositive (xs ++ ys) → Holds s.heap (added full ys (added full xs s.holdings)) → Decided a s → Decided (Both a b) s
  both_decide a b second s xs ys k f ea eb can ps whole (inr (at, x)) = inr (at, is_over tt x)
  both_decide a b second s xs ys k f ea eb can ps whole (inl (u, x)) =
      let y = adds_by a s u xs k.0 f ea (entries_left p s.heap xs ys can) x.adds in
      let seen = entries_seen p Rigid s u (record { store = y.store; heap = y.heap }) b k.1 in
      let can' = subst (λ (h : Heap). AreEntries p h ys) (sym y.heap) (entries_right p s.heap xs ys can) in
      let holds' : Holds u.heap (added full ys u.holdings) = subst (λ (h : Heap). Holds h (added full ys u.holdings)) (sym y.heap) (subst (λ (hs : Holdings). Holds s.heap (added full ys hs)) (sym y.holdings) whole) in
      then_decides a b s u x (second u ys k.1 y.fine (seen ∙ eb) can' (positives_right xs ys ps) holds')

  implied_decides : (c : Expr) (a : Assertion) → DecidesIt a → (s : State) (es : Holdings) → IsPlainBody p Rigid (Implied c a) → Fine p s → AreEntries p s.heap es → AllPositive es → Holds s.heap (added full es s.holdings) → (v : Value) → Eventually (λ n. fit p (deeper p n) s c ≡ Ok v) →
      plain.choose v (entries p s a) (Some []) ≡ Some es → Decided (Implied c a) s
  implied_decides c a first s es k f can ps holds (BoolValue true) x en = on (first s es k.1 f en can ps holds)
    where
      on : Decided a s → Decided (Implied c a) s
      on (inr (at, y)) = inr (at, passes (BoolValue true) x y)
      on (inl (u, y)) = inl (u, record { adds = after_ok (λ n. fit p (deeper p n) s c) (λ n v. choose (place_of c) v (add p (deeper p n) full a s) (Ok s)) (BoolValue true) (Ok u) x y.adds; gives = passes (BoolValue true) x y.gives })
  implied_decides c a first s es k f can ps holds (BoolValue false) x en =
      inl (s, record { adds = after_ok (λ n. fit p (deeper p n) s c) (λ n v. choose (place_of c) v (add p (deeper p n) full a s) (Ok s)) (BoolValue false) (Ok s) x (0, λ n le. refl); gives = passes (BoolValue false) x refl })
  implied_decides c a first s es k f can ps holds (IntValue z) x en = absurd (nothing es en)
  implied_decides c a first s es k f can ps holds (RefValue z) x en = absurd (nothing es en)
  implied_decides c a first s es k f can ps holds (PermValue z) x en = absurd (nothing es en)

  chosen_decides : (c : Expr) (a b : Assertion) → DecidesIt a → DecidesIt b → (s : State) (es : Holdings) → IsPlainBody p Rigid (Chosen c a b) → Fine p s → AreEntries p s.heap es → AllPositive es → Holds s.heap (added full es s.holdings) → (v : Value) → Eventually (λ n. fit p (deeper p n) s c ≡ Ok v) →
      plain.choose v (entries p s a) (entries p s b) ≡ Some es → Decided (Chosen c a b) s
  chosen_decides c a b first second s es k f can ps holds (BoolValue true) x en = on (first s es k.1 f en can ps holds)
    where
      on : Decided a s → Decided (Chosen c a b) s
      on (inr (at, y)) = inr (at, passes (BoolValue true) x y)
      on (inl (u, y)) = inl (u, record { adds = after_ok (λ n. fit p (deeper p n) s c) (λ n v. choose (place_of c) v (add p (deeper p n) full a s) (add p (deeper p n) full b s)) (BoolValue true) (Ok u) x y.adds; gives = passes (BoolValue true) x y.gives })
  chosen_decides c a b first second s es k f can ps holds (BoolValue false) x en = on (second s es k.2 f en can ps holds)
    where
      on : Decided b s → Decided (Chosen c a b) s
      on (inr (at, y)) = inr (at, passes (BoolValue false) x y)
      on (inl (u, y)) = inl (u, record { adds = after_ok (λ n. fit p (deeper p n) s c) (λ n v. choose (place_of c) v (add p (deeper p n) full a s) (add p (deeper p n) full b s)) (BoolValue false) (Ok u) x y.adds; gives = passes (BoolValue false) x y.gives })
  chosen_decides c a b first second s es k f can ps holds (IntValue z) x en = absurd (nothing es en)
  chosen_decides c a b first second s es k f can ps holds (RefValue z) x en = absurd (nothing es en)
  chosen_decides c a b first second s es k f can ps holds (PermValue z) x en = absurd (nothing es en)

  pub decides : (a : Assertion) → DecidesIt a
  decides (Pure e) s es k f en can ps holds = fails_or (Pure e) s (fits_settled s e k) (λ at x. refused at x refl) (λ v x.
      let w = here s e v f k x in
      let truth : is_true v ≡ true = truth_is (is_true v) (sym (step (λ v. cond (is_true v) (Some []) None) v w) ∙ en) in
      inl (s, record { adds = after_ok (λ n. fit p (deeper p n) s e) (λ n _. Ok s) v (Ok s) x (0, λ n le. refl); gives = passes v x (on_true v (ends s) stops (Ends s) truth refl) }))
    where
      truth_is : (b : Bool) → cond b (Some []) None ≡ Some es → b ≡ true
      truth_is true e = refl
      truth_is false e = cc
  decides (Points at e g share) s es k f en can ps holds =
      part_decides (Points at e g share) s es (λ n. field_part p (deeper p n) s at e g share) k f en can holds (field_settled p (λ x. Unit {0}) (λ i _ q s. opens_known p typed i q s) s at e g share k.0 k.1.plain (λ x t. tt))
      (λ part x. after_ok (λ n. field_part p (deeper p n) s at e g share) (λ n. add_part p (deeper p n) full s) part (Ok _) x (0, λ n le. refl)) (λ o r. r)
  decides (syntax.Instance at i xs share) s es k f en can ps holds =
      part_decides (syntax.Instance at i xs share) s es (λ n. instance_part p (deeper p n) s at i xs share) k f en can holds (instance_settled p (λ x. Unit {0}) (λ i _ q s. opens_known p typed i q s) s at i xs share k.0 k.1.plain (λ x t. tt))
      (λ part x. after_ok (λ n. instance_part p (deeper p n) s at i xs share) (λ n. add_part p (deeper p n) full s) part (Ok _) x (0, λ n le. refl)) (λ o r. r)
  decides (Both a b) s es k f en can ps holds =
      let y = came (entries p s a) (λ xs. option_and_then (λ ys. Some (xs ++ ys)) (entries p s b)) es en in
      let z = came (entries p s b) (λ ys. Some (y.it ++ ys)) es y.then in
      let es_is : y.it ++ z.it ≡ es = same_Some (y.it ++ z.it) es z.then in
      let all = subst (AreEntries p s.heap) (sym es_is) can in
      let pos = subst AllPositive (sym es_is) ps in
      let whole : Holds s.heap (added full z.it (added full y.it s.holdings)) = subst (Holds s.heap) (ap (λ (xs : Holdings). added full xs s.holdings) (sym es_is) ∙ added_append full y.it z.it s.holdings) holds in
      let debts = added_debts p good Any false full y.it s.holdings full-positive (positives_left y.it z.it pos) f.forth.0 in
      let mid : Holds s.heap (added full y.it s.holdings) = fewer p good Any false s.heap full z.it (added full y.it s.holdings) full-positive (positives_right y.it z.it pos) debts whole in
      both_decide a b (λ s es k f en can ps holds. decides b s es k f en can ps holds) s y.it z.it k f y.is z.is all pos whole (decides a s y.it k.0 f y.is (entries_left p s.heap y.it z.it all) (positives_left y.it z.it pos) mid)
  decides (Implied c a) s es k f en can ps holds = fails_or (Implied c a) s (fits_settled s c k.0) (λ at x. refused at x refl) (λ v x.
      implied_decides c a (λ s es k f en can ps holds. decides a s es k f en can ps holds) s es k f can ps holds v x (sym (step (λ v. plain.choose v (entries p s a) (Some [])) v (here s c v f k.0 x)) ∙ en))
  decides (Chosen c a b) s es k f en can ps holds = fails_or (Chosen c a b) s (fits_settled s c k.0) (λ at x. refused at x refl) (λ v x.
      chosen_decides c a b (λ s es k f en can ps holds. decides a s es k f en can ps holds) (λ s es k f en can ps holds. decides b s es k f en can ps holds) s es k f can ps holds v x (sym (step (λ v. plain.choose v (entries p s a) (entries p s b)) v (here s c v f k.0 x)) ∙ en))
