-- What is given at once to more is given to less too, or fails there.
use Rattle.std.proofs.Common.{arith, ◌≡◌, ◌≤◌, ℕ, true, ◌⊎◌, inl, inr, [], ◌∷◌, ◌++◌, refl, sym, ◌∙◌, ap, subst}
use Rattle.std.specs.Prelude.{Ok, Err}
use Rattle.vx_ast.specs.declared.Place.{Place}
use Rattle.vx_frac.specs.Fractions.{Fraction, none, product}
use Rattle.vx_ast.specs.Syntax.{Program, Expr, Assertion, Pure, Points, Both, Implied, Chosen}
use Rattle.vx_ast.specs.Syntax as syntax
use Rattle.vx_meaning.specs.Values.{Value}
use Rattle.vx_meaning.specs.States.{State, Holdings, Resource, At, Folded, amount, gained, with_holdings}
use Rattle.vx_meaning.specs.Consistent.{IsConsistent}
use Rattle.vx_meaning.specs.Fits.{Checked, deeper, fit_by, field_part, instance_part, Eventually}
use Rattle.vx_meaning.specs.Outcomes.{Outcome, Ends, FailsAt, Stops, ends, stops, fails, checked, passes, refused, goes_on, is_over, IsOver}
use Rattle.vx_meaning.specs.Give.{give}
use Rattle.vx_meaning.specs.Around.{Around, IsPossible}
use Rattle.vx_types.specs.Typing.{Scope, IsTyped}
use Rattle.vx_types.specs.Premises.{IsTypedProgram}
use Rattle.vx_amounts.proofs.Amounts.{Le, Positive, le-refl}
use Rattle.vx_amounts.proofs.Products.{product_sign, positive_le}
use Rattle.vx_sound.proofs.World.{IsTypedResource}
use Rattle.vx_sound_preds.proofs.Framing.{ok_same, field_parts, instance_parts}
use Rattle.vx_sound_preds.proofs.Grouped.{NoDebts}
use Rattle.vx_sound_preds.proofs.Holding.{TypedAll, consistent, of_possible}
use Rattle.vx_sound_preds.proofs.Typed.{good_bodies}
use Rattle.vx_sound_preds.proofs.TypedValues.{AreTyped}
use Rattle.vx_runs.proofs.Followed.{Any, Sane, Agree, Under, SaneKept, FitsRise, IsShown}
use Rattle.vx_runs.proofs.Fewer.{at_most_both, sane_fewer}
use Rattle.vx_runs.proofs.Surely.{Surely, surely, surely_then, surely_map}
use Rattle.vx_runs.proofs.Rising.{Passes, Refuses, Rises, one_end}
use Rattle.vx_runs.proofs.Shared.{gained_debts}
use Rattle.vx_runs.proofs.Taking.{typed_both, append_assoc}
use Rattle.vx_runs.proofs.TakesUp.{front_fewer}
use Rattle.vx_runs.proofs.AddsUp.{typed_suffix}
use Rattle.vx_runs.proofs.Up.{typed_first}
use Rattle.vx_runs.proofs.Giving.{field_rises, instance_rises, by_side, on_true, on_false, sign_of}
use Rattle.vx_runs.proofs.Agreeing.{agree_fewer, agree_back}
use Rattle.vx_runs.proofs.Together.{debts_both, more_with}
use Rattle.vx_runs.proofs.Exchanging.{instance_kind}

-- What is given to more at once: these entries. A state with less that agrees where they are, and where it holds something, is given the same,
-- or fails.
pub record GivesMore (p : Program) (ds : Scope) (a : Around) (q : Fraction) (x : Assertion) (w : State) (o : Outcome) : Type 0 where
  pub entries : Holdings
  pub typed : TypedAll p Any entries
  pub debts : NoDebts entries
  pub sane : Sane p w.heap (a.holdings ++ (entries ++ w.holdings))
  pub outcome : (o ≡ Ends (with_holdings (entries ++ w.holdings) w)) ⊎ ((at : Place) × (o ≡ FailsAt at))
  pub less : (s : State) → Under p ds w s → Agree p w.heap (entries ++ s.holdings) s.heap →
      Surely (((o ≡ Ends (with_holdings (entries ++ w.holdings) w)) × give p (IsConsistent p) q x s (Ends (with_holdings (entries ++ s.holdings) s))) ⊎ ((at : Place) × give p (IsConsistent p) q x s (FailsAt at)))

abbrev pub GivesAtOnce : Program → Type 0
GivesAtOnce p = (ds : Scope) (a : Around) (w : State) (q : Fraction) (x : Assertion) → Positive q → IsTyped p ds x → AreTyped ds w.store → Sane p w.heap (a.holdings ++ w.holdings) → NoDebts w.holdings → NoDebts a.holdings →
    (o : Outcome) → IsShown o → give p (IsPossible p a) q x w o → Surely (GivesMore p ds a q x w o)

module _ (p : Program) (typed : IsTypedProgram p) (kept_sane : SaneKept p) (rise : FitsRise p) (ds : Scope) (a : Around) (around : NoDebts a.holdings) (q : Fraction) (scale : Positive q) where
  record Begins (w : State) : Type 0 where
    of_scope : AreTyped ds w.store
    whole : Sane p w.heap (a.holdings ++ w.holdings)
    debts : NoDebts w.holdings

  abbrev FailsToo : Assertion → State → Type 0
  FailsToo x s = (at : Place) × give p (IsConsistent p) q x s (FailsAt at)

  abbrev Less : Assertion → State → Outcome → Holdings → State → Type 0
  Less x w o es s = ((o ≡ Ends (with_holdings (es ++ w.holdings) w)) × give p (IsConsistent p) q x s (Ends (with_holdings (es ++ s.holdings) s))) ⊎ FailsToo x s

  abbrev GivesTo : Assertion → Type 0
  GivesTo x = (w : State) → Begins w → (o : Outcome) → IsShown o → give p (IsPossible p a) q x w o → Surely (GivesMore p ds a q x w o)

  no_stop : {R : Type 0} (o : Outcome) → IsShown o → stops o → R
  no_stop (Ends t) shown e = absurd e
  no_stop (FailsAt at) shown e = absurd e
  no_stop Stops shown e = absurd shown

  ended : (w : State) (o : Outcome) → IsShown o → ends w o → o ≡ Ends w
  ended (w) (Ends t) shown e = ap Ends e
  ended (w) (FailsAt at) shown e = absurd e
  ended (w) Stops shown e = absurd e

  -- nothing is given
  nothing_given : (x : Assertion) (w : State) → Begins w → (o : Outcome) → (o ≡ Ends w) ⊎ ((at : Place) × (o ≡ FailsAt at)) →
      ((s : State) → Under p ds w s → Surely (((o ≡ Ends w) × give p (IsConsistent p) q x s (Ends s)) ⊎ FailsToo x s)) → GivesMore p ds a q x w o
  nothing_given x w k o outcome less = record { entries = []; typed = tt; debts = λ r si. le-refl none; sane = k.whole; outcome = outcome; less = λ s u agree. less s u }

  -- where w's check is refused, so is that of s, or s was refused before
  refused_too : {A : Type 0} (x : Assertion) (c d : State → ℕ → Checked A) (w : State) → Begins w → (at : Place) → Eventually (λ n. d w n ≡ Err at) → ((s : State) → Under p ds w s → Rises (c s) (d w)) →
      ((s : State) (at : Place) → Eventually (λ n. c s n ≡ Err at) → give p (IsConsistent p) q x s (FailsAt at)) → (o : Outcome) → o ≡ FailsAt at → GivesMore p ds a q x w o
  refused_too {A = A} x c d w k at refusal rises rule o e = nothing_given x w k o (inr (at, e)) (λ s u. surely_map (rises s u) (go s))
    where
      differ : (v : A) → ◌≡◌ {A = Checked A} (Err at) (Ok v) → ⊥
      differ v e = cc

      go : (s : State) → Passes (◌≡◌ {A = A}) (c s) (d w) ⊎ Refuses (c s) → ((o ≡ Ends w) × give p (IsConsistent p) q x s (Ends s)) ⊎ FailsToo x s
      go s (inr y) = inr (y.0, rule s y.0 y.1)
      go s (inl y) = absurd (differ y.more (one_end (d w) (Err at) (Ok y.more) refusal y.by_more))

  -- what passes in w passes in s, with the same
  same_there : {A : Type 0} (c d : ℕ → Checked A) (v : A) → Eventually (λ n. d n ≡ Ok v) → Passes (◌≡◌ {A = A}) c d → Eventually (λ n. c n ≡ Ok v)
  same_there {A = A} c d v h y = subst (λ (z : A). Eventually (λ n. c n ≡ Ok z)) (y.related ∙ ok_same y.more v (one_end d (Ok y.more) (Ok v) y.by_more h)) y.by_less

  fails_at : (at : Place) (o : Outcome) → fails at o → o ≡ FailsAt at
  fails_at at (Ends t) e = absurd e
  fails_at at (FailsAt other) e = ap FailsAt e
  fails_at at Stops e = absurd e

  -- an assertion that goes on as another one, behind a condition that passes in both
  behind : (c : Expr) (x y : Assertion) (w : State) (o : Outcome) → ((s : State) → Under p ds w s → Rises (λ n. fit_by p n s c) (λ n. fit_by p n w c)) → (v : Value) → Eventually (λ n. fit_by p n w c ≡ Ok v) →
      ((s : State) (z : Outcome) → Eventually (λ n. fit_by p n s c ≡ Ok v) → give p (IsConsistent p) q y s z → give p (IsConsistent p) q x s z) → ((s : State) (at : Place) → Eventually (λ n. fit_by p n s c ≡ Err at) → give p (IsConsistent p) q x s (FailsAt at)) →
      GivesMore p ds a q y w o → GivesMore p ds a q x w o
  behind c x y w o rises v h on refusal k = record {
    entries = k.entries;
    typed = k.typed;
    debts = k.debts;
    sane = k.sane;
    outcome = k.outcome;
    less = λ s u agree. surely_then (rises s u) (go s u agree);
  }
    where
      go : (s : State) → Under p ds w s → Agree p w.heap (k.entries ++ s.holdings) s.heap → Passes (◌≡◌ {A = Value}) (λ n. fit_by p n s c) (λ n. fit_by p n w c) ⊎ Refuses (λ n. fit_by p n s c) → Surely (Less x w o k.entries s)
      go s u agree (inr z) = surely (inr (z.0, refusal s z.0 z.1))
      go s u agree (inl z) =
          let fine = same_there (λ n. fit_by p n s c) (λ n. fit_by p n w c) v h z in
          surely_map (k.less s u agree) (λ r. elim r [ inl y ↦ inl (y.0, on s (Ends (with_holdings (k.entries ++ s.holdings) s)) fine y.1) | inr y ↦ inr (y.0, on s (FailsAt y.0) fine y.1) ])

  -- a part
  module _ (x : Assertion) (check : State → ℕ → Checked (Resource × Fraction)) (rises : (w s : State) → Under p ds w s → Rises (check s) (check w))
      (kind : (w : State) → AreTyped ds w.store → (n : ℕ) (part : Resource × Fraction) → check w n ≡ Ok part → IsTypedResource p Any part.0 × Le none part.1)
      (rule : (s : State) (o : Outcome) → checked (check s) (λ part z. (let t : State = with_holdings (gained part.0 (product q part.1) s.holdings) s in (IsConsistent p t × ends t z) ⊎ ((IsConsistent p t → ⊥) × stops z))) o → give p (IsConsistent p) q x s o) where
    part_given : (w : State) → Begins w → (o : Outcome) (part : Resource × Fraction) → IsTypedResource p Any part.0 → Le none part.1 → Eventually (λ n. check w n ≡ Ok part) → IsPossible p a (with_holdings (gained part.0 (product q part.1) w.holdings) w) →
        o ≡ Ends (with_holdings (gained part.0 (product q part.1) w.holdings) w) → GivesMore p ds a q x w o
    part_given w k o part of_kind sign h can e = record {
      entries = entry ∷ [];
      typed = (of_kind, tt);
      debts = gained_debts p part.0 (product q part.1) [] worth (λ r si. le-refl none);
      sane = whole;
      outcome = inl e;
      less = λ s u agree. surely_map (rises w s u) (go s u agree);
    }
      where
        entry : Resource × Fraction
        entry = (part.0, product q part.1)

        worth : Le none (product q part.1)
        worth = product_sign {a = q} {b = part.1} (positive_le scale) sign

        entry_debts : NoDebts (entry ∷ w.holdings)
        entry_debts = gained_debts p part.0 (product q part.1) w.holdings worth k.debts

        kinds : TypedAll p Any (a.holdings ++ w.holdings)
        kinds = let z = k.whole in z.typed

        whole : Sane p w.heap (a.holdings ++ (entry ∷ w.holdings))
        whole = of_possible p (good_bodies p typed) Any true (with_holdings (a.holdings ++ (entry ∷ w.holdings)) w) can
            (typed_both p a.holdings (entry ∷ w.holdings) (typed_first p a.holdings w.holdings kinds) (of_kind, typed_suffix p a.holdings w.holdings kinds)) (debts_both a.holdings (entry ∷ w.holdings) around entry_debts)

        go : (s : State) → Under p ds w s → Agree p w.heap (entry ∷ s.holdings) s.heap → Passes (◌≡◌ {A = Resource × Fraction}) (check s) (check w) ⊎ Refuses (check s) → Less x w o (entry ∷ []) s
        go s u agree (inr z) = inr (z.0, rule s (FailsAt z.0) (refused z.0 z.1 refl))
        go s u agree (inl z) =
            let sane = u.sane in
            let low = at_most_both (entry ∷ s.holdings) (entry ∷ w.holdings) (a.holdings ++ (entry ∷ w.holdings)) (front_fewer (entry ∷ []) s.holdings w.holdings u.fewer) (more_with a.holdings (entry ∷ w.holdings) around) in
            let there : Sane p w.heap (entry ∷ s.holdings) = sane_fewer p (good_bodies p typed) w.heap (entry ∷ s.holdings) (a.holdings ++ (entry ∷ w.holdings)) whole (of_kind, sane.typed) (gained_debts p part.0 (product q part.1) s.holdings worth sane.debts) low in
            let here = (kept_sane w.heap s.heap (entry ∷ s.holdings) there agree).0 in
            let t : State = with_holdings (entry ∷ s.holdings) s in
            inl (e, rule s (Ends t) (passes part (same_there (check s) (check w) part h z) (inl (consistent p (good_bodies p typed) Any true t refl here, refl))))

    part_gives : (w : State) → Begins w → (o : Outcome) → IsShown o → checked (check w) (λ part z. (let t : State = with_holdings (gained part.0 (product q part.1) w.holdings) w in (IsPossible p a t × ends t z) ⊎ ((IsPossible p a t → ⊥) × stops z))) o → Surely (GivesMore p ds a q x w o)
    part_gives w k o shown (refused at c e) = surely (refused_too x check check w k at c (λ s u. rises w s u) (λ s at y. rule s (FailsAt at) (refused at y refl)) o (fails_at at o e))
    part_gives w k o shown (passes part c (inr (no_can, e))) = no_stop o shown e
    part_gives w k o shown (passes part c (inl (can, e))) =
        let y = kind w k.of_scope c.0 part (c.1 c.0 (self c.0)) in
        surely (part_given w k o part y.0 y.1 c can (ended (with_holdings (gained part.0 (product q part.1) w.holdings) w) o shown e))
      where
        self : (n : ℕ) → n ≤ n
        self n = omega arith

  -- one after the other
  module _ (x y : Assertion) (w : State) (k : Begins w) where
    begins_next : (es : Holdings) → NoDebts es → Sane p w.heap (a.holdings ++ (es ++ w.holdings)) → Begins (with_holdings (es ++ w.holdings) w)
    begins_next es debts sane = record { of_scope = k.of_scope; whole = sane; debts = debts_both es w.holdings debts k.debts }

    -- s after the first
    under_next : (s : State) → Under p ds w s → (es : Holdings) → TypedAll p Any es → NoDebts es → Sane p w.heap (a.holdings ++ (es ++ w.holdings)) → Agree p w.heap (es ++ s.holdings) s.heap → Under p ds (with_holdings (es ++ w.holdings) w) (with_holdings (es ++ s.holdings) s)
    under_next s u es kinds debts whole agree =
        let sane = u.sane in
        let low = at_most_both (es ++ s.holdings) (es ++ w.holdings) (a.holdings ++ (es ++ w.holdings)) (front_fewer es s.holdings w.holdings u.fewer) (more_with a.holdings (es ++ w.holdings) around) in
        let there : Sane p w.heap (es ++ s.holdings) = sane_fewer p (good_bodies p typed) w.heap (es ++ s.holdings) (a.holdings ++ (es ++ w.holdings)) whole (typed_both p es s.holdings kinds sane.typed) (debts_both es s.holdings debts sane.debts) low in
        record {
          store = u.store;
          typed = u.typed;
          sane = (kept_sane w.heap s.heap (es ++ s.holdings) there agree).0;
          fewer = front_fewer es s.holdings w.holdings u.fewer;
          agree = agree_back p (good_bodies p typed) kept_sane w.heap s.heap (es ++ s.holdings) there agree;
          old_sane = u.old_sane;
          old_fewer = u.old_fewer;
          old_agree = u.old_agree;
        }

    -- with fewer in front
    agrees_behind : (s : State) → Under p ds w s → (first second : Holdings) → TypedAll p Any first → TypedAll p Any second → NoDebts first → NoDebts second → Sane p w.heap (a.holdings ++ (second ++ (first ++ w.holdings))) → Agree p w.heap (second ++ (first ++ s.holdings)) s.heap →
        Agree p w.heap (first ++ s.holdings) s.heap
    agrees_behind s u first second k1 k2 d1 d2 whole agree =
        let sane = u.sane in
        let kinds = typed_both p first s.holdings k1 sane.typed in
        let debts = debts_both first s.holdings d1 sane.debts in
        let low = at_most_both (second ++ (first ++ s.holdings)) (second ++ (first ++ w.holdings)) (a.holdings ++ (second ++ (first ++ w.holdings))) (front_fewer second (first ++ s.holdings) (first ++ w.holdings) (front_fewer first s.holdings w.holdings u.fewer)) (more_with a.holdings (second ++ (first ++ w.holdings)) around) in
        let more : Sane p w.heap (second ++ (first ++ s.holdings)) = sane_fewer p (good_bodies p typed) w.heap (second ++ (first ++ s.holdings)) (a.holdings ++ (second ++ (first ++ w.holdings))) whole (typed_both p second (first ++ s.holdings) k2 kinds) (debts_both second (first ++ s.holdings) d2 debts) low in
        let fewer = sane_fewer p (good_bodies p typed) w.heap (first ++ s.holdings) (second ++ (first ++ s.holdings)) more kinds debts (more_with second (first ++ s.holdings) d2) in
        agree_fewer p (good_bodies p typed) w.heap s.heap (first ++ s.holdings) (second ++ (first ++ s.holdings)) fewer more (more_with second (first ++ s.holdings) d2) agree

    both_give : (first : Holdings) → TypedAll p Any first → NoDebts first → (o : Outcome) → GivesMore p ds a q y (with_holdings (first ++ w.holdings) w) o →
        ((s : State) → Under p ds w s → Agree p w.heap (first ++ s.holdings) s.heap → Surely (give p (IsConsistent p) q x s (Ends (with_holdings (first ++ s.holdings) s)) ⊎ FailsToo x s)) →
        Sane p w.heap (a.holdings ++ (first ++ w.holdings)) → GivesMore p ds a q (Both x y) w o
    both_give first kinds debts o g before whole = record {
      entries = g.entries ++ first;
      typed = typed_both p g.entries first g.typed kinds;
      debts = debts_both g.entries first g.debts debts;
      sane = subst (λ (z : Holdings). Sane p w.heap (a.holdings ++ z)) (sym (append_assoc g.entries first w.holdings)) g.sane;
      outcome = elim g.outcome [ inl e ↦ inl (e ∙ ends_same) | inr e ↦ inr e ];
      less = λ s u agree. on s u (subst (λ (z : Holdings). Agree p w.heap z s.heap) (append_assoc g.entries first s.holdings) agree);
    }
      where
        ends_same : ◌≡◌ {A = Outcome} (Ends (with_holdings (g.entries ++ (first ++ w.holdings)) w)) (Ends (with_holdings ((g.entries ++ first) ++ w.holdings) w))
        ends_same = ap (λ (z : Holdings). Ends (with_holdings z w)) (sym (append_assoc g.entries first w.holdings))

        last : (s : State) → give p (IsConsistent p) q x s (Ends (with_holdings (first ++ s.holdings) s)) → Less y (with_holdings (first ++ w.holdings) w) o g.entries (with_holdings (first ++ s.holdings) s) → Less (Both x y) w o (g.entries ++ first) s
        last s gave (inr z) = inr (z.0, goes_on (with_holdings (first ++ s.holdings) s) gave z.1)
        last s gave (inl z) = inl (z.0 ∙ ends_same, subst (λ (hs : Holdings). give p (IsConsistent p) q (Both x y) s (Ends (with_holdings hs s))) (sym (append_assoc g.entries first s.holdings)) (goes_on (with_holdings (first ++ s.holdings) s) gave z.1))

        on : (s : State) → Under p ds w s → Agree p w.heap (g.entries ++ (first ++ s.holdings)) s.heap → Surely (Less (Both x y) w o (g.entries ++ first) s)
        on s u agree =
            let behind = agrees_behind s u first g.entries kinds g.typed debts g.debts g.sane agree in
            surely_then (before s u behind) step
          where
            step : give p (IsConsistent p) q x s (Ends (with_holdings (first ++ s.holdings) s)) ⊎ FailsToo x s → Surely (Less (Both x y) w o (g.entries ++ first) s)
            step (inr z) = surely (inr (z.0, is_over tt z.1))
            step (inl gave) = surely_map (g.less (with_holdings (first ++ s.holdings) s) (under_next s u first kinds debts whole (agrees_behind s u first g.entries kinds g.typed debts g.debts g.sane agree)) agree) (last s gave)

    -- the first ended
    goes_both : (o : Outcome) → IsShown o → (t : State) → GivesMore p ds a q x w (Ends t) → give p (IsPossible p a) q y t o → GivesTo y → Surely (GivesMore p ds a q (Both x y) w o)
    goes_both o shown t f run gives_y = by_end f.outcome
      where
        state_is : (t u : State) → ◌≡◌ {A = Outcome} (Ends t) (Ends u) → t ≡ u
        state_is t u e = cc

        differ : (at : Place) → ◌≡◌ {A = Outcome} (Ends t) (FailsAt at) → ⊥
        differ at e = cc

        ends_of : (s : State) → ((Ends t ≡ Ends (with_holdings (f.entries ++ w.holdings) w)) × give p (IsConsistent p) q x s (Ends (with_holdings (f.entries ++ s.holdings) s))) ⊎ FailsToo x s → give p (IsConsistent p) q x s (Ends (with_holdings (f.entries ++ s.holdings) s)) ⊎ FailsToo x s
        ends_of s (inl z) = inl z.1
        ends_of s (inr z) = inr z

        by_end : (Ends t ≡ Ends (with_holdings (f.entries ++ w.holdings) w)) ⊎ ((at : Place) × (Ends t ≡ FailsAt at)) → Surely (GivesMore p ds a q (Both x y) w o)
        by_end (inr (at, e)) = absurd (differ at e)
        by_end (inl e) =
            let there = subst (λ (z : State). give p (IsPossible p a) q y z o) (state_is t (with_holdings (f.entries ++ w.holdings) w) e) run in
            surely_map (gives_y (with_holdings (f.entries ++ w.holdings) w) (begins_next f.entries f.debts f.sane) o shown there)
            (λ g. both_give f.entries f.typed f.debts o g (λ s u agree. surely_map (f.less s u agree) (ends_of s)) f.sane)

    -- the first failed
    over_both : (o : Outcome) → IsShown o → IsOver o → GivesMore p ds a q x w o → GivesMore p ds a q (Both x y) w o
    over_both (Ends t) shown over f = absurd over
    over_both Stops shown over f = absurd shown
    over_both (FailsAt at) shown over f = record { entries = f.entries; typed = f.typed; debts = f.debts; sane = f.sane; outcome = inr (at, refl); less = λ s u agree. surely_map (f.less s u agree) (go s) }
      where
        differ : ◌≡◌ {A = Outcome} (FailsAt at) (Ends (with_holdings (f.entries ++ w.holdings) w)) → ⊥
        differ e = cc

        go : (s : State) → Less x w (FailsAt at) f.entries s → Less (Both x y) w (FailsAt at) f.entries s
        go s (inl z) = absurd (differ z.0)
        go s (inr z) = inr (z.0, is_over tt z.1)

  gives_to : (x : Assertion) → IsTyped p ds x → GivesTo x
  gives_to (Pure e) ty w k o shown (refused at c f) = surely (refused_too (Pure e) (λ s n. fit_by p n s e) (λ s n. fit_by p n s e) w k at c (λ s u. rise.fits ds w s u e _ ty) (λ s at y. refused at y refl) o (fails_at at o f))
  gives_to (Pure e) ty w k o shown (passes v c r) = by_side v (ends w) stops o r
      (λ truth h. surely (nothing_given (Pure e) w k o (inl (ended w o shown h)) (λ s u. surely_map (rise.fits ds w s u e _ ty) (λ z. elim z [
        | inl y ↦ inl (ended w o shown h, passes v (same_there (λ n. fit_by p n s e) (λ n. fit_by p n w e) v c y) (on_true v (ends s) stops (Ends s) truth refl))
        | inr y ↦ inr (y.0, refused y.0 y.1 refl)
      ]))))
      (λ falsity h. no_stop o shown h)
  gives_to (Points at e g share) ty w k o shown run =
      part_gives (Points at e g share) (λ s n. field_part p (deeper p n) s at e g share) (λ w s u. field_rises p rise ds w s u at e g share _ _ ty.0 ty.2)
      (λ w k n part is. let y = field_parts p (deeper p n) w at e g share part is in sign_of p (At y.location) y.amount part y.is tt y.sign) (λ s o r. r) w k o shown run
  gives_to (syntax.Instance at i es share) ty w k o shown run =
      part_gives (syntax.Instance at i es share) (λ s n. instance_part p (deeper p n) s at i es share) (λ w s u. instance_rises p rise ds w s u at i es share _ _ ty.0.2 ty.1)
      (λ w k n part is. let y = instance_parts p (deeper p n) w at i es share part is in sign_of p (Folded record { predicate = i; arguments = y.arguments }) y.amount part y.is (instance_kind p typed ds w k n es i ty.0.0 y.arguments ty.0.1 ty.0.2 y.arguments_are) y.sign) (λ s o r. r) w k o shown run
  gives_to (Both x y) ty w k o shown (goes_on t first rest) = surely_then (gives_to x ty.0 w k (Ends t) tt first) (λ f. goes_both x y w k o shown t f rest (λ w k o shown run. gives_to y ty.1 w k o shown run))
  gives_to (Both x y) ty w k o shown (is_over over first) = surely_map (gives_to x ty.0 w k o shown first) (over_both x y w k o shown over)
  gives_to (Implied c x) ty w k o shown (refused at h f) = surely (refused_too (Implied c x) (λ s n. fit_by p n s c) (λ s n. fit_by p n s c) w k at h (λ s u. rise.fits ds w s u c _ ty.0) (λ s at y. refused at y refl) o (fails_at at o f))
  gives_to (Implied c x) ty w k o shown (passes v h r) = by_side v (give p (IsPossible p a) q x w) (ends w) o r
      (λ truth run. surely_map (gives_to x ty.1 w k o shown run) (behind c (Implied c x) x w o (λ s u. rise.fits ds w s u c _ ty.0) v h (λ s z fine y. passes v fine (on_true v (give p (IsConsistent p) q x s) (ends s) z truth y)) (λ s at y. refused at y refl)))
      (λ falsity e. surely (nothing_given (Implied c x) w k o (inl (ended w o shown e)) (λ s u. surely_map (rise.fits ds w s u c _ ty.0) (λ z. elim z [
        | inl y ↦ inl (ended w o shown e, passes v (same_there (λ n. fit_by p n s c) (λ n. fit_by p n w c) v h y) (on_false v (give p (IsConsistent p) q x s) (ends s) (Ends s) falsity refl))
        | inr y ↦ inr (y.0, refused y.0 y.1 refl)
      ]))))
  gives_to (Chosen c x y) ty w k o shown (refused at h f) = surely (refused_too (Chosen c x y) (λ s n. fit_by p n s c) (λ s n. fit_by p n s c) w k at h (λ s u. rise.fits ds w s u c _ ty.0) (λ s at y. refused at y refl) o (fails_at at o f))
  gives_to (Chosen c x y) ty w k o shown (passes v h r) = by_side v (give p (IsPossible p a) q x w) (give p (IsPossible p a) q y w) o r
      (λ truth run. surely_map (gives_to x ty.1 w k o shown run) (behind c (Chosen c x y) x w o (λ s u. rise.fits ds w s u c _ ty.0) v h (λ s z fine r. passes v fine (on_true v (give p (IsConsistent p) q x s) (give p (IsConsistent p) q y s) z truth r)) (λ s at y. refused at y refl)))
      (λ falsity run. surely_map (gives_to y ty.2 w k o shown run) (behind c (Chosen c x y) y w o (λ s u. rise.fits ds w s u c _ ty.0) v h (λ s z fine r. passes v fine (on_false v (give p (IsConsistent p) q x s) (give p (IsConsistent p) q y s) z falsity r)) (λ s at y. refused at y refl)))

pub gives_at_once : (p : Program) → IsTypedProgram p → SaneKept p → FitsRise p → GivesAtOnce p
gives_at_once p typed kept_sane rise ds a w q x scale ty of_scope whole debts around o shown run =
    gives_to p typed kept_sane rise ds a around q scale x ty w (record { of_scope = of_scope; whole = whole; debts = debts }) o shown run
