-- An assertion whose giving is exposed: it fails at the place, or leads to a state that matches the one behind.
use Rattle.std.proofs.Common.{◌≡◌, ◌⊎◌, inl, inr, suc, ◌≤◌, Bool, true, false, not, cond, [], ◌∷◌, None, refl, sym, ◌∙◌, ap, subst, le_trans, le_of_lt, lt-suc_self}
use Rattle.std.specs.Prelude.{Ok}
use Rattle.vx_frac.specs.Fractions.{Fraction, product}
use Rattle.vx_ast.specs.declared.Place.{Place}
use Rattle.vx_ast.specs.declared.ValueType.TheVariants as type
use Rattle.vx_ast.specs.Syntax.{Name, Program, Expr, Assertion, Pure, Points, Instance, Both, Implied, Chosen}
use Rattle.vx_meaning.specs.Values.{Value, BoolValue, type_of}
use Rattle.vx_meaning.specs.States as run
use Rattle.vx_meaning.specs.Fits.{Fits, FailsToFit}
use Rattle.vx_meaning.specs.Consistent.{IsConsistent}
use Rattle.vx_meaning.specs.Outcomes.{Outcome, Outcomes, passes, refused}
use Rattle.vx_meaning.specs.Give.{give}
use Rattle.vx_terms.specs.Sorts.{Variable}
use Rattle.vx_terms.specs.Terms.{Term, same}
use Rattle.vx_terms.specs.Build.{variable, zero_amount}
use Rattle.vx_terms.specs.Formed.{constant}
use Rattle.vx_terms.specs.Interpretations.{Interpretation, as_bool, value}
use Rattle.vx_rules.specs.States as rules
use Rattle.vx_rules.specs.Trees.{Code, Step}
use Rattle.vx_rules.specs.Chunks.{chosen, field_key, put_over, put_facts, put}
use Rattle.vx_rules.specs.Rules.{Giving, Going, Outer, fork, field_sort, eval, produce}
use Rattle.vx_types.specs.Typing.{Scope, HasType}
use Rattle.vx_types.specs.FieldLanguage.{InFields, IsOfFields}
use Rattle.vx_elements.proofs.Settled.{Meaning, extends-refl}
use Rattle.vx_elements.proofs.Built.{good_later}
use Rattle.vx_elements.proofs.Elements.{element, bool_value_is}
use Rattle.vx_elements.proofs.Values.{sort_of_field}
use Rattle.vx_elements.proofs.Eventually.{eventually}
use Rattle.vx_grows.proofs.Later.{after, fact_later, put_later, value_later}
use Rattle.vx_grows.proofs.GrowSteps.{Follows, earlier, fork_grows}
use Rattle.vx_grows.proofs.GrowParts.{OuterGrows}
use Rattle.vx_grows.proofs.GrowAssertions.{produce_grows}
use Rattle.vx_sound.proofs.World.{at_field}
use Rattle.vx_sound.proofs.Stands.{next_after_fact}
use Rattle.vx_sound.proofs.Giving.{scale_later, next_after_put}
use Rattle.vx_sound.proofs.Fields.{fields_world}
use Rattle.vx_real.specs.Exposed.{Exposed}
use Rattle.vx_real.proofs.SumReads.{fact_true, at_after_facts}
use Rattle.vx_real.proofs.Backwards.{AgreeOn, over, become, FailsFrom, leads_by, fails_by, first_fails, then_fails, then_leads, keeping_leads, fails_here}
use Rattle.vx_real.proofs.HeldAlone.{fits_over, misfits_over, part_over}
use Rattle.vx_real.proofs.Consistency.{can_be}
use Rattle.vx_real.proofs.Matched.{HasReferences, Matches, IsAt, Evaluates, Reaches, GiveReal}
use Rattle.vx_real.proofs.Grown.{keeps}
use Rattle.vx_real.proofs.Questions.{matches_fact, forked}
use Rattle.vx_real.proofs.ExpressionSteps.{is_at}
use Rattle.vx_real.proofs.Expressions.{by_either, eval_real}
use Rattle.vx_real.proofs.FieldsStay.{facts_keep}
use Rattle.vx_real.proofs.Symbols.{symbol, matches_fresh}
use Rattle.vx_real.proofs.PutsMatch.{PutReal, put_matches}
use Rattle.vx_real.proofs.Locates.{Located, located_real}

-- a put leaves where the part of another member was brought in
put_at : (new : rules.Chunk) (s : rules.State) → (put new s).at ≡ s.at
put_at new s = go (same new.amount zero_amount)
  where
    go : (b : Bool) → (let r : rules.State = cond b s (rules.with_facts (put_facts (not (rules.is_quiet s)) s.bounded new s.heap) (rules.with_heap (put_over (chosen true new 0 s.heap) new s.heap) s)) in r.at) ≡ s.at
    go true = refl
    go false = facts_keep (λ (y : rules.State). y.at) (λ e y. refl) (λ y. refl) (put_facts (not (rules.is_quiet s)) s.bounded new s.heap) (rules.with_heap (put_over (chosen true new 0 s.heap) new s.heap) s)

module _ (means : Meaning) (p : Program) (i : Interpretation) where
  module _ (at : Place) (code : Code) (o : Outer) (below : OuterGrows o) where
    abbrev giving : Fraction → Assertion → run.State → Outcomes
    giving q a = give p (IsConsistent p) q a

    abbrev Fails : rules.State → run.State → Fraction → Assertion → Type 0
    Fails s c q a = (x : Place) × IsAt means p i at code s x × FailsFrom p (give p (IsConsistent p) q a) c x

    abbrev Ended : Scope → rules.State → run.State → Fraction → Assertion → Going → Type 0
    Ended scope s c q a on = Reaches means p i at code scope (give p (IsConsistent p) q a) s c c.store on

    pure_given : (e : Expr) → GiveReal means p i at code o (Pure e)
    pure_given e scope q ty k s c scale on sc m h y =
        by_either (eval_real means p i at code o below e scope type.Bool ty k s c first m (λ t s1. earlier (fact_later t s1) (on (rules.with_fact t s1)) (h (rules.with_fact t s1))) y)
        (λ z. inl (z.0, z.1, fails_here p (give p (IsConsistent p) q (Pure e)) c z.0 (λ g w agrees old. refused z.0 (misfits_over p c g w agrees old e z.0 k z.2) refl)))
        (λ r. inr (ended r))
      where
        first : Giving
        first t s1 = Step (on (rules.with_fact t s1))

        ended : Evaluates means p i at code scope s c first e type.Bool → Reaches means p i at code scope (give p (IsConsistent p) q (Pure e)) s c c.store on
        ended r =
            let told = (fact_true i r.term r.state (keeps i at code on h (rules.with_fact r.term r.state) r.exposed)).0 in
            let is : r.result ≡ BoolValue true = bool_value_is r.result r.typed ∙ ap BoolValue (sym (ap as_bool r.value_is) ∙ told) in
            let fit = subst (λ v. Fits p c e v) is r.fits in
            record {
              state = rules.with_fact r.term r.state;
              heap = c.heap;
              holdings = c.holdings;
              later = subst (λ n. s.next ≤ n) (sym (next_after_fact means (fields_world p) r.term r.state)) r.later;
              at_is = at_after_facts means (fields_world p) (r.term ∷ []) r.state ∙ r.at_is;
              matches = matches_fact means p i r.term r.matches r.good told;
              leads = keeping_leads p (give p (IsConsistent p) q (Pure e)) c c (λ g a. a) (λ g w agrees old. passes (BoolValue true) (fits_over p c g w agrees old e (BoolValue true) k fit) refl);
              exposed = r.exposed;
            }

    points_given : HasReferences i → (place : Place) (e : Expr) (f : Name) (share : Expr) → GiveReal means p i at code o (Points place e f share)
    points_given refs place e f share scope q ty k s c scale on sc m h y =
        by_either (located_real means p i at code o below place e f share scale q s c behind ty.0 k.0 ty.2 k.1 sc m follows y)
        (λ z. inl (z.0, z.1, fails_here p (give p (IsConsistent p) q (Points place e f share)) c z.0 (λ g w agrees old. refused z.0 (eventually z.2 (λ n u. part_over p c g w agrees old n place e f share k.0 k.1 ∙ u)) refl)))
        (λ l. inr (ended l))
      where
        new : Term → Term → rules.State → rules.Chunk
        new r a s3 = record (field_key f r) { amount = a; value = rules.fresh (field_sort p f) s3; inner = s.inner }

        behind : Term → Term → Going
        behind r a s3 = Step (on (put (record (field_key f r) { amount = a; value = rules.fresh (field_sort p f) s3; inner = s.inner }) (rules.after_fresh s3)))

        follows : (r a : Term) → Follows (behind r a)
        follows r a s3 =
            let chunk = record (field_key f r) { amount = a; value = rules.fresh (field_sort p f) s3; inner = s.inner } in
            let done = put chunk (rules.after_fresh s3) in
            earlier (after (value_later (field_sort p f) None s3) (put_later chunk (rules.after_fresh s3))) (on done) (h done)

        ended : Located means p i at code scope s c place e f share q behind → Reaches means p i at code scope (give p (IsConsistent p) q (Points place e f share)) s c c.store on
        ended l = record {
          state = put chunk s4;
          heap = pr.heap;
          holdings = run.gained (run.At (at_field l.reference f)) (product q l.fraction) c.holdings;
          later = subst (λ n. s.next ≤ n) (sym (next_after_put means (fields_world p) chunk s4)) (le_trans l.later le);
          at_is = put_at chunk s4 ∙ l.at_is;
          matches = pr.matches;
          leads = keeping_leads p (give p (IsConsistent p) q (Points place e f share)) c (become c.store pr.heap (run.gained (run.At (at_field l.reference f)) (product q l.fraction) c.holdings) c) pr.back
              (λ g w agrees old. passes (run.At (at_field l.reference f), l.fraction) (eventually l.part (λ n u. part_over p c g w (pr.back g agrees) old n place e f share k.0 k.1 ∙ u))
              (inl (can_be p (run.with_holdings (run.gained (run.At (at_field l.reference f)) (product q l.fraction) c.holdings) (over g w c)) pr.matches.stands.holds, refl)));
          exposed = l.exposed;
        }
          where
            s4 : rules.State
            s4 = rules.after_fresh l.state

            chunk : rules.Chunk
            chunk = record (field_key f l.receiver) { amount = l.amount; value = rules.fresh (field_sort p f) l.state; inner = s.inner }

            le : l.state.next ≤ suc l.state.next
            le = le_of_lt (lt-suc_self l.state.next)

            v : (v : Value) × (type_of v ≡ run.field_type p f) × (value i (rules.fresh (field_sort p f) l.state) ≡ element v)
            v = subst (λ a. (v : Value) × (type_of v ≡ run.field_type p f) × (value i (variable l.state.next a) ≡ element v)) (sym (sort_of_field p f)) (let y = symbol means p i refs l.state.next (run.field_type p f) in (y.content, y.typed, y.is))

            pr : PutReal means p i scope (put chunk s4) c (at_field l.reference f) (product q l.fraction)
            pr = put_matches means p i refs scope s4 c (matches_fresh means p i refs l.matches) f l.receiver l.reference (good_later means le (extends-refl means l.state.next i) l.receiver_good) l.receiver_is l.amount (product q l.fraction)
                (good_later means le (extends-refl means l.state.next i) l.amount_good) l.amount_is l.sign (rules.fresh (field_sort p f) l.state)
                record { formed = constant (Variable l.state.next) (field_sort p f) (lt-suc_self l.state.next); settled = lt-suc_self l.state.next } v.0 v.1 v.2 s.inner (keeps i at code on h (put chunk s4) l.exposed)

    both_given : (a b : Assertion) → GiveReal means p i at code o a → GiveReal means p i at code o b → GiveReal means p i at code o (Both a b)
    both_given a b on_a on_b scope q ty k s c scale on sc m h y =
        by_either (on_a scope q ty.0 k.0 s c scale second sc m (λ s1. produce_grows p o below b scale None s1 on h) y)
        (λ z. inl (z.0, z.1, first_fails p (giving q a) (giving q b) c z.0 z.2))
        (λ r. by_either (on_b scope q ty.1 k.1 r.state (become c.store r.heap r.holdings c) scale on (scale_later means (fields_world p) r.later (extends-refl means s.next i) sc) r.matches h r.exposed)
        (λ z. inl (z.0, is_at means p i at code s r.state z.0 r.at_is z.1, then_fails p (giving q a) (giving q b) c z.0 c.store r.heap r.holdings r.leads z.2))
        (λ w. inr record {
          state = w.state;
          heap = w.heap;
          holdings = w.holdings;
          later = le_trans r.later w.later;
          at_is = w.at_is ∙ r.at_is;
          matches = w.matches;
          leads = then_leads p (giving q a) (giving q b) c (become c.store w.heap w.holdings c) c.store r.heap r.holdings r.leads w.leads;
          exposed = w.exposed;
        }))
      where
        second : Going
        second s1 = produce p o b scale None s1 on

    -- a side that was picked
    side_given : {scope : Scope} (a e : Assertion) (q : Fraction) (s s1 : rules.State) (c : run.State) (on : Going) → s.next ≤ s1.next → s1.at ≡ s.at →
        ((g w : run.Heap) (outcome : Outcome) → AgreeOn p c.holdings g c.heap → AgreeOn p c.old_holdings w c.old_heap → give p (IsConsistent p) q e (over g w c) outcome → give p (IsConsistent p) q a (over g w c) outcome) →
        Fails s1 c q e ⊎ Ended scope s1 c q e on → Fails s c q a ⊎ Ended scope s c q a on
    side_given a e q s s1 c on le same picks (inl z) = inl (z.0, is_at means p i at code s s1 z.0 same z.1, fails_by p (giving q e) (giving q a) c z.0 picks z.2)
    side_given a e q s s1 c on le same picks (inr w) = inr record {
      state = w.state;
      heap = w.heap;
      holdings = w.holdings;
      later = le_trans le w.later;
      at_is = w.at_is ∙ same;
      matches = w.matches;
      leads = leads_by p (giving q e) (giving q a) c (become c.store w.heap w.holdings c) picks w.leads;
      exposed = w.exposed;
    }

    -- a condition, and the state of the side that it picks
    record Tested (scope : Scope) (s : rules.State) (c : run.State) (d : Expr) (left right : Going) : Type 0 where
      pub test : Bool
      pub state : rules.State
      pub later : s.next ≤ state.next
      pub at_is : state.at ≡ s.at
      pub matches : Matches means p i scope state c
      pub fits : Fits p c d (BoolValue test)
      pub exposed : Exposed i at code (cond test left right state)

    tested_real : {scope : Scope} (d : Expr) (s : rules.State) (c : run.State) (left right : Going) → HasType p scope d type.Bool → InFields d → Matches means p i scope s c → Follows left → Follows right → Exposed i at code (eval p o d s (λ t s1. fork t s1 left right)) →
        ((x : Place) × IsAt means p i at code s x × FailsToFit p c d x) ⊎ Tested scope s c d left right
    tested_real {scope = scope} d s c left right ty k m hl hr y =
        by_either (eval_real means p i at code o below d scope type.Bool ty k s c (λ t s1. fork t s1 left right) m (λ t s1. fork_grows s1 t left right hl hr) y)
        (λ z. inl z)
        (λ r.
        let b = as_bool (element r.result) in
        let g = forked means p i at code r.term left right r.matches r.good hl hr r.exposed b (ap as_bool r.value_is) in
        inr record {
          test = b;
          state = g.state;
          later = subst (λ n. s.next ≤ n) (sym g.next_is) r.later;
          at_is = g.at_is ∙ r.at_is;
          matches = g.matches;
          fits = eventually r.fits (λ n e. e ∙ ap Ok (bool_value_is r.result r.typed));
          exposed = g.exposed;
        })

    implied_given : (d : Expr) (a : Assertion) → GiveReal means p i at code o a → GiveReal means p i at code o (Implied d a)
    implied_given d a on_a scope q ty k s c scale on sc m h y =
        by_either (tested_real d s c inside on ty.0 k.0 m (λ s2. produce_grows p o below a scale None s2 on h) h y)
        (λ z. inl (z.0, z.1, fails_here p (giving q (Implied d a)) c z.0 (λ g w agrees old. refused z.0 (misfits_over p c g w agrees old d z.0 k.0 z.2) refl)))
        (λ r. go r r.test refl)
      where
        inside : Going
        inside s2 = produce p o a scale None s2 on

        go : (r : Tested scope s c d inside on) → (b : Bool) → r.test ≡ b → Fails s c q (Implied d a) ⊎ Ended scope s c q (Implied d a) on
        go r true e =
            let fit : Fits p c d (BoolValue true) = subst (λ b. Fits p c d (BoolValue b)) e r.fits in
            side_given (Implied d a) a q s r.state c on r.later r.at_is (λ g w outcome agrees old ran. passes (BoolValue true) (fits_over p c g w agrees old d (BoolValue true) k.0 fit) ran)
            (on_a scope q ty.1 k.1 r.state c scale on (scale_later means (fields_world p) r.later (extends-refl means s.next i) sc) r.matches h (subst (λ b. Exposed i at code (cond b inside on r.state)) e r.exposed))
        go r false e =
            let fit : Fits p c d (BoolValue false) = subst (λ b. Fits p c d (BoolValue b)) e r.fits in
            inr record {
              state = r.state;
              heap = c.heap;
              holdings = c.holdings;
              later = r.later;
              at_is = r.at_is;
              matches = r.matches;
              leads = keeping_leads p (giving q (Implied d a)) c c (λ g x. x) (λ g w agrees old. passes (BoolValue false) (fits_over p c g w agrees old d (BoolValue false) k.0 fit) refl);
              exposed = subst (λ b. Exposed i at code (cond b inside on r.state)) e r.exposed;
            }

    chosen_given : (d : Expr) (a b : Assertion) → GiveReal means p i at code o a → GiveReal means p i at code o b → GiveReal means p i at code o (Chosen d a b)
    chosen_given d a b on_a on_b scope q ty k s c scale on sc m h y =
        by_either (tested_real d s c inside outside ty.0 k.0 m (λ s2. produce_grows p o below a scale None s2 on h) (λ s2. produce_grows p o below b scale None s2 on h) y)
        (λ z. inl (z.0, z.1, fails_here p (giving q (Chosen d a b)) c z.0 (λ g w agrees old. refused z.0 (misfits_over p c g w agrees old d z.0 k.0 z.2) refl)))
        (λ r. go r r.test refl)
      where
        inside : Going
        inside s2 = produce p o a scale None s2 on

        outside : Going
        outside s2 = produce p o b scale None s2 on

        go : (r : Tested scope s c d inside outside) → (x : Bool) → r.test ≡ x → Fails s c q (Chosen d a b) ⊎ Ended scope s c q (Chosen d a b) on
        go r true e =
            let fit : Fits p c d (BoolValue true) = subst (λ b. Fits p c d (BoolValue b)) e r.fits in
            side_given (Chosen d a b) a q s r.state c on r.later r.at_is (λ g w outcome agrees old ran. passes (BoolValue true) (fits_over p c g w agrees old d (BoolValue true) k.0 fit) ran)
            (on_a scope q ty.1 k.1 r.state c scale on (scale_later means (fields_world p) r.later (extends-refl means s.next i) sc) r.matches h (subst (λ b. Exposed i at code (cond b inside outside r.state)) e r.exposed))
        go r false e =
            let fit : Fits p c d (BoolValue false) = subst (λ b. Fits p c d (BoolValue b)) e r.fits in
            side_given (Chosen d a b) b q s r.state c on r.later r.at_is (λ g w outcome agrees old ran. passes (BoolValue false) (fits_over p c g w agrees old d (BoolValue false) k.0 fit) ran)
            (on_b scope q ty.2 k.2 r.state c scale on (scale_later means (fields_world p) r.later (extends-refl means s.next i) sc) r.matches h (subst (λ b. Exposed i at code (cond b inside outside r.state)) e r.exposed))

    given : HasReferences i → (a : Assertion) → IsOfFields a → GiveReal means p i at code o a
    given refs (Pure e) k = pure_given e
    given refs (Points place e f share) k = points_given refs place e f share
    given refs (Instance place f es share) k = absurd k
    given refs (Both a b) k = both_given a b (given refs a k.0) (given refs b k.1)
    given refs (Implied d a) k = implied_given d a (given refs a k.1)
    given refs (Chosen d a b) k = chosen_given d a b (given refs a k.1) (given refs b k.2)

    -- as it is stated
    pub give_shown : HasReferences i → (a : Assertion) → GiveReal means p i at code o a
    give_shown refs a scope q ty k = given refs a k scope q ty k
