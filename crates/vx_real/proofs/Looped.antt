-- A loop backwards as a statement: from its invariant, taken, an iteration that fails or what is behind.
use Rattle.std.proofs.Common.{◌≡◌, ◌⊎◌, inl, inr, List, [], ◌∷◌, length, None, refl, ◌∙◌, le_trans}
use Rattle.vx_frac.specs.Fractions.{full}
use Rattle.vx_ast.specs.declared.Place.{Place}
use Rattle.vx_ast.specs.Syntax.{Program, Expr, Assertion, joined, joined_with, Both, assigned_in, While, Block}
use Rattle.vx_meaning.specs.States as run
use Rattle.vx_meaning.specs.Fits.{take_by}
use Rattle.vx_meaning.specs.Outcomes.{Outcomes, either}
use Rattle.vx_meaning.specs.Run as meaning
use Rattle.vx_terms.specs.Build.{whole_amount}
use Rattle.vx_terms.specs.Interpretations.{Interpretation}
use Rattle.vx_rules.specs.States as rules
use Rattle.vx_rules.specs.Trees.{Code, EntryCode, Fork}
use Rattle.vx_rules.specs.Rules.{Giving, Going, Outer, produce}
use Rattle.vx_rules.specs.Members.{codes, forget}
use Rattle.vx_types.specs.Typing.{IsTyped}
use Rattle.vx_types.specs.FieldLanguage.{InFields, IsOfFields, AreOfFields}
use Rattle.vx_elements.proofs.Settled.{Meaning}
use Rattle.vx_elements.proofs.Scopes.{joined_typed}
use Rattle.vx_grows.proofs.Later.{forgotten_later}
use Rattle.vx_grows.proofs.GrowSteps.{FollowsWith, earlier}
use Rattle.vx_grows.proofs.GrowParts.{OuterGrows}
use Rattle.vx_grows.proofs.GrowAssertions.{produce_grows}
use Rattle.vx_sound.proofs.Fields.{fields_world}
use Rattle.vx_sound.proofs.Stands.{store_lengths}
use Rattle.vx_sound.proofs.Giving.{whole_scale}
use Rattle.vx_real.specs.Exposed.{Exposed}
use Rattle.vx_real.proofs.Backwards.{become, fails_here, FailsFrom}
use Rattle.vx_real.proofs.Matched.{HasReferences, Mistakes, Takes, ExecReal, ExecAllReal}
use Rattle.vx_real.proofs.TakesAssertions.{take_shown}
use Rattle.vx_real.proofs.Checks.{passing_fails, passing_leads}
use Rattle.vx_real.proofs.Restored.{before}
use Rattle.vx_real.proofs.Forgotten.{Forgot, forgets}
use Rattle.vx_real.proofs.Plain.{takes_always, mistake_fails}
use Rattle.vx_real.proofs.Scoped.{Runs}
use Rattle.vx_real.proofs.Looping.{matches_nothing, inside, inside_grows, entered_fails, outside, outside_grows, leaving, behind_real}

joined_with_fields : (a : Assertion) (rest : List Assertion) → IsOfFields a → AreOfFields rest → IsOfFields (joined_with a rest)
joined_with_fields a [] k ks = k
joined_with_fields a (b ∷ rest) k ks = joined_with_fields (Both a b) rest (k, ks.0) ks.1

pub joined_fields : (at : Place) (rest : List Assertion) → AreOfFields rest → IsOfFields (joined at rest)
joined_fields at [] h = tt
joined_fields at (a ∷ rest) h = joined_with_fields a rest h.0 h.1

module _ (means : Meaning) (p : Program) (i : Interpretation) (references : HasReferences i) (at : Place) (code : Code) (o : Outer) (below : OuterGrows o) where
  pub while_real : (place : Place) (e : Expr) (is : List Assertion) (b : Block) → InFields e → AreOfFields is → ExecAllReal means p i at code o b → ExecReal means p i at code o (While place e is b)
  while_real place e is b j ji on_b scope k once s c on none m h x =
      go (take_shown means p i at code o below (joined place is) scope full inv_typed inv_fields s c c.holdings (codes EntryCode EntryCode) whole_amount s.heap after refl (whole_scale means (fields_world p) s.next i) m m after_grows x)
    where
      len : length s.store ≡ length scope
      len = (store_lengths means (fields_world p) s.next i scope s.store c.store m.stands.store).0

      inv_typed : IsTyped p scope (joined place is)
      inv_typed = joined_typed p scope place is k.1

      inv_fields : IsOfFields (joined place is)
      inv_fields = joined_fields place is ji

      within : Going
      within s2 = inside means p i references at code o below place e is b j inv_fields on_b scope k.0 inv_typed k.2 once (length s.store) len s2

      beyond : Going
      beyond s2 = outside means p i references at code o below place e is b j inv_fields on_b scope k.0 inv_typed k.2 once (length s.store) len on h s2

      after : Giving
      after t s1 = Fork (produce p o (joined place is) whole_amount None (rules.with_heap [] (forget [] (assigned_in b) s1)) within) (produce p o (joined place is) whole_amount None (forget [] (assigned_in b) s1) beyond)

      after_grows : FollowsWith after
      after_grows t s1 =
          let s2 = forget [] (assigned_in b) s1 in
          let l = forgotten_later [] (assigned_in b) s1 in (
            earlier l (produce p o (joined place is) whole_amount None (rules.with_heap [] s2) within)
                (produce_grows p o below (joined place is) whole_amount None (rules.with_heap [] s2) within (inside_grows means p i references at code o below place e is b j inv_fields on_b scope k.0 inv_typed k.2 once (length s.store) len)),
            earlier l (produce p o (joined place is) whole_amount None s2 beyond)
                (produce_grows p o below (joined place is) whole_amount None s2 beyond (outside_grows means p i references at code o below place e is b j inv_fields on_b scope k.0 inv_typed k.2 once (length s.store) len on h)),
          )

      body : run.State → Outcomes
      body = meaning.scoped p (meaning.run_all p b)

      rest : run.State → run.Holdings → Outcomes
      rest z left = either (meaning.iteration p z (assigned_in b) e (joined place is) (meaning.scoped p (meaning.run_all p b))) (meaning.behind p (run.with_holdings left z) (assigned_in b) e (joined place is))

      -- an iteration that fails, from any heap
      iterated : (r : Takes means p i at code scope s c c.holdings after (joined place is) full) → Exposed i at code (produce p o (joined place is) whole_amount None (rules.with_heap [] (forget [] (assigned_in b) r.state)) within) →
          FailsFrom p (λ z. rest z r.left) c at
      iterated r y =
          let f = forgets means p i references (assigned_in b) r.state (run.with_holdings r.left c) r.matches in
          let t0 = record c { store = f.store; holdings = [] } in
          let q = entered_fails means p i references at code o below place e is b j inv_fields on_b scope k.0 inv_typed k.2 once (length s.store) len (rules.with_heap [] (forget [] (assigned_in b) r.state)) t0
          (f.at_is ∙ r.at_is ∙ none) (matches_nothing means p i references at code o below c.heap f.matches) y in
          fails_here p (λ z. rest z r.left) c at (λ g o' a old. inl (q.heap, (f.store, (f.differs, q.runs q.heap o' (λ l. refl) old))))

      -- on behind the loop
      left : (r : Takes means p i at code scope s c c.holdings after (joined place is) full) (f : Forgot means p i references scope (assigned_in b) c.store r.state (forget [] (assigned_in b) r.state) (run.with_holdings r.left c)) →
          Runs means p i references at code o below scope (leaving means p i references at code o below place e is b j inv_fields on_b scope k.0 inv_typed k.2 once (length s.store) len on h) (forget [] (assigned_in b) r.state) (run.with_store f.store (run.with_holdings r.left c)) on →
          Runs means p i references at code o below scope (meaning.run p (While place e is b)) s c on
      left r f (inl q) =
          let w = before p c r.left q.heap r.matches.stands.holds.only q.agrees in
          inl (passing_fails p (λ z n. take_by p n z full (joined place is) z.holdings) rest c at r.left (takes_always p c (joined place is) full c.holdings inv_fields r.takes)
          (record { heap = w.front; agrees = w.agrees; runs = λ g o' alike old. inr (q.heap, (w.changes g o' alike, (f.store, (f.differs, q.runs q.heap o' (λ l. refl) old)))) }))
      left r f (inr (y, q)) = inr (
        y,
        record {
          state = q.state;
          heap = q.heap;
          holdings = q.holdings;
          later = le_trans r.later (le_trans f.later q.later);
          at_is = q.at_is ∙ f.at_is ∙ r.at_is;
          matches = q.matches;
          leads = passing_leads p (λ z n. take_by p n z full (joined place is) z.holdings) rest c (become y q.heap q.holdings c) r.left (takes_always p c (joined place is) full c.holdings inv_fields r.takes)
              (λ to agrees.
              let l = q.leads to agrees in
              let w = before p c r.left l.heap r.matches.stands.holds.only l.agrees in
              record { heap = w.front; agrees = w.agrees; runs = λ g o' alike old. let z = l.runs l.heap o' (λ l. refl) old in (z.0, z.1, inr (l.heap, (w.changes g o' alike, (f.store, (f.differs, z.2))))) });
          exposed = q.exposed;
        },
      )

      taken : (r : Takes means p i at code scope s c c.holdings after (joined place is) full) → Exposed i at code (after r.snapshot r.state) → Runs means p i references at code o below scope (meaning.run p (While place e is b)) s c on
      taken r (inl y) = inl (passing_fails p (λ z n. take_by p n z full (joined place is) z.holdings) rest c at r.left (takes_always p c (joined place is) full c.holdings inv_fields r.takes) (iterated r y))
      taken r (inr y) =
          let f = forgets means p i references (assigned_in b) r.state (run.with_holdings r.left c) r.matches in
          left r f (behind_real means p i references at code o below place e is b j inv_fields on_b scope k.0 inv_typed k.2 once (length s.store) len on h (forget [] (assigned_in b) r.state) (run.with_store f.store (run.with_holdings r.left c))
          (f.at_is ∙ r.at_is ∙ none) f.matches y)

      go : Mistakes means p i at code s c (joined place is) full c.holdings ⊎ Takes means p i at code scope s c c.holdings after (joined place is) full → Runs means p i references at code o below scope (meaning.run p (While place e is b)) s c on
      go (inl f) = inl (mistake_fails means p i references at code o below s (joined place is) rest none inv_fields f)
      go (inr r) = taken r r.exposed
