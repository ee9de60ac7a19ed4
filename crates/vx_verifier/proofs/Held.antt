-- What a lane has from its spawner, from one call to the next.
use Rattle.std.proofs.Common.{◌≡◌, ℕ, ◌+◌, ◌<◌, ◌≤◌, ◌==◌, ◌&&◌, Bool, true, false, IsTrue, if◌then◌else◌, List, [], ◌∷◌, ◌++◌, refl, ap, sym, subst, ◌∙◌, append_assoc, arith, inl, inr}
use Rattle.std.proofs.lemmas.List.{append-nil}
use Rattle.std.proofs.Math.Nat.{le_trans}
use Rattle.vx_terms.specs.Interpretations.{Each}
use Rattle.vx_ends.specs.declared.piece.Piece.{Piece}
use Rattle.vx_ends.specs.declared.piece.Start.{Start}
use Rattle.vx_ends.specs.declared.piece.Ending.{Ending}
use Rattle.vx_smt_meaning.specs.Commands.{Declared}
use Rattle.vx_dialogue.specs.declared.dialogue.Dialogue.{Dialogue}
use Rattle.vx_dialogue.specs.Dialogue.{link_of}
use Rattle.vx_dialogue.specs.History.{Tells}
use Rattle.vx_dialogue.specs.Scripts.{script}
use Rattle.vx_dialogue.proofs.History.{standing_tells}
use Rattle.vx_live.specs.Functions.{function_symbols}
use Rattle.vx_pool.specs.Events.{Event}
use Rattle.vx_report.specs.declared.run.Cause.{Cause}
use Rattle.vx_verifier.specs.declared.line.Child.{Child}
use Rattle.vx_verifier.specs.declared.line.Child.TheVariants.{NotStarted, Talking, Lost}
use Rattle.vx_verifier.specs.Dealt.{links_in, starts_in, started_where}
use Rattle.vx_verifier.specs.Outsets.{Hub, Outset}
use Rattle.vx_verifier.specs.Headline.{IsRecorded}
use Rattle.vx_verifier.specs.Lanes.{IsHeld, IsBack, IsToldOf, IsSteadyChild, TellsOf, has_lost, links_out, is_started}
use Rattle.vx_verifier.specs.Going.{each_join}
use Rattle.vx_verifier.proofs.Moved.{links_join, starts_join, own_links, own_starts}
use Rattle.vx_verifier.proofs.Children.{uncaused}

at_most : (a b : ℕ) → b ≡ a → a ≤ b
at_most a b same = omega arith

owed_on : (first was now out in' : ℕ) → was ≡ first + out → now + out ≡ was + in' → now ≡ first + in'
owed_on first was now out in' is on = omega arith

owed_back : (lane was now : ℕ) → now + (if lane == lane then 1 else 0) ≡ was → now + 1 ≡ was + 0
owed_back lane was now is = grind arith

owed_same : (was now n : ℕ) → now ≡ was → now + n ≡ was + n
owed_same was now n same = omega arith

owed_started : (lane was now : ℕ) → now ≡ was + (if true && (lane == lane) then 1 else 0) → now + 0 ≡ was + 1
owed_started lane was now is = grind arith

owed_failed : (lane was now : ℕ) → now ≡ was + (if false && (lane == lane) then 1 else 0) → now ≡ was
owed_failed lane was now is = grind arith

owed_unopened : (lane was between now : ℕ) → between ≡ was + (if true && (lane == lane) then 1 else 0) → now + (if lane == lane then 1 else 0) ≡ between → now + 0 ≡ was + 0
owed_unopened lane was between now started back = grind arith

-- a link that is out is owed
pub is_owed : (first now : ℕ) → now ≡ first + 1 → 0 < now
is_owed first now is = omega arith

module _ {L : Type 0} (steady_link : L → Bool) (faults_of : L → ℕ) (o : Outset) (lane : ℕ) (command : List (List ℕ)) (functions : List Declared) where
  abbrev Held : Child L → Hub → Type 0
  Held child h = IsHeld steady_link faults_of o lane command functions child h

  abbrev Steady : Child L → Type 0
  Steady child = IsSteadyChild steady_link faults_of child

  abbrev pub own_start : Start
  own_start = record { lane = lane; command = command }

  held_after : (a b : Child L) (g h : Hub) (starts : List Start) (links : List Ending) → h.starts ≡ g.starts ++ starts → h.ended ≡ g.ended ++ links
      → h.owed lane + links_out a ≡ g.owed lane + links_out b
      → (command ≡ o.command → started_where (is_started a) lane o.command ++ starts_in lane starts ≡ started_where (is_started b) lane o.command)
      → g.faults ≤ h.faults → h.steady ≡ g.steady
      → (IsTrue g.steady → Steady a → (h.faults ≡ g.faults) × Each (λ (e : Ending). e.faults ≡ 0) (links_in lane links) × Steady b) → Held a g → Held b h
  held_after a b g h starts links starts_are links_are owed once more same calm held = record {
    within = held.within;
    command_is = held.command_is;
    functions_are = held.functions_are;
    owed = owed_on (o.first.owed lane) (g.owed lane) (h.owed lane) (links_out a) (links_out b) held.owed owed;
    since = held.since ++ links;
    ended = links_are ∙ (ap (λ x. x ++ links) held.ended ∙ append_assoc o.first.ended held.since links);
    starts = held.starts ++ starts;
    started = starts_are ∙ (ap (λ x. x ++ starts) held.started ∙ append_assoc o.first.starts held.starts starts);
    once = starts_join lane held.starts starts ∙ (ap (λ x. x ++ starts_in lane starts) held.once ∙ once held.command_is);
    faults = le_trans held.faults more;
    calm = λ steady.
        let was = held.calm steady in
        let now = calm was.spawner was.child_is in
        record {
          spawner = subst IsTrue (sym same) was.spawner;
          starts = now.0 ∙ was.starts;
          links_are = subst (λ x. Each (λ (e : Ending). e.faults ≡ 0) x) (sym (links_join lane held.since links)) (each_join _ (links_in lane held.since) (links_in lane links) was.links_are now.1);
          child_is = now.2;
        };
  }

  none_more : (b : Bool) → started_where b lane o.command ++ [] ≡ started_where b lane o.command
  none_more b = append-nil (started_where b lane o.command)

  -- the same with another child, where nothing else changed
  pub held_with : (a b : Child L) (h : Hub) → links_out b ≡ links_out a → is_started b ≡ is_started a → (Steady a → Steady b) → Held a h → Held b h
  held_with a b h out begun on =
      held_after a b h h [] [] (sym (append-nil h.starts)) (sym (append-nil h.ended)) (ap (λ n. h.owed lane + n) (sym out))
      (λ _. none_more (is_started a) ∙ ap (λ x. started_where x lane o.command) (sym begun)) (at_most h.faults h.faults refl) refl (λ steady was. (refl, tt, on was))

  -- a link is handed back
  pub held_back : (a b : Child L) (g h : Hub) (e : Ending) → links_out a ≡ 1 → links_out b ≡ 0 → is_started b ≡ is_started a → h.ended ≡ g.ended ++ e ∷ [] → e.lane ≡ lane
      → ((n : ℕ) → h.owed n + (if n == lane then 1 else 0) ≡ g.owed n) → h.starts ≡ g.starts → h.faults ≡ g.faults → h.steady ≡ g.steady → (IsTrue g.steady → Steady a → (e.faults ≡ 0) × Steady b) → Held a g → Held b h
  held_back a b g h e out none begun ended own owed starts faults same calm =
      held_after a b g h [] (e ∷ []) (starts ∙ sym (append-nil g.starts)) ended
      (ap (λ n. h.owed lane + n) out ∙ owed_back lane (g.owed lane) (h.owed lane) (owed lane) ∙ ap (λ n. g.owed lane + n) (sym none))
      (λ _. none_more (is_started a) ∙ ap (λ x. started_where x lane o.command) (sym begun)) (at_most g.faults h.faults faults) same
      (λ steady was. let now = calm steady was in (faults, subst (λ x. Each (λ (e : Ending). e.faults ≡ 0) x) (sym (own_links lane [] e own)) (now.0, tt), now.1))

  -- the child is started
  pub held_started : (d : Dialogue L) (g h : Hub) → h.starts ≡ g.starts ++ own_start ∷ [] → h.ended ≡ g.ended → h.owed lane ≡ g.owed lane + (if true && (lane == lane) then 1 else 0)
      → g.faults ≤ h.faults → h.steady ≡ g.steady → (IsTrue g.steady → (h.faults ≡ g.faults) × Steady (Talking d)) → Held NotStarted g → Held (Talking d) h
  held_started d g h starts ended owed more same calm =
      held_after NotStarted (Talking d) g h (own_start ∷ []) [] starts (ended ∙ sym (append-nil g.ended)) (owed_started lane (g.owed lane) (h.owed lane) owed)
      (λ is. own_starts lane [] own_start refl ∙ ap (λ c. record { lane = lane; command = c } ∷ []) is) more same (λ steady was. let now = calm steady in (now.0, tt, now.1))

  -- its start fails
  pub held_failed : (g h : Hub) → h.starts ≡ g.starts ++ own_start ∷ [] → h.ended ≡ g.ended → h.owed lane ≡ g.owed lane + (if false && (lane == lane) then 1 else 0)
      → g.faults ≤ h.faults → h.steady ≡ g.steady → (IsTrue g.steady → h.faults ≡ g.faults) → Held NotStarted g → Held Lost h
  held_failed g h starts ended owed more same calm =
      held_after NotStarted Lost g h (own_start ∷ []) [] starts (ended ∙ sym (append-nil g.ended)) (owed_same (g.owed lane) (h.owed lane) 0 (owed_failed lane (g.owed lane) (h.owed lane) owed))
      (λ is. own_starts lane [] own_start refl ∙ ap (λ c. record { lane = lane; command = c } ∷ []) is) more same (λ steady was. (calm steady, tt, tt))

  -- there is no memory for it
  pub held_wanting : (g h : Hub) → h.starts ≡ g.starts → h.ended ≡ g.ended → h.owed lane ≡ g.owed lane + (if false && (lane == lane) then 1 else 0)
      → g.faults ≤ h.faults → h.steady ≡ g.steady → (IsTrue g.steady → h.faults ≡ g.faults) → Held NotStarted g → Held NotStarted h
  held_wanting g h starts ended owed more same calm =
      held_after NotStarted NotStarted g h [] [] (starts ∙ sym (append-nil g.starts)) (ended ∙ sym (append-nil g.ended)) (owed_same (g.owed lane) (h.owed lane) 0 (owed_failed lane (g.owed lane) (h.owed lane) owed))
      (λ is. refl) more same (λ steady was. (calm steady, tt, tt))

  -- it is started, but its preamble breaks off, and the link is handed back
  pub held_unopened : (g m h : Hub) (e : Ending) → m.starts ≡ g.starts ++ own_start ∷ [] → m.ended ≡ g.ended → m.owed lane ≡ g.owed lane + (if true && (lane == lane) then 1 else 0)
      → g.faults ≤ m.faults → m.steady ≡ g.steady → h.ended ≡ m.ended ++ e ∷ [] → e.lane ≡ lane → ((n : ℕ) → h.owed n + (if n == lane then 1 else 0) ≡ m.owed n) → h.starts ≡ m.starts
      → h.faults ≡ m.faults → h.steady ≡ m.steady → (IsTrue g.steady → (m.faults ≡ g.faults) × (e.faults ≡ 0)) → Held NotStarted g → Held Lost h
  held_unopened g m h e starts ended owed more same ended' own owed' starts' faults' same' calm =
      held_after NotStarted Lost g h (own_start ∷ []) (e ∷ []) (starts' ∙ starts) (ended' ∙ ap (λ x. x ++ e ∷ []) ended) (owed_unopened lane (g.owed lane) (m.owed lane) (h.owed lane) owed (owed' lane))
      (λ is. own_starts lane [] own_start refl ∙ ap (λ c. record { lane = lane; command = c } ∷ []) is) (le_trans more (at_most m.faults h.faults faults')) (same' ∙ same)
      (λ steady was. let now = calm steady in (faults' ∙ now.0, subst (λ x. Each (λ (e : Ending). e.faults ≡ 0) x) (sym (own_links lane [] e own)) (now.1, tt), tt))

  owes_none : (first now n : ℕ) → now ≡ first + n → n ≡ 0 → now ≡ first
  owes_none first now n is none = omega arith

  -- where no link is out
  pub back : (child : Child L) (h : Hub) → links_out child ≡ 0 → Held child h → IsBack o lane h
  back child h none held = record {
    owed = owes_none (o.first.owed lane) (h.owed lane) (links_out child) held.owed none;
    since = held.since;
    ended = held.ended;
    starts = held.starts;
    started = held.started;
    once = (is_started child, held.once);
    calm = λ steady. let c = held.calm steady in (c.starts, c.links_are);
  }

  module _ (dialogue : L → List Piece) where
    -- the links of a lane tell what its child has told
    pub told_back : (child : Child L) (d : Dialogue L) (g h : Hub) (e : Ending) (events : List (Event Cause)) → child ≡ Talking d → h.ended ≡ g.ended ++ e ∷ [] → e.lane ≡ lane → e.dialogue ≡ dialogue (link_of d)
        → Held Lost h → TellsOf dialogue o lane child g events → IsToldOf o lane h events
    told_back child d g h e events is ended own same held told =
        let here : TellsOf dialogue o lane (Talking d) g events = subst (λ (x : Child L). TellsOf dialogue o lane x g events) is told in
        let t = here.heard_of in
        let one : links_in lane (t.since ++ e ∷ []) ≡ e ∷ [] = own_links lane t.since e own ∙ ap (λ x. x ++ e ∷ []) t.heard.2.0 in
        let none : false ≡ has_lost events = t.lost in
        let tells : Tells false (script false (function_symbols o.program) t.heard.0) e.dialogue t.checks =
        subst (λ x. Tells false (script false (function_symbols o.program) t.heard.0) x t.checks) (sym same) (standing_tells dialogue false (function_symbols o.program) t.heard.0 d t.checks t.heard.2.1) in
        record {
          since = t.since ++ e ∷ [];
          ended = ended ∙ (ap (λ x. x ++ e ∷ []) t.ended ∙ append_assoc o.first.ended t.since (e ∷ []));
          starts = held.starts;
          started = held.started;
          once = held.once ∙ ap (λ b. started_where b lane o.command) here.started;
          checks = t.checks;
          answered = t.answered;
          recorded = (t.heard.0, t.heard.1, subst (λ b. IsRecorded (function_symbols o.program) b (links_in lane (t.since ++ e ∷ [])) t.heard.0 t.checks) none (inr (e, one, tells)));
          caused = uncaused (links_in lane (t.since ++ e ∷ [])) o.first.faults h.faults events (sym none);
        }

    pub told_unstarted : (child : Child L) (h : Hub) (events : List (Event Cause)) → child ≡ NotStarted → Held child h → TellsOf dialogue o lane child h events → IsToldOf o lane h events
    told_unstarted child h events is held told =
        let here : TellsOf dialogue o lane NotStarted h events = subst (λ (x : Child L). TellsOf dialogue o lane x h events) is told in
        let t = here.heard_of in
        record {
          since = t.since;
          ended = t.ended;
          starts = held.starts;
          started = held.started;
          once = held.once ∙ ap (λ b. started_where b lane o.command) told.started;
          checks = t.checks;
          answered = t.answered;
          recorded = (t.heard.0, t.heard.1, inl (t.heard.2.0, t.heard.2.1));
          caused = t.caused;
        }

    pub told_lost : (child : Child L) (h : Hub) (events : List (Event Cause)) → child ≡ Lost → Held child h → TellsOf dialogue o lane child h events → IsToldOf o lane h events
    told_lost child h events is held told =
        let here : TellsOf dialogue o lane Lost h events = subst (λ (x : Child L). TellsOf dialogue o lane x h events) is told in
        let t = here.heard_of in
        record {
          since = t.since;
          ended = t.ended;
          starts = held.starts;
          started = held.started;
          once = held.once ∙ ap (λ b. started_where b lane o.command) told.started;
          checks = t.checks;
          answered = t.answered;
          recorded = (t.heard.0, t.heard.1, subst (λ b. IsRecorded (function_symbols o.program) b (links_in lane t.since) t.heard.0 t.checks) t.lost t.heard.2);
          caused = t.caused;
        }
