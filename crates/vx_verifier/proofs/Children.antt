-- How a lane's child is heard, from one event to the next.
use Rattle.std.proofs.Common.{Bool, true, false, Result, Ok, Err, IfErr, ◌≡◌, ◌||◌, ℕ, ◌<◌, ◌≤◌, ◌++◌, ◌∷◌, [], List, map, refl, ap, ◌∙◌, sym, subst, inl, inr, append_assoc, arith}
use Rattle.std.proofs.lemmas.List.{map-append, append-nil}
use Rattle.vx_ends.specs.declared.piece.Piece.{Piece}
use Rattle.vx_ends.specs.declared.piece.Ending.{Ending}
use Rattle.vx_ends.specs.Causes.{Rose}
use Rattle.vx_terms.specs.Terms.{Term}
use Rattle.vx_segments.specs.Segments.{Entry, terms}
use Rattle.vx_segments.specs.Views.{entry}
use Rattle.vx_segments.specs.declared.Entry.{Entry as Entry'}
use Rattle.vx_smt_meaning.specs.Commands.{Declared}
use Rattle.vx_smt_meaning.specs.Dialogues.{Check}
use Rattle.vx_smt_meaning.specs.Names.{AreCommands}
use Rattle.vx_smt_meaning.specs.declared.reply.Reply.{Reply}
use Rattle.vx_dialogue.specs.declared.dialogue.Dialogue.{Dialogue}
use Rattle.vx_dialogue.specs.declared.talk.Talk.{Talk}
use Rattle.vx_dialogue.specs.declared.talk.Talk.TheVariants as talk
use Rattle.vx_dialogue.specs.Bases.{standing as standing_path}
use Rattle.vx_dialogue.specs.Preamble.{preamble}
use Rattle.vx_dialogue.specs.Turns.{Turn}
use Rattle.vx_dialogue.specs.Turns as turns'
use Rattle.vx_dialogue.specs.Scripts.{Scope, Outside, Inside, Left as LeftScope, ScopedTurn, Asks, Posts, Leaves, plain, left as left_scope, posted, scope_after, said_of, said_by, scope_from, script}
use Rattle.vx_dialogue.specs.Dialogue.{shared, Gathers, Stands, Awaits, IsFree, IsAsked, has_failed, link_of, scope_of, base_of, check_of}
use Rattle.vx_dialogue.specs.Steady.{IsSteady}
use Rattle.vx_dialogue.specs.History.{Tells, Breaks}
use Rattle.vx_dialogue.proofs.History.{breaks_longer}
use Rattle.vx_dialogue.proofs.Levels.{scope_more, script_more, script_none}
use Rattle.vx_rules.specs.Trees.{Question}
use Rattle.vx_live.specs.Functions.{function_symbols}
use Rattle.vx_grows.specs.Grows.{Begins}
use Rattle.vx_pool.specs.Events.{Event, standing, GoesOn, IfFault}
use Rattle.vx_pool.specs.Events as event
use Rattle.vx_pool.specs.declared.stop.Stop.{Stop}
use Rattle.vx_pool.specs.declared.stop.Stop.TheVariants as stop
use Rattle.vx_report.specs.declared.run.Cause.{Cause}
use Rattle.vx_report.specs.declared.run.Cause.TheVariants as cause
use Rattle.vx_verifier.specs.declared.line.Child.{Child}
use Rattle.vx_verifier.specs.declared.line.Child.TheVariants.{NotStarted, Talking, Lost}
use Rattle.vx_verifier.specs.Sequences.{IsCheckOf, AreChecksOf}
use Rattle.vx_verifier.specs.Causes.{HasCauseOf}
use Rattle.vx_verifier.specs.Headline.{IsRecorded}
use Rattle.vx_verifier.specs.Dealt.{links_in}
use Rattle.vx_verifier.specs.Outsets.{Hub, Outset}
use Rattle.vx_verifier.specs.Steady.{IsSpelled}
use Rattle.vx_verifier.specs.Lanes.{AreSilent, AreCaused, HearsOf, TellsOf, AsksOf, answered_in, has_asked, has_lost, stop_of, turns_in}
use Rattle.vx_verifier.proofs.Sequences.{check_is, checks_more}
use Rattle.vx_verifier.proofs.Steady.{said_named, posted_asked, left_named}
use Rattle.vx_verifier.proofs.Moved.{own_links}
use Rattle.vx_verifier.proofs.Events.{or_false, or_true, answered_join, lost_join, asked_join, turns_join}

-- ---- one event more

standing_more : (events : List (Event Cause)) (e : Event Cause) → standing (events ++ e ∷ []) ≡ standing (e ∷ [])
standing_more [] e = refl
standing_more (event.Answered q r ∷ []) e = refl
standing_more (event.Lost q x ∷ []) e = refl
standing_more (event.Left ∷ []) e = refl
standing_more (event.Answered q r ∷ f ∷ events) e = standing_more (f ∷ events) e
standing_more (event.Lost q x ∷ f ∷ events) e = standing_more (f ∷ events) e
standing_more (event.Left ∷ f ∷ events) e = standing_more (f ∷ events) e

caused_more : (links : List Ending) (f g : ℕ) (lost : Bool) (events : List (Event Cause)) (e : Event Cause) → AreCaused links f g lost events → AreCaused links f g (lost || has_lost events) (e ∷ [])
    → AreCaused links f g lost (events ++ e ∷ [])
caused_more links f g lost [] e caused more = subst (λ b. AreCaused links f g b (e ∷ [])) (or_false lost) more
caused_more links f g lost (event.Answered q r ∷ events) e caused more = (caused.0, caused_more links f g lost events e caused.1 more)
caused_more links f g lost (event.Lost q x ∷ events) e caused more = (caused.0, caused_more links f g true events e caused.1 (subst (λ b. AreCaused links f g b (e ∷ [])) (or_true lost) more))
caused_more links f g lost (event.Left ∷ events) e caused more = caused_more links f g lost events e caused more

-- where nothing was lost, no cause is wanted, whatever the links
pub uncaused : (links : List Ending) (f g : ℕ) (events : List (Event Cause)) → has_lost events ≡ false → AreCaused links f g false events
uncaused links f g [] none = tt
uncaused links f g (event.Answered q r ∷ events) none = (refl, uncaused links f g events none)
uncaused links f g (event.Lost q x ∷ events) none = cc
uncaused links f g (event.Left ∷ events) none = uncaused links f g events none

-- a question more is answered, where none was lost
turns_answered : (events : List (Event Cause)) (q : Question) (r : Reply) → turns_in false (events ++ event.Answered q r ∷ []) ≡ turns_in false events ++ turns'.Asks q.path q.condition ∷ []
turns_answered events q r = turns_join false events (event.Answered q r ∷ [])

-- a question is lost, where none was before
turns_lost : (events : List (Event Cause)) (q : Question) (x : Cause) → has_lost events ≡ false → turns_in false (events ++ event.Lost q x ∷ []) ≡ turns_in false events ++ turns'.Posts q.path q.condition ∷ []
turns_lost events q x none = turns_join false events (event.Lost q x ∷ []) ∙ ap (λ b. turns_in false events ++ turns_in b (event.Lost q x ∷ [])) none

-- ---- turns whose paths have numbers

-- one turn more
pub one_more : (scoped : List ScopedTurn) (turns : List Turn) (t : ScopedTurn) (u : Turn) → map plain scoped ≡ turns → plain t ≡ u → map plain (scoped ++ t ∷ []) ≡ turns ++ u ∷ []
one_more scoped turns t u is same = map-append plain scoped (t ∷ []) ∙ (ap (λ x. x ++ plain t ∷ []) is ∙ ap (λ x. turns ++ x ∷ []) same)

-- a path of one segment
abbrev pub numbered : List Term → List Entry
numbered p = map (λ t. record { segment = 0; term = t }) p

numbered_is : (p : List Term) → terms (numbered p) ≡ p
numbered_is [] = refl
numbered_is (t ∷ p) = ap (λ x. t ∷ x) (numbered_is p)

-- the entries of a path in code, as they are lent
pub entries_are : (lent all : List Entry') (path : List Term) → lent ≡ all → map (λ (e : Entry'). shared e.term) all ≡ path → terms (map entry lent) ≡ path
entries_are lent all path same is = ap (λ (x : List Entry'). terms (map entry x)) same ∙ (by_entries all ∙ is)
  where
    by_entries : (es : List Entry') → terms (map entry es) ≡ map (λ (e : Entry'). shared e.term) es
    by_entries [] = refl
    by_entries (e ∷ es) = ap (λ x. shared e.term ∷ x) (by_entries es)

-- a question that was never sent may have any numbers
pub unsent_more : (scoped : List ScopedTurn) (turns : List Turn) (q : Question) → map plain scoped ≡ turns
    → map plain (scoped ++ Posts (numbered q.path) q.condition ∷ []) ≡ turns ++ turns'.Posts q.path q.condition ∷ []
unsent_more scoped turns q is = one_more scoped turns (Posts (numbered q.path) q.condition) (turns'.Posts q.path q.condition) is (ap (λ x. turns'.Posts x q.condition) (numbered_is q.path))

-- a question that was sent
pub sent_more : (scoped : List ScopedTurn) (turns : List Turn) (path : List Entry) (q : Question) → terms path ≡ q.path → map plain scoped ≡ turns
    → map plain (scoped ++ Posts path q.condition ∷ []) ≡ turns ++ turns'.Posts q.path q.condition ∷ []
sent_more scoped turns path q is said = one_more scoped turns (Posts path q.condition) (turns'.Posts q.path q.condition) said (ap (λ x. turns'.Posts x q.condition) is)

-- where nothing is said yet, the preamble is all
silent_script : (functions : List Declared) (turns : List ScopedTurn) → AreSilent turns → script false functions turns ≡ preamble false functions
silent_script functions turns silent = ap (λ x. preamble false functions ++ x) silent.none ∙ script_none false functions

said_left : (scope : Scope) (turns : List ScopedTurn) → said_by scope (turns ++ Leaves ∷ []) ≡ said_by scope turns
said_left scope [] = refl
said_left scope (t ∷ turns) = ap (λ x. said_of scope t ++ x) (said_left (scope_after scope t) turns)

silent_left : (turns : List ScopedTurn) → AreSilent turns → AreSilent (turns ++ Leaves ∷ [])
silent_left turns silent = record {
  none = said_left Outside turns ∙ silent.none;
  outside = scope_more turns Leaves ∙ ap left_scope silent.outside;
}

-- a started child whose preamble broke off
pub preamble_breaks : (functions : List Declared) (t : Talk) (turns : List ScopedTurn) (path : List Entry) (condition : Term) (pieces : List Piece) (checks : List Check) → AreSilent turns
    → Breaks t (preamble false functions) pieces checks → Breaks t (script false functions (turns ++ Posts path condition ∷ [])) pieces checks
preamble_breaks functions t turns path condition pieces checks silent broken =
    subst (λ x. Breaks t x pieces checks) (sym (script_more false functions turns (Posts path condition)))
    (breaks_longer t (script false functions turns) (posted (scope_from Outside turns) path condition) pieces checks
    (subst (λ x. Breaks t x pieces checks) (sym (silent_script functions turns silent)) broken))

pub above_none : (f g : ℕ) → Rose f g → 0 < g
above_none f g rose = omega arith

pub rose_earlier : (a b c : ℕ) → Rose b c → a ≤ b → Rose a c
rose_earlier a b c rose earlier = omega arith

-- what is so of each loss, is so at a fault of all losses
fault_over : (s : Stop Cause) (H : List (Event Cause) → Question → Type 0) (P : Cause → List (Event Cause) → Question → Type 0) → ((events : List (Event Cause)) (q : Question) → H events q → IfFault s (λ x. P x events q))
    → IfFault s (λ x. (events : List (Event Cause)) (q : Question) → H events q → P x events q)
fault_over (stop.Fault x) H P each = each
fault_over stop.Want H P each = tt

fault_after : (s : Stop Cause) (H : List (Event Cause) → Type 0) (P : Cause → List (Event Cause) → Type 0) → ((events : List (Event Cause)) → H events → IfFault s (λ x. P x events))
    → IfFault s (λ x. (events : List (Event Cause)) → H events → P x events)
fault_after (stop.Fault x) H P each = each
fault_after stop.Want H P each = tt

-- what is so of the cause of a fault
pub fault_on : (s : Stop Cause) (P Q : Cause → Type 0) → ((x : Cause) → P x → Q x) → IfFault s P → IfFault s Q
fault_on (stop.Fault x) P Q on h = on x h
fault_on stop.Want P Q on h = h

-- what is so by an earlier call
pub fault_earlier : {T C : Type 0} (r : Result T (C × Stop Cause)) (P Q : C → Cause → Type 0) → ((a : C) (x : Cause) → P a x → Q a x) → IfErr r (λ e. IfFault e.1 (λ x. P e.0 x)) → IfErr r (λ e. IfFault e.1 (λ x. Q e.0 x))
fault_earlier (Ok d) P Q on h = h
fault_earlier (Err e) P Q on h = fault_on e.1 (P e.0) (Q e.0) (on e.0) h

pub stop_earlier : {T : Type 0} (r : Result T (Stop Cause)) (P Q : Cause → Type 0) → ((x : Cause) → P x → Q x) → IfErr r (λ s. IfFault s P) → IfErr r (λ s. IfFault s Q)
stop_earlier (Ok d) P Q on h = h
stop_earlier (Err s) P Q on h = fault_on s P Q on h

module _ {L : Type 0} (dialogue : L → List Piece) (o : Outset) (lane : ℕ) where
  abbrev functions : List Declared
  functions = function_symbols o.program

  -- the child is started, and its preamble is said
  pub talks : (g h : Hub) (d : Dialogue L) (events : List (Event Cause)) → Stands dialogue false functions [] d [] → AreCommands (preamble false functions) → IsFree d → has_failed d ≡ false
      → scope_of d ≡ Outside → h.ended ≡ g.ended → HearsOf dialogue o lane NotStarted g events → HearsOf dialogue o lane (Talking d) h events
  talks g h d events stands named free works outside same t =
      let scoped = t.heard.0 in
      let silent = t.heard.2.2 in
      record {
        since = t.since;
        ended = same ∙ t.ended;
        checks = t.checks;
        answered = t.answered;
        heard = (
          scoped,
          t.heard.1,
          (
            t.heard.2.0,
            record {
              told = subst (λ x. Gathers dialogue d x t.checks) (sym (ap (λ x. preamble false functions ++ x) silent.none)) (subst (λ x. Gathers dialogue d (script false functions []) x) (sym t.heard.2.1) stands.told);
              scope = stands.scope ∙ sym silent.outside;
            },
            subst AreCommands (sym (silent_script functions scoped silent)) named,
          ),
        );
        caused = uncaused (links_in lane t.since) o.first.faults h.faults events (sym t.lost);
        ready = (free, works);
        lost = t.lost;
        stands = ap (λ s. terms (standing_path s)) outside ∙ t.stands;
      }

  -- a question is lost, and its cause is told by the one link that was handed back, or there is none
  lost_at : (h : Hub) (since : List Ending) (checks : List Check) (q : Question) (x : Cause) (scoped : List ScopedTurn) (events : List (Event Cause)) → has_lost events ≡ false
      → AreChecksOf (answered_in events) checks → h.ended ≡ o.first.ended ++ since → map plain scoped ≡ turns_in false events ++ turns'.Posts q.path q.condition ∷ []
      → IsRecorded functions true (links_in lane since) scoped checks → HasCauseOf (links_in lane since) o.first.faults h.faults false x
      → TellsOf dialogue o lane Lost h (events ++ event.Lost q x ∷ [])
  lost_at h since checks q x scoped events none answered ended said recorded caused = record {
    heard_of = record {
      since = since;
      ended = ended;
      checks = checks;
      answered = subst (λ as'. AreChecksOf as' checks) (sym (answered_join events (event.Lost q x ∷ []) ∙ append-nil (answered_in events))) answered;
      heard = (scoped, said ∙ sym (turns_lost events q x none), recorded);
      caused = caused_more (links_in lane since) o.first.faults h.faults false events (event.Lost q x) (uncaused (links_in lane since) o.first.faults h.faults events none)
          (subst (λ b. AreCaused (links_in lane since) o.first.faults h.faults b (event.Lost q x ∷ [])) (sym none) (caused, tt));
      ready = tt;
      lost = sym (lost_join events (event.Lost q x ∷ []) ∙ or_true (has_lost events));
      stands = sym (standing_more events (event.Lost q x));
    };
    started = sym (asked_join events (event.Lost q x ∷ []) ∙ or_true (has_asked events));
  }

  -- no child could be started
  pub lost_start : (g h : Hub) (q : Question) (events : List (Event Cause)) → h.ended ≡ g.ended → Rose o.first.faults h.faults → HearsOf dialogue o lane NotStarted g events
      → TellsOf dialogue o lane Lost h (events ++ event.Lost q cause.Start ∷ [])
  lost_start g h q events same rose t =
      lost_at h t.since t.checks q cause.Start (t.heard.0 ++ Posts (numbered q.path) q.condition ∷ []) events (sym t.lost) t.answered (same ∙ t.ended)
      (unsent_more t.heard.0 (turns_in false events) q t.heard.1) (inl (t.heard.2.0, t.heard.2.1)) (refl, rose)

  -- a call gives no reply, and the link is handed back, the first one of the lane
  lost_by : (g h : Hub) (since : List Ending) (checks : List Check) (e : Ending) (t : Talk) (q : Question) (scoped : List ScopedTurn) (events : List (Event Cause)) → has_lost events ≡ false
      → AreChecksOf (answered_in events) checks → g.ended ≡ o.first.ended ++ since → links_in lane since ≡ [] → h.ended ≡ g.ended ++ e ∷ [] → e.lane ≡ lane
      → map plain scoped ≡ turns_in false events ++ turns'.Posts q.path q.condition ∷ []
      → Breaks t (script false functions scoped) e.dialogue checks → (t ≡ talk.Pipe → 0 < e.faults) → (t ≡ talk.Closed → ⊥)
      → IfFault (stop_of t) (λ x. TellsOf dialogue o lane Lost h (events ++ event.Lost q x ∷ []))
  lost_by g h since checks e t q scoped events none answered before first is own said broken rose shut = by_talk t broken rose shut
    where
      one : links_in lane (since ++ e ∷ []) ≡ e ∷ []
      one = own_links lane since e own ∙ ap (λ x. x ++ e ∷ []) first

      here : h.ended ≡ o.first.ended ++ (since ++ e ∷ [])
      here = is ∙ (ap (λ x. x ++ e ∷ []) before ∙ append_assoc o.first.ended since (e ∷ []))

      told : (x : Cause) → Tells true (script false functions scoped) e.dialogue checks → HasCauseOf (e ∷ []) o.first.faults h.faults false x
          → TellsOf dialogue o lane Lost h (events ++ event.Lost q x ∷ [])
      told x tells caused =
          lost_at h (since ++ e ∷ []) checks q x scoped events none answered here said (inr (e, one, tells)) (subst (λ ls. HasCauseOf ls o.first.faults h.faults false x) (sym one) caused)

      by_talk : (t : Talk) → Breaks t (script false functions scoped) e.dialogue checks → (t ≡ talk.Pipe → 0 < e.faults) → (t ≡ talk.Closed → ⊥)
          → IfFault (stop_of t) (λ x. TellsOf dialogue o lane Lost h (events ++ event.Lost q x ∷ []))
      by_talk talk.Pipe broken rose shut = told cause.Pipe broken.told (refl, (e, refl, rose refl))
      by_talk (talk.Garbled kept) broken rose shut = told (cause.Reply kept) broken.told (refl, (e, refl, inl broken.explained))
      by_talk (talk.Refused kept) broken rose shut = told (cause.Reply kept) broken.told (refl, (e, refl, inr broken.explained))
      by_talk talk.Want broken rose shut = tt
      by_talk talk.Closed broken rose shut = absurd (shut refl)

  -- the preamble is refused
  pub unopened : (g h : Hub) (e : Ending) (t : Talk) (s : Stop Cause) → s ≡ stop_of t → h.ended ≡ g.ended ++ e ∷ [] → e.lane ≡ lane → Breaks t (preamble false functions) e.dialogue []
      → (t ≡ talk.Pipe → 0 < e.faults) → (t ≡ talk.Closed → ⊥)
      → IfFault s (λ x. (events : List (Event Cause)) (q : Question) → HearsOf dialogue o lane NotStarted g events → TellsOf dialogue o lane Lost h (events ++ event.Lost q x ∷ []))
  unopened g h e t s stop_is is own broken rose shut =
      subst (λ z. IfFault z (λ x. (events : List (Event Cause)) (q : Question) → HearsOf dialogue o lane NotStarted g events → TellsOf dialogue o lane Lost h (events ++ event.Lost q x ∷ []))) (sym stop_is)
      (fault_over (stop_of t) (λ events q. HearsOf dialogue o lane NotStarted g events) (λ x events q. TellsOf dialogue o lane Lost h (events ++ event.Lost q x ∷ [])) (λ events q heard.
      lost_by g h heard.since heard.checks e t q (heard.heard.0 ++ Posts (numbered q.path) q.condition ∷ []) events (sym heard.lost) heard.answered heard.ended heard.heard.2.0 is own
      (unsent_more heard.heard.0 (turns_in false events) q heard.heard.1)
      (preamble_breaks functions t heard.heard.0 (numbered q.path) q.condition e.dialogue heard.checks heard.heard.2.2 (subst (λ x. Breaks t (preamble false functions) e.dialogue x) (sym heard.heard.2.1) broken)) rose shut))

  -- the question is refused
  pub unposted : (d : Dialogue L) (g h : Hub) (e : Ending) (t : Talk) (s : Stop Cause) (q : Question) (path : List Entry) → s ≡ stop_of t → terms path ≡ q.path → IsSpelled q
      → h.ended ≡ g.ended ++ e ∷ [] → e.lane ≡ lane
      → ((certify : Bool) (functions : List Declared) (turns : List ScopedTurn) (checks : List Check) → Stands dialogue certify functions turns d checks
      → AreCommands (script certify functions (turns ++ Posts path q.condition ∷ [])) → Breaks t (script certify functions (turns ++ Posts path q.condition ∷ [])) e.dialogue checks)
      → (t ≡ talk.Pipe → 0 < e.faults) → (t ≡ talk.Closed → ⊥)
      → IfFault s (λ x. (events : List (Event Cause)) → HearsOf dialogue o lane (Talking d) g events → TellsOf dialogue o lane Lost h (events ++ event.Lost q x ∷ []))
  unposted d g h e t s q path stop_is path_is spelled is own breaks rose shut =
      subst (λ z. IfFault z (λ x. (events : List (Event Cause)) → HearsOf dialogue o lane (Talking d) g events → TellsOf dialogue o lane Lost h (events ++ event.Lost q x ∷ []))) (sym stop_is)
      (fault_after (stop_of t) (λ events. HearsOf dialogue o lane (Talking d) g events) (λ x events. TellsOf dialogue o lane Lost h (events ++ event.Lost q x ∷ [])) (λ events heard.
      lost_by g h heard.since heard.checks e t q (heard.heard.0 ++ Posts path q.condition ∷ []) events (sym heard.lost) heard.answered heard.ended heard.heard.2.0 is own
      (sent_more heard.heard.0 (turns_in false events) path q path_is heard.heard.1)
      (breaks false functions heard.heard.0 heard.checks heard.heard.2.1 (said_named functions heard.heard.0 path q path_is spelled heard.heard.2.2)) rose shut))

  -- no reply comes
  pub unanswered : (d : Dialogue L) (g h : Hub) (e : Ending) (t : Talk) (s : Stop Cause) → s ≡ stop_of t → h.ended ≡ g.ended ++ e ∷ [] → e.lane ≡ lane
      → ((certify : Bool) (functions : List Declared) (turns : List ScopedTurn) (path : List Entry) (condition : Term) (checks : List Check) → Awaits dialogue certify functions turns path condition d checks
      → AreCommands (script certify functions (turns ++ Posts path condition ∷ [])) → Breaks t (script certify functions (turns ++ Posts path condition ∷ [])) e.dialogue checks)
      → (t ≡ talk.Pipe → 0 < e.faults) → (t ≡ talk.Closed → ⊥)
      → IfFault s (λ x. (events : List (Event Cause)) (q : Question) → AsksOf dialogue o lane (Talking d) g events q → TellsOf dialogue o lane Lost h (events ++ event.Lost q x ∷ []))
  unanswered d g h e t s stop_is is own breaks rose shut =
      subst (λ z. IfFault z (λ x. (events : List (Event Cause)) (q : Question) → AsksOf dialogue o lane (Talking d) g events q → TellsOf dialogue o lane Lost h (events ++ event.Lost q x ∷ []))) (sym stop_is)
      (fault_over (stop_of t) (λ events q. AsksOf dialogue o lane (Talking d) g events q) (λ x events q. TellsOf dialogue o lane Lost h (events ++ event.Lost q x ∷ [])) (λ events q a.
      lost_by g h a.since a.checks e t q (a.turns ++ Posts a.awaits.1 q.condition ∷ []) events a.lost a.answered a.ended a.awaits.0 is own
      (sent_more a.turns (turns_in false events) a.awaits.1 q a.awaits.2 a.said)
      (breaks false functions a.turns a.awaits.1 q.condition a.checks a.awaits.3 a.awaits.4) rose shut))

  pub at_child : (h : Hub) (events : List (Event Cause)) (a b : Child L) → a ≡ b → TellsOf dialogue o lane a h events → TellsOf dialogue o lane b h events
  at_child h events a b same told = subst (λ (x : Child L). TellsOf dialogue o lane x h events) same told

  -- a question that stays goes on from what stands at the child
  pub stays_at : (h : Hub) (q : Question) (stays : Bool) (events : List (Event Cause)) (d : Dialogue L) → HearsOf dialogue o lane (Talking d) h events → GoesOn events q stays
      → stays ≡ true → Begins (terms (standing_path (scope_of d))) q.path
  stays_at h q stays events d heard goes_on = λ here. subst (λ base. Begins base q.path) (sym heard.stands) (goes_on here)

  -- a question keeps its link steady
  pub posted_steady : (h : Hub) (events : List (Event Cause)) (d : Dialogue L) (link : L) (steady : L → Bool) (faults : L → ℕ) (q : Question) (path : List Entry) → terms path ≡ q.path → IsSpelled q
      → (IsSteady steady faults (link_of d) → (certify : Bool) (functions : List Declared) (turns : List ScopedTurn) (checks : List Check) → Stands dialogue certify functions turns d checks
      → AreCommands (script certify functions (turns ++ Posts path q.condition ∷ [])) → IsSteady steady faults link)
      → HearsOf dialogue o lane (Talking d) h events → IsSteady steady faults (link_of d) → IsSteady steady faults link
  posted_steady h events d link steady faults q path is spelled step heard was =
      step was false functions heard.heard.0 heard.checks heard.heard.2.1 (said_named functions heard.heard.0 path q is spelled heard.heard.2.2)

  -- and so does its reply
  pub taken_steady : (h : Hub) (events : List (Event Cause)) (q : Question) (d : Dialogue L) (link : L) (steady : L → Bool) (faults : L → ℕ)
      → (IsSteady steady faults (link_of d) → (certify : Bool) (functions : List Declared) (turns : List ScopedTurn) (path : List Entry) (condition : Term) (checks : List Check)
      → Awaits dialogue certify functions turns path condition d checks → AreCommands (script certify functions (turns ++ Posts path condition ∷ [])) → IsSteady steady faults link)
      → AsksOf dialogue o lane (Talking d) h events q → IsSteady steady faults (link_of d) → IsSteady steady faults link
  taken_steady h events q d link steady faults step a was = step was false functions a.turns a.awaits.1 q.condition a.checks a.awaits.3 a.awaits.4

  -- behind a fault no question is asked
  pub lost_again : (h : Hub) (q : Question) (events : List (Event Cause)) → TellsOf dialogue o lane Lost h events → TellsOf dialogue o lane Lost h (events ++ event.Lost q cause.Spent ∷ [])
  lost_again h q events told =
      let t = told.heard_of in
      let lost : has_lost events ≡ true = sym t.lost in
      record {
        heard_of = record {
          since = t.since;
          ended = t.ended;
          checks = t.checks;
          answered = subst (λ as'. AreChecksOf as' t.checks) (sym (answered_join events (event.Lost q cause.Spent ∷ []) ∙ append-nil (answered_in events))) t.answered;
          heard = (
            t.heard.0,
            t.heard.1 ∙ sym (turns_join false events (event.Lost q cause.Spent ∷ []) ∙ (ap (λ b. turns_in false events ++ turns_in b (event.Lost q cause.Spent ∷ [])) lost ∙ append-nil (turns_in false events))),
            t.heard.2,
          );
          caused = caused_more (links_in lane t.since) o.first.faults h.faults false events (event.Lost q cause.Spent) t.caused (lost, tt);
          ready = tt;
          lost = sym (lost_join events (event.Lost q cause.Spent ∷ []) ∙ or_true (has_lost events));
          stands = sym (standing_more events (event.Lost q cause.Spent));
        };
        started = sym (asked_join events (event.Lost q cause.Spent ∷ []) ∙ or_true (has_asked events));
      }

  -- a question is posted
  pub asks : (d d' : Dialogue L) (h : Hub) (q : Question) (path : List Entry) (events : List (Event Cause)) → terms path ≡ q.path → IsSpelled q
      → ((certify : Bool) (functions : List Declared) (turns : List ScopedTurn) (checks : List Check) → Stands dialogue certify functions turns d checks
      → Awaits dialogue certify functions turns path q.condition d' checks)
      → IsAsked d' → has_failed d' ≡ false → HearsOf dialogue o lane (Talking d) h events → AsksOf dialogue o lane (Talking d') h events q
  asks d d' h q path events is spelled step asked works t = record {
    since = t.since;
    ended = t.ended;
    checks = t.checks;
    answered = t.answered;
    turns = t.heard.0;
    said = t.heard.1;
    awaits = (t.heard.2.0, path, is, step false functions t.heard.0 t.checks t.heard.2.1, said_named functions t.heard.0 path q is spelled t.heard.2.2, asked, works);
    caused = t.caused;
    lost = sym t.lost;
  }

  -- its reply comes
  pub answers : (d d' : Dialogue L) (h : Hub) (q : Question) (r : Reply) (events : List (Event Cause))
      → ((certify : Bool) (functions : List Declared) (turns : List ScopedTurn) (path : List Entry) (condition : Term) (checks : List Check) → Awaits dialogue certify functions turns path condition d checks
      → Stands dialogue certify functions (turns ++ Asks path condition ∷ []) d' (checks ++ check_of (base_of certify functions) (terms path) condition r ∷ []))
      → IsFree d' → has_failed d' ≡ false → scope_of d' ≡ scope_of d → AsksOf dialogue o lane (Talking d) h events q → TellsOf dialogue o lane (Talking d') h (events ++ event.Answered q r ∷ [])
  answers d d' h q r events step free works same t =
      let path = t.awaits.1 in
      let is = t.awaits.2 in
      let awaits = t.awaits.3 in
      let check : Check = check_of (base_of false functions) (terms path) q.condition r in
      let inside : scope_of d ≡ Inside path = awaits.scope ∙ scope_more t.turns (Posts path q.condition) in
      record {
        heard_of = record {
          since = t.since;
          ended = t.ended;
          checks = t.checks ++ check ∷ [];
          answered = subst (λ as'. AreChecksOf as' (t.checks ++ check ∷ [])) (sym (answered_join events (event.Answered q r ∷ [])))
              (checks_more (answered_in events) t.checks (record { question = q; reply = r }) check t.answered
              (subst (λ p. IsCheckOf (record { question = q; reply = r }) (check_of (base_of false functions) p q.condition r)) (sym is) (check_is (base_of false functions) q r)));
          heard = (
            t.turns ++ Asks path q.condition ∷ [],
            one_more t.turns (turns_in false events) (Asks path q.condition) (turns'.Asks q.path q.condition) t.said (ap (λ x. turns'.Asks x q.condition) is) ∙ sym (turns_answered events q r),
            (t.awaits.0, step false functions t.turns path q.condition t.checks awaits, posted_asked functions t.turns path q.condition t.awaits.4),
          );
          caused = caused_more (links_in lane t.since) o.first.faults h.faults false events (event.Answered q r) t.caused (t.lost, tt);
          ready = (free, works);
          lost = sym (lost_join events (event.Answered q r ∷ []) ∙ (or_false (has_lost events) ∙ t.lost));
          stands = ap (λ s. terms (standing_path s)) (same ∙ inside) ∙ (is ∙ sym (standing_more events (event.Answered q r)));
        };
        started = sym (asked_join events (event.Answered q r ∷ []) ∙ or_true (has_asked events));
      }

  -- the member is left
  pub leaves : (child : Child L) (d d' : Dialogue L) (h : Hub) (events : List (Event Cause)) → child ≡ Talking d
      → ((certify : Bool) (functions : List Declared) (turns : List ScopedTurn) (checks : List Check) → Stands dialogue certify functions turns d checks
      → Stands dialogue certify functions (turns ++ Leaves ∷ []) d' checks)
      → IsFree d' → has_failed d' ≡ has_failed d → scope_of d' ≡ left_scope (scope_of d) → TellsOf dialogue o lane child h events → TellsOf dialogue o lane (Talking d') h (events ++ event.Left ∷ [])
  leaves child d d' h events child_is step free works scope told =
      let here : TellsOf dialogue o lane (Talking d) h events = subst (λ (x : Child L). TellsOf dialogue o lane x h events) child_is told in
      let t = here.heard_of in
      let none : has_lost events ≡ false = sym t.lost in
      record {
        heard_of = record {
          since = t.since;
          ended = t.ended;
          checks = t.checks;
          answered = subst (λ as'. AreChecksOf as' t.checks) (sym (answered_join events (event.Left ∷ []) ∙ append-nil (answered_in events))) t.answered;
          heard = (
            t.heard.0 ++ Leaves ∷ [],
            one_more t.heard.0 (turns_in false events) Leaves turns'.Leaves t.heard.1 refl
                ∙ sym (turns_join false events (event.Left ∷ []) ∙ (ap (λ b. turns_in false events ++ turns_in b (event.Left ∷ [])) none)),
            (t.heard.2.0, step false functions t.heard.0 t.checks t.heard.2.1, left_named functions t.heard.0 t.heard.2.2),
          );
          caused = caused_more (links_in lane t.since) o.first.faults h.faults false events event.Left t.caused tt;
          ready = (free, works ∙ t.ready.1);
          lost = sym (lost_join events (event.Left ∷ []) ∙ (or_false (has_lost events) ∙ none));
          stands = ap (λ s. terms (standing_path s)) scope ∙ (none_stands (scope_of d) ∙ sym (standing_more events event.Left));
        };
        started = here.started ∙ sym (asked_join events (event.Left ∷ []) ∙ or_false (has_asked events));
      }
    where
      none_stands : (s : Scope) → terms (standing_path (left_scope s)) ≡ []
      none_stands Outside = refl
      none_stands (Inside p) = refl
      none_stands (LeftScope p) = refl

  -- where no child was started, nothing is said
  pub leaves_unstarted : (child : Child L) (h : Hub) (events : List (Event Cause)) → child ≡ NotStarted → TellsOf dialogue o lane child h events → TellsOf dialogue o lane NotStarted h (events ++ event.Left ∷ [])
  leaves_unstarted child h events child_is told =
      let here : TellsOf dialogue o lane NotStarted h events = subst (λ (x : Child L). TellsOf dialogue o lane x h events) child_is told in
      let t = here.heard_of in
      let none : has_lost events ≡ false = sym t.lost in
      record {
        heard_of = record {
          since = t.since;
          ended = t.ended;
          checks = t.checks;
          answered = subst (λ as'. AreChecksOf as' t.checks) (sym (answered_join events (event.Left ∷ []) ∙ append-nil (answered_in events))) t.answered;
          heard = (
            t.heard.0 ++ Leaves ∷ [],
            one_more t.heard.0 (turns_in false events) Leaves turns'.Leaves t.heard.1 refl
                ∙ sym (turns_join false events (event.Left ∷ []) ∙ (ap (λ b. turns_in false events ++ turns_in b (event.Left ∷ [])) none)),
            (t.heard.2.0, t.heard.2.1, silent_left t.heard.0 t.heard.2.2),
          );
          caused = caused_more (links_in lane t.since) o.first.faults h.faults false events event.Left t.caused tt;
          ready = tt;
          lost = sym (lost_join events (event.Left ∷ []) ∙ (or_false (has_lost events) ∙ none));
          stands = sym (standing_more events event.Left);
        };
        started = here.started ∙ sym (asked_join events (event.Left ∷ []) ∙ or_false (has_asked events));
      }

  -- nor to a child that was lost
  pub leaves_lost : (child : Child L) (h : Hub) (events : List (Event Cause)) → child ≡ Lost → TellsOf dialogue o lane child h events → TellsOf dialogue o lane Lost h (events ++ event.Left ∷ [])
  leaves_lost child h events child_is told =
      let here : TellsOf dialogue o lane Lost h events = subst (λ (x : Child L). TellsOf dialogue o lane x h events) child_is told in
      let t = here.heard_of in
      let lost : has_lost events ≡ true = sym t.lost in
      record {
        heard_of = record {
          since = t.since;
          ended = t.ended;
          checks = t.checks;
          answered = subst (λ as'. AreChecksOf as' t.checks) (sym (answered_join events (event.Left ∷ []) ∙ append-nil (answered_in events))) t.answered;
          heard = (
            t.heard.0,
            t.heard.1 ∙ sym (turns_join false events (event.Left ∷ []) ∙ (ap (λ b. turns_in false events ++ turns_in b (event.Left ∷ [])) lost ∙ append-nil (turns_in false events))),
            t.heard.2,
          );
          caused = caused_more (links_in lane t.since) o.first.faults h.faults false events event.Left t.caused tt;
          ready = tt;
          lost = sym (lost_join events (event.Left ∷ []) ∙ (or_false (has_lost events) ∙ lost));
          stands = sym (standing_more events event.Left);
        };
        started = here.started ∙ sym (asked_join events (event.Left ∷ []) ∙ or_false (has_asked events));
      }
