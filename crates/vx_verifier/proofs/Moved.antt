-- What a call in one lane leaves of all others.
use Rattle.std.proofs.Common.{◌≡◌, ℕ, ◌+◌, ◌<◌, ◌≤◌, ◌==◌, ◌&&◌, Bool, true, false, IsTrue, if◌then◌else◌, List, [], ◌∷◌, ◌++◌, refl, ap, sym, subst, ◌∙◌, append_assoc, arith}
use Rattle.std.proofs.lemmas.List.{append-nil}
use Rattle.std.proofs.Math.Nat.{le_refl, le_trans}
use Rattle.vx_terms.specs.Interpretations.{Each}
use Rattle.vx_ends.specs.Causes.{Rose}
use Rattle.vx_ends.specs.declared.piece.Piece.{Piece}
use Rattle.vx_ends.specs.declared.piece.Start.{Start}
use Rattle.vx_ends.specs.declared.piece.Ending.{Ending}
use Rattle.vx_smt_meaning.specs.Commands.{Declared}
use Rattle.vx_smt_meaning.specs.Dialogues.{Check}
use Rattle.vx_dialogue.specs.Turns.{Turn}
use Rattle.vx_live.specs.Functions.{function_symbols}
use Rattle.vx_rules.specs.Trees.{Question}
use Rattle.vx_pool.specs.Events.{Event}
use Rattle.vx_pool.specs.Lanes.{Moves}
use Rattle.vx_pool.specs.Events as event
use Rattle.vx_report.specs.declared.run.Cause.{Cause}
use Rattle.vx_report.specs.declared.run.Cause.TheVariants as cause
use Rattle.vx_verifier.specs.declared.line.Child.{Child}
use Rattle.vx_verifier.specs.Causes.{HasCauseOf}
use Rattle.vx_verifier.specs.Dealt.{links_in, starts_in}
use Rattle.vx_verifier.specs.Outsets.{Hub, Outset, Later, Moved}
use Rattle.vx_verifier.specs.Going.{each_join}
use Rattle.vx_verifier.specs.Lanes.{AreCaused, IsHeld, IsCalm, Hears, AwaitsScoped, TellsOf, AsksOf, IsToldOf, IsBack, Records, has_lost, turns_in}

-- ---- the links and starts of a lane

not_same : (m n : ℕ) → (m ≡ n → ⊥) → (m == n) ≡ false
not_same m n apart = grind arith

same_self : (n : ℕ) → (n == n) ≡ true
same_self n = grind arith

pub links_join : (lane : ℕ) (xs ys : List Ending) → links_in lane (xs ++ ys) ≡ links_in lane xs ++ links_in lane ys
links_join lane [] ys = refl
links_join lane (x ∷ xs) ys = let rest = links_join lane xs ys in grind arith

pub starts_join : (lane : ℕ) (xs ys : List Start) → starts_in lane (xs ++ ys) ≡ starts_in lane xs ++ starts_in lane ys
starts_join lane [] ys = refl
starts_join lane (x ∷ xs) ys = let rest = starts_join lane xs ys in grind arith

own_link : (e : Ending) → links_in e.lane (e ∷ []) ≡ e ∷ []
own_link e = let same = same_self e.lane in grind arith

own_start : (s : Start) → starts_in s.lane (s ∷ []) ≡ s ∷ []
own_start s = let same = same_self s.lane in grind arith

other_link : (lane n : ℕ) (e : Ending) (links : List Ending) → (lane ≡ n → ⊥) → e.lane ≡ n → links_in lane (e ∷ links) ≡ links_in lane links
other_link lane n e links apart own = let other = not_same e.lane lane (λ same. apart (sym same ∙ own)) in grind arith

other_start : (lane n : ℕ) (s : Start) (starts : List Start) → (lane ≡ n → ⊥) → s.lane ≡ n → starts_in lane (s ∷ starts) ≡ starts_in lane starts
other_start lane n s starts apart own = let other = not_same s.lane lane (λ same. apart (sym same ∙ own)) in grind arith

none_of_links : (lane n : ℕ) (links : List Ending) → (lane ≡ n → ⊥) → Each (λ (e : Ending). e.lane ≡ n) links → links_in lane links ≡ []
none_of_links lane n [] apart own = refl
none_of_links lane n (e ∷ links) apart own = other_link lane n e links apart own.0 ∙ none_of_links lane n links apart own.1

none_of_starts : (lane n : ℕ) (starts : List Start) → (lane ≡ n → ⊥) → Each (λ (s : Start). s.lane ≡ n) starts → starts_in lane starts ≡ []
none_of_starts lane n [] apart own = refl
none_of_starts lane n (s ∷ starts) apart own = other_start lane n s starts apart own.0 ∙ none_of_starts lane n starts apart own.1

-- a link more is its own lane's
pub own_links : (lane : ℕ) (since : List Ending) (e : Ending) → e.lane ≡ lane → links_in lane (since ++ e ∷ []) ≡ links_in lane since ++ e ∷ []
own_links lane since e own = links_join lane since (e ∷ []) ∙ ap (λ x. links_in lane since ++ x) (subst (λ n. links_in n (e ∷ []) ≡ e ∷ []) own (own_link e))

pub own_starts : (lane : ℕ) (since : List Start) (s : Start) → s.lane ≡ lane → starts_in lane (since ++ s ∷ []) ≡ starts_in lane since ++ s ∷ []
own_starts lane since s own = starts_join lane since (s ∷ []) ∙ ap (λ x. starts_in lane since ++ x) (subst (λ n. starts_in n (s ∷ []) ≡ s ∷ []) own (own_start s))

-- and no other's
other_links : (lane n : ℕ) (since links : List Ending) → (lane ≡ n → ⊥) → Each (λ (e : Ending). e.lane ≡ n) links → links_in lane (since ++ links) ≡ links_in lane since
other_links lane n since links apart own = links_join lane since links ∙ ap (λ x. links_in lane since ++ x) (none_of_links lane n links apart own) ∙ append-nil (links_in lane since)

other_starts : (lane n : ℕ) (since starts : List Start) → (lane ≡ n → ⊥) → Each (λ (s : Start). s.lane ≡ n) starts → starts_in lane (since ++ starts) ≡ starts_in lane since
other_starts lane n since starts apart own = starts_join lane since starts ∙ ap (λ x. starts_in lane since ++ x) (none_of_starts lane n starts apart own) ∙ append-nil (starts_in lane since)

-- ---- one call, and several

pub moved_same : (n : ℕ) (h : Hub) → Moved n h h
moved_same n h = record {
  starts = [];
  started = sym (append-nil h.starts);
  starts_own = tt;
  links = [];
  ended = sym (append-nil h.ended);
  links_own = tt;
  owed = λ lane other. refl;
  faults = le_refl h.faults;
  steady = refl;
  calm = λ steady. refl;
}

pub moved_more : (n : ℕ) (g h i : Hub) → Moved n g h → Moved n h i → Moved n g i
moved_more n g h i first more = record {
  starts = first.starts ++ more.starts;
  started = more.started ∙ (ap (λ x. x ++ more.starts) first.started ∙ append_assoc g.starts first.starts more.starts);
  starts_own = each_join _ first.starts more.starts first.starts_own more.starts_own;
  links = first.links ++ more.links;
  ended = more.ended ∙ (ap (λ x. x ++ more.links) first.ended ∙ append_assoc g.ended first.links more.links);
  links_own = each_join _ first.links more.links first.links_own more.links_own;
  owed = λ lane other. more.owed lane other ∙ first.owed lane other;
  faults = le_trans first.faults more.faults;
  steady = more.steady ∙ first.steady;
  calm = λ steady. more.calm (subst IsTrue (sym first.steady) steady) ∙ first.calm steady;
}

other_owes : (lane n old new : ℕ) → (lane ≡ n → ⊥) → new + (if lane == n then 1 else 0) ≡ old → new ≡ old
other_owes lane n old new apart is = let other = not_same lane n apart in grind arith

-- a link is handed back
pub moved_back : (n : ℕ) (g h : Hub) (e : Ending) → h.ended ≡ g.ended ++ e ∷ [] → e.lane ≡ n → ((lane : ℕ) → h.owed lane + (if lane == n then 1 else 0) ≡ g.owed lane)
    → h.starts ≡ g.starts → h.faults ≡ g.faults → h.steady ≡ g.steady → Moved n g h
moved_back n g h e ended own owed starts faults steady = record {
  starts = [];
  started = starts ∙ sym (append-nil g.starts);
  starts_own = tt;
  links = e ∷ [];
  ended = ended;
  links_own = (own, tt);
  owed = λ lane other. other_owes lane n (g.owed lane) (h.owed lane) other (owed lane);
  faults = subst (λ x. g.faults ≤ x) (sym faults) (le_refl g.faults);
  steady = steady;
  calm = λ _. faults;
}

-- a start is tried, or there is no memory for it
pub moved_start : (n : ℕ) (g h : Hub) (starts : List Start) → h.starts ≡ g.starts ++ starts → Each (λ (s : Start). s.lane ≡ n) starts → h.ended ≡ g.ended
    → ((lane : ℕ) → (lane ≡ n → ⊥) → h.owed lane ≡ g.owed lane) → g.faults ≤ h.faults → h.steady ≡ g.steady → (IsTrue g.steady → h.faults ≡ g.faults) → Moved n g h
moved_start n g h starts started own ended owed faults steady calm = record {
  starts = starts;
  started = started;
  starts_own = own;
  links = [];
  ended = ended ∙ sym (append-nil g.ended);
  links_own = tt;
  owed = owed;
  faults = faults;
  steady = steady;
  calm = calm;
}

-- where a start gave a link, its own lane owes one more
pub other_owed : (lane n old new : ℕ) (b : Bool) → (lane ≡ n → ⊥) → new ≡ old + (if b && (lane == n) then 1 else 0) → new ≡ old
other_owed lane n old new b apart is = let other = not_same lane n apart in grind arith

-- ---- all lanes

each_within : {A : Type 0} (lane : A → ℕ) (n jobs : ℕ) (xs : List A) → n < jobs → Each (λ x. lane x ≡ n) xs → Each (λ x. lane x < jobs) xs
each_within lane n jobs [] within own = tt
each_within lane n jobs (x ∷ xs) within own = (subst (λ m. m < jobs) (sym own.0) within, each_within lane n jobs xs within own.1)

beyond_all : (lane n jobs : ℕ) → n < jobs → jobs ≤ lane → lane ≡ n → ⊥
beyond_all lane n jobs within beyond same = omega arith

pub moved_later : (o : Outset) (n : ℕ) (g h : Hub) → n < o.jobs → Moved n g h → Later o g h
moved_later o n g h within moved = record {
  starts = moved.starts;
  started = moved.started;
  starts_within = each_within (λ (s : Start). s.lane) n o.jobs moved.starts within moved.starts_own;
  links = moved.links;
  ended = moved.ended;
  links_within = each_within (λ (e : Ending). e.lane) n o.jobs moved.links within moved.links_own;
  owed = λ lane beyond. moved.owed lane (beyond_all lane n o.jobs within beyond);
  faults = moved.faults;
  steady = moved.steady;
}

-- ---- what a call in one lane leaves of the others

rose_later : (f g h : ℕ) → Rose f g → g ≤ h → Rose f h
rose_later f g h rose more = omega arith

cause_later : (links : List Ending) (f g h : ℕ) (lost : Bool) (x : Cause) → g ≤ h → HasCauseOf links f g lost x → HasCauseOf links f h lost x
cause_later links f g h lost cause.Pipe more has = has
cause_later links f g h lost cause.Start more has = (has.0, rose_later f g h has.1 more)
cause_later links f g h lost cause.Spent more has = has
cause_later links f g h lost (cause.Reply kept) more has = has

pub caused_later : (links : List Ending) (f g h : ℕ) (lost : Bool) (events : List (Event Cause)) → g ≤ h → AreCaused links f g lost events → AreCaused links f h lost events
caused_later links f g h lost [] more caused = tt
caused_later links f g h lost (event.Answered q r ∷ events) more caused = (caused.0, caused_later links f g h lost events more caused.1)
caused_later links f g h lost (event.Lost q x ∷ events) more caused = (cause_later links f g h lost x more caused.0, caused_later links f g h true events more caused.1)
caused_later links f g h lost (event.Left ∷ events) more caused = caused_later links f g h lost events more caused

module _ {L : Type 0} (dialogue : L → List Piece) (steady_link : L → Bool) (faults_of : L → ℕ) (o : Outset) (n lane : ℕ) (child : Child L) (g h : Hub) (apart : lane ≡ n → ⊥) (moved : Moved n g h) where
  same_links : (since : List Ending) → links_in lane (since ++ moved.links) ≡ links_in lane since
  same_links since = other_links lane n since moved.links apart moved.links_own

  ended_on : (since : List Ending) → g.ended ≡ o.first.ended ++ since → h.ended ≡ o.first.ended ++ (since ++ moved.links)
  ended_on since is = moved.ended ∙ (ap (λ x. x ++ moved.links) is ∙ append_assoc o.first.ended since moved.links)

  calm_on : (since : List Ending) → IsCalm steady_link faults_of o lane since g child → IsCalm steady_link faults_of o lane (since ++ moved.links) h child
  calm_on since calm = record {
    spawner = subst IsTrue (sym moved.steady) calm.spawner;
    starts = moved.calm calm.spawner ∙ calm.starts;
    links_are = subst (λ x. Each (λ (e : Ending). e.faults ≡ 0) x) (sym (same_links since)) calm.links_are;
    child_is = calm.child_is;
  }

  pub held_on : (command : List (List ℕ)) (functions : List Declared) → IsHeld steady_link faults_of o lane command functions child g → IsHeld steady_link faults_of o lane command functions child h
  held_on command functions held = record {
    within = held.within;
    command_is = held.command_is;
    functions_are = held.functions_are;
    owed = moved.owed lane apart ∙ held.owed;
    since = held.since ++ moved.links;
    ended = ended_on held.since held.ended;
    starts = held.starts ++ moved.starts;
    started = moved.started ∙ (ap (λ x. x ++ moved.starts) held.started ∙ append_assoc o.first.starts held.starts moved.starts);
    once = other_starts lane n held.starts moved.starts apart moved.starts_own ∙ held.once;
    faults = le_trans held.faults moved.faults;
    calm = λ steady. calm_on held.since (held.calm steady);
  }

  caused_on : (since : List Ending) (events : List (Event Cause)) → AreCaused (links_in lane since) o.first.faults g.faults false events
      → AreCaused (links_in lane (since ++ moved.links)) o.first.faults h.faults false events
  caused_on since events caused =
      subst (λ x. AreCaused x o.first.faults h.faults false events) (sym (same_links since)) (caused_later (links_in lane since) o.first.faults g.faults h.faults false events moved.faults caused)

  pub tells_on : (events : List (Event Cause)) → TellsOf dialogue o lane child g events → TellsOf dialogue o lane child h events
  tells_on events told =
      let t = told.heard_of in
      record {
        heard_of = record {
          since = t.since ++ moved.links;
          ended = ended_on t.since t.ended;
          checks = t.checks;
          answered = t.answered;
          heard = heard_on t.since _ t.checks t.heard;
          caused = caused_on t.since events t.caused;
          ready = t.ready;
          lost = t.lost;
          stands = t.stands;
        };
        started = told.started;
      }
    where
      heard_on : (since : List Ending) (turns : List Turn) (checks : List Check) → Hears dialogue (function_symbols o.program) (links_in lane since) child turns checks
          → Hears dialogue (function_symbols o.program) (links_in lane (since ++ moved.links)) child turns checks
      heard_on since turns checks heard = subst (λ x. Hears dialogue (function_symbols o.program) x child turns checks) (sym (same_links since)) heard

  pub asks_on : (events : List (Event Cause)) (q : Question) → AsksOf dialogue o lane child g events q → AsksOf dialogue o lane child h events q
  asks_on events q asks = record {
    since = asks.since ++ moved.links;
    ended = ended_on asks.since asks.ended;
    checks = asks.checks;
    answered = asks.answered;
    turns = asks.turns;
    said = asks.said;
    awaits = subst (λ x. AwaitsScoped dialogue (function_symbols o.program) x child asks.turns asks.checks q) (sym (same_links asks.since)) asks.awaits;
    caused = caused_on asks.since events asks.caused;
    lost = asks.lost;
  }

module _ (o : Outset) (n lane : ℕ) (g h : Hub) (apart : lane ≡ n → ⊥) (moved : Moved n g h) where
  pub told_on : (events : List (Event Cause)) → IsToldOf o lane g events → IsToldOf o lane h events
  told_on events t =
      let same = other_links lane n t.since moved.links apart moved.links_own in
      record {
        since = t.since ++ moved.links;
        ended = moved.ended ∙ (ap (λ x. x ++ moved.links) t.ended ∙ append_assoc o.first.ended t.since moved.links);
        starts = t.starts ++ moved.starts;
        started = moved.started ∙ (ap (λ x. x ++ moved.starts) t.started ∙ append_assoc o.first.starts t.starts moved.starts);
        once = other_starts lane n t.starts moved.starts apart moved.starts_own ∙ t.once;
        checks = t.checks;
        answered = t.answered;
        recorded = subst (λ x. Records (function_symbols o.program) (has_lost events) x (turns_in false events) t.checks) (sym same) t.recorded;
        caused = subst (λ x. AreCaused x o.first.faults h.faults false events) (sym same) (caused_later (links_in lane t.since) o.first.faults g.faults h.faults false events moved.faults t.caused);
      }

  pub back_on : g.steady ≡ o.first.steady → IsBack o lane g → IsBack o lane h
  back_on steady b = record {
    owed = moved.owed lane apart ∙ b.owed;
    since = b.since ++ moved.links;
    ended = moved.ended ∙ (ap (λ x. x ++ moved.links) b.ended ∙ append_assoc o.first.ended b.since moved.links);
    starts = b.starts ++ moved.starts;
    started = moved.started ∙ (ap (λ x. x ++ moved.starts) b.started ∙ append_assoc o.first.starts b.starts moved.starts);
    once = (b.once.0, other_starts lane n b.starts moved.starts apart moved.starts_own ∙ b.once.1);
    calm = λ st. let c = b.calm st in (
      moved.calm (subst IsTrue (sym steady) st) ∙ c.0,
      subst (λ x. Each (λ (e : Ending). e.faults ≡ 0) x) (sym (other_links lane n b.since moved.links apart moved.links_own)) c.1,
    );
  }

-- a talker's call in its own lane
pub moves_by : {T H L : Type 0} (dialogue : L → List Piece) (steady_link : L → Bool) (faults_of : L → ℕ) (o : Outset) (lane : T → ℕ) (command : T → List (List ℕ)) (functions : T → List Declared) (child : T → Child L)
    (shown : H → Hub) (t : T) (g : H) (t' : T) (h : H) → lane t' ≡ lane t → lane t < o.jobs → Moved (lane t) (shown g) (shown h)
    → Moves lane (λ a b. Later o (shown a) (shown b)) (λ x a. IsHeld steady_link faults_of o (lane x) (command x) (functions x) (child x) (shown a)) (λ x a log. TellsOf dialogue o (lane x) (child x) (shown a) log)
    (λ x a log q. AsksOf dialogue o (lane x) (child x) (shown a) log q) t g t' h
moves_by dialogue steady_link faults_of o lane command functions child shown t g t' h stays within moved = record {
  stays = stays;
  goes_on = moved_later o (lane t) (shown g) (shown h) within moved;
  others = record {
    held = λ x apart held. held_on dialogue steady_link faults_of o (lane t) (lane x) (child x) (shown g) (shown h) apart moved (command x) (functions x) held;
    free = λ x apart log told. tells_on dialogue steady_link faults_of o (lane t) (lane x) (child x) (shown g) (shown h) apart moved log told;
    asked = λ x apart log q asked. asks_on dialogue steady_link faults_of o (lane t) (lane x) (child x) (shown g) (shown h) apart moved log q asked;
  };
}
