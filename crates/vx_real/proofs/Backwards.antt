-- Runs backwards over heaps: what is held is made forward, and for each heap that is wanted behind there is one in front.
use Rattle.std.proofs.Common.{◌≡◌, refl, ◌∙◌}
use Rattle.vx_ast.specs.declared.Place.{Place}
use Rattle.vx_ast.specs.Syntax.{Program}
use Rattle.vx_meaning.specs.States as run
use Rattle.vx_meaning.specs.Outcomes.{Outcome, Outcomes, Ends, FailsAt, and_then, goes_on, is_over}
use Rattle.vx_amounts.proofs.Amounts.{Positive}

-- one value at each location of which something is held
abbrev pub AgreeOn : Program → run.Holdings → run.Heap → run.Heap → Type 0
AgreeOn p hs g h = (l : run.Location) → Positive (run.amount hs (run.At l)) → run.value_at p g l ≡ run.value_at p h l

-- one value at each location: heaps are lists, so a run ends in one that reads like what was wanted
abbrev pub ReadAlike : Program → run.Heap → run.Heap → Type 0
ReadAlike p g h = (l : run.Location) → run.value_at p g l ≡ run.value_at p h l

-- a state over other heaps
abbrev pub over : run.Heap → run.Heap → run.State → run.State
over g o c = record c { heap = g; old_heap = o }

-- a state that became another; its old part stays
abbrev pub become : run.Store → run.Heap → run.Holdings → run.State → run.State
become x h hs c = record c { store = x; heap = h; holdings = hs }

module _ (p : Program) where
  -- from a heap that agrees with what is held, from each that reads like it, and over each old heap that agrees with what was held
  pub record From (c : run.State) (Runs : run.Heap → run.Heap → Type 0) : Type 0 where
    pub heap : run.Heap
    pub agrees : AgreeOn p c.holdings heap c.heap
    pub runs : (g o : run.Heap) → ReadAlike p g heap → AgreeOn p c.old_holdings o c.old_heap → Runs g o

  -- what runs from there fails at the place
  abbrev pub FailsFrom : (run.State → Outcomes) → run.State → Place → Type 0
  FailsFrom first c at = From c (λ g o. first (over g o c) (FailsAt at))

  -- it ends in the other state, over a heap that reads like this
  abbrev pub EndsIn : (run.State → Outcomes) → run.State → run.State → run.Heap → run.Heap → run.Heap → Type 0
  EndsIn first c d h g o = (k : run.Heap) × ReadAlike p k h × first (over g o c) (Ends (over k o d))

  -- it leads from the one state to the other: to each heap that agrees with what is held there
  abbrev pub Leads : (run.State → Outcomes) → run.State → run.State → Type 0
  Leads first c d = (h : run.Heap) → AgreeOn p d.holdings h d.heap → From c (EndsIn first c d h)

  -- what reads like a heap that agrees does too
  pub alike_agrees : (hs : run.Holdings) (g h k : run.Heap) → ReadAlike p g h → AgreeOn p hs h k → AgreeOn p hs g k
  alike_agrees hs g h k a e l pos = a l ∙ e l pos

  -- what runs from a state where another led there
  pub after_first : (first : run.State → Outcomes) (c : run.State) (x : run.Store) (h : run.Heap) (hs : run.Holdings) {Runs : run.Heap → run.Heap → Type 0} → Leads first c (become x h hs c) → From (become x h hs c) Runs →
      From c (λ g o. (k : run.Heap) × first (over g o c) (Ends (over k o (become x h hs c))) × Runs k o)
  after_first first c x h hs leads f =
      let l = leads f.heap f.agrees in
      record { heap = l.heap; agrees = l.agrees; runs = λ g o alike old. let e = l.runs g o alike old in (e.0, e.2, f.runs e.0 o e.1 old) }

  pub from_map : {c : run.State} {Runs : run.Heap → run.Heap → Type 0} (Others : run.Heap → run.Heap → Type 0) → From c Runs →
      ((g o : run.Heap) → AgreeOn p c.holdings g c.heap → AgreeOn p c.old_holdings o c.old_heap → Runs g o → Others g o) → From c Others
  from_map {c = c} Others f m = record { heap = f.heap; agrees = f.agrees; runs = λ g o alike old. m g o (alike_agrees c.holdings g f.heap c.heap alike f.agrees) old (f.runs g o alike old) }

  -- what runs as another does
  pub leads_by : (first second : run.State → Outcomes) (c d : run.State) → ((g o : run.Heap) (outcome : Outcome) → AgreeOn p c.holdings g c.heap → AgreeOn p c.old_holdings o c.old_heap → first (over g o c) outcome → second (over g o c) outcome) →
      Leads first c d → Leads second c d
  leads_by first second c d f leads h agrees = from_map (EndsIn second c d h) (leads h agrees) (λ g o e old r. (r.0, r.1, f g o (Ends (over r.0 o d)) e old r.2))

  pub fails_by : (first second : run.State → Outcomes) (c : run.State) (at : Place) → ((g o : run.Heap) (outcome : Outcome) → AgreeOn p c.holdings g c.heap → AgreeOn p c.old_holdings o c.old_heap → first (over g o c) outcome → second (over g o c) outcome) →
      FailsFrom first c at → FailsFrom second c at
  fails_by first second c at f fails = from_map (λ g o. second (over g o c) (FailsAt at)) fails (λ g o e old r. f g o (FailsAt at) e old r)

  -- One after the other

  pub first_fails : (first rest : run.State → Outcomes) (c : run.State) (at : Place) → FailsFrom first c at → FailsFrom (λ s. and_then (first s) rest) c at
  first_fails first rest c at f = from_map (λ g o. and_then (first (over g o c)) rest (FailsAt at)) f (λ g o agrees old r. is_over tt r)

  pub then_fails : (first rest : run.State → Outcomes) (c : run.State) (at : Place) (x : run.Store) (h : run.Heap) (hs : run.Holdings) → Leads first c (become x h hs c) → FailsFrom rest (become x h hs c) at →
      FailsFrom (λ s. and_then (first s) rest) c at
  then_fails first rest c at x h hs leads f =
      from_map (λ g o. and_then (first (over g o c)) rest (FailsAt at)) (after_first first c x h hs leads f) (λ g o agrees old r. goes_on (over r.0 o (become x h hs c)) r.1 r.2)

  pub then_leads : (first rest : run.State → Outcomes) (c d : run.State) (x : run.Store) (h : run.Heap) (hs : run.Holdings) → Leads first c (become x h hs c) → Leads rest (become x h hs c) d → Leads (λ s. and_then (first s) rest) c d
  then_leads first rest c d x h hs leads on k agrees =
      from_map (EndsIn (λ s. and_then (first s) rest) c d k) (after_first first c x h hs leads (on k agrees)) (λ g o e old r. (r.2.0, r.2.1, goes_on (over r.0 o (become x h hs c)) r.1 r.2.2))

  -- what keeps the heap leads to each
  pub keeping_leads : (first : run.State → Outcomes) (c d : run.State) → ((g : run.Heap) → AgreeOn p d.holdings g d.heap → AgreeOn p c.holdings g c.heap) →
      ((g o : run.Heap) → AgreeOn p d.holdings g d.heap → AgreeOn p c.old_holdings o c.old_heap → first (over g o c) (Ends (over g o d))) → Leads first c d
  keeping_leads first c d back keeps h agrees = record { heap = h; agrees = back h agrees; runs = λ g o alike old. (g, alike, keeps g o (alike_agrees d.holdings g h d.heap alike agrees) old) }

  -- what fails from each heap that agrees
  pub fails_here : (first : run.State → Outcomes) (c : run.State) (at : Place) → ((g o : run.Heap) → AgreeOn p c.holdings g c.heap → AgreeOn p c.old_holdings o c.old_heap → first (over g o c) (FailsAt at)) → FailsFrom first c at
  fails_here first c at f = record { heap = c.heap; agrees = λ l pos. refl; runs = λ g o alike old. f g o (λ l pos. alike l) old }
