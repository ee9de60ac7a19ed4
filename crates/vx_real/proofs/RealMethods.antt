-- Methods backwards: where a method's tree is exposed, some run of it fails at the place.
use Rattle.std.proofs.Common.{◌≡◌, ◌⊎◌, inl, inr, suc, List, [], ◌∷◌, ◌++◌, length, take, Option, Some, None, refl, sym, ◌∙◌, ap, subst, true≢false}
use Rattle.std.specs.Prelude.{Err}
use Rattle.std.proofs.Math.Seq.{take-append_seam}
use Rattle.vx_frac.specs.Fractions.{none, full}
use Rattle.vx_ast.specs.declared.Place.{Place}
use Rattle.vx_ast.specs.Syntax.{Declaration, Program, Method, Block}
use Rattle.vx_meaning.specs.Values.{Value, RefValue}
use Rattle.vx_meaning.specs.States as run
use Rattle.vx_meaning.specs.States.{HaveTypes, bind}
use Rattle.vx_meaning.specs.Flatten.{bare}
use Rattle.vx_meaning.specs.Consistent.{IsConsistent}
use Rattle.vx_meaning.specs.Fits.{Eventually, take_by}
use Rattle.vx_meaning.specs.Outcomes.{Outcomes}
use Rattle.vx_meaning.specs.Give.{give}
use Rattle.vx_meaning.specs.Run.{run_all}
use Rattle.vx_meaning.specs.Fails.{precondition_of, postcondition_of, Starts, MethodStarts, MethodFails, precondition, postcondition_unframed, body, postcondition}
use Rattle.vx_terms.specs.Build.{null, whole_amount}
use Rattle.vx_terms.specs.Interpretations.{Interpretation, value}
use Rattle.vx_rules.specs.States as rules
use Rattle.vx_rules.specs.Trees.{Code, PostCode, Tree, End, Fork}
use Rattle.vx_rules.specs.Rules.{Going, Outer, placed, consume}
use Rattle.vx_rules.specs.Members.{codes, blank, ended, with_new_returns, promise_side, body_side, both_sides, sides, method_over}
use Rattle.vx_types.specs.Typing.{Scope, IsTyped, IsTypedBody, IsTypedMethod, scope_after_all}
use Rattle.vx_types.specs.FieldLanguage.{IsOfFields}
use Rattle.vx_elements.proofs.Settled.{Meaning}
use Rattle.vx_elements.proofs.Elements.{element}
use Rattle.vx_elements.proofs.Scopes.{joined_typed, scope_more, typed_longer, all_typed_longer}
use Rattle.vx_amounts.proofs.Amounts.{le-refl, not-positive}
use Rattle.vx_grows.proofs.GrowSteps.{Follows}
use Rattle.vx_grows.proofs.GrowParts.{OuterGrows}
use Rattle.vx_grows.proofs.GrowAssertions.{consume_grows}
use Rattle.vx_grows.proofs.GrowMembers.{sides_grow}
use Rattle.vx_sound.proofs.Standard.{IsStandard}
use Rattle.vx_sound.proofs.Fields.{fields_world}
use Rattle.vx_sound.proofs.Stands.{StoreStands, store_take, unowned}
use Rattle.vx_sound.proofs.Giving.{whole_scale}
use Rattle.vx_sound.proofs.Contracts.{BodySpeaks, MethodSpeaks}
use Rattle.vx_real.specs.Exposed.{Exposed}
use Rattle.vx_real.proofs.Backwards.{AgreeOn, ReadAlike, over, become, FailsFrom}
use Rattle.vx_real.proofs.Matched.{HasReferences, Matches, Mistakes, Takes, Reaches}
use Rattle.vx_real.proofs.TakesAssertions.{take_shown}
use Rattle.vx_real.proofs.GivesAssertions.{give_shown}
use Rattle.vx_real.proofs.Symbols.{DeclaredAll, declared_all, matches_store}
use Rattle.vx_real.proofs.Plain.{own_place, mistakes_always}
use Rattle.vx_real.proofs.Looping.{nothing_exact, matches_nothing}
use Rattle.vx_real.proofs.Looped.{joined_fields}
use Rattle.vx_real.proofs.Calling.{deeper_rules}
use Rattle.vx_real.proofs.Executed.{exec_all_real}

bind_length : (ds : List Declaration) (vs : List Value) → HaveTypes ds vs → length (bind ds vs) ≡ length ds
bind_length [] [] h = refl
bind_length [] (v ∷ vs) h = absurd h
bind_length (d ∷ ds) [] h = absurd h
bind_length (d ∷ ds) (v ∷ vs) h = ap suc (bind_length ds vs h.1)

module _ (means : Meaning) (p : Program) (i : Interpretation) (references : HasReferences i) (null_is : value i null ≡ element (RefValue 0)) (standard : IsStandard i) (at : Place) (code : Code) (o : Outer) (below : OuterGrows o) (above : OuterGrows (deeper_rules p o)) (m : Method) (typed : IsTypedMethod p m) (speaks : MethodSpeaks p m) where
  abbrev scope : Scope
  scope = m.parameters ++ m.returns

  pre_typed : IsTyped p (m.parameters ++ m.returns) (precondition_of m)
  pre_typed = joined_typed p (m.parameters ++ m.returns) m.place m.requires (all_typed_longer p m.parameters m.returns m.requires typed.requires)

  pre_fields : IsOfFields (precondition_of m)
  pre_fields = joined_fields m.place m.requires speaks.requires

  post_typed : IsTyped p (m.parameters ++ m.returns) (postcondition_of m)
  post_typed = joined_typed p (m.parameters ++ m.returns) m.place m.ensures typed.ensures

  post_fields : IsOfFields (postcondition_of m)
  post_fields = joined_fields m.place m.ensures speaks.ensures

  -- nothing is known at first
  blank_matches : Matches means p i [] blank (bare [] [])
  blank_matches = record {
    stands = record {
      store = tt;
      path = tt;
      heap = record { each = tt; sums = λ l. le-refl none };
      old = record { each = tt; sums = λ l. le-refl none };
      awake = refl;
      bounded = refl;
      null = null_is;
      standard = standard;
      owned = tt;
      marked = λ e. absurd (true≢false (sym e));
      holds = (fields_world p).nothing [];
      old_holds = (fields_world p).nothing [];
    };
    exact = nothing_exact i;
    old_exact = nothing_exact i;
  }

  ps : DeclaredAll means p i references [] m.parameters blank (bare [] [])
  ps = declared_all means p i references [] m.parameters blank (bare [] []) blank_matches

  abbrev declared : rules.State
  declared = rules.declare_all m.parameters blank

  rs : DeclaredAll means p i references m.parameters m.returns declared (bare (bind m.parameters ps.values) [])
  rs = declared_all means p i references m.parameters m.returns declared (bare (bind m.parameters ps.values) []) ps.matches

  abbrev begun : rules.State
  begun = rules.declare_all m.returns declared

  abbrev variables : run.Store
  variables = bind m.parameters ps.values ++ bind m.returns rs.values

  abbrev first : run.State
  first = bare variables []

  outside : begun.at ≡ None
  outside = rs.at_is ∙ ps.at_is

  abbrev begins : run.State → Outcomes
  begins = give p (IsConsistent p) full (precondition_of m)

  -- from a state that the precondition leaves
  module _ (r : Reaches means p i at code scope begins begun first variables (sides p (deeper_rules p o) m)) where
    abbrev given : run.State
    given = become variables r.heap r.holdings first

    abbrev started : run.State
    started = run.from_now given

    abbrev state : rules.State
    state = record r.state { old = r.state.heap }

    started_matches : Matches means p i scope state started
    started_matches = record {
      stands = record {
        store = r.matches.stands.store;
        path = r.matches.stands.path;
        heap = r.matches.stands.heap;
        old = r.matches.stands.heap;
        awake = r.matches.stands.awake;
        bounded = r.matches.stands.bounded;
        null = r.matches.stands.null;
        standard = r.matches.stands.standard;
        owned = unowned means (fields_world p) r.state.next i r.heap [] r.heap r.heap r.state.own None refl r.matches.stands.owned;
        marked = r.matches.stands.marked;
        holds = r.matches.stands.holds;
        old_holds = r.matches.stands.holds;
      };
      exact = r.matches.exact;
      old_exact = r.matches.exact;
    }

    state_outside : state.at ≡ None
    state_outside = r.at_is ∙ outside

    -- for each heap that agrees with what is held there is a start, whose heap and old heap read like it
    record Started (h : run.Heap) : Type 0 where
      pub heap : run.Heap
      pub alike : ReadAlike p heap h
      pub starts : Starts p variables (precondition_of m) (over heap heap started)

    starting : (h : run.Heap) → AgreeOn p r.holdings h r.heap → Started h
    starting h agrees =
        let f = r.leads h agrees in
        let e = f.runs f.heap f.heap (λ l. refl) (λ l pos. absurd (not-positive pos (le-refl none))) in
        record { heap = e.0; alike = e.1; starts = (f.heap, over e.0 f.heap given, e.2, refl) }

    method_starts : (h : run.Heap) (agrees : AgreeOn p r.holdings h r.heap) → MethodStarts p m (over (starting h agrees).heap (starting h agrees).heap started)
    method_starts h agrees = (ps.values, rs.values, ps.typed, rs.typed, (starting h agrees).starts)

    -- the old heap agrees with what was held
    old_agrees : (h : run.Heap) (agrees : AgreeOn p r.holdings h r.heap) → AgreeOn p r.holdings (starting h agrees).heap r.heap
    old_agrees h agrees l pos = (starting h agrees).alike l ∙ agrees l pos

    -- The postcondition by itself

    abbrev promising : run.State
    promising = record { store = bind m.parameters ps.values; heap = r.heap; holdings = []; old_heap = r.heap; old_holdings = r.holdings }

    promised : Matches means p i m.parameters (rules.leave (length m.parameters) (rules.with_heap [] state)) promising
    promised =
        let n = length m.parameters in
        let front : take n variables ≡ bind m.parameters ps.values =
        ap (λ k. take k (bind m.parameters ps.values ++ bind m.returns rs.values)) (sym (bind_length m.parameters ps.values ps.typed)) ∙ take-append_seam (bind m.parameters ps.values) (bind m.returns rs.values) in
        matches_store means p i references m.parameters (take n state.store) (bind m.parameters ps.values) (matches_nothing means p i references at code (deeper_rules p o) above r.heap started_matches)
        (subst (λ z. StoreStands means (fields_world p) state.next i m.parameters (take n state.store) z) front
        (subst (λ z. StoreStands means (fields_world p) state.next i z (take n state.store) (take n variables)) (take-append_seam m.parameters m.returns)
        (store_take means (fields_world p) state.next i n scope state.store variables r.matches.stands.store)))

    promise_fails : Exposed i at code (promise_side p (deeper_rules p o) m state) → MethodFails p m at
    promise_fails x = go (give_shown means p i at code (deeper_rules p o) above references (postcondition_of m) scope full post_typed post_fields (with_new_returns m (rules.with_heap [] state)) promised_ws whole_amount ended (whole_scale means (fields_world p) (with_new_returns m (rules.with_heap [] state)).next i) d.matches (λ s. tt) x)
      where
        d : DeclaredAll means p i references m.parameters m.returns (rules.leave (length m.parameters) (rules.with_heap [] state)) promising
        d = declared_all means p i references m.parameters m.returns (rules.leave (length m.parameters) (rules.with_heap [] state)) promising promised

        promised_ws : run.State
        promised_ws = run.with_store (bind m.parameters ps.values ++ bind m.returns d.values) promising

        failing : (y : Place) → FailsFrom p (give p (IsConsistent p) full (postcondition_of m)) promised_ws y → MethodFails p m y
        failing y f =
            let z = starting r.heap (λ l pos. refl) in
            postcondition_unframed (over z.heap z.heap started) ps.values d.values rs.values f.heap ps.typed d.typed rs.typed z.starts (f.runs f.heap z.heap (λ l. refl) (λ l pos. z.alike l))

        go : ((y : Place) × (placed (with_new_returns m (rules.with_heap [] state)) y ≡ at) × FailsFrom p (give p (IsConsistent p) full (postcondition_of m)) promised_ws y)
            ⊎ Reaches means p i at code scope (give p (IsConsistent p) full (postcondition_of m)) (with_new_returns m (rules.with_heap [] state)) promised_ws promised_ws.store ended → MethodFails p m at
        go (inl (y, is, f)) = subst (MethodFails p m) (own_place (with_new_returns m (rules.with_heap [] state)) y (d.at_is ∙ state_outside) is) (failing y f)
        go (inr q) = absurd q.exposed

    -- The body, and then the postcondition

    module _ (b : Block) (has : m.body ≡ Some b) where
      abbrev checked_last : Going
      checked_last s1 = consume p (deeper_rules p o) (postcondition_of m) (codes PostCode PostCode) whole_amount s1.heap s1 (λ t s2. End)

      last_grows : Follows checked_last
      last_grows s1 = consume_grows p (deeper_rules p o) above (postcondition_of m) (codes PostCode PostCode) whole_amount s1.heap s1 (λ t s2. End) (λ t s2. tt)

      run_fails : FailsFrom p (run_all p b) started at → MethodFails p m at
      run_fails f =
          let z = starting f.heap f.agrees in
          body (over z.heap z.heap started) b (method_starts f.heap f.agrees) has (f.runs z.heap z.heap z.alike (old_agrees f.heap f.agrees))

      end_fails : (x : run.Store) (q : Reaches means p i at code (scope_after_all p b scope) (run_all p b) state started x checked_last) → MethodFails p m at
      end_fails x q = go (take_shown means p i at code (deeper_rules p o) above (postcondition_of m) (scope_after_all p b scope) full longer_typed post_fields q.state done q.holdings (codes PostCode PostCode) whole_amount q.state.heap (λ t s2. End) refl
          (whole_scale means (fields_world p) q.state.next i) q.matches q.matches (λ t s2. tt) q.exposed)
        where
          done : run.State
          done = become x q.heap q.holdings started

          longer_typed : IsTyped p (scope_after_all p b scope) (postcondition_of m)
          longer_typed = let e = scope_more p b scope in subst (λ z. IsTyped p z (postcondition_of m)) (sym e.1) (typed_longer p scope e.0 (postcondition_of m) post_typed)

          failing : (y : Place) → Eventually (λ n. take_by p n done full (postcondition_of m) q.holdings ≡ Err y) → MethodFails p m y
          failing y mistake =
              let f = q.leads q.heap (λ l pos. refl) in
              let z = starting f.heap f.agrees in
              let e = f.runs z.heap z.heap z.alike (old_agrees f.heap f.agrees) in
              postcondition (over z.heap z.heap started) (over e.0 z.heap done) b (method_starts f.heap f.agrees) has e.2
              (mistakes_always p done (postcondition_of m) full q.holdings post_fields mistake e.0 z.heap (λ l pos. e.1 l) (old_agrees f.heap f.agrees))

          go : Mistakes means p i at code q.state done (postcondition_of m) full q.holdings ⊎ Takes means p i at code (scope_after_all p b scope) q.state done q.holdings (λ t s2. End) (postcondition_of m) full → MethodFails p m at
          go (inl (y, is, mistake)) = subst (MethodFails p m) (own_place q.state y (q.at_is ∙ state_outside) is) (failing y mistake)
          go (inr t) = absurd t.exposed

      body_fails : Exposed i at code (body_side p (deeper_rules p o) m b state) → MethodFails p m at
      body_fails x = go (exec_all_real means p i references at code o below above b (subst (BodySpeaks p) has speaks.body) scope (subst (λ z. IsTypedBody p scope z) has typed.body) typed.names state started checked_last state_outside started_matches last_grows x)
        where
          go : FailsFrom p (run_all p b) started at ⊎ ((y : run.Store) × Reaches means p i at code (scope_after_all p b scope) (run_all p b) state started y checked_last) → MethodFails p m at
          go (inl f) = run_fails f
          go (inr (y, q)) = end_fails y q

    both_fail : Exposed i at code (both_sides p (deeper_rules p o) m state) → MethodFails p m at
    both_fail x = go m.body refl x
      where
        go : (b : Option Block) → m.body ≡ b → Exposed i at code (elim b as (λ b. Tree) [ None ↦ promise_side p (deeper_rules p o) m state | Some b ↦ Fork (promise_side p (deeper_rules p o) m state) (body_side p (deeper_rules p o) m b state) ]) → MethodFails p m at
        go None e x = promise_fails x
        go (Some b) e (inl x) = promise_fails x
        go (Some b) e (inr x) = body_fails b e x

  pub method_real : Exposed i at code (method_over p (deeper_rules p o) m) → MethodFails p m at
  method_real x = go (give_shown means p i at code (deeper_rules p o) above references (precondition_of m) scope full pre_typed pre_fields begun first whole_amount (sides p (deeper_rules p o) m) (whole_scale means (fields_world p) begun.next i) rs.matches (sides_grow p (deeper_rules p o) above m) x)
    where
      go : ((y : Place) × (placed begun y ≡ at) × FailsFrom p begins first y) ⊎ Reaches means p i at code scope begins begun first variables (sides p (deeper_rules p o) m) → MethodFails p m at
      go (inl (y, is, f)) = subst (MethodFails p m) (own_place begun y outside is) (precondition ps.values rs.values ps.typed rs.typed (f.heap, f.runs f.heap f.heap (λ l. refl) (λ l pos. absurd (not-positive pos (le-refl none)))))
      go (inr r) = both_fail r r.exposed
