-- An application after its arguments: what is left to be shown of it is that its term has the function's value where its
-- precondition was taken and its measure is less, and that what it tells is true.
use Rattle.std.proofs.Common.{◌≡◌, ℕ, suc, true, List, Option, Some, None, subst, le_trans}
use Rattle.vx_frac.specs.Fractions.{full}
use Rattle.vx_ast.specs.Syntax.{Name, Program, Function, function_named, Predicate, predicate_named, Assertion, joined}
use Rattle.vx_meaning.specs.Values.{Value}
use Rattle.vx_meaning.specs.States as run
use Rattle.vx_meaning.specs.Fits.{Takes}
use Rattle.vx_terms.specs.Terms.{Term}
use Rattle.vx_terms.specs.Build.{whole_amount, application}
use Rattle.vx_terms.specs.Interpretations.{Interpretation}
use Rattle.vx_rules.specs.States as rules
use Rattle.vx_rules.specs.States.{sort_of_type}
use Rattle.vx_rules.specs.Trees.{FunctionCode, Step, Tree as Questions}
use Rattle.vx_rules.specs.Groups.{is_in_group, function_number}
use Rattle.vx_rules.specs.Rules.{Giving, Going, Context, outer, never, entered, terms, measured, with_equations}
use Rattle.vx_types.specs.Typing.{Scope, HaveNoPerm, IsTypedFunction}
use Rattle.vx_elements.proofs.Settled.{Meaning, extends-trans}
use Rattle.vx_elements.proofs.Scopes.{joined_typed}
use Rattle.vx_sound.proofs.World.{Walked, World}
use Rattle.vx_sound.proofs.Speaks.{SpeaksOf}
use Rattle.vx_sound.proofs.Passes.{Cleared}
use Rattle.vx_sound.proofs.Stands.{TermsStand, Stands, terms_later}
use Rattle.vx_sound.proofs.Evaluate.{Applies, PartsGo}
use Rattle.vx_sound.proofs.Measures.{Lowers, MeasureSpeaks, Measured, measured_at}
use Rattle.vx_sound_preds.specs.Bodies.{GoodBodies}
use Rattle.vx_sound_preds.specs.Asking.{IsAsking}
use Rattle.vx_sound_preds.proofs.Holding.{Applying, functions_world}
use Rattle.vx_sound_preds.proofs.Produced.{SnapshotOf, snapshot_later}
use Rattle.vx_sound_preds.proofs.Unfolds.{BodiesSpeak, AppliesBy}
use Rattle.vx_sound_preds.proofs.Consumed.{put_back, Consumed, consumed_at}

-- what a function asks for
abbrev pub precondition_of : Function → Assertion
precondition_of g = joined g.place g.requires

module _ (means : Meaning) (p : Program) (good : GoodBodies p) (Held : Name → Type 0) (no_perm : (x : Name) (d : Predicate) → predicate_named p x ≡ Some d → HaveNoPerm d.parameters) (applying : Applying) where
  abbrev world : World
  world = functions_world p good Held no_perm true applying

  -- what is asked of a function that may be applied
  pub record Asks (g : Function) : Type 0 where
    pub typed : IsTypedFunction p g
    pub speaks : SpeaksOf Held applying.Applied (precondition_of g)
    pub asking : IsAsking p (precondition_of g)
    pub measure : MeasureSpeaks means world g.decreases

  abbrev pub AllAsk : Type 0
  AllAsk = (f : Name) (g : Function) → applying.Applied f → function_named p f ≡ Some g → Asks g

  -- the state in which the precondition was taken, and the application's term
  abbrev pub callee : Function → List Value → run.State → run.State
  callee g vs c = run.with_store (run.bind g.parameters vs) c

  abbrev pub term_of : Name → Function → List Term → Term → Term
  term_of f g ts named = application (function_number p f) (sort_of_type g.of) named (terms ts)

  -- what is known of an application that is allowed
  pub record IsAllowed (scope : Scope) (i : Interpretation) (s : rules.State) (c : run.State) (f : Name) (g : Function) (ts : List Term) (vs : List Value) (named : Term) : Type 0 where
    pub applied : applying.Applied f
    pub is : function_named p f ≡ Some g
    pub each : TermsStand means world s.next i g.parameters ts vs
    pub stands : Stands means world scope i s c
    pub snapshot : SnapshotOf means p good Held no_perm true applying s.next i (callee g vs c) (precondition_of g) named
    pub left : run.Holdings
    pub takes : Takes p (callee g vs c) (precondition_of g) full left
    pub lowers : (walked : Walked) → applying.own ≡ Some walked → is_in_group p walked.function f ≡ true → Lowers means world walked g vs c i s.heap

  -- what is left to be shown at a depth, by what holds one depth below
  abbrev pub TellsBy : Type 0
  TellsBy =
      (m : ℕ) → ((n : ℕ) → m ≡ suc n → PartsGo means world (outer p n)) →
      (scope : Scope) (i : Interpretation) (s : rules.State) (c : run.State) (f : Name) (g : Function) (ts : List Term) (vs : List Value) (named : Term) (on : Giving) → IsAllowed scope i s c f g ts vs named →
      Cleared (on (term_of f g ts named) (with_equations p (outer p m) g ts named (term_of f g ts named) s)) → Applies means world scope i s.next on c f vs g.of

  module _ (speak : BodiesSpeak p Held) (asks : AllAsk) (tells : TellsBy) where
    pub applies_by : AppliesBy means p good Held no_perm true applying speak
    applies_by m below scope i s c at f g ts vs on allowed is each st h = record {
      interp = r.interp;
      state = r.state;
      term = r.term;
      result = r.result;
      extends = extends-trans means (le_trans z.later w.goes.later) (extends-trans means z.later z.extends w.goes.extends) r.extends;
      later = le_trans (le_trans z.later w.goes.later) r.later;
      stands = r.stands;
      good = r.good;
      value_is = r.value_is;
      typed = r.typed;
      applied = r.applied;
      measured = r.measured;
      cleared = r.cleared;
    }
      where
        ask : Asks g
        ask = asks f g allowed is

        context : Context
        context = record { pure = FunctionCode; permission = FunctionCode; builds = true }

        told : Function → Term → Going
        told g named s3 = Step (on (term_of f g ts named) (with_equations p (outer p m) g ts named (term_of f g ts named) s3))

        after : Function → Term → Going
        after g named s2 = measured p (outer p m) f g (rules.bind g.parameters ts) at s2 (told g named)

        of_function : Option Function → Questions
        of_function o = elim o as (λ g. Questions) [
          | None ↦ never at FunctionCode s
          | Some g ↦ Step ((outer p m).consume (precondition_of g) (record { pure = FunctionCode; permission = FunctionCode; builds = true }) whole_amount s.heap (entered (rules.bind g.parameters ts) at s) (put_back s (after g)))
        ]

        z : Consumed means p good Held no_perm applying scope i s.next (after g) c (callee g vs c) (precondition_of g)
        z = consumed_at means p good Held no_perm applying scope i s c at g.parameters ts vs (precondition_of g) context (after g) (joined_typed p g.parameters g.place g.requires ask.typed.requires)
            ask.speaks ask.asking each st m below (subst (λ o. Cleared (of_function o)) is h)

        each' : TermsStand means world z.state.next z.interp g.parameters ts vs
        each' = terms_later means world z.later z.extends g.parameters ts vs each

        w : Measured means world scope z.interp z.state.next (told g z.term) c f g vs
        w = measured_at means world scope z.interp z.state c at f g ts vs (told g z.term) each' z.stands m below ask.typed.measure ask.measure z.cleared

        r : Applies means world scope w.goes.interp w.goes.state.next on c f vs g.of
        r = tells m below scope w.goes.interp w.goes.state c f g ts vs z.term on
            (record {
              applied = allowed;
              is = is;
              each = terms_later means world w.goes.later w.goes.extends g.parameters ts vs each';
              stands = w.goes.stands;
              snapshot = snapshot_later means p good Held no_perm true applying z.state.next w.goes.state.next z.interp w.goes.interp (callee g vs c) (precondition_of g) (Some z.term) w.goes.later w.goes.extends z.snapshot;
              left = z.left;
              takes = z.takes;
              lowers = w.lowers;
            })
            w.goes.cleared
