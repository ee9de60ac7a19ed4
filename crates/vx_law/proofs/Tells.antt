-- What is left to be shown of an application, where each that is taken keeps its promise and is allowed then: its term has the function's value, and what
-- it tells of the function is true.
use Rattle.std.proofs.Common.{◌≡◌, ℕ, ◌≤◌, true, List, Some, None, refl, sym, subst, le_refl}
use Rattle.vx_ast.specs.Syntax.{Name, Program, Function, function_named}
use Rattle.vx_ast.specs.Apart.{entered_by}
use Rattle.vx_ast.specs.Apart as apart
use Rattle.vx_smt_meaning.specs.declared.reply.Reply.{Reply}
use Rattle.vx_meaning.specs.Values.{Value}
use Rattle.vx_meaning.specs.States as run
use Rattle.vx_terms.specs.Terms.{Term}
use Rattle.vx_terms.specs.Interpretations.{Interpretation}
use Rattle.vx_rules.specs.States as rules
use Rattle.vx_rules.specs.States.{sort_of_type}
use Rattle.vx_rules.specs.Rules.{Giving, outer, with_equations}
use Rattle.vx_types.specs.Typing.{Scope}
use Rattle.vx_types.specs.Premises.{IsTypedProgram}
use Rattle.vx_types.specs.Closure.{InClosure}
use Rattle.vx_elements.proofs.Built.{Good}
use Rattle.vx_sound.proofs.World.{World}
use Rattle.vx_sound.proofs.Passes.{Cleared}
use Rattle.vx_sound.proofs.Stands.{OwnStands, Stands, stands_later}
use Rattle.vx_sound.proofs.Marks.{Unsaid}
use Rattle.vx_sound.proofs.Elsewhere.{there, stands_there, terms_there}
use Rattle.vx_sound.proofs.Marked.{terms_marked, stands_marked, to_unsaid, stands_told, equations_path}
use Rattle.vx_sound.proofs.Candidates.{values_typed}
use Rattle.vx_sound.proofs.Evaluate.{Applies}
use Rattle.vx_sound_preds.specs.Covered.{PredicatesPass}
use Rattle.vx_sound_preds.proofs.Holding.{HoldsInstances, consistent, Applying, functions_world}
use Rattle.vx_sound_preds.proofs.Speaking.{good, no_perm, speak}
use Rattle.vx_sound_preds.proofs.Applied as applications
use Rattle.vx_sound_preds.proofs.Applied.{term_of, TellsBy, applies_by}
use Rattle.vx_sound_preds.proofs.FunctionWalks.{all_ask}
use Rattle.vx_sound_preds.proofs.Unfolds.{AppliesBy}
use Rattle.vx_sound_funcs.specs.Told.{precondition_of}
use Rattle.vx_sound_funcs.specs.Firm.{GoodFunctions}
use Rattle.vx_sound_funcs.specs.Laws.{ApplicationsAgree}
use Rattle.vx_sound_funcs.proofs.Laws.{agree}
use Rattle.vx_law.specs.Means.{Means}
use Rattle.vx_law.specs.Walks.{KeepsAt}
use Rattle.vx_law.specs.Allowed as allowing
use Rattle.vx_law.specs.Allowed.{IsAllowedWhereTaken}
use Rattle.vx_law.proofs.Worth.{Worth, written_worth}
use Rattle.vx_law.proofs.Awake.{Follows, awake_told}
use Rattle.vx_law.proofs.Own.{told_there}
use Rattle.vx_sound_funcs.proofs.Stocked.{stocked}

module _ (p : Program) (x : Name) (replies : Name → List Reply) (typed : IsTypedProgram p) (functions : GoodFunctions p) (predicates : PredicatesPass p x replies) (applying : Applying) where
  abbrev Held : Name → Type 0
  Held = InClosure p x

  abbrev world : World
  world = functions_world p (good p x typed) Held (no_perm p x typed) true applying

  -- where no function may be applied, and none is walked
  abbrev plainly : World
  plainly = there (Means p x) world (λ f. ⊥) None (λ h f vs. Unit {0})

  abbrev pub IsAllowed : Scope → Interpretation → rules.State → run.State → Name → Function → List Term → List Value → Term → Type 0
  IsAllowed = applications.IsAllowed (Means p x) p (good p x typed) (InClosure p x) (no_perm p x typed) applying

  -- each application that is allowed keeps its promise
  abbrev pub AllowedKeep : Type 0
  AllowedKeep =
      (scope : Scope) (i : Interpretation) (s : rules.State) (c : run.State) (f : Name) (g : Function) (ts : List Term) (vs : List Value) (named : Term) → IsAllowed scope i s c f g ts vs named → KeepsAt p f g vs c.heap

  -- and what the walk is to show of it holds
  abbrev pub AllowedMeasured : Type 0
  AllowedMeasured =
      (scope : Scope) (i : Interpretation) (s : rules.State) (c : run.State) (f : Name) (g : Function) (ts : List Term) (vs : List Value) (named : Term) → IsAllowed scope i s c f g ts vs named → applying.Measured c.heap f vs

  module _ (leads : (f : Name) → applying.Applied f → InClosure p x f)
      (closed : (f : Name) (g : Function) (y : Name) (d : Function) → applying.Applied f → function_named p f ≡ Some g → apart.Stands y (entered_by (precondition_of g)) → function_named p y ≡ Some d → applying.Applied y)
      (allowed : (f : Name) (g : Function) → applying.Applied f → function_named p f ≡ Some g → IsAllowedWhereTaken p x f g) (keeps : AllowedKeep) (measured : AllowedMeasured) where
    agreeing : ApplicationsAgree p x
    agreeing = agree p x replies typed predicates

    module _ (m : ℕ) (scope : Scope) (i : Interpretation) (s : rules.State) (c : run.State) (f : Name) (g : Function) (ts : List Term) (vs : List Value) (named : Term) (a : IsAllowed scope i s c f g ts vs named) where
      abbrev t : Term
      t = term_of (Means p x) p (good p x typed) Held (no_perm p x typed) applying f g ts named

      -- the state in which no function is walked
      abbrev unowned : rules.State
      unowned = record s { own = None }

      holds : HoldsInstances p (InClosure p x) true c.heap c.holdings
      holds = a.stands.holds

      firm : allowing.IsAllowed p f vs c
      firm =
          let types = values_typed (Means p x) world s.next i g.parameters ts vs a.each in
          let at = allowed f g a.applied a.is vs types c (consistent p (good p x typed) Held true c refl holds) (stocked p x true c.heap c.holdings holds) a.left a.takes in
          at.1 (keeps scope i s c f g ts vs named a)

      worth : Worth (Means p x) p s.next i (run.with_store (run.bind g.parameters vs) c) (precondition_of g) a.snapshot.tree named
      worth =
          written_worth (Means p x) p s.next i a.stands.standard a.snapshot.fuel (run.with_store (run.bind g.parameters vs) c) (precondition_of g) a.snapshot.tree named a.snapshot.is
          (record { good = a.snapshot.good_term; is = a.snapshot.value_is }) a.snapshot.written

      -- where nothing is said of marks
      alone : Stands (Means p x) plainly scope i (record s { own = None }) c
      alone = stands_there (Means p x) world (λ f. ⊥) None (λ h f vs. Unit {0}) None tt a.stands

      told : Follows p x typed functions agreeing m scope i unowned c g ts firm.value named t
      told =
          awake_told p x typed functions agreeing m firm.fuel scope i unowned c f g ts vs firm.value named a.snapshot.tree (leads f a.applied) a.is (terms_marked (Means p x) plainly Unsaid s.next i g.parameters ts vs (terms_there (Means p x) world (λ f. ⊥) None (λ h f vs. Unit {0}) s.next i g.parameters ts vs a.each))
          (stands_marked (Means p x) plainly Unsaid (to_unsaid p applying.marks) alone) firm.firm worth

      -- what is told is told here too
      same_state : with_equations p (outer p m) g ts named t s ≡ record (with_equations p (outer p m) g ts named t unowned) { own = s.own }
      same_state = told_there s.own p m g ts named t unowned

      owned : OwnStands (Means p x) world s.next told.interp c.heap c.old_heap s.own applying.own
      owned = let later = stands_later (Means p x) world s.next (le_refl s.next) told.extends a.stands in later.owned

      told_alone : Stands (Means p x) plainly scope told.interp (with_equations p (outer p m) g ts named t unowned) c
      told_alone = stands_told (Means p x) plainly Unsaid alone told.extends (equations_path p (outer p m) g ts named t unowned) told.stands

      here : Stands (Means p x) world scope told.interp (with_equations p (outer p m) g ts named t s) c
      here =
          subst (λ (u : rules.State). Stands (Means p x) world scope told.interp u c) (sym same_state)
          (stands_there (Means p x) plainly applying.Applied applying.own applying.Measured s.own (subst (λ n. OwnStands (Means p x) world n told.interp c.heap c.old_heap s.own applying.own) (sym told.next) owned) told_alone)

      next : (with_equations p (outer p m) g ts named t s).next ≡ s.next
      next = subst (λ (u : rules.State). u.next ≡ s.next) (sym same_state) told.next

      applies : (on : Giving) → Cleared (on t (with_equations p (outer p m) g ts named t s)) → Applies (Means p x) world scope i s.next on c f vs g.of
      applies on h = record {
        interp = told.interp;
        state = with_equations p (outer p m) g ts named t s;
        term = t;
        result = firm.value;
        extends = told.extends;
        later = subst (λ n. s.next ≤ n) (sym next) (le_refl s.next);
        stands = here;
        good = subst (λ n. Good (Means p x) n told.interp t (sort_of_type g.of)) (sym next) told.good_term;
        value_is = told.is;
        typed = told.value_type;
        applied = firm.applied;
        measured = measured scope i s c f g ts vs named a;
        cleared = h;
      }

    pub tells_by : TellsBy (Means p x) p (good p x typed) (InClosure p x) (no_perm p x typed) applying
    tells_by m below scope i s c f g ts vs named on a h = applies m scope i s c f g ts vs named a on h

    -- so applications go at every depth, where all functions that x leads to may be applied
    pub applies_go : AppliesBy (Means p x) p (good p x typed) (InClosure p x) (no_perm p x typed) true applying (speak p x typed)
    applies_go = applies_by (Means p x) p (good p x typed) (InClosure p x) (no_perm p x typed) applying (speak p x typed) (all_ask (Means p x) p x typed (λ f g leads is. functions.asks f g is) applying leads closed) tells_by
