-- Where the walk of a function passed, its precondition can be added where it starts, and the walk goes on from there: by what is shown
-- of the functions that its precondition may apply.
use Rattle.std.proofs.Common.{◌≡◌, ℕ, suc, ◌≤◌, true, inr, List, [], Some, refl, le_of_lt, lt-suc_self, true≢false, sym}
use Rattle.vx_frac.specs.Fractions.{full}
use Rattle.vx_ast.specs.Syntax.{Name, Program, Predicate, Function, IsFunction, predicate_named}
use Rattle.vx_smt_meaning.specs.declared.reply.Reply.{Reply}
use Rattle.vx_meaning.specs.Values.{Value}
use Rattle.vx_meaning.specs.States as run
use Rattle.vx_meaning.specs.States.{bind}
use Rattle.vx_meaning.specs.Evaluate.{applications}
use Rattle.vx_meaning.specs.Flatten.{bare}
use Rattle.vx_terms.specs.Sorts.{SnapSort}
use Rattle.vx_terms.specs.Build.{whole_amount}
use Rattle.vx_terms.specs.Interpretations.{Interpretation, TreeElement, Tree}
use Rattle.vx_rules.specs.States as rules
use Rattle.vx_rules.specs.Rules.{Going, produce}
use Rattle.vx_rules.specs.Members.{rules as member_rules, blank, from_measure, tree}
use Rattle.vx_types.specs.Typing.{HaveNoPerm, IsTypedFunction}
use Rattle.vx_amounts.proofs.Amounts.{le-refl}
use Rattle.vx_elements.proofs.Settled.{Meaning, with_symbol, symbol_extends, fresh_value}
use Rattle.vx_elements.proofs.Scopes.{joined_typed}
use Rattle.vx_sound.specs.Law.{Passes}
use Rattle.vx_sound.proofs.World.{World}
use Rattle.vx_sound.proofs.Standard.{start as start_interpretation, start_null, start_standard, variable_written}
use Rattle.vx_sound.proofs.Passes.{Cleared, cleared}
use Rattle.vx_sound.proofs.Stands.{Stands, stands_later}
use Rattle.vx_sound.proofs.Goes.{Goes, declared_all, good_fresh}
use Rattle.vx_sound.proofs.Evaluate.{PartsGo}
use Rattle.vx_sound.proofs.Giving.{whole_scale}
use Rattle.vx_sound.proofs.Speaks as instances
use Rattle.vx_sound_preds.specs.Asking.{asking_entries, IsAskingTreeOf, IsAsking}
use Rattle.vx_sound_preds.specs.Bodies.{GoodBodies}
use Rattle.vx_sound_preds.proofs.Adding.{added}
use Rattle.vx_sound_preds.proofs.Holding.{HoldsInstances, nothing, functions_world}
use Rattle.vx_sound_preds.proofs.Produced.{produced, Produced, SnapshotOf}
use Rattle.vx_sound_preds.proofs.Functions.{asking_of}
use Rattle.vx_sound_funcs.specs.Told.{precondition_of}

module _ (means : Meaning) (p : Program) (good : GoodBodies p) (Held : Name → Type 0) (no_perm : (x : Name) (d : Predicate) → predicate_named p x ≡ Some d → HaveNoPerm d.parameters) (Before : Name → Type 0) where
  -- where a precondition is given, these functions may be applied
  abbrev pub world : World
  world = functions_world p good Held no_perm true (asking_of Before)

  -- a walk begins with nothing
  starts : (h : run.Heap) → Stands means world [] start_interpretation blank (bare [] h)
  starts h = record {
    store = tt;
    path = tt;
    heap = record { each = tt; sums = λ r. le-refl _ };
    old = record { each = tt; sums = λ r. le-refl _ };
    awake = refl;
    bounded = refl;
    null = start_null;
    standard = start_standard;
    owned = tt;
    marked = λ e. absurd (true≢false (sym e));
    holds = nothing p good Held true h;
    old_holds = nothing p good Held true h;
  }

  module _ (parts : PartsGo means world (member_rules p)) (f : Name) (g : Function) (typed : IsTypedFunction p g) (asked : instances.SpeaksOf Held Before (precondition_of g)) (asking : IsAsking p (precondition_of g)) (replies : List Reply) (pass : Passes p f (IsFunction g) replies) where
    -- what the walk does once the parameters are declared
    walk : Going
    walk s = produce p (member_rules p) (precondition_of g) whole_amount (Some (rules.fresh SnapSort s)) (rules.after_fresh s) (from_measure p (member_rules p) f g g.decreases)

    walked : Cleared (tree p f (IsFunction g))
    walked = cleared (tree p f (IsFunction g)) replies pass.0 pass.1

    -- a state in which the precondition was given, and from which the walk goes on to the measure and the body
    pub record Started (vs : List Value) (h : run.Heap) (es : run.Holdings) : Type 0 where
      pub interp : Interpretation
      pub next : ℕ
      pub start : Produced means p good Held no_perm true (asking_of Before) (member_rules p) parts (λ (u : run.State). Unit {0}) g.parameters interp next (from_measure p (member_rules p) f g g.decreases) (bare (bind g.parameters vs) h) (precondition_of g) full es

    pub started : (vs : List Value) → run.HaveTypes g.parameters vs → (h : run.Heap) (m : ℕ) (es : run.Holdings) (t : Tree) → asking_entries p (applications p m) (bare (bind g.parameters vs) h) (precondition_of g) ≡ Some es → HoldsInstances p Held true h (added full es []) →
        IsAskingTreeOf p (bare (bind g.parameters vs) h) (precondition_of g) t → Started vs h es
    unfolding walk
    started vs types h m es t listed holds (k, is) =
        let b : Goes means world g.parameters start_interpretation 0 walk (bare (bind g.parameters vs) h) = declared_all means world g.parameters vs types [] start_interpretation blank (bare [] h) walk (starts h) walked in
        let s = b.state in
        let j = with_symbol means b.interp s.next (TreeElement t) in
        let le : s.next ≤ suc s.next = le_of_lt (lt-suc_self s.next) in
        let st : Stands means world g.parameters j (rules.after_fresh s) (bare (bind g.parameters vs) h) = stands_later means world (suc s.next) le (symbol_extends means b.interp s.next (TreeElement t)) b.stands in
        let snap : SnapshotOf means p good Held no_perm true (asking_of Before) (suc s.next) j (bare (bind g.parameters vs) h) (precondition_of g) (rules.fresh SnapSort s) =
        record { good_term = good_fresh means world b.interp s.next (TreeElement t) SnapSort; written = variable_written s.next SnapSort; fuel = k; tree = t; is = is; value_is = fresh_value means b.interp s.next (TreeElement t) SnapSort tt } in
        record {
          interp = j;
          next = suc s.next;
          start = produced means p good Held no_perm true (asking_of Before) (member_rules p) parts (λ (u : run.State). Unit {0}) full (precondition_of g) (inr tt) g.parameters (bare (bind g.parameters vs) h) m es (joined_typed p g.parameters g.place g.requires typed.requires) asked asking listed holds
              j (rules.after_fresh s) whole_amount (Some (rules.fresh SnapSort s)) (from_measure p (member_rules p) f g g.decreases) snap (whole_scale means world (suc s.next) j) st (λ e. absurd (st.marked e)) b.cleared;
        }
