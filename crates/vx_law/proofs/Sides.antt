-- Under a precondition that is held, the facts gathered of an expression's sides are true where it fits: by rules for the parts of
-- others that are shown to lead on, at every walk.
use Rattle.std.proofs.Common.{◌≡◌, ℕ, true, List, Some, le_refl}
use Rattle.std.specs.Prelude.{Ok}
use Rattle.vx_frac.specs.Fractions.{Fraction, full}
use Rattle.vx_ast.specs.declared.ValueType.{ValueType}
use Rattle.vx_ast.specs.Syntax.{Name, Program, Predicate, predicate_named, Expr, Assertion}
use Rattle.vx_meaning.specs.Values.{Value, type_of}
use Rattle.vx_meaning.specs.States as run
use Rattle.vx_meaning.specs.Evaluate.{applications}
use Rattle.vx_meaning.specs.Fits.{Deeper, fit, take, add}
use Rattle.vx_terms.specs.Terms.{Term}
use Rattle.vx_terms.specs.Build.{whole_amount}
use Rattle.vx_terms.specs.Interpretations.{Each, Interpretation, Tree, value}
use Rattle.vx_rules.specs.States as rules
use Rattle.vx_rules.specs.States.{State, sort_of_type}
use Rattle.vx_rules.specs.Trees as trees
use Rattle.vx_rules.specs.Trees.{leaves}
use Rattle.vx_rules.specs.Rules.{Giving, Context, Outer, gathered}
use Rattle.vx_types.specs.Typing.{Scope, HaveNoPerm, HasType, IsTyped}
use Rattle.vx_elements.proofs.Settled.{Meaning, Extends, extends-trans}
use Rattle.vx_elements.proofs.Built.{Good}
use Rattle.vx_elements.proofs.Elements.{element}
use Rattle.vx_sound.proofs.World.{World}
use Rattle.vx_sound.proofs.Giving.{ScaleStands, whole_scale}
use Rattle.vx_sound_preds.specs.Asking.{asking_entries, IsAsking}
use Rattle.vx_sound_preds.specs.Bodies.{GoodBodies}
use Rattle.vx_sound_preds.proofs.Adding.{added}
use Rattle.vx_sound_preds.proofs.Holding.{HoldsInstances, quiet_world}
use Rattle.vx_live.proofs.Speaks.{Speaks, SpeaksOf}
use Rattle.vx_live.proofs.Quiet.{Quiet, OuterLeft, stays}
use Rattle.vx_law.proofs.Woken.{Quietly}
use Rattle.vx_law.proofs.Told.{Walk, On, off_still, Told, told_here, FollowsWith, OffGiving, off_quiet}
use Rattle.vx_law.proofs.ToldUnfold.{GivesTold}
use Rattle.vx_law.proofs.ToldConsume.{Reads}
use Rattle.vx_law.proofs.Facts.{Stated, gathering, on_fact, off_fact, gathered_stated}
use Rattle.vx_law.proofs.Worth.{Worth}

module _ (means : Meaning) (p : Program) (good : GoodBodies p) (Held : Name → Type 0) (no_perm : (x : Name) (d : Predicate) → predicate_named p x ≡ Some d → HaveNoPerm d.parameters) (n : ℕ) where
  abbrev pub world : World
  world = quiet_world p good Held no_perm true

  -- what is shown of the parts of others
  abbrev pub TakesTold : Walk means n → Outer → Deeper → Type 0
  TakesTold w o d =
      (q : Fraction) (a : Assertion) (scope : Scope) (c : run.State) (hs rest : run.Holdings) → IsTyped p scope a → SpeaksOf Held a → IsAsking p a → take p d c q a hs ≡ Ok rest →
      (i : Interpretation) (s : State) (x : Context) (scale : Term) (h : rules.Heap) (on : Giving) → ScaleStands means world n i scale q → On means world n w scope i s (run.with_holdings hs c) → Reads means p good Held no_perm n w i h c →
      ((j : Interpretation) (t : Term) (s1 : State) (u : Tree) → Extends means n i j → On means world n w scope j s1 (run.with_holdings rest c) → Worth means p n j c a u t → Told means world n w j (on t s1)) → OffGiving means world n w on → Told means world n w i (o.consume a x scale h s on)

  abbrev pub EvalTold : Walk means n → Outer → Deeper → Type 0
  EvalTold w o d =
      (scope : Scope) (e : Expr) (t : ValueType) → HasType p scope e t → Speaks Held e → (i : Interpretation) (s : State) (c : run.State) (v : Value) (on : Giving) → On means world n w scope i s c → fit p d c e ≡ Ok v →
      FollowsWith means world n w scope i c t v on → OffGiving means world n w on → Told means world n w i (o.eval e s on)

  pub record OuterTold (w : Walk means n) (o : Outer) (d : Deeper) : Type 0 where
    pub produces : GivesTold means p good Held no_perm n w o d
    pub consumes : TakesTold w o d
    pub evals : EvalTold w o d

  -- at every walk
  abbrev pub AllTold : Outer → Deeper → Type 1
  AllTold o d = (w : Walk means n) → OuterTold w o d

  -- facts that are true once more applications are known
  pub record FactsStated (i : Interpretation) (facts : List Term) : Type 0 where
    pub interp : Interpretation
    pub extends : Extends means n i interp
    pub each : Each (Stated means n interp) facts

  module _ (o : Outer) (d : Deeper) (all : AllTold o d) (left : (P : Term → State → Type 0) → OuterLeft P o) where
    pub sides_stated : (a : Assertion) (e : Expr) (scope : Scope) (t : ValueType) (said : Term → Term) (start : State) (q : Quiet start) (i : Interpretation) (c u : run.State) (k : ℕ) (es : run.Holdings) (v : Value) (snapshot : Term) (tree : Tree) →
        IsTyped p scope a → SpeaksOf Held a → IsAsking p a → asking_entries p (applications p k) c a ≡ Some es → HoldsInstances p Held true c.heap (added full es c.holdings) → add p d full a c ≡ Ok u →
        HasType p scope e t → Speaks Held e → fit p d (run.with_holdings (added full es c.holdings) c) e ≡ Ok v → Quietly means world n scope i start c → Worth means p n i c a tree snapshot →
        ((j : Interpretation) (y : Term) → Extends means n i j → Good means n j y (sort_of_type t) → value j y ≡ element v → type_of v ≡ t → Stated means n j (said y)) →
        FactsStated i (gathered start said (leaves (o.produce a whole_amount (Some snapshot) start (λ s1. o.eval e s1 trees.On))))
    sides_stated a e scope t said start q i c u k es v snapshot tree ta ka pl listed holds adds te ke fits stands wo is_said =
        record { interp = told.interp; extends = told.extends; each = gathered_stated means n world start q said walk told }
      where
        w : Walk means n
        w = gathering means n start q said

        walk : trees.Tree
        walk = o.produce a whole_amount (Some snapshot) start (λ s1. o.eval e s1 trees.On)

        told : Told means world n (gathering means n start q said) i (o.produce a whole_amount (Some snapshot) start (λ s1. o.eval e s1 trees.On))
        told =
            let here : On means world n w scope i start c = record { still = stays; quietly = stands } in
            (all w).produces full a scope c u k es ta ka pl listed holds adds i start whole_amount snapshot tree (λ s1. o.eval e s1 trees.On) wo (whole_scale means world n i) here
            (λ j s1 x on1. (all w).evals scope e t te ke j s1 (run.with_holdings (added full es c.holdings) c) v trees.On on1 fits
            (λ j2 y s2 x2 on2 g is ty. told_here means world n w (trees.On y s2) (on_fact means n world start q said y on2 (is_said j2 y (extends-trans means (le_refl n) x x2) g is ty)))
            (λ j2 y s2 f. off_fact means n world start q said y f))
            (λ j s1 f. (left (w.Tells j)).eval e s1 trees.On (off_quiet means world n w f) (λ y s2 st. off_fact means n world start q said y (off_still means world n w f st)))
