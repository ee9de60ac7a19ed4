-- What is shown of each part that is exposed: it fails at the place, or it ends, and what follows is exposed in a state that matches its end.
use Rattle.std.proofs.Common.{◌≡◌, ◌⊎◌, ℕ, ◌≤◌, false, List, None}
use Rattle.std.specs.Prelude.{Ok, Err}
use Rattle.vx_frac.specs.Fractions.{Fraction}
use Rattle.vx_ast.specs.declared.Place.{Place}
use Rattle.vx_ast.specs.declared.ValueType.{ValueType}
use Rattle.vx_ast.specs.Syntax.{Declaration, Program, Expr, Exprs, Assertion, Stmt, Block}
use Rattle.vx_meaning.specs.Values.{Value, RefValue, type_of}
use Rattle.vx_meaning.specs.States as run
use Rattle.vx_meaning.specs.Fits.{Eventually, Fits, FailsToFit, fit_all, take_by, deeper}
use Rattle.vx_meaning.specs.Consistent.{IsConsistent}
use Rattle.vx_meaning.specs.Outcomes.{Outcomes}
use Rattle.vx_meaning.specs.Give.{give}
use Rattle.vx_meaning.specs.Run as meaning
use Rattle.vx_terms.specs.Sorts.{RefSort}
use Rattle.vx_terms.specs.Terms.{Term}
use Rattle.vx_terms.specs.Build.{variable}
use Rattle.vx_terms.specs.Interpretations.{Interpretation, value}
use Rattle.vx_rules.specs.States as rules
use Rattle.vx_rules.specs.States.{sort_of_type}
use Rattle.vx_rules.specs.Trees.{Code}
use Rattle.vx_rules.specs.Rules.{Giving, Going, GivingAll, Outer, Context, placed, eval, evals, produce, consume}
use Rattle.vx_rules.specs.Members.{exec, exec_all}
use Rattle.vx_types.specs.Typing.{Scope, HasType, HaveTypes, IsTyped, IsTypedStmt, IsTypedBlock, AreOnce, scope_after, scope_after_all}
use Rattle.vx_types.specs.FieldLanguage.{InFields, IsOfFields}
use Rattle.vx_types.specs.CallLanguage.{AreInFields}
use Rattle.vx_elements.proofs.Settled.{Meaning}
use Rattle.vx_elements.proofs.Built.{Good}
use Rattle.vx_elements.proofs.Elements.{element}
use Rattle.vx_grows.proofs.GrowSteps.{Follows, FollowsWith, FollowsAll}
use Rattle.vx_sound.proofs.Stands.{Stands, TermsStand}
use Rattle.vx_sound.proofs.Giving.{ScaleStands}
use Rattle.vx_sound.proofs.Fields.{fields_world}
use Rattle.vx_real.specs.Exposed.{Exposed}
use Rattle.vx_real.proofs.Exactly.{Exact}
use Rattle.vx_real.proofs.Backwards.{become, FailsFrom, Leads}

-- each symbol for a reference is one
abbrev pub HasReferences : Interpretation → Type 0
HasReferences i = (n : ℕ) → (k : ℕ) × (value i (variable n RefSort) ≡ element (RefValue k))

module _ (means : Meaning) (p : Program) (i : Interpretation) where
  -- the state stands for this one, which holds what the chunks have and nothing else
  pub record Matches (scope : Scope) (s : rules.State) (c : run.State) : Type 0 where
    pub stands : Stands means (fields_world p) scope i s c
    pub exact : Exact i s.heap c.holdings
    pub old_exact : Exact i s.old c.old_holdings

  module _ (at : Place) (code : Code) where
    -- the place of a part is the one that is exposed, or lies in what was brought in there
    abbrev pub IsAt : rules.State → Place → Type 0
    IsAt s x = placed s x ≡ at

    -- Expressions

    abbrev pub Misfits : rules.State → run.State → Expr → Type 0
    Misfits s c e = (x : Place) × IsAt s x × FailsToFit p c e x

    abbrev pub SomeMisfits : rules.State → run.State → Exprs → Type 0
    SomeMisfits s c es = (x : Place) × IsAt s x × Eventually (λ n. fit_all p (deeper p n) c es ≡ Err x)

    -- the expression has the value of the term
    pub record Evaluates (scope : Scope) (s : rules.State) (c : run.State) (on : Giving) (e : Expr) (t : ValueType) : Type 0 where
      pub state : rules.State
      pub term : Term
      pub result : Value
      pub later : s.next ≤ state.next
      pub at_is : state.at ≡ s.at
      pub matches : Matches scope state c
      pub good : Good means state.next i term (sort_of_type t)
      pub value_is : value i term ≡ element result
      pub typed : type_of result ≡ t
      pub fits : Fits p c e result
      pub exposed : Exposed i at code (on term state)

    pub record EvaluatesAll (scope : Scope) (s : rules.State) (c : run.State) (on : GivingAll) (es : Exprs) (ds : List Declaration) : Type 0 where
      pub state : rules.State
      pub terms : List Term
      pub results : List Value
      pub later : s.next ≤ state.next
      pub at_is : state.at ≡ s.at
      pub matches : Matches scope state c
      pub each : TermsStand means (fields_world p) state.next i ds terms results
      pub fits : Eventually (λ n. fit_all p (deeper p n) c es ≡ Ok results)
      pub exposed : Exposed i at code (on terms state)

    abbrev pub EvalReal : Outer → Expr → Type 0
    EvalReal o e =
        (scope : Scope) (t : ValueType) → HasType p scope e t → InFields e → (s : rules.State) (c : run.State) (on : Giving) → Matches scope s c → FollowsWith on →
        Exposed i at code (eval p o e s on) → Misfits s c e ⊎ Evaluates scope s c on e t

    abbrev pub EvalsReal : Outer → Exprs → Type 0
    EvalsReal o es =
        (scope : Scope) (ds : List Declaration) → HaveTypes p scope es ds → AreInFields es → (s : rules.State) (c : run.State) (on : GivingAll) → Matches scope s c → FollowsAll on →
        Exposed i at code (evals p o es s on) → SomeMisfits s c es ⊎ EvaluatesAll scope s c on es ds

    -- Taking: an assertion is read in the state c, and taken from the rest that is held

    abbrev pub Mistakes : rules.State → run.State → Assertion → Fraction → run.Holdings → Type 0
    Mistakes s c a q rest = (x : Place) × IsAt s x × Eventually (λ n. take_by p n c q a rest ≡ Err x)

    pub record Takes (scope : Scope) (s : rules.State) (c : run.State) (rest : run.Holdings) (on : Giving) (a : Assertion) (q : Fraction) : Type 0 where
      pub state : rules.State
      pub snapshot : Term
      pub left : run.Holdings
      pub later : s.next ≤ state.next
      pub at_is : state.at ≡ s.at
      pub matches : Matches scope state (run.with_holdings left c)
      pub takes : Eventually (λ n. take_by p n c q a rest ≡ Ok left)
      pub exposed : Exposed i at code (on snapshot state)

    abbrev pub TakeReal : Outer → Assertion → Type 0
    TakeReal o a =
        (scope : Scope) (q : Fraction) → IsTyped p scope a → IsOfFields a → (s : rules.State) (c : run.State) (rest : run.Holdings) (x : Context) (scale : Term) (start : rules.Heap) (on : Giving) →
        x.builds ≡ false → ScaleStands means (fields_world p) s.next i scale q → Matches scope (rules.with_heap start s) c → Matches scope s (run.with_holdings rest c) → FollowsWith on →
        Exposed i at code (consume p o a x scale start s on) → Mistakes s c a q rest ⊎ Takes scope s c rest on a q

    -- What changes the state: it ends with this store, and leads there for each heap behind

    pub record Reaches (scope : Scope) (first : run.State → Outcomes) (s : rules.State) (c : run.State) (x : run.Store) (on : Going) : Type 0 where
      pub state : rules.State
      pub heap : run.Heap
      pub holdings : run.Holdings
      pub later : s.next ≤ state.next
      pub at_is : state.at ≡ s.at
      pub matches : Matches scope state (become x heap holdings c)
      pub leads : Leads p first c (become x heap holdings c)
      pub exposed : Exposed i at code (on state)

    -- Giving

    abbrev pub GiveReal : Outer → Assertion → Type 0
    GiveReal o a =
        (scope : Scope) (q : Fraction) → IsTyped p scope a → IsOfFields a → (s : rules.State) (c : run.State) (scale : Term) (on : Going) →
        ScaleStands means (fields_world p) s.next i scale q → Matches scope s c → Follows on → Exposed i at code (produce p o a scale None s on) →
        ((x : Place) × IsAt s x × FailsFrom p (give p (IsConsistent p) q a) c x) ⊎ Reaches scope (give p (IsConsistent p) q a) s c c.store on

    -- Statements and blocks: no part of another member is around them

    abbrev pub ExecReal : Outer → Stmt → Type 0
    ExecReal o st =
        (scope : Scope) → IsTypedStmt p scope st → AreOnce scope → (s : rules.State) (c : run.State) (on : Going) → s.at ≡ None → Matches scope s c → Follows on →
        Exposed i at code (exec p o st s on) → FailsFrom p (meaning.run p st) c at ⊎ ((x : run.Store) × Reaches (scope_after p st scope) (meaning.run p st) s c x on)

    abbrev pub ExecAllReal : Outer → Block → Type 0
    ExecAllReal o b =
        (scope : Scope) → IsTypedBlock p scope b → AreOnce scope → (s : rules.State) (c : run.State) (on : Going) → s.at ≡ None → Matches scope s c → Follows on →
        Exposed i at code (exec_all p o b s on) → FailsFrom p (meaning.run_all p b) c at ⊎ ((x : run.Store) × Reaches (scope_after_all p b scope) (meaning.run_all p b) s c x on)
