-- Where the precondition of a function can be taken the function starts, and the application is allowed if it keeps its promise there; if
-- all functions of lower groups keep theirs. By induction over groups: what the precondition applies is of a lower group.
use Rattle.std.proofs.Common.{◌≡◌, true, List, Some}
use Rattle.vx_ast.specs.Syntax.{Name, Program, Function, function_named}
use Rattle.vx_smt_meaning.specs.declared.reply.Reply.{Reply}
use Rattle.vx_meaning.specs.Values.{Value}
use Rattle.vx_meaning.specs.States as run
use Rattle.vx_meaning.specs.States.{Heap, bind}
use Rattle.vx_meaning.specs.Group.{Reaches}
use Rattle.vx_rules.specs.Members.{depth, rules as member_rules}
use Rattle.vx_types.specs.Premises.{IsTypedProgram}
use Rattle.vx_types.specs.Closure.{InClosure}
use Rattle.vx_elements.proofs.Scopes.{joined_typed}
use Rattle.vx_sound.proofs.Evaluate.{PartsGo}
use Rattle.vx_sound_preds.specs.Covered.{PredicatesPass}
use Rattle.vx_sound_preds.proofs.Speaking.{good, no_perm, speak}
use Rattle.vx_sound_preds.proofs.Functions.{asking_of, IsWalkable}
use Rattle.vx_sound_preds.proofs.FunctionWalks.{walkable}
use Rattle.vx_sound_preds.proofs.Unfolds.{AppliesBy, parts_go}
use Rattle.vx_sound_funcs.specs.Told.{precondition_of}
use Rattle.vx_sound_funcs.specs.Firm.{GoodFunctions}
use Rattle.vx_sound_funcs.specs.Laws.{EachPart, IsFirmAt, AreFirmAt}
use Rattle.vx_sound_funcs.proofs.TypedFunctions.{requirements_now}
use Rattle.vx_law.specs.Means.{Means}
use Rattle.vx_law.specs.Walks.{FunctionsPass}
use Rattle.vx_law.specs.Allowed.{IsAllowedWhereTaken, LowerKeep, TakenIsAllowed}
use Rattle.vx_law.proofs.Allowed.{allowed_where_taken}
use Rattle.vx_law.proofs.Measures.{groups_induce}
use Rattle.vx_law.proofs.Programs.{spoken}
use Rattle.vx_law.proofs.Started.{world}
use Rattle.vx_law.proofs.Lower.{IsLower, keep_on, asked_is_lower, lower_closed}
use Rattle.vx_law.proofs.Parts.{parts_firm}
use Rattle.vx_law.proofs.Tells.{applies_go}

module _ (p : Program) (x : Name) (replies : Name → List Reply) (typed : IsTypedProgram p) (functions : GoodFunctions p) (predicates : PredicatesPass p x replies) where
  -- Where the precondition of f is given, functions of lower groups may be applied

  module _ (f : Name) (lower : LowerKeep p x f) (taken : (f' : Name) (g' : Function) → IsLower p x f f' → function_named p f' ≡ Some g' → IsAllowedWhereTaken p x f' g') where
    pub asks_go : AppliesBy (Means p x) p (good p x typed) (InClosure p x) (no_perm p x typed) true (asking_of (IsLower p x f)) (speak p x typed)
    asks_go = applies_go p x replies typed functions predicates (asking_of (IsLower p x f)) (λ y l. l.0) (λ f' g' y d l named' s named. lower_closed p x typed f f' g' l named' y s) taken
        (λ scope i s c f' g' ts vs term a is t starts store heap. lower f' g' a.applied.0 a.is a.applied.1 a.applied.2 t starts) (λ scope i s c f' g' ts vs term a. tt)

    pub asks_parts : PartsGo (Means p x) (world (Means p x) p (good p x typed) (InClosure p x) (no_perm p x typed) (IsLower p x f)) (member_rules p)
    unfolding member_rules
    asks_parts = parts_go (Means p x) p (good p x typed) (InClosure p x) (no_perm p x typed) true (asking_of (IsLower p x f)) (speak p x typed) asks_go (depth p)

  module _ (pass : FunctionsPass p x replies) where
    abbrev Claim : Name → Function → Type 0
    Claim f g = InClosure p x f → LowerKeep p x f → IsAllowedWhereTaken p x f g

    module _ (f : Name) (g : Function) (named : function_named p f ≡ Some g) (of_lower : (f' : Name) (g' : Function) → function_named p f' ≡ Some g' → Reaches p f f' → (Reaches p f' f → ⊥) → Claim f' g') (leads : InClosure p x f) (lower : LowerKeep p x f) where
      taken_below : (f' : Name) (g' : Function) → IsLower p x f f' → function_named p f' ≡ Some g' → IsAllowedWhereTaken p x f' g'
      taken_below f' g' l named' = of_lower f' g' named' l.1 l.2 l.0 (keep_on p x f f' l.1 lower)

      says : IsWalkable p (InClosure p x) (IsLower p x f) (InClosure p x) g
      says = walkable p x typed f g leads named (functions.asks f g named) (IsLower p x f) (InClosure p x) (λ y d s named' leads'. asked_is_lower p x typed f g leads named y s) (λ y d s named' leads'. leads')

      firm_parts : (vs : List Value) → run.HaveTypes g.parameters vs → (h : Heap) → EachPart (IsFirmAt p x (bind g.parameters vs) h) (AreFirmAt p x (bind g.parameters vs) h) (precondition_of g)
      firm_parts vs types h =
          let spoken_of = spoken p x typed functions f g leads named in
          parts_firm p x typed g.parameters vs types h (precondition_of g) (joined_typed p g.parameters g.place g.requires (let y = typed.functions f g named in y.requires)) (requirements_now p typed f g named) spoken_of.requires
          (λ y s d named'.
          let l = asked_is_lower p x typed f g leads named y s in
          ((λ ws is t starts store heap. lower y d l.0 named' l.1 l.2 t starts), taken_below y d l named'))

      allowed : IsAllowedWhereTaken p x f g
      allowed = allowed_where_taken p x replies typed functions pass f g leads named (IsLower p x f) (let y = says in y.asks) (asks_parts f lower taken_below) firm_parts

    pub taken_is_allowed : TakenIsAllowed p x
    taken_is_allowed f g leads named lower = groups_induce p Claim (λ f g named of_lower leads lower. allowed f g named of_lower leads lower) f g named leads lower
