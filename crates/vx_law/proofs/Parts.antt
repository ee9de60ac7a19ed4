-- The parts of a precondition fit firmly where they fit, if what it applies keeps its promises and is allowed where it is taken.
use Rattle.std.proofs.Common.{◌≡◌, ◌++◌, Some, sym, subst}
use Rattle.std.specs.Prelude.{List}
use Rattle.vx_ast.specs.declared.ValueType.{ValueType}
use Rattle.vx_ast.specs.Syntax.{Name, Declaration, Program, Function, function_named, Expr, Exprs, Assertion, Pure, Points, Both, Implied, Chosen}
use Rattle.vx_ast.specs.Syntax as syntax
use Rattle.vx_ast.specs.Mentions.{mentioned, mentioned_in}
use Rattle.vx_ast.specs.Apart.{Stands, entered_by}
use Rattle.vx_types.specs.Typing.{HasType, HaveTypes, IsTyped}
use Rattle.vx_types.specs.Premises.{IsTypedProgram}
use Rattle.vx_types.specs.Closure.{InClosure}
use Rattle.vx_types.specs.Now.{IsOfNow, AreOfNow, SaysNow}
use Rattle.vx_meaning.specs.Values.{Value}
use Rattle.vx_meaning.specs.States as run
use Rattle.vx_meaning.specs.States.{State, Heap, bind}
use Rattle.vx_meaning.specs.Fails.{Application, evaluated}
use Rattle.vx_sound_preds.proofs.Typed.{on_left, on_right}
use Rattle.vx_sound_funcs.specs.Laws.{EachPart, IsFirmAt, AreFirmAt}
use Rattle.vx_live.proofs.Speaks.{Speaks, AllSpeak, SpeaksOf}
use Rattle.vx_law.specs.Walks.{KeepsAt}
use Rattle.vx_law.specs.Allowed.{IsAllowedWhereTaken}
use Rattle.vx_law.proofs.Firmly.{Kept, fits_firmly, all_fit_firmly}
use Rattle.vx_law.proofs.Promised.{bound_typed}
use Rattle.vx_law.proofs.FromBelow.{in_contained, evaluated_mentioned, all_mentioned}

module _ (p : Program) (x : Name) (typed : IsTypedProgram p) (ds : List Declaration) (vs : List Value) (types : run.HaveTypes ds vs) (h : Heap) where
  -- what is said of a function that is applied
  abbrev pub IsKept : Name → Type 0
  IsKept y = (g : Function) → function_named p y ≡ Some g → ((ws : List Value) → KeepsAt p y g ws h) × IsAllowedWhereTaken p x y g

  abbrev pub AreKept : List Name → Type 0
  AreKept ys = (y : Name) → Stands y ys → IsKept y

  lefts : (xs ys : List Name) → AreKept (xs ++ ys) → AreKept xs
  lefts xs ys k y s = k y (on_left y xs ys s)

  rights : (xs ys : List Name) → AreKept (xs ++ ys) → AreKept ys
  rights xs ys k y s = k y (on_right y xs ys s)

  kept_there : (s : State) → s.heap ≡ h → (a : Application) → IsKept a.0 → Kept p x typed s.heap a
  kept_there s heap a k g named = let m = k g named in (subst (λ (h : Heap). KeepsAt p a.0 g a.1 h) (sym heap) (m.0 a.1), m.1)

  expression_firm : (e : Expr) {t : ValueType} → HasType p ds e t → IsOfNow e → Speaks (InClosure p x) e → AreKept (mentioned e) → IsFirmAt p x (bind ds vs) h e
  expression_firm e {t = t} ty now sp k s store heap can stock v fits =
      fits_firmly p x typed ds s (bound_typed ds vs s.store types store) can stock e t ty now sp v fits
      (λ a ev. kept_there s heap a (k a.0 (evaluated_mentioned p ev.0 s e a (in_contained (evaluated p ev.0 s e) a ev.1))))

  arguments_firm : (es : Exprs) (fs : List Declaration) → HaveTypes p ds es fs → AreOfNow es → AllSpeak (InClosure p x) es → AreKept (mentioned_in es) → AreFirmAt p x (bind ds vs) h es
  arguments_firm es fs ty now sp k s store heap can stock ws fits =
      all_fit_firmly p x typed ds s (bound_typed ds vs s.store types store) can stock es fs ty now sp ws fits
      (λ n a i. kept_there s heap a (k a.0 (all_mentioned p n s es a i)))

  pub parts_firm : (a : Assertion) → IsTyped p ds a → SaysNow a → SpeaksOf (InClosure p x) a → AreKept (entered_by a) → EachPart (IsFirmAt p x (bind ds vs) h) (AreFirmAt p x (bind ds vs) h) a
  parts_firm (Pure e) ty now sp k = expression_firm e ty now sp k
  parts_firm (Points at e f share) ty now sp k = (expression_firm e ty.0 now.0 sp.0 (lefts (mentioned e) (mentioned share) k), expression_firm share ty.2 now.1 sp.1 (rights (mentioned e) (mentioned share) k))
  parts_firm (syntax.Instance at i es share) ty now sp k =
      (arguments_firm es ty.0.0.parameters ty.0.2 now.0 sp.1 (lefts (mentioned_in es) (mentioned share) k), expression_firm share ty.1 now.1 sp.2 (rights (mentioned_in es) (mentioned share) k))
  parts_firm (Both a b) ty now sp k = (parts_firm a ty.0 now.0 sp.0 (lefts (entered_by a) (entered_by b) k), parts_firm b ty.1 now.1 sp.1 (rights (entered_by a) (entered_by b) k))
  parts_firm (Implied c a) ty now sp k = (expression_firm c ty.0 now.0 sp.0 (lefts (mentioned c) (entered_by a) k), parts_firm a ty.1 now.1 sp.1 (rights (mentioned c) (entered_by a) k))
  parts_firm (Chosen c a b) ty now sp k =
      let first = lefts (mentioned c ++ entered_by a) (entered_by b) k in (
        expression_firm c ty.0 now.0 sp.0 (lefts (mentioned c) (entered_by a) first),
        parts_firm a ty.1 now.1 sp.1 (rights (mentioned c) (entered_by a) first),
        parts_firm b ty.2 now.2 sp.2 (rights (mentioned c ++ entered_by a) (entered_by b) k),
      )
