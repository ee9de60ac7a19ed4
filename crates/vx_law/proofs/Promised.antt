-- Where a function starts, it keeps its promise if its body fits, its postcondition fits and is true, and each application that is
-- evaluated with them keeps its own.
use Rattle.std.proofs.Common.{◌≡◌, true, List, [], ◌∷◌, ◌++◌, Some, refl, sym, ◌∙◌, ap, subst, le_refl}
use Rattle.vx_ast.specs.declared.ValueType.TheVariants as type
use Rattle.vx_ast.specs.Syntax.{Name, result_name, Declaration, Program, Function, function_named, Expr, NoMore, More, conjoined}
use Rattle.vx_meaning.specs.Values.{Value, BoolValue, type_of}
use Rattle.vx_meaning.specs.States as run
use Rattle.vx_meaning.specs.States.{State, Store, bind}
use Rattle.vx_meaning.specs.Evaluate.{applications, values, value_by}
use Rattle.vx_meaning.specs.Consistent.{IsConsistent}
use Rattle.vx_meaning.specs.Fits.{Fits}
use Rattle.vx_meaning.specs.Fails.{Application, Evaluates, FunctionStarts, with_result}
use Rattle.vx_types.specs.Typing.{Scope, more, no_more}
use Rattle.vx_types.specs.Premises.{IsTypedProgram}
use Rattle.vx_types.specs.Closure.{InClosure}
use Rattle.vx_sound_preds.specs.Covered.{IsStocked}
use Rattle.vx_sound_preds.proofs.Fitting.{step}
use Rattle.vx_sound_preds.proofs.Types.{found_type}
use Rattle.vx_sound_preds.proofs.Holding.{consistent}
use Rattle.vx_sound_preds.proofs.Speaking.{good}
use Rattle.vx_sound_funcs.specs.Firm.{GoodFunctions}
use Rattle.vx_sound_funcs.proofs.TypedFunctions.{functions_speak_now}
use Rattle.vx_sound.proofs.Conjoined.{conjoined_typed}
use Rattle.vx_law.specs.Walks.{Keeps}
use Rattle.vx_law.proofs.Programs.{spoken}
use Rattle.vx_sound_preds.proofs.TypedValues.{have_types, applications_typed}
use Rattle.vx_sound_funcs.proofs.Stocked.{stocked}
use Rattle.vx_law.proofs.Deeper.{fits_value}
use Rattle.vx_law.proofs.Firmly.{AreTyped, Kept, fits_firmly}
use Rattle.vx_law.proofs.Starting.{StartKnown, start_known}

abbrev pub result_of : Function → Declaration
result_of g = record { name = result_name; of = g.of }

-- parameters with a result
bound_more : (ds : List Declaration) (vs : List Value) (d : Declaration) (v : Value) → run.HaveTypes ds vs → type_of v ≡ d.of → (bind ds vs ++ (d.name, v) ∷ [] ≡ bind (ds ++ d ∷ []) (vs ++ v ∷ [])) × run.HaveTypes (ds ++ d ∷ []) (vs ++ v ∷ [])
bound_more [] [] d v h e = (refl, (e, tt))
bound_more (a ∷ ds) (w ∷ vs) d v h e = let k = bound_more ds vs d v h.1 e in (ap (λ (xs : Store). (a.name, w) ∷ xs) k.0, (h.0, k.1))
bound_more [] (w ∷ vs) d v h e = absurd h
bound_more (a ∷ ds) [] d v h e = absurd h

pub bound_typed : (ds : List Declaration) (vs : List Value) (xs : Store) → run.HaveTypes ds vs → xs ≡ bind ds vs → AreTyped ds xs
bound_typed ds vs xs types is = subst (AreTyped ds) (sym is) (λ y t v a b. found_type y t ds vs v types a b)

module _ (p : Program) (x : Name) (typed : IsTypedProgram p) (functions : GoodFunctions p) where
  -- each application that is evaluated with e keeps its promise, and is allowed where it is taken
  abbrev pub EvaluatedKeep : State → Expr → Type 0
  EvaluatedKeep s e = (a : Application) → Evaluates p s e a → Kept p x typed s.heap a

  module _ (f : Name) (g : Function) (leads : InClosure p x f) (named : function_named p f ≡ Some g) (s : State) (starts : FunctionStarts p g s) (v : Value) (fits : Fits p s g.body v) where
    known : StartKnown p x g s
    known = start_known p x typed functions f g leads named s starts

    can : IsConsistent p s
    can = consistent p (good p x typed) (InClosure p x) true s refl known.holds

    stock : IsStocked p x s.holdings
    stock = stocked p x true s.heap s.holdings known.holds

    -- the body's value has the function's type
    value_typed : type_of v ≡ g.of
    value_typed =
        let n = fits.0 in
        let at : value_by p n s g.body ≡ Some v = fits_value p n s g.body v (fits.1 fits.0 (le_refl fits.0)) in
        let both : values p (applications p n) s (More g.body NoMore) ≡ Some (v ∷ []) = step (λ (w : Value). Some (w ∷ [])) v at in
        let t = typed.functions f g named in
        let types = have_types p typed.functions n (applications_typed p typed.functions n) s (bound_typed g.parameters known.arguments s.store known.types known.store) {fs = result_of g ∷ []} (more t.body no_more) (v ∷ []) both in
        types.0

    -- the variables have values of their types, there and with the result
    pub store_typed : AreTyped g.parameters s.store
    store_typed = bound_typed g.parameters known.arguments s.store known.types known.store

    pub result_typed : AreTyped (g.parameters ++ result_of g ∷ []) (s.store ++ (result_name, v) ∷ [])
    result_typed =
        let longer = bound_more g.parameters known.arguments (result_of g) v known.types value_typed in
        bound_typed (g.parameters ++ result_of g ∷ []) (known.arguments ++ v ∷ []) (s.store ++ (result_name, v) ∷ []) longer.1 (ap (λ (xs : Store). xs ++ (result_name, v) ∷ []) known.store ∙ longer.0)

    pub keeps_where_fits : EvaluatedKeep s g.body → Fits p (with_result v s) (conjoined g.place g.ensures) (BoolValue true) → EvaluatedKeep (with_result v s) (conjoined g.place g.ensures) → Keeps p g s
    keeps_where_fits body promise ensures =
        let t = typed.functions f g named in
        let sp = spoken p x typed functions f g leads named in
        let scope : Scope = g.parameters ++ result_of g ∷ [] in
        record {
          value = v;
          fits = fits_firmly p x typed g.parameters s store_typed can stock g.body g.of t.body (functions_speak_now p typed f g named) sp.body v fits body;
          promise = fits_firmly p x typed scope (with_result v s) result_typed can_with stock (conjoined g.place g.ensures) type.Bool
              (conjoined_typed p scope g.place g.ensures t.ensures) (functions.promises_now f g named) sp.ensures (BoolValue true) promise ensures;
        }
      where
        can_with : IsConsistent p (with_result v s)
        can_with = consistent p (good p x typed) (InClosure p x) true (with_result v s) refl known.holds
