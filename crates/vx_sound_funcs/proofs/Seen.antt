-- Values and asking trees look at the variables and the heap alone, where no function has an `old`.
use Rattle.std.proofs.Common.{◌≡◌, ℕ, zero, suc, List, ◌∷◌, Option, Some, None, refl, ◌∙◌, ap}
use Rattle.std.specs.Prelude.{option_and_then}
use Rattle.vx_ast.specs.Syntax.{Name, Program, Function, function_named, Expr, Number, Truth, Null, Part, Variable, Not, Operate, Divide, Connect, Choose, Read, Old, Apply, Unfolding, Exprs, NoMore, More, Assertion, Pure, Points, Both, Implied, Chosen}
use Rattle.vx_ast.specs.Syntax as syntax
use Rattle.vx_terms.specs.Interpretations.{Tree, Empty, Pair}
use Rattle.vx_meaning.specs.Values.{Value, IntValue, BoolValue, RefValue, PermValue, negated, operated, divided}
use Rattle.vx_meaning.specs.States.{State, Heap, Instance, lookup, value_at, bind, with_store}
use Rattle.vx_meaning.specs.Evaluate.{Applications, value, values, applications, read, choose, connected}
use Rattle.vx_sound.specs.Snapshots.{location_leaf, truth_leaf, tree_by}
use Rattle.vx_sound_preds.proofs.Looks.{Sees}
use Rattle.vx_sound_preds.specs.Asking.{Says, AllSay, HasRigidArguments, asking_tree, IsAsking}
use Rattle.vx_types.specs.Premises.{IsTypedProgram}
use Rattle.vx_sound_funcs.specs.Firm.{GoodFunctions}
use Rattle.vx_sound_funcs.specs.Laws.{AskingTreesLook}
use Rattle.vx_sound_funcs.proofs.TypedFunctions.{good_functions}

read_seen : (p : Program) (s t : State) (f : Name) → Sees s t → (v : Value) → read p t f v ≡ read p s f v
read_seen p s t f k (RefValue r) = ap (λ (h : Heap). Some (value_at p h record { receiver = r; field = f })) k.heap
read_seen p s t f k (IntValue z) = refl
read_seen p s t f k (BoolValue z) = refl
read_seen p s t f k (PermValue z) = refl

-- what is applied has one value in both states
module _ (p : Program) (ap' : Applications) (May : Name → Exprs → Type 0) (s t : State) (k : Sees s t) (same : (f : Name) (vs : List Value) → ap' f vs t ≡ ap' f vs s) where
  mutual
    value_same : (e : Expr) → Says May e → value p ap' t e ≡ value p ap' s e
    value_same (Number at n) h = refl
    value_same (Truth at b) h = refl
    value_same (Null at) h = refl
    value_same (Part at n m) h = refl
    value_same (Variable at x) h = ap (lookup x) k.store
    value_same (Not at e) h = ap (option_and_then negated) (value_same e h)
    value_same (Operate at op a b) h = λ i. option_and_then (λ v. option_and_then (λ w. operated op v w) (value_same b h.1 i)) (value_same a h.0 i)
    value_same (Divide at op a b) h = λ i. option_and_then (λ v. option_and_then (λ w. divided op v w) (value_same b h.1 i)) (value_same a h.0 i)
    value_same (Connect at c a b) h = λ i. option_and_then (λ v. connected c v (value_same b h.1 i)) (value_same a h.0 i)
    value_same (Choose at c a b) h = λ i. option_and_then (λ v. choose v (value_same a h.1 i) (value_same b h.2 i)) (value_same c h.0 i)
    value_same (Read at e f) h = λ i. option_and_then (λ v. read_seen p s t f k v i) (value_same e h i)
    value_same (Old at e) h = absurd h
    value_same (Apply at f es) h = λ i. option_and_then (λ vs. same f vs i) (values_same es h.1 i)
    value_same (Unfolding at i es share e) h = value_same e h.2

    values_same : (es : Exprs) → AllSay May es → values p ap' t es ≡ values p ap' s es
    values_same NoMore h = refl
    values_same (More e es) h = λ i. option_and_then (λ v. option_and_then (λ vs. Some (v ∷ vs)) (values_same es h.1 i)) (value_same e h.0 i)

module _ (p : Program) (functions : GoodFunctions p) where
  -- an application looks at the heap alone
  pub application_same : (n : ℕ) (f : Name) (vs : List Value) (s t : State) → t.heap ≡ s.heap → applications p n f vs t ≡ applications p n f vs s
  application_same zero f vs s t heap = refl
  application_same (suc n) f vs s t heap = go (function_named p f) refl (λ f vs s t heap. application_same n f vs s t heap)
    where
      on : State → Function → Option Value
      on s g = value p (applications p n) (with_store (bind g.parameters vs) s) g.body

      go : (o : Option Function) → function_named p f ≡ o → ((f : Name) (vs : List Value) (s t : State) → t.heap ≡ s.heap → applications p n f vs t ≡ applications p n f vs s) → option_and_then (on t) o ≡ option_and_then (on s) o
      go None named ih = refl
      go (Some g) named ih =
          value_same p (applications p n) (HasRigidArguments p) (with_store (bind g.parameters vs) s) (with_store (bind g.parameters vs) t) (record { store = refl; heap = heap })
          (λ f vs'. ih f vs' (with_store (bind g.parameters vs) s) (with_store (bind g.parameters vs) t) heap) g.body (functions.says f g named)

  module _ (n : ℕ) (s t : State) (k : Sees s t) where
    pub value_seen : (e : Expr) → Says (HasRigidArguments p) e → value p (applications p n) t e ≡ value p (applications p n) s e
    value_seen e h = value_same p (applications p n) (HasRigidArguments p) s t k (λ f vs. application_same n f vs s t k.heap) e h

    pub values_seen : (es : Exprs) → AllSay (HasRigidArguments p) es → values p (applications p n) t es ≡ values p (applications p n) s es
    values_seen es h = values_same p (applications p n) (HasRigidArguments p) s t k (λ f vs. application_same n f vs s t k.heap) es h

    pub asking_seen : (f : Instance → Option Tree) (a : Assertion) → IsAsking p a → asking_tree p (applications p n) f t a ≡ asking_tree p (applications p n) f s a
    asking_seen f (Pure e) h = ap (option_and_then truth_leaf) (value_seen e h)
    asking_seen f (Points at e x share) h = λ i. option_and_then (location_leaf p (k.heap i) x) (value_seen e h.0 i)
    asking_seen f (syntax.Instance at i es share) h = ap (option_and_then (λ vs. f record { predicate = i; arguments = vs })) (values_seen es h.0)
    asking_seen f (Both a b) h = λ i. option_and_then (λ t. option_and_then (λ u. Some (Pair t u)) (asking_seen f b h.1 i)) (asking_seen f a h.0 i)
    asking_seen f (Implied c a) h = λ i. option_and_then (λ v. choose v (asking_seen f a h.1 i) (Some Empty)) (value_seen c h.0 i)
    asking_seen f (Chosen c a b) h = λ i. option_and_then (λ v. choose v (asking_seen f a h.1 i) (asking_seen f b h.2 i)) (value_seen c h.0 i)

pub asking_look : (p : Program) → IsTypedProgram p → AskingTreesLook p
asking_look p typed a asks s t tree store heap here = (
  here.0,
  ap (λ (h : Heap). asking_tree p (applications p here.0) (tree_by p here.0 h) t a) heap
      ∙ asking_seen p (good_functions p typed) here.0 s t (record { store = store; heap = heap }) (tree_by p here.0 s.heap) a asks ∙ here.1,
)
