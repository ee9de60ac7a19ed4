-- A function's symbol means one element, and that of an application has the function's type.
use Rattle.std.proofs.Common.{◌≡◌, ℕ, suc, Bool, true, false, cond, List, [], ◌∷◌, Option, Some, None, refl, sym, ◌∙◌, ap, ap₂, subst}
use Rattle.vx_ast.specs.declared.ValueType.{ValueType}
use Rattle.vx_ast.specs.declared.ValueType.TheVariants.{Int, Bool as Truths, Ref, Perm}
use Rattle.vx_ast.specs.Syntax.{Name, same_name, Kind, IsField, IsPredicate, IsFunction, IsMethod, Declaration, Program, Function, function_in, function_named, member_named}
use Rattle.vx_meaning.specs.Values.{Value, IntValue, BoolValue, RefValue, PermValue, type_of}
use Rattle.vx_meaning.specs.States as run
use Rattle.vx_terms.specs.Interpretations.{Element, IntElement, BoolElement, RealElement, TreeElement, Tree, IntLeaf, BoolLeaf, RefLeaf, PermLeaf}
use Rattle.vx_rules.specs.Groups.{is_function, function_number}
use Rattle.vx_types.specs.Typing.{HaveNoPerm}
use Rattle.vx_types.specs.Premises.{IsTypedProgram}
use Rattle.vx_types.specs.Closure.{InClosure}
use Rattle.vx_elements.proofs.Elements.{element}
use Rattle.vx_elements.proofs.Lists.{name_is}
use Rattle.vx_sound.specs.Snapshots.{leaf}
use Rattle.vx_sound_preds.specs.Bodies.{GoodBodies}
use Rattle.vx_sound_preds.proofs.Holding.{typed_rigid, consistent}
use Rattle.vx_sound_preds.specs.Asking.{IsAskingTreeOf}
use Rattle.vx_sound_funcs.specs.Told.{precondition_of}
use Rattle.vx_sound_funcs.specs.Laws.{ApplicationsAgree}
use Rattle.vx_sound_funcs.proofs.Fuel.{one_application}
use Rattle.vx_sound_funcs.proofs.Stocked.{stocked}
use Rattle.vx_law.specs.Means.{element_of, elements_of, IsApplied, Means, SymbolsMeanOne}
use Rattle.vx_law.proofs.Symbols.{elements}
use Rattle.vx_sound_preds.proofs.TypedValues.{applications_typed}
use Rattle.vx_law.proofs.Applied.{Allowed}

-- Values, their elements and their leaves

pub element_same : (v : Value) → element_of v ≡ element v
element_same (IntValue z) = refl
element_same (BoolValue b) = refl
element_same (RefValue r) = refl
element_same (PermValue a) = refl

elements_same : (vs : List Value) → elements_of vs ≡ elements vs
elements_same [] = refl
elements_same (v ∷ vs) = ap₂ (λ (e : Element) (es : List Element). e ∷ es) (element_same v) (elements_same vs)

value_same : (v w : Value) → ((type_of v ≡ Perm) → ⊥) → element_of v ≡ element_of w → v ≡ w
value_same (IntValue z) (IntValue y) n e = cc
value_same (IntValue z) (BoolValue y) n e = cc
value_same (IntValue z) (RefValue y) n e = cc
value_same (IntValue z) (PermValue y) n e = cc
value_same (BoolValue z) (IntValue y) n e = cc
value_same (BoolValue z) (BoolValue y) n e = cc
value_same (BoolValue z) (RefValue y) n e = cc
value_same (BoolValue z) (PermValue y) n e = cc
value_same (RefValue z) (IntValue y) n e = cc
value_same (RefValue z) (BoolValue y) n e = cc
value_same (RefValue z) (RefValue y) n e = cc
value_same (RefValue z) (PermValue y) n e = cc
value_same (PermValue z) w n e = absurd (n refl)

heads : {A : Type 0} {x y : A} {xs ys : List A} → x ∷ xs ≡ y ∷ ys → (x ≡ y) × (xs ≡ ys)
heads {x = x} {y = y} {xs = xs} {ys = ys} e = (cc, cc)

arguments_same : (ds : List Declaration) (vs ws : List Value) → HaveNoPerm ds → run.HaveTypes ds vs → run.HaveTypes ds ws → elements_of vs ≡ elements_of ws → vs ≡ ws
arguments_same [] [] [] k h g e = refl
arguments_same [] [] (w ∷ ws) k h g e = absurd g
arguments_same [] (v ∷ vs) ws k h g e = absurd h
arguments_same (d ∷ ds) [] ws k h g e = absurd h
arguments_same (d ∷ ds) (v ∷ vs) [] k h g e = absurd g
arguments_same (d ∷ ds) (v ∷ vs) (w ∷ ws) k h g e =
    let x = heads e in
    ap₂ (λ (y : Value) (ys : List Value). y ∷ ys) (value_same v w (λ z. k.0 (sym h.0 ∙ z)) x.0) (arguments_same ds vs ws k.1 h.1 g.1 x.1)

-- what a leaf tells of its value
of_leaf : Tree → Element
of_leaf (IntLeaf z) = IntElement z
of_leaf (BoolLeaf b) = BoolElement b
of_leaf (RefLeaf r) = TreeElement (RefLeaf r)
of_leaf (PermLeaf a) = RealElement a
of_leaf t = TreeElement t

leaf_tells : (v : Value) → of_leaf (leaf v) ≡ element_of v
unfolding of_leaf
leaf_tells (IntValue z) = refl
leaf_tells (BoolValue b) = refl
leaf_tells (RefValue r) = refl
leaf_tells (PermValue a) = refl

type_of_leaf : Tree → ValueType
type_of_leaf (BoolLeaf b) = Truths
type_of_leaf (RefLeaf r) = Ref
type_of_leaf (PermLeaf a) = Perm
type_of_leaf t = Int

leaf_type : (v : Value) → type_of_leaf (leaf v) ≡ type_of v
unfolding type_of_leaf
leaf_type (IntValue z) = refl
leaf_type (BoolValue b) = refl
leaf_type (RefValue r) = refl
leaf_type (PermValue a) = refl

-- A function's number is its own

not_zero : (n : ℕ) → suc n ≡ 0 → ⊥
not_zero n e = cc

next_same : (m n : ℕ) → suc m ≡ suc n → m ≡ n
next_same m n e = cc

no_function : (g : Function) → None ≡ Some g → ⊥
no_function g e = cc

not_so : (b : Bool) → b ≡ true → b ≡ false → ⊥
not_so b e f = cc

kind_is_function : (k : Kind) (g : Function) → function_in (Some k) ≡ Some g → is_function k ≡ true
kind_is_function (IsFunction f) g e = refl
kind_is_function (IsField t) g e = cc
kind_is_function (IsPredicate d) g e = cc
kind_is_function (IsMethod m) g e = cc

numbers_apart : (p : Program) (f g : Name) (d e : Function) → function_named p f ≡ Some d → function_named p g ≡ Some e → function_number p f ≡ function_number p g → f ≡ g
numbers_apart [] f g d e a b n = absurd (no_function d a)
numbers_apart (m ∷ ms) f g d e a b n = go (same_name f m.name) refl (same_name g m.name) refl (is_function m.kind) refl a b n (numbers_apart ms f g d e)
  where
    go : (x : Bool) → same_name f m.name ≡ x → (y : Bool) → same_name g m.name ≡ y → (z : Bool) → is_function m.kind ≡ z →
        function_in (elim x as (λ b. Option Kind) [ true ↦ Some m.kind | false ↦ member_named ms f ]) ≡ Some d → function_in (elim y as (λ b. Option Kind) [ true ↦ Some m.kind | false ↦ member_named ms g ]) ≡ Some e →
        cond x 0 (cond z (suc (function_number ms f)) (function_number ms f)) ≡ cond y 0 (cond z (suc (function_number ms g)) (function_number ms g)) →
        (function_named ms f ≡ Some d → function_named ms g ≡ Some e → function_number ms f ≡ function_number ms g → f ≡ g) → f ≡ g
    go true h true k z l a b n r = name_is f m.name h ∙ sym (name_is g m.name k)
    go true h false k true l a b n r = absurd (not_zero (function_number ms g) (sym n))
    go true h false k false l a b n r = absurd (not_so (is_function m.kind) (kind_is_function m.kind d a) l)
    go false h true k true l a b n r = absurd (not_zero (function_number ms f) n)
    go false h true k false l a b n r = absurd (not_so (is_function m.kind) (kind_is_function m.kind e b) l)
    go false h false k true l a b n r = r a b (next_same (function_number ms f) (function_number ms g) n)
    go false h false k false l a b n r = r a b n

same_function : (d g : Function) → Some d ≡ Some g → d ≡ g
same_function d g e = cc

tree_same : (t u : Tree) → TreeElement t ≡ TreeElement u → t ≡ u
tree_same t u e = cc

module _ (p : Program) (x : Name) (typed : IsTypedProgram p) (agree : ApplicationsAgree p x) where
  -- two applications of one function at the same arguments and with the same tree
  one_element : (f : Name) (g : Function) (vs : List Value) (s u : run.State) (t : Tree) (v w : Value) → IsApplied p x f g vs s t v → IsApplied p x f g vs u t w → element_of v ≡ element_of w
  one_element f g vs s u t v w a b =
      let ri = typed_rigid g.parameters vs (let y = typed.functions f g a.named in y.parameters) a.types in
      let one = agree f g a.named vs ri a.fuel s u v t a.consistent a.stocked a.value a.tree b.tree in
      let two = agree f g a.named vs ri b.fuel u u w t b.consistent b.stocked b.value b.tree b.tree in
      let same = one_application p f vs u one.0 two.0 one.1 two.1 in
      sym (leaf_tells v) ∙ ap of_leaf (one.2 ∙ ap leaf same ∙ sym two.2) ∙ leaf_tells w

  pub one_meaning : SymbolsMeanOne p x
  one_meaning k es d e a b = sym a.gives ∙ one_element a.name a.function a.arguments a.state b.state a.tree a.result b.result a.applied there ∙ b.gives
    where
      name_same : b.name ≡ a.name
      name_same = numbers_apart p b.name a.name b.function a.function b.applied.named a.applied.named (b.number ∙ sym a.number)

      function_same : b.function ≡ a.function
      function_same = same_function b.function a.function (sym b.applied.named ∙ ap (function_named p) name_same ∙ a.applied.named)

      parts : (TreeElement b.tree ≡ TreeElement a.tree) × (elements_of b.arguments ≡ elements_of a.arguments)
      parts = heads (b.takes ∙ sym a.takes)

      arguments_are : b.arguments ≡ a.arguments
      arguments_are = arguments_same a.function.parameters b.arguments a.arguments (let y = typed.functions a.name a.function a.applied.named in y.parameters) (subst (λ (g : Function). run.HaveTypes g.parameters b.arguments) function_same b.applied.types) a.applied.types parts.1

      there : IsApplied p x a.name a.function a.arguments b.state a.tree b.result
      there =
          subst (λ t. IsApplied p x a.name a.function a.arguments b.state t b.result) (tree_same b.tree a.tree parts.0)
          (subst (λ vs. IsApplied p x a.name a.function vs b.state b.tree b.result) arguments_are
          (subst (λ g. IsApplied p x a.name g b.arguments b.state b.tree b.result) function_same
          (subst (λ f. IsApplied p x f b.function b.arguments b.state b.tree b.result) name_same b.applied)))

  -- the value of an application has its function's type
  pub one_type : (f : Name) (g : Function) (vs : List Value) (s : run.State) (t : Tree) (v : Value) → IsApplied p x f g vs s t v → type_of v ≡ g.of
  one_type f g vs s t v a =
      let ri = typed_rigid g.parameters vs (let y = typed.functions f g a.named in y.parameters) a.types in
      let one = agree f g a.named vs ri a.fuel s s v t a.consistent a.stocked a.value a.tree a.tree in
      sym (leaf_type v) ∙ ap type_of_leaf one.2 ∙ leaf_type one.0 ∙ applications_typed p typed.functions one.1.0 f g vs s one.0 a.named a.types one.1.1

  module _ (good : GoodBodies p) (f : Name) (g : Function) (vs : List Value) (v : Value) (c : run.State) (tree : Tree) (a : Allowed p (InClosure p x) f g vs v c) (there : IsAskingTreeOf p (run.with_store (run.bind g.parameters vs) c) (precondition_of g) tree) where
    pub is_applied : IsApplied p x f g vs c tree v
    is_applied = record {
      leads = a.held;
      named = a.named;
      types = a.types;
      consistent = consistent p good (InClosure p x) true c refl a.holds;
      stocked = stocked p x true c.heap c.holdings a.holds;
      tree = there;
      fuel = a.fuel;
      value = a.is;
    }

    pub made : Means p x (function_number p f) (TreeElement tree ∷ elements vs) (element v)
    made = record {
      name = f;
      function = g;
      arguments = vs;
      state = c;
      tree = tree;
      result = v;
      number = refl;
      applied = is_applied;
      takes = ap (λ es. TreeElement tree ∷ es) (elements_same vs);
      gives = element_same v;
    }
