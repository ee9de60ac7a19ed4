-- One renaming of the trees that some terms mention, null's to 0: the interpretation that has references for them makes the same of these terms true.
use Rattle.std.proofs.Common.{◌≡◌, ◌⊎◌, inl, inr, ℕ, zero, suc, Bool, true, false, not, cond, ◌&&◌, ◌||◌, nat_eq, ℤ, pos, negsuc, List, [], ◌∷◌, refl, sym, ◌∙◌, ap, ap₂, subst, eq-eqb, eqb-true, true≢false}
use Rattle.std.specs.Prelude.{◌+ℤ◌, ◌-ℤ◌, ◌*ℤ◌, int_lt, int_le}
use Rattle.vx_frac.specs.Fractions.{Fraction, is_below, at_most, sum, difference, product, lowest}
use Rattle.vx_frac.proofs.Lowest.{lowest-lowest}
use Rattle.vx_meaning.specs.Values.{RefValue}
use Rattle.vx_terms.specs.Sorts.{Sort, IntSort, BoolSort, RealSort, RefSort, SnapSort, OtherSort, Symbol, Standard, Function, Variable, Named, Operator, And, Or, Implies, Equal, Less, LessEqual, Add, Subtract, Multiply, Div, Mod}
use Rattle.vx_terms.specs.Terms.{Term, Truth, Number, Part, Constant, Apply, Not, Binary, Ite, AllOf, SomeOf, Terms, NoTerms, MoreTerms}
use Rattle.vx_terms.specs.Build.{null}
use Rattle.vx_terms.specs.Interpretations.{Tree, RefLeaf, Element, IntElement, BoolElement, RealElement, TreeElement, as_int, as_bool, as_fraction, as_tree, as_sort, same_tree, same_element, Interpretation, quotient_in, remainder_in, on_numbers, operate, all_true, some_true, value, values, IsTrueIn}
use Rattle.vx_terms.proofs.Values.{tree_same}
use Rattle.vx_elements.proofs.Elements.{element}
use Rattle.vx_elements.proofs.Truth.{element_equal}
use Rattle.vx_sound.proofs.Standard.{IsStandard, start, start_standard}
use Rattle.vx_real.proofs.Matched.{HasReferences}
use Rattle.vx_real.proofs.Flat.{IsOwnSymbol, IsFlat, AreFlat}

-- where a tree stands in a list
abbrev pub position : Tree → List Tree → ℕ
position t [] = 0
position t (x ∷ xs) = cond (same_tree t x) 0 (suc (position t xs))

abbrev pub Found : Tree → List Tree → Type 0
Found t [] = ⊥
Found t (x ∷ xs) = (t ≡ x) ⊎ Found t xs

tree_element : (s t : Tree) → TreeElement s ≡ TreeElement t → s ≡ t
tree_element s t e = ap as_tree e

tree_equal : (s t : Tree) → same_tree s t ≡ true → s ≡ t
tree_equal s t e = tree_element s t (element_equal (TreeElement s) (TreeElement t) e)

one_position : (xs : List Tree) (s t : Tree) → Found s xs → Found t xs → position s xs ≡ position t xs → s ≡ t
one_position [] s t f g e = absurd f
one_position (x ∷ xs) s t f g e = go (same_tree s x) (same_tree t x) refl refl e (λ f g e. one_position xs s t f g e)
  where
    later : (u : Tree) → same_tree u x ≡ false → (u ≡ x) ⊎ Found u xs → Found u xs
    later u n (inl e) = absurd (true≢false (sym (subst (λ y. same_tree y x ≡ true) (sym e) (tree_same x)) ∙ n))
    later u n (inr h) = h

    go : (a b : Bool) → same_tree s x ≡ a → same_tree t x ≡ b → cond a 0 (suc (position s xs)) ≡ cond b 0 (suc (position t xs)) → (Found s xs → Found t xs → position s xs ≡ position t xs → s ≡ t) → s ≡ t
    go true true h k e next = tree_equal s x h ∙ sym (tree_equal t x k)
    go true false h k e next = cc
    go false true h k e next = cc
    go false false h k e next = next (later s h f) (later t k g) (less e)
      where
        less : suc (position s xs) ≡ suc (position t xs) → position s xs ≡ position t xs
        less e = cc

module _ (i : Interpretation) (trees : List Tree) where
  abbrev pub null_tree : Tree
  null_tree = as_tree (value i null)

  abbrev pub code_of : Tree → ℕ
  code_of t = position t (null_tree ∷ trees)

  abbrev pub rename : Element → Element
  rename (TreeElement t) = TreeElement (RefLeaf (code_of t))
  rename (IntElement z) = IntElement z
  rename (BoolElement b) = BoolElement b
  rename (RealElement a) = RealElement a

  -- symbols of the preamble mean what they are to
  abbrev pub renamed : Interpretation
  renamed = record { functions = λ f a es. entry f a es; quotients = i.quotients; remainders = i.remainders } where
    entry : Symbol → Sort → List Element → Element
    entry (Standard n) a es = start.functions (Standard n) a es
    entry (Function g) a es = rename (as_sort a (i.functions (Function g) a es))
    entry (Variable n) a es = rename (as_sort a (i.functions (Variable n) a es))
    entry (Named x) a es = rename (as_sort a (i.functions (Named x) a es))

  pub renamed_standard : IsStandard renamed
  renamed_standard = record { units = start_standard.units; pairs = start_standard.pairs; firsts = start_standard.firsts; seconds = start_standard.seconds; wraps = start_standard.wraps; unwraps = start_standard.unwraps }

  pub renamed_null : value renamed null ≡ element (RefValue 0)
  unfolding start
  renamed_null = refl

  pub renamed_references : HasReferences renamed
  renamed_references n = (code_of (as_tree (i.functions (Variable n) RefSort [])), refl)

  -- What it makes of elements

  bool_kept : (d : Element) → as_bool (rename d) ≡ as_bool d
  bool_kept (TreeElement t) = refl
  bool_kept (IntElement z) = refl
  bool_kept (BoolElement b) = refl
  bool_kept (RealElement a) = refl

  int_kept : (d : Element) → as_int (rename d) ≡ as_int d
  int_kept (TreeElement t) = refl
  int_kept (IntElement z) = refl
  int_kept (BoolElement b) = refl
  int_kept (RealElement a) = refl

  fraction_kept : (d : Element) → as_fraction (rename d) ≡ as_fraction d
  fraction_kept (TreeElement t) = refl
  fraction_kept (IntElement z) = refl
  fraction_kept (BoolElement b) = refl
  fraction_kept (RealElement a) = refl

  sort_kept : (a : Sort) (e : Element) → as_sort a (rename (as_sort a e)) ≡ rename (as_sort a e)
  sort_kept IntSort e = refl
  sort_kept BoolSort e = refl
  sort_kept RealSort e = ap RealElement (lowest-lowest (as_fraction e))
  sort_kept RefSort e = refl
  sort_kept SnapSort e = refl
  sort_kept (OtherSort x) e = refl

  numbers_kept : {A : Type 0} (f : ℤ → ℤ → A) (g : Fraction → Fraction → A) (d e : Element) → on_numbers f g (rename d) (rename e) ≡ on_numbers f g d e
  numbers_kept f g (RealElement a) e = ap (g a) (fraction_kept e)
  numbers_kept f g (IntElement z) e = ap (f z) (int_kept e)
  numbers_kept f g (BoolElement b) e = ap (f (pos 0)) (int_kept e)
  numbers_kept f g (TreeElement t) e = ap (f (pos 0)) (int_kept e)

  numeric_kept : (f : ℤ → ℤ → ℤ) (g : Fraction → Fraction → Fraction) (d e : Element) →
      on_numbers (λ m n. IntElement (f m n)) (λ a b. RealElement (lowest (g a b))) (rename d) (rename e) ≡ rename (on_numbers (λ m n. IntElement (f m n)) (λ a b. RealElement (lowest (g a b))) d e)
  numeric_kept f g (RealElement a) e = ap (λ x. RealElement (lowest (g a x))) (fraction_kept e)
  numeric_kept f g (IntElement z) e = ap (λ x. IntElement (f z x)) (int_kept e)
  numeric_kept f g (BoolElement b) e = ap (λ x. IntElement (f (pos 0) x)) (int_kept e)
  numeric_kept f g (TreeElement t) e = ap (λ x. IntElement (f (pos 0) x)) (int_kept e)

  quotient_kept : (n d : ℤ) → quotient_in renamed n d ≡ quotient_in i n d
  quotient_kept n (pos zero) = refl
  quotient_kept n (pos (suc d)) = refl
  quotient_kept n (negsuc d) = refl

  remainder_kept : (n d : ℤ) → remainder_in renamed n d ≡ remainder_in i n d
  remainder_kept n (pos zero) = refl
  remainder_kept n (pos (suc d)) = refl
  remainder_kept n (negsuc d) = refl

  -- its tree, if it is one, is mentioned
  abbrev pub Known : Element → Type 0
  Known (TreeElement t) = Found t (null_tree ∷ trees)
  Known _ = Unit {0}

  same_kept : (d e : Element) → Known d → Known e → same_element (rename d) (rename e) ≡ same_element d e
  same_kept (TreeElement s) (TreeElement t) h k = go (same_tree s t) refl
    where
      go : (b : Bool) → same_tree s t ≡ b → nat_eq (code_of s) (code_of t) ≡ same_tree s t
      go true e = eq-eqb (code_of s) (code_of t) (ap code_of (tree_equal s t e)) ∙ sym e
      go false e = differ (nat_eq (code_of s) (code_of t)) refl ∙ sym e
        where
          differ : (b : Bool) → nat_eq (code_of s) (code_of t) ≡ b → nat_eq (code_of s) (code_of t) ≡ false
          differ true q = absurd (true≢false (sym (subst (λ y. same_tree s y ≡ true) (one_position (null_tree ∷ trees) s t h k (eqb-true (code_of s) (code_of t) q)) (tree_same s)) ∙ e))
          differ false q = q
  same_kept (TreeElement s) (IntElement z) h k = refl
  same_kept (TreeElement s) (BoolElement b) h k = refl
  same_kept (TreeElement s) (RealElement a) h k = refl
  same_kept (IntElement z) (TreeElement t) h k = refl
  same_kept (IntElement z) (IntElement y) h k = refl
  same_kept (IntElement z) (BoolElement b) h k = refl
  same_kept (IntElement z) (RealElement a) h k = refl
  same_kept (BoolElement c) (TreeElement t) h k = refl
  same_kept (BoolElement c) (IntElement y) h k = refl
  same_kept (BoolElement c) (BoolElement b) h k = refl
  same_kept (BoolElement c) (RealElement a) h k = refl
  same_kept (RealElement c) (TreeElement t) h k = refl
  same_kept (RealElement c) (IntElement y) h k = refl
  same_kept (RealElement c) (BoolElement b) h k = refl
  same_kept (RealElement c) (RealElement a) h k = refl

  operated : (o : Operator) (d e : Element) → Known d → Known e → operate renamed o (rename d) (rename e) ≡ rename (operate i o d e)
  operated And d e h k = ap₂ (λ x y. BoolElement (cond x y false)) (bool_kept d) (bool_kept e)
  operated Or d e h k = ap₂ (λ x y. BoolElement (cond x true y)) (bool_kept d) (bool_kept e)
  operated Implies d e h k = ap₂ (λ x y. BoolElement (cond x y true)) (bool_kept d) (bool_kept e)
  operated Equal d e h k = ap BoolElement (same_kept d e h k)
  operated Less d e h k = ap BoolElement (numbers_kept int_lt is_below d e)
  operated LessEqual d e h k = ap BoolElement (numbers_kept int_le at_most d e)
  operated Add d e h k = numeric_kept ◌+ℤ◌ sum d e
  operated Subtract d e h k = numeric_kept ◌-ℤ◌ difference d e
  operated Multiply d e h k = numeric_kept ◌*ℤ◌ product d e
  operated Div d e h k = ap IntElement (ap₂ (quotient_in renamed) (int_kept d) (int_kept e) ∙ quotient_kept (as_int d) (as_int e))
  operated Mod d e h k = ap IntElement (ap₂ (remainder_in renamed) (int_kept d) (int_kept e) ∙ remainder_kept (as_int d) (as_int e))

  number_known : (f : ℤ → ℤ → ℤ) (g : Fraction → Fraction → Fraction) (d e : Element) → Known (on_numbers (λ m n. IntElement (f m n)) (λ a b. RealElement (lowest (g a b))) d e)
  number_known f g (RealElement a) e = tt
  number_known f g (IntElement z) e = tt
  number_known f g (BoolElement b) e = tt
  number_known f g (TreeElement t) e = tt

  operated_known : (o : Operator) (d e : Element) → Known (operate i o d e)
  operated_known And d e = tt
  operated_known Or d e = tt
  operated_known Implies d e = tt
  operated_known Equal d e = tt
  operated_known Less d e = tt
  operated_known LessEqual d e = tt
  operated_known Add d e = number_known ◌+ℤ◌ sum d e
  operated_known Subtract d e = number_known ◌-ℤ◌ difference d e
  operated_known Multiply d e = number_known ◌*ℤ◌ product d e
  operated_known Div d e = tt
  operated_known Mod d e = tt

  cond_known : (b : Bool) (d e : Element) → Known d → Known e → Known (cond b d e)
  cond_known true d e h k = h
  cond_known false d e h k = k

  cond_renamed : (b : Bool) (d e : Element) → cond b (rename d) (rename e) ≡ rename (cond b d e)
  cond_renamed true d e = refl
  cond_renamed false d e = refl

  -- Terms whose symbols are all mentioned

  abbrev mutual
    pub Within : Term → Type 0
    Within (Truth b) = Unit {0}
    Within (Number z) = Unit {0}
    Within (Part a) = Unit {0}
    Within (Constant f a) = Known (value i (Constant f a))
    Within (Apply f a ts) = Unit {0}
    Within (Not t) = Within t
    Within (Binary o t u) = Within t × Within u
    Within (Ite c t u) = Within c × Within t × Within u
    Within (AllOf ts) = AllWithin ts
    Within (SomeOf ts) = AllWithin ts

    pub AllWithin : Terms → Type 0
    AllWithin NoTerms = Unit {0}
    AllWithin (MoreTerms t ts) = Within t × AllWithin ts

  value_known : (t : Term) → IsFlat t → Within t → Known (value i t)
  value_known (Truth b) f w = tt
  value_known (Number z) f w = tt
  value_known (Part a) f w = tt
  value_known (Constant g a) f w = w
  value_known (Apply g a ts) f w = absurd f
  value_known (Not t) f w = tt
  value_known (Binary o t u) f w = operated_known o (value i t) (value i u)
  value_known (Ite c t u) f w = cond_known (as_bool (value i c)) (value i t) (value i u) (value_known t f.1 w.1) (value_known u f.2 w.2)
  value_known (AllOf ts) f w = tt
  value_known (SomeOf ts) f w = tt

  standard_value : (n : ℕ) (a : Sort) → n ≡ 0 → a ≡ RefSort → value renamed (Constant (Standard n) a) ≡ rename (value i (Constant (Standard n) a))
  standard_value n a e s = subst (λ m. value renamed (Constant (Standard m) a) ≡ rename (value i (Constant (Standard m) a))) (sym e)
      (subst (λ b. value renamed (Constant (Standard 0) b) ≡ rename (value i (Constant (Standard 0) b))) (sym s) (renamed_null ∙ ap (λ b. TreeElement (RefLeaf (cond b 0 (suc (position null_tree trees))))) (sym (tree_same null_tree))))

  constant_value : (f : Symbol) (a : Sort) → IsOwnSymbol f a → value renamed (Constant f a) ≡ rename (value i (Constant f a))
  constant_value (Standard n) a h = standard_value n a h.0 h.1
  constant_value (Function g) a h = sort_kept a (i.functions (Function g) a [])
  constant_value (Variable n) a h = sort_kept a (i.functions (Variable n) a [])
  constant_value (Named x) a h = sort_kept a (i.functions (Named x) a [])

  mutual
    pub value_renamed : (t : Term) → IsFlat t → Within t → value renamed t ≡ rename (value i t)
    value_renamed (Truth b) f w = refl
    value_renamed (Number z) f w = refl
    value_renamed (Part a) f w = refl
    value_renamed (Constant g a) f w = constant_value g a f
    value_renamed (Apply g a ts) f w = absurd f
    value_renamed (Not t) f w = ap (λ x. BoolElement (not x)) (ap as_bool (value_renamed t f w) ∙ bool_kept (value i t))
    value_renamed (Binary o t u) f w = ap₂ (operate renamed o) (value_renamed t f.0 w.0) (value_renamed u f.1 w.1) ∙ operated o (value i t) (value i u) (value_known t f.0 w.0) (value_known u f.1 w.1)
    value_renamed (Ite c t u) f w =
        ap (λ x. cond x (value renamed t) (value renamed u)) (ap as_bool (value_renamed c f.0 w.0) ∙ bool_kept (value i c))
        ∙ ap₂ (λ x y. cond (as_bool (value i c)) x y) (value_renamed t f.1 w.1) (value_renamed u f.2 w.2) ∙ cond_renamed (as_bool (value i c)) (value i t) (value i u)
    value_renamed (AllOf ts) f w = ap BoolElement (all_kept ts f w)
    value_renamed (SomeOf ts) f w = ap BoolElement (some_kept ts f w)

    all_kept : (ts : Terms) → AreFlat ts → AllWithin ts → all_true (values renamed ts) ≡ all_true (values i ts)
    all_kept NoTerms f w = refl
    all_kept (MoreTerms t ts) f w = ap₂ (λ x y. x && y) (ap as_bool (value_renamed t f.0 w.0) ∙ bool_kept (value i t)) (all_kept ts f.1 w.1)

    some_kept : (ts : Terms) → AreFlat ts → AllWithin ts → some_true (values renamed ts) ≡ some_true (values i ts)
    some_kept NoTerms f w = refl
    some_kept (MoreTerms t ts) f w = ap₂ (λ x y. x || y) (ap as_bool (value_renamed t f.0 w.0) ∙ bool_kept (value i t)) (some_kept ts f.1 w.1)

  pub true_renamed : (t : Term) → IsFlat t → Within t → IsTrueIn i t → IsTrueIn renamed t
  true_renamed t f w h = ap as_bool (value_renamed t f w) ∙ bool_kept (value i t) ∙ h
