-- Values that a leaf doesn't tell apart, and that operators don't either.
use Rattle.std.proofs.Common.{◌≡◌, ℕ, Bool, true, false, not, List, [], ◌∷◌, Option, Some, None, refl, sym, ◌∙◌, ap, ap₂, subst}
use Rattle.std.specs.Prelude.{ℤ}
use Rattle.std.proofs.lemmas.Option.{same_Some}
use Rattle.vx_frac.specs.Fractions.{Fraction, whole, same_fraction, at_most, is_below, product, lowest}
use Rattle.vx_ast.specs.Syntax.{Operator, Equal, Less, LessEqual, Greater, GreaterEqual, Add, Subtract, Multiply, Division}
use Rattle.vx_meaning.specs.Values.{Value, IntValue, BoolValue, RefValue, PermValue, negated, operated, divided, on_fractions}
use Rattle.vx_terms.specs.Interpretations.{IntLeaf, BoolLeaf, RefLeaf, PermLeaf}
use Rattle.vx_amounts.proofs.Amounts.{Le, Same, same-refl, same-sym, same-trans, same_is, same-of, same-lowest', lowest_is, le-trans, below_is, sum_same, difference_same, product_same}
use Rattle.vx_sound_preds.specs.Bodies.{IsRigid, AreRigid}
use Rattle.vx_sound_funcs.specs.Told.{LooksLike}

-- the same value, or a fraction that is written otherwise
pub data Likes : Value → Value → Type 0 where
  itself : (v : Value) → Likes v v
  rewritten : (a b : Fraction) → Same a b → Likes (PermValue a) (PermValue b)

pub looks_like : {v w : Value} → Likes v w → LooksLike v w
looks_like (itself v) = refl
looks_like (rewritten a b s) = ap PermLeaf (lowest_is s)

perm_leaf_is : (a b : Fraction) → PermLeaf a ≡ PermLeaf b → a ≡ b
perm_leaf_is a b e = cc

lowest_same : (a b : Fraction) → lowest a ≡ lowest b → Same a b
lowest_same a b e = same-trans (same-sym (same-lowest' a)) (subst (λ (x : Fraction). Same x b) (sym e) (same-lowest' b))

int_like : (a b : ℤ) → IntLeaf a ≡ IntLeaf b → IntValue a ≡ IntValue b
int_like a b e = cc

bool_like : (a b : Bool) → BoolLeaf a ≡ BoolLeaf b → BoolValue a ≡ BoolValue b
bool_like a b e = cc

ref_like : (a b : ℕ) → RefLeaf a ≡ RefLeaf b → RefValue a ≡ RefValue b
ref_like a b e = cc

pub likes : (v w : Value) → LooksLike v w → Likes v w
likes (IntValue a) (IntValue b) e = subst (Likes (IntValue a)) (int_like a b e) (itself (IntValue a))
likes (BoolValue a) (BoolValue b) e = subst (Likes (BoolValue a)) (bool_like a b e) (itself (BoolValue a))
likes (RefValue a) (RefValue b) e = subst (Likes (RefValue a)) (ref_like a b e) (itself (RefValue a))
likes (PermValue a) (PermValue b) e = rewritten a b (lowest_same a b (perm_leaf_is (lowest a) (lowest b) e))
likes (IntValue a) (BoolValue b) e = cc
likes (IntValue a) (RefValue b) e = cc
likes (IntValue a) (PermValue b) e = cc
likes (BoolValue a) (IntValue b) e = cc
likes (BoolValue a) (RefValue b) e = cc
likes (BoolValue a) (PermValue b) e = cc
likes (RefValue a) (IntValue b) e = cc
likes (RefValue a) (BoolValue b) e = cc
likes (RefValue a) (PermValue b) e = cc
likes (PermValue a) (IntValue b) e = cc
likes (PermValue a) (BoolValue b) e = cc
likes (PermValue a) (RefValue b) e = cc

-- a value that is there, like this one
pub record Found (o : Option Value) (v : Value) : Type 0 where
  pub it : Value
  pub is : o ≡ Some it
  pub like : Likes v it

pub found_itself : (o : Option Value) (v : Value) → o ≡ Some v → Found o v
found_itself o v e = record { it = v; is = e; like = itself v }

no_value : {R : Type 0} (v : Value) → None ≡ Some v → R
no_value v e = cc

pub negated_like : (v w u : Value) → Likes v w → negated v ≡ Some u → Found (negated w) u
negated_like v w u (itself x) e = found_itself (negated x) u e
negated_like v w u (rewritten a b s) e = no_value u e

-- Tests of fractions

same_bools : (a b : Bool) → (a ≡ true → b ≡ true) → (b ≡ true → a ≡ true) → a ≡ b
same_bools true b f g = sym (f refl)
same_bools false true f g = g refl
same_bools false false f g = refl

equal_like : {a b c d : Fraction} → Same a b → Same c d → same_fraction a c ≡ same_fraction b d
equal_like {a = a} {b = b} {c = c} {d = d} s t = same_bools (same_fraction a c) (same_fraction b d)
    (λ e. same_is (same-trans (same-sym s) (same-trans (same-of {a = a} {b = c} e) t)))
    (λ e. same_is (same-trans s (same-trans (same-of {a = b} {b = d} e) (same-sym t))))

at_most_moved : {a b c d : Fraction} → Same a b → Same c d → at_most a c ≡ true → at_most b d ≡ true
at_most_moved {a = a} {b = b} {c = c} {d = d} s t e = let r : Le b d = le-trans s.back (le-trans {b = c} (record { holds = e }) t.there) in r.holds

at_most_like : {a b c d : Fraction} → Same a b → Same c d → at_most a c ≡ at_most b d
at_most_like {a = a} {b = b} {c = c} {d = d} s t = same_bools (at_most a c) (at_most b d) (at_most_moved s t) (at_most_moved (same-sym s) (same-sym t))

below_like : {a b c d : Fraction} → Same a b → Same c d → is_below a c ≡ is_below b d
below_like {a = a} {b = b} {c = c} {d = d} s t = below_is a c ∙ ap not (at_most_like t s) ∙ sym (below_is b d)

bool_itself : {a b : Bool} → a ≡ b → Likes (BoolValue a) (BoolValue b)
bool_itself {a = a} {b = b} e = subst (λ (x : Bool). Likes (BoolValue a) (BoolValue x)) e (itself (BoolValue a))

on_fractions_like : (op : Operator) (a b c d : Fraction) → Same a b → Same c d → Likes (on_fractions op a c) (on_fractions op b d)
on_fractions_like Equal a b c d s t = bool_itself (equal_like s t)
on_fractions_like Less a b c d s t = bool_itself (below_like s t)
on_fractions_like LessEqual a b c d s t = bool_itself (at_most_like s t)
on_fractions_like Greater a b c d s t = bool_itself (below_like t s)
on_fractions_like GreaterEqual a b c d s t = bool_itself (at_most_like t s)
on_fractions_like Add a b c d s t = rewritten _ _ (sum_same s t)
on_fractions_like Subtract a b c d s t = rewritten _ _ (difference_same s t)
on_fractions_like Multiply a b c d s t = rewritten _ _ (product_same s t)

-- Operators

fractions_like : (op : Operator) (a b c d : Fraction) (u : Value) → Same a b → Same c d → operated op (PermValue a) (PermValue c) ≡ Some u → Found (operated op (PermValue b) (PermValue d)) u
fractions_like op a b c d u s t e = record {
  it = on_fractions op b d;
  is = refl;
  like = subst (λ (v : Value). Likes v (on_fractions op b d)) (same_Some (on_fractions op a c) u e) (on_fractions_like op a b c d s t);
}

-- a number scales a fraction in the same way, however it is written
scaled_like : (op : Operator) (z : ℤ) (a b : Fraction) (u : Value) → Same a b → operated op (IntValue z) (PermValue a) ≡ Some u → Found (operated op (IntValue z) (PermValue b)) u
scaled_like Multiply z a b u s e = record {
  it = PermValue (product (whole z) b);
  is = refl;
  like = subst (λ (v : Value). Likes v (PermValue (product (whole z) b))) (same_Some (PermValue (product (whole z) a)) u e) (rewritten _ _ (product_same (same-refl (whole z)) s));
}
scaled_like Equal z a b u s e = found_itself _ u e
scaled_like Less z a b u s e = no_value u e
scaled_like LessEqual z a b u s e = no_value u e
scaled_like Greater z a b u s e = no_value u e
scaled_like GreaterEqual z a b u s e = no_value u e
scaled_like Add z a b u s e = no_value u e
scaled_like Subtract z a b u s e = no_value u e

-- operands of two other kinds: they are not equal, and nothing else is asked of them
abbrev unlike : Operator → Option Value
unlike Equal = Some (BoolValue false)
unlike _ = None

truth_first : (op : Operator) (z : Bool) (a : Fraction) → operated op (BoolValue z) (PermValue a) ≡ unlike op
truth_first op z a = elim op as (λ (op : Operator). operated op (BoolValue z) (PermValue a) ≡ unlike op) [
  | Equal ↦ refl
  | Less ↦ refl
  | LessEqual ↦ refl
  | Greater ↦ refl
  | GreaterEqual ↦ refl
  | Add ↦ refl
  | Subtract ↦ refl
  | Multiply ↦ refl
]

reference_first : (op : Operator) (z : ℕ) (a : Fraction) → operated op (RefValue z) (PermValue a) ≡ unlike op
reference_first op z a = elim op as (λ (op : Operator). operated op (RefValue z) (PermValue a) ≡ unlike op) [
  | Equal ↦ refl
  | Less ↦ refl
  | LessEqual ↦ refl
  | Greater ↦ refl
  | GreaterEqual ↦ refl
  | Add ↦ refl
  | Subtract ↦ refl
  | Multiply ↦ refl
]

number_second : (op : Operator) (a : Fraction) (z : ℤ) → operated op (PermValue a) (IntValue z) ≡ unlike op
number_second op a z = elim op as (λ (op : Operator). operated op (PermValue a) (IntValue z) ≡ unlike op) [
  | Equal ↦ refl
  | Less ↦ refl
  | LessEqual ↦ refl
  | Greater ↦ refl
  | GreaterEqual ↦ refl
  | Add ↦ refl
  | Subtract ↦ refl
  | Multiply ↦ refl
]

truth_second : (op : Operator) (a : Fraction) (z : Bool) → operated op (PermValue a) (BoolValue z) ≡ unlike op
truth_second op a z = elim op as (λ (op : Operator). operated op (PermValue a) (BoolValue z) ≡ unlike op) [
  | Equal ↦ refl
  | Less ↦ refl
  | LessEqual ↦ refl
  | Greater ↦ refl
  | GreaterEqual ↦ refl
  | Add ↦ refl
  | Subtract ↦ refl
  | Multiply ↦ refl
]

reference_second : (op : Operator) (a : Fraction) (z : ℕ) → operated op (PermValue a) (RefValue z) ≡ unlike op
reference_second op a z = elim op as (λ (op : Operator). operated op (PermValue a) (RefValue z) ≡ unlike op) [
  | Equal ↦ refl
  | Less ↦ refl
  | LessEqual ↦ refl
  | Greater ↦ refl
  | GreaterEqual ↦ refl
  | Add ↦ refl
  | Subtract ↦ refl
  | Multiply ↦ refl
]

pub operated_like : (op : Operator) (v v' w w' u : Value) → Likes v v' → Likes w w' → operated op v w ≡ Some u → Found (operated op v' w') u
operated_like op v v' w w' u (itself x) (itself y) e = found_itself (operated op x y) u e
operated_like op v v' w w' u (rewritten a b s) (rewritten c d t) e = fractions_like op a b c d u s t e
operated_like op v v' w w' u (itself (PermValue c)) (rewritten a b s) e = fractions_like op c c a b u (same-refl c) s e
operated_like op v v' w w' u (itself (IntValue z)) (rewritten a b s) e = scaled_like op z a b u s e
operated_like op v v' w w' u (itself (BoolValue z)) (rewritten a b s) e = found_itself _ u (truth_first op z b ∙ sym (truth_first op z a) ∙ e)
operated_like op v v' w w' u (itself (RefValue z)) (rewritten a b s) e = found_itself _ u (reference_first op z b ∙ sym (reference_first op z a) ∙ e)
operated_like op v v' w w' u (rewritten a b s) (itself (PermValue c)) e = fractions_like op a b c c u s (same-refl c) e
operated_like op v v' w w' u (rewritten a b s) (itself (IntValue z)) e = found_itself _ u (number_second op b z ∙ sym (number_second op a z) ∙ e)
operated_like op v v' w w' u (rewritten a b s) (itself (BoolValue z)) e = found_itself _ u (truth_second op b z ∙ sym (truth_second op a z) ∙ e)
operated_like op v v' w w' u (rewritten a b s) (itself (RefValue z)) e = found_itself _ u (reference_second op b z ∙ sym (reference_second op a z) ∙ e)

pub divided_like : (op : Division) (v v' w w' u : Value) → Likes v v' → Likes w w' → divided op v w ≡ Some u → Found (divided op v' w') u
divided_like op v v' w w' u (itself x) (itself y) e = found_itself (divided op x y) u e
divided_like op v v' w w' u (rewritten a b s) k e = no_value u e
divided_like op v v' w w' u (itself (IntValue z)) (rewritten a b s) e = no_value u e
divided_like op v v' w w' u (itself (BoolValue z)) (rewritten a b s) e = no_value u e
divided_like op v v' w w' u (itself (RefValue z)) (rewritten a b s) e = no_value u e
divided_like op v v' w w' u (itself (PermValue z)) (rewritten a b s) e = no_value u e

-- what is no fraction is the same
pub rigid_like : (v w : Value) → IsRigid v → Likes v w → w ≡ v
rigid_like v w h (itself x) = refl
rigid_like v w h (rewritten a b s) = absurd h

-- Lists of values

abbrev pub AllLike : List Value → List Value → Type 0
AllLike [] [] = Unit {0}
AllLike (v ∷ vs) (w ∷ ws) = Likes v w × AllLike vs ws
AllLike _ _ = ⊥

pub all_rigid : (vs ws : List Value) → AreRigid vs → AllLike vs ws → ws ≡ vs
all_rigid [] [] h k = refl
all_rigid (v ∷ vs) (w ∷ ws) h k = ap₂ (λ (x : Value) (xs : List Value). x ∷ xs) (rigid_like v w h.0 k.0) (all_rigid vs ws h.1 k.1)
all_rigid [] (w ∷ ws) h k = absurd k
all_rigid (v ∷ vs) [] h k = absurd k
