-- What is held, with the entries of one resource taken together.
use Rattle.std.proofs.Common.{◌≡◌, ℕ, zero, suc, ◌≤◌, Bool, true, false, cond, ◌&&◌, List, [], ◌∷◌, length, refl, sym, ◌∙◌, ap, ap₂, subst, arith, eq-eqb, eqb-true, true≢false}
use Rattle.std.specs.Prelude.{ℤ}
use Rattle.std.specs.Bool.{beq}
use Rattle.std.specs.Ordering.{int_eq}
use Rattle.std.proofs.lemmas.Int.{ints}
use Rattle.std.proofs.lemmas.Bool.{and_parts}
use Rattle.vx_frac.specs.Fractions.{Fraction, none, sum, product}
use Rattle.vx_ast.specs.Syntax.{Name}
use Rattle.vx_meaning.specs.Values.{Value, IntValue, BoolValue, RefValue, PermValue, same_value, same_values}
use Rattle.vx_meaning.specs.States.{Holdings, Instance, Resource, At, Folded, same_resource, amount}
use Rattle.vx_amounts.proofs.Amounts.{Le, Same, same-refl, same-sym, same-trans, le-trans, le-is, sum_same, none-sum, sum_comm, sum_assoc, add-mono}
use Rattle.vx_elements.proofs.Lists.{name_is}
use Rattle.vx_sound.proofs.Chunks.{location_same, location_is}
use Rattle.vx_elements.proofs.Lists.{name_same}
use Rattle.vx_amounts.proofs.Products.{product_comm, product_dist, product_mono, product-none}
use Rattle.vx_sound_preds.specs.Bodies.{IsRigid, AreRigid}
use Rattle.vx_sound_preds.proofs.Totals.{weigh, weigh_none}

abbrev pub IsSingle : Resource → Type 0
IsSingle (At l) = Unit {0}
IsSingle (Folded i) = AreRigid i.arguments

abbrev pub AreSingle : Holdings → Type 0
AreSingle [] = Unit {0}
AreSingle (x ∷ xs) = IsSingle x.0 × AreSingle xs

int_is : (a b : ℤ) → int_eq a b ≡ true → a ≡ b
int_is a b e = grind (arith, ints)

int_self : (a : ℤ) → int_eq a a ≡ true
int_self a = grind (arith, ints)

bool_is : (a b : Bool) → beq a b ≡ true → a ≡ b
bool_is true true e = refl
bool_is false false e = refl
bool_is true false e = cc
bool_is false true e = cc

value_is : (v w : Value) → IsRigid w → same_value v w ≡ true → v ≡ w
value_is (IntValue a) (IntValue b) h e = ap IntValue (int_is a b e)
value_is (BoolValue a) (BoolValue b) h e = ap BoolValue (bool_is a b e)
value_is (RefValue a) (RefValue b) h e = ap RefValue (eqb-true a b e)
value_is (PermValue a) (PermValue b) h e = absurd h
value_is (IntValue a) (BoolValue b) h e = cc
value_is (IntValue a) (RefValue b) h e = cc
value_is (IntValue a) (PermValue b) h e = absurd h
value_is (BoolValue a) (IntValue b) h e = cc
value_is (BoolValue a) (RefValue b) h e = cc
value_is (BoolValue a) (PermValue b) h e = absurd h
value_is (RefValue a) (IntValue b) h e = cc
value_is (RefValue a) (BoolValue b) h e = cc
value_is (RefValue a) (PermValue b) h e = absurd h
value_is (PermValue a) (IntValue b) h e = cc
value_is (PermValue a) (BoolValue b) h e = cc
value_is (PermValue a) (RefValue b) h e = cc

values_are : (vs ws : List Value) → AreRigid ws → same_values vs ws ≡ true → vs ≡ ws
values_are [] [] h e = refl
values_are (v ∷ vs) (w ∷ ws) h e = let q = and_parts _ _ e in ap₂ (λ (v : Value) (vs : List Value). v ∷ vs) (value_is v w h.0 q.0) (values_are vs ws h.1 q.1)
values_are [] (w ∷ ws) h e = cc
values_are (v ∷ vs) [] h e = cc

-- one that is no amount is the same as itself alone
pub resource_is : (r c : Resource) → IsSingle c → same_resource r c ≡ true → r ≡ c
resource_is (At a) (At b) h e = ap At (location_is a b e)
resource_is (Folded a) (Folded b) h e =
    let q = and_parts _ _ e in
    ap₂ (λ (x : Name) (vs : List Value). let j : Instance = record { predicate = x; arguments = vs } in Folded j) (name_is a.predicate b.predicate q.0) (values_are a.arguments b.arguments h q.1)
resource_is (At a) (Folded b) h e = cc
resource_is (Folded a) (At b) h e = cc

-- all but the entries of r
unfoldable pub others : Resource → Holdings → Holdings
others r [] = []
others r (x ∷ xs) = cond (same_resource r x.0) (others r xs) (x ∷ others r xs)

others_length : (r : Resource) (xs : Holdings) → length (others r xs) ≤ length xs
unfolding others
others_length r [] = omega arith
others_length r (x ∷ xs) = go (same_resource r x.0) (others_length r xs)
  where
    go : (b : Bool) → length (others r xs) ≤ length xs → length (cond b (others r xs) (x ∷ others r xs)) ≤ suc (length xs)
    go true h = omega arith
    go false h = omega arith

pub others_single : (r : Resource) (xs : Holdings) → AreSingle xs → AreSingle (others r xs)
unfolding others
others_single r [] h = tt
others_single r (x ∷ xs) h = go (same_resource r x.0) (others_single r xs h.1)
  where
    go : (b : Bool) → AreSingle (others r xs) → AreSingle (cond b (others r xs) (x ∷ others r xs))
    go true k = k
    go false k = (h.0, k)

pub none-product : (a : Fraction) → Same (product none a) none
none-product a = subst (λ (x : Fraction). Same x none) (product_comm a none) (product-none a)

swap-sum : (a b c : Fraction) → Same (sum a (sum b c)) (sum b (sum a c))
swap-sum a b c = same-trans (same-sym (sum_assoc a b c)) (same-trans (sum_same (sum_comm a b) (same-refl c)) (sum_assoc b a c))

-- the weight of r, and the rest
pub split : (w : Resource → Fraction) (r : Resource) (xs : Holdings) → AreSingle xs → Same (weigh w xs) (sum (product (amount xs r) (w r)) (weigh w (others r xs)))
unfolding weigh others
split w r [] h = same-sym (same-trans (sum_same (none-product (w r)) (same-refl none)) (none-sum none))
split w r (x ∷ xs) h = go (same_resource r x.0) refl (split w r xs h.1)
  where
    go : (b : Bool) → same_resource r x.0 ≡ b → Same (weigh w xs) (sum (product (amount xs r) (w r)) (weigh w (others r xs))) →
        Same (sum (product x.1 (w x.0)) (weigh w xs)) (sum (product (cond b (sum x.1 (amount xs r)) (amount xs r)) (w r)) (weigh w (cond b (others r xs) (x ∷ others r xs))))
    go true e k =
        let same : w x.0 ≡ w r = ap w (sym (resource_is r x.0 h.0 e)) in
        same-trans (sum_same (subst (λ (y : Fraction). Same (product x.1 (w x.0)) (product x.1 y)) same (same-refl (product x.1 (w x.0)))) k)
        (same-trans (same-sym (sum_assoc (product x.1 (w r)) (product (amount xs r) (w r)) (weigh w (others r xs))))
        (sum_same (same-sym (product_dist x.1 (amount xs r) (w r))) (same-refl (weigh w (others r xs)))))
    go false e k = same-trans (sum_same (same-refl (product x.1 (w x.0))) k) (swap-sum (product x.1 (w x.0)) (product (amount xs r) (w r)) (weigh w (others r xs)))

values_self : (vs : List Value) → AreRigid vs → same_values vs vs ≡ true
values_self [] h = refl
values_self (v ∷ vs) h = both (self v h.0) (values_self vs h.1)
  where
    both : {a b : Bool} → a ≡ true → b ≡ true → (a && b) ≡ true
    both {a = true} e f = f
    both {a = false} e f = e

    self : (v : Value) → IsRigid v → same_value v v ≡ true
    self (IntValue a) h = int_self a
    self (BoolValue true) h = refl
    self (BoolValue false) h = refl
    self (RefValue a) h = eq-eqb a a refl
    self (PermValue a) h = absurd h

pub resource_self : (r : Resource) → IsSingle r → same_resource r r ≡ true
resource_self (At l) h = location_same l
resource_self (Folded i) h = both (name_same i.predicate) (values_self i.arguments h)
  where
    both : {a b : Bool} → a ≡ true → b ≡ true → (a && b) ≡ true
    both {a = true} e f = f
    both {a = false} e f = e

-- what is held of another resource is among the others
pub others_amount : (r c : Resource) (xs : Holdings) → AreSingle xs → (same_resource r c ≡ true → ⊥) → amount (others r xs) c ≡ amount xs c
unfolding others
others_amount r c [] h n = refl
others_amount r c (x ∷ xs) h n = go (same_resource r x.0) refl (others_amount r c xs h.1 n)
  where
    at : (y : Bool) → same_resource c x.0 ≡ y → same_resource r x.0 ≡ true → amount xs c ≡ cond y (sum x.1 (amount xs c)) (amount xs c)
    at true e f = absurd (n (subst (λ (z : Resource). same_resource r z ≡ true) (sym (resource_is c x.0 h.0 e)) f))
    at false e f = refl

    go : (b : Bool) → same_resource r x.0 ≡ b → amount (others r xs) c ≡ amount xs c →
        amount (cond b (others r xs) (x ∷ others r xs)) c ≡ cond (same_resource c x.0) (sum x.1 (amount xs c)) (amount xs c)
    go true e k = k ∙ at (same_resource c x.0) refl e
    go false e k = ap (λ (y : Fraction). cond (same_resource c x.0) (sum x.1 y) y) k

-- of r itself none is among them
pub others_none : (r c : Resource) (xs : Holdings) → AreSingle xs → same_resource r c ≡ true → IsSingle c → amount (others r xs) c ≡ none
unfolding others
others_none r c [] h e k = refl
others_none r c (x ∷ xs) h e k = go (same_resource r x.0) refl (others_none r c xs h.1 e k)
  where
    at : (y : Bool) → same_resource c x.0 ≡ y → same_resource r x.0 ≡ false → amount (others r xs) c ≡ none → cond y (sum x.1 (amount (others r xs) c)) (amount (others r xs) c) ≡ none
    at true m f z = absurd (true≢false (sym (subst (λ (z : Resource). same_resource r z ≡ true) (resource_is c x.0 h.0 m) e) ∙ f))
    at false m f z = z

    go : (b : Bool) → same_resource r x.0 ≡ b → amount (others r xs) c ≡ none → amount (cond b (others r xs) (x ∷ others r xs)) c ≡ none
    go true f z = z
    go false f z = at (same_resource c x.0) refl f z

-- of no resource less than none is held
abbrev pub NoDebts : Holdings → Type 0
NoDebts xs = (r : Resource) → IsSingle r → Le none (amount xs r)

pub others_no_debts : (r : Resource) (xs : Holdings) → AreSingle xs → NoDebts xs → NoDebts (others r xs)
others_no_debts r xs h k c sc = go (same_resource r c) refl
  where
    go : (b : Bool) → same_resource r c ≡ b → Le none (amount (others r xs) c)
    go true e = le-is (sym (others_none r c xs h e sc))
    go false e = le-trans (k c sc) (le-is (sym (others_amount r c xs h (λ f. true≢false (sym f ∙ e)))))

pub shorter : (k : ℕ) (x : Resource × Fraction) (xs : Holdings) → AreSingle (x ∷ xs) → suc (length xs) ≤ suc k → length (others x.0 (x ∷ xs)) ≤ k
unfolding others
shorter k x xs h le =
    let e : cond (same_resource x.0 x.0) (others x.0 xs) (x ∷ others x.0 xs) ≡ others x.0 xs = ap (λ (b : Bool). cond b (others x.0 xs) (x ∷ others x.0 xs)) (resource_self x.0 h.0) in
    let z = others_length x.0 xs in
    let y : length (others x.0 xs) ≤ k = omega arith in
    subst (λ (y : Holdings). length y ≤ k) (sym e) y

-- a sum by greater weights is greater
grows_by : (w v : Resource → Fraction) → ((r : Resource) → Le (w r) (v r)) → (k : ℕ) (xs : Holdings) → length xs ≤ k → AreSingle xs → NoDebts xs → Le (weigh w xs) (weigh v xs)
grows_by w v up k [] le h n = le-trans (le-is (weigh_none w)) (le-is (sym (weigh_none v)))
grows_by w v up zero (x ∷ xs) le h n = absurd (none_of (length xs) le)
  where
    none_of : (m : ℕ) → suc m ≤ zero → ⊥
    none_of m e = omega arith
grows_by w v up (suc k) (x ∷ xs) le h n =
    let r = x.0 in
    let all = x ∷ xs in
    le-trans (split w r all h).there
    (le-trans (add-mono (product_mono (amount all r) (n r h.0) (up r)) (grows_by w v up k (others r all) (shorter k x xs h le) (others_single r all h) (others_no_debts r all h n)))
    (split v r all h).back)

pub weigh_grows : (w v : Resource → Fraction) → ((r : Resource) → Le (w r) (v r)) → (xs : Holdings) → AreSingle xs → NoDebts xs → Le (weigh w xs) (weigh v xs)
weigh_grows w v up xs h n = grows_by w v up (length xs) xs (self (length xs)) h n
  where
    self : (m : ℕ) → m ≤ m
    self m = omega arith
