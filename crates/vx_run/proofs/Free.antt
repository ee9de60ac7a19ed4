-- An expression without applications, evaluated where permissions are ignored, has the value of the meaning, written in lowest terms.
use Rattle.std.proofs.Common.{◌≡◌, ℕ, zero, suc, ℤ, pos, Bool, true, false, not, List, [], ◌∷◌, map, Option, Some, None, option_map, Result, Ok, Err, refl, sym, ap, subst}
use Rattle.std.specs.Prelude.{if◌then◌else◌, ⊤, option_and_then}
use Rattle.vx_ast.specs.declared.Place.{Place}
use Rattle.vx_ast.specs.Syntax.{Name, Program, Operator, Equal, Less, LessEqual, Greater, GreaterEqual, Add, Subtract, Multiply, Division, Connective, Expr, Exprs, Number, Truth, Null, Part, Variable, Not, Operate, Divide, Connect, Choose, Read, Old, Apply, Unfolding, NoMore, More}
use Rattle.vx_frac.specs.declared.Op.{Op}
use Rattle.vx_frac.specs.Fractions.{Fraction, over, whole, lowest, sum, difference, product}
use Rattle.vx_amounts.proofs.Amounts.{same-refl, same-sym, same-lowest', lowest_is, sum_same, difference_same, product_same}
use Rattle.vx_meaning.specs.Values as meaning
use Rattle.vx_meaning.specs.Values.{Value, IntValue, BoolValue, RefValue, PermValue, operated, divided, negated, needs_right, without_right}
use Rattle.vx_meaning.specs.States.{State, Location, lookup, value_at, at_old}
use Rattle.vx_meaning.specs.Evaluate as plain
use Rattle.vx_meaning.specs.Flatten.{no_applications}
use Rattle.vx_meaning.specs.Fits.{location_of}
use Rattle.vx_run.specs.Going.{Going, Outcome, Ended, Stopped, Failed, Running, Wide, Unchosen, Supply, ◌>>=◌, continued, gives, expect, when, require, step, failing_as}
use Rattle.vx_run.specs.Widths.{within_128_bits, written_by, asked_of, call_of, call_of_division, number_of, operate, divide}
use Rattle.vx_run.specs.Evaluated.{Free, decided, read, evaluate, evaluate_all, deeper}
use Rattle.vx_run.specs.Evaluated as evaluated
use Rattle.vx_run.proofs.Totals.{at_most_lowest, below_lowest, same_lowest_both}

abbrev pub written : Value → Value
written v = written_by within_128_bits v

abbrev pub all_written : List Value → List Value
all_written vs = map written vs

-- An end where the result of an operation leaves 128 bits says nothing; another end says that there is no value.

abbrev pub NoneAt : {A : Type 0} → Option A → Outcome → Type 0
NoneAt o (Wide at op a b) = ⊤
NoneAt o Ended = o ≡ None
NoneAt o (Stopped at) = o ≡ None
NoneAt o (Failed at) = o ≡ None
NoneAt o Running = o ≡ None
NoneAt o Unchosen = o ≡ None

abbrev pub Told : {A B : Type 0} → (A → B) → Option A → Result (B × Supply ℕ) Outcome → Type 0
Told {A = A} f o (Ok (b, l)) = (a : A) × (o ≡ Some a) × (f a ≡ b)
Told f o (Err e) = NoneAt o e

none_at : {A B : Type 0} (f : A → Option B) (o : Option A) (e : Outcome) → NoneAt o e → NoneAt (option_and_then f o) e
none_at f o (Wide at op a b) h = tt
none_at f o Ended h = ap (option_and_then f) h
none_at f o (Stopped at) h = ap (option_and_then f) h
none_at f o (Failed at) h = ap (option_and_then f) h
none_at f o Running h = ap (option_and_then f) h
none_at f o Unchosen h = ap (option_and_then f) h

pub told_on : {A B C D : Type 0} (f : A → B) (g : C → D) (o : Option A) (r : Result (B × Supply ℕ) Outcome) (p : A → Option C) (q : B → Going ℕ D) →
    Told f o r → ((a : A) (l : Supply ℕ) → Told g (p a) (q (f a) l)) → Told g (option_and_then p o) (continued r q)
told_on f g o (Ok (b, l)) p q (a, e, w) h =
    subst (λ x. Told g (option_and_then p x) (q b l)) (sym e) (subst (λ x. Told g (p a) (q x l)) w (h a l))
told_on f g o (Err e) p q t h = none_at p o e t

-- two that are the same once they are written
abbrev pub AreAlike : Option Value → Option Value → Type 0
AreAlike (Some u) (Some v) = written u ≡ written v
AreAlike None None = ⊤
AreAlike _ _ = ⊥

-- what an operator asks leaves the result, or 128 bits
asked_told : (at : Place) (c : Option Op) (a b : Option Fraction) (u v : Value) (l : Supply ℕ) → written u ≡ written v →
    Told written (Some u) ((asked_of within_128_bits at c a b >>= λ _. gives (written v)) l)
asked_told at None a b u v l e = (u, refl, e)
asked_told at (Some c) None b u v l e = (u, refl, e)
asked_told at (Some c) (Some a) None u v l e = (u, refl, e)
asked_told at (Some c) (Some a) (Some b) u v l e = go (within_128_bits.fits c (lowest a) (lowest b))
  where
    go : (t : Bool) → Told written (Some u) ((require t (Wide at c (lowest a) (lowest b)) >>= λ _. gives (written v)) l)
    go true = (u, refl, e)
    go false = tt

computed_told : (at : Place) (c : Option Op) (a b : Option Fraction) (o p : Option Value) (l : Supply ℕ) → AreAlike o p →
    Told written o ((expect p (Failed at) >>= λ u. asked_of within_128_bits at c a b >>= λ _. gives (written u)) l)
computed_told at c a b (Some u) (Some v) l e = asked_told at c a b u v l e
computed_told at c a b None None l e = refl
computed_told at c a b (Some u) None l e = absurd e
computed_told at c a b None (Some v) l e = absurd e

-- the operators take fractions as they are written
fractions_alike : (op : Operator) (a b : Fraction) → written (meaning.on_fractions op a b) ≡ written (meaning.on_fractions op (lowest a) (lowest b))
fractions_alike Equal a b = ap BoolValue (same_lowest_both a b)
fractions_alike Less a b = ap BoolValue (below_lowest a b)
fractions_alike LessEqual a b = ap BoolValue (at_most_lowest a b)
fractions_alike Greater a b = ap BoolValue (below_lowest b a)
fractions_alike GreaterEqual a b = ap BoolValue (at_most_lowest b a)
fractions_alike Add a b = ap PermValue (lowest_is {a = sum a b} {b = sum (lowest a) (lowest b)} (sum_same {a = a} {b = lowest a} {c = b} {d = lowest b} (same-sym (same-lowest' a)) (same-sym (same-lowest' b))))
fractions_alike Subtract a b =
    ap PermValue (lowest_is {a = difference a b} {b = difference (lowest a) (lowest b)} (difference_same {a = a} {b = lowest a} {c = b} {d = lowest b} (same-sym (same-lowest' a)) (same-sym (same-lowest' b))))
fractions_alike Multiply a b =
    ap PermValue (lowest_is {a = product a b} {b = product (lowest a) (lowest b)} (product_same {a = a} {b = lowest a} {c = b} {d = lowest b} (same-sym (same-lowest' a)) (same-sym (same-lowest' b))))

int_fraction : (op : Operator) (z : ℤ) (b : Fraction) → AreAlike (operated op (IntValue z) (PermValue b)) (operated op (IntValue z) (PermValue (lowest b)))
int_fraction Multiply z b =
    ap PermValue (lowest_is {a = product (whole z) b} {b = product (whole z) (lowest b)} (product_same {a = whole z} {b = whole z} {c = b} {d = lowest b} (same-refl (whole z)) (same-sym (same-lowest' b))))
int_fraction Equal z b = refl
int_fraction Less z b = tt
int_fraction LessEqual z b = tt
int_fraction Greater z b = tt
int_fraction GreaterEqual z b = tt
int_fraction Add z b = tt
int_fraction Subtract z b = tt

own_alike : (o : Option Value) → AreAlike o o
own_alike None = tt
own_alike (Some v) = refl

-- where only equality is asked, and it goes by other types
only_equal : (op : Operator) (v w : Value) → AreAlike (operated op v w) (operated op (written v) (written w))
only_equal op (IntValue a) (IntValue b) = own_alike (operated op (IntValue a) (IntValue b))
only_equal op (IntValue a) (BoolValue b) = own_alike (operated op (IntValue a) (BoolValue b))
only_equal op (IntValue a) (RefValue b) = own_alike (operated op (IntValue a) (RefValue b))
only_equal op (IntValue a) (PermValue b) = int_fraction op a b
only_equal op (BoolValue a) (IntValue b) = own_alike (operated op (BoolValue a) (IntValue b))
only_equal op (BoolValue a) (BoolValue b) = own_alike (operated op (BoolValue a) (BoolValue b))
only_equal op (BoolValue a) (RefValue b) = own_alike (operated op (BoolValue a) (RefValue b))
only_equal Equal (BoolValue a) (PermValue b) = refl
only_equal Less (BoolValue a) (PermValue b) = tt
only_equal LessEqual (BoolValue a) (PermValue b) = tt
only_equal Greater (BoolValue a) (PermValue b) = tt
only_equal GreaterEqual (BoolValue a) (PermValue b) = tt
only_equal Add (BoolValue a) (PermValue b) = tt
only_equal Subtract (BoolValue a) (PermValue b) = tt
only_equal Multiply (BoolValue a) (PermValue b) = tt
only_equal op (RefValue a) (IntValue b) = own_alike (operated op (RefValue a) (IntValue b))
only_equal op (RefValue a) (BoolValue b) = own_alike (operated op (RefValue a) (BoolValue b))
only_equal op (RefValue a) (RefValue b) = own_alike (operated op (RefValue a) (RefValue b))
only_equal Equal (RefValue a) (PermValue b) = refl
only_equal Less (RefValue a) (PermValue b) = tt
only_equal LessEqual (RefValue a) (PermValue b) = tt
only_equal Greater (RefValue a) (PermValue b) = tt
only_equal GreaterEqual (RefValue a) (PermValue b) = tt
only_equal Add (RefValue a) (PermValue b) = tt
only_equal Subtract (RefValue a) (PermValue b) = tt
only_equal Multiply (RefValue a) (PermValue b) = tt
only_equal op (PermValue a) (PermValue b) = fractions_alike op a b
only_equal op (PermValue a) (IntValue b) = on_other op (IntValue b)
  where
    on_other : (op : Operator) (w : Value) → AreAlike (operated op (PermValue a) (IntValue b)) (operated op (PermValue (lowest a)) (IntValue b))
    on_other Equal w = refl
    on_other Less w = tt
    on_other LessEqual w = tt
    on_other Greater w = tt
    on_other GreaterEqual w = tt
    on_other Add w = tt
    on_other Subtract w = tt
    on_other Multiply w = tt
only_equal Equal (PermValue a) (BoolValue b) = refl
only_equal Less (PermValue a) (BoolValue b) = tt
only_equal LessEqual (PermValue a) (BoolValue b) = tt
only_equal Greater (PermValue a) (BoolValue b) = tt
only_equal GreaterEqual (PermValue a) (BoolValue b) = tt
only_equal Add (PermValue a) (BoolValue b) = tt
only_equal Subtract (PermValue a) (BoolValue b) = tt
only_equal Multiply (PermValue a) (BoolValue b) = tt
only_equal Equal (PermValue a) (RefValue b) = refl
only_equal Less (PermValue a) (RefValue b) = tt
only_equal LessEqual (PermValue a) (RefValue b) = tt
only_equal Greater (PermValue a) (RefValue b) = tt
only_equal GreaterEqual (PermValue a) (RefValue b) = tt
only_equal Add (PermValue a) (RefValue b) = tt
only_equal Subtract (PermValue a) (RefValue b) = tt
only_equal Multiply (PermValue a) (RefValue b) = tt

divided_alike : (op : Division) (v w : Value) → AreAlike (divided op v w) (divided op (written v) (written w))
divided_alike op (IntValue a) (IntValue b) = own_alike (divided op (IntValue a) (IntValue b))
divided_alike op (IntValue a) (BoolValue b) = tt
divided_alike op (IntValue a) (RefValue b) = tt
divided_alike op (IntValue a) (PermValue b) = tt
divided_alike op (BoolValue a) w = tt
divided_alike op (RefValue a) w = tt
divided_alike op (PermValue a) w = tt

-- a state whose values are those of another, written
pub record IsWritten (p : Program) (s t : State) : Type 0 where
  pub store : (x : Name) → lookup x t.store ≡ option_map written (lookup x s.store)
  pub heap : (l : Location) → value_at p t.heap l ≡ written (value_at p s.heap l)
  pub old_heap : (l : Location) → value_at p t.old_heap l ≡ written (value_at p s.old_heap l)

found_told : (at : Place) (o p : Option Value) (l : Supply ℕ) → p ≡ option_map written o → Told written o (expect p (Failed at) l)
found_told at None p l e = subst (λ (x : Option Value). Told written None (expect x (Failed at) l)) (sym e) refl
found_told at (Some v) p l e = subst (λ (x : Option Value). Told written (Some v) (expect x (Failed at) l)) (sym e) (v, refl, refl)

module _ (p : Program) where
  abbrev value : State → Expr → Option Value
  value s e = plain.value p no_applications s e

  abbrev values : State → Exprs → Option (List Value)
  values s es = plain.values p no_applications s es

  abbrev evaluated_in : State → Expr → Going ℕ Value
  evaluated_in t e = evaluate p within_128_bits (deeper p within_128_bits 0) Free t e

  abbrev all_evaluated_in : State → Exprs → Going ℕ (List Value)
  all_evaluated_in t es = evaluate_all p within_128_bits (deeper p within_128_bits 0) Free t es

  negated_told : (at : Place) (v : Value) (l : Supply ℕ) → Told written (negated v) (expect (negated (written v)) (Failed at) l)
  negated_told at (BoolValue b) l = (BoolValue (not b), refl, refl)
  negated_told at (IntValue z) l = refl
  negated_told at (RefValue r) l = refl
  negated_told at (PermValue q) l = refl

  connected_told : (at : Place) (c : Connective) (v : Value) (o : Option Value) (m : Going ℕ Value) (l : Supply ℕ) → ((k : Supply ℕ) → Told written o (m k)) →
      Told written (plain.connected c v o) (evaluated.connected at c (written v) m l)
  connected_told at c (BoolValue a) o m l h = go (needs_right c a)
    where
      go : (t : Bool) → Told written (if t then o else Some (BoolValue (without_right c))) (when t m (gives (BoolValue (without_right c))) l)
      go true = h l
      go false = (BoolValue (without_right c), refl, refl)
  connected_told at c (IntValue z) o m l h = refl
  connected_told at c (RefValue r) o m l h = refl
  connected_told at c (PermValue q) o m l h = refl

  side_told : {A B : Type 0} (f : A → B) (at : Place) (v : Value) (o q : Option A) (m n : Going ℕ B) (l : Supply ℕ) → ((k : Supply ℕ) → Told f o (m k)) → ((k : Supply ℕ) → Told f q (n k)) →
      Told f (plain.choose v o q) ((decided at (written v) >>= λ t. when t m n) l)
  side_told f at (BoolValue true) o q m n l h k = h l
  side_told f at (BoolValue false) o q m n l h k = k l
  side_told f at (IntValue z) o q m n l h k = refl
  side_told f at (RefValue r) o q m n l h k = refl
  side_told f at (PermValue z) o q m n l h k = refl

  read_told : (at : Place) (f : Name) (s t : State) (v : Value) (l : Supply ℕ) → IsWritten p s t →
      Told written (plain.read p s f v) ((expect (location_of f (written v)) (Failed at) >>= λ x. expect (read p Free t x) (Failed at)) l)
  read_told at f s t (RefValue r) l h = (value_at p s.heap record { receiver = r; field = f }, refl, sym (h.heap record { receiver = r; field = f }))
  read_told at f s t (IntValue z) l h = refl
  read_told at f s t (BoolValue z) l h = refl
  read_told at f s t (PermValue z) l h = refl

  -- nothing is applied
  never_told : (at : Place) (f : Name) (o : Option (List Value)) (r : Result (List Value × Supply ℕ) Outcome) → Told all_written o r →
      Told written (option_and_then (λ vs. (let n : Option Value = None in n)) o) (continued r (λ vs. step >>= λ _. failing_as (Failed at) (λ k. Err Running)))
  never_told at f o (Ok (vs, l)) t = go o l.steps
    where
      none_of : (o : Option (List Value)) → option_and_then (λ vs. (let n : Option Value = None in n)) o ≡ None
      none_of None = refl
      none_of (Some vs) = refl

      go : (o : Option (List Value)) (n : ℕ) → Told written (option_and_then (λ vs. (let n : Option Value = None in n)) o) ((step >>= λ _. failing_as (Failed at) (λ k. Err Running)) (record { source = l.source; steps = n }))
      go o zero = none_of o
      go o (suc n) = none_of o
  never_told at f o (Err e) t = none_at (λ vs. (let n : Option Value = None in n)) o e t

  mutual
    pub told : (s t : State) → IsWritten p s t → (e : Expr) (l : Supply ℕ) → Told written (value s e) (evaluated_in t e l)
    told s t h (Number at n) l = (IntValue (pos n), refl, refl)
    told s t h (Truth at b) l = (BoolValue b, refl, refl)
    told s t h (Null at) l = (RefValue 0, refl, refl)
    told s t h (Part at n m) l = (PermValue (over n m), refl, refl)
    told s t h (Variable at x) l = found_told at (lookup x s.store) (lookup x t.store) l (h.store x)
    told s t h (Not at e) l = told_on written written (value s e) (evaluated_in t e l) negated (λ v. expect (negated v) (Failed at)) (told s t h e l) (λ v k. negated_told at v k)
    told s t h (Operate at op a b) l =
        told_on written written (value s a) (evaluated_in t a l) (λ v. option_and_then (operated op v) (value s b)) (λ v. evaluated_in t b >>= operate within_128_bits at op v) (told s t h a l)
        (λ v k. told_on written written (value s b) (evaluated_in t b k) (operated op v) (operate within_128_bits at op (written v)) (told s t h b k)
        (λ w j. computed_told at (call_of op) (number_of (written v)) (number_of (written w)) (operated op v w) (operated op (written v) (written w)) j (only_equal op v w)))
    told s t h (Divide at op a b) l =
        told_on written written (value s a) (evaluated_in t a l) (λ v. option_and_then (divided op v) (value s b)) (λ v. evaluated_in t b >>= divide within_128_bits at op v) (told s t h a l)
        (λ v k. told_on written written (value s b) (evaluated_in t b k) (divided op v) (divide within_128_bits at op (written v)) (told s t h b k)
        (λ w j. computed_told at (call_of_division op) (number_of (written v)) (number_of (written w)) (divided op v w) (divided op (written v) (written w)) j (divided_alike op v w)))
    told s t h (Connect at c a b) l =
        told_on written written (value s a) (evaluated_in t a l) (λ v. plain.connected c v (value s b)) (λ v. evaluated.connected at c v (evaluated_in t b)) (told s t h a l)
        (λ v k. connected_told at c v (value s b) (evaluated_in t b) k (λ j. told s t h b j))
    told s t h (Choose at c a b) l =
        told_on written written (value s c) (evaluated_in t c l) (λ v. plain.choose v (value s a) (value s b)) (λ v. decided at v >>= λ x. when x (evaluated_in t a) (evaluated_in t b)) (told s t h c l)
        (λ v k. side_told written at v (value s a) (value s b) (evaluated_in t a) (evaluated_in t b) k (λ j. told s t h a j) (λ j. told s t h b j))
    told s t h (Read at e f) l =
        told_on written written (value s e) (evaluated_in t e l) (plain.read p s f) (λ v. expect (location_of f v) (Failed at) >>= λ x. expect (read p Free t x) (Failed at)) (told s t h e l)
        (λ v k. read_told at f s t v k h)
    told s t h (Old at e) l = told (at_old s) (at_old t) (record { store = h.store; heap = h.old_heap; old_heap = h.old_heap }) e l
    told s t h (Apply at f es) l = never_told at f (values s es) (all_evaluated_in t es l) (all_told s t h es l)
    told s t h (Unfolding at i es share e) l = told s t h e l

    pub all_told : (s t : State) → IsWritten p s t → (es : Exprs) (l : Supply ℕ) → Told all_written (values s es) (all_evaluated_in t es l)
    all_told s t h NoMore l = ([], refl, refl)
    all_told s t h (More e es) l =
        told_on written all_written (value s e) (evaluated_in t e l) (λ v. option_and_then (λ vs. Some (v ∷ vs)) (values s es)) (λ v. all_evaluated_in t es >>= λ vs. gives (v ∷ vs)) (told s t h e l)
        (λ v k. told_on all_written all_written (values s es) (all_evaluated_in t es k) (λ vs. Some (v ∷ vs)) (λ vs. gives (written v ∷ vs)) (all_told s t h es k) (λ vs j. (v ∷ vs, refl, refl)))
