-- What the rows of a Bool term leave of its truth.
use Rattle.std.proofs.Common.{◌≡◌, ℕ, suc, Bool, true, false, not, cond, ◌&&◌, ◌||◌, List, [], ◌∷◌, map, refl}
use Rattle.vx_terms.specs.Terms.{Term, same_bool}
use Rattle.vx_terms.specs.Interpretations.{Element, BoolElement, all_true, some_true}
use Rattle.cs_certificate.specs.Certificate.{Yes, No, At}
use Rattle.cs_classes.specs.Elements.{Assignment}
use Rattle.cs_classes.specs.Agreement.{satisfies}

pub true_is : (r : Bool) → r || false ≡ true → r ≡ true
true_is true e = refl
true_is false e = cc

pub false_is : (r : Bool) → not r || false ≡ true → r ≡ false
false_is true e = cc
false_is false e = refl

pub not_is : (p r : Bool) → not r || (not p || false) ≡ true → r || (p || false) ≡ true → not p ≡ r
not_is true true e f = cc
not_is true false e f = refl
not_is false true e f = refl
not_is false false e f = cc

pub implies_is : (p q r : Bool) → not r || (not p || (q || false)) ≡ true → r || (p || false) ≡ true → r || (not q || false) ≡ true → cond p q true ≡ r
implies_is true true true e f g = refl
implies_is true true false e f g = cc
implies_is true false true e f g = cc
implies_is true false false e f g = refl
implies_is false q true e f g = refl
implies_is false q false e f g = cc

pub ite_is : (c p q r : Bool) → not r || (not c || (p || false)) ≡ true → r || (not c || (not p || false)) ≡ true
    → not r || (c || (q || false)) ≡ true → r || (c || (not q || false)) ≡ true → cond c p q ≡ r
ite_is true true q true e f g h = refl
ite_is true true q false e f g h = cc
ite_is true false q true e f g h = cc
ite_is true false q false e f g h = refl
ite_is false p true true e f g h = refl
ite_is false p true false e f g h = cc
ite_is false p false true e f g h = cc
ite_is false p false false e f g h = refl

pub equal_is : (p q r : Bool) → not r || (not p || (q || false)) ≡ true → not r || (p || (not q || false)) ≡ true
    → r || (p || (q || false)) ≡ true → r || (not p || (not q || false)) ≡ true → same_bool p q ≡ r
equal_is true true true e f g h = refl
equal_is true true false e f g h = cc
equal_is true false true e f g h = cc
equal_is true false false e f g h = refl
equal_is false true true e f g h = cc
equal_is false true false e f g h = refl
equal_is false false true e f g h = refl
equal_is false false false e f g h = cc

-- the truths of terms
abbrev pub bools : Assignment → List Term → List Element
bools s xs = map (λ t. BoolElement (s.truth t)) xs

-- ---- `and`
all_hold : (s : Assignment) (xs : List Term) → ((k : ℕ) (x : Term) → At xs k x → s.truth x ≡ true) → all_true (bools s xs) ≡ true
all_hold s [] h = refl
all_hold s (x ∷ xs) h = both (s.truth x) _ (h 0 x refl) (all_hold s xs (λ k y e. h (suc k) y e))
  where
    both : (a b : Bool) → a ≡ true → b ≡ true → a && b ≡ true
    both true b e f = f
    both false b e f = cc

one_fails : (s : Assignment) (xs : List Term) → satisfies s (map No xs) ≡ true → all_true (bools s xs) ≡ false
one_fails s [] e = cc
one_fails s (x ∷ xs) e = step (s.truth x) _ _ e (one_fails s xs)
  where
    step : (a b c : Bool) → not a || b ≡ true → (b ≡ true → c ≡ false) → a && c ≡ false
    step true b c e f = f e
    step false b c e f = refl

pub all_is : (s : Assignment) (xs : List Term) (r : Bool) → ((k : ℕ) (x : Term) → At xs k x → not r || (s.truth x || false) ≡ true) → r || satisfies s (map No xs) ≡ true → all_true (bools s xs) ≡ r
all_is s xs true h e = all_hold s xs (λ k x a. true_is (s.truth x) (h k x a))
all_is s xs false h e = one_fails s xs e

-- ---- `or`
none_holds : (s : Assignment) (xs : List Term) → ((k : ℕ) (x : Term) → At xs k x → s.truth x ≡ false) → some_true (bools s xs) ≡ false
none_holds s [] h = refl
none_holds s (x ∷ xs) h = neither (s.truth x) _ (h 0 x refl) (none_holds s xs (λ k y e. h (suc k) y e))
  where
    neither : (a b : Bool) → a ≡ false → b ≡ false → a || b ≡ false
    neither true b e f = cc
    neither false b e f = f

one_holds : (s : Assignment) (xs : List Term) → satisfies s (map Yes xs) ≡ true → some_true (bools s xs) ≡ true
one_holds s [] e = cc
one_holds s (x ∷ xs) e = step (s.truth x) _ _ e (one_holds s xs)
  where
    step : (a b c : Bool) → a || b ≡ true → (b ≡ true → c ≡ true) → a || c ≡ true
    step true b c e f = refl
    step false b c e f = f e

pub some_is : (s : Assignment) (xs : List Term) (r : Bool) → ((k : ℕ) (x : Term) → At xs k x → r || (not (s.truth x) || false) ≡ true) → not r || satisfies s (map Yes xs) ≡ true → some_true (bools s xs) ≡ r
some_is s xs true h e = one_holds s xs e
some_is s xs false h e = none_holds s xs (λ k x a. false_is (s.truth x) (h k x a))

-- of two parts
pub and_of_two : (a b : Bool) → cond a b false ≡ (a && (b && true))
and_of_two true true = refl
and_of_two true false = refl
and_of_two false b = refl

pub or_of_two : (a b : Bool) → cond a true b ≡ (a || (b || false))
or_of_two true b = refl
or_of_two false true = refl
or_of_two false false = refl
