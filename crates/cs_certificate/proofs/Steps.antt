-- What each step derives holds, but for combinations.
use Rattle.std.proofs.Common.{◌≡◌, ℕ, zero, suc, Bool, true, false, not, cond, ◌&&◌, ◌||◌, List, [], ◌∷◌, ◌++◌, map, Some, refl, sym, ◌∙◌, ap, ap₂, ◌⊎◌, inl, inr}
use Rattle.std.proofs.lemmas.Bool.{cases_Bool}
use Rattle.vx_terms.specs.Sorts.{BoolSort}
use Rattle.vx_terms.specs.Terms.{Term, Ite, same_bool}
use Rattle.vx_terms.specs.Interpretations.{Element, as_bool, same_element, Interpretation, value, all_true, some_true, Each}
use Rattle.cs_certificate.specs.Terms.{equal, HasSort}
use Rattle.cs_certificate.specs.Certificate.{Literal, Yes, No, negated, Clause, State, At, Contains, Equates, IsAnd, and-of-two, and-of-more, IsOr, or-of-two, or-of-more, Defines, true-is, false-is, not-0, not-1, and-part, and-all, or-part, or-all, implies-0, implies-1, implies-2, ite-0, ite-1, ite-2, ite-3, equal-0, equal-1, equal-2, equal-3, Links, end, link, Pairs, no-pairs, same, differ, LeavesNone, Refutes, ends, forces}
use Rattle.cs_certificate.proofs.Values.{element_is, is_element, values_are, bool_of}
use Rattle.cs_certificate.proofs.Clauses.{is_true, literal_true, clause_true, Holds, or_left, or_right, or_either, append_left, append_right, each_at, each_append, negated_true, all_negated}

-- ---- the table of `def`
not_first : (b : Bool) → not (not b) || (not b || false) ≡ true
not_first true = refl
not_first false = refl

not_second : (b : Bool) → not b || (b || false) ≡ true
not_second true = refl
not_second false = refl

-- the values of the parts of an `and` or an `or`
and_value : (i : Interpretation) {t : Term} {xs : List Term} → IsAnd t xs → is_true i t ≡ all_true (map (value i) xs)
and_value i (and-of-two x y) = two (is_true i x) (is_true i y)
  where
    two : (a b : Bool) → cond a b false ≡ (a && (b && true))
    two true true = refl
    two true false = refl
    two false b = refl
and_value i (and-of-more xs) = ap all_true (values_are i xs)

or_value : (i : Interpretation) {t : Term} {xs : List Term} → IsOr t xs → is_true i t ≡ some_true (map (value i) xs)
or_value i (or-of-two x y) = two (is_true i x) (is_true i y)
  where
    two : (a b : Bool) → cond a true b ≡ (a || (b || false))
    two true b = refl
    two false true = refl
    two false false = refl
or_value i (or-of-more xs) = ap some_true (values_are i xs)

all_true_at : (i : Interpretation) (xs : List Term) (k : ℕ) (x : Term) → At xs k x → all_true (map (value i) xs) ≡ true → is_true i x ≡ true
all_true_at i [] k x e h = cc
all_true_at i (y ∷ ys) zero x e h = ap (is_true i) (some_eq (sym e)) ∙ left (is_true i y) _ h
  where
    some_eq : {A : Type 0} {x y : A} → Some x ≡ Some y → x ≡ y
    some_eq e = cc

    left : (a b : Bool) → a && b ≡ true → a ≡ true
    left true b e = refl
    left false b e = cc
all_true_at i (y ∷ ys) (suc k) x e h = all_true_at i ys k x e (right (is_true i y) _ h)
  where
    right : (a b : Bool) → a && b ≡ true → b ≡ true
    right true b e = e
    right false b e = cc

some_true_at : (i : Interpretation) (xs : List Term) (k : ℕ) (x : Term) → At xs k x → is_true i x ≡ true → some_true (map (value i) xs) ≡ true
some_true_at i [] k x e h = cc
some_true_at i (y ∷ ys) zero x e h = or_left (is_true i y) _ (ap (is_true i) (some_eq e) ∙ h)
  where
    some_eq : {A : Type 0} {x y : A} → Some x ≡ Some y → x ≡ y
    some_eq e = cc
some_true_at i (y ∷ ys) (suc k) x e h = or_right (is_true i y) _ (some_true_at i ys k x e h)

denies : (a b : Bool) → (a ≡ true → b ≡ true) → not a || (b || false) ≡ true
denies true b f = or_left b false (f refl)
denies false b f = refl

denied : (a b : Bool) → (b ≡ true → a ≡ true) → a || (not b || false) ≡ true
denied true b f = refl
denied false true f = cond_absurd (f refl)
  where
    cond_absurd : false ≡ true → false || (not true || false) ≡ true
    cond_absurd e = cc
denied false false f = refl

all_or_not : (i : Interpretation) (xs : List Term) → all_true (map (value i) xs) || clause_true i (map No xs) ≡ true
all_or_not i [] = refl
all_or_not i (x ∷ xs) = step (is_true i x) _ _ (all_or_not i xs)
  where
    step : (a b c : Bool) → b || c ≡ true → (a && b) || (not a || c) ≡ true
    step true b c e = e
    step false b c e = refl

none_or_some : (i : Interpretation) (xs : List Term) → not (some_true (map (value i) xs)) || clause_true i (map Yes xs) ≡ true
none_or_some i [] = refl
none_or_some i (x ∷ xs) = step (is_true i x) _ _ (none_or_some i xs)
  where
    step : (a b c : Bool) → not b || c ≡ true → not (a || b) || (a || c) ≡ true
    step true b c e = refl
    step false b c e = e

imply_0 : (a b : Bool) → not (cond a b true) || (not a || (b || false)) ≡ true
imply_0 true true = refl
imply_0 true false = refl
imply_0 false b = refl

imply_1 : (a b : Bool) → cond a b true || (a || false) ≡ true
imply_1 true true = refl
imply_1 true false = refl
imply_1 false b = refl

imply_2 : (a b : Bool) → cond a b true || (not b || false) ≡ true
imply_2 true true = refl
imply_2 true false = refl
imply_2 false b = refl

ite_0 : (c : Bool) (v w : Element) → not (as_bool (cond c v w)) || (not c || (as_bool v || false)) ≡ true
ite_0 true v w = denies (as_bool v) (as_bool v) (λ e. e)
ite_0 false v w = or_right (not (as_bool w)) _ refl

ite_1 : (c : Bool) (v w : Element) → as_bool (cond c v w) || (not c || (not (as_bool v) || false)) ≡ true
ite_1 true v w = denied (as_bool v) (as_bool v) (λ e. e)
ite_1 false v w = or_right (as_bool w) _ refl

ite_2 : (c : Bool) (v w : Element) → not (as_bool (cond c v w)) || (c || (as_bool w || false)) ≡ true
ite_2 true v w = or_right (not (as_bool v)) _ refl
ite_2 false v w = denies (as_bool w) (as_bool w) (λ e. e)

ite_3 : (c : Bool) (v w : Element) → as_bool (cond c v w) || (c || (not (as_bool w) || false)) ≡ true
ite_3 true v w = or_right (as_bool v) _ refl
ite_3 false v w = denied (as_bool w) (as_bool w) (λ e. e)

same_bools : (i : Interpretation) (x y : Term) → HasSort x BoolSort → HasSort y BoolSort → is_true i (equal x y) ≡ same_bool (is_true i x) (is_true i y)
same_bools i x y f g = ap₂ same_element (bool_of i x f) (bool_of i y g)

equal_0 : (a b : Bool) → not (same_bool a b) || (not a || (b || false)) ≡ true
equal_0 true true = refl
equal_0 true false = refl
equal_0 false b = or_right (not (not b)) _ refl

equal_1 : (a b : Bool) → not (same_bool a b) || (a || (not b || false)) ≡ true
equal_1 true b = or_right (not b) _ refl
equal_1 false true = refl
equal_1 false false = refl

equal_2 : (a b : Bool) → same_bool a b || (a || (b || false)) ≡ true
equal_2 true b = or_right b _ refl
equal_2 false true = refl
equal_2 false false = refl

equal_3 : (a b : Bool) → same_bool a b || (not a || (not b || false)) ≡ true
equal_3 true true = refl
equal_3 true false = refl
equal_3 false b = or_right (not b) _ refl

pub define_holds : (i : Interpretation) {t : Term} {k : ℕ} {c : Clause} → Defines t k c → Holds i c
define_holds i true-is = record { holds = refl }
define_holds i false-is = record { holds = refl }
define_holds i (not-0 x) = record { holds = not_first (is_true i x) }
define_holds i (not-1 x) = record { holds = not_second (is_true i x) }
define_holds i (and-part {x = x} {xs = xs} {k = k} h e) = record { holds = denies _ _ (λ g. all_true_at i xs k x e (sym (and_value i h) ∙ g)) }
define_holds i (and-all {xs = xs} h) = record { holds = ap (λ b. b || clause_true i (map No xs)) (and_value i h) ∙ all_or_not i xs }
define_holds i (or-part {x = x} {xs = xs} {k = k} h e) = record { holds = denied _ _ (λ g. or_value i h ∙ some_true_at i xs k x e g) }
define_holds i (or-all {xs = xs} h) = record { holds = ap (λ b. not b || clause_true i (map Yes xs)) (or_value i h) ∙ none_or_some i xs }
define_holds i (implies-0 x y) = record { holds = imply_0 (is_true i x) (is_true i y) }
define_holds i (implies-1 x y) = record { holds = imply_1 (is_true i x) (is_true i y) }
define_holds i (implies-2 x y) = record { holds = imply_2 (is_true i x) (is_true i y) }
define_holds i (ite-0 c x y s) = record { holds = ite_0 (is_true i c) (value i x) (value i y) }
define_holds i (ite-1 c x y s) = record { holds = ite_1 (is_true i c) (value i x) (value i y) }
define_holds i (ite-2 c x y s) = record { holds = ite_2 (is_true i c) (value i x) (value i y) }
define_holds i (ite-3 c x y s) = record { holds = ite_3 (is_true i c) (value i x) (value i y) }
define_holds i (equal-0 x y f g) = record { holds = ap (λ b. not b || (not (is_true i x) || (is_true i y || false))) (same_bools i x y f g) ∙ equal_0 (is_true i x) (is_true i y) }
define_holds i (equal-1 x y f g) = record { holds = ap (λ b. not b || (is_true i x || (not (is_true i y) || false))) (same_bools i x y f g) ∙ equal_1 (is_true i x) (is_true i y) }
define_holds i (equal-2 x y f g) = record { holds = ap (λ b. b || (is_true i x || (is_true i y || false))) (same_bools i x y f g) ∙ equal_2 (is_true i x) (is_true i y) }
define_holds i (equal-3 x y f g) = record { holds = ap (λ b. b || (not (is_true i x) || (not (is_true i y) || false))) (same_bools i x y f g) ∙ equal_3 (is_true i x) (is_true i y) }

-- ---- equalities
pub equates_true : (i : Interpretation) (s : State) {a b e : Term} → Equates s a b e → value i a ≡ value i b → is_true i e ≡ true
equates_true i s {a = a} {b = b} q h = elim q.equality [
  | inl p ↦ ap (is_true i) p ∙ is_element (value i a) (value i b) h
  | inr p ↦ ap (is_true i) p ∙ is_element (value i b) (value i a) (sym h)
]

pub true_equates : (i : Interpretation) (s : State) {a b e : Term} → Equates s a b e → is_true i e ≡ true → value i a ≡ value i b
true_equates i s {a = a} {b = b} q h = elim q.equality [
  | inl p ↦ element_is (value i a) (value i b) (sym (ap (is_true i) p) ∙ h)
  | inr p ↦ sym (element_is (value i b) (value i a) (sym (ap (is_true i) p) ∙ h))
]

pub links_hold : (i : Interpretation) (s : State) {t u : Term} {ts : List Term} {c : Clause} → Links s t ts u c → (clause_true i c ≡ true) ⊎ (value i t ≡ value i u)
links_hold i s (end t) = inr refl
links_hold i s (link {e = e} {c = c} q l) = elim (cases_Bool (is_true i e)) [
  | inl h ↦ elim (links_hold i s l) [
    | inl g ↦ inl (or_right (not (is_true i e)) _ g)
    | inr g ↦ inr (true_equates i s q h ∙ g)
  ]
  | inr h ↦ inl (or_left (not (is_true i e)) (clause_true i c) (ap not h))
]

pub pairs_hold : (i : Interpretation) (s : State) {xs ys : List Term} {c : Clause} → Pairs s xs ys c → (clause_true i c ≡ true) ⊎ (map (value i) xs ≡ map (value i) ys)
pairs_hold i s no-pairs = inr refl
pairs_hold i s (same {a = a} p) = elim (pairs_hold i s p) [
  | inl g ↦ inl g
  | inr g ↦ inr (ap (λ es. value i a ∷ es) g)
]
pairs_hold i s (differ {e = e} {c = c} n q p) = elim (cases_Bool (is_true i e)) [
  | inl h ↦ elim (pairs_hold i s p) [
    | inl g ↦ inl (or_right (not (is_true i e)) _ g)
    | inr g ↦ inr (ap₂ (λ d es. d ∷ es) (true_equates i s q h) g)
  ]
  | inr h ↦ inl (or_left (not (is_true i e)) (clause_true i c) (ap not h))
]

pub last_holds : (i : Interpretation) (c : Clause) (e : Term) → (clause_true i c ≡ true) ⊎ (is_true i e ≡ true) → Holds i (c ++ Yes e ∷ [])
last_holds i c e h = record {
  holds = elim h [
    | inl g ↦ append_left i c (Yes e ∷ []) g
    | inr g ↦ append_right i c (Yes e ∷ []) (or_left (is_true i e) false g)
  ];
}

-- ---- hints
none_left : (i : Interpretation) (assumed : List Literal) (c : Clause) → Each (λ l. literal_true i l ≡ true) assumed → LeavesNone assumed c → clause_true i c ≡ true → ⊥
none_left i assumed [] h n e = cc
none_left i assumed (m ∷ c) h n e = elim (or_either (literal_true i m) (clause_true i c) e) [
  | inl g ↦ (let f = negated_true i m (each_at (λ l. literal_true i l ≡ true) assumed _ _ h n.0.1) in cc)
  | inr g ↦ none_left i assumed c h n.1 g
]

only_left : (i : Interpretation) (assumed : List Literal) (c : Clause) (l : Literal) → Each (λ l. literal_true i l ≡ true) assumed → Each (λ m. (m ≡ l) ⊎ Contains assumed (negated m)) c → clause_true i c ≡ true → literal_true i l ≡ true
only_left i assumed [] l h n e = cc
only_left i assumed (m ∷ c) l h n e = elim (or_either (literal_true i m) (clause_true i c) e) [
  | inl g ↦ elim n.0 [
    | inl q ↦ ap (literal_true i) (sym q) ∙ g
    | inr q ↦ absurd (let f = negated_true i m (each_at (λ l. literal_true i l ≡ true) assumed _ _ h q.1) in let both : true ≡ false = sym g ∙ f in cc)
  ]
  | inr g ↦ only_left i assumed c l h n.1 g
]

pub refutes_all : (i : Interpretation) (s : State) {assumed : List Literal} {hs : List ℕ} → Each (Holds i) s.clauses → Each (λ l. literal_true i l ≡ true) assumed → Refutes s assumed hs → ⊥
refutes_all i s k h (ends {assumed = assumed} {h = n} {c = c} e left) = none_left i assumed c h left (each_at (Holds i) s.clauses n c k e).holds
refutes_all i s k h (forces {assumed = assumed} {h = n} {c = c} {l = l} e fresh left r) =
    refutes_all i s k (each_append (λ l. literal_true i l ≡ true) assumed l h (only_left i assumed c l h left.1 (each_at (Holds i) s.clauses n c k e).holds)) r

pub propagate_holds : (i : Interpretation) (s : State) (c : Clause) {hs : List ℕ} → Each (Holds i) s.clauses → Refutes s (map negated c) hs → Holds i c
propagate_holds i s c k r = elim (cases_Bool (clause_true i c)) [
  | inl h ↦ record { holds = h }
  | inr h ↦ absurd (refutes_all i s k (all_negated i c h) r)
]

pub pick_holds : (i : Interpretation) (s : State) (c x y e : Term) → Equates s (Ite c x y) x e → Holds i (No c ∷ Yes e ∷ [])
pick_holds i s c x y e q = record { holds = denies (is_true i c) (is_true i e) (λ h. equates_true i s q (ap (λ b. cond b (value i x) (value i y)) h)) }

pub unpicked_holds : (i : Interpretation) (s : State) (c x y e : Term) → Equates s (Ite c x y) y e → Holds i (Yes c ∷ Yes e ∷ [])
unpicked_holds i s c x y e q = record {
  holds = elim (cases_Bool (is_true i c)) [
    | inl h ↦ or_left (is_true i c) _ h
    | inr h ↦ or_right (is_true i c) _ (or_left (is_true i e) false (equates_true i s q (ap (λ b. cond b (value i x) (value i y)) h)))
  ];
}
