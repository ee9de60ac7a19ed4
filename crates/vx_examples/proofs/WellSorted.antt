-- What a well-sorted term says of its parts.
use Rattle.std.proofs.Common.{◌≡◌, ℕ, ◌<◌, pos, true, refl, sym, ap, ◌∙◌, inl, inr, ◌⊎◌, arith}
use Rattle.vx_frac.specs.Fractions.{Fraction, lowest}
use Rattle.vx_terms.specs.Sorts as sort
use Rattle.vx_terms.specs.Sorts.{Sort, IntSort, BoolSort, RealSort, SnapSort, Takes}
use Rattle.vx_terms.specs.Terms as term
use Rattle.vx_terms.specs.Terms.{Term, Terms, NoTerms, MoreTerms}
use Rattle.vx_terms.specs.Formed as formed
use Rattle.vx_terms.specs.Formed.{Formed, FormedAll, FormedBools, IsKnown, no_terms, more_terms, no_bools, more_bools}
use Rattle.vx_terms.proofs.Values.{sort_of_formed}
use Rattle.vx_examples.specs.Words.{int, bool, number, part, denied, plus, chosen_term, first, snap}
use Rattle.vx_examples.specs.Simplified.{truth, half}

-- by the form of the term
abbrev Says : ℕ → Term → Type 0
Says n (term.Part a) = lowest a ≡ a
Says n (term.Constant f a) = IsKnown n f
Says n (term.Apply f a ts) = FormedAll n ts
Says n (term.Not t) = Formed n t BoolSort
Says n (term.Binary o t u) = (a : Sort) × Takes o a × Formed n t a × Formed n u a
Says n (term.Ite c t u) = (a : Sort) × Formed n c BoolSort × Formed n t a × Formed n u a
Says n (term.AllOf ts) = FormedBools n ts
Says n (term.SomeOf ts) = FormedBools n ts
Says n t = Unit {0}

says : {n : ℕ} {t : Term} {a : Sort} → Formed n t a → Says n t
says (formed.truth b) = tt
says (formed.number z) = tt
says (formed.part a e) = e
says (formed.constant f a k) = k
says (formed.applies f a k ts) = ts
says (formed.nots t) = t
says (formed.binary {a = a} w t u) = (a, w, t, u)
says (formed.ites {a = a} c t u) = (a, c, t, u)
says (formed.all_of ts) = ts
says (formed.some_of ts) = ts

abbrev FirstBool : ℕ → Terms → Type 0
FirstBool n NoTerms = Unit {0}
FirstBool n (MoreTerms t ts) = Formed n t BoolSort × FormedBools n ts

first_bool : {n : ℕ} {ts : Terms} → FormedBools n ts → FirstBool n ts
first_bool no_bools = tt
first_bool (more_bools t ts) = (t, ts)

abbrev FirstAny : ℕ → Terms → Type 0
FirstAny n NoTerms = Unit {0}
FirstAny n (MoreTerms t ts) = (a : Sort) × Formed n t a

first_any : {n : ℕ} {ts : Terms} → FormedAll n ts → FirstAny n ts
first_any no_terms = tt
first_any (more_terms a t ts) = (a, t)

bool_no_int : BoolSort ≡ IntSort → ⊥
bool_no_int e = cc

real_no_int : RealSort ≡ IntSort → ⊥
real_no_int e = cc

bool_no_real : BoolSort ≡ RealSort → ⊥
bool_no_real e = cc

int_no_bool : Formed 8 (int 0) BoolSort → ⊥
int_no_bool f = bool_no_int (sym (sort_of_formed f))

pub of_other_sort : Formed 8 truth IntSort → ⊥
of_other_sort f = bool_no_int (sort_of_formed f)

pub fraction : Formed 8 half RealSort
unfolding lowest
fraction = formed.part record { numerator = pos 1; below = 1 } refl

two_no_one : (let a : Fraction = record { numerator = pos 1; below = 1 } in a) ≡ record { numerator = pos 2; below = 3 } → ⊥
two_no_one e = let h = ap (λ (a : Fraction). a.below) e in absurd (omega (arith, h))

pub not_lowest : Formed 8 (part (pos 2) 3) RealSort → ⊥
unfolding lowest
not_lowest f = two_no_one (says f)

pub constant : Formed 8 (int 7) IntSort
constant = formed.constant (sort.Variable 7) IntSort (omega arith)

pub unknown : Formed 8 (int 8) IntSort → ⊥
unknown f = let k : 8 < 8 = says f in absurd (omega (arith, k))

pub applied : Formed 8 (first (snap 7)) SnapSort
applied = formed.applies (sort.Standard 3) SnapSort tt (more_terms SnapSort (formed.constant (sort.Variable 7) SnapSort (omega arith)) no_terms)

pub applied_to_unknown : Formed 8 (first (snap 8)) SnapSort → ⊥
applied_to_unknown f = let k : 8 < 8 = says (first_any (says f)).1 in absurd (omega (arith, k))

a_bool : Formed 8 (bool 0) BoolSort
a_bool = formed.constant (sort.Variable 0) BoolSort (omega arith)

an_int : (k : ℕ) → k < 8 → Formed 8 (int k) IntSort
an_int k l = formed.constant (sort.Variable k) IntSort l

pub denied_bool : Formed 8 (denied (bool 0)) BoolSort
denied_bool = formed.nots a_bool

pub denied_int : Formed 8 (denied (int 0)) BoolSort → ⊥
denied_int f = int_no_bool (says f)

pub sum : Formed 8 (plus (int 0) (number 1)) IntSort
sum = formed.binary (inl refl) (an_int 0 (omega arith)) (formed.number (pos 1))

pub mixed_sum : Formed 8 (plus (int 0) half) IntSort → ⊥
mixed_sum f = let s = says f in real_no_int (sort_of_formed s.3 ∙ sym (sort_of_formed s.2))

pub sum_of_bools : Formed 8 (plus truth truth) BoolSort → ⊥
sum_of_bools f = let s = says f in no_number s.0 (sort_of_formed s.2) s.1
  where
    no_number : (a : Sort) → BoolSort ≡ a → (a ≡ IntSort) ⊎ (a ≡ RealSort) → ⊥
    no_number a e (inl h) = bool_no_int (e ∙ h)
    no_number a e (inr h) = bool_no_real (e ∙ h)

pub choice : Formed 8 (chosen_term (bool 0) (int 1) (number 1)) IntSort
choice = formed.ites a_bool (an_int 1 (omega arith)) (formed.number (pos 1))

pub choice_by_int : Formed 8 (chosen_term (int 0) (int 1) (number 1)) IntSort → ⊥
choice_by_int f = int_no_bool (says f).1

pub mixed_choice : Formed 8 (chosen_term (bool 0) (int 1) half) IntSort → ⊥
mixed_choice f = let s = says f in real_no_int (sort_of_formed s.3 ∙ sym (sort_of_formed s.2))

pub all_of : Formed 8 (term.AllOf (MoreTerms truth (MoreTerms (bool 0) NoTerms))) BoolSort
all_of = formed.all_of (more_bools (formed.truth true) (more_bools a_bool no_bools))

pub all_of_ints : Formed 8 (term.AllOf (MoreTerms (int 0) NoTerms)) BoolSort → ⊥
all_of_ints f = int_no_bool (first_bool (says f)).0

pub some_of : Formed 8 (term.SomeOf NoTerms) BoolSort
some_of = formed.some_of no_bools

pub some_of_ints : Formed 8 (term.SomeOf (MoreTerms truth (MoreTerms (int 0) NoTerms))) BoolSort → ⊥
some_of_ints f = int_no_bool (first_bool (first_bool (says f)).1).0

pub known : IsKnown 8 (sort.Variable 7) × IsKnown 0 (sort.Function 7)
known = (omega arith, tt)

pub not_known : IsKnown 8 (sort.Variable 8) → ⊥
not_known k = absurd (omega (arith, k))
