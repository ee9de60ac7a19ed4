-- The tests decide which terms and steps are writable.
use Rattle.std.proofs.Common.{◌≡◌, ℕ, suc, ◌^◌, Bool, true, false, ◌&&◌, List, [], ◌∷◌, map, refl}
use Rattle.std.specs.Prelude.{⊤, nat_abs}
use Rattle.std.specs.Bool.{Decides}
use Rattle.std.specs.List.{list_all}
use Rattle.std.proofs.lemmas.Bool.{false≢true}
use Rattle.std.proofs.lemmas.Bool.Decides.{Decides-and, Decides-ltb}
use Rattle.vx_frac.specs.declared.Frac.{Frac}
use Rattle.vx_frac.specs.Fraction.{fraction}
use Rattle.vx_frac.proofs.Reduced.{lowest_fraction}
use Rattle.vx_terms.specs.Terms.{Term, Truth, Number, Part, Constant, Apply, Not, Binary, Ite, AllOf, SomeOf, Terms, NoTerms, MoreTerms}
use Rattle.vx_terms.specs.Interpretations.{Each}
use Rattle.vx_terms.specs.Views.{term}
use Rattle.vx_smt_text.specs.Unique.{has_three}
use Rattle.cs_proof.specs.declared.step.Step.{Step}
use Rattle.cs_proof.specs.declared.step.Step.TheVariants as steps
use Rattle.cs_proof.specs.Views.{written, numbered}
use Rattle.cs_writable.specs.Writable.{has_some, IsSmall, IsSmallLiteral, IsMultiplier, IsWritableTerm, AreWritableTerms, IsWritableStep, AreWritable}
use Rattle.cs_writable.specs.Tests.{is_small, is_small_literal, is_small_fraction, is_writable_term, are_writable_terms, is_writable_step}

-- ---- tests of each

always : Decides true ⊤
always = (λ e. tt, λ h. refl)

never : Decides false ⊥
never = (λ e. false≢true e, λ h. absurd h)

is_true : (b : Bool) → Decides b (b ≡ true)
is_true b = (λ e. e, λ e. e)

both : {P Q : Type 0} (a b : Bool) → Decides a P → Decides b Q → Decides (a && b) (P × Q)
both a b p q = Decides-and a b p q

three : {P Q R : Type 0} (a b c : Bool) → Decides a P → Decides b Q → Decides c R → Decides (a && (b && c)) (P × Q × R)
three a b c p q r =
    let all = Decides-and a (b && c) p (Decides-and b c q r) in
    (λ e. let h = all.0 e in (h.0, h.1.0, h.1.1), λ h. all.1 (h.0, (h.1, h.2)))

-- a list, over what its items are seen as
each : {A B : Type 0} (see : A → B) (test : B → Bool) (P : B → Type 0) → ((x : A) → Decides (test (see x)) (P (see x))) → (xs : List A) → Decides (list_all test (map see xs)) (Each P (map see xs))
each see test P one [] = always
each see test P one (x ∷ xs) = both (test (see x)) (list_all test (map see xs)) (one x) (each see test P one xs)

small : (n : ℕ) → Decides (is_small n) (IsSmall n)
small n = Decides-ltb n (2 ^ 127)

all_small : (ns : List ℕ) → Decides (list_all is_small ns) (Each IsSmall ns)
all_small [] = always
all_small (n ∷ ns) = both (is_small n) (list_all is_small ns) (small n) (all_small ns)

-- ---- terms

mutual
  pub writable_term : (t : Term) → Decides (is_writable_term t) (IsWritableTerm t)
  writable_term (Truth b) = always
  writable_term (Number z) = small (nat_abs z)
  writable_term (Part a) = both (is_small (nat_abs a.numerator)) (is_small (suc a.below)) (small (nat_abs a.numerator)) (small (suc a.below))
  writable_term (Constant f a) = always
  writable_term (Apply f a ts) = both (has_some ts) (are_writable_terms ts) (is_true (has_some ts)) (writable_terms ts)
  writable_term (Not t) = writable_term t
  writable_term (Binary o t u) = both (is_writable_term t) (is_writable_term u) (writable_term t) (writable_term u)
  writable_term (Ite c t u) = three (is_writable_term c) (is_writable_term t) (is_writable_term u) (writable_term c) (writable_term t) (writable_term u)
  writable_term (AllOf ts) = both (has_three ts) (are_writable_terms ts) (is_true (has_three ts)) (writable_terms ts)
  writable_term (SomeOf ts) = both (has_three ts) (are_writable_terms ts) (is_true (has_three ts)) (writable_terms ts)

  writable_terms : (ts : Terms) → Decides (are_writable_terms ts) (AreWritableTerms ts)
  writable_terms NoTerms = always
  writable_terms (MoreTerms t ts) = both (is_writable_term t) (are_writable_terms ts) (writable_term t) (writable_terms ts)

-- ---- steps

multiplier : (f : Frac) → Decides (is_small_fraction (fraction f)) (IsMultiplier (fraction f))
multiplier f =
    let a = fraction f in
    let h = both (is_small (nat_abs a.numerator)) (is_small (suc a.below)) (small (nat_abs a.numerator)) (small (suc a.below)) in
    (λ e. let s = h.0 e in (lowest_fraction f, s.0, s.1), λ m. h.1 (m.1, m.2))

pair : (m n : ℕ) → Decides (is_small m && is_small n) (IsSmall m × IsSmall n)
pair m n = both (is_small m) (is_small n) (small m) (small n)

step : (s : Step) → Decides (is_writable_step (written s)) (IsWritableStep (written s))
step (steps.Input n) = small n
step (steps.Term t) = writable_term (term t.value)
step steps.NoTerm = never
step (steps.Define t k) = pair t k
step (steps.Pick t k) = pair t k
step (steps.Chain ns) = all_small ns.items
step (steps.Congruence s t) = pair s t
step (steps.Farkas ls ms) =
    both (list_all is_small_literal (map numbered ls.items)) (list_all is_small_fraction (map fraction ms.items))
    (each numbered is_small_literal IsSmallLiteral (λ l. small l.number) ls.items) (each fraction is_small_fraction IsMultiplier multiplier ms.items)
step (steps.Split t z) = pair t (nat_abs z)
step (steps.Trichotomy a b) = pair a b
step (steps.Divide a d k) = three (is_small a) (is_small d) (is_small k) (small a) (small d) (small k)
step (steps.Propagate ls hs) =
    both (list_all is_small_literal (map numbered ls.items)) (list_all is_small hs.items)
    (each numbered is_small_literal IsSmallLiteral (λ l. small l.number) ls.items) (all_small hs.items)

pub writable : (ss : List Step) → Decides (list_all is_writable_step (map written ss)) (AreWritable (map written ss))
writable ss = each written is_writable_step IsWritableStep step ss
