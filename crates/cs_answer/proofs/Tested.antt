-- The tests decide which stacks are few.
use Rattle.std.proofs.Common.{◌≡◌, inl, inr, zero, suc, ◌≤◌, nat_le, Bool, true, false, not, ◌&&◌, ◌||◌, List, [], ◌∷◌, Option, Some, None, refl, sym, ap, ◌∙◌, subst}
use Rattle.std.specs.Bool.{Decides}
use Rattle.std.specs.List.{list_all, list_any}
use Rattle.std.proofs.lemmas.Bool.{false≢true, leb-true, le-leb, not-true, or_parts}
use Rattle.std.proofs.lemmas.Bool.Decides.{Decides-and}
use Rattle.std.proofs.lemmas.Option.{same_Some}
use Rattle.vx_terms.specs.Sorts.{Sort, IntSort, BoolSort, RealSort, RefSort, SnapSort, OtherSort}
use Rattle.vx_terms.specs.Terms.{Term, sort_of}
use Rattle.vx_terms.specs.Interpretations.{Each}
use Rattle.vx_terms.proofs.Same.{sort_is}
use Rattle.cs_certificate.specs.Terms.{numbered, HasSort}
use Rattle.cs_certificate.specs.Certificate.{Stack, Contains, IsNumberSort, AreLive}
use Rattle.cs_classes.specs.Agreement.{HasNoNumber}
use Rattle.cs_sorts.specs.Sorting.{sort_in, is_live}
use Rattle.cs_sorts.proofs.Told.{tells_sorts, tells_live}
use Rattle.cs_writable.specs.Writable.{IsWritableTerm}
use Rattle.cs_writable.specs.Tests.{is_writable_term}
use Rattle.cs_writable.proofs.Decided.{writable_term}
use Rattle.cs_answer.specs.Causes.{is_number_sort, is_number}
use Rattle.cs_answer.specs.Few.{few_limit, bool_count, IsFew}
use Rattle.cs_answer.specs.Tests.{are_few, is_bool_sort, is_assertion, are_formed, is_few}

-- ---- none of a list, and each

none_of : {A : Type 0} (test : A → Bool) (xs : List A) → list_any test xs ≡ false → (x : A) → Contains xs x → test x ≡ false
none_of test [] e x (n, at) = cc
none_of test (y ∷ xs) e x (zero, at) = subst (λ z. test z ≡ false) (same_Some _ _ at) (or_parts (test y) (list_any test xs) e).0
none_of test (y ∷ xs) e x (suc n, at) = none_of test xs (or_parts (test y) (list_any test xs) e).1 x (n, at)

any_not : {A : Type 0} (test : A → Bool) (xs : List A) → ((x : A) → Contains xs x → test x ≡ false) → list_any test xs ≡ false
any_not test [] h = refl
any_not test (x ∷ xs) h = ap (λ b. b || list_any test xs) (h x (0, refl)) ∙ any_not test xs (λ y at. h y (suc at.0, at.1))

none_decided : {A : Type 0} (test : A → Bool) (xs : List A) → Decides (not (list_any test xs)) ((x : A) → Contains xs x → test x ≡ false)
none_decided test xs = (λ e. none_of test xs (not-true (list_any test xs) e), λ h. ap not (any_not test xs h))

each_decided : {A : Type 0} (test : A → Bool) (P : A → Type 0) → ((x : A) → Decides (test x) (P x)) → (xs : List A) → Decides (list_all test xs) (Each P xs)
each_decided test P one [] = (λ e. tt, λ h. refl)
each_decided test P one (x ∷ xs) = Decides-and (test x) (list_all test xs) (one x) (each_decided test P one xs)

-- ---- terms

no_number : (a : Sort) → is_number_sort a ≡ false → ¬ (IsNumberSort a)
no_number a e (inl h) = false≢true (sym e ∙ ap is_number_sort h)
no_number a e (inr h) = false≢true (sym e ∙ ap is_number_sort h)

not_number : (a : Sort) → ¬ (IsNumberSort a) → is_number_sort a ≡ false
not_number IntSort h = absurd (h (inl refl))
not_number RealSort h = absurd (h (inr refl))
not_number BoolSort h = refl
not_number RefSort h = refl
not_number SnapSort h = refl
not_number (OtherSort x) h = refl

numbers_decided : (terms : List Term) → Decides (not (list_any is_number terms)) (HasNoNumber terms)
numbers_decided terms =
    let d = none_decided is_number terms in
    (λ e t at. no_number (sort_of t) (d.0 e t at), λ h. d.1 (λ t at. not_number (sort_of t) (h t at)))

count_decided : (terms : List Term) → Decides (nat_le (bool_count terms) few_limit) (bool_count terms ≤ few_limit)
count_decided terms = (λ e. leb-true (bool_count terms) few_limit e, λ h. le-leb (bool_count terms) few_limit h)

-- ---- assertions

bool_is : (o : Option Sort) → is_bool_sort o ≡ true → o ≡ Some BoolSort
bool_is None e = absurd (false≢true e)
bool_is (Some a) e = ap Some (sort_is a BoolSort e)

assertion_decided : (t : Term) → Decides (is_assertion t) (HasSort t BoolSort)
assertion_decided t =
    let told = tells_sorts t BoolSort in
    (λ e. told.0 (bool_is (sort_in t) e), λ h. ap is_bool_sort (told.1 h))

-- ---- stacks

pub few_decided : (stack : Stack) → Decides (is_few stack) (IsFew stack)
few_decided stack =
    let terms = numbered stack.assertions in
    let numbers = not (list_any is_number terms) in
    let count = nat_le (bool_count terms) few_limit in
    let sorted = list_all is_assertion stack.assertions in
    let writable = list_all is_writable_term stack.assertions in
    let live = list_all (is_live stack.symbols) stack.assertions in
    let few = Decides-and numbers count (numbers_decided terms) (count_decided terms) in
    let later = Decides-and writable live (each_decided is_writable_term IsWritableTerm writable_term stack.assertions) (each_decided (is_live stack.symbols) (AreLive stack) (tells_live stack) stack.assertions) in
    let formed = Decides-and sorted (writable && live) (each_decided is_assertion (λ t. HasSort t BoolSort) assertion_decided stack.assertions) later in
    let all = Decides-and (are_few terms) (are_formed stack) few formed in (
      λ e.
          let h = all.0 e in
          record {
            plain = record { formed = record { sorted = h.1.0; live = h.1.1.1; writable = h.1.1.0 }; no_number = h.0.0 };
            few = h.0.1;
          },
      λ h. all.1 ((h.plain.no_number, h.few), (h.plain.formed.sorted, (h.plain.formed.writable, h.plain.formed.live))),
    )
