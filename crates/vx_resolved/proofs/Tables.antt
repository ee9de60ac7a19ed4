-- One member more in a table of numbers, and the member of a number that is found; ranks among the functions, and groups.
use Rattle.std.proofs.Common.{arith, ◌≡◌, ◌∙◌, ap, ap₂, refl, sym, subst, ℕ, zero, suc, ◌+◌, ◌<◌, ◌≤◌, Bool, true, false, cond, List, [], ◌∷◌, ◌++◌, length, map, drop, get_or, append_assoc, add-one, drop-cons, slice_index_or, Option, Some, None, is_some, true≢false, string_bytes}
use Rattle.std.specs.Prelude.{◌&&◌, nat_eq}
use Rattle.std.proofs.lemmas.Bool.Decides.{nat_tests}
use Rattle.std.specs.HashMap.{HashMap, UpdatesBy}
use Rattle.std.specs.Str.{bytes_eq}
use Rattle.vx_ast.specs.Syntax.{Name, Program, Member, Kind, same_name, member_named, function_in}
use Rattle.vx_ast.specs.Mentions.{mentions_of}
use Rattle.vx_rules.specs.Groups.{leads_to, reaches_by, is_in_group, is_function, function_number}
use Rattle.vx_resolved.specs.declared.Member as member'
use Rattle.vx_resolved.specs.Resolved.{member, kind}
use Rattle.vx_resolved.specs.Numbers.{Key, same_key, number_named, ranks_from, AreNumbers}

swapped : (a b : ℕ) → nat_eq a b ≡ nat_eq b a
swapped a b = grind (arith, nat_tests)

same : (x y : List ℕ) → bytes_eq x y ≡ same_name y x
same [] [] = refl
same [] (b ∷ y) = refl
same (a ∷ x) [] = refl
same (a ∷ x) (b ∷ y) = ap₂ (λ s t. s && t) (swapped a b) (same x y)

pub entered : {S : Type 0} (numbers new : HashMap Key ℕ S) (x : Key) (n : ℕ) (m : Member) (ms : Program) → string_bytes x.value ≡ m.name
    → UpdatesBy same_key (same_key x) numbers new (Some n) → AreNumbers numbers (suc n) ms → AreNumbers new n (m ∷ ms)
entered numbers new x n m ms name updates so_far = λ y.
    let test = same (string_bytes x.value) (string_bytes y.value) ∙ ap (same_name (string_bytes y.value)) name in
    updates.0 y ∙ ap₂ (λ b o. cond b (Some n) o) test (so_far y)

some_is : {A : Type 0} {x y : A} → (let o : Option A = Some x in o) ≡ Some y → x ≡ y
some_is {A} {x} e = ap (λ o. elim o as (λ o. A) [ Some z ↦ z | None ↦ x ]) e

none_some : {A B : Type 0} {x : A} → (let o : Option A = None in o) ≡ Some x → B
none_some e = absurd (true≢false (sym (ap is_some e)))

some_none : {A B : Type 0} {x : A} → (let o : Option A = Some x in o) ≡ None → B
some_none e = absurd (true≢false (ap is_some e))

-- the member of a number that is found, where numbers go from n on
abbrev Found : ℕ → List member'.Member → Name → ℕ → Type 0
Found n ms x k = (j : ℕ) × (k ≡ j + n) × (j < length ms) × ((d : member'.Member) → member_named (map member ms) x ≡ Some (kind (slice_index_or ms j d).kind))

found_from : (n : ℕ) (ms : List member'.Member) (x : Name) (k : ℕ) → number_named n (map member ms) x ≡ Some k → Found n ms x k
found_from n [] x k e = none_some e
found_from n (m ∷ ms) x k e = go (same_name x (member m).name) e (found_from (suc n) ms x k)
  where
    Named : Bool → Option Kind
    Named b = elim b as (λ b. Option Kind) [ true ↦ Some (member m).kind | false ↦ member_named (map member ms) x ]

    go : (b : Bool) → cond b (Some n) (number_named (suc n) (map member ms) x) ≡ Some k → (number_named (suc n) (map member ms) x ≡ Some k → Found (suc n) ms x k)
        → (j : ℕ) × (k ≡ j + n) × (j < length (m ∷ ms)) × ((d : member'.Member) → Named b ≡ Some (kind (slice_index_or (m ∷ ms) j d).kind))
    go true e rest = let q = some_is e in (0, omega arith, omega arith, λ d. refl)
    go false e rest = let f = rest e in (suc f.0, subst (λ y. k ≡ y) (omega arith) f.1, (let l = f.2 in omega arith), f.3)

pub found_at : (ms : List member'.Member) (x : Name) (k : ℕ) → number_named 0 (map member ms) x ≡ Some k → (k < length ms) × ((d : member'.Member) → member_named (map member ms) x ≡ Some (kind (slice_index_or ms k d).kind))
found_at ms x k e =
    let f = found_from 0 ms x k e in
    let same : f.0 ≡ k = (let q = f.1 in omega arith) in
    subst (λ j. (j < length ms) × ((d : member'.Member) → member_named (map member ms) x ≡ Some (kind (slice_index_or ms j d).kind))) same (f.2, f.3)

pub not_found : (n : ℕ) (ms : Program) (x : Name) → number_named n ms x ≡ None → member_named ms x ≡ None
not_found n [] x e = refl
not_found n (m ∷ ms) x e = go (same_name x m.name) e (not_found (suc n) ms x)
  where
    go : (b : Bool) → cond b (Some n) (number_named (suc n) ms x) ≡ None → (number_named (suc n) ms x ≡ None → member_named ms x ≡ None)
        → (elim b as (λ b. Option Kind) [ true ↦ Some m.kind | false ↦ member_named ms x ]) ≡ None
    go true e rest = some_none e
    go false e rest = rest e

-- Numbers among the functions

abbrev pub one : Bool → ℕ
one b = cond b 1 0

pub ranks_count : (before : ℕ) (ms : Program) → length (ranks_from before ms) ≡ suc (length ms)
ranks_count before [] = refl
ranks_count before (m ∷ ms) = ap suc (ranks_count (one (is_function m.kind) + before) ms)

shifted : (b : Bool) (before n : ℕ) → (one b + before) + n ≡ before + cond b (suc n) n
shifted true before n = omega arith
shifted false before n = omega arith

-- Where a name is found in the members from a number on, its rank is how many functions stand before it.
abbrev Ranked : ℕ → ℕ → Program → Name → ℕ → Type 0
Ranked n before ms x k = (j : ℕ) × (k ≡ j + n) × (j < suc (length ms)) × ((d : ℕ) → slice_index_or (ranks_from before ms) j d ≡ before + function_number ms x)

ranked_from : (n before : ℕ) (ms : Program) (x : Name) (k : ℕ) → number_named n ms x ≡ Some k → Ranked n before ms x k
ranked_from n before [] x k e = none_some e
ranked_from n before (m ∷ ms) x k e = go (same_name x m.name) e (ranked_from (suc n) (one (is_function m.kind) + before) ms x k)
  where
    go : (b : Bool) → cond b (Some n) (number_named (suc n) ms x) ≡ Some k → (number_named (suc n) ms x ≡ Some k → Ranked (suc n) (one (is_function m.kind) + before) ms x k)
        → (j : ℕ) × (k ≡ j + n) × (j < suc (suc (length ms))) × ((d : ℕ) → slice_index_or (ranks_from before (m ∷ ms)) j d ≡ before + cond b 0 (cond (is_function m.kind) (suc (function_number ms x)) (function_number ms x)))
    go true e rest = let q = some_is e in (0, omega arith, omega arith, λ d. omega arith)
    go false e rest = let f = rest e in (suc f.0, omega (f.1, arith), omega (f.2, arith), λ d. f.3 d ∙ shifted (is_function m.kind) before (function_number ms x))

pub ranked_at : (ms : Program) (x : Name) (k : ℕ) → number_named 0 ms x ≡ Some k → (d : ℕ) → slice_index_or (ranks_from 0 ms) k d ≡ function_number ms x
ranked_at ms x k e d =
    let zero_add : 0 + function_number ms x ≡ function_number ms x = omega arith in
    let f = ranked_from 0 0 ms x k e in
    let same : f.0 ≡ k = (let q = f.1 in omega arith) in
    subst (λ j. slice_index_or (ranks_from 0 ms) j d ≡ function_number ms x) same (f.3 d ∙ zero_add)

ranked_behind : (n before : ℕ) (ms : Program) (x : Name) → number_named n ms x ≡ None → (d : ℕ) → slice_index_or (ranks_from before ms) (length ms) d ≡ before + function_number ms x
ranked_behind n before [] x e d = omega arith
ranked_behind n before (m ∷ ms) x e d = go (same_name x m.name) e (ranked_behind (suc n) (one (is_function m.kind) + before) ms x)
  where
    go : (b : Bool) → cond b (Some n) (number_named (suc n) ms x) ≡ None → (number_named (suc n) ms x ≡ None → (d : ℕ) → slice_index_or (ranks_from (one (is_function m.kind) + before) ms) (length ms) d ≡ (one (is_function m.kind) + before) + function_number ms x)
        → slice_index_or (ranks_from (one (is_function m.kind) + before) ms) (length ms) d ≡ before + cond b 0 (cond (is_function m.kind) (suc (function_number ms x)) (function_number ms x))
    go true e rest = some_none e
    go false e rest = rest e d ∙ shifted (is_function m.kind) before (function_number ms x)

pub ranked_none : (ms : Program) (x : Name) → number_named 0 ms x ≡ None → (d : ℕ) → slice_index_or (ranks_from 0 ms) (length ms) d ≡ function_number ms x
ranked_none ms x e d = ranked_behind 0 0 ms x e d ∙ omega arith

-- Groups

-- what is no function mentions nothing, and so reaches nothing
pub reaches_none : (p : Program) (n : ℕ) (f g : Name) → member_named p f ≡ None → reaches_by p n f g ≡ false
reaches_none p zero f g e = refl
reaches_none p (suc n) f g e = ap (λ k. leads_to (λ x. reaches_by p n x g) g (mentions_of (function_in k))) e

pub no_group : (p : Program) (f g : Name) → number_named 0 p f ≡ None → false ≡ is_in_group p f g
no_group p f g e = sym (ap (λ b. b && reaches_by p (length p) g f) (reaches_none p (length p) f g (not_found 0 p f e)))

and_false : (b : Bool) → (b && false) ≡ false
and_false true = refl
and_false false = refl

pub no_group_of : (p : Program) (f g : Name) → number_named 0 p g ≡ None → false ≡ is_in_group p f g
no_group_of p f g e = sym (ap (λ b. reaches_by p (length p) f g && b) (reaches_none p (length p) g f (not_found 0 p g e)) ∙ and_false (reaches_by p (length p) f g))

-- one member more has its rank
pub ranked_step : (done whole : List ℕ) (before r i : ℕ) (all : List member'.Member) (m : member'.Member) → i < length all → m ≡ get_or all i m → r ≡ one (is_function (member m).kind)
    → done ++ ranks_from before (map member (drop i all)) ≡ whole → (done ++ before ∷ []) ++ ranks_from (before + r) (map member (drop (i + 1) all)) ≡ whole
ranked_step done whole before r i all m lt is count e =
    let here : drop i all ≡ m ∷ drop (i + 1) all = drop-cons all i m lt ∙ ap (λ y. y ∷ drop (suc i) all) (sym is) ∙ ap (λ k. m ∷ drop k all) (sym (add-one i)) in
    let sum : before + r ≡ one (is_function (member m).kind) + before = omega (count, arith) in
    append_assoc done (before ∷ []) (ranks_from (before + r) (map member (drop (i + 1) all)))
    ∙ ap (λ n. done ++ before ∷ ranks_from n (map member (drop (i + 1) all))) sum
    ∙ ap (λ xs. done ++ ranks_from before (map member xs)) (sym here) ∙ e

pub one_at_most : (b : Bool) (before r i : ℕ) → r ≡ one b → before ≤ i → before + r ≤ i + 1
one_at_most true before r i e l = omega (e, l, arith)
one_at_most false before r i e l = omega (e, l, arith)
