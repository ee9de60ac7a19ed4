-- The member of a number that was found by its name.
use Rattle.std.proofs.Common.{◌≡◌, ap, sym, subst, ℕ, suc, ◌+◌, ◌<◌, Bool, true, false, cond, List, [], ◌∷◌, length, Option, Some, None, is_some, true≢false, refl, arith}
use Rattle.std.specs.Prelude.{slice_get}
use Rattle.vx_ast.specs.Syntax.{Name, Program, Member, Kind, same_name, member_named}
use Rattle.vx_resolved.specs.Numbers.{number_named}

some_is : {A : Type 0} {x y : A} → (let o : Option A = Some x in o) ≡ Some y → x ≡ y
some_is {A} {x} e = ap (λ o. elim o as (λ o. A) [ Some z ↦ z | None ↦ x ]) e

none_some : {A B : Type 0} {x : A} → (let o : Option A = None in o) ≡ Some x → B
none_some e = absurd (true≢false (sym (ap is_some e)))

some_none : {A B : Type 0} {x : A} → (let o : Option A = Some x in o) ≡ None → B
some_none e = absurd (true≢false (ap is_some e))

-- where numbers go from n on
abbrev Found : ℕ → Program → Name → ℕ → Type 0
Found n ms x k = (j : ℕ) × (k ≡ j + n) × (j < length ms) × ((m : Member) → slice_get ms j ≡ Some m → member_named ms x ≡ Some m.kind)

found_from : (n : ℕ) (ms : Program) (x : Name) (k : ℕ) → number_named n ms x ≡ Some k → Found n ms x k
found_from n [] x k e = none_some e
found_from n (m ∷ ms) x k e = go (same_name x m.name) e (found_from (suc n) ms x k)
  where
    Named : Bool → Option Kind
    Named b = elim b as (λ b. Option Kind) [ true ↦ Some m.kind | false ↦ member_named ms x ]

    go : (b : Bool) → cond b (Some n) (number_named (suc n) ms x) ≡ Some k → (number_named (suc n) ms x ≡ Some k → Found (suc n) ms x k)
        → (j : ℕ) × (k ≡ j + n) × (j < length (m ∷ ms)) × ((d : Member) → slice_get (m ∷ ms) j ≡ Some d → Named b ≡ Some d.kind)
    go true e rest = let q = some_is e in (0, omega arith, omega arith, λ d g. ap (λ (y : Member). Some y.kind) (some_is g))
    go false e rest = let f = rest e in (suc f.0, subst (λ y. k ≡ y) (omega arith) f.1, (let l = f.2 in omega arith), f.3)

pub found_at : (ms : Program) (x : Name) (k : ℕ) → number_named 0 ms x ≡ Some k → (k < length ms) × ((m : Member) → slice_get ms k ≡ Some m → member_named ms x ≡ Some m.kind)
found_at ms x k e =
    let f = found_from 0 ms x k e in
    let same : f.0 ≡ k = (let q = f.1 in omega arith) in
    subst (λ j. (j < length ms) × ((m : Member) → slice_get ms j ≡ Some m → member_named ms x ≡ Some m.kind)) same (f.2, f.3)

pub not_found : (n : ℕ) (ms : Program) (x : Name) → number_named n ms x ≡ None → member_named ms x ≡ None
not_found n [] x e = refl
not_found n (m ∷ ms) x e = go (same_name x m.name) e (not_found (suc n) ms x)
  where
    go : (b : Bool) → cond b (Some n) (number_named (suc n) ms x) ≡ None → (number_named (suc n) ms x ≡ None → member_named ms x ≡ None)
        → (elim b as (λ b. Option Kind) [ true ↦ Some m.kind | false ↦ member_named ms x ]) ≡ None
    go true e rest = some_none e
    go false e rest = rest e
