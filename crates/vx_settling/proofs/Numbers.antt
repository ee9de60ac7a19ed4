-- The members that names stand for.
use Rattle.std.proofs.Common.{◌≡◌, ◌∙◌, refl, ap, subst, ℕ, suc, ◌+◌, ◌<◌, Bool, true, false, cond, [], ◌∷◌, length, Option, Some, None, arith}
use Rattle.std.specs.Prelude.{slice_get}
use Rattle.std.proofs.lemmas.Option.{slice_get_within}
use Rattle.vx_ast.specs.Syntax.{Name, Program, Member, Kind, same_name, member_named}
use Rattle.vx_resolved.specs.Numbers.{number_named}
use Rattle.vx_rules.proofs.Names.{same_name_is}

-- member k is the first of this name
pub record IsNamed (p : Program) (x : Name) (k : ℕ) : Type 0 where
  pub member : Member
  pub here : slice_get p k ≡ Some member
  pub name : x ≡ member.name
  pub named : member_named p x ≡ Some member.kind

same_some : {A : Type 0} (x y : A) → (let o : Option A = Some x in o) ≡ Some y → x ≡ y
same_some x y e = cc

some_none : {A : Type 0} (x : A) → (let o : Option A = Some x in o) ≡ None → ⊥
some_none x e = cc

-- the kind by whether the name is that of the first member
abbrev kind_by : Member → Option Kind → Bool → Option Kind
kind_by m others b = elim b as (λ b. Option Kind) [ true ↦ Some m.kind | false ↦ others ]

-- where the first member has number n
found_from : (n : ℕ) (p : Program) (x : Name) (k : ℕ) → number_named n p x ≡ Some k → (j : ℕ) × (k ≡ j + n) × IsNamed p x j
found_from n [] x k e = cc
found_from n (m ∷ p) x k e = go (same_name x m.name) refl e (found_from (suc n) p x k)
  where
    go : (b : Bool) → same_name x m.name ≡ b → cond b (Some n) (number_named (suc n) p x) ≡ Some k →
        (number_named (suc n) p x ≡ Some k → (j : ℕ) × (k ≡ j + suc n) × IsNamed p x j) → (j : ℕ) × (k ≡ j + n) × IsNamed (m ∷ p) x j
    go true is e more =
        let same = same_some n k e in
        (0, omega arith, record { member = m; here = refl; name = same_name_is x m.name is; named = ap (kind_by m (member_named p x)) is })
    go false is e more =
        let found = more e in
        let k_is = found.1 in
        let it = found.2 in
        (suc found.0, omega arith, record { member = it.member; here = it.here; name = it.name; named = ap (kind_by m (member_named p x)) is ∙ it.named })

pub found : (p : Program) (x : Name) (k : ℕ) → number_named 0 p x ≡ Some k → IsNamed p x k
found p x k e =
    let at = found_from 0 p x k e in
    let k_is = at.1 in
    let same : at.0 ≡ k = omega arith in
    subst (IsNamed p x) same at.2

pub number_below : (p : Program) (x : Name) (k : ℕ) → number_named 0 p x ≡ Some k → k < length p
number_below p x k e = let it = found p x k e in slice_get_within p k it.member it.here

none_from : (n : ℕ) (p : Program) (x : Name) → number_named n p x ≡ None → member_named p x ≡ None
none_from n [] x e = refl
none_from n (m ∷ p) x e = go (same_name x m.name) refl e (none_from (suc n) p x)
  where
    go : (b : Bool) → same_name x m.name ≡ b → cond b (Some n) (number_named (suc n) p x) ≡ None → (number_named (suc n) p x ≡ None → member_named p x ≡ None) → member_named (m ∷ p) x ≡ None
    go true is e more = absurd (some_none n e)
    go false is e more = ap (kind_by m (member_named p x)) is ∙ more e

pub not_found : (p : Program) (x : Name) → number_named 0 p x ≡ None → member_named p x ≡ None
not_found p x e = none_from 0 p x e
