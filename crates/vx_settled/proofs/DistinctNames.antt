-- In a typed program each member is the first of its name.
use Rattle.std.proofs.Common.{◌≡◌, ◌∙◌, ◌++◌, ◌+◌, ℕ, zero, suc, Bool, cond, List, [], ◌∷◌, Some, map, slice_get, ap, subst, arith}
use Rattle.vx_ast.specs.Written as written
use Rattle.vx_ast.specs.Resolve as resolve
use Rattle.vx_ast.specs.Resolve.{Names, names_of}
use Rattle.vx_ast.specs.Syntax.{Name, Member}
use Rattle.vx_resolved.specs.Numbers.{number_named}
use Rattle.vx_statements.specs.Statements.{AreNew}
use Rattle.vx_settled.specs.WhenSettled.{DistinctWhenSettled}
use Rattle.vx_settled.proofs.TypedNames.{same_refl, absent, among_last}
use Rattle.vx_settled.proofs.TypedPrograms.{found_later}

same_member : (a b : Member) → Some a ≡ Some b → a ≡ b
same_member a b e = (cc)

-- where numbers go from `start` on
distinct : (names : Names) (before : List Name) (ms : List written.Member) → AreNew before (map (λ m. m.name) ms) → (start n : ℕ) (m : Member) → slice_get (map (resolve.member names) ms) n ≡ Some m →
    number_named start (map (resolve.member names) ms) m.name ≡ Some (start + n)
distinct names before [] new start n m at = (cc)
distinct names before (w ∷ ms) new start zero m at = subst (λ (y : Member). number_named start (map (resolve.member names) (w ∷ ms)) y.name ≡ Some (start + 0)) (same_member (resolve.member names w) m at) here
  where
    here : number_named start (map (resolve.member names) (w ∷ ms)) w.name.name ≡ Some (start + 0)
    here =
        let same : start ≡ start + 0 = omega arith in
        ap (λ (b : Bool). cond b (Some start) (number_named (suc start) (map (resolve.member names) ms) w.name.name)) (same_refl w.name.name) ∙ ap (λ (k : ℕ). Some k) same
distinct names before (w ∷ ms) new start (suc n) m at =
    let same : suc start + n ≡ start + suc n = omega arith in
    ap (λ (b : Bool). cond b (Some start) (number_named (suc start) (map (resolve.member names) ms) m.name))
    (found_later names w.name.name ms (absent w.name.name (before ++ w.name.name ∷ []) ms (among_last w.name.name before) new.1) n m at)
    ∙ (distinct names (before ++ w.name.name ∷ []) ms new.1 (suc start) n m at ∙ ap (λ (k : ℕ). Some k) same)

pub distinct_when_settled : DistinctWhenSettled
distinct_when_settled w typed n m at =
    let same : 0 + n ≡ n = omega arith in
    distinct (names_of w) [] w typed.names 0 n m at ∙ ap (λ (k : ℕ). Some k) same
