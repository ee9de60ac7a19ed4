-- Further merges.
use Rattle.std.proofs.Common.{◌≡◌, ℕ, ◌<◌, ◌+◌, inl, inr, List, [], ◌∷◌, ◌++◌, length, take, refl, sym, ◌∙◌, ap, ap₂, cond, subst, arith, eq-eqb, ne_eqb}
use Rattle.std.proofs.lemmas.List.{length-append, take_all, take_at}
use Rattle.cs_cong.specs.declared.congruent.Applied.{Applied}
use Rattle.cs_cong.specs.declared.merges.Merge.{Merge}
use Rattle.cs_cong.specs.declared.merges.Reason.{Reason}
use Rattle.cs_cong.specs.declared.waiting.Waiting.{Waiting}
use Rattle.cs_cong.specs.Merged.{current, with_merge, IsMerged, IsLonger}
use Rattle.cs_cong.specs.Settled.{IsSettled}
use Rattle.cs_cong.proofs.Grown.{with_cases}

pub longer_same : (old new : List Merge) → new ≡ old → IsLonger old new
longer_same old new e = subst (IsLonger old) (sym e) record { front = take_all (length old) old (omega arith); longer = omega arith }

longer_one : (old : List Merge) (m : Merge) → IsLonger old (old ++ m ∷ [])
longer_one old m = record { front = take_at old (m ∷ []) (length old) refl; longer = (let long : length (old ++ m ∷ []) ≡ length old + 1 = length-append old (m ∷ []) in omega arith) }

pub longer_merged : (old new : List Merge) (a b : ℕ) (why : Reason) → new ≡ with_merge old a b why → IsLonger old new
longer_merged old new a b why e = subst (IsLonger old) (sym e) (with_cases (IsLonger old) old a b why (λ h. longer_same old old refl) (longer_one old record { left = a; right = b; reason = why; moved = current old a }))

-- merged in one class
pub same_log : (old new : List Merge) (a b : ℕ) (why : Reason) → new ≡ with_merge old a b why → current old a ≡ current old b → new ≡ old
same_log old new a b why e same = e ∙ ap (λ t. cond t old (old ++ record { left = a; right = b; reason = why; moved = current old a } ∷ [])) (eq-eqb _ _ same)

pub settled_again : (terms : List Applied) (old new : List Merge) (w : Waiting) → new ≡ old → IsSettled terms (current old) w → IsSettled terms (current new) w
settled_again terms old new w e s = subst (λ (l : List Merge). IsSettled terms (current l) w) (sym e) s

-- merged from two classes
more_apart : (old new : List Merge) (a b : ℕ) (why : Reason) → new ≡ with_merge old a b why → (current old a ≡ current old b → ⊥) → length old < length new
more_apart old new a b why e apart =
    let m : Merge = record { left = a; right = b; reason = why; moved = current old a } in
    let long : length (old ++ m ∷ []) ≡ length old + 1 = length-append old (m ∷ []) in
    let is : new ≡ old ++ m ∷ [] = e ∙ ap (λ t. cond t old (old ++ m ∷ [])) (ne_eqb _ _ apart) in
    omega (arith, long, ap length is)

pub longer_apart : (old new : List Merge) (a b : ℕ) (why : Reason) → IsMerged old a b why new → (current old a ≡ current old b → ⊥) → length old < length new
longer_apart old new a b why (inl e) apart = more_apart old new a b why e apart
longer_apart old new a b why (inr e) apart = more_apart old new b a why e (λ h. apart (sym h))

-- back before what was added
pub taken_back : {A : Type 0} (xs ys zs : List A) (x : A) (n : ℕ) → zs ≡ take n ys → ys ≡ xs ++ x ∷ [] → n ≡ length xs → zs ≡ xs
taken_back xs ys zs x n e f g = e ∙ ap₂ take g f ∙ take_at xs (x ∷ []) (length xs) refl
