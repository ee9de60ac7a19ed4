-- Where no member is entered within itself, no more are entered one from another than there are members.
use Rattle.std.proofs.Common.{◌≡◌, ◌⊎◌, inl, inr, ℕ, zero, suc, ◌≤◌, ◌<◌, Bool, true, false, cond, List, [], ◌∷◌, ◌++◌, length, map, Option, Some, None, refl, sym, ap, ◌∙◌, subst, arith, true≢false, is_some, le_refl, ap₂, eqb-true, eq-eqb, ◌&&◌}
use Rattle.std.proofs.lemmas.Bool.{and_parts}
use Rattle.vx_ast.specs.Syntax.{Name, same_name, Program, Kind, function_in, predicate_in, member_named, function_named, predicate_named}
use Rattle.vx_terms.specs.Interpretations.{Each}
use Rattle.vx_depth.specs.Entering.{entered_by_function, entered_by_predicate, entered_from, IsWithin, LeadsBy, NoneWithinItself}
use Rattle.vx_ast.specs.Apart.{Stands}

same_is : (x y : Name) → same_name x y ≡ true → x ≡ y
same_is [] [] e = refl
same_is (a ∷ x) (b ∷ y) e = let q = and_parts _ _ e in ap₂ (λ c z. c ∷ z) (eqb-true a b q.0) (same_is x y q.1)
same_is [] (b ∷ y) e = absurd (true≢false (sym e))
same_is (a ∷ x) [] e = absurd (true≢false (sym e))

abbrev names : Program → List Name
names p = map (λ m. m.name) p

-- a list without a name
abbrev without : Name → List Name → List Name
without x [] = []
without x (y ∷ ys) = cond (same_name x y) (without x ys) (y ∷ without x ys)

shorter_or_as_long : (x : Name) (ys : List Name) → length (without x ys) ≤ length ys
shorter_or_as_long x [] = omega arith
shorter_or_as_long x (y ∷ ys) = go (same_name x y) (shorter_or_as_long x ys)
  where
    go : (b : Bool) → length (without x ys) ≤ length ys → length (cond b (without x ys) (y ∷ without x ys)) ≤ suc (length ys)
    go true h = omega (arith, h)
    go false h = omega (arith, h)

same_itself : (x : Name) → same_name x x ≡ true
same_itself [] = refl
same_itself (a ∷ x) = ap₂ (λ b c. b && c) (eq-eqb a a refl) (same_itself x)

shorter : (x : Name) (ys : List Name) → Stands x ys → length (without x ys) < length ys
shorter x [] h = absurd h
shorter x (y ∷ ys) (inl e) = subst (λ b. length (cond b (without x ys) (y ∷ without x ys)) < suc (length ys)) (sym (ap (same_name x) (sym e) ∙ same_itself x)) (let h = shorter_or_as_long x ys in omega (arith, h))
shorter x (y ∷ ys) (inr h) = go (same_name x y) (shorter x ys h)
  where
    go : (b : Bool) → length (without x ys) < length ys → length (cond b (without x ys) (y ∷ without x ys)) < suc (length ys)
    go true h = omega (arith, h)
    go false h = omega (arith, h)

still_stands : (x z : Name) (ys : List Name) → (x ≡ z → ⊥) → Stands z ys → Stands z (without x ys)
still_stands x z [] n h = h
still_stands x z (y ∷ ys) n h = go (same_name x y) refl h (still_stands x z ys n)
  where
    go : (b : Bool) → same_name x y ≡ b → Stands z (y ∷ ys) → (Stands z ys → Stands z (without x ys)) → Stands z (cond b (without x ys) (y ∷ without x ys))
    go true e (inl q) k = absurd (n (same_is x y e ∙ sym q))
    go true e (inr q) k = k q
    go false e (inl q) k = inl q
    go false e (inr q) k = inr (k q)

each_of : {P : Name → Type 0} (xs : List Name) → ((y : Name) → Stands y xs → P y) → Each P xs
each_of [] h = tt
each_of (x ∷ xs) h = (h x (inl refl), each_of xs (λ y s. h y (inr s)))

member_stands : (p : Program) (x : Name) (k : Kind) → member_named p x ≡ Some k → Stands x (names p)
member_stands [] x k e = absurd (true≢false (ap is_some (sym e)))
member_stands (m ∷ ms) x k e = go (same_name x m.name) refl e (member_stands ms x k)
  where
    go : (b : Bool) → same_name x m.name ≡ b → elim b as (λ b. Option Kind) [ true ↦ Some m.kind | false ↦ member_named ms x ] ≡ Some k → (member_named ms x ≡ Some k → Stands x (names ms)) → Stands x (names (m ∷ ms))
    go true q e h = inl (same_is x m.name q)
    go false q e h = inr (h e)

-- a name of no function and no predicate, or a member's
decided : (p : Program) (x : Name) → ((function_named p x ≡ None) × (predicate_named p x ≡ None)) ⊎ Stands x (names p)
decided p x = go (member_named p x) refl
  where
    go : (o : Option Kind) → member_named p x ≡ o → ((function_in (member_named p x) ≡ None) × (predicate_in (member_named p x) ≡ None)) ⊎ Stands x (names p)
    go None e = inl (ap function_in e, ap predicate_in e)
    go (Some k) e = inr (member_stands p x k e)

as_many : (p : Program) → length (names p) ≡ length p
as_many [] = refl
as_many (m ∷ ms) = ap suc (as_many ms)

module _ (p : Program) (apart : NoneWithinItself p) where
  -- those that can be entered from x, itself too, stand in a list
  abbrev Covers : List Name → Name → Type 0
  Covers rest x = (Stands x (names p) → Stands x rest) × ((n : ℕ) (y : Name) → LeadsBy p n x y → Stands y (names p) → Stands y rest)

  covers_next : (rest : List Name) (x y : Name) → Covers rest x → Stands y (entered_from p x) → Covers (without x rest) y
  covers_next rest x y c s = (
    λ m. still_stands x y rest (λ e. apart 1 x (inl (subst (λ z. Stands z (entered_from p x)) (sym e) s))) (c.1 1 y (inl s) m),
    λ n z l m. still_stands x z rest (λ e. apart (suc n) x (inr (y, s, subst (LeadsBy p n y) (sym e) l))) (c.1 (suc n) z (inr (y, s, l)) m),
  )

  none_entered : (n : ℕ) (x : Name) → function_named p x ≡ None → predicate_named p x ≡ None → IsWithin p n x
  none_entered zero x e f = (e, f)
  none_entered (suc n) x e f = subst (λ o. Each (IsWithin p n) (entered_by_function o ++ entered_by_predicate (predicate_named p x))) (sym e)
      (subst (λ o. Each (IsWithin p n) (entered_by_predicate o)) (sym f) tt)

  none_left : (rest : List Name) → length rest ≤ 0 → (x : Name) → Covers rest x → ((function_named p x ≡ None) × (predicate_named p x ≡ None)) ⊎ Stands x (names p) → IsWithin p 0 x
  none_left rest m x c (inl h) = h
  none_left rest m x c (inr h) = let k = shorter x rest (c.0 h) in absurd (omega (arith, k, m))

  one_more : (n : ℕ) → ((rest : List Name) → length rest ≤ n → (x : Name) → Covers rest x → IsWithin p n x) → (rest : List Name) → length rest ≤ suc n → (x : Name) → Covers rest x →
      ((function_named p x ≡ None) × (predicate_named p x ≡ None)) ⊎ Stands x (names p) → IsWithin p (suc n) x
  one_more n ih rest m x c (inl h) = none_entered (suc n) x h.0 h.1
  one_more n ih rest m x c (inr h) =
      let k = shorter x rest (c.0 h) in
      each_of (entered_from p x) (λ y q. ih (without x rest) (omega (arith, k, m)) y (covers_next rest x y c q))

  within : (n : ℕ) (rest : List Name) → length rest ≤ n → (x : Name) → Covers rest x → IsWithin p n x
  within zero rest m x c = none_left rest m x c (decided p x)
  within (suc n) rest m x c = one_more n (within n) rest m x c (decided p x)

  pub all_within : (x : Name) → IsWithin p (length p) x
  all_within x = within (length p) (names p) (subst (λ k. k ≤ length p) (sym (as_many p)) (le_refl _)) x (λ m. m, λ n y l m. m)
