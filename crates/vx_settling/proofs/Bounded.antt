-- A way of any length between functions has one that is no longer than the program. Whoever reaches a function by n steps is
-- counted: one step more adds a member, or nothing is added ever again.
use Rattle.std.proofs.Common.{◌≡◌, ◌∙◌, refl, sym, ap, subst, ℕ, zero, suc, ◌+◌, ◌-◌, ◌<◌, ◌≤◌, ◌⊎◌, inl, inr, Bool, true, false, ◌||◌, List, [], ◌∷◌, length, Option, Some, None, arith}
use Rattle.std.proofs.lemmas.Bool.{false≢true}
use Rattle.vx_ast.specs.Syntax.{Name, same_name, Program, Member, Kind, member_named, function_in, function_named}
use Rattle.vx_ast.specs.Mentions.{mentions_of}
use Rattle.vx_rules.specs.Groups.{leads_to, reaches_by}
use Rattle.vx_rules.proofs.Names.{same_name_is}

abbrev one : Bool → ℕ
one true = 1
one false = 0

-- how many of these members pass
abbrev passing : (Name → Bool) → List Member → ℕ
passing q [] = 0
passing q (m ∷ ms) = one (q m.name) + passing q ms

at_most_all : (q : Name → Bool) (ms : List Member) → passing q ms ≤ length ms
at_most_all q [] = omega arith
at_most_all q (m ∷ ms) = go (q m.name) (at_most_all q ms)
  where
    go : (b : Bool) → passing q ms ≤ length ms → one b + passing q ms ≤ suc (length ms)
    go true l = omega (arith, l)
    go false l = omega (arith, l)

-- the tests agree on these members
abbrev Agree : (Name → Bool) → (Name → Bool) → List Member → Type 0
Agree q r [] = Unit {0}
Agree q r (m ∷ ms) = (q m.name ≡ r m.name) × Agree q r ms

module _ (q r : Name → Bool) (more : (x : Name) → q x ≡ true → r x ≡ true) where
  -- they agree, or the wider test has more
  abbrev Grows : List Member → Type 0
  Grows ms = (passing q ms ≤ passing r ms) × (Agree q r ms ⊎ (passing q ms < passing r ms))

  grows : (ms : List Member) → Grows ms
  grows [] = (omega arith, inl tt)
  grows (m ∷ ms) = go (q m.name) (r m.name) refl refl (grows ms)
    where
      go : (a b : Bool) → q m.name ≡ a → r m.name ≡ b → Grows ms → (one a + passing q ms ≤ one b + passing r ms) × (((a ≡ b) × Agree q r ms) ⊎ (one a + passing q ms < one b + passing r ms))
      go true true e f (l, inl same) = (omega (arith, l), inl (refl, same))
      go true true e f (l, inr less) = (omega (arith, l), inr (omega (arith, less)))
      go true false e f g = absurd (false≢true (sym f ∙ more m.name e))
      go false true e f (l, g) = (omega (arith, l), inr (omega (arith, l)))
      go false false e f (l, inl same) = (omega (arith, l), inl (refl, same))
      go false false e f (l, inr less) = (omega (arith, l), inr (omega (arith, less)))

-- who agree on all members agree on all names that have one
agreed : (q r : Name → Bool) (ms : List Member) → Agree q r ms → (x : Name) → (member_named ms x ≡ None) ⊎ (q x ≡ r x)
agreed q r [] h x = inl refl
agreed q r (m ∷ ms) h x = go (same_name x m.name) refl (agreed q r ms h.1 x)
  where
    go : (b : Bool) → same_name x m.name ≡ b → (member_named ms x ≡ None) ⊎ (q x ≡ r x) → ((elim b as (λ b. Option Kind) [ true ↦ Some m.kind | false ↦ member_named ms x ]) ≡ None) ⊎ (q x ≡ r x)
    go true is rest = inr (subst (λ y. q y ≡ r y) (sym (same_name_is x m.name is)) h.0)
    go false is rest = rest

module _ (p : Program) (g : Name) where
  -- who reaches it by so many steps
  abbrev by : ℕ → Name → Bool
  by n x = reaches_by p n x g

  -- ---- one step more
  led : (q r : Name → Bool) → ((x : Name) → q x ≡ true → r x ≡ true) → (xs : List Name) → leads_to q g xs ≡ true → leads_to r g xs ≡ true
  led q r more [] h = h
  led q r more (x ∷ xs) h = go (same_name g x) (q x) refl h (led q r more xs)
    where
      or_true : (b : Bool) → (b || true) ≡ true
      or_true true = refl
      or_true false = refl

      go : (s a : Bool) → q x ≡ a → (s || a || leads_to q g xs) ≡ true → (leads_to q g xs ≡ true → leads_to r g xs ≡ true) → (s || r x || leads_to r g xs) ≡ true
      go true a e h rest = refl
      go false true e h rest = ap (λ b. b || leads_to r g xs) (more x e)
      go false false e h rest = ap (λ b. r x || b) (rest h) ∙ or_true (r x)

  more : (n : ℕ) (x : Name) → by n x ≡ true → by (suc n) x ≡ true
  more zero x h = absurd (false≢true h)
  more (suc n) x h = led (by n) (by (suc n)) (more n) (mentions_of (function_named p x)) h

  more_by : (k n : ℕ) (x : Name) → by n x ≡ true → by (k + n) x ≡ true
  more_by zero n x h = let same : 0 + n ≡ n = omega arith in subst (λ m. by m x ≡ true) (sym same) h
  more_by (suc k) n x h = let same : suc k + n ≡ suc (k + n) = omega arith in subst (λ m. by m x ≡ true) (sym same) (more (k + n) x (more_by k n x h))

  -- ---- where a step adds nothing
  pub none : (n : ℕ) (x : Name) → member_named p x ≡ None → by n x ≡ false
  none zero x e = refl
  none (suc n) x e = ap (λ k. leads_to (by n) g (mentions_of (function_in k))) e

  abbrev Stays : ℕ → Type 0
  Stays n = by (suc n) ≡ by n

  stays : (n : ℕ) → Agree (by n) (by (suc n)) p → Stays n
  stays n same = λ i x. each x (agreed (by n) (by (suc n)) p same x) i
    where
      each : (x : Name) → (member_named p x ≡ None) ⊎ (by n x ≡ by (suc n) x) → by (suc n) x ≡ by n x
      each x (inl e) = none (suc n) x e ∙ sym (none n x e)
      each x (inr e) = sym e

  -- nothing is added ever again
  stays_on : (n : ℕ) → Stays n → (k : ℕ) → by (k + n) ≡ by n
  stays_on n same zero = let e : 0 + n ≡ n = omega arith in ap by e
  stays_on n same (suc k) =
      let e : suc k + n ≡ suc (k + n) = omega arith in
      ap by e ∙ ap {B = Name → Bool} (λ (q : Name → Bool) (x : Name). leads_to q g (mentions_of (function_named p x))) (stays_on n same k) ∙ same

  -- it stays before n steps, or n members reach it
  abbrev Found : ℕ → Type 0
  Found n = ((m : ℕ) × (m < n) × Stays m) ⊎ (n ≤ passing (by n) p)

  found : (n : ℕ) → Found n
  found zero = inr (omega arith)
  found (suc n) = go (found n) (grows (by n) (by (suc n)) (more n) p)
    where
      go : Found n → Grows (by n) (by (suc n)) (more n) p → Found (suc n)
      go (inl (m, l, same)) g = inl (m, omega (arith, l), same)
      go (inr l) (le, inl same) = inl (n, omega arith, stays n same)
      go (inr l) (le, inr less) = inr (omega (arith, l, less))

  bounded_at : (m n : ℕ) → m < suc (length p) → Stays m → (x : Name) → by n x ≡ true → by (length p) x ≡ true
  bounded_at m n l same x h =
      let swapped : m + n ≡ n + m = omega arith in
      let at : by m x ≡ true = sym (ap (λ (q : Name → Bool). q x) (stays_on m same n)) ∙ subst (λ k. by k x ≡ true) swapped (more_by m n x h) in
      let all : (length p - m) + m ≡ length p = omega (arith, l) in
      subst (λ k. by k x ≡ true) all (more_by (length p - m) m x at)

  -- a way of any length has one that is no longer than the program
  pub bounded : (n : ℕ) (x : Name) → reaches_by p n x g ≡ true → reaches_by p (length p) x g ≡ true
  bounded n x h = go (found (suc (length p)))
    where
      go : Found (suc (length p)) → by (length p) x ≡ true
      go (inl (m, l, same)) = bounded_at m n l same x h
      go (inr l) = let most = at_most_all (by (suc (length p))) p in absurd (omega (arith, l, most))
