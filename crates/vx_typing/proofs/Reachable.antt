-- Whether one member reaches another, as a test.
use Rattle.std.proofs.Common.{◌≡◌, ◌∙◌, refl, sym, ap, subst, ℕ, zero, suc, ◌+◌, ◌<◌, ◌⊎◌, inl, inr, Bool, true, false, ◌&&◌, ◌||◌, length, List, [], ◌∷◌, Option, Some, None, arith, if◌then◌else◌}
use Rattle.std.proofs.lemmas.Bool.{false≢true, eqb-true, or_cases, or_left, or_right}
use Rattle.vx_ast.specs.Syntax.{same_name}
use Rattle.vx_ast.specs.Written.{Name, Member, Program}
use Rattle.vx_typing.specs.Uses.{Use}
use Rattle.vx_typing.specs.Groups.{number_in, number_of, is_number, are_of, uses_by_kind, kind_at, mentions, Reaches, at_once, further, InGroup, reaches_by, in_group, IsOwn, is_own_number, is_own}
use Rattle.vx_expressions.proofs.Passed.{and_parts, and_true}

pub one_of : {P : Type 0} (a b : Bool) → (a ≡ true → P) → (b ≡ true → P) → (a || b) ≡ true → P
one_of true b f g h = f refl
one_of false b f g h = g h

-- two tests that follow from each other
pub as_true : (a b : Bool) → (a ≡ true → b ≡ true) → (b ≡ true → a ≡ true) → a ≡ b
as_true true b f g = sym (f refl)
as_true false true f g = g refl
as_true false false f g = refl

pub less_or_last : (k n : ℕ) → k < suc n → (k < n) ⊎ (k ≡ n)
less_or_last zero zero l = inr refl
less_or_last zero (suc n) l = inl (omega arith)
less_or_last (suc k) zero l = absurd (omega (arith, l))
less_or_last (suc k) (suc n) l = go (less_or_last k n (omega (arith, l)))
  where
    go : (k < n) ⊎ (k ≡ n) → (suc k < suc n) ⊎ (suc k ≡ suc n)
    go (inl h) = inl (omega (arith, h))
    go (inr h) = inr (ap suc h)

-- ---- numbers of members
pick : (n : ℕ) (ms : List Member) (x : Name) (m : Member) (c : ℕ) → (number_in (suc n) ms x ≡ Some c → c < suc n + length ms) → (b : Bool) →
    (if b then Some n else number_in (suc n) ms x) ≡ Some c → c < n + suc (length ms)
pick n ms x m c rest true h = let e : n ≡ c = cc in omega arith
pick n ms x m c rest false h = let l = rest h in omega arith

below : (n : ℕ) (ms : List Member) (x : Name) (c : ℕ) → number_in n ms x ≡ Some c → c < n + length ms
below n [] x c h = cc
below n (m ∷ ms) x c h = pick n ms x m c (below (suc n) ms x c) (same_name x m.name.name) h

pub number_below : (p : Program) (x : Name) (c : ℕ) → number_of p x ≡ Some c → c < length p
number_below p x c h = let l = below 0 p x c h in omega arith

is_that : (o : Option ℕ) (b : ℕ) → is_number o b ≡ true → o ≡ Some b
is_that None b h = absurd (false≢true h)
is_that (Some n) b h = ap Some (eqb-true n b h)

pub are_below : (p : Program) (b : ℕ) (us : List Use) → are_of p b us ≡ true → b < length p
are_below p b [] h = absurd (false≢true h)
are_below p b (u ∷ us) h =
    one_of (is_number (number_of p u.name) b) (are_of p b us) (λ k. number_below p u.name b (is_that (number_of p u.name) b k)) (λ k. are_below p b us k) h

pub mentioned_below : (p : Program) (a b : ℕ) → mentions p a b ≡ true → b < length p
mentioned_below p a b h = are_below p b (uses_by_kind (kind_at p a)) h

module _ (p : Program) where
  pub on : {a b c : ℕ} → Reaches p a b → Reaches p b c → Reaches p a c
  on (at_once h) k = further h k
  on (further h r) k = further h (on r k)

  pub reached_below : {a b : ℕ} → Reaches p a b → b < length p
  reached_below (at_once {a} {b} h) = mentioned_below p a b h
  reached_below (further h r) = reached_below r

  -- ---- from the test
  pub reached : (n a b : ℕ) → reaches_by p n a b ≡ true → Reaches p a b
  reached zero a b h = at_once h
  reached (suc n) a b h =
      one_of (reaches_by p n a b) (reaches_by p n a n && reaches_by p n n b) (λ k. reached n a b k)
      (λ k. let q = and_parts (reaches_by p n a n) (reaches_by p n n b) k in on (reached n a n q.0) (reached n n b q.1)) h

  -- ---- to the test
  more : (n a b : ℕ) → reaches_by p n a b ≡ true → reaches_by p (suc n) a b ≡ true
  more n a b h = or_left (reaches_by p n a b) (reaches_by p n a n && reaches_by p n n b) h

  by_way : (n a b : ℕ) → reaches_by p n a n ≡ true → reaches_by p n n b ≡ true → reaches_by p (suc n) a b ≡ true
  by_way n a b h k = or_right (reaches_by p n a b) (reaches_by p n a n && reaches_by p n n b) (and_true (reaches_by p n a n) (reaches_by p n n b) h k)

  -- the two ways, the old one and the one by the last number
  ways : (n a b : ℕ) → reaches_by p (suc n) a b ≡ true → (reaches_by p n a b ≡ true) ⊎ ((reaches_by p n a n ≡ true) × (reaches_by p n n b ≡ true))
  ways n a b h = go (or_cases (reaches_by p n a b) (reaches_by p n a n && reaches_by p n n b) h)
    where
      go : (reaches_by p n a b ≡ true) ⊎ ((reaches_by p n a n && reaches_by p n n b) ≡ true) → (reaches_by p n a b ≡ true) ⊎ ((reaches_by p n a n ≡ true) × (reaches_by p n n b ≡ true))
      go (inl k) = inl k
      go (inr k) = inr (and_parts (reaches_by p n a n) (reaches_by p n n b) k)

  to_last : (n a : ℕ) → reaches_by p (suc n) a n ≡ true → reaches_by p n a n ≡ true
  to_last n a h = go (ways n a n h)
    where
      go : (reaches_by p n a n ≡ true) ⊎ ((reaches_by p n a n ≡ true) × (reaches_by p n n n ≡ true)) → reaches_by p n a n ≡ true
      go (inl k) = k
      go (inr k) = k.0

  from_last : (n b : ℕ) → reaches_by p (suc n) n b ≡ true → reaches_by p n n b ≡ true
  from_last n b h = go (ways n n b h)
    where
      go : (reaches_by p n n b ≡ true) ⊎ ((reaches_by p n n n ≡ true) × (reaches_by p n n b ≡ true)) → reaches_by p n n b ≡ true
      go (inl k) = k
      go (inr k) = k.1

  abbrev Through : ℕ → Type 0
  Through n = (a k b : ℕ) → k < n → reaches_by p n a k ≡ true → reaches_by p n k b ≡ true → reaches_by p n a b ≡ true

  both : (n a k b : ℕ) → Through n → k < n → (reaches_by p n a k ≡ true) ⊎ ((reaches_by p n a n ≡ true) × (reaches_by p n n k ≡ true)) →
      (reaches_by p n k b ≡ true) ⊎ ((reaches_by p n k n ≡ true) × (reaches_by p n n b ≡ true)) → reaches_by p (suc n) a b ≡ true
  both n a k b rest l (inl h) (inl g) = more n a b (rest a k b l h g)
  both n a k b rest l (inl h) (inr g) = by_way n a b (rest a k n l h g.0) g.1
  both n a k b rest l (inr h) (inl g) = by_way n a b h.0 (rest n k b l h.1 g)
  both n a k b rest l (inr h) (inr g) = by_way n a b h.0 g.1

  one_more : (n a k b : ℕ) → Through n → (k < n) ⊎ (k ≡ n) → reaches_by p (suc n) a k ≡ true → reaches_by p (suc n) k b ≡ true → reaches_by p (suc n) a b ≡ true
  one_more n a k b rest (inl l) h g = both n a k b rest l (ways n a k h) (ways n k b g)
  one_more n a k b rest (inr e) h g = by_way n a b (to_last n a (subst (λ k. reaches_by p (suc n) a k ≡ true) e h)) (from_last n b (subst (λ k. reaches_by p (suc n) k b ≡ true) e g))

  -- through a member that may stand between
  through : (n : ℕ) → Through n
  through zero a k b l h g = absurd (omega (arith, l))
  through (suc n) a k b l h g = one_more n a k b (through n) (less_or_last k n l) h g

  at_first : (n a b : ℕ) → mentions p a b ≡ true → reaches_by p n a b ≡ true
  at_first zero a b h = h
  at_first (suc n) a b h = more n a b (at_first n a b h)

  pub tested : {a b : ℕ} → Reaches p a b → reaches_by p (length p) a b ≡ true
  tested (at_once {a} {b} h) = at_first (length p) a b h
  tested (further {a} {b} {c} h r) = through (length p) a b c (mentioned_below p a b h) (at_first (length p) a b h) (tested r)

  pub grouped : {a b : ℕ} → InGroup p a b → in_group p a b ≡ true
  grouped {a} {b} h = and_true (reaches_by p (length p) a b) (reaches_by p (length p) b a) (tested h.0) (tested h.1)

  pub in_its_group : (a b : ℕ) → in_group p a b ≡ true → InGroup p a b
  in_its_group a b h = let q = and_parts (reaches_by p (length p) a b) (reaches_by p (length p) b a) h in (reached (length p) a b q.0, reached (length p) b a q.1)

  pub own : (a : ℕ) (x : Name) → IsOwn p a x → is_own p a x ≡ true
  own a x h = ap (is_own_number p a) h.1 ∙ grouped h.2

  pub is_its_own : (a : ℕ) (x : Name) → is_own p a x ≡ true → IsOwn p a x
  is_its_own a x h = go (number_of p x) refl h
    where
      go : (o : Option ℕ) → number_of p x ≡ o → is_own_number p a o ≡ true → IsOwn p a x
      go None e h = absurd (false≢true h)
      go (Some b) e h = (b, e, in_its_group a b h)
