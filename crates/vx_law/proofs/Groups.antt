-- The groups that are decided by computing are those of ways of any length: a way can be cut until no function is met twice, and then it is
-- no longer than the program.
use Rattle.std.proofs.Common.{◌≡◌, ◌⊎◌, inl, inr, ℕ, zero, suc, ◌<◌, ◌≤◌, Bool, true, false, ◌||◌, ◌&&◌, List, [], ◌∷◌, length, Option, Some, None, refl, sym, ◌∙◌, ap, subst, arith, true≢false}
use Rattle.std.specs.Prelude.{Contains}
use Rattle.std.proofs.lemmas.Bool.{and_from, and_parts}
use Rattle.vx_ast.specs.Syntax.{Name, same_name, Program, Function, function_named}
use Rattle.vx_ast.specs.Mentions.{mentions_of, mentioned_by_function}
use Rattle.vx_ast.specs.Apart.{Stands}
use Rattle.vx_rules.specs.Groups.{leads_to, reaches_by, is_in_group}
use Rattle.vx_rules.proofs.Names.{same_name_is}
use Rattle.vx_meaning.specs.Group.{Mentions, ReachesBy, Reaches, InGroup}
use Rattle.vx_elements.proofs.Lists.{name_same}
use Rattle.vx_law.specs.Measures.{GroupsAgree}
use Rattle.vx_law.proofs.Names.{names_of, named_stands, without, stays_in, fewer_names}

-- Names that stand in a list, by index and by cases

here : (n : ℕ) → 0 < suc n
here n = omega arith

next_lower : (k n : ℕ) → suc k < suc n → k < n
next_lower k n l = omega (arith, l)

next_higher : (k n : ℕ) → k < n → suc k < suc n
next_higher k n l = omega (arith, l)

none_lower : (k : ℕ) → k < 0 → ⊥
none_lower k l = omega (arith, l)

pub contained : (ys : List Name) (y : Name) → Contains ys y → Stands y ys
contained [] y (k, l, e) = none_lower k l
contained (z ∷ ys) y (zero, l, e) = inl (sym e)
contained (z ∷ ys) y (suc k, l, e) = inr (contained ys y (k, next_lower k (length ys) l, e))

pub contains : (ys : List Name) (y : Name) → Stands y ys → Contains ys y
contains [] y s = absurd s
contains (z ∷ ys) y (inl e) = (0, here (length ys), sym e)
contains (z ∷ ys) y (inr s) = let k = contains ys y s in (suc k.0, next_higher k.0 (length ys) k.1, k.2)

-- One step that is decided

first_true : (a b c : Bool) → a ≡ true → (a || b || c) ≡ true
first_true true b c e = refl
first_true false b c e = absurd (true≢false (sym e))

second_true : (a b c : Bool) → b ≡ true → (a || b || c) ≡ true
second_true true b c e = refl
second_true false true c e = refl
second_true false false c e = absurd (true≢false (sym e))

third_true : (a b c : Bool) → c ≡ true → (a || b || c) ≡ true
third_true true b c e = refl
third_true false true c e = refl
third_true false false c e = e

-- one of these names is g, or passes
record Leads (q : Name → Bool) (g : Name) (ys : List Name) : Type 0 where
  name : Name
  stands : Stands name ys
  goes : (name ≡ g) ⊎ (q name ≡ true)

leads : (q : Name → Bool) (g : Name) (ys : List Name) → leads_to q g ys ≡ true → Leads q g ys
leads q g [] e = absurd (true≢false (sym e))
leads q g (y ∷ ys) e = go (same_name g y) refl (q y) refl e (leads q g ys)
  where
    go : (a : Bool) → same_name g y ≡ a → (b : Bool) → q y ≡ b → (a || b || leads_to q g ys) ≡ true → (leads_to q g ys ≡ true → Leads q g ys) → Leads q g (y ∷ ys)
    go true is b is' e f = record { name = y; stands = inl refl; goes = inl (sym (same_name_is g y is)) }
    go false is true is' e f = record { name = y; stands = inl refl; goes = inr is' }
    go false is false is' e f = let k = f e in record { name = k.name; stands = inr k.stands; goes = k.goes }

leads_by : (q : Name → Bool) (g : Name) (ys : List Name) (y : Name) → Stands y ys → (y ≡ g) ⊎ (q y ≡ true) → leads_to q g ys ≡ true
leads_by q g [] y s w = absurd s
leads_by q g (z ∷ ys) y (inr s) w = third_true (same_name g z) (q z) (leads_to q g ys) (leads_by q g ys y s w)
leads_by q g (z ∷ ys) y (inl e) (inl is) = first_true (same_name g z) (q z) (leads_to q g ys) (subst (λ w. same_name g w ≡ true) (sym is ∙ e) (name_same g))
leads_by q g (z ∷ ys) y (inl e) (inr is) = second_true (same_name g z) (q z) (leads_to q g ys) (subst (λ w. q w ≡ true) e is)

module _ (p : Program) (g : Name) where
  -- a way to g by functions of these names
  data Way (left : List Name) : Name → Type 0 where
    at_once : {w : Name} → Stands w left → Mentions p w g → Way left w
    by_way : {w : Name} (u : Name) → Stands w left → Mentions p w u → Way left u → Way left w

  begins : (left : List Name) (w : Name) → Way left w → Stands w left
  begins left w (at_once s m) = s
  begins left w (by_way u s m r) = s

  -- on from x, which isn't met again
  abbrev From : List Name → Name → Type 0
  From left x = Mentions p x g ⊎ ((u : Name) × Mentions p x u × Way (without x left) u)

  not_same : (x w : Name) → same_name x w ≡ false → w ≡ x → ⊥
  not_same x w e is = true≢false (sym (subst (λ z. same_name x z ≡ true) (sym is) (name_same x)) ∙ e)

  cut : (left : List Name) (x w : Name) → Way left w → From left x ⊎ Way (without x left) w
  cut left x w (at_once s m) = go (same_name x w) refl
    where
      go : (b : Bool) → same_name x w ≡ b → From left x ⊎ Way (without x left) w
      go true e = inl (inl (subst (λ z. Mentions p z g) (sym (same_name_is x w e)) m))
      go false e = inr (at_once (stays_in x w left s (not_same x w e)) m)
  cut left x w (by_way u s m r) = go (cut left x u r) (same_name x w) refl
    where
      go : From left x ⊎ Way (without x left) u → (b : Bool) → same_name x w ≡ b → From left x ⊎ Way (without x left) w
      go (inl f) b e = inl f
      go (inr k) true e = inl (inr (u, subst (λ z. Mentions p z u) (sym (same_name_is x w e)) m, k))
      go (inr k) false e = inr (by_way u (stays_in x w left s (not_same x w e)) m k)

  on_from : (left : List Name) (w : Name) → Way left w → From left w
  on_from left w (at_once s m) = inl m
  on_from left w (by_way u s m r) = go (cut left w u r)
    where
      go : From left w ⊎ Way (without w left) u → From left w
      go (inl f) = f
      go (inr k) = inr (u, m, k)

  -- a step of a way, decided
  stepped : (n : ℕ) (w u : Name) → Mentions p w u → (u ≡ g) ⊎ (reaches_by p n u g ≡ true) → reaches_by p (suc n) w g ≡ true
  stepped n w u (d, named, has) k = ap (λ (o : Option Function). leads_to (λ x. reaches_by p n x g) g (mentions_of o)) named ∙ leads_by (λ x. reaches_by p n x g) g (mentioned_by_function d) u (contained (mentioned_by_function d) u has) k

  none_left : (w : Name) (left : List Name) → Stands w left → length left ≤ zero → ⊥
  none_left w [] s l = s
  none_left w (y ∷ ys) s l = omega (arith, l)

  short : (n : ℕ) (left : List Name) → length left ≤ n → (w : Name) → Way left w → reaches_by p n w g ≡ true
  short zero left l w k = absurd (none_left w left (begins left w k) l)
  short (suc n) left l w k = go (on_from left w k) (λ u r. short n (without w left) (fewer_names w left n (begins left w k) l) u r)
    where
      go : From left w → ((u : Name) → Way (without w left) u → reaches_by p n u g ≡ true) → reaches_by p (suc n) w g ≡ true
      go (inl m) f = stepped n w g m (inl refl)
      go (inr (u, m, r)) f = stepped n w u m (inr (f u r))

  way : (n : ℕ) (x : Name) → ReachesBy p n x g → Way (names_of p) x
  way zero x r = absurd r
  way (suc n) x (inl m) = at_once (named_stands p x m.0 m.1) m
  way (suc n) x (inr (z, m, r)) = by_way z (named_stands p x m.0 m.1) m (way n z r)

  decided : (x : Name) → Reaches p x g → reaches_by p (length p) x g ≡ true
  decided x r = short (length p) (names_of p) (as_many p) x (way r.0 x r.1)
    where
      as_many : (ms : Program) → length (names_of ms) ≤ length ms
      as_many [] = omega arith
      as_many (m ∷ ms) = let k = as_many ms in omega (arith, k)

  told : (n : ℕ) (x : Name) → reaches_by p n x g ≡ true → ReachesBy p n x g
  told zero x e = absurd (true≢false (sym e))
  told (suc n) x e =
      let k = leads (λ y. reaches_by p n y g) g (mentions_of (function_named p x)) e in
      go k.name (mention (function_named p x) refl k.name k.stands) k.goes (told n k.name)
    where
      mention : (o : Option Function) → function_named p x ≡ o → (y : Name) → Stands y (mentions_of o) → Mentions p x y
      mention None is y s = absurd s
      mention (Some d) is y s = (d, is, contains (mentioned_by_function d) y s)

      go : (y : Name) → Mentions p x y → (y ≡ g) ⊎ (reaches_by p n y g ≡ true) → (reaches_by p n y g ≡ true → ReachesBy p n y g) → ReachesBy p (suc n) x g
      go y m (inl e) f = inl (subst (Mentions p x) e m)
      go y m (inr e) f = inr (y, m, f e)

pub groups_agree : (p : Program) → GroupsAgree p
groups_agree p f g = (there, back)
  where
    there : is_in_group p f g ≡ true → InGroup p f g
    there e = let q = and_parts _ _ e in ((length p, told p g (length p) f q.0), (length p, told p f (length p) g q.1))

    back : InGroup p f g → is_in_group p f g ≡ true
    back k = and_from (reaches_by p (length p) f g) (reaches_by p (length p) g f) (decided p g f k.0) (decided p f g k.1)
