-- What lies inside an instance, found piece by piece.
use Rattle.std.proofs.Common.{◌≡◌, ℕ, Bool, true, false, List, [], ◌∷◌, ◌++◌, Option, Some, None, refl, sym, ◌∙◌, ap, ap₂, append_assoc}
use Rattle.std.specs.Prelude.{option_and_then, if◌then◌else◌}
use Rattle.vx_ast.specs.declared.Place.{Place}
use Rattle.vx_ast.specs.Syntax.{Name, Program, Predicate, predicate_named, Expr, Exprs, Assertion, Pure, Points, Both, Implied, Chosen}
use Rattle.vx_ast.specs.Syntax as syntax
use Rattle.vx_frac.specs.Fractions.{Fraction, product}
use Rattle.vx_amounts.proofs.Products.{product_assoc}
use Rattle.vx_meaning.specs.Values.{Value, RefValue, BoolValue, PermValue, is_true}
use Rattle.vx_meaning.specs.States.{Heap, Holdings, Resource, At, Folded, Instance, Store, scaled}
use Rattle.vx_meaning.specs.Evaluate as plain
use Rattle.vx_meaning.specs.Flatten.{bare, no_applications, entries, with_inner, within, flat, location_entry, instance_entry}
use Rattle.vx_run.specs.Flats.{PartOf, EntryOf, inside, and_behind}
use Rattle.vx_run.specs.Flattening.{StandsFor, AreLeft}
use Rattle.vx_run.specs.declared.flattening.Piece.{Piece}

-- sequences of what may be none
bind_on : {A B C : Type 0} (o : Option A) (f : A → Option B) (g : B → Option C) → option_and_then g (option_and_then f o) ≡ option_and_then (λ a. option_and_then g (f a)) o
bind_on None f g = refl
bind_on (Some a) f g = refl

bind_same : {A B : Type 0} (o : Option A) (f g : A → Option B) → ((a : A) → f a ≡ g a) → option_and_then f o ≡ option_and_then g o
bind_same None f g h = refl
bind_same (Some a) f g h = h a

pub behind_none : (o : Option Holdings) → and_behind o (Some []) ≡ o
behind_none None = refl
behind_none (Some xs) = ap Some (append_nil xs)
  where
    append_nil : (xs : Holdings) → xs ++ [] ≡ xs
    append_nil [] = refl
    append_nil (x ∷ xs) = ap (λ l. x ∷ l) (append_nil xs)

pub none_behind : (o : Option Holdings) → o ≡ and_behind (Some []) o
none_behind None = refl
none_behind (Some xs) = refl

pub behind_on : (o q r : Option Holdings) → and_behind (and_behind o q) r ≡ and_behind o (and_behind q r)
behind_on None q r = refl
behind_on (Some xs) None r = refl
behind_on (Some xs) (Some ys) None = refl
behind_on (Some xs) (Some ys) (Some zs) = ap Some (append_assoc xs ys zs)

scaled_append : (q : Fraction) (xs ys : Holdings) → scaled q (xs ++ ys) ≡ scaled q xs ++ scaled q ys
scaled_append q [] ys = refl
scaled_append q (x ∷ xs) ys = ap (λ l. (x.0, product q x.1) ∷ l) (scaled_append q xs ys)

scaled_scaled : (q r : Fraction) (xs : Holdings) → scaled q (scaled r xs) ≡ scaled (product q r) xs
scaled_scaled q r [] = refl
scaled_scaled q r (x ∷ xs) = ap₂ (λ (a : Fraction) (l : Holdings). (x.0, a) ∷ l) (sym (product_assoc q r x.1)) (scaled_scaled q r xs)

-- what is inside some entries, and those behind them
inner_append : (f : Instance → Option Holdings) (xs ys : Holdings) → with_inner f (xs ++ ys) ≡ and_behind (with_inner f xs) (with_inner f ys)
inner_append f [] ys = own (with_inner f ys)
  where
    own : (o : Option Holdings) → o ≡ and_behind (Some []) o
    own None = refl
    own (Some zs) = refl
inner_append f (x ∷ xs) ys = go (within f x.0 x.1) (with_inner f xs) (with_inner f ys) (inner_append f xs ys)
  where
    go : (o q r : Option Holdings) → with_inner f (xs ++ ys) ≡ and_behind q r →
        option_and_then (λ inner. option_and_then (λ more. Some (x ∷ (inner ++ more))) (with_inner f (xs ++ ys))) o
        ≡ and_behind (option_and_then (λ inner. option_and_then (λ more. Some (x ∷ (inner ++ more))) q) o) r
    go None q r e = refl
    go (Some zs) q r e = ap (λ (o : Option Holdings). option_and_then (λ more. Some (x ∷ (zs ++ more))) o) e ∙ each q r
      where
        each : (q r : Option Holdings) → option_and_then (λ more. Some (x ∷ (zs ++ more))) (and_behind q r) ≡ and_behind (option_and_then (λ more. Some (x ∷ (zs ++ more))) q) r
        each None r = refl
        each (Some us) None = refl
        each (Some us) (Some vs) = ap (λ l. Some (x ∷ l)) (sym (append_assoc zs us vs))

scale_behind : (q : Fraction) (o r : Option Holdings) → option_and_then (λ es. Some (scaled q es)) (and_behind o r) ≡ and_behind (option_and_then (λ es. Some (scaled q es)) o) (option_and_then (λ es. Some (scaled q es)) r)
scale_behind q None r = refl
scale_behind q (Some xs) None = refl
scale_behind q (Some xs) (Some ys) = ap Some (scaled_append q xs ys)

module _ (p : Program) (h : Heap) where
  abbrev within_all : ℕ → Fraction → Option Holdings → Option Holdings
  within_all n q o = option_and_then (λ es. Some (scaled q es)) (option_and_then (with_inner (flat p n h)) o)

  all_behind : (n : ℕ) (q : Fraction) (o r : Option Holdings) → within_all n q (option_and_then (λ xs. option_and_then (λ ys. Some (xs ++ ys)) r) o) ≡ and_behind (within_all n q o) (within_all n q r)
  all_behind n q None r = refl
  all_behind n q (Some xs) None = nothing (option_and_then (λ es. Some (scaled q es)) (with_inner (flat p n h) xs))
    where
      nothing : (o : Option Holdings) → None ≡ and_behind o None
      nothing None = refl
      nothing (Some zs) = refl
  all_behind n q (Some xs) (Some ys) =
      ap (λ (o : Option Holdings). option_and_then (λ es. Some (scaled q es)) o) (inner_append (flat p n h) xs ys)
      ∙ scale_behind q (with_inner (flat p n h) xs) (with_inner (flat p n h) ys)

  pub both_inside : (n : ℕ) (q : Fraction) (x : Store) (a b : Assertion) → inside p h (PartOf n q x (Both a b)) ≡ and_behind (inside p h (PartOf n q x a)) (inside p h (PartOf n q x b))
  both_inside n q x a b = all_behind n q (entries p (bare x h) a) (entries p (bare x h) b)

  -- one entry
  one_inside : (n : ℕ) (q r : Fraction) (x : Resource) → within_all n q (Some ((x, r) ∷ [])) ≡ inside p h (EntryOf n (product q r) x)
  one_inside n q r (At l) = refl
  one_inside n q r (Folded i) = go (flat p n h i)
    where
      append_nil : (xs : Holdings) → xs ++ [] ≡ xs
      append_nil [] = refl
      append_nil (x ∷ xs) = ap (λ l. x ∷ l) (append_nil xs)

      go : (o : Option Holdings) →
          option_and_then (λ es. Some (scaled q es)) (option_and_then (λ inner. Some ((Folded i, r) ∷ (inner ++ []))) (option_and_then (λ inner. Some (scaled r inner)) o))
          ≡ option_and_then (λ es. Some ((Folded i, product q r) ∷ es)) (option_and_then (λ inner. Some (scaled (product q r) inner)) o)
      go None = refl
      go (Some xs) = ap (λ (l : Holdings). Some ((Folded i, product q r) ∷ l)) (scaled_append q (scaled r xs) [] ∙ ap₂ (λ (a b : Holdings). a ++ b) (scaled_scaled q r xs) refl ∙ append_nil (scaled (product q r) xs))

  -- a body's parts by their values
  pub pure_inside : (n : ℕ) (q : Fraction) (x : Store) (e : Expr) (b : Bool) → plain.value p no_applications (bare x h) e ≡ Some (BoolValue b) →
      inside p h (PartOf n q x (Pure e)) ≡ (if b then Some [] else None)
  pure_inside n q x e true k = ap (λ (o : Option Value). within_all n q (option_and_then (λ v. if is_true v then Some [] else None) o)) k
  pure_inside n q x e false k = ap (λ (o : Option Value). within_all n q (option_and_then (λ v. if is_true v then Some [] else None) o)) k

  pub points_inside : (n : ℕ) (q : Fraction) (x : Store) (at : Place) (e : Expr) (f : Name) (share : Expr) (r : ℕ) (a : Fraction) →
      plain.value p no_applications (bare x h) e ≡ Some (RefValue r) → plain.value p no_applications (bare x h) share ≡ Some (PermValue a) →
      inside p h (PartOf n q x (Points at e f share)) ≡ inside p h (EntryOf n (product q a) (At record { receiver = r; field = f }))
  points_inside n q x at e f share r a k j =
      ap₂ (λ (o u : Option Value). within_all n q (option_and_then (λ v. option_and_then (location_entry f v) u) o)) k j ∙ one_inside n q a (At record { receiver = r; field = f })

  pub instance_inside : (n : ℕ) (q : Fraction) (x : Store) (at : Place) (i : Name) (es : Exprs) (share : Expr) (vs : List Value) (a : Fraction) →
      plain.values p no_applications (bare x h) es ≡ Some vs → plain.value p no_applications (bare x h) share ≡ Some (PermValue a) →
      inside p h (PartOf n q x (syntax.Instance at i es share)) ≡ inside p h (EntryOf n (product q a) (Folded record { predicate = i; arguments = vs }))
  instance_inside n q x at i es share vs a k j =
      ap₂ (λ (o : Option (List Value)) (u : Option Value). within_all n q (option_and_then (λ v. option_and_then (instance_entry i v) u) o)) k j
      ∙ one_inside n q a (Folded record { predicate = i; arguments = vs })

  pub implied_inside : (n : ℕ) (q : Fraction) (x : Store) (e : Expr) (a : Assertion) (b : Bool) → plain.value p no_applications (bare x h) e ≡ Some (BoolValue b) →
      inside p h (PartOf n q x (Implied e a)) ≡ (if b then inside p h (PartOf n q x a) else Some [])
  implied_inside n q x e a true k = ap (λ (o : Option Value). within_all n q (option_and_then (λ v. plain.choose v (entries p (bare x h) a) (Some [])) o)) k
  implied_inside n q x e a false k = ap (λ (o : Option Value). within_all n q (option_and_then (λ v. plain.choose v (entries p (bare x h) a) (Some [])) o)) k

  pub chosen_inside : (n : ℕ) (q : Fraction) (x : Store) (e : Expr) (a c : Assertion) (b : Bool) → plain.value p no_applications (bare x h) e ≡ Some (BoolValue b) →
      inside p h (PartOf n q x (Chosen e a c)) ≡ (if b then inside p h (PartOf n q x a) else inside p h (PartOf n q x c))
  chosen_inside n q x e a c true k = ap (λ (o : Option Value). within_all n q (option_and_then (λ v. plain.choose v (entries p (bare x h) a) (entries p (bare x h) c)) o)) k
  chosen_inside n q x e a c false k = ap (λ (o : Option Value). within_all n q (option_and_then (λ v. plain.choose v (entries p (bare x h) a) (entries p (bare x h) c)) o)) k

-- one more piece, which is found first
module _ (p : Program) (h : Heap) where
  pub pushed : (ts : List Piece) (t : Piece) (i r : Option Holdings) → AreLeft p h ts r → StandsFor p h t i → AreLeft p h (ts ++ t ∷ []) (and_behind i r)
  pushed [] t i r e k = (i, k, Some [], refl, ap (and_behind i) e ∙ behind_none i ∙ none_behind i)
  pushed (u ∷ us) t i r (j, m, r', l, e) k = (j, m, and_behind i r', pushed us t i r' l k, ap (and_behind i) e ∙ sym (behind_on i r' j))

  pub popped : (ts : List Piece) (t : Piece) (o : Option Holdings) → AreLeft p h (ts ++ t ∷ []) o → (i : Option Holdings) × StandsFor p h t i × (r : Option Holdings) × AreLeft p h ts r × (o ≡ and_behind i r)
  popped [] t o (i, k, r, l, e) = (i, k, Some [], refl, e ∙ ap (λ (x : Option Holdings). and_behind x i) l ∙ sym (none_behind i) ∙ sym (behind_none i))
  popped (u ∷ us) t o (j, m, r, l, e) =
      let f = popped us t r l in
      (f.0, f.1, and_behind f.2 j, (j, m, f.2, f.3, refl), e ∙ ap (λ (x : Option Holdings). and_behind x j) f.4 ∙ behind_on f.0 f.2 j)
