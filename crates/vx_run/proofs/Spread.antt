-- What is held by all, and each entry with all that is inside it.
use Rattle.std.proofs.Common.{◌≡◌, ℕ, true, false, List, [], ◌∷◌, ◌++◌, reverse, Option, Some, None, refl, sym, ◌∙◌, ap, ap₂, append_assoc}
use Rattle.std.specs.Prelude.{option_and_then, is_some, unwrap_or, flat_map}
use Rattle.std.proofs.lemmas.List.{reverse-append}
use Rattle.vx_ast.specs.Syntax.{Program}
use Rattle.vx_frac.specs.Fractions.{Fraction, lowest}
use Rattle.vx_meaning.specs.States.{Heap, Holdings, Resource}
use Rattle.vx_meaning.specs.Flatten.{within, flat}
use Rattle.vx_meaning.specs.Consistent.{spread}
use Rattle.vx_run.specs.Configs.{Caller, around}
use Rattle.vx_run.specs.Flats.{EntryOf, inside, all_written, written_resource}

pub written_append : (xs ys : Holdings) → all_written (xs ++ ys) ≡ all_written xs ++ all_written ys
written_append [] ys = refl
written_append (x ∷ xs) ys = ap (λ l. (written_resource x.0, lowest x.1) ∷ l) (written_append xs ys)

-- what callers have left, the oldest first
abbrev pub lefts : List Caller → Holdings
lefts cs = flat_map (λ c. c.left) cs

lefts_append : (xs ys : List Caller) → lefts (xs ++ ys) ≡ lefts xs ++ lefts ys
lefts_append [] ys = refl
lefts_append (x ∷ xs) ys = ap (λ l. x.left ++ l) (lefts_append xs ys) ∙ sym (append_assoc x.left (lefts xs) (lefts ys))

pub append_nil : (xs : Holdings) → xs ++ [] ≡ xs
append_nil [] = refl
append_nil (x ∷ xs) = ap (λ l. x ∷ l) (append_nil xs)

-- the newest caller is the first of those that wait
pub around_lefts : (cs : List Caller) → (around (reverse cs)).holdings ≡ lefts cs
around_lefts [] = refl
around_lefts (c ∷ cs) = ap (λ (ds : List Caller). (around ds).holdings) (reverse-append (c ∷ []) cs) ∙ newest (reverse cs) c ∙ ap₂ (λ (a b : Holdings). a ++ b) refl (around_lefts cs)
  where
    -- behind all others stands the oldest
    newest : (ds : List Caller) (c : Caller) → (around (ds ++ c ∷ [])).holdings ≡ c.left ++ (around ds).holdings
    newest [] c = sym (append_nil c.left)
    newest (d ∷ ds) c = ap (λ l. l ++ d.left) (newest ds c) ∙ append_assoc c.left (around ds).holdings d.left

-- one entry more of those that are spread
module _ (p : Program) (n : ℕ) (h : Heap) where
  pub spread_there : (q : Fraction) (r : Resource) (rest es : Holdings) → inside p h (EntryOf n q r) ≡ Some es → spread p n h ((r, q) ∷ rest) ≡ es ++ spread p n h rest
  spread_there q r rest es e = go (within (flat p n h) r q) e
    where
      some_is : {A : Type 0} {x y : A} → (let o : Option A = Some x in o) ≡ Some y → x ≡ y
      some_is {A} {x} e = ap (λ o. elim o as (λ o. A) [ Some z ↦ z | None ↦ x ]) e

      go : (o : Option Holdings) → option_and_then (λ xs. Some ((r, q) ∷ xs)) o ≡ Some es → (r, q) ∷ (unwrap_or o [] ++ spread p n h rest) ≡ es ++ spread p n h rest
      go (Some xs) k = ap (λ (l : Holdings). l ++ spread p n h rest) (some_is k)
      go None k = absurd (none_some k)
        where
          none_some : {A : Type 0} {x : A} → (let o : Option A = None in o) ≡ Some x → ⊥
          none_some k = let b : false ≡ true = ap is_some k in cc

  pub spread_none : (q : Fraction) (r : Resource) (rest : Holdings) → inside p h (EntryOf n q r) ≡ None → spread p n h ((r, q) ∷ rest) ≡ (r, q) ∷ spread p n h rest
  spread_none q r rest e = go (within (flat p n h) r q) e
    where
      go : (o : Option Holdings) → option_and_then (λ xs. Some ((r, q) ∷ xs)) o ≡ None → (r, q) ∷ (unwrap_or o [] ++ spread p n h rest) ≡ (r, q) ∷ spread p n h rest
      go None k = refl
      go (Some xs) k = absurd (some_none k)
        where
          some_none : {A : Type 0} {x : A} → (let o : Option A = Some x in o) ≡ None → ⊥
          some_none k = let b : true ≡ false = ap is_some k in cc
