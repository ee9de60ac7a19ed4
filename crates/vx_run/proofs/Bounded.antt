-- What can be held of a location, asked of what is written.
use Rattle.std.proofs.Common.{◌≡◌, ℕ, Bool, true, false, ◌&&◌, [], ◌∷◌, ◌++◌, Option, Some, None, refl, sym, ◌∙◌, ap, ap₂, append_assoc, true≢false}
use Rattle.std.specs.Prelude.{option_and_then, is_some, if◌then◌else◌}
use Rattle.std.specs.List.{list_all}
use Rattle.vx_ast.specs.Syntax.{Program}
use Rattle.vx_frac.specs.Fractions.{Fraction, none, lowest, sum, at_most, is_positive}
use Rattle.vx_amounts.proofs.Amounts.{Same, same-refl, same-lowest', lowest_is, sum_same}
use Rattle.vx_meaning.specs.States.{Location, Resource, At, Folded, Instance, Heap, Holdings, same_resource, amount, scaled}
use Rattle.vx_meaning.specs.Flatten.{flat}
use Rattle.vx_meaning.specs.Consistent.{spread}
use Rattle.vx_run.specs.Given.{most_of, bounded, grounded}
use Rattle.vx_run.specs.Flats.{EntryOf, inside, all_written, written_resource}
use Rattle.vx_run.specs.Flattening.{AreFound}
use Rattle.vx_run.proofs.Totals.{at_most_lowest, positive_lowest}
use Rattle.vx_run.proofs.Spread.{written_append, spread_there, spread_none}

-- an entry more
entry_more : (l : Location) (r : Resource) (q a b : Fraction) → Same a b →
    Same (if same_resource (At l) (written_resource r) then sum (lowest q) a else a) (if same_resource (At l) r then sum q b else b)
entry_more l (At m) q a b h = go (same_resource (At l) (At m))
  where
    go : (t : Bool) → Same (if t then sum (lowest q) a else a) (if t then sum q b else b)
    go true = sum_same {a = lowest q} {b = q} {c = a} {d = b} (same-lowest' q) h
    go false = h
entry_more l (Folded i) q a b h = h

pub amount_written : (l : Location) (h : Holdings) → Same (amount (all_written h) (At l)) (amount h (At l))
amount_written l [] = same-refl none
amount_written l (e ∷ h) = entry_more l e.0 e.1 (amount (all_written h) (At l)) (amount h (At l)) (amount_written l h)

pub bounded_written : (h : Holdings) (r : Resource) → bounded (all_written h) (written_resource r) ≡ bounded h r
bounded_written h (At l) =
    at_most_lowest (amount (all_written h) (At l)) (most_of l)
    ∙ ap (λ (q : Fraction). at_most q (lowest (most_of l))) (lowest_is {a = amount (all_written h) (At l)} {b = amount h (At l)} (amount_written l h))
    ∙ sym (at_most_lowest (amount h (At l)) (most_of l))
bounded_written h (Folded i) = refl

pub all_bounded : (all h : Holdings) → list_all (λ e. bounded (all_written all) e.0) (all_written h) ≡ list_all (λ e. bounded all e.0) h
all_bounded all [] = refl
all_bounded all (e ∷ h) = ap₂ (λ (a b : Bool). a && b) (bounded_written all e.0) (all_bounded all h)

-- one entry more is spread, behind what was found
module _ (p : Program) (n : ℕ) (h : Heap) (x : Resource) (z : Fraction) (rest : Holdings) where
  pub one_there : (old new : Holdings) → AreFound true old new (inside p h (EntryOf n z x)) → new ++ all_written (spread p n h rest) ≡ old ++ all_written (spread p n h ((x, z) ∷ rest))
  one_there old new (es, e, f) =
      ap (λ (l : Holdings). l ++ all_written (spread p n h rest)) e
      ∙ append_assoc old (all_written es) (all_written (spread p n h rest))
      ∙ ap (λ (l : Holdings). old ++ l) (sym (written_append es (spread p n h rest)) ∙ ap all_written (sym (spread_there p n h z x rest es f)))

  pub one_alone : (old mid new : Holdings) (y : Resource) (q : Fraction) → AreFound false old mid (inside p h (EntryOf n z x)) → new ≡ mid ++ (y, q) ∷ [] → y ≡ written_resource x → q ≡ lowest z →
      new ++ all_written (spread p n h rest) ≡ old ++ all_written (spread p n h ((x, z) ∷ rest))
  one_alone old mid new y q (e, f) g i j =
      ap (λ (l : Holdings). l ++ all_written (spread p n h rest)) (g ∙ ap₂ (λ (l : Holdings) (r : Resource). l ++ (r, q) ∷ []) e i ∙ ap (λ (a : Fraction). old ++ (written_resource x, a) ∷ []) j)
      ∙ append_assoc old ((written_resource x, lowest z) ∷ []) (all_written (spread p n h rest))
      ∙ ap (λ (l : Holdings). old ++ l) (ap all_written (sym (spread_none p n h z x rest f)))

-- whether an instance that is held comes to an end
module _ (p : Program) (n : ℕ) (h : Heap) (held : Holdings) where
  by_amount : (b : Bool) (r : Resource) → is_positive (amount held r) ≡ b → (i : Instance) → r ≡ Folded i → grounded p n h held r ≡ (if b then is_some (flat p n h i) else true)
  by_amount b r e i f =
      ap (λ (x : Resource). grounded p n h held x) f ∙ ap (λ (t : Bool). if t then is_some (flat p n h i) else true) (ap (λ (x : Resource). is_positive (amount held x)) (sym f) ∙ e)

  pub not_held : (r : Resource) (q : Fraction) → q ≡ lowest (amount held r) → is_positive q ≡ false → true ≡ grounded p n h held r
  not_held (At l) q e k = refl
  not_held (Folded i) q e k = sym (by_amount false (Folded i) (positive_lowest (amount held (Folded i)) ∙ ap is_positive (sym e) ∙ k) i refl)

  some_there : (o : Option Holdings) (i : Instance) (z : Fraction) (es : Holdings) → option_and_then (λ us. Some ((Folded i, z) ∷ us)) (option_and_then (λ us. Some (scaled z us)) o) ≡ Some es → true ≡ is_some o
  some_there (Some us) i z es e = refl
  some_there None i z es e = ap is_some (sym e)

  none_there : (o : Option Holdings) (i : Instance) (z : Fraction) → option_and_then (λ us. Some ((Folded i, z) ∷ us)) (option_and_then (λ us. Some (scaled z us)) o) ≡ None → false ≡ is_some o
  none_there None i z e = refl
  none_there (Some us) i z e = ap is_some (sym e)

  pub is_held : (r : Resource) (q z : Fraction) (old new : Holdings) (there : Bool) → q ≡ lowest (amount held r) → is_positive q ≡ true → AreFound there old new (inside p h (EntryOf n z r)) → there ≡ grounded p n h held r
  is_held (At l) q z old new true e k (es, f, g) = refl
  is_held (At l) q z old new false e k (f, g) = absurd (true≢false (ap is_some g))
  is_held (Folded i) q z old new true e k (es, f, g) =
      some_there (flat p n h i) i z es g ∙ sym (by_amount true (Folded i) (positive_lowest (amount held (Folded i)) ∙ ap is_positive (sym e) ∙ k) i refl)
  is_held (Folded i) q z old new false e k (f, g) =
      none_there (flat p n h i) i z g ∙ sym (by_amount true (Folded i) (positive_lowest (amount held (Folded i)) ∙ ap is_positive (sym e) ∙ k) i refl)
