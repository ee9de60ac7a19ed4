-- Heaps before what was taken changes: its values are put in front again.
use Rattle.std.proofs.Common.{◌≡◌, ◌⊎◌, inl, inr, Bool, true, false, cond, [], ◌∷◌, refl, sym, ◌∙◌, subst}
use Rattle.vx_frac.specs.Fractions.{sum}
use Rattle.vx_ast.specs.Syntax.{Program}
use Rattle.vx_meaning.specs.States as run
use Rattle.vx_meaning.specs.Consistent.{Changes}
use Rattle.vx_amounts.proofs.Amounts.{Positive, not-positive, le-refl}
use Rattle.vx_elements.proofs.Values.{value_typed}
use Rattle.vx_sound.proofs.Chunks.{location_is}
use Rattle.vx_sound.proofs.Fields.{OnlyLocations}
use Rattle.vx_sound.proofs.Puts.{read_written, read_elsewhere}
use Rattle.vx_real.proofs.Consistency.{held_positive}
use Rattle.vx_real.proofs.Backwards.{AgreeOn, ReadAlike, over}

-- the values of what is held, in front of a heap
abbrev pub restored : Program → run.Holdings → run.Heap → run.Heap → run.Heap
restored p [] from h = h
restored p ((run.At l, q) ∷ rest) from h = (l, run.value_at p from l) ∷ restored p rest from h
restored p ((run.Folded k, q) ∷ rest) from h = restored p rest from h

module _ (p : Program) where
  pub restored_at : (hs : run.Holdings) (from h : run.Heap) (l : run.Location) → Positive (run.amount hs (run.At l)) ⊎ (run.value_at p h l ≡ run.value_at p from l) → run.value_at p (restored p hs from h) l ≡ run.value_at p from l
  restored_at [] from h l (inl pos) = absurd (not-positive pos (le-refl _))
  restored_at [] from h l (inr e) = e
  restored_at ((run.At m, q) ∷ rest) from h l k = go (run.same_location l m) refl k (λ k. restored_at rest from h l k)
    where
      go : (b : Bool) → run.same_location l m ≡ b → Positive (cond b (sum q (run.amount rest (run.At l))) (run.amount rest (run.At l))) ⊎ (run.value_at p h l ≡ run.value_at p from l) →
          (Positive (run.amount rest (run.At l)) ⊎ (run.value_at p h l ≡ run.value_at p from l) → run.value_at p (restored p rest from h) l ≡ run.value_at p from l) → run.value_at p ((m, run.value_at p from m) ∷ restored p rest from h) l ≡ run.value_at p from l
      go true e k next = subst (λ x. run.value_at p ((m, run.value_at p from m) ∷ restored p rest from h) x ≡ run.value_at p from x) (sym (location_is l m e))
          (read_written p m (run.value_at p from m) (restored p rest from h) (value_typed p from m))
      go false e k next = read_elsewhere p m l (run.value_at p from m) (restored p rest from h) e ∙ next k
  restored_at ((run.Folded i, q) ∷ rest) from h l k = restored_at rest from h l k

  -- a heap in front, from which all that isn't left may change to this one
  pub record Before (c : run.State) (left : run.Holdings) (f : run.Heap) : Type 0 where
    pub front : run.Heap
    pub agrees : AgreeOn p c.holdings front c.heap
    pub changes : (g o : run.Heap) → ReadAlike p g front → Changes p (run.with_holdings left (over g o c)) f

  pub before : (c : run.State) (left : run.Holdings) (f : run.Heap) → OnlyLocations left → AgreeOn p left f c.heap → Before c left f
  before c left f only agrees = record {
    front = restored p c.holdings c.heap (restored p left c.heap f);
    agrees = λ l pos. restored_at c.holdings c.heap (restored p left c.heap f) l (inl pos);
    changes = λ g o alike l held.
        let pos = held_positive p g left l only held in
        agrees l pos ∙ sym (alike l ∙ restored_at c.holdings c.heap (restored p left c.heap f) l (inr (restored_at left c.heap f l (inl pos))));
  }
