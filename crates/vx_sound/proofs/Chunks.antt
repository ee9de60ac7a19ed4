-- What taking, putting and writing do to the chunks, and which facts then hold.
use Rattle.std.proofs.Common.{◌≡◌, ℕ, Bool, true, false, cond, ◌&&◌, ◌||◌, inl, inr, List, [], ◌∷◌, ◌++◌, slice_set, refl, sym, ap, ap₂, subst, eq-eqb, eqb-true, true≢false}
use Rattle.std.proofs.lemmas.Bool.{and_parts}
use Rattle.vx_frac.specs.Fractions.{Fraction, none, is_positive, sum, minus, difference}
use Rattle.vx_ast.specs.Syntax.{Name, same_name, Program}
use Rattle.vx_meaning.specs.States as run
use Rattle.vx_meaning.specs.Consistent.{spread, IsHeld}
use Rattle.vx_meaning.specs.Values.{Value, IntValue, BoolValue, RefValue, PermValue, same_value, same_values}
use Rattle.vx_terms.specs.Sorts.{RealSort}
use Rattle.vx_terms.specs.Terms.{Term, same}
use Rattle.vx_terms.specs.Build.{subtract, zero_amount}
use Rattle.vx_terms.specs.Interpretations.{Each, Interpretation, as_fraction, value}
use Rattle.vx_terms.proofs.Same.{int_same}
use Rattle.vx_rules.specs.States as rules
use Rattle.vx_rules.specs.Chunks.{Candidate, without, reduced}
use Rattle.vx_rules.specs.Rules.{leads_inside}
use Rattle.vx_elements.proofs.Settled.{Meaning}
use Rattle.vx_elements.proofs.Built.{Good}
use Rattle.vx_amounts.proofs.Amounts.{Le, Positive, Same, same_is as fractions_same, le-refl, le-trans, le-is, same-trans, same-refl, positive-le, difference_same, add-right, add-left, add-swap, above-add, below-add, none-none, none_minus, difference-none, difference-below, difference-move}
use Rattle.vx_elements.proofs.Truth.{subtract_is, good_difference}
use Rattle.vx_sound.proofs.Marks.{InnerAt, LeadsAt}
use Rattle.vx_sound.proofs.World.{World}
use Rattle.vx_sound.proofs.Stands.{location_of, instance_of, resource_of, amount_of, own, held, ChunkStands, HeapStands}
use Rattle.vx_elements.proofs.Places.{IsPlace}
use Rattle.vx_elements.proofs.Lists.{name_is, each_in, each_out, each_both, name_same}

-- Locations

pub location_same : (l : run.Location) → run.same_location l l ≡ true
location_same l = subst (λ b. (b && same_name l.field l.field) ≡ true) (sym (eq-eqb l.receiver l.receiver refl)) (name_same l.field)

pub location_is : (a b : run.Location) → run.same_location a b ≡ true → a ≡ b
location_is a b e =
    let q = and_parts _ _ e in
    ap₂ (λ (r : ℕ) (f : Name). let l : run.Location = record { receiver = r; field = f } in l) (eqb-true a.receiver b.receiver q.0) (name_is a.field b.field q.1)

-- what is held directly is held
pub spread_bare : (p : Program) (heap : run.Heap) (holdings : run.Holdings) → spread p 0 heap holdings ≡ holdings
spread_bare p heap [] = refl
spread_bare p heap ((run.At l, q) ∷ rest) = ap (λ r. (run.At l, q) ∷ r) (spread_bare p heap rest)
spread_bare p heap ((run.Folded i, q) ∷ rest) = ap (λ r. (run.Folded i, q) ∷ r) (spread_bare p heap rest)

pub held_directly : (p : Program) (heap : run.Heap) (holdings : run.Holdings) (l : run.Location) → Positive (run.amount holdings (run.At l)) → IsHeld p heap holdings l
held_directly p heap holdings l h = (0, subst (λ r. is_positive (run.amount r (run.At l)) ≡ true) (sym (spread_bare p heap holdings)) h.holds)

-- a resource is found the same as itself
value_same : (v : Value) → same_value v v ≡ true
value_same (IntValue z) = int_same z
value_same (BoolValue true) = refl
value_same (BoolValue false) = refl
value_same (RefValue r) = eq-eqb r r refl
value_same (PermValue a) = fractions_same (same-refl a)

values_same : (vs : List Value) → same_values vs vs ≡ true
values_same [] = refl
values_same (v ∷ vs) = subst (λ b. (b && same_values vs vs) ≡ true) (sym (value_same v)) (values_same vs)

pub resource_same : (r : run.Resource) → run.same_resource r r ≡ true
resource_same (run.At l) = location_same l
resource_same (run.Folded k) = subst (λ b. (b && same_values k.arguments k.arguments) ≡ true) (sym (name_same k.predicate)) (values_same k.arguments)

pub at_is : (r : run.Resource) (l : run.Location) → run.same_resource r (run.At l) ≡ true → r ≡ run.At l
at_is (run.At m) l e = ap run.At (location_is m l e)
at_is (run.Folded k) l e = absurd (true≢false (sym e))

-- the resource of a chunk by its kind
pub field_resource : (i : Interpretation) (c : rules.Chunk) → c.is_field ≡ true → resource_of i c ≡ run.At (location_of i c)
field_resource i c e = ap (λ b. cond b (run.At (location_of i c)) (run.Folded (instance_of i c))) e

pub instance_resource : (i : Interpretation) (c : rules.Chunk) → c.is_field ≡ false → resource_of i c ≡ run.Folded (instance_of i c)
instance_resource i c e = ap (λ b. cond b (run.At (location_of i c)) (run.Folded (instance_of i c))) e

-- Sums

pub own_itself : (i : Interpretation) (c : rules.Chunk) → own i c (resource_of i c) ≡ amount_of i c
own_itself i c = ap (λ b. cond b (amount_of i c) none) (resource_same (resource_of i c))

pub own_sign : (i : Interpretation) (c : rules.Chunk) (l : run.Resource) → Le none (amount_of i c) → Le none (own i c l)
own_sign i c l h = go (run.same_resource l (resource_of i c))
  where
    go : (b : Bool) → Le none (cond b (amount_of i c) none)
    go true = h
    go false = le-refl none

held_out : (i : Interpretation) (front : rules.Heap) (c : rules.Chunk) (back : rules.Heap) (l : run.Resource) → Le (held i (front ++ (c ∷ back)) l) (sum (own i c l) (held i (front ++ back) l))
held_out i [] c back l = le-refl _
held_out i (d ∷ front) c back l = le-trans (add-left (own i d l) (held_out i front c back l)) (add-swap (own i d l) (own i c l) (held i (front ++ back) l))

held_in : (i : Interpretation) (front : rules.Heap) (c : rules.Chunk) (back : rules.Heap) (l : run.Resource) → Le (sum (own i c l) (held i (front ++ back) l)) (held i (front ++ (c ∷ back)) l)
held_in i [] c back l = le-refl _
held_in i (d ∷ front) c back l = le-trans (add-swap (own i c l) (own i d l) (held i (front ++ back) l)) (add-left (own i d l) (held_in i front c back l))

module _ (means : Meaning) (world : World) where
  abbrev p : Program
  p = world.program

  -- what the marks of a chunk tell
  pub inner_at : {n : ℕ} {i : Interpretation} {heap : run.Heap} (d : rules.Chunk) → ChunkStands means world n i heap d → d.inner ≡ true → InnerAt p world.marks heap (resource_of i d)
  inner_at {i = i} {heap = heap} d k e = go d.is_field refl
    where
      go : (b : Bool) → d.is_field ≡ b → InnerAt p world.marks heap (cond b (run.At (location_of i d)) (run.Folded (instance_of i d)))
      go true f = tt
      go false f = k.is_inner f e

  pub leads_at : {n : ℕ} {i : Interpretation} {heap : run.Heap} (d : rules.Chunk) → ChunkStands means world n i heap d → leads_inside d ≡ true → LeadsAt p world.marks heap (resource_of i d)
  leads_at {i = i} {heap = heap} d k e = by_kind d.is_field refl
    where
      by_mark : d.is_field ≡ false → (a b : Bool) → d.root ≡ a → d.inner ≡ b → (a || b) ≡ true → LeadsAt p world.marks heap (run.Folded (instance_of i d))
      by_mark f true b r m e = inl (k.is_root f r)
      by_mark f false true r m e = inr (k.is_inner f m)
      by_mark f false false r m e = absurd (true≢false (sym e))

      by_kind : (b : Bool) → d.is_field ≡ b → LeadsAt p world.marks heap (cond b (run.At (location_of i d)) (run.Folded (instance_of i d)))
      by_kind true f = tt
      by_kind false f = by_mark f d.root d.inner refl refl e

  module _ (n : ℕ) (i : Interpretation) (heap : run.Heap) where
    pub held_sign : (cs : rules.Heap) (l : run.Resource) → Each (ChunkStands means world n i heap) cs → Le none (held i cs l)
    held_sign [] l h = le-refl none
    held_sign (c ∷ cs) l h = none-none (own_sign i c l h.0.sign) (held_sign cs l h.1)

    -- each chunk has at most what they have together
    pub each_own : (cs : rules.Heap) (l : run.Resource) → Each (ChunkStands means world n i heap) cs → Each (λ (c : rules.Chunk). Le (own i c l) (held i cs l)) cs
    each_own [] l h = tt
    each_own (c ∷ cs) l h = (
      above-add (own i c l) (held i cs l) (held_sign cs l h.1),
      each_both (λ (d : rules.Chunk). Le (own i d l) (held i cs l)) (λ (d : rules.Chunk). Le (own i d l) (held i cs l)) (λ (d : rules.Chunk). Le (own i d l) (sum (own i c l) (held i cs l)))
          (λ d k m. le-trans k (below-add (held i cs l) (own_sign i c l h.0.sign))) cs (each_own cs l h.1) (each_own cs l h.1),
    )

    -- the others and the chunk, from the whole list
    pub record Apart (front : rules.Heap) (c : rules.Chunk) (back : rules.Heap) (holdings : run.Holdings) : Type 0 where
      pub chunk : ChunkStands means world n i heap c
      pub others : Each (ChunkStands means world n i heap) (front ++ back)
      pub sums : (l : run.Resource) → Le (sum (own i c l) (held i (front ++ back) l)) (run.amount holdings l)

    pub taken_apart : {key : rules.Chunk} {h : rules.Heap} {c : Candidate} {holdings : run.Holdings} (pl : IsPlace key h c) → HeapStands means world n i h heap holdings → Apart pl.front c.chunk pl.back holdings
    taken_apart {h = h} {c = c} {holdings = holdings} pl st =
        let st' : HeapStands means world n i (pl.front ++ c.chunk ∷ pl.back) heap holdings = subst (λ x. HeapStands means world n i x heap holdings) pl.is st in
        let e = each_out (ChunkStands means world n i heap) pl.front c.chunk pl.back st'.each in
        record { chunk = e.0; others = e.1; sums = λ l. le-trans (held_in i pl.front c.chunk pl.back l) (st'.sums l) }

    pub put_together : (front : rules.Heap) (c : rules.Chunk) (back : rules.Heap) {holdings : run.Holdings} → Apart front c back holdings → HeapStands means world n i (front ++ c ∷ back) heap holdings
    put_together front c back a = record { each = each_in (ChunkStands means world n i heap) front back a.chunk a.others; sums = λ l. le-trans (held_out i front c back l) (a.sums l) }

    -- a chunk's amount is held
    pub chunk_held : {key : rules.Chunk} {h : rules.Heap} {c : Candidate} {holdings : run.Holdings} (pl : IsPlace key h c) → HeapStands means world n i h heap holdings → Le (amount_of i c.chunk) (run.amount holdings (resource_of i c.chunk))
    chunk_held {c = c} {holdings = holdings} pl st =
        let a = taken_apart pl st in
        let l = resource_of i c.chunk in
        le-trans (le-is (sym (own_itself i c.chunk))) (le-trans (above-add (own i c.chunk l) (held i (pl.front ++ pl.back) l) (held_sign (pl.front ++ pl.back) l a.others)) (a.sums l))

    -- Taking

    lowered_sum : (c : rules.Chunk) (a : Term) (q : Fraction) (holdings : run.Holdings) → Good means n i c.amount RealSort → Good means n i a RealSort → Same (as_fraction (value i a)) q →
        (l : run.Resource) (x : Fraction) → Le (sum (own i c l) x) (run.amount holdings l) →
        Le (sum (own i (record c { amount = subtract c.amount a }) l) x) (run.amount (run.lost (resource_of i c) q holdings) l)
    lowered_sum c a q holdings gc ga s l x h = go (run.same_resource l (resource_of i c)) h
      where
        go : (b : Bool) → Le (sum (cond b (amount_of i c) none) x) (run.amount holdings l) →
            Le (sum (cond b (as_fraction (value i (subtract c.amount a))) none) x) (cond b (sum (minus q) (run.amount holdings l)) (run.amount holdings l))
        go true k =
            let y = difference-move (amount_of i c) x (run.amount holdings l) q k in
            let z = same-trans (subtract_is means gc ga) (difference_same (same-refl (amount_of i c)) s) in
            le-trans (add-right x z.there) y
        go false k = k

    pub reduced_stands : {key : rules.Chunk} {h : rules.Heap} {c : Candidate} {holdings : run.Holdings} (pl : IsPlace key h c) → HeapStands means world n i h heap holdings → (a : Term) (q : Fraction) → Good means n i a RealSort →
        Same (as_fraction (value i a)) q → Le none (as_fraction (value i a)) → Le (as_fraction (value i a)) (amount_of i c.chunk) →
        HeapStands means world n i (reduced c a h) heap (run.lost (resource_of i c.chunk) q holdings)
    reduced_stands {h = h} {c = c} {holdings = holdings} pl st a q ga s sign enough = go (same (subtract c.chunk.amount a) zero_amount)
      where
        k : Apart pl.front c.chunk pl.back holdings
        k = taken_apart pl st

        rest : rules.Chunk
        rest = record c.chunk { amount = subtract c.chunk.amount a }

        amount_is : Same (as_fraction (value i (subtract c.chunk.amount a))) (difference (amount_of i c.chunk) (as_fraction (value i a)))
        amount_is = subtract_is means k.chunk.amount ga

        rest_stands : ChunkStands means world n i heap (record c.chunk { amount = subtract c.chunk.amount a })
        rest_stands = record {
          field = k.chunk.field;
          instance = k.chunk.instance;
          written = k.chunk.written;
          amount = good_difference means k.chunk.amount ga;
          sign = le-trans (difference-none enough) amount_is.back;
          content = k.chunk.content;
          content_is = λ e. k.chunk.content_is (positive-le e (le-trans amount_is.there (difference-below (amount_of i c.chunk) (as_fraction (value i a)) sign)));
          is_root = k.chunk.is_root;
          is_inner = k.chunk.is_inner;
        }

        sums : (l : run.Resource) → Le (sum (own i (record c.chunk { amount = subtract c.chunk.amount a }) l) (held i (pl.front ++ pl.back) l)) (run.amount (run.lost (resource_of i c.chunk) q holdings) l)
        sums l = lowered_sum c.chunk a q holdings k.chunk.amount ga s l (held i (pl.front ++ pl.back) l) (k.sums l)

        go : (b : Bool) → HeapStands means world n i (cond b (without c.number h) (slice_set h c.number (record c.chunk { amount = subtract c.chunk.amount a }))) heap (run.lost (resource_of i c.chunk) q holdings)
        go true = subst (λ x. HeapStands means world n i x heap (run.lost (resource_of i c.chunk) q holdings)) (sym pl.without_is) record {
          each = k.others;
          sums = λ l. le-trans (below-add (held i (pl.front ++ pl.back) l) (own_sign i (record c.chunk { amount = subtract c.chunk.amount a }) l rest_stands.sign)) (sums l);
        }
        go false = subst (λ x. HeapStands means world n i x heap (run.lost (resource_of i c.chunk) q holdings)) (sym (pl.set_is (record c.chunk { amount = subtract c.chunk.amount a })))
            (put_together pl.front (record c.chunk { amount = subtract c.chunk.amount a }) pl.back record { chunk = rest_stands; others = k.others; sums = sums })

    -- nothing was taken
    pub lowered_by_none : {h : rules.Heap} {holdings : run.Holdings} (l0 : run.Resource) (q : Fraction) → Le q none → HeapStands means world n i h heap holdings → HeapStands means world n i h heap (run.lost l0 q holdings)
    lowered_by_none {h = h} {holdings = holdings} l0 q z st = record { each = st.each; sums = λ l. le-trans (st.sums l) (go l (run.same_resource l l0)) }
      where
        go : (l : run.Resource) (b : Bool) → Le (run.amount holdings l) (cond b (sum (minus q) (run.amount holdings l)) (run.amount holdings l))
        go l true = below-add (run.amount holdings l) (none_minus z)
        go l false = le-refl _
