-- Behind a put the chunks have what was put besides what they had, and each receiver is a reference and stands once.
use Rattle.std.proofs.Common.{◌≡◌, ℕ, Bool, true, false, cond, List, [], ◌∷◌, ◌++◌, slice_set, refl, sym, ap, subst}
use Rattle.vx_frac.specs.Fractions.{none, sum}
use Rattle.vx_meaning.specs.States as run
use Rattle.vx_terms.specs.Sorts.{RealSort}
use Rattle.vx_terms.specs.Build.{add}
use Rattle.vx_terms.specs.Interpretations.{Each, Interpretation, as_fraction, value}
use Rattle.vx_rules.specs.States as rules
use Rattle.vx_rules.specs.Chunks.{Candidate, same_arguments, chosen, merged, put_over}
use Rattle.vx_elements.proofs.Settled.{Meaning}
use Rattle.vx_elements.proofs.Built.{Good}
use Rattle.vx_elements.proofs.Truth.{add_is}
use Rattle.vx_elements.proofs.Places.{IsPlace, matching_places, matching_same}
use Rattle.vx_amounts.proofs.Amounts.{Le, le-trans, le-is, add-left, add-right, none-sum, sum_comm, sum_assoc}
use Rattle.vx_sound.proofs.Stands.{resource_of, amount_of, own, held}
use Rattle.vx_sound.proofs.Puts.{arguments_are}
use Rattle.vx_real.proofs.Exactly.{AreApart, keys, IsReal}
use Rattle.vx_real.proofs.Keys.{keys_append, keys_set, real_by_keys, apart_end, none_has}
use Rattle.vx_real.proofs.SumTakes.{held_in, held_out}

append_nil : {A : Type 0} (xs : List A) → xs ++ [] ≡ xs
append_nil [] = refl
append_nil (x ∷ xs) = ap (λ ys. x ∷ ys) (append_nil xs)

-- what was put is there besides what was
module _ (means : Meaning) (n : ℕ) (i : Interpretation) (new : rules.Chunk) (good_new : Good means n i new.amount RealSort) where
  pub put_held : (h : rules.Heap) (x : run.Resource) → Each (λ (c : rules.Chunk). Good means n i c.amount RealSort) h → Le (sum (own i new x) (held i h x)) (held i (put_over (chosen true new 0 h) new h) x)
  put_held h x goods = go (chosen true new 0 h) (matching_places new h) (matching_same new h 0)
    where
      added : Le (sum (own i new x) (held i h x)) (held i (h ++ new ∷ []) x)
      added = le-trans (add-left (own i new x) (le-is (ap (λ (y : rules.Heap). held i y x) (sym (append_nil h))))) (held_in means i h new [] x)

      at : (c : rules.Chunk) → c.is_field ≡ new.is_field → c.resource ≡ new.resource → same_arguments new.arguments c.arguments ≡ true → resource_of i new ≡ resource_of i c
      at c kind name args = λ j. resource_of i record { is_field = sym kind j; resource = sym name j; arguments = arguments_are new.arguments c.arguments args j; amount = c.amount; value = c.value; root = c.root; inner = c.inner }

      merges : (c : Candidate) → IsPlace new h c → same_arguments new.arguments c.chunk.arguments ≡ true → Le (sum (own i new x) (held i h x)) (held i (slice_set h c.number (merged new c.chunk)) x)
      merges c pl args =
          le-trans (add-left (own i new x) (le-trans (le-is (ap (λ (y : rules.Heap). held i y x) pl.is)) (held_out means i pl.front c.chunk pl.back x)))
          (le-trans (sum_assoc (own i new x) (own i c.chunk x) (held i (pl.front ++ pl.back) x)).back
          (le-trans (add-right (held i (pl.front ++ pl.back) x) both)
          (le-trans (held_in means i pl.front (merged new c.chunk) pl.back x) (le-is (ap (λ (y : rules.Heap). held i y x) (sym (pl.set_is (merged new c.chunk))))))))
        where
          good_one : (front : rules.Heap) (back : rules.Heap) → Each (λ (d : rules.Chunk). Good means n i d.amount RealSort) (front ++ c.chunk ∷ back) → Good means n i c.chunk.amount RealSort
          good_one [] back g = g.0
          good_one (d ∷ front) back g = good_one front back g.1

          good_c : Good means n i c.chunk.amount RealSort
          good_c = good_one pl.front pl.back (subst (Each (λ (d : rules.Chunk). Good means n i d.amount RealSort)) pl.is goods)

          both : Le (sum (own i new x) (own i c.chunk x)) (own i (merged new c.chunk) x)
          both = subst (λ y. Le (sum (cond (run.same_resource x y) (amount_of i new) none) (own i c.chunk x)) (own i (merged new c.chunk) x)) (sym (at c.chunk pl.kind pl.resource args)) (by_place (run.same_resource x (resource_of i c.chunk)))
            where
              by_place : (b : Bool) → Le (sum (cond b (amount_of i new) none) (cond b (amount_of i c.chunk) none)) (cond b (as_fraction (value i (add c.chunk.amount new.amount))) none)
              by_place true = le-trans (sum_comm (amount_of i new) (amount_of i c.chunk)).there (add_is means good_c good_new).back
              by_place false = (none-sum none).there

      go : (cs : List Candidate) → Each (IsPlace new h) cs → Each (λ (c : Candidate). same_arguments new.arguments c.chunk.arguments ≡ true) cs → Le (sum (own i new x) (held i h x)) (held i (put_over cs new h) x)
      go [] pl e = added
      go (c ∷ cs) pl e = merges c pl.0 e.0

-- what chunks are of, behind a put
pub put_real : (i : Interpretation) (new : rules.Chunk) (h : rules.Heap) → IsReal i new → Each (IsReal i) h → Each (IsReal i) (put_over (chosen true new 0 h) new h)
put_real i new h r reals = go (chosen true new 0 h) (matching_places new h)
  where
    both : (xs : rules.Heap) → Each (IsReal i) xs → Each (IsReal i) (xs ++ new ∷ [])
    both [] e = (r, tt)
    both (x ∷ xs) e = (e.0, both xs e.1)

    go : (cs : List Candidate) → Each (IsPlace new h) cs → Each (IsReal i) (put_over cs new h)
    go [] pl = both h reals
    go (c ∷ cs) pl = real_by_keys i h (slice_set h c.number (merged new c.chunk)) (sym (keys_set pl.0 (merged new c.chunk) refl)) reals

pub put_apart : (new : rules.Chunk) (h : rules.Heap) → AreApart (keys h) → AreApart (keys (put_over (chosen true new 0 h) new h))
put_apart new h apart = go (chosen true new 0 h) refl (matching_places new h)
  where
    go : (cs : List Candidate) → chosen true new 0 h ≡ cs → Each (IsPlace new h) cs → AreApart (keys (put_over cs new h))
    go [] e pl = subst AreApart (sym (keys_append h (new ∷ []))) (apart_end (keys h) _ apart (none_has new h 0 e))
    go (c ∷ cs) e pl = subst AreApart (sym (keys_set pl.0 (merged new c.chunk) refl)) apart
