-- Chunks that a quiet walk reads and takes: it looks at those alone that are literally as wanted.
use Rattle.std.proofs.Common.{◌≡◌, ℕ, false, [], ◌∷◌, Some, refl, ◌∙◌, ap, subst}
use Rattle.vx_frac.specs.Fractions.{Fraction, none}
use Rattle.vx_ast.specs.declared.Place.{Place}
use Rattle.vx_ast.specs.declared.ValueType.{ValueType}
use Rattle.vx_ast.specs.Syntax.{Name, Program, field_named}
use Rattle.vx_meaning.specs.Values.{RefValue}
use Rattle.vx_meaning.specs.States as run
use Rattle.vx_terms.specs.Sorts.{Sort, RealSort, RefSort}
use Rattle.vx_terms.specs.Terms.{Term}
use Rattle.vx_terms.specs.Interpretations.{Interpretation, as_fraction, value, IsTrueIn}
use Rattle.vx_rules.specs.States as rules
use Rattle.vx_rules.specs.States.{State, sort_of_type, with_heap}
use Rattle.vx_rules.specs.Trees.{Code, PermissionCode}
use Rattle.vx_rules.specs.Chunks.{Candidate, candidates, field_key, holds_some, holds_amount, reduced}
use Rattle.vx_rules.specs.Rules.{Giving, Going, field_sort, never, take_fresh, take_chunk, read_field}
use Rattle.vx_types.specs.Typing.{Scope}
use Rattle.vx_amounts.proofs.Amounts.{Le, Positive, Same, le-trans, positive-le}
use Rattle.vx_elements.proofs.Settled.{Meaning, extends-refl}
use Rattle.vx_elements.proofs.Built.{Good}
use Rattle.vx_elements.proofs.Elements.{element}
use Rattle.vx_elements.proofs.Values.{value_typed, sort_of_field, field_type_is}
use Rattle.vx_elements.proofs.Places.{IsPlace, candidates_places}
use Rattle.vx_sound.proofs.World.{at_field, World}
use Rattle.vx_sound.proofs.Standard.{IsWritten}
use Rattle.vx_sound.proofs.Stands.{amount_of, IsThere, content_sort, HeapStands}
use Rattle.vx_sound.proofs.Chunks.{taken_apart, chunk_held, reduced_stands}
use Rattle.vx_sound.proofs.Candidates.{Keys, of_field, of_instance, keys_typed, some_is, amount_is}
use Rattle.vx_sound.proofs.Giving.{IsInstance}
use Rattle.vx_sound.proofs.Puts.{stands_with_holdings}
use Rattle.vx_law.proofs.Told.{Walk, On, Told, FollowsWith, first_told, never_told, unsummed_told, quiet_told, no_chunk_told, on_quiet}

module _ (means : Meaning) (world : World) (n : ℕ) (w : Walk means n) where
  abbrev p : Program
  p = world.program

  -- a location is read
  pub read_told : {scope : Scope} {i : Interpretation} {s : State} {c : run.State} (f : Name) (t : ValueType) (r : Term) (k : ℕ) (at : Place) (on : Giving) → field_named world.program f ≡ Some t → On means world n w scope i s c →
      Good means n i r RefSort → value i r ≡ element (RefValue k) → FollowsWith means world n w scope i c t (run.value_at world.program c.heap (at_field k f)) on → Told means world n w i (read_field f r (field_sort world.program f) at s on)
  read_told {scope = scope} {i = i} {s = s} {c = c} f t r k at on named here g is h =
      quiet_told means world n w i (rules.is_quiet s) (on_quiet means world n w here) _ _
      (first_told means world n w s (holds_some (r ∷ [])) (candidates (field_key f r) s.heap) at PermissionCode (λ d. on d.chunk.value s) (never at PermissionCode s) (on_quiet means world n w here) (candidates_places (field_key f r) s.heap) found
      (never_told means world n w i s at PermissionCode (on_quiet means world n w here)))
    where
      keys : Keys means world n i (field_key f r) (run.At (at_field k f)) (field_sort world.program f)
      keys = of_field f r k g is

      found : (d : Candidate) → IsPlace (field_key f r) s.heap d → IsTrueIn i (holds_some (r ∷ []) d.chunk) → Told means world n w i (on d.chunk.value s)
      found d pl true_there =
          let apart = taken_apart means world n i c.heap pl here.quietly.stands.heap in
          let m = some_is means world keys d.chunk pl.kind pl.resource apart.chunk true_there in
          let there = subst (λ x. IsThere p c.heap x (value i d.chunk.value)) m.0 (apart.chunk.content_is m.1) in
          let sort_is : content_sort p d.chunk.is_field d.chunk.resource ≡ sort_of_type t = ap (λ b. content_sort p b d.chunk.resource) pl.kind ∙ ap (λ x. field_sort p x) pl.resource ∙ sort_of_field p f ∙ ap sort_of_type (field_type_is p f named) in
          h i d.chunk.value s (extends-refl means n i) here (subst (λ a. Good means n i d.chunk.value a) sort_is apart.chunk.content) there
          (value_typed p c.heap (at_field k f) ∙ field_type_is p f named)

  -- an amount is taken: the chunk that it is taken of, and what is left
  pub record TakenOf (scope : Scope) (i : Interpretation) (c : run.State) (r : run.Resource) (b : Sort) (q : Fraction) (chunk : rules.Chunk) (s : State) : Type 0 where
    pub on : On means world n w scope i s (run.with_holdings (run.lost r q c.holdings) c)
    pub good : Good means n i chunk.value b
    pub written : IsInstance r → IsWritten chunk.value
    pub there : Positive q → IsThere world.program c.heap r (value i chunk.value)

  pub take_told : {scope : Scope} {i : Interpretation} {s : State} {c : run.State} {key : rules.Chunk} {r : run.Resource} {b : Sort} (keys : Keys means world n i key r b) (a : Term) (q : Fraction) (at : Place) (code : Code) (on : rules.Chunk → Going) →
      On means world n w scope i s c → Good means n i a RealSort → Same (as_fraction (value i a)) q → Le none (as_fraction (value i a)) →
      ((d : rules.Chunk) (s1 : State) → TakenOf scope i c r b q d s1 → Told means world n w i (on d s1)) → Told means world n w i (take_chunk key a b at code s on)
  take_told {scope = scope} {i = i} {s = s} {c = c} {key = key} {r = r} {b = b} keys a q at code on here ga same_q sign h =
      unsummed_told means world n w i key.is_field (rules.is_quiet s) (on_quiet means world n w here) _ _
      (first_told means world n w s (holds_amount a key.arguments) (candidates key s.heap) at code (λ d. on d.chunk (with_heap (reduced d a s.heap) s)) (take_fresh key a b at code s on) (on_quiet means world n w here) (candidates_places key s.heap) found
      (no_chunk_told means world n w i s _ (on_quiet means world n w here)))
    where
      kind_is : {key : rules.Chunk} {r : run.Resource} {b : Sort} → Keys means world n i key r b → IsInstance r → key.is_field ≡ false
      kind_is (of_field f r k g e) h = absurd h
      kind_is (of_instance x ts vs k) h = refl

      sort_is : {key : rules.Chunk} {r : run.Resource} {b : Sort} → Keys means world n i key r b → (d : rules.Chunk) → d.is_field ≡ key.is_field → d.resource ≡ key.resource → Good means n i d.value (content_sort world.program d.is_field d.resource) → Good means n i d.value b
      sort_is (of_field f r k g e) d kind resource h = subst (λ x. Good means n i d.value (field_sort p x)) resource (subst (λ b. Good means n i d.value (content_sort p b d.resource)) kind h)
      sort_is (of_instance x ts vs k) d kind resource h = subst (λ b. Good means n i d.value (content_sort p b d.resource)) kind h

      found : (d : Candidate) → IsPlace key s.heap d → IsTrueIn i (holds_amount a key.arguments d.chunk) → Told means world n w i (on d.chunk (with_heap (reduced d a s.heap) s))
      found d pl true_there =
          let st = here.quietly.stands in
          let apart = taken_apart means world n i c.heap pl st.heap in
          let taken = amount_is means world keys d.chunk pl.kind pl.resource apart.chunk ga true_there in
          let enough : Le q (run.amount c.holdings r) = le-trans same_q.back (le-trans taken.1 (subst (λ x. Le (amount_of i d.chunk) (run.amount c.holdings x)) taken.0 (chunk_held means world n i c.heap pl st.heap))) in
          h d.chunk (with_heap (reduced d a s.heap) s) (record {
            on = record {
              still = (let k = here.still in record { next = k.next; level = k.level; path = k.path });
              quietly = record {
                stands = stands_with_holdings means world (reduced d a s.heap) (run.lost r q c.holdings) st
                    (subst (λ x. HeapStands means world n i (reduced d a s.heap) c.heap (run.lost x q c.holdings)) taken.0 (reduced_stands means world n i c.heap pl st.heap a q ga same_q sign taken.1))
                    (world.taken c.heap c.holdings r q (keys_typed means world keys) (le-trans sign same_q.there) enough st.holds);
              };
            };
            good = sort_is keys d.chunk pl.kind pl.resource apart.chunk.content;
            written = λ e. apart.chunk.written (pl.kind ∙ kind_is keys e);
            there = λ k. subst (λ x. IsThere p c.heap x (value i d.chunk.value)) taken.0 (apart.chunk.content_is (positive-le k (le-trans same_q.back taken.1)));
          })
