-- Putting, the other way: where the facts of a put are true, no more than the whole of the location is held.
use Rattle.std.proofs.Common.{◌≡◌, ℕ, suc, Bool, true, false, not, cond, ◌&&◌, List, [], ◌∷◌, ◌++◌, refl, ◌∙◌, ap, subst}
use Rattle.vx_frac.specs.Fractions.{none, full, sum}
use Rattle.vx_ast.specs.Syntax.{Name}
use Rattle.vx_meaning.specs.Values.{RefValue}
use Rattle.vx_meaning.specs.States as run
use Rattle.vx_terms.specs.Sorts.{BoolSort, RefSort}
use Rattle.vx_terms.specs.Terms.{Term, same_bool}
use Rattle.vx_terms.specs.Build.{equals, less_equal, add, zero_amount, whole_amount}
use Rattle.vx_terms.specs.Interpretations.{Each, Interpretation, as_bool, as_fraction, value, IsTrueIn, AllTrue}
use Rattle.vx_terms.proofs.Build.{ite_value}
use Rattle.vx_rules.specs.States as rules
use Rattle.vx_rules.specs.Chunks.{Candidate, is_kin, same_arguments, chosen, candidates, first_argument, field_key, at_most_whole, with_other, apart, at_most_three}
use Rattle.vx_elements.proofs.Settled.{Meaning}
use Rattle.vx_elements.proofs.Built.{Good, good_equals}
use Rattle.vx_elements.proofs.Elements.{element}
use Rattle.vx_elements.proofs.Truth.{true_le, good_at_most, good_sum, good_whole, add_is}
use Rattle.vx_amounts.proofs.Amounts.{Le, le-trans, le-is, add-left, add-mono, none-sum, sum_comm}
use Rattle.vx_sound.proofs.World.{at_field, World}
use Rattle.vx_sound.proofs.Stands.{amount_of, held, ChunkStands}
use Rattle.vx_sound.proofs.Summed.{IsOf as OfField, part, parts, sum_is, candidates_are}
use Rattle.vx_real.proofs.Exactly.{IsReal, parts_above}
use Rattle.vx_real.proofs.SumReads.{implied}

-- the chunks of candidates
abbrev pub chunks_of : List Candidate → rules.Heap
chunks_of [] = []
chunks_of (c ∷ cs) = c.chunk ∷ chunks_of cs

-- what is true of the other chunks of the field, by the facts on each
pub apart_true : (i : Interpretation) (whole : rules.Chunk) (h : rules.Heap) (n : ℕ) → AllTrue i (apart true true whole h) → Each (λ (d : Candidate). IsTrueIn i (at_most_whole whole d.chunk)) (chosen false whole n h)
apart_true i whole [] n t = tt
apart_true i whole (c ∷ cs) n t = go (is_kin whole c) (same_arguments whole.arguments c.arguments) (λ s. apart_true i whole cs (suc n) s) t
  where
    go : (a b : Bool) → (AllTrue i (apart true true whole cs) → Each (λ (d : Candidate). IsTrueIn i (at_most_whole whole d.chunk)) (chosen false whole (suc n) cs)) →
        AllTrue i (cond (a && not b) (with_other true true whole c ++ apart true true whole cs) (apart true true whole cs)) →
        Each (λ (d : Candidate). IsTrueIn i (at_most_whole whole d.chunk)) (cond (a && same_bool false b) (record { number = n; chunk = c } ∷ chosen false whole (suc n) cs) (chosen false whole (suc n) cs))
    go true false rest t = (t.0, rest t.1.1)
    go true true rest t = rest t
    go false b rest t = rest t

module _ (means : Meaning) (world : World) (n : ℕ) (i : Interpretation) (heap : run.Heap) where
  -- Of the heap after a put: the chunk that was put or merged is the only one of its receiver.
  module _ (whole : rules.Chunk) (after : rules.Heap) (number : ℕ) (others : List Candidate) (k : ℕ) (ws : OfField means world n i heap whole.resource whole) (single : whole.arguments ≡ first_argument whole.arguments ∷ [])
      (g : Good means n i (first_argument whole.arguments) RefSort) (e : value i (first_argument whole.arguments) ≡ element (RefValue k))
      (each : Each (ChunkStands means world n i heap) after) (real : Each (IsReal i) after)
      (lists : candidates (field_key whole.resource (first_argument whole.arguments)) after ≡ record { number = number; chunk = whole } ∷ others)
      (most : IsTrueIn i (less_equal whole.amount whole_amount)) (pairs : Each (λ (d : Candidate). IsTrueIn i (at_most_whole whole d.chunk)) others)
      (three : AllTrue i (at_most_three (first_argument whole.arguments) (record { number = number; chunk = whole } ∷ others))) where
    abbrev r : Term
    r = first_argument whole.arguments

    abbrev f : Name
    f = whole.resource

    all_of : Each (λ (d : Candidate). OfField means world n i heap whole.resource d.chunk) (record { number = number; chunk = whole } ∷ others)
    all_of = subst (Each (λ (d : Candidate). OfField means world n i heap whole.resource d.chunk)) lists (candidates_are means world n i heap whole.resource (first_argument whole.arguments) k g e after each)

    above : Le (held i after (run.At (at_field k whole.resource))) (parts means world n i heap whole.resource (first_argument whole.arguments) k g e (record { number = number; chunk = whole } ∷ others))
    above = subst (λ cs. Le (held i after (run.At (at_field k whole.resource))) (parts means world n i heap whole.resource (first_argument whole.arguments) k g e cs)) lists (parts_above means world n i heap whole.resource (first_argument whole.arguments) k g e after each real)

    -- a part is the amount or none
    part_is : (c : rules.Chunk) (b : Bool) → as_bool (value i (equals (first_argument c.arguments) (first_argument whole.arguments))) ≡ b →
        part means world n i heap whole.resource (first_argument whole.arguments) k g e c ≡ as_fraction (cond b (value i c.amount) (value i zero_amount))
    part_is c b h = ap as_fraction (ite_value i (equals (first_argument c.arguments) (first_argument whole.arguments)) c.amount zero_amount ∙ ap (λ b. cond b (value i c.amount) (value i zero_amount)) h)

    whole_most : Le (part means world n i heap whole.resource (first_argument whole.arguments) k g e whole) (amount_of i whole)
    whole_most = go (as_bool (value i (equals (first_argument whole.arguments) (first_argument whole.arguments)))) refl
      where
        go : (b : Bool) → as_bool (value i (equals (first_argument whole.arguments) (first_argument whole.arguments))) ≡ b → Le (part means world n i heap whole.resource (first_argument whole.arguments) k g e whole) (amount_of i whole)
        go true h = le-is (part_is whole true h)
        go false h = le-trans (le-is (part_is whole false h)) ws.stands.sign

    amount_most : Le (amount_of i whole) full
    amount_most = true_le means whole_amount ws.stands.amount most

    two : (d : Candidate) → OfField means world n i heap whole.resource d.chunk → IsTrueIn i (at_most_whole whole d.chunk) → Le (sum (amount_of i whole) (part means world n i heap whole.resource (first_argument whole.arguments) k g e d.chunk)) full
    two d of fact = go (as_bool (value i (equals (first_argument d.chunk.arguments) (first_argument whole.arguments)))) refl
      where
        ge : Good means n i (equals (first_argument d.chunk.arguments) (first_argument whole.arguments)) BoolSort
        ge = good_equals means (of.stands.field of.kind).receiver g

        gl : Good means n i (less_equal (add whole.amount d.chunk.amount) whole_amount) BoolSort
        gl = good_at_most means (good_sum means ws.stands.amount of.stands.amount) (good_whole means)

        go : (b : Bool) → as_bool (value i (equals (first_argument d.chunk.arguments) (first_argument whole.arguments))) ≡ b → Le (sum (amount_of i whole) (part means world n i heap whole.resource (first_argument whole.arguments) k g e d.chunk)) full
        go true h =
            le-trans (add-left (amount_of i whole) (le-is (part_is d.chunk true h)))
            (le-trans (add_is means ws.stands.amount of.stands.amount).back
            (true_le means whole_amount (good_sum means ws.stands.amount of.stands.amount) (implied i (equals (first_argument d.chunk.arguments) (first_argument whole.arguments)) (less_equal (add whole.amount d.chunk.amount) whole_amount) ge gl fact h)))
        go false h = le-trans (add-left (amount_of i whole) (le-is (part_is d.chunk false h))) (le-trans (sum_comm (amount_of i whole) none).there (le-trans (none-sum (amount_of i whole)).there amount_most))

    pub at_most_all : Le (held i after (run.At (at_field k whole.resource))) full
    at_most_all = go others all_of pairs three above
      where
        first : Candidate
        first = record { number = number; chunk = whole }

        go : (cs : List Candidate) → Each (λ (d : Candidate). OfField means world n i heap whole.resource d.chunk) (record { number = number; chunk = whole } ∷ cs) → Each (λ (d : Candidate). IsTrueIn i (at_most_whole whole d.chunk)) cs →
            AllTrue i (at_most_three (first_argument whole.arguments) (record { number = number; chunk = whole } ∷ cs)) →
            Le (held i after (run.At (at_field k whole.resource))) (parts means world n i heap whole.resource (first_argument whole.arguments) k g e (record { number = number; chunk = whole } ∷ cs)) →
            Le (held i after (run.At (at_field k whole.resource))) full
        go [] of pr th le = le-trans le (le-trans (sum_comm (part means world n i heap whole.resource (first_argument whole.arguments) k g e whole) none).there (le-trans (none-sum (part means world n i heap whole.resource (first_argument whole.arguments) k g e whole)).there (le-trans whole_most amount_most)))
        go (d ∷ []) of pr th le =
            le-trans le (le-trans (add-mono whole_most (le-trans (sum_comm (part means world n i heap whole.resource (first_argument whole.arguments) k g e d.chunk) none).there (none-sum (part means world n i heap whole.resource (first_argument whole.arguments) k g e d.chunk)).there)) (two d of.1.0 pr.0))
        go (d ∷ d' ∷ ds) of pr th le =
            let m = sum_is means world n i heap whole.resource (first_argument whole.arguments) k g e (record { number = number; chunk = whole } ∷ d ∷ d' ∷ ds) of in
            le-trans le (le-trans m.is.back (true_le means whole_amount m.good th.0))
