-- A quiet state stands for a concrete one as it would at level 0: facts are added there as here, and a chunk that is put says no more than it would.
use Rattle.std.proofs.Common.{◌≡◌, ℕ, Bool, true, false, not, cond, List, [], ◌∷◌, refl, ◌∙◌, ap, subst}
use Rattle.vx_frac.specs.Fractions.{Fraction}
use Rattle.vx_meaning.specs.States as run
use Rattle.vx_terms.specs.Sorts.{BoolSort}
use Rattle.vx_terms.specs.Terms.{Term, same}
use Rattle.vx_terms.specs.Build.{zero_amount}
use Rattle.vx_terms.specs.Interpretations.{Interpretation, IsTrueIn}
use Rattle.vx_rules.specs.States.{State, Chunk, is_quiet, is_known, with_heap, with_entry, with_fact, with_facts, with_branch}
use Rattle.vx_rules.specs.Chunks.{chosen, put_over, put_facts, put}
use Rattle.vx_types.specs.Typing.{Scope}
use Rattle.vx_amounts.proofs.Amounts.{Same}
use Rattle.vx_elements.proofs.Settled.{Meaning}
use Rattle.vx_elements.proofs.Built.{Good}
use Rattle.vx_sound.proofs.World.{World}
use Rattle.vx_sound.proofs.Stands.{amount_of, Stands, stands_entry, stands_fact}
use Rattle.vx_sound.proofs.Candidates.{Keyed}
use Rattle.vx_sound.proofs.Puts.{put_saying, saying_stands}

-- the state at level 0, with this next number
abbrev pub woken : ℕ → State → State
woken n s = record s { level = 0; next = n }

pub fact_woken : (n : ℕ) (t : Term) (s : State) → with_fact t (woken n s) ≡ woken n (with_fact t s)
fact_woken n t s = go (is_known t s)
  where
    go : (b : Bool) → cond b (woken n s) (with_entry record { term = t; branch = false } (woken n s)) ≡ woken n (cond b s (with_entry record { term = t; branch = false } s))
    go true = refl
    go false = refl

facts_woken : (n : ℕ) (ts : List Term) (s : State) → with_facts ts (woken n s) ≡ woken n (with_facts ts s)
facts_woken n [] s = refl
facts_woken n (t ∷ ts) s = ap (with_facts ts) (fact_woken n t s) ∙ facts_woken n ts (with_fact t s)

-- a chunk is put as in the quiet state, which says less of values
put_woken : (n : ℕ) (new : Chunk) (s : State) → put_saying (not (is_quiet s)) new (woken n s) ≡ woken n (put new s)
put_woken n new s = go (same new.amount zero_amount)
  where
    facts : List Term
    facts = put_facts (not (is_quiet s)) s.bounded new s.heap

    held : State
    held = with_heap (put_over (chosen true new 0 s.heap) new s.heap) s

    go : (b : Bool) → cond b (woken n s) (with_facts (put_facts (not (is_quiet s)) s.bounded new s.heap) (with_heap (put_over (chosen true new 0 s.heap) new s.heap) (woken n s)))
        ≡ woken n (cond b s (with_facts (put_facts (not (is_quiet s)) s.bounded new s.heap) (with_heap (put_over (chosen true new 0 s.heap) new s.heap) s)))
    go true = refl
    go false = facts_woken n facts held

module _ (means : Meaning) (world : World) (n : ℕ) where
  -- a quiet state stands for a concrete one
  pub record Quietly (scope : Scope) (i : Interpretation) (s : State) (c : run.State) : Type 0 where
    pub stands : Stands means world scope i (woken n s) c

  pub with_truth : {scope : Scope} {i : Interpretation} {s : State} {c : run.State} (t : Term) → Quietly scope i s c → Good means n i t BoolSort → IsTrueIn i t → Quietly scope i (with_fact t s) c
  with_truth {scope = scope} {i = i} {s = s} {c = c} t q g h = record { stands = subst (λ z. Stands means world scope i z c) (fact_woken n t s) (stands_fact means world t q.stands g h) }

  pub with_side : {scope : Scope} {i : Interpretation} {s : State} {c : run.State} (t : Term) → Quietly scope i s c → Good means n i t BoolSort → IsTrueIn i t → Quietly scope i (with_branch t s) c
  with_side t q g h = record { stands = stands_entry means world t true q.stands g h }

  pub with_chunk : {scope : Scope} {i : Interpretation} {s : State} {c : run.State} (new : Chunk) (r : run.Resource) (a : Fraction) → Quietly scope i s c → Keyed means world n i c.heap r new → Same (amount_of i new) a →
      world.Holds c.heap (run.gained r a c.holdings) → Quietly scope i (put new s) (run.with_holdings (run.gained r a c.holdings) c)
  with_chunk {scope = scope} {i = i} {s = s} {c = c} new r a q key is holds =
      record { stands = subst (λ z. Stands means world scope i z (run.with_holdings (run.gained r a c.holdings) c)) (put_woken n new s) (saying_stands means world (not (is_quiet s)) new r a q.stands key is holds) }
