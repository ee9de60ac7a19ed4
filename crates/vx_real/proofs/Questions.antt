-- Asks and forks that are exposed, in a state that matches: the question fails at the place, or what follows is exposed in a state with the same chunks.
use Rattle.std.proofs.Common.{◌≡◌, ◌⊎◌, inl, inr, Bool, true, false, not, cond, [], ◌∷◌, refl, sym, ◌∙◌, ap, subst, true≢false}
use Rattle.vx_ast.specs.declared.Place.{Place}
use Rattle.vx_ast.specs.Syntax.{Program}
use Rattle.vx_meaning.specs.States as run
use Rattle.vx_terms.specs.Sorts.{BoolSort}
use Rattle.vx_terms.specs.Terms.{Term}
use Rattle.vx_terms.specs.Build.{negate}
use Rattle.vx_terms.specs.Interpretations.{Interpretation, as_bool, value, IsTrueIn, AllTrue}
use Rattle.vx_terms.proofs.Build.{negate_value}
use Rattle.vx_rules.specs.States as rules
use Rattle.vx_rules.specs.Trees.{Code, Fork}
use Rattle.vx_rules.specs.Rules.{Going, ask, fork}
use Rattle.vx_types.specs.Typing.{Scope}
use Rattle.vx_elements.proofs.Settled.{Meaning}
use Rattle.vx_elements.proofs.Built.{Good, good_negate}
use Rattle.vx_grows.proofs.GrowSteps.{Follows}
use Rattle.vx_sound.proofs.Stands.{known_true, stands_fact, stands_entry, next_after_fact}
use Rattle.vx_sound.proofs.Fields.{fields_world}
use Rattle.vx_real.specs.Exposed.{Exposed}
use Rattle.vx_real.proofs.Exactly.{Exact}
use Rattle.vx_real.proofs.SumReads.{exposed_case, branch_true, asked_real, heap_after_facts, old_after_facts, at_after_facts}
use Rattle.vx_real.proofs.Matched.{Matches}
use Rattle.vx_real.proofs.Grown.{keeps}

module _ (means : Meaning) (p : Program) (i : Interpretation) where
  -- a further fact or branch leaves what matches
  pub matches_fact : {scope : Scope} {s : rules.State} {c : run.State} (t : Term) → Matches means p i scope s c → Good means s.next i t BoolSort → IsTrueIn i t → Matches means p i scope (rules.with_fact t s) c
  matches_fact {s = s} {c = c} t m g h = record {
    stands = stands_fact means (fields_world p) t m.stands g h;
    exact = subst (λ (x : rules.Heap). Exact i x c.holdings) (sym (heap_after_facts means (fields_world p) (t ∷ []) s)) m.exact;
    old_exact = subst (λ (x : rules.Heap). Exact i x c.old_holdings) (sym (old_after_facts means (fields_world p) (t ∷ []) s)) m.old_exact;
  }

  pub matches_branch : {scope : Scope} {s : rules.State} {c : run.State} (t : Term) → Matches means p i scope s c → Good means s.next i t BoolSort → IsTrueIn i t → Matches means p i scope (rules.with_branch t s) c
  matches_branch t m g h = record { stands = stands_entry means (fields_world p) t true m.stands g h; exact = m.exact; old_exact = m.old_exact }

  module _ (at : Place) (code : Code) where
    -- what follows is exposed in a state with the same chunks
    pub record Behind (scope : Scope) (s : rules.State) (c : run.State) (on : Going) : Type 0 where
      pub state : rules.State
      pub heap_is : state.heap ≡ s.heap
      pub old_is : state.old ≡ s.old
      pub at_is : state.at ≡ s.at
      pub next_is : state.next ≡ s.next
      pub matches : Matches means p i scope state c
      pub exposed : Exposed i at code (on state)

    pub here : {scope : Scope} {s : rules.State} {c : run.State} (on : Going) → Matches means p i scope s c → Exposed i at code (on s) → Behind scope s c on
    here {s = s} on m x = record { state = s; heap_is = refl; old_is = refl; at_is = refl; next_is = refl; matches = m; exposed = x }

    behind_fact : {scope : Scope} {s : rules.State} {c : run.State} (t : Term) (on : Going) → Matches means p i scope s c → Good means s.next i t BoolSort → IsTrueIn i t → Exposed i at code (on (rules.with_fact t s)) → Behind scope s c on
    behind_fact {s = s} t on m g told x = record {
      state = rules.with_fact t s;
      heap_is = heap_after_facts means (fields_world p) (t ∷ []) s;
      old_is = old_after_facts means (fields_world p) (t ∷ []) s;
      at_is = at_after_facts means (fields_world p) (t ∷ []) s;
      next_is = next_after_fact means (fields_world p) t s;
      matches = matches_fact t m g told;
      exposed = x;
    }

    behind_branch : {scope : Scope} {s : rules.State} {c : run.State} (t : Term) (on : Going) → Matches means p i scope s c → Good means s.next i t BoolSort → IsTrueIn i t → Exposed i at code (on (rules.with_branch t s)) → Behind scope s c on
    behind_branch {s = s} t on m g told x = record { state = rules.with_branch t s; heap_is = refl; old_is = refl; at_is = refl; next_is = refl; matches = matches_branch t m g told; exposed = x }

    -- a question: it fails at the place, or passes
    pub asked : {scope : Scope} {s : rules.State} {c : run.State} (t : Term) (place : Place) (its : Code) (on : Going) → Matches means p i scope s c → Good means s.next i t BoolSort → Follows on → Exposed i at code (ask t place its s on) →
        ((place ≡ at) × IsTrueIn i (negate t)) ⊎ (IsTrueIn i t × Behind scope s c on)
    asked {scope = scope} {s = s} {c = c} t place its on m g h x = go (asked_real i at code t place its on m.stands.awake (keeps i at code on h) x)
      where
        go : ((place ≡ at) × (its ≡ code) × IsTrueIn i (negate t) × AllTrue i (rules.path_terms s.path)) ⊎ ((s' : rules.State) × ((s' ≡ s) ⊎ (s' ≡ rules.with_fact t s)) × Exposed i at code (on s') × IsTrueIn i t × AllTrue i (rules.path_terms s.path)) →
            ((place ≡ at) × IsTrueIn i (negate t)) ⊎ (IsTrueIn i t × Behind scope s c on)
        go (inl y) = inl (y.0, y.2)
        go (inr (s', inl same, y, told, path)) = inr (told, here on m (subst (λ z. Exposed i at code (on z)) same y))
        go (inr (s', inr same, y, told, path)) = inr (told, behind_fact t on m g told (subst (λ z. Exposed i at code (on z)) same y))

    -- the side that is exposed is the one that the condition picks
    pub forked : {scope : Scope} {s : rules.State} {c : run.State} (t : Term) (left right : Going) → Matches means p i scope s c → Good means s.next i t BoolSort → Follows left → Follows right → Exposed i at code (fork t s left right) →
        (b : Bool) → as_bool (value i t) ≡ b → Behind scope s c (cond b left right)
    forked {scope = scope} {s = s} {c = c} t left right m g hl hr x b e =
        exposed_case i at code (rules.is_known t s) _ _ x
        (λ k y. on_left b e (known_true means (fields_world p) t m.stands k) (here left m y))
        (λ k y. exposed_case i at code (rules.is_known (negate t) s) _ _ y
        (λ k y. on_right b e (known_true means (fields_world p) (negate t) m.stands k) (here right m y))
        (λ k y. on_both y))
      where
        on_left : (b : Bool) → as_bool (value i t) ≡ b → IsTrueIn i t → Behind scope s c left → Behind scope s c (cond b left right)
        on_left true e k r = r
        on_left false e k r = absurd (true≢false (sym k ∙ e))

        on_right : (b : Bool) → as_bool (value i t) ≡ b → IsTrueIn i (negate t) → Behind scope s c right → Behind scope s c (cond b left right)
        on_right true e k r = absurd (true≢false (sym k ∙ ap as_bool (negate_value i g.formed) ∙ ap not e))
        on_right false e k r = r

        on_both : Exposed i at code (Fork (left (rules.with_branch t s)) (right (rules.with_branch (negate t) s))) → Behind scope s c (cond b left right)
        on_both (inl y) = let told = (branch_true i t s (keeps i at code left hl (rules.with_branch t s) y)).0 in on_left b e told (behind_branch t left m g told y)
        on_both (inr y) = let told = (branch_true i (negate t) s (keeps i at code right hr (rules.with_branch (negate t) s) y)).0 in on_right b e told (behind_branch (negate t) right m (good_negate means g) told y)
