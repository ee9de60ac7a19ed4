-- A `farkas` step: what the checker does of it, and what its rule says.
use Rattle.std.proofs.Common.{◌≡◌, ℕ, suc, ◌<◌, ◌≤◌, ◌^◌, List, [], ◌∷◌, ◌++◌, Option, Some, None, map, length, take, inl, inr, refl, sym, ◌∙◌, ap, subst, arith}
use Rattle.std.proofs.lemmas.Option.{same_Some}
use Rattle.vx_frac.specs.Fractions.{Fraction}
use Rattle.cs_certificate.specs.Certificate.{Stack, Clause, NumberedLiteral, Farkas, Derives, farkas}
use Rattle.cs_certificate.specs.Nodes.{Node}
use Rattle.cs_certificate.specs.Steps.{◌>>=◌, Names}
use Rattle.cs_certificate.specs.declared.literal.Clause.{Clause as Clause'}
use Rattle.cs_farkas.specs.Sums.{Outcome, Done, Leaves, Misses}
use Rattle.cs_farkas.specs.Sums as sums
use Rattle.cs_farkas.specs.Bridge.{Decides}
use Rattle.cs_farkas.specs.Rows.{Part, parts_of, combination_of, if_parts, Combination, refutes, farkas_clause, if_combined}
use Rattle.cs_farkas.proofs.Decided.{farkas_by_number}
use Rattle.cs_farkas.proofs.Widths.{any_width}
use Rattle.cs_proof.specs.Prepared.{Duty, Missed, Sum, narrow_literals, within, sum, with_literals}
use Rattle.cs_proof.specs.Plans.{Plans, kept, with_clause}
use Rattle.cs_proof.specs.Checking.{met}
use Rattle.cs_proof.specs.Answers.{IsOver}
use Rattle.cs_proof.proofs.Literals.{named, one_clause}
use Rattle.cs_proof.proofs.Narrowed.{literals_are, literals_named}
use Rattle.cs_proof.proofs.Lits.{InRange, parts_in_range, reads_names}
use Rattle.cs_proof.proofs.State.{state_of, Stands, represents, as_long}
use Rattle.cs_proof.proofs.Moves.{Fate, misses, leaves, not_met, moved}

combined_in_range : (nodes : List Node) (ls : List NumberedLiteral) (ms : List Fraction) (c : Combination) → combination_of nodes ls ms ≡ Some c → InRange (length nodes) ls
combined_in_range nodes ls ms c e = go (parts_of nodes ls ms) refl e
  where
    go : (o : Option (List Part)) → parts_of nodes ls ms ≡ o → if_parts nodes o ≡ Some c → InRange (length nodes) ls
    go None f e = cc
    go (Some ps) f e = parts_in_range nodes ls ms ps f

leaves_combined : (nodes : List Node) (width : ℕ) (ls : List NumberedLiteral) (ms : List Fraction) (o : sums.Over) → farkas_clause nodes width ls ms ≡ Leaves o → (c : Combination) × (combination_of nodes ls ms ≡ Some c)
leaves_combined nodes width ls ms o e = go (combination_of nodes ls ms) refl e
  where
    go : (x : Option Combination) → combination_of nodes ls ms ≡ x → if_combined nodes width ls x ≡ Leaves o → (c : Combination) × (combination_of nodes ls ms ≡ Some c)
    go None f e = cc
    go (Some c) f e = (c, f)

module _ (stack : Stack) (roots : List ℕ) (nodes : List Node) (clauses : List Clause') (p : Plans) (h : Stands stack roots p)
    (small : length p.nodes < 2 ^ 32) (front : take (length p.nodes) nodes ≡ p.nodes) (wide : length p.nodes ≤ length nodes) (ls : List NumberedLiteral) (ms : List Fraction) where
  decides : Decides (state_of p) stack ls ms (farkas_clause p.nodes (length nodes) ls ms)
  decides = farkas_by_number p.nodes (state_of p) stack (length nodes) (represents stack roots p h) wide ls ms

  -- the call of the step itself
  over_here : (o : sums.Over) → IsOver (state_of p) (Some (Farkas ls ms)) o → farkas_clause p.nodes (length nodes) ls ms ≡ Leaves o
  over_here o (ls', ms', e, ns, is, f) =
      let same : ns ≡ p.nodes = same_Some _ _ (sym is ∙ h.nodes) in
      let one : ls' ≡ ls = first (same_Some _ _ e) in
      let two : ms' ≡ ms = second (same_Some _ _ e) in
      any_width p.nodes (length nodes) wide ls ms
      ∙ ap (λ l. farkas_clause p.nodes (length p.nodes) l ms) (sym one) ∙ ap (λ m. farkas_clause p.nodes (length p.nodes) ls' m) (sym two) ∙ ap (λ n. farkas_clause n (length n) ls' ms') (sym same) ∙ f
    where
      first : Farkas ls ms ≡ Farkas ls' ms' → ls' ≡ ls
      first e = cc

      second : Farkas ls ms ≡ Farkas ls' ms' → ms' ≡ ms
      second e = cc

  not_numbered : narrow_literals ls ≡ None → Fate stack roots nodes clauses p (Some (Farkas ls ms)) (kept p None)
  not_numbered e = misses Missed refl refl (not_met stack roots nodes clauses p h (Farkas ls ms) tt none) over
    where
      none : (c : Clause) → Derives stack (state_of p) (Farkas ls ms) c → ⊥
      none c (farkas reads i rs con) =
          let same = as_long stack roots p h in
          let f : Some ls ≡ None = sym (literals_named p.terms (omega arith) (reads_names (state_of p) reads)) ∙ e in cc

      over : (o : sums.Over) → IsOver (state_of p) (Some (Farkas ls ms)) o → ⊥
      over o w =
          let c = leaves_combined p.nodes (length nodes) ls ms o (over_here o w) in
          let r = combined_in_range p.nodes ls ms c.0 c.1 in
          let f : Some ls ≡ None = sym (r.narrow small) ∙ e in cc

  missing : (d : Duty) (q : Plans) → q.duties ≡ p.duties ++ d ∷ [] → met nodes clauses (length p.clauses) d ≡ Misses → farkas_clause p.nodes (length nodes) ls ms ≡ Misses → Fate stack roots nodes clauses p (Some (Farkas ls ms)) q
  missing d q e m f = misses d e m (not_met stack roots nodes clauses p h (Farkas ls ms) tt none) over
    where
      none : (c : Clause) → Derives stack (state_of p) (Farkas ls ms) c → ⊥
      none c by = elim (decides.complete c by) [
        | inl x ↦ (let g : Misses ≡ Done ls = sym f ∙ x.1 in cc)
        | inr x ↦ (let g : Misses ≡ Leaves x.0 = sym f ∙ x.1 in cc)
      ]

      over : (o : sums.Over) → IsOver (state_of p) (Some (Farkas ls ms)) o → ⊥
      over o w = let g : Misses ≡ Leaves o = sym f ∙ over_here o w in cc

  summed : (c : Combination) → combination_of p.nodes ls ms ≡ Some c → (o : Outcome sums.Sums) → refutes p.nodes (length nodes) c ≡ o →
      Fate stack roots nodes clauses p (Some (Farkas ls ms)) (with_clause p (Sum (length p.nodes) c, map named ls))
  summed c e o f = by o f (ap (if_combined p.nodes (length nodes) ls) e ∙ ap (λ x. sums.◌>>=◌ x (λ s. Done ls)) f) (ap (λ ns. sums.◌>>=◌ (refutes ns (length nodes) c) (λ s. Done (suc (length p.clauses)))) front ∙ ap (λ x. sums.◌>>=◌ x (λ s. Done (suc (length p.clauses)))) f)
    where
      read_names : (b : Clause) → Derives stack (state_of p) (Farkas ls ms) b → Names p.terms ls b
      read_names b (farkas reads i rs con) = reads_names (state_of p) reads

      by : (o : Outcome sums.Sums) → refutes p.nodes (length nodes) c ≡ o → farkas_clause p.nodes (length nodes) ls ms ≡ sums.◌>>=◌ o (λ s. Done ls) →
          met nodes clauses (length p.clauses) (Sum (length p.nodes) c) ≡ sums.◌>>=◌ o (λ s. Done (suc (length p.clauses))) → Fate stack roots nodes clauses p (Some (Farkas ls ms)) (with_clause p (Sum (length p.nodes) c, map named ls))
      by (Done s) f g m =
          let x = decides.sound ls g in
          moved stack roots nodes clauses p h (Farkas ls ms) tt (Sum (length p.nodes) c) m x.1 x.2 (λ b d. one_clause p.terms (read_names b d) x.1) (λ o w. (let k : Done ls ≡ Leaves o = sym g ∙ over_here o w in cc))
      by (Leaves over) f g m = leaves (Sum (length p.nodes) c) refl over m (ls, ms, refl, p.nodes, h.nodes, sym (any_width p.nodes (length nodes) wide ls ms) ∙ g)
      by Misses f g m = missing (Sum (length p.nodes) c) (with_clause p (Sum (length p.nodes) c, map named ls)) refl m g

  numbered : (o : Option Combination) → combination_of p.nodes ls ms ≡ o → Fate stack roots nodes clauses p (Some (Farkas ls ms)) (kept p (o >>= λ c. with_literals (Sum (length p.nodes) c) (within (length p.nodes) ls)))
  numbered None e = missing Missed (kept p None) refl refl (ap (if_combined p.nodes (length nodes) ls) e)
  numbered (Some c) e =
      let r = combined_in_range p.nodes ls ms c e in
      subst (λ o. Fate stack roots nodes clauses p (Some (Farkas ls ms)) (kept p (with_literals (Sum (length p.nodes) c) o))) (sym r.fits) (summed c e (refutes p.nodes (length nodes) c) refl)

  pub sum_fate : Fate stack roots nodes clauses p (Some (Farkas ls ms)) (kept p (sum p.nodes ls ms))
  sum_fate = go (narrow_literals ls) refl
    where
      go : (o : Option (List NumberedLiteral)) → narrow_literals ls ≡ o →
          Fate stack roots nodes clauses p (Some (Farkas ls ms)) (kept p (o >>= λ ns. (combination_of p.nodes ns ms >>= λ c. with_literals (Sum (length p.nodes) c) (within (length p.nodes) ns))))
      go None e = not_numbered e
      go (Some ns) e =
          subst (λ ns. Fate stack roots nodes clauses p (Some (Farkas ls ms)) (kept p (combination_of p.nodes ns ms >>= λ c. with_literals (Sum (length p.nodes) c) (within (length p.nodes) ns))))
          (sym (literals_are ls ns e)) (numbered (combination_of p.nodes ls ms) refl)
