-- A `rup` step: what the checker does of it, and what its rule says.
use Rattle.std.proofs.Common.{◌≡◌, ℕ, suc, ◌<◌, ◌^◌, Bool, true, false, List, [], ◌∷◌, ◌++◌, Option, Some, None, map, length, take, refl, sym, ◌∙◌, ap, subst, arith}
use Rattle.std.specs.Prelude.{if◌then◌else◌}
use Rattle.std.specs.List.{list_all}
use Rattle.vx_frac.specs.Fractions.{Fraction}
use Rattle.vx_terms.specs.Interpretations.{Each}
use Rattle.cs_certificate.specs.Certificate.{Stack, Clause, negated, NumberedLiteral, Farkas, Propagate, Refutes, Derives, propagate}
use Rattle.cs_certificate.specs.Nodes.{Node}
use Rattle.cs_certificate.specs.Steps.{◌>>=◌, Names}
use Rattle.cs_certificate.specs.declared.literal.Literal.{Literal}
use Rattle.cs_certificate.specs.declared.literal.Clause.{Clause as Clause'}
use Rattle.cs_certificate.specs.Hints as hints
use Rattle.cs_certificate.specs.Bridge.{views, state, IsNumbered, AreDistinct}
use Rattle.cs_certificate.proofs.Bridged.{bridged, converse}
use Rattle.cs_farkas.specs.Sums.{Done, Misses}
use Rattle.cs_farkas.specs.Sums as sums
use Rattle.cs_proof.specs.Prepared.{Duty, Missed, Hints, narrow_literals, within, turned, is_bool, with_literals, if_all_bool, propagation, saturate}
use Rattle.cs_proof.specs.Plans.{Plans, kept, with_clause}
use Rattle.cs_proof.specs.Checking.{met}
use Rattle.cs_proof.specs.Answers.{IsOver}
use Rattle.cs_proof.proofs.Literals.{named, one_clause}
use Rattle.cs_proof.proofs.Literals as literals
use Rattle.cs_proof.proofs.Narrowed.{literals_are, literals_named, saturated}
use Rattle.cs_proof.proofs.Lits.{reads_names, bools_within, turned_within, all_read, read_bools, turned_views}
use Rattle.cs_proof.proofs.State.{state_of, Stands, represents, as_long}
use Rattle.cs_proof.proofs.Moves.{Fate, misses, not_met, moved}

module _ (stack : Stack) (roots : List ℕ) (nodes : List Node) (clauses : List Clause') (p : Plans) (h : Stands stack roots p)
    (small : length p.nodes < 2 ^ 32) (few : length (take (length p.clauses) clauses) < 2 ^ 32)
    (here : state p.terms (take (length p.clauses) clauses) ≡ state_of p)
    (distinct : AreDistinct p.terms)
    (within_terms : Each (λ c. Each (IsNumbered p.terms) c.literals.items) (take (length p.clauses) clauses))
    (ls : List NumberedLiteral) (hs : List ℕ) where
  over : (o : sums.Over) → IsOver (state_of p) (Some (Propagate ls hs)) o → ⊥
  over o w = other w.0 w.1 w.2
    where
      other : (ls' : List NumberedLiteral) (ms' : List Fraction) → Some (Propagate ls hs) ≡ Some (Farkas ls' ms') → ⊥
      other ls' ms' e = cc

  missing : (d : Duty) (q : Plans) → q.duties ≡ p.duties ++ d ∷ [] → met nodes clauses (length p.clauses) d ≡ Misses → ((c : Clause) → Derives stack (state_of p) (Propagate ls hs) c → ⊥) → Fate stack roots nodes clauses p (Some (Propagate ls hs)) q
  missing d q e m none = misses d e m (not_met stack roots nodes clauses p h (Propagate ls hs) tt none) over

  not_numbered : narrow_literals ls ≡ None → (c : Clause) → Derives stack (state_of p) (Propagate ls hs) c → ⊥
  not_numbered e c (propagate reads refutes) =
      let same = as_long stack roots p h in
      let f : Some ls ≡ None = sym (literals_named p.terms (omega arith) (reads_names (state_of p) reads)) ∙ e in cc

  not_bool : list_all (is_bool p.nodes) ls ≡ false → (c : Clause) → Derives stack (state_of p) (Propagate ls hs) c → ⊥
  not_bool e c (propagate reads refutes) = let f : true ≡ false = sym (read_bools p.nodes (state_of p) (represents stack roots p h) reads) ∙ e in cc

  assumed : List Literal
  assumed = map named (map turned ls)

  duty : Duty
  duty = Hints (map named (map turned ls)) (map saturate hs)

  module _ (bools : list_all (is_bool p.nodes) ls ≡ true) where
    names : Names p.terms ls (views p.terms (map named ls))
    names = reads_names (state_of p) (all_read p.nodes (state_of p) (represents stack roots p h) ls bools)

    assumed_named : Each (IsNumbered p.terms) (map named (map turned ls))
    assumed_named = go ls (literals.numbered p.terms names)
      where
        go : (ks : List NumberedLiteral) → Each (IsNumbered p.terms) (map named ks) → Each (IsNumbered p.terms) (map named (map turned ks))
        go [] h = tt
        go (k ∷ ks) h = (h.0, go ks h.1)

    refuted : hints.refutes (take (length p.clauses) clauses) (map named (map turned ls)) (map saturate hs) ≡ true → Derives stack (state_of p) (Propagate ls hs) (views p.terms (map named ls))
    refuted e =
        let r = bridged p.terms (take (length p.clauses) clauses) (map named (map turned ls)) hs distinct assumed_named within_terms (sym (saturated (take (length p.clauses) clauses) few hs (map named (map turned ls))) ∙ e) in
        propagate (all_read p.nodes (state_of p) (represents stack roots p h) ls bools) (subst (λ x. Refutes x (map negated (views p.terms (map named ls))) hs) here (subst (λ a. Refutes (state p.terms (take (length p.clauses) clauses)) a hs) (turned_views p.terms ls) r))

    not_refuted : hints.refutes (take (length p.clauses) clauses) (map named (map turned ls)) (map saturate hs) ≡ false → (c : Clause) → Derives stack (state_of p) (Propagate ls hs) c → ⊥
    not_refuted e c (propagate reads refutes) =
        let one : c ≡ views p.terms (map named ls) = one_clause p.terms (reads_names (state_of p) reads) names in
        let r : Refutes (state p.terms (take (length p.clauses) clauses)) (views p.terms (map named (map turned ls))) hs =
        subst (λ a. Refutes (state p.terms (take (length p.clauses) clauses)) a hs) (ap (map negated) one ∙ sym (turned_views p.terms ls)) (subst (λ x. Refutes x (map negated c) hs) (sym here) refutes) in
        let f : true ≡ false = sym (saturated (take (length p.clauses) clauses) few hs (map named (map turned ls)) ∙ converse p.terms (take (length p.clauses) clauses) (map named (map turned ls)) hs distinct assumed_named within_terms r) ∙ e in cc

    read_names : (b : Clause) → Derives stack (state_of p) (Propagate ls hs) b → Names p.terms ls b
    read_names b (propagate reads r) = reads_names (state_of p) reads

    hinted : (b : Bool) → hints.refutes (take (length p.clauses) clauses) (map named (map turned ls)) (map saturate hs) ≡ b →
        Fate stack roots nodes clauses p (Some (Propagate ls hs)) (with_clause p (Hints (map named (map turned ls)) (map saturate hs), map named ls))
    hinted true e = moved stack roots nodes clauses p h (Propagate ls hs) tt (Hints (map named (map turned ls)) (map saturate hs)) (ap (λ b. if b then Done (suc (length p.clauses)) else Misses) e) names (refuted e) (λ b d. one_clause p.terms (read_names b d) names) over
    hinted false e = missing (Hints (map named (map turned ls)) (map saturate hs)) (with_clause p (Hints (map named (map turned ls)) (map saturate hs), map named ls)) refl (ap (λ b. if b then Done (suc (length p.clauses)) else Misses) e) (not_refuted e)

    fits : (within (length p.nodes) (map turned ls) >>= λ assumed. with_literals (Hints assumed (map saturate hs)) (within (length p.nodes) ls)) ≡ Some (Hints (map named (map turned ls)) (map saturate hs), map named ls)
    fits = ap (λ o. o >>= λ assumed. with_literals (Hints assumed (map saturate hs)) (within (length p.nodes) ls)) (turned_within p.nodes ls bools) ∙ ap (with_literals (Hints (map named (map turned ls)) (map saturate hs))) (bools_within p.nodes ls bools)

  numbered : (b : Bool) → list_all (is_bool p.nodes) ls ≡ b → Fate stack roots nodes clauses p (Some (Propagate ls hs)) (kept p (if_all_bool p.nodes ls (within (length p.nodes) (map turned ls) >>= λ assumed. with_literals (Hints assumed (map saturate hs)) (within (length p.nodes) ls))))
  numbered true e =
      subst (λ o. Fate stack roots nodes clauses p (Some (Propagate ls hs)) (kept p o))
      (sym (fits e) ∙ sym (ap (λ b. if b then (within (length p.nodes) (map turned ls) >>= λ assumed. with_literals (Hints assumed (map saturate hs)) (within (length p.nodes) ls)) else None) e))
      (hinted e (hints.refutes (take (length p.clauses) clauses) (map named (map turned ls)) (map saturate hs)) refl)
  numbered false e =
      subst (λ o. Fate stack roots nodes clauses p (Some (Propagate ls hs)) (kept p o))
      (sym (ap (λ b. if b then (within (length p.nodes) (map turned ls) >>= λ assumed. with_literals (Hints assumed (map saturate hs)) (within (length p.nodes) ls)) else None) e))
      (missing Missed (kept p None) refl refl (not_bool e))

  pub hints_fate : Fate stack roots nodes clauses p (Some (Propagate ls hs)) (kept p (propagation p.nodes ls hs))
  hints_fate = go (narrow_literals ls) refl
    where
      go : (o : Option (List NumberedLiteral)) → narrow_literals ls ≡ o →
          Fate stack roots nodes clauses p (Some (Propagate ls hs)) (kept p (o >>= λ ns. if_all_bool p.nodes ns (within (length p.nodes) (map turned ns) >>= λ assumed. with_literals (Hints assumed (map saturate hs)) (within (length p.nodes) ns))))
      go None e = missing Missed (kept p None) refl refl (not_numbered e)
      go (Some ns) e =
          subst (λ ns. Fate stack roots nodes clauses p (Some (Propagate ls hs)) (kept p (if_all_bool p.nodes ns (within (length p.nodes) (map turned ns) >>= λ assumed. with_literals (Hints assumed (map saturate hs)) (within (length p.nodes) ns)))))
          (sym (literals_are ls ns e)) (numbered (list_all (is_bool p.nodes) ls) refl)
