-- One step: what the checker does of it, and what its rule says.
use Rattle.std.proofs.Common.{◌≡◌, ℕ, suc, List, [], ◌∷◌, ◌++◌, Option, Some, None, map, length, refl, sym, ◌∙◌, ap, subst, arith}
use Rattle.std.proofs.lemmas.Option.{same_Some}
use Rattle.vx_frac.specs.Fractions.{Fraction}
use Rattle.cs_certificate.specs.Certificate.{Stack, State, Clause, NumberedLiteral, Step, NewTerm, Farkas, Derives, Leads, stays, derives}
use Rattle.cs_certificate.specs.Certificate as certificate
use Rattle.cs_certificate.specs.Nodes.{Node, Represents}
use Rattle.cs_certificate.specs.Steps.{◌>>=◌, Names, Computes}
use Rattle.cs_certificate.specs.declared.literal.Clause.{Clause as Clause'}
use Rattle.cs_farkas.specs.Sums.{Done, Leaves, Misses}
use Rattle.cs_farkas.specs.Sums as sums
use Rattle.cs_proof.specs.Prepared.{Duty, Derived, Missed, within, derived}
use Rattle.cs_proof.specs.Plans.{Plans, with_duty, with_clause, kept}
use Rattle.cs_proof.specs.Checking.{met}
use Rattle.cs_proof.specs.Answers.{Meets, IsOver}
use Rattle.cs_proof.proofs.Literals.{named, all_within, one_clause}
use Rattle.cs_proof.proofs.State.{state_of, Stands, represents, as_long, clause_stands, clause_state}

-- the step meets its rule and is done, or not
pub data Fate (stack : Stack) (roots : List ℕ) (nodes : List Node) (clauses : List Clause') (p : Plans) (w : Option Step) (q : Plans) : Type 0 where
  moves : (d : Duty) → q.duties ≡ p.duties ++ d ∷ [] → met nodes clauses (length p.clauses) d ≡ Done (length q.clauses) →
      Meets stack (state_of p) w (state_of q) → ((u : State) → Meets stack (state_of p) w u → u ≡ state_of q) → ((o : sums.Over) → IsOver (state_of p) w o → ⊥) → Stands stack roots q → Fate stack roots nodes clauses p w q
  misses : (d : Duty) → q.duties ≡ p.duties ++ d ∷ [] → met nodes clauses (length p.clauses) d ≡ Misses →
      ((u : State) → Meets stack (state_of p) w u → ⊥) → ((o : sums.Over) → IsOver (state_of p) w o → ⊥) → Fate stack roots nodes clauses p w q
  leaves : (d : Duty) → q.duties ≡ p.duties ++ d ∷ [] → (o : sums.Over) → met nodes clauses (length p.clauses) d ≡ Leaves o → IsOver (state_of p) w o → Fate stack roots nodes clauses p w q

-- a step with a clause
abbrev pub IsDeriving : Step → Type 0
IsDeriving (NewTerm t) = ⊥
IsDeriving step = Unit {0}

pub led : (stack : Stack) (s u : State) (step : Step) → IsDeriving step → Leads stack s (step ∷ []) u → (c : Clause) × Derives stack s step c
led stack s u (NewTerm t) h l = absurd h
led stack s u step h (derives {c = c} d more) = (c, d)

pub last_state : (stack : Stack) (s u : State) → Leads stack s [] u → u ≡ s
last_state stack s u stays = refl

pub led_to : (stack : Stack) (s u : State) (step : Step) → IsDeriving step → Leads stack s (step ∷ []) u → (c : Clause) × Derives stack s step c × (u ≡ certificate.with_clause s c)
led_to stack s u (NewTerm t) h l = absurd h
led_to stack s u step h (derives {c = c} d more) = (c, d, last_state stack (certificate.with_clause s c) u more)

one_longer : {A : Type 0} (xs : List A) (x : A) → length (xs ++ x ∷ []) ≡ suc (length xs)
one_longer [] x = refl
one_longer (y ∷ ys) x = ap suc (one_longer ys x)

module _ (stack : Stack) (roots : List ℕ) (nodes : List Node) (clauses : List Clause') (p : Plans) (h : Stands stack roots p) where
  s : State
  s = state_of p

  r : Represents p.nodes p.terms
  r = represents stack roots p h

  no_step : (u : State) → Meets stack (state_of p) None u → ⊥
  no_step u (step, e, l) = cc

  nothing_over : (o : sums.Over) → IsOver (state_of p) None o → ⊥
  nothing_over o w = no_farkas w.0 w.1 w.2
    where
      no_farkas : (ls : List NumberedLiteral) (ms : List Fraction) → None ≡ Some (Farkas ls ms) → ⊥
      no_farkas ls ms e = cc

  pub none_fate : Fate stack roots nodes clauses p None (with_duty p Missed)
  none_fate = misses Missed refl refl no_step nothing_over

  module _ (step : Step) (has_clause : IsDeriving step) where
    pub not_met : ((c : Clause) → Derives stack (state_of p) step c → ⊥) → (u : State) → Meets stack (state_of p) (Some step) u → ⊥
    not_met never u (other, e, l) = let d = led stack (state_of p) u step has_clause (subst (λ x. Leads stack (state_of p) (x ∷ []) u) (sym (same_Some _ _ e)) l) in never d.0 d.1

    met_by : (d : Duty) {ns : List NumberedLiteral} {c : Clause} → Names p.terms ns c → Derives stack (state_of p) step c → Meets stack (state_of p) (Some step) (state_of (with_clause p (d, map named ns)))
    met_by d {c = c} n by = (step, refl, subst (Leads stack (state_of p) (step ∷ [])) (clause_state p d n) (derives by stays))

    met_only : (d : Duty) {ns : List NumberedLiteral} {c : Clause} → Names p.terms ns c → ((b : Clause) → Derives stack (state_of p) step b → b ≡ c) → (u : State) → Meets stack (state_of p) (Some step) u → u ≡ state_of (with_clause p (d, map named ns))
    met_only d {c = c} n one u (other, e, l) =
        let x = led_to stack (state_of p) u step has_clause (subst (λ x. Leads stack (state_of p) (x ∷ []) u) (sym (same_Some _ _ e)) l) in
        x.2 ∙ ap (certificate.with_clause (state_of p)) (one x.0 x.1) ∙ clause_state p d n

    pub moved : (d : Duty) {ns : List NumberedLiteral} {c : Clause} → met nodes clauses (length p.clauses) d ≡ Done (suc (length p.clauses)) → Names p.terms ns c → Derives stack (state_of p) step c → ((b : Clause) → Derives stack (state_of p) step b → b ≡ c) →
        ((o : sums.Over) → IsOver (state_of p) (Some step) o → ⊥) → Fate stack roots nodes clauses p (Some step) (with_clause p (d, map named ns))
    moved d {ns = ns} e n by one over = moves d refl (e ∙ ap Done (sym (one_longer p.clauses (map named ns)))) (met_by d n by) (met_only d n one) over (clause_stands stack roots p d h n)

    -- by a clause that is computed
    pub clause_fate : ((ls : List NumberedLiteral) (ms : List Fraction) → step ≡ Farkas ls ms → ⊥) → (computed : Option (List NumberedLiteral)) → Computes p.nodes (state_of p) stack step computed →
        Fate stack roots nodes clauses p (Some step) (kept p (derived p.nodes computed))
    clause_fate other computed by = go computed refl
      where
        over : (o : sums.Over) → IsOver (state_of p) (Some step) o → ⊥
        over o w = other w.0 w.1 (same_Some _ _ w.2)

        go : (o : Option (List NumberedLiteral)) → computed ≡ o → Fate stack roots nodes clauses p (Some step) (kept p (derived p.nodes o))
        go None e = misses Missed refl refl (not_met (λ c d. let x = by.complete c d in let f : Some x.0 ≡ None = sym x.2 ∙ e in cc)) over
        go (Some ns) e =
            let x = by.sound ns e in
            let fits : within (length p.nodes) ns ≡ Some (map named ns) = all_within p.terms (length p.nodes) (let f = as_long stack roots p h in omega arith) x.1 in
            subst (λ o. Fate stack roots nodes clauses p (Some step) (kept p (o >>= λ ls. Some (Derived, ls)))) (sym fits) (moved Derived refl x.1 x.2 (λ b d. (let y = by.complete b d in one_clause p.terms (subst (λ l. Names p.terms l b) (same_Some _ _ (sym y.2 ∙ e)) y.1) x.1)) over)
