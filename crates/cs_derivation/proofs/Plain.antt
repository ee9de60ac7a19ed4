-- Writable steps none of which is a `farkas` step: the checker finishes them where they lead to an empty clause.
use Rattle.std.proofs.Common.{◌≡◌, List, [], ◌∷◌, ◌++◌, Some, map, refl, sym, subst}
use Rattle.std.proofs.lemmas.Option.{same_Some}
use Rattle.vx_terms.specs.Interpretations.{Each}
use Rattle.cs_certificate.specs.Certificate.{Stack, State, start, Step, NewTerm, Farkas, Leads, stays, names, derives}
use Rattle.cs_farkas.specs.Sums as sums
use Rattle.cs_proof.specs.Answers.{Holds, none, more, IsOver}
use Rattle.cs_writable.specs.Writable.{IsWritable, AreWritable}
use Rattle.cs_derivation.specs.Finish.{Finishes}
use Rattle.cs_derivation.specs.Reached.{IsPlain, state_of}
use Rattle.cs_derivation.specs.Taken.{IsTaken}

-- a step that is taken is plain
pub taken_plain : (step : Step) → IsTaken step → IsPlain step
taken_plain (NewTerm t) h = absurd h
taken_plain (Farkas ls ms) h = h
taken_plain step h = h

-- with one step more
pub plain_end : (steps : List Step) (step : Step) → Each IsPlain steps → IsPlain step → Each IsPlain (steps ++ step ∷ [])
plain_end [] step h s = (s, tt)
plain_end (x ∷ xs) step h s = (h.0, plain_end xs step h.1 s)

-- no fraction of such a step leaves 128 bits
none_over : (s : State) (step : Step) → IsPlain step → (o : sums.Over) → IsOver s (Some step) o → ⊥
none_over s step h o w = let f : step ≡ Farkas w.0 w.1 = same_Some _ _ w.2 in subst IsPlain f h

-- such steps hold where they lead
hold : (stack : Stack) {s u : State} {steps : List Step} → Leads stack s steps u → Each IsPlain steps → Holds stack s (map Some steps) u
hold stack stays p = none
hold stack {s = s} (names {t = t} h l rest) p = more (NewTerm t, refl, names h l stays) (none_over s (NewTerm t) p.0) (hold stack rest p.1)
hold stack {s = s} (derives {step = step} d rest) p = more (step, refl, derives d stays) (none_over s step p.0) (hold stack rest p.1)

plain_writable : (step : Step) → IsPlain step → IsWritable step
plain_writable (Farkas ls ms) h = absurd h
plain_writable step h = h

are_writable : (steps : List Step) → Each IsPlain steps → AreWritable (map Some steps)
are_writable [] h = tt
are_writable (step ∷ steps) h = (plain_writable step h.0, are_writable steps h.1)

-- so they are finished and writable where some clause is empty
pub finishes : Finishes
finishes stack r h empty = ((state_of r, subst (λ ws. Holds stack (start stack) ws (state_of r)) (sym h.written) (hold stack h.leads h.plain), empty), subst AreWritable (sym h.written) (are_writable h.steps h.plain))
