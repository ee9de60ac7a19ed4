-- A finished certificate refutes.
use Rattle.std.proofs.Common.{◌≡◌, List, [], ◌∷◌, true, false}
use Rattle.vx_terms.specs.Interpretations.{Interpretation, Each, AllTrue, IsTrueIn}
use Rattle.cs_certificate.specs.Certificate.{live, Clause, Step, Stack, State, Derives, input, define, pick-then, pick-else, chain, congruence, farkas, split, trichotomy, divide-0, divide-1, divide-2, propagate, Leads, stays, names, derives}
use Rattle.vx_smt_meaning.specs.Commands.{assertions_of}
use Rattle.cs_certificate.specs.Law.{Law, LiveLaw}
use Rattle.cs_certificate.proofs.Clauses.{is_true, Holds, each_at, each_append, or_left}
use Rattle.cs_certificate.proofs.Values.{congruent}
use Rattle.cs_certificate.proofs.Steps.{define_holds, equates_true, links_hold, pairs_hold, last_holds, propagate_holds, pick_holds, unpicked_holds}
use Rattle.cs_certificate.proofs.Numbers.{split_holds, trichotomy_holds, divide_0, divide_1, divide_2}
use Rattle.cs_certificate.proofs.Refutation.{farkas_holds}
use Rattle.std.proofs.Common.{inl, inr}
use mathlib.Core.List.{reverse_aux}

-- what a step derives holds
derived_holds : (i : Interpretation) (stack : Stack) (s : State) {step : Step} {c : Clause} → AllTrue i stack.assertions → Each (Holds i) s.clauses → Derives stack s step c → Holds i c
derived_holds i stack s model k (input {n = n} {t = t} a) = record { holds = or_left (is_true i t) false (each_at (IsTrueIn i) stack.assertions n t model a) }
derived_holds i stack s model k (define a d) = define_holds i d
derived_holds i stack s model k (pick-then {c = c} {x = x} {y = y} a b e) = pick_holds i s c x y _ e
derived_holds i stack s model k (pick-else {c = c} {x = x} {y = y} a b e) = unpicked_holds i s c x y _ e
derived_holds i stack s model k (chain {e = e} {c = c} a b l q) = last_holds i c e (elim (links_hold i s l) [ inl h ↦ inl h | inr h ↦ inr (equates_true i s q h) ])
derived_holds i stack s model k (congruence {t = t} {u = u} {e = e} {c = c} a b h p q) = last_holds i c e (elim (pairs_hold i s p) [ inl g ↦ inl g | inr g ↦ inr (equates_true i s q (congruent i t u h g)) ])
derived_holds i stack s model k (farkas {sort = sort} {c = c} a n rows z) = farkas_holds i sort c n rows z
derived_holds i stack s model k (split {t = t} {z = z} a h p q) = split_holds i t z h
derived_holds i stack s model k (trichotomy {a = a} {b = b} {e = e} {sort = sort} p q n f g x w y) = trichotomy_holds i s a b e sort n f g w
derived_holds i stack s model k (divide-0 {a = a} {e = e} {d = d} p q z h w) = divide_0 i s a e d z h w
derived_holds i stack s model k (divide-1 {a = a} {d = d} p q z h w) = divide_1 i a d z
derived_holds i stack s model k (divide-2 {a = a} {d = d} p q z h w) = divide_2 i a d z
derived_holds i stack s model k (propagate {c = c} a r) = propagate_holds i s c k r

leads_hold : (i : Interpretation) (stack : Stack) {s u : State} {steps : List Step} → AllTrue i stack.assertions → Each (Holds i) s.clauses → Leads stack s steps u → Each (Holds i) u.clauses
leads_hold i stack model k stays = k
leads_hold i stack model k (names h live rest) = leads_hold i stack model k rest
leads_hold i stack {s = s} model k (derives {c = c} d rest) = leads_hold i stack model (each_append (Holds i) s.clauses c k (derived_holds i stack s model k d)) rest

pub sound : Law
sound stack steps (s, leads, empty) i model =
    let h = each_at (Holds i) s.clauses empty.0 [] (leads_hold i stack model tt leads) empty.1 in
    let e = h.holds in
    absurd (impossible e)
  where
    impossible : false ≡ true → ⊥
    impossible e = cc

-- the order of assertions doesn't matter
each_turned : {A : Type 0} (P : A → Type 0) (xs ys : List A) → Each P xs → Each P ys → Each P (reverse_aux xs ys)
each_turned P [] ys h k = k
each_turned P (x ∷ xs) ys h k = each_turned P xs (x ∷ ys) h.1 (h.0, k)

pub live_sound : LiveLaw
live_sound levels steps finished i model = sound (live levels) steps finished i (each_turned (IsTrueIn i) (assertions_of levels) [] model tt)
