-- What the turns of a loop tell.
use Rattle.std.proofs.Common.{◌≡◌, ℕ, zero, suc, List, [], ◌∷◌, ◌++◌, Option, Some, None, Ok, refl, sym, ap, subst, ◌∙◌}
use Rattle.vx_tokens.specs.Tokens.{Token}
use Rattle.vx_grammar.specs.Grammar.{Mark, tokens_of}
use Rattle.vx_grammar.specs.Reading.{Read, Turn, run, turned}
use Rattle.vx_grammar.proofs.Tells.{Grammar, Takes, Tells, After, GoesOn, tells_then, tells_as, tells_here}

-- which marks lead from what was read before to what is read with one item more
abbrev pub Step : Type 0 → Type 1
Step S = S → S → List Mark → Type 0

abbrev pub TurnFor : {S : Type 0} → Step S → S → Grammar (Option S)
TurnFor G s None ms = ms ≡ []
TurnFor G s (Some t) ms = G s t ms

abbrev pub StepsBy : {S : Type 0} → Step S → List S → S → S → List Mark → Type 0
StepsBy G [] s t ms = (s ≡ t) × (ms ≡ [])
StepsBy G (m ∷ path) s t ms = (front : List Mark) × (back : List Mark) × (ms ≡ front ++ back) × G s m front × StepsBy G path m t back

-- any number of items
abbrev pub StepsFor : {S : Type 0} → Step S → S → Grammar S
StepsFor {S} G s t ms = (path : List S) × StepsBy G path s t ms

pub no_steps : {S : Type 0} (G : Step S) (s : S) → StepsFor G s s []
no_steps G s = ([], (refl, refl))

pub more_steps : {S : Type 0} (G : Step S) (s m t : S) (a b : List Mark) → G s m a → StepsFor G m t b → StepsFor G s t (a ++ b)
more_steps G s m t a b g (path, h) = (m ∷ path, (a, b, refl, g, h))

one_step : {S : Type 0} (G : Step S) (s : S) → GoesOn (TurnFor G s) (StepsFor G s)
one_step G s None ms g = record { value = s; more = []; spelled = subst (λ l. StepsFor G s s (l ++ [])) (sym g) (no_steps G s) }
one_step G s (Some t) ms g = record { value = t; more = []; spelled = more_steps G s t t ms [] g (no_steps G t) }

turned_tells : {S : Type 0} (G : Step S) (limit : ℕ) (s : S) (ts : List Token) (go : S → List Token → Read S) → ((t : S) (us : List Token) → Tells (StepsFor G t) limit us (go t us)) → (o : Option S) (rest : List Token) (ms : List Mark) → TurnFor G s o ms → Takes limit ts ms rest
    → Tells (After (StepsFor G s) ms) limit rest (turned go s ts o rest)
turned_tells G limit s ts go h None rest ms g takes =
    let same : ts ≡ rest = takes.tokens ∙ ap (λ l. tokens_of l ++ rest) g in
    subst (λ l. Tells (After (StepsFor G s) ms) limit rest (Ok (s, l))) (sym same)
    (tells_here (After (StepsFor G s) ms) limit rest s (subst (λ l. StepsFor G s s (l ++ [])) (sym g) (no_steps G s)))
turned_tells G limit s ts go h (Some t) rest ms g takes = tells_as (StepsFor G t) (After (StepsFor G s) ms) limit rest (go t rest) (λ u ns st. more_steps G s t u ms ns g st) (h t rest)

pub run_tells : {S : Type 0} (G : Step S) (limit : ℕ) (turn : Turn S) → ((s : S) (ts : List Token) → Tells (TurnFor G s) limit ts (turn s ts)) → (most : ℕ) (s : S) (ts : List Token) → Tells (StepsFor G s) limit ts (run turn most s ts)
unfolding run
run_tells G limit turn h zero s ts = tells_here (StepsFor G s) limit ts s (no_steps G s)
run_tells G limit turn h (suc most) s ts =
    tells_then (TurnFor G s) (StepsFor G s) limit ts (turn s ts) (λ x. turned (run turn most) s ts x.0 x.1) (one_step G s) (h s ts)
    (λ o rest ms g takes. turned_tells G limit s ts (run turn most) (run_tells G limit turn h most) o rest ms g takes)
