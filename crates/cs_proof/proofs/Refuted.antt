-- Steps that hold lead, and a finished certificate refutes.
use Rattle.std.proofs.Common.{◌≡◌, List, [], ◌∷◌, map, Option, Some, refl, ap₂}
use Rattle.cs_certificate.specs.Certificate.{Stack, State, start, Step, Leads, stays, names, derives}
use Rattle.cs_certificate.proofs.Finished.{sound}
use Rattle.cs_proof.specs.Answers.{Holds, none, more}
use Rattle.cs_proof.specs.Law.{IsFinishedToo, IsRefuted}

joined : (stack : Stack) (s x u : State) (step : Step) (steps : List Step) → Leads stack s (step ∷ []) x → Leads stack x steps u → Leads stack s (step ∷ steps) u
joined stack s x u step steps (names h a stays) r = names h a r
joined stack s x u step steps (derives d stays) r = derives d r

leads : (stack : Stack) (s u : State) (ws : List (Option Step)) → Holds stack s ws u → (steps : List Step) × (ws ≡ map Some steps) × Leads stack s steps u
leads stack s u _ none = ([], refl, stays)
leads stack s u _ (more {u = x} {w = w} {ws = ws} m n rest) =
    let k = leads stack x u ws rest in
    (m.0 ∷ k.0, ap₂ (λ y ys. y ∷ ys) m.1 k.1, joined stack s x u m.0 k.0 m.2 k.2)

pub finished_too : IsFinishedToo
finished_too stack ws h = let k = leads stack (start stack) h.0 ws h.1 in (k.0, k.1, (h.0, k.2, h.2))

pub refuted : IsRefuted
refuted stack ws h = let k = finished_too stack ws h in sound stack k.0 k.2
