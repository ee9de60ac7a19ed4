use Rattle.std.proofs.Common.{◌≡◌, [], ◌∷◌, ◌++◌, map, refl, sym, ◌∙◌, ap}
use Rattle.std.proofs.lemmas.List.{map-append}
use Rattle.vx_frac.specs.Fractions.{Fraction, minus}
use Rattle.vx_meaning.specs.States.{Holdings, Resource, gained}
use Rattle.vx_run.specs.Held.{resource}
use Rattle.vx_run.specs.Holding.{holdings}
use Rattle.vx_run.specs.Taken.{taken}
use Rattle.vx_run.specs.Whole.{given_back}
use Rattle.vx_run.proofs.gone.given_back.Goals as goal

-- the last one is turned too
back_on : (xs : Holdings) (e : Resource × Fraction) (ys : Holdings) → given_back (xs ++ e ∷ []) ++ ys ≡ given_back xs ++ (e.0, minus e.1) ∷ ys
back_on [] e ys = refl
back_on (x ∷ xs) e ys = ap (λ (l : Holdings). (x.0, minus x.1) ∷ l) (back_on xs e ys)

pub loop-e-preserved : goal.loop-e-preserved
loop-e-preserved c =
    let r = resource c.in-Some.e.resource.now in
    let xs = map taken c.pop.new.self.items in
    ap (λ (l : Holdings). given_back xs ++ l) (c.in_ok-given-2.ensures ∙ ap (λ (a : Fraction). gained r a (holdings c.loop-e.given)) c.in_ok-turned.ensures)
    ∙ sym (back_on xs (taken c.in-Some.e) (holdings c.loop-e.given))
    ∙ ap (λ (l : Holdings). given_back l ++ holdings c.loop-e.given) (sym (map-append taken c.pop.new.self.items (c.in-Some.e ∷ [])) ∙ ap (map taken) (sym c.in-Some.ensures.items))
    ∙ c.loop-e.invariant
