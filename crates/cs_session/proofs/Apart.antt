-- What symbols that are apart are after one more, and without some.
use Rattle.std.proofs.Common.{◌≡◌, ℕ, zero, suc, Bool, true, false, if◌then◌else◌, List, [], ◌∷◌, drop, refl, ap, ◌∙◌}
use Rattle.std.proofs.lemmas.Bool.{false≢true}
use Rattle.vx_smt_meaning.specs.Commands.{Declared}
use Rattle.vx_smt_meaning.specs.WellFormed.{names}
use Rattle.cs_commands.specs.Laws.{AreApart}
use Rattle.cs_session.specs.Apart.{are_apart}

new : (b rest : Bool) → (if b then false else rest) ≡ true → b ≡ false
new true rest h = absurd (false≢true h)
new false rest h = refl

others : (b rest : Bool) → (if b then false else rest) ≡ true → rest ≡ true
others true rest h = absurd (false≢true h)
others false rest h = h

pub apart_means : (ds : List Declared) → are_apart ds ≡ true → AreApart ds
apart_means [] h = tt
apart_means (d ∷ ds) h = (new (names ds d.symbol) (are_apart ds) h, apart_means ds (others (names ds d.symbol) (are_apart ds) h))

pub apart_without : (n : ℕ) (ds : List Declared) → are_apart ds ≡ true → are_apart (drop n ds) ≡ true
apart_without zero ds h = h
apart_without (suc n) [] h = refl
apart_without (suc n) (d ∷ ds) h = apart_without n ds (others (names ds d.symbol) (are_apart ds) h)

pub apart_with : (ds : List Declared) (d : Declared) → names ds d.symbol ≡ false → are_apart ds ≡ true → are_apart (d ∷ ds) ≡ true
apart_with ds d e h = ap (λ b. if b then false else are_apart ds) e ∙ h
