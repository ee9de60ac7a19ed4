-- Symbols that are apart are so in the other order.
use Rattle.std.proofs.Common.{◌≡◌, Bool, true, false, true≢false, List, [], ◌∷◌, ◌++◌, reverse, refl, ap, ◌∙◌, sym, subst}
use Rattle.std.specs.Prelude.{if◌then◌else◌}
use Rattle.std.proofs.lemmas.List.{reverse-append}
use Rattle.vx_terms.specs.Sorts.{Symbol, same_symbol}
use Rattle.vx_smt_meaning.specs.Commands.{Declared}
use Rattle.vx_smt_meaning.specs.WellFormed.{names}
use Rattle.cs_commands.specs.Laws.{AreApart}
use Rattle.cs_commands.proofs.Declarations.{other_way}

-- neither the first nor one of the others
parted : (b rest : Bool) → (if b then true else rest) ≡ false → (b ≡ false) × (rest ≡ false)
parted true rest e = absurd (true≢false e)
parted false rest e = (refl, e)

none_last : (xs : List Declared) (d : Declared) (f : Symbol) → names xs f ≡ false → same_symbol d.symbol f ≡ false → names (xs ++ d ∷ []) f ≡ false
none_last [] d f e other = ap (λ b. if b then true else false) other
none_last (x ∷ xs) d f e other =
    let p = parted (same_symbol x.symbol f) (names xs f) e in
    ap (λ b. if b then true else names (xs ++ d ∷ []) f) p.0 ∙ none_last xs d f p.1 other

apart_last : (xs : List Declared) (d : Declared) → AreApart xs → names xs d.symbol ≡ false → AreApart (xs ++ d ∷ [])
apart_last [] d h e = (refl, tt)
apart_last (x ∷ xs) d h e =
    let p = parted (same_symbol x.symbol d.symbol) (names xs d.symbol) e in
    (none_last xs d x.symbol h.0 (other_way d.symbol x.symbol p.0), apart_last xs d h.1 p.1)

none_turned : (xs : List Declared) (f : Symbol) → names xs f ≡ false → names (reverse xs) f ≡ false
none_turned [] f e = refl
none_turned (x ∷ xs) f e =
    let p = parted (same_symbol x.symbol f) (names xs f) e in
    ap (λ ys. names ys f) (reverse-append (x ∷ []) xs) ∙ none_last (reverse xs) x f (none_turned xs f p.1) p.0

pub apart_turned : (xs : List Declared) → AreApart xs → AreApart (reverse xs)
apart_turned [] h = tt
apart_turned (x ∷ xs) h =
    subst AreApart (sym (reverse-append (x ∷ []) xs)) (apart_last (reverse xs) x (apart_turned xs h.1) (none_turned xs x.symbol h.0))
