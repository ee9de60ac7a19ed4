-- Names that are found the same are.
use Rattle.std.proofs.Common.{◌≡◌, true, ◌&&◌, [], ◌∷◌, refl, sym, ap₂, true≢false, eqb-true}
use Rattle.std.proofs.lemmas.Bool.{and_parts}
use Rattle.vx_ast.specs.Syntax.{Name, same_name}

pub same_name_is : (x y : Name) → same_name x y ≡ true → x ≡ y
same_name_is [] [] e = refl
same_name_is (a ∷ x) (b ∷ y) e = let p = and_parts _ _ e in ap₂ (λ c z. c ∷ z) (eqb-true a b p.0) (same_name_is x y p.1)
same_name_is [] (b ∷ y) e = absurd (true≢false (sym e))
same_name_is (a ∷ x) [] e = absurd (true≢false (sym e))
