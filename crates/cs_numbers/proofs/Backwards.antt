-- What stands in a term, from its end on.
use Rattle.std.proofs.Common.{◌≡◌, ◌+◌, ◌-◌, List, [], ◌∷◌, ◌++◌, length, reverse, sym, ◌∙◌, ap, arith, append_assoc}
use Rattle.std.proofs.lemmas.List.{reverse-append, length-reverse, length-append}
use Rattle.vx_terms.specs.Terms.{Term}
use Rattle.cs_certificate.specs.Terms.{subterms}
use Rattle.cs_numbers.specs.Inner.{inner}
use Rattle.cs_numbers.proofs.Kept.{first_inner}

turned_one : (t : Term) → reverse (subterms t) ≡ reverse (inner t) ++ t ∷ []
turned_one t = ap reverse (first_inner t) ∙ reverse-append (t ∷ []) (inner t)

pub put_one : (old mid end : List Term) (t : Term) → mid ≡ old ++ reverse (inner t) → end ≡ mid ++ t ∷ [] → end ≡ old ++ reverse (subterms t)
put_one old mid end t e f = f ∙ ap (λ xs. xs ++ t ∷ []) e ∙ append_assoc old (reverse (inner t)) (t ∷ []) ∙ ap (λ xs. old ++ xs) (sym (turned_one t))

pub put_both : (old mid end xs ys : List Term) → mid ≡ old ++ reverse ys → end ≡ mid ++ reverse xs → end ≡ old ++ reverse (xs ++ ys)
put_both old mid end xs ys e f = f ∙ ap (λ zs. zs ++ reverse xs) e ∙ append_assoc old (reverse ys) (reverse xs) ∙ ap (λ zs. old ++ zs) (sym (reverse-append xs ys))

pub counted : (old mid : List Term) (t : Term) → mid ≡ old ++ reverse (inner t) → length mid - length old ≡ length (inner t)
counted old mid t e =
    let a : length mid ≡ length old + length (reverse (inner t)) = ap length e ∙ length-append old (reverse (inner t)) in
    let b : length (reverse (inner t)) ≡ length (inner t) = length-reverse (inner t) in
    omega arith
