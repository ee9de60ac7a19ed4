-- One more use at the end of a list.
use Rattle.std.proofs.Common.{◌≡◌, ◌∙◌, ap, List, [], ◌∷◌, ◌++◌, append_assoc}
use Rattle.std.proofs.lemmas.List.{map-append}
use Rattle.vx_typing.specs.declared.uses.Named.{Named}
use Rattle.vx_typing.specs.Uses.{Use}
use Rattle.vx_typing.specs.Seen.{seen, seen_use}

pub one_more : (us : List Named) (u : Named) (rest : List Use) → seen (us ++ u ∷ []) ++ rest ≡ seen us ++ seen_use u ∷ rest
one_more us u rest = ap (λ xs. xs ++ rest) (map-append seen_use us (u ∷ [])) ∙ append_assoc (seen us) (seen_use u ∷ []) rest
