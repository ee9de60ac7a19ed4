-- One more entry is taken over from a path.
use Rattle.std.proofs.Common.{◌≡◌, ◌∙◌, Bool, ◌++◌, List, [], ◌∷◌, map, reverse, sym, ap, append_assoc}
use Rattle.std.proofs.lemmas.List.{reverse-append}
use Rattle.vx_terms.specs.Terms.{Term}
use Rattle.vx_rules.specs.States.{Entry}
use Rattle.vx_states.specs.Paths.{extended}

pub taken_over : {A : Type 0} (f : A → Entry) (es : List Entry) (u : Term) (branch : Bool) (taken : List A) (a : A) → f a ≡ record { term = u; branch = branch } →
    extended es u branch ++ map f (reverse taken) ≡ es ++ map f (reverse (taken ++ a ∷ []))
taken_over f es u branch taken a e =
    append_assoc es (record { term = u; branch = branch } ∷ []) (map f (reverse taken))
    ∙ ap (λ v. es ++ v ∷ map f (reverse taken)) (sym e)
    ∙ ap (λ l. es ++ map f l) (sym (reverse-append taken (a ∷ [])))
