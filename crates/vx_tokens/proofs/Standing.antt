-- Going on through a text.
use Rattle.std.proofs.Common.{◌≡◌, ◌∙◌, ℕ, List, [], ◌∷◌, ◌++◌, take, drop, append_assoc, refl, sym, ap}
use Rattle.std.proofs.lemmas.List.{take-append-drop}
use Rattle.vx_ast.specs.declared.Place.{Place}
use Rattle.vx_tokens.specs.Text.{step, after, first_place}
use Rattle.vx_tokens.specs.Standing.{IsReached}

after_append : (p : Place) (xs ys : List ℕ) → after p (xs ++ ys) ≡ after (after p xs) ys
after_append p [] ys = refl
after_append p (x ∷ xs) ys = after_append (step p x) xs ys

-- behind so many bytes more
pub reached_on : (text : List ℕ) (p q : Place) (bytes rest : List ℕ) (n : ℕ) → IsReached text p bytes → q ≡ after p (take n bytes) → rest ≡ drop n bytes → IsReached text q rest
reached_on text p q bytes rest n r at more = record {
  front = r.front ++ take n bytes;
  whole = r.whole ∙ ap (λ l. r.front ++ l) (sym (take-append-drop n bytes)) ∙ sym (append_assoc r.front (take n bytes) (drop n bytes)) ∙ ap (λ l. (r.front ++ take n bytes) ++ l) (sym more);
  place = after_append first_place r.front (take n bytes) ∙ ap (λ o. after o (take n bytes)) r.place ∙ sym at;
}
