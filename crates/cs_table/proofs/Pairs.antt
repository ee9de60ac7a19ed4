-- One more pair of parts.
use Rattle.std.proofs.Common.{◌≡◌, ℕ, suc, ◌+◌, ◌<◌, List, [], ◌∷◌, ◌++◌, length, drop, get_or, Option, Some, None, refl, sym, ◌∙◌, ap, ap₂, append_assoc, append-nil, add-one, drop-cons, eq-eqb, ne_eqb}
use Rattle.std.specs.Prelude.{if◌then◌else◌}
use Rattle.cs_certificate.specs.Certificate.{NumberedLiteral}
use Rattle.cs_certificate.specs.Nodes.{Node, equality}
use Rattle.cs_certificate.specs.Steps.{◌>>=◌, denial, with_pair, pairs}

-- what was found before, and what the rest gives
pub joined : List NumberedLiteral → Option (List NumberedLiteral) → Option (List NumberedLiteral)
joined ls o = o >>= λ rest. Some (ls ++ rest)

pub no_pairs : (ns : List Node) (xs ys : List ℕ) → (length xs ≡ length ys → ⊥) → pairs ns xs ys ≡ None
no_pairs ns [] [] h = absurd (h refl)
no_pairs ns [] (y ∷ ys) h = refl
no_pairs ns (x ∷ xs) [] h = refl
no_pairs ns (x ∷ xs) (y ∷ ys) h = ap (λ o. o >>= with_pair ns x y) (no_pairs ns xs ys (λ e. h (ap suc e)))

begin : (ns : List Node) (xs ys : List ℕ) → pairs ns xs ys ≡ joined [] (pairs ns xs ys)
unfolding joined
begin ns xs ys = go (pairs ns xs ys)
  where
    go : (o : Option (List NumberedLiteral)) → o ≡ (o >>= λ rest. Some ([] ++ rest))
    go None = refl
    go (Some x) = refl

pub at_first : (ns : List Node) (xs ys : List ℕ) → pairs ns xs ys ≡ joined [] (pairs ns xs ys)
at_first = begin

pub at_end : (ls : List NumberedLiteral) → joined ls (Some []) ≡ Some ls
unfolding joined
at_end ls = ap Some (append-nil ls)

split_at : (xs : List ℕ) (at : ℕ) → at < length xs → drop at xs ≡ get_or xs at 0 ∷ drop (at + 1) xs
split_at xs at lt = drop-cons xs at 0 lt ∙ ap (λ k. get_or xs at 0 ∷ drop k xs) (sym (add-one at))

module _ (ns : List Node) (xs ys : List ℕ) (at : ℕ) (lx : at < length xs) (ly : at < length ys) (ls : List NumberedLiteral) where
  x : ℕ
  x = get_or xs at 0

  y : ℕ
  y = get_or ys at 0

  rest : Option (List NumberedLiteral)
  rest = pairs ns (drop (at + 1) xs) (drop (at + 1) ys)

  opened : pairs ns (drop at xs) (drop at ys) ≡ (pairs ns (drop (at + 1) xs) (drop (at + 1) ys) >>= with_pair ns (get_or xs at 0) (get_or ys at 0))
  opened = ap₂ (pairs ns) (split_at xs at lx) (split_at ys at ly)

  pub same_pair : get_or xs at 0 ≡ get_or ys at 0 → joined ls (pairs ns (drop at xs) (drop at ys)) ≡ joined ls (pairs ns (drop (at + 1) xs) (drop (at + 1) ys))
  unfolding joined
  same_pair e = ap (joined ls) opened ∙ go (pairs ns (drop (at + 1) xs) (drop (at + 1) ys))
    where
      go : (o : Option (List NumberedLiteral)) → ((o >>= with_pair ns (get_or xs at 0) (get_or ys at 0)) >>= λ r. Some (ls ++ r)) ≡ (o >>= λ r. Some (ls ++ r))
      go None = refl
      go (Some r) = ap (λ b. (if b then Some r else (equality ns (get_or xs at 0) (get_or ys at 0) >>= λ k. Some (denial k ∷ r))) >>= λ r. Some (ls ++ r)) (eq-eqb _ _ e)

  pub other_pair : (k : ℕ) → (get_or xs at 0 ≡ get_or ys at 0 → ⊥) → equality ns (get_or xs at 0) (get_or ys at 0) ≡ Some k →
      joined ls (pairs ns (drop at xs) (drop at ys)) ≡ joined (ls ++ denial k ∷ []) (pairs ns (drop (at + 1) xs) (drop (at + 1) ys))
  unfolding joined
  other_pair k n e = ap (joined ls) opened ∙ go (pairs ns (drop (at + 1) xs) (drop (at + 1) ys))
    where
      go : (o : Option (List NumberedLiteral)) → ((o >>= with_pair ns (get_or xs at 0) (get_or ys at 0)) >>= λ r. Some (ls ++ r)) ≡ (o >>= λ r. Some ((ls ++ denial k ∷ []) ++ r))
      go None = refl
      go (Some r) =
          ap (λ b. (if b then Some r else (equality ns (get_or xs at 0) (get_or ys at 0) >>= λ k. Some (denial k ∷ r))) >>= λ r. Some (ls ++ r)) (ne_eqb _ _ n)
          ∙ ap (λ p. (p >>= λ k. Some (denial k ∷ r)) >>= λ r. Some (ls ++ r)) e
          ∙ ap Some (sym (append_assoc ls (denial k ∷ []) r))

  pub missing_pair : (get_or xs at 0 ≡ get_or ys at 0 → ⊥) → equality ns (get_or xs at 0) (get_or ys at 0) ≡ None → joined ls (pairs ns (drop at xs) (drop at ys)) ≡ None
  unfolding joined
  missing_pair n e = ap (joined ls) opened ∙ go (pairs ns (drop (at + 1) xs) (drop (at + 1) ys))
    where
      go : (o : Option (List NumberedLiteral)) → ((o >>= with_pair ns (get_or xs at 0) (get_or ys at 0)) >>= λ r. Some (ls ++ r)) ≡ None
      go None = refl
      go (Some r) =
          ap (λ b. (if b then Some r else (equality ns (get_or xs at 0) (get_or ys at 0) >>= λ k. Some (denial k ∷ r))) >>= λ r. Some (ls ++ r)) (ne_eqb _ _ n)
          ∙ ap (λ p. (p >>= λ k. Some (denial k ∷ r)) >>= λ r. Some (ls ++ r)) e
