-- One more constraint with its multiplier.
use Rattle.std.proofs.Common.{◌≡◌, ℕ, suc, ◌+◌, ◌<◌, List, [], ◌∷◌, ◌++◌, length, map, drop, get_or, Option, Some, None, refl, sym, ◌∙◌, ap, ap₂, append_assoc, append-nil, add-one, drop-cons}
use Rattle.vx_frac.specs.Fractions.{Fraction}
use Rattle.vx_frac.specs.Fraction.{fraction}
use Rattle.vx_frac.specs.declared.Frac.{Frac}
use Rattle.cs_certificate.specs.Certificate.{NumberedLiteral}
use Rattle.cs_certificate.specs.Nodes.{Node}
use Rattle.cs_table.specs.Gives.{numbered, clause}
use Rattle.cs_table.specs.declared.steps.Literal.{Literal}
use Rattle.cs_farkas.specs.Rows.{Bound, Part, bound_at, with_part, parts_of}

-- what was found before, and what the rest gives
pub joined : List Part → Option (List Part) → Option (List Part)
joined ps None = None
joined ps (Some more) = Some (ps ++ more)

pub at_first : (o : Option (List Part)) → o ≡ joined [] o
unfolding joined
at_first None = refl
at_first (Some x) = refl

pub at_end : (ps : List Part) → joined ps (Some []) ≡ Some ps
unfolding joined
at_end ps = ap Some (append-nil ps)

with_none : (m : Fraction) (o : Option (List Part)) → with_part None m o ≡ None
with_none m None = refl
with_none m (Some x) = refl

none_left : (b : Option Bound) (m : Fraction) → with_part b m None ≡ None
none_left None m = refl
none_left (Some b) m = refl

pub no_parts : (ns : List Node) (ls : List NumberedLiteral) (ms : List Fraction) → (length ls ≡ length ms → ⊥) → parts_of ns ls ms ≡ None
no_parts ns [] [] h = absurd (h refl)
no_parts ns [] (m ∷ ms) h = refl
no_parts ns (l ∷ ls) [] h = refl
no_parts ns (l ∷ ls) (m ∷ ms) h = ap (with_part (bound_at ns l) m) (no_parts ns ls ms (λ e. h (ap suc e))) ∙ none_left (bound_at ns l) m

module _ (ns : List Node) (ls : List Literal) (ms : List Frac) (at : ℕ) (ps : List Part) (d : Literal) (m : Frac) (ll : at < length ls) (lm : at < length ms) (im : m ≡ get_or ms at m) where
  rest : Option (List Part)
  rest = parts_of ns (clause (drop (at + 1) ls)) (map fraction (drop (at + 1) ms))

  here : {A : Type 0} (xs : List A) (x : A) → at < length xs → x ≡ get_or xs at x → drop at xs ≡ x ∷ drop (at + 1) xs
  here xs x lt is = drop-cons xs at x lt ∙ ap (λ y. y ∷ drop (suc at) xs) (sym is) ∙ ap (λ k. x ∷ drop k xs) (sym (add-one at))

  begins : {A : Type 0} (xs : List A) (x : A) → at < length xs → drop at xs ≡ get_or xs at x ∷ drop (at + 1) xs
  begins xs x lt = drop-cons xs at x lt ∙ ap (λ k. get_or xs at x ∷ drop k xs) (sym (add-one at))

  opened : parts_of ns (clause (drop at ls)) (map fraction (drop at ms)) ≡ with_part (bound_at ns (numbered (get_or ls at d))) (fraction m) (parts_of ns (clause (drop (at + 1) ls)) (map fraction (drop (at + 1) ms)))
  opened = ap₂ (λ x y. parts_of ns (clause x) (map fraction y)) (begins ls d ll) (here ms m lm im)

  pub missing : bound_at ns (numbered (get_or ls at d)) ≡ None → joined ps (parts_of ns (clause (drop at ls)) (map fraction (drop at ms))) ≡ None
  unfolding joined
  missing e =
      ap (joined ps) (opened ∙ ap (λ b. with_part b (fraction m) (parts_of ns (clause (drop (at + 1) ls)) (map fraction (drop (at + 1) ms)))) e ∙ with_none (fraction m) (parts_of ns (clause (drop (at + 1) ls)) (map fraction (drop (at + 1) ms))))

  pub further : (b : Bound) → bound_at ns (numbered (get_or ls at d)) ≡ Some b →
      joined ps (parts_of ns (clause (drop at ls)) (map fraction (drop at ms))) ≡ joined (ps ++ record { bound = b; multiplier = fraction m } ∷ []) (parts_of ns (clause (drop (at + 1) ls)) (map fraction (drop (at + 1) ms)))
  unfolding joined
  further b e =
      ap (joined ps) (opened ∙ ap (λ b. with_part b (fraction m) (parts_of ns (clause (drop (at + 1) ls)) (map fraction (drop (at + 1) ms)))) e) ∙ go (parts_of ns (clause (drop (at + 1) ls)) (map fraction (drop (at + 1) ms)))
    where
      go : (o : Option (List Part)) → joined ps (with_part (Some b) (fraction m) o) ≡ joined (ps ++ record { bound = b; multiplier = fraction m } ∷ []) o
      go None = refl
      go (Some more) = ap Some (sym (append_assoc ps (record { bound = b; multiplier = fraction m } ∷ []) more))
