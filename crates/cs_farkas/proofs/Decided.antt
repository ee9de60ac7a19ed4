-- A `farkas` step by number is decided by its rule.
use Rattle.std.proofs.Common.{◌≡◌, ℕ, zero, suc, ◌<◌, ◌≤◌, pos, Bool, true, false, ◌&&◌, List, [], ◌∷◌, length, Option, Some, None, ◌⊎◌, inl, inr, refl, ◌∙◌, ap, subst, arith}
use Rattle.std.specs.Prelude.{if◌then◌else◌}
use Rattle.std.specs.List.{list_all}
use Rattle.std.proofs.lemmas.Bool.{and_from, and_parts}
use Rattle.vx_frac.specs.Fractions.{Fraction, whole}
use Rattle.vx_terms.specs.Sorts.{Sort}
use Rattle.cs_certificate.specs.Certificate.{At, Clause, NumberedLiteral, Stack, State, Farkas, Derives, farkas, IsNumberSort, IsContradiction}
use Rattle.cs_certificate.specs.Linear.{Row, combination}
use Rattle.cs_certificate.specs.Nodes.{Node, Represents}
use Rattle.cs_certificate.specs.Steps.{Names}
use Rattle.cs_farkas.specs.Sums.{Over, Outcome, Done, Leaves, Misses, Sums, ◌>>=◌}
use Rattle.cs_farkas.specs.Rows.{Part, parts_of, sort_of_parts, of_sort, if_parts, may_multiply, contradicts, decided, cleared, add_all, refutes, if_combined, farkas_clause, is_of}
use Rattle.cs_farkas.specs.Bridge.{Decides, FarkasByNumber}
use Rattle.cs_farkas.proofs.Amounts.{Fine, Agrees}
use Rattle.cs_farkas.proofs.Contradictions.{StandBy, all_fine, cleared_agrees, contradicts_to, contradicts_from}
use Rattle.cs_farkas.proofs.Matches.{Matched, match_numbers, match_terms, one_sort_is, is_one_sort}

done_is : {A : Type 0} {x y : A} → Done x ≡ Done y → x ≡ y
done_is e = cc

at_below : {A : Type 0} (xs : List A) (k : ℕ) (x : A) → At xs k x → k < length xs
at_below [] k x e = cc
at_below (y ∷ ys) zero x e = omega arith
at_below (y ∷ ys) (suc k) x e = let h = at_below ys k x e in omega arith

-- where each place of one list is one of another, that is as long
as_long : {A B : Type 0} (xs : List A) (ys : List B) → ((k : ℕ) (x : A) → At xs k x → (y : B) × At ys k y) → length xs ≤ length ys
as_long [] ys h = omega arith
as_long (x ∷ xs) [] h = let y = h 0 x refl in absurd (let e = y.1 in cc)
as_long (x ∷ xs) (y ∷ ys) h = let more = as_long xs ys (λ k z e. h (suc k) z e) in omega arith

module _ (nodes : List Node) (s : State) (stack : Stack) (width : ℕ) (r : Represents nodes s.terms) (wide : length nodes ≤ width) (ls : List NumberedLiteral) (ms : List Fraction) where
  many : length s.terms ≤ length nodes
  many = as_long s.terms nodes (λ k t at. r.every k t at)

  summed : (a : Sort) (ps : List Part) (rs : List Row) → StandBy s.terms ps rs → Fine (λ x. Agrees s.terms x (combination a rs)) (add_all nodes a ps (cleared width))
  summed a ps rs st = all_fine nodes s.terms r many a ps rs st (cleared width) record { constant = whole (pos 0); columns = [] } (cleared_agrees s.terms width (between (length s.terms) (length nodes) width many wide))
    where
      between : (a b c : ℕ) → a ≤ b → b ≤ c → a ≤ c
      between a b c x y = omega arith

  -- ---- what is done meets the rule
  ended : (a : Sort) (ps : List Part) (o : Outcome Sums) (ns : List NumberedLiteral) → (o >>= decided a ps >>= λ x. Done ls) ≡ Done ns → (x : Sums) × (o ≡ Done x) × (list_all may_multiply ps ≡ true) × (contradicts a ps x ≡ true) × (ls ≡ ns)
  ended a ps Misses ns e = cc
  ended a ps (Leaves v) ns e = cc
  ended a ps (Done x) ns e = go (list_all may_multiply ps && contradicts a ps x) refl e
    where
      go : (b : Bool) → (list_all may_multiply ps && contradicts a ps x) ≡ b → ((if b then Done x else Misses) >>= λ x. Done ls) ≡ Done ns → (y : Sums) × (Done x ≡ Done y) × (list_all may_multiply ps ≡ true) × (contradicts a ps y ≡ true) × (ls ≡ ns)
      go true f e = let p = and_parts (list_all may_multiply ps) (contradicts a ps x) f in (x, refl, p.0, p.1, done_is e)
      go false f e = cc

  derived : (a : Sort) (ps : List Part) (ns : List NumberedLiteral) → parts_of nodes ls ms ≡ Some ps → sort_of_parts nodes ps ≡ Some a → (refutes nodes width record { sort = a; parts = ps } >>= λ x. Done ls) ≡ Done ns → (c : Clause) × Names s.terms ns c × Derives stack s (Farkas ls ms) c
  derived a ps ns e f g =
      let w = one_sort_is nodes ps a f in
      let z = ended a ps (add_all nodes a ps (cleared width)) ns g in
      let k = match_numbers nodes s r a ls ms ps e w.1 z.2 in
      let agrees : Agrees s.terms z.0 (combination a k.1) = subst (Fine (λ x. Agrees s.terms x (combination a k.1))) z.1 (summed a ps k.1 (k.2).stand) in (
        k.0,
        subst (λ n. Names s.terms n k.0) z.4 (k.2).names,
        farkas (k.2).is_read w.0 (k.2).its_rows (contradicts_to s.terms a ps k.1 (k.2).stand z.0 agrees z.3),
      )

  by_sort : (ps : List Part) (o : Option Sort) (ns : List NumberedLiteral) → parts_of nodes ls ms ≡ Some ps → sort_of_parts nodes ps ≡ o → if_combined nodes width ls (of_sort o ps) ≡ Done ns → (c : Clause) × Names s.terms ns c × Derives stack s (Farkas ls ms) c
  by_sort ps None ns e f g = cc
  by_sort ps (Some a) ns e f g = derived a ps ns e f g

  by_parts : (o : Option (List Part)) (ns : List NumberedLiteral) → parts_of nodes ls ms ≡ o → if_combined nodes width ls (if_parts nodes o) ≡ Done ns → (c : Clause) × Names s.terms ns c × Derives stack s (Farkas ls ms) c
  by_parts None ns e g = cc
  by_parts (Some ps) ns e g = by_sort ps (sort_of_parts nodes ps) ns e refl g

  -- ---- what meets the rule is done
  outcome_is : (a : Sort) (ps : List Part) (c : Clause) (rs : List Row) → Matched nodes s a ls ms ps c rs → IsContradiction a rs → (o : Outcome Sums) → Fine (λ x. Agrees s.terms x (combination a rs)) o →
      ((o >>= decided a ps >>= λ x. Done ls) ≡ Done ls) ⊎ ((v : Over) × ((o >>= decided a ps >>= λ x. Done ls) ≡ Leaves v))
  outcome_is a ps c rs k con Misses h = absurd h
  outcome_is a ps c rs k con (Leaves v) h = inr (v, refl)
  outcome_is a ps c rs k con (Done x) h =
      inl (ap (λ b. (if b then Done x else Misses) >>= λ x. Done ls) (and_from _ _ k.its_signs (contradicts_from s.terms a ps rs k.stand x h con)))

  not_empty : (a : Sort) → IsContradiction a [] → ⊥
  not_empty a con = elim con.constant [ inl e ↦ cc | inr h ↦ (let at = (h.2).1 in cc) ]

  sort_found : (a : Sort) (ps : List Part) (c : Clause) (rs : List Row) → Matched nodes s a ls ms ps c rs → IsNumberSort a → IsContradiction a rs → StandBy s.terms ps rs → list_all (is_of nodes a) ps ≡ true → sort_of_parts nodes ps ≡ Some a
  sort_found a [] c [] k n con st e = absurd (not_empty a con)
  sort_found a [] c (x ∷ rs) k n con st e = elim st [ ]
  sort_found a (p ∷ ps) c rs k n con st e = is_one_sort nodes p ps a n e

  completed : (c : Clause) → Derives stack s (Farkas ls ms) c → (Names s.terms ls c × (farkas_clause nodes width ls ms ≡ Done ls)) ⊎ ((o : Over) × (farkas_clause nodes width ls ms ≡ Leaves o))
  completed c (farkas {sort = a} {rows = rs} reads n rows con) =
      let k = match_terms nodes s r a ls ms c rs reads rows in
      let ps = k.0 in
      let found : sort_of_parts nodes ps ≡ Some a = sort_found a ps c rs k.1 n con (k.1).stand (k.1).its_sorts in
      let is : farkas_clause nodes width ls ms ≡ (refutes nodes width record { sort = a; parts = ps } >>= λ x. Done ls) =
      ap (λ o. if_combined nodes width ls (if_parts nodes o)) (k.1).its_parts ∙ ap (λ o. if_combined nodes width ls (of_sort o ps)) found in
      elim (outcome_is a ps c rs k.1 con (add_all nodes a ps (cleared width)) (summed a ps rs (k.1).stand)) [
        | inl e ↦ inl ((k.1).names, is ∙ e)
        | inr e ↦ inr (e.0, is ∙ e.1)
      ]

  pub decides : Decides s stack ls ms (farkas_clause nodes width ls ms)
  decides = record { sound = λ ns e. by_parts (parts_of nodes ls ms) ns refl e; complete = completed }

pub farkas_by_number : FarkasByNumber
farkas_by_number nodes s stack width r wide ls ms = decides nodes s stack width r wide ls ms
