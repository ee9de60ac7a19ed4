-- The parts of a `farkas` step by number, and its clause and rows by term.
use Rattle.std.proofs.Common.{◌≡◌, ℕ, pos, Bool, true, false, ◌&&◌, ◌||◌, List, [], ◌∷◌, Option, Some, None, inl, inr, refl, sym, ◌∙◌, ap, ap₂, subst}
use Rattle.std.specs.Prelude.{slice_get, int_le, if◌then◌else◌}
use Rattle.std.specs.List.{list_all}
use Rattle.std.proofs.lemmas.Option.{same_Some}
use Rattle.std.proofs.lemmas.Bool.{and_from, and_parts}
use Rattle.vx_frac.specs.Fractions.{Fraction}
use Rattle.vx_terms.specs.Sorts.{Sort, IntSort, BoolSort, RealSort, RefSort, SnapSort, OtherSort, same_sort}
use Rattle.vx_terms.specs.Terms.{Term}
use Rattle.vx_terms.proofs.Same.{sort_is}
use Rattle.cs_certificate.specs.Terms.{HasSort}
use Rattle.cs_certificate.specs.Certificate.{At, Clause, NumberedLiteral, State, ReadsAll, no-literals, one-literal, IsNumberSort, MayMultiply, Rows, no-rows, one-row}
use Rattle.cs_certificate.specs.Linear.{Relation, AtMostZero, BelowZero, IsZero, Row}
use Rattle.cs_certificate.specs.Nodes.{Node, Represents}
use Rattle.cs_certificate.specs.Steps.{Names, names-none}
use Rattle.cs_certificate.proofs.Heads.{sort_same}
use Rattle.cs_certificate.proofs.Find.{one_at}
use Rattle.cs_certificate.proofs.Comparisons.{sort_at}
use Rattle.cs_farkas.specs.Rows.{Bound, bound, Part, bound_at, number_sort, is_at, with_part, parts_of, is_of, if_one_sort, sort_of_parts, is_equation, may_multiply}
use Rattle.cs_farkas.specs.Rows as rows
use Rattle.cs_farkas.proofs.Contradictions.{StandBy, none_stand, one_stands}
use Rattle.cs_farkas.proofs.Bounds.{compared_by, found_by, names_one}

abbrev part : ℕ → ℕ → Relation → Fraction → Part
part i j g m = record { bound = bound i j g; multiplier = m }

-- signs of multipliers
sign_to : (m : Fraction) (g : Relation) → (is_equation g || int_le (pos 0) m.numerator) ≡ true → MayMultiply m g
sign_to m IsZero e = tt
sign_to m AtMostZero e = e
sign_to m BelowZero e = e

sign_from : (m : Fraction) (g : Relation) → MayMultiply m g → (is_equation g || int_le (pos 0) m.numerator) ≡ true
sign_from m IsZero h = refl
sign_from m AtMostZero h = h
sign_from m BelowZero h = h

-- sorts
number_sort_is : (x a : Sort) → number_sort x ≡ Some a → IsNumberSort a × (x ≡ a)
number_sort_is IntSort a e = let is = same_Some _ _ e in (inl (sym is), is)
number_sort_is RealSort a e = let is = same_Some _ _ e in (inr (sym is), is)
number_sort_is BoolSort a e = cc
number_sort_is RefSort a e = cc
number_sort_is SnapSort a e = cc
number_sort_is (OtherSort x) a e = cc

is_number_sort : (a : Sort) → IsNumberSort a → number_sort a ≡ Some a
is_number_sort a (inl e) = ap number_sort e ∙ ap Some (sym e)
is_number_sort a (inr e) = ap number_sort e ∙ ap Some (sym e)

pub one_sort_is : (nodes : List Node) (ps : List Part) (a : Sort) → sort_of_parts nodes ps ≡ Some a → IsNumberSort a × (list_all (is_of nodes a) ps ≡ true)
one_sort_is nodes [] a e = cc
one_sort_is nodes (p ∷ ps) a e = go (rows.sort_at nodes p.bound.left) refl e
  where
    chosen : (b : Sort) (d : Bool) → list_all (is_of nodes b) (p ∷ ps) ≡ d → (if d then Some b else None) ≡ Some a → IsNumberSort b → IsNumberSort a × (list_all (is_of nodes a) (p ∷ ps) ≡ true)
    chosen b true f e n = let is : b ≡ a = same_Some _ _ e in (subst IsNumberSort is n, subst (λ x. list_all (is_of nodes x) (p ∷ ps) ≡ true) is f)
    chosen b false f e n = cc

    at_node : (o : Option Node) (b : Sort) → elim o [ Some n ↦ number_sort n.sort | None ↦ None ] ≡ Some b → IsNumberSort b
    at_node None b e = cc
    at_node (Some n) b e = (number_sort_is n.sort b e).0

    go : (o : Option Sort) → rows.sort_at nodes p.bound.left ≡ o → if_one_sort nodes (p ∷ ps) o ≡ Some a → IsNumberSort a × (list_all (is_of nodes a) (p ∷ ps) ≡ true)
    go None f e = cc
    go (Some b) f e = chosen b (list_all (is_of nodes b) (p ∷ ps)) refl e (at_node (slice_get nodes p.bound.left) b f)

pub is_one_sort : (nodes : List Node) (p : Part) (ps : List Part) (a : Sort) → IsNumberSort a → list_all (is_of nodes a) (p ∷ ps) ≡ true → sort_of_parts nodes (p ∷ ps) ≡ Some a
is_one_sort nodes p ps a n e =
    let first = and_parts (is_of nodes a p) (list_all (is_of nodes a) ps) e in
    let left = and_parts (is_at nodes a p.bound.left) (is_at nodes a p.bound.right) first.0 in
    ap (if_one_sort nodes (p ∷ ps)) (go (slice_get nodes p.bound.left) left.0) ∙ ap (λ d. if d then Some a else None) e
  where
    go : (o : Option Node) → elim o [ Some n ↦ same_sort n.sort a | None ↦ false ] ≡ true → elim o [ Some n ↦ number_sort n.sort | None ↦ None ] ≡ Some a
    go None f = cc
    go (Some x) f = ap number_sort (sort_is x.sort a f) ∙ is_number_sort a n

-- what a step is by number and by term
pub record Matched (nodes : List Node) (s : State) (a : Sort) (ls : List NumberedLiteral) (ms : List Fraction) (ps : List Part) (c : Clause) (rs : List Row) : Type 0 where
  pub its_parts : parts_of nodes ls ms ≡ Some ps
  pub its_sorts : list_all (is_of nodes a) ps ≡ true
  pub its_signs : list_all may_multiply ps ≡ true
  pub is_read : ReadsAll s ls c
  pub names : Names s.terms ls c
  pub its_rows : Rows a c ms rs
  pub stand : StandBy s.terms ps rs

module _ (nodes : List Node) (s : State) (r : Represents nodes s.terms) (a : Sort) where
  sorted : (k : ℕ) (t : Term) → At s.terms k t → is_at nodes a k ≡ true → HasSort t a
  sorted k t at e = go (slice_get nodes k) refl e
    where
      go : (o : Option Node) → slice_get nodes k ≡ o → elim o [ Some n ↦ same_sort n.sort a | None ↦ false ] ≡ true → HasSort t a
      go None f e = cc
      go (Some n) f e =
          let v = r.each k n f in
          subst (HasSort t) (sort_is n.sort a e) (subst (λ x. HasSort x n.sort) (one_at s.terms k v.0 t v.1 at) (v.2).sorted)

  is_sorted : (k : ℕ) (t : Term) → At s.terms k t → HasSort t a → is_at nodes a k ≡ true
  is_sorted k t at h =
      let n = r.every k t at in
      ap (λ o. elim o [ Some n ↦ same_sort n.sort a | None ↦ false ]) n.1 ∙ ap (λ x. same_sort x a) (sort_at nodes s r k n.0 t a n.1 at h) ∙ sort_same a

  one_more : (l : NumberedLiteral) (m : Fraction) (ls : List NumberedLiteral) (ms : List Fraction) (qs : List Part) (b : Bound) → bound_at nodes l ≡ Some b → is_of nodes a record { bound = b; multiplier = m } ≡ true → may_multiply record { bound = b; multiplier = m } ≡ true →
      (c : Clause) × (rs : List Row) × Matched nodes s a ls ms qs c rs → (c : Clause) × (rs : List Row) × Matched nodes s a (l ∷ ls) (m ∷ ms) (record { bound = b; multiplier = m } ∷ qs) c rs
  one_more l m ls ms qs b e is may (c, rs, k) =
      let x = compared_by nodes s r l b e in
      let sides = and_parts (is_at nodes a b.left) (is_at nodes a b.right) is in (
        x.literal ∷ c,
        record { multiplier = m; constraint = record { left = x.left; right = x.right; relation = b.relation } } ∷ rs,
        record {
          its_parts = ap₂ (λ o p. with_part o m p) e k.its_parts;
          its_sorts = and_from _ _ is k.its_sorts;
          its_signs = and_from _ _ may k.its_signs;
          is_read = one-literal x.is_read k.is_read;
          names = names_one s l x.literal ls c x.is_read k.names;
          its_rows = one-row x.constrains (sorted b.left x.left x.its_left sides.0) (sorted b.right x.right x.its_right sides.1) (sign_to m b.relation may) k.its_rows;
          stand = one_stands x.its_left x.its_right k.stand;
        },
      )

  pub match_numbers : (ls : List NumberedLiteral) (ms : List Fraction) (ps : List Part) → parts_of nodes ls ms ≡ Some ps → list_all (is_of nodes a) ps ≡ true → list_all may_multiply ps ≡ true → (c : Clause) × (rs : List Row) × Matched nodes s a ls ms ps c rs
  match_numbers [] [] ps e f g =
      subst (λ qs. (c : Clause) × (rs : List Row) × Matched nodes s a [] [] qs c rs) (same_Some _ _ e)
      ([], [], record { its_parts = refl; its_sorts = refl; its_signs = refl; is_read = no-literals; names = names-none; its_rows = no-rows; stand = none_stand })
  match_numbers [] (m ∷ ms) ps e f g = cc
  match_numbers (l ∷ ls) [] ps e f g = cc
  match_numbers (l ∷ ls) (m ∷ ms) ps e f g = go (bound_at nodes l) (parts_of nodes ls ms) refl refl e (match_numbers ls ms)
    where
      go : (o : Option Bound) (p : Option (List Part)) → bound_at nodes l ≡ o → parts_of nodes ls ms ≡ p → with_part o m p ≡ Some ps →
          ((qs : List Part) → parts_of nodes ls ms ≡ Some qs → list_all (is_of nodes a) qs ≡ true → list_all may_multiply qs ≡ true → (c : Clause) × (rs : List Row) × Matched nodes s a ls ms qs c rs) →
          (c : Clause) × (rs : List Row) × Matched nodes s a (l ∷ ls) (m ∷ ms) ps c rs
      go None None x y e k = cc
      go None (Some qs) x y e k = cc
      go (Some b) None x y e k = cc
      go (Some b) (Some qs) x y e k =
          let is : record { bound = b; multiplier = m } ∷ qs ≡ ps = same_Some _ _ e in
          let sorts = and_parts (is_of nodes a record { bound = b; multiplier = m }) (list_all (is_of nodes a) qs) (ap (list_all (is_of nodes a)) is ∙ f) in
          let signs = and_parts (may_multiply record { bound = b; multiplier = m }) (list_all may_multiply qs) (ap (list_all may_multiply) is ∙ g) in
          subst (λ zs. (c : Clause) × (rs : List Row) × Matched nodes s a (l ∷ ls) (m ∷ ms) zs c rs) is
          (one_more l m ls ms qs b x sorts.0 signs.0 (k qs y sorts.1 signs.1))

  pub match_terms : (ls : List NumberedLiteral) (ms : List Fraction) (c : Clause) (rs : List Row) → ReadsAll s ls c → Rows a c ms rs → (ps : List Part) × Matched nodes s a ls ms ps c rs
  match_terms _ _ _ _ no-literals no-rows = ([], record { its_parts = refl; its_sorts = refl; its_signs = refl; is_read = no-literals; names = names-none; its_rows = no-rows; stand = none_stand })
  match_terms _ _ _ _ (one-literal {n = l} {l = x} {ns = ls} {c = c} h more) (one-row {c = k} {m = m} {ms = ms} {rs = rs} con p q may rest) =
      let y = match_terms ls ms c rs more rest in
      let f = found_by nodes s r l x k h con in
      let sorts : is_of nodes a (part f.i f.j k.relation m) ≡ true = and_from _ _ (is_sorted f.i k.left f.its_left p) (is_sorted f.j k.right f.its_right q) in (
        part f.i f.j k.relation m ∷ y.0,
        record {
          its_parts = ap₂ (λ o z. with_part o m z) f.its_bound (y.1).its_parts;
          its_sorts = and_from _ _ sorts (y.1).its_sorts;
          its_signs = and_from _ _ (sign_from m k.relation may) (y.1).its_signs;
          is_read = one-literal h more;
          names = names_one s l x ls c h (y.1).names;
          its_rows = one-row con p q may rest;
          stand = one_stands f.its_left f.its_right (y.1).stand;
        },
      )
