-- Literals of a `rup` and of a `farkas` step.
use Rattle.std.proofs.Common.{◌≡◌, ℕ, ◌<◌, ◌^◌, Bool, true, false, ◌&&◌, List, [], ◌∷◌, Option, Some, None, map, length, refl, sym, ◌∙◌, ap, ap₂, subst, arith}
use Rattle.std.specs.Prelude.{slice_get, if◌then◌else◌}
use Rattle.std.specs.List.{list_all}
use Rattle.std.proofs.lemmas.Option.{slice_get_within}
use Rattle.std.proofs.lemmas.Bool.{lt-ltb}
use Rattle.vx_frac.specs.Fractions.{Fraction}
use Rattle.vx_terms.specs.Sorts.{BoolSort, same_sort}
use Rattle.vx_terms.specs.Terms.{Term}
use Rattle.vx_terms.proofs.Same.{sort_is}
use Rattle.cs_certificate.specs.Terms.{HasSort}
use Rattle.cs_certificate.specs.Certificate.{State, Clause, At, Sign, Plain, Negated, Yes, No, negated, NumberedLiteral, Reads, reads-plain, reads-negated, ReadsAll, no-literals, one-literal}
use Rattle.cs_certificate.specs.Nodes.{Node, Represents}
use Rattle.cs_certificate.specs.Steps.{◌>>=◌, Names, names-none, names-yes, names-no}
use Rattle.cs_certificate.proofs.Comparisons.{sort_at}
use Rattle.cs_certificate.proofs.Heads.{sort_same}
use Rattle.cs_certificate.specs.Bridge.{view, views}
use Rattle.cs_farkas.specs.Rows.{Bound, Part, with_part, parts_of, bound_at, of_sides}
use Rattle.cs_proof.specs.Prepared.{narrow_literals, within, turned, other_sign, is_bool}
use Rattle.cs_proof.proofs.Literals.{named, term_is}
use Rattle.cs_proof.proofs.Narrowed.{one_more}

-- ---- what is read is named
pub reads_names : (s : State) {ns : List NumberedLiteral} {c : Clause} → ReadsAll s ns c → Names s.terms ns c
reads_names s no-literals = names-none
reads_names s (one-literal (reads-plain at h) more) = names-yes at (reads_names s more)
reads_names s (one-literal (reads-negated at h) more) = names-no at (reads_names s more)

-- ---- literals within the nodes
within_more : (n : ℕ) (l : NumberedLiteral) (ls : List NumberedLiteral) → l.number < n → within n ls ≡ Some (map named ls) → within n (l ∷ ls) ≡ Some (map named (l ∷ ls))
within_more n l ls lt e =
    ap (λ b. (if b then Some (named l) else None) >>= λ k. (within n ls >>= λ ks. Some (k ∷ ks))) (lt-ltb l.number n lt) ∙ ap (λ o. o >>= λ ks. Some (named l ∷ ks)) e

-- each literal of a sum is numbered
pub record InRange (n : ℕ) (ls : List NumberedLiteral) : Type 0 where
  pub fits : within n ls ≡ Some (map named ls)
  pub narrow : n < 2 ^ 32 → narrow_literals ls ≡ Some ls

bound_here : (nodes : List Node) (l : NumberedLiteral) (b : Bound) → bound_at nodes l ≡ Some b → l.number < length nodes
bound_here nodes l b e = go (slice_get nodes l.number) refl e
  where
    go : (o : Option Node) → slice_get nodes l.number ≡ o → elim o [ Some n ↦ of_sides l.sign n.head n.parts | None ↦ None ] ≡ Some b → l.number < length nodes
    go None f e = cc
    go (Some n) f e = slice_get_within nodes l.number n f

part_split : (o : Option Bound) (m : Fraction) (p : Option (List Part)) (ps : List Part) → with_part o m p ≡ Some ps → ((b : Bound) × (o ≡ Some b)) × ((qs : List Part) × (p ≡ Some qs))
part_split None m p ps e = cc
part_split (Some b) m None ps e = cc
part_split (Some b) m (Some qs) ps e = ((b, refl), (qs, refl))

pub parts_in_range : (nodes : List Node) (ls : List NumberedLiteral) (ms : List Fraction) (ps : List Part) → parts_of nodes ls ms ≡ Some ps → InRange (length nodes) ls
parts_in_range nodes [] [] ps e = record { fits = refl; narrow = λ lt. refl }
parts_in_range nodes [] (m ∷ ms) ps e = cc
parts_in_range nodes (l ∷ ls) [] ps e = cc
parts_in_range nodes (l ∷ ls) (m ∷ ms) ps e =
    let x = part_split (bound_at nodes l) m (parts_of nodes ls ms) ps e in
    let lt = bound_here nodes l (x.0).0 (x.0).1 in
    let r = parts_in_range nodes ls ms (x.1).0 (x.1).1 in
    record { fits = within_more (length nodes) l ls lt r.fits; narrow = λ small. one_more l ls (omega arith) (r.narrow small) }

-- ---- literals of Bool terms
and_true : (a b : Bool) → a && b ≡ true → (a ≡ true) × (b ≡ true)
and_true true b e = (refl, e)
and_true false b e = cc

record IsBoolAt (nodes : List Node) (k : ℕ) : Type 0 where
  node : Node
  here : slice_get nodes k ≡ Some node
  bool : same_sort node.sort BoolSort ≡ true

bool_at : (nodes : List Node) (l : NumberedLiteral) → is_bool nodes l ≡ true → IsBoolAt nodes l.number
bool_at nodes l e = go (slice_get nodes l.number) refl e
  where
    go : (o : Option Node) → slice_get nodes l.number ≡ o → elim o [ Some n ↦ same_sort n.sort BoolSort | None ↦ false ] ≡ true → IsBoolAt nodes l.number
    go None f e = cc
    go (Some n) f e = record { node = n; here = f; bool = e }

pub bools_within : (nodes : List Node) (ls : List NumberedLiteral) → list_all (is_bool nodes) ls ≡ true → within (length nodes) ls ≡ Some (map named ls)
bools_within nodes [] e = refl
bools_within nodes (l ∷ ls) e =
    let x = and_true (is_bool nodes l) (list_all (is_bool nodes) ls) e in
    let b = bool_at nodes l x.0 in
    within_more (length nodes) l ls (slice_get_within nodes l.number b.node b.here) (bools_within nodes ls x.1)

pub turned_within : (nodes : List Node) (ls : List NumberedLiteral) → list_all (is_bool nodes) ls ≡ true → within (length nodes) (map turned ls) ≡ Some (map named (map turned ls))
turned_within nodes [] e = refl
turned_within nodes (l ∷ ls) e =
    let x = and_true (is_bool nodes l) (list_all (is_bool nodes) ls) e in
    let b = bool_at nodes l x.0 in
    within_more (length nodes) (turned l) (map turned ls) (slice_get_within nodes l.number b.node b.here) (turned_within nodes ls x.1)

module _ (nodes : List Node) (s : State) (r : Represents nodes s.terms) where
  one_read : (l : NumberedLiteral) → is_bool nodes l ≡ true → Reads s l (view s.terms (named l))
  one_read l e =
      let b = bool_at nodes l e in
      let t = r.each l.number b.node b.here in
      let is : HasSort t.0 BoolSort = subst (HasSort t.0) (sort_is b.node.sort BoolSort b.bool) (t.2).sorted in
      by l.sign t.0 t.1 is
    where
      by : (g : Sign) (t : Term) → At s.terms l.number t → HasSort t BoolSort → Reads s record { sign = g; number = l.number } (view s.terms (named record { sign = g; number = l.number }))
      by Plain t at h = subst (λ u. Reads s record { sign = Plain; number = l.number } (Yes u)) (sym (term_is s.terms l.number t at)) (reads-plain at h)
      by Negated t at h = subst (λ u. Reads s record { sign = Negated; number = l.number } (No u)) (sym (term_is s.terms l.number t at)) (reads-negated at h)

  pub all_read : (ls : List NumberedLiteral) → list_all (is_bool nodes) ls ≡ true → ReadsAll s ls (views s.terms (map named ls))
  all_read [] e = no-literals
  all_read (l ∷ ls) e = let x = and_true (is_bool nodes l) (list_all (is_bool nodes) ls) e in one-literal (one_read l x.0) (all_read ls x.1)

  term_bool : (k : ℕ) (t : Term) (g : Sign) → At s.terms k t → HasSort t BoolSort → is_bool nodes record { sign = g; number = k } ≡ true
  term_bool k t g at h =
      let n = r.every k t at in
      ap (λ o. elim o [ Some n ↦ same_sort n.sort BoolSort | None ↦ false ]) n.1 ∙ ap (λ a. same_sort a BoolSort) (sort_at nodes s r k n.0 t BoolSort n.1 at h) ∙ sort_same BoolSort

  read_bool : (l : NumberedLiteral) {k : _} → Reads s l k → is_bool nodes l ≡ true
  read_bool l (reads-plain {n = n} {t = t} at h) = term_bool n t Plain at h
  read_bool l (reads-negated {n = n} {t = t} at h) = term_bool n t Negated at h

  pub read_bools : {ls : List NumberedLiteral} {c : Clause} → ReadsAll s ls c → list_all (is_bool nodes) ls ≡ true
  read_bools no-literals = refl
  read_bools (one-literal {n = l} {ns = ls} one more) = ap (λ b. b && list_all (is_bool nodes) ls) (read_bool l one) ∙ read_bools more

-- ---- negations
pub turned_views : (terms : List Term) (ls : List NumberedLiteral) → views terms (map named (map turned ls)) ≡ map negated (views terms (map named ls))
turned_views terms [] = refl
turned_views terms (l ∷ ls) = ap₂ (λ x xs. x ∷ xs) (by l.sign) (turned_views terms ls)
  where
    by : (g : Sign) → view terms (named record { sign = other_sign g; number = l.number }) ≡ negated (view terms (named record { sign = g; number = l.number }))
    by Plain = refl
    by Negated = refl
