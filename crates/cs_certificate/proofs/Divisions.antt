-- Divisions by numbers.
use Rattle.std.proofs.Common.{◌≡◌, ℕ, zero, suc, ℤ, pos, unsigned_abs, List, [], ◌∷◌, Some, slice_get, refl, sym, ◌∙◌, ap, subst, inl, inr}
use Rattle.vx_terms.specs.Sorts.{IntSort, Equal, Less, LessEqual, Add, Multiply, Div, Mod, same_sort}
use Rattle.vx_terms.specs.Terms.{Term, Number, Binary}
use Rattle.vx_terms.proofs.Same.{sort_is}
use Rattle.cs_certificate.specs.Terms.{NumberHead, head, HasSort}
use Rattle.cs_certificate.specs.Certificate.{At, Clause, Yes, NumberedLiteral, Stack, State, Equates, Divide, Derives, divide-0, divide-1, divide-2, divided}
use Rattle.cs_certificate.specs.Nodes.{Node, Represents, equality}
use Rattle.cs_certificate.specs.Steps.{plain, Names, names-none, names-yes, number_at, binary_at, divisor, divide_row, divide_clause, Computes}
use Rattle.cs_certificate.proofs.Find.{one_at}
use Rattle.cs_certificate.proofs.Equalities.{told, tells}
use Rattle.cs_certificate.proofs.Chains.{bind_some, bind_to}
use Rattle.cs_certificate.proofs.Comparisons.{chosen, number_named, number_numbered, binary_named, binary_numbered, sides, if_sort_to}
use Rattle.cs_certificate.proofs.Picks.{number_is, divisor_is, is_divisor}

some_is : {x y : List NumberedLiteral} → Some x ≡ Some y → x ≡ y
some_is e = cc

module _ (nodes : List Node) (s : State) (r : Represents nodes s.terms) (stack : Stack) (m n : ℕ) where
  module _ (t : Term) (d : ℤ) (at : At s.terms m t) (by : At s.terms n (Number d)) where
    row_sound : ¬ (d ≡ pos 0) → HasSort t IntSort → (k : ℕ) (ls : List NumberedLiteral) → divide_row nodes m n d k ≡ Some ls → (c : Clause) × Names s.terms ls c × Derives stack s (Divide m n k) c
    row_sound z h zero ls e =
        let q = bind_some (binary_at nodes Div m n) _ ls e in
        let whole = binary_named nodes s r Div m n t (Number d) at by q.0 q.1 in
        let p = bind_some (binary_at nodes Multiply n q.0) _ ls q.2 in
        let product = binary_named nodes s r Multiply n q.0 (Number d) (Binary Div t (Number d)) by whole p.0 p.1 in
        let w = bind_some (binary_at nodes Mod m n) _ ls p.2 in
        let rest = binary_named nodes s r Mod m n t (Number d) at by w.0 w.1 in
        let u = bind_some (binary_at nodes Add p.0 w.0) _ ls w.2 in
        let sum = binary_named nodes s r Add p.0 w.0 (Binary Multiply (Number d) (Binary Div t (Number d))) (Binary Mod t (Number d)) product rest u.0 u.1 in
        let k = bind_some (equality nodes m u.0) _ ls u.2 in
        let g = told nodes s r m u.0 t (divided t d) at sum k.0 k.1 in
        (_, subst (λ l. Names s.terms l (Yes g.0 ∷ [])) (some_is k.2) (names-yes g.1 names-none), divide-0 at by z h g.2)
    row_sound z h (suc zero) ls e =
        let w = bind_some (binary_at nodes Mod m n) _ ls e in
        let rest = binary_named nodes s r Mod m n t (Number d) at by w.0 w.1 in
        let y = bind_some (number_at nodes (pos 0)) _ ls w.2 in
        let p = bind_some (binary_at nodes LessEqual y.0 w.0) _ ls y.2 in
        let low = binary_named nodes s r LessEqual y.0 w.0 (Number (pos 0)) (Binary Mod t (Number d)) (number_named nodes s r (pos 0) y.0 y.1) rest p.0 p.1 in
        (_, subst (λ l. Names s.terms l (Yes (Binary LessEqual (Number (pos 0)) (Binary Mod t (Number d))) ∷ [])) (some_is p.2) (names-yes low names-none), divide-1 at by z h (p.0, low))
    row_sound z h (suc (suc zero)) ls e =
        let w = bind_some (binary_at nodes Mod m n) _ ls e in
        let rest = binary_named nodes s r Mod m n t (Number d) at by w.0 w.1 in
        let y = bind_some (number_at nodes (pos (unsigned_abs d))) _ ls w.2 in
        let p = bind_some (binary_at nodes Less w.0 y.0) _ ls y.2 in
        let high = binary_named nodes s r Less w.0 y.0 (Binary Mod t (Number d)) (Number (pos (unsigned_abs d))) rest (number_named nodes s r (pos (unsigned_abs d)) y.0 y.1) p.0 p.1 in
        (_, subst (λ l. Names s.terms l (Yes (Binary Less (Binary Mod t (Number d)) (Number (pos (unsigned_abs d)))) ∷ [])) (some_is p.2) (names-yes high names-none), divide-2 at by z h (p.0, high))
    row_sound z h (suc (suc (suc k))) ls e = cc

    -- the sum whose equality is numbered is numbered too
    sum_at : (e : Term) → Equates s t (divided t d) e → (i : ℕ) × At s.terms i (divided t d)
    sum_at e w = elim w.equality [
      | inl f ↦ (let p = sides nodes s r Equal t (divided t d) w.number (subst (At s.terms w.number) f w.here) in (p.1, p.3))
      | inr f ↦ (let p = sides nodes s r Equal (divided t d) t w.number (subst (At s.terms w.number) f w.here) in (p.0, p.2))
    ]

    first_row : (e : Term) (w : Equates s t (divided t d) e) → divide_row nodes m n d 0 ≡ Some (plain w.number ∷ [])
    first_row e w =
        let u = sum_at e w in
        let p = sides nodes s r Add (Binary Multiply (Number d) (Binary Div t (Number d))) (Binary Mod t (Number d)) u.0 u.1 in
        let q = sides nodes s r Multiply (Number d) (Binary Div t (Number d)) p.0 p.2 in
        bind_to (binary_at nodes Div m n) _ q.1 _ (binary_numbered nodes s r Div m n t (Number d) at by q.1 q.3)
        (bind_to (binary_at nodes Multiply n q.1) _ p.0 _ (binary_numbered nodes s r Multiply n q.1 (Number d) (Binary Div t (Number d)) by q.3 p.0 p.2)
        (bind_to (binary_at nodes Mod m n) _ p.1 _ (binary_numbered nodes s r Mod m n t (Number d) at by p.1 p.3)
        (bind_to (binary_at nodes Add p.0 p.1) _ u.0 _ (binary_numbered nodes s r Add p.0 p.1 (Binary Multiply (Number d) (Binary Div t (Number d))) (Binary Mod t (Number d)) p.2 p.3 u.0 u.1)
        (bind_to (equality nodes m u.0) _ w.number _ (tells nodes s r m u.0 t (divided t d) at u.1 w.number e w.here w) refl))))

    second_row : (p : ℕ) → At s.terms p (Binary LessEqual (Number (pos 0)) (Binary Mod t (Number d))) → divide_row nodes m n d 1 ≡ Some (plain p ∷ [])
    second_row p low =
        let q = sides nodes s r LessEqual (Number (pos 0)) (Binary Mod t (Number d)) p low in
        bind_to (binary_at nodes Mod m n) _ q.1 _ (binary_numbered nodes s r Mod m n t (Number d) at by q.1 q.3)
        (bind_to (number_at nodes (pos 0)) _ q.0 _ (number_numbered nodes s r (pos 0) q.0 q.2)
        (bind_to (binary_at nodes LessEqual q.0 q.1) _ p _ (binary_numbered nodes s r LessEqual q.0 q.1 (Number (pos 0)) (Binary Mod t (Number d)) q.2 q.3 p low) refl))

    third_row : (p : ℕ) → At s.terms p (Binary Less (Binary Mod t (Number d)) (Number (pos (unsigned_abs d)))) → divide_row nodes m n d 2 ≡ Some (plain p ∷ [])
    third_row p high =
        let q = sides nodes s r Less (Binary Mod t (Number d)) (Number (pos (unsigned_abs d))) p high in
        bind_to (binary_at nodes Mod m n) _ q.0 _ (binary_numbered nodes s r Mod m n t (Number d) at by q.0 q.2)
        (bind_to (number_at nodes (pos (unsigned_abs d))) _ q.1 _ (number_numbered nodes s r (pos (unsigned_abs d)) q.1 q.3)
        (bind_to (binary_at nodes Less q.0 q.1) _ p _ (binary_numbered nodes s r Less q.0 q.1 (Binary Mod t (Number d)) (Number (pos (unsigned_abs d))) q.2 q.3 p high) refl))

    whole_clause : ¬ (d ≡ pos 0) → HasSort t IntSort → (k : ℕ) (ls : List NumberedLiteral) → divide_row nodes m n d k ≡ Some ls → divide_clause nodes m n k ≡ Some ls
    whole_clause z h k ls e =
        let x = r.every m t at in
        let y = r.every n (Number d) by in
        let v = r.each n y.0 y.1 in
        let heads : NumberHead d ≡ (y.0).head = sym (ap head (one_at s.terms n v.0 (Number d) v.1 by)) ∙ (v.2).same_head in
        bind_to (slice_get nodes m) _ x.0 ls x.1 (bind_to (slice_get nodes n) _ y.0 ls y.1
        (bind_to (divisor (y.0).head) _ d ls (ap divisor (sym heads) ∙ is_divisor d z)
        (if_sort_to nodes s r m x.0 t IntSort (divide_row nodes m n d k) x.1 at h ∙ e)))

  divide_sound : (k : ℕ) (ns : List NumberedLiteral) → divide_clause nodes m n k ≡ Some ns → (c : Clause) × Names s.terms ns c × Derives stack s (Divide m n k) c
  divide_sound k ns e =
      let x = bind_some (slice_get nodes m) _ ns e in
      let t = r.each m x.0 x.1 in
      let y = bind_some (slice_get nodes n) _ ns x.2 in
      let u = r.each n y.0 y.1 in
      let d = bind_some (divisor (y.0).head) _ ns y.2 in
      let i = divisor_is (y.0).head d.0 d.1 in
      let f = chosen (same_sort (x.0).sort IntSort) (divide_row nodes m n d.0 k) ns d.2 in
      let by : At s.terms n (Number d.0) = subst (At s.terms n) (number_is u.0 d.0 ((u.2).same_head ∙ i.0)) u.1 in
      row_sound t.0 d.0 t.1 by i.1 (subst (HasSort t.0) (sort_is (x.0).sort IntSort f.0) (t.2).sorted) k ns f.1

  divide_complete : (k : ℕ) (c : Clause) → Derives stack s (Divide m n k) c → (ns : List NumberedLiteral) × Names s.terms ns c × (divide_clause nodes m n k ≡ Some ns)
  divide_complete zero c (divide-0 {a = t} {e = e} {d = d} at by z h w) = (plain w.number ∷ [], names-yes w.here names-none, whole_clause t d at by z h 0 _ (first_row t d at by e w))
  divide_complete (suc zero) c (divide-1 {a = t} {d = d} at by z h (p, low)) = (plain p ∷ [], names-yes low names-none, whole_clause t d at by z h 1 _ (second_row t d at by p low))
  divide_complete (suc (suc zero)) c (divide-2 {a = t} {d = d} at by z h (p, high)) = (plain p ∷ [], names-yes high names-none, whole_clause t d at by z h 2 _ (third_row t d at by p high))
  divide_complete (suc (suc (suc k))) c h = elim h [ ]

  pub divide_computes : (k : ℕ) → Computes nodes s stack (Divide m n k) (divide_clause nodes m n k)
  divide_computes k = record { sound = divide_sound k; complete = divide_complete k }
