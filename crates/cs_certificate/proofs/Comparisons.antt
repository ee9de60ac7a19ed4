-- Splits and trichotomies by numbers.
use Rattle.std.proofs.Common.{◌≡◌, ℕ, ℤ, pos, ◌+ℤ◌, Bool, true, false, ◌||◌, List, [], ◌∷◌, Option, Some, None, slice_get, refl, sym, ◌∙◌, ap, subst, inl, inr}
use Rattle.std.specs.Prelude.{if◌then◌else◌}
use Rattle.vx_terms.specs.Sorts.{Sort, IntSort, RealSort, Operator, Less, LessEqual, same_sort}
use Rattle.vx_terms.specs.Terms.{Term, Number, Binary}
use Rattle.vx_terms.proofs.Same.{sort_is}
use Rattle.vx_terms.proofs.Values.{sort_of_formed}
use Rattle.cs_certificate.specs.Terms.{NumberHead, BinaryHead, parts, HasSort}
use Rattle.cs_certificate.specs.Certificate.{At, AllAt, no-terms, one-term, Clause, Yes, NumberedLiteral, Stack, State, Split, Trichotomy, Derives, split, trichotomy, IsNumberSort}
use Rattle.cs_certificate.specs.Nodes.{Node, Represents, equality}
use Rattle.cs_certificate.specs.Steps.{plain, Names, names-none, names-yes, number_at, binary_at, if_sort, is_number_sort, split_clause, trichotomy_clause, Computes}
use Rattle.cs_certificate.proofs.Heads.{one_term, sort_same}
use Rattle.cs_certificate.proofs.Find.{one_at, one_all, found, finds}
use Rattle.cs_certificate.proofs.Equalities.{told, tells}
use Rattle.cs_certificate.proofs.Chains.{bind_some, bind_to}

-- a term has one sort
pub one_sort : (t : Term) (a b : Sort) → HasSort t a → HasSort t b → a ≡ b
one_sort t a b f g = sym (sort_of_formed f.1) ∙ sort_of_formed g.1

some_is : {x y : List NumberedLiteral} → Some x ≡ Some y → x ≡ y
some_is e = cc

pub chosen : (d : Bool) (o : Option (List NumberedLiteral)) (ls : List NumberedLiteral) → (if d then o else None) ≡ Some ls → (d ≡ true) × (o ≡ Some ls)
chosen true o ls e = (refl, e)
chosen false o ls e = cc

module _ (nodes : List Node) (s : State) (r : Represents nodes s.terms) where
  -- numerals and operators by their numbers
  pub number_named : (z : ℤ) (k : ℕ) → number_at nodes z ≡ Some k → At s.terms k (Number z)
  number_named z k e =
      let f = found nodes s.terms r (NumberHead z) [] k e in
      subst (At s.terms k) (one_term f.0 (Number z) (f.2).its_head (one_all s.terms (parts f.0) [] (f.2).its_parts no-terms)) f.1

  pub number_numbered : (z : ℤ) (k : ℕ) → At s.terms k (Number z) → number_at nodes z ≡ Some k
  number_numbered z k at = finds nodes s.terms r (NumberHead z) [] k (Number z) at record { its_head = refl; its_parts = no-terms }

  pub binary_named : (o : Operator) (a b : ℕ) (t u : Term) → At s.terms a t → At s.terms b u → (k : ℕ) → binary_at nodes o a b ≡ Some k → At s.terms k (Binary o t u)
  binary_named o a b t u p q k e =
      let f = found nodes s.terms r (BinaryHead o) (a ∷ b ∷ []) k e in
      let whole : parts f.0 ≡ t ∷ u ∷ [] = one_all s.terms (parts f.0) (t ∷ u ∷ []) (f.2).its_parts (one-term p (one-term q no-terms)) in
      subst (At s.terms k) (one_term f.0 (Binary o t u) (f.2).its_head whole) f.1

  pub binary_numbered : (o : Operator) (a b : ℕ) (t u : Term) → At s.terms a t → At s.terms b u → (k : ℕ) → At s.terms k (Binary o t u) → binary_at nodes o a b ≡ Some k
  binary_numbered o a b t u p q k at = finds nodes s.terms r (BinaryHead o) (a ∷ b ∷ []) k (Binary o t u) at record { its_head = refl; its_parts = one-term p (one-term q no-terms) }

  -- the parts of a numbered term are numbered
  pub sides : (o : Operator) (t u : Term) (k : ℕ) → At s.terms k (Binary o t u) → (a : ℕ) × (b : ℕ) × At s.terms a t × At s.terms b u
  sides o t u k at =
      let n = r.every k (Binary o t u) at in
      let v = r.each k n.0 n.1 in
      let is : v.0 ≡ Binary o t u = one_at s.terms k v.0 (Binary o t u) v.1 at in
      two (n.0).parts (subst (λ x. AllAt s.terms (n.0).parts (parts x)) is (v.2).same_parts)
    where
      two : (ns : List ℕ) → AllAt s.terms ns (t ∷ u ∷ []) → (a : ℕ) × (b : ℕ) × At s.terms a t × At s.terms b u
      two _ (one-term {n = a} p (one-term {n = b} q more)) = (a, b, p, q)

  -- the sort of a node is its term's
  pub sort_at : (k : ℕ) (x : Node) (t : Term) (a : Sort) → At nodes k x → At s.terms k t → HasSort t a → x.sort ≡ a
  sort_at k x t a e at h =
      let v = r.each k x e in
      one_sort t x.sort a (subst (λ y. HasSort y x.sort) (one_at s.terms k v.0 t v.1 at) (v.2).sorted) h

  pub if_sort_to : (k : ℕ) (x : Node) (t : Term) (a : Sort) (o : Option (List NumberedLiteral)) → At nodes k x → At s.terms k t → HasSort t a → if_sort a x o ≡ o
  if_sort_to k x t a o e at h = ap (λ d. if d then o else None) (ap (λ y. same_sort y a) (sort_at k x t a e at h) ∙ sort_same a)

  pub split_computes : (stack : Stack) (n : ℕ) (z : ℤ) → Computes nodes s stack (Split n z) (split_clause nodes n z)
  split_computes stack n z = record { sound = sound; complete = complete }
    where
      sound : (ns : List NumberedLiteral) → split_clause nodes n z ≡ Some ns → (c : Clause) × Names s.terms ns c × Derives stack s (Split n z) c
      sound ns e =
          let x = bind_some (slice_get nodes n) _ ns e in
          let t = r.each n x.0 x.1 in
          let low = bind_some (number_at nodes z) _ ns x.2 in
          let high = bind_some (number_at nodes (z +ℤ pos 1)) _ ns low.2 in
          let p = bind_some (binary_at nodes LessEqual n low.0) _ ns high.2 in
          let q = bind_some (binary_at nodes LessEqual high.0 n) _ ns p.2 in
          let d = chosen (same_sort (x.0).sort IntSort) (Some (plain p.0 ∷ plain q.0 ∷ [])) ns q.2 in
          let first = binary_named LessEqual n low.0 t.0 (Number z) t.1 (number_named z low.0 low.1) p.0 p.1 in
          let second = binary_named LessEqual high.0 n (Number (z +ℤ pos 1)) t.0 (number_named (z +ℤ pos 1) high.0 high.1) t.1 q.0 q.1 in
          let sorted : HasSort t.0 IntSort = subst (HasSort t.0) (sort_is (x.0).sort IntSort d.0) (t.2).sorted in (
            _,
            subst (λ ls. Names s.terms ls (Yes (Binary LessEqual t.0 (Number z)) ∷ Yes (Binary LessEqual (Number (z +ℤ pos 1)) t.0) ∷ [])) (some_is d.1) (names-yes first (names-yes second names-none)),
            split t.1 sorted (p.0, first) (q.0, second),
          )

      complete : (c : Clause) → Derives stack s (Split n z) c → (ns : List NumberedLiteral) × Names s.terms ns c × (split_clause nodes n z ≡ Some ns)
      complete c (split {t = t} at h (p, first) (q, second)) =
          let x = r.every n t at in
          let low = sides LessEqual t (Number z) p first in
          let high = sides LessEqual (Number (z +ℤ pos 1)) t q second in (
            plain p ∷ plain q ∷ [],
            names-yes first (names-yes second names-none),
            bind_to (slice_get nodes n) _ x.0 _ x.1 (bind_to (number_at nodes z) _ low.1 _ (number_numbered z low.1 low.3)
                (bind_to (number_at nodes (z +ℤ pos 1)) _ high.0 _ (number_numbered (z +ℤ pos 1) high.0 high.2)
                (bind_to (binary_at nodes LessEqual n low.1) _ p _ (binary_numbered LessEqual n low.1 t (Number z) at low.3 p first)
                (bind_to (binary_at nodes LessEqual high.0 n) _ q _ (binary_numbered LessEqual high.0 n (Number (z +ℤ pos 1)) t high.2 at q second)
                (if_sort_to n x.0 t IntSort (Some (plain p ∷ plain q ∷ [])) x.1 at h))))),
          )

  number_sort : (a : Sort) → is_number_sort a ≡ true → IsNumberSort a
  number_sort a e = go (same_sort a IntSort) refl e
    where
      go : (d : Bool) → same_sort a IntSort ≡ d → (d || same_sort a RealSort) ≡ true → IsNumberSort a
      go true z e = inl (sort_is a IntSort z)
      go false z e = inr (sort_is a RealSort e)

  sort_number : (a : Sort) → IsNumberSort a → is_number_sort a ≡ true
  sort_number a h = elim h [ inl e ↦ ap is_number_sort e | inr e ↦ ap is_number_sort e ]

  pub trichotomy_computes : (stack : Stack) (m n : ℕ) → Computes nodes s stack (Trichotomy m n) (trichotomy_clause nodes m n)
  trichotomy_computes stack m n = record { sound = sound; complete = complete }
    where
      sound : (ns : List NumberedLiteral) → trichotomy_clause nodes m n ≡ Some ns → (c : Clause) × Names s.terms ns c × Derives stack s (Trichotomy m n) c
      sound ns e =
          let x = bind_some (slice_get nodes m) _ ns e in
          let t = r.each m x.0 x.1 in
          let y = bind_some (slice_get nodes n) _ ns x.2 in
          let u = r.each n y.0 y.1 in
          let p = bind_some (binary_at nodes Less m n) _ ns y.2 in
          let k = bind_some (equality nodes m n) _ ns p.2 in
          let q = bind_some (binary_at nodes Less n m) _ ns k.2 in
          let d = chosen (is_number_sort (x.0).sort) (if_sort (x.0).sort y.0 (Some (plain p.0 ∷ plain k.0 ∷ plain q.0 ∷ []))) ns q.2 in
          let f = chosen (same_sort (y.0).sort (x.0).sort) (Some (plain p.0 ∷ plain k.0 ∷ plain q.0 ∷ [])) ns d.1 in
          let first = binary_named Less m n t.0 u.0 t.1 u.1 p.0 p.1 in
          let g = told nodes s r m n t.0 u.0 t.1 u.1 k.0 k.1 in
          let third = binary_named Less n m u.0 t.0 u.1 t.1 q.0 q.1 in
          let sorted : HasSort u.0 (x.0).sort = subst (HasSort u.0) (sort_is (y.0).sort (x.0).sort f.0) (u.2).sorted in (
            _,
            subst (λ ls. Names s.terms ls (Yes (Binary Less t.0 u.0) ∷ Yes g.0 ∷ Yes (Binary Less u.0 t.0) ∷ [])) (some_is f.1) (names-yes first (names-yes g.1 (names-yes third names-none))),
            trichotomy t.1 u.1 (number_sort (x.0).sort d.0) (t.2).sorted sorted (p.0, first) g.2 (q.0, third),
          )

      complete : (c : Clause) → Derives stack s (Trichotomy m n) c → (ns : List NumberedLiteral) × Names s.terms ns c × (trichotomy_clause nodes m n ≡ Some ns)
      complete c (trichotomy {a = t} {b = u} {e = e} {sort = a} at bt i f g (p, first) w (q, third)) =
          let x = r.every m t at in
          let y = r.every n u bt in
          let l = plain p ∷ plain w.number ∷ plain q ∷ [] in
          let is : (x.0).sort ≡ a = sort_at m x.0 t a x.1 at f in (
            l,
            names-yes first (names-yes w.here (names-yes third names-none)),
            bind_to (slice_get nodes m) _ x.0 _ x.1 (bind_to (slice_get nodes n) _ y.0 _ y.1
                (bind_to (binary_at nodes Less m n) _ p _ (binary_numbered Less m n t u at bt p first)
                (bind_to (equality nodes m n) _ w.number _ (tells nodes s r m n t u at bt w.number e w.here w)
                (bind_to (binary_at nodes Less n m) _ q _ (binary_numbered Less n m u t bt at q third)
                (ap (λ d. if d then if_sort (x.0).sort y.0 (Some l) else None) (ap is_number_sort is ∙ sort_number a i)
                ∙ ap (λ b. if_sort b y.0 (Some l)) is ∙ if_sort_to n y.0 u a (Some l) y.1 bt g))))),
          )
