-- Picks and divisions by numbers.
use Rattle.std.proofs.Common.{◌≡◌, ℕ, zero, suc, ℤ, pos, negsuc, Bool, true, false, List, [], ◌∷◌, Option, Some, None, slice_get, refl, sym, ◌∙◌, ap, subst}
use Rattle.std.specs.Prelude.{if◌then◌else◌}
use Rattle.vx_terms.specs.Sorts.{BoolSort, same_sort}
use Rattle.vx_terms.specs.Terms.{Term, Truth, Number, Part, Constant, Apply, Not, Binary, Ite, AllOf, SomeOf}
use Rattle.vx_terms.proofs.Same.{sort_is}
use Rattle.cs_certificate.specs.Terms.{Head, TruthHead, NumberHead, PartHead, ConstantHead, ApplyHead, BinaryHead, NotHead, IteHead, AllHead, SomeHead, head, parts, HasSort}
use Rattle.cs_certificate.specs.Certificate.{At, AllAt, no-terms, one-term, Clause, Yes, No, NumberedLiteral, Stack, State, Pick, Derives, pick-then, pick-else}
use Rattle.cs_certificate.specs.Nodes.{Node, Represents, same_head, equality}
use Rattle.cs_certificate.specs.Steps.{plain, denial, Names, names-none, names-yes, names-no, pick_row, pick_parts, pick_clause, divisor, Computes}
use Rattle.cs_certificate.proofs.Heads.{head_is, sort_same}
use Rattle.cs_certificate.proofs.Find.{one_at}
use Rattle.cs_certificate.proofs.Equalities.{told, tells}
use Rattle.cs_certificate.proofs.Chains.{bind_some, bind_to}
use Rattle.cs_certificate.proofs.Comparisons.{chosen, sort_at}

-- what a head says of its term
record IsChoice (t : Term) : Type 0 where
  test : Term
  left : Term
  right : Term
  is : t ≡ Ite test left right

choice_is : (t : Term) → head t ≡ IteHead → IsChoice t
choice_is (Ite c x y) e = record { test = c; left = x; right = y; is = refl }
choice_is (Truth b) e = cc
choice_is (Number z) e = cc
choice_is (Part a) e = cc
choice_is (Constant f a) e = cc
choice_is (Apply f a ts) e = cc
choice_is (Not t) e = cc
choice_is (Binary o t u) e = cc
choice_is (AllOf ts) e = cc
choice_is (SomeOf ts) e = cc

pub number_is : (t : Term) (d : ℤ) → head t ≡ NumberHead d → t ≡ Number d
number_is (Number z) d e = ap Number (let f : z ≡ d = cc in f)
number_is (Truth b) d e = cc
number_is (Part a) d e = cc
number_is (Constant f a) d e = cc
number_is (Apply f a ts) d e = cc
number_is (Not t) d e = cc
number_is (Binary o t u) d e = cc
number_is (Ite c t u) d e = cc
number_is (AllOf ts) d e = cc
number_is (SomeOf ts) d e = cc

pub divisor_is : (h : Head) (d : ℤ) → divisor h ≡ Some d → (h ≡ NumberHead d) × (d ≡ pos 0 → ⊥)
divisor_is (NumberHead (pos zero)) d e = cc
divisor_is (NumberHead (pos (suc n))) d e = let f : pos (suc n) ≡ d = cc in (ap NumberHead f, λ z. apart n (f ∙ z))
  where
    apart : (n : ℕ) → pos (suc n) ≡ pos 0 → ⊥
    apart n e = cc
divisor_is (NumberHead (negsuc n)) d e = let f : negsuc n ≡ d = cc in (ap NumberHead f, λ z. apart n (f ∙ z))
  where
    apart : (n : ℕ) → negsuc n ≡ pos 0 → ⊥
    apart n e = cc
divisor_is (TruthHead b) d e = cc
divisor_is (PartHead a) d e = cc
divisor_is (ConstantHead f a) d e = cc
divisor_is (ApplyHead f a) d e = cc
divisor_is (BinaryHead o) d e = cc
divisor_is NotHead d e = cc
divisor_is IteHead d e = cc
divisor_is AllHead d e = cc
divisor_is SomeHead d e = cc

pub is_divisor : (d : ℤ) → (d ≡ pos 0 → ⊥) → divisor (NumberHead d) ≡ Some d
is_divisor (pos zero) n = absurd (n refl)
is_divisor (pos (suc k)) n = refl
is_divisor (negsuc k) n = refl

some_is : {x y : List NumberedLiteral} → Some x ≡ Some y → x ≡ y
some_is e = cc

unchosen : (d : Bool) (o : Option (List NumberedLiteral)) (ls : List NumberedLiteral) → (if d then None else o) ≡ Some ls → (d ≡ false) × (o ≡ Some ls)
unchosen true o ls e = cc
unchosen false o ls e = (refl, e)

module _ (nodes : List Node) (s : State) (r : Represents nodes s.terms) where
  not_bool : (k : ℕ) (y : Node) (x : Term) → At nodes k y → At s.terms k x → same_sort y.sort BoolSort ≡ false → ¬ (HasSort x BoolSort)
  not_bool k y x e at f h = let g : same_sort y.sort BoolSort ≡ true = ap (λ a. same_sort a BoolSort) (sort_at nodes s r k y x BoolSort e at h) ∙ sort_same BoolSort in let z : true ≡ false = sym g ∙ f in cc

  is_not_bool : (k : ℕ) (y : Node) (x : Term) → At nodes k y → At s.terms k x → ¬ (HasSort x BoolSort) → same_sort y.sort BoolSort ≡ false
  is_not_bool k y x e at n = go (same_sort y.sort BoolSort) refl
    where
      go : (d : Bool) → same_sort y.sort BoolSort ≡ d → same_sort y.sort BoolSort ≡ false
      go false z = z
      go true z =
          let v = r.each k y e in
          absurd (n (subst (λ t. HasSort t BoolSort) (one_at s.terms k v.0 x v.1 at) (subst (HasSort v.0) (sort_is y.sort BoolSort z) (v.2).sorted)))

  module _ (stack : Stack) (n : ℕ) (c x y : Term) (at : At s.terms n (Ite c x y)) where
    row_sound : (i a b : ℕ) → At s.terms i c → At s.terms a x → At s.terms b y → ¬ (HasSort x BoolSort) → (k : ℕ) (ls : List NumberedLiteral) → pick_row nodes n i a b k ≡ Some ls → (d : Clause) × Names s.terms ls d × Derives stack s (Pick n k) d
    row_sound i a b ci xa yb m zero ls e =
        let k = bind_some (equality nodes n a) _ ls e in
        let q = told nodes s r n a (Ite c x y) x at xa k.0 k.1 in
        (_, subst (λ l. Names s.terms l (No c ∷ Yes q.0 ∷ [])) (some_is k.2) (names-no ci (names-yes q.1 names-none)), pick-then at m q.2)
    row_sound i a b ci xa yb m (suc zero) ls e =
        let k = bind_some (equality nodes n b) _ ls e in
        let q = told nodes s r n b (Ite c x y) y at yb k.0 k.1 in
        (_, subst (λ l. Names s.terms l (Yes c ∷ Yes q.0 ∷ [])) (some_is k.2) (names-yes ci (names-yes q.1 names-none)), pick-else at m q.2)
    row_sound i a b ci xa yb m (suc (suc k)) ls e = cc

    parts_sound : (ns : List ℕ) → AllAt s.terms ns (c ∷ x ∷ y ∷ []) → (k : ℕ) (ls : List NumberedLiteral) → pick_parts nodes n k ns ≡ Some ls → (d : Clause) × Names s.terms ls d × Derives stack s (Pick n k) d
    parts_sound _ (one-term {n = i} ci (one-term {n = a} xa (one-term {n = b} yb no-terms))) k ls e =
        let z = bind_some (slice_get nodes a) _ ls e in
        let d = unchosen (same_sort (z.0).sort BoolSort) (pick_row nodes n i a b k) ls z.2 in
        row_sound i a b ci xa yb (not_bool a z.0 x z.1 xa d.0) k ls d.1

  pick_sound : (stack : Stack) (n k : ℕ) (ns : List NumberedLiteral) → pick_clause nodes n k ≡ Some ns → (c : Clause) × Names s.terms ns c × Derives stack s (Pick n k) c
  pick_sound stack n k ns e =
      let z = bind_some (slice_get nodes n) _ ns e in
      let t = r.each n z.0 z.1 in
      let d = chosen (same_head (z.0).head IteHead) (pick_parts nodes n k (z.0).parts) ns z.2 in
      let i = choice_is t.0 ((t.2).same_head ∙ head_is (z.0).head IteHead d.0) in
      parts_sound stack n i.test i.left i.right (subst (At s.terms n) i.is t.1) (z.0).parts (subst (λ u. AllAt s.terms (z.0).parts (parts u)) i.is (t.2).same_parts) k ns d.1

  -- the node of a choice, and its parts
  record OfChoice (n : ℕ) (c x y : Term) : Type 0 where
    node : Node
    here : At nodes n node
    is_choice : same_head node.head IteHead ≡ true
    test : ℕ
    left : ℕ
    right : ℕ
    its_parts : node.parts ≡ test ∷ left ∷ right ∷ []
    at_test : At s.terms test c
    at_left : At s.terms left x
    at_right : At s.terms right y

  of_choice : (n : ℕ) (c x y : Term) → At s.terms n (Ite c x y) → OfChoice n c x y
  of_choice n c x y at =
      let z = r.every n (Ite c x y) at in
      let v = r.each n z.0 z.1 in
      let is : v.0 ≡ Ite c x y = one_at s.terms n v.0 (Ite c x y) v.1 at in
      let h : IteHead ≡ (z.0).head = sym (ap head is) ∙ (v.2).same_head in
      let p = three (z.0).parts (subst (λ u. AllAt s.terms (z.0).parts (parts u)) is (v.2).same_parts) in
      record { node = z.0; here = z.1; is_choice = ap (λ g. same_head g IteHead) (sym h); test = p.0; left = p.1; right = p.2; its_parts = p.3; at_test = p.4; at_left = p.5; at_right = p.6 }
    where
      three : (ns : List ℕ) → AllAt s.terms ns (c ∷ x ∷ y ∷ []) → (i : ℕ) × (a : ℕ) × (b : ℕ) × (ns ≡ i ∷ a ∷ b ∷ []) × At s.terms i c × At s.terms a x × At s.terms b y
      three _ (one-term {n = i} p (one-term {n = a} q (one-term {n = b} w no-terms))) = (i, a, b, refl, p, q, w)

  picked : (n k : ℕ) (c x y : Term) (o : OfChoice n c x y) (ls : List NumberedLiteral) → ¬ (HasSort x BoolSort) → pick_row nodes n o.test o.left o.right k ≡ Some ls → pick_clause nodes n k ≡ Some ls
  picked n k c x y o ls m e =
      let z = r.every o.left x o.at_left in
      bind_to (slice_get nodes n) _ o.node ls o.here
      (ap (λ d. if d then pick_parts nodes n k (o.node).parts else None) o.is_choice
      ∙ ap (pick_parts nodes n k) o.its_parts
      ∙ bind_to (slice_get nodes o.left) _ z.0 ls z.1 (ap (λ d. if d then None else pick_row nodes n o.test o.left o.right k) (is_not_bool o.left z.0 x z.1 o.at_left m) ∙ e))

  pick_complete : (stack : Stack) (n k : ℕ) (c : Clause) → Derives stack s (Pick n k) c → (ns : List NumberedLiteral) × Names s.terms ns c × (pick_clause nodes n k ≡ Some ns)
  pick_complete stack n zero d (pick-then {c = c} {x = x} {y = y} {e = e} at m q) =
      let o = of_choice n c x y at in
      let ls = denial o.test ∷ plain q.number ∷ [] in
      (ls, names-no o.at_test (names-yes q.here names-none), picked n 0 c x y o ls m (bind_to (equality nodes n o.left) _ q.number ls (tells nodes s r n o.left (Ite c x y) x at o.at_left q.number e q.here q) refl))
  pick_complete stack n (suc zero) d (pick-else {c = c} {x = x} {y = y} {e = e} at m q) =
      let o = of_choice n c x y at in
      let ls = plain o.test ∷ plain q.number ∷ [] in
      (ls, names-yes o.at_test (names-yes q.here names-none), picked n 1 c x y o ls m (bind_to (equality nodes n o.right) _ q.number ls (tells nodes s r n o.right (Ite c x y) y at o.at_right q.number e q.here q) refl))
  pick_complete stack n (suc (suc k)) d h = elim h [ ]

  pub pick_computes : (stack : Stack) (n k : ℕ) → Computes nodes s stack (Pick n k) (pick_clause nodes n k)
  pick_computes stack n k = record { sound = pick_sound stack n k; complete = pick_complete stack n k }
