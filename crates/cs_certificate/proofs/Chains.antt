-- Chains and congruences by numbers.
use Rattle.std.proofs.Common.{◌≡◌, ℕ, Bool, true, false, List, [], ◌∷◌, ◌++◌, Option, Some, None, slice_get, refl, sym, ◌∙◌, ap, subst, eqb-true, eq-eqb}
use Rattle.std.specs.Prelude.{nat_eq, if◌then◌else◌}
use Rattle.vx_terms.specs.Terms.{Term}
use Rattle.cs_certificate.specs.Terms.{head, parts}
use Rattle.cs_certificate.specs.Certificate.{At, AllAt, no-terms, one-term, Clause, Yes, No, NumberedLiteral, Stack, State, Links, end, link, Pairs, no-pairs, same, differ, Chain, Congruence, Derives, chain, congruence}
use Rattle.cs_certificate.specs.Nodes.{Node, Represents, same_head, equality}
use Rattle.cs_certificate.specs.Steps.{◌>>=◌, plain, denial, Names, names-none, names-yes, names-no, links, chain_clause, with_pair, pairs, all_pairs, congruence_clause, Computes}
use Rattle.cs_certificate.proofs.Heads.{head_is, head_same}
use Rattle.cs_certificate.proofs.Find.{one_at}
use Rattle.cs_certificate.proofs.Equalities.{told, tells}

pub bind_some : {A B : Type 0} (o : Option A) (f : A → Option B) (y : B) → (o >>= f) ≡ Some y → (x : A) × (o ≡ Some x) × (f x ≡ Some y)
bind_some None f y e = cc
bind_some (Some x) f y e = (x, refl, e)

pub bind_to : {A B : Type 0} (o : Option A) (f : A → Option B) (x : A) (y : B) → o ≡ Some x → f x ≡ Some y → (o >>= f) ≡ Some y
bind_to o f x y e g = ap (λ p. p >>= f) e ∙ g

pub names_append : (terms : List Term) {ns ms : List NumberedLiteral} {c d : Clause} → Names terms ns c → Names terms ms d → Names terms (ns ++ ms) (c ++ d)
names_append terms names-none y = y
names_append terms (names-yes a x) y = names-yes a (names_append terms x y)
names_append terms (names-no a x) y = names-no a (names_append terms x y)

module _ (nodes : List Node) (s : State) (r : Represents nodes s.terms) where
  -- a chain from a, whose term is t
  record IsChain (t : Term) (bs : List ℕ) (ls : List NumberedLiteral) (z : ℕ) : Type 0 where
    terms : List Term
    last : Term
    clause : Clause
    all : AllAt s.terms bs terms
    linked : Links s t terms last clause
    named : Names s.terms ls clause
    ends_at : At s.terms z last

  links_sound : (a : ℕ) (t : Term) (bs : List ℕ) (ls : List NumberedLiteral) (z : ℕ) → At s.terms a t → links nodes a bs ≡ Some (ls, z) → IsChain t bs ls z
  links_sound a t [] ls z p e =
      let q : [] ≡ ls = ap (λ o. firsts o) e in
      let y : a ≡ z = ap (λ o. seconds o) e in
      record { terms = []; last = t; clause = []; all = no-terms; linked = end t; named = subst (λ x. Names s.terms x []) q names-none; ends_at = subst (λ x. At s.terms x t) y p }
    where
      firsts : Option (List NumberedLiteral × ℕ) → List NumberedLiteral
      firsts None = []
      firsts (Some x) = x.0

      seconds : Option (List NumberedLiteral × ℕ) → ℕ
      seconds None = a
      seconds (Some x) = x.1
  links_sound a t (b ∷ bs) ls z p e =
      let n = bind_some (slice_get nodes b) _ _ e in
      let u = r.each b n.0 n.1 in
      let k = bind_some (equality nodes a b) _ _ n.2 in
      let q = told nodes s r a b t u.0 p u.1 k.0 k.1 in
      let m = bind_some (links nodes b bs) _ _ k.2 in
      let rest = links_sound b u.0 bs (m.0).0 (m.0).1 u.1 m.1 in
      let first : denial k.0 ∷ (m.0).0 ≡ ls = ap (λ o. firsts o) m.2 in
      let second : (m.0).1 ≡ z = ap (λ o. seconds o) m.2 in
      record {
        terms = u.0 ∷ rest.terms;
        last = rest.last;
        clause = No q.0 ∷ rest.clause;
        all = one-term u.1 rest.all;
        linked = link q.2 rest.linked;
        named = subst (λ x. Names s.terms x (No q.0 ∷ rest.clause)) first (names-no q.1 rest.named);
        ends_at = subst (λ x. At s.terms x rest.last) second rest.ends_at;
      }
    where
      firsts : Option (List NumberedLiteral × ℕ) → List NumberedLiteral
      firsts None = []
      firsts (Some x) = x.0

      seconds : Option (List NumberedLiteral × ℕ) → ℕ
      seconds None = a
      seconds (Some x) = x.1

  links_complete : {t u : Term} {ts : List Term} {c : Clause} (a : ℕ) (bs : List ℕ) → At s.terms a t → AllAt s.terms bs ts → Links s t ts u c →
      (ls : List NumberedLiteral) × (z : ℕ) × (links nodes a bs ≡ Some (ls, z)) × Names s.terms ls c × At s.terms z u
  links_complete a bs p no-terms (end t) = ([], a, refl, names-none, p)
  links_complete {t = t} a bs p (one-term {n = b} {t = v} at all) (link {e = e} q l) =
      let n = r.every b v at in
      let k = q.number in
      let rest = links_complete b _ at all l in
      let f = tells nodes s r a b t v p at k e q.here q in
      (denial k ∷ rest.0, rest.1, bind_to (slice_get nodes b) _ n.0 _ n.1 (bind_to (equality nodes a b) _ k _ f (bind_to (links nodes b _) _ (rest.0, rest.1) _ rest.2 refl)), names-no q.here rest.3, rest.4)

  pub chain_computes : (stack : Stack) (ns : List ℕ) → Computes nodes s stack (Chain ns) (chain_clause nodes ns)
  chain_computes stack [] = record { sound = λ ns e. cc; complete = λ c d. none c d }
    where
      none : (c : Clause) → Derives stack s (Chain []) c → (ns : List NumberedLiteral) × Names s.terms ns c × (chain_clause nodes [] ≡ Some ns)
      none c d = elim d [ ]
  chain_computes stack (a ∷ bs) = record { sound = sound; complete = complete }
    where
      sound : (ns : List NumberedLiteral) → chain_clause nodes (a ∷ bs) ≡ Some ns → (c : Clause) × Names s.terms ns c × Derives stack s (Chain (a ∷ bs)) c
      sound ns e =
          let n = bind_some (slice_get nodes a) _ _ e in
          let t = r.each a n.0 n.1 in
          let m = bind_some (links nodes a bs) _ _ n.2 in
          let l = links_sound a t.0 bs (m.0).0 (m.0).1 t.1 m.1 in
          let k = bind_some (equality nodes a (m.0).1) _ _ m.2 in
          let q = told nodes s r a (m.0).1 t.0 l.last t.1 l.ends_at k.0 k.1 in
          let whole : (m.0).0 ++ plain k.0 ∷ [] ≡ ns = some_is k.2 in
          (l.clause ++ Yes q.0 ∷ [], subst (λ x. Names s.terms x (l.clause ++ Yes q.0 ∷ [])) whole (names_append s.terms l.named (names-yes q.1 names-none)), chain t.1 l.all l.linked q.2)
        where
          some_is : {xs ys : List NumberedLiteral} → Some xs ≡ Some ys → xs ≡ ys
          some_is e = cc

      complete : (c : Clause) → Derives stack s (Chain (a ∷ bs)) c → (ns : List NumberedLiteral) × Names s.terms ns c × (chain_clause nodes (a ∷ bs) ≡ Some ns)
      complete c (chain {t = t} {u = u} {e = e} p all l q) =
          let n = r.every a t p in
          let m = links_complete a bs p all l in
          let f = tells nodes s r a m.1 t u p m.4 q.number e q.here q in
          (m.0 ++ plain q.number ∷ [], names_append s.terms m.3 (names-yes q.here names-none), bind_to (slice_get nodes a) _ n.0 _ n.1 (bind_to (links nodes a bs) _ (m.0, m.1) _ m.2 (bind_to (equality nodes a m.1) _ q.number _ f refl)))

  -- pairs of parts
  some_is : {x y : List NumberedLiteral} → Some x ≡ Some y → x ≡ y
  some_is e = cc

  module _ (a b : ℕ) (t u : Term) (p : At s.terms a t) (q : At s.terms b u) where
    one_sound : (ts us : List Term) (d : Bool) → nat_eq a b ≡ d → (ms ls : List NumberedLiteral) → (c : Clause) × Names s.terms ms c × Pairs s ts us c →
        (if d then Some ms else (equality nodes a b >>= λ k. Some (denial k ∷ ms))) ≡ Some ls → (c : Clause) × Names s.terms ls c × Pairs s (t ∷ ts) (u ∷ us) c
    one_sound ts us true z ms ls rest f =
        let is : t ≡ u = one_at s.terms a t u p (subst (λ x. At s.terms x u) (sym (eqb-true a b z)) q) in
        (rest.0, subst (λ x. Names s.terms x rest.0) (some_is f) rest.1, subst (λ x. Pairs s (t ∷ ts) (x ∷ us) rest.0) is (same rest.2))
    one_sound ts us false z ms ls rest f =
        let k = bind_some (equality nodes a b) (λ k. Some (denial k ∷ ms)) ls f in
        let g = told nodes s r a b t u p q k.0 k.1 in
        (No g.0 ∷ rest.0, subst (λ x. Names s.terms x (No g.0 ∷ rest.0)) (some_is k.2) (names-no g.1 rest.1), differ (λ is. unequal (r.distinct a b u (subst (At s.terms a) is p) q)) g.2 rest.2)
      where
        unequal : a ≡ b → ⊥
        unequal e = let f : nat_eq a b ≡ true = ap (nat_eq a) (sym e) ∙ eq-eqb a a refl in let g : true ≡ false = sym f ∙ z in cc

    apart : ¬ (t ≡ u) → (d : Bool) → nat_eq a b ≡ d → nat_eq a b ≡ false
    apart n true z = absurd (n (one_at s.terms a t u p (subst (λ x. At s.terms x u) (sym (eqb-true a b z)) q)))
    apart n false z = z

  pairs_sound : (xs ys : List ℕ) (ts us : List Term) (ls : List NumberedLiteral) → AllAt s.terms xs ts → AllAt s.terms ys us → pairs nodes xs ys ≡ Some ls → (c : Clause) × Names s.terms ls c × Pairs s ts us c
  pairs_sound _ _ _ _ ls no-terms no-terms e = ([], subst (λ x. Names s.terms x []) (some_is e) names-none, no-pairs)
  pairs_sound _ _ _ _ ls no-terms (one-term b bs) e = cc
  pairs_sound _ _ _ _ ls (one-term a more) no-terms e = cc
  pairs_sound _ _ _ _ ls (one-term {n = a} {t = t} {ns = xs} {ts = ts} p ps) (one-term {n = b} {t = u} {ns = ys} {ts = us} q qs) e =
      let m = bind_some (pairs nodes xs ys) (with_pair nodes a b) ls e in
      one_sound a b t u p q ts us (nat_eq a b) refl m.0 ls (pairs_sound xs ys ts us m.0 ps qs m.1) m.2

  pairs_complete : {ts us : List Term} {c : Clause} (xs ys : List ℕ) → AllAt s.terms xs ts → AllAt s.terms ys us → Pairs s ts us c → (ls : List NumberedLiteral) × Names s.terms ls c × (pairs nodes xs ys ≡ Some ls)
  pairs_complete _ _ no-terms no-terms no-pairs = ([], names-none, refl)
  pairs_complete _ _ no-terms (one-term q qs) k = elim k [ ]
  pairs_complete _ _ (one-term p ps) no-terms k = elim k [ ]
  pairs_complete _ _ (one-term {n = a} {t = t} {ns = xs} p ps) (one-term {n = b} {ns = ys} q qs) (same k) =
      let rest = pairs_complete xs ys ps qs k in
      (rest.0, rest.1, bind_to (pairs nodes xs ys) (with_pair nodes a b) rest.0 rest.0 rest.2 (ap (λ d. if d then Some rest.0 else (equality nodes a b >>= λ e. Some (denial e ∷ rest.0))) (ap (nat_eq a) (sym (r.distinct a b t p q)) ∙ eq-eqb a a refl)))
  pairs_complete _ _ (one-term {n = a} {t = t} {ns = xs} p ps) (one-term {n = b} {t = u} {ns = ys} q qs) (differ {e = e} n g k) =
      let rest = pairs_complete xs ys ps qs k in
      let f = tells nodes s r a b t u p q g.number e g.here g in (
        denial g.number ∷ rest.0,
        names-no g.here rest.1,
        bind_to (pairs nodes xs ys) (with_pair nodes a b) rest.0 (denial g.number ∷ rest.0) rest.2
            (ap (λ d. if d then Some rest.0 else (equality nodes a b >>= λ e. Some (denial e ∷ rest.0))) (apart a b t u p q n (nat_eq a b) refl)
            ∙ bind_to (equality nodes a b) (λ e. Some (denial e ∷ rest.0)) g.number (denial g.number ∷ rest.0) f refl),
      )

  chosen : (d : Bool) (o : Option (List NumberedLiteral)) (ls : List NumberedLiteral) → (if d then o else None) ≡ Some ls → (d ≡ true) × (o ≡ Some ls)
  chosen true o ls e = (refl, e)
  chosen false o ls e = cc

  pub congruence_computes : (stack : Stack) (m n : ℕ) → Computes nodes s stack (Congruence m n) (congruence_clause nodes m n)
  congruence_computes stack m n = record { sound = sound; complete = complete }
    where
      sound : (ns : List NumberedLiteral) → congruence_clause nodes m n ≡ Some ns → (c : Clause) × Names s.terms ns c × Derives stack s (Congruence m n) c
      sound ns e =
          let x = bind_some (slice_get nodes m) _ ns e in
          let t = r.each m x.0 x.1 in
          let y = bind_some (slice_get nodes n) _ ns x.2 in
          let u = r.each n y.0 y.1 in
          let z = bind_some (all_pairs nodes x.0 y.0) _ ns y.2 in
          let d = chosen (same_head (x.0).head (y.0).head) (pairs nodes (x.0).parts (y.0).parts) z.0 z.1 in
          let heads : head t.0 ≡ head u.0 = (t.2).same_head ∙ head_is (x.0).head (y.0).head d.0 ∙ sym (u.2).same_head in
          let l = pairs_sound (x.0).parts (y.0).parts (parts t.0) (parts u.0) z.0 (t.2).same_parts (u.2).same_parts d.1 in
          let k = bind_some (equality nodes m n) _ ns z.2 in
          let q = told nodes s r m n t.0 u.0 t.1 u.1 k.0 k.1 in
          (l.0 ++ Yes q.0 ∷ [], subst (λ x. Names s.terms x (l.0 ++ Yes q.0 ∷ [])) (some_is k.2) (names_append s.terms l.1 (names-yes q.1 names-none)), congruence t.1 u.1 heads l.2 q.2)

      complete : (c : Clause) → Derives stack s (Congruence m n) c → (ns : List NumberedLiteral) × Names s.terms ns c × (congruence_clause nodes m n ≡ Some ns)
      complete c (congruence {t = t} {u = u} {e = e} p q h k w) =
          let x = r.every m t p in
          let y = r.every n u q in
          let v = r.each m x.0 x.1 in
          let w' = r.each n y.0 y.1 in
          let it : v.0 ≡ t = one_at s.terms m v.0 t v.1 p in
          let iu : w'.0 ≡ u = one_at s.terms n w'.0 u w'.1 q in
          let heads : (x.0).head ≡ (y.0).head = sym (v.2).same_head ∙ ap head it ∙ h ∙ sym (ap head iu) ∙ (w'.2).same_head in
          let xs : AllAt s.terms (x.0).parts (parts t) = subst (λ z. AllAt s.terms (x.0).parts (parts z)) it (v.2).same_parts in
          let ys : AllAt s.terms (y.0).parts (parts u) = subst (λ z. AllAt s.terms (y.0).parts (parts z)) iu (w'.2).same_parts in
          let l = pairs_complete (x.0).parts (y.0).parts xs ys k in
          let test : same_head (x.0).head (y.0).head ≡ true = ap (same_head (x.0).head) (sym heads) ∙ head_same (x.0).head in
          let both : all_pairs nodes x.0 y.0 ≡ Some l.0 = ap (λ d. if d then pairs nodes (x.0).parts (y.0).parts else None) test ∙ l.2 in
          let f = tells nodes s r m n t u p q w.number e w.here w in (
            l.0 ++ plain w.number ∷ [],
            names_append s.terms l.1 (names-yes w.here names-none),
            bind_to (slice_get nodes m) _ x.0 _ x.1 (bind_to (slice_get nodes n) _ y.0 _ y.1 (bind_to (all_pairs nodes x.0 y.0) _ l.0 _ both (bind_to (equality nodes m n) _ w.number _ f refl))),
          )
