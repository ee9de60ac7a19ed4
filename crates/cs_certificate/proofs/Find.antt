-- The look-up of a term by its head and the numbers of its parts.
use Rattle.std.proofs.Common.{◌≡◌, ℕ, zero, suc, Bool, true, false, ◌&&◌, List, [], ◌∷◌, Option, Some, None, refl, sym, ◌∙◌, ap, ap₂, subst}
use Rattle.std.specs.Prelude.{if◌then◌else◌}
use Rattle.std.specs.Option.{option_map}
use Rattle.std.proofs.lemmas.Bool.{and_from, and_parts}
use Rattle.vx_terms.specs.Terms.{Term}
use Rattle.cs_certificate.specs.Terms.{Head, head, parts}
use Rattle.cs_certificate.specs.Certificate.{At, AllAt, no-terms, one-term}
use Rattle.vx_terms.specs.Sorts.{same_text}
use Rattle.cs_certificate.specs.Nodes.{Node, Represents, same_head, is_node, number_of}
use Rattle.cs_certificate.proofs.Heads.{one_term, head_is, head_same, numbers_are, numbers_same}

pub one_at : {A : Type 0} (xs : List A) (n : ℕ) (x y : A) → At xs n x → At xs n y → x ≡ y
one_at xs n x y e f = let g : Some x ≡ Some y = sym e ∙ f in cc

pub one_all : (terms : List Term) {ns : List ℕ} (ts us : List Term) → AllAt terms ns ts → AllAt terms ns us → ts ≡ us
one_all terms ts us no-terms no-terms = refl
one_all terms ts us (one-term {n = n} {t = t} a more) (one-term {t = u} b bs) = ap₂ (λ x xs. x ∷ xs) (one_at terms n t u a b) (one_all terms _ _ more bs)

-- where each term has one number, so have lists of them
pub all_one : (terms : List Term) → ((j k : ℕ) (t : Term) → At terms j t → At terms k t → j ≡ k) → {ts : List Term} (ms ns : List ℕ) → AllAt terms ms ts → AllAt terms ns ts → ms ≡ ns
all_one terms d ms ns no-terms no-terms = refl
all_one terms d ms ns (one-term {n = m} {t = t} a more) (one-term {n = n} b bs) = ap₂ (λ x xs. x ∷ xs) (d m n t a b) (all_one terms d _ _ more bs)

-- what is found is such a node
pub found_node : (nodes : List Node) (h : Head) (ps : List ℕ) (k : ℕ) → number_of nodes h ps ≡ Some k → (n : Node) × At nodes k n × (h ≡ n.head) × (ps ≡ n.parts)
found_node [] h ps k e = cc
found_node (n ∷ ns) h ps k e = go (is_node h ps n) refl e (found_node ns h ps)
  where
    later : (o : Option ℕ) → ((j : ℕ) → o ≡ Some j → (m : Node) × At ns j m × (h ≡ m.head) × (ps ≡ m.parts)) → option_map suc o ≡ Some k → (m : Node) × At (n ∷ ns) k m × (h ≡ m.head) × (ps ≡ m.parts)
    later None f e = cc
    later (Some j) f e =
        let s : suc j ≡ k = cc in
        let r = f j refl in
        (r.0, subst (λ x. At (n ∷ ns) x r.0) s r.1, r.2, r.3)

    go : (b : Bool) → is_node h ps n ≡ b → (if b then Some 0 else option_map suc (number_of ns h ps)) ≡ Some k → ((j : ℕ) → number_of ns h ps ≡ Some j → (m : Node) × At ns j m × (h ≡ m.head) × (ps ≡ m.parts)) →
        (m : Node) × At (n ∷ ns) k m × (h ≡ m.head) × (ps ≡ m.parts)
    go true t e f =
        let s : 0 ≡ k = cc in
        let p = and_parts _ _ t in
        (n, subst (λ x. At (n ∷ ns) x n) s refl, head_is h n.head p.0, numbers_are ps n.parts p.1)
    go false t e f = later (number_of ns h ps) f e

-- such a node is found, here or before
pub finds_node : (nodes : List Node) (h : Head) (ps : List ℕ) (k : ℕ) (n : Node) → At nodes k n → is_node h ps n ≡ true → (j : ℕ) × (number_of nodes h ps ≡ Some j)
finds_node [] h ps k n e t = cc
finds_node (m ∷ ns) h ps zero n e t =
    let s : m ≡ n = cc in
    (0, ap (λ b. if b then Some 0 else option_map suc (number_of ns h ps)) (ap (is_node h ps) s ∙ t))
finds_node (m ∷ ns) h ps (suc k) n e t = go (is_node h ps m) refl (finds_node ns h ps k n e t)
  where
    go : (b : Bool) → is_node h ps m ≡ b → (j : ℕ) × (number_of ns h ps ≡ Some j) → (j : ℕ) × (number_of (m ∷ ns) h ps ≡ Some j)
    go true f r = (0, ap (λ b. if b then Some 0 else option_map suc (number_of ns h ps)) f)
    go false f r = (suc r.0, ap (λ b. if b then Some 0 else option_map suc (number_of ns h ps)) f ∙ ap (option_map suc) r.1)

-- a term of this head over the terms of these numbers
pub record IsOver (terms : List Term) (h : Head) (ps : List ℕ) (t : Term) : Type 0 where
  pub its_head : head t ≡ h
  pub its_parts : AllAt terms ps (parts t)

pub found : (nodes : List Node) (terms : List Term) → Represents nodes terms → (h : Head) (ps : List ℕ) (k : ℕ) → number_of nodes h ps ≡ Some k → (t : Term) × At terms k t × IsOver terms h ps t
found nodes terms r h ps k e =
    let n = found_node nodes h ps k e in
    let t = r.each k n.0 n.1 in
    (t.0, t.1, record { its_head = (t.2).same_head ∙ sym n.2; its_parts = subst (λ x. AllAt terms x (parts t.0)) (sym n.3) (t.2).same_parts })

same_over : (terms : List Term) (h : Head) (ps : List ℕ) (t u : Term) → IsOver terms h ps t → IsOver terms h ps u → t ≡ u
same_over terms h ps t u a b = one_term t u (a.its_head ∙ sym b.its_head) (one_all terms (parts t) (parts u) a.its_parts b.its_parts)

pub finds : (nodes : List Node) (terms : List Term) → Represents nodes terms → (h : Head) (ps : List ℕ) (k : ℕ) (t : Term) → At terms k t → IsOver terms h ps t → number_of nodes h ps ≡ Some k
finds nodes terms r h ps k t a o =
    let n = r.every k t a in
    let s = r.each k n.0 n.1 in
    let is : s.0 ≡ t = one_at terms k s.0 t s.1 a in
    let heads : h ≡ (n.0).head = sym o.its_head ∙ sym (ap head is) ∙ (s.2).same_head in
    let numbers : ps ≡ (n.0).parts = all_one terms r.distinct ps (n.0).parts o.its_parts (subst (λ x. AllAt terms (n.0).parts (parts x)) is (s.2).same_parts) in
    let test : is_node h ps n.0 ≡ true =
    ap₂ (λ x y. same_head h x && same_text ps y) (sym heads) (sym numbers) ∙ and_from (same_head h h) (same_text ps ps) (head_same h) (numbers_same ps) in
    let j = finds_node nodes h ps k n.0 n.1 test in
    let f = found nodes terms r h ps j.0 j.1 in
    j.1 ∙ ap Some (r.distinct j.0 k t (subst (λ x. At terms j.0 x) (same_over terms h ps f.0 t f.2 o) f.1) a)
