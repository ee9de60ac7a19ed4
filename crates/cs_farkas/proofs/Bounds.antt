-- The constraints of a `farkas` step by number are its rows by term.
use Rattle.std.proofs.Common.{◌≡◌, ℕ, pos, Bool, true, false, ◌&&◌, List, [], ◌∷◌, Option, Some, None, refl, sym, ◌∙◌, ap, subst}
use Rattle.std.specs.Prelude.{slice_get}
use Rattle.std.proofs.lemmas.Option.{same_Some}
use Rattle.vx_terms.specs.Sorts.{BoolSort, Operator, And, Or, Implies, Equal, Less, LessEqual, Add, Subtract, Multiply, Div, Mod}
use Rattle.vx_terms.specs.Terms.{Term, Truth, Number, Part, Constant, Apply, Not, Binary, Ite, AllOf, SomeOf, sort_of}
use Rattle.vx_terms.proofs.Values.{sort_of_formed}
use Rattle.cs_certificate.specs.Terms.{Head, TruthHead, NumberHead, PartHead, ConstantHead, ApplyHead, BinaryHead, NotHead, IteHead, AllHead, SomeHead, head, parts, equal, HasSort}
use Rattle.cs_certificate.specs.Certificate.{At, AllAt, no-terms, one-term, Literal, Yes, No, Clause, Sign, Plain, Negated, NumberedLiteral, State, Reads, reads-plain, reads-negated, Constrains, not-less, not-at-most, less, at-most, equals}
use Rattle.cs_certificate.specs.Linear.{Relation, AtMostZero, BelowZero, IsZero, Constraint}
use Rattle.cs_certificate.specs.Nodes.{Node, Represents}
use Rattle.cs_certificate.specs.Steps.{Names, names-yes, names-no}
use Rattle.cs_certificate.proofs.Find.{one_at}
use Rattle.cs_farkas.specs.Rows.{Bound, bound, comparison, of_sides, bound_at}
use Rattle.cs_farkas.proofs.Linears.{head_at}

-- a literal of a comparison, by number and by term
pub record Compared (s : State) (l : NumberedLiteral) (b : Bound) : Type 0 where
  pub literal : Literal
  pub left : Term
  pub right : Term
  pub its_left : At s.terms b.left left
  pub its_right : At s.terms b.right right
  pub is_read : Reads s l literal
  pub constrains : Constrains literal record { left = left; right = right; relation = b.relation }

-- the same names, of one literal
pub names_one : (s : State) (l : NumberedLiteral) (x : Literal) (ls : List NumberedLiteral) (c : Clause) → Reads s l x → Names s.terms ls c → Names s.terms (l ∷ ls) (x ∷ c)
names_one s _ _ ls c (reads-plain at h) n = names-yes at n
names_one s _ _ ls c (reads-negated at h) n = names-no at n

module _ (nodes : List Node) (s : State) (r : Represents nodes s.terms) where
  -- a numbered comparison is Bool
  bool_at : (k : ℕ) (t : Term) → At s.terms k t → sort_of t ≡ BoolSort → HasSort t BoolSort
  bool_at k t at is =
      let n = r.every k t at in
      let v = r.each k n.0 n.1 in
      let sorted : HasSort t (n.0).sort = subst (λ x. HasSort x (n.0).sort) (one_at s.terms k v.0 t v.1 at) (v.2).sorted in
      subst (HasSort t) (sym (sort_of_formed sorted.1) ∙ is) sorted

  -- ---- from numbers to terms
  compared : (sign : Sign) (k : ℕ) (o : Operator) (t u : Term) (i j : ℕ) (b : Bound) → At s.terms k (Binary o t u) → At s.terms i t → At s.terms j u → comparison sign (BinaryHead o) i j ≡ Some b → Compared s record { sign = sign; number = k } b
  compared Plain k Less t u i j b at p q e =
      let is = same_Some _ _ e in
      subst (Compared s record { sign = Plain; number = k }) is record { literal = Yes (Binary Less t u); left = u; right = t; its_left = q; its_right = p; is_read = reads-plain at (bool_at k (Binary Less t u) at refl); constrains = not-less t u }
  compared Plain k LessEqual t u i j b at p q e =
      let is = same_Some _ _ e in
      subst (Compared s record { sign = Plain; number = k }) is record { literal = Yes (Binary LessEqual t u); left = u; right = t; its_left = q; its_right = p; is_read = reads-plain at (bool_at k (Binary LessEqual t u) at refl); constrains = not-at-most t u }
  compared Negated k Less t u i j b at p q e =
      let is = same_Some _ _ e in
      subst (Compared s record { sign = Negated; number = k }) is record { literal = No (Binary Less t u); left = t; right = u; its_left = p; its_right = q; is_read = reads-negated at (bool_at k (Binary Less t u) at refl); constrains = less t u }
  compared Negated k LessEqual t u i j b at p q e =
      let is = same_Some _ _ e in
      subst (Compared s record { sign = Negated; number = k }) is record { literal = No (Binary LessEqual t u); left = t; right = u; its_left = p; its_right = q; is_read = reads-negated at (bool_at k (Binary LessEqual t u) at refl); constrains = at-most t u }
  compared Negated k Equal t u i j b at p q e =
      let is = same_Some _ _ e in
      subst (Compared s record { sign = Negated; number = k }) is record { literal = No (equal t u); left = t; right = u; its_left = p; its_right = q; is_read = reads-negated at (bool_at k (equal t u) at refl); constrains = equals t u }
  compared Plain k And t u i j b at p q e = cc
  compared Plain k Or t u i j b at p q e = cc
  compared Plain k Implies t u i j b at p q e = cc
  compared Plain k Equal t u i j b at p q e = cc
  compared Plain k Add t u i j b at p q e = cc
  compared Plain k Subtract t u i j b at p q e = cc
  compared Plain k Multiply t u i j b at p q e = cc
  compared Plain k Div t u i j b at p q e = cc
  compared Plain k Mod t u i j b at p q e = cc
  compared Negated k And t u i j b at p q e = cc
  compared Negated k Or t u i j b at p q e = cc
  compared Negated k Implies t u i j b at p q e = cc
  compared Negated k Add t u i j b at p q e = cc
  compared Negated k Subtract t u i j b at p q e = cc
  compared Negated k Multiply t u i j b at p q e = cc
  compared Negated k Div t u i j b at p q e = cc
  compared Negated k Mod t u i j b at p q e = cc

  -- no other term is a comparison
  abbrev is_binary : Head → Bool
  is_binary (BinaryHead o) = true
  is_binary (TruthHead b) = false
  is_binary (NumberHead z) = false
  is_binary (PartHead a) = false
  is_binary (ConstantHead f a) = false
  is_binary (ApplyHead f a) = false
  is_binary NotHead = false
  is_binary IteHead = false
  is_binary AllHead = false
  is_binary SomeHead = false

  no_comparison : (sign : Sign) (h : Head) (i j : ℕ) → is_binary h ≡ false → comparison sign h i j ≡ None
  no_comparison Plain (BinaryHead o) i j e = cc
  no_comparison Plain (TruthHead b) i j e = refl
  no_comparison Plain (NumberHead z) i j e = refl
  no_comparison Plain (PartHead a) i j e = refl
  no_comparison Plain (ConstantHead f a) i j e = refl
  no_comparison Plain (ApplyHead f a) i j e = refl
  no_comparison Plain NotHead i j e = refl
  no_comparison Plain IteHead i j e = refl
  no_comparison Plain AllHead i j e = refl
  no_comparison Plain SomeHead i j e = refl
  no_comparison Negated (BinaryHead o) i j e = cc
  no_comparison Negated (TruthHead b) i j e = refl
  no_comparison Negated (NumberHead z) i j e = refl
  no_comparison Negated (PartHead a) i j e = refl
  no_comparison Negated (ConstantHead f a) i j e = refl
  no_comparison Negated (ApplyHead f a) i j e = refl
  no_comparison Negated NotHead i j e = refl
  no_comparison Negated IteHead i j e = refl
  no_comparison Negated AllHead i j e = refl
  no_comparison Negated SomeHead i j e = refl

  no_sides : (sign : Sign) (h : Head) (ps : List ℕ) → is_binary h ≡ false → of_sides sign h ps ≡ None
  no_sides sign h [] e = refl
  no_sides sign h (i ∷ []) e = refl
  no_sides sign h (i ∷ j ∷ []) e = no_comparison sign h i j e
  no_sides sign h (i ∷ j ∷ k ∷ ks) e = refl

  other : (sign : Sign) (k : ℕ) (h : Head) (ps : List ℕ) (b : Bound) → is_binary h ≡ false → of_sides sign h ps ≡ Some b → Compared s record { sign = sign; number = k } b
  other sign k h ps b n e = absurd (let f = sym (no_sides sign h ps n) ∙ e in cc)

  compared_at : (sign : Sign) (k : ℕ) (t : Term) (ps : List ℕ) (b : Bound) → At s.terms k t → AllAt s.terms ps (parts t) → of_sides sign (head t) ps ≡ Some b → Compared s record { sign = sign; number = k } b
  compared_at sign k (Binary o t u) _ b at (one-term {n = i} p (one-term {n = j} q no-terms)) e = compared sign k o t u i j b at p q e
  compared_at sign k (Truth x) ps b at p e = other sign k (TruthHead x) ps b refl e
  compared_at sign k (Number z) ps b at p e = other sign k (NumberHead z) ps b refl e
  compared_at sign k (Part a) ps b at p e = other sign k (PartHead a) ps b refl e
  compared_at sign k (Constant f a) ps b at p e = other sign k (ConstantHead f a) ps b refl e
  compared_at sign k (Apply f a ts) ps b at p e = other sign k (ApplyHead f a) ps b refl e
  compared_at sign k (Not t) ps b at p e = other sign k NotHead ps b refl e
  compared_at sign k (Ite c t u) ps b at p e = other sign k IteHead ps b refl e
  compared_at sign k (AllOf ts) ps b at p e = other sign k AllHead ps b refl e
  compared_at sign k (SomeOf ts) ps b at p e = other sign k SomeHead ps b refl e

  pub compared_by : (l : NumberedLiteral) (b : Bound) → bound_at nodes l ≡ Some b → Compared s l b
  compared_by l b e = go (slice_get nodes l.number) refl e
    where
      go : (o : Option Node) → slice_get nodes l.number ≡ o → elim o [ Some n ↦ of_sides l.sign n.head n.parts | None ↦ None ] ≡ Some b → Compared s l b
      go None f e = cc
      go (Some n) f e =
          let v = r.each l.number n f in
          compared_at l.sign l.number v.0 n.parts b v.1 (v.2).same_parts (ap (λ h. of_sides l.sign h n.parts) (v.2).same_head ∙ e)

  -- ---- from terms to numbers
  number_of_comparison : (sign : Sign) (k : ℕ) (o : Operator) (t u : Term) (g : Relation) → At s.terms k (Binary o t u) → ((i j : ℕ) → At s.terms i t → At s.terms j u → (b : Bound) × (comparison sign (BinaryHead o) i j ≡ Some b)) →
      (i : ℕ) × (j : ℕ) × At s.terms i t × At s.terms j u × (bound_at nodes record { sign = sign; number = k } ≡ comparison sign (BinaryHead o) i j)
  number_of_comparison sign k o t u g at f =
      let n = head_at nodes s.terms r (record { numerator = pos 0; below = 0 }) k (Binary o t u) at in
      two (n.0).parts n.3 (ap (λ x. elim x [ Some n ↦ of_sides sign n.head n.parts | None ↦ None ]) n.1 ∙ ap (λ h. of_sides sign h (n.0).parts) n.2)
    where
      two : (ps : List ℕ) → AllAt s.terms ps (t ∷ u ∷ []) → bound_at nodes record { sign = sign; number = k } ≡ of_sides sign (BinaryHead o) ps →
          (i : ℕ) × (j : ℕ) × At s.terms i t × At s.terms j u × (bound_at nodes record { sign = sign; number = k } ≡ comparison sign (BinaryHead o) i j)
      two _ (one-term {n = i} p (one-term {n = j} q no-terms)) e = (i, j, p, q, e)

  pub record Found (l : NumberedLiteral) (c : Constraint) : Type 0 where
    pub i : ℕ
    pub j : ℕ
    pub its_left : At s.terms i c.left
    pub its_right : At s.terms j c.right
    pub its_bound : bound_at nodes l ≡ Some (bound i j c.relation)

  pub found_by : (l : NumberedLiteral) (x : Literal) (c : Constraint) → Reads s l x → Constrains x c → Found l c
  found_by _ _ _ (reads-plain {n = k} at h) (not-less t u) =
      let f = number_of_comparison Plain k Less t u AtMostZero at (λ i j p q. (_, refl)) in
      record { i = f.1; j = f.0; its_left = f.3; its_right = f.2; its_bound = f.4 }
  found_by _ _ _ (reads-plain {n = k} at h) (not-at-most t u) =
      let f = number_of_comparison Plain k LessEqual t u BelowZero at (λ i j p q. (_, refl)) in
      record { i = f.1; j = f.0; its_left = f.3; its_right = f.2; its_bound = f.4 }
  found_by _ _ _ (reads-negated {n = k} at h) (less t u) =
      let f = number_of_comparison Negated k Less t u BelowZero at (λ i j p q. (_, refl)) in
      record { i = f.0; j = f.1; its_left = f.2; its_right = f.3; its_bound = f.4 }
  found_by _ _ _ (reads-negated {n = k} at h) (at-most t u) =
      let f = number_of_comparison Negated k LessEqual t u AtMostZero at (λ i j p q. (_, refl)) in
      record { i = f.0; j = f.1; its_left = f.2; its_right = f.3; its_bound = f.4 }
  found_by _ _ _ (reads-negated {n = k} at h) (equals t u) =
      let f = number_of_comparison Negated k Equal t u IsZero at (λ i j p q. (_, refl)) in
      record { i = f.0; j = f.1; its_left = f.2; its_right = f.3; its_bound = f.4 }
