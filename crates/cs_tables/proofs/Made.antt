-- The lines over nodes are those of an assignment that the lists tell.
use Rattle.std.proofs.Common.{◌≡◌, ℕ, zero, suc, ◌+◌, Bool, false, List, [], ◌∷◌, map, Some, None, inl, inr, refl, sym, ◌∙◌, ap, ap₂, subst, arith}
use Rattle.std.specs.Prelude.{get_or}
use Rattle.std.proofs.lemmas.Option.{get_or_from_slice_get, same_Some}
use Rattle.vx_terms.specs.Sorts.{Sort, IntSort, BoolSort, RealSort, RefSort, SnapSort, OtherSort, Symbol}
use Rattle.vx_terms.specs.Terms.{Term, Constant, Apply, sort_of}
use Rattle.vx_terms.specs.Interpretations.{Element, BoolElement, TreeElement, RefLeaf, Each, AllTrue}
use Rattle.vx_terms.proofs.Values.{sort_of_formed}
use Rattle.cs_certificate.specs.Terms.{head, parts, numbered, HasSort}
use Rattle.cs_certificate.specs.Certificate.{At, Contains, AllAt, no-terms, one-term}
use Rattle.cs_certificate.specs.Nodes.{Node, StandsFor, Represents}
use Rattle.cs_table.specs.Gives.{Fails}
use Rattle.cs_table.specs.declared.steps.Stop.{Stop}
use Rattle.cs_table.specs.declared.steps.Stop.TheVariants.{Miss, Want}
use Rattle.cs_numbers.specs.Numbering.{nodes_of}
use Rattle.cs_numbers.specs.Laws.{IsSorted, IsTable, of_assertions}
use Rattle.cs_numbers.proofs.Numbered.{in_left, in_right, in_either}
use Rattle.cs_numbers.proofs.Tables.{tabulates}
use Rattle.cs_model.specs.Models.{interpretation}
use Rattle.cs_model.specs.declared.tables.Entry.{Entry}
use Rattle.cs_classes.specs.Elements.{Assignment, element_at, element_of, elements_of}
use Rattle.cs_classes.specs.Agreement.{IsCall, constant, applies}
use Rattle.cs_classes.specs.Models.{IsEntry, Tabulates}
use Rattle.cs_classes.specs.Laws.{IsAssigned}
use Rattle.cs_classes.proofs.Laws.{tables}
use Rattle.cs_tables.specs.Told.{told, told_of, told_at, Tells}
use Rattle.cs_tables.specs.Lines.{Line, line, lines, line_of, lines_from}

-- ---- lines of some nodes
-- a line comes from the node of some number
lines_to : (value : ℕ → Element) (n : ℕ) (xs : List Node) (l : Line) → Contains (lines_from value n xs) l → (k : ℕ) × (x : Node) × At xs k x × Contains (line_of value (n + k) x.head x.parts) l
lines_to value n [] l (j, e) = cc
lines_to value n (x ∷ xs) l c = elim (in_either (line_of value n x.head x.parts) (lines_from value (n + 1) xs) l c) [
  | inl h ↦ (let is : n ≡ n + 0 = omega arith in (0, x, refl, subst (λ m. Contains (line_of value m x.head x.parts) l) is h))
  | inr h ↦
      (let r = lines_to value (n + 1) xs l h in
      let k = r.0 in
      let is : n + 1 + k ≡ n + suc k = omega arith in (suc k, r.1, r.2, subst (λ m. Contains (line_of value m (r.1).head (r.1).parts) l) is r.3))
]

-- and each node's lines are there
lines_have : (value : ℕ → Element) (n : ℕ) (xs : List Node) (k : ℕ) (x : Node) → At xs k x → (l : Line) → Contains (line_of value (n + k) x.head x.parts) l → Contains (lines_from value n xs) l
lines_have value n [] k x e l c = cc
lines_have value n (y ∷ ys) zero x e l c =
    let is : n + 0 ≡ n = omega arith in
    in_left _ _ l (subst (λ m. Contains (line_of value m y.head y.parts) l) is (subst (λ z. Contains (line_of value (n + 0) z.head z.parts) l) (sym (same_Some _ _ e)) c))
lines_have value n (y ∷ ys) (suc k) x e l c =
    let is : n + suc k ≡ n + 1 + k = omega arith in
    in_right (line_of value n y.head y.parts) _ l (lines_have value (n + 1) ys k x e l (subst (λ m. Contains (line_of value m x.head x.parts) l) is c))

-- ---- entries and their lines
entry_line : (xs : List Entry) (x : Entry) → Contains xs x → Contains (lines xs) (line x)
entry_line [] x (k, e) = cc
entry_line (y ∷ ys) x (zero, e) = (0, ap (λ z. Some (line z)) (same_Some _ _ e))
entry_line (y ∷ ys) x (suc k, e) = let h = entry_line ys x (k, e) in (suc h.0, h.1)

line_entry : (xs : List Entry) (l : Line) → Contains (lines xs) l → (x : Entry) × Contains xs x × (line x ≡ l)
line_entry [] l (k, e) = cc
line_entry (y ∷ ys) l (zero, e) = (y, (0, refl), same_Some _ _ e)
line_entry (y ∷ ys) l (suc k, e) = let h = line_entry ys l (k, e) in (h.0, (suc (h.1).0, (h.1).1), h.2)

-- the line of a call
record IsLine (s : Assignment) (t : Term) (l : Line) : Type 0 where
  call : IsCall t l.symbol l.sort (parts t)
  arguments : l.arguments ≡ elements_of s (parts t)
  value : l.value ≡ element_of s t

entry_of : (s : Assignment) (t : Term) (x : Entry) → IsLine s t (line x) → IsEntry s t x
entry_of s t x h = record { on = parts t; call = h.call; arguments = h.arguments; value = h.value }

module _ (nodes : List Node) (all : List Term) (truths : List Bool) (classes : List ℕ) (s : Assignment) (r : Represents nodes all) (tells : Tells all truths classes s) where
  -- ---- what is told of terms is their elements
  class_told : (n : ℕ) (t : Term) → At all n t → ¬ (sort_of t ≡ BoolSort) → TreeElement (RefLeaf (get_or classes n 0)) ≡ TreeElement (RefLeaf (s.class t))
  class_told n t at h = ap (λ c. TreeElement (RefLeaf c)) (get_or_from_slice_get classes n (s.class t) 0 (tells.class n t at h))

  sort_told : (n : ℕ) (t : Term) → At all n t → (a : Sort) → sort_of t ≡ a → told truths classes n a ≡ element_at s a t
  sort_told n t at BoolSort e = ap BoolElement (get_or_from_slice_get truths n (s.truth t) false (tells.truth n t at e))
  sort_told n t at IntSort e = class_told n t at (λ h. cc)
  sort_told n t at RealSort e = class_told n t at (λ h. cc)
  sort_told n t at RefSort e = class_told n t at (λ h. cc)
  sort_told n t at SnapSort e = class_told n t at (λ h. cc)
  sort_told n t at (OtherSort x) e = class_told n t at (λ h. cc)

  term_told : (n : ℕ) (t : Term) → At all n t → told_at nodes truths classes n ≡ element_of s t
  term_told n t at =
      let x = r.every n t at in
      let h = r.each n x.0 x.1 in
      let is : h.0 ≡ t = same_Some _ _ (sym h.1 ∙ at) in
      let same : sort_of h.0 ≡ (x.0).sort = sort_of_formed (h.2.sorted).1 in
      ap (told_of truths classes n) x.1 ∙ ap (told truths classes n) (sym same) ∙ sort_told n h.0 h.1 (sort_of h.0) refl ∙ ap (element_of s) is

  all_told : (ns : List ℕ) (ts : List Term) → AllAt all ns ts → map (told_at nodes truths classes) ns ≡ elements_of s ts
  all_told _ _ no-terms = refl
  all_told _ _ (one-term {n = n} {t = t} at more) = ap₂ (λ e es. e ∷ es) (term_told n t at) (all_told _ _ more)

  -- ---- the line of a term
  told_line : (n : ℕ) (t : Term) → At all n t → (ps : List ℕ) → map (told_at nodes truths classes) ps ≡ elements_of s (parts t) → (l : Line) → Contains (line_of (told_at nodes truths classes) n (head t) ps) l → IsLine s t l
  told_line n (Constant f a) at ps is l (zero, e) = subst (IsLine s (Constant f a)) (same_Some _ _ e) record { call = constant f a; arguments = is; value = term_told n (Constant f a) at }
  told_line n (Apply f a ts) at ps is l (zero, e) = subst (IsLine s (Apply f a ts)) (same_Some _ _ e) record { call = applies f a ts; arguments = is; value = term_told n (Apply f a ts) at }
  told_line n (Constant f a) at ps is l (suc k, e) = cc
  told_line n (Apply f a ts) at ps is l (suc k, e) = cc
  told_line n _ at ps is l (k, e) = cc

  call_line : (n : ℕ) (t : Term) (f : Symbol) (a : Sort) (xs : List Term) → IsCall t f a xs → (ps : List ℕ) → (l : Line) × Contains (line_of (told_at nodes truths classes) n (head t) ps) l
  call_line n t f a xs (constant _ _) ps = (record { symbol = f; sort = a; arguments = map (told_at nodes truths classes) ps; value = told_at nodes truths classes n }, (0, refl))
  call_line n t f a xs (applies _ _ _) ps = (record { symbol = f; sort = a; arguments = map (told_at nodes truths classes) ps; value = told_at nodes truths classes n }, (0, refl))

  -- ---- the tables
  module _ (entries : List Entry) (made : lines entries ≡ lines_from (told_at nodes truths classes) 0 nodes) where
    every_call : (n : ℕ) (t : Term) (f : Symbol) (a : Sort) (xs : List Term) → At all n t → IsCall t f a xs → (x : Entry) × Contains entries x × IsEntry s t x
    every_call n t f a xs at call =
        let x = r.every n t at in
        let h = r.each n x.0 x.1 in
        let is : h.0 ≡ t = same_Some _ _ (sym h.1 ∙ at) in
        let stands : StandsFor all x.0 t = subst (StandsFor all x.0) is h.2 in
        let l = call_line n t f a xs call (x.0).parts in
        let of : Contains (line_of (told_at nodes truths classes) (0 + n) (x.0).head (x.0).parts) l.0 =
        (let zeros : n ≡ 0 + n = omega arith in subst (λ m. Contains (line_of (told_at nodes truths classes) m (x.0).head (x.0).parts) l.0) zeros (subst (λ y. Contains (line_of (told_at nodes truths classes) n y (x.0).parts) l.0) stands.same_head l.1)) in
        let in_entries = line_entry entries l.0 (subst (λ ls. Contains ls l.0) (sym made) (lines_have (told_at nodes truths classes) 0 nodes n x.0 x.1 l.0 of)) in
        let line_is = told_line n t at (x.0).parts (all_told _ _ stands.same_parts) l.0 l.1 in
        (in_entries.0, in_entries.1, entry_of s t in_entries.0 (subst (IsLine s t) (sym in_entries.2) line_is))

    no_other_entry : (x : Entry) → Contains entries x → (t : Term) × Contains all t × IsEntry s t x
    no_other_entry x c =
        let from = lines_to (told_at nodes truths classes) 0 nodes (line x) (subst (λ ls. Contains ls (line x)) made (entry_line entries x c)) in
        let k = from.0 in
        let h = r.each k from.1 from.2 in
        let stands = h.2 in
        let zeros : 0 + k ≡ k = omega arith in
        let of = subst (λ y. Contains (line_of (told_at nodes truths classes) k y (from.1).parts) (line x)) (sym stands.same_head) (subst (λ m. Contains (line_of (told_at nodes truths classes) m (from.1).head (from.1).parts) (line x)) zeros from.3) in
        (h.0, (k, h.1), entry_of s h.0 x (told_line k h.0 h.1 (from.1).parts (all_told _ _ stands.same_parts) (line x) of))

    pub tabulated : Tabulates all s entries
    tabulated = record { every = λ t f a xs at call. every_call at.0 t f a xs at.1 call; no_other = no_other_entry }

pub modelled : (nodes : List Node) (assertions : List Term) (truths : List Bool) (classes : List ℕ) (s : Assignment) (entries : List Entry) → lines entries ≡ lines_from (told_at nodes truths classes) 0 nodes →
    IsAssigned assertions s → Represents nodes (numbered assertions) → Tells (numbered assertions) truths classes s → AllTrue (interpretation entries) assertions
modelled nodes assertions truths classes s entries made assigned r tells = tables assertions s entries assigned (tabulated nodes (numbered assertions) truths classes s r tells entries made)

-- ---- over numbered terms
-- nothing is missed
pub not_missed : (terms : List Term) → IsTable terms → (e : Stop) → Fails e (nodes_of terms terms) → e ≡ Want
not_missed terms k Want h = refl
not_missed terms k Miss h = let n = tabulates terms k in let e : None ≡ Some n.0 = sym h ∙ n.1 in cc

-- the nodes represent them
pub represents : (terms : List Term) (nodes : List Node) → IsTable terms → nodes_of terms terms ≡ Some nodes → Represents nodes terms
represents terms nodes k e = let n = tabulates terms k in subst (λ ns. Represents ns terms) (same_Some _ _ (sym n.1 ∙ e)) n.2

-- those of assertions
pub assigned_table : (terms assertions : List Term) (s : Assignment) → terms ≡ numbered assertions → IsAssigned assertions s → IsTable terms
assigned_table terms assertions s e h = subst IsTable (sym e) (of_assertions assertions (all_sorted assertions h.sorted))
  where
    all_sorted : (ts : List Term) → Each (λ t. HasSort t BoolSort) ts → Each IsSorted ts
    all_sorted [] h = tt
    all_sorted (t ∷ ts) h = ((BoolSort, h.0), all_sorted ts h.1)
