-- What an analysis met.
use Rattle.std.proofs.Common.{◌≡◌, ℕ, zero, suc, ◌+◌, ◌<◌, ◌≤◌, ◌⊎◌, inl, inr, Bool, true, false, ◌&&◌, nat_le, List, [], ◌∷◌, ◌++◌, length, map, take, get_or, set, replicate, Vec, Global, Option, Some, None, refl, sym, ◌∙◌, subst, ap, ap₂, arith}
use Rattle.std.specs.List.{slice_get, All, Contains}
use Rattle.std.proofs.lemmas.Bool.Decides.{Decides-ltb, nat_tests}
use Rattle.std.proofs.lemmas.List.{length-set, length-replicate, take_more}
use Rattle.std.proofs.lemmas.List.Elements.{All-contains, All-weaker, Contains-push, Contains-push_cases, Contains-append_left}
use Rattle.std.proofs.lemmas.Bool.{cases_Bool}
use Rattle.cs_certificate.specs.declared.literal.Literal.{Literal}
use Rattle.cs_certificate.specs.declared.literal.Clause.{Clause}
use Rattle.cs_search.specs.declared.Value.{Value}
use Rattle.cs_search.specs.declared.Value.TheVariants.{Unset, Positive, Negative}
use Rattle.cs_search.specs.declared.Status.{Status}
use Rattle.cs_search.specs.declared.Status.TheVariants.{Unassigned, True, False}
use Rattle.cs_search.specs.declared.Entry.{Entry}
use Rattle.cs_search.specs.declared.assignment.Assignment.{Assignment}
use Rattle.cs_search.specs.declared.analyse.Analysis.{Analysis}
use Rattle.cs_search.specs.Assignment.{negated, seen_or, status_of, FalseBefore, BecameFalse, LeavesOnly, IsFalse, IsTrail}
use Rattle.cs_search.specs.Extended.{IsConflict, AreClosed}
use Rattle.cs_search.specs.Propagation.{IsDerived}
use Rattle.cs_search.specs.Learned.{IsAdded, IsJoined, IsMet, IsResolved, IsReduced, IsLearned, IsWalked, IsUnwound, IsForcing, before, is_false_before, is_mark, is_met, is_late, count_below}
use Rattle.cs_search.proofs.Gets.{get_set_same, get_set_other}
use Rattle.cs_search.proofs.Statuses.{same_atom, false_negated, true_negated, literal_eq, place_by_atom_false, never_both, atom_within}
use Rattle.cs_search.proofs.Added.{contains_nothing, contains_one, contains_here, contains_there, contains_split, contains_map, map_contains, all_from}
use Rattle.cs_search.proofs.Resolution.{refutes_more, false_lower}
use Rattle.cs_search.proofs.Analyses.{not_contained, learned_at, resolved_on, reduced_skip, reduced_on, first_resolved, first_reduced}
use Rattle.cs_search.proofs.Counts.{both_true, second_false, filter_has, filter_only, count_one, count_pass, count_no, count_same, count_flip, count_le, count_none, count_some}

status_before : (k : ℕ) (s : Status) → is_false_before k s ≡ true → (p : ℕ) × (p < k) × (s ≡ False p)
status_before k Unassigned e = cc
status_before k (True p) e = cc
status_before k (False p) e = (p, (Decides-ltb p k).0 e, refl)

pub before_only : (values : List Value) (k : ℕ) (c : List Literal) (m : Literal) → Contains (before values k c) m → Contains c m × FalseBefore values k m
before_only values k c m h = let w = filter_only (λ l. is_false_before k (status_of values l)) c m h in (w.0, status_before k (status_of values m) w.1)

pub before_has : (values : List Value) (k : ℕ) (c : List Literal) (m : Literal) → Contains c m → FalseBefore values k m → Contains (before values k c) m
before_has values k c m h (p, lt, e) = filter_has (λ l. is_false_before k (status_of values l)) c m h (ap (is_false_before k) e ∙ (Decides-ltb p k).1 lt)

-- lists with the same literals
derived_same : (clauses : List Clause) (a b : List Literal) (hs : List ℕ) → ((m : Literal) → Contains a m → Contains b m) → IsDerived clauses a hs → IsDerived clauses b hs
derived_same clauses a b hs on d =
    let P : Literal → Type 0 = λ y. Contains (map negated b) y in
    refutes_more clauses hs (map negated a) (map negated b) (λ m h. let w = map_contains negated a m h in subst P w.2 (contains_map negated b w.0 (on w.0 w.1))) d

false_same_list : (values : List Value) (k : ℕ) (a b : List Literal) → ((m : Literal) → Contains b m → Contains a m) → IsFalse values k a → IsFalse values k b
false_same_list values k a b back f = all_from (FalseBefore values k) b (λ m h. All-contains (FalseBefore values k) a m f (back m h))

resolved_same : (clauses : List Clause) (values : List Value) (start k : ℕ) (a b : List Literal) (hints : List ℕ) → ((m : Literal) → Contains a m → Contains b m) → ((m : Literal) → Contains b m → Contains a m) → IsResolved clauses values start k a hints → IsResolved clauses values start k b hints
resolved_same clauses values start k a b hints on back r = record {
  false = false_same_list values k a b back r.false;
  derived = derived_same clauses a b _ on r.derived;
  later = λ all. r.later (false_same_list values start b a on all);
}

reduced_same : (clauses : List Clause) (values : List Value) (k : ℕ) (a b : List Literal) (hints : List ℕ) → ((m : Literal) → Contains a m → Contains b m) → ((m : Literal) → Contains b m → Contains a m) → IsReduced clauses values k a hints → IsReduced clauses values k b hints
reduced_same clauses values k a b hints on back r = record {
  false = false_same_list values k a b back r.false;
  derived = derived_same clauses a b _ on r.derived;
}

pub learned_same : (clauses : List Clause) (values : List Value) (start k : ℕ) (a b : List Literal) (hints : List ℕ) (forced : Literal) → ((m : Literal) → Contains a m → Contains b m) → ((m : Literal) → Contains b m → Contains a m) → IsLearned clauses values start k a hints forced → IsLearned clauses values start k b hints forced
learned_same clauses values start k a b hints forced on back r = record {
  false = false_same_list values k a b back r.false;
  derived = derived_same clauses a b _ on r.derived;
  contained = on forced r.contained;
  leaves = all_from (λ m. (m ≡ forced) ⊎ FalseBefore values start m) b (λ m h. All-contains (λ m. (m ≡ forced) ⊎ FalseBefore values start m) a m r.leaves (back m h));
  later = λ all. r.later (false_same_list values start b a on all);
}

le_true : (s p : ℕ) → s ≤ p → nat_le s p ≡ true
le_true s p h = grind (arith, nat_tests)

le_is : (s p : ℕ) → nat_le s p ≡ true → s ≤ p
le_is s p h = grind (arith, nat_tests)

not_le : (s p : ℕ) → nat_le s p ≡ false → p < s
not_le s p h = grind (arith, nat_tests)

-- marks
pub mark_some : (o : Option Bool) → is_mark o ≡ true → o ≡ Some true
mark_some None e = cc
mark_some (Some b) e = ap (λ x. Some x) e

met_some : (marks : List Bool) (o : Option Entry) → is_met marks o ≡ true → (e : Entry) × (o ≡ Some e) × (is_mark (slice_get marks e.literal.number) ≡ true)
met_some marks None e = cc
met_some marks (Some x) e = (x, refl, e)

pub late_yes : (trail : List Entry) (marks : List Bool) (start j : ℕ) (e : Entry) → start ≤ j → slice_get trail j ≡ Some e → is_mark (slice_get marks e.literal.number) ≡ true → is_late trail marks start j ≡ true
late_yes trail marks start j e le at on = ap₂ (λ a b. a && b) (le_true start j le) (ap (is_met marks) at ∙ on)

pub late_no : (trail : List Entry) (marks : List Bool) (start j : ℕ) (e : Entry) → slice_get trail j ≡ Some e → is_mark (slice_get marks e.literal.number) ≡ false → is_late trail marks start j ≡ false
late_no trail marks start j e at off = second_false (nat_le start j) (is_met marks (slice_get trail j)) (ap (is_met marks) at ∙ off)

late_is : (trail : List Entry) (marks : List Bool) (start j : ℕ) → is_late trail marks start j ≡ true → (start ≤ j) × ((e : Entry) × (slice_get trail j ≡ Some e) × (is_mark (slice_get marks e.literal.number) ≡ true))
late_is trail marks start j t =
    let w = both_true (nat_le start j) (is_met marks (slice_get trail j)) t in
    (le_is start j w.0, met_some marks (slice_get trail j) w.1)

late_early : (trail : List Entry) (marks : List Bool) (start j : ℕ) → j < start → is_late trail marks start j ≡ false
late_early trail marks start j lt = elim (cases_Bool (nat_le start j)) [
  | inl y ↦ absurd (let h : start ≤ j = le_is start j y in omega arith)
  | inr n ↦ ap (λ b. b && is_met marks (slice_get trail j)) n
]

-- two false literals of one atom
seen_sign : (a b : Bool) (o : Option Value) (p q : ℕ) → seen_or a o ≡ False p → seen_or b o ≡ False q → a ≡ b
seen_sign true true o p q e f = refl
seen_sign false false o p q e f = refl
seen_sign true false None p q e f = cc
seen_sign true false (Some Unset) p q e f = cc
seen_sign true false (Some (Positive n)) p q e f = cc
seen_sign true false (Some (Negative n)) p q e f = cc
seen_sign false true None p q e f = cc
seen_sign false true (Some Unset) p q e f = cc
seen_sign false true (Some (Positive n)) p q e f = cc
seen_sign false true (Some (Negative n)) p q e f = cc

same_false : (values : List Value) (l m : Literal) → m.number ≡ l.number → BecameFalse values m → BecameFalse values l → m ≡ l
same_false values l m a f g = literal_eq m l (seen_sign m.positive l.positive (slice_get values l.number) f.0 g.0 (ap (λ n. seen_or m.positive (slice_get values n)) (sym a) ∙ f.1) g.1) a

-- a literal has one place
pub one_place : (values : List Value) (l : Literal) (p q : ℕ) → status_of values l ≡ False p → status_of values l ≡ False q → p ≡ q
one_place values l p q e f = let x : False p ≡ False q = sym e ∙ f in cc

-- the entry that made it false
pub made_by : (clauses : List Clause) (values : List Value) (trail : List Entry) (m : Literal) (p : ℕ) → IsTrail clauses values trail → status_of values m ≡ False p → (e : Entry) × (slice_get trail p ≡ Some e) × (e.literal ≡ negated m)
made_by clauses values trail m p t is = t.placed (negated m) p (true_negated values m p is)

-- what an entry made false
pub away_false : (clauses : List Clause) (values : List Value) (trail : List Entry) (k : ℕ) (e : Entry) → IsTrail clauses values trail → slice_get trail k ≡ Some e → status_of values (negated e.literal) ≡ False k
away_false clauses values trail k e t at = false_negated values e.literal k (t.set k e at)

pub joined_new : (values : List Value) (old new : List Literal) (l : Literal) → BecameFalse values l → new ≡ old ++ l ∷ [] → IsJoined values old (l ∷ []) new
joined_new values old new l f e =
    let Q : List Literal → Type 0 = λ xs. IsJoined values old (l ∷ []) xs in
    subst Q (sym e) record {
      kept = λ m h. Contains-append_left old (l ∷ []) m h;
      added = λ m h y. (let P : Literal → Type 0 = λ x. Contains (old ++ l ∷ []) x in subst P (contains_one l m h) (Contains-push old l));
      only = λ m h. elim (Contains-push_cases old l m h) [
        | inl t ↦ inl t
        | inr s ↦ inr (let P : Literal → Type 0 = λ x. Contains (l ∷ []) x × BecameFalse values x in subst P s ((0, omega arith, refl), f))
      ];
    }

-- other entries' marks stay
late_other : (clauses : List Clause) (values : List Value) (trail : List Entry) (marks : List Bool) (start place j : ℕ) (l : Literal) → IsTrail clauses values trail → status_of values l ≡ False place → ¬ (j ≡ place) →
    is_late trail (set marks l.number true) start j ≡ is_late trail marks start j
late_other clauses values trail marks start place j l t is ne = ap (λ b. nat_le start j && b) (go (slice_get trail j) refl)
  where
    go : (o : Option Entry) → slice_get trail j ≡ o → is_met (set marks l.number true) o ≡ is_met marks o
    go None e = refl
    go (Some x) e = ap is_mark (get_set_other marks l.number x.literal.number true (λ a. ne (sym (place_by_atom_false values l x.literal place j (sym a) is (t.set j x e)))))

-- one atom more is marked
pub met_more : (clauses : List Clause) (made : Assignment) (start k place : ℕ) (l : Literal) (a b : Analysis) → IsTrail clauses made.values.items made.trail.items → IsMet made start k a →
    status_of made.values.items l ≡ False place → l.number < length a.marks.items → b.met.items ≡ a.met.items ++ l ∷ [] → b.marks.items ≡ set a.marks.items l.number true →
    b.late ≡ count_below (is_late made.trail.items (set a.marks.items l.number true) start) k → IsMet made start k b
met_more clauses made start k place l a b t h is lt em ek el =
    let P : Literal → Type 0 = λ x. Contains (a.met.items ++ l ∷ []) x in
    let marks = set a.marks.items l.number true in
    let B : List Literal → Type 0 = λ xs. (m : Literal) → Contains xs m → BecameFalse made.values.items m in
    let M : List Literal → Type 0 = λ xs. (m : Literal) → Contains xs m → slice_get marks m.number ≡ Some true in
    record {
      width = ap (λ x. length x) ek ∙ (length-set a.marks.items l.number true ∙ h.width);
      fell = subst B (sym em) (λ m x. elim (Contains-push_cases a.met.items l m x) [
        | inl old ↦ h.fell m old
        | inr s ↦ let F : Literal → Type 0 = λ y. BecameFalse made.values.items y in subst F s (place, is)
      ]);
      marked = λ m x. ap (λ y. slice_get y m.number) ek ∙ subst M (sym em) (λ m x. elim (same_atom m.number l.number) [
        | inl s ↦ ap (λ n. slice_get marks n) s ∙ get_set_same a.marks.items l.number true lt
        | inr ns ↦ get_set_other a.marks.items l.number m.number true ns ∙ elim (Contains-push_cases a.met.items l m x) [
          | inl old ↦ h.marked m old
          | inr s ↦ absurd (ns (ap (λ y. y.number) (sym s)))
        ]
      ]) m x;
      only = λ m f x. (let Q : List Literal → Type 0 = λ xs. Contains xs m in subst Q (sym em) (elim (same_atom m.number l.number) [
        | inl s ↦ subst P (sym (same_false made.values.items l m s f (place, is))) (Contains-push a.met.items l)
        | inr ns ↦ Contains-append_left a.met.items (l ∷ []) m (h.only m f (sym (get_set_other a.marks.items l.number m.number true ns) ∙ (sym (ap (λ y. slice_get y m.number) ek) ∙ x)))
      ]));
      counted = el ∙ ap (λ x. count_below (is_late made.trail.items x start) k) (sym ek);
    }

pub counted_early : (clauses : List Clause) (made : Assignment) (start k place : ℕ) (l : Literal) (a : Analysis) → IsTrail clauses made.values.items made.trail.items → IsMet made start k a →
    status_of made.values.items l ≡ False place → place < start → a.late ≡ count_below (is_late made.trail.items (set a.marks.items l.number true) start) k
counted_early clauses made start k place l a t h is lt =
    h.counted ∙ sym (count_same _ _ k (λ j j_lt. elim (same_atom j place) [
      | inl s ↦
          let early : j < start = let e : j ≡ place = s in omega arith in
          late_early made.trail.items (set a.marks.items l.number true) start j early ∙ sym (late_early made.trail.items a.marks.items start j early)
      | inr ns ↦ late_other clauses made.values.items made.trail.items a.marks.items start place j l t is ns
    ]))

pub counted_late : (clauses : List Clause) (made : Assignment) (start k place : ℕ) (l : Literal) (a : Analysis) → IsTrail clauses made.values.items made.trail.items → IsMet made start k a →
    status_of made.values.items l ≡ False place → place < k → start ≤ place → l.number < length a.marks.items → is_mark (slice_get a.marks.items l.number) ≡ false →
    count_below (is_late made.trail.items (set a.marks.items l.number true) start) k ≡ suc a.late
counted_late clauses made start k place l a t h is lt le within off =
    let e = made_by clauses made.values.items made.trail.items l place t is in
    let n : e.0.literal.number ≡ l.number = ap (λ x. x.number) e.2 in
    count_flip _ _ place k lt
    (late_no made.trail.items a.marks.items start place e.0 e.1 (ap (λ x. is_mark (slice_get a.marks.items x)) n ∙ off))
    (late_yes made.trail.items (set a.marks.items l.number true) start place e.0 le e.1 (ap (λ x. is_mark (slice_get (set a.marks.items l.number true) x)) n ∙ ap is_mark (get_set_same a.marks.items l.number true within)))
    (λ j ns. late_other clauses made.values.items made.trail.items a.marks.items start place j l t is ns) ∙ ap (λ x. suc x) (sym h.counted)

-- the walk passes an entry whose atom is not marked
pub met_passed : (clauses : List Clause) (made : Assignment) (start k : ℕ) (e : Entry) (a : Analysis) → slice_get made.trail.items k ≡ Some e → is_mark (slice_get a.marks.items e.literal.number) ≡ false → IsMet made start (k + 1) a → IsMet made start k a
met_passed clauses made start k e a at off h = record {
  width = h.width;
  fell = h.fell;
  marked = h.marked;
  only = h.only;
  counted = h.counted ∙ count_pass (is_late made.trail.items a.marks.items start) k (late_no made.trail.items a.marks.items start k e at off);
}

-- and one whose atom is
pub late_suc : (made : Assignment) (start k : ℕ) (e : Entry) (a : Analysis) → start ≤ k → slice_get made.trail.items k ≡ Some e → is_mark (slice_get a.marks.items e.literal.number) ≡ true → IsMet made start (k + 1) a → a.late ≡ suc (count_below (is_late made.trail.items a.marks.items start) k)
late_suc made start k e a le at on h = h.counted ∙ count_one (is_late made.trail.items a.marks.items start) k (late_yes made.trail.items a.marks.items start k e le at on)

unmarked : (clauses : List Clause) (made : Assignment) (start n k : ℕ) (e : Entry) (a : Analysis) → is_mark (slice_get a.marks.items e.literal.number) ≡ false → IsMet made start n a → ¬ (Contains (before made.values.items (k + 1) a.met.items) (negated e.literal))
unmarked clauses made start n k e a off h x =
    let on : is_mark (slice_get a.marks.items e.literal.number) ≡ true = ap is_mark (h.marked (negated e.literal) (before_only made.values.items (k + 1) a.met.items (negated e.literal) x).0) in
    let y : true ≡ false = sym on ∙ off in cc

before_on : (clauses : List Clause) (values : List Value) (trail : List Entry) (k : ℕ) (e : Entry) (c : List Literal) (m : Literal) → IsTrail clauses values trail → slice_get trail k ≡ Some e → ¬ (m ≡ negated e.literal) → Contains (before values (k + 1) c) m → Contains (before values k c) m
before_on clauses values trail k e c m t at ne x =
    let w = before_only values (k + 1) c m x in
    elim (false_lower clauses values trail k e m t at w.1) [
      | inl s ↦ absurd (ne s)
      | inr f ↦ before_has values k c m w.0 f
    ]

before_back : (values : List Value) (k : ℕ) (c : List Literal) (m : Literal) → Contains (before values k c) m → Contains (before values (k + 1) c) m
before_back values k c m x = let w = before_only values k c m x in before_has values (k + 1) c m w.0 (w.1.0, (let lt : w.1.0 < k = w.1.1 in omega arith), w.1.2)

pub walked_passed : (clauses : List Clause) (made : Assignment) (start k : ℕ) (e : Entry) (a : Analysis) → IsTrail clauses made.values.items made.trail.items → slice_get made.trail.items k ≡ Some e →
    is_mark (slice_get a.marks.items e.literal.number) ≡ false → IsWalked clauses made start (k + 1) a → IsWalked clauses made start k a
walked_passed clauses made start k e a t at off h =
    let v = made.values.items in
    let c = a.met.items in
    let nc = unmarked clauses made start (k + 1) k e a off h.met in
    record {
      met = met_passed clauses made start k e a at off h.met;
      resolved = resolved_same clauses v start k (before v (k + 1) c) (before v k c) a.hints.items
          (λ m x. before_on clauses v made.trail.items k e c m t at (λ s. nc (let P : Literal → Type 0 = λ y. Contains (before v (k + 1) c) y in subst P s x)) x)
          (before_back v k c) (not_contained clauses v made.trail.items start k e (before v (k + 1) c) a.hints.items t at h.resolved nc);
    }

pub unwound_passed : (clauses : List Clause) (made : Assignment) (k : ℕ) (e : Entry) (a : Analysis) → IsTrail clauses made.values.items made.trail.items → slice_get made.trail.items k ≡ Some e →
    is_mark (slice_get a.marks.items e.literal.number) ≡ false → IsUnwound clauses made (k + 1) a → IsUnwound clauses made k a
unwound_passed clauses made k e a t at off h =
    let v = made.values.items in
    let c = a.met.items in
    let nc = unmarked clauses made 0 (k + 1) k e a off h.met in
    record {
      met = met_passed clauses made 0 k e a at off h.met;
      reduced = reduced_same clauses v k (before v (k + 1) c) (before v k c) a.hints.items
          (λ m x. before_on clauses v made.trail.items k e c m t at (λ s. nc (let P : Literal → Type 0 = λ y. Contains (before v (k + 1) c) y in subst P s x)) x)
          (before_back v k c) (reduced_skip clauses v made.trail.items k e (before v (k + 1) c) a.hints.items t at h.reduced nc);
    }

-- what was met of the entry
pub away_met : (clauses : List Clause) (made : Assignment) (start n k : ℕ) (e : Entry) (a : Analysis) → IsTrail clauses made.values.items made.trail.items → slice_get made.trail.items k ≡ Some e →
    is_mark (slice_get a.marks.items e.literal.number) ≡ true → IsMet made start n a → Contains a.met.items (negated e.literal)
away_met clauses made start n k e a t at on h = h.only (negated e.literal) (k, away_false clauses made.values.items made.trail.items k e t at) (mark_some (slice_get a.marks.items e.literal.number) on)

pub walked_alone : (clauses : List Clause) (made : Assignment) (start k : ℕ) (e : Entry) (a : Analysis) → IsTrail clauses made.values.items made.trail.items → start ≤ k → slice_get made.trail.items k ≡ Some e →
    is_mark (slice_get a.marks.items e.literal.number) ≡ true → a.late ≡ 1 → IsWalked clauses made start (k + 1) a → IsForcing clauses made start (k + 1) a (negated e.literal)
walked_alone clauses made start k e a t le at on one h =
    let v = made.values.items in
    let c = before v (k + 1) a.met.items in
    let away = negated e.literal in
    let f = is_late made.trail.items a.marks.items start in
    let zero' : count_below f k ≡ 0 = let x = late_suc made start k e a le at on h.met in omega (arith, x, one) in
    let P : Literal → Type 0 = λ m. (m ≡ away) ⊎ FalseBefore v start m in
    learned_at clauses v start (k + 1) c a.hints.items away h.resolved
    (before_has v (k + 1) a.met.items away (away_met clauses made start (k + 1) k e a t at on h.met) (k, omega arith, away_false clauses v made.trail.items k e t at))
    (all_from P c (λ m x.
    let w = before_only v (k + 1) a.met.items m x in
    elim (false_lower clauses v made.trail.items k e m t at w.1) [
      | inl s ↦ inl s
      | inr b ↦ inr (b.0, early m b.0 b.1 b.2 w.0 zero', b.2)
    ]))
  where
    early : (m : Literal) (p : ℕ) → p < k → status_of made.values.items m ≡ False p → Contains a.met.items m → count_below (is_late made.trail.items a.marks.items start) k ≡ 0 → p < start
    early m p lt is x none = elim (cases_Bool (nat_le start p)) [
      | inl y ↦
          let w = made_by clauses made.values.items made.trail.items m p t is in
          let n : w.0.literal.number ≡ m.number = ap (λ z. z.number) w.2 in
          let yes = late_yes made.trail.items a.marks.items start p w.0 (le_is start p y) w.1 (ap (λ z. is_mark (slice_get a.marks.items z)) n ∙ ap is_mark (h.met.marked m x)) in
          let no = count_none (is_late made.trail.items a.marks.items start) k none p lt in
          let q : true ≡ false = sym yes ∙ no in cc
      | inr n ↦ not_le start p n
    ]

pub not_alone : (clauses : List Clause) (made : Assignment) (start k : ℕ) (e : Entry) (a : Analysis) → IsTrail clauses made.values.items made.trail.items → start ≤ k → slice_get made.trail.items k ≡ Some e →
    is_mark (slice_get a.marks.items e.literal.number) ≡ true → ¬ (a.late ≡ 1) → IsMet made start (k + 1) a → ¬ (LeavesOnly made.values.items start (before made.values.items (k + 1) a.met.items) (negated e.literal))
not_alone clauses made start k e a t le at on many h only =
    let v = made.values.items in
    let c = before v (k + 1) a.met.items in
    let f = is_late made.trail.items a.marks.items start in
    let s = late_suc made start k e a le at on h in
    let n : ¬ (a.late ≡ 1) = many in
    let j = count_some f k (omega (arith, s)) in
    let lt : j.0 < k = j.1 in
    let w = late_is made.trail.items a.marks.items start j.0 j.2 in
    let from : start ≤ j.0 = w.0 in
    let m = negated w.1.0.literal in
    let is = away_false clauses v made.trail.items j.0 w.1.0 t w.1.1 in
    let there = before_has v (k + 1) a.met.items m (away_met clauses made start (k + 1) j.0 w.1.0 a t w.1.1 w.1.2 h) (j.0, omega arith, is) in
    elim (All-contains (λ m. (m ≡ negated e.literal) ⊎ FalseBefore v start m) c m only there) [
      | inl same ↦
          let x : j.0 ≡ k = one_place v (negated e.literal) j.0 k (ap (λ z. status_of v z) (sym same) ∙ is) (away_false clauses v made.trail.items k e t at) in omega arith
      | inr b ↦ let x : b.0 ≡ j.0 = one_place v m b.0 j.0 b.2 is in let y : b.0 < start = b.1 in omega arith
    ]

-- the clauses before and after a resolution
before_without : (clauses : List Clause) (values : List Value) (trail : List Entry) (k : ℕ) (e : Entry) (c : List Literal) → IsTrail clauses values trail → slice_get trail k ≡ Some e → IsAdded [] (before values (k + 1) c) (negated e.literal) (before values k c)
before_without clauses values trail k e c t at = record {
  kept = λ m x. absurd (contains_nothing m x);
  added = λ m x ne. before_on clauses values trail k e c m t at ne x;
  only = λ m x. inr (
    before_back values k c m x,
    λ s.
        let w = (before_only values k c m x).1 in
        let y : w.0 ≡ k = one_place values (negated e.literal) w.0 k (ap (λ z. status_of values z) (sym s) ∙ w.2) (away_false clauses values trail k e t at) in
        let lt : w.0 < k = w.1 in omega arith,
  );
}

before_joined : (clauses : List Clause) (values : List Value) (trail : List Entry) (k r : ℕ) (e : Entry) (c : Clause) (old new : List Literal) → IsTrail clauses values trail → slice_get trail k ≡ Some e → e.reason ≡ Some r → slice_get clauses r ≡ Some c →
    IsJoined values old c.literals.items new → IsAdded (before values k old) c.literals.items e.literal (before values k new)
before_joined clauses values trail k r e c old new t at why here j =
    let w = t.reasoned k r e at why in
    let same : w.0 ≡ c = let x = sym w.1 ∙ here in cc in
    let P : Clause → Type 0 = λ x. LeavesOnly values k x.literals.items e.literal in
    let leaves = subst P same w.3 in
    record {
      kept = λ m x. let y = before_only values k old m x in before_has values k new m (j.kept m y.0) y.1;
      added = λ m x ne. elim (All-contains (λ m. (m ≡ e.literal) ⊎ FalseBefore values k m) c.literals.items m leaves x) [
        | inl s ↦ absurd (ne s)
        | inr f ↦ before_has values k new m (j.added m x (f.0, f.2)) f
      ];
      only = λ m x. (let y = before_only values k new m x in
          elim (j.only m y.0) [
            | inl o ↦ inl (before_has values k old m o y.1)
            | inr n ↦ inr (n.0, λ s. never_both values m k y.1.0 (ap (λ z. status_of values z) s ∙ t.set k e at) y.1.2)
          ]);
    }

pub walked_on : (clauses : List Clause) (made : Assignment) (start k r : ℕ) (e : Entry) (c : Clause) (a b : Analysis) → IsTrail clauses made.values.items made.trail.items → start ≤ k → slice_get made.trail.items k ≡ Some e →
    e.reason ≡ Some r → slice_get clauses r ≡ Some c → is_mark (slice_get a.marks.items e.literal.number) ≡ true → ¬ (a.late ≡ 1) → IsWalked clauses made start (k + 1) a →
    IsMet made start k b → IsJoined made.values.items a.met.items c.literals.items b.met.items → b.hints.items ≡ a.hints.items ++ r ∷ [] → IsWalked clauses made start k b
walked_on clauses made start k r e c a b t le at why here on many h m j eh =
    let v = made.values.items in
    record {
      met = m;
      resolved = resolved_on clauses v made.trail.items start k r e c (before v (k + 1) a.met.items) (before v k a.met.items) (before v k b.met.items) a.hints.items b.hints.items t at why here
          (before_without clauses v made.trail.items k e a.met.items t at) (before_joined clauses v made.trail.items k r e c a.met.items b.met.items t at why here j) eh h.resolved
          (not_alone clauses made start k e a t le at on many h.met);
    }

pub unwound_on : (clauses : List Clause) (made : Assignment) (k r : ℕ) (e : Entry) (c : Clause) (a b : Analysis) → IsTrail clauses made.values.items made.trail.items → slice_get made.trail.items k ≡ Some e →
    e.reason ≡ Some r → slice_get clauses r ≡ Some c → IsUnwound clauses made (k + 1) a →
    IsMet made 0 k b → IsJoined made.values.items a.met.items c.literals.items b.met.items → b.hints.items ≡ a.hints.items ++ r ∷ [] → IsUnwound clauses made k b
unwound_on clauses made k r e c a b t at why here h m j eh =
    let v = made.values.items in
    record {
      met = m;
      reduced = reduced_on clauses v made.trail.items k r e c (before v (k + 1) a.met.items) (before v k a.met.items) (before v k b.met.items) a.hints.items b.hints.items t at why here
          (before_without clauses v made.trail.items k e a.met.items t at) (before_joined clauses v made.trail.items k r e c a.met.items b.met.items t at why here j) eh h.reduced;
    }

-- a conflict
conflict_on : (values : List Value) (n : ℕ) (c met : List Literal) → IsFalse values n c → IsJoined values [] c met → (m : Literal) → Contains c m → Contains (before values n met) m
conflict_on values n c met f j m x = let w = All-contains (FalseBefore values n) c m f x in before_has values n met m (j.added m x (w.0, w.2)) w

conflict_back : (values : List Value) (n : ℕ) (c met : List Literal) → IsJoined values [] c met → (m : Literal) → Contains (before values n met) m → Contains c m
conflict_back values n c met j m x = elim (j.only m (before_only values n met m x).0) [
  | inl none ↦ absurd (contains_nothing m none)
  | inr y ↦ y.0
]

conflict_false : (clauses : List Clause) (values : List Value) (n i : ℕ) (c : Clause) → slice_get clauses i ≡ Some c → IsConflict clauses values n i → IsFalse values n c.literals.items
conflict_false clauses values n i c at w =
    let same : w.0 ≡ c = let x = sym w.1 ∙ at in cc in
    let F : Clause → Type 0 = λ x. IsFalse values n x.literals.items in
    subst F same w.2

pub walked_first : (clauses : List Clause) (made : Assignment) (start i : ℕ) (c : Clause) (a : Analysis) → slice_get clauses i ≡ Some c → IsConflict clauses made.values.items (length made.trail.items) i → AreClosed clauses made.values.items start (length clauses) →
    IsMet made start (length made.trail.items) a → IsJoined made.values.items [] c.literals.items a.met.items → a.hints.items ≡ i ∷ [] → IsWalked clauses made start (length made.trail.items) a
walked_first clauses made start i c a at w closed m j eh =
    let v = made.values.items in
    let n = length made.trail.items in
    record {
      met = m;
      resolved = resolved_same clauses v start n c.literals.items (before v n a.met.items) a.hints.items (conflict_on v n c.literals.items a.met.items (conflict_false clauses v n i c at w) j) (conflict_back v n c.literals.items a.met.items j)
          (first_resolved clauses v start n i c c.literals.items a.hints.items at w closed refl eh);
    }

pub unwound_first : (clauses : List Clause) (made : Assignment) (i : ℕ) (c : Clause) (a : Analysis) → slice_get clauses i ≡ Some c → IsConflict clauses made.values.items (length made.trail.items) i →
    IsMet made 0 (length made.trail.items) a → IsJoined made.values.items [] c.literals.items a.met.items → a.hints.items ≡ i ∷ [] → IsUnwound clauses made (length made.trail.items) a
unwound_first clauses made i c a at w m j eh =
    let v = made.values.items in
    let n = length made.trail.items in
    record {
      met = m;
      reduced = reduced_same clauses v n c.literals.items (before v n a.met.items) a.hints.items (conflict_on v n c.literals.items a.met.items (conflict_false clauses v n i c at w) j) (conflict_back v n c.literals.items a.met.items j)
          (first_reduced clauses v n i c c.literals.items a.hints.items at w refl eh);
    }

-- an atom of what is false has a mark's place
pub mark_within : (made : Assignment) (start k : ℕ) (l : Literal) (p : ℕ) (a : Analysis) → IsMet made start k a → status_of made.values.items l ≡ False p → l.number < length a.marks.items
mark_within made start k l p a h is = let lt = atom_within made.values.items (negated l) p (true_negated made.values.items l p is) in let w = h.width in omega (arith, lt, w)

-- what is counted fits
pub late_fits : (made : Assignment) (start k n : ℕ) (marks : List Bool) → count_below (is_late made.trail.items marks start) k ≡ suc n → n < k
late_fits made start k n marks e = let h = count_le (is_late made.trail.items marks start) k in omega (arith, h, e)

pub joined_more : (values : List Value) (old mid new list : List Literal) (k : ℕ) (d : Literal) → k < length list → IsJoined values old (take k list) mid → IsJoined values mid (get_or list k d ∷ []) new → IsJoined values old (take (k + 1) list) new
joined_more values old mid new list k d lt a b =
    let Q : List Literal → Type 0 = λ xs. IsJoined values old xs new in
    subst Q (sym (take_more list k d lt)) record {
      kept = λ m h. b.kept m (a.kept m h);
      added = λ m h f. elim (Contains-push_cases (take k list) (get_or list k d) m h) [
        | inl t ↦ b.kept m (a.added m t f)
        | inr s ↦ b.added m (let P : Literal → Type 0 = λ x. Contains (get_or list k d ∷ []) x in subst P s (contains_here (get_or list k d) [])) f
      ];
      only = λ m h. elim (b.only m h) [
        | inl t ↦ elim (a.only m t) [ inl o ↦ inl o | inr f ↦ inr (Contains-append_left (take k list) (get_or list k d ∷ []) m f.0, f.1) ]
        | inr f ↦ inr ((let P : Literal → Type 0 = λ x. Contains (take k list ++ get_or list k d ∷ []) x in subst P (contains_one (get_or list k d) m f.0) (Contains-push (take k list) (get_or list k d))), f.1)
      ];
    }

-- nothing is met yet
pub met_none : (made : Assignment) (start k : ℕ) (a : Analysis) (n : ℕ) → n ≡ length made.values.items → a.met.items ≡ [] → a.marks.items ≡ replicate n false → a.late ≡ 0 → IsMet made start k a
met_none made start k a n en em ek el =
    let C : Literal → List Literal → Type 0 = λ m xs. Contains xs m in
    record {
      width = ap (λ x. length x) ek ∙ (length-replicate n false ∙ en);
      fell = λ m h. absurd (contains_nothing m (let P : List Literal → Type 0 = C m in subst P em h));
      marked = λ m h. absurd (contains_nothing m (let P : List Literal → Type 0 = C m in subst P em h));
      only = λ m f x. absurd (unset n m.number (sym (ap (λ y. slice_get y m.number) ek) ∙ x));
      counted = el ∙ sym (nothing k);
    }
  where
    unset : (n i : ℕ) → slice_get (replicate n false) i ≡ Some true → ⊥
    unset zero i e = cc
    unset (suc n) zero e = cc
    unset (suc n) (suc i) e = unset n i e

    blank : (n : ℕ) (o : Option Entry) → is_met (replicate n false) o ≡ false
    blank n None = refl
    blank n (Some x) = elim (cases_Bool (is_mark (slice_get (replicate n false) x.literal.number))) [
      | inl y ↦ absurd (unset n x.literal.number (mark_some (slice_get (replicate n false) x.literal.number) y))
      | inr off ↦ off
    ]

    nothing : (k : ℕ) → count_below (is_late made.trail.items a.marks.items start) k ≡ 0
    nothing zero = refl
    nothing (suc k) = count_no (is_late made.trail.items a.marks.items start) k (second_false (nat_le start k) (is_met a.marks.items (slice_get made.trail.items k)) (ap (λ x. is_met x (slice_get made.trail.items k)) ek ∙ blank n (slice_get made.trail.items k))) ∙ nothing k

-- the clause that is learned
pub learned_clause : (clauses : List Clause) (made : Assignment) (start k : ℕ) (a : Analysis) (forced : Literal) (literals : List Literal) → start ≤ k → IsForcing clauses made start k a forced →
    literals ≡ forced ∷ before made.values.items start a.met.items → IsLearned clauses made.values.items start k literals a.hints.items forced
learned_clause clauses made start k a forced literals le h e =
    let v = made.values.items in
    let c = before v k a.met.items in
    let d = forced ∷ before v start a.met.items in
    let Q : List Literal → Type 0 = λ xs. IsLearned clauses v start k xs a.hints.items forced in
    let P : Literal → Type 0 = λ m. Contains d m in
    let R : Literal → Type 0 = λ m. Contains c m in
    subst Q (sym e) (learned_same clauses v start k c d a.hints.items forced
    (λ m x. elim (All-contains (λ m. (m ≡ forced) ⊎ FalseBefore v start m) c m h.leaves x) [
      | inl s ↦ subst P (sym s) (contains_here forced (before v start a.met.items))
      | inr f ↦ contains_there forced (before v start a.met.items) m (before_has v start a.met.items m (before_only v k a.met.items m x).0 f)
    ])
    (λ m x. elim (contains_split forced (before v start a.met.items) m x) [
      | inl s ↦ subst R s h.contained
      | inr y ↦ let w = before_only v start a.met.items m y in before_has v k a.met.items m w.0 (w.1.0, (let lt : w.1.0 < start = w.1.1 in omega arith), w.1.2)
    ]) h)

-- all that a clause has is false before the entry that it forces
pub reason_false : (clauses : List Clause) (values : List Value) (trail : List Entry) (k r : ℕ) (e : Entry) (c : Clause) → IsTrail clauses values trail → slice_get trail k ≡ Some e → e.reason ≡ Some r → slice_get clauses r ≡ Some c →
    (l : List Literal) → l ≡ c.literals.items → All (λ m. BecameFalse values m → FalseBefore values k m) l
reason_false clauses values trail k r e c t at why here l el =
    let w = t.reasoned k r e at why in
    let same : w.0 ≡ c = let x = sym w.1 ∙ here in cc in
    let P : Clause → Type 0 = λ x. LeavesOnly values k x.literals.items e.literal in
    let leaves = subst P same w.3 in
    let Q : List Literal → Type 0 = λ x. All (λ m. BecameFalse values m → FalseBefore values k m) x in
    subst Q (sym el) (All-weaker (λ m. (m ≡ e.literal) ⊎ FalseBefore values k m) (λ m. BecameFalse values m → FalseBefore values k m)
    (λ m x f. elim x [
      | inl s ↦ absurd (never_both values m k f.0 (ap (λ z. status_of values z) s ∙ t.set k e at) f.1)
      | inr b ↦ b
    ]) c.literals.items leaves)

pub conflict_fell : (clauses : List Clause) (values : List Value) (n k i : ℕ) (c : Clause) → slice_get clauses i ≡ Some c → IsConflict clauses values n i → k ≡ n →
    (l : List Literal) → l ≡ c.literals.items → All (λ m. BecameFalse values m → FalseBefore values k m) l
conflict_fell clauses values n k i c at w ek l el =
    let Q : List Literal → Type 0 = λ x. All (λ m. BecameFalse values m → FalseBefore values k m) x in
    let K : ℕ → Type 0 = λ x. IsFalse values x c.literals.items in
    subst Q (sym el) (All-weaker (FalseBefore values k) (λ m. BecameFalse values m → FalseBefore values k m) (λ m x f. x) c.literals.items (subst K (sym ek) (conflict_false clauses values n i c at w)))

pub joined_over : (values : List Value) (old from from' new : List Literal) → from' ≡ from → IsJoined values old from' new → IsJoined values old from new
joined_over values old from from' new e j = let P : List Literal → Type 0 = λ x. IsJoined values old x new in subst P e j

pub walked_over : (clauses : List Clause) (made : Assignment) (start k n : ℕ) (a : Analysis) → k ≡ n → IsWalked clauses made start n a → IsWalked clauses made start k a
walked_over clauses made start k n a e h = let P : ℕ → Type 0 = λ x. IsWalked clauses made start x a in subst P (sym e) h

pub unwound_over : (clauses : List Clause) (made : Assignment) (k n : ℕ) (a : Analysis) → k ≡ n → IsUnwound clauses made n a → IsUnwound clauses made k a
unwound_over clauses made k n a e h = let P : ℕ → Type 0 = λ x. IsUnwound clauses made x a in subst P (sym e) h

pub met_over : (made : Assignment) (start k n : ℕ) (a : Analysis) → n ≡ k → IsMet made start n a → IsMet made start k a
met_over made start k n a e h = let P : ℕ → Type 0 = λ x. IsMet made start x a in subst P e h

pub mark_at : (clauses : List Clause) (made : Assignment) (start n k : ℕ) (e : Entry) (a : Analysis) → IsTrail clauses made.values.items made.trail.items → slice_get made.trail.items k ≡ Some e → IsMet made start n a → e.literal.number < length a.marks.items
mark_at clauses made start n k e a t at h = mark_within made start n (negated e.literal) k a h (away_false clauses made.values.items made.trail.items k e t at)

pub met_hints : (made : Assignment) (start k : ℕ) (a : Analysis) (hints : Vec ℕ Global) → IsMet made start k a → IsMet made start k record { met = a.met; marks = a.marks; hints = hints; late = a.late }
met_hints made start k a hints h = record { width = h.width; fell = h.fell; marked = h.marked; only = h.only; counted = h.counted }
