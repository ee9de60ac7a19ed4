-- Measures and groups: what typing asks holds exactly where the walk over them passes.
use Rattle.std.proofs.Common.{◌≡◌, ◌∙◌, refl, sym, ap, subst, ℕ, zero, suc, ◌+◌, ◌<◌, ◌⊎◌, inl, inr, Bool, true, false, ◌&&◌, ◌||◌, not, length, List, [], ◌∷◌, Option, Some, None, arith, if◌then◌else◌, Ok}
use Rattle.std.specs.Prelude.{⊤}
use Rattle.std.proofs.lemmas.Bool.{false≢true, false_from_ne_true, or_left, or_right}
use Rattle.vx_ast.specs.declared.Place.{Place}
use Rattle.vx_ast.specs.Written.{Expr, Function, Kind, IsField, IsPredicate, IsFunction, IsMethod, Member, Program, measure_of}
use Rattle.vx_expressions.specs.Settings.{Table}
use Rattle.vx_expressions.specs.Faults.{Checked, ◌>>=◌, NotHere, MixedMeasures, unless}
use Rattle.vx_typing.specs.Members.{table_of}
use Rattle.vx_typing.specs.Measures.{is_instance, AreMeasured, KeepApart}
use Rattle.vx_typing.specs.Uses.{Use, Each, uses_before, uses_of_body}
use Rattle.vx_typing.specs.Groups.{kind_at, Reaches, InGroup, IsOwn, in_group, is_own}
use Rattle.vx_typing.specs.GroupFaults.{some_below, has_measure, measures_by, some_measures_by, own_measure, group_measured, measured, measures, none_own, apart, all_apart}
use Rattle.vx_expressions.proofs.Passed.{ok_is, not_ok, bound, tested, and_parts, and_true}
use Rattle.vx_statements.proofs.AgreesStatements.{from_not}
use Rattle.vx_typing.proofs.Reachable.{less_or_last, one_of, on, reached_below, grouped, in_its_group, own, is_its_own}

pub not_some : {X R : Type 0} {x : X} → (let o : Option X = None in o) ≡ Some x → R
not_some e = cc

-- ---- a walk over members by their numbers
module _ (step : ℕ → Member → Checked ⊤) (walk : ℕ → List Member → Checked ⊤) (none : (a : ℕ) → walk a [] ≡ Ok tt)
    (one : (a : ℕ) (m : Member) (ms : List Member) → walk a (m ∷ ms) ≡ (step a m >>= λ u. walk (suc a) ms)) where
  abbrev Passes : ℕ → List Member → Type 0
  Passes a ms = (k : ℕ) (d : Kind) → kind_at ms k ≡ Some d → (m : Member) × (m.kind ≡ d) × (step (a + k) m ≡ Ok tt)

  each_of : (a : ℕ) (m : Member) (ms : List Member) → step a m ≡ Ok tt → Passes (suc a) ms → Passes a (m ∷ ms)
  each_of a m ms h rest zero d e = let z : a ≡ a + 0 = omega arith in (m, some_is e, subst (λ n. step n m ≡ Ok tt) z h)
    where
      some_is : {X : Type 0} {x y : X} → (let o : Option X = Some x in o) ≡ Some y → x ≡ y
      some_is e = cc
  each_of a m ms h rest (suc k) d e =
      let r = rest k d e in
      let z : suc a + k ≡ a + suc k = omega arith in
      (r.0, r.1, subst (λ n. step n r.0 ≡ Ok tt) z r.2)

  pub each_to : (a : ℕ) (ms : List Member) (u : ⊤) → walk a ms ≡ Ok u → Passes a ms
  each_to a [] u h = λ k d e. not_some e
  each_to a (m ∷ ms) u h = let y = bound (step a m) _ u (sym (one a m ms) ∙ h) in each_of a m ms y.1 (each_to (suc a) ms u y.2)

  later : (a : ℕ) (m : Member) (ms : List Member) → ((k : ℕ) (d : Member) → kind_at (m ∷ ms) k ≡ Some d.kind → step (a + k) d ≡ Ok tt) →
      (k : ℕ) (d : Member) → kind_at ms k ≡ Some d.kind → step (suc a + k) d ≡ Ok tt
  later a m ms h k d e = let z : a + suc k ≡ suc a + k = omega arith in subst (λ n. step n d ≡ Ok tt) z (h (suc k) d e)

  pub each_from : (a : ℕ) (ms : List Member) → ((k : ℕ) (m : Member) → kind_at ms k ≡ Some m.kind → step (a + k) m ≡ Ok tt) → walk a ms ≡ Ok tt
  each_from a [] h = none a
  each_from a (m ∷ ms) h =
      let z : a + 0 ≡ a = omega arith in
      one a m ms ∙ ap (λ r. r >>= λ u. walk (suc a) ms) (subst (λ n. step n m ≡ Ok tt) z (h 0 m refl)) ∙ each_from (suc a) ms (later a m ms h)

-- ---- numbers that pass
passed_at : (n : ℕ) (t : ℕ → Bool) (k : ℕ) → (k < n → t k ≡ true → some_below n t ≡ true) → (k < n) ⊎ (k ≡ n) → t k ≡ true → some_below (suc n) t ≡ true
passed_at n t k rest (inl l) h = or_right (t n) (some_below n t) (rest l h)
passed_at n t k rest (inr e) h = or_left (t n) (some_below n t) (subst (λ k. t k ≡ true) e h)

pub some_of : (n : ℕ) (t : ℕ → Bool) (k : ℕ) → k < n → t k ≡ true → some_below n t ≡ true
some_of zero t k l h = absurd (omega (arith, l))
some_of (suc n) t k l h = passed_at n t k (λ l h. some_of n t k l h) (less_or_last k n l) h

pub some_is : (n : ℕ) (t : ℕ → Bool) → some_below n t ≡ true → (k : ℕ) × (t k ≡ true)
some_is zero t h = absurd (false≢true h)
some_is (suc n) t h = one_of (t n) (some_below n t) (λ e. (n, e)) (λ e. some_is n t e) h

-- ---- measures
differ : (x y : Bool) → ((if not x then y else not y) ≡ true → ⊥) → x ≡ y
differ true true h = refl
differ true false h = absurd (h refl)
differ false true h = absurd (h refl)
differ false false h = refl

the_same : (x y : Bool) → x ≡ y → (if not x then y else not y) ≡ true → ⊥
the_same true true e h = false≢true h
the_same true false e h = false≢true (sym e)
the_same false true e h = false≢true e
the_same false false e h = false≢true h

-- a measure of this kind
abbrev Measures : Table → Bool → Option Kind → Type 0
Measures table b o = (g : Function) × (e : Expr) × (o ≡ Some (IsFunction g)) × (measure_of g.clauses ≡ Some e) × ((if b then is_instance table e else not (is_instance table e)) ≡ true)

function_measures : (table : Table) (b : Bool) (g : Function) (o : Option Expr) → measure_of g.clauses ≡ o → has_measure table b o ≡ true → Measures table b (Some (IsFunction g))
function_measures table b g None e h = absurd (false≢true h)
function_measures table b g (Some m) e h = (g, m, refl, e, h)

measures_is : (table : Table) (b : Bool) (o : Option Kind) → measures_by table b o ≡ true → Measures table b o
measures_is table b (Some (IsFunction g)) h = function_measures table b g (measure_of g.clauses) refl h
measures_is table b (Some (IsPredicate d)) h = absurd (false≢true h)
measures_is table b (Some (IsMethod d)) h = absurd (false≢true h)
measures_is table b (Some (IsField d)) h = absurd (false≢true h)
measures_is table b None h = absurd (false≢true h)

own_to : (table : Table) (at : Place) (o : Option Expr) (b : Bool) → own_measure table at o ≡ Ok b → (e : Expr) × (o ≡ Some e) × (is_instance table e ≡ b)
own_to table at None b h = not_ok h
own_to table at (Some e) b h = (e, refl, ok_is h)

module _ (p : Program) where
  -- of a function that reaches itself: its measure, and none of its group measures otherwise
  abbrev GroupIs : ℕ → Option Expr → Type 0
  GroupIs a o = (e : Expr) × (o ≡ Some e) × (some_measures_by p a (not (is_instance (table_of p) e)) ≡ false)

  group_to : (a : ℕ) (at : Place) (o : Option Expr) (u : ⊤) → group_measured p a at o ≡ Ok u → GroupIs a o
  group_to a at o u h =
      let y = bound (own_measure (table_of p) at o) _ u h in
      let m = own_to (table_of p) at o y.0 y.1 in
      (m.0, m.1, ap (λ b. some_measures_by p a (not b)) m.2 ∙ from_not (some_measures_by p a (not y.0)) (tested (not (some_measures_by p a (not y.0))) _ u y.2))

  group_from : (a : ℕ) (at : Place) (o : Option Expr) → GroupIs a o → group_measured p a at o ≡ Ok tt
  group_from a at o h =
      ap (group_measured p a at) h.1 ∙ ap (λ b. unless (not b) (MixedMeasures at)) h.2

  measured_to : (a : ℕ) (at : Place) (f : Function) → measured p a at (IsFunction f) ≡ Ok tt → Reaches p a a → GroupIs a (measure_of f.clauses)
  measured_to a at f h r =
      group_to a at (measure_of f.clauses) tt (sym (ap (λ b. if b then group_measured p a at (measure_of f.clauses) else Ok tt) (grouped p (r, r))) ∙ h)

  in_or_not : (a : ℕ) (at : Place) (o : Option Expr) (b : Bool) → (b ≡ true → GroupIs a o) → (if b then group_measured p a at o else Ok tt) ≡ Ok tt
  in_or_not a at o true h = group_from a at o (h refl)
  in_or_not a at o false h = refl

  measured_from : (a : ℕ) (at : Place) (f : Function) → (Reaches p a a → GroupIs a (measure_of f.clauses)) → measured p a at (IsFunction f) ≡ Ok tt
  measured_from a at f h = in_or_not a at (measure_of f.clauses) (in_group p a a) (λ e. h (in_its_group p a a e).0)

  -- none measures otherwise exactly where all measure alike
  abbrev AlikeIn : ℕ → Expr → Type 0
  AlikeIn a d = (b : ℕ) (g : Function) (e : Expr) → kind_at p b ≡ Some (IsFunction g) → InGroup p a b → measure_of g.clauses ≡ Some e → is_instance (table_of p) d ≡ is_instance (table_of p) e

  alike_to : (a : ℕ) (d : Expr) → some_measures_by p a (not (is_instance (table_of p) d)) ≡ false → AlikeIn a d
  alike_to a d h b g e is group m =
      let x = is_instance (table_of p) d in
      differ x (is_instance (table_of p) e) (λ other.
      false≢true (sym h ∙ some_of (length p) (λ b. in_group p a b && measures_by (table_of p) (not x) (kind_at p b)) b (reached_below p group.0)
      (and_true (in_group p a b) (measures_by (table_of p) (not x) (kind_at p b)) (grouped p group)
      (ap (measures_by (table_of p) (not x)) is ∙ ap (has_measure (table_of p) (not x)) m ∙ other))))

  no_other : (a : ℕ) (d : Expr) → AlikeIn a d → some_measures_by p a (not (is_instance (table_of p) d)) ≡ true → ⊥
  no_other a d h s =
      let x = is_instance (table_of p) d in
      let k = some_is (length p) (λ b. in_group p a b && measures_by (table_of p) (not x) (kind_at p b)) s in
      let q = and_parts (in_group p a k.0) (measures_by (table_of p) (not x) (kind_at p k.0)) k.1 in
      let m = measures_is (table_of p) (not x) (kind_at p k.0) q.1 in
      the_same x (is_instance (table_of p) m.1) (h k.0 m.0 m.1 m.2 (in_its_group p a k.0 q.0) m.3) m.4

  alike_from : (a : ℕ) (d : Expr) → AlikeIn a d → some_measures_by p a (not (is_instance (table_of p) d)) ≡ false
  alike_from a d h = false_from_ne_true (some_measures_by p a (not (is_instance (table_of p) d))) (λ s. no_other a d h s)

  abbrev measured_member : ℕ → Member → Checked ⊤
  measured_member a m = measured p a m.place m.kind

  -- each function of a group that reaches itself
  groups_are : measures p 0 p ≡ Ok tt → (a : ℕ) (f : Function) → kind_at p a ≡ Some (IsFunction f) → Reaches p a a → GroupIs a (measure_of f.clauses)
  groups_are h a f is r =
      let m = each_to measured_member (measures p) (λ a. refl) (λ a m ms. refl) 0 p tt h a (IsFunction f) is in
      let z : 0 + a ≡ a = omega arith in
      let e : measured p a m.0.place (IsFunction f) ≡ Ok tt = ap (λ k. measured p a m.0.place k) (sym m.1) ∙ subst (λ n. measured p n m.0.place m.0.kind ≡ Ok tt) z m.2 in
      measured_to a m.0.place f e r

  one_measure : {o : Option Expr} {d e : Expr} → o ≡ Some d → o ≡ Some e → d ≡ e
  one_measure h k = cc

  pub measures_to : measures p 0 p ≡ Ok tt → AreMeasured p
  measures_to h = record {
    measured = λ a f is r. let g = groups_are h a f is r in (g.0, g.1);
    alike = λ a b f g d e is_f is_g group m_f m_g.
        let own = groups_are h a f is_f (on p group.0 group.1) in
        let same : own.0 ≡ d = one_measure own.1 m_f in
        alike_to a d (subst (λ e. some_measures_by p a (not (is_instance (table_of p) e)) ≡ false) same own.2) b g e is_g group m_g;
  }

  measured_kind : AreMeasured p → (a : ℕ) (at : Place) (k : Kind) → kind_at p a ≡ Some k → measured p a at k ≡ Ok tt
  measured_kind h a at (IsField t) is = refl
  measured_kind h a at (IsPredicate d) is = refl
  measured_kind h a at (IsMethod m) is = refl
  measured_kind h a at (IsFunction f) is =
      measured_from a at f (λ r. let m = h.measured a f is r in (m.0, m.1, alike_from a m.0 (λ b g e is_g group m_g. h.alike a b f g m.0 e is is_g group m.1 m_g)))

  pub measures_from : AreMeasured p → measures p 0 p ≡ Ok tt
  measures_from h =
      each_from measured_member (measures p) (λ a. refl) (λ a m ms. refl) 0 p
      (λ k m is. let z : k ≡ 0 + k = omega arith in subst (λ n. measured p n m.place m.kind ≡ Ok tt) z (measured_kind h k m.place m.kind is))

  -- ---- what leads back to its own group
  abbrev Foreign : ℕ → Bool → Use → Type 0
  Foreign a all u = (all || u.unfolds) ≡ true → IsOwn p a u.name → ⊥

  foreign_to : (a : ℕ) (all : Bool) (u : Use) → ((all || u.unfolds) && is_own p a u.name) ≡ false → Foreign a all u
  foreign_to a all u h c o = false≢true (sym h ∙ and_true (all || u.unfolds) (is_own p a u.name) c (own p a u.name o))

  foreign_from : (a : ℕ) (all : Bool) (u : Use) → Foreign a all u → ((all || u.unfolds) && is_own p a u.name) ≡ false
  foreign_from a all u h =
      false_from_ne_true ((all || u.unfolds) && is_own p a u.name) (λ e. let q = and_parts (all || u.unfolds) (is_own p a u.name) e in h q.0 (is_its_own p a u.name q.1))

  none_to : (a : ℕ) (all : Bool) (us : List Use) (v : ⊤) → none_own p a all us ≡ Ok v → Each (Foreign a all) us
  none_to a all [] v h = tt
  none_to a all (u ∷ us) v h =
      let y = bound (unless (not ((all || u.unfolds) && is_own p a u.name)) (NotHere u.place)) _ v h in
      (foreign_to a all u (from_not ((all || u.unfolds) && is_own p a u.name) (tested (not ((all || u.unfolds) && is_own p a u.name)) _ y.0 y.1)), none_to a all us v y.2)

  none_from : (a : ℕ) (all : Bool) (us : List Use) → Each (Foreign a all) us → none_own p a all us ≡ Ok tt
  none_from a all [] h = refl
  none_from a all (u ∷ us) h =
      ap (λ b. unless (not b) (NotHere u.place) >>= λ v. none_own p a all us) (foreign_from a all u h.0) ∙ none_from a all us h.1

  abbrev Own : ℕ → Use → Type 0
  Own a u = IsOwn p a u.name → ⊥

  every_to : (a : ℕ) (us : List Use) → Each (Foreign a true) us → Each (Own a) us
  every_to a [] h = tt
  every_to a (u ∷ us) h = (h.0 refl, every_to a us h.1)

  every_from : (a : ℕ) (us : List Use) → Each (Own a) us → Each (Foreign a true) us
  every_from a [] h = tt
  every_from a (u ∷ us) h = (λ e. h.0, every_from a us h.1)

  abbrev apart_member : ℕ → Member → Checked ⊤
  apart_member a m = apart p a m.kind

  apart_at : all_apart p 0 p ≡ Ok tt → (a : ℕ) (k : Kind) → kind_at p a ≡ Some k → apart p a k ≡ Ok tt
  apart_at h a k is =
      let m = each_to apart_member (all_apart p) (λ a. refl) (λ a m ms. refl) 0 p tt h a k is in
      let z : 0 + a ≡ a = omega arith in
      ap (apart p a) (sym m.1) ∙ subst (λ n. apart p n m.0.kind ≡ Ok tt) z m.2

  pub apart_to : all_apart p 0 p ≡ Ok tt → KeepApart p
  apart_to h = record {
    preconditions = λ a f is. every_to a (uses_before f.clauses []) (none_to a true (uses_before f.clauses []) tt (apart_at h a (IsFunction f) is));
    bodies = λ a d is. none_to a false (uses_of_body d.body []) tt (apart_at h a (IsPredicate d) is);
  }

  apart_kind : KeepApart p → (a : ℕ) (k : Kind) → kind_at p a ≡ Some k → apart p a k ≡ Ok tt
  apart_kind h a (IsField t) is = refl
  apart_kind h a (IsMethod m) is = refl
  apart_kind h a (IsFunction f) is = none_from a true (uses_before f.clauses []) (every_from a (uses_before f.clauses []) (h.preconditions a f is))
  apart_kind h a (IsPredicate d) is = none_from a false (uses_of_body d.body []) (h.bodies a d is)

  pub apart_from : KeepApart p → all_apart p 0 p ≡ Ok tt
  apart_from h =
      each_from apart_member (all_apart p) (λ a. refl) (λ a m ms. refl) 0 p
      (λ k m is. let z : k ≡ 0 + k = omega arith in subst (λ n. apart p n m.kind ≡ Ok tt) z (apart_kind h k m.kind is))
