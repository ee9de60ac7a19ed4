-- A choice that is fresh, and the names of an alias.
use Rattle.std.proofs.Common.{◌≡◌, inl, inr, ℕ, zero, suc, ◌+◌, ◌<◌, ◌≤◌, Bool, true, false, List, [], ◌∷◌, ◌++◌, map, length, Option, Some, None, refl, sym, ◌∙◌, ap, subst, arith}
use Rattle.std.specs.Prelude.{slice_get}
use Rattle.std.specs.Option.{is_some}
use Rattle.std.proofs.lemmas.List.{length-map}
use Rattle.std.proofs.lemmas.Option.{same_Some}
use Rattle.vx_terms.specs.Sorts.{Sort, BoolSort, And, Or, Implies, Equal, Less, LessEqual, Add, Subtract, Multiply, Div, Mod, same_sort}
use Rattle.vx_terms.specs.Terms.{Term, Truth, Number, Part, Constant, Apply, Not, Binary, Ite, AllOf, SomeOf, sort_of}
use Rattle.vx_terms.specs.Formed.{Formed, truth, ites}
use Rattle.vx_terms.proofs.Same.{sort_is}
use Rattle.vx_terms.proofs.Values.{sort_of_formed, formed_le}
use Rattle.cs_certificate.specs.Terms.{parts, equal, HasSort}
use Rattle.cs_certificate.specs.Certificate.{Stack, At, Contains, IsEquality, AreLive}
use Rattle.cs_numbers.specs.Laws.{IsSorted, IsTable}
use Rattle.cs_numbers.specs.Numbering.{place}
use Rattle.cs_numbers.proofs.Numbered.{Distinct, in_left, in_right}
use Rattle.cs_numbers.proofs.Tables.{Ready, ready}
use Rattle.cs_writable.specs.Writable.{IsWritableTerm}
use Rattle.cs_derivation.specs.Reached.{Reached, Stands, IsNamed}
use Rattle.cs_ground.specs.Ground.{AreOfOneSort}
use Rattle.cs_ground.specs.Steps.{Begins, HasEquality, IsNaming, NamesMore, NamesPairs, NamesAlias, NamesTurned, NamesAliases, NamesAll, choice_of, sides, IsFresh, IsBehind, IsAlias, AllIn}
use Rattle.cs_ground.specs.declared.aliases.Alias.{Alias}
use Rattle.cs_ground.proofs.Lists.{one_more, at_within, mapped_at, begins_at, begins_contains, front_at, place_at, no_place}
use Rattle.cs_ground.proofs.Parts.{in_subterms}
use Rattle.cs_ground.proofs.Paired.{equality_sorted, sides_sorted}
use Rattle.cs_ground.proofs.Naming.{NamesOne, names_one, names_none, names_on, still_named, keeps_equality, pairs_of_all, FirstOf}

-- ---- a fresh choice
pub fresh_is : (terms : List Term) (t o c : Term) (n : Option ℕ) → c ≡ choice_of t o → n ≡ place terms c → is_some n ≡ false → Contains terms o × (sort_of o ≡ sort_of t) → IsFresh terms t c
fresh_is terms t o c None is e f (known, sorts) = record { other = o; is = is; sorts = sorts; known = known; fresh = no_place terms c (sym e) }
fresh_is terms t o c (Some k) is e f h = cc

-- else it is the next other one
pub known_choice : (terms : List Term) (t o c : Term) (n : Option ℕ) → c ≡ choice_of t o → n ≡ place terms c → is_some n ≡ true → Contains terms c × (sort_of c ≡ sort_of t)
known_choice terms t o c None is e f = cc
known_choice terms t o c (Some k) is e f = ((k, place_at terms c k (sym e)), ap sort_of is)

choice_sorted : (t o : Term) → IsSorted t → IsSorted o → sort_of o ≡ sort_of t → (a : Sort) × HasSort (choice_of t o) a × HasSort t a
choice_sorted t o (a, (m, f)) (b, (n, g)) e =
    let one : b ≡ a = sym (sort_of_formed g) ∙ e ∙ sort_of_formed f in
    let left : m ≤ m + n = omega arith in
    let right : n ≤ m + n = omega arith in
    (a, (m + n, ites (truth true) (formed_le left f) (subst (Formed (m + n) o) one (formed_le right g))), (m, f))

-- ---- the names of an alias
module _ (stack : Stack) (r q p : Reached) (b a c : Term) (h : IsNaming stack r) (here : Contains r.terms (equal b a)) (new : IsFresh r.terms b c) where
  table : Ready r.terms
  table = ready r.terms h.stands.table

  left : Contains r.terms b
  left = table.closed (equal b a) b here (0, refl)

  right : Contains r.terms a
  right = table.closed (equal b a) a here (1, refl)

  two : AreOfOneSort b a
  two = sides_sorted b a (table.sorts (equal b a) here)

  chosen : (s : Sort) × HasSort c s × HasSort b s
  chosen = subst (λ t. (s : Sort) × HasSort t s × HasSort b s) (sym new.is) (choice_sorted b new.other (table.sorts b left) (table.sorts new.other new.known) new.sorts)

  with_left : AreOfOneSort c b
  with_left = chosen

  with_right : AreOfOneSort c a
  with_right =
      let is : two.0 ≡ chosen.0 = sym (sort_of_formed (two.1).1) ∙ sort_of_formed (chosen.2).1 in
      (chosen.0, chosen.1, subst (HasSort a) is two.2)

  chosen_live : AreLive stack c
  chosen_live = subst (AreLive stack) (sym new.is) (tt, h.live b left, h.live new.other new.known)

  chosen_writable : IsWritableTerm c
  chosen_writable = subst IsWritableTerm (sym new.is) (tt, h.writable b left, h.writable new.other new.known)

  pub same_sorted : IsSorted (equal c b)
  same_sorted = (BoolSort, equality_sorted c b with_left)

  pub same_live : AreLive stack (equal c b)
  same_live = (chosen_live, h.live b left)

  pub same_writable : IsWritableTerm (equal c b)
  same_writable = (chosen_writable, h.writable b left)

  pub joined_sorted : IsSorted (equal (equal b a) (equal c a))
  joined_sorted = (BoolSort, equality_sorted (equal b a) (equal c a) (BoolSort, equality_sorted b a two, equality_sorted c a with_right))

  pub joined_live : AreLive stack (equal (equal b a) (equal c a))
  joined_live = ((h.live b left, h.live a right), (chosen_live, h.live a right))

  pub joined_writable : IsWritableTerm (equal (equal b a) (equal c a))
  joined_writable = ((h.writable b left, h.writable a right), (chosen_writable, h.writable a right))

  -- what the terms are then
  data Known : Term → Type 0 where
    before : {t : Term} → Contains r.terms t → Known t
    is_choice : {t : Term} → t ≡ c → Known t
    is_truth : {t : Term} → t ≡ Truth true → Known t
    is_same : {t : Term} → t ≡ equal c b → Known t
    is_turned : {t : Term} → t ≡ equal c a → Known t
    is_joined : {t : Term} → t ≡ equal (equal b a) (equal c a) → Known t

  two_parts : (x y u : Term) → Known x → Known y → Contains (x ∷ y ∷ []) u → Known u
  two_parts x y u f g (zero, e) = subst Known (same_Some _ _ e) f
  two_parts x y u f g (suc zero, e) = subst Known (same_Some _ _ e) g
  two_parts x y u f g (suc (suc n), e) = cc

  three_parts : (x y z u : Term) → Known x → Known y → Known z → Contains (x ∷ y ∷ z ∷ []) u → Known u
  three_parts x y z u f g i (zero, e) = subst Known (same_Some _ _ e) f
  three_parts x y z u f g i (suc zero, e) = subst Known (same_Some _ _ e) g
  three_parts x y z u f g i (suc (suc zero), e) = subst Known (same_Some _ _ e) i
  three_parts x y z u f g i (suc (suc (suc n)), e) = cc

  down : (t u : Term) → Known t → Contains (parts t) u → Known u
  down t u (before k) e = before (table.closed t u k e)
  down t u (is_choice is) e = three_parts (Truth true) b new.other u (is_truth refl) (before left) (before new.known) (subst (λ x. Contains (parts x) u) (is ∙ new.is) e)
  down t u (is_truth is) e = let k : Contains [] u = subst (λ x. Contains (parts x) u) is e in let f = k.1 in cc
  down t u (is_same is) e = two_parts c b u (is_choice refl) (before left) (subst (λ x. Contains (parts x) u) is e)
  down t u (is_turned is) e = two_parts c a u (is_choice refl) (before right) (subst (λ x. Contains (parts x) u) is e)
  down t u (is_joined is) e = two_parts (equal b a) (equal c a) u (before here) (is_turned refl) (subst (λ x. Contains (parts x) u) is e)

  -- the other order isn't among them
  differs : a ≡ c → ⊥
  differs e = new.fresh (subst (Contains r.terms) e right)

  alone : Known (equal a c) → ⊥
  alone (before k) = new.fresh (table.closed (equal a c) c k (1, refl))
  alone (is_choice e) = let f : equal a c ≡ choice_of b new.other = e ∙ new.is in cc
  alone (is_truth e) = cc
  alone (is_same e) = differs cc
  alone (is_turned e) = differs cc
  alone (is_joined e) = let f : c ≡ equal c a = cc in let g : choice_of b new.other ≡ equal c a = sym new.is ∙ f in cc

  module _ (one : NamesOne stack r q (equal c b)) (more : NamesOne stack q p (equal (equal b a) (equal c a))) where
    known : (u : Term) → Contains p.terms u → Known u
    known u k = elim (more.either u k) [
      | inl x ↦ elim (one.either u x) [ inl y ↦ before y | inr y ↦ in_subterms Known down (equal c b) u (is_same refl) y ]
      | inr x ↦ in_subterms Known down (equal (equal b a) (equal c a)) u (is_joined refl) x
    ]

    pub grown : NamesMore stack r p
    grown = names_on stack r q p one.more more.more

    pub alias_named : (x : Alias) → place p.terms (equal b a) ≡ Some x.whole → place p.terms b ≡ Some x.left → place p.terms a ≡ Some x.right → place p.terms c ≡ Some x.choice → place p.terms (equal c a) ≡ Some x.equality → NamesAlias stack r p b a x
    alias_named x f g i j k = record {
      more = grown;
      alias = subst (λ t. place p.terms t ≡ Some x.choice → IsAlias p.terms b a x) (sym new.is) (λ m. record {
        other = new.other;
        whole = place_at p.terms (equal b a) x.whole f;
        left = place_at p.terms b x.left g;
        right = place_at p.terms a x.right i;
        choice = place_at p.terms (choice_of b new.other) x.choice m;
        equality = subst (λ t. At p.terms x.equality (equal t a)) new.is turned_at;
        first = λ m f lt at is. first m f lt at (subst (λ t. IsEquality t a f) (sym new.is) is);
        same = subst (λ t. HasEquality p.terms t b) new.is (equal c b, inl refl, still_named stack q p (equal c b) more.more one.here);
        joined = subst (λ t. HasEquality p.terms (equal b a) (equal t a)) new.is (equal (equal b a) (equal c a), inl refl, more.here);
      }) j;
    }
      where
        turned_at : At p.terms x.equality (equal c a)
        turned_at = place_at p.terms (equal c a) x.equality k

        distinct : Distinct p.terms
        distinct = (ready p.terms (grown.naming).stands.table).one

        first : (m : ℕ) (f : Term) → m < x.equality → At p.terms m f → IsEquality c a f → ⊥
        first m f lt at (inl is) = (let e : m ≡ x.equality = distinct.one m x.equality (equal c a) (subst (At p.terms m) is at) turned_at in omega arith)
        first m f lt at (inr is) = alone (known (equal a c) (m, subst (At p.terms m) is at))

-- in code
pub alias_made : (stack : Stack) (r q p : Reached) (w b a c s t j : Term) (m n : ℕ) (x : Alias) → IsNaming stack r → Contains r.terms w → w ≡ equal b a → (Contains r.terms b → IsFresh r.terms b c) → s ≡ equal c b → t ≡ equal c a → j ≡ equal w t →
    (Stands stack r → IsSorted s → AreLive stack s → IsWritableTerm s → IsNamed stack s r q m) → (Stands stack q → IsSorted j → AreLive stack j → IsWritableTerm j → IsNamed stack j q p n) →
    place p.terms w ≡ Some x.whole → place p.terms b ≡ Some x.left → place p.terms a ≡ Some x.right → place p.terms c ≡ Some x.choice → place p.terms t ≡ Some x.equality → NamesAlias stack r p b a x
alias_made stack r q p w b a c s t j m n x h here is new e f g first second at1 at2 at3 at4 at5 =
    let whole : Contains r.terms (equal b a) = subst (Contains r.terms) is here in
    let fresh = new ((ready r.terms h.stands.table).closed (equal b a) b whole (0, refl)) in
    let one = names_one stack r q (equal c b) s m e h (same_sorted stack r q p b a c h whole fresh) (same_live stack r q p b a c h whole fresh) (same_writable stack r q p b a c h whole fresh) first in
    let join : j ≡ equal (equal b a) (equal c a) = g ∙ ap (λ v. equal v t) is ∙ ap (equal (equal b a)) f in
    let more = names_one stack q p (equal (equal b a) (equal c a)) j n join (one.more).naming (joined_sorted stack r q p b a c h whole fresh) (joined_live stack r q p b a c h whole fresh) (joined_writable stack r q p b a c h whole fresh) second in
    alias_named stack r q p b a c h whole fresh one more x (subst (λ v. place p.terms v ≡ Some x.whole) is at1) at2 at3 at4 (subst (λ v. place p.terms v ≡ Some x.equality) f at5)

-- ---- an alias stays
alias_later : (xs ys : List Term) (b a : Term) (x : Alias) → Begins xs ys → IsAlias xs b a x → IsAlias ys b a x
alias_later xs ys b a x more h = record {
  other = h.other;
  whole = begins_at xs ys x.whole _ more h.whole;
  left = begins_at xs ys x.left _ more h.left;
  right = begins_at xs ys x.right _ more h.right;
  choice = begins_at xs ys x.choice _ more h.choice;
  equality = begins_at xs ys x.equality _ more h.equality;
  first = λ m f lt at is. h.first m f lt (front_at xs ys m f more (let long = at_within xs x.equality _ h.equality in omega arith) at) is;
  same = later h.same;
  joined = later h.joined;
}
  where
    later : {u v : Term} → HasEquality xs u v → HasEquality ys u v
    later (e, is, k) = (e, is, begins_contains xs ys e more k)

behind_later : (xs ys : List Term) (b a : Term) → Begins xs ys → IsBehind xs b a → IsBehind ys b a
behind_later xs ys b a more h = record {
  before = h.before;
  number = h.number;
  less = h.less;
  first = begins_at xs ys h.before _ more h.first;
  here = begins_at xs ys h.number _ more h.here;
  sorted = h.sorted;
}

-- ---- one alias more
pub none_for_others : (stack : Stack) (r : Reached) (aliases : List Alias) (t : Term) → IsNaming stack r → sides t ≡ None → NamesTurned stack r r aliases aliases t
none_for_others stack r aliases t h e = record {
  more = names_none stack r h;
  kept = λ x k. k;
  alias = λ b a is k. (let f : Some (b, a) ≡ None = ap sides (sym is) ∙ e in cc);
}

pub sides_are : (t b a : Term) → Some (b, a) ≡ sides t → t ≡ equal b a
sides_are (Binary Equal x y) b a e = let p : (b, a) ≡ (x, y) = same_Some _ _ e in sym (ap (λ (s : Term × Term). equal s.0 s.1) p)
sides_are (Binary And x y) b a e = cc
sides_are (Binary Or x y) b a e = cc
sides_are (Binary Implies x y) b a e = cc
sides_are (Binary Less x y) b a e = cc
sides_are (Binary LessEqual x y) b a e = cc
sides_are (Binary Add x y) b a e = cc
sides_are (Binary Subtract x y) b a e = cc
sides_are (Binary Multiply x y) b a e = cc
sides_are (Binary Div x y) b a e = cc
sides_are (Binary Mod x y) b a e = cc
sides_are (Truth x) b a e = cc
sides_are (Number x) b a e = cc
sides_are (Part x) b a e = cc
sides_are (Constant f x) b a e = cc
sides_are (Apply f x ts) b a e = cc
sides_are (Not x) b a e = cc
sides_are (Ite x y z) b a e = cc
sides_are (AllOf ts) b a e = cc
sides_are (SomeOf ts) b a e = cc

bool_sorted : (t : Term) → IsSorted t → same_sort (sort_of t) BoolSort ≡ true → HasSort t BoolSort
bool_sorted t (a, (n, f)) e = let is : a ≡ BoolSort = sym (sort_of_formed f) ∙ sort_is (sort_of t) BoolSort e in (n, subst (Formed n t) is f)

one_place : (terms : List Term) (t : Term) (m n : ℕ) → IsTable terms → place terms t ≡ Some m → At terms n t → m ≡ n
one_place terms t m n table e at = ((ready terms table).one).one m n t (place_at terms t m e) at

module _ (terms : List Term) (b a : Term) (table : IsTable terms) (h : IsBehind terms b a) where
  pub not_bool : same_sort (sort_of b) BoolSort ≡ true → ⊥
  not_bool e =
      let r = ready terms table in
      h.sorted (bool_sorted b (r.sorts b (r.closed (equal b a) b (h.number, h.here) (0, refl))) e)

  pub other_placed : (o : Term) → o ≡ equal a b → None ≡ place terms o → ⊥
  other_placed o is e = no_place terms o (sym e) (h.before, subst (At terms h.before) (sym is) h.first)

  pub other_before : (o w : Term) (m n : ℕ) → o ≡ equal a b → w ≡ equal b a → Some m ≡ place terms o → place terms w ≡ Some n → m < n
  other_before o w m n is are e f =
      let first : m ≡ h.before = one_place terms o m h.before table (sym e) (subst (At terms h.before) (sym is) h.first) in
      let second : n ≡ h.number = one_place terms w n h.number table f (subst (At terms h.number) (sym are) h.here) in
      let lt = h.less in
      omega arith

pub none_needed : (stack : Stack) (r : Reached) (aliases : List Alias) (t b a : Term) (needs : Bool) → IsNaming stack r → t ≡ equal b a → (IsTable r.terms → IsBehind r.terms b a → needs ≡ true) → needs ≡ false → NamesTurned stack r r aliases aliases t
none_needed stack r aliases t b a needs h is f g = record { more = names_none stack r h; kept = λ x k. k; alias = alias }
  where
    alias : (c d : Term) → t ≡ equal c d → IsBehind r.terms c d → (x : Alias) × Contains aliases x × IsAlias r.terms c d x
    alias c d k l =
        let one : b ≡ c = cc in
        let two : a ≡ d = cc in
        let there : IsBehind r.terms b a = subst (λ u. IsBehind r.terms u a) (sym one) (subst (IsBehind r.terms c) (sym two) l) in
        let both : true ≡ false = sym (f h.stands.table there) ∙ g in
        cc

pub alias_more : (stack : Stack) (r q : Reached) (aliases : List Alias) (x : Alias) (t b a : Term) → t ≡ equal b a → NamesAlias stack r q b a x → NamesTurned stack r q aliases (aliases ++ x ∷ []) t
alias_more stack r q aliases x t b a is h = record {
  more = h.more;
  kept = λ y k. in_left aliases (x ∷ []) y k;
  alias = λ c d k l. (
      let one : b ≡ c = cc in
      let two : a ≡ d = cc in
      (x, in_right aliases (x ∷ []) x (0, refl), subst (λ u. IsAlias q.terms u d x) one (subst (λ u. IsAlias q.terms b u x) two h.alias))
      );
}

-- ---- of some terms
pub no_aliases : {X : Type 0} (view : X → Term) (xs : List X) (stack : Stack) (r : Reached) → IsNaming stack r → NamesAliases stack r r [] (FirstOf view xs 0)
no_aliases view xs stack r h = record { more = names_none stack r h; every = λ b a w k. (let lt : w.0 < 0 = w.1 in absurd (omega arith)) }

pub aliases_next : {X : Type 0} (view : X → Term) (xs : List X) (i : ℕ) (t : X) (stack : Stack) (r q p : Reached) (old new : List Alias) → At xs i t → AllIn r.terms (map view xs) → NamesAliases stack r q old (FirstOf view xs i) →
    (IsNaming stack q → Contains q.terms (view t) → NamesTurned stack q p old new (view t)) → NamesAliases stack r p new (FirstOf view xs (i + 1))
aliases_next view xs i t stack r q p old new at k g f = record { more = names_on stack r q p g.more h.more; every = every }
  where
    h : NamesTurned stack q p old new (view t)
    h = f (g.more).naming (still_named stack r q (view t) g.more (k (view t) (i, mapped_at view xs i t at)))

    every : (b a : Term) → FirstOf view xs (i + 1) (equal b a) → IsBehind r.terms b a → (x : Alias) × Contains new x × IsAlias p.terms b a x
    every b a w l = elim (one_more w.0 i w.1) [
      | inl lt ↦ (let x = g.every b a (w.0, lt, w.2) l in (x.0, h.kept x.0 x.1, alias_later q.terms p.terms b a x.0 (h.more).begins x.2))
      | inr e ↦ h.alias b a (same_Some _ _ (sym (mapped_at view xs i t at) ∙ ap (λ n. slice_get (map view xs) n) (sym e) ∙ w.2)) (behind_later r.terms q.terms b a (g.more).begins l)
    ]

pub aliases_all : {X : Type 0} (view : X → Term) (xs : List X) (count : ℕ) (stack : Stack) (r q : Reached) (aliases : List Alias) → length xs ≤ count → NamesAliases stack r q aliases (FirstOf view xs count) → NamesAliases stack r q aliases (Contains (map view xs))
aliases_all view xs count stack r q aliases le g = record {
  more = g.more;
  every = λ b a w l. g.every b a (w.0, (let lt : w.0 < length xs = subst (λ n. w.0 < n) (length-map xs view) (at_within (map view xs) w.0 (equal b a) w.1) in omega arith), w.1) l;
}

-- ---- equalities and aliases
pub names_all : (stack : Stack) (r q p : Reached) (aliases : List Alias) → NamesPairs stack r q r.terms → NamesAliases stack q p aliases (Contains r.terms) → NamesAll stack r p aliases
names_all stack r q p aliases g h = record {
  more = names_on stack r q p g.more h.more;
  equalities = λ x y k l two d. keeps_equality stack q p x y h.more (pairs_of_all stack r q g x y k l two d);
  every = λ b a l. h.every b a (l.number, l.here) (behind_later r.terms q.terms b a (g.more).begins l);
}
