-- What names stand for in a written program, they stand for when it is settled.
use Rattle.std.proofs.Common.{◌≡◌, ◌∙◌, ◌++◌, ◌&&◌, ◌||◌, Bool, true, false, List, [], ◌∷◌, Option, Some, map, refl, sym, ap, ap₂, subst, eq-eqb}
use Rattle.std.specs.Prelude.{⊤, nat_eq, if◌then◌else◌}
use Rattle.std.proofs.lemmas.Bool.{and_parts, and_from, and_right, or_left, or_right, eqb-true, false_from_ne_true, both_ways, or_from}
use Rattle.vx_ast.specs.declared.ValueType.{ValueType}
use Rattle.vx_ast.specs.Mentions.{is_among}
use Rattle.vx_ast.specs.Written as written
use Rattle.vx_ast.specs.Written.{Name}
use Rattle.vx_ast.specs.Resolve as resolve
use Rattle.vx_ast.specs.Resolve.{Names, has_member, is_predicate, is_method, is_field, fields_of, names_of}
use Rattle.vx_ast.specs.Syntax.{same_name, Declaration, Kind, Program, Predicate, Function, Method, member_named, field_in, predicate_in, function_in, method_in, field_named, predicate_named, function_named, method_named}
use Rattle.vx_expressions.specs.Scopes.{named}
use Rattle.vx_expressions.specs.Settings as settings
use Rattle.vx_expressions.specs.Settings.{Signature}
use Rattle.vx_statements.specs.Statements.{AreNew}
use Rattle.vx_typing.specs.Members.{types_in, signature_of, table_of}
use Rattle.vx_types.specs.Typing.{AreFields, AreDistinct}

-- ---- names
pub same_refl : (x : Name) → same_name x x ≡ true
same_refl [] = refl
same_refl (a ∷ x) = and_from _ _ (eq-eqb a a refl) (same_refl x)

pub same_is : (x y : Name) → same_name x y ≡ true → x ≡ y
same_is [] [] h = refl
same_is [] (b ∷ y) h = (cc)
same_is (a ∷ x) [] h = (cc)
same_is (a ∷ x) (b ∷ y) h = let k = and_parts (nat_eq a b) (same_name x y) h in ap₂ (λ c z. c ∷ z) (eqb-true a b k.0) (same_is x y k.1)

pub differs_back : (x y : Name) → same_name x y ≡ false → same_name y x ≡ false
differs_back x y h = false_from_ne_true (same_name y x) (λ e. both_ways (same_name x y) h (subst (λ z. same_name z y ≡ true) (same_is y x e) (same_refl y)))

among_more : (x : Name) (before more : List Name) → is_among x before ≡ true → is_among x (before ++ more) ≡ true
among_more x [] more h = (cc)
among_more x (y ∷ ys) more h = go (same_name x y) h (among_more x ys more)
  where
    go : (b : Bool) → (b || is_among x ys) ≡ true → (is_among x ys ≡ true → is_among x (ys ++ more) ≡ true) → (b || is_among x (ys ++ more)) ≡ true
    go true h k = refl
    go false h k = k h

pub among_last : (x : Name) (before : List Name) → is_among x (before ++ x ∷ []) ≡ true
among_last x [] = or_left _ _ (same_refl x)
among_last x (y ∷ ys) = or_right (same_name x y) _ (among_last x ys)

-- no member has this name
abbrev pub Absent : Name → List written.Member → Type 0
Absent x [] = ⊤
Absent x (m ∷ ms) = (same_name x m.name.name ≡ false) × Absent x ms

pub absent : (x : Name) (before : List Name) (ms : List written.Member) → is_among x before ≡ true → AreNew before (map (λ m. m.name) ms) → Absent x ms
absent x before [] h new = tt
absent x before (m ∷ ms) h new = (
  false_from_ne_true (same_name x m.name.name) (λ e. both_ways (is_among m.name.name before) new.0 (subst (λ y. is_among y before ≡ true) (same_is x m.name.name e) h)),
  absent x (before ++ m.name.name ∷ []) ms (among_more x before (m.name.name ∷ []) h) new.1,
)

absent_has : (k : written.Kind → Bool) (x : Name) (ms : List written.Member) → Absent x ms → has_member k ms x ≡ false
absent_has k x [] h = refl
absent_has k x (m ∷ ms) h = ap (λ b. (k m.kind && b) || has_member k ms x) h.0 ∙ ap (λ b. b || has_member k ms x) (and_right (k m.kind) false refl) ∙ absent_has k x ms h.1

-- ---- the member that a name stands for
record Found (names : Names) (x : Name) (s : Signature) (ms : List written.Member) : Type 0 where
  member : written.Member
  stands : signature_of member.kind ≡ s
  is : member_named (map (resolve.member names) ms) x ≡ Some (resolve.kind names member.place member.kind)
  has : (k : written.Kind → Bool) → has_member k ms x ≡ k member.kind

-- the first member, where it has the name, and else the others
first_named : (names : Names) (m : written.Member) (ms : List written.Member) (x : Name) → same_name x m.name.name ≡ true
    → member_named (map (resolve.member names) (m ∷ ms)) x ≡ Some (resolve.kind names m.place m.kind)
first_named names m ms x e = ap (λ (b : Bool). elim b as (λ c. Option Kind) [ true ↦ Some (resolve.kind names m.place m.kind) | false ↦ member_named (map (resolve.member names) ms) x ]) e

others_named : (names : Names) (m : written.Member) (ms : List written.Member) (x : Name) → same_name x m.name.name ≡ false
    → member_named (map (resolve.member names) (m ∷ ms)) x ≡ member_named (map (resolve.member names) ms) x
others_named names m ms x e = ap (λ (b : Bool). elim b as (λ c. Option Kind) [ true ↦ Some (resolve.kind names m.place m.kind) | false ↦ member_named (map (resolve.member names) ms) x ]) e

only : (b : Bool) → ((b && true) || false) ≡ b
only true = refl
only false = refl

at_head : (names : Names) (m : written.Member) (ms : List written.Member) (x : Name) (s : Signature) → same_name x m.name.name ≡ true → signature_of m.kind ≡ s → Absent x ms → Found names x s (m ∷ ms)
at_head names m ms x s e k away = record {
  member = m;
  stands = k;
  is = first_named names m ms x e;
  has = λ k. ap (λ b. (k m.kind && b) || has_member k ms x) e ∙ ap (λ b. (k m.kind && true) || b) (absent_has k x ms away) ∙ only (k m.kind);
}

further : (names : Names) (m : written.Member) (ms : List written.Member) (x : Name) (s : Signature) → same_name x m.name.name ≡ false → Found names x s ms → Found names x s (m ∷ ms)
further names m ms x s e f = record {
  member = f.member;
  stands = f.stands;
  is = others_named names m ms x e ∙ f.is;
  has = λ k. ap (λ b. (k m.kind && b) || has_member k ms x) e ∙ ap (λ b. b || has_member k ms x) (and_right (k m.kind) false refl) ∙ f.has k;
}

pick : (names : Names) (m : written.Member) (ms : List written.Member) (x : Name) (s : Signature) (b : Bool) → same_name x m.name.name ≡ b
    → (if b then Some (signature_of m.kind) else named (table_of ms) x) ≡ Some s → Absent m.name.name ms → (named (table_of ms) x ≡ Some s → Found names x s ms) → Found names x s (m ∷ ms)
pick names m ms x s true e h away rest = at_head names m ms x s e (cc) (subst (λ y. Absent y ms) (sym (same_is x m.name.name e)) away)
pick names m ms x s false e h away rest = further names m ms x s e (rest h)

found : (names : Names) (before : List Name) (ms : List written.Member) → AreNew before (map (λ m. m.name) ms) → (x : Name) (s : Signature) → named (table_of ms) x ≡ Some s → Found names x s ms
found names before [] new x s h = (cc)
found names before (m ∷ ms) new x s h =
    pick names m ms x s (same_name x m.name.name) refl h (absent m.name.name (before ++ m.name.name ∷ []) ms (among_last m.name.name before) new.1)
    (λ k. found names (before ++ m.name.name ∷ []) ms new.1 x s k)

-- ---- what is known of the names of a program
abbrev pub types : List Declaration → List ValueType
types ds = map (λ d. d.of) ds

pub record Knows (member : Name → Option Signature) (names : Names) (p : Program) : Type 0 where
  pub field : (f : Name) (t : ValueType) → member f ≡ Some (settings.IsField t) → field_named p f ≡ Some t
  pub predicate : (i : Name) (ts : List ValueType) (b : Bool) → member i ≡ Some (settings.IsPredicate ts b) → (d : Predicate) × (predicate_named p i ≡ Some d) × (types d.parameters ≡ ts)
  pub function : (f : Name) (ts : List ValueType) (t : ValueType) → member f ≡ Some (settings.IsFunction ts t) → (g : Function) × (function_named p f ≡ Some g) × (types g.parameters ≡ ts) × (g.of ≡ t)
  pub method : (m : Name) (ts rs : List ValueType) → member m ≡ Some (settings.IsMethod ts rs) → (c : Method) × (method_named p m ≡ Some c) × (types c.parameters ≡ ts) × (types c.returns ≡ rs)
  pub is_predicate : (i : Name) (ts : List ValueType) (b : Bool) → member i ≡ Some (settings.IsPredicate ts b) → names.is_predicate i ≡ true
  pub is_method : (m : Name) (ts rs : List ValueType) → member m ≡ Some (settings.IsMethod ts rs) → names.is_method m ≡ true
  pub no_predicate : (f : Name) (ts : List ValueType) (t : ValueType) → member f ≡ Some (settings.IsFunction ts t) → names.is_predicate f ≡ false
  pub no_method : (f : Name) (ts : List ValueType) (t : ValueType) → member f ≡ Some (settings.IsFunction ts t) → names.is_method f ≡ false
  pub fields : AreFields p names.fields
  pub distinct : AreDistinct names.fields

types_settled : (names : Names) (ds : List written.Declaration) → types (map (resolve.declaration names) ds) ≡ types_in ds
types_settled names [] = refl
types_settled names (d ∷ ds) = ap (λ ts. d.of ∷ ts) (types_settled names ds)

the_field : (names : Names) (at : _) (k : written.Kind) (t : ValueType) → signature_of k ≡ settings.IsField t → field_in (Some (resolve.kind names at k)) ≡ Some t
the_field names at (written.IsField u) t h = (cc)
the_field names at (written.IsPredicate d) t h = (cc)
the_field names at (written.IsFunction g) t h = (cc)
the_field names at (written.IsMethod m) t h = (cc)

the_predicate : (names : Names) (at : _) (k : written.Kind) (ts : List ValueType) (b : Bool) → signature_of k ≡ settings.IsPredicate ts b
    → ((d : Predicate) × (predicate_in (Some (resolve.kind names at k)) ≡ Some d) × (types d.parameters ≡ ts)) × (resolve.is_predicate k ≡ true)
the_predicate names at (written.IsField u) ts b h = (cc)
the_predicate names at (written.IsPredicate d) ts b h = let same : types_in d.parameters ≡ ts = cc in ((_, refl, types_settled names d.parameters ∙ same), refl)
the_predicate names at (written.IsFunction g) ts b h = (cc)
the_predicate names at (written.IsMethod m) ts b h = (cc)

the_function : (names : Names) (at : _) (k : written.Kind) (ts : List ValueType) (t : ValueType) → signature_of k ≡ settings.IsFunction ts t
    → ((g : Function) × (function_in (Some (resolve.kind names at k)) ≡ Some g) × (types g.parameters ≡ ts) × (g.of ≡ t)) × (resolve.is_predicate k ≡ false) × (resolve.is_method k ≡ false)
the_function names at (written.IsField u) ts t h = (cc)
the_function names at (written.IsPredicate d) ts t h = (cc)
the_function names at (written.IsFunction g) ts t h = let same : types_in g.parameters ≡ ts = cc in let of : g.of ≡ t = cc in ((_, refl, types_settled names g.parameters ∙ same, of), refl, refl)
the_function names at (written.IsMethod m) ts t h = (cc)

the_method : (names : Names) (at : _) (k : written.Kind) (ts rs : List ValueType) → signature_of k ≡ settings.IsMethod ts rs
    → ((c : Method) × (method_in (Some (resolve.kind names at k)) ≡ Some c) × (types c.parameters ≡ ts) × (types c.returns ≡ rs)) × (resolve.is_method k ≡ true)
the_method names at (written.IsField u) ts rs h = (cc)
the_method names at (written.IsPredicate d) ts rs h = (cc)
the_method names at (written.IsFunction g) ts rs h = (cc)
the_method names at (written.IsMethod m) ts rs h =
    let same : types_in m.parameters ≡ ts = cc in
    let back : types_in m.returns ≡ rs = cc in
    ((_, refl, types_settled names m.parameters ∙ same, types_settled names m.returns ∙ back), refl)

-- ---- its fields
-- one member more, of another name
kept : (names : Names) (m : written.Member) (ms some : List written.Member) → Absent m.name.name some → AreFields (map (resolve.member names) ms) (fields_of some) → AreFields (map (resolve.member names) (m ∷ ms)) (fields_of some)
kept names m ms [] away h = tt
kept names m ms (f ∷ some) away h = go (is_field f.kind) h (kept names m ms some away.1)
  where
    go : (b : Bool) → AreFields (map (resolve.member names) ms) (if b then f.name.name ∷ fields_of some else fields_of some)
        → (AreFields (map (resolve.member names) ms) (fields_of some) → AreFields (map (resolve.member names) (m ∷ ms)) (fields_of some))
        → AreFields (map (resolve.member names) (m ∷ ms)) (if b then f.name.name ∷ fields_of some else fields_of some)
    go true h k = ((h.0.0, ap field_in (others_named names m ms f.name.name (differs_back m.name.name f.name.name away.0)) ∙ h.0.1), k h.1)
    go false h k = k h

is_a_field : (names : Names) (at : _) (k : written.Kind) → is_field k ≡ true → (t : ValueType) × (field_in (Some (resolve.kind names at k)) ≡ Some t)
is_a_field names at (written.IsField t) h = (t, refl)
is_a_field names at (written.IsPredicate d) h = (cc)
is_a_field names at (written.IsFunction g) h = (cc)
is_a_field names at (written.IsMethod m) h = (cc)

fields_known : (names : Names) (before : List Name) (ms : List written.Member) → AreNew before (map (λ m. m.name) ms) → AreFields (map (resolve.member names) ms) (fields_of ms)
fields_known names before [] new = tt
fields_known names before (m ∷ ms) new =
    let after = before ++ m.name.name ∷ [] in
    go (is_field m.kind) (λ e. is_a_field names m.place m.kind e) (kept names m ms ms (absent m.name.name after ms (among_last m.name.name before) new.1) (fields_known names after ms new.1))
  where
    go : (b : Bool) → (b ≡ true → (t : ValueType) × (field_in (Some (resolve.kind names m.place m.kind)) ≡ Some t)) → AreFields (map (resolve.member names) (m ∷ ms)) (fields_of ms)
        → AreFields (map (resolve.member names) (m ∷ ms)) (if b then m.name.name ∷ fields_of ms else fields_of ms)
    go true k h = (((k refl).0, ap field_in (first_named names m ms m.name.name (same_refl m.name.name)) ∙ (k refl).1), h)
    go false k h = h

-- a name of no member is that of no field
unlisted : (x : Name) (ms : List written.Member) → Absent x ms → is_among x (fields_of ms) ≡ false
unlisted x [] away = refl
unlisted x (m ∷ ms) away = go (is_field m.kind) (unlisted x ms away.1)
  where
    go : (b : Bool) → is_among x (fields_of ms) ≡ false → is_among x (if b then m.name.name ∷ fields_of ms else fields_of ms) ≡ false
    go true h = or_from (same_name x m.name.name) (is_among x (fields_of ms)) away.0 h
    go false h = h

fields_distinct : (before : List Name) (ms : List written.Member) → AreNew before (map (λ m. m.name) ms) → AreDistinct (fields_of ms)
fields_distinct before [] new = tt
fields_distinct before (m ∷ ms) new =
    let after = before ++ m.name.name ∷ [] in
    go (is_field m.kind) (unlisted m.name.name ms (absent m.name.name after ms (among_last m.name.name before) new.1)) (fields_distinct after ms new.1)
  where
    go : (b : Bool) → is_among m.name.name (fields_of ms) ≡ false → AreDistinct (fields_of ms) → AreDistinct (if b then m.name.name ∷ fields_of ms else fields_of ms)
    go true e h = (e, h)
    go false e h = h

-- names that are new one after the other
unnamed : (x : Name) (before : List Name) (fs : List written.Placed) → is_among x before ≡ true → AreNew before fs → is_among x (map (λ f. f.name) fs) ≡ false
unnamed x before [] h new = refl
unnamed x before (f ∷ fs) h new =
    or_from (same_name x f.name) (is_among x (map (λ f. f.name) fs))
    (false_from_ne_true (same_name x f.name) (λ e. both_ways (is_among f.name before) new.0 (subst (λ y. is_among y before ≡ true) (same_is x f.name e) h)))
    (unnamed x (before ++ f.name ∷ []) fs (among_more x before (f.name ∷ []) h) new.1)

pub new_distinct : (before : List Name) (fs : List written.Placed) → AreNew before fs → AreDistinct (map (λ f. f.name) fs)
new_distinct before [] new = tt
new_distinct before (f ∷ fs) new = (unnamed f.name (before ++ f.name ∷ []) fs (among_last f.name before) new.1, new_distinct (before ++ f.name ∷ []) fs new.1)

pub knows : (p : written.Program) → AreNew [] (map (λ m. m.name) p) → Knows (named (table_of p)) (names_of p) (resolve.program p)
knows p new =
    let names = names_of p in
    record {
      field = λ f t h.
          let k = found names [] p new f _ h in
          ap field_in k.is ∙ the_field names k.member.place k.member.kind t k.stands;
      predicate = λ i ts b h.
          let k = found names [] p new i _ h in
          let d = the_predicate names k.member.place k.member.kind ts b k.stands in
          (d.0.0, ap predicate_in k.is ∙ d.0.1, d.0.2);
      function = λ f ts t h.
          let k = found names [] p new f _ h in
          let d = the_function names k.member.place k.member.kind ts t k.stands in
          (d.0.0, ap function_in k.is ∙ d.0.1, d.0.2, d.0.3);
      method = λ m ts rs h.
          let k = found names [] p new m _ h in
          let d = the_method names k.member.place k.member.kind ts rs k.stands in
          (d.0.0, ap method_in k.is ∙ d.0.1, d.0.2, d.0.3);
      is_predicate = λ i ts b h.
          let k = found names [] p new i _ h in
          k.has is_predicate ∙ (the_predicate names k.member.place k.member.kind ts b k.stands).1;
      is_method = λ m ts rs h.
          let k = found names [] p new m _ h in
          k.has is_method ∙ (the_method names k.member.place k.member.kind ts rs k.stands).1;
      no_predicate = λ f ts t h.
          let k = found names [] p new f _ h in
          k.has is_predicate ∙ (the_function names k.member.place k.member.kind ts t k.stands).1;
      no_method = λ f ts t h.
          let k = found names [] p new f _ h in
          k.has is_method ∙ (the_function names k.member.place k.member.kind ts t k.stands).2;
      fields = fields_known names [] p new;
      distinct = fields_distinct [] p new;
    }
