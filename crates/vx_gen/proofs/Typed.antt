-- The program of the generated text is typed.
use Rattle.std.proofs.Common.{◌≡◌, ℕ, zero, suc, ◌+◌, ◌%◌, ◌≤◌, ◌<◌, List, [], ◌∷◌, ◌++◌, length, map, Bool, true, false, ◌&&◌, ◌||◌, Some, refl, sym, ap₂, subst, arith, append_assoc, eqb-true, true≢false}
use Rattle.std.specs.Prelude.{nat_eq, ⊤}
use Rattle.std.specs.Fmt.{decimal}
use Rattle.std.proofs.lemmas.Fmt.{decimal_injective}
use Rattle.vx_ast.specs.Mentions.{is_among}
use Rattle.vx_ast.specs.Syntax.{same_name}
use Rattle.vx_ast.specs.Written.{Name, Placed, Kind, IsField, IsPredicate, IsFunction, IsMethod, Member, Program}
use Rattle.vx_expressions.specs.Settings.{Table}
use Rattle.vx_statements.specs.Statements.{AreNew}
use Rattle.vx_typing.specs.Members.{table_of, AreTypedMembers}
use Rattle.vx_typing.specs.Uses.{Use, Each, uses_of_body}
use Rattle.vx_typing.specs.Groups.{kind_at, IsOwn}
use Rattle.vx_typing.specs.Programs.{IsTyped}
use Rattle.vx_typing.proofs.Agree as agree
use Rattle.vx_gen.specs.Programs.{Columns, line, digits, first_members, methods, program_of, method_on, method_by}
use Rattle.std.proofs.lemmas.List.{append-nil}
use Rattle.std.proofs.lemmas.Bool.{and_parts, or_from, or_parts}
use Rattle.vx_gen.proofs.Numbers.{numeral_is, numeral_long}

-- ---- members, by what the first six names stand for

abbrev first_table : Table → Table
first_table rest = table_of first_members ++ rest

first_typed : (rest : Table) → AreTypedMembers (first_table rest) first_members
first_typed rest = (agree.members (first_table rest) first_members).0 refl

method_typed : (rest : Table) (k : ℕ) (front middle back : Columns) (i : ℕ) → AreTypedMembers (first_table rest) (method_by k front middle back i ∷ [])
method_typed rest zero front middle back i = (agree.members (first_table rest) (method_by zero front middle back i ∷ [])).0 refl
method_typed rest (suc zero) front middle back i = (agree.members (first_table rest) (method_by (suc zero) front middle back i ∷ [])).0 refl
method_typed rest (suc (suc k)) front middle back i = (agree.members (first_table rest) (method_by (suc (suc k)) front middle back i ∷ [])).0 refl

more_typed : (table : Table) (ms ns : List Member) → AreTypedMembers table ms → AreTypedMembers table ns → AreTypedMembers table (ms ++ ns)
more_typed table [] ns h k = k
more_typed table (m ∷ ms) ns h k = (h.0, more_typed table ms ns h.1 k)

methods_typed : (rest : Table) (n : ℕ) → AreTypedMembers (first_table rest) (methods n)
methods_typed rest zero = tt
methods_typed rest (suc n) =
    more_typed (first_table rest) (methods n) (method_on (7 + n) n ∷ []) (methods_typed rest n)
    (method_typed rest (n % 3) (line (7 + n)) (λ c. line (7 + n) (c + digits n)) (λ c. line (7 + n) (c + (digits n + digits n))) n)

program_members : (n : ℕ) → AreTypedMembers (table_of (program_of n)) (program_of n)
program_members n = let rest = table_of (methods n) in more_typed (first_table rest) first_members (methods n) (first_typed rest) (methods_typed rest n)

-- ---- names

same_is : (x y : Name) → same_name x y ≡ true → x ≡ y
same_is [] [] h = refl
same_is [] (b ∷ y) h = cc
same_is (a ∷ x) [] h = cc
same_is (a ∷ x) (b ∷ y) h = let k = and_parts (nat_eq a b) (same_name x y) h in ap₂ (λ c z. c ∷ z) (eqb-true a b k.0) (same_is x y k.1)

names_differ : (x y : Name) → (x ≡ y → ⊥) → same_name x y ≡ false
names_differ x y h = go (same_name x y) refl
  where
    go : (b : Bool) → same_name x y ≡ b → b ≡ false
    go true e = absurd (h (same_is x y e))
    go false e = refl

some_name : (x : Name) → 1 ≤ length x → same_name x [] ≡ false
some_name [] h = absurd (omega (arith, h))
some_name (a ∷ x) h = refl

abbrev name_of : Member → Name
name_of m = m.name.name

abbrev names_of : List Member → List Name
names_of ms = map name_of ms

abbrev placed_names : List Member → List Placed
placed_names ms = map (λ m. m.name) ms

-- among six names there is none with digits
not_first : (k : ℕ) (front middle back : Columns) (i : ℕ) → i ≤ 2000 → is_among (name_of (method_by k front middle back i)) (names_of first_members) ≡ false
not_first zero front middle back i le = rw (some_name (decimal i) (numeral_long (decimal i) (numeral_is i le).0)) refl
not_first (suc zero) front middle back i le = refl
not_first (suc (suc k)) front middle back i le = rw (some_name (decimal i) (numeral_long (decimal i) (numeral_is i le).0)) refl

-- methods of different numbers have different names
other_name : (j k : ℕ) (front middle back front' middle' back' : Columns) (a b : ℕ) → same_name (decimal a) (decimal b) ≡ false → same_name (name_of (method_by j front middle back a)) (name_of (method_by k front' middle' back' b)) ≡ false
other_name zero zero f m g f' m' g' a b h = h
other_name zero (suc zero) f m g f' m' g' a b h = refl
other_name zero (suc (suc k)) f m g f' m' g' a b h = refl
other_name (suc zero) zero f m g f' m' g' a b h = refl
other_name (suc zero) (suc zero) f m g f' m' g' a b h = h
other_name (suc zero) (suc (suc k)) f m g f' m' g' a b h = refl
other_name (suc (suc j)) zero f m g f' m' g' a b h = refl
other_name (suc (suc j)) (suc zero) f m g f' m' g' a b h = refl
other_name (suc (suc j)) (suc (suc k)) f m g f' m' g' a b h = h

other_digits : (a b : ℕ) → b < a → a ≤ 2000 → same_name (decimal a) (decimal b) ≡ false
other_digits a b lt le = names_differ (decimal a) (decimal b) (λ e. let same = decimal_injective a b (omega (arith, le)) (omega (arith, lt, le)) e in omega (arith, lt, same))

among_neither : (x : Name) (ms ns : List Member) → is_among x (names_of ms) ≡ false → is_among x (names_of ns) ≡ false → is_among x (names_of (ms ++ ns)) ≡ false
among_neither x [] ns h k = k
among_neither x (m ∷ ms) ns h k = let both = or_parts (same_name x (name_of m)) (is_among x (names_of ms)) h in or_from _ _ both.0 (among_neither x ms ns both.1 k)

not_earlier : (n m l : ℕ) → m ≤ n → n ≤ 2000 → is_among (name_of (method_on l n)) (names_of (methods m)) ≡ false
not_earlier n zero l le few = refl
not_earlier n (suc m) l le few =
    among_neither (name_of (method_on l n)) (methods m) (method_on (7 + m) m ∷ []) (not_earlier n m l (omega (arith, le)) few)
    (or_from _ false (other_name (n % 3) (m % 3) _ _ _ _ _ _ n m (other_digits n m (omega (arith, le)) few)) refl)

new_more : (before : List Name) (ms : List Member) (m : Member) → AreNew before (placed_names ms) → is_among (name_of m) (before ++ names_of ms) ≡ false → AreNew before (placed_names (ms ++ m ∷ []))
new_more before [] m h k = (subst (λ l. is_among (name_of m) l ≡ false) (append-nil before) k, tt)
new_more before (x ∷ ms) m h k =
    (h.0, new_more (before ++ name_of x ∷ []) ms m h.1 (subst (λ l. is_among (name_of m) l ≡ false) (sym (append_assoc before (name_of x ∷ []) (names_of ms))) k))

all_new : (n : ℕ) → n ≤ 2000 → AreNew [] (placed_names (program_of n))
all_new zero le = (refl, (refl, (refl, (refl, (refl, (refl, tt))))))
all_new (suc n) le =
    let here = method_on (7 + n) n in
    new_more [] (program_of n) here (all_new n (omega (arith, le)))
    (among_neither (name_of here) first_members (methods n) (not_first (n % 3) _ _ _ n (omega (arith, le))) (not_earlier n n (7 + n) (omega arith) (omega (arith, le))))

-- ---- no functions, and no predicate that unfolds

abbrev NeverUnfolds : List Use → Type 0
NeverUnfolds us = Each (λ u. u.unfolds ≡ true → ⊥) us

abbrev IsPlain : Kind → Type 0
IsPlain (IsField t) = ⊤
IsPlain (IsPredicate d) = NeverUnfolds (uses_of_body d.body [])
IsPlain (IsFunction f) = ⊥
IsPlain (IsMethod m) = ⊤

abbrev ArePlain : List Member → Type 0
ArePlain [] = ⊤
ArePlain (m ∷ ms) = IsPlain m.kind × ArePlain ms

more_plain : (ms ns : List Member) → ArePlain ms → ArePlain ns → ArePlain (ms ++ ns)
more_plain [] ns h k = k
more_plain (m ∷ ms) ns h k = (h.0, more_plain ms ns h.1 k)

method_plain : (k : ℕ) (front middle back : Columns) (i : ℕ) → IsPlain (method_by k front middle back i).kind
method_plain zero front middle back i = tt
method_plain (suc zero) front middle back i = tt
method_plain (suc (suc k)) front middle back i = tt

methods_plain : (n : ℕ) → ArePlain (methods n)
methods_plain zero = tt
methods_plain (suc n) = more_plain (methods n) (method_on (7 + n) n ∷ []) (methods_plain n) (method_plain (n % 3) _ _ _ n, tt)

never : false ≡ true → ⊥
never e = true≢false (sym e)

first_plain : ArePlain first_members
first_plain = (tt, (tt, (tt, (tt, ((never, tt), ((never, (never, tt)), tt))))))

program_plain : (n : ℕ) → ArePlain (program_of n)
program_plain n = more_plain first_members (methods n) first_plain (methods_plain n)

plain_at : (ms : List Member) (a : ℕ) (k : Kind) → ArePlain ms → kind_at ms a ≡ Some k → IsPlain k
plain_at [] a k h e = absurd cc
plain_at (m ∷ ms) zero k h e = let same : m.kind ≡ k = cc in subst IsPlain same h.0
plain_at (m ∷ ms) (suc a) k h e = plain_at ms a k h.1 e

not_own : (p : Program) (a : ℕ) (us : List Use) → NeverUnfolds us → Each (λ u. u.unfolds ≡ true → IsOwn p a u.name → ⊥) us
not_own p a [] h = tt
not_own p a (u ∷ us) h = ((λ e own. h.0 e), not_own p a us h.1)

pub generated_typed : (n : ℕ) → n ≤ 2000 → IsTyped (program_of n)
generated_typed n le =
    let p = program_of n in
    record {
      names = all_new n le;
      members = program_members n;
      measures = record {
        measured = λ a f is reaches. absurd (plain_at p a (IsFunction f) (program_plain n) is);
        alike = λ a b f g d e is is' group m m'. absurd (plain_at p a (IsFunction f) (program_plain n) is);
      };
      groups = record {
        preconditions = λ a f is. absurd (plain_at p a (IsFunction f) (program_plain n) is);
        bodies = λ a d is. not_own p a (uses_of_body d.body []) (plain_at p a (IsPredicate d) (program_plain n) is);
      };
    }
