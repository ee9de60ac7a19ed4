-- An assertion that is understood is well-sorted.
use Rattle.std.proofs.Common.{◌≡◌, inl, inr, ◌⊎◌, ℕ, suc, ◌+◌, ◌≤◌, true, ◌||◌, pos, neg_ℤ, List, [], ◌∷◌, subst, arith, le_refl}
use Rattle.std.specs.Prelude.{⊤}
use Rattle.std.specs.List.{list_all}
use Rattle.std.proofs.lemmas.Bool.{or_cases, and_parts}
use Rattle.vx_frac.specs.Fraction.{ratio}
use Rattle.vx_frac.proofs.Lowest.{lowest-lowest}
use Rattle.vx_terms.specs.Sorts.{Sort, IntSort, BoolSort, RealSort, Symbol, Standard, Function, Variable, Named, Operator, And, Or, Implies, Equal, Less, LessEqual, Add, Subtract, Multiply, Div, Mod, Takes, same_sort}
use Rattle.vx_terms.specs.Terms.{Term, Apply, Binary, Ite, sort_of}
use Rattle.vx_terms.specs.Formed.{IsKnown, Formed, truth, number, part, constant, applies, nots, binary, ites, all_of, some_of, FormedAll, no_terms, more_terms, FormedBools, no_bools, more_bools}
use Rattle.vx_terms.specs.Interpretations.{Each}
use Rattle.vx_terms.proofs.Same.{sort_is}
use Rattle.vx_smt_meaning.specs.Commands.{Command, Assert}
use Rattle.cs_certificate.specs.Terms.{HasSort}
use Rattle.cs_reader.specs.Spelling.{listed, over}
use Rattle.cs_commands.specs.Live.{Scope}
use Rattle.cs_commands.specs.Building.{is_bool, is_number_sort, takes}
use Rattle.cs_commands.specs.Following.{UnderstoodIsSorted}
use Rattle.cs_commands.proofs.ReadTerms.{Keeps, read_keeps}
use Rattle.cs_commands.proofs.ReadCommands.{KeepsCommands, understood_keeps}

-- well-sorted at its own sort, from some number of symbols on
record IsSorted (t : Term) : Type 0 where
  from : ℕ
  formed : (n : ℕ) → from ≤ n → Formed n t (sort_of t)

-- ---- sorts

sort_at : {n : ℕ} (t : Term) (a b : Sort) → a ≡ b → Formed n t a → Formed n t b
sort_at {n} t a b is f = subst (Formed n t) is f

at_bool : {n : ℕ} (t : Term) → is_bool t ≡ true → Formed n t (sort_of t) → Formed n t BoolSort
at_bool t e f = sort_at t (sort_of t) BoolSort (sort_is (sort_of t) BoolSort e) f

number_sort : (a : Sort) → is_number_sort a ≡ true → (a ≡ IntSort) ⊎ (a ≡ RealSort)
number_sort a e = go (or_cases (same_sort a IntSort) (same_sort a RealSort) e)
  where
    go : (same_sort a IntSort ≡ true) ⊎ (same_sort a RealSort ≡ true) → (a ≡ IntSort) ⊎ (a ≡ RealSort)
    go (inl h) = inl (sort_is a IntSort h)
    go (inr h) = inr (sort_is a RealSort h)

is_taken : (o : Operator) (a : Sort) → takes o a ≡ true → Takes o a
is_taken And a e = sort_is a BoolSort e
is_taken Or a e = sort_is a BoolSort e
is_taken Implies a e = sort_is a BoolSort e
is_taken Equal a e = tt
is_taken Less a e = number_sort a e
is_taken LessEqual a e = number_sort a e
is_taken Add a e = number_sort a e
is_taken Subtract a e = number_sort a e
is_taken Multiply a e = number_sort a e
is_taken Div a e = sort_is a IntSort e
is_taken Mod a e = sort_is a IntSort e

-- ---- symbols

known_from : Symbol → ℕ
known_from (Variable k) = suc k
known_from f = 0

is_known : (f : Symbol) (n : ℕ) → known_from f ≤ n → IsKnown n f
unfolding known_from
is_known (Variable k) n le = le
is_known (Standard k) n le = tt
is_known (Function k) n le = tt
is_known (Named x) n le = tt

-- ---- lists

record AreSorted (ts : List Term) : Type 0 where
  from : ℕ
  formed : (n : ℕ) → from ≤ n → FormedAll n (listed ts)

all_sorted : (ts : List Term) → Each IsSorted ts → AreSorted ts
all_sorted [] h = record { from = 0; formed = λ n le. no_terms }
all_sorted (t ∷ ts) h =
    let f = h.0 in
    let fs = all_sorted ts h.1 in
    record { from = f.from + fs.from; formed = λ n le. more_terms (sort_of t) (f.formed n (omega arith)) (fs.formed n (omega arith)) }

record AreBools (ts : List Term) : Type 0 where
  from : ℕ
  formed : (n : ℕ) → from ≤ n → FormedBools n (listed ts)

all_bools : (ts : List Term) → Each IsSorted ts → list_all is_bool ts ≡ true → AreBools ts
all_bools [] h e = record { from = 0; formed = λ n le. no_bools }
all_bools (t ∷ ts) h e =
    let p = and_parts (is_bool t) (list_all is_bool ts) e in
    let f = h.0 in
    let fs = all_bools ts h.1 p.1 in
    record { from = f.from + fs.from; formed = λ n le. more_bools (at_bool t p.0 (f.formed n (omega arith))) (fs.formed n (omega arith)) }

-- ---- terms

applied_sorted : (f : Symbol) (a : Sort) (ts : List Term) → AreSorted ts → IsSorted (Apply f a (listed ts))
applied_sorted f a ts s =
    let k = known_from f in
    let m = s.from in
    record { from = k + m; formed = λ n le. applies f a (is_known f n (omega arith)) (s.formed n (omega arith)) }

binary_sorted : (o : Operator) (t u : Term) → IsSorted t → IsSorted u → takes o (sort_of t) ≡ true → same_sort (sort_of u) (sort_of t) ≡ true → IsSorted (Binary o t u)
binary_sorted o t u f g taken same =
    let k = f.from in
    let m = g.from in
    record {
      from = k + m;
      formed = λ n le. binary (is_taken o (sort_of t) taken) (f.formed n (omega arith)) (sort_at u (sort_of u) (sort_of t) (sort_is (sort_of u) (sort_of t) same) (g.formed n (omega arith)));
    }

choice_sorted : (c t u : Term) → IsSorted c → IsSorted t → IsSorted u → is_bool c ≡ true → same_sort (sort_of u) (sort_of t) ≡ true → IsSorted (Ite c t u)
choice_sorted c t u e f g bool same =
    let j = e.from in
    let k = f.from in
    let m = g.from in
    record {
      from = j + k + m;
      formed = λ n le. ites (at_bool c bool (e.formed n (omega arith))) (f.formed n (omega arith)) (sort_at u (sort_of u) (sort_of t) (sort_is (sort_of u) (sort_of t) same) (g.formed n (omega arith)));
    }

sorted_kept : (scope : Scope) → Keeps scope IsSorted
sorted_kept scope = record {
  truth = λ b. record { from = 0; formed = λ n le. truth b };
  number = λ k small. record { from = 0; formed = λ n le. number (pos k) };
  negated = λ k h. record { from = 0; formed = λ n le. number (neg_ℤ (pos k)) };
  part = λ a low small. record { from = 0; formed = λ n le. part a low };
  opposite = λ m d h. record { from = 0; formed = λ n le. part (over (neg_ℤ (pos m)) d) (lowest-lowest (ratio (neg_ℤ (pos m)) (pos (suc d)))) };
  constant = λ d is none. record { from = known_from d.symbol; formed = λ n le. constant d.symbol d.gives (is_known d.symbol n le) };
  applies = λ d ts is h some sorts. applied_sorted d.symbol d.gives ts (all_sorted ts h);
  nots = λ t h bool. record { from = h.from; formed = λ n le. nots (at_bool t bool (h.formed n le)) };
  binary = binary_sorted;
  choices = choice_sorted;
  all_of = λ ts h three bools. let s = all_bools ts h bools in record { from = s.from; formed = λ n le. all_of (s.formed n le) };
  some_of = λ ts h three bools. let s = all_bools ts h bools in record { from = s.from; formed = λ n le. some_of (s.formed n le) };
}

-- ---- commands

abbrev AssertsBool : Command → Type 0
AssertsBool (Assert t) = HasSort t BoolSort
AssertsBool c = ⊤

asserts_bool : (scope : Scope) → KeepsCommands scope AssertsBool
asserts_bool scope = record {
  options = λ x b. tt;
  logics = λ x. tt;
  sorts = λ x new. tt;
  functions = λ d new takes gives. tt;
  asserts = λ ts r reads bool.
      let s = read_keeps scope IsSorted (sorted_kept scope) [] ts r tt reads in
      (s.from, at_bool r.0 bool (s.formed s.from (le_refl s.from)));
  pushes = λ n. tt;
  pops = λ n. tt;
  checks = tt;
  proofs = tt;
  exits = tt;
}

pub understood_sorted : UnderstoodIsSorted
understood_sorted scope tokens t e = understood_keeps scope AssertsBool (asserts_bool scope) tokens (Assert t) e
