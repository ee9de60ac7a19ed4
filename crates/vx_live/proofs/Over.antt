-- What the term constructors build is over the standard symbols and symbols v of one sort each, where its parts are.
use Rattle.std.proofs.Common.{◌≡◌, ◌∙◌, inl, inr, refl, sym, ap, subst, nat_eq, ne_eqb, eq-eqb, le_refl, le_trans, lt_of_lt_of_le, lt_irrefl, le_of_lt, lt-suc_self, List, [], ◌∷◌, ◌++◌, ℕ, zero, suc, ◌<◌, ◌≤◌, Bool, true, false, cond, ℤ, pos, negsuc, ◌+ℤ◌, ◌-ℤ◌, ◌*ℤ◌, Option, Some, None}
use Rattle.vx_ast.specs.declared.ValueType.{ValueType}
use Rattle.vx_ast.specs.declared.ValueType.TheVariants as type
use Rattle.vx_frac.specs.Fractions.{Fraction, none, full, sum, difference, product, lowest, sum_fits, difference_fits, product_fits}
use Rattle.vx_terms.specs.Sorts.{Sort, IntSort, BoolSort, RealSort, RefSort, Symbol, Standard, Function, Variable, Named, Operator, And, Or, Implies, Equal, Less, LessEqual, Add, Subtract, Multiply, Div, Mod, Takes, gives}
use Rattle.vx_terms.specs.Terms.{Term, Truth, Number, Part, Constant, Apply, Not, Binary, Ite, AllOf, SomeOf, Terms, same, sort_of}
use Rattle.vx_terms.specs.Build as build
use Rattle.vx_terms.specs.Build.{Literals, Numbers, Parts, Truths, Neither, truth_of, literals_of, negate, and, or, implies, equals, ite, less, less_equal, add, subtract, multiply, div, modulo, variable, null, zero_amount, whole_amount}
use Rattle.vx_terms.specs.Formed.{IsKnown, Formed, truth, number, part, constant, applies, nots, binary, ites, all_of, some_of, FormedAll, no_terms, more_terms, FormedBools, no_bools, more_bools}
use Rattle.vx_terms.proofs.Values.{formed_le}
use Rattle.vx_terms.proofs.Build.{negate_formed, and_formed, or_formed, implies_formed, equals_formed, ite_formed, less_formed, less_equal_formed, add_formed, subtract_formed, multiply_formed, div_formed, modulo_formed}
use Rattle.vx_rules.specs.States.{sort_of_type}
use Rattle.vx_smt_meaning.specs.Commands.{Declared}
use Rattle.vx_smt_meaning.specs.Symbols.{Declares}
use Rattle.vx_smt_meaning.specs.Over.{IsOver, AreOver}
use Rattle.vx_smt_meaning.specs.Standard.{standard_symbols}
use Rattle.vx_live.specs.Live.{IsBuiltIn}
use Rattle.vx_terms.specs.Interpretations.{Each}

-- over the standard symbols and these of functions, with these sorts of v
abbrev pub Over : List Declared → (ℕ → Sort) → Term → Type 0
Over fs d t = IsOver (standard_symbols ++ fs) d t

cond_over : (fs : List Declared) (d : ℕ → Sort) (b : Bool) (x y : Term) → Over fs d x → Over fs d y → Over fs d (cond b x y)
cond_over fs d true x y h k = h
cond_over fs d false x y h k = k

pub negate_over : (fs : List Declared) (d : ℕ → Sort) (t : Term) → Over fs d t → Over fs d (negate t)
negate_over fs d (Truth b) h = tt
negate_over fs d (Number z) h = h
negate_over fs d (Part a) h = h
negate_over fs d (Constant f a) h = h
negate_over fs d (Apply f a ts) h = h
negate_over fs d (Not t) h = h
negate_over fs d (Binary o t u) h = h
negate_over fs d (Ite c t u) h = h
negate_over fs d (AllOf ts) h = h
negate_over fs d (SomeOf ts) h = h

and_over : (fs : List Declared) (d : ℕ → Sort) (o o' : Option Bool) (s t : Term) → Over fs d s → Over fs d t → Over fs d (build.and_by o o' s t)
and_over fs d (Some true) o' s t h k = k
and_over fs d (Some false) o' s t h k = tt
and_over fs d None (Some true) s t h k = h
and_over fs d None (Some false) s t h k = tt
and_over fs d None None s t h k = (h, k)

or_over : (fs : List Declared) (d : ℕ → Sort) (o o' : Option Bool) (s t : Term) → Over fs d s → Over fs d t → Over fs d (build.or_by o o' s t)
or_over fs d (Some true) o' s t h k = tt
or_over fs d (Some false) o' s t h k = k
or_over fs d None (Some true) s t h k = tt
or_over fs d None (Some false) s t h k = h
or_over fs d None None s t h k = (h, k)

implies_over : (fs : List Declared) (d : ℕ → Sort) (o o' : Option Bool) (s t : Term) → Over fs d s → Over fs d t → Over fs d (build.implies_by o o' s t)
implies_over fs d (Some true) o' s t h k = k
implies_over fs d (Some false) o' s t h k = tt
implies_over fs d None (Some true) s t h k = tt
implies_over fs d None (Some false) s t h k = negate_over fs d s h
implies_over fs d None None s t h k = (h, k)

equals_over : (fs : List Declared) (d : ℕ → Sort) (l : Literals) (s t : Term) → Over fs d s → Over fs d t → Over fs d (build.equals_by l s t)
equals_over fs d (Numbers m n) s t h k = tt
equals_over fs d (Parts a b) s t h k = tt
equals_over fs d (Truths a b) s t h k = tt
equals_over fs d Neither s t h k = (h, k)

ite_over : (fs : List Declared) (d : ℕ → Sort) (o : Option Bool) (c s t : Term) → Over fs d c → Over fs d s → Over fs d t → Over fs d (build.ite_by o c s t)
ite_over fs d (Some b) c s t h k l = cond_over fs d b s t k l
ite_over fs d None c s t h k l = cond_over fs d (same s t) s (Ite c s t) k (h, k, l)

less_over : (fs : List Declared) (d : ℕ → Sort) (l : Literals) (s t : Term) → Over fs d s → Over fs d t → Over fs d (build.less_by l s t)
less_over fs d (Numbers m n) s t h k = tt
less_over fs d (Parts a b) s t h k = tt
less_over fs d (Truths a b) s t h k = (h, k)
less_over fs d Neither s t h k = (h, k)

at_most_over : (fs : List Declared) (d : ℕ → Sort) (l : Literals) (s t : Term) → Over fs d s → Over fs d t → Over fs d (build.at_most_by l s t)
at_most_over fs d (Numbers m n) s t h k = tt
at_most_over fs d (Parts a b) s t h k = tt
at_most_over fs d (Truths a b) s t h k = (h, k)
at_most_over fs d Neither s t h k = (h, k)

folded_number_over : (fs : List Declared) (d : ℕ → Sort) (z : ℤ) (t : Term) → Over fs d t → Over fs d (build.folded_number z t)
folded_number_over fs d z t h = cond_over fs d (build.fits z) (Number z) t tt h

folded_part_over : (fs : List Declared) (d : ℕ → Sort) (met : Bool) (a : Fraction) (t : Term) → Over fs d t → Over fs d (build.folded_part met a t)
folded_part_over fs d met a t h = cond_over fs d (build.folds met a) (Part a) t tt h

add_over : (fs : List Declared) (d : ℕ → Sort) (l : Literals) (s t : Term) → Over fs d s → Over fs d t → Over fs d (build.add_by l s t)
add_over fs d (Numbers m n) s t h k = folded_number_over fs d (m +ℤ n) (Binary Add s t) (h, k)
add_over fs d (Parts a b) s t h k = folded_part_over fs d (sum_fits a b) (lowest (sum a b)) (Binary Add s t) (h, k)
add_over fs d (Truths a b) s t h k = (h, k)
add_over fs d Neither s t h k = (h, k)

subtract_over : (fs : List Declared) (d : ℕ → Sort) (l : Literals) (s t : Term) → Over fs d s → Over fs d t → Over fs d (build.subtract_by l s t)
subtract_over fs d (Numbers m n) s t h k = folded_number_over fs d (m -ℤ n) (Binary Subtract s t) (h, k)
subtract_over fs d (Parts a b) s t h k = folded_part_over fs d (difference_fits a b) (lowest (difference a b)) (Binary Subtract s t) (h, k)
subtract_over fs d (Truths a b) s t h k = (h, k)
subtract_over fs d Neither s t h k = (h, k)

multiply_over : (fs : List Declared) (d : ℕ → Sort) (l : Literals) (s t : Term) → Over fs d s → Over fs d t → Over fs d (build.multiply_by l s t)
multiply_over fs d (Numbers m n) s t h k = folded_number_over fs d (m *ℤ n) (Binary Multiply s t) (h, k)
multiply_over fs d (Parts a b) s t h k = folded_part_over fs d (product_fits a b) (lowest (product a b)) (Binary Multiply s t) (h, k)
multiply_over fs d (Truths a b) s t h k = (h, k)
multiply_over fs d Neither s t h k = (h, k)

div_over : (fs : List Declared) (d : ℕ → Sort) (l : Literals) (s t : Term) → Over fs d s → Over fs d t → Over fs d (build.div_by l s t)
div_over fs d (Numbers m (pos zero)) s t h k = (h, k)
div_over fs d (Numbers m (pos (suc n))) s t h k = tt
div_over fs d (Numbers m (negsuc n)) s t h k = tt
div_over fs d (Parts a b) s t h k = (h, k)
div_over fs d (Truths a b) s t h k = (h, k)
div_over fs d Neither s t h k = (h, k)

mod_over : (fs : List Declared) (d : ℕ → Sort) (l : Literals) (s t : Term) → Over fs d s → Over fs d t → Over fs d (build.mod_by l s t)
mod_over fs d (Numbers m (pos zero)) s t h k = (h, k)
mod_over fs d (Numbers m (pos (suc n))) s t h k = tt
mod_over fs d (Numbers m (negsuc n)) s t h k = tt
mod_over fs d (Parts a b) s t h k = (h, k)
mod_over fs d (Truths a b) s t h k = (h, k)
mod_over fs d Neither s t h k = (h, k)

-- The sort of such a term is built in

built_gives : (o : Operator) (a : Sort) → IsBuiltIn a → IsBuiltIn (gives o a)
built_gives And a h = tt
built_gives Or a h = tt
built_gives Implies a h = tt
built_gives Equal a h = tt
built_gives Less a h = tt
built_gives LessEqual a h = tt
built_gives Add a h = h
built_gives Subtract a h = h
built_gives Multiply a h = h
built_gives Div a h = tt
built_gives Mod a h = tt

-- what holds of each of some declarations holds of one of them
pub declared_one : (P : Declared → Type 0) (ds : List Declared) (e : Declared) → Each P ds → Declares ds e → P e
declared_one P [] e h k = absurd k
declared_one P (c ∷ ds) e h (inl same) = subst P same h.0
declared_one P (c ∷ ds) e h (inr k) = declared_one P ds e h.1 k

-- what is declared beside the standard symbols: symbols f, that give what is built in
abbrev pub IsF : Symbol → Type 0
IsF (Function n) = Unit {0}
IsF _ = ⊥

pub record IsOfFunction (c : Declared) : Type 0 where
  pub symbol : IsF c.symbol
  pub gives : IsBuiltIn c.gives

gives_all : (fs : List Declared) → Each IsOfFunction fs → Each (λ (c : Declared). IsBuiltIn c.gives) fs
gives_all [] h = tt
gives_all (c ∷ fs) h = (h.0.gives, gives_all fs h.1)

pub symbol_given : (fs : List Declared) → Each IsOfFunction fs → (e : Declared) → Declares (standard_symbols ++ fs) e → IsBuiltIn e.gives
symbol_given fs g e k = declared_one (λ (c : Declared). IsBuiltIn c.gives) (standard_symbols ++ fs) e (tt, (tt, (tt, (tt, (tt, (tt, (tt, (tt, (tt, (tt, (tt, (tt, (tt, gives_all fs g))))))))))))) k

-- sorts of v that are all built in
pub record Sorts (fs : List Declared) : Type 0 where
  pub of : ℕ → Sort
  pub built_in : (n : ℕ) → IsBuiltIn (of n)
  pub functions : Each IsOfFunction fs

built_constant : {fs : List Declared} (d : Sorts fs) (f : Symbol) (a : Sort) → Over fs d.of (Constant f a) → IsBuiltIn a
built_constant {fs = fs} d (Standard n) a h = symbol_given fs d.functions _ h
built_constant {fs = fs} d (Function n) a h = symbol_given fs d.functions _ h
built_constant d (Variable n) a h = subst IsBuiltIn (sym h) (d.built_in n)
built_constant {fs = fs} d (Named x) a h = symbol_given fs d.functions _ h

pub built_sort : {fs : List Declared} (d : Sorts fs) (t : Term) → Over fs d.of t → IsBuiltIn (sort_of t)
built_sort d (Truth b) h = tt
built_sort d (Number z) h = tt
built_sort d (Part a) h = tt
built_sort d (Constant f a) h = built_constant d f a h
built_sort {fs = fs} d (Apply f a ts) h = symbol_given fs d.functions _ h.0
built_sort d (Not t) h = tt
built_sort d (Binary o t u) h = built_gives o (sort_of t) (built_sort d t h.0)
built_sort d (Ite c t u) h = built_sort d t h.1
built_sort d (AllOf ts) h = tt
built_sort d (SomeOf ts) h = tt

pub built_type : (t : ValueType) → IsBuiltIn (sort_of_type t)
built_type type.Int = tt
built_type type.Bool = tt
built_type type.Ref = tt
built_type type.Perm = tt

-- Well-sorted, and over these symbols

pub record Fine {fs : List Declared} (d : Sorts fs) (n : ℕ) (t : Term) (a : Sort) : Type 0 where
  pub formed : Formed n t a
  pub over : Over fs d.of t

-- sorts of more numbers: those below n are as they were
pub record Above {fs : List Declared} (d : Sorts fs) (n m : ℕ) : Type 0 where
  pub sorts : Sorts fs
  pub le : n ≤ m
  pub same : (k : ℕ) → k < n → sorts.of k ≡ d.of k

abbrev pub stays : {fs : List Declared} {d : Sorts fs} {n : ℕ} → Above d n n
stays {d = d} {n = n} = record { sorts = d; le = le_refl n; same = λ k below. refl }

abbrev pub above : {fs : List Declared} {d : Sorts fs} {l m n : ℕ} (a : Above d l m) → Above a.sorts m n → Above d l n
above a b = record { sorts = b.sorts; le = le_trans a.le b.le; same = λ k below. b.same k (lt_of_lt_of_le below a.le) ∙ a.same k below }

pub either_built : (b : Bool) (a s : Sort) → IsBuiltIn a → IsBuiltIn s → IsBuiltIn (cond b a s)
either_built true a s h k = h
either_built false a s h k = k

-- the next number has this sort
abbrev pub one_above : {fs : List Declared} {d : Sorts fs} (n : ℕ) (a : Sort) → IsBuiltIn a → Above d n (suc n)
one_above {d = d} n a built = record {
  sorts = record { of = λ k. cond (nat_eq k n) a (d.of k); built_in = λ k. either_built (nat_eq k n) a (d.of k) built (d.built_in k); functions = d.functions };
  le = le_of_lt (lt-suc_self n);
  same = λ k below. ap (λ b. cond b a (d.of k)) (ne_eqb k n (λ e. absurd (lt_irrefl n (subst (λ k. k < n) e below))));
}

pub fresh_fine : {fs : List Declared} (d : Sorts fs) (n : ℕ) (a : Sort) (built : IsBuiltIn a) → Fine (one_above {d = d} n a built).sorts (suc n) (variable n a) a
fresh_fine d n a built = record { formed = constant (Variable n) a (lt-suc_self n); over = sym (ap (λ b. cond b a (d.of n)) (eq-eqb n n refl)) }

-- what is over symbols below a number stays so with more
constant_above : {fs : List Declared} {d : Sorts fs} {m n : ℕ} (l : Above d m n) (f : Symbol) (a : Sort) → IsKnown m f → Over fs d.of (Constant f a) → Over fs l.sorts.of (Constant f a)
constant_above l (Standard k) a known h = h
constant_above l (Function k) a known h = h
constant_above l (Variable k) a known h = h ∙ sym (l.same k known)
constant_above l (Named x) a known h = h

mutual
  over_above : {fs : List Declared} {d : Sorts fs} {m n : ℕ} (l : Above d m n) {t : Term} {a : Sort} → Formed m t a → Over fs d.of t → Over fs l.sorts.of t
  over_above l (truth b) h = tt
  over_above l (number z) h = tt
  over_above l (part a e) h = tt
  over_above l (constant f a k) h = constant_above l f a k h
  over_above l (applies f a k fs) h = (h.0, all_above l fs h.1)
  over_above l (nots f) h = over_above l f h
  over_above l (binary t f g) h = (over_above l f h.0, over_above l g h.1)
  over_above l (ites f g k) h = (over_above l f h.0, over_above l g h.1, over_above l k h.2)
  over_above l (all_of fs) h = bools_above l fs h
  over_above l (some_of fs) h = bools_above l fs h

  all_above : {fs : List Declared} {d : Sorts fs} {m n : ℕ} (l : Above d m n) {ts : Terms} → FormedAll m ts → AreOver (standard_symbols ++ fs) d.of ts → AreOver (standard_symbols ++ fs) l.sorts.of ts
  all_above l no_terms h = tt
  all_above l (more_terms a f fs) h = (over_above l f h.0, all_above l fs h.1)

  bools_above : {fs : List Declared} {d : Sorts fs} {m n : ℕ} (l : Above d m n) {ts : Terms} → FormedBools m ts → AreOver (standard_symbols ++ fs) d.of ts → AreOver (standard_symbols ++ fs) l.sorts.of ts
  bools_above l no_bools h = tt
  bools_above l (more_bools f fs) h = (over_above l f h.0, bools_above l fs h.1)

pub fine_later : {fs : List Declared} {d : Sorts fs} {m n : ℕ} {t : Term} {a : Sort} (l : Above d m n) → Fine d m t a → Fine l.sorts n t a
fine_later l f = record { formed = formed_le l.le f.formed; over = over_above l f.formed f.over }

pub truth_fine : {fs : List Declared} {d : Sorts fs} {n : ℕ} (b : Bool) → Fine d n (Truth b) BoolSort
truth_fine b = record { formed = truth b; over = tt }

pub number_fine : {fs : List Declared} {d : Sorts fs} {n : ℕ} (z : ℤ) → Fine d n (Number z) IntSort
number_fine z = record { formed = number z; over = tt }

module _ {fs : List Declared} {d : Sorts fs} {n : ℕ} where
  pub negate_fine : {t : Term} → Fine d n t BoolSort → Fine d n (negate t) BoolSort
  negate_fine {t = t} f = record { formed = negate_formed f.formed; over = negate_over fs d.of t f.over }

  pub and_fine : {s t : Term} → Fine d n s BoolSort → Fine d n t BoolSort → Fine d n (and s t) BoolSort
  and_fine {s = s} {t = t} f g = record { formed = and_formed f.formed g.formed; over = and_over fs d.of (truth_of s) (truth_of t) s t f.over g.over }

  pub or_fine : {s t : Term} → Fine d n s BoolSort → Fine d n t BoolSort → Fine d n (or s t) BoolSort
  or_fine {s = s} {t = t} f g = record { formed = or_formed f.formed g.formed; over = or_over fs d.of (truth_of s) (truth_of t) s t f.over g.over }

  pub implies_fine : {s t : Term} → Fine d n s BoolSort → Fine d n t BoolSort → Fine d n (implies s t) BoolSort
  implies_fine {s = s} {t = t} f g = record { formed = implies_formed f.formed g.formed; over = implies_over fs d.of (truth_of s) (truth_of t) s t f.over g.over }

  pub equals_fine : {s t : Term} {a : Sort} → Fine d n s a → Fine d n t a → Fine d n (equals s t) BoolSort
  equals_fine {s = s} {t = t} f g = record { formed = equals_formed f.formed g.formed; over = cond_over fs d.of (same s t) build.true_term (build.equals_by (literals_of s t) s t) tt (equals_over fs d.of (literals_of s t) s t f.over g.over) }

  pub ite_fine : {c s t : Term} {a : Sort} → Fine d n c BoolSort → Fine d n s a → Fine d n t a → Fine d n (ite c s t) a
  ite_fine {c = c} {s = s} {t = t} f g h = record { formed = ite_formed f.formed g.formed h.formed; over = ite_over fs d.of (truth_of c) c s t f.over g.over h.over }

  pub less_fine : {s t : Term} {a : Sort} → Takes Less a → Fine d n s a → Fine d n t a → Fine d n (less s t) BoolSort
  less_fine {s = s} {t = t} k f g = record { formed = less_formed k f.formed g.formed; over = cond_over fs d.of (same s t) build.false_term (build.less_by (literals_of s t) s t) tt (less_over fs d.of (literals_of s t) s t f.over g.over) }

  pub less_equal_fine : {s t : Term} {a : Sort} → Takes LessEqual a → Fine d n s a → Fine d n t a → Fine d n (less_equal s t) BoolSort
  less_equal_fine {s = s} {t = t} k f g = record { formed = less_equal_formed k f.formed g.formed; over = cond_over fs d.of (same s t) build.true_term (build.at_most_by (literals_of s t) s t) tt (at_most_over fs d.of (literals_of s t) s t f.over g.over) }

  pub add_fine : {s t : Term} {a : Sort} → Takes Add a → Fine d n s a → Fine d n t a → Fine d n (add s t) a
  add_fine {s = s} {t = t} k f g = record { formed = add_formed k f.formed g.formed; over = cond_over fs d.of (build.is_zero t) s (cond (build.is_zero s) t (build.add_by (literals_of s t) s t)) f.over (cond_over fs d.of (build.is_zero s) t (build.add_by (literals_of s t) s t) g.over (add_over fs d.of (literals_of s t) s t f.over g.over)) }

  pub subtract_fine : {s t : Term} {a : Sort} → Takes Subtract a → Fine d n s a → Fine d n t a → Fine d n (subtract s t) a
  subtract_fine {s = s} {t = t} k f g = record { formed = subtract_formed k f.formed g.formed; over = cond_over fs d.of (build.is_zero t) s (build.subtract_by (literals_of s t) s t) f.over (subtract_over fs d.of (literals_of s t) s t f.over g.over) }

  pub multiply_fine : {s t : Term} {a : Sort} → Takes Multiply a → Fine d n s a → Fine d n t a → Fine d n (multiply s t) a
  multiply_fine {s = s} {t = t} k f g = record {
    formed = multiply_formed k f.formed g.formed;
    over = cond_over fs d.of (build.is_one t) s (cond (build.is_one s) t (cond (build.is_zero t) t (cond (build.is_zero s) s (build.multiply_by (literals_of s t) s t)))) f.over (cond_over fs d.of (build.is_one s) t (cond (build.is_zero t) t (cond (build.is_zero s) s (build.multiply_by (literals_of s t) s t))) g.over (cond_over fs d.of (build.is_zero t) t (cond (build.is_zero s) s (build.multiply_by (literals_of s t) s t)) g.over
        (cond_over fs d.of (build.is_zero s) s (build.multiply_by (literals_of s t) s t) f.over (multiply_over fs d.of (literals_of s t) s t f.over g.over))));
  }

  pub div_fine : {s t : Term} → Fine d n s IntSort → Fine d n t IntSort → Fine d n (div s t) IntSort
  div_fine {s = s} {t = t} f g = record { formed = div_formed f.formed g.formed; over = div_over fs d.of (literals_of s t) s t f.over g.over }

  pub modulo_fine : {s t : Term} → Fine d n s IntSort → Fine d n t IntSort → Fine d n (modulo s t) IntSort
  modulo_fine {s = s} {t = t} f g = record { formed = modulo_formed f.formed g.formed; over = mod_over fs d.of (literals_of s t) s t f.over g.over }

-- null, and amounts

pub null_fine : {fs : List Declared} {d : Sorts fs} {n : ℕ} → Fine d n null RefSort
null_fine = record { formed = constant (Standard 0) RefSort tt; over = inl refl }

pub part_fine : {fs : List Declared} {d : Sorts fs} {n : ℕ} (a : Fraction) → lowest a ≡ a → Fine d n (Part a) RealSort
part_fine a e = record { formed = part a e; over = tt }

pub zero_fine : {fs : List Declared} {d : Sorts fs} {n : ℕ} → Fine d n zero_amount RealSort
unfolding lowest
zero_fine = part_fine none refl

pub whole_fine : {fs : List Declared} {d : Sorts fs} {n : ℕ} → Fine d n whole_amount RealSort
unfolding lowest
whole_fine = part_fine full refl

pub positive_fine : {fs : List Declared} {d : Sorts fs} {n : ℕ} {t : Term} → Fine d n t RealSort → Fine d n (less zero_amount t) BoolSort
positive_fine f = less_fine (inr refl) zero_fine f

pub sign_fine : {fs : List Declared} {d : Sorts fs} {n : ℕ} {t : Term} → Fine d n t RealSort → Fine d n (less_equal zero_amount t) BoolSort
sign_fine f = less_equal_fine (inr refl) zero_fine f

pub most_fine : {fs : List Declared} {d : Sorts fs} {n : ℕ} {t : Term} → Fine d n t RealSort → Fine d n (less_equal t whole_amount) BoolSort
most_fine f = less_equal_fine (inr refl) f whole_fine
