-- Terms are read off their tokens again.
use Rattle.std.proofs.Common.{◌≡◌, inl, inr, ℕ, zero, suc, ◌≤◌, ◌+◌, ◌-◌, ◌*◌, ◌/◌, ◌%◌, ◌++◌, ◌==◌, ◌&&◌, not, Bool, true, false, List, [], ◌∷◌, Option, Some, None, ℤ, pos, negsuc, codes, refl, arith, if◌then◌else◌, ap, ◌∙◌, sym, subst, append_assoc}
use Rattle.std.proofs.lemmas.Grind.{common_steps}
use Rattle.std.specs.List.{list_all}
use Rattle.vx_frac.specs.Fractions.{whole}
use Rattle.vx_sexp.specs.declared.token.Kind.{Kind}
use Rattle.vx_sexp.specs.declared.token.Kind.TheVariants as kind
use Rattle.vx_sexp.specs.declared.token.Token.{Token}
use Rattle.vx_sexp.specs.declared.token.Token.TheVariants.{Open, Close, Atom}
use Rattle.vx_sexp.specs.Characters.{is_digit}
use Rattle.vx_sexp.specs.Tokens.{is_empty, is_numeral, before_point}
use Rattle.vx_terms.specs.Sorts.{Sort, Symbol, Standard, Function, Variable, Named, Operator, And, Or, Implies, Equal, Less, LessEqual, Add, Subtract, Multiply, Div, Mod, same_text}
use Rattle.vx_terms.specs.Terms.{Term, Truth, Number, Part, Constant, Apply, Not, Binary, Ite, AllOf, SomeOf, Terms, NoTerms, MoreTerms}
use Rattle.vx_smt_meaning.specs.Words.{digits, numeral, decimal, symbol_word, operator_word, word, listed, signed_tokens, quotient_tokens, term_tokens, terms_tokens}
use Rattle.vx_smt_meaning.specs.Names.{IsName, IsFree, AreNames, AllAreNames}
use Rattle.vx_smt_text.specs.Unique.{has_three, IsSorted, AreSorted}
use Rattle.vx_smt_text.proofs.Digits.{digits_none, digits_more}
use Rattle.vx_smt_text.proofs.Words.{numeral_is, point_before, no_digit}

-- ---- texts

text_is : (x y : List ℕ) → same_text x y ≡ true → x ≡ y
text_is [] [] e = refl
text_is [] (b ∷ y) e = absurd (cc)
text_is (a ∷ x) [] e = absurd (cc)
text_is (a ∷ x) (b ∷ y) e =
    let head : a ≡ b = grind (arith, common_steps) in
    let tail : same_text x y ≡ true = grind (arith, common_steps) in
    rw (head, text_is x y tail) refl

pub text_same : (x : List ℕ) → same_text x x ≡ true
text_same [] = refl
text_same (a ∷ x) = let more = text_same x in grind (arith, common_steps)

pub text_other : (x y : List ℕ) → (x ≡ y → ⊥) → same_text x y ≡ false
text_other x y other = by_case (same_text x y) refl
  where
    by_case : (c : Bool) → same_text x y ≡ c → same_text x y ≡ false
    by_case true c = absurd (other (text_is x y c))
    by_case false c = c

-- ---- numbers

abbrev value_from : ℕ → List ℕ → ℕ
value_from a [] = a
value_from a (d ∷ ds) = value_from (a * 10 + (d - 48)) ds

abbrev pub value : List ℕ → ℕ
value = value_from 0

value_more : (a : ℕ) (xs : List ℕ) (d : ℕ) → value_from a (xs ++ d ∷ []) ≡ value_from a xs * 10 + (d - 48)
value_more a [] d = refl
value_more a (x ∷ xs) d = value_more (a * 10 + (x - 48)) xs d

value_by : (k n : ℕ) → n ≤ k → value (digits n) ≡ n
value_by k zero e = rw (digits_none 0 refl) refl
value_by zero (suc n) e = absurd (omega arith)
value_by (suc k) (suc n) e =
    let more = digits_more (suc n) (omega arith) in
    let ih : value (digits (suc n / 10)) ≡ suc n / 10 = value_by k (suc n / 10) (omega arith) in
    ap value more ∙ value_more 0 (digits (suc n / 10)) (48 + suc n % 10) ∙ omega arith

pub value_numeral : (n : ℕ) → value (numeral n) ≡ n
unfolding numeral
value_numeral zero = refl
value_numeral (suc n) =
    let some : (suc n == 0) ≡ false = grind (arith, common_steps) in
    rw some (value_by (suc n) (suc n) (omega arith))

pub value_decimal : (n : ℕ) → value (before_point (decimal n)) ≡ n
unfolding decimal
value_decimal n = ap value (point_before (numeral n) (48 ∷ []) (numeral_is n).1 no_digit).0 ∙ value_numeral n

-- ---- symbols

abbrev pub word_symbol : List ℕ → Symbol
word_symbol [] = Named []
word_symbol (b ∷ x) =
    if same_text (b ∷ x) (115 ∷ numeral (value x)) then Standard (value x)
    else (if same_text (b ∷ x) (102 ∷ numeral (value x)) then Function (value x)
    else (if same_text (b ∷ x) (118 ∷ numeral (value x)) then Variable (value x) else Named (b ∷ x)))

pub symbol_back : (f : Symbol) → IsName f → word_symbol (symbol_word f) ≡ f
symbol_back (Standard n) e = rw (value_numeral n, text_same (numeral n)) refl
symbol_back (Function n) e = rw (value_numeral n, text_same (numeral n)) refl
symbol_back (Variable n) e = rw (value_numeral n, text_same (numeral n)) refl
symbol_back (Named []) e = refl
symbol_back (Named (b ∷ x)) e = rw (
  text_other (b ∷ x) (115 ∷ numeral (value x)) (e.1.standard (value x)),
  text_other (b ∷ x) (102 ∷ numeral (value x)) (e.1.function (value x)),
  text_other (b ∷ x) (118 ∷ numeral (value x)) (e.1.variable (value x)),
) refl

-- a letter and then digits
abbrev is_lettered : List ℕ → Bool
is_lettered [] = false
is_lettered (c ∷ w) = list_all is_digit w && not (is_empty w)

some_digits : (n : ℕ) → list_all is_digit (numeral n) && not (is_empty (numeral n)) ≡ true
some_digits n = by_text (numeral n) (numeral_is n).0 (numeral_is n).1
  where
    by_text : (x : List ℕ) → is_numeral x ≡ true → list_all is_digit x ≡ true → list_all is_digit x && not (is_empty x) ≡ true
    by_text [] e f = absurd (cc)
    by_text (b ∷ x) e f = rw f refl

numbered_other : (b n : ℕ) (w : List ℕ) → is_lettered w ≡ false → same_text (b ∷ numeral n) w ≡ false
numbered_other b n w e = text_other (b ∷ numeral n) w (λ same. let h = some_digits n in let g : is_lettered (b ∷ numeral n) ≡ false = subst (λ x. is_lettered x ≡ false) (sym same) e in cc)

-- a symbol's word is no other word
symbol_other : (f : Symbol) (w : List ℕ) → IsName f → is_lettered w ≡ false → ((x : List ℕ) → IsFree x → x ≡ w → ⊥) → same_text (symbol_word f) w ≡ false
symbol_other (Standard n) w e plain free = numbered_other 115 n w plain
symbol_other (Function n) w e plain free = numbered_other 102 n w plain
symbol_other (Variable n) w e plain free = numbered_other 118 n w plain
symbol_other (Named x) w e plain free = text_other x w (free x e.1)

operator_other : (f : Symbol) (o : Operator) → IsName f → same_text (symbol_word f) (operator_word o) ≡ false
unfolding is_digit
operator_other f o e = symbol_other f (operator_word o) e (plain o) (λ x free. free.operator o)
  where
    plain : (o : Operator) → is_lettered (operator_word o) ≡ false
    plain And = refl
    plain Or = refl
    plain Implies = refl
    plain Equal = refl
    plain Less = refl
    plain LessEqual = refl
    plain Add = refl
    plain Subtract = refl
    plain Multiply = refl
    plain Div = refl
    plain Mod = refl

record HasNoMeaning (x : List ℕ) : Type 0 where
  not_true : same_text x (codes "true") ≡ false
  not_false : same_text x (codes "false") ≡ false
  not_not : same_text x (codes "not") ≡ false
  not_ite : same_text x (codes "ite") ≡ false
  not_slash : same_text x (codes "/") ≡ false

symbol_plain : (f : Symbol) → IsName f → HasNoMeaning (symbol_word f)
unfolding is_digit
symbol_plain f e = record {
  not_true = symbol_other f (codes "true") e refl (λ x free is. free.words (inl is));
  not_false = symbol_other f (codes "false") e refl (λ x free is. free.words (inr (inl is)));
  not_not = symbol_other f (codes "not") e refl (λ x free is. free.words (inr (inr (inl is))));
  not_ite = symbol_other f (codes "ite") e refl (λ x free is. free.words (inr (inr (inr (inl is)))));
  not_slash = symbol_other f (codes "/") e refl (λ x free is. free.words (inr (inr (inr (inr is)))));
}

-- ---- what a list of terms behind a word is

abbrev operator_of : List ℕ → Option Operator
operator_of w =
    if same_text w (operator_word And) then Some And
    else (if same_text w (operator_word Or) then Some Or
    else (if same_text w (operator_word Implies) then Some Implies
    else (if same_text w (operator_word Equal) then Some Equal
    else (if same_text w (operator_word Less) then Some Less
    else (if same_text w (operator_word LessEqual) then Some LessEqual
    else (if same_text w (operator_word Add) then Some Add
    else (if same_text w (operator_word Subtract) then Some Subtract
    else (if same_text w (operator_word Multiply) then Some Multiply
    else (if same_text w (operator_word Div) then Some Div
    else (if same_text w (operator_word Mod) then Some Mod else None))))))))))

minus : ℤ → ℤ
minus (pos n) = negsuc (n - 1)
minus (negsuc n) = pos (n + 1)

size_of : ℤ → ℕ
size_of (pos n) = n
size_of (negsuc n) = n

abbrev negative : Term → Term
negative (Number z) = Number (minus z)
negative (Part a) = Part (record { numerator = minus a.numerator; below = a.below })
negative t = t

abbrev quotient : Term → Term → Term
quotient (Part a) (Part b) = Part (record { numerator = a.numerator; below = size_of b.numerator - 1 })
quotient t u = t

abbrev many : Operator → Terms → Term
many Or ts = SomeOf ts
many o ts = AllOf ts

abbrev operated : Operator → Terms → Term
operated o NoTerms = Truth true
operated o (MoreTerms t NoTerms) = negative t
operated o (MoreTerms t (MoreTerms u NoTerms)) = Binary o t u
operated o (MoreTerms t (MoreTerms u (MoreTerms v ts))) = many o (MoreTerms t (MoreTerms u (MoreTerms v ts)))

abbrev first_of : Terms → Term
first_of NoTerms = Truth true
first_of (MoreTerms t ts) = t

abbrev later_of : Terms → Terms
later_of NoTerms = NoTerms
later_of (MoreTerms t ts) = ts

abbrev applied : (Symbol → Sort) → List ℕ → Option Operator → Terms → Term
applied sorts w (Some o) ts = operated o ts
applied sorts w None ts = Apply (word_symbol w) (sorts (word_symbol w)) ts

built : (Symbol → Sort) → List ℕ → Terms → Term
built sorts w ts =
    if same_text w (codes "not") then Not (first_of ts)
    else (if same_text w (codes "ite") then Ite (first_of ts) (first_of (later_of ts)) (first_of (later_of (later_of ts)))
    else (if same_text w (codes "/") then quotient (first_of ts) (first_of (later_of ts))
    else applied sorts w (operator_of w) ts))

abbrev atom_term : (Symbol → Sort) → Kind → List ℕ → Term
atom_term sorts kind.Numeral x = Number (pos (value x))
atom_term sorts kind.Decimal x = Part (whole (pos (value (before_point x))))
atom_term sorts k x =
    if same_text x (codes "true") then Truth true
    else (if same_text x (codes "false") then Truth false
    else Constant (word_symbol x) (sorts (word_symbol x)))

-- ---- the terms up to a closing parenthesis

abbrev pub with_term : Term → Option (Terms × List Token) → Option (Terms × List Token)
with_term t (Some found) = Some (MoreTerms t found.0, found.1)
with_term t None = None

abbrev behind_list : (Symbol → Sort) → List ℕ → Option (Terms × List Token) → (List Token → Option (Terms × List Token)) → Option (Terms × List Token)
behind_list sorts w (Some found) go = with_term (built sorts w found.0) (go found.1)
behind_list sorts w None go = None

pub read : (Symbol → Sort) → ℕ → List Token → Option (Terms × List Token)
read sorts zero ts = None
read sorts (suc n) [] = None
read sorts (suc n) (Close ∷ r) = Some (NoTerms, r)
read sorts (suc n) (Atom k x ∷ r) = with_term (atom_term sorts k x) (read sorts n r)
read sorts (suc n) (Open ∷ []) = None
read sorts (suc n) (Open ∷ Open ∷ r) = None
read sorts (suc n) (Open ∷ Close ∷ r) = None
read sorts (suc n) (Open ∷ Atom k w ∷ r) = behind_list sorts w (read sorts n r) (λ r1. read sorts n r1)

pub read_end : (sorts : Symbol → Sort) (n : ℕ) (y : List Token) → read sorts (suc n) (Close ∷ y) ≡ Some (NoTerms, y)
unfolding read
read_end sorts n y = refl

-- These tokens are read as this term, with so many steps or more.
abbrev pub Gives : (Symbol → Sort) → ℕ → List Token → Term → Type 0
Gives sorts k tokens t = (n : ℕ) → k ≤ n → (y : List Token) → read sorts (suc n) (tokens ++ y) ≡ with_term t (read sorts n y)

abbrev GivesAll : (Symbol → Sort) → ℕ → List Token → Terms → Type 0
GivesAll sorts k tokens ts = (n : ℕ) → k ≤ n → (y : List Token) → read sorts (suc n) (tokens ++ Close ∷ y) ≡ Some (ts, y)

gives_none : (sorts : Symbol → Sort) → GivesAll sorts 0 [] NoTerms
unfolding read
gives_none sorts n e y = refl

gives_more : (sorts : Symbol → Sort) (j k : ℕ) (a b : List Token) (t : Term) (ts : Terms) → Gives sorts j a t → GivesAll sorts k b ts → GivesAll sorts (suc (j + k)) (a ++ b) (MoreTerms t ts)
gives_more sorts j k a b t ts e f zero h y = absurd (omega arith)
gives_more sorts j k a b t ts e f (suc n) h y =
    ap (read sorts (suc (suc n))) (append_assoc a b (Close ∷ y)) ∙ e (suc n) (omega arith) (b ++ Close ∷ y) ∙ ap (with_term t) (f n (omega arith) y)

gives_list : (sorts : Symbol → Sort) (k : ℕ) (w : List ℕ) (a : List Token) (ts : Terms) (t : Term) → GivesAll sorts k a ts → built sorts w ts ≡ t → Gives sorts (suc k) (listed (word w ∷ a)) t
unfolding read
gives_list sorts k w a ts t e is zero h y = absurd (omega arith)
gives_list sorts k w a ts t e is (suc n) h y =
    ap (λ x. behind_list sorts w (read sorts (suc n) x) (λ r. read sorts (suc n) r)) (append_assoc a (Close ∷ []) y)
    ∙ ap (λ x. behind_list sorts w x (λ r. read sorts (suc n) r)) (e n (omega arith) y)
    ∙ ap (λ x. with_term x (read sorts (suc n) y)) is

gives_atom : (sorts : Symbol → Sort) (k : Kind) (x : List ℕ) (t : Term) → atom_term sorts k x ≡ t → Gives sorts 0 (Atom k x ∷ []) t
unfolding read
gives_atom sorts k x t is n h y = ap (λ z. with_term z (read sorts n y)) is

-- a term that is read
pub record Reads (sorts : Symbol → Sort) (tokens : List Token) (t : Term) : Type 0 where
  pub steps : ℕ
  pub gives : Gives sorts steps tokens t

record ReadsAll (sorts : Symbol → Sort) (tokens : List Token) (ts : Terms) : Type 0 where
  steps : ℕ
  gives : GivesAll sorts steps tokens ts

reads_none : (sorts : Symbol → Sort) → ReadsAll sorts [] NoTerms
reads_none sorts = record { steps = 0; gives = gives_none sorts }

reads_more : (sorts : Symbol → Sort) (a b : List Token) (t : Term) (ts : Terms) → Reads sorts a t → ReadsAll sorts b ts → ReadsAll sorts (a ++ b) (MoreTerms t ts)
reads_more sorts a b t ts e f = record { steps = suc (e.steps + f.steps); gives = gives_more sorts e.steps f.steps a b t ts e.gives f.gives }

reads_list : (sorts : Symbol → Sort) (w : List ℕ) (a : List Token) (ts : Terms) (t : Term) → ReadsAll sorts a ts → built sorts w ts ≡ t → Reads sorts (listed (word w ∷ a)) t
reads_list sorts w a ts t e is = record { steps = suc e.steps; gives = gives_list sorts e.steps w a ts t e.gives is }

reads_atom : (sorts : Symbol → Sort) (k : Kind) (x : List ℕ) (t : Term) → atom_term sorts k x ≡ t → Reads sorts (Atom k x ∷ []) t
reads_atom sorts k x t is = record { steps = 0; gives = gives_atom sorts k x t is }

append_none : {A : Type 0} (xs : List A) → xs ++ [] ≡ xs
append_none [] = refl
append_none (x ∷ xs) = ap (λ l. x ∷ l) (append_none xs)

-- one, two and three terms
one_term : (sorts : Symbol → Sort) (a : List Token) (t : Term) → Reads sorts a t → ReadsAll sorts a (MoreTerms t NoTerms)
one_term sorts a t e = subst (λ x. ReadsAll sorts x (MoreTerms t NoTerms)) (append_none a) (reads_more sorts a [] t NoTerms e (reads_none sorts))

two_terms : (sorts : Symbol → Sort) (a b : List Token) (t u : Term) → Reads sorts a t → Reads sorts b u → ReadsAll sorts (a ++ b) (MoreTerms t (MoreTerms u NoTerms))
two_terms sorts a b t u e f = reads_more sorts a b t (MoreTerms u NoTerms) e (one_term sorts b u f)

three_terms : (sorts : Symbol → Sort) (a b c : List Token) (t u v : Term) → Reads sorts a t → Reads sorts b u → Reads sorts c v
    → ReadsAll sorts (a ++ b ++ c) (MoreTerms t (MoreTerms u (MoreTerms v NoTerms)))
three_terms sorts a b c t u v e f g = subst (λ x. ReadsAll sorts x (MoreTerms t (MoreTerms u (MoreTerms v NoTerms)))) (sym (append_assoc a b c))
    (reads_more sorts a (b ++ c) t _ e (two_terms sorts b c u v f g))

-- ---- numbers

built_minus : (sorts : Symbol → Sort) (t : Term) → built sorts (codes "-") (MoreTerms t NoTerms) ≡ negative t
unfolding built
built_minus sorts t = refl

built_quotient : (sorts : Symbol → Sort) (t u : Term) → built sorts (codes "/") (MoreTerms t (MoreTerms u NoTerms)) ≡ quotient t u
unfolding built
built_quotient sorts t u = refl

one_back : (n : ℕ) → minus (pos (n + 1)) ≡ negsuc n
unfolding minus
one_back n = ap negsuc (omega arith)

reads_number : (sorts : Symbol → Sort) (z : ℤ) → Reads sorts (signed_tokens z (λ n. Atom kind.Numeral (numeral n) ∷ [])) (Number z)
reads_number sorts (pos n) = reads_atom sorts kind.Numeral (numeral n) (Number (pos n)) (ap (λ x. Number (pos x)) (value_numeral n))
reads_number sorts (negsuc n) =
    reads_list sorts (codes "-") _ (MoreTerms (Number (pos (n + 1))) NoTerms) (Number (negsuc n))
    (one_term sorts _ _ (reads_atom sorts kind.Numeral (numeral (n + 1)) (Number (pos (n + 1))) (ap (λ x. Number (pos x)) (value_numeral (n + 1)))))
    (built_minus sorts (Number (pos (n + 1))) ∙ ap Number (one_back n))

part : ℤ → ℕ → Term
part z d = Part (record { numerator = z; below = d })

reads_decimal : (sorts : Symbol → Sort) (p : ℕ) → Reads sorts (Atom kind.Decimal (decimal p) ∷ []) (Part (whole (pos p)))
reads_decimal sorts p = reads_atom sorts kind.Decimal (decimal p) (Part (whole (pos p))) (ap (λ x. Part (whole (pos x))) (value_decimal p))

quotient_is : (p d : ℕ) → quotient (Part (whole (pos p))) (Part (whole (pos (suc d + 1)))) ≡ Part (record { numerator = pos p; below = suc d })
unfolding size_of
quotient_is p d = let less : suc d + 1 - 1 ≡ suc d = omega arith in ap (λ x. Part (record { numerator = pos p; below = x })) less

reads_quotient : (sorts : Symbol → Sort) (p d : ℕ) → Reads sorts (quotient_tokens p d) (Part (record { numerator = pos p; below = d }))
reads_quotient sorts p zero = reads_decimal sorts p
reads_quotient sorts p (suc d) =
    reads_list sorts (codes "/") _ _ _ (two_terms sorts _ _ _ _ (reads_decimal sorts p) (reads_decimal sorts (suc d + 1)))
    (built_quotient sorts (Part (whole (pos p))) (Part (whole (pos (suc d + 1)))) ∙ quotient_is p d)

reads_part : (sorts : Symbol → Sort) (z : ℤ) (d : ℕ) → Reads sorts (signed_tokens z (λ p. quotient_tokens p d)) (Part (record { numerator = z; below = d }))
reads_part sorts (pos n) d = reads_quotient sorts n d
reads_part sorts (negsuc n) d =
    reads_list sorts (codes "-") _ _ _ (one_term sorts _ _ (reads_quotient sorts (n + 1) d))
    (built_minus sorts (Part (record { numerator = pos (n + 1); below = d })) ∙ ap (λ x. Part (record { numerator = x; below = d })) (one_back n))

-- ---- the other terms

built_not : (sorts : Symbol → Sort) (t : Term) → built sorts (codes "not") (MoreTerms t NoTerms) ≡ Not t
unfolding built
built_not sorts t = refl

built_ite : (sorts : Symbol → Sort) (c t u : Term) → built sorts (codes "ite") (MoreTerms c (MoreTerms t (MoreTerms u NoTerms))) ≡ Ite c t u
unfolding built
built_ite sorts c t u = refl

built_binary : (sorts : Symbol → Sort) (o : Operator) (t u : Term) → built sorts (operator_word o) (MoreTerms t (MoreTerms u NoTerms)) ≡ Binary o t u
unfolding built
built_binary sorts And t u = refl
built_binary sorts Or t u = refl
built_binary sorts Implies t u = refl
built_binary sorts Equal t u = refl
built_binary sorts Less t u = refl
built_binary sorts LessEqual t u = refl
built_binary sorts Add t u = refl
built_binary sorts Subtract t u = refl
built_binary sorts Multiply t u = refl
built_binary sorts Div t u = refl
built_binary sorts Mod t u = refl

built_all : (sorts : Symbol → Sort) (ts : Terms) → has_three ts ≡ true → built sorts (codes "and") ts ≡ AllOf ts
unfolding built
built_all sorts NoTerms e = absurd (cc)
built_all sorts (MoreTerms t NoTerms) e = absurd (cc)
built_all sorts (MoreTerms t (MoreTerms u NoTerms)) e = absurd (cc)
built_all sorts (MoreTerms t (MoreTerms u (MoreTerms v ts))) e = refl

built_some : (sorts : Symbol → Sort) (ts : Terms) → has_three ts ≡ true → built sorts (codes "or") ts ≡ SomeOf ts
unfolding built
built_some sorts NoTerms e = absurd (cc)
built_some sorts (MoreTerms t NoTerms) e = absurd (cc)
built_some sorts (MoreTerms t (MoreTerms u NoTerms)) e = absurd (cc)
built_some sorts (MoreTerms t (MoreTerms u (MoreTerms v ts))) e = refl

no_operator : (f : Symbol) → IsName f → operator_of (symbol_word f) ≡ None
no_operator f e = rw (
  operator_other f And e,
  operator_other f Or e,
  operator_other f Implies e,
  operator_other f Equal e,
  operator_other f Less e,
  operator_other f LessEqual e,
  operator_other f Add e,
  operator_other f Subtract e,
  operator_other f Multiply e,
  operator_other f Div e,
  operator_other f Mod e,
) refl

built_apply : (sorts : Symbol → Sort) (f : Symbol) (a : Sort) (ts : Terms) → IsName f → a ≡ sorts f → built sorts (symbol_word f) ts ≡ Apply f a ts
unfolding built
built_apply sorts f a ts e is =
    let plain = symbol_plain f e in
    rw (plain.not_not, plain.not_ite, plain.not_slash)
    (ap (λ o. applied sorts (symbol_word f) o ts) (no_operator f e) ∙ ap (λ g. Apply g (sorts g) ts) (symbol_back f e) ∙ ap (λ s. Apply f s ts) (sym is))

constant_back : (sorts : Symbol → Sort) (f : Symbol) (a : Sort) → IsName f → a ≡ sorts f → atom_term sorts kind.Symbol (symbol_word f) ≡ Constant f a
constant_back sorts f a e is =
    let plain = symbol_plain f e in
    rw (plain.not_true, plain.not_false) (ap (λ g. Constant g (sorts g)) (symbol_back f e) ∙ ap (Constant f) (sym is))

mutual
  pub reads_term : (sorts : Symbol → Sort) (t : Term) → AreNames t → IsSorted sorts t → Reads sorts (term_tokens t) t
  reads_term sorts (Truth true) e f = reads_atom sorts kind.Symbol (codes "true") (Truth true) refl
  reads_term sorts (Truth false) e f = reads_atom sorts kind.Symbol (codes "false") (Truth false) refl
  reads_term sorts (Number z) e f = reads_number sorts z
  reads_term sorts (Part a) e f = reads_part sorts a.numerator a.below
  reads_term sorts (Constant g a) e f = reads_atom sorts kind.Symbol (symbol_word g) (Constant g a) (constant_back sorts g a e f)
  reads_term sorts (Apply g a ts) e f = reads_list sorts (symbol_word g) _ ts _ (reads_terms sorts ts e.1 f.1) (built_apply sorts g a ts e.0 f.0)
  reads_term sorts (Not t) e f = reads_list sorts (codes "not") _ _ _ (one_term sorts _ _ (reads_term sorts t e f)) (built_not sorts t)
  reads_term sorts (Binary o t u) e f =
      reads_list sorts (operator_word o) _ _ _ (two_terms sorts _ _ _ _ (reads_term sorts t e.0 f.0) (reads_term sorts u e.1 f.1)) (built_binary sorts o t u)
  reads_term sorts (Ite c t u) e f =
      reads_list sorts (codes "ite") _ _ _ (three_terms sorts _ _ _ _ _ _ (reads_term sorts c e.0 f.0) (reads_term sorts t e.1 f.1) (reads_term sorts u e.2 f.2)) (built_ite sorts c t u)
  reads_term sorts (AllOf ts) e f = reads_list sorts (codes "and") _ ts _ (reads_terms sorts ts e f.1) (built_all sorts ts f.0)
  reads_term sorts (SomeOf ts) e f = reads_list sorts (codes "or") _ ts _ (reads_terms sorts ts e f.1) (built_some sorts ts f.0)

  reads_terms : (sorts : Symbol → Sort) (ts : Terms) → AllAreNames ts → AreSorted sorts ts → ReadsAll sorts (terms_tokens ts) ts
  reads_terms sorts NoTerms e f = reads_none sorts
  reads_terms sorts (MoreTerms t ts) e f = reads_more sorts (term_tokens t) (terms_tokens ts) t ts (reads_term sorts t e.0 f.0) (reads_terms sorts ts e.1 f.1)
