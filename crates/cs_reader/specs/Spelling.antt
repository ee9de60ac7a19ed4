-- The term that tokens spell, over the symbols of a scope.
use Rattle.std.specs.Prelude.{ℕ, zero, suc, ◌-◌, Bool, true, false, nat_eq, if◌then◌else◌, ℤ, pos, negsuc, neg_ℤ, List, [], ◌∷◌, length, slice_get, codes, Option, Some, None}
use Rattle.std.specs.Option.{option_map}
use Rattle.std.specs.Str.{bytes_eq}
use Rattle.vx_frac.specs.Fractions.{Fraction, lowest, sum, product, sum_fits, product_fits}
use Rattle.vx_frac.specs.Fraction.{ratio}
use Rattle.vx_sexp.specs.Characters.{is_digit}
use Rattle.vx_sexp.specs.Tokens.{before_point, behind_point}
use Rattle.vx_sexp.specs.declared.token.Kind.{Kind}
use Rattle.vx_sexp.specs.declared.token.Kind.TheVariants as kinds
use Rattle.vx_sexp.specs.declared.token.Token.{Token}
use Rattle.vx_sexp.specs.declared.token.Token.TheVariants.{Open, Close, Atom}
use Rattle.vx_terms.specs.Sorts.{Sort, IntSort, Symbol, Standard, Function, Variable, Named, Subtract, same_text}
use Rattle.vx_terms.specs.Terms.{Term, Truth, Number, Part, Constant, Apply, Not, Binary, Ite, AllOf, SomeOf, Terms, NoTerms, MoreTerms}
use Rattle.vx_terms.specs.Views.{operator}
use Rattle.vx_terms.specs.declared.term.Operator.TheVariants as operators
use Rattle.vx_smt_meaning.specs.Commands.{Declared}
use Rattle.cs_reader.specs.declared.word.Word.{Word}
use Rattle.cs_reader.specs.declared.word.Word.TheVariants as words
use Rattle.cs_reader.specs.Marks.{numeral}
use Rattle.cs_index.specs.Found.{first}
use Rattle.cs_reader.specs.Items.{◌>>=◌, items_for}

-- ---- symbols

abbrev pub is_number : ℕ → Option ℕ → Bool
is_number n None = false
is_number n (Some m) = nat_eq m n

-- a letter, and the numeral of this number
abbrev pub is_lettered : ℕ → ℕ → List ℕ → Bool
is_lettered letter n [] = false
is_lettered letter n (b ∷ bs) = if nat_eq b letter then is_number n (numeral bs) else false

-- the word of a symbol: s, f or v and its number, or its name
abbrev pub is_spelled : List ℕ → Symbol → Bool
is_spelled text (Standard n) = is_lettered 115 n text
is_spelled text (Function n) = is_lettered 102 n text
is_spelled text (Variable n) = is_lettered 118 n text
is_spelled text (Named x) = same_text text x

-- what a word names: a symbol, and the sort of its value
abbrev pub Scope : Type 0
Scope = List ℕ → Option (Symbol × Sort)

abbrev pub spelled_by : List ℕ → Declared → Bool
spelled_by text d = is_spelled text d.symbol

abbrev pub meaning_at : List Declared → ℕ → Option (Symbol × Sort)
meaning_at ds n = option_map (λ d. (d.symbol, d.gives)) (slice_get ds n)

-- the first of these symbols that is spelled so
abbrev pub among : List Declared → Scope
among ds text = first (spelled_by text) ds >>= meaning_at ds

-- each word names a symbol: which one is not looked at
abbrev pub any : Scope
any text = Some (Standard 0, IntSort)

-- ---- literals

abbrev pub summed : Fraction → Fraction → Option Fraction
summed a b = if sum_fits a b then Some (lowest (sum a b)) else None

abbrev pub multiplied : Fraction → Fraction → Option Fraction
multiplied a b = if product_fits a b then Some (lowest (product a b)) else None

abbrev pub over : ℤ → ℕ → Fraction
over z below = lowest (ratio z (pos (suc below)))

-- a digit in front of a part: both together, by 10
abbrev pub led_by : ℕ → Fraction → Option Fraction
led_by d part = if is_digit d then (summed part (over (pos (d - 48)) 0) >>= λ a. multiplied a (over (pos 1) 9)) else None

-- the digits behind a point, in front of a part
abbrev pub part_after : Fraction → List ℕ → Option Fraction
part_after part [] = Some part
part_after part (d ∷ ds) = part_after part ds >>= led_by d

-- a numeral, and the part behind its point
abbrev pub decimal : List ℕ → Option Fraction
decimal text = do
  n ← numeral (before_point text)
  part ← part_after (over (pos 0) 0) (behind_point text)
  summed part (over (pos n) 0)

-- what stands behind a minus is at least 0
abbrev pub below_zero : ℤ → ℕ → Option Term
below_zero (pos n) below = Some (Part (over (neg_ℤ (pos n)) below))
below_zero (negsuc n) below = None

abbrev pub negative : Term → Option Term
negative (Number (pos n)) = Some (Number (neg_ℤ (pos n)))
negative (Part a) = below_zero a.numerator a.below
negative t = None

-- 1 by a fraction above 0
abbrev pub inverse_of : ℤ → ℕ → Option Fraction
inverse_of (pos (suc n)) below = Some (over (pos (suc below)) n)
inverse_of z below = None

abbrev pub inverse : Fraction → Option Fraction
inverse a = inverse_of a.numerator a.below

abbrev pub quotient_of : Fraction → Fraction → Option Term
quotient_of a b = do
  i ← inverse b
  q ← multiplied a i
  Some (Part q)

abbrev pub quotient : Term → Term → Option Term
quotient (Part a) (Part b) = quotient_of a b
quotient t u = None

-- ---- terms

abbrev pub constant_of : Option (Symbol × Sort) → Option Term
constant_of None = None
constant_of (Some d) = Some (Constant d.0 d.1)

-- a word alone
abbrev pub alone : Scope → List ℕ → Word → Option Term
alone scope text (words.Truth b) = Some (Truth b)
alone scope text words.Name = constant_of (scope text)
alone scope text w = None

abbrev pub word : List ℕ → Word
word text =
    if bytes_eq text (codes "true") then words.Truth true else (
    if bytes_eq text (codes "false") then words.Truth false else (
    if bytes_eq text (codes "not") then words.Not else (
    if bytes_eq text (codes "ite") then words.Ite else (
    if bytes_eq text (codes "-") then words.Minus else (
    if bytes_eq text (codes "/") then words.Slash else (
    if bytes_eq text (codes "and") then words.Operator operators.And else (
    if bytes_eq text (codes "or") then words.Operator operators.Or else (
    if bytes_eq text (codes "=>") then words.Operator operators.Implies else (
    if bytes_eq text (codes "=") then words.Operator operators.Equal else (
    if bytes_eq text (codes "<") then words.Operator operators.Less else (
    if bytes_eq text (codes "<=") then words.Operator operators.LessEqual else (
    if bytes_eq text (codes "+") then words.Operator operators.Add else (
    if bytes_eq text (codes "*") then words.Operator operators.Multiply else (
    if bytes_eq text (codes "div") then words.Operator operators.Div else (
    if bytes_eq text (codes "mod") then words.Operator operators.Mod else (
    words.Name))))))))))))))))

abbrev pub leaf_of : Scope → Kind → List ℕ → Option Term
leaf_of scope kinds.Numeral text = option_map (λ n. Number (pos n)) (numeral text)
leaf_of scope kinds.Decimal text = option_map Part (decimal text)
leaf_of scope kinds.Symbol text = alone scope text (word text)
leaf_of scope kind text = None

abbrev pub leaf : Scope → Token → Option Term
leaf scope (Atom kind text) = leaf_of scope kind text
leaf scope token = None

abbrev pub listed : List Term → Terms
listed [] = NoTerms
listed (t ∷ ts) = MoreTerms t (listed ts)

abbrev pub applied : Option (Symbol × Sort) → List Term → Option Term
applied None ts = None
applied (Some d) [] = None
applied (Some d) (t ∷ ts) = Some (Apply d.0 d.1 (listed (t ∷ ts)))

-- a word before one part, and before two
abbrev pub of_one : Word → Term → Option Term
of_one words.Not t = Some (Not t)
of_one words.Minus t = negative t
of_one w t = None

abbrev pub of_two : Word → Term → Term → Option Term
of_two (words.Operator o) t u = Some (Binary (operator o) t u)
of_two words.Minus t u = Some (Binary Subtract t u)
of_two words.Slash t u = quotient t u
of_two w t u = None

abbrev pub choice : List Term → Option Term
choice (c ∷ t ∷ u ∷ []) = Some (Ite c t u)
choice ts = None

-- three parts or more; `and` and `or` alone have any number of them
abbrev pub of_more : Word → List Term → Option Term
of_more words.Ite ts = choice ts
of_more (words.Operator operators.And) ts = Some (AllOf (listed ts))
of_more (words.Operator operators.Or) ts = Some (SomeOf (listed ts))
of_more w ts = None

abbrev pub built : Word → List Term → Option Term
built w [] = None
built w (t ∷ []) = of_one w t
built w (t ∷ u ∷ []) = of_two w t u
built w ts = of_more w ts

-- a word before its parts
abbrev pub made : Scope → List ℕ → Word → List Term → Option Term
made scope text words.Name ts = applied (scope text) ts
made scope text w ts = built w ts

-- ---- reading

abbrev pub Reader : Type 0
Reader = List Token → Option (Term × List Token)

-- a term, or the closing parenthesis
abbrev pub part_at : Reader → List Token → Option (Option Term × List Token)
part_at read [] = None
part_at read (Close ∷ ts) = Some (None, ts)
part_at read (t ∷ ts) = do
  x ← read (t ∷ ts)
  Some (Some x.0, x.1)

-- the terms to the closing parenthesis; there are no more of them than tokens
abbrev pub parts_at : Reader → List Token → Option (List Term × List Token)
parts_at read ts = items_for (part_at read) (length ts) ts

abbrev pub symbol_of : Kind → List ℕ → Option (List ℕ)
symbol_of kinds.Symbol text = Some text
symbol_of kind text = None

abbrev pub symbol_in : Token → Option (List ℕ)
symbol_in (Atom kind text) = symbol_of kind text
symbol_in t = None

-- what stands behind an opening parenthesis
abbrev pub listed_at : Scope → Reader → Reader
listed_at scope read [] = None
listed_at scope read (t ∷ ts) = do
  text ← symbol_in t
  parts ← parts_at read ts
  u ← made scope text (word text) parts.0
  Some (u, parts.1)

abbrev pub term_by : Scope → Reader → Reader
term_by scope read [] = None
term_by scope read (Open ∷ ts) = listed_at scope read ts
term_by scope read (t ∷ ts) = do
  x ← leaf scope t
  Some (x, ts)

-- of at most so many lists within one another
abbrev pub spelled_at : Scope → ℕ → Reader
spelled_at scope zero ts = None
spelled_at scope (suc room) ts = term_by scope (spelled_at scope room) ts

abbrev pub if_whole : Term → List Token → Option Term
if_whole t [] = Some t
if_whole t (u ∷ us) = None

-- the term that all the tokens spell
abbrev pub spelled : Scope → List Token → Option Term
spelled scope ts = do
  x ← spelled_at scope (length ts) ts
  if_whole x.0 x.1
