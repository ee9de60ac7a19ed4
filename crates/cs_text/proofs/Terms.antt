-- What is written for a term is read as that term, over symbols that have their words.
use Rattle.std.proofs.Common.{◌≡◌, ℕ, zero, suc, ◌<◌, ◌+◌, ◌^◌, true, false, ℤ, pos, negsuc, List, [], ◌∷◌, ◌++◌, map, Option, Some, None, codes, length, refl, ap, ap₂, ◌∙◌, sym, subst, add-one, append-nil, arith}
use Rattle.std.specs.Prelude.{nat_abs, if◌then◌else◌}
use Rattle.std.specs.Option.{option_map}
use Rattle.vx_frac.specs.Fractions.{Fraction, whole, lowest, product}
use Rattle.vx_sexp.specs.declared.token.Kind.TheVariants as kinds
use Rattle.vx_sexp.specs.declared.token.Token.{Token}
use Rattle.vx_sexp.specs.declared.token.Token.TheVariants.{Atom}
use Rattle.vx_terms.specs.Sorts.{Sort, Symbol, Operator, And, Or, Implies, Equal, Less, LessEqual, Add, Subtract, Multiply, Div, Mod}
use Rattle.vx_terms.specs.Terms.{Term, Truth, Number, Part, Constant, Apply, Not, Binary, Ite, AllOf, SomeOf, Terms, NoTerms, MoreTerms, sort_of}
use Rattle.vx_terms.specs.Formed.{Formed, truth, number, part, constant, applies, nots, binary, ites, all_of, some_of, FormedAll, no_terms, more_terms, FormedBools, no_bools, more_bools}
use Rattle.vx_smt_meaning.specs.Words as written
use Rattle.vx_smt_meaning.specs.Words.{operator_word, symbol_word, term_tokens, terms_tokens}
use Rattle.vx_smt_text.specs.Unique.{has_three}
use Rattle.cs_certificate.specs.Terms.{items}
use Rattle.cs_certificate.specs.Certificate.{Stack, IsLive, AreLive, AllLive}
use Rattle.cs_reader.specs.declared.word.Word.TheVariants as words
use Rattle.vx_terms.specs.declared.term.Operator.TheVariants as operators
use Rattle.cs_reader.specs.Items.{◌>>=◌}
use Rattle.cs_reader.specs.Spelling.{Scope, word, made, built, applied, alone, constant_of, listed, quotient_of, multiplied, spelled_at, if_whole, spelled}
use Rattle.cs_writable.specs.Writable.{has_some, IsWritableTerm, AreWritableTerms}
use Rattle.cs_commands.proofs.Literals.{frac, decimal_back, inverse_back, product_small, product_is, negative_number, negative_part, unsigned_lowest}
use Rattle.cs_text.proofs.Placed.{Reads, ReadsAll, reads_atom, reads_none, reads_more, reads_list, reads_one, reads_two, reads_three}
use Rattle.cs_commands.specs.Following.{HasWord}
use Rattle.cs_text.proofs.Words.{numeral_back, word_free}

-- ---- literals

reads_numeral : (scope : Scope) (n : ℕ) → n < 2 ^ 127 → Reads scope (Atom kinds.Numeral (written.numeral n) ∷ []) (Number (pos n))
reads_numeral scope n h = reads_atom scope kinds.Numeral (written.numeral n) (Number (pos n)) (ap (option_map (λ m. Number (pos m))) (numeral_back n h))

reads_number : (scope : Scope) (z : ℤ) → nat_abs z < 2 ^ 127 → Reads scope (written.signed_tokens z (λ n. Atom kinds.Numeral (written.numeral n) ∷ [])) (Number z)
reads_number scope (pos n) h = reads_numeral scope n h
reads_number scope (negsuc n) h =
    reads_list scope (codes "-") (Atom kinds.Numeral (written.numeral (n + 1)) ∷ []) (Number (pos (n + 1)) ∷ []) (Number (negsuc n))
    (reads_one scope (Atom kinds.Numeral (written.numeral (n + 1)) ∷ []) (Number (pos (n + 1))) (reads_numeral scope (n + 1) (omega arith)))
    (negative_number n)

reads_decimal : (scope : Scope) (n : ℕ) → n < 2 ^ 127 → Reads scope (Atom kinds.Decimal (written.decimal n) ∷ []) (Part (whole (pos n)))
reads_decimal scope n h = reads_atom scope kinds.Decimal (written.decimal n) (Part (whole (pos n))) (ap (option_map Part) (decimal_back n h))

quotient_back : (p d : ℕ) → p < 2 ^ 127 → suc (suc d) < 2 ^ 127 → lowest (frac (pos p) (suc d)) ≡ frac (pos p) (suc d) → quotient_of (whole (pos p)) (whole (pos (suc (suc d)))) ≡ Some (Part (frac (pos p) (suc d)))
quotient_back p d h k low =
    ap (λ o. o >>= by_inverse) (inverse_back d)
    ∙ ap (λ b. (if b then Some (lowest (product (whole (pos p)) (frac (pos 1) (suc d)))) else None) >>= λ q. Some (Part q)) (product_small p d h k)
    ∙ ap (λ q. Some (Part (lowest q))) (product_is p d)
    ∙ ap (λ q. Some (Part q)) low
  where
    by_inverse : Fraction → Option Term
    by_inverse i = multiplied (whole (pos p)) i >>= λ q. Some (Part q)

reads_quotient : (scope : Scope) (p d : ℕ) → p < 2 ^ 127 → suc d < 2 ^ 127 → lowest (frac (pos p) d) ≡ frac (pos p) d → Reads scope (written.quotient_tokens p d) (Part (frac (pos p) d))
reads_quotient scope p zero h k low = reads_decimal scope p h
reads_quotient scope p (suc d) h k low =
    reads_list scope (codes "/") (Atom kinds.Decimal (written.decimal p) ∷ Atom kinds.Decimal (written.decimal (suc d + 1)) ∷ [])
    (Part (whole (pos p)) ∷ Part (whole (pos (suc d + 1))) ∷ []) (Part (frac (pos p) (suc d)))
    (reads_two scope (Atom kinds.Decimal (written.decimal p) ∷ []) (Atom kinds.Decimal (written.decimal (suc d + 1)) ∷ []) (Part (whole (pos p))) (Part (whole (pos (suc d + 1))))
    (reads_decimal scope p h) (reads_decimal scope (suc d + 1) (omega arith)))
    (ap (λ n. quotient_of (whole (pos p)) (whole (pos n))) (add-one (suc d)) ∙ quotient_back p d h k low)

reads_part : (scope : Scope) (z : ℤ) (d : ℕ) → nat_abs z < 2 ^ 127 → suc d < 2 ^ 127 → lowest (frac z d) ≡ frac z d → Reads scope (written.signed_tokens z (λ p. written.quotient_tokens p d)) (Part (frac z d))
reads_part scope (pos n) d h k low = reads_quotient scope n d h k low
reads_part scope (negsuc n) d h k low =
    reads_list scope (codes "-") (written.quotient_tokens (n + 1) d) (Part (frac (pos (n + 1)) d) ∷ []) (Part (frac (negsuc n) d))
    (reads_one scope (written.quotient_tokens (n + 1) d) (Part (frac (pos (n + 1)) d))
    (reads_quotient scope (n + 1) d (omega arith) k (subst (λ m. lowest (frac (pos m) d) ≡ frac (pos m) d) (sym (add-one n)) (unsigned_lowest n d low))))
    (negative_part n d low)

-- ---- what is made of parts

listed_items : (ts : Terms) → listed (items ts) ≡ ts
listed_items NoTerms = refl
listed_items (MoreTerms t ts) = ap (MoreTerms t) (listed_items ts)

made_two : (scope : Scope) (o : Operator) (t u : Term) → made scope (operator_word o) (word (operator_word o)) (t ∷ u ∷ []) ≡ Some (Binary o t u)
made_two scope And t u = refl
made_two scope Or t u = refl
made_two scope Implies t u = refl
made_two scope Equal t u = refl
made_two scope Less t u = refl
made_two scope LessEqual t u = refl
made_two scope Add t u = refl
made_two scope Subtract t u = refl
made_two scope Multiply t u = refl
made_two scope Div t u = refl
made_two scope Mod t u = refl

built_all : (ts : Terms) → has_three ts ≡ true → built (words.Operator operators.And) (items ts) ≡ Some (AllOf ts)
built_all NoTerms e = absurd (cc)
built_all (MoreTerms t NoTerms) e = absurd (cc)
built_all (MoreTerms t (MoreTerms u NoTerms)) e = absurd (cc)
built_all (MoreTerms t (MoreTerms u (MoreTerms v ts))) e = ap (λ us. Some (AllOf (MoreTerms t (MoreTerms u (MoreTerms v us))))) (listed_items ts)

built_some : (ts : Terms) → has_three ts ≡ true → built (words.Operator operators.Or) (items ts) ≡ Some (SomeOf ts)
built_some NoTerms e = absurd (cc)
built_some (MoreTerms t NoTerms) e = absurd (cc)
built_some (MoreTerms t (MoreTerms u NoTerms)) e = absurd (cc)
built_some (MoreTerms t (MoreTerms u (MoreTerms v ts))) e = ap (λ us. Some (SomeOf (MoreTerms t (MoreTerms u (MoreTerms v us))))) (listed_items ts)

application : (f : Symbol) (a : Sort) (ts : Terms) → has_some ts ≡ true → applied (Some (f, a)) (items ts) ≡ Some (Apply f a ts)
application f a NoTerms e = absurd (cc)
application f a (MoreTerms t ts) e = ap (λ us. Some (Apply f a (MoreTerms t us))) (listed_items ts)

made_name : (scope : Scope) (f g : Symbol) (a : Sort) (ts : Terms) → HasWord f → scope (symbol_word f) ≡ Some (g, a) → has_some ts ≡ true → made scope (symbol_word f) (word (symbol_word f)) (items ts) ≡ Some (Apply g a ts)
made_name scope f g a ts name is e =
    ap (λ w. made scope (symbol_word f) w (items ts)) (word_free f name)
    ∙ (ap (λ o. applied o (items ts)) is ∙ application g a ts e)

leaf_name : (scope : Scope) (f g : Symbol) (a : Sort) → HasWord f → scope (symbol_word f) ≡ Some (g, a) → alone scope (symbol_word f) (word (symbol_word f)) ≡ Some (Constant g a)
leaf_name scope f g a name is = ap (alone scope (symbol_word f)) (word_free f name) ∙ ap constant_of is

-- ---- other symbols in the place of those that stand there

abbrev pub Renaming : Type 0
Renaming = Symbol → Sort → Symbol × Sort

abbrev mutual
  pub renamed : Renaming → Term → Term
  renamed r (Truth b) = Truth b
  renamed r (Number z) = Number z
  renamed r (Part a) = Part a
  renamed r (Constant f a) = Constant (r f a).0 (r f a).1
  renamed r (Apply f a ts) = Apply (r f a).0 (r f a).1 (all_renamed r ts)
  renamed r (Not t) = Not (renamed r t)
  renamed r (Binary o t u) = Binary o (renamed r t) (renamed r u)
  renamed r (Ite c t u) = Ite (renamed r c) (renamed r t) (renamed r u)
  renamed r (AllOf ts) = AllOf (all_renamed r ts)
  renamed r (SomeOf ts) = SomeOf (all_renamed r ts)

  pub all_renamed : Renaming → Terms → Terms
  all_renamed r NoTerms = NoTerms
  all_renamed r (MoreTerms t ts) = MoreTerms (renamed r t) (all_renamed r ts)

abbrev pub as_it_is : Renaming
as_it_is f a = (f, a)

mutual
  pub stays : (t : Term) → renamed as_it_is t ≡ t
  stays (Truth b) = refl
  stays (Number z) = refl
  stays (Part a) = refl
  stays (Constant f a) = refl
  stays (Apply f a ts) = ap (Apply f a) (all_stay ts)
  stays (Not t) = ap Not (stays t)
  stays (Binary o t u) = ap₂ (Binary o) (stays t) (stays u)
  stays (Ite c t u) = ap₂ (λ x y. Ite x y (renamed as_it_is u)) (stays c) (stays t) ∙ ap (Ite c t) (stays u)
  stays (AllOf ts) = ap AllOf (all_stay ts)
  stays (SomeOf ts) = ap SomeOf (all_stay ts)

  all_stay : (ts : Terms) → all_renamed as_it_is ts ≡ ts
  all_stay NoTerms = refl
  all_stay (MoreTerms t ts) = ap₂ MoreTerms (stays t) (all_stay ts)

three_stay : (r : Renaming) (ts : Terms) → has_three (all_renamed r ts) ≡ has_three ts
three_stay r NoTerms = refl
three_stay r (MoreTerms t NoTerms) = refl
three_stay r (MoreTerms t (MoreTerms u NoTerms)) = refl
three_stay r (MoreTerms t (MoreTerms u (MoreTerms v ts))) = refl

some_stay : (r : Renaming) (ts : Terms) → has_some (all_renamed r ts) ≡ has_some ts
some_stay r NoTerms = refl
some_stay r (MoreTerms t ts) = refl

-- ---- terms

abbrev whole_term : Term × List Token → Option Term
whole_term x = if_whole x.0 x.1

module _ (scope : Scope) (stack : Stack) (r : Renaming) (named : (f : Symbol) (ss : List Sort) (a : Sort) → IsLive stack f ss a → HasWord f)
    (known : (f : Symbol) (ss : List Sort) (a : Sort) → IsLive stack f ss a → scope (symbol_word f) ≡ Some (r f a)) (n : ℕ) where
  mutual
    pub term_back : {t : Term} {a : Sort} → Formed n t a → AreLive stack t → IsWritableTerm t → Reads scope (term_tokens t) (renamed r t)
    term_back (truth true) live small = reads_atom scope kinds.Symbol (codes "true") (Truth true) refl
    term_back (truth false) live small = reads_atom scope kinds.Symbol (codes "false") (Truth false) refl
    term_back (number z) live small = reads_number scope z small
    term_back (part a low) live small = reads_part scope a.numerator a.below small.0 small.1 low
    term_back (constant f a k) live small =
        reads_atom scope kinds.Symbol (symbol_word f) (Constant (r f a).0 (r f a).1) (leaf_name scope f (r f a).0 (r f a).1 (named f [] a live) (known f [] a live))
    term_back (applies f a {ts = ts} k fs) live small =
        reads_list scope (symbol_word f) (terms_tokens ts) (items (all_renamed r ts)) (Apply (r f a).0 (r f a).1 (all_renamed r ts))
        (terms_back fs live.1 small.1)
        (made_name scope f (r f a).0 (r f a).1 (all_renamed r ts) (named f (map sort_of (items ts)) a live.0) (known f (map sort_of (items ts)) a live.0) (some_stay r ts ∙ small.0))
    term_back (nots {t = t} f) live small =
        reads_list scope (codes "not") (term_tokens t) (renamed r t ∷ []) (Not (renamed r t)) (reads_one scope (term_tokens t) (renamed r t) (term_back f live small)) refl
    term_back (binary {o = o} {t = t} {u = u} h f g) live small =
        reads_list scope (operator_word o) (term_tokens t ++ term_tokens u) (renamed r t ∷ renamed r u ∷ []) (Binary o (renamed r t) (renamed r u))
        (reads_two scope (term_tokens t) (term_tokens u) (renamed r t) (renamed r u) (term_back f live.0 small.0) (term_back g live.1 small.1))
        (made_two scope o (renamed r t) (renamed r u))
    term_back (ites {c = c} {t = t} {u = u} e f g) live small =
        reads_list scope (codes "ite") (term_tokens c ++ term_tokens t ++ term_tokens u) (renamed r c ∷ renamed r t ∷ renamed r u ∷ []) (Ite (renamed r c) (renamed r t) (renamed r u))
        (reads_three scope (term_tokens c) (term_tokens t) (term_tokens u) (renamed r c) (renamed r t) (renamed r u)
        (term_back e live.0 small.0) (term_back f live.1 small.1) (term_back g live.2 small.2))
        refl
    term_back (all_of {ts = ts} fs) live small =
        reads_list scope (codes "and") (terms_tokens ts) (items (all_renamed r ts)) (AllOf (all_renamed r ts)) (bools_back fs live small.1) (built_all (all_renamed r ts) (three_stay r ts ∙ small.0))
    term_back (some_of {ts = ts} fs) live small =
        reads_list scope (codes "or") (terms_tokens ts) (items (all_renamed r ts)) (SomeOf (all_renamed r ts)) (bools_back fs live small.1) (built_some (all_renamed r ts) (three_stay r ts ∙ small.0))

    terms_back : {ts : Terms} → FormedAll n ts → AllLive stack ts → AreWritableTerms ts → ReadsAll scope (terms_tokens ts) (items (all_renamed r ts))
    terms_back no_terms live small = reads_none scope
    terms_back (more_terms {t = t} {ts = ts} a f fs) live small =
        reads_more scope (term_tokens t) (terms_tokens ts) (renamed r t) (items (all_renamed r ts)) (term_back f live.0 small.0) (terms_back fs live.1 small.1)

    bools_back : {ts : Terms} → FormedBools n ts → AllLive stack ts → AreWritableTerms ts → ReadsAll scope (terms_tokens ts) (items (all_renamed r ts))
    bools_back no_bools live small = reads_none scope
    bools_back (more_bools {t = t} {ts = ts} f fs) live small =
        reads_more scope (term_tokens t) (terms_tokens ts) (renamed r t) (items (all_renamed r ts)) (term_back f live.0 small.0) (bools_back fs live.1 small.1)

  pub term_spelled : {t : Term} {a : Sort} → Formed n t a → AreLive stack t → IsWritableTerm t → spelled scope (term_tokens t) ≡ Some (renamed r t)
  term_spelled {t = t} f live small =
      ap (λ us. spelled_at scope (length (term_tokens t)) us >>= whole_term) (sym (append-nil (term_tokens t)))
      ∙ ap (λ o. o >>= whole_term) ((term_back f live small).all (length (term_tokens t)) [] (omega arith))
