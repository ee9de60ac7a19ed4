-- What is written for a well-sorted term over declared symbols is read as that term.
use Rattle.std.proofs.Common.{◌≡◌, inl, inr, ◌⊎◌, ℕ, not, Bool, true, false, List, [], ◌∷◌, ◌++◌, Ok, refl, ap, ap₂, ◌∙◌, codes}
use Rattle.std.specs.List.{list_all}
use Rattle.vx_sexp.specs.declared.token.Kind.TheVariants as kinds
use Rattle.vx_sexp.specs.Tokens.{is_empty}
use Rattle.vx_frac.proofs.Fits.{both_true}
use Rattle.vx_terms.specs.Sorts.{Sort, IntSort, BoolSort, RealSort, Symbol, Operator, And, Or, Implies, Equal, Less, LessEqual, Add, Subtract, Multiply, Div, Mod, Takes, same_sort}
use Rattle.vx_terms.specs.Terms.{Term, Truth, Constant, Apply, Not, Binary, Ite, AllOf, SomeOf, Terms, NoTerms, MoreTerms, sort_of}
use Rattle.vx_terms.specs.Formed.{Formed, truth, number, part, constant, applies, nots, binary, ites, all_of, some_of, FormedAll, no_terms, more_terms, FormedBools, no_bools, more_bools}
use Rattle.vx_terms.proofs.Values.{sort_of_formed}
use Rattle.vx_smt_meaning.specs.Symbols.{declaration, sorts_of, UsesDeclared, AllUseDeclared}
use Rattle.vx_smt_meaning.specs.Names.{AreNames, AllAreNames}
use Rattle.vx_smt_meaning.specs.Words.{operator_word, symbol_word, word, term_tokens, terms_tokens}
use Rattle.vx_smt_text.specs.Unique.{has_three}
use Rattle.cs_reader.specs.Spelling.{listed}
use Rattle.cs_commands.specs.Live.{Scope}
use Rattle.cs_commands.specs.Heads.{Head, NotHead, IteHead, MinusHead, OperatorHead, SymbolHead, head_at}
use Rattle.cs_commands.specs.Building.{is_bool, takes, is_number_sort, have_sorts, if_sorted, operation_of_two, operation_of_many, built}
use Rattle.cs_writable.specs.Writable.{has_some}
use Rattle.cs_commands.specs.Laws.{AreApart, IsReadable, AreReadable}
use Rattle.cs_commands.proofs.Placing.{Reads, ReadsAll, reads_atom, reads_none, reads_more, reads_list, reads_one, reads_two, reads_three}
use Rattle.cs_commands.proofs.Literals.{reads_number, reads_part}
use Rattle.cs_commands.proofs.Declarations.{sort_same, declared_found, symbol_before, symbol_alone}

-- ---- lists

abbrev pub items : Terms → List Term
items NoTerms = []
items (MoreTerms t ts) = t ∷ items ts

pub listed_items : (ts : Terms) → listed (items ts) ≡ ts
listed_items NoTerms = refl
listed_items (MoreTerms t ts) = ap (MoreTerms t) (listed_items ts)

some_items : (ts : Terms) → has_some ts ≡ true → is_empty (items ts) ≡ false
some_items NoTerms e = absurd (cc)
some_items (MoreTerms t ts) e = refl

own_sorts : (ts : Terms) → have_sorts (items ts) (sorts_of ts) ≡ true
own_sorts NoTerms = refl
own_sorts (MoreTerms t ts) = both_true (same_sort (sort_of t) (sort_of t)) (have_sorts (items ts) (sorts_of ts)) (sort_same (sort_of t)) (own_sorts ts)

-- ---- sorts

pub bool_is : {n : ℕ} {t : Term} → Formed n t BoolSort → is_bool t ≡ true
bool_is f = ap (λ a. same_sort a BoolSort) (sort_of_formed f)

bools_are : {n : ℕ} {ts : Terms} → FormedBools n ts → list_all is_bool (items ts) ≡ true
bools_are no_bools = refl
bools_are (more_bools {t = t} {ts = ts} f fs) = both_true (is_bool t) (list_all is_bool (items ts)) (bool_is f) (bools_are fs)

same_of : {n : ℕ} {t u : Term} {a : Sort} → Formed n t a → Formed n u a → same_sort (sort_of u) (sort_of t) ≡ true
same_of {a = a} f g = ap₂ same_sort (sort_of_formed g) (sort_of_formed f) ∙ sort_same a

number_sort : (a : Sort) → (a ≡ IntSort) ⊎ (a ≡ RealSort) → is_number_sort a ≡ true
number_sort a (inl e) = ap is_number_sort e
number_sort a (inr e) = ap is_number_sort e

taken : (o : Operator) (a : Sort) → Takes o a → takes o a ≡ true
taken And a h = ap (λ x. same_sort x BoolSort) h
taken Or a h = ap (λ x. same_sort x BoolSort) h
taken Implies a h = ap (λ x. same_sort x BoolSort) h
taken Equal a h = refl
taken Less a h = number_sort a h
taken LessEqual a h = number_sort a h
taken Add a h = number_sort a h
taken Subtract a h = number_sort a h
taken Multiply a h = number_sort a h
taken Div a h = ap (λ x. same_sort x IntSort) h
taken Mod a h = ap (λ x. same_sort x IntSort) h

-- ---- heads

abbrev pub head_for : Operator → Head
head_for Subtract = MinusHead
head_for And = OperatorHead And
head_for Or = OperatorHead Or
head_for Implies = OperatorHead Implies
head_for Equal = OperatorHead Equal
head_for Less = OperatorHead Less
head_for LessEqual = OperatorHead LessEqual
head_for Add = OperatorHead Add
head_for Multiply = OperatorHead Multiply
head_for Div = OperatorHead Div
head_for Mod = OperatorHead Mod

pub operator_before : (scope : Scope) (o : Operator) → head_at scope (word (operator_word o)) ≡ Ok (head_for o)
operator_before scope And = refl
operator_before scope Or = refl
operator_before scope Implies = refl
operator_before scope Equal = refl
operator_before scope Less = refl
operator_before scope LessEqual = refl
operator_before scope Add = refl
operator_before scope Subtract = refl
operator_before scope Multiply = refl
operator_before scope Div = refl
operator_before scope Mod = refl

pub built_two : (o : Operator) (decimals : Bool) (t u : Term) → built (head_for o) decimals (t ∷ u ∷ []) ≡ operation_of_two o t u
built_two And decimals t u = refl
built_two Or decimals t u = refl
built_two Implies decimals t u = refl
built_two Equal decimals t u = refl
built_two Less decimals t u = refl
built_two LessEqual decimals t u = refl
built_two Add decimals t u = refl
built_two Subtract decimals t u = refl
built_two Multiply decimals t u = refl
built_two Div decimals t u = refl
built_two Mod decimals t u = refl

built_operation : (n : ℕ) (o : Operator) (decimals : Bool) (t u : Term) (a : Sort) → Takes o a → Formed n t a → Formed n u a → built (head_for o) decimals (t ∷ u ∷ []) ≡ Ok (Binary o t u)
built_operation n o decimals t u a h f g =
    built_two o decimals t u
    ∙ ap (λ b. if_sorted b (Binary o t u)) (both_true (takes o (sort_of t)) (same_sort (sort_of u) (sort_of t)) (ap (takes o) (sort_of_formed f) ∙ taken o a h) (same_of f g))

built_many : (o : Operator) (decimals : Bool) (ts : Terms) → has_three ts ≡ true → built (OperatorHead o) decimals (items ts) ≡ operation_of_many o (items ts)
built_many o decimals NoTerms e = absurd (cc)
built_many o decimals (MoreTerms t NoTerms) e = absurd (cc)
built_many o decimals (MoreTerms t (MoreTerms u NoTerms)) e = absurd (cc)
built_many o decimals (MoreTerms t (MoreTerms u (MoreTerms v ts))) e = refl

built_all : (n : ℕ) (decimals : Bool) (ts : Terms) → has_three ts ≡ true → FormedBools n ts → built (OperatorHead And) decimals (items ts) ≡ Ok (AllOf ts)
built_all n decimals ts e fs = built_many And decimals ts e ∙ ap₂ (λ b us. if_sorted b (AllOf us)) (bools_are fs) (listed_items ts)

built_some : (n : ℕ) (decimals : Bool) (ts : Terms) → has_three ts ≡ true → FormedBools n ts → built (OperatorHead Or) decimals (items ts) ≡ Ok (SomeOf ts)
built_some n decimals ts e fs = built_many Or decimals ts e ∙ ap₂ (λ b us. if_sorted b (SomeOf us)) (bools_are fs) (listed_items ts)

built_application : (f : Symbol) (a : Sort) (decimals : Bool) (ts : Terms) → has_some ts ≡ true → built (SymbolHead (declaration f (sorts_of ts) a)) decimals (items ts) ≡ Ok (Apply f a ts)
built_application f a decimals ts e =
    ap₂ (λ b us. if_sorted b (Apply f a us)) (both_true (not (is_empty (items ts))) (have_sorts (items ts) (sorts_of ts)) (ap not (some_items ts e)) (own_sorts ts)) (listed_items ts)

-- ---- terms

module _ (scope : Scope) (apart : AreApart scope.symbols) (n : ℕ) where
  mutual
    pub term_back : {t : Term} {a : Sort} → Formed n t a → AreNames t → UsesDeclared scope.symbols t → IsReadable t → Reads scope (term_tokens t) t
    term_back (truth true) names live small = reads_atom scope kinds.Symbol (codes "true") (Truth true) refl
    term_back (truth false) names live small = reads_atom scope kinds.Symbol (codes "false") (Truth false) refl
    term_back (number z) names live small = reads_number scope z small
    term_back (part a low) names live small = reads_part scope a.numerator a.below small.0 small.1 low
    term_back (constant f a k) names live small =
        reads_atom scope kinds.Symbol (symbol_word f) (Constant f a) (symbol_alone scope f a names small (declared_found scope.symbols (declaration f [] a) apart live))
    term_back (applies f a {ts = ts} k fs) names live small =
        reads_list scope (symbol_word f) (terms_tokens ts) (SymbolHead (declaration f (sorts_of ts) a)) (items ts) (Apply f a ts)
        (symbol_before scope f (declaration f (sorts_of ts) a) names.0 small.0 (declared_found scope.symbols (declaration f (sorts_of ts) a) apart live.0))
        (terms_back fs names.1 live.1 small.2)
        (λ decimals. built_application f a decimals ts small.1)
    term_back (nots {t = t} f) names live small =
        reads_list scope (codes "not") (term_tokens t) NotHead (t ∷ []) (Not t) refl
        (reads_one scope (term_tokens t) t (term_back f names live small))
        (λ decimals. ap (λ b. if_sorted b (Not t)) (bool_is f))
    term_back (binary {o = o} {t = t} {u = u} {a = a} h f g) names live small =
        reads_list scope (operator_word o) (term_tokens t ++ term_tokens u) (head_for o) (t ∷ u ∷ []) (Binary o t u) (operator_before scope o)
        (reads_two scope (term_tokens t) (term_tokens u) t u (term_back f names.0 live.0 small.0) (term_back g names.1 live.1 small.1))
        (λ decimals. built_operation n o decimals t u a h f g)
    term_back (ites {c = c} {t = t} {u = u} e f g) names live small =
        reads_list scope (codes "ite") (term_tokens c ++ term_tokens t ++ term_tokens u) IteHead (c ∷ t ∷ u ∷ []) (Ite c t u) refl
        (reads_three scope (term_tokens c) (term_tokens t) (term_tokens u) c t u (term_back e names.0 live.0 small.0) (term_back f names.1 live.1 small.1) (term_back g names.2 live.2 small.2))
        (λ decimals. ap (λ b. if_sorted b (Ite c t u)) (both_true (is_bool c) (same_sort (sort_of u) (sort_of t)) (bool_is e) (same_of f g)))
    term_back (all_of {ts = ts} fs) names live small =
        reads_list scope (codes "and") (terms_tokens ts) (OperatorHead And) (items ts) (AllOf ts) refl (bools_back fs names live small.1) (λ decimals. built_all n decimals ts small.0 fs)
    term_back (some_of {ts = ts} fs) names live small =
        reads_list scope (codes "or") (terms_tokens ts) (OperatorHead Or) (items ts) (SomeOf ts) refl (bools_back fs names live small.1) (λ decimals. built_some n decimals ts small.0 fs)

    terms_back : {ts : Terms} → FormedAll n ts → AllAreNames ts → AllUseDeclared scope.symbols ts → AreReadable ts → ReadsAll scope (terms_tokens ts) (items ts)
    terms_back no_terms names live small = reads_none scope
    terms_back (more_terms {t = t} {ts = ts} a f fs) names live small =
        reads_more scope (term_tokens t) (terms_tokens ts) t (items ts) (term_back f names.0 live.0 small.0) (terms_back fs names.1 live.1 small.1)

    bools_back : {ts : Terms} → FormedBools n ts → AllAreNames ts → AllUseDeclared scope.symbols ts → AreReadable ts → ReadsAll scope (terms_tokens ts) (items ts)
    bools_back no_bools names live small = reads_none scope
    bools_back (more_bools {t = t} {ts = ts} f fs) names live small =
        reads_more scope (term_tokens t) (terms_tokens ts) t (items ts) (term_back f names.0 live.0 small.0) (bools_back fs names.1 live.1 small.1)
