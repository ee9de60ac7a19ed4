-- What is written for a well-sorted term over declared symbols is read as one that says the same, or refused.
use Rattle.std.proofs.Common.{◌≡◌, inl, inr, ◌⊎◌, ℕ, zero, suc, ◌<◌, ◌+◌, ◌^◌, not, ◌&&◌, Bool, true, false, List, [], ◌∷◌, ◌++◌, map, Option, Some, None, Result, Ok, Err, refl, ap, ◌∙◌, sym, subst, append_assoc, append-nil, codes, arith, pos, negsuc, ℤ}
use Rattle.std.specs.Prelude.{nat_abs}
use Rattle.vx_sexp.specs.declared.token.Kind.{Kind}
use Rattle.vx_sexp.specs.declared.token.Kind.TheVariants as kinds
use Rattle.vx_sexp.specs.declared.token.Token.{Token}
use Rattle.vx_sexp.specs.declared.token.Token.TheVariants.{Close, Atom}
use Rattle.vx_sexp.specs.Tokens.{is_empty}
use Rattle.vx_frac.specs.Fractions.{Fraction, whole, lowest}
use Rattle.vx_frac.proofs.Whole.{lowest_whole}
use Rattle.vx_terms.specs.Sorts.{Sort, Symbol, Operator, And, Or}
use Rattle.vx_terms.specs.Terms.{Term, Truth, Number, Part, Constant, Apply, Not, Binary, Ite, AllOf, SomeOf, Terms, NoTerms, MoreTerms}
use Rattle.vx_terms.specs.Formed.{Formed, truth, number, part, constant, applies, nots, binary, ites, all_of, some_of, FormedAll, no_terms, more_terms, FormedBools, no_bools, more_bools}
use Rattle.vx_smt_meaning.specs.Commands.{Declared}
use Rattle.vx_smt_meaning.specs.Symbols.{declaration, Declares, sorts_of, UsesDeclared, AllUseDeclared}
use Rattle.vx_smt_meaning.specs.Names.{AreNames, AllAreNames, IsName}
use Rattle.vx_smt_meaning.specs.Words as written
use Rattle.vx_smt_meaning.specs.Words.{operator_word, symbol_word, word, term_tokens, terms_tokens}
use Rattle.vx_smt_text.proofs.Words.{symbol_is, numeral_is, point_before, no_digit}
use Rattle.cs_reader.specs.Spelling.{listed, decimal}
use Rattle.cs_commands.specs.declared.fault.CommandFault.{CommandFault}
use Rattle.cs_commands.specs.declared.fault.CommandFault.TheVariants as faults
use Rattle.cs_commands.specs.Outcomes.{◌>>=◌, or_fault}
use Rattle.cs_commands.specs.Names.{number_below}
use Rattle.cs_commands.specs.Live.{Scope, declared_as, declaration as declaration_of}
use Rattle.cs_commands.specs.Heads.{Head, NotHead, IteHead, MinusHead, SlashHead, OperatorHead, SymbolHead, head_at, head_of, symbol_head}
use Rattle.cs_commands.specs.Building.{have_sorts, built}
use Rattle.cs_commands.specs.Terms.{leaf, alone, if_declared, is_decimal, Frame, opened, with_part, Placed, placed, go_on, term_from}
use Rattle.cs_commands.specs.Laws.{AreApart}
use Rattle.cs_commands.proofs.Numerals.{number_back}
use Rattle.cs_commands.proofs.Spellings.{symbol_text, symbol_is_name}
use Rattle.cs_commands.proofs.Declarations.{declared_found}
use Rattle.cs_commands.proofs.Literals.{same_numeral, reads_number, reads_part}
use Rattle.cs_commands.proofs.Placing.{Reads, ReadsAll, list_as, reads_atom, reads_none, reads_more}
use Rattle.cs_commands.proofs.WrittenTerms.{head_for, operator_before, built_two}
use Rattle.vx_companion.proofs.Originals.{read_as, small_or_wide}
use Rattle.vx_companion.proofs.Likes.{IsLike, AreLike, BuildsLike, like_truth, like_constant, like_application, if_like, builds_not, builds_choice, builds_two, builds_all, builds_some}

-- ---- tokens that are refused within any lists and before any rest

abbrev pub Fails : Scope → List Frame → List Token → Type 0
Fails scope fs tokens = (e : CommandFault) × (term_from scope fs tokens ≡ Err e)

abbrev pub Refuses : Scope → List Token → Type 0
Refuses scope tokens = (fs : List Frame) (rest : List Token) → Fails scope fs (tokens ++ rest)

abbrev pub RefusesAll : Scope → List Token → Type 0
RefusesAll scope tokens = (f : Frame) (fs : List Frame) (rest : List Token) → Fails scope (f ∷ fs) (tokens ++ rest)

-- ---- tokens that are read as what says the same

abbrev pub ReadsLike : Scope → List Token → Term → Type 0
ReadsLike scope tokens t = Refuses scope tokens ⊎ ((u : Term) × Reads scope tokens u × IsLike u t)

abbrev pub ReadsAllLike : Scope → List Token → Terms → Type 0
ReadsAllLike scope tokens ts = RefusesAll scope tokens ⊎ ((us : List Term) × ReadsAll scope tokens us × AreLike us ts)

module _ (scope : Scope) where
  refused_atom : (k : Kind) (x : List ℕ) (e : CommandFault) → leaf scope k x ≡ Err e → Refuses scope (Atom k x ∷ [])
  refused_atom k x e is fs rest = (e, ap (λ o. o >>= (λ t. go_on (placed (is_decimal k) t fs) rest (λ gs. term_from scope gs rest))) is)

  like_atom : (k : Kind) (x : List ℕ) (t : Term) (r : Result Term CommandFault) → leaf scope k x ≡ r → BuildsLike r t → ReadsLike scope (Atom k x ∷ []) t
  like_atom k x t (Ok u) is h = inr (u, reads_atom scope k x u is, h)
  like_atom k x t (Err e) is h = inl (refused_atom k x e is)

  same : (t : Term) → IsLike t t → (tokens : List Token) → Reads scope tokens t → ReadsLike scope tokens t
  same t like tokens reads = inr (t, reads, like)

  -- ---- lists

  all_none : ReadsAllLike scope [] NoTerms
  all_none = inr ([], reads_none scope, tt)

  first_refused : (a b : List Token) → Refuses scope a → RefusesAll scope (a ++ b)
  first_refused a b missed f fs rest =
      let fails = missed (f ∷ fs) (b ++ rest) in
      (fails.0, ap (term_from scope (f ∷ fs)) (append_assoc a b rest) ∙ fails.1)

  later_refused : (a b : List Token) (u : Term) → Reads scope a u → RefusesAll scope b → RefusesAll scope (a ++ b)
  later_refused a b u reads missed f fs rest =
      let fails = missed (with_part f reads.0 u) fs rest in
      (fails.0, ap (term_from scope (f ∷ fs)) (append_assoc a b rest) ∙ reads.1 (f ∷ fs) (b ++ rest) ∙ fails.1)

  all_more : (a b : List Token) (t : Term) (ts : Terms) → ReadsLike scope a t → ReadsAllLike scope b ts → ReadsAllLike scope (a ++ b) (MoreTerms t ts)
  all_more a b t ts (inl missed) g = inl (first_refused a b missed)
  all_more a b t ts (inr h) (inl missed) = inl (later_refused a b h.0 h.1 missed)
  all_more a b t ts (inr h) (inr g) = inr (h.0 ∷ g.0, reads_more scope a b h.0 g.0 h.1 g.1, (h.2, g.2))

  all_one : (a : List Token) (t : Term) → ReadsLike scope a t → ReadsAllLike scope a (MoreTerms t NoTerms)
  all_one a t h = subst (λ x. ReadsAllLike scope x (MoreTerms t NoTerms)) (append-nil a) (all_more a [] t NoTerms h all_none)

  all_two : (a b : List Token) (t u : Term) → ReadsLike scope a t → ReadsLike scope b u → ReadsAllLike scope (a ++ b) (MoreTerms t (MoreTerms u NoTerms))
  all_two a b t u h g = all_more a b t (MoreTerms u NoTerms) h (all_one b u g)

  all_three : (a b c : List Token) (t u v : Term) → ReadsLike scope a t → ReadsLike scope b u → ReadsLike scope c v
      → ReadsAllLike scope (a ++ b ++ c) (MoreTerms t (MoreTerms u (MoreTerms v NoTerms)))
  all_three a b c t u v h g k =
      subst (λ x. ReadsAllLike scope x (MoreTerms t (MoreTerms u (MoreTerms v NoTerms)))) (sym (append_assoc a b c))
      (all_more a (b ++ c) t (MoreTerms u (MoreTerms v NoTerms)) h (all_two b c u v g k))

  head_refused : (w : List ℕ) (a : List Token) (e : CommandFault) → head_at scope (word w) ≡ Err e → Refuses scope (written.listed (word w ∷ a))
  head_refused w a e is fs rest = (e, ap (λ o. o >>= (λ g. term_from scope (opened g ∷ fs) ((a ++ Close ∷ []) ++ rest))) is)

  parts_refused : (w : List ℕ) (a : List Token) (h : Head) → head_at scope (word w) ≡ Ok h → RefusesAll scope a → Refuses scope (written.listed (word w ∷ a))
  parts_refused w a h is missed fs rest =
      let fails = missed (opened h) fs (Close ∷ rest) in (
        fails.0,
        ap (λ o. o >>= (λ g. term_from scope (opened g ∷ fs) ((a ++ Close ∷ []) ++ rest))) is
            ∙ ap (term_from scope (opened h ∷ fs)) (append_assoc a (Close ∷ []) rest) ∙ fails.1,
      )

  built_refused : (w : List ℕ) (a : List Token) (h : Head) (us : List Term) (e : CommandFault) → head_at scope (word w) ≡ Ok h → (reads : ReadsAll scope a us) → built h reads.0 us ≡ Err e
      → Refuses scope (written.listed (word w ∷ a))
  built_refused w a h us e is reads none fs rest = (
    e,
    ap (λ o. o >>= (λ g. term_from scope (opened g ∷ fs) ((a ++ Close ∷ []) ++ rest))) is
        ∙ ap (term_from scope (opened h ∷ fs)) (append_assoc a (Close ∷ []) rest)
        ∙ reads.1 (opened h) fs (Close ∷ rest)
        ∙ ap (λ o. (o >>= placing fs) >>= after rest) none,
  )
    where
      placing : List Frame → Term → Result Placed CommandFault
      placing gs u = Ok (placed false u gs)

      after : List Token → Placed → Result (Term × List Token) CommandFault
      after behind p = go_on p behind (λ gs. term_from scope gs behind)

  list_by : (w : List ℕ) (a : List Token) (h : Head) (us : List Term) (t : Term) (r : Result Term CommandFault) → head_at scope (word w) ≡ Ok h → (reads : ReadsAll scope a us)
      → built h reads.0 us ≡ r → BuildsLike r t → ReadsLike scope (written.listed (word w ∷ a)) t
  list_by w a h us t (Ok u) is reads made like = inr (u, (false, list_as scope w a h reads.0 us u is reads.1 made), like)
  list_by w a h us t (Err e) is reads made like = inl (built_refused w a h us e is reads made)

  like_list : (w : List ℕ) (a : List Token) (h : Head) (ts : Terms) (t : Term) → head_at scope (word w) ≡ Ok h → ReadsAllLike scope a ts
      → ((decimals : Bool) (us : List Term) → AreLike us ts → BuildsLike (built h decimals us) t) → ReadsLike scope (written.listed (word w ∷ a)) t
  like_list w a h ts t is (inl missed) builds = inl (parts_refused w a h is missed)
  like_list w a h ts t is (inr g) builds = list_by w a h g.0 t (built h g.1.0 g.0) is g.1 refl (builds g.1.0 g.0 g.2)

  -- ---- literals

  like_number : (z : ℤ) → IsLike (Number z) (Number z)
  like_number z = record { sort = refl; meaning = λ k i r. refl }

  like_part : (a : Fraction) → IsLike (Part a) (Part a)
  like_part a = record { sort = refl; meaning = λ k i r. refl }

  wide_numeral : (n : ℕ) → number_below (2 ^ 127) (written.numeral n) ≡ None → Refuses scope (Atom kinds.Numeral (written.numeral n) ∷ [])
  wide_numeral n wide = refused_atom kinds.Numeral (written.numeral n) faults.Wide (ap (λ o. or_fault faults.Wide o >>= λ m. Ok (Number (pos m))) wide)

  number_by : (z : ℤ) → (nat_abs z < 2 ^ 127) ⊎ (number_below (2 ^ 127) (written.numeral (nat_abs z)) ≡ None)
      → ReadsLike scope (written.signed_tokens z (λ n. Atom kinds.Numeral (written.numeral n) ∷ [])) (Number z)
  number_by z (inl small) = inr (Number z, reads_number scope z small, like_number z)
  number_by (pos n) (inr wide) = inl (wide_numeral n wide)
  number_by (negsuc n) (inr wide) =
      let more : suc n ≡ n + 1 = omega arith in
      inl (parts_refused (codes "-") (Atom kinds.Numeral (written.numeral (n + 1)) ∷ []) MinusHead refl
      (λ f fs rest. wide_numeral (n + 1) (subst (λ k. number_below (2 ^ 127) (written.numeral k) ≡ None) more wide) (f ∷ fs) rest))

  number_like : (z : ℤ) → ReadsLike scope (written.signed_tokens z (λ n. Atom kinds.Numeral (written.numeral n) ∷ [])) (Number z)
  number_like z = number_by z (small_or_wide (2 ^ 127) (nat_abs z))

  wide_decimal : (n : ℕ) → number_below (2 ^ 127) (written.numeral n) ≡ None → decimal (written.decimal n) ≡ None
  unfolding written.decimal
  wide_decimal n wide =
      let around = point_before (written.numeral n) (48 ∷ []) (numeral_is n).1 no_digit in
      rw (around.0, around.1, same_numeral (written.numeral n), wide) refl

  decimal_refused : (n : ℕ) → number_below (2 ^ 127) (written.numeral n) ≡ None → Refuses scope (Atom kinds.Decimal (written.decimal n) ∷ [])
  decimal_refused n wide =
      refused_atom kinds.Decimal (written.decimal n) faults.Wide (ap (λ o. or_fault faults.Wide o >>= λ a. Ok (Part a)) (wide_decimal n wide))

  -- the first of two decimals is wide
  above_refused : (p d : ℕ) → number_below (2 ^ 127) (written.numeral p) ≡ None → Refuses scope (written.quotient_tokens p d)
  above_refused p zero wide = decimal_refused p wide
  above_refused p (suc d) wide =
      parts_refused (codes "/") (Atom kinds.Decimal (written.decimal p) ∷ Atom kinds.Decimal (written.decimal (suc d + 1)) ∷ []) SlashHead refl
      (λ f fs rest. decimal_refused p wide (f ∷ fs) (Atom kinds.Decimal (written.decimal (suc d + 1)) ∷ rest))

  -- the second is
  below_refused : (p d : ℕ) → p < 2 ^ 127 → number_below (2 ^ 127) (written.numeral (suc d + 1)) ≡ None → Refuses scope (written.quotient_tokens p (suc d))
  below_refused p d small wide =
      parts_refused (codes "/") (Atom kinds.Decimal (written.decimal p) ∷ Atom kinds.Decimal (written.decimal (suc d + 1)) ∷ []) SlashHead refl
      (later_refused (Atom kinds.Decimal (written.decimal p) ∷ []) (Atom kinds.Decimal (written.decimal (suc d + 1)) ∷ []) (Part (whole (pos p))) (reads_part scope (pos p) 0 small (omega arith) (lowest_whole (pos p)))
      (λ f fs rest. decimal_refused (suc d + 1) wide (f ∷ fs) rest))

  -- behind a minus it is too
  minus_refused : (a : List Token) → Refuses scope a → Refuses scope (written.listed (word (codes "-") ∷ a))
  minus_refused a missed = parts_refused (codes "-") a MinusHead refl (λ f fs rest. missed (f ∷ fs) rest)

  part_refused : (z : ℤ) (d : ℕ) → ((p : ℕ) → p ≡ nat_abs z → Refuses scope (written.quotient_tokens p d)) → Refuses scope (written.signed_tokens z (λ p. written.quotient_tokens p d))
  part_refused (pos n) d missed = missed n refl
  part_refused (negsuc n) d missed = minus_refused (written.quotient_tokens (n + 1) d) (missed (n + 1) (omega arith))

  not_wide : (number_below (2 ^ 127) (written.numeral 1) ≡ None) → ⊥
  not_wide wide = let small : number_below (2 ^ 127) (written.numeral 1) ≡ Some 1 = number_back (2 ^ 127) 1 (omega arith) in cc

  below_wide : (p d : ℕ) → p < 2 ^ 127 → number_below (2 ^ 127) (written.numeral (suc d)) ≡ None → Refuses scope (written.quotient_tokens p d)
  below_wide p zero small wide = absurd (not_wide wide)
  below_wide p (suc d) small wide =
      let more : suc (suc d) ≡ suc d + 1 = omega arith in
      below_refused p d small (subst (λ k. number_below (2 ^ 127) (written.numeral k) ≡ None) more wide)

  part_by : (z : ℤ) (d : ℕ) → lowest (record { numerator = z; below = d }) ≡ record { numerator = z; below = d }
      → (nat_abs z < 2 ^ 127) ⊎ (number_below (2 ^ 127) (written.numeral (nat_abs z)) ≡ None) → (suc d < 2 ^ 127) ⊎ (number_below (2 ^ 127) (written.numeral (suc d)) ≡ None)
      → ReadsLike scope (written.signed_tokens z (λ p. written.quotient_tokens p d)) (Part (record { numerator = z; below = d }))
  part_by z d low (inl small) (inl few) = inr (Part (record { numerator = z; below = d }), reads_part scope z d small few low, like_part (record { numerator = z; below = d }))
  part_by z d low (inl small) (inr wide) = inl (part_refused z d (λ p is. below_wide p d (rw is small) wide))
  part_by z d low (inr wide) few = inl (part_refused z d (λ p is. above_refused p d (subst (λ k. number_below (2 ^ 127) (written.numeral k) ≡ None) (sym is) wide)))

  part_like : (a : Fraction) → lowest a ≡ a → ReadsLike scope (written.signed_tokens a.numerator (λ p. written.quotient_tokens p a.below)) (Part a)
  part_like a low = part_by a.numerator a.below low (small_or_wide (2 ^ 127) (nat_abs a.numerator)) (small_or_wide (2 ^ 127) (suc a.below))

  -- ---- symbols

  word_is : (f : Symbol) (o : Option Declared) → IsName f → declared_as scope.symbols (read_as f) ≡ o → declaration_of scope (symbol_word f) ≡ Ok o
  word_is f o name h = rw (symbol_text (symbol_word f) (symbol_is f name)) (ap Ok h)

  alone_is : (f : Symbol) (a : Sort) → IsName f → declared_as scope.symbols (read_as f) ≡ Some (declaration (read_as f) [] a) → leaf scope kinds.Symbol (symbol_word f) ≡ Ok (Constant (read_as f) a)
  alone_is f a name h =
      ap (alone scope (symbol_word f)) (symbol_is_name f name)
      ∙ ap (λ r. r >>= if_declared) (word_is f (Some (declaration (read_as f) [] a)) name h)

  before_is : (f : Symbol) (d : Declared) → IsName f → declared_as scope.symbols (read_as f) ≡ Some d → head_at scope (word (symbol_word f)) ≡ Ok (SymbolHead d)
  before_is f d name h =
      ap (head_of scope (symbol_word f)) (symbol_is_name f name)
      ∙ ap (λ r. r >>= symbol_head) (word_is f (Some d) name h)

  builds_application : (f : Symbol) (a : Sort) (takes : List Sort) (decimals : Bool) (us : List Term) (ts : Terms) → IsName f → AreLike us ts
      → BuildsLike (built (SymbolHead (declaration (read_as f) takes a)) decimals us) (Apply f a ts)
  builds_application f a takes decimals us ts name h = if_like (not (is_empty us) && have_sorts us takes) (Apply (read_as f) a (listed us)) (Apply f a ts) (like_application f a us ts name h)

  builds_operation : (o : Operator) (decimals : Bool) (us : List Term) (t s : Term) → AreLike us (MoreTerms t (MoreTerms s NoTerms)) → BuildsLike (built (head_for o) decimals us) (Binary o t s)
  builds_operation o decimals [] t s h = absurd h
  builds_operation o decimals (u ∷ []) t s h = absurd h.1
  builds_operation o decimals (u ∷ v ∷ []) t s h = subst (λ r. BuildsLike r (Binary o t s)) (sym (built_two o decimals u v)) (builds_two o u v t s h.0 h.1.0)
  builds_operation o decimals (u ∷ v ∷ w ∷ us) t s h = absurd h.1.1

-- ---- what is declared, as it is read

abbrev pub read_declared : Declared → Declared
read_declared d = record d { symbol = read_as d.symbol }

declared_there : (ds : List Declared) (d : Declared) → Declares ds d → Declares (map read_declared ds) (read_declared d)
declared_there [] d h = absurd h
declared_there (e ∷ ds) d (inl is) = inl (ap read_declared is)
declared_there (e ∷ ds) d (inr h) = inr (declared_there ds d h)

-- ---- terms

module _ (scope : Scope) (ds : List Declared) (are : scope.symbols ≡ map read_declared ds) (apart : AreApart scope.symbols) (n : ℕ) where
  found : (d : Declared) → Declares ds d → declared_as scope.symbols (read_as d.symbol) ≡ Some (read_declared d)
  found d h = declared_found scope.symbols (read_declared d) apart (subst (λ es. Declares es (read_declared d)) (sym are) (declared_there ds d h))

  mutual
    pub term_like : {t : Term} {a : Sort} → Formed n t a → AreNames t → UsesDeclared ds t → ReadsLike scope (term_tokens t) t
    term_like (truth true) names live = like_atom scope kinds.Symbol (codes "true") (Truth true) (Ok (Truth true)) refl (like_truth true)
    term_like (truth false) names live = like_atom scope kinds.Symbol (codes "false") (Truth false) (Ok (Truth false)) refl (like_truth false)
    term_like (number z) names live = number_like scope z
    term_like (part a low) names live = part_like scope a low
    term_like (constant f a k) names live =
        like_atom scope kinds.Symbol (symbol_word f) (Constant f a) (Ok (Constant (read_as f) a)) (alone_is scope f a names (found (declaration f [] a) live)) (like_constant f a names)
    term_like (applies f a {ts = ts} k fs) names live =
        like_list scope (symbol_word f) (terms_tokens ts) (SymbolHead (declaration (read_as f) (sorts_of ts) a)) ts (Apply f a ts)
        (before_is scope f (declaration (read_as f) (sorts_of ts) a) names.0 (found (declaration f (sorts_of ts) a) live.0))
        (terms_like fs names.1 live.1) (λ decimals us h. builds_application scope f a (sorts_of ts) decimals us ts names.0 h)
    term_like (nots {t = t} f) names live =
        like_list scope (codes "not") (term_tokens t) NotHead (MoreTerms t NoTerms) (Not t) refl (all_one scope (term_tokens t) t (term_like f names live)) (λ decimals us h. builds_not us t h)
    term_like (binary {o = o} {t = t} {u = u} {a = a} h f g) names live =
        like_list scope (operator_word o) (term_tokens t ++ term_tokens u) (head_for o) (MoreTerms t (MoreTerms u NoTerms)) (Binary o t u) (operator_before scope o)
        (all_two scope (term_tokens t) (term_tokens u) t u (term_like f names.0 live.0) (term_like g names.1 live.1))
        (λ decimals us h. builds_operation scope o decimals us t u h)
    term_like (ites {c = c} {t = t} {u = u} e f g) names live =
        like_list scope (codes "ite") (term_tokens c ++ term_tokens t ++ term_tokens u) IteHead (MoreTerms c (MoreTerms t (MoreTerms u NoTerms))) (Ite c t u) refl
        (all_three scope (term_tokens c) (term_tokens t) (term_tokens u) c t u (term_like e names.0 live.0) (term_like f names.1 live.1) (term_like g names.2 live.2))
        (λ decimals us h. builds_choice us c t u h)
    term_like (all_of {ts = ts} fs) names live =
        like_list scope (codes "and") (terms_tokens ts) (OperatorHead And) ts (AllOf ts) refl (bools_like fs names live) (λ decimals us h. builds_all us ts h)
    term_like (some_of {ts = ts} fs) names live =
        like_list scope (codes "or") (terms_tokens ts) (OperatorHead Or) ts (SomeOf ts) refl (bools_like fs names live) (λ decimals us h. builds_some us ts h)

    terms_like : {ts : Terms} → FormedAll n ts → AllAreNames ts → AllUseDeclared ds ts → ReadsAllLike scope (terms_tokens ts) ts
    terms_like no_terms names live = all_none scope
    terms_like (more_terms {t = t} {ts = ts} a f fs) names live =
        all_more scope (term_tokens t) (terms_tokens ts) t ts (term_like f names.0 live.0) (terms_like fs names.1 live.1)

    bools_like : {ts : Terms} → FormedBools n ts → AllAreNames ts → AllUseDeclared ds ts → ReadsAllLike scope (terms_tokens ts) ts
    bools_like no_bools names live = all_none scope
    bools_like (more_bools {t = t} {ts = ts} f fs) names live =
        all_more scope (term_tokens t) (terms_tokens ts) t ts (term_like f names.0 live.0) (bools_like fs names.1 live.1)
