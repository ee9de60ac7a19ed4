-- What holds of each term that is read: it holds of symbols and literals, and of what well-sorted parts make.
use Rattle.std.proofs.Common.{◌≡◌, inl, inr, ℕ, ◌<◌, ◌^◌, not, ◌&&◌, Bool, true, false, ℤ, pos, negsuc, neg_ℤ, List, [], ◌∷◌, ◌++◌, Option, Some, None, Ok, refl, ◌∙◌, sym, subst, arith}
use Rattle.std.specs.Prelude.{⊤, if◌then◌else◌}
use Rattle.std.specs.List.{list_all}
use Rattle.std.proofs.lemmas.Bool.{false≢true, and_parts}
use Rattle.std.specs.declared.result.Result.{Result}
use Rattle.std.proofs.lemmas.Option.{same_Some}
use Rattle.vx_frac.specs.Fractions.{Fraction, lowest, sum, product, product_fits, sum_fits}
use Rattle.vx_frac.proofs.Lowest.{lowest-lowest}
use Rattle.vx_sexp.specs.Tokens.{is_empty, before_point, behind_point}
use Rattle.vx_sexp.specs.declared.token.Kind.{Kind}
use Rattle.vx_sexp.specs.declared.token.Kind.TheVariants as kinds
use Rattle.vx_sexp.specs.declared.token.Token.{Token}
use Rattle.vx_sexp.specs.declared.token.Token.TheVariants.{Open, Close, Atom}
use Rattle.vx_terms.specs.Sorts.{Symbol, Operator, And, Or, Subtract, same_sort, same_symbol}
use Rattle.vx_terms.specs.Terms.{Term, Truth, Number, Part, Constant, Apply, Not, Binary, Ite, AllOf, SomeOf, sort_of}
use Rattle.vx_terms.specs.Interpretations.{Each}
use Rattle.vx_smt_meaning.specs.Commands.{Declared}
use Rattle.vx_smt_meaning.specs.Symbols.{Declares}
use Rattle.vx_smt_text.specs.Unique.{has_three}
use Rattle.cs_reader.specs.Items as items
use Rattle.cs_reader.specs.Marks.{numeral}
use Rattle.cs_reader.specs.Spelling.{symbol_in, negative, below_zero, over, inverse, multiplied, summed, part_after, decimal, listed}
use Rattle.cs_commands.specs.declared.fault.CommandFault.{CommandFault}
use Rattle.cs_commands.specs.declared.fault.CommandFault.TheVariants as faults
use Rattle.cs_commands.specs.declared.word.Word.{Word}
use Rattle.cs_commands.specs.declared.word.Word.TheVariants as words
use Rattle.cs_commands.specs.Outcomes.{or_fault}
use Rattle.cs_commands.specs.Words.{term_word}
use Rattle.cs_commands.specs.Names.{text, symbol_named, number_below}
use Rattle.cs_commands.specs.Live.{Scope, declared_as, declaration}
use Rattle.cs_commands.specs.Heads.{Head, NotHead, IteHead, MinusHead, SlashHead, OperatorHead, SymbolHead, symbol_head, head_of, head_at}
use Rattle.cs_commands.specs.Building as building
use Rattle.cs_commands.specs.Building.{is_bool, takes, have_sorts, built}
use Rattle.cs_commands.specs.Terms as terms
use Rattle.cs_commands.specs.Terms.{is_decimal, Frame, opened, Placed, Whole, Within, placed, closed, go_on, term_from}
use Rattle.cs_commands.proofs.Passed.{ok_is, not_ok, not_some, bound, present, passed}
use Rattle.cs_commands.proofs.Declarations.{first_is, first_later}
use Rattle.cs_commands.proofs.Small.{IsSmallFraction, IsUnsigned, number_small, multiplied_is, inverse_unsigned, decimal_is}

-- ---- declarations

-- what is found is declared
pub found_declared : (ds : List Declared) (f : Symbol) (d : Declared) → declared_as ds f ≡ Some d → Declares ds d
found_declared [] f d e = not_some e
found_declared (x ∷ xs) f d e = go (same_symbol f x.symbol) refl (found_declared xs f d)
  where
    go : (b : Bool) → same_symbol f x.symbol ≡ b → (declared_as xs f ≡ Some d → Declares xs d) → Declares (x ∷ xs) d
    go true h more = inl (same_Some _ _ (sym (first_is x xs f h) ∙ e))
    go false h more = inr (more (sym (first_later x xs f h) ∙ e))

declared_word : (scope : Scope) (x : List ℕ) (d : Declared) → declaration scope x ≡ Ok (Some d) → Declares scope.symbols d
declared_word scope x d e = let b = bound (text x) _ (Some d) e in found_declared scope.symbols (symbol_named b.0) d (ok_is b.2)

-- ---- literals

pub multiplied_lowest : (a b q : Fraction) → multiplied a b ≡ Some q → lowest q ≡ q
multiplied_lowest a b q e = go (product_fits a b) e
  where
    go : (fits : Bool) → (if fits then Some (lowest (product a b)) else None) ≡ Some q → lowest q ≡ q
    go true h = subst (λ x. lowest x ≡ x) (same_Some _ _ h) (lowest-lowest (product a b))
    go false h = not_some h

summed_lowest : (a b q : Fraction) → summed a b ≡ Some q → lowest q ≡ q
summed_lowest a b q e = go (sum_fits a b) e
  where
    go : (fits : Bool) → (if fits then Some (lowest (sum a b)) else None) ≡ Some q → lowest q ≡ q
    go true h = subst (λ x. lowest x ≡ x) (same_Some _ _ h) (lowest-lowest (sum a b))
    go false h = not_some h

decimal_lowest : (x : List ℕ) (q : Fraction) → decimal x ≡ Some q → lowest q ≡ q
decimal_lowest x q e = by_number (numeral (before_point x)) e
  where
    by_part : (n : ℕ) (o : Option Fraction) → items.◌>>=◌ o (λ part. summed part (over (pos n) 0)) ≡ Some q → lowest q ≡ q
    by_part n None h = not_some h
    by_part n (Some part) h = summed_lowest part (over (pos n) 0) q h

    by_number : (o : Option ℕ) → items.◌>>=◌ o (λ n. items.◌>>=◌ (part_after (over (pos 0) 0) (behind_point x)) (λ part. summed part (over (pos n) 0))) ≡ Some q → lowest q ≡ q
    by_number None h = not_some h
    by_number (Some n) h = by_part n (part_after (over (pos 0) 0) (behind_point x)) h

-- ---- what holds of terms

-- a decimal is at least 0
abbrev IsUnsignedPart : Term → Type 0
IsUnsignedPart (Part a) = IsUnsigned a
IsUnsignedPart t = ⊤

-- it holds of symbols and literals, and of what well-sorted parts of which it holds make
pub record Keeps (scope : Scope) (P : Term → Type 0) : Type 0 where
  pub truth : (b : Bool) → P (Truth b)
  pub number : (n : ℕ) → n < 2 ^ 127 → P (Number (pos n))
  pub negated : (n : ℕ) → P (Number (pos n)) → P (Number (neg_ℤ (pos n)))
  pub part : (a : Fraction) → lowest a ≡ a → IsSmallFraction a → P (Part a)
  pub opposite : (m n : ℕ) → P (Part (record { numerator = pos m; below = n })) → P (Part (over (neg_ℤ (pos m)) n))
  pub constant : (d : Declared) → Declares scope.symbols d → is_empty d.takes ≡ true → P (Constant d.symbol d.gives)
  pub applies : (d : Declared) (ts : List Term) → Declares scope.symbols d → Each P ts → not (is_empty ts) ≡ true → have_sorts ts d.takes ≡ true → P (Apply d.symbol d.gives (listed ts))
  pub nots : (t : Term) → P t → is_bool t ≡ true → P (Not t)
  pub binary : (o : Operator) (t u : Term) → P t → P u → takes o (sort_of t) ≡ true → same_sort (sort_of u) (sort_of t) ≡ true → P (Binary o t u)
  pub choices : (c t u : Term) → P c → P t → P u → is_bool c ≡ true → same_sort (sort_of u) (sort_of t) ≡ true → P (Ite c t u)
  pub all_of : (ts : List Term) → Each P ts → has_three (listed ts) ≡ true → list_all is_bool ts ≡ true → P (AllOf (listed ts))
  pub some_of : (ts : List Term) → Each P ts → has_three (listed ts) ≡ true → list_all is_bool ts ≡ true → P (SomeOf (listed ts))

pub each_more : {A : Type 0} (P : A → Type 0) (xs : List A) (x : A) → Each P xs → P x → Each P (xs ++ x ∷ [])
each_more P [] x hs h = (h, tt)
each_more P (y ∷ xs) x hs h = (hs.0, each_more P xs x hs.1 h)

module _ (scope : Scope) (P : Term → Type 0) (k : Keeps scope P) where
  -- ---- what is built

  negation_keeps : (ts : List Term) (t : Term) → Each P ts → building.negation ts ≡ Ok t → P t
  negation_keeps [] t h e = not_ok e
  negation_keeps (a ∷ []) t h e = let p = passed faults.Sort (is_bool a) (Not a) t e in subst P p.1 (k.nots a h.0 p.0)
  negation_keeps (a ∷ b ∷ ts) t h e = not_ok e

  choice_keeps : (ts : List Term) (t : Term) → Each P ts → building.choice ts ≡ Ok t → P t
  choice_keeps [] t h e = not_ok e
  choice_keeps (a ∷ []) t h e = not_ok e
  choice_keeps (a ∷ b ∷ []) t h e = not_ok e
  choice_keeps (a ∷ b ∷ c ∷ []) t h e =
      let p = passed faults.Sort (is_bool a && same_sort (sort_of c) (sort_of b)) (Ite a b c) t e in
      let q = and_parts (is_bool a) (same_sort (sort_of c) (sort_of b)) p.0 in
      subst P p.1 (k.choices a b c h.0 h.1.0 h.1.1.0 q.0 q.1)
  choice_keeps (a ∷ b ∷ c ∷ d ∷ ts) t h e = not_ok e

  two_keeps : (o : Operator) (a b t : Term) → P a → P b → building.operation_of_two o a b ≡ Ok t → P t
  two_keeps o a b t ha hb e =
      let p = passed faults.Sort (takes o (sort_of a) && same_sort (sort_of b) (sort_of a)) (Binary o a b) t e in
      let q = and_parts (takes o (sort_of a)) (same_sort (sort_of b) (sort_of a)) p.0 in
      subst P p.1 (k.binary o a b ha hb q.0 q.1)

  many_keeps : (o : Operator) (ts : List Term) (t : Term) → Each P ts → has_three (listed ts) ≡ true → building.operation_of_many o ts ≡ Ok t → P t
  many_keeps And ts t h three e = let p = passed faults.Sort (list_all is_bool ts) (AllOf (listed ts)) t e in subst P p.1 (k.all_of ts h three p.0)
  many_keeps Or ts t h three e = let p = passed faults.Sort (list_all is_bool ts) (SomeOf (listed ts)) t e in subst P p.1 (k.some_of ts h three p.0)
  many_keeps o ts t h three e = not_ok e

  operation_keeps : (o : Operator) (ts : List Term) (t : Term) → Each P ts → building.operation o ts ≡ Ok t → P t
  operation_keeps o [] t h e = not_ok e
  operation_keeps o (a ∷ []) t h e = not_ok e
  operation_keeps o (a ∷ b ∷ []) t h e = two_keeps o a b t h.0 h.1.0 e
  operation_keeps o (a ∷ b ∷ c ∷ ts) t h e = many_keeps o (a ∷ b ∷ c ∷ ts) t h refl e

  below_keeps : (z : ℤ) (n : ℕ) (t : Term) → P (Part (record { numerator = z; below = n })) → below_zero z n ≡ Some t → P t
  below_keeps (pos m) n t h e = subst P (same_Some _ _ e) (k.opposite m n h)
  below_keeps (negsuc m) n t h e = not_some e

  negative_keeps : (a t : Term) → P a → negative a ≡ Some t → P t
  negative_keeps (Number (pos n)) t h e = subst P (same_Some _ _ e) (k.negated n h)
  negative_keeps (Part a) t h e = below_keeps a.numerator a.below t h e
  negative_keeps a t h e = not_some e

  difference_keeps : (ts : List Term) (t : Term) → Each P ts → building.difference ts ≡ Ok t → P t
  difference_keeps [] t h e = not_ok e
  difference_keeps (a ∷ []) t h e = negative_keeps a t h.0 (present faults.Sort (negative a) t e)
  difference_keeps (a ∷ b ∷ []) t h e = two_keeps Subtract a b t h.0 h.1.0 e
  difference_keeps (a ∷ b ∷ c ∷ ts) t h e = not_ok e

  quotient_of_keeps : (a b : Fraction) (t : Term) → IsUnsigned a → building.quotient_of a b ≡ Ok t → P t
  quotient_of_keeps a b t u e =
      let i = bound (or_fault faults.Sort (inverse b)) _ t e in
      let q = bound (or_fault faults.Wide (multiplied a i.0)) _ t i.2 in
      let is = present faults.Wide (multiplied a i.0) q.0 q.1 in
      let from = inverse_unsigned b.numerator b.below i.0 (present faults.Sort (inverse b) i.0 i.1) in
      subst P (ok_is q.2) (k.part q.0 (multiplied_lowest a i.0 q.0 is) (multiplied_is a i.0 q.0 u from is).1)

  literals_keep : (a b t : Term) → IsUnsignedPart a → building.quotient_of_two a b ≡ Ok t → P t
  literals_keep (Part a) (Part b) t u e = quotient_of_keeps a b t u e
  literals_keep a b t u e = not_ok e

  quotient_keeps : (decimals : Bool) (ts : List Term) (t : Term) → (decimals ≡ true → Each IsUnsignedPart ts) → building.quotient decimals ts ≡ Ok t → P t
  quotient_keeps false ts t u e = not_ok e
  quotient_keeps true [] t u e = not_ok e
  quotient_keeps true (a ∷ []) t u e = not_ok e
  quotient_keeps true (a ∷ b ∷ []) t u e = literals_keep a b t (u refl).0 e
  quotient_keeps true (a ∷ b ∷ c ∷ ts) t u e = not_ok e

  application_keeps : (d : Declared) (ts : List Term) (t : Term) → Declares scope.symbols d → Each P ts → building.application d ts ≡ Ok t → P t
  application_keeps d ts t is h e =
      let p = passed faults.Sort (not (is_empty ts) && have_sorts ts d.takes) (Apply d.symbol d.gives (listed ts)) t e in
      let q = and_parts (not (is_empty ts)) (have_sorts ts d.takes) p.0 in
      subst P p.1 (k.applies d ts is h q.0 q.1)

  constant_keeps : (d : Declared) (t : Term) → Declares scope.symbols d → building.constant d ≡ Ok t → P t
  constant_keeps d t is e = let p = passed faults.Sort (is_empty d.takes) (Constant d.symbol d.gives) t e in subst P p.1 (k.constant d is p.0)

  -- ---- heads

  -- a symbol before its parts is declared
  abbrev IsHead : Head → Type 0
  IsHead (SymbolHead d) = Declares scope.symbols d
  IsHead h = ⊤

  built_keeps : (h : Head) (decimals : Bool) (ts : List Term) (t : Term) → IsHead h → Each P ts → (decimals ≡ true → Each IsUnsignedPart ts) → built h decimals ts ≡ Ok t → P t
  built_keeps NotHead decimals ts t is h u e = negation_keeps ts t h e
  built_keeps IteHead decimals ts t is h u e = choice_keeps ts t h e
  built_keeps MinusHead decimals ts t is h u e = difference_keeps ts t h e
  built_keeps SlashHead decimals ts t is h u e = quotient_keeps decimals ts t u e
  built_keeps (OperatorHead o) decimals ts t is h u e = operation_keeps o ts t h e
  built_keeps (SymbolHead d) decimals ts t is h u e = application_keeps d ts t is h e

  name_is_head : (x : List ℕ) (o : Option Declared) (h : Head) → declaration scope x ≡ Ok o → symbol_head o ≡ Ok h → IsHead h
  name_is_head x None h is e = not_ok e
  name_is_head x (Some d) h is e = subst IsHead (ok_is e) (declared_word scope x d is)

  word_is_head : (x : List ℕ) (w : Word) (h : Head) → head_of scope x w ≡ Ok h → IsHead h
  word_is_head x (words.Truth b) h e = not_ok e
  word_is_head x words.Not h e = subst IsHead (ok_is e) tt
  word_is_head x words.Ite h e = subst IsHead (ok_is e) tt
  word_is_head x words.Minus h e = subst IsHead (ok_is e) tt
  word_is_head x words.Slash h e = subst IsHead (ok_is e) tt
  word_is_head x (words.Operator o) h e = subst IsHead (ok_is e) tt
  word_is_head x words.Name h e = let b = bound (declaration scope x) symbol_head h e in name_is_head x b.0 h b.1 b.2

  is_head : (t : Token) (h : Head) → head_at scope t ≡ Ok h → IsHead h
  is_head t h e = let b = bound (or_fault faults.Name (symbol_in t)) _ h e in word_is_head b.0 (term_word b.0) h b.2

  -- ---- atoms

  name_keeps : (x : List ℕ) (o : Option Declared) (t : Term) → declaration scope x ≡ Ok o → terms.if_declared o ≡ Ok t → P t
  name_keeps x None t is e = not_ok e
  name_keeps x (Some d) t is e = constant_keeps d t (declared_word scope x d is) e

  alone_keeps : (x : List ℕ) (w : Word) (t : Term) → terms.alone scope x w ≡ Ok t → P t
  alone_keeps x (words.Truth b) t e = subst P (ok_is e) (k.truth b)
  alone_keeps x words.Name t e = let b = bound (declaration scope x) terms.if_declared t e in name_keeps x b.0 t b.1 b.2
  alone_keeps x w t e = not_ok e

  leaf_keeps : (kind : Kind) (x : List ℕ) (t : Term) → terms.leaf scope kind x ≡ Ok t → P t
  leaf_keeps kinds.Numeral x t e =
      let b = bound (or_fault faults.Wide (number_below (2 ^ 127) x)) _ t e in
      subst P (ok_is b.2) (k.number b.0 (number_small (2 ^ 127) x b.0 (omega arith) (present faults.Wide (number_below (2 ^ 127) x) b.0 b.1)))
  leaf_keeps kinds.Decimal x t e =
      let b = bound (or_fault faults.Wide (decimal x)) _ t e in
      let is = present faults.Wide (decimal x) b.0 b.1 in
      subst P (ok_is b.2) (k.part b.0 (decimal_lowest x b.0 is) (decimal_is x b.0 is).1)
  leaf_keeps kinds.Symbol x t e = alone_keeps x (term_word x) t e
  leaf_keeps kind x t e = not_ok e

  leaf_unsigned : (kind : Kind) (x : List ℕ) (t : Term) → terms.leaf scope kind x ≡ Ok t → is_decimal kind ≡ true → IsUnsignedPart t
  leaf_unsigned kinds.Decimal x t e d = let b = bound (or_fault faults.Wide (decimal x)) _ t e in subst IsUnsignedPart (ok_is b.2) (decimal_is x b.0 (present faults.Wide (decimal x) b.0 b.1)).0
  leaf_unsigned kind x t e d = absurd (false≢true d)

  -- ---- open lists

  -- where each part is a decimal, each is at least 0
  abbrev IsFrame : Frame → Type 0
  IsFrame f = IsHead f.head × Each P f.parts × (f.decimals ≡ true → Each IsUnsignedPart f.parts)

  abbrev IsPlaced : Placed → Type 0
  IsPlaced (Whole t) = P t
  IsPlaced (Within fs) = Each IsFrame fs

  placed_keeps : (decimal : Bool) (t : Term) (fs : List Frame) → P t → (decimal ≡ true → IsUnsignedPart t) → Each IsFrame fs → IsPlaced (placed decimal t fs)
  placed_keeps decimal t [] h u hs = h
  placed_keeps decimal t (f ∷ fs) h u hs = ((hs.0.0, each_more P f.parts t hs.0.1 h, λ e. (let both = and_parts f.decimals decimal e in each_more IsUnsignedPart f.parts t (hs.0.2 both.0) (u both.1))), hs.1)

  closed_keeps : (fs : List Frame) (p : Placed) → Each IsFrame fs → closed fs ≡ Ok p → IsPlaced p
  closed_keeps [] p hs e = not_ok e
  closed_keeps (f ∷ fs) p hs e =
      let b = bound (built f.head f.decimals f.parts) _ p e in
      subst IsPlaced (ok_is b.2) (placed_keeps false b.0 fs (built_keeps f.head f.decimals f.parts b.0 hs.0.0 hs.0.1 hs.0.2 b.1) (λ e. absurd (false≢true e)) hs.1)

  goes_on : (p : Placed) (ts : List Token) (go : List Frame → Result (Term × List Token) CommandFault) (r : Term × List Token)
      → IsPlaced p → ((gs : List Frame) → Each IsFrame gs → go gs ≡ Ok r → P r.0) → go_on p ts go ≡ Ok r → P r.0
  goes_on (Whole t) ts go r h more e = subst (λ x. P x.0) (ok_is e) h
  goes_on (Within fs) ts go r h more e = more fs h e

  pub read_keeps : (fs : List Frame) (tokens : List Token) (r : Term × List Token) → Each IsFrame fs → term_from scope fs tokens ≡ Ok r → P r.0
  read_keeps fs [] r hs e = not_ok e
  read_keeps fs (Open ∷ []) r hs e = not_ok e
  read_keeps fs (Open ∷ t ∷ ts) r hs e =
      let b = bound (head_at scope t) _ r e in
      read_keeps (opened b.0 ∷ fs) ts r ((is_head t b.0 b.1, tt, λ e. tt), hs) b.2
  read_keeps fs (Close ∷ ts) r hs e =
      let b = bound (closed fs) _ r e in
      goes_on b.0 ts (λ gs. term_from scope gs ts) r (closed_keeps fs b.0 hs b.1) (λ gs us h. read_keeps gs ts r us h) b.2
  read_keeps fs (Atom kind x ∷ ts) r hs e =
      let b = bound (terms.leaf scope kind x) _ r e in
      goes_on (placed (is_decimal kind) b.0 fs) ts (λ gs. term_from scope gs ts) r (placed_keeps (is_decimal kind) b.0 fs (leaf_keeps kind x b.0 b.1) (leaf_unsigned kind x b.0 b.1) hs) (λ gs us h. read_keeps gs ts r us h) b.2
