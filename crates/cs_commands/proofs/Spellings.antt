-- The words of symbols and sorts are read back.
use Rattle.std.proofs.Common.{◌≡◌, inl, inr, ℕ, ◌<◌, ◌^◌, ◌&&◌, not, nat_eq, Bool, true, false, List, [], ◌∷◌, Option, Some, None, Ok, refl, arith, ap, ap₂, ◌∙◌, sym, eqb-true, true≢false, codes, ◌⊎◌}
use Rattle.std.specs.Prelude.{if◌then◌else◌}
use Rattle.std.specs.Str.{bytes_eq, IsAscii}
use Rattle.std.specs.List.{list_all}
use Rattle.std.proofs.lemmas.Slice.Eq.{bytes_eq-Decides}
use Rattle.std.proofs.lemmas.Str.{IsUtf8-from_ascii, is_utf8-from_IsUtf8}
use Rattle.std.proofs.lemmas.Str.Ascii.{IsAscii-nil, IsAscii-cons}
use Rattle.std.proofs.lemmas.Bool.{and_parts}
use Rattle.vx_sexp.specs.Characters.{is_digit, is_symbol_byte}
use Rattle.vx_sexp.specs.Tokens.{is_empty, is_numeral, is_symbol, is_keyword}
use Rattle.vx_terms.specs.Sorts.{Sort, IntSort, BoolSort, RealSort, RefSort, SnapSort, OtherSort, Symbol, Standard, Function, Variable, Named, Operator, And, Or, Implies, Equal, Less, LessEqual, Add, Subtract, Multiply, Div, Mod}
use Rattle.vx_smt_meaning.specs.Words as written
use Rattle.vx_smt_meaning.specs.Names.{IsName, IsFree, IsSortName}
use Rattle.vx_smt_text.proofs.Words.{numeral_is}
use Rattle.cs_commands.specs.declared.fault.CommandFault.TheVariants as faults
use Rattle.cs_commands.specs.declared.word.Word.TheVariants as words
use Rattle.cs_commands.specs.Outcomes.{where_so}
use Rattle.cs_commands.specs.Words.{term_word}
use Rattle.cs_commands.specs.Names.{number_below, numbered, symbol_named, sort_named, text}
use Rattle.cs_commands.specs.Laws.{IsSmallSymbol}
use Rattle.cs_commands.proofs.Numerals.{number_back, number_is}

-- ---- text

symbol_byte_small : (b : ℕ) → is_symbol_byte b ≡ true → b < 128
unfolding is_symbol_byte
symbol_byte_small b e = grind arith

bytes_ascii : (x : List ℕ) → list_all is_symbol_byte x ≡ true → IsAscii x
bytes_ascii [] e = IsAscii-nil
bytes_ascii (b ∷ x) e = let p = and_parts (is_symbol_byte b) (list_all is_symbol_byte x) e in IsAscii-cons b x (symbol_byte_small b p.0) (bytes_ascii x p.1)

ascii_text : (x : List ℕ) → IsAscii x → text x ≡ Ok x
ascii_text x h = ap (λ b. where_so faults.Name b x) (is_utf8-from_IsUtf8 x (IsUtf8-from_ascii x h))

pub symbol_text : (x : List ℕ) → is_symbol x ≡ true → text x ≡ Ok x
symbol_text [] e = absurd (cc)
symbol_text (b ∷ x) e = ascii_text (b ∷ x) (bytes_ascii (b ∷ x) (and_parts (not (is_digit b)) (list_all is_symbol_byte (b ∷ x)) e).1)

pub keyword_text : (x : List ℕ) → is_keyword x ≡ true → text x ≡ Ok x
keyword_text [] e = absurd (cc)
keyword_text (b ∷ []) e = absurd (grind (arith))
keyword_text (b ∷ c ∷ x) e =
    let p = and_parts (nat_eq b 58) (list_all is_symbol_byte (c ∷ x)) e in
    let is : b ≡ 58 = eqb-true b 58 p.0 in
    ascii_text (b ∷ c ∷ x) (IsAscii-cons b (c ∷ x) (omega arith) (bytes_ascii (c ∷ x) p.1))

-- ---- words

pub other : (x y : List ℕ) → (x ≡ y → ⊥) → bytes_eq x y ≡ false
other x y no_same = go (bytes_eq x y) refl
  where
    go : (b : Bool) → bytes_eq x y ≡ b → bytes_eq x y ≡ false
    go true e = absurd (no_same ((bytes_eq-Decides x y).0 e))
    go false e = e

-- a word of a symbol is none of these
pub record HasNoMeaning (x : List ℕ) : Type 0 where
  pub words : ((x ≡ codes "true") ⊎ (x ≡ codes "false") ⊎ (x ≡ codes "not") ⊎ (x ≡ codes "ite") ⊎ (x ≡ codes "/")) → ⊥
  pub operator : (o : Operator) → x ≡ written.operator_word o → ⊥

no_meaning : (x : List ℕ) → HasNoMeaning x → term_word x ≡ words.Name
no_meaning x h = rw (
  other x (codes "true") (λ e. h.words (inl e)),
  other x (codes "false") (λ e. h.words (inr (inl e))),
  other x (codes "not") (λ e. h.words (inr (inr (inl e)))),
  other x (codes "ite") (λ e. h.words (inr (inr (inr (inl e))))),
  other x (codes "-") (h.operator Subtract),
  other x (codes "/") (λ e. h.words (inr (inr (inr (inr e))))),
  other x (codes "and") (h.operator And),
  other x (codes "or") (h.operator Or),
  other x (codes "=>") (h.operator Implies),
  other x (codes "=") (h.operator Equal),
  other x (codes "<") (h.operator Less),
  other x (codes "<=") (h.operator LessEqual),
  other x (codes "+") (h.operator Add),
  other x (codes "*") (h.operator Multiply),
  other x (codes "div") (h.operator Div),
  other x (codes "mod") (h.operator Mod),
) refl

-- digits stand behind its first letter
abbrev pub is_lettered : List ℕ → Bool
is_lettered [] = false
is_lettered (c ∷ w) = list_all is_digit w && not (is_empty w)

numeral_lettered : (b n : ℕ) → is_lettered (b ∷ written.numeral n) ≡ true
numeral_lettered b n = by_text (written.numeral n) (numeral_is n).0 (numeral_is n).1
  where
    by_text : (x : List ℕ) → is_numeral x ≡ true → list_all is_digit x ≡ true → list_all is_digit x && not (is_empty x) ≡ true
    by_text [] e f = absurd (cc)
    by_text (c ∷ x) e f = rw f refl

pub not_lettered : (b n : ℕ) (w : List ℕ) → is_lettered w ≡ false → b ∷ written.numeral n ≡ w → ⊥
not_lettered b n w plain e = true≢false (sym (numeral_lettered b n) ∙ ap is_lettered e ∙ plain)

numbered_plain : (b n : ℕ) → HasNoMeaning (b ∷ written.numeral n)
unfolding is_digit
numbered_plain b n = record { words = in_words; operator = λ o e. not_lettered b n (written.operator_word o) (plain o) e }
  where
    in_words : ((b ∷ written.numeral n ≡ codes "true") ⊎ (b ∷ written.numeral n ≡ codes "false") ⊎ (b ∷ written.numeral n ≡ codes "not") ⊎ (b ∷ written.numeral n ≡ codes "ite") ⊎ (b ∷ written.numeral n ≡ codes "/")) → ⊥
    in_words (inl e) = not_lettered b n (codes "true") refl e
    in_words (inr (inl e)) = not_lettered b n (codes "false") refl e
    in_words (inr (inr (inl e))) = not_lettered b n (codes "not") refl e
    in_words (inr (inr (inr (inl e)))) = not_lettered b n (codes "ite") refl e
    in_words (inr (inr (inr (inr e)))) = not_lettered b n (codes "/") refl e

    plain : (o : Operator) → is_lettered (written.operator_word o) ≡ false
    plain And = refl
    plain Or = refl
    plain Implies = refl
    plain Equal = refl
    plain Less = refl
    plain LessEqual = refl
    plain Add = refl
    plain Subtract = refl
    plain Multiply = refl
    plain Div = refl
    plain Mod = refl

pub symbol_plain : (f : Symbol) → IsName f → HasNoMeaning (written.symbol_word f)
symbol_plain (Standard n) e = numbered_plain 115 n
symbol_plain (Function n) e = numbered_plain 102 n
symbol_plain (Variable n) e = numbered_plain 118 n
symbol_plain (Named x) e = record { words = e.1.words; operator = e.1.operator }

pub symbol_is_name : (f : Symbol) → IsName f → term_word (written.symbol_word f) ≡ words.Name
symbol_is_name f e = no_meaning (written.symbol_word f) (symbol_plain f e)

-- ---- symbols

-- a letter behind which no numeral stands
pub no_number : (make : ℕ → Symbol) (b letter limit : ℕ) (bs : List ℕ) → b ≡ letter → ((n : ℕ) → b ∷ bs ≡ letter ∷ written.numeral n → ⊥) → numbered make (b ∷ bs) (number_below limit bs) ≡ Named (b ∷ bs)
no_number make b letter limit bs is free = go (number_below limit bs) refl
  where
    go : (o : Option ℕ) → number_below limit bs ≡ o → numbered make (b ∷ bs) o ≡ Named (b ∷ bs)
    go None e = refl
    go (Some n) e = absurd (free n (ap₂ (λ z zs. z ∷ zs) is (number_is limit bs n e)))

named_back : (b : ℕ) (bs : List ℕ) → IsFree (b ∷ bs) → symbol_named (b ∷ bs) ≡ Named (b ∷ bs)
named_back b bs free = on_s (nat_eq b 115) refl
  where
    on_v : (c : Bool) → nat_eq b 118 ≡ c → (if c then numbered Variable (b ∷ bs) (number_below (2 ^ 64) bs) else Named (b ∷ bs)) ≡ Named (b ∷ bs)
    on_v true e = no_number Variable b 118 (2 ^ 64) bs (eqb-true b 118 e) free.variable
    on_v false e = refl

    on_f : (c : Bool) → nat_eq b 102 ≡ c → (if c then numbered Function (b ∷ bs) (number_below (2 ^ 32) bs) else (if nat_eq b 118 then numbered Variable (b ∷ bs) (number_below (2 ^ 64) bs) else Named (b ∷ bs))) ≡ Named (b ∷ bs)
    on_f true e = no_number Function b 102 (2 ^ 32) bs (eqb-true b 102 e) free.function
    on_f false e = on_v (nat_eq b 118) refl

    on_s : (c : Bool) → nat_eq b 115 ≡ c →
        (if c then numbered Standard (b ∷ bs) (number_below (2 ^ 32) bs) else (if nat_eq b 102 then numbered Function (b ∷ bs) (number_below (2 ^ 32) bs) else (if nat_eq b 118 then numbered Variable (b ∷ bs) (number_below (2 ^ 64) bs) else Named (b ∷ bs)))) ≡ Named (b ∷ bs)
    on_s true e = no_number Standard b 115 (2 ^ 32) bs (eqb-true b 115 e) free.standard
    on_s false e = on_f (nat_eq b 102) refl

pub symbol_back : (f : Symbol) → IsName f → IsSmallSymbol f → symbol_named (written.symbol_word f) ≡ f
symbol_back (Standard n) e small = ap (numbered Standard (115 ∷ written.numeral n)) (number_back (2 ^ 32) n small)
symbol_back (Function n) e small = ap (numbered Function (102 ∷ written.numeral n)) (number_back (2 ^ 32) n small)
symbol_back (Variable n) e small = ap (numbered Variable (118 ∷ written.numeral n)) (number_back (2 ^ 64) n small)
symbol_back (Named []) e small = refl
symbol_back (Named (b ∷ bs)) e small = named_back b bs e.1

-- ---- sorts

pub sort_back : (a : Sort) → IsSortName a → sort_named (written.sort_word a) ≡ a
sort_back IntSort e = refl
sort_back BoolSort e = refl
sort_back RealSort e = refl
sort_back RefSort e = refl
sort_back SnapSort e = refl
sort_back (OtherSort x) e = rw (
  other x (codes "Int") (λ is. e.1 (inl is)),
  other x (codes "Bool") (λ is. e.1 (inr (inl is))),
  other x (codes "Real") (λ is. e.1 (inr (inr (inl is)))),
  other x (codes "Ref") (λ is. e.1 (inr (inr (inr (inl is))))),
  other x (codes "Snap") (λ is. e.1 (inr (inr (inr (inr is))))),
) refl
