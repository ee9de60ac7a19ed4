-- The words of symbols, and numerals.
use Rattle.std.proofs.Common.{◌≡◌, ℕ, zero, suc, ◌<◌, ◌^◌, nat_eq, Bool, true, false, List, [], ◌∷◌, Option, Some, None, codes, refl, ap, ap₂, ◌∙◌, sym, subst, true≢false, eqb-true, eq-eqb, arith}
use Rattle.std.specs.Prelude.{if◌then◌else◌}
use Rattle.std.specs.Option.{option_map}
use Rattle.std.specs.Str.{bytes_eq}
use Rattle.std.proofs.lemmas.Option.{same_Some}
use Rattle.vx_terms.specs.Sorts.{Sort, Symbol, Standard, Function, Variable, Named, same_symbol, same_text}
use Rattle.vx_terms.specs.Interpretations.{Each}
use Rattle.vx_terms.specs.declared.term.Operator.TheVariants as operators
use Rattle.vx_terms.proofs.Same.{symbol_is}
use Rattle.vx_smt_meaning.specs.Commands.{Declared}
use Rattle.vx_smt_meaning.specs.WellFormed.{names}
use Rattle.vx_smt_meaning.specs.Words as written
use Rattle.vx_smt_meaning.specs.Words.{symbol_word}
use Rattle.vx_smt_text.proofs.Read.{text_same}
use Rattle.cs_certificate.specs.Certificate.{At}
use Rattle.cs_index.specs.Found.{first}
use Rattle.cs_reader.specs.declared.word.Word.{Word}
use Rattle.cs_reader.specs.declared.word.Word.TheVariants as words
use Rattle.cs_reader.specs.Marks as marks
use Rattle.cs_reader.specs.Items.{◌>>=◌}
use Rattle.cs_reader.specs.Spelling.{word, is_number, is_lettered, is_spelled, spelled_by, meaning_at, among}
use Rattle.cs_commands.specs.declared.word.Word.{Word as Word'}
use Rattle.cs_commands.specs.declared.word.Word.TheVariants as words'
use Rattle.cs_commands.specs.Words.{term_word}
use Rattle.cs_commands.specs.Names.{symbol_named}
use Rattle.cs_commands.specs.Laws.{AreApart, IsSmallSymbol}
use Rattle.cs_commands.proofs.Numerals.{number_back, number_is}
use Rattle.cs_commands.proofs.Literals.{same_numeral}
use Rattle.cs_commands.proofs.Declarations.{symbol_same}
use Rattle.cs_commands.proofs.Passed.{not_some}
use Rattle.cs_commands.specs.Following.{HasWord}

-- ---- numerals

pub numeral_back : (n : ℕ) → n < 2 ^ 127 → marks.numeral (written.numeral n) ≡ Some n
numeral_back n h = same_numeral (written.numeral n) ∙ number_back (2 ^ 127) n h

numeral_only : (x : List ℕ) (n : ℕ) → marks.numeral x ≡ Some n → x ≡ written.numeral n
numeral_only x n e = number_is (2 ^ 127) x n (sym (same_numeral x) ∙ e)

-- ---- words of terms are the same to both readers

abbrev as_read : Word' → Word
as_read (words'.Truth b) = words.Truth b
as_read words'.Not = words.Not
as_read words'.Ite = words.Ite
as_read words'.Minus = words.Minus
as_read words'.Slash = words.Slash
as_read (words'.Operator o) = words.Operator o
as_read words'.Name = words.Name

if_read : (b : Bool) (v : Word) (w : Word') (x : Word) (y : Word') → v ≡ as_read w → x ≡ as_read y → (if b then v else x) ≡ as_read (if b then w else y)
if_read true v w x y e f = e
if_read false v w x y e f = f

same_word : (x : List ℕ) → word x ≡ as_read (term_word x)
same_word x =
    if_read (bytes_eq x (codes "true")) (words.Truth true) (words'.Truth true) _ _ refl (
    if_read (bytes_eq x (codes "false")) (words.Truth false) (words'.Truth false) _ _ refl (
    if_read (bytes_eq x (codes "not")) words.Not words'.Not _ _ refl (
    if_read (bytes_eq x (codes "ite")) words.Ite words'.Ite _ _ refl (
    if_read (bytes_eq x (codes "-")) words.Minus words'.Minus _ _ refl (
    if_read (bytes_eq x (codes "/")) words.Slash words'.Slash _ _ refl (
    if_read (bytes_eq x (codes "and")) (words.Operator operators.And) (words'.Operator operators.And) _ _ refl (
    if_read (bytes_eq x (codes "or")) (words.Operator operators.Or) (words'.Operator operators.Or) _ _ refl (
    if_read (bytes_eq x (codes "=>")) (words.Operator operators.Implies) (words'.Operator operators.Implies) _ _ refl (
    if_read (bytes_eq x (codes "=")) (words.Operator operators.Equal) (words'.Operator operators.Equal) _ _ refl (
    if_read (bytes_eq x (codes "<")) (words.Operator operators.Less) (words'.Operator operators.Less) _ _ refl (
    if_read (bytes_eq x (codes "<=")) (words.Operator operators.LessEqual) (words'.Operator operators.LessEqual) _ _ refl (
    if_read (bytes_eq x (codes "+")) (words.Operator operators.Add) (words'.Operator operators.Add) _ _ refl (
    if_read (bytes_eq x (codes "*")) (words.Operator operators.Multiply) (words'.Operator operators.Multiply) _ _ refl (
    if_read (bytes_eq x (codes "div")) (words.Operator operators.Div) (words'.Operator operators.Div) _ _ refl (
    if_read (bytes_eq x (codes "mod")) (words.Operator operators.Mod) (words'.Operator operators.Mod) _ _ refl
    refl)))))))))))))))

pub word_free : (f : Symbol) → HasWord f → word (symbol_word f) ≡ words.Name
word_free f h = same_word (symbol_word f) ∙ ap as_read h.free

-- ---- a word spells its own symbol

lettered_self : (b n : ℕ) → n < 2 ^ 127 → is_lettered b n (b ∷ written.numeral n) ≡ true
lettered_self b n h = ap (λ t. if t then is_number n (marks.numeral (written.numeral n)) else false) (eq-eqb b b refl) ∙ (ap (is_number n) (numeral_back n h) ∙ eq-eqb n n refl)

spelled_self : (f : Symbol) → IsSmallSymbol f → is_spelled (symbol_word f) f ≡ true
spelled_self (Standard n) h = lettered_self 115 n (omega arith)
spelled_self (Function n) h = lettered_self 102 n (omega arith)
spelled_self (Variable n) h = lettered_self 118 n (omega arith)
spelled_self (Named x) h = text_same x

-- ---- and no other one

lettered_is : (b m : ℕ) (x : List ℕ) → is_lettered b m x ≡ true → x ≡ b ∷ written.numeral m
lettered_is b m [] e = absurd (cc)
lettered_is b m (c ∷ x) e = on_letter (nat_eq c b) refl e
  where
    on_number : c ≡ b → (o : Option ℕ) → marks.numeral x ≡ o → is_number m o ≡ true → c ∷ x ≡ b ∷ written.numeral m
    on_number is None f g = absurd (cc)
    on_number is (Some k) f g = let same : k ≡ m = eqb-true k m g in ap₂ (λ z zs. z ∷ zs) is (numeral_only x k f ∙ ap written.numeral same)

    on_letter : (t : Bool) → nat_eq c b ≡ t → (if t then is_number m (marks.numeral x) else false) ≡ true → c ∷ x ≡ b ∷ written.numeral m
    on_letter true f g = on_number (eqb-true c b f) (marks.numeral x) refl g
    on_letter false f g = absurd (cc)

text_is : (x y : List ℕ) → same_text x y ≡ true → x ≡ y
text_is x y e = ap text_of (symbol_is (Named x) (Named y) e)
  where
    text_of : Symbol → List ℕ
    text_of (Named z) = z
    text_of g = []

spelled_is : (x : List ℕ) (g : Symbol) → is_spelled x g ≡ true → x ≡ symbol_word g
spelled_is x (Standard m) e = lettered_is 115 m x e
spelled_is x (Function m) e = lettered_is 102 m x e
spelled_is x (Variable m) e = lettered_is 118 m x e
spelled_is x (Named y) e = text_is x y e

one_symbol : (f g : Symbol) → HasWord f → HasWord g → is_spelled (symbol_word f) g ≡ true → f ≡ g
one_symbol f g h k e = sym h.back ∙ (ap symbol_named (spelled_is (symbol_word f) g e) ∙ k.back)

-- ---- a live symbol is found by its word

later : (d : Declared) (ds : List Declared) (o : Option ℕ) → (option_map suc o >>= meaning_at (d ∷ ds)) ≡ (o >>= meaning_at ds)
later d ds None = refl
later d ds (Some n) = refl

declares : (ds : List Declared) (n : ℕ) (d : Declared) → At ds n d → names ds d.symbol ≡ true
declares [] n d at = not_some at
declares (e ∷ ds) zero d at = ap (λ (x : Declared). if same_symbol x.symbol d.symbol then true else names ds d.symbol) (same_Some _ _ at) ∙ ap (λ b. if b then true else names ds d.symbol) (symbol_same d.symbol)
declares (e ∷ ds) (suc n) d at = go (same_symbol e.symbol d.symbol) (declares ds n d at)
  where
    go : (b : Bool) → names ds d.symbol ≡ true → (if b then true else names ds d.symbol) ≡ true
    go true h = refl
    go false h = h

pub has_word : (ds : List Declared) (n : ℕ) (d : Declared) → Each (λ (e : Declared). HasWord e.symbol) ds → At ds n d → HasWord d.symbol
has_word [] n d words at = not_some at
has_word (e ∷ ds) zero d words at = subst (λ (x : Declared). HasWord x.symbol) (same_Some _ _ at) words.0
has_word (e ∷ ds) (suc n) d words at = has_word ds n d words.1 at

abbrev found_from : List Declared → List ℕ → Bool → List Declared → Option (Symbol × Sort)
found_from all x b ds = (if b then Some 0 else option_map suc (first (spelled_by x) ds)) >>= meaning_at all

found_by : (ds : List Declared) (n : ℕ) (d : Declared) → AreApart ds → Each (λ (e : Declared). HasWord e.symbol) ds → At ds n d → HasWord d.symbol → among ds (symbol_word d.symbol) ≡ Some (d.symbol, d.gives)
found_by [] n d apart words at own = not_some at
found_by (e ∷ ds) zero d apart words at own =
    let spelled : spelled_by (symbol_word d.symbol) e ≡ true = ap (spelled_by (symbol_word d.symbol)) (same_Some _ _ at) ∙ spelled_self d.symbol own.small in
    ap (λ b. found_from (e ∷ ds) (symbol_word d.symbol) b ds) spelled
    ∙ ap (λ (x : Declared). Some (x.symbol, x.gives)) (same_Some _ _ at)
found_by (e ∷ ds) (suc n) d apart words at own = go (spelled_by (symbol_word d.symbol) e) refl (found_by ds n d apart.1 words.1 at own)
  where
    go : (b : Bool) → spelled_by (symbol_word d.symbol) e ≡ b → among ds (symbol_word d.symbol) ≡ Some (d.symbol, d.gives) → among (e ∷ ds) (symbol_word d.symbol) ≡ Some (d.symbol, d.gives)
    go true h more =
        let is : d.symbol ≡ e.symbol = one_symbol d.symbol e.symbol own words.0 h in
        absurd (true≢false (sym (declares ds n d at) ∙ (ap (names ds) is ∙ apart.0)))
    go false h more =
        ap (λ b. found_from (e ∷ ds) (symbol_word d.symbol) b ds) h
        ∙ (later e ds (first (spelled_by (symbol_word d.symbol)) ds) ∙ more)

pub found : (ds : List Declared) (n : ℕ) (d : Declared) → AreApart ds → Each (λ (e : Declared). HasWord e.symbol) ds → At ds n d → among ds (symbol_word d.symbol) ≡ Some (d.symbol, d.gives)
found ds n d apart words at = found_by ds n d apart words at (has_word ds n d words at)
