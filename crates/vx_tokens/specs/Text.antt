-- Which texts are made of which tokens. The tokens are those of Viper (VMCAI 2016), in this profile.
use Rattle.std.specs.Prelude.{◌≡◌, ℕ, suc, ◌+◌, ◌-◌, ◌*◌, ◌≤◌, ◌<◌, List, [], ◌∷◌, ◌++◌, length, Bool, true, false, if◌then◌else◌, ◌==◌, ◌&&◌, ◌||◌, nat_lt, nat_le, codes, Option, Some, None, option_map}
use Rattle.std.specs.List.{AllByRecursion}
use Rattle.std.specs.Cmp.Lexicographic.{pointwise}
use Rattle.vx_ast.specs.declared.Place.{Place}
use Rattle.vx_tokens.specs.declared.token.Word.{Word}
use Rattle.vx_tokens.specs.declared.token.Word.TheVariants as words
use Rattle.vx_tokens.specs.declared.token.Symbol.{Symbol}
use Rattle.vx_tokens.specs.declared.token.Symbol.TheVariants as signs
use Rattle.vx_tokens.specs.Tokens.{Token, Kind, name, number, word, symbol}

-- ---- places

-- a byte that goes on with a character
abbrev pub is_continuation : ℕ → Bool
is_continuation b = nat_le 128 b && nat_lt b 192

-- the place after one byte: columns are in characters
abbrev pub step : Place → ℕ → Place
step p b =
    if b == 10 then record { line = p.line + 1; column = 1 }
    else (if is_continuation b then p else record { line = p.line; column = p.column + 1 })

abbrev pub after : Place → List ℕ → Place
after p [] = p
after p (b ∷ bs) = after (step p b) bs

-- where a text begins
abbrev pub first_place : Place
first_place = record { line = 1; column = 1 }

-- U+FEFF at the very start of a text is passed over
abbrev pub after_mark : ℕ → ℕ → ℕ → List ℕ → List ℕ
after_mark a b c bytes = if (a == 239) && (b == 187) && (c == 191) then bytes else a ∷ b ∷ c ∷ bytes

abbrev pub unmarked : List ℕ → List ℕ
unmarked (a ∷ b ∷ c ∷ bytes) = after_mark a b c bytes
unmarked bytes = bytes

-- ---- characters

abbrev pub is_blank : ℕ → Bool
is_blank b = (b == 32) || (b == 9) || (b == 13) || (b == 10)

abbrev pub is_digit : ℕ → Bool
is_digit b = nat_le 48 b && nat_le b 57

-- a letter, `_` or `$`
abbrev pub is_letter : ℕ → Bool
is_letter b = (nat_le 65 b && nat_le b 90) || (nat_le 97 b && nat_le b 122) || (b == 95) || (b == 36)

abbrev pub is_word : ℕ → Bool
is_word b = is_letter b || is_digit b

abbrev pub is_inside_line : ℕ → Bool
is_inside_line b = if b == 10 then false else true

-- ---- what spells a token

abbrev pub sign_text : Symbol → List ℕ
sign_text signs.Implies = codes "==>"
sign_text signs.Wand = codes "--*"
sign_text signs.Equal = codes "=="
sign_text signs.NotEqual = codes "!="
sign_text signs.LessEqual = codes "<="
sign_text signs.GreaterEqual = codes ">="
sign_text signs.Becomes = codes ":="
sign_text signs.And = codes "&&"
sign_text signs.Or = codes "||"
sign_text signs.Open = codes "("
sign_text signs.Close = codes ")"
sign_text signs.OpenBrace = codes "{"
sign_text signs.CloseBrace = codes "}"
sign_text signs.OpenBracket = codes "["
sign_text signs.Comma = codes ","
sign_text signs.Colon = codes ":"
sign_text signs.Semicolon = codes ";"
sign_text signs.Question = codes "?"
sign_text signs.Not = codes "!"
sign_text signs.Less = codes "<"
sign_text signs.Greater = codes ">"
sign_text signs.Plus = codes "+"
sign_text signs.Minus = codes "-"
sign_text signs.Times = codes "*"
sign_text signs.Slash = codes "/"
sign_text signs.Backslash = 92 ∷ []
sign_text signs.Percent = codes "%"
sign_text signs.Dot = codes "."
sign_text signs.At = codes "@"

-- Members, their clauses and types.
abbrev pub member_words : List (List ℕ × Word)
member_words =
    (codes "method", words.Method) ∷ (codes "field", words.Field) ∷ (codes "predicate", words.Predicate) ∷ (codes "function", words.Function) ∷ (codes "returns", words.Returns)
    ∷ (codes "requires", words.Requires) ∷ (codes "ensures", words.Ensures) ∷ (codes "decreases", words.Decreases) ∷ (codes "Int", words.Int) ∷ (codes "Bool", words.Bool)
    ∷ (codes "Ref", words.Ref) ∷ (codes "Perm", words.Perm) ∷ []

-- Statements.
abbrev pub statement_words : List (List ℕ × Word)
statement_words =
    (codes "var", words.Var) ∷ (codes "if", words.If) ∷ (codes "elseif", words.Elseif) ∷ (codes "else", words.Else) ∷ (codes "while", words.While)
    ∷ (codes "invariant", words.Invariant) ∷ (codes "inhale", words.Inhale) ∷ (codes "exhale", words.Exhale) ∷ (codes "assert", words.Assert) ∷ (codes "assume", words.Assume)
    ∷ (codes "fold", words.Fold) ∷ (codes "unfold", words.Unfold) ∷ (codes "new", words.New) ∷ []

-- Expressions.
abbrev pub expression_words : List (List ℕ × Word)
expression_words =
    (codes "true", words.True) ∷ (codes "false", words.False) ∷ (codes "null", words.Null) ∷ (codes "write", words.Write) ∷ (codes "none", words.Nothing)
    ∷ (codes "result", words.Outcome) ∷ (codes "old", words.Old) ∷ (codes "acc", words.Acc) ∷ (codes "unfolding", words.Unfolding) ∷ (codes "in", words.In) ∷ []

-- Words of Viper that this language leaves out.
abbrev pub foreign_words : List (List ℕ × Word)
foreign_words =
    (codes "forall", words.Foreign) ∷ (codes "exists", words.Foreign) ∷ (codes "forperm", words.Foreign) ∷ (codes "perm", words.Foreign) ∷ (codes "package", words.Foreign)
    ∷ (codes "apply", words.Foreign) ∷ (codes "applying", words.Foreign) ∷ (codes "domain", words.Foreign) ∷ (codes "Seq", words.Foreign) ∷ (codes "Set", words.Foreign)
    ∷ (codes "Multiset", words.Foreign) ∷ (codes "Map", words.Foreign) ∷ (codes "epsilon", words.Foreign) ∷ (codes "wildcard", words.Foreign) ∷ (codes "goto", words.Foreign)
    ∷ (codes "label", words.Foreign) ∷ (codes "define", words.Foreign) ∷ (codes "import", words.Foreign) ∷ (codes "let", words.Foreign) ∷ []

abbrev pub word_among : List (List ℕ × Word) → List ℕ → Option Word
word_among [] text = None
word_among (entry ∷ entries) text = if pointwise ◌==◌ text entry.0 then Some entry.1 else word_among entries text

abbrev pub else_by : {A : Type 0} → Option A → Option A → Option A
else_by (Some a) b = Some a
else_by None b = b

-- the reserved word that a text is
abbrev pub reserved : List ℕ → Option Word
reserved text = else_by (word_among member_words text) (else_by (word_among statement_words text) (else_by (word_among expression_words text) (word_among foreign_words text)))

abbrev pub word_or_name : Option Word → List ℕ → Kind
word_or_name None text = name text
word_or_name (Some w) text = word w

-- the kind of a text of letters and digits
abbrev pub word_kind : List ℕ → Kind
word_kind text = word_or_name (reserved text) text

abbrev pub value_from : ℕ → List ℕ → ℕ
value_from n [] = n
value_from n (d ∷ ds) = value_from (10 * n + (d - 48)) ds

abbrev pub value_of : List ℕ → ℕ
value_of ds = value_from 0 ds

abbrev pub AreAll : (ℕ → Bool) → List ℕ → Type 0
AreAll test bs = AllByRecursion (λ b. test b ≡ true) bs

-- a letter, and then letters and digits
abbrev pub IsWord : List ℕ → Type 0
IsWord [] = ⊥
IsWord (b ∷ bs) = (is_letter b ≡ true) × AreAll is_word bs

abbrev pub IsNumeral : List ℕ → Type 0
IsNumeral [] = ⊥
IsNumeral (b ∷ bs) = (is_digit b ≡ true) × AreAll is_digit bs

abbrev pub Spells : Kind → List ℕ → Type 0
Spells (name x) text = IsWord text × (word_kind text ≡ name x)
Spells (word w) text = IsWord text × (word_kind text ≡ word w)
Spells (number n) text = IsNumeral text × (value_of text ≡ n)
Spells (symbol s) text = text ≡ sign_text s

-- ---- pieces of a text

-- the length up to the end of the first `*/`
abbrev pub close_len : List ℕ → Option ℕ
close_len [] = None
close_len (b ∷ []) = None
close_len (b ∷ c ∷ bs) = if (b == 42) && (c == 47) then Some 2 else option_map suc (close_len (c ∷ bs))

-- a blank, a comment with its text, or a token with its text
pub data Piece : Type 0 where
  blank : ℕ → Piece
  line_comment : List ℕ → Piece
  block_comment : List ℕ → Piece
  token : Kind → List ℕ → Piece

abbrev pub text_of : Piece → List ℕ
text_of (blank b) = b ∷ []
text_of (line_comment text) = 47 ∷ 47 ∷ text
text_of (block_comment text) = 47 ∷ 42 ∷ text
text_of (token k text) = text

abbrev pub IsPiece : Piece → Type 0
IsPiece (blank b) = is_blank b ≡ true
IsPiece (line_comment text) = AreAll is_inside_line text
IsPiece (block_comment text) = close_len text ≡ Some (length text)
IsPiece (token k text) = Spells k text

-- the piece stands in front, and no longer one does
pub record IsLongest (p : Piece) (bytes rest : List ℕ) : Type 0 where
  pub is_piece : IsPiece p
  pub text : bytes ≡ text_of p ++ rest
  pub longest : (q : Piece) (more : List ℕ) → IsPiece q → bytes ≡ text_of q ++ more → length (text_of q) ≤ length (text_of p)

abbrev pub max_numeral : ℕ
max_numeral = 170141183460469231731687303715884105727

-- a numeral that is too wide
abbrev pub IsWide : Piece → Type 0
IsWide (token (number n) text) = max_numeral < n
IsWide (token (name x) text) = ⊥
IsWide (token (word w) text) = ⊥
IsWide (token (symbol s) text) = ⊥
IsWide (blank b) = ⊥
IsWide (line_comment text) = ⊥
IsWide (block_comment text) = ⊥

-- a comment that does not end
abbrev pub IsOpenComment : List ℕ → Type 0
IsOpenComment bytes = (text : List ℕ) × (bytes ≡ 47 ∷ 42 ∷ text) × (close_len text ≡ None)

-- no piece stands in front
abbrev pub BeginsNoPiece : List ℕ → Type 0
BeginsNoPiece bytes = (q : Piece) (more : List ℕ) → IsPiece q → bytes ≡ text_of q ++ more → ⊥

-- how a text goes on behind its last token
pub data Ending : Type 0 where
  AtEnd : Place → Ending
  WideLiteral : Place → Ending
  BadCharacter : Place → Ending
  OpenComment : Place → Ending

abbrev pub one_token : Kind → Place → Token
one_token k p = record { kind = k; place = p }

-- The bytes from a place on have these tokens, and this ending.
pub data Scans : Place → List ℕ → List Token → Ending → Type 0 where
  scans_end : {p : Place} → Scans p [] [] (AtEnd p)
  scans_blank : {p : Place} {b : ℕ} {bytes rest : List ℕ} {ts : List Token} {e : Ending} → IsLongest (blank b) bytes rest → Scans (after p (b ∷ [])) rest ts e → Scans p bytes ts e
  scans_line : {p : Place} {text bytes rest : List ℕ} {ts : List Token} {e : Ending} → IsLongest (line_comment text) bytes rest → Scans (after p (47 ∷ 47 ∷ text)) rest ts e → Scans p bytes ts e
  scans_block : {p : Place} {text bytes rest : List ℕ} {ts : List Token} {e : Ending} → IsLongest (block_comment text) bytes rest → Scans (after p (47 ∷ 42 ∷ text)) rest ts e → Scans p bytes ts e
  scans_token : {p : Place} {k : Kind} {text bytes rest : List ℕ} {ts : List Token} {e : Ending} → IsLongest (token k text) bytes rest → (IsWide (token k text) → ⊥) → (IsOpenComment bytes → ⊥) → Scans (after p text) rest ts e → Scans p bytes (one_token k p ∷ ts) e
  scans_wide : {p : Place} {q : Piece} {bytes rest : List ℕ} → IsLongest q bytes rest → IsWide q → Scans p bytes [] (WideLiteral p)
  scans_open : {p : Place} {bytes : List ℕ} → IsOpenComment bytes → Scans p bytes [] (OpenComment (after p bytes))
  scans_bad : {p : Place} {b : ℕ} {bytes : List ℕ} → BeginsNoPiece (b ∷ bytes) → (IsOpenComment (b ∷ bytes) → ⊥) → Scans p (b ∷ bytes) [] (BadCharacter p)
