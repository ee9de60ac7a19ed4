-- The text of each token of Viper (VMCAI 2016), in this profile.
use Rattle.std.specs.Prelude.{ℕ, List, [], ◌∷◌, ◌++◌, codes}
use Rattle.std.specs.Fmt.{decimal}
use Rattle.vx_tokens.specs.declared.token.Word.{Word}
use Rattle.vx_tokens.specs.declared.token.Word.TheVariants as words
use Rattle.vx_tokens.specs.Tokens.{Kind, name, number, word, symbol}
use Rattle.vx_tokens.specs.Text.{sign_text}

-- A foreign word is one of many, and no program has one.
abbrev pub word_text : Word → List ℕ
word_text words.Method = codes "method"
word_text words.Field = codes "field"
word_text words.Predicate = codes "predicate"
word_text words.Function = codes "function"
word_text words.Returns = codes "returns"
word_text words.Requires = codes "requires"
word_text words.Ensures = codes "ensures"
word_text words.Decreases = codes "decreases"
word_text words.Int = codes "Int"
word_text words.Bool = codes "Bool"
word_text words.Ref = codes "Ref"
word_text words.Perm = codes "Perm"
word_text words.Var = codes "var"
word_text words.If = codes "if"
word_text words.Elseif = codes "elseif"
word_text words.Else = codes "else"
word_text words.While = codes "while"
word_text words.Invariant = codes "invariant"
word_text words.Inhale = codes "inhale"
word_text words.Exhale = codes "exhale"
word_text words.Assert = codes "assert"
word_text words.Assume = codes "assume"
word_text words.Fold = codes "fold"
word_text words.Unfold = codes "unfold"
word_text words.New = codes "new"
word_text words.True = codes "true"
word_text words.False = codes "false"
word_text words.Null = codes "null"
word_text words.Write = codes "write"
word_text words.Nothing = codes "none"
word_text words.Outcome = codes "result"
word_text words.Old = codes "old"
word_text words.Acc = codes "acc"
word_text words.Unfolding = codes "unfolding"
word_text words.In = codes "in"
word_text words.Foreign = codes "forall"

-- a numeral has no zeros in front
abbrev pub token_text : Kind → List ℕ
token_text (name x) = x
token_text (number n) = decimal n
token_text (word w) = word_text w
token_text (symbol s) = sign_text s

-- a text, and behind it tokens, each behind a blank
abbrev pub behind : List ℕ → List Kind → List ℕ
behind text [] = text
behind text (k ∷ ks) = behind (text ++ 32 ∷ token_text k) ks

-- tokens on a line of their own, with one blank between two
abbrev pub line : List Kind → List ℕ
line [] = 10 ∷ []
line (k ∷ ks) = behind (token_text k) ks ++ 10 ∷ []
