-- Which tokens spell which expressions: the grammar of Viper (VMCAI 2016) in this profile.
use Rattle.std.specs.Prelude.{◌≡◌, ℕ, ◌+◌, ◌≤◌, List, [], ◌∷◌, ◌++◌, map, Bool, true, false, if◌then◌else◌, ◌==◌, Option, Some, None, ⊤}
use Rattle.vx_ast.specs.declared.Place.{Place}
use Rattle.vx_tokens.specs.declared.token.Word.{Word}
use Rattle.vx_tokens.specs.declared.token.Word.TheVariants as words
use Rattle.vx_tokens.specs.declared.token.Symbol.{Symbol}
use Rattle.vx_tokens.specs.declared.token.Symbol.TheVariants as signs
use Rattle.vx_ast.specs.declared.UnaryOperator.{UnaryOperator}
use Rattle.vx_ast.specs.declared.UnaryOperator.TheVariants.{Not, Negate}
use Rattle.vx_ast.specs.declared.BinaryOperator.{BinaryOperator}
use Rattle.vx_ast.specs.declared.BinaryOperator.TheVariants.{Implies, Or, And, Equal, NotEqual, Less, LessEqual, Greater, GreaterEqual, Add, Subtract, Multiply, Divide, Quotient, Remainder}
use Rattle.vx_tokens.specs.Tokens.{Kind, name, number, word, symbol, Token}
use Rattle.vx_ast.specs.Written.{Placed, placed, Expr, Exprs, NoMore, More, Amount, All, Part, Truth, Number, Null, Whole, Nothing, Result, Variable, Call, Read, Unary, Binary, Choice, Old, Access, Unfolding}

-- ---- operators

abbrev pub sign_of : BinaryOperator → Symbol
sign_of Implies = signs.Implies
sign_of Or = signs.Or
sign_of And = signs.And
sign_of Equal = signs.Equal
sign_of NotEqual = signs.NotEqual
sign_of Less = signs.Less
sign_of LessEqual = signs.LessEqual
sign_of Greater = signs.Greater
sign_of GreaterEqual = signs.GreaterEqual
sign_of Add = signs.Plus
sign_of Subtract = signs.Minus
sign_of Multiply = signs.Times
sign_of Divide = signs.Slash
sign_of Quotient = signs.Backslash
sign_of Remainder = signs.Percent

-- the operator that a sign between two operands stands for
abbrev pub operator_of : Kind → Option BinaryOperator
operator_of (symbol signs.Implies) = Some Implies
operator_of (symbol signs.Or) = Some Or
operator_of (symbol signs.And) = Some And
operator_of (symbol signs.Equal) = Some Equal
operator_of (symbol signs.NotEqual) = Some NotEqual
operator_of (symbol signs.Less) = Some Less
operator_of (symbol signs.LessEqual) = Some LessEqual
operator_of (symbol signs.Greater) = Some Greater
operator_of (symbol signs.GreaterEqual) = Some GreaterEqual
operator_of (symbol signs.Plus) = Some Add
operator_of (symbol signs.Minus) = Some Subtract
operator_of (symbol signs.Times) = Some Multiply
operator_of (symbol signs.Slash) = Some Divide
operator_of (symbol signs.Backslash) = Some Quotient
operator_of (symbol signs.Percent) = Some Remainder
operator_of k = None

abbrev pub prefix_sign : UnaryOperator → Symbol
prefix_sign Not = signs.Not
prefix_sign Negate = signs.Minus

abbrev pub literal_word : Bool → Word
literal_word true = words.True
literal_word false = words.False

-- How loosely an operator binds. A part that stands alone or behind a prefix has level 0, and a choice level 8.
abbrev pub level_of : BinaryOperator → ℕ
level_of Remainder = 1
level_of Quotient = 1
level_of Divide = 1
level_of Multiply = 1
level_of Subtract = 2
level_of Add = 2
level_of GreaterEqual = 3
level_of Greater = 3
level_of LessEqual = 3
level_of Less = 3
level_of NotEqual = 4
level_of Equal = 4
level_of And = 5
level_of Or = 6
level_of Implies = 7

-- the levels of the two operands: repeated operators of one level group to the left, and implications to the right
abbrev pub left_level : BinaryOperator → ℕ
left_level Implies = 6
left_level Or = 6
left_level And = 5
left_level Equal = 4
left_level NotEqual = 4
left_level Less = 3
left_level LessEqual = 3
left_level Greater = 3
left_level GreaterEqual = 3
left_level Add = 2
left_level Subtract = 2
left_level Multiply = 1
left_level Divide = 1
left_level Quotient = 1
left_level Remainder = 1

abbrev pub right_level : BinaryOperator → ℕ
right_level Implies = 7
right_level Or = 5
right_level And = 4
right_level Equal = 3
right_level NotEqual = 3
right_level Less = 2
right_level LessEqual = 2
right_level Greater = 2
right_level GreaterEqual = 2
right_level Add = 1
right_level Subtract = 1
right_level Multiply = 0
right_level Divide = 0
right_level Quotient = 0
right_level Remainder = 0

-- ---- an expression as it is written, with its parentheses and the place of each token

-- the words that stand for a value
pub data Constant : Type 0 where
  null_word : Constant
  write_word : Constant
  none_word : Constant
  result_word : Constant

abbrev pub constant_word : Constant → Word
constant_word null_word = words.Null
constant_word write_word = words.Write
constant_word none_word = words.Nothing
constant_word result_word = words.Outcome

abbrev pub constant_meant : Place → Constant → Expr
constant_meant p null_word = Null p
constant_meant p write_word = Whole p
constant_meant p none_word = Nothing p
constant_meant p result_word = Result p

mutual
  pub data Phrase : Type 0 where
    literal : Place → Bool → Phrase
    constant : Place → Constant → Phrase
    numeral : Place → ℕ → Phrase
    named : Place → List ℕ → Phrase
    -- f ( arguments )
    called : Place → List ℕ → Place → ArgumentsPhrase → Place → Phrase
    -- e . f
    dotted : Phrase → Place → Place → List ℕ → Phrase
    grouped : Place → Phrase → Place → Phrase
    -- old ( e )
    past : Place → Place → Phrase → Place → Phrase
    -- acc ( e , amount )
    accessed : Place → Place → Phrase → AmountPhrase → Place → Phrase
    prefixed : Place → UnaryOperator → Phrase → Phrase
    joined : Phrase → Place → BinaryOperator → Phrase → Phrase
    chosen : Phrase → Place → Phrase → Place → Phrase → Phrase
    -- unfolding instance in e
    unfolded : Place → InstancePhrase → Place → Phrase → Phrase

  pub data ArgumentsPhrase : Type 0 where
    no_arguments : ArgumentsPhrase
    arguments_from : Phrase → FurtherPhrase → ArgumentsPhrase

  -- expressions behind a first one, each behind a comma
  pub data FurtherPhrase : Type 0 where
    nothing_further : FurtherPhrase
    further : Place → Phrase → FurtherPhrase → FurtherPhrase

  -- no amount, or one behind a comma
  pub data AmountPhrase : Type 0 where
    no_amount : AmountPhrase
    amount : Place → Phrase → AmountPhrase

  -- a predicate's instance
  pub data InstancePhrase : Type 0 where
    -- P ( arguments )
    alone : Place → List ℕ → Place → ArgumentsPhrase → Place → InstancePhrase
    -- acc ( P ( arguments ) , amount )
    held : Place → Place → Place → List ℕ → Place → ArgumentsPhrase → Place → AmountPhrase → Place → InstancePhrase

-- the place of the first token
abbrev pub start_of : Phrase → Place
start_of (literal p b) = p
start_of (constant p c) = p
start_of (numeral p n) = p
start_of (named p x) = p
start_of (called p x o es c) = p
start_of (dotted e p q f) = start_of e
start_of (grouped p e q) = p
start_of (past p o e c) = p
start_of (accessed p o e a c) = p
start_of (prefixed p op e) = p
start_of (joined a p op b) = start_of a
start_of (chosen c p a q b) = start_of c
start_of (unfolded p i q e) = p

-- a predicate's instance with its amount
pub record Instance : Type 0 where
  pub predicate : Placed
  pub arguments : Exprs
  pub amount : Amount

abbrev pub unfolding_of : Place → Instance → Expr → Expr
unfolding_of p i e = Unfolding p i.predicate i.arguments i.amount e

-- the expression that is meant
abbrev mutual
  pub meant : Phrase → Expr
  meant (literal p b) = Truth p b
  meant (constant p c) = constant_meant p c
  meant (numeral p n) = Number p n
  meant (named p x) = Variable p x
  meant (called p x o es c) = Call p x (arguments_meant es)
  meant (dotted e p q f) = Read (start_of e) (meant e) (placed q f)
  meant (grouped p e q) = meant e
  meant (past p o e c) = Old p (meant e)
  meant (accessed p o e a c) = Access p (meant e) (amount_meant a)
  meant (prefixed p op e) = Unary p op (meant e)
  meant (joined a p op b) = Binary (start_of a) op (meant a) (meant b)
  meant (chosen c p a q b) = Choice (start_of c) (meant c) (meant a) (meant b)
  meant (unfolded p i q e) = unfolding_of p (instance_meant i) (meant e)

  pub arguments_meant : ArgumentsPhrase → Exprs
  arguments_meant no_arguments = NoMore
  arguments_meant (arguments_from e es) = More (meant e) (further_meant es)

  pub further_meant : FurtherPhrase → Exprs
  further_meant nothing_further = NoMore
  further_meant (further p e es) = More (meant e) (further_meant es)

  pub amount_meant : AmountPhrase → Amount
  amount_meant no_amount = All
  amount_meant (amount p e) = Part (meant e)

  pub instance_meant : InstancePhrase → Instance
  instance_meant (alone p x o es c) = record { predicate = placed p x; arguments = arguments_meant es; amount = All }
  instance_meant (held p o q x o' es c' a c) = record { predicate = placed q x; arguments = arguments_meant es; amount = amount_meant a }

-- what a dot may stand behind
abbrev pub IsPrimary : Phrase → Type 0
IsPrimary (literal p b) = ⊤
IsPrimary (constant p c) = ⊤
IsPrimary (numeral p n) = ⊤
IsPrimary (named p x) = ⊤
IsPrimary (called p x o es c) = ⊤
IsPrimary (dotted e p q f) = ⊤
IsPrimary (grouped p e q) = ⊤
IsPrimary (past p o e c) = ⊤
IsPrimary (accessed p o e a c) = ⊤
IsPrimary (prefixed p op e) = ⊥
IsPrimary (joined a p op b) = ⊥
IsPrimary (chosen c p a q b) = ⊥
IsPrimary (unfolded p i q e) = ⊥

-- the phrase ends in the body of an `unfolding`, which takes in all that could go on with it
abbrev pub ends_open : Phrase → Bool
ends_open (unfolded p i q e) = true
ends_open (prefixed p op e) = ends_open e
ends_open (joined a p op b) = ends_open b
ends_open (chosen c p a q b) = ends_open b
ends_open (literal p b) = false
ends_open (constant p c) = false
ends_open (numeral p n) = false
ends_open (named p x) = false
ends_open (called p x o es c) = false
ends_open (dotted e p q f) = false
ends_open (grouped p e q) = false
ends_open (past p o e c) = false
ends_open (accessed p o e a c) = false

-- A phrase may stand where the grammar asks for a level. None that ends in the body of an `unfolding` stands in front of
-- an operator: parentheses stand round it there.
abbrev mutual
  pub StandsAt : ℕ → Phrase → Type 0
  StandsAt level (literal p b) = ⊤
  StandsAt level (constant p c) = ⊤
  StandsAt level (numeral p n) = ⊤
  StandsAt level (named p x) = ⊤
  StandsAt level (called p x o es c) = ArgumentsStand es
  StandsAt level (dotted e p q f) = IsPrimary e × StandsAt 0 e
  StandsAt level (grouped p e q) = StandsAt 8 e
  StandsAt level (past p o e c) = StandsAt 8 e
  StandsAt level (accessed p o e a c) = StandsAt 8 e × AmountStands a
  StandsAt level (prefixed p op e) = StandsAt 0 e
  StandsAt level (joined a p op b) = (level_of op ≤ level) × StandsAt (left_level op) a × StandsAt (right_level op) b × (ends_open a ≡ false)
  StandsAt level (chosen c p a q b) = (8 ≤ level) × StandsAt 7 c × StandsAt 8 a × StandsAt 8 b × (ends_open c ≡ false)
  StandsAt level (unfolded p i q e) = InstanceStands i × StandsAt 8 e

  pub ArgumentsStand : ArgumentsPhrase → Type 0
  ArgumentsStand no_arguments = ⊤
  ArgumentsStand (arguments_from e es) = StandsAt 8 e × FurtherStand es

  pub FurtherStand : FurtherPhrase → Type 0
  FurtherStand nothing_further = ⊤
  FurtherStand (further p e es) = StandsAt 8 e × FurtherStand es

  pub AmountStands : AmountPhrase → Type 0
  AmountStands no_amount = ⊤
  AmountStands (amount p e) = StandsAt 8 e

  pub InstanceStands : InstancePhrase → Type 0
  InstanceStands (alone p x o es c) = ArgumentsStand es
  InstanceStands (held p o q x o' es c' a c) = ArgumentsStand es × AmountStands a

-- ---- tokens, each with its nesting count

pub record Mark : Type 0 where
  pub token : Token
  pub count : ℕ

abbrev pub mark : ℕ → Place → Kind → Mark
mark n p k = record { token = record { kind = k; place = p }; count = n }

-- the operators so far of a chain of one level, up to its end
abbrev pub operators : ℕ → Phrase → ℕ
operators level (joined a p op b) = if level_of op == level then operators level a + 1 else 0
operators level (literal p b) = 0
operators level (constant p c) = 0
operators level (numeral p n) = 0
operators level (named p x) = 0
operators level (called p x o es c) = 0
operators level (dotted e p q f) = 0
operators level (grouped p e q) = 0
operators level (past p o e c) = 0
operators level (accessed p o e a c) = 0
operators level (prefixed p op e) = 0
operators level (chosen c p a q b) = 0
operators level (unfolded p i q e) = 0

-- the dots so far of a chain of them
abbrev pub dots : Phrase → ℕ
dots (dotted e p q f) = dots e + 1
dots (literal p b) = 0
dots (constant p c) = 0
dots (numeral p n) = 0
dots (named p x) = 0
dots (called p x o es c) = 0
dots (grouped p e q) = 0
dots (past p o e c) = 0
dots (accessed p o e a c) = 0
dots (prefixed p op e) = 0
dots (joined a p op b) = 0
dots (chosen c p a q b) = 0
dots (unfolded p i q e) = 0

-- The tokens of a phrase that stands at nesting count n. A parenthesis, a prefix, the body of an `unfolding`, a right
-- operand of an implication or a choice nests one deeper, and a right operand in a chain as deep as there are operators so far. A dot
-- is such an operator, with the field's name as its right operand.
abbrev mutual
  pub marks : ℕ → Phrase → List Mark
  marks n (literal p b) = mark n p (word (literal_word b)) ∷ []
  marks n (constant p c) = mark n p (word (constant_word c)) ∷ []
  marks n (numeral p m) = mark n p (number m) ∷ []
  marks n (named p x) = mark n p (name x) ∷ []
  marks n (called p x o es c) = mark n p (name x) ∷ mark (n + 1) o (symbol signs.Open) ∷ (arguments_marks (n + 1) es ++ mark (n + 1) c (symbol signs.Close) ∷ [])
  marks n (dotted e p q f) =
      let deep = n + dots e + 1 in
      marks n e ++ mark deep p (symbol signs.Dot) ∷ mark deep q (name f) ∷ []
  marks n (grouped p e q) = mark (n + 1) p (symbol signs.Open) ∷ (marks (n + 1) e ++ mark (n + 1) q (symbol signs.Close) ∷ [])
  marks n (past p o e c) = mark n p (word words.Old) ∷ mark (n + 1) o (symbol signs.Open) ∷ (marks (n + 1) e ++ mark (n + 1) c (symbol signs.Close) ∷ [])
  marks n (accessed p o e a c) = mark n p (word words.Acc) ∷ mark (n + 1) o (symbol signs.Open) ∷ ((marks (n + 1) e ++ amount_marks (n + 1) a) ++ mark (n + 1) c (symbol signs.Close) ∷ [])
  marks n (prefixed p op e) = mark (n + 1) p (symbol (prefix_sign op)) ∷ marks (n + 1) e
  marks n (joined a p op b) =
      let deep = n + operators (level_of op) a + 1 in
      marks n a ++ mark deep p (symbol (sign_of op)) ∷ marks deep b
  marks n (chosen c p a q b) =
      marks n c ++ mark (n + 1) p (symbol signs.Question) ∷ (marks (n + 1) a ++ mark (n + 1) q (symbol signs.Colon) ∷ marks (n + 1) b)
  marks n (unfolded p i q e) = mark n p (word words.Unfolding) ∷ (instance_marks n i ++ mark (n + 1) q (word words.In) ∷ marks (n + 1) e)

  pub arguments_marks : ℕ → ArgumentsPhrase → List Mark
  arguments_marks n no_arguments = []
  arguments_marks n (arguments_from e es) = marks n e ++ further_marks n es

  pub further_marks : ℕ → FurtherPhrase → List Mark
  further_marks n nothing_further = []
  further_marks n (further p e es) = mark n p (symbol signs.Comma) ∷ (marks n e ++ further_marks n es)

  pub amount_marks : ℕ → AmountPhrase → List Mark
  amount_marks n no_amount = []
  amount_marks n (amount p e) = mark n p (symbol signs.Comma) ∷ marks n e

  pub instance_marks : ℕ → InstancePhrase → List Mark
  instance_marks n (alone p x o es c) = mark n p (name x) ∷ mark (n + 1) o (symbol signs.Open) ∷ (arguments_marks (n + 1) es ++ mark (n + 1) c (symbol signs.Close) ∷ [])
  instance_marks n (held p o q x o' es c' a c) =
      mark n p (word words.Acc) ∷ mark (n + 1) o (symbol signs.Open)
      ∷ ((mark (n + 1) q (name x) ∷ mark (n + 1 + 1) o' (symbol signs.Open) ∷ ((arguments_marks (n + 1 + 1) es ++ mark (n + 1 + 1) c' (symbol signs.Close) ∷ []) ++ amount_marks (n + 1) a)) ++ mark (n + 1) c (symbol signs.Close) ∷ [])

abbrev pub tokens_of : List Mark → List Token
tokens_of ms = map (λ m. m.token) ms
