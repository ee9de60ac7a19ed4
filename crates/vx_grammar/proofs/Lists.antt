-- Tokens, and what follows them.
use Rattle.std.proofs.Common.{◌≡◌, ℕ, suc, ◌+◌, ◌≤◌, ◌<◌, List, [], ◌∷◌, ◌++◌, Option, Some, None, Bool, true, false, refl, ap, subst, ◌∙◌, append_assoc, arith, inl, inr, ◌⊎◌, cond}
use Rattle.std.proofs.lemmas.List.{map-append}
use Rattle.std.proofs.lemmas.Bool.Decides.{eqb_tells}
use Rattle.vx_ast.specs.declared.Place.{Place}
use Rattle.vx_ast.specs.declared.UnaryOperator.{UnaryOperator}
use Rattle.vx_ast.specs.declared.UnaryOperator.TheVariants.{Not, Negate}
use Rattle.vx_tokens.specs.declared.token.Word.TheVariants as words
use Rattle.vx_tokens.specs.declared.token.Symbol.TheVariants as signs
use Rattle.vx_ast.specs.declared.BinaryOperator.{BinaryOperator}
use Rattle.vx_ast.specs.declared.BinaryOperator.TheVariants.{Implies, Or, And, Equal, NotEqual, Less, LessEqual, Greater, GreaterEqual, Add, Subtract, Multiply, Divide, Quotient, Remainder}
use Rattle.vx_tokens.specs.Tokens.{Token, Kind, name, word, symbol}
use Rattle.vx_grammar.specs.Grammar.{operator_of, literal_word, Constant, null_word, write_word, none_word, result_word, constant_word, Phrase, literal, constant, numeral, named, called, dotted, grouped, past, accessed, prefixed, joined, chosen, unfolded, Mark, mark, marks, operators, dots, tokens_of, start_of, StandsAt, level_of, left_level, right_level, sign_of, prefix_sign}
use Rattle.vx_grammar.specs.Reading.{is_symbol}
use Rattle.vx_grammar.specs.Laws.{Within}

-- a clause's first word, other than a measure's
abbrev pub BeginsClause : Kind → Type 0
BeginsClause k = (k ≡ word words.Requires) ⊎ (k ≡ word words.Invariant)

pub tokens-append : (xs ys : List Mark) → tokens_of (xs ++ ys) ≡ tokens_of xs ++ tokens_of ys
tokens-append xs ys = map-append (λ m. m.token) xs ys

-- the tokens of two parts, and what follows
pub tokens-append_more : (xs ys : List Mark) (more : List Token) → tokens_of (xs ++ ys) ++ more ≡ tokens_of xs ++ (tokens_of ys ++ more)
tokens-append_more xs ys more = ap (λ l. l ++ more) (tokens-append xs ys) ∙ append_assoc (tokens_of xs) (tokens_of ys) more

pub within_front : (limit : ℕ) (xs ys : List Mark) → Within limit (xs ++ ys) → Within limit xs
within_front limit [] ys h = tt
within_front limit (x ∷ xs) ys h = (h.0, within_front limit xs ys h.1)

pub within_back : (limit : ℕ) (xs ys : List Mark) → Within limit (xs ++ ys) → Within limit ys
within_back limit [] ys h = h
within_back limit (x ∷ xs) ys h = within_back limit xs ys h.1

pub within-append : (limit : ℕ) (xs ys : List Mark) → Within limit xs → Within limit ys → Within limit (xs ++ ys)
within-append limit [] ys h k = k
within-append limit (x ∷ xs) ys h k = (h.0, within-append limit xs ys h.1 k)

-- the level at which a token goes on with an expression in front of it
abbrev pub reach_by : Option BinaryOperator → Bool → ℕ
reach_by (Some op) b = level_of op
reach_by None b = cond b 8 9

-- a dot and a parenthesis go on with an operand
abbrev pub reach : Kind → ℕ
reach k = cond (is_symbol signs.Open k) 0 (cond (is_symbol signs.Dot k) 0 (reach_by (operator_of k) (is_symbol signs.Question k)))

not_tight : (n m : ℕ) (b : Bool) → n < cond b 0 m → (b ≡ false) × (n < m)
not_tight n m true lt = absurd (omega (arith, lt))
not_tight n m false lt = (refl, lt)

pub not_open : (k : Kind) (n : ℕ) → n < reach k → is_symbol signs.Open k ≡ false
not_open k n lt = (not_tight n _ (is_symbol signs.Open k) lt).0

pub not_dot : (k : Kind) (n : ℕ) → n < reach k → is_symbol signs.Dot k ≡ false
not_dot k n lt = (not_tight n _ (is_symbol signs.Dot k) (not_tight n _ (is_symbol signs.Open k) lt).1).0

pub not_operator : (k : Kind) (n : ℕ) → n < reach k → n < reach_by (operator_of k) (is_symbol signs.Question k)
not_operator k n lt = (not_tight n _ (is_symbol signs.Dot k) (not_tight n _ (is_symbol signs.Open k) lt).1).1

-- an expression of the level ends before these tokens
abbrev pub Ends : ℕ → List Token → Type 0
Ends level [] = Unit {0}
Ends level (t ∷ ts) = level < reach t.kind

pub ends_below : (j k : ℕ) (ts : List Token) → j ≤ k → Ends k ts → Ends j ts
ends_below j k [] le h = tt
ends_below j k (t ∷ ts) le h = omega (arith, le, h)

-- an operator of a chain of level k + 1
pub record IsChain (op : BinaryOperator) (k : ℕ) : Type 0 where
  pub level : level_of op ≡ suc k
  pub left : left_level op ≡ suc k
  pub right : right_level op ≡ k
  pub low : k ≤ 5

pub chain_or_implies : (op : BinaryOperator) → ((k : ℕ) × IsChain op k) ⊎ (op ≡ Implies)
chain_or_implies Implies = inr refl
chain_or_implies Or = inl (5, record { level = refl; left = refl; right = refl; low = omega arith })
chain_or_implies And = inl (4, record { level = refl; left = refl; right = refl; low = omega arith })
chain_or_implies Equal = inl (3, record { level = refl; left = refl; right = refl; low = omega arith })
chain_or_implies NotEqual = inl (3, record { level = refl; left = refl; right = refl; low = omega arith })
chain_or_implies Less = inl (2, record { level = refl; left = refl; right = refl; low = omega arith })
chain_or_implies LessEqual = inl (2, record { level = refl; left = refl; right = refl; low = omega arith })
chain_or_implies Greater = inl (2, record { level = refl; left = refl; right = refl; low = omega arith })
chain_or_implies GreaterEqual = inl (2, record { level = refl; left = refl; right = refl; low = omega arith })
chain_or_implies Add = inl (1, record { level = refl; left = refl; right = refl; low = omega arith })
chain_or_implies Subtract = inl (1, record { level = refl; left = refl; right = refl; low = omega arith })
chain_or_implies Multiply = inl (0, record { level = refl; left = refl; right = refl; low = omega arith })
chain_or_implies Divide = inl (0, record { level = refl; left = refl; right = refl; low = omega arith })
chain_or_implies Quotient = inl (0, record { level = refl; left = refl; right = refl; low = omega arith })
chain_or_implies Remainder = inl (0, record { level = refl; left = refl; right = refl; low = omega arith })

-- the sign of an operator stands for it
pub is_written : (op : BinaryOperator) → operator_of (symbol (sign_of op)) ≡ Some op
is_written Implies = refl
is_written Or = refl
is_written And = refl
is_written Equal = refl
is_written NotEqual = refl
is_written Less = refl
is_written LessEqual = refl
is_written Greater = refl
is_written GreaterEqual = refl
is_written Add = refl
is_written Subtract = refl
is_written Multiply = refl
is_written Divide = refl
is_written Quotient = refl
is_written Remainder = refl

-- and goes on at its level
pub reach_sign : (op : BinaryOperator) → reach (symbol (sign_of op)) ≡ level_of op
reach_sign Implies = refl
reach_sign Or = refl
reach_sign And = refl
reach_sign Equal = refl
reach_sign NotEqual = refl
reach_sign Less = refl
reach_sign LessEqual = refl
reach_sign Greater = refl
reach_sign GreaterEqual = refl
reach_sign Add = refl
reach_sign Subtract = refl
reach_sign Multiply = refl
reach_sign Divide = refl
reach_sign Quotient = refl
reach_sign Remainder = refl

-- a list that begins with a token of this place, which closes nothing
pub record Begins (ts : List Token) (p : Place) : Type 0 where
  pub first : Token
  pub rest : List Token
  pub is : ts ≡ first ∷ rest
  pub place : first.place ≡ p
  pub not_close : is_symbol signs.Close first.kind ≡ false
  pub not_new : first.kind ≡ word words.New → ⊥

prefix_not_close : (op : UnaryOperator) → is_symbol signs.Close (symbol (prefix_sign op)) ≡ false
prefix_not_close Not = refl
prefix_not_close Negate = refl

literal_not_new : (b : Bool) → word (literal_word b) ≡ word words.New → ⊥
literal_not_new true h = absurd cc
literal_not_new false h = absurd cc

constant_not_new : (c : Constant) → word (constant_word c) ≡ word words.New → ⊥
constant_not_new null_word h = absurd cc
constant_not_new write_word h = absurd cc
constant_not_new none_word h = absurd cc
constant_not_new result_word h = absurd cc

begins-append : (ts us : List Token) (p : Place) → Begins ts p → Begins (ts ++ us) p
begins-append ts us p b = record { first = b.first; rest = b.rest ++ us; is = ap (λ l. l ++ us) b.is; place = b.place; not_close = b.not_close; not_new = b.not_new }

pub phrase_begins : (w : Phrase) (n : ℕ) → Begins (tokens_of (marks n w)) (start_of w)
phrase_begins (literal p b) n = record { first = _; rest = _; is = refl; place = refl; not_close = refl; not_new = λ h. literal_not_new b h }
phrase_begins (constant p c) n = record { first = _; rest = _; is = refl; place = refl; not_close = refl; not_new = λ h. constant_not_new c h }
phrase_begins (numeral p b) n = record { first = _; rest = _; is = refl; place = refl; not_close = refl; not_new = λ h. absurd cc }
phrase_begins (named p b) n = record { first = _; rest = _; is = refl; place = refl; not_close = refl; not_new = λ h. absurd cc }
phrase_begins (called p x o es c) n = record { first = _; rest = _; is = refl; place = refl; not_close = refl; not_new = λ h. absurd cc }
phrase_begins (grouped p e q) n = record { first = _; rest = _; is = refl; place = refl; not_close = refl; not_new = λ h. absurd cc }
phrase_begins (past p o e c) n = record { first = _; rest = _; is = refl; place = refl; not_close = refl; not_new = λ h. absurd cc }
phrase_begins (accessed p o e a c) n = record { first = _; rest = _; is = refl; place = refl; not_close = refl; not_new = λ h. absurd cc }
phrase_begins (prefixed p op e) n = record { first = _; rest = _; is = refl; place = refl; not_close = prefix_not_close op; not_new = λ h. absurd cc }
phrase_begins (unfolded p i q e) n = record { first = _; rest = _; is = refl; place = refl; not_close = refl; not_new = λ h. absurd cc }
phrase_begins (dotted e p q f) n =
    let deep = n + dots e + 1 in
    rw tokens-append (begins-append _ (tokens_of (mark deep p (symbol signs.Dot) ∷ mark deep q (name f) ∷ [])) _ (phrase_begins e n))
phrase_begins (joined a p op b) n =
    let deep = n + operators (level_of op) a + 1 in
    rw tokens-append (begins-append _ (tokens_of (mark deep p (symbol (sign_of op)) ∷ marks deep b)) _ (phrase_begins a n))
phrase_begins (chosen c p a q b) n =
    rw tokens-append (begins-append _ _ _ (phrase_begins c n))

pub begins : (w : Phrase) (n : ℕ) (more : List Token) → Begins (tokens_of (marks n w) ++ more) (start_of w)
begins w n more = begins-append _ more _ (phrase_begins w n)

-- the operators of a chain are within the limit
pub operators_fit : (limit level : ℕ) (w : Phrase) (n : ℕ) → n ≤ limit → Within limit (marks n w) → n + operators level w ≤ limit
operators_fit limit level (literal p b) n le h = omega arith
operators_fit limit level (constant p c) n le h = omega arith
operators_fit limit level (called p x o es c) n le h = omega arith
operators_fit limit level (dotted e p q f) n le h = omega arith
operators_fit limit level (past p o e c) n le h = omega arith
operators_fit limit level (accessed p o e a c) n le h = omega arith
operators_fit limit level (numeral p b) n le h = omega arith
operators_fit limit level (named p b) n le h = omega arith
operators_fit limit level (grouped p e q) n le h = omega arith
operators_fit limit level (prefixed p op e) n le h = omega arith
operators_fit limit level (chosen c p a q b) n le h = omega arith
operators_fit limit level (unfolded p i q e) n le h = omega arith
operators_fit limit level (joined a p op b) n le h =
    let deep = n + operators (level_of op) a + 1 in
    let k : n + operators (level_of op) a + 1 ≤ limit = (within_back limit (marks n a) (mark deep p (symbol (sign_of op)) ∷ marks deep b) h).0 in
    elim (eqb_tells (level_of op) level) [
      | inl e ↦
          let k' : n + operators level a + 1 ≤ limit = subst (λ l. n + operators l a + 1 ≤ limit) e.1 k in
          rw e.0 (omega (arith, k'))
      | inr e ↦ rw e.0 (omega arith)
    ]

pub stands_looser : (w : Phrase) (j k : ℕ) → j ≤ k → StandsAt j w → StandsAt k w
stands_looser (literal p b) j k le h = tt
stands_looser (constant p c) j k le h = tt
stands_looser (called p x o es c) j k le h = h
stands_looser (dotted e p q f) j k le h = h
stands_looser (past p o e c) j k le h = h
stands_looser (accessed p o e a c) j k le h = h
stands_looser (numeral p b) j k le h = tt
stands_looser (named p b) j k le h = tt
stands_looser (grouped p e q) j k le h = h
stands_looser (prefixed p op e) j k le h = h
stands_looser (joined a p op b) j k le h = (omega (arith, h.0, le), h.1, h.2, h.3)
stands_looser (chosen c p a q b) j k le h = (omega (arith, h.0, le), h.1, h.2, h.3, h.4)
stands_looser (unfolded p i q e) j k le h = h
