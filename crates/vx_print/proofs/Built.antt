-- What is printed of an expression is a phrase of it, wherever its tokens stand.
use Rattle.std.proofs.Common.{◌≡◌, ◌∙◌, ℕ, ◌+◌, ◌≤◌, List, [], ◌∷◌, ◌++◌, length, Bool, true, false, ltb, ◌||◌, not, Some, None, append_assoc, refl, sym, ap, ap₂, append-nil, arith}
use Rattle.std.proofs.lemmas.Bool.{ltb-false}
use Rattle.vx_ast.specs.declared.Place.{Place}
use Rattle.vx_ast.specs.declared.UnaryOperator.{UnaryOperator}
use Rattle.vx_ast.specs.declared.BinaryOperator.{BinaryOperator}
use Rattle.vx_ast.specs.declared.BinaryOperator.TheVariants as operators
use Rattle.vx_ast.specs.Written.{Name, Expr, Exprs, More, Amount, All, Part, Truth, Number, Null, Whole, Nothing, Result, Variable, Call, Read, Unary, Binary, Choice, Old, Access, Unfolding}
use Rattle.vx_tokens.specs.declared.token.Word.TheVariants as words
use Rattle.vx_tokens.specs.declared.token.Symbol.TheVariants as signs
use Rattle.vx_tokens.specs.Tokens.{Kind, name, word, symbol, Token}
use Rattle.vx_tokens.specs.Text.{one_token}
use Rattle.vx_grammar.specs.Grammar.{null_word, write_word, none_word, result_word, Phrase, literal, constant, numeral, named, called, dotted, grouped, past, accessed, prefixed, joined, chosen, unfolded, ends_open, InstancePhrase, alone, held, instance_meant, InstanceStands, instance_marks, ArgumentsPhrase, no_arguments, arguments_from, FurtherPhrase, nothing_further, further, AmountPhrase, no_amount, amount, Mark, mark, marks, arguments_marks, further_marks, tokens_of, meant, arguments_meant, further_meant, amount_meant, IsPrimary, StandsAt, ArgumentsStand, FurtherStand, level_of, left_level, right_level, sign_of, prefix_sign, operators, dots}
use Rattle.vx_grammar.proofs.Lists.{tokens-append, stands_looser}
use Rattle.vx_print.specs.Canonical.{parenthesized, parenthesized_if, is_prefixed, applied, instance, instance_tokens, expr_tokens, exprs_tokens, further_tokens}
use Rattle.vx_print.specs.Same.{nowhere, bare_name, bare, bare_exprs, bare_amount}

-- tokens of these kinds, the places by number
abbrev pub placed : (ℕ → Place) → ℕ → List Kind → List Token
placed f i [] = []
placed f i (k ∷ ks) = one_token k (f i) ∷ placed f (i + 1) ks

pub placed_append : (f : ℕ → Place) (i : ℕ) (xs ys : List Kind) → placed f i (xs ++ ys) ≡ placed f i xs ++ placed f (i + length xs) ys
placed_append f i [] ys = let e : i ≡ i + 0 = omega arith in ap (λ j. placed f j ys) e
placed_append f i (x ∷ xs) ys =
    let e : i + 1 + length xs ≡ i + length (x ∷ xs) = omega arith in
    ap (λ l. one_token x (f i) ∷ l) (placed_append f (i + 1) xs ys ∙ ap (λ j. placed f (i + 1) xs ++ placed f j ys) e)

-- tokens in two parts
pub two : (f : ℕ → Place) (i : ℕ) (ms ns : List Mark) (ks ls : List Kind) → tokens_of ms ≡ placed f i ks → tokens_of ns ≡ placed f (i + length ks) ls → tokens_of (ms ++ ns) ≡ placed f i (ks ++ ls)
two f i ms ns ks ls e d = tokens-append ms ns ∙ ap₂ (λ x y. x ++ y) e d ∙ sym (placed_append f i ks ls)

-- one token in front
pub first : (f : ℕ → Place) (i : ℕ) (k : Kind) (ts : List Token) (ks : List Kind) → ts ≡ placed f (i + 1) ks → one_token k (f i) ∷ ts ≡ placed f i (k ∷ ks)
first f i k ts ks e = ap (λ l. one_token k (f i) ∷ l) e

-- a phrase of these tokens, and what it means without its places
pub record Built (f : ℕ → Place) (i level : ℕ) (last : Bool) (ks : List Kind) (e : Expr) : Type 0 where
  pub phrase : Phrase
  pub stands : StandsAt level phrase
  -- where an operator may follow, no body of an `unfolding` reaches to the end
  pub closed : last ≡ false → ends_open phrase ≡ false
  pub means : bare (meant phrase) ≡ e
  pub tokens : (n : ℕ) → tokens_of (marks n phrase) ≡ placed f i ks

pub record BuiltArguments (f : ℕ → Place) (i : ℕ) (ks : List Kind) (es : Exprs) : Type 0 where
  pub phrase : ArgumentsPhrase
  pub stands : ArgumentsStand phrase
  pub means : bare_exprs (arguments_meant phrase) ≡ es
  pub tokens : (n : ℕ) → tokens_of (arguments_marks n phrase) ≡ placed f i ks

record BuiltFurther (f : ℕ → Place) (i : ℕ) (ks : List Kind) (es : Exprs) : Type 0 where
  phrase : FurtherPhrase
  stands : FurtherStand phrase
  means : bare_exprs (further_meant phrase) ≡ es
  tokens : (n : ℕ) → tokens_of (further_marks n phrase) ≡ placed f i ks

-- tokens between two parentheses, as they are placed
pub between : (f : ℕ → Place) (i : ℕ) (k : Kind) (ks : List Kind) → placed f i (ks ++ k ∷ []) ≡ placed f i ks ++ one_token k (f (i + length ks)) ∷ []
between f i k ks = placed_append f i ks (k ∷ [])

-- parentheses where they are asked for
built_if : (inside : Bool) (f : ℕ → Place) (i level inner : ℕ) (last : Bool) (ks : List Kind) (e : Expr) → inner ≤ 8 → (inside ≡ false → inner ≤ level) → ((j : ℕ) → Built f j inner (inside || last) ks e) → Built f i level last (parenthesized_if inside ks) e
built_if true f i level inner last ks e le fits build =
    let b = build (i + 1) in
    record {
      phrase = grouped (f i) b.phrase (f (i + 1 + length ks));
      stands = stands_looser b.phrase inner 8 le b.stands;
      closed = λ x. refl;
      means = b.means;
      tokens = λ n. ap (λ l. one_token (symbol signs.Open) (f i) ∷ l)
          (tokens-append (marks (n + 1) b.phrase) (mark (n + 1) (f (i + 1 + length ks)) (symbol signs.Close) ∷ [])
          ∙ ap (λ l. l ++ one_token (symbol signs.Close) (f (i + 1 + length ks)) ∷ []) (b.tokens (n + 1))
          ∙ sym (between f (i + 1) (symbol signs.Close) ks));
    }
built_if false f i level inner last ks e le fits build =
    let b = build i in
    record { phrase = b.phrase; stands = stands_looser b.phrase inner level (fits refl) b.stands; closed = b.closed; means = b.means; tokens = λ n. b.tokens n ∙ ap (placed f i) (sym (append-nil ks)) }

built_joined : (f : ℕ → Place) (i : ℕ) (op : BinaryOperator) (last : Bool) (ka kb : List Kind) (ea eb : Expr) → Built f i (left_level op) false ka ea → Built f (i + length ka + 1) (right_level op) last kb eb → Built f i (level_of op) last (ka ++ symbol (sign_of op) ∷ kb) (Binary nowhere op ea eb)
built_joined f i op last ka kb ea eb a b =
    let at = f (i + length ka) in
    let sign = symbol (sign_of op) in
    record {
      phrase = joined a.phrase at op b.phrase;
      stands = (omega arith, a.stands, b.stands, a.closed refl);
      closed = b.closed;
      means = ap₂ (Binary nowhere op) a.means b.means;
      tokens = λ n.
          let deep = n + operators (level_of op) a.phrase + 1 in
          tokens-append (marks n a.phrase) (mark deep at sign ∷ marks deep b.phrase)
          ∙ ap₂ (λ x y. x ++ one_token sign at ∷ y) (a.tokens n) (b.tokens deep)
          ∙ sym (placed_append f i ka (sign ∷ kb));
    }

built_chosen : (f : ℕ → Place) (i : ℕ) (last : Bool) (kc ka kb : List Kind) (ec ea eb : Expr) → Built f i 7 false kc ec → Built f (i + length kc + 1) 8 true ka ea → Built f (i + length kc + 1 + length ka + 1) 8 last kb eb → Built f i 8 last (kc ++ symbol signs.Question ∷ (ka ++ symbol signs.Colon ∷ kb)) (Choice nowhere ec ea eb)
built_chosen f i last kc ka kb ec ea eb c a b =
    let p = f (i + length kc) in
    let q = f (i + length kc + 1 + length ka) in
    record {
      phrase = chosen c.phrase p a.phrase q b.phrase;
      stands = (omega arith, c.stands, a.stands, b.stands, c.closed refl);
      closed = b.closed;
      means = ap₂ (λ x y. Choice nowhere x y (bare (meant b.phrase))) c.means a.means ∙ ap (Choice nowhere ec ea) b.means;
      tokens = λ n.
          let colon = mark (n + 1) q (symbol signs.Colon) in
          let sides : tokens_of (marks (n + 1) a.phrase ++ colon ∷ marks (n + 1) b.phrase) ≡ placed f (i + length kc + 1) (ka ++ symbol signs.Colon ∷ kb) =
          tokens-append (marks (n + 1) a.phrase) (colon ∷ marks (n + 1) b.phrase)
          ∙ ap₂ (λ x y. x ++ colon.token ∷ y) (a.tokens (n + 1)) (b.tokens (n + 1))
          ∙ sym (placed_append f (i + length kc + 1) ka (symbol signs.Colon ∷ kb)) in
          tokens-append (marks n c.phrase) (mark (n + 1) p (symbol signs.Question) ∷ (marks (n + 1) a.phrase ++ colon ∷ marks (n + 1) b.phrase))
          ∙ ap₂ (λ x y. x ++ one_token (symbol signs.Question) p ∷ y) (c.tokens n) sides
          ∙ sym (placed_append f i kc (symbol signs.Question ∷ (ka ++ symbol signs.Colon ∷ kb)));
    }

built_prefixed : (f : ℕ → Place) (i : ℕ) (op : UnaryOperator) (level : ℕ) (last : Bool) (ks : List Kind) (e : Expr) → Built f (i + 1) 0 last ks e → Built f i level last (symbol (prefix_sign op) ∷ ks) (Unary nowhere op e)
built_prefixed f i op level last ks e b = record {
  phrase = prefixed (f i) op b.phrase;
  stands = b.stands;
  closed = b.closed;
  means = ap (Unary nowhere op) b.means;
  tokens = λ n. ap (λ l. one_token (symbol (prefix_sign op)) (f i) ∷ l) (b.tokens (n + 1));
}

-- an operand that no prefix begins is a primary
is_primary : (w : Phrase) → StandsAt 0 w → is_prefixed (meant w) ≡ false → ends_open w ≡ false → IsPrimary w
is_primary (literal p b) s e z = tt
is_primary (constant p b) s e z = tt
is_primary (numeral p b) s e z = tt
is_primary (named p b) s e z = tt
is_primary (called p x o es c) s e z = tt
is_primary (dotted w p q f) s e z = tt
is_primary (grouped p w q) s e z = tt
is_primary (past p o w c) s e z = tt
is_primary (accessed p o w a c) s e z = tt
is_primary (prefixed p op w) s e z = absurd cc
is_primary (joined a p op b) s e z = let up = low op in absurd (omega (arith, up, s.0))
  where
    low : (op : BinaryOperator) → 1 ≤ level_of op
    low operators.Implies = omega arith
    low operators.Or = omega arith
    low operators.And = omega arith
    low operators.Equal = omega arith
    low operators.NotEqual = omega arith
    low operators.Less = omega arith
    low operators.LessEqual = omega arith
    low operators.Greater = omega arith
    low operators.GreaterEqual = omega arith
    low operators.Add = omega arith
    low operators.Subtract = omega arith
    low operators.Multiply = omega arith
    low operators.Divide = omega arith
    low operators.Quotient = omega arith
    low operators.Remainder = omega arith
is_primary (chosen c p a q b) s e z = absurd (omega (arith, s.0))
is_primary (unfolded p i q w) s e z = absurd cc

pub prefixed_bare : (e : Expr) → is_prefixed (bare e) ≡ is_prefixed e
prefixed_bare (Number p n) = refl
prefixed_bare (Truth p b) = refl
prefixed_bare (Null p) = refl
prefixed_bare (Whole p) = refl
prefixed_bare (Nothing p) = refl
prefixed_bare (Result p) = refl
prefixed_bare (Variable p x) = refl
prefixed_bare (Call p x es) = refl
prefixed_bare (Read p e x) = refl
prefixed_bare (Unary p op e) = refl
prefixed_bare (Binary p op a b) = refl
prefixed_bare (Choice p c a b) = refl
prefixed_bare (Old p e) = refl
prefixed_bare (Access p e a) = refl
prefixed_bare (Unfolding p x es a e) = refl

-- what a dot stands behind
record BuiltPrimary (f : ℕ → Place) (i : ℕ) (ks : List Kind) (e : Expr) : Type 0 where
  phrase : Phrase
  stands : StandsAt 0 phrase
  primary : IsPrimary phrase
  means : bare (meant phrase) ≡ e
  tokens : (n : ℕ) → tokens_of (marks n phrase) ≡ placed f i ks

built_primary : (inside : Bool) (f : ℕ → Place) (i : ℕ) (w : Phrase) (ks : List Kind) → is_prefixed (meant w) ≡ inside → ((j : ℕ) → Built f j 0 inside ks (bare (meant w))) → BuiltPrimary f i (parenthesized_if inside ks) (bare (meant w))
unfolding built_if
built_primary true f i w ks e build =
    let b = built_if true f i 0 0 false ks (bare (meant w)) (omega arith) (λ x. omega arith) build in
    record { phrase = b.phrase; stands = b.stands; primary = tt; means = b.means; tokens = b.tokens }
built_primary false f i w ks e build =
    let b = build i in
    let same : is_prefixed (meant b.phrase) ≡ false = sym (prefixed_bare (meant b.phrase)) ∙ ap is_prefixed b.means ∙ prefixed_bare (meant w) ∙ e in
    record { phrase = b.phrase; stands = b.stands; primary = is_primary b.phrase b.stands same (b.closed refl); means = b.means; tokens = λ n. b.tokens n ∙ ap (placed f i) (sym (append-nil ks)) }

built_dotted : (f : ℕ → Place) (i level : ℕ) (last : Bool) (ks : List Kind) (e : Expr) (x : Name) → BuiltPrimary f i ks e → Built f i level last (ks ++ symbol signs.Dot ∷ name x ∷ []) (Read nowhere e (bare_name x))
built_dotted f i level last ks e x b =
    let p = f (i + length ks) in
    let q = f (i + length ks + 1) in
    record {
      phrase = dotted b.phrase p q x;
      stands = (b.primary, b.stands);
      closed = λ y. refl;
      means = ap (λ y. Read nowhere y (bare_name x)) b.means;
      tokens = λ n.
          let deep = n + dots b.phrase + 1 in
          two f i (marks n b.phrase) (mark deep p (symbol signs.Dot) ∷ mark deep q (name x) ∷ []) ks (symbol signs.Dot ∷ name x ∷ []) (b.tokens n) refl;
    }

-- a name and its arguments
pub record BuiltCall (f : ℕ → Place) (i : ℕ) (x : Name) (ks : List Kind) (es : Exprs) : Type 0 where
  pub arguments : BuiltArguments f (i + 1 + 1) ks es
  pub close : Place
  pub tokens : (n : ℕ) → tokens_of (marks n (called (f i) x (f (i + 1)) arguments.phrase close)) ≡ placed f i (applied x ks)

pub built_call : (f : ℕ → Place) (i : ℕ) (x : Name) (ks : List Kind) (es : Exprs) → BuiltArguments f (i + 1 + 1) ks es → BuiltCall f i x ks es
built_call f i x ks es b =
    let c = f (i + 1 + 1 + length ks) in
    record {
      arguments = b;
      close = c;
      tokens = λ n. first f i (name x) _ (parenthesized ks) (first f (i + 1) (symbol signs.Open) _ (ks ++ symbol signs.Close ∷ [])
          (two f (i + 1 + 1) (arguments_marks (n + 1) b.phrase) (mark (n + 1) c (symbol signs.Close) ∷ []) ks (symbol signs.Close ∷ []) (b.tokens (n + 1)) refl));
    }

built_applied : (f : ℕ → Place) (i level : ℕ) (last : Bool) (x : Name) (ks : List Kind) (es : Exprs) → BuiltCall f i x ks es → Built f i level last (applied x ks) (Call nowhere x es)
built_applied f i level last x ks es b = record {
  phrase = called (f i) x (f (i + 1)) b.arguments.phrase b.close;
  stands = b.arguments.stands;
  closed = λ y. refl;
  means = ap (Call nowhere x) b.arguments.means;
  tokens = b.tokens;
}

-- a predicate's instance with its amount
pub record BuiltInstance (f : ℕ → Place) (i : ℕ) (ks : List Kind) (x : Name) (es : Exprs) (a : Amount) : Type 0 where
  pub phrase : InstancePhrase
  pub stands : InstanceStands phrase
  pub name_is : (instance_meant phrase).predicate.name ≡ x
  pub arguments_are : bare_exprs (instance_meant phrase).arguments ≡ es
  pub amount_is : bare_amount (instance_meant phrase).amount ≡ a
  pub tokens : (n : ℕ) → tokens_of (instance_marks n phrase) ≡ placed f i ks

built_bare : (f : ℕ → Place) (i : ℕ) (x : Name) (ks : List Kind) (es : Exprs) → BuiltCall f i x ks es → BuiltInstance f i (instance x ks None) x es All
built_bare f i x ks es b = record {
  phrase = alone (f i) x (f (i + 1)) b.arguments.phrase b.close;
  stands = b.arguments.stands;
  name_is = refl;
  arguments_are = b.arguments.means;
  amount_is = refl;
  tokens = λ n. b.tokens n ∙ ap (placed f i) (sym (append-nil (applied x ks)));
}

built_held : (f : ℕ → Place) (i : ℕ) (x : Name) (ks : List Kind) (es : Exprs) (ka : List Kind) (a : Expr) → BuiltCall f (i + 1 + 1) x ks es → Built f (i + 1 + 1 + length (applied x ks) + 1) 8 true ka a → BuiltInstance f i (instance x ks (Some ka)) x es (Part a)
built_held f i x ks es ka a b d =
    let j = i + 1 + 1 in
    let k = j + length (applied x ks) in
    let c = f (k + 1 + length ka) in
    record {
      phrase = held (f i) (f (i + 1)) (f j) x (f (j + 1)) b.arguments.phrase b.close (amount (f k) d.phrase) c;
      stands = (b.arguments.stands, d.stands);
      name_is = refl;
      arguments_are = b.arguments.means;
      amount_is = ap Part d.means;
      tokens = λ n.
          let call = marks (n + 1) (called (f j) x (f (j + 1)) b.arguments.phrase b.close) in
          let part = mark (n + 1) (f k) (symbol signs.Comma) ∷ marks (n + 1) d.phrase in
          let close = mark (n + 1) c (symbol signs.Close) ∷ [] in
          let back = symbol signs.Comma ∷ (ka ++ symbol signs.Close ∷ []) in
          first f i (word words.Acc) _ (symbol signs.Open ∷ (applied x ks ++ back)) (first f (i + 1) (symbol signs.Open) _ (applied x ks ++ back)
          (ap tokens_of (append_assoc call part close)
          ∙ two f j call (part ++ close) (applied x ks) back (b.tokens (n + 1))
          (first f k (symbol signs.Comma) _ (ka ++ symbol signs.Close ∷ []) (two f (k + 1) (marks (n + 1) d.phrase) close ka (symbol signs.Close ∷ []) (d.tokens (n + 1)) refl))));
    }

either_way : (last : Bool) → (not last || last) ≡ false → ⊥
either_way true e = cc
either_way false e = cc

-- unfolding an instance in an expression
built_unfolded : (f : ℕ → Place) (i level : ℕ) (last : Bool) (ki ke : List Kind) (x : Name) (es : Exprs) (a : Amount) (e : Expr) → ((j : ℕ) → BuiltInstance f j ki x es a) → ((j : ℕ) → Built f j 8 true ke e)
    → Built f i level last (parenthesized_if (not last) (word words.Unfolding ∷ (ki ++ word words.In ∷ ke))) (Unfolding nowhere (bare_name x) es a e)
built_unfolded f i level last ki ke x es a e instance body =
    built_if (not last) f i level 0 last (word words.Unfolding ∷ (ki ++ word words.In ∷ ke)) (Unfolding nowhere (bare_name x) es a e) (omega arith) (λ y. omega arith)
    (λ j.
    let b = instance (j + 1) in
    let q = j + 1 + length ki in
    let d = body (q + 1) in
    record {
      phrase = unfolded (f j) b.phrase (f q) d.phrase;
      stands = (b.stands, d.stands);
      closed = λ y. absurd (either_way last y);
      means = rw (b.name_is, b.arguments_are, b.amount_is, d.means) refl;
      tokens = λ n. first f j (word words.Unfolding) _ (ki ++ word words.In ∷ ke) (two f (j + 1) (instance_marks n b.phrase) (mark (n + 1) (f q) (word words.In) ∷ marks (n + 1) d.phrase) ki (word words.In ∷ ke) (b.tokens n) (first f q (word words.In) _ ke (d.tokens (n + 1))));
    })

built_past : (f : ℕ → Place) (i level : ℕ) (last : Bool) (ks : List Kind) (e : Expr) → Built f (i + 1 + 1) 8 true ks e → Built f i level last (word words.Old ∷ parenthesized ks) (Old nowhere e)
built_past f i level last ks e b =
    let c = f (i + 1 + 1 + length ks) in
    record {
      phrase = past (f i) (f (i + 1)) b.phrase c;
      stands = b.stands;
      closed = λ x. refl;
      means = ap (Old nowhere) b.means;
      tokens = λ n. ap (λ l. one_token (word words.Old) (f i) ∷ one_token (symbol signs.Open) (f (i + 1)) ∷ l)
          (tokens-append (marks (n + 1) b.phrase) (mark (n + 1) c (symbol signs.Close) ∷ [])
          ∙ ap (λ l. l ++ one_token (symbol signs.Close) c ∷ []) (b.tokens (n + 1))
          ∙ sym (between f (i + 1 + 1) (symbol signs.Close) ks));
    }

-- the amount is always written
built_accessed : (f : ℕ → Place) (i level : ℕ) (last : Bool) (ke ka : List Kind) (e a : Expr) → Built f (i + 1 + 1) 8 true ke e → Built f (i + 1 + 1 + length ke + 1) 8 true ka a → Built f i level last (word words.Acc ∷ parenthesized (ke ++ symbol signs.Comma ∷ ka)) (Access nowhere e (Part a))
built_accessed f i level last ke ka e a b d =
    let p = f (i + 1 + 1 + length ke) in
    let inner = ke ++ symbol signs.Comma ∷ ka in
    let c = f (i + 1 + 1 + length inner) in
    record {
      phrase = accessed (f i) (f (i + 1)) b.phrase (amount p d.phrase) c;
      stands = (b.stands, d.stands);
      closed = λ x. refl;
      means = ap₂ (λ x y. Access nowhere x (Part y)) b.means d.means;
      tokens = λ n.
          let comma = mark (n + 1) p (symbol signs.Comma) in
          let both : tokens_of (marks (n + 1) b.phrase ++ comma ∷ marks (n + 1) d.phrase) ≡ placed f (i + 1 + 1) inner =
          tokens-append (marks (n + 1) b.phrase) (comma ∷ marks (n + 1) d.phrase)
          ∙ ap₂ (λ x y. x ++ comma.token ∷ y) (b.tokens (n + 1)) (d.tokens (n + 1))
          ∙ sym (placed_append f (i + 1 + 1) ke (symbol signs.Comma ∷ ka)) in
          ap (λ l. one_token (word words.Acc) (f i) ∷ one_token (symbol signs.Open) (f (i + 1)) ∷ l)
          (tokens-append (marks (n + 1) b.phrase ++ comma ∷ marks (n + 1) d.phrase) (mark (n + 1) c (symbol signs.Close) ∷ [])
          ∙ ap (λ l. l ++ one_token (symbol signs.Close) c ∷ []) both
          ∙ sym (between f (i + 1 + 1) (symbol signs.Close) inner));
    }

built_more : (f : ℕ → Place) (i : ℕ) (ke kr : List Kind) (e : Expr) (es : Exprs) → Built f i 8 true ke e → BuiltFurther f (i + length ke) kr es → BuiltArguments f i (ke ++ kr) (More e es)
built_more f i ke kr e es b r = record {
  phrase = arguments_from b.phrase r.phrase;
  stands = (b.stands, r.stands);
  means = ap₂ More b.means r.means;
  tokens = λ n. tokens-append (marks n b.phrase) (further_marks n r.phrase) ∙ ap₂ (λ x y. x ++ y) (b.tokens n) (r.tokens n) ∙ sym (placed_append f i ke kr);
}

built_further : (f : ℕ → Place) (i : ℕ) (ke kr : List Kind) (e : Expr) (es : Exprs) → Built f (i + 1) 8 true ke e → BuiltFurther f (i + 1 + length ke) kr es → BuiltFurther f i (symbol signs.Comma ∷ (ke ++ kr)) (More e es)
built_further f i ke kr e es b r = record {
  phrase = further (f i) b.phrase r.phrase;
  stands = (b.stands, r.stands);
  means = ap₂ More b.means r.means;
  tokens = λ n. ap (λ l. one_token (symbol signs.Comma) (f i) ∷ l) (tokens-append (marks n b.phrase) (further_marks n r.phrase) ∙ ap₂ (λ x y. x ++ y) (b.tokens n) (r.tokens n) ∙ sym (placed_append f (i + 1) ke kr));
}

level_small : (op : BinaryOperator) → level_of op ≤ 8
level_small operators.Implies = omega arith
level_small operators.Or = omega arith
level_small operators.And = omega arith
level_small operators.Equal = omega arith
level_small operators.NotEqual = omega arith
level_small operators.Less = omega arith
level_small operators.LessEqual = omega arith
level_small operators.Greater = omega arith
level_small operators.GreaterEqual = omega arith
level_small operators.Add = omega arith
level_small operators.Subtract = omega arith
level_small operators.Multiply = omega arith
level_small operators.Divide = omega arith
level_small operators.Quotient = omega arith
level_small operators.Remainder = omega arith

-- the canonical phrase
mutual
  pub built : (f : ℕ → Place) (i level : ℕ) (last : Bool) (w : Phrase) → Built f i level last (expr_tokens level last (meant w)) (bare (meant w))
  built f i level last (literal p b) = record { phrase = literal (f i) b; stands = tt; closed = λ x. refl; means = refl; tokens = λ n. refl }
  built f i level last (constant p null_word) = record { phrase = constant (f i) null_word; stands = tt; closed = λ x. refl; means = refl; tokens = λ n. refl }
  built f i level last (constant p write_word) = record { phrase = constant (f i) write_word; stands = tt; closed = λ x. refl; means = refl; tokens = λ n. refl }
  built f i level last (constant p none_word) = record { phrase = constant (f i) none_word; stands = tt; closed = λ x. refl; means = refl; tokens = λ n. refl }
  built f i level last (constant p result_word) = record { phrase = constant (f i) result_word; stands = tt; closed = λ x. refl; means = refl; tokens = λ n. refl }
  built f i level last (numeral p m) = record { phrase = numeral (f i) m; stands = tt; closed = λ x. refl; means = refl; tokens = λ n. refl }
  built f i level last (named p x) = record { phrase = named (f i) x; stands = tt; closed = λ x. refl; means = refl; tokens = λ n. refl }
  built f i level last (called p x o es c) = built_applied f i level last x (exprs_tokens (arguments_meant es)) (bare_exprs (arguments_meant es)) (built_call f i x (exprs_tokens (arguments_meant es)) (bare_exprs (arguments_meant es)) (built_arguments f (i + 1 + 1) es))
  built f i level last (dotted e p q x) =
      let inside = is_prefixed (meant e) in
      built_dotted f i level last (parenthesized_if inside (expr_tokens 0 inside (meant e))) (bare (meant e)) x
      (built_primary inside f i e (expr_tokens 0 inside (meant e)) refl (λ j. built f j 0 inside e))
  built f i level last (grouped p e q) = built f i level last e
  built f i level last (past p o e c) = built_past f i level last (expr_tokens 8 true (meant e)) (bare (meant e)) (built f (i + 1 + 1) 8 true e)
  built f i level last (accessed p o e a c) = built_access f i level last e a (built f (i + 1 + 1) 8 true e)
  built f i level last (prefixed p op e) = built_prefixed f i op level last (expr_tokens 0 last (meant e)) (bare (meant e)) (built f (i + 1) 0 last e)
  built f i level last (joined a p op b) =
      let inside = ltb level (level_of op) in
      let ka = expr_tokens (left_level op) false (meant a) in
      let kb = expr_tokens (right_level op) (inside || last) (meant b) in
      built_if inside f i level (level_of op) last (ka ++ symbol (sign_of op) ∷ kb) (Binary nowhere op (bare (meant a)) (bare (meant b))) (level_small op) (λ e. ltb-false level (level_of op) e)
      (λ j. built_joined f j op (inside || last) ka kb (bare (meant a)) (bare (meant b)) (built f j (left_level op) false a) (built f (j + length ka + 1) (right_level op) (inside || last) b))
  built f i level last (chosen c p a q b) =
      let inside = ltb level 8 in
      let kc = expr_tokens 7 false (meant c) in
      let ka = expr_tokens 8 true (meant a) in
      let kb = expr_tokens 8 (inside || last) (meant b) in
      built_if inside f i level 8 last (kc ++ symbol signs.Question ∷ (ka ++ symbol signs.Colon ∷ kb)) (Choice nowhere (bare (meant c)) (bare (meant a)) (bare (meant b))) (omega arith) (λ e. ltb-false level 8 e)
      (λ j. built_chosen f j (inside || last) kc ka kb (bare (meant c)) (bare (meant a)) (bare (meant b)) (built f j 7 false c) (built f (j + length kc + 1) 8 true a) (built f (j + length kc + 1 + length ka + 1) 8 (inside || last) b))
  built f i level last (unfolded p w q e) = built_unfolded f i level last (instance_tokens (instance_meant w).predicate.name (instance_meant w).arguments (instance_meant w).amount) (expr_tokens 8 true (meant e)) (instance_meant w).predicate.name (bare_exprs (instance_meant w).arguments) (bare_amount (instance_meant w).amount) (bare (meant e)) (λ j. built_instance f j w) (λ j. built f j 8 true e)

  pub built_instance : (f : ℕ → Place) (i : ℕ) (w : InstancePhrase) → BuiltInstance f i (instance_tokens (instance_meant w).predicate.name (instance_meant w).arguments (instance_meant w).amount) (instance_meant w).predicate.name (bare_exprs (instance_meant w).arguments) (bare_amount (instance_meant w).amount)
  built_instance f i (alone p x o es c) =
      let ks = exprs_tokens (arguments_meant es) in
      let bs = bare_exprs (arguments_meant es) in
      built_bare f i x ks bs (built_call f i x ks bs (built_arguments f (i + 1 + 1) es))
  built_instance f i (held p o q x o' es c' no_amount c) =
      let ks = exprs_tokens (arguments_meant es) in
      let bs = bare_exprs (arguments_meant es) in
      built_bare f i x ks bs (built_call f i x ks bs (built_arguments f (i + 1 + 1) es))
  built_instance f i (held p o q x o' es c' (amount r a) c) =
      let ks = exprs_tokens (arguments_meant es) in
      let bs = bare_exprs (arguments_meant es) in
      let j = i + 1 + 1 in
      built_held f i x ks bs (expr_tokens 8 true (meant a)) (bare (meant a)) (built_call f j x ks bs (built_arguments f (j + 1 + 1) es)) (built f (j + length (applied x ks) + 1) 8 true a)

  built_access : (f : ℕ → Place) (i level : ℕ) (last : Bool) (e : Phrase) (a : AmountPhrase) → Built f (i + 1 + 1) 8 true (expr_tokens 8 true (meant e)) (bare (meant e)) → Built f i level last (expr_tokens level last (Access nowhere (meant e) (amount_meant a))) (bare (Access nowhere (meant e) (amount_meant a)))
  built_access f i level last e no_amount b =
      let ke = expr_tokens 8 true (meant e) in
      built_accessed f i level last ke (word words.Write ∷ []) (bare (meant e)) (Whole nowhere) b
      record { phrase = constant (f (i + 1 + 1 + length ke + 1)) write_word; stands = tt; closed = λ x. refl; means = refl; tokens = λ n. refl }
  built_access f i level last e (amount p a) b =
      let ke = expr_tokens 8 true (meant e) in
      built_accessed f i level last ke (expr_tokens 8 true (meant a)) (bare (meant e)) (bare (meant a)) b (built f (i + 1 + 1 + length ke + 1) 8 true a)

  pub built_arguments : (f : ℕ → Place) (i : ℕ) (es : ArgumentsPhrase) → BuiltArguments f i (exprs_tokens (arguments_meant es)) (bare_exprs (arguments_meant es))
  built_arguments f i no_arguments = record { phrase = no_arguments; stands = tt; means = refl; tokens = λ n. refl }
  built_arguments f i (arguments_from e es) =
      let ke = expr_tokens 8 true (meant e) in
      built_more f i ke (further_tokens (further_meant es)) (bare (meant e)) (bare_exprs (further_meant es)) (built f i 8 true e) (built_rest f (i + length ke) es)

  built_rest : (f : ℕ → Place) (i : ℕ) (es : FurtherPhrase) → BuiltFurther f i (further_tokens (further_meant es)) (bare_exprs (further_meant es))
  built_rest f i nothing_further = record { phrase = nothing_further; stands = tt; means = refl; tokens = λ n. refl }
  built_rest f i (further p e es) =
      let ke = expr_tokens 8 true (meant e) in
      built_further f i ke (further_tokens (further_meant es)) (bare (meant e)) (bare_exprs (further_meant es)) (built f (i + 1) 8 true e) (built_rest f (i + 1 + length ke) es)
