-- Reading an expression looks no further than the token at which it stops.
use Rattle.std.proofs.Common.{◌≡◌, ℕ, zero, suc, ◌+◌, List, [], ◌∷◌, ◌++◌, ◌≤◌, ◌<◌, Option, Some, None, Ok, Err, length, refl, sym, ap, ◌∙◌, subst, arith, Bool, true, false, cond, eqb, length-append}
use Rattle.vx_ast.specs.declared.Place.{Place}
use Rattle.vx_tokens.specs.declared.token.Word.TheVariants as words
use Rattle.vx_tokens.specs.declared.token.Symbol.TheVariants as signs
use Rattle.vx_ast.specs.declared.UnaryOperator.TheVariants.{Not, Negate}
use Rattle.vx_ast.specs.declared.BinaryOperator.{BinaryOperator}
use Rattle.vx_ast.specs.declared.BinaryOperator.TheVariants.{Implies}
use Rattle.vx_tokens.specs.Tokens.{Token, Kind, name, number, word, symbol}
use Rattle.vx_ast.specs.Written.{Placed, placed, Expr, NoMore, All, Truth, Number, Null, Whole, Nothing, Variable, Call, Unary, Binary, Choice, Old, Access, NewAll, New}
use Rattle.vx_ast.specs.Written as written
use Rattle.vx_grammar.specs.Grammar.{level_of, operator_of}
use Rattle.vx_grammar.specs.Reading.{◌>>=◌, Read, Unexpected, Deeper, is_symbol, Part, Given, choice, implication, chain, rest_of_chain, behind_dot, arguments, access, holding, allocation, name_at, expect, enclosed, call_by, named_by, old_by, access_by, primary_by, dots_at, dotted_at, postfix_by, unary_by, unary_at, run, argument_turn, some_arguments, arguments_at, amount_by, amount_at, access_at, bare_by, instance_by, instance_at, begins_body, behind_in, unfolding_by, holding_at, name_turn, fields_at, allocation_by, allocation_at, operator_by, rest_by, rest_at, chain_at, implies_by, implied_by, implication_at, second_by, sides_by, chosen_by, choice_at, part_at, below}
use Rattle.vx_grammar.proofs.Local.{Local, SameAtClause, at_clause, not_symbol, other_kind, local_ok_by, local_ok, local_unexpected, local_end, local_end_unexpected, local_return, local_token, local_then, local_same, Front}
use Rattle.vx_grammar.proofs.LocalParts.{name_local, bracket_local}
use Rattle.vx_grammar.proofs.Tells.{Tells}
use Rattle.vx_grammar.proofs.Steps.{TurnFor}
use Rattle.vx_grammar.proofs.NamesTold.{NameStep, name_turn_tells}
use Rattle.vx_grammar.proofs.RunLocal.{Turns, local_turn, run_local, taken_short, taken_none}

-- the deeper reader's answers are those of the other
LocalDeeper : Deeper → Deeper → Type 0
LocalDeeper d d' = (p : Part) (here ts : List Token) (heres : List Token → List Token) → Local ts (d p here ts) (λ l. d' p (heres l) l)

-- one more reader, and what is made of its value
made_local : (d d' : Deeper) (p : Part) (t : Token) (ts : List Token) (f : Given p → Expr) → LocalDeeper d d' → Local ts (d p (t ∷ ts) ts >>= λ e. Ok (f e.0, e.1)) (λ l. d' p (t ∷ l) l >>= λ e. Ok (f e.0, e.1))
unfolding LocalDeeper
made_local d d' p t ts f h = local_then ts (d p (t ∷ ts) ts) (λ l. d' p (t ∷ l) l) (λ e. Ok (f e.0, e.1)) (λ e. Ok (f e.0, e.1)) (h p (t ∷ ts) ts (λ l. t ∷ l)) (λ x mid. local_return mid (f x))

enclosed_local : (d d' : Deeper) (p : Part) (ts : List Token) → LocalDeeper d d' → Local ts (enclosed d p ts) (enclosed d' p)
unfolding enclosed LocalDeeper
enclosed_local d d' p ts h = bracket_local signs.Open signs.Close (d p) (d' p) (h p) ts

enclosed_made : (d d' : Deeper) (p : Part) (ts : List Token) (f : Given p → Expr) → LocalDeeper d d' → Local ts (enclosed d p ts >>= λ y. Ok (f y.0, y.1)) (λ l. enclosed d' p l >>= λ y. Ok (f y.0, y.1))
enclosed_made d d' p ts f h = local_then ts (enclosed d p ts) (enclosed d' p) (λ y. Ok (f y.0, y.1)) (λ y. Ok (f y.0, y.1)) (enclosed_local d d' p ts h) (λ x mid. local_return mid (f x))

-- ---- operands

call_local : (d d' : Deeper) (t : Token) (x : List ℕ) (ts : List Token) → LocalDeeper d d' → Local ts (call_by d t x ts) (call_by d' t x)
unfolding call_by
call_local d d' t x ts h = enclosed_made d d' arguments ts (Call t.place x) h

named_by_local : (d d' : Deeper) (t : Token) (x : List ℕ) (u : Token) (us : List Token) (b : Bool) → is_symbol signs.Open u.kind ≡ b → LocalDeeper d d' → Local (u ∷ us) (cond b (call_by d t x (u ∷ us)) (Ok (Variable t.place x, u ∷ us))) (named_by d' t x)
unfolding named_by
named_by_local d d' t x u us true e h = local_same u us (call_by d t x (u ∷ us)) (call_by d' t x) (named_by d' t x) (λ l. rw e refl) (λ d. not_symbol signs.Open u.kind e d) (call_local d d' t x (u ∷ us) h)
named_by_local d d' t x u us false e h = local_ok u us (Variable t.place x) (named_by d' t x) (λ more. rw e refl) (λ p more. refl) (λ p more. refl)

named_local : (d d' : Deeper) (t : Token) (x : List ℕ) (ts : List Token) → LocalDeeper d d' → Local ts (named_by d t x ts) (named_by d' t x)
unfolding named_by
named_local d d' t x [] h = local_end (Variable t.place x) (named_by d' t x) refl
named_local d d' t x (u ∷ us) h = named_by_local d d' t x u us (is_symbol signs.Open u.kind) refl h

old_local : (d d' : Deeper) (t : Token) (ts : List Token) → LocalDeeper d d' → Local ts (old_by d t ts) (old_by d' t)
unfolding old_by
old_local d d' t ts h = enclosed_made d d' choice ts (Old t.place) h

access_by_local : (d d' : Deeper) (t : Token) (ts : List Token) → LocalDeeper d d' → Local ts (access_by d t ts) (access_by d' t)
unfolding access_by
access_by_local d d' t ts h = enclosed_made d d' access ts (λ y. Access t.place y.0 y.1) h

-- reading what a dot may stand behind, from its first token on
primary_at : Deeper → List Token → Read Expr
primary_at d [] = Err (Unexpected [])
primary_at d (t ∷ ts) = primary_by d t t.kind ts

constant_local : (d : Deeper) (t : Token) (ts : List Token) (e : Expr) → ((l : List Token) → primary_at d (t ∷ l) ≡ Ok (e, l)) → Local (t ∷ ts) (Ok (e, ts)) (primary_at d)
constant_local d t ts e h = local_token t ts (Ok (e, ts)) (λ l. Ok (e, l)) (primary_at d) h (local_return ts e)

primary_local : (d d' : Deeper) (t : Token) (k : Kind) (ts : List Token) → t.kind ≡ k → LocalDeeper d d' → Local (t ∷ ts) (primary_by d t k ts) (primary_at d')
unfolding primary_by primary_at
primary_local d d' t (name x) ts e h = local_token t ts (named_by d t x ts) (named_by d' t x) (primary_at d') (λ l. rw e refl) (named_local d d' t x ts h)
primary_local d d' t (number x) ts e h = constant_local d' t ts (Number t.place x) (λ l. rw e refl)
primary_local d d' t (word words.True) ts e h = constant_local d' t ts (Truth t.place true) (λ l. rw e refl)
primary_local d d' t (word words.False) ts e h = constant_local d' t ts (Truth t.place false) (λ l. rw e refl)
primary_local d d' t (word words.Null) ts e h = constant_local d' t ts (Null t.place) (λ l. rw e refl)
primary_local d d' t (word words.Write) ts e h = constant_local d' t ts (Whole t.place) (λ l. rw e refl)
primary_local d d' t (word words.Nothing) ts e h = constant_local d' t ts (Nothing t.place) (λ l. rw e refl)
primary_local d d' t (word words.Outcome) ts e h = constant_local d' t ts (written.Result t.place) (λ l. rw e refl)
primary_local d d' t (word words.Old) ts e h = local_token t ts (old_by d t ts) (old_by d' t) (primary_at d') (λ l. rw e refl) (old_local d d' t ts h)
primary_local d d' t (word words.Acc) ts e h = local_token t ts (access_by d t ts) (access_by d' t) (primary_at d') (λ l. rw e refl) (access_by_local d d' t ts h)
primary_local d d' t (symbol signs.Open) ts e h = local_same t ts (enclosed d choice (t ∷ ts)) (enclosed d' choice) (primary_at d') (λ l. rw e refl) (λ d. other_kind signs.Open t.kind e d) (enclosed_local d d' choice (t ∷ ts) h)
primary_local d d' t k ts e h = local_unexpected t ts (primary_at d') (λ more. rw e refl) (λ p more. refl) (λ p more. refl)

dots_by_local : (d d' : Deeper) (start : Place) (left : Expr) (t : Token) (ts : List Token) (b : Bool) → is_symbol signs.Dot t.kind ≡ b → LocalDeeper d d' → Local (t ∷ ts) (cond b (d (behind_dot start left) (t ∷ ts) ts) (Ok (left, t ∷ ts))) (dots_at d' start left)
unfolding dots_at LocalDeeper
dots_by_local d d' start left t ts true e h = local_token t ts (d (behind_dot start left) (t ∷ ts) ts) (λ l. d' (behind_dot start left) (t ∷ l) l) (dots_at d' start left) (λ l. rw e refl) (h (behind_dot start left) (t ∷ ts) ts (λ l. t ∷ l))
dots_by_local d d' start left t ts false e h = local_ok t ts left (dots_at d' start left) (λ more. rw e refl) (λ p more. refl) (λ p more. refl)

dots_local : (d d' : Deeper) (start : Place) (left : Expr) (ts : List Token) → LocalDeeper d d' → Local ts (dots_at d start left ts) (dots_at d' start left)
unfolding dots_at
dots_local d d' start left [] h = local_end left (dots_at d' start left) refl
dots_local d d' start left (t ∷ ts) h = dots_by_local d d' start left t ts (is_symbol signs.Dot t.kind) refl h

dotted_local : (d d' : Deeper) (start : Place) (left : Expr) (ts : List Token) → LocalDeeper d d' → Local ts (dotted_at d start left ts) (dotted_at d' start left)
unfolding dotted_at
dotted_local d d' start left ts h = local_then ts (name_at ts) name_at _ _ (name_local ts) (λ f mid. dots_local d d' start (written.Read start left f) mid h)

-- nothing begins with a clause's first word
abbrev pub StuckAtClause : {A : Type 0} → (List Token → Read A) → Type 0
StuckAtClause reader = SameAtClause reader (λ l. Err (Unexpected l))

primary_stuck : (d : Deeper) → StuckAtClause (primary_at d)
unfolding primary_at primary_by
primary_stuck d = at_clause (primary_at d) (λ l. Err (Unexpected l)) (λ p l. refl) (λ p l. refl)

pub unary_stuck : (d : Deeper) → StuckAtClause (unary_at d)
unfolding unary_at unary_by postfix_by primary_by
unary_stuck d = at_clause (unary_at d) (λ l. Err (Unexpected l)) (λ p l. refl) (λ p l. refl)

chain_stuck : (d : Deeper) (k : ℕ) → StuckAtClause (chain_at d k)
unfolding chain_at
chain_stuck d zero = unary_stuck d
chain_stuck d (suc k) = λ u l c. rw (chain_stuck d k u l c) refl

implication_stuck : (d : Deeper) → StuckAtClause (implication_at d)
unfolding implication_at
implication_stuck d = λ u l c. rw (chain_stuck d 6 u l c) refl

choice_stuck : (d : Deeper) → StuckAtClause (choice_at d)
unfolding choice_at
choice_stuck d = λ u l c. rw (implication_stuck d u l c) refl

-- behind what was read from the first token on
pub local_from_first : {A B : Type 0} (t : Token) (ts : List Token) (r : Read A) (reader : List Token → Read A) (whole : List Token → Read B) (f next : A × List Token → Read B) → ((l : List Token) → whole (t ∷ l) ≡ (reader (t ∷ l) >>= next)) → (t.kind ≡ word words.Decreases → StuckAtClause reader) → (t.kind ≡ word words.Decreases → StuckAtClause whole) → Local (t ∷ ts) r reader → ((x : A) (mid : List Token) → Local mid (f (x, mid)) (λ l. next (x, l))) → Local (t ∷ ts) (r >>= f) whole
local_from_first t ts r reader whole f next e a b h k = local_same t ts (r >>= f) (λ l. reader l >>= next) whole (λ l. sym (e l)) (λ d u l c. ap (λ r. r >>= next) (a d u l c) ∙ sym (b d u l c)) (local_then (t ∷ ts) r reader f next h k)

postfix_local : (d d' : Deeper) (t : Token) (k : Kind) (ts : List Token) → t.kind ≡ k → ((l : List Token) → unary_at d' (t ∷ l) ≡ postfix_by d' t t.kind l) → LocalDeeper d d' → Local (t ∷ ts) (postfix_by d t k ts) (unary_at d')
unfolding postfix_by primary_at
postfix_local d d' t k ts e same h = local_from_first t ts (primary_by d t k ts) (primary_at d') (unary_at d') (λ x. dots_at d t.place x.0 x.1) (λ x. dots_at d' t.place x.0 x.1) same (λ m. primary_stuck d') (λ m. unary_stuck d') (primary_local d d' t k ts e h) (λ x mid. dots_local d d' t.place x mid h)

bare_local : (d d' : Deeper) (x : Placed) (ts : List Token) → LocalDeeper d d' → Local ts (bare_by d x ts) (bare_by d' x)
unfolding bare_by
bare_local d d' x ts h = local_then ts (enclosed d arguments ts) (enclosed d' arguments) _ _ (enclosed_local d d' arguments ts h) (λ es us. local_return us _)

instance_by_local : (d d' : Deeper) (t : Token) (k : Kind) (ts : List Token) → t.kind ≡ k → LocalDeeper d d' → Local (t ∷ ts) (instance_by d t k ts) (instance_at d')
unfolding instance_at
instance_by_local d d' t (name x) ts e h = local_token t ts (bare_by d (placed t.place x) ts) (bare_by d' (placed t.place x)) (instance_at d') (λ l. rw e refl) (bare_local d d' (placed t.place x) ts h)
instance_by_local d d' t (word words.Acc) ts e h = local_token t ts (enclosed d holding ts) (enclosed d' holding) (instance_at d') (λ l. rw e refl) (enclosed_local d d' holding ts h)
instance_by_local d d' t k ts e h = local_unexpected t ts (instance_at d') (λ more. rw e refl) (λ p more. refl) (λ p more. refl)

instance_local : (d d' : Deeper) (ts : List Token) → LocalDeeper d d' → Local ts (instance_at d ts) (instance_at d')
unfolding instance_at
instance_local d d' [] h = local_end_unexpected (instance_at d') refl
instance_local d d' (t ∷ ts) h = instance_by_local d d' t t.kind ts refl h

behind_in_by_local : (d d' : Deeper) (t : Token) (ts : List Token) (b : Bool) → begins_body t.kind ≡ b → LocalDeeper d d' → Local (t ∷ ts) (cond b (d choice (t ∷ ts) ts) (Err (Unexpected (t ∷ ts)))) (behind_in d')
unfolding behind_in LocalDeeper
behind_in_by_local d d' t ts true e h = local_token t ts (d choice (t ∷ ts) ts) (λ l. d' choice (t ∷ l) l) (behind_in d') (λ l. rw e refl) (h choice (t ∷ ts) ts (λ l. t ∷ l))
behind_in_by_local d d' t ts false e h = local_unexpected t ts (behind_in d') (λ more. rw e refl) (λ p more. refl) (λ p more. refl)

behind_in_local : (d d' : Deeper) (ts : List Token) → LocalDeeper d d' → Local ts (behind_in d ts) (behind_in d')
unfolding behind_in
behind_in_local d d' [] h = local_end_unexpected (behind_in d') refl
behind_in_local d d' (t ∷ ts) h = behind_in_by_local d d' t ts (begins_body t.kind) refl h

unfolding_local : (d d' : Deeper) (t : Token) (ts : List Token) → LocalDeeper d d' → Local ts (unfolding_by d t ts) (unfolding_by d' t)
unfolding unfolding_by
unfolding_local d d' t ts h =
    local_then ts (instance_at d ts) (instance_at d') _ _ (instance_local d d' ts h) (λ i us.
    local_then us (behind_in d us) (behind_in d') _ _ (behind_in_local d d' us h) (λ e vs. local_return vs _))

unary_by_local : (d d' : Deeper) (t : Token) (k : Kind) (ts : List Token) → t.kind ≡ k → LocalDeeper d d' → Local (t ∷ ts) (unary_by d t k ts) (unary_at d')
unfolding unary_by unary_at
unary_by_local d d' t (symbol signs.Not) ts e h = local_token t ts (d (chain 0) (t ∷ ts) ts >>= λ x. Ok (Unary t.place Not x.0, x.1)) (λ l. d' (chain 0) (t ∷ l) l >>= λ x. Ok (Unary t.place Not x.0, x.1)) (unary_at d') (λ l. rw e refl) (made_local d d' (chain 0) t ts (Unary t.place Not) h)
unary_by_local d d' t (symbol signs.Minus) ts e h = local_token t ts (d (chain 0) (t ∷ ts) ts >>= λ x. Ok (Unary t.place Negate x.0, x.1)) (λ l. d' (chain 0) (t ∷ l) l >>= λ x. Ok (Unary t.place Negate x.0, x.1)) (unary_at d') (λ l. rw e refl) (made_local d d' (chain 0) t ts (Unary t.place Negate) h)
unary_by_local d d' t (word words.Unfolding) ts e h = local_token t ts (unfolding_by d t ts) (unfolding_by d' t) (unary_at d') (λ l. rw e refl) (unfolding_local d d' t ts h)
unary_by_local d d' t k ts e h = postfix_local d d' t k ts e (λ l. rw e refl) h

unary_local : (d d' : Deeper) (ts : List Token) → LocalDeeper d d' → Local ts (unary_at d ts) (unary_at d')
unfolding unary_at
unary_local d d' [] h = local_end_unexpected (unary_at d') refl
unary_local d d' (t ∷ ts) h = unary_by_local d d' t t.kind ts refl h

-- ---- chains

operator_local : (d d' : Deeper) (k : ℕ) (start : Place) (left : Expr) (t : Token) (ts : List Token) (op : BinaryOperator) → LocalDeeper d d' → Local ts (operator_by d k start left t ts op) (λ l. operator_by d' k start left t l op)
unfolding operator_by LocalDeeper
operator_local d d' k start left t ts op h =
    local_then ts (d (chain k) (t ∷ ts) ts) (λ l. d' (chain k) (t ∷ l) l) (λ right. d (rest_of_chain k start (Binary start op left right.0)) right.1 right.1) (λ right. d' (rest_of_chain k start (Binary start op left right.0)) right.1 right.1) (h (chain k) (t ∷ ts) ts (λ l. t ∷ l))
    (λ x mid. h (rest_of_chain k start (Binary start op left x)) mid mid (λ l. l))

rest_by_local : (d d' : Deeper) (k : ℕ) (start : Place) (left : Expr) (t : Token) (ts : List Token) (o : Option BinaryOperator) → operator_of t.kind ≡ o → LocalDeeper d d' → Local (t ∷ ts) (rest_by d k start left t ts o) (rest_at d' k start left)
unfolding rest_by rest_at
rest_by_local d d' k start left t ts None e h = local_ok t ts left (rest_at d' k start left) (λ more. rw e refl) (λ p more. refl) (λ p more. refl)
rest_by_local d d' k start left t ts (Some op) e h = by_level (eqb (level_of op) (suc k)) refl
  where
    by_level : (b : Bool) → eqb (level_of op) (suc k) ≡ b → Local (t ∷ ts) (cond b (operator_by d k start left t ts op) (Ok (left, t ∷ ts))) (rest_at d' k start left)
    by_level true q = local_token t ts (operator_by d k start left t ts op) (λ l. operator_by d' k start left t l op) (rest_at d' k start left) (λ l. rw (e, q) refl) (operator_local d d' k start left t ts op h)
    by_level false q = local_ok t ts left (rest_at d' k start left) (λ more. rw (e, q) refl) (λ p more. refl) (λ p more. refl)

rest_local : (d d' : Deeper) (k : ℕ) (start : Place) (left : Expr) (ts : List Token) → LocalDeeper d d' → Local ts (rest_at d k start left ts) (rest_at d' k start left)
unfolding rest_at
rest_local d d' k start left [] h = local_end left (rest_at d' k start left) refl
rest_local d d' k start left (t ∷ ts) h = rest_by_local d d' k start left t ts (operator_of t.kind) refl h

chain_local : (d d' : Deeper) (k : ℕ) (ts : List Token) → LocalDeeper d d' → Local ts (chain_at d k ts) (chain_at d' k)
unfolding chain_at
chain_local d d' zero ts h = unary_local d d' ts h
chain_local d d' (suc k) [] h = local_end_unexpected (chain_at d' (suc k)) refl
chain_local d d' (suc k) (t ∷ ts) h =
    local_from_first t ts (chain_at d k (t ∷ ts)) (chain_at d' k) (chain_at d' (suc k)) (λ left. rest_at d k t.place left.0 left.1) (λ left. rest_at d' k t.place left.0 left.1) (λ l. refl) (λ m. chain_stuck d' k) (λ m. chain_stuck d' (suc k)) (chain_local d d' k (t ∷ ts) h) (λ x mid. rest_local d d' k t.place x mid h)

implied_by_local : (d d' : Deeper) (start : Place) (left : Expr) (t : Token) (ts : List Token) (b : Bool) → is_symbol signs.Implies t.kind ≡ b → LocalDeeper d d' → Local (t ∷ ts) (cond b (implies_by d start left t ts) (Ok (left, t ∷ ts))) (implied_by d' start left)
unfolding implied_by implies_by
implied_by_local d d' start left t ts true e h = local_token t ts (implies_by d start left t ts) (λ l. implies_by d' start left t l) (implied_by d' start left) (λ l. rw e refl) (made_local d d' implication t ts (Binary start Implies left) h)
implied_by_local d d' start left t ts false e h = local_ok t ts left (implied_by d' start left) (λ more. rw e refl) (λ p more. refl) (λ p more. refl)

implied_local : (d d' : Deeper) (start : Place) (left : Expr) (ts : List Token) → LocalDeeper d d' → Local ts (implied_by d start left ts) (implied_by d' start left)
unfolding implied_by
implied_local d d' start left [] h = local_end left (implied_by d' start left) refl
implied_local d d' start left (t ∷ ts) h = implied_by_local d d' start left t ts (is_symbol signs.Implies t.kind) refl h

implication_local : (d d' : Deeper) (ts : List Token) → LocalDeeper d d' → Local ts (implication_at d ts) (implication_at d')
unfolding implication_at
implication_local d d' [] h = local_end_unexpected (implication_at d') refl
implication_local d d' (t ∷ ts) h =
    local_from_first t ts (chain_at d 6 (t ∷ ts)) (chain_at d' 6) (implication_at d') (λ left. implied_by d t.place left.0 left.1) (λ left. implied_by d' t.place left.0 left.1) (λ l. refl) (λ m. chain_stuck d' 6) (λ m. implication_stuck d') (chain_local d d' 6 (t ∷ ts) h) (λ x mid. implied_local d d' t.place x mid h)

second_at_local : (d d' : Deeper) (c : Token) (cs : List Token) (b : Bool) → is_symbol signs.Colon c.kind ≡ b → LocalDeeper d d'
    → (let r : Read Token = cond b (Ok (c, cs)) (Err (Unexpected (c ∷ cs))) in Local (c ∷ cs) (r >>= λ colon. d choice (c ∷ cs) colon.1) (second_by d'))
unfolding second_by expect LocalDeeper
second_at_local d d' c cs true e h = local_token c cs (d choice (c ∷ cs) cs) (λ l. d' choice (c ∷ l) l) (second_by d') (λ l. rw e refl) (h choice (c ∷ cs) cs (λ l. c ∷ l))
second_at_local d d' c cs false e h = local_unexpected c cs (second_by d') (λ more. rw e refl) (λ p more. refl) (λ p more. refl)

second_local : (d d' : Deeper) (ts : List Token) → LocalDeeper d d' → Local ts (second_by d ts) (second_by d')
unfolding second_by expect
second_local d d' [] h = local_end_unexpected (second_by d') refl
second_local d d' (c ∷ cs) h = second_at_local d d' c cs (is_symbol signs.Colon c.kind) refl h

sides_local : (d d' : Deeper) (start : Place) (condition : Expr) (t : Token) (ts : List Token) → LocalDeeper d d' → Local ts (sides_by d start condition t ts) (λ l. sides_by d' start condition t l)
unfolding sides_by LocalDeeper
sides_local d d' start condition t ts h =
    local_then ts (d choice (t ∷ ts) ts) (λ l. d' choice (t ∷ l) l) (λ first. second_by d first.1 >>= λ second. Ok (Choice start condition first.0 second.0, second.1)) (λ first. second_by d' first.1 >>= λ second. Ok (Choice start condition first.0 second.0, second.1)) (h choice (t ∷ ts) ts (λ l. t ∷ l))
    (λ x mid. local_then mid (second_by d mid) (second_by d') (λ second. Ok (Choice start condition x second.0, second.1)) (λ second. Ok (Choice start condition x second.0, second.1)) (second_local d d' mid h) (λ y after. local_return after (Choice start condition x y)))

chosen_by_local : (d d' : Deeper) (start : Place) (condition : Expr) (t : Token) (ts : List Token) (b : Bool) → is_symbol signs.Question t.kind ≡ b → LocalDeeper d d' → Local (t ∷ ts) (cond b (sides_by d start condition t ts) (Ok (condition, t ∷ ts))) (chosen_by d' start condition)
unfolding chosen_by
chosen_by_local d d' start condition t ts true e h = local_token t ts (sides_by d start condition t ts) (λ l. sides_by d' start condition t l) (chosen_by d' start condition) (λ l. rw e refl) (sides_local d d' start condition t ts h)
chosen_by_local d d' start condition t ts false e h = local_ok t ts condition (chosen_by d' start condition) (λ more. rw e refl) (λ p more. refl) (λ p more. refl)

chosen_local : (d d' : Deeper) (start : Place) (condition : Expr) (ts : List Token) → LocalDeeper d d' → Local ts (chosen_by d start condition ts) (chosen_by d' start condition)
unfolding chosen_by
chosen_local d d' start condition [] h = local_end condition (chosen_by d' start condition) refl
chosen_local d d' start condition (t ∷ ts) h = chosen_by_local d d' start condition t ts (is_symbol signs.Question t.kind) refl h

choice_local : (d d' : Deeper) (ts : List Token) → LocalDeeper d d' → Local ts (choice_at d ts) (choice_at d')
unfolding choice_at
choice_local d d' [] h = local_end_unexpected (choice_at d') refl
choice_local d d' (t ∷ ts) h =
    local_from_first t ts (implication_at d (t ∷ ts)) (implication_at d') (choice_at d') (λ condition. chosen_by d t.place condition.0 condition.1) (λ condition. chosen_by d' t.place condition.0 condition.1) (λ l. refl) (λ m. implication_stuck d') (λ m. choice_stuck d') (implication_local d d' (t ∷ ts) h) (λ x mid. chosen_local d d' t.place x mid h)

-- ---- arguments

argument_by_local : (d d' : Deeper) (before : List Expr) (t : Token) (ts : List Token) (b : Bool) → is_symbol signs.Comma t.kind ≡ b → LocalDeeper d d' → Local (t ∷ ts) (cond b (choice_at d ts >>= λ e. Ok (Some (before ++ e.0 ∷ []), e.1)) (Ok (None, t ∷ ts))) (argument_turn d' before)
unfolding argument_turn
argument_by_local d d' before t ts true e h = local_token t ts (choice_at d ts >>= λ e. Ok (Some (before ++ e.0 ∷ []), e.1)) (λ l. choice_at d' l >>= λ e. Ok (Some (before ++ e.0 ∷ []), e.1)) (argument_turn d' before) (λ l. rw e refl) (local_then ts (choice_at d ts) (choice_at d') _ _ (choice_local d d' ts h) (λ x us. local_return us _))
argument_by_local d d' before t ts false e h = local_ok t ts None (argument_turn d' before) (λ more. rw e refl) (λ p more. refl) (λ p more. refl)

argument_turn_local : (d d' : Deeper) (before : List Expr) (ts : List Token) → LocalDeeper d d' → Local ts (argument_turn d before ts) (argument_turn d' before)
unfolding argument_turn
argument_turn_local d d' before [] h = local_end None (argument_turn d' before) refl
argument_turn_local d d' before (t ∷ ts) h = argument_by_local d d' before t ts (is_symbol signs.Comma t.kind) refl h

-- what is read is no longer than what was there
front_short : {A : Type 0} (ts : List Token) (r : Read A) (reader : List Token → Read A) (x : A) (mid : List Token) → r ≡ Ok (x, mid) → Local ts r reader → length mid ≤ length ts
front_short ts r reader x mid e h =
    let f : Front true ts mid (λ l. Ok (x, l)) reader = subst (λ q. Local ts q reader) e h in
    let a = ap length f.is in
    let b = length-append f.front mid in
    omega (arith, a, b)

abbrev one_more : List Expr → Expr × List Token → Read (Option (List Expr))
one_more before x = Ok (Some (before ++ x.0 ∷ []), x.1)

ok_is : {A : Type 0} (x y : A × List Token) → (let r : Read A = Ok x in r ≡ Ok y) → x ≡ y
ok_is x y e = cc

not_some : (x : Option (List Expr) × List Token) (after : List Expr) (ts mid : List Token) → x ≡ (Some after, mid) → x.0 ≡ None → ⊥
not_some x after ts mid e n = let one = ap (λ (y : Option (List Expr) × List Token). y.0) e in absurd cc

argument_short : (d d' : Deeper) → LocalDeeper d d' → (before after : List Expr) (ts mid : List Token) → argument_turn d before ts ≡ Ok (Some after, mid) → length mid < length ts
unfolding argument_turn
argument_short d d' h before after [] mid e = absurd (not_some (None, []) after [] mid (ok_is _ _ e) refl)
argument_short d d' h before after (t ∷ ts) mid e = by_test (is_symbol signs.Comma t.kind) e
  where
    by_read : (r : Read Expr) → choice_at d ts ≡ r → (r >>= one_more before) ≡ Ok (Some after, mid) → length mid < length (t ∷ ts)
    by_read (Ok x) q e =
        let same : x.1 ≡ mid = ap (λ (y : Option (List Expr) × List Token). y.1) (ok_is (Some (before ++ x.0 ∷ []), x.1) (Some after, mid) e) in
        let short = front_short ts (choice_at d ts) (choice_at d') x.0 x.1 q (choice_local d d' ts h) in
        let n = ap length same in
        omega (arith, short, n)
    by_read (Err stop) q e = absurd cc

    by_test : (b : Bool) → cond b (choice_at d ts >>= one_more before) (Ok (None, t ∷ ts)) ≡ Ok (Some after, mid) → length mid < length (t ∷ ts)
    by_test true e = by_read (choice_at d ts) refl e
    by_test false e = absurd (not_some (None, t ∷ ts) after ts mid (ok_is _ _ e) refl)

argument_same : (d : Deeper) (before : List Expr) (ts mid : List Token) → argument_turn d before ts ≡ Ok (None, mid) → ts ≡ mid
unfolding argument_turn
argument_same d before [] mid e = ap (λ (y : Option (List Expr) × List Token). y.1) (ok_is (None, []) (None, mid) e)
argument_same d before (t ∷ ts) mid e = by_test (is_symbol signs.Comma t.kind) e
  where
    by_read : (r : Read Expr) → (r >>= one_more before) ≡ Ok (None, mid) → t ∷ ts ≡ mid
    by_read (Ok x) e = let one = ap (λ (y : Option (List Expr) × List Token). y.0) (ok_is (Some (before ++ x.0 ∷ []), x.1) (None, mid) e) in absurd cc
    by_read (Err stop) e = absurd cc

    by_test : (b : Bool) → cond b (choice_at d ts >>= one_more before) (Ok (None, t ∷ ts)) ≡ Ok (None, mid) → t ∷ ts ≡ mid
    by_test true e = by_read (choice_at d ts) e
    by_test false e = ap (λ (y : Option (List Expr) × List Token). y.1) (ok_is (None, t ∷ ts) (None, mid) e)

argument_turns : (d d' : Deeper) → LocalDeeper d d' → Turns true (argument_turn d) (argument_turn d')
unfolding argument_turn
argument_turns d d' h = record {
  local = λ s ts. local_turn true ts _ _ (argument_turn_local d d' s ts h);
  short = λ s t ts mid e. argument_short d d' h s t ts mid e;
  same = λ s ts mid e. argument_same d s ts mid e;
  empty = λ s. refl;
}

some_local : (d d' : Deeper) (ts : List Token) → LocalDeeper d d' → Local ts (some_arguments d ts) (some_arguments d')
unfolding some_arguments
some_local d d' ts h =
    local_then ts (choice_at d ts) (choice_at d') _ _ (choice_local d d' ts h) (λ x us.
    local_then us (run (argument_turn d) (length us) (x ∷ []) us) (λ l. run (argument_turn d') (length l) (x ∷ []) l) _ _ (run_local true (argument_turn d) (argument_turn d') (argument_turns d d' h) (x ∷ []) us) (λ es vs. local_return vs _))

arguments_by_local : (d d' : Deeper) (t : Token) (ts : List Token) (b : Bool) → is_symbol signs.Close t.kind ≡ b → LocalDeeper d d' → Local (t ∷ ts) (cond b (Ok (NoMore, t ∷ ts)) (some_arguments d (t ∷ ts))) (arguments_at d')
unfolding arguments_at
arguments_by_local d d' t ts true e h = local_ok_by t ts NoMore (arguments_at d') (λ more. rw e refl) (λ d. not_symbol signs.Close t.kind e d)
arguments_by_local d d' t ts false e h = local_same t ts (some_arguments d (t ∷ ts)) (some_arguments d') (arguments_at d') (λ l. rw e refl) (λ d. at_clause (some_arguments d') (arguments_at d') (λ p l. refl) (λ p l. refl)) (some_local d d' (t ∷ ts) h)

arguments_local : (d d' : Deeper) (ts : List Token) → LocalDeeper d d' → Local ts (arguments_at d ts) (arguments_at d')
unfolding arguments_at
arguments_local d d' [] h = local_end_unexpected (arguments_at d') refl
arguments_local d d' (t ∷ ts) h = arguments_by_local d d' t ts (is_symbol signs.Close t.kind) refl h

amount_by_local : (d d' : Deeper) (t : Token) (ts : List Token) (b : Bool) → is_symbol signs.Comma t.kind ≡ b → LocalDeeper d d' → Local (t ∷ ts) (cond b (amount_by d ts) (Ok (All, t ∷ ts))) (amount_at d')
unfolding amount_at amount_by
amount_by_local d d' t ts true e h = local_token t ts (amount_by d ts) (amount_by d') (amount_at d') (λ l. rw e refl) (local_then ts (choice_at d ts) (choice_at d') _ _ (choice_local d d' ts h) (λ x us. local_return us _))
amount_by_local d d' t ts false e h = local_ok t ts All (amount_at d') (λ more. rw e refl) (λ p more. refl) (λ p more. refl)

amount_local : (d d' : Deeper) (ts : List Token) → LocalDeeper d d' → Local ts (amount_at d ts) (amount_at d')
unfolding amount_at
amount_local d d' [] h = local_end All (amount_at d') refl
amount_local d d' (t ∷ ts) h = amount_by_local d d' t ts (is_symbol signs.Comma t.kind) refl h

access_local : (d d' : Deeper) (ts : List Token) → LocalDeeper d d' → Local ts (access_at d ts) (access_at d')
unfolding access_at
access_local d d' ts h =
    local_then ts (choice_at d ts) (choice_at d') _ _ (choice_local d d' ts h) (λ x us.
    local_then us (amount_at d us) (amount_at d') _ _ (amount_local d d' us h) (λ a vs. local_return vs _))

-- ---- instances

holding_local : (d d' : Deeper) (ts : List Token) → LocalDeeper d d' → Local ts (holding_at d ts) (holding_at d')
unfolding holding_at
holding_local d d' ts h =
    local_then ts (name_at ts) name_at _ _ (name_local ts) (λ x us.
    local_then us (enclosed d arguments us) (enclosed d' arguments) _ _ (enclosed_local d d' arguments us h) (λ es vs.
    local_then vs (amount_at d vs) (amount_at d') _ _ (amount_local d d' vs h) (λ a ws. local_return ws _)))

-- ---- names, and the fields of `new`

name_by_comma : (before : List Placed) (t : Token) (ts : List Token) (b : Bool) → is_symbol signs.Comma t.kind ≡ b → Local (t ∷ ts) (cond b (name_at ts >>= λ x. Ok (Some (before ++ x.0 ∷ []), x.1)) (Ok (None, t ∷ ts))) (name_turn before)
unfolding name_turn
name_by_comma before t ts true e = local_token t ts (name_at ts >>= λ x. Ok (Some (before ++ x.0 ∷ []), x.1)) (λ l. name_at l >>= λ x. Ok (Some (before ++ x.0 ∷ []), x.1)) (name_turn before) (λ l. rw e refl) (local_then ts (name_at ts) name_at _ _ (name_local ts) (λ x us. local_return us _))
name_by_comma before t ts false e = local_ok t ts None (name_turn before) (λ more. rw e refl) (λ p more. refl) (λ p more. refl)

name_turn_local : (before : List Placed) (ts : List Token) → Local ts (name_turn before ts) (name_turn before)
unfolding name_turn
name_turn_local before [] = local_end None (name_turn before) refl
name_turn_local before (t ∷ ts) = name_by_comma before t ts (is_symbol signs.Comma t.kind) refl

pub name_turns : Turns true name_turn name_turn
unfolding name_turn
name_turns = record {
  local = λ s ts. local_turn true ts _ _ (name_turn_local s ts);
  short = λ s t ts mid e. taken_short (TurnFor (NameStep 0) s) 0 ts (Some t) mid (λ ms (p, x, v, z). rw z (omega arith)) (subst (Tells (TurnFor (NameStep 0) s) 0 ts) e (name_turn_tells 0 0 (omega arith) s ts));
  same = λ s ts mid e. taken_none (TurnFor (NameStep 0) s) 0 ts None mid (λ ms z. z) (subst (Tells (TurnFor (NameStep 0) s) 0 ts) e (name_turn_tells 0 0 (omega arith) s ts));
  empty = λ s. refl;
}

fields_local : (at : Place) (ts : List Token) → Local ts (fields_at at ts) (fields_at at)
unfolding fields_at
fields_local at ts = local_then ts (name_at ts) name_at _ _ (name_local ts) (λ x us. local_then us (run name_turn (length us) (x ∷ []) us) (λ l. run name_turn (length l) (x ∷ []) l) _ _ (run_local true name_turn name_turn name_turns (x ∷ []) us) (λ xs vs. local_return vs _))

allocation_by_local : (at : Place) (t : Token) (k : Kind) (ts : List Token) → t.kind ≡ k → Local (t ∷ ts) (allocation_by at t k ts) (allocation_at at)
unfolding allocation_at
allocation_by_local at t (symbol signs.Times) ts e = local_token t ts (Ok (NewAll at, ts)) (λ l. Ok (NewAll at, l)) (allocation_at at) (λ l. rw e refl) (local_return ts (NewAll at))
allocation_by_local at t (symbol signs.Close) ts e = local_ok_by t ts (New at []) (allocation_at at) (λ more. rw e refl) (λ d. other_kind signs.Close t.kind e d)
allocation_by_local at t k ts e = local_same t ts (fields_at at (t ∷ ts)) (fields_at at) (allocation_at at) (λ l. rw e refl) (λ d. at_clause (fields_at at) (allocation_at at) (λ p l. refl) (λ p l. refl)) (fields_local at (t ∷ ts))

allocation_local : (at : Place) (ts : List Token) → Local ts (allocation_at at ts) (allocation_at at)
unfolding allocation_at
allocation_local at [] = local_end_unexpected (allocation_at at) refl
allocation_local at (t ∷ ts) = allocation_by_local at t t.kind ts refl

part_local : (d d' : Deeper) (p : Part) (ts : List Token) → LocalDeeper d d' → Local ts (part_at d p ts) (part_at d' p)
part_local d d' choice ts h = choice_local d d' ts h
part_local d d' implication ts h = implication_local d d' ts h
part_local d d' (chain k) ts h = chain_local d d' k ts h
part_local d d' (rest_of_chain k start left) ts h = rest_local d d' k start left ts h
part_local d d' (behind_dot start left) ts h = dotted_local d d' start left ts h
part_local d d' arguments ts h = arguments_local d d' ts h
part_local d d' access ts h = access_local d d' ts h
part_local d d' holding ts h = holding_local d d' ts h
part_local d d' (allocation at) ts h = allocation_local at ts

-- with as much room, or more
below_local : (room more : ℕ) → LocalDeeper (below room) (below (room + more))
unfolding below LocalDeeper
below_local zero more p here ts heres = tt
below_local (suc room) more p here ts heres =
    let s : suc room + more ≡ suc (room + more) = omega arith in
    rw s (part_local (below room) (below (room + more)) p ts (below_local room more))

pub reading_local : (room more : ℕ) (ts : List Token) → Local ts (choice_at (below room) ts) (choice_at (below (room + more)))
reading_local room more ts = choice_local (below room) (below (room + more)) ts (below_local room more)

-- a part that nests, with as much room, or more
pub nested_local : (room more : ℕ) (p : Part) (here ts : List Token) (heres : List Token → List Token) → Local ts (below room p here ts) (λ l. below (room + more) p (heres l) l)
unfolding LocalDeeper
nested_local room more p here ts heres = below_local room more p here ts heres

-- from a name on, with as much room, or more
pub operand_local : (room more : ℕ) (t : Token) (x : List ℕ) (ts : List Token) → t.kind ≡ name x → Local (t ∷ ts) (postfix_by (below room) t (name x) ts) (unary_at (below (room + more)))
unfolding unary_at unary_by
operand_local room more t x ts e = postfix_local (below room) (below (room + more)) t (name x) ts e (λ l. rw e refl) (below_local room more)

-- an instance, with as much room, or more
pub instance_reading_local : (room more : ℕ) (ts : List Token) → Local ts (instance_at (below room) ts) (instance_at (below (room + more)))
instance_reading_local room more ts = instance_local (below room) (below (room + more)) ts (below_local room more)
