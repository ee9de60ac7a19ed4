-- What is read is spelled so, and what stops reading is the first token that doesn't fit.
use Rattle.std.proofs.Common.{◌≡◌, ℕ, zero, suc, ◌+◌, ◌-◌, ◌≤◌, ◌<◌, List, [], ◌∷◌, ◌++◌, Option, Some, None, Bool, true, false, Ok, Err, refl, sym, ap, subst, ◌∙◌, append_assoc, arith, eqb, inl, inr, cond}
use Rattle.std.proofs.lemmas.List.{append-nil}
use Rattle.std.proofs.lemmas.Bool.{eq-eqb}
use Rattle.std.proofs.lemmas.Bool.Decides.{eqb_tells}
use Rattle.vx_grammar.specs.Nesting.{nests}
use Rattle.vx_ast.specs.declared.Place.{Place}
use Rattle.vx_tokens.specs.declared.token.Symbol.TheVariants as signs
use Rattle.vx_tokens.specs.declared.token.Word.TheVariants as words
use Rattle.vx_ast.specs.declared.UnaryOperator.{UnaryOperator}
use Rattle.vx_ast.specs.declared.UnaryOperator.TheVariants.{Not, Negate}
use Rattle.vx_ast.specs.declared.BinaryOperator.{BinaryOperator}
use Rattle.vx_ast.specs.declared.BinaryOperator.TheVariants.{Implies, Or, And, Equal, NotEqual, Less, LessEqual, Greater, GreaterEqual, Add, Subtract, Multiply, Divide, Quotient, Remainder}
use Rattle.vx_tokens.specs.Tokens.{Token, Kind, name, word, symbol}
use Rattle.vx_ast.specs.Written.{Placed, placed, Expr, Unary, Binary, Choice}
use Rattle.vx_ast.specs.Written as written
use Rattle.vx_grammar.specs.Grammar.{operator_of, Phrase, literal, constant, numeral, named, called, dotted, grouped, past, accessed, prefixed, joined, chosen, unfolded, ends_open, Instance, unfolding_of, Mark, mark, marks, operators, dots, start_of, meant, IsPrimary, StandsAt, level_of, sign_of, prefix_sign}
use Rattle.vx_grammar.specs.Reading.{◌>>=◌, Read, Unexpected, is_symbol, choice, implication, chain, rest_of_chain, behind_dot, name_at, expect, primary_by, dots_at, dotted_at, postfix_by, unary_by, unary_at, operator_by, rest_by, rest_at, chain_at, implies_by, implied_by, implication_at, second_by, sides_by, chosen_by, choice_at, instance_at, begins_body, behind_in, unfolding_by, below}
use Rattle.vx_grammar.specs.Laws.{Within}
use Rattle.vx_grammar.proofs.Lists.{reach_by, stands_looser, IsChain, chain_or_implies}
use Rattle.vx_grammar.proofs.Symbols.{is_symbol_true}
use Rattle.vx_grammar.proofs.Complete.{stands_own, no_operators}
use Rattle.vx_grammar.proofs.Tells.{Grammar, Starts, TellsBy, Tells, After, somewhere, token_is, marks_is, NameFor, name_tells, tells_by_then, tells_then, tells_by_as, tells_as, tells_by_here, tells_here, tells_unexpected}
use Rattle.vx_grammar.proofs.Bracketed.{Nested, led_tells}
use Rattle.vx_grammar.proofs.PhraseFor.{PhraseFor, starts_any, nested_by_tells, tells_nested, count_down, looser, behind_phrase, Stops, edge, PhraseUpTo, Edged, EdgedBehind, plainly, edged_here, closed_at, stops_on, edged_behind}
use Rattle.vx_grammar.proofs.PrimaryTells.{ChoiceTells, PrimaryFor, primary_tells}
use Rattle.vx_grammar.proofs.InstancesTold.{InstanceFor, HoldingTells, HoldingInside, holding_tells, instance_tells}

-- ---- what is shown at each room

-- a phrase of one operand that doesn't end open
record ClosedFor (n : ℕ) (e : Expr) (ms : List Mark) : Type 0 where
  base : PhraseFor n 0 e ms
  closed : ends_open base.phrase ≡ false

record Told (limit room : ℕ) : Type 0 where
  choice_tells : (n : ℕ) → n + room ≡ limit → (ts : List Token) → Edged n 8 limit ts (choice_at (below room) ts)
  implication_tells : (n : ℕ) → n + room ≡ limit → (ts : List Token) → Edged n 7 limit ts (implication_at (below room) ts)
  chain_tells : (n : ℕ) → n + room ≡ limit → (k : ℕ) → k ≤ 6 → (ts : List Token) → Edged n k limit ts (chain_at (below room) k ts)
  rest_tells : (n k : ℕ) (w : Phrase) → k ≤ 5 → StandsAt (suc k) w → n + operators (suc k) w + room ≡ limit → (ts : List Token) → Stops (edge k w) ts
      → EdgedBehind n (suc k) (marks n w) limit ts (rest_at (below room) k (start_of w) (meant w) ts)
  dots_tells : (n : ℕ) (w : Phrase) → IsPrimary w → StandsAt 0 w → n + dots w + room ≡ limit → (ts : List Token) → Tells (After (ClosedFor n) (marks n w)) limit ts (dots_at (below room) (start_of w) (meant w) ts)
  holds : HoldingTells limit room

ToldBelow : ℕ → ℕ → Type 0
ToldBelow limit room = (less : ℕ) → room ≡ less + 1 → Told limit less

-- ---- one operand

primary_closed : (w : Phrase) → IsPrimary w → ends_open w ≡ false
primary_closed (literal p b) h = refl
primary_closed (constant p c) h = refl
primary_closed (numeral p n) h = refl
primary_closed (named p x) h = refl
primary_closed (called p x o es c) h = refl
primary_closed (dotted e p q f) h = refl
primary_closed (grouped p e q) h = refl
primary_closed (past p o e c) h = refl
primary_closed (accessed p o e a c) h = refl
primary_closed (prefixed p op e) h = absurd h
primary_closed (joined a p op b) h = absurd h
primary_closed (chosen c p a q b) h = absurd h
primary_closed (unfolded p i q e) h = absurd h

closed_here : (n : ℕ) (w : Phrase) → IsPrimary w → StandsAt 0 w → ClosedFor n (meant w) (marks n w ++ [])
closed_here n w is st = subst (ClosedFor n (meant w)) (sym (append-nil (marks n w))) (record { base = record { phrase = w; stands = st; means = refl; spelled = refl }; closed = primary_closed w is })

reach_above : (o : Option BinaryOperator) (b : Bool) → 0 < reach_by o b
reach_above None true = omega arith
reach_above None false = omega arith
reach_above (Some Implies) b = omega arith
reach_above (Some Or) b = omega arith
reach_above (Some And) b = omega arith
reach_above (Some Equal) b = omega arith
reach_above (Some NotEqual) b = omega arith
reach_above (Some Less) b = omega arith
reach_above (Some LessEqual) b = omega arith
reach_above (Some Greater) b = omega arith
reach_above (Some GreaterEqual) b = omega arith
reach_above (Some Add) b = omega arith
reach_above (Some Subtract) b = omega arith
reach_above (Some Multiply) b = omega arith
reach_above (Some Divide) b = omega arith
reach_above (Some Quotient) b = omega arith
reach_above (Some Remainder) b = omega arith

stops_all : (ts : List Token) → Stops 0 ts
stops_all [] = tt
stops_all (t ∷ ts) = reach_above (operator_of t.kind) (is_symbol signs.Question t.kind)

closed_up_to : (n : ℕ) (rest : List Token) (e : Expr) (ms : List Mark) → ClosedFor n e ms → PhraseUpTo n 0 rest e ms
closed_up_to n rest e ms r = record { base = r.base; stops = subst (λ b. Stops (cond b 8 0) rest) (sym r.closed) (stops_all rest) }

-- a field's name behind a dot, and further dots
abbrev FieldThen : (n : ℕ) (w : Phrase) (at : Place) → Grammar Expr
FieldThen n w at e ms = (f : Placed) × (tail : List Mark) × (ms ≡ mark (n + dots w + 1) f.place (name f.name) ∷ tail) × ClosedFor n e (marks n (dotted w at f.place f.name) ++ tail)

field_start : (n : ℕ) (w : Phrase) (at : Place) → IsPrimary w → StandsAt 0 w → (f : Placed) (ms : List Mark) → NameFor (n + dots w + 1) f ms → FieldThen n w at (written.Read (start_of w) (meant w) f) ms
field_start n w at is st f ms q = (f, [], q, record { base = record { phrase = dotted w at f.place f.name; stands = (is, st); means = refl; spelled = sym (append-nil (marks n (dotted w at f.place f.name))) }; closed = refl })

dotted_tells : (limit n less : ℕ) (w : Phrase) (at : Place) (ts : List Token) → IsPrimary w → StandsAt 0 w → n + dots w + 1 + less ≡ limit → Told limit less → Tells (FieldThen n w at) limit ts (dotted_at (below less) (start_of w) (meant w) ts)
unfolding dotted_at
dotted_tells limit n less w at ts is st e told =
    let c = n + dots w + 1 in
    tells_then (NameFor c) (FieldThen n w at) limit ts (name_at ts) (λ f. dots_at (below less) (start_of w) (written.Read (start_of w) (meant w) f.0) f.1)
    (λ f ms h. record { value = written.Read (start_of w) (meant w) f; more = []; spelled = rw append-nil (field_start n w at is st f ms h) })
    (name_tells limit c ts (omega (arith, e)))
    (λ f rest ms h takes. behind_field f rest ms h)
  where
    behind_field : (f : Placed) (rest : List Token) (ms : List Mark) → NameFor (n + dots w + 1) f ms → Tells (After (FieldThen n w at) ms) limit rest (dots_at (below less) (start_of w) (written.Read (start_of w) (meant w) f) rest)
    behind_field f rest ms q =
        let w' = dotted w at f.place f.name in
        tells_as (After (ClosedFor n) (marks n w')) (After (FieldThen n w at) ms) limit rest _ (λ y more r. (f, more, ap (λ l. l ++ more) q, r)) (told.dots_tells n w' tt (is, st) (omega (arith, e)) rest)

dot_tells : (limit n room : ℕ) (w : Phrase) (t : Token) (ts : List Token) (b : Bool) → is_symbol signs.Dot t.kind ≡ b → IsPrimary w → StandsAt 0 w → n + dots w + room ≡ limit → ToldBelow limit room
    → Tells (After (ClosedFor n) (marks n w)) limit (t ∷ ts) (cond b (below room (behind_dot (start_of w) (meant w)) (t ∷ ts) ts) (Ok (meant w, t ∷ ts)))
unfolding ToldBelow
dot_tells limit n room w t ts true h is st e told =
    let c = n + dots w in
    let m : Mark = record { token = t; count = c + 1 } in
    let k = is_symbol_true signs.Dot t.kind h in
    tells_as (Nested m (FieldThen n w t.place)) (After (ClosedFor n) (marks n w)) limit (t ∷ ts) _ (with_dot m refl k)
    (tells_nested (behind_dot (start_of w) (meant w)) (FieldThen n w t.place) limit c room t ts e (record { value = written.Read (start_of w) (meant w) (placed somewhere []); more = mark (c + 1) somewhere (name []) ∷ []; spelled = field_start n w t.place is st (placed somewhere []) (mark (c + 1) somewhere (name []) ∷ []) refl })
    (λ less s. dotted_tells limit n less w t.place ts is st (omega (arith, e, s)) (told less s)))
  where
    with_dot : (m : Mark) → (let d : Mark = record { token = t; count = n + dots w + 1 } in m ≡ d) → t.kind ≡ symbol signs.Dot → (e : Expr) (ms : List Mark) → Nested m (FieldThen n w t.place) e ms → ClosedFor n e (marks n w ++ ms)
    with_dot m same k e ms b = by_parts b.inner b.is b.spelled
      where
        by_parts : (inner : List Mark) → ms ≡ m ∷ inner → FieldThen n w t.place e inner → ClosedFor n e (marks n w ++ ms)
        by_parts inner is' (f, tail, q, r) =
            let d : Mark = mark (n + dots w + 1) t.place (symbol signs.Dot) in
            let here : d ≡ m = token_is t (symbol signs.Dot) (n + dots w + 1) k ∙ sym same in
            subst (ClosedFor n e) (append_assoc (marks n w) (d ∷ mark (n + dots w + 1) f.place (name f.name) ∷ []) tail ∙ ap (λ l. marks n w ++ l) (ap (λ x. x ∷ mark (n + dots w + 1) f.place (name f.name) ∷ tail) here ∙ ap (λ l. m ∷ l) (sym q) ∙ sym is')) r
dot_tells limit n room w t ts false h is st e told = tells_here (After (ClosedFor n) (marks n w)) limit (t ∷ ts) (meant w) (closed_here n w is st)

dots_tells_at : (limit n room : ℕ) (w : Phrase) (ts : List Token) → IsPrimary w → StandsAt 0 w → n + dots w + room ≡ limit → ToldBelow limit room → Tells (After (ClosedFor n) (marks n w)) limit ts (dots_at (below room) (start_of w) (meant w) ts)
unfolding dots_at
dots_tells_at limit n room w [] is st e told = tells_here (After (ClosedFor n) (marks n w)) limit [] (meant w) (closed_here n w is st)
dots_tells_at limit n room w (t ∷ ts) is st e told = dot_tells limit n room w t ts (is_symbol signs.Dot t.kind) refl is st e told

told_inside : (limit room : ℕ) → ToldBelow limit room → (less : ℕ) → room ≡ less + 1 → ChoiceTells limit less
unfolding ToldBelow
told_inside limit room told less s n e ts = plainly n 8 limit ts _ ((told less s).choice_tells n e ts)

holding_inside : (limit room : ℕ) → ToldBelow limit room → HoldingInside limit room
unfolding ToldBelow
holding_inside limit room told less s = (told less s).holds

as_phrase : (n : ℕ) (e : Expr) (ms : List Mark) → PrimaryFor n e ms → PhraseFor n 0 e ms
as_phrase n e ms r = record { phrase = r.phrase; stands = r.stands; means = r.means; spelled = r.spelled }

as_closed : (n : ℕ) (e : Expr) (ms : List Mark) → PrimaryFor n e ms → ClosedFor n e ms
as_closed n e ms r = record { base = record { phrase = r.phrase; stands = r.stands; means = r.means; spelled = r.spelled }; closed = primary_closed r.phrase r.is }

postfix_tells : (limit n room : ℕ) (t : Token) (k : Kind) (ts : List Token) → n + room ≡ limit → ToldBelow limit room → t.kind ≡ k → Tells (ClosedFor n) limit (t ∷ ts) (postfix_by (below room) t k ts)
unfolding postfix_by as_phrase
postfix_tells limit n room t k ts e told h =
    tells_then (PrimaryFor n) (ClosedFor n) limit (t ∷ ts) (primary_by (below room) t k ts) (λ x. dots_at (below room) t.place x.0 x.1)
    (λ x ms r. record { value = x; more = []; spelled = rw append-nil (as_closed n x ms r) })
    (primary_tells limit n room t k ts e (told_inside limit room told) h)
    (λ x rest ms r takes. behind_phrase ClosedFor limit n 0 (dots_at (below room)) t ts rest x ms (as_phrase n x ms r) takes (dots_tells_at limit n room r.phrase rest r.is r.stands (omega (arith, e, r.undotted)) told))

postfix_edged : (limit n room : ℕ) (t : Token) (k : Kind) (ts : List Token) → n + room ≡ limit → ToldBelow limit room → t.kind ≡ k → Edged n 0 limit (t ∷ ts) (postfix_by (below room) t k ts)
postfix_edged limit n room t k ts e told h = tells_by_as (λ l. ClosedFor n) (ClosedFor n) (PhraseUpTo n 0) (PhraseFor n 0) limit (t ∷ ts) _ (closed_up_to n) (λ x ms r. r.base) (postfix_tells limit n room t k ts e told h)

prefixed_is : (n : ℕ) (t : Token) (op : UnaryOperator) → t.kind ≡ symbol (prefix_sign op) → (e : Expr) (ms : List Mark) → Nested (record { token = t; count = n + 1 }) (PhraseFor (n + 1) 0) e ms → PhraseFor n 0 (Unary t.place op e) ms
prefixed_is n t op k e ms b = record {
  phrase = prefixed t.place op b.spelled.phrase;
  stands = b.spelled.stands;
  means = ap (Unary t.place op) b.spelled.means;
  spelled = marks_is t (symbol (prefix_sign op)) (n + 1) _ k ∙ ap (λ l. let m : Mark = record { token = t; count = n + 1 } in m ∷ l) b.spelled.spelled ∙ sym b.is;
}

-- what nests, without what is left
under : (m : Mark) (n level : ℕ) (rest : List Token) (e : Expr) (ms : List Mark) → Nested m (PhraseUpTo n level rest) e ms → Nested m (PhraseFor n level) e ms
under m n level rest e ms b = record { inner = b.inner; is = b.is; spelled = b.spelled.base }

prefixed_up_to : (n : ℕ) (t : Token) (op : UnaryOperator) → t.kind ≡ symbol (prefix_sign op) → (rest : List Token) (e : Expr) (ms : List Mark) → Nested (record { token = t; count = n + 1 }) (PhraseUpTo (n + 1) 0 rest) e ms → PhraseUpTo n 0 rest (Unary t.place op e) ms
unfolding prefixed_is under
prefixed_up_to n t op k rest e ms b = record { base = prefixed_is n t op k e ms (under _ (n + 1) 0 rest e ms b); stops = b.spelled.stops }

prefixed_tells : (limit n room : ℕ) (t : Token) (ts : List Token) (op : UnaryOperator) → n + room ≡ limit → ToldBelow limit room → t.kind ≡ symbol (prefix_sign op)
    → Edged n 0 limit (t ∷ ts) (below room (chain 0) (t ∷ ts) ts >>= λ e. Ok (Unary t.place op e.0, e.1))
unfolding ToldBelow
prefixed_tells limit n room t ts op e told k =
    let m : Mark = record { token = t; count = n + 1 } in
    tells_by_then (λ l. Nested m (PhraseUpTo (n + 1) 0 l)) (Nested m (PhraseFor (n + 1) 0)) (PhraseUpTo n 0) (PhraseFor n 0) limit (t ∷ ts) (below room (chain 0) (t ∷ ts) ts) (λ x. Ok (Unary t.place op x.0, x.1))
    (λ x ms b. record { value = Unary t.place op x; more = []; spelled = rw append-nil (prefixed_is n t op k x ms b) })
    (nested_by_tells (chain 0) (PhraseUpTo (n + 1) 0) (PhraseFor (n + 1) 0) limit n room t ts e (starts_any (n + 1) 0) (λ less s. (told less s).chain_tells (n + 1) (count_down limit n room less e s) 0 (omega arith) ts))
    (λ x rest ms b takes. tells_by_here (λ l. After (PhraseUpTo n 0 l) ms) (After (PhraseFor n 0) ms) limit rest (Unary t.place op x) (rw append-nil (prefixed_up_to n t op k rest x ms b)))

-- ---- unfoldings

-- `in`, and what it nests
record InThen (n : ℕ) (e : Expr) (ms : List Mark) : Type 0 where
  word_in : Token
  kind : word_in.kind ≡ word words.In
  behind : Nested (record { token = word_in; count = n + 1 }) (PhraseFor (n + 1) 8) e ms

-- and no operator follows
record InUpTo (n : ℕ) (rest : List Token) (e : Expr) (ms : List Mark) : Type 0 where
  base : InThen n e ms
  stops : Stops 8 rest

starts_in : (n : ℕ) → Starts (InThen n) []
starts_in n =
    let c : Token = record { kind = word words.In; place = somewhere } in
    let s = starts_any (n + 1) 8 in
    record { value = s.value; more = (let m : Mark = record { token = c; count = n + 1 } in m ∷ s.more); spelled = record { word_in = c; kind = refl; behind = record { inner = s.more; is = refl; spelled = s.spelled } } }

in_word : (k : Kind) → begins_body k ≡ true → k ≡ word words.In
in_word (word words.In) h = refl
in_word k h = absurd cc

-- no operator follows an expression
edge_all : (w : Phrase) (ts : List Token) → Stops (edge 8 w) ts → Stops 8 ts
edge_all w ts h = by_end (ends_open w) h
  where
    by_end : (b : Bool) → Stops (cond b 8 8) ts → Stops 8 ts
    by_end true h = h
    by_end false h = h

in_by_tells : (limit n room : ℕ) (t : Token) (ts : List Token) (b : Bool) → begins_body t.kind ≡ b → n + room ≡ limit → ToldBelow limit room → TellsBy (InUpTo n) (InThen n) limit (t ∷ ts) (cond b (below room choice (t ∷ ts) ts) (Err (Unexpected (t ∷ ts))))
unfolding ToldBelow
in_by_tells limit n room t ts true h e told =
    let m : Mark = record { token = t; count = n + 1 } in
    let k = in_word t.kind h in
    tells_by_as (λ l. Nested m (PhraseUpTo (n + 1) 8 l)) (Nested m (PhraseFor (n + 1) 8)) (InUpTo n) (InThen n) limit (t ∷ ts) _
    (λ rest x ms b. record { base = record { word_in = t; kind = k; behind = under m (n + 1) 8 rest x ms b }; stops = edge_all b.spelled.base.phrase rest b.spelled.stops })
    (λ x ms b. record { word_in = t; kind = k; behind = b })
    (nested_by_tells choice (PhraseUpTo (n + 1) 8) (PhraseFor (n + 1) 8) limit n room t ts e (starts_any (n + 1) 8) (λ less s. (told less s).choice_tells (n + 1) (count_down limit n room less e s) ts))
in_by_tells limit n room t ts false h e told = tells_unexpected (InThen n) limit (t ∷ ts) (starts_in n)

in_tells : (limit n room : ℕ) (ts : List Token) → n + room ≡ limit → ToldBelow limit room → TellsBy (InUpTo n) (InThen n) limit ts (behind_in (below room) ts)
unfolding behind_in
in_tells limit n room [] e told = tells_unexpected (InThen n) limit [] (starts_in n)
in_tells limit n room (t ∷ ts) e told = in_by_tells limit n room t ts (begins_body t.kind) refl e told

unfolded_is : (n : ℕ) (t : Token) → t.kind ≡ word words.Unfolding → (i : Instance) (e : Expr) (ms is ns : List Mark) → (let m : Mark = record { token = t; count = n } in ms ≡ m ∷ is) → InstanceFor n i is → InThen n e ns → PhraseFor n 0 (unfolding_of t.place i e) (ms ++ ns)
unfolded_is n t k i e ms is ns q r b =
    let v = b.behind.spelled in
    record {
      phrase = unfolded t.place r.phrase b.word_in.place v.phrase;
      stands = (r.stands, v.stands);
      means = ap (λ x. unfolding_of t.place x (meant v.phrase)) r.means ∙ ap (unfolding_of t.place i) v.means;
      spelled = marks_is t (word words.Unfolding) n _ k ∙ ap (λ l. let m : Mark = record { token = t; count = n } in m ∷ (l ++ mark (n + 1) b.word_in.place (word words.In) ∷ marks (n + 1) v.phrase)) r.spelled
          ∙ ap (λ l. let m : Mark = record { token = t; count = n } in m ∷ (is ++ l)) (marks_is b.word_in (word words.In) (n + 1) _ b.kind ∙ ap (λ l. let c : Mark = record { token = b.word_in; count = n + 1 } in c ∷ l) v.spelled ∙ sym b.behind.is)
          ∙ ap (λ l. l ++ ns) (sym q);
    }

unfolding_tells : (limit n room : ℕ) (t : Token) (ts : List Token) → n + room ≡ limit → ToldBelow limit room → t.kind ≡ word words.Unfolding → Edged n 0 limit (t ∷ ts) (unfolding_by (below room) t ts)
unfolding unfolding_by unfolded_is
unfolding_tells limit n room t ts e told k =
    let m : Mark = record { token = t; count = n } in
    tells_by_then (λ l. Nested m (InstanceFor n)) (Nested m (InstanceFor n)) (PhraseUpTo n 0) (PhraseFor n 0) limit (t ∷ ts) (instance_at (below room) ts) (λ i. behind_in (below room) i.1 >>= λ x. Ok (unfolding_of t.place i.0 x.0, x.1))
    (λ i ms b. let s = starts_in n in record { value = unfolding_of t.place i s.value; more = s.more; spelled = unfolded_is n t k i s.value ms b.inner s.more b.is b.spelled s.spelled })
    (led_tells (InstanceFor n) limit n t ts _ (omega (arith, e)) (instance_tells limit n room ts e (told_inside limit room told) (holding_inside limit room told)))
    (λ i rest ms b takes.
    tells_by_then (InUpTo n) (InThen n) (λ l. After (PhraseUpTo n 0 l) ms) (After (PhraseFor n 0) ms) limit rest (behind_in (below room) rest) (λ x. Ok (unfolding_of t.place i x.0, x.1))
    (λ x ns c. record { value = unfolding_of t.place i x; more = []; spelled = rw append-nil (unfolded_is n t k i x ms b.inner ns b.is b.spelled c) })
    (in_tells limit n room rest e told)
    (λ x after ns c takes'. tells_by_here (λ l. After (After (PhraseUpTo n 0 l) ms) ns) (After (After (PhraseFor n 0) ms) ns) limit after (unfolding_of t.place i x)
    (rw append-nil (record { base = unfolded_is n t k i x ms b.inner ns b.is b.spelled c.base; stops = c.stops }))))

unary_by_tells : (limit n room : ℕ) (t : Token) (k : Kind) (ts : List Token) → n + room ≡ limit → ToldBelow limit room → t.kind ≡ k → Edged n 0 limit (t ∷ ts) (unary_by (below room) t k ts)
unfolding unary_by
unary_by_tells limit n room t (symbol signs.Not) ts e told k = prefixed_tells limit n room t ts Not e told k
unary_by_tells limit n room t (symbol signs.Minus) ts e told k = prefixed_tells limit n room t ts Negate e told k
unary_by_tells limit n room t (word words.Unfolding) ts e told k = unfolding_tells limit n room t ts e told k
unary_by_tells limit n room t k ts e told h = postfix_edged limit n room t k ts e told h

unary_tells : (limit n room : ℕ) (ts : List Token) → n + room ≡ limit → ToldBelow limit room → Edged n 0 limit ts (unary_at (below room) ts)
unfolding unary_at
unary_tells limit n room [] e told = tells_unexpected (PhraseFor n 0) limit [] (starts_any n 0)
unary_tells limit n room (t ∷ ts) e told = unary_by_tells limit n room t t.kind ts e told refl

-- ---- chains

joined_stands : (k : ℕ) (op : BinaryOperator) (a b : Phrase) (p : Place) → IsChain op k → StandsAt (suc k) a → StandsAt k b → ends_open a ≡ false → StandsAt (suc k) (joined a p op b)
joined_stands k op a b p c sa sb closed = (omega (arith, c.level), rw c.left sa, rw c.right sb, closed)

operator_kind : (k : Kind) (op : BinaryOperator) → operator_of k ≡ Some op → k ≡ symbol (sign_of op)
operator_kind (symbol signs.Implies) op e = let o : Implies ≡ op = cc in rw (← o) refl
operator_kind (symbol signs.Or) op e = let o : Or ≡ op = cc in rw (← o) refl
operator_kind (symbol signs.And) op e = let o : And ≡ op = cc in rw (← o) refl
operator_kind (symbol signs.Equal) op e = let o : Equal ≡ op = cc in rw (← o) refl
operator_kind (symbol signs.NotEqual) op e = let o : NotEqual ≡ op = cc in rw (← o) refl
operator_kind (symbol signs.Less) op e = let o : Less ≡ op = cc in rw (← o) refl
operator_kind (symbol signs.LessEqual) op e = let o : LessEqual ≡ op = cc in rw (← o) refl
operator_kind (symbol signs.Greater) op e = let o : Greater ≡ op = cc in rw (← o) refl
operator_kind (symbol signs.GreaterEqual) op e = let o : GreaterEqual ≡ op = cc in rw (← o) refl
operator_kind (symbol signs.Plus) op e = let o : Add ≡ op = cc in rw (← o) refl
operator_kind (symbol signs.Minus) op e = let o : Subtract ≡ op = cc in rw (← o) refl
operator_kind (symbol signs.Times) op e = let o : Multiply ≡ op = cc in rw (← o) refl
operator_kind (symbol signs.Slash) op e = let o : Divide ≡ op = cc in rw (← o) refl
operator_kind (symbol signs.Backslash) op e = let o : Quotient ≡ op = cc in rw (← o) refl
operator_kind (symbol signs.Percent) op e = let o : Remainder ≡ op = cc in rw (← o) refl
operator_kind k op e = absurd cc

-- the operator at hand, in a chain of level k + 1
chain_of_level : (op : BinaryOperator) (k : ℕ) → level_of op ≡ suc k → k ≤ 5 → IsChain op k
chain_of_level op k e le =
    elim (chain_or_implies op) [
      | inl c ↦ let same : c.0 ≡ k = omega (arith, c.1.level, e) in subst (IsChain op) same c.1
      | inr i ↦ let six : level_of op ≡ 7 = ap level_of i in absurd (omega (arith, six, e, le))
    ]

operators_joined : (k : ℕ) (op : BinaryOperator) (a b : Phrase) (p : Place) → level_of op ≡ suc k → operators (suc k) (joined a p op b) ≡ operators (suc k) a + 1
operators_joined k op a b p e = let b : eqb (level_of op) (suc k) ≡ true = eq-eqb _ _ e in rw b refl

-- the marks of a chain with one more operand
joined_marks : (n k : ℕ) (op : BinaryOperator) (a b : Phrase) (t : Token) → level_of op ≡ suc k → t.kind ≡ symbol (sign_of op)
    → let m : Mark = record { token = t; count = n + operators (suc k) a + 1 } in marks n (joined a t.place op b) ≡ marks n a ++ m ∷ marks (n + operators (suc k) a + 1) b
joined_marks n k op a b t e h =
    ap (λ l. marks n a ++ mark (n + operators l a + 1) t.place (symbol (sign_of op)) ∷ marks (n + operators l a + 1) b) e
    ∙ ap (λ l. marks n a ++ l) (marks_is t (symbol (sign_of op)) (n + operators (suc k) a + 1) _ h)

operator_tells : (limit n room k : ℕ) (w : Phrase) (t : Token) (ts : List Token) (op : BinaryOperator) → k ≤ 5 → StandsAt (suc k) w → ends_open w ≡ false → n + operators (suc k) w + room ≡ limit → ToldBelow limit room → t.kind ≡ symbol (sign_of op) → level_of op ≡ suc k
    → EdgedBehind n (suc k) (marks n w) limit (t ∷ ts) (operator_by (below room) k (start_of w) (meant w) t ts op)
unfolding operator_by ToldBelow under
operator_tells limit n room k w t ts op low st closed e told kind level =
    let c = n + operators (suc k) w in
    let m : Mark = record { token = t; count = c + 1 } in
    let R = Nested m (PhraseFor (c + 1) k) in
    let T = After (PhraseFor n (suc k)) (marks n w) in
    let ch = chain_of_level op k level low in
    let all : (x : Expr) (ms : List Mark) (b : R x ms) → marks n (joined w t.place op b.spelled.phrase) ≡ marks n w ++ ms =
    λ x ms b. joined_marks n k op w b.spelled.phrase t level kind ∙ ap (λ l. marks n w ++ m ∷ l) b.spelled.spelled ∙ ap (λ l. marks n w ++ l) (sym b.is) in
    tells_by_then (λ l. Nested m (PhraseUpTo (c + 1) k l)) R (λ l. After (PhraseUpTo n (suc k) l) (marks n w)) T limit (t ∷ ts) (below room (chain k) (t ∷ ts) ts) (λ right. below room (rest_of_chain k (start_of w) (Binary (start_of w) op (meant w) right.0)) right.1 right.1)
    (λ x ms b. record {
      value = Binary (start_of w) op (meant w) (meant b.spelled.phrase);
      more = [];
      spelled = rw append-nil (record {
        phrase = joined w t.place op b.spelled.phrase;
        stands = joined_stands k op w b.spelled.phrase t.place ch st b.spelled.stands closed;
        means = refl;
        spelled = all x ms b;
      });
    })
    (nested_by_tells (chain k) (PhraseUpTo (c + 1) k) (PhraseFor (c + 1) k) limit c room t ts e (starts_any (c + 1) k) (λ less s. (told less s).chain_tells (c + 1) (count_down limit c room less e s) k (omega (arith, low)) ts))
    (λ x rest ms d takes.
    let b = under m (c + 1) k rest x ms d in
    let le : c + 1 ≤ limit = (subst (Within limit) b.is takes.within).0 in
    let less = room - 1 in
    let s : room ≡ less + 1 = omega (arith, le, e) in
    let w' = joined w t.place op b.spelled.phrase in
    let ops = operators_joined k op w b.spelled.phrase t.place level in
    let again = (told less s).rest_tells n k w' low (joined_stands k op w b.spelled.phrase t.place ch st b.spelled.stands closed) (omega (arith, ops, e, s)) rest d.spelled.stops in
    let same : below room (rest_of_chain k (start_of w) (Binary (start_of w) op (meant w) x)) rest rest ≡ rest_at (below less) k (start_of w) (Binary (start_of w) op (meant w) (meant b.spelled.phrase)) rest =
    nests room less (rest_of_chain k (start_of w) (Binary (start_of w) op (meant w) x)) rest rest s ∙ ap (λ y. rest_at (below less) k (start_of w) (Binary (start_of w) op (meant w) y) rest) (sym b.spelled.means) in
    let along : (more : List Mark) → marks n w' ++ more ≡ marks n w ++ (ms ++ more) = λ more. ap (λ l. l ++ more) (all x ms b) ∙ append_assoc (marks n w) ms more in
    subst (TellsBy (λ l. After (After (PhraseUpTo n (suc k) l) (marks n w)) ms) (After T ms) limit rest) (sym same)
    (tells_by_as (λ l. After (PhraseUpTo n (suc k) l) (marks n w')) (After (PhraseFor n (suc k)) (marks n w')) (λ l. After (After (PhraseUpTo n (suc k) l) (marks n w)) ms) (After T ms) limit rest (rest_at (below less) k (start_of w') (meant w') rest)
    (λ rest' y more r. subst (PhraseUpTo n (suc k) rest' y) (along more) r)
    (λ y more r. subst (PhraseFor n (suc k) y) (along more) r)
    again))

-- where the operator that follows is none of the chain's level, it is none of a tighter one
above_level : (k : ℕ) (w : Phrase) (t : Token) (ts : List Token) → k ≤ 5 → Stops (edge k w) (t ∷ ts) → (reach_by (operator_of t.kind) (is_symbol signs.Question t.kind) ≡ suc k → ⊥) → Stops (edge (suc k) w) (t ∷ ts)
above_level k w t ts low h not = stops_on k (suc k) w (t ∷ ts) h (λ s. omega (arith, s, not))

reach_none : (b : Bool) → 8 ≤ reach_by None b
reach_none true = omega arith
reach_none false = omega arith

rest_by_tells : (limit n room k : ℕ) (w : Phrase) (t : Token) (ts : List Token) (o : Option BinaryOperator) → k ≤ 5 → StandsAt (suc k) w → Stops (edge k w) (t ∷ ts) → n + operators (suc k) w + room ≡ limit → ToldBelow limit room → operator_of t.kind ≡ o
    → EdgedBehind n (suc k) (marks n w) limit (t ∷ ts) (rest_by (below room) k (start_of w) (meant w) t ts o)
unfolding rest_by
rest_by_tells limit n room k w t ts None low st stops e told q =
    let high : 8 ≤ reach_by (operator_of t.kind) (is_symbol signs.Question t.kind) = rw q (reach_none (is_symbol signs.Question t.kind)) in
    edged_here n (suc k) w limit (t ∷ ts) st (above_level k w t ts low stops (λ s. omega (arith, s, high, low)))
rest_by_tells limit n room k w t ts (Some op) low st stops e told q =
    let reached : reach_by (operator_of t.kind) (is_symbol signs.Question t.kind) ≡ level_of op = ap (λ o. reach_by o (is_symbol signs.Question t.kind)) q in
    elim (eqb_tells (level_of op) (suc k)) [
      | inl h ↦
          let level = h.1 in
          let closed = closed_at k w t ts stops (omega (arith, reached, level, low)) in
          rw h.0 (operator_tells limit n room k w t ts op low st closed e told (operator_kind t.kind op q) level)
      | inr h ↦
          let other = h.1 in
          rw h.0 (edged_here n (suc k) w limit (t ∷ ts) st (above_level k w t ts low stops (λ s. other (sym reached ∙ s))))
    ]

stops_end : (level : ℕ) → Stops level []
stops_end level = tt

rest_at_tells : (limit n room k : ℕ) (w : Phrase) (ts : List Token) → k ≤ 5 → StandsAt (suc k) w → Stops (edge k w) ts → n + operators (suc k) w + room ≡ limit → ToldBelow limit room
    → EdgedBehind n (suc k) (marks n w) limit ts (rest_at (below room) k (start_of w) (meant w) ts)
unfolding rest_at
rest_at_tells limit n room k w [] low st stops e told = edged_here n (suc k) w limit [] st (stops_end (edge (suc k) w))
rest_at_tells limit n room k w (t ∷ ts) low st stops e told = rest_by_tells limit n room k w t ts (operator_of t.kind) low st stops e told refl

chain_tells_at : (limit n room : ℕ) → n + room ≡ limit → ToldBelow limit room → (k : ℕ) → k ≤ 6 → (ts : List Token) → Edged n k limit ts (chain_at (below room) k ts)
unfolding chain_at
chain_tells_at limit n room e told zero le ts = unary_tells limit n room ts e told
chain_tells_at limit n room e told (suc k) le [] = tells_unexpected (PhraseFor n (suc k)) limit [] (starts_any n (suc k))
chain_tells_at limit n room e told (suc k) le (t ∷ ts) =
    tells_by_then (PhraseUpTo n k) (PhraseFor n k) (PhraseUpTo n (suc k)) (PhraseFor n (suc k)) limit (t ∷ ts) (chain_at (below room) k (t ∷ ts)) (λ left. rest_at (below room) k t.place left.0 left.1)
    (λ x ms r. record { value = x; more = []; spelled = rw append-nil (looser n k (suc k) (omega arith) x ms r) })
    (chain_tells_at limit n room e told k (omega (arith, le)) (t ∷ ts))
    (λ x rest ms g takes.
    let r = g.base in
    let w = r.phrase in
    let o = (stands_own w k r.stands).0 in
    let none : operators (suc k) w ≡ 0 = no_operators w (suc k) (λ q. omega (arith, o, q)) in
    edged_behind limit n k (suc k) (rest_at (below room) k) t ts rest x ms r takes
    (rest_at_tells limit n room k w rest (omega (arith, le)) (stands_looser w k (suc k) (omega arith) r.stands) g.stops (omega (arith, e, none)) told))

-- ---- implications and choices

implies_is : (n : ℕ) (w : Phrase) (t : Token) → StandsAt 6 w → ends_open w ≡ false → t.kind ≡ symbol signs.Implies → (e : Expr) (ms : List Mark) → Nested (record { token = t; count = n + 1 }) (PhraseFor (n + 1) 7) e ms
    → PhraseFor n 7 (Binary (start_of w) Implies (meant w) e) (marks n w ++ ms)
implies_is n w t st closed k e ms b =
    let v = b.spelled.phrase in
    let o = (stands_own w 6 st).0 in
    let none : operators 7 w ≡ 0 = no_operators w 7 (λ q. omega (arith, o, q)) in
    let count : n + operators 7 w + 1 ≡ n + 1 = omega (arith, none) in
    record {
      phrase = joined w t.place Implies v;
      stands = (omega arith, st, b.spelled.stands, closed);
      means = ap (Binary (start_of w) Implies (meant w)) b.spelled.means;
      spelled = ap (λ c. marks n w ++ mark c t.place (symbol signs.Implies) ∷ marks c v) count ∙ ap (λ l. marks n w ++ l) (marks_is t (symbol signs.Implies) (n + 1) _ k ∙ ap (λ l. let m : Mark = record { token = t; count = n + 1 } in m ∷ l) b.spelled.spelled ∙ sym b.is);
    }

-- the sign of an implication is the only operator of level 7, and the question mark the only token of level 8
level_seven : (o : Option BinaryOperator) (b : Bool) → reach_by o b ≡ 7 → o ≡ Some Implies
level_seven None true e = absurd (omega (arith, e))
level_seven None false e = absurd (omega (arith, e))
level_seven (Some Implies) b e = refl
level_seven (Some Or) b e = absurd (omega (arith, e))
level_seven (Some And) b e = absurd (omega (arith, e))
level_seven (Some Equal) b e = absurd (omega (arith, e))
level_seven (Some NotEqual) b e = absurd (omega (arith, e))
level_seven (Some Less) b e = absurd (omega (arith, e))
level_seven (Some LessEqual) b e = absurd (omega (arith, e))
level_seven (Some Greater) b e = absurd (omega (arith, e))
level_seven (Some GreaterEqual) b e = absurd (omega (arith, e))
level_seven (Some Add) b e = absurd (omega (arith, e))
level_seven (Some Subtract) b e = absurd (omega (arith, e))
level_seven (Some Multiply) b e = absurd (omega (arith, e))
level_seven (Some Divide) b e = absurd (omega (arith, e))
level_seven (Some Quotient) b e = absurd (omega (arith, e))
level_seven (Some Remainder) b e = absurd (omega (arith, e))

level_eight : (o : Option BinaryOperator) (b : Bool) → reach_by o b ≡ 8 → b ≡ true
level_eight None true e = refl
level_eight None false e = absurd (omega (arith, e))
level_eight (Some op) b e = let le = level_low op in absurd (omega (arith, e, le))
  where
    level_low : (op : BinaryOperator) → level_of op ≤ 7
    level_low op = elim (chain_or_implies op) [
      | inl c ↦ let a = c.1.level in let b = c.1.low in omega (arith, a, b)
      | inr i ↦ let l : level_of op ≡ 7 = ap level_of i in omega (arith, l)
    ]

no_implies : (w : Phrase) (t : Token) (ts : List Token) → is_symbol signs.Implies t.kind ≡ false → Stops (edge 6 w) (t ∷ ts) → Stops (edge 7 w) (t ∷ ts)
no_implies w t ts h stops = stops_on 6 7 w (t ∷ ts) stops (λ s. omega (arith, s, not_seven))
  where
    not_seven : reach_by (operator_of t.kind) (is_symbol signs.Question t.kind) ≡ 7 → ⊥
    not_seven e =
        let k : t.kind ≡ symbol signs.Implies = operator_kind t.kind Implies (level_seven (operator_of t.kind) (is_symbol signs.Question t.kind) e) in
        let yes' : is_symbol signs.Implies t.kind ≡ true = ap (is_symbol signs.Implies) k in
        absurd cc

no_question : (w : Phrase) (t : Token) (ts : List Token) → is_symbol signs.Question t.kind ≡ false → Stops (edge 7 w) (t ∷ ts) → Stops (edge 8 w) (t ∷ ts)
no_question w t ts h stops = stops_on 7 8 w (t ∷ ts) stops (λ s. omega (arith, s, not_eight))
  where
    not_eight : reach_by (operator_of t.kind) (is_symbol signs.Question t.kind) ≡ 8 → ⊥
    not_eight e = let yes' = level_eight (operator_of t.kind) (is_symbol signs.Question t.kind) e in absurd cc

implied_tells_by : (limit n room : ℕ) (w : Phrase) (t : Token) (ts : List Token) (b : Bool) → is_symbol signs.Implies t.kind ≡ b → n + room ≡ limit → ToldBelow limit room → StandsAt 6 w → Stops (edge 6 w) (t ∷ ts)
    → EdgedBehind n 7 (marks n w) limit (t ∷ ts) (cond b (implies_by (below room) (start_of w) (meant w) t ts) (Ok (meant w, t ∷ ts)))
unfolding implies_by ToldBelow implies_is under
implied_tells_by limit n room w t ts true h e told st stops =
    let k = is_symbol_true signs.Implies t.kind h in
    let m : Mark = record { token = t; count = n + 1 } in
    let T = After (PhraseFor n 7) (marks n w) in
    let reached : reach_by (operator_of t.kind) (is_symbol signs.Question t.kind) ≡ 7 = rw k refl in
    let closed = closed_at 6 w t ts stops (omega (arith, reached)) in
    tells_by_then (λ l. Nested m (PhraseUpTo (n + 1) 7 l)) (Nested m (PhraseFor (n + 1) 7)) (λ l. After (PhraseUpTo n 7 l) (marks n w)) T limit (t ∷ ts) (below room implication (t ∷ ts) ts) (λ right. Ok (Binary (start_of w) Implies (meant w) right.0, right.1))
    (λ x ms b. record { value = Binary (start_of w) Implies (meant w) x; more = []; spelled = rw append-nil (implies_is n w t st closed k x ms b) })
    (nested_by_tells implication (PhraseUpTo (n + 1) 7) (PhraseFor (n + 1) 7) limit n room t ts e (starts_any (n + 1) 7) (λ less s. (told less s).implication_tells (n + 1) (count_down limit n room less e s) ts))
    (λ x rest ms b takes. tells_by_here (λ l. After (After (PhraseUpTo n 7 l) (marks n w)) ms) (After T ms) limit rest (Binary (start_of w) Implies (meant w) x)
    (rw append-nil (record { base = implies_is n w t st closed k x ms (under m (n + 1) 7 rest x ms b); stops = b.spelled.stops })))
implied_tells_by limit n room w t ts false h e told st stops = edged_here n 7 w limit (t ∷ ts) (stands_looser w 6 7 (omega arith) st) (no_implies w t ts h stops)

implied_tells : (limit n room : ℕ) (w : Phrase) (ts : List Token) → n + room ≡ limit → ToldBelow limit room → StandsAt 6 w → Stops (edge 6 w) ts → EdgedBehind n 7 (marks n w) limit ts (implied_by (below room) (start_of w) (meant w) ts)
unfolding implied_by
implied_tells limit n room w [] e told st stops = edged_here n 7 w limit [] (stands_looser w 6 7 (omega arith) st) (stops_end (edge 7 w))
implied_tells limit n room w (t ∷ ts) e told st stops = implied_tells_by limit n room w t ts (is_symbol signs.Implies t.kind) refl e told st stops

implication_tells_at : (limit n room : ℕ) → n + room ≡ limit → ToldBelow limit room → (ts : List Token) → Edged n 7 limit ts (implication_at (below room) ts)
unfolding implication_at
implication_tells_at limit n room e told [] = tells_unexpected (PhraseFor n 7) limit [] (starts_any n 7)
implication_tells_at limit n room e told (t ∷ ts) =
    tells_by_then (PhraseUpTo n 6) (PhraseFor n 6) (PhraseUpTo n 7) (PhraseFor n 7) limit (t ∷ ts) (chain_at (below room) 6 (t ∷ ts)) (λ left. implied_by (below room) t.place left.0 left.1)
    (λ x ms r. record { value = x; more = []; spelled = rw append-nil (looser n 6 7 (omega arith) x ms r) })
    (chain_tells_at limit n room e told 6 (omega arith) (t ∷ ts))
    (λ x rest ms g takes. edged_behind limit n 6 7 (implied_by (below room)) t ts rest x ms g.base takes (implied_tells limit n room g.base.phrase rest e told g.base.stands g.stops))

-- what stands behind a condition: the question mark and the first side, the colon, the second side
chosen_is : (n : ℕ) (w a b : Phrase) (t : Token) (ms ks bs : List Mark) (c : Token) → StandsAt 7 w → ends_open w ≡ false → t.kind ≡ symbol signs.Question → c.kind ≡ symbol signs.Colon → StandsAt 8 a → StandsAt 8 b
    → (let m : Mark = record { token = t; count = n + 1 } in ms ≡ m ∷ marks (n + 1) a) → (let m : Mark = record { token = c; count = n + 1 } in ks ≡ m ∷ marks (n + 1) b)
    → PhraseFor n 8 (Choice (start_of w) (meant w) (meant a) (meant b)) (marks n w ++ (ms ++ ks))
chosen_is n w a b t ms ks bs c sw closed kt kc sa sb em ek = record {
  phrase = chosen w t.place a c.place b;
  stands = (omega arith, sw, sa, sb, closed);
  means = refl;
  spelled = ap (λ l. marks n w ++ l) (
      ap (λ l. mark (n + 1) t.place (symbol signs.Question) ∷ (marks (n + 1) a ++ l)) (marks_is c (symbol signs.Colon) (n + 1) _ kc ∙ sym ek)
      ∙ ap (λ l. l ++ ks) (marks_is t (symbol signs.Question) (n + 1) _ kt ∙ sym em));
}

-- a colon, and what it nests
record ColonThen (n : ℕ) (e : Expr) (ms : List Mark) : Type 0 where
  colon : Token
  kind : colon.kind ≡ symbol signs.Colon
  behind : Nested (record { token = colon; count = n + 1 }) (PhraseFor (n + 1) 8) e ms

-- and no operator goes on with it
record ColonUpTo (n : ℕ) (rest : List Token) (e : Expr) (ms : List Mark) : Type 0 where
  base : ColonThen n e ms
  stops : Stops 8 rest

starts_colon : (n : ℕ) → Starts (ColonThen n) []
starts_colon n =
    let c : Token = record { kind = symbol signs.Colon; place = somewhere } in
    let s = starts_any (n + 1) 8 in
    record { value = s.value; more = (let m : Mark = record { token = c; count = n + 1 } in m ∷ s.more); spelled = record { colon = c; kind = refl; behind = record { inner = s.more; is = refl; spelled = s.spelled } } }

second_tells_by : (limit n room : ℕ) (c : Token) (cs : List Token) (b : Bool) → is_symbol signs.Colon c.kind ≡ b → n + room ≡ limit → ToldBelow limit room
    → (let r : Read Token = cond b (Ok (c, cs)) (Err (Unexpected (c ∷ cs))) in TellsBy (ColonUpTo n) (ColonThen n) limit (c ∷ cs) (r >>= λ colon. below room choice (c ∷ cs) colon.1))
unfolding ToldBelow
second_tells_by limit n room c cs true h e told =
    let m : Mark = record { token = c; count = n + 1 } in
    let k = is_symbol_true signs.Colon c.kind h in
    tells_by_as (λ l. Nested m (PhraseUpTo (n + 1) 8 l)) (Nested m (PhraseFor (n + 1) 8)) (ColonUpTo n) (ColonThen n) limit (c ∷ cs) (below room choice (c ∷ cs) cs)
    (λ rest x ms r. record { base = record { colon = c; kind = k; behind = under m (n + 1) 8 rest x ms r }; stops = edge_all r.spelled.base.phrase rest r.spelled.stops })
    (λ x ms r. record { colon = c; kind = k; behind = r })
    (nested_by_tells choice (PhraseUpTo (n + 1) 8) (PhraseFor (n + 1) 8) limit n room c cs e (starts_any (n + 1) 8) (λ less s. (told less s).choice_tells (n + 1) (count_down limit n room less e s) cs))
second_tells_by limit n room c cs false h e told = tells_unexpected (ColonThen n) limit (c ∷ cs) (starts_colon n)

second_tells : (limit n room : ℕ) (us : List Token) → n + room ≡ limit → ToldBelow limit room → TellsBy (ColonUpTo n) (ColonThen n) limit us (second_by (below room) us)
unfolding second_by expect
second_tells limit n room [] e told = tells_unexpected (ColonThen n) limit [] (starts_colon n)
second_tells limit n room (c ∷ cs) e told = second_tells_by limit n room c cs (is_symbol signs.Colon c.kind) refl e told

-- no operator follows a choice
edge_any : (w : Phrase) (ts : List Token) → Stops 8 ts → Stops (edge 8 w) ts
edge_any w ts h = by_end (ends_open w)
  where
    by_end : (b : Bool) → Stops (cond b 8 8) ts
    by_end true = h
    by_end false = h

sides_tells : (limit n room : ℕ) (w : Phrase) (t : Token) (ts : List Token) → n + room ≡ limit → ToldBelow limit room → StandsAt 7 w → ends_open w ≡ false → t.kind ≡ symbol signs.Question
    → EdgedBehind n 8 (marks n w) limit (t ∷ ts) (sides_by (below room) (start_of w) (meant w) t ts)
unfolding sides_by ToldBelow
sides_tells limit n room w t ts e told st closed k =
    let m : Mark = record { token = t; count = n + 1 } in
    let T = After (PhraseFor n 8) (marks n w) in
    let R = Nested m (PhraseFor (n + 1) 8) in
    let both : (x : Expr) (ms : List Mark) → R x ms → (y : Expr) (ks : List Mark) → ColonThen n y ks → T (Choice (start_of w) (meant w) x y) (ms ++ ks) =
    λ x ms r y ks s.
    subst (λ u. T (Choice (start_of w) (meant w) u y) (ms ++ ks)) r.spelled.means
    (subst (λ v. T (Choice (start_of w) (meant w) (meant r.spelled.phrase) v) (ms ++ ks)) s.behind.spelled.means
    (chosen_is n w r.spelled.phrase s.behind.spelled.phrase t ms ks ks s.colon st closed k s.kind r.spelled.stands s.behind.spelled.stands
    (r.is ∙ ap (λ l. m ∷ l) (sym r.spelled.spelled))
    (s.behind.is ∙ ap (λ l. let c : Mark = record { token = s.colon; count = n + 1 } in c ∷ l) (sym s.behind.spelled.spelled)))) in
    tells_by_then (λ l. R) R (λ l. After (PhraseUpTo n 8 l) (marks n w)) T limit (t ∷ ts) (below room choice (t ∷ ts) ts) (λ first. second_by (below room) first.1 >>= λ second. Ok (Choice (start_of w) (meant w) first.0 second.0, second.1))
    (λ x ms r. let s = starts_colon n in record { value = Choice (start_of w) (meant w) x s.value; more = s.more; spelled = both x ms r s.value s.more s.spelled })
    (tells_nested choice (PhraseFor (n + 1) 8) limit n room t ts e (starts_any (n + 1) 8) (λ less s. plainly (n + 1) 8 limit ts _ ((told less s).choice_tells (n + 1) (count_down limit n room less e s) ts)))
    (λ x rest ms r takes.
    (tells_by_then (ColonUpTo n) (ColonThen n) (λ l. After (After (PhraseUpTo n 8 l) (marks n w)) ms) (After T ms) limit rest (second_by (below room) rest) (λ second. Ok (Choice (start_of w) (meant w) x second.0, second.1))
    (λ y ks s. record { value = Choice (start_of w) (meant w) x y; more = []; spelled = rw append-nil (both x ms r y ks s) })
    (second_tells limit n room rest e told)
    (λ y after ks s takes'. tells_by_here (λ l. After (After (After (PhraseUpTo n 8 l) (marks n w)) ms) ks) (After (After T ms) ks) limit after (Choice (start_of w) (meant w) x y)
    (rw append-nil (let b = both x ms r y ks s.base in record { base = b; stops = edge_any b.phrase after s.stops })))))

chosen_tells_by : (limit n room : ℕ) (w : Phrase) (t : Token) (ts : List Token) (b : Bool) → is_symbol signs.Question t.kind ≡ b → n + room ≡ limit → ToldBelow limit room → StandsAt 7 w → Stops (edge 7 w) (t ∷ ts)
    → EdgedBehind n 8 (marks n w) limit (t ∷ ts) (cond b (sides_by (below room) (start_of w) (meant w) t ts) (Ok (meant w, t ∷ ts)))
chosen_tells_by limit n room w t ts true h e told st stops =
    let k = is_symbol_true signs.Question t.kind h in
    let reached : reach_by (operator_of t.kind) (is_symbol signs.Question t.kind) ≡ 8 = rw k refl in
    sides_tells limit n room w t ts e told st (closed_at 7 w t ts stops (omega (arith, reached))) k
chosen_tells_by limit n room w t ts false h e told st stops = edged_here n 8 w limit (t ∷ ts) (stands_looser w 7 8 (omega arith) st) (no_question w t ts h stops)

chosen_tells : (limit n room : ℕ) (w : Phrase) (ts : List Token) → n + room ≡ limit → ToldBelow limit room → StandsAt 7 w → Stops (edge 7 w) ts → EdgedBehind n 8 (marks n w) limit ts (chosen_by (below room) (start_of w) (meant w) ts)
unfolding chosen_by
chosen_tells limit n room w [] e told st stops = edged_here n 8 w limit [] (stands_looser w 7 8 (omega arith) st) (stops_end (edge 8 w))
chosen_tells limit n room w (t ∷ ts) e told st stops = chosen_tells_by limit n room w t ts (is_symbol signs.Question t.kind) refl e told st stops

choice_tells_at : (limit n room : ℕ) → n + room ≡ limit → ToldBelow limit room → (ts : List Token) → Edged n 8 limit ts (choice_at (below room) ts)
unfolding choice_at
choice_tells_at limit n room e told [] = tells_unexpected (PhraseFor n 8) limit [] (starts_any n 8)
choice_tells_at limit n room e told (t ∷ ts) =
    tells_by_then (PhraseUpTo n 7) (PhraseFor n 7) (PhraseUpTo n 8) (PhraseFor n 8) limit (t ∷ ts) (implication_at (below room) (t ∷ ts)) (λ condition. chosen_by (below room) t.place condition.0 condition.1)
    (λ x ms r. record { value = x; more = []; spelled = rw append-nil (looser n 7 8 (omega arith) x ms r) })
    (implication_tells_at limit n room e told (t ∷ ts))
    (λ x rest ms g takes. edged_behind limit n 7 8 (chosen_by (below room)) t ts rest x ms g.base takes (chosen_tells limit n room g.base.phrase rest e told g.base.stands g.stops))

-- ---- at every room

told_from : (limit room : ℕ) → ToldBelow limit room → Told limit room
told_from limit room told = record {
  choice_tells = λ n e ts. choice_tells_at limit n room e told ts;
  implication_tells = λ n e ts. implication_tells_at limit n room e told ts;
  chain_tells = λ n e k le ts. chain_tells_at limit n room e told k le ts;
  rest_tells = λ n k w low st e ts stops. rest_at_tells limit n room k w ts low st stops e told;
  dots_tells = λ n w is st e ts. dots_tells_at limit n room w ts is st e told;
  holds = λ n e ts. holding_tells limit n room ts e (λ n' e' us. plainly n' 8 limit us _ (choice_tells_at limit n' room e' told us)) (told_inside limit room told);
}

told_at : (limit room : ℕ) → Told limit room
unfolding ToldBelow
told_at limit zero = told_from limit zero (λ less e. absurd (omega (arith, e)))
told_at limit (suc room) = told_from limit (suc room) (λ less e. let same : room ≡ less = omega (arith, e) in subst (Told limit) same (told_at limit room))

-- what reading an expression tells
pub reading_tells : (limit n room : ℕ) (ts : List Token) → n + room ≡ limit → Tells (PhraseFor n 8) limit ts (choice_at (below room) ts)
reading_tells limit n room ts e = plainly n 8 limit ts _ ((told_at limit room).choice_tells n e ts)

-- what reading from a token on, which is no prefix, tells
pub operand_tells : (limit n room : ℕ) (t : Token) (k : Kind) (ts : List Token) → n + room ≡ limit → t.kind ≡ k → Tells (PhraseFor n 0) limit (t ∷ ts) (postfix_by (below room) t k ts)
unfolding ToldBelow
operand_tells limit n room t k ts e h = tells_as (ClosedFor n) (PhraseFor n 0) limit (t ∷ ts) _ (λ x ms r. r.base) (postfix_tells limit n room t k ts e (λ less s. told_at limit less) h)

-- what reading an instance tells
pub instance_reading_tells : (limit n room : ℕ) (ts : List Token) → n + room ≡ limit → Tells (InstanceFor n) limit ts (instance_at (below room) ts)
instance_reading_tells limit n room ts e = instance_tells limit n room ts e (λ less s n' e' us. reading_tells limit n' less us e') (λ less s. (told_at limit less).holds)
