-- What is spelled is read.
use Rattle.std.proofs.Common.{◌≡◌, ℕ, zero, suc, ◌+◌, ◌-◌, ◌≤◌, ◌<◌, List, [], ◌∷◌, ◌++◌, Option, Some, None, Bool, true, false, Ok, length, refl, sym, ap, subst, ◌∙◌, arith, eqb, inl, inr, cond}
use Rattle.std.proofs.Common.{zero-add, ltb, append_assoc, length-append}
use Rattle.std.proofs.lemmas.List.{append-nil}
use Rattle.std.proofs.lemmas.Bool.{ne_eqb, eq-eqb, cases_lt, lt-ltb}
use Rattle.vx_grammar.proofs.Symbols.{is_symbol_true}
use Rattle.vx_ast.specs.declared.Place.{Place}
use Rattle.vx_tokens.specs.declared.token.Symbol.TheVariants as signs
use Rattle.vx_ast.specs.declared.UnaryOperator.{UnaryOperator}
use Rattle.vx_ast.specs.declared.UnaryOperator.TheVariants.{Not, Negate}
use Rattle.vx_ast.specs.declared.BinaryOperator.{BinaryOperator}
use Rattle.vx_ast.specs.declared.BinaryOperator.TheVariants.{Implies}
use Rattle.vx_tokens.specs.declared.token.Word.TheVariants as words
use Rattle.vx_tokens.specs.Tokens.{Token, Kind, name, word, symbol}
use Rattle.vx_ast.specs.Written.{Expr, Exprs, More, Binary, Choice}
use Rattle.vx_ast.specs.Written as written
use Rattle.vx_grammar.specs.Grammar.{operator_of, Constant, null_word, write_word, none_word, result_word, Phrase, literal, constant, numeral, named, called, dotted, grouped, past, accessed, prefixed, joined, chosen, unfolded, ends_open, ArgumentsPhrase, no_arguments, arguments_from, FurtherPhrase, nothing_further, further, AmountPhrase, no_amount, amount, InstancePhrase, alone, held, instance_meant, InstanceStands, instance_marks, Mark, mark, marks, arguments_marks, further_marks, amount_marks, operators, dots, tokens_of, start_of, meant, arguments_meant, further_meant, amount_meant, IsPrimary, StandsAt, ArgumentsStand, FurtherStand, AmountStands, level_of, sign_of}
use Rattle.vx_grammar.specs.Reading.{Read, Deeper, is_symbol, Part, Given, choice, implication, chain, rest_of_chain, behind_dot, arguments, access, holding, expect, name_at, enclosed, call_by, named_by, old_by, access_by, primary_by, dots_at, dotted_at, postfix_by, unary_by, unary_at, run, exprs_from, argument_turn, some_arguments, arguments_at, amount_by, amount_at, access_at, bare_by, instance_at, behind_in, unfolding_by, holding_at, operator_by, rest_by, rest_at, chain_at, implies_by, implied_by, implication_at, second_by, sides_by, chosen_by, choice_at, part_at, below}
use Rattle.vx_grammar.specs.Nesting.{nests}
use Rattle.vx_grammar.specs.Laws.{Within}
use Rattle.vx_grammar.proofs.Lists.{tokens-append_more, within_front, within_back, reach, reach_by, not_open, not_dot, not_operator, Ends, ends_below, IsChain, chain_or_implies, is_written, reach_sign, Begins, begins}

not_true : (b : Bool) → (b ≡ true → ⊥) → b ≡ false
not_true true h = absurd (h refl)
not_true false h = refl

-- ---- nothing more is read where the expression ends

rest_by_ends : (deeper : Deeper) (k : ℕ) (start : Place) (e : Expr) (t : Token) (ts : List Token) (o : Option BinaryOperator) (b : Bool) → suc k < reach_by o b → rest_by deeper k start e t ts o ≡ Ok (e, t ∷ ts)
unfolding rest_by
rest_by_ends deeper k start e t ts None b lt = refl
rest_by_ends deeper k start e t ts (Some op) b lt =
    let ne : eqb (level_of op) (suc k) ≡ false = ne_eqb _ _ (λ h. omega (arith, h, lt)) in
    rw ne refl

rest_ends : (deeper : Deeper) (k : ℕ) (start : Place) (e : Expr) (ts : List Token) → Ends (suc k) ts → rest_at deeper k start e ts ≡ Ok (e, ts)
unfolding rest_at
rest_ends deeper k start e [] h = refl
rest_ends deeper k start e (t ∷ ts) h = rest_by_ends deeper k start e t ts (operator_of t.kind) (is_symbol signs.Question t.kind) (not_operator t.kind (suc k) h)

-- a token that does not go on with an implication, or with a choice
not_implies : (k : Kind) → 7 < reach k → is_symbol signs.Implies k ≡ false
not_implies k lt = not_true _ (λ h. let e : reach k ≡ 7 = rw (is_symbol_true signs.Implies k h) refl in omega (arith, e, lt))

not_question : (k : Kind) → 8 < reach k → is_symbol signs.Question k ≡ false
not_question k lt = not_true _ (λ h. let e : reach k ≡ 8 = rw (is_symbol_true signs.Question k h) refl in omega (arith, e, lt))

implied_ends : (deeper : Deeper) (start : Place) (e : Expr) (ts : List Token) → Ends 7 ts → implied_by deeper start e ts ≡ Ok (e, ts)
unfolding implied_by
implied_ends deeper start e [] h = refl
implied_ends deeper start e (t ∷ ts) h = rw (not_implies t.kind h) refl

chosen_ends : (deeper : Deeper) (start : Place) (e : Expr) (ts : List Token) → Ends 8 ts → chosen_by deeper start e ts ≡ Ok (e, ts)
unfolding chosen_by
chosen_ends deeper start e [] h = refl
chosen_ends deeper start e (t ∷ ts) h = rw (not_question t.kind h) refl

-- ---- what is read at a level is read at a looser one

chain_spine : (deeper : Deeper) (k : ℕ) (start : Place) (e : Expr) (ts rest : List Token) → Begins ts start → chain_at deeper k ts ≡ Ok (e, rest) → chain_at deeper (suc k) ts ≡ rest_at deeper k start e rest
unfolding chain_at
chain_spine deeper k start e ts rest b h =
    rw (b.is, ← b.place) (rw (rw b.is at h) refl)

chain_lift_one : (deeper : Deeper) (k : ℕ) (start : Place) (e : Expr) (ts rest : List Token) → Begins ts start → Ends (suc k) rest → chain_at deeper k ts ≡ Ok (e, rest) → chain_at deeper (suc k) ts ≡ Ok (e, rest)
chain_lift_one deeper k start e ts rest b ends h = chain_spine deeper k start e ts rest b h ∙ rest_ends deeper k start e rest ends

chain_lift : (deeper : Deeper) (j more : ℕ) (start : Place) (e : Expr) (ts rest : List Token) → Begins ts start → Ends (more + j) rest → chain_at deeper j ts ≡ Ok (e, rest) → chain_at deeper (more + j) ts ≡ Ok (e, rest)
chain_lift deeper j zero start e ts rest b ends h = rw zero-add h
chain_lift deeper j (suc more) start e ts rest b ends h =
    let s : suc more + j ≡ suc (more + j) = omega arith in
    rw s (chain_lift_one deeper (more + j) start e ts rest b (rw s at ends) (chain_lift deeper j more start e ts rest b (ends_below (more + j) (suc more + j) rest (omega arith) ends) h))

chain_at_level : (deeper : Deeper) (j k : ℕ) (start : Place) (e : Expr) (ts rest : List Token) → Begins ts start → j ≤ k → Ends k rest → chain_at deeper j ts ≡ Ok (e, rest) → chain_at deeper k ts ≡ Ok (e, rest)
chain_at_level deeper j k start e ts rest b le ends h =
    let s : k ≡ (k - j) + j = omega arith in
    rw s (chain_lift deeper j (k - j) start e ts rest b (rw s at ends) h)

implication_lift : (deeper : Deeper) (start : Place) (e : Expr) (ts rest : List Token) → Begins ts start → Ends 7 rest → chain_at deeper 6 ts ≡ Ok (e, rest) → implication_at deeper ts ≡ Ok (e, rest)
unfolding implication_at
implication_lift deeper start e ts rest b ends h =
    rw b.is (rw (rw b.is at h) (implied_ends deeper b.first.place e rest ends))

choice_lift : (deeper : Deeper) (start : Place) (e : Expr) (ts rest : List Token) → Begins ts start → Ends 8 rest → implication_at deeper ts ≡ Ok (e, rest) → choice_at deeper ts ≡ Ok (e, rest)
unfolding choice_at
choice_lift deeper start e ts rest b ends h =
    rw b.is (rw (rw b.is at h) (chosen_ends deeper b.first.place e rest ends))

-- ---- reading at a level

abbrev pub level_at : Deeper → ℕ → List Token → Read Expr
level_at deeper k ts = cond (ltb k 7) (chain_at deeper k ts) (cond (eqb k 7) (implication_at deeper ts) (choice_at deeper ts))

level_is_chain : (deeper : Deeper) (k : ℕ) (ts : List Token) → k ≤ 6 → level_at deeper k ts ≡ chain_at deeper k ts
level_is_chain deeper k ts le = let e : ltb k 7 ≡ true = lt-ltb k 7 (omega arith) in rw e refl

level_lift : (deeper : Deeper) (j k : ℕ) (start : Place) (e : Expr) (ts rest : List Token) → Begins ts start → j ≤ k → k ≤ 8 → Ends k rest → level_at deeper j ts ≡ Ok (e, rest) → level_at deeper k ts ≡ Ok (e, rest)
level_lift deeper j k start e ts rest b le top ends h =
    elim (cases_lt k 7) [
      | inl lt ↦ rw (level_is_chain deeper k ts (omega arith)) (chain_at_level deeper j k start e ts rest b le ends (sym (level_is_chain deeper j ts (omega arith)) ∙ h))
      | inr ge ↦ elim (cases_lt k 8) [
        | inl lt ↦
            let k7 : k ≡ 7 = omega arith in
            rw k7 (to_implication (rw k7 at le) (rw k7 at ends))
        | inr ge7 ↦
            let k8 : k ≡ 8 = omega arith in
            elim (cases_lt j 8) [
              | inl lt ↦ rw k8 (choice_lift deeper start e ts rest b (rw k8 at ends) (to_implication (omega arith) (ends_below 7 k rest (omega arith) ends)))
              | inr same ↦ let jk : k ≡ j = omega arith in rw jk h
            ]
      ]
    ]
  where
    to_implication : j ≤ 7 → Ends 7 rest → implication_at deeper ts ≡ Ok (e, rest)
    to_implication le7 ends7 =
        elim (cases_lt j 7) [
          | inl lt ↦ implication_lift deeper start e ts rest b ends7 (chain_at_level deeper j 6 start e ts rest b (omega arith) (ends_below 6 7 rest (omega arith) ends7) (sym (level_is_chain deeper j ts (omega arith)) ∙ h))
          | inr ge ↦ let j7 : j ≡ 7 = omega arith in rw j7 at h
        ]

-- the tightest level at which a phrase may stand
abbrev pub own_level : Phrase → ℕ
own_level (literal p b) = 0
own_level (constant p c) = 0
own_level (called p x o es c) = 0
own_level (dotted e p q f) = 0
own_level (past p o e c) = 0
own_level (accessed p o e a c) = 0
own_level (numeral p m) = 0
own_level (named p x) = 0
own_level (grouped p e q) = 0
own_level (prefixed p op e) = 0
own_level (joined a p op b) = level_of op
own_level (chosen c p a q b) = 8
own_level (unfolded p i q e) = 0

pub stands_own : (w : Phrase) (k : ℕ) → StandsAt k w → (own_level w ≤ k) × StandsAt (own_level w) w
stands_own (literal p b) k h = (omega arith, tt)
stands_own (constant p c) k h = (omega arith, tt)
stands_own (called p x o es c) k h = (omega arith, h)
stands_own (dotted e p q f) k h = (omega arith, h)
stands_own (past p o e c) k h = (omega arith, h)
stands_own (accessed p o e a c) k h = (omega arith, h)
stands_own (numeral p b) k h = (omega arith, tt)
stands_own (named p b) k h = (omega arith, tt)
stands_own (grouped p e q) k h = (omega arith, h)
stands_own (prefixed p op e) k h = (omega arith, h)
stands_own (joined a p op b) k h = (h.0, (omega arith, h.1, h.2, h.3))
stands_own (chosen c p a q b) k h = (h.0, (omega arith, h.1, h.2, h.3, h.4))
stands_own (unfolded p i q e) k h = (omega arith, h)

stands_tight : (w : Phrase) (k j : ℕ) → StandsAt k w → own_level w ≤ j → StandsAt j w
stands_tight (literal p b) k j h le = tt
stands_tight (constant p c) k j h le = tt
stands_tight (called p x o es c) k j h le = h
stands_tight (dotted e p q f) k j h le = h
stands_tight (past p o e c) k j h le = h
stands_tight (accessed p o e a c) k j h le = h
stands_tight (numeral p b) k j h le = tt
stands_tight (named p b) k j h le = tt
stands_tight (grouped p e q) k j h le = h
stands_tight (prefixed p op e) k j h le = h
stands_tight (joined a p op b) k j h le = (le, h.1, h.2, h.3)
stands_tight (chosen c p a q b) k j h le = (le, h.1, h.2, h.3, h.4)
stands_tight (unfolded p i q e) k j h le = h

pub no_operators : (w : Phrase) (level : ℕ) → (own_level w ≡ level → ⊥) → operators level w ≡ 0
no_operators (literal p b) k h = refl
no_operators (constant p c) k h = refl
no_operators (called p x o es c) k h = refl
no_operators (dotted e p q f) k h = refl
no_operators (past p o e c) k h = refl
no_operators (accessed p o e a c) k h = refl
no_operators (numeral p b) k h = refl
no_operators (named p b) k h = refl
no_operators (grouped p e q) k h = refl
no_operators (prefixed p op e) k h = refl
no_operators (joined a p op b) k h = let e : eqb (level_of op) k ≡ false = ne_eqb _ _ h in rw e refl
no_operators (chosen c p a q b) k h = refl
no_operators (unfolded p i q e) k h = refl

-- what is shown of each phrase
abbrev Toks : ℕ → Phrase → List Token → List Token
Toks n w more = tokens_of (marks n w) ++ more

-- no parenthesis comes, so that a name is a variable
abbrev NoCall : List Token → Type 0
NoCall [] = Unit {0}
NoCall (t ∷ ts) = is_symbol signs.Open t.kind ≡ false

ends_no_call : (ts : List Token) → Ends 0 ts → NoCall ts
ends_no_call [] h = tt
ends_no_call (t ∷ ts) h = not_open t.kind 0 h

dots_end : (deeper : Deeper) (start : Place) (e : Expr) (ts : List Token) → Ends 0 ts → dots_at deeper start e ts ≡ Ok (e, ts)
unfolding dots_at
dots_end deeper start e [] h = refl
dots_end deeper start e (t ∷ ts) h = rw (not_dot t.kind 0 h) refl

-- A phrase that ends open takes in all operators.
abbrev pub edge : ℕ → Phrase → ℕ
edge level w = cond (ends_open w) 8 level

edge_in : (k : ℕ) (w : Phrase) (ts : List Token) → k ≤ 8 → Ends (edge k w) ts → Ends k ts
edge_in k w ts le h = by_end (ends_open w) h
  where
    by_end : (b : Bool) → Ends (cond b 8 k) ts → Ends k ts
    by_end true h = ends_below k 8 ts le h
    by_end false h = h

edge_top : (k : ℕ) (w : Phrase) (ts : List Token) → k ≤ 8 → Ends 8 ts → Ends (edge k w) ts
edge_top k w ts le h = by_end (ends_open w)
  where
    by_end : (b : Bool) → Ends (cond b 8 k) ts
    by_end true = h
    by_end false = ends_below k 8 ts le h

edge_below : (j k : ℕ) (w : Phrase) (ts : List Token) → j ≤ k → Ends (edge k w) ts → Ends (edge j w) ts
edge_below j k w ts le h = by_end (ends_open w) h
  where
    by_end : (b : Bool) → Ends (cond b 8 k) ts → Ends (cond b 8 j) ts
    by_end true h = h
    by_end false h = ends_below j k ts le h

-- behind a closed phrase
edge_closed : (k : ℕ) (w : Phrase) (ts : List Token) → ends_open w ≡ false → Ends k ts → Ends (edge k w) ts
edge_closed k w ts e h = subst (λ b. Ends (cond b 8 k) ts) (sym e) h

record Reads (limit : ℕ) (w : Phrase) : Type 0 where
  own : (n room : ℕ) → n + room ≡ limit → Within limit (marks n w) → StandsAt (own_level w) w → (more : List Token) → Ends (edge (own_level w) w) more
      → level_at (below room) (own_level w) (Toks n w more) ≡ Ok (meant w, more)
  spine : (n room : ℕ) → n + room ≡ limit → Within limit (marks n w) → (k : ℕ) → k ≤ 5 → own_level w ≡ suc k → StandsAt (suc k) w → (more : List Token) → Ends (edge k w) more
      → chain_at (below room) (suc k) (Toks n w more) ≡ rest_at (below (room - operators (suc k) w)) k (start_of w) (meant w) more
  -- behind what a dot may stand behind, dots are read
  primary : IsPrimary w → (n room : ℕ) → n + room ≡ limit → Within limit (marks n w) → StandsAt 0 w → (more : List Token) → NoCall more
      → unary_at (below room) (Toks n w more) ≡ dots_at (below (room - dots w)) (start_of w) (meant w) more

whole_edge : (limit : ℕ) (w : Phrase) → Reads limit w → (n room : ℕ) → n + room ≡ limit → Within limit (marks n w) → (k : ℕ) → k ≤ 8 → StandsAt k w → (more : List Token) → Ends (edge k w) more
    → level_at (below room) k (Toks n w more) ≡ Ok (meant w, more)
whole_edge limit w r n room e h k top st more ends =
    let o = stands_own w k st in
    level_lift (below room) (own_level w) k (start_of w) (meant w) (Toks n w more) more (begins w n more) o.0 top (edge_in k w more top ends) (r.own n room e h o.1 more (edge_below (own_level w) k w more o.0 ends))

-- where no operator at all follows
whole : (limit : ℕ) (w : Phrase) → Reads limit w → (n room : ℕ) → n + room ≡ limit → Within limit (marks n w) → (k : ℕ) → k ≤ 8 → StandsAt k w → (more : List Token) → Ends 8 more
    → level_at (below room) k (Toks n w more) ≡ Ok (meant w, more)
whole limit w r n room e h k top st more ends = whole_edge limit w r n room e h k top st more (edge_top k w more top ends)

whole_chain : (limit : ℕ) (w : Phrase) → Reads limit w → (n room : ℕ) → n + room ≡ limit → Within limit (marks n w) → (k : ℕ) → k ≤ 6 → StandsAt k w → (more : List Token) → Ends (edge k w) more
    → chain_at (below room) k (Toks n w more) ≡ Ok (meant w, more)
whole_chain limit w r n room e h k top st more ends = sym (level_is_chain (below room) k (Toks n w more) top) ∙ whole_edge limit w r n room e h k (omega arith) st more ends

whole_spine : (limit : ℕ) (w : Phrase) → Reads limit w → (n room : ℕ) → n + room ≡ limit → Within limit (marks n w) → (k : ℕ) → k ≤ 5 → StandsAt (suc k) w → (more : List Token) → Ends (edge k w) more
    → chain_at (below room) (suc k) (Toks n w more) ≡ rest_at (below (room - operators (suc k) w)) k (start_of w) (meant w) more
whole_spine limit w r n room e h k low st more ends =
    elim (cases_lt (own_level w) (suc k)) [
      | inl lt ↦
          let o = stands_own w (suc k) st in
          let z : operators (suc k) w ≡ 0 = no_operators w (suc k) (λ q. omega arith) in
          let m : room - 0 ≡ room = omega arith in
          let stk = stands_tight w (suc k) k st (omega (arith, lt)) in
          rw (z, m) (chain_spine (below room) k (start_of w) (meant w) (Toks n w more) more (begins w n more) (whole_chain limit w r n room e h k (omega arith) stk more ends))
      | inr ge ↦ r.spine n room e h k low (omega (arith, (stands_own w (suc k) st).0)) st more ends
    ]

-- ---- each phrase

nested_reads : (room less : ℕ) (p : Part) (here ts : List Token) (x : Given p × List Token) → room ≡ less + 1 → part_at (below less) p ts ≡ Ok x → below room p here ts ≡ Ok x
nested_reads room less p here ts x e h = nests room less p here ts e ∙ h

-- a phrase that reads as one operand
tight : (limit : ℕ) (w : Phrase) → own_level w ≡ 0 → (IsPrimary w → ⊥)
    → ((n room : ℕ) → n + room ≡ limit → Within limit (marks n w) → StandsAt 0 w → (more : List Token) → Ends (edge 0 w) more → unary_at (below room) (Toks n w more) ≡ Ok (meant w, more))
    → Reads limit w
unfolding chain_at
tight limit w z not f = record {
  own = λ n room e h st more ends. rw z (f n room e h (rw z at st) more (rw z at ends));
  spine = λ n room e h k low q st more ends. absurd (omega (arith, z, q));
  primary = λ is. absurd (not is);
}

-- a phrase that a dot may stand behind
behind : (limit : ℕ) (w : Phrase) → own_level w ≡ 0 → IsPrimary w
    → ((n room : ℕ) → n + room ≡ limit → Within limit (marks n w) → StandsAt 0 w → (more : List Token) → NoCall more → unary_at (below room) (Toks n w more) ≡ dots_at (below (room - dots w)) (start_of w) (meant w) more)
    → Reads limit w
unfolding chain_at
behind limit w z is f = record {
  own = λ n room e h st more ends.
      let ends' : Ends 0 more = edge_in 0 w more (omega arith) (rw z at ends) in
      rw z (f n room e h (rw z at st) more (ends_no_call more ends') ∙ dots_end (below (room - dots w)) (start_of w) (meant w) more ends');
  spine = λ n room e h k low q st more ends. absurd (omega (arith, z, q));
  primary = λ is. f;
}

-- a phrase with no dot that is read whole, and then dots
undotted : (limit : ℕ) (w : Phrase) → own_level w ≡ 0 → IsPrimary w → dots w ≡ 0
    → ((n room : ℕ) → n + room ≡ limit → Within limit (marks n w) → StandsAt 0 w → (more : List Token) → NoCall more → unary_at (below room) (Toks n w more) ≡ dots_at (below room) (start_of w) (meant w) more)
    → Reads limit w
undotted limit w z is zero_dots f = behind limit w z is (λ n room e h st more bare.
    let same : room ≡ room - dots w = omega (arith, zero_dots) in
    f n room e h st more bare ∙ ap (λ r. dots_at (below r) (start_of w) (meant w) more) same)

room_for : (limit n room c : ℕ) → n + room ≡ limit → c ≤ limit → c ≡ n + 1 → room ≡ (room - 1) + 1
room_for limit n room c e le s = omega arith

-- what stands between parentheses
pub enclosed_reads : (limit n room : ℕ) (p : Part) (o c : Place) (inner : List Mark) (x : Given p) (more : List Token) → n + room ≡ limit → n + 1 ≤ limit
    → (let close = mark (n + 1) c (symbol signs.Close) in (less : ℕ) → room ≡ less + 1 → part_at (below less) p (tokens_of inner ++ close.token ∷ more) ≡ Ok (x, close.token ∷ more))
    → (let opened = mark (n + 1) o (symbol signs.Open) in let close = mark (n + 1) c (symbol signs.Close) in enclosed (below room) p (opened.token ∷ (tokens_of (inner ++ close ∷ []) ++ more)) ≡ Ok (x, more))
unfolding enclosed expect
enclosed_reads limit n room p o c inner x more e le h =
    let close = mark (n + 1) c (symbol signs.Close) in
    let opened : Token = (mark (n + 1) o (symbol signs.Open)).token in
    let less = room - 1 in
    let s : room ≡ less + 1 = room_for limit n room (n + 1) e le refl in
    let ts : tokens_of (inner ++ close ∷ []) ++ more ≡ tokens_of inner ++ close.token ∷ more = tokens-append_more inner (close ∷ []) more in
    let read : below room p (opened ∷ (tokens_of (inner ++ close ∷ []) ++ more)) (tokens_of (inner ++ close ∷ []) ++ more) ≡ Ok (x, close.token ∷ more) = nested_reads room less p _ _ _ s (ap (part_at (below less) p) ts ∙ h less s) in
    rw read refl

reads_grouped : (limit : ℕ) (p : Place) (w : Phrase) (q : Place) → Reads limit w → Reads limit (grouped p w q)
unfolding unary_at unary_by postfix_by primary_by
reads_grouped limit p w q r = undotted limit (grouped p w q) refl tt refl (λ n room e h st more bare.
    let close = mark (n + 1) q (symbol signs.Close) in
    rw (enclosed_reads limit n room choice p q (marks (n + 1) w) (meant w) more e h.0
    (λ less s. whole limit w r (n + 1) less (omega (arith, e, s)) (within_front limit (marks (n + 1) w) (close ∷ []) h.1) 8 (omega arith) st (close.token ∷ more) (omega arith))) refl)

reads_past : (limit : ℕ) (p o : Place) (w : Phrase) (c : Place) → Reads limit w → Reads limit (past p o w c)
unfolding unary_at unary_by postfix_by primary_by old_by
reads_past limit p o w c r = undotted limit (past p o w c) refl tt refl (λ n room e h st more bare.
    let close = mark (n + 1) c (symbol signs.Close) in
    rw (enclosed_reads limit n room choice o c (marks (n + 1) w) (meant w) more e h.1.0
    (λ less s. whole limit w r (n + 1) less (omega (arith, e, s)) (within_front limit (marks (n + 1) w) (close ∷ []) h.1.1) 8 (omega arith) st (close.token ∷ more) (omega arith))) refl)

-- ---- amounts and arguments

record ReadsAmount (limit : ℕ) (a : AmountPhrase) : Type 0 where
  read : (n room : ℕ) → n + room ≡ limit → Within limit (amount_marks n a) → AmountStands a → (t : Token) (more : List Token) → is_symbol signs.Comma t.kind ≡ false → Ends 8 (t ∷ more)
      → amount_at (below room) (tokens_of (amount_marks n a) ++ t ∷ more) ≡ Ok (amount_meant a, t ∷ more)
  front_ends : (n : ℕ) (t : Token) (more : List Token) → Ends 8 (t ∷ more) → Ends 8 (tokens_of (amount_marks n a) ++ t ∷ more)

reads_no_amount : (limit : ℕ) → ReadsAmount limit no_amount
unfolding amount_at
reads_no_amount limit = record {
  read = λ n room e h st t more not ends. rw not refl;
  front_ends = λ n t more ends. ends;
}

reads_some_amount : (limit : ℕ) (p : Place) (w : Phrase) → Reads limit w → ReadsAmount limit (amount p w)
unfolding amount_at amount_by
reads_some_amount limit p w r = record {
  read = λ n room e h st t more not ends. rw (whole limit w r n room e h.1 8 (omega arith) st (t ∷ more) ends) refl;
  front_ends = λ n t more ends. omega arith;
}

reads_accessed : (limit : ℕ) (p o : Place) (w : Phrase) (a : AmountPhrase) (c : Place) → Reads limit w → ReadsAmount limit a → Reads limit (accessed p o w a c)
unfolding unary_at unary_by postfix_by primary_by access_by access_at
reads_accessed limit p o w a c r ra = undotted limit (accessed p o w a c) refl tt refl (λ n room e h st more bare.
    let close = mark (n + 1) c (symbol signs.Close) in
    let all = within_front limit (marks (n + 1) w ++ amount_marks (n + 1) a) (close ∷ []) h.1.1 in
    let behind_first = tokens_of (amount_marks (n + 1) a) ++ close.token ∷ more in
    let both : (less : ℕ) → room ≡ less + 1 → access_at (below less) (tokens_of (marks (n + 1) w ++ amount_marks (n + 1) a) ++ close.token ∷ more) ≡ Ok ((meant w, amount_meant a), close.token ∷ more) =
    λ less s.
    let first : choice_at (below less) (tokens_of (marks (n + 1) w) ++ behind_first) ≡ Ok (meant w, behind_first) = whole limit w r (n + 1) less (omega (arith, e, s)) (within_front limit (marks (n + 1) w) (amount_marks (n + 1) a) all) 8 (omega arith) st.0 behind_first (ra.front_ends (n + 1) close.token more (omega arith)) in
    let second = ra.read (n + 1) less (omega (arith, e, s)) (within_back limit (marks (n + 1) w) (amount_marks (n + 1) a) all) st.1 close.token more refl (omega arith) in
    ap (access_at (below less)) (tokens-append_more (marks (n + 1) w) (amount_marks (n + 1) a) (close.token ∷ more)) ∙ rw (first, second) refl in
    rw (enclosed_reads limit n room access o c (marks (n + 1) w ++ amount_marks (n + 1) a) (meant w, amount_meant a) more e h.1.0 both) refl)

further_list : FurtherPhrase → List Expr
further_list nothing_further = []
further_list (further p e es) = meant e ∷ further_list es

further_same : (es : FurtherPhrase) → exprs_from (further_list es) ≡ further_meant es
unfolding further_list
further_same nothing_further = refl
further_same (further p e es) = ap (More (meant e)) (further_same es)

further_count : FurtherPhrase → ℕ
further_count nothing_further = 0
further_count (further p e es) = 1 + further_count es

further_long : (n : ℕ) (es : FurtherPhrase) (ts : List Token) → further_count es ≤ length (tokens_of (further_marks n es) ++ ts)
unfolding further_count
further_long n nothing_further ts = omega arith
further_long n (further p e es) ts =
    let list = ap length (tokens-append_more (marks n e) (further_marks n es) ts) in
    let a = length-append (tokens_of (marks n e)) (tokens_of (further_marks n es) ++ ts) in
    let h = further_long n es ts in
    omega (arith, list, a, h)

record ReadsFurther (limit : ℕ) (es : FurtherPhrase) : Type 0 where
  read : (n room : ℕ) → n + room ≡ limit → Within limit (further_marks n es) → FurtherStand es → (before : List Expr) (t : Token) (more : List Token) → is_symbol signs.Comma t.kind ≡ false → Ends 8 (t ∷ more) → (most : ℕ) → further_count es ≤ most
      → run (argument_turn (below room)) most before (tokens_of (further_marks n es) ++ t ∷ more) ≡ Ok (before ++ further_list es, t ∷ more)
  front_ends : (n : ℕ) (t : Token) (more : List Token) → Ends 8 (t ∷ more) → Ends 8 (tokens_of (further_marks n es) ++ t ∷ more)

ok_list : List Expr → List Token → Read (List Expr)
ok_list es ts = Ok (es, ts)

reads_nothing_further : (limit : ℕ) → ReadsFurther limit nothing_further
unfolding run argument_turn further_list ok_list
reads_nothing_further limit = record {
  read = λ n room e h st before t more not ends most le. over room before t more not most;
  front_ends = λ n t more ends. ends;
}
  where
    over : (room : ℕ) (before : List Expr) (t : Token) (more : List Token) → is_symbol signs.Comma t.kind ≡ false → (most : ℕ) → run (argument_turn (below room)) most before (t ∷ more) ≡ ok_list (before ++ []) (t ∷ more)
    over room before t more not zero = ap (λ l. ok_list l (t ∷ more)) (sym (append-nil before))
    over room before t more not (suc most) = rw not (ap (λ l. ok_list l (t ∷ more)) (sym (append-nil before)))

reads_some_further : (limit : ℕ) (p : Place) (w : Phrase) (es : FurtherPhrase) → Reads limit w → ReadsFurther limit es → ReadsFurther limit (further p w es)
unfolding run argument_turn further_list further_count ok_list
reads_some_further limit p w es r rs = record {
  read = λ n room e h st before t more not ends most le. one_more n room e h st before t more not ends most le;
  front_ends = λ n t more ends. omega arith;
}
  where
    one_more : (n room : ℕ) → n + room ≡ limit → Within limit (further_marks n (further p w es)) → FurtherStand (further p w es) → (before : List Expr) (t : Token) (more : List Token) → is_symbol signs.Comma t.kind ≡ false → Ends 8 (t ∷ more) → (most : ℕ) → 1 + further_count es ≤ most
        → run (argument_turn (below room)) most before (tokens_of (further_marks n (further p w es)) ++ t ∷ more) ≡ ok_list (before ++ meant w ∷ further_list es) (t ∷ more)
    one_more n room e h st before t more not ends zero le = absurd (omega (arith, le))
    one_more n room e h st before t more not ends (suc most) le =
        let rest = tokens_of (further_marks n es) ++ t ∷ more in
        let list : tokens_of (marks n w ++ further_marks n es) ++ t ∷ more ≡ tokens_of (marks n w) ++ rest = tokens-append_more (marks n w) (further_marks n es) (t ∷ more) in
        let first : choice_at (below room) (tokens_of (marks n w) ++ rest) ≡ Ok (meant w, rest) = whole limit w r n room e (within_front limit (marks n w) (further_marks n es) h.1) 8 (omega arith) st.0 rest (rs.front_ends n t more ends) in
        let others = rs.read n room e (within_back limit (marks n w) (further_marks n es) h.1) st.1 (before ++ meant w ∷ []) t more not ends most (omega (arith, le)) in
        rw (list, first) (others ∙ ap (λ l. ok_list l (t ∷ more)) (append_assoc before (meant w ∷ []) (further_list es)))

record ReadsArguments (limit : ℕ) (es : ArgumentsPhrase) : Type 0 where
  read : (n room : ℕ) → n + room ≡ limit → Within limit (arguments_marks n es) → ArgumentsStand es → (p : Place) (more : List Token)
      → (let close = mark n p (symbol signs.Close) in arguments_at (below room) (tokens_of (arguments_marks n es) ++ close.token ∷ more) ≡ Ok (arguments_meant es, close.token ∷ more))

reads_no_arguments : (limit : ℕ) → ReadsArguments limit no_arguments
unfolding arguments_at
reads_no_arguments limit = record { read = λ n room e h st p more. refl }

reads_arguments_from : (limit : ℕ) (w : Phrase) (es : FurtherPhrase) → Reads limit w → ReadsFurther limit es → ReadsArguments limit (arguments_from w es)
unfolding arguments_at some_arguments
reads_arguments_from limit w es r rs = record {
  read = λ n room e h st p more.
      let close = mark n p (symbol signs.Close) in
      let rest = tokens_of (further_marks n es) ++ close.token ∷ more in
      let list : tokens_of (marks n w ++ further_marks n es) ++ close.token ∷ more ≡ tokens_of (marks n w) ++ rest = tokens-append_more (marks n w) (further_marks n es) (close.token ∷ more) in
      let b = begins w n rest in
      let first : choice_at (below room) (tokens_of (marks n w) ++ rest) ≡ Ok (meant w, rest) = whole limit w r n room e (within_front limit (marks n w) (further_marks n es) h) 8 (omega arith) st.0 rest (rs.front_ends n close.token more (omega arith)) in
      let others = rs.read n room e (within_back limit (marks n w) (further_marks n es) h) st.1 (meant w ∷ []) close.token more refl (omega arith) (length rest) (further_long n es (close.token ∷ more)) in
      ap (arguments_at (below room)) (list ∙ b.is) ∙ rw (b.not_close, rw b.is at first, others) (ap (λ (l : Exprs). let a : Read Exprs = Ok (More (meant w) l, close.token ∷ more) in a) (further_same es));
}

reads_called : (limit : ℕ) (p : Place) (x : List ℕ) (o : Place) (es : ArgumentsPhrase) (c : Place) → ReadsArguments limit es → Reads limit (called p x o es c)
unfolding unary_at unary_by postfix_by primary_by named_by call_by
reads_called limit p x o es c r = undotted limit (called p x o es c) refl tt refl (λ n room e h st more bare.
    let close = mark (n + 1) c (symbol signs.Close) in
    rw (enclosed_reads limit n room arguments o c (arguments_marks (n + 1) es) (arguments_meant es) more e h.1.0
    (λ less s. r.read (n + 1) less (omega (arith, e, s)) (within_front limit (arguments_marks (n + 1) es) (close ∷ []) h.1.1) st c more)) refl)

reads_dotted : (limit : ℕ) (w : Phrase) (p q : Place) (f : List ℕ) → Reads limit w → Reads limit (dotted w p q f)
unfolding dots_at dotted_at name_at
reads_dotted limit w p q f r = behind limit (dotted w p q f) refl tt (λ n room e h st more bare.
    let deep = n + dots w + 1 in
    let dot = mark deep p (symbol signs.Dot) in
    let field = mark deep q (name f) in
    let hb = within_back limit (marks n w) (dot ∷ field ∷ []) h in
    let list : tokens_of (marks n w ++ dot ∷ field ∷ []) ++ more ≡ tokens_of (marks n w) ++ dot.token ∷ field.token ∷ more = tokens-append_more (marks n w) (dot ∷ field ∷ []) more in
    let first = r.primary st.0 n room e (within_front limit (marks n w) (dot ∷ field ∷ []) h) st.1 (dot.token ∷ field.token ∷ more) refl in
    let less = room - (dots w + 1) in
    let s : room - dots w ≡ less + 1 = omega (arith, hb.0, e) in
    ap (unary_at (below room)) list ∙ first ∙ nests (room - dots w) less (behind_dot (start_of w) (meant w)) (dot.token ∷ field.token ∷ more) (field.token ∷ more) s)

reads_prefixed : (limit : ℕ) (p : Place) (op : UnaryOperator) (w : Phrase) → Reads limit w → Reads limit (prefixed p op w)
unfolding unary_at unary_by
reads_prefixed limit p op w r = tight limit (prefixed p op w) refl (λ is. is) (go op)
  where
    go : (op' : UnaryOperator) (n room : ℕ) → n + room ≡ limit → Within limit (marks n (prefixed p op' w)) → StandsAt 0 w → (more : List Token) → Ends (edge 0 w) more → unary_at (below room) (Toks n (prefixed p op' w) more) ≡ Ok (meant (prefixed p op' w), more)
    go Not n room e h st more ends =
        let less = room - 1 in
        let s : room ≡ less + 1 = room_for limit n room (n + 1) e h.0 refl in
        let inner = whole_chain limit w r (n + 1) less (omega arith) h.1 0 (omega arith) st more ends in
        rw (nested_reads room less (chain 0) ((mark (n + 1) p (symbol signs.Not)).token ∷ Toks (n + 1) w more) (Toks (n + 1) w more) _ s inner) refl
    go Negate n room e h st more ends =
        let less = room - 1 in
        let s : room ≡ less + 1 = room_for limit n room (n + 1) e h.0 refl in
        let inner = whole_chain limit w r (n + 1) less (omega arith) h.1 0 (omega arith) st more ends in
        rw (nested_reads room less (chain 0) ((mark (n + 1) p (symbol signs.Minus)).token ∷ Toks (n + 1) w more) (Toks (n + 1) w more) _ s inner) refl

-- an operand, an operator of a chain, and an operand
chain_step : (limit : ℕ) (a : Phrase) (p : Place) (op : BinaryOperator) (b : Phrase) (k : ℕ) → IsChain op k → Reads limit a → Reads limit b → (n room : ℕ) → n + room ≡ limit → Within limit (marks n (joined a p op b)) → StandsAt (suc k) (joined a p op b) → (more : List Token) → Ends (edge k b) more
    → chain_at (below room) (suc k) (Toks n (joined a p op b) more) ≡ rest_at (below (room - operators (suc k) (joined a p op b))) k (start_of a) (Binary (start_of a) op (meant a) (meant b)) more
unfolding rest_at rest_by operator_by
chain_step limit a p op b k ch ra rb n room e h st more ends =
    let ops = operators (level_of op) a in
    let deep = n + ops + 1 in
    let m = mark deep p (symbol (sign_of op)) in
    let hb = within_back limit (marks n a) (m ∷ marks deep b) h in
    let fits : deep ≤ limit = hb.0 in
    let ts : Toks n (joined a p op b) more ≡ Toks n a (m.token ∷ Toks deep b more) = tokens-append_more (marks n a) (m ∷ marks deep b) more in
    let at_sign : Ends k (m.token ∷ Toks deep b more) = rw (reach_sign op, ch.level) (omega arith) in
    let reached : Ends (edge k a) (m.token ∷ Toks deep b more) = edge_closed k a (m.token ∷ Toks deep b more) st.3 at_sign in
    let sta : StandsAt (suc k) a = rw ch.left at st.1 in
    let stb : StandsAt k b = rw ch.right at st.2 in
    let same : operators (suc k) a ≡ ops = ap (λ l. operators l a) (sym ch.level) in
    let first = whole_spine limit a ra n room e (within_front limit (marks n a) (m ∷ marks deep b) h) k ch.low sta (m.token ∷ Toks deep b more) reached in
    let less = room - (ops + 1) in
    let s : room - operators (suc k) a ≡ less + 1 = omega (arith, same, fits, e) in
    let right = whole_chain limit b rb deep less (omega (arith, fits, e)) hb.1 k (omega (arith, ch.low)) stb more ends in
    let level : eqb (level_of op) (suc k) ≡ true = eq-eqb _ _ ch.level in
    let here = m.token ∷ Toks deep b more in
    let taken : below (room - operators (suc k) a) (chain k) here (Toks deep b more) ≡ Ok (meant b, more) = nested_reads (room - operators (suc k) a) less (chain k) here (Toks deep b more) _ s right in
    let all : operators (suc k) (joined a p op b) ≡ ops + 1 = rw level (ap (λ l. l + 1) same) in
    ap (chain_at (below room) (suc k)) ts
    ∙ first
    ∙ rw (is_written op, level, taken) (nests (room - operators (suc k) a) less (rest_of_chain k (start_of a) (Binary (start_of a) op (meant a) (meant b))) more more s)
    ∙ ap (λ l. rest_at (below (room - l)) k (start_of a) (Binary (start_of a) op (meant a) (meant b)) more) (sym all)

reads_chain : (limit : ℕ) (a : Phrase) (p : Place) (op : BinaryOperator) (b : Phrase) (k : ℕ) → IsChain op k → Reads limit a → Reads limit b → Reads limit (joined a p op b)
reads_chain limit a p op b k ch ra rb = record {
  own = λ n room e h st more ends.
      let w = joined a p op b in
      let st' : StandsAt (suc k) w = (omega (arith, ch.level), st.1, st.2, st.3) in
      let at_level : Ends (edge (suc k) b) more = subst (λ l. Ends (edge l b) more) ch.level ends in
      let ends' : Ends (suc k) more = edge_in (suc k) b more (omega (arith, ch.low)) at_level in
      let read : chain_at (below room) (suc k) (Toks n w more) ≡ Ok (meant w, more) =
      chain_step limit a p op b k ch ra rb n room e h st' more (edge_below k (suc k) b more (omega arith) at_level) ∙ rest_ends _ k (start_of a) _ more ends' in
      subst (λ l. level_at (below room) l (Toks n w more) ≡ Ok (meant w, more)) (sym ch.level) (level_is_chain (below room) (suc k) (Toks n w more) (omega (arith, ch.low)) ∙ read);
  spine = λ n room e h j low q st more ends.
      let w = joined a p op b in
      let same : j ≡ k = omega (arith, q, ch.level) in
      subst (λ i. chain_at (below room) (suc i) (Toks n w more) ≡ rest_at (below (room - operators (suc i) w)) i (start_of w) (meant w) more) (sym same)
      (chain_step limit a p op b k ch ra rb n room e h (subst (λ i. StandsAt (suc i) w) same st) more (subst (λ i. Ends (edge i b) more) same ends));
  primary = λ is. absurd is;
}

implies_step : (limit : ℕ) (a : Phrase) (p : Place) (b : Phrase) → Reads limit a → Reads limit b → (n room : ℕ) → n + room ≡ limit → Within limit (marks n (joined a p Implies b)) → StandsAt 7 (joined a p Implies b) → (more : List Token) → Ends (edge 7 b) more
    → implication_at (below room) (Toks n (joined a p Implies b) more) ≡ Ok (Binary (start_of a) Implies (meant a) (meant b), more)
unfolding implication_at implied_by implies_by
implies_step limit a p b ra rb n room e h st more ends =
    let ops = operators 7 a in
    let none : operators 7 a ≡ 0 = no_operators a 7 (λ q. let o = (stands_own a 6 st.1).0 in omega (arith, o, q)) in
    let deep = n + ops + 1 in
    let m = mark deep p (symbol signs.Implies) in
    let hb = within_back limit (marks n a) (m ∷ marks deep b) h in
    let fits : deep ≤ limit = hb.0 in
    let ts : Toks n (joined a p Implies b) more ≡ Toks n a (m.token ∷ Toks deep b more) = tokens-append_more (marks n a) (m ∷ marks deep b) more in
    let here = m.token ∷ Toks deep b more in
    let left = whole_chain limit a ra n room e (within_front limit (marks n a) (m ∷ marks deep b) h) 6 (omega arith) st.1 here (edge_closed 6 a here st.3 (omega arith)) in
    let less = room - 1 in
    let s : room ≡ less + 1 = omega (arith, fits, e) in
    let right : implication_at (below less) (Toks deep b more) ≡ Ok (meant b, more) = whole_edge limit b rb deep less (omega (arith, fits, e, none)) hb.1 7 (omega arith) st.2 more ends in
    let taken : below room implication here (Toks deep b more) ≡ Ok (meant b, more) = nested_reads room less implication here (Toks deep b more) _ s right in
    let bg = begins a n here in
    ap (implication_at (below room)) (ts ∙ bg.is)
    ∙ rw (rw bg.is at left, bg.place, taken) refl

reads_implies : (limit : ℕ) (a : Phrase) (p : Place) (b : Phrase) → Reads limit a → Reads limit b → Reads limit (joined a p Implies b)
reads_implies limit a p b ra rb = record {
  own = λ n room e h st more ends. implies_step limit a p b ra rb n room e h (omega arith, st.1, st.2, st.3) more ends;
  spine = λ n room e h k low q st more ends. absurd (omega (arith, low, q));
  primary = λ is. absurd is;
}

reads_joined : (limit : ℕ) (a : Phrase) (p : Place) (op : BinaryOperator) (b : Phrase) → Reads limit a → Reads limit b → Reads limit (joined a p op b)
reads_joined limit a p op b ra rb =
    elim (chain_or_implies op) [
      | inl c ↦ reads_chain limit a p op b c.0 c.1 ra rb
      | inr e ↦ subst (λ o. Reads limit (joined a p o b)) (sym e) (reads_implies limit a p b ra rb)
    ]

chosen_step : (limit : ℕ) (c : Phrase) (p : Place) (a : Phrase) (q : Place) (b : Phrase) → Reads limit c → Reads limit a → Reads limit b → (n room : ℕ) → n + room ≡ limit → Within limit (marks n (chosen c p a q b)) → StandsAt 8 (chosen c p a q b) → (more : List Token) → Ends (edge 8 b) more
    → choice_at (below room) (Toks n (chosen c p a q b) more) ≡ Ok (Choice (start_of c) (meant c) (meant a) (meant b), more)
unfolding choice_at chosen_by sides_by second_by expect
chosen_step limit c p a q b rc ra rb n room e h st more ends =
    let m = mark (n + 1) p (symbol signs.Question) in
    let k = mark (n + 1) q (symbol signs.Colon) in
    let h1 = within_back limit (marks n c) (m ∷ (marks (n + 1) a ++ k ∷ marks (n + 1) b)) h in
    let ha = within_front limit (marks (n + 1) a) (k ∷ marks (n + 1) b) h1.1 in
    let hb = within_back limit (marks (n + 1) a) (k ∷ marks (n + 1) b) h1.1 in
    let after : tokens_of (marks (n + 1) a ++ k ∷ marks (n + 1) b) ++ more ≡ Toks (n + 1) a (k.token ∷ Toks (n + 1) b more) = tokens-append_more (marks (n + 1) a) (k ∷ marks (n + 1) b) more in
    let second = k.token ∷ Toks (n + 1) b more in
    let here = m.token ∷ Toks (n + 1) a second in
    let ts : Toks n (chosen c p a q b) more ≡ Toks n c here = tokens-append_more (marks n c) (m ∷ (marks (n + 1) a ++ k ∷ marks (n + 1) b)) more ∙ ap (λ l. Toks n c (m.token ∷ l)) after in
    let condition : implication_at (below room) (Toks n c here) ≡ Ok (meant c, here) = whole_edge limit c rc n room e (within_front limit (marks n c) (m ∷ (marks (n + 1) a ++ k ∷ marks (n + 1) b)) h) 7 (omega arith) st.1 here (edge_closed 7 c here st.4 (omega arith)) in
    let less = room - 1 in
    let s : room ≡ less + 1 = room_for limit n room (n + 1) e h1.0 refl in
    let left : choice_at (below less) (Toks (n + 1) a second) ≡ Ok (meant a, second) = whole limit a ra (n + 1) less (omega arith) ha 8 (omega arith) st.2 second (omega arith) in
    let right : choice_at (below less) (Toks (n + 1) b more) ≡ Ok (meant b, more) = whole_edge limit b rb (n + 1) less (omega arith) hb.1 8 (omega arith) st.3 more ends in
    let taken1 : below room choice here (Toks (n + 1) a second) ≡ Ok (meant a, second) = nested_reads room less choice here (Toks (n + 1) a second) _ s left in
    let taken2 : below room choice second (Toks (n + 1) b more) ≡ Ok (meant b, more) = nested_reads room less choice second (Toks (n + 1) b more) _ s right in
    let bg = begins c n here in
    ap (choice_at (below room)) (ts ∙ bg.is)
    ∙ rw (rw bg.is at condition, bg.place, taken1, taken2) refl

reads_chosen : (limit : ℕ) (c : Phrase) (p : Place) (a : Phrase) (q : Place) (b : Phrase) → Reads limit c → Reads limit a → Reads limit b → Reads limit (chosen c p a q b)
reads_chosen limit c p a q b rc ra rb = record {
  own = λ n room e h st more ends. chosen_step limit c p a q b rc ra rb n room e h st more ends;
  spine = λ n room e h k low r st more ends. absurd (omega (arith, low, r));
  primary = λ is. absurd is;
}

reads_leaf : (limit : ℕ) (w : Phrase) → own_level w ≡ 0 → IsPrimary w → dots w ≡ 0 → ((deeper : Deeper) (n : ℕ) (more : List Token) → unary_at deeper (Toks n w more) ≡ dots_at deeper (start_of w) (meant w) more) → Reads limit w
reads_leaf limit w z is zero_dots f = undotted limit w z is zero_dots (λ n room e h st more bare. f (below room) n more)

reads_literal : (limit : ℕ) (p : Place) (b : Bool) → Reads limit (literal p b)
unfolding unary_at unary_by postfix_by primary_by
reads_literal limit p true = reads_leaf limit (literal p true) refl tt refl (λ deeper n more. refl)
reads_literal limit p false = reads_leaf limit (literal p false) refl tt refl (λ deeper n more. refl)

reads_constant : (limit : ℕ) (p : Place) (c : Constant) → Reads limit (constant p c)
unfolding unary_at unary_by postfix_by primary_by
reads_constant limit p null_word = reads_leaf limit (constant p null_word) refl tt refl (λ deeper n more. refl)
reads_constant limit p write_word = reads_leaf limit (constant p write_word) refl tt refl (λ deeper n more. refl)
reads_constant limit p none_word = reads_leaf limit (constant p none_word) refl tt refl (λ deeper n more. refl)
reads_constant limit p result_word = reads_leaf limit (constant p result_word) refl tt refl (λ deeper n more. refl)

reads_numeral : (limit : ℕ) (p : Place) (m : ℕ) → Reads limit (numeral p m)
unfolding unary_at unary_by postfix_by primary_by
reads_numeral limit p m = reads_leaf limit (numeral p m) refl tt refl (λ deeper n more. refl)

reads_named : (limit : ℕ) (p : Place) (x : List ℕ) → Reads limit (named p x)
unfolding unary_at unary_by postfix_by primary_by named_by
reads_named limit p x = undotted limit (named p x) refl tt refl go
  where
    go : (n room : ℕ) → n + room ≡ limit → Within limit (marks n (named p x)) → StandsAt 0 (named p x) → (more : List Token) → NoCall more → unary_at (below room) (Toks n (named p x) more) ≡ dots_at (below room) p (written.Variable p x) more
    go n room e h st [] bare = refl
    go n room e h st (t ∷ ts) bare = rw bare refl

-- ---- instances

record ReadsInstance (limit : ℕ) (i : InstancePhrase) : Type 0 where
  read : (n room : ℕ) → n + room ≡ limit → Within limit (instance_marks n i) → InstanceStands i → (more : List Token) → instance_at (below room) (tokens_of (instance_marks n i) ++ more) ≡ Ok (instance_meant i, more)

reads_bare : (limit : ℕ) (p : Place) (x : List ℕ) (o : Place) (es : ArgumentsPhrase) (c : Place) → ReadsArguments limit es → ReadsInstance limit (alone p x o es c)
unfolding instance_at bare_by
reads_bare limit p x o es c r = record {
  read = λ n room e h st more.
      let close = mark (n + 1) c (symbol signs.Close) in
      rw (enclosed_reads limit n room arguments o c (arguments_marks (n + 1) es) (arguments_meant es) more e h.1.0
      (λ less s. r.read (n + 1) less (omega (arith, e, s)) (within_front limit (arguments_marks (n + 1) es) (close ∷ []) h.1.1) st c more)) refl;
}

reads_held : (limit : ℕ) (p o q : Place) (x : List ℕ) (o' : Place) (es : ArgumentsPhrase) (c' : Place) (a : AmountPhrase) (c : Place) → ReadsArguments limit es → ReadsAmount limit a → ReadsInstance limit (held p o q x o' es c' a c)
unfolding instance_at holding_at name_at
reads_held limit p o q x o' es c' a c r ra = record {
  read = λ n room e h st more.
      let close = mark (n + 1) c (symbol signs.Close) in
      let close' = mark (n + 1 + 1) c' (symbol signs.Close) in
      let inside = arguments_marks (n + 1 + 1) es ++ close' ∷ [] in
      let all = mark (n + 1) q (name x) ∷ mark (n + 1 + 1) o' (symbol signs.Open) ∷ (inside ++ amount_marks (n + 1) a) in
      let ha = within_front limit all (close ∷ []) h.1.1 in
      let rest = tokens_of (amount_marks (n + 1) a) ++ close.token ∷ more in
      let list : tokens_of (inside ++ amount_marks (n + 1) a) ++ close.token ∷ more ≡ tokens_of inside ++ rest = tokens-append_more inside (amount_marks (n + 1) a) (close.token ∷ more) in
      rw (enclosed_reads limit n room holding o c all (instance_meant (held p o q x o' es c' a c)) more e h.1.0
      (λ less s.
      let first = enclosed_reads limit (n + 1) less arguments o' c' (arguments_marks (n + 1 + 1) es) (arguments_meant es) rest (omega (arith, e, s)) ha.1.0
      (λ fewer s'. r.read (n + 1 + 1) fewer (omega (arith, e, s, s')) (within_front limit (arguments_marks (n + 1 + 1) es) (close' ∷ []) (within_front limit inside (amount_marks (n + 1) a) ha.1.1)) st.0 c' rest) in
      let second = ra.read (n + 1) less (omega (arith, e, s)) (within_back limit inside (amount_marks (n + 1) a) ha.1.1) st.1 close.token more refl (omega arith) in
      rw (list, first, second) refl)) refl;
}

reads_unfolded : (limit : ℕ) (p : Place) (i : InstancePhrase) (q : Place) (w : Phrase) → ReadsInstance limit i → Reads limit w → Reads limit (unfolded p i q w)
unfolding unary_at unary_by unfolding_by behind_in
reads_unfolded limit p i q w ri r = tight limit (unfolded p i q w) refl (λ is. is) (λ n room e h st more ends.
    let m = mark (n + 1) q (word words.In) in
    let hi = within_front limit (instance_marks n i) (m ∷ marks (n + 1) w) h.1 in
    let hw = within_back limit (instance_marks n i) (m ∷ marks (n + 1) w) h.1 in
    let less = room - 1 in
    let s : room ≡ less + 1 = room_for limit n room (n + 1) e hw.0 refl in
    let here = m.token ∷ Toks (n + 1) w more in
    let list : tokens_of (instance_marks n i ++ m ∷ marks (n + 1) w) ++ more ≡ tokens_of (instance_marks n i) ++ here = tokens-append_more (instance_marks n i) (m ∷ marks (n + 1) w) more in
    let first = ri.read n room e hi st.0 here in
    let body : choice_at (below less) (Toks (n + 1) w more) ≡ Ok (meant w, more) = whole limit w r (n + 1) less (omega arith) hw.1 8 (omega arith) st.1 more ends in
    rw (list, first, nested_reads room less choice here (Toks (n + 1) w more) _ s body) refl)

mutual
  reads : (limit : ℕ) (w : Phrase) → Reads limit w
  reads limit (literal p b) = reads_literal limit p b
  reads limit (constant p c) = reads_constant limit p c
  reads limit (numeral p m) = reads_numeral limit p m
  reads limit (named p x) = reads_named limit p x
  reads limit (called p x o es c) = reads_called limit p x o es c (reads_arguments limit es)
  reads limit (dotted e p q f) = reads_dotted limit e p q f (reads limit e)
  reads limit (grouped p e q) = reads_grouped limit p e q (reads limit e)
  reads limit (past p o e c) = reads_past limit p o e c (reads limit e)
  reads limit (accessed p o e a c) = reads_accessed limit p o e a c (reads limit e) (reads_amount limit a)
  reads limit (prefixed p op e) = reads_prefixed limit p op e (reads limit e)
  reads limit (joined a p op b) = reads_joined limit a p op b (reads limit a) (reads limit b)
  reads limit (chosen c p a q b) = reads_chosen limit c p a q b (reads limit c) (reads limit a) (reads limit b)
  reads limit (unfolded p i q e) = reads_unfolded limit p i q e (reads_instance limit i) (reads limit e)

  reads_arguments : (limit : ℕ) (es : ArgumentsPhrase) → ReadsArguments limit es
  reads_arguments limit no_arguments = reads_no_arguments limit
  reads_arguments limit (arguments_from e es) = reads_arguments_from limit e es (reads limit e) (reads_further limit es)

  reads_further : (limit : ℕ) (es : FurtherPhrase) → ReadsFurther limit es
  reads_further limit nothing_further = reads_nothing_further limit
  reads_further limit (further p e es) = reads_some_further limit p e es (reads limit e) (reads_further limit es)

  reads_amount : (limit : ℕ) (a : AmountPhrase) → ReadsAmount limit a
  reads_amount limit no_amount = reads_no_amount limit
  reads_amount limit (amount p e) = reads_some_amount limit p e (reads limit e)

  reads_instance : (limit : ℕ) (i : InstancePhrase) → ReadsInstance limit i
  reads_instance limit (alone p x o es c) = reads_bare limit p x o es c (reads_arguments limit es)
  reads_instance limit (held p o q x o' es c' a c) = reads_held limit p o q x o' es c' a c (reads_arguments limit es) (reads_amount limit a)

-- what is spelled at a nesting count, within the limit, is read, whatever follows that does not go on with it
pub is_read : (limit n room : ℕ) (w : Phrase) (more : List Token) → n + room ≡ limit → Within limit (marks n w) → StandsAt 8 w → Ends 8 more → choice_at (below room) (Toks n w more) ≡ Ok (meant w, more)
is_read limit n room w more e h st ends = whole limit w (reads limit w) n room e h 8 (omega arith) st more ends

-- what a dot may stand behind, where none follows
pub primary_is_read : (limit n room : ℕ) (w : Phrase) (more : List Token) → n + room ≡ limit → Within limit (marks n w) → StandsAt 0 w → IsPrimary w → Ends 0 more → unary_at (below room) (Toks n w more) ≡ Ok (meant w, more)
primary_is_read limit n room w more e h st is ends = (reads limit w).primary is n room e h st more (ends_no_call more ends) ∙ dots_end (below (room - dots w)) (start_of w) (meant w) more ends

-- arguments between parentheses
pub arguments_are_read : (limit n room : ℕ) (o : Place) (es : ArgumentsPhrase) (c : Place) (more : List Token) → n + room ≡ limit → n + 1 ≤ limit → (let close = mark (n + 1) c (symbol signs.Close) in Within limit (arguments_marks (n + 1) es ++ close ∷ [])) → ArgumentsStand es
    → (let opened = mark (n + 1) o (symbol signs.Open) in let close = mark (n + 1) c (symbol signs.Close) in enclosed (below room) arguments (opened.token ∷ (tokens_of (arguments_marks (n + 1) es ++ close ∷ []) ++ more)) ≡ Ok (arguments_meant es, more))
arguments_are_read limit n room o es c more e le h st =
    let close = mark (n + 1) c (symbol signs.Close) in
    enclosed_reads limit n room arguments o c (arguments_marks (n + 1) es) (arguments_meant es) more e le (λ less s. (reads_arguments limit es).read (n + 1) less (omega (arith, e, s)) (within_front limit (arguments_marks (n + 1) es) (close ∷ []) h) st c more)

-- an instance that is spelled within the limit is read, whatever follows
pub instance_is_read : (limit n room : ℕ) (i : InstancePhrase) (more : List Token) → n + room ≡ limit → Within limit (instance_marks n i) → InstanceStands i → instance_at (below room) (tokens_of (instance_marks n i) ++ more) ≡ Ok (instance_meant i, more)
instance_is_read limit n room i more e h st = (reads_instance limit i).read n room e h st more
