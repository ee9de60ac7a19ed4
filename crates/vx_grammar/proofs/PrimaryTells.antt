-- What reading tells of what a dot may stand behind, of arguments and of amounts.
use Rattle.std.proofs.Common.{◌≡◌, ℕ, ◌+◌, ◌≤◌, List, [], ◌∷◌, ◌++◌, Option, Some, None, Bool, true, false, Ok, length, refl, sym, ap, subst, ◌∙◌, append_assoc, arith, cond}
use Rattle.std.proofs.lemmas.List.{append-nil}
use Rattle.vx_ast.specs.declared.Place.{Place}
use Rattle.vx_tokens.specs.declared.token.Word.TheVariants as words
use Rattle.vx_tokens.specs.declared.token.Symbol.TheVariants as signs
use Rattle.vx_tokens.specs.Tokens.{Token, Kind, name, number, word, symbol}
use Rattle.vx_ast.specs.Written.{Expr, Exprs, NoMore, More, Amount, All, Call, Old, Access}
use Rattle.vx_ast.specs.Written as written
use Rattle.vx_grammar.specs.Grammar.{null_word, write_word, none_word, result_word, Phrase, literal, constant, numeral, named, called, grouped, past, accessed, ArgumentsPhrase, no_arguments, arguments_from, FurtherPhrase, nothing_further, further, AmountPhrase, no_amount, amount, Mark, mark, marks, arguments_marks, further_marks, amount_marks, dots, meant, arguments_meant, further_meant, amount_meant, IsPrimary, StandsAt, ArgumentsStand, FurtherStand, AmountStands}
use Rattle.vx_grammar.specs.Reading.{◌>>=◌, Part, Given, choice, arguments, access, is_symbol, enclosed, call_by, named_by, old_by, access_by, primary_by, run, exprs_from, argument_turn, some_arguments, arguments_at, amount_by, amount_at, access_at, choice_at, part_at, below}
use Rattle.vx_grammar.proofs.Symbols.{is_symbol_true}
use Rattle.vx_grammar.proofs.Tells.{Grammar, Starts, Tells, somewhere, marks_is, tells_as, tells_here, tells_unexpected, tells_token}
use Rattle.vx_grammar.proofs.Sequence.{Sequence, Nothing, tells_sequence, starts_sequence, starts_nothing, tells_nothing}
use Rattle.vx_grammar.proofs.Steps.{Step, TurnFor, StepsBy, StepsFor, no_steps, run_tells}
use Rattle.vx_grammar.proofs.Bracketed.{Nested, Bracketed, bracket_tells, led_tells}
use Rattle.vx_grammar.proofs.PhraseFor.{PhraseFor, starts_any, tells_nested, count_down}

-- reading an expression tells so, at a room
abbrev pub ChoiceTells : (limit room : ℕ) → Type 0
ChoiceTells limit room = (n : ℕ) → n + room ≡ limit → (ts : List Token) → Tells (PhraseFor n 8) limit ts (choice_at (below room) ts)

-- ---- amounts

pub record AmountFor (n : ℕ) (a : Amount) (ms : List Mark) : Type 0 where
  pub phrase : AmountPhrase
  pub stands : AmountStands phrase
  pub means : amount_meant phrase ≡ a
  pub spelled : amount_marks n phrase ≡ ms

no_amount_for : (n : ℕ) → AmountFor n All []
no_amount_for n = record { phrase = no_amount; stands = tt; means = refl; spelled = refl }

pub starts_amount : (n : ℕ) → Starts (AmountFor n) []
starts_amount n = record { value = All; more = []; spelled = no_amount_for n }

abbrev AmountParts : ℕ → Grammar Amount
AmountParts n = Sequence (PhraseFor n 8) (λ e. Nothing (written.Part e))

amount_is : (n : ℕ) (t : Token) → t.kind ≡ symbol signs.Comma → (a : Amount) (ms : List Mark) → Nested (record { token = t; count = n }) (AmountParts n) a ms → AmountFor n a ms
amount_is n t k a ms h = by_parts h.inner h.is h.spelled
  where
    by_parts : (inner : List Mark) → (let m : Mark = record { token = t; count = n } in ms ≡ m ∷ inner) → AmountParts n a inner → AmountFor n a ms
    by_parts inner is (e, front, back, q, r, (v, z)) = record {
      phrase = amount t.place r.phrase;
      stands = r.stands;
      means = ap written.Part r.means ∙ sym v;
      spelled = marks_is t (symbol signs.Comma) n _ k ∙ ap (λ l. let m : Mark = record { token = t; count = n } in m ∷ l) (r.spelled ∙ sym (q ∙ rw z (append-nil front))) ∙ sym is;
    }

amount_by_tells : (limit n room : ℕ) (t : Token) (ts : List Token) (b : Bool) → is_symbol signs.Comma t.kind ≡ b → n + room ≡ limit → ChoiceTells limit room → Tells (AmountFor n) limit (t ∷ ts) (cond b (amount_by (below room) ts) (Ok (All, t ∷ ts)))
unfolding amount_by
amount_by_tells limit n room t ts true h e told =
    tells_as (Nested (record { token = t; count = n }) (AmountParts n)) (AmountFor n) limit (t ∷ ts) _ (amount_is n t (is_symbol_true signs.Comma t.kind h))
    (led_tells (AmountParts n) limit n t ts _ (omega (arith, e)) (tells_sequence (PhraseFor n 8) _ limit ts (choice_at (below room) ts) _ (λ x. starts_nothing _) (told n e ts) (λ x us. tells_nothing limit us _)))
amount_by_tells limit n room t ts false h e told = tells_here (AmountFor n) limit (t ∷ ts) All (no_amount_for n)

pub amount_tells : (limit n room : ℕ) (ts : List Token) → n + room ≡ limit → ChoiceTells limit room → Tells (AmountFor n) limit ts (amount_at (below room) ts)
unfolding amount_at
amount_tells limit n room [] e told = tells_here (AmountFor n) limit [] All (no_amount_for n)
amount_tells limit n room (t ∷ ts) e told = amount_by_tells limit n room t ts (is_symbol signs.Comma t.kind) refl e told

-- what `acc` holds, and how much of it
abbrev AccessFor : ℕ → Grammar (Expr × Amount)
AccessFor n = Sequence (PhraseFor n 8) (λ e. Sequence (AmountFor n) (λ a. Nothing (e, a)))

access_tells : (limit n room : ℕ) (ts : List Token) → n + room ≡ limit → ChoiceTells limit room → Tells (AccessFor n) limit ts (access_at (below room) ts)
unfolding access_at
access_tells limit n room ts e told =
    tells_sequence (PhraseFor n 8) _ limit ts (choice_at (below room) ts) _ (λ x. starts_sequence (AmountFor n) _ (starts_amount n) (λ a. starts_nothing _)) (told n e ts)
    (λ x us. tells_sequence (AmountFor n) _ limit us (amount_at (below room) us) _ (λ a. starts_nothing _) (amount_tells limit n room us e told)
    (λ a vs. tells_nothing limit vs _))

starts_access : (n : ℕ) → Starts (AccessFor n) []
starts_access n = starts_sequence (PhraseFor n 8) _ (starts_any n 8) (λ x. starts_sequence (AmountFor n) _ (starts_amount n) (λ a. starts_nothing _))

-- ---- arguments

abbrev ArgumentStep : ℕ → Step (List Expr)
ArgumentStep n before after ms = (p : Place) × (w : Phrase) × StandsAt 8 w × (after ≡ before ++ meant w ∷ []) × (ms ≡ mark n p (symbol signs.Comma) ∷ marks n w)

abbrev NextParts : ℕ → List Expr → Grammar (Option (List Expr))
NextParts n before = Sequence (PhraseFor n 8) (λ e. Nothing (Some (before ++ e ∷ [])))

next_of : (n : ℕ) (before : List Expr) (t : Token) → t.kind ≡ symbol signs.Comma → (o : Option (List Expr)) (ms : List Mark) → Nested (record { token = t; count = n }) (NextParts n before) o ms → TurnFor (ArgumentStep n) before o ms
next_of n before t k o ms h = by_parts h.inner h.is h.spelled
  where
    by_parts : (inner : List Mark) → (let m : Mark = record { token = t; count = n } in ms ≡ m ∷ inner) → NextParts n before o inner → TurnFor (ArgumentStep n) before o ms
    by_parts inner is (e, a, b, q, r, (v, z)) =
        subst (λ x. TurnFor (ArgumentStep n) before x ms) (sym v)
        (t.place, r.phrase, r.stands, ap (λ x. before ++ x ∷ []) (sym r.means), is ∙ ap (λ l. let m : Mark = record { token = t; count = n } in m ∷ l) (q ∙ rw z (append-nil a) ∙ sym r.spelled) ∙ sym (marks_is t (symbol signs.Comma) n _ k))

turn_by_tells : (limit n room : ℕ) (before : List Expr) (t : Token) (ts : List Token) (b : Bool) → is_symbol signs.Comma t.kind ≡ b → n + room ≡ limit → ChoiceTells limit room
    → Tells (TurnFor (ArgumentStep n) before) limit (t ∷ ts) (cond b (choice_at (below room) ts >>= λ e. Ok (Some (before ++ e.0 ∷ []), e.1)) (Ok (None, t ∷ ts)))
turn_by_tells limit n room before t ts true h e told =
    tells_as (Nested (record { token = t; count = n }) (NextParts n before)) (TurnFor (ArgumentStep n) before) limit (t ∷ ts) _ (next_of n before t (is_symbol_true signs.Comma t.kind h))
    (led_tells (NextParts n before) limit n t ts _ (omega (arith, e)) (tells_sequence (PhraseFor n 8) _ limit ts (choice_at (below room) ts) _ (λ x. starts_nothing _) (told n e ts) (λ x us. tells_nothing limit us _)))
turn_by_tells limit n room before t ts false h e told = tells_here (TurnFor (ArgumentStep n) before) limit (t ∷ ts) None refl

pub argument_turn_tells : (limit n room : ℕ) → n + room ≡ limit → ChoiceTells limit room → (before : List Expr) (ts : List Token) → Tells (TurnFor (ArgumentStep n) before) limit ts (argument_turn (below room) before ts)
unfolding argument_turn
argument_turn_tells limit n room e told before [] = tells_here (TurnFor (ArgumentStep n) before) limit [] None refl
argument_turn_tells limit n room e told before (t ∷ ts) = turn_by_tells limit n room before t ts (is_symbol signs.Comma t.kind) refl e told

-- the steps are arguments behind a first one
further_list : FurtherPhrase → List Expr
further_list nothing_further = []
further_list (further p e es) = meant e ∷ further_list es

further_same : (es : FurtherPhrase) → exprs_from (further_list es) ≡ further_meant es
unfolding further_list
further_same nothing_further = refl
further_same (further p e es) = ap (More (meant e)) (further_same es)

record FurtherFor (n : ℕ) (before after : List Expr) (ms : List Mark) : Type 0 where
  phrase : FurtherPhrase
  stands : FurtherStand phrase
  means : before ++ further_list phrase ≡ after
  spelled : further_marks n phrase ≡ ms

further_steps : (n : ℕ) (path : List (List Expr)) (before after : List Expr) (ms : List Mark) → StepsBy (ArgumentStep n) path before after ms → FurtherFor n before after ms
unfolding further_list
further_steps n [] before after ms (e, z) = record { phrase = nothing_further; stands = tt; means = append-nil before ∙ e; spelled = sym z }
further_steps n (m ∷ path) before after ms (a, b, q, (p, w, st, v, z), h) =
    let r = further_steps n path m after b h in
    record {
      phrase = further p w r.phrase;
      stands = (st, r.stands);
      means = sym (append_assoc before (meant w ∷ []) (further_list r.phrase)) ∙ ap (λ l. l ++ further_list r.phrase) (sym v) ∙ r.means;
      spelled = ap (λ l. mark n p (symbol signs.Comma) ∷ (marks n w ++ l)) r.spelled ∙ sym (q ∙ ap (λ l. l ++ b) z);
    }

pub record ArgumentsFor (n : ℕ) (es : Exprs) (ms : List Mark) : Type 0 where
  pub phrase : ArgumentsPhrase
  pub stands : ArgumentsStand phrase
  pub means : arguments_meant phrase ≡ es
  pub spelled : arguments_marks n phrase ≡ ms

no_arguments_for : (n : ℕ) → ArgumentsFor n NoMore []
no_arguments_for n = record { phrase = no_arguments; stands = tt; means = refl; spelled = refl }

pub starts_arguments : (n : ℕ) → Starts (ArgumentsFor n) []
starts_arguments n = record { value = NoMore; more = []; spelled = no_arguments_for n }

abbrev SomeParts : ℕ → Grammar Exprs
SomeParts n = Sequence (PhraseFor n 8) (λ e. Sequence (StepsFor (ArgumentStep n) (e ∷ [])) (λ es. Nothing (exprs_from es)))

some_of : (n : ℕ) (es : Exprs) (ms : List Mark) → SomeParts n es ms → ArgumentsFor n es ms
unfolding further_list
some_of n es ms (e, a, b, q, r, (all, c, d, q', (path, h), (v, z))) =
    let l = further_steps n path (e ∷ []) all c h in
    record {
      phrase = arguments_from r.phrase l.phrase;
      stands = (r.stands, l.stands);
      means = ap (λ x. More x (further_meant l.phrase)) r.means ∙ ap (More e) (sym (further_same l.phrase)) ∙ ap exprs_from l.means ∙ sym v;
      spelled = ap (λ x. x ++ further_marks n l.phrase) r.spelled ∙ ap (λ x. a ++ x) (l.spelled ∙ sym (q' ∙ rw z (append-nil c))) ∙ sym q;
    }

some_tells : (limit n room : ℕ) (ts : List Token) → n + room ≡ limit → ChoiceTells limit room → Tells (ArgumentsFor n) limit ts (some_arguments (below room) ts)
unfolding some_arguments
some_tells limit n room ts e told =
    tells_as (SomeParts n) (ArgumentsFor n) limit ts _ (some_of n)
    (tells_sequence (PhraseFor n 8) _ limit ts (choice_at (below room) ts) _ (λ x. starts_sequence (StepsFor (ArgumentStep n) (x ∷ [])) _ (record { value = x ∷ []; more = []; spelled = no_steps (ArgumentStep n) (x ∷ []) }) (λ es. starts_nothing _)) (told n e ts)
    (λ x us. tells_sequence (StepsFor (ArgumentStep n) (x ∷ [])) _ limit us (run (argument_turn (below room)) (length us) (x ∷ []) us) _ (λ es. starts_nothing _)
    (run_tells (ArgumentStep n) limit (argument_turn (below room)) (argument_turn_tells limit n room e told) (length us) (x ∷ []) us) (λ es vs. tells_nothing limit vs _)))

arguments_by_tells : (limit n room : ℕ) (t : Token) (ts : List Token) (b : Bool) → n + room ≡ limit → ChoiceTells limit room → Tells (ArgumentsFor n) limit (t ∷ ts) (cond b (Ok (NoMore, t ∷ ts)) (some_arguments (below room) (t ∷ ts)))
arguments_by_tells limit n room t ts true e told = tells_here (ArgumentsFor n) limit (t ∷ ts) NoMore (no_arguments_for n)
arguments_by_tells limit n room t ts false e told = some_tells limit n room (t ∷ ts) e told

pub arguments_tells : (limit n room : ℕ) (ts : List Token) → n + room ≡ limit → ChoiceTells limit room → Tells (ArgumentsFor n) limit ts (arguments_at (below room) ts)
unfolding arguments_at
arguments_tells limit n room [] e told = tells_unexpected (ArgumentsFor n) limit [] (starts_arguments n)
arguments_tells limit n room (t ∷ ts) e told = arguments_by_tells limit n room t ts (is_symbol signs.Close t.kind) e told

-- ---- what stands between parentheses

pub enclosed_tells : (p : Part) (R : Grammar (Given p)) (limit n room : ℕ) (ts : List Token) → n + room ≡ limit → Starts R [] → ((less : ℕ) → room ≡ less + 1 → (us : List Token) → Tells R limit us (part_at (below less) p us)) → Tells (Bracketed n signs.Open signs.Close R) limit ts (enclosed (below room) p ts)
unfolding enclosed
enclosed_tells p R limit n room ts e s h = bracket_tells signs.Open signs.Close R (below room p) limit n s (λ t us. tells_nested p R limit n room t us e s (λ less q. h less q us)) ts

-- ---- what a dot may stand behind

pub record PrimaryFor (n : ℕ) (e : Expr) (ms : List Mark) : Type 0 where
  pub phrase : Phrase
  pub is : IsPrimary phrase
  pub undotted : dots phrase ≡ 0
  pub stands : StandsAt 0 phrase
  pub means : meant phrase ≡ e
  pub spelled : marks n phrase ≡ ms

starts_primary : (n : ℕ) → Starts (PrimaryFor n) []
starts_primary n =
    let w = literal somewhere true in
    record { value = meant w; more = marks n w; spelled = record { phrase = w; is = tt; undotted = refl; stands = tt; means = refl; spelled = refl } }

leaf_tells : (limit n : ℕ) (t : Token) (ts : List Token) (k : Kind) (w : Phrase) → n ≤ limit → t.kind ≡ k → IsPrimary w → dots w ≡ 0 → StandsAt 0 w → marks n w ≡ mark n t.place k ∷ [] → Tells (PrimaryFor n) limit (t ∷ ts) (Ok (meant w, ts))
leaf_tells limit n t ts k w le e is zero_dots st ms = tells_token (PrimaryFor n) limit (record { token = t; count = n }) ts (meant w) le (record { phrase = w; is = is; undotted = zero_dots; stands = st; means = refl; spelled = ms ∙ marks_is t k n [] e })

-- a token, a part between parentheses, and what is made of it
made_of : {A : Type 0} (S : Grammar A) (p : Part) (n : ℕ) (R : Grammar (Given p)) (t : Token) (f : Given p → A) → ((y : Given p) (inner : List Mark) → Bracketed n signs.Open signs.Close R y inner → (let m : Mark = record { token = t; count = n } in S (f y) (m ∷ inner)))
    → (e : A) (ms : List Mark) → Nested (record { token = t; count = n }) (Sequence (Bracketed n signs.Open signs.Close R) (λ y. Nothing (f y))) e ms → S e ms
made_of S p n R t f build e ms h = by_parts h.inner h.is h.spelled
  where
    by_parts : (inner : List Mark) → (let m : Mark = record { token = t; count = n } in ms ≡ m ∷ inner) → Sequence (Bracketed n signs.Open signs.Close R) (λ y. Nothing (f y)) e inner → S e ms
    by_parts inner is (y, a, b, q, r, (v, z)) =
        let same : inner ≡ a = q ∙ rw z (append-nil a) in
        subst (λ l. S e l) (sym (is ∙ ap (λ l. let m : Mark = record { token = t; count = n } in m ∷ l) same)) (subst (λ x. let m : Mark = record { token = t; count = n } in S x (m ∷ a)) (sym v) (build y a r))

pub made_tells : {A : Type 0} (S : Grammar A) (p : Part) (R : Grammar (Given p)) (limit n room : ℕ) (t : Token) (ts : List Token) (f : Given p → A) → n + room ≡ limit → Starts R [] → ((less : ℕ) → room ≡ less + 1 → (us : List Token) → Tells R limit us (part_at (below less) p us))
    → ((y : Given p) (inner : List Mark) → Bracketed n signs.Open signs.Close R y inner → (let m : Mark = record { token = t; count = n } in S (f y) (m ∷ inner)))
    → Tells S limit (t ∷ ts) (enclosed (below room) p ts >>= λ y. Ok (f y.0, y.1))
made_tells S p R limit n room t ts f e s h build =
    tells_as (Nested (record { token = t; count = n }) (Sequence (Bracketed n signs.Open signs.Close R) (λ y. Nothing (f y)))) S limit (t ∷ ts) _ (made_of S p n R t f build)
    (led_tells (Sequence (Bracketed n signs.Open signs.Close R) (λ y. Nothing (f y))) limit n t ts _ (omega (arith, e))
    (tells_sequence (Bracketed n signs.Open signs.Close R) _ limit ts (enclosed (below room) p ts) _ (λ y. starts_nothing _) (enclosed_tells p R limit n room ts e s h) (λ y us. tells_nothing limit us _)))

abbrev pub ToldInside : (limit room : ℕ) → Type 0
ToldInside limit room = (less : ℕ) → room ≡ less + 1 → ChoiceTells limit less

call_tells : (limit n room : ℕ) (t : Token) (x : List ℕ) (ts : List Token) → n + room ≡ limit → ToldInside limit room → t.kind ≡ name x → Tells (PrimaryFor n) limit (t ∷ ts) (call_by (below room) t x ts)
unfolding call_by
call_tells limit n room t x ts e told k =
    made_tells (PrimaryFor n) arguments (ArgumentsFor (n + 1)) limit n room t ts (Call t.place x) e (starts_arguments (n + 1)) (λ less s us. arguments_tells limit (n + 1) less us (count_down limit n room less e s) (told less s))
    (λ y inner b. record {
      phrase = called t.place x b.from b.spelled.phrase b.to;
      is = tt;
      undotted = refl;
      stands = b.spelled.stands;
      means = ap (Call t.place x) b.spelled.means;
      spelled = marks_is t (name x) n _ k ∙ ap (λ l. let m : Mark = record { token = t; count = n } in m ∷ mark (n + 1) b.from (symbol signs.Open) ∷ (l ++ mark (n + 1) b.to (symbol signs.Close) ∷ [])) b.spelled.spelled ∙ ap (λ l. let m : Mark = record { token = t; count = n } in m ∷ l) (sym b.is);
    })

named_by_tells : (limit n room : ℕ) (t : Token) (x : List ℕ) (u : Token) (us : List Token) (b : Bool) → n + room ≡ limit → ToldInside limit room → t.kind ≡ name x → Tells (PrimaryFor n) limit (t ∷ u ∷ us) (cond b (call_by (below room) t x (u ∷ us)) (Ok (written.Variable t.place x, u ∷ us)))
named_by_tells limit n room t x u us true e told k = call_tells limit n room t x (u ∷ us) e told k
named_by_tells limit n room t x u us false e told k = leaf_tells limit n t (u ∷ us) (name x) (named t.place x) (omega (arith, e)) k tt refl tt refl

named_tells : (limit n room : ℕ) (t : Token) (x : List ℕ) (ts : List Token) → n + room ≡ limit → ToldInside limit room → t.kind ≡ name x → Tells (PrimaryFor n) limit (t ∷ ts) (named_by (below room) t x ts)
unfolding named_by
named_tells limit n room t x [] e told k = leaf_tells limit n t [] (name x) (named t.place x) (omega (arith, e)) k tt refl tt refl
named_tells limit n room t x (u ∷ us) e told k = named_by_tells limit n room t x u us (is_symbol signs.Open u.kind) e told k

old_tells : (limit n room : ℕ) (t : Token) (ts : List Token) → n + room ≡ limit → ToldInside limit room → t.kind ≡ word words.Old → Tells (PrimaryFor n) limit (t ∷ ts) (old_by (below room) t ts)
unfolding old_by
old_tells limit n room t ts e told k =
    made_tells (PrimaryFor n) choice (PhraseFor (n + 1) 8) limit n room t ts (Old t.place) e (starts_any (n + 1) 8) (λ less s us. told less s (n + 1) (count_down limit n room less e s) us)
    (λ y inner b. record {
      phrase = past t.place b.from b.spelled.phrase b.to;
      is = tt;
      undotted = refl;
      stands = b.spelled.stands;
      means = ap (Old t.place) b.spelled.means;
      spelled = marks_is t (word words.Old) n _ k ∙ ap (λ l. let m : Mark = record { token = t; count = n } in m ∷ mark (n + 1) b.from (symbol signs.Open) ∷ (l ++ mark (n + 1) b.to (symbol signs.Close) ∷ [])) b.spelled.spelled ∙ ap (λ l. let m : Mark = record { token = t; count = n } in m ∷ l) (sym b.is);
    })

accessed_for : (n : ℕ) (t : Token) → t.kind ≡ word words.Acc → (y : Expr × Amount) (inner : List Mark) → Bracketed n signs.Open signs.Close (AccessFor (n + 1)) y inner → (let m : Mark = record { token = t; count = n } in PrimaryFor n (Access t.place y.0 y.1) (m ∷ inner))
accessed_for n t k y inner b = by_parts b.from b.to b.inner b.is b.spelled
  where
    by_parts : (o c : Place) (ms : List Mark) → inner ≡ mark (n + 1) o (symbol signs.Open) ∷ (ms ++ mark (n + 1) c (symbol signs.Close) ∷ []) → AccessFor (n + 1) y ms → (let m : Mark = record { token = t; count = n } in PrimaryFor n (Access t.place y.0 y.1) (m ∷ inner))
    by_parts o c ms is (e, f, g, q, r, (a, f', g', q', ra, (v, z))) =
        let both : marks (n + 1) r.phrase ++ amount_marks (n + 1) ra.phrase ≡ ms = ap (λ l. l ++ amount_marks (n + 1) ra.phrase) r.spelled ∙ ap (λ l. f ++ l) (ra.spelled ∙ sym (q' ∙ rw z (append-nil f'))) ∙ sym q in
        record {
          phrase = accessed t.place o r.phrase ra.phrase c;
          is = tt;
          undotted = refl;
          stands = (r.stands, ra.stands);
          means = ap (λ x. Access t.place x (amount_meant ra.phrase)) r.means ∙ ap (Access t.place e) ra.means ∙ ap (λ (x : Expr × Amount). Access t.place x.0 x.1) (sym v);
          spelled = marks_is t (word words.Acc) n _ k ∙ ap (λ l. let m : Mark = record { token = t; count = n } in m ∷ mark (n + 1) o (symbol signs.Open) ∷ (l ++ mark (n + 1) c (symbol signs.Close) ∷ [])) both ∙ ap (λ l. let m : Mark = record { token = t; count = n } in m ∷ l) (sym is);
        }

access_by_tells : (limit n room : ℕ) (t : Token) (ts : List Token) → n + room ≡ limit → ToldInside limit room → t.kind ≡ word words.Acc → Tells (PrimaryFor n) limit (t ∷ ts) (access_by (below room) t ts)
unfolding access_by
access_by_tells limit n room t ts e told k =
    made_tells (PrimaryFor n) access (AccessFor (n + 1)) limit n room t ts (λ y. Access t.place y.0 y.1) e (starts_access (n + 1)) (λ less s us. access_tells limit (n + 1) less us (count_down limit n room less e s) (told less s)) (accessed_for n t k)

grouped_tells : (limit n room : ℕ) (ts : List Token) → n + room ≡ limit → ToldInside limit room → Tells (PrimaryFor n) limit ts (enclosed (below room) choice ts)
grouped_tells limit n room ts e told =
    tells_as (Bracketed n signs.Open signs.Close (PhraseFor (n + 1) 8)) (PrimaryFor n) limit ts _
    (λ y ms b. record {
      phrase = grouped b.from b.spelled.phrase b.to;
      is = tt;
      undotted = refl;
      stands = b.spelled.stands;
      means = b.spelled.means;
      spelled = ap (λ l. mark (n + 1) b.from (symbol signs.Open) ∷ (l ++ mark (n + 1) b.to (symbol signs.Close) ∷ [])) b.spelled.spelled ∙ sym b.is;
    })
    (enclosed_tells choice (PhraseFor (n + 1) 8) limit n room ts e (starts_any (n + 1) 8) (λ less s us. told less s (n + 1) (count_down limit n room less e s) us))

pub primary_tells : (limit n room : ℕ) (t : Token) (k : Kind) (ts : List Token) → n + room ≡ limit → ToldInside limit room → t.kind ≡ k → Tells (PrimaryFor n) limit (t ∷ ts) (primary_by (below room) t k ts)
unfolding primary_by
primary_tells limit n room t (name x) ts e told k = named_tells limit n room t x ts e told k
primary_tells limit n room t (number x) ts e told k = leaf_tells limit n t ts (number x) (numeral t.place x) (omega (arith, e)) k tt refl tt refl
primary_tells limit n room t (word words.True) ts e told k = leaf_tells limit n t ts (word words.True) (literal t.place true) (omega (arith, e)) k tt refl tt refl
primary_tells limit n room t (word words.False) ts e told k = leaf_tells limit n t ts (word words.False) (literal t.place false) (omega (arith, e)) k tt refl tt refl
primary_tells limit n room t (word words.Null) ts e told k = leaf_tells limit n t ts (word words.Null) (constant t.place null_word) (omega (arith, e)) k tt refl tt refl
primary_tells limit n room t (word words.Write) ts e told k = leaf_tells limit n t ts (word words.Write) (constant t.place write_word) (omega (arith, e)) k tt refl tt refl
primary_tells limit n room t (word words.Nothing) ts e told k = leaf_tells limit n t ts (word words.Nothing) (constant t.place none_word) (omega (arith, e)) k tt refl tt refl
primary_tells limit n room t (word words.Outcome) ts e told k = leaf_tells limit n t ts (word words.Outcome) (constant t.place result_word) (omega (arith, e)) k tt refl tt refl
primary_tells limit n room t (word words.Old) ts e told k = old_tells limit n room t ts e told k
primary_tells limit n room t (word words.Acc) ts e told k = access_by_tells limit n room t ts e told k
primary_tells limit n room t (symbol signs.Open) ts e told k = grouped_tells limit n room (t ∷ ts) e told
primary_tells limit n room t k ts e told h = tells_unexpected (PrimaryFor n) limit (t ∷ ts) (starts_primary n)
