-- What reading right sides, and statements that begin with a name, tells.
use Rattle.std.proofs.Common.{◌≡◌, ℕ, ◌+◌, List, [], ◌∷◌, ◌++◌, Bool, true, false, Ok, Err, length, refl, sym, ap, subst, ◌∙◌, arith, cond, inl, inr}
use Rattle.std.proofs.lemmas.List.{append-nil}
use Rattle.vx_ast.specs.declared.Place.{Place}
use Rattle.vx_ast.specs.Written.{Placed, placed, Expr, NoMore, Right, Value, Stmt, Assign, Write, Invoke}
use Rattle.vx_tokens.specs.declared.token.Word.TheVariants as words
use Rattle.vx_tokens.specs.declared.token.Symbol.TheVariants as signs
use Rattle.vx_tokens.specs.Tokens.{Token, Kind, name, word, symbol}
use Rattle.vx_grammar.specs.Grammar.{Phrase, literal, constant, numeral, named, called, dotted, grouped, past, accessed, prefixed, joined, chosen, unfolded, literal_word, dots, level_of, Mark, mark, marks, tokens_of, start_of, meant, StandsAt, arguments_meant}
use Rattle.vx_grammar.specs.Statements.{NamesPhrase, no_names, next_name, RightPhrase, given, allocated, names_meant, right_meant, RightStands, names_marks, right_marks, IsPath, assigned, stored, invoked, targeted}
use Rattle.vx_grammar.specs.Reading.{Read, Unexpected, Measured, TooDeep, expect, run, name_at, name_turn, arguments, allocation, enclosed, postfix_by, choice_at, below}
use Rattle.vx_grammar.specs.StmtReading.{begins_new, value_at, right_at, assign_one, invoke_at, assigned_by, assign_at, store_at, by_target, target_at}
use Rattle.vx_grammar.proofs.Lists.{tokens-append_more, chain_or_implies}
use Rattle.vx_grammar.proofs.Tells.{Grammar, Starts, Tells, After, GoesOn, Sign, starts_sign, somewhere, marks_is, NameFor, starts_name, name_tells, tells_then, tells_as, tells_here, tells_unexpected, tells_expect}
use Rattle.vx_grammar.proofs.Sequence.{Sequence, Nothing, tells_sequence, starts_sequence, starts_nothing, tells_nothing}
use Rattle.vx_grammar.proofs.Steps.{StepsFor, run_tells}
use Rattle.vx_grammar.proofs.Bracketed.{Nested, Bracketed, starts_bracketed, led_tells}
use Rattle.vx_grammar.proofs.PhraseFor.{PhraseFor, starts_any, count_down, behind_phrase}
use Rattle.vx_grammar.proofs.PrimaryTells.{ArgumentsFor, starts_arguments, arguments_tells, enclosed_tells}
use Rattle.vx_grammar.proofs.Means.{reading_tells, operand_tells}
use Rattle.vx_grammar.proofs.NamesTold.{NameStep, name_turn_tells, names_steps, FieldsFor, starts_fields, allocation_tells}
use Rattle.vx_grammar.proofs.StmtFor.{StmtFor}

-- ---- right sides

pub record RightFor (n : ℕ) (r : Right) (ms : List Mark) : Type 0 where
  pub phrase : RightPhrase
  pub stands : RightStands phrase
  pub means : right_meant phrase ≡ r
  pub spelled : right_marks n phrase ≡ ms

pub starts_right : (n : ℕ) → Starts (RightFor n) []
starts_right n =
    let w = given (literal somewhere true) in
    record { value = right_meant w; more = right_marks n w; spelled = record { phrase = w; stands = tt; means = refl; spelled = refl } }

value_is : (n : ℕ) (r : Right) (ms : List Mark) → Sequence (PhraseFor n 8) (λ e. Nothing (Value e)) r ms → RightFor n r ms
value_is n r ms (e, a, b, q, h, (v, z)) = record {
  phrase = given h.phrase;
  stands = h.stands;
  means = ap Value h.means ∙ sym v;
  spelled = h.spelled ∙ sym (q ∙ rw z (append-nil a));
}

allocated_is : (n : ℕ) (t : Token) → t.kind ≡ word words.New → (r : Right) (ms : List Mark) → Nested (record { token = t; count = n }) (Bracketed n signs.Open signs.Close (FieldsFor t.place (n + 1))) r ms → RightFor n r ms
allocated_is n t k r ms h =
    let b = h.spelled in
    record {
      phrase = allocated t.place b.from b.spelled.phrase b.to;
      stands = tt;
      means = b.spelled.means;
      spelled = marks_is t (word words.New) n _ k ∙ ap (λ l. let m : Mark = record { token = t; count = n } in m ∷ mark (n + 1) b.from (symbol signs.Open) ∷ (l ++ mark (n + 1) b.to (symbol signs.Close) ∷ [])) b.spelled.spelled ∙ ap (λ l. let m : Mark = record { token = t; count = n } in m ∷ l) (sym b.is) ∙ sym h.is;
    }

new_word : (k : Kind) → begins_new k ≡ true → k ≡ word words.New
new_word (word words.New) h = refl
new_word k h = absurd cc

right_by_tells : (limit n room : ℕ) (t : Token) (ts : List Token) (b : Bool) → begins_new t.kind ≡ b → n + room ≡ limit → Tells (RightFor n) limit (t ∷ ts) (cond b (enclosed (below room) (allocation t.place) ts) (value_at room (t ∷ ts)))
unfolding value_at
right_by_tells limit n room t ts true h e =
    tells_as (Nested (record { token = t; count = n }) (Bracketed n signs.Open signs.Close (FieldsFor t.place (n + 1)))) (RightFor n) limit (t ∷ ts) _ (allocated_is n t (new_word t.kind h))
    (led_tells (Bracketed n signs.Open signs.Close (FieldsFor t.place (n + 1))) limit n t ts _ (omega (arith, e))
    (enclosed_tells (allocation t.place) (FieldsFor t.place (n + 1)) limit n room ts e (starts_fields t.place (n + 1)) (λ less s us. allocation_tells t.place limit (n + 1) us (omega (arith, e, s)))))
right_by_tells limit n room t ts false h e =
    tells_as (Sequence (PhraseFor n 8) (λ x. Nothing (Value x))) (RightFor n) limit (t ∷ ts) _ (value_is n)
    (tells_sequence (PhraseFor n 8) _ limit (t ∷ ts) (choice_at (below room) (t ∷ ts)) _ (λ x. starts_nothing _) (reading_tells limit n room (t ∷ ts) e) (λ x us. tells_nothing limit us _))

pub right_tells : (limit n room : ℕ) (ts : List Token) → n + room ≡ limit → Tells (RightFor n) limit ts (right_at room ts)
unfolding right_at
right_tells limit n room [] e = tells_unexpected (RightFor n) limit [] (starts_right n)
right_tells limit n room (t ∷ ts) e = right_by_tells limit n room t ts (begins_new t.kind) refl e

-- ---- paths

pub record PathFor (n : ℕ) (e : Expr) (ms : List Mark) : Type 0 where
  pub phrase : Phrase
  pub is : IsPath phrase
  pub stands : StandsAt 0 phrase
  pub means : meant phrase ≡ e
  pub spelled : marks n phrase ≡ ms

not_name : (first : Token) (rest us : List Token) (t : Token) (x : List ℕ) → t ∷ us ≡ first ∷ rest → first.kind ≡ name x → t.kind ≡ name x
not_name first rest us t x e k = let one : t ≡ first = cc in ap (λ (u : Token). u.kind) one ∙ k

literal_no_name : (b : Bool) (x : List ℕ) → word (literal_word b) ≡ name x → ⊥
literal_no_name b x h = absurd cc

-- a phrase of an operand that begins with a name
is_path : (w : Phrase) (n : ℕ) (more : List Token) (first : Token) (rest : List Token) (x : List ℕ) → tokens_of (marks n w) ++ more ≡ first ∷ rest → first.kind ≡ name x → StandsAt 0 w → IsPath w
is_path (named p y) n more first rest x e k st = tt
is_path (called p y o es c) n more first rest x e k st = tt
is_path (dotted w p q f) n more first rest x e k st =
    let deep = n + dots w + 1 in
    let behind = mark deep p (symbol signs.Dot) ∷ mark deep q (name f) ∷ [] in
    is_path w n (tokens_of behind ++ more) first rest x (sym (tokens-append_more (marks n w) behind more) ∙ e) k st.1
is_path (literal p b) n more first rest x e k st = let h = not_name first rest more _ x e k in absurd cc
is_path (constant p c) n more first rest x e k st = let h = not_name first rest more _ x e k in absurd cc
is_path (numeral p m) n more first rest x e k st = let h = not_name first rest more _ x e k in absurd cc
is_path (grouped p w q) n more first rest x e k st = let h = not_name first rest _ _ x e k in absurd cc
is_path (past p o w c) n more first rest x e k st = let h = not_name first rest _ _ x e k in absurd cc
is_path (accessed p o w a c) n more first rest x e k st = let h = not_name first rest _ _ x e k in absurd cc
is_path (prefixed p op w) n more first rest x e k st = let h = not_name first rest _ _ x e k in absurd cc
is_path (unfolded p i q w) n more first rest x e k st = let h = not_name first rest _ _ x e k in absurd cc
is_path (joined a p op b) n more first rest x e k st = elim (chain_or_implies op) [
  | inl c ↦ absurd (omega (arith, c.1.level, st.0))
  | inr i ↦ let l : level_of op ≡ 7 = ap level_of i in absurd (omega (arith, l, st.0))
]
is_path (chosen c p a q b) n more first rest x e k st = absurd (omega (arith, st.0))

as_path : (n : ℕ) (t : Token) (ts : List Token) (x : List ℕ) (e : Expr) (ms : List Mark) (rest : List Token) → t.kind ≡ name x → t ∷ ts ≡ tokens_of ms ++ rest → PhraseFor n 0 e ms → PathFor n e ms
as_path n t ts x e ms rest k takes r = record {
  phrase = r.phrase;
  is = is_path r.phrase n rest t ts x (ap (λ l. tokens_of l ++ rest) r.spelled ∙ sym takes) k r.stands;
  stands = r.stands;
  means = r.means;
  spelled = r.spelled;
}

starts_path : (n : ℕ) → Starts (PathFor n) []
starts_path n = record { value = _; more = _; spelled = record { phrase = named somewhere []; is = tt; stands = tt; means = refl; spelled = refl } }

-- where the first token is a name, whatever the marks begin with is a path
path_from : (n : ℕ) (m : Mark) (ms : List Mark) (x : List ℕ) → m.token.kind ≡ name x → Starts (PhraseFor n 0) (m ∷ ms) → Starts (PathFor n) (m ∷ ms)
path_from n m ms x k s =
    let more = s.more in
    record {
      value = s.value;
      more = more;
      spelled = as_path n m.token (tokens_of (ms ++ more)) x s.value (m ∷ (ms ++ more)) [] k (ap (λ l. m.token ∷ l) (sym (append-nil (tokens_of (ms ++ more))))) s.spelled;
    }

path_starts : (n : ℕ) (t : Token) (ts : List Token) (x : List ℕ) (ms : List Mark) (rest : List Token) → t.kind ≡ name x → t ∷ ts ≡ tokens_of ms ++ rest → Starts (PhraseFor n 0) ms → Starts (PathFor n) ms
path_starts n t ts x [] rest k takes s = starts_path n
path_starts n t ts x (m ∷ ms) rest k takes s =
    let one : t ≡ m.token = cc in
    path_from n m ms x (ap (λ (u : Token). u.kind) (sym one) ∙ k) s

path_measured : (n : ℕ) (t : Token) (ts : List Token) (x : List ℕ) (ms : List Mark) (next : Mark) (measure : Token) (after : List Token) → t.kind ≡ name x → measure.kind ≡ word words.Decreases → t ∷ ts ≡ tokens_of ms ++ measure ∷ after → Starts (PhraseFor n 0) (ms ++ next ∷ []) → Starts (PathFor n) (ms ++ next ∷ [])
path_measured n t ts x [] next measure after k d takes s =
    let one : t ≡ measure = cc in
    let both : name x ≡ word words.Decreases = sym k ∙ ap (λ (u : Token). u.kind) one ∙ d in
    absurd cc
path_measured n t ts x (m ∷ ms) next measure after k d takes s =
    let one : t ≡ m.token = cc in
    path_from n m (ms ++ next ∷ []) x (ap (λ (u : Token). u.kind) (sym one) ∙ k) s

path_tells : (limit n room : ℕ) (t : Token) (x : List ℕ) (ts : List Token) (r : Read Expr) → t.kind ≡ name x → Tells (PhraseFor n 0) limit (t ∷ ts) r → Tells (PathFor n) limit (t ∷ ts) r
path_tells limit n room t x ts (Ok y) k h = record { marks = h.marks; takes = h.takes; spelled = as_path n t ts x y.0 h.marks y.1 k h.takes.tokens h.spelled }
path_tells limit n room t x ts (Err (Unexpected rest)) k h = record { marks = h.marks; takes = h.takes; starts = path_starts n t ts x h.marks rest k h.takes.tokens h.starts }
path_tells limit n room t x ts (Err (Measured rest)) k h =
    let all : t ∷ ts ≡ tokens_of h.marks ++ h.measure ∷ h.after = h.takes.tokens ∙ ap (λ l. tokens_of h.marks ++ l) h.first in
    record {
      marks = h.marks;
      takes = h.takes;
      measure = h.measure;
      after = h.after;
      first = h.first;
      is_measure = h.is_measure;
      block = h.block;
      block_is = h.block_is;
      block_starts = path_measured n t ts x h.marks h.block h.measure h.after k h.is_measure all h.block_starts;
      clause = h.clause;
      clause_is = h.clause_is;
      clause_starts = path_measured n t ts x h.marks h.clause h.measure h.after k h.is_measure all h.clause_starts;
    }
path_tells limit n room t x ts (Err (TooDeep rest)) k h = record {
  marks = h.marks;
  takes = h.takes;
  deep = h.deep;
  after = h.after;
  first = h.first;
  count = h.count;
  starts = path_starts n t ts x (h.marks ++ h.deep ∷ []) h.after k (h.takes.tokens ∙ ap (λ l. tokens_of h.marks ++ l) h.first ∙ sym (tokens-append_more h.marks (h.deep ∷ []) h.after)) h.starts;
}

-- ---- behind a path

-- what stands behind the targets and `:=`
abbrev AfterTargets : ℕ → Place → List Placed → Grammar Stmt
AfterTargets n place [] s ms = Unit {0}
AfterTargets n place (x ∷ []) s ms = Sequence (RightFor n) (λ r. Nothing (Assign place x r)) s ms
AfterTargets n place (x ∷ y ∷ ys) s ms = Sequence (NameFor n) (λ m. Sequence (Bracketed n signs.Open signs.Close (ArgumentsFor (n + 1))) (λ es. Nothing (Invoke place (x ∷ y ∷ ys) m es))) s ms

starts_after : (n : ℕ) (place : Place) (xs : List Placed) → Starts (AfterTargets n place xs) []
starts_after n place [] = record { value = Invoke place [] (placed place []) NoMore; more = []; spelled = tt }
starts_after n place (x ∷ []) = starts_sequence (RightFor n) (λ r. Nothing (Assign place x r)) (starts_right n) (λ r. starts_nothing _)
starts_after n place (x ∷ y ∷ ys) = starts_sequence (NameFor n) _ (starts_name n) (λ m. starts_sequence (Bracketed n signs.Open signs.Close (ArgumentsFor (n + 1))) (λ es. Nothing (Invoke place (x ∷ y ∷ ys) m es)) (starts_bracketed n signs.Open signs.Close (ArgumentsFor (n + 1)) (starts_arguments (n + 1))) (λ es. starts_nothing _))

after_tells : (limit n room : ℕ) (place : Place) (xs : List Placed) (ts : List Token) → n + room ≡ limit → Tells (AfterTargets n place xs) limit ts (assigned_by room place xs ts)
unfolding assign_one invoke_at
after_tells limit n room place [] ts e = tells_unexpected (AfterTargets n place []) limit ts (starts_after n place [])
after_tells limit n room place (x ∷ []) ts e = tells_sequence (RightFor n) (λ r. Nothing (Assign place x r)) limit ts (right_at room ts) _ (λ r. starts_nothing _) (right_tells limit n room ts e) (λ r us. tells_nothing limit us _)
after_tells limit n room place (x ∷ y ∷ ys) ts e =
    tells_sequence (NameFor n) (λ m. Sequence (Bracketed n signs.Open signs.Close (ArgumentsFor (n + 1))) (λ es. Nothing (Invoke place (x ∷ y ∷ ys) m es))) limit ts (name_at ts) _
    (λ m. starts_sequence (Bracketed n signs.Open signs.Close (ArgumentsFor (n + 1))) (λ es. Nothing (Invoke place (x ∷ y ∷ ys) m es)) (starts_bracketed n signs.Open signs.Close (ArgumentsFor (n + 1)) (starts_arguments (n + 1))) (λ es. starts_nothing _))
    (name_tells limit n ts (omega (arith, e)))
    (λ m us. tells_sequence (Bracketed n signs.Open signs.Close (ArgumentsFor (n + 1))) (λ es. Nothing (Invoke place (x ∷ y ∷ ys) m es)) limit us (enclosed (below room) arguments us) _ (λ es. starts_nothing _)
    (enclosed_tells arguments (ArgumentsFor (n + 1)) limit n room us e (starts_arguments (n + 1)) (λ less s vs. arguments_tells limit (n + 1) less vs (count_down limit n room less e s) (λ k q ws. reading_tells limit k less ws q)))
    (λ es vs. tells_nothing limit vs _))

abbrev AssignParts : ℕ → Place → Placed → Grammar Stmt
AssignParts n place x = Sequence (StepsFor (NameStep n) (x ∷ [])) (λ xs. Sequence (Sign n signs.Becomes) (λ c. AfterTargets n place xs))

-- the parts of an assignment or a call, behind the first target
one_target : (n : ℕ) (place q : Place) (x : List ℕ) (s : Stmt) (ms : List Mark) → Sequence (RightFor n) (λ r. Nothing (Assign place (placed place x) r)) s ms → StmtFor n s (mark n place (name x) ∷ mark n q (symbol signs.Becomes) ∷ ms)
one_target n place q x s ms (r, a, b, e, h, (v, z)) = record {
  phrase = assigned place x q h.phrase;
  stands = h.stands;
  means = ap (Assign place (placed place x)) h.means ∙ sym v;
  spelled = ap (λ l. mark n place (name x) ∷ mark n q (symbol signs.Becomes) ∷ l) (h.spelled ∙ sym (e ∙ rw z (append-nil a)));
}

more_targets : (n : ℕ) (place k p q : Place) (x y : List ℕ) (ys : NamesPhrase) (s : Stmt) (ms : List Mark) → AfterTargets n place (placed place x ∷ placed p y ∷ names_meant ys) s ms → StmtFor n s (mark n place (name x) ∷ mark n k (symbol signs.Comma) ∷ mark n p (name y) ∷ (names_marks n ys ++ mark n q (symbol signs.Becomes) ∷ ms))
more_targets n place k p q x y ys s ms (m, a, b, e, i, (es, c, d, e', h, (v, z))) = record {
  phrase = targeted place x k p y ys q m.place m.name h.from h.spelled.phrase h.to;
  stands = h.spelled.stands;
  means = ap (λ l. Invoke place (placed place x ∷ placed p y ∷ names_meant ys) m l) h.spelled.means ∙ sym v;
  spelled = ap (λ l. mark n place (name x) ∷ mark n k (symbol signs.Comma) ∷ mark n p (name y) ∷ (names_marks n ys ++ mark n q (symbol signs.Becomes) ∷ l))
      (ap (λ l. mark n m.place (name m.name) ∷ mark (n + 1) h.from (symbol signs.Open) ∷ (l ++ mark (n + 1) h.to (symbol signs.Close) ∷ [])) h.spelled.spelled ∙ ap (λ l. mark n m.place (name m.name) ∷ l) (sym h.is ∙ sym (e' ∙ rw z (append-nil c))) ∙ ap (λ l. l ++ b) (sym i) ∙ sym e);
}

by_names : (n : ℕ) (place q : Place) (x : List ℕ) (ys : NamesPhrase) (xs : List Placed) (s : Stmt) (ms : List Mark) → placed place x ∷ names_meant ys ≡ xs → AfterTargets n place xs s ms → StmtFor n s (mark n place (name x) ∷ (names_marks n ys ++ mark n q (symbol signs.Becomes) ∷ ms))
by_names n place q x no_names xs s ms e h = one_target n place q x s ms (subst (λ l. AfterTargets n place l s ms) (sym e) h)
by_names n place q x (next_name k p y ys) xs s ms e h = more_targets n place k p q x y ys s ms (subst (λ l. AfterTargets n place l s ms) (sym e) h)

assign_of : (n : ℕ) (place : Place) (x : List ℕ) (s : Stmt) (ms : List Mark) → AssignParts n place (placed place x) s ms → StmtFor n s (mark n place (name x) ∷ ms)
assign_of n place x s ms (xs, a, b, q, (path, h), (c, f, g, q', (p, pe, pm), r)) =
    let l = names_steps n path (placed place x ∷ []) xs a h in
    let all : names_marks n l.phrase ++ mark n p (symbol signs.Becomes) ∷ g ≡ ms = ap (λ y. y ++ mark n p (symbol signs.Becomes) ∷ g) l.spelled ∙ ap (λ y. a ++ y) (ap (λ y. y ++ g) (sym pm) ∙ sym q') ∙ sym q in
    subst (λ y. StmtFor n s (mark n place (name x) ∷ y)) all (by_names n place p x l.phrase xs s g l.means r)

assign_behind : (limit n room : ℕ) (place : Place) (x : List ℕ) (ts : List Token) → n + room ≡ limit → Tells (After (StmtFor n) (mark n place (name x) ∷ [])) limit ts (assign_at room place (placed place x) ts)
unfolding assign_at
assign_behind limit n room place x ts e =
    tells_as (AssignParts n place (placed place x)) (After (StmtFor n) (mark n place (name x) ∷ [])) limit ts _ (assign_of n place x)
    (tells_sequence (StepsFor (NameStep n) (placed place x ∷ [])) _ limit ts (run name_turn (length ts) (placed place x ∷ []) ts) _ (λ xs. starts_sequence (Sign n signs.Becomes) _ (starts_sign n signs.Becomes) (λ c. starts_after n place xs)) (run_tells (NameStep n) limit name_turn (name_turn_tells limit n (omega (arith, e))) (length ts) (placed place x ∷ []) ts)
    (λ xs us. tells_sequence (Sign n signs.Becomes) _ limit us (expect signs.Becomes us) _ (λ c. starts_after n place xs) (tells_expect n signs.Becomes limit us (omega (arith, e)))
    (λ c vs. after_tells limit n room place xs vs e)))

abbrev StoreParts : ℕ → Place → Expr → Placed → Grammar Stmt
StoreParts n place e f = Sequence (Sign n signs.Becomes) (λ c. Sequence (PhraseFor n 8) (λ v. Nothing (Write place e f v)))

store_of : (n : ℕ) (w : Phrase) (p q : Place) (f : List ℕ) → IsPath w → StandsAt 0 w → (s : Stmt) (ms : List Mark) → StoreParts n (start_of w) (meant w) (placed q f) s ms → StmtFor n s (marks n (dotted w p q f) ++ ms)
store_of n w p q f is st s ms (c, a, b, e, (r, re, rm), (v, a', b', e', h, (i, z))) = record {
  phrase = stored w p q f r h.phrase;
  stands = (is, st, h.stands);
  means = ap (Write (start_of w) (meant w) (placed q f)) h.means ∙ sym i;
  spelled = ap (λ l. marks n (dotted w p q f) ++ l) (ap (λ l. mark n r (symbol signs.Becomes) ∷ l) (h.spelled ∙ sym (e' ∙ rw z (append-nil a'))) ∙ ap (λ l. l ++ b) (sym rm) ∙ sym e);
}

store_behind : (limit n room : ℕ) (w : Phrase) (p q : Place) (f : List ℕ) (ts : List Token) → n + room ≡ limit → IsPath w → StandsAt 0 w → Tells (After (StmtFor n) (marks n (dotted w p q f))) limit ts (store_at room (start_of w) (meant w) (placed q f) ts)
unfolding store_at
store_behind limit n room w p q f ts e is st =
    tells_as (StoreParts n (start_of w) (meant w) (placed q f)) (After (StmtFor n) (marks n (dotted w p q f))) limit ts _ (store_of n w p q f is st)
    (tells_sequence (Sign n signs.Becomes) _ limit ts (expect signs.Becomes ts) _ (λ c. starts_sequence (PhraseFor n 8) _ (starts_any n 8) (λ v. starts_nothing _)) (tells_expect n signs.Becomes limit ts (omega (arith, e)))
    (λ c us. tells_sequence (PhraseFor n 8) _ limit us (choice_at (below room) us) _ (λ v. starts_nothing _) (reading_tells limit n room us e) (λ v vs. tells_nothing limit vs _)))

behind_path : (limit n room : ℕ) (w : Phrase) (ts : List Token) → n + room ≡ limit → IsPath w → StandsAt 0 w → Tells (After (StmtFor n) (marks n w)) limit ts (by_target room (start_of w) (meant w) ts)
behind_path limit n room (named p x) ts e is st = assign_behind limit n room p x ts e
behind_path limit n room (called p m o es c) ts e is st = tells_here (After (StmtFor n) (marks n (called p m o es c))) limit ts (Invoke p [] (placed p m) (arguments_meant es)) (rw append-nil (record { phrase = invoked p m o es c; stands = st; means = refl; spelled = refl }))
behind_path limit n room (dotted w p q f) ts e is st = store_behind limit n room w p q f ts e is st.1
behind_path limit n room (literal p b) ts e is st = absurd is
behind_path limit n room (constant p c) ts e is st = absurd is
behind_path limit n room (numeral p m) ts e is st = absurd is
behind_path limit n room (grouped p w q) ts e is st = absurd is
behind_path limit n room (past p o w c) ts e is st = absurd is
behind_path limit n room (accessed p o w a c) ts e is st = absurd is
behind_path limit n room (prefixed p op w) ts e is st = absurd is
behind_path limit n room (joined a p op b) ts e is st = absurd is
behind_path limit n room (chosen c p a q b) ts e is st = absurd is
behind_path limit n room (unfolded p i q w) ts e is st = absurd is

-- a path can be gone on with
path_goes_by : (n : ℕ) (w : Phrase) → IsPath w → StandsAt 0 w → Starts (StmtFor n) (marks n w)
path_goes_by n (named p x) is st = record { value = _; more = _; spelled = record { phrase = assigned p x somewhere (given (literal somewhere true)); stands = tt; means = refl; spelled = refl } }
path_goes_by n (called p m o es c) is st = record { value = Invoke p [] (placed p m) (arguments_meant es); more = []; spelled = rw append-nil (record { phrase = invoked p m o es c; stands = st; means = refl; spelled = refl }) }
path_goes_by n (dotted w p q f) is st = record { value = _; more = _; spelled = record { phrase = stored w p q f somewhere (literal somewhere true); stands = (is, st.1, tt); means = refl; spelled = refl } }
path_goes_by n (literal p b) is st = absurd is
path_goes_by n (constant p c) is st = absurd is
path_goes_by n (numeral p m) is st = absurd is
path_goes_by n (grouped p w q) is st = absurd is
path_goes_by n (past p o w c) is st = absurd is
path_goes_by n (accessed p o w a c) is st = absurd is
path_goes_by n (prefixed p op w) is st = absurd is
path_goes_by n (joined a p op b) is st = absurd is
path_goes_by n (chosen c p a q b) is st = absurd is
path_goes_by n (unfolded p i q w) is st = absurd is

path_goes_on : (n : ℕ) → GoesOn (PathFor n) (StmtFor n)
path_goes_on n e ms r = subst (Starts (StmtFor n)) r.spelled (path_goes_by n r.phrase r.is r.stands)

plain : (n : ℕ) (e : Expr) (ms : List Mark) → PathFor n e ms → PhraseFor n 0 e ms
plain n e ms r = record { phrase = r.phrase; stands = r.stands; means = r.means; spelled = r.spelled }

pub target_tells : (limit n room : ℕ) (t : Token) (x : List ℕ) (ts : List Token) → n + room ≡ limit → t.kind ≡ name x → Tells (StmtFor n) limit (t ∷ ts) (target_at room t x ts)
unfolding target_at plain
target_tells limit n room t x ts e k =
    tells_then (PathFor n) (StmtFor n) limit (t ∷ ts) (postfix_by (below room) t (name x) ts) (λ y. by_target room t.place y.0 y.1) (path_goes_on n)
    (path_tells limit n room t x ts (postfix_by (below room) t (name x) ts) k (operand_tells limit n room t (name x) ts e k))
    (λ y rest ms r takes. behind_phrase StmtFor limit n 0 (by_target room) t ts rest y ms (plain n y ms r) takes (behind_path limit n room r.phrase rest e r.is r.stands))
