-- What reading clauses and methods tells.
use Rattle.std.proofs.Common.{◌≡◌, ℕ, ◌+◌, not, ◌&&◌, ◌-◌, ◌≤◌, List, [], ◌∷◌, ◌++◌, Option, Some, None, Bool, true, false, Ok, Err, length, refl, sym, ap, subst, ◌∙◌, append_assoc, arith, cond, leb, inl, inr, ◌⊎◌}
use Rattle.std.proofs.lemmas.List.{append-nil}
use Rattle.std.proofs.lemmas.Bool.{leb-true, leb-false}
use Rattle.vx_ast.specs.declared.Place.{Place}
use Rattle.vx_ast.specs.Written.{Placed, Expr, Clause, Requires, Ensures, Decreases, Declaration, Block, Member}
use Rattle.vx_tokens.specs.declared.token.Word.{Word}
use Rattle.vx_tokens.specs.declared.token.Word.TheVariants as words
use Rattle.vx_tokens.specs.declared.token.Symbol.TheVariants as signs
use Rattle.vx_tokens.specs.Tokens.{Token, Kind, name, word, symbol}
use Rattle.vx_grammar.specs.Grammar.{Phrase, Mark, mark, marks, meant, StandsAt}
use Rattle.vx_grammar.specs.Statements.{semi_marks, block_meant, block_marks}
use Rattle.vx_grammar.specs.Programs.{body_marks, ClausesPhrase, no_clauses, requires, ensures, decreases, clauses_meant, StandsClauses, clauses_marks, MethodPhrase, method_meant, StandsMethod, method_marks, parameters_marks, returns_marks}
use Rattle.vx_grammar.specs.Reading.{◌>>=◌, Read, Measured, TooDeep, is_symbol, choice_at, below, name_at}
use Rattle.vx_grammar.specs.StmtReading.{is_measure, begins_decreases, clause_at, skip_semicolon}
use Rattle.vx_grammar.specs.MemberReading as reading
use Rattle.vx_grammar.specs.MemberReading.{Clauses, with_requires, with_ensures, with_measure, begins_requires, begins_ensures, clause_turn, clauses_at, limit, method_of, method_at, parameters_at, returns_at, begins_braces, some_block, body_at}
use Rattle.vx_grammar.proofs.Symbols.{is_symbol_true}
use Rattle.vx_grammar.proofs.Tells.{Grammar, After, Starts, Tells, somewhere, tells_measured, measure_word, takes_none, tells_as, tells_here, tells_token, marks_is, NameFor, name_tells}
use Rattle.vx_grammar.proofs.Sequence.{Sequence, Nothing, tells_second, tells_sequence_by, tells_sequence, starts_sequence, starts_nothing, tells_nothing}
use Rattle.vx_grammar.proofs.Bracketed.{Nested, led_tells}
use Rattle.vx_grammar.proofs.Means.{reading_tells}
use Rattle.vx_grammar.proofs.BodiesTold.{BodyFor, no_body_for, block_body_tells, starts_body}
use Rattle.vx_grammar.proofs.StmtFor.{a_phrase, any_block}
use Rattle.vx_grammar.proofs.Steps.{Step, TurnFor, StepsBy, StepsFor, run_tells}
use Rattle.vx_grammar.proofs.MemberTold.{ParametersFor, parameters_tells, starts_parameters, ReturnsFor, returns_tells, starts_returns}
use Rattle.vx_grammar.proofs.PhraseFor.{PhraseFor, starts_any}

-- ---- a value, and then a semicolon or none

abbrev pub SemiThen : {A : Type 0} → A → Grammar A
SemiThen v y ms = (semi : Option Place) × (y ≡ v) × (ms ≡ semi_marks 0 semi)

pub starts_semi : {A : Type 0} (v : A) → Starts (SemiThen v) []
starts_semi v = record { value = v; more = []; spelled = (None, refl, refl) }

semi_by_tells : {A : Type 0} (most : ℕ) (v : A) (t : Token) (ts : List Token) (b : Bool) → is_symbol signs.Semicolon t.kind ≡ b → Tells (SemiThen v) most (t ∷ ts) (Ok (v, cond b ts (t ∷ ts)))
semi_by_tells most v t ts true h =
    let k = is_symbol_true signs.Semicolon t.kind h in
    tells_token (SemiThen v) most (record { token = t; count = 0 }) ts v (omega arith) (Some t.place, refl, sym (marks_is t (symbol signs.Semicolon) 0 [] k))
semi_by_tells most v t ts false h = tells_here (SemiThen v) most (t ∷ ts) v (None, refl, refl)

pub semi_tells : {A : Type 0} (most : ℕ) (v : A) (ts : List Token) → Tells (SemiThen v) most ts (Ok (v, skip_semicolon ts))
semi_tells most v [] = tells_here (SemiThen v) most [] v (None, refl, refl)
semi_tells most v (t ∷ ts) = semi_by_tells most v t ts (is_symbol signs.Semicolon t.kind) refl

-- ---- clauses

clause_by_tells : (before : ℕ) (t : Token) (ts : List Token) (b : Bool) → leb before limit ≡ b → Tells (Nested (record { token = t; count = before }) (PhraseFor before 8)) limit (t ∷ ts) (cond b (choice_at (below (limit - before)) ts) (Err (TooDeep (t ∷ ts))))
clause_by_tells before t ts true h =
    let le : before ≤ limit = leb-true _ _ h in
    led_tells (PhraseFor before 8) limit before t ts _ le (reading_tells limit before (limit - before) ts (omega (arith, le)))
clause_by_tells before t ts false h =
    let m : Mark = record { token = t; count = before } in
    let s = starts_any before 8 in
    record {
      marks = [];
      takes = takes_none limit (t ∷ ts);
      deep = m;
      after = ts;
      first = refl;
      count = leb-false _ _ h;
      starts = record { value = s.value; more = s.more; spelled = record { inner = s.more; is = refl; spelled = s.spelled } };
    }

clause_tells : (before : ℕ) (t : Token) (ts : List Token) → Tells (Nested (record { token = t; count = before }) (PhraseFor before 8)) limit (t ∷ ts) (clause_at limit before (t ∷ ts) ts)
unfolding clause_at
clause_tells before t ts = clause_by_tells before t ts (leb before limit) refl

-- one clause more, of the one kind or the other
pub record OneClause (before : ℕ) (w : Word) (make : Expr → Clauses) (after : Clauses) (ms : List Mark) : Type 0 where
  pub at : Place
  pub clause : Phrase
  pub semi : Option Place
  pub stands : StandsAt 8 clause
  pub means : after ≡ make (meant clause)
  pub spelled : ms ≡ mark before at (word w) ∷ (marks before clause ++ semi_marks 0 semi)

-- a measure, where one is due
pub record OneMeasure (may : Bool) (before after : Clauses) (ms : List Mark) : Type 0 where
  pub due : may && not before.measured ≡ true
  pub one : OneClause 0 words.Decreases (with_measure before) after ms

abbrev pub ClauseStep : Bool → Step Clauses
ClauseStep may before after ms = OneClause before.requires words.Requires (with_requires before) after ms ⊎ (OneClause before.ensures words.Ensures (with_ensures before) after ms ⊎ OneMeasure may before after ms)

abbrev OneParts : Token → ℕ → (Expr → Clauses) → Grammar (Option Clauses)
OneParts t before make = Sequence (Nested (record { token = t; count = before }) (PhraseFor before 8)) (λ e. SemiThen (Some (make e)))

one_of : (t : Token) (before : ℕ) (w : Word) (make : Expr → Clauses) → t.kind ≡ word w → (e : Expr) (ms a b : List Mark) (semi : Option Place) → ms ≡ a ++ b → Nested (record { token = t; count = before }) (PhraseFor before 8) e a → b ≡ semi_marks 0 semi → OneClause before w make (make e) ms
one_of t before w make k e ms a b semi q h z = record {
  at = t.place;
  clause = h.spelled.phrase;
  semi = semi;
  stands = h.spelled.stands;
  means = ap make (sym h.spelled.means);
  spelled = q ∙ ap (λ l. l ++ b) (h.is ∙ ap (λ l. let m : Mark = record { token = t; count = before } in m ∷ l) (sym h.spelled.spelled) ∙ sym (marks_is t (word w) before _ k)) ∙ ap (λ l. mark before t.place (word w) ∷ (marks before h.spelled.phrase ++ l)) z;
}

requires_of : (may : Bool) (before : Clauses) (t : Token) → t.kind ≡ word words.Requires → (o : Option Clauses) (ms : List Mark) → OneParts t before.requires (with_requires before) o ms → TurnFor (ClauseStep may) before o ms
requires_of may before t k o ms (e, a, b, q, h, (semi, v, z)) = subst (λ x. TurnFor (ClauseStep may) before x ms) (sym v) (inl (one_of t before.requires words.Requires (with_requires before) k e ms a b semi q h z))

ensures_of : (may : Bool) (before : Clauses) (t : Token) → t.kind ≡ word words.Ensures → (o : Option Clauses) (ms : List Mark) → OneParts t before.ensures (with_ensures before) o ms → TurnFor (ClauseStep may) before o ms
ensures_of may before t k o ms (e, a, b, q, h, (semi, v, z)) = subst (λ x. TurnFor (ClauseStep may) before x ms) (sym v) (inr (inl (one_of t before.ensures words.Ensures (with_ensures before) k e ms a b semi q h z)))

measure_of : (may : Bool) (before : Clauses) (t : Token) → t.kind ≡ word words.Decreases → may && not before.measured ≡ true → (o : Option Clauses) (ms : List Mark) → OneParts t 0 (with_measure before) o ms → TurnFor (ClauseStep may) before o ms
measure_of may before t k due o ms (e, a, b, q, h, (semi, v, z)) = subst (λ x. TurnFor (ClauseStep may) before x ms) (sym v) (inr (inr (record { due = due; one = one_of t 0 words.Decreases (with_measure before) k e ms a b semi q h z })))

-- a measure is read where it begins and is due
both_due : (may measured begins : Bool) → may && not measured && begins ≡ true → (may && not measured ≡ true) × (begins ≡ true)
both_due true false true h = (refl, refl)
both_due true false false h = absurd cc
both_due true true begins h = absurd cc
both_due false measured begins h = absurd cc

pub none_due : (may : Bool) → may && not true ≡ false
none_due true = refl
none_due false = refl

pub first_due : (may : Bool) → may && not false ≡ may
first_due true = refl
first_due false = refl

requires_word : (k : Kind) → begins_requires k ≡ true → k ≡ word words.Requires
requires_word (word words.Requires) h = refl
requires_word k h = absurd cc

ensures_word : (k : Kind) → begins_ensures k ≡ true → k ≡ word words.Ensures
ensures_word (word words.Ensures) h = refl
ensures_word k h = absurd cc

one_tells : (before : ℕ) (make : Expr → Clauses) (t : Token) (ts : List Token) → Tells (OneParts t before make) limit (t ∷ ts) (clause_at limit before (t ∷ ts) ts >>= λ e. Ok (Some (make e.0), skip_semicolon e.1))
one_tells before make t ts =
    tells_sequence (Nested (record { token = t; count = before }) (PhraseFor before 8)) _ limit (t ∷ ts) (clause_at limit before (t ∷ ts) ts) _ (λ e. starts_semi _) (clause_tells before t ts) (λ e us. semi_tells limit _ us)

clause_turn_by : (may : Bool) (before : Clauses) (t : Token) (ts : List Token) (r k d : Bool) → begins_requires t.kind ≡ r → begins_ensures t.kind ≡ k → may && not before.measured && is_measure t.kind ≡ d
    → Tells (TurnFor (ClauseStep may) before) limit (t ∷ ts) (cond r (clause_at limit before.requires (t ∷ ts) ts >>= λ e. Ok (Some (with_requires before e.0), skip_semicolon e.1)) (cond k (clause_at limit before.ensures (t ∷ ts) ts >>= λ e. Ok (Some (with_ensures before e.0), skip_semicolon e.1)) (cond d (clause_at limit 0 (t ∷ ts) ts >>= λ e. Ok (Some (with_measure before e.0), skip_semicolon e.1)) (Ok (None, t ∷ ts)))))
clause_turn_by may before t ts true k d h g f = tells_as (OneParts t before.requires (with_requires before)) (TurnFor (ClauseStep may) before) limit (t ∷ ts) _ (requires_of may before t (requires_word t.kind h)) (one_tells before.requires (with_requires before) t ts)
clause_turn_by may before t ts false true d h g f = tells_as (OneParts t before.ensures (with_ensures before)) (TurnFor (ClauseStep may) before) limit (t ∷ ts) _ (ensures_of may before t (ensures_word t.kind g)) (one_tells before.ensures (with_ensures before) t ts)
clause_turn_by may before t ts false false true h g f = tells_as (OneParts t 0 (with_measure before)) (TurnFor (ClauseStep may) before) limit (t ∷ ts) _ (measure_of may before t (measure_word t.kind (both_due may before.measured (is_measure t.kind) f).1) (both_due may before.measured (is_measure t.kind) f).0) (one_tells 0 (with_measure before) t ts)
clause_turn_by may before t ts false false false h g f = tells_here (TurnFor (ClauseStep may) before) limit (t ∷ ts) None refl

pub clause_turn_tells : (may : Bool) (before : Clauses) (ts : List Token) → Tells (TurnFor (ClauseStep may) before) limit ts (clause_turn limit may before ts)
unfolding clause_turn
clause_turn_tells may before [] = tells_here (TurnFor (ClauseStep may) before) limit [] None refl
clause_turn_tells may before (t ∷ ts) = clause_turn_by may before t ts (begins_requires t.kind) (begins_ensures t.kind) (may && not before.measured && is_measure t.kind) refl refl refl

-- the steps are clauses
record ClausesStep (may : Bool) (before after : Clauses) (ms : List Mark) : Type 0 where
  phrase : ClausesPhrase
  stands : StandsClauses (may && not before.measured) phrase
  clauses_are : before.clauses ++ clauses_meant phrase ≡ after.clauses
  spelled : clauses_marks before.requires before.ensures phrase ≡ ms

-- one clause, its semicolon and the others
clause_spelled : (c : ℕ) (p : Place) (w : Word) (e : Phrase) (semi : Option Place) (others ms a b : List Mark) → ms ≡ a ++ b → a ≡ mark c p (word w) ∷ (marks c e ++ semi_marks 0 semi) → others ≡ b → mark c p (word w) ∷ (marks c e ++ (semi_marks 0 semi ++ others)) ≡ ms
clause_spelled c p w e semi others ms a b q z o =
    ap (λ l. mark c p (word w) ∷ (marks c e ++ (semi_marks 0 semi ++ l))) o
    ∙ ap (λ l. mark c p (word w) ∷ l) (sym (append_assoc (marks c e) (semi_marks 0 semi) b)) ∙ ap (λ l. l ++ b) (sym z) ∙ sym q

-- one clause and the others, in text order
clause_first : (before m after : Clauses) (w : ClausesPhrase) (c : Clause) → m.clauses ≡ before.clauses ++ c ∷ [] → m.clauses ++ clauses_meant w ≡ after.clauses → before.clauses ++ c ∷ clauses_meant w ≡ after.clauses
clause_first before m after w c e h = sym (append_assoc before.clauses (c ∷ []) (clauses_meant w)) ∙ ap (λ l. l ++ clauses_meant w) (sym e) ∙ h

requires_step : (may : Bool) (before m after : Clauses) (ms a b : List Mark) → ms ≡ a ++ b → OneClause before.requires words.Requires (with_requires before) m a → ClausesStep may m after b → ClausesStep may before after ms
requires_step may before m after ms a b q c r = record {
  phrase = requires c.at c.clause c.semi r.phrase;
  stands = (c.stands, subst (λ (x : Clauses). StandsClauses (may && not x.measured) r.phrase) c.means r.stands);
  clauses_are = clause_first before m after r.phrase (Requires (meant c.clause)) (ap (λ (x : Clauses). x.clauses) c.means) r.clauses_are;
  spelled = clause_spelled before.requires c.at words.Requires c.clause c.semi _ ms a b q c.spelled (ap (λ (x : Clauses). clauses_marks x.requires x.ensures r.phrase) (sym c.means) ∙ r.spelled);
}

ensures_step : (may : Bool) (before m after : Clauses) (ms a b : List Mark) → ms ≡ a ++ b → OneClause before.ensures words.Ensures (with_ensures before) m a → ClausesStep may m after b → ClausesStep may before after ms
ensures_step may before m after ms a b q c r = record {
  phrase = ensures c.at c.clause c.semi r.phrase;
  stands = (c.stands, subst (λ (x : Clauses). StandsClauses (may && not x.measured) r.phrase) c.means r.stands);
  clauses_are = clause_first before m after r.phrase (Ensures (meant c.clause)) (ap (λ (x : Clauses). x.clauses) c.means) r.clauses_are;
  spelled = clause_spelled before.ensures c.at words.Ensures c.clause c.semi _ ms a b q c.spelled (ap (λ (x : Clauses). clauses_marks x.requires x.ensures r.phrase) (sym c.means) ∙ r.spelled);
}

measure_step : (may : Bool) (before m after : Clauses) (ms a b : List Mark) → ms ≡ a ++ b → OneMeasure may before m a → ClausesStep may m after b → ClausesStep may before after ms
measure_step may before m after ms a b q d r =
    let c = d.one in
    record {
      phrase = decreases c.at c.clause c.semi r.phrase;
      stands = (d.due, c.stands, subst (λ due. StandsClauses due r.phrase) (ap (λ (x : Clauses). may && not x.measured) c.means ∙ none_due may) r.stands);
      clauses_are = clause_first before m after r.phrase (Decreases (meant c.clause)) (ap (λ (x : Clauses). x.clauses) c.means) r.clauses_are;
      spelled = clause_spelled 0 c.at words.Decreases c.clause c.semi _ ms a b q c.spelled (ap (λ (x : Clauses). clauses_marks x.requires x.ensures r.phrase) (sym c.means) ∙ r.spelled);
    }

clauses_steps : (may : Bool) (path : List Clauses) (before after : Clauses) (ms : List Mark) → StepsBy (ClauseStep may) path before after ms → ClausesStep may before after ms
clauses_steps may [] before after ms (e, z) = record {
  phrase = no_clauses;
  stands = tt;
  clauses_are = append-nil before.clauses ∙ ap (λ (x : Clauses). x.clauses) e;
  spelled = sym z;
}
clauses_steps may (m ∷ path) before after ms (a, b, q, inl c, h) = requires_step may before m after ms a b q c (clauses_steps may path m after b h)
clauses_steps may (m ∷ path) before after ms (a, b, q, inr (inl c), h) = ensures_step may before m after ms a b q c (clauses_steps may path m after b h)
clauses_steps may (m ∷ path) before after ms (a, b, q, inr (inr c), h) = measure_step may before m after ms a b q c (clauses_steps may path m after b h)

pub record ClausesFor (may : Bool) (c : Clauses) (ms : List Mark) : Type 0 where
  pub phrase : ClausesPhrase
  pub stands : StandsClauses may phrase
  pub clauses_are : clauses_meant phrase ≡ c.clauses
  pub spelled : clauses_marks 0 0 phrase ≡ ms

clauses_of : (may : Bool) (c : Clauses) (ms : List Mark) → StepsFor (ClauseStep may) reading.no_clauses c ms → ClausesFor may c ms
clauses_of may c ms (path, h) =
    let r = clauses_steps may path reading.no_clauses c ms h in
    record {
      phrase = r.phrase;
      stands = subst (λ due. StandsClauses due r.phrase) (first_due may) r.stands;
      clauses_are = r.clauses_are;
      spelled = r.spelled;
    }

-- one requirement more
more_clauses : ClausesPhrase → ClausesPhrase
more_clauses no_clauses = requires somewhere a_phrase None no_clauses
more_clauses (requires p e semi rest) = requires p e semi (more_clauses rest)
more_clauses (ensures p e semi rest) = ensures p e semi (more_clauses rest)
more_clauses (decreases p e semi rest) = decreases p e semi (more_clauses rest)

more_stand : (may : Bool) (w : ClausesPhrase) → StandsClauses may w → StandsClauses may (more_clauses w)
unfolding more_clauses a_phrase
more_stand may no_clauses st = (tt, tt)
more_stand may (requires p e semi rest) st = (st.0, more_stand may rest st.1)
more_stand may (ensures p e semi rest) st = (st.0, more_stand may rest st.1)
more_stand may (decreases p e semi rest) st = (st.0, st.1, more_stand false rest st.2)

-- how many requirements there are behind so many
all_of : ℕ → ClausesPhrase → ℕ
all_of r no_clauses = r
all_of r (requires p e semi rest) = all_of (r + 1) rest
all_of r (ensures p e semi rest) = all_of r rest
all_of r (decreases p e semi rest) = all_of r rest

one_requirement : ℕ → List Mark
one_requirement c = mark c somewhere (word words.Requires) ∷ marks c a_phrase

-- a clause in front of others, and one requirement behind them
clause_behind : (c : ℕ) (p : Place) (w : Word) (e : Phrase) (semi : Option Place) (others last all : List Mark) → all ≡ others ++ last → mark c p (word w) ∷ (marks c e ++ (semi_marks 0 semi ++ all)) ≡ (mark c p (word w) ∷ (marks c e ++ (semi_marks 0 semi ++ others))) ++ last
clause_behind c p w e semi others last all h =
    ap (λ l. mark c p (word w) ∷ (marks c e ++ (semi_marks 0 semi ++ l))) h
    ∙ ap (λ l. mark c p (word w) ∷ l) (ap (λ l. marks c e ++ l) (sym (append_assoc (semi_marks 0 semi) others last)) ∙ sym (append_assoc (marks c e) (semi_marks 0 semi ++ others) last))

more_spelled : (r k : ℕ) (w : ClausesPhrase) → clauses_marks r k (more_clauses w) ≡ clauses_marks r k w ++ one_requirement (all_of r w)
unfolding more_clauses all_of one_requirement
more_spelled r k no_clauses = ap (λ l. mark r somewhere (word words.Requires) ∷ l) (append-nil (marks r a_phrase))
more_spelled r k (requires p e semi rest) = clause_behind r p words.Requires e semi (clauses_marks (r + 1) k rest) (one_requirement (all_of (r + 1) rest)) _ (more_spelled (r + 1) k rest)
more_spelled r k (ensures p e semi rest) = clause_behind k p words.Ensures e semi (clauses_marks r (k + 1) rest) (one_requirement (all_of r rest)) _ (more_spelled r (k + 1) rest)
more_spelled r k (decreases p e semi rest) = clause_behind 0 p words.Decreases e semi (clauses_marks r k rest) (one_requirement (all_of r rest)) _ (more_spelled r k rest)

-- what such clauses are read as
clauses_with : List Clause → Clauses
clauses_with cs = record { clauses = cs; requires = 0; ensures = 0; measured = false }

one_more : (may : Bool) (c : Clauses) (ms : List Mark) (g : ClausesFor may c ms) → ClausesFor may (clauses_with (clauses_meant (more_clauses g.phrase))) (ms ++ one_requirement (all_of 0 g.phrase))
unfolding clauses_with
one_more may c ms g = record {
  phrase = more_clauses g.phrase;
  stands = more_stand may g.phrase g.stands;
  clauses_are = refl;
  spelled = more_spelled 0 0 g.phrase ∙ ap (λ l. l ++ one_requirement (all_of 0 g.phrase)) g.spelled;
}

pub starts_clauses : (may : Bool) → Starts (ClausesFor may) []
starts_clauses may = record { value = reading.no_clauses; more = []; spelled = record { phrase = no_clauses; stands = tt; clauses_are = refl; spelled = refl } }

pub clauses_tells : (may : Bool) (ts : List Token) → Tells (ClausesFor may) limit ts (clauses_at limit may ts)
unfolding clauses_at
clauses_tells may ts = tells_as (StepsFor (ClauseStep may) reading.no_clauses) (ClausesFor may) limit ts _ (clauses_of may) (run_tells (ClauseStep may) limit (clause_turn limit may) (clause_turn_tells may) (length ts) reading.no_clauses ts)

-- ---- methods

pub record MethodFor (m : Member) (ms : List Mark) : Type 0 where
  pub phrase : MethodPhrase
  pub stands : StandsMethod phrase
  pub means : method_meant phrase ≡ m
  pub spelled : method_marks phrase ≡ ms

abbrev MethodParts : Place → Grammar Member
MethodParts place = Sequence (NameFor 0) (λ x. Sequence (ParametersFor 0) (λ ps. Sequence (ReturnsFor 0) (λ rs. Sequence (ClausesFor false) (λ c. Sequence BodyFor (λ b. Nothing (method_of place x ps rs c b))))))

method_parts_of : (t : Token) → t.kind ≡ word words.Method → (m : Member) (ms inner : List Mark) → (let k : Mark = record { token = t; count = 0 } in ms ≡ k ∷ inner) → MethodParts t.place m inner → MethodFor m ms
method_parts_of t k m ms inner is (x, a, a', q, z, (ps, b, b', q', g, (rs, c, c', q'', h, (cl, d, d', q3, i, (bl, e, e', q4, j, (v, y)))))) = record {
  phrase = record { at = t.place; name_at = x.place; text = x.name; parameters = g.phrase; returns = h.phrase; clauses = i.phrase; body = j.phrase };
  stands = record { clauses = i.stands; body = j.stands };
  means = means ∙ sym v;
  spelled = marks_is t (word words.Method) 0 _ k ∙ ap (λ l. let s : Mark = record { token = t; count = 0 } in s ∷ l) (sym all) ∙ sym is;
}
  where
    means : method_meant (record { at = t.place; name_at = x.place; text = x.name; parameters = g.phrase; returns = h.phrase; clauses = i.phrase; body = j.phrase }) ≡ method_of t.place x ps rs cl bl
    means = rw (g.means, h.means, i.clauses_are, j.means) refl

    all : inner ≡ mark 0 x.place (name x.name) ∷ (parameters_marks 0 g.phrase ++ (returns_marks 0 h.phrase ++ (clauses_marks 0 0 i.phrase ++ body_marks j.phrase)))
    all =
        q ∙ ap (λ l. l ++ a') z
        ∙ ap (λ l. mark 0 x.place (name x.name) ∷ l) (q' ∙ ap (λ l. l ++ b') (sym g.spelled)
        ∙ ap (λ l. parameters_marks 0 g.phrase ++ l) (q'' ∙ ap (λ l. l ++ c') (sym h.spelled)
        ∙ ap (λ l. returns_marks 0 h.phrase ++ l) (q3 ∙ ap (λ l. l ++ d') (sym i.spelled)
        ∙ ap (λ l. clauses_marks 0 0 i.phrase ++ l) (q4 ∙ ap (λ l. e ++ l) y ∙ append-nil e ∙ sym j.spelled))))

method_of_led : (t : Token) → t.kind ≡ word words.Method → (m : Member) (ms : List Mark) → Nested (record { token = t; count = 0 }) (MethodParts t.place) m ms → MethodFor m ms
method_of_led t k m ms h = method_parts_of t k m ms h.inner h.is h.spelled

starts_with_body : (place : Place) (x : Placed) (ps rs : List Declaration) (c : Clauses) → Starts (Sequence BodyFor (λ b. Nothing (method_of place x ps rs c b))) []
starts_with_body place x ps rs c = starts_sequence BodyFor _ starts_body (λ b. starts_nothing _)

starts_contract : (place : Place) (x : Placed) (ps rs : List Declaration) → Starts (Sequence (ClausesFor false) (λ c. Sequence BodyFor (λ b. Nothing (method_of place x ps rs c b)))) []
starts_contract place x ps rs = starts_sequence (ClausesFor false) _ (starts_clauses false) (λ c. starts_with_body place x ps rs c)

starts_rest : (place : Place) (x : Placed) (ps : List Declaration) → Starts (Sequence (ReturnsFor 0) (λ rs. Sequence (ClausesFor false) (λ c. Sequence BodyFor (λ b. Nothing (method_of place x ps rs c b))))) []
starts_rest place x ps = starts_sequence (ReturnsFor 0) _ (starts_returns 0) (λ rs. starts_contract place x ps rs)

starts_header : (place : Place) (x : Placed) → Starts (Sequence (ParametersFor 0) (λ ps. Sequence (ReturnsFor 0) (λ rs. Sequence (ClausesFor false) (λ c. Sequence BodyFor (λ b. Nothing (method_of place x ps rs c b)))))) []
starts_header place x = starts_sequence (ParametersFor 0) _ (starts_parameters 0) (λ ps. starts_rest place x ps)

-- what stands behind the results of a method
abbrev ContractParts : Place → Placed → List Declaration → List Declaration → Grammar Member
ContractParts place x ps rs = Sequence (ClausesFor false) (λ c. Sequence BodyFor (λ b. Nothing (method_of place x ps rs c b)))

-- behind clauses a block begins, or one more
block_begins : (place : Place) (x : Placed) (ps rs : List Declaration) (c : Clauses) (ms : List Mark) → ClausesFor false c ms → Starts (After (ContractParts place x ps rs) ms) (mark 1 somewhere (symbol signs.OpenBrace) ∷ [])
unfolding any_block
block_begins place x ps rs c ms g = record {
  value = method_of place x ps rs c (Some (block_meant any_block));
  more = mark 1 somewhere (symbol signs.CloseBrace) ∷ [];
  spelled = (c, ms, block_marks 0 any_block, refl, g, (Some (block_meant any_block), block_marks 0 any_block, [], sym (append-nil (block_marks 0 any_block)), record { phrase = Some any_block; stands = tt; means = refl; spelled = refl }, (refl, refl)));
}

clause_begins : (place : Place) (x : Placed) (ps rs : List Declaration) (c : Clauses) (ms : List Mark) (g : ClausesFor false c ms) → Starts (After (ContractParts place x ps rs) ms) (mark (all_of 0 g.phrase) somewhere (word words.Requires) ∷ [])
unfolding one_requirement
clause_begins place x ps rs c ms g =
    let d = clauses_with (clauses_meant (more_clauses g.phrase)) in
    let last = one_requirement (all_of 0 g.phrase) in
    record {
      value = method_of place x ps rs d None;
      more = marks (all_of 0 g.phrase) a_phrase;
      spelled = (d, ms ++ last, [], sym (append-nil (ms ++ last)), one_more false c ms g, (None, [], [], refl, no_body_for, (refl, refl)));
    }

body_by_tells : (place : Place) (x : Placed) (ps rs : List Declaration) (c : Clauses) (ms : List Mark) (ts : List Token) (b d : Bool) → begins_decreases ts ≡ d → ClausesFor false c ms
    → (let r : Read (Option Block) = cond b (some_block limit ts) (cond d (Err (Measured ts)) (Ok (None, ts))) in Tells (After (ContractParts place x ps rs) ms) limit ts (r >>= λ b. Ok (method_of place x ps rs c b.0, b.1)))
body_by_tells place x ps rs c ms ts true d h g =
    tells_second (ClausesFor false) _ limit c ts ms _ g
    (tells_sequence BodyFor _ limit ts (some_block limit ts) _ (λ b. starts_nothing _) (block_body_tells ts) (λ b us. tells_nothing limit us _))
body_by_tells place x ps rs c ms ts false true h g =
    tells_measured (After (ContractParts place x ps rs) ms) limit ts (mark 1 somewhere (symbol signs.OpenBrace)) (mark (all_of 0 g.phrase) somewhere (word words.Requires)) h refl (block_begins place x ps rs c ms g) (inl refl) (clause_begins place x ps rs c ms g)
body_by_tells place x ps rs c ms ts false false h g =
    tells_here (After (ContractParts place x ps rs) ms) limit ts (method_of place x ps rs c None) (c, ms, [], refl, g, (None, [], [], refl, no_body_for, (refl, refl)))

-- the body of a method
body_tells : (place : Place) (x : Placed) (ps rs : List Declaration) (c : Clauses) (ms : List Mark) (ts : List Token) → ClausesFor false c ms → Tells (After (ContractParts place x ps rs) ms) limit ts (body_at limit ts >>= λ b. Ok (method_of place x ps rs c b.0, b.1))
unfolding body_at
body_tells place x ps rs c ms ts g = body_by_tells place x ps rs c ms ts (begins_braces ts) (begins_decreases ts) refl g

parts_tells : (place : Place) (ts : List Token) → Tells (MethodParts place) limit ts (method_at limit place ts)
unfolding method_at
parts_tells place ts =
    tells_sequence (NameFor 0) _ limit ts (name_at ts) _ (λ x. starts_header place x) (name_tells limit 0 ts (omega arith))
    (λ x us. tells_sequence (ParametersFor 0) _ limit us (parameters_at us) _ (λ ps. starts_rest place x ps) (parameters_tells limit 0 us (omega arith))
    (λ ps vs. tells_sequence (ReturnsFor 0) _ limit vs (returns_at vs) _ (λ rs. starts_contract place x ps rs) (returns_tells limit 0 vs (omega arith))
    (λ rs ws. tells_sequence_by (ClausesFor false) _ limit ws (clauses_at limit false ws) _ (λ c. starts_with_body place x ps rs c) (clauses_tells false ws)
    (λ c xs ms g. body_tells place x ps rs c ms xs g))))

-- a method that begins with this token
pub method_tells : (t : Token) (ts : List Token) → t.kind ≡ word words.Method → Tells MethodFor limit (t ∷ ts) (method_at limit t.place ts)
method_tells t ts k =
    tells_as (Nested (record { token = t; count = 0 }) (MethodParts t.place)) MethodFor limit (t ∷ ts) _ (method_of_led t k)
    (led_tells (MethodParts t.place) limit 0 t ts _ (omega arith) (parts_tells t.place ts))
