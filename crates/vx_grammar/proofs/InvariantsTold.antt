-- What reading clauses of one kind at a nesting count, and the invariants of a loop, tells.
use Rattle.std.proofs.Common.{◌≡◌, ℕ, ◌+◌, ◌-◌, ◌≤◌, List, [], ◌∷◌, ◌++◌, Option, Some, None, Bool, true, false, Ok, Err, length, refl, sym, ap, subst, ◌∙◌, append_assoc, arith, cond, leb, length-append}
use Rattle.std.proofs.lemmas.List.{append-nil}
use Rattle.std.proofs.lemmas.Bool.{leb-true, leb-false}
use Rattle.vx_ast.specs.declared.Place.{Place}
use Rattle.vx_ast.specs.Written.{Expr, Exprs, NoMore, More}
use Rattle.vx_tokens.specs.declared.token.Word.TheVariants as words
use Rattle.vx_tokens.specs.declared.token.Symbol.TheVariants as signs
use Rattle.vx_tokens.specs.Tokens.{Token, Kind, word, symbol}
use Rattle.vx_grammar.specs.Grammar.{Phrase, literal, Mark, mark, marks, meant, StandsAt}
use Rattle.vx_grammar.specs.Statements.{semi_marks, InvariantsPhrase, no_invariants, invariant, invariants_meant, InvariantsStand, invariants_marks}
use Rattle.vx_grammar.specs.Reading.{◌>>=◌, TooDeep, is_symbol, run, exprs_from, choice_at, below}
use Rattle.vx_grammar.specs.StmtReading.{skip_semicolon, clause_at, begins_invariant, invariant_turn, invariants_at}
use Rattle.vx_grammar.proofs.Symbols.{is_symbol_true}
use Rattle.vx_grammar.proofs.Tells.{Grammar, somewhere, Starts, Tells, takes_none, tells_as, tells_here, tells_token, marks_is}
use Rattle.vx_grammar.proofs.Sequence.{Sequence, Nothing, tells_sequence, starts_nothing, tells_nothing}
use Rattle.vx_grammar.proofs.Steps.{Step, TurnFor, StepsBy, StepsFor, run_tells}
use Rattle.vx_grammar.proofs.Bracketed.{Nested, led_tells}
use Rattle.vx_grammar.proofs.PhraseFor.{PhraseFor, starts_any}
use Rattle.vx_grammar.proofs.Means.{reading_tells}

-- ---- a value, and then a semicolon or none

abbrev SemiAt : {A : Type 0} → ℕ → A → Grammar A
SemiAt n v y ms = (semi : Option Place) × (y ≡ v) × (ms ≡ semi_marks n semi)

starts_semi : {A : Type 0} (n : ℕ) (v : A) → Starts (SemiAt n v) []
starts_semi n v = record { value = v; more = []; spelled = (None, refl, refl) }

semi_by_tells : {A : Type 0} (limit n : ℕ) (v : A) (t : Token) (ts : List Token) (b : Bool) → is_symbol signs.Semicolon t.kind ≡ b → n ≤ limit → Tells (SemiAt n v) limit (t ∷ ts) (Ok (v, cond b ts (t ∷ ts)))
semi_by_tells limit n v t ts true h le =
    let k = is_symbol_true signs.Semicolon t.kind h in
    tells_token (SemiAt n v) limit (record { token = t; count = n }) ts v le (Some t.place, refl, sym (marks_is t (symbol signs.Semicolon) n [] k))
semi_by_tells limit n v t ts false h le = tells_here (SemiAt n v) limit (t ∷ ts) v (None, refl, refl)

semi_tells : {A : Type 0} (limit n : ℕ) (v : A) (ts : List Token) → n ≤ limit → Tells (SemiAt n v) limit ts (Ok (v, skip_semicolon ts))
semi_tells limit n v [] le = tells_here (SemiAt n v) limit [] v (None, refl, refl)
semi_tells limit n v (t ∷ ts) le = semi_by_tells limit n v t ts (is_symbol signs.Semicolon t.kind) refl le

-- ---- one clause

clause_by_tells : (limit n room before : ℕ) (t : Token) (ts : List Token) (b : Bool) → leb before room ≡ b → n + room ≡ limit → Tells (Nested (record { token = t; count = n + before }) (PhraseFor (n + before) 8)) limit (t ∷ ts) (cond b (choice_at (below (room - before)) ts) (Err (TooDeep (t ∷ ts))))
clause_by_tells limit n room before t ts true h e =
    let le : before ≤ room = leb-true _ _ h in
    led_tells (PhraseFor (n + before) 8) limit (n + before) t ts _ (omega (arith, le, e)) (reading_tells limit (n + before) (room - before) ts (omega (arith, le, e)))
clause_by_tells limit n room before t ts false h e =
    let m : Mark = record { token = t; count = n + before } in
    let s = starts_any (n + before) 8 in
    let more = leb-false before room h in
    record {
      marks = [];
      takes = takes_none limit (t ∷ ts);
      deep = m;
      after = ts;
      first = refl;
      count = omega (arith, more, e);
      starts = record { value = s.value; more = s.more; spelled = record { inner = s.more; is = refl; spelled = s.spelled } };
    }

clause_tells : (limit n room before : ℕ) (t : Token) (ts : List Token) → n + room ≡ limit → Tells (Nested (record { token = t; count = n + before }) (PhraseFor (n + before) 8)) limit (t ∷ ts) (clause_at room before (t ∷ ts) ts)
unfolding clause_at
clause_tells limit n room before t ts e = clause_by_tells limit n room before t ts (leb before room) refl e

-- ---- invariants

pub record OneInvariant (n : ℕ) (before after : List Expr) (ms : List Mark) : Type 0 where
  pub at : Place
  pub clause : Phrase
  pub semi : Option Place
  pub stands : StandsAt 8 clause
  pub means : after ≡ before ++ meant clause ∷ []
  pub spelled : ms ≡ mark (n + length before) at (word words.Invariant) ∷ (marks (n + length before) clause ++ semi_marks n semi)

abbrev pub InvariantStep : ℕ → Step (List Expr)
InvariantStep n before after ms = OneInvariant n before after ms

abbrev OneParts : ℕ → Token → List Expr → Grammar (Option (List Expr))
OneParts n t before = Sequence (Nested (record { token = t; count = n + length before }) (PhraseFor (n + length before) 8)) (λ e. SemiAt n (Some (before ++ e ∷ [])))

one_of : (n : ℕ) (before : List Expr) (t : Token) → t.kind ≡ word words.Invariant → (o : Option (List Expr)) (ms : List Mark) → OneParts n t before o ms → TurnFor (InvariantStep n) before o ms
one_of n before t k o ms (e, a, b, q, h, (semi, v, z)) =
    let c = n + length before in
    subst (λ x. TurnFor (InvariantStep n) before x ms) (sym v) (record {
      at = t.place;
      clause = h.spelled.phrase;
      semi = semi;
      stands = h.spelled.stands;
      means = ap (λ x. before ++ x ∷ []) (sym h.spelled.means);
      spelled = q ∙ ap (λ l. l ++ b) (h.is ∙ ap (λ l. let m : Mark = record { token = t; count = c } in m ∷ l) (sym h.spelled.spelled) ∙ sym (marks_is t (word words.Invariant) c _ k)) ∙ ap (λ l. mark c t.place (word words.Invariant) ∷ (marks c h.spelled.phrase ++ l)) z;
    })

invariant_word : (k : Kind) → begins_invariant k ≡ true → k ≡ word words.Invariant
invariant_word (word words.Invariant) h = refl
invariant_word k h = absurd cc

turn_by_tells : (limit n room : ℕ) (before : List Expr) (t : Token) (ts : List Token) (b : Bool) → begins_invariant t.kind ≡ b → n + room ≡ limit
    → Tells (TurnFor (InvariantStep n) before) limit (t ∷ ts) (cond b (clause_at room (length before) (t ∷ ts) ts >>= λ e. Ok (Some (before ++ e.0 ∷ []), skip_semicolon e.1)) (Ok (None, t ∷ ts)))
turn_by_tells limit n room before t ts true h e =
    tells_as (OneParts n t before) (TurnFor (InvariantStep n) before) limit (t ∷ ts) _ (one_of n before t (invariant_word t.kind h))
    (tells_sequence (Nested (record { token = t; count = n + length before }) (PhraseFor (n + length before) 8)) _ limit (t ∷ ts) (clause_at room (length before) (t ∷ ts) ts) _ (λ x. starts_semi n _) (clause_tells limit n room (length before) t ts e) (λ x us. semi_tells limit n _ us (omega (arith, e))))
turn_by_tells limit n room before t ts false h e = tells_here (TurnFor (InvariantStep n) before) limit (t ∷ ts) None refl

pub invariant_turn_tells : (limit n room : ℕ) → n + room ≡ limit → (before : List Expr) (ts : List Token) → Tells (TurnFor (InvariantStep n) before) limit ts (invariant_turn room before ts)
unfolding invariant_turn
invariant_turn_tells limit n room e before [] = tells_here (TurnFor (InvariantStep n) before) limit [] None refl
invariant_turn_tells limit n room e before (t ∷ ts) = turn_by_tells limit n room before t ts (begins_invariant t.kind) refl e

abbrev pub invariant_list : InvariantsPhrase → List Expr
invariant_list no_invariants = []
invariant_list (invariant p e semi rest) = meant e ∷ invariant_list rest

pub invariants_same : (w : InvariantsPhrase) → exprs_from (invariant_list w) ≡ invariants_meant w
invariants_same no_invariants = refl
invariants_same (invariant p e semi rest) = ap (More (meant e)) (invariants_same rest)

record RowStep (n : ℕ) (before after : List Expr) (ms : List Mark) : Type 0 where
  phrase : InvariantsPhrase
  stands : InvariantsStand phrase
  means : before ++ invariant_list phrase ≡ after
  spelled : invariants_marks n (length before) phrase ≡ ms

row_step : (n : ℕ) (before m after : List Expr) (ms a b : List Mark) → ms ≡ a ++ b → OneInvariant n before m a → RowStep n m after b → RowStep n before after ms
row_step n before m after ms a b q c r =
    let k = n + length before in
    let counts : length before + 1 ≡ length m = sym (length-append before (meant c.clause ∷ [])) ∙ ap length (sym c.means) in
    record {
      phrase = invariant c.at c.clause c.semi r.phrase;
      stands = (c.stands, r.stands);
      means = sym (append_assoc before (meant c.clause ∷ []) (invariant_list r.phrase)) ∙ ap (λ l. l ++ invariant_list r.phrase) (sym c.means) ∙ r.means;
      spelled = ap (λ l. mark k c.at (word words.Invariant) ∷ (marks k c.clause ++ (semi_marks n c.semi ++ l))) (ap (λ i. invariants_marks n i r.phrase) counts ∙ r.spelled)
          ∙ ap (λ l. mark k c.at (word words.Invariant) ∷ l) (sym (append_assoc (marks k c.clause) (semi_marks n c.semi) b)) ∙ ap (λ l. l ++ b) (sym c.spelled) ∙ sym q;
    }

row_steps : (n : ℕ) (path : List (List Expr)) (before after : List Expr) (ms : List Mark) → StepsBy (InvariantStep n) path before after ms → RowStep n before after ms
row_steps n [] before after ms (e, z) = record { phrase = no_invariants; stands = tt; means = append-nil before ∙ e; spelled = sym z }
row_steps n (m ∷ path) before after ms (a, b, q, c, h) = row_step n before m after ms a b q c (row_steps n path m after b h)

pub record InvariantsFor (n : ℕ) (es : Exprs) (ms : List Mark) : Type 0 where
  pub phrase : InvariantsPhrase
  pub stands : InvariantsStand phrase
  pub means : invariants_meant phrase ≡ es
  pub spelled : invariants_marks n 0 phrase ≡ ms

-- one invariant more
more_invariants : InvariantsPhrase → InvariantsPhrase
more_invariants no_invariants = invariant somewhere (literal somewhere true) None no_invariants
more_invariants (invariant p e semi rest) = invariant p e semi (more_invariants rest)

more_stand : (w : InvariantsPhrase) → InvariantsStand w → InvariantsStand (more_invariants w)
unfolding more_invariants
more_stand no_invariants st = (tt, tt)
more_stand (invariant p e semi rest) st = (st.0, more_stand rest st.1)

-- how many there are behind so many
all_of : ℕ → InvariantsPhrase → ℕ
all_of k no_invariants = k
all_of k (invariant p e semi rest) = all_of (k + 1) rest

more_spelled : (n k : ℕ) (w : InvariantsPhrase) → (let c = n + all_of k w in invariants_marks n k (more_invariants w) ≡ invariants_marks n k w ++ mark c somewhere (word words.Invariant) ∷ mark c somewhere (word words.True) ∷ [])
unfolding more_invariants all_of
more_spelled n k no_invariants = refl
more_spelled n k (invariant p e semi rest) =
    let c = n + k in
    let d = n + all_of (k + 1) rest in
    let one = mark d somewhere (word words.Invariant) ∷ mark d somewhere (word words.True) ∷ [] in
    ap (λ l. mark c p (word words.Invariant) ∷ (marks c e ++ (semi_marks n semi ++ l))) (more_spelled n (k + 1) rest)
    ∙ ap (λ l. mark c p (word words.Invariant) ∷ l) (ap (λ l. marks c e ++ l) (sym (append_assoc (semi_marks n semi) (invariants_marks n (k + 1) rest) one)) ∙ sym (append_assoc (marks c e) (semi_marks n semi ++ invariants_marks n (k + 1) rest) one))

-- behind invariants one more may come
pub record OneMore (n : ℕ) (ms : List Mark) : Type 0 where
  pub first : Mark
  pub first_is : first.token.kind ≡ word words.Invariant
  pub more : List Mark
  pub value : Exprs
  pub spelled : InvariantsFor n value (ms ++ first ∷ more)

pub one_more : (n : ℕ) (es : Exprs) (ms : List Mark) → InvariantsFor n es ms → OneMore n ms
one_more n es ms r =
    let c = n + all_of 0 r.phrase in
    record {
      first = mark c somewhere (word words.Invariant);
      first_is = refl;
      more = mark c somewhere (word words.True) ∷ [];
      value = invariants_meant (more_invariants r.phrase);
      spelled = record {
        phrase = more_invariants r.phrase;
        stands = more_stand r.phrase r.stands;
        means = refl;
        spelled = more_spelled n 0 r.phrase ∙ ap (λ l. l ++ mark c somewhere (word words.Invariant) ∷ mark c somewhere (word words.True) ∷ []) r.spelled;
      };
    }

pub starts_invariants : (n : ℕ) → Starts (InvariantsFor n) []
starts_invariants n = record { value = NoMore; more = []; spelled = record { phrase = no_invariants; stands = tt; means = refl; spelled = refl } }

invariants_of : (n : ℕ) (es : Exprs) (ms : List Mark) → Sequence (StepsFor (InvariantStep n) []) (λ l. Nothing (exprs_from l)) es ms → InvariantsFor n es ms
invariants_of n es ms (l, a, b, q, (path, h), (v, z)) =
    let r = row_steps n path [] l a h in
    record {
      phrase = r.phrase;
      stands = r.stands;
      means = sym (invariants_same r.phrase) ∙ ap exprs_from r.means ∙ sym v;
      spelled = r.spelled ∙ sym (q ∙ rw z (append-nil a));
    }

pub invariants_tells : (limit n room : ℕ) (ts : List Token) → n + room ≡ limit → Tells (InvariantsFor n) limit ts (invariants_at room ts)
unfolding invariants_at
invariants_tells limit n room ts e =
    tells_as (Sequence (StepsFor (InvariantStep n) []) (λ l. Nothing (exprs_from l))) (InvariantsFor n) limit ts _ (invariants_of n)
    (tells_sequence (StepsFor (InvariantStep n) []) _ limit ts (run (invariant_turn room) (length ts) [] ts) _ (λ l. starts_nothing _) (run_tells (InvariantStep n) limit (invariant_turn room) (invariant_turn_tells limit n room e) (length ts) [] ts) (λ l us. tells_nothing limit us _))
