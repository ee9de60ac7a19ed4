-- The laws of reading all of the tokens as one expression.
use Rattle.std.proofs.Common.{◌≡◌, false, ℕ, ◌+◌, ◌≤◌, List, [], ◌∷◌, ◌++◌, Ok, Err, refl, sym, ap, ◌∙◌, append_assoc, arith, max}
use Rattle.std.proofs.lemmas.List.{append-nil, append_cancel_right}
use Rattle.vx_tokens.specs.Tokens.{Token}
use Rattle.vx_ast.specs.Written.{Expr}
use Rattle.vx_grammar.specs.Grammar.{Phrase, Mark, marks, tokens_of, meant, StandsAt}
use Rattle.vx_grammar.specs.Reading.{◌>>=◌, Read, Unexpected, Measured, TooDeep, choice_at, below}
use Rattle.vx_grammar.specs.Laws.{Within, CanGoOn, NoneFits, no_rest, whole, Says, AnswersAreRight, SpelledIsRead, SpelledOnce}
use Rattle.vx_grammar.proofs.Complete.{is_read}
use Rattle.vx_grammar.proofs.Tells.{Tells, Starts}
use Rattle.vx_grammar.proofs.Means.{reading_tells}
use Rattle.vx_grammar.proofs.Local.{Local, Front, SameHead, front_less}
use Rattle.vx_grammar.proofs.LocalExpr.{reading_local}
use Rattle.vx_grammar.proofs.PhraseFor.{PhraseFor}

-- ---- a limit that is high enough

highest : List Mark → ℕ
highest [] = 0
highest (m ∷ ms) = max m.count (highest ms)

within_more : (limit more : ℕ) (ms : List Mark) → limit ≤ more → Within limit ms → Within more ms
within_more limit more [] le h = tt
within_more limit more (m ∷ ms) le h = (omega (arith, h.0, le), within_more limit more ms le h.1)

within_highest : (ms : List Mark) → Within (highest ms) ms
unfolding highest
within_highest [] = tt
within_highest (m ∷ ms) = (omega arith, within_more (highest ms) (max m.count (highest ms)) ms (omega arith) (within_highest ms))

-- a phrase is read where there is room enough
read_high : (w : Phrase) (room : ℕ) → StandsAt 8 w → choice_at (below (room + highest (marks 0 w))) (tokens_of (marks 0 w)) ≡ Ok (meant w, [])
read_high w room st =
    let high = room + highest (marks 0 w) in
    let h = within_more (highest (marks 0 w)) high (marks 0 w) (omega arith) (within_highest (marks 0 w)) in
    ap (choice_at (below high)) (sym (append-nil (tokens_of (marks 0 w)))) ∙ is_read high 0 high w [] (omega arith) h st tt

ok_of : Expr → List Token → Read Expr
ok_of e ts = Ok (e, ts)

ok_value : (e f : Expr) (ts : List Token) → ok_of e ts ≡ ok_of f ts → e ≡ f
unfolding ok_of
ok_value e f ts h = let pair : (let x : Expr × List Token = (e, ts) in x) ≡ (f, ts) = cc in ap (λ (x : Expr × List Token). x.0) pair

pub spelled_once : SpelledOnce
unfolding ok_of
spelled_once ts e f a b =
    let i = highest (marks 0 a.phrase) in
    let j = highest (marks 0 b.phrase) in
    let x : choice_at (below (j + i)) ts ≡ Ok (e, []) = rw (← a.tokens, ← a.means) (read_high a.phrase j a.stands) in
    let y : choice_at (below (i + j)) ts ≡ Ok (f, []) = rw (← b.tokens, ← b.means) (read_high b.phrase i b.stands) in
    let k : j + i ≡ i + j = omega arith in
    ok_value e f [] (sym x ∙ ap (λ r. choice_at (below r) ts) k ∙ y)

pub spelled_is_read : SpelledIsRead
unfolding whole
spelled_is_read limit ts e s =
    let w = s.spelled.phrase in
    let x : choice_at (below limit) ts ≡ Ok (e, []) =
    rw (← s.spelled.tokens, ← s.spelled.means) (ap (choice_at (below limit)) (sym (append-nil (tokens_of (marks 0 w)))) ∙ is_read limit 0 limit w [] (omega arith) s.within s.spelled.stands tt) in
    rw x refl

-- ---- what each answer says

-- what is answered where reading stops, again with more room and other tokens behind
repeat : (limit : ℕ) (ts : List Token) (ms : List Mark) (rest : List Token) → ts ≡ tokens_of ms ++ rest → (answer : List Token → Read Expr) → ((more : ℕ) → Front false ts rest answer (choice_at (below (limit + more))))
    → (more : ℕ) (next : List Token) → SameHead rest next → choice_at (below (limit + more)) (tokens_of ms ++ next) ≡ answer next
repeat limit ts ms rest e answer f more next same =
    let g = f more in
    let front : g.front ≡ tokens_of ms = append_cancel_right g.front (tokens_of ms) rest (sym g.is ∙ e) in
    rw (← front) (g.repeats next same)

none_fits : (limit : ℕ) (front rest : List Token) (answer : List Token → Read Expr)
    → ((more : ℕ) (next : List Token) → SameHead rest next → choice_at (below (limit + more)) (front ++ next) ≡ answer next)
    → ((next : List Token) (x : Expr) → SameHead rest next → answer next ≡ Ok (x, []) → ⊥) → NoneFits front rest
none_fits limit front [] answer h not = λ e s.
    let high = highest (marks 0 s.phrase) in
    let read : choice_at (below (limit + high)) (front ++ []) ≡ Ok (meant s.phrase, []) = rw (append-nil front, ← s.tokens) (read_high s.phrase limit s.stands) in
    not [] (meant s.phrase) tt (sym (h high [] tt) ∙ read)
none_fits limit front (t ∷ rest) answer h not = λ e after s.
    let high = highest (marks 0 s.phrase) in
    let read : choice_at (below (limit + high)) (front ++ t ∷ after) ≡ Ok (meant s.phrase, []) = rw (← s.tokens) (read_high s.phrase limit s.stands) in
    not (t ∷ after) (meant s.phrase) refl (sym (h high (t ∷ after) refl) ∙ read)

first_goes_on : (ms ns : List Mark) → CanGoOn (ms ++ ns) → CanGoOn ms
first_goes_on ms ns c = record { phrase = c.phrase; stands = c.stands; more = ns ++ c.more; marks = c.marks ∙ append_assoc ms ns c.more }

goes_on_from : (ms : List Mark) → Starts (PhraseFor 0 8) ms → CanGoOn ms
goes_on_from ms s = record { phrase = s.spelled.phrase; stands = s.spelled.stands; more = s.more; marks = s.spelled.spelled }

-- an expression is read, and tokens are left
not_all : (e x : Expr) (t : Token) (rest next : List Token) → SameHead (t ∷ rest) next → ok_of e next ≡ ok_of x [] → ⊥
unfolding ok_of
not_all e x t rest [] same h = same
not_all e x t rest (s ∷ next) same h = let pair : (let y : Expr × List Token = (e, s ∷ next) in y) ≡ (x, []) = cc in let bad = ap (λ (y : Expr × List Token). y.1) pair in cc

says : (limit : ℕ) (ts : List Token) (r : Read Expr) → ((more : ℕ) → Local ts r (choice_at (below (limit + more)))) → Tells (PhraseFor 0 8) limit ts r → Says limit ts (r >>= λ x. no_rest x.0 x.1)
unfolding ok_of
says limit ts (Ok (e, [])) again h =
    let w = h.spelled in
    record {
      spelled = record { phrase = w.phrase; stands = w.stands; means = w.means; tokens = ap tokens_of w.spelled ∙ sym (append-nil (tokens_of h.marks)) ∙ sym h.takes.tokens };
      within = rw w.spelled h.takes.within;
    }
says limit ts (Ok (e, t ∷ rest)) again h =
    let w = h.spelled in
    record {
      front = h.marks;
      fits = record { tokens = h.takes.tokens; within = h.takes.within; goes_on = record { phrase = w.phrase; stands = w.stands; more = []; marks = w.spelled ∙ sym (append-nil h.marks) } };
      none = none_fits limit (tokens_of h.marks) (t ∷ rest) (λ l. Ok (e, l)) (repeat limit ts h.marks (t ∷ rest) h.takes.tokens (λ l. Ok (e, l)) (λ more. front_less false ts (t ∷ rest) (λ l. Ok (e, l)) _ (again more))) (λ next x same q. not_all e x t rest next same q);
    }
says limit ts (Err (Unexpected rest)) again h = record {
  front = h.marks;
  fits = record { tokens = h.takes.tokens; within = h.takes.within; goes_on = goes_on_from h.marks h.starts };
  none = none_fits limit (tokens_of h.marks) rest (λ l. Err (Unexpected l)) (repeat limit ts h.marks rest h.takes.tokens (λ l. Err (Unexpected l)) (λ more. front_less false ts rest (λ l. Err (Unexpected l)) _ (again more))) (λ next x same q. cc);
}
says limit ts (Err (Measured rest)) again h = record {
  front = h.marks;
  fits = record { tokens = h.takes.tokens; within = h.takes.within; goes_on = first_goes_on h.marks (h.block ∷ []) (goes_on_from (h.marks ++ h.block ∷ []) h.block_starts) };
  none = none_fits limit (tokens_of h.marks) rest (λ l. Err (Measured l)) (repeat limit ts h.marks rest h.takes.tokens (λ l. Err (Measured l)) again) (λ next x same q. cc);
}
says limit ts (Err (TooDeep rest)) again h = record {
  front = h.marks;
  deep = h.deep;
  after = h.after;
  first = h.first;
  fits = record { tokens = h.takes.tokens; within = h.takes.within; goes_on = first_goes_on h.marks (h.deep ∷ []) (goes_on_from (h.marks ++ h.deep ∷ []) h.starts) };
  count = h.count;
  goes_on = goes_on_from (h.marks ++ h.deep ∷ []) h.starts;
}

pub answers_are_right : AnswersAreRight
unfolding whole
answers_are_right limit ts = says limit ts (choice_at (below limit) ts) (λ more. reading_local limit more ts) (reading_tells limit 0 limit ts (omega arith))
