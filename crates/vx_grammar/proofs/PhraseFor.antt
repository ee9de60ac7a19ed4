-- The marks of phrases that mean so, and what nests.
use Rattle.std.proofs.Common.{◌≡◌, ℕ, zero, suc, ◌+◌, ◌≤◌, ◌<◌, List, [], ◌∷◌, ◌++◌, Bool, true, false, cond, Ok, refl, sym, ap, subst, ◌∙◌, arith}
use Rattle.std.proofs.lemmas.List.{append-nil}
use Rattle.vx_ast.specs.declared.Place.{Place}
use Rattle.vx_tokens.specs.declared.token.Symbol.TheVariants as signs
use Rattle.vx_tokens.specs.Tokens.{Token}
use Rattle.vx_ast.specs.Written.{Expr}
use Rattle.vx_grammar.specs.Grammar.{operator_of, Phrase, literal, Mark, marks, tokens_of, start_of, meant, ends_open, StandsAt}
use Rattle.vx_grammar.specs.Reading.{Read, Part, Given, is_symbol, part_at, below}
use Rattle.vx_grammar.proofs.Lists.{reach_by, stands_looser, begins}
use Rattle.vx_grammar.proofs.Tells.{Grammar, Starts, Takes, TellsBy, Tells, After, somewhere, takes_none, tells_by_as, tells_by_here}
use Rattle.vx_grammar.proofs.Bracketed.{Nested, led_by_tells}

-- the marks of a phrase that stands at a level, and means the expression
pub record PhraseFor (n level : ℕ) (e : Expr) (ms : List Mark) : Type 0 where
  pub phrase : Phrase
  pub stands : StandsAt level phrase
  pub means : meant phrase ≡ e
  pub spelled : marks n phrase ≡ ms

pub any_phrase : Phrase
any_phrase = literal somewhere true

pub starts_any : (n level : ℕ) → Starts (PhraseFor n level) []
unfolding any_phrase
starts_any n level = record { value = meant any_phrase; more = marks n any_phrase; spelled = record { phrase = any_phrase; stands = tt; means = refl; spelled = refl } }

-- what nests, where what was read may depend on what is left
pub nested_by_tells : (p : Part) (R : List Token → Grammar (Given p)) (S : Grammar (Given p)) (limit n room : ℕ) (t : Token) (ts : List Token) → n + room ≡ limit → Starts S [] → ((less : ℕ) → room ≡ less + 1 → TellsBy R S limit ts (part_at (below less) p ts))
    → TellsBy (λ l. Nested (record { token = t; count = n + 1 }) (R l)) (Nested (record { token = t; count = n + 1 }) S) limit (t ∷ ts) (below room p (t ∷ ts) ts)
unfolding below
nested_by_tells p R S limit n zero t ts e s h =
    let m : Mark = record { token = t; count = n + 1 } in
    record {
      marks = [];
      takes = takes_none limit (t ∷ ts);
      deep = m;
      after = ts;
      first = refl;
      count = omega (arith, e);
      starts = record { value = s.value; more = s.more; spelled = record { inner = s.more; is = refl; spelled = s.spelled } };
    }
nested_by_tells p R S limit n (suc less) t ts e s h = led_by_tells R S limit (n + 1) t ts (part_at (below less) p ts) (omega (arith, e)) (h less (omega arith))

pub tells_nested : (p : Part) (R : Grammar (Given p)) (limit n room : ℕ) (t : Token) (ts : List Token) → n + room ≡ limit → Starts R [] → ((less : ℕ) → room ≡ less + 1 → Tells R limit ts (part_at (below less) p ts)) → Tells (Nested (record { token = t; count = n + 1 }) R) limit (t ∷ ts) (below room p (t ∷ ts) ts)
tells_nested p R limit n room t ts e s h = nested_by_tells p (λ l. R) R limit n room t ts e s h

pub count_down : (limit n room less : ℕ) → n + room ≡ limit → room ≡ less + 1 → (n + 1) + less ≡ limit
count_down limit n room less e s = omega arith

pub looser : (n j k : ℕ) → j ≤ k → (e : Expr) (ms : List Mark) → PhraseFor n j e ms → PhraseFor n k e ms
looser n j k le e ms r = record { phrase = r.phrase; stands = stands_looser r.phrase j k le r.stands; means = r.means; spelled = r.spelled }

-- the place of the first token, as the phrase has it
pub first_place : (limit n : ℕ) (w : Phrase) (t : Token) (ts rest : List Token) (ms : List Mark) → marks n w ≡ ms → Takes limit (t ∷ ts) ms rest → t.place ≡ start_of w
first_place limit n w t ts rest ms e takes =
    let b = begins w n rest in
    let same : t ∷ ts ≡ b.first ∷ b.rest = takes.tokens ∙ ap (λ l. tokens_of l ++ rest) (sym e) ∙ b.is in
    let one : t ≡ b.first = cc in
    ap (λ (u : Token). u.place) one ∙ b.place

-- ---- edges

-- no operator goes on with an expression of the level
abbrev pub Stops : ℕ → List Token → Type 0
Stops level [] = Unit {0}
Stops level (t ∷ ts) = level < reach_by (operator_of t.kind) (is_symbol signs.Question t.kind)

-- A phrase that ends open takes in all operators.
abbrev pub edge : ℕ → Phrase → ℕ
edge level w = cond (ends_open w) 8 level

-- a phrase that stands at a level, and no operator behind it goes on with it
pub record PhraseUpTo (n level : ℕ) (rest : List Token) (e : Expr) (ms : List Mark) : Type 0 where
  pub base : PhraseFor n level e ms
  pub stops : Stops (edge level base.phrase) rest

-- what reading a phrase tells, with what is left
abbrev pub Edged : (n level limit : ℕ) → List Token → Read Expr → Type 0
Edged n level limit ts r = TellsBy (PhraseUpTo n level) (PhraseFor n level) limit ts r

-- what stands behind a phrase
abbrev pub EdgedBehind : (n level : ℕ) (ms : List Mark) (limit : ℕ) → List Token → Read Expr → Type 0
EdgedBehind n level ms limit ts r = TellsBy (λ l. After (PhraseUpTo n level l) ms) (After (PhraseFor n level) ms) limit ts r

pub plainly : (n level limit : ℕ) (ts : List Token) (r : Read Expr) → Edged n level limit ts r → Tells (PhraseFor n level) limit ts r
plainly n level limit ts r h = tells_by_as (PhraseUpTo n level) (PhraseFor n level) (λ l. PhraseFor n level) (PhraseFor n level) limit ts r (λ rest x ms g. g.base) (λ x ms g. g) h

-- what was read is this phrase, and nothing more is taken
pub edged_here : (n level : ℕ) (w : Phrase) (limit : ℕ) (ts : List Token) → StandsAt level w → Stops (edge level w) ts → EdgedBehind n level (marks n w) limit ts (Ok (meant w, ts))
edged_here n level w limit ts st h = tells_by_here (λ l. After (PhraseUpTo n level l) (marks n w)) (After (PhraseFor n level) (marks n w)) limit ts (meant w) (subst (λ l. PhraseUpTo n level ts (meant w) l) (sym (append-nil (marks n w))) (record { base = record { phrase = w; stands = st; means = refl; spelled = refl }; stops = h }))

-- where an operator of at most the level 8 follows, the phrase is closed
pub closed_at : (level : ℕ) (w : Phrase) (t : Token) (ts : List Token) → Stops (edge level w) (t ∷ ts) → reach_by (operator_of t.kind) (is_symbol signs.Question t.kind) ≤ 8 → ends_open w ≡ false
closed_at level w t ts h le = by_end (ends_open w) refl h
  where
    by_end : (b : Bool) → ends_open w ≡ b → cond b 8 level < reach_by (operator_of t.kind) (is_symbol signs.Question t.kind) → ends_open w ≡ false
    by_end true e h = absurd (omega (arith, h, le))
    by_end false e h = e

-- from one level to the next: what is shown where the phrase is closed holds
pub stops_on : (j k : ℕ) (w : Phrase) (ts : List Token) → Stops (edge j w) ts → (Stops j ts → Stops k ts) → Stops (edge k w) ts
stops_on j k w ts h f = by_end (ends_open w) h
  where
    by_end : (b : Bool) → Stops (cond b 8 j) ts → Stops (cond b 8 k) ts
    by_end true h = h
    by_end false h = f h

-- the same edge
pub same_edge : (level : ℕ) (v w : Phrase) (ts : List Token) → ends_open v ≡ ends_open w → Stops (edge level v) ts → Stops (edge level w) ts
same_edge level v w ts e h = subst (λ b. Stops (cond b 8 level) ts) e h

-- behind a phrase that was read from the first token on
pub edged_behind : (limit n j k : ℕ) (f : Place → Expr → List Token → Read Expr) (t : Token) (ts rest : List Token) (x : Expr) (ms : List Mark) (r : PhraseFor n j x ms) → Takes limit (t ∷ ts) ms rest
    → EdgedBehind n k (marks n r.phrase) limit rest (f (start_of r.phrase) (meant r.phrase) rest) → EdgedBehind n k ms limit rest (f t.place x rest)
edged_behind limit n j k f t ts rest x ms r takes h =
    let at_place : start_of r.phrase ≡ t.place = sym (first_place limit n r.phrase t ts rest ms r.spelled takes) in
    subst (λ l. EdgedBehind n k l limit rest (f t.place x rest)) r.spelled
    (subst (λ y. EdgedBehind n k (marks n r.phrase) limit rest (f t.place y rest)) r.means
    (subst (λ q. EdgedBehind n k (marks n r.phrase) limit rest (f q (meant r.phrase) rest)) at_place h))

-- behind a phrase that was read from the first token on
pub behind_phrase : {A : Type 0} (R : ℕ → Grammar A) (limit n level : ℕ) (f : Place → Expr → List Token → Read A) (t : Token) (ts rest : List Token) (x : Expr) (ms : List Mark) (r : PhraseFor n level x ms) → Takes limit (t ∷ ts) ms rest
    → Tells (After (R n) (marks n r.phrase)) limit rest (f (start_of r.phrase) (meant r.phrase) rest) → Tells (After (R n) ms) limit rest (f t.place x rest)
behind_phrase R limit n level f t ts rest x ms r takes h =
    let at_place : start_of r.phrase ≡ t.place = sym (first_place limit n r.phrase t ts rest ms r.spelled takes) in
    subst (λ l. Tells (After (R n) l) limit rest (f t.place x rest)) r.spelled
    (subst (λ y. Tells (After (R n) (marks n r.phrase)) limit rest (f t.place y rest)) r.means
    (subst (λ q. Tells (After (R n) (marks n r.phrase)) limit rest (f q (meant r.phrase) rest)) at_place h))
