-- What an answer of reading tells of the tokens, for any part of the grammar.
use Rattle.std.proofs.Common.{◌≡◌, ℕ, ◌≤◌, ◌<◌, List, [], ◌∷◌, ◌++◌, Bool, true, false, Ok, Err, refl, sym, ap, subst, ◌∙◌, append_assoc, cond}
use Rattle.std.proofs.lemmas.List.{append-nil}
use Rattle.vx_ast.specs.declared.Place.{Place}
use Rattle.vx_ast.specs.Written.{Placed, placed}
use Rattle.vx_tokens.specs.declared.token.Word.TheVariants as words
use Rattle.vx_tokens.specs.declared.token.Symbol.{Symbol}
use Rattle.vx_tokens.specs.declared.token.Symbol.TheVariants as signs
use Rattle.vx_tokens.specs.Tokens.{Token, Kind, name, number, word, symbol}
use Rattle.vx_grammar.specs.Grammar.{Mark, mark, tokens_of}
use Rattle.vx_grammar.specs.Reading.{◌>>=◌, Read, Unexpected, Measured, TooDeep, expect, is_symbol, name_by, name_at}
use Rattle.vx_grammar.specs.StmtReading.{is_measure, begins_decreases}
use Rattle.vx_grammar.specs.Laws.{Within}
use Rattle.vx_grammar.proofs.Lists.{BeginsClause, tokens-append, within-append}
use Rattle.vx_grammar.proofs.Symbols.{is_symbol_true}

-- which marks spell which values
abbrev pub Grammar : Type 0 → Type 1
Grammar A = A → List Mark → Type 0

-- some value is spelled by marks that begin so
pub record Starts {A : Type 0} (R : Grammar A) (ms : List Mark) : Type 0 where
  pub value : A
  pub more : List Mark
  pub spelled : R value (ms ++ more)

-- the tokens up to the rest, within the limit
pub record Takes (limit : ℕ) (ts : List Token) (ms : List Mark) (rest : List Token) : Type 0 where
  pub within : Within limit ms
  pub tokens : ts ≡ tokens_of ms ++ rest

pub record TellsOk {A : Type 0} (R : Grammar A) (limit : ℕ) (ts : List Token) (x : A) (rest : List Token) : Type 0 where
  pub marks : List Mark
  pub takes : Takes limit ts marks rest
  pub spelled : R x marks

pub record TellsUnexpected {A : Type 0} (R : Grammar A) (limit : ℕ) (ts : List Token) (rest : List Token) : Type 0 where
  pub marks : List Mark
  pub takes : Takes limit ts marks rest
  pub starts : Starts R marks

pub record TellsTooDeep {A : Type 0} (R : Grammar A) (limit : ℕ) (ts : List Token) (rest : List Token) : Type 0 where
  pub marks : List Mark
  pub takes : Takes limit ts marks rest
  pub deep : Mark
  pub after : List Token
  pub first : rest ≡ deep.token ∷ after
  pub count : limit < deep.count
  pub starts : Starts R (marks ++ deep ∷ [])

-- at a measure that does not fit, a block fits and so does a clause
pub record TellsMeasured {A : Type 0} (R : Grammar A) (limit : ℕ) (ts : List Token) (rest : List Token) : Type 0 where
  pub marks : List Mark
  pub takes : Takes limit ts marks rest
  pub measure : Token
  pub after : List Token
  pub first : rest ≡ measure ∷ after
  pub is_measure : measure.kind ≡ word words.Decreases
  pub block : Mark
  pub block_is : block.token.kind ≡ symbol signs.OpenBrace
  pub block_starts : Starts R (marks ++ block ∷ [])
  pub clause : Mark
  pub clause_is : BeginsClause clause.token.kind
  pub clause_starts : Starts R (marks ++ clause ∷ [])

-- what an answer tells, where what was read may depend on what is left
abbrev pub TellsBy : {A : Type 0} → (List Token → Grammar A) → Grammar A → ℕ → List Token → Read A → Type 0
TellsBy R S limit ts (Ok x) = TellsOk (R x.1) limit ts x.0 x.1
TellsBy R S limit ts (Err (Unexpected rest)) = TellsUnexpected S limit ts rest
TellsBy R S limit ts (Err (Measured rest)) = TellsMeasured S limit ts rest
TellsBy R S limit ts (Err (TooDeep rest)) = TellsTooDeep S limit ts rest

abbrev pub Tells : {A : Type 0} → Grammar A → ℕ → List Token → Read A → Type 0
Tells R limit ts r = TellsBy (λ rest. R) R limit ts r

-- what may stand behind these marks
abbrev pub After : {B : Type 0} → Grammar B → List Mark → Grammar B
After T ms y more = T y (ms ++ more)

-- whatever is spelled by the first part can be gone on with
abbrev pub GoesOn : {A B : Type 0} → Grammar A → Grammar B → Type 0
GoesOn {A = A} R T = (x : A) (ms : List Mark) → R x ms → Starts T ms

pub takes_then : (limit : ℕ) (ts us vs : List Token) (ms ns : List Mark) → Takes limit ts ms us → Takes limit us ns vs → Takes limit ts (ms ++ ns) vs
takes_then limit ts us vs ms ns a b = record {
  within = within-append limit ms ns a.within b.within;
  tokens = a.tokens ∙ ap (λ l. tokens_of ms ++ l) b.tokens ∙ sym (append_assoc (tokens_of ms) (tokens_of ns) vs) ∙ ap (λ l. l ++ vs) (sym (tokens-append ms ns));
}

pub takes_none : (limit : ℕ) (ts : List Token) → Takes limit ts [] ts
takes_none limit ts = record { within = tt; tokens = refl }

starts_along : {A : Type 0} (R : Grammar A) (ms ns : List Mark) → ms ≡ ns → Starts R ms → Starts R ns
starts_along R ms ns e s = subst (Starts R) e s

-- marks that begin the first part begin the whole
starts_first : {A B : Type 0} (R : Grammar A) (T : Grammar B) (ms : List Mark) → GoesOn R T → Starts R ms → Starts T ms
starts_first R T ms g s =
    let t = g s.value (ms ++ s.more) s.spelled in
    record { value = t.value; more = s.more ++ t.more; spelled = rw (← append_assoc ms s.more t.more) t.spelled }

-- marks that begin what stands behind others
starts_behind : {B : Type 0} (T : Grammar B) (ms ns : List Mark) → Starts (After T ms) ns → Starts T (ms ++ ns)
starts_behind T ms ns s = record { value = s.value; more = s.more; spelled = rw (append_assoc ms ns s.more) s.spelled }

-- and one mark more
starts_mark : {B : Type 0} (T : Grammar B) (ms ns : List Mark) (m : Mark) → Starts (After T ms) (ns ++ m ∷ []) → Starts T ((ms ++ ns) ++ m ∷ [])
starts_mark T ms ns m s = starts_along T (ms ++ (ns ++ m ∷ [])) ((ms ++ ns) ++ m ∷ []) (sym (append_assoc ms ns (m ∷ []))) (starts_behind T ms (ns ++ m ∷ []) s)

-- marks in front of others that begin so
pub starts_front : {A : Type 0} (R : Grammar A) (ms ns : List Mark) → Starts R (ms ++ ns) → Starts R ms
starts_front R ms ns s = record { value = s.value; more = ns ++ s.more; spelled = rw (← append_assoc ms ns s.more) s.spelled }

pub tells_by_behind : {B : Type 0} (T : List Token → Grammar B) (U : Grammar B) (limit : ℕ) (ts us : List Token) (ms : List Mark) → Takes limit ts ms us → (r : Read B) → TellsBy (λ l. After (T l) ms) (After U ms) limit us r → TellsBy T U limit ts r
tells_by_behind T U limit ts us ms a (Ok x) h = record {
  marks = ms ++ h.marks;
  takes = takes_then limit ts us x.1 ms h.marks a h.takes;
  spelled = h.spelled;
}
tells_by_behind T U limit ts us ms a (Err (Unexpected rest)) h = record {
  marks = ms ++ h.marks;
  takes = takes_then limit ts us rest ms h.marks a h.takes;
  starts = starts_behind U ms h.marks h.starts;
}
tells_by_behind T U limit ts us ms a (Err (Measured rest)) h = record {
  marks = ms ++ h.marks;
  takes = takes_then limit ts us rest ms h.marks a h.takes;
  measure = h.measure;
  after = h.after;
  first = h.first;
  is_measure = h.is_measure;
  block = h.block;
  block_is = h.block_is;
  block_starts = starts_mark U ms h.marks h.block h.block_starts;
  clause = h.clause;
  clause_is = h.clause_is;
  clause_starts = starts_mark U ms h.marks h.clause h.clause_starts;
}
tells_by_behind T U limit ts us ms a (Err (TooDeep rest)) h = record {
  marks = ms ++ h.marks;
  takes = takes_then limit ts us rest ms h.marks a h.takes;
  deep = h.deep;
  after = h.after;
  first = h.first;
  count = h.count;
  starts = starts_mark U ms h.marks h.deep h.starts;
}

pub tells_behind : {B : Type 0} (T : Grammar B) (limit : ℕ) (ts us : List Token) (ms : List Mark) → Takes limit ts ms us → (r : Read B) → Tells (After T ms) limit us r → Tells T limit ts r
tells_behind T limit ts us ms a r h = tells_by_behind (λ l. T) T limit ts us ms a r h

measured_as : {A B : Type 0} (S : Grammar A) (U : Grammar B) (limit : ℕ) (ts rest : List Token) → GoesOn S U → TellsMeasured S limit ts rest → TellsMeasured U limit ts rest
measured_as S U limit ts rest g h = record {
  marks = h.marks;
  takes = h.takes;
  measure = h.measure;
  after = h.after;
  first = h.first;
  is_measure = h.is_measure;
  block = h.block;
  block_is = h.block_is;
  block_starts = starts_first S U (h.marks ++ h.block ∷ []) g h.block_starts;
  clause = h.clause;
  clause_is = h.clause_is;
  clause_starts = starts_first S U (h.marks ++ h.clause ∷ []) g h.clause_starts;
}

pub tells_by_then : {A B : Type 0} (R : List Token → Grammar A) (S : Grammar A) (T : List Token → Grammar B) (U : Grammar B) (limit : ℕ) (ts : List Token) (r : Read A) (f : A × List Token → Read B) → GoesOn S U → TellsBy R S limit ts r
    → ((x : A) (rest : List Token) (ms : List Mark) → R rest x ms → Takes limit ts ms rest → TellsBy (λ l. After (T l) ms) (After U ms) limit rest (f (x, rest)))
    → TellsBy T U limit ts (r >>= f)
tells_by_then R S T U limit ts (Ok x) f g h k = tells_by_behind T U limit ts x.1 h.marks h.takes (f x) (k x.0 x.1 h.marks h.spelled h.takes)
tells_by_then R S T U limit ts (Err (Unexpected rest)) f g h k = record { marks = h.marks; takes = h.takes; starts = starts_first S U h.marks g h.starts }
tells_by_then R S T U limit ts (Err (Measured rest)) f g h k = measured_as S U limit ts rest g h
tells_by_then R S T U limit ts (Err (TooDeep rest)) f g h k = record {
  marks = h.marks;
  takes = h.takes;
  deep = h.deep;
  after = h.after;
  first = h.first;
  count = h.count;
  starts = starts_first S U (h.marks ++ h.deep ∷ []) g h.starts;
}

pub tells_then : {A B : Type 0} (R : Grammar A) (T : Grammar B) (limit : ℕ) (ts : List Token) (r : Read A) (f : A × List Token → Read B) → GoesOn R T → Tells R limit ts r
    → ((x : A) (rest : List Token) (ms : List Mark) → R x ms → Takes limit ts ms rest → Tells (After T ms) limit rest (f (x, rest)))
    → Tells T limit ts (r >>= f)
tells_then R T limit ts r f g h k = tells_by_then (λ l. R) R (λ l. T) T limit ts r f g h k

-- one grammar in the place of another
pub tells_by_as : {A : Type 0} (R : List Token → Grammar A) (S : Grammar A) (R' : List Token → Grammar A) (S' : Grammar A) (limit : ℕ) (ts : List Token) (r : Read A) → ((rest : List Token) (x : A) (ms : List Mark) → R rest x ms → R' rest x ms) → ((x : A) (ms : List Mark) → S x ms → S' x ms) → TellsBy R S limit ts r → TellsBy R' S' limit ts r
tells_by_as R S R' S' limit ts (Ok x) f g h = record { marks = h.marks; takes = h.takes; spelled = f x.1 x.0 h.marks h.spelled }
tells_by_as R S R' S' limit ts (Err (Unexpected rest)) f g h = record { marks = h.marks; takes = h.takes; starts = starts_first S S' h.marks (λ x ms s. record { value = x; more = []; spelled = rw append-nil (g x ms s) }) h.starts }
tells_by_as R S R' S' limit ts (Err (Measured rest)) f g h = measured_as S S' limit ts rest (λ x ms s. record { value = x; more = []; spelled = rw append-nil (g x ms s) }) h
tells_by_as R S R' S' limit ts (Err (TooDeep rest)) f g h = record { marks = h.marks; takes = h.takes; deep = h.deep; after = h.after; first = h.first; count = h.count; starts = starts_first S S' (h.marks ++ h.deep ∷ []) (λ x ms s. record { value = x; more = []; spelled = rw append-nil (g x ms s) }) h.starts }

pub tells_as : {A : Type 0} (R S : Grammar A) (limit : ℕ) (ts : List Token) (r : Read A) → ((x : A) (ms : List Mark) → R x ms → S x ms) → Tells R limit ts r → Tells S limit ts r
tells_as R S limit ts r f h = tells_by_as (λ l. R) R (λ l. S) S limit ts r (λ rest. f) f h

-- nothing is taken
pub tells_by_here : {A : Type 0} (R : List Token → Grammar A) (S : Grammar A) (limit : ℕ) (ts : List Token) (x : A) → R ts x [] → TellsBy R S limit ts (Ok (x, ts))
tells_by_here R S limit ts x h = record { marks = []; takes = takes_none limit ts; spelled = h }

pub tells_here : {A : Type 0} (R : Grammar A) (limit : ℕ) (ts : List Token) (x : A) → R x [] → Tells R limit ts (Ok (x, ts))
tells_here R limit ts x h = record { marks = []; takes = takes_none limit ts; spelled = h }

pub tells_unexpected : {A : Type 0} (R : Grammar A) (limit : ℕ) (ts : List Token) → Starts R [] → Tells R limit ts (Err (Unexpected ts))
tells_unexpected R limit ts s = record { marks = []; takes = takes_none limit ts; starts = s }

-- tokens that begin with a measure
pub record MeasureFirst (ts : List Token) : Type 0 where
  pub measure : Token
  pub after : List Token
  pub first : ts ≡ measure ∷ after
  pub is_measure : measure.kind ≡ word words.Decreases

pub measure_word : (k : Kind) → is_measure k ≡ true → k ≡ word words.Decreases
measure_word (word words.Decreases) h = refl
measure_word k h = absurd cc

pub measure_first : (ts : List Token) → begins_decreases ts ≡ true → MeasureFirst ts
measure_first [] h = absurd cc
measure_first (t ∷ ts) h = record { measure = t; after = ts; first = refl; is_measure = measure_word t.kind h }

-- a measure, where a block and a clause begin what may stand
pub tells_measured : {A : Type 0} (R : Grammar A) (limit : ℕ) (ts : List Token) (block clause : Mark) → begins_decreases ts ≡ true → block.token.kind ≡ symbol signs.OpenBrace → Starts R (block ∷ []) → BeginsClause clause.token.kind → Starts R (clause ∷ []) → Tells R limit ts (Err (Measured ts))
tells_measured R limit ts block clause d b s c r =
    let m = measure_first ts d in
    record { marks = []; takes = takes_none limit ts; measure = m.measure; after = m.after; first = m.first; is_measure = m.is_measure; block = block; block_is = b; block_starts = s; clause = clause; clause_is = c; clause_starts = r }

-- one token is taken
pub tells_token : {A : Type 0} (R : Grammar A) (limit : ℕ) (m : Mark) (ts : List Token) (x : A) → m.count ≤ limit → R x (m ∷ []) → Tells R limit (m.token ∷ ts) (Ok (x, ts))
tells_token R limit m ts x le h = record { marks = m ∷ []; takes = record { within = (le, tt); tokens = refl }; spelled = h }

-- a symbol at a nesting count
abbrev pub Sign : ℕ → Symbol → Grammar Token
Sign n s t ms = (p : Place) × (t ≡ record { kind = symbol s; place = p }) × (ms ≡ mark n p (symbol s) ∷ [])

pub somewhere : Place
somewhere = record { line = 0; column = 0 }

pub starts_sign : (n : ℕ) (s : Symbol) → Starts (Sign n s) []
starts_sign n s = record { value = record { kind = symbol s; place = somewhere }; more = mark n somewhere (symbol s) ∷ []; spelled = (somewhere, refl, refl) }

tells_expect_by : (n : ℕ) (s : Symbol) (limit : ℕ) (t : Token) (ts : List Token) (b : Bool) → is_symbol s t.kind ≡ b → n ≤ limit → Tells (Sign n s) limit (t ∷ ts) (cond b (Ok (t, ts)) (Err (Unexpected (t ∷ ts))))
tells_expect_by n s limit t ts true e le =
    let k : t.kind ≡ symbol s = is_symbol_true s t.kind e in
    let m : Mark = record { token = t; count = n } in
    let same : t ≡ record { kind = symbol s; place = t.place } = ap (λ (x : Kind). let u : Token = record { kind = x; place = t.place } in u) k in
    tells_token (Sign n s) limit m ts t le (t.place, same, ap (λ (u : Token). let v : List Mark = record { token = u; count = n } ∷ [] in v) same)
tells_expect_by n s limit t ts false e le = tells_unexpected (Sign n s) limit (t ∷ ts) (starts_sign n s)

pub tells_expect : (n : ℕ) (s : Symbol) (limit : ℕ) (ts : List Token) → n ≤ limit → Tells (Sign n s) limit ts (expect s ts)
unfolding expect
tells_expect n s limit [] le = tells_unexpected (Sign n s) limit [] (starts_sign n s)
tells_expect n s limit (t ∷ ts) le = tells_expect_by n s limit t ts (is_symbol s t.kind) refl le

pub token_is : (t : Token) (k : Kind) (n : ℕ) → t.kind ≡ k → let m : Mark = record { token = t; count = n } in mark n t.place k ≡ m
token_is t k n e = ap (λ (x : Kind). mark n t.place x) (sym e)

pub marks_is : (t : Token) (k : Kind) (n : ℕ) (ms : List Mark) → t.kind ≡ k → let m : Mark = record { token = t; count = n } in mark n t.place k ∷ ms ≡ m ∷ ms
marks_is t k n ms e = ap (λ x. x ∷ ms) (token_is t k n e)

-- ---- names

abbrev pub NameFor : ℕ → Grammar Placed
NameFor n x ms = ms ≡ mark n x.place (name x.name) ∷ []

pub starts_name : (n : ℕ) → Starts (NameFor n) []
starts_name n = record { value = placed somewhere []; more = mark n somewhere (name []) ∷ []; spelled = refl }

name_by_tells : (limit n : ℕ) (t : Token) (k : Kind) (ts : List Token) → n ≤ limit → t.kind ≡ k → Tells (NameFor n) limit (t ∷ ts) (name_by t k ts)
name_by_tells limit n t (name x) ts le e = tells_token (NameFor n) limit (record { token = t; count = n }) ts (placed t.place x) le (sym (marks_is t (name x) n [] e))
name_by_tells limit n t (number m) ts le e = tells_unexpected (NameFor n) limit (t ∷ ts) (starts_name n)
name_by_tells limit n t (word w) ts le e = tells_unexpected (NameFor n) limit (t ∷ ts) (starts_name n)
name_by_tells limit n t (symbol s) ts le e = tells_unexpected (NameFor n) limit (t ∷ ts) (starts_name n)

pub name_tells : (limit n : ℕ) (ts : List Token) → n ≤ limit → Tells (NameFor n) limit ts (name_at ts)
unfolding name_at
name_tells limit n [] le = tells_unexpected (NameFor n) limit [] (starts_name n)
name_tells limit n (t ∷ ts) le = name_by_tells limit n t t.kind ts le refl
