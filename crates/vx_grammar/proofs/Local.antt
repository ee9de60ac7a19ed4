-- Reading looks no further than the token at which it stops, and so what follows changes nothing, nor does more room. But where
-- a measure does not fit it sees no more than that: it stops so at a clause's first word too, unless a clause is due.
use Rattle.std.proofs.Common.{◌≡◌, List, [], ◌∷◌, ◌++◌, Ok, Err, refl, sym, ap, subst, ◌∙◌, append_assoc, Bool, true, false, cond, inl, inr, ◌⊎◌}
use Rattle.vx_tokens.specs.declared.token.Word.TheVariants as words
use Rattle.vx_tokens.specs.declared.token.Symbol.{Symbol}
use Rattle.vx_tokens.specs.Tokens.{Token, Kind, word, symbol}
use Rattle.vx_ast.specs.declared.Place.{Place}
use Rattle.vx_grammar.specs.Reading.{◌>>=◌, Read, Unexpected, Measured, TooDeep, expect, is_symbol}
use Rattle.vx_grammar.specs.StmtReading.{is_measure, begins_decreases}
use Rattle.vx_grammar.proofs.Lists.{BeginsClause}

-- the same token comes next, or both are at the end
abbrev pub SameHead : List Token → List Token → Type 0
SameHead [] [] = Unit {0}
SameHead (t ∷ ts) (u ∷ us) = t ≡ u
SameHead [] (u ∷ us) = ⊥
SameHead (t ∷ ts) [] = ⊥

-- or a clause's first word comes in the place of a measure's
abbrev pub Alike : List Token → List Token → Type 0
Alike [] [] = Unit {0}
Alike (t ∷ ts) (u ∷ us) = (t ≡ u) ⊎ ((t.kind ≡ word words.Decreases) × BeginsClause u.kind)
Alike [] (u ∷ us) = ⊥
Alike (t ∷ ts) [] = ⊥

-- the one or the other
abbrev pub Heads : Bool → List Token → List Token → Type 0
Heads true ts us = Alike ts us
Heads false ts us = SameHead ts us

pub alike_same : (ts us : List Token) → SameHead ts us → Alike ts us
alike_same [] [] h = tt
alike_same (t ∷ ts) (u ∷ us) h = inl h
alike_same [] (u ∷ us) h = absurd h
alike_same (t ∷ ts) [] h = absurd h

pub alike : (b : Bool) (ts us : List Token) → Heads b ts us → Alike ts us
alike true ts us h = h
alike false ts us h = alike_same ts us h

pub heads_behind : (b : Bool) (v rest next : List Token) → Heads b rest next → Heads b (v ++ rest) (v ++ next)
heads_behind b [] rest next h = h
heads_behind true (a ∷ v) rest next h = inl refl
heads_behind false (a ∷ v) rest next h = refl

-- what stands in front of what is alike is alike
pub alike_behind : (b : Bool) (v mid rest next : List Token) → mid ≡ v ++ rest → Heads b rest next → Alike mid (v ++ next)
alike_behind b v mid rest next e h = subst (λ k. Alike k (v ++ next)) (sym e) (alike b (v ++ rest) (v ++ next) (heads_behind b v rest next h))

-- two readers agree at such a word
abbrev pub SameAt : {X : Type 0} → Kind → (List Token → X) → (List Token → X) → Type 0
SameAt k f g = (p : Place) (more : List Token) → (let u : Token = record { kind = k; place = p } in f (u ∷ more) ≡ g (u ∷ more))

-- and at each word that begins a clause
abbrev pub SameAtClause : {X : Type 0} → (List Token → X) → (List Token → X) → Type 0
SameAtClause f g = (u : Token) (more : List Token) → BeginsClause u.kind → f (u ∷ more) ≡ g (u ∷ more)

same_kind : {X : Type 0} (k : Kind) (f g : List Token → X) → SameAt k f g → (u : Token) (more : List Token) → u.kind ≡ k → f (u ∷ more) ≡ g (u ∷ more)
same_kind k f g h u more e = subst (λ (x : Kind). let v : Token = record { kind = x; place = u.place } in f (v ∷ more) ≡ g (v ∷ more)) (sym e) (h u.place more)

pub at_clause : {X : Type 0} (f g : List Token → X) → SameAt (word words.Requires) f g → SameAt (word words.Invariant) f g → SameAtClause f g
at_clause f g r i u more (inl e) = same_kind (word words.Requires) f g r u more e
at_clause f g r i u more (inr e) = same_kind (word words.Invariant) f g i u more e

-- a symbol is no measure
pub not_symbol : {T : Type 0} (s : Symbol) (k : Kind) → is_symbol s k ≡ true → k ≡ word words.Decreases → T
not_symbol s k h e = let w : is_symbol s (word words.Decreases) ≡ true = subst (λ x. is_symbol s x ≡ true) e h in absurd cc

pub other_kind : {T : Type 0} (s : Symbol) (k : Kind) → k ≡ symbol s → k ≡ word words.Decreases → T
other_kind s k h e = let w : symbol s ≡ word words.Decreases = sym h ∙ e in absurd cc

pub record Front {X : Type 0} (b : Bool) (ts rest : List Token) (answer reader : List Token → X) : Type 0 where
  pub front : List Token
  pub is : ts ≡ front ++ rest
  pub repeats : (next : List Token) → Heads b rest next → reader (front ++ next) ≡ answer next

-- what was answered is answered again by the reader, whatever stands behind the next token
abbrev pub LocalBy : {A : Type 0} → Bool → List Token → Read A → (List Token → Read A) → Type 0
LocalBy b ts (Ok x) reader = Front b ts x.1 (λ l. Ok (x.0, l)) reader
LocalBy b ts (Err (Unexpected rest)) reader = Front true ts rest (λ l. Err (Unexpected l)) reader
LocalBy b ts (Err (Measured rest)) reader = Front false ts rest (λ l. Err (Measured l)) reader
LocalBy b ts (Err (TooDeep rest)) reader = Unit {0}

abbrev pub Local : {A : Type 0} → List Token → Read A → (List Token → Read A) → Type 0
Local ts r reader = LocalBy true ts r reader

-- where the next token is the same
pub at_same : {X : Type 0} (t : Token) (ts : List Token) (f g : List Token → X) → ((more : List Token) → f (t ∷ more) ≡ g (t ∷ more)) → (next : List Token) → SameHead (t ∷ ts) next → f next ≡ g next
at_same t ts f g h [] same = absurd same
at_same t ts f g h (s ∷ more) same = subst (λ v. f (v ∷ more) ≡ g (v ∷ more)) same (h more)

-- and where it may be a clause's first word in the place of a measure's
pub at_first : {X : Type 0} (t : Token) (ts : List Token) (f g : List Token → X) → ((more : List Token) → f (t ∷ more) ≡ g (t ∷ more)) → (t.kind ≡ word words.Decreases → SameAtClause f g) → (next : List Token) → Alike (t ∷ ts) next → f next ≡ g next
at_first t ts f g h k [] same = absurd same
at_first t ts f g h k (s ∷ more) (inl same) = subst (λ v. f (v ∷ more) ≡ g (v ∷ more)) same (h more)
at_first t ts f g h k (s ∷ more) (inr (d, c)) = k d s more c

pub at_end : {X : Type 0} (b : Bool) (f g : List Token → X) → f [] ≡ g [] → (next : List Token) → Heads b [] next → f next ≡ g next
at_end b f g h [] same = h
at_end true f g h (s ∷ more) same = absurd same
at_end false f g h (s ∷ more) same = absurd same

pub local_ok_by : {A : Type 0} (t : Token) (ts : List Token) (x : A) (reader : List Token → Read A) → ((more : List Token) → reader (t ∷ more) ≡ Ok (x, t ∷ more)) → (t.kind ≡ word words.Decreases → SameAtClause reader (λ l. Ok (x, l))) → Local (t ∷ ts) (Ok (x, t ∷ ts)) reader
local_ok_by t ts x reader h k = record { front = []; is = refl; repeats = at_first t ts reader (λ l. Ok (x, l)) h k }

pub local_ok : {A : Type 0} (t : Token) (ts : List Token) (x : A) (reader : List Token → Read A) → ((more : List Token) → reader (t ∷ more) ≡ Ok (x, t ∷ more)) → SameAt (word words.Requires) reader (λ l. Ok (x, l)) → SameAt (word words.Invariant) reader (λ l. Ok (x, l)) → Local (t ∷ ts) (Ok (x, t ∷ ts)) reader
local_ok t ts x reader h r i = local_ok_by t ts x reader h (λ d. at_clause reader (λ l. Ok (x, l)) r i)

pub local_unexpected : {A : Type 0} (t : Token) (ts : List Token) (reader : List Token → Read A) → ((more : List Token) → reader (t ∷ more) ≡ Err (Unexpected (t ∷ more))) → SameAt (word words.Requires) reader (λ l. Err (Unexpected l)) → SameAt (word words.Invariant) reader (λ l. Err (Unexpected l)) → Local (t ∷ ts) (Err (Unexpected (t ∷ ts))) reader
local_unexpected t ts reader h r i = record { front = []; is = refl; repeats = at_first t ts reader (λ l. Err (Unexpected l)) h (λ d. at_clause reader (λ l. Err (Unexpected l)) r i) }

pub local_measured : {A : Type 0} (t : Token) (ts : List Token) (reader : List Token → Read A) → ((more : List Token) → reader (t ∷ more) ≡ Err (Measured (t ∷ more))) → Local (t ∷ ts) (Err (Measured (t ∷ ts))) reader
local_measured t ts reader h = record { front = []; is = refl; repeats = at_same t ts reader (λ l. Err (Measured l)) h }

pub local_end : {A : Type 0} (x : A) (reader : List Token → Read A) → reader [] ≡ Ok (x, []) → Local [] (Ok (x, [])) reader
local_end x reader h = record { front = []; is = refl; repeats = at_end true reader (λ l. Ok (x, l)) h }

pub local_end_unexpected : {A : Type 0} (reader : List Token → Read A) → reader [] ≡ Err (Unexpected []) → Local [] (Err (Unexpected [])) reader
local_end_unexpected reader h = record { front = []; is = refl; repeats = at_end true reader (λ l. Err (Unexpected l)) h }

pub local_return : {A : Type 0} (ts : List Token) (x : A) → Local ts (Ok (x, ts)) (λ l. Ok (x, l))
local_return ts x = record { front = []; is = refl; repeats = λ next same. refl }

-- what holds where heads are alike holds where they are the same
pub front_less : {X : Type 0} (b : Bool) (ts rest : List Token) (answer reader : List Token → X) → Front true ts rest answer reader → Front b ts rest answer reader
front_less b ts rest answer reader f = record { front = f.front; is = f.is; repeats = λ next same. f.repeats next (alike b rest next same) }

pub local_less : {A : Type 0} (b : Bool) (ts : List Token) (r : Read A) (reader : List Token → Read A) → Local ts r reader → LocalBy b ts r reader
local_less b ts (Ok x) reader f = front_less b ts x.1 (λ l. Ok (x.0, l)) reader f
local_less b ts (Err (Unexpected rest)) reader f = f
local_less b ts (Err (Measured rest)) reader f = f
local_less b ts (Err (TooDeep rest)) reader f = tt

front_token : {X : Type 0} (b : Bool) (t : Token) (ts rest : List Token) (answer inner reader : List Token → X) → ((l : List Token) → reader (t ∷ l) ≡ inner l) → Front b ts rest answer inner → Front b (t ∷ ts) rest answer reader
front_token b t ts rest answer inner reader h f = record { front = t ∷ f.front; is = ap (λ l. t ∷ l) f.is; repeats = λ next same. h (f.front ++ next) ∙ f.repeats next same }

-- a token, and then another reader
pub local_token : {A : Type 0} (t : Token) (ts : List Token) (r : Read A) (inner reader : List Token → Read A) → ((l : List Token) → reader (t ∷ l) ≡ inner l) → Local ts r inner → Local (t ∷ ts) r reader
local_token t ts (Ok x) inner reader h f = front_token true t ts x.1 (λ l. Ok (x.0, l)) inner reader h f
local_token t ts (Err (Unexpected rest)) inner reader h f = front_token true t ts rest (λ l. Err (Unexpected l)) inner reader h f
local_token t ts (Err (Measured rest)) inner reader h f = front_token false t ts rest (λ l. Err (Measured l)) inner reader h f
local_token t ts (Err (TooDeep rest)) inner reader h f = tt

-- one reader after the other, where the heads behind lead to heads in front
pub front_then : {A B : Type 0} (c b : Bool) (ts : List Token) (x : A) (mid rest : List Token) (answer : List Token → Read B) (reader : List Token → Read A) (next : A × List Token → Read B) → Front c ts mid (λ l. Ok (x, l)) reader → (g : Front b mid rest answer (λ l. next (x, l))) → ((l : List Token) → Heads b rest l → Heads c mid (g.front ++ l)) → Front b ts rest answer (λ l. reader l >>= next)
front_then c b ts x mid rest answer reader next f g heads = record {
  front = f.front ++ g.front;
  is = f.is ∙ ap (λ l. f.front ++ l) g.is ∙ sym (append_assoc f.front g.front rest);
  repeats = λ l same.
      ap (λ k. reader k >>= next) (append_assoc f.front g.front l)
      ∙ ap (λ r. r >>= next) (f.repeats (g.front ++ l) (heads l same))
      ∙ g.repeats l same;
}

front_mid : {A B : Type 0} (b : Bool) (ts : List Token) (x : A) (mid rest : List Token) (answer : List Token → Read B) (reader : List Token → Read A) (next : A × List Token → Read B) → Front true ts mid (λ l. Ok (x, l)) reader → Front b mid rest answer (λ l. next (x, l)) → Front b ts rest answer (λ l. reader l >>= next)
front_mid b ts x mid rest answer reader next f g = front_then true b ts x mid rest answer reader next f g (λ l same. alike_behind b g.front mid rest l g.is same)

local_mid : {A B : Type 0} (b : Bool) (ts : List Token) (x : A) (mid : List Token) (r : Read B) (reader : List Token → Read A) (next : A × List Token → Read B) → Front true ts mid (λ l. Ok (x, l)) reader → LocalBy b mid r (λ l. next (x, l)) → LocalBy b ts r (λ l. reader l >>= next)
local_mid b ts x mid (Ok y) reader next f g = front_mid b ts x mid y.1 (λ l. Ok (y.0, l)) reader next f g
local_mid b ts x mid (Err (Unexpected rest)) reader next f g = front_mid true ts x mid rest (λ l. Err (Unexpected l)) reader next f g
local_mid b ts x mid (Err (Measured rest)) reader next f g = front_mid false ts x mid rest (λ l. Err (Measured l)) reader next f g
local_mid b ts x mid (Err (TooDeep rest)) reader next f g = tt

-- one reader after the other
pub local_by_then : {A B : Type 0} (b : Bool) (ts : List Token) (r : Read A) (reader : List Token → Read A) (f next : A × List Token → Read B) → Local ts r reader → ((x : A) (mid : List Token) → LocalBy b mid (f (x, mid)) (λ l. next (x, l))) → LocalBy b ts (r >>= f) (λ l. reader l >>= next)
local_by_then b ts (Ok x) reader f next h k = local_mid b ts x.0 x.1 (f x) reader next h (k x.0 x.1)
local_by_then b ts (Err (Unexpected rest)) reader f next h k = record { front = h.front; is = h.is; repeats = λ l same. ap (λ r. r >>= next) (h.repeats l same) }
local_by_then b ts (Err (Measured rest)) reader f next h k = record { front = h.front; is = h.is; repeats = λ l same. ap (λ r. r >>= next) (h.repeats l same) }
local_by_then b ts (Err (TooDeep rest)) reader f next h k = tt

pub local_then : {A B : Type 0} (ts : List Token) (r : Read A) (reader : List Token → Read A) (f next : A × List Token → Read B) → Local ts r reader → ((x : A) (mid : List Token) → Local mid (f (x, mid)) (λ l. next (x, l))) → Local ts (r >>= f) (λ l. reader l >>= next)
local_then ts r reader f next h k = local_by_then true ts r reader f next h k

-- what is made of a value
pub local_made : {A B : Type 0} (b : Bool) (ts : List Token) (r : Read A) (reader : List Token → Read A) (f : A → B) → LocalBy b ts r reader → LocalBy b ts (r >>= λ x. Ok (f x.0, x.1)) (λ l. reader l >>= λ x. Ok (f x.0, x.1))
local_made b ts (Ok x) reader f h = record { front = h.front; is = h.is; repeats = λ l same. ap (λ r. r >>= λ x. Ok (f x.0, x.1)) (h.repeats l same) }
local_made b ts (Err (Unexpected rest)) reader f h = record { front = h.front; is = h.is; repeats = λ l same. ap (λ r. r >>= λ x. Ok (f x.0, x.1)) (h.repeats l same) }
local_made b ts (Err (Measured rest)) reader f h = record { front = h.front; is = h.is; repeats = λ l same. ap (λ r. r >>= λ x. Ok (f x.0, x.1)) (h.repeats l same) }
local_made b ts (Err (TooDeep rest)) reader f h = tt

measure_begins : (t : Token) (ts : List Token) → t.kind ≡ word words.Decreases → begins_decreases (t ∷ ts) ≡ true
measure_begins t ts d = ap is_measure d

-- where no measure stands, heads that are alike are the same
same_unless : (ts us : List Token) → begins_decreases ts ≡ false → Alike ts us → SameHead ts us
same_unless [] [] plain h = tt
same_unless (t ∷ ts) (u ∷ us) plain (inl h) = h
same_unless (t ∷ ts) (u ∷ us) plain (inr (d, c)) = let begins = measure_begins t ts d in absurd cc
same_unless [] (u ∷ us) plain h = absurd h
same_unless (t ∷ ts) [] plain h = absurd h

pub same_behind : (b : Bool) (v mid rest next : List Token) → begins_decreases mid ≡ false → mid ≡ v ++ rest → Heads b rest next → SameHead mid (v ++ next)
same_behind b v mid rest next plain e h = same_unless mid (v ++ next) plain (alike_behind b v mid rest next e h)

-- ---- clauses, behind which a measure is seen

clauses_front : {A B : Type 0} (b : Bool) (ts : List Token) (x : A) (mid rest : List Token) (answer : List Token → Read B) (reader : List Token → Read A) (next : A × List Token → Read B) → begins_decreases mid ≡ false → Front false ts mid (λ l. Ok (x, l)) reader → Front b mid rest answer (λ l. next (x, l)) → Front b ts rest answer (λ l. reader l >>= next)
clauses_front b ts x mid rest answer reader next plain f g = front_then false b ts x mid rest answer reader next f g (λ l same. same_behind b g.front mid rest l plain g.is same)

clauses_plain : {A B : Type 0} (ts : List Token) (x : A) (mid : List Token) (r : Read B) (reader : List Token → Read A) (next : A × List Token → Read B) → begins_decreases mid ≡ false → Front false ts mid (λ l. Ok (x, l)) reader → Local mid r (λ l. next (x, l)) → Local ts r (λ l. reader l >>= next)
clauses_plain ts x mid (Ok y) reader next plain f g = clauses_front true ts x mid y.1 (λ l. Ok (y.0, l)) reader next plain f g
clauses_plain ts x mid (Err (Unexpected rest)) reader next plain f g = clauses_front true ts x mid rest (λ l. Err (Unexpected l)) reader next plain f g
clauses_plain ts x mid (Err (Measured rest)) reader next plain f g = clauses_front false ts x mid rest (λ l. Err (Measured l)) reader next plain f g
clauses_plain ts x mid (Err (TooDeep rest)) reader next plain f g = tt

clauses_measured : {A B : Type 0} (ts : List Token) (x : A) (mid : List Token) (r : Read B) (reader : List Token → Read A) (next : A × List Token → Read B) → r ≡ Err (Measured mid) → Front false ts mid (λ l. Ok (x, l)) reader → Local mid r (λ l. next (x, l)) → Local ts r (λ l. reader l >>= next)
clauses_measured ts x mid r reader next e f g =
    let h : Front false mid mid (λ l. Err (Measured l)) (λ l. next (x, l)) = subst (λ y. Local mid y (λ l. next (x, l))) e g in
    subst (λ y. Local ts y (λ l. reader l >>= next)) (sym e) (front_then false false ts x mid mid (λ l. Err (Measured l)) reader next f h (λ l same. subst (λ k. SameHead k (h.front ++ l)) (sym h.is) (heads_behind false h.front mid l same)))

-- clauses, and what stops at a measure behind them
pub local_clauses : {A B : Type 0} (ts : List Token) (r : Read A) (reader : List Token → Read A) (f next : A × List Token → Read B) → LocalBy false ts r reader → ((x : A) (mid : List Token) → begins_decreases mid ≡ true → f (x, mid) ≡ Err (Measured mid)) → ((x : A) (mid : List Token) → Local mid (f (x, mid)) (λ l. next (x, l))) → Local ts (r >>= f) (λ l. reader l >>= next)
local_clauses {A = A} ts (Ok x) reader f next h stops k = by_measure (begins_decreases x.1) refl
  where
    by_measure : (b : Bool) → begins_decreases x.1 ≡ b → Local ts (f x) (λ l. reader l >>= next)
    by_measure true e = clauses_measured ts x.0 x.1 (f x) reader next (stops x.0 x.1 e) h (k x.0 x.1)
    by_measure false e = clauses_plain ts x.0 x.1 (f x) reader next e h (k x.0 x.1)
local_clauses ts (Err (Unexpected rest)) reader f next h stops k = record { front = h.front; is = h.is; repeats = λ l same. ap (λ r. r >>= next) (h.repeats l same) }
local_clauses ts (Err (Measured rest)) reader f next h stops k = record { front = h.front; is = h.is; repeats = λ l same. ap (λ r. r >>= next) (h.repeats l same) }
local_clauses ts (Err (TooDeep rest)) reader f next h stops k = tt

-- ---- two readers

pub front_same : {X : Type 0} (b : Bool) (t : Token) (ts rest : List Token) (answer reader other : List Token → X) → ((l : List Token) → reader (t ∷ l) ≡ other (t ∷ l)) → (t.kind ≡ word words.Decreases → SameAtClause reader other) → Front b (t ∷ ts) rest answer reader → Front b (t ∷ ts) rest answer other
front_same b t ts rest answer reader other h k f = record {
  front = f.front;
  is = f.is;
  repeats = λ next same. sym (agrees f.front f.is next (alike b rest next same)) ∙ f.repeats next same;
}
  where
    agrees : (u : List Token) → t ∷ ts ≡ u ++ rest → (next : List Token) → Alike rest next → reader (u ++ next) ≡ other (u ++ next)
    agrees [] e next same = at_first t ts reader other h k next (subst (λ l. Alike l next) (sym e) same)
    agrees (a ∷ u) e next same = let one : t ≡ a = cc in subst (λ v. reader (v ∷ (u ++ next)) ≡ other (v ∷ (u ++ next))) one (h (u ++ next))

-- two readers that agree behind the first token
pub local_same : {A : Type 0} (t : Token) (ts : List Token) (r : Read A) (reader other : List Token → Read A) → ((l : List Token) → reader (t ∷ l) ≡ other (t ∷ l)) → (t.kind ≡ word words.Decreases → SameAtClause reader other) → Local (t ∷ ts) r reader → Local (t ∷ ts) r other
local_same t ts (Ok x) reader other h k f = front_same true t ts x.1 (λ l. Ok (x.0, l)) reader other h k f
local_same t ts (Err (Unexpected rest)) reader other h k f = front_same true t ts rest (λ l. Err (Unexpected l)) reader other h k f
local_same t ts (Err (Measured rest)) reader other h k f = front_same false t ts rest (λ l. Err (Measured l)) reader other h k f
local_same t ts (Err (TooDeep rest)) reader other h k f = tt

local_expect_by : (s : Symbol) (t : Token) (ts : List Token) (b : Bool) → is_symbol s t.kind ≡ b → Local (t ∷ ts) (cond b (Ok (t, ts)) (Err (Unexpected (t ∷ ts)))) (expect s)
unfolding expect
local_expect_by s t ts true e = local_token t ts (Ok (t, ts)) (λ l. Ok (t, l)) (expect s) (λ l. rw e refl) (local_return ts t)
local_expect_by s t ts false e = local_unexpected t ts (expect s) (λ more. rw e refl) (λ p more. refl) (λ p more. refl)

pub local_expect : (s : Symbol) (ts : List Token) → Local ts (expect s ts) (expect s)
unfolding expect
local_expect s [] = local_end_unexpected (expect s) refl
local_expect s (t ∷ ts) = local_expect_by s t ts (is_symbol s t.kind) refl
