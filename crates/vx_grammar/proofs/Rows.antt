-- Items one after the other, each with a semicolon or none: the three laws once for all such loops.
use Rattle.std.proofs.Common.{◌≡◌, ℕ, zero, suc, ◌≤◌, ◌<◌, List, [], ◌∷◌, ◌++◌, Bool, true, false, cond, Ok, Err, length, refl, sym, ap, subst, ◌∙◌, append_assoc, arith, inl, inr, ◌⊎◌, length-append}
use Rattle.std.proofs.lemmas.List.{append-nil}
use Rattle.vx_ast.specs.declared.Place.{Place}
use Rattle.vx_tokens.specs.declared.token.Word.TheVariants as words
use Rattle.vx_tokens.specs.declared.token.Symbol.TheVariants as signs
use Rattle.vx_tokens.specs.Tokens.{Token, Kind, word, symbol}
use Rattle.vx_grammar.specs.Grammar.{Mark, mark, tokens_of}
use Rattle.vx_grammar.specs.Reading.{◌>>=◌, Read, Stop, Unexpected, Measured, TooDeep, is_symbol}
use Rattle.vx_grammar.proofs.Lists.{BeginsClause, tokens-append}
use Rattle.vx_grammar.proofs.Symbols.{is_symbol_true}
use Rattle.vx_grammar.proofs.Tells.{Grammar, Tells, After, tells_behind, tells_then, tells_here}
use Rattle.vx_grammar.proofs.Local.{Local, Front, Heads, Alike, alike, alike_behind}

abbrev pub skip : List Token → List Token
skip [] = []
skip (t ∷ ts) = cond (is_symbol signs.Semicolon t.kind) ts (t ∷ ts)

-- items, at most so many, each of which begins with a token of these kinds
unfoldable pub rows : {A : Type 0} → (Kind → Bool) → (List Token → Read A) → ℕ → List Token → Read (List A)
rows begins item zero ts = Ok ([], ts)
rows begins item (suc most) [] = Ok ([], [])
rows begins item (suc most) (t ∷ ts) = cond (begins t.kind) (item (t ∷ ts) >>= λ x. rows begins item most (skip x.1) >>= λ xs. Ok (x.0 ∷ xs.0, xs.1)) (Ok ([], t ∷ ts))

-- ---- the grammar

-- a semicolon, or none
abbrev pub Semi : ℕ → List Mark → Type 0
Semi n ms = (ms ≡ []) ⊎ ((p : Place) × (ms ≡ mark n p (symbol signs.Semicolon) ∷ []))

abbrev pub RowFor : {A : Type 0} → ℕ → Grammar A → Grammar (List A)
RowFor n G [] ms = ms ≡ []
RowFor n G (x ∷ xs) ms = (a : List Mark) × (semi : List Mark) × (b : List Mark) × (ms ≡ a ++ (semi ++ b)) × G x a × Semi n semi × RowFor n G xs b

-- ---- what an answer tells

row_one : {A : Type 0} (n : ℕ) (G : Grammar A) (x : A) (ms : List Mark) → G x ms → RowFor n G (x ∷ []) ms
row_one n G x ms g = (ms, [], [], sym (append-nil ms), g, inl refl, refl)

-- behind an item and its semicolon
row_more : {A : Type 0} (n : ℕ) (G : Grammar A) (x : A) (ms semi : List Mark) (xs : List A) (b : List Mark) → G x ms → Semi n semi → RowFor n G xs b → RowFor n G (x ∷ xs) (ms ++ (semi ++ b))
row_more n G x ms semi xs b g s r = (ms, semi, b, refl, g, s, r)

tells_made : {A : Type 0} (n limit : ℕ) (G : Grammar A) (x : A) (ms semi : List Mark) (ts : List Token) (r : Read (List A)) → G x ms → Semi n semi → Tells (RowFor n G) limit ts r
    → Tells (After (After (RowFor n G) ms) semi) limit ts (r >>= λ xs. Ok (x ∷ xs.0, xs.1))
tells_made n limit G x ms semi ts r g s h =
    tells_then (RowFor n G) (After (After (RowFor n G) ms) semi) limit ts r (λ xs. Ok (x ∷ xs.0, xs.1))
    (λ xs b rb. record { value = x ∷ xs; more = []; spelled = subst (λ l. RowFor n G (x ∷ xs) (ms ++ (semi ++ l))) (sym (append-nil b)) (row_more n G x ms semi xs b g s rb) })
    h
    (λ xs rest b rb takes. tells_here (After (After (After (RowFor n G) ms) semi) b) limit rest (x ∷ xs) (subst (λ l. RowFor n G (x ∷ xs) (ms ++ (semi ++ l))) (sym (append-nil b)) (row_more n G x ms semi xs b g s rb)))

tells_skipped_by : {A : Type 0} (n limit : ℕ) (G : Grammar A) (x : A) (ms : List Mark) (t : Token) (ts : List Token) (b : Bool) (go : List Token → Read (List A)) → is_symbol signs.Semicolon t.kind ≡ b → n ≤ limit → G x ms → ((us : List Token) → Tells (RowFor n G) limit us (go us))
    → Tells (After (RowFor n G) ms) limit (t ∷ ts) (go (cond b ts (t ∷ ts)) >>= λ xs. Ok (x ∷ xs.0, xs.1))
tells_skipped_by n limit G x ms t ts true go e le g h =
    let k : t.kind ≡ symbol signs.Semicolon = is_symbol_true signs.Semicolon t.kind e in
    let m : Mark = record { token = t; count = n } in
    let same : m ≡ mark n t.place (symbol signs.Semicolon) = ap (λ (y : Kind). mark n t.place y) k in
    let semi : Semi n (m ∷ []) = inr (t.place, ap (λ y. y ∷ []) same) in
    tells_behind (After (RowFor n G) ms) limit (t ∷ ts) ts (m ∷ []) (record { within = (le, tt); tokens = refl }) (go ts >>= λ xs. Ok (x ∷ xs.0, xs.1)) (tells_made n limit G x ms (m ∷ []) ts (go ts) g semi (h ts))
tells_skipped_by n limit G x ms t ts false go e le g h = tells_made n limit G x ms [] (t ∷ ts) (go (t ∷ ts)) g (inl refl) (h (t ∷ ts))

tells_skipped : {A : Type 0} (n limit : ℕ) (G : Grammar A) (x : A) (ms : List Mark) (ts : List Token) (go : List Token → Read (List A)) → n ≤ limit → G x ms → ((us : List Token) → Tells (RowFor n G) limit us (go us))
    → Tells (After (RowFor n G) ms) limit ts (go (skip ts) >>= λ xs. Ok (x ∷ xs.0, xs.1))
tells_skipped n limit G x ms [] go le g h = tells_made n limit G x ms [] [] (go []) g (inl refl) (h [])
tells_skipped n limit G x ms (t ∷ ts) go le g h = tells_skipped_by n limit G x ms t ts (is_symbol signs.Semicolon t.kind) go refl le g h

pub tells_rows : {A : Type 0} (n limit : ℕ) (G : Grammar A) (begins : Kind → Bool) (item : List Token → Read A) → n ≤ limit → ((ts : List Token) → Tells G limit ts (item ts)) → (most : ℕ) (ts : List Token) → Tells (RowFor n G) limit ts (rows begins item most ts)
unfolding rows
tells_rows n limit G begins item le h zero ts = tells_here (RowFor n G) limit ts [] refl
tells_rows n limit G begins item le h (suc most) [] = tells_here (RowFor n G) limit [] [] refl
tells_rows n limit G begins item le h (suc most) (t ∷ ts) = by_test (begins t.kind) (tells_rows n limit G begins item le h most)
  where
    by_test : (b : Bool) → ((us : List Token) → Tells (RowFor n G) limit us (rows begins item most us)) → Tells (RowFor n G) limit (t ∷ ts) (cond b (item (t ∷ ts) >>= λ x. rows begins item most (skip x.1) >>= λ xs. Ok (x.0 ∷ xs.0, xs.1)) (Ok ([], t ∷ ts)))
    by_test true go =
        tells_then G (RowFor n G) limit (t ∷ ts) (item (t ∷ ts)) (λ x. rows begins item most (skip x.1) >>= λ xs. Ok (x.0 ∷ xs.0, xs.1))
        (λ x ms g. record { value = x ∷ []; more = []; spelled = rw append-nil (row_one n G x ms g) })
        (h (t ∷ ts))
        (λ x rest ms g takes. tells_skipped n limit G x ms rest (rows begins item most) le g go)
    by_test false go = tells_here (RowFor n G) limit (t ∷ ts) [] refl

-- ---- what is spelled is read

-- items that read themselves where they end
pub record ReadsItem {A : Type 0} (G : Grammar A) (begins : Kind → Bool) (item : List Token → Read A) (Over : List Token → Type 0) : Type 1 where
  pub first : (x : A) (a : List Mark) → G x a → (m : Mark) × (rest : List Mark) × (a ≡ m ∷ rest) × (begins m.token.kind ≡ true)
  pub read : (x : A) (a : List Mark) (more : List Token) → G x a → Over more → item (tokens_of a ++ more) ≡ Ok (x, more)
  pub over_semi : (p : Place) (more : List Token) → (let t : Token = record { kind = symbol signs.Semicolon; place = p } in Over (t ∷ more))
  pub over_item : (t : Token) (more : List Token) → begins t.kind ≡ true → Over (t ∷ more)
  pub not_semi : (k : Kind) → begins k ≡ true → is_symbol signs.Semicolon k ≡ false

-- where a row is over: neither an item nor a semicolon comes
abbrev pub RowOver : (Kind → Bool) → List Token → Type 0
RowOver begins [] = Unit {0}
RowOver begins (t ∷ ts) = (begins t.kind ≡ false) × (is_symbol signs.Semicolon t.kind ≡ false)

-- the tokens behind the first item of a row
abbrev Behind : List Mark → List Mark → List Token → List Token
Behind semi b more = tokens_of semi ++ (tokens_of b ++ more)

-- what stands in front of a row: its first item's first token, or what follows the row
over_row : {A : Type 0} (G : Grammar A) (begins : Kind → Bool) (item : List Token → Read A) (Over : List Token → Type 0) → ReadsItem G begins item Over → (n : ℕ) (xs : List A) (b : List Mark) (more : List Token) → RowFor n G xs b → Over more → Over (tokens_of b ++ more)
over_row G begins item Over r n [] b more h o = subst (λ l. Over (tokens_of l ++ more)) (sym h) o
over_row G begins item Over r n (x ∷ xs) b more h o =
    let f = r.first x h.0 h.4 in
    let e : tokens_of b ++ more ≡ f.0.token ∷ (tokens_of (f.1 ++ (h.1 ++ h.2)) ++ more) = ap (λ l. tokens_of l ++ more) (h.3 ∙ ap (λ l. l ++ (h.1 ++ h.2)) f.2) in
    subst Over (sym e) (r.over_item f.0.token _ f.3)

skip_same : (t : Token) (ts : List Token) → is_symbol signs.Semicolon t.kind ≡ false → skip (t ∷ ts) ≡ t ∷ ts
skip_same t ts e = rw e refl

skip_over : (begins : Kind → Bool) (more : List Token) → RowOver begins more → skip more ≡ more
skip_over begins [] h = refl
skip_over begins (t ∷ ts) h = skip_same t ts h.1

skip_row : {A : Type 0} (G : Grammar A) (begins : Kind → Bool) (item : List Token → Read A) (Over : List Token → Type 0) → ReadsItem G begins item Over → (n : ℕ) (xs : List A) (b : List Mark) (more : List Token) → RowFor n G xs b → RowOver begins more → skip (tokens_of b ++ more) ≡ tokens_of b ++ more
skip_row G begins item Over r n [] b more h o = subst (λ l. skip (tokens_of l ++ more) ≡ tokens_of l ++ more) (sym h) (skip_over begins more o)
skip_row G begins item Over r n (x ∷ xs) b more h o =
    let f = r.first x h.0 h.4 in
    let e : tokens_of b ++ more ≡ f.0.token ∷ (tokens_of (f.1 ++ (h.1 ++ h.2)) ++ more) = ap (λ l. tokens_of l ++ more) (h.3 ∙ ap (λ l. l ++ (h.1 ++ h.2)) f.2) in
    subst (λ l. skip l ≡ l) (sym e) (skip_same f.0.token _ (r.not_semi f.0.token.kind f.3))

skip_semi : {A : Type 0} (G : Grammar A) (begins : Kind → Bool) (item : List Token → Read A) (Over : List Token → Type 0) → ReadsItem G begins item Over → (n : ℕ) (semi : List Mark) (xs : List A) (b : List Mark) (more : List Token) → Semi n semi → RowFor n G xs b → RowOver begins more → skip (Behind semi b more) ≡ tokens_of b ++ more
skip_semi G begins item Over r n semi xs b more (inl e) h o = subst (λ l. skip (Behind l b more) ≡ tokens_of b ++ more) (sym e) (skip_row G begins item Over r n xs b more h o)
skip_semi G begins item Over r n semi xs b more (inr s) h o = subst (λ l. skip (Behind l b more) ≡ tokens_of b ++ more) (sym s.1) refl

over_semis : {A : Type 0} (G : Grammar A) (begins : Kind → Bool) (item : List Token → Read A) (Over : List Token → Type 0) → ReadsItem G begins item Over → (n : ℕ) (semi : List Mark) (xs : List A) (b : List Mark) (more : List Token) → Semi n semi → RowFor n G xs b → Over more → Over (Behind semi b more)
over_semis G begins item Over r n semi xs b more (inl e) h o = subst (λ l. Over (Behind l b more)) (sym e) (over_row G begins item Over r n xs b more h o)
over_semis G begins item Over r n semi xs b more (inr s) h o = subst (λ l. Over (Behind l b more)) (sym s.1) (r.over_semi s.0 (tokens_of b ++ more))

pub rows_read : {A : Type 0} (G : Grammar A) (begins : Kind → Bool) (item : List Token → Read A) (Over : List Token → Type 0) → ReadsItem G begins item Over → (n : ℕ) (xs : List A) (ms : List Mark) (more : List Token) → RowFor n G xs ms → Over more → RowOver begins more → (most : ℕ) → length xs ≤ most → rows begins item most (tokens_of ms ++ more) ≡ Ok (xs, more)
unfolding rows
rows_read G begins item Over r n [] ms more h o ro zero le = ap (λ (l : List Mark). let a : Read (List _) = Ok ([], tokens_of l ++ more) in a) h
rows_read G begins item Over r n [] ms [] h o ro (suc most) le = subst (λ (l : List Mark). rows begins item (suc most) (tokens_of l ++ []) ≡ Ok ([], [])) (sym h) refl
rows_read G begins item Over r n [] ms (t ∷ ts) h o ro (suc most) le = subst (λ (l : List Mark). rows begins item (suc most) (tokens_of l ++ t ∷ ts) ≡ Ok ([], t ∷ ts)) (sym h) (rw ro.0 refl)
rows_read G begins item Over r n (x ∷ xs) ms more h o ro zero le = absurd (omega (arith, le))
rows_read G begins item Over r n (x ∷ xs) ms more h o ro (suc most) le =
    let a = h.0 in
    let f = r.first x a h.4 in
    let rest = Behind h.1 h.2 more in
    let e : tokens_of ms ++ more ≡ tokens_of a ++ rest =
    ap (λ l. tokens_of l ++ more) h.3 ∙ ap (λ l. l ++ more) (tokens-append a (h.1 ++ h.2) ∙ ap (λ l. tokens_of a ++ l) (tokens-append h.1 h.2)) ∙ append_assoc (tokens_of a) (tokens_of h.1 ++ tokens_of h.2) more ∙ ap (λ l. tokens_of a ++ l) (append_assoc (tokens_of h.1) (tokens_of h.2) more) in
    let first : tokens_of a ++ rest ≡ f.0.token ∷ (tokens_of f.1 ++ rest) = ap (λ l. tokens_of l ++ rest) f.2 in
    let read : item (f.0.token ∷ (tokens_of f.1 ++ rest)) ≡ Ok (x, rest) = subst (λ l. item l ≡ Ok (x, rest)) first (r.read x a rest h.4 (over_semis G begins item Over r n h.1 xs h.2 more h.5 h.6 o)) in
    let skipped = skip_semi G begins item Over r n h.1 xs h.2 more h.5 h.6 ro in
    let others = rows_read G begins item Over r n xs h.2 more h.6 o ro most (omega (arith, le)) in
    rw (e, first, f.3, read, skipped, others) refl

-- ---- no further than the next token

-- as Front of one reader, for as many items as there may be
pub record RowFront {A : Type 0} (b : Bool) (begins : Kind → Bool) (item : List Token → Read A) (ts rest : List Token) (answer : List Token → Read (List A)) : Type 0 where
  pub front : List Token
  pub is : ts ≡ front ++ rest
  pub repeats : (next : List Token) → Heads b rest next → (most : ℕ) → length (front ++ next) ≤ most → rows begins item most (front ++ next) ≡ answer next

abbrev pub LocalRows : {A : Type 0} → (Kind → Bool) → (List Token → Read A) → List Token → Read (List A) → Type 0
LocalRows begins item ts (Ok x) = RowFront true begins item ts x.1 (λ l. Ok (x.0, l))
LocalRows begins item ts (Err (Unexpected rest)) = RowFront true begins item ts rest (λ l. Err (Unexpected l))
LocalRows begins item ts (Err (Measured rest)) = RowFront false begins item ts rest (λ l. Err (Measured l))
LocalRows begins item ts (Err (TooDeep rest)) = Unit {0}

-- no item begins with a measure, nor with a clause
pub record NoClause (begins : Kind → Bool) : Type 0 where
  pub measure : begins (word words.Decreases) ≡ false
  pub clause : (k : Kind) → BeginsClause k → begins k ≡ false

rows_empty : {A : Type 0} (begins : Kind → Bool) (item : List Token → Read A) (most : ℕ) → rows begins item most [] ≡ Ok ([], [])
unfolding rows
rows_empty begins item zero = refl
rows_empty begins item (suc most) = refl

local_empty : {A : Type 0} (begins : Kind → Bool) (item : List Token → Read A) → LocalRows begins item [] (Ok ([], []))
local_empty begins item = record { front = []; is = refl; repeats = only_empty }
  where
    only_empty : (next : List Token) → Alike [] next → (most : ℕ) → length next ≤ most → rows begins item most next ≡ Ok ([], next)
    only_empty [] same most le = rows_empty begins item most
    only_empty (t ∷ ts) same most le = absurd same

local_over : {A : Type 0} (begins : Kind → Bool) (item : List Token → Read A) → NoClause begins → (t : Token) (ts : List Token) → begins t.kind ≡ false → LocalRows begins item (t ∷ ts) (Ok ([], t ∷ ts))
unfolding rows
local_over begins item n t ts e = record { front = []; is = refl; repeats = over }
  where
    over : (next : List Token) → Alike (t ∷ ts) next → (most : ℕ) → length next ≤ most → rows begins item most next ≡ Ok ([], next)
    over [] same most le = absurd same
    over (s ∷ next) same zero le = absurd (omega (arith, le))
    over (s ∷ next) (inl same) (suc most) le = rw (← same, e) refl
    over (s ∷ next) (inr (d, c)) (suc most) le = rw (n.clause s.kind c) refl

-- what is in front, with other tokens behind, begins with the same token
record SameFirst (t : Token) (l : List Token) : Type 0 where
  more : List Token
  is : l ≡ t ∷ more

same_first : (t : Token) (ts front rest next : List Token) → (t.kind ≡ word words.Decreases → ⊥) → t ∷ ts ≡ front ++ rest → Alike rest next → SameFirst t (front ++ next)
same_first t ts [] [] next other e same = absurd cc
same_first t ts [] (r ∷ rest) [] other e same = absurd same
same_first t ts [] (r ∷ rest) (s ∷ next) other e (inl same) = let one : t ≡ r = cc in record { more = next; is = ap (λ (v : Token). v ∷ next) (sym (one ∙ same)) }
same_first t ts [] (r ∷ rest) (s ∷ next) other e (inr (d, c)) = let one : t ≡ r = cc in absurd (other (ap (λ (v : Token). v.kind) one ∙ d))
same_first t ts (a ∷ front) rest next other e same = let one : t ≡ a = cc in record { more = front ++ next; is = ap (λ (v : Token). v ∷ (front ++ next)) (sym one) }

-- what begins an item is no measure
other_word : (begins : Kind → Bool) (k : Kind) → NoClause begins → begins k ≡ true → k ≡ word words.Decreases → ⊥
other_word begins k n e d = let h : begins (word words.Decreases) ≡ true = subst (λ x. begins x ≡ true) d e in let g = n.measure in absurd cc

-- one item in front of a list that is as long as there may be items
rows_step : {A : Type 0} (begins : Kind → Bool) (item : List Token → Read A) (t : Token) (l : List Token) (most : ℕ) (r : Read A) → SameFirst t l → begins t.kind ≡ true → item l ≡ r → length l ≤ suc most
    → rows begins item (suc most) l ≡ (r >>= λ x. rows begins item most (skip x.1) >>= λ xs. Ok (x.0 ∷ xs.0, xs.1))
unfolding rows
rows_step begins item t l most r f e q le = rw (f.is, e, ← f.is, q) refl

local_stops : {A : Type 0} (b : Bool) (begins : Kind → Bool) (item : List Token → Read A) → NoClause begins → (stop : List Token → Stop) (t : Token) (ts rest : List Token) → begins t.kind ≡ true → Front b (t ∷ ts) rest (λ l. Err (stop l)) item → RowFront b begins item (t ∷ ts) rest (λ l. Err (stop l))
local_stops b begins item n stop t ts rest e f = record { front = f.front; is = f.is; repeats = stops }
  where
    stops : (next : List Token) → Heads b rest next → (most : ℕ) → length (f.front ++ next) ≤ most → rows begins item most (f.front ++ next) ≡ Err (stop next)
    stops next same zero le = let s = same_first t ts f.front rest next (other_word begins t.kind n e) f.is (alike b rest next same) in let k = ap length s.is in absurd (omega (arith, le, k))
    stops next same (suc most) le = rows_step begins item t (f.front ++ next) most (Err (stop next)) (same_first t ts f.front rest next (other_word begins t.kind n e) f.is (alike b rest next same)) e (f.repeats next same) le

-- an item, and what is between it and the others
record Between (mid skipped : List Token) : Type 0 where
  semi : List Token
  is : mid ≡ semi ++ skipped
  again : (l : List Token) → Alike skipped l → skip (semi ++ l) ≡ l

between : (mid : List Token) → Between mid (skip mid)
between [] = record { semi = []; is = refl; again = none_skipped }
  where
    none_skipped : (l : List Token) → Alike [] l → skip l ≡ l
    none_skipped [] same = refl
    none_skipped (t ∷ l) same = absurd same
between (t ∷ ts) = by_test (is_symbol signs.Semicolon t.kind) refl
  where
    by_test : (b : Bool) → is_symbol signs.Semicolon t.kind ≡ b → Between (t ∷ ts) (cond b ts (t ∷ ts))
    by_test true e = record { semi = t ∷ []; is = refl; again = λ l same. rw e refl }
    by_test false e = record { semi = []; is = refl; again = none_skipped }
      where
        none_skipped : (l : List Token) → Alike (t ∷ ts) l → skip l ≡ l
        none_skipped [] same = absurd same
        none_skipped (s ∷ l) (inl same) = rw (← same, e) refl
        none_skipped (s ∷ l) (inr (d, inl c)) = rw c refl
        none_skipped (s ∷ l) (inr (d, inr c)) = rw c refl

more_front : {A : Type 0} (c : Bool) (begins : Kind → Bool) (item : List Token → Read A) → NoClause begins → (t : Token) (ts : List Token) (x : A) (mid rest : List Token) (answer : List Token → Read (List A)) → begins t.kind ≡ true → length mid < length (t ∷ ts) → Front true (t ∷ ts) mid (λ l. Ok (x, l)) item → RowFront c begins item (skip mid) rest answer
    → RowFront c begins item (t ∷ ts) rest (λ l. answer l >>= λ xs. Ok (x ∷ xs.0, xs.1))
more_front c begins item n t ts x mid rest answer e lt f g = record {
  front = f.front ++ (b.semi ++ g.front);
  is = whole;
  repeats = again;
}
  where
    b : Between mid (skip mid)
    b = between mid

    whole : t ∷ ts ≡ (f.front ++ (b.semi ++ g.front)) ++ rest
    whole = f.is ∙ ap (λ l. f.front ++ l) (b.is ∙ ap (λ l. b.semi ++ l) g.is ∙ sym (append_assoc b.semi g.front rest)) ∙ sym (append_assoc f.front (b.semi ++ g.front) rest)

    again : (next : List Token) → Heads c rest next → (most : ℕ) → length ((f.front ++ (b.semi ++ g.front)) ++ next) ≤ most → rows begins item most ((f.front ++ (b.semi ++ g.front)) ++ next) ≡ (answer next >>= λ xs. Ok (x ∷ xs.0, xs.1))
    again next same zero le =
        let s = same_first t ts (f.front ++ (b.semi ++ g.front)) rest next (other_word begins t.kind n e) whole (alike c rest next same) in
        let k = ap length s.is in
        absurd (omega (arith, le, k))
    again next same (suc most) le =
        let l3 = g.front ++ next in
        let l2 = b.semi ++ l3 in
        let list : (f.front ++ (b.semi ++ g.front)) ++ next ≡ f.front ++ l2 = append_assoc f.front (b.semi ++ g.front) next ∙ ap (λ l. f.front ++ l) (append_assoc b.semi g.front next) in
        let heads : Alike (skip mid) l3 = alike_behind c g.front (skip mid) rest next g.is same in
        let heads2 : Alike mid l2 = alike_behind true b.semi mid (skip mid) l3 b.is heads in
        let read : item (f.front ++ l2) ≡ Ok (x, l2) = f.repeats l2 heads2 in
        let n1 = length-append f.front mid in
        let n2 = ap length f.is in
        let n3 = length-append f.front l2 in
        let n4 = length-append b.semi l3 in
        let n5 = ap length list in
        let short : length l3 ≤ most = omega (arith, lt, n1, n2, n3, n4, n5, le) in
        let long : length (f.front ++ l2) ≤ suc most = omega (arith, n5, le) in
        ap (rows begins item (suc most)) list
        ∙ rows_step begins item t (f.front ++ l2) most (Ok (x, l2)) (same_first t ts f.front mid l2 (other_word begins t.kind n e) f.is heads2) e read long
        ∙ rw (b.again l3 heads, g.repeats next same most short) refl

local_more : {A : Type 0} (begins : Kind → Bool) (item : List Token → Read A) → NoClause begins → (t : Token) (ts : List Token) (x : A) (mid : List Token) (r : Read (List A)) → begins t.kind ≡ true → length mid < length (t ∷ ts) → Front true (t ∷ ts) mid (λ l. Ok (x, l)) item → LocalRows begins item (skip mid) r → LocalRows begins item (t ∷ ts) (r >>= λ xs. Ok (x ∷ xs.0, xs.1))
local_more begins item n t ts x mid (Ok xs) e lt f g = more_front true begins item n t ts x mid xs.1 (λ l. Ok (xs.0, l)) e lt f g
local_more begins item n t ts x mid (Err (Unexpected rest)) e lt f g = more_front true begins item n t ts x mid rest (λ l. Err (Unexpected l)) e lt f g
local_more begins item n t ts x mid (Err (Measured rest)) e lt f g = more_front false begins item n t ts x mid rest (λ l. Err (Measured l)) e lt f g
local_more begins item n t ts x mid (Err (TooDeep rest)) e lt f g = tt

skip_short : (ts : List Token) → length (skip ts) ≤ length ts
skip_short [] = omega arith
skip_short (t ∷ ts) = by_test (is_symbol signs.Semicolon t.kind)
  where
    by_test : (b : Bool) → length (cond b ts (t ∷ ts)) ≤ length (t ∷ ts)
    by_test true = omega arith
    by_test false = omega arith

local_item : {A : Type 0} (begins : Kind → Bool) (item : List Token → Read A) → NoClause begins → (t : Token) (ts : List Token) (r : Read A) (go : List Token → Read (List A)) → begins t.kind ≡ true → Local (t ∷ ts) r item → ((x : A) (mid : List Token) → r ≡ Ok (x, mid) → length mid < length (t ∷ ts)) → ((us : List Token) → length us ≤ length ts → LocalRows begins item us (go us))
    → LocalRows begins item (t ∷ ts) (r >>= λ x. go (skip x.1) >>= λ xs. Ok (x.0 ∷ xs.0, xs.1))
local_item begins item n t ts (Ok x) go e f lt h =
    let k = lt x.0 x.1 refl in
    let s = skip_short x.1 in
    local_more begins item n t ts x.0 x.1 (go (skip x.1)) e k f (h (skip x.1) (omega (arith, k, s)))
local_item begins item n t ts (Err (Unexpected rest)) go e f lt h = local_stops true begins item n Unexpected t ts rest e f
local_item begins item n t ts (Err (Measured rest)) go e f lt h = local_stops false begins item n Measured t ts rest e f
local_item begins item n t ts (Err (TooDeep rest)) go e f lt h = tt

-- reading items by one reader is repeated by the other, for as many items as there may be
pub rows_local : {A : Type 0} (begins : Kind → Bool) (item other : List Token → Read A) → NoClause begins → ((ts : List Token) → Local ts (item ts) other) → ((ts : List Token) (x : A) (mid : List Token) → item ts ≡ Ok (x, mid) → length mid < length ts) → (most : ℕ) (ts : List Token) → length ts ≤ most → LocalRows begins other ts (rows begins item most ts)
unfolding rows
rows_local begins item other n h short zero [] le = local_empty begins other
rows_local begins item other n h short zero (t ∷ ts) le = absurd (omega (arith, le))
rows_local begins item other n h short (suc most) [] le = local_empty begins other
rows_local begins item other n h short (suc most) (t ∷ ts) le = by_test (begins t.kind) refl (λ us less. rows_local begins item other n h short most us (omega (arith, less, le)))
  where
    by_test : (b : Bool) → begins t.kind ≡ b → ((us : List Token) → length us ≤ length ts → LocalRows begins other us (rows begins item most us)) → LocalRows begins other (t ∷ ts) (cond b (item (t ∷ ts) >>= λ x. rows begins item most (skip x.1) >>= λ xs. Ok (x.0 ∷ xs.0, xs.1)) (Ok ([], t ∷ ts)))
    by_test true e go = local_item begins other n t ts (item (t ∷ ts)) (rows begins item most) e (h (t ∷ ts)) (short (t ∷ ts)) go
    by_test false e go = local_over begins other n t ts e
