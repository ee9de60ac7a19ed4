-- Statements that begin with a name, and right sides, that are spelled are read.
use Rattle.std.proofs.Common.{◌≡◌, ℕ, zero, suc, ◌+◌, ◌≤◌, List, [], ◌∷◌, ◌++◌, false, Ok, length, refl, sym, ap, ◌∙◌, append_assoc, arith}
use Rattle.std.proofs.lemmas.List.{append-nil}
use Rattle.vx_ast.specs.declared.Place.{Place}
use Rattle.vx_ast.specs.Written.{Placed, placed}
use Rattle.vx_tokens.specs.declared.token.Word.TheVariants as words
use Rattle.vx_tokens.specs.declared.token.Symbol.TheVariants as signs
use Rattle.vx_tokens.specs.Tokens.{Token, Kind, name, word, symbol}
use Rattle.vx_grammar.specs.Grammar.{Phrase, literal, constant, numeral, named, called, dotted, grouped, past, accessed, prefixed, joined, chosen, unfolded, ArgumentsPhrase, ArgumentsStand, dots, Mark, mark, marks, start_of, meant, IsPrimary, StandsAt, tokens_of}
use Rattle.vx_grammar.specs.Statements.{NamesPhrase, no_names, next_name, FieldsPhrase, every_field, no_fields, these_fields, RightPhrase, given, allocated, names_meant, fields_meant, right_meant, RightStands, names_marks, fields_marks, right_marks, IsPath, assigned, stored, invoked, targeted, stmt_meant, stmt_marks, StandsStmt}
use Rattle.vx_grammar.specs.Reading.{Read, is_symbol, expect, run, name_at, name_turn, fields_at, allocation_at, allocation, postfix_by, unary_by, unary_at, choice_at, below}
use Rattle.vx_grammar.specs.StmtReading.{StmtDeeper, begins_new, value_at, right_at, assign_one, invoke_at, assign_at, store_at, by_target, target_at, stmt_at}
use Rattle.vx_grammar.specs.Laws.{Within}
use Rattle.vx_grammar.proofs.Lists.{tokens-append_more, within_front, within_back, Ends, ends_below, begins}
use Rattle.vx_grammar.proofs.Complete.{is_read, enclosed_reads, primary_is_read, arguments_are_read}

abbrev Toks : List Mark → List Token → List Token
Toks ms us = tokens_of ms ++ us

-- ---- names

names_ok : List Placed → List Token → Read (List Placed)
names_ok xs ts = Ok (xs, ts)

name_count : NamesPhrase → ℕ
name_count no_names = 0
name_count (next_name p q x rest) = 1 + name_count rest

names_read : (n : ℕ) (ys : NamesPhrase) (before : List Placed) (t : Token) (ts : List Token) → is_symbol signs.Comma t.kind ≡ false → (most : ℕ) → name_count ys ≤ most → run name_turn most before (Toks (names_marks n ys) (t ∷ ts)) ≡ names_ok (before ++ names_meant ys) (t ∷ ts)
unfolding run name_turn name_at name_count names_ok
names_read n no_names before t ts h zero le = ap (λ l. names_ok l (t ∷ ts)) (sym (append-nil before))
names_read n no_names before t ts h (suc most) le = rw h (ap (λ l. names_ok l (t ∷ ts)) (sym (append-nil before)))
names_read n (next_name p q x rest) before t ts h zero le = absurd (omega (arith, le))
names_read n (next_name p q x rest) before t ts h (suc most) le = names_read n rest (before ++ placed q x ∷ []) t ts h most (omega (arith, le)) ∙ ap (λ l. names_ok l (t ∷ ts)) (append_assoc before (placed q x ∷ []) (names_meant rest))

names_long : (n : ℕ) (ys : NamesPhrase) (ts : List Token) → name_count ys ≤ length (Toks (names_marks n ys) ts)
unfolding name_count
names_long n no_names ts = omega arith
names_long n (next_name p q x rest) ts = let h = names_long n rest ts in omega (arith, h)

-- as many turns as there are tokens
names_are_read : (n : ℕ) (ys : NamesPhrase) (before : List Placed) (t : Token) (ts : List Token) → is_symbol signs.Comma t.kind ≡ false → run name_turn (length (Toks (names_marks n ys) (t ∷ ts))) before (Toks (names_marks n ys) (t ∷ ts)) ≡ Ok (before ++ names_meant ys, t ∷ ts)
unfolding names_ok
names_are_read n ys before t ts h = names_read n ys before t ts h (length (Toks (names_marks n ys) (t ∷ ts))) (names_long n ys (t ∷ ts))

-- ---- right sides

fields_read : (at : Place) (n : ℕ) (fs : FieldsPhrase) (c : Place) (more : List Token) → (let close = mark n c (symbol signs.Close) in allocation_at at (Toks (fields_marks n fs) (close.token ∷ more)) ≡ Ok (fields_meant at fs, close.token ∷ more))
unfolding allocation_at fields_at name_at
fields_read at n (every_field p) c more = refl
fields_read at n no_fields c more = refl
fields_read at n (these_fields p x rest) c more = rw (names_are_read n rest (placed p x ∷ []) (mark n c (symbol signs.Close)).token more refl) refl

not_new : (k : Kind) → (k ≡ word words.New → ⊥) → begins_new k ≡ false
not_new (word words.New) h = absurd (h refl)
not_new k h = refl

pub right_reads : (limit n room : ℕ) (r : RightPhrase) (us : List Token) → n + room ≡ limit → Within limit (right_marks n r) → RightStands r → Ends 8 us → right_at room (Toks (right_marks n r) us) ≡ Ok (right_meant r, us)
unfolding right_at value_at
right_reads limit n room (given e) us s h st ends =
    let b = begins e n us in
    let read : choice_at (below room) (Toks (marks n e) us) ≡ Ok (meant e, us) = is_read limit n room e us s h st ends in
    ap (right_at room) b.is ∙ rw (not_new b.first.kind b.not_new, rw b.is at read) refl
right_reads limit n room (allocated p o fs c) us s h st ends = enclosed_reads limit n room (allocation p) o c (fields_marks (n + 1) fs) (fields_meant p fs) us s h.1.0 (λ less e. fields_read p (n + 1) fs c us)

-- ---- what stands in front of `:=`

pub path_primary : (w : Phrase) → IsPath w → IsPrimary w
path_primary (named p x) h = tt
path_primary (called p x o es c) h = tt
path_primary (dotted e p q f) h = tt
path_primary (literal p b) h = absurd h
path_primary (constant p c) h = absurd h
path_primary (numeral p m) h = absurd h
path_primary (grouped p e q) h = absurd h
path_primary (past p o e c) h = absurd h
path_primary (accessed p o e a c) h = absurd h
path_primary (prefixed p op e) h = absurd h
path_primary (joined a p op b) h = absurd h
path_primary (chosen c p a q b) h = absurd h
path_primary (unfolded p i q w) h = absurd h

-- a path begins with a name
pub path_first : (w : Phrase) (n : ℕ) → IsPath w → (x : List ℕ) × (rest : List Mark) × (marks n w ≡ mark n (start_of w) (name x) ∷ rest)
path_first (named p x) n h = (x, [], refl)
path_first (called p x o es c) n h = (x, _, refl)
path_first (dotted e p q f) n h =
    let deep = n + dots e + 1 in
    let behind = mark deep p (symbol signs.Dot) ∷ mark deep q (name f) ∷ [] in
    let i = path_first e n h in
    (i.0, i.1 ++ behind, ap (λ l. l ++ behind) i.2)
path_first (literal p b) n h = absurd h
path_first (constant p c) n h = absurd h
path_first (numeral p m) n h = absurd h
path_first (grouped p e q) n h = absurd h
path_first (past p o e c) n h = absurd h
path_first (accessed p o e a c) n h = absurd h
path_first (prefixed p op e) n h = absurd h
path_first (joined a p op b) n h = absurd h
path_first (chosen c p a q b) n h = absurd h
path_first (unfolded p i q w) n h = absurd h

path_reads : (limit n room : ℕ) (d : StmtDeeper) (w : Phrase) (more : List Token) → n + room ≡ limit → Within limit (marks n w) → StandsAt 0 w → IsPath w → Ends 0 more → stmt_at room d (Toks (marks n w) more) ≡ by_target room (start_of w) (meant w) more
unfolding stmt_at target_at unary_at unary_by
path_reads limit n room d w more s h st is ends =
    let f = path_first w n is in
    let t : Token = (mark n (start_of w) (name f.0)).token in
    let us = tokens_of f.1 ++ more in
    let list : Toks (marks n w) more ≡ t ∷ us = ap (λ l. Toks l more) f.2 in
    let whole : unary_at (below room) (Toks (marks n w) more) ≡ Ok (meant w, more) = primary_is_read limit n room w more s h st (path_primary w is) ends in
    let read : postfix_by (below room) t (name f.0) us ≡ Ok (meant w, more) = ap (unary_at (below room)) (sym list) ∙ whole in
    ap (stmt_at room d) list ∙ rw read refl

-- ---- statements

ends_zero : (ts : List Token) → Ends 8 ts → Ends 0 ts
ends_zero ts h = ends_below 0 8 ts (omega arith) h

pub assigned_reads : (limit n room : ℕ) (d : StmtDeeper) (p : Place) (x : List ℕ) (q : Place) (r : RightPhrase) (ts : List Token) → n + room ≡ limit → Within limit (stmt_marks n (assigned p x q r)) → RightStands r → Ends 8 ts → stmt_at room d (Toks (stmt_marks n (assigned p x q r)) ts) ≡ Ok (stmt_meant (assigned p x q r), ts)
unfolding assign_at assign_one expect
assigned_reads limit n room d p x q r ts s h st ends =
    let becomes : Token = (mark n q (symbol signs.Becomes)).token in
    path_reads limit n room d (named p x) (becomes ∷ Toks (right_marks n r) ts) s (h.0, tt) tt tt (omega arith)
    ∙ rw (names_are_read n no_names (placed p x ∷ []) becomes (Toks (right_marks n r) ts) refl, right_reads limit n room r ts s h.1.1 st ends) refl

pub stored_reads : (limit n room : ℕ) (d : StmtDeeper) (e : Phrase) (p q : Place) (f : List ℕ) (r : Place) (v : Phrase) (ts : List Token) → n + room ≡ limit → Within limit (stmt_marks n (stored e p q f r v)) → StandsStmt (stored e p q f r v) → Ends 8 ts → stmt_at room d (Toks (stmt_marks n (stored e p q f r v)) ts) ≡ Ok (stmt_meant (stored e p q f r v), ts)
unfolding store_at expect
stored_reads limit n room d e p q f r v ts s h st ends =
    let w = dotted e p q f in
    let m = mark n r (symbol signs.Becomes) in
    let list : tokens_of (marks n w ++ m ∷ marks n v) ++ ts ≡ Toks (marks n w) (m.token ∷ Toks (marks n v) ts) = tokens-append_more (marks n w) (m ∷ marks n v) ts in
    let hv = within_back limit (marks n w) (m ∷ marks n v) h in
    ap (stmt_at room d) list
    ∙ path_reads limit n room d w (m.token ∷ Toks (marks n v) ts) s (within_front limit (marks n w) (m ∷ marks n v) h) (path_primary e st.0, st.1) st.0 (omega arith)
    ∙ rw (is_read limit n room v ts s hv.1 st.2 ends) refl

pub invoked_reads : (limit n room : ℕ) (d : StmtDeeper) (p : Place) (m : List ℕ) (o : Place) (es : ArgumentsPhrase) (c : Place) (ts : List Token) → n + room ≡ limit → Within limit (stmt_marks n (invoked p m o es c)) → ArgumentsStand es → Ends 8 ts → stmt_at room d (Toks (stmt_marks n (invoked p m o es c)) ts) ≡ Ok (stmt_meant (invoked p m o es c), ts)
invoked_reads limit n room d p m o es c ts s h st ends = path_reads limit n room d (called p m o es c) ts s h st tt (ends_zero ts ends)

pub targeted_reads : (limit n room : ℕ) (d : StmtDeeper) (p : Place) (x : List ℕ) (k q : Place) (y : List ℕ) (ys : NamesPhrase) (r s : Place) (m : List ℕ) (o : Place) (es : ArgumentsPhrase) (c : Place) (ts : List Token) → n + room ≡ limit → Within limit (stmt_marks n (targeted p x k q y ys r s m o es c)) → ArgumentsStand es
    → stmt_at room d (Toks (stmt_marks n (targeted p x k q y ys r s m o es c)) ts) ≡ Ok (stmt_meant (targeted p x k q y ys r s m o es c), ts)
unfolding assign_at invoke_at name_at expect
targeted_reads limit n room d p x k q y ys r s m o es c ts e h st =
    let becomes = mark n r (symbol signs.Becomes) in
    let call = marks n (called s m o es c) in
    let names = names_marks n (next_name k q y ys) in
    let hc = within_back limit names (becomes ∷ call) h.1 in
    let tail = Toks call ts in
    let list : tokens_of (names ++ becomes ∷ call) ++ ts ≡ Toks names (becomes.token ∷ tail) = tokens-append_more names (becomes ∷ call) ts in
    ap (λ l. stmt_at room d ((mark n p (name x)).token ∷ l)) list
    ∙ path_reads limit n room d (named p x) (Toks names (becomes.token ∷ tail)) e (h.0, tt) tt tt (omega arith)
    ∙ rw (names_are_read n (next_name k q y ys) (placed p x ∷ []) becomes.token tail refl, arguments_are_read limit n room o es c ts e hc.1.1.0 hc.1.1.1 st) refl
