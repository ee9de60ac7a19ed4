-- Statements that are spelled are read.
use Rattle.std.proofs.Common.{◌≡◌, ℕ, zero, suc, ◌+◌, ◌-◌, ◌≤◌, ◌<◌, List, [], ◌∷◌, ◌++◌, Option, Some, None, Bool, true, false, Ok, length, refl, sym, ap, subst, ◌∙◌, arith, inl, inr, length-append}
use Rattle.std.proofs.lemmas.List.{length-map}
use Rattle.vx_ast.specs.declared.Place.{Place}
use Rattle.vx_ast.specs.declared.ValueType.{ValueType}
use Rattle.vx_ast.specs.declared.ValueType.TheVariants as types
use Rattle.vx_ast.specs.Written.{placed_type, Expr, Stmt, NoElse, Block, Done, Then}
use Rattle.vx_tokens.specs.declared.token.Word.TheVariants as words
use Rattle.vx_tokens.specs.declared.token.Symbol.TheVariants as signs
use Rattle.vx_tokens.specs.Tokens.{Token, Kind, name, word, symbol}
use Rattle.vx_grammar.specs.Grammar.{Phrase, dotted, start_of, Instance, Mark, mark, marks, meant, StandsAt, tokens_of}
use Rattle.vx_grammar.specs.Statements.{InvariantsPhrase, repeated, invariants_marks, DeclarationPhrase, Claim, inhales, exhales, asserts, assumes, claim_word, claim_meant, Folding, folds, unfolds, folding_word, folding_meant, folded, type_word, declaration_meant, declaration_marks, StmtPhrase, assigned, stored, invoked, targeted, right_marks, IsPath, declared, initialized, claimed, branched, BranchPhrase, branch, OtherPhrase, no_other, other, another, BlockPhrase, block, RowPhrase, no_more, more, stmt_meant, branch_meant, other_meant, block_meant, row_meant, StandsStmt, StandsBranch, StandsOther, StandsBlock, StandsRow, stmt_marks, branch_marks, other_marks, block_marks, row_marks, semi_marks}
use Rattle.vx_grammar.specs.Reading.{instance_at, enclosed, Read, expect, is_symbol, choice, choice_at, below, name_at}
use Rattle.vx_grammar.specs.StmtReading.{begins_decreases, loop_block_at, while_at, StmtDeeper, statements, elseif_part, stmts_below, type_by, type_at, declaration_at, block_at, otherwise_by, otherwise_at, branch_at, initial_by, initial_at, declare_at, claim_at, fold_at, stmt_at, begins_stmt, stmts_at, block_from}
use Rattle.vx_grammar.specs.Nesting.{nests, stmt_nests}
use Rattle.vx_grammar.specs.Laws.{Within}
use Rattle.vx_grammar.proofs.Lists.{tokens-append_more, within_front, within_back, reach, Ends}
use Rattle.vx_grammar.proofs.Complete.{is_read, instance_is_read}
use Rattle.vx_grammar.proofs.Rows.{rows_read, RowFor, RowOver, ReadsItem, Semi}
use Rattle.vx_grammar.proofs.StmtFor.{StmtFor, stmts_are_rows}
use Rattle.vx_grammar.proofs.TargetReads.{right_reads, path_first, assigned_reads, stored_reads, invoked_reads, targeted_reads}
use Rattle.vx_grammar.proofs.InvariantsRead.{invariants_are_read}

-- ---- what may follow a statement

abbrev pub begins_other : Kind → Bool
begins_other (word words.Else) = true
begins_other (word words.Elseif) = true
begins_other k = false

-- no expression goes on, no value is given, and there is no other side
abbrev pub StmtOver : List Token → Type 0
StmtOver [] = Unit {0}
StmtOver (t ∷ ts) = (8 < reach t.kind) × (is_symbol signs.Becomes t.kind ≡ false) × (begins_other t.kind ≡ false)

over_ends : (ts : List Token) → StmtOver ts → Ends 8 ts
over_ends [] h = tt
over_ends (t ∷ ts) h = h.0

over_kind : (k : Kind) → begins_stmt k ≡ true → (8 < reach k) × (is_symbol signs.Becomes k ≡ false) × (begins_other k ≡ false)
over_kind (name x) h = (omega arith, refl, refl)
over_kind (word words.Var) h = (omega arith, refl, refl)
over_kind (word words.Inhale) h = (omega arith, refl, refl)
over_kind (word words.Exhale) h = (omega arith, refl, refl)
over_kind (word words.Assert) h = (omega arith, refl, refl)
over_kind (word words.Assume) h = (omega arith, refl, refl)
over_kind (word words.Fold) h = (omega arith, refl, refl)
over_kind (word words.Unfold) h = (omega arith, refl, refl)
over_kind (word words.If) h = (omega arith, refl, refl)
over_kind (word words.While) h = (omega arith, refl, refl)
over_kind k h = absurd cc

not_semi : (k : Kind) → begins_stmt k ≡ true → is_symbol signs.Semicolon k ≡ false
not_semi (name x) h = refl
not_semi (word words.Var) h = refl
not_semi (word words.Inhale) h = refl
not_semi (word words.Exhale) h = refl
not_semi (word words.Assert) h = refl
not_semi (word words.Assume) h = refl
not_semi (word words.Fold) h = refl
not_semi (word words.Unfold) h = refl
not_semi (word words.If) h = refl
not_semi (word words.While) h = refl
not_semi k h = absurd cc

-- ---- declarations

abbrev pub Toks : List Mark → List Token → List Token
Toks ms us = tokens_of ms ++ us

type_reads : (t : ValueType) (at : Token) (us : List Token) → type_by at (word (type_word t)) us ≡ Ok (placed_type at.place t, us)
type_reads types.Int at us = refl
type_reads types.Bool at us = refl
type_reads types.Ref at us = refl
type_reads types.Perm at us = refl

pub declaration_reads : (n : ℕ) (d : DeclarationPhrase) (us : List Token) → declaration_at (Toks (declaration_marks n d) us) ≡ Ok (declaration_meant d, us)
unfolding declaration_at name_at type_at expect
declaration_reads n d us = rw (type_reads d.of (mark n d.type_at (word (type_word d.of))).token us) refl

-- ---- expressions

expr_reads : (limit n room : ℕ) (w : Phrase) (us : List Token) → n + room ≡ limit → Within limit (marks n w) → StandsAt 8 w → Ends 8 us → choice_at (below room) (Toks (marks n w) us) ≡ Ok (meant w, us)
expr_reads limit n room w us e h st ends = is_read limit n room w us e h st ends

room_for : (limit n room : ℕ) → n + room ≡ limit → n + 1 ≤ limit → room ≡ (room - 1) + 1
room_for limit n room e le = omega (arith, e, le)

condition_reads : (limit n room : ℕ) (o c : Place) (w : Phrase) (us : List Token) → n + room ≡ limit → n + 1 ≤ limit → Within limit (marks (n + 1) w) → StandsAt 8 w → (let open' = mark (n + 1) o (symbol signs.Open) in let close = mark (n + 1) c (symbol signs.Close) in enclosed (below room) choice (open'.token ∷ Toks (marks (n + 1) w) (close.token ∷ us)) ≡ Ok (meant w, us))
unfolding enclosed expect
condition_reads limit n room o c w us e le h st =
    let less = room - 1 in
    let s = room_for limit n room e le in
    let close = mark (n + 1) c (symbol signs.Close) in
    let inner = expr_reads limit (n + 1) less w (close.token ∷ us) (omega (arith, e, le)) h st (omega arith) in
    let taken : below room choice ((mark (n + 1) o (symbol signs.Open)).token ∷ Toks (marks (n + 1) w) (close.token ∷ us)) (Toks (marks (n + 1) w) (close.token ∷ us)) ≡ Ok (meant w, close.token ∷ us) = nests room less choice _ _ s ∙ inner in
    rw taken refl

-- ---- what is shown at each room

-- the statements of a row
abbrev pub stmts_in : RowPhrase → List Stmt
stmts_in no_more = []
stmts_in (more s semi r) = stmt_meant s ∷ stmts_in r

row_is : (r : RowPhrase) → block_from (stmts_in r) ≡ row_meant r
row_is no_more = refl
row_is (more s semi r) = ap (Then (stmt_meant s)) (row_is r)

abbrev pub BlockEnds : List Token → Type 0
BlockEnds ts = RowOver begins_stmt ts

record StmtReads (limit room : ℕ) : Type 0 where
  row_reads : (n : ℕ) (r : RowPhrase) (p : Place) (ts : List Token) → n + room ≡ limit → Within limit (row_marks n r) → StandsRow r → (let close = mark n p (symbol signs.CloseBrace) in stmts_at room (stmts_below room) (Toks (row_marks n r) (close.token ∷ ts)) ≡ Ok (stmts_in r, close.token ∷ ts))
  branch_reads : (n : ℕ) (place : Place) (b : BranchPhrase) (ts : List Token) → n + room ≡ limit → Within limit (branch_marks n b) → StandsBranch b → StmtOver ts → branch_at room (stmts_below room) place (Toks (branch_marks n b) ts) ≡ Ok (branch_meant place b, ts)

StmtReadsBelow : ℕ → ℕ → Type 0
StmtReadsBelow limit room = (less : ℕ) → room ≡ less + 1 → StmtReads limit less

block_reads : (limit n room : ℕ) (b : BlockPhrase) (ts : List Token) → n + room ≡ limit → StmtReadsBelow limit room → Within limit (block_marks n b) → StandsBlock b → block_at (stmts_below room) (Toks (block_marks n b) ts) ≡ Ok (block_meant b, ts)
unfolding block_at expect StmtReadsBelow
block_reads limit n room (block o r c) ts e below' h st =
    let less = room - 1 in
    let s = room_for limit n room e h.0 in
    let close = mark (n + 1) c (symbol signs.CloseBrace) in
    let here = (mark (n + 1) o (symbol signs.OpenBrace)).token in
    let list : tokens_of (row_marks (n + 1) r ++ close ∷ []) ++ ts ≡ Toks (row_marks (n + 1) r) (close.token ∷ ts) = tokens-append_more (row_marks (n + 1) r) (close ∷ []) ts in
    let row = (below' less s).row_reads (n + 1) r c ts (omega (arith, e, h.0)) (within_front limit (row_marks (n + 1) r) (close ∷ []) h.1) st in
    let taken : stmts_below room statements (here ∷ (tokens_of (row_marks (n + 1) r ++ close ∷ []) ++ ts)) (tokens_of (row_marks (n + 1) r ++ close ∷ []) ++ ts) ≡ Ok (row_meant r, close.token ∷ ts) =
    stmt_nests room less statements _ _ s ∙ rw (list, row) (ap (λ (b : Block). let a : Read Block = Ok (b, close.token ∷ ts) in a) (row_is r)) in
    rw taken refl

no_other_by : (deeper : StmtDeeper) (t : Token) (k : Kind) (ts : List Token) → begins_other k ≡ false → otherwise_by deeper t k ts ≡ Ok (NoElse, t ∷ ts)
no_other_by deeper t (word words.Else) ts h = absurd cc
no_other_by deeper t (word words.Elseif) ts h = absurd cc
no_other_by deeper t k ts h = refl

other_reads : (limit n room : ℕ) (x : OtherPhrase) (ts : List Token) → n + room ≡ limit → StmtReadsBelow limit room → Within limit (other_marks n x) → StandsOther x → StmtOver ts → otherwise_at (stmts_below room) (Toks (other_marks n x) ts) ≡ Ok (other_meant x, ts)
unfolding otherwise_at StmtReadsBelow
other_reads limit n room no_other [] e below' h st ends = refl
other_reads limit n room no_other (t ∷ ts) e below' h st ends = no_other_by (stmts_below room) t t.kind ts ends.2
other_reads limit n room (other p b) ts e below' h st ends = rw (block_reads limit n room b ts e below' h.1 st) refl
other_reads limit n room (another p b) ts e below' h st ends =
    let less = room - 1 in
    let s = room_for limit n room e h.0 in
    let read = (below' less s).branch_reads (n + 1) p b ts (omega (arith, e, h.0)) h.1 st ends in
    let us = Toks (branch_marks (n + 1) b) ts in
    let taken : stmts_below room (elseif_part p) ((mark (n + 1) p (word words.Elseif)).token ∷ us) us ≡ Ok (Then (branch_meant p b) Done, ts) = stmt_nests room less (elseif_part p) _ _ s ∙ rw read refl in
    rw taken refl

branch_reads_at : (limit n room : ℕ) (place : Place) (b : BranchPhrase) (ts : List Token) → n + room ≡ limit → StmtReadsBelow limit room → Within limit (branch_marks n b) → StandsBranch b → StmtOver ts → branch_at room (stmts_below room) place (Toks (branch_marks n b) ts) ≡ Ok (branch_meant place b, ts)
unfolding branch_at
branch_reads_at limit n room place (branch o w c b x) ts e below' h st ends =
    let close = mark (n + 1) c (symbol signs.Close) in
    let tail = block_marks n b ++ other_marks n x in
    let hw = within_front limit (marks (n + 1) w) (close ∷ tail) h.1 in
    let ht = (within_back limit (marks (n + 1) w) (close ∷ tail) h.1).1 in
    let hb = within_front limit (block_marks n b) (other_marks n x) ht in
    let hx = within_back limit (block_marks n b) (other_marks n x) ht in
    let first : tokens_of (marks (n + 1) w ++ close ∷ tail) ++ ts ≡ Toks (marks (n + 1) w) (close.token ∷ (tokens_of tail ++ ts)) = tokens-append_more (marks (n + 1) w) (close ∷ tail) ts in
    let second : tokens_of tail ++ ts ≡ Toks (block_marks n b) (Toks (other_marks n x) ts) = tokens-append_more (block_marks n b) (other_marks n x) ts in
    let condition = condition_reads limit n room o c w (tokens_of tail ++ ts) e h.0 hw st.0 in
    let inside = block_reads limit n room b (Toks (other_marks n x) ts) e below' hb st.1 in
    let otherwise = other_reads limit n room x ts e below' hx st.2 ends in
    rw (first, condition, second, inside, otherwise) refl

-- ---- statements

claim_is : (c : Claim) (p : Place) (n room : ℕ) (e : Expr) (us ts : List Token) → choice_at (below room) us ≡ Ok (e, ts) → stmt_at room (stmts_below room) ((mark n p (word (claim_word c))).token ∷ us) ≡ Ok (claim_meant c p e, ts)
unfolding stmt_at claim_at
claim_is inhales p n room e us ts h = rw h refl
claim_is exhales p n room e us ts h = rw h refl
claim_is asserts p n room e us ts h = rw h refl
claim_is assumes p n room e us ts h = rw h refl

claim_begins : (c : Claim) → begins_stmt (word (claim_word c)) ≡ true
claim_begins inhales = refl
claim_begins exhales = refl
claim_begins asserts = refl
claim_begins assumes = refl

folding_is : (f : Folding) (p : Place) (n room : ℕ) (i : Instance) (us ts : List Token) → instance_at (below room) us ≡ Ok (i, ts) → stmt_at room (stmts_below room) ((mark n p (word (folding_word f))).token ∷ us) ≡ Ok (folding_meant f p i, ts)
unfolding stmt_at fold_at
folding_is folds p n room i us ts h = rw h refl
folding_is unfolds p n room i us ts h = rw h refl

folding_begins : (f : Folding) → begins_stmt (word (folding_word f)) ≡ true
folding_begins folds = refl
folding_begins unfolds = refl

-- no measure begins a block
block_no_measure : (n : ℕ) (b : BlockPhrase) (ts : List Token) → begins_decreases (Toks (block_marks n b) ts) ≡ false
block_no_measure n (block o r c) ts = refl

while_reads : (limit n room : ℕ) (p o : Place) (w : Phrase) (c : Place) (is : InvariantsPhrase) (b : BlockPhrase) (ts : List Token) → n + room ≡ limit → StmtReadsBelow limit room → Within limit (stmt_marks n (repeated p o w c is b)) → StandsStmt (repeated p o w c is b)
    → stmt_at room (stmts_below room) (Toks (stmt_marks n (repeated p o w c is b)) ts) ≡ Ok (stmt_meant (repeated p o w c is b), ts)
unfolding stmt_at while_at loop_block_at
while_reads limit n room p o w c is b ts e below' h st =
    let close = mark (n + 1) c (symbol signs.Close) in
    let tail = invariants_marks n 0 is ++ block_marks n b in
    let hw = within_front limit (marks (n + 1) w) (close ∷ tail) h.1.1 in
    let ht = (within_back limit (marks (n + 1) w) (close ∷ tail) h.1.1).1 in
    let hi = within_front limit (invariants_marks n 0 is) (block_marks n b) ht in
    let hb = within_back limit (invariants_marks n 0 is) (block_marks n b) ht in
    let first : tokens_of (marks (n + 1) w ++ close ∷ tail) ++ ts ≡ Toks (marks (n + 1) w) (close.token ∷ (tokens_of tail ++ ts)) = tokens-append_more (marks (n + 1) w) (close ∷ tail) ts in
    let second : tokens_of tail ++ ts ≡ Toks (invariants_marks n 0 is) (Toks (block_marks n b) ts) = tokens-append_more (invariants_marks n 0 is) (block_marks n b) ts in
    let condition = condition_reads limit n room o c w (tokens_of tail ++ ts) e h.1.0 hw st.0 in
    let kept = invariants_are_read limit n room is b ts e hi st.1 in
    let inside = block_reads limit n room b ts e below' hb st.2 in
    rw (first, condition, second, kept, block_no_measure n b ts, inside) refl

stmt_reads : (limit n room : ℕ) (w : StmtPhrase) (ts : List Token) → n + room ≡ limit → StmtReadsBelow limit room → Within limit (stmt_marks n w) → StandsStmt w → StmtOver ts → stmt_at room (stmts_below room) (Toks (stmt_marks n w) ts) ≡ Ok (stmt_meant w, ts)
unfolding stmt_at claim_at declare_at initial_at initial_by expect
stmt_reads limit n room (assigned p x q r) ts s below' h st ends = assigned_reads limit n room (stmts_below room) p x q r ts s h st (over_ends ts ends)
stmt_reads limit n room (stored e p q f r v) ts s below' h st ends = stored_reads limit n room (stmts_below room) e p q f r v ts s h st (over_ends ts ends)
stmt_reads limit n room (invoked p m o es c) ts s below' h st ends = invoked_reads limit n room (stmts_below room) p m o es c ts s h st (over_ends ts ends)
stmt_reads limit n room (targeted p x k q y ys r s m o es c) ts e below' h st ends = targeted_reads limit n room (stmts_below room) p x k q y ys r s m o es c ts e h st
stmt_reads limit n room (declared p d) [] s below' h st ends = rw (declaration_reads n d []) refl
stmt_reads limit n room (declared p d) (t ∷ ts) s below' h st ends = rw (declaration_reads n d (t ∷ ts), ends.1) refl
stmt_reads limit n room (initialized p d q r) ts s below' h st ends =
    let m = mark n q (symbol signs.Becomes) in
    let list : tokens_of (declaration_marks n d ++ m ∷ right_marks n r) ++ ts ≡ Toks (declaration_marks n d) (m.token ∷ Toks (right_marks n r) ts) = tokens-append_more (declaration_marks n d) (m ∷ right_marks n r) ts in
    let value = right_reads limit n room r ts s (within_back limit (declaration_marks n d) (m ∷ right_marks n r) h.1).1 st (over_ends ts ends) in
    rw (list, declaration_reads n d (m.token ∷ Toks (right_marks n r) ts), value) refl
stmt_reads limit n room (claimed c p e) ts s below' h st ends = claim_is c p n room (meant e) (Toks (marks n e) ts) ts (expr_reads limit n room e ts s h.1 st (over_ends ts ends))
stmt_reads limit n room (folded f p i) ts s below' h st ends = folding_is f p n room _ _ ts (instance_is_read limit n room i ts s h.1 st)
stmt_reads limit n room (branched p b) ts s below' h st ends = branch_reads_at limit n room p b ts s below' h.1 st ends
stmt_reads limit n room (repeated p o e c is b) ts s below' h st ends = while_reads limit n room p o e c is b ts s below' h st

-- statements within the limit
abbrev StmtWithin : ℕ → ℕ → Stmt → List Mark → Type 0
StmtWithin limit n s ms = StmtFor n s ms × Within limit ms

first_of_path : (n : ℕ) (e : Phrase) (p q : Place) (f : List ℕ) (r : Place) (v : Phrase) → IsPath e → (m : Mark) × (rest : List Mark) × (stmt_marks n (stored e p q f r v) ≡ m ∷ rest) × (begins_stmt m.token.kind ≡ true)
first_of_path n e p q f r v is =
    let i = path_first (dotted e p q f) n is in
    (mark n (start_of e) (name i.0), i.1 ++ mark n r (symbol signs.Becomes) ∷ marks n v, ap (λ l. l ++ mark n r (symbol signs.Becomes) ∷ marks n v) i.2, refl)

pub stmt_first : (n : ℕ) (w : StmtPhrase) → StandsStmt w → (m : Mark) × (rest : List Mark) × (stmt_marks n w ≡ m ∷ rest) × (begins_stmt m.token.kind ≡ true)
stmt_first n (assigned p x q r) st = (_, _, refl, refl)
stmt_first n (stored e p q f r v) st = first_of_path n e p q f r v st.0
stmt_first n (invoked p m o es c) st = (_, _, refl, refl)
stmt_first n (targeted p x k q y ys r s m o es c) st = (_, _, refl, refl)
stmt_first n (declared p d) st = (_, _, refl, refl)
stmt_first n (initialized p d q e) st = (_, _, refl, refl)
stmt_first n (claimed c p e) st = (_, _, refl, claim_begins c)
stmt_first n (folded f p i) st = (_, _, refl, folding_begins f)
stmt_first n (branched p b) st = (_, _, refl, refl)
stmt_first n (repeated p o e c is b) st = (_, _, refl, refl)

item_first : (limit n : ℕ) (s : Stmt) (ms : List Mark) → StmtWithin limit n s ms → (m : Mark) × (rest : List Mark) × (ms ≡ m ∷ rest) × (begins_stmt m.token.kind ≡ true)
item_first limit n s ms g = let f = stmt_first n g.0.phrase g.0.stands in (f.0, f.1, sym g.0.spelled ∙ f.2, f.3)

item_reads : (limit n room : ℕ) → n + room ≡ limit → StmtReadsBelow limit room → ReadsItem (StmtWithin limit n) begins_stmt (stmt_at room (stmts_below room)) StmtOver
item_reads limit n room e below' = record {
  first = item_first limit n;
  read = λ s a ts g ends.
      subst (λ l. stmt_at room (stmts_below room) (Toks l ts) ≡ Ok (s, ts)) g.0.spelled
      (subst (λ y. stmt_at room (stmts_below room) (Toks (stmt_marks n g.0.phrase) ts) ≡ Ok (y, ts)) g.0.means
      (stmt_reads limit n room g.0.phrase ts e below' (subst (Within limit) (sym g.0.spelled) g.1) g.0.stands ends));
  over_semi = λ p ts. (omega arith, refl, refl);
  over_item = λ t ts h. over_kind t.kind h;
  not_semi = not_semi;
}

semi_is : (n : ℕ) (semi : Option Place) → Semi n (semi_marks n semi)
semi_is n None = inl refl
semi_is n (Some p) = inr (p, refl)

row_for : (limit n : ℕ) (r : RowPhrase) → Within limit (row_marks n r) → StandsRow r → RowFor n (StmtWithin limit n) (stmts_in r) (row_marks n r)
row_for limit n no_more h st = refl
row_for limit n (more s semi r) h st =
    let tail = semi_marks n semi ++ row_marks n r in
    let hs = within_front limit (stmt_marks n s) tail h in
    let hr = within_back limit (semi_marks n semi) (row_marks n r) (within_back limit (stmt_marks n s) tail h) in
    (stmt_marks n s, semi_marks n semi, row_marks n r, refl, (record { phrase = s; stands = st.0; means = refl; spelled = refl }, hs), semi_is n semi, row_for limit n r hr st.1)

row_long : (n : ℕ) (r : RowPhrase) → StandsRow r → length (stmts_in r) ≤ length (row_marks n r)
row_long n no_more st = omega arith
row_long n (more s semi r) st =
    let f = stmt_first n s st.0 in
    let one : 1 ≤ length (stmt_marks n s) = rw f.2 (omega arith) in
    let a = length-append (stmt_marks n s) (semi_marks n semi ++ row_marks n r) in
    let b = length-append (semi_marks n semi) (row_marks n r) in
    let c = row_long n r st.1 in
    omega (arith, one, a, b, c)

row_reads_at : (limit n room : ℕ) (r : RowPhrase) (p : Place) (ts : List Token) → n + room ≡ limit → StmtReadsBelow limit room → Within limit (row_marks n r) → StandsRow r → (let close = mark n p (symbol signs.CloseBrace) in stmts_at room (stmts_below room) (Toks (row_marks n r) (close.token ∷ ts)) ≡ Ok (stmts_in r, close.token ∷ ts))
row_reads_at limit n room r p ts e below' h st =
    let close = mark n p (symbol signs.CloseBrace) in
    let all = Toks (row_marks n r) (close.token ∷ ts) in
    let long = row_long n r st in
    let a = length-append (tokens_of (row_marks n r)) (close.token ∷ ts) in
    let b = length-map (row_marks n r) (λ m. m.token) in
    stmts_are_rows room (stmts_below room) all
    ∙ rows_read (StmtWithin limit n) begins_stmt (stmt_at room (stmts_below room)) StmtOver (item_reads limit n room e below') n (stmts_in r) (row_marks n r) (close.token ∷ ts) (row_for limit n r h st) (omega arith, refl, refl) (refl, refl) (length all) (omega (arith, long, a, b))

stmt_reads_from : (limit room : ℕ) → StmtReadsBelow limit room → StmtReads limit room
stmt_reads_from limit room below' = record {
  row_reads = λ n r p ts e h st. row_reads_at limit n room r p ts e below' h st;
  branch_reads = λ n place b ts e h st ends. branch_reads_at limit n room place b ts e below' h st ends;
}

stmt_reads_all : (limit room : ℕ) → StmtReads limit room
unfolding StmtReadsBelow
stmt_reads_all limit zero = stmt_reads_from limit zero (λ less e. absurd (omega (arith, e)))
stmt_reads_all limit (suc room) = stmt_reads_from limit (suc room) (λ less e. let same : room ≡ less = omega (arith, e) in subst (StmtReads limit) same (stmt_reads_all limit room))

-- a block that is spelled within the limit is read, whatever follows
pub block_is_read : (limit n room : ℕ) (b : BlockPhrase) (ts : List Token) → n + room ≡ limit → Within limit (block_marks n b) → StandsBlock b → block_at (stmts_below room) (Toks (block_marks n b) ts) ≡ Ok (block_meant b, ts)
unfolding StmtReadsBelow
block_is_read limit n room b ts e h st = block_reads limit n room b ts e (λ less s. stmt_reads_all limit less) h st
