-- The marks of statements that mean so.
use Rattle.std.proofs.Common.{◌≡◌, ℕ, zero, suc, List, [], ◌∷◌, ◌++◌, Some, None, Bool, true, false, Ok, Err, length, refl, sym, ap, ◌∙◌, append_assoc, inl, inr}
use Rattle.std.proofs.lemmas.List.{append-nil}
use Rattle.vx_ast.specs.declared.Place.{Place}
use Rattle.vx_ast.specs.Written.{Stmt, Other, NoElse, Block, Done, Then}
use Rattle.vx_tokens.specs.Tokens.{Token}
use Rattle.vx_grammar.specs.Grammar.{Phrase, literal, Mark}
use Rattle.vx_grammar.specs.Statements.{StmtPhrase, claimed, asserts, BranchPhrase, branch, OtherPhrase, no_other, BlockPhrase, block, RowPhrase, no_more, more, stmt_meant, branch_meant, other_meant, block_meant, row_meant, StandsStmt, StandsBranch, StandsOther, StandsBlock, StandsRow, stmt_marks, branch_marks, other_marks, block_marks, row_marks}
use Rattle.vx_grammar.specs.Reading.{◌>>=◌, Read, run}
use Rattle.vx_grammar.specs.StmtReading.{StmtDeeper, begins_stmt, skip_semicolon, stmt_at, stmt_turn, stmts_at, block_from}
use Rattle.vx_grammar.proofs.Tells.{Starts, somewhere}
use Rattle.vx_grammar.proofs.Rows.{rows, RowFor, Semi}

pub record StmtFor (n : ℕ) (s : Stmt) (ms : List Mark) : Type 0 where
  pub phrase : StmtPhrase
  pub stands : StandsStmt phrase
  pub means : stmt_meant phrase ≡ s
  pub spelled : stmt_marks n phrase ≡ ms

-- behind an `if` or an `elseif` of this place
pub record BranchFor (n : ℕ) (place : Place) (s : Stmt) (ms : List Mark) : Type 0 where
  pub phrase : BranchPhrase
  pub stands : StandsBranch phrase
  pub means : branch_meant place phrase ≡ s
  pub spelled : branch_marks n phrase ≡ ms

pub record OtherFor (n : ℕ) (b : Other) (ms : List Mark) : Type 0 where
  pub phrase : OtherPhrase
  pub stands : StandsOther phrase
  pub means : other_meant phrase ≡ b
  pub spelled : other_marks n phrase ≡ ms

pub record BlockFor (n : ℕ) (b : Block) (ms : List Mark) : Type 0 where
  pub phrase : BlockPhrase
  pub stands : StandsBlock phrase
  pub means : block_meant phrase ≡ b
  pub spelled : block_marks n phrase ≡ ms

-- the statements of a block
pub record InsideFor (n : ℕ) (b : Block) (ms : List Mark) : Type 0 where
  pub phrase : RowPhrase
  pub stands : StandsRow phrase
  pub means : row_meant phrase ≡ b
  pub spelled : row_marks n phrase ≡ ms

unfoldable pub a_phrase : Phrase
a_phrase = literal somewhere true

pub starts_stmt : (n : ℕ) → Starts (StmtFor n) []
unfolding a_phrase
starts_stmt n = record { value = stmt_meant (claimed asserts somewhere a_phrase); more = stmt_marks n (claimed asserts somewhere a_phrase); spelled = record { phrase = claimed asserts somewhere a_phrase; stands = tt; means = refl; spelled = refl } }

pub starts_inside : (n : ℕ) → Starts (InsideFor n) []
starts_inside n = record { value = Done; more = []; spelled = record { phrase = no_more; stands = tt; means = refl; spelled = refl } }

unfoldable pub any_block : BlockPhrase
any_block = block somewhere no_more somewhere

pub starts_block : (n : ℕ) → Starts (BlockFor n) []
unfolding any_block
starts_block n = record { value = block_meant any_block; more = block_marks n any_block; spelled = record { phrase = any_block; stands = tt; means = refl; spelled = refl } }

pub starts_other : (n : ℕ) → Starts (OtherFor n) []
starts_other n = record { value = NoElse; more = []; spelled = record { phrase = no_other; stands = tt; means = refl; spelled = refl } }

pub starts_branch : (n : ℕ) (place : Place) → Starts (BranchFor n place) []
unfolding any_block a_phrase
starts_branch n place =
    let w = branch somewhere a_phrase somewhere any_block no_other in
    record { value = branch_meant place w; more = branch_marks n w; spelled = record { phrase = w; stands = (tt, tt, tt); means = refl; spelled = refl } }

-- ---- rows

row_step : (n : ℕ) (s : Stmt) (ss : List Stmt) (ms : List Mark) (a semi b : List Mark) → ms ≡ a ++ (semi ++ b) → StmtFor n s a → Semi n semi → InsideFor n (block_from ss) b → InsideFor n (Then s (block_from ss)) ms
row_step n s ss ms a semi b e g (inl h) r = record {
  phrase = more g.phrase None r.phrase;
  stands = (g.stands, r.stands);
  means = rw (g.means, r.means) refl;
  spelled = sym (e ∙ rw (← g.spelled, h, ← r.spelled) refl);
}
row_step n s ss ms a semi b e g (inr (p, h)) r = record {
  phrase = more g.phrase (Some p) r.phrase;
  stands = (g.stands, r.stands);
  means = rw (g.means, r.means) refl;
  spelled = sym (e ∙ rw (← g.spelled, h, ← r.spelled) refl);
}

pub row_inside : (n : ℕ) (ss : List Stmt) (ms : List Mark) → RowFor n (StmtFor n) ss ms → InsideFor n (block_from ss) ms
row_inside n [] ms h = record { phrase = no_more; stands = tt; means = refl; spelled = sym h }
row_inside n (s ∷ ss) ms h = row_step n s ss ms h.0 h.1 h.2 h.3 h.4 h.5 (row_inside n ss h.2 h.6)

-- reading statements in turns is reading a row
abbrev behind : List Stmt → Read (List Stmt) → Read (List Stmt)
behind before read = read >>= λ xs. Ok (before ++ xs.0, xs.1)

regroup : (before : List Stmt) (s : Stmt) (r : Read (List Stmt)) → behind (before ++ s ∷ []) r ≡ behind before (r >>= λ xs. Ok (s ∷ xs.0, xs.1))
regroup before s (Ok x) = ap (λ (l : List Stmt). let a : Read (List Stmt) = Ok (l, x.1) in a) (append_assoc before (s ∷ []) x.0)
regroup before s (Err e) = refl

read_turn : (room : ℕ) (d : StmtDeeper) (most : ℕ) (before : List Stmt) (t : Token) (ts : List Token) (r : Read Stmt) → ((more : List Stmt) (us : List Token) → run (stmt_turn room d) most more us ≡ behind more (rows begins_stmt (stmt_at room d) most us)) → stmt_at room d (t ∷ ts) ≡ r → begins_stmt t.kind ≡ true
    → run (stmt_turn room d) (suc most) before (t ∷ ts) ≡ behind before (rows begins_stmt (stmt_at room d) (suc most) (t ∷ ts))
unfolding run rows stmt_turn
read_turn room d most before t ts (Ok x) go e h = rw (h, e) (go (before ++ x.0 ∷ []) (skip_semicolon x.1) ∙ regroup before x.0 (rows begins_stmt (stmt_at room d) most (skip_semicolon x.1)))
read_turn room d most before t ts (Err stop) go e h = rw (h, e) refl

over_turn : (room : ℕ) (d : StmtDeeper) (most : ℕ) (before : List Stmt) (t : Token) (ts : List Token) → begins_stmt t.kind ≡ false → run (stmt_turn room d) (suc most) before (t ∷ ts) ≡ behind before (rows begins_stmt (stmt_at room d) (suc most) (t ∷ ts))
unfolding run rows stmt_turn
over_turn room d most before t ts h = rw h (ap (λ (l : List Stmt). let a : Read (List Stmt) = Ok (l, t ∷ ts) in a) (sym (append-nil before)))

turn_by : (room : ℕ) (d : StmtDeeper) (most : ℕ) (before : List Stmt) (t : Token) (ts : List Token) (b : Bool) → begins_stmt t.kind ≡ b → ((more : List Stmt) (us : List Token) → run (stmt_turn room d) most more us ≡ behind more (rows begins_stmt (stmt_at room d) most us))
    → run (stmt_turn room d) (suc most) before (t ∷ ts) ≡ behind before (rows begins_stmt (stmt_at room d) (suc most) (t ∷ ts))
turn_by room d most before t ts true h go = read_turn room d most before t ts (stmt_at room d (t ∷ ts)) go refl h
turn_by room d most before t ts false h go = over_turn room d most before t ts h

turns_row : (room : ℕ) (d : StmtDeeper) (most : ℕ) (before : List Stmt) (ts : List Token) → run (stmt_turn room d) most before ts ≡ behind before (rows begins_stmt (stmt_at room d) most ts)
unfolding run rows stmt_turn
turns_row room d zero before ts = ap (λ (l : List Stmt). let a : Read (List Stmt) = Ok (l, ts) in a) (sym (append-nil before))
turns_row room d (suc most) before [] = ap (λ (l : List Stmt). let a : Read (List Stmt) = Ok (l, []) in a) (sym (append-nil before))
turns_row room d (suc most) before (t ∷ ts) = turn_by room d most before t ts (begins_stmt t.kind) refl (turns_row room d most)

unchanged : (r : Read (List Stmt)) → behind [] r ≡ r
unchanged (Ok x) = refl
unchanged (Err e) = refl

pub stmts_are_rows : (room : ℕ) (d : StmtDeeper) (ts : List Token) → stmts_at room d ts ≡ rows begins_stmt (stmt_at room d) (length ts) ts
unfolding stmts_at
stmts_are_rows room d ts = turns_row room d (length ts) [] ts ∙ unchanged (rows begins_stmt (stmt_at room d) (length ts) ts)
