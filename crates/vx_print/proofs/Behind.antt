-- Tokens behind a text, in two parts.
use Rattle.std.proofs.Common.{◌≡◌, ◌∙◌, ◌++◌, ◌∷◌, [], List, ℕ, ◌+◌, ◌<◌, ◌≤◌, Bool, false, map, length, get_or, drop, drop-cons, append_assoc, add-one, refl, sym, ap, rules, arith}
use Rattle.std.specs.declared.alloc.Global.{Global}
use Rattle.std.specs.declared.rc.Rc.{Rc}
use Rattle.vx_ast.specs.declared.Expr as the_expr
use Rattle.vx_ast.specs.declared.Stmt as the_stmt
use Rattle.vx_ast.specs.declared.Name as the_name
use Rattle.vx_ast.specs.declared.Clause.TheVariants as clause
use Rattle.vx_ast.specs.declared.Block as block
use Rattle.vx_ast.specs.declared.StmtKind.TheViews.{the_lemmas}
use Rattle.vx_ast.specs.declared.ExprKind.{Row_of-ExprKind-Call-1-1, end_of-ExprKind-Call-1-1, more_of-ExprKind-Call-1-1, items-the_row-ExprKind-Call-1-1}
use Rattle.vx_ast.specs.Written.{More, Then, written, written_row, written_all, written_expr, written_stmt, written_stmts, written_block, written_clause, name_of, Done}
use Rattle.vx_tokens.specs.declared.token.Word.TheVariants as words
use Rattle.std.specs.Prelude.{◌==◌}
use Rattle.vx_tokens.specs.declared.token.Symbol.TheVariants as signs
use Rattle.vx_tokens.specs.Tokens.{Kind, symbol}
use Rattle.vx_print.specs.Canonical.{next_tokens, further_tokens, clause_tokens, invariants_tokens, contract_clause, contract_tokens, stmt_tokens, block_tokens, else_tokens, else_block, names_tokens, targets_tokens}
use Rattle.vx_print.specs.Views.{statements}
use Rattle.vx_print.specs.Words.{behind, token_text}

pub behind_append : (text : List ℕ) (xs ys : List Kind) → behind text (xs ++ ys) ≡ behind (behind text xs) ys
behind_append text [] ys = refl
behind_append text (x ∷ xs) ys = behind_append (text ++ 32 ∷ token_text x) xs ys

pub call_row : (n : _) (k : Row_of-ExprKind-Call-1-1 n) → written_row k ≡ written_all (items-the_row-ExprKind-Call-1-1 n k)
call_row n end_of-ExprKind-Call-1-1 = refl
call_row n (more_of-ExprKind-Call-1-1 p place e rest) = ap (More (written place e)) (call_row _ rest)

pub behind_front : (front text : List ℕ) (ks : List Kind) → behind (front ++ text) ks ≡ front ++ behind text ks
behind_front front text [] = refl
behind_front front text (k ∷ ks) = ap (λ l. behind l ks) (append_assoc front text (32 ∷ token_text k)) ∙ behind_front front (text ++ 32 ∷ token_text k) ks

-- one more expression of a list
all_step : (es : List (Rc the_expr.Expr Global)) (i : ℕ) (d : Rc the_expr.Expr Global) → i < length es → written_all (drop i es) ≡ More (written_expr (get_or es i d).value) (written_all (drop (i + 1) es))
all_step es i d lt = ap written_all (drop-cons es i d lt) ∙ ap (λ k. More (written_expr (get_or es i d).value) (written_all (drop k es))) (sym (add-one i))

pub more_further : (a b : List ℕ) (es : List (Rc the_expr.Expr Global)) (i : ℕ) (d : Rc the_expr.Expr Global) → i < length es → b ≡ behind a (next_tokens (written_expr (get_or es i d).value)) → behind b (further_tokens (written_all (drop (i + 1) es))) ≡ behind a (further_tokens (written_all (drop i es)))
more_further a b es i d lt e =
    ap (λ l. behind l (further_tokens (written_all (drop (i + 1) es)))) e
    ∙ sym (behind_append a (next_tokens (written_expr (get_or es i d).value)) (further_tokens (written_all (drop (i + 1) es))))
    ∙ ap (λ l. behind a (further_tokens l)) (sym (all_step es i d lt))

pub more_invariants : (a b : List ℕ) (es : List (Rc the_expr.Expr Global)) (i : ℕ) (d : Rc the_expr.Expr Global) → i < length es → b ≡ behind a (clause_tokens words.Invariant (written_expr (get_or es i d).value)) → behind b (invariants_tokens (written_all (drop (i + 1) es))) ≡ behind a (invariants_tokens (written_all (drop i es)))
more_invariants a b es i d lt e =
    ap (λ l. behind l (invariants_tokens (written_all (drop (i + 1) es)))) e
    ∙ sym (behind_append a (clause_tokens words.Invariant (written_expr (get_or es i d).value)) (invariants_tokens (written_all (drop (i + 1) es))))
    ∙ ap (λ l. behind a (invariants_tokens l)) (sym (all_step es i d lt))

pub more_clauses : (a b : List ℕ) (cs : List clause.the_data) (i : ℕ) (d : clause.the_data) → i < length cs → b ≡ behind a (contract_clause (written_clause (get_or cs i d))) → behind b (contract_tokens (map written_clause (drop (i + 1) cs))) ≡ behind a (contract_tokens (map written_clause (drop i cs)))
more_clauses a b cs i d lt e =
    let k = contract_clause (written_clause (get_or cs i d)) in
    ap (λ l. behind l (contract_tokens (map written_clause (drop (i + 1) cs)))) e
    ∙ sym (behind_append a k (contract_tokens (map written_clause (drop (i + 1) cs))))
    ∙ ap (λ n. behind a (k ++ contract_tokens (map written_clause (drop n cs)))) (add-one i)
    ∙ ap (λ l. behind a (contract_tokens (map written_clause l))) (sym (drop-cons cs i d lt))

pub more_stmts : (a b : List ℕ) (ss : List the_stmt.Stmt) (i : ℕ) (d : the_stmt.Stmt) → i < length ss → b ≡ behind a (stmt_tokens (written_stmt (get_or ss i d).place (get_or ss i d).kind)) → behind b (block_tokens (statements (drop (i + 1) ss))) ≡ behind a (block_tokens (statements (drop i ss)))
more_stmts a b ss i d lt e =
    let s = written_stmt (get_or ss i d).place (get_or ss i d).kind in
    ap (λ l. behind l (block_tokens (statements (drop (i + 1) ss)))) e
    ∙ sym (behind_append a (stmt_tokens s) (block_tokens (statements (drop (i + 1) ss))))
    ∙ ap (λ k. behind a (stmt_tokens s ++ block_tokens (statements (drop k ss)))) (add-one i)
    ∙ ap (λ l. behind a (block_tokens (statements l))) (sym (drop-cons ss i d lt))

row : (m : _) (r : block.Row_of-Stmt m) → written_stmts r ≡ statements (block.items-the_row-Stmt m r)
row m block.end_of-Stmt = refl
row m (block.more_of-Stmt place s rest) = ap (Then (written_stmt place s)) (row _ rest)

-- the statements of a block, as a list
pub block_is : (b : block.Block) → written_block b ≡ statements (block.out-Block b).statements.items
block_is (block.Block' shape r) = search (rules, the_lemmas, row)

pub else_one : (ss : List the_stmt.Stmt) (d : the_stmt.Stmt) → 1 ≤ length ss → length ss < 2 → statements ss ≡ Then (written_stmt (get_or ss 0 d).place (get_or ss 0 d).kind) Done
else_one [] d some few = absurd (omega (arith, some))
else_one (s ∷ []) d some few = refl
else_one (s ∷ r ∷ ss) d some few = absurd (omega (arith, few))

-- no statement, or more than one
pub else_many : (ss : List the_stmt.Stmt) → (length ss ≡ 1 → ⊥) → else_tokens (statements ss) ≡ else_block (statements ss)
else_many [] many = refl
else_many (s ∷ []) many = absurd (many refl)
else_many (s ∷ r ∷ ss) many = refl

pub some_targets : (xs : List the_name.Name) (b : Bool) → b ≡ (length xs == 0) → b ≡ false → targets_tokens (map name_of xs) ≡ names_tokens (map name_of xs) ++ symbol signs.Becomes ∷ []
some_targets [] b e f = absurd (grind arith)
some_targets (x ∷ xs) b e f = refl
