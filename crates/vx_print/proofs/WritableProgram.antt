-- The tokens that are printed of a program can be written, since those that were read could.
use Rattle.std.proofs.Common.{ℕ, ◌+◌, List, [], ◌∷◌, ◌++◌, true, Option, Some, None}
use Rattle.vx_ast.specs.declared.Place.{Place}
use Rattle.vx_ast.specs.Written.{Name, Declaration, Then, Done}
use Rattle.vx_print.specs.Same.{bare_name}
use Rattle.vx_tokens.specs.declared.token.Symbol.TheVariants as signs
use Rattle.vx_tokens.specs.Tokens.{Kind, name, word, symbol}
use Rattle.vx_grammar.specs.Grammar.{Phrase, called, dotted, Mark, mark, marks, meant, arguments_meant}
use Rattle.vx_grammar.specs.Statements.{type_word, inhales, exhales, asserts, assumes, NamesPhrase, no_names, next_name, every_field, no_fields, these_fields, RightPhrase, given, allocated, names_meant, right_meant, names_marks, fields_marks, right_marks, semi_marks, InvariantsPhrase, no_invariants, invariant, invariants_meant, invariants_marks, StmtPhrase, assigned, stored, invoked, targeted, declared, initialized, claimed, branched, repeated, folded, folds, unfolds, BranchPhrase, branch, OtherPhrase, no_other, other, another, BlockPhrase, block, RowPhrase, no_more, more, stmt_meant, other_meant, block_meant, row_meant, stmt_marks, branch_marks, other_marks, block_marks, row_marks}
use Rattle.vx_grammar.specs.Programs.{MoreDeclarations, no_more as no_declarations, listed, DeclarationsPhrase, none, some, ParametersPhrase, ReturnsPhrase, no_returns, returns, more_meant, declarations_meant, returns_meant, more_marks, declarations_marks, parameters_marks, returns_marks, ClausesPhrase, no_clauses, requires, ensures, decreases, clauses_meant, clauses_marks, BracedPhrase, braced_marks, given_meant, given_marks, body_meant, body_marks, MemberPhrase, a_field, a_predicate, a_function, a_method, member_meant, member_marks, ProgramPhrase, no_members, member, program_meant, program_marks}
use Rattle.vx_print.specs.Canonical.{parenthesized, braced, applied, whole_tokens, read_tokens, exprs_tokens, further_names, right_tokens, invariants_tokens, targets_tokens, stmt_tokens, block_tokens, other_tokens, else_tokens, else_block, further_declarations, declarations_tokens, returns_tokens, contract_tokens, optional_expr_tokens, optional_block_tokens, member_tokens}
use Rattle.vx_print.proofs.Writable.{Fine, FineMarks, fine_append, fine_front, fine_back, fine_around, fine, fine_instance}
use Rattle.vx_print.proofs.BuiltStmt.{branch_tokens}
use Rattle.vx_print.proofs.BuiltProgram.{program_tokens}

fine_braced : (ks : List Kind) → Fine ks → Fine (braced ks)
fine_braced ks h = (tt, fine_append ks (symbol signs.CloseBrace ∷ []) h (tt, tt))

-- an expression between parentheses, and what follows
fine_condition : (n : ℕ) (c : Place) (e : Phrase) (tail : List Mark) (ks : List Kind) → FineMarks (marks (n + 1) e ++ mark (n + 1) c (symbol signs.Close) ∷ tail) → (FineMarks tail → Fine ks) → Fine (parenthesized (whole_tokens (meant e)) ++ ks)
fine_condition n c e tail ks h go =
    let end = fine_back (marks (n + 1) e) (mark (n + 1) c (symbol signs.Close) ∷ tail) h in
    fine_append (parenthesized (whole_tokens (meant e))) ks (fine_around (whole_tokens (meant e)) (fine (n + 1) 8 true e (fine_front (marks (n + 1) e) (mark (n + 1) c (symbol signs.Close) ∷ tail) h))) (go end.1)

fine_names : (n : ℕ) (xs : NamesPhrase) → FineMarks (names_marks n xs) → Fine (further_names (names_meant xs))
fine_names n no_names h = tt
fine_names n (next_name p q x rest) h = (tt, (h.1.0, fine_names n rest h.1.1))

fine_right : (n : ℕ) (r : RightPhrase) → FineMarks (right_marks n r) → Fine (right_tokens (right_meant r))
fine_right n (given e) h = fine n 8 true e h
fine_right n (allocated p o (every_field q) c) h = (tt, (tt, (tt, (tt, tt))))
fine_right n (allocated p o no_fields c) h = (tt, (tt, (tt, tt)))
fine_right n (allocated p o (these_fields q x rest) c) h =
    let inner = fine_front (fields_marks (n + 1) (these_fields q x rest)) (mark (n + 1) c (symbol signs.Close) ∷ []) h.1.1 in
    (tt, fine_around (name x ∷ further_names (names_meant rest)) (inner.0, fine_names (n + 1) rest inner.1))

fine_invariants : (n k : ℕ) (w : InvariantsPhrase) → FineMarks (invariants_marks n k w) → Fine (invariants_tokens (invariants_meant w))
fine_invariants n k no_invariants h = tt
fine_invariants n k (invariant p e semi rest) h =
    let tail = semi_marks n semi ++ invariants_marks n (k + 1) rest in
    let end = fine_back (semi_marks n semi) (invariants_marks n (k + 1) rest) (fine_back (marks (n + k) e) tail h.1) in
    (tt, fine_append (whole_tokens (meant e)) (invariants_tokens (invariants_meant rest)) (fine (n + k) 8 true e (fine_front (marks (n + k) e) tail h.1)) (fine_invariants n (k + 1) rest end))

fine_read : (n : ℕ) (e : Phrase) (p q : Place) (x : Name) → FineMarks (marks n (dotted e p q x)) → Fine (read_tokens (meant e) x)
fine_read n e p q x h = fine n 0 true (dotted e p q x) h

fine_applied : (n : ℕ) (p : Place) (x : Name) (o : Place) (es : _) (c : Place) → FineMarks (marks n (called p x o es c)) → Fine (applied x (exprs_tokens (arguments_meant es)))
fine_applied n p x o es c h = fine n 0 true (called p x o es c) h

-- an `if` alone between braces becomes `elseif`
fine_only : (s : StmtPhrase) → Fine (stmt_tokens (stmt_meant s)) → Fine (else_block (Then (stmt_meant s) Done))
fine_only s h = (tt, fine_braced (stmt_tokens (stmt_meant s) ++ []) (fine_append (stmt_tokens (stmt_meant s)) [] h tt))

fine_alone : (s : StmtPhrase) → Fine (stmt_tokens (stmt_meant s)) → Fine (else_tokens (Then (stmt_meant s) Done))
fine_alone (branched p (branch o e c b x)) h = (tt, h.1)
fine_alone (assigned p x q r) h = fine_only (assigned p x q r) h
fine_alone (stored e p q x r v) h = fine_only (stored e p q x r v) h
fine_alone (invoked p m o es c) h = fine_only (invoked p m o es c) h
fine_alone (targeted p x k q y ys r s m o es c) h = fine_only (targeted p x k q y ys r s m o es c) h
fine_alone (declared p d) h = fine_only (declared p d) h
fine_alone (initialized p d q r) h = fine_only (initialized p d q r) h
fine_alone (claimed inhales p e) h = fine_only (claimed inhales p e) h
fine_alone (claimed exhales p e) h = fine_only (claimed exhales p e) h
fine_alone (claimed asserts p e) h = fine_only (claimed asserts p e) h
fine_alone (claimed assumes p e) h = fine_only (claimed assumes p e) h
fine_alone (repeated p o e c is b) h = fine_only (repeated p o e c is b) h
fine_alone (folded folds p w) h = fine_only (folded folds p w) h
fine_alone (folded unfolds p w) h = fine_only (folded unfolds p w) h

mutual
  fine_stmt : (n : ℕ) (s : StmtPhrase) → FineMarks (stmt_marks n s) → Fine (stmt_tokens (stmt_meant s))
  fine_stmt n (assigned p x q r) h = (h.0, (tt, fine_right n r h.1.1))
  fine_stmt n (stored e p q x r v) h =
      let tail = mark n r (symbol signs.Becomes) ∷ marks n v in
      fine_append (read_tokens (meant e) x) (symbol signs.Becomes ∷ whole_tokens (meant v)) (fine_read n e p q x (fine_front (marks n (dotted e p q x)) tail h)) (tt, fine n 8 true v (fine_back (marks n (dotted e p q x)) tail h).1)
  fine_stmt n (invoked p m o es c) h = fine_applied n p m o es c h
  fine_stmt n (targeted p x k q y ys r s m o es c) h =
      let tail = mark n r (symbol signs.Becomes) ∷ marks n (called s m o es c) in
      let end = fine_back (names_marks n ys) tail h.1.1.1 in
      fine_append (targets_tokens (bare_name x ∷ bare_name y ∷ names_meant ys)) (applied m (exprs_tokens (arguments_meant es)))
      (h.0, (tt, (h.1.1.0, fine_append (further_names (names_meant ys)) (symbol signs.Becomes ∷ []) (fine_names n ys (fine_front (names_marks n ys) tail h.1.1.1)) (tt, tt))))
      (fine_applied n s m o es c end.1)
  fine_stmt n (declared p d) h = (tt, (h.1.0, (tt, (tt, tt))))
  fine_stmt n (initialized p d q r) h = (tt, (h.1.0, (tt, (tt, (tt, fine_right n r h.1.1.1.1.1)))))
  fine_stmt n (claimed inhales p e) h = (tt, fine n 8 true e h.1)
  fine_stmt n (claimed exhales p e) h = (tt, fine n 8 true e h.1)
  fine_stmt n (claimed asserts p e) h = (tt, fine n 8 true e h.1)
  fine_stmt n (claimed assumes p e) h = (tt, fine n 8 true e h.1)
  fine_stmt n (folded folds p w) h = (tt, fine_instance n w h.1)
  fine_stmt n (folded unfolds p w) h = (tt, fine_instance n w h.1)
  fine_stmt n (branched p (branch o e c b x)) h = (tt, fine_branch n (branch o e c b x) h.1)
  fine_stmt n (repeated p o e c is b) h = (
    tt,
    fine_condition n c e (invariants_marks n 0 is ++ block_marks n b) (invariants_tokens (invariants_meant is) ++ braced (block_tokens (block_meant b))) h.1.1
        (λ k. fine_append (invariants_tokens (invariants_meant is)) (braced (block_tokens (block_meant b))) (fine_invariants n 0 is (fine_front (invariants_marks n 0 is) (block_marks n b) k)) (fine_block n b (fine_back (invariants_marks n 0 is) (block_marks n b) k))),
  )

  fine_branch : (n : ℕ) (b : BranchPhrase) → FineMarks (branch_marks n b) → Fine (branch_tokens b)
  fine_branch n (branch o e c b x) h =
      fine_condition n c e (block_marks n b ++ other_marks n x) (braced (block_tokens (block_meant b)) ++ other_tokens (other_meant x)) h.1
      (λ k. fine_append (braced (block_tokens (block_meant b))) (other_tokens (other_meant x)) (fine_block n b (fine_front (block_marks n b) (other_marks n x) k)) (fine_other n x (fine_back (block_marks n b) (other_marks n x) k)))

  fine_other : (n : ℕ) (x : OtherPhrase) → FineMarks (other_marks n x) → Fine (other_tokens (other_meant x))
  fine_other n no_other h = tt
  fine_other n (another p (branch o e c b x)) h = (tt, fine_branch (n + 1) (branch o e c b x) h.1)
  fine_other n (other p (block o no_more c)) h = (tt, (tt, (tt, tt)))
  fine_other n (other p (block o (more s semi no_more) c)) h =
      let row = fine_front (row_marks (n + 1) (more s semi no_more)) (mark (n + 1) c (symbol signs.CloseBrace) ∷ []) h.1.1 in
      fine_alone s (fine_stmt (n + 1) s (fine_front (stmt_marks (n + 1) s) (semi_marks (n + 1) semi ++ []) row))
  fine_other n (other p (block o (more s semi (more t semi' r)) c)) h =
      let row = fine_front (row_marks (n + 1) (more s semi (more t semi' r))) (mark (n + 1) c (symbol signs.CloseBrace) ∷ []) h.1.1 in
      let rest = fine_back (semi_marks (n + 1) semi) (row_marks (n + 1) (more t semi' r)) (fine_back (stmt_marks (n + 1) s) (semi_marks (n + 1) semi ++ row_marks (n + 1) (more t semi' r)) row) in
      let last = fine_back (semi_marks (n + 1) semi') (row_marks (n + 1) r) (fine_back (stmt_marks (n + 1) t) (semi_marks (n + 1) semi' ++ row_marks (n + 1) r) rest) in (
        tt,
        fine_braced (stmt_tokens (stmt_meant s) ++ (stmt_tokens (stmt_meant t) ++ block_tokens (row_meant r)))
            (fine_append (stmt_tokens (stmt_meant s)) (stmt_tokens (stmt_meant t) ++ block_tokens (row_meant r)) (fine_stmt (n + 1) s (fine_front (stmt_marks (n + 1) s) (semi_marks (n + 1) semi ++ row_marks (n + 1) (more t semi' r)) row))
            (fine_append (stmt_tokens (stmt_meant t)) (block_tokens (row_meant r)) (fine_stmt (n + 1) t (fine_front (stmt_marks (n + 1) t) (semi_marks (n + 1) semi' ++ row_marks (n + 1) r) rest)) (fine_row (n + 1) r last))),
      )

  fine_block : (n : ℕ) (b : BlockPhrase) → FineMarks (block_marks n b) → Fine (braced (block_tokens (block_meant b)))
  fine_block n (block o r c) h = fine_braced (block_tokens (row_meant r)) (fine_row (n + 1) r (fine_front (row_marks (n + 1) r) (mark (n + 1) c (symbol signs.CloseBrace) ∷ []) h.1))

  fine_row : (n : ℕ) (r : RowPhrase) → FineMarks (row_marks n r) → Fine (block_tokens (row_meant r))
  fine_row n no_more h = tt
  fine_row n (more s semi r) h =
      let end = semi_marks n semi ++ row_marks n r in
      fine_append (stmt_tokens (stmt_meant s)) (block_tokens (row_meant r)) (fine_stmt n s (fine_front (stmt_marks n s) end h)) (fine_row n r (fine_back (semi_marks n semi) (row_marks n r) (fine_back (stmt_marks n s) end h)))

-- ---- members

fine_more : (n : ℕ) (ds : MoreDeclarations) → FineMarks (more_marks n ds) → Fine (further_declarations (more_meant ds))
fine_more n no_declarations h = tt
fine_more n (listed p d rest) h = (tt, (h.1.0, (tt, (tt, fine_more n rest h.1.1.1.1))))

fine_declarations : (n : ℕ) (ds : DeclarationsPhrase) → FineMarks (declarations_marks n ds) → Fine (declarations_tokens (declarations_meant ds))
fine_declarations n none h = tt
fine_declarations n (some d rest) h = (h.0, (tt, (tt, fine_more n rest h.1.1.1)))

fine_parameters : (n : ℕ) (w : ParametersPhrase) → FineMarks (parameters_marks n w) → Fine (parenthesized (declarations_tokens (declarations_meant w.inner)))
fine_parameters n w h = fine_around (declarations_tokens (declarations_meant w.inner)) (fine_declarations (n + 1) w.inner (fine_front (declarations_marks (n + 1) w.inner) (mark (n + 1) w.to (symbol signs.Close) ∷ []) h.1))

fine_some_returns : (ds : List Declaration) → Fine (parenthesized (declarations_tokens ds)) → Fine (returns_tokens ds)
fine_some_returns [] h = tt
fine_some_returns (d ∷ ds) h = (tt, h)

fine_returns : (n : ℕ) (w : ReturnsPhrase) → FineMarks (returns_marks n w) → Fine (returns_tokens (returns_meant w))
fine_returns n no_returns h = tt
fine_returns n (returns p w) h = fine_some_returns (declarations_meant w.inner) (fine_parameters n w h.1)

fine_clauses : (r k : ℕ) (w : ClausesPhrase) → FineMarks (clauses_marks r k w) → Fine (contract_tokens (clauses_meant w))
fine_clauses r k no_clauses h = tt
fine_clauses r k (requires p e semi rest) h =
    let tail = semi_marks 0 semi ++ clauses_marks (r + 1) k rest in
    (tt, fine_append (whole_tokens (meant e)) (contract_tokens (clauses_meant rest)) (fine r 8 true e (fine_front (marks r e) tail h.1)) (fine_clauses (r + 1) k rest (fine_back (semi_marks 0 semi) (clauses_marks (r + 1) k rest) (fine_back (marks r e) tail h.1))))
fine_clauses r k (ensures p e semi rest) h =
    let tail = semi_marks 0 semi ++ clauses_marks r (k + 1) rest in
    (tt, fine_append (whole_tokens (meant e)) (contract_tokens (clauses_meant rest)) (fine k 8 true e (fine_front (marks k e) tail h.1)) (fine_clauses r (k + 1) rest (fine_back (semi_marks 0 semi) (clauses_marks r (k + 1) rest) (fine_back (marks k e) tail h.1))))
fine_clauses r k (decreases p e semi rest) h =
    let tail = semi_marks 0 semi ++ clauses_marks r k rest in
    (tt, fine_append (whole_tokens (meant e)) (contract_tokens (clauses_meant rest)) (fine 0 8 true e (fine_front (marks 0 e) tail h.1)) (fine_clauses r k rest (fine_back (semi_marks 0 semi) (clauses_marks r k rest) (fine_back (marks 0 e) tail h.1))))

fine_body : (w : Option BlockPhrase) → FineMarks (body_marks w) → Fine (optional_block_tokens (body_meant w))
fine_body None h = tt
fine_body (Some b) h = fine_block 0 b h

fine_whole : (w : BracedPhrase) → FineMarks (braced_marks w) → Fine (braced (whole_tokens (meant w.inner)))
fine_whole w h = fine_braced (whole_tokens (meant w.inner)) (fine 1 8 true w.inner (fine_front (marks 1 w.inner) (mark 1 w.to (symbol signs.CloseBrace) ∷ []) h.1))

fine_given : (w : Option BracedPhrase) → FineMarks (given_marks w) → Fine (optional_expr_tokens (given_meant w))
fine_given None h = tt
fine_given (Some w) h = fine_whole w h

fine_member : (m : MemberPhrase) → FineMarks (member_marks m) → Fine (member_tokens (member_meant m))
fine_member (a_field p d) h = (tt, (h.1.0, (tt, (tt, tt))))
fine_member (a_predicate w) h =
    let kp = parenthesized (declarations_tokens (declarations_meant w.parameters.inner)) in
    (tt, (h.1.0, fine_append kp (optional_expr_tokens (given_meant w.body)) (fine_parameters 0 w.parameters (fine_front (parameters_marks 0 w.parameters) (given_marks w.body) h.1.1)) (fine_given w.body (fine_back (parameters_marks 0 w.parameters) (given_marks w.body) h.1.1))))
fine_member (a_function f) h =
    let pm = parameters_marks 0 f.parameters in
    let cm : List Mark = mark 0 f.colon_at (symbol signs.Colon) ∷ mark 0 f.type_at (word (type_word f.of)) ∷ clauses_marks 0 0 f.clauses in
    let bm = braced_marks f.body in
    let head = fine_front (pm ++ cm) bm h.1.1 in
    let these = (fine_back pm cm head).1.1 in
    let kp = parenthesized (declarations_tokens (declarations_meant f.parameters.inner)) in
    let kc = contract_tokens (clauses_meant f.clauses) in
    let kb = braced (whole_tokens (meant f.body.inner)) in (
      tt,
      (
        h.1.0,
        fine_append kp (symbol signs.Colon ∷ word (type_word f.of) ∷ (kc ++ kb)) (fine_parameters 0 f.parameters (fine_front pm cm head))
            (tt, (tt, fine_append kc kb (fine_clauses 0 0 f.clauses these) (fine_whole f.body (fine_back (pm ++ cm) bm h.1.1)))),
      ),
    )
fine_member (a_method m) h =
    let body = body_marks m.body in
    let clauses = clauses_marks 0 0 m.clauses in
    let back = returns_marks 0 m.returns ++ (clauses ++ body) in
    let behind_parameters = fine_back (parameters_marks 0 m.parameters) back h.1.1 in
    let behind_returns = fine_back (returns_marks 0 m.returns) (clauses ++ body) behind_parameters in
    let these = fine_front clauses body behind_returns in
    let kp = parenthesized (declarations_tokens (declarations_meant m.parameters.inner)) in
    let kr = returns_tokens (returns_meant m.returns) in
    let kc = contract_tokens (clauses_meant m.clauses) in
    let kb = optional_block_tokens (body_meant m.body) in (
      tt,
      (
        h.1.0,
        fine_append kp (kr ++ (kc ++ kb)) (fine_parameters 0 m.parameters (fine_front (parameters_marks 0 m.parameters) back h.1.1))
            (fine_append kr (kc ++ kb) (fine_returns 0 m.returns (fine_front (returns_marks 0 m.returns) (clauses ++ body) behind_parameters))
            (fine_append kc kb (fine_clauses 0 0 m.clauses these) (fine_body m.body (fine_back clauses body behind_returns)))),
      ),
    )

pub fine_program : (w : ProgramPhrase) → FineMarks (program_marks w) → Fine (program_tokens (program_meant w))
fine_program no_members h = tt
fine_program (member m semi rest) h =
    let tail = semi_marks 0 semi ++ program_marks rest in
    fine_append (member_tokens (member_meant m)) (program_tokens (program_meant rest)) (fine_member m (fine_front (member_marks m) tail h)) (fine_program rest (fine_back (semi_marks 0 semi) (program_marks rest) (fine_back (member_marks m) tail h)))
