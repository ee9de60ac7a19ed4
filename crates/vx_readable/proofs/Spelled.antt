-- What is spelled by tokens whose numbers are small, as it is written.
use Rattle.std.proofs.Common.{ℕ, ◌+◌, ◌<◌, ◌^◌, List, [], ◌∷◌, ◌++◌, Option, Some, None}
use Rattle.std.specs.Prelude.{⊤, IfSome}
use Rattle.vx_ast.specs.declared.Place.{Place}
use Rattle.vx_ast.specs.Written.{Expr, Number, Truth, Null, Whole, Nothing, Result, Variable, Call, Read, Unary, Binary, Choice, Old, Access, Unfolding, Exprs, NoMore, More, Amount, All, Part, Right, Value, NewAll, New, Stmt, Declare, Assign, Write, Invoke, Inhale, Exhale, Assert, Assume, Fold, Unfold, If, While, Other, NoElse, Else, Block, Done, Then, Clause, Requires, Ensures, Decreases, Kind, IsField, IsPredicate, IsFunction, IsMethod, Member, Program}
use Rattle.vx_tokens.specs.declared.token.Symbol.TheVariants as signs
use Rattle.vx_tokens.specs.Tokens.{symbol}
use Rattle.vx_terms.specs.Interpretations.{Each}
use Rattle.vx_grammar.specs.Grammar.{Constant, null_word, write_word, none_word, result_word, constant_meant, Phrase, literal, constant, numeral, named, called, dotted, grouped, past, accessed, prefixed, joined, chosen, unfolded, ArgumentsPhrase, no_arguments, arguments_from, FurtherPhrase, nothing_further, further, AmountPhrase, no_amount, amount, InstancePhrase, alone, held, Instance, Mark, mark, meant, arguments_meant, further_meant, amount_meant, instance_meant, marks, arguments_marks, further_marks, amount_marks, instance_marks, operators, level_of}
use Rattle.vx_grammar.specs.Statements.{Claim, inhales, exhales, asserts, assumes, claim_meant, Folding, folds, unfolds, folding_meant, FieldsPhrase, every_field, no_fields, these_fields, fields_meant, RightPhrase, given, allocated, right_meant, right_marks, semi_marks, names_marks, declaration_marks, InvariantsPhrase, no_invariants, invariant, invariants_meant, invariants_marks, StmtPhrase, assigned, stored, invoked, targeted, declared, initialized, claimed, folded, branched, repeated, BranchPhrase, branch, OtherPhrase, no_other, other, another, BlockPhrase, block, RowPhrase, no_more, more, stmt_meant, branch_meant, other_meant, block_meant, row_meant, stmt_marks, branch_marks, other_marks, block_marks, row_marks}
use Rattle.vx_grammar.specs.Programs.{parameters_marks, returns_marks, ClausesPhrase, no_clauses, requires, ensures, decreases, clauses_meant, clauses_marks, BracedPhrase, given_meant, given_marks, braced_marks, body_meant, body_marks, head_marks, MemberPhrase, a_field, a_predicate, a_function, a_method, member_meant, member_marks, ProgramPhrase, no_members, member, program_meant, program_marks}
use Rattle.vx_readable.proofs.Tokens.{IsSmallMark}

-- ---- lists of marks

abbrev Marked : List Mark → Type 0
Marked ms = Each IsSmallMark ms

front : (xs ys : List Mark) → Marked (xs ++ ys) → Marked xs
front [] ys h = tt
front (x ∷ xs) ys h = (h.0, front xs ys h.1)

back : (xs ys : List Mark) → Marked (xs ++ ys) → Marked ys
back [] ys h = h
back (x ∷ xs) ys h = back xs ys h.1

-- ---- numerals of what is written

abbrev mutual
  pub SmallExpr : Expr → Type 0
  SmallExpr (Number at n) = n < 2 ^ 127
  SmallExpr (Truth at b) = ⊤
  SmallExpr (Null at) = ⊤
  SmallExpr (Whole at) = ⊤
  SmallExpr (Nothing at) = ⊤
  SmallExpr (Result at) = ⊤
  SmallExpr (Variable at x) = ⊤
  SmallExpr (Call at f es) = SmallExprs es
  SmallExpr (Read at e f) = SmallExpr e
  SmallExpr (Unary at op e) = SmallExpr e
  SmallExpr (Binary at op a b) = SmallExpr a × SmallExpr b
  SmallExpr (Choice at c a b) = SmallExpr c × SmallExpr a × SmallExpr b
  SmallExpr (Old at e) = SmallExpr e
  SmallExpr (Access at e share) = SmallExpr e × SmallAmount share
  SmallExpr (Unfolding at i es share e) = SmallExprs es × SmallAmount share × SmallExpr e

  pub SmallExprs : Exprs → Type 0
  SmallExprs NoMore = ⊤
  SmallExprs (More e es) = SmallExpr e × SmallExprs es

  pub SmallAmount : Amount → Type 0
  SmallAmount All = ⊤
  SmallAmount (Part e) = SmallExpr e

abbrev pub SmallRight : Right → Type 0
SmallRight (Value e) = SmallExpr e
SmallRight (NewAll at) = ⊤
SmallRight (New at xs) = ⊤

abbrev mutual
  pub SmallStmt : Stmt → Type 0
  SmallStmt (Declare at d r) = IfSome r SmallRight
  SmallStmt (Assign at x r) = SmallRight r
  SmallStmt (Write at e f e') = SmallExpr e × SmallExpr e'
  SmallStmt (Invoke at xs m es) = SmallExprs es
  SmallStmt (Inhale at e) = SmallExpr e
  SmallStmt (Exhale at e) = SmallExpr e
  SmallStmt (Assert at e) = SmallExpr e
  SmallStmt (Assume at e) = SmallExpr e
  SmallStmt (Fold at i es share) = SmallExprs es × SmallAmount share
  SmallStmt (Unfold at i es share) = SmallExprs es × SmallAmount share
  SmallStmt (If at c a b) = SmallExpr c × SmallBlock a × SmallOther b
  SmallStmt (While at c is b) = SmallExpr c × SmallExprs is × SmallBlock b

  pub SmallOther : Other → Type 0
  SmallOther NoElse = ⊤
  SmallOther (Else b) = SmallBlock b

  pub SmallBlock : Block → Type 0
  SmallBlock Done = ⊤
  SmallBlock (Then s b) = SmallStmt s × SmallBlock b

abbrev pub SmallClause : Clause → Type 0
SmallClause (Requires e) = SmallExpr e
SmallClause (Ensures e) = SmallExpr e
SmallClause (Decreases e) = SmallExpr e

abbrev pub SmallKind : Kind → Type 0
SmallKind (IsField t) = ⊤
SmallKind (IsPredicate d) = IfSome d.body SmallExpr
SmallKind (IsFunction g) = Each SmallClause g.clauses × SmallExpr g.body
SmallKind (IsMethod m) = Each SmallClause m.clauses × IfSome m.body SmallBlock

abbrev pub SmallProgram : Program → Type 0
SmallProgram p = Each (λ (m : Member). SmallKind m.kind) p

-- ---- expressions

constant_small : (p : Place) (c : Constant) → SmallExpr (constant_meant p c)
constant_small p null_word = tt
constant_small p write_word = tt
constant_small p none_word = tt
constant_small p result_word = tt

mutual
  expr_small : (n : ℕ) (e : Phrase) → Marked (marks n e) → SmallExpr (meant e)
  expr_small n (literal p b) h = tt
  expr_small n (constant p c) h = constant_small p c
  expr_small n (numeral p m) h = h.0
  expr_small n (named p x) h = tt
  expr_small n (called p x o es c) h = arguments_small (n + 1) es (front (arguments_marks (n + 1) es) _ h.1.1)
  expr_small n (dotted e p q f) h = expr_small n e (front (marks n e) _ h)
  expr_small n (grouped p e q) h = expr_small (n + 1) e (front (marks (n + 1) e) _ h.1)
  expr_small n (past p o e c) h = expr_small (n + 1) e (front (marks (n + 1) e) _ h.1.1)
  expr_small n (accessed p o e a c) h =
      let inner = front (marks (n + 1) e ++ amount_marks (n + 1) a) _ h.1.1 in
      (expr_small (n + 1) e (front (marks (n + 1) e) (amount_marks (n + 1) a) inner), amount_small (n + 1) a (back (marks (n + 1) e) (amount_marks (n + 1) a) inner))
  expr_small n (prefixed p op e) h = expr_small (n + 1) e h.1
  expr_small n (joined a p op b) h =
      (expr_small n a (front (marks n a) _ h), expr_small (n + operators (level_of op) a + 1) b (back (marks n a) _ h).1)
  expr_small n (chosen c p a q b) h =
      let sides = (back (marks n c) _ h).1 in
      (expr_small n c (front (marks n c) _ h), expr_small (n + 1) a (front (marks (n + 1) a) _ sides), expr_small (n + 1) b (back (marks (n + 1) a) _ sides).1)
  expr_small n (unfolded p i q e) h =
      let instance' = instance_small n i (front (instance_marks n i) _ h.1) in
      (instance'.0, instance'.1, expr_small (n + 1) e (back (instance_marks n i) _ h.1).1)

  arguments_small : (n : ℕ) (es : ArgumentsPhrase) → Marked (arguments_marks n es) → SmallExprs (arguments_meant es)
  arguments_small n no_arguments h = tt
  arguments_small n (arguments_from e es) h = (expr_small n e (front (marks n e) _ h), further_small n es (back (marks n e) _ h))

  further_small : (n : ℕ) (es : FurtherPhrase) → Marked (further_marks n es) → SmallExprs (further_meant es)
  further_small n nothing_further h = tt
  further_small n (further p e es) h = (expr_small n e (front (marks n e) _ h.1), further_small n es (back (marks n e) _ h.1))

  amount_small : (n : ℕ) (a : AmountPhrase) → Marked (amount_marks n a) → SmallAmount (amount_meant a)
  amount_small n no_amount h = tt
  amount_small n (amount p e) h = expr_small n e h.1

  instance_small : (n : ℕ) (i : InstancePhrase) → Marked (instance_marks n i) → SmallExprs (instance_meant i).arguments × SmallAmount (instance_meant i).amount
  instance_small n (alone p x o es c) h = (arguments_small (n + 1) es (front (arguments_marks (n + 1) es) _ h.1.1), tt)
  instance_small n (held p o q x o' es c' a c) h =
      let listed = arguments_marks (n + 1 + 1) es ++ mark (n + 1 + 1) c' (symbol signs.Close) ∷ [] in
      let inner = front (listed ++ amount_marks (n + 1) a) _ h.1.1.1.1 in (
        arguments_small (n + 1 + 1) es (front (arguments_marks (n + 1 + 1) es) _ (front listed (amount_marks (n + 1) a) inner)),
        amount_small (n + 1) a (back listed (amount_marks (n + 1) a) inner),
      )

-- ---- statements

right_small : (n : ℕ) (r : RightPhrase) → Marked (right_marks n r) → SmallRight (right_meant r)
right_small n (given e) h = expr_small n e h
right_small n (allocated p o fs c) h = new_small p fs
  where
    new_small : (p : Place) (fs : FieldsPhrase) → SmallRight (fields_meant p fs)
    new_small p (every_field q) = tt
    new_small p no_fields = tt
    new_small p (these_fields q x rest) = tt

claim_small : (c : Claim) (p : Place) (e : Expr) → SmallExpr e → SmallStmt (claim_meant c p e)
claim_small inhales p e h = h
claim_small exhales p e h = h
claim_small asserts p e h = h
claim_small assumes p e h = h

folding_small : (f : Folding) (p : Place) (i : Instance) → SmallExprs i.arguments × SmallAmount i.amount → SmallStmt (folding_meant f p i)
folding_small folds p i h = h
folding_small unfolds p i h = h

invariants_small : (n k : ℕ) (is : InvariantsPhrase) → Marked (invariants_marks n k is) → SmallExprs (invariants_meant is)
invariants_small n k no_invariants h = tt
invariants_small n k (invariant p e semi rest) h =
    (expr_small (n + k) e (front (marks (n + k) e) _ h.1), invariants_small n (k + 1) rest (back (semi_marks n semi) _ (back (marks (n + k) e) _ h.1)))

mutual
  stmt_small : (n : ℕ) (s : StmtPhrase) → Marked (stmt_marks n s) → SmallStmt (stmt_meant s)
  stmt_small n (assigned p x q r) h = right_small n r h.1.1
  stmt_small n (stored e p q f r v) h =
      let behind = mark n r (symbol signs.Becomes) ∷ marks n v in
      (expr_small n (dotted e p q f) (front (marks n (dotted e p q f)) behind h), expr_small n v (back (marks n (dotted e p q f)) behind h).1)
  stmt_small n (invoked p m o es c) h = expr_small n (called p m o es c) h
  stmt_small n (targeted p x k q y ys r s m o es c) h =
      expr_small n (called s m o es c) (back (names_marks n ys) (mark n r (symbol signs.Becomes) ∷ marks n (called s m o es c)) h.1.1.1).1
  stmt_small n (declared p d) h = tt
  stmt_small n (initialized p d q r) h = right_small n r (back (declaration_marks n d) (mark n q (symbol signs.Becomes) ∷ right_marks n r) h.1).1
  stmt_small n (claimed c p e) h = claim_small c p (meant e) (expr_small n e h.1)
  stmt_small n (folded f p i) h = folding_small f p (instance_meant i) (instance_small n i h.1)
  stmt_small n (branched p b) h = branch_small n p b h.1
  stmt_small n (repeated p o e c is b) h =
      let rest = (back (marks (n + 1) e) _ h.1.1).1 in
      (expr_small (n + 1) e (front (marks (n + 1) e) _ h.1.1), invariants_small n 0 is (front (invariants_marks n 0 is) _ rest), block_small n b (back (invariants_marks n 0 is) _ rest))

  branch_small : (n : ℕ) (p : Place) (b : BranchPhrase) → Marked (branch_marks n b) → SmallStmt (branch_meant p b)
  branch_small n p (branch o e c b x) h =
      let rest = (back (marks (n + 1) e) _ h.1).1 in
      (expr_small (n + 1) e (front (marks (n + 1) e) _ h.1), block_small n b (front (block_marks n b) _ rest), other_small n x (back (block_marks n b) _ rest))

  other_small : (n : ℕ) (x : OtherPhrase) → Marked (other_marks n x) → SmallOther (other_meant x)
  other_small n no_other h = tt
  other_small n (other p b) h = block_small n b h.1
  other_small n (another p b) h = (branch_small (n + 1) p b h.1, tt)

  block_small : (n : ℕ) (b : BlockPhrase) → Marked (block_marks n b) → SmallBlock (block_meant b)
  block_small n (block o r c) h = row_small (n + 1) r (front (row_marks (n + 1) r) _ h.1)

  row_small : (n : ℕ) (r : RowPhrase) → Marked (row_marks n r) → SmallBlock (row_meant r)
  row_small n no_more h = tt
  row_small n (more s semi r) h = (stmt_small n s (front (stmt_marks n s) _ h), row_small n r (back (semi_marks n semi) _ (back (stmt_marks n s) _ h)))

-- ---- members

clauses_small : (r k : ℕ) (cs : ClausesPhrase) → Marked (clauses_marks r k cs) → Each SmallClause (clauses_meant cs)
clauses_small r k no_clauses h = tt
clauses_small r k (requires p e semi rest) h =
    (expr_small r e (front (marks r e) _ h.1), clauses_small (r + 1) k rest (back (semi_marks 0 semi) _ (back (marks r e) _ h.1)))
clauses_small r k (ensures p e semi rest) h =
    (expr_small k e (front (marks k e) _ h.1), clauses_small r (k + 1) rest (back (semi_marks 0 semi) _ (back (marks k e) _ h.1)))
clauses_small r k (decreases p e semi rest) h =
    (expr_small 0 e (front (marks 0 e) _ h.1), clauses_small r k rest (back (semi_marks 0 semi) _ (back (marks 0 e) _ h.1)))

braced_small : (w : BracedPhrase) → Marked (braced_marks w) → SmallExpr (meant w.inner)
braced_small w h = expr_small 1 w.inner (front (marks 1 w.inner) _ h.1)

given_small : (w : Option BracedPhrase) → Marked (given_marks w) → IfSome (given_meant w) SmallExpr
given_small None h = tt
given_small (Some w) h = braced_small w h

body_small : (b : Option BlockPhrase) → Marked (body_marks b) → IfSome (body_meant b) SmallBlock
body_small None h = tt
body_small (Some b) h = block_small 0 b h

member_small : (m : MemberPhrase) → Marked (member_marks m) → SmallKind (member_meant m).kind
member_small (a_field p d) h = tt
member_small (a_predicate w) h = given_small w.body (back (parameters_marks 0 w.parameters) _ h.1.1)
member_small (a_function f) h =
    let head = front (head_marks f) (braced_marks f.body) h.1 in
    (clauses_small 0 0 f.clauses (back (parameters_marks 0 f.parameters) _ head.1).1.1, braced_small f.body (back (head_marks f) (braced_marks f.body) h.1))
member_small (a_method m) h =
    let behind = back (returns_marks 0 m.returns) _ (back (parameters_marks 0 m.parameters) _ h.1.1) in
    (clauses_small 0 0 m.clauses (front (clauses_marks 0 0 m.clauses) _ behind), body_small m.body (back (clauses_marks 0 0 m.clauses) _ behind))

pub program_small : (p : ProgramPhrase) → Marked (program_marks p) → SmallProgram (program_meant p)
program_small no_members h = tt
program_small (member m semi rest) h =
    (member_small m (front (member_marks m) _ h), program_small rest (back (semi_marks 0 semi) _ (back (member_marks m) _ h)))
