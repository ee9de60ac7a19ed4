-- What reading statements is told by: the statements that the tokens spell, at each room.
use Rattle.std.proofs.Common.{◌≡◌, ℕ, zero, suc, ◌+◌, ◌≤◌, List, [], ◌∷◌, ◌++◌, Some, None, Bool, true, false, Ok, Err, length, refl, sym, ap, subst, ◌∙◌, append_assoc, arith, cond, inl, inr, ◌⊎◌}
use Rattle.std.proofs.lemmas.List.{append-nil}
use Rattle.vx_ast.specs.declared.Place.{Place}
use Rattle.vx_ast.specs.Written.{Expr, Exprs, Declaration, Stmt, Other, NoElse, Else, Block, Declare, If, While, Done, Then}
use Rattle.vx_tokens.specs.declared.token.Word.TheVariants as words
use Rattle.vx_tokens.specs.declared.token.Symbol.TheVariants as signs
use Rattle.vx_tokens.specs.Tokens.{Token, Kind, name, word, symbol}
use Rattle.vx_grammar.specs.Grammar.{Phrase, Mark, mark, marks, meant, StandsAt}
use Rattle.vx_grammar.specs.Statements.{block_meant, repeated, invariants_marks, block_marks, StmtPhrase, RightPhrase, right_meant, RightStands, right_marks, declared, initialized, Claim, inhales, exhales, asserts, assumes, claim_word, claim_meant, claimed, Folding, folds, unfolds, folding_word, folding_meant, folded, branched, branch, no_other, other, another, block}
use Rattle.vx_grammar.specs.Reading.{Read, enclosed, ◌>>=◌, Measured, is_symbol, choice, choice_at, instance_at, below}
use Rattle.vx_grammar.specs.StmtReading.{begins_decreases, loop_block_at, invariants_at, while_at, StmtPart, statements, elseif_part, stmt_part, stmts_below, declaration_at, block_at, otherwise_by, otherwise_at, branch_at, initial_by, initial_at, declare_at, right_at, claim_at, fold_at, stmt_by, stmt_at, begins_stmt, stmts_at, block_from}
use Rattle.vx_grammar.proofs.Symbols.{is_symbol_true}
use Rattle.vx_grammar.proofs.Tells.{Grammar, After, somewhere, Starts, Tells, takes_none, tells_as, tells_here, tells_unexpected, tells_measured, marks_is}
use Rattle.vx_grammar.proofs.Rows.{RowFor, tells_rows}
use Rattle.vx_grammar.proofs.Sequence.{Sequence, Nothing, tells_second, tells_sequence_by, tells_sequence, starts_sequence, starts_nothing, tells_nothing}
use Rattle.vx_grammar.proofs.Bracketed.{led_tells, Nested, Bracketed, bracket_tells}
use Rattle.vx_grammar.proofs.Means.{reading_tells, instance_reading_tells}
use Rattle.vx_grammar.proofs.InstancesTold.{InstanceFor}
use Rattle.vx_grammar.proofs.StmtTells.{DeclarationFor, declaration_tells}
use Rattle.vx_grammar.proofs.StmtFor.{any_block, StmtFor, BranchFor, OtherFor, BlockFor, InsideFor, starts_stmt, starts_inside, starts_block, starts_other, starts_branch, row_inside, stmts_are_rows}
use Rattle.vx_grammar.proofs.PhraseFor.{PhraseFor, starts_any, tells_nested, count_down}
use Rattle.vx_grammar.proofs.TargetTold.{RightFor, right_tells, target_tells}
use Rattle.vx_grammar.proofs.InvariantsTold.{InvariantsFor, OneMore, one_more, starts_invariants, invariants_tells}

pub fits : (limit n room : ℕ) → n + room ≡ limit → n ≤ limit
fits limit n room e = omega (arith, e)

-- ---- what nests

nested_stmts : (R : Grammar Block) (limit n room : ℕ) (p : StmtPart) (t : Token) (ts : List Token) → n + room ≡ limit → Starts R [] → ((less : ℕ) → room ≡ less + 1 → Tells R limit ts (stmt_part less (stmts_below less) p ts)) → Tells (Nested (record { token = t; count = n + 1 }) R) limit (t ∷ ts) (stmts_below room p (t ∷ ts) ts)
unfolding stmts_below
nested_stmts R limit n zero p t ts e s h =
    let m : Mark = record { token = t; count = n + 1 } in
    record {
      marks = [];
      takes = takes_none limit (t ∷ ts);
      deep = m;
      after = ts;
      first = refl;
      count = omega (arith, e);
      starts = record { value = s.value; more = s.more; spelled = record { inner = s.more; is = refl; spelled = s.spelled } };
    }
nested_stmts R limit n (suc less) p t ts e s h = led_tells R limit (n + 1) t ts (stmt_part less (stmts_below less) p ts) (omega (arith, e)) (h less (omega arith))

-- ---- what is shown at each room

record StmtTold (limit room : ℕ) : Type 0 where
  row_tells : (n : ℕ) → n + room ≡ limit → (ts : List Token) → Tells (RowFor n (StmtFor n)) limit ts (stmts_at room (stmts_below room) ts)
  branch_tells : (n : ℕ) → n + room ≡ limit → (place : Place) (ts : List Token) → Tells (BranchFor n place) limit ts (branch_at room (stmts_below room) place ts)

StmtToldBelow : ℕ → ℕ → Type 0
StmtToldBelow limit room = (less : ℕ) → room ≡ less + 1 → StmtTold limit less

-- ---- conditions and blocks

condition_tells : (limit n room : ℕ) (ts : List Token) → n + room ≡ limit → Tells (Bracketed n signs.Open signs.Close (PhraseFor (n + 1) 8)) limit ts (enclosed (below room) choice ts)
unfolding enclosed
condition_tells limit n room ts e =
    bracket_tells signs.Open signs.Close (PhraseFor (n + 1) 8) (λ here us. below room choice here us) limit n (starts_any (n + 1) 8)
    (λ t us. tells_nested choice (PhraseFor (n + 1) 8) limit n room t us e (starts_any (n + 1) 8) (λ less s. reading_tells limit (n + 1) less us (count_down limit n room less e s))) ts

inside_tells : (limit n room : ℕ) (ts : List Token) → n + room ≡ limit → StmtTold limit room → Tells (InsideFor n) limit ts (stmt_part room (stmts_below room) statements ts)
inside_tells limit n room ts e told =
    tells_as (Sequence (RowFor n (StmtFor n)) (λ ss. Nothing (block_from ss))) (InsideFor n) limit ts _
    (λ b ms (ss, front, back, q, r, (v, k)). subst (λ x. InsideFor n x ms) (sym v) (subst (InsideFor n (block_from ss)) (sym (q ∙ rw k (append-nil front))) (row_inside n ss front r)))
    (tells_sequence (RowFor n (StmtFor n)) _ limit ts (stmts_at room (stmts_below room) ts) _ (λ ss. starts_nothing _) (told.row_tells n e ts) (λ ss us. tells_nothing limit us _))

block_of_bracketed : (n : ℕ) (b : Block) (ms : List Mark) → Bracketed n signs.OpenBrace signs.CloseBrace (InsideFor (n + 1)) b ms → BlockFor n b ms
block_of_bracketed n b ms h = record {
  phrase = block h.from h.spelled.phrase h.to;
  stands = h.spelled.stands;
  means = h.spelled.means;
  spelled = sym (h.is ∙ rw (← h.spelled.spelled) refl);
}

block_tells : (limit n room : ℕ) (ts : List Token) → n + room ≡ limit → StmtToldBelow limit room → Tells (BlockFor n) limit ts (block_at (stmts_below room) ts)
unfolding block_at StmtToldBelow
block_tells limit n room ts e told =
    tells_as (Bracketed n signs.OpenBrace signs.CloseBrace (InsideFor (n + 1))) (BlockFor n) limit ts _ (block_of_bracketed n)
    (bracket_tells signs.OpenBrace signs.CloseBrace (InsideFor (n + 1)) (stmts_below room statements) limit n (starts_inside (n + 1))
    (λ t us. nested_stmts (InsideFor (n + 1)) limit n room statements t us e (starts_inside (n + 1)) (λ less s. inside_tells limit (n + 1) less us (count_down limit n room less e s) (told less s))) ts)

-- ---- the other side

else_is : (n : ℕ) (t : Token) → t.kind ≡ word words.Else → (o : Other) (ms : List Mark) → Nested (record { token = t; count = n }) (Sequence (BlockFor n) (λ b. Nothing (Else b))) o ms → OtherFor n o ms
else_is n t k o ms h = by_parts h.inner h.is h.spelled
  where
    by_parts : (inner : List Mark) → (let m : Mark = record { token = t; count = n } in ms ≡ m ∷ inner) → Sequence (BlockFor n) (λ b. Nothing (Else b)) o inner → OtherFor n o ms
    by_parts inner is (b, front, back, q, r, (v, z)) = record {
      phrase = other t.place r.phrase;
      stands = r.stands;
      means = ap Else r.means ∙ sym v;
      spelled = marks_is t (word words.Else) n _ k ∙ ap (λ l. let m : Mark = record { token = t; count = n } in m ∷ l) (r.spelled ∙ sym (q ∙ rw z (append-nil front))) ∙ sym is;
    }

-- what stands behind an `elseif`
abbrev AnotherParts : ℕ → Place → Grammar Block
AnotherParts n place = Sequence (BranchFor (n + 1) place) (λ s. Nothing (Then s Done))

starts_another : (n : ℕ) (place : Place) → Starts (AnotherParts n place) []
starts_another n place = starts_sequence (BranchFor (n + 1) place) _ (starts_branch (n + 1) place) (λ s. starts_nothing _)

another_is : (n : ℕ) (t : Token) → t.kind ≡ word words.Elseif → (o : Other) (ms : List Mark) → Sequence (Nested (record { token = t; count = n + 1 }) (AnotherParts n t.place)) (λ b. Nothing (Else b)) o ms → OtherFor n o ms
another_is n t k o ms (b, all, none, q, h, (v, z)) = by_parts h.inner (sym (append-nil all) ∙ ap (λ l. all ++ l) (sym z) ∙ sym q) h.is h.spelled
  where
    by_parts : (inner : List Mark) → all ≡ ms → (let m : Mark = record { token = t; count = n + 1 } in all ≡ m ∷ inner) → AnotherParts n t.place b inner → OtherFor n o ms
    by_parts inner same is (s, front, back, q', r, (v', z')) = record {
      phrase = another t.place r.phrase;
      stands = r.stands;
      means = ap (λ x. Else (Then x Done)) r.means ∙ ap Else (sym v') ∙ sym v;
      spelled = marks_is t (word words.Elseif) (n + 1) _ k ∙ ap (λ l. let m : Mark = record { token = t; count = n + 1 } in m ∷ l) (r.spelled ∙ sym (q' ∙ rw z' (append-nil front))) ∙ sym is ∙ same;
    }

other_by_tells : (limit n room : ℕ) (t : Token) (k : Kind) (ts : List Token) → n + room ≡ limit → StmtToldBelow limit room → t.kind ≡ k → Tells (OtherFor n) limit (t ∷ ts) (otherwise_by (stmts_below room) t k ts)
unfolding StmtToldBelow
other_by_tells limit n room t (word words.Else) ts e told k =
    tells_as (Nested (record { token = t; count = n }) (Sequence (BlockFor n) (λ b. Nothing (Else b)))) (OtherFor n) limit (t ∷ ts) _ (else_is n t k)
    (led_tells (Sequence (BlockFor n) (λ b. Nothing (Else b))) limit n t ts _ (fits limit n room e)
    (tells_sequence (BlockFor n) _ limit ts (block_at (stmts_below room) ts) _ (λ b. starts_nothing _) (block_tells limit n room ts e told) (λ b us. tells_nothing limit us _)))
other_by_tells limit n room t (word words.Elseif) ts e told k =
    let m : Mark = record { token = t; count = n + 1 } in
    tells_as (Sequence (Nested m (AnotherParts n t.place)) (λ b. Nothing (Else b))) (OtherFor n) limit (t ∷ ts) _ (another_is n t k)
    (tells_sequence (Nested m (AnotherParts n t.place)) _ limit (t ∷ ts) (stmts_below room (elseif_part t.place) (t ∷ ts) ts) _ (λ b. starts_nothing _)
    (nested_stmts (AnotherParts n t.place) limit n room (elseif_part t.place) t ts e (starts_another n t.place)
    (λ less q. tells_sequence (BranchFor (n + 1) t.place) _ limit ts (branch_at less (stmts_below less) t.place ts) _ (λ s. starts_nothing _) ((told less q).branch_tells (n + 1) (count_down limit n room less e q) t.place ts) (λ s us. tells_nothing limit us _)))
    (λ b us. tells_nothing limit us _))
other_by_tells limit n room t k ts e told h = tells_here (OtherFor n) limit (t ∷ ts) NoElse (record { phrase = no_other; stands = tt; means = refl; spelled = refl })

other_tells : (limit n room : ℕ) (ts : List Token) → n + room ≡ limit → StmtToldBelow limit room → Tells (OtherFor n) limit ts (otherwise_at (stmts_below room) ts)
unfolding otherwise_at
other_tells limit n room [] e told = tells_here (OtherFor n) limit [] NoElse (record { phrase = no_other; stands = tt; means = refl; spelled = refl })
other_tells limit n room (t ∷ ts) e told = other_by_tells limit n room t t.kind ts e told refl

-- ---- branches

abbrev BranchParts : ℕ → Place → Grammar Stmt
BranchParts n place = Sequence (Bracketed n signs.Open signs.Close (PhraseFor (n + 1) 8)) (λ e. Sequence (BlockFor n) (λ b. Sequence (OtherFor n) (λ o. Nothing (If place e b o))))

regroup : (x : List Mark) (m : Mark) (u w : List Mark) → (x ++ m ∷ []) ++ (u ++ (w ++ [])) ≡ x ++ m ∷ (u ++ w)
regroup x m u w = append_assoc x (m ∷ []) (u ++ (w ++ [])) ∙ ap (λ l. x ++ m ∷ (u ++ l)) (append-nil w)

branch_of_parts : (n : ℕ) (place : Place) (s : Stmt) (ms : List Mark) → BranchParts n place s ms → BranchFor n place s ms
branch_of_parts n place s ms (e, a, a', q, c, (b, f, f', q', d, (o, g, g', q'', h, (v, z)))) = record {
  phrase = branch c.from c.spelled.phrase c.to d.phrase h.phrase;
  stands = (c.spelled.stands, d.stands, h.stands);
  means = rw (c.spelled.means, d.means, h.means) (sym v);
  spelled = sym (q ∙ rw (c.is, q', q'', z, ← c.spelled.spelled, ← d.spelled, ← h.spelled) (ap (λ l. mark (n + 1) c.from (symbol signs.Open) ∷ l) (regroup (marks (n + 1) c.spelled.phrase) _ _ _)));
}

branch_tells_at : (limit n room : ℕ) (place : Place) (ts : List Token) → n + room ≡ limit → StmtToldBelow limit room → Tells (BranchFor n place) limit ts (branch_at room (stmts_below room) place ts)
unfolding branch_at
branch_tells_at limit n room place ts e told =
    tells_as (BranchParts n place) (BranchFor n place) limit ts _ (branch_of_parts n place)
    (tells_sequence (Bracketed n signs.Open signs.Close (PhraseFor (n + 1) 8)) _ limit ts (enclosed (below room) choice ts) _ (λ c. starts_sequence (BlockFor n) _ (starts_block n) (λ b. starts_sequence (OtherFor n) _ (starts_other n) (λ o. starts_nothing _))) (condition_tells limit n room ts e)
    (λ c us. tells_sequence (BlockFor n) _ limit us (block_at (stmts_below room) us) _ (λ b. starts_sequence (OtherFor n) _ (starts_other n) (λ o. starts_nothing _)) (block_tells limit n room us e told)
    (λ b vs. tells_sequence (OtherFor n) _ limit vs (otherwise_at (stmts_below room) vs) _ (λ o. starts_nothing _) (other_tells limit n room vs e told)
    (λ o ws. tells_nothing limit ws _))))

-- ---- statements

abbrev LedFor : {A : Type 0} → ℕ → Token → Grammar A → Grammar A
LedFor n t R = Nested (record { token = t; count = n }) R

-- a word, and then an expression
abbrev ExprParts : ℕ → (Expr → Stmt) → Grammar Stmt
ExprParts n make = Sequence (PhraseFor n 8) (λ e. Nothing (make e))

expr_of : (n : ℕ) (t : Token) (k : Kind) (make : Expr → Stmt) (w : Phrase → StmtPhrase) → t.kind ≡ k → ((e : Phrase) → StandsAt 8 e → StmtFor n (make (meant e)) (mark n t.place k ∷ marks n e)) → (s : Stmt) (ms : List Mark) → LedFor n t (ExprParts n make) s ms → StmtFor n s ms
expr_of n t k make w q f s ms h = by_parts h.inner h.is h.spelled
  where
    by_parts : (inner : List Mark) → (let m : Mark = record { token = t; count = n } in ms ≡ m ∷ inner) → ExprParts n make s inner → StmtFor n s ms
    by_parts inner is (e, b, b', q', r, (v, z)) =
        subst (λ y. StmtFor n y ms) (ap make r.means ∙ sym v)
        (subst (StmtFor n (make (meant r.phrase))) (marks_is t k n _ q ∙ ap (λ l. let m : Mark = record { token = t; count = n } in m ∷ l) (r.spelled ∙ sym (q' ∙ rw z (append-nil b))) ∙ sym is) (f r.phrase r.stands))

expr_tells : (limit n room : ℕ) (t : Token) (k : Kind) (make : Expr → Stmt) (w : Phrase → StmtPhrase) (ts : List Token) → n + room ≡ limit → t.kind ≡ k → ((e : Phrase) → StandsAt 8 e → StmtFor n (make (meant e)) (mark n t.place k ∷ marks n e))
    → Tells (StmtFor n) limit (t ∷ ts) (choice_at (below room) ts >>= λ e. Ok (make e.0, e.1))
expr_tells limit n room t k make w ts e q f =
    tells_as (LedFor n t (ExprParts n make)) (StmtFor n) limit (t ∷ ts) _ (expr_of n t k make w q f)
    (led_tells (ExprParts n make) limit n t ts _ (fits limit n room e)
    (tells_sequence (PhraseFor n 8) _ limit ts (choice_at (below room) ts) _ (λ y. starts_nothing _) (reading_tells limit n room ts e)
    (λ y us. tells_nothing limit us _)))

-- ---- variables

-- what follows a declaration: its first value, or nothing
record InitialFor (n : ℕ) (place : Place) (d : Declaration) (s : Stmt) (ms : List Mark) : Type 0 where
  right : (ms ≡ []) × (s ≡ Declare place d None) ⊎ (p : Place) × (r : RightPhrase) × RightStands r × (s ≡ Declare place d (Some (right_meant r))) × (ms ≡ mark n p (symbol signs.Becomes) ∷ right_marks n r)

starts_initial : (n : ℕ) (place : Place) (d : Declaration) → Starts (InitialFor n place d) []
starts_initial n place d = record { value = Declare place d None; more = []; spelled = record { right = inl (refl, refl) } }

abbrev InitialParts : ℕ → Place → Declaration → Grammar Stmt
InitialParts n place d = Sequence (RightFor n) (λ r. Nothing (Declare place d (Some r)))

initial_of : (n : ℕ) (place : Place) (d : Declaration) (t : Token) → t.kind ≡ symbol signs.Becomes → (s : Stmt) (ms : List Mark) → LedFor n t (InitialParts n place d) s ms → InitialFor n place d s ms
initial_of n place d t k s ms h = by_parts h.inner h.is h.spelled
  where
    by_parts : (inner : List Mark) → (let m : Mark = record { token = t; count = n } in ms ≡ m ∷ inner) → InitialParts n place d s inner → InitialFor n place d s ms
    by_parts inner is (e, b, b', q', r, (v, z)) = record {
      right = inr (t.place, r.phrase, r.stands, v ∙ ap (λ y. Declare place d (Some y)) (sym r.means), is ∙ ap (λ l. let m : Mark = record { token = t; count = n } in m ∷ l) (q' ∙ rw z (append-nil b) ∙ sym r.spelled) ∙ sym (marks_is t (symbol signs.Becomes) n _ k));
    }

initial_by_tells : (limit n room : ℕ) (place : Place) (d : Declaration) (t : Token) (ts : List Token) (b : Bool) → is_symbol signs.Becomes t.kind ≡ b → n + room ≡ limit → Tells (InitialFor n place d) limit (t ∷ ts) (cond b (initial_by room place d ts) (Ok (Declare place d None, t ∷ ts)))
unfolding initial_by
initial_by_tells limit n room place d t ts true h e =
    let k = is_symbol_true signs.Becomes t.kind h in
    tells_as (LedFor n t (InitialParts n place d)) (InitialFor n place d) limit (t ∷ ts) _ (initial_of n place d t k)
    (led_tells (InitialParts n place d) limit n t ts _ (fits limit n room e)
    (tells_sequence (RightFor n) _ limit ts (right_at room ts) _ (λ y. starts_nothing _) (right_tells limit n room ts e)
    (λ y us. tells_nothing limit us _)))
initial_by_tells limit n room place d t ts false h e = tells_here (InitialFor n place d) limit (t ∷ ts) (Declare place d None) (record { right = inl (refl, refl) })

initial_tells : (limit n room : ℕ) (place : Place) (d : Declaration) (ts : List Token) → n + room ≡ limit → Tells (InitialFor n place d) limit ts (initial_at room place d ts)
unfolding initial_at
initial_tells limit n room place d [] e = tells_here (InitialFor n place d) limit [] (Declare place d None) (record { right = inl (refl, refl) })
initial_tells limit n room place d (t ∷ ts) e = initial_by_tells limit n room place d t ts (is_symbol signs.Becomes t.kind) refl e

abbrev DeclareParts : ℕ → Place → Grammar Stmt
DeclareParts n place = Sequence (DeclarationFor n) (λ d. InitialFor n place d)

declare_of : (n : ℕ) (t : Token) → t.kind ≡ word words.Var → (s : Stmt) (ms : List Mark) → LedFor n t (DeclareParts n t.place) s ms → StmtFor n s ms
declare_of n t k s ms h = by_parts h.inner h.is h.spelled
  where
    led : (inner : List Mark) → (let m : Mark = record { token = t; count = n } in ms ≡ m ∷ inner) → mark n t.place (word words.Var) ∷ inner ≡ ms
    led inner is = marks_is t (word words.Var) n inner k ∙ sym is

    by_parts : (inner : List Mark) → (let m : Mark = record { token = t; count = n } in ms ≡ m ∷ inner) → DeclareParts n t.place s inner → StmtFor n s ms
    by_parts inner is (d, a, a', q, r, i) = elim i.right [
      | inl (z, v) ↦ record {
        phrase = declared t.place r.phrase;
        stands = tt;
        means = ap (λ y. Declare t.place y None) r.means ∙ sym v;
        spelled = ap (λ l. mark n t.place (word words.Var) ∷ l) (r.spelled ∙ sym (q ∙ rw z (append-nil a))) ∙ led inner is;
      }
      | inr (p, e, st, v, z) ↦ record {
        phrase = initialized t.place r.phrase p e;
        stands = st;
        means = ap (λ y. Declare t.place y (Some (right_meant e))) r.means ∙ sym v;
        spelled = ap (λ l. mark n t.place (word words.Var) ∷ l) (sym (q ∙ rw (z, ← r.spelled) refl)) ∙ led inner is;
      }
    ]

declare_tells : (limit n room : ℕ) (t : Token) (ts : List Token) → n + room ≡ limit → t.kind ≡ word words.Var → Tells (StmtFor n) limit (t ∷ ts) (declare_at room t.place ts)
unfolding declare_at
declare_tells limit n room t ts e k =
    tells_as (LedFor n t (DeclareParts n t.place)) (StmtFor n) limit (t ∷ ts) _ (declare_of n t k)
    (led_tells (DeclareParts n t.place) limit n t ts _ (fits limit n room e)
    (tells_sequence (DeclarationFor n) _ limit ts (declaration_at ts) _ (λ d. starts_initial n t.place d) (declaration_tells limit n ts (fits limit n room e))
    (λ d us. initial_tells limit n room t.place d us e)))

-- ---- all of them

if_of : (n : ℕ) (t : Token) → t.kind ≡ word words.If → (s : Stmt) (ms : List Mark) → LedFor n t (BranchFor n t.place) s ms → StmtFor n s ms
if_of n t k s ms h = record {
  phrase = branched t.place h.spelled.phrase;
  stands = h.spelled.stands;
  means = h.spelled.means;
  spelled = marks_is t (word words.If) n _ k ∙ ap (λ l. let m : Mark = record { token = t; count = n } in m ∷ l) h.spelled.spelled ∙ sym h.is;
}

claim_tells : (limit n room : ℕ) (c : Claim) (t : Token) (ts : List Token) → n + room ≡ limit → t.kind ≡ word (claim_word c) → Tells (StmtFor n) limit (t ∷ ts) (claim_at room c t.place ts)
unfolding claim_at
claim_tells limit n room c t ts e k = expr_tells limit n room t (word (claim_word c)) (claim_meant c t.place) (claimed c t.place) ts e k (λ w st. record { phrase = claimed c t.place w; stands = st; means = refl; spelled = refl })

abbrev FoldParts : ℕ → Folding → Place → Grammar Stmt
FoldParts n f place = Sequence (InstanceFor n) (λ i. Nothing (folding_meant f place i))

folded_of : (n : ℕ) (f : Folding) (t : Token) → t.kind ≡ word (folding_word f) → (s : Stmt) (ms : List Mark) → LedFor n t (FoldParts n f t.place) s ms → StmtFor n s ms
folded_of n f t k s ms h = by_parts h.inner h.is h.spelled
  where
    by_parts : (inner : List Mark) → (let m : Mark = record { token = t; count = n } in ms ≡ m ∷ inner) → FoldParts n f t.place s inner → StmtFor n s ms
    by_parts inner is (i, a, b, q, r, (v, z)) = record {
      phrase = folded f t.place r.phrase;
      stands = r.stands;
      means = ap (folding_meant f t.place) r.means ∙ sym v;
      spelled = marks_is t (word (folding_word f)) n _ k ∙ ap (λ l. let m : Mark = record { token = t; count = n } in m ∷ l) (r.spelled ∙ sym (q ∙ rw z (append-nil a))) ∙ sym is;
    }

fold_tells : (limit n room : ℕ) (f : Folding) (t : Token) (ts : List Token) → n + room ≡ limit → t.kind ≡ word (folding_word f) → Tells (StmtFor n) limit (t ∷ ts) (fold_at room f t.place ts)
unfolding fold_at
fold_tells limit n room f t ts e k =
    tells_as (LedFor n t (FoldParts n f t.place)) (StmtFor n) limit (t ∷ ts) _ (folded_of n f t k)
    (led_tells (FoldParts n f t.place) limit n t ts _ (fits limit n room e)
    (tells_sequence (InstanceFor n) _ limit ts (instance_at (below room) ts) _ (λ i. starts_nothing _) (instance_reading_tells limit n room ts e) (λ i us. tells_nothing limit us _)))

abbrev WhileParts : ℕ → Place → Grammar Stmt
WhileParts n place = Sequence (Bracketed n signs.Open signs.Close (PhraseFor (n + 1) 8)) (λ e. Sequence (InvariantsFor n) (λ is. Sequence (BlockFor n) (λ b. Nothing (While place e is b))))

while_of : (n : ℕ) (t : Token) → t.kind ≡ word words.While → (s : Stmt) (ms : List Mark) → LedFor n t (WhileParts n t.place) s ms → StmtFor n s ms
while_of n t k s ms h = by_parts h.inner h.is h.spelled
  where
    by_parts : (inner : List Mark) → (let m : Mark = record { token = t; count = n } in ms ≡ m ∷ inner) → WhileParts n t.place s inner → StmtFor n s ms
    by_parts inner is (e, a, a', q, c, (es, f, f', q', i, (b, g, g', q'', d, (v, z)))) =
        let close = mark (n + 1) c.to (symbol signs.Close) in
        let tail : f' ≡ block_marks n d.phrase = q'' ∙ rw z (append-nil g) ∙ sym d.spelled in
        let rest : a' ≡ invariants_marks n 0 i.phrase ++ block_marks n d.phrase = q' ∙ ap (λ l. l ++ f') (sym i.spelled) ∙ ap (λ l. invariants_marks n 0 i.phrase ++ l) tail in
        let all : inner ≡ mark (n + 1) c.from (symbol signs.Open) ∷ (marks (n + 1) c.spelled.phrase ++ close ∷ (invariants_marks n 0 i.phrase ++ block_marks n d.phrase)) =
        q ∙ ap (λ l. l ++ a') (c.is ∙ ap (λ l. mark (n + 1) c.from (symbol signs.Open) ∷ (l ++ close ∷ [])) (sym c.spelled.spelled)) ∙ ap (λ l. mark (n + 1) c.from (symbol signs.Open) ∷ l) (append_assoc (marks (n + 1) c.spelled.phrase) (close ∷ []) a' ∙ ap (λ l. marks (n + 1) c.spelled.phrase ++ close ∷ l) rest) in
        record {
          phrase = repeated t.place c.from c.spelled.phrase c.to i.phrase d.phrase;
          stands = (c.spelled.stands, i.stands, d.stands);
          means = rw (c.spelled.means, i.means, d.means) (sym v);
          spelled = marks_is t (word words.While) n _ k ∙ ap (λ l. let m : Mark = record { token = t; count = n } in m ∷ l) (sym all) ∙ sym is;
        }

-- what stands behind the condition of a loop
abbrev LoopParts : ℕ → Place → Expr → Grammar Stmt
LoopParts n place e = Sequence (InvariantsFor n) (λ is. Sequence (BlockFor n) (λ b. Nothing (While place e is b)))

-- behind invariants a block begins, or one more
block_begins : (n : ℕ) (place : Place) (e : Expr) (is : Exprs) (ms : List Mark) → InvariantsFor n is ms → Starts (After (LoopParts n place e) ms) (mark (n + 1) somewhere (symbol signs.OpenBrace) ∷ [])
unfolding any_block
block_begins n place e is ms r = record {
  value = While place e is (block_meant any_block);
  more = mark (n + 1) somewhere (symbol signs.CloseBrace) ∷ [];
  spelled = (is, ms, block_marks n any_block, refl, r, (block_meant any_block, block_marks n any_block, [], sym (append-nil (block_marks n any_block)), record { phrase = any_block; stands = tt; means = refl; spelled = refl }, (refl, refl)));
}

invariant_begins : (n : ℕ) (place : Place) (e : Expr) (ms : List Mark) (o : OneMore n ms) → Starts (After (LoopParts n place e) ms) (o.first ∷ [])
unfolding any_block
invariant_begins n place e ms o = record {
  value = While place e o.value (block_meant any_block);
  more = o.more ++ block_marks n any_block;
  spelled = (o.value, ms ++ o.first ∷ o.more, block_marks n any_block, sym (append_assoc ms (o.first ∷ o.more) (block_marks n any_block)), o.spelled, (block_meant any_block, block_marks n any_block, [], sym (append-nil (block_marks n any_block)), record { phrase = any_block; stands = tt; means = refl; spelled = refl }, (refl, refl)));
}

-- the block of a loop
loop_block_by : (limit n room : ℕ) (place : Place) (c : Expr) (is : Exprs) (ms : List Mark) (ts : List Token) (b : Bool) → begins_decreases ts ≡ b → n + room ≡ limit → StmtToldBelow limit room → InvariantsFor n is ms
    → (let r : Read Block = cond b (Err (Measured ts)) (block_at (stmts_below room) ts) in Tells (After (LoopParts n place c) ms) limit ts (r >>= λ b. Ok (While place c is b.0, b.1)))
loop_block_by limit n room place c is ms ts true h e told r =
    let o = one_more n is ms r in
    tells_measured (After (LoopParts n place c) ms) limit ts (mark (n + 1) somewhere (symbol signs.OpenBrace)) o.first h refl (block_begins n place c is ms r) (inr o.first_is) (invariant_begins n place c ms o)
loop_block_by limit n room place c is ms ts false h e told r =
    tells_second (InvariantsFor n) _ limit is ts ms _ r
    (tells_sequence (BlockFor n) _ limit ts (block_at (stmts_below room) ts) _ (λ b. starts_nothing _) (block_tells limit n room ts e told) (λ b us. tells_nothing limit us _))

loop_block_tells : (limit n room : ℕ) (place : Place) (c : Expr) (is : Exprs) (ms : List Mark) (ts : List Token) → n + room ≡ limit → StmtToldBelow limit room → InvariantsFor n is ms
    → Tells (After (LoopParts n place c) ms) limit ts (loop_block_at (stmts_below room) ts >>= λ b. Ok (While place c is b.0, b.1))
unfolding loop_block_at
loop_block_tells limit n room place c is ms ts e told r = loop_block_by limit n room place c is ms ts (begins_decreases ts) refl e told r

while_tells : (limit n room : ℕ) (t : Token) (ts : List Token) → n + room ≡ limit → StmtToldBelow limit room → t.kind ≡ word words.While → Tells (StmtFor n) limit (t ∷ ts) (while_at room (stmts_below room) t.place ts)
unfolding while_at
while_tells limit n room t ts e told k =
    tells_as (LedFor n t (WhileParts n t.place)) (StmtFor n) limit (t ∷ ts) _ (while_of n t k)
    (led_tells (WhileParts n t.place) limit n t ts _ (fits limit n room e)
    (tells_sequence (Bracketed n signs.Open signs.Close (PhraseFor (n + 1) 8)) _ limit ts (enclosed (below room) choice ts) _ (λ c. starts_sequence (InvariantsFor n) _ (starts_invariants n) (λ is. starts_sequence (BlockFor n) _ (starts_block n) (λ b. starts_nothing _))) (condition_tells limit n room ts e)
    (λ c us. tells_sequence_by (InvariantsFor n) _ limit us (invariants_at room us) _ (λ is. starts_sequence (BlockFor n) _ (starts_block n) (λ b. starts_nothing _)) (invariants_tells limit n room us e)
    (λ is vs ms r. loop_block_tells limit n room t.place c is ms vs e told r))))

stmt_by_tells : (limit n room : ℕ) (t : Token) (k : Kind) (ts : List Token) → n + room ≡ limit → StmtToldBelow limit room → t.kind ≡ k → Tells (StmtFor n) limit (t ∷ ts) (stmt_by room (stmts_below room) t k ts)
stmt_by_tells limit n room t (name x) ts e told k = target_tells limit n room t x ts e k
stmt_by_tells limit n room t (word words.Var) ts e told k = declare_tells limit n room t ts e k
stmt_by_tells limit n room t (word words.Inhale) ts e told k = claim_tells limit n room inhales t ts e k
stmt_by_tells limit n room t (word words.Exhale) ts e told k = claim_tells limit n room exhales t ts e k
stmt_by_tells limit n room t (word words.Assert) ts e told k = claim_tells limit n room asserts t ts e k
stmt_by_tells limit n room t (word words.Assume) ts e told k = claim_tells limit n room assumes t ts e k
stmt_by_tells limit n room t (word words.Fold) ts e told k = fold_tells limit n room folds t ts e k
stmt_by_tells limit n room t (word words.Unfold) ts e told k = fold_tells limit n room unfolds t ts e k
stmt_by_tells limit n room t (word words.If) ts e told k =
    tells_as (LedFor n t (BranchFor n t.place)) (StmtFor n) limit (t ∷ ts) _ (if_of n t k) (led_tells (BranchFor n t.place) limit n t ts _ (fits limit n room e) (branch_tells_at limit n room t.place ts e told))
stmt_by_tells limit n room t (word words.While) ts e told k = while_tells limit n room t ts e told k
stmt_by_tells limit n room t k ts e told h = tells_unexpected (StmtFor n) limit (t ∷ ts) (starts_stmt n)

stmt_tells : (limit n room : ℕ) (ts : List Token) → n + room ≡ limit → StmtToldBelow limit room → Tells (StmtFor n) limit ts (stmt_at room (stmts_below room) ts)
unfolding stmt_at
stmt_tells limit n room [] e told = tells_unexpected (StmtFor n) limit [] (starts_stmt n)
stmt_tells limit n room (t ∷ ts) e told = stmt_by_tells limit n room t t.kind ts e told refl

row_tells_at : (limit n room : ℕ) (ts : List Token) → n + room ≡ limit → StmtToldBelow limit room → Tells (RowFor n (StmtFor n)) limit ts (stmts_at room (stmts_below room) ts)
row_tells_at limit n room ts e told =
    subst (Tells (RowFor n (StmtFor n)) limit ts) (sym (stmts_are_rows room (stmts_below room) ts))
    (tells_rows n limit (StmtFor n) begins_stmt (stmt_at room (stmts_below room)) (fits limit n room e) (λ us. stmt_tells limit n room us e told) (length ts) ts)

stmt_told_from : (limit room : ℕ) → StmtToldBelow limit room → StmtTold limit room
stmt_told_from limit room told = record {
  row_tells = λ n e ts. row_tells_at limit n room ts e told;
  branch_tells = λ n e place ts. branch_tells_at limit n room place ts e told;
}

stmt_told_at : (limit room : ℕ) → StmtTold limit room
unfolding StmtToldBelow
stmt_told_at limit zero = stmt_told_from limit zero (λ less e. absurd (omega (arith, e)))
stmt_told_at limit (suc room) = stmt_told_from limit (suc room) (λ less e. let same : room ≡ less = omega (arith, e) in subst (StmtTold limit) same (stmt_told_at limit room))

-- what reading a block tells
pub block_reading_tells : (limit n room : ℕ) (ts : List Token) → n + room ≡ limit → Tells (BlockFor n) limit ts (block_at (stmts_below room) ts)
unfolding StmtToldBelow
block_reading_tells limit n room ts e = block_tells limit n room ts e (λ less s. stmt_told_at limit less)

pub stmt_reading_tells : (limit n room : ℕ) (ts : List Token) → n + room ≡ limit → Tells (StmtFor n) limit ts (stmt_at room (stmts_below room) ts)
unfolding StmtToldBelow
stmt_reading_tells limit n room ts e = stmt_tells limit n room ts e (λ less s. stmt_told_at limit less)
