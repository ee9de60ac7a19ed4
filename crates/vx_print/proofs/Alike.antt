-- What is printed does not depend on places.
use Rattle.std.proofs.Common.{◌≡◌, ◌∙◌, ℕ, List, [], ◌∷◌, ◌++◌, map, Bool, true, false, ltb, ◌||◌, not, Option, Some, None, refl, sym, ap, ap₂}
use Rattle.std.specs.Prelude.{option_map}
use Rattle.vx_ast.specs.Written.{Name, Placed, Expr, Exprs, NoMore, More, Amount, All, Part, Truth, Number, Null, Whole, Nothing, Result, Variable, Call, Read, Unary, Binary, Choice, Old, Access, Unfolding, Right, Value, NewAll, New, Declaration, Stmt, Other, NoElse, Else, Block, Declare, Assign, Write, Invoke, Inhale, Exhale, Assert, Assume, Fold, Unfold, If, While, Done, Then, Clause, Requires, Ensures, Decreases, Kind as MemberKind, IsField, IsPredicate, IsFunction, IsMethod, Program}
use Rattle.vx_tokens.specs.declared.token.Word.{Word}
use Rattle.vx_tokens.specs.declared.token.Word.TheVariants as words
use Rattle.vx_tokens.specs.declared.token.Symbol.TheVariants as signs
use Rattle.vx_tokens.specs.Tokens.{Kind, name, word, symbol}
use Rattle.vx_grammar.specs.Grammar.{sign_of, prefix_sign, level_of, left_level, right_level}
use Rattle.vx_print.specs.Canonical.{parenthesized, parenthesized_if, braced, is_prefixed, applied, instance, instance_tokens, expr_tokens, exprs_tokens, further_tokens, amount_tokens, written_amount, whole_tokens, further_names, names_tokens, right_tokens, initial_tokens, targets_tokens, declaration_tokens, clause_tokens, invariants_tokens, stmt_tokens, block_tokens, other_tokens, else_tokens, next_declaration, further_declarations, declarations_tokens, returns_tokens, optional_expr_tokens, optional_block_tokens, contract_clause, contract_tokens, kind_tokens, member_word, canonical_text}
use Rattle.vx_print.specs.Words.{line}
use Rattle.vx_print.specs.Same.{bare_names, bare_declarations, bare, bare_exprs, bare_amount, bare_written, bare_right, bare_stmt, bare_other, bare_block, bare_clause, bare_kind, bare_program}
use Rattle.vx_print.specs.Laws.{PlacesAreNotPrinted}
use Rattle.vx_print.proofs.Built.{prefixed_bare}

mutual
  alike : (level : ℕ) (last : Bool) (e : Expr) → expr_tokens level last (bare e) ≡ expr_tokens level last e
  alike level last (Number p n) = refl
  alike level last (Truth p b) = refl
  alike level last (Null p) = refl
  alike level last (Whole p) = refl
  alike level last (Nothing p) = refl
  alike level last (Result p) = refl
  alike level last (Variable p x) = refl
  alike level last (Call p f es) = ap (applied f) (alike_exprs es)
  alike level last (Read p e f) =
      ap (λ b. parenthesized_if b (expr_tokens 0 b (bare e)) ++ symbol signs.Dot ∷ name f.name ∷ []) (prefixed_bare e)
      ∙ ap (λ l. parenthesized_if (is_prefixed e) l ++ symbol signs.Dot ∷ name f.name ∷ []) (alike 0 (is_prefixed e) e)
  alike level last (Unary p op e) = ap (λ l. symbol (prefix_sign op) ∷ l) (alike 0 last e)
  alike level last (Binary p op a b) =
      let inside = ltb level (level_of op) in
      ap₂ (λ x y. parenthesized_if inside (x ++ symbol (sign_of op) ∷ y)) (alike (left_level op) false a) (alike (right_level op) (inside || last) b)
  alike level last (Choice p c a b) =
      let inside = ltb level 8 in
      let kb = expr_tokens 8 (inside || last) (bare b) in
      ap₂ (λ x y. parenthesized_if inside (x ++ symbol signs.Question ∷ (y ++ symbol signs.Colon ∷ kb))) (alike 7 false c) (alike 8 true a)
      ∙ ap (λ z. parenthesized_if inside (expr_tokens 7 false c ++ symbol signs.Question ∷ (expr_tokens 8 true a ++ symbol signs.Colon ∷ z))) (alike 8 (inside || last) b)
  alike level last (Old p e) = ap (λ l. word words.Old ∷ parenthesized l) (alike 8 true e)
  alike level last (Access p e a) = ap₂ (λ x y. word words.Acc ∷ parenthesized (x ++ symbol signs.Comma ∷ y)) (alike 8 true e) (alike_written a)
  alike level last (Unfolding p x es a e) =
      ap₂ (λ k d. parenthesized_if (not last) (word words.Unfolding ∷ (instance x.name k d ++ word words.In ∷ expr_tokens 8 true (bare e)))) (alike_exprs es) (alike_amount a)
      ∙ ap (λ l. parenthesized_if (not last) (word words.Unfolding ∷ (instance x.name (exprs_tokens es) (amount_tokens a) ++ word words.In ∷ l))) (alike 8 true e)

  alike_written : (a : Amount) → expr_tokens 8 true (bare_written a) ≡ written_amount (amount_tokens a)
  alike_written All = refl
  alike_written (Part e) = alike 8 true e

  alike_amount : (a : Amount) → amount_tokens (bare_amount a) ≡ amount_tokens a
  alike_amount All = refl
  alike_amount (Part e) = ap Some (alike 8 true e)

  alike_exprs : (es : Exprs) → exprs_tokens (bare_exprs es) ≡ exprs_tokens es
  alike_exprs NoMore = refl
  alike_exprs (More e es) = ap₂ (λ x y. x ++ y) (alike 8 true e) (alike_further es)

  alike_further : (es : Exprs) → further_tokens (bare_exprs es) ≡ further_tokens es
  alike_further NoMore = refl
  alike_further (More e es) = ap₂ (λ x y. symbol signs.Comma ∷ (x ++ y)) (alike 8 true e) (alike_further es)

alike_instance : (x : Name) (es : Exprs) (a : Amount) → instance_tokens x (bare_exprs es) (bare_amount a) ≡ instance_tokens x es a
alike_instance x es a = ap₂ (instance x) (alike_exprs es) (alike_amount a)

alike_further_names : (xs : List Placed) → further_names (bare_names xs) ≡ further_names xs
alike_further_names [] = refl
alike_further_names (x ∷ xs) = ap (λ l. symbol signs.Comma ∷ name x.name ∷ l) (alike_further_names xs)

alike_names : (xs : List Placed) → names_tokens (bare_names xs) ≡ names_tokens xs
alike_names [] = refl
alike_names (x ∷ xs) = ap (λ l. name x.name ∷ l) (alike_further_names xs)

alike_targets : (xs : List Placed) → targets_tokens (bare_names xs) ≡ targets_tokens xs
alike_targets [] = refl
alike_targets (x ∷ xs) = ap (λ l. l ++ symbol signs.Becomes ∷ []) (alike_names (x ∷ xs))

alike_right : (r : Right) → right_tokens (bare_right r) ≡ right_tokens r
alike_right (Value e) = alike 8 true e
alike_right (NewAll p) = refl
alike_right (New p xs) = ap (λ l. word words.New ∷ parenthesized l) (alike_names xs)

alike_initial : (r : Option Right) → initial_tokens (option_map bare_right r) ≡ initial_tokens r
alike_initial None = refl
alike_initial (Some r) = ap (λ l. symbol signs.Becomes ∷ l) (alike_right r)

alike_invariants : (es : Exprs) → invariants_tokens (bare_exprs es) ≡ invariants_tokens es
alike_invariants NoMore = refl
alike_invariants (More e es) = ap₂ (λ x y. word words.Invariant ∷ (x ++ y)) (alike 8 true e) (alike_invariants es)

alike_clause : (w : Word) (e : Expr) → clause_tokens w (bare e) ≡ clause_tokens w e
alike_clause w e = ap (λ l. word w ∷ l) (alike 8 true e)

-- the other side of an `if` that is one statement
alike_alone : (s : Stmt) → stmt_tokens (bare_stmt s) ≡ stmt_tokens s → else_tokens (Then (bare_stmt s) Done) ≡ else_tokens (Then s Done)
alike_alone (If p e a b) h = ap elseif h
  where
    elseif : List Kind → List Kind
    elseif [] = []
    elseif (k ∷ ks) = word words.Elseif ∷ ks
alike_alone (Declare p d r) h = ap (λ l. word words.Else ∷ braced (l ++ [])) h
alike_alone (Assign p x r) h = ap (λ l. word words.Else ∷ braced (l ++ [])) h
alike_alone (Write p e f v) h = ap (λ l. word words.Else ∷ braced (l ++ [])) h
alike_alone (Invoke p xs m es) h = ap (λ l. word words.Else ∷ braced (l ++ [])) h
alike_alone (Inhale p e) h = ap (λ l. word words.Else ∷ braced (l ++ [])) h
alike_alone (Exhale p e) h = ap (λ l. word words.Else ∷ braced (l ++ [])) h
alike_alone (Assert p e) h = ap (λ l. word words.Else ∷ braced (l ++ [])) h
alike_alone (Assume p e) h = ap (λ l. word words.Else ∷ braced (l ++ [])) h
alike_alone (Fold p x es a) h = ap (λ l. word words.Else ∷ braced (l ++ [])) h
alike_alone (Unfold p x es a) h = ap (λ l. word words.Else ∷ braced (l ++ [])) h
alike_alone (While p e is b) h = ap (λ l. word words.Else ∷ braced (l ++ [])) h

mutual
  alike_stmt : (s : Stmt) → stmt_tokens (bare_stmt s) ≡ stmt_tokens s
  alike_stmt (Declare p d r) = ap (λ l. word words.Var ∷ (declaration_tokens d ++ l)) (alike_initial r)
  alike_stmt (Assign p x r) = ap (λ l. name x.name ∷ symbol signs.Becomes ∷ l) (alike_right r)
  alike_stmt (Write p e f v) = ap₂ (λ x y. x ++ symbol signs.Becomes ∷ y) (alike 0 true (Read p e f)) (alike 8 true v)
  alike_stmt (Invoke p xs m es) = ap₂ (λ k l. k ++ applied m.name l) (alike_targets xs) (alike_exprs es)
  alike_stmt (Inhale p e) = alike_clause words.Inhale e
  alike_stmt (Exhale p e) = alike_clause words.Exhale e
  alike_stmt (Assert p e) = alike_clause words.Assert e
  alike_stmt (Assume p e) = alike_clause words.Assume e
  alike_stmt (Fold p x es a) = ap (λ l. word words.Fold ∷ l) (alike_instance x.name es a)
  alike_stmt (Unfold p x es a) = ap (λ l. word words.Unfold ∷ l) (alike_instance x.name es a)
  alike_stmt (If p e a b) =
      ap₂ (λ x y. word words.If ∷ (parenthesized x ++ (braced y ++ other_tokens (bare_other b)))) (alike 8 true e) (alike_block a)
      ∙ ap (λ z. word words.If ∷ (parenthesized (whole_tokens e) ++ (braced (block_tokens a) ++ z))) (alike_other b)
  alike_stmt (While p e is b) =
      ap₂ (λ x y. word words.While ∷ (parenthesized x ++ (y ++ braced (block_tokens (bare_block b))))) (alike 8 true e) (alike_invariants is)
      ∙ ap (λ z. word words.While ∷ (parenthesized (whole_tokens e) ++ (invariants_tokens is ++ braced z))) (alike_block b)

  alike_block : (b : Block) → block_tokens (bare_block b) ≡ block_tokens b
  alike_block Done = refl
  alike_block (Then s b) = ap₂ (λ x y. x ++ y) (alike_stmt s) (alike_block b)

  alike_other : (b : Other) → other_tokens (bare_other b) ≡ other_tokens b
  alike_other NoElse = refl
  alike_other (Else b) = alike_else b

  alike_else : (b : Block) → else_tokens (bare_block b) ≡ else_tokens b
  alike_else Done = refl
  alike_else (Then s Done) = alike_alone s (alike_stmt s)
  alike_else (Then s (Then t b)) =
      ap₂ (λ x y. word words.Else ∷ braced (x ++ (y ++ block_tokens (bare_block b)))) (alike_stmt s) (alike_stmt t)
      ∙ ap (λ z. word words.Else ∷ braced (stmt_tokens s ++ (stmt_tokens t ++ z))) (alike_block b)

alike_body : (e : Option Expr) → optional_expr_tokens (option_map bare e) ≡ optional_expr_tokens e
alike_body None = refl
alike_body (Some e) = ap braced (alike 8 true e)

alike_contract_clause : (c : Clause) → contract_clause (bare_clause c) ≡ contract_clause c
alike_contract_clause (Requires e) = alike_clause words.Requires e
alike_contract_clause (Ensures e) = alike_clause words.Ensures e
alike_contract_clause (Decreases e) = alike_clause words.Decreases e

alike_contract : (cs : List Clause) → contract_tokens (map bare_clause cs) ≡ contract_tokens cs
alike_contract [] = refl
alike_contract (c ∷ cs) = ap₂ (λ x y. x ++ y) (alike_contract_clause c) (alike_contract cs)

alike_more : (ds : List Declaration) → further_declarations (bare_declarations ds) ≡ further_declarations ds
alike_more [] = refl
alike_more (d ∷ ds) = ap (λ l. next_declaration d ++ l) (alike_more ds)

alike_declarations : (ds : List Declaration) → declarations_tokens (bare_declarations ds) ≡ declarations_tokens ds
alike_declarations [] = refl
alike_declarations (d ∷ ds) = ap (λ l. declaration_tokens d ++ l) (alike_more ds)

alike_returns : (ds : List Declaration) → returns_tokens (bare_declarations ds) ≡ returns_tokens ds
alike_returns [] = refl
alike_returns (d ∷ ds) = ap (λ l. word words.Returns ∷ parenthesized l) (alike_declarations (d ∷ ds))

alike_optional : (b : Option Block) → optional_block_tokens (option_map bare_block b) ≡ optional_block_tokens b
alike_optional None = refl
alike_optional (Some b) = ap braced (alike_block b)

alike_kind : (k : MemberKind) → kind_tokens (bare_kind k) ≡ kind_tokens k
alike_kind (IsField t) = refl
alike_kind (IsPredicate p) = ap₂ (λ k l. parenthesized k ++ l) (alike_declarations p.parameters) (alike_body p.body)
alike_kind (IsFunction f) = rw (alike_declarations f.parameters, alike_contract f.clauses, alike 8 true f.body) refl
alike_kind (IsMethod m) = rw (alike_declarations m.parameters, alike_returns m.returns, alike_contract m.clauses, alike_optional m.body) refl

same_word : (k : MemberKind) → member_word (bare_kind k) ≡ member_word k
same_word (IsField t) = refl
same_word (IsPredicate p) = refl
same_word (IsFunction f) = refl
same_word (IsMethod m) = refl

alike_program : (p : Program) → canonical_text (bare_program p) ≡ canonical_text p
alike_program [] = refl
alike_program (m ∷ ms) = ap₂ (λ x y. x ++ y) (ap₂ (λ w l. line (word w ∷ name m.name.name ∷ l)) (same_word m.kind) (alike_kind m.kind)) (alike_program ms)

pub places_are_not_printed : PlacesAreNotPrinted
places_are_not_printed p q e = sym (alike_program p) ∙ ap canonical_text e ∙ alike_program q
