-- What is printed of a statement is a phrase of it, wherever its tokens stand.
use Rattle.std.proofs.Common.{◌≡◌, ◌∙◌, ℕ, ◌+◌, List, [], ◌∷◌, ◌++◌, length, true, Some, None, refl, sym, ap, ap₂, append-nil, append_assoc}
use Rattle.vx_ast.specs.declared.Place.{Place}
use Rattle.vx_ast.specs.Written.{Name, Placed, Expr, Exprs, More, Right, Value, New, Declaration, Stmt, Other, Else, Block, Declare, Assign, Write, Invoke, Inhale, Exhale, Assert, Assume, If, While, Done, Then, Call, Read}
use Rattle.vx_tokens.specs.declared.token.Word.TheVariants as words
use Rattle.vx_tokens.specs.declared.token.Symbol.TheVariants as signs
use Rattle.vx_tokens.specs.Tokens.{Kind, name, word, symbol}
use Rattle.vx_tokens.specs.Text.{one_token}
use Rattle.vx_grammar.specs.Grammar.{Phrase, literal, constant, numeral, named, called, dotted, grouped, past, accessed, prefixed, joined, chosen, unfolded, InstancePhrase, Mark, mark, marks, arguments_meant, tokens_of, meant, StandsAt, IsPrimary, dots}
use Rattle.vx_grammar.specs.Statements.{DeclarationPhrase, type_word, declaration_meant, Claim, inhales, exhales, asserts, assumes, NamesPhrase, no_names, next_name, every_field, no_fields, these_fields, RightPhrase, given, allocated, names_meant, right_meant, RightStands, names_marks, right_marks, InvariantsPhrase, no_invariants, invariant, invariants_meant, InvariantsStand, invariants_marks, IsPath, StmtPhrase, assigned, stored, invoked, targeted, declared, initialized, claimed, branched, repeated, folded, Folding, folds, unfolds, BranchPhrase, branch, OtherPhrase, no_other, other, another, BlockPhrase, block, RowPhrase, no_more, more, stmt_meant, branch_meant, other_meant, block_meant, row_meant, StandsStmt, StandsBranch, StandsOther, StandsBlock, StandsRow, stmt_marks, branch_marks, other_marks, block_marks, row_marks}
use Rattle.vx_print.specs.Canonical.{parenthesized, parenthesized_if, braced, is_prefixed, applied, expr_tokens, exprs_tokens, whole_tokens, read_tokens, further_names, right_tokens, targets_tokens, invariants_tokens, stmt_tokens, block_tokens, other_tokens, else_tokens}
use Rattle.vx_print.specs.Same.{nowhere, bare_name, bare_names, bare_declaration, bare, bare_exprs, bare_right, bare_stmt, bare_other, bare_block}
use Rattle.vx_print.proofs.Built.{placed, two, first, Built, built, built_arguments, BuiltCall, built_call, built_instance}

-- tokens between two others, and what follows
pub enclosed : (f : ℕ → Place) (i n : ℕ) (a b : Kind) (ms ns : List Mark) (ks ls : List Kind) → tokens_of ms ≡ placed f (i + 1) ks → tokens_of ns ≡ placed f (i + 1 + length ks + 1) ls
    → tokens_of (mark n (f i) a ∷ (ms ++ mark n (f (i + 1 + length ks)) b ∷ ns)) ≡ placed f i ((a ∷ (ks ++ b ∷ [])) ++ ls)
enclosed f i n a b ms ns ks ls e d =
    first f i a (tokens_of (ms ++ mark n (f (i + 1 + length ks)) b ∷ ns)) ((ks ++ b ∷ []) ++ ls)
    (two f (i + 1) ms (mark n (f (i + 1 + length ks)) b ∷ ns) ks (b ∷ ls) e (first f (i + 1 + length ks) b (tokens_of ns) ls d) ∙ ap (placed f (i + 1)) (sym (append_assoc ks (b ∷ []) ls)))

-- ---- names, declarations and right sides

pub place_names : (ℕ → Place) → ℕ → List Placed → NamesPhrase
place_names f i [] = no_names
place_names f i (x ∷ xs) = next_name (f i) (f (i + 1)) x.name (place_names f (i + 1 + 1) xs)

names_same : (f : ℕ → Place) (i : ℕ) (xs : List Placed) → bare_names (names_meant (place_names f i xs)) ≡ bare_names xs
unfolding place_names
names_same f i [] = refl
names_same f i (x ∷ xs) = ap (λ l. bare_name x.name ∷ l) (names_same f (i + 1 + 1) xs)

names_placed : (f : ℕ → Place) (i n : ℕ) (xs : List Placed) → tokens_of (names_marks n (place_names f i xs)) ≡ placed f i (further_names xs)
unfolding place_names
names_placed f i n [] = refl
names_placed f i n (x ∷ xs) = first f i (symbol signs.Comma) _ (name x.name ∷ further_names xs) (first f (i + 1) (name x.name) _ (further_names xs) (names_placed f (i + 1 + 1) n xs))

abbrev pub place_declaration : (ℕ → Place) → ℕ → Declaration → DeclarationPhrase
place_declaration f i d = record { name_at = f i; text = d.name.name; colon_at = f (i + 1); type_at = f (i + 1 + 1); of = d.of }

record BuiltRight (f : ℕ → Place) (i : ℕ) (ks : List Kind) (r : Right) : Type 0 where
  phrase : RightPhrase
  stands : RightStands phrase
  means : bare_right (right_meant phrase) ≡ r
  tokens : (n : ℕ) → tokens_of (right_marks n phrase) ≡ placed f i ks

built_right : (f : ℕ → Place) (i : ℕ) (r : RightPhrase) → BuiltRight f i (right_tokens (right_meant r)) (bare_right (right_meant r))
built_right f i (given e) = let b = built f i 8 true e in record { phrase = given b.phrase; stands = b.stands; means = ap Value b.means; tokens = b.tokens }
built_right f i (allocated p o (every_field q) c) = record { phrase = allocated (f i) (f (i + 1)) (every_field (f (i + 1 + 1))) (f (i + 1 + 1 + 1)); stands = tt; means = refl; tokens = λ n. refl }
built_right f i (allocated p o no_fields c) = record { phrase = allocated (f i) (f (i + 1)) no_fields (f (i + 1 + 1)); stands = tt; means = refl; tokens = λ n. refl }
built_right f i (allocated p o (these_fields q x rest) c) =
    let xs = names_meant rest in
    let j = i + 1 + 1 in
    let close = f (j + 1 + length (further_names xs)) in
    record {
      phrase = allocated (f i) (f (i + 1)) (these_fields (f j) x (place_names f (j + 1) xs)) close;
      stands = tt;
      means = ap (λ l. New nowhere (bare_name x ∷ l)) (names_same f (j + 1) xs);
      tokens = λ n. first f i (word words.New) _ (parenthesized (name x ∷ further_names xs)) (first f (i + 1) (symbol signs.Open) _ (name x ∷ (further_names xs ++ symbol signs.Close ∷ [])) (first f j (name x) _ (further_names xs ++ symbol signs.Close ∷ [])
          (two f (j + 1) (names_marks (n + 1) (place_names f (j + 1) xs)) (mark (n + 1) close (symbol signs.Close) ∷ []) (further_names xs) (symbol signs.Close ∷ []) (names_placed f (j + 1) (n + 1) xs) refl)));
    }

-- ---- invariants

record BuiltInvariants (f : ℕ → Place) (i : ℕ) (ks : List Kind) (es : Exprs) : Type 0 where
  phrase : InvariantsPhrase
  stands : InvariantsStand phrase
  means : bare_exprs (invariants_meant phrase) ≡ es
  tokens : (n k : ℕ) → tokens_of (invariants_marks n k phrase) ≡ placed f i ks

built_invariants : (f : ℕ → Place) (i : ℕ) (w : InvariantsPhrase) → BuiltInvariants f i (invariants_tokens (invariants_meant w)) (bare_exprs (invariants_meant w))
built_invariants f i no_invariants = record { phrase = no_invariants; stands = tt; means = refl; tokens = λ n k. refl }
built_invariants f i (invariant p e semi rest) =
    let ke = whole_tokens (meant e) in
    let kr = invariants_tokens (invariants_meant rest) in
    let b = built f (i + 1) 8 true e in
    let r = built_invariants f (i + 1 + length ke) rest in
    record {
      phrase = invariant (f i) b.phrase None r.phrase;
      stands = (b.stands, r.stands);
      means = ap₂ More b.means r.means;
      tokens = λ n k. first f i (word words.Invariant) _ (ke ++ kr) (two f (i + 1) (marks (n + k) b.phrase) (invariants_marks n (k + 1) r.phrase) ke kr (b.tokens (n + k)) (r.tokens n (k + 1)));
    }

-- ---- calls and paths

-- what stands in front of a dot
abbrev receiver : Expr → List Kind
receiver e = parenthesized_if (is_prefixed e) (expr_tokens 0 (is_prefixed e) e)

record BuiltPath (f : ℕ → Place) (i : ℕ) (e : Expr) : Type 0 where
  phrase : Phrase
  stands : StandsAt 0 phrase
  path : IsPath phrase
  means : bare (meant phrase) ≡ bare e
  tokens : (n : ℕ) → tokens_of (marks n phrase) ≡ placed f i (receiver e)

path_primary : (w : Phrase) → IsPath w → IsPrimary w
path_primary (named p x) h = tt
path_primary (called p x o es c) h = tt
path_primary (dotted e p q x) h = tt
path_primary (literal p b) h = absurd h
path_primary (constant p b) h = absurd h
path_primary (numeral p b) h = absurd h
path_primary (grouped p e q) h = absurd h
path_primary (past p o e c) h = absurd h
path_primary (accessed p o e a c) h = absurd h
path_primary (prefixed p op e) h = absurd h
path_primary (joined a p op b) h = absurd h
path_primary (chosen c p a q b) h = absurd h
path_primary (unfolded p i q e) h = absurd h

dot_placed : (f : ℕ → Place) (i n : ℕ) (e : Expr) (x : Name) (b : BuiltPath f i e) → tokens_of (marks n (dotted b.phrase (f (i + length (receiver e))) (f (i + length (receiver e) + 1)) x)) ≡ placed f i (read_tokens e x)
dot_placed f i n e x b =
    let deep = n + dots b.phrase + 1 in
    let j = i + length (receiver e) in
    two f i (marks n b.phrase) (mark deep (f j) (symbol signs.Dot) ∷ mark deep (f (j + 1)) (name x) ∷ []) (receiver e) (symbol signs.Dot ∷ name x ∷ []) (b.tokens n) refl

built_path : (f : ℕ → Place) (i : ℕ) (w : Phrase) → IsPath w → BuiltPath f i (meant w)
built_path f i (named p x) h = record { phrase = named (f i) x; stands = tt; path = tt; means = refl; tokens = λ n. refl }
built_path f i (called p x o es c) h =
    let ks = exprs_tokens (arguments_meant es) in
    let b = built_call f i x ks (bare_exprs (arguments_meant es)) (built_arguments f (i + 1 + 1) es) in
    record { phrase = called (f i) x (f (i + 1)) b.arguments.phrase b.close; stands = b.arguments.stands; path = tt; means = ap (Call nowhere x) b.arguments.means; tokens = λ n. b.tokens n ∙ ap (placed f i) (sym (append-nil (applied x ks))) }
built_path f i (dotted e p q x) h =
    let b = built_path f i e h in
    let j = i + length (receiver (meant e)) in
    record { phrase = dotted b.phrase (f j) (f (j + 1)) x; stands = (path_primary b.phrase b.path, b.stands); path = b.path; means = ap (λ y. Read nowhere y (bare_name x)) b.means; tokens = λ n. dot_placed f i n (meant e) x b ∙ ap (placed f i) (sym (append-nil (read_tokens (meant e) x))) }
built_path f i (literal p b) h = absurd h
built_path f i (constant p b) h = absurd h
built_path f i (numeral p b) h = absurd h
built_path f i (grouped p e q) h = absurd h
built_path f i (past p o e c) h = absurd h
built_path f i (accessed p o e a c) h = absurd h
built_path f i (prefixed p op e) h = absurd h
built_path f i (joined a p op b) h = absurd h
built_path f i (chosen c p a q b) h = absurd h
built_path f i (unfolded p w q e) h = absurd h

-- ---- statements

record BuiltStmt (f : ℕ → Place) (i : ℕ) (ks : List Kind) (s : Stmt) : Type 0 where
  phrase : StmtPhrase
  stands : StandsStmt phrase
  means : bare_stmt (stmt_meant phrase) ≡ s
  tokens : (n : ℕ) → tokens_of (stmt_marks n phrase) ≡ placed f i ks

record BuiltBranch (f : ℕ → Place) (i : ℕ) (ks : List Kind) (s : Stmt) : Type 0 where
  phrase : BranchPhrase
  stands : StandsBranch phrase
  means : (p : Place) → bare_stmt (branch_meant p phrase) ≡ s
  tokens : (n : ℕ) → tokens_of (branch_marks n phrase) ≡ placed f i ks

record BuiltOther (f : ℕ → Place) (i : ℕ) (ks : List Kind) (b : Other) : Type 0 where
  phrase : OtherPhrase
  stands : StandsOther phrase
  means : bare_other (other_meant phrase) ≡ b
  tokens : (n : ℕ) → tokens_of (other_marks n phrase) ≡ placed f i ks

record BuiltRow (f : ℕ → Place) (i : ℕ) (ks : List Kind) (b : Block) : Type 0 where
  phrase : RowPhrase
  stands : StandsRow phrase
  means : bare_block (row_meant phrase) ≡ b
  tokens : (n : ℕ) → tokens_of (row_marks n phrase) ≡ placed f i ks

pub record BuiltBlock (f : ℕ → Place) (i : ℕ) (ks : List Kind) (b : Block) : Type 0 where
  pub phrase : BlockPhrase
  pub stands : StandsBlock phrase
  pub means : bare_block (block_meant phrase) ≡ b
  pub tokens : (n : ℕ) → tokens_of (block_marks n phrase) ≡ placed f i (braced ks)

built_braced : (f : ℕ → Place) (i : ℕ) (ks : List Kind) (b : Block) → BuiltRow f (i + 1) ks b → BuiltBlock f i ks b
built_braced f i ks b r =
    let close = f (i + 1 + length ks) in
    record {
      phrase = block (f i) r.phrase close;
      stands = r.stands;
      means = r.means;
      tokens = λ n. first f i (symbol signs.OpenBrace) _ (ks ++ symbol signs.CloseBrace ∷ []) (two f (i + 1) (row_marks (n + 1) r.phrase) (mark (n + 1) close (symbol signs.CloseBrace) ∷ []) ks (symbol signs.CloseBrace ∷ []) (r.tokens (n + 1)) refl);
    }

built_claimed : (f : ℕ → Place) (i : ℕ) (c : Claim) (p : Place) (e : Phrase) → BuiltStmt f i (stmt_tokens (stmt_meant (claimed c p e))) (bare_stmt (stmt_meant (claimed c p e)))
built_claimed f i inhales p e = let b = built f (i + 1) 8 true e in record { phrase = claimed inhales (f i) b.phrase; stands = b.stands; means = ap (Inhale nowhere) b.means; tokens = λ n. first f i (word words.Inhale) _ (whole_tokens (meant e)) (b.tokens n) }
built_claimed f i exhales p e = let b = built f (i + 1) 8 true e in record { phrase = claimed exhales (f i) b.phrase; stands = b.stands; means = ap (Exhale nowhere) b.means; tokens = λ n. first f i (word words.Exhale) _ (whole_tokens (meant e)) (b.tokens n) }
built_claimed f i asserts p e = let b = built f (i + 1) 8 true e in record { phrase = claimed asserts (f i) b.phrase; stands = b.stands; means = ap (Assert nowhere) b.means; tokens = λ n. first f i (word words.Assert) _ (whole_tokens (meant e)) (b.tokens n) }
built_claimed f i assumes p e = let b = built f (i + 1) 8 true e in record { phrase = claimed assumes (f i) b.phrase; stands = b.stands; means = ap (Assume nowhere) b.means; tokens = λ n. first f i (word words.Assume) _ (whole_tokens (meant e)) (b.tokens n) }

built_folded : (f : ℕ → Place) (i : ℕ) (k : Folding) (p : Place) (w : InstancePhrase) → BuiltStmt f i (stmt_tokens (stmt_meant (folded k p w))) (bare_stmt (stmt_meant (folded k p w)))
built_folded f i folds p w = let b = built_instance f (i + 1) w in record { phrase = folded folds (f i) b.phrase; stands = b.stands; means = rw (b.name_is, b.arguments_are, b.amount_is) refl; tokens = λ n. first f i (word words.Fold) _ _ (b.tokens n) }
built_folded f i unfolds p w = let b = built_instance f (i + 1) w in record { phrase = folded unfolds (f i) b.phrase; stands = b.stands; means = rw (b.name_is, b.arguments_are, b.amount_is) refl; tokens = λ n. first f i (word words.Unfold) _ _ (b.tokens n) }

built_targeted : (f : ℕ → Place) (i : ℕ) (x y : Name) (zs : List Placed) (m : Name) (ks : List Kind) (es : Exprs) → ((j : ℕ) → BuiltCall f j m ks es) → BuiltStmt f i (targets_tokens (bare_name x ∷ bare_name y ∷ zs) ++ applied m ks) (Invoke nowhere (bare_name x ∷ bare_name y ∷ bare_names zs) (bare_name m) es)
built_targeted f i x y zs m ks es call =
    let j = i + 1 + 1 + 1 in
    let k = j + length (further_names zs) in
    let b = call (k + 1) in
    let ys = place_names f j zs in
    record {
      phrase = targeted (f i) x (f (i + 1)) (f (i + 1 + 1)) y ys (f k) (f (k + 1)) m (f (k + 1 + 1)) b.arguments.phrase b.close;
      stands = b.arguments.stands;
      means = ap₂ (λ l r. Invoke nowhere (bare_name x ∷ bare_name y ∷ l) (bare_name m) r) (names_same f j zs) b.arguments.means;
      tokens = λ n.
          let rest = further_names zs ++ symbol signs.Becomes ∷ applied m ks in
          first f i (name x) _ (symbol signs.Comma ∷ name y ∷ rest) (first f (i + 1) (symbol signs.Comma) _ (name y ∷ rest) (first f (i + 1 + 1) (name y) _ rest
          (two f j (names_marks n ys) (mark n (f k) (symbol signs.Becomes) ∷ marks n (called (f (k + 1)) m (f (k + 1 + 1)) b.arguments.phrase b.close)) (further_names zs) (symbol signs.Becomes ∷ applied m ks)
          (names_placed f j n zs) (first f k (symbol signs.Becomes) _ (applied m ks) (b.tokens n)))))
          ∙ ap (λ l. placed f i (name x ∷ symbol signs.Comma ∷ name y ∷ l)) (sym (append_assoc (further_names zs) (symbol signs.Becomes ∷ []) (applied m ks)));
    }

built_branched : (f : ℕ → Place) (i : ℕ) (ke ka kb : List Kind) (e : Expr) (a : Block) (b : Other) → Built f (i + 1) 8 true ke e → BuiltBlock f (i + 1 + length ke + 1) ka a → BuiltOther f (i + 1 + length ke + 1 + length (braced ka)) kb b → BuiltBranch f i (parenthesized ke ++ (braced ka ++ kb)) (If nowhere e a b)
built_branched f i ke ka kb e a b c d o =
    let j = i + 1 + length ke in
    record {
      phrase = branch (f i) c.phrase (f j) d.phrase o.phrase;
      stands = (c.stands, d.stands, o.stands);
      means = λ p. ap₂ (λ x y. If nowhere x y (bare_other (other_meant o.phrase))) c.means d.means ∙ ap (If nowhere e a) o.means;
      tokens = λ n. enclosed f i (n + 1) (symbol signs.Open) (symbol signs.Close) (marks (n + 1) c.phrase) (block_marks n d.phrase ++ other_marks n o.phrase) ke (braced ka ++ kb) (c.tokens (n + 1))
          (two f (j + 1) (block_marks n d.phrase) (other_marks n o.phrase) (braced ka) kb (d.tokens n) (o.tokens n));
    }

built_else : (f : ℕ → Place) (i : ℕ) (ks : List Kind) (b : Block) → BuiltBlock f (i + 1) ks b → BuiltOther f i (word words.Else ∷ braced ks) (Else b)
built_else f i ks b r = record { phrase = other (f i) r.phrase; stands = r.stands; means = ap Else r.means; tokens = λ n. first f i (word words.Else) _ (braced ks) (r.tokens n) }

built_elseif : (f : ℕ → Place) (i : ℕ) (ks : List Kind) (s : Stmt) → BuiltBranch f (i + 1) ks s → BuiltOther f i (word words.Elseif ∷ ks) (Else (Then s Done))
built_elseif f i ks s b = record { phrase = another (f i) b.phrase; stands = b.stands; means = ap (λ x. Else (Then x Done)) (b.means (f i)); tokens = λ n. first f i (word words.Elseif) _ ks (b.tokens (n + 1)) }

built_while : (f : ℕ → Place) (i : ℕ) (ke ki kb : List Kind) (e : Expr) (es : Exprs) (b : Block) → Built f (i + 1 + 1) 8 true ke e → BuiltInvariants f (i + 1 + 1 + length ke + 1) ki es → BuiltBlock f (i + 1 + 1 + length ke + 1 + length ki) kb b → BuiltStmt f i (word words.While ∷ (parenthesized ke ++ (ki ++ braced kb))) (While nowhere e es b)
built_while f i ke ki kb e es b c is d =
    let j = i + 1 + 1 + length ke in
    record {
      phrase = repeated (f i) (f (i + 1)) c.phrase (f j) is.phrase d.phrase;
      stands = (c.stands, is.stands, d.stands);
      means = ap₂ (λ x y. While nowhere x y (bare_block (block_meant d.phrase))) c.means is.means ∙ ap (While nowhere e es) d.means;
      tokens = λ n. first f i (word words.While) _ (parenthesized ke ++ (ki ++ braced kb))
          (enclosed f (i + 1) (n + 1) (symbol signs.Open) (symbol signs.Close) (marks (n + 1) c.phrase) (invariants_marks n 0 is.phrase ++ block_marks n d.phrase) ke (ki ++ braced kb) (c.tokens (n + 1))
          (two f (j + 1) (invariants_marks n 0 is.phrase) (block_marks n d.phrase) ki (braced kb) (is.tokens n 0) (d.tokens n)));
    }

built_more : (f : ℕ → Place) (i : ℕ) (ks kr : List Kind) (s : Stmt) (b : Block) → BuiltStmt f i ks s → BuiltRow f (i + length ks) kr b → BuiltRow f i (ks ++ kr) (Then s b)
built_more f i ks kr s b h r = record { phrase = more h.phrase None r.phrase; stands = (h.stands, r.stands); means = ap₂ Then h.means r.means; tokens = λ n. two f i (stmt_marks n h.phrase) (row_marks n r.phrase) ks kr (h.tokens n) (r.tokens n) }

abbrev pub branch_tokens : BranchPhrase → List Kind
branch_tokens (branch o e c b x) = parenthesized (whole_tokens (meant e)) ++ (braced (block_tokens (block_meant b)) ++ other_tokens (other_meant x))

abbrev branch_bare : BranchPhrase → Stmt
branch_bare (branch o e c b x) = If nowhere (bare (meant e)) (bare_block (block_meant b)) (bare_other (other_meant x))

-- of an `if`, what stands behind its first word
abbrev Inner : (ℕ → Place) → ℕ → StmtPhrase → Type 0
Inner f i (branched p b) = BuiltBranch f i (branch_tokens b) (branch_bare b)
Inner f i (assigned p x q r) = Unit {0}
Inner f i (stored e p q x r v) = Unit {0}
Inner f i (invoked p m o es c) = Unit {0}
Inner f i (targeted p x k q y ys r s m o es c) = Unit {0}
Inner f i (declared p d) = Unit {0}
Inner f i (initialized p d q r) = Unit {0}
Inner f i (claimed c p e) = Unit {0}
Inner f i (repeated p o e c is b) = Unit {0}
Inner f i (folded k p w) = Unit {0}

abbrev alone : StmtPhrase → Block
alone s = Then (stmt_meant s) Done

-- the other side of an `if` that is one statement
built_alone : (f : ℕ → Place) (i : ℕ) (s : StmtPhrase) → Inner f (i + 1) s → BuiltOther f i (word words.Else ∷ braced (block_tokens (alone s))) (Else (bare_block (alone s))) → BuiltOther f i (else_tokens (alone s)) (Else (bare_block (alone s)))
built_alone f i (branched p (branch o e c b x)) inner d = built_elseif f i (branch_tokens (branch o e c b x)) (branch_bare (branch o e c b x)) inner
built_alone f i (assigned p x q r) inner d = d
built_alone f i (stored e p q x r v) inner d = d
built_alone f i (invoked p m o es c) inner d = d
built_alone f i (targeted p x k q y ys r s m o es c) inner d = d
built_alone f i (declared p d') inner d = d
built_alone f i (initialized p d' q r) inner d = d
built_alone f i (claimed inhales p e) inner d = d
built_alone f i (claimed exhales p e) inner d = d
built_alone f i (claimed asserts p e) inner d = d
built_alone f i (claimed assumes p e) inner d = d
built_alone f i (repeated p o e c is b) inner d = d
built_alone f i (folded folds p w) inner d = d
built_alone f i (folded unfolds p w) inner d = d

built_none : (f : ℕ → Place) (i : ℕ) → BuiltRow f i [] Done
built_none f i = record { phrase = no_more; stands = tt; means = refl; tokens = λ n. refl }

built_stored : (f : ℕ → Place) (i : ℕ) (e : Phrase) (x : Name) (v : Phrase) → IsPath e → BuiltStmt f i (read_tokens (meant e) x ++ symbol signs.Becomes ∷ whole_tokens (meant v)) (Write nowhere (bare (meant e)) (bare_name x) (bare (meant v)))
built_stored f i e x v h =
    let kr = read_tokens (meant e) x in
    let kv = whole_tokens (meant v) in
    let k = i + length (receiver (meant e)) in
    let j = i + length kr in
    let b = built_path f i e h in
    let w = built f (j + 1) 8 true v in
    record {
      phrase = stored b.phrase (f k) (f (k + 1)) x (f j) w.phrase;
      stands = (b.path, b.stands, w.stands);
      means = ap₂ (λ y z. Write nowhere y (bare_name x) z) b.means w.means;
      tokens = λ n. two f i (marks n (dotted b.phrase (f k) (f (k + 1)) x)) (mark n (f j) (symbol signs.Becomes) ∷ marks n w.phrase) kr (symbol signs.Becomes ∷ kv) (dot_placed f i n (meant e) x b) (first f j (symbol signs.Becomes) _ kv (w.tokens n));
    }

mutual
  built_stmt : (f : ℕ → Place) (i : ℕ) (s : StmtPhrase) → StandsStmt s → BuiltStmt f i (stmt_tokens (stmt_meant s)) (bare_stmt (stmt_meant s))
  built_stmt f i (assigned p x q r) h =
      let b = built_right f (i + 1 + 1) r in
      let kr = right_tokens (right_meant r) in
      record { phrase = assigned (f i) x (f (i + 1)) b.phrase; stands = b.stands; means = ap (Assign nowhere (bare_name x)) b.means; tokens = λ n. first f i (name x) _ (symbol signs.Becomes ∷ kr) (first f (i + 1) (symbol signs.Becomes) _ kr (b.tokens n)) }
  built_stmt f i (stored e p q x r v) h = built_stored f i e x v h.0
  built_stmt f i (invoked p m o es c) h =
      let b = built_call f i m (exprs_tokens (arguments_meant es)) (bare_exprs (arguments_meant es)) (built_arguments f (i + 1 + 1) es) in
      record { phrase = invoked (f i) m (f (i + 1)) b.arguments.phrase b.close; stands = b.arguments.stands; means = ap (Invoke nowhere [] (bare_name m)) b.arguments.means; tokens = b.tokens }
  built_stmt f i (targeted p x k q y ys r s m o es c) h =
      let ks = exprs_tokens (arguments_meant es) in
      let bs = bare_exprs (arguments_meant es) in
      built_targeted f i x y (names_meant ys) m ks bs (λ j. built_call f j m ks bs (built_arguments f (j + 1 + 1) es))
  built_stmt f i (declared p d) h = record { phrase = declared (f i) (place_declaration f (i + 1) (declaration_meant d)); stands = tt; means = refl; tokens = λ n. refl }
  built_stmt f i (initialized p d q r) h =
      let j = i + 1 + 1 + 1 + 1 in
      let b = built_right f (j + 1) r in
      let d' = place_declaration f (i + 1) (declaration_meant d) in
      record {
        phrase = initialized (f i) d' (f j) b.phrase;
        stands = b.stands;
        means = ap (λ l. Declare nowhere (bare_declaration (declaration_meant d)) (Some l)) b.means;
        tokens = λ n. ap (λ l. one_token (word words.Var) (f i) ∷ one_token (name d.text) (f (i + 1)) ∷ one_token (symbol signs.Colon) (f (i + 1 + 1)) ∷ one_token (word (type_word d.of)) (f (i + 1 + 1 + 1)) ∷ one_token (symbol signs.Becomes) (f j) ∷ l) (b.tokens n);
      }
  built_stmt f i (claimed c p e) h = built_claimed f i c p e
  built_stmt f i (folded k p w) h = built_folded f i k p w
  built_stmt f i (branched p (branch o e c b x)) h =
      let d = built_branch f (i + 1) (branch o e c b x) h in
      record { phrase = branched (f i) d.phrase; stands = d.stands; means = d.means (f i); tokens = λ n. first f i (word words.If) _ (branch_tokens (branch o e c b x)) (d.tokens n) }
  built_stmt f i (repeated p o e c is b) h =
      let ke = whole_tokens (meant e) in
      let ki = invariants_tokens (invariants_meant is) in
      let j = i + 1 + 1 + length ke + 1 in
      built_while f i ke ki (block_tokens (block_meant b)) (bare (meant e)) (bare_exprs (invariants_meant is)) (bare_block (block_meant b)) (built f (i + 1 + 1) 8 true e) (built_invariants f j is) (built_block f (j + length ki) b h.2)

  built_branch : (f : ℕ → Place) (i : ℕ) (b : BranchPhrase) → StandsBranch b → BuiltBranch f i (branch_tokens b) (branch_bare b)
  built_branch f i (branch o e c b x) h =
      let ke = whole_tokens (meant e) in
      let ka = block_tokens (block_meant b) in
      let j = i + 1 + length ke + 1 in
      built_branched f i ke ka (other_tokens (other_meant x)) (bare (meant e)) (bare_block (block_meant b)) (bare_other (other_meant x)) (built f (i + 1) 8 true e) (built_block f j b h.1) (built_other f (j + length (braced ka)) x h.2)

  built_other : (f : ℕ → Place) (i : ℕ) (x : OtherPhrase) → StandsOther x → BuiltOther f i (other_tokens (other_meant x)) (bare_other (other_meant x))
  built_other f i no_other h = record { phrase = no_other; stands = tt; means = refl; tokens = λ n. refl }
  built_other f i (another p (branch o e c b x)) h = built_elseif f i (branch_tokens (branch o e c b x)) (branch_bare (branch o e c b x)) (built_branch f (i + 1) (branch o e c b x) h)
  built_other f i (other p (block o no_more c)) h = built_else f i [] Done (built_braced f (i + 1) [] Done (built_none f (i + 1 + 1)))
  built_other f i (other p (block o (more s semi no_more) c)) h =
      let row = built_more f (i + 1 + 1) (stmt_tokens (stmt_meant s)) [] (bare_stmt (stmt_meant s)) Done (built_stmt f (i + 1 + 1) s h.0) (built_none f (i + 1 + 1 + length (stmt_tokens (stmt_meant s)))) in
      built_alone f i s (built_inner f (i + 1) s h.0) (built_else f i (block_tokens (alone s)) (bare_block (alone s)) (built_braced f (i + 1) (block_tokens (alone s)) (bare_block (alone s)) row))
  built_other f i (other p (block o (more s semi (more t u r)) c)) h =
      let ks = stmt_tokens (stmt_meant s) in
      let kt = stmt_tokens (stmt_meant t) in
      let kr = block_tokens (row_meant r) in
      let j = i + 1 + 1 + length ks in
      let rest = built_more f j kt kr (bare_stmt (stmt_meant t)) (bare_block (row_meant r)) (built_stmt f j t h.1.0) (built_row f (j + length kt) r h.1.1) in
      let row = built_more f (i + 1 + 1) ks (kt ++ kr) (bare_stmt (stmt_meant s)) (Then (bare_stmt (stmt_meant t)) (bare_block (row_meant r))) (built_stmt f (i + 1 + 1) s h.0) rest in
      built_else f i (ks ++ (kt ++ kr)) (Then (bare_stmt (stmt_meant s)) (Then (bare_stmt (stmt_meant t)) (bare_block (row_meant r)))) (built_braced f (i + 1) (ks ++ (kt ++ kr)) _ row)

  built_inner : (f : ℕ → Place) (i : ℕ) (s : StmtPhrase) → StandsStmt s → Inner f i s
  built_inner f i (branched p b) h = built_branch f i b h
  built_inner f i (assigned p x q r) h = tt
  built_inner f i (stored e p q x r v) h = tt
  built_inner f i (invoked p m o es c) h = tt
  built_inner f i (targeted p x k q y ys r s m o es c) h = tt
  built_inner f i (declared p d) h = tt
  built_inner f i (initialized p d q r) h = tt
  built_inner f i (claimed c p e) h = tt
  built_inner f i (repeated p o e c is b) h = tt
  built_inner f i (folded k p w) h = tt

  pub built_block : (f : ℕ → Place) (i : ℕ) (b : BlockPhrase) → StandsBlock b → BuiltBlock f i (block_tokens (block_meant b)) (bare_block (block_meant b))
  built_block f i (block o r c) h = built_braced f i (block_tokens (row_meant r)) (bare_block (row_meant r)) (built_row f (i + 1) r h)

  built_row : (f : ℕ → Place) (i : ℕ) (r : RowPhrase) → StandsRow r → BuiltRow f i (block_tokens (row_meant r)) (bare_block (row_meant r))
  built_row f i no_more h = built_none f i
  built_row f i (more s semi r) h =
      let ks = stmt_tokens (stmt_meant s) in
      built_more f i ks (block_tokens (row_meant r)) (bare_stmt (stmt_meant s)) (bare_block (row_meant r)) (built_stmt f i s h.0) (built_row f (i + length ks) r h.1)
