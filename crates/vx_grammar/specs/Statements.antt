-- Which tokens spell which statements: the grammar of Viper (VMCAI 2016) in this profile.
use Rattle.std.specs.Prelude.{ℕ, ◌+◌, List, [], ◌∷◌, ◌++◌, Option, Some, None, ⊤}
use Rattle.vx_ast.specs.declared.Place.{Place}
use Rattle.vx_ast.specs.declared.ValueType.{ValueType}
use Rattle.vx_ast.specs.declared.ValueType.TheVariants as types
use Rattle.vx_ast.specs.Written.{Placed, placed, Expr, Right, Value, NewAll, New, Declaration, Stmt, Other, NoElse, Else, Block, Declare, Assign, Write, Invoke, Inhale, Exhale, Assert, Assume, Fold, Unfold, If, While, Exprs, NoMore, More, Done, Then}
use Rattle.vx_tokens.specs.declared.token.Word.{Word}
use Rattle.vx_tokens.specs.declared.token.Word.TheVariants as words
use Rattle.vx_tokens.specs.declared.token.Symbol.TheVariants as signs
use Rattle.vx_tokens.specs.Tokens.{name, word, symbol}
use Rattle.vx_grammar.specs.Grammar.{Phrase, literal, constant, numeral, named, called, dotted, grouped, past, accessed, prefixed, joined, chosen, unfolded, ArgumentsPhrase, arguments_meant, ArgumentsStand, Instance, InstancePhrase, instance_meant, InstanceStands, instance_marks, Mark, mark, marks, start_of, meant, StandsAt}

-- ---- declarations

-- a name, a colon and a type, each with its place
pub record DeclarationPhrase : Type 0 where
  pub name_at : Place
  pub text : List ℕ
  pub colon_at : Place
  pub type_at : Place
  pub of : ValueType

abbrev pub type_word : ValueType → Word
type_word types.Int = words.Int
type_word types.Bool = words.Bool
type_word types.Ref = words.Ref
type_word types.Perm = words.Perm

abbrev pub declaration_meant : DeclarationPhrase → Declaration
declaration_meant d = record { name = placed d.name_at d.text; of = d.of; type_at = d.type_at }

abbrev pub declaration_marks : ℕ → DeclarationPhrase → List Mark
declaration_marks n d = mark n d.name_at (name d.text) ∷ mark n d.colon_at (symbol signs.Colon) ∷ mark n d.type_at (word (type_word d.of)) ∷ []

-- ---- statements as they are written, with the place of each token

-- what is done with an assertion
pub data Claim : Type 0 where
  inhales : Claim
  exhales : Claim
  asserts : Claim
  assumes : Claim

abbrev pub claim_word : Claim → Word
claim_word inhales = words.Inhale
claim_word exhales = words.Exhale
claim_word asserts = words.Assert
claim_word assumes = words.Assume

abbrev pub claim_meant : Claim → Place → Expr → Stmt
claim_meant inhales p e = Inhale p e
claim_meant exhales p e = Exhale p e
claim_meant asserts p e = Assert p e
claim_meant assumes p e = Assume p e

-- what is done with an instance
pub data Folding : Type 0 where
  folds : Folding
  unfolds : Folding

abbrev pub folding_word : Folding → Word
folding_word folds = words.Fold
folding_word unfolds = words.Unfold

abbrev pub folding_meant : Folding → Place → Instance → Stmt
folding_meant folds p i = Fold p i.predicate i.arguments i.amount
folding_meant unfolds p i = Unfold p i.predicate i.arguments i.amount

-- names behind a first one, each behind a comma
pub data NamesPhrase : Type 0 where
  no_names : NamesPhrase
  next_name : Place → Place → List ℕ → NamesPhrase → NamesPhrase

-- the fields that `new` gives: all, none, or these
pub data FieldsPhrase : Type 0 where
  every_field : Place → FieldsPhrase
  no_fields : FieldsPhrase
  these_fields : Place → List ℕ → NamesPhrase → FieldsPhrase

-- what stands right of `:=`
pub data RightPhrase : Type 0 where
  given : Phrase → RightPhrase
  -- new ( fields )
  allocated : Place → Place → FieldsPhrase → Place → RightPhrase

abbrev pub names_meant : NamesPhrase → List Placed
names_meant no_names = []
names_meant (next_name p q x rest) = placed q x ∷ names_meant rest

-- a `new` that stands there
abbrev pub fields_meant : Place → FieldsPhrase → Right
fields_meant at (every_field p) = NewAll at
fields_meant at no_fields = New at []
fields_meant at (these_fields p x rest) = New at (placed p x ∷ names_meant rest)

abbrev pub right_meant : RightPhrase → Right
right_meant (given e) = Value (meant e)
right_meant (allocated p o fs c) = fields_meant p fs

abbrev pub RightStands : RightPhrase → Type 0
RightStands (given e) = StandsAt 8 e
RightStands (allocated p o fs c) = ⊤

abbrev pub names_marks : ℕ → NamesPhrase → List Mark
names_marks n no_names = []
names_marks n (next_name p q x rest) = mark n p (symbol signs.Comma) ∷ mark n q (name x) ∷ names_marks n rest

abbrev pub fields_marks : ℕ → FieldsPhrase → List Mark
fields_marks n (every_field p) = mark n p (symbol signs.Times) ∷ []
fields_marks n no_fields = []
fields_marks n (these_fields p x rest) = mark n p (name x) ∷ names_marks n rest

abbrev pub right_marks : ℕ → RightPhrase → List Mark
right_marks n (given e) = marks n e
right_marks n (allocated p o fs c) = mark n p (word words.New) ∷ mark (n + 1) o (symbol signs.Open) ∷ (fields_marks (n + 1) fs ++ mark (n + 1) c (symbol signs.Close) ∷ [])

abbrev pub semi_marks : ℕ → Option Place → List Mark
semi_marks n None = []
semi_marks n (Some p) = mark n p (symbol signs.Semicolon) ∷ []

-- the invariants of a loop, one after the other, each with a semicolon or none
pub data InvariantsPhrase : Type 0 where
  no_invariants : InvariantsPhrase
  invariant : Place → Phrase → Option Place → InvariantsPhrase → InvariantsPhrase

abbrev pub invariants_meant : InvariantsPhrase → Exprs
invariants_meant no_invariants = NoMore
invariants_meant (invariant p e semi rest) = More (meant e) (invariants_meant rest)

abbrev pub InvariantsStand : InvariantsPhrase → Type 0
InvariantsStand no_invariants = ⊤
InvariantsStand (invariant p e semi rest) = StandsAt 8 e × InvariantsStand rest

-- Behind so many at a loop that stands at nesting count n. An invariant nests as deep as there are earlier ones.
abbrev pub invariants_marks : ℕ → ℕ → InvariantsPhrase → List Mark
invariants_marks n k no_invariants = []
invariants_marks n k (invariant p e semi rest) = mark (n + k) p (word words.Invariant) ∷ (marks (n + k) e ++ (semi_marks n semi ++ invariants_marks n (k + 1) rest))

-- the location of a field: a variable or an application, and fields of it
abbrev pub IsPath : Phrase → Type 0
IsPath (named p x) = ⊤
IsPath (called p x o es c) = ⊤
IsPath (dotted e p q f) = IsPath e
IsPath (literal p b) = ⊥
IsPath (constant p c) = ⊥
IsPath (numeral p n) = ⊥
IsPath (grouped p e q) = ⊥
IsPath (past p o e c) = ⊥
IsPath (accessed p o e a c) = ⊥
IsPath (prefixed p op e) = ⊥
IsPath (joined a p op b) = ⊥
IsPath (chosen c p a q b) = ⊥
IsPath (unfolded p i q e) = ⊥

mutual
  pub data StmtPhrase : Type 0 where
    -- x := e
    assigned : Place → List ℕ → Place → RightPhrase → StmtPhrase
    -- e . f := e'
    stored : Phrase → Place → Place → List ℕ → Place → Phrase → StmtPhrase
    -- m ( arguments )
    invoked : Place → List ℕ → Place → ArgumentsPhrase → Place → StmtPhrase
    -- x , y , .. := m ( arguments )
    targeted : Place → List ℕ → Place → Place → List ℕ → NamesPhrase → Place → Place → List ℕ → Place → ArgumentsPhrase → Place → StmtPhrase
    -- var d, and var d := e
    declared : Place → DeclarationPhrase → StmtPhrase
    initialized : Place → DeclarationPhrase → Place → RightPhrase → StmtPhrase
    -- inhale e, exhale e, assert e, assume e
    claimed : Claim → Place → Phrase → StmtPhrase
    -- fold instance, or unfold instance
    folded : Folding → Place → InstancePhrase → StmtPhrase
    -- if, and what stands behind it
    branched : Place → BranchPhrase → StmtPhrase
    -- while ( e ), invariants and a block
    repeated : Place → Place → Phrase → Place → InvariantsPhrase → BlockPhrase → StmtPhrase

  -- a condition between parentheses, a block and the other side
  pub data BranchPhrase : Type 0 where
    branch : Place → Phrase → Place → BlockPhrase → OtherPhrase → BranchPhrase

  pub data OtherPhrase : Type 0 where
    no_other : OtherPhrase
    other : Place → BlockPhrase → OtherPhrase
    -- elseif, and what stands behind it
    another : Place → BranchPhrase → OtherPhrase

  -- statements between braces
  pub data BlockPhrase : Type 0 where
    block : Place → RowPhrase → Place → BlockPhrase

  -- statements one after the other, each with a semicolon or none
  pub data RowPhrase : Type 0 where
    no_more : RowPhrase
    more : StmtPhrase → Option Place → RowPhrase → RowPhrase

-- ---- what is meant

abbrev mutual
  pub stmt_meant : StmtPhrase → Stmt
  stmt_meant (assigned p x q r) = Assign p (placed p x) (right_meant r)
  stmt_meant (stored e p q f r v) = Write (start_of e) (meant e) (placed q f) (meant v)
  stmt_meant (invoked p m o es c) = Invoke p [] (placed p m) (arguments_meant es)
  stmt_meant (targeted p x k q y ys r s m o es c) = Invoke p (placed p x ∷ placed q y ∷ names_meant ys) (placed s m) (arguments_meant es)
  stmt_meant (declared p d) = Declare p (declaration_meant d) None
  stmt_meant (initialized p d q r) = Declare p (declaration_meant d) (Some (right_meant r))
  stmt_meant (claimed c p e) = claim_meant c p (meant e)
  stmt_meant (folded f p i) = folding_meant f p (instance_meant i)
  stmt_meant (branched p b) = branch_meant p b
  stmt_meant (repeated p o e c is b) = While p (meant e) (invariants_meant is) (block_meant b)

  -- an `if` whose first token stands there
  pub branch_meant : Place → BranchPhrase → Stmt
  branch_meant p (branch o e c b x) = If p (meant e) (block_meant b) (other_meant x)

  -- an `elseif` is a block with one `if`
  pub other_meant : OtherPhrase → Other
  other_meant no_other = NoElse
  other_meant (other p b) = Else (block_meant b)
  other_meant (another p b) = Else (Then (branch_meant p b) Done)

  pub block_meant : BlockPhrase → Block
  block_meant (block o r c) = row_meant r

  pub row_meant : RowPhrase → Block
  row_meant no_more = Done
  row_meant (more s semi r) = Then (stmt_meant s) (row_meant r)

-- ---- what may stand there

abbrev mutual
  pub StandsStmt : StmtPhrase → Type 0
  StandsStmt (assigned p x q r) = RightStands r
  StandsStmt (stored e p q f r v) = IsPath e × StandsAt 0 e × StandsAt 8 v
  StandsStmt (invoked p m o es c) = ArgumentsStand es
  StandsStmt (targeted p x k q y ys r s m o es c) = ArgumentsStand es
  StandsStmt (declared p d) = ⊤
  StandsStmt (initialized p d q r) = RightStands r
  StandsStmt (claimed c p e) = StandsAt 8 e
  StandsStmt (folded f p i) = InstanceStands i
  StandsStmt (branched p b) = StandsBranch b
  StandsStmt (repeated p o e c is b) = StandsAt 8 e × InvariantsStand is × StandsBlock b

  pub StandsBranch : BranchPhrase → Type 0
  StandsBranch (branch o e c b x) = StandsAt 8 e × StandsBlock b × StandsOther x

  pub StandsOther : OtherPhrase → Type 0
  StandsOther no_other = ⊤
  StandsOther (other p b) = StandsBlock b
  StandsOther (another p b) = StandsBranch b

  pub StandsBlock : BlockPhrase → Type 0
  StandsBlock (block o r c) = StandsRow r

  pub StandsRow : RowPhrase → Type 0
  StandsRow no_more = ⊤
  StandsRow (more s semi r) = StandsStmt s × StandsRow r

-- ---- tokens, each with its nesting count

-- A parenthesis, a brace and an `elseif` nest one deeper; an `elseif` part lasts to the end of the whole `if`.
abbrev mutual
  pub stmt_marks : ℕ → StmtPhrase → List Mark
  stmt_marks n (assigned p x q r) = mark n p (name x) ∷ mark n q (symbol signs.Becomes) ∷ right_marks n r
  stmt_marks n (stored e p q f r v) = marks n (dotted e p q f) ++ mark n r (symbol signs.Becomes) ∷ marks n v
  stmt_marks n (invoked p m o es c) = marks n (called p m o es c)
  stmt_marks n (targeted p x k q y ys r s m o es c) = mark n p (name x) ∷ mark n k (symbol signs.Comma) ∷ mark n q (name y) ∷ (names_marks n ys ++ mark n r (symbol signs.Becomes) ∷ marks n (called s m o es c))
  stmt_marks n (declared p d) = mark n p (word words.Var) ∷ declaration_marks n d
  stmt_marks n (initialized p d q r) = mark n p (word words.Var) ∷ (declaration_marks n d ++ mark n q (symbol signs.Becomes) ∷ right_marks n r)
  stmt_marks n (claimed c p e) = mark n p (word (claim_word c)) ∷ marks n e
  stmt_marks n (folded f p i) = mark n p (word (folding_word f)) ∷ instance_marks n i
  stmt_marks n (branched p b) = mark n p (word words.If) ∷ branch_marks n b
  stmt_marks n (repeated p o e c is b) = mark n p (word words.While) ∷ mark (n + 1) o (symbol signs.Open) ∷ (marks (n + 1) e ++ mark (n + 1) c (symbol signs.Close) ∷ (invariants_marks n 0 is ++ block_marks n b))

  pub branch_marks : ℕ → BranchPhrase → List Mark
  branch_marks n (branch o e c b x) = mark (n + 1) o (symbol signs.Open) ∷ (marks (n + 1) e ++ mark (n + 1) c (symbol signs.Close) ∷ (block_marks n b ++ other_marks n x))

  pub other_marks : ℕ → OtherPhrase → List Mark
  other_marks n no_other = []
  other_marks n (other p b) = mark n p (word words.Else) ∷ block_marks n b
  other_marks n (another p b) = mark (n + 1) p (word words.Elseif) ∷ branch_marks (n + 1) b

  pub block_marks : ℕ → BlockPhrase → List Mark
  block_marks n (block o r c) = mark (n + 1) o (symbol signs.OpenBrace) ∷ (row_marks (n + 1) r ++ mark (n + 1) c (symbol signs.CloseBrace) ∷ [])

  pub row_marks : ℕ → RowPhrase → List Mark
  row_marks n no_more = []
  row_marks n (more s semi r) = stmt_marks n s ++ (semi_marks n semi ++ row_marks n r)
