-- The line of each member is scanned as tokens that are read as the member.
use Rattle.std.proofs.Common.{◌≡◌, ◌∙◌, ℕ, zero, suc, ◌+◌, ◌≤◌, ◌%◌, List, ◌∷◌, ◌++◌, drop, true, false, refl, ap₂}
use Rattle.std.specs.Prelude.{codes, Ok}
use Rattle.vx_ast.specs.declared.ValueType.TheVariants.{Int, Ref}
use Rattle.vx_ast.specs.Written.{Member}
use Rattle.vx_tokens.specs.declared.token.Word.TheVariants as words
use Rattle.vx_tokens.specs.declared.token.Symbol.TheVariants as signs
use Rattle.vx_tokens.specs.Tokens.{Token, word}
use Rattle.vx_tokens.specs.Text.{one_token}
use Rattle.vx_tokens.specs.Scanning.{scan, next, word_next, numeral_next}
use Rattle.vx_tokens.proofs.Scan.{followed_by}
use Rattle.vx_grammar.specs.Reading.{is_symbol, run, expect, name_at, enclosed, call_by, named_by, old_by, access_by, primary_by, dots_at, dotted_at, postfix_by, bare_by, instance_at, unary_by, unary_at, operator_by, rest_by, rest_at, chain_at, implies_by, implied_by, implication_at, chosen_by, choice_at, argument_turn, some_arguments, arguments_at, amount_at, access_at, below}
use Rattle.vx_grammar.specs.StmtReading.{type_at, declaration_at, block_at, store_at, target_at, clause_at, fold_at, stmt_at, stmt_turn, stmts_at, stmts_below}
use Rattle.vx_grammar.specs.MemberReading.{Halting, begins_member, declaration_turn, declarations_at, inner_parameters_at, parameters_at, returns_at, clause_turn, clauses_at, braced_at, some_braced, given_at, predicate_at, some_block, body_at, method_at, field_at, member_at}
use Rattle.vx_gen.specs.Generated as text
use Rattle.vx_gen.specs.Programs.{line, digits, predicate, list_body, tree_body, field, method_on, method_by}
use Rattle.vx_gen.proofs.Parts.{right_of, column_of}
use Rattle.vx_gen.proofs.Scanned.{tokens, method_word, tokens_by, method_scanned}

-- on line l the text is the line of this member
pub record IsLine (l : ℕ) (text : List ℕ) (m : Member) : Type 0 where
  pub first : Token
  pub more : List Token
  pub begins : begins_member first.kind ≡ true
  pub plain : is_symbol signs.Semicolon first.kind ≡ false
  pub scanned : (rest : List ℕ) → scan 0 (line l 1) (text ++ rest) ≡ followed_by (first ∷ more) (scan 0 (line (l + 1) 1) rest)
  pub read : (rest : List Token) → member_at 200 first (more ++ rest) ≡ Ok (m, rest)

-- ---- fields and predicates

-- behind the first word
abbrev behind : ℕ → List ℕ → List Token
behind l bytes = drop 1 (tokens (line l 1) bytes)

abbrev field_word : ℕ → Token
field_word l = one_token (word words.Field) (line l 1)

abbrev predicate_word : ℕ → Token
predicate_word l = one_token (word words.Predicate) (line l 1)

pub value_line : IsLine 1 (codes "field value: Int\n") (field (line 1) (codes "value") Int)
unfolding member_at field_at declaration_at type_at name_at expect scan next word_next
value_line = record { first = field_word 1; more = behind 1 (codes "field value: Int\n"); begins = refl; plain = refl; scanned = λ rest. refl; read = λ rest. refl }

pub next_line : IsLine 2 (codes "field next: Ref\n") (field (line 2) (codes "next") Ref)
unfolding member_at field_at declaration_at type_at name_at expect scan next word_next
next_line = record { first = field_word 2; more = behind 2 (codes "field next: Ref\n"); begins = refl; plain = refl; scanned = λ rest. refl; read = λ rest. refl }

pub left_line : IsLine 3 (codes "field left: Ref\n") (field (line 3) (codes "left") Ref)
unfolding member_at field_at declaration_at type_at name_at expect scan next word_next
left_line = record { first = field_word 3; more = behind 3 (codes "field left: Ref\n"); begins = refl; plain = refl; scanned = λ rest. refl; read = λ rest. refl }

pub right_line : IsLine 4 (codes "field right: Ref\n") (field (line 4) (codes "right") Ref)
unfolding member_at field_at declaration_at type_at name_at expect scan next word_next
right_line = record { first = field_word 4; more = behind 4 (codes "field right: Ref\n"); begins = refl; plain = refl; scanned = λ rest. refl; read = λ rest. refl }

pub list_line : IsLine 5 text.list_line (predicate (line 5) (codes "list") (list_body (line 5)))
unfolding run expect name_at enclosed call_by named_by access_by primary_by dots_at dotted_at postfix_by unary_by unary_at operator_by rest_by rest_at chain_at implies_by implied_by implication_at chosen_by choice_at argument_turn some_arguments arguments_at amount_at access_at below type_at declaration_at declaration_turn declarations_at inner_parameters_at parameters_at braced_at some_braced given_at predicate_at member_at scan next word_next
list_line = record { first = predicate_word 5; more = behind 5 text.list_line; begins = refl; plain = refl; scanned = λ rest. refl; read = λ rest. refl }

pub tree_line : IsLine 6 text.tree_line (predicate (line 6) (codes "tree") (tree_body (line 6)))
unfolding run expect name_at enclosed call_by named_by access_by primary_by dots_at dotted_at postfix_by unary_by unary_at operator_by rest_by rest_at chain_at implies_by implied_by implication_at chosen_by choice_at argument_turn some_arguments arguments_at amount_at access_at below type_at declaration_at declaration_turn declarations_at inner_parameters_at parameters_at braced_at some_braced given_at predicate_at member_at scan next word_next
tree_line = record { first = predicate_word 6; more = behind 6 text.tree_line; begins = refl; plain = refl; scanned = λ rest. refl; read = λ rest. refl }

-- ---- methods

method_read : (k l d e f i : ℕ) (rest : List Token) → member_at 200 (method_word l) (tokens_by k l d e f i ++ rest) ≡ Ok (method_by k (line l) (right_of (line l d)) (right_of (line l e)) i, rest)
unfolding run expect name_at enclosed call_by named_by old_by access_by primary_by dots_at dotted_at postfix_by bare_by instance_at unary_by unary_at operator_by rest_by rest_at chain_at implied_by implication_at chosen_by choice_at argument_turn some_arguments arguments_at amount_at access_at below type_at declaration_at block_at store_at target_at clause_at fold_at stmt_at stmt_turn stmts_at stmts_below declaration_turn declarations_at inner_parameters_at parameters_at returns_at clause_turn clauses_at some_block body_at method_at member_at scan next word_next numeral_next
method_read zero l d e f i rest = refl
method_read (suc zero) l d e f i rest = refl
method_read (suc (suc k)) l d e f i rest = refl

columns : (l d : ℕ) → right_of (line l d) ≡ (λ c. line l (c + d))
columns l d = λ i c. column_of l d c i

abbrev read_as : List Token → Member → Halting Member
read_as rest m = Ok (m, rest)

pub method_line : (l i : ℕ) → i ≤ 2000 → IsLine l (text.method_line i) (method_on l i)
method_line l i le =
    let d = digits i in
    record {
      first = method_word l;
      more = tokens_by (i % 3) l d (d + d) (d + d + d) i;
      begins = refl;
      plain = refl;
      scanned = λ rest. method_scanned (i % 3) l i rest le;
      read = λ rest. method_read (i % 3) l d (d + d) (d + d + d) i rest ∙ ap₂ (λ middle back. read_as rest (method_by (i % 3) (line l) middle back i)) (columns l d) (columns l (d + d));
    }
