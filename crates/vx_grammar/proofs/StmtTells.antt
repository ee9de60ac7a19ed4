-- What reading statements tells.
use Rattle.std.proofs.Common.{◌≡◌, ℕ, ◌≤◌, List, [], ◌∷◌, refl, sym, ◌∙◌}
use Rattle.vx_ast.specs.declared.ValueType.TheVariants as types
use Rattle.vx_ast.specs.Written.{PlacedType, placed_type, Declaration}
use Rattle.vx_tokens.specs.declared.token.Word.TheVariants as words
use Rattle.vx_tokens.specs.declared.token.Symbol.TheVariants as signs
use Rattle.vx_tokens.specs.Tokens.{Token, Kind, word}
use Rattle.vx_grammar.specs.Grammar.{Mark, mark}
use Rattle.vx_grammar.specs.Statements.{DeclarationPhrase, type_word, declaration_meant, declaration_marks}
use Rattle.vx_grammar.specs.Reading.{expect, name_at}
use Rattle.vx_grammar.specs.StmtReading.{type_by, type_at, declaration_at}
use Rattle.vx_grammar.proofs.Tells.{somewhere, NameFor, name_tells, Grammar, Starts, Tells, Sign, starts_sign, tells_as, tells_unexpected, tells_token, tells_expect, marks_is}
use Rattle.vx_grammar.proofs.Sequence.{Sequence, Nothing, tells_sequence, starts_sequence, starts_nothing, tells_nothing}

-- ---- types

abbrev pub TypeFor : ℕ → Grammar PlacedType
TypeFor n t ms = ms ≡ mark n t.place (word (type_word t.of)) ∷ []

pub starts_type : (n : ℕ) → Starts (TypeFor n) []
starts_type n = record { value = placed_type somewhere types.Int; more = mark n somewhere (word words.Int) ∷ []; spelled = refl }

type_by_tells : (limit n : ℕ) (t : Token) (k : Kind) (ts : List Token) → n ≤ limit → t.kind ≡ k → Tells (TypeFor n) limit (t ∷ ts) (type_by t k ts)
type_by_tells limit n t (word words.Int) ts le e = tells_token (TypeFor n) limit (record { token = t; count = n }) ts (placed_type t.place types.Int) le (sym (marks_is t (word words.Int) n [] e))
type_by_tells limit n t (word words.Bool) ts le e = tells_token (TypeFor n) limit (record { token = t; count = n }) ts (placed_type t.place types.Bool) le (sym (marks_is t (word words.Bool) n [] e))
type_by_tells limit n t (word words.Ref) ts le e = tells_token (TypeFor n) limit (record { token = t; count = n }) ts (placed_type t.place types.Ref) le (sym (marks_is t (word words.Ref) n [] e))
type_by_tells limit n t (word words.Perm) ts le e = tells_token (TypeFor n) limit (record { token = t; count = n }) ts (placed_type t.place types.Perm) le (sym (marks_is t (word words.Perm) n [] e))
type_by_tells limit n t k ts le e = tells_unexpected (TypeFor n) limit (t ∷ ts) (starts_type n)

pub type_tells : (limit n : ℕ) (ts : List Token) → n ≤ limit → Tells (TypeFor n) limit ts (type_at ts)
unfolding type_at
type_tells limit n [] le = tells_unexpected (TypeFor n) limit [] (starts_type n)
type_tells limit n (t ∷ ts) le = type_by_tells limit n t t.kind ts le refl

-- the marks of a declaration
pub record DeclarationFor (n : ℕ) (d : Declaration) (ms : List Mark) : Type 0 where
  pub phrase : DeclarationPhrase
  pub means : declaration_meant phrase ≡ d
  pub spelled : declaration_marks n phrase ≡ ms

abbrev DeclarationParts : ℕ → Grammar Declaration
DeclarationParts n = Sequence (NameFor n) (λ x. Sequence (Sign n signs.Colon) (λ c. Sequence (TypeFor n) (λ t. Nothing (record { name = x; of = t.of; type_at = t.place }))))

declaration_of_parts : (n : ℕ) (d : Declaration) (ms : List Mark) → DeclarationParts n d ms → DeclarationFor n d ms
declaration_of_parts n d ms (x, a, b, e, ea, (c, a', b', e', (q, eq, eb), (t, a'', b'', e'', et, (ed, en)))) = record {
  phrase = record { name_at = x.place; text = x.name; colon_at = q; type_at = t.place; of = t.of };
  means = sym ed;
  spelled = sym (e ∙ rw (ea, e', eb, e'', et, en) refl);
}

pub starts_declaration : (n : ℕ) → Starts (DeclarationFor n) []
starts_declaration n =
    let w : DeclarationPhrase = record { name_at = somewhere; text = []; colon_at = somewhere; type_at = somewhere; of = types.Int } in
    record { value = declaration_meant w; more = declaration_marks n w; spelled = record { phrase = w; means = refl; spelled = refl } }

pub declaration_tells : (limit n : ℕ) (ts : List Token) → n ≤ limit → Tells (DeclarationFor n) limit ts (declaration_at ts)
unfolding declaration_at
declaration_tells limit n ts le =
    tells_as (DeclarationParts n) (DeclarationFor n) limit ts _ (declaration_of_parts n)
    (tells_sequence (NameFor n) _ limit ts (name_at ts) _ (λ x. starts_sequence (Sign n signs.Colon) _ (starts_sign n signs.Colon) (λ c. starts_sequence (TypeFor n) _ (starts_type n) (λ t. starts_nothing _))) (name_tells limit n ts le)
    (λ x us. tells_sequence (Sign n signs.Colon) _ limit us (expect signs.Colon us) _ (λ c. starts_sequence (TypeFor n) _ (starts_type n) (λ t. starts_nothing _)) (tells_expect n signs.Colon limit us le)
    (λ c vs. tells_sequence (TypeFor n) _ limit vs (type_at vs) _ (λ t. starts_nothing _) (type_tells limit n vs le)
    (λ t ws. tells_nothing limit ws _))))
