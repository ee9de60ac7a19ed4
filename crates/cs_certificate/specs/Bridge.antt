-- Numbered literals and clauses as those of a certificate.
use Rattle.std.specs.Prelude.{◌≡◌, ℕ, ◌<◌, Bool, true, false, List, map, length, slice_index_or}
use Rattle.vx_terms.specs.Terms.{Term, Truth}
use Rattle.vx_terms.specs.Interpretations.{Each}
use Rattle.cs_certificate.specs.Certificate.{Yes, No, Refutes}
use Rattle.cs_certificate.specs.Certificate as certificate
use Rattle.cs_certificate.specs.declared.literal.Literal.{Literal}
use Rattle.cs_certificate.specs.declared.literal.Clause.{Clause}
use Rattle.cs_certificate.specs.Hints.{refutes}

abbrev pub term_at : List Term → ℕ → Term
term_at terms n = slice_index_or terms n (Truth true)

abbrev pub signed : Bool → Term → certificate.Literal
signed true t = Yes t
signed false t = No t

abbrev pub view : List Term → Literal → certificate.Literal
view terms l = signed l.positive (term_at terms l.number)

abbrev pub views : List Term → List Literal → certificate.Clause
views terms ls = map (view terms) ls

abbrev pub state : List Term → List Clause → certificate.State
state terms cs = record { terms = terms; clauses = map (λ c. views terms c.literals.items) cs }

abbrev pub IsNumbered : List Term → Literal → Type 0
IsNumbered terms l = l.number < length terms

-- each term has one number
abbrev pub AreDistinct : List Term → Type 0
AreDistinct terms = (m n : ℕ) → m < length terms → n < length terms → term_at terms m ≡ term_at terms n → m ≡ n

abbrev pub Law : Type 0
Law =
    (terms : List Term) (clauses : List Clause) (assumed : List Literal) (hints : List ℕ) → AreDistinct terms →
    Each (IsNumbered terms) assumed → Each (λ c. Each (IsNumbered terms) c.literals.items) clauses →
    refutes clauses assumed hints ≡ true → Refutes (state terms clauses) (views terms assumed) hints

-- and the other way round
abbrev pub Converse : Type 0
Converse =
    (terms : List Term) (clauses : List Clause) (assumed : List Literal) (hints : List ℕ) → AreDistinct terms →
    Each (IsNumbered terms) assumed → Each (λ c. Each (IsNumbered terms) c.literals.items) clauses →
    Refutes (state terms clauses) (views terms assumed) hints → refutes clauses assumed hints ≡ true
