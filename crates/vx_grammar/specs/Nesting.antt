-- How a part is read where it may nest, and where it may not.
use Rattle.std.proofs.Common.{◌≡◌, ℕ, ◌+◌, List, Err, ap, ◌∙◌, add-one}
use Rattle.vx_tokens.specs.Tokens.{Token}
use Rattle.vx_grammar.specs.StmtReading.{StmtPart, stmt_part, stmts_below}
use Rattle.vx_grammar.specs.Reading.{Part, TooDeep, part_at, below}

pub nests : (room less : ℕ) (p : Part) (here ts : List Token) → room ≡ less + 1 → below room p here ts ≡ part_at (below less) p ts
unfolding below
nests room less p here ts e = ap (λ n. below n p here ts) (e ∙ add-one less)

pub is_full : (room : ℕ) (p : Part) (here ts : List Token) → room ≡ 0 → below room p here ts ≡ Err (TooDeep here)
unfolding below
is_full room p here ts e = ap (λ n. below n p here ts) e

pub stmt_nests : (room less : ℕ) (p : StmtPart) (here ts : List Token) → room ≡ less + 1 → stmts_below room p here ts ≡ stmt_part less (stmts_below less) p ts
unfolding stmts_below
stmt_nests room less p here ts e = ap (λ n. stmts_below n p here ts) (e ∙ add-one less)

pub stmt_is_full : (room : ℕ) (p : StmtPart) (here ts : List Token) → room ≡ 0 → stmts_below room p here ts ≡ Err (TooDeep here)
unfolding stmts_below
stmt_is_full room p here ts e = ap (λ n. stmts_below n p here ts) e
