-- The invariants of a loop that are spelled are read.
use Rattle.std.proofs.Common.{◌≡◌, ℕ, zero, suc, ◌+◌, ◌-◌, ◌≤◌, List, [], ◌∷◌, ◌++◌, Option, Some, None, true, false, Ok, length, refl, sym, ap, ◌∙◌, append_assoc, arith, leb, length-append}
use Rattle.std.proofs.lemmas.List.{append-nil}
use Rattle.std.proofs.lemmas.Bool.{le-leb}
use Rattle.vx_ast.specs.declared.Place.{Place}
use Rattle.vx_ast.specs.Written.{Expr, Exprs}
use Rattle.vx_tokens.specs.declared.token.Symbol.TheVariants as signs
use Rattle.vx_tokens.specs.Tokens.{Token, symbol}
use Rattle.vx_grammar.specs.Grammar.{Mark, mark, marks, meant, tokens_of}
use Rattle.vx_grammar.specs.Statements.{semi_marks, InvariantsPhrase, no_invariants, invariant, invariants_meant, InvariantsStand, invariants_marks, BlockPhrase, block, block_marks, row_marks}
use Rattle.vx_grammar.specs.Reading.{Read, is_symbol, run, choice_at, below}
use Rattle.vx_grammar.specs.StmtReading.{skip_semicolon, clause_at, invariant_turn, invariants_at}
use Rattle.vx_grammar.specs.Laws.{Within}
use Rattle.vx_grammar.proofs.Lists.{tokens-append_more, within_front, within_back, Ends}
use Rattle.vx_grammar.proofs.Complete.{is_read}
use Rattle.vx_grammar.proofs.InvariantsTold.{invariant_list, invariants_same}

abbrev Toks : List Mark → List Token → List Token
Toks ms us = tokens_of ms ++ us

list_of : List Expr → List Token → Read (List Expr)
list_of es ts = Ok (es, ts)

size : InvariantsPhrase → ℕ
size no_invariants = 0
size (invariant p e semi rest) = 1 + size rest

size_long : (n k : ℕ) (w : InvariantsPhrase) (ts : List Token) → size w ≤ length (Toks (invariants_marks n k w) ts)
unfolding size
size_long n k no_invariants ts = omega arith
size_long n k (invariant p e semi rest) ts =
    let l = ap length (tokens-append_more (marks (n + k) e) (semi_marks n semi ++ invariants_marks n (k + 1) rest) ts) in
    let l2 = ap length (tokens-append_more (semi_marks n semi) (invariants_marks n (k + 1) rest) ts) in
    let a = length-append (tokens_of (marks (n + k) e)) (Toks (semi_marks n semi ++ invariants_marks n (k + 1) rest) ts) in
    let b = length-append (tokens_of (semi_marks n semi)) (Toks (invariants_marks n (k + 1) rest) ts) in
    let h = size_long n (k + 1) rest ts in
    omega (arith, l, l2, a, b, h)

-- what may follow an invariant: no expression goes on, and no semicolon stands there
abbrev ClauseOver : List Token → Type 0
ClauseOver [] = Unit {0}
ClauseOver (t ∷ ts) = Ends 8 (t ∷ ts) × (is_symbol signs.Semicolon t.kind ≡ false)

clause_ends : (ts : List Token) → ClauseOver ts → Ends 8 ts
clause_ends [] h = tt
clause_ends (t ∷ ts) h = h.0

semi_ends : (n : ℕ) (semi : Option Place) (ts : List Token) → ClauseOver ts → Ends 8 (Toks (semi_marks n semi) ts)
semi_ends n None ts h = clause_ends ts h
semi_ends n (Some p) ts h = omega arith

semi_skips : (n : ℕ) (semi : Option Place) (ts : List Token) → ClauseOver ts → skip_semicolon (Toks (semi_marks n semi) ts) ≡ ts
semi_skips n None [] h = refl
semi_skips n None (t ∷ ts) h = rw h.1 refl
semi_skips n (Some p) ts h = refl

row_over : (n k : ℕ) (w : InvariantsPhrase) (o : Place) (ts : List Token) → (let opened = mark (n + 1) o (symbol signs.OpenBrace) in ClauseOver (Toks (invariants_marks n k w) (opened.token ∷ ts)))
row_over n k no_invariants o ts = (omega arith, refl)
row_over n k (invariant p e semi rest) o ts = (omega arith, refl)

row_read : (limit n room : ℕ) (w : InvariantsPhrase) (before : List Expr) (k : ℕ) (o : Place) (ts : List Token) → n + room ≡ limit → length before ≡ k → Within limit (invariants_marks n k w) → InvariantsStand w → (most : ℕ) → size w ≤ most
    → (let opened = mark (n + 1) o (symbol signs.OpenBrace) in run (invariant_turn room) most before (Toks (invariants_marks n k w) (opened.token ∷ ts)) ≡ list_of (before ++ invariant_list w) (opened.token ∷ ts))
unfolding run invariant_turn clause_at size list_of
row_read limit n room no_invariants before k o ts e ek h st zero le = ap (λ l. list_of l ((mark (n + 1) o (symbol signs.OpenBrace)).token ∷ ts)) (sym (append-nil before))
row_read limit n room no_invariants before k o ts e ek h st (suc most) le = ap (λ l. list_of l ((mark (n + 1) o (symbol signs.OpenBrace)).token ∷ ts)) (sym (append-nil before))
row_read limit n room (invariant p w semi rest) before k o ts e ek h st zero le = absurd (omega (arith, le))
row_read limit n room (invariant p w semi rest) before k o ts e ek h st (suc most) le =
    let opened = mark (n + 1) o (symbol signs.OpenBrace) in
    let others = invariants_marks n (k + 1) rest in
    let tail = Toks others (opened.token ∷ ts) in
    let over : ClauseOver tail = row_over n (k + 1) rest o ts in
    let fit : k ≤ room = omega (arith, h.0, e) in
    let b : leb k room ≡ true = le-leb _ _ fit in
    let hw = within_front limit (marks (n + k) w) (semi_marks n semi ++ others) h.1 in
    let ho = within_back limit (semi_marks n semi) others (within_back limit (marks (n + k) w) (semi_marks n semi ++ others) h.1) in
    let list : tokens_of (marks (n + k) w ++ (semi_marks n semi ++ others)) ++ opened.token ∷ ts ≡ Toks (marks (n + k) w) (Toks (semi_marks n semi) tail) =
    tokens-append_more (marks (n + k) w) (semi_marks n semi ++ others) (opened.token ∷ ts) ∙ ap (λ l. Toks (marks (n + k) w) l) (tokens-append_more (semi_marks n semi) others (opened.token ∷ ts)) in
    let clause : choice_at (below (room - k)) (Toks (marks (n + k) w) (Toks (semi_marks n semi) tail)) ≡ Ok (meant w, Toks (semi_marks n semi) tail) = is_read limit (n + k) (room - k) w (Toks (semi_marks n semi) tail) (omega (arith, fit, e)) hw st.0 (semi_ends n semi tail over) in
    let one = length-append before (meant w ∷ []) in
    let go = row_read limit n room rest (before ++ meant w ∷ []) (k + 1) o ts e (one ∙ ap (λ x. x + 1) ek) ho st.1 most (omega (arith, le)) in
    rw (list, ek, b, clause, semi_skips n semi tail over) (go ∙ ap (λ l. list_of l (opened.token ∷ ts)) (append_assoc before (meant w ∷ []) (invariant_list rest)))

abbrev opening : BlockPhrase → Place
opening (block o r c) = o

abbrev inside_block : ℕ → BlockPhrase → List Mark
inside_block n (block o r c) = row_marks (n + 1) r ++ mark (n + 1) c (symbol signs.CloseBrace) ∷ []

block_opens : (n : ℕ) (b : BlockPhrase) → block_marks n b ≡ mark (n + 1) (opening b) (symbol signs.OpenBrace) ∷ inside_block n b
block_opens n (block o r c) = refl

pub invariants_are_read : (limit n room : ℕ) (w : InvariantsPhrase) (b : BlockPhrase) (ts : List Token) → n + room ≡ limit → Within limit (invariants_marks n 0 w) → InvariantsStand w → (let rest = Toks (block_marks n b) ts in invariants_at room (Toks (invariants_marks n 0 w) rest) ≡ Ok (invariants_meant w, rest))
unfolding invariants_at list_of
invariants_are_read limit n room w b ts e h st =
    let opened = mark (n + 1) (opening b) (symbol signs.OpenBrace) in
    let inner = Toks (inside_block n b) ts in
    let list : Toks (block_marks n b) ts ≡ opened.token ∷ inner = ap (λ l. Toks l ts) (block_opens n b) in
    let all = Toks (invariants_marks n 0 w) (opened.token ∷ inner) in
    rw (list, row_read limit n room w [] 0 (opening b) inner e refl h st (length all) (size_long n 0 w (opened.token ∷ inner))) (ap (λ (l : Exprs). let a : Read Exprs = Ok (l, opened.token ∷ inner) in a) (invariants_same w))
