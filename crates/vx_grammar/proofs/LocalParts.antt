-- Reading names, and what nests between two signs, looks no further than the token at which it stops.
use Rattle.std.proofs.Common.{◌≡◌, List, [], ◌∷◌, Ok, Err, refl, Bool, true, false, cond}
use Rattle.vx_ast.specs.Written.{placed}
use Rattle.vx_tokens.specs.declared.token.Symbol.{Symbol}
use Rattle.vx_tokens.specs.Tokens.{Token, Kind, name, number, word, symbol}
use Rattle.vx_grammar.specs.Reading.{◌>>=◌, Read, Unexpected, expect, is_symbol, name_by, name_at}
use Rattle.vx_grammar.proofs.Bracketed.{bracketed_by}
use Rattle.vx_grammar.proofs.Local.{Local, local_unexpected, local_end_unexpected, local_return, local_token, local_then, local_expect}

name_by_local : (t : Token) (k : Kind) (ts : List Token) → t.kind ≡ k → Local (t ∷ ts) (name_by t k ts) name_at
unfolding name_at
name_by_local t (name x) ts e = local_token t ts (Ok (placed t.place x, ts)) (λ l. Ok (placed t.place x, l)) name_at (λ l. rw e refl) (local_return ts (placed t.place x))
name_by_local t (number x) ts e = local_unexpected t ts name_at (λ more. rw e refl) (λ p more. refl) (λ p more. refl)
name_by_local t (word x) ts e = local_unexpected t ts name_at (λ more. rw e refl) (λ p more. refl) (λ p more. refl)
name_by_local t (symbol x) ts e = local_unexpected t ts name_at (λ more. rw e refl) (λ p more. refl) (λ p more. refl)

pub name_local : (ts : List Token) → Local ts (name_at ts) name_at
unfolding name_at
name_local [] = local_end_unexpected name_at refl
name_local (t ∷ ts) = name_by_local t t.kind ts refl

bracket_by_local : {A : Type 0} (s e : Symbol) (go other : List Token → List Token → Read A) → ((here ts : List Token) (heres : List Token → List Token) → Local ts (go here ts) (λ l. other (heres l) l)) → (t : Token) (us : List Token) (b : Bool) → is_symbol s t.kind ≡ b
    → (let r : Read Token = cond b (Ok (t, us)) (Err (Unexpected (t ∷ us))) in Local (t ∷ us) (r >>= λ opened. go (t ∷ us) opened.1 >>= λ y. expect e y.1 >>= λ close. Ok (y.0, close.1)) (bracketed_by s e other))
unfolding expect
bracket_by_local s e go other h t us true q =
    local_token t us (go (t ∷ us) us >>= λ y. expect e y.1 >>= λ close. Ok (y.0, close.1)) (λ l. other (t ∷ l) l >>= λ y. expect e y.1 >>= λ close. Ok (y.0, close.1)) (bracketed_by s e other) (λ l. rw q refl)
    (local_then us (go (t ∷ us) us) (λ l. other (t ∷ l) l) _ _ (h (t ∷ us) us (λ l. t ∷ l)) (λ y vs. local_then vs (expect e vs) (expect e) _ _ (local_expect e vs) (λ c ws. local_return ws y)))
bracket_by_local s e go other h t us false q = local_unexpected t us (bracketed_by s e other) (λ more. rw q refl) (λ p more. refl) (λ p more. refl)

pub bracket_local : {A : Type 0} (s e : Symbol) (go other : List Token → List Token → Read A) → ((here ts : List Token) (heres : List Token → List Token) → Local ts (go here ts) (λ l. other (heres l) l)) → (ts : List Token) → Local ts (bracketed_by s e go ts) (bracketed_by s e other)
unfolding expect
bracket_local s e go other h [] = local_end_unexpected (bracketed_by s e other) refl
bracket_local s e go other h (t ∷ us) = bracket_by_local s e go other h t us (is_symbol s t.kind) refl
