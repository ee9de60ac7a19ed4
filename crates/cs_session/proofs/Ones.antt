-- When a text is one s-expression.
use Rattle.std.proofs.Common.{◌≡◌, ℕ, ◌≤◌, nat_eq, false, true≢false, List, [], length, drop, ap, ◌∙◌, sym, eq-eqb, arith}
use Rattle.std.proofs.lemmas.List.{length-drop}
use Rattle.vx_sexp.specs.declared.token.Token.{Token}
use Rattle.vx_sexp.specs.First.{IsFirst}
use Rattle.vx_sexp.proofs.Exact.{first_is_one}
use Rattle.cs_session.specs.Replies.{IsOne}

-- the first expression doesn't take all bytes: then they aren't one
pub takes_fewer : (text : List ℕ) (n : ℕ) (tokens : List Token) → n ≤ length text → nat_eq n (length text) ≡ false → IsFirst text tokens (drop n text) → IsOne text → ⊥
takes_fewer text n tokens within other first one =
    let rest : drop n text ≡ [] = (first_is_one text tokens one.0 (drop n text) [] first one.1).1 in
    let none = ap length rest in
    let long = length-drop n text in
    let same : n ≡ length text = omega arith in
    true≢false (sym (eq-eqb n (length text) same) ∙ other)
