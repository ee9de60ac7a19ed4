-- What `next` finds.
use Rattle.std.proofs.Common.{ℕ, ◌<◌, ◌≤◌, List, [], ◌∷◌, ◌++◌, length, drop, ap, arith}
use Rattle.std.proofs.lemmas.List.{length-drop}
use Rattle.vx_sexp.specs.declared.token.Token.{Token}
use Rattle.vx_sexp.specs.declared.reading.Reading.{Reading}
use Rattle.vx_sexp.specs.Tokens.{Lexes}
use Rattle.vx_sexp.specs.First.{IsFirst}
use Rattle.vx_sexp.specs.Pieces.{Reached}
use Rattle.vx_sexp.proofs.Firsts.{shorter}
use Rattle.cs_serve.specs.declared.next.Next.{Next}
use Rattle.cs_serve.specs.declared.next.Next.TheVariants.{Ends, Waits, Bad}
use Rattle.cs_session.specs.Answering.{EndsAt}
use Rattle.cs_serve.specs.Next.{IsReady}

lexes_shorter : (bytes : List ℕ) (ts : List Token) (rest : List ℕ) → Lexes bytes ts rest → length rest ≤ length bytes
lexes_shorter bytes [] rest e = omega (arith, ap length e)
lexes_shorter bytes (t ∷ ts) rest e =
    let one = shorter e.1 in let more = lexes_shorter e.0 ts rest e.2 in omega arith

first_shorter : (bytes : List ℕ) (ts : List Token) (rest : List ℕ) → IsFirst bytes ts rest → length rest < length bytes
first_shorter bytes [] rest f = absurd (let none = f.one in cc)
first_shorter bytes (t ∷ ts) rest f =
    let one = shorter f.lexed.1 in let more = lexes_shorter f.lexed.0 ts rest f.lexed.2 in omega arith

-- a first s-expression takes a byte at least
pub ends_later : (n : ℕ) (bytes : List ℕ) → EndsAt n bytes → 0 < n
ends_later n bytes e =
    let less = first_shorter bytes e.1 (drop n bytes) e.2 in omega (arith, length-drop n bytes)

-- where nothing is looked at yet
pub ready_anew : (n : Next) (r : Reading) (bytes : List ℕ) → ((others : List ℕ) → Reached r others) → IsReady n r bytes
ready_anew (Ends n) r bytes new = new
ready_anew Waits r bytes new = λ more. new (bytes ++ more)
ready_anew Bad r bytes new = tt
