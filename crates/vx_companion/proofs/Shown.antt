-- The line of a certificate, as it is read.
use Rattle.std.proofs.Common.{◌≡◌, ℕ, zero, suc, ◌≤◌, ◌+◌, ◌==◌, ◌&&◌, Bool, true, false, List, [], ◌∷◌, length, refl, ap, ◌∙◌, sym, subst, if◌then◌else◌, arith}
use Rattle.std.proofs.lemmas.Grind.{common_steps}
use Rattle.std.proofs.lemmas.Bool.{and_parts}
use Rattle.vx_sexp.specs.declared.token.Token.{Token}
use Rattle.vx_sexp.specs.Characters.{is_blank}
use Rattle.vx_sexp.specs.Tokens.{Lexes, is_empty}
use Rattle.vx_sexp.specs.First.{IsFirst, after, fits, closes}
use Rattle.vx_sexp.specs.Scanning.{Next, Found, Unfinished, Bad, next, scan, move_of, token_at}
use Rattle.vx_sexp.specs.Finished.{finished, finished_at, finished_from, is_closed, closed_by, closed_at, closed_from}
use Rattle.vx_sexp.proofs.Backs.{starts_next}
use Rattle.vx_sexp.proofs.Firsts.{next_shorter}
use Rattle.vx_dialogue.proofs.Counts.{finished_first}
use Rattle.vx_companion.specs.Companion.{IsOneReply}

-- ---- the tokens of the first expression

abbrev tokens_by : Next → ℕ → (Token → List ℕ → List Token) → List Token
tokens_by (Found t rest) d go = t ∷ (if after d t == 0 then [] else go t rest)
tokens_by Unfinished d go = []
tokens_by (Bad rest) d go = []

abbrev tokens_for : ℕ → ℕ → List ℕ → List Token
tokens_for zero d bytes = []
tokens_for (suc n) d bytes = tokens_by (next bytes) d (λ t rest. tokens_for n (after d t) rest)

abbrev pub tokens_in : List ℕ → List Token
tokens_in bytes = tokens_for (length bytes) 0 bytes

none_left : (ts : List Token) → is_empty ts ≡ true → ts ≡ []
none_left [] e = refl
none_left (t ∷ ts) e = absurd (cc)

tokens_of : (ts : List Token) (n d : ℕ) (bytes rest : List ℕ) → length bytes ≤ n → Lexes bytes ts rest → closes d ts ≡ true → tokens_for n d bytes ≡ ts
tokens_of [] n d bytes rest h lexed c = absurd (cc)
tokens_of (t ∷ ts) zero d bytes rest h lexed c = absurd (let s = next_shorter bytes t lexed.0 (starts_next lexed.1) in omega arith)
tokens_of (t ∷ ts) (suc n) d bytes rest h lexed c =
    let is = starts_next lexed.1 in
    let s = next_shorter bytes t lexed.0 is in
    let parts = and_parts (fits d t) (if after d t == 0 then is_empty ts else closes (after d t) ts) c in
    ap (λ x. tokens_by x d (λ u r. tokens_for n (after d u) r)) is
    ∙ ap (λ us. t ∷ us) (behind (after d t == 0) parts.1 (λ e. tokens_of ts n (after d t) lexed.0 rest (omega arith) lexed.2 e))
  where
    behind : (b : Bool) → (if b then is_empty ts else closes (after d t) ts) ≡ true → (closes (after d t) ts ≡ true → tokens_for n (after d t) lexed.0 ≡ ts)
        → (if b then [] else tokens_for n (after d t) lexed.0) ≡ ts
    behind true e more = sym (none_left ts e)
    behind false e more = more e

pub tokens_are : (bytes : List ℕ) (tokens : List Token) (rest : List ℕ) → IsFirst bytes tokens rest → tokens_in bytes ≡ tokens
tokens_are bytes tokens rest e = tokens_of tokens (length bytes) 0 bytes rest (omega arith) e.lexed e.one

zero_is : (d : ℕ) → (d == 0) ≡ true → d ≡ 0
zero_is d e = grind (arith, common_steps)

-- ---- one whole expression

fed_closed : (n : ℕ) → closed_from n 0 (10 ∷ []) ≡ true
unfolding closed_from next scan move_of token_at is_blank
fed_closed zero = refl
fed_closed (suc n) = refl

closed_of : (ts : List Token) (n d : ℕ) (bytes : List ℕ) → length bytes ≤ n → Lexes bytes ts (10 ∷ []) → closes d ts ≡ true → closed_from n d bytes ≡ true
unfolding closed_from
closed_of [] n d bytes h lexed c = absurd (cc)
closed_of (t ∷ ts) zero d bytes h lexed c = absurd (let s = next_shorter bytes t lexed.0 (starts_next lexed.1) in omega arith)
closed_of (t ∷ ts) (suc n) d bytes h lexed c =
    let is = starts_next lexed.1 in
    let s = next_shorter bytes t lexed.0 is in
    let parts = and_parts (fits d t) (if after d t == 0 then is_empty ts else closes (after d t) ts) c in
    ap (λ x. closed_by x d bytes (λ u r. closed_from n (after d u) r)) is
    ∙ ap (λ b. b && closed_from n (after d t) lexed.0) parts.0
    ∙ behind (after d t == 0) refl parts.1 (λ e. closed_of ts n (after d t) lexed.0 (omega arith) lexed.2 e)
  where
    at_end : (us : List Token) (k : ℕ) → us ≡ [] → k ≡ 0 → Lexes lexed.0 us (10 ∷ []) → closed_from n k lexed.0 ≡ true
    at_end us k none zero_open left =
        let is : 10 ∷ [] ≡ lexed.0 = subst (λ x. Lexes lexed.0 x (10 ∷ [])) none left in
        ap (λ x. closed_from n k x) (sym is) ∙ (ap (λ x. closed_from n x (10 ∷ [])) zero_open ∙ fed_closed n)

    behind : (b : Bool) → (after d t == 0) ≡ b → (if b then is_empty ts else closes (after d t) ts) ≡ true → (closes (after d t) ts ≡ true → closed_from n (after d t) lexed.0 ≡ true)
        → closed_from n (after d t) lexed.0 ≡ true
    behind true z e more = at_end ts (after d t) (none_left ts e) (zero_is (after d t) z) lexed.2
    behind false z e more = more e

none_fed : finished (10 ∷ []) ≡ 0
unfolding finished finished_at finished_from next scan move_of token_at is_blank
none_fed = refl

first_closed : (line : List ℕ) (tokens : List Token) → IsFirst line tokens (10 ∷ []) → is_closed line ≡ true
unfolding is_closed closed_at
first_closed line tokens e = closed_of tokens (length line) 0 line (omega arith) e.lexed e.one

pub line_one : (line : List ℕ) (tokens : List Token) → IsFirst line tokens (10 ∷ []) → IsOneReply line
line_one line tokens e = (finished_first line tokens (10 ∷ []) e.lexed e.one ∙ ap (λ n. 1 + n) none_fed, first_closed line tokens e)
