-- Items that are read one after another.
use Rattle.std.proofs.Common.{◌≡◌, ◌++◌, ◌+◌, ℕ, List, [], ◌∷◌, refl, ap, ◌∙◌, sym, subst, append_assoc, length-append, arith, true}
use Rattle.std.proofs.lemmas.List.{length_push}
use Rattle.vx_ends.specs.declared.piece.Piece.{Piece}
use Rattle.vx_ends.specs.declared.piece.Piece.TheVariants.{Sent, Got}
use Rattle.vx_ends.specs.Dialogue.{sent, Grows, AreGot, GetsOn}
use Rattle.vx_ends.proofs.Dialogues.{sent-append}
use Rattle.vx_sexp.specs.declared.token.Token.{Token}
use Rattle.vx_sexp.specs.Tokens.{Lexes}
use Rattle.vx_sexp.specs.First.{IsFirst}
use Rattle.vx_sexp.proofs.Counts.{starts_more}
use Rattle.vx_smt_meaning.specs.Replies.{Items}
use Rattle.vx_dialogue.specs.declared.item.Wanted.{Wanted}
use Rattle.vx_dialogue.specs.declared.item.Wanted.TheVariants as wanted
use Rattle.vx_dialogue.specs.Items.{IsItem, ShortItems, Keeps, is_lawful, ReadsItem}
use Rattle.vx_dialogue.specs.Hears.{all_lawful, ReadsSuccesses}

pub append_none : {A : Type 0} (xs : List A) → xs ++ [] ≡ xs
append_none [] = refl
append_none (x ∷ xs) = ap (λ l. x ∷ l) (append_none xs)

lexes_longer : (bytes more : List ℕ) (ts : List Token) (rest : List ℕ) → Lexes bytes ts rest → Lexes (bytes ++ more) ts (rest ++ more)
lexes_longer bytes more [] rest e = ap (λ x. x ++ more) e
lexes_longer bytes more (t ∷ ts) rest e = (e.0 ++ more, starts_more more e.1, lexes_longer e.0 more ts rest e.2)

pub first_longer : (bytes more : List ℕ) (ts : List Token) (rest : List ℕ) → IsFirst bytes ts rest → IsFirst (bytes ++ more) ts (rest ++ more)
first_longer bytes more ts rest e = record { lexed = lexes_longer bytes more ts rest e.lexed; one = e.one }

pub items_longer : (bytes more : List ℕ) (items : List (List Token)) (rest : List ℕ) → Items bytes items rest → Items (bytes ++ more) items (rest ++ more)
items_longer bytes more [] rest e = ap (λ x. x ++ more) e
items_longer bytes more (item ∷ items) rest e = (e.0 ++ more, first_longer bytes more item e.0 e.1, items_longer e.0 more items rest e.2)

pub items_more : (bytes : List ℕ) (items : List (List Token)) (mid : List ℕ) (item : List Token) (rest : List ℕ) → Items bytes items mid → IsFirst mid item rest → Items bytes (items ++ item ∷ []) rest
items_more bytes [] mid item rest e f = (rest, subst (λ x. IsFirst x item rest) e f, refl)
items_more bytes (i ∷ items) mid item rest e f = (e.0, e.1, items_more e.0 items mid item rest e.2 f)

-- ---- the same of items that are short

pub item_longer : (bytes more : List ℕ) (item : List Token) (rest : List ℕ) → IsItem bytes item rest → IsItem (bytes ++ more) item (rest ++ more)
item_longer bytes more item rest e =
    let all = length-append bytes more in
    let behind = length-append rest more in
    let short = e.short in
    record { first = first_longer bytes more item rest e.first; short = omega arith }

pub short_longer : (bytes more : List ℕ) (items : List (List Token)) (rest : List ℕ) → ShortItems bytes items rest → ShortItems (bytes ++ more) items (rest ++ more)
short_longer bytes more [] rest e = ap (λ x. x ++ more) e
short_longer bytes more (item ∷ items) rest e = (e.0 ++ more, item_longer bytes more item e.0 e.1, short_longer e.0 more items rest e.2)

short_more : (bytes : List ℕ) (items : List (List Token)) (mid : List ℕ) (item : List Token) (rest : List ℕ) → ShortItems bytes items mid → IsItem mid item rest → ShortItems bytes (items ++ item ∷ []) rest
short_more bytes [] mid item rest e f = (rest, subst (λ x. IsItem x item rest) e f, refl)
short_more bytes (i ∷ items) mid item rest e f = (e.0, e.1, short_more e.0 items mid item rest e.2 f)

pub short_join : (bytes : List ℕ) (xs ys : List (List Token)) (mid rest : List ℕ) → ShortItems bytes xs mid → ShortItems mid ys rest → ShortItems bytes (xs ++ ys) rest
short_join bytes [] ys mid rest e f = subst (λ x. ShortItems x ys rest) e f
short_join bytes (x ∷ xs) ys mid rest e f = (e.0, e.1, short_join e.0 xs ys mid rest e.2 f)

pub items_of : (bytes : List ℕ) (items : List (List Token)) (rest : List ℕ) → ShortItems bytes items rest → Items bytes items rest
items_of bytes [] rest e = e
items_of bytes (item ∷ items) rest e = (e.0, e.1.first, items_of e.0 items rest e.2)

lawful_more : (w : Wanted) (items : List (List Token)) (item : List Token) → all_lawful w items → is_lawful w item ≡ true → all_lawful w (items ++ item ∷ [])
lawful_more w [] item e f = (f, tt)
lawful_more w (i ∷ items) item e f = (e.0, lawful_more w items item e.1 f)

-- The bytes got and not read go on with an item.
pub items_on : (got0 unread0 got1 unread1 got2 unread2 : List ℕ) (more : List ℕ) (items : List (List Token)) (item : List Token) → got1 ≡ got0 ++ more → ShortItems (unread0 ++ more) items unread1
    → ReadsItem got1 unread1 got2 unread2 item → (all : List ℕ) × (got2 ≡ got0 ++ all) × ShortItems (unread0 ++ all) (items ++ item ∷ []) unread2
items_on got0 unread0 got1 unread1 got2 unread2 more items item is before reads = (
  more ++ reads.0,
  reads.1 ∙ rw (is, append_assoc) refl,
  subst (λ x. ShortItems x (items ++ item ∷ []) unread2) (append_assoc unread0 more reads.0)
      (short_more ((unread0 ++ more) ++ reads.0) items (unread1 ++ reads.0) item unread2 (short_longer (unread0 ++ more) reads.0 items unread1 before) reads.2),
)

pub successes_none : (got unread : List ℕ) → ReadsSuccesses 0 got unread got unread
successes_none got unread = ([], sym (append_none got), [], sym (append_none unread), refl, tt)

pub successes_on : (n : ℕ) (got0 unread0 got1 unread1 got2 unread2 : List ℕ) (item : List Token) → ReadsSuccesses n got0 unread0 got1 unread1
    → ReadsItem got1 unread1 got2 unread2 item → is_lawful wanted.Success item ≡ true → ReadsSuccesses (n + 1) got0 unread0 got2 unread2
successes_on n got0 unread0 got1 unread1 got2 unread2 item before reads lawful =
    let on = items_on got0 unread0 got1 unread1 got2 unread2 before.0 before.2 item before.1 before.3 reads in
    (on.0, on.1, before.2 ++ item ∷ [], on.2, length_push before.2 item ∙ ap (λ x. x + 1) before.4, lawful_more wanted.Success before.2 item before.5 lawful)

pub items_join : (bytes : List ℕ) (xs ys : List (List Token)) (mid rest : List ℕ) → Items bytes xs mid → Items mid ys rest → Items bytes (xs ++ ys) rest
items_join bytes [] ys mid rest e f = subst (λ x. Items x ys rest) e f
items_join bytes (x ∷ xs) ys mid rest e f = (e.0, e.1, items_join e.0 xs ys mid rest e.2 f)

-- ---- pieces that are got

pub none_sent : (xs : List Piece) → AreGot xs → sent xs ≡ []
none_sent [] e = refl
none_sent (Sent b ∷ xs) e = absurd e
none_sent (Got b ∷ xs) e = none_sent xs e

pub sent_by_gets : (old new : List Piece) → GetsOn old new → sent new ≡ sent old
sent_by_gets old new e = ap sent e.1 ∙ (sent-append old e.0 ∙ (ap (λ x. sent old ++ x) (none_sent e.0 e.2) ∙ append_none (sent old)))

pub grows_by_gets : (old new : List Piece) → GetsOn old new → Grows old new
grows_by_gets old new e = λ front begins. record {
  rest = begins.rest ++ e.0;
  is = e.1 ∙ (ap (λ x. x ++ e.0) begins.is ∙ append_assoc front begins.rest e.0);
}

pub keeps_none : (got unread : List ℕ) → Keeps got unread got unread
keeps_none got unread = ([], sym (append_none got), sym (append_none unread))

pub keeps_on : (g0 u0 g1 u1 g2 u2 : List ℕ) → Keeps g0 u0 g1 u1 → Keeps g1 u1 g2 u2 → Keeps g0 u0 g2 u2
keeps_on g0 u0 g1 u1 g2 u2 e f = (
  e.0 ++ f.0,
  f.1 ∙ (ap (λ x. x ++ f.0) e.1 ∙ append_assoc g0 e.0 f.0),
  f.2 ∙ (ap (λ x. x ++ f.0) e.2 ∙ append_assoc u0 e.0 f.0),
)
