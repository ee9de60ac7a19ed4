-- How many expressions are finished in commands and in items.
use Rattle.std.proofs.Common.{◌≡◌, ◌++◌, ◌+◌, ◌-◌, ◌<◌, ◌≤◌, ◌==◌, ◌&&◌, ◌⊎◌, inl, inr, not, nat_le, drop, ℕ, ℤ, pos, negsuc, zero, suc, Bool, true, false, List, [], ◌∷◌, codes, length, refl, ap, ◌∙◌, sym, append_assoc, if◌then◌else◌, arith}
use Rattle.std.proofs.lemmas.Grind.{common_steps}
use Rattle.std.proofs.lemmas.Bool.{and_parts}
use Rattle.vx_sexp.specs.declared.token.Kind.{Kind}
use Rattle.vx_sexp.specs.declared.token.Kind.TheVariants as kind
use Rattle.vx_sexp.specs.declared.token.Token.{Token}
use Rattle.vx_sexp.specs.declared.token.Token.TheVariants.{Open, Close, Atom}
use Rattle.vx_sexp.specs.Tokens.{Lexes, is_empty}
use Rattle.vx_sexp.specs.declared.reader.SexpFault.{SexpFault}
use Rattle.vx_sexp.specs.declared.reader.SexpFault.TheVariants as fault
use Rattle.vx_sexp.specs.First.{CutFaults, NextIs, after, fits, closes, opens, depth}
use Rattle.vx_sexp.specs.Scanning.{next, Unfinished, Bad}
use Rattle.vx_sexp.specs.Finished.{counted, finished_at, finished}
use Rattle.vx_sexp.proofs.Backs.{starts_next}
use Rattle.vx_sexp.proofs.Counts.{finished_step, finished_stop, finished_bad}
use Rattle.vx_terms.specs.Sorts.{Sort}
use Rattle.vx_terms.specs.Terms.{Term, Truth, Number, Part, Constant, Apply, Not, Binary, Ite, AllOf, SomeOf, Terms, NoTerms, MoreTerms}
use Rattle.vx_smt_meaning.specs.Commands.{Command, SetOption, SetLogic, DeclareSort, DeclareFun, Assert, Push, Pop, CheckSat, GetProof, Exit}
use Rattle.vx_smt_meaning.specs.Words.{numeral, decimal, sort_word, symbol_word, operator_word, truth_word, word, listed, signed_tokens, quotient_tokens, term_tokens, terms_tokens, sorts_tokens, command_tokens}
use Rattle.vx_smt_meaning.specs.Names.{AreCommands}
use Rattle.vx_smt_meaning.specs.Replies.{Items}
use Rattle.vx_smt_meaning.specs.Spelled.{Spells}
use Rattle.vx_smt_text.specs.Text.{commands_text}
use Rattle.vx_smt_text.proofs.Back.{commands_back}

none_of : (n : ℕ) → (n == 0) ≡ true → n ≡ 0
none_of n e = grind (arith, common_steps)

some_of : (n : ℕ) → 0 < n → (n == 0) ≡ false
some_of n e = grind (arith, common_steps)

plus_none : (n : ℕ) → 0 + n ≡ n
plus_none n = omega arith

-- ---- a first expression is one

step_one : (d : ℕ) (t : Token) (ts : List Token) (b rest : List ℕ) (z : Bool) → (after d t == 0) ≡ z → fits d t ≡ true → Lexes b ts rest
    → (if z then is_empty ts else closes (after d t) ts) ≡ true → (closes (after d t) ts ≡ true → finished_at (after d t) b ≡ 1 + finished_at 0 rest)
    → counted d t (finished_at (after d t) b) ≡ 1 + finished_at 0 rest
step_one d t [] b rest true e fit lexed c later =
    let none : after d t ≡ 0 = none_of (after d t) e in
    let same : b ≡ rest = sym lexed in
    rw (fit, e) (ap (λ n. 1 + finished_at n b) none ∙ ap (λ x. 1 + finished_at 0 x) same)
step_one d t (u ∷ ts) b rest true e fit lexed c later = absurd (cc)
step_one d t ts b rest false e fit lexed c later = rw (fit, e) (plus_none (finished_at (after d t) b) ∙ later c)

finished_one : (d : ℕ) (ts : List Token) (bytes rest : List ℕ) → Lexes bytes ts rest → closes d ts ≡ true → finished_at d bytes ≡ 1 + finished_at 0 rest
finished_one d [] bytes rest lexed c = absurd (cc)
finished_one d (t ∷ ts) bytes rest lexed c =
    let parts = and_parts (fits d t) (if after d t == 0 then is_empty ts else closes (after d t) ts) c in
    finished_step d bytes t lexed.0 (starts_next lexed.1)
    ∙ step_one d t ts lexed.0 rest (after d t == 0) refl parts.0 lexed.2 parts.1 (λ h. finished_one (after d t) ts lexed.0 rest lexed.2 h)

pub finished_first : (bytes : List ℕ) (ts : List Token) (rest : List ℕ) → Lexes bytes ts rest → closes 0 ts ≡ true → finished bytes ≡ 1 + finished rest
unfolding finished
finished_first bytes ts rest lexed c = finished_one 0 ts bytes rest lexed c

pub finished_items : (items : List (List Token)) (bytes rest : List ℕ) → Items bytes items rest → finished bytes ≡ length items + finished rest
finished_items [] bytes rest e = let h = ap finished e in omega arith
finished_items (item ∷ items) bytes rest e =
    let h = finished_first bytes item e.0 e.1.lexed e.1.one in
    let k = finished_items items e.0 rest e.2 in
    omega arith

-- ---- where the first one isn't finished, none is

unfinished_at : (d : ℕ) (ts : List Token) (bytes rest : List ℕ) → Lexes bytes ts rest → opens d ts ≡ true → next rest ≡ Unfinished → finished_at d bytes ≡ 0
unfinished_at d [] bytes rest lexed c stop = finished_stop d bytes (ap next (sym lexed) ∙ stop)
unfinished_at d (t ∷ ts) bytes rest lexed c stop =
    let parts = and_parts (fits d t && not (after d t == 0)) (opens (after d t) ts) c in
    let more = and_parts (fits d t) (not (after d t == 0)) parts.0 in
    finished_step d bytes t lexed.0 (starts_next lexed.1)
    ∙ by_end (after d t == 0) refl more.0 more.1 (unfinished_at (after d t) ts lexed.0 rest lexed.2 parts.1 stop)
  where
    by_end : (z : Bool) → (after d t == 0) ≡ z → fits d t ≡ true → not (after d t == 0) ≡ true → finished_at (after d t) lexed.0 ≡ 0 → counted d t (finished_at (after d t) lexed.0) ≡ 0
    by_end true e fit open_yet later = absurd (cc)
    by_end false e fit open_yet later = rw (fit, e) (plus_none (finished_at (after d t) lexed.0) ∙ later)

pub finished_none : (ts : List Token) (bytes rest : List ℕ) → Lexes bytes ts rest → opens 0 ts ≡ true → next rest ≡ Unfinished → finished bytes ≡ 0
unfolding finished
finished_none ts bytes rest lexed c stop = unfinished_at 0 ts bytes rest lexed c stop

-- nor where what comes next is no token, or closes a list where none is open
bad_at : (d : ℕ) (ts : List Token) (bytes rest bad : List ℕ) → Lexes bytes ts rest → opens d ts ≡ true
    → (next rest ≡ Bad bad) ⊎ ((depth d ts ≡ 0) × NextIs Close rest bad) → finished_at d bytes ≡ 0
bad_at d [] bytes rest bad lexed c (inl stop) = finished_bad d bytes bad (ap next (sym lexed) ∙ stop)
bad_at d [] bytes rest bad lexed c (inr close) =
    let fit : nat_le 1 d ≡ false = let none = close.0 in grind (arith, common_steps) in
    finished_step d bytes Close close.1.0 (ap next (sym lexed) ∙ close.1.2) ∙ rw fit refl
bad_at d (t ∷ ts) bytes rest bad lexed c stop =
    let parts = and_parts (fits d t && not (after d t == 0)) (opens (after d t) ts) c in
    let more = and_parts (fits d t) (not (after d t == 0)) parts.0 in
    finished_step d bytes t lexed.0 (starts_next lexed.1)
    ∙ by_end (after d t == 0) refl more.0 more.1 (bad_at (after d t) ts lexed.0 rest bad lexed.2 parts.1 stop)
  where
    by_end : (z : Bool) → (after d t == 0) ≡ z → fits d t ≡ true → not (after d t == 0) ≡ true → finished_at (after d t) lexed.0 ≡ 0 → counted d t (finished_at (after d t) lexed.0) ≡ 0
    by_end true e fit open_yet later = absurd (cc)
    by_end false e fit open_yet later = rw (fit, e) (plus_none (finished_at (after d t) lexed.0) ∙ later)

-- what can't be cut has none
pub finished_fault : (e : SexpFault) (bytes : List ℕ) → CutFaults e bytes → finished bytes ≡ 0
unfolding finished
finished_fault (fault.Unfinished at) bytes h = unfinished_at 0 h.1 bytes h.2 h.3.lexed h.3.open_yet h.4
finished_fault (fault.BadToken at) bytes h = bad_at 0 h.1 bytes h.2 (drop at bytes) h.3.lexed h.3.open_yet h.4
finished_fault (fault.Deep at) bytes h = absurd h
finished_fault fault.Want bytes h = absurd h

-- ---- the tokens of a command are one expression

open_step : (d : ℕ) (us : List Token) → closes d (Open ∷ us) ≡ closes (d + 1) us
open_step d us = let some : (d + 1 == 0) ≡ false = some_of (d + 1) (omega arith) in rw some refl

close_step : (d : ℕ) (us : List Token) → 0 < d → closes (d + 1) (Close ∷ us) ≡ closes d us
close_step d us above =
    let fit : nat_le 1 (d + 1) ≡ true = grind (arith, common_steps) in
    let less : (d + 1) - 1 ≡ d = omega arith in
    let some : (d == 0) ≡ false = some_of d above in
    rw (fit, less, some) refl

atom_step : (k : Kind) (b : List ℕ) (d : ℕ) (us : List Token) → 0 < d → closes d (Atom k b ∷ us) ≡ closes d us
atom_step k b d us above = let some : (d == 0) ≡ false = some_of d above in rw some refl

-- inside a list, these tokens are whole expressions
abbrev Whole : List Token → Type 0
Whole ts = (d : ℕ) (us : List Token) → 0 < d → closes d (ts ++ us) ≡ closes d us

whole_none : Whole []
whole_none d us above = refl

whole_atom : (k : Kind) (b : List ℕ) → Whole (Atom k b ∷ [])
whole_atom k b d us above = atom_step k b d us above

whole_join : (xs ys : List Token) → Whole xs → Whole ys → Whole (xs ++ ys)
whole_join xs ys e f d us above = ap (closes d) (append_assoc xs ys us) ∙ (e d (ys ++ us) above ∙ f d us above)

whole_listed : (ts : List Token) → Whole ts → Whole (listed ts)
whole_listed ts e d us above =
    open_step d ((ts ++ Close ∷ []) ++ us)
    ∙ (ap (closes (d + 1)) (append_assoc ts (Close ∷ []) us) ∙ (e (d + 1) (Close ∷ us) (omega arith) ∙ close_step d us above))

whole_more : (k : Kind) (b : List ℕ) (ts : List Token) → Whole ts → Whole (Atom k b ∷ ts)
whole_more k b ts e = whole_join (Atom k b ∷ []) ts (whole_atom k b) e

whole_signed : (z : ℤ) (f : ℕ → List Token) → ((n : ℕ) → Whole (f n)) → Whole (signed_tokens z f)
whole_signed (pos n) f e = e n
whole_signed (negsuc n) f e = whole_listed (word (codes "-") ∷ f (n + 1)) (whole_more kind.Symbol (codes "-") (f (n + 1)) (e (n + 1)))

whole_quotient : (p d : ℕ) → Whole (quotient_tokens p d)
whole_quotient p zero = whole_atom kind.Decimal (decimal p)
whole_quotient p (suc d) =
    whole_listed (word (codes "/") ∷ Atom kind.Decimal (decimal p) ∷ Atom kind.Decimal (decimal (suc d + 1)) ∷ [])
    (whole_more kind.Symbol (codes "/") (Atom kind.Decimal (decimal p) ∷ Atom kind.Decimal (decimal (suc d + 1)) ∷ [])
    (whole_more kind.Decimal (decimal p) (Atom kind.Decimal (decimal (suc d + 1)) ∷ []) (whole_atom kind.Decimal (decimal (suc d + 1)))))

mutual
  whole_term : (t : Term) → Whole (term_tokens t)
  whole_term (Truth true) = whole_atom kind.Symbol (codes "true")
  whole_term (Truth false) = whole_atom kind.Symbol (codes "false")
  whole_term (Number z) = whole_signed z (λ n. Atom kind.Numeral (numeral n) ∷ []) (λ n. whole_atom kind.Numeral (numeral n))
  whole_term (Part a) = whole_signed a.numerator (λ p. quotient_tokens p a.below) (λ p. whole_quotient p a.below)
  whole_term (Constant f a) = whole_atom kind.Symbol (symbol_word f)
  whole_term (Apply f a ts) = whole_listed (word (symbol_word f) ∷ terms_tokens ts) (whole_more kind.Symbol (symbol_word f) (terms_tokens ts) (whole_terms ts))
  whole_term (Not t) = whole_listed (word (codes "not") ∷ term_tokens t) (whole_more kind.Symbol (codes "not") (term_tokens t) (whole_term t))
  whole_term (Binary o t u) =
      whole_listed (word (operator_word o) ∷ term_tokens t ++ term_tokens u)
      (whole_more kind.Symbol (operator_word o) (term_tokens t ++ term_tokens u) (whole_join (term_tokens t) (term_tokens u) (whole_term t) (whole_term u)))
  whole_term (Ite c t u) =
      whole_listed (word (codes "ite") ∷ term_tokens c ++ term_tokens t ++ term_tokens u)
      (whole_more kind.Symbol (codes "ite") (term_tokens c ++ term_tokens t ++ term_tokens u)
      (whole_join (term_tokens c ++ term_tokens t) (term_tokens u) (whole_join (term_tokens c) (term_tokens t) (whole_term c) (whole_term t)) (whole_term u)))
  whole_term (AllOf ts) = whole_listed (word (codes "and") ∷ terms_tokens ts) (whole_more kind.Symbol (codes "and") (terms_tokens ts) (whole_terms ts))
  whole_term (SomeOf ts) = whole_listed (word (codes "or") ∷ terms_tokens ts) (whole_more kind.Symbol (codes "or") (terms_tokens ts) (whole_terms ts))

  whole_terms : (ts : Terms) → Whole (terms_tokens ts)
  whole_terms NoTerms = whole_none
  whole_terms (MoreTerms t ts) = whole_join (term_tokens t) (terms_tokens ts) (whole_term t) (whole_terms ts)

whole_sorts : (as' : List Sort) → Whole (sorts_tokens as')
whole_sorts [] = whole_none
whole_sorts (a ∷ as') = whole_more kind.Symbol (sort_word a) (sorts_tokens as') (whole_sorts as')

one_listed : (ts : List Token) → Whole ts → closes 0 (listed ts) ≡ true
one_listed ts e = open_step 0 (ts ++ Close ∷ []) ∙ (e (0 + 1) (Close ∷ []) (omega arith) ∙ refl)

pub one_command : (c : Command) → closes 0 (command_tokens c) ≡ true
one_command (SetOption x b) =
    one_listed (word (codes "set-option") ∷ Atom kind.Keyword x ∷ word (truth_word b) ∷ [])
    (whole_more kind.Symbol (codes "set-option") (Atom kind.Keyword x ∷ word (truth_word b) ∷ []) (whole_more kind.Keyword x (word (truth_word b) ∷ []) (whole_atom kind.Symbol (truth_word b))))
one_command (SetLogic x) = one_listed (word (codes "set-logic") ∷ word x ∷ []) (whole_more kind.Symbol (codes "set-logic") (word x ∷ []) (whole_atom kind.Symbol x))
one_command (DeclareSort x) =
    one_listed (word (codes "declare-sort") ∷ word x ∷ Atom kind.Numeral (numeral 0) ∷ [])
    (whole_more kind.Symbol (codes "declare-sort") (word x ∷ Atom kind.Numeral (numeral 0) ∷ []) (whole_more kind.Symbol x (Atom kind.Numeral (numeral 0) ∷ []) (whole_atom kind.Numeral (numeral 0))))
one_command (DeclareFun d) =
    one_listed (word (codes "declare-fun") ∷ word (symbol_word d.symbol) ∷ listed (sorts_tokens d.takes) ++ word (sort_word d.gives) ∷ [])
    (whole_more kind.Symbol (codes "declare-fun") (word (symbol_word d.symbol) ∷ listed (sorts_tokens d.takes) ++ word (sort_word d.gives) ∷ [])
    (whole_more kind.Symbol (symbol_word d.symbol) (listed (sorts_tokens d.takes) ++ word (sort_word d.gives) ∷ [])
    (whole_join (listed (sorts_tokens d.takes)) (word (sort_word d.gives) ∷ []) (whole_listed (sorts_tokens d.takes) (whole_sorts d.takes)) (whole_atom kind.Symbol (sort_word d.gives)))))
one_command (Assert t) = one_listed (word (codes "assert") ∷ term_tokens t) (whole_more kind.Symbol (codes "assert") (term_tokens t) (whole_term t))
one_command (Push n) = one_listed (word (codes "push") ∷ Atom kind.Numeral (numeral n) ∷ []) (whole_more kind.Symbol (codes "push") (Atom kind.Numeral (numeral n) ∷ []) (whole_atom kind.Numeral (numeral n)))
one_command (Pop n) = one_listed (word (codes "pop") ∷ Atom kind.Numeral (numeral n) ∷ []) (whole_more kind.Symbol (codes "pop") (Atom kind.Numeral (numeral n) ∷ []) (whole_atom kind.Numeral (numeral n)))
one_command CheckSat = one_listed (word (codes "check-sat") ∷ []) (whole_atom kind.Symbol (codes "check-sat"))
one_command GetProof = one_listed (word (codes "get-proof") ∷ []) (whole_atom kind.Symbol (codes "get-proof"))
one_command Exit = one_listed (word (codes "exit") ∷ []) (whole_atom kind.Symbol (codes "exit"))

spelled_least : (cs : List Command) (bytes : List ℕ) → Spells bytes cs → length cs ≤ finished bytes
spelled_least [] bytes e = omega arith
spelled_least (c ∷ cs) bytes e =
    let h = finished_first bytes (command_tokens c) e.0 e.1 (one_command c) in
    let k = spelled_least cs e.0 e.2 in
    omega arith

-- as many expressions are finished in the text of commands, at least
pub text_least : (cs : List Command) → AreCommands cs → length cs ≤ finished (commands_text cs)
text_least cs named = spelled_least cs (commands_text cs) (commands_back cs named)
