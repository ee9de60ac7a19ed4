-- What is written is read again.
use Rattle.std.proofs.Common.{◌≡◌, ℕ, zero, suc, ◌+◌, ◌++◌, not, Bool, true, false, List, [], ◌∷◌, ℤ, pos, negsuc, codes, refl, ap, sym, subst, append_assoc}
use Rattle.vx_sexp.specs.declared.token.Kind.{Kind}
use Rattle.vx_sexp.specs.declared.token.Kind.TheVariants as kind
use Rattle.vx_sexp.specs.declared.token.Token.{Token}
use Rattle.vx_sexp.specs.declared.token.Token.TheVariants.{Open, Close, Atom}
use Rattle.vx_sexp.specs.Characters.{is_digit, is_symbol_byte, is_word_byte, is_blank}
use Rattle.vx_sexp.specs.Tokens.{Starts, Lexes, begins, is_of, is_ended}
use Rattle.vx_terms.specs.Sorts.{Sort, And, Or}
use Rattle.vx_terms.specs.Terms.{Term, Truth, Number, Part, Constant, Apply, Not, Binary, Ite, AllOf, SomeOf, Terms, NoTerms, MoreTerms}
use Rattle.vx_smt_meaning.specs.Words.{numeral, decimal, sort_word, symbol_word, operator_word, word, listed, sorts_tokens, truth_word, command_tokens, signed_tokens, quotient_tokens, term_tokens, terms_tokens}
use Rattle.vx_smt_text.specs.Text.{sorts_text, more_sorts, front_text, command_text, commands_text, set_option_head, set_logic_head, declare_sort_head, declare_fun_head, signed_text, quotient_text, term_text, terms_text}
use Rattle.vx_smt_meaning.specs.Commands.{Command, SetOption, SetLogic, DeclareSort, DeclareFun, Assert, Push, Pop, CheckSat, GetProof, Exit}
use Rattle.vx_smt_meaning.specs.Spelled.{Spells}
use Rattle.vx_smt_meaning.specs.Names.{AreNames, AllAreNames, AreSortNames, IsCommand, AreCommands}
use Rattle.vx_smt_text.proofs.Words.{numeral_is, decimal_is, symbol_is, sort_is, operator_is}

abbrev pub ends_word : List ℕ → Bool
ends_word = begins (λ b. not (is_word_byte b))

lexes_join : (bytes : List ℕ) (ts us : List Token) (mid rest : List ℕ) → Lexes bytes ts mid → Lexes mid us rest → Lexes bytes (ts ++ us) rest
lexes_join bytes [] us mid rest e f = subst (λ x. Lexes x us rest) e f
lexes_join bytes (t ∷ ts) us mid rest e f = (e.0, e.1, lexes_join e.0 ts us mid rest e.2 f)

open_one : (bytes : List ℕ) → Starts (40 ∷ bytes) Open bytes
open_one bytes = record { space = []; text = 40 ∷ []; whole = refl; only_space = refl; spelled = refl; ended = refl }

close_one : (rest : List ℕ) → Starts (41 ∷ rest) Close rest
close_one rest = record { space = []; text = 41 ∷ []; whole = refl; only_space = refl; spelled = refl; ended = refl }

-- a list
pub in_list : (body : List ℕ) (ts : List Token) (rest : List ℕ) → Lexes body ts (41 ∷ rest) → Lexes (40 ∷ body) (listed ts) rest
in_list body ts rest e = lexes_join (40 ∷ body) (Open ∷ ts) (Close ∷ []) (41 ∷ rest) rest (body, open_one body, e) (rest, close_one rest, refl)

atom_one : (k : Kind) (x rest : List ℕ) → is_of k x ≡ true → is_ended (Atom k x) rest ≡ true → Lexes (x ++ rest) (Atom k x ∷ []) rest
atom_one k x rest e f = (rest, record { space = []; text = x; whole = refl; only_space = refl; spelled = (refl, e); ended = f }, refl)

-- a blank before a token
blank_one : (b : ℕ) (bytes : List ℕ) (t : Token) (rest : List ℕ) → is_blank b ≡ true → Starts bytes t rest → Starts (b ∷ bytes) t rest
blank_one b bytes t rest e s = record {
  space = b ∷ s.space;
  text = s.text;
  whole = ap (λ x. b ∷ x) s.whole;
  only_space = rw e s.only_space;
  spelled = s.spelled;
  ended = s.ended;
}

abbrev pub is_some : List Token → Bool
is_some [] = false
is_some (t ∷ ts) = true

blank_all : (b : ℕ) (bytes : List ℕ) (ts : List Token) (rest : List ℕ) → is_blank b ≡ true → is_some ts ≡ true → Lexes bytes ts rest → Lexes (b ∷ bytes) ts rest
blank_all b bytes [] rest e f g = absurd (cc)
blank_all b bytes (t ∷ ts) rest e f g = (g.0, blank_one b bytes t g.0 e g.1, g.2)

-- what ends a word
stops : (ends_word (32 ∷ []) ≡ true) × (is_blank 32 ≡ true) × (is_blank 10 ≡ true)
unfolding is_word_byte is_symbol_byte is_blank
stops = (refl, refl, refl)

stops_blank : (xs : List ℕ) → ends_word (32 ∷ xs) ≡ true
unfolding is_word_byte is_symbol_byte
stops_blank xs = refl

stops_close : (xs : List ℕ) → ends_word (41 ∷ xs) ≡ true
unfolding is_word_byte is_symbol_byte
stops_close xs = refl

-- The text reads as the tokens wherever a word would end behind it.
pub record Reads (text : List ℕ) (ts : List Token) : Type 0 where
  pub some : is_some ts ≡ true
  pub all : (rest : List ℕ) → ends_word rest ≡ true → Lexes (text ++ rest) ts rest

pub reads_symbol : (x : List ℕ) → is_of kind.Symbol x ≡ true → Reads x (word x ∷ [])
reads_symbol x e = record { some = refl; all = λ rest f. atom_one kind.Symbol x rest e f }

pub reads_numeral : (n : ℕ) → Reads (numeral n) (Atom kind.Numeral (numeral n) ∷ [])
reads_numeral n = record { some = refl; all = λ rest f. atom_one kind.Numeral (numeral n) rest (numeral_is n).0 f }

reads_decimal : (n : ℕ) → Reads (decimal n) (Atom kind.Decimal (decimal n) ∷ [])
reads_decimal n = record { some = refl; all = λ rest f. atom_one kind.Decimal (decimal n) rest (decimal_is n) f }

-- one after another, with a blank between
pub reads_both : {a b : List ℕ} {ts us : List Token} → Reads a ts → Reads b us → Reads (a ++ (32 ∷ b)) (ts ++ us)
reads_both {a = a} {b = b} {ts = ts} {us = us} e f = record {
  some = some_join ts us e.some;
  all = λ rest g. rw append_assoc (lexes_join (a ++ (32 ∷ b ++ rest)) ts us (32 ∷ b ++ rest) rest (e.all (32 ∷ b ++ rest) (stops_blank (b ++ rest)))
      (blank_all 32 (b ++ rest) us rest (stops).1 f.some (f.all rest g)));
}
  where
    some_join : (ts us : List Token) → is_some ts ≡ true → is_some (ts ++ us) ≡ true
    some_join [] us e = absurd (cc)
    some_join (t ∷ ts) us e = refl

pub reads_list : {a : List ℕ} {ts : List Token} → Reads a ts → Reads (40 ∷ a ++ 41 ∷ []) (listed ts)
reads_list {a = a} {ts = ts} e = record {
  some = refl;
  all = λ rest g. rw append_assoc (in_list (a ++ (41 ∷ rest)) ts rest (e.all (41 ∷ rest) (stops_close rest)));
}

pub reads_as : {a b : List ℕ} {ts : List Token} → a ≡ b → Reads b ts → Reads a ts
reads_as {ts = ts} e f = subst (λ x. Reads x ts) (sym e) f

pub small_symbols : (is_of kind.Symbol (codes "-") ≡ true) × (is_of kind.Symbol (codes "/") ≡ true) × (is_of kind.Symbol (codes "not") ≡ true)
    × (is_of kind.Symbol (codes "ite") ≡ true) × (is_of kind.Symbol (codes "true") ≡ true) × (is_of kind.Symbol (codes "false") ≡ true)
unfolding is_digit is_symbol_byte
small_symbols = (refl, refl, refl, refl, refl, refl)

pub reads_quotient : (p d : ℕ) → Reads (quotient_text p d) (quotient_tokens p d)
reads_quotient p zero = reads_decimal p
reads_quotient p (suc d) = reads_as (simp append_assoc)
    (reads_list (reads_both (reads_symbol (codes "/") (small_symbols).1) (reads_both (reads_decimal p) (reads_decimal (suc d + 1)))))

pub reads_signed : (z : ℤ) (f : ℕ → List ℕ) (g : ℕ → List Token) → ((n : ℕ) → Reads (f n) (g n)) → Reads (signed_text z f) (signed_tokens z g)
reads_signed (pos n) f g h = h n
reads_signed (negsuc n) f g h = reads_as (simp append_assoc)
    (reads_list (reads_both (reads_symbol (codes "-") (small_symbols).0) (h (n + 1))))

pub append_none : {A : Type 0} (xs : List A) → xs ++ [] ≡ xs
append_none [] = refl
append_none (x ∷ xs) = ap (λ l. x ∷ l) (append_none xs)

pub reads_eq : {a b : List ℕ} {ts us : List Token} → a ≡ b → ts ≡ us → Reads b us → Reads a ts
reads_eq {b = b} {ts = ts} e f r = subst (λ x. Reads x ts) (sym e) (subst (λ x. Reads b x) (sym f) r)

mutual
  pub reads_term : (t : Term) → AreNames t → Reads (term_text t) (term_tokens t)
  reads_term (Truth true) e = reads_symbol (codes "true") (small_symbols).4
  reads_term (Truth false) e = reads_symbol (codes "false") (small_symbols).5
  reads_term (Number z) e = reads_signed z numeral _ reads_numeral
  reads_term (Part a) e = reads_signed a.numerator _ _ (λ p. reads_quotient p a.below)
  reads_term (Constant f a) e = reads_symbol (symbol_word f) (symbol_is f e)
  reads_term (Apply f a ts) e = reads_as (simp append_assoc) (reads_list (reads_args ts e.1 (symbol_word f) _ (reads_symbol (symbol_word f) (symbol_is f e.0))))
  reads_term (Not t) e = reads_as (simp append_assoc) (reads_list (reads_both (reads_symbol (codes "not") (small_symbols).2) (reads_term t e)))
  reads_term (Binary o t u) e = reads_as (simp append_assoc)
      (reads_list (reads_both (reads_both (reads_symbol (operator_word o) (operator_is o)) (reads_term t e.0)) (reads_term u e.1)))
  reads_term (Ite c t u) e = reads_as (simp append_assoc)
      (reads_list (reads_both (reads_both (reads_both (reads_symbol (codes "ite") (small_symbols).3) (reads_term c e.0)) (reads_term t e.1)) (reads_term u e.2)))
  reads_term (AllOf ts) e = reads_as (simp append_assoc) (reads_list (reads_args ts e (codes "and") _ (reads_symbol (codes "and") (operator_is And))))
  reads_term (SomeOf ts) e = reads_as (simp append_assoc) (reads_list (reads_args ts e (codes "or") _ (reads_symbol (codes "or") (operator_is Or))))

  reads_args : (ts : Terms) → AllAreNames ts → (a : List ℕ) (us : List Token) → Reads a us → Reads (a ++ terms_text ts) (us ++ terms_tokens ts)
  reads_args NoTerms e a us r = reads_eq (append_none a) (append_none us) r
  reads_args (MoreTerms t ts) e a us r = reads_eq (simp append_assoc) (simp append_assoc)
      (reads_args ts e.1 (a ++ (32 ∷ term_text t)) (us ++ term_tokens t) (reads_both r (reads_term t e.0)))

-- ---- commands

heads : (is_of kind.Symbol (codes "set-option") ≡ true) × (is_of kind.Symbol (codes "set-logic") ≡ true) × (is_of kind.Symbol (codes "declare-sort") ≡ true)
    × (is_of kind.Symbol (codes "declare-fun") ≡ true) × (is_of kind.Symbol (codes "assert") ≡ true) × (is_of kind.Symbol (codes "push") ≡ true)
    × (is_of kind.Symbol (codes "pop") ≡ true) × (is_of kind.Symbol (codes "check-sat") ≡ true) × (is_of kind.Symbol (codes "get-proof") ≡ true) × (is_of kind.Symbol (codes "exit") ≡ true)
unfolding is_digit is_symbol_byte
heads = (refl, refl, refl, refl, refl, refl, refl, refl, refl, refl)

-- a list, whatever follows
pub record ReadsList (text : List ℕ) (ts : List Token) : Type 0 where
  pub all : (rest : List ℕ) → Lexes (text ++ rest) ts rest

pub closed_list : {a : List ℕ} {ts : List Token} → Reads a ts → ReadsList (40 ∷ a ++ 41 ∷ []) (listed ts)
closed_list {a = a} {ts = ts} e = record { all = λ rest. rw append_assoc (in_list (a ++ (41 ∷ rest)) ts rest (e.all (41 ∷ rest) (stops_close rest))) }

as_list : {a b : List ℕ} {ts : List Token} → a ≡ b → ReadsList b ts → ReadsList a ts
as_list {ts = ts} e f = subst (λ x. ReadsList x ts) (sym e) f

reads_keyword : (x : List ℕ) → is_of kind.Keyword x ≡ true → Reads x (Atom kind.Keyword x ∷ [])
reads_keyword x e = record { some = refl; all = λ rest f. atom_one kind.Keyword x rest e f }

reads_truth : (b : Bool) → Reads (truth_word b) (word (truth_word b) ∷ [])
reads_truth true = reads_symbol (codes "true") (small_symbols).4
reads_truth false = reads_symbol (codes "false") (small_symbols).5

-- some sorts in a list
reads_more_sorts : (rest : List Sort) → AreSortNames rest → (a : List ℕ) (us : List Token) → Reads a us → Reads (a ++ more_sorts rest) (us ++ sorts_tokens rest)
reads_more_sorts [] e a us r = reads_eq (append_none a) (append_none us) r
reads_more_sorts (b ∷ rest) e a us r = reads_eq (simp append_assoc) (simp append_assoc)
    (reads_more_sorts rest e.1 (a ++ (32 ∷ sort_word b)) (us ++ word (sort_word b) ∷ []) (reads_both r (reads_symbol (sort_word b) (sort_is b e.0))))

sorts_list : (all : List Sort) → AreSortNames all → Reads (40 ∷ sorts_text all ++ 41 ∷ []) (listed (sorts_tokens all))
sorts_list [] e = record { some = refl; all = λ rest g. in_list (41 ∷ rest) [] rest refl }
sorts_list (a ∷ rest) e = reads_list (reads_more_sorts rest e.1 (sort_word a) (word (sort_word a) ∷ []) (reads_symbol (sort_word a) (sort_is a e.0)))

reads_front : (c : Command) → IsCommand c → ReadsList (front_text c ++ 41 ∷ []) (command_tokens c)
unfolding set_option_head set_logic_head declare_sort_head declare_fun_head numeral
reads_front (SetOption x b) e = as_list (simp append_assoc) (closed_list (reads_both (reads_both (reads_symbol (codes "set-option") (heads).0)
    (reads_keyword x e)) (reads_truth b)))
reads_front (SetLogic x) e = as_list (simp append_assoc) (closed_list (reads_both (reads_symbol (codes "set-logic") (heads).1) (reads_symbol x e)))
reads_front (DeclareSort x) e = as_list (simp append_assoc) (closed_list (reads_both (reads_both (reads_symbol (codes "declare-sort") (heads).2) (reads_symbol x e)) (reads_numeral 0)))
reads_front (DeclareFun d) e = as_list (simp append_assoc) (closed_list (reads_both (reads_both (reads_both (reads_symbol (codes "declare-fun") (heads).3)
    (reads_symbol (symbol_word d.symbol) (symbol_is d.symbol e.0))) (sorts_list d.takes e.1)) (reads_symbol (sort_word d.gives) (sort_is d.gives e.2))))
reads_front (Assert t) e = as_list (simp append_assoc) (closed_list (reads_both (reads_symbol (codes "assert") (heads).4) (reads_term t e)))
reads_front (Push n) e = as_list (simp append_assoc) (closed_list (reads_both (reads_symbol (codes "push") (heads).5) (reads_numeral n)))
reads_front (Pop n) e = as_list (simp append_assoc) (closed_list (reads_both (reads_symbol (codes "pop") (heads).6) (reads_numeral n)))
reads_front CheckSat e = closed_list (reads_symbol (codes "check-sat") (heads).7)
reads_front GetProof e = closed_list (reads_symbol (codes "get-proof") (heads).8)
reads_front Exit e = closed_list (reads_symbol (codes "exit") (heads).9)

-- What is written reads as that command, whatever follows.
pub command_back : (c : Command) (rest : List ℕ) → IsCommand c → Lexes (command_text c ++ rest) (command_tokens c) (10 ∷ rest)
command_back c rest e = rw (two_ends (front_text c) rest) ((reads_front c e).all (10 ∷ rest))
  where
    two_ends : (a rest : List ℕ) → (a ++ 41 ∷ 10 ∷ []) ++ rest ≡ (a ++ 41 ∷ []) ++ (10 ∷ rest)
    two_ends a rest = simp append_assoc

-- ---- lists of commands

command_some : (c : Command) → is_some (command_tokens c) ≡ true
command_some (SetOption x b) = refl
command_some (SetLogic x) = refl
command_some (DeclareSort x) = refl
command_some (DeclareFun d) = refl
command_some (Assert t) = refl
command_some (Push n) = refl
command_some (Pop n) = refl
command_some CheckSat = refl
command_some GetProof = refl
command_some Exit = refl

spells_blank : (b : ℕ) (bytes : List ℕ) (cs : List Command) → is_blank b ≡ true → Spells bytes cs → Spells (b ∷ bytes) cs
spells_blank b bytes [] e f = rw e f
spells_blank b bytes (c ∷ cs) e f = (f.0, blank_all b bytes (command_tokens c) f.0 e (command_some c) f.1, f.2)

-- What is written, command after command, spells these commands.
pub commands_back : (cs : List Command) → AreCommands cs → Spells (commands_text cs) cs
commands_back [] e = refl
commands_back (c ∷ cs) e = (10 ∷ commands_text cs, command_back c (commands_text cs) e.0, spells_blank 10 (commands_text cs) cs (stops).2 (commands_back cs e.1))
