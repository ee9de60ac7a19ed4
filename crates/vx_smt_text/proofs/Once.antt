-- Commands are read off their tokens again, so bytes spell one list of commands alone.
use Rattle.std.proofs.Common.{◌≡◌, inl, inr, ℕ, zero, suc, ◌≤◌, ◌+◌, ◌++◌, Bool, true, false, List, [], ◌∷◌, Option, Some, None, codes, refl, arith, if◌then◌else◌, ap, ◌∙◌, sym, subst, append_assoc}
use Rattle.std.proofs.lemmas.Grind.{common_steps}
use Rattle.vx_sexp.specs.declared.token.Token.{Token}
use Rattle.vx_sexp.specs.declared.token.Token.TheVariants.{Open, Close, Atom}
use Rattle.vx_sexp.specs.Tokens.{Lexes, is_space, is_space_from}
use Rattle.vx_sexp.specs.Scanning.{scan, move_of, Runs, next, Unfinished}
use Rattle.vx_sexp.specs.declared.scan.Mode.TheVariants as mode
use Rattle.vx_sexp.proofs.Backs.{starts_next}
use Rattle.vx_terms.specs.Sorts.{Sort, IntSort, BoolSort, RealSort, RefSort, SnapSort, OtherSort, Symbol, same_text}
use Rattle.vx_terms.specs.Terms.{Term, Terms, NoTerms, MoreTerms}
use Rattle.vx_smt_meaning.specs.Commands.{Command, SetOption, SetLogic, DeclareSort, DeclareFun, Assert, Push, Pop, CheckSat, GetProof, Exit}
use Rattle.vx_smt_meaning.specs.Words.{sort_word, symbol_word, sorts_tokens, truth_word, word, command_tokens, term_tokens}
use Rattle.vx_smt_meaning.specs.Names.{IsSortName, AreSortNames, IsCommand, AreCommands}
use Rattle.vx_smt_meaning.specs.Spelled.{Spells}
use Rattle.vx_smt_text.specs.Text.{command_text, commands_text}
use Rattle.vx_smt_text.specs.Unique.{IsReadable, AreReadable, SpellsOnly}
use Rattle.vx_smt_text.proofs.Back.{commands_back}
use Rattle.vx_smt_text.proofs.Read.{text_other, value, value_numeral, word_symbol, symbol_back, read, read_end, with_term, Reads, reads_term}

-- ---- sorts

abbrev word_sort : List ℕ → Sort
word_sort x =
    if same_text x (codes "Int") then IntSort
    else (if same_text x (codes "Bool") then BoolSort
    else (if same_text x (codes "Real") then RealSort
    else (if same_text x (codes "Ref") then RefSort
    else (if same_text x (codes "Snap") then SnapSort else OtherSort x))))

sort_back : (a : Sort) → IsSortName a → word_sort (sort_word a) ≡ a
sort_back IntSort e = refl
sort_back BoolSort e = refl
sort_back RealSort e = refl
sort_back RefSort e = refl
sort_back SnapSort e = refl
sort_back (OtherSort x) e = rw (
  text_other x (codes "Int") (λ is. e.1 (inl is)),
  text_other x (codes "Bool") (λ is. e.1 (inr (inl is))),
  text_other x (codes "Real") (λ is. e.1 (inr (inr (inl is)))),
  text_other x (codes "Ref") (λ is. e.1 (inr (inr (inr (inl is))))),
  text_other x (codes "Snap") (λ is. e.1 (inr (inr (inr (inr is))))),
) refl

abbrev Sorts : Type 0
Sorts = List Sort × List Token

abbrev with_sort : Sort → Option Sorts → Option Sorts
with_sort a (Some found) = Some (a ∷ found.0, found.1)
with_sort a None = None

abbrev sorts_in : List Token → Option Sorts
sorts_in [] = None
sorts_in (Close ∷ r) = Some ([], r)
sorts_in (Open ∷ r) = None
sorts_in (Atom k x ∷ r) = with_sort (word_sort x) (sorts_in r)

sorts_back : (all : List Sort) (y : List Token) → AreSortNames all → sorts_in (sorts_tokens all ++ Close ∷ y) ≡ Some (all, y)
sorts_back [] y e = refl
sorts_back (a ∷ rest) y e = rw (sorts_back rest y e.1, sort_back a e.0) refl

-- ---- commands

abbrev Read : Type 0
Read = Option (Command × List Token)

abbrev with_atom : List Token → (List ℕ → List Token → Read) → Read
with_atom [] go = None
with_atom (Open ∷ r) go = None
with_atom (Close ∷ r) go = None
with_atom (Atom k x ∷ r) go = go x r

abbrev with_open : List Token → (List Token → Read) → Read
with_open [] go = None
with_open (Open ∷ r) go = go r
with_open (Close ∷ r) go = None
with_open (Atom k x ∷ r) go = None

abbrev closed : Command → List Token → Read
closed c [] = None
closed c (Open ∷ r) = None
closed c (Close ∷ r) = Some (c, r)
closed c (Atom k x ∷ r) = None

abbrev with_sorts : Option Sorts → (List Sort → List Token → Read) → Read
with_sorts (Some found) go = go found.0 found.1
with_sorts None go = None

abbrev declared : List ℕ → List Sort → List ℕ → Command
declared f takes g = DeclareFun (record { symbol = word_symbol f; takes = takes; gives = word_sort g })

abbrev asserted : Option (Terms × List Token) → Read
asserted (Some found) = asserted_one found.0 found.1
  where
    asserted_one : Terms → List Token → Read
    asserted_one NoTerms r = None
    asserted_one (MoreTerms t ts) r = Some (Assert t, r)
asserted None = None

by_word : (Symbol → Sort) → ℕ → List ℕ → List Token → Read
by_word sorts n w r =
    if same_text w (codes "set-option") then with_atom r (λ x r1. with_atom r1 (λ b r2. closed (SetOption x (same_text b (codes "true"))) r2))
    else (if same_text w (codes "set-logic") then with_atom r (λ x r1. closed (SetLogic x) r1)
    else (if same_text w (codes "declare-sort") then with_atom r (λ x r1. with_atom r1 (λ _ r2. closed (DeclareSort x) r2))
    else (if same_text w (codes "declare-fun") then with_atom r (λ f r1. with_open r1 (λ r2. with_sorts (sorts_in r2) (λ takes r3. with_atom r3 (λ g r4. closed (declared f takes g) r4))))
    else (if same_text w (codes "assert") then asserted (read sorts n r)
    else (if same_text w (codes "push") then with_atom r (λ x r1. closed (Push (value x)) r1)
    else (if same_text w (codes "pop") then with_atom r (λ x r1. closed (Pop (value x)) r1)
    else (if same_text w (codes "check-sat") then closed CheckSat r
    else (if same_text w (codes "get-proof") then closed GetProof r
    else closed Exit r))))))))

abbrev command_in : (Symbol → Sort) → ℕ → List Token → Read
command_in sorts n [] = None
command_in sorts n (Close ∷ r) = None
command_in sorts n (Atom k x ∷ r) = None
command_in sorts n (Open ∷ []) = None
command_in sorts n (Open ∷ Open ∷ r) = None
command_in sorts n (Open ∷ Close ∷ r) = None
command_in sorts n (Open ∷ Atom k w ∷ r) = by_word sorts n w r

-- The command is read off its tokens, with so many steps or more.
record ReadsBack (sorts : Symbol → Sort) (c : Command) : Type 0 where
  steps : ℕ
  gives : (n : ℕ) → steps ≤ n → (y : List Token) → command_in sorts n (command_tokens c ++ y) ≡ Some (c, y)

truth_back : (b : Bool) → same_text (truth_word b) (codes "true") ≡ b
truth_back true = refl
truth_back false = refl

asserted_back : (sorts : Symbol → Sort) (t : Term) (e : Reads sorts (term_tokens t) t) (n : ℕ) → suc (suc e.steps) ≤ n → (y : List Token) → asserted (read sorts n (term_tokens t ++ Close ∷ y)) ≡ Some (Assert t, y)
asserted_back sorts t e zero h y = absurd (omega arith)
asserted_back sorts t e (suc zero) h y = absurd (omega arith)
asserted_back sorts t e (suc (suc n)) h y = ap asserted (e.gives (suc n) (omega arith) (Close ∷ y) ∙ ap (with_term t) (read_end sorts n y))

command_back : (sorts : Symbol → Sort) (c : Command) → IsReadable sorts c → ReadsBack sorts c
unfolding by_word
command_back sorts (SetOption x b) e = record { steps = 0; gives = λ n h y. rw (truth_back b) refl }
command_back sorts (SetLogic x) e = record { steps = 0; gives = λ n h y. refl }
command_back sorts (DeclareSort x) e = record { steps = 0; gives = λ n h y. refl }
command_back sorts (DeclareFun d) e = record {
  steps = 0;
  gives = λ n h y.
      let f = symbol_word d.symbol in
      let g = sort_word d.gives in
      let go = λ (takes : List Sort) (r : List Token). with_atom r (λ g r1. closed (declared f takes g) r1) in
      let whole : (((sorts_tokens d.takes ++ Close ∷ []) ++ word g ∷ []) ++ Close ∷ []) ++ y ≡ sorts_tokens d.takes ++ (Close ∷ word g ∷ Close ∷ y) = simp append_assoc in
      ap (λ r. with_sorts (sorts_in r) go) whole ∙ ap (λ s. with_sorts s go) (sorts_back d.takes (word g ∷ Close ∷ y) e.0.1)
      ∙ ap (λ a. Some (DeclareFun (record { symbol = a; takes = d.takes; gives = word_sort g }), y)) (symbol_back d.symbol e.0.0)
      ∙ ap (λ a. Some (DeclareFun (record { symbol = d.symbol; takes = d.takes; gives = a }), y)) (sort_back d.gives e.0.2);
}
command_back sorts (Assert t) e =
    let reads = reads_term sorts t e.0 e.1 in
    record { steps = suc (suc reads.steps); gives = λ n h y. ap (λ r. asserted (read sorts n r)) (append_assoc (term_tokens t) (Close ∷ []) y) ∙ asserted_back sorts t reads n h y }
command_back sorts (Push m) e = record { steps = 0; gives = λ n h y. rw (value_numeral m) refl }
command_back sorts (Pop m) e = record { steps = 0; gives = λ n h y. rw (value_numeral m) refl }
command_back sorts CheckSat e = record { steps = 0; gives = λ n h y. refl }
command_back sorts GetProof e = record { steps = 0; gives = λ n h y. refl }
command_back sorts Exit e = record { steps = 0; gives = λ n h y. refl }

abbrev found : Command → List Token → Read
found c r = Some (c, r)

abbrev command_of : Read → Command
command_of (Some p) = p.0
command_of None = Exit

abbrev rest_of : Read → List Token
rest_of (Some p) = p.1
rest_of None = []

same_both : (c d : Command) (x y : List Token) → found c x ≡ found d y → (c ≡ d) × (x ≡ y)
same_both c d x y e = (ap command_of e, ap rest_of e)

-- Two commands whose tokens begin alike are one, and the same tokens follow.
one_command : (sorts : Symbol → Sort) (c d : Command) (x y : List Token) → IsReadable sorts c → IsReadable sorts d → command_tokens c ++ x ≡ command_tokens d ++ y → (c ≡ d) × (x ≡ y)
one_command sorts c d x y e f same =
    let a = command_back sorts c e in
    let b = command_back sorts d f in
    let n = a.steps + b.steps in
    same_both c d x y (sym (a.gives n (omega arith) x) ∙ ap (command_in sorts n) same ∙ b.gives n (omega arith) y)

-- ---- bytes

append_none : {A : Type 0} (xs : List A) → xs ++ [] ≡ xs
append_none [] = refl
append_none (x ∷ xs) = ap (λ l. x ∷ l) (append_none xs)

-- one of two lists goes on where the other ends
lexes_on : (bytes : List ℕ) (ts us : List Token) (r s : List ℕ) → Lexes bytes ts r → Lexes bytes us s
    → (x : List Token) × (y : List Token) × (ts ++ x ≡ us ++ y) × ((x ≡ y) → r ≡ s)
lexes_on bytes [] [] r s e f = ([], [], refl, λ _. e ∙ sym f)
lexes_on bytes [] (u ∷ us) r s e f = (u ∷ us, [], sym (append_none (u ∷ us)), λ same. absurd (cc))
lexes_on bytes (t ∷ ts) [] r s e f = ([], t ∷ ts, append_none (t ∷ ts), λ same. absurd (cc))
lexes_on bytes (t ∷ ts) (u ∷ us) r s e f =
    let a = starts_next e.1 in
    let b = starts_next f.1 in
    let token : t ≡ u = cc in
    let between : e.0 ≡ f.0 = cc in
    let more = lexes_on e.0 ts us r s e.2 (subst (λ x. Lexes x us s) (sym between) f.2) in
    (more.0, more.1, ap (λ z. z ∷ ts ++ more.0) token ∙ ap (λ z. u ∷ z) more.2, more.3)

tokens_some : (c : Command) → (t : Token) × (ts : List Token) × (command_tokens c ≡ t ∷ ts)
tokens_some (SetOption x b) = (_, _, refl)
tokens_some (SetLogic x) = (_, _, refl)
tokens_some (DeclareSort x) = (_, _, refl)
tokens_some (DeclareFun d) = (_, _, refl)
tokens_some (Assert t) = (_, _, refl)
tokens_some (Push n) = (_, _, refl)
tokens_some (Pop n) = (_, _, refl)
tokens_some CheckSat = (_, _, refl)
tokens_some GetProof = (_, _, refl)
tokens_some Exit = (_, _, refl)

space_runs : (m : Bool) (xs : List ℕ) → is_space_from m xs ≡ true → scan (if m then mode.Comment else mode.Space) xs ≡ Runs
unfolding scan move_of
space_runs false [] e = refl
space_runs true [] e = absurd (cc)
space_runs false (b ∷ bs) e = grind (arith, common_steps, space_runs false bs, space_runs true bs)
space_runs true (b ∷ bs) e = grind (arith, common_steps, space_runs false bs, space_runs true bs)

space_next : (bytes : List ℕ) → is_space bytes ≡ true → next bytes ≡ Unfinished
unfolding next
space_next bytes e = rw (space_runs false bytes e) refl

space_spells : (bytes rest : List ℕ) (c : Command) → is_space bytes ≡ true → Lexes bytes (command_tokens c) rest → ⊥
space_spells bytes rest c e f =
    let some = tokens_some c in
    let lexes = subst (λ x. Lexes bytes x rest) some.2 f in
    let found = starts_next lexes.1 in
    let none : next bytes ≡ Unfinished = space_next bytes e in
    cc

-- Bytes spell one list of commands.
pub spells_once : (sorts : Symbol → Sort) (bytes : List ℕ) (cs ds : List Command) → AreReadable sorts cs → AreReadable sorts ds → Spells bytes cs → Spells bytes ds → cs ≡ ds
spells_once sorts bytes [] [] e f g h = refl
spells_once sorts bytes [] (d ∷ ds) e f g h = absurd (space_spells bytes h.0 d g h.1)
spells_once sorts bytes (c ∷ cs) [] e f g h = absurd (space_spells bytes g.0 c h g.1)
spells_once sorts bytes (c ∷ cs) (d ∷ ds) e f g h =
    let on = lexes_on bytes (command_tokens c) (command_tokens d) g.0 h.0 g.1 h.1 in
    let one = one_command sorts c d on.0 on.1 e.0 f.0 on.2 in
    let more = spells_once sorts g.0 cs ds e.1 f.1 g.2 (subst (λ x. Spells x ds) (sym (on.3 one.1)) h.2) in
    rw (one.0, more) refl

is_command : (sorts : Symbol → Sort) (c : Command) → IsReadable sorts c → IsCommand c
is_command sorts (SetOption x b) e = e.0
is_command sorts (SetLogic x) e = e.0
is_command sorts (DeclareSort x) e = e.0
is_command sorts (DeclareFun d) e = e.0
is_command sorts (Assert t) e = e.0
is_command sorts (Push n) e = e.0
is_command sorts (Pop n) e = e.0
is_command sorts CheckSat e = e.0
is_command sorts GetProof e = e.0
is_command sorts Exit e = e.0

are_commands : (sorts : Symbol → Sort) (cs : List Command) → AreReadable sorts cs → AreCommands cs
are_commands sorts [] e = tt
are_commands sorts (c ∷ cs) e = (is_command sorts c e.0, are_commands sorts cs e.1)

-- What is written spells these commands and no others.
pub written_only : (sorts : Symbol → Sort) (cs : List Command) → AreReadable sorts cs → SpellsOnly sorts (commands_text cs) cs
written_only sorts cs e =
    let these = commands_back cs (are_commands sorts cs e) in
    record { these = these; no_others = λ ds f g. sym (spells_once sorts (commands_text cs) cs ds e f these g) }

pub command_only : (sorts : Symbol → Sort) (c : Command) → IsReadable sorts c → SpellsOnly sorts (command_text c) (c ∷ [])
command_only sorts c e = subst (λ x. SpellsOnly sorts x (c ∷ [])) (append_none (command_text c)) (written_only sorts (c ∷ []) (e, tt))

-- What is put behind the bytes so far spells this command and no other.
pub put_only : (sorts : Symbol → Sort) (c : Command) (old new : List ℕ) → new ≡ old ++ command_text c → IsReadable sorts c
    → (text : List ℕ) × (new ≡ old ++ text) × SpellsOnly sorts text (c ∷ [])
put_only sorts c old new is e = (command_text c, is, command_only sorts c e)
