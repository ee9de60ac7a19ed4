-- Programs that are spelled are read.
use Rattle.std.proofs.Common.{◌≡◌, ℕ, not, ◌&&◌, zero, suc, ◌+◌, ◌-◌, ◌≤◌, ◌<◌, List, [], ◌∷◌, ◌++◌, Option, Some, None, true, false, Bool, Ok, length, refl, sym, ap, subst, ◌∙◌, append_assoc, arith, leb, ltb, length-append, inl, inr, ◌⊎◌}
use Rattle.std.proofs.lemmas.List.{append-nil, length-map}
use Rattle.std.proofs.lemmas.Bool.{lt-ltb, le-leb}
use Rattle.vx_ast.specs.declared.Place.{Place}
use Rattle.vx_ast.specs.Written.{placed, placed_type, Clause, Requires, Ensures, Decreases, Declaration, Block, IsMethod, Member}
use Rattle.vx_tokens.specs.declared.token.Word.TheVariants as words
use Rattle.vx_tokens.specs.declared.token.Symbol.TheVariants as signs
use Rattle.vx_tokens.specs.Tokens.{Token, Kind, name, word, symbol}
use Rattle.vx_grammar.specs.Grammar.{Phrase, Mark, mark, marks, meant, StandsAt, tokens_of}
use Rattle.vx_ast.specs.declared.ValueType.{ValueType}
use Rattle.vx_ast.specs.declared.ValueType.TheVariants as types
use Rattle.vx_grammar.specs.Statements.{type_word, declaration_meant, declaration_marks, BlockPhrase, block, block_meant, block_marks, StandsBlock, row_marks, semi_marks}
use Rattle.vx_grammar.specs.Programs.{MoreDeclarations, no_more, listed, DeclarationsPhrase, none, some, ParametersPhrase, ReturnsPhrase, no_returns, returns, more_meant, declarations_meant, returns_meant, more_marks, declarations_marks, parameters_marks, returns_marks, ClausesPhrase, no_clauses, requires, ensures, decreases, clauses_meant, StandsClauses, clauses_marks, BracedPhrase, braced_marks, given_meant, GivenStands, given_marks, PredicatePhrase, predicate_meant, predicate_marks, FunctionPhrase, function_meant, StandsFunction, head_marks, function_marks, body_marks, MethodPhrase, method_meant, StandsMethod, method_marks, MemberPhrase, a_field, a_predicate, a_function, a_method, member_meant, member_marks, StandsMember, ProgramPhrase, no_members, member, program_meant, StandsProgram, program_marks}
use Rattle.vx_grammar.specs.Reading.{◌>>=◌, Read, expect, is_symbol, run, name_at, choice, choice_at, below}
use Rattle.vx_grammar.specs.Nesting.{nests}
use Rattle.vx_grammar.specs.StmtReading.{is_measure, begins_decreases, type_at, clause_at, skip_semicolon}
use Rattle.vx_grammar.specs.MemberReading as reading
use Rattle.vx_grammar.specs.MemberReading.{Halting, halting, Head, function_of, head_at, function_by, function_at, Clauses, with_requires, with_ensures, with_measure, begins_requires, begins_ensures, clause_turn, clauses_at, limit, max_members, begins_braces, braced_at, some_braced, given_at, predicate_at, some_block, body_at, method_of, method_at, field_at, member_at, begins_member, declaration_turn, declarations_at, inner_parameters_at, parameters_at, begins_returns, returns_at, members_by, members_within}
use Rattle.vx_grammar.specs.Laws.{Within}
use Rattle.vx_grammar.specs.ProgramLaws.{SpelledProgramsAreRead}
use Rattle.vx_grammar.proofs.Lists.{tokens-append_more, within_front, within_back, reach, Ends}
use Rattle.vx_grammar.proofs.Complete.{is_read}
use Rattle.vx_grammar.proofs.StmtReads.{Toks, declaration_reads, block_is_read}
use Rattle.vx_grammar.proofs.MethodTold.{none_due, first_due}

-- ---- declarations

count : MoreDeclarations → ℕ
count no_more = 0
count (listed p d rest) = 1 + count rest

more_reads : (n : ℕ) (w : MoreDeclarations) (before : List Declaration) (t : Token) (ts : List Token) → is_symbol signs.Comma t.kind ≡ false → (most : ℕ) → count w ≤ most → run declaration_turn most before (Toks (more_marks n w) (t ∷ ts)) ≡ Ok (before ++ more_meant w, t ∷ ts)
unfolding run declaration_turn count
more_reads n no_more before t ts h zero le = ap (λ (l : List Declaration). let a : Read (List Declaration) = Ok (l, t ∷ ts) in a) (sym (append-nil before))
more_reads n no_more before t ts h (suc most) le = rw h (ap (λ (l : List Declaration). let a : Read (List Declaration) = Ok (l, t ∷ ts) in a) (sym (append-nil before)))
more_reads n (listed p d rest) before t ts h zero le = absurd (omega (arith, le))
more_reads n (listed p d rest) before t ts h (suc most) le =
    let tail = Toks (more_marks n rest) (t ∷ ts) in
    let list : tokens_of (declaration_marks n d ++ more_marks n rest) ++ t ∷ ts ≡ Toks (declaration_marks n d) tail = tokens-append_more (declaration_marks n d) (more_marks n rest) (t ∷ ts) in
    rw (list, declaration_reads n d tail)
    (more_reads n rest (before ++ declaration_meant d ∷ []) t ts h most (omega (arith, le)) ∙ ap (λ (l : List Declaration). let a : Read (List Declaration) = Ok (l, t ∷ ts) in a) (append_assoc before (declaration_meant d ∷ []) (more_meant rest)))

more_long : (n : ℕ) (w : MoreDeclarations) (ts : List Token) → count w ≤ length (Toks (more_marks n w) ts)
unfolding count
more_long n no_more ts = omega arith
more_long n (listed p d rest) ts =
    let list = ap length (tokens-append_more (declaration_marks n d) (more_marks n rest) ts) in
    let a = length-append (tokens_of (declaration_marks n d)) (Toks (more_marks n rest) ts) in
    let h = more_long n rest ts in
    omega (arith, list, a, h)

inner_reads : (n : ℕ) (w : DeclarationsPhrase) (q : Place) (ts : List Token) → (let close = mark n q (symbol signs.Close) in inner_parameters_at (Toks (declarations_marks n w) (close.token ∷ ts)) ≡ Ok (declarations_meant w, close.token ∷ ts))
unfolding inner_parameters_at declarations_at
inner_reads n none q ts = refl
inner_reads n (some d rest) q ts =
    let close = mark n q (symbol signs.Close) in
    let tail = Toks (more_marks n rest) (close.token ∷ ts) in
    let list : tokens_of (declaration_marks n d ++ more_marks n rest) ++ close.token ∷ ts ≡ Toks (declaration_marks n d) tail = tokens-append_more (declaration_marks n d) (more_marks n rest) (close.token ∷ ts) in
    ap inner_parameters_at list ∙ rw (declaration_reads n d tail) (more_reads n rest (declaration_meant d ∷ []) close.token ts refl (length tail) (more_long n rest (close.token ∷ ts)))

parameters_read : (n : ℕ) (w : ParametersPhrase) (ts : List Token) → parameters_at (Toks (parameters_marks n w) ts) ≡ Ok (declarations_meant w.inner, ts)
unfolding parameters_at expect
parameters_read n w ts =
    let close = mark (n + 1) w.to (symbol signs.Close) in
    let list : tokens_of (declarations_marks (n + 1) w.inner ++ close ∷ []) ++ ts ≡ Toks (declarations_marks (n + 1) w.inner) (close.token ∷ ts) = tokens-append_more (declarations_marks (n + 1) w.inner) (close ∷ []) ts in
    rw (list, inner_reads (n + 1) w.inner w.to ts) refl

-- ---- clauses

-- a token that no clause takes in: no expression goes on with it, and no clause, returns or semicolon begins
record Ending (k : Kind) : Type 0 where
  reaches : 8 < reach k
  not_requires : begins_requires k ≡ false
  not_ensures : begins_ensures k ≡ false
  not_measure : is_measure k ≡ false
  not_returns : begins_returns k ≡ false
  not_semi : is_symbol signs.Semicolon k ≡ false

abbrev Ended : List Token → Type 0
Ended [] = Unit {0}
Ended (t ∷ ts) = Ending t.kind

-- a semicolon or none, and what follows
abbrev Then : Option Place → List Token → List Token
Then semi tail = Toks (semi_marks 0 semi) tail

then_ends : (semi : Option Place) (tail : List Token) → Ended tail → Ends 8 (Then semi tail)
then_ends None [] h = tt
then_ends None (t ∷ ts) h = h.reaches
then_ends (Some p) tail h = omega arith

skips : (semi : Option Place) (tail : List Token) → Ended tail → skip_semicolon (Then semi tail) ≡ tail
skips None [] h = refl
skips None (t ∷ ts) h = rw h.not_semi refl
skips (Some p) tail h = refl

-- The semicolon of a last clause that has none is that of the member.
abbrev left_semi : Option Place → ClausesPhrase → Option Place → Option Place
left_semi None no_clauses after = None
left_semi None (requires p e semi rest) after = after
left_semi None (ensures p e semi rest) after = after
left_semi None (decreases p e semi rest) after = after
left_semi (Some q) w after = after

clause_ends : (semi : Option Place) (r k : ℕ) (w : ClausesPhrase) (after : Option Place) (tail : List Token) → Ended tail → Ends 8 (Then semi (Toks (clauses_marks r k w) (Then after tail)))
clause_ends (Some q) r k w after tail h = omega arith
clause_ends None r k no_clauses after tail h = then_ends after tail h
clause_ends None r k (requires p e semi rest) after tail h = omega arith
clause_ends None r k (ensures p e semi rest) after tail h = omega arith
clause_ends None r k (decreases p e semi rest) after tail h = omega arith

clause_skips : (semi : Option Place) (r k : ℕ) (w : ClausesPhrase) (after : Option Place) (tail : List Token) → Ended tail → skip_semicolon (Then semi (Toks (clauses_marks r k w) (Then after tail))) ≡ Toks (clauses_marks r k w) (Then (left_semi semi w after) tail)
clause_skips (Some q) r k w after tail h = refl
clause_skips None r k no_clauses after tail h = skips after tail h
clause_skips None r k (requires p e semi rest) after tail h = refl
clause_skips None r k (ensures p e semi rest) after tail h = refl
clause_skips None r k (decreases p e semi rest) after tail h = refl

clause_reads : (deep before : ℕ) (e : Phrase) (here ts : List Token) → before ≤ deep → Within deep (marks before e) → StandsAt 8 e → Ends 8 ts → clause_at deep before here (Toks (marks before e) ts) ≡ Ok (meant e, ts)
unfolding clause_at
clause_reads deep before e here ts le h st ends =
    let b : leb before deep ≡ true = le-leb _ _ le in
    rw b (is_read deep before (deep - before) e ts (omega (arith, le)) h st ends)

size : ClausesPhrase → ℕ
size no_clauses = 0
size (requires p e semi rest) = 1 + size rest
size (ensures p e semi rest) = 1 + size rest
size (decreases p e semi rest) = 1 + size rest

read_of : Clauses → List Token → Read Clauses
read_of c ts = Ok (c, ts)

-- what is read is these clauses, and what is left is all behind them, or all but a semicolon
record ReadTo (read : Read Clauses) (cs : List Clause) (semi : Option Place) (tail : List Token) : Type 0 where
  state : Clauses
  after : List Token
  is : read ≡ read_of state after
  are : state.clauses ≡ cs
  left : (after ≡ Then semi tail) ⊎ (after ≡ tail)

read_to : (semi : Option Place) (w : ClausesPhrase) (after : Option Place) (tail : List Token) (read : Read Clauses) (cs ds : List Clause) → cs ≡ ds → ReadTo read cs (left_semi semi w after) tail → ReadTo read ds after tail
read_to (Some q) w after tail read cs ds e r = record { state = r.state; after = r.after; is = r.is; are = r.are ∙ e; left = r.left }
read_to None no_clauses after tail read cs ds e r = record { state = r.state; after = r.after; is = r.is; are = r.are ∙ e; left = inr (elim r.left [ inl a ↦ a | inr b ↦ b ]) }
read_to None (requires p u semi rest) after tail read cs ds e r = record { state = r.state; after = r.after; is = r.is; are = r.are ∙ e; left = r.left }
read_to None (ensures p u semi rest) after tail read cs ds e r = record { state = r.state; after = r.after; is = r.is; are = r.are ∙ e; left = r.left }
read_to None (decreases p u semi rest) after tail read cs ds e r = record { state = r.state; after = r.after; is = r.is; are = r.are ∙ e; left = r.left }

-- a measure is read where one is due and begins, and only there
due_begins : (may measured : Bool) → may && not measured ≡ true → may && not measured && true ≡ true
due_begins true false h = refl
due_begins true true h = absurd cc
due_begins false measured h = absurd cc

none_begins : (may measured begins : Bool) → begins ≡ false → may && not measured && begins ≡ false
none_begins true false false h = refl
none_begins true false true h = absurd cc
none_begins true true begins h = refl
none_begins false measured begins h = refl

no_clause_read : (deep : ℕ) (may : Bool) (before : Clauses) (semi : Option Place) (tail : List Token) → Ended tail → (most : ℕ) → run (clause_turn deep may) most before (Then semi tail) ≡ read_of before (Then semi tail)
unfolding run clause_turn read_of
no_clause_read deep may before semi tail h zero = refl
no_clause_read deep may before None [] h (suc most) = refl
no_clause_read deep may before None (t ∷ ts) h (suc most) = rw (h.not_requires, h.not_ensures, none_begins may before.measured (is_measure t.kind) h.not_measure) refl
no_clause_read deep may before (Some p) tail h (suc most) = rw (none_begins may before.measured false refl) refl

clauses_read : (deep : ℕ) (may : Bool) (w : ClausesPhrase) (before : Clauses) (semi : Option Place) (tail : List Token) → Ended tail → Within deep (clauses_marks before.requires before.ensures w) → StandsClauses (may && not before.measured) w → (most : ℕ) → size w ≤ most
    → ReadTo (run (clause_turn deep may) most before (Toks (clauses_marks before.requires before.ensures w) (Then semi tail))) (before.clauses ++ clauses_meant w) semi tail
unfolding run clause_turn size read_of
clauses_read deep may no_clauses before semi tail over h st most le = record {
  state = before;
  after = Then semi tail;
  is = no_clause_read deep may before semi tail over most;
  are = sym (append-nil before.clauses);
  left = inl refl;
}
clauses_read deep may (requires p e semi rest) before after tail over h st zero le = absurd (omega (arith, le))
clauses_read deep may (ensures p e semi rest) before after tail over h st zero le = absurd (omega (arith, le))
clauses_read deep may (decreases p e semi rest) before after tail over h st zero le = absurd (omega (arith, le))
clauses_read deep may (requires p e semi rest) before after tail over h st (suc most) le =
    let r = before.requires in
    let k = before.ensures in
    let others = clauses_marks (r + 1) k rest in
    let all = Then semi (Toks others (Then after tail)) in
    let he = within_front deep (marks r e) (semi_marks 0 semi ++ others) h.1 in
    let ho = within_back deep (semi_marks 0 semi) others (within_back deep (marks r e) (semi_marks 0 semi ++ others) h.1) in
    let list : tokens_of (marks r e ++ (semi_marks 0 semi ++ others)) ++ Then after tail ≡ Toks (marks r e) all =
    tokens-append_more (marks r e) (semi_marks 0 semi ++ others) (Then after tail) ∙ ap (λ l. Toks (marks r e) l) (tokens-append_more (semi_marks 0 semi) others (Then after tail)) in
    let clause = clause_reads deep r e ((mark r p (word words.Requires)).token ∷ Toks (marks r e) all) all h.0 he st.0 (clause_ends semi (r + 1) k rest after tail over) in
    let go = clauses_read deep may rest (with_requires before (meant e)) (left_semi semi rest after) tail over ho st.1 most (omega (arith, le)) in
    rw (list, clause, clause_skips semi (r + 1) k rest after tail over) (read_to semi rest after tail _ _ _ (append_assoc before.clauses (Requires (meant e) ∷ []) (clauses_meant rest)) go)
clauses_read deep may (ensures p e semi rest) before after tail over h st (suc most) le =
    let r = before.requires in
    let k = before.ensures in
    let others = clauses_marks r (k + 1) rest in
    let all = Then semi (Toks others (Then after tail)) in
    let he = within_front deep (marks k e) (semi_marks 0 semi ++ others) h.1 in
    let ho = within_back deep (semi_marks 0 semi) others (within_back deep (marks k e) (semi_marks 0 semi ++ others) h.1) in
    let list : tokens_of (marks k e ++ (semi_marks 0 semi ++ others)) ++ Then after tail ≡ Toks (marks k e) all =
    tokens-append_more (marks k e) (semi_marks 0 semi ++ others) (Then after tail) ∙ ap (λ l. Toks (marks k e) l) (tokens-append_more (semi_marks 0 semi) others (Then after tail)) in
    let clause = clause_reads deep k e ((mark k p (word words.Ensures)).token ∷ Toks (marks k e) all) all h.0 he st.0 (clause_ends semi r (k + 1) rest after tail over) in
    let go = clauses_read deep may rest (with_ensures before (meant e)) (left_semi semi rest after) tail over ho st.1 most (omega (arith, le)) in
    rw (list, clause, clause_skips semi r (k + 1) rest after tail over) (read_to semi rest after tail _ _ _ (append_assoc before.clauses (Ensures (meant e) ∷ []) (clauses_meant rest)) go)
clauses_read deep may (decreases p e semi rest) before after tail over h st (suc most) le =
    let r = before.requires in
    let k = before.ensures in
    let others = clauses_marks r k rest in
    let all = Then semi (Toks others (Then after tail)) in
    let he = within_front deep (marks 0 e) (semi_marks 0 semi ++ others) h.1 in
    let ho = within_back deep (semi_marks 0 semi) others (within_back deep (marks 0 e) (semi_marks 0 semi ++ others) h.1) in
    let list : tokens_of (marks 0 e ++ (semi_marks 0 semi ++ others)) ++ Then after tail ≡ Toks (marks 0 e) all =
    tokens-append_more (marks 0 e) (semi_marks 0 semi ++ others) (Then after tail) ∙ ap (λ l. Toks (marks 0 e) l) (tokens-append_more (semi_marks 0 semi) others (Then after tail)) in
    let clause = clause_reads deep 0 e ((mark 0 p (word words.Decreases)).token ∷ Toks (marks 0 e) all) all h.0 he st.1 (clause_ends semi r k rest after tail over) in
    let go = clauses_read deep may rest (with_measure before (meant e)) (left_semi semi rest after) tail over ho (subst (λ due. StandsClauses due rest) (sym (none_due may)) st.2) most (omega (arith, le)) in
    rw (list, due_begins may before.measured st.0, clause, clause_skips semi r k rest after tail over) (read_to semi rest after tail _ _ _ (append_assoc before.clauses (Decreases (meant e) ∷ []) (clauses_meant rest)) go)

size_long : (r k : ℕ) (w : ClausesPhrase) → size w ≤ length (clauses_marks r k w)
unfolding size
size_long r k no_clauses = omega arith
size_long r k (requires p e semi rest) =
    let a = length-append (marks r e) (semi_marks 0 semi ++ clauses_marks (r + 1) k rest) in
    let b = length-append (semi_marks 0 semi) (clauses_marks (r + 1) k rest) in
    let c = size_long (r + 1) k rest in
    omega (arith, a, b, c)
size_long r k (ensures p e semi rest) =
    let a = length-append (marks k e) (semi_marks 0 semi ++ clauses_marks r (k + 1) rest) in
    let b = length-append (semi_marks 0 semi) (clauses_marks r (k + 1) rest) in
    let c = size_long r (k + 1) rest in
    omega (arith, a, b, c)
size_long r k (decreases p e semi rest) =
    let a = length-append (marks 0 e) (semi_marks 0 semi ++ clauses_marks r k rest) in
    let b = length-append (semi_marks 0 semi) (clauses_marks r k rest) in
    let c = size_long r k rest in
    omega (arith, a, b, c)

pub long_enough : (ms : List Mark) (ts : List Token) (n : ℕ) → n ≤ length ms → n ≤ length (Toks ms ts)
long_enough ms ts n le =
    let a = length-append (tokens_of ms) ts in
    let b = length-map ms (λ m. m.token) in
    omega (arith, le, a, b)

clauses_are_read : (deep : ℕ) (may : Bool) (w : ClausesPhrase) (semi : Option Place) (tail : List Token) → Ended tail → Within deep (clauses_marks 0 0 w) → StandsClauses may w → ReadTo (clauses_at deep may (Toks (clauses_marks 0 0 w) (Then semi tail))) (clauses_meant w) semi tail
unfolding clauses_at
clauses_are_read deep may w semi tail over h st =
    let all = Toks (clauses_marks 0 0 w) (Then semi tail) in
    clauses_read deep may w reading.no_clauses semi tail over h (subst (λ due. StandsClauses due w) (sym (first_due may)) st) (length all) (long_enough (clauses_marks 0 0 w) _ (size w) (size_long 0 0 w))

-- ---- methods

-- what stands in front of clauses and what follows them is no `returns`
abbrev NotReturns : List Token → Type 0
NotReturns [] = Unit {0}
NotReturns (t ∷ ts) = begins_returns t.kind ≡ false

not_returns : (w : ClausesPhrase) (semi : Option Place) (tail : List Token) → Ended tail → NotReturns (Toks (clauses_marks 0 0 w) (Then semi tail))
not_returns no_clauses (Some p) tail h = refl
not_returns no_clauses None [] h = tt
not_returns no_clauses None (t ∷ ts) h = h.not_returns
not_returns (requires p e semi rest) after tail h = refl
not_returns (ensures p e semi rest) after tail h = refl
not_returns (decreases p e semi rest) after tail h = refl

returns_read : (w : ReturnsPhrase) (ts : List Token) → NotReturns ts → returns_at (Toks (returns_marks 0 w) ts) ≡ Ok (returns_meant w, ts)
unfolding returns_at
returns_read no_returns [] h = refl
returns_read no_returns (t ∷ ts) h = rw h refl
returns_read (returns p w) ts h = parameters_read 0 w ts

-- the block of a method, behind its opening brace
abbrev inside_block : BlockPhrase → List Mark
inside_block (block o r c) = row_marks 1 r ++ mark 1 c (symbol signs.CloseBrace) ∷ []

abbrev opening : BlockPhrase → Place
opening (block o r c) = o

block_opens : (b : BlockPhrase) → block_marks 0 b ≡ mark 1 (opening b) (symbol signs.OpenBrace) ∷ inside_block b
block_opens (block o r c) = refl

brace_ends : Ending (symbol signs.OpenBrace)
brace_ends = record { reaches = omega arith; not_requires = refl; not_ensures = refl; not_measure = refl; not_returns = refl; not_semi = refl }

block_ends : (b : BlockPhrase) (ts : List Token) → Ended (Toks (block_marks 0 b) ts)
block_ends (block o r c) ts = brace_ends

-- What follows a member: it ends the clauses, and is no body.
record Follows (tail : List Token) : Type 0 where
  ended : Ended tail
  no_braces : begins_braces tail ≡ false

then_no_braces : (semi : Option Place) (tail : List Token) → begins_braces tail ≡ false → begins_braces (Then semi tail) ≡ false
then_no_braces None tail h = h
then_no_braces (Some p) tail h = refl

-- a member is read, and what is left is what follows, but maybe for a semicolon
record MemberRead (read : Read Member) (m : Member) (tail : List Token) : Type 0 where
  after : List Token
  is : read ≡ (let a : Read Member = Ok (m, after) in a)
  skips : skip_semicolon after ≡ tail

record MemberHalted (read : Halting Member) (m : Member) (tail : List Token) : Type 0 where
  after : List Token
  is : read ≡ (let a : Halting Member = Ok (m, after) in a)
  skips : skip_semicolon after ≡ tail

halted : (read : Read Member) (m : Member) (tail : List Token) → MemberRead read m tail → MemberHalted (halting read) m tail
halted read m tail r = record { after = r.after; is = ap halting r.is; skips = r.skips }

-- the method that is meant, with this body
abbrev method_with : MethodPhrase → Option Block → Member
method_with m c = record {
  place = m.at;
  name = placed m.name_at m.text;
  kind = IsMethod record { parameters = declarations_meant m.parameters.inner; returns = returns_meant m.returns; clauses = clauses_meant m.clauses; body = c };
}

left_skips : (semi : Option Place) (tail after : List Token) → Ended tail → (after ≡ Then semi tail) ⊎ (after ≡ tail) → skip_semicolon after ≡ tail
left_skips semi tail after h (inl e) = ap skip_semicolon e ∙ skips semi tail h
left_skips semi tail after h (inr e) = ap skip_semicolon e ∙ skips None tail h

left_braces : (semi : Option Place) (tail after : List Token) → begins_braces tail ≡ false → (after ≡ Then semi tail) ⊎ (after ≡ tail) → begins_braces after ≡ false
left_braces semi tail after h (inl e) = ap begins_braces e ∙ then_no_braces semi tail h
left_braces semi tail after h (inr e) = ap begins_braces e ∙ h

then_no_measure : (semi : Option Place) (tail : List Token) → Ended tail → begins_decreases (Then semi tail) ≡ false
then_no_measure None [] h = refl
then_no_measure None (t ∷ ts) h = h.not_measure
then_no_measure (Some p) tail h = refl

left_measure : (semi : Option Place) (tail after : List Token) → Ended tail → (after ≡ Then semi tail) ⊎ (after ≡ tail) → begins_decreases after ≡ false
left_measure semi tail after h (inl e) = ap begins_decreases e ∙ then_no_measure semi tail h
left_measure semi tail after h (inr e) = ap begins_decreases e ∙ then_no_measure None tail h

abbrev method_inner : MethodPhrase → List Mark
method_inner m = mark 0 m.name_at (name m.text) ∷ (parameters_marks 0 m.parameters ++ (returns_marks 0 m.returns ++ (clauses_marks 0 0 m.clauses ++ body_marks m.body)))

-- what is read behind the clauses
abbrev behind_clauses : ℕ → MethodPhrase → Clauses × List Token → Read Member
behind_clauses deep m clauses = body_at deep clauses.1 >>= λ body. Ok (method_of m.at (placed m.name_at m.text) (declarations_meant m.parameters.inner) (returns_meant m.returns) clauses.0 body.0, body.1)

-- up to the clauses
head_reads : (deep : ℕ) (m : MethodPhrase) (ts : List Token) → NotReturns (Toks (clauses_marks 0 0 m.clauses) (Toks (body_marks m.body) ts))
    → method_at deep m.at (Toks (method_inner m) ts) ≡ (clauses_at deep false (Toks (clauses_marks 0 0 m.clauses) (Toks (body_marks m.body) ts)) >>= behind_clauses deep m)
unfolding method_at name_at
head_reads deep m ts not =
    let body = body_marks m.body in
    let clauses = clauses_marks 0 0 m.clauses in
    let rest = returns_marks 0 m.returns ++ (clauses ++ body) in
    let l2 = Toks clauses (Toks body ts) in
    let l1 = Toks (returns_marks 0 m.returns) l2 in
    let list : Toks (parameters_marks 0 m.parameters ++ rest) ts ≡ Toks (parameters_marks 0 m.parameters) l1 =
    tokens-append_more (parameters_marks 0 m.parameters) rest ts ∙ ap (λ l. Toks (parameters_marks 0 m.parameters) l) (tokens-append_more (returns_marks 0 m.returns) (clauses ++ body) ts ∙ ap (λ l. Toks (returns_marks 0 m.returns) l) (tokens-append_more clauses body ts)) in
    rw (list, parameters_read 0 m.parameters l1, returns_read m.returns l2 not) refl

clauses_within : (deep : ℕ) (m : MethodPhrase) → Within deep (method_marks m) → Within deep (clauses_marks 0 0 m.clauses ++ body_marks m.body)
clauses_within deep m h =
    let clauses = clauses_marks 0 0 m.clauses ++ body_marks m.body in
    within_back deep (returns_marks 0 m.returns) clauses (within_back deep (parameters_marks 0 m.parameters) (returns_marks 0 m.returns ++ clauses) h.1.1)

-- the clauses and a body
with_block : (deep : ℕ) (m : MethodPhrase) (b : BlockPhrase) (ts : List Token) → Within deep (clauses_marks 0 0 m.clauses ++ block_marks 0 b) → StandsClauses false m.clauses → StandsBlock b
    → (clauses_at deep false (Toks (clauses_marks 0 0 m.clauses) (Toks (block_marks 0 b) ts)) >>= behind_clauses deep m)
    ≡ Ok (method_with m (Some (block_meant b)), ts)
unfolding body_at some_block read_of
with_block deep m b ts h st sb =
    let tail = Toks (block_marks 0 b) ts in
    let hc = within_front deep (clauses_marks 0 0 m.clauses) (block_marks 0 b) h in
    let hb = within_back deep (clauses_marks 0 0 m.clauses) (block_marks 0 b) h in
    let read = clauses_are_read deep false m.clauses None tail (block_ends b ts) hc st in
    let same : read.after ≡ tail = elim read.left [ inl e ↦ e | inr e ↦ e ] in
    let inside = block_is_read deep 0 deep b ts (omega arith) hb sb in
    let opens : begins_braces tail ≡ true = rw (block_opens b) refl in
    rw (read.is, same, opens, inside, read.are) refl

method_read : (deep : ℕ) (m : MethodPhrase) (semi : Option Place) (tail : List Token) → Follows tail → Within deep (method_marks m) → StandsMethod m → MemberRead (method_at deep m.at (Toks (method_inner m) (Then semi tail))) (method_meant m) tail
unfolding read_of body_at
method_read deep m semi tail over h st = by_body m.body refl
  where
    by_body : (o : Option BlockPhrase) → m.body ≡ o → MemberRead (method_at deep m.at (Toks (method_inner m) (Then semi tail))) (method_meant m) tail
    by_body None e =
        let hc : Within deep (clauses_marks 0 0 m.clauses) = within_front deep (clauses_marks 0 0 m.clauses) (body_marks m.body) (clauses_within deep m h) in
        let read = clauses_are_read deep false m.clauses semi tail over.ended hc st.clauses in
        let plain = left_braces semi tail read.after over.no_braces read.left in
        record { after = read.after; is = no_block e read.state read.after read.is read.are plain (left_measure semi tail read.after over.ended read.left); skips = left_skips semi tail read.after over.ended read.left }
      where
        no_block : m.body ≡ None → (state : Clauses) (after : List Token) → clauses_at deep false (Toks (clauses_marks 0 0 m.clauses) (Then semi tail)) ≡ read_of state after → state.clauses ≡ clauses_meant m.clauses → begins_braces after ≡ false → begins_decreases after ≡ false → method_at deep m.at (Toks (method_inner m) (Then semi tail)) ≡ Ok (method_meant m, after)
        no_block e state after q are plain undue =
            head_reads deep m (Then semi tail) (subst (λ o. NotReturns (Toks (clauses_marks 0 0 m.clauses) (Toks (body_marks o) (Then semi tail)))) (sym e) (not_returns m.clauses semi tail over.ended))
            ∙ rw (e, q, plain, undue, are) refl
    by_body (Some b) e =
        record { after = Then semi tail; is = with_body e; skips = skips semi tail over.ended }
      where
        with_body : m.body ≡ Some b → method_at deep m.at (Toks (method_inner m) (Then semi tail)) ≡ Ok (method_meant m, Then semi tail)
        with_body e =
            let all : Within deep (clauses_marks 0 0 m.clauses ++ block_marks 0 b) = rw e at (clauses_within deep m h) in
            let sb : StandsBlock b = rw e at st.body in
            head_reads deep m (Then semi tail) (subst (λ o. NotReturns (Toks (clauses_marks 0 0 m.clauses) (Toks (body_marks o) (Then semi tail)))) (sym e) (not_returns m.clauses None (Toks (block_marks 0 b) (Then semi tail)) (block_ends b (Then semi tail))))
            ∙ rw e (with_block deep m b (Then semi tail) all st.clauses sb)

-- ---- predicates

braced_reads : (deep : ℕ) (w : BracedPhrase) (ts : List Token) → Within deep (braced_marks w) → StandsAt 8 w.inner → braced_at deep (Toks (braced_marks w) ts) ≡ Ok (meant w.inner, ts)
unfolding braced_at expect
braced_reads deep w ts h st =
    let close = mark 1 w.to (symbol signs.CloseBrace) in
    let opened = (mark 1 w.from (symbol signs.OpenBrace)).token in
    let less = deep - 1 in
    let s : deep ≡ less + 1 = omega (arith, h.0) in
    let list : tokens_of (marks 1 w.inner ++ close ∷ []) ++ ts ≡ Toks (marks 1 w.inner) (close.token ∷ ts) = tokens-append_more (marks 1 w.inner) (close ∷ []) ts in
    let inner = is_read deep 1 less w.inner (close.token ∷ ts) (omega (arith, h.0)) (within_front deep (marks 1 w.inner) (close ∷ []) h.1) st (omega arith) in
    let taken : below deep choice (opened ∷ (tokens_of (marks 1 w.inner ++ close ∷ []) ++ ts)) (tokens_of (marks 1 w.inner ++ close ∷ []) ++ ts) ≡ Ok (meant w.inner, close.token ∷ ts) = nests deep less choice _ _ s ∙ ap (choice_at (below less)) list ∙ inner in
    rw taken refl

given_reads : (deep : ℕ) (o : Option BracedPhrase) (semi : Option Place) (tail : List Token) → Follows tail → Within deep (given_marks o) → GivenStands o → given_at deep (Toks (given_marks o) (Then semi tail)) ≡ Ok (given_meant o, Then semi tail)
unfolding given_at some_braced
given_reads deep None semi tail over h st = rw (then_no_braces semi tail over.no_braces) refl
given_reads deep (Some w) semi tail over h st = rw (braced_reads deep w (Then semi tail) h st) refl

abbrev predicate_inner : PredicatePhrase → List Mark
predicate_inner w = mark 0 w.name_at (name w.text) ∷ (parameters_marks 0 w.parameters ++ given_marks w.body)

predicate_read : (deep : ℕ) (w : PredicatePhrase) (semi : Option Place) (tail : List Token) → Follows tail → Within deep (predicate_marks w) → GivenStands w.body → predicate_at deep w.at (Toks (predicate_inner w) (Then semi tail)) ≡ Ok (predicate_meant w, Then semi tail)
unfolding predicate_at name_at
predicate_read deep w semi tail over h st =
    let body = given_marks w.body in
    let list : Toks (parameters_marks 0 w.parameters ++ body) (Then semi tail) ≡ Toks (parameters_marks 0 w.parameters) (Toks body (Then semi tail)) = tokens-append_more (parameters_marks 0 w.parameters) body (Then semi tail) in
    rw (list, parameters_read 0 w.parameters (Toks body (Then semi tail)), given_reads deep w.body semi tail over (within_back deep (parameters_marks 0 w.parameters) body h.1.1) st) refl

-- ---- functions

type_reads : (t : ValueType) (at : Place) (us : List Token) → type_at ((mark 0 at (word (type_word t))).token ∷ us) ≡ Ok (placed_type at t, us)
unfolding type_at
type_reads types.Int at us = refl
type_reads types.Bool at us = refl
type_reads types.Ref at us = refl
type_reads types.Perm at us = refl

head_with : FunctionPhrase → Clauses → Head
head_with f c = record { name = placed f.name_at f.text; parameters = declarations_meant f.parameters.inner; of = f.of; clauses = c }

-- a head is read, with these clauses
record HeadRead (read : Read Head) (f : FunctionPhrase) (tail : List Token) : Type 0 where
  state : Clauses
  is : read ≡ (let a : Read Head = Ok (head_with f state, tail) in a)
  are : state.clauses ≡ clauses_meant f.clauses

head_read : (deep : ℕ) (f : FunctionPhrase) (tail : List Token) → Ended tail → Within deep (head_marks f) → StandsClauses true f.clauses → HeadRead (head_at deep (Toks (head_marks f) tail)) f tail
unfolding head_at name_at expect read_of head_with
head_read deep f tail over h st =
    let clauses = clauses_marks 0 0 f.clauses in
    let colon = mark 0 f.colon_at (symbol signs.Colon) in
    let type = mark 0 f.type_at (word (type_word f.of)) in
    let hc = (within_back deep (parameters_marks 0 f.parameters) (colon ∷ type ∷ clauses) h.1).1.1 in
    let l1 = Toks clauses tail in
    let list : Toks (parameters_marks 0 f.parameters ++ colon ∷ type ∷ clauses) tail ≡ Toks (parameters_marks 0 f.parameters) (colon.token ∷ type.token ∷ l1) = tokens-append_more (parameters_marks 0 f.parameters) (colon ∷ type ∷ clauses) tail in
    let read = clauses_are_read deep true f.clauses None tail over hc st in
    let same : read.after ≡ tail = elim read.left [ inl e ↦ e | inr e ↦ e ] in
    record { state = read.state; is = rw (list, parameters_read 0 f.parameters (colon.token ∷ type.token ∷ l1), type_reads f.of f.type_at l1, read.is, same) refl; are = read.are }

braces_end : (w : BracedPhrase) (ts : List Token) → Ended (Toks (braced_marks w) ts)
braces_end w ts = brace_ends

ok_function : (f : FunctionPhrase) (c : Clauses) (ts : List Token) → c.clauses ≡ clauses_meant f.clauses → (let a : Halting Member = Ok (function_of f.at (head_with f c) (meant f.body.inner), ts) in a) ≡ Ok (function_meant f, ts)
unfolding head_with
ok_function f c ts are = rw are refl

function_read : (deep : ℕ) (f : FunctionPhrase) (ts : List Token) → Within deep (function_marks f) → StandsFunction f → function_at deep f.at (Toks (head_marks f ++ braced_marks f.body) ts) ≡ Ok (function_meant f, ts)
unfolding function_at function_by
function_read deep f ts h st =
    let hh = within_front deep (head_marks f) (braced_marks f.body) h.1 in
    let hb = within_back deep (head_marks f) (braced_marks f.body) h.1 in
    let tail = Toks (braced_marks f.body) ts in
    let list : Toks (head_marks f ++ braced_marks f.body) ts ≡ Toks (head_marks f) tail = tokens-append_more (head_marks f) (braced_marks f.body) ts in
    let head = head_read deep f tail (braces_end f.body ts) hh st.clauses in
    ap (function_at deep f.at) list ∙ rw (head.is, braced_reads deep f.body ts hb st.body) (ok_function f head.state ts head.are)

-- ---- members

-- the first token of a member, and what stands behind it
abbrev member_first : MemberPhrase → Mark
member_first (a_field p d) = mark 0 p (word words.Field)
member_first (a_predicate w) = mark 0 w.at (word words.Predicate)
member_first (a_function f) = mark 0 f.at (word words.Function)
member_first (a_method m) = mark 0 m.at (word words.Method)

abbrev member_inner : MemberPhrase → List Mark
member_inner (a_field p d) = declaration_marks 0 d
member_inner (a_predicate w) = predicate_inner w
member_inner (a_function f) = head_marks f ++ braced_marks f.body
member_inner (a_method m) = method_inner m

member_opens : (m : MemberPhrase) → member_marks m ≡ member_first m ∷ member_inner m
member_opens (a_field p d) = refl
member_opens (a_predicate w) = refl
member_opens (a_function f) = refl
member_opens (a_method m) = refl

member_begins : (m : MemberPhrase) → begins_member (member_first m).token.kind ≡ true
member_begins (a_field p d) = refl
member_begins (a_predicate w) = refl
member_begins (a_function f) = refl
member_begins (a_method m) = refl

member_read : (deep : ℕ) (m : MemberPhrase) (semi : Option Place) (tail : List Token) → Follows tail → Within deep (member_marks m) → StandsMember m → MemberHalted (member_at deep (member_first m).token (Toks (member_inner m) (Then semi tail))) (member_meant m) tail
unfolding member_at field_at
member_read deep (a_field p d) semi tail over h st = record { after = Then semi tail; is = rw (declaration_reads 0 d (Then semi tail)) refl; skips = skips semi tail over.ended }
member_read deep (a_predicate w) semi tail over h st = record { after = Then semi tail; is = ap halting (predicate_read deep w semi tail over h st); skips = skips semi tail over.ended }
member_read deep (a_function f) semi tail over h st = record { after = Then semi tail; is = function_read deep f (Then semi tail) h st; skips = skips semi tail over.ended }
member_read deep (a_method m) semi tail over h st = halted _ (method_meant m) tail (method_read deep m semi tail over h st)

-- ---- programs

member_ends : (m : MemberPhrase) → Ending (member_first m).token.kind
member_ends (a_field p d) = record { reaches = omega arith; not_requires = refl; not_ensures = refl; not_measure = refl; not_returns = refl; not_semi = refl }
member_ends (a_function f) = record { reaches = omega arith; not_requires = refl; not_ensures = refl; not_measure = refl; not_returns = refl; not_semi = refl }
member_ends (a_predicate w) = record { reaches = omega arith; not_requires = refl; not_ensures = refl; not_measure = refl; not_returns = refl; not_semi = refl }
member_ends (a_method m) = record { reaches = omega arith; not_requires = refl; not_ensures = refl; not_measure = refl; not_returns = refl; not_semi = refl }

member_no_brace : (m : MemberPhrase) → is_symbol signs.OpenBrace (member_first m).token.kind ≡ false
member_no_brace (a_field p d) = refl
member_no_brace (a_predicate w) = refl
member_no_brace (a_function f) = refl
member_no_brace (a_method m) = refl

-- members follow a member, or nothing does
members_follow : (w : ProgramPhrase) → Follows (Toks (program_marks w) [])
members_follow no_members = record { ended = tt; no_braces = refl }
members_follow (member m semi rest) = rw (member_opens m) (record { ended = member_ends m; no_braces = member_no_brace m })

pub program_read : (deep many : ℕ) (w : ProgramPhrase) (before : List Member) (most : ℕ) → Within deep (program_marks w) → StandsProgram w → length before + length (program_meant w) ≤ many → length (program_meant w) ≤ most → members_by deep many most before (Toks (program_marks w) []) ≡ Ok (before ++ program_meant w)
unfolding members_by
program_read deep many no_members before zero h st few le = ap Ok (sym (append-nil before))
program_read deep many no_members before (suc most) h st few le = ap Ok (sym (append-nil before))
program_read deep many (member m semi rest) before zero h st few le = absurd (omega (arith, le))
program_read deep many (member m semi rest) before (suc most) h st few le =
    let tail = semi_marks 0 semi ++ program_marks rest in
    let hm = within_front deep (member_marks m) tail h in
    let hr = within_back deep (semi_marks 0 semi) (program_marks rest) (within_back deep (member_marks m) tail h) in
    let after = Toks (semi_marks 0 semi) (Toks (program_marks rest) []) in
    let list : tokens_of tail ++ [] ≡ after = tokens-append_more (semi_marks 0 semi) (program_marks rest) [] in
    let all : tokens_of (member_marks m ++ tail) ++ [] ≡ (member_first m).token ∷ Toks (member_inner m) after = ap (λ l. tokens_of (l ++ tail) ++ []) (member_opens m) ∙ ap (λ l. (member_first m).token ∷ l) (tokens-append_more (member_inner m) tail [] ∙ ap (λ l. Toks (member_inner m) l) list) in
    let read = member_read deep m semi (Toks (program_marks rest) []) (members_follow rest) hm st.0 in
    let lt : ltb (length before) many ≡ true = lt-ltb _ _ (omega (arith, few)) in
    let n = length-append before (member_meant m ∷ []) in
    let go = program_read deep many rest (before ++ member_meant m ∷ []) most hr st.1 (omega (arith, n, few)) (omega (arith, le)) in
    rw (all, member_begins m, lt, read.is) (ap (λ l. members_by deep many most (before ++ member_meant m ∷ []) l) read.skips ∙ go ∙ ap Ok (append_assoc before (member_meant m ∷ []) (program_meant rest)))

pub program_long : (w : ProgramPhrase) → length (program_meant w) ≤ length (program_marks w)
program_long no_members = omega arith
program_long (member m semi rest) =
    let o = ap length (member_opens m) in
    let a = length-append (member_marks m) (semi_marks 0 semi ++ program_marks rest) in
    let b = length-append (semi_marks 0 semi) (program_marks rest) in
    let c = program_long rest in
    omega (arith, o, a, b, c)

pub spelled_programs_are_read : SpelledProgramsAreRead
unfolding members_within
spelled_programs_are_read ts p s =
    let w = s.spelled.phrase in
    let list : Toks (program_marks w) [] ≡ ts = append-nil (tokens_of (program_marks w)) ∙ s.spelled.tokens in
    let few : length (program_meant w) ≤ max_members = rw s.spelled.means s.few in
    let read = program_read limit max_members w [] (length (Toks (program_marks w) [])) s.within s.spelled.stands (omega (arith, few)) (long_enough (program_marks w) [] _ (program_long w)) in
    subst (λ l. members_by limit max_members (length l) [] l ≡ Ok p) list (read ∙ ap Ok s.spelled.means)
