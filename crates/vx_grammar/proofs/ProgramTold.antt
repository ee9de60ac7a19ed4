-- What reading programs tells.
use Rattle.std.proofs.Common.{◌≡◌, ℕ, zero, suc, ◌≤◌, ◌<◌, List, [], ◌∷◌, ◌++◌, None, Bool, true, false, Result, Ok, Err, length, refl, sym, ap, subst, ◌∙◌, append_assoc, arith, cond, ltb, length-append, inl, inr}
use Rattle.std.proofs.lemmas.List.{append-nil}
use Rattle.std.proofs.lemmas.Bool.{ltb-true, ltb-false}
use Rattle.vx_ast.specs.declared.Place.{Place}
use Rattle.vx_ast.specs.Written.{Declaration, IsField, Member, Program}
use Rattle.vx_tokens.specs.declared.token.Word.TheVariants as words
use Rattle.vx_tokens.specs.declared.token.Symbol.TheVariants as signs
use Rattle.vx_tokens.specs.Tokens.{Token, Kind, word, symbol}
use Rattle.vx_grammar.specs.Grammar.{Mark, mark, tokens_of}
use Rattle.vx_grammar.specs.Statements.{semi_marks}
use Rattle.vx_grammar.specs.Programs.{head_marks, MemberPhrase, a_field, a_predicate, a_function, a_method, member_meant, StandsMember, member_marks, ProgramPhrase, no_members, member, program_meant, StandsProgram, program_marks}
use Rattle.vx_grammar.specs.Reading.{Read, Unexpected, Measured, TooDeep}
use Rattle.vx_grammar.specs.StmtReading.{is_measure, begins_decreases, skip_semicolon, declaration_at}
use Rattle.vx_grammar.specs.MemberReading.{inside, no_body, second_measure, members_at, stopped, bodiless, measured_twice, Halting, halting, predicate_at, method_at, Halt, no_member, too_many, begins_member, then_members, members_by, members_within, field_at, member_by, member_at, limit, max_members}
use Rattle.vx_grammar.specs.Laws.{Within}
use Rattle.vx_grammar.specs.ProgramLaws.{GoesOnWith, ClauseFits, BeginsMeasure, StopsAtMeasure, FitsInFront, StopsAtBody, ProgramGoesOn, ProgramSays, ProgramsAreSpelled}
use Rattle.vx_grammar.proofs.Lists.{BeginsClause, tokens-append}
use Rattle.vx_grammar.proofs.Tells.{Grammar, Starts, Takes, Tells, TellsOk, TellsUnexpected, TellsMeasured, measure_first, marks_is, takes_then, takes_none, tells_as, starts_front}
use Rattle.vx_grammar.proofs.BodiesTold.{PredicateFor, predicate_tells}
use Rattle.vx_grammar.proofs.FunctionTold.{TellsMeasure, none_told, function_told, plain, plain_halting, FunctionFor, function_tells, HeadTaken, WantsBody, never_wants, function_wants}
use Rattle.vx_grammar.proofs.MethodTold.{SemiThen, semi_tells, MethodFor, method_tells}
use Rattle.vx_grammar.proofs.Bracketed.{Nested, led_tells}
use Rattle.vx_grammar.proofs.Sequence.{Sequence, Nothing, tells_sequence, starts_nothing, tells_nothing}
use Rattle.vx_grammar.proofs.StmtTells.{DeclarationFor, declaration_tells}

-- ---- members

pub record MemberFor (m : Member) (ms : List Mark) : Type 0 where
  pub phrase : MemberPhrase
  pub stands : StandsMember phrase
  pub means : member_meant phrase ≡ m
  pub spelled : member_marks phrase ≡ ms

field_of : Place → Declaration → Member
field_of place d = record { place = place; name = d.name; kind = IsField d.of }

abbrev FieldParts : Place → Grammar Member
FieldParts place = Sequence (DeclarationFor 0) (λ d. Nothing (field_of place d))

field_is : (t : Token) → t.kind ≡ word words.Field → (m : Member) (ms : List Mark) → Nested (record { token = t; count = 0 }) (FieldParts t.place) m ms → MemberFor m ms
unfolding field_of
field_is t k m ms h = by_parts h.inner h.is h.spelled
  where
    by_parts : (inner : List Mark) → (let s : Mark = record { token = t; count = 0 } in ms ≡ s ∷ inner) → FieldParts t.place m inner → MemberFor m ms
    by_parts inner is (d, a, b, q, r, (v, z)) = record {
      phrase = a_field t.place r.phrase;
      stands = tt;
      means = ap (λ (x : Declaration). let y : Member = record { place = t.place; name = x.name; kind = IsField x.of } in y) r.means ∙ sym v;
      spelled = marks_is t (word words.Field) 0 _ k ∙ ap (λ l. let s : Mark = record { token = t; count = 0 } in s ∷ l) (r.spelled ∙ sym (q ∙ rw z (append-nil a))) ∙ sym is;
    }

field_tells : (t : Token) (ts : List Token) → t.kind ≡ word words.Field → Tells MemberFor limit (t ∷ ts) (field_at t.place ts)
unfolding field_at field_of
field_tells t ts k =
    tells_as (Nested (record { token = t; count = 0 }) (FieldParts t.place)) MemberFor limit (t ∷ ts) _ (field_is t k)
    (led_tells (FieldParts t.place) limit 0 t ts _ (omega arith)
    (tells_sequence (DeclarationFor 0) _ limit ts (declaration_at ts) _ (λ d. starts_nothing _) (declaration_tells limit 0 ts (omega arith)) (λ d us. tells_nothing limit us _)))

plainly_tells : (t : Token) (ts : List Token) (r : Read Member) → Tells MemberFor limit (t ∷ ts) r → Tells MemberFor limit (t ∷ ts) (plain (halting r))
plainly_tells t ts r h = subst (Tells MemberFor limit (t ∷ ts)) (sym (plain_halting r)) h

member_by_tells : (t : Token) (k : Kind) (ts : List Token) → t.kind ≡ k → begins_member k ≡ true → Tells MemberFor limit (t ∷ ts) (plain (member_by limit t.place k ts))
member_by_tells t (word words.Field) ts k h = plainly_tells t ts (field_at t.place ts) (field_tells t ts k)
member_by_tells t (word words.Predicate) ts k h = plainly_tells t ts (predicate_at limit t.place ts) (tells_as PredicateFor MemberFor limit (t ∷ ts) _ (λ m ms r. record { phrase = a_predicate r.phrase; stands = r.stands; means = r.means; spelled = r.spelled }) (predicate_tells t ts k))
member_by_tells t (word words.Function) ts k h = tells_as FunctionFor MemberFor limit (t ∷ ts) _ (λ m ms r. record { phrase = a_function r.phrase; stands = r.stands; means = r.means; spelled = r.spelled }) (function_tells t ts k)
member_by_tells t (word words.Method) ts k h = plainly_tells t ts (method_at limit t.place ts) (tells_as MethodFor MemberFor limit (t ∷ ts) _ (λ m ms r. record { phrase = a_method r.phrase; stands = r.stands; means = r.means; spelled = r.spelled }) (method_tells t ts k))
member_by_tells t k ts e h = absurd cc

member_tells : (t : Token) (ts : List Token) → begins_member t.kind ≡ true → Tells MemberFor limit (t ∷ ts) (plain (member_at limit t ts))
unfolding member_at
member_tells t ts h = member_by_tells t t.kind ts refl h

member_by_wants : (t : Token) (k : Kind) (ts rest : List Token) → t.kind ≡ k → WantsBody (member_by limit t.place k ts) rest → HeadTaken (t ∷ ts) rest
member_by_wants t (word words.Field) ts rest k w = absurd (never_wants (field_at t.place ts) rest w)
member_by_wants t (word words.Predicate) ts rest k w = absurd (never_wants (predicate_at limit t.place ts) rest w)
member_by_wants t (word words.Function) ts rest k w = function_wants t ts rest k w
member_by_wants t (word words.Method) ts rest k w = absurd (never_wants (method_at limit t.place ts) rest w)
member_by_wants t k ts rest e w = absurd (never_wants (let a : Read Member = Err (Unexpected ts) in a) rest w)

member_wants : (t : Token) (ts rest : List Token) → WantsBody (member_at limit t ts) rest → HeadTaken (t ∷ ts) rest
unfolding member_at
member_wants t ts rest w = member_by_wants t t.kind ts rest refl w

member_by_told : (place : Place) (k : Kind) (ts : List Token) → TellsMeasure (member_by limit place k ts)
member_by_told place (word words.Field) ts = none_told (field_at place ts)
member_by_told place (word words.Predicate) ts = none_told (predicate_at limit place ts)
member_by_told place (word words.Function) ts = function_told place ts
member_by_told place (word words.Method) ts = none_told (method_at limit place ts)
member_by_told place k ts = tt

member_told : (t : Token) (ts : List Token) → TellsMeasure (member_at limit t ts)
unfolding member_at
member_told t ts = member_by_told t.place t.kind ts

-- members, and then a part of what follows
pub record Front (before : List Member) (after : List Member) (ms : List Mark) : Type 0 where
  pub phrase : ProgramPhrase
  pub stands : StandsProgram phrase
  pub means : before ++ program_meant phrase ≡ after
  pub spelled : program_marks phrase ≡ ms

no_front : (before : List Member) → Front before before []
no_front before = record { phrase = no_members; stands = tt; means = append-nil before; spelled = refl }

one_front : (before : List Member) (m : Member) (ms ns : List Mark) → MemberFor m ms → SemiThen m m ns → Front before (before ++ m ∷ []) (ms ++ ns)
one_front before m ms ns g (semi, v, z) = record {
  phrase = member g.phrase semi no_members;
  stands = (g.stands, tt);
  means = ap (λ x. before ++ x ∷ []) g.means;
  spelled = ap (λ l. member_marks g.phrase ++ l) (append-nil (semi_marks 0 semi) ∙ sym z) ∙ ap (λ l. l ++ ns) g.spelled;
}

-- one program behind another
both : ProgramPhrase → ProgramPhrase → ProgramPhrase
both no_members w = w
both (member m semi rest) w = member m semi (both rest w)

both_meant : (a b : ProgramPhrase) → program_meant (both a b) ≡ program_meant a ++ program_meant b
unfolding both
both_meant no_members b = refl
both_meant (member m semi rest) b = ap (λ l. member_meant m ∷ l) (both_meant rest b)

both_marks : (a b : ProgramPhrase) → program_marks (both a b) ≡ program_marks a ++ program_marks b
unfolding both
both_marks no_members b = refl
both_marks (member m semi rest) b =
    ap (λ l. member_marks m ++ (semi_marks 0 semi ++ l)) (both_marks rest b)
    ∙ ap (λ l. member_marks m ++ l) (sym (append_assoc (semi_marks 0 semi) (program_marks rest) (program_marks b)))
    ∙ sym (append_assoc (member_marks m) (semi_marks 0 semi ++ program_marks rest) (program_marks b))

both_stand : (a b : ProgramPhrase) → StandsProgram a → StandsProgram b → StandsProgram (both a b)
unfolding both
both_stand no_members b h k = k
both_stand (member m semi rest) b h k = (h.0, both_stand rest b h.1 k)

fronts : (a b c : List Member) (ms ns : List Mark) → Front a b ms → Front b c ns → Front a c (ms ++ ns)
fronts a b c ms ns f g = record {
  phrase = both f.phrase g.phrase;
  stands = both_stand f.phrase g.phrase f.stands g.stands;
  means = ap (λ l. a ++ l) (both_meant f.phrase g.phrase) ∙ sym (append_assoc a (program_meant f.phrase) (program_meant g.phrase)) ∙ ap (λ l. l ++ program_meant g.phrase) f.means ∙ g.means;
  spelled = both_marks f.phrase g.phrase ∙ ap (λ l. l ++ program_marks g.phrase) f.spelled ∙ ap (λ l. ms ++ l) g.spelled;
}

-- members, and the beginning of one more
front_goes_on : (before after : List Member) (ms ns : List Mark) → Front before after ms → Starts MemberFor ns → ProgramGoesOn (ms ++ ns)
front_goes_on before after ms ns f s = record {
  phrase = both f.phrase (member s.spelled.phrase None no_members);
  stands = both_stand f.phrase (member s.spelled.phrase None no_members) f.stands (s.spelled.stands, tt);
  more = s.more;
  marks = both_marks f.phrase (member s.spelled.phrase None no_members) ∙ ap (λ l. l ++ (member_marks s.spelled.phrase ++ [])) f.spelled ∙ ap (λ l. ms ++ l) (append-nil (member_marks s.spelled.phrase) ∙ s.spelled.spelled) ∙ sym (append_assoc ms ns s.more);
}

front_alone : (before after : List Member) (ms : List Mark) → Front before after ms → ProgramGoesOn ms
front_alone before after ms f = record { phrase = f.phrase; stands = f.stands; more = []; marks = f.spelled ∙ sym (append-nil ms) }

-- ---- what an answer says, behind members that were read before

-- what is told of a measure, but that no clause fits elsewhere
abbrev pub MeasureTold : List Token → Result Program Halt → Type 0
MeasureTold ts (Err (inside (Measured rest))) = StopsAtMeasure ts rest
MeasureTold ts (Err (inside (Unexpected rest))) = Unit {0}
MeasureTold ts (Err (no_member rest)) = Unit {0}
MeasureTold ts (Err (second_measure rest)) = BeginsMeasure rest
MeasureTold ts (Err (no_body rest)) = BeginsMeasure rest → ⊥
MeasureTold ts (Err (inside (TooDeep rest))) = Unit {0}
MeasureTold ts (Err (too_many rest)) = Unit {0}
MeasureTold ts (Ok p) = Unit {0}

-- what an answer says of all tokens, where those before were these members
abbrev SaysBehind : List Token → List Member → List Mark → List Token → Result Program Halt → Type 0
SaysBehind all before ms ts r = Front [] before ms → Takes limit all ms ts → length before ≤ max_members → ProgramSays all r × MeasureTold all r

says_none : (all : List Token) (before : List Member) (ms : List Mark) (rest : List Token) → SaysBehind all before ms rest (Err (no_member rest))
says_none all before ms rest f takes few = ((ms, record { tokens = takes.tokens; within = takes.within; goes_on = front_alone [] before ms f }), tt)

says_end : (all : List Token) (before : List Member) (ms : List Mark) → SaysBehind all before ms [] (Ok before)
says_end all before ms f takes few = (
  record {
    spelled = record { phrase = f.phrase; stands = f.stands; means = f.means; tokens = ap tokens_of f.spelled ∙ sym (append-nil (tokens_of ms)) ∙ sym takes.tokens };
    within = subst (Within limit) (sym f.spelled) takes.within;
    few = few;
  },
  tt,
)

says_many : (all : List Token) (before : List Member) (ms : List Mark) (t : Token) (ts : List Token) → begins_member t.kind ≡ true → max_members ≤ length before → SaysBehind all before ms (t ∷ ts) (Err (too_many (t ∷ ts)))
says_many all before ms t ts h many f takes few = (
  record {
    front = tokens_of ms;
    members = before;
    first = t;
    after = ts;
    is = takes.tokens;
    rest_is = refl;
    spelled = record { phrase = f.phrase; stands = f.stands; means = f.means; tokens = ap tokens_of f.spelled };
    many = many;
    begins_member = h;
  },
  tt,
)

-- behind members, up to where the next one does not go on
unfit_behind : (all : List Token) (before : List Member) (ms : List Mark) (ts rest : List Token) → TellsUnexpected MemberFor limit ts rest → Front [] before ms → Takes limit all ms ts → FitsInFront all rest
unfit_behind all before ms ts rest h f takes =
    let both_taken = takes_then limit all ts rest ms h.marks takes h.takes in
    (ms ++ h.marks, record { tokens = both_taken.tokens; within = both_taken.within; goes_on = front_goes_on [] before ms h.marks f h.starts })

-- and where a body is due
body_behind_members : (all : List Token) (before : List Member) (ms : List Mark) (ts rest : List Token) → HeadTaken ts rest → Front [] before ms → Takes limit all ms ts → StopsAtBody all rest
body_behind_members all before ms ts rest h f takes =
    let head = mark 0 h.function.at (word words.Function) ∷ head_marks h.function in
    let both_taken = takes_then limit all ts rest ms head takes h.takes in
    record {
      members = f.phrase;
      function = h.function;
      members_stand = f.stands;
      clauses_stand = h.stands;
      tokens = both_taken.tokens ∙ ap (λ l. tokens_of (l ++ head) ++ rest) (sym f.spelled);
    }

-- a program goes on with a mark of this kind
goes_on_with : (ms : List Mark) (m : Mark) (k : Kind) → m.token.kind ≡ k → ProgramGoesOn (ms ++ m ∷ []) → GoesOnWith (tokens_of ms) k
goes_on_with ms m k e g = record {
  place = m.token.place;
  more = tokens_of g.more;
  program = program_meant g.phrase;
  spelled = record {
    phrase = g.phrase;
    stands = g.stands;
    means = refl;
    tokens = ap tokens_of (g.marks ∙ append_assoc ms (m ∷ []) g.more) ∙ tokens-append ms (m ∷ g.more) ∙ ap (λ (x : Kind). let u : Token = record { kind = x; place = m.token.place } in tokens_of ms ++ u ∷ tokens_of g.more) e;
  };
}

clause_fits : (ms : List Mark) (m : Mark) → BeginsClause m.token.kind → ProgramGoesOn (ms ++ m ∷ []) → ClauseFits (tokens_of ms)
clause_fits ms m (inl e) g = inl (goes_on_with ms m (word words.Requires) e g)
clause_fits ms m (inr e) g = inr (goes_on_with ms m (word words.Invariant) e g)

-- behind members, up to a measure
measure_behind : (all : List Token) (before : List Member) (ms : List Mark) (ts rest : List Token) → TellsMeasured MemberFor limit ts rest → Front [] before ms → Takes limit all ms ts → StopsAtMeasure all rest
measure_behind all before ms ts rest h f takes =
    let both_taken = takes_then limit all ts rest ms h.marks takes h.takes in
    record {
      front = tokens_of (ms ++ h.marks);
      is = both_taken.tokens;
      measure = subst BeginsMeasure (sym h.first) h.is_measure;
      clause = clause_fits (ms ++ h.marks) h.clause h.clause_is (subst ProgramGoesOn (sym (append_assoc ms h.marks (h.clause ∷ []))) (front_goes_on [] before ms (h.marks ++ h.clause ∷ []) f h.clause_starts));
      block = goes_on_with (ms ++ h.marks) h.block (symbol signs.OpenBrace) h.block_is (subst ProgramGoesOn (sym (append_assoc ms h.marks (h.block ∷ []))) (front_goes_on [] before ms (h.marks ++ h.block ∷ []) f h.block_starts));
    }

no_measure : (ts : List Token) → begins_decreases ts ≡ false → BeginsMeasure ts → ⊥
no_measure (t ∷ ts) e h = let k : is_measure t.kind ≡ true = ap is_measure h in absurd cc
no_measure [] e h = h

a_measure : (ts : List Token) → begins_decreases ts ≡ true → BeginsMeasure ts
a_measure ts e = let m = measure_first ts e in subst BeginsMeasure (sym m.first) m.is_measure

says_stop : (all : List Token) (before : List Member) (ms : List Mark) (ts : List Token) (r : Halting Member) (go : Member → List Token → Result Program Halt) → Tells MemberFor limit ts (plain r) → ((rest : List Token) → WantsBody r rest → HeadTaken ts rest) → TellsMeasure r
    → ((m : Member) (rest : List Token) (ns : List Mark) → MemberFor m ns → Takes limit ts ns rest → SaysBehind all before ms ts (go m rest))
    → SaysBehind all before ms ts (then_members r go)
says_stop all before ms ts (Ok (m, rest)) go h wants d k f takes few = k m rest h.marks h.spelled h.takes f takes few
says_stop all before ms ts (Err (stopped (Unexpected rest))) go h wants d k f takes few = (unfit_behind all before ms ts rest h f takes, tt)
says_stop all before ms ts (Err (stopped (Measured rest))) go h wants d k f takes few = (unfit_behind all before ms ts rest (record { marks = h.marks; takes = h.takes; starts = starts_front MemberFor h.marks (h.block ∷ []) h.block_starts }) f takes, measure_behind all before ms ts rest h f takes)
says_stop all before ms ts (Err (bodiless rest)) go h wants d k f takes few = ((unfit_behind all before ms ts rest h f takes, body_behind_members all before ms ts rest (wants rest (inl refl)) f takes), no_measure rest d)
says_stop all before ms ts (Err (measured_twice rest)) go h wants d k f takes few = ((unfit_behind all before ms ts rest h f takes, body_behind_members all before ms ts rest (wants rest (inr refl)) f takes), a_measure rest d)
says_stop all before ms ts (Err (stopped (TooDeep rest))) go h wants d k f takes few =
    let both_taken = takes_then limit all ts rest ms h.marks takes h.takes in
    let deeper : ProgramGoesOn ((ms ++ h.marks) ++ h.deep ∷ []) = subst ProgramGoesOn (sym (append_assoc ms h.marks (h.deep ∷ []))) (front_goes_on [] before ms (h.marks ++ h.deep ∷ []) f h.starts) in (
      record {
        front = ms ++ h.marks;
        deep = h.deep;
        after = h.after;
        first = h.first;
        fits = record { tokens = both_taken.tokens; within = both_taken.within; goes_on = record { phrase = deeper.phrase; stands = deeper.stands; more = h.deep ∷ deeper.more; marks = deeper.marks ∙ append_assoc (ms ++ h.marks) (h.deep ∷ []) deeper.more } };
        count = h.count;
        goes_on = deeper;
      },
      tt,
    )

-- behind one member more and its semicolon
says_on : (all : List Token) (before : List Member) (ms : List Mark) (ts : List Token) (r : Member → List Token → Result Program Halt) → length before < max_members → ((m : Member) (us : List Token) (ns : List Mark) → SaysBehind all (before ++ m ∷ []) ns us (r m us))
    → (m : Member) (rest : List Token) (ns : List Mark) → MemberFor m ns → Takes limit ts ns rest → SaysBehind all before ms ts (r m (skip_semicolon rest))
says_on all before ms ts r lt h m rest ns g taken f takes few = by_semi (semi_tells limit m rest)
  where
    by_semi : TellsOk (SemiThen m) limit rest m (skip_semicolon rest) → ProgramSays all (r m (skip_semicolon rest)) × MeasureTold all (r m (skip_semicolon rest))
    by_semi s =
        let first = takes_then limit all ts rest ms ns takes taken in
        let second = takes_then limit all rest (skip_semicolon rest) (ms ++ ns) s.marks first s.takes in
        let front = fronts [] before (before ++ m ∷ []) ms (ns ++ s.marks) f (one_front before m ns s.marks g s.spelled) in
        let n = length-append before (m ∷ []) in
        h m (skip_semicolon rest) ((ms ++ ns) ++ s.marks) (subst (Front [] (before ++ m ∷ [])) (sym (append_assoc ms ns s.marks)) front) second (omega (arith, n, lt))

says_member : (all : List Token) (before : List Member) (ms : List Mark) (t : Token) (ts : List Token) (go : Member → List Token → Result Program Halt) (b : Bool) → ltb (length before) max_members ≡ b → begins_member t.kind ≡ true → ((m : Member) (us : List Token) (ns : List Mark) → SaysBehind all (before ++ m ∷ []) ns us (go m us))
    → SaysBehind all before ms (t ∷ ts) (cond b (then_members (member_at limit t ts) (λ m after. go m (skip_semicolon after))) (Err (too_many (t ∷ ts))))
says_member all before ms t ts go true lt h k =
    says_stop all before ms (t ∷ ts) (member_at limit t ts) (λ m after. go m (skip_semicolon after)) (member_tells t ts h) (member_wants t ts) (member_told t ts)
    (says_on all before ms (t ∷ ts) go (ltb-true _ _ lt) k)
says_member all before ms t ts go false ge h k = says_many all before ms t ts h (ltb-false _ _ ge)

says_turn : (all : List Token) (before : List Member) (ms : List Mark) (t : Token) (ts : List Token) (go : Member → List Token → Result Program Halt) (b : Bool) → begins_member t.kind ≡ b → ((m : Member) (us : List Token) (ns : List Mark) → SaysBehind all (before ++ m ∷ []) ns us (go m us))
    → SaysBehind all before ms (t ∷ ts) (cond b (cond (ltb (length before) max_members) (then_members (member_at limit t ts) (λ m after. go m (skip_semicolon after))) (Err (too_many (t ∷ ts)))) (Err (no_member (t ∷ ts))))
says_turn all before ms t ts go true h k = says_member all before ms t ts go (ltb (length before) max_members) refl h k
says_turn all before ms t ts go false h k = says_none all before ms (t ∷ ts)

members_say : (most : ℕ) (all : List Token) (before : List Member) (ms : List Mark) (ts : List Token) → SaysBehind all before ms ts (members_by limit max_members most before ts)
unfolding members_by
members_say zero all before ms [] = says_end all before ms
members_say (suc most) all before ms [] = says_end all before ms
members_say zero all before ms (t ∷ ts) = says_none all before ms (t ∷ ts)
members_say (suc most) all before ms (t ∷ ts) = says_turn all before ms t ts (λ m us. members_by limit max_members most (before ++ m ∷ []) us) (begins_member t.kind) refl (λ m us ns. members_say most all (before ++ m ∷ []) ns us)

all_say : (ts : List Token) → ProgramSays ts (members_at ts) × MeasureTold ts (members_at ts)
unfolding members_within
all_say ts = members_say (length ts) ts [] [] ts (no_front []) (takes_none limit ts) (omega arith)

pub programs_are_spelled : ProgramsAreSpelled
programs_are_spelled ts = (all_say ts).0

pub measures_told : (ts : List Token) → MeasureTold ts (members_at ts)
measures_told ts = (all_say ts).1
