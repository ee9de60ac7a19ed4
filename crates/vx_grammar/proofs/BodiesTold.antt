-- What reading an expression between braces, the body of a predicate and the body of a method tells.
use Rattle.std.proofs.Common.{◌≡◌, List, [], ◌∷◌, ◌++◌, Option, Some, None, Bool, true, false, Ok, refl, sym, ap, ◌∙◌, arith, cond}
use Rattle.std.proofs.lemmas.List.{append-nil}
use Rattle.vx_ast.specs.declared.Place.{Place}
use Rattle.vx_ast.specs.Written.{Placed, Expr, Block, Declaration, Member}
use Rattle.vx_tokens.specs.declared.token.Word.TheVariants as words
use Rattle.vx_tokens.specs.declared.token.Symbol.TheVariants as signs
use Rattle.vx_tokens.specs.Tokens.{Token, name, word}
use Rattle.vx_grammar.specs.Grammar.{Mark, mark, meant, StandsAt}
use Rattle.vx_grammar.specs.Statements.{BlockPhrase}
use Rattle.vx_grammar.specs.Programs.{BracedPhrase, braced_marks, given_meant, GivenStands, given_marks, PredicatePhrase, predicate_meant, predicate_marks, body_meant, BodyStands, body_marks, parameters_marks}
use Rattle.vx_grammar.specs.Reading.{choice, below, name_at}
use Rattle.vx_grammar.specs.StmtReading.{block_at, stmts_below}
use Rattle.vx_grammar.specs.MemberReading.{limit, begins_braces, braced_at, some_braced, given_at, predicate_of, predicate_at, parameters_at, some_block}
use Rattle.vx_grammar.proofs.Tells.{Grammar, Starts, Tells, somewhere, NameFor, name_tells, marks_is, tells_as, tells_here}
use Rattle.vx_grammar.proofs.Sequence.{Sequence, Nothing, tells_sequence, starts_sequence, starts_nothing, tells_nothing}
use Rattle.vx_grammar.proofs.Bracketed.{Nested, Bracketed, bracket_tells, led_tells}
use Rattle.vx_grammar.proofs.PhraseFor.{PhraseFor, starts_any, tells_nested, count_down}
use Rattle.vx_grammar.proofs.Means.{reading_tells}
use Rattle.vx_grammar.proofs.StmtFor.{BlockFor}
use Rattle.vx_grammar.proofs.StmtTold.{block_reading_tells}
use Rattle.vx_grammar.proofs.MemberTold.{ParametersFor, parameters_tells, starts_parameters}

-- ---- expressions between braces

pub record BracedFor (e : Expr) (ms : List Mark) : Type 0 where
  pub phrase : BracedPhrase
  pub stands : StandsAt 8 phrase.inner
  pub means : meant phrase.inner ≡ e
  pub spelled : braced_marks phrase ≡ ms

braced_of : (e : Expr) (ms : List Mark) → Bracketed 0 signs.OpenBrace signs.CloseBrace (PhraseFor 1 8) e ms → BracedFor e ms
braced_of e ms h = record {
  phrase = record { from = h.from; inner = h.spelled.phrase; to = h.to };
  stands = h.spelled.stands;
  means = h.spelled.means;
  spelled = sym (h.is ∙ rw (← h.spelled.spelled) refl);
}

pub starts_braced : Starts BracedFor []
starts_braced =
    let s = starts_any 1 8 in
    let w : BracedPhrase = record { from = somewhere; inner = s.spelled.phrase; to = somewhere } in
    record { value = s.value; more = braced_marks w; spelled = record { phrase = w; stands = s.spelled.stands; means = s.spelled.means; spelled = refl } }

pub braced_tells : (ts : List Token) → Tells BracedFor limit ts (braced_at limit ts)
unfolding braced_at
braced_tells ts =
    tells_as (Bracketed 0 signs.OpenBrace signs.CloseBrace (PhraseFor 1 8)) BracedFor limit ts _ braced_of
    (bracket_tells signs.OpenBrace signs.CloseBrace (PhraseFor 1 8) (λ here us. below limit choice here us) limit 0 (starts_any 1 8)
    (λ t us. tells_nested choice (PhraseFor 1 8) limit 0 limit t us (omega arith) (starts_any 1 8) (λ less s. reading_tells limit 1 less us (count_down limit 0 limit less (omega arith) s))) ts)

-- ---- bodies of predicates

record GivenFor (o : Option Expr) (ms : List Mark) : Type 0 where
  phrase : Option BracedPhrase
  stands : GivenStands phrase
  means : given_meant phrase ≡ o
  spelled : given_marks phrase ≡ ms

no_given : GivenFor None []
no_given = record { phrase = None; stands = tt; means = refl; spelled = refl }

starts_given : Starts GivenFor []
starts_given = record { value = None; more = []; spelled = no_given }

given_of : (o : Option Expr) (ms : List Mark) → Sequence BracedFor (λ e. Nothing (Some e)) o ms → GivenFor o ms
given_of o ms (e, a, b, q, r, (v, z)) = record {
  phrase = Some r.phrase;
  stands = r.stands;
  means = ap Some r.means ∙ sym v;
  spelled = r.spelled ∙ sym (q ∙ rw z (append-nil a));
}

given_by_tells : (ts : List Token) (b : Bool) → Tells GivenFor limit ts (cond b (some_braced limit ts) (Ok (None, ts)))
unfolding some_braced
given_by_tells ts true =
    tells_as (Sequence BracedFor (λ e. Nothing (Some e))) GivenFor limit ts _ given_of
    (tells_sequence BracedFor _ limit ts (braced_at limit ts) _ (λ e. starts_nothing _) (braced_tells ts) (λ e us. tells_nothing limit us _))
given_by_tells ts false = tells_here GivenFor limit ts None no_given

given_tells : (ts : List Token) → Tells GivenFor limit ts (given_at limit ts)
unfolding given_at
given_tells ts = given_by_tells ts (begins_braces ts)

-- ---- predicates

pub record PredicateFor (m : Member) (ms : List Mark) : Type 0 where
  pub phrase : PredicatePhrase
  pub stands : GivenStands phrase.body
  pub means : predicate_meant phrase ≡ m
  pub spelled : predicate_marks phrase ≡ ms

abbrev PredicateParts : Place → Grammar Member
PredicateParts place = Sequence (NameFor 0) (λ x. Sequence (ParametersFor 0) (λ ps. Sequence GivenFor (λ b. Nothing (predicate_of place x ps b))))

predicate_of_parts : (t : Token) → t.kind ≡ word words.Predicate → (m : Member) (ms : List Mark) → Nested (record { token = t; count = 0 }) (PredicateParts t.place) m ms → PredicateFor m ms
predicate_of_parts t k m ms h = by_parts h.inner h.is h.spelled
  where
    by_parts : (inner : List Mark) → (let s : Mark = record { token = t; count = 0 } in ms ≡ s ∷ inner) → PredicateParts t.place m inner → PredicateFor m ms
    by_parts inner is (x, a, a', q, z, (ps, b, b', q', g, (o, c, c', q'', r, (v, y)))) = record {
      phrase = record { at = t.place; name_at = x.place; text = x.name; parameters = g.phrase; body = r.phrase };
      stands = r.stands;
      means = ap (λ l. predicate_of t.place x l (given_meant r.phrase)) g.means ∙ ap (predicate_of t.place x ps) r.means ∙ sym v;
      spelled = marks_is t (word words.Predicate) 0 _ k ∙ ap (λ l. let s : Mark = record { token = t; count = 0 } in s ∷ l) (sym all) ∙ sym is;
    }
      where
        all : inner ≡ mark 0 x.place (name x.name) ∷ (parameters_marks 0 g.phrase ++ given_marks r.phrase)
        all = q ∙ ap (λ l. l ++ a') z ∙ ap (λ l. mark 0 x.place (name x.name) ∷ l) (q' ∙ ap (λ l. l ++ b') (sym g.spelled) ∙ ap (λ l. parameters_marks 0 g.phrase ++ l) (q'' ∙ ap (λ l. c ++ l) y ∙ append-nil c ∙ sym r.spelled))

starts_predicate_body : (place : Place) (x : Placed) (ps : List Declaration) → Starts (Sequence GivenFor (λ b. Nothing (predicate_of place x ps b))) []
starts_predicate_body place x ps = starts_sequence GivenFor _ starts_given (λ b. starts_nothing _)

-- a predicate that begins with this token
pub predicate_tells : (t : Token) (ts : List Token) → t.kind ≡ word words.Predicate → Tells PredicateFor limit (t ∷ ts) (predicate_at limit t.place ts)
unfolding predicate_at
predicate_tells t ts k =
    tells_as (Nested (record { token = t; count = 0 }) (PredicateParts t.place)) PredicateFor limit (t ∷ ts) _ (predicate_of_parts t k)
    (led_tells (PredicateParts t.place) limit 0 t ts _ (omega arith)
    (tells_sequence (NameFor 0) _ limit ts (name_at ts) _ (λ x. starts_sequence (ParametersFor 0) _ (starts_parameters 0) (λ ps. starts_predicate_body t.place x ps)) (name_tells limit 0 ts (omega arith))
    (λ x us. tells_sequence (ParametersFor 0) _ limit us (parameters_at us) _ (λ ps. starts_predicate_body t.place x ps) (parameters_tells limit 0 us (omega arith))
    (λ ps vs. tells_sequence GivenFor _ limit vs (given_at limit vs) _ (λ b. starts_nothing _) (given_tells vs)
    (λ b ws. tells_nothing limit ws _)))))

-- ---- bodies of methods

pub record BodyFor (o : Option Block) (ms : List Mark) : Type 0 where
  pub phrase : Option BlockPhrase
  pub stands : BodyStands phrase
  pub means : body_meant phrase ≡ o
  pub spelled : body_marks phrase ≡ ms

pub no_body_for : BodyFor None []
no_body_for = record { phrase = None; stands = tt; means = refl; spelled = refl }

pub starts_body : Starts BodyFor []
starts_body = record { value = None; more = []; spelled = no_body_for }

body_of : (o : Option Block) (ms : List Mark) → Sequence (BlockFor 0) (λ b. Nothing (Some b)) o ms → BodyFor o ms
body_of o ms (e, a, b, q, r, (v, z)) = record {
  phrase = Some r.phrase;
  stands = r.stands;
  means = ap Some r.means ∙ sym v;
  spelled = r.spelled ∙ sym (q ∙ rw z (append-nil a));
}

-- behind an opening brace
pub block_body_tells : (ts : List Token) → Tells BodyFor limit ts (some_block limit ts)
unfolding some_block
block_body_tells ts =
    tells_as (Sequence (BlockFor 0) (λ b. Nothing (Some b))) BodyFor limit ts _ body_of
    (tells_sequence (BlockFor 0) _ limit ts (block_at (stmts_below limit) ts) _ (λ b. starts_nothing _) (block_reading_tells limit 0 limit ts (omega arith)) (λ b us. tells_nothing limit us _))
