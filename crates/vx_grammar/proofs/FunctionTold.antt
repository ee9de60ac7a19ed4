-- What reading functions tells.
use Rattle.std.proofs.Common.{◌≡◌, List, [], ◌∷◌, ◌++◌, Bool, true, false, Ok, Err, refl, sym, ap, subst, ◌∙◌, arith, cond, inl, inr, ◌⊎◌}
use Rattle.std.proofs.lemmas.List.{append-nil}
use Rattle.vx_ast.specs.declared.Place.{Place}
use Rattle.vx_ast.specs.declared.ValueType.{ValueType}
use Rattle.vx_ast.specs.Written.{Placed, Expr, Declaration, Member}
use Rattle.vx_tokens.specs.declared.token.Word.TheVariants as words
use Rattle.vx_tokens.specs.declared.token.Symbol.TheVariants as signs
use Rattle.vx_tokens.specs.Tokens.{Token, name, word, symbol}
use Rattle.vx_grammar.specs.Grammar.{literal, meant, Mark, mark, tokens_of}
use Rattle.vx_grammar.specs.Laws.{Within}
use Rattle.vx_grammar.specs.Statements.{type_word}
use Rattle.vx_grammar.specs.Programs.{ParametersPhrase, ClausesPhrase, BracedPhrase, braced_marks, FunctionPhrase, function_meant, StandsFunction, head_marks, function_marks, parameters_marks, clauses_marks, StandsClauses, clauses_meant, declarations_meant}
use Rattle.vx_grammar.specs.Reading.{Read, Unexpected, expect, name_at, ◌>>=◌}
use Rattle.vx_grammar.specs.StmtReading.{is_measure, begins_decreases, type_at}
use Rattle.vx_grammar.specs.MemberReading.{limit, stopped, bodiless, measured_twice, Halting, halting, Clauses, parameters_at, clauses_at, begins_braces, braced_at, Head, function_of, head_at, function_by, no_body_at, behind_head, function_at}
use Rattle.vx_grammar.proofs.Tells.{Grammar, Starts, Takes, Tells, Sign, starts_sign, somewhere, token_is, marks_is, NameFor, name_tells, tells_as, tells_unexpected, tells_expect}
use Rattle.vx_grammar.proofs.Sequence.{Sequence, Nothing, tells_sequence, starts_sequence, starts_nothing, tells_nothing}
use Rattle.vx_grammar.proofs.Bracketed.{Nested, led_tells}
use Rattle.vx_grammar.proofs.StmtTells.{TypeFor, starts_type, type_tells}
use Rattle.vx_grammar.proofs.MemberTold.{ParametersFor, parameters_tells, starts_parameters}
use Rattle.vx_grammar.proofs.BodiesTold.{BracedFor, starts_braced, braced_tells}
use Rattle.vx_grammar.proofs.MethodTold.{ClausesFor, starts_clauses, clauses_tells}

-- what is read, where a token that fits nowhere is unexpected
abbrev pub plain : {A : Type 0} → Halting A → Read A
plain (Ok x) = Ok x
plain (Err (stopped stop)) = Err stop
plain (Err (bodiless rest)) = Err (Unexpected rest)
plain (Err (measured_twice rest)) = Err (Unexpected rest)

pub plain_halting : {A : Type 0} (r : Read A) → plain (halting r) ≡ r
plain_halting (Ok x) = refl
plain_halting (Err stop) = refl

-- ---- up to the body

-- a function behind its first word, up to its body
pub record HeadFor (h : Head) (ms : List Mark) : Type 0 where
  pub parameters : ParametersPhrase
  pub colon_at : Place
  pub type_at : Place
  pub clauses : ClausesPhrase
  pub stands : StandsClauses true clauses
  pub parameters_are : declarations_meant parameters.inner ≡ h.parameters
  pub clauses_are : clauses_meant clauses ≡ h.clauses.clauses
  pub spelled : mark 0 h.name.place (name h.name.name) ∷ (parameters_marks 0 parameters ++ mark 0 colon_at (symbol signs.Colon) ∷ mark 0 type_at (word (type_word h.of)) ∷ clauses_marks 0 0 clauses) ≡ ms

head_with : Placed → List Declaration → ValueType → Clauses → Head
head_with x ps t c = record { name = x; parameters = ps; of = t; clauses = c }

abbrev HeadParts : Grammar Head
HeadParts = Sequence (NameFor 0) (λ x. Sequence (ParametersFor 0) (λ ps. Sequence (Sign 0 signs.Colon) (λ c. Sequence (TypeFor 0) (λ t. Sequence (ClausesFor true) (λ cl. Nothing (head_with x ps t.of cl))))))

head_of : (h : Head) (ms : List Mark) → HeadParts h ms → HeadFor h ms
unfolding head_with
head_of h ms (x, a, a', q, z, (ps, b, b', q', g, (c, d, d', q'', (cp, ce, cm), (t, f, f', q3, te, (cl, i, i', q4, r, (v, y)))))) = subst (λ k. HeadFor k ms) (sym v) (record {
  parameters = g.phrase;
  colon_at = cp;
  type_at = t.place;
  clauses = r.phrase;
  stands = r.stands;
  parameters_are = g.means;
  clauses_are = r.clauses_are;
  spelled = sym all;
})
  where
    behind_type : f' ≡ clauses_marks 0 0 r.phrase
    behind_type = q4 ∙ ap (λ l. i ++ l) y ∙ append-nil i ∙ sym r.spelled

    behind_colon : d' ≡ mark 0 t.place (word (type_word t.of)) ∷ clauses_marks 0 0 r.phrase
    behind_colon = q3 ∙ ap (λ l. l ++ f') te ∙ ap (λ l. mark 0 t.place (word (type_word t.of)) ∷ l) behind_type

    behind_parameters : b' ≡ mark 0 cp (symbol signs.Colon) ∷ mark 0 t.place (word (type_word t.of)) ∷ clauses_marks 0 0 r.phrase
    behind_parameters = q'' ∙ ap (λ l. l ++ d') cm ∙ ap (λ l. mark 0 cp (symbol signs.Colon) ∷ l) behind_colon

    all : ms ≡ mark 0 x.place (name x.name) ∷ (parameters_marks 0 g.phrase ++ mark 0 cp (symbol signs.Colon) ∷ mark 0 t.place (word (type_word t.of)) ∷ clauses_marks 0 0 r.phrase)
    all = q ∙ ap (λ l. l ++ a') z ∙ ap (λ l. mark 0 x.place (name x.name) ∷ l) (q' ∙ ap (λ l. l ++ b') (sym g.spelled) ∙ ap (λ l. parameters_marks 0 g.phrase ++ l) behind_parameters)

starts_contract : (x : Placed) (ps : List Declaration) (t : ValueType) → Starts (Sequence (ClausesFor true) (λ cl. Nothing (head_with x ps t cl))) []
starts_contract x ps t = starts_sequence (ClausesFor true) _ (starts_clauses true) (λ cl. starts_nothing _)

starts_of : (x : Placed) (ps : List Declaration) → Starts (Sequence (TypeFor 0) (λ t. Sequence (ClausesFor true) (λ cl. Nothing (head_with x ps t.of cl)))) []
starts_of x ps = starts_sequence (TypeFor 0) _ (starts_type 0) (λ t. starts_contract x ps t.of)

starts_result : (x : Placed) (ps : List Declaration) → Starts (Sequence (Sign 0 signs.Colon) (λ c. Sequence (TypeFor 0) (λ t. Sequence (ClausesFor true) (λ cl. Nothing (head_with x ps t.of cl))))) []
starts_result x ps = starts_sequence (Sign 0 signs.Colon) _ (starts_sign 0 signs.Colon) (λ c. starts_of x ps)

starts_signature : (x : Placed) → Starts (Sequence (ParametersFor 0) (λ ps. Sequence (Sign 0 signs.Colon) (λ c. Sequence (TypeFor 0) (λ t. Sequence (ClausesFor true) (λ cl. Nothing (head_with x ps t.of cl)))))) []
starts_signature x = starts_sequence (ParametersFor 0) _ (starts_parameters 0) (λ ps. starts_result x ps)

pub head_tells : (ts : List Token) → Tells HeadFor limit ts (head_at limit ts)
unfolding head_at head_with
head_tells ts =
    tells_as HeadParts HeadFor limit ts _ head_of
    (tells_sequence (NameFor 0) _ limit ts (name_at ts) _ (λ x. starts_signature x) (name_tells limit 0 ts (omega arith))
    (λ x us. tells_sequence (ParametersFor 0) _ limit us (parameters_at us) _ (λ ps. starts_result x ps) (parameters_tells limit 0 us (omega arith))
    (λ ps vs. tells_sequence (Sign 0 signs.Colon) _ limit vs (expect signs.Colon vs) _ (λ c. starts_of x ps) (tells_expect 0 signs.Colon limit vs (omega arith))
    (λ c ws. tells_sequence (TypeFor 0) _ limit ws (type_at ws) _ (λ t. starts_contract x ps t.of) (type_tells limit 0 ws (omega arith))
    (λ t xs. tells_sequence (ClausesFor true) _ limit xs (clauses_at limit true xs) _ (λ cl. starts_nothing _) (clauses_tells true xs)
    (λ cl ys. tells_nothing limit ys _))))))

-- ---- functions

pub record FunctionFor (m : Member) (ms : List Mark) : Type 0 where
  pub phrase : FunctionPhrase
  pub stands : StandsFunction phrase
  pub means : function_meant phrase ≡ m
  pub spelled : function_marks phrase ≡ ms

abbrev pub with_head : (at : Place) (h : Head) (ms : List Mark) → HeadFor h ms → BracedPhrase → FunctionPhrase
with_head at h ms g w = record { at = at; name_at = h.name.place; text = h.name.name; parameters = g.parameters; colon_at = g.colon_at; type_at = g.type_at; of = h.of; clauses = g.clauses; body = w }

with_head_means : (at : Place) (h : Head) (ms : List Mark) (g : HeadFor h ms) (w : BracedPhrase) (e : Expr) → meant w.inner ≡ e → function_meant (with_head at h ms g w) ≡ function_of at h e
with_head_means at h ms g w e q = rw (g.parameters_are, g.clauses_are, q) refl

abbrev FunctionParts : Place → Grammar Member
FunctionParts place = Sequence HeadFor (λ h. Sequence BracedFor (λ e. Nothing (function_of place h e)))

function_of_parts : (t : Token) → t.kind ≡ word words.Function → (m : Member) (ms : List Mark) → Nested (record { token = t; count = 0 }) (FunctionParts t.place) m ms → FunctionFor m ms
function_of_parts t k m ms n = by_parts n.inner n.is n.spelled
  where
    by_parts : (inner : List Mark) → (let s : Mark = record { token = t; count = 0 } in ms ≡ s ∷ inner) → FunctionParts t.place m inner → FunctionFor m ms
    by_parts inner is (h, a, a', q, g, (e, b, b', q', r, (v, y))) = record {
      phrase = with_head t.place h a g r.phrase;
      stands = record { clauses = g.stands; body = r.stands };
      means = with_head_means t.place h a g r.phrase e r.means ∙ sym v;
      spelled = marks_is t (word words.Function) 0 _ k ∙ ap (λ l. let s : Mark = record { token = t; count = 0 } in s ∷ (l ++ braced_marks r.phrase)) g.spelled
          ∙ ap (λ l. let s : Mark = record { token = t; count = 0 } in s ∷ (a ++ l)) (r.spelled ∙ sym (q' ∙ ap (λ l. b ++ l) y ∙ append-nil b)) ∙ ap (λ l. let s : Mark = record { token = t; count = 0 } in s ∷ l) (sym q) ∙ sym is;
    }

-- what is read behind a head
body_behind : Place → Head × List Token → Read Member
body_behind place h = cond (begins_braces h.1) (function_by limit place h.0 h.1) (Err (Unexpected h.1))

no_body_plain : (ts : List Token) → (let r : Halting Member = Err (no_body_at ts) in plain r) ≡ Err (Unexpected ts)
no_body_plain [] = refl
no_body_plain (t ∷ ts) = by_word (is_measure t.kind)
  where
    by_word : (b : Bool) → (let r : Halting Member = Err (cond b (measured_twice (t ∷ ts)) (bodiless (t ∷ ts))) in plain r) ≡ Err (Unexpected (t ∷ ts))
    by_word true = refl
    by_word false = refl

plain_body : (place : Place) (h : Head) (ts : List Token) (b : Bool) → plain (cond b (halting (function_by limit place h ts)) (Err (no_body_at ts))) ≡ cond b (function_by limit place h ts) (Err (Unexpected ts))
plain_body place h ts true = plain_halting (function_by limit place h ts)
plain_body place h ts false = no_body_plain ts

plain_function : (place : Place) (r : Read Head) → plain (behind_head limit place r) ≡ (r >>= body_behind place)
unfolding body_behind
plain_function place (Ok h) = plain_body place h.0 h.1 (begins_braces h.1)
plain_function place (Err stop) = refl

starts_function_body : (place : Place) (h : Head) → Starts (Sequence BracedFor (λ e. Nothing (function_of place h e))) []
starts_function_body place h = starts_sequence BracedFor _ starts_braced (λ e. starts_nothing _)

body_by_tells : (place : Place) (h : Head) (ts : List Token) (b : Bool) → Tells (Sequence BracedFor (λ e. Nothing (function_of place h e))) limit ts (cond b (function_by limit place h ts) (Err (Unexpected ts)))
unfolding function_by
body_by_tells place h ts true = tells_sequence BracedFor _ limit ts (braced_at limit ts) _ (λ e. starts_nothing _) (braced_tells ts) (λ e us. tells_nothing limit us _)
body_by_tells place h ts false = tells_unexpected (Sequence BracedFor (λ e. Nothing (function_of place h e))) limit ts (starts_function_body place h)

-- a function that begins with this token
pub function_tells : (t : Token) (ts : List Token) → t.kind ≡ word words.Function → Tells FunctionFor limit (t ∷ ts) (plain (function_at limit t.place ts))
unfolding function_at body_behind
function_tells t ts k =
    tells_as (Nested (record { token = t; count = 0 }) (FunctionParts t.place)) FunctionFor limit (t ∷ ts) _ (function_of_parts t k)
    (led_tells (FunctionParts t.place) limit 0 t ts _ (omega arith)
    (subst (Tells (FunctionParts t.place) limit ts) (sym (plain_function t.place (head_at limit ts)))
    (tells_sequence HeadFor _ limit ts (head_at limit ts) _ (λ h. starts_function_body t.place h) (head_tells ts) (λ h us. body_by_tells t.place h us (begins_braces us)))))

-- ---- where a body is due

-- a function up to its body was taken
pub record HeadTaken (ts rest : List Token) : Type 0 where
  pub function : FunctionPhrase
  pub stands : StandsClauses true function.clauses
  pub takes : Takes limit ts (mark 0 function.at (word words.Function) ∷ head_marks function) rest

-- where reading stops for want of a body
abbrev pub WantsBody : {A : Type 0} → Halting A → List Token → Type 0
WantsBody r rest = (r ≡ Err (bodiless rest)) ⊎ (r ≡ Err (measured_twice rest))

halting_wants : {A : Type 0} (r : Read A) (rest : List Token) → WantsBody (halting r) rest → ⊥
halting_wants (Ok x) rest (inl e) = cc
halting_wants (Ok x) rest (inr e) = cc
halting_wants (Err stop) rest (inl e) = cc
halting_wants (Err stop) rest (inr e) = cc

pub never_wants : {A : Type 0} (r : Read A) (rest : List Token) → WantsBody (halting r) rest → ⊥
never_wants r rest h = halting_wants r rest h

no_body_rest : (place : Place) (ts rest : List Token) → (let r : Halting Member = Err (no_body_at ts) in WantsBody r rest) → ts ≡ rest
no_body_rest place [] rest (inl e) = cc
no_body_rest place [] rest (inr e) = cc
no_body_rest place (t ∷ ts) rest h = by_word (is_measure t.kind) h
  where
    by_word : (b : Bool) → (let r : Halting Member = Err (cond b (measured_twice (t ∷ ts)) (bodiless (t ∷ ts))) in WantsBody r rest) → t ∷ ts ≡ rest
    by_word true (inl e) = cc
    by_word true (inr e) = cc
    by_word false (inl e) = cc
    by_word false (inr e) = cc

some_braced : BracedPhrase
some_braced = record { from = somewhere; inner = literal somewhere true; to = somewhere }

head_taken : (t : Token) (ts rest : List Token) → t.kind ≡ word words.Function → (r : Read Head) → Tells HeadFor limit ts r → WantsBody (behind_head limit t.place r) rest → HeadTaken (t ∷ ts) rest
head_taken t ts rest k (Err stop) g w = absurd (halting_wants (let a : Read Member = Err stop in a) rest w)
head_taken t ts rest k (Ok h) g w = by_braces (begins_braces h.1) w
  where
    by_braces : (b : Bool) → WantsBody (cond b (halting (function_by limit t.place h.0 h.1)) (Err (no_body_at h.1))) rest → HeadTaken (t ∷ ts) rest
    by_braces true w = absurd (halting_wants (function_by limit t.place h.0 h.1) rest w)
    by_braces false w =
        let same = no_body_rest t.place h.1 rest w in
        let f = with_head t.place h.0 g.marks g.spelled some_braced in
        record {
          function = f;
          stands = g.spelled.stands;
          takes = record {
            within = (omega arith, subst (Within limit) (sym g.spelled.spelled) g.takes.within);
            tokens = ap (λ (x : Token). x ∷ ts) (let s : t ≡ (mark 0 t.place (word words.Function)).token = ap (λ (m : Mark). m.token) (sym (token_is t (word words.Function) 0 k)) in s) ∙ ap (λ l. (mark 0 t.place (word words.Function)).token ∷ l) (g.takes.tokens ∙ ap (λ l. tokens_of l ++ h.1) (sym g.spelled.spelled) ∙ ap (λ l. tokens_of (head_marks f) ++ l) same);
          };
        }

pub function_wants : (t : Token) (ts rest : List Token) → t.kind ≡ word words.Function → WantsBody (function_at limit t.place ts) rest → HeadTaken (t ∷ ts) rest
unfolding function_at
function_wants t ts rest k w = head_taken t ts rest k (head_at limit ts) (head_tells ts) w

-- ---- a second measure

-- a measure is told where a body is due, and only a measure
abbrev pub TellsMeasure : {A : Type 0} → Halting A → Type 0
TellsMeasure (Ok x) = Unit {0}
TellsMeasure (Err (stopped stop)) = Unit {0}
TellsMeasure (Err (bodiless rest)) = begins_decreases rest ≡ false
TellsMeasure (Err (measured_twice rest)) = begins_decreases rest ≡ true

pub none_told : {A : Type 0} (r : Read A) → TellsMeasure (halting r)
none_told (Ok x) = tt
none_told (Err stop) = tt

no_body_told : (ts : List Token) → (let r : Halting Member = Err (no_body_at ts) in TellsMeasure r)
no_body_told [] = refl
no_body_told (t ∷ ts) = by_word (is_measure t.kind) refl
  where
    by_word : (b : Bool) → is_measure t.kind ≡ b → (let r : Halting Member = Err (cond b (measured_twice (t ∷ ts)) (bodiless (t ∷ ts))) in TellsMeasure r)
    by_word true e = e
    by_word false e = e

body_told : (place : Place) (h : Head) (ts : List Token) (b : Bool) → TellsMeasure (cond b (halting (function_by limit place h ts)) (Err (no_body_at ts)))
body_told place h ts true = none_told (function_by limit place h ts)
body_told place h ts false = no_body_told ts

head_told : (place : Place) (r : Read Head) → TellsMeasure (behind_head limit place r)
head_told place (Ok h) = body_told place h.0 h.1 (begins_braces h.1)
head_told place (Err stop) = tt

pub function_told : (place : Place) (ts : List Token) → TellsMeasure (function_at limit place ts)
unfolding function_at
function_told place ts = head_told place (head_at limit ts)
