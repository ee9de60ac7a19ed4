-- What reading members tells.
use Rattle.std.proofs.Common.{◌≡◌, ℕ, ◌+◌, ◌≤◌, List, [], ◌∷◌, ◌++◌, Option, Some, None, Bool, true, false, Ok, length, refl, sym, ap, subst, ◌∙◌, append_assoc, arith, cond}
use Rattle.std.proofs.lemmas.List.{append-nil}
use Rattle.vx_ast.specs.declared.Place.{Place}
use Rattle.vx_ast.specs.declared.ValueType.TheVariants as types
use Rattle.vx_ast.specs.Written.{Declaration}
use Rattle.vx_tokens.specs.declared.token.Word.TheVariants as words
use Rattle.vx_tokens.specs.declared.token.Symbol.TheVariants as signs
use Rattle.vx_tokens.specs.Tokens.{Token, Kind, word, symbol}
use Rattle.vx_grammar.specs.Grammar.{Mark, mark}
use Rattle.vx_grammar.specs.Statements.{DeclarationPhrase, declaration_meant, declaration_marks}
use Rattle.vx_grammar.specs.Programs.{MoreDeclarations, no_more, listed, DeclarationsPhrase, none, some, ParametersPhrase, ReturnsPhrase, no_returns, returns, more_meant, declarations_meant, returns_meant, more_marks, declarations_marks, parameters_marks, returns_marks}
use Rattle.vx_grammar.specs.Reading.{◌>>=◌, is_symbol}
use Rattle.vx_grammar.specs.StmtReading.{declaration_at}
use Rattle.vx_grammar.specs.MemberReading.{declaration_turn, declarations_at, is_closing, inner_parameters_at, parameters_at, begins_returns, returns_at}
use Rattle.vx_grammar.proofs.Symbols.{is_symbol_true}
use Rattle.vx_grammar.proofs.Tells.{Grammar, Starts, Tells, tells_as, tells_here, marks_is, somewhere}
use Rattle.vx_grammar.proofs.Sequence.{Sequence, Nothing, tells_sequence, starts_nothing, tells_nothing}
use Rattle.vx_grammar.proofs.Bracketed.{Nested, Bracketed, bracket_tells, led_tells}
use Rattle.vx_grammar.proofs.StmtTells.{DeclarationFor, declaration_tells}
use Rattle.vx_grammar.proofs.Steps.{Step, TurnFor, StepsBy, StepsFor, no_steps, run_tells}

-- ---- declarations

abbrev pub DeclarationStep : ℕ → Step (List Declaration)
DeclarationStep n before after ms = (p : Place) × (d : DeclarationPhrase) × (after ≡ before ++ declaration_meant d ∷ []) × (ms ≡ mark n p (symbol signs.Comma) ∷ declaration_marks n d)

some_declaration : DeclarationPhrase
some_declaration = record { name_at = somewhere; text = []; colon_at = somewhere; type_at = somewhere; of = types.Int }

starts_turn : (n : ℕ) (before : List Declaration) → Starts (TurnFor (DeclarationStep n) before) []
starts_turn n before = record { value = None; more = []; spelled = refl }

abbrev NextParts : ℕ → List Declaration → Grammar (Option (List Declaration))
NextParts n before = Sequence (DeclarationFor n) (λ d. Nothing (Some (before ++ d ∷ [])))

next_of : (n : ℕ) (before : List Declaration) (t : Token) → t.kind ≡ symbol signs.Comma → (o : Option (List Declaration)) (ms : List Mark) → Nested (record { token = t; count = n }) (NextParts n before) o ms → TurnFor (DeclarationStep n) before o ms
next_of n before t k o ms h = by_parts h.inner h.is h.spelled
  where
    by_parts : (inner : List Mark) → (let m : Mark = record { token = t; count = n } in ms ≡ m ∷ inner) → NextParts n before o inner → TurnFor (DeclarationStep n) before o ms
    by_parts inner is (d, a, b, q, r, (v, z)) =
        subst (λ x. TurnFor (DeclarationStep n) before x ms) (sym v)
        (t.place, r.phrase, ap (λ x. before ++ x ∷ []) (sym r.means), is ∙ ap (λ l. let m : Mark = record { token = t; count = n } in m ∷ l) (q ∙ rw z (append-nil a) ∙ sym r.spelled) ∙ sym (marks_is t (symbol signs.Comma) n _ k))

turn_by_tells : (limit n : ℕ) (before : List Declaration) (t : Token) (ts : List Token) (b : Bool) → is_symbol signs.Comma t.kind ≡ b → n ≤ limit
    → Tells (TurnFor (DeclarationStep n) before) limit (t ∷ ts) (cond b (declaration_at ts >>= λ d. Ok (Some (before ++ d.0 ∷ []), d.1)) (Ok (None, t ∷ ts)))
turn_by_tells limit n before t ts true h le =
    tells_as (Nested (record { token = t; count = n }) (NextParts n before)) (TurnFor (DeclarationStep n) before) limit (t ∷ ts) _ (next_of n before t (is_symbol_true signs.Comma t.kind h))
    (led_tells (NextParts n before) limit n t ts _ le
    (tells_sequence (DeclarationFor n) _ limit ts (declaration_at ts) _ (λ d. starts_nothing _) (declaration_tells limit n ts le) (λ d us. tells_nothing limit us _)))
turn_by_tells limit n before t ts false h le = tells_here (TurnFor (DeclarationStep n) before) limit (t ∷ ts) None refl

pub turn_tells : (limit n : ℕ) → n ≤ limit → (before : List Declaration) (ts : List Token) → Tells (TurnFor (DeclarationStep n) before) limit ts (declaration_turn before ts)
unfolding declaration_turn
turn_tells limit n le before [] = tells_here (TurnFor (DeclarationStep n) before) limit [] None refl
turn_tells limit n le before (t ∷ ts) = turn_by_tells limit n before t ts (is_symbol signs.Comma t.kind) refl le

-- the steps are declarations that are listed
record ListedFor (n : ℕ) (before after : List Declaration) (ms : List Mark) : Type 0 where
  phrase : MoreDeclarations
  means : before ++ more_meant phrase ≡ after
  spelled : more_marks n phrase ≡ ms

listed_steps : (n : ℕ) (path : List (List Declaration)) (before after : List Declaration) (ms : List Mark) → StepsBy (DeclarationStep n) path before after ms → ListedFor n before after ms
listed_steps n [] before after ms (e, z) = record { phrase = no_more; means = append-nil before ∙ e; spelled = sym z }
listed_steps n (m ∷ path) before after ms (a, b, q, (p, d, v, z), h) =
    let r = listed_steps n path m after b h in
    record {
      phrase = listed p d r.phrase;
      means = sym (append_assoc before (declaration_meant d ∷ []) (more_meant r.phrase)) ∙ ap (λ l. l ++ more_meant r.phrase) (sym v) ∙ r.means;
      spelled = ap (λ l. mark n p (symbol signs.Comma) ∷ (declaration_marks n d ++ l)) r.spelled ∙ sym (q ∙ ap (λ l. l ++ b) z);
    }

-- one declaration at least
record SomeFor (n : ℕ) (ds : List Declaration) (ms : List Mark) : Type 0 where
  phrase : DeclarationsPhrase
  means : declarations_meant phrase ≡ ds
  spelled : declarations_marks n phrase ≡ ms

abbrev SomeParts : ℕ → Grammar (List Declaration)
SomeParts n = Sequence (DeclarationFor n) (λ d. StepsFor (DeclarationStep n) (d ∷ []))

some_of : (n : ℕ) (ds : List Declaration) (ms : List Mark) → SomeParts n ds ms → SomeFor n ds ms
some_of n ds ms (d, a, b, q, r, (path, h)) =
    let l = listed_steps n path (d ∷ []) ds b h in
    record {
      phrase = some r.phrase l.phrase;
      means = ap (λ x. x ∷ more_meant l.phrase) r.means ∙ l.means;
      spelled = ap (λ x. x ++ more_marks n l.phrase) r.spelled ∙ ap (λ x. a ++ x) l.spelled ∙ sym q;
    }

starts_some : (n : ℕ) → Starts (SomeFor n) []
starts_some n = record { value = []; more = []; spelled = record { phrase = none; means = refl; spelled = refl } }

declarations_tells : (limit n : ℕ) (ts : List Token) → n ≤ limit → Tells (SomeFor n) limit ts (declarations_at ts)
unfolding declarations_at
declarations_tells limit n ts le =
    tells_as (SomeParts n) (SomeFor n) limit ts _ (some_of n)
    (tells_sequence (DeclarationFor n) _ limit ts (declaration_at ts) _ (λ d. record { value = d ∷ []; more = []; spelled = no_steps (DeclarationStep n) (d ∷ []) }) (declaration_tells limit n ts le)
    (λ d us. run_tells (DeclarationStep n) limit declaration_turn (turn_tells limit n le) (length us) (d ∷ []) us))

inner_by_tells : (limit n : ℕ) (ts : List Token) (b : Bool) → n ≤ limit → Tells (SomeFor n) limit ts (cond b (Ok ([], ts)) (declarations_at ts))
inner_by_tells limit n ts true le = tells_here (SomeFor n) limit ts [] (record { phrase = none; means = refl; spelled = refl })
inner_by_tells limit n ts false le = declarations_tells limit n ts le

inner_tells : (limit n : ℕ) (ts : List Token) → n ≤ limit → Tells (SomeFor n) limit ts (inner_parameters_at ts)
unfolding inner_parameters_at
inner_tells limit n ts le = inner_by_tells limit n ts (is_closing ts) le

-- ---- parameters and returns

pub record ParametersFor (n : ℕ) (ds : List Declaration) (ms : List Mark) : Type 0 where
  pub phrase : ParametersPhrase
  pub means : declarations_meant phrase.inner ≡ ds
  pub spelled : parameters_marks n phrase ≡ ms

parameters_of : (n : ℕ) (ds : List Declaration) (ms : List Mark) → Bracketed n signs.Open signs.Close (SomeFor (n + 1)) ds ms → ParametersFor n ds ms
parameters_of n ds ms h = record {
  phrase = record { from = h.from; inner = h.spelled.phrase; to = h.to };
  means = h.spelled.means;
  spelled = sym (h.is ∙ rw (← h.spelled.spelled) refl);
}

pub starts_parameters : (n : ℕ) → Starts (ParametersFor n) []
starts_parameters n =
    let w : ParametersPhrase = record { from = somewhere; inner = none; to = somewhere } in
    record { value = []; more = parameters_marks n w; spelled = record { phrase = w; means = refl; spelled = refl } }

pub parameters_tells : (limit n : ℕ) (ts : List Token) → n + 1 ≤ limit → Tells (ParametersFor n) limit ts (parameters_at ts)
unfolding parameters_at
parameters_tells limit n ts le =
    tells_as (Bracketed n signs.Open signs.Close (SomeFor (n + 1))) (ParametersFor n) limit ts _ (parameters_of n)
    (bracket_tells signs.Open signs.Close (SomeFor (n + 1)) (λ here us. inner_parameters_at us) limit n (starts_some (n + 1)) (λ t us. led_tells (SomeFor (n + 1)) limit (n + 1) t us _ le (inner_tells limit (n + 1) us le)) ts)

pub record ReturnsFor (n : ℕ) (ds : List Declaration) (ms : List Mark) : Type 0 where
  pub phrase : ReturnsPhrase
  pub means : returns_meant phrase ≡ ds
  pub spelled : returns_marks n phrase ≡ ms

pub starts_returns : (n : ℕ) → Starts (ReturnsFor n) []
starts_returns n = record { value = []; more = []; spelled = record { phrase = no_returns; means = refl; spelled = refl } }

returns_word : (k : Kind) → begins_returns k ≡ true → k ≡ word words.Returns
returns_word (word words.Returns) h = refl
returns_word k h = absurd cc

returns_of : (n : ℕ) (t : Token) → t.kind ≡ word words.Returns → (ds : List Declaration) (ms : List Mark) → Nested (record { token = t; count = n }) (ParametersFor n) ds ms → ReturnsFor n ds ms
returns_of n t k ds ms h = record {
  phrase = returns t.place h.spelled.phrase;
  means = h.spelled.means;
  spelled = marks_is t (word words.Returns) n _ k ∙ ap (λ l. let m : Mark = record { token = t; count = n } in m ∷ l) h.spelled.spelled ∙ sym h.is;
}

returns_by_tells : (limit n : ℕ) (t : Token) (ts : List Token) (b : Bool) → begins_returns t.kind ≡ b → n + 1 ≤ limit → Tells (ReturnsFor n) limit (t ∷ ts) (cond b (parameters_at ts) (Ok ([], t ∷ ts)))
returns_by_tells limit n t ts true h le =
    tells_as (Nested (record { token = t; count = n }) (ParametersFor n)) (ReturnsFor n) limit (t ∷ ts) _ (returns_of n t (returns_word t.kind h)) (led_tells (ParametersFor n) limit n t ts _ (omega (arith, le)) (parameters_tells limit n ts le))
returns_by_tells limit n t ts false h le = tells_here (ReturnsFor n) limit (t ∷ ts) [] (record { phrase = no_returns; means = refl; spelled = refl })

pub returns_tells : (limit n : ℕ) (ts : List Token) → n + 1 ≤ limit → Tells (ReturnsFor n) limit ts (returns_at ts)
unfolding returns_at
returns_tells limit n [] le = tells_here (ReturnsFor n) limit [] [] (record { phrase = no_returns; means = refl; spelled = refl })
returns_tells limit n (t ∷ ts) le = returns_by_tells limit n t ts (begins_returns t.kind) refl le
