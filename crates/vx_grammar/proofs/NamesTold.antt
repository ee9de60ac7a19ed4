-- What reading names, and the fields of `new`, tells.
use Rattle.std.proofs.Common.{◌≡◌, ℕ, ◌≤◌, List, [], ◌∷◌, ◌++◌, Option, Some, None, Bool, true, false, Ok, length, refl, sym, ap, subst, ◌∙◌, append_assoc, cond}
use Rattle.std.proofs.lemmas.List.{append-nil}
use Rattle.vx_ast.specs.declared.Place.{Place}
use Rattle.vx_ast.specs.Written.{Placed, Right, NewAll, New}
use Rattle.vx_tokens.specs.declared.token.Symbol.TheVariants as signs
use Rattle.vx_tokens.specs.Tokens.{Token, Kind, name, symbol}
use Rattle.vx_grammar.specs.Grammar.{Mark, mark}
use Rattle.vx_grammar.specs.Statements.{NamesPhrase, no_names, next_name, FieldsPhrase, every_field, no_fields, these_fields, names_meant, fields_meant, names_marks, fields_marks}
use Rattle.vx_grammar.specs.Reading.{◌>>=◌, is_symbol, run, name_at, name_turn, fields_at, allocation_by, allocation_at}
use Rattle.vx_grammar.proofs.Symbols.{is_symbol_true}
use Rattle.vx_grammar.proofs.Tells.{Grammar, Starts, Tells, NameFor, name_tells, marks_is, tells_as, tells_here, tells_unexpected, tells_token}
use Rattle.vx_grammar.proofs.Sequence.{Sequence, Nothing, tells_sequence, starts_sequence, starts_nothing, tells_nothing}
use Rattle.vx_grammar.proofs.Steps.{Step, TurnFor, StepsBy, StepsFor, no_steps, run_tells}
use Rattle.vx_grammar.proofs.Bracketed.{Nested, led_tells}

abbrev pub NameStep : ℕ → Step (List Placed)
NameStep n before after ms = (p : Place) × (x : Placed) × (after ≡ before ++ x ∷ []) × (ms ≡ mark n p (symbol signs.Comma) ∷ mark n x.place (name x.name) ∷ [])

abbrev NextParts : ℕ → List Placed → Grammar (Option (List Placed))
NextParts n before = Sequence (NameFor n) (λ x. Nothing (Some (before ++ x ∷ [])))

next_of : (n : ℕ) (before : List Placed) (t : Token) → t.kind ≡ symbol signs.Comma → (o : Option (List Placed)) (ms : List Mark) → Nested (record { token = t; count = n }) (NextParts n before) o ms → TurnFor (NameStep n) before o ms
next_of n before t k o ms h = by_parts h.inner h.is h.spelled
  where
    by_parts : (inner : List Mark) → (let m : Mark = record { token = t; count = n } in ms ≡ m ∷ inner) → NextParts n before o inner → TurnFor (NameStep n) before o ms
    by_parts inner is (x, a, b, q, e, (v, z)) =
        subst (λ y. TurnFor (NameStep n) before y ms) (sym v)
        (t.place, x, refl, is ∙ ap (λ l. let m : Mark = record { token = t; count = n } in m ∷ l) (q ∙ rw (e, z) refl) ∙ sym (marks_is t (symbol signs.Comma) n _ k))

turn_by_tells : (limit n : ℕ) (before : List Placed) (t : Token) (ts : List Token) (b : Bool) → is_symbol signs.Comma t.kind ≡ b → n ≤ limit
    → Tells (TurnFor (NameStep n) before) limit (t ∷ ts) (cond b (name_at ts >>= λ x. Ok (Some (before ++ x.0 ∷ []), x.1)) (Ok (None, t ∷ ts)))
turn_by_tells limit n before t ts true h le =
    tells_as (Nested (record { token = t; count = n }) (NextParts n before)) (TurnFor (NameStep n) before) limit (t ∷ ts) _ (next_of n before t (is_symbol_true signs.Comma t.kind h))
    (led_tells (NextParts n before) limit n t ts _ le (tells_sequence (NameFor n) _ limit ts (name_at ts) _ (λ x. starts_nothing _) (name_tells limit n ts le) (λ x us. tells_nothing limit us _)))
turn_by_tells limit n before t ts false h le = tells_here (TurnFor (NameStep n) before) limit (t ∷ ts) None refl

pub name_turn_tells : (limit n : ℕ) → n ≤ limit → (before : List Placed) (ts : List Token) → Tells (TurnFor (NameStep n) before) limit ts (name_turn before ts)
unfolding name_turn
name_turn_tells limit n le before [] = tells_here (TurnFor (NameStep n) before) limit [] None refl
name_turn_tells limit n le before (t ∷ ts) = turn_by_tells limit n before t ts (is_symbol signs.Comma t.kind) refl le

-- the steps are names behind a first one
pub record NamesFor (n : ℕ) (before after : List Placed) (ms : List Mark) : Type 0 where
  pub phrase : NamesPhrase
  pub means : before ++ names_meant phrase ≡ after
  pub spelled : names_marks n phrase ≡ ms

pub names_steps : (n : ℕ) (path : List (List Placed)) (before after : List Placed) (ms : List Mark) → StepsBy (NameStep n) path before after ms → NamesFor n before after ms
names_steps n [] before after ms (e, z) = record { phrase = no_names; means = append-nil before ∙ e; spelled = sym z }
names_steps n (m ∷ path) before after ms (a, b, q, (p, x, v, z), h) =
    let r = names_steps n path m after b h in
    record {
      phrase = next_name p x.place x.name r.phrase;
      means = sym (append_assoc before (x ∷ []) (names_meant r.phrase)) ∙ ap (λ l. l ++ names_meant r.phrase) (sym v) ∙ r.means;
      spelled = ap (λ l. mark n p (symbol signs.Comma) ∷ mark n x.place (name x.name) ∷ l) r.spelled ∙ sym (q ∙ ap (λ l. l ++ b) z);
    }

-- ---- the fields of `new`

pub record FieldsFor (at : Place) (n : ℕ) (r : Right) (ms : List Mark) : Type 0 where
  pub phrase : FieldsPhrase
  pub means : fields_meant at phrase ≡ r
  pub spelled : fields_marks n phrase ≡ ms

pub starts_fields : (at : Place) (n : ℕ) → Starts (FieldsFor at n) []
starts_fields at n = record { value = New at []; more = []; spelled = record { phrase = no_fields; means = refl; spelled = refl } }

abbrev FieldsParts : Place → ℕ → Grammar Right
FieldsParts at n = Sequence (NameFor n) (λ x. Sequence (StepsFor (NameStep n) (x ∷ [])) (λ xs. Nothing (New at xs)))

fields_of : (at : Place) (n : ℕ) (r : Right) (ms : List Mark) → FieldsParts at n r ms → FieldsFor at n r ms
fields_of at n r ms (x, a, b, q, e, (xs, c, d, q', (path, h), (v, z))) =
    let l = names_steps n path (x ∷ []) xs c h in
    record {
      phrase = these_fields x.place x.name l.phrase;
      means = ap (New at) l.means ∙ sym v;
      spelled = ap (λ y. mark n x.place (name x.name) ∷ y) (l.spelled ∙ sym (q' ∙ rw z (append-nil c))) ∙ ap (λ y. y ++ b) (sym e) ∙ sym q;
    }

fields_tells : (at : Place) (limit n : ℕ) (ts : List Token) → n ≤ limit → Tells (FieldsFor at n) limit ts (fields_at at ts)
unfolding fields_at
fields_tells at limit n ts le =
    tells_as (FieldsParts at n) (FieldsFor at n) limit ts _ (fields_of at n)
    (tells_sequence (NameFor n) _ limit ts (name_at ts) _ (λ x. starts_sequence (StepsFor (NameStep n) (x ∷ [])) _ (record { value = x ∷ []; more = []; spelled = no_steps (NameStep n) (x ∷ []) }) (λ xs. starts_nothing _)) (name_tells limit n ts le)
    (λ x us. tells_sequence (StepsFor (NameStep n) (x ∷ [])) _ limit us (run name_turn (length us) (x ∷ []) us) _ (λ xs. starts_nothing _) (run_tells (NameStep n) limit name_turn (name_turn_tells limit n le) (length us) (x ∷ []) us) (λ xs vs. tells_nothing limit vs _)))

allocation_by_tells : (at : Place) (limit n : ℕ) (t : Token) (k : Kind) (ts : List Token) → n ≤ limit → t.kind ≡ k → Tells (FieldsFor at n) limit (t ∷ ts) (allocation_by at t k ts)
allocation_by_tells at limit n t (symbol signs.Times) ts le e = tells_token (FieldsFor at n) limit (record { token = t; count = n }) ts (NewAll at) le (record { phrase = every_field t.place; means = refl; spelled = marks_is t (symbol signs.Times) n [] e })
allocation_by_tells at limit n t (symbol signs.Close) ts le e = tells_here (FieldsFor at n) limit (t ∷ ts) (New at []) (record { phrase = no_fields; means = refl; spelled = refl })
allocation_by_tells at limit n t k ts le e = fields_tells at limit n (t ∷ ts) le

pub allocation_tells : (at : Place) (limit n : ℕ) (ts : List Token) → n ≤ limit → Tells (FieldsFor at n) limit ts (allocation_at at ts)
unfolding allocation_at
allocation_tells at limit n [] le = tells_unexpected (FieldsFor at n) limit [] (starts_fields at n)
allocation_tells at limit n (t ∷ ts) le = allocation_by_tells at limit n t t.kind ts le refl
