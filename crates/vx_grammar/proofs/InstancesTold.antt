-- What reading a predicate's instance tells.
use Rattle.std.proofs.Common.{◌≡◌, ℕ, ◌+◌, List, [], ◌∷◌, ◌++◌, refl, sym, ap, ◌∙◌, arith}
use Rattle.std.proofs.lemmas.List.{append-nil}
use Rattle.vx_ast.specs.declared.Place.{Place}
use Rattle.vx_ast.specs.Written.{Placed, placed, Exprs, Amount, All}
use Rattle.vx_tokens.specs.declared.token.Word.TheVariants as words
use Rattle.vx_tokens.specs.declared.token.Symbol.TheVariants as signs
use Rattle.vx_tokens.specs.Tokens.{Token, Kind, name, word, symbol}
use Rattle.vx_grammar.specs.Grammar.{ArgumentsPhrase, no_arguments, AmountPhrase, no_amount, InstancePhrase, alone, held, Instance, instance_meant, InstanceStands, instance_marks, ArgumentsStand, AmountStands, arguments_meant, amount_meant, Mark, mark, arguments_marks, amount_marks}
use Rattle.vx_grammar.specs.Reading.{arguments, holding, name_at, enclosed, amount_at, bare_by, instance_by, instance_at, holding_at, below}
use Rattle.vx_grammar.proofs.Tells.{Grammar, Starts, Tells, somewhere, marks_is, NameFor, name_tells, tells_as, tells_unexpected}
use Rattle.vx_grammar.proofs.Sequence.{Sequence, Nothing, tells_sequence, starts_sequence, starts_nothing, tells_nothing}
use Rattle.vx_grammar.proofs.Bracketed.{Nested, Bracketed, starts_bracketed, led_tells}
use Rattle.vx_grammar.proofs.PhraseFor.{count_down}
use Rattle.vx_grammar.proofs.PrimaryTells.{ChoiceTells, ToldInside, AmountFor, starts_amount, amount_tells, ArgumentsFor, starts_arguments, arguments_tells, enclosed_tells, made_tells}

-- an instance of these parts
pub instance_of : Placed → Exprs → Amount → Instance
instance_of x es a = record { predicate = x; arguments = es; amount = a }

-- ---- what `acc` holds

pub record HoldingFor (n : ℕ) (i : Instance) (ms : List Mark) : Type 0 where
  pub at : Place
  pub text : List ℕ
  pub from : Place
  pub inner : ArgumentsPhrase
  pub to : Place
  pub amount : AmountPhrase
  pub inner_stands : ArgumentsStand inner
  pub amount_stands : AmountStands amount
  pub means : instance_of (placed at text) (arguments_meant inner) (amount_meant amount) ≡ i
  pub spelled : mark n at (name text) ∷ mark (n + 1) from (symbol signs.Open) ∷ ((arguments_marks (n + 1) inner ++ mark (n + 1) to (symbol signs.Close) ∷ []) ++ amount_marks n amount) ≡ ms

abbrev HoldingParts : ℕ → Grammar Instance
HoldingParts n = Sequence (NameFor n) (λ x. Sequence (Bracketed n signs.Open signs.Close (ArgumentsFor (n + 1))) (λ es. Sequence (AmountFor n) (λ a. Nothing (instance_of x es a))))

holding_of : (n : ℕ) (i : Instance) (ms : List Mark) → HoldingParts n i ms → HoldingFor n i ms
holding_of n i ms (x, a, b, q, z, (es, a', b', q', r, (am, c, d, q'', s, (v, y)))) = record {
  at = x.place;
  text = x.name;
  from = r.from;
  inner = r.spelled.phrase;
  to = r.to;
  amount = s.phrase;
  inner_stands = r.spelled.stands;
  amount_stands = s.stands;
  means = ap (λ l. instance_of x l (amount_meant s.phrase)) r.spelled.means ∙ ap (instance_of x es) s.means ∙ sym v;
  spelled = ap (λ l. mark n x.place (name x.name) ∷ mark (n + 1) r.from (symbol signs.Open) ∷ ((l ++ mark (n + 1) r.to (symbol signs.Close) ∷ []) ++ amount_marks n s.phrase)) r.spelled.spelled
      ∙ ap (λ l. mark n x.place (name x.name) ∷ (l ++ amount_marks n s.phrase)) (sym r.is)
      ∙ ap (λ l. mark n x.place (name x.name) ∷ (a' ++ l)) (s.spelled ∙ sym (q'' ∙ rw y (append-nil c)))
      ∙ ap (λ l. mark n x.place (name x.name) ∷ l) (sym q')
      ∙ ap (λ l. l ++ b) (sym z)
      ∙ sym q;
}

pub starts_holding : (n : ℕ) → Starts (HoldingFor n) []
starts_holding n = record {
  value = instance_of (placed somewhere []) (arguments_meant no_arguments) All;
  more = mark n somewhere (name []) ∷ mark (n + 1) somewhere (symbol signs.Open) ∷ mark (n + 1) somewhere (symbol signs.Close) ∷ [];
  spelled = record { at = somewhere; text = []; from = somewhere; inner = no_arguments; to = somewhere; amount = no_amount; inner_stands = tt; amount_stands = tt; means = refl; spelled = refl };
}

starts_behind_arguments : (n : ℕ) (x : Placed) (es : Exprs) → Starts (Sequence (AmountFor n) (λ a. Nothing (instance_of x es a))) []
starts_behind_arguments n x es = starts_sequence (AmountFor n) _ (starts_amount n) (λ a. starts_nothing _)

pub holding_tells : (limit n room : ℕ) (ts : List Token) → n + room ≡ limit → ChoiceTells limit room → ToldInside limit room → Tells (HoldingFor n) limit ts (holding_at (below room) ts)
unfolding holding_at instance_of
holding_tells limit n room ts e told inside =
    tells_as (HoldingParts n) (HoldingFor n) limit ts _ (holding_of n)
    (tells_sequence (NameFor n) _ limit ts (name_at ts) _ (λ x. starts_sequence (Bracketed n signs.Open signs.Close (ArgumentsFor (n + 1))) _ (starts_bracketed n signs.Open signs.Close (ArgumentsFor (n + 1)) (starts_arguments (n + 1))) (λ es. starts_behind_arguments n x es)) (name_tells limit n ts (omega (arith, e)))
    (λ x us. tells_sequence (Bracketed n signs.Open signs.Close (ArgumentsFor (n + 1))) _ limit us (enclosed (below room) arguments us) _ (λ es. starts_behind_arguments n x es)
    (enclosed_tells arguments (ArgumentsFor (n + 1)) limit n room us e (starts_arguments (n + 1)) (λ less s vs. arguments_tells limit (n + 1) less vs (count_down limit n room less e s) (inside less s)))
    (λ es vs. tells_sequence (AmountFor n) _ limit vs (amount_at (below room) vs) _ (λ a. starts_nothing _) (amount_tells limit n room vs e told)
    (λ a ws. tells_nothing limit ws _))))

-- ---- instances

pub record InstanceFor (n : ℕ) (i : Instance) (ms : List Mark) : Type 0 where
  pub phrase : InstancePhrase
  pub stands : InstanceStands phrase
  pub means : instance_meant phrase ≡ i
  pub spelled : instance_marks n phrase ≡ ms

pub starts_instance : (n : ℕ) → Starts (InstanceFor n) []
starts_instance n =
    let w = alone somewhere [] somewhere no_arguments somewhere in
    record { value = instance_meant w; more = instance_marks n w; spelled = record { phrase = w; stands = tt; means = refl; spelled = refl } }

bare_tells : (limit n room : ℕ) (t : Token) (x : List ℕ) (ts : List Token) → n + room ≡ limit → ToldInside limit room → t.kind ≡ name x → Tells (InstanceFor n) limit (t ∷ ts) (bare_by (below room) (placed t.place x) ts)
unfolding bare_by instance_of
bare_tells limit n room t x ts e told k =
    made_tells (InstanceFor n) arguments (ArgumentsFor (n + 1)) limit n room t ts (λ es. instance_of (placed t.place x) es All) e (starts_arguments (n + 1)) (λ less s us. arguments_tells limit (n + 1) less us (count_down limit n room less e s) (told less s))
    (λ y inner b. record {
      phrase = alone t.place x b.from b.spelled.phrase b.to;
      stands = b.spelled.stands;
      means = ap (λ es. instance_of (placed t.place x) es All) b.spelled.means;
      spelled = marks_is t (name x) n _ k ∙ ap (λ l. let m : Mark = record { token = t; count = n } in m ∷ mark (n + 1) b.from (symbol signs.Open) ∷ (l ++ mark (n + 1) b.to (symbol signs.Close) ∷ [])) b.spelled.spelled ∙ ap (λ l. let m : Mark = record { token = t; count = n } in m ∷ l) (sym b.is);
    })

held_of : (n : ℕ) (t : Token) → t.kind ≡ word words.Acc → (i : Instance) (ms : List Mark) → Nested (record { token = t; count = n }) (Bracketed n signs.Open signs.Close (HoldingFor (n + 1))) i ms → InstanceFor n i ms
unfolding instance_of
held_of n t k i ms h =
    let b = h.spelled in
    let c = b.spelled in
    record {
      phrase = held t.place b.from c.at c.text c.from c.inner c.to c.amount b.to;
      stands = (c.inner_stands, c.amount_stands);
      means = c.means;
      spelled = marks_is t (word words.Acc) n _ k ∙ ap (λ l. let m : Mark = record { token = t; count = n } in m ∷ mark (n + 1) b.from (symbol signs.Open) ∷ (l ++ mark (n + 1) b.to (symbol signs.Close) ∷ [])) c.spelled ∙ ap (λ l. let m : Mark = record { token = t; count = n } in m ∷ l) (sym b.is) ∙ sym h.is;
    }

-- reading what `acc` holds tells so, at a room
abbrev pub HoldingTells : (limit room : ℕ) → Type 0
HoldingTells limit room = (n : ℕ) → n + room ≡ limit → (ts : List Token) → Tells (HoldingFor n) limit ts (holding_at (below room) ts)

abbrev pub HoldingInside : (limit room : ℕ) → Type 0
HoldingInside limit room = (less : ℕ) → room ≡ less + 1 → HoldingTells limit less

held_tells : (limit n room : ℕ) (t : Token) (ts : List Token) → n + room ≡ limit → HoldingInside limit room → t.kind ≡ word words.Acc → Tells (InstanceFor n) limit (t ∷ ts) (enclosed (below room) holding ts)
held_tells limit n room t ts e told k =
    tells_as (Nested (record { token = t; count = n }) (Bracketed n signs.Open signs.Close (HoldingFor (n + 1)))) (InstanceFor n) limit (t ∷ ts) _ (held_of n t k)
    (led_tells (Bracketed n signs.Open signs.Close (HoldingFor (n + 1))) limit n t ts _ (omega (arith, e))
    (enclosed_tells holding (HoldingFor (n + 1)) limit n room ts e (starts_holding (n + 1)) (λ less s us. told less s (n + 1) (count_down limit n room less e s) us)))

instance_by_tells : (limit n room : ℕ) (t : Token) (k : Kind) (ts : List Token) → n + room ≡ limit → ToldInside limit room → HoldingInside limit room → t.kind ≡ k → Tells (InstanceFor n) limit (t ∷ ts) (instance_by (below room) t k ts)
instance_by_tells limit n room t (name x) ts e told holds k = bare_tells limit n room t x ts e told k
instance_by_tells limit n room t (word words.Acc) ts e told holds k = held_tells limit n room t ts e holds k
instance_by_tells limit n room t k ts e told holds h = tells_unexpected (InstanceFor n) limit (t ∷ ts) (starts_instance n)

pub instance_tells : (limit n room : ℕ) (ts : List Token) → n + room ≡ limit → ToldInside limit room → HoldingInside limit room → Tells (InstanceFor n) limit ts (instance_at (below room) ts)
unfolding instance_at
instance_tells limit n room [] e told holds = tells_unexpected (InstanceFor n) limit [] (starts_instance n)
instance_tells limit n room (t ∷ ts) e told holds = instance_by_tells limit n room t t.kind ts e told holds refl
