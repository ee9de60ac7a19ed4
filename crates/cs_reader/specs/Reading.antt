-- How certificates are read from tokens: each reader gives what it read and the tokens behind it, or nothing.
use Rattle.std.specs.Prelude.{◌≡◌, ℕ, zero, suc, ◌+◌, nat_eq, Bool, true, false, if◌then◌else◌, ℤ, pos, neg_ℤ, List, [], ◌∷◌, ◌++◌, length, take, drop, Option, Some, None, Ok, Err}
use Rattle.std.specs.declared.result.Result.{Result}
use Rattle.vx_frac.specs.Fractions.{Fraction, lowest}
use Rattle.vx_frac.specs.Fraction.{ratio}
use Rattle.vx_sexp.specs.declared.token.Token.{Token}
use Rattle.cs_reader.specs.declared.step.Literal.{Literal}
use Rattle.cs_reader.specs.declared.mark.Name.{Name}
use Rattle.cs_reader.specs.declared.mark.Name.TheVariants as names
use Rattle.cs_reader.specs.declared.mark.Mark.{Mark}
use Rattle.cs_reader.specs.declared.mark.Mark.TheVariants as marks
use Rattle.cs_reader.specs.declared.reader.ReadFault.{ReadFault}
use Rattle.cs_reader.specs.declared.reader.ReadFault.TheVariants as faults
use Rattle.cs_reader.specs.declared.refusal.Refusal.TheVariants.{BadForm}
use Rattle.cs_reader.specs.Items.{◌>>=◌, with_front, items_for}
use Rattle.cs_reader.specs.Marks.{mark}
use Rattle.cs_reader.specs.Spelling.{spelled, any}
use Rattle.cs_reader.specs.Steps.{Step, Input, NewTerm, Define, Pick, Chain, Congruence, Farkas, Split, Trichotomy, Divide, Propagate}

abbrev pub next_at : List Token → Option (Mark × List Token)
next_at [] = None
next_at (t ∷ ts) = Some (mark t, ts)

abbrev pub if_open : Mark → List Token → Option (List Token)
if_open marks.Open ts = Some ts
if_open _ ts = None

abbrev pub if_close : Mark → List Token → Option (List Token)
if_close marks.Close ts = Some ts
if_close _ ts = None

abbrev pub if_number : Mark → List Token → Option (ℕ × List Token)
if_number (marks.Number n) ts = Some (n, ts)
if_number _ ts = None

abbrev pub if_name : Mark → List Token → Option (Name × List Token)
if_name (marks.Name n) ts = Some (n, ts)
if_name _ ts = None

unfoldable pub opened_at : List Token → Option (List Token)
opened_at ts = do
  m ← next_at ts
  if_open m.0 m.1

unfoldable pub closed_at : List Token → Option (List Token)
closed_at ts = do
  m ← next_at ts
  if_close m.0 m.1

unfoldable pub number_at : List Token → Option (ℕ × List Token)
number_at ts = do
  m ← next_at ts
  if_number m.0 m.1

unfoldable pub name_at : List Token → Option (Name × List Token)
name_at ts = do
  m ← next_at ts
  if_name m.0 m.1

-- one, two or three numbers to the closing parenthesis
unfoldable pub one_at : List Token → Option (ℕ × List Token)
one_at ts = do
  a ← number_at ts
  rest ← closed_at a.1
  Some (a.0, rest)

unfoldable pub two_at : List Token → Option ((ℕ × ℕ) × List Token)
two_at ts = do
  a ← number_at ts
  b ← one_at a.1
  Some ((a.0, b.0), b.1)

unfoldable pub three_at : List Token → Option ((ℕ × ℕ × ℕ) × List Token)
three_at ts = do
  a ← number_at ts
  b ← two_at a.1
  Some ((a.0, b.0.0, b.0.1), b.1)

-- Lists, to their closing parenthesis.

abbrev pub number_or_close : Mark → List Token → Option (List ℕ × List Token) → Option (List ℕ × List Token)
number_or_close (marks.Number n) ts later = with_front (n ∷ []) later
number_or_close marks.Close ts later = Some ([], ts)
number_or_close _ ts later = None

abbrev pub numbers_at : List Token → Option (List ℕ × List Token)
numbers_at [] = None
numbers_at (t ∷ ts) = number_or_close (mark t) ts (numbers_at ts)

abbrev pub literal_or_close : Mark → List Token → Option (List Literal × List Token) → Option (List Literal × List Token)
literal_or_close (marks.Literal l) ts later = with_front (l ∷ []) later
literal_or_close marks.Close ts later = Some ([], ts)
literal_or_close _ ts later = None

abbrev pub literals_at : List Token → Option (List Literal × List Token)
literals_at [] = None
literals_at (t ∷ ts) = literal_or_close (mark t) ts (literals_at ts)

-- Integers and multipliers.

abbrev pub if_minus : Name → List Token → Option (List Token)
if_minus names.Minus ts = Some ts
if_minus _ ts = None

abbrev pub if_slash : Name → List Token → Option (List Token)
if_slash names.Slash ts = Some ts
if_slash _ ts = None

unfoldable pub minus_at : List Token → Option (List Token)
minus_at ts = do
  n ← name_at ts
  if_minus n.0 n.1

unfoldable pub slash_at : List Token → Option (List Token)
slash_at ts = do
  n ← name_at ts
  if_slash n.0 n.1

abbrev pub integer_by : Mark → List Token → Option (ℤ × List Token)
integer_by (marks.Number n) ts = Some (pos n, ts)
integer_by marks.Open ts = do
  minus ← minus_at ts
  n ← one_at minus
  Some (neg_ℤ (pos n.0), n.1)
integer_by _ ts = None

-- a numeral, or `(- n)`
unfoldable pub integer_at : List Token → Option (ℤ × List Token)
integer_at ts = do
  m ← next_at ts
  integer_by m.0 m.1

abbrev pub signed : Bool → ℕ → ℤ
signed true n = neg_ℤ (pos n)
signed false n = pos n

abbrev pub quotient : Bool → ℕ → ℕ → List Token → Option (Fraction × List Token)
quotient negative a zero ts = None
quotient negative a (suc b) ts = Some (lowest (ratio (signed negative a) (pos (suc b))), ts)

-- two numerals behind a slash
unfoldable pub quotient_at : Bool → List Token → Option (Fraction × List Token)
quotient_at negative ts = do
  n ← two_at ts
  quotient negative n.0.0 n.0.1 n.1

abbrev pub amount_by : Bool → Mark → List Token → Option (Fraction × List Token)
amount_by negative (marks.Number n) ts = Some (lowest (ratio (signed negative n) (pos 1)), ts)
amount_by negative marks.Open ts = do
  slash ← slash_at ts
  quotient_at negative slash
amount_by negative _ ts = None

-- a numeral, or `(/ a b)`
unfoldable pub amount_at : Bool → List Token → Option (Fraction × List Token)
amount_at negative ts = do
  m ← next_at ts
  amount_by negative m.0 m.1

abbrev pub multiplier_of : Name → List Token → Option (Fraction × List Token)
multiplier_of names.Slash ts = quotient_at false ts
multiplier_of names.Minus ts = do
  a ← amount_at true ts
  rest ← closed_at a.1
  Some (a.0, rest)
multiplier_of _ ts = None

abbrev pub multiplier_by : Mark → List Token → Option (Fraction × List Token)
multiplier_by (marks.Number n) ts = Some (lowest (ratio (pos n) (pos 1)), ts)
multiplier_by marks.Open ts = do
  n ← name_at ts
  multiplier_of n.0 n.1
multiplier_by _ ts = None

abbrev pub more_by : Mark → List Token → Option (Option Fraction × List Token)
more_by marks.Close ts = Some (None, ts)
more_by m ts = do
  a ← multiplier_by m ts
  Some (Some a.0, a.1)

-- a multiplier, or the closing parenthesis
unfoldable pub more_at : List Token → Option (Option Fraction × List Token)
more_at ts = do
  m ← next_at ts
  more_by m.0 m.1

-- multipliers to the closing parenthesis; there are no more of them than tokens
abbrev pub multipliers_at : List Token → Option (List Fraction × List Token)
multipliers_at ts = items_for more_at (length ts) ts

-- Terms.

-- so many lists are open behind a token of a term
abbrev pub depth_after : Mark → ℕ → Option ℕ
depth_after marks.Open d = Some (d + 1)
depth_after marks.Close zero = None
depth_after marks.Close (suc d) = Some d
depth_after _ d = Some d

-- the number of tokens of the first s-expression, in which so many lists are open
abbrev pub tokens_from : ℕ → List Token → Option ℕ
tokens_from d [] = None
tokens_from d (t ∷ ts) = do
  e ← depth_after (mark t) d
  if nat_eq e 0 then Some 1 else (tokens_from e ts >>= λ n. Some (suc n))

-- Steps.

unfoldable pub input_at : List Token → Option (Step × List Token)
input_at ts = do
  n ← one_at ts
  Some (Input n.0, n.1)

-- a term, whatever its symbols are
unfoldable pub term_at : List Token → Option (Step × List Token)
term_at ts = do
  n ← tokens_from 0 ts
  t ← spelled any (take n ts)
  rest ← closed_at (drop n ts)
  Some (NewTerm (take n ts), rest)

-- a step of two numbers
abbrev pub pair_of : Name → ℕ → ℕ → List Token → Option (Step × List Token)
pair_of names.Define a b ts = Some (Define a b, ts)
pair_of names.Pick a b ts = Some (Pick a b, ts)
pair_of names.Congruence a b ts = Some (Congruence a b, ts)
pair_of names.Trichotomy a b ts = Some (Trichotomy a b, ts)
pair_of _ a b ts = None

abbrev pub pair_by : Name → List Token → Option (Step × List Token)
pair_by name ts = do
  n ← two_at ts
  pair_of name n.0.0 n.0.1 n.1

abbrev pub chain_of : List ℕ → List Token → Option (Step × List Token)
chain_of [] ts = None
chain_of (n ∷ ns) ts = Some (Chain (n ∷ ns), ts)

-- one term or more
unfoldable pub chain_at : List Token → Option (Step × List Token)
chain_at ts = do
  ns ← numbers_at ts
  chain_of ns.0 ns.1

unfoldable pub farkas_at : List Token → Option (Step × List Token)
farkas_at ts = do
  first ← opened_at ts
  ls ← literals_at first
  second ← opened_at ls.1
  ms ← multipliers_at second
  rest ← closed_at ms.1
  Some (Farkas ls.0 ms.0, rest)

unfoldable pub split_at : List Token → Option (Step × List Token)
split_at ts = do
  t ← number_at ts
  z ← integer_at t.1
  rest ← closed_at z.1
  Some (Split t.0 z.0, rest)

unfoldable pub divide_at : List Token → Option (Step × List Token)
divide_at ts = do
  n ← three_at ts
  Some (Divide n.0.0 n.0.1 n.0.2, n.1)

unfoldable pub propagate_at : List Token → Option (Step × List Token)
propagate_at ts = do
  first ← opened_at ts
  ls ← literals_at first
  second ← opened_at ls.1
  hs ← numbers_at second
  rest ← closed_at hs.1
  Some (Propagate ls.0 hs.0, rest)

abbrev pub step_by : Name → List Token → Option (Step × List Token)
step_by names.Input ts = input_at ts
step_by names.Term ts = term_at ts
step_by names.Chain ts = chain_at ts
step_by names.Farkas ts = farkas_at ts
step_by names.Split ts = split_at ts
step_by names.Divide ts = divide_at ts
step_by names.Propagate ts = propagate_at ts
step_by name ts = pair_by name ts

unfoldable pub step_at : List Token → Option (Step × List Token)
step_at ts = do
  first ← opened_at ts
  n ← name_at first
  step_by n.0 n.1

-- Certificates: their steps, or the number of the first step that isn't of the written form.

abbrev pub ends_by : Mark → List Token → Bool
ends_by marks.Close [] = true
ends_by _ ts = false

-- only the closing parenthesis is left
abbrev pub is_end : List Token → Bool
is_end [] = false
is_end (t ∷ ts) = ends_by (mark t) ts

abbrev pub with_steps : List Step → Result (List Step) ℕ → Result (List Step) ℕ
with_steps ss (Ok more) = Ok (ss ++ more)
with_steps ss (Err n) = Err n

abbrev pub after_step : Option (Step × List Token) → ℕ → (List Token → Result (List Step) ℕ) → Result (List Step) ℕ
after_step None n later = Err n
after_step (Some s) n later = with_steps (s.0 ∷ []) (later s.1)

-- at most so many; there are fewer of them than tokens
abbrev pub steps_for : ℕ → ℕ → List Token → Result (List Step) ℕ
steps_for zero n ts = Err n
steps_for (suc k) n ts = if is_end ts then Ok [] else after_step (step_at ts) n (steps_for k (n + 1))

abbrev pub steps_at : List Token → Result (List Step) ℕ
steps_at ts = steps_for (length ts) 0 ts

abbrev pub if_certificate : Name → List Token → Option (List Token)
if_certificate names.Certificate ts = Some ts
if_certificate _ ts = None

unfoldable pub headed_at : List Token → Option (List Token)
headed_at ts = do
  first ← opened_at ts
  n ← name_at first
  if_certificate n.0 n.1

abbrev pub steps_behind : Option (List Token) → Result (List Step) ℕ
steps_behind None = Err 0
steps_behind (Some ts) = steps_at ts

abbrev pub certificate_at : List Token → Result (List Step) ℕ
certificate_at ts = steps_behind (headed_at ts)

-- what was returned, seen by view, is what reading gives, unless memory ran out
abbrev pub Refuses : {Y : Type 0} → ReadFault → Result Y ℕ → Type 0
Refuses faults.Want read = Unit {0}
Refuses (faults.Refused r) read = (n : ℕ) × (r ≡ BadForm n) × (read ≡ Err n)

abbrev pub Answers : {X Y : Type 0} → (X → Y) → Result X ReadFault → Result Y ℕ → Type 0
Answers view (Ok x) read = read ≡ Ok (view x)
Answers view (Err e) read = Refuses e read
