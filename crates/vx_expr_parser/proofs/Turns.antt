-- The turns of the parser's loops.
use Rattle.std.proofs.Common.{◌≡◌, ℕ, ◌+◌, ◌-◌, ◌≤◌, ◌<◌, List, [], ◌∷◌, ◌++◌, Some, None, Result, Ok, Err, true, false, length, refl, sym, arith, ap}
use Rattle.std.proofs.lemmas.List.{length-map}
use Rattle.vx_ast.specs.Written.{Placed, Expr, Exprs, Declaration}
use Rattle.vx_tokens.specs.declared.token.Token as the_token
use Rattle.vx_tokens.specs.declared.token.Symbol.TheVariants as signs
use Rattle.vx_tokens.specs.Tokens.{Token, tokens_in, token_of}
use Rattle.vx_grammar.specs.Reading.{name_at, name_turn, ◌>>=◌, Read, choice_at, below, exprs_from, argument_turn, some_arguments, is_symbol, Turn, run}
use Rattle.vx_grammar.specs.StmtReading.{declaration_at}
use Rattle.vx_grammar.specs.MemberReading.{declaration_turn}
use Rattle.vx_grammar.proofs.Turns.{run_on, run_over, run_stops, run_all}
use Rattle.vx_expr_parser.specs.declared.stop.Stop as the_stop
use Rattle.vx_expr_parser.specs.declared.stop.Stop.TheVariants as stops
use Rattle.vx_expr_parser.specs.Gives.{Gives, Stops}

-- ---- turns over the tokens of the program

pub goes_on : {S : Type 0} (turn : Turn S) (tokens : List the_token.Token) (i : ℕ) (s more : S) (ts after : List Token) (total : Read S) → i < length tokens → turn s ts ≡ Ok (Some more, after)
    → run turn (length (tokens_in tokens) - i) s ts ≡ total → run turn (length (tokens_in tokens) - (i + 1)) more after ≡ total
goes_on turn tokens i s more ts after total lt e so_far = let n = length-map tokens token_of in run_on turn (length (tokens_in tokens)) i s more ts after total (omega (arith, n, lt)) e so_far

pub is_over : {S : Type 0} (turn : Turn S) (tokens : List the_token.Token) (i : ℕ) (s : S) (ts after : List Token) (total : Read S) → i < length tokens → turn s ts ≡ Ok (None, after)
    → run turn (length (tokens_in tokens) - i) s ts ≡ total → total ≡ Ok (s, ts)
is_over turn tokens i s ts after total lt e so_far = let n = length-map tokens token_of in run_over turn (length (tokens_in tokens)) i s ts after total (omega (arith, n, lt)) e so_far

pub is_done : {S : Type 0} (turn : Turn S) (tokens : List the_token.Token) (i : ℕ) (s : S) (ts : List Token) (total : Read S) → length tokens ≤ i
    → run turn (length (tokens_in tokens) - i) s ts ≡ total → total ≡ Ok (s, ts)
is_done turn tokens i s ts total le so_far = let n = length-map tokens token_of in run_all turn (length (tokens_in tokens)) i s ts total (omega (arith, n, le)) so_far

pub halts : {S : Type 0} (e : the_stop.Stop) (turn : Turn S) (tokens : List the_token.Token) (i : ℕ) (s : S) (ts : List Token) (total : Read S) → i < length tokens → Stops e (turn s ts)
    → run turn (length (tokens_in tokens) - i) s ts ≡ total → Stops e total
halts stops.Memory turn tokens i s ts total lt h so_far = tt
halts (stops.Unexpected r) turn tokens i s ts total lt h so_far = let n = length-map tokens token_of in run_stops turn (length (tokens_in tokens)) i s ts _ total (omega (arith, n, lt)) h so_far
halts (stops.Measured r) turn tokens i s ts total lt h so_far = let n = length-map tokens token_of in run_stops turn (length (tokens_in tokens)) i s ts _ total (omega (arith, n, lt)) h so_far
halts (stops.TooDeep r) turn tokens i s ts total lt h so_far = let n = length-map tokens token_of in run_stops turn (length (tokens_in tokens)) i s ts _ total (omega (arith, n, lt)) h so_far

pub stops_after : {A B : Type 0} (e : the_stop.Stop) (read : Read A) (f : A × List Token → Read B) → Stops e read → Stops e (read >>= f)
stops_after stops.Memory read f h = tt
stops_after (stops.Unexpected ts) read f h = rw h refl
stops_after (stops.Measured ts) read f h = rw h refl
stops_after (stops.TooDeep ts) read f h = rw h refl

pub empty_tokens : (ts : List the_token.Token) → length ts ≡ 0 → tokens_in ts ≡ []
empty_tokens [] e = refl
empty_tokens (t ∷ ts) e = absurd (omega (arith, e))

-- ---- names

pub name_on : (before : List Placed) (ts : List Token) (t : Token) (us : List Token) (d : Placed) (after : List Token) → ts ≡ t ∷ us → is_symbol signs.Comma t.kind ≡ true → name_at us ≡ Ok (d, after)
    → name_turn before ts ≡ Ok (Some (before ++ d ∷ []), after)
unfolding name_turn
name_on before ts t us d after first comma read = rw (first, comma, read) refl

pub name_over : (before : List Placed) (ts : List Token) (t : Token) (us : List Token) → ts ≡ t ∷ us → is_symbol signs.Comma t.kind ≡ false → name_turn before ts ≡ Ok (None, t ∷ us)
unfolding name_turn
name_over before ts t us first comma = rw (first, comma) refl

pub name_end : (before : List Placed) (ts : List Token) → ts ≡ [] → name_turn before ts ≡ Ok (None, [])
unfolding name_turn
name_end before ts none = rw none refl

pub name_stops : (e : the_stop.Stop) (before : List Placed) (ts : List Token) (t : Token) (us : List Token) → ts ≡ t ∷ us → is_symbol signs.Comma t.kind ≡ true → Stops e (name_at us) → Stops e (name_turn before ts)
unfolding name_turn
name_stops e before ts t us first comma read = rw (first, comma) (stops_after e (name_at us) (λ d. Ok (Some (before ++ d.0 ∷ []), d.1)) read)

-- ---- declarations

pub declaration_on : (before : List Declaration) (ts : List Token) (t : Token) (us : List Token) (d : Declaration) (after : List Token) → ts ≡ t ∷ us → is_symbol signs.Comma t.kind ≡ true → declaration_at us ≡ Ok (d, after)
    → declaration_turn before ts ≡ Ok (Some (before ++ d ∷ []), after)
unfolding declaration_turn
declaration_on before ts t us d after first comma read = rw (first, comma, read) refl

pub declaration_over : (before : List Declaration) (ts : List Token) (t : Token) (us : List Token) → ts ≡ t ∷ us → is_symbol signs.Comma t.kind ≡ false → declaration_turn before ts ≡ Ok (None, t ∷ us)
unfolding declaration_turn
declaration_over before ts t us first comma = rw (first, comma) refl

pub declaration_end : (before : List Declaration) (ts : List Token) → ts ≡ [] → declaration_turn before ts ≡ Ok (None, [])
unfolding declaration_turn
declaration_end before ts none = rw none refl

pub declaration_stops : (e : the_stop.Stop) (before : List Declaration) (ts : List Token) (t : Token) (us : List Token) → ts ≡ t ∷ us → is_symbol signs.Comma t.kind ≡ true → Stops e (declaration_at us) → Stops e (declaration_turn before ts)
unfolding declaration_turn
declaration_stops e before ts t us first comma read = rw (first, comma) (stops_after e (declaration_at us) (λ d. Ok (Some (before ++ d.0 ∷ []), d.1)) read)

-- ---- arguments

pub argument_on : (room : ℕ) (before : List Expr) (ts : List Token) (t : Token) (us : List Token) (e : Expr) (after : List Token) → ts ≡ t ∷ us → is_symbol signs.Comma t.kind ≡ true → choice_at (below room) us ≡ Ok (e, after)
    → argument_turn (below room) before ts ≡ Ok (Some (before ++ e ∷ []), after)
unfolding argument_turn
argument_on room before ts t us e after first comma read = rw (first, comma, read) refl

pub argument_over : (room : ℕ) (before : List Expr) (ts : List Token) (t : Token) (us : List Token) → ts ≡ t ∷ us → is_symbol signs.Comma t.kind ≡ false → argument_turn (below room) before ts ≡ Ok (None, t ∷ us)
unfolding argument_turn
argument_over room before ts t us first comma = rw (first, comma) refl

pub argument_end : (room : ℕ) (before : List Expr) (ts : List Token) → ts ≡ [] → argument_turn (below room) before ts ≡ Ok (None, [])
unfolding argument_turn
argument_end room before ts none = rw none refl

pub argument_stops : (e : the_stop.Stop) (room : ℕ) (before : List Expr) (ts : List Token) (t : Token) (us : List Token) → ts ≡ t ∷ us → is_symbol signs.Comma t.kind ≡ true → Stops e (choice_at (below room) us) → Stops e (argument_turn (below room) before ts)
unfolding argument_turn
argument_stops e room before ts t us first comma read = rw (first, comma) (stops_after e (choice_at (below room) us) (λ d. Ok (Some (before ++ d.0 ∷ []), d.1)) read)

-- a first argument, and those behind it
pub some_is : {X : Type 0} (view : X → List Expr × List Token) (by : X → Exprs × List Token) (result : Result X the_stop.Stop) (room : ℕ) (ts rest : List Token) (e : Expr) (es : List Expr)
    → ((x : X) → by x ≡ (exprs_from (view x).0, (view x).1)) → es ≡ e ∷ [] → choice_at (below room) ts ≡ Ok (e, rest) → Gives view result (run (argument_turn (below room)) (length rest) es rest) → Gives by result (some_arguments (below room) ts)
unfolding some_arguments
some_is view by (Ok x) room ts rest e es same one first g = rw (first, ← one, g) (ap (λ (y : Exprs × List Token). let r : Read Exprs = Ok y in r) (sym (same x)))
some_is view by (Err stop) room ts rest e es same one first g = rw (first, ← one) (stops_after stop (run (argument_turn (below room)) (length rest) es rest) (λ es. Ok (exprs_from es.0, es.1)) g)
