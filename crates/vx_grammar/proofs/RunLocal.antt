-- A loop looks no further than the token at which it stops.
use Rattle.std.proofs.Common.{◌≡◌, Bool, true, false, ℕ, zero, suc, ◌+◌, ◌≤◌, ◌<◌, List, [], ◌∷◌, ◌++◌, Option, Some, None, Ok, Err, length, refl, sym, ap, subst, ◌∙◌, append_assoc, arith, length-append}
use Rattle.std.proofs.lemmas.List.{append_cancel_right, length-map}
use Rattle.vx_tokens.specs.Tokens.{Token}
use Rattle.vx_grammar.specs.Reading.{◌>>=◌, Read, Stop, Unexpected, Measured, TooDeep, Turn, run, turned}
use Rattle.vx_grammar.specs.Grammar.{Mark, tokens_of}
use Rattle.vx_grammar.proofs.Tells.{Grammar, TellsOk}
use Rattle.vx_grammar.proofs.Local.{Local, LocalBy, at_same, Front, Heads, Alike, alike_behind, front_less}

-- as Front of one reader, for as many turns as there may be
pub record RunFront {S : Type 0} (b : Bool) (turn : Turn S) (s : S) (ts rest : List Token) (answer : List Token → Read S) : Type 0 where
  pub front : List Token
  pub is : ts ≡ front ++ rest
  pub repeats : (next : List Token) → Heads b rest next → (most : ℕ) → length (front ++ next) ≤ most → run turn most s (front ++ next) ≡ answer next

abbrev pub LocalRun : {S : Type 0} → Bool → Turn S → S → List Token → Read S → Type 0
LocalRun b turn s ts (Ok x) = RunFront b turn s ts x.1 (λ l. Ok (x.0, l))
LocalRun b turn s ts (Err (Unexpected rest)) = RunFront true turn s ts rest (λ l. Err (Unexpected l))
LocalRun b turn s ts (Err (Measured rest)) = RunFront false turn s ts rest (λ l. Err (Measured l))
LocalRun b turn s ts (Err (TooDeep rest)) = Unit {0}

-- as LocalBy, where only a turn that takes nothing may see what the others do not
abbrev pub LocalTurn : {S : Type 0} → Bool → List Token → Read (Option S) → (List Token → Read (Option S)) → Type 0
LocalTurn b ts (Ok (None, rest)) reader = Front b ts rest (λ l. Ok (None, l)) reader
LocalTurn b ts (Ok (Some t, rest)) reader = Front true ts rest (λ l. Ok (Some t, l)) reader
LocalTurn b ts (Err (Unexpected rest)) reader = Front true ts rest (λ l. Err (Unexpected l)) reader
LocalTurn b ts (Err (Measured rest)) reader = Front false ts rest (λ l. Err (Measured l)) reader
LocalTurn b ts (Err (TooDeep rest)) reader = Unit {0}

pub local_turn : {S : Type 0} (b : Bool) (ts : List Token) (r : Read (Option S)) (reader : List Token → Read (Option S)) → Local ts r reader → LocalTurn b ts r reader
local_turn b ts (Ok (None, rest)) reader h = front_less b ts rest (λ l. Ok (None, l)) reader h
local_turn b ts (Ok (Some t, rest)) reader h = h
local_turn b ts (Err (Unexpected rest)) reader h = h
local_turn b ts (Err (Measured rest)) reader h = h
local_turn b ts (Err (TooDeep rest)) reader h = tt

-- a turn that takes nothing
pub turn_over : {S : Type 0} (t : Token) (ts : List Token) (reader : List Token → Read (Option S)) → ((more : List Token) → reader (t ∷ more) ≡ Ok (None, t ∷ more)) → LocalTurn false (t ∷ ts) (Ok (None, t ∷ ts)) reader
turn_over t ts reader h = record { front = []; is = refl; repeats = at_same t ts reader (λ l. Ok (None, l)) h }

-- a turn that is repeated by another, takes a token at least where it goes on, and none where it does not
pub record Turns {S : Type 0} (b : Bool) (turn other : Turn S) : Type 0 where
  pub local : (s : S) (ts : List Token) → LocalTurn b ts (turn s ts) (other s)
  pub short : (s t : S) (ts mid : List Token) → turn s ts ≡ Ok (Some t, mid) → length mid < length ts
  pub same : (s : S) (ts mid : List Token) → turn s ts ≡ Ok (None, mid) → ts ≡ mid
  pub empty : (s : S) → other s [] ≡ Ok (None, [])

empty_run : {S : Type 0} (b : Bool) (turn other : Turn S) → Turns b turn other → (s : S) (most : ℕ) → run other most s [] ≡ Ok (s, [])
unfolding run
empty_run b turn other h s zero = refl
empty_run b turn other h s (suc most) = rw (h.empty s) refl

only_empty : {S : Type 0} (b : Bool) (turn other : Turn S) → Turns b turn other → (s : S) (next : List Token) → Heads b [] next → (most : ℕ) → run other most s next ≡ Ok (s, next)
only_empty b turn other h s [] same most = empty_run b turn other h s most
only_empty true turn other h s (t ∷ next) same most = absurd same
only_empty false turn other h s (t ∷ next) same most = absurd same

nothing_front : (front rest : List Token) → rest ≡ front ++ rest → front ≡ []
nothing_front front rest e = append_cancel_right front [] rest (sym e)

over_run : {S : Type 0} (b : Bool) (turn other : Turn S) (s : S) (ts : List Token) → Front b ts ts (λ l. Ok (None, l)) (other s) → LocalRun b other s ts (Ok (s, ts))
unfolding run
over_run b turn other s ts f = record { front = []; is = refl; repeats = again }
  where
    again : (next : List Token) → Heads b ts next → (most : ℕ) → length next ≤ most → run other most s next ≡ Ok (s, next)
    again next same zero le = refl
    again next same (suc most) le =
        let none : f.front ≡ [] = nothing_front f.front ts f.is in
        let read : other s next ≡ Ok (None, next) = subst (λ l. other s (l ++ next) ≡ Ok (None, next)) none (f.repeats next same) in
        rw read refl

stop_run : {S : Type 0} (b : Bool) (turn other : Turn S) → Turns b turn other → (c : Bool) (stop : List Token → Stop) (s : S) (ts rest : List Token) → Front c ts rest (λ l. Err (stop l)) (other s) → RunFront c other s ts rest (λ l. Err (stop l))
unfolding run
stop_run b turn other h c stop s ts rest f = record { front = f.front; is = f.is; repeats = again }
  where
    no_tokens : (l : List Token) → length l ≤ 0 → l ≡ []
    no_tokens [] le = refl
    no_tokens (t ∷ l) le = absurd (omega (arith, le))

    again : (next : List Token) → Heads c rest next → (most : ℕ) → length (f.front ++ next) ≤ most → run other most s (f.front ++ next) ≡ Err (stop next)
    again next same zero le =
        let e : other s [] ≡ Err (stop next) = subst (λ l. other s l ≡ Err (stop next)) (no_tokens (f.front ++ next) le) (f.repeats next same) in
        let o = h.empty s in
        absurd cc
    again next same (suc most) le = rw (f.repeats next same) refl

on_run : {S : Type 0} (c : Bool) (turn other : Turn S) (s t : S) (ts mid rest : List Token) (answer : List Token → Read S) → length mid < length ts → Front true ts mid (λ l. Ok (Some t, l)) (other s) → RunFront c other t mid rest answer → RunFront c other s ts rest answer
unfolding run
on_run c turn other s t ts mid rest answer lt f g = record {
  front = f.front ++ g.front;
  is = f.is ∙ ap (λ l. f.front ++ l) g.is ∙ sym (append_assoc f.front g.front rest);
  repeats = again;
}
  where
    again : (next : List Token) → Heads c rest next → (most : ℕ) → length ((f.front ++ g.front) ++ next) ≤ most → run other most s ((f.front ++ g.front) ++ next) ≡ answer next
    again next same most le =
        let l3 = g.front ++ next in
        let list : (f.front ++ g.front) ++ next ≡ f.front ++ l3 = append_assoc f.front g.front next in
        let heads : Alike mid l3 = alike_behind c g.front mid rest next g.is same in
        let n1 = length-append f.front mid in
        let n2 = ap length f.is in
        let n3 = length-append f.front l3 in
        let n4 = ap length list in
        ap (run other most s) list ∙ by_most most (omega (arith, n4, le)) (f.repeats l3 heads) (omega (arith, lt, n1, n2, n3, n4, le)) (omega (arith, lt, n1, n2))
      where
        by_most : (most : ℕ) → length (f.front ++ (g.front ++ next)) ≤ most → other s (f.front ++ (g.front ++ next)) ≡ Ok (Some t, g.front ++ next) → length (g.front ++ next) + 1 ≤ most → 1 ≤ length f.front → run other most s (f.front ++ (g.front ++ next)) ≡ answer next
        by_most zero le read short one = absurd (omega (arith, short))
        by_most (suc most) le read short one = rw read (g.repeats next same most (omega (arith, short)))

by_turn : {S : Type 0} (b : Bool) (turn other : Turn S) → Turns b turn other → (s : S) (ts : List Token) (r : Read (Option S)) → turn s ts ≡ r → (go : S → List Token → Read S) → ((t : S) (us : List Token) → length us < length ts → LocalRun b other t us (go t us)) → LocalRun b other s ts (r >>= λ x. turned go s ts x.0 x.1)
by_turn {S = S} b turn other h s ts (Ok (None, mid)) e go k = over_run b turn other s ts (subst (λ m. Front b ts m (λ l. Ok (None, l)) (other s)) (sym (h.same s ts mid e)) (subst (λ r. LocalTurn b ts r (other s)) e (h.local s ts)))
by_turn {S = S} b turn other h s ts (Ok (Some t, mid)) e go k =
    let lt = h.short s t ts mid e in
    more_run (go t mid) (k t mid lt)
  where
    more_run : (r : Read S) → LocalRun b other t mid r → LocalRun b other s ts r
    more_run (Ok x) g = on_run b turn other s t ts mid x.1 (λ l. Ok (x.0, l)) (h.short s t ts mid e) (subst (λ r. LocalTurn b ts r (other s)) e (h.local s ts)) g
    more_run (Err (Unexpected rest)) g = on_run true turn other s t ts mid rest (λ l. Err (Unexpected l)) (h.short s t ts mid e) (subst (λ r. LocalTurn b ts r (other s)) e (h.local s ts)) g
    more_run (Err (Measured rest)) g = on_run false turn other s t ts mid rest (λ l. Err (Measured l)) (h.short s t ts mid e) (subst (λ r. LocalTurn b ts r (other s)) e (h.local s ts)) g
    more_run (Err (TooDeep rest)) g = tt
by_turn {S = S} b turn other h s ts (Err (Unexpected rest)) e go k = stop_run b turn other h true Unexpected s ts rest (subst (λ r. LocalTurn b ts r (other s)) e (h.local s ts))
by_turn {S = S} b turn other h s ts (Err (Measured rest)) e go k = stop_run b turn other h false Measured s ts rest (subst (λ r. LocalTurn b ts r (other s)) e (h.local s ts))
by_turn {S = S} b turn other h s ts (Err (TooDeep rest)) e go k = tt

run_local_by : {S : Type 0} (b : Bool) (turn other : Turn S) → Turns b turn other → (most : ℕ) (s : S) (ts : List Token) → length ts ≤ most → LocalRun b other s ts (run turn most s ts)
unfolding run
run_local_by b turn other h zero s [] le = record { front = []; is = refl; repeats = λ next same most l. only_empty b turn other h s next same most }
run_local_by b turn other h zero s (t ∷ ts) le = absurd (omega (arith, le))
run_local_by b turn other h (suc most) s ts le = by_turn b turn other h s ts (turn s ts) refl (run turn most) (λ t us lt. run_local_by b turn other h most t us (omega (arith, lt, le)))

-- a loop that is given as many turns as there are tokens
pub run_local : {S : Type 0} (b : Bool) (turn other : Turn S) → Turns b turn other → (s : S) (ts : List Token) → LocalBy b ts (run turn (length ts) s ts) (λ l. run other (length l) s l)
run_local {S = S} b turn other h s ts = by_read (run turn (length ts) s ts) (run_local_by b turn other h (length ts) s ts (omega arith))
  where
    by_read : (r : Read S) → LocalRun b other s ts r → LocalBy b ts r (λ l. run other (length l) s l)
    by_read (Ok x) g = record { front = g.front; is = g.is; repeats = λ next same. g.repeats next same (length (g.front ++ next)) (omega arith) }
    by_read (Err (Unexpected rest)) g = record { front = g.front; is = g.is; repeats = λ next same. g.repeats next same (length (g.front ++ next)) (omega arith) }
    by_read (Err (Measured rest)) g = record { front = g.front; is = g.is; repeats = λ next same. g.repeats next same (length (g.front ++ next)) (omega arith) }
    by_read (Err (TooDeep rest)) g = tt

-- what was taken by some marks is shorter, and by none is the same
pub taken_short : {A : Type 0} (R : Grammar A) (deep : ℕ) (ts : List Token) (x : A) (mid : List Token) → ((ms : List Mark) → R x ms → 1 ≤ length ms) → TellsOk R deep ts x mid → length mid < length ts
taken_short R deep ts x mid f h =
    let one = f h.marks h.spelled in
    let all = ap length h.takes.tokens in
    let a = length-append (tokens_of h.marks) mid in
    let b = length-map h.marks (λ m. m.token) in
    omega (arith, one, all, a, b)

pub taken_none : {A : Type 0} (R : Grammar A) (deep : ℕ) (ts : List Token) (x : A) (mid : List Token) → ((ms : List Mark) → R x ms → ms ≡ []) → TellsOk R deep ts x mid → ts ≡ mid
taken_none R deep ts x mid f h = h.takes.tokens ∙ ap (λ l. tokens_of l ++ mid) (f h.marks h.spelled)
