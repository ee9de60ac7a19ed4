-- The turns of a loop.
use Rattle.std.proofs.Common.{◌≡◌, ℕ, suc, ◌+◌, ◌-◌, ◌≤◌, ◌<◌, List, Some, None, Ok, Err, refl, sym, ◌∙◌, arith}
use Rattle.vx_tokens.specs.Tokens.{Token}
use Rattle.vx_grammar.specs.Reading.{Read, Stop, Turn, run}

-- an item follows
pub run_on : {S : Type 0} (turn : Turn S) (count i : ℕ) (s more : S) (ts after : List Token) (total : Read S) → i < count → turn s ts ≡ Ok (Some more, after) → run turn (count - i) s ts ≡ total → run turn (count - (i + 1)) more after ≡ total
unfolding run
run_on turn count i s more ts after total lt e so_far =
    let k : count - i ≡ suc (count - (i + 1)) = omega arith in
    let one : run turn (count - i) s ts ≡ run turn (count - (i + 1)) more after = rw (k, e) refl in
    sym one ∙ so_far

-- no item follows
pub run_over : {S : Type 0} (turn : Turn S) (count i : ℕ) (s : S) (ts after : List Token) (total : Read S) → i < count → turn s ts ≡ Ok (None, after) → run turn (count - i) s ts ≡ total → total ≡ Ok (s, ts)
unfolding run
run_over turn count i s ts after total lt e so_far =
    let k : count - i ≡ suc (count - (i + 1)) = omega arith in
    let one : run turn (count - i) s ts ≡ Ok (s, ts) = rw (k, e) refl in
    sym so_far ∙ one

-- reading stops inside an item
pub run_stops : {S : Type 0} (turn : Turn S) (count i : ℕ) (s : S) (ts : List Token) (stop : Stop) (total : Read S) → i < count → turn s ts ≡ Err stop → run turn (count - i) s ts ≡ total → total ≡ Err stop
unfolding run
run_stops turn count i s ts stop total lt e so_far =
    let k : count - i ≡ suc (count - (i + 1)) = omega arith in
    let one : run turn (count - i) s ts ≡ Err stop = rw (k, e) refl in
    sym so_far ∙ one

-- all turns are done
pub run_all : {S : Type 0} (turn : Turn S) (count i : ℕ) (s : S) (ts : List Token) (total : Read S) → count ≤ i → run turn (count - i) s ts ≡ total → total ≡ Ok (s, ts)
unfolding run
run_all turn count i s ts total le so_far =
    let k : count - i ≡ 0 = omega arith in
    sym so_far ∙ rw k refl
