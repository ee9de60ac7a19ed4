-- What the words of the command line mean.
use Rattle.std.specs.Prelude.{◌≡◌, ◌==◌, List, [], ◌∷◌, length, ℕ, Option, Some, None, Result, Ok, Err, codes, option_and_then, option_map, unwrap_or, nat_le, ◌≤◌, if◌then◌else◌}
use Rattle.std.specs.Str.{bytes_eq}
use Rattle.clap.specs.Words.{Row, Text, first_of, fault_of, subcommand_of}
use Rattle.vx_words.specs.Table.{vsil_app}
use Rattle.vx_words.specs.Solvers.{parts_in}
use Rattle.vx_words.specs.Numbers.{number_in}
use Rattle.vx_words.specs.declared.order.Order.{Order}
use Rattle.vx_words.specs.declared.order.Order.TheVariants.{Verify, Check, Print, Gen, Work, Run}
use Rattle.vx_words.specs.declared.order.WordsFault.{WordsFault}
use Rattle.vx_words.specs.declared.order.WordsFault.TheVariants.{Usage, Want}

-- no words after the name mean `verify`
abbrev pub default_words : List Text → List Text
default_words words = if nat_le (length words) 1 then (codes "vsil" ∷ codes "verify" ∷ []) else words

-- N, from 1 to 16; none means 1
abbrev pub jobs_in : List Row → Option ℕ
jobs_in rows = number_in 1 16 (unwrap_or (first_of (codes "jobs") rows) (codes "1"))

-- FILE, the parts of the solver's TEXT, of which there must be one, and N
abbrev pub verify_in : List Row → Option Order
verify_in rows =
    let solver = parts_in (unwrap_or (first_of (codes "solver") rows) (codes "builtin")) in
    if length solver == 0 then None else option_map (Verify (first_of (codes "file") rows) solver) (jobs_in rows)

-- how many methods, which must be there: at most 2000
abbrev pub count_in : List Row → Option ℕ
count_in rows = option_and_then (number_in 0 2000) (first_of (codes "methods") rows)

abbrev pub work_in : List Row → Option Order
work_in rows = option_and_then (λ methods. option_map (Work methods) (jobs_in rows)) (count_in rows)

-- SEED, which must be there: below 2^64
abbrev pub seed_in : List Row → Option ℕ
seed_in rows = option_and_then (number_in 0 18446744073709551615) (first_of (codes "seed") rows)

-- FILE, METHOD and SEED, which must all be there
abbrev pub run_in : List Row → Option Order
run_in rows =
    option_and_then (λ file.
    option_and_then (λ method. option_map (Run file method) (seed_in rows)) (first_of (codes "method") rows)) (first_of (codes "file") rows)

-- the order of a subcommand, by its name and its matches
abbrev pub order_from : Text → List Row → Option Order
order_from name rows =
    if bytes_eq name (codes "verify") then verify_in rows
    else (if bytes_eq name (codes "gen") then option_map Gen (count_in rows)
    else (if bytes_eq name (codes "work") then work_in rows
    else (if bytes_eq name (codes "run") then run_in rows
    else (if bytes_eq name (codes "check") then Some (Check (first_of (codes "file") rows))
    else (if bytes_eq name (codes "print") then Some (Print (first_of (codes "file") rows)) else None)))))

-- what the words mean, if the table takes them
abbrev pub order_of_words : List Text → Option Order
order_of_words words =
    if length (fault_of vsil_app words) == 0 then option_and_then (λ p. order_from p.0 p.1) (subcommand_of vsil_app words) else None

-- the first word is the program's name
abbrev pub order_of : List Text → Option Order
order_of words = order_of_words (default_words words)

-- `Usage` comes exactly where the words mean nothing.
abbrev pub ReadsAs : Option Order → Result Order WordsFault → Type 0
ReadsAs meaning (Ok order) = meaning ≡ Some order
ReadsAs meaning (Err Usage) = meaning ≡ None
ReadsAs meaning (Err Want) = Unit {0}

-- so many lanes there may be
abbrev pub IsLanes : ℕ → Type 0
IsLanes jobs = (1 ≤ jobs) × (jobs ≤ 16)

-- at most so many methods are generated, and there are at most so many lanes
abbrev pub IsWithinLimit : Order → Type 0
IsWithinLimit (Verify file solver jobs) = IsLanes jobs
IsWithinLimit (Check file) = Unit {0}
IsWithinLimit (Print file) = Unit {0}
IsWithinLimit (Gen methods) = methods ≤ 2000
IsWithinLimit (Work methods jobs) = (methods ≤ 2000) × IsLanes jobs
IsWithinLimit (Run file method seed) = Unit {0}
