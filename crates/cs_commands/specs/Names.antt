-- The symbol and the sort that a word names.
use Rattle.std.specs.Prelude.{ℕ, ◌+◌, ◌-◌, ◌*◌, ◌^◌, ◌&&◌, nat_eq, nat_lt, if◌then◌else◌, List, [], ◌∷◌, length, codes, Option, Some, None}
use Rattle.std.specs.Option.{option_and_then}
use Rattle.std.specs.Str.{bytes_eq, is_utf8}
use Rattle.std.specs.declared.result.Result.{Result}
use Rattle.vx_sexp.specs.Characters.{is_digit}
use Rattle.vx_terms.specs.Sorts.{Sort, IntSort, BoolSort, RealSort, RefSort, SnapSort, OtherSort, Symbol, Standard, Function, Variable, Named}
use Rattle.cs_commands.specs.declared.fault.CommandFault.{CommandFault}
use Rattle.cs_commands.specs.declared.fault.CommandFault.TheVariants as faults
use Rattle.cs_commands.specs.Outcomes.{where_so}

-- ---- numbers

-- a number with a further digit, where it stays below a limit
abbrev pub with_digit : ℕ → ℕ → ℕ → Option ℕ
with_digit limit n d = if is_digit d && nat_lt (n * 10 + (d - 48)) limit then Some (n * 10 + (d - 48)) else None

-- the digits after what was read before
abbrev pub digits : ℕ → ℕ → List ℕ → Option ℕ
digits limit n [] = Some n
digits limit n (d ∷ ds) = option_and_then (λ m. digits limit m ds) (with_digit limit n d)

-- 0, or digits that don't begin with 0
abbrev pub number_below : ℕ → List ℕ → Option ℕ
number_below limit [] = None
number_below limit (d ∷ ds) = if nat_eq d 48 && nat_lt 0 (length ds) then None else digits limit 0 (d ∷ ds)

-- ---- symbols

-- one of a letter and its number, where there is one, or of this name
abbrev pub numbered : (ℕ → Symbol) → List ℕ → Option ℕ → Symbol
numbered make text (Some n) = make n
numbered make text None = Named text

-- s, f or v with its number, or another name
abbrev pub symbol_named : List ℕ → Symbol
symbol_named [] = Named []
symbol_named (b ∷ bs) =
    if nat_eq b 115 then numbered Standard (b ∷ bs) (number_below (2 ^ 32) bs) else (
    if nat_eq b 102 then numbered Function (b ∷ bs) (number_below (2 ^ 32) bs) else (
    if nat_eq b 118 then numbered Variable (b ∷ bs) (number_below (2 ^ 64) bs) else Named (b ∷ bs)))

-- ---- sorts

abbrev pub sort_named : List ℕ → Sort
sort_named text =
    if bytes_eq text (codes "Int") then IntSort else (
    if bytes_eq text (codes "Bool") then BoolSort else (
    if bytes_eq text (codes "Real") then RealSort else (
    if bytes_eq text (codes "Ref") then RefSort else (
    if bytes_eq text (codes "Snap") then SnapSort else OtherSort text))))

-- ---- texts

-- a name is text in UTF-8; the words of s-expressions are
abbrev pub text : List ℕ → Result (List ℕ) CommandFault
text bytes = where_so faults.Name (is_utf8 bytes) bytes
