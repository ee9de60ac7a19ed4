-- What the tokens of a certificate stand for.
use Rattle.std.specs.Prelude.{ℕ, ◌<◌, ◌+◌, ◌-◌, ◌*◌, ◌^◌, true, false, ◌&&◌, nat_eq, nat_lt, if◌then◌else◌, List, [], ◌∷◌, Option, Some, None, length, codes}
use Rattle.std.specs.Option.{option_map, option_and_then}
use Rattle.std.specs.Str.{bytes_eq}
use Rattle.cs_reader.specs.declared.step.Literal.{Literal}
use Rattle.cs_reader.specs.declared.mark.Name.{Name}
use Rattle.cs_reader.specs.declared.mark.Name.TheVariants as names
use Rattle.cs_reader.specs.declared.mark.Mark.{Mark}
use Rattle.cs_reader.specs.declared.mark.Mark.TheVariants as marks
use Rattle.vx_sexp.specs.Characters.{is_digit}
use Rattle.vx_sexp.specs.declared.token.Kind.{Kind}
use Rattle.vx_sexp.specs.declared.token.Kind.TheVariants.{Numeral, Symbol}
use Rattle.vx_sexp.specs.declared.token.Token.{Token}
use Rattle.vx_sexp.specs.declared.token.Token.TheVariants.{Open, Close, Atom}

-- a number with a further digit, where it stays below 2^127
abbrev pub with_digit : ℕ → ℕ → Option ℕ
with_digit n d = if is_digit d && nat_lt (n * 10 + (d - 48)) (2 ^ 127) then Some (n * 10 + (d - 48)) else None

-- the digits after what was read before
abbrev pub digits : ℕ → List ℕ → Option ℕ
digits n [] = Some n
digits n (d ∷ ds) = option_and_then (λ m. digits m ds) (with_digit n d)

-- a numeral of SMT-LIB: 0, or digits that don't begin with 0
abbrev pub numeral : List ℕ → Option ℕ
numeral [] = None
numeral (d ∷ ds) = if nat_eq d 48 && nat_lt 0 (length ds) then None else digits 0 (d ∷ ds)

-- p or n, and the number of a term
abbrev pub literal : List ℕ → Option Literal
literal [] = None
literal (b ∷ bs) =
    if nat_eq b 112 then option_map (λ n. record { positive = true; number = n }) (numeral bs)
    else (if nat_eq b 110 then option_map (λ n. record { positive = false; number = n }) (numeral bs) else None)

abbrev pub step_name : List ℕ → Option Name
step_name text =
    if bytes_eq text (codes "input") then Some names.Input else (
    if bytes_eq text (codes "term") then Some names.Term else (
    if bytes_eq text (codes "def") then Some names.Define else (
    if bytes_eq text (codes "pick") then Some names.Pick else (
    if bytes_eq text (codes "chain") then Some names.Chain else (
    if bytes_eq text (codes "cong") then Some names.Congruence else (
    if bytes_eq text (codes "farkas") then Some names.Farkas else (
    if bytes_eq text (codes "split") then Some names.Split else (
    if bytes_eq text (codes "tri") then Some names.Trichotomy else (
    if bytes_eq text (codes "div") then Some names.Divide else (
    if bytes_eq text (codes "rup") then Some names.Propagate else (
    None)))))))))))

abbrev pub name : List ℕ → Option Name
name text =
    if bytes_eq text (codes "certificate") then Some names.Certificate else (
    if bytes_eq text (codes "-") then Some names.Minus else (
    if bytes_eq text (codes "/") then Some names.Slash else (
    step_name text)))

abbrev pub by_literal : Option Literal → Mark
by_literal (Some l) = marks.Literal l
by_literal None = marks.Other

abbrev pub by_name : Option Name → Option Literal → Mark
by_name (Some n) l = marks.Name n
by_name None l = by_literal l

abbrev pub symbol : List ℕ → Mark
symbol text = by_name (name text) (literal text)

abbrev pub by_number : Option ℕ → Mark
by_number (Some n) = marks.Number n
by_number None = marks.Wide

abbrev pub atom : Kind → List ℕ → Mark
atom Numeral text = by_number (numeral text)
atom Symbol text = symbol text
atom _ text = marks.Other

abbrev pub mark : Token → Mark
mark Open = marks.Open
mark Close = marks.Close
mark (Atom k text) = atom k text

abbrev pub IsSmall : Mark → Type 0
IsSmall (marks.Number n) = n < 2 ^ 127
IsSmall _ = Unit {0}
