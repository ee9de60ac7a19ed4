-- What is printed of a fault.
use Rattle.std.specs.Prelude.{ℕ, List, [], codes, Option, Some, None, string_bytes}
use Rattle.vx_ast.specs.declared.Place.{Place}
use Rattle.vx_tokens.specs.Text.{first_place}
use Rattle.vx_parser.specs.declared.fault.TextFault as the_fault
use Rattle.vx_parser.specs.declared.fault.TextFault.TheVariants as faults

abbrev pub place_of : the_fault.TextFault → Place
place_of (faults.NotUtf8 p) = p
place_of (faults.BadCharacter p) = p
place_of (faults.Unexpected p s) = p
place_of (faults.EndOfText p) = p
place_of (faults.WideLiteral p) = p
place_of (faults.TooDeep p) = p
place_of faults.TooLong = first_place
place_of (faults.TooManyMembers p) = p
place_of (faults.Unsupported p s) = p
place_of faults.Want = first_place

-- want of memory has no code
abbrev pub code_of : the_fault.TextFault → List ℕ
code_of (faults.NotUtf8 p) = codes "E01"
code_of (faults.BadCharacter p) = codes "E02"
code_of (faults.Unexpected p s) = codes "E03"
code_of (faults.EndOfText p) = codes "E04"
code_of (faults.WideLiteral p) = codes "E05"
code_of (faults.TooDeep p) = codes "E06"
code_of faults.TooLong = codes "E07"
code_of (faults.TooManyMembers p) = codes "E08"
code_of (faults.Unsupported p s) = codes "E09"
code_of faults.Want = []

abbrev pub name_of : the_fault.TextFault → List ℕ
name_of (faults.NotUtf8 p) = codes "NotUtf8"
name_of (faults.BadCharacter p) = codes "BadCharacter"
name_of (faults.Unexpected p s) = codes "Unexpected"
name_of (faults.EndOfText p) = codes "EndOfText"
name_of (faults.WideLiteral p) = codes "WideLiteral"
name_of (faults.TooDeep p) = codes "TooDeep"
name_of faults.TooLong = codes "TooLong"
name_of (faults.TooManyMembers p) = codes "TooManyMembers"
name_of (faults.Unsupported p s) = codes "Unsupported"
name_of faults.Want = codes "Want"

-- the text that is printed behind the name
abbrev pub argument_of : the_fault.TextFault → Option (List ℕ)
argument_of (faults.NotUtf8 p) = None
argument_of (faults.BadCharacter p) = None
argument_of (faults.Unexpected p s) = Some (string_bytes s)
argument_of (faults.EndOfText p) = None
argument_of (faults.WideLiteral p) = None
argument_of (faults.TooDeep p) = None
argument_of faults.TooLong = None
argument_of (faults.TooManyMembers p) = None
argument_of (faults.Unsupported p s) = Some (string_bytes s)
argument_of faults.Want = None
