-- From what reading the members gives to what is answered.
use Rattle.std.proofs.Common.{◌≡◌, ℕ, List, Option, Some, None, Result, Ok, Err, map, refl, subst}
use Rattle.std.specs.Global.{Vec}
use Rattle.vx_ast.specs.declared.Member as the_member
use Rattle.vx_ast.specs.declared.Program as the_program
use Rattle.vx_ast.specs.Written.{Program, written_member}
use Rattle.vx_tokens.specs.Tokens.{Token}
use Rattle.vx_tokens.specs.Text.{Ending, AtEnd, OpenComment, WideLiteral, BadCharacter}
use Rattle.vx_grammar.specs.Grammar.{tokens_of}
use Rattle.vx_grammar.specs.Reading as reading
use Rattle.vx_grammar.specs.MemberReading as members
use Rattle.vx_grammar.specs.ProgramLaws.{ProgramSays}
use Rattle.vx_parser.specs.declared.fault.TextFault as the_fault
use Rattle.vx_parser.specs.declared.fault.TextFault.TheVariants as faults
use Rattle.vx_parser.specs.Answers.{Fault, answer, answer_by, fault_of, rest_of, early, IsEnd, IsAnswer, Shows, HaltsAt, EndsWith, FaultsAs}

-- what is answered of tokens and an ending that are these
pub answered_along : (bytes : List ℕ) (r : Result the_program.Program the_fault.TextFault) (us ts : List Token) (f e : Ending) → us ≡ ts → f ≡ e → IsAnswer bytes r (answer us f) → IsAnswer bytes r (answer ts e)
answered_along bytes r us ts f e t g h = subst (λ l. IsAnswer bytes r (answer l e)) t (subst (λ x. IsAnswer bytes r (answer us x)) g h)

pub program_answered : (bytes : List ℕ) (ms : Vec the_member.Member) (ts : List Token) (e : Ending) → members.members_at ts ≡ Ok (map written_member ms.items) → IsEnd e → IsAnswer bytes (Ok (record { members = ms })) (answer ts e)
unfolding answer
program_answered bytes ms ts (AtEnd p) h end = rw h refl
program_answered bytes ms ts (OpenComment p) h end = absurd end
program_answered bytes ms ts (WideLiteral p) h end = absurd end
program_answered bytes ms ts (BadCharacter p) h end = absurd end

shown : (bytes : List ℕ) (f : the_fault.TextFault) (g : Fault) → Shows bytes f g → IsAnswer bytes (Err f) (Err g)
shown bytes faults.Want g h = tt
shown bytes (faults.BadCharacter p) g h = h
shown bytes (faults.Unexpected p s) g h = h
shown bytes (faults.EndOfText p) g h = h
shown bytes (faults.WideLiteral p) g h = h
shown bytes (faults.TooDeep p) g h = h
shown bytes (faults.TooManyMembers p) g h = h
shown bytes (faults.Unsupported p s) g h = h
shown bytes (faults.NotUtf8 p) g h = absurd h
shown bytes faults.TooLong g h = absurd h

pub ending_answered : (bytes : List ℕ) (f : the_fault.TextFault) (ms : Program) (ts : List Token) (e : Ending) → members.members_at ts ≡ Ok ms → (IsEnd e → ⊥) → Shows bytes f (early e) → IsAnswer bytes (Err f) (answer ts e)
unfolding answer
ending_answered bytes f ms ts (AtEnd p) h not s = absurd (not tt)
ending_answered bytes f ms ts (OpenComment p) h not s = rw h (shown bytes f _ s)
ending_answered bytes f ms ts (WideLiteral p) h not s = rw h (shown bytes f _ s)
ending_answered bytes f ms ts (BadCharacter p) h not s = rw h (shown bytes f _ s)

want_answered : (bytes : List ℕ) (f : the_fault.TextFault) (r : Result Program Fault) → f ≡ faults.Want → IsAnswer bytes (Err f) r
want_answered bytes f (Ok p) e = rw e tt
want_answered bytes f (Err g) e = rw e tt

-- the tokens where reading halts are the last ones
last_ones : (ts : List Token) (h : members.Halt) → ProgramSays ts (Err h) → EndsWith ts (rest_of h)
last_ones ts (members.inside (reading.Unexpected rest)) says = (tokens_of says.0, says.1.tokens)
last_ones ts (members.inside (reading.Measured rest)) says = (tokens_of says.0, says.1.tokens)
last_ones ts (members.inside (reading.TooDeep rest)) says = (tokens_of says.front, says.fits.tokens)
last_ones ts (members.no_body rest) says = (tokens_of says.0.0, says.0.1.tokens)
last_ones ts (members.second_measure rest) says = (tokens_of says.0.0, says.0.1.tokens)
last_ones ts (members.no_member rest) says = (tokens_of says.0, says.1.tokens)
last_ones ts (members.too_many rest) says = (says.front, says.is)

pub fault_answered : (bytes : List ℕ) (f : the_fault.TextFault) (halt : Option members.Halt) (ts : List Token) (e : Ending) → ProgramSays ts (members.members_at ts) → HaltsAt halt (members.members_at ts) → FaultsAs bytes ts f halt e → IsAnswer bytes (Err f) (answer ts e)
unfolding answer
fault_answered bytes f None ts e says h s = want_answered bytes f (answer_by (members.members_at ts) e) s
fault_answered bytes f (Some halt) ts e says h s = rw h (shown bytes f (fault_of halt e) (s (last_ones ts halt (subst (ProgramSays ts) h says))))
