-- A program is answered exactly where the text spells it.
use Rattle.std.proofs.Common.{◌≡◌, ℕ, ◌≤◌, List, Result, Ok, Err, length, refl, ◌∙◌}
use Rattle.std.specs.Str.{IsUtf8}
use Rattle.vx_ast.specs.declared.Place.{Place}
use Rattle.vx_ast.specs.declared.Program as the_program
use Rattle.vx_ast.specs.Written.{Program}
use Rattle.vx_tokens.specs.Tokens.{Token}
use Rattle.vx_tokens.specs.Text.{Scans, first_place, unmarked, Ending, AtEnd}
use Rattle.vx_grammar.specs.MemberReading.{members_at}
use Rattle.vx_grammar.specs.ProgramLaws.{SpelledProgramsAreRead}
use Rattle.vx_parser.specs.declared.fault.TextFault as the_fault
use Rattle.vx_parser.specs.declared.fault.TextFault.TheVariants as faults
use Rattle.vx_parser.specs.Answers.{Fault, answer, IsAnswer}
use Rattle.vx_parser.specs.Spelling.{Spells, IsProgram}

answered : (ts : List Token) (at : Place) (p : Program) → members_at ts ≡ Ok p → answer ts (AtEnd at) ≡ Ok p
unfolding answer
answered ts at p e = rw e refl

program_of : (bytes : List ℕ) (r : Result the_program.Program the_fault.TextFault) (p : Program) (a : Result Program Fault) → a ≡ Ok p → IsAnswer bytes r a → IsProgram r p
program_of bytes (Ok q) p (Ok x) e h = let same : x ≡ p = cc in h ∙ same
program_of bytes (Ok q) p (Err f) e h = absurd h
program_of bytes (Err faults.Want) p a e h = refl
program_of bytes (Err (faults.NotUtf8 q)) p (Ok x) e h = absurd h
program_of bytes (Err (faults.BadCharacter q)) p (Ok x) e h = absurd h
program_of bytes (Err (faults.Unexpected q s)) p (Ok x) e h = absurd h
program_of bytes (Err (faults.EndOfText q)) p (Ok x) e h = absurd h
program_of bytes (Err (faults.WideLiteral q)) p (Ok x) e h = absurd h
program_of bytes (Err (faults.TooDeep q)) p (Ok x) e h = absurd h
program_of bytes (Err faults.TooLong) p (Ok x) e h = absurd h
program_of bytes (Err (faults.TooManyMembers q)) p (Ok x) e h = absurd h
program_of bytes (Err (faults.Unsupported q s)) p (Ok x) e h = absurd h
program_of bytes (Err x) p (Err f) e h = absurd cc

-- what is spelled is answered, by what is answered of all tokens and endings
pub spelled_is_answered : (text : List ℕ) (r : Result the_program.Program the_fault.TextFault) → SpelledProgramsAreRead → (length text ≤ 4194304 → IsUtf8 text → (ts : List Token) (e : Ending) → Scans first_place (unmarked text) ts e → IsAnswer (unmarked text) r (answer ts e)) → (p : Program) → Spells text p → IsProgram r p
spelled_is_answered text r law reads p s = program_of (unmarked text) r p (answer s.tokens (AtEnd s.at)) (answered s.tokens s.at p (law s.tokens p s.within)) (reads s.short s.utf8 s.tokens (AtEnd s.at) s.scans)
