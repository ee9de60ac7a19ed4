-- What the program answers, without where it lies in memory.
use Rattle.vx_tokens.specs.Tokens.{kind_of, tokens_in}
use Rattle.vx_tokens.specs.Scanning as scanning
use Rattle.vx_tokens.specs.Text as text
use Rattle.vx_tokens.specs.declared.next.Next as the_next
use Rattle.vx_tokens.specs.declared.next.Next.TheVariants as nexts
use Rattle.vx_tokens.specs.declared.lexed.Ending as the_ending
use Rattle.vx_tokens.specs.declared.lexed.Ending.TheVariants as endings
use Rattle.vx_tokens.specs.declared.lexed.Lexed as the_lexed

abbrev pub next_of : the_next.Next → scanning.Next
next_of nexts.Finish = scanning.finish
next_of (nexts.Pass n) = scanning.pass n
next_of (nexts.Found k n) = scanning.found (kind_of k) n
next_of (nexts.Wide n) = scanning.wide n
next_of nexts.Unclosed = scanning.unclosed
next_of nexts.Bad = scanning.bad

abbrev pub ending_of : the_ending.Ending → text.Ending
ending_of (endings.AtEnd p) = text.AtEnd p
ending_of (endings.WideLiteral p) = text.WideLiteral p
ending_of (endings.BadCharacter p) = text.BadCharacter p
ending_of (endings.OpenComment p) = text.OpenComment p

abbrev pub lexed_of : the_lexed.Lexed → scanning.Scanned
lexed_of l = record { tokens = tokens_in l.tokens.items; ending = ending_of l.ending }
