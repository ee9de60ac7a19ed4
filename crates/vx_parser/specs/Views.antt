-- Clauses and declarations without where they lie in memory.
use Rattle.std.specs.Prelude.{List, map}
use Rattle.vx_ast.specs.declared.Declaration as the_declaration
use Rattle.vx_ast.specs.Written.{Declaration, name_of, written_declaration, written_clause}
use Rattle.vx_grammar.specs.MemberReading as reading
use Rattle.vx_parser.specs.declared.member.Clauses as the_clauses
use Rattle.vx_parser.specs.declared.member.Head as the_head

abbrev pub declarations_of : List the_declaration.Declaration → List Declaration
declarations_of ds = map written_declaration ds

abbrev pub clauses_of : the_clauses.Clauses → reading.Clauses
clauses_of c = record { clauses = map written_clause c.clauses.items; requires = c.preconditions; ensures = c.postconditions; measured = c.is_measured }

abbrev pub head_of : the_head.Head → reading.Head
head_of h = record { name = name_of h.name; parameters = declarations_of h.parameters.items; of = h.value_type; clauses = clauses_of h.clauses }
