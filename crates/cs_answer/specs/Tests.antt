-- What is tested of a stack before all its clauses are asked.
use Rattle.std.specs.Prelude.{nat_le, Bool, false, not, ◌&&◌, List, Option, Some, None}
use Rattle.std.specs.List.{list_all, list_any}
use Rattle.vx_terms.specs.Sorts.{Sort, BoolSort, same_sort}
use Rattle.vx_terms.specs.Terms.{Term}
use Rattle.cs_certificate.specs.Terms.{numbered}
use Rattle.cs_certificate.specs.Certificate.{Stack}
use Rattle.cs_sorts.specs.Sorting.{sort_in, is_live}
use Rattle.cs_writable.specs.Tests.{is_writable_term}
use Rattle.cs_answer.specs.Causes.{is_number}
use Rattle.cs_answer.specs.Few.{few_limit, bool_count}

-- without numbers, and few terms are Bool
abbrev pub are_few : List Term → Bool
are_few terms = not (list_any is_number terms) && nat_le (bool_count terms) few_limit

abbrev pub is_bool_sort : Option Sort → Bool
is_bool_sort (Some a) = same_sort a BoolSort
is_bool_sort None = false

-- a well-sorted Bool term
abbrev pub is_assertion : Term → Bool
is_assertion t = is_bool_sort (sort_in t)

abbrev pub are_formed : Stack → Bool
are_formed stack = list_all is_assertion stack.assertions && (list_all is_writable_term stack.assertions && list_all (is_live stack.symbols) stack.assertions)

abbrev pub is_few : Stack → Bool
is_few stack = are_few (numbered stack.assertions) && are_formed stack
