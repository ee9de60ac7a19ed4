use Rattle.std.proofs.Common.{◌≡◌, drop, map, string_bytes}
use Rattle.vx_smt_meaning.specs.WellFormed.{has_sort}
use Rattle.cs_commands.proofs.live.has_sort.Given as goal

abbrev pub invariant-loop-own : goal.invariant-loop-own
invariant-loop-own l = has_sort (map string_bytes (drop l.own-index l.sorts)) l.name ≡ has_sort (map string_bytes l.sorts) l.name
