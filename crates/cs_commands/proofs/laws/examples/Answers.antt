use Rattle.std.proofs.Common.{refl, codes}
use Rattle.vx_sexp.specs.Characters.{is_digit, is_symbol_byte}
use Rattle.cs_commands.proofs.Spellings.{symbol_text, keyword_text}
use Rattle.cs_commands.proofs.laws.examples.Goals as goal

pub returns : goal.returns
unfolding is_digit is_symbol_byte
returns c = record {
  push = refl;
  conjunction = refl;
  equation = rw (symbol_text (codes "a") refl) refl;
  no_bool = refl;
  unknown_name = rw (symbol_text (codes "zz") refl) refl;
  unknown_operator = rw (symbol_text (codes "xor") refl) refl;
  wide = refl;
  name_before_sort = rw (symbol_text (codes "zz") refl) refl;
  sort_before_name = refl;
  taken_sort = rw (symbol_text (codes "Int") refl) refl;
  levels = refl;
  option = rw (keyword_text (codes ":seed") refl) refl;
  option_of_list = rw (keyword_text (codes ":note") refl) refl;
  no_value = rw (keyword_text (codes ":note") refl) refl;
  nothing_asserted = refl;
  two_asserted = refl;
  check_of_one = refl;
  no_count = refl;
  count_by_name = refl;
  no_arity = rw (symbol_text (codes "S") refl) refl;
  no_list_of_sorts = rw (symbol_text (codes "f") refl) refl;
  sort_of_arity = rw (symbol_text (codes "S") refl) refl;
  other_command = refl;
  no_word = refl;
}
