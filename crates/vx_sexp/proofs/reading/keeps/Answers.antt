use Rattle.std.proofs.Common.{◌∙◌, sym}
use Rattle.vx_sexp.proofs.Pieces.{keeps_numeral, keeps_decimal, keeps_hexadecimal, keeps_binary, keeps_symbol, keeps_keyword}
use Rattle.vx_sexp.proofs.reading.keeps.Goals as goal

pub returns-then-starts_high : goal.returns-then-starts_high
returns-then-starts_high c = λ all is. keeps_numeral c.args.kind c.args.so_far.now c.args.more.now c.in-Numeral.is (c.starts_high.ensures c.if-starts_high.true) (sym c.all_in.ensures ∙ all) is

pub returns-in-Decimal : goal.returns-in-Decimal
returns-in-Decimal c = λ all is. keeps_decimal c.args.kind c.args.so_far.now c.args.more.now c.in-Decimal.is (sym c.all_in-in-Decimal.ensures ∙ all) is

pub returns-in-Hexadecimal : goal.returns-in-Hexadecimal
returns-in-Hexadecimal c = λ all is. keeps_hexadecimal c.args.kind c.args.so_far.now c.args.more.now c.in-Hexadecimal.is (sym c.all_in-in-Hexadecimal.ensures ∙ all) is

pub returns-in-Binary : goal.returns-in-Binary
returns-in-Binary c = λ all is. keeps_binary c.args.kind c.args.so_far.now c.args.more.now c.in-Binary.is (sym c.all_in-in-Binary.ensures ∙ all) is

pub returns-in-Symbol : goal.returns-in-Symbol
returns-in-Symbol c = λ all is. keeps_symbol c.args.kind c.args.so_far.now c.args.more.now c.in-Symbol.is (sym c.all_in-in-Symbol.ensures ∙ all) is

pub returns-in-Keyword : goal.returns-in-Keyword
returns-in-Keyword c = λ all is. keeps_keyword c.args.kind c.args.so_far.now c.args.more.now c.in-Keyword.is (sym c.all_in-in-Keyword.ensures ∙ all) is
