use Rattle.std.proofs.Common.{◌≡◌, ◌∙◌, ap, sym, drop, true, false}
use Rattle.vx_sexp.specs.declared.scan.Mode.TheVariants.{Word}
use Rattle.vx_sexp.specs.Scanning.{kind_of}
use Rattle.vx_sexp.specs.Pieces.{lives}
use Rattle.vx_sexp.proofs.Pieces.{paused_reached, word_unfinished, word_dead, known_is, rest_whole}
use Rattle.vx_sexp.proofs.reading.Reading.word_paused.Goals as goal

pub returns-then-is_live-clause-step : goal.returns-then-is_live-clause-step
returns-then-is_live-clause-step c =
    let r = c.args.self in
    let bytes = c.args.bytes.now in
    let k = c.kind_on-kind.result in
    let whole = rest_whole bytes r.start in
    let is : k ≡ kind_of (drop r.start bytes) = c.kind_on-kind.ensures ∙ ap kind_of whole in
    let live : lives k (drop r.start bytes) ≡ true = ap (lives k) (sym whole) ∙ sym c.is_live.ensures ∙ c.if-is_live.true in (
      paused_reached r bytes Word k c.requires.reached c.requires.runs (known_is k (drop r.start bytes) is),
      word_unfinished r bytes Word k c.requires.reached c.requires.runs c.requires.word is live,
    )

pub returns-else-is_live-clause-step : goal.returns-else-is_live-clause-step
returns-else-is_live-clause-step c =
    let r = c.args.self in
    let bytes = c.args.bytes.now in
    let k = c.kind_on-kind.result in
    let whole = rest_whole bytes r.start in
    let is : k ≡ kind_of (drop r.start bytes) = c.kind_on-kind.ensures ∙ ap kind_of whole in
    let dead : lives k (drop r.start bytes) ≡ false = ap (lives k) (sym whole) ∙ sym c.is_live.ensures ∙ c.if-is_live.false in
    word_dead r bytes Word k c.requires.reached c.requires.runs c.requires.word is dead
