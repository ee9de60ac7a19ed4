-- Where a path goes on behind the last one, all of the last one stays.
use Rattle.std.proofs.Common.{◌≡◌, ℕ, suc, ◌+◌, nat_eq, if◌then◌else◌, List, [], ◌∷◌, ◌++◌, drop, length, Option, Some, None, ◌∙◌, ap, ap₂, arith}
use Rattle.std.proofs.Math.Seq.{take-length, drop-length, drop-append_seam}
use Rattle.vx_smt_meaning.specs.Commands.{Pop}
use Rattle.vx_segments.specs.Segments.{Entry, terms}
use Rattle.vx_dialogue.specs.Symbols.{with_listed}
use Rattle.vx_dialogue.specs.Segments.{last_of, sent, depth, pops}
use Rattle.vx_dialogue.specs.Kept.{kept_from, kept}
use Rattle.vx_dialogue.specs.Scripts.{onto}
use Rattle.vx_dialogue.proofs.Itself.{entry_same}

whole_from : (last : ℕ) (start : Option ℕ) (place : ℕ) (old more : List Entry) → kept_from last start place old (old ++ more) ≡ Some (place + length old)
whole_from last start place [] more = ap Some (omega arith)
whole_from last start place (e ∷ old) more =
    let here : Option ℕ = if nat_eq e.segment last then start else Some place in
    ap (λ b. if b then kept_from e.segment here (suc place) old (old ++ more) else here) (entry_same e)
    ∙ whole_from e.segment here (suc place) old more ∙ ap Some (omega arith)

whole_kept : (old more : List Entry) → kept old (old ++ more) ≡ Some (length old)
whole_kept old more = whole_from 0 None 0 old more ∙ ap Some (omega arith)

-- one pop, and then what is new
pub further : (old more : List Entry) → onto old (old ++ more) (kept old (old ++ more)) ≡ Pop 1 ∷ sent (last_of 0 old) (with_listed [] (terms old)) more
further old more =
    ap (onto old (old ++ more)) (whole_kept old more)
    ∙ ap₂ (λ p q. pops (suc (depth (last_of 0 p) q)) ++ sent (last_of 0 p) (with_listed [] (terms p)) (drop (length old) (old ++ more))) (take-length old) (drop-length old)
    ∙ ap (λ xs. Pop 1 ∷ sent (last_of 0 old) (with_listed [] (terms old)) xs) (drop-append_seam old more)
