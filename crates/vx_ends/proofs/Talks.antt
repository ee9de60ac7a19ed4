-- A text that is put piece by piece, as the dialogue of both ends has it.
use Rattle.std.proofs.Common.{Option, Some, None, IfSome, ◌≡◌, ℕ, ◌+◌, ◌-◌, ◌≤◌, List, [], ◌∷◌, ◌++◌, length, take, drop, refl, append_assoc, append-nil, ◌∙◌, ap, sym, subst, arith}
use Rattle.std.proofs.lemmas.List.{take_all}
use Rattle.vx_ends.specs.declared.piece.Piece.{Piece}
use Rattle.vx_ends.specs.declared.piece.Piece.TheVariants.{Sent}
use Rattle.vx_ends.specs.Dialogue.{sent}
use Rattle.vx_ends.specs.Talks.{talk_on, Talks, Says}
use Rattle.vx_ends.proofs.Dialogues.{sent-append, sent_by_sent, sent_join, none_more, taken_on}

-- nothing is put yet
pub talks_none : (talk : Option (List Piece)) → IfSome talk (λ pieces. Talks [] pieces talk)
talks_none None = tt
talks_none (Some pieces) = ([], ap Some (sym (none_more pieces)), tt, refl)

-- some of `&text[done..]` is put
pub talks_on : (text : List ℕ) (before now after : Option (List Piece)) (done count : ℕ)
    → IfSome before (λ pieces. Talks (take done text) pieces now)
    → after ≡ talk_on now (Sent (take count (take (length text - done) (drop done text))))
    → IfSome before (λ pieces. Talks (take (done + count) text) pieces after)
talks_on text None now after done count so_far more = tt
talks_on text (Some pieces) now after done count so_far more =
    let bytes = take count (take (length text - done) (drop done text)) in
    let told : after ≡ Some ((pieces ++ so_far.0) ++ Sent bytes ∷ []) = more ∙ ap (λ t. talk_on t (Sent bytes)) so_far.1 in
    let said : sent (so_far.0 ++ Sent bytes ∷ []) ≡ sent so_far.0 ++ bytes = sent-append so_far.0 (Sent bytes ∷ []) ∙ ap (λ b. sent so_far.0 ++ b) (append-nil bytes) in (
      so_far.0 ++ Sent bytes ∷ [],
      told ∙ ap Some (append_assoc pieces so_far.0 (Sent bytes ∷ [])),
      sent_join so_far.0 (Sent bytes ∷ []) so_far.2 tt,
      taken_on text [] (sent so_far.0) (sent (so_far.0 ++ Sent bytes ∷ [])) done count so_far.3 said,
    )

-- all of it is put
pub says_whole : (text : List ℕ) (taken_old taken_new : Option (List ℕ)) (old new : Option (List Piece)) (done : ℕ) → length text ≤ done
    → IfSome taken_old (λ bytes. taken_new ≡ Some (bytes ++ take done text)) → IfSome old (λ pieces. Talks (take done text) pieces new)
    → Says text taken_old taken_new old new
says_whole text taken_old taken_new old new done all taken talks =
    subst (λ t. Says t taken_old taken_new old new) (take_all done text all) (record { taken = taken; talks = talks })

-- what a put that failed leaves as it was
stays : (before now after : Option (List ℕ)) (bytes : List ℕ) → IfSome before (λ b. now ≡ Some (b ++ bytes)) → IfSome now (λ b. after ≡ Some (b ++ []))
    → IfSome before (λ b. after ≡ Some (b ++ bytes))
stays None now after bytes so_far more = tt
stays (Some b) now after bytes so_far more = let last = rw so_far at more in last ∙ ap Some (append-nil (b ++ bytes))

-- a put failed behind so much of it
pub says_short : (text : List ℕ) (taken_old taken_mid taken_new : Option (List ℕ)) (old mid new : Option (List Piece)) (done : ℕ)
    → IfSome taken_old (λ bytes. taken_mid ≡ Some (bytes ++ take done text)) → IfSome taken_mid (λ bytes. taken_new ≡ Some (bytes ++ []))
    → IfSome old (λ pieces. Talks (take done text) pieces mid) → new ≡ mid
    → (n : ℕ) × Says (take n text) taken_old taken_new old new
says_short text taken_old taken_mid taken_new old mid new done taken none talks same = (
  done,
  record {
    taken = stays taken_old taken_mid taken_new (take done text) taken none;
    talks = subst (λ t. IfSome old (λ pieces. Talks (take done text) pieces t)) (sym same) talks;
  },
)

-- a piece is put whole
pub sent_whole : (old new : List Piece) (bytes : List ℕ) (count : ℕ) → new ≡ old ++ Sent bytes ∷ [] → count ≡ length bytes → sent new ≡ sent old ++ take count bytes
sent_whole old new bytes count is all = sent_by_sent old new bytes is ∙ ap (λ b. sent old ++ b) (sym (rw all (take_all (length bytes) bytes (omega arith))))

pub talk_whole : (old new : List Piece) (bytes : List ℕ) (count : ℕ) → new ≡ old ++ Sent bytes ∷ [] → count ≡ length bytes
    → Some new ≡ talk_on (Some old) (Sent (take count bytes))
talk_whole old new bytes count is all = ap Some (is ∙ ap (λ b. old ++ Sent b ∷ []) (sym (rw all (take_all (length bytes) bytes (omega arith)))))
