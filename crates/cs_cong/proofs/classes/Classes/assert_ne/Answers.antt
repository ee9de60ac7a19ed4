use Rattle.std.proofs.Common.{sym, subst, ◌≡◌, ◌<◌, ◌^◌, ◌+◌, ◌∷◌, [], ◌++◌, ◌∙◌, ap, length, rules, refl, false, arith, Ok, Err, OnOk, OnErr}
use Rattle.std.specs.declared.result.Result.{Result}
use Rattle.std.proofs.lemmas.List.{length-append}
use Rattle.std.proofs.lemmas.List.Elements.{All-push}
use Rattle.std.specs.List.{All}
use Rattle.cs_cong.specs.declared.congruent.Claim.{Claim}
use Rattle.cs_cong.specs.Stages.{IsHistory}
use Rattle.cs_cong.proofs.Stages.{history_denied, history_again}
use Rattle.cs_cong.proofs.classes.Classes.assert_ne.Goals as goal

by_result : {A E : Type 0} (r : Result A E) (P P' Q Q' R : Type 0) → OnOk r P → OnOk r P' → OnErr r Q → OnErr r Q' → (P → P' → R) → (Q → Q' → R) → R
by_result (Ok x) P P' Q Q' R p p' q q' f g = f p p'
by_result (Err e) P P' Q Q' R p p' q q' f g = g q q'

pub invariant_of-self-clause-history : goal.invariant_of-self-clause-history
invariant_of-self-clause-history c =
    let s = c.args.self.now in
    let log = s.merges.log.items in
    let mark : c.len-mark.result ≡ length log = search (rules, c.len-mark.ensures) in
    let claim : Claim = record { left = c.args.a; right = c.args.b; equal = false } in
    by_result c.note.result
    (c.note.new.claims.items ≡ s.claims.items ++ record { left = c.args.a; right = c.args.b; equal = false } ∷ []) (c.note.new.marks.items ≡ s.marks.items ++ c.len-mark.result ∷ [])
    (c.note.new.claims.items ≡ s.claims.items) (c.note.new.marks.items ≡ s.marks.items)
    (IsHistory s.terms.items c.note.new.claims.items c.note.new.marks.items log)
    c.note.ensures.claims c.note.ensures.marks c.note.ensures.same_claims c.note.ensures.same_marks
    (λ e f. history_again s.terms.items (s.claims.items ++ record { left = c.args.a; right = c.args.b; equal = false } ∷ []) c.note.new.claims.items (s.marks.items ++ length log ∷ []) c.note.new.marks.items log log
    e (f ∙ ap (λ m. s.marks.items ++ m ∷ []) mark) refl
    (history_denied s.terms.items s.claims.items s.marks.items c.args.a c.args.b log s.history))
    (λ e f. history_again s.terms.items s.claims.items c.note.new.claims.items s.marks.items c.note.new.marks.items log log e f refl s.history)

pub invariant_of-self-clause-few : goal.invariant_of-self-clause-few
invariant_of-self-clause-few c =
    let s = c.args.self.now in
    let long : c.len.result ≡ length s.claims.items = search (rules, c.len.ensures) in
    let few = c.if-len.false in
    by_result c.note.result
    (c.note.new.claims.items ≡ s.claims.items ++ record { left = c.args.a; right = c.args.b; equal = false } ∷ []) (c.note.new.marks.items ≡ s.marks.items ++ c.len-mark.result ∷ [])
    (c.note.new.claims.items ≡ s.claims.items) (c.note.new.marks.items ≡ s.marks.items)
    (length c.note.new.claims.items < 2 ^ 32)
    c.note.ensures.claims c.note.ensures.marks c.note.ensures.same_claims c.note.ensures.same_marks
    (λ e f. let g : length c.note.new.claims.items ≡ length s.claims.items + 1 = ap length e ∙ length-append s.claims.items _ in omega (arith, long, few, g))
    (λ e f. let g : length c.note.new.claims.items ≡ length s.claims.items = ap length e in omega (arith, long, few, g))

pub invariant_of-self-clause-named : goal.invariant_of-self-clause-named
invariant_of-self-clause-named c =
    let s = c.args.self.now in
    let n = length s.terms.items in
    by_result c.note.result
    (c.note.new.claims.items ≡ s.claims.items ++ record { left = c.args.a; right = c.args.b; equal = false } ∷ []) (c.note.new.marks.items ≡ s.marks.items ++ c.len-mark.result ∷ [])
    (c.note.new.claims.items ≡ s.claims.items) (c.note.new.marks.items ≡ s.marks.items)
    (All (λ (x : Claim). (x.left < length s.terms.items) × (x.right < length s.terms.items)) c.note.new.claims.items)
    c.note.ensures.claims c.note.ensures.marks c.note.ensures.same_claims c.note.ensures.same_marks
    (λ e f. subst (All (λ (x : Claim). (x.left < length s.terms.items) × (x.right < length s.terms.items))) (sym e) (All-push (λ (x : Claim). (x.left < length s.terms.items) × (x.right < length s.terms.items)) s.claims.items record { left = c.args.a; right = c.args.b; equal = false } s.named (c.requires.left, c.requires.right)))
    (λ e f. subst (All (λ (x : Claim). (x.left < length s.terms.items) × (x.right < length s.terms.items))) (sym e) s.named)
