use Rattle.cs_cong.proofs.Longer.{taken_back}
use Rattle.std.proofs.Common.{◌<◌, ◌≡◌, ◌∷◌, [], ◌++◌, ◌∙◌, List, ap, length, rules, refl, sym, true, subst, take, None, Some}
use Rattle.cs_cong.specs.declared.congruent.Applied.{Applied}
use Rattle.cs_cong.specs.declared.congruent.Claim.{Claim}
use Rattle.std.proofs.lemmas.List.Elements.{All-push}
use Rattle.std.specs.List.{All}
use Rattle.cs_cong.specs.Stages.{IsStage}
use Rattle.cs_cong.specs.Merged.{current}
use Rattle.cs_cong.specs.Settled.{IsSettled}
use Rattle.cs_cong.proofs.Settles.{known_some}
use Rattle.cs_cong.proofs.Stages.{history_more, history_again, stage_now}
use Rattle.cs_cong.proofs.classes.Classes.assert_eq.Goals as goal

pub invariant_of-self-in-Ok-clause-history : goal.invariant_of-self-in-Ok-clause-history
invariant_of-self-in-Ok-clause-history c =
    let s = c.args.self.now in
    let log = s.merges.log.items in
    let new = c.follow-done.new.merges.log.items in
    let claim : Claim = record { left = c.args.a; right = c.args.b; equal = true } in
    let mark : c.len-mark.result ≡ length log = search (rules, c.len-mark.ensures) in
    let number : c.len-number.result ≡ length s.claims.items = search (rules, c.len-number.ensures) in
    let now = stage_now s.terms.items s.claims.items s.marks.items log s.history in
    let stage = c.in-Ok.ensures.stage s.claims.items number refl (subst (λ (ts : List Applied). IsStage ts s.claims.items log) (sym c.deref.ensures.value) now) in
    history_again s.terms.items (s.claims.items ++ record { left = c.args.a; right = c.args.b; equal = true } ∷ []) c.note.new.claims.items (s.marks.items ++ length log ∷ []) c.note.new.marks.items new new
    c.in_ok-note.ensures.claims (c.in_ok-note.ensures.marks ∙ ap (λ m. s.marks.items ++ m ∷ []) mark) refl
    (history_more s.terms.items s.claims.items s.marks.items record { left = c.args.a; right = c.args.b; equal = true } log new s.history c.in-Ok.ensures.longer.front c.in-Ok.ensures.longer.longer
    (subst (λ (ts : List Applied). IsStage ts (s.claims.items ++ record { left = c.args.a; right = c.args.b; equal = true } ∷ []) new) c.deref.ensures.value stage))

pub invariant_of-self-in-Ok-clause-named : goal.invariant_of-self-in-Ok-clause-named
invariant_of-self-in-Ok-clause-named c =
    let s = c.args.self.now in
    subst (All (λ (x : Claim). (x.left < length s.terms.items) × (x.right < length s.terms.items))) (sym c.in_ok-note.ensures.claims) (All-push (λ (x : Claim). (x.left < length s.terms.items) × (x.right < length s.terms.items)) s.claims.items record { left = c.args.a; right = c.args.b; equal = true } s.named (c.requires.left, c.requires.right))

pub invariant_of-self-in-Ok-clause-settled : goal.invariant_of-self-in-Ok-clause-settled
invariant_of-self-in-Ok-clause-settled c w e =
    known_some c.args.self.now.terms.items (current c.follow-done.new.merges.log.items) c.in-Ok.waiting w e
    (subst (λ (ts : List Applied). IsSettled ts (current c.follow-done.new.merges.log.items) c.in-Ok.waiting) c.deref.ensures.value c.in-Ok.ensures.settled)

pub invariant_of-self-in-Err : goal.invariant_of-self-in-Err
invariant_of-self-in-Err c =
    let s = c.args.self.now in
    let log = s.merges.log.items in
    let claim : Claim = record { left = c.args.a; right = c.args.b; equal = true } in
    let mark : c.len-mark.result ≡ length log = search (rules, c.len-mark.ensures) in
    let number : c.len-number.result ≡ length s.claims.items = search (rules, c.len-number.ensures) in
    let claims = taken_back s.claims.items c.note.new.claims.items c.truncate.new.self.items claim c.len-number.result c.truncate.ensures.items c.in_ok-note.ensures.claims number in
    let marks = taken_back s.marks.items c.note.new.marks.items c.truncate-in-Err.new.self.items c.len-mark.result c.len-number.result c.truncate-in-Err.ensures.items c.in_ok-note.ensures.marks (number ∙ sym s.history.marked) in
    record {
      same_terms = s.same_terms ∙ sym (c.back_to.ensures.terms ∙ c.in-Err.ensures.same_terms);
      parts = s.parts;
      few_terms = s.few_terms;
      few = subst (λ (l : List Claim). length l < 4294967296) (sym claims) s.few;
      named = subst (All (λ (x : Claim). (x.left < length s.terms.items) × (x.right < length s.terms.items))) (sym claims) s.named;
      history = history_again s.terms.items s.claims.items c.truncate.new.self.items s.marks.items c.truncate-in-Err.new.self.items log c.back_to.new.self.log.items claims marks (c.back_to.ensures.log ∙ ap (λ n. take n c.follow-done.new.merges.log.items) mark ∙ c.in-Err.ensures.longer.front) s.history;
      settled = λ w e. absurd (let none : None ≡ Some w = sym c.take-waiting.ensures.after ∙ e in cc);
    }

pub returns-in-Err-clause-kept : goal.returns-in-Err-clause-kept
returns-in-Err-clause-kept c =
    let s = c.args.self.now in
    let number : c.len-number.result ≡ length s.claims.items = search (rules, c.len-number.ensures) in
    taken_back s.claims.items c.note.new.claims.items c.truncate.new.self.items record { left = c.args.a; right = c.args.b; equal = true } c.len-number.result c.truncate.ensures.items c.in_ok-note.ensures.claims number
