use Rattle.std.proofs.Common.{◌≡◌, ◌++◌, ◌-◌, [], length, map, drop, take, ap, ap₂, ◌∙◌, sym}
use Rattle.std.proofs.lemmas.List.{drop-map, map-append}
use Rattle.vx_smt_meaning.specs.Views.{command}
use Rattle.vx_segments.specs.Segments.{terms}
use Rattle.vx_segments.specs.Views.{entry}
use Rattle.vx_dialogue.specs.Symbols.{with_listed}
use Rattle.vx_dialogue.specs.Segments.{last_of, sent, depth}
use Rattle.vx_dialogue.specs.Standing.{entries_of, path_of}
use Rattle.vx_dialogue.proofs.Lists.{on_ok_map, whole_rest}
use Rattle.vx_dialogue.proofs.Counted.{front_of, back_of, on_said, on_along}
use Rattle.vx_dialogue.proofs.standing.Standing.go_on.Goals as goal

pub returns-clause-said : goal.returns-clause-said
returns-clause-said c =
    let k = c.args.count in
    let items = c.args.self.now.sent.items in
    let old = path_of c.args.self.now in
    let path = c.args.path.now in
    let last : c.last_segment-last.result ≡ last_of 0 (take k old) =
    c.last_segment-last.ensures ∙ ap (λ x. last_of 0 (entries_of (take k x))) c.deref.ensures.value ∙ ap (last_of 0) (front_of k items) in
    let rest : entries_of (take (length c.deref-2.result.now - k) (drop k c.deref-2.result.now)) ≡ drop k old =
    ap entries_of (whole_rest k c.deref-2.result.now) ∙ ap (λ x. entries_of (drop k x)) c.deref-2.ensures.value ∙ back_of k items in
    let behind : map entry (take (length path - k) (drop k path)) ≡ drop k (map entry path) = ap (map entry) (whole_rest k path) ∙ sym (drop-map entry k path) in
    on_ok_map c.say_all.result _ _ (λ said.
    on_said k c.depth.result old (map entry path) (map command c.args.commands.now.items) (map command c.push.new.self.items) (map command c.put_pops.new.commands.items) (map command c.say_all.new.commands.items)
    (ap (map command) c.in_ok-push.ensures.items ∙ map-append command c.args.commands.now.items _) c.in_ok-put_pops.ensures (c.depth.ensures ∙ ap₂ depth last rest)
    (said ∙ ap₂ (λ p r. map command c.put_pops.new.commands.items ++ sent (last_of 0 p) (with_listed [] (terms p)) r) c.back_to.ensures.path behind)) c.say_all.ensures.said

pub returns-clause-path : goal.returns-clause-path
returns-clause-path c =
    let k = c.args.count in
    let path = c.args.path.now in
    let behind : map entry (take (length path - k) (drop k path)) ≡ drop k (map entry path) = ap (map entry) (whole_rest k path) ∙ sym (drop-map entry k path) in
    on_ok_map c.say_all.result _ _ (λ along.
    along ∙ ap₂ (λ p r. p ++ r) c.back_to.ensures.path behind ∙ on_along k (path_of c.args.self.now) (map entry path) c.requires.stays) c.say_all.ensures.path
