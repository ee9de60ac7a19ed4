use Rattle.std.proofs.Common.{◌≡◌, ◌∙◌, ◌++◌, ◌∷◌, [], ap, append_assoc, length, refl, sym, true, Some, None, arith}
use Rattle.std.specs.Prelude.{if◌then◌else◌, option_map, slice_get}
use Rattle.std.proofs.lemmas.Option.{slice_get-map, slice_get_past, slice_get_read}
use Rattle.std.proofs.lemmas.List.{map-append}
use Rattle.std.proofs.lemmas.Grind.{elements}
use Rattle.vx_rules.specs.Chunks.{Candidate}
use Rattle.vx_heap.specs.Picked.{passes, picked, picked_onto}
use Rattle.vx_heap.specs.Views.{candidate, candidates_of, chunk, heap, key, shared}
use Rattle.vx_heap.proofs.heap.SymHeap.add_at.Goals as goal

pub returns-in_ok-push-in-Some : goal.returns-in_ok-push-in-Some
returns-in_ok-push-in-Some c = λ rest.
    let b = c.args.identical in
    let k = key c.args.resource.now c.args.arguments.now in
    let h = heap c.args.self.now in
    let n = c.args.number in
    let found = candidates_of c.args.found.now.items in
    let behind = picked b k h rest in
    let one : Candidate = record { number = n; chunk = shared c.in-Some.chunk.now } in
    let items = c.args.self.now.chunks.items in
    let seen = c.deref.result.now in
    let item : slice_get items n ≡ Some c.in-Some.chunk.now =
    ap (λ l. slice_get l n) (sym c.deref.ensures.value) ∙ slice_get_read seen (length seen) n c.in-Some.chunk.now refl c.in-Some.ensures.lookup.3.0 c.in-Some.ensures.lookup.1 in
    let there : slice_get h n ≡ Some (shared c.in-Some.chunk.now) = slice_get-map shared items n ∙ ap (option_map shared) item in
    let chosen : passes b k (shared c.in-Some.chunk.now) ≡ true =
    ap (λ y. passes b k (chunk y)) (sym c.deref-in-Some.ensures) ∙ sym c.is_chosen.ensures ∙ c.if-not-is_chosen.false in
    let more : candidates_of c.push.new.self.items ≡ found ++ one ∷ [] =
    ap candidates_of c.in_ok-push-in-Some.ensures.items
    ∙ map-append candidate c.args.found.now.items (record { number = n; chunk = c.in_ok-chunk-in-Some.chunk } ∷ [])
    ∙ ap (λ y. found ++ record { number = n; chunk = chunk y } ∷ []) c.in_ok-chunk-in-Some.ensures.cases in
    ap (λ l. l ++ behind) more
    ∙ append_assoc found (one ∷ []) behind
    ∙ ap (λ t. found ++ (if t then one ∷ behind else behind)) (sym chosen)
    ∙ ap (λ o. found ++ picked_onto b k o n behind) (sym there)

pub returns-in-None : goal.returns-in-None
returns-in-None c = λ rest.
    let b = c.args.identical in
    let k = key c.args.resource.now c.args.arguments.now in
    let h = heap c.args.self.now in
    let items = c.args.self.now.chunks.items in
    let no_item : slice_get items c.args.number ≡ None =
    ap (λ l. slice_get l c.args.number) (sym c.deref.ensures.value) ∙ slice_get_past c.deref.result.now c.args.number c.in-None.ensures.lookup.3 in
    let none : slice_get h c.args.number ≡ None = slice_get-map shared items c.args.number ∙ ap (option_map shared) no_item in
    ap (λ o. candidates_of c.args.found.now.items ++ picked_onto b k o c.args.number (picked b k h rest)) (sym none)

pub returns-then-not-is_chosen : goal.returns-then-not-is_chosen
returns-then-not-is_chosen c = grind (arith, elements)
