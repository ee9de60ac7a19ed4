-- How a question's path goes on from what stands at a child.
use Rattle.std.proofs.Common.{◌≡◌, ℕ, ◌-◌, ◌≤◌, ◌++◌, List, length, map, drop, refl, ap, ◌∙◌, sym, subst, arith}
use Rattle.std.proofs.lemmas.List.{length-append, length-map, map-append}
use Rattle.std.proofs.Math.Seq.{drop-append_seam}
use Rattle.vx_terms.specs.Terms.{Term}
use Rattle.vx_segments.specs.Segments.{Entry, terms}
use Rattle.vx_segments.specs.Views.{entry}
use Rattle.vx_segments.specs.declared.Entry.{Entry as Entry'}
use Rattle.vx_heap.specs.Views.{held_term}
use Rattle.vx_rules.specs.States.{path_terms}
use Rattle.vx_states.specs.Paths.{entries}
use Rattle.vx_states.proofs.Stores.{length_terms}
use Rattle.vx_grows.specs.Grows.{Begins}
use Rattle.vx_stack.specs.declared.question.Query.{Query}
use Rattle.vx_stack.specs.Stack.{query}
use Rattle.vx_machine.specs.declared.machine.Phase.{Phase}
use Rattle.vx_machine.specs.declared.machine.Ask.{Ask}
use Rattle.vx_machine.specs.declared.machine.Ask.TheVariants.{Check as Due}
use Rattle.vx_machine.specs.Growth.{AsksFrom, IsOpen, Stays}
use Rattle.vx_machine.proofs.Follow.{asks_on}
use Rattle.vx_verifier.proofs.Children.{entries_are}

count_is : (q : Query) → q.count ≡ length (query q).path
count_is q = q.counted ∙ sym (length_terms (entries q.path))

parts_long : (q : Query) (es : List Entry) (from : Begins (terms es) (query q).path) → length (query q).path ≡ length (terms es ++ from.rest)
parts_long q es from = ap length from.is

-- what stands isn't longer than the path that goes on from it
pub standing_within : (q : Query) (es : List Entry) → Begins (terms es) (query q).path → length es ≤ q.count
standing_within q es from =
    let all = count_is q ∙ (parts_long q es from ∙ length-append (terms es) from.rest) in
    let own = length-map es (λ e. e.term) in
    omega (arith, all, own)

-- what stands and the newest entries behind it are the path
pub path_goes_on : (q : Query) (es : List Entry) (new : List Entry') (n : ℕ) → Begins (terms es) (query q).path → n ≡ q.count - length es
    → map (λ (e : Entry'). held_term e.term) new ≡ drop (length (entries q.path) - n) (path_terms (entries q.path)) → terms (es ++ map entry new) ≡ (query q).path
path_goes_on q es new n from count is =
    let own = length-map es (λ e. e.term) in
    let counted = q.counted in
    let within = standing_within q es from in
    let here : length (entries q.path) - n ≡ length (terms es) = omega (arith, own, counted, within, count) in
    let rest : terms (map entry new) ≡ from.rest =
    entries_are new new _ refl is
    ∙ (ap (λ k. drop k (path_terms (entries q.path))) here ∙ (ap (drop (length (terms es))) from.is ∙ drop-append_seam (terms es) from.rest)) in
    map-append (λ e. e.term) es (map entry new) ∙ (ap (λ x. terms es ++ x) rest ∙ sym from.is)

-- the next question goes on from what stands, where the machine says so
pub stays_on : (phase : Phase) (ask : Ask) (asked next : Query) (path : List Term) → IsOpen phase (Due asked) → Stays phase ask → ask ≡ Due next → path ≡ (query asked).path → Begins path (query next).path
stays_on phase ask asked next path opened stays is here =
    subst (λ x. Begins x (query next).path) (sym here) (subst (AsksFrom (query asked).path) is (asks_on phase asked ask opened stays))
