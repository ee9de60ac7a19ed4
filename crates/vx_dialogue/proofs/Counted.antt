-- What stands on the levels of a member: the symbols of what was sent, and what is said for further entries.
use Rattle.std.proofs.Common.{◌≡◌, ℕ, zero, suc, ◌+◌, ◌-◌, ◌<◌, ◌≤◌, List, [], ◌∷◌, ◌++◌, drop, take, length, map, get_or, Some, sym, ◌∙◌, ap, ap₂, subst, append_assoc, length-append, arith}
use Rattle.std.specs.List.{slice_get}
use Rattle.std.proofs.Math.Seq.{take-append_seam}
use Rattle.std.proofs.lemmas.List.{take-map, drop-map, map-append, take-append-drop, length-map}
use Rattle.std.proofs.lemmas.Option.{same_Some}
use Rattle.vx_smt_meaning.specs.Commands.{Command, Declared, Assert, Pop}
use Rattle.vx_segments.specs.Segments.{Entry, terms}
use Rattle.vx_segments.specs.Views.{entry}
use Rattle.vx_segments.specs.declared.Entry.{Entry as Entry'}
use Rattle.vx_dialogue.specs.Symbols.{with_variables, with_listed}
use Rattle.vx_dialogue.specs.Preamble.{declarations}
use Rattle.vx_dialogue.specs.Segments.{last_of, missing, opening, sent, depth, pops}
use Rattle.vx_dialogue.specs.Kept.{kept}
use Rattle.vx_dialogue.specs.Scripts.{onto}
use Rattle.vx_dialogue.specs.declared.standing.Sent.{Sent}
use Rattle.vx_dialogue.specs.declared.standing.Standing.{Standing}
use Rattle.vx_dialogue.specs.Standing.{entries_of, path_of, AreCounted, IsSound}
use Rattle.vx_terms.specs.Terms.{Term}
use Rattle.vx_dialogue.proofs.Extends.{with_missing}
use Rattle.vx_dialogue.proofs.Entries.{added, listed}
use Rattle.vx_dialogue.proofs.Kept.{last_end, kept_is}
use Rattle.vx_dialogue.proofs.Spelled.{both_parts, listed_join}

-- ---- parts of what was sent

pub front_of : (i : ℕ) (sents : List Sent) → entries_of (take i sents) ≡ take i (entries_of sents)
front_of i sents = sym (take-map (λ s. entry s.entry) i sents)

pub back_of : (i : ℕ) (sents : List Sent) → entries_of (drop i sents) ≡ drop i (entries_of sents)
back_of i sents = sym (drop-map (λ s. entry s.entry) i sents)

counted_at : (ds : List Declared) (sents : List Sent) (i : ℕ) (s : Sent) → i < length sents → AreCounted ds sents
    → (get_or sents i s).before ≡ length (with_listed ds (terms (entries_of (take i sents))))
counted_at ds [] i s below c = absurd (omega arith)
counted_at ds (x ∷ sents) zero s below c = c.0
counted_at ds (x ∷ sents) (suc i) s below c = counted_at (with_variables ds (entry x.entry).term) sents i s (omega arith) c.1

counted_front : (ds : List Declared) (sents : List Sent) (i : ℕ) → AreCounted ds sents → AreCounted ds (take i sents)
counted_front ds sents zero c = tt
counted_front ds [] (suc i) c = tt
counted_front ds (x ∷ sents) (suc i) c = (c.0, counted_front (with_variables ds (entry x.entry).term) sents i c.1)

counted_more : (ds : List Declared) (sents : List Sent) (s : Sent) → AreCounted ds sents → s.before ≡ length (with_listed ds (terms (entries_of sents))) → AreCounted ds (sents ++ s ∷ [])
counted_more ds [] s c is = (is, tt)
counted_more ds (x ∷ sents) s c is = (c.0, counted_more (with_variables ds (entry x.entry).term) sents s c.1 is)

-- the symbols of the first entries are the first symbols
front_symbols : (k : ℕ) (p : List Entry) → take (length (with_listed [] (terms (take k p)))) (with_listed [] (terms p)) ≡ with_listed [] (terms (take k p))
front_symbols k p =
    let ds = with_listed [] (terms (take k p)) in
    ap (take (length ds)) (ap (with_listed []) (both_parts k p) ∙ listed_join [] (terms (take k p)) (terms (drop k p)) ∙ listed ds (drop k p))
    ∙ take-append_seam ds (added ds (drop k p))

-- back to the first so many entries
pub back_sound : (old new : Standing) (k : ℕ) (s : Sent) → k < length old.sent.items → new.sent.items ≡ take k old.sent.items → new.declared ≡ take (get_or old.sent.items k s).before old.declared
    → IsSound old → IsSound new
back_sound old new k s below items declared sound = record {
  declared =
      declared ∙ ap₂ take (counted_at [] old.sent.items k s below sound.counted ∙ ap (λ p. length (with_listed [] (terms p))) (front_of k old.sent.items)) sound.declared
      ∙ front_symbols k (path_of old) ∙ ap (λ p. with_listed [] (terms p)) (sym (front_of k old.sent.items) ∙ ap entries_of (sym items));
  counted = subst (AreCounted []) (sym items) (counted_front [] old.sent.items k sound.counted);
}

-- ---- one entry more

pub path_more : (old new : List Sent) (s : Sent) → new ≡ old ++ s ∷ [] → entries_of new ≡ entries_of old ++ entry s.entry ∷ []
path_more old new s items = ap entries_of items ∙ map-append (λ x. entry x.entry) old (s ∷ [])

symbols_more : (p : List Entry) (e : Entry) → with_listed [] (terms (p ++ e ∷ [])) ≡ with_variables (with_listed [] (terms p)) e.term
symbols_more p e = ap (with_listed []) (map-append (λ x. x.term) p (e ∷ [])) ∙ listed_join [] (terms p) (e.term ∷ [])

pub more_sound : (old new : Standing) (s : Sent) → new.sent.items ≡ old.sent.items ++ s ∷ [] → new.declared ≡ with_variables old.declared (entry s.entry).term → s.before ≡ length old.declared
    → IsSound old → IsSound new
more_sound old new s items declared before sound = record {
  declared =
      declared ∙ ap (λ ds. with_variables ds (entry s.entry).term) sound.declared
      ∙ sym (symbols_more (path_of old) (entry s.entry)) ∙ ap (λ p. with_listed [] (terms p)) (sym (path_more old.sent.items new.sent.items s items));
  counted = subst (AreCounted []) (sym items) (counted_more [] old.sent.items s sound.counted (before ∙ ap length sound.declared));
}

-- what is said for an entry, and then for those behind it
said_on : (cs : List Command) (p : List Entry) (e : Entry) (rest : List Entry)
    → (cs ++ ((opening (last_of 0 p) e ++ declarations (missing (with_listed [] (terms p)) e.term)) ++ Assert e.term ∷ []))
    ++ sent (last_of 0 (p ++ e ∷ [])) (with_listed [] (terms (p ++ e ∷ []))) rest
    ≡ cs ++ sent (last_of 0 p) (with_listed [] (terms p)) (e ∷ rest)
said_on cs p e rest =
    let first = (opening (last_of 0 p) e ++ declarations (missing (with_listed [] (terms p)) e.term)) ++ Assert e.term ∷ [] in
    append_assoc cs first (sent (last_of 0 (p ++ e ∷ [])) (with_listed [] (terms (p ++ e ∷ []))) rest)
    ∙ ap (λ x. cs ++ (first ++ x)) (ap₂ (λ last ds. sent last ds rest) (last_end 0 p e) (symbols_more p e))

pub entry_said : (old new : Standing) (e : Entry) (rest : List Entry) (cs ds : List Command) → IsSound old → path_of new ≡ path_of old ++ e ∷ []
    → ds ≡ cs ++ ((opening (last_of 0 (path_of old)) e ++ declarations (missing old.declared e.term)) ++ Assert e.term ∷ [])
    → ds ++ sent (last_of 0 (path_of new)) (with_listed [] (terms (path_of new))) rest ≡ cs ++ sent (last_of 0 (path_of old)) (with_listed [] (terms (path_of old))) (e ∷ rest)
entry_said old new e rest cs ds sound path said =
    ap₂ (λ x p. x ++ sent (last_of 0 p) (with_listed [] (terms p)) rest)
    (said ∙ ap (λ x. cs ++ ((opening (last_of 0 (path_of old)) e ++ declarations (missing x e.term)) ++ Assert e.term ∷ [])) sound.declared) path
    ∙ said_on cs (path_of old) e rest

pub entry_along : (old new : List Entry) (e : Entry) (rest : List Entry) → new ≡ old ++ e ∷ [] → new ++ rest ≡ old ++ e ∷ rest
entry_along old new e rest path = ap (λ x. x ++ rest) path ∙ append_assoc old (e ∷ []) rest

-- ---- where the code looks

-- the segment of the last entry
pub last_is : (before : ℕ) (sents : List Sent) (s : Sent) → Some s ≡ slice_get sents (length sents - 1) → s.entry.segment ≡ last_of before (entries_of sents)
last_is before [] s e = absurd (cc)
last_is before (x ∷ []) s e = ap (λ (y : Sent). y.entry.segment) (same_Some s x e)
last_is before (x ∷ y ∷ sents) s e =
    let less : length (x ∷ y ∷ sents) - 1 ≡ suc (length (y ∷ sents) - 1) = omega arith in
    last_is x.entry.segment (y ∷ sents) s (e ∙ ap (slice_get (x ∷ y ∷ sents)) less)

-- the symbols that a term puts behind are behind those that are there
pub missing_within : (ds : List Declared) (t : Term) → length ds ≤ length (with_variables ds t)
missing_within ds t = let all = ap length (with_missing ds t) ∙ length-append ds (missing ds t) in omega arith

-- one pop less is left
pub pops_less : (n i : ℕ) → i < n → pops (n - i) ≡ Pop 1 ∷ pops (n - (i + 1))
pops_less n i below = let one : n - i ≡ suc (n - (i + 1)) = omega arith in ap pops one

-- behind a question what is declared for it is gone
pub asked_sound : (old new : Standing) (t : Term) (before : ℕ) → new.sent ≡ old.sent → new.declared ≡ take before (with_variables old.declared t) → before ≡ length old.declared → IsSound old → IsSound new
asked_sound old new t before items declared is sound =
    let same : new.declared ≡ old.declared = declared ∙ ap₂ take is (with_missing old.declared t) ∙ take-append_seam old.declared (missing old.declared t) in
    record {
      declared = same ∙ sound.declared ∙ ap (λ x. with_listed [] (terms (entries_of x.items))) (sym items);
      counted = subst (λ x. AreCounted [] x.items) (sym items) sound.counted;
    }

-- behind pops and what is said for the rest of a path
pub on_said : (k n : ℕ) (old new : List Entry) (cs closed popped all : List Command) → closed ≡ cs ++ Pop 1 ∷ [] → popped ≡ closed ++ pops n → n ≡ depth (last_of 0 (take k old)) (drop k old)
    → all ≡ popped ++ sent (last_of 0 (take k old)) (with_listed [] (terms (take k old))) (drop k new) → all ≡ cs ++ onto old new (Some k)
on_said k n old new cs closed popped all closed_is popped_is n_is all_is =
    let more = sent (last_of 0 (take k old)) (with_listed [] (terms (take k old))) (drop k new) in
    let levels = depth (last_of 0 (take k old)) (drop k old) in
    all_is ∙ ap (λ x. x ++ more) (popped_is ∙ ap₂ (λ x m. x ++ pops m) closed_is n_is)
    ∙ append_assoc (cs ++ Pop 1 ∷ []) (pops levels) more ∙ append_assoc cs (Pop 1 ∷ []) (pops levels ++ more)

-- what stays of the old path and the rest of the new one are the new one
pub on_along : (k : ℕ) (old new : List Entry) → kept old new ≡ Some k → take k old ++ drop k new ≡ new
on_along k old new stays = ap (λ x. x ++ drop k new) (kept_is old new k stays).common ∙ take-append-drop k new

-- no more stays than there is
pub stays_within : (sents : List Sent) (path : List Entry') (k : ℕ) → kept (entries_of sents) (map entry path) ≡ Some k → (k ≤ length sents) × (k ≤ length path)
stays_within sents path k stays =
    let good = kept_is (entries_of sents) (map entry path) k stays in
    (subst (λ n. k ≤ n) (length-map sents (λ s. entry s.entry)) good.within, subst (λ n. k ≤ n) (length-map path entry) good.beside)
