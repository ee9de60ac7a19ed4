-- The tree over one merge more, and over one less.
use Rattle.std.proofs.Common.{◌≡◌, ℕ, suc, ◌<◌, ◌≤◌, ◌+◌, inl, inr, List, [], ◌∷◌, ◌++◌, length, get_or, set, refl, sym, ◌∙◌, ap, subst, arith}
use Rattle.std.proofs.lemmas.Bool.{cases_eq, cases_lt}
use Rattle.std.proofs.lemmas.List.{get_or_append_left, get_or_at, length-append, length-set, get_or-set_same, get_or-set_other, get_or_default}
use Rattle.cs_cong.specs.declared.merges.Merge.{Merge}
use Rattle.cs_cong.specs.declared.merges.Link.{Link}
use Rattle.cs_cong.specs.Merged.{nothing, across, representative, current, IsWithin, AreWithin}
use Rattle.cs_cong.specs.Trees.{nowhere, never, link_at, Moves, IsTree}
use Rattle.cs_cong.proofs.Times.{same_later, same_across, past, front, crosses, keeps}

-- one step towards the representative
pub climbs : (log : List Merge) (links : List Link) → IsTree log links → (a time : ℕ) → a < length links → (link_at links a).time < time → time ≤ never → representative log time (link_at links a).to ≡ representative log time a
climbs log links is a time lt below le =
    let m = is.moves a lt (omega arith) in
    sym (same_later log (suc (link_at links a).time) a (link_at links a).to (m.there ∙ sym (is.stays (link_at links a).to (suc (link_at links a).time) m.target (omega (arith, m.later)))) time (omega arith))

pub climbs_within : (log : List Merge) (links : List Link) → IsTree log links → (a time : ℕ) → a < length links → (link_at links a).time < time → time ≤ never → (link_at links a).to < length links
climbs_within log links is a time lt below le = (is.moves a lt (omega arith)).target

pub climbs_later : (log : List Merge) (links : List Link) → IsTree log links → (a time : ℕ) → a < length links → (link_at links a).time < time → time ≤ never → (link_at links a).time < (link_at links (link_at links a).to).time
climbs_later log links is a time lt below le = (is.moves a lt (omega arith)).later

-- no merges
pub no_tree : (links : List Link) → ((a : ℕ) → a < length links → link_at links a ≡ record { to = a; time = never }) → IsTree [] links
no_tree links each = record {
  stays = λ a k lt le. past [] 0 a (omega arith) k (omega arith);
  moves = λ a lt below. absurd (let e : (link_at links a).time ≡ never = ap (λ l. l.time) (each a lt) in omega arith);
  times = λ a lt. let e : (link_at links a).time ≡ never = ap (λ l. l.time) (each a lt) in omega arith;
  each = λ k lt. absurd (omega arith);
}

-- one term more
pub links_more : (links new : List Link) (n : ℕ) → length links ≡ n → ((a : ℕ) → a < n → link_at links a ≡ record { to = a; time = never }) → new ≡ links ++ record { to = n; time = never } ∷ [] →
    (length new ≡ n + 1) × ((a : ℕ) → a < n + 1 → link_at new a ≡ record { to = a; time = never })
links_more links new n long each is =
    let own : ℕ → Link = λ k. record { to = k; time = never } in (
      ap length is ∙ length-append links (own n ∷ []) ∙ ap (λ k. k + 1) long,
      λ a lt. ap (λ l. link_at l a) is ∙ elim (cases_eq a n) [
        | inl e ↦ get_or_at links (own n) [] nowhere a (long ∙ sym e) ∙ ap own (sym e)
        | inr o ↦ get_or_append_left links (own n ∷ []) nowhere a (omega arith) ∙ each a (omega arith)
      ],
    )

pub at_link : (links : List Link) (a : ℕ) (l : Link) → a < length links → l ≡ get_or links a l → l ≡ link_at links a
at_link links a l lt e = e ∙ get_or_default links a l nowhere lt

pub led_same : (links : List Link) (a : ℕ) (l : Link) → a < length links → link_at (set links a l) a ≡ l
led_same links a l lt = get_or-set_same links a l nowhere lt

pub led_other : (links : List Link) (a b : ℕ) (l : Link) → (b ≡ a → ⊥) → link_at (set links a l) b ≡ link_at links b
led_other links a b l n = get_or-set_other links a b l nowhere n

last : (log : List Merge) (m : Merge) → get_or (log ++ m ∷ []) (length log) nothing ≡ m
last log m = get_or_at log m [] nothing (length log) refl

before : (log : List Merge) (m : Merge) (k : ℕ) → k < length log → get_or (log ++ m ∷ []) k nothing ≡ get_or log k nothing
before log m k lt = get_or_append_left log (m ∷ []) nothing k lt

longer : (log : List Merge) (m : Merge) → length (log ++ m ∷ []) ≡ suc (length log)
longer log m = length-append log (m ∷ []) ∙ omega arith

-- the representative that stays, in the time of one more merge
module _ (log : List Merge) (links : List Link) (is : IsTree log links) (m : Merge) (to : ℕ)
    (here : m.moved ≡ current log m.left) (there : to ≡ current log m.right) (within : m.moved < length links) (target : to < length links)
    (rest : length log ≤ (link_at links m.moved).time) (rest_to : length log ≤ (link_at links to).time) (other : m.moved ≡ to → ⊥) (few : length log < never) where
  l : Link
  l = record { to = to; time = length log }

  grown : List Merge
  grown = log ++ m ∷ []

  led : List Link
  led = set links m.moved record { to = to; time = length log }

  never_to : (link_at links to).time ≡ never
  never_to = elim (cases_lt (link_at links to).time never) [
    | inl lt ↦ absurd (omega (arith, (is.moves to target lt).within))
    | inr le ↦ omega (arith, is.times to target)
  ]

  end : (a : ℕ) → representative (log ++ m ∷ []) (suc (length log)) a ≡ across m (representative log (length log)) a
  end a =
      ap (λ x. across x (representative (log ++ m ∷ []) (length log)) a) (last log m)
      ∙ same_across m (representative (log ++ m ∷ []) (length log)) (representative log (length log)) a
      (front log (m ∷ []) (length log) a (omega arith)) (front log (m ∷ []) (length log) m.left (omega arith)) (front log (m ∷ []) (length log) m.right (omega arith))

  moved_on : representative (log ++ m ∷ []) (suc (length log)) m.moved ≡ to
  moved_on = end m.moved ∙ crosses m (representative log (length log)) m.moved (is.stays m.moved (length log) within rest ∙ here) ∙ sym there

  kept : (a : ℕ) → a < length links → length log ≤ (link_at links a).time → (a ≡ m.moved → ⊥) → representative (log ++ m ∷ []) (suc (length log)) a ≡ a
  kept a lt le n =
      let f : ℕ → ℕ = representative log (length log) in
      let stays : representative log (length log) a ≡ a = is.stays a (length log) lt le in
      end a ∙ keeps m (representative log (length log)) a (λ e. n (sym stays ∙ e ∙ sym here)) ∙ stays

  stays_on : (a k : ℕ) → a < length links → k ≤ (link_at (set links m.moved record { to = to; time = length log }) a).time → representative (log ++ m ∷ []) k a ≡ a
  stays_on a k lt le = elim (cases_eq a m.moved) [
    | inl e ↦
        let time : (link_at (set links m.moved record { to = to; time = length log }) a).time ≡ length log = ap (λ x. (link_at (set links m.moved record { to = to; time = length log }) x).time) e ∙ ap (λ x. x.time) (led_same links m.moved record { to = to; time = length log } within) in
        let old : length log ≤ (link_at links a).time = let P : ℕ → Type 0 = λ x. length log ≤ (link_at links x).time in subst P (sym e) rest in
        front log (m ∷ []) k a (omega arith) ∙ is.stays a k lt (omega arith)
    | inr n ↦
        let same : (link_at (set links m.moved record { to = to; time = length log }) a).time ≡ (link_at links a).time = ap (λ x. x.time) (led_other links m.moved a record { to = to; time = length log } n) in
        elim (cases_lt (length log) k) [
          | inl later ↦ past (log ++ m ∷ []) (suc (length log)) a (let e : length (log ++ m ∷ []) ≡ suc (length log) = longer log m in omega arith) k (omega arith) ∙ kept a lt (omega arith) n
          | inr sooner ↦ front log (m ∷ []) k a sooner ∙ is.stays a k lt (omega arith)
        ]
  ]

  moves_on : (a : ℕ) → a < length links → (link_at (set links m.moved record { to = to; time = length log }) a).time < never → Moves (log ++ m ∷ []) (set links m.moved record { to = to; time = length log }) a
  moves_on a lt below = elim (cases_eq a m.moved) [
    | inl e ↦
        let P : ℕ → Type 0 = Moves (log ++ m ∷ []) (set links m.moved record { to = to; time = length log }) in
        let is_l : link_at (set links m.moved record { to = to; time = length log }) m.moved ≡ record { to = to; time = length log } = led_same links m.moved record { to = to; time = length log } within in
        let time : (link_at (set links m.moved record { to = to; time = length log }) m.moved).time ≡ length log = ap (λ x. x.time) is_l in
        let goes : (link_at (set links m.moved record { to = to; time = length log }) m.moved).to ≡ to = ap (λ x. x.to) is_l in
        let long : length (log ++ m ∷ []) ≡ suc (length log) = longer log m in
        let width : length (set links m.moved record { to = to; time = length log }) ≡ length links = length-set links m.moved record { to = to; time = length log } in
        let further : (link_at (set links m.moved record { to = to; time = length log }) to).time ≡ never = ap (λ x. x.time) (led_other links m.moved to record { to = to; time = length log } (λ f. other (sym f))) ∙ never_to in
        subst P (sym e) record {
          within = omega arith;
          target = omega arith;
          there = ap (λ t. representative (log ++ m ∷ []) (suc t) m.moved) time ∙ moved_on ∙ sym goes;
          later = let f : (link_at (set links m.moved record { to = to; time = length log }) (link_at (set links m.moved record { to = to; time = length log }) m.moved).to).time ≡ never = ap (λ x. (link_at (set links m.moved record { to = to; time = length log }) x).time) goes ∙ further in omega arith;
          moved = ap (λ t. (get_or (log ++ m ∷ []) t nothing).moved) time ∙ ap (λ x. x.moved) (last log m);
        }
    | inr n ↦
        let is_l : link_at (set links m.moved record { to = to; time = length log }) a ≡ link_at links a = led_other links m.moved a record { to = to; time = length log } n in
        let time : (link_at (set links m.moved record { to = to; time = length log }) a).time ≡ (link_at links a).time = ap (λ x. x.time) is_l in
        let goes : (link_at (set links m.moved record { to = to; time = length log }) a).to ≡ (link_at links a).to = ap (λ x. x.to) is_l in
        let long : length (log ++ m ∷ []) ≡ suc (length log) = longer log m in
        let width : length (set links m.moved record { to = to; time = length log }) ≡ length links = length-set links m.moved record { to = to; time = length log } in
        let old = is.moves a lt (omega arith) in
        let sooner : (link_at links a).time < length log = old.within in
        record {
          within = omega arith;
          target = let t = old.target in omega arith;
          there = ap (λ t. representative (log ++ m ∷ []) (suc t) a) time ∙ front log (m ∷ []) (suc (link_at links a).time) a (omega arith) ∙ old.there ∙ sym goes;
          later = elim (cases_eq (link_at links a).to m.moved) [
            | inl e ↦ let f : (link_at (set links m.moved record { to = to; time = length log }) (link_at (set links m.moved record { to = to; time = length log }) a).to).time ≡ length log = ap (λ x. (link_at (set links m.moved record { to = to; time = length log }) x).time) (goes ∙ e) ∙ ap (λ x. x.time) (led_same links m.moved record { to = to; time = length log } within) in omega arith
            | inr o ↦ let f : (link_at (set links m.moved record { to = to; time = length log }) (link_at (set links m.moved record { to = to; time = length log }) a).to).time ≡ (link_at links (link_at links a).to).time = ap (λ x. (link_at (set links m.moved record { to = to; time = length log }) x).time) goes ∙ ap (λ x. x.time) (led_other links m.moved (link_at links a).to record { to = to; time = length log } o) in let g = old.later in omega arith
          ];
          moved = ap (λ t. (get_or (log ++ m ∷ []) t nothing).moved) time ∙ ap (λ x. x.moved) (before log m (link_at links a).time sooner) ∙ old.moved;
        }
  ]

  each_on : (k : ℕ) → k < length (log ++ m ∷ []) → (link_at (set links m.moved record { to = to; time = length log }) (get_or (log ++ m ∷ []) k nothing).moved).time ≡ k
  each_on k lt = elim (cases_eq k (length log)) [
    | inl e ↦
        ap (λ x. (link_at (set links m.moved record { to = to; time = length log }) (get_or (log ++ m ∷ []) x nothing).moved).time) e
        ∙ ap (λ x. (link_at (set links m.moved record { to = to; time = length log }) x.moved).time) (last log m)
        ∙ ap (λ x. x.time) (led_same links m.moved record { to = to; time = length log } within) ∙ sym e
    | inr n ↦
        let long : length (log ++ m ∷ []) ≡ suc (length log) = longer log m in
        let sooner : k < length log = omega arith in
        let old : (link_at links (get_or log k nothing).moved).time ≡ k = is.each k sooner in
        ap (λ x. (link_at (set links m.moved record { to = to; time = length log }) x.moved).time) (before log m k sooner)
        ∙ ap (λ x. x.time) (led_other links m.moved (get_or log k nothing).moved record { to = to; time = length log } (λ e. let f : (link_at links (get_or log k nothing).moved).time ≡ (link_at links m.moved).time = ap (λ x. (link_at links x).time) e in omega arith))
        ∙ old
  ]

  pub grown_tree : IsTree (log ++ m ∷ []) (set links m.moved record { to = to; time = length log })
  grown_tree =
      let width : length (set links m.moved record { to = to; time = length log }) ≡ length links = length-set links m.moved record { to = to; time = length log } in
      record {
        stays = λ a k lt. stays_on a k (omega arith);
        moves = λ a lt. moves_on a (omega arith);
        times = λ a lt. elim (cases_eq a m.moved) [
          | inl e ↦ let f : (link_at (set links m.moved record { to = to; time = length log }) a).time ≡ length log = ap (λ x. (link_at (set links m.moved record { to = to; time = length log }) x).time) e ∙ ap (λ x. x.time) (led_same links m.moved record { to = to; time = length log } within) in omega arith
          | inr n ↦ let f : (link_at (set links m.moved record { to = to; time = length log }) a).time ≡ (link_at links a).time = ap (λ x. x.time) (led_other links m.moved a record { to = to; time = length log } n) in let g = is.times a (omega arith) in omega arith
        ];
        each = each_on;
      }

-- one merge less
module _ (log : List Merge) (links : List Link) (m : Merge) (is : IsTree (log ++ m ∷ []) links) (within : m.moved < length links) where
  back : Link
  back = record { to = m.moved; time = never }

  last_time : (link_at links m.moved).time ≡ length log
  last_time = ap (λ x. (link_at links x.moved).time) (sym (last log m)) ∙ is.each (length log) (let long : length (log ++ m ∷ []) ≡ suc (length log) = longer log m in omega arith)

  shorter_stays : (a k : ℕ) → a < length links → length log ≤ (link_at links a).time → representative log k a ≡ a
  shorter_stays a k lt le = elim (cases_lt (length log) k) [
    | inl later ↦ past log (length log) a (omega arith) k (omega arith) ∙ sym (front log (m ∷ []) (length log) a (omega arith)) ∙ is.stays a (length log) lt le
    | inr sooner ↦ sym (front log (m ∷ []) k a sooner) ∙ is.stays a k lt (omega arith)
  ]

  pub shorter_tree : IsTree log (set links m.moved record { to = m.moved; time = never })
  shorter_tree =
      let width : length (set links m.moved record { to = m.moved; time = never }) ≡ length links = length-set links m.moved record { to = m.moved; time = never } in
      let long : length (log ++ m ∷ []) ≡ suc (length log) = longer log m in
      record {
        stays = λ a k lt le. elim (cases_eq a m.moved) [
          | inl e ↦ shorter_stays a k (omega arith) (let f : (link_at links a).time ≡ (link_at links m.moved).time = ap (λ x. (link_at links x).time) e in let g : (link_at links m.moved).time ≡ length log = last_time in omega arith)
          | inr n ↦
              let f : (link_at (set links m.moved record { to = m.moved; time = never }) a).time ≡ (link_at links a).time = ap (λ x. x.time) (led_other links m.moved a record { to = m.moved; time = never } n) in
              elim (cases_lt (length log) k) [
                | inl later ↦ shorter_stays a k (omega arith) (omega arith)
                | inr sooner ↦ sym (front log (m ∷ []) k a sooner) ∙ is.stays a k (omega arith) (omega arith)
              ]
        ];
        moves = λ a lt below. elim (cases_eq a m.moved) [
          | inl e ↦ absurd (let f : (link_at (set links m.moved record { to = m.moved; time = never }) a).time ≡ never = ap (λ x. (link_at (set links m.moved record { to = m.moved; time = never }) x).time) e ∙ ap (λ x. x.time) (led_same links m.moved record { to = m.moved; time = never } within) in omega arith)
          | inr n ↦
              let is_l : link_at (set links m.moved record { to = m.moved; time = never }) a ≡ link_at links a = led_other links m.moved a record { to = m.moved; time = never } n in
              let time : (link_at (set links m.moved record { to = m.moved; time = never }) a).time ≡ (link_at links a).time = ap (λ x. x.time) is_l in
              let goes : (link_at (set links m.moved record { to = m.moved; time = never }) a).to ≡ (link_at links a).to = ap (λ x. x.to) is_l in
              let old = is.moves a (omega arith) (omega arith) in
              let sooner : (link_at links a).time < length log = elim (cases_eq (link_at links a).time (length log)) [
                | inl e ↦ absurd (n (sym (old.moved) ∙ ap (λ t. (get_or (log ++ m ∷ []) t nothing).moved) e ∙ ap (λ x. x.moved) (last log m)))
                | inr o ↦ let p = old.within in omega arith
              ] in
              record {
                within = omega arith;
                target = let t = old.target in omega arith;
                there = ap (λ t. representative log (suc t) a) time ∙ sym (front log (m ∷ []) (suc (link_at links a).time) a (omega arith)) ∙ old.there ∙ sym goes;
                later = elim (cases_eq (link_at links a).to m.moved) [
                  | inl e ↦ let f : (link_at (set links m.moved record { to = m.moved; time = never }) (link_at (set links m.moved record { to = m.moved; time = never }) a).to).time ≡ never = ap (λ x. (link_at (set links m.moved record { to = m.moved; time = never }) x).time) (goes ∙ e) ∙ ap (λ x. x.time) (led_same links m.moved record { to = m.moved; time = never } within) in omega arith
                  | inr o ↦ let f : (link_at (set links m.moved record { to = m.moved; time = never }) (link_at (set links m.moved record { to = m.moved; time = never }) a).to).time ≡ (link_at links (link_at links a).to).time = ap (λ x. (link_at (set links m.moved record { to = m.moved; time = never }) x).time) goes ∙ ap (λ x. x.time) (led_other links m.moved (link_at links a).to record { to = m.moved; time = never } o) in let g = old.later in omega arith
                ];
                moved = ap (λ t. (get_or log t nothing).moved) time ∙ sym (ap (λ x. x.moved) (before log m (link_at links a).time sooner)) ∙ old.moved;
              }
        ];
        times = λ a lt. elim (cases_eq a m.moved) [
          | inl e ↦ let f : (link_at (set links m.moved record { to = m.moved; time = never }) a).time ≡ never = ap (λ x. (link_at (set links m.moved record { to = m.moved; time = never }) x).time) e ∙ ap (λ x. x.time) (led_same links m.moved record { to = m.moved; time = never } within) in omega arith
          | inr n ↦ let f : (link_at (set links m.moved record { to = m.moved; time = never }) a).time ≡ (link_at links a).time = ap (λ x. x.time) (led_other links m.moved a record { to = m.moved; time = never } n) in let g = is.times a (omega arith) in omega arith
        ];
        each = λ k lt.
            let old : (link_at links (get_or (log ++ m ∷ []) k nothing).moved).time ≡ k = is.each k (omega arith) in
            let same : (get_or (log ++ m ∷ []) k nothing).moved ≡ (get_or log k nothing).moved = ap (λ x. x.moved) (before log m k lt) in
            let here : (link_at links (get_or log k nothing).moved).time ≡ k = ap (λ x. (link_at links x).time) (sym same) ∙ old in
            ap (λ x. x.time) (led_other links m.moved (get_or log k nothing).moved record { to = m.moved; time = never } (λ e. let f : (link_at links (get_or log k nothing).moved).time ≡ (link_at links m.moved).time = ap (λ x. (link_at links x).time) e in let g : (link_at links m.moved).time ≡ length log = last_time in omega arith)) ∙ here;
      }

-- the terms of one merge more
pub within_more : (n : ℕ) (log : List Merge) (m : Merge) → AreWithin n log → IsWithin n m → AreWithin n (log ++ m ∷ [])
within_more n log m all one k lt = elim (cases_eq k (length log)) [
  | inl e ↦ subst (IsWithin n) (sym (ap (λ x. get_or (log ++ m ∷ []) x nothing) e ∙ last log m)) one
  | inr o ↦ let long : length (log ++ m ∷ []) ≡ suc (length log) = longer log m in subst (IsWithin n) (sym (before log m k (omega arith))) (all k (omega arith))
]

pub within_less : (n : ℕ) (log : List Merge) (m : Merge) → AreWithin n (log ++ m ∷ []) → AreWithin n log
within_less n log m all k lt = let long : length (log ++ m ∷ []) ≡ suc (length log) = longer log m in subst (IsWithin n) (before log m k lt) (all k (omega arith))

pub within_last : (n : ℕ) (log : List Merge) (m : Merge) → AreWithin n (log ++ m ∷ []) → IsWithin n m
within_last n log m all = let long : length (log ++ m ∷ []) ≡ suc (length log) = longer log m in subst (IsWithin n) (last log m) (all (length log) (omega arith))

pub width : (links : List Link) (a : ℕ) (l : Link) → length (set links a l) ≡ length links
width links a l = length-set links a l
