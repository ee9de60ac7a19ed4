-- One more round of the readers that go on while there are tokens.
use Rattle.std.proofs.Common.{◌≡◌, ℕ, suc, ◌+◌, ◌-◌, ◌<◌, Bool, true, false, List, [], ◌∷◌, ◌++◌, length, get_or, take, drop, Option, Some, None, Ok, Err, refl, sym, ◌∙◌, ap, append_assoc, append-nil, arith}
use Rattle.std.proofs.lemmas.List.{at_drop_more, take_all, length-drop}
use Rattle.std.specs.Prelude.{if◌then◌else◌}
use Rattle.std.specs.declared.result.Result.{Result}
use Rattle.vx_sexp.specs.declared.token.Token.{Token}
use Rattle.cs_reader.specs.declared.stop.Stop.{Stop}
use Rattle.cs_reader.specs.declared.stop.Stop.TheVariants as stops
use Rattle.cs_reader.specs.declared.mark.Mark.{Mark}
use Rattle.cs_reader.specs.Marks.{mark}
use Rattle.cs_reader.specs.Steps.{Step}
use Rattle.cs_reader.specs.Items.{◌>>=◌, Fails, with_front, with_item, items_for}
use Rattle.cs_reader.specs.Reading.{is_end, step_at, with_steps, after_step, steps_for}

one_less : (len n : ℕ) → n < len → len - n ≡ suc (len - (n + 1))
one_less len n h = omega arith

-- items
unrolled : {A : Type 0} (turn : List Token → Option (Option A × List Token)) (len n : ℕ) (ts : List Token) → n < len →
    items_for turn (len - n) ts ≡ (turn ts >>= λ m. with_item m.0 (items_for turn (len - (n + 1)) m.1) m.1)
unrolled turn len n ts h = ap (λ k. items_for turn k ts) (one_less len n h)

pub stops_here : {A : Type 0} (turn : List Token → Option (Option A × List Token)) (xs : List A) (len n : ℕ) (ts : List Token) (stop : Stop) (r : Option (List A × List Token)) → n < len →
    with_front xs (items_for turn (len - n) ts) ≡ r → Fails stop (turn ts) → Fails stop r
stops_here turn xs len n ts stops.Want r h e f = tt
stops_here turn xs len n ts stops.Form r h e f =
    sym e ∙ ap (with_front xs) (unrolled turn len n ts h ∙ ap (λ o. o >>= λ m. with_item m.0 (items_for turn (len - (n + 1)) m.1) m.1) f)

pub ends_here : {A : Type 0} (turn : List Token → Option (Option A × List Token)) (xs : List A) (len n : ℕ) (ts behind : List Token) (r : Option (List A × List Token)) → n < len →
    with_front xs (items_for turn (len - n) ts) ≡ r → turn ts ≡ Some (None, behind) → r ≡ Some (xs, behind)
ends_here turn xs len n ts behind r h e f =
    sym e ∙ ap (with_front xs) (unrolled turn len n ts h ∙ ap (λ o. o >>= λ m. with_item m.0 (items_for turn (len - (n + 1)) m.1) m.1) f)
    ∙ ap (λ ys. Some (ys, behind)) (append-nil xs)

front_front : {A : Type 0} (xs : List A) (x : A) (o : Option (List A × List Token)) → with_front xs (with_front (x ∷ []) o) ≡ with_front (xs ++ x ∷ []) o
front_front xs x None = refl
front_front xs x (Some r) = ap (λ ys. Some (ys, r.1)) (sym (append_assoc xs (x ∷ []) r.0))

pub goes_on : {A : Type 0} (turn : List Token → Option (Option A × List Token)) (xs : List A) (x : A) (len n : ℕ) (ts behind : List Token) (r : Option (List A × List Token)) → n < len →
    with_front xs (items_for turn (len - n) ts) ≡ r → turn ts ≡ Some (Some x, behind) → with_front (xs ++ x ∷ []) (items_for turn (len - (n + 1)) behind) ≡ r
goes_on turn xs x len n ts behind r h e f =
    sym (front_front xs x (items_for turn (len - (n + 1)) behind))
    ∙ ap (with_front xs) (sym (unrolled turn len n ts h ∙ ap (λ o. o >>= λ m. with_item m.0 (items_for turn (len - (n + 1)) m.1) m.1) f))
    ∙ e

-- items to a closing parenthesis, each by the mark of its token
pub here : {A : Type 0} (read : List Token → Option (List A × List Token)) (by_mark : Mark → List Token → Option (List A × List Token) → Option (List A × List Token))
    → ((t : Token) (ts : List Token) → read (t ∷ ts) ≡ by_mark (mark t) ts (read ts)) → (ts : List Token) (n : ℕ) (t : Token) (m : Mark) → n < length ts → t ≡ get_or ts n t → m ≡ mark t
    → read (drop n ts) ≡ by_mark m (drop (n + 1) ts) (read (drop (n + 1) ts))
here read by_mark step ts n t m lt is e =
    at_drop_more read ts n t lt ∙ ap (λ x. read (x ∷ drop (n + 1) ts)) (sym is) ∙ step t (drop (n + 1) ts)
    ∙ ap (λ k. by_mark k (drop (n + 1) ts) (read (drop (n + 1) ts))) (sym e)

pub one_more : {A : Type 0} (read : List Token → Option (List A × List Token)) (xs : List A) (x : A) (ts : List Token) (n : ℕ) (r : Option (List A × List Token))
    → with_front xs (read (drop n ts)) ≡ r → read (drop n ts) ≡ with_front (x ∷ []) (read (drop (n + 1) ts)) → with_front (xs ++ x ∷ []) (read (drop (n + 1) ts)) ≡ r
one_more read xs x ts n r h e = sym (front_front xs x (read (drop (n + 1) ts))) ∙ ap (with_front xs) (sym e) ∙ h

pub closes : {A : Type 0} (read : List Token → Option (List A × List Token)) (xs : List A) (ts : List Token) (n : ℕ) (r : Option (List A × List Token))
    → with_front xs (read (drop n ts)) ≡ r → read (drop n ts) ≡ Some ([], drop (n + 1) ts) → r ≡ Some (xs, take (length ts - (n + 1)) (drop (n + 1) ts))
closes read xs ts n r h e =
    sym h ∙ ap (with_front xs) e ∙ ap (λ ys. Some (ys, drop (n + 1) ts)) (append-nil xs)
    ∙ ap (λ ys. Some (xs, ys)) (sym (take_all _ _ (omega (arith, length-drop (n + 1) ts))))

pub no_more : {A : Type 0} (read : List Token → Option (List A × List Token)) (xs : List A) (ts : List Token) (n : ℕ) (r : Option (List A × List Token))
    → with_front xs (read (drop n ts)) ≡ r → read (drop n ts) ≡ None → r ≡ None
no_more read xs ts n r h e = sym h ∙ ap (with_front xs) e

-- steps
unrolled_steps : (len n : ℕ) (ts : List Token) → n < len → is_end ts ≡ false → steps_for (len - n) n ts ≡ after_step (step_at ts) n (steps_for (len - (n + 1)) (n + 1))
unrolled_steps len n ts h e =
    ap (λ k. steps_for k n ts) (one_less len n h)
    ∙ ap (λ b. cond_steps b) e
  where
    cond_steps : Bool → Result (List Step) ℕ
    cond_steps b = if b then Ok [] else after_step (step_at ts) n (steps_for (len - (n + 1)) (n + 1))

pub last_step : (ss : List Step) (len n : ℕ) (ts : List Token) (r : Result (List Step) ℕ) → n < len → with_steps ss (steps_for (len - n) n ts) ≡ r → is_end ts ≡ true → r ≡ Ok ss
last_step ss len n ts r h e f =
    sym e ∙ ap (with_steps ss) (ap (λ k. steps_for k n ts) (one_less len n h) ∙ ap (λ b. if b then Ok [] else after_step (step_at ts) n (steps_for (len - (n + 1)) (n + 1))) f)
    ∙ ap Ok (append-nil ss)

pub bad_step : (ss : List Step) (len n : ℕ) (ts : List Token) (r : Result (List Step) ℕ) → n < len → with_steps ss (steps_for (len - n) n ts) ≡ r → is_end ts ≡ false → step_at ts ≡ None → r ≡ Err n
bad_step ss len n ts r h e f g =
    sym e ∙ ap (with_steps ss) (unrolled_steps len n ts h f ∙ ap (λ o. after_step o n (steps_for (len - (n + 1)) (n + 1))) g)

steps_steps : (ss : List Step) (s : Step) (r : Result (List Step) ℕ) → with_steps ss (with_steps (s ∷ []) r) ≡ with_steps (ss ++ s ∷ []) r
steps_steps ss s (Ok more) = ap Ok (sym (append_assoc ss (s ∷ []) more))
steps_steps ss s (Err n) = refl

pub good_step : (ss : List Step) (s : Step) (len n : ℕ) (ts behind : List Token) (r : Result (List Step) ℕ) → n < len → with_steps ss (steps_for (len - n) n ts) ≡ r → is_end ts ≡ false →
    step_at ts ≡ Some (s, behind) → with_steps (ss ++ s ∷ []) (steps_for (len - (n + 1)) (n + 1) behind) ≡ r
good_step ss s len n ts behind r h e f g =
    sym (steps_steps ss s (steps_for (len - (n + 1)) (n + 1) behind))
    ∙ ap (with_steps ss) (sym (unrolled_steps len n ts h f ∙ ap (λ o. after_step o n (steps_for (len - (n + 1)) (n + 1))) g))
    ∙ e
