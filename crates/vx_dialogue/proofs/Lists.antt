-- Lists, and what is told of commands one after another.
use Rattle.std.proofs.Common.{◌≡◌, ◌++◌, ◌+◌, ◌-◌, ◌<◌, ℕ, zero, suc, true, List, [], ◌∷◌, length, map, take, drop, get_or, Result, Ok, Err, OnOk, IfOk, refl, ap, ◌∙◌, sym, arith, append_assoc}
use Rattle.std.proofs.Math.Seq.{take-length}
use Rattle.std.proofs.lemmas.List.{take-append-drop, length-drop}
use Rattle.vx_sexp.specs.declared.token.Token.{Token}
use Rattle.vx_smt_meaning.specs.Commands.{Command, SetOption, SetLogic, DeclareSort, DeclareFun, Assert, Push, Pop, CheckSat, GetProof, Exit, Level, stack_after, stack_from}
use Rattle.vx_smt_meaning.specs.Dialogues.{is_plain, ArePlain, is_lawful_to, Answers, checks_in, checks_told}
use Rattle.vx_smt_text.specs.Text.{command_text, commands_text}
use Rattle.vx_smt_text.specs.Small.{IsSmallCommand}
use Rattle.vx_terms.specs.Interpretations.{Each}
use Rattle.vx_dialogue.specs.declared.item.Wanted.TheVariants as wanted
use Rattle.vx_dialogue.specs.Items.{is_lawful}
use Rattle.vx_dialogue.specs.Hears.{all_lawful}

pub none_more : {A : Type 0} (xs : List A) → xs ++ [] ≡ xs
none_more [] = refl
none_more (x ∷ xs) = ap (λ l. x ∷ l) (none_more xs)

pub text_append : (xs ys : List Command) → commands_text (xs ++ ys) ≡ commands_text xs ++ commands_text ys
text_append [] ys = refl
text_append (c ∷ xs) ys = ap (λ x. command_text c ++ x) (text_append xs ys) ∙ sym (append_assoc (command_text c) (commands_text xs) (commands_text ys))

pub text_more : (xs : List Command) (c : Command) → commands_text (xs ++ c ∷ []) ≡ commands_text xs ++ command_text c
text_more xs c = text_append xs (c ∷ []) ∙ ap (λ x. commands_text xs ++ x) (none_more (command_text c))

pub stack_append : (levels : List Level) (xs ys : List Command) → stack_from levels (xs ++ ys) ≡ stack_from (stack_from levels xs) ys
stack_append levels [] ys = refl
stack_append levels (c ∷ xs) ys = stack_append (stack_after c levels) xs ys

-- ---- plain commands

pub plain_join : (xs ys : List Command) → ArePlain xs → ArePlain ys → ArePlain (xs ++ ys)
plain_join [] ys e f = f
plain_join (x ∷ xs) ys e f = (e.0, plain_join xs ys e.1 f)

pub small_join : (xs ys : List Command) → Each IsSmallCommand xs → Each IsSmallCommand ys → Each IsSmallCommand (xs ++ ys)
small_join [] ys e f = f
small_join (x ∷ xs) ys e f = (e.0, small_join xs ys e.1 f)

no_check : (c : Command) (levels : List Level) (item : List Token) → is_plain c ≡ true → checks_in c levels item ≡ []
no_check (SetOption x b) levels item e = refl
no_check (SetLogic x) levels item e = refl
no_check (DeclareSort x) levels item e = refl
no_check (DeclareFun d) levels item e = refl
no_check (Assert t) levels item e = refl
no_check (Push n) levels item e = refl
no_check (Pop n) levels item e = refl
no_check CheckSat levels item e = absurd (cc)
no_check GetProof levels item e = refl
no_check Exit levels item e = refl

success_to : (c : Command) (item : List Token) → is_plain c ≡ true → is_lawful wanted.Success item ≡ true → is_lawful_to c item ≡ true
unfolding is_lawful
success_to (SetOption x b) item e f = f
success_to (SetLogic x) item e f = f
success_to (DeclareSort x) item e f = f
success_to (DeclareFun d) item e f = f
success_to (Assert t) item e f = f
success_to (Push n) item e f = f
success_to (Pop n) item e f = f
success_to CheckSat item e f = absurd (cc)
success_to GetProof item e f = absurd (cc)
success_to Exit item e f = f

pub no_checks : (levels : List Level) (cs : List Command) (items : List (List Token)) → ArePlain cs → checks_told levels cs items ≡ []
no_checks levels [] items e = refl
no_checks levels (c ∷ cs) [] e = refl
no_checks levels (c ∷ cs) (item ∷ items) e = rw (no_check c levels item e.0) (no_checks (stack_after c levels) cs items e.1)

pub successes_to : (cs : List Command) (items : List (List Token)) → ArePlain cs → length items ≡ length cs → all_lawful wanted.Success items → Answers cs items
successes_to [] [] e l f = tt
successes_to [] (item ∷ items) e l f = absurd (omega arith)
successes_to (c ∷ cs) [] e l f = absurd (omega arith)
successes_to (c ∷ cs) (item ∷ items) e l f = (success_to c item e.0 f.0, successes_to cs items e.1 (omega arith) f.1)

-- ---- commands and replies, one list behind another

pub answers_join : (cs ds : List Command) (xs ys : List (List Token)) → Answers cs xs → Answers ds ys → Answers (cs ++ ds) (xs ++ ys)
answers_join [] ds [] ys e f = f
answers_join [] ds (x ∷ xs) ys e f = absurd e
answers_join (c ∷ cs) ds [] ys e f = absurd e
answers_join (c ∷ cs) ds (x ∷ xs) ys e f = (e.0, answers_join cs ds xs ys e.1 f)

pub checks_join : (levels : List Level) (cs ds : List Command) (xs ys : List (List Token)) → Answers cs xs
    → checks_told levels (cs ++ ds) (xs ++ ys) ≡ checks_told levels cs xs ++ checks_told (stack_from levels cs) ds ys
checks_join levels [] ds [] ys e = refl
checks_join levels [] ds (x ∷ xs) ys e = absurd e
checks_join levels (c ∷ cs) ds [] ys e = absurd e
checks_join levels (c ∷ cs) ds (x ∷ xs) ys e =
    ap (λ l. checks_in c levels x ++ l) (checks_join (stack_after c levels) cs ds xs ys e.1)
    ∙ sym (append_assoc (checks_in c levels x) (checks_told (stack_after c levels) cs xs) (checks_told (stack_from (stack_after c levels) cs) ds ys))

-- ---- the front of a list

map_append : {A B : Type 0} (f : A → B) (xs ys : List A) → map f (xs ++ ys) ≡ map f xs ++ map f ys
map_append f [] ys = refl
map_append f (x ∷ xs) ys = ap (λ l. f x ∷ l) (map_append f xs ys)

pub plain_at : {A : Type 0} (f : A → Command) (xs : List A) (i : ℕ) (d : A) → i < length xs → ArePlain (map f xs) → is_plain (f (get_or xs i d)) ≡ true
plain_at f [] i d below e = absurd (omega arith)
plain_at f (x ∷ xs) zero d below e = e.0
plain_at f (x ∷ xs) (suc i) d below e = plain_at f xs i d (omega arith) e.1

pub on_ok_map : {T E : Type 0} (r : Result T E) (P Q : Type 0) → (P → Q) → OnOk r P → OnOk r Q
on_ok_map (Ok x) P Q f p = f p
on_ok_map (Err e) P Q f p = p

pub if_ok_map : {T E : Type 0} (r : Result T E) (P Q : T → Type 0) → ((x : T) → P x → Q x) → IfOk r P → IfOk r Q
if_ok_map (Ok x) P Q f p = f x p
if_ok_map (Err e) P Q f p = p

pub map_whole : {A B : Type 0} (f : A → B) (xs : List A) (i : ℕ) → map f (take i xs) ++ map f (drop i xs) ≡ map f xs
map_whole f xs i = sym (map_append f (take i xs) (drop i xs)) ∙ ap (map f) (take-append-drop i xs)

-- the part from a place to the end
pub whole_rest : {A : Type 0} (n : ℕ) (xs : List A) → take (length xs - n) (drop n xs) ≡ drop n xs
whole_rest n xs = ap (λ k. take k (drop n xs)) (sym (length-drop n xs)) ∙ take-length (drop n xs)
