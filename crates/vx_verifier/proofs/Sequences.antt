-- A member's checks grow one by one, along the walk; where they are right, the answers of the walk are.
use Rattle.std.proofs.Common.{◌≡◌, ◌⊎◌, ◌++◌, ◌∷◌, [], List, Some, append_assoc, refl, ap, ◌∙◌, sym, subst, inl, inr}
use Rattle.vx_terms.specs.Terms.{Term}
use Rattle.vx_terms.specs.Build.{negate}
use Rattle.vx_terms.specs.Interpretations.{Each, IsTrueIn, IsUnsatisfiable}
use Rattle.vx_smt_meaning.specs.Commands.{Level}
use Rattle.vx_smt_meaning.specs.Dialogues.{Check}
use Rattle.vx_smt_meaning.specs.declared.reply.Reply.{Reply}
use Rattle.vx_smt_meaning.specs.declared.reply.Reply.TheVariants.{Unsat, Sat, Unknown}
use Rattle.vx_dialogue.specs.Dialogue.{pushed, check_of}
use Rattle.vx_rules.specs.Trees.{Question, Answered}
use Rattle.vx_sound.specs.Law.{AllRight}
use Rattle.vx_sound.specs.Law.{IsRight as IsRightAnswer}
use Rattle.vx_verifier.specs.Sequences.{IsIn, SameSet, IsCheckOf, AreChecksOf, reply_list, replies_to, IsRight}

-- a path that was put on a list
of_pushed : (t : Term) (xs ys : List Term) → IsIn t (pushed xs ys) → IsIn t xs ⊎ IsIn t ys
of_pushed t [] ys h = inr h
of_pushed t (x ∷ xs) ys h = elim (of_pushed t xs (x ∷ ys) h) [
  | inl e ↦ inl (inr e)
  | inr e ↦ elim e [ inl f ↦ inl (inl f) | inr f ↦ inr f ]
]

mutual_pushed : (t : Term) (xs ys : List Term) → IsIn t xs ⊎ IsIn t ys → IsIn t (pushed xs ys)
mutual_pushed t [] ys (inr h) = h
mutual_pushed t [] ys (inl h) = absurd h
mutual_pushed t (x ∷ xs) ys (inl (inl e)) = mutual_pushed t xs (x ∷ ys) (inr (inl e))
mutual_pushed t (x ∷ xs) ys (inl (inr e)) = mutual_pushed t xs (x ∷ ys) (inl e)
mutual_pushed t (x ∷ xs) ys (inr e) = mutual_pushed t xs (x ∷ ys) (inr (inr e))

only_first : (t : Term) (xs : List Term) → IsIn t xs ⊎ IsIn t [] → IsIn t xs
only_first t xs (inl e) = e
only_first t xs (inr e) = absurd e

-- the check of a question has its set
same_set : (n : Term) (path : List Term) → SameSet (n ∷ pushed path []) (n ∷ path)
same_set n path = λ t. (
  λ h. elim h [ inl e ↦ inl e | inr e ↦ inr (only_first t path (of_pushed t path [] e)) ],
  λ h. elim h [ inl e ↦ inl e | inr e ↦ inr (mutual_pushed t path [] (inl e)) ],
)

pub check_is : (base : List Level) (q : Question) (r : Reply) → IsCheckOf (record { question = q; reply = r }) (check_of base q.path q.condition r)
check_is base q r = record { set = same_set (negate q.condition) q.path; reply = refl }

pub checks_more : (as' : List Answered) (cs : List Check) (a : Answered) (c : Check) → AreChecksOf as' cs → IsCheckOf a c → AreChecksOf (as' ++ a ∷ []) (cs ++ c ∷ [])
checks_more [] [] a c all one = (one, tt)
checks_more [] (c' ∷ cs) a c all one = absurd all
checks_more (a' ∷ as') [] a c all one = absurd all
checks_more (a' ∷ as') (c' ∷ cs) a c all one = (all.0, checks_more as' cs a c all.1 one)

pub replies_more : (cs : List Check) (c : Check) (r : Reply) → c.reply ≡ Some r → replies_to (cs ++ c ∷ []) ≡ replies_to cs ++ r ∷ []
replies_more [] c r is = rw is refl
replies_more (c' ∷ cs) c r is =
    ap (λ l. reply_list c'.reply ++ l) (replies_more cs c r is) ∙ sym (append_assoc (reply_list c'.reply) (replies_to cs) (r ∷ []))

-- what holds of each, holds of all that are in the list
pub each_in : {A : Type 0} (P : A → Type 0) (xs : List A) (x : A) → Each P xs → IsIn x xs → P x
each_in P [] x all h = absurd h
each_in P (y ∷ ys) x all (inl e) = subst P (sym e) all.0
each_in P (y ∷ ys) x all (inr e) = each_in P ys x all.1 e

pub in_each : {A : Type 0} (P : A → Type 0) (xs : List A) → ((x : A) → IsIn x xs → P x) → Each P xs
in_each P [] all = tt
in_each P (x ∷ xs) all = (all x (inl refl), in_each P xs (λ y h. all y (inr h)))

unsatisfiable : (xs ys : List Term) → SameSet xs ys → IsUnsatisfiable xs → IsUnsatisfiable ys
unsatisfiable xs ys same no_model = λ i all. no_model i (in_each (IsTrueIn i) xs (λ t h. each_in (IsTrueIn i) ys t all ((same t).0 h)))

right_answer : (q : Question) (r : Reply) (c : Check) → SameSet c.assertions (negate q.condition ∷ q.path) → c.reply ≡ Some r → IsRight c → IsRightAnswer q r
right_answer q Unsat c set is right = unsatisfiable c.assertions (negate q.condition ∷ q.path) set (right is)
right_answer q Sat c set is right = tt
right_answer q Unknown c set is right = tt

pub all_right : (as' : List Answered) (cs : List Check) → AreChecksOf as' cs → Each IsRight cs → AllRight as'
all_right [] [] all right = tt
all_right [] (c ∷ cs) all right = absurd all
all_right (a ∷ as') [] all right = absurd all
all_right (a ∷ as') (c ∷ cs) all right = (right_answer a.question a.reply c all.0.set all.0.reply right.0, all_right as' cs all.1 right.1)
