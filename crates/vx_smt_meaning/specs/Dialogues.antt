-- What a dialogue means: its commands, their replies in order, and its checks.
use Rattle.std.specs.Prelude.{◌≡◌, Bool, true, false, not, List, [], ◌∷◌, ◌++◌, codes, Option}
use Rattle.vx_sexp.specs.declared.token.Token.{Token}
use Rattle.vx_terms.specs.Terms.{Term}
use Rattle.vx_smt_meaning.specs.Commands.{Command, CheckSat, GetProof, Declared, Level, stack_after, assertions_of, declared_in}
use Rattle.vx_smt_meaning.specs.Replies.{is_word_item, is_refusal, answer_of, is_given}
use Rattle.vx_smt_meaning.specs.declared.reply.Reply.{Reply}

-- the command is answered by `success`
abbrev pub is_plain : Command → Bool
is_plain CheckSat = false
is_plain GetProof = false
is_plain c = true

abbrev pub ArePlain : List Command → Type 0
ArePlain [] = Unit {0}
ArePlain (c ∷ cs) = (is_plain c ≡ true) × ArePlain cs

-- the replies that are lawful to a command
abbrev pub is_lawful_to : Command → List Token → Bool
is_lawful_to CheckSat item = is_given (answer_of item)
is_lawful_to GetProof item = not (is_refusal item)
is_lawful_to c item = is_word_item (codes "success") item

-- Each command has a lawful reply, in order.
abbrev pub Answers : List Command → List (List Token) → Type 0
Answers [] [] = Unit {0}
Answers [] (item ∷ items) = ⊥
Answers (c ∷ cs) [] = ⊥
Answers (c ∷ cs) (item ∷ items) = (is_lawful_to c item ≡ true) × Answers cs items

-- a check: what is declared and asserted on the live levels, and the reply
pub record Check : Type 0 where
  pub symbols : List Declared
  pub assertions : List Term
  pub reply : Option Reply

abbrev pub check_at : List Level → List Token → Check
check_at levels item = record { symbols = declared_in levels; assertions = assertions_of levels; reply = answer_of item }

abbrev pub checks_in : Command → List Level → List Token → List Check
checks_in CheckSat levels item = check_at levels item ∷ []
checks_in c levels item = []

-- the checks among commands that these items answer, in order
abbrev pub checks_told : List Level → List Command → List (List Token) → List Check
checks_told levels [] items = []
checks_told levels (c ∷ cs) [] = []
checks_told levels (c ∷ cs) (item ∷ items) = checks_in c levels item ++ checks_told (stack_after c levels) cs items
