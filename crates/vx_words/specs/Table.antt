-- The table of commands, as what a parse reads of it.
use Rattle.std.specs.Prelude.{List, [], ◌∷◌, Some, true, codes}
use Rattle.clap.specs.Words.{App, Rule, Shape, Text, new_app, new_rule, with_rule, with_subcommand}
use Rattle.clap.specs.declared.builder.action.ArgAction.TheVariants.{Set}

-- FILE
abbrev pub plain_rule : Text → Rule
plain_rule id = record (new_rule id) { action = Some Set }

-- `--name VALUE`
abbrev pub option_rule : Text → Rule
option_rule id = record (new_rule id) { long = Some id; action = Some Set }

-- a subcommand with these arguments
abbrev pub with_rules : App → List Rule → App
with_rules app [] = app
with_rules app (rule ∷ rules) = with_rules (with_rule app rule) rules

abbrev pub command : Text → List Rule → Shape
command name rules = (with_rules (new_app name) rules).top

abbrev pub verify_shape : Shape
verify_shape = command (codes "verify") (plain_rule (codes "file") ∷ option_rule (codes "solver") ∷ option_rule (codes "jobs") ∷ [])

-- a command that takes a file, or none
abbrev pub file_shape : Text → Shape
file_shape name = command name (plain_rule (codes "file") ∷ [])

-- how many methods to generate
abbrev pub gen_shape : Shape
gen_shape = command (codes "gen") (plain_rule (codes "methods") ∷ [])

abbrev pub work_shape : Shape
work_shape = command (codes "work") (plain_rule (codes "methods") ∷ option_rule (codes "jobs") ∷ [])

abbrev pub run_shape : Shape
run_shape = command (codes "run") (plain_rule (codes "file") ∷ plain_rule (codes "method") ∷ plain_rule (codes "seed") ∷ [])

-- the program: a command is wanted, and there is no help and no version
abbrev pub top_app : App
top_app = record (new_app (codes "vsil")) {
  top = record (new_app (codes "vsil")).top { disable_help_flag = true; disable_help_subcommand = true; disable_version_flag = true; subcommand_required = true };
}

abbrev pub file_app : App
file_app = with_subcommand (with_subcommand (with_subcommand top_app verify_shape) (file_shape (codes "check"))) (file_shape (codes "print"))

unfoldable pub vsil_app : App
vsil_app = with_subcommand (with_subcommand (with_subcommand file_app gen_shape) work_shape) run_shape
