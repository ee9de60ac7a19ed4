-- When an application is measured, and how. Source of the rules: the Silicon thesis.
use Rattle.std.specs.Prelude.{◌||◌, not, Option, Some, None, if◌then◌else◌}
use Rattle.vx_ast.specs.Syntax.{Name, Program, Measure}
use Rattle.vx_resolved.specs.Resolved.{function}
use Rattle.vx_rules.specs.Groups.{is_in_group}
use Rattle.vx_rules.specs.Members.{rules}
use Rattle.vx_rules.specs.Rules.{Giving, Going, decreasing}
use Rattle.vx_rules.specs.States.{Own, State, bind, is_quiet}
use Rattle.vx_stack.specs.declared.waiting.Applied.{Applied}
use Rattle.vx_stack.specs.Stack.{told}
use Rattle.vx_stack.specs.Values.{values}

-- what an application of f is measured against
abbrev pub asked_by : Program → Name → State → Option Own → Option Own
asked_by p f s None = None
asked_by p f s (Some own) = if is_quiet s || not (is_in_group p own.function f) then None else Some own

abbrev pub asked : Program → Name → State → Option Own
asked p f s = asked_by p f s s.own

-- an application whose precondition was taken has a lesser measure than this
abbrev pub decreasing_by : Program → Own → Applied → Option Measure → Giving → Going
decreasing_by p own x m on s =
    let a = x.application.value in
    decreasing p (rules p) own m (bind (function a.function.value).parameters (values a.arguments.value)) a.place s (told p x on)
