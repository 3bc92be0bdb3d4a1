-- What a call's body leaves.
use Rattle.std.specs.Prelude.{ℤ, List}
use Rattle.homeo_syntax.specs.Source.{Commands}
use Rattle.homeo_context.specs.Contexts.{call_context}
use Rattle.homeo_context.specs.declared.arguments.Argument.{Argument}
use Rattle.homeo_meaning.specs.Context.{Context}
use Rattle.homeo_meaning.specs.Declarations.{Declarations}
use Rattle.homeo_meaning.specs.Key.{definitions}
use Rattle.homeo_meaning.specs.Meaning.{Run, does_all, settled}
use Rattle.homeo_meaning.specs.Serial.{values_of, start}

abbrev pub run_in : Context → Commands → List ℤ → Run
unfolding definitions
run_in x body database = settled (values_of database) (does_all x body (start database))

abbrev pub body_run : Declarations → List Argument → Commands → List ℤ → Run
unfolding definitions
body_run d given body database = run_in (call_context d given) body database
