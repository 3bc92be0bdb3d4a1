-- Ground calls by the transactions that are looked up.
use Rattle.std.proofs.Common.{◌≡◌, Option, Some, None, [], sym, ap, ◌∙◌}
use Rattle.std.specs.Prelude.{slice_get}
use Rattle.std.specs.Option.{option_map, option_map_or}
use Rattle.std.proofs.lemmas.Option.{slice_get-map}
use Rattle.homeo_syntax.specs.Key.{definitions as syntax_definitions}
use Rattle.homeo_syntax.specs.SourceView.{plain_transaction, plain_workload}
use Rattle.homeo_syntax.specs.declared.workload.Transaction.{Transaction}
use Rattle.homeo_syntax.specs.declared.workload.Workload.{Workload}
use Rattle.homeo_meaning.specs.Ground.{Ground}
use Rattle.homeo_print.specs.Key.{definitions}
use Rattle.homeo_print.specs.Calls.{call_text, ground_text}

pub ground_text_of : (w : Workload) (g : Ground) (o : Option Transaction) → o ≡ slice_get w.transactions.items g.transaction → ground_text (plain_workload w) g ≡ option_map_or (λ (t : Transaction). call_text (plain_workload w) t.name g.args) o []
unfolding definitions syntax_definitions
ground_text_of w g None e =
    ap (λ o. option_map_or (λ t. call_text (plain_workload w) t.name g.args) o []) (slice_get-map plain_transaction w.transactions.items g.transaction ∙ ap (option_map plain_transaction) (sym e))
ground_text_of w g (Some t) e =
    ap (λ o. option_map_or (λ t. call_text (plain_workload w) t.name g.args) o []) (slice_get-map plain_transaction w.transactions.items g.transaction ∙ ap (option_map plain_transaction) (sym e))
