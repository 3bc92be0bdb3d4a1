use Rattle.std.proofs.Common.{◌≡◌, List, ℕ, [], ◌∷◌, ◌++◌, Bor, option_map, ap, ◌∙◌, append_assoc}
use Rattle.serde_json.proofs.FreeTexts.{text_of_value}
use Rattle.homeo_syntax.specs.SourceView.{plain_workload}
use Rattle.homeo_lines.specs.LineView.{plain_body}
use Rattle.homeo_lines.specs.Written.{line_data, line_json}
use Rattle.homeo_lines.proofs.NoFloats.{no_floats}
use Rattle.homeo_lines.proofs.writing.write_line.Goals as goal

pub returns-in_ok-push-in-Ok-clause-written : goal.returns-in_ok-push-in-Ok-clause-written
returns-in_ok-push-in-Ok-clause-written c =
    let w = plain_workload c.args.catalogue.now in
    let from = option_map (λ (s : Bor (List ℕ)). s.now) c.args.from in
    let to = option_map (λ (s : Bor (List ℕ)). s.now) c.args.to in
    let b = plain_body c.args.body.now in
    let sent = c.in-Ok.ensures.events in
    let json : c.in-Ok.text.items ≡ line_json w from to b = text_of_value (line_data w from to b) sent.0 c.in-Ok.text.items sent.1 sent.2 (no_floats w from to b) in
    let old = c.args.out.now.items in
    c.in_ok-push-in-Ok.ensures.items
    ∙ ap (λ xs. xs ++ 10 ∷ []) (c.in_ok-extend_from_slice-in-Ok.ensures.items ∙ ap (λ xs. old ++ xs) (c.as_slice.ensures.value ∙ json))
    ∙ append_assoc old (line_json w from to b) (10 ∷ [])
