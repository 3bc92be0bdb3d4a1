use Rattle.std.proofs.Common.{List, ℕ, Bor, option_map, refl}
use Rattle.std.specs.Prelude.{codes}
use Rattle.std.proofs.lemmas.Result.{on_ok_weaker}
use Rattle.serde_json.specs.Data.{string}
use Rattle.homeo_syntax.specs.SourceView.{plain_workload}
use Rattle.homeo_lines.specs.LineView.{plain_body}
use Rattle.homeo_lines.specs.Written.{line_fields}
use Rattle.homeo_lines.proofs.Sent.{field_sent, then_as, object_sent, maybe_seen}
use Rattle.homeo_lines.proofs.writing.EnvelopeSerialize.serialize.Goals as goal

pub returns : goal.returns
returns g c =
    let v = c.args.self.now in
    let w = plain_workload v.catalogue.now in
    let fs = line_fields w (option_map (λ (s : Bor (List ℕ)). s.now) v.from) (option_map (λ (s : Bor (List ℕ)). s.now) v.to) (plain_body v.body.now) in
    on_ok_weaker c.end_map.result
    (λ h. object_sent fs 3 (g.S.Serializer.written c.args.out.now) (g.S.Serializer.written c.end_map.new.self) refl c.in_ok-begin_map.ensures
    (then_as (codes "src") (maybe_seen string (λ (s : Bor (List ℕ)). s.now) v.from) c.in_ok-write_member.ensures
    (then_as (codes "dest") (maybe_seen string (λ (s : Bor (List ℕ)). s.now) v.to) c.in_ok-write_member-2.ensures
    (field_sent c.in_ok-write_member-3.ensures)))
    h)
    c.end_map.ensures
