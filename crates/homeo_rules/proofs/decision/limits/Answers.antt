use Rattle.std.proofs.Common.{◌∙◌, ap}
use Rattle.std.specs.Prelude.{slice_get}
use Rattle.homeo_rules.specs.inner.Deciding.{keep_all}
use Rattle.homeo_meaning.specs.NumberRules.{object_making}
use Rattle.homeo_rules.specs.inner.Counting.{count_all, making_of}
use Rattle.homeo_rules.specs.inner.Limited.{transaction_passing, client_passing, call_passing}
use Rattle.homeo_rules.specs.inner.Listwise.{along_all}
use Rattle.homeo_rules.specs.inner.Relations.{slot_faults_of}
use Rattle.homeo_rules.proofs.Joining.{limits-along}
use Rattle.homeo_rules.proofs.decision.limits.Goals as goal

pub returns : goal.returns
returns c =
    let one = c.check_site_count-best.ensures in
    let two = c.check_all_slots-best.ensures ∙ ap (λ b. along_all slot_faults_of b c.as_slice.result.now) one in
    let three = c.check_object_count-best.ensures ∙ ap (λ b. (count_all making_of (count_all object_making (record { count = 0; best = b }) c.as_slice-2.result.now) c.as_slice-3.result.now).best) two in
    let four = c.check_transaction_count-best.ensures ∙ ap (λ b. keep_all b (transaction_passing (slice_get c.as_slice-4.result.now 256))) three in
    let five = c.check_client_count-best.ensures ∙ ap (λ b. keep_all b (client_passing (slice_get c.as_slice-5.result.now 64))) four in
    let six = c.check_call_count-best.ensures ∙ ap (λ b. keep_all b (call_passing (slice_get c.args.calls.now 20000))) five in
    c.check_ground_count.ensures
    ∙ ap (λ b. keep_all b (call_passing (slice_get c.args.grounds.now 1024))) six
    ∙ limits-along c.args.w.now c.args.best c.as_slice.result.now c.as_slice-3.result.now c.as_slice-2.result.now c.as_slice-4.result.now c.as_slice-5.result.now c.args.calls.now c.args.grounds.now c.as_slice.ensures c.as_slice-2.ensures c.as_slice-3.ensures c.as_slice-4.ensures c.as_slice-5.ensures c.requires.sited c.requires.grounds
