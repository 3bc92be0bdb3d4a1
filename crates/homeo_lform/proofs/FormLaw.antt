-- The L form of a call does what the call does.
use Rattle.std.proofs.Common.{◌≡◌, ℕ, ◌+◌, Bool, true, false, cond, List, [], length, ◌++◌, ℤ, pos, refl, sym, ap, ◌∙◌, append-nil, arith}
use Rattle.std.proofs.lemmas.Bool.{false≢true}
use Rattle.std.specs.Ordering.{int_eq}
use Rattle.homeo_syntax.specs.declared.low.Temp.TheVariants as temp
use Rattle.homeo_syntax.specs.Low as L
use Rattle.homeo_syntax.specs.Source.{Commands}
use Rattle.homeo_meaning.specs.Aborts.{hold_abort}
use Rattle.homeo_meaning.specs.LowMeaning as M
use Rattle.homeo_meaning.specs.Schema.{Schema}
use Rattle.homeo_meaning.specs.Context.{Context, context}
use Rattle.homeo_meaning.specs.Meaning.{State, Run, does_all, settled, run}
use Rattle.homeo_meaning.specs.LForm.{forms, undo, saved_in, body_by, l_form}
use Rattle.homeo_lform.proofs.Fresh.{forms_take}
use Rattle.homeo_lform.proofs.Ends.{Told, told_low, told, flag_of}
use Rattle.homeo_lform.proofs.Forms.{forms_told}
use Rattle.homeo_lform.proofs.Written.{among, forms_written, all_stay}
use Rattle.homeo_lform.proofs.Undone.{Saved, saves_lead, saved_kept, begun, begun_sees, begun_ready, begun_saved, undo_prints, undo_down, undo_up}
use Rattle.homeo_meaning.specs.Key.{definitions}
use Rattle.homeo_meaning.specs.SameRun.{IsSameRun}

abbrev start : (ℕ → ℤ) → State
start database = record { database = database; temps = λ t. pos 0 }

flag_is_down : (e : Bool) → pos 0 ≡ flag_of e → e ≡ false
flag_is_down true e = absurd (false≢true (ap (λ z. int_eq z (pos 1)) e))
flag_is_down false e = refl

-- a body that can't end its call
plain_law : (w : Context) (body : Commands) (database : ℕ → ℤ) → hold_abort body ≡ false
    → IsSameRun (M.exec (body_by false w body) (M.whole database)) (settled database (does_all w body (start database)))
unfolding definitions
plain_law w body database none =
    let s = M.whole database in
    let d = does_all w body (start database) in
    let e = forms_told false w false body 0 s (λ up. up) (λ up. sym none ∙ up) (record { room = omega arith; down = refl }) in
    let on : d.ended ≡ false = flag_is_down d.ended (ap (λ (t : Told). t.flag) e) in
    record {
      prints = ap (λ (t : Told). t.prints) e;
      database = λ n. ap (λ (t : Told). t.state.database n) e ∙ sym (ap (λ v. (cond v database d.state.database) n) on);
    }

-- one that can
undoing_law : (w : Context) (body : Commands) (database : ℕ → ℤ) → hold_abort body ≡ true
    → IsSameRun (M.exec (body_by true w body) (M.whole database)) (settled database (does_all w body (start database)))
unfolding definitions
undoing_law w body database some =
    record {
      prints = ap (λ (r : M.Run). r.prints) leads
          ∙ ap (λ ps. r.prints ++ (ps ++ [])) (undo_prints saved r.state)
          ∙ append-nil r.prints
          ∙ ap (λ (t : Told). t.prints) same;
      database = λ k. ap (λ (q : M.Run). q.state (M.BaseAt k)) leads ∙ by_case k d.ended refl;
    }
  where
    saved : List ℕ
    saved = saved_in w body

    n : ℕ
    n = 1 + length saved

    commands : L.Commands
    commands = (forms w false body n).commands

    s : M.State
    s = begun saved database

    r : M.Run
    r = M.exec_all commands s

    d : Run
    d = does_all w body (start database)

    leads : M.exec (body_by true w body) (M.whole database) ≡ M.after_prints r.prints (M.after_prints (M.exec (undo saved) r.state).prints (record { state = (M.exec (undo saved) r.state).state; prints = [] }))
    leads = saves_lead 1 saved _ (M.put (M.whole database) (M.TempAt (temp.Fresh 0)) (pos 0))

    same : told_low true r ≡ told d
    same =
        forms_told true w false body n s (λ e. refl) (λ e. refl) (begun_ready saved database)
        ∙ ap (λ t. told (does_all w body t)) (begun_sees saved database)

    kept : Saved 1 saved database r.state
    kept = saved_kept 1 n saved database s r.state (omega arith) (forms_take true w false body n s (λ e. refl)).keeps (begun_saved saved database)

    unwritten : (k : ℕ) → among k saved ≡ false → r.state (M.BaseAt k) ≡ database k
    unwritten k h =
        (all_stay commands k [] (ap (among k) (forms_written w false body n [] ∙ sym (forms_written w false body 0 [])) ∙ h)).keeps s
        ∙ ap (λ (t : State). t.database k) (begun_sees saved database)

    by_case : (k : ℕ) (v : Bool) → d.ended ≡ v → (M.exec (undo saved) r.state).state (M.BaseAt k) ≡ (cond v database d.state.database) k
    by_case k true e = undo_up saved database r.state k (ap (λ (t : Told). t.flag) same ∙ ap flag_of e) kept (unwritten k)
    by_case k false e =
        ap (λ (q : M.Run). q.state (M.BaseAt k)) (undo_down saved r.state (ap (λ (t : Told). t.flag) same ∙ ap flag_of e))
        ∙ ap (λ (t : Told). t.state.database k) same

pub form_law : (x : Schema) (params : List ℕ) (args : List ℤ) (body : Commands) (database : ℕ → ℤ) → IsSameRun (M.exec (l_form x params args body) (M.whole database)) (run x params args body database)
unfolding definitions
form_law x params args body database = by_case (hold_abort body) refl
  where
    by_case : (v : Bool) → hold_abort body ≡ v → IsSameRun (M.exec (body_by v (context x params args) body) (M.whole database)) (run x params args body database)
    by_case true e = undoing_law (context x params args) body database e
    by_case false e = plain_law (context x params args) body database e
