-- Where following stops: at the first of more faults, or at one behind none.
use Rattle.std.proofs.Common.{◌≡◌, List, [], ◌++◌, Result, Ok, Err, IsErrAnd, sym, ap, ◌∙◌, subst, append-nil}
use Rattle.std.specs.Prelude.{OnOk}
use Rattle.homeo_certificate.specs.declared.fault.Fault.{Fault}
use Rattle.homeo_verify.specs.declared.stop.Stop.{Stop}
use Rattle.homeo_verify.specs.declared.stop.Stop.TheVariants as stop
use Rattle.homeo_verify.specs.inner.Stops.{StopsAt, Finds}

pub stop_sooner : (fs gs : List Fault) (e : Stop) → StopsAt fs e → StopsAt (fs ++ gs) e
stop_sooner fs gs (stop.Fault f) h = (h.0 ++ gs, ap (λ l. l ++ gs) h.1)
stop_sooner fs gs stop.Memory h = tt

pub stop_later : (fs gs : List Fault) (e : Stop) → fs ≡ [] → StopsAt gs e → StopsAt (fs ++ gs) e
stop_later fs gs e q h = subst (λ l. StopsAt (l ++ gs) e) (sym q) h

pub none_in_both : (fs gs : List Fault) → fs ≡ [] → gs ≡ [] → fs ++ gs ≡ []
none_in_both fs gs p q = ap (λ l. l ++ gs) p ∙ q

pub finds_later : {A : Type 0} (fs gs : List Fault) (r : Result A Stop) → fs ≡ [] → Finds gs r → Finds (fs ++ gs) r
finds_later fs gs r q h = subst (λ l. Finds (l ++ gs) r) (sym q) h

pub finds_one : {A : Type 0} (fs : List Fault) (r : Result A Stop) → Finds fs r → Finds (fs ++ []) r
finds_one fs r h = subst (λ l. Finds l r) (sym (append-nil fs)) h

-- what stopped is passed on
pub stop_with : {A : Type 0} (fs : List Fault) (r : Result A Stop) (e : Stop) → IsErrAnd r (λ x. x ≡ e) → StopsAt fs e → Finds fs r
stop_with fs (Ok a) e h s = absurd h
stop_with fs (Err x) e h s = subst (StopsAt fs) (sym h) s

-- what is true of the value in any case
pub on_ok_always : {A E P : Type 0} (r : Result A E) → P → OnOk r P
on_ok_always (Ok a) p = p
on_ok_always (Err e) p = tt

pub stops_as : (fs gs : List Fault) (e : Stop) → fs ≡ gs → StopsAt fs e → StopsAt gs e
stops_as fs gs e q h = subst (λ l. StopsAt l e) q h
