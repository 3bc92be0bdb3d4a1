-- The calls of a load: each names one of the eight transactions, with an argument from 1 to 9, at one of four sites.
use Rattle.std.proofs.Common.{◌≡◌, ℕ, ◌<◌, ◌≤◌, ◌%◌, List, [], ◌∷◌, map, flat_map, length, length-append, pos, refl, sym, ◌∙◌, arith}
use Rattle.std.specs.Prelude.{All, sum_by}
use Rattle.std.proofs.lemmas.List.{length-map}
use Rattle.std.proofs.lemmas.List.Elements.{All-nil, All-cons, All-head, All-tail, All-append}
use Rattle.std.proofs.lemmas.List.Sums.{sum_by-cons}
use Rattle.homeo_syntax.specs.Source as s
use Rattle.homeo_meaning.specs.Key.{definitions as meaning_definitions}
use Rattle.homeo_meaning.specs.Serial.{arguments}
use Rattle.homeo_meaning.specs.GlobalNames.{SitedCall, sited_calls_of, sited_calls}
use Rattle.homeo_load.specs.Key.{definitions}
use Rattle.homeo_load.specs.Additions.{Addition}
use Rattle.homeo_load.specs.Load.{load_call, load_client, load_of, eight, dealt}
use Rattle.homeo_load.proofs.DrawnAdditions.{IsAddition}
use Rattle.homeo_load.proofs.Dealt.{dealt_fit, dealt_sum, length_sum}
use Rattle.homeo_load.proofs.Forms.{sited}

pub record IsLoadCall (c : SitedCall) : Type 0 where
  pub object : ℕ
  pub number : ℕ
  pub site : ℕ
  pub object_below : object < 8
  pub least : 1 ≤ number
  pub most : number ≤ 9
  pub site_below : site < 4
  pub same : c ≡ sited object number site

-- a call at a site
abbrev at_site : ℕ → s.Call → SitedCall
unfolding meaning_definitions
at_site site call = record { name = call.name; args = arguments call; site = pos site }

sited_fit : (site : ℕ) → site < 4 → (all : List Addition) → All IsAddition all → All IsLoadCall (map (at_site site) (map load_call all))
unfolding definitions meaning_definitions
sited_fit site l [] a = All-nil IsLoadCall
sited_fit site l (x ∷ all) a =
    let here : IsAddition x = All-head IsAddition x all a in
    All-cons IsLoadCall (at_site site (load_call x)) (map (at_site site) (map load_call all))
    (record { object = x.object; number = x.number; site = site; object_below = here.object; least = here.least; most = here.most; site_below = l; same = refl })
    (sited_fit site l all (All-tail IsAddition x all a))

calls_fit : (all : List Addition) → All IsAddition all → (js : List ℕ) → All IsLoadCall (flat_map sited_calls_of (map (load_client all) js))
unfolding definitions meaning_definitions
calls_fit all a [] = All-nil IsLoadCall
calls_fit all a (j ∷ js) =
    All-append IsLoadCall (map (at_site (j % 4)) (map load_call (dealt j 0 all))) (flat_map sited_calls_of (map (load_client all) js))
    (sited_fit (j % 4) (omega arith) (dealt j 0 all) (dealt_fit j 0 all a)) (calls_fit all a js)

pub load_calls_fit : (all : List Addition) → All IsAddition all → All IsLoadCall (sited_calls (load_of all))
unfolding definitions meaning_definitions
load_calls_fit all a = calls_fit all a eight

-- ---- how many there are
calls_length : (all : List Addition) (js : List ℕ) → length (flat_map sited_calls_of (map (load_client all) js)) ≡ sum_by (λ j. sum_by (λ x. 1) (dealt j 0 all)) js
unfolding definitions meaning_definitions
calls_length all [] = refl
calls_length all (j ∷ js) =
    let mine : List s.Call = map load_call (dealt j 0 all) in
    let here : length (map (at_site (j % 4)) mine) ≡ sum_by (λ (x : Addition). 1) (dealt j 0 all) = length-map mine (at_site (j % 4)) ∙ length-map (dealt j 0 all) load_call ∙ sym (length_sum (dealt j 0 all)) in
    length-append (map (at_site (j % 4)) mine) (flat_map sited_calls_of (map (load_client all) js))
    ∙ omega (arith, here, calls_length all js, sum_by-cons (λ j. sum_by (λ (x : Addition). 1) (dealt j 0 all)) j js)

pub load_calls_length : (all : List Addition) → length (sited_calls (load_of all)) ≡ length all
unfolding definitions meaning_definitions
load_calls_length all = calls_length all eight ∙ dealt_sum (λ x. 1) 0 all ∙ length_sum all
