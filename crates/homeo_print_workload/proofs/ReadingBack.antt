-- What a workload of a text is printed as reads as that workload, apart from offsets.
use Rattle.std.proofs.Common.{◌≡◌, ℕ, List, map, sym, ap, subst, ◌∙◌}
use Rattle.homeo_syntax.specs.declared.token.Token.{Token}
use Rattle.homeo_syntax.specs.declared.token.Version.{Version}
use Rattle.homeo_syntax.specs.Versions.{version_number}
use Rattle.homeo_syntax.specs.Source as s
use Rattle.homeo_syntax.specs.Grammar.{Spells, Means}
use Rattle.homeo_syntax.specs.Rules.{rule, limit, workload, IsWorkload}
use Rattle.homeo_syntax.specs.Tokens.{version_of, names_of, tokens_in, kind_in}
use Rattle.homeo_syntax.specs.Reads.{Reads}
use Rattle.homeo_syntax.specs.WellFormed.{Each}
use Rattle.homeo_print_workload.specs.Key.{definitions}
use Rattle.homeo_print_workload.specs.TokensOf.{workload_kinds}
use Rattle.homeo_print_workload.specs.Printed.{IsPrintable, ScansAs, CanStand, lexeme_in}
use Rattle.homeo_print_workload.specs.Offsets.{without_offsets}
use Rattle.homeo_print_workload.specs.ReadingBack.{ReadsBack}
use Rattle.homeo_print_workload.proofs.Atoms.{kinds_of}
use Rattle.homeo_print_workload.proofs.Claims.{Claim}
use Rattle.homeo_print_workload.proofs.DeclarationsBack.{back_workload}
use Rattle.homeo_syntax.proofs.Spelling.{scanned_spelled}
use Rattle.homeo_print_workload.proofs.LaterMarks.{HasMark, marks_stand}
use Rattle.homeo_print_workload.proofs.Scanning.{version_by, head_lexemes}
use Rattle.homeo_print_workload.proofs.Numbered.{Stands, mark_stands, text_stands, each_natural, each_atom, each_of_atoms, each_can, kinds_again, kinds_are, names_again}

-- What is known of a workload of a text.
record Known (w : s.Workload) (v : Version) (names : List (List ℕ)) (ts : List Token) : Type 0 where
  names_are : w.names ≡ names
  version_is : w.version ≡ version_number v
  claim : Claim (Means rule limit) (workload v names) without_offsets w (workload_kinds w) ts
  stands : Each (Stands v names) (workload_kinds w)

known : (text : List ℕ) (w : s.Workload) → (r : Reads text w) → Known w (version_of r.scanned) (names_of r.scanned) (tokens_in (names_of r.scanned) r.scanned)
unfolding IsWorkload
known text w r =
    let v = version_of r.scanned in
    let names = names_of r.scanned in
    let ts = tokens_in names r.scanned in
    let all = text_stands v r.scanned (scanned_spelled text r.scanned r.lexemes) in
    let c = (back_workload limit v names).of w ts r.spells (each_natural v names ts all) in
    record {
      names_are = ap (λ (u : s.Workload). u.names) r.spells.2;
      version_is = ap (λ (u : s.Workload). u.version) r.spells.2;
      claim = c;
      stands = each_of_atoms (Stands v names) (HasMark v) (workload_kinds w) (mark_stands v names)
          (marks_stand v names (workload_kinds w) (λ us i. let x = c.again us i in (x.value, x.spells)))
          (subst (Each (Stands v names)) (sym c.same_atoms) (each_atom (Stands v names) (kinds_of ts) all));
    }

-- Each workload of a text can be printed.
pub printable : (text : List ℕ) (w : s.Workload) → Reads text w → IsPrintable w
printable text w r =
    let k = known text w r in
    let v = version_of r.scanned in
    record {
      form = v;
      version = k.version_is;
      stands = subst (λ (names : List (List ℕ)). Each (CanStand v names) (workload_kinds w)) (sym k.names_are) (each_can v (names_of r.scanned) (workload_kinds w) k.stands);
    }

-- What it is printed as reads as it, apart from offsets.
pub reads_back : (text out : List ℕ) (w : s.Workload) → Reads text w → ScansAs w.names (workload_kinds w) out → ReadsBack out w
unfolding definitions IsWorkload
reads_back text out w r o =
    let k = known text w r in
    let v = version_of r.scanned in
    let names = names_of r.scanned in
    let lexemes : map (λ t. t.lexeme) o.scanned ≡ map (lexeme_in names) (workload_kinds w) = o.same ∙ ap (λ (x : List (List ℕ)). map (lexeme_in x) (workload_kinds w)) k.names_are in
    let same : names_of o.scanned ≡ names = names_again r.scanned o.scanned (workload_kinds w) k.claim.same_atoms lexemes in
    let version : version_of o.scanned ≡ v = version_by v o.scanned _ (lexemes ∙ head_lexemes names w v k.version_is) in
    let kinds : kinds_of (tokens_in names o.scanned) ≡ workload_kinds w = kinds_are names o.scanned ∙ ap (map (kind_in names)) lexemes ∙ kinds_again v names (workload_kinds w) k.stands in
    let again = k.claim.again (tokens_in names o.scanned) kinds in
    record {
      read = again.value;
      reads = record {
        clean = o.clean;
        scanned = o.scanned;
        lexemes = o.lexemes;
        spells = subst (λ (u : Version). Spells (Means rule limit) (workload u (names_of o.scanned)) again.value (tokens_in (names_of o.scanned) o.scanned)) (sym version)
            (subst (λ (x : List (List ℕ)). Spells (Means rule limit) (workload v x) again.value (tokens_in x o.scanned)) (sym same) again.spells);
      };
      same = again.same;
    }
