-- What `clap` finds in the words of a command.
use Rattle.std.proofs.Common.{arith, get_or, ◌≡◌, ◌≢◌, ◌∙◌, ℕ, true, List, Option, Some, None, [], ◌∷◌, codes, refl, sym, ap, subst, inl, inr}
use Rattle.std.specs.Prelude.{◌⊎◌, option_map}
use Rattle.std.specs.Borrow.{Bor}
use Rattle.clap.specs.Words.{Row, Text, first_of, first_value, rows_of, subcommand_of, subcommand_name_of, subcommand_rows_of, takes}
use Rattle.clap.specs.declared.parser.matches.ArgMatches.{ArgMatches}
use Rattle.clap.specs.declared.parser.matches.Found.{Found}
use Rattle.clap.proofs.WalkLemmas.{first_value-rows}
use Rattle.homeo_words.specs.declared.command.Command.{Command}
use Rattle.homeo_words.specs.declared.command.Command.TheVariants.{Steps, Run, Tables, Treaty, Serve, Forecast, Certify, Verify, Wire, Load}
use Rattle.homeo_words.specs.inner.App.{homeo}
use Rattle.homeo_words.specs.Command.{SayLoad, SayWire, Say}
use Rattle.homeo_words.proofs.Loads.{load_words, wire_words, begins_with_digit}
use Rattle.homeo_words.proofs.Taken.{name_in, value_in, TakesWord, TakesLoad, TakesWire, steps_taken, run_taken, tables_taken, treaty_taken, serve_taken, forecast_taken, certify_taken, verify_taken, wire_taken, load_taken}

-- one word that is no `load` and no `wire`, the two words of a wire, or the three words of a load
pub record IsOneWord (words : List Text) : Type 0 where
  pub word : Text
  pub words_are : word ∷ [] ≡ words
  pub taken : TakesWord word
  pub no_load : word ≢ codes "load"
  pub no_wire : word ≢ codes "wire"

pub record IsWireWords (words : List Text) : Type 0 where
  pub number : Text
  pub words_are : wire_words number ≡ words
  pub taken : TakesWire number

pub record IsLoadWords (words : List Text) : Type 0 where
  pub number : Text
  pub calls : Text
  pub words_are : load_words number calls ≡ words
  pub taken : TakesLoad number calls

abbrev pub IsTaken : List Text → Type 0
IsTaken words = IsOneWord words ⊎ (IsWireWords words ⊎ IsLoadWords words)

taken_wire : (words : List Text) (number : ℕ) → SayWire words number → IsWireWords words
taken_wire words number said =
    let n = begins_with_digit 0 18446744073709551615 said.first number said.number_is in
    record {
      number = said.first;
      words_are = sym said.said;
      taken = subst TakesWire n.is (wire_taken n.first n.rest n.low n.high);
    }

taken_load : (words : List Text) (number calls : ℕ) → SayLoad words number calls → IsLoadWords words
taken_load words number calls said =
    let n = begins_with_digit 0 18446744073709551615 said.first number said.number_is in
    let c = begins_with_digit 1 20000 said.second calls said.calls_are in
    record {
      number = said.first;
      calls = said.second;
      words_are = sym said.said;
      taken =
          subst (λ w. TakesLoad w said.second) n.is
          (subst (λ w. TakesLoad (n.first ∷ n.rest) w) c.is (load_taken n.first c.first n.rest c.rest n.low n.high c.low c.high));
    }

pub all_taken : (words : List Text) (c : Command) → Say words c → IsTaken words
all_taken words Steps said = inl (record { word = codes "steps"; words_are = sym said; taken = steps_taken; no_load = λ e. cc; no_wire = λ e. cc })
all_taken words Run said = inl (record { word = codes "run"; words_are = sym said; taken = run_taken; no_load = λ e. cc; no_wire = λ e. cc })
all_taken words Tables said = inl (record { word = codes "tables"; words_are = sym said; taken = tables_taken; no_load = λ e. cc; no_wire = λ e. cc })
all_taken words Treaty said = inl (record { word = codes "treaty"; words_are = sym said; taken = treaty_taken; no_load = λ e. cc; no_wire = λ e. cc })
all_taken words Serve said = inl (record { word = codes "serve"; words_are = sym said; taken = serve_taken; no_load = λ e. cc; no_wire = λ e. cc })
all_taken words Forecast said = inl (record { word = codes "forecast"; words_are = sym said; taken = forecast_taken; no_load = λ e. cc; no_wire = λ e. cc })
all_taken words Certify said = inl (record { word = codes "certify"; words_are = sym said; taken = certify_taken; no_load = λ e. cc; no_wire = λ e. cc })
all_taken words Verify said = inl (record { word = codes "verify"; words_are = sym said; taken = verify_taken; no_load = λ e. cc; no_wire = λ e. cc })
all_taken words (Wire number) said = inr (inl (taken_wire words number said))
all_taken words (Load number calls) said = inr (inr (taken_load words number calls said))

pub words_taken : (words : List Text) → IsTaken words → takes homeo words ≡ true
words_taken words (inl one) = subst (λ ws. takes homeo ws ≡ true) one.words_are one.taken.taken
words_taken words (inr (inl wire)) = subst (λ ws. takes homeo ws ≡ true) wire.words_are wire.taken.0
words_taken words (inr (inr load)) = subst (λ ws. takes homeo ws ≡ true) load.words_are load.taken.0

apart : codes "wire" ≢ codes "load"
apart = λ e.
    let first : 119 ≡ 108 = ap (λ word. get_or word 0 0) e in
    omega (arith, first)

-- ---- what the matches tell
abbrev pub text_of : Bor Text → Text
text_of s = s.now

first_part : {X : Type 0} (f : X → Text × List Row) (o : Option X) → option_map (λ p. p.0) (option_map f o) ≡ option_map (λ x. (f x).0) o
first_part f None = refl
first_part f (Some x) = refl

pub name_of_rows : (m : ArgMatches) → name_in (subcommand_rows_of m) ≡ subcommand_name_of m
name_of_rows m = first_part _ _

row_value : (found : Option (Text × List Row)) (rows : List Row) (id n : Text)
    → option_map (λ p. p.1) found ≡ Some rows → value_in id found ≡ Some (Some n) → first_of id rows ≡ Some n
row_value None rows id n e f = cc
row_value (Some p) rows id n e f = cc

pub value_is : (found : Option (Text × List Row)) (f : Found) (id n : Text) (r : Option Text)
    → option_map (λ p. p.1) found ≡ Some (rows_of f) → r ≡ first_value f id → value_in id found ≡ Some (Some n) → r ≡ Some n
value_is found f id n r e g h = g ∙ first_value-rows f id ∙ row_value found (rows_of f) id n e h

-- ---- the words of a command, from the name that was found
pub some_name : (words : List Text) (found : Option (Text × List Row)) → found ≡ subcommand_of homeo words → IsTaken words → None ≡ name_in found → ⊥
some_name words found same (inl one) none =
    let e : None ≡ Some one.word = none ∙ ap name_in same ∙ ap (λ ws. name_in (subcommand_of homeo ws)) (sym one.words_are) ∙ one.taken.name in
    cc
some_name words found same (inr (inl wire)) none =
    let e : None ≡ Some (codes "wire") = none ∙ ap name_in same ∙ ap (λ ws. name_in (subcommand_of homeo ws)) (sym wire.words_are) ∙ wire.taken.1 in
    cc
some_name words found same (inr (inr load)) none =
    let e : None ≡ Some (codes "load") = none ∙ ap name_in same ∙ ap (λ ws. name_in (subcommand_of homeo ws)) (sym load.words_are) ∙ load.taken.1 in
    cc

module _ (words : List Text) (found : Option (Text × List Row)) (same : found ≡ subcommand_of homeo words) (name : Text) (named : Some name ≡ name_in found) where
  one_name : (one : IsOneWord words) → name ≡ one.word
  one_name one =
      let e : Some name ≡ Some one.word = named ∙ ap name_in same ∙ ap (λ ws. name_in (subcommand_of homeo ws)) (sym one.words_are) ∙ one.taken.name in
      cc

  same_load : (load : IsLoadWords words) → found ≡ subcommand_of homeo (load_words load.number load.calls)
  same_load load = same ∙ ap (subcommand_of homeo) (sym load.words_are)

  load_name : (load : IsLoadWords words) → name ≡ codes "load"
  load_name load =
      let e : Some name ≡ Some (codes "load") = named ∙ ap name_in (same_load load) ∙ load.taken.1 in
      cc

  same_wire : (wire : IsWireWords words) → found ≡ subcommand_of homeo (wire_words wire.number)
  same_wire wire = same ∙ ap (subcommand_of homeo) (sym wire.words_are)

  wire_name : (wire : IsWireWords words) → name ≡ codes "wire"
  wire_name wire =
      let e : Some name ≡ Some (codes "wire") = named ∙ ap name_in (same_wire wire) ∙ wire.taken.1 in
      cc

  pub plain_words : IsTaken words → name ≢ codes "load" → name ≢ codes "wire" → name ∷ [] ≡ words
  plain_words (inl one) no_load no_wire = ap (λ w. let ws : List Text = w ∷ [] in ws) (one_name one) ∙ one.words_are
  plain_words (inr (inl wire)) no_load no_wire = absurd (no_wire (wire_name wire))
  plain_words (inr (inr load)) no_load no_wire = absurd (no_load (load_name load))

  -- the words of a load, and the two values that were found
  pub record LoadFound : Type 0 where
    pub number : Text
    pub calls : Text
    pub words_are : load_words number calls ≡ words
    pub number_found : value_in (codes "NUMBER") found ≡ Some (Some number)
    pub calls_found : value_in (codes "CALLS") found ≡ Some (Some calls)

  pub load_found : IsTaken words → name ≡ codes "load" → LoadFound
  load_found (inl one) is = absurd (one.no_load (sym (one_name one) ∙ is))
  load_found (inr (inl wire)) is = absurd (apart (sym (wire_name wire) ∙ is))
  load_found (inr (inr load)) is = record {
    number = load.number;
    calls = load.calls;
    words_are = load.words_are;
    number_found = ap (value_in (codes "NUMBER")) (same_load load) ∙ load.taken.2;
    calls_found = ap (value_in (codes "CALLS")) (same_load load) ∙ load.taken.3;
  }

  -- the two values that were found, behind `load`, are the words
  pub load_said : (l : LoadFound) (n c : Text) → Some n ≡ Some l.number → Some c ≡ Some l.calls → Some (load_words n c) ≡ Some words
  load_said l n c number calls =
      let e : n ≡ l.number = cc in
      let f : c ≡ l.calls = cc in
      (λ t. Some (load_words (e t) (f t))) ∙ ap Some l.words_are

  -- the words of a wire, and the value that was found
  pub record WireFound : Type 0 where
    pub number : Text
    pub words_are : wire_words number ≡ words
    pub number_found : value_in (codes "NUMBER") found ≡ Some (Some number)

  pub wire_found : IsTaken words → name ≡ codes "wire" → WireFound
  wire_found (inl one) is = absurd (one.no_wire (sym (one_name one) ∙ is))
  wire_found (inr (inl wire)) is = record {
    number = wire.number;
    words_are = wire.words_are;
    number_found = ap (value_in (codes "NUMBER")) (same_wire wire) ∙ wire.taken.2;
  }
  wire_found (inr (inr load)) is = absurd (apart (sym is ∙ load_name load))

  pub wire_said : (l : WireFound) (n : Text) → Some n ≡ Some l.number → Some (wire_words n) ≡ Some words
  wire_said l n number =
      let e : n ≡ l.number = cc in
      (λ t. Some (wire_words (e t))) ∙ ap Some l.words_are
