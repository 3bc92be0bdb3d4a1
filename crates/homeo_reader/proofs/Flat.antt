-- Reading, and then going on with what was read: a flat chain of steps.
use Rattle.std.proofs.Common.{◌≡◌, Bool, true, false, List, refl, ◌∙◌, sym}
use Rattle.std.specs.Prelude.{Ok, Err, if◌then◌else◌}
use Rattle.homeo_syntax.specs.declared.token.Token.{Token}
use Rattle.homeo_syntax.specs.Grammar.{Grammar, token, nothing, call, seq, alt, many, part, as_value}
use Rattle.homeo_reader.specs.inner.Engine.{Reading, ◌>>=◌, Calls, exists, begins, first_is, read_token, read}

unfoldable pub read_then : {Call : Type 0} {Value : Call → Type 0} {X Y : Type 0} → Calls Call Value → Grammar Call Value X → List Token →
    (X × List Token → Reading Y) → Reading Y
read_then calls (token classes test value sample) ts k = read_token classes test value ts >>= k
read_then calls (nothing a) ts k = k (a, ts)
read_then calls (call c) ts k = calls.reads c ts >>= k
read_then calls (seq g h) ts k = read_then calls g ts (λ x. read_then calls h x.1 (λ y. k ((x.0, y.0), y.1)))
read_then calls (alt g h) ts k = if first_is (begins calls g) ts then read_then calls g ts k else (if exists calls h then read_then calls h ts k else Err ts)
read_then calls (many g) ts k = read calls (many g) ts >>= k
read_then calls (part g) ts k = read calls (part g) ts >>= k
read_then calls (as_value f g) ts k = read_then calls g ts (λ x. k (f x.0, x.1))

pub bind_assoc : {A B C : Type 0} → (r : Reading A) (f : A × List Token → Reading B) (g : B × List Token → Reading C) →
    ((r >>= f) >>= g) ≡ (r >>= λ x. (f x >>= g))
bind_assoc (Ok x) f g = refl
bind_assoc (Err e) f g = refl

pub bind_same : {A B : Type 0} → (r : Reading A) (f g : A × List Token → Reading B) → ((x : A × List Token) → f x ≡ g x) → (r >>= f) ≡ (r >>= g)
bind_same (Ok x) f g h = h x
bind_same (Err e) f g h = refl

pub bind_ok : {A : Type 0} → (r : Reading A) → (r >>= Ok) ≡ r
bind_ok (Ok x) = refl
bind_ok (Err e) = refl

bind_if : {A B : Type 0} → (b c : Bool) (x y : Reading A) (e : List Token) (k : A × List Token → Reading B) →
    ((if b then x else (if c then y else Err e)) >>= k) ≡ (if b then (x >>= k) else (if c then (y >>= k) else Err e))
bind_if true c x y e k = refl
bind_if false true x y e k = refl
bind_if false false x y e k = refl

if_same : {A : Type 0} → (b c : Bool) (x y x' y' e : A) → x ≡ x' → y ≡ y' →
    (if b then x else (if c then y else e)) ≡ (if b then x' else (if c then y' else e))
if_same true c x y x' y' e p q = p
if_same false true x y x' y' e p q = q
if_same false false x y x' y' e p q = refl

pub flat : {Call : Type 0} {Value : Call → Type 0} {X Y : Type 0} →
    (cs : Calls Call Value) (g : Grammar Call Value X) (ts : List Token) (k : X × List Token → Reading Y) → (read cs g ts >>= k) ≡ read_then cs g ts k
unfolding read read_then
flat cs (token classes test value sample) ts k = refl
flat cs (nothing a) ts k = refl
flat cs (call c) ts k = refl
flat cs (seq g h) ts k =
    bind_assoc (read cs g ts) (λ x. read cs h x.1 >>= λ y. Ok ((x.0, y.0), y.1)) k
    ∙ bind_same (read cs g ts) (λ x. (read cs h x.1 >>= λ y. Ok ((x.0, y.0), y.1)) >>= k) (λ x. read_then cs h x.1 (λ y. k ((x.0, y.0), y.1)))
    (λ x. bind_assoc (read cs h x.1) (λ y. Ok ((x.0, y.0), y.1)) k ∙ flat cs h x.1 (λ y. k ((x.0, y.0), y.1)))
    ∙ flat cs g ts (λ x. read_then cs h x.1 (λ y. k ((x.0, y.0), y.1)))
flat cs (alt g h) ts k =
    bind_if (first_is (begins cs g) ts) (exists cs h) (read cs g ts) (read cs h ts) ts k
    ∙ if_same (first_is (begins cs g) ts) (exists cs h) _ _ _ _ (Err ts) (flat cs g ts k) (flat cs h ts k)
flat cs (many g) ts k = refl
flat cs (part g) ts k = refl
flat cs (as_value f g) ts k = bind_assoc (read cs g ts) (λ x. Ok (f x.0, x.1)) k ∙ flat cs g ts (λ x. k (f x.0, x.1))

-- reading as a flat chain
pub reads : {Call : Type 0} {Value : Call → Type 0} {X : Type 0} → (cs : Calls Call Value) (g : Grammar Call Value X) (ts : List Token) →
    read cs g ts ≡ read_then cs g ts Ok
reads cs g ts = sym (bind_ok (read cs g ts)) ∙ flat cs g ts Ok

pub reads_part : {Call : Type 0} {Value : Call → Type 0} {X : Type 0} → (cs : Calls Call Value) (g : Grammar Call Value X) (ts : List Token) →
    read cs (part g) ts ≡ read_then cs g ts Ok
unfolding read
reads_part cs g ts = reads cs g ts

pub flat_part : {Call : Type 0} {Value : Call → Type 0} {X Y : Type 0} →
    (cs : Calls Call Value) (g : Grammar Call Value X) (ts : List Token) (k : X × List Token → Reading Y) → (read cs (part g) ts >>= k) ≡ read_then cs g ts k
unfolding read
flat_part cs g ts k = flat cs g ts k
