-- UTF-8: that bytes are those of some characters, which the library tests, is that they follow Unicode's table, which the model says.
use mathlib.Core.Path.{◌≡◌, refl, sym, ap, subst, ◌∙◌}
use mathlib.Core.Bool.{Bool, true, false, cond}
use mathlib.Core.Logic.{◌⊎◌, inl, inr, ⊎_elim}
use mathlib.Core.List.{List, [], ◌∷◌, ◌++◌}
use mathlib.Core.Option.{Option, none, some}
use Prim.Native.Nat.{ℕ, zero, suc, ◌+◌, ◌-◌, ◌*◌, ◌/◌, ◌≤◌, ◌<◌}
use native.Mathlib.Omega.{arith}
use lib.Dec.{ltb}
use lib.ListN.{length, length-append}
use lib.Utf8.{scalar, scalars, encode, encodes, scalar_cases, next}
use Rattle.std.specs.Bool.{MatchBool}
use Rattle.std.specs.Str.{IsUtf8}
use Rattle.std.specs.Str.Lossy.{second_byte_min, second_byte_max}
use Rattle.std.proofs.lemmas.Bool.{cases_lt}
use Rattle.std.proofs.lemmas.Bool.Decides.{nat_tests}
use Rattle.std.proofs.lemmas.Str.{IsUtf8-nil, IsUtf8-append, IsUtf8-encode}
use Rattle.model.specs.Choice.{given}
use Rattle.model.specs.Number.{Bytes}
use Rattle.model.specs.Text.{Range, within, to, any-tail, well_formed, following, text_after, is_text}

-- 1. The table by its first bytes

abbrev second : ℕ → Range
second b = to (second_byte_min b) (second_byte_max b)

abbrev led : ℕ → Option (List Range)
led b =
    cond (ltb b 0x80) (some [])
    (cond (ltb b 0xc2) none
    (cond (ltb b 0xe0) (some (any-tail ∷ []))
    (cond (ltb b 0xf0) (some (second b ∷ any-tail ∷ []))
    (cond (ltb b 0xf5) (some (second b ∷ any-tail ∷ any-tail ∷ [])) none))))

following_led : (b : ℕ) → following well_formed b ≡ led b
unfolding following well_formed
following_led b = grind (arith, nat_tests)

-- the bytes stand in the ranges, one in each
abbrev Fit : List Range → Bytes → Type 0
Fit [] [] = Unit {0}
Fit [] (b ∷ s) = ⊥
Fit (r ∷ rs) [] = ⊥
Fit (r ∷ rs) (b ∷ s) = (within r b ≡ true) × Fit rs s

-- from what a first byte leads to its own range
led_one : (b : ℕ) → led b ≡ some [] → b < 0x80
led_one b e = grind (arith, nat_tests)

led_two : (b : ℕ) (r : Range) → led b ≡ some (r ∷ []) → (0xc2 ≤ b) × (b < 0xe0) × (r ≡ any-tail)
led_two b r e = grind (arith, nat_tests)

led_three : (b : ℕ) (r t : Range) → led b ≡ some (r ∷ t ∷ []) → (0xe0 ≤ b) × (b < 0xf0) × (r ≡ second b) × (t ≡ any-tail)
led_three b r t e = grind (arith, nat_tests)

led_four : (b : ℕ) (r t u : Range) → led b ≡ some (r ∷ t ∷ u ∷ []) → (0xf0 ≤ b) × (b < 0xf5) × (r ≡ second b) × (t ≡ any-tail) × (u ≡ any-tail)
led_four b r t u e = grind (arith, nat_tests)

led_long : (b : ℕ) (r t u v : Range) (rs : List Range) → led b ≡ some (r ∷ t ∷ u ∷ v ∷ rs) → ⊥
led_long b r t u v rs e = grind (arith, nat_tests)

-- and back
led_single : (b : ℕ) → b < 0x80 → led b ≡ some []
led_single b h = grind (arith, nat_tests)

led_double : (b : ℕ) → 0xc2 ≤ b → b < 0xe0 → led b ≡ some (any-tail ∷ [])
led_double b h k = grind (arith, nat_tests)

led_triple : (b : ℕ) → 0xe0 ≤ b → b < 0xf0 → led b ≡ some (second b ∷ any-tail ∷ [])
led_triple b h k = grind (arith, nat_tests)

led_quadruple : (b : ℕ) → 0xf0 ≤ b → b < 0xf5 → led b ≡ some (second b ∷ any-tail ∷ any-tail ∷ [])
led_quadruple b h k = grind (arith, nat_tests)

-- 2. A character's number and its bytes

abbrev Scalar : ℕ → Type 0
Scalar c = (c < 0xd800) ⊎ ((0xe000 ≤ c) × (c < 0x110000))

is_scalar : (c : ℕ) → Scalar c → scalar c ≡ true
is_scalar c h = grind (arith, nat_tests)

below : (c : ℕ) → Scalar c → c < 0x110000
below c (inl h) = omega arith
below c (inr h) = h.1

one : (c : ℕ) → c < 0x80 → encode c ≡ c ∷ []
unfolding encode
one c h = grind (arith, nat_tests)

two : (c : ℕ) → 0x80 ≤ c → c < 0x800 → encode c ≡ (192 + c / 64) ∷ next c ∷ []
unfolding encode
two c l h = grind (arith, nat_tests)

three : (c : ℕ) → 0x800 ≤ c → c < 0x10000 → encode c ≡ (224 + c / 4096) ∷ next (c / 64) ∷ next c ∷ []
unfolding encode
three c l h = grind (arith, nat_tests)

four : (c : ℕ) → 0x10000 ≤ c → encode c ≡ (240 + c / 262144) ∷ next (c / 4096) ∷ next (c / 64) ∷ next c ∷ []
unfolding encode
four c l = grind (arith, nat_tests)

-- 3. Bytes that a first one leads to are a character

abbrev IsChar : Bytes → Type 0
IsChar s = (c : ℕ) × (scalar c ≡ true) × (encode c ≡ s)

tail_bounds : (y : ℕ) → within any-tail y ≡ true → (128 ≤ y) × (y < 192)
tail_bounds y h = grind (arith, nat_tests)

-- the second byte of three, and of four
second_of_three : (b y : ℕ) → within (second b) y ≡ true → (0xe0 ≤ b) × (b < 0xf0)
    → (128 ≤ y) × (y < 192) × (32 ≤ (b - 224) * 64 + (y - 128)) × (((b - 224) * 64 + (y - 128) < 864) ⊎ (896 ≤ (b - 224) * 64 + (y - 128)))
second_of_three b y h k = grind (arith, nat_tests)

second_of_four : (b y : ℕ) → within (second b) y ≡ true → (0xf0 ≤ b) × (b < 0xf5)
    → (128 ≤ y) × (y < 192) × (16 ≤ (b - 240) * 64 + (y - 128)) × ((b - 240) * 64 + (y - 128) < 272)
second_of_four b y h k = grind (arith, nat_tests)

char_two : (b y : ℕ) → (0xc2 ≤ b) × (b < 0xe0) → (128 ≤ y) × (y < 192) → IsChar (b ∷ y ∷ [])
char_two b y h k =
    let c = (b - 192) * 64 + (y - 128) in
    let p : 192 + c / 64 ≡ b = omega arith in
    let q : next c ≡ y = omega arith in
    (c, is_scalar c (inl (omega arith)), two c (omega arith) (omega arith) ∙ (λ i. p i ∷ q i ∷ []))

char_three : (b y z : ℕ) → (0xe0 ≤ b) × (b < 0xf0) → within (second b) y ≡ true → (128 ≤ z) × (z < 192) → IsChar (b ∷ y ∷ z ∷ [])
char_three b y z h k m =
    let g = second_of_three b y k h in
    let c = (b - 224) * 4096 + (y - 128) * 64 + (z - 128) in
    let p : 224 + c / 4096 ≡ b = omega arith in
    let q : next (c / 64) ≡ y = omega arith in
    let r : next c ≡ z = omega arith in
    let s : Scalar c = ⊎_elim (λ l. inl (omega arith)) (λ l. inr (omega arith, omega arith)) g.3 in
    (c, is_scalar c s, three c (omega arith) (omega arith) ∙ (λ i. p i ∷ q i ∷ r i ∷ []))

char_four : (b y z w : ℕ) → (0xf0 ≤ b) × (b < 0xf5) → within (second b) y ≡ true → (128 ≤ z) × (z < 192) → (128 ≤ w) × (w < 192) → IsChar (b ∷ y ∷ z ∷ w ∷ [])
char_four b y z w h k m n =
    let g = second_of_four b y k h in
    let c = (b - 240) * 262144 + (y - 128) * 4096 + (z - 128) * 64 + (w - 128) in
    let p : 240 + c / 262144 ≡ b = omega arith in
    let q : next (c / 4096) ≡ y = omega arith in
    let e : c / 64 ≡ (b - 240) * 4096 + (y - 128) * 64 + (z - 128) = omega arith in
    let r : next (c / 64) ≡ z = rw e (omega arith) in
    let t : next c ≡ w = omega arith in
    (c, is_scalar c (inr (omega arith, omega arith)), four c (omega arith) ∙ (λ i. p i ∷ q i ∷ r i ∷ t i ∷ []))

row_char : (b : ℕ) (rs : List Range) (s : Bytes) → led b ≡ some rs → Fit rs s → IsChar (b ∷ s)
row_char b [] [] e f = let h = led_one b e in (b, is_scalar b (inl (omega arith)), one b h)
row_char b [] (y ∷ s) e f = absurd f
row_char b (r ∷ rs) [] e f = absurd f
row_char b (r ∷ []) (y ∷ []) e f =
    let h = led_two b r e in
    char_two b y (h.0, h.1) (tail_bounds y (rw h.2 at f.0))
row_char b (r ∷ []) (y ∷ z ∷ s) e f = absurd f.1
row_char b (r ∷ t ∷ rs) (y ∷ []) e f = absurd f.1
row_char b (r ∷ t ∷ []) (y ∷ z ∷ []) e f =
    let h = led_three b r t e in
    char_three b y z (h.0, h.1) (rw h.2 at f.0) (tail_bounds z (rw h.3 at f.1.0))
row_char b (r ∷ t ∷ []) (y ∷ z ∷ w ∷ s) e f = absurd f.1.1
row_char b (r ∷ t ∷ u ∷ rs) (y ∷ z ∷ []) e f = absurd f.1.1
row_char b (r ∷ t ∷ u ∷ []) (y ∷ z ∷ w ∷ []) e f =
    let h = led_four b r t u e in
    char_four b y z w (h.0, h.1) (rw h.2 at f.0) (tail_bounds z (rw h.3 at f.1.0)) (tail_bounds w (rw h.4 at f.1.1.0))
row_char b (r ∷ t ∷ u ∷ []) (y ∷ z ∷ w ∷ x ∷ s) e f = absurd f.1.1.1
row_char b (r ∷ t ∷ u ∷ v ∷ rs) (y ∷ z ∷ w ∷ s) e f = absurd (led_long b r t u v rs e)

-- 4. What follows the table is UTF-8

-- the bytes that some ranges want, and a text behind them
record Split (rs : List Range) (s : Bytes) : Type 0 where
  front : Bytes
  rest : Bytes
  whole : s ≡ front ++ rest
  fit : Fit rs front
  text : is_text rest ≡ true

split-more : (r : Range) (rs : List Range) (b : ℕ) (s : Bytes) → within r b ≡ true → Split rs s → Split (r ∷ rs) (b ∷ s)
split-more r rs b s h d = record { front = b ∷ d.front; rest = d.rest; whole = ap (λ t. b ∷ t) d.whole; fit = (h, d.fit); text = d.text }

split : (rs : List Range) (s : Bytes) → text_after rs s ≡ true → Split rs s
unfolding text_after
split [] s h = record { front = []; rest = s; whole = refl; fit = tt; text = h }
split (r ∷ rs) [] h = absurd (grind arith)
split (r ∷ rs) (b ∷ s) h = split-more r rs b s (grind arith) (split rs s (grind arith))

-- a character, and a text behind it
record Begun (s : Bytes) : Type 0 where
  front : Bytes
  rest : Bytes
  whole : s ≡ front ++ rest
  some : 0 < length front
  char : IsUtf8 front
  text : is_text rest ≡ true

begun-by : (b : ℕ) (rs : List Range) (s : Bytes) → led b ≡ some rs → Split rs s → Begun (b ∷ s)
begun-by b rs s e d =
    let c = row_char b rs d.front e d.fit in
    record { front = b ∷ d.front; rest = d.rest; whole = ap (λ t. b ∷ t) d.whole; some = omega arith; char = subst IsUtf8 c.2 (IsUtf8-encode c.0 c.1); text = d.text }

begun : (b : ℕ) (s : Bytes) → is_text (b ∷ s) ≡ true → Begun (b ∷ s)
unfolding text_after
begun b s h = go (led b) refl (rw following_led at h)
  where
    go : (o : Option (List Range)) → led b ≡ o → given o false (λ rs. text_after rs s) ≡ true → Begun (b ∷ s)
    go none e k = absurd (grind arith)
    go (some rs) e k = begun-by b rs s e (split rs s k)

text_utf8 : (n : ℕ) (s : Bytes) → length s ≤ n → is_text s ≡ true → IsUtf8 s
text_utf8 n [] l h = IsUtf8-nil
text_utf8 zero (b ∷ s) l h = absurd (omega arith)
text_utf8 (suc n) (b ∷ s) l h =
    let d = begun b s h in
    let e : length (b ∷ s) ≡ length d.front + length d.rest = ap length d.whole ∙ length-append d.front d.rest in
    let m : length d.rest ≤ n = omega (arith, d.some) in
    subst IsUtf8 (sym d.whole) (IsUtf8-append d.front d.rest d.char (text_utf8 n d.rest m d.text))

-- 5. UTF-8 follows the table

fit_after : (rs : List Range) (front rest : Bytes) → Fit rs front → text_after rs (front ++ rest) ≡ is_text rest
unfolding text_after
fit_after [] [] rest f = refl
fit_after [] (b ∷ s) rest f = absurd f
fit_after (r ∷ rs) [] rest f = absurd f
fit_after (r ∷ rs) (b ∷ s) rest f = rw f.0 (fit_after rs s rest f.1)

row_after : (b : ℕ) (rs : List Range) (front rest : Bytes) → led b ≡ some rs → Fit rs front → is_text (b ∷ front ++ rest) ≡ is_text rest
unfolding text_after
row_after b rs front rest e f = rw (following_led b, e) (fit_after rs front rest f)

tail_within : (c : ℕ) → within any-tail (next c) ≡ true
tail_within c = grind (arith, nat_tests)

second_within : (b y : ℕ) → 128 ≤ y → y < 192 → (b ≡ 0xe0 → 0xa0 ≤ y) → (b ≡ 0xed → y < 0xa0) → (b ≡ 0xf0 → 0x90 ≤ y) → (b ≡ 0xf4 → y < 0x90) → within (second b) y ≡ true
second_within b y h k l m n o = grind (arith, nat_tests)

after_two : (c : ℕ) (rest : Bytes) → 0x80 ≤ c → c < 0x800 → is_text ((192 + c / 64) ∷ next c ∷ rest) ≡ is_text rest
after_two c rest h k = row_after (192 + c / 64) (any-tail ∷ []) (next c ∷ []) rest (led_double (192 + c / 64) (omega arith) (omega arith)) (tail_within c, tt)

after_three : (c : ℕ) (rest : Bytes) → 0x800 ≤ c → c < 0x10000 → Scalar c → is_text ((224 + c / 4096) ∷ next (c / 64) ∷ next c ∷ rest) ≡ is_text rest
after_three c rest h k s =
    let b = 224 + c / 4096 in
    let y = next (c / 64) in
    let high : b ≡ 0xed → y < 0xa0 = λ e. ⊎_elim (λ l. omega arith) (λ l. absurd (omega arith)) s in
    let w = second_within b y (omega arith) (omega arith) (λ e. omega arith) high (λ e. absurd (omega arith)) (λ e. absurd (omega arith)) in
    row_after b (second b ∷ any-tail ∷ []) (y ∷ next c ∷ []) rest (led_triple b (omega arith) (omega arith)) (w, (tail_within c, tt))

after_four : (c : ℕ) (rest : Bytes) → 0x10000 ≤ c → c < 0x110000
    → is_text ((240 + c / 262144) ∷ next (c / 4096) ∷ next (c / 64) ∷ next c ∷ rest) ≡ is_text rest
after_four c rest h k =
    let b = 240 + c / 262144 in
    let y = next (c / 4096) in
    let w = second_within b y (omega arith) (omega arith) (λ e. absurd (omega arith)) (λ e. absurd (omega arith)) (λ e. omega arith) (λ e. omega arith) in
    row_after b (second b ∷ any-tail ∷ any-tail ∷ []) (y ∷ next (c / 64) ∷ next c ∷ []) rest (led_quadruple b (omega arith) (omega arith))
    (w, (tail_within (c / 64), (tail_within c, tt)))

char_after : (c : ℕ) (rest : Bytes) → Scalar c → is_text (encode c ++ rest) ≡ is_text rest
char_after c rest s = go (cases_lt c 0x80) (cases_lt c 0x800) (cases_lt c 0x10000)
  where
    go : (c < 0x80) ⊎ (0x80 ≤ c) → (c < 0x800) ⊎ (0x800 ≤ c) → (c < 0x10000) ⊎ (0x10000 ≤ c) → is_text (encode c ++ rest) ≡ is_text rest
    go (inl h) k l = ap (λ t. is_text (t ++ rest)) (one c h) ∙ row_after c [] [] rest (led_single c h) tt
    go (inr h) (inl k) l = ap (λ t. is_text (t ++ rest)) (two c h k) ∙ after_two c rest h k
    go (inr h) (inr k) (inl l) = ap (λ t. is_text (t ++ rest)) (three c k l) ∙ after_three c rest k l s
    go (inr h) (inr k) (inr l) = ap (λ t. is_text (t ++ rest)) (four c l) ∙ after_four c rest l (below c s)

utf8_text : (cs : List ℕ) → scalars cs ≡ true → is_text (encodes cs) ≡ true
unfolding text_after
utf8_text [] h = refl
utf8_text (c ∷ cs) h = char_after c (encodes cs) (scalar_cases c (grind arith)) ∙ utf8_text cs (grind arith)

-- 6. The test

pub tested : (s : Bytes) (b : Bool) → MatchBool b (IsUtf8 s) (¬ (IsUtf8 s)) → b ≡ is_text s
tested s true u = sym (subst (λ t. is_text t ≡ true) u.1.1 (utf8_text u.0 u.1.0))
tested s false n = go (is_text s) refl
  where
    go : (t : Bool) → is_text s ≡ t → false ≡ t
    go true e = absurd (n (text_utf8 (length s) s (omega arith) e))
    go false e = refl
