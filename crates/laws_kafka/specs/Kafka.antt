-- Kafka's record bytes: what is written reads back, and what is read strictly writes back.
use Rattle.std.specs.Prelude.{◌≡◌, refl, Bool, true, false, cond, ℕ, zero, suc, ◌≤◌, ◌<◌, leb, ltb, eqb, length, take, drop}
use Rattle.std.proofs.Common.{sym, ap, ap₂, ◌∙◌, subst, arith, length-append, take-append-drop, length-take-le, ltb-false, le-ltb, leb-true, leb-false, eqb-true, eq-eqb, ne_eqb, inl, inr}
use mathlib.Core.List.{List, [], ◌∷◌, ◌++◌, append_assoc}
use Rattle.std.proofs.Math.Option.{Option, none, some}
use Rattle.std.proofs.Math.Seq.{take-append_seam, drop-append_seam}
use Rattle.std.proofs.lemmas.Bool.{lt-leb}
use Rattle.model.specs.Choice.{given, unless}
use Rattle.model.specs.Number.{Bytes, AreBytes, number, bytes, span, half, is_negative}
use Rattle.model.specs.Run.{Run, item, field, value}
use Rattle.model.specs.Kind.{kind_number}
use Rattle.model.specs.Shape.{string_limit, text_fault}
use Rattle.model.specs.Text.{is_text}
use Rattle.model.specs.Record.{Rec, rec}
use Rattle.model.specs.declared.Kind.{Kind}
use Rattle.model.specs.Kafka.{Taken, bad, took, and_then, unless_wrong, varint, read_varint, text_of, read_string, read_fixed, Form, name, raw, broker, read_field, field_bytes}
use Rattle.model.specs.Kafka.{Message, messages, by_api_key, by_kind, read_fields, fields_bytes, skip_tagged, tagged, read_tagged, read_message, read_version, read_key, read_kafka, kafka_bytes}
use Rattle.laws.specs.Choice.{impossible, or_then_right, unless_true}
use Rattle.laws.specs.Numbers.{length-bytes, number_bytes_lem, bytes-number, take_are_bytes, drop_are_bytes, bytes_are_bytes}
use Rattle.laws.specs.Lists.{All, In, in_all}
use Rattle.laws_image.specs.Kinds.{is_kind}
use Rattle.laws_kafka.specs.Varints.{read_varint_lem, varint-read}

-- 1. Parts

abbrev pub Came : {A B : Type 0} → Taken A → (A → Bytes → Taken B) → B → Bytes → Type 0
Came {A} t f b rest = (a : A) × (s : Bytes) × (t ≡ took a s) × (f a s ≡ took b rest)

pub came : {A B : Type 0} (t : Taken A) (f : A → Bytes → Taken B) (b : B) (rest : Bytes) → and_then t f ≡ took b rest → Came t f b rest
came (bad n) f b rest e = impossible cc
came (took a s) f b rest e = (a, s, refl, e)

passed : {A : Type 0} (c : Bool) (n : ℕ) (t : Taken A) (a : A) (rest : Bytes) → cond c t (bad n) ≡ took a rest → (c ≡ true) × (t ≡ took a rest)
passed true n t a rest e = (refl, e)
passed false n t a rest e = impossible cc

passed_else : {A : Type 0} (c : Bool) (n : ℕ) (t : Taken A) (a : A) (rest : Bytes) → cond c (bad n) t ≡ took a rest → (c ≡ false) × (t ≡ took a rest)
passed_else true n t a rest e = impossible cc
passed_else false n t a rest e = (refl, e)

right : (n : ℕ) {A : Type 0} (a b : A) (s rest : Bytes) → unless_wrong n a s ≡ took b rest → (n ≡ 0) × (a ≡ b) × (s ≡ rest)
right zero a b s rest e = (refl, cc, cc)
right (suc n) a b s rest e = impossible cc

-- 2. Fields

abbrev pub Fits : Form → Bytes → Type 0
Fits name v = text_fault string_limit v ≡ 0
Fits (raw width) v = length v ≡ width
Fits broker v = (length v ≡ 8) × AreBytes v × (number v < half 4)

text_short : (v : Bytes) → text_fault string_limit v ≡ 0 → length v ≤ 255
text_short v h =
    leb-true (length v) string_limit (unless_true (leb (length v) string_limit) 5 (omega arith) (or_then_right (unless (is_text v) 4) (unless (leb (length v) string_limit) 5) h))

fixed_back : (v rest : Bytes) (width : ℕ) → length v ≡ width → read_fixed width (v ++ rest) ≡ took v rest
unfolding read_fixed
fixed_back v rest width h =
    rw (← h) (rw (le-ltb (length (v ++ rest)) (length v) (omega (arith, length-append v rest)), take-append_seam v rest, drop-append_seam v rest))

-- what is written reads back
field_back : (strict : Bool) (f : Form) (v rest : Bytes) → Fits f v → read_field strict f (field_bytes f v ++ rest) ≡ took v rest
unfolding read_field field_bytes read_string
field_back strict name v rest h =
    rw (
      append_assoc (varint (suc (length v))) v rest,
      read_varint_lem strict (suc (length v)) (v ++ rest) (omega (arith, text_short v h)),
      le-ltb (length (v ++ rest)) (length v) (omega (arith, length-append v rest)),
      take-append_seam v rest,
      drop-append_seam v rest,
      h,
    )
field_back strict (raw width) v rest h = fixed_back v rest width h
field_back strict broker v rest h =
    let wide : number v < span 4 = omega (arith, h.2) in
    let same : number (bytes 4 (number v)) ≡ number v = number_bytes_lem 4 (number v) wide in
    let back : bytes 8 (number v) ≡ v = ap (λ n. bytes n (number v)) (sym h.0) ∙ bytes-number v h.1 in
    rw (fixed_back (bytes 4 (number v)) rest 4 (length-bytes 4 (number v)), same, lt-leb (half 4) (number v) h.2, back)

-- what was read: it fits, the bytes after it are bytes, strictly it is what is written, and loosely it is read too
pub record FieldRead (strict : Bool) (f : Form) (s v rest : Bytes) : Type 0 where
  pub fits : Fits f v
  pub bytes_after : AreBytes rest
  pub spelt : strict ≡ true → s ≡ field_bytes f v ++ rest
  pub loosely : read_field false f s ≡ took v rest

fixed_read : (width : ℕ) (s v rest : Bytes) → read_fixed width s ≡ took v rest → (width ≤ length s) × (take width s ≡ v) × (drop width s ≡ rest)
unfolding read_fixed
fixed_read width s v rest e =
    let a = passed_else (ltb (length s) width) 2 (took (take width s) (drop width s)) v rest e in
    (ltb-false (length s) width a.0, cc a.1, cc a.1)

text_read : (n : ℕ) (t v rest : Bytes) → text_of n t ≡ took v rest
    → (n ≡ suc (length v)) × (t ≡ v ++ rest) × (text_fault string_limit v ≡ 0) × (AreBytes t → AreBytes rest)
text_read zero t v rest e = impossible cc
text_read (suc n) t v rest e =
    let a = passed_else (ltb (length t) n) 2 (unless_wrong (text_fault string_limit (take n t)) (take n t) (drop n t)) v rest e in
    let b = right (text_fault string_limit (take n t)) (take n t) v (drop n t) rest a.1 in (
      ap suc (sym (length-take-le n t (ltb-false (length t) n a.0)) ∙ ap length b.1),
      sym (take-append-drop n t) ∙ ap₂ (λ x y. x ++ y) b.1 b.2,
      ap (text_fault string_limit) (sym b.1) ∙ b.0,
      λ are. rw (← b.2) (drop_are_bytes n t are),
    )

pub field-read : (strict : Bool) (f : Form) (s v rest : Bytes) → AreBytes s → read_field strict f s ≡ took v rest → FieldRead strict f s v rest
unfolding read_field field_bytes read_string
field-read strict name s v rest are e =
    let c = came (read_varint strict s) text_of v rest e in
    let d = varint-read strict s c.0 c.1 are c.2 in
    let t = text_read c.0 c.1 v rest c.3 in
    record {
      fits = t.2;
      bytes_after = t.3 d.0;
      spelt = λ q. d.2 q ∙ ap₂ (λ n x. varint n ++ x) t.0 t.1 ∙ sym (append_assoc (varint (suc (length v))) v rest);
      loosely = rw d.3 c.3;
    }
field-read strict (raw width) s v rest are e =
    let d = fixed_read width s v rest e in
    record {
      fits = ap length (sym d.1) ∙ length-take-le width s d.0;
      bytes_after = rw (← d.2) (drop_are_bytes width s are);
      spelt = λ q. sym (take-append-drop width s) ∙ ap₂ (λ x y. x ++ y) d.1 d.2;
      loosely = e;
    }
field-read strict broker s v rest are e =
    let c = came (read_fixed 4 s) (λ w t. cond (is_negative 4 (number w)) (bad 4) (took (bytes 8 (number w)) t)) v rest e in
    let w = c.0 in
    let d = fixed_read 4 s w c.1 c.2 in
    let a = passed_else (is_negative 4 (number w)) 4 (took (bytes 8 (number w)) c.1) v rest c.3 in
    let long : length w ≡ 4 = ap length (sym d.1) ∙ length-take-le 4 s d.0 in
    let of-bytes : AreBytes w = rw (← d.1) (take_are_bytes 4 s are) in
    let low : number w < half 4 = leb-false (half 4) (number w) a.0 in
    let wide : bytes 8 (number w) ≡ v = cc a.1 in
    let after : c.1 ≡ rest = cc a.1 in
    let value : number v ≡ number w = ap number (sym wide) ∙ number_bytes_lem 8 (number w) (omega (arith, low)) in
    record {
      fits = (ap length (sym wide) ∙ length-bytes 8 (number w), rw (← wide) (bytes_are_bytes 8 (number w)), omega (arith, value, low));
      bytes_after = rw (← after, ← d.2) (drop_are_bytes 4 s are);
      spelt = λ q.
          sym (take-append-drop 4 s)
          ∙ ap₂ (λ x y. x ++ y) (d.1 ∙ sym (ap (bytes 4) value ∙ ap (λ n. bytes n (number w)) (sym long) ∙ bytes-number w of-bytes)) (d.2 ∙ after);
      loosely = e;
    }

-- 3. Messages

-- the fields that a message has of a record, then the others
unfoldable pub kept : ℕ → List Form → Run → Run → Run
kept tag [] others r = others
kept tag (f ∷ fs) others r = item tag (value tag r) (kept (suc tag) fs others r)

abbrev pub AllFit : ℕ → List Form → Run → Type 0
AllFit tag [] r = Unit {0}
AllFit tag (f ∷ fs) r = Fits f (value tag r) × AllFit (suc tag) fs r

fields_back : (strict : Bool) (tag : ℕ) (fs : List Form) (others r : Run) (rest : Bytes) → AllFit tag fs r
    → read_fields strict tag fs others (fields_bytes tag fs r ++ rest) ≡ took (kept tag fs others r) rest
unfolding read_fields fields_bytes kept
fields_back strict tag [] others r rest h = refl
fields_back strict tag (f ∷ fs) others r rest h =
    rw (
      append_assoc (field_bytes f (value tag r)) (fields_bytes (suc tag) fs r) rest,
      field_back strict f (value tag r) (fields_bytes (suc tag) fs r ++ rest) h.0,
      fields_back strict (suc tag) fs others r rest h.1,
    )

-- fields of later tags do not see an earlier one
pub value-later : (tag t : ℕ) (v : Bytes) (r : Run) → tag < t → value t (item tag v r) ≡ value t r
unfolding field
value-later tag t v r h = rw (ne_eqb tag t (λ e. absurd (omega arith)))

bytes-later : (tag t : ℕ) (fs : List Form) (v : Bytes) (r : Run) → tag < t → fields_bytes t fs (item tag v r) ≡ fields_bytes t fs r
unfolding fields_bytes
bytes-later tag t [] v r h = refl
bytes-later tag t (f ∷ fs) v r h = ap₂ (λ x y. field_bytes f x ++ y) (value-later tag t v r h) (bytes-later tag (suc t) fs v r (omega arith))

pub value-here : (tag : ℕ) (v : Bytes) (r : Run) → value tag (item tag v r) ≡ v
unfolding field
value-here tag v r = rw (eq-eqb tag tag refl)

fit_later : (tag t : ℕ) (fs : List Form) (v : Bytes) (r : Run) → tag < t → AllFit t fs r → AllFit t fs (item tag v r)
fit_later tag t [] v r h u = tt
fit_later tag t (f ∷ fs) v r h u = (subst (Fits f) (sym (value-later tag t v r h)) u.0, fit_later tag (suc t) fs v r (omega arith) u.1)

kept-later : (tag t : ℕ) (fs : List Form) (others : Run) (v : Bytes) (r : Run) → tag < t → kept t fs others (item tag v r) ≡ kept t fs others r
unfolding kept
kept-later tag t [] others v r h = refl
kept-later tag t (f ∷ fs) others v r h = ap₂ (λ x y. item t x y) (value-later tag t v r h) (kept-later tag (suc t) fs others v r (omega arith))

pub record FieldsRead (strict : Bool) (tag : ℕ) (fs : List Form) (others : Run) (s : Bytes) (r : Run) (rest : Bytes) : Type 0 where
  pub bytes_after : AreBytes rest
  pub spelt : strict ≡ true → s ≡ fields_bytes tag fs r ++ rest
  pub loosely : read_fields false tag fs others s ≡ took r rest
  pub fit : AllFit tag fs r
  pub all : r ≡ kept tag fs others r

fields_read : (strict : Bool) (tag : ℕ) (fs : List Form) (others : Run) (s : Bytes) (r : Run) (rest : Bytes) → AreBytes s
    → read_fields strict tag fs others s ≡ took r rest → FieldsRead strict tag fs others s r rest
unfolding read_fields fields_bytes kept
fields_read strict tag [] others s r rest are e =
    let same : s ≡ rest = cc in
    record { bytes_after = rw (← same) are; spelt = λ q. same; loosely = e; fit = tt; all = cc }
fields_read strict tag (f ∷ fs) others s r rest are e =
    let c = came (read_field strict f s) (λ v t. and_then (read_fields strict (suc tag) fs others t) λ q end. took (item tag v q) end) r rest e in
    let v = c.0 in
    let t = c.1 in
    let d = field-read strict f s v t are c.2 in
    let g = came (read_fields strict (suc tag) fs others t) (λ q end. took (item tag v q) end) r rest c.3 in
    let q = g.0 in
    let k = fields_read strict (suc tag) fs others t q g.1 d.bytes_after g.2 in
    let same : item tag v q ≡ r = cc g.3 in
    let end : g.1 ≡ rest = cc g.3 in
    let this : value tag r ≡ v = ap (value tag) (sym same) ∙ value-here tag v q in
    let others-of : fields_bytes (suc tag) fs r ≡ fields_bytes (suc tag) fs q = ap (fields_bytes (suc tag) fs) (sym same) ∙ bytes-later tag (suc tag) fs v q (omega arith) in
    record {
      bytes_after = rw (← end) k.bytes_after;
      spelt = λ h.
          d.spelt h
          ∙ ap (λ x. field_bytes f v ++ x) (k.spelt h)
          ∙ sym (append_assoc (field_bytes f v) (fields_bytes (suc tag) fs q) g.1)
          ∙ ap₂ (λ x y. x ++ y) (ap₂ (λ x y. field_bytes f x ++ y) (sym this) (sym others-of)) end;
      loosely = rw (d.loosely, k.loosely) g.3;
      fit =
          subst (AllFit tag (f ∷ fs)) same
          (subst (Fits f) (sym (value-here tag v q)) d.fits, fit_later tag (suc tag) fs v q (omega arith) k.fit);
      all =
          sym same
          ∙ ap (item tag v) k.all
          ∙ ap₂ (λ x y. item tag x y) (sym this) (sym (kept-later tag (suc tag) fs others v q (omega arith)) ∙ ap (kept (suc tag) fs others) same);
    }

-- 4. The table: a kind's message is found by its key, and the other way round

pub record Known (m : Message) : Type 0 where
  pub by_key : by_api_key m.key messages ≡ some m
  pub by_kind_lem : by_kind m.kind messages ≡ some m
  pub small : m.key < 4294967296

pub all_known : All Known messages
unfolding by_api_key by_kind messages kind_number
all_known = (record { by_key = refl; by_kind_lem = refl; small = omega arith }, (record { by_key = refl; by_kind_lem = refl; small = omega arith }, (record { by_key = refl; by_kind_lem = refl; small = omega arith }, (record { by_key = refl; by_kind_lem = refl; small = omega arith }, tt))))

pub key_in_lem : (n : ℕ) (ms : List Message) (m : Message) → by_api_key n ms ≡ some m → In m ms × (m.key ≡ n)
unfolding by_api_key
key_in_lem n [] m e = impossible cc
key_in_lem n (o ∷ ms) m e = go (eqb o.key n) refl e (key_in_lem n ms m)
  where
    go : (c : Bool) → eqb o.key n ≡ c → cond c (some o) (by_api_key n ms) ≡ some m → (by_api_key n ms ≡ some m → In m ms × (m.key ≡ n))
        → In m (o ∷ ms) × (m.key ≡ n)
    go true k q i = let s : m ≡ o = cc in (inl s, ap (λ (x : Message). x.key) s ∙ eqb-true o.key n k)
    go false k q i = (inr (i q).0, (i q).1)

pub kind_in_lem : (k : Kind) (ms : List Message) (m : Message) → by_kind k ms ≡ some m → In m ms × (m.kind ≡ k)
unfolding by_kind
kind_in_lem k [] m e = impossible cc
kind_in_lem k (o ∷ ms) m e = go (eqb (kind_number o.kind) (kind_number k)) refl e (kind_in_lem k ms m)
  where
    go : (c : Bool) → eqb (kind_number o.kind) (kind_number k) ≡ c → cond c (some o) (by_kind k ms) ≡ some m → (by_kind k ms ≡ some m → In m ms × (m.kind ≡ k))
        → In m (o ∷ ms) × (m.kind ≡ k)
    go true q e i = let s : m ≡ o = cc in (inl s, ap (λ (x : Message). x.kind) s ∙ is_kind o.kind k q)
    go false q e i = (inr (i e).0, (i e).1)

-- 5. "A written record reads back alike but for these two"

tagged_back : (strict : Bool) (x : Rec) (rest : Bytes) → read_tagged strict x (varint 0 ++ rest) ≡ took x rest
unfolding read_tagged skip_tagged
tagged_back strict x rest = rw (read_varint_lem strict 0 rest (omega arith)) (go strict)
  where
    go : (b : Bool) → and_then (tagged b 0 rest) (λ n s. took x s) ≡ took x rest
    go true = refl
    go false = refl

module _ (strict : Bool) (m : Message) (d : Known m) (r : Run) (rest : Bytes) (h : AllFit 1 m.forms r) where
  abbrev body : Bytes
  body = fields_bytes 1 m.forms r

  message_back : read_message strict m ((body ++ varint 0) ++ rest) ≡ took (rec m.kind (kept 1 m.forms m.others r)) rest
  unfolding read_message
  message_back =
      rw (append_assoc body (varint 0) rest, fields_back strict 1 m.forms m.others r (varint 0 ++ rest) h)
      (tagged_back strict (rec m.kind (kept 1 m.forms m.others r)) rest)

  version_back : read_version strict m ((varint 0 ++ (body ++ varint 0)) ++ rest) ≡ took (rec m.kind (kept 1 m.forms m.others r)) rest
  unfolding read_version
  version_back = rw (append_assoc (varint 0) (body ++ varint 0) rest, read_varint_lem strict 0 ((body ++ varint 0) ++ rest) (omega arith)) message_back

  key_back : read_key strict ((varint m.key ++ (varint 0 ++ (body ++ varint 0))) ++ rest) ≡ took (rec m.kind (kept 1 m.forms m.others r)) rest
  unfolding read_key
  key_back =
      rw (
        append_assoc (varint m.key) (varint 0 ++ (body ++ varint 0)) rest,
        read_varint_lem strict m.key ((varint 0 ++ (body ++ varint 0)) ++ rest) d.small,
        d.by_key,
      ) version_back

  pub read-written : read_kafka strict (kafka_bytes m r ++ rest) ≡ took (rec m.kind (kept 1 m.forms m.others r)) rest
  unfolding read_kafka kafka_bytes
  read-written =
      rw (
        append_assoc (varint 1) (varint m.key ++ (varint 0 ++ (body ++ varint 0))) rest,
        read_varint_lem strict 1 ((varint m.key ++ (varint 0 ++ (body ++ varint 0))) ++ rest) (omega arith),
      ) key_back

-- 6. "a read one with shortest varints and no tagged fields writes back to its bytes"

some_is : {A B : Type 0} (o : Option A) (n : ℕ) (f : A → Taken B) (b : B) (rest : Bytes) → given o (bad n) f ≡ took b rest
    → (a : A) × (o ≡ some a) × (f a ≡ took b rest)
some_is none n f b rest e = impossible cc
some_is (some a) n f b rest e = (a, refl, e)

no_tags : (count : ℕ) (s : Bytes) (n : ℕ) (rest : Bytes) → tagged true count s ≡ took n rest → (count ≡ 0) × (s ≡ rest) × (tagged false count s ≡ took 0 rest)
unfolding skip_tagged
no_tags zero s n rest e = let q : s ≡ rest = cc in (refl, q, ap (took 0) q)
no_tags (suc count) s n rest e = impossible cc

tagged-read : (x : Rec) (s : Bytes) (r : Rec) (rest : Bytes) → AreBytes s → read_tagged true x s ≡ took r rest
    → (x ≡ r) × (s ≡ varint 0 ++ rest) × (read_tagged false x s ≡ took r rest)
unfolding read_tagged
tagged-read x s r rest are e =
    let a = came (read_varint true s) (λ count t. and_then (tagged true count t) λ n u. took x u) r rest e in
    let d = varint-read true s a.0 a.1 are a.2 in
    let l = came (tagged true a.0 a.1) (λ n u. took x u) r rest a.3 in
    let t = no_tags a.0 a.1 l.0 l.1 l.2 in
    let same : x ≡ r = cc l.3 in
    let end : l.1 ≡ rest = cc l.3 in
    (same, d.2 refl ∙ ap₂ (λ n u. varint n ++ u) t.0 (t.1 ∙ end), rw (d.3, t.2) l.3)

message-read : (m : Message) (s : Bytes) (r : Rec) (rest : Bytes) → AreBytes s → read_message true m s ≡ took r rest
    → (m.kind ≡ r.kind) × (s ≡ (fields_bytes 1 m.forms r.run ++ varint 0) ++ rest) × (read_message false m s ≡ took r rest)
    × AllFit 1 m.forms r.run × (r.run ≡ kept 1 m.forms m.others r.run)
unfolding read_message
message-read m s r rest are e =
    let a = came (read_fields true 1 m.forms m.others s) (λ run t. read_tagged true (rec m.kind run) t) r rest e in
    let d = fields_read true 1 m.forms m.others s a.0 a.1 are a.2 in
    let t = tagged-read (rec m.kind a.0) a.1 r rest d.bytes_after a.3 in
    let run : a.0 ≡ r.run = ap (λ (x : Rec). x.run) t.0 in (
      ap (λ (x : Rec). x.kind) t.0,
      d.spelt refl ∙ ap₂ (λ x y. fields_bytes 1 m.forms x ++ y) run t.1 ∙ sym (append_assoc (fields_bytes 1 m.forms r.run) (varint 0) rest),
      rw d.loosely t.2,
      subst (AllFit 1 m.forms) run d.fit,
      sym run ∙ d.all ∙ ap (kept 1 m.forms m.others) run,
    )

version_read : (m : Message) (s : Bytes) (r : Rec) (rest : Bytes) → AreBytes s → read_version true m s ≡ took r rest
    → (m.kind ≡ r.kind) × (s ≡ (varint 0 ++ (fields_bytes 1 m.forms r.run ++ varint 0)) ++ rest) × (read_version false m s ≡ took r rest)
    × AllFit 1 m.forms r.run × (r.run ≡ kept 1 m.forms m.others r.run)
unfolding read_version
version_read m s r rest are e =
    let a = came (read_varint true s) (λ v t. cond (eqb v 0) (read_message true m t) (bad 4)) r rest e in
    let d = varint-read true s a.0 a.1 are a.2 in
    let b = passed (eqb a.0 0) 4 (read_message true m a.1) r rest a.3 in
    let t = message-read m a.1 r rest d.0 b.1 in
    let body : Bytes = fields_bytes 1 m.forms r.run ++ varint 0 in
    (t.0, d.2 refl ∙ ap₂ (λ x y. varint x ++ y) (eqb-true a.0 0 b.0) t.1 ∙ sym (append_assoc (varint 0) body rest), rw (d.3, b.0) t.2, t.3, t.4)

pub record Back (s : Bytes) (r : Rec) (rest : Bytes) : Type 0 where
  pub of : Message
  pub known : by_kind r.kind messages ≡ some of
  pub listed : In of messages
  pub kind_is : of.kind ≡ r.kind
  pub fit : AllFit 1 of.forms r.run
  pub all : r.run ≡ kept 1 of.forms of.others r.run
  pub bytes_are : s ≡ kafka_bytes of r.run ++ rest
  pub loosely : read_kafka false s ≡ took r rest

pub written_read : (s : Bytes) (r : Rec) (rest : Bytes) → AreBytes s → read_kafka true s ≡ took r rest → Back s r rest
unfolding read_kafka read_key kafka_bytes
written_read s r rest are e =
    let a = came (read_varint true s) (λ v t. cond (eqb v 1) (read_key true t) (bad 4)) r rest e in
    let d = varint-read true s a.0 a.1 are a.2 in
    let b = passed (eqb a.0 1) 4 (read_key true a.1) r rest a.3 in
    let c = came (read_varint true a.1) (λ key t. given (by_api_key key messages) (bad 3) (λ m. read_version true m t)) r rest b.1 in
    let f = varint-read true a.1 c.0 c.1 d.0 c.2 in
    let g = some_is (by_api_key c.0 messages) 3 (λ m. read_version true m c.1) r rest c.3 in
    let m = g.0 in
    let i = key_in_lem c.0 messages m g.1 in
    let k = in_all Known messages all_known m i.0 in
    let t = version_read m c.1 r rest f.0 g.2 in
    let body : Bytes = varint 0 ++ (fields_bytes 1 m.forms r.run ++ varint 0) in
    let inner : a.1 ≡ (varint m.key ++ body) ++ rest = f.2 refl ∙ ap₂ (λ x y. varint x ++ y) (sym i.1) t.1 ∙ sym (append_assoc (varint m.key) body rest) in
    record {
      of = m;
      known = ap (λ z. by_kind z messages) (sym t.0) ∙ k.by_kind_lem;
      listed = i.0;
      kind_is = t.0;
      fit = t.3;
      all = t.4;
      bytes_are = d.2 refl ∙ ap₂ (λ x y. varint x ++ y) (eqb-true a.0 1 b.0) inner ∙ sym (append_assoc (varint 1) (varint m.key ++ body) rest);
      loosely = rw (d.3, b.0, f.3, g.1) t.2;
    }
