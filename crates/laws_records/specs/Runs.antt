-- Fields and the bytes that spell them undo each other.
use Rattle.std.specs.Prelude.{◌≡◌, refl, [], ◌∷◌, ◌++◌, Bool, true, false, cond, ℕ, zero, suc, ◌+◌, ◌*◌, ◌≤◌, ◌<◌, leb, length, take, drop}
use Rattle.std.proofs.Common.{sym, ap, ◌∙◌, append_assoc, not-suc-le-zero, le_of_suc-le-suc, arith, le-leb, leb-true, length-append, length-take-le}
use Rattle.std.proofs.Math.Seq.{take-append_seam, drop-append_seam}
use Rattle.model.specs.Number.{Bytes, AreBytes, bytes}
use Rattle.model.specs.Run.{Run, done, torn, item, parse, run_of, bytes_of}
use Rattle.laws.specs.Numbers.{append_are_bytes, take_are_bytes}
use Rattle.laws_records.specs.Halves.{join_halves, split_halves}

-- no field is cut short
abbrev pub Whole : Run → Type 0
Whole done = Unit {0}
Whole torn = ⊥
Whole (item t v r) = Whole r

-- each value's length fits two bytes
abbrev pub Short : Run → Type 0
Short done = Unit {0}
Short torn = Unit {0}
Short (item t v r) = (length v < 65536) × Short r

pub parse_skip : (k : ℕ) (s : Bytes) → k ≤ length s → parse k s ≡ run_of (drop k s)
unfolding parse
parse_skip zero s h = refl
parse_skip (suc k) [] h = absurd (not-suc-le-zero h)
parse_skip (suc k) (x ∷ s) h = parse_skip k s (le_of_suc-le-suc h)

-- bytes that spell whole fields are those fields' bytes
cond_whole : (b : Bool) (r : Run) → Whole (cond b r torn) → (b ≡ true) × Whole r
cond_whole true r w = (refl, w)
cond_whole false r w = absurd w

bytes-parse : (k : ℕ) (s : Bytes) → AreBytes s → k ≤ length s → Whole (parse k s) → take k s ++ bytes_of (parse k s) ≡ s
unfolding parse bytes_of
bytes-parse zero [] p q w = refl
bytes-parse zero (t ∷ []) p q w = absurd w
bytes-parse zero (t ∷ h ∷ []) p q w = absurd w
bytes-parse zero (t ∷ h ∷ l ∷ s) p q w =
    let n : ℕ = h * 256 + l in
    let i = cond_whole (leb n (length s)) (item t (take n s) (parse n s)) w in
    let k = leb-true n (length s) i.0 in
    let o = bytes-parse n s p.1.1.1 k i.1 in
    let e : bytes 2 n ≡ h ∷ l ∷ [] = split_halves h l p.1.0 p.1.1.0 in
    rw (i.0, length-take-le n s k) (ap (λ (z : Bytes). t ∷ z ++ take n s ++ bytes_of (parse n s)) e ∙ ap (λ (z : Bytes). t ∷ h ∷ l ∷ z) o)
bytes-parse (suc k) [] p q w = absurd (not-suc-le-zero q)
bytes-parse (suc k) (x ∷ s) p q w = ap (λ (z : Bytes). x ∷ z) (bytes-parse k s p.1 (le_of_suc-le-suc q) w)

pub bytes_run : (s : Bytes) → AreBytes s → Whole (run_of s) → bytes_of (run_of s) ≡ s
bytes_run s p w = bytes-parse 0 s p (omega arith) w

-- fields that are whole and short are what their bytes spell
pub run-bytes : (r : Run) → Whole r → Short r → run_of (bytes_of r) ≡ r
unfolding parse bytes_of
run-bytes done w h = refl
run-bytes torn w h = absurd w
run-bytes (item t v r) w h =
    let n : ℕ = length v in
    let b = bytes_of r in
    let k : n ≤ length (v ++ b) = rw length-append (omega arith) in
    rw (join_halves n h.0, le-leb _ _ k, take-append_seam v b, parse_skip n (v ++ b) k, drop-append_seam v b, run-bytes r w h.1)

-- bytes that spell whole fields are as many as the fields' bytes, bytes or not
length-parse : (k : ℕ) (s : Bytes) → k ≤ length s → Whole (parse k s) → k + length (bytes_of (parse k s)) ≡ length s
unfolding parse bytes_of
length-parse zero [] q w = refl
length-parse zero (t ∷ []) q w = absurd w
length-parse zero (t ∷ h ∷ []) q w = absurd w
length-parse zero (t ∷ h ∷ l ∷ s) q w =
    let n : ℕ = h * 256 + l in
    let i = cond_whole (leb n (length s)) (item t (take n s) (parse n s)) w in
    let k = leb-true n (length s) i.0 in
    let o = length-parse n s k i.1 in
    rw (i.0, length-append (take n s) (bytes_of (parse n s)), length-take-le n s k) (omega arith)
length-parse (suc k) [] q w = absurd (not-suc-le-zero q)
length-parse (suc k) (x ∷ s) q w = let o = length-parse k s (le_of_suc-le-suc q) w in omega arith

pub length_run : (s : Bytes) → Whole (run_of s) → length (bytes_of (run_of s)) ≡ length s
length_run s w = let o = length-parse 0 s (omega arith) w in omega arith

pub length_item : (t : ℕ) (v : Bytes) (r : Run) → length (bytes_of (item t v r)) ≡ 3 + (length v + length (bytes_of r))
unfolding bytes_of
length_item t v r = let o = length-append v (bytes_of r) in omega arith

-- where all the bytes fit a length of two bytes, each value does
-- more bytes after the last field's
pub item_append : (tag : ℕ) (v : Bytes) (r longer : Run) (x : Bytes) → bytes_of longer ≡ bytes_of r ++ x → bytes_of (item tag v longer) ≡ bytes_of (item tag v r) ++ x
unfolding bytes_of
item_append tag v r longer x e =
    ap (λ s. tag ∷ (bytes 2 (length v) ++ v ++ s)) e ∙ ap (λ s. tag ∷ s) (sym (append_assoc (bytes 2 (length v) ++ v) (bytes_of r) x))

pub short-bytes : (r : Run) → length (bytes_of r) < 65536 → Short r
short-bytes done h = tt
short-bytes torn h = tt
short-bytes (item t v r) h = let o = length_item t v r in (omega arith, short-bytes r (omega arith))

-- runs with the same bytes are the same
pub bytes_injective : (a b : Run) → Whole a → Short a → Whole b → Short b → bytes_of a ≡ bytes_of b → a ≡ b
bytes_injective a b wa sa wb sb e = sym (run-bytes a wa sa) ∙ ap run_of e ∙ run-bytes b wb sb

-- tags and values are bytes
abbrev pub AreFields : Run → Type 0
AreFields done = Unit {0}
AreFields torn = Unit {0}
AreFields (item t v r) = (t < 256) × AreBytes v × AreFields r

fields-parse : (k : ℕ) (s : Bytes) → AreBytes s → AreFields (parse k s)
unfolding parse
fields-parse zero [] p = tt
fields-parse zero (t ∷ []) p = tt
fields-parse zero (t ∷ h ∷ []) p = tt
fields-parse zero (t ∷ h ∷ l ∷ s) p = go (leb (h * 256 + l) (length s)) (fields-parse (h * 256 + l) s p.1.1.1)
  where
    go : (b : Bool) → AreFields (parse (h * 256 + l) s) → AreFields (cond b (item t (take (h * 256 + l) s) (parse (h * 256 + l) s)) torn)
    go true i = (p.0, take_are_bytes (h * 256 + l) s p.1.1.1, i)
    go false i = tt
fields-parse (suc k) [] p = tt
fields-parse (suc k) (x ∷ s) p = fields-parse k s p.1

pub fields-run : (s : Bytes) → AreBytes s → AreFields (run_of s)
fields-run s p = fields-parse 0 s p

pub run-fields : (r : Run) → AreFields r → AreBytes (bytes_of r)
unfolding bytes_of
run-fields done p = tt
run-fields torn p = tt
run-fields (item t v r) p =
    let n : ℕ = length v in
    (p.0, (omega arith, (omega arith, append_are_bytes v (bytes_of r) p.1 (run-fields r p.2))))
