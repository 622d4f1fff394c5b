-- The freezes of a list of names in one pass over the stored ones: 02's request 4, "Freeze of a whole job list", and what it claims of the
-- indexes and of the count. `crates/laws_freezes` proves the claims.
use Rattle.std.specs.Prelude.{ℕ, zero, suc, ◌+◌, ◌≤◌, ◌<◌, Bool, true, cond, ◌&&◌, not, List, [], ◌∷◌, ◌≡◌, eqb}
use Rattle.std.proofs.Math.Option.{Option, none, some}
use Rattle.model.specs.Choice.{given, every, joined}
use Rattle.model.specs.Number.{Bytes, AreBytes, bytes}
use Rattle.model.specs.Order.{Key, compare_bytes, compare_keys, same_bytes, is_below}
use Rattle.model.specs.Key.{rank, key_rank, key_name, key_scope}
use Rattle.model.specs.Map.{any, count, keep}
use Rattle.model.specs.Contents.{Entry, key, returned, record_key}
use Rattle.model.specs.Image.{is_image, contents_of}
use Rattle.model.specs.Names.{names_of, list_fault, listed}
use Rattle.model.specs.Lookup.{freeze, literal, prefixed}
use Rattle.model.specs.Reply.{Ended, unchanged, emit_bytes, also_says}
use Rattle.model.specs.declared.Kind.TheVariants.{TopicFreeze}

-- "up to 256 plans"
abbrev pub job_limit : ℕ
job_limit = 256

-- 1. "its freeze entry's index from 0 among the stored freezes in snapshot order, or hex FFFF for none": how many stored freezes are before it
abbrev pub is_freeze : Key → Bool
is_freeze k = eqb (key_rank k) (rank TopicFreeze)

unfoldable pub freeze_before : Key → Key → Bool
freeze_before k j = is_freeze j && is_below (compare_keys j k)

abbrev pub no_freeze : ℕ
no_freeze = 0xffff

-- "Each result is the single lookup's."
unfoldable pub freeze_index : List Entry → Bytes → ℕ
freeze_index l name = given (freeze name l) no_freeze (λ r. count key (freeze_before (record_key r)) l)

-- 2. "of each pattern, in order, those whose scope is not above the last name, and the next one if there is one"
unfoldable pub scope_above : Bytes → Bytes → Key → Bool
scope_above pattern last k = is_freeze k && same_bytes (key_name k) pattern && is_below (compare_bytes last (key_scope k))

unfoldable pub scope_up_to : Bytes → Bytes → Key → Bool
scope_up_to pattern last k = is_freeze k && same_bytes (key_name k) pattern && not (is_below (compare_bytes last (key_scope k)))

unfoldable pub pattern_read : Bytes → Bytes → List Entry → ℕ
pattern_read pattern last l = count key (scope_up_to pattern last) l + cond (any key (scope_above pattern last) l) 1 0

unfoldable pub last_name : List Bytes → Option Bytes
last_name [] = none
last_name (n ∷ []) = some n
last_name (n ∷ m ∷ ns) = last_name (m ∷ ns)

-- "An empty list reads nothing."
unfoldable pub freezes_read : List Bytes → List Entry → ℕ
freezes_read names l = given (last_name names) 0 (λ last. pattern_read literal last l + pattern_read prefixed last l)

-- 3. "Checks: 1, then each name's 2 (it runs past the input), 4 and 5 in list order, names out of order being 4, a 257th name 5 unread, then 19."
-- Accepted, it says the bytes written and then the freezes read.
abbrev pub answered : ℕ → List Bytes → List Entry → Bytes → Ended
answered zero names l out = also_says (freezes_read names l ∷ []) (emit_bytes (joined (λ n. bytes 2 (freeze_index l n)) names) out)
answered (suc n) names l out = unchanged (suc n) out

unfoldable pub freeze_list_of : Bytes → Bytes → Bytes → Ended
freeze_list_of image list out =
    let names = names_of true job_limit list in
    cond (is_image image) (answered (list_fault names) (listed names) (contents_of image).real out) (unchanged 1 out)

-- 4. The claims

abbrev pub stored_freezes : List Entry → List Entry
stored_freezes l = keep key is_freeze l

unfoldable pub element_at : ℕ → List Entry → Option Entry
element_at n [] = none
element_at zero (e ∷ l) = some e
element_at (suc n) (e ∷ l) = element_at n l

-- the entry at a freeze's index is that of the single lookup
abbrev pub IndexNamesFreeze : Type 0
IndexNamesFreeze =
    (image : Bytes) → AreBytes image → is_image image ≡ true → (name : Bytes) →
    let l = (contents_of image).real in
    freeze name l ≡ given (element_at (freeze_index l name) (stored_freezes l)) none (λ e. some (returned e))

-- no index is hex FFFF, so that it tells a name without a freeze
abbrev pub IndexesApart : Type 0
IndexesApart =
    (image : Bytes) → AreBytes image → is_image image ≡ true → count key is_freeze (contents_of image).real < no_freeze

-- "at most once each, so never above their number, for 256 names as for one"
abbrev pub ReadAtMostOnce : Type 0
ReadAtMostOnce = (names : List Bytes) (l : List Entry) → freezes_read names l ≤ count key is_freeze l

-- no freeze above the last name
unfoldable pub within_reach : Bytes → Key → Bool
within_reach last k = not (is_freeze k && is_below (compare_bytes last (key_scope k)))

-- what is not read changes no answer: with the freezes above the last name taken out, each name of a list has the freeze that it had
abbrev pub UnreadUnseen : Type 0
UnreadUnseen =
    (image : Bytes) → AreBytes image → is_image image ≡ true → (list last : Bytes) →
    let names = names_of true job_limit list in
    let l = (contents_of image).real in
    list_fault names ≡ 0 → last_name (listed names) ≡ some last →
    every (λ name. not (is_below (compare_bytes last name))) (listed names) ≡ true ×
    ((name : Bytes) → not (is_below (compare_bytes last name)) ≡ true → freeze name (keep key (within_reach last) l) ≡ freeze name l)
