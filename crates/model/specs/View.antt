-- A viewer's part of an image: 02's request 10, "A dealer sees its own plans", and what it claims. `crates/laws_view` proves the claims.
use Rattle.std.specs.Prelude.{◌≡◌, ℕ, Bool, true, false, cond, ◌&&◌, ◌||◌, List, [], ◌∷◌, map}
use Rattle.std.proofs.Math.Option.{Option, none}
use Rattle.model.specs.Choice.{given, or_then, unless}
use Rattle.model.specs.Number.{Bytes, bytes}
use Rattle.model.specs.Order.{Key, same_bytes}
use Rattle.model.specs.Shape.{string_limit, text_fault}
use Rattle.model.specs.Record.{Rec}
use Rattle.model.specs.Key.{topic_key, partition_key, freeze_key, key_name, key_scope, topic_of}
use Rattle.model.specs.Map.{get, keep}
use Rattle.model.specs.Contents.{Entry, returned, key}
use Rattle.model.specs.Image.{is_image, contents_of}
use Rattle.model.specs.Names.{names_of, list_fault, listed}
use Rattle.model.specs.Lookup.{found, named, begins_with, literal, freeze_by, returned_at, as_list, freeze_of}
use Rattle.model.specs.FreezeList.{is_freeze}
use Rattle.model.specs.Reply.{Ended}
use Rattle.model.specs.declared.Kind.TheVariants.{Partition}

-- 1. Prefixes

-- "A viewer has up to 8 name prefixes."
abbrev pub prefix_limit : ℕ
prefix_limit = 8

-- "in Point 4's form, sorted or not"
abbrev pub prefixes_in : Bytes → List Bytes
prefixes_in list = listed (names_of false prefix_limit list)

-- "each prefix's 2, 4 and 5 in list order, .. (a ninth is 5 unread)"
abbrev pub prefix_fault : Bytes → ℕ
prefix_fault list = list_fault (names_of false prefix_limit list)

-- "A topic is visible if its name begins with one; an empty prefix shows all, no prefixes show nothing."
unfoldable pub visible : List Bytes → Bytes → Bool
visible [] name = false
visible (p ∷ ps) name = begins_with p name || visible ps name

-- 2. What a viewer gets

-- "the Topic, Partition, offset, ELR, recovery and topic config records under visible names, the topic stored or not": these six groups have a
-- topic, whose name is in the key
unfoldable pub is_seen : List Bytes → Key → Bool
is_seen ps k = given (topic_of k) false (visible ps)

-- "a snapshot of [these], without kind 26"
unfoldable pub view_records : List Bytes → List Entry → List Rec
view_records ps l = map returned (keep key (is_seen ps) l)

-- "prefixed ones whose scope begins with a viewer prefix or is the beginning of one"
unfoldable pub touches : List Bytes → Bytes → Bool
touches [] scope = false
touches (p ∷ ps) scope = begins_with p scope || begins_with scope p || touches ps scope

-- "The freezes that count are literal ones with a visible scope, and prefixed ones [as above]."
unfoldable pub scope_counts : List Bytes → Bytes → Bytes → Bool
scope_counts ps pattern scope = cond (same_bytes pattern literal) (visible ps scope) (touches ps scope)

-- a name's freeze among those that count
unfoldable pub view_freeze : List Bytes → Bytes → List Entry → Option Rec
view_freeze ps name l = freeze_by (λ pattern scope. cond (scope_counts ps pattern scope) (returned_at (freeze_key pattern scope) l) none) name

-- 3. "Checks: 1; each prefix's 2, 4 and 5 ..; the queried name's 4, then 5; 25, name not visible, existing or not; 19."

unfoldable pub viewer_fault : Bytes → Bytes → ℕ
viewer_fault image list = or_then (unless (is_image image) 1) (prefix_fault list)

unfoldable pub query_fault : Bytes → Bytes → Bytes → ℕ
query_fault image list name =
    or_then (viewer_fault image list) (or_then (text_fault string_limit name) (unless (visible (prefixes_in list) name) 25))

unfoldable pub view_snapshot_of : Bytes → Bytes → Bytes → Ended
view_snapshot_of image list out = named (viewer_fault image list) (view_records (prefixes_in list) (contents_of image).real) out

-- "plus topic and partition lookups and freezes by visible name"
unfoldable pub view_topic_of : Bytes → Bytes → Bytes → Bytes → Ended
view_topic_of image list name out = named (query_fault image list name) (found (get key (topic_key name) (contents_of image).real)) out

unfoldable pub view_partition_of : Bytes → Bytes → Bytes → ℕ → Bytes → Ended
view_partition_of image list name n out =
    named (query_fault image list name) (found (get key (partition_key Partition name (bytes 4 n)) (contents_of image).real)) out

unfoldable pub view_freeze_of : Bytes → Bytes → Bytes → Bytes → Ended
view_freeze_of image list name out = named (query_fault image list name) (as_list (view_freeze (prefixes_in list) name (contents_of image).real)) out

pub data Query : Type 0 where
  whole : Query
  topic : Bytes → Query
  partition : Bytes → ℕ → Query
  freeze : Bytes → Query

-- what a viewer of some prefixes gets of an image: of all of it, or of what a query names
unfoldable pub view_of : Query → Bytes → Bytes → Bytes → Ended
view_of whole image list out = view_snapshot_of image list out
view_of (topic name) image list out = view_topic_of image list name out
view_of (partition name n) image list out = view_partition_of image list name n out
view_of (freeze name) image list out = view_freeze_of image list name out

-- 4. "Two images that agree on these entries give the viewer, for the same prefixes, query and output buffer, equal bytes, numbers and refusals."

unfoldable pub freeze_counts : List Bytes → Key → Bool
freeze_counts ps k = is_freeze k && scope_counts ps (key_name k) (key_scope k)

-- these entries, each as the record that it is returned as: a topic's says its id, count and factor, and not whether the id index names it
unfoldable pub counts : List Bytes → Key → Bool
counts ps k = is_seen ps k || freeze_counts ps k

unfoldable pub counted : List Bytes → Bytes → List Rec
counted ps image = map returned (keep key (counts ps) (contents_of image).real)

-- Their capacities, and all else that they hold, may differ. Of a list that is refused there are no prefixes to agree on.
abbrev pub NothingElseSeen : Type 0
NothingElseSeen =
    (a b : Bytes) → is_image a ≡ true → is_image b ≡ true → (list : Bytes) →
    (prefix_fault list ≡ 0 → counted (prefixes_in list) a ≡ counted (prefixes_in list) b) →
    (q : Query) (out : Bytes) → view_of q a list out ≡ view_of q b list out

-- 5. The freezes that do not count change no answer: of a name that is not refused the viewer has everyone's freeze

abbrev pub FreezeOfVisible : Type 0
FreezeOfVisible = (image list name out : Bytes) → query_fault image list name ≡ 0 → view_freeze_of image list name out ≡ freeze_of image name out
